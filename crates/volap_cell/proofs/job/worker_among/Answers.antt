use Rattle.std.proofs.{Common.{◌≡◌, ◌∙◌, ◌==◌, ◌||◌, ℕ, Bool, List, [], ◌∷◌, Option, option_map, refl, sym, ap, subst, true, unwrap_or}, lemmas.Bool.false≢true}
use Rattle.std.specs.{List.list_any, Prelude.{IsSome, find}}
use Rattle.shard_plan.specs.declared.action.Load.{Load}
use Rattle.list_words.proofs.Truth.{on_bool}
use Rattle.volap_cell.specs.Planning.{has_load}
use Rattle.volap_cell.proofs.job.worker_among.Goals as goal

-- a load of the shard is found
found : (loads : List Load) (x : ℕ) → has_load loads x ≡ true → IsSome (find (λ (l : Load). l.shard == x) loads)
found [] x has = absurd (false≢true has)
found (l ∷ loads) x has = on_bool (l.shard == x)
    (λ q. rw q refl)
    (λ q. rw q (found loads x (sym (ap (λ (b : Bool). b || list_any (λ (z : Load). z.shard == x) loads) q) ∙ has)))

pub unwrap-requires : goal.unwrap-requires
unwrap-requires c = subst IsSome (sym c.load_of.ensures) (found c.args.standing.now c.args.shard c.requires)

pub returns : goal.returns
returns c = ap (λ (o : Option Load). unwrap_or (option_map (λ (l : Load). l.worker) o) 0) (sym c.unwrap.ensures ∙ c.load_of.ensures)
