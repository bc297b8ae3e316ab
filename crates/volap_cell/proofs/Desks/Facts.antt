-- What the invariant gives of a part on a desk: the command that it is of, and that no other part there is of its shard.
use Rattle.std.proofs.{Common.{◌≡◌, ◌≢◌, ℕ, ◌<◌, List, ◌∷◌, ◌++◌, true, Some, refl, sym, ap, subst, ◌∙◌, ◌⊎◌, inl, inr, ◌==◌, ◌&&◌, Contains, eqb-true}, lemmas.Bool.{and_parts, false≢true}}
use Rattle.query_router.specs.{Desk.{is_taken, is_with}, declared.part.Part.Part}
use Rattle.row_ledger.specs.{Past.{Insert, Query, insert_at, query_at}, Shards.comes_from}
use Rattle.row_ledger.proofs.Descent.{comes_from-self}
use Rattle.list_words.proofs.Elements.{Contains-nil}
use Rattle.volap_cell.specs.{Desking.{AreLinesApart, IsAtPart, is_on_desk}, Errands.Taken, Ghost.Ghost, Invariant.InvWith, Setting.Setting, View.View, declared.command.Command.Command, declared.command.Work.Work, declared.role.Role.TheVariants.Session}
use Rattle.volap_cell.specs.declared.command.Work.TheVariants as work_is
use Rattle.volap_cell.proofs.{Desks.Lists.{alone, apart-others, some-of, was-cases}, Histories.Beginnings.no-query}

-- the parts of a part that is with a worker
pub with-parts : (shard worker : ℕ) (p : Part) → is_with shard worker p ≡ true → (p.shard ≡ shard) × (p.worker ≡ worker) × (is_taken p ≡ true)
with-parts shard worker p is =
    let outer = and_parts ((p.shard == shard) && (p.worker == worker)) (is_taken p) is in
    let inner = and_parts (p.shard == shard) (p.worker == worker) outer.0 in
    (eqb-true p.shard shard inner.0, eqb-true p.worker worker inner.1, outer.1)

module _ (s : Setting) (v : View) (g : Ghost) (i : InvWith s v g) where
  -- a command on a desk is an insert or a query of that server

  abbrev pub IsInsertHere : ℕ → ℕ → Type 0
  IsInsertHere server of = (x : Insert) × (insert_at v.history of ≡ Some x) × (x.server ≡ server) × (x.row.no ≡ of)

  abbrev pub IsQueryHere : ℕ → ℕ → Type 0
  IsQueryHere server of = (q : Query) × (query_at v.history of ≡ Some q) × (q.server ≡ server)

  pub on-desk : (server of : ℕ) → server < s.servers → (v.desks server).op ≡ Some of → IsInsertHere server of ⊎ IsQueryHere server of
  on-desk server of within op =
      let (a, c, has, is, serves, on) = i.desking.whose server of within op in
      go a c has is serves c.work refl on
    where
      go : (a : ℕ) (c : Command) → v.commands a ≡ Some c → c.of ≡ of → v.roles a ≡ Session server → (work : Work) → c.work ≡ work → is_on_desk c.work ≡ true → IsInsertHere server of ⊎ IsQueryHere server of
      go a c has is serves (work_is.Insert row routed) same on =
          let progress = i.telling.progress a (record { of = of; work = work_is.Insert row routed }) (has ∙ (λ k. Some (record { of = is k; work = same k }))) in
          let roles : Session progress.0 ≡ Session server = sym progress.1 ∙ serves in
          let servers : progress.0 ≡ server = cc in
          inl (record { server = progress.0; row = row }, progress.2, servers, progress.3)
      go a c has is serves work_is.Query same on =
          let progress = i.telling.progress a (record { of = of; work = work_is.Query }) (has ∙ (λ k. Some (record { of = is k; work = same k }))) in
          let roles : Session progress.0.server ≡ Session server = sym progress.1 ∙ serves in
          let servers : progress.0.server ≡ server = cc in
          inr (progress.0, progress.2, servers)
      go a c has is serves _ same on = absurd (false≢true (sym (ap is_on_desk same) ∙ on))

  -- an insert stands on the desk of its own server alone
  pub insert-server : (server of : ℕ) (x : Insert) → server < s.servers → (v.desks server).op ≡ Some of → insert_at v.history of ≡ Some x → x.server ≡ server
  insert-server server of x within op is = elim (on-desk server of within op) [
    | inl here ↦ (let same : Some here.0 ≡ Some x = sym here.1 ∙ is in let it : here.0 ≡ x = cc in ap (λ (y : Insert). y.server) (sym it) ∙ here.2)
    | inr here ↦ absurd (no-query v.history of x here.0 is here.1)
  ]

  -- no other part is of the shard of one
  pub others-apart : (server of : ℕ) → server < s.servers → (v.desks server).op ≡ Some of → (before behind : List Part) (old : Part) → (v.desks server).parts ≡ before ++ old ∷ behind
      → (p : Part) → Contains (before ++ behind) p → p.shard ≢ old.shard
  others-apart server of within op before behind old parts p has same = elim (on-desk server of within op) [
    | inl here ↦
        let one = i.desking.insert server of here.0 within op here.1 in
        let none = alone before behind old one.0 (sym parts ∙ one.1) in
        Contains-nil p (subst (λ (xs : List Part). Contains xs p) (λ k. none.1 k ++ none.2 k) has)
    | inr here ↦
        let apart = (i.desking.query server of here.0 within op here.1).1 in
        let unrelated = apart-others v.history before behind old (subst (AreLinesApart v.history) parts apart) p has in
        false≢true (sym unrelated.0 ∙ ap (λ (x : ℕ). comes_from v.history old.shard x) same ∙ comes_from-self v.history old.shard)
  ]

  -- the part of another actor is another one
  pub others-part : (server : ℕ) (before behind : List Part) (old : Part) → (v.desks server).parts ≡ before ++ old ∷ behind → (t : Taken) → t.server ≡ server → ((is_taken old ≡ true) → (t.shard ≡ old.shard) → (t.worker ≡ old.worker) → ⊥)
      → (at : IsAtPart s v.history v.desks t) → (p : Part) × Contains (before ++ behind) p × (is_with t.shard t.worker p ≡ true)
  others-part server before behind old parts t is other at =
      let (p, has, with) = some-of (λ (x : Part). is_with t.shard t.worker x ≡ true) (v.desks t.server).parts at.part in
      elim (was-cases before behind old p (subst (λ (xs : List Part). Contains xs p) (ap (λ (y : ℕ). (v.desks y).parts) is ∙ parts) has)) [
        | inl it ↦
            let w = with-parts t.shard t.worker p with in
            absurd (other (ap is_taken it ∙ w.2) (sym w.0 ∙ ap (λ (x : Part). x.shard) (sym it)) (sym w.1 ∙ ap (λ (x : Part). x.worker) (sym it)))
        | inr rest ↦ (p, rest, with)
      ]
