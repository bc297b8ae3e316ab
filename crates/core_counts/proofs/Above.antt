-- At most one of several parts whose lines are apart is above a shard.
use Rattle.std.proofs.{Common.{◌≡◌, ◌∙◌, ℕ, ◌+◌, ◌<◌, ◌≤◌, List, [], ◌∷◌, length, map, Bool, true, false, All, eqb, refl, sym, ap, inl, inr, arith}, lemmas.Bool.{eqb-true, eqb-false, false≢true}, lemmas.List.Elements.{All-head, All-tail}}
use Rattle.list_words.proofs.{Times.{same_is, same_not}, Truth.on_bool}
use Rattle.list_words.specs.Counts.{times}
use Rattle.query_router.specs.declared.part.Part.{Part}
use Rattle.row_ledger.proofs.Descent.{comes_from-comparable, comes_from-self}
use Rattle.row_ledger.specs.{Right.{EachEvent, Site, Stands}, Shards.{comes_from, ids_made}, declared.event.Event.Event, declared.event.Event.TheVariants.{Moved, Split}}
use Rattle.core_shard.proofs.FarLess.{once}
use Rattle.core_shard.specs.volap_cell.specs.{Desking.{AreLinesApart, AreUnrelated}, Falls.{count_events}}

-- how many parts are above a shard
abbrev pub above : List Event → List Part → ℕ → ℕ
above h [] z = 0
above h (p ∷ parts) z = once (comes_from h p.shard z) + above h parts z

pub once-most : (b : Bool) → once b ≤ 1
once-most true = omega arith
once-most false = omega arith

module _ (site : Site) (usable : ℕ → Bool) (h : List Event) (each : EachEvent (Stands site usable) h) (z : ℕ) (made : z < ids_made site.workers h) where
  none-above : (p : Part) (parts : List Part) → All (AreUnrelated h p) parts → comes_from h p.shard z ≡ true → above h parts z ≡ 0
  none-above p [] apart is = refl
  none-above p (q ∷ parts) apart is =
      let unrelated = All-head (AreUnrelated h p) q parts apart in
      on_bool (comes_from h q.shard z)
      (λ t. elim (comes_from-comparable site usable h p.shard q.shard z each made is t) [
        | inl comes ↦ absurd (false≢true (sym unrelated.0 ∙ comes))
        | inr comes ↦ absurd (false≢true (sym unrelated.1 ∙ comes))
      ])
      (λ t. let rest = none-above p parts (All-tail (AreUnrelated h p) q parts apart) is in rw t (omega (arith, rest)))

  pub one-above : (parts : List Part) → AreLinesApart h parts → above h parts z ≤ 1
  one-above [] apart = omega arith
  one-above (p ∷ parts) apart = on_bool (comes_from h p.shard z)
      (λ t. let none = none-above p parts apart.0 t in rw t (omega (arith, none)))
      (λ t. let rest = one-above parts apart.1 in rw t (omega (arith, rest)))

-- a part is above its own shard
pub shards-above : (h : List Event) (parts : List Part) (z : ℕ) → times z (map (λ (p : Part). p.shard) parts) ≤ above h parts z
shards-above h [] z = omega arith
shards-above h (p ∷ parts) z =
    let rest = shards-above h parts z in
    on_bool (eqb z p.shard)
    (λ t.
    let is = eqb-true z p.shard t in
    let one = same_is z p.shard is in
    let own : comes_from h p.shard z ≡ true = ap (comes_from h p.shard) is ∙ comes_from-self h p.shard in
    rw own (omega (arith, rest, one)))
    (λ t. let none = same_not z p.shard (eqb-false z p.shard t) in omega (arith, rest, none))

-- Counts over all parts.

-- how many parts an event at a position passes the test of
abbrev pub total : (Part → Event → ℕ → Bool) → List Part → Event → ℕ → ℕ
total test [] e p = 0
total test (x ∷ parts) e p = once (test x e p) + total test parts e p

-- how many events do, over all parts
abbrev pub totals : (Part → Event → ℕ → Bool) → List Part → List Event → ℕ
totals test [] h = 0
totals test (x ∷ parts) h = count_events (test x) h + totals test parts h

-- P holds of each event and its position
abbrev pub EachPlace : (Event → ℕ → Type 0) → List Event → Type 0
EachPlace P [] = Unit {0}
EachPlace P (e ∷ past) = P e (length past) × EachPlace P past

totals-cons : (test : Part → Event → ℕ → Bool) (parts : List Part) (e : Event) (past : List Event) → totals test parts (e ∷ past) ≡ total test parts e (length past) + totals test parts past
totals-cons test [] e past = refl
totals-cons test (x ∷ parts) e past = (let rest = totals-cons test parts e past in omega (arith, rest))

totals-none : (test : Part → Event → ℕ → Bool) (parts : List Part) → totals test parts [] ≡ 0
totals-none test [] = refl
totals-none test (x ∷ parts) = (let rest = totals-none test parts in omega (arith, rest))

pub totals-most : (test : Part → Event → ℕ → Bool) (parts : List Part) (any : Event → Bool) (h : List Event) → EachPlace (λ e p. total test parts e p ≤ once (any e)) h → totals test parts h ≤ count_events (λ e p. any e) h
totals-most test parts any [] each = (let none = totals-none test parts in omega (arith, none))
totals-most test parts any (e ∷ past) each =
    let all = totals-cons test parts e past in
    let rest = totals-most test parts any past each.1 in
    let here = each.0 in
    omega (arith, all, rest, here)

-- The shards that events name.

-- it was made
abbrev pub NamesMade : ℕ → Event → Type 0
NamesMade n (Split of shard left right) = shard < n
NamesMade n (Moved of shard worker) = shard < n
NamesMade n _ = Unit {0}
