-- What is due for actors at parts, and whether a block is free.
use Rattle.std.proofs.{Common.{◌≡◌, ℕ, zero, suc, ◌<◌, ◌⊎◌, inl, inr, Bool, true, false, Option, Some, None, refl, ap, ◌∙◌, arith, not}, lemmas.Bool.ne_eqb, lemmas.Grind.common_steps}
use Rattle.std.specs.{Option.option_map_or, Prelude.{◌==◌, ◌&&◌, ◌||◌, is_some}}
use Rattle.mapping_table.specs.declared.place.Where.{Where}
use Rattle.mapping_table.specs.declared.place.Where.TheVariants as where_is
use Rattle.core_pages.specs.volap_cell.specs.{Errands.{IsCarried, RowWay, block_at, way_of}, Setting.actor_count, Values.{ActorValue, TaskValue, OfRow, Unread, Read}, World.World, declared.errand.Way.Way, declared.kind.Kind.Kind}
use Rattle.core_pages.specs.volap_cell.specs.declared.errand.Way.TheVariants as way
use Rattle.core_due.specs.{Due.{all_below, kind_by, led_to, row_kind, task_kind}, Wants.is_carried_at}
use Rattle.seeded_run.specs.{Due.{actor_kind, is_alone}, Laws.{FreeLaw, AtPartLaw}}

-- Parts.

by-some : (led : Option Where) (at_gate : ℕ → Kind) → is_some led ≡ true → (k : Kind) × (kind_by led at_gate ≡ Some k)
by-some None at_gate e = cc
by-some (Some (where_is.Gate gate)) at_gate e = (_, refl)
by-some (Some (where_is.Split plane left right)) at_gate e = (_, refl)
by-some (Some (where_is.Moved to)) at_gate e = (_, refl)

row-some : (w : World) (led : Option Where) (a : ActorValue) (on : Way) → is_some led ≡ true → (k : Kind) × (row_kind w led a on ≡ Some k)
row-some w led a (way.Before height filled) e = by-some led _ e
row-some w led a (way.Carried gate block) e = (_, refl)
row-some w led a (way.Put gate) e = (_, refl)
row-some w led a way.Placed e = (_, refl)

task-some : (w : World) (led : Option Where) (a : ActorValue) (task : TaskValue) → is_some led ≡ true → (k : Kind) × (task_kind w led a task ≡ Some k)
task-some w led a (OfRow r) e = row-some w led a r.way e
task-some w led a (Unread f) e = by-some led _ e
task-some w led a (Read r) e = (_, refl)

pub at-part-law : AtPartLaw
at-part-law s w rest n e at known =
    let k = task-some w (led_to s w e) (w.actors n) e.task known in
    (k.0, ap (actor_kind s w (is_alone s w rest n) (rest n) (w.actors n)) at ∙ k.1)

-- Blocks.

and-first : (a b : Bool) → (a && b) ≡ true → a ≡ true
and-first true b e = refl
and-first false b e = cc

and-second : (a b : Bool) → (a && b) ≡ true → b ≡ true
and-second true b e = e
and-second false b e = cc

below-or-at : (a n : ℕ) → a < suc n → (a < n) ⊎ (a ≡ n)
below-or-at a n h = grind arith

-- what passes for all numbers below one passes for each
pub all_below-at : (n : ℕ) (test : ℕ → Bool) (a : ℕ) → all_below n test ≡ true → a < n → test a ≡ true
all_below-at zero test a all low = absurd (omega arith)
all_below-at (suc n) test a all low =
    elim (below-or-at a n low) [
      | inl below ↦ all_below-at n test a (and-second (test n) (all_below n test) all) below
      | inr at ↦ ap test at ∙ and-first (test n) (all_below n test) all
    ]

other : (same at : Bool) → (same || not at) ≡ true → same ≡ false → at ≡ false
other same true e is = cc
other same false e is = refl

same-block : (at : Option ℕ) (y : ℕ) → option_map_or (λ block. block == y) at false ≡ false → at ≡ Some y → ⊥
same-block None y e at = cc
same-block (Some block) y e at = let is : block ≡ y = cc in grind (arith, common_steps)

nowhere : (y : ℕ) (carried : Option RowWay) → is_carried_at y carried ≡ false → ¬ IsCarried carried y
nowhere y None e at = at
nowhere y (Some r) e at = same-block (block_at r.place) y e at

pub free-law : FreeLaw
free-law s w n y free a low differs keeps =
    nowhere y (way_of (w.actors a).errand) (other (a == n) (is_carried_at y (way_of (w.actors a).errand)) (all_below-at (actor_count s) _ a free low) (ne_eqb a n differs)) keeps
