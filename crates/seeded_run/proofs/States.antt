-- States that one thread holds: a script's core is one; where a step found no memory it is the same one still, and what is done then is
-- done to what it was.
use Rattle.std.proofs.Common.{◌≡◌, ◌∙◌, ◌<◌, ℕ, Bool, true, false, List, Option, Some, None, length, get_or, Ok, Err, Result, refl, sym, ap, subst}
use Rattle.std.specs.Prelude.{IsOk, OnOk, is_ok}
use Rattle.core_due.specs.Ready.{IsStateOf}
use Rattle.core_due.specs.core_steps.specs.{Places.numbers, Steps.{IsFurther, IsSame, IsSound, MayMake}}
use Rattle.core_due.specs.core_steps.proofs.Held.{lent-is}
use Rattle.dim_hierarchy.specs.Dimension.{Dimension}
use Rattle.list_words.specs.Counts.{Each}
use Rattle.row_ledger.specs.declared.settings.Use.{Use}
use Rattle.core_pages.specs.volap_cell.proofs.Cells.States.{of-it, stands, within}
use Rattle.core_pages.specs.volap_cell.specs.{Cells.CellValue, Setting.Setting, State.IsWorldOf, Values.{ActorValue, actor_of}, World.World, declared.actor.Actor.Actor, declared.cell.Cell.Cell, declared.kind.Kind.Kind, declared.state.State.State}
use Rattle.seeded_run.specs.{Core.{HasCore, IsCore}, Drives.HasActor}

pub state-of : (h : List Dimension) (with : Use) (state : State) (s : Setting) (w : World) → IsCore h with state.cells.items state.actors.items s w → IsStateOf h with state s w
state-of h with state s w core = record {
  hierarchy = core.hierarchy;
  servers = core.servers;
  workers = core.workers;
  count = core.count;
  places = core.places;
  is = core.is;
  inv = core.inv;
}

-- it meets the invariant
pub core-sound : (h : List Dimension) (with : Use) (state : State) → HasCore h with state.cells.items state.actors.items → IsSound h state
core-sound h with state core = record { setting = core.setting; hierarchy = core.is_core.hierarchy; world = core.world; is = core.is_core.is; inv = core.is_core.inv }

pub same-core : (h : List Dimension) (with : Use) (state now : State) (s : Setting) (w : World) → IsSame state now → IsCore h with state.cells.items state.actors.items s w → IsCore h with now.cells.items now.actors.items s w
same-core h with state now s w same core = record {
  hierarchy = core.hierarchy;
  servers = core.servers;
  workers = core.workers;
  stock = core.stock;
  roles = core.roles;
  count = same.actors_kept ∙ core.count;
  places = same.cells_kept ∙ core.places;
  is = same.same w core.is;
  inv = core.inv;
}

-- a step from there is one from what the state was
pub further-then : (h : List Dimension) (k : Kind) (n : ℕ) (was between now : State) → IsSame was between → IsFurther h k n between now → IsFurther h k n was now
further-then h k n was between now same further = record {
  cells_kept = further.cells_kept ∙ same.cells_kept;
  actors_kept = further.actors_kept ∙ same.actors_kept;
  step = λ s w ghost hierarchy is inv reached. further.step s w ghost hierarchy (same.same w is) inv reached;
}

pub still-same : (was now next : State) → IsSame was now → IsSame now next → IsSame was next
still-same was now next one two = record {
  cells_kept = two.cells_kept ∙ one.cells_kept;
  actors_kept = two.actors_kept ∙ one.actors_kept;
  same = λ w is. two.same w (one.same w is);
}

pub same-itself : (state : State) → IsSame state state
same-itself state = record { cells_kept = refl; actors_kept = refl; same = λ w is. is }

-- Where the cells and the actors are the same ones.

module _ (was now : State) (cells : now.cells.items ≡ was.cells.items) (actors : now.actors.items ≡ was.actors.items) where
  world-back : (w : World) → IsWorldOf now.cells.items now.actors.items w → IsWorldOf was.cells.items was.actors.items w
  world-back w is = subst (λ (a : List (Option Actor)). IsWorldOf was.cells.items a w) actors (subst (λ (c : List (Option Cell)). IsWorldOf c now.actors.items w) cells is)

  pub same-items : IsSame was now
  same-items = record {
    cells_kept = ap (λ (c : List (Option Cell)). length c) cells;
    actors_kept = ap (λ (a : List (Option Actor)). length a) actors;
    same = λ w is. subst (λ (a : List (Option Actor)). IsWorldOf now.cells.items a w) (sym actors) (subst (λ (c : List (Option Cell)). IsWorldOf c was.actors.items w) (sym cells) is);
  }

  pub may-then : (h : List Dimension) (n : ℕ) (row : List (Option ℕ)) (Asks : List (Option CellValue) → ActorValue → Type 0) (Sees : Setting → World → ℕ → Type 0) → MayMake h was n row Asks Sees → MayMake h now n row Asks Sees
  may-then h n row Asks Sees may = record {
    within = subst (λ (c : List (Option Cell)). Each (λ y. y < length c) (numbers row)) (sym cells) may.within;
    apart = may.apart;
    actor = subst (λ (a : List (Option Actor)). n < length a) (sym actors) may.actor;
    ready = λ w is. may.ready w (world-back w is);
    seen = λ s w about is inv. may.seen s w about (world-back w is) inv;
  }

-- Actors.

module _ (state : State) (n : ℕ) (P : ActorValue → Type 0) (has : HasActor state n P) where
  pub some-actor : (x : Actor) × (get_or state.actors.items n None ≡ Some x) × P (actor_of x)
  some-actor = stands (get_or state.actors.items n None) (λ x. P (actor_of x)) has

  pub actor-within : n < length state.actors.items
  actor-within = within state.actors.items n some-actor.0 some-actor.1

  -- the one that is found there
  pub of-actor : (x : Actor) → get_or state.actors.items n None ≡ Some x → P (actor_of x)
  of-actor x is = of-it (get_or state.actors.items n None) (λ y. P (actor_of y)) x has is

  -- and that is lent
  pub of-lent : (o : Option Actor) (x : Actor) → o ≡ get_or state.actors.items n o → o ≡ Some x → P (actor_of x)
  of-lent o x at is = of-actor x (lent-is state.actors.items n o actor-within at ∙ is)

-- Whether a step found memory.

-- one that can't fail is made
pub made-so : {T E : Type 0} (r : Result T E) (P : Type 0) → IsOk r → OnOk r P → P
made-so (Ok x) P ok p = p
made-so (Err e) P ok p = (let never : false ≡ true = ok in absurd (cc))

-- one that wasn't made may fail
pub may-fail : {T E : Type 0} (b : Bool) (r : Result T E) (e : E) → r ≡ Err e → (b ≡ false → IsOk r) → b ≡ true
may-fail true r e is sure = refl
may-fail false r e is sure = (let never : false ≡ true = sym (ap is_ok is) ∙ sure refl in absurd (cc))
