-- The step that is due for a part is one of a part, and where it finds no memory, the end of the part stands for it.
use Rattle.std.proofs.Common.{◌≡◌, ◌∙◌, ℕ, inl, inr, true, false, List, Option, Some, None, get_or, slice_get, IfSome, refl, sym, subst}
use Rattle.std.specs.Prelude.{map, option_and_then, option_map}
use Rattle.core_due.specs.{Parts.{due_kind, due_may_fail, ending}, Ready.MayMakeRow, Rows.{descent_of, down_by, down_for, row_of}, declared.parts.PartDue.PartDue}
use Rattle.core_due.specs.declared.parts.PartDue.TheVariants.{Descends, Enters, Part, Tree}
use Rattle.core_due.proofs.DueCases.{of-some}
use Rattle.core_due.specs.core_steps.specs.{Parts.{part_kind, part_may_fail}, Rows.row_kind, Steps.{IsFurther, IsSame}, Trees.{tree_kind, tree_may_fail}, declared.parts.PartStep.PartStep, declared.rows.RowStep.RowStep, declared.trees.TreeStep.TreeStep}
use Rattle.core_due.specs.core_steps.specs.declared.parts.PartStep.TheVariants as part
use Rattle.core_due.specs.core_steps.specs.declared.trees.TreeStep.TheVariants as tree
use Rattle.dc_node.specs.{Block.entries_in, declared.entry.Entry.Entry}
use Rattle.dim_hierarchy.specs.Dimension.{Dimension}
use Rattle.link_descent.specs.Pick.{pick_place}
use Rattle.list_words.proofs.Elements.{Some-same}
use Rattle.core_pages.specs.volap_cell.proofs.Cells.States.{is-some, of-it, stands}
use Rattle.core_pages.specs.volap_cell.specs.{Cells.block_in, Setting.Setting, Values.{ActorValue, ErrandValue, actor_of}, World.World, declared.state.State.State}
use Rattle.core_pages.specs.volap_cell.specs.declared.kind.Kind.TheVariants.{Down, FinishPart}
use Rattle.core_told.specs.Told.{is_of_part}
use Rattle.seeded_run.specs.{Arms.GoesOnAtPart, Drives.{HasActor, IsFound}, Instead.in_place_of}
use Rattle.seeded_run.proofs.States.{further-then}

-- Of which kind it is.

step-of-part : (step : PartStep) → is_of_part (part_kind step) ≡ true
step-of-part (part.TakePart desk) = refl
step-of-part (part.LookUp map gate) = refl
step-of-part (part.Forward map desk) = refl
step-of-part (part.Expand map desk) = refl
step-of-part (part.FinishPart desk) = refl
step-of-part (part.FinishPinned gate desk) = refl

tree-of-part : (step : TreeStep) → is_of_part (tree_kind step) ≡ true
tree-of-part (tree.PutInLeaf leaf) = refl
tree-of-part (tree.LeaveTree gate) = refl
tree-of-part (tree.EnterQueue map gate) = refl
tree-of-part (tree.ReadGate map gate) = refl
tree-of-part (tree.VisitBlock block) = refl
tree-of-part tree.Refill = refl
tree-of-part tree.GiveBack = refl

of-part : (due : PartDue) → is_of_part (due_kind due) ≡ true
of-part (Part step) = step-of-part step
of-part (Tree step) = tree-of-part step
of-part (Enters map gate) = refl
of-part (Descends block) = refl

-- Where it may find no memory.

step-ends : (step : PartStep) → part_may_fail step ≡ true → in_place_of (part_kind step) ≡ Some FinishPart
step-ends (part.Expand map desk) fails = refl
step-ends (part.TakePart desk) fails = cc
step-ends (part.LookUp map gate) fails = cc
step-ends (part.Forward map desk) fails = cc
step-ends (part.FinishPart desk) fails = cc
step-ends (part.FinishPinned gate desk) fails = cc

tree-ends : (step : TreeStep) → tree_may_fail step ≡ true → in_place_of (tree_kind step) ≡ Some FinishPart
tree-ends (tree.EnterQueue map gate) fails = refl
tree-ends (tree.ReadGate map gate) fails = refl
tree-ends (tree.VisitBlock block) fails = refl
tree-ends tree.Refill fails = refl
tree-ends (tree.PutInLeaf leaf) fails = cc
tree-ends (tree.LeaveTree gate) fails = cc
tree-ends tree.GiveBack fails = cc

part-ends : (due : PartDue) → due_may_fail due ≡ true → in_place_of (due_kind due) ≡ Some FinishPart
part-ends (Part step) fails = step-ends step fails
part-ends (Tree step) fails = tree-ends step fails
part-ends (Enters map gate) fails = cc
part-ends (Descends block) fails = cc

-- The end of a part.

pub ending-kind : (s : Setting) (e : ErrandValue) (pin : Option ℕ) → part_kind (ending s e pin) ≡ FinishPart
ending-kind s e None = refl
ending-kind s e (Some gate) = refl

pub ending-sure : (s : Setting) (e : ErrandValue) (pin : Option ℕ) → part_may_fail (ending s e pin) ≡ false
ending-sure s e None = refl
ending-sure s e (Some gate) = refl

-- Steps that are found.

-- the step that was found is the one that may be made
pub found-may : (h : List Dimension) (state : State) (n : ℕ) (found : ActorValue → Option RowStep) (step : RowStep) → HasActor state n (λ a. IsFound h state n (found a)) → HasActor state n (λ a. found a ≡ Some step) → MayMakeRow h state n step
found-may h state n found step may is =
    let k = stands (get_or state.actors.items n None) (λ a. IsFound h state n (found (actor_of a))) may in
    let same : found (actor_of k.0) ≡ Some step = of-it (get_or state.actors.items n None) (λ a. found (actor_of a) ≡ Some step) k.0 is k.1 in
    subst (MayMakeRow h state n) (sym (Some-same (k.2).0 step (sym (k.2).1 ∙ same))) (k.2).2

pub has-second : (state : State) (n : ℕ) (P Q : ActorValue → Type 0) → HasActor state n (λ a. P a × Q a) → HasActor state n Q
has-second state n P Q both =
    let k = stands (get_or state.actors.items n None) (λ a. P (actor_of a) × Q (actor_of a)) both in
    is-some (get_or state.actors.items n None) (λ a. Q (actor_of a)) k.0 k.1 (k.2).1

-- a step down is of that kind
abbrev IsDown : RowStep → Type 0
IsDown step = row_kind step ≡ Down

of-then : {A B : Type 0} (f : A → Option B) (o : Option A) (P : B → Type 0) → ((x : A) → IfSome (f x) P) → IfSome (option_and_then f o) P
of-then f None P each = tt
of-then f (Some x) P each = each x

of-map : {A B : Type 0} (f : A → B) (o : Option A) (P : B → Type 0) → ((x : A) → P (f x)) → IfSome (option_map f o) P
of-map f None P each = tt
of-map f (Some x) P each = each x

descent-down : (h : List Dimension) (w : World) (a : ActorValue) (block : ℕ) → IfSome (descent_of h w a block) IsDown
descent-down h w a block =
    let entries = entries_in (block_in (w.cells block)).body in
    of-then (λ row. down_for h w a.purse block row entries) (row_of a.errand) IsDown (λ row.
    of-then (λ place. option_map (down_by w a.purse block place) (slice_get entries place)) (pick_place h row.at (map (λ (e : Entry). e.set) entries)) IsDown (λ place.
    of-map (down_by w a.purse block place) (slice_get entries place) IsDown (λ entry. refl)))

pub is-down : (h : List Dimension) (w : World) (state : State) (n block : ℕ) (step : RowStep) → HasActor state n (λ a. descent_of h w a block ≡ Some step) → row_kind step ≡ Down
is-down h w state n block step found =
    let k = stands (get_or state.actors.items n None) (λ a. descent_of h w (actor_of a) block ≡ Some step) found in
    of-some (descent_of h w (actor_of k.0) block) IsDown step (descent-down h w (actor_of k.0) block) k.2

-- What is made.

pub goes-on : (h : List Dimension) (due : PartDue) (n : ℕ) (was now : State) → IsFurther h (due_kind due) n was now → GoesOnAtPart h (due_kind due) n was now
goes-on h due n was now further = (due_kind due, of-part due, further, inl refl)

pub ends-instead : (h : List Dimension) (due : PartDue) (n : ℕ) (was between now : State) → due_may_fail due ≡ true → IsSame was between → IsFurther h FinishPart n between now → GoesOnAtPart h (due_kind due) n was now
ends-instead h due n was between now fails same further = (FinishPart, refl, further-then h FinishPart n was between now same further, inr (part-ends due fails))
