-- A step of a part over the cells that the actor holds: what is asked for it is so, and the actor has gone on by it.
use Rattle.std.proofs.Common.{◌≡◌, ◌≢◌, ◌∙◌, ℕ, ◌<◌, ◌≤◌, List, [], ◌∷◌, ◌++◌, append_assoc, length, Bool, true, false, is_ok, Option, Some, Result, refl, sym, ap, subst, inl, arith}
use Rattle.std.specs.Prelude.{⊤, IsOk}
use Rattle.seat_steps.specs.core_due.specs.Ready.{IsLendable, IsPrepared}
use Rattle.seat_steps.specs.core_steps.specs.{Parts.{part_asks, part_kind, part_places}, Places.{numbers, values, values_at}, Trees.{tree_asks, tree_kind, tree_places}, declared.parts.PartStep.PartStep, declared.trees.TreeStep.TreeStep}
use Rattle.seat_steps.specs.core_steps.specs.declared.parts.PartStep.TheVariants as part
use Rattle.seat_steps.specs.core_steps.specs.declared.trees.TreeStep.TheVariants as tree
use Rattle.dim_hierarchy.specs.Dimension.{Dimension}
use Rattle.list_words.specs.Counts.{Each}
use Rattle.row_ledger.specs.declared.event.Event.{Event}
use Rattle.seat_steps.specs.core_counts.specs.Counting.{went_after}
use Rattle.part_steps.specs.{Counts.{HasReadAlone, IsOfEverything}, Goings.{IsBesidePart, WentOn}, Parts.{CanEndPart, IsForRow, IsPartSure, IsTreeSure, IsUnread, MayWaitFor}}
use Rattle.seat_steps.specs.{Floors.{IsSeated, Stands}, Made.{HasMade, IsKeptBy}, Takes.IsSameActor, declared.floor.{Floor.Floor, Player.Player}}
use Rattle.part_steps.proofs.{Everything.{part-ends, tree-alone, tree-over}, Keeping.{IsNoBalance, at-part-no-balance, part-beside, part-kept, tree-beside}, NoRows.{read-alone, unread-alone}, PartsSure.with-around, Takings.{all-at, first-turn, second-turn}, Unvisited.{part-unvisited, tree-unvisited}}
use Rattle.seat_steps.proofs.Around.{around, asked-held, within}
use Rattle.turn_table.specs.Numbered.{Extends, numbers_of}
use Rattle.seat_steps.specs.volap_cell.specs.{Cells.CellValue, Setting.Setting, State.AreDifferent, Values.{ActorValue, actor_of}, World.World, declared.actor.Actor.Actor}
use Rattle.seat_steps.specs.volap_cell.specs.Setting as setting
use Rattle.seat_steps.specs.volap_turns.specs.Rows.{AreAt, cells_for}

-- where a step found no memory, it is one of those that may
pub may-fail : {T E : Type 0} (may : Bool) (r : Result T E) → (may ≡ false → IsOk r) → is_ok r ≡ false → may ≡ true
may-fail true r sure err = refl
may-fail false r sure err = (let never : true ≡ false = sym (sure refl) ∙ err in cc)

-- How many cells a step has.

pub part-few : (step : PartStep) → (0 < length (numbers (part_places step))) × (length (numbers (part_places step)) ≤ 7)
part-few (part.TakePart desk) = (omega arith, omega arith)
part-few (part.LookUp map gate) = (omega arith, omega arith)
part-few (part.Forward map desk) = (omega arith, omega arith)
part-few (part.Expand map desk) = (omega arith, omega arith)
part-few (part.FinishPart desk) = (omega arith, omega arith)
part-few (part.FinishPinned gate desk) = (omega arith, omega arith)

pub tree-few : (step : TreeStep) → (0 < length (numbers (tree_places step))) × (length (numbers (tree_places step)) ≤ 7)
tree-few (tree.PutInLeaf leaf) = (omega arith, omega arith)
tree-few (tree.LeaveTree gate) = (omega arith, omega arith)
tree-few (tree.EnterQueue map gate) = (omega arith, omega arith)
tree-few (tree.ReadGate map gate) = (omega arith, omega arith)
tree-few (tree.VisitBlock block) = (omega arith, omega arith)
tree-few tree.Refill = (omega arith, omega arith)
tree-few tree.GiveBack = (omega arith, omega arith)

-- The cells of a step that is prepared.

module _ {s : Setting} {w : World} {n : ℕ} {row : List (Option ℕ)} {Asks : List (Option CellValue) → ActorValue → Type 0} {If : Type 0} (prepared : IsPrepared s w n row Asks If) where
  lends-first : (y : ℕ) (ys : List ℕ) → numbers row ≡ y ∷ ys → y < setting.cell_count s
  lends-first y ys is = (subst (Each (IsLendable s w n If)) is prepared.cells).0.within

  lends-second : (x y : ℕ) → numbers row ≡ x ∷ y ∷ [] → (y < setting.cell_count s) × (y ≢ x)
  lends-second x y is = ((subst (Each (IsLendable s w n If)) is prepared.cells).1.0.within, (subst AreDifferent is prepared.apart).0.0)

module _ (f : Floor) (p : Player) (seated : IsSeated f p) where
  -- Steps of a part.

  module _ (step : PartStep) (sure : IsPartSure f p step) where
    -- its turns may be waited for
    pub part-first : (cell rank : ℕ) (ys : List ℕ) → p.seat.ranks ≡ [] → numbers (part_places step) ≡ cell ∷ ys → MayWaitFor f p cell rank
    part-first cell rank ys bare is =
        let k = around f p seated in first-turn f p seated cell rank (within f p k.0 k.1 k.2 cell (lends-first (sure k.0 k.1 (with-around f p k.0 k.1 k.2)) cell ys is)) bare

    pub part-second : (first low cell rank : ℕ) → p.seat.ranks ≡ (first, Some low) ∷ [] → low < rank → numbers (part_places step) ≡ first ∷ cell ∷ [] → MayWaitFor f p cell rank
    part-second first low cell rank ranks lower is =
        let k = around f p seated in
        let lends = lends-second (sure k.0 k.1 (with-around f p k.0 k.1 k.2)) first cell is in
        second-turn f p seated cell rank first low (within f p k.0 k.1 k.2 cell lends.0) ranks lower lends.1

    -- the held cells are at its places
    pub part-at : numbers (part_places step) ≡ numbers_of p.seat.ranks → AreAt (part_places step) p.seat.view.held
    part-at same = let k = around f p seated in all-at f p seated (part_places step) same (sure k.0 k.1 (with-around f p k.0 k.1 k.2)).apart

    -- what it asks is so of them
    pub part-asked : AreAt (part_places step) p.seat.view.held → part_asks step f.hierarchy (values (cells_for p.seat.view.held (part_places step))) (actor_of p.actor)
    part-asked are =
        let k = around f p seated in
        asked-held f p k.0 k.1 k.2 (part_places step) (part_asks step f.hierarchy) are
        (subst (λ (h : List Dimension). part_asks step h (values_at k.1.cells (part_places step)) (k.1.actors p.number)) k.2.about (sure k.0 k.1 (with-around f p k.0 k.1 k.2)).asked)

  -- who is at a part has no balance
  no-balance : CanEndPart (actor_of p.actor) → IsNoBalance (actor_of p.actor).command
  no-balance ends = (let k = around f p seated in at-part-no-balance f p k.0 k.1 k.2 ends.e ends.errand)

  pub kept-part : (step : PartStep) → CanEndPart (actor_of p.actor) → IsKeptBy f.hierarchy (part_kind step) (λ s w n. ⊤) (λ a was now. ⊤) (part_places step) p
  kept-part step ends = part-kept f.hierarchy p step (no-balance ends)

  pub went-part : (step : PartStep) (now : Player) → CanEndPart (actor_of p.actor) → Stands f now → Extends now.seat.view.seen p.seat.view.seen
      → HasMade f.hierarchy (part_kind step) (λ s w n. ⊤) (λ a was now. ⊤) (part_places step) p now → WentOn f p now
  went-part step now ends stands seen made = record {
    stands = stands;
    number = made.number;
    beside = part-beside step (no-balance ends) made.went.makes;
    seen = seen;
    unvisited = λ u. part-unvisited f.hierarchy (actor_of p.actor) (actor_of now.actor) u step _ made.went.makes.does;
    counted = made.counted;
    alone = λ k. inl (part-ends f.hierarchy (actor_of p.actor) (actor_of now.actor) k.unread.e k.unread.errand (unread-alone k.unread) step _ (no-balance ends) made.went.makes.does);
    over = λ k. part-ends f.hierarchy (actor_of p.actor) (actor_of now.actor) k.e k.errand (read-alone k) step _ (no-balance ends) made.went.makes.does;
  }

  -- Steps at a gate, at a block or of a purse.

  module _ (step : TreeStep) (sure : IsTreeSure f p step) where
    pub tree-first : (cell rank : ℕ) (ys : List ℕ) → p.seat.ranks ≡ [] → numbers (tree_places step) ≡ cell ∷ ys → MayWaitFor f p cell rank
    tree-first cell rank ys bare is =
        let k = around f p seated in first-turn f p seated cell rank (within f p k.0 k.1 k.2 cell (lends-first (sure k.0 k.1 (with-around f p k.0 k.1 k.2)) cell ys is)) bare

    pub tree-at : numbers (tree_places step) ≡ numbers_of p.seat.ranks → AreAt (tree_places step) p.seat.view.held
    tree-at same = let k = around f p seated in all-at f p seated (tree_places step) same (sure k.0 k.1 (with-around f p k.0 k.1 k.2)).apart

    pub tree-asked : AreAt (tree_places step) p.seat.view.held → tree_asks step f.hierarchy (values (cells_for p.seat.view.held (tree_places step))) (actor_of p.actor)
    tree-asked are =
        let k = around f p seated in
        asked-held f p k.0 k.1 k.2 (tree_places step) (tree_asks step f.hierarchy) are
        (subst (λ (h : List Dimension). tree_asks step h (values_at k.1.cells (tree_places step)) (k.1.actors p.number)) k.2.about (sure k.0 k.1 (with-around f p k.0 k.1 k.2)).asked)

  pub went-tree : (step : TreeStep) (now : Player) → IsForRow step (actor_of p.actor) → Stands f now → Extends now.seat.view.seen p.seat.view.seen
      → HasMade f.hierarchy (tree_kind step) (λ s w n. ⊤) (λ a was now. ⊤) (tree_places step) p now → WentOn f p now
  went-tree step now of_row stands seen made = record {
    stands = stands;
    number = made.number;
    beside = tree-beside step made.went.makes;
    seen = seen;
    unvisited = λ u. tree-unvisited f.hierarchy (actor_of p.actor) (actor_of now.actor) u step _ _ made.went;
    counted = made.counted;
    alone = tree-alone f.hierarchy (actor_of p.actor) (actor_of now.actor) step _ of_row made.went.makes.does;
    over = tree-over f.hierarchy (actor_of p.actor) (actor_of now.actor) step _ of_row made.went.makes.does;
  }

-- One thing after another.

extends-on : (xs ys zs : List Event) → Extends xs ys → Extends ys zs → Extends xs zs
extends-on xs ys zs e f = (e.0 ++ f.0, e.1 ∙ ap (λ (l : List Event). e.0 ++ l) f.1 ∙ sym (append_assoc e.0 f.0 zs))

module _ (f : Floor) (was mid now : Player) where
  pub went-behind : mid.number ≡ was.number → actor_of mid.actor ≡ actor_of was.actor → mid.actor.went ≡ was.actor.went → Extends mid.seat.view.seen was.seat.view.seen → WentOn f mid now → WentOn f was now
  went-behind number actor uncounted seen went = record {
    stands = went.stands;
    number = went.number ∙ number;
    beside = subst (λ (x : ActorValue). IsBesidePart x (actor_of now.actor)) actor went.beside;
    seen = extends-on now.seat.view.seen mid.seat.view.seen was.seat.view.seen went.seen seen;
    unvisited = λ u. went.unvisited (subst IsUnread (sym actor) u);
    counted = went.counted ∙ (λ j. went_after (actor j) (actor_of now.actor) (uncounted j));
    alone = λ k. went.alone (subst (IsOfEverything f.hierarchy) (sym actor) k);
    over = λ k. went.over (subst HasReadAlone (sym actor) k);
  }

  -- cells were taken before
  pub went-taken : IsSameActor was mid → WentOn f mid now → WentOn f was now
  went-taken same went = went-behind same.number (ap actor_of same.actor) (ap (λ (x : Actor). x.went) same.actor) same.seen went
