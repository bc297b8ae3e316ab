-- What is held besides a full head, as it is taken: the next block, the one behind that, and the cells of spares.
use Rattle.std.proofs.Common.{◌≡◌, ◌∙◌, ℕ, List, [], ◌∷◌, Bool, true, false, Option, Some, None, refl, sym, ap, subst}
use Rattle.std.specs.Prelude.{if◌then◌else◌}
use Rattle.seat_steps.specs.core_due.specs.Rows.{second_behind}
use Rattle.seat_steps.specs.core_steps.specs.Places.{number_at, numbers}
use Rattle.dc_node.specs.Block.{is_full}
use Rattle.part_steps.specs.{Heads.{CanTake, InAll, TakesAll, full_at, head_at, places_behind, places_of}, declared.heads.{Group.Group, Head.Head}}
use Rattle.seat_steps.specs.{Floors.{IsAround, IsSeated}, Looks.Sees, declared.floor.{Floor.Floor, Player.Player}}
use Rattle.part_steps.proofs.BlocksTaken.{around-before, can-first, can-rest, first-left, left-more, takes-none, takes-on}
use Rattle.seat_steps.proofs.Around.{around}
use Rattle.seat_steps.specs.volap_cell.specs.{Cells.{CellValue, block_in}, Setting.Setting, World.World}
use Rattle.seat_steps.specs.volap_turns.specs.Rows.{IsThere}

module _ (f : Floor) (group : Group) (last before : Option ℕ) where
  -- what is left to be taken when the head is, when the first block is, and when the second is

  abbrev pub AreLeft : Player → Type 0
  AreLeft p = InAll f p (λ w. CanTake f p (numbers (places_behind (full_at w group last before))))

  abbrev pub AreLeftBehind : Player → Option ℕ → Type 0
  AreLeftBehind p first = InAll f p (λ w. CanTake f p (numbers (second_behind w group.stamp first ∷ last ∷ before ∷ [])))

  abbrev pub SparesLeft : Player → Type 0
  SparesLeft p = CanTake f p (numbers (last ∷ before ∷ []))

  pub first-can : (p : Player) → AreLeft p → InAll f p (λ w. CanTake f p (number_at (second_behind w group.stamp (Some group.head))))
  first-can p left = first-left f p (λ w. second_behind w group.stamp (Some group.head)) (λ w. second_behind w group.stamp (second_behind w group.stamp (Some group.head)) ∷ last ∷ before ∷ []) left

  pub second-can : (p : Player) (first : Option ℕ) → AreLeftBehind p first → InAll f p (λ w. CanTake f p (number_at (second_behind w group.stamp first)))
  second-can p first left = first-left f p (λ w. second_behind w group.stamp first) (λ w. last ∷ before ∷ []) left

  module _ (was now : Player) (seated : IsSeated f was) where
    pub left-behind : (first : Option ℕ) → TakesAll (number_at first) was now → InAll f was (λ w. first ≡ second_behind w group.stamp (Some group.head)) → AreLeft was → AreLeftBehind now first
    left-behind first took is left = left-more f first was now (λ w. second_behind w group.stamp (Some group.head)) (λ w o. second_behind w group.stamp o ∷ last ∷ before ∷ []) seated took is left

    pub spares-left : (first second : Option ℕ) → IsSeated f now → TakesAll (number_at second) was now → InAll f was (λ w. second ≡ second_behind w group.stamp first) → AreLeftBehind was first → SparesLeft now
    spares-left first second now_seated took is left =
        let (s, w, a) = around f now now_seated in
        left-more f second was now (λ w. second_behind w group.stamp first) (λ w o. last ∷ before ∷ []) seated took is left s w a

  pub last-can : (p : Player) → SparesLeft p → CanTake f p (number_at last)
  last-can p left = can-first f p (number_at last) (numbers (before ∷ [])) left

  pub before-can : (was now : Player) → TakesAll (number_at last) was now → SparesLeft was → CanTake f now (number_at before)
  before-can was now took left = can-first f now (number_at before) [] (can-rest took f (numbers (before ∷ [])) left)

  -- All of it is taken.

  module _ (p0 p1 p2 p3 p4 : Player) (first second : Option ℕ) (took1 : TakesAll (number_at first) p0 p1) (took2 : TakesAll (number_at second) p1 p2) (took3 : TakesAll (number_at last) p2 p3) (took4 : TakesAll (number_at before) p3 p4) where
    abbrev pub taken : Head
    taken = record { at = group.head; first = first; second = second; fresh = last; top = before }

    pub took-all : TakesAll (numbers (places_behind taken)) p0 p4
    took-all = takes-on p0 p1 p4 took1 (takes-on p1 p2 p4 took2 (takes-on p2 p3 p4 took3 (takes-on p3 p4 p4 took4 (takes-none p4))))

    pub taken-is : IsSeated f p0 → IsSeated f p1 → IsSeated f p2 → IsSeated f p3 → InAll f p0 (λ w. first ≡ second_behind w group.stamp (Some group.head)) → InAll f p1 (λ w. second ≡ second_behind w group.stamp first) → InAll f p4 (λ w. taken ≡ full_at w group last before)
    taken-is s0 s1 s2 s3 first_is second_is s w a =
        let a1 : IsAround f p1 s w = around-before f s1 took2 s w (around-before f s2 took3 s w (around-before f s3 took4 s w a)) in
        let one = first_is s w (around-before f s0 took1 s w a1) in
        let two = second_is s w a1 ∙ ap (second_behind w group.stamp) one in
        λ i. record { at = group.head; first = one i; second = two i; fresh = last; top = before }

  -- Behind the head.

  module _ (was now : Player) (took : TakesAll (group.head ∷ []) was now) (seated : IsSeated f was) (can : InAll f was (λ w. CanTake f was (numbers (places_of (head_at w group last before))))) where
    head-left : InAll f now (λ w. CanTake f now (numbers (places_behind (head_at w group last before))))
    head-left = left-more f (Some group.head) was now (λ w. Some group.head) (λ w o. places_behind (head_at w group last before)) seated took (λ s w a. refl) can

    module _ (full : Bool) (there : IsThere now.seat.view.held group.head) (sees : Sees now group.head (λ cell. full ≡ is_full (block_in cell).body)) where
      full-in : (s : Setting) (w : World) → IsAround f now s w → is_full (block_in (w.cells group.head)).body ≡ full
      full-in s w a = ap (λ (x : CellValue). is_full (block_in x).body) (a.held group.head there.0 there.1) ∙ sym (sees there.0 there.1)

      full-head : (w : World) → is_full (block_in (w.cells group.head)).body ≡ true → head_at w group last before ≡ full_at w group last before
      full-head w q = λ i. record {
        at = group.head;
        first = if q i then (second_behind w group.stamp (Some group.head)) else None;
        second = second_behind w group.stamp (if q i then (second_behind w group.stamp (Some group.head)) else None);
        fresh = if q i then last else None;
        top = if q i then before else None;
      }

      -- where it is full all of that is left
      pub full-left : full ≡ true → AreLeft now
      full-left q s w a = subst (λ (h : Head). CanTake f now (numbers (places_behind h))) (full-head w (full-in s w a ∙ q)) (head-left s w a)

      pub full-is : full ≡ true → (p : Player) (head : Head) → InAll f p (λ w. head ≡ full_at w group last before) → IsSeated f now → {ys : List ℕ} → TakesAll ys now p → InAll f p (λ w. head ≡ head_at w group last before)
      full-is q p head is now_seated more s w a = is s w a ∙ sym (full-head w (full-in s w (around-before f now_seated more s w a) ∙ q))

      -- and else there is nothing besides it
      pub room-is : full ≡ false → InAll f now (λ w. record { at = group.head; first = None; second = None; fresh = None; top = None } ≡ head_at w group last before)
      room-is room s w a = (let q = full-in s w a ∙ room in λ i. record {
        at = group.head;
        first = if sym q i then (second_behind w group.stamp (Some group.head)) else None;
        second = second_behind w group.stamp (if sym q i then (second_behind w group.stamp (Some group.head)) else None);
        fresh = if sym q i then last else None;
        top = if sym q i then before else None;
      })
