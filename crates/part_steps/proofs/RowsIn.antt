-- A row that comes in at a gate: to which group, that what its step holds can be taken, and that the step is prepared then.
use Rattle.std.proofs.Common.{◌≡◌, ◌∙◌, ℕ, ◌≤◌, List, [], ◌∷◌, ◌++◌, length, Option, Some, refl, sym, ap, subst, arith}
use Rattle.seat_steps.specs.core_due.specs.{Ready.{IsRowPrepared}, Spares.{last_spare, spare_before}}
use Rattle.seat_steps.specs.core_due.proofs.Entrances.{IsEntrance, entrance}
use Rattle.seat_steps.specs.core_steps.specs.{Places.numbers, Rows.row_places}
use Rattle.list_words.specs.Counts.{Each}
use Rattle.part_steps.specs.{Heads.{AreUpToBlocks, CanTake, InAll, IsToMake, TakesAll, group_in, head_at, in_to, places_of}, Rows.IsToEnter}
use Rattle.seat_steps.specs.{Floors.{IsAround, IsSeated}, Looks.Sees}
use Rattle.part_steps.specs.declared.heads.{Group.Group, Head.Head}
use Rattle.seat_steps.specs.declared.floor.{Floor.Floor, Player.Player}
use Rattle.part_steps.proofs.{BlocksTaken.{all-there, around-before, can-take, free-ranks, numbers-held, up-one}, Keeping.{HaveFreeRank, enter-kept, enter-ranks, told_free}}
use Rattle.seat_steps.proofs.Around.{around}
use Rattle.turn_table.specs.Numbered.{after_first, numbers_of, value_of}
use Rattle.seat_steps.specs.volap_cell.specs.{Setting.Setting, Values.actor_of, World.World}
use Rattle.seat_steps.specs.volap_turns.specs.Rows.{IsThere}
use Rattle.seat_steps.specs.volap_turns.proofs.Placed.{length-numbers}

module _ (f : Floor) (p : Player) (map gate : ℕ) (seated : IsSeated f p) (ranks : p.seat.ranks ≡ (map, Some 1) ∷ (gate, Some 2) ∷ []) (enters : IsToEnter f p map gate) where
  pub numbers-in : numbers_of p.seat.view.held ≡ map ∷ gate ∷ []
  numbers-in = seated.holds.rows ∙ ap (λ (l : List (ℕ × Option ℕ)). numbers_of l) ranks

  pub gate-there : IsThere p.seat.view.held gate
  gate-there = (subst (Each (IsThere p.seat.view.held)) numbers-in (all-there p.seat.view.held)).1.0

  pub two-held : length p.seat.view.held ≤ 2
  two-held = (let many = length-numbers p.seat.view.held in let two = ap (λ (l : List ℕ). length l) numbers-in in omega arith)

  pub in-up : AreUpToBlocks p.seat.ranks
  in-up k r e = up-one map 1 ((gate, Some 2) ∷ []) (omega arith) (up-one gate 2 [] (omega arith) (free-ranks [])) k r (ap (λ (l : List (ℕ × Option ℕ)). value_of l k) (sym ranks) ∙ e)

  module _ (group : Group) (leads : Sees p gate (λ cell. group ≡ group_in cell)) where
    abbrev pub last : Option ℕ
    last = last_spare (actor_of p.actor).purse

    abbrev pub before : Option ℕ
    before = spare_before (actor_of p.actor).purse

    -- the step to the root is prepared
    pub in-prepared : (s : Setting) (w : World) → IsAround f p s w → (head : Head) → head ≡ head_at w group last before → IsRowPrepared s w p.number (in_to map gate head)
    in-prepared s w a head is =
        let it : IsEntrance s w p.number map gate = entrance s w a.inv.ghost_of a.inv.holds p.number gate map (enters s w a) in
        let there = gate-there in
        let same : group ≡ group_in (w.cells gate) = leads there.0 there.1 ∙ ap group_in (sym (a.held gate there.0 there.1)) in
        subst (IsRowPrepared s w p.number) (sym (ap (in_to map gate) is ∙ (λ i. in_to map gate (head_at w (same i) (last_spare (sym a.actor i).purse) (spare_before (sym a.actor i).purse))))) it.prepared

    -- so what it holds can be taken
    pub in-can : InAll f p (λ w. CanTake f p (numbers (places_of (head_at w group last before))))
    in-can s w a =
        let head = head_at w group last before in
        can-take f p (map ∷ gate ∷ []) (numbers (places_of head)) (row_places (in_to map gate head)) s w _ _ a numbers-in refl (in-prepared s w a head refl)

    -- When it is taken.

    module _ (now : Player) (head : Head) (now_seated : IsSeated f now) (took : TakesAll (numbers (places_of head)) p now) (is : InAll f now (λ w. head ≡ head_at w group last before)) where
      in-held : numbers_of now.seat.view.held ≡ numbers (row_places (in_to map gate head))
      in-held = numbers-held took ∙ ap (λ (l : List ℕ). l ++ numbers (places_of head)) numbers-in

      in-ready : (s : Setting) (w : World) → IsAround f now s w → IsRowPrepared s w now.number (in_to map gate head)
      in-ready s w a = subst (λ (n : ℕ). IsRowPrepared s w n (in_to map gate head)) (sym took.same.number) (in-prepared s w (around-before f seated took s w a) head (is s w a))

      in-told : HaveFreeRank (after_first now.seat.ranks) (numbers (places_of head))
      in-told =
          let (s, w, a) = around f now now_seated in
          enter-ranks now.seat.ranks map gate head.at head.first head.second head.fresh head.top (in-ready s w a).apart
          (took.ranks ∙ ap (λ (l : List (ℕ × Option ℕ)). l ++ told_free (numbers (places_of head))) ranks)

      pub in-taken : IsToMake f now (in_to map gate head)
      in-taken = record { seated = now_seated; held = in-held; prepared = in-ready; kept = enter-kept f.hierarchy now map gate head.at head.first head.second head.fresh head.top in-told }
