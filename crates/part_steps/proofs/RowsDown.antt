-- A row that goes down from the block at which it is carried: by which entry, that what its step holds can be taken, and that the step is
-- prepared then.
use Rattle.std.proofs.{Common.{◌≡◌, ◌∙◌, ℕ, ◌≤◌, List, [], ◌∷◌, ◌++◌, length, slice_get, Option, Some, None, Bool, refl, sym, ap, subst, arith}, lemmas.List.length-map}
use Rattle.std.specs.{Option.IfSome, Prelude.{if◌then◌else◌}}
use Rattle.seat_steps.specs.core_due.specs.{Ready.{IsDescending, IsRowPrepared}, Rows.{held_for, row_in, row_of}, Spares.last_spare}
use Rattle.seat_steps.specs.core_due.proofs.Descents.{IsDescent, descent}
use Rattle.seat_steps.specs.core_steps.specs.{Places.{number_at, numbers}, Rows.row_places}
use Rattle.dc_node.specs.{Block.{entries_in, is_full}, declared.block.Block.Block, declared.entry.Entry.Entry}
use Rattle.dim_hierarchy.specs.{Dimension.Dimension, Rows.IsRowOf, declared.row.Row.Row}
use Rattle.list_words.specs.Counts.{Each}
use Rattle.list_words.proofs.Truth.{on_bool}
use Rattle.part_steps.specs.{Heads.{AreUpToBlocks, CanPick, CanTake, InAll, IsPicked, IsToMake, PicksFor, TakesAll, down_to, group_of, head_at, places_of}, Rows.IsToDescend}
use Rattle.seat_steps.specs.{Floors.{IsAround, IsSeated, Stands, at_block, kept_by, kept_on}, Looks.Sees}
use Rattle.part_steps.specs.declared.heads.{Group.Group, Head.Head}
use Rattle.seat_steps.specs.declared.floor.{Floor.Floor, Player.Player}
use Rattle.part_steps.proofs.{BlocksTaken.{all-there, around-before, can-take, free-ranks, numbers-held}, Keeping.{HaveFreeRank, down-kept, down-ranks, told_free}}
use Rattle.seat_steps.proofs.Around.{around}
use Rattle.turn_table.specs.{Numbered.{after_first, numbers_of}, Seat.free_rank}
use Rattle.seat_steps.specs.volap_cell.specs.{Cells.{CellValue, block_in}, Errands.{block_at, place_of, way_in_task, way_of}, Setting.Setting, Values.{ActorValue, ErrandValue, OfRow, TaskValue, actor_of}, World.World, declared.errand.{RowErrand.RowErrand, Way.Way}}
use Rattle.seat_steps.specs.volap_cell.specs.declared.errand.Way.TheVariants as way
use Rattle.seat_steps.specs.volap_turns.specs.Rows.{IsThere}
use Rattle.seat_steps.specs.volap_turns.proofs.Placed.{length-numbers}

-- for the actor of a row that is carried the rank of blocks is told for that block
carried-kept : (a : ActorValue) (e : ErrandValue) (r : RowErrand) (gate block : ℕ) → a.errand ≡ Some e → e.task ≡ OfRow r → r.way ≡ way.Carried gate block → kept_by a ≡ (block, Some free_rank) ∷ []
carried-kept a e r gate block errand row carried =
    ap (λ (x : Option ErrandValue). kept_on (way_of x)) errand ∙ ap (λ (t : TaskValue). kept_on (way_in_task e t)) row ∙ ap (λ (x : Way). at_block (block_at (place_of x))) carried

-- the second of two spares isn't held where there is none
held-none : (block : Block) → held_for block None ≡ None
held-none block = on_bool (is_full block.body) (λ q. ap (λ (b : Bool). if b then None else None) q) (λ q. ap (λ (b : Bool). if b then None else None) q)

-- the numbers of the step's cells
pub down-row : (block place : ℕ) (head : Head) → head.top ≡ None → numbers (row_places (down_to block place head)) ≡ block ∷ numbers (places_of head)
down-row block place head is = ap (λ (o : Option ℕ). block ∷ head.at ∷ (number_at head.first ++ (number_at head.second ++ (number_at head.fresh ++ (number_at o ++ []))))) (sym is)

module _ (f : Floor) (p : Player) (block : ℕ) (stands : Stands f p) (descends : IsToDescend f p block) where
  pub ranks-down : p.seat.ranks ≡ (block, Some free_rank) ∷ []
  ranks-down =
      let a = around f p stands.seated in
      let d = descends a.0 a.1 a.2 in
      stands.bare ∙ ap kept_by (sym a.2.actor) ∙ carried-kept (a.1.actors p.number) d.e d.r d.gate block d.errand d.row d.way_is

  pub numbers-down : numbers_of p.seat.view.held ≡ block ∷ []
  numbers-down = stands.seated.holds.rows ∙ ap (λ (l : List (ℕ × Option ℕ)). numbers_of l) ranks-down

  pub block-there : IsThere p.seat.view.held block
  block-there = (subst (Each (IsThere p.seat.view.held)) numbers-down (all-there p.seat.view.held)).0

  pub one-held : length p.seat.view.held ≤ 2
  one-held = (let many = length-numbers p.seat.view.held in let one = ap (λ (l : List ℕ). length l) numbers-down in omega arith)

  pub down-up : AreUpToBlocks p.seat.ranks
  down-up = subst AreUpToBlocks (sym ranks-down) (free-ranks (block ∷ []))

  descent-in : (s : Setting) (w : World) → IsAround f p s w → IsDescent s w p.number block
  descent-in s w a = descent s w a.inv.ghost_of a.inv.holds p.number block (descends s w a)

  row-in : (w : World) (d : IsDescending w p.number block) → row_of (w.actors p.number).errand ≡ Some d.r.row
  row-in w d = ap row_of d.errand ∙ ap row_in d.row

  -- one of its entries can be picked
  pub can-pick : Sees p block (λ cell. CanPick f.hierarchy (actor_of p.actor) cell)
  can-pick c e =
      let (s, w, a) = around f p stands.seated in
      let it = descent-in s w a in
      let is_row = row-in w it.d in
      let can : CanPick s.hierarchy (w.actors p.number) (w.cells block) = record {
        directory = it.d.directory;
        body = it.body;
        some = (let low = it.pick.pick.within in let many = length-map (entries_in (block_in (w.cells block)).body) (λ (x : Entry). x.set) in omega arith);
        row = it.d.r.row;
        row_is = is_row;
        valid = subst (λ (o : Option Row). IfSome o (IsRowOf s.hierarchy)) is_row it.row_valid;
      } in
      subst (λ (x : List Dimension × (ActorValue × CellValue)). CanPick x.0 x.1.0 x.1.1) (λ i. (a.about i, (a.actor i, a.held block c e i))) can

  module _ (place : ℕ) (group : Group) (picked : Sees p block (λ cell. PicksFor f.hierarchy (actor_of p.actor) (entries_in (block_in cell).body) place group)) where
    abbrev pub last : Option ℕ
    last = last_spare (actor_of p.actor).purse

    -- the step to the head of that group is prepared
    pub down-prepared : (s : Setting) (w : World) → IsAround f p s w → (head : Head) → head ≡ head_at w group last None → IsRowPrepared s w p.number (down_to block place head)
    down-prepared s w a head is =
        let it = descent-in s w a in
        let there = block-there in
        let seen : PicksFor s.hierarchy (w.actors p.number) (entries_in (block_in (w.cells block)).body) place group =
        subst (λ (x : List Dimension × (ActorValue × CellValue)). PicksFor x.0 x.1.0 (entries_in (block_in x.1.1).body) place group) (λ i. (sym a.about i, (sym a.actor i, sym (a.held block there.0 there.1) i))) (picked there.0 there.1) in
        let mine : IsPicked s.hierarchy it.d.r.row (entries_in (block_in (w.cells block)).body) place group = seen it.d.r.row (row-in w it.d) in
        let same_place : place ≡ it.pick.place = inner place it.pick.place (sym mine.place_is ∙ it.pick.place_is) in
        let same_entry : mine.entry ≡ it.pick.entry = inner mine.entry it.pick.entry (sym mine.entry_at ∙ ap (slice_get (entries_in (block_in (w.cells block)).body)) same_place ∙ it.pick.entry_at) in
        let same_group : group ≡ group_of it.pick.entry = mine.group_is ∙ ap group_of same_entry in
        subst (IsRowPrepared s w p.number) (sym (ap (down_to block place) is ∙ (λ i. down_to block (same_place i) (head_at w (same_group i) (last_spare (sym a.actor i).purse) None)))) it.prepared
      where
        inner : {A : Type 0} (x y : A) → Some x ≡ Some y → x ≡ y
        inner x y e = cc

    -- so what it holds can be taken
    pub down-can : InAll f p (λ w. CanTake f p (numbers (places_of (head_at w group last None))))
    down-can s w a =
        let head = head_at w group last None in
        can-take f p (block ∷ []) (numbers (places_of head)) (row_places (down_to block place head)) s w _ _ a numbers-down (down-row block place head (held-none (block_in (w.cells group.head)))) (down-prepared s w a head refl)

    -- When it is taken.

    module _ (now : Player) (head : Head) (seated : IsSeated f now) (took : TakesAll (numbers (places_of head)) p now) (is : InAll f now (λ w. head ≡ head_at w group last None)) where
      no-top : head.top ≡ None
      no-top = (let (s, w, a) = around f now seated in ap (λ (x : Head). x.top) (is s w a) ∙ held-none (block_in (w.cells group.head)))

      down-held : numbers_of now.seat.view.held ≡ numbers (row_places (down_to block place head))
      down-held = numbers-held took ∙ ap (λ (l : List ℕ). l ++ numbers (places_of head)) numbers-down ∙ sym (down-row block place head no-top)

      down-ready : (s : Setting) (w : World) → IsAround f now s w → IsRowPrepared s w now.number (down_to block place head)
      down-ready s w a = subst (λ (n : ℕ). IsRowPrepared s w n (down_to block place head)) (sym took.same.number) (down-prepared s w (around-before f stands.seated took s w a) head (is s w a))

      down-told : HaveFreeRank (after_first now.seat.ranks) (numbers (Some head.at ∷ head.first ∷ head.second ∷ head.fresh ∷ []))
      down-told =
          let told : now.seat.ranks ≡ told_free (block ∷ numbers (places_of head)) = took.ranks ∙ ap (λ (l : List (ℕ × Option ℕ)). l ++ told_free (numbers (places_of head))) ranks-down in
          down-ranks now.seat.ranks block head.at head.first head.second head.fresh (subst (λ (o : Option ℕ). now.seat.ranks ≡ told_free (numbers (Some block ∷ Some head.at ∷ head.first ∷ head.second ∷ head.fresh ∷ o ∷ []))) no-top told)

      pub down-taken : IsToMake f now (down_to block place head)
      down-taken = record { seated = seated; held = down-held; prepared = down-ready; kept = down-kept f.hierarchy now block place head.at head.first head.second head.fresh down-told }
