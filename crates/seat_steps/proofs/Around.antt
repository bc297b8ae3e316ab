-- A seat and the states that it may be in: there is one, and what is held is what any of them has.
use Rattle.std.proofs.Common.{◌≡◌, ◌∙◌, ℕ, ◌<◌, List, [], ◌∷◌, Option, Some, None, option_map, refl, sym, ap, subst, arith}
use mathlib.Core.Option.{none, some, some-injective}
use Rattle.volap_turns.specs.core_counts.specs.Counting.{IsCounted}
use Rattle.core_due.specs.Ready.{IsFree}
use Rattle.core_due.specs.core_steps.specs.Places.{numbers, values, values_at}
use Rattle.list_words.specs.Counts.{Each}
use Rattle.row_ledger.specs.declared.event.Event.{Event}
use Rattle.seat_steps.specs.{Floors.{IsAround, IsSeated, Stands, kept_by}, Looks.Sees, Takes.TakesTurn, declared.floor.{Floor.Floor, Player.Player}}
use Rattle.seat_steps.proofs.{Left.no-numbers, Told.kept-told}
use Rattle.turn_table.specs.{Numbered.{Extends, numbers_of, value_of}, Seat.{cell_count, free_rank}, declared.view.View.View}
use Rattle.turn_table.proofs.Numbered.{below_length, find_append_first, find_append_second, find_here, find_same, there as at}
use Rattle.core_due.specs.volap_cell.specs.{Cells.{CellValue, cell_of, ledger_in}, Setting.{Setting, ledger_cell}, State.exchange, Steps.history_in, Values.{ActorValue, actor_of}, World.{MustKeep, World}, declared.actor.Actor.Actor, declared.cell.Cell.Cell}
use Rattle.core_due.specs.volap_cell.specs.Setting as setting
use Rattle.volap_turns.specs.{Law.others-free, Rows.{AreAt, IsThere, cell_for, cells_for, maybe_cell}, Rule.went_of, Wholes.CanBe, Worlds.is-world}
use Rattle.volap_turns.proofs.Known.{about, alone, is, me, setting-is}

-- what a seat has seen of the history is so still
behind-of : {v : View Cell Actor Event} (can : CanBe v) → Extends (history_in can.valid.world) v.seen
behind-of {v} can =
    let wide = can.valid.wide in
    let it = at can.cells ledger_cell (omega arith) in
    let cell : can.valid.world.cells ledger_cell ≡ cell_of it.0 = (is-world can.cells can.actors can.valid.world can.valid.is).cell ledger_cell it.0 it.1 in
    subst (λ (l : List Event). Extends l v.seen) (ap (λ (x : CellValue). (ledger_in x).history) (sym cell)) (can.agrees.seen it.0 it.1)

module _ (f : Floor) (p : Player) where
  -- some state that the seat may be in
  pub around : IsSeated f p → (s : Setting) × (w : World) × IsAround f p s w
  around seated =
      let one = seated.holds.one in
      let can = seated.holds.possible in
      let s = can.valid.setting in
      let w = can.valid.world in
      let same : (actor_of p.actor).setting ≡ s = setting-is one can in
      let cell : (k : ℕ) (c : Cell) → value_of p.seat.view.held k ≡ some c → w.cells k ≡ cell_of c = λ k c e. (is one can).cell k c (can.agrees.held k c e) in (
        s,
        w,
        record {
          about = about one can;
          servers = ap (λ (x : Setting). x.servers) (sym same) ∙ seated.servers;
          workers = ap (λ (x : Setting). x.workers) (sym same) ∙ seated.workers;
          inv = can.valid.inv;
          pulling = can.valid.pulling;
          counted = subst (λ (n : ℕ). IsCounted s w p.number n) (ap went_of (can.agrees.own p.number one.last one.has) ∙ one.went) (can.valid.counting p.number);
          actor = me one can;
          there = (let many = can.valid.many in let below = below_length can.actors p.number one.last (can.agrees.own p.number one.last one.has) in omega arith);
          cells = sym can.valid.wide ∙ sym can.cell_count ∙ seated.holds.wide;
          held = cell;
          free = λ k c e j ne. (others-free p.seat.view.held p.seat.view.actors can.actors w p.number (exchange k c c ∷ []) (is one can).actor (is one can).no_actor can.agrees.own can.unkept (alone one can (exchange k c c ∷ [])) (e, tt) j ne).0;
          behind = behind-of can;
          seen = λ c e. ap (λ (x : CellValue). (ledger_in x).history) (cell ledger_cell c e) ∙ sym (can.agrees.fresh c e);
        },
      )

  module _ (s : Setting) (w : World) (is_around : IsAround f p s w) where
    values-each : (row : List (Option ℕ)) → Each (IsThere p.seat.view.held) (numbers row) → values_at w.cells row ≡ values (cells_for p.seat.view.held row)
    values-each [] there = refl
    values-each (None ∷ row) there = ap (λ (l : List (Option CellValue)). None ∷ l) (values-each row there)
    values-each (Some y ∷ row) there =
        let first : Some (w.cells y) ≡ option_map cell_of (cell_for p.seat.view.held (Some y)) =
        ap (λ (x : CellValue). Some x) (is_around.held y there.0.0 there.0.1) ∙ ap (λ o. option_map cell_of (maybe_cell o)) (sym there.0.1) in
        let rest = values-each row there.1 in
        λ i. first i ∷ rest i

    -- what the state has at the places of a step is what is held there
    pub values-held : (row : List (Option ℕ)) → AreAt row p.seat.view.held → values_at w.cells row ≡ values (cells_for p.seat.view.held row)
    values-held row at = values-each row at.there

    -- so what is asked of the one is so of the other
    pub asked-held : (row : List (Option ℕ)) (Asks : List (Option CellValue) → ActorValue → Type 0) → AreAt row p.seat.view.held → Asks (values_at w.cells row) (w.actors p.number) → Asks (values (cells_for p.seat.view.held row)) (actor_of p.actor)
    asked-held row Asks at asked = subst (λ (x : List (Option CellValue) × ActorValue). Asks x.0 x.1) (λ i. (values-held row at i, is_around.actor i)) asked

    -- no other actor must keep a cell that is held
    pub free-held : (k : ℕ) → IsThere p.seat.view.held k → IsFree w p.number k
    free-held k there j ne = is_around.free k there.0 there.1 j ne

    -- a cell of the state is one of the table
    pub within : (k : ℕ) → k < setting.cell_count s → k < cell_count f.table
    within k lt = subst (λ (n : ℕ). k < n) is_around.cells lt

    -- what was seen in a held cell is so of the state
    pub seen-there : (k : ℕ) (P : CellValue → Type 0) → IsThere p.seat.view.held k → Sees p k P → P (w.cells k)
    seen-there k P there sees = subst P (sym (is_around.held k there.0 there.1)) (sees there.0 there.1)

    -- with the ledger held the history of the state has been seen
    pub whole-seen : IsThere p.seat.view.held ledger_cell → history_in w ≡ p.seat.view.seen
    whole-seen there = is_around.seen there.0 there.1

  -- A cell for which a rank was told is held.

  pub told-there : IsSeated f p → (k : ℕ) (r : Option ℕ) → value_of p.seat.ranks k ≡ some r → IsThere p.seat.view.held k
  told-there seated k r e = find_same p.seat.ranks p.seat.view.held k r (sym seated.holds.rows) e

  -- such is the one that the actor must keep
  pub kept-there : IsSeated f p → (y : ℕ) → MustKeep (actor_of p.actor) y → IsThere p.seat.view.held y
  kept-there seated y keeps = told-there seated y (Some free_rank) (kept-told p.seat.ranks (actor_of p.actor) y seated.kept keeps)

  -- and where it must keep none, none is held between its steps
  pub bare-held : Stands f p → kept_by (actor_of p.actor) ≡ [] → p.seat.view.held ≡ []
  bare-held stands no_cell = no-numbers p.seat.view.held (stands.seated.holds.rows ∙ ap (λ (l : List (ℕ × Option ℕ)). numbers_of l) (stands.bare ∙ no_cell))

-- One cell more.

module _ {cell : ℕ} {rank : Option ℕ} {was now : Player} (took : TakesTurn cell rank was now) where
  -- those before are still held, and have what they had
  pub still-held : (k : ℕ) (c : Cell) → value_of was.seat.view.held k ≡ some c → value_of now.seat.view.held k ≡ some c
  still-held k c e = ap (λ (l : List (ℕ × Cell)). value_of l k) took.held ∙ find_append_first was.seat.view.held ((cell, took.value) ∷ []) k c e

  pub still-there : (k : ℕ) → IsThere was.seat.view.held k → IsThere now.seat.view.held k
  still-there k there = (there.0, still-held k there.0 there.1)

  pub still-sees : (k : ℕ) (P : CellValue → Type 0) → IsThere was.seat.view.held k → Sees was k P → Sees now k P
  still-sees k P there sees c e =
      subst (λ (x : Cell). P (cell_of x)) (some-injective there.0 c (sym (still-held k there.0 there.1) ∙ e)) (sees there.0 there.1)

  -- so is the new one
  pub took-there : value_of was.seat.view.held cell ≡ none → IsThere now.seat.view.held cell
  took-there off = (took.value, ap (λ (l : List (ℕ × Cell)). value_of l cell) took.held ∙ find_append_second was.seat.view.held ((cell, took.value) ∷ []) cell off ∙ find_here [] cell took.value)
