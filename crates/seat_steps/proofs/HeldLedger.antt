-- What a step did to each of the cells that are held, by their numbers; and what is seen of the history with the ledger.
use Rattle.std.proofs.Common.{◌≡◌, ◌∙◌, ℕ, List, [], ◌∷◌, ◌++◌, length, map, Option, Some, None, refl, sym, ap, subst}
use Rattle.std.specs.Prelude.{option_map}
use mathlib.Core.Option.{some, none, some-ne-none}
use mathlib.Core.Option as maybe
use Rattle.core_due.specs.core_steps.specs.Places.{numbers, swaps, values, values_at}
use Rattle.dim_hierarchy.specs.Dimension.{Dimension}
use Rattle.list_words.specs.Counts.{Each}
use Rattle.row_ledger.specs.declared.event.Event.{Event}
use Rattle.seat_steps.specs.{Made.HasMade, declared.floor.Player.Player}
use Rattle.turn_table.specs.{Numbered.value_of, Views.seen_of}
use Rattle.turn_table.proofs.Numbered.{none_same}
use Rattle.core_due.specs.volap_cell.specs.{Cells.{CellValue, FreeCell, cell_of, ledger_in}, ImageKinds.Pushes, Kinds.Does, Setting.{Setting, ledger_cell}, State.{Exchange, changes_of, exchange_if}, Values.{ActorValue, actor_of}, World.{Change, World, change}, declared.cell.Cell.Cell, declared.kind.Kind.Kind}
use Rattle.volap_turns.proofs.Known.{there-same}
use Rattle.volap_turns.specs.{Rows.{AreAt, IsThere, cells_for, maybe_cell}, Rule.history_of}

-- What is held, by number.

abbrev pub in_cell : maybe.Option Cell → CellValue
in_cell none = FreeCell
in_cell (some c) = cell_of c

abbrev pub held_at : List (ℕ × Cell) → ℕ → CellValue
held_at held y = in_cell (value_of held y)

abbrev pub history_in : CellValue → List Event
history_in c = (ledger_in c).history

-- a cell that is held before a step and behind it
one-changed : (y : ℕ) (was now : maybe.Option Cell) (more : List Exchange) → (c : Cell) × (was ≡ some c) → (c : Cell) × (now ≡ some c)
    → changes_of (exchange_if y (maybe_cell was) (maybe_cell now) ++ more) ≡ change y (in_cell was) (in_cell now) ∷ changes_of more
one-changed y none now more is is_now = absurd (some-ne-none is.0 (sym is.1))
one-changed y (some c) none more is is_now = absurd (some-ne-none is_now.0 (sym is_now.1))
one-changed y (some c) (some d) more is is_now = refl

one-value : (o : maybe.Option Cell) → (c : Cell) × (o ≡ some c) → option_map cell_of (maybe_cell o) ≡ Some (in_cell o)
one-value none is = absurd (some-ne-none is.0 (sym is.1))
one-value (some c) is = refl

one-seen : (o : maybe.Option Cell) (seen : List Event) → (c : Cell) × (o ≡ some c) → seen_of history_of o seen ≡ history_in (in_cell o)
one-seen none seen is = absurd (some-ne-none is.0 (sym is.1))
one-seen (some c) seen is = refl

values-held : (held : List (ℕ × Cell)) (row : List (Option ℕ)) → Each (IsThere held) (numbers row) → values (cells_for held row) ≡ values_at (held_at held) row
values-held held [] there = refl
values-held held (None ∷ row) there = ap (λ (vs : List (Option CellValue)). None ∷ vs) (values-held held row there)
values-held held (Some y ∷ row) there = (let here = one-value (value_of held y) there.0 in let rest = values-held held row there.1 in λ k. here k ∷ rest k)

module _ (held new : List (ℕ × Cell)) where
  abbrev pub changed : ℕ → Change
  changed y = change y (held_at held y) (held_at new y)

  changes-held : (row : List (Option ℕ)) → Each (IsThere held) (numbers row) → Each (IsThere new) (numbers row) → changes_of (swaps row (cells_for held row) (cells_for new row)) ≡ map changed (numbers row)
  changes-held [] there now = refl
  changes-held (None ∷ row) there now = changes-held row there now
  changes-held (Some y ∷ row) there now =
      one-changed y (value_of held y) (value_of new y) (swaps row (cells_for held row) (cells_for new row)) there.0 now.0 ∙ ap (λ (cs : List Change). changed y ∷ cs) (changes-held row there.1 now.1)

-- The history that is seen.

-- who holds the ledger has seen its history whole
abbrev pub HasSeenAll : Player → Type 0
HasSeenAll p = (c : Cell) → value_of p.seat.view.held ledger_cell ≡ some c → history_of c ≡ p.seat.view.seen

-- an event is the newest that is seen, and with it all is seen
abbrev pub IsNewest : Event → ℕ → Player → Player → Type 0
IsNewest e seen was now = (now.seat.view.seen ≡ e ∷ was.seat.view.seen) × (seen ≡ length now.seat.view.seen)

-- the newest event that is seen is this one of the actor
abbrev pub PushesBy : (ActorValue → ℕ → Event) → Player → Player → Type 0
PushesBy event_of was now = now.seat.view.seen ≡ event_of (actor_of was.actor) (length was.seat.view.seen) ∷ was.seat.view.seen

-- the ledger has the event more
pub pushed : {e : Event} {more used seen : ℕ} {l : Change} → Pushes e more used l seen → (history_in l.now ≡ e ∷ history_in l.before) × (seen ≡ length (history_in l.now))
pushed {e} p = (
  ap history_in p.is ∙ p.history ∙ ap (λ (events : List Event). e ∷ events) (sym (ap history_in p.was)),
  p.all_seen ∙ ap (λ (events : List Event). length events) (sym (ap history_in p.is)),
)

module _ {h : List Dimension} {kind : Kind} {Sees : Setting → World → ℕ → Type 0} {Tells : ActorValue → (was now : List (Option CellValue)) → Type 0} {row : List (Option ℕ)} {was now : Player} (made : HasMade h kind Sees Tells row was now) where
  module _ (at : AreAt row was.seat.view.held) where
    there-now : Each (IsThere made.new) (numbers row)
    there-now = there-same was.seat.view.held made.new (numbers row) (sym made.numbers) at.there

    -- what it did to these, and what it tells of them, by number

    pub does-held : Does h kind (map (changed was.seat.view.held made.new) (numbers row)) (actor_of was.actor) (actor_of now.actor)
    does-held = subst (λ (cs : List Change). Does h kind cs (actor_of was.actor) (actor_of now.actor)) (changes-held was.seat.view.held made.new row at.there there-now) made.went.makes.does

    pub tells-held : Tells (actor_of was.actor) (values_at (held_at was.seat.view.held) row) (values_at (held_at made.new) row)
    tells-held = subst (λ (vs : List (Option CellValue) × List (Option CellValue)). Tells (actor_of was.actor) vs.0 vs.1) (λ k. (values-held was.seat.view.held row at.there k, values-held made.new row there-now k)) made.told

  -- with the ledger the history is seen, before it and behind it
  module _ (all : HasSeenAll was) (there : IsThere was.seat.view.held ledger_cell) where
    pub seen-was : history_in (held_at was.seat.view.held ledger_cell) ≡ was.seat.view.seen
    seen-was = ap (λ (o : maybe.Option Cell). history_in (in_cell o)) there.1 ∙ all there.0 there.1

    pub seen-now : now.seat.view.seen ≡ history_in (held_at made.new ledger_cell)
    seen-now = made.seen ∙ one-seen (value_of made.new ledger_cell) was.seat.view.seen (there-same was.seat.view.held made.new (ledger_cell ∷ []) (sym made.numbers) (there, tt)).0

    pub newest : {e : Event} {more used seen : ℕ} → Pushes e more used (changed was.seat.view.held made.new ledger_cell) seen → IsNewest e seen was now
    newest {e} p = (let q = pushed p in (seen-now ∙ q.0 ∙ ap (λ (events : List Event). e ∷ events) seen-was, q.1 ∙ ap (λ (events : List Event). length events) (sym seen-now)))

    -- the event that a step tells is pushed
    pub told-by : (event_of : ActorValue → ℕ → Event)
        → history_in (held_at made.new ledger_cell) ≡ event_of (actor_of was.actor) (length (history_in (held_at was.seat.view.held ledger_cell))) ∷ history_in (held_at was.seat.view.held ledger_cell) → PushesBy event_of was now
    told-by event_of told = seen-now ∙ told ∙ ap (λ (events : List Event). event_of (actor_of was.actor) (length events) ∷ events) seen-was

  -- without the ledger a step leaves it as it was
  pub seen-same : value_of was.seat.view.held ledger_cell ≡ none → now.seat.view.seen ≡ was.seat.view.seen
  seen-same off = made.seen ∙ ap (λ (o : maybe.Option Cell). seen_of history_of o was.seat.view.seen) (none_same was.seat.view.held made.new ledger_cell (sym made.numbers) off)
