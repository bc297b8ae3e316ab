-- What becomes of the seat by a turn that it takes or gives back.
use Rattle.std.proofs.Common.{◌≡◌, ◌≢◌, ◌∙◌, ℕ, ◌+◌, ◌<◌, false, List, [], ◌∷◌, ◌++◌, Option, Some, inl, inr, refl, sym, ap, subst, arith}
use Rattle.std.specs.Prelude.{IsSome, is_some, true}
use mathlib.Core.Logic.{dite}
use mathlib.Core.Option.{none, some, some-injective}
use native.Mathlib.Decide.{ℕ_discrete}
use lib.ListN.{get_elem?}
use Rattle.atomic_table.specs.Seated.{TableId}
use Rattle.row_ledger.specs.declared.event.Event.{Event}
use Rattle.call_steps.specs.seat_steps.proofs.{Left.{no-numbers, numbers-without}, Since.extends-on}
use Rattle.turn_table.proofs.{Numbered.{below_length, find_else, find_here, some_or_none, starts_self}, Seats.numbers_append}
use Rattle.turn_table.specs.{Numbered.{Extends, numbers_of, value_of, without}, Seat.{SeatValue, cell_count}, Views.{HasAll, after_release, after_take, seen_of, with_note}, declared.view.View.View}
use Rattle.core_pages.specs.volap_cell.specs.{Cells.{cell_of}, Setting.ledger_cell, declared.actor.Actor.Actor, declared.cell.Cell.Cell}
use Rattle.call_steps.specs.volap_turns.specs.{Rule.history_of, Wholes.CanBe}
use Rattle.whole_steps.specs.Seats.{HasEveryone, HasTurned, IsLooking, Knows, KnowsAll, TakesCell, if_some}

-- Nothing, and one after the other.

pub turned-self : (s : SeatValue Cell Actor Event) → HasTurned s s
turned-self s = record { table = refl; home = refl; number = refl; cell_count = refl; actor_count = refl; actors = refl; known = λ k c e. e; seen = starts_self s.view.seen; exact = λ k. refl }

pub turned-on : (r s t : SeatValue Cell Actor Event) → HasTurned r s → HasTurned s t → HasTurned r t
turned-on r s t a b = record {
  table = b.table ∙ a.table;
  home = b.home ∙ a.home;
  number = b.number ∙ a.number;
  cell_count = b.cell_count ∙ a.cell_count;
  actor_count = b.actor_count ∙ a.actor_count;
  actors = b.actors ∙ a.actors;
  known = λ k c e. b.known k c (a.known k c e);
  seen = extends-on t.view.seen s.view.seen r.view.seen b.seen a.seen;
  exact = λ k. b.exact (k.0, a.known ledger_cell k.0 k.1) ∙ a.exact k;
}

-- what was known is known still
abbrev pub knows-on : {was now : SeatValue Cell Actor Event} → HasTurned was now → (k : ℕ) → Knows was k → Knows now k
knows-on turned k knows = (knows.0, turned.known k knows.0 knows.1)

-- One cell more.

-- the newest value that was seen of a cell
known-more : (ps : List (ℕ × Cell)) (cell : ℕ) (c : Cell) → ((d : Cell) → value_of ps cell ≡ some d → c ≡ d) → (k : ℕ) (d : Cell) → value_of ps k ≡ some d → value_of ((cell, c) ∷ ps) k ≡ some d
known-more ps cell c same k d e = dite (ℕ_discrete cell k)
    (λ (here : cell ≡ k). ap (value_of ((cell, c) ∷ ps)) (sym here) ∙ find_here ps cell c ∙ ap some (same d (ap (value_of ps) here ∙ e)))
    (λ (ne : cell ≢ k). find_else ps cell k c ne ∙ e)

-- who knew the ledger had seen what it has
exact-seen : (v : View Cell Actor Event) (cell : ℕ) (c : Cell) → CanBe v → HasAll v.actor_count v → ((d : Cell) → value_of v.known cell ≡ some d → c ≡ d) → (d : Cell) → value_of v.known ledger_cell ≡ some d
    → seen_of history_of (value_of ((cell, c) ∷ []) ledger_cell) v.seen ≡ v.seen
exact-seen v cell c can all same d e = dite (ℕ_discrete cell ledger_cell)
    (λ (here : cell ≡ ledger_cell).
    let is : c ≡ d = same d (ap (value_of v.known) here ∙ e) in
    ap (λ o. seen_of history_of o v.seen) (ap (value_of ((cell, c) ∷ [])) (sym here) ∙ find_here [] cell c) ∙ ap history_of is ∙ can.whole all d (can.known all ledger_cell d e))
    (λ (ne : cell ≢ ledger_cell). ap (λ o. seen_of history_of o v.seen) (find_else [] cell ledger_cell c ne))

module _ (t : TableId) (was now : SeatValue Cell Actor Event) (everyone : HasEveryone t was) (cell rank tries : ℕ) (last : ℕ × ℕ) (c : Cell)
    (e : now ≡ record was { ranks = was.ranks ++ (cell, Some rank) ∷ []; view = after_take ledger_cell history_of (with_note was.view tries last) cell c }) where
  abbrev taken : SeatValue Cell Actor Event
  taken = record was { ranks = was.ranks ++ (cell, Some rank) ∷ []; view = after_take ledger_cell history_of (with_note was.view tries last) cell c }

  pub took-everyone : CanBe now.view → HasEveryone t now
  took-everyone possible = subst (HasEveryone t) (sym e) (record {
    own = everyone.own;
    home = everyone.home;
    every = everyone.every;
    free = everyone.free;
    rows = numbers_append was.view.held ((cell, c) ∷ []) ∙ ap (λ (l : List ℕ). l ++ cell ∷ []) everyone.rows ∙ sym (numbers_append was.ranks ((cell, Some rank) ∷ []));
    possible = subst (λ (z : SeatValue Cell Actor Event). CanBe z.view) e possible;
    wide = everyone.wide;
  })

  pub took-cell : Extends now.view.seen was.view.seen → (HasAll was.view.actor_count was.view → (d : Cell) → value_of was.view.known cell ≡ some d → c ≡ d) → TakesCell cell rank was now
  took-cell longer same = record {
    value = c;
    turned = record {
      table = ap (λ (z : SeatValue Cell Actor Event). z.table_id) e;
      home = ap (λ (z : SeatValue Cell Actor Event). z.lifted) e;
      number = ap (λ (z : SeatValue Cell Actor Event). z.view.number) e;
      cell_count = ap (λ (z : SeatValue Cell Actor Event). z.view.cell_count) e;
      actor_count = ap (λ (z : SeatValue Cell Actor Event). z.view.actor_count) e;
      actors = ap (λ (z : SeatValue Cell Actor Event). z.view.actors) e;
      known = λ k d at. ap (λ (z : SeatValue Cell Actor Event). value_of z.view.known k) e ∙ known-more was.view.known cell c (same everyone.every) k d at;
      seen = longer;
      exact = λ k. ap (λ (z : SeatValue Cell Actor Event). z.view.seen) e ∙ exact-seen was.view cell c everyone.possible everyone.every (same everyone.every) k.0 k.1;
    };
    ranks = ap (λ (z : SeatValue Cell Actor Event). z.ranks) e;
    held = ap (λ (z : SeatValue Cell Actor Event). z.view.held) e;
    knows = ap (λ (z : SeatValue Cell Actor Event). value_of z.view.known cell) e ∙ find_here was.view.known cell c;
    same = same everyone.every;
  }

-- One less.

module _ (t : TableId) (was now : SeatValue Cell Actor Event) (everyone : HasEveryone t was) (cell : ℕ) (e : now ≡ record was { ranks = without was.ranks cell; view = after_release was.view cell }) where
  pub gave-everyone : CanBe now.view → HasEveryone t now
  gave-everyone possible = subst (HasEveryone t) (sym e) (record {
    own = everyone.own;
    home = everyone.home;
    every = everyone.every;
    free = everyone.free;
    rows = numbers-without was.view.held was.ranks cell everyone.rows;
    possible = subst (λ (z : SeatValue Cell Actor Event). CanBe z.view) e possible;
    wide = everyone.wide;
  })

  pub gave-turned : HasTurned was now
  gave-turned = subst (HasTurned was) (sym e) (record { table = refl; home = refl; number = refl; cell_count = refl; actor_count = refl; actors = refl; known = λ k c at. at; seen = starts_self was.view.seen; exact = λ k. refl })

-- A seat that knows the whole state, and lends it.

pub looking-first : (t : TableId) (start s : SeatValue Cell Actor Event) → s ≡ start → HasEveryone t s → KnowsAll t s → IsLooking start t s
looking-first t start s e everyone knows = subst (λ (z : SeatValue Cell Actor Event). IsLooking z t s) e (record { everyone = everyone; turned = turned-self s; before = everyone; knows = knows })

-- where nothing is held, nothing is known to be
pub none-held : {t : TableId} {s : SeatValue Cell Actor Event} → HasEveryone t s → s.ranks ≡ [] → s.view.held ≡ []
none-held {s = s} everyone bare = no-numbers s.view.held (everyone.rows ∙ ap (λ (l : List (ℕ × Option ℕ)). numbers_of l) bare)

-- a cell whose value is known is one of the table
pub within-table : {t : TableId} {s : SeatValue Cell Actor Event} → HasEveryone t s → (k : ℕ) → Knows s k → k < cell_count t
within-table {s = s} everyone k knows =
    let can = everyone.possible in
    let low = below_length can.cells k knows.0 (can.known everyone.every k knows.0 knows.1) in
    subst (λ (n : ℕ). k < n) (sym can.cell_count ∙ everyone.wide) low

-- a cell that is taken while none is held is found
pub held-alone : {cell rank : ℕ} {was now : SeatValue Cell Actor Event} → (took : TakesCell cell rank was now) → was.view.held ≡ [] → value_of now.view.held cell ≡ some took.value
held-alone {cell} took empty = ap (λ (l : List (ℕ × Cell)). value_of l cell) (took.held ∙ ap (λ (l : List (ℕ × Cell)). l ++ (cell, took.value) ∷ []) empty) ∙ find_here [] cell took.value

-- One cell after the other.

pub knows-next : (s : SeatValue Cell Actor Event) (n : ℕ) → ((k : ℕ) → k < n → Knows s k) → Knows s n → (k : ℕ) → k < n + 1 → Knows s k
knows-next s n before here k low = dite (ℕ_discrete k n)
    (λ (same : k ≡ n). subst (Knows s) (sym same) here)
    (λ (ne : k ≢ n). before k (omega (arith, low, ne)))

-- a look is one that goes on
pub looking-on : (start : SeatValue Cell Actor Event) (t : TableId) (was now last : SeatValue Cell Actor Event) → IsLooking start t was → HasEveryone t now → HasTurned was now → last ≡ now → IsLooking start t last
looking-on start t was now last looking everyone turned e =
    subst (IsLooking start t) (sym e) (record { everyone = everyone; turned = turned-on start was now looking.turned turned; before = looking.before; knows = looking.knows })

-- what is lent is what is known
pub lent-known : (start s : SeatValue Cell Actor Event) (cell : ℕ) (c : Cell) → HasTurned start s → Knows start cell → value_of s.view.known cell ≡ some c → if_some cell_of (value_of start.view.known cell) ≡ Some (cell_of c)
lent-known start s cell c turned knows lent =
    let is : knows.0 ≡ c = some-injective knows.0 c (sym (turned.known cell knows.0 knows.1) ∙ lent) in
    ap (λ o. if_some cell_of o) (knows.1 ∙ ap some is)

-- what is in the state is known
pub known-of : (s : SeatValue Cell Actor Event) (cell : ℕ) → IsSome (if_some cell_of (value_of s.view.known cell)) → Knows s cell
known-of s cell there = elim (some_or_none (value_of s.view.known cell)) [
  | inl t ↦ t
  | inr n ↦ absurd (let never : false ≡ true = subst (λ o. is_some (if_some cell_of o) ≡ true) n there in cc)
]

-- who holds the ledger has seen the history in it
pub history-held : {t : TableId} {s : SeatValue Cell Actor Event} → HasEveryone t s → (k : ℕ) → k ≡ ledger_cell → (c : Cell) → value_of s.view.held k ≡ some c → history_of c ≡ s.view.seen
history-held {s = s} everyone k is c held = sym (everyone.possible.agrees.fresh c (ap (value_of s.view.held) (sym is) ∙ held))
