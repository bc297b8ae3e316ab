-- Steps that are made with the ledger behind other cells: each cell can be taken in its turn, the step can be made over all of them,
-- and with its event the history is right.
use Rattle.std.proofs.Common.{◌≡◌, ◌≢◌, ◌∙◌, ◌⊎◌, ℕ, ◌+◌, ◌<◌, ◌≤◌, ◌==◌, Bool, true, false, cond, List, [], ◌∷◌, ◌++◌, length, Option, Some, None, eq-eqb, ne_eqb, inl, inr, refl, sym, ap, subst, arith, length-append}
use Rattle.std.specs.Prelude.{option_and_then, ⊤}
use mathlib.Core.Logic.{dite}
use mathlib.Core.Option.{none, some, some-injective, some-ne-none}
use native.Mathlib.Decide.{ℕ_discrete}
use Rattle.volap_turns.specs.core_counts.specs.Counting.{IsCounted}
use Rattle.core_due.specs.Ready.{IsPrepared}
use Rattle.core_due.specs.core_steps.specs.{Places.{numbers, one_at, swaps, three_at, two_at, values}, Steps.Went}
use Rattle.dim_hierarchy.specs.Dimension.{Dimension}
use Rattle.list_words.specs.Counts.{Among, Each}
use Rattle.list_words.proofs.Each.{each-map}
use Rattle.row_ledger.proofs.Growth.{IsRight-kept}
use Rattle.row_ledger.specs.{Past.{event_at, session_in}, Right.IsRight, declared.event.Event.Event}
use Rattle.seat_steps.proofs.{Around.{around, asked-held, still-held, told-there, took-there}, Ranks.{order-more, order-none}, Since.extends-on}
use Rattle.seat_steps.specs.{Booked.{HasBooked, IsDue, IsUpToLedger}, Floors.{IsAround, IsSeated, Stands}, Made.HasMade, Takes.Takes, declared.floor.{Floor.Floor, Player.Player}}
use Rattle.turn_table.proofs.Numbered.{find_else, find_here, find_same, none_same}
use Rattle.turn_table.specs.{Numbered.{numbers_of, value_of}, Seat.{IsInOrder, cell_count}, Views.seen_of}
use Rattle.core_due.specs.volap_cell.specs.{Cells.{CellValue, cell_of, ledger_in}, Setting.{Setting, actor_count, ledger_cell, site_in}, State.{AreDifferent, Exchange, changes_of, exchange_if}, Steps.{IsKept, history_in}, Values.{ActorValue, actor_of}, World.{Agrees, MustKeep, World, after, put}, declared.cell.Cell.Cell, declared.kind.Kind.Kind}
use Rattle.volap_turns.specs.{Rows.{AreAt, IsThere, cells_for, maybe_cell}, Rule.history_of}
use Rattle.volap_turns.proofs.{Known.{swaps-found, there-same}, Placed.length-numbers}

-- Cells at places.

-- what is there in a list is there in a longer one
there-more : (p : ℕ × Cell) (ps : List (ℕ × Cell)) (k : ℕ) → IsThere ps k → IsThere (p ∷ ps) k
there-more p ps k there = by (p.0 == k)
  where
    by : (b : Bool) → (c : Cell) × (cond b (some p.1) (value_of ps k) ≡ some c)
    by true = (p.1, refl)
    by false = there

each-there : (ps : List (ℕ × Cell)) → Each (IsThere ps) (numbers_of ps)
each-there [] = tt
each-there (p ∷ ps) = ((p.1, find_here ps p.0 p.1), each-map (IsThere ps) (IsThere (p ∷ ps)) (numbers_of ps) (there-more p ps) (each-there ps))

-- the held cells are at the places whose numbers they have
pub at-places : (row : List (Option ℕ)) (held : List (ℕ × Cell)) → numbers_of held ≡ numbers row → AreDifferent (numbers row) → AreAt row held
at-places row held e apart = record {
  there = subst (λ (ys : List ℕ). Each (IsThere held) ys) e (each-there held);
  apart = apart;
  count = sym (length-numbers held) ∙ ap (λ (ys : List ℕ). length ys) e;
}

each-between : (P : ℕ → Type 0) (ys : List ℕ) (k : ℕ) (more : List ℕ) → Each P (ys ++ k ∷ more) → P k
each-between P [] k more each = each.0
each-between P (y ∷ ys) k more each = each-between P ys k more each.1

off-before : {A : Type 0} (ps : List (ℕ × A)) (k : ℕ) (more : List ℕ) → AreDifferent (numbers_of ps ++ k ∷ more) → value_of ps k ≡ none
off-before [] k more apart = refl
off-before (p ∷ ps) k more apart =
    find_else ps p.0 k p.1 (λ e. each-between (λ z. z ≢ p.0) (numbers_of ps) k more apart.0 (sym e)) ∙ off-before ps k more apart.1

-- the next cell of a step that is due is one of the table, and isn't held yet
pub next-cell : (f : Floor) (p : Player) (row : List (Option ℕ)) {Asks : List Dimension → List (Option CellValue) → ActorValue → Type 0} → IsSeated f p → IsDue f p row Asks
    → (k : ℕ) (more : List ℕ) → numbers_of p.seat.ranks ++ k ∷ more ≡ numbers row → (k < cell_count f.table) × (value_of p.seat.view.held k ≡ none)
next-cell f p row seated due k more named =
    let it = around f p seated in
    let prepared = due.prepared it.0 it.1 it.2 in
    let lent = each-between _ (numbers_of p.seat.ranks) k more (subst (Each _) (sym named) prepared.cells) in (
      subst (λ (n : ℕ). k < n) it.2.cells lent.within,
      none_same p.seat.ranks p.seat.view.held k (sym seated.holds.rows) (off-before p.seat.ranks k more (subst AreDifferent (sym named) prepared.apart)),
    )

-- all cells are held once the last one is
pub all-held : {rank last : ℕ} (f : Floor) (was now : Player) (row : List (Option ℕ)) → IsSeated f was → Takes last rank was now → numbers_of was.seat.ranks ++ last ∷ [] ≡ numbers row → AreDifferent (numbers row) → AreAt row now.seat.view.held
all-held {rank} {last} f was now row seated took named apart =
    at-places row now.seat.view.held
    (ap (λ (l : List (ℕ × Cell)). numbers_of l) took.held ∙ numbers-append was.seat.view.held ((last, took.value) ∷ []) ∙ ap (λ (l : List ℕ). l ++ last ∷ []) seated.holds.rows ∙ named)
    apart
  where
    numbers-append : (ps qs : List (ℕ × Cell)) → numbers_of (ps ++ qs) ≡ numbers_of ps ++ numbers_of qs
    numbers-append [] qs = refl
    numbers-append (p ∷ ps) qs = ap (λ (l : List ℕ). p.0 ∷ l) (numbers-append ps qs)

-- States.

-- a state that the seat may be in behind a take is one that it could be in before
pub around-before : {cell rank : ℕ} (f : Floor) {was now : Player} → Takes cell rank was now → value_of was.seat.view.held ledger_cell ≡ none
    → (s : Setting) (w : World) → IsAround f now s w → IsAround f was s w
around-before f {was} {now} took off s w is =
    let number = took.same.number in record {
      about = is.about;
      servers = is.servers;
      workers = is.workers;
      inv = is.inv;
      pulling = is.pulling;
      counted = subst (λ (x : ℕ × ℕ). IsCounted s w x.0 x.1) (λ i. (number i, (took.same.actor i).went)) is.counted;
      actor = ap w.actors (sym number) ∙ is.actor ∙ ap actor_of took.same.actor;
      there = subst (λ (n : ℕ). n < actor_count s) number is.there;
      cells = is.cells;
      held = λ k c e. is.held k c (still-held took k c e);
      free = λ k c e j ne. is.free k c (still-held took k c e) j (λ x. ne (x ∙ number));
      behind = extends-on (history_in w) now.seat.view.seen was.seat.view.seen is.behind took.same.seen;
      seen = λ c e. absurd (some-ne-none c (sym e ∙ off));
    }

-- so what was due before is due still
pub due-still : {cell rank : ℕ} (f : Floor) {was now : Player} (row : List (Option ℕ)) {Asks : List Dimension → List (Option CellValue) → ActorValue → Type 0} → Takes cell rank was now
    → value_of was.seat.view.held ledger_cell ≡ none → IsDue f was row Asks → IsDue f now row Asks
due-still f {was} {now} row {Asks} took off due = record {
  prepared = λ s w is. subst (λ (n : ℕ). IsPrepared s w n row (Asks s.hierarchy) ⊤) (sym took.same.number) (due.prepared s w (around-before f took off s w is));
}

-- The history.

module _ (f : Floor) (p : Player) (s : Setting) (w : World) (is : IsAround f p s w) where
  -- the actor has noted all that it has begun
  pub noted-all : (c : Cell) → value_of p.seat.view.held ledger_cell ≡ some c → (q : ℕ) → option_and_then session_in (event_at p.seat.view.seen q) ≡ Some p.number → q < (actor_of p.actor).seen
  noted-all c held q e =
      let low = is.inv.holds.telling.last p.number q (ap (λ (l : List Event). option_and_then session_in (event_at l q)) (is.seen c held) ∙ e) in
      subst (λ (a : ActorValue). q < a.seen) is.actor low

  -- The state agrees with what is exchanged of the held cells.

  cells-agree : (xs : List Exchange) → Each (λ x. value_of p.seat.view.held x.number ≡ some x.before) xs → Each (λ c. w.cells c.number ≡ c.before) (changes_of xs)
  cells-agree [] held = tt
  cells-agree (x ∷ xs) held = (is.held x.number x.before held.0, cells-agree xs held.1)

  free-each : (xs : List Exchange) → Each (λ x. value_of p.seat.view.held x.number ≡ some x.before) xs → (j : ℕ) → j ≢ p.number → Each (λ c. ¬ MustKeep (w.actors j) c.number) (changes_of xs)
  free-each [] held j ne = tt
  free-each (x ∷ xs) held j ne = (is.free x.number x.before held.0 j ne, free-each xs held.1 j ne)

  agrees-held : (xs : List Exchange) → Each (λ x. value_of p.seat.view.held x.number ≡ some x.before) xs → Agrees w (changes_of xs) p.number (actor_of p.actor)
  agrees-held xs held = record { cells = cells-agree xs held; actor_is = is.actor; free = free-each xs held }

-- what a cell is behind a step
now-at : (held new : List (ℕ × Cell)) (row : List (Option ℕ)) → Each (IsThere held) (numbers row) → Each (IsThere new) (numbers row) → (cells : ℕ → CellValue) (y : ℕ) (d : Cell) → Among y (numbers row) → value_of new y ≡ some d
    → put (changes_of (swaps row (cells_for held row) (cells_for new row))) cells y ≡ cell_of d
now-at held new [] there there_now cells y d among e = absurd among
now-at held new (None ∷ row) there there_now cells y d among e = now-at held new row there there_now cells y d among e
now-at held new (Some z ∷ row) there there_now cells y d among e =
    subst (λ (o : Option Cell × Option Cell). put (changes_of (exchange_if z o.0 o.1 ++ swaps row (cells_for held row) (cells_for new row))) cells y ≡ cell_of d)
    (λ i. (maybe_cell (sym there.0.1 i), maybe_cell (sym there_now.0.1 i))) (dite (ℕ_discrete y z)
    (λ (same : y ≡ z). rw (eq-eqb y z same) (ap cell_of (some-injective there_now.0.0 d (sym there_now.0.1 ∙ ap (value_of new) (sym same) ∙ e))))
    (λ (ne : y ≢ z). rw (ne_eqb y z ne) (now-at held new row there.1 there_now.1 cells y d (else among ne) e)))
  where
    else : (y ≡ z) ⊎ Among y (numbers row) → y ≢ z → Among y (numbers row)
    else (inl same) ne = absurd (ne same)
    else (inr among) ne = among

among-last : (ys : List ℕ) (k : ℕ) → Among k (ys ++ k ∷ [])
among-last [] k = inl refl
among-last (y ∷ ys) k = inr (among-last ys k)

-- with the event of a step the history is right
pub right-after : {kind : Kind} {Sees : Setting → World → ℕ → Type 0} (f : Floor) (p : Player) (s : Setting) (w : World) → IsAround f p s w → (row : List (Option ℕ)) → AreAt row p.seat.view.held
    → (before : List ℕ) → before ++ ledger_cell ∷ [] ≡ numbers row → (new : List (ℕ × Cell)) (b : ActorValue) → numbers_of new ≡ numbers_of p.seat.view.held
    → Went f.hierarchy kind Sees row (cells_for p.seat.view.held row) (cells_for new row) (actor_of p.actor) b → Sees s w p.number
    → (d : Cell) → value_of new ledger_cell ≡ some d → IsRight (site_in b.setting) (history_of d)
right-after {kind} f p s w is row at before named new b alike went sees d there =
    let xs = swaps row (cells_for p.seat.view.held row) (cells_for new row) in
    let there_now = there-same p.seat.view.held new (numbers row) (sym alike) at.there in
    let now = after w (changes_of xs) p.number b in
    let kept : IsKept s kind p.number w now is.inv.ghost_of =
    went.makes.keeps s w p.number is.inv.ghost_of is.about is.inv.holds (agrees-held f p s w is xs (swaps-found p.seat.view.held row (cells_for new row) at.there)) (went.sight s w p.number sees) in
    let me : now.actors p.number ≡ b = rw (eq-eqb p.number p.number refl) refl in
    let setting : b.setting ≡ s = ap (λ (z : ActorValue). z.setting) (sym me) ∙ kept.holds.numbering.about p.number in
    let history : history_in now ≡ history_of d = ap (λ (c : CellValue). (ledger_in c).history) (now-at p.seat.view.held new row at.there there_now w.cells ledger_cell d (subst (Among ledger_cell) named (among-last before ledger_cell)) there) in
    subst (λ (x : Setting × List Event). IsRight (site_in x.0) x.1) (λ i. (sym setting i, history i))
    (IsRight-kept (site_in s) kept.ghost_now.placed (history_in now) kept.holds.telling.right)

-- A step over all cells that are held.

module _ (f : Floor) (p : Player) (row : List (Option ℕ)) {Asks : List Dimension → List (Option CellValue) → ActorValue → Type 0} (seated : IsSeated f p) (due : IsDue f p row Asks) (named : numbers_of p.seat.ranks ≡ numbers row) where
  abbrev here : (s : Setting) × (w : World) × IsAround f p s w
  here = around f p seated

  due-here : IsPrepared here.0 here.1 p.number row (Asks (here.0).hierarchy) ⊤
  due-here = due.prepared here.0 here.1 here.2

  pub due-at : AreAt row p.seat.view.held
  due-at = at-places row p.seat.view.held (seated.holds.rows ∙ named) due-here.apart

  pub due-asked : Asks f.hierarchy (values (cells_for p.seat.view.held row)) (actor_of p.actor)
  due-asked = subst (λ (h : List Dimension). Asks h (values (cells_for p.seat.view.held row)) (actor_of p.actor)) (here.2).about (asked-held f p here.0 here.1 here.2 row (Asks (here.0).hierarchy) due-at due-here.asked)

-- The step with the ledger as a whole.

module _ (f : Floor) (was mid : Player) (row : List (Option ℕ)) {Asks : List Dimension → List (Option CellValue) → ActorValue → Type 0} (seated : IsSeated f was) (seated_mid : IsSeated f mid) (took : Takes ledger_cell 8 was mid) (held : IsUpToLedger was row) (due : IsDue f was row Asks) where
  abbrev off : value_of was.seat.view.held ledger_cell ≡ none
  off = (next-cell f was row seated due ledger_cell [] held.named).1

  abbrev it : (s : Setting) × (w : World) × IsAround f mid s w
  it = around f mid seated_mid

  due-mid : IsPrepared it.0 it.1 mid.number row (Asks (it.0).hierarchy) ⊤
  due-mid = (due-still f row took off due).prepared it.0 it.1 it.2

  -- the cells are at the places
  pub booked-at : AreAt row mid.seat.view.held
  booked-at = all-held f was mid row seated took held.named due-mid.apart

  -- and are as the step asks
  pub booked-asked : Asks f.hierarchy (values (cells_for mid.seat.view.held row)) (actor_of mid.actor)
  booked-asked = subst (λ (h : List Dimension). Asks h (values (cells_for mid.seat.view.held row)) (actor_of mid.actor)) (it.2).about (asked-held f mid it.0 it.1 it.2 row (Asks (it.0).hierarchy) booked-at due-mid.asked)

  pub has-booked : {kind : Kind} {See : Setting → World → ℕ → Type 0} {Tells : ActorValue → (was now : List (Option CellValue)) → Type 0} (now : Player) → ((s : Setting) (w : World) (n : ℕ) → See s w n) → Stands f now → HasMade f.hierarchy kind See Tells row mid now
      → HasBooked f kind See Tells row was now
  has-booked now sees stands made =
      let there = took-there took off in
      let there_now = find_same mid.seat.view.held made.new ledger_cell there.0 (sym made.numbers) there.1 in
      let seen : now.seat.view.seen ≡ history_of there_now.0 = made.seen ∙ ap (λ o. seen_of history_of o mid.seat.view.seen) there_now.1 in
      record {
        stands = stands;
        mid = mid;
        took = took;
        seated = seated_mid;
        at = booked-at;
        made = made;
        whole = λ c e. ap (λ (x : CellValue). (ledger_in x).history) (sym ((it.2).held ledger_cell c e)) ∙ (it.2).seen c e;
        noted = λ q e. subst (λ (a : ActorValue). q < a.seen) (ap actor_of took.same.actor) (noted-all f mid it.0 it.1 it.2 there.0 there.1 q (e ∙ ap Some (sym took.same.number)));
        right = subst (λ (l : List Event). IsRight (site_in (actor_of now.actor).setting) l) (sym seen)
            (right-after f mid it.0 it.1 it.2 row booked-at (numbers_of was.seat.ranks) held.named made.new (actor_of now.actor) made.numbers made.went (sees it.0 it.1 mid.number) there_now.0 there_now.1);
      }

-- Ranks and counts.

pub order-image : (desk image : ℕ) → IsInOrder ((desk, Some 4) ∷ []) image 5
order-image desk image = order-more [] desk 4 image 5 (omega arith, λ e. absurd (omega (arith, e))) (order-none image 5)

pub one-below : 1 < 7
one-below = omega arith

-- as many cells are held as ranks were told
pub held-below : (f : Floor) (p : Player) → IsSeated f p → (most : ℕ) → length p.seat.ranks < most → length p.seat.view.held < most
held-below f p seated most few =
    subst (λ (k : ℕ). k < most) (sym (length-numbers p.seat.ranks) ∙ sym (ap (λ (l : List ℕ). length l) seated.holds.rows) ∙ length-numbers p.seat.view.held) few

pub few-held : (f : Floor) (p : Player) → IsSeated f p → (ranks : List (ℕ × Option ℕ)) → p.seat.ranks ≡ ranks → 0 < length ranks → length ranks ≤ 7 → (0 < length p.seat.view.held) × (length p.seat.view.held ≤ 7)
few-held f p seated ranks e more most =
    subst (λ (k : ℕ). (0 < k) × (k ≤ 7))
    (ap (λ (l : List (ℕ × Option ℕ)). length l) (sym e) ∙ sym (length-numbers p.seat.ranks) ∙ sym (ap (λ (l : List ℕ). length l) seated.holds.rows) ∙ length-numbers p.seat.view.held)
    (more, most)

one-more : (a b : ℕ) → a ≡ b + 1 → b < 7 → (0 < a) × (a ≤ 7)
one-more a b e few = (omega arith, omega arith)

-- with the ledger one cell more is held
pub some-held : (f : Floor) (was mid : Player) {row : List (Option ℕ)} → IsSeated f was → IsUpToLedger was row → Takes ledger_cell 8 was mid → (0 < length mid.seat.view.held) × (length mid.seat.view.held ≤ 7)
some-held f was mid seated held took =
    one-more _ _ (ap (λ (l : List (ℕ × Cell)). length l) took.held ∙ length-append was.seat.view.held ((ledger_cell, took.value) ∷ [])) (held-below f was seated 7 held.few)

-- Cells that are held up to the ledger.

pub up-none : (p : Player) → p.seat.ranks ≡ [] → IsUpToLedger p (one_at ledger_cell)
up-none p e = subst (λ (l : List (ℕ × Option ℕ)). IsUpToLedger (record p { seat = record p.seat { ranks = l } }) (one_at ledger_cell)) (sym e) (record { named = refl; few = omega arith; order = order-none ledger_cell 8 })

pub up-one : (p : Player) (x rank : ℕ) → rank < 8 → p.seat.ranks ≡ (x, Some rank) ∷ [] → IsUpToLedger p (two_at x ledger_cell)
up-one p x rank low e = subst (λ (l : List (ℕ × Option ℕ)). IsUpToLedger (record p { seat = record p.seat { ranks = l } }) (two_at x ledger_cell)) (sym e) (record {
  named = refl;
  few = omega arith;
  order = order-more [] x rank ledger_cell 8 (omega arith, λ same. absurd (omega (arith, same))) (order-none ledger_cell 8);
})

pub up-two : (p : Player) (x y low high : ℕ) → low < 8 → high < 8 → p.seat.ranks ≡ (x, Some low) ∷ (y, Some high) ∷ [] → IsUpToLedger p (three_at x y ledger_cell)
up-two p x y low high below below_too e = subst (λ (l : List (ℕ × Option ℕ)). IsUpToLedger (record p { seat = record p.seat { ranks = l } }) (three_at x y ledger_cell)) (sym e) (record {
  named = refl;
  few = omega arith;
  order = order-more ((y, Some high) ∷ []) x low ledger_cell 8 (omega arith, λ same. absurd (omega (arith, same)))
      (order-more [] y high ledger_cell 8 (omega arith, λ same. absurd (omega (arith, same))) (order-none ledger_cell 8));
})

-- the first cell for which a rank was told is held
pub first-there : (f : Floor) (p : Player) → IsSeated f p → (x rank : ℕ) (more : List (ℕ × Option ℕ)) → p.seat.ranks ≡ (x, Some rank) ∷ more → IsThere p.seat.view.held x
first-there f p seated x rank more e = told-there f p seated x (Some rank) (ap (λ (l : List (ℕ × Option ℕ)). value_of l x) e ∙ find_here more x (Some rank))

pub above-none : (x : ℕ) → 0 < x → x ≢ 0
above-none x low e = omega arith

-- and who holds a desk alone holds no ledger
pub ledger-off : (f : Floor) (p : Player) → IsSeated f p → (desk rank : ℕ) → 0 < desk → p.seat.ranks ≡ (desk, Some rank) ∷ [] → value_of p.seat.view.held ledger_cell ≡ none
ledger-off f p seated desk rank low e =
    none_same p.seat.ranks p.seat.view.held ledger_cell (sym seated.holds.rows)
    (ap (λ (l : List (ℕ × Option ℕ)). value_of l ledger_cell) e ∙ find_else [] desk ledger_cell (Some rank) (above-none desk low))
