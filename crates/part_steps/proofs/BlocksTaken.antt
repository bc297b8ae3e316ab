-- Blocks that are taken one after the other: what is held then, and that a state that the seat then may be in is one that it may have
-- been in before.
use Rattle.std.proofs.{Common.{◌≡◌, ◌≢◌, ◌∙◌, ℕ, ◌+◌, ◌<◌, ◌≤◌, List, [], ◌∷◌, ◌++◌, length, Option, Some, None, refl, sym, ap, subst, inl, inr, arith, append-nil, append_assoc, length-append}}
use mathlib.Core.Logic.{dite}
use mathlib.Core.Option.{none, some, some-injective, some-ne-none}
use native.Mathlib.Decide.{ℕ_discrete}
use Rattle.seat_steps.specs.core_counts.specs.Counting.{IsCounted}
use Rattle.seat_steps.specs.core_due.specs.Ready.{IsLendable, IsPrepared}
use Rattle.seat_steps.specs.core_steps.specs.Places.{number_at, numbers}
use Rattle.list_words.specs.Counts.{Each}
use Rattle.list_words.proofs.Each.{each-both, each-here, each-left, each-map, each-right}
use Rattle.part_steps.specs.Heads.{AreUpToBlocks, CanTake, InAll, TakesAll, at_blocks}
use Rattle.seat_steps.specs.{Floors.{IsAround, IsSeated}, Takes.{IsSameActor, Takes}, declared.floor.{Floor.Floor, Player.Player}}
use Rattle.seat_steps.proofs.Around.{around}
use Rattle.turn_table.specs.{Numbered.{Extends, numbers_of, value_of}, Seat.{cell_count, free_rank}}
use Rattle.turn_table.proofs.{Numbered.{find_append, find_append_first, find_append_second, find_else, find_here}, Seats.numbers_append}
use Rattle.seat_steps.specs.volap_cell.specs.{Cells.{CellValue, ledger_in}, Setting.{Setting, ledger_cell}, State.AreDifferent, Steps.history_in, Values.{ActorValue, actor_of}, World.World, declared.actor.Actor.Actor, declared.cell.Cell.Cell}
use Rattle.seat_steps.specs.volap_turns.specs.Rows.{AreAt, IsThere}
use Rattle.seat_steps.specs.volap_turns.proofs.Placed.{length-numbers}

-- Numbers that are apart.

pub apart-left : (ys zs : List ℕ) → AreDifferent (ys ++ zs) → AreDifferent ys
apart-left [] zs a = tt
apart-left (y ∷ ys) zs a = (each-left (λ z. z ≢ y) ys zs a.0, apart-left ys zs a.1)

pub apart-right : (ys zs : List ℕ) → AreDifferent (ys ++ zs) → AreDifferent zs
apart-right [] zs a = a
apart-right (y ∷ ys) zs a = apart-right ys zs a.1

pub apart-between : (ys zs : List ℕ) → AreDifferent (ys ++ zs) → Each (λ z. Each (λ y. z ≢ y) ys) zs
apart-between [] zs a = each-here (λ z. Unit {0}) zs (λ z among. tt)
apart-between (y ∷ ys) zs a = each-both (λ z. z ≢ y) (λ z. Each (λ x. z ≢ x) ys) (λ z. Each (λ x. z ≢ x) (y ∷ ys)) zs (λ z ne rest. (ne, rest)) (each-right (λ z. z ≢ y) ys zs a.0) (apart-between ys zs a.1)

module _ {A : Type 0} where
  -- a cell with another number isn't there
  pub none-there : (ps : List (ℕ × A)) (z : ℕ) → Each (λ y. z ≢ y) (numbers_of ps) → value_of ps z ≡ none
  none-there [] z off = refl
  none-there (p ∷ ps) z off = find_else ps p.0 z p.1 (λ e. off.0 (sym e)) ∙ none-there ps z off.1

  -- and each with one of the numbers is
  pub all-there : (ps : List (ℕ × A)) → Each (λ y. (x : A) × (value_of ps y ≡ some x)) (numbers_of ps)
  all-there [] = tt
  all-there (p ∷ ps) = (
    (p.1, find_here ps p.0 p.1),
    each-map (λ y. (x : A) × (value_of ps y ≡ some x)) (λ y. (x : A) × (value_of (p ∷ ps) y ≡ some x)) (numbers_of ps) (λ y there. dite (ℕ_discrete p.0 y)
        (λ (same : p.0 ≡ y). (p.1, ap (value_of (p ∷ ps)) (sym same) ∙ find_here ps p.0 p.1))
        (λ (ne : p.0 ≢ y). (there.0, find_else ps p.0 y p.1 ne ∙ there.1))) (all-there ps),
  )

  pub extends-on : (xs ys zs : List A) → Extends xs ys → Extends ys zs → Extends xs zs
  extends-on xs ys zs e f = (e.0 ++ f.0, e.1 ∙ ap (λ (l : List A). e.0 ++ l) f.1 ∙ sym (append_assoc e.0 f.0 zs))

-- Ranks.

pub up-one : (y rank : ℕ) (ranks : List (ℕ × Option ℕ)) → rank ≤ free_rank → AreUpToBlocks ranks → AreUpToBlocks ((y, Some rank) ∷ ranks)
up-one y rank ranks low up k r e = dite (ℕ_discrete y k)
    (λ (same : y ≡ k). inner (some-injective (Some rank) (Some r) (sym (find_here ranks y (Some rank)) ∙ ap (value_of ((y, Some rank) ∷ ranks)) same ∙ e)))
    (λ (ne : y ≢ k). up k r (sym (find_else ranks y k (Some rank) ne) ∙ e))
  where
    inner : Some rank ≡ Some r → r ≤ free_rank
    inner is = (let same : rank ≡ r = cc in omega arith)

pub free-ranks : (ys : List ℕ) → AreUpToBlocks (at_blocks ys)
free-ranks [] = λ k r e. absurd (some-ne-none (Some r) (sym e))
free-ranks (y ∷ ys) = up-one y free_rank (at_blocks ys) (omega arith) (free-ranks ys)

map-append : (ys zs : List ℕ) → at_blocks (ys ++ zs) ≡ at_blocks ys ++ at_blocks zs
map-append [] zs = refl
map-append (y ∷ ys) zs = ap (λ (l : List (ℕ × Option ℕ)). (y, Some free_rank) ∷ l) (map-append ys zs)

-- What is held.

module _ {ys : List ℕ} {was now : Player} (took : TakesAll ys was now) where
  pub up-still : AreUpToBlocks was.seat.ranks → AreUpToBlocks now.seat.ranks
  up-still up k r e = elim (find_append was.seat.ranks (at_blocks ys) k (Some r) (ap (λ (l : List (ℕ × Option ℕ)). value_of l k) (sym took.ranks) ∙ e)) [
    | inl old ↦ up k r old
    | inr new ↦ free-ranks ys k r new
  ]

  pub held-more : length now.seat.view.held ≡ length was.seat.view.held + length ys
  held-more =
      let held = ap (λ (l : List (ℕ × Cell)). length l) took.held in
      let many = length-append was.seat.view.held took.more in
      let numbers = length-numbers took.more in
      let same = ap (λ (l : List ℕ). length l) took.numbers_are in
      omega arith

  pub held-still : (k : ℕ) (c : Cell) → value_of was.seat.view.held k ≡ some c → value_of now.seat.view.held k ≡ some c
  held-still k c e = ap (λ (l : List (ℕ × Cell)). value_of l k) took.held ∙ find_append_first was.seat.view.held took.more k c e

  pub numbers-held : numbers_of now.seat.view.held ≡ numbers_of was.seat.view.held ++ ys
  numbers-held = ap (λ (l : List (ℕ × Cell)). numbers_of l) took.held ∙ numbers_append was.seat.view.held took.more ∙ ap (λ (l : List ℕ). numbers_of was.seat.view.held ++ l) took.numbers_are

  pub taken-there : Each (IsThere now.seat.view.held) ys
  taken-there =
      each-right (IsThere now.seat.view.held) (numbers_of was.seat.view.held) ys (subst (Each (IsThere now.seat.view.held)) numbers-held (all-there now.seat.view.held))

  -- others can still be taken
  pub can-rest : (f : Floor) (zs : List ℕ) → CanTake f was (ys ++ zs) → CanTake f now zs
  can-rest f zs can = record {
    within = each-right (λ y. y < cell_count f.table) ys zs can.within;
    apart = apart-right ys zs can.apart;
    other = each-both (λ z. value_of was.seat.view.held z ≡ none) (λ z. Each (λ y. z ≢ y) ys) (λ z. value_of now.seat.view.held z ≡ none) zs
        (λ z off apart. ap (λ (l : List (ℕ × Cell)). value_of l z) took.held ∙ find_append_second was.seat.view.held took.more z off ∙ none-there took.more z (subst (Each (λ y. z ≢ y)) (sym took.numbers_are) apart))
        (each-right (λ y. value_of was.seat.view.held y ≡ none) ys zs can.other) (apart-between ys zs can.apart);
  }

-- at most one more
pub one-more : (o : Option ℕ) (was now : Player) → TakesAll (number_at o) was now → length now.seat.view.held ≤ length was.seat.view.held + 1
one-more None was now took = (let many = held-more took in omega arith)
one-more (Some y) was now took = (let many = held-more took in omega arith)

pub can-first : (f : Floor) (p : Player) (ys zs : List ℕ) → CanTake f p (ys ++ zs) → CanTake f p ys
can-first f p ys zs can = record {
  within = each-left (λ y. y < cell_count f.table) ys zs can.within;
  apart = apart-left ys zs can.apart;
  other = each-left (λ y. value_of p.seat.view.held y ≡ none) ys zs can.other;
}

-- One after the other.

pub same-on : (a b c : Player) → IsSameActor a b → IsSameActor b c → IsSameActor a c
same-on a b c e f = record { number = f.number ∙ e.number; actor = f.actor ∙ e.actor; seen = extends-on c.seat.view.seen b.seat.view.seen a.seat.view.seen f.seen e.seen }

pub takes-none : (p : Player) → TakesAll [] p p
takes-none p = record {
  same = record { number = refl; actor = refl; seen = ([], refl) };
  ranks = sym (append-nil p.seat.ranks);
  more = [];
  numbers_are = refl;
  held = sym (append-nil p.seat.view.held);
}

pub takes-one : (cell : ℕ) (was now : Player) → Takes cell free_rank was now → TakesAll (cell ∷ []) was now
takes-one cell was now took = record { same = took.same; ranks = took.ranks; more = (cell, took.value) ∷ []; numbers_are = refl; held = took.held }

pub takes-on : {ys zs : List ℕ} (a b c : Player) → TakesAll ys a b → TakesAll zs b c → TakesAll (ys ++ zs) a c
takes-on {ys} {zs} a b c first more = record {
  same = same-on a b c first.same more.same;
  ranks = more.ranks ∙ ap (λ (l : List (ℕ × Option ℕ)). l ++ at_blocks zs) first.ranks ∙ append_assoc a.seat.ranks (at_blocks ys) (at_blocks zs) ∙ ap (λ (l : List (ℕ × Option ℕ)). a.seat.ranks ++ l) (sym (map-append ys zs));
  more = first.more ++ more.more;
  numbers_are = numbers_append first.more more.more ∙ (λ k. first.numbers_are k ++ more.numbers_are k);
  held = more.held ∙ ap (λ (l : List (ℕ × Cell)). l ++ more.more) first.held ∙ append_assoc a.seat.view.held first.more more.more;
}

-- States.

module _ (f : Floor) {ys : List ℕ} {was now : Player} (seated : IsSeated f was) (took : TakesAll ys was now) where
  pub around-before : (s : Setting) (w : World) → IsAround f now s w → IsAround f was s w
  around-before s w a =
      let still = held-still took in
      let number = took.same.number in
      record {
        about = a.about;
        servers = a.servers;
        workers = a.workers;
        inv = a.inv;
        pulling = a.pulling;
        counted = subst (λ (x : ℕ × Actor). IsCounted s w x.0 x.1.went) (λ j. (number j, took.same.actor j)) a.counted;
        actor = ap w.actors (sym number) ∙ a.actor ∙ ap (λ (x : Actor). actor_of x) took.same.actor;
        there = (let there = a.there in omega arith);
        cells = a.cells;
        held = λ k c e. a.held k c (still k c e);
        free = λ k c e j ne. a.free k c (still k c e) j (λ same. ne (same ∙ number));
        behind = extends-on (history_in w) now.seat.view.seen was.seat.view.seen a.behind took.same.seen;
        -- who held the ledger had seen the history whole, and has it still
        seen = λ c e. (
            let b = around f was seated in
            let same : w.cells ledger_cell ≡ b.1.cells ledger_cell = a.held ledger_cell c (still ledger_cell c e) ∙ sym (b.2.held ledger_cell c e) in
            ap (λ (x : CellValue). (ledger_in x).history) same ∙ b.2.seen c e
            );
      }

-- what is still to be taken when the first of it is, by whatever number it was found
pub left-more : (f : Floor) (o : Option ℕ) (was now : Player) (h : World → Option ℕ) (g : World → Option ℕ → List (Option ℕ)) → IsSeated f was → TakesAll (number_at o) was now → InAll f was (λ w. o ≡ h w)
    → InAll f was (λ w. CanTake f was (numbers (h w ∷ g w (h w)))) → InAll f now (λ w. CanTake f now (numbers (g w o)))
left-more f o was now h g seated took is left s w a =
    let b = around-before f seated took s w a in
    can-rest took f (numbers (g w o)) (subst (λ (p : Option ℕ). CanTake f was (number_at p ++ numbers (g w p))) (sym (is s w b)) (left s w b))

pub first-left : (f : Floor) (p : Player) (h : World → Option ℕ) (g : World → List (Option ℕ)) → InAll f p (λ w. CanTake f p (numbers (h w ∷ g w))) → InAll f p (λ w. CanTake f p (number_at (h w)))
first-left f p h g left s w a = can-first f p (number_at (h w)) (numbers (g w)) (left s w a)

-- Of a step that is prepared.

-- what it holds besides the cells that are held can be taken
pub can-take : (f : Floor) (p : Player) (front ys : List ℕ) (row : List (Option ℕ)) (s : Setting) (w : World) (Asks : List (Option CellValue) → ActorValue → Type 0) (If : Type 0) → IsAround f p s w
    → numbers_of p.seat.view.held ≡ front → numbers row ≡ front ++ ys → IsPrepared s w p.number row Asks If → CanTake f p ys
can-take f p front ys row s w Asks If a held is prepared =
    let apart = subst AreDifferent is prepared.apart in record {
      within = each-right (λ y. y < cell_count f.table) front ys (subst (Each (λ y. y < cell_count f.table)) is (each-map (IsLendable s w p.number If) (λ y. y < cell_count f.table) (numbers row) (λ y can. (let low = can.within in let count = a.cells in omega arith)) prepared.cells));
      apart = apart-right front ys apart;
      other = each-map (λ z. Each (λ y. z ≢ y) front) (λ z. value_of p.seat.view.held z ≡ none) ys (λ z off. none-there p.seat.view.held z (subst (Each (λ y. z ≢ y)) (sym held) off)) (apart-between front ys apart);
    }

-- its cells are held where their numbers are those that are held
pub are-at : (row : List (Option ℕ)) (held : List (ℕ × Cell)) → numbers_of held ≡ numbers row → AreDifferent (numbers row) → AreAt row held
are-at row held is apart = record {
  there = subst (Each (IsThere held)) is (all-there held);
  apart = apart;
  count = sym (length-numbers held) ∙ ap (λ (l : List ℕ). length l) is;
}
