-- Cells that are taken one after the other: what is held then, which ranks may still be told, and that their order is of no matter.
use Rattle.std.proofs.Common.{◌≡◌, ◌≢◌, ◌∙◌, ℕ, ◌+◌, ◌<◌, ◌≤◌, List, [], ◌∷◌, ◌++◌, length, Option, Some, inl, inr, sym, ap, subst, arith, length-append}
use mathlib.Core.Option.{none}
use Rattle.job_steps.specs.Turns.{AreInOrder, IsBehind, MayTake, TakesSome}
use Rattle.list_words.specs.Counts.{Each}
use Rattle.list_words.proofs.Each.{each-append, each-both, each-left, each-map, each-right}
use Rattle.seat_steps.proofs.{Around.{still-held, took-there}, Ranks.{order-more, order-none}, Since.extends-on}
use Rattle.seat_steps.specs.{Takes.{IsSameActor, Takes, TakesTurn}, declared.floor.{Floor.Floor, Player.Player}}
use Rattle.turn_table.proofs.Numbered.{find_append, find_append_second, find_else}
use Rattle.turn_table.specs.{Numbered.value_of, Seat.{IsInOrder, free_rank}}
use Rattle.seat_steps.specs.volap_cell.specs.declared.cell.Cell.{Cell}
use Rattle.seat_steps.specs.volap_turns.specs.Rows.{IsThere}

-- Ranks.

-- what may come behind others and behind one more may come behind all of them
order-append : (ranks : List (ℕ × Option ℕ)) (at low cell rank : ℕ) → (low ≤ rank) × (low ≡ rank → rank ≢ free_rank → at < cell) → IsInOrder ranks cell rank → IsInOrder (ranks ++ (at, Some low) ∷ []) cell rank
order-append ranks at low cell rank here rest k r e = elim (find_append ranks ((at, Some low) ∷ []) k (Some r) e) [
  | inl old ↦ rest k r old
  | inr new ↦ order-more [] at low cell rank here (order-none cell rank) k r new
]

pub order-on : {at low : ℕ} {was now : Player} → Takes at low was now → (cell rank : ℕ) → (low ≤ rank) × (low ≡ rank → rank ≢ free_rank → at < cell) → IsInOrder was.seat.ranks cell rank → IsInOrder now.seat.ranks cell rank
order-on {at} {low} {was} took cell rank here rest = subst (λ (l : List (ℕ × Option ℕ)). IsInOrder l cell rank) (sym took.ranks) (order-append was.seat.ranks at low cell rank here rest)

-- behind a rank that may be told for one cell a higher one may be told for any
higher-order : (ranks : List (ℕ × Option ℕ)) (at rank cell higher : ℕ) → rank < higher → IsInOrder ranks at rank → IsInOrder ranks cell higher
higher-order ranks at rank cell higher lower order k r e =
    let low = (order k r e).0 in
    let below : r ≤ higher = omega (arith, lower, low) in
    (below, λ same other. absurd (omega (arith, lower, low, same)))

pub behind-one : {cell rank : ℕ} {was now : Player} → IsInOrder was.seat.ranks cell rank → Takes cell rank was now → IsBehind now rank
behind-one {cell} {rank} {was} order took at higher lower =
    let below : rank ≤ higher = omega (arith, lower) in
    order-on took at higher (below, λ same other. absurd (omega (arith, lower, same))) (higher-order was.seat.ranks cell rank at higher lower order)

-- Turns.

pub off-still : {cell : ℕ} {rank : Option ℕ} {was now : Player} → TakesTurn cell rank was now → (y : ℕ) → value_of was.seat.view.held y ≡ none → y ≢ cell → value_of now.seat.view.held y ≡ none
off-still {cell} {rank} {was} took y off ne =
    ap (λ (l : List (ℕ × Cell)). value_of l y) took.held ∙ find_append_second was.seat.view.held ((cell, took.value) ∷ []) y off ∙ find_else [] cell y took.value (λ e. ne (sym e))

pub one-count : {cell : ℕ} {rank : Option ℕ} {was now : Player} → TakesTurn cell rank was now → length now.seat.view.held ≡ length was.seat.view.held + 1
one-count {cell} {rank} {was} took = ap (λ (l : List (ℕ × Cell)). length l) took.held ∙ length-append was.seat.view.held ((cell, took.value) ∷ [])

pub takes-one : {cell rank : ℕ} {was now : Player} → value_of was.seat.view.held cell ≡ none → IsInOrder was.seat.ranks cell rank → Takes cell rank was now → TakesSome (cell ∷ []) rank was now
takes-one off order took = record {
  same = took.same;
  still = still-held took;
  there = (took-there took off, tt);
  others = λ k none apart. off-still took k none apart.0;
  count = one-count took;
  behind = behind-one order took;
}

pub same-on : {a b c : Player} → IsSameActor a b → IsSameActor b c → IsSameActor a c
same-on {a} {b} {c} e f = record { number = f.number ∙ e.number; actor = f.actor ∙ e.actor; seen = extends-on c.seat.view.seen b.seat.view.seen a.seat.view.seen f.seen e.seen }

pub takes-on : {ys zs : List ℕ} {low high : ℕ} {a b c : Player} → TakesSome ys low a b → TakesSome zs high b c → TakesSome (ys ++ zs) high a c
takes-on {ys} {zs} {low} {high} {a} {b} {c} first more = record {
  same = same-on first.same more.same;
  still = λ k x e. more.still k x (first.still k x e);
  there = each-append (IsThere c.seat.view.held) ys zs (each-map (IsThere b.seat.view.held) (IsThere c.seat.view.held) ys (λ y t. (t.0, more.still y t.0 t.1)) first.there) more.there;
  others = λ k off apart. more.others k (first.others k off (each-left (λ y. k ≢ y) ys zs apart)) (each-right (λ y. k ≢ y) ys zs apart);
  count = (let one = first.count in let two = more.count in let long = length-append ys zs in omega (arith, one, two, long));
  behind = more.behind;
}

-- What may still be taken behind a first one.

pub may-rest : {f : Floor} {cell : ℕ} {rank : Option ℕ} {was now : Player} {ys : List ℕ} → TakesTurn cell rank was now → MayTake f was (cell ∷ ys) → MayTake f now ys
may-rest {f} {cell} {rank} {was} {now} {ys} took may = record {
  within = may.within.1;
  apart = may.apart.1;
  other = each-both (λ y. value_of was.seat.view.held y ≡ none) (λ y. y ≢ cell) (λ y. value_of now.seat.view.held y ≡ none) ys (λ y off ne. off-still took y off ne) may.other.1 may.apart.0;
  room = (let room : length was.seat.view.held + length (cell ∷ ys) ≤ 7 = may.room in let many = one-count took in omega (arith, room, many));
}

pub order-rest : {low rank : ℕ} {was now : Player} (ys : List ℕ) → Takes low rank was now → Each (λ y. low < y) ys → AreInOrder was ys rank → AreInOrder now ys rank
order-rest {low} {rank} {was} {now} ys took up order =
    let same : rank ≤ rank = omega arith in
    each-both (λ y. low < y) (λ y. IsInOrder was.seat.ranks y rank) (λ y. IsInOrder now.seat.ranks y rank) ys (λ y less here. order-on took y rank (same, λ e other. less) here) up order

-- In another order.

off-sym : {x y : ℕ} → y ≢ x → x ≢ y
off-sym ne e = ne (sym e)

module _ {f : Floor} {p : Player} {x y : ℕ} where
  pub may-swap : MayTake f p (x ∷ y ∷ []) → MayTake f p (y ∷ x ∷ [])
  may-swap may = record {
    within = (may.within.1.0, (may.within.0, tt));
    apart = ((off-sym may.apart.0.0, tt), (tt, tt));
    other = (may.other.1.0, (may.other.0, tt));
    room = may.room;
  }

  module _ {z : ℕ} where
    -- the second one first
    pub may-second : MayTake f p (x ∷ y ∷ z ∷ []) → MayTake f p (y ∷ x ∷ z ∷ [])
    may-second may = record {
      within = (may.within.1.0, (may.within.0, may.within.1.1));
      apart = ((off-sym may.apart.0.0, may.apart.1.0), (may.apart.0.1, (tt, tt)));
      other = (may.other.1.0, (may.other.0, may.other.1.1));
      room = may.room;
    }

    -- the third one first
    pub may-third : MayTake f p (x ∷ y ∷ z ∷ []) → MayTake f p (z ∷ x ∷ y ∷ [])
    may-third may = record {
      within = (may.within.1.1.0, (may.within.0, (may.within.1.0, tt)));
      apart = ((off-sym may.apart.0.1.0, (off-sym may.apart.1.0.0, tt)), ((may.apart.0.0, tt), (tt, tt)));
      other = (may.other.1.1.0, (may.other.0, (may.other.1.0, tt)));
      room = may.room;
    }

module _ {rank : ℕ} {was now : Player} {x y : ℕ} where
  pub took-swap : TakesSome (y ∷ x ∷ []) rank was now → TakesSome (x ∷ y ∷ []) rank was now
  took-swap took = record {
    same = took.same;
    still = took.still;
    there = (took.there.1.0, (took.there.0, tt));
    others = λ k off apart. took.others k off (apart.1.0, (apart.0, tt));
    count = took.count;
    behind = took.behind;
  }

  module _ {z : ℕ} where
    pub took-second : TakesSome (y ∷ x ∷ z ∷ []) rank was now → TakesSome (x ∷ y ∷ z ∷ []) rank was now
    took-second took = record {
      same = took.same;
      still = took.still;
      there = (took.there.1.0, (took.there.0, took.there.1.1));
      others = λ k off apart. took.others k off (apart.1.0, (apart.0, apart.1.1));
      count = took.count;
      behind = took.behind;
    }

    pub took-third : TakesSome (z ∷ x ∷ y ∷ []) rank was now → TakesSome (x ∷ y ∷ z ∷ []) rank was now
    took-third took = record {
      same = took.same;
      still = took.still;
      there = (took.there.1.0, (took.there.1.1.0, (took.there.0, tt)));
      others = λ k off apart. took.others k off (apart.1.1.0, (apart.0, (apart.1.0, tt)));
      count = took.count;
      behind = took.behind;
    }
