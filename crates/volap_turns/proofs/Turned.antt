-- What becomes of a seat by a step that was made, or that found no memory.
use Rattle.std.proofs.Common.{◌≡◌, ◌∙◌, ℕ, Bool, true, false, if◌then◌else◌, is_some, List, [], ◌∷◌, Result, Ok, Err, is_ok, refl, sym, ap, subst, inl, inr}
use Rattle.std.specs.Prelude.{OnErr, OnOk}
use mathlib.Core.Option.{some}
use Rattle.atomic_table.specs.Seated.{TableId}
use Rattle.core_counts.specs.Counting.{went_after, went_if}
use Rattle.dim_hierarchy.specs.Dimension.{Dimension}
use Rattle.row_ledger.specs.declared.event.Event.{Event}
use Rattle.turn_table.specs.{Numbered.{after_first, numbers_of, replace, value_of}, Seat.SeatValue, Views.after_commit}
use Rattle.turn_table.proofs.Numbered.{find_same, replace_else, replace_found, replace_here}
use Rattle.core_told.specs.volap_cell.specs.{Setting.ledger_cell, Values.{ActorValue, actor_of}, World.MustKeep, declared.actor.Actor.Actor, declared.cell.Cell.Cell}
use Rattle.volap_turns.specs.{Rows.IsThere, Rule.{Needs, history_of}, Seats.{Holds}, Wholes.CanBe, declared.counts.Count.Count}

-- What is known where a call went, and where it found no memory.

pub when-ok : {T E : Type 0} (r : Result T E) {P : Type 0} → OnOk r P → is_ok r ≡ true → P
when-ok (Ok x) p e = p
when-ok (Err x) p e = absurd (cc)

pub when-err : {T E : Type 0} (r : Result T E) {P : Type 0} → OnErr r P → is_ok r ≡ false → P
when-err (Ok x) p e = absurd (cc)
when-err (Err x) p e = p

pub as-ok : {T E : Type 0} (r : Result T E) {P : Type 0} → P → OnOk r P
as-ok (Ok x) p = p
as-ok (Err x) p = tt

pub as-err : {T E : Type 0} (r : Result T E) {P : Type 0} → P → OnErr r P
as-err (Ok x) p = tt
as-err (Err x) p = p

-- of two lists with the same numbers, what stands behind the first has the same numbers
pub numbers-first : {A B : Type 0} (ps : List (ℕ × A)) (qs : List (ℕ × B)) → numbers_of ps ≡ numbers_of qs → numbers_of (after_first ps) ≡ numbers_of (after_first qs)
numbers-first [] [] e = refl
numbers-first [] (q ∷ qs) e = absurd (cc)
numbers-first (p ∷ ps) [] e = absurd (cc)
numbers-first (p ∷ ps) (q ∷ qs) e = cc

-- What was counted.

-- what the count is made of, before a step
abbrev pub count_of : ActorValue → ℕ → Count
count_of a went = record { begun = is_some a.command; at_part = is_some a.errand; went = went }

-- the number behind a step, whether it was made or not
abbrev pub number_after : Count → ActorValue → Bool → ℕ
number_after x b made = if made then went_if x.begun x.at_part (is_some b.errand) x.went else x.went

pub counted-of : (x : Count) (a b : ActorValue) (was n : ℕ) (made : Bool) → x ≡ count_of a was → n ≡ number_after x b made → made ≡ true → n ≡ went_after a b was
counted-of x a b was n made of after is = after ∙ (λ k. number_after (of k) b (is k))

pub uncounted-of : (x : Count) (a b : ActorValue) (was n : ℕ) (made : Bool) → x ≡ count_of a was → n ≡ number_after x b made → made ≡ false → n ≡ was
uncounted-of x a b was n made of after is = after ∙ (λ k. number_after (of k) b (is k))

module _ {h : List Dimension} {t : TableId} {s : SeatValue Cell Actor Event} {n : ℕ} {a : Actor} (holds : Holds h t s n a) where
  -- what the seat's actors then must keep stays held, where that of this one does
  pub left-of : (new : List (ℕ × Cell)) (b : Actor) → numbers_of new ≡ numbers_of s.view.held → ((y : ℕ) → MustKeep (actor_of b) y → IsThere (after_first s.view.held) y)
      → (j : ℕ) (x : Actor) (k : ℕ) → value_of (replace s.view.actors n b) j ≡ some x → Needs x k → IsThere (after_first new) k
  left-of new b numbers left j x k has needs = elim (replace_found s.view.actors n j b x holds.one.last holds.one.has has) [
    | inl e ↦ (let it = left k (subst (λ (z : Actor). MustKeep (actor_of z) k) (sym e.1) needs) in find_same (after_first s.view.held) (after_first new) k it.0 (numbers-first s.view.held new (sym numbers)) it.1)
    | inr e ↦ absurd (holds.one.others j x k e.0 e.1 needs)
  ]

  -- after a commit
  pub stepped-holds : (now : SeatValue Cell Actor Event) (new : List (ℕ × Cell)) (b : Actor) → numbers_of new ≡ numbers_of s.view.held → (actor_of b).setting.hierarchy ≡ h
      → now ≡ record { table_id = s.table_id; lifted = false; ranks = after_first s.ranks; view = after_commit ledger_cell history_of s.view new n b } → CanBe now.view → Holds h t now n b
  stepped-holds now new b numbers about e possible = record {
    own = ap (λ (z : SeatValue Cell Actor Event). z.table_id) e ∙ holds.own;
    home = ap (λ (z : SeatValue Cell Actor Event). z.lifted) e;
    one = record {
      last = b;
      has = ap (λ (z : SeatValue Cell Actor Event). value_of z.view.actors n) e ∙ replace_here s.view.actors n holds.one.last b holds.one.has;
      same = refl;
      went = refl;
      about = about;
      others = λ j x y ne has keeps. holds.one.others j x y ne (sym (replace_else s.view.actors n j b ne) ∙ ap (λ (z : SeatValue Cell Actor Event). value_of z.view.actors j) (sym e) ∙ has) keeps;
    };
    rows = ap (λ (z : SeatValue Cell Actor Event). numbers_of z.view.held) e ∙ numbers-first new s.ranks (numbers ∙ holds.rows) ∙ ap (λ (z : SeatValue Cell Actor Event). numbers_of z.ranks) (sym e);
    possible = possible;
    wide = ap (λ (z : SeatValue Cell Actor Event). z.view.cell_count) e ∙ holds.wide;
  }

  -- after the values were put back the seat is as it was
  pub back-same : (out now : SeatValue Cell Actor Event) → out ≡ record s { lifted = true } → now ≡ record out { lifted = false } → now ≡ s
  back-same out now e f = f ∙ ap (λ (z : SeatValue Cell Actor Event). let y : SeatValue Cell Actor Event = record z { lifted = false } in y) e ∙ (λ i. record s { lifted = sym holds.home i })

  -- the actor may have other rooms
  pub same-holds : (now : SeatValue Cell Actor Event) (b : Actor) → now ≡ s → actor_of b ≡ actor_of a → b.went ≡ a.went → Holds h t now n b
  same-holds now b e same uncounted = subst (λ (z : SeatValue Cell Actor Event). Holds h t z n b) (sym e) (record {
    own = holds.own;
    home = holds.home;
    one = record { last = holds.one.last; has = holds.one.has; same = holds.one.same ∙ sym same; went = holds.one.went ∙ sym uncounted; about = ap (λ (z : ActorValue). z.setting.hierarchy) same ∙ holds.one.about; others = holds.one.others };
    rows = holds.rows;
    possible = holds.possible;
    wide = holds.wide;
  })
