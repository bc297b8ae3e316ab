-- A pass is put back: it is one of those that are out, and the seat has its actor then.
use Rattle.std.proofs.Common.{◌≡◌, ◌≢◌, ◌⊎◌, ◌∙◌, ℕ, ◌+◌, ◌<◌, ◌≤◌, nat_lt, Bool, true, false, cond, List, [], length, get_or, set, count_by, ◌==◌, Option, Some, None, inl, inr, refl, sym, ap, subst, arith, length-append, length-set, get_or-set_other, get_or-set_same, set-set}
use mathlib.Core.Logic.{dite}
use mathlib.Core.Option.{none, some, some-injective, some-ne-none}
use native.Mathlib.Decide.{ℕ_discrete, dec_lt}
use lib.Seq.{set-get_or}
use Rattle.actor_run.specs.Passes.{ArePasses, HasGiven, IsAt, IsIn, IsPass, missing, pass_of, passes_of}
use Rattle.actor_run.proofs.{Missing.{not-missing, out-more, out-once}, Seated.{below-count, is, is-actor, none-held, none-since, setting-of, still-at}}
use Rattle.row_ledger.specs.{Right.IsRight, declared.event.Event.Event}
use Rattle.whole_steps.specs.seat_steps.specs.declared.floor.Player.{Player}
use Rattle.turn_table.specs.{Numbered.{Extends, longer, value_of}, Seat.{SeatValue, cell_count}, Views.joined_view}
use Rattle.turn_table.proofs.Numbered.{find_append_first, find_append_second, some_or_none}
use Rattle.whole_steps.specs.volap_cell.specs.{Setting.{Setting, site_in}, Sights.IsIdle, Values.{ActorValue, actor_of}, declared.actor.Actor.Actor, declared.cell.Cell.Cell}
use Rattle.whole_steps.specs.volap_turns.specs.{Rule.Rests, Wholes.CanBe, Worlds.past}

-- the longer of two is one of them
pub longer-one : (xs ys : List Event) → (longer xs ys ≡ xs) ⊎ (longer xs ys ≡ ys)
longer-one xs ys = go (nat_lt (length xs) (length ys))
  where
    go : (b : Bool) → (cond b ys xs ≡ xs) ⊎ (cond b ys xs ≡ ys)
    go true = inr refl
    go false = inl refl

pub as-long : (xs ys : List Event) → Extends xs ys → length ys ≤ length xs
as-long xs ys e = (let l = ap (λ (h : List Event). length h) e.1 in omega (arith, l, length-append e.0 ys))

-- A pass.

module _ {p : Player} (pass : IsPass p) where
  pub bare : p.seat.view.held ≡ []
  bare = none-held p.seat.view.held p.seat.ranks pass.holds.rows pass.bare

  pub rests : (j : ℕ) (x : Actor) → value_of p.seat.view.actors j ≡ some x → Rests x
  rests j x has =
      let one = pass.holds.one in
      let here : value_of p.seat.view.actors p.number ≡ some x = ap (λ k. value_of p.seat.view.actors k) (sym (pass.alone j x has)) ∙ has in
      let is : one.last ≡ x = some-injective one.last x (sym one.has ∙ here) in
      subst (λ (v : ActorValue). IsIdle v) (sym one.same ∙ ap actor_of is) pass.idle

-- Its seat joins that of the others.
module _ {s : SeatValue Cell Actor Event} {own : Actor} {actors : List (Option Actor)} {p : Player} {t : SeatValue Cell Actor Event} (are : ArePasses s own actors) (pass : IsPass p)
    (joined : t ≡ record s { view = joined_view s.view p.seat.view }) (possible : CanBe t.view)
    (lists : Extends t.view.seen s.view.seen × Extends t.view.seen p.seat.view.seen)
    (apart : (i : ℕ) (a b : Actor) → value_of s.view.actors i ≡ some a → value_of p.seat.view.actors i ≡ some b → ⊥) where
  abbrev about : Setting
  about = (actor_of own).setting

  abbrev S : Type 0
  S = SeatValue Cell Actor Event

  -- the seat did not have its actor, and has it now
  not-in : value_of s.view.actors p.number ≡ none
  not-in = elim (some_or_none (value_of s.view.actors p.number)) [
    | inl t ↦ absurd (apart p.number t.0 pass.holds.one.last t.1 pass.holds.one.has)
    | inr e ↦ e
  ]

  now-in : value_of t.view.actors p.number ≡ some pass.holds.one.last
  now-in = ap (λ (z : S). value_of z.view.actors p.number) joined ∙ find_append_second s.view.actors p.seat.view.actors p.number not-in ∙ pass.holds.one.has

  else-in : (a : ℕ) → a ≢ p.number → value_of t.view.actors a ≡ value_of s.view.actors a
  else-in a ne = ap (λ (z : S). value_of z.view.actors a) joined ∙ elim (some_or_none (value_of s.view.actors a)) [
    | inl t ↦ find_append_first s.view.actors p.seat.view.actors a t.0 t.1 ∙ sym t.1
    | inr e ↦ find_append_second s.view.actors p.seat.view.actors a e ∙ elim (some_or_none (value_of p.seat.view.actors a)) [
      | inl t ↦ absurd (ne (pass.alone a t.0 t.1))
      | inr f ↦ f ∙ sym e
    ]
  ]

  own-in : value_of t.view.actors (length actors) ≡ some are.own_one.last
  own-in = ap (λ (z : S). value_of z.view.actors (length actors)) joined ∙ find_append_first s.view.actors p.seat.view.actors (length actors) are.own_one.last are.own_one.has

  pub below : p.number < length actors
  below =
      let count : t.view.actor_count ≡ length actors + 1 = ap (λ (z : S). z.view.actor_count) joined ∙ are.count in
      let lt = below-count possible p.number pass.holds.one.last now-in in
      let ne : p.number ≢ length actors = λ e. some-ne-none are.own_one.last (sym are.own_one.has ∙ ap (λ k. value_of s.view.actors k) (sym e) ∙ not-in) in
      omega arith

  nothing : (o : Option Actor) → IsAt about s p.number o → o ≡ None
  nothing None at = refl
  nothing (Some x) at = absurd (some-ne-none at.last (sym at.has ∙ not-in))

  -- nothing stood at its place
  pub was-out : get_or actors p.number None ≡ None
  was-out = nothing (get_or actors p.number None) (are.each p.number below)

  same-setting : (actor_of p.actor).setting ≡ about
  same-setting =
      ap (λ (z : ActorValue). z.setting) (sym pass.holds.one.same) ∙ setting-of possible p.number pass.holds.one.last now-in
      ∙ sym (setting-of possible (length actors) are.own_one.last own-in) ∙ ap (λ (z : ActorValue). z.setting) are.own_one.same

  abbrev put : List (Option Actor)
  put = set actors p.number (Some p.actor)

  own-long : length s.view.seen ≤ length t.view.seen
  own-long = as-long t.view.seen s.view.seen lists.0

  now-at : IsIn about t p.number p.actor
  now-at = record {
    last = pass.holds.one.last;
    has = now-in;
    same = pass.holds.one.same;
    went = pass.holds.one.went;
    about_is = same-setting;
    idle = pass.idle;
    noted = (let l = as-long t.view.seen p.seat.view.seen lists.1 in let n = pass.noted in omega arith);
  }

  each-in : (a : ℕ) → a < length put → IsAt about t a (get_or put a None)
  each-in a lt = dite (ℕ_discrete a p.number)
      (λ (same : a ≡ p.number). subst (λ k. IsAt about t k (get_or put k None)) (sym same) (subst (λ (o : Option Actor). IsAt about t p.number o) (sym (get_or-set_same actors p.number (Some p.actor) None below)) now-at))
      (λ (ne : a ≢ p.number). subst (λ (o : Option Actor). IsAt about t a o) (sym (get_or-set_other actors p.number a (Some p.actor) None ne))
      (still-at about s t a (get_or actors a None) (else-in a ne) own-long (are.each a (let l = length-set actors p.number (Some p.actor) in omega arith))))

  -- Where a number isn't out, what its actor has noted had been seen.

  abbrev noted : ℕ → ℕ
  noted n = (possible.valid.world.actors n).seen

  noted-in : (n : ℕ) (x : Actor) → n ≢ p.number → IsIn about s n x → noted n ≤ length s.view.seen
  noted-in n x ne it = subst (λ (v : ActorValue). v.seen ≤ length s.view.seen) (sym (is-actor possible n it.last (else-in n ne ∙ it.has) ∙ it.same)) it.noted

  noted-here : (n : ℕ) → n < length actors → count_by (λ k. k == n) (missing 0 actors) ≡ 0 → noted n ≤ length s.view.seen
  noted-here n lt clear =
      let it = not-missing actors n lt clear in
      let ne : n ≢ p.number = λ e. (let once = out-once actors n lt (ap (λ k. get_or actors k None) e ∙ was-out) in omega (arith, once, clear)) in
      noted-in n it.0 ne (subst (λ (o : Option Actor). IsAt about s n o) it.1 (are.each n lt))

  noted-beyond : (n : ℕ) → length actors < n → noted n ≤ length s.view.seen
  noted-beyond n gt =
      let count : t.view.actor_count ≡ length actors + 1 = ap (λ (z : S). z.view.actor_count) joined ∙ are.count in
      let zero : noted n ≡ 0 = ((is possible).no_actor n (past possible.actors n (omega (arith, count, possible.actor_count)))).seen in
      omega (arith, zero)

  noted-else : (n : ℕ) → count_by (λ k. k == n) (missing 0 actors) ≡ 0 → noted n ≤ length s.view.seen
  noted-else n clear = dite (dec_lt n (length actors))
      (λ (lt : n < length actors). noted-here n lt clear)
      (λ (ge : ¬ (n < length actors)). dite (dec_lt (length actors) n)
      (λ (gt : length actors < n). noted-beyond n gt)
      (λ (le : ¬ (length actors < n)). (let b = below in subst (λ k. noted k ≤ length s.view.seen) (omega arith) (noted-in (length actors) own (λ e. omega arith) are.own_one))))

  seen-is : t.view.seen ≡ longer s.view.seen p.seat.view.seen
  seen-is = ap (λ (z : S). z.view.seen) joined

  -- of two right ones one is seen
  right-now : IsRight (site_in about) t.view.seen
  right-now = elim (longer-one s.view.seen p.seat.view.seen) [
    | inl e ↦ subst (λ (h : List Event). IsRight (site_in about) h) (sym (seen-is ∙ e)) are.right
    | inr e ↦ subst (λ (z : Setting × List Event). IsRight (site_in z.0) z.1) (λ i. (same-setting i, sym (seen-is ∙ e) i)) pass.right
  ]

  pub are-given : (items : List (Option Actor)) → items ≡ put → ArePasses t own items
  are-given items now = subst (λ (l : List (Option Actor)). ArePasses t own l) (sym now) (let l = length-set actors p.number (Some p.actor) in record {
    home = ap (λ (z : S). z.lifted) joined ∙ are.home;
    bare = ap (λ (z : S). z.ranks) joined ∙ are.bare;
    empty = ap (λ (z : S). z.view.held) joined ∙ are.empty;
    possible = possible;
    wide = ap (λ (z : S). z.view.cell_count) joined ∙ are.wide ∙ ap (λ (z : S). cell_count z.table_id) (sym joined);
    count = ap (λ (z : S). z.view.actor_count) joined ∙ are.count ∙ ap (λ k. k + 1) (sym l);
    number = ap (λ (z : S). z.view.number) joined ∙ are.number ∙ sym l;
    many = ap (λ k. k + 1) l ∙ are.many;
    few = omega (arith, are.few);
    own_one = subst (λ k. IsIn about t k own) (sym l) (still-at about s t (length actors) (Some own) (else-in (length actors) (λ e. (let b = below in omega arith))) own-long are.own_one);
    each = each-in;
    beyond = λ a lt. (let b = below in else-in a (λ e. omega arith) ∙ are.beyond a (omega arith));
    right = right-now;
    admin = are.admin;
  })

  -- the place is counted no more
  pub has-given : (items : List (Option Actor)) → items ≡ put → HasGiven (pass_of p) (passes_of s own actors) (passes_of t own items)
  has-given items now = subst (λ (l : List (Option Actor)). HasGiven (pass_of p) (passes_of s own actors) (passes_of t own l)) (sym now) (record {
    same = ap (λ (z : S). passes_of z own put) joined ∙ (λ i. record (passes_of s own put) { seen = sym seen-is i });
    out = λ k.
        let back : set put p.number None ≡ actors = set-set actors p.number (Some p.actor) None ∙ ap (λ (o : Option Actor). set actors p.number o) (sym was-out) ∙ set-get_or actors p.number None in
        ap (λ (l : List (Option Actor)). count_by (λ x. x == k) (missing 0 l)) (sym back)
        ∙ out-more put p.number p.actor (get_or-set_same actors p.number (Some p.actor) None below) k;
    longer = lists.0;
    as_pass = lists.1;
    one = elim (longer-one s.view.seen p.seat.view.seen) [
      | inl e ↦ inl (seen-is ∙ e)
      | inr e ↦ inr (seen-is ∙ e)
    ];
    begun = none-since possible p.number p.seat.view.seen lists.1 (subst (λ (v : ActorValue). v.seen ≤ length p.seat.view.seen) (sym (is-actor possible p.number pass.holds.one.last now-in ∙ pass.holds.one.same)) pass.noted);
    others = λ n clear. none-since possible n s.view.seen lists.0 (noted-else n clear);
  })
