-- A pass is taken out: its seat, and what is left.
use Rattle.std.proofs.{Common.{◌≡◌, ◌≢◌, ◌∙◌, ℕ, ◌+◌, ◌<◌, ◌≤◌, false, List, [], length, get_or, set, slice_get, Option, Some, None, inl, inr, refl, sym, ap, subst, arith, length-set, get_or-set_other, get_or-set_same}}
use mathlib.Core.Logic.{dite}
use mathlib.Core.Option.{some, some-ne-none}
use native.Mathlib.Decide.{ℕ_discrete, dec_lt}
use Rattle.actor_run.specs.Passes.{ArePasses, HasTaken, IsAbout, IsAt, IsIn, IsOut, IsPass, IsPassOf, IsPassesOf, pass_of, passes_of}
use Rattle.actor_run.proofs.{Missing.{out-more, out-none, out-once}, Seated.{role-of, setting-of, still-at}}
use Rattle.row_ledger.specs.{Right.IsRight, declared.event.Event.Event}
use Rattle.whole_steps.specs.seat_steps.specs.declared.floor.Floor.{Floor}
use Rattle.turn_table.specs.{Numbered.{value_of, without}, Seat.{SeatValue, cell_count}, Views.{after_split, lone, split_view}}
use Rattle.turn_table.proofs.Numbered.{find_here, found, without_else, without_here}
use Rattle.whole_steps.specs.volap_cell.specs.{Setting.{Setting, actor_count, site_in}, Sights.IsIdle, Values.{ActorValue, actor_of}, declared.actor.Actor.Actor, declared.cell.Cell.Cell}
use Rattle.whole_steps.specs.volap_turns.specs.{Rule.Rests, Wholes.CanBe}

module _ {s : SeatValue Cell Actor Event} {own : Actor} {actors : List (Option Actor)} (are : ArePasses s own actors) where
  abbrev about : Setting
  about = (actor_of own).setting

  pub some-cells : 0 < cell_count s.table_id
  some-cells = (let p = are.possible in omega (arith, are.wide, p.cell_count, p.valid.wide))

  -- where nothing stands, or past the roles, nothing is taken
  pub is-out : (number : ℕ) → get_or actors number None ≡ None → IsOut number (passes_of s own actors)
  is-out number e = dite (dec_lt number (length actors))
      (λ (lt : number < length actors). inr (out-once actors number lt e))
      (λ (ge : ¬ (number < length actors)). inl (omega (arith, are.many)))

  module _ {number : ℕ} {x : Actor} (lt : number < length actors) (here : get_or actors number None ≡ Some x) where
    pub was-in : IsIn about s number x
    was-in = subst (λ (o : Option Actor). IsAt about s number o) here (are.each number lt)

    pub splits : (number ≢ s.view.number) × ((a : Actor) × (value_of s.view.actors number ≡ some a) × Rests a)
    splits = ((λ e. omega (arith, are.number)), (was-in.last, was-in.has, subst (λ (v : ActorValue). IsIdle v) (sym was-in.same) was-in.idle))

    -- the seat that is split off
    abbrev seat : SeatValue Cell Actor Event
    seat = record { table_id = s.table_id; lifted = false; ranks = []; view = split_view s.view number }

    alone : (j : ℕ) (y : Actor) → value_of seat.view.actors j ≡ some y → j ≡ number
    alone j y has = elim (found [] number j was-in.last y (ap (λ o. value_of (lone o number) j) (sym was-in.has) ∙ has)) [
      | inl t ↦ sym t.0
      | inr t ↦ absurd (some-ne-none y (sym t.1))
    ]

    pub is-pass : (q : SeatValue Cell Actor Event) → q ≡ seat → CanBe q.view → IsPass (record { number = number; actor = x; seat = q })
    is-pass q e possible = subst (λ (q : SeatValue Cell Actor Event). CanBe q.view → IsPass (record { number = number; actor = x; seat = q })) (sym e) (λ (p : CanBe seat.view). record {
      holds = record {
        own = refl;
        home = refl;
        one = record {
          last = was-in.last;
          has = ap (λ o. value_of (lone o number) number) was-in.has ∙ find_here [] number was-in.last;
          same = was-in.same;
          went = was-in.went;
          about = refl;
          others = λ j y k ne has keeps. ne (alone j y has);
        };
        rows = refl;
        possible = p;
        wide = are.wide;
      };
      bare = refl;
      alone = alone;
      idle = was-in.idle;
      noted = was-in.noted;
      few = (let e = ap actor_count was-in.about_is in omega (arith, are.many, are.few));
      right = subst (λ (z : Setting). IsRight (site_in z) s.view.seen) (sym was-in.about_is) are.right;
    }) possible

    pub is-of : (f : Floor) (q : SeatValue Cell Actor Event) → q ≡ seat → IsPassesOf f (passes_of s own actors) → IsPassOf f (pass_of (record { number = number; actor = x; seat = q }))
    is-of f q e of = subst (λ (z : Setting × SeatValue Cell Actor Event). IsAbout f z.1.table_id z.0) (λ i. (sym was-in.about_is i, sym e i)) of

    module _ {t : SeatValue Cell Actor Event} {items : List (Option Actor)} (left : t ≡ record s { view = after_split s.view number }) (now : items ≡ set actors number None) where
      else-at : (a : ℕ) → a ≢ number → value_of t.view.actors a ≡ value_of s.view.actors a
      else-at a ne = ap (λ (z : SeatValue Cell Actor Event). value_of z.view.actors a) left ∙ without_else s.view.actors number a ne

      seen-same : length s.view.seen ≤ length t.view.seen
      seen-same = (let e = ap (λ (z : SeatValue Cell Actor Event). length z.view.seen) left in omega arith)

      each-left : (a : ℕ) → a < length (set actors number None) → IsAt about t a (get_or (set actors number None) a None)
      each-left a below = dite (ℕ_discrete a number)
          (λ (same : a ≡ number). subst (λ (o : Option Actor). IsAt about t a o) (sym (ap (λ k. get_or (set actors number None) k None) same ∙ get_or-set_same actors number None None lt))
          (ap (λ (z : SeatValue Cell Actor Event). value_of z.view.actors a) left ∙ ap (λ k. value_of (without s.view.actors number) k) same ∙ without_here s.view.actors number))
          (λ (ne : a ≢ number). subst (λ (o : Option Actor). IsAt about t a o) (sym (get_or-set_other actors number a None None ne))
          (still-at about s t a (get_or actors a None) (else-at a ne) seen-same (are.each a (let l = length-set actors number None in omega arith))))

      pub are-left : CanBe t.view → ArePasses t own items
      are-left possible = subst (λ (l : List (Option Actor)). ArePasses t own l) (sym now) (let l = length-set actors number None in record {
        home = ap (λ (z : SeatValue Cell Actor Event). z.lifted) left ∙ are.home;
        bare = ap (λ (z : SeatValue Cell Actor Event). z.ranks) left ∙ are.bare;
        empty = ap (λ (z : SeatValue Cell Actor Event). z.view.held) left ∙ are.empty;
        possible = possible;
        wide = ap (λ (z : SeatValue Cell Actor Event). z.view.cell_count) left ∙ are.wide ∙ ap (λ (z : SeatValue Cell Actor Event). cell_count z.table_id) (sym left);
        count = ap (λ (z : SeatValue Cell Actor Event). z.view.actor_count) left ∙ are.count ∙ ap (λ k. k + 1) (sym l);
        number = ap (λ (z : SeatValue Cell Actor Event). z.view.number) left ∙ are.number ∙ sym l;
        many = ap (λ k. k + 1) l ∙ are.many;
        few = omega (arith, are.few);
        own_one = subst (λ k. IsIn about t k own) (sym l) (still-at about s t (length actors) (Some own) (else-at (length actors) (λ e. omega arith)) seen-same are.own_one);
        each = each-left;
        beyond = λ a below. else-at a (λ e. omega arith) ∙ are.beyond a (omega arith);
        right = subst (λ (h : List Event). IsRight (site_in about) h) (ap (λ (z : SeatValue Cell Actor Event). z.view.seen) (sym left)) are.right;
        admin = are.admin;
      })

      pub has-taken : (q : SeatValue Cell Actor Event) → q ≡ seat → HasTaken number (passes_of s own actors) (passes_of t own items) (pass_of (record { number = number; actor = x; seat = q }))
      has-taken q e = subst (λ (l : List (Option Actor)). HasTaken number (passes_of s own actors) (passes_of t own l) (pass_of (record { number = number; actor = x; seat = q }))) (sym now) (record {
        free = (omega (arith, are.many), out-none actors number x lt here);
        number_is = refl;
        role = ap (λ (z : Setting). slice_get z.roles number) (sym was-in.about_is) ∙ ap (λ (z : ActorValue). slice_get z.setting.roles number) (sym was-in.same)
            ∙ ap (λ (z : Setting). slice_get z.roles number) (setting-of are.possible number was-in.last was-in.has) ∙ role-of are.possible number was-in.last was-in.has ∙ ap (λ (z : ActorValue). Some z.role) was-in.same;
        setting = was-in.about_is;
        table = ap (λ (z : SeatValue Cell Actor Event). z.table_id) e;
        seen = ap (λ (z : SeatValue Cell Actor Event). z.view.seen) e;
        now_is = ap (λ (z : SeatValue Cell Actor Event). passes_of z own (set actors number None)) left;
        out = out-more actors number x here;
      })
