-- How far an actor comes, with nothing begun before or behind it, and that it is a pass of the hall again.
use Rattle.std.proofs.{Common.{◌≡◌, ◌∙◌, ℕ, suc, ◌+◌, ◌<◌, ◌≤◌, Bool, true, false, cond, List, [], ◌∷◌, Result, Ok, Err, is_err, refl, sym, ap, subst, arith, append-nil}, lemmas.Bool.ne_eqb}
use Rattle.std.specs.Prelude.{◌==◌, OnErr, OnOk}
use Rattle.hall_hands.specs.actor_run.specs.{Passes.{IsPass, IsPassOf, PassValue, pass_of}, Sessions.{BecomesPass, SessionValue, session_of}}
use Rattle.hall_admin.specs.Callers.{BecomesCaller, CallerValue, caller_of}
use Rattle.hall_hands.specs.Hands.{BecomesHand, HandValue, HasServedAll}
use Rattle.row_ledger.specs.{Classes.class_of, declared.class.Class.Class, declared.class.Class.TheVariants.Sync, declared.event.Event.Event, declared.settings.Use.Use}
use Rattle.script_form.specs.declared.script.{Command.Command, Command.TheVariants.{Control, Group, Insert, Query}}
use Rattle.script_run.specs.Places.{begins_of, session_of as session_of_command, session_of_call}
use Rattle.hall_hands.specs.seat_steps.specs.declared.floor.{Floor.Floor, Player.Player}
use Rattle.session_runs.specs.Sessions.{BeginsNothing, DoesInTurn, stream_of}
use Rattle.threaded_run.proofs.Turns.{does-behind, does-on}
use Rattle.threaded_run.specs.{Jobs.{HasCome, IsBack}, Streams.{AllFit, FitsFloor}}
use Rattle.script_roles.specs.volap_cell.specs.declared.role.Role.{Role}

module _ (f : Floor) (n : ℕ) (commands : List Command) (a b c : List Event) where
  pub came-behind : (stopped : Bool) → BeginsNothing n a b → HasCome stopped f n commands b c → HasCome stopped f n commands a c
  came-behind false nothing does = does-behind f.with f.hierarchy n (stream_of f.with commands n) a b c nothing does
  came-behind true nothing first = record { first = first.first; others = first.others; split = first.split; does = does-behind f.with f.hierarchy n first.first a b c nothing first.does }

  on-with : (cs : List Command) → DoesInTurn f.with f.hierarchy n cs a b → BeginsNothing n b c → DoesInTurn f.with f.hierarchy n cs a c
  on-with cs does nothing = subst (λ (l : List Command). DoesInTurn f.with f.hierarchy n l a c) (append-nil cs) (does-on f.with f.hierarchy n cs [] a b c does nothing)

  pub came-on : (stopped : Bool) → HasCome stopped f n commands a b → BeginsNothing n b c → HasCome stopped f n commands a c
  came-on false does nothing = on-with (stream_of f.with commands n) does nothing
  came-on true first nothing = record { first = first.first; others = first.others; split = first.split; does = on-with first.first first.does nothing }

-- No command is of a number behind the administrator's.

call-low : (with : Use) (class : Class) → session_of_call with class ≤ with.servers + 1
call-low with (Sync server) = omega arith
call-low with class = omega arith

session-low : (f : Floor) (c : Command) → FitsFloor f c → session_of_command f.with c ≤ f.with.servers + 1
session-low f (Insert new) fits = (let low = fits.0 in omega (arith, low))
session-low f (Query question) fits = (let low = fits.0 in omega (arith, low))
session-low f (Control call) fits = call-low f.with (class_of call)
session-low f (Group dim level filter) fits = omega arith

pub no-stream : (f : Floor) (n : ℕ) (commands : List Command) → f.with.servers + 1 < n → AllFit f commands → stream_of f.with commands n ≡ []
no-stream f n [] behind fit = refl
no-stream f n (c ∷ cs) behind fit =
    let low = session-low f c (fit 0 c refl) in
    let other : (session_of_command f.with c == n) ≡ false = ne_eqb (session_of_command f.with c) n (λ e. omega (arith, low, behind, e)) in
    ap (λ (b : Bool). cond b (c ∷ stream_of f.with cs n) (stream_of f.with cs n)) other ∙ no-stream f n cs behind (λ i x at. fit (suc i) x at)

-- how far by what a call answers
pub came-by : {T E : Type 0} (r : Result T E) (f : Floor) (n : ℕ) (commands : List Command) (a b : List Event) (stopped : Bool) → stopped ≡ is_err r
    → OnOk r (HasCome false f n commands a b) → OnErr r (HasCome true f n commands a b) → HasCome stopped f n commands a b
came-by (Ok x) f n commands a b stopped is done stop = subst (λ (v : Bool). HasCome v f n commands a b) (sym is) done
came-by (Err e) f n commands a b stopped is done stop = subst (λ (v : Bool). HasCome v f n commands a b) (sym is) stop

-- A session that has come so far, and has ended.
module _ (f : Floor) (server : ℕ) (commands : List Command) (start : Player) (number : start.number ≡ server) where
  abbrev first : SessionValue
  first = session_of f server start

  pub session-back : (s : SessionValue) → s ≡ record first { seen = s.seen } → (stopped : Bool) → HasCome stopped f server commands start.seat.view.seen s.seen → (pass : PassValue) → IsPassOf s.floor pass → BecomesPass s pass
      → (p : Player) → IsPass p → pass_of p ≡ pass → IsBack f server commands start.seat.view.seen p stopped
  session-back s same stopped came pass of made p is as_pass =
      let floor : s.floor ≡ f = ap (λ (x : SessionValue). x.floor) same in
      let here : s.number ≡ server = ap (λ (x : SessionValue). x.number) same ∙ number in
      let nothing : BeginsNothing server s.seen pass.seen = record { later = made.seen; none = subst (λ (k : ℕ). begins_of pass.seen k ≡ begins_of s.seen k) here made.begun } in
      let all = came-on f server commands start.seat.view.seen s.seen pass.seen stopped came nothing in
      record {
        is = record { pass = is; own = subst (λ (x : Floor × PassValue). IsPassOf x.0 x.1) (λ i. (floor i, sym as_pass i)) of };
        number = ap (λ (x : PassValue). x.number) as_pass ∙ made.number ∙ here;
        came = subst (λ (x : PassValue). HasCome stopped f server commands start.seat.view.seen x.seen) (sym as_pass) all;
      }

-- A caller that has come so far, and has ended.
module _ (f : Floor) (role : Role) (commands : List Command) (start : Player) where
  pub first-caller : (pass : PassValue) → pass ≡ pass_of start → (c : CallerValue) → BecomesCaller f role pass c → c ≡ caller_of f start
  first-caller pass is c made = λ i. record {
    floor = made.floor i;
    number = (sym made.number ∙ ap (λ (x : PassValue). x.number) is) i;
    seen = (sym made.seen ∙ ap (λ (x : PassValue). x.seen) is) i;
  }

  pub caller-back : (c : CallerValue) → c ≡ record (caller_of f start) { seen = c.seen } → (stopped : Bool) → HasCome stopped f start.number commands start.seat.view.seen c.seen → (pass : PassValue) → IsPassOf c.floor pass
      → BecomesCaller c.floor role pass c → (p : Player) → IsPass p → pass_of p ≡ pass → IsBack f start.number commands start.seat.view.seen p stopped
  caller-back c same stopped came pass of made p is as_pass =
      let floor : c.floor ≡ f = ap (λ (x : CallerValue). x.floor) same in
      record {
        is = record { pass = is; own = subst (λ (x : Floor × PassValue). IsPassOf x.0 x.1) (λ i. (floor i, sym as_pass i)) of };
        number = ap (λ (x : PassValue). x.number) as_pass ∙ made.number ∙ ap (λ (x : CallerValue). x.number) same;
        came = subst (λ (l : List Event). HasCome stopped f start.number commands start.seat.view.seen l) (sym (ap (λ (x : PassValue). x.seen) as_pass ∙ made.seen)) came;
      }

-- A hand that has served, and has ended. No command is its own.
module _ (f : Floor) (start : Player) where
  pub hand-back : (pass : PassValue) → pass ≡ pass_of start → (h t : HandValue) → BecomesHand f pass h → HasServedAll h t → (back : PassValue) → IsPassOf t.floor back → BecomesHand t.floor back t → (p : Player) → IsPass p → pass_of p ≡ back
      → f.with.servers + 1 < start.number → (commands : List Command) → AllFit f commands → IsBack f start.number commands start.seat.view.seen p false
  hand-back pass was h t made served back of ended p is as_pass behind commands fit =
      let number_was : h.number ≡ start.number = sym made.number ∙ ap (λ (x : PassValue). x.number) was in
      let seen_was : h.seen ≡ start.seat.view.seen = sym made.seen ∙ ap (λ (x : PassValue). x.seen) was in
      let floor : t.floor ≡ f = ap (λ (x : HandValue). x.floor) served.same ∙ made.floor in
      let seen_now : t.seen ≡ p.seat.view.seen = sym (ap (λ (x : PassValue). x.seen) as_pass ∙ ended.seen) in
      let nothing : BeginsNothing start.number start.seat.view.seen p.seat.view.seen = subst (λ (x : ℕ × (List Event × List Event)). BeginsNothing x.0 x.1.0 x.1.1) (λ i. (number_was i, (seen_was i, seen_now i)))
      (record { later = served.later; none = served.begun }) in
      record {
        is = record { pass = is; own = subst (λ (x : Floor × PassValue). IsPassOf x.0 x.1) (λ i. (floor i, sym as_pass i)) of };
        number = ap (λ (x : PassValue). x.number) as_pass ∙ ended.number ∙ ap (λ (x : HandValue). x.number) served.same ∙ number_was;
        came = subst (λ (l : List Command). DoesInTurn f.with f.hierarchy start.number l start.seat.view.seen p.seat.view.seen) (sym (no-stream f start.number commands behind fit)) nothing;
      }

-- nothing had begun before either
pub back-behind : (f : Floor) (n : ℕ) (commands : List Command) (past start : List Event) (p : Player) (stopped : Bool) → BeginsNothing n past start → IsBack f n commands start p stopped → IsBack f n commands past p stopped
back-behind f n commands past start p stopped nothing back = record { is = back.is; number = back.number; came = came-behind f n commands past start p.seat.view.seen stopped nothing back.came }
