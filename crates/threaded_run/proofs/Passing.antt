-- The passes of a phase, as they are taken out one by one, and put back.
use Rattle.std.proofs.{Common.{◌≡◌, ◌≢◌, ◌∙◌, ℕ, zero, suc, ◌+◌, ◌<◌, ◌≤◌, Bool, true, false, cond, List, [], ◌∷◌, ◌++◌, length, count_by, set, slice_get, Some, inl, inr, refl, sym, ap, subst, arith, append-nil, length-append, eq-eqb}, lemmas.Bool.{cases_lt, false≢true, ne_eqb}, lemmas.List.Sums.sum_by-cons, lemmas.Option.slice_get_within}
use Rattle.std.specs.Prelude.{◌==◌}
use Rattle.hall_hands.specs.actor_run.specs.Passes.{HasGiven, HasTaken, IsOut, IsPassesOf, PassValue, PassesValue}
use Rattle.row_ledger.specs.declared.event.Event.{Event}
use Rattle.script_form.specs.declared.script.Command.{Command}
use Rattle.script_run.proofs.NextCommand.{get-middle}
use Rattle.script_run.specs.Places.{begins_of}
use Rattle.hall_hands.specs.seat_steps.specs.declared.floor.Floor.{Floor}
use Rattle.session_runs.proofs.Later.{later-then}
use Rattle.session_runs.specs.Sessions.{BeginsNothing, DoesFirst, DoesInTurn, stream_of}
use Rattle.threaded_run.proofs.{Coming.{came-on, no-stream}, Turns.nothing-then}
use Rattle.script_roles.specs.Roles.{IsNumbered}
use Rattle.threaded_run.specs.{Jobs.{HasCome, IsJobReady}, Phases.{AreBack, ArePhased, HasGivenJob, HasGivenSome, HasTakenAll, HasTakenSome}, Streams.AllFit, declared.threads.Job.Job}
use Rattle.script_roles.specs.volap_cell.specs.{Setting.{Setting, actor_count}, declared.role.{Role.Role, Role.TheVariants.Puller}}

-- Out.

-- how often a number stands in a list behind one that is put in front or taken away
one-at : (k : ℕ) → ◌≡◌ {A = ℕ} (cond (k == k) 1 0) 1
one-at k = ap (λ (b : Bool). cond {A = ℕ} b 1 0) (eq-eqb k k refl)

none-at : (k n : ℕ) → k ≢ n → ◌≡◌ {A = ℕ} (cond (k == n) 1 0) 0
none-at k n differ = ap (λ (b : Bool). cond {A = ℕ} b 1 0) (ne_eqb k n differ)

-- where no number stands in a list, it is empty
empty-out : (xs : List ℕ) → ((k : ℕ) → count_by (λ x. x == k) xs ≡ 0) → xs ≡ []
empty-out [] none = refl
empty-out (x ∷ xs) none =
    let at = sum_by-cons (λ (y : ℕ). cond {A = ℕ} (y == x) 1 0) x xs in
    let one = one-at x in
    let all = none x in
    absurd (omega (arith, at, one, all))

get-left : {A : Type 0} (xs ys : List A) (i : ℕ) → i < length xs → slice_get (xs ++ ys) i ≡ slice_get xs i
get-left [] ys i low = absurd (omega (arith, low))
get-left (x ∷ xs) ys zero low = refl
get-left (x ∷ xs) ys (suc i) low = get-left xs ys i (omega (arith, low))

pub get-behind-set : {A : Type 0} (xs : List A) (i k : ℕ) (x : A) → i < k → slice_get (set xs i x) k ≡ slice_get xs k
get-behind-set [] i k x low = refl
get-behind-set (y ∷ xs) zero zero x low = absurd (omega (arith, low))
get-behind-set (y ∷ xs) zero (suc k) x low = refl
get-behind-set (y ∷ xs) (suc i) zero x low = absurd (omega (arith, low))
get-behind-set (y ∷ xs) (suc i) (suc k) x low = get-behind-set xs i k x (omega (arith, low))

-- Taking.

module _ (f : Floor) (was : PassesValue) (phased : ArePhased f was) where
  pub none-taken : HasTakenSome f [] was was
  none-taken = record {
    own = phased.own;
    setting = refl;
    seen = refl;
    taken = λ k low. absurd (omega (arith, low));
    left = λ k low. ap (λ (l : List ℕ). count_by (λ x. x == k) l) phased.all;
    ready = λ i j at. cc;
  }

  module _ (jobs : List Job) (mid : PassesValue) (some : HasTakenSome f jobs was mid) where
    -- there is one more
    pub not-out : length jobs + 1 < actor_count was.setting → IsOut (length jobs) mid → ⊥
    not-out low (inl few) = (let same = ap actor_count some.setting in omega (arith, low, few, same))
    not-out low (inr out) = (let none = some.left (length jobs) (omega arith) in omega (arith, out, none))

    module _ (pass : PassValue) (now : PassesValue) (own : IsPassesOf f now) (has : HasTaken (length jobs) mid now pass) where
      pub numbered-pass : IsNumbered pass.role f.with pass.number
      numbered-pass =
          let low : length jobs + 1 < actor_count was.setting = (let same = ap actor_count some.setting in let free = has.free.0 in omega (arith, same, free)) in
          let role : slice_get was.setting.roles (length jobs) ≡ Some pass.role = ap (λ (s : Setting). slice_get s.roles (length jobs)) (sym some.setting) ∙ has.role in
          subst (λ (n : ℕ). IsNumbered pass.role f.with n) (sym has.number_is) (phased.roles (length jobs) pass.role low role)

      out-now : (k : ℕ) → count_by (λ x. x == k) now.out ≡ count_by (λ x. x == k) mid.out + cond (k == length jobs) 1 0
      out-now k = has.out k

      pub one-taken : (j : Job) → IsJobReady f pass.number pass.seen j → HasTakenSome f (jobs ++ j ∷ []) was now
      one-taken j ready =
          let more : length (jobs ++ j ∷ []) ≡ length jobs + 1 = length-append jobs (j ∷ []) in
          record {
            own = own;
            setting = ap (λ (p : PassesValue). p.setting) has.now_is ∙ some.setting;
            seen = ap (λ (p : PassesValue). p.seen) has.now_is ∙ some.seen;
            taken = λ k low. elim (cases_lt k (length jobs)) [
              | inl less ↦ (let one = some.taken k less in let none = none-at k (length jobs) (λ e. omega (arith, less, e)) in let is = out-now k in omega (arith, one, none, is))
              | inr here ↦
                  let same : k ≡ length jobs = omega (arith, low, more, here) in
                  let one : ◌≡◌ {A = ℕ} (cond (k == length jobs) 1 0) 1 = subst (λ (n : ℕ). ◌≡◌ {A = ℕ} (cond (k == n) 1 0) 1) same (one-at k) in
                  let none = some.left k (omega (arith, here)) in
                  let is = out-now k in
                  omega (arith, one, none, is)
            ];
            left = λ k low. (
                let none = some.left k (omega (arith, low, more)) in
                let other = none-at k (length jobs) (λ e. omega (arith, low, more, e)) in
                let is = out-now k in
                omega (arith, none, other, is)
                );
            ready = λ i x at. elim (cases_lt i (length jobs)) [
              | inl less ↦ some.ready i x (sym (get-left jobs (j ∷ []) i less) ∙ at)
              | inr behind ↦
                  let within = slice_get_within (jobs ++ j ∷ []) i x at in
                  let here : i ≡ length jobs = omega (arith, within, more, behind) in
                  let got : Some j ≡ Some x = sym (get-middle jobs [] j) ∙ ap (λ (n : ℕ). slice_get (jobs ++ j ∷ []) n) (sym here) ∙ at in
                  let same : j ≡ x = cc in
                  let own_ready : IsJobReady f i was.seen j = subst (λ (y : ℕ × List Event). IsJobReady f y.0 y.1 j) (λ q. ((has.number_is ∙ sym here) q, (has.seen ∙ some.seen) q)) ready in
                  subst (λ (y : Job). IsJobReady f i was.seen y) same own_ready
            ];
          }

-- Giving.

module _ (f : Floor) (n : ℕ) (commands : List Command) (past now : List Event) where
  -- who has done all has done the first
  pub came-weaker : (a b : Bool) → (a ≡ true → b ≡ true) → HasCome a f n commands past now → HasCome b f n commands past now
  came-weaker true true more came = came
  came-weaker true false more came = absurd (false≢true (more refl))
  came-weaker false false more came = came
  came-weaker false true more came = record { first = stream_of f.with commands n; others = []; split = sym (append-nil (stream_of f.with commands n)); does = came }

  -- who has no command has done all
  came-idle : (stopped : Bool) → stream_of f.with commands n ≡ [] → BeginsNothing n past now → HasCome stopped f n commands past now
  came-idle false none nothing = subst (λ (l : List Command). DoesInTurn f.with f.hierarchy n l past now) (sym none) nothing
  came-idle true none nothing = record { first = []; others = stream_of f.with commands n; split = refl; does = nothing }

module _ (f : Floor) (commands : List Command) (was : PassesValue) where
  -- where all are out, none is given yet
  pub none-given : (jobs : List Job) (now : PassesValue) → HasTakenAll f jobs was now → HasGivenSome f commands (length jobs) 0 false was now
  none-given jobs now all =
      let some = all.some in
      record {
        own = some.own;
        setting = some.setting;
        later = ([], some.seen);
        in_again = λ k low. absurd (omega (arith, low));
        out_still = λ k low high. some.taken k high;
        never_out = some.left;
        came = λ k low. absurd (omega (arith, low));
        others = λ k high. record { later = ([], some.seen); none = ap (λ (l : List Event). begins_of l k) some.seen };
      }

  module _ (many given : ℕ) (stopped : Bool) (mid : PassesValue) (some : HasGivenSome f commands many given stopped was mid) (low : given < many) (more : Bool) (now : PassesValue) (own : IsPassesOf f now)
      (one : HasGivenJob f given commands was.seen more mid now) where
    has : HasGiven one.pass mid now
    has = one.given

    out-is : (k : ℕ) → count_by (λ x. x == k) mid.out ≡ count_by (λ x. x == k) now.out + cond (k == given) 1 0
    out-is k = has.out k ∙ ap (λ (n : ℕ). count_by (λ x. x == k) now.out + cond (k == n) 1 0) one.number

    still : (k : ℕ) → count_by (λ x. x == k) mid.out ≡ 0 → BeginsNothing k mid.seen now.seen
    still k none = record { later = has.longer; none = has.others k none }

    back : BeginsNothing given one.pass.seen now.seen
    back = record { later = has.as_pass; none = subst (λ (n : ℕ). begins_of now.seen n ≡ begins_of one.pass.seen n) one.number has.begun }

    pub one-given : (stopped_now : Bool) → (stopped ≡ true → stopped_now ≡ true) → (more ≡ true → stopped_now ≡ true) → HasGivenSome f commands many (given + 1) stopped_now was now
    one-given stopped_now first second = record {
      own = own;
      setting = ap (λ (p : PassesValue). p.setting) has.same ∙ some.setting;
      later = later-then was.seen mid.seen now.seen some.later has.longer;
      in_again = λ k less. elim (cases_lt k given) [
        | inl before ↦ (let none = some.in_again k before in let is = out-is k in omega (arith, none, is))
        | inr here ↦
            let same : k ≡ given = omega (arith, less, here) in
            let at : ◌≡◌ {A = ℕ} (cond (k == given) 1 0) 1 = subst (λ (n : ℕ). ◌≡◌ {A = ℕ} (cond (k == n) 1 0) 1) same (one-at k) in
            let out = some.out_still k here (omega (arith, same, low)) in
            let is = out-is k in
            omega (arith, at, out, is)
      ];
      out_still = λ k above below. (
          let out = some.out_still k (omega (arith, above)) below in
          let other = none-at k given (λ e. omega (arith, above, e)) in
          let is = out-is k in
          omega (arith, out, other, is)
          );
      never_out = λ k above. (let none = some.never_out k above in let is = out-is k in omega (arith, none, is));
      came = λ k less. elim (cases_lt k given) [
        | inl before ↦ came-weaker f k commands was.seen now.seen stopped stopped_now first (came-on f k commands was.seen mid.seen now.seen stopped (some.came k before) (still k (some.in_again k before)))
        | inr here ↦
            let same : given ≡ k = omega (arith, less, here) in
            subst (λ (n : ℕ). HasCome stopped_now f n commands was.seen now.seen) same
            (came-weaker f given commands was.seen now.seen more stopped_now second (came-on f given commands was.seen one.pass.seen now.seen more one.came back))
      ];
      others = λ k above. nothing-then k was.seen mid.seen now.seen (some.others k above) (still k (some.never_out k above));
    }

  module _ (phased : ArePhased f was) (many : ℕ) (count : many + 1 ≡ actor_count was.setting) (stopped : Bool) (now : PassesValue) (some : HasGivenSome f commands many many stopped was now) where
    all-in : now.out ≡ []
    all-in = empty-out now.out (λ k. elim (cases_lt k many) [ inl low ↦ some.in_again k low | inr high ↦ some.never_out k high ])

    -- all are back
    pub all-back : AreBack f was now
    all-back = record {
      phased = record {
        own = some.own;
        all = all-in;
        many = subst (λ (s : Setting). f.with.servers + 3 ≤ actor_count s) (sym some.setting) phased.many;
        roles = subst (λ (s : Setting). (n : ℕ) (r : Role) → n + 1 < actor_count s → slice_get s.roles n ≡ Some r → IsNumbered r f.with n) (sym some.setting) phased.roles;
        last = subst (λ (s : Setting). (n : ℕ) → n + 1 ≡ actor_count s → slice_get s.roles n ≡ Some Puller) (sym some.setting) phased.last;
      };
      setting = some.setting;
      later = some.later;
    }

    pub each-came : AllFit f commands → (k : ℕ) → HasCome stopped f k commands was.seen now.seen
    each-came fit k = elim (cases_lt k many) [
      | inl low ↦ some.came k low
      | inr high ↦ came-idle f k commands was.seen now.seen stopped (no-stream f k commands (let roles = phased.many in omega (arith, high, count, roles)) fit) (some.others k high)
    ]

  -- where nothing was taken each has done the first of its commands, which is none
  pub none-done : (session : ℕ) → DoesFirst f.with f.hierarchy session (stream_of f.with commands session) was.seen was.seen
  none-done session = record { first = []; others = stream_of f.with commands session; split = refl; does = record { later = ([], refl); none = refl } }
