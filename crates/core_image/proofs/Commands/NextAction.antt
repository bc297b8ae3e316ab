-- A balance leaves the action that it is at, and the next one is due: its plan goes on, and its next job begins.
use Rattle.std.proofs.{Common.{◌≡◌, ℕ, zero, suc, ◌+◌, ◌<◌, ◌≤◌, List, [], ◌∷◌, ◌++◌, Bool, true, false, length, take, drop, reverse, Option, Some, None, refl, sym, ap, ◌∙◌, subst, arith, All, option_map, option_and_then, slice_get, eq-eqb, le_of_lt}, lemmas.List.reverse-append, lemmas.List.Elements.{All-head, All-tail, All-weaker}}
use Rattle.std.specs.{List.AllZip, Prelude.{count_by, IsTrue}}
use Rattle.row_ledger.specs.{Changes.ShardsStay, Past.{Step, before, work}, Shards.{comes_from, frontier}, Work.{AreReadOf, IsCause, IsRightDecline, Settles, is_done, shard_of}, Workers.is_on, declared.event.Event.Event, declared.event.Event.TheVariants.Left, declared.settings.Decline.Decline, declared.settings.How.How}
use Rattle.row_ledger.proofs.{Changes.quiet, Positions.before-older}
use Rattle.volap_cell.specs.shard_build.proofs.Lists.{zip-append}
use Rattle.shard_plan.specs.{declared.action.Action.Action, declared.action.Load.Load}
use Rattle.shard_plan.specs.declared.action.Action.TheVariants as action
use Rattle.volap_cell.proofs.{OneEvent.Older.{Any-weaker, comes-stays, live-stays}, OneEvent.Work.{ahead-grown, read-load-grown}}
use Rattle.volap_cell.specs.{Commands.after_action, ImageKinds.LeavesAs, Planning.{HasLoadNext, has_load, job_for, next_job}, Setting.{Setting, site_in}, Values.{JobValue, StageValue, IsCalled, IsDeclined, IsFrozen, Collects, Builds}, Working.{IsAhead, IsBalancing, IsDeclinedFor, IsPlanned, action_of, begun_job, IsReadLoad}, declared.command.Balance.Balance}

-- Lists, one place on.

pub take-more : {X : Type 0} (i : ℕ) (xs : List X) (x : X) → slice_get xs i ≡ Some x → take (suc i) xs ≡ take i xs ++ x ∷ []
take-more {X} i [] x is = (let never : ◌≡◌ {A = Option X} None (Some x) = is in absurd (cc))
take-more {X} zero (y ∷ xs) x is = (let both : ◌≡◌ {A = Option X} (Some y) (Some x) = is in let same : y ≡ x = cc in ap (λ (z : X). z ∷ []) same)
take-more {X} (suc i) (y ∷ xs) x is = ap (λ (ys : List X). y ∷ ys) (take-more i xs x is)

pub drop-at : {X : Type 0} (i : ℕ) (xs : List X) (x : X) → slice_get xs i ≡ Some x → drop i xs ≡ x ∷ drop (suc i) xs
drop-at {X} i [] x is = (let never : ◌≡◌ {A = Option X} None (Some x) = is in absurd (cc))
drop-at {X} zero (y ∷ xs) x is = (let both : ◌≡◌ {A = Option X} (Some y) (Some x) = is in let same : y ≡ x = cc in ap (λ (z : X). z ∷ xs) same)
drop-at {X} (suc i) (y ∷ xs) x is = drop-at i xs x is

pub inside : {X : Type 0} (i : ℕ) (xs : List X) (x : X) → slice_get xs i ≡ Some x → i < length xs
inside {X} i [] x is = (let never : ◌≡◌ {A = Option X} None (Some x) = is in absurd (cc))
inside zero (y ∷ xs) x is = omega arith
inside (suc i) (y ∷ xs) x is = (let more = inside i xs x is in omega (arith, more))

-- what holds of all from a place on holds of each there
pub all-behind : {X : Type 0} (P : X → Type 0) (k j : ℕ) (xs : List X) (x : X) → All P (drop k xs) → k ≤ j → slice_get xs j ≡ Some x → P x
all-behind {X} P k j [] x all le is = (let never : ◌≡◌ {A = Option X} None (Some x) = is in absurd (cc))
all-behind {X} P zero zero (y ∷ xs) x all le is = (let both : ◌≡◌ {A = Option X} (Some y) (Some x) = is in let same : y ≡ x = cc in subst P same (All-head P y xs all))
all-behind P zero (suc j) (y ∷ xs) x all le is = all-behind P zero j xs x (All-tail P y xs all) (omega arith) is
all-behind P (suc k) zero (y ∷ xs) x all le is = absurd (omega (arith, le))
all-behind P (suc k) (suc j) (y ∷ xs) x all le is = all-behind P k j xs x all (omega (arith, le)) is

-- Loads.

-- what is planned, where an action is
at-plan : (plan : Option (List Action)) (k : ℕ) (a : Action) → option_and_then (λ (xs : List Action). slice_get xs k) plan ≡ Some a → (actions : List Action) × (plan ≡ Some actions) × (slice_get actions k ≡ Some a)
at-plan None k a is = (let never : ◌≡◌ {A = Option Action} None (Some a) = is in absurd (cc))
at-plan (Some actions) k a is = (actions, refl, is)

ahead-stands : (s : Setting) (h : List Event) (standing : List Load) (a : Action) → IsAhead s h standing a → has_load standing (shard_of a) ≡ true
ahead-stands s h standing (action.Split x) ahead = ahead.0
ahead-stands s h standing (action.Move x to) ahead = ahead.0.0

-- the shard of the action behind the one that a balance is at is among its loads
pub next-has-load : (s : Setting) (h : List Event) (placed : ℕ → Bool) (of : ℕ) (b : Balance) → ((actions : List Action) → b.plan ≡ Some actions → IsPlanned s h placed of b actions) → HasLoadNext (record b { over = b.over + 1 })
next-has-load s h placed of b planned a is =
    let k = at-plan b.plan (b.over + 1) a is in
    ahead-stands s h b.standing a (all-behind (IsAhead s h b.standing) b.over (b.over + 1) k.0 a (planned k.0 k.1).ahead (omega arith) k.2)

-- Jobs.

-- the action that is next, where a job is
pub next-action : (b : Balance) (j : JobValue) → next_job b ≡ Some j → (actions : List Action) × (a : Action) × (b.plan ≡ Some actions) × (slice_get actions b.over ≡ Some a) × (j ≡ job_for b.standing a)
next-action b j is = by-plan b.plan refl is
  where
    of-action : (actions : List Action) → b.plan ≡ Some actions → (o : Option Action) → slice_get actions b.over ≡ o → option_map (job_for b.standing) o ≡ Some j
        → (actions : List Action) × (a : Action) × (b.plan ≡ Some actions) × (slice_get actions b.over ≡ Some a) × (j ≡ job_for b.standing a)
    of-action actions planned None at is = (let never : ◌≡◌ {A = Option JobValue} None (Some j) = is in absurd (cc))
    of-action actions planned (Some a) at is = (let both : ◌≡◌ {A = Option JobValue} (Some (job_for b.standing a)) (Some j) = is in let same : job_for b.standing a ≡ j = cc in (actions, a, planned, at, sym same))

    by-plan : (p : Option (List Action)) → b.plan ≡ p → option_map (job_for b.standing) (option_and_then (λ (xs : List Action). slice_get xs b.over) p) ≡ Some j
        → (actions : List Action) × (a : Action) × (b.plan ≡ Some actions) × (slice_get actions b.over ≡ Some a) × (j ≡ job_for b.standing a)
    by-plan None planned is = (let never : ◌≡◌ {A = Option JobValue} None (Some j) = is in absurd (cc))
    by-plan (Some actions) planned is = of-action actions planned (slice_get actions b.over) refl is

job-called : (standing : List Load) (a : Action) → (job_for standing a).stage ≡ IsCalled
job-called standing (action.Split x) = refl
job-called standing (action.Move x to) = refl

job-action : (standing : List Load) (a : Action) → action_of (job_for standing a) ≡ a
job-action standing (action.Split x) = refl
job-action standing (action.Move x to) = refl

job-shard : (standing : List Load) (a : Action) → (job_for standing a).shard ≡ shard_of a
job-shard standing (action.Split x) = refl
job-shard standing (action.Move x to) = refl

job-front : (s : Setting) (h : List Event) (standing : List Load) (a : Action) → IsAhead s h standing a → is_on s.workers h (job_for standing a).shard (job_for standing a).worker ≡ true
job-front s h standing (action.Split x) ahead = ahead.1
job-front s h standing (action.Move x to) ahead = ahead.0.1

job-to : (s : Setting) (h : List Event) (standing : List Load) (a : Action) → IsAhead s h standing a → (worker : ℕ) → (job_for standing a).to ≡ Some worker → worker < s.workers
job-to s h standing (action.Split x) ahead worker is = (let never : ◌≡◌ {A = Option ℕ} None (Some worker) = is in absurd (cc))
job-to s h standing (action.Move x to) ahead worker is = (let both : ◌≡◌ {A = Option ℕ} (Some to) (Some worker) = is in let same : to ≡ worker = cc in subst (λ (n : ℕ). n < s.workers) same ahead.1)

module _ (s : Setting) (h : List Event) (placed : ℕ → Bool) (home : ℕ → ℕ) (of : ℕ) (b : Balance) (job : JobValue) (how : How) (bal : IsBalancing s h placed home (Some job) of b) (is_next : next_job b ≡ Some (begun_job job)) (leaves : LeavesAs job.stage how)
    (declined : (why : Decline) → job.stage ≡ IsDeclined why → IsDeclinedFor s h placed of job why) (began : of < length h) where
  abbrev e : Event
  e = Left of job.shard how

  abbrev next : Balance
  next = after_action false job b

  pub at : (actions : List Action) × (a : Action) × (b.plan ≡ Some actions) × (slice_get actions b.over ≡ Some a) × (begun_job job ≡ job_for b.standing a)
  at = next-action b (begun_job job) is_next

  abbrev pub actions : List Action
  actions = at.0

  abbrev pub its : Action
  its = at.1

  stay : ShardsStay s.workers e h
  stay = (quiet s.hierarchy s.workers e h refl).shards

  pub planned : IsPlanned s h placed of b actions
  planned = bal.planned actions at.2

  its-action : action_of job ≡ its
  its-action = ap action_of at.4 ∙ job-action b.standing its

  its-shard : job.shard ≡ shard_of its
  its-shard = ap (λ (j : JobValue). j.shard) at.4 ∙ job-shard b.standing its

  -- the event settles the action

  right-decline : (why : Decline) → IsDeclinedFor s h placed of job why → IsRightDecline (site_in s) placed h of its why
  right-decline why d = record {
    rows = d.rows;
    read = subst (λ (x : ℕ). AreReadOf placed (before h of) h x d.rows) its-shard d.read;
    cause = subst (λ (a : Action). IsCause s.hierarchy a d.rows why) its-action d.cause;
  }

  settles : (stage : StageValue) → job.stage ≡ stage → LeavesAs stage how → Settles (site_in s) placed of its h e
  settles (IsDeclined why) is left = subst (λ (x : How). Settles (site_in s) placed of its h (Left of job.shard x)) (sym left) (its-shard, right-decline why (declined why is))
  settles IsCalled is left = subst (λ (x : How). Settles (site_in s) placed of its h (Left of job.shard x)) (sym left) its-shard
  settles (IsFrozen f) is left = absurd left
  settles (Collects c) is left = absurd left
  settles (Builds k) is left = absurd left

  worked : work (e ∷ h) of ≡ record { event = e; past = h } ∷ work h of
  worked = rw (eq-eqb of of refl) refl

  one-on : b.over + 1 ≡ suc b.over
  one-on = omega arith

  ahead-next : All (IsAhead s h b.standing) (drop (b.over + 1) actions)
  ahead-next = subst (λ (k : ℕ). All (IsAhead s h b.standing) (drop k actions)) (sym one-on)
      (All-tail (IsAhead s h b.standing) its (drop (suc b.over) actions) (subst (All (IsAhead s h b.standing)) (drop-at b.over actions its at.3) planned.ahead))

  planned-next : IsPlanned s (e ∷ h) placed of next actions
  planned-next = record {
    all_read = planned.all_read;
    is_plan = planned.is_plan;
    within = (let lt = inside b.over actions its at.3 in omega (arith, lt));
    few = planned.few;
    events =
        let F : Action → Step → Type 0 = λ a step. Settles (site_in s) placed of a step.past step.event in
        let step : Step = record { event = e; past = h } in
        let both = zip-append F (take b.over actions) (its ∷ []) (reverse (work h of)) (step ∷ []) planned.events (settles job.stage refl leaves, tt) in
        subst (λ (xs : List Action). AllZip F xs (reverse (work (e ∷ h) of))) (sym (ap (λ (k : ℕ). take k actions) one-on ∙ take-more b.over actions its at.3))
        (subst (AllZip F (take b.over actions ++ its ∷ [])) (sym (ap reverse worked ∙ reverse-append (step ∷ []) (work h of))) both);
    done = planned.done ∙ sym (ap (count_by (λ (step : Step). is_done step.event)) worked);
    ahead = All-weaker (IsAhead s h b.standing) (IsAhead s (e ∷ h) b.standing) (ahead-grown s e h stay b.standing) (drop (b.over + 1) actions) ahead-next;
  }

  -- what is so of the next job
  pub next-is : (j : JobValue) → next_job next ≡ Some j → (j.stage ≡ IsCalled) × (is_on s.workers h j.shard j.worker ≡ true) × ((worker : ℕ) → j.to ≡ Some worker → worker < s.workers)
  next-is j is =
      let k = next-action next j is in
      let same : actions ≡ k.0 = (let both : ◌≡◌ {A = Option (List Action)} (Some actions) (Some k.0) = sym at.2 ∙ k.2 in cc) in
      let here : slice_get actions (suc b.over) ≡ Some k.1 = ap (slice_get actions) (sym one-on) ∙ ap (λ (xs : List Action). slice_get xs (b.over + 1)) same ∙ k.3 in
      let ahead : IsAhead s h b.standing k.1 = All-head (IsAhead s h b.standing) k.1 (drop (suc (suc b.over)) actions)
      (subst (All (IsAhead s h b.standing)) (drop-at (suc b.over) actions k.1 here) (subst (λ (x : ℕ). All (IsAhead s h b.standing) (drop x actions)) one-on ahead-next)) in (
        ap (λ (x : JobValue). x.stage) k.4 ∙ job-called b.standing k.1,
        subst (λ (x : JobValue). is_on s.workers h x.shard x.worker ≡ true) (sym k.4) (job-front s h b.standing k.1 ahead),
        subst (λ (x : JobValue). (worker : ℕ) → x.to ≡ Some worker → worker < s.workers) (sym k.4) (job-to s h b.standing k.1 ahead),
      )

  -- a job is left only where an action is
  pub within : (actions : List Action) × (b.plan ≡ Some actions) × (b.over < length actions) × (length actions ≤ b.most)
  within = (actions, at.2, inside b.over actions its at.3, planned.few)

  -- the balance as it goes on
  pub balancing-next : IsBalancing s (e ∷ h) placed home (next_job next) of next
  balancing-next =
      let le = le_of_lt began in
      let same : before (e ∷ h) of ≡ before h of = before-older e h of le in
      record {
        places = bal.places ∙ ap (frontier s.workers) (sym same);
        readings = bal.readings;
        loads = bal.loads;
        each = All-weaker (IsReadLoad s h placed home of) (IsReadLoad s (e ∷ h) placed home of) (λ r. read-load-grown s e h stay placed home of r le) bal.readings bal.each;
        read = bal.read;
        still = λ unplanned. let never : ◌≡◌ {A = Option (List Action)} None (Some actions) = sym unplanned ∙ at.2 in absurd (cc);
        planned = λ xs is. let both : ◌≡◌ {A = Option (List Action)} (Some actions) (Some xs) = sym at.2 ∙ is in let it : actions ≡ xs = cc in subst (IsPlanned s (e ∷ h) placed of next) it planned-next;
        from = λ x live. Any-weaker (λ (l : Load). IsTrue (comes_from h l.shard x)) (λ (l : Load). IsTrue (comes_from (e ∷ h) l.shard x))
            (λ l comes. comes-stays s.workers e h stay l.shard x ∙ comes) b.loads (bal.from x (sym (live-stays s.workers e h stay x) ∙ live));
        at_work = refl;
      }
