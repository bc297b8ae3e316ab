-- An action of a balance is done, and the next one is due: its plan goes on, its loads stand as they do now, and its next job begins.
use Rattle.std.proofs.{Common.{◌≡◌, ℕ, suc, ◌+◌, ◌<◌, ◌≤◌, List, [], ◌∷◌, ◌++◌, Bool, true, false, cond, length, take, drop, reverse, slice_get, Contains, Option, Some, None, refl, sym, ap, ◌∙◌, subst, arith, All, ◌==◌, eq-eqb, le_of_lt, nat_lt}, lemmas.Bool.{or_left, or_right}, lemmas.List.reverse-append, lemmas.List.Elements.{All-head, All-tail, All-weaker, All-cons, All-nil, All-take}, lemmas.List.Sums.sum_by-cons}
use Rattle.std.specs.{List.{AllZip, list_any}, Prelude.{count_by, IsTrue, if◌then◌else◌}}
use Rattle.dim_hierarchy.specs.declared.row.Row.{Row}
use Rattle.row_ledger.specs.{Past.{Ack, Step, acked, before, work}, Right.{EachEvent, Stands}, Shards.{is_live, comes_from, frontier, is_of, ids_made}, Work.{Reading, Settles, is_done, loads as loads_of}, Workers.is_on, declared.event.Event.Event, declared.event.Event.TheVariants.Split}
use Rattle.row_ledger.proofs.{Descent.live-made, Positions.before-older}
use Rattle.core_tree.specs.shard_build.proofs.Lists.{zip-append}
use Rattle.shard_plan.specs.{Balancing.plan, declared.action.Action.Action, declared.action.Load.Load}
use Rattle.core_tree.specs.volap_cell.specs.{Commands.after_action, Ghost.Ghost, Growing.IsUnder, Invariant.InvWith, Planning.{job_for, next_job}, Setting.{Setting, site_in}, Values.{JobValue, IsCalled}, View.view, Working.{IsAhead, IsBalancing, IsPlanned, IsReadLoad, action_of, begun_job, places_in}, World.World, declared.command.Balance.Balance}
use Rattle.core_tree.specs.volap_cell.proofs.{OneEvent.Older.Any-weaker, OneEvent.Work.rows-may-grown}
use Rattle.core_image.proofs.{Commands.NextAction.{drop-at, inside, next-action, take-more}, Images.MadePaths.ids-before}
use Rattle.core_admin.proofs.ShardLines.{KeepsLines}
use Rattle.shard_plan.specs.declared.action.Action.TheVariants as action

-- what is known of the event that tells that a job is done, for the command
pub record IsDoneBy (s : Setting) (h : List Event) (placed : ℕ → Bool) (of : ℕ) (job : JobValue) (e : Event) : Type 0 where
  pub worked : work (e ∷ h) of ≡ record { event = e; past = h } ∷ work h of
  pub done : is_done e ≡ true
  pub settles : Settles (site_in s) placed of (action_of job) h e
  -- what is ahead of a balance behind it
  pub ahead : (b : Balance) (actions : List Action) → IsPlanned s h placed of b actions → slice_get actions b.over ≡ Some (action_of job)
      → All (IsAhead s (e ∷ h) (after_action true job b).standing) (drop (b.over + 1) actions)

-- loads of shards that were made
all-loads : (high : ℕ) (loads : List Load) → ((x : ℕ) → list_any (is_of x) (places_in loads) ≡ true → x < high) → All (λ (l : Load). l.shard < high) loads
all-loads high [] made = All-nil (λ (l : Load). l.shard < high)
all-loads high (l ∷ loads) made =
    All-cons (λ (l : Load). l.shard < high) l loads (made l.shard (or_left (l.shard == l.shard) (list_any (is_of l.shard) (places_in loads)) (eq-eqb l.shard l.shard refl)))
    (all-loads high loads (λ z is. made z (or_right (l.shard == z) (list_any (is_of z) (places_in loads)) is)))

all-readings : (P : Load → Type 0) (rs : List Reading) → All P (loads_of rs) → All (λ (r : Reading). P r.load) rs
all-readings P [] all = All-nil (λ (r : Reading). P r.load)
all-readings P (r ∷ rs) all = All-cons (λ (r : Reading). P r.load) r rs (All-head P r.load (loads_of rs) all) (all-readings P rs (All-tail P r.load (loads_of rs) all))

all-two : {X : Type 0} (P Q R : X → Type 0) → ((x : X) → P x → Q x → R x) → (xs : List X) → All P xs → All Q xs → All R xs
all-two P Q R f [] p q = All-nil R
all-two P Q R f (x ∷ xs) p q = All-cons R x xs (f x (All-head P x xs p) (All-head Q x xs q)) (all-two P Q R f xs (All-tail P x xs p) (All-tail Q x xs q))

count-one : {A : Type 0} (P : A → Bool) (x : A) (xs : List A) → P x ≡ true → count_by P (x ∷ xs) ≡ count_by P xs + 1
count-one P x xs is = (let k = sum_by-cons (λ y. cond (P y) 1 0) x xs in let one : ◌≡◌ {A = ℕ} (cond (P x) 1 0) 1 = ap (λ (b : Bool). cond b 1 0) is in omega (arith, k, one))

job-action : (standing : List Load) (a : Action) → action_of (job_for standing a) ≡ a
job-action standing (action.Split x) = refl
job-action standing (action.Move x to) = refl

module _ (s : Setting) (w : World) (g : Ghost) (i : InvWith s (view s w) g) (home : ℕ → ℕ) (e : Event) (m : KeepsLines s (view s w) g home e) (of : ℕ) (b : Balance) (job : JobValue)
    (bal : IsBalancing s (view s w).history g.placed g.home (Some job) of b) (is_next : next_job b ≡ Some (begun_job job)) (began : of < length (view s w).history) (t : IsDoneBy s (view s w).history g.placed of job e) where
  abbrev h : List Event
  h = (view s w).history

  abbrev next : Balance
  next = after_action true job b

  each : EachEvent (Stands (site_in s) g.placed) h
  each = i.telling.right.right.each

  at : (actions : List Action) × (a : Action) × (b.plan ≡ Some actions) × (slice_get actions b.over ≡ Some a) × (begun_job job ≡ job_for b.standing a)
  at = next-action b (begun_job job) is_next

  abbrev actions : List Action
  actions = at.0

  abbrev its : Action
  its = at.1

  planned : IsPlanned s h g.placed of b actions
  planned = bal.planned actions at.2

  its-action : its ≡ action_of job
  its-action = sym (job-action b.standing its) ∙ sym (ap action_of at.4)

  one-on : b.over + 1 ≡ suc b.over
  one-on = omega arith

  pub within : (actions : List Action) × (b.plan ≡ Some actions) × (b.over < length actions) × (length actions ≤ b.most)
  within = (actions, at.2, inside b.over actions its at.3, planned.few)

  ahead-next : All (IsAhead s (e ∷ h) next.standing) (drop (b.over + 1) actions)
  ahead-next = t.ahead b actions planned (at.3 ∙ ap Some its-action)

  planned-next : IsPlanned s (e ∷ h) g.placed of next actions
  planned-next = record {
    all_read = planned.all_read;
    is_plan = planned.is_plan;
    within = (let lt = inside b.over actions its at.3 in omega (arith, lt));
    few = planned.few;
    events =
        let F : Action → Step → Type 0 = λ a step. Settles (site_in s) g.placed of a step.past step.event in
        let step : Step = record { event = e; past = h } in
        let settled : F its step = subst (λ (a : Action). F a step) (sym its-action) t.settles in
        let both = zip-append F (take b.over actions) (its ∷ []) (reverse (work h of)) (step ∷ []) planned.events (settled, tt) in
        subst (λ (xs : List Action). AllZip F xs (reverse (work (e ∷ h) of))) (sym (ap (λ (k : ℕ). take k actions) one-on ∙ take-more b.over actions its at.3))
        (subst (AllZip F (take b.over actions ++ its ∷ [])) (sym (ap reverse t.worked ∙ reverse-append (step ∷ []) (work h of))) both);
    done =
        let step : Step = record { event = e; past = h } in
        let P : Step → Bool = λ x. is_done x.event in
        let one : count_by P (step ∷ work h of) ≡ count_by P (work h of) + 1 = count-one P step (work h of) t.done in
        ap (λ (k : ℕ). k + 1) planned.done ∙ sym one ∙ sym (ap (count_by P) t.worked);
    ahead = ahead-next;
  }

  -- what is so of the next job
  pub next-is : (j : JobValue) → next_job next ≡ Some j → (j.stage ≡ IsCalled) × (is_on s.workers (e ∷ h) j.shard j.worker ≡ true) × ((worker : ℕ) → j.to ≡ Some worker → worker < s.workers)
  next-is j is =
      let k = next-action next j is in
      let same : actions ≡ k.0 = (let both : ◌≡◌ {A = Option (List Action)} (Some actions) (Some k.0) = sym at.2 ∙ k.2 in cc) in
      let here : slice_get actions (b.over + 1) ≡ Some k.1 = ap (λ (xs : List Action). slice_get xs (b.over + 1)) same ∙ k.3 in
      let ahead : IsAhead s (e ∷ h) next.standing k.1 = All-head (IsAhead s (e ∷ h) next.standing) k.1 (drop (suc (b.over + 1)) actions)
      (subst (All (IsAhead s (e ∷ h) next.standing)) (drop-at (b.over + 1) actions k.1 here) ahead-next) in
      let f = facts k.1 ahead in
      subst (λ (x : JobValue). (x.stage ≡ IsCalled) × (is_on s.workers (e ∷ h) x.shard x.worker ≡ true) × ((worker : ℕ) → x.to ≡ Some worker → worker < s.workers)) (sym k.4) f
    where
      facts : (a : Action) → IsAhead s (e ∷ h) next.standing a
          → ((job_for next.standing a).stage ≡ IsCalled) × (is_on s.workers (e ∷ h) (job_for next.standing a).shard (job_for next.standing a).worker ≡ true) × ((worker : ℕ) → (job_for next.standing a).to ≡ Some worker → worker < s.workers)
      facts (action.Split x) ahead = (refl, ahead.1, λ worker is. let never : ◌≡◌ {A = Option ℕ} None (Some worker) = is in cc)
      facts (action.Move x w) ahead = (refl, ahead.0.1, λ worker is. let both : ◌≡◌ {A = Option ℕ} (Some w) (Some worker) = is in let same : w ≡ worker = cc in subst (λ (k : ℕ). k < s.workers) same ahead.1)

  -- Loads.

  loads-made : All (λ (z : Load). z.shard < ids_made s.workers h) b.loads
  loads-made = all-loads (ids_made s.workers h) b.loads (λ x is.
      let was : is_live s.workers (before h of) x ≡ true = ap (list_any (is_of x)) (sym bal.places) ∙ is in
      ids-before (site_in s) g.placed h of x (live-made (site_in s) g.placed (before h of) x (each-before h of each) was))
    where
      each-before : (past : List Event) (p : ℕ) → EachEvent (Stands (site_in s) g.placed) past → EachEvent (Stands (site_in s) g.placed) (before past p)
      each-before [] p all = all
      each-before (x ∷ past) p all = by (nat_lt (length past) p) (each-before past p all.1)
        where
          by : (t : Bool) → EachEvent (Stands (site_in s) g.placed) (before past p) → EachEvent (Stands (site_in s) g.placed) (if t then x ∷ past else before past p)
          by true rest = all
          by false rest = rest

  readings-made : All (λ (z : Reading). z.load.shard < ids_made s.workers h) bal.readings
  readings-made = all-readings (λ (z : Load). z.shard < ids_made s.workers h) bal.readings (subst (All (λ (z : Load). z.shard < ids_made s.workers h)) (sym bal.loads) (All-take (λ (z : Load). z.shard < ids_made s.workers h) b.read b.loads loads-made))

  -- a load that was read
  read-on : (z : Reading) → z.load.shard < ids_made s.workers h → IsReadLoad s h g.placed g.home of z → IsReadLoad s (e ∷ h) g.placed home of z
  read-on z lt k = record {
    count = k.count;
    once = k.once;
    under = All-weaker (λ (x : Row). IsUnder h g.placed g.home z.load.shard x.no) (λ (x : Row). IsUnder (e ∷ h) g.placed home z.load.shard x.no)
        (λ x u. m.under z.load.shard x.no u) z.rows k.under;
    usable = rows-may-grown g.placed e h z.rows k.usable;
    own = subst (λ (past : List Event). All (λ (a : Ack). IsUnder (e ∷ h) g.placed home z.load.shard a.row.no → Contains z.rows a.row) (acked past)) (sym (before-older e h of (le_of_lt began)))
        (All-weaker (λ (a : Ack). IsUnder h g.placed g.home z.load.shard a.row.no → Contains z.rows a.row) (λ (a : Ack). IsUnder (e ∷ h) g.placed home z.load.shard a.row.no → Contains z.rows a.row)
        (λ a f u. f (m.under_was z.load.shard a.row.no lt u)) (acked (before h of)) k.own);
  }

  -- the balance as it goes on
  pub balancing-done : IsBalancing s (e ∷ h) g.placed home (next_job next) of next
  balancing-done =
      let same : before (e ∷ h) of ≡ before h of = before-older e h of (le_of_lt began) in
      record {
        places = bal.places ∙ ap (frontier s.workers) (sym same);
        readings = bal.readings;
        loads = bal.loads;
        each = all-two (λ (z : Reading). z.load.shard < ids_made s.workers h) (IsReadLoad s h g.placed g.home of) (IsReadLoad s (e ∷ h) g.placed home of) read-on bal.readings readings-made bal.each;
        read = bal.read;
        still = λ unplanned. let never : ◌≡◌ {A = Option (List Action)} None (Some actions) = sym unplanned ∙ at.2 in absurd (cc);
        planned = λ xs is. let both : ◌≡◌ {A = Option (List Action)} (Some actions) (Some xs) = sym at.2 ∙ is in let it : actions ≡ xs = cc in subst (IsPlanned s (e ∷ h) g.placed of next) it planned-next;
        from = λ x live. let from = m.from x live in
            Any-weaker (λ (z : Load). IsTrue (comes_from h z.shard from.0)) (λ (z : Load). IsTrue (comes_from (e ∷ h) z.shard x)) (λ z c. from.2 z.shard c) b.loads (bal.from from.0 from.1);
        at_work = refl;
      }
