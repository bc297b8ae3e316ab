-- A balance reads a load: what it is then, and its plan and first job behind the last one.
use Rattle.std.proofs.{Common.{if◌then◌else◌, ◌≡◌, ℕ, suc, ◌+◌, ◌<◌, ◌≤◌, List, [], ◌∷◌, ◌++◌, Bool, true, false, length, take, drop, reverse, slice_get, Option, Some, None, refl, sym, ap, ◌∙◌, subst, arith, All, ◌==◌, ◌||◌, ◌&&◌, is_some}, lemmas.Bool.{eqb-true, eqb-false}, lemmas.List.{map-append, take_more_set, length-set}, lemmas.List.Elements.{All-append, All-cons, All-head, All-nil, All-weaker}, lemmas.List.Folds.{Any-from_list_any, list_any-from_Any}}
use Rattle.std.specs.{List.{AllZip, list_any}, Prelude.count_by}
use Rattle.row_ledger.specs.{Past.{Step, work}, Shards.{Place, comes_from, frontier, is_of, place}, Work.{Reading, Settles, is_done}, Workers.is_on, declared.event.Event.Event}
use Rattle.shard_plan.specs.{Balancing.plan, declared.action.Action.Action, declared.action.Load.Load}
use Rattle.shard_plan.specs.declared.action.Action.TheVariants as action
use Rattle.list_words.proofs.Truth.{on_bool}
use Rattle.core_tree.specs.volap_cell.specs.{Planning.{has_load, job_for, next_job, worker_among}, Setting.{Setting, site_in}, Values.{JobValue, IsCalled}, Working.{IsAhead, IsBalancing, IsPlanned, IsReadLoad, StandsBy, places_in}, declared.command.Balance.Balance}
use Rattle.core_image.proofs.Commands.NextAction.{drop-at, inside, next-action}
use Rattle.core_admin.specs.LoadDue.{after_load, loads_read}
use Rattle.core_admin.proofs.{Balances.LoadLists.{each-among, set-alike, stands-there}, Balances.PlanShards.{IsOf, emptiest-there, has-by-shard, plan-few, plan-of, shards_in}}

none-of : {A : Type 0} (o : Option A) → is_some o ≡ false → o ≡ None
none-of None is = refl
none-of (Some x) is = (let never : true ≡ false = is in absurd (cc))

-- whether one of the loads comes from a shard is seen of their shards alone
any-by-shard : (test : ℕ → Bool) (loads : List Load) → list_any (λ (l : Load). test l.shard) loads ≡ list_any test (shards_in loads)
any-by-shard test [] = refl
any-by-shard test (l ∷ loads) = ap (λ (b : Bool). test l.shard || b) (any-by-shard test loads)

module _ (s : Setting) (h : List Event) (placed : ℕ → Bool) (home : ℕ → ℕ) (of : ℕ) (b : Balance) (job : Option JobValue) (bal : IsBalancing s h placed home job of b) (load : Load) (load_at : slice_get b.loads b.read ≡ Some load) where
  -- it hasn't planned, and has no job

  pub within : b.read < length b.loads
  within = inside b.read b.loads load load_at

  pub unplanned : b.plan ≡ None
  unplanned = by b.plan refl
    where
      by : (p : Option (List Action)) → b.plan ≡ p → p ≡ None
      by None is = refl
      by (Some actions) is = (let all = (bal.planned actions is).all_read in let lt = within in absurd (omega (arith, all, lt)))

  pub jobless : job ≡ None
  jobless = none-of job (bal.at_work ∙ ap is_some (none unplanned))
    where
      none : b.plan ≡ None → next_job b ≡ None
      none is = ap (λ (p : Option (List Action)). next_job (record b { plan = p })) is

  pub over-none : b.over ≡ 0
  over-none = (bal.still unplanned).2

  module _ (rows : ℕ) (reading : Reading) (is_load : reading.load ≡ record load { rows = rows }) (read_load : IsReadLoad s h placed home of reading) (some : 0 < s.workers) where
    abbrev new_load : Load
    new_load = record load { rows = rows }

    abbrev now : List Load
    now = loads_read b load rows

    abbrev pub next : Balance
    next = after_load b load rows s.workers

    same-places : places_in now ≡ places_in b.loads
    same-places = set-alike (λ (l : Load). place l.shard l.worker) b.read b.loads load new_load load_at refl

    same-shards : shards_in now ≡ shards_in b.loads
    same-shards = set-alike (λ (l : Load). l.shard) b.read b.loads load new_load load_at refl

    same-length : length now ≡ length b.loads
    same-length = length-set b.loads b.read new_load

    front : frontier s.workers h ≡ places_in now
    front = (bal.still unplanned).0 ∙ sym bal.places ∙ sym same-places

    -- each of its shards stands where it has it
    stands : (x : ℕ) → list_any (λ y. y == x) (shards_in now) ≡ true → StandsBy s h now x
    stands x has =
        let there : has_load now x ≡ true = has-by-shard now x ∙ has in
        (there, subst (λ (places : List Place). list_any (λ (p : Place). is_of x p && (p.worker == worker_among now x)) places ≡ true) (sym front) (stands-there now x there))

    all-stand : All (StandsBy s h now) (shards_in now)
    all-stand = All-weaker (λ x. list_any (λ y. y == x) (shards_in now) ≡ true) (StandsBy s h now) stands (shards_in now) (each-among (shards_in now))

    ahead-of : (a : Action) → IsOf (StandsBy s h now) (λ w. w < s.workers) a → IsAhead s h now a
    ahead-of (action.Split x) is = is
    ahead-of (action.Move x worker) is = is

    abbrev planning : List Action
    planning = plan now s.workers b.most

    all-ahead : All (IsAhead s h now) planning
    all-ahead = All-weaker (IsOf (StandsBy s h now) (λ w. w < s.workers)) (IsAhead s h now) ahead-of planning (plan-of (StandsBy s h now) (λ w. w < s.workers) s.workers (λ loads. emptiest-there loads s.workers some) b.most now all-stand)

    -- behind the last load
    pub planned-now : (actions : List Action) → next.plan ≡ Some actions → (b.read + 1 ≡ length b.loads) × (planning ≡ actions)
    planned-now actions is = on_bool ((b.read + 1) == length now)
        (λ q. let both : ◌≡◌ {A = Option (List Action)} (Some planning) (Some actions) = sym (ap (λ (t : Bool). if t then Some planning else None) q) ∙ is in
        let same : planning ≡ actions = cc in (eqb-true _ _ q ∙ same-length, same))
        (λ q. let never : ◌≡◌ {A = Option (List Action)} None (Some actions) = sym (ap (λ (t : Bool). if t then Some planning else None) q) ∙ is in absurd (cc))

    pub is-planned : (actions : List Action) → next.plan ≡ Some actions → IsPlanned s h placed of next actions
    is-planned actions is =
        let (all, same) = planned-now actions is in
        let nothing = bal.still unplanned in
        let F : Action → Step → Type 0 = λ a step. Settles (site_in s) placed of a step.past step.event in
        let none : b.over ≡ 0 = nothing.2 in
        let workless : work h of ≡ [] = nothing.1 in
        record {
          all_read = all ∙ sym same-length;
          is_plan = sym same;
          within = omega (arith, none);
          few = (let few = plan-few now s.workers b.most in subst (λ (xs : List Action). length xs ≤ b.most) same few);
          events = subst (λ (k : ℕ). AllZip F (take k actions) (reverse (work h of))) (sym none) (subst (λ (steps : List Step). AllZip F [] (reverse steps)) (sym workless) tt);
          done = nothing.3 ∙ sym (ap (count_by (λ (step : Step). is_done step.event)) workless);
          ahead = subst (λ (k : ℕ). All (IsAhead s h now) (drop k actions)) (sym none) (subst (All (IsAhead s h now)) same all-ahead);
        }

    -- while nothing is planned there is a load to read
    unread : next.plan ≡ None → b.read + 1 < length now
    unread is = on_bool ((b.read + 1) == length now)
        (λ q. let never : ◌≡◌ {A = Option (List Action)} (Some planning) None = sym (ap (λ (t : Bool). if t then Some planning else None) q) ∙ is in absurd (cc))
        (λ q. let other = eqb-false (b.read + 1) (length now) q in let lt = within in let len = same-length in omega (arith, other, lt, len))

    pub balancing-read : IsBalancing s h placed home (next_job next) of next
    balancing-read = record {
      places = same-places ∙ bal.places;
      readings = bal.readings ++ reading ∷ [];
      loads = map-append (λ (r : Reading). r.load) bal.readings (reading ∷ []) ∙ (λ k. bal.loads k ++ is_load k ∷ []) ∙ sym (take_more_set b.loads b.read new_load within);
      each = All-append (IsReadLoad s h placed home of) bal.readings (reading ∷ []) bal.each (All-cons (IsReadLoad s h placed home of) reading [] read_load (All-nil (IsReadLoad s h placed home of)));
      read = (let lt = within in let len = same-length in omega (arith, lt, len));
      still = λ p. let nothing = bal.still unplanned in (nothing.0, nothing.1, nothing.2, nothing.3, refl, unread p);
      planned = is-planned;
      from = λ x live.
          let was = list_any-from_Any (λ (l : Load). comes_from h l.shard x) b.loads (bal.from x live) in
          Any-from_list_any (λ (l : Load). comes_from h l.shard x) now
          (any-by-shard (λ y. comes_from h y x) now ∙ ap (list_any (λ y. comes_from h y x)) same-shards ∙ sym (any-by-shard (λ y. comes_from h y x) b.loads) ∙ was);
      at_work = refl;
    }

    -- The first job.

    facts : (a : Action) → IsAhead s h now a
        → ((job_for now a).stage ≡ IsCalled) × (is_on s.workers h (job_for now a).shard (job_for now a).worker ≡ true) × ((worker : ℕ) → (job_for now a).to ≡ Some worker → worker < s.workers)
    facts (action.Split x) ahead = (refl, ahead.1, λ worker is. let never : ◌≡◌ {A = Option ℕ} None (Some worker) = is in absurd (cc))
    facts (action.Move x w) ahead = (refl, ahead.0.1, λ worker is. let both : ◌≡◌ {A = Option ℕ} (Some w) (Some worker) = is in let same : w ≡ worker = cc in subst (λ (k : ℕ). k < s.workers) same ahead.1)

    pub first-is : (j : JobValue) → next_job next ≡ Some j → (j.stage ≡ IsCalled) × (is_on s.workers h j.shard j.worker ≡ true) × ((worker : ℕ) → j.to ≡ Some worker → worker < s.workers)
    first-is j is =
        let k = next-action next j is in
        let ahead : All (IsAhead s h now) (drop b.over k.0) = (is-planned k.0 k.2).ahead in
        let its : IsAhead s h now k.1 = All-head (IsAhead s h now) k.1 (drop (suc b.over) k.0) (subst (All (IsAhead s h now)) (drop-at b.over k.0 k.1 k.3) ahead) in
        subst (λ (x : JobValue). (x.stage ≡ IsCalled) × (is_on s.workers h x.shard x.worker ≡ true) × ((worker : ℕ) → x.to ≡ Some worker → worker < s.workers)) (sym k.4) (facts k.1 its)
