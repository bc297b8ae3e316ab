-- How a balance is as it ends.
use Rattle.std.proofs.{Common.{◌≡◌, ℕ, zero, suc, ◌<◌, ◌≤◌, List, [], ◌∷◌, true, false, length, take, reverse, Option, Some, is_some, refl, sym, ap, ◌∙◌, subst, arith, inl, inr, All, Any, Contains, option_map, option_and_then, slice_get}, Math.Seq.take-length, lemmas.Bool.{false≢true}, lemmas.List.Elements.{Contains-append_right, All-contains, All-contains_itself, All-weaker}, lemmas.Option.slice_get_past}
use Rattle.std.specs.{List.AllZip, Prelude.IsTrue}
use Rattle.row_ledger.specs.{Bounds.may, Laws.AscendFrom, Past.{Ack, Step, acked, before, last_of, work}, Right.{EachEvent, MayEnd, Opens, Stands}, Shards.{Place, comes_from, frontier, ids_made, is_live, place}, Work.{IsRead, IsRightBalance, Reading, Settles, loads as loads_of}, declared.event.Event.Event, declared.settings.How.How}
use Rattle.row_ledger.specs.declared.class.Class.TheVariants as class_is
use Rattle.row_ledger.specs.declared.settings.How.TheVariants as how_is
use Rattle.row_ledger.proofs.{Answering.All-acked_before, Ascent.frontier-ascends, Descent.{comes_from-comparable, comes_from-self, live-made}, SettledAnswer.{EachEvent-before, EachEvent-past}}
use Rattle.list_words.proofs.Elements.{Contains-nil}
use Rattle.shard_plan.specs.{Balancing.plan, declared.action.Action.Action, declared.action.Load.Load}
use Rattle.volap_cell.specs.{Commands.MayNoteEnd, Ghost.Ghost, Growing.IsUnder, ImageKinds.doing, Invariant.InvWith, Planning.{job_for, next_job}, Setting.{Setting, site_in}, Telling.IsCalledAs, Values.JobValue, View.View, Working.{IsBalancing, IsPlanned, IsReadLoad, places_in}, declared.command.Balance.Balance}
use Rattle.volap_cell.specs.declared.command.Work.TheVariants as work_is
use Rattle.core_image.proofs.{Commands.Endings.{none-spent, right-end, unasked}, Images.MadePaths.{acked-made, comes-before}, EachStep.CallsEnd.IsEnding, ReadOnce.{all-read, last-then, places_read, read-live, read-once}}

-- the places of readings are those of their loads
places-loads : (rs : List Reading) → places_read rs ≡ places_in (loads_of rs)
places-loads [] = refl
places-loads (r ∷ rs) = ap (λ (places : List Place). place r.load.shard r.load.worker ∷ places) (places-loads rs)

-- a load that is found is that of a reading
any-reading : (P : Load → Type 0) (rs : List Reading) → Any P (loads_of rs) → (r : Reading) × Contains rs r × P r.load
any-reading P rs any =
    let at : (l : Load) → Contains (loads_of rs) l → (r : Reading) × Contains rs r × (r.load ≡ l) = reading-of rs in
    let (k, l, within, is, holds) = any in
    let (r, has, same) = at l (k, within, is) in
    (r, has, subst P (sym same) holds)
  where
    reading-of : (rs : List Reading) (l : Load) → Contains (loads_of rs) l → (r : Reading) × Contains rs r × (r.load ≡ l)
    reading-of [] l has = absurd (Contains-nil l has)
    reading-of (r ∷ rs) l (zero, within, is) = (r, (zero, omega arith, refl), is)
    reading-of (r ∷ rs) l (suc k, within, is) = (let (x, has, same) = reading-of rs l (k, omega arith, is) in (x, Contains-append_right (r ∷ []) rs x has, same))

module _ (s : Setting) (v : View) (g : Ghost) (i : InvWith s v g) (n of : ℕ) (b : Balance) (has : v.commands n ≡ doing of (work_is.Balance b)) where
  abbrev h : List Event
  h = v.history

  abbrev past : List Event
  past = before h of

  bal : IsBalancing s h g.placed g.home (v.jobs n) of b
  bal = i.balancing.balance n of b has

  each : EachEvent (Stands (site_in s) g.placed) h
  each = i.telling.right.right.each

  each-then : EachEvent (Stands (site_in s) g.placed) past
  each-then = EachEvent-before (site_in s) g.placed h of each

  opens-then : EachEvent (Opens (site_in s)) past
  opens-then = EachEvent-past (Opens (site_in s)) h of i.telling.right.right.opening

  -- where nothing is next the actor has no job
  jobless : is_some (next_job b) ≡ false → (j : JobValue) → v.jobs n ≡ Some j → ⊥
  jobless none j is = false≢true (sym (bal.at_work ∙ none) ∙ ap is_some is)

  -- A plan that is over.

  module _ (actions : List Action) (plan_is : b.plan ≡ Some actions) (over : b.over ≡ length actions) where
    planned : IsPlanned s h g.placed of b actions
    planned = bal.planned actions plan_is

    loads-are : loads_of bal.readings ≡ b.loads
    loads-are = bal.loads ∙ ap (λ (k : ℕ). take k b.loads) planned.all_read ∙ take-length b.loads

    places : places_read bal.readings ≡ frontier s.workers past
    places = places-loads bal.readings ∙ ap places_in loads-are ∙ bal.places

    plan-is : take b.over actions ≡ plan (loads_of bal.readings) s.workers b.most
    plan-is = ap (λ (k : ℕ). take k actions) over ∙ take-length actions ∙ planned.is_plan ∙ ap (λ (ls : List Load). plan ls s.workers b.most) (sym loads-are)

    live : All (λ (r : Reading). is_live s.workers past r.load.shard ≡ true) bal.readings
    live = read-live s.workers past bal.readings places

    -- each row that was acknowledged before was read
    was-read : (k : Ack) → Contains (acked past) k → IsRead past bal.readings k
    was-read k then =
        let now : Contains (acked h) k = All-contains (Contains (acked h)) (acked past) k (All-acked_before (Contains (acked h)) h of (All-contains_itself (acked h))) then in
        let (placed, path, nobody) = i.placing.acked_rows k now in
        let home = g.home k.row.no in
        let stands = i.placing.stands k.row.no placed in
        let line : comes_from h (last_of k.path) home ≡ true = subst (λ (p : List ℕ). comes_from h (last_of p) home ≡ true) path (i.placing.line k.row.no placed).1 in
        let found = any-reading (λ (l : Load). IsTrue (comes_from h l.shard home)) bal.readings (subst (λ (ls : List Load). Any (λ (l : Load). IsTrue (comes_from h l.shard home)) ls) (sym loads-are) (bal.from home stands)) in
        let (r, there, from) = found in
        let live_r = All-contains (λ (x : Reading). is_live s.workers past x.load.shard ≡ true) bal.readings r live there in
        let load = All-contains (IsReadLoad s h g.placed g.home of) bal.readings r bal.each there in
        let own = All-contains (λ (a : Ack). IsUnder h g.placed g.home r.load.shard a.row.no → Contains r.rows a.row) (acked past) k load.own then in
        let made : last_of k.path < ids_made s.workers past = acked-made (site_in s) g.placed past opens-then each-then k then in
        let above : comes_from past (last_of k.path) r.load.shard ≡ true = elim (comes_from-comparable (site_in s) g.placed h (last_of k.path) r.load.shard home each (live-made (site_in s) g.placed h home each stands) line from) [
          | inl below ↦ sym (comes-before (site_in s) g.placed h each of (last_of k.path) r.load.shard (live-made (site_in s) g.placed past r.load.shard each-then live_r)) ∙ below
          | inr below ↦
              let same : last_of k.path ≡ r.load.shard = last-then s h g.placed g.home of each r.load.shard (last_of k.path) live_r made below in
              subst (λ (x : ℕ). comes_from past x r.load.shard ≡ true) (sym same) (comes_from-self past r.load.shard)
        ] in
        (there.0, r, there.1, there.2, (above, own (record { is_placed = placed; comes = from })))

    right-balance : (done planned_ : ℕ) → done ≡ b.done → planned_ ≡ length actions → IsRightBalance (site_in s) g.placed h of b.most done planned_
    right-balance done planned_ done_is planned_is = record {
      readings = bal.readings;
      places = places;
      counts = All-weaker (IsReadLoad s h g.placed g.home of) (λ (r : Reading). r.load.rows ≡ length r.rows) (λ r load. load.count) bal.readings bal.each;
      once = read-once s h g.placed g.home of each i.placing.stands bal.readings (subst (AscendFrom 0) (sym places) (frontier-ascends (site_in s) g.placed past each-then)) live bal.each;
      allowed = all-read (Contains (may g.placed h)) bal.readings (All-weaker (IsReadLoad s h g.placed g.home of) (λ (r : Reading). All (Contains (may g.placed h)) r.rows) (λ r load. load.usable) bal.readings bal.each);
      came = All-weaker (Contains (acked past)) (IsRead past bal.readings) was-read (acked past) (All-contains_itself (acked past));
      actions = planned_is ∙ ap length (planned.is_plan ∙ ap (λ (ls : List Load). plan ls s.workers b.most) (sym loads-are));
      events = subst (λ (as_ : List Action). AllZip (λ a (step : Step). Settles (site_in s) g.placed of a step.past step.event) as_ (reverse (work h of))) plan-is planned.events;
      did = done_is ∙ planned.done;
    }

    none-next : is_some (next_job b) ≡ false
    none-next =
        ap (λ (p : Option (List Action)). is_some (option_map (job_for b.standing) (option_and_then (λ (xs : List Action). slice_get xs b.over) p))) plan_is
        ∙ ap (λ (o : Option Action). is_some (option_map (job_for b.standing) o)) (slice_get_past actions b.over (omega (arith, over)))

  -- The end.

  called : IsCalledAs h of (class_is.Balance b.most)
  called = (i.telling.progress n (record { of = of; work = work_is.Balance b }) has).0

  as-ending : (how : How) → MayEnd (site_in s) g.placed h of (class_is.Balance b.most) how → is_some (next_job b) ≡ false → b.over ≤ b.most → IsEnding s h g.placed of (work_is.Balance b) (v.jobs n) how
  as-ending how may none over =
      let nothing = none-spent (v.jobs n) (jobless none) in
      record {
        right = right-end s v g i n of (class_is.Balance b.most) how called (i.telling.is_open n (record { of = of; work = work_is.Balance b }) has) may (unasked s v g i n of (class_is.Balance b.most) called refl);
        off_desk = refl;
        no_insert = refl;
        some = omega (arith, over);
        unspent = nothing.0;
        unnoted = nothing.1;
        unfrozen = nothing.2;
        less = inl (omega arith);
      }

  pub balance-ends : (how : How) → MayNoteEnd s.servers (work_is.Balance b) (v.jobs n) how → IsEnding s h g.placed of (work_is.Balance b) (v.jobs n) how
  balance-ends (how_is.Balanced done planned_) ends =
      let (done_is, over_is, (actions, plan_is, planned_is)) = ends in
      let over : b.over ≡ length actions = over_is ∙ planned_is in
      let few = (planned actions plan_is over).few in
      as-ending (how_is.Balanced done planned_) (right-balance actions plan_is over done planned_ done_is planned_is) (none-next actions plan_is over) (omega (arith, over, few))
  balance-ends how_is.NoMemory ends =
      let (stays, none, over, done, standing, unread) = bal.still ends in
      as-ending how_is.NoMemory none
      (ap (λ (p : Option (List Action)). is_some (option_map (job_for b.standing) (option_and_then (λ (xs : List Action). slice_get xs b.over) p))) ends)
      (omega (arith, over))
  balance-ends how_is.Fine ends = absurd ends
  balance-ends (how_is.Declined why) ends = absurd ends
  balance-ends how_is.Postponed ends = absurd ends
