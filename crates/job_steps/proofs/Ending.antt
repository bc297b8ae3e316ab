-- What the steps come to by which an action is done: the newest event, and the one before it where the command ends too.
use Rattle.std.proofs.Common.{◌≡◌, ◌∙◌, ℕ, ◌+◌, ◌<◌, true, false, List, [], ◌∷◌, ◌++◌, length, Option, Some, None, refl, sym, ap, subst}
use Rattle.std.specs.Prelude.{⊤, option_and_then}
use Rattle.seat_steps.specs.core_steps.specs.{Jobs.{job_kind, job_places}, Places.numbers, declared.jobs.JobStep.JobStep}
use Rattle.seat_steps.specs.core_steps.specs.declared.jobs.JobStep.TheVariants as job
use Rattle.job_steps.proofs.Made.{IsActorNow, actor-now}
use Rattle.job_steps.specs.{Dues.{IsEnd, over_by}, Jobs.{CameTo, HasEndedAction, HasJobOpen, HasPassed, IsOutcome, always}}
use Rattle.row_ledger.specs.{Past.{event_at, session_in}, Right.IsRight, declared.event.Event.Event}
use Rattle.row_ledger.specs.declared.event.Event.TheVariants as event
use Rattle.row_ledger.specs.declared.settings.How.TheVariants as how
use Rattle.script_run.proofs.PlaceFacts.{begins_of-other}
use Rattle.script_run.specs.Places.{begins_in, begins_of}
use Rattle.seat_steps.proofs.{Around.around, HeldLedger.{HasSeenAll, changed, does-held, history_in, newest, seen-now, seen-was}, Since.nothing-new, WithLedger.right-after}
use Rattle.seat_steps.specs.{Booked.{HasPushed, IsUnchanged}, Floors.{IsAround, IsSeated, Stands}, Made.HasMade, declared.floor.{Floor.Floor, Player.Player}}
use Rattle.turn_table.proofs.Numbered.{find_same}
use Rattle.turn_table.specs.{Numbered.Extends, Views.seen_of}
use Rattle.seat_steps.specs.volap_cell.specs.{AdminKinds.{Finishes, PushesBoth}, Commands.after_action, ImageKinds.{doing}, Planning.next_job, Setting.{Setting, ledger_cell, registry_cell, site_in, stock_cell}, Values.{ActorValue, JobValue, actor_of}, World.{Change, World}, declared.command.{Command.Command, Work.Work}}
use Rattle.seat_steps.specs.volap_cell.specs.declared.command.Work.TheVariants as work_is
use Rattle.seat_steps.specs.volap_turns.specs.{Rows.{AreAt, IsThere}, Rule.history_of}

module _ (f : Floor) (p : Player) {mid now : Player} (same : IsUnchanged p mid) (has : HasJobOpen p) (seated : IsSeated f mid) (stands : Stands f now) (step : JobStep) (at : AreAt (job_places step) mid.seat.view.held)
    (made : HasMade f.hierarchy (job_kind step) (λ s w n. ⊤) (λ a was now. ⊤) (job_places step) mid now) where
  abbrev a : ActorValue
  a = actor_of mid.actor

  abbrev b : ActorValue
  b = actor_of now.actor

  abbrev it : (s : Setting) × (w : World) × IsAround f mid s w
  it = around f mid seated

  -- who holds the ledger has seen its history whole
  abbrev whole : HasSeenAll mid
  whole d held = ap history_in (sym ((it.2).held ledger_cell d held)) ∙ (it.2).seen d held

  abbrev led : Change
  led = changed mid.seat.view.held made.new ledger_cell

  -- With the ledger held all that the actor has begun is seen, and noted.

  module _ (there : IsThere mid.seat.view.held ledger_cell) (before : List ℕ) (named : before ++ ledger_cell ∷ [] ≡ numbers (job_places step)) where
    noted : (q : ℕ) → option_and_then session_in (event_at mid.seat.view.seen q) ≡ Some p.number → q < (actor_of p.actor).seen
    noted q e =
        let low = (it.2).inv.holds.telling.last mid.number q (ap (λ (l : List Event). option_and_then session_in (event_at l q)) ((it.2).seen there.0 there.1) ∙ e ∙ ap (λ (n : ℕ). Some n) (sym same.number)) in
        subst (λ (x : ActorValue). q < x.seen) ((it.2).actor ∙ same.actor) low

    only : begins_of mid.seat.view.seen p.number ≡ begins_of p.seat.view.seen p.number
    only = nothing-new p.number (actor_of p.actor).seen mid.seat.view.seen p.seat.view.seen same.seen noted has.noted

    right-now : IsRight (site_in b.setting) now.seat.view.seen
    right-now =
        let there_now = find_same mid.seat.view.held made.new ledger_cell there.0 (sym made.numbers) there.1 in
        let seen : now.seat.view.seen ≡ history_of there_now.0 = made.seen ∙ ap (λ o. seen_of history_of o mid.seat.view.seen) there_now.1 in
        subst (λ (l : List Event). IsRight (site_in b.setting) l) (sym seen) (right-after f mid it.0 it.1 it.2 (job_places step) at before named made.new b made.numbers made.went tt there_now.0 there_now.1)

    pushes : (e : Event) (older : List Event) → now.seat.view.seen ≡ e ∷ older → Extends older p.seat.view.seen → begins_of older p.number ≡ begins_of p.seat.view.seen p.number → HasPushed f (always e) p now
    pushes e older is behind none = record { stands = stands; number = made.number ∙ same.number; older = older; behind = behind; now_is = is; only = none; right = right-now }

    module _ (gate of : ℕ) (j : JobValue) (e : Event) (is_job : a.job ≡ Some j) (outcome : IsOutcome true j.to of j.shard e) (other : begins_in p.number e ≡ false) where
      -- the command ends with the action
      ends : (work : Work) → a.command ≡ doing of work → PushesBoth e (event.Ended of how.Fine) led b.seen → b ≡ record a { purse = []; seen = b.seen; command = None; job = None; gone_gates = a.gone_gates ++ gate ∷ [] }
          → CameTo f (over_by b.command how.Fine) p now
      unfolding pushes
      ends work command both e_is =
          let past = mid.seat.view.seen in
          let told : history_in led.now ≡ event.Ended of how.Fine ∷ e ∷ history_in led.before =
          ap history_in both.is ∙ both.history ∙ ap (λ (l : List Event). event.Ended of how.Fine ∷ e ∷ l) (sym (ap history_in both.was)) in
          let is : now.seat.view.seen ≡ event.Ended of how.Fine ∷ e ∷ past = seen-now made whole there ∙ told ∙ ap (λ (l : List Event). event.Ended of how.Fine ∷ e ∷ l) (seen-was made whole there) in
          let all : b.seen ≡ length now.seat.view.seen = both.all_seen ∙ ap (λ (l : List Event). length l) (sym (ap history_in both.is)) ∙ ap (λ (l : List Event). length l) (sym (seen-now made whole there)) in
          let last : HasEndedAction f how.Fine p now = record {
            of = of;
            work = work;
            command = ap (λ (x : ActorValue). x.command) (sym same.actor) ∙ command;
            job = j;
            job_is = ap (λ (x : ActorValue). x.job) (sym same.actor) ∙ is_job;
            pushed = pushes (event.Ended of how.Fine) (e ∷ past) is (e ∷ same.seen.0, ap (λ (l : List Event). e ∷ l) same.seen.1) (begins_of-other e past p.number other ∙ only);
            ended = (e, outcome, (past, refl, same.seen));
            actor = subst (λ (x : ActorValue). IsActorNow x b (length now.seat.view.seen) None None) same.actor (actor-now a b (length now.seat.view.seen) None None (a.gone_gates ++ gate ∷ []) all e_is);
          } in
          subst (λ (o : Option Command). CameTo f (over_by o how.Fine) p now) (sym (ap (λ (x : ActorValue). x.command) e_is)) last

      -- or the balance is past it
      finished : (work : Work) → a.command ≡ doing of work → Finishes gate of work j e led a b → CameTo f (over_by b.command how.Fine) p now
      finished (work_is.Insert row routed) command d = ends (work_is.Insert row routed) command d.0 d.1
      finished work_is.Query command d = ends work_is.Query command d.0 d.1
      finished (work_is.Sync server pulled) command d = ends (work_is.Sync server pulled) command d.0 d.1
      finished (work_is.Settle pulls) command d = ends (work_is.Settle pulls) command d.0 d.1
      finished work_is.Bare command d = ends work_is.Bare command d.0 d.1
      finished (work_is.Page subject stands_then shown) command d = ends (work_is.Page subject stands_then shown) command d.0 d.1
      finished (work_is.Action action) command d = ends (work_is.Action action) command d.0 d.1
      finished (work_is.Balance balance) command d =
          let is = newest made whole there d.0 in
          let next = after_action true j balance in
          let passed : HasPassed f p now = record {
            of = of;
            balance = balance;
            command = ap (λ (x : ActorValue). x.command) (sym same.actor) ∙ command;
            job = j;
            job_is = ap (λ (x : ActorValue). x.job) (sym same.actor) ∙ is_job;
            done = true;
            newest = e;
            outcome = outcome;
            pushed = pushes e mid.seat.view.seen is.0 same.seen only;
            actor = subst (λ (x : ActorValue). IsActorNow x b (length now.seat.view.seen) (doing of (work_is.Balance next)) (next_job next)) same.actor
                (actor-now a b (length now.seat.view.seen) (doing of (work_is.Balance next)) (next_job next) (a.gone_gates ++ gate ∷ []) is.1 d.1);
          } in
          subst (λ (o : Option Command). CameTo f (over_by o how.Fine) p now) (sym (ap (λ (x : ActorValue). x.command) d.1)) passed

-- Of each step that ends an action.
pub did-end : (f : Floor) (p : Player) {mid now : Player} → IsUnchanged p mid → HasJobOpen p → IsSeated f mid → Stands f now → (step : JobStep) → IsEnd step (actor_of mid.actor) → AreAt (job_places step) mid.seat.view.held
    → HasMade f.hierarchy (job_kind step) (λ s w n. ⊤) (λ a was now. ⊤) (job_places step) mid now → CameTo f (over_by (actor_of now.actor).command how.Fine) p now
did-end f p same has seated stands (job.FinishSplit map gate left right) ends_so at made =
    let d = does-held made at in
    let e = event.Split d.of d.job.shard d.stock.ids (d.stock.ids + 1) in
    finished f p same has seated stands (job.FinishSplit map gate left right) at made at.there.1.1.1.1.1.1.0 (map ∷ gate ∷ left ∷ right ∷ registry_cell ∷ stock_cell ∷ []) refl gate d.of d.job e d.has.is_job
    (subst (λ (o : Option ℕ). IsOutcome true o d.of d.job.shard e) (sym (ends_so d.job d.has.is_job)) (d.stock.ids, d.stock.ids + 1, refl)) refl d.work d.command d.finishes
did-end f p same has seated stands (job.FinishMove from to gate new) ends_so at made =
    let d = does-held made at in
    let e = event.Moved d.of d.job.shard d.to in
    finished f p same has seated stands (job.FinishMove from to gate new) at made at.there.1.1.1.1.1.1.0 (from ∷ to ∷ gate ∷ new ∷ registry_cell ∷ stock_cell ∷ []) refl gate d.of d.job e d.has.is_job
    (subst (λ (o : Option ℕ). IsOutcome true o d.of d.job.shard e) (sym d.to_is) refl) refl d.work d.command d.finishes
did-end f p same has seated stands (job.FinishHere map gate new) ends_so at made =
    let d = does-held made at in
    let e = event.Moved d.of d.job.shard d.to in
    finished f p same has seated stands (job.FinishHere map gate new) at made at.there.1.1.1.1.1.0 (map ∷ gate ∷ new ∷ registry_cell ∷ stock_cell ∷ []) refl gate d.of d.job e d.has.is_job
    (subst (λ (o : Option ℕ). IsOutcome true o d.of d.job.shard e) (sym d.to_is) refl) refl d.work d.command d.finishes
did-end f p same has seated stands (job.ReadLoad map gate workers) ends_so at made = absurd ends_so
did-end f p same has seated stands (job.Freeze map gate) ends_so at made = absurd ends_so
did-end f p same has seated stands (job.Drained gate) ends_so at made = absurd ends_so
did-end f p same has seated stands (job.CollectBlock block) ends_so at made = absurd ends_so
did-end f p same has seated stands (job.CollectRow gate) ends_so at made = absurd ends_so
did-end f p same has seated stands (job.BuildTrees gate) ends_so at made = absurd ends_so
did-end f p same has seated stands (job.BuildBlock cell) ends_so at made = absurd ends_so
did-end f p same has seated stands job.Postpone ends_so at made = absurd ends_so
