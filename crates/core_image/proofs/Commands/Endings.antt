-- How each command that is no insert and no query is as it ends.
use Rattle.std.proofs.{Common.{◌≡◌, ℕ, ◌≤◌, List, [], Bool, true, false, Option, Some, None, is_some, refl, sym, ap, ◌∙◌, subst, arith, inl, inr}, lemmas.Bool.{false≢true}}
use Rattle.std.specs.{Option.option_map_or, Prelude.{if◌then◌else◌}}
use Rattle.dim_hierarchy.specs.{Dimension.Dimension, declared.row.Row.Row}
use Rattle.row_ledger.specs.{Past.{before, has_ended, has_page, work}, Right.{IsRightEnd, MayEnd, shows}, Work.{AreReadOf, IsCause, IsRightDecline, MayEndAction, is_known, shard_of}, declared.class.Class.Class, declared.class.Subject.Subject, declared.event.Event.Event, declared.settings.Decline.Decline, declared.settings.How.How}
use Rattle.row_ledger.specs.declared.class.Class.TheVariants as class_is
use Rattle.row_ledger.specs.declared.settings.Decline.TheVariants as decline
use Rattle.row_ledger.specs.declared.settings.How.TheVariants as how_is
use Rattle.shard_plan.specs.declared.action.Action.{Action}
use Rattle.shard_plan.specs.declared.action.Action.TheVariants as action
use Rattle.list_words.proofs.Truth.{on_bool}
use Rattle.volap_cell.specs.declared.command.Work.TheVariants as work_is
use Rattle.core_image.proofs.{EachStep.CallsEnd.IsEnding, Pages.Pageless.{asks_page, no-page}}
use Rattle.volap_cell.specs.{AdminKinds.spent_in, Commands.{EndsJob, EndsStage, MayNoteEnd}, Falls.shown_left, Ghost.Ghost, ImageKinds.doing, Invariant.InvWith, Setting.{Setting, site_in}, Stocking.{items_in, items_of_job, spent_of}, Telling.{IsCalledAs, IsProgress}, Values.{JobValue, StageValue, IsCalled, IsDeclined, IsFrozen, Collects, Builds}, View.View, Working.{IsDeclinedFor, IsJobOf, action_of, action_to, frozen_in}, declared.command.Balance.Balance, declared.command.Command.Command, declared.command.Work.Work}

-- a decline has a cause, and that isn't that a shard is unknown
pub never-unknown : (hs : List Dimension) (a : Action) (rows : List Row) → IsCause hs a rows decline.Unknown → ⊥
never-unknown hs (action.Split x) rows cause = cause
never-unknown hs (action.Move x to) rows cause = cause

shard-of : (shard : ℕ) (to : Option ℕ) → shard_of (action_to shard to) ≡ shard
shard-of shard None = refl
shard-of shard (Some worker) = refl

-- a stage at which a job ends by itself has spent nothing, noted nothing and frozen nothing

stage-spent : (stage : StageValue) (how : How) → EndsStage stage how → (spent_in stage ≡ []) × (items_in stage ≡ []) × (frozen_in stage ≡ None)
stage-spent IsCalled how ends = (refl, refl, refl)
stage-spent (IsDeclined why) how ends = (refl, refl, refl)
stage-spent (IsFrozen f) how ends = absurd ends
stage-spent (Collects c) how ends = absurd ends
stage-spent (Builds b) how ends = absurd ends

job-spent : (job : Option JobValue) (how : How) → EndsJob job how → (spent_of job ≡ []) × (items_of_job job ≡ []) × ((j : JobValue) → job ≡ Some j → frozen_in j.stage ≡ None)
job-spent None how ends = (refl, refl, λ j is. let never : ◌≡◌ {A = Option JobValue} None (Some j) = is in absurd (cc))
job-spent (Some j) how ends =
    let t = stage-spent j.stage how ends in
    (t.0, t.1, λ other is. let both : ◌≡◌ {A = Option JobValue} (Some j) (Some other) = is in let same : j ≡ other = cc in subst (λ (x : JobValue). frozen_in x.stage ≡ None) same t.2)

pub none-spent : (job : Option JobValue) → ((j : JobValue) → job ≡ Some j → ⊥) → (spent_of job ≡ []) × (items_of_job job ≡ []) × ((j : JobValue) → job ≡ Some j → frozen_in j.stage ≡ None)
none-spent None none = (refl, refl, λ j is. absurd (none j is))
none-spent (Some j) none = absurd (none j refl)

one-shown : (shown : Bool) → 1 ≤ shown_left shown
one-shown true = omega arith
one-shown false = omega arith

module _ (s : Setting) (v : View) (g : Ghost) (i : InvWith s v g) (n of : ℕ) where
  abbrev h : List Event
  h = v.history

  -- no page was asked for
  pub unasked : (class : Class) → IsCalledAs h of class → asks_page class ≡ false → has_page h of ≡ false
  unasked class called none = no-page (site_in s) g.placed h i.telling.right.right.each of called.0 called.1 (ap asks_page called.2 ∙ none)

  module _ (its_work : Work) (has : v.commands n ≡ doing of its_work) (open_ : has_ended h of ≡ false) (progress : IsProgress s h of its_work (v.jobs n) (v.roles n)) where
    -- what the command's job is of
    job-of : (j : JobValue) → v.jobs n ≡ Some j → IsJobOf its_work j
    job-of j is =
        let c = i.working.command n j is in
        let same : c.0.work ≡ its_work = ap (λ (o : Option Command). option_map_or (λ (k : Command). k.work) o its_work) (sym c.1 ∙ has) in
        subst (λ (x : Work). IsJobOf x j) same c.2

    -- the end of a split or a move
    action-ends : (a : Action) → ((j : JobValue) → v.jobs n ≡ Some j → action_of j ≡ a) → (job : Option JobValue) → v.jobs n ≡ job → (how : How) → EndsJob job how → work h of ≡ [] → is_some job ≡ is_known (site_in s) (before h of) a
        → MayEndAction (site_in s) g.placed h of a how
    action-ends a same None is (how_is.Declined why) ends none known = subst (λ (d : Decline). MayEndAction (site_in s) g.placed h of a (how_is.Declined d)) (sym ends) (sym known, none)
    action-ends a same None is how_is.Fine ends none known = absurd ends
    action-ends a same None is (how_is.Balanced done planned) ends none known = absurd ends
    action-ends a same None is how_is.Postponed ends none known = absurd ends
    action-ends a same None is how_is.NoMemory ends none known = absurd ends
    action-ends a same (Some j) is how ends none known = by-stage j.stage refl how ends
      where
        of-action : (why : Decline) → IsDeclinedFor s h g.placed of j why → IsRightDecline (site_in s) g.placed h of a why
        of-action why d =
            let its : action_of j ≡ a = same j is in
            subst (λ (x : Action). IsRightDecline (site_in s) g.placed h of x why) its
            (record { rows = d.rows; read = subst (λ (x : ℕ). AreReadOf g.placed (before h of) h x d.rows) (sym (shard-of j.shard j.to)) d.read; cause = d.cause })

        declined : (why : Decline) → IsDeclinedFor s h g.placed of j why → MayEndAction (site_in s) g.placed h of a (how_is.Declined why)
        declined decline.Unknown d = absurd (never-unknown s.hierarchy (action_of j) d.rows d.cause)
        declined decline.OnePlace d = (sym known, none, of-action decline.OnePlace d)
        declined (decline.NoCell need free) d = (sym known, none, of-action (decline.NoCell need free) d)

        by-stage : (stage : StageValue) → j.stage ≡ stage → (how : How) → EndsStage stage how → MayEndAction (site_in s) g.placed h of a how
        by-stage (IsDeclined d) st (how_is.Declined why) ends = subst (λ (x : Decline). MayEndAction (site_in s) g.placed h of a (how_is.Declined x)) (sym ends) (declined d (i.working.declined n j _ d is has st))
        by-stage (IsDeclined d) st how_is.Fine ends = absurd ends
        by-stage (IsDeclined d) st (how_is.Balanced done planned) ends = absurd ends
        by-stage (IsDeclined d) st how_is.Postponed ends = absurd ends
        by-stage (IsDeclined d) st how_is.NoMemory ends = absurd ends
        by-stage IsCalled st how_is.NoMemory ends = none
        by-stage IsCalled st (how_is.Declined why) ends = absurd ends
        by-stage IsCalled st how_is.Fine ends = absurd ends
        by-stage IsCalled st (how_is.Balanced done planned) ends = absurd ends
        by-stage IsCalled st how_is.Postponed ends = absurd ends
        by-stage (IsFrozen f) st how ends = absurd ends
        by-stage (Collects c) st how ends = absurd ends
        by-stage (Builds b) st how ends = absurd ends

  one-owed : (shown : Bool) → 1 ≤ (if shown then 1 else 2)
  one-owed true = omega arith
  one-owed false = omega arith

  -- an end of a command that was called as of this class
  pub right-end : (class : Class) (how : How) → IsCalledAs h of class → has_ended h of ≡ false → MayEnd (site_in s) g.placed h of class how → has_page h of ≡ shows class how → IsRightEnd (site_in s) g.placed h of how
  right-end class how called open_ may page = record {
    call = called.0;
    called = called.1;
    is_open = open_;
    may_end = subst (λ (c : Class). MayEnd (site_in s) g.placed h of c how) (sym called.2) may;
    page = page ∙ ap (λ (c : Class). shows c how) (sym called.2);
  }

  sync-ends : (server : ℕ) (pulled : Bool) → v.commands n ≡ doing of (work_is.Sync server pulled) → has_ended h of ≡ false → IsProgress s h of (work_is.Sync server pulled) (v.jobs n) (v.roles n) → (how : How)
      → MayEnd (site_in s) g.placed h of (class_is.Sync server) how → shows (class_is.Sync server) how ≡ false → IsEnding s h g.placed of (work_is.Sync server pulled) (v.jobs n) how
  sync-ends server pulled has open_ progress how may none =
      let nothing = none-spent (v.jobs n) (λ j is. job-of (work_is.Sync server pulled) has open_ progress j is) in
      record {
        right = right-end (class_is.Sync server) how progress.0 open_ may (unasked (class_is.Sync server) progress.0 refl ∙ sym none);
        off_desk = refl;
        no_insert = refl;
        some = omega arith;
        unspent = nothing.0;
        unnoted = nothing.1;
        unfrozen = nothing.2;
        less = inr (one-owed pulled);
      }

  settle-ends : (pulls : ℕ) → v.commands n ≡ doing of (work_is.Settle pulls) → has_ended h of ≡ false → IsProgress s h of (work_is.Settle pulls) (v.jobs n) (v.roles n) → (how : How)
      → MayEnd (site_in s) g.placed h of class_is.Settle how → shows class_is.Settle how ≡ false → IsEnding s h g.placed of (work_is.Settle pulls) (v.jobs n) how
  settle-ends pulls has open_ progress how may none =
      let nothing = none-spent (v.jobs n) (λ j is. job-of (work_is.Settle pulls) has open_ progress j is) in
      record {
        right = right-end class_is.Settle how progress.0 open_ may (unasked class_is.Settle progress.0 refl ∙ sym none);
        off_desk = refl;
        no_insert = refl;
        some = omega arith;
        unspent = nothing.0;
        unnoted = nothing.1;
        unfrozen = nothing.2;
        less = inl (omega arith);
      }

  page-ends : (subject : Subject) (there shown : Bool) → v.commands n ≡ doing of (work_is.Page subject there shown) → has_ended h of ≡ false → IsProgress s h of (work_is.Page subject there shown) (v.jobs n) (v.roles n) → (how : How)
      → MayEnd (site_in s) g.placed h of (class_is.Page subject) how → has_page h of ≡ shows (class_is.Page subject) how → IsEnding s h g.placed of (work_is.Page subject there shown) (v.jobs n) how
  page-ends subject there shown has open_ progress how may page =
      let nothing = none-spent (v.jobs n) (λ j is. job-of (work_is.Page subject there shown) has open_ progress j is) in
      record {
        right = right-end (class_is.Page subject) how progress.0 open_ may page;
        off_desk = refl;
        no_insert = refl;
        some = one-owed shown;
        unspent = nothing.0;
        unnoted = nothing.1;
        unfrozen = nothing.2;
        less = inl (one-shown shown);
      }

  -- Each command. That of a balance stands by itself.
  pub ends-as : (its_work : Work) → v.commands n ≡ doing of its_work → has_ended h of ≡ false → IsProgress s h of its_work (v.jobs n) (v.roles n) → (how : How) → MayNoteEnd s.servers its_work (v.jobs n) how
      → ((b : Balance) → its_work ≡ work_is.Balance b → IsEnding s h g.placed of its_work (v.jobs n) how) → IsEnding s h g.placed of its_work (v.jobs n) how
  ends-as work_is.Bare has open_ progress how_is.Fine ends balance =
      let nothing = none-spent (v.jobs n) (λ j is. job-of work_is.Bare has open_ progress j is) in
      record {
        right = right-end class_is.Bare how_is.Fine progress open_ tt (unasked class_is.Bare progress refl);
        off_desk = refl;
        no_insert = refl;
        some = omega arith;
        unspent = nothing.0;
        unnoted = nothing.1;
        unfrozen = nothing.2;
        less = inl (omega arith);
      }
  ends-as (work_is.Sync server pulled) has open_ progress how_is.Fine ends balance = sync-ends server pulled has open_ progress how_is.Fine (progress.2 ends) refl
  ends-as (work_is.Sync server pulled) has open_ progress how_is.NoMemory ends balance = sync-ends server pulled has open_ progress how_is.NoMemory tt refl
  ends-as (work_is.Settle pulls) has open_ progress how_is.Fine ends balance = settle-ends pulls has open_ progress how_is.Fine tt refl
  ends-as (work_is.Settle pulls) has open_ progress how_is.NoMemory ends balance = settle-ends pulls has open_ progress how_is.NoMemory tt refl
  ends-as (work_is.Page subject there shown) has open_ progress how_is.Fine ends balance =
      page-ends subject there shown has open_ progress how_is.Fine (progress.2 ∙ progress.3 ends) (progress.1 ∙ ends)
  ends-as (work_is.Page subject there shown) has open_ progress how_is.NoMemory ends balance = page-ends subject there shown has open_ progress how_is.NoMemory tt (progress.1 ∙ ends)
  ends-as (work_is.Page subject there shown) has open_ progress (how_is.Declined why) ends balance =
      let unshown : shown ≡ false = on_bool shown (λ q. absurd (false≢true (sym ends.0 ∙ progress.3 q))) (λ q. q) in
      subst (λ (d : Decline). IsEnding s h g.placed of (work_is.Page subject there shown) (v.jobs n) (how_is.Declined d)) (sym ends.1)
      (page-ends subject there shown has open_ progress (how_is.Declined decline.Unknown) (progress.2 ∙ ends.0) (progress.1 ∙ unshown))
  ends-as (work_is.Action a) has open_ progress how ends balance =
      let nothing = job-spent (v.jobs n) how ends in
      record {
        right = right-end (class_is.Action a) how progress.0 open_
            (action-ends (work_is.Action a) has open_ progress a (λ j is. job-of (work_is.Action a) has open_ progress j is) (v.jobs n) refl how ends progress.1 progress.2)
            (unasked (class_is.Action a) progress.0 refl);
        off_desk = refl;
        no_insert = refl;
        some = omega arith;
        unspent = nothing.0;
        unnoted = nothing.1;
        unfrozen = nothing.2;
        less = inl (omega arith);
      }
  ends-as (work_is.Balance b) has open_ progress how ends balance = balance b refl
  ends-as _ has open_ progress how ends balance = absurd ends
