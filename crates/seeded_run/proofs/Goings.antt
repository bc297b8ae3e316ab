-- What is due for an actor whose turn it is can be made in the state that it is in.
use Rattle.std.proofs.{Common.{◌≡◌, ◌≢◌, ◌∙◌, ◌<◌, inl, inr, ℕ, true, List, Option, Some, None, length, refl, sym, ap, subst}, lemmas.Bool.cases_lt}
use Rattle.std.specs.{Option.option_map_or, Prelude.⊤}
use Rattle.core_due.specs.{Parts.due_kind, Ready.IsStateOf, ReuseLaws.MayMakeReuse, Wants.{is_block_free, is_drained, wanted}, WorkLaws.IsAtWork, Works.{work_due, work_due_kind}, WorksReady.{AreBytes, IsWorkReady}, declared.parts.PartDue.PartDue, declared.works.WorkDue.WorkDue}
use Rattle.core_due.specs.declared.works.WorkDue.TheVariants as work_is_due
use Rattle.core_due.proofs.{InStates.may-make, ReusesPrepared.reuse-prepared}
use Rattle.core_due.specs.core_steps.specs.{Reuses.{reuse_asks, reuse_places}, Steps.IsSound, declared.reuses.ReuseStep.ReuseStep}
use Rattle.core_due.specs.core_steps.specs.declared.books.BookStep.TheVariants as book
use Rattle.core_due.specs.core_steps.specs.declared.jobs.JobStep.TheVariants as job
use Rattle.script_form.specs.declared.script.Command.{Command}
use Rattle.core_pages.specs.volap_cell.specs.{Errands.taken_of, Ghost.Ghost, Invariant.InvWith, Setting.{Setting, actor_count}, Sights.IsIdle, Steps.history_in, Values.ErrandValue, View.view, World.World, declared.command.Command.Command as OpenCommand, declared.command.Work.Work, declared.kind.Kind.Kind, declared.kind.Kind.TheVariants.{Reuse, TakePart}}
use Rattle.core_told.specs.Told.{is_of_part}
use Rattle.seeded_run.specs.{Drives.{MayEndInstead, MayGiveWay, MayGoOn, MayShow, MayTake}, Due.is_alone, Instead.StandsFor, Machine.{IsDueNow, IsDueStep, IsPhaseKept, about_in, phase_of, world_of}, Rests.{PhaseRun, rest_of}, Steps.is_for_part, declared.machine.Running.Running}
use Rattle.seeded_run.specs.declared.turn.DueStep.TheVariants.{AtPart, AtWork, Reuses, Takes}
use Rattle.seeded_run.proofs.{Due.DueSteps.{at-part, at-reuse, at-take, at-work, kind-of}, Holding.LeftAlone.{alone-parts, both-parts}, Instead.made-as-due, PagesMayShow.may-show, PartsMayGoOn.{may-give-back, may-go-on, may-take, sound}, Phases.Turns.meets-it, States.state-of, WorksMayGoOn.may-go-on-with}

-- Everyone else.

untaken : (o : Option ErrandValue) → taken_of o ≡ None → o ≡ None
untaken None e = refl
untaken (Some x) e = cc

-- beside an actor that is alone everyone is idle
alone-idle : (s : Setting) (w : World) (g : Ghost) → InvWith s (view s w) g → (rest : ℕ → List Command) (n : ℕ) → is_alone s w rest n ≡ true → (a : ℕ) → a ≢ n → IsIdle (w.actors a)
alone-idle s w g i rest n alone a differs = elim (cases_lt a (actor_count s)) [
  | inl low ↦ (alone-parts s w rest n a alone low differs).0
  | inr past ↦
      let k = i.numbering.nobody a past in
      record { command = k.2; errand = untaken (w.actors a).errand k.3; job = k.4; purse = k.1; counted = k.0 }
]

-- Kinds.

-- a step of a command goes on with no part, but where one is taken: and then in its place nothing else is made
of-part-so : (due : WorkDue) (k : Kind) → StandsFor (work_due_kind due) k → is_for_part None (work_due_kind due) ≡ true → is_of_part k ≡ true
of-part-so (work_is_due.Takes desk) k stands is = ap is_of_part (made-as-due TakePart k refl stands)
of-part-so (work_is_due.Books (book.Route desk image)) k stands is = cc
of-part-so (work_is_due.Books (book.Ack desk image)) k stands is = cc
of-part-so (work_is_due.Books (book.Answer desk)) k stands is = cc
of-part-so (work_is_due.Books (book.Sync image)) k stands is = cc
of-part-so (work_is_due.Books (book.FailUnrouted image)) k stands is = cc
of-part-so (work_is_due.Books (book.FailRouted desk image)) k stands is = cc
of-part-so (work_is_due.Books (book.FailQuery desk)) k stands is = cc
of-part-so (work_is_due.Jobs (job.ReadLoad map gate workers)) k stands is = cc
of-part-so (work_is_due.Jobs (job.Freeze map gate)) k stands is = cc
of-part-so (work_is_due.Jobs (job.Drained gate)) k stands is = cc
of-part-so (work_is_due.Jobs (job.CollectBlock block)) k stands is = cc
of-part-so (work_is_due.Jobs (job.CollectRow gate)) k stands is = cc
of-part-so (work_is_due.Jobs (job.BuildTrees gate)) k stands is = cc
of-part-so (work_is_due.Jobs (job.BuildBlock cell)) k stands is = cc
of-part-so (work_is_due.Jobs (job.FinishSplit map gate left right)) k stands is = cc
of-part-so (work_is_due.Jobs (job.FinishMove from to gate new)) k stands is = cc
of-part-so (work_is_due.Jobs (job.FinishHere map gate new)) k stands is = cc
of-part-so (work_is_due.Jobs job.Postpone) k stands is = cc
of-part-so (work_is_due.Splits map gate) k stands is = cc
of-part-so (work_is_due.Ends how) k stands is = cc
of-part-so work_is_due.Leaves k stands is = cc
of-part-so (work_is_due.Shows subject) k stands is = cc

-- The state.

state-now : (m : Running) → IsPhaseKept m → IsStateOf m.h.now m.with m.state (about_in m) (world_of m)
state-now m kept = state-of m.h.now m.with m.state (about_in m) (world_of m) kept.core

pub sound-now : (m : Running) → IsPhaseKept m → IsSound m.h.now m.state
sound-now m kept = sound m.h.now m.with m.state (about_in m) (world_of m) (state-now m kept)

module _ (m : Running) (kept : IsPhaseKept m) (n : ℕ) where
  abbrev s : Setting
  s = about_in m

  abbrev w : World
  w = world_of m

  abbrev p : PhaseRun
  p = phase_of m

  abbrev rest : ℕ → List Command
  rest = rest_of (phase_of m) (history_in (world_of m))

  state : IsStateOf m.h.now m.with m.state (about_in m) (world_of m)
  state = state-now m kept

  -- Parts.

  -- the kind that is due
  pub part-now : (due : PartDue) → IsDueStep m n (AtPart due) → IsDueNow m n (due_kind due)
  part-now due is =
      let k = kind-of m.in_order s p w n (AtPart due) kept.core.inv is.is in
      subst (IsDueNow m n) k.3 (record { due_is = k.1; can = k.2 })

  abbrev MayBeMade : PartDue → Type 0
  MayBeMade due = MayGoOn m.h.now m.state n due × MayEndInstead m.h.now m.with m.state n due

  pub part-goes : (due : PartDue) → IsDueStep m n (AtPart due) → MayGoOn m.h.now m.state n due × MayEndInstead m.h.now m.with m.state n due
  part-goes due is =
      let k = kind-of m.in_order s p w n (AtPart due) kept.core.inv is.is in
      elim (at-part s w rest n due k.4) [
        | inl here ↦ may-go-on m.h.now m.with m.state s w state n here.0 due here.1 (meets-it m kept n (due_kind due) (part-now due is))
        | inr spares ↦ subst MayBeMade (sym spares.1) (may-give-back m.h.now m.with m.state s w n state spares.0)
      ]

  -- Commands.

  -- the kind that is due, the command, and that this is due for it
  pub record IsDueWork (due : WorkDue) : Type 0 where
    pub now_due : IsDueNow m n (work_due_kind due)
    pub of : ℕ
    pub work : Work
    pub at : IsAtWork (world_of m) n of work
    pub due_is : work_due (about_in m) (world_of m) (history_in (world_of m)) (is_alone (about_in m) (world_of m) (rest_of (phase_of m) (history_in (world_of m))) n) ((world_of m).actors n) of work ≡ Some due

  pub work-now : (due : WorkDue) → IsDueStep m n (AtWork due) → IsDueWork due
  work-now due is =
      let k = kind-of m.in_order s p w n (AtWork due) kept.core.inv is.is in
      let now : IsDueNow m n (work_due_kind due) = subst (IsDueNow m n) k.3 (record { due_is = k.1; can = k.2 }) in
      let x = at-work s w rest n due k.4 in
      record {
        now_due = now;
        of = x.0;
        work = x.1;
        at = record {
          command = x.2;
          free = x.3;
          waits = (both-parts (option_map_or (is_block_free s w n) (wanted s w (w.actors n) (work_due_kind due)) true) (is_drained w (w.actors n).job) (meets-it m kept n (work_due_kind due) now)).1;
        };
        due_is = x.4;
      }

  -- its numbers are bytes
  work-bytes : (due : WorkDue) (is : IsDueStep m n (AtWork due)) → AreBytes (about_in m).servers (work-now due is).work
  work-bytes due is = (let d = work-now due is in is.bytes (record { of = d.of; work = d.work }) d.at.command)

  pub work-goes : (due : WorkDue) → IsDueStep m n (AtWork due) → IsWorkReady m.h.now m.state n due × MayGiveWay m.h.now m.state n due
  work-goes due is =
      let d = work-now due is in
      may-go-on-with m.h.now m.with m.state s w n d.of d.work (is_alone s w rest n) due state d.at (work-bytes due is) d.due_is

  pub page-goes : (due : WorkDue) → IsDueStep m n (AtWork due) → MayShow m.h.now m.with m.state n due
  page-goes due is =
      let d = work-now due is in
      may-show m.h.now m.with m.state s w n d.of d.work (is_alone s w rest n) due state d.at (work-bytes due is)
      (λ alone a differs. alone-idle s w kept.core.inv.ghost_of kept.core.inv.holds rest n alone a differs) d.due_is

  -- the actor has a command, and is at no part
  pub has-command : (due : WorkDue) → IsDueStep m n (AtWork due) → ((world_of m).actors n).command ≢ None
  has-command due is none = (let d = work-now due is in some-none (sym d.at.command ∙ none))
    where
      some-none : {c : OpenCommand} → ◌≡◌ {A = Option OpenCommand} (Some c) None → ⊥
      some-none e = cc

  pub work-parts : (due : WorkDue) → IsDueStep m n (AtWork due) → (k : Kind) → StandsFor (work_due_kind due) k → is_for_part ((world_of m).actors n).errand (work_due_kind due) ≡ true → is_of_part k ≡ true
  work-parts due is k stands part = of-part-so due k stands (ap (λ (o : Option ErrandValue). is_for_part o (work_due_kind due)) (sym (work-now due is).at.free) ∙ part)

  -- Hands.

  pub hand-now : (worker : ℕ) → IsDueStep m n (Takes worker) → IsDueNow m n TakePart
  hand-now worker is =
      let k = kind-of m.in_order s p w n (Takes worker) kept.core.inv is.is in
      subst (IsDueNow m n) (k.3).1 (record { due_is = k.1; can = k.2 })

  pub hand-goes : n < length m.state.actors.items → (worker : ℕ) → IsDueStep m n (Takes worker) → MayTake m.h.now m.with m.state n worker
  hand-goes within worker is =
      let k = kind-of m.in_order s p w n (Takes worker) kept.core.inv is.is in
      let x = at-take s w rest n worker k.4 in
      may-take m.h.now m.with m.state s w n state (subst (λ c. n < c) kept.core.count within) worker x.0 x.1 x.4

  -- Cells that are used again.

  pub reuse-now : (step : ReuseStep) → IsDueStep m n (Reuses step) → IsDueNow m n Reuse
  reuse-now step is =
      let k = kind-of m.in_order s p w n (Reuses step) kept.core.inv is.is in
      subst (IsDueNow m n) (k.3).1 (record { due_is = k.1; can = k.2 })

  -- the state has the step's cells
  pub reuse-goes : (step : ReuseStep) → IsDueStep m n (Reuses step) → MayMakeReuse m.h.now m.state n step
  reuse-goes step is =
      let k = kind-of m.in_order s p w n (Reuses step) kept.core.inv is.is in
      let x = at-reuse s w rest n step k.4 in
      may-make m.h.now m.with m.state s w state n (reuse_places step) (reuse_asks step) ⊤ (reuse-prepared s w kept.core.inv n step (record { no_command = x.1; due = x.3 })) tt
