-- Later moments of a phase, and the moves between them.
use Rattle.std.proofs.Common.{rules, not, ◌≡◌, ◌≢◌, ◌∙◌, ◌+◌, ◌<◌, inl, inr, ℕ, suc, Bool, true, false, Option, Some, None, List, [], ◌∷◌, ◌++◌, length, get_or, take, slice_get, refl, sym, ap, subst, arith}
use Rattle.core_pages.specs.core_image.proofs.Commands.NextAction.{inside, take-more}
use Rattle.std.specs.{Option.option_eq, Prelude.{IfOk, OnErr, Result, Ok, Err}}
use Rattle.core_due.specs.{Works.work_due_kind, WorksReady.{IsInsteadReady, MayMakeJob}, declared.works.WorkDue.WorkDue}
use Rattle.core_due.specs.declared.works.WorkDue.TheVariants.{Books, Ends, Jobs, Leaves, Shows, Splits, Takes}
use Rattle.core_due.specs.core_steps.specs.Steps.{IsFurther, IsSame}
use Rattle.core_due.specs.core_steps.specs.declared.books.BookStep.TheVariants as book
use Rattle.core_due.specs.core_steps.specs.declared.jobs.JobStep.TheVariants as job
use Rattle.dim_hierarchy.specs.Dimension.{Dimension}
use Rattle.script_form.specs.declared.script.Command.{Command}
use Rattle.core_pages.specs.volap_cell.specs.{Setting.Setting, Values.actor_of, World.World, declared.command.Work.Work, declared.kind.Kind.Kind, declared.state.State.State}
use Rattle.core_pages.specs.volap_cell.specs.declared.kind.Kind.TheVariants as kind
use Rattle.core_pages.specs.volap_cell.proofs.Cells.States.{stands}
use Rattle.core_pages.specs.volap_cell.specs.contracts.kind.KindPartialEq.TheImpl as test_of
use Rattle.seeded_run.specs.{ByHand.{AreMoves, CannotMoveAt, HasMoved, HasMovedTo, IsLater, IsOfJob, Moves, MovesTo, StopsAmong, StopsAmongAt, may_find_none}, Commands.beginning, Drives.GivesWay, Due.due, Machine.{BeginsNow, HasTurned, IsDueNow, IsDueStep, IsPhaseKept, TakesTurn, about_in, can_in, next_at, phase_of, world_of}, Rests.PhaseRun, Steps.is_for_part, declared.machine.Running.Running}
use Rattle.seeded_run.specs.declared.turn.DueStep.TheVariants.{AtWork}
use Rattle.seeded_run.proofs.{Begun.turned-then, Due.DueBegins.beginning-is, Due.DueSteps.none-due, Goings.{has-command, work-goes, work-now}, Holding.LeftAlone.apart, Phases.Turns.{has-gone-on-with-command, to-begin}, Phases.WholePhases.as-before}

pub later-then : (m x now : Running) → IsLater m x → IsLater x now → IsLater m now
later-then m x now first then = record {
  same = record {
    h = then.same.h ∙ first.same.h;
    with = then.same.with ∙ first.same.with;
    phase = then.same.phase ∙ first.same.phase;
    in_order = then.same.in_order ∙ first.same.in_order;
    before = then.same.before ∙ first.same.before;
    count = then.same.count ∙ first.same.count;
  };
  about = then.about ∙ first.about;
}

-- only what is known of the commands in order is another
pub after-look : (m now : Running) → now ≡ record m { begun = now.begun; first = now.first; hands = now.hands } → IsLater m now
after-look m now is = record {
  same = record {
    h = ap (λ (x : Running). x.h) is;
    with = ap (λ (x : Running). x.with) is;
    phase = ap (λ (x : Running). x.phase) is;
    in_order = ap (λ (x : Running). x.in_order) is;
    before = ap (λ (x : Running). x.before) is;
    count = ap (λ (x : Running). length x.next.items) is;
  };
  about = ap about_in is;
}

-- behind a turn, whatever is known then of the commands in order
pub later-turned : (m mid now : Running) (n : ℕ) → HasTurned m n mid → now ≡ record mid { begun = now.begun; first = now.first; hands = now.hands } → IsLater m now
later-turned m mid now n turned is = (let t = turned-then m mid now n turned is in record { same = t.same; about = t.about })

-- The kind by which a command begins.

-- it is the one that the command tells
pub begun-kind : (m : Running) (kept : IsPhaseKept m) (n : ℕ) → n < length m.state.actors.items → (c : Command) → slice_get m.phase.now (next_at m n) ≡ Some c → BeginsNow m n → IsDueNow m n (beginning m.h.now c)
unfolding to-begin
begun-kind m kept n within c at begins =
    subst (IsDueNow m n)
    (beginning-is m.h.now m.with m.state.cells.items m.state.actors.items (about_in m) (world_of m) kept.core n c (to-begin m kept n begins.kind begins.due c at within begins.begins)) begins.due

-- Jobs that are given up.

-- a step of a job that may find no memory, and whose shard is frozen, gives way to that
instead-so : (h : List Dimension) (state : State) (n : ℕ) (work : Work) (due : WorkDue) → may_find_none (work_due_kind due) ≡ true → IsInsteadReady h state n work due → MayMakeJob h state n job.Postpone
instead-so h state n work (Takes desk) is ready = cc
instead-so h state n work (Books (book.Route desk image)) is ready = cc
instead-so h state n work (Books (book.Ack desk image)) is ready = cc
instead-so h state n work (Books (book.Answer desk)) is ready = cc
instead-so h state n work (Books (book.Sync image)) is ready = cc
instead-so h state n work (Books (book.FailUnrouted image)) is ready = cc
instead-so h state n work (Books (book.FailRouted desk image)) is ready = cc
instead-so h state n work (Books (book.FailQuery desk)) is ready = cc
instead-so h state n work (Jobs (job.ReadLoad map gate workers)) is ready = cc
instead-so h state n work (Jobs (job.Freeze map gate)) is ready = cc
instead-so h state n work (Jobs (job.Drained gate)) is ready = cc
instead-so h state n work (Jobs (job.CollectBlock block)) is ready = ready
instead-so h state n work (Jobs (job.CollectRow gate)) is ready = ready
instead-so h state n work (Jobs (job.BuildTrees gate)) is ready = ready
instead-so h state n work (Jobs (job.BuildBlock cell)) is ready = cc
instead-so h state n work (Jobs (job.FinishSplit map gate left right)) is ready = ready
instead-so h state n work (Jobs (job.FinishMove from to gate new)) is ready = ready
instead-so h state n work (Jobs (job.FinishHere map gate new)) is ready = ready
instead-so h state n work (Jobs job.Postpone) is ready = cc
instead-so h state n work (Splits map gate) is ready = ready
instead-so h state n work (Ends how) is ready = cc
instead-so h state n work Leaves is ready = cc
instead-so h state n work (Shows subject) is ready = cc

pub may-give-up : (m : Running) (kept : IsPhaseKept m) (n : ℕ) (due : WorkDue) → IsDueStep m n (AtWork due) → may_find_none (work_due_kind due) ≡ true → MayMakeJob m.h.now m.state n job.Postpone
may-give-up m kept n due is frozen =
    let same : IsSame m.state m.state = record { cells_kept = refl; actors_kept = refl; same = λ w stays. stays } in
    let x = stands (get_or m.state.actors.items n None) (λ a. GivesWay m.h.now m.state n due (actor_of a)) ((work-goes m kept n due is).1 m.state same).1 in
    instead-so m.h.now m.state n (x.2).1 due frozen (x.2).3

-- the actor has had its turn then
pub has-given-up : (m : Running) (kept : IsPhaseKept m) (n : ℕ) → n < length m.state.actors.items → (due : WorkDue) → IsDueStep m n (AtWork due) → IsOfJob (work_due_kind due)
    → (state_now : State) → IsFurther m.h.now kind.Postpone n m.state state_now → HasTurned m n (record m { state = state_now })
has-given-up m kept n within due is of_job state_now further =
    has-gone-on-with-command m kept n (work_due_kind due) (work-now m kept n due is).now_due state_now within (has-command m kept n due is)
    (λ k stands part. apart (is_for_part ((world_of m).actors n).errand (work_due_kind due)) part (of_job.1 _))
    (kind.Postpone, further, inl no-note, inr of_job.2)
  where
    no-note : kind.Postpone ≢ kind.Note
    no-note e = cc

-- One move.

no-way : {X : Type 0} → false ≡ true → X
no-way never = cc

-- kinds that are told apart by no test are one
same-kind : (a b : Kind) → test_of.eq-value.it a b ≡ true → a ≡ b
same-kind a b same = search rules

not-false : (b : Bool) → false ≡ not b → b ≡ true
not-false true e = refl
not-false false e = no-way e

pub same-told : (a b : Option Kind) → false ≡ not (option_eq test_of.eq-value.it a b) → a ≡ b
same-told None None e = refl
same-told None (Some b) e = no-way e
same-told (Some a) None e = no-way e
same-told (Some a) (Some b) e = ap Some (same-kind a b (not-false _ e))

module _ (m : Running) (n : ℕ) where
  -- nor can who is told another kind than the one that is due;
  pub cannot-another : (told : Option Kind) → due (about_in m) (phase_of m) (world_of m) n ≢ told → can_in m n ≡ true → CannotMoveAt m n told × (world_of m ≡ world_of m)
  cannot-another (Some k) other can = (λ named is able low. other is, refl)
  cannot-another None other can = (can, refl)

  -- and whose turn it is moves as it is told.
  pub moves-as-told : (now : Running) (told : Option Kind) → due (about_in m) (phase_of m) (world_of m) n ≡ told → can_in m n ≡ true → TakesTurn m n now → MovesTo m n told now
  moves-as-told now (Some k) is can turn = (inl is, turn.turn)
  moves-as-told now None is can turn = no-way (sym (none-due m.in_order (about_in m) (phase_of m) (world_of m) n is) ∙ can)

-- Moves.

-- one more behind others
one-more : (in_order : Bool) (s : Setting) (p : PhaseRun) (w x now : World) (moves : List (ℕ × Option Kind)) (move : ℕ × Option Kind)
    → AreMoves in_order s p w moves x → Moves in_order s p x move.0 move.1 now → AreMoves in_order s p w (moves ++ move ∷ []) now
one-more in_order s p w x now [] move are moved = (now, subst (λ y. Moves in_order s p y move.0 move.1 now) are moved, refl)
one-more in_order s p w x now (first ∷ moves) move are moved = (are.0, are.1, one-more in_order s p are.0 x now moves move are.2 moved)

module _ (m x now : Running) (later : IsLater m x) (moves : List (ℕ × Option Kind)) (i : ℕ) where
  abbrev AreMade : ℕ → Running → Type 0
  AreMade count to = AreMoves m.in_order (about_in m) (phase_of m) (world_of m) (take count moves) (world_of to)

  -- the next one is made
  pub makes-one-more : (move : ℕ × Option Kind) → slice_get moves i ≡ Some move → AreMade i x → MovesTo x move.0 move.1 now → AreMade (i + 1) now
  makes-one-more move at made moved =
      let as_first = as-before (λ b s p. Moves b s p (world_of x) move.0 move.1 (world_of now)) m x later.same later.about moved in
      let on : suc i ≡ i + 1 = omega arith in
      subst (λ k. AreMade k now) on (subst (λ ms. AreMoves m.in_order (about_in m) (phase_of m) (world_of m) ms (world_of now)) (sym (take-more i moves move at))
      (one-more m.in_order (about_in m) (phase_of m) (world_of m) (world_of x) (world_of now) (take i moves) move made as_first))

  -- all were made
  pub made-all : i ≡ length moves → AreMade i x → HasMovedTo m moves (length moves) x
  made-all end made = record {
    within = omega arith;
    made = subst (λ k. AreMade k x) end made;
    next = λ other there. absurd (omega (arith, inside (length moves) moves other there));
  }

-- In order it is looked up first whose command is the first one. The moves are those of the phase that begins.
module _ (m x now : Running) (is : x ≡ record m { begun = x.begun; first = x.first; hands = x.hands }) (moves : List (ℕ × Option Kind)) where
  moved-first : (count : ℕ) → HasMovedTo x moves count now → HasMovedTo m moves count now
  moved-first count moved =
      let later = after-look m x is in
      subst (λ w. HasMoved m.in_order (about_in m) (phase_of m) w moves count (world_of now)) (ap world_of is)
      (as-before (λ b s p. HasMoved b s p (world_of x) moves count (world_of now)) m x later.same later.about moved)

  stopped-first : StopsAmongAt x moves now → StopsAmongAt m moves now
  stopped-first stopped =
      let later = after-look m x is in
      subst (λ w. StopsAmong m.in_order (about_in m) (phase_of m) w moves (world_of now)) (ap world_of is)
      (as-before (λ b s p. StopsAmong b s p (world_of x) moves (world_of now)) m x later.same later.about stopped)

  pub moved-from-first : {E : Type 0} (r : Result ℕ E) → IfOk r (λ count. HasMovedTo x moves count now) → IfOk r (λ count. HasMovedTo m moves count now)
  moved-from-first (Ok count) moved = moved-first count moved
  moved-from-first (Err e) moved = tt

  pub stopped-from-first : {E : Type 0} (r : Result ℕ E) → OnErr r (StopsAmongAt x moves now) → OnErr r (StopsAmongAt m moves now)
  stopped-from-first (Ok count) stopped = tt
  stopped-from-first (Err e) stopped = stopped-first stopped
