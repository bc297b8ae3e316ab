-- What is due for an open command asks nothing but what is so, and its cells are there.
use Rattle.std.proofs.{Common.{ℕ, ◌≡◌, ◌<◌, ◌+◌, ◌==◌, ◌&&◌, ◌∙◌, Bool, true, false, List, length, Some, None, refl, sym, ap, subst, if◌then◌else◌}, lemmas.Bool.and_parts}
use Rattle.std.specs.Prelude.{IfSome}
use Rattle.core_steps.specs.core_admin.proofs.Building.BuildsHere.{PartsFit}
use Rattle.core_due.specs.{Splits.split_of, Wants.is_drained, Works.work_due, WorksReady.{AreBytes, IsJobAsked, IsJobPrepared, IsShowing, IsSplitPrepared, IsSplitting, IsWorkAsked, IsWorkPrepared}, declared.works.WorkDue.WorkDue}
use Rattle.core_due.specs.declared.works.WorkDue.TheVariants.{Books, Ends, Jobs, Leaves, Shows, Splits, Takes}
use Rattle.core_due.proofs.{BooksHeld.{book-prepared, end-prepared, leave-prepared, take-prepared}, DesksAsked.{insert-asked, query-asked, route-asked}, DueCases.of-some, EndsAsked.{ended, page-asked}, PullsAsked.{settle-asked, sync-asked}, Holding.there, JobsAsked.{action-asked, balance-asked, built-up, table-is}, JobsHeld.job-prepared, LastItems.{HasLastTwo, ends-in-two, split-is}, SparesLeft.{AreTwo, two-left, two-trees}}
use Rattle.core_steps.specs.declared.jobs.JobStep.{JobStep}
use Rattle.core_steps.specs.declared.jobs.JobStep.TheVariants as job
use Rattle.list_words.proofs.Elements.{Some-same}
use Rattle.row_ledger.specs.{declared.class.Subject.Subject, declared.event.Event.Event}
use Rattle.row_ledger.specs.declared.settings.How.TheVariants as how
use Rattle.core_steps.specs.tree_shape.specs.Laws.{CollectEndLaw, ReadableLaw}
use Rattle.core_steps.specs.volap_cell.proofs.Cells.States.{is-some}
use Rattle.core_steps.specs.volap_cell.specs.{ImageKinds.doing, Setting.{Setting, actor_count, map_cell}, Steps.{Inv, history_in}, World.World, declared.command.Command.Command, declared.command.Work.Work}
use Rattle.core_steps.specs.volap_cell.specs.declared.command.Work.TheVariants as work_is

module _ (s : Setting) (w : World) (inv : Inv s w) (n of : ℕ) (work : Work) (command : (w.actors n).command ≡ doing of work) (free : (w.actors n).errand ≡ None) (bytes : AreBytes s.servers work) (waits : is_drained w (w.actors n).job ≡ true) where
  each-asked : (alone : Bool) (k : Work) → work ≡ k → IfSome (work_due s w (history_in w) alone (w.actors n) of k) (IsWorkAsked s w n)
  each-asked alone (work_is.Insert row false) is = route-asked s w inv n of row (command ∙ ap (doing of) is)
  each-asked alone (work_is.Insert row true) is = insert-asked s w inv n of row (command ∙ ap (doing of) is) free
  each-asked alone work_is.Query is = query-asked s w inv n of (command ∙ ap (doing of) is) free
  each-asked alone (work_is.Sync server pulled) is = sync-asked s w inv n of server pulled (command ∙ ap (doing of) is) bytes.servers
  each-asked alone (work_is.Settle pulls) is = settle-asked s w inv n of pulls (command ∙ ap (doing of) is) bytes.servers
  each-asked alone work_is.Bare is = ended s w inv n of work_is.Bare how.Fine (command ∙ ap (doing of) is) tt
  each-asked alone (work_is.Page subject stands shown) is = page-asked s w inv n alone of subject stands shown (command ∙ ap (doing of) is)
  each-asked alone (work_is.Action a) is = action-asked s w inv n of work command bytes.actions a is waits
  each-asked alone (work_is.Balance b) is = balance-asked s w inv n of work command bytes.actions b is waits

  pub work-asked : (alone : Bool) (due : WorkDue) → work_due s w (history_in w) alone (w.actors n) of work ≡ Some due → IsWorkAsked s w n due
  work-asked alone due is = of-some (work_due s w (history_in w) alone (w.actors n) of work) (IsWorkAsked s w n) due (each-asked alone work refl) is

-- A page is due only where everyone else is idle.
pub shown-alone : (s : Setting) (w : World) (n of : ℕ) (work : Work) (history : List Event) (alone : Bool) (subject : Subject) → (w.actors n).command ≡ doing of work → IsShowing w n subject
    → work_due s w history alone (w.actors n) of work ≡ Some (Shows subject) → alone ≡ true
shown-alone s w n of work history alone subject command k due = by (alone && (length history == of + 1)) refl (subst (λ (x : Work). work_due s w history alone (w.actors n) of x ≡ Some (Shows subject)) same due)
  where
    same : work ≡ work_is.Page subject true false
    same = ap (λ (c : Command). c.work) (sym (Some-same (record { of = of; work = work }) (record { of = k.of; work = work_is.Page subject true false }) (sym command ∙ k.command)))

    by : (b : Bool) → (alone && (length history == of + 1)) ≡ b → (if b then Some (Shows subject) else None) ≡ Some (Shows subject) → alone ≡ true
    by true both e = (and_parts alone _ both).0
    by false both e = (let never : None ≡ Some (Shows subject) = e in absurd (cc))

-- The end of a split.

module _ (s : Setting) (w : World) (inv : Inv s w) (n of : ℕ) (work : Work) (command : (w.actors n).command ≡ doing of work) (bytes : AreBytes s.servers work) (ends : CollectEndLaw) (fits : PartsFit) (map gate : ℕ) (k : IsSplitting s w n map gate) where
  two : AreTwo s w inv n ends k.of_job (k.has).is_job k.building (k.has).stage_is
  two = two-trees s w inv n ends k.of_job (k.has).is_job k.building (k.has).stage_is k.splits

  pub spares : HasLastTwo (w.actors n).purse
  spares = ends-in-two (w.actors n).purse (two-left s w inv n ends k.of_job (k.has).is_job k.building (k.has).stage_is k.splits fits)

  abbrev pub splitting : JobStep
  splitting = job.FinishSplit map gate (spares.last).cell (spares.before).cell

  pub split-asked : IsJobAsked s w n splitting
  unfolding built-up
  split-asked =
      let here : (z : ℕ) → z ≡ (k.building).frozen.gate → IsJobAsked s w n (job.FinishSplit (map_cell s (k.of_job).worker) z (spares.last).cell (spares.before).cell) = λ z e.
      subst (λ (y : ℕ). IsJobAsked s w n (job.FinishSplit (map_cell s (k.of_job).worker) y (spares.last).cell (spares.before).cell)) (sym e) (record {
        up = built-up s w inv n of work command bytes.actions k.of_job (k.has).is_job k.building (k.has).stage_is k.in_cells;
        plane = two.plane;
        divided = two.divided;
        right_tree = two.right_tree;
        right_is = two.right_is;
        rest = spares.front;
        left_spare = spares.last;
        right_spare = spares.before;
        spares = spares.is;
        left_cell = refl;
        right_cell = refl;
        table_is = table-is s w inv n of work command bytes.actions k.of_job (k.has).is_job;
      }) in
      subst (λ (y : ℕ). IsJobAsked s w n (job.FinishSplit y gate (spares.last).cell (spares.before).cell)) (sym k.map_is) (here gate k.gate_is)

module _ (s : Setting) (w : World) (inv : Inv s w) (n of : ℕ) (work : Work) (command : (w.actors n).command ≡ doing of work) (bytes : AreBytes s.servers work) (readable : ReadableLaw) (ends : CollectEndLaw) (fits : PartsFit) where
  lt : n < actor_count s
  lt = there s w inv n (record { of = of; work = work }) command

  split-prepared : (map gate : ℕ) → IsSplitting s w n map gate → IsSplitPrepared s w n map gate
  split-prepared map gate k =
      let e = spares s w inv n of work command bytes ends fits map gate k in
      let step = splitting s w inv n of work command bytes ends fits map gate k in
      is-some (split_of map gate (w.actors n).purse) (IsJobPrepared s w n) step (split-is map gate (w.actors n).purse e) (job-prepared s w inv n readable lt step (split-asked s w inv n of work command bytes ends fits map gate k))

  -- what is due is prepared
  pub work-prepared : (due : WorkDue) → IsWorkAsked s w n due → IsWorkPrepared s w n due
  work-prepared (Takes desk) asked = take-prepared s w inv n lt desk asked
  work-prepared (Books step) asked = book-prepared s w inv n lt step asked
  work-prepared (Jobs step) asked = job-prepared s w inv n readable lt step asked
  work-prepared (Splits map gate) asked = split-prepared map gate asked
  work-prepared (Ends how) asked = end-prepared s w inv n lt how asked
  work-prepared Leaves asked = leave-prepared s w inv n lt asked
  work-prepared (Shows subject) asked = tt
