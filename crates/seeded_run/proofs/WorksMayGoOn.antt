-- What is due for an open command may be made in a state that one thread holds; and where it finds no memory, so may what is made in its
-- place.
use Rattle.std.proofs.Common.{ℕ, ◌≡◌, ◌<◌, ◌∙◌, Bool, List, length, Some, None, get_or, sym, ap, subst}
use Rattle.core_due.specs.{Ready.IsStateOf, WorkLaws.IsAtWork, Works.work_due, WorksReady.{AreBytes, IsInsteadPrepared, IsWorkReady}, declared.works.WorkDue.WorkDue}
use Rattle.core_due.proofs.{Holding.there, InStates.still-state, WorksAsked.{work-asked, work-prepared}, WorksInstead.instead-prepared, WorksReady.{instead-ready, work-ready}}
use Rattle.core_due.specs.core_steps.specs.Steps.{IsSound}
use Rattle.dim_hierarchy.specs.Dimension.{Dimension}
use Rattle.row_ledger.specs.declared.settings.Use.{Use}
use Rattle.shard_plan.proofs.Levels.{parts-fit}
use Rattle.core_pages.specs.tree_shape.proofs.Reading.Collects.{collect-ends, readable}
use Rattle.core_pages.specs.tree_shape.specs.Laws.{CollectEndLaw, ReadableLaw}
use Rattle.seeded_run.specs.Drives.{GivesWay, HasActor, MayGiveWay}
use Rattle.core_pages.specs.volap_cell.proofs.Cells.States.{is-some, stands}
use Rattle.core_pages.specs.volap_cell.specs.{ImageKinds.doing, Setting.Setting, Steps.history_in, Values.{ActorValue, actor_of}, World.World, declared.command.Work.Work, declared.state.State.State}

readable-law : ReadableLaw
readable-law table cells g items item read collected tree c = readable table cells g items item read collected tree c

ends-law : CollectEndLaw
ends-law table cells g read collected tree c = collect-ends table cells g read collected tree c

-- the command gives way to another step, or ends
gives-way : (h : List Dimension) (with : Use) (now : State) (s : Setting) (w : World) (n of : ℕ) (work : Work) (due : WorkDue) → IsStateOf h with now s w → (w.actors n).command ≡ doing of work → IsInsteadPrepared s w n work due
    → IsSound h now × HasActor now n (GivesWay h now n due)
gives-way h with now s w n of work due is command prepared =
    let here : n < length now.actors.items = subst (λ (k : ℕ). n < k) (sym is.count) (there s w is.inv n (record { of = of; work = work }) command) in
    let a = stands (get_or now.actors.items n None) (λ x. actor_of x ≡ w.actors n) (is.is.actor n here) in (
      record { setting = s; hierarchy = is.hierarchy; world = w; is = is.is; inv = is.inv },
      is-some (get_or now.actors.items n None) (λ x. GivesWay h now n due (actor_of x)) a.0 a.1
          (of, work, ap (λ (x : ActorValue). x.command) a.2 ∙ command, instead-ready h with now s w is n work due prepared),
    )

pub may-go-on-with : (h : List Dimension) (with : Use) (state : State) (s : Setting) (w : World) (n of : ℕ) (work : Work) (alone : Bool) (due : WorkDue) → IsStateOf h with state s w → IsAtWork w n of work → AreBytes s.servers work
    → work_due s w (history_in w) alone (w.actors n) of work ≡ Some due → IsWorkReady h state n due × MayGiveWay h state n due
may-go-on-with h with state s w n of work alone due is at bytes due_is =
    let asked = work-asked s w is.inv n of work at.command at.free bytes at.waits alone due due_is in (
      work-ready h with state s w is n due (work-prepared s w is.inv n of work at.command bytes readable-law ends-law parts-fit due asked),
      λ now same. gives-way h with now s w n of work due (still-state h with state now s w is same) at.command (instead-prepared s w is.inv n of work at.command bytes readable-law due asked),
    )
