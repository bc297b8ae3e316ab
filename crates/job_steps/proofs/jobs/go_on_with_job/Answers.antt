use Rattle.std.proofs.Common.{◌∙◌, Option, IsSome, refl, sym, ap, subst}
use Rattle.seat_steps.specs.core_due.specs.WorksReady.{AreBytes}
use Rattle.list_words.proofs.Elements.{Some-same}
use Rattle.seat_steps.specs.volap_cell.specs.declared.command.{Command.Command, Work.Work}
use Rattle.job_steps.proofs.jobs.go_on_with_job.Goals as goal

pub there-requires : goal.there-requires
there-requires g c = subst (λ (o : Option Command). IsSome o) (sym c.requires.opened.command) refl

pub go_on-requires-clause-at : goal.go_on-requires-clause-at
go_on-requires-clause-at g c =
    let same = Some-same _ _ (sym c.requires.opened.command ∙ c.there.ensures) in
    record { opened = c.requires.opened; bytes = subst (λ (k : Work). AreBytes c.args.floor.now.with.servers k) (ap (λ (x : Command). x.work) same) c.tell_bytes.ensures }
