use Rattle.core_due.specs.Works.{work_due_kind}
use Rattle.seeded_run.proofs.{Goings.{has-command, page-goes, sound-now, work-goes, work-now, work-parts}, Phases.Turns.has-gone-on-with-command}
use Rattle.seeded_run.proofs.machine.Running.go_on_with_work.Goals as goal

pub go_on_with_work-requires-clause-sound : goal.go_on_with_work-requires-clause-sound
go_on_with_work-requires-clause-sound c = sound-now c.args.self.now c.requires.held.kept

pub go_on_with_work-requires-clause-may : goal.go_on_with_work-requires-clause-may
go_on_with_work-requires-clause-may c = (work-goes c.args.self.now c.requires.held.kept c.args.number c.args.due c.requires.due).0

pub go_on_with_work-requires-clause-instead : goal.go_on_with_work-requires-clause-instead
go_on_with_work-requires-clause-instead c = (work-goes c.args.self.now c.requires.held.kept c.args.number c.args.due c.requires.due).1

pub go_on_with_work-requires-clause-shows : goal.go_on_with_work-requires-clause-shows
go_on_with_work-requires-clause-shows c = page-goes c.args.self.now c.requires.held.kept c.args.number c.args.due c.requires.due

pub returns : goal.returns
returns c =
    let m = c.args.self.now in
    let kept = c.requires.held.kept in
    let n = c.args.number in
    let due = c.args.due in
    record {
      turned = has-gone-on-with-command m kept n (work_due_kind due) (work-now m kept n due c.requires.due).now_due c.go_on_with_work.new.state c.requires.within
          (has-command m kept n due c.requires.due) (work-parts m kept n due c.requires.due) c.go_on_with_work.ensures.made;
    }
