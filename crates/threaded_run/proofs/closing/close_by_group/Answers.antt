use Rattle.std.proofs.Common.{ℕ, [], ◌∷◌, sym, subst}
use Rattle.std.specs.Prelude.{OnErr, OnOk}
use Rattle.hall_hands.specs.actor_run.specs.Wholes.{AreToldGroup}
use Rattle.script_form.specs.declared.script.Command.TheVariants.{Group}
use Rattle.session_runs.specs.Sessions.{BeginsNothing, EachDoes}
use Rattle.threaded_run.proofs.WholeCalls.{all-nothing, group-told, group-unknown}
use Rattle.hall_hands.specs.whole_steps.specs.declared.tells.Paged.{Paged}
use Rattle.threaded_run.proofs.closing.close_by_group.Goals.{in-NotBegun, in_default-told}
use Rattle.threaded_run.proofs.closing.close_by_group.Goals as goal

pub returns-in_default-clause-done : goal.returns-in_default-clause-done
returns-in_default-clause-done g c =
    group-unknown c.args.hall.now c.args.passes.now c.told_group.new.passes c.requires.phased c.told_group.ensures.on c.args.dim c.args.level c.args.filter.now c.in_default.field-0 c.in_default.ensures.unknown

pub returns-clause-done : goal.returns-clause-done
returns-clause-done g c =
    let f = c.args.hall.now in
    let was = c.args.passes.now in
    let now = c.told_group.new.passes in
    let names = c.args.filter.now in
    elim c.match-told.branch [
      | in-NotBegun w ↦ subst (λ r. OnOk r (EachDoes f.with f.hierarchy (Group c.args.dim c.args.level names ∷ []) was.seen now.seen)) (sym w.result-is) tt
      | in_default-told w ↦ subst (λ r. OnOk r (EachDoes f.with f.hierarchy (Group c.args.dim c.args.level names ∷ []) was.seen now.seen)) (sym w.result-is)
          (group-told f was now c.requires.phased c.told_group.ensures.on c.args.dim c.args.level names c.in-Ok.told w.in_default-told.not-NotBegun c.in-Ok.ensures.told)
    ]

pub returns-clause-none : goal.returns-clause-none
returns-clause-none g c =
    let f = c.args.hall.now in
    let was = c.args.passes.now in
    let now = c.told_group.new.passes in
    elim c.match-told.branch [
      | in-NotBegun w ↦ subst (λ r. OnErr r ((session : ℕ) → BeginsNothing session was.seen now.seen)) (sym w.result-is)
          (all-nothing f was now c.requires.phased c.told_group.ensures.on
          (subst (λ (r : Paged). AreToldGroup f c.args.dim c.args.level c.args.filter.now r was now) w.in-NotBegun.is c.in-Ok.ensures.told))
      | in_default-told w ↦ subst (λ r. OnErr r ((session : ℕ) → BeginsNothing session was.seen now.seen)) (sym w.result-is) tt
    ]
