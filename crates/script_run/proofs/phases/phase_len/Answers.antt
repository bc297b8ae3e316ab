use Rattle.std.proofs.Common.{◌∙◌, ◌+◌, ◌-◌, length, add-one, ap, sym, arith}
use Rattle.script_run.specs.Phases.{closes}
use Rattle.script_run.proofs.PhaseFacts.{phases-at, phases-all, NoneCloses-more, NoneCloses-fewer}
use Rattle.script_run.proofs.phases.phase_len.Goals as goal

pub returns-then-closes-clause-phase : goal.returns-then-closes-clause-phase
returns-then-closes-clause-phase c =
    let closed = ap closes (sym c.index-commands-i.is) ∙ sym c.closes.ensures ∙ c.if-closes.true in
    rw (add-one c.loop-i.i) (phases-at c.args.commands.now c.loop-i.i c.index-commands-i.result c.loop-i-test.true c.loop-i.invariant.open_so_far closed)

pub returns-clause-phase : goal.returns-clause-phase
returns-clause-phase c = phases-all c.args.commands.now c.loop-i.i c.requires (omega (arith, c.loop-i-test.false, c.loop-i.auto.i-end)) c.loop-i.invariant.open_so_far

pub loop-i-preserved : goal.loop-i-preserved
loop-i-preserved c =
    let other = ap closes (sym c.index-commands-i.is) ∙ sym c.closes.ensures ∙ c.if-closes.false in
    record { open_so_far = rw (add-one c.loop-i.i) (NoneCloses-more c.args.commands.now c.loop-i.i c.index-commands-i.result c.loop-i-test.true c.loop-i.invariant.open_so_far other) }

pub returns-then-closes-clause-closing : goal.returns-then-closes-clause-closing
returns-then-closes-clause-closing c = NoneCloses-fewer c.args.commands.now c.loop-i.i (c.loop-i.i + 1 - 1) (omega arith) c.loop-i.invariant.open_so_far

pub returns-clause-closing : goal.returns-clause-closing
returns-clause-closing c =
    NoneCloses-fewer c.args.commands.now c.loop-i.i (length c.args.commands.now - 1) (omega (arith, c.loop-i-test.false, c.loop-i.auto.i-end)) c.loop-i.invariant.open_so_far
