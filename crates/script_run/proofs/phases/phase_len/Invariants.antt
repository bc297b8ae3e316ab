use Rattle.std.proofs.Common.{take}
use Rattle.script_run.specs.Streams.{NoneCloses}
use Rattle.script_run.proofs.phases.phase_len.Given as goal

abbrev pub invariant-loop-i : goal.invariant-loop-i
invariant-loop-i l = record { open_so_far : NoneCloses (take l.i l.commands) }
