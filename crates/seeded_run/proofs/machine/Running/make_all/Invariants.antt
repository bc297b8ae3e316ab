use Rattle.std.specs.Prelude.{take}
use Rattle.seeded_run.specs.{ByHand.{AreMoves, IsLater}, Machine.{HoldsNow, about_in, phase_of, world_of}}
use Rattle.seeded_run.proofs.machine.Running.make_all.Given as goal

abbrev pub invariant-loop-place : goal.invariant-loop-place
invariant-loop-place l = record {
  holds : HoldsNow l.self;
  later : IsLater l.initial.self l.self;
  made : AreMoves l.initial.self.in_order (about_in l.initial.self) (phase_of l.initial.self) (world_of l.initial.self) (take l.place l.moves) (world_of l.self);
}
