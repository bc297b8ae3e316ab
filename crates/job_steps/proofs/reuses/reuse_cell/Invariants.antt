use Rattle.std.specs.Prelude.{ℕ, ◌≡◌, ◌<◌, Some, slice_get}
use Rattle.job_steps.specs.Reuses.{WasInUse}
use Rattle.seat_steps.specs.Booked.{IsAsBefore}
use Rattle.seat_steps.specs.volap_cell.specs.Values.{actor_of}
use Rattle.job_steps.proofs.reuses.reuse_cell.Given as goal

abbrev pub invariant-loop-place : goal.invariant-loop-place
invariant-loop-place g l = record {
  same : IsAsBefore l.floor l.fn.player l.player;
  in_use : (k gate : ℕ) → k < l.place → slice_get (actor_of l.fn.player.actor).gone_gates k ≡ Some gate → WasInUse l.floor l.fn.player gate;
}
