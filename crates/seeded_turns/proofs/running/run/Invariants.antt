use Rattle.std.proofs.Common.{◌≤◌, ◌<◌, ℕ, ◌+◌, ◌-◌}
use Rattle.seeded_turns.specs.Drawn.{able, Reaches}
use Rattle.seeded_turns.proofs.running.run.Given as goal

-- the steps that were made and those that are left are together no more than the bound
abbrev pub invariant-loop-actor : goal.invariant-loop-actor
invariant-loop-actor g l = record {
  some : 0 < l.share.parts;
  holds : g.M.Machine.Holds l.machine;
  reached : Reaches g.row.M.Denot (λ s. able (g.M.Machine.can s) (g.M.Machine.actors s)) g.M.Machine.makes
      (record { state = l.initial.machine; schedule = l.initial.schedule }) l.machine l.schedule;
  left : (n : ℕ) × g.M.Machine.Left l.machine n × (n + l.book.total ≤ g.bound);
}

abbrev pub decreases-loop-actor : goal.decreases-loop-actor
decreases-loop-actor g l = g.bound - l.book.total
