use Rattle.std.proofs.Common.{drop, sym, subst}
use Rattle.olap_top.specs.{Alone.{IsWithinPhase, history_at}, Engines.HasGoneInto, Standing.{StandsBehind, history_of}, Threads.IsHallOf, declared.engine.Engine.Engine}
use Rattle.olap_top.proofs.engine.Engine.run_phase.Goals as goal

pub returns-in-OneThread-clause-into : goal.returns-in-OneThread-clause-into
returns-in-OneThread-clause-into g c = λ wanted s ps behind may.
    subst (λ (e : Engine). HasGoneInto s (history_of e) (history_at c.run_phase.new.self.state) (IsWithinPhase wanted s ps (drop c.args.done c.args.commands.now) c.run_phase.new.self)) (sym c.in-OneThread.is)
    (c.run_phase.ensures.into wanted s ps (subst (StandsBehind wanted s ps) c.in-OneThread.is behind) may)

pub returns-in-Threads-clause-into : goal.returns-in-Threads-clause-into
returns-in-Threads-clause-into g c = λ wanted s ps behind may.
    subst (λ (e : Engine). HasGoneInto s (history_of e) c.run_phase-in-Threads.new.self.passes.seen (IsHallOf wanted s c.run_phase-in-Threads.new.self.hall c.run_phase-in-Threads.new.self.passes)) (sym c.in-Threads.is)
    (c.run_phase-in-Threads.ensures.into wanted s ps (subst (StandsBehind wanted s ps) c.in-Threads.is behind) may)

pub returns-in-Threads-clause-stopped : goal.returns-in-Threads-clause-stopped
returns-in-Threads-clause-stopped g c = λ wanted s ps behind may.
    c.run_phase-in-Threads.ensures.stopped wanted s ps (subst (StandsBehind wanted s ps) c.in-Threads.is behind) may
