use Rattle.std.proofs.Common.{List, reverse, sym, subst}
use Rattle.row_ledger.specs.{Right.IsRight, Site.site_of, declared.event.Event.Event}
use Rattle.script_form.specs.declared.script.{Command.Command, Script.Script}
use Rattle.olap_top.specs.{Engines.HasBeenRead, RunSoFar.HasGrown, Standing.{StandsBehind, StandsWithin, history_of}, Threads.IsHallBehind, declared.engine.Engine.Engine, declared.wanted.Wanted.Wanted}
use Rattle.olap_top.proofs.engine.Engine.read.Goals as goal

pub read-requires-in-Threads-clause-asked : goal.read-requires-in-Threads-clause-asked
read-requires-in-Threads-clause-asked g c =
    subst (λ (e : Engine). (events : List Event) → HasGrown (history_of e) (reverse events)
    → ((wanted : Wanted) (s : Script) (ps : List (List Command)) → StandsBehind wanted s ps e → IsRight (site_of s.with s.hierarchy) (reverse events))
    → g.T.ReadsHistory.asks c.args.reader.now events) c.in-Threads.is c.requires.asked

pub returns-in-OneThread-clause-within : goal.returns-in-OneThread-clause-within
returns-in-OneThread-clause-within g c = λ wanted s ps phase within. c.read.ensures.within wanted s ps phase (subst (StandsWithin wanted s ps phase) c.in-OneThread.is within)

pub returns-in-Threads-clause-kept : goal.returns-in-Threads-clause-kept
returns-in-Threads-clause-kept g c = λ wanted s ps behind.
    subst (λ (e : Engine). HasBeenRead s (history_of e) c.read-in-Threads.new.self.passes.seen (IsHallBehind wanted s ps c.read-in-Threads.new.self.hall c.read-in-Threads.new.self.passes)) (sym c.in-Threads.is)
    (c.read-in-Threads.ensures.kept wanted s ps (subst (StandsBehind wanted s ps) c.in-Threads.is behind))
