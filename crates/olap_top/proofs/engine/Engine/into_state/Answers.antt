use Rattle.std.proofs.Common.{sym, subst}
use Rattle.olap_top.specs.Engines.{IsLeftBehind, IsLeftWithin}
use Rattle.olap_top.specs.Standing.{StandsBehind, StandsWithin, history_of}
use Rattle.olap_top.specs.declared.engine.Engine.{Engine}
use Rattle.olap_top.proofs.engine.Engine.into_state.Goals as goal

pub returns-in-OneThread-clause-behind : goal.returns-in-OneThread-clause-behind
returns-in-OneThread-clause-behind c = subst (λ (e : Engine). (wanted : _) (s : _) (ps : _) → StandsBehind wanted s ps e → IsLeftBehind wanted s ps (history_of e) c.into_state.result) (sym c.in-OneThread.is) c.into_state.ensures.behind

pub returns-in-OneThread-clause-within : goal.returns-in-OneThread-clause-within
returns-in-OneThread-clause-within c = subst (λ (e : Engine). (wanted : _) (s : _) (ps : _) (phase : _) → StandsWithin wanted s ps phase e → IsLeftWithin wanted s ps phase (history_of e) c.into_state.result) (sym c.in-OneThread.is) c.into_state.ensures.within

pub returns-in-Threads-clause-behind : goal.returns-in-Threads-clause-behind
returns-in-Threads-clause-behind c = subst (λ (e : Engine). (wanted : _) (s : _) (ps : _) → StandsBehind wanted s ps e → IsLeftBehind wanted s ps (history_of e) c.into_state-in-Threads.result) (sym c.in-Threads.is) c.into_state-in-Threads.ensures.behind

pub returns-in-Threads-clause-within : goal.returns-in-Threads-clause-within
returns-in-Threads-clause-within c = subst (λ (e : Engine). (wanted : _) (s : _) (ps : _) (phase : _) → StandsWithin wanted s ps phase e → IsLeftWithin wanted s ps phase (history_of e) c.into_state-in-Threads.result) (sym c.in-Threads.is) c.into_state-in-Threads.ensures.within
