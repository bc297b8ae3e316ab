use Rattle.core_due.proofs.{InStates.still-state, WorkKinds.work-kind, WorksAsked.{shown-alone, work-asked, work-prepared}, WorksInstead.instead-prepared, WorksReady.{instead-ready, work-ready}, WorksSeen.work-seen}
use Rattle.core_due.proofs.work_laws.works_can_be_made.Goals as goal

pub returns-clause-kind : goal.returns-clause-kind
returns-clause-kind c = λ s w n of work history alone inv command. work-kind s w inv n of c.collect_laws.ensures.ends history alone work command

pub returns-clause-asked : goal.returns-clause-asked
returns-clause-asked c = λ s w n of work alone due inv at bytes is. work-asked s w inv n of work at.command at.free bytes at.waits alone due is

pub returns-clause-shown : goal.returns-clause-shown
returns-clause-shown c = shown-alone

pub returns-clause-prepared : goal.returns-clause-prepared
returns-clause-prepared c = λ s w n of work due inv command bytes asked. (
  work-prepared s w inv n of work command bytes c.collect_laws.ensures.block c.collect_laws.ensures.ends c.parts_fit.ensures due asked,
  instead-prepared s w inv n of work command bytes c.collect_laws.ensures.block due asked,
)

pub returns-clause-seen : goal.returns-clause-seen
returns-clause-seen c = λ h with state s w alone a of work is. work-seen h with state s w is alone a of work

pub returns-clause-ready : goal.returns-clause-ready
returns-clause-ready c = λ h with state s w n work due is. (work-ready h with state s w is n due, instead-ready h with state s w is n work due)

pub returns-clause-same : goal.returns-clause-same
returns-clause-same c = still-state
