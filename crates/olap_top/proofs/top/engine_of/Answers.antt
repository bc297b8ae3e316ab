use Rattle.std.proofs.Common.{◌∙◌, sym}
use Rattle.olap_top.proofs.top.engine_of.Goals as goal

pub returns-in_ok-new : goal.returns-in_ok-new
returns-in_ok-new c = record {
  opened = c.in_ok-new.ensures.opened c.args.wanted c.args.script.now (sym c.with-with.ensures) (sym c.requires.dims_are) (sym c.needs_threads.ensures ∙ c.if-needs_threads.true);
}
