use Rattle.olap_top.proofs.OneThread.{opened-alone}
use Rattle.olap_top.proofs.alone.OnOneThread.new.Goals as goal

pub returns : goal.returns
returns c = record {
  opened = λ s with_is hierarchy_is alone.
      opened-alone c.args.wanted s (record { hierarchy = c.args.hierarchy; with = c.args.with; state = c.in_ok-state.state; schedule = c.schedule_of.result }) with_is hierarchy_is alone c.schedule_of.ensures
      c.in_ok-state.ensures.core c.in_ok-state.ensures.roles c.in_ok-state.ensures.between c.in_ok-state.ensures.opening;
}
