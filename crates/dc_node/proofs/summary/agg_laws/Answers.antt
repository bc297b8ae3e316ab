use Rattle.dc_node.proofs.Summaries.{JoinLaws, joined-append}
use Rattle.dc_node.proofs.summary.agg_laws.Goals as goal

pub returns : goal.returns
returns c =
    let laws : JoinLaws = record { append = c.laws.ensures.append; associative = c.laws.ensures.associative; empty_left = c.laws.ensures.empty_left; empty_right = c.laws.ensures.empty_right } in
    record { joined_append = joined-append laws }
