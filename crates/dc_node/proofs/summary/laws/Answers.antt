use Rattle.std.proofs.Common.{sym, ◌∙◌}
use Rattle.dc_node.specs.Summary.{coords}
use Rattle.dc_node.proofs.Summaries.{JoinLaws, joined_lists, summary_of_lists, moved_summary, pushed_summary, appended_summary, valid_coords}
use Rattle.dc_node.proofs.summary.laws.Goals as goal

pub returns : goal.returns
returns c =
    let h = c.args.h.now in
    let laws : JoinLaws = record { append = c.laws-2.ensures.append; associative = c.laws-2.ensures.associative; empty_left = c.laws-2.ensures.empty_left; empty_right = c.laws-2.ensures.empty_right } in
    record {
      leaf = λ rows total set valid s. record { valid = valid; agg = s.0; set_of = s.1 };
      directory = λ lists entries total set z s. summary_of_lists laws h lists entries total set z s.0 s.1;
      joined = joined_lists laws;
      order = moved_summary h c.laws.ensures.same c.laws-2.ensures.order;
      push = pushed_summary h c.laws.ensures.same laws;
      append = appended_summary h laws;
      unique = λ rows a b s t p q. (p.agg ∙ sym q.agg, c.laws.ensures.unique (coords rows) s t p.set_of q.set_of);
      valid = λ rows total set s. record { hierarchy = c.dims-dims.ensures.valid; rows = coords rows; valid = valid_coords h rows s.valid; set_of = s.set_of };
    }
