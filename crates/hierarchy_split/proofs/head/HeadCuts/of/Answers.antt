use Rattle.std.proofs.Common.{◌+◌, ◌≡◌, length, refl, ap, ◌∙◌, arith}
use Rattle.hierarchy_split.specs.{Flags.AreDimCutsOf, Head.head_items}
use Rattle.hierarchy_split.proofs.Groups.{cuts_pushed}
use Rattle.hierarchy_split.proofs.head.HeadCuts.of.Goals as goal

pub loop-dim-preserved : goal.loop-dim-preserved
loop-dim-preserved c = (
  c.push.ensures.len ∙ ap (λ n. n + 1) c.loop-dim.invariant.0,
  cuts_pushed (AreDimCutsOf c.args.h.now (head_items c.args.sets.now)) c.loop-dim.dims.items c.push.new.self.items c.loop-dim.dim c.dim_cuts.result c.push.ensures.items c.loop-dim.invariant.0 c.loop-dim.invariant.1 c.dim_cuts.ensures,
)

pub returns-clause-valid : goal.returns-clause-valid
returns-clause-valid c =
    let count : length c.loop-dim.dims.items ≡ length c.args.h.now = omega (arith, c.loop-dim.invariant.0, c.dims-dim-end.ensures.value, c.loop-dim-test.false, c.loop-dim.auto.dim-end) in
    record {
      items = head_items c.args.sets.now;
      cuts_of = record {
        head = refl;
        some = c.requires.some;
        few = c.requires.few;
        valid = c.requires.sets;
        count = count;
        dims = λ dim lt. c.loop-dim.invariant.1 dim (omega (arith, count, lt, c.loop-dim.invariant.0));
      };
    }
