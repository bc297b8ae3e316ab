use Rattle.std.proofs.Common.{◌+◌, ◌≡◌, ◌<◌, length, sym, ap, subst, ◌∙◌, arith}
use Rattle.hierarchy_split.specs.{Flags.AreDimCutsOf, Head.with_other}
use Rattle.hierarchy_split.proofs.Groups.{cuts_pushed}
use Rattle.hierarchy_split.proofs.head.HeadCuts.strike.Goals as goal

pub loop-dim-preserved : goal.loop-dim-preserved
loop-dim-preserved c =
    let h = c.args.h.now in
    let n = c.loop-dim.dim in
    let lt : n < length h = omega (arith, c.loop-dim-test.true, c.dims-dim-end.ensures.value, c.loop-dim.auto.dim-end) in (
      c.push.ensures.len ∙ ap (λ n. n + 1) c.loop-dim.invariant.0,
      λ items a.
          let here = c.struck.ensures items a.head (subst (λ cuts. AreDimCutsOf h items n cuts) (sym c.cuts.ensures) (a.dims n lt)) in
          cuts_pushed (AreDimCutsOf h (with_other items c.args.set.now)) c.loop-dim.dims.items c.push.new.self.items n c.struck.result c.push.ensures.items c.loop-dim.invariant.0 (c.loop-dim.invariant.1 items a) here,
    )

pub returns-clause-valid : goal.returns-clause-valid
returns-clause-valid c =
    let items = c.requires.cuts.items in
    let a = c.requires.cuts.cuts_of in
    let count : length c.loop-dim.dims.items ≡ length c.args.h.now = omega (arith, c.loop-dim.invariant.0, c.dims-dim-end.ensures.value, c.loop-dim-test.false, c.loop-dim.auto.dim-end) in
    record {
      items = with_other items c.args.set.now;
      cuts_of = record {
        head = a.head;
        some = a.some;
        few = a.few;
        valid = a.valid;
        count = count;
        dims = λ dim lt. c.loop-dim.invariant.1 items a dim (omega (arith, count, lt, c.loop-dim.invariant.0));
      };
    }
