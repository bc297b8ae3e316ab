use Rattle.hierarchy_split.proofs.{Cuts.{IsCandidate, Choosing-skips, Choosing-keeps, Choosing-takes}, cut.choose.Goals.{in-Some+then-is_better, in-Some+else-is_better, in_default}}
use Rattle.hierarchy_split.proofs.cut.choose.Goals as goal

pub loop-dim-preserved : goal.loop-dim-preserved
loop-dim-preserved c =
    let h = c.args.h.now in
    let sets = c.args.sets.now in
    let n = c.loop-dim.dim in
    elim c.match-good_cut.branch [
      | in-Some+then-is_better w ↦
          let found : IsCandidate h sets w.in-Some.found = record { dim_cut = w.in-Some.ensures.cut; good = w.in-Some.ensures.good; overlap = w.in-Some.ensures.overlap } in
          rw w.best-is (Choosing-takes h sets n c.loop-dim.best w.in-Some.found c.loop-dim.invariant found w.in-Some.ensures.dim w.if-is_better.ensures.some)
      | in-Some+else-is_better w ↦
          let found : IsCandidate h sets w.in-Some.found = record { dim_cut = w.in-Some.ensures.cut; good = w.in-Some.ensures.good; overlap = w.in-Some.ensures.overlap } in
          rw w.best-is (Choosing-keeps h sets n c.loop-dim.best w.in-Some.found c.loop-dim.invariant found w.in-Some.ensures.dim w.if-is_better.ensures.none w.if-is_better.ensures.some)
      | in_default w ↦ rw w.best-is (Choosing-skips h sets n c.loop-dim.best c.loop-dim.invariant w.in_default.ensures.none)
    ]
