use Rattle.hierarchy_split.proofs.Partings.{Parting}
use Rattle.hierarchy_split.proofs.head_cut.HeadCut.parts.Given as goal

abbrev pub invariant-loop-place : goal.invariant-loop-place
invariant-loop-place l = Parting l.h l.head l.self l.place l.kept.items l.parted.items
