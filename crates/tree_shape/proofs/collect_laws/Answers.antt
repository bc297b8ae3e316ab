use Rattle.tree_shape.proofs.Reading.Collects.{collect-begins, readable, after-read, collect-other, collect-ends}
use Rattle.tree_shape.proofs.collect_laws.Goals as goal

pub returns : goal.returns
returns _ = record {
  begins = λ table cells g tree. collect-begins table cells g tree;
  block = λ table cells g items item read collected tree c. readable table cells g items item read collected tree c;
  reads = λ table cells g items item read collected tree d. after-read table cells g items item read collected tree d;
  other = λ table g before now items read collected tree d c. collect-other table g before now items read collected tree d c;
  ends = λ table cells g read collected tree c. collect-ends table cells g read collected tree c;
}
