use Rattle.tree_shape.proofs.{Down.Rows.after-all, Reading.Beginnings.after-begin, Reading.Readings.{after-visit, elsewhere}}
use Rattle.tree_shape.proofs.query_laws.Goals as goal

pub returns : goal.returns
returns _ = record {
  begins = λ table cells g must f counted tree d. after-begin table cells g must f counted tree d;
  visits = λ table cells g must f items item counted tree d. after-visit table cells g must f items item counted tree d;
  elsewhere = elsewhere;
  ends = after-all;
}
