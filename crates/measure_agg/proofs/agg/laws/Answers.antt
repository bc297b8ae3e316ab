use Rattle.measure_agg.proofs.AggLaws.{join_associative, join_commutative, join_empty_left, join_empty_right, agg-append, agg-IsPermutation, is_least, is_greatest}
use Rattle.measure_agg.proofs.agg.laws.Goals as goal

pub returns : goal.returns
returns c = record {
  append = agg-append;
  order = agg-IsPermutation;
  associative = join_associative;
  commutative = join_commutative;
  empty_left = join_empty_left;
  empty_right = join_empty_right;
  least = is_least;
  greatest = is_greatest;
}
