use Rattle.tree_shape.proofs.{Down.ComesIn.goes-in, Down.Descends.goes-down, Down.Puts.after-put}
use Rattle.tree_shape.proofs.insert_laws.Goals as goal

pub returns : goal.returns
returns _ = record {
  comes_in = λ table g r before now purse purse_now entered tree d. goes-in table g r before now purse purse_now entered tree d;
  goes_down = λ table g r before now purse purse_now entered tree d. goes-down table g r before now purse purse_now entered tree d;
  put = λ table g r before now tree d. after-put table g r before now tree d;
}
