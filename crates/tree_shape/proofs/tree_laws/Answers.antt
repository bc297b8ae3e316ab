use Rattle.tree_shape.proofs.{Whole.Beneath.{entry-behind-fits, root-behind-fits}, Whole.Totals.{agg-times, set-times, gate-sum, block-fits, links-on, leads-down, leads-root, entry-behind, root-behind}}
use Rattle.tree_shape.proofs.tree_laws.Goals as goal

pub returns : goal.returns
returns _ = record {
  order = λ table ns ms set h. (agg-times table ns ms h, set-times table ns ms set h);
  gate = λ table cells g tree ns h. gate-sum table cells g tree ns h;
  block = λ table cells g b tree w bi bg. block-fits table cells g tree b bi bg w;
  child = leads-down;
  root = leads-root;
  behind = entry-behind;
  root_behind = root-behind;
  behind_fits = entry-behind-fits;
  root_behind_fits = root-behind-fits;
  link = links-on;
}
