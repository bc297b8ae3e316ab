-- What is known of the rows beneath entries, level by level.
use Rattle.std.proofs.Common.{ℕ, zero, suc, ◌≡◌, List, ap, subst}
use Rattle.std.specs.List.{flat_map}
use Rattle.dim_hierarchy.specs.{Dimension.Dimension}
use Rattle.dc_node.specs.declared.entry.Entry.{Entry}
use Rattle.list_words.specs.Counts.{Each}
use Rattle.core_pages.specs.tree_shape.specs.PageLines.{CellBlocks, group_entries}
use Rattle.group_answer.specs.Reading.{AreSummed, IsSummed, rows_at}

module _ (h : List Dimension) (blocks : CellBlocks) where
  pub summed-here : (level : ℕ) (e : Entry) → AreSummed h blocks level e → IsSummed h e (rows_at blocks level e)
  summed-here zero e are = are
  summed-here (suc level) e are = are.0

  pub summed-below : (level lower : ℕ) (e : Entry) → level ≡ suc lower → AreSummed h blocks level e → Each (λ x. AreSummed h blocks lower x) (group_entries blocks e)
  summed-below level lower e is are = (subst (λ (n : ℕ). AreSummed h blocks n e) is are).1

pub rows-below : (blocks : CellBlocks) (level lower : ℕ) (e : Entry) → level ≡ suc lower → rows_at blocks level e ≡ flat_map (λ x. rows_at blocks lower x) (group_entries blocks e)
rows-below blocks level lower e is = ap (λ (n : ℕ). rows_at blocks n e) is
