-- What is built of what was collected: one tree, or two, whose blocks were put into their boxes from the last one on.
use Rattle.std.proofs.{Common.{◌≡◌, ◌+◌, List, ◌++◌, not, length, Some, None, refl, sym, ap, ◌∙◌, subst, inl, inr}, lemmas.List.{reverse-append, reverse-reverse}, lemmas.List.Filters.length-filter_both}
use Rattle.std.specs.Prelude.{reverse}
use Rattle.cell_stock.specs.Stock.{PurseValue}
use Rattle.describing_set.specs.{Plane.goes_left, declared.plane.Plane.Plane}
use Rattle.dim_hierarchy.specs.{Dimension.Dimension, declared.row.Row.Row}
use Rattle.core_tree.specs.link_descent.specs.declared.entered.Fresh.{Fresh}
use Rattle.core_tree.specs.shard_build.specs.{Built.IsBuilt, declared.builder.Built.Built}
use Rattle.core_tree.specs.volap_cell.specs.{AdminKinds.{left_of, right_of, spent_by, tree_of}, Values.{BuildingValue, CollectingValue}}
use Rattle.core_admin.specs.BuildDue.{AreBuilt, IsMadeOf}

-- what a building has beside its trees
pub record IsFilledFrom (c : CollectingValue) (b : BuildingValue) (placed : List Fresh) : Type 0 where
  pub frozen_is : b.frozen ≡ c.frozen
  pub read_is : b.read ≡ c.read
  pub unbuilt : b.unbuilt ≡ reverse placed
  pub spent : b.spent ≡ spent_by (reverse placed)

pub one-made : (h : List Dimension) (c : CollectingValue) (purse purse_now : PurseValue) (tree : Built) (b : BuildingValue) (rows : List Row) (placed : List Fresh) → c.frozen.plane ≡ None → rows ≡ c.rows → IsBuilt h rows purse purse_now tree
    → b.left ≡ tree_of tree → b.right ≡ None → placed ≡ reverse tree.blocks.items → IsFilledFrom c b placed → IsMadeOf h c purse purse_now b
one-made h c purse purse_now tree b rows placed none same built left right turned f =
    let blocks : b.unbuilt ≡ tree.blocks.items = f.unbuilt ∙ ap reverse turned ∙ reverse-reverse tree.blocks.items in
    record {
      frozen_is = f.frozen_is;
      read_is = f.read_is;
      built = record {
        built = inl (none, (tree, subst (λ (xs : List Row). IsBuilt h xs purse purse_now tree) same built, left, right, blocks));
        spent = f.spent ∙ ap spent_by (sym f.unbuilt);
      };
    }

pub two-made : (h : List Dimension) (c : CollectingValue) (purse purse_now : PurseValue) (first second : Built) (b : BuildingValue) (left right : List Row) (placed : List Fresh) (cut : Plane) → c.frozen.plane ≡ Some cut
    → left ≡ left_of h cut c.rows → right ≡ right_of h cut c.rows → AreBuilt h left right purse purse_now first second
    → b.left ≡ tree_of first → b.right ≡ Some (tree_of second) → placed ≡ reverse second.blocks.items ++ reverse first.blocks.items → IsFilledFrom c b placed → IsMadeOf h c purse purse_now b
two-made h c purse purse_now first second b left right placed cut is left_rows right_rows built left_is right_is turned f =
    let blocks : b.unbuilt ≡ first.blocks.items ++ second.blocks.items =
    f.unbuilt ∙ ap reverse turned ∙ reverse-append (reverse second.blocks.items) (reverse first.blocks.items) ∙ (λ k. reverse-reverse first.blocks.items k ++ reverse-reverse second.blocks.items k) in
    record {
      frozen_is = f.frozen_is;
      read_is = f.read_is;
      built = record {
        built = inr (
          cut,
          is,
          (
            first,
            second,
            built.between,
            subst (λ (xs : List Row). IsBuilt h xs purse built.between first) left_rows built.left_is,
            subst (λ (xs : List Row). IsBuilt h xs built.between purse_now second) right_rows built.right_is,
            left_is,
            right_is,
            blocks,
          ),
        );
        spent = f.spent ∙ ap spent_by (sym f.unbuilt);
      };
    }

-- the rows on both sides are all rows
pub sides-count : (h : List Dimension) (cut : Plane) (rows : List Row) → length (left_of h cut rows) + length (right_of h cut rows) ≡ length rows
sides-count h cut rows = length-filter_both (λ (r : Row). goes_left h cut r.at) (λ (r : Row). not (goes_left h cut r.at)) (λ r. refl) rows
