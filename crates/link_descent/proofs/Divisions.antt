-- What the code knows of the good cut of a head, and of the good head cut of a group.
use Rattle.std.proofs.Common.{ℕ, ◌≡◌, Option, Some, None, List, ◌++◌, length, subst, arith}
use Rattle.std.specs.{List.range_with_len, Prelude.{IfSome, IfNone, IsPermutation}}
use Rattle.dim_hierarchy.specs.Dimension.{Dimension}
use Rattle.describing_set.specs.declared.set.DescSet.{DescSet}
use Rattle.hierarchy_split.specs.{Cut.{IsDimCut, IsGood, IsGoodCut}, Flags.AreHeadCutsOf, Head.{GroupItems, head_items, kept_places, parted_places, IsHeadCut, IsGoodHead, IsGoodHeadCut}, declared.cut.Cut.Cut, declared.head.HeadCuts.HeadCuts, declared.head_cut.HeadCut.HeadCut}
use Rattle.hierarchy_split.proofs.Cuts.{cut_length}
use Rattle.dc_node.specs.{Block.size, declared.block.Block.Block, declared.block.Body.Body}
use Rattle.link_descent.specs.{Divide.{front, together, AreItemSets, AreGroupSets, HasNoCut, HasNoHeadCut}, Room.{IsTheCut, AreTheParts, Strikes}}
use Rattle.link_descent.proofs.Strikes.{Strikes-both}

pub the_cut : (h : List Dimension) (body : Body) (sets : List DescSet) (r : Option Cut) → AreItemSets h body sets → length sets ≡ size body → IfSome r (IsGoodCut h sets) → IfSome r (λ cut. IsPermutation (range_with_len 0 (length sets)) cut.order.items) → IfSome r (IsTheCut h body)
the_cut h body sets None are count good order = tt
the_cut h body sets (Some cut) are count good order = record {
  sets = sets;
  are_sets = are;
  good = good;
  order = subst (λ n. IsPermutation (range_with_len 0 n) cut.order.items) count order;
  left =
      let below = good.dim_cut.place.between.below in
      let m = cut_length h sets cut good.dim_cut in
      omega (arith, below, m, count);
}

pub no_cut : (h : List Dimension) (body : Body) (sets : List DescSet) (r : Option Cut) → AreItemSets h body sets → IfNone r ((cut : Cut) → IsDimCut h sets cut → ¬ IsGood h sets cut) → IfNone r (HasNoCut h body)
no_cut h body sets None are none = record { sets = sets; are_sets = are; none = none }
no_cut h body sets (Some cut) are none = tt

-- head cuts of a head's items and of those of its tail
pub record AreGroupCuts (h : List Dimension) (body : Body) (tail : List Block) (sets : List DescSet) (cuts : HeadCuts) : Type 0 where
  pub others : List DescSet
  pub are_sets : AreGroupSets h body tail (record { head = sets; others = others })
  pub cuts_of : AreHeadCutsOf h (record { head = sets; others = others }) cuts

pub group_cuts : (h : List Dimension) (body : Body) (first second tail : List Block) (sets : List DescSet) (before between now : HeadCuts) → AreItemSets h body sets → AreHeadCutsOf h (head_items sets) before
    → Strikes h (together (front body 0) first) before between → Strikes h (together (front body 0) second) between now → first ++ second ≡ tail → AreGroupCuts h body tail sets now
group_cuts h body first second tail sets before between now are of s t e =
    let both = subst (λ l. Strikes h (together (front body 0) l) before now) e (Strikes-both h body first second before between now s t) in
    record {
      others = both.sets;
      are_sets = record { head = are; others = both.are_sets };
      cuts_of = both.struck (head_items sets) of;
    }

pub the_parts : (h : List Dimension) (body : Body) (tail : List Block) (sets : List DescSet) (cuts : HeadCuts) (cut : HeadCut) (stays goes : List ℕ) → (g : AreGroupCuts h body tail sets cuts) → length sets ≡ size body
    → ((items : GroupItems) → AreHeadCutsOf h items cuts → IsGoodHeadCut h items cut)
    → stays ≡ kept_places h sets cut → goes ≡ parted_places h sets cut → IsPermutation (range_with_len 0 (length sets)) (stays ++ goes) → AreTheParts h body tail stays goes
the_parts h body tail sets cuts cut stays goes g count good kept parted order = record {
  items = record { head = sets; others = g.others };
  are_sets = g.are_sets;
  cut = cut;
  good = good (record { head = sets; others = g.others }) g.cuts_of;
  stays_is = kept;
  goes_is = parted;
  order = subst (λ n. IsPermutation (range_with_len 0 n) (stays ++ goes)) count order;
}

pub no_head_cut : {A : Type 0} (h : List Dimension) (body : Body) (tail : List Block) (sets : List DescSet) (cuts : HeadCuts) (r : Option A) → (g : AreGroupCuts h body tail sets cuts)
    → ((items : GroupItems) → AreHeadCutsOf h items cuts → (cut : HeadCut) → IsHeadCut h items cut → ¬ IsGoodHead h items cut)
    → IfNone r (HasNoHeadCut h body tail)
no_head_cut h body tail sets cuts None g none = record { items = record { head = sets; others = g.others }; are_sets = g.are_sets; none = none (record { head = sets; others = g.others }) g.cuts_of }
no_head_cut h body tail sets cuts (Some x) g none = tt
