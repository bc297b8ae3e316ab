use Rattle.std.proofs.Common.{Box, Global, ◌∙◌, ap, refl, sym}
use Rattle.dc_node.specs.declared.block.Block.{Block}
use Rattle.volap_cell.specs.declared.cell.Cell.TheVariants as cell
use Rattle.volap_cell.proofs.tags.block_in.Goals as goal

pub returns : goal.returns
returns c =
    let same = c.deref_mut.ensures.value ∙ ap (λ (b : Box Block Global). b.value) c.in-Block.block-is in (
      (refl, λ w. rw c.in-Block.is refl),
      record {
        writes_back = tt;
        value = rw c.in-Block.is (ap (λ (x : Block). cell.Block (record c.in-Block.block { value = x })) (sym same));
      },
    )
