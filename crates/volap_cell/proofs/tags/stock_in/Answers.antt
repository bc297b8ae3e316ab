use Rattle.std.proofs.Common.{Box, Global, ◌∙◌, ap, refl, sym}
use Rattle.cell_stock.specs.declared.stock.Stock.{Stock}
use Rattle.volap_cell.specs.declared.cell.Cell.TheVariants as cell
use Rattle.volap_cell.proofs.tags.stock_in.Goals as goal

pub returns : goal.returns
returns c =
    let same = c.deref_mut.ensures.value ∙ ap (λ (b : Box Stock Global). b.value) c.in-Stock.stock-is in (
      (refl, λ w. rw c.in-Stock.is refl),
      record {
        writes_back = tt;
        value = rw c.in-Stock.is (ap (λ (x : Stock). cell.Stock (record c.in-Stock.stock { value = x })) (sym same));
      },
    )
