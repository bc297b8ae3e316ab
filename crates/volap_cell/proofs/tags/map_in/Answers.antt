use Rattle.std.proofs.Common.{Box, Global, ◌∙◌, ap, refl, sym}
use Rattle.mapping_table.specs.declared.map_table.MapTable.{MapTable}
use Rattle.volap_cell.specs.declared.cell.Cell.TheVariants as cell
use Rattle.volap_cell.proofs.tags.map_in.Goals as goal

pub returns : goal.returns
returns c =
    let same = c.deref_mut.ensures.value ∙ ap (λ (b : Box MapTable Global). b.value) c.in-Map.map-is in (
      (refl, λ w. rw c.in-Map.is refl),
      record {
        writes_back = tt;
        value = rw c.in-Map.is (ap (λ (x : MapTable). cell.Map c.in-Map.worker (record c.in-Map.map { value = x })) (sym same));
      },
    )
