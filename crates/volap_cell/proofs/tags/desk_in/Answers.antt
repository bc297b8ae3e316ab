use Rattle.std.proofs.Common.{Box, Global, ◌∙◌, ap, refl, sym}
use Rattle.query_router.specs.declared.desk.Desk.{Desk}
use Rattle.volap_cell.specs.declared.cell.Cell.TheVariants as cell
use Rattle.volap_cell.proofs.tags.desk_in.Goals as goal

pub returns : goal.returns
returns c =
    let same = c.deref_mut.ensures.value ∙ ap (λ (b : Box Desk Global). b.value) c.in-Desk.desk-is in (
      (refl, λ w. rw c.in-Desk.is refl),
      record {
        writes_back = tt;
        value = rw c.in-Desk.is (ap (λ (x : Desk). cell.Desk c.in-Desk.server (record c.in-Desk.desk { value = x })) (sym same));
      },
    )
