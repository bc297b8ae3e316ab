use Rattle.std.proofs.Common.{Box, Global, ◌∙◌, ap, refl, sym}
use Rattle.row_ledger.specs.declared.ledger.Ledger.{Ledger}
use Rattle.volap_cell.specs.declared.cell.Cell.TheVariants as cell
use Rattle.volap_cell.proofs.tags.ledger_in.Goals as goal

pub returns : goal.returns
returns c =
    let same = c.deref_mut.ensures.value ∙ ap (λ (b : Box Ledger Global). b.value) c.in-Ledger.ledger-is in (
      (refl, λ w. rw c.in-Ledger.is refl),
      record {
        writes_back = tt;
        value = rw c.in-Ledger.is (ap (λ (x : Ledger). cell.Ledger (record c.in-Ledger.ledger { value = x })) (sym same));
      },
    )
