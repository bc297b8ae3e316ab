use Rattle.std.proofs.Common.{Box, Global, ◌∙◌, ap, refl, sym}
use Rattle.shard_build.specs.shard_store.specs.declared.gate.Gate.{Gate}
use Rattle.volap_cell.specs.declared.cell.Cell.TheVariants as cell
use Rattle.volap_cell.proofs.tags.gate_in.Goals as goal

pub returns : goal.returns
returns c =
    let same = c.deref_mut.ensures.value ∙ ap (λ (b : Box Gate Global). b.value) c.in-Gate.gate-is in (
      (refl, λ w. rw c.in-Gate.is refl),
      record {
        writes_back = tt;
        value = rw c.in-Gate.is (ap (λ (x : Gate). cell.Gate (record c.in-Gate.gate { value = x })) (sym same));
      },
    )
