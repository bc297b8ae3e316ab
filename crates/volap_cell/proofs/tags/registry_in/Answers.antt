use Rattle.std.proofs.Common.{Box, Global, ◌∙◌, ap, refl, sym}
use Rattle.server_image.specs.declared.registry.Registry.{Registry}
use Rattle.volap_cell.specs.declared.cell.Cell.TheVariants as cell
use Rattle.volap_cell.proofs.tags.registry_in.Goals as goal

pub returns : goal.returns
returns c =
    let same = c.deref_mut.ensures.value ∙ ap (λ (b : Box Registry Global). b.value) c.in-Registry.registry-is in (
      (refl, λ w. rw c.in-Registry.is refl),
      record {
        writes_back = tt;
        value = rw c.in-Registry.is (ap (λ (x : Registry). cell.Registry (record c.in-Registry.registry { value = x })) (sym same));
      },
    )
