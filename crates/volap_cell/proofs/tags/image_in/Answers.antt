use Rattle.std.proofs.Common.{Box, Global, ◌∙◌, ap, refl, sym}
use Rattle.server_image.specs.declared.image.Image.{Image}
use Rattle.volap_cell.specs.declared.cell.Cell.TheVariants as cell
use Rattle.volap_cell.proofs.tags.image_in.Goals as goal

pub returns : goal.returns
returns c =
    let same = c.deref_mut.ensures.value ∙ ap (λ (b : Box Image Global). b.value) c.in-Image.image-is in (
      (refl, λ w. rw c.in-Image.is refl),
      record {
        writes_back = tt;
        value = rw c.in-Image.is (ap (λ (x : Image). cell.Image c.in-Image.server (record c.in-Image.image { value = x })) (sym same));
      },
    )
