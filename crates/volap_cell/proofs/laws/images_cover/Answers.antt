use Rattle.volap_cell.proofs.Promised.{image-law}
use Rattle.volap_cell.proofs.laws.images_cover.Goals as goal

pub returns : goal.returns
returns c = image-law
