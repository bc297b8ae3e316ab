use Rattle.session_steps.proofs.Servers.{places-are}
use Rattle.session_steps.proofs.books.take_image_alone.Goals as goal

pub take_first-requires-clause-cell : goal.take_first-requires-clause-cell
take_first-requires-clause-cell g c = (places-are c.requires.books).0
