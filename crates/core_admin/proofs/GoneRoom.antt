-- Room for one gate more on an actor's list is not seen of the actor.
use Rattle.std.proofs.Common.{◌≡◌, sym}
use Rattle.core_tree.specs.volap_cell.specs.{Reusing.GoneGatesValue, Values.actor_of, declared.actor.Actor.Actor}

pub with-room : (x : Actor) (list : GoneGatesValue) → list.cells ≡ x.gone_gates.cells → actor_of x ≡ actor_of (record x { gone_gates = list })
with-room x list same = λ k. record (actor_of x) { gone_gates = sym same k }
