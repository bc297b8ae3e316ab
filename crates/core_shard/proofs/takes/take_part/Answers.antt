use Rattle.std.proofs.Common.{ℕ, Option, Some, option_map, refl, sym, ap, ◌∙◌, subst, ◌≡◌}
use Rattle.std.specs.Prelude.{IfSome, IsSome}
use Rattle.query_router.specs.Desk.{IsAt, is_waiting}
use Rattle.volap_cell.specs.{Cells.{Tag, DeskCell, cell_of, owned_by}, Lending.owner_of, ShardKinds.errand_for, Values.{actor_of, errand_of}}
use Rattle.core_shard.proofs.TakenReady.{take-makes, waiting-at}
use Rattle.core_shard.proofs.takes.take_part.Goals as goal

pub owner_in-server-requires : goal.owner_in-server-requires
owner_in-server-requires c = subst (λ (t : Tag). IsSome (owned_by t)) (sym c.requires.due.desk_is) refl

-- src/takes.rt:20:1
pub returns : goal.returns
returns c =
    let server = owner_of c.args.desk.now in
    let place = c.unwrap-place.result in
    let part = c.take-part.result in
    let ready : c.ready_for.result ≡ Some place = c.unwrap-place.ensures in
    let wait = waiting-at c.desk_in-desk.result.now.parts place part (subst (λ (o : Option ℕ). IfSome o (IsAt is_waiting c.desk_in-desk.result.now.parts)) ready c.ready_for.ensures.waiting) c.take-part.ensures.part in
    let became = subst (λ (s : ℕ). errand_of c.errand_for-errand.result ≡ errand_for s part wait.wanted) c.owner_in-server.ensures (c.errand_for-errand.ensures.value wait.wanted wait.waits) in
    record {
      made = take-makes c.args.h.now c.args.desk_at (cell_of c.args.desk.now) (DeskCell server c.take-part.new.self) (actor_of c.args.actor.now) _ server c.desk_in-desk.result.now c.requires.due
          (ap cell_of c.desk_in-desk.ensures.value) place (sym c.ready_for.ensures.place ∙ ready)
          part c.take-part.ensures.part (ap (DeskCell server) c.take-part.ensures.taken) wait
          (λ k. record (actor_of c.args.actor.now) { errand = (ap (option_map errand_of) c.give.ensures.given ∙ ap Some became) k });
    }
