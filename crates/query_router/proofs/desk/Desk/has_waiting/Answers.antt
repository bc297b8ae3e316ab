use Rattle.std.proofs.Common.{◌≡◌, ◌-◌, length, take, drop, subst}
use Rattle.std.specs.List.{list_any}
use Rattle.query_router.specs.Desk.{is_waiting, DeskValue}
use Rattle.query_router.proofs.OpenParts.{any-behind, rest-of, waiting-opens}
use Rattle.query_router.proofs.desk.Desk.has_waiting.Goals as goal

pub returns : goal.returns
returns c =
    let d = c.self.inside in
    let items = c.deref.result.now in
    subst (λ (v : DeskValue). c.any_waits.result ≡ list_any is_waiting v.parts) c.self.view_is
    (any-behind is_waiting waiting-opens d.parts.items (take (length items - d.ended) (drop d.ended items)) d.ended c.any_waits.result c.self.invariant.has_ended (rest-of items d.parts.items d.ended c.deref.ensures.value) c.any_waits.ensures)
