use Rattle.std.proofs.Common.{◌≡◌, ◌-◌, length, take, drop, subst}
use Rattle.std.specs.List.{list_any}
use Rattle.query_router.specs.Desk.{waits_for, DeskValue}
use Rattle.query_router.proofs.OpenParts.{any-behind, rest-of, waits_for-opens}
use Rattle.query_router.proofs.desk.Desk.awaits.Goals as goal

pub returns : goal.returns
returns c =
    let d = c.self.inside in
    let items = c.deref.result.now in
    subst (λ (v : DeskValue). c.any_waits_for.result ≡ list_any (waits_for c.args.worker) v.parts) c.self.view_is
    (any-behind (waits_for c.args.worker) (waits_for-opens c.args.worker) d.parts.items (take (length items - d.ended) (drop d.ended items)) d.ended c.any_waits_for.result c.self.invariant.has_ended (rest-of items d.parts.items d.ended c.deref.ensures.value) c.any_waits_for.ensures)
