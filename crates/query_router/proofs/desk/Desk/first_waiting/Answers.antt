use Rattle.std.proofs.Common.{◌≡◌, ◌-◌, length, take, drop, position, IfSome, subst}
use Rattle.query_router.specs.Desk.{is_waiting, DeskValue, IsAt}
use Rattle.query_router.proofs.OpenParts.{first-behind, rest-of, some-behind, waiting-opens}
use Rattle.query_router.proofs.desk.Desk.first_waiting.Goals as goal

pub returns-clause-place : goal.returns-clause-place
returns-clause-place c =
    let d = c.self.inside in
    let items = c.deref.result.now in
    subst (λ (v : DeskValue). c.behind.result ≡ position is_waiting v.parts) c.self.view_is
    (first-behind is_waiting waiting-opens d.parts.items (take (length items - d.ended) (drop d.ended items)) d.ended c.waiting_in.result c.behind.result c.self.invariant.has_ended (rest-of items d.parts.items d.ended c.deref.ensures.value) c.waiting_in.ensures.place c.behind.ensures)

pub returns-clause-waiting : goal.returns-clause-waiting
returns-clause-waiting c =
    let d = c.self.inside in
    let items = c.deref.result.now in
    subst (λ (v : DeskValue). IfSome c.behind.result (IsAt is_waiting v.parts)) c.self.view_is
    (some-behind is_waiting d.parts.items (take (length items - d.ended) (drop d.ended items)) d.ended c.waiting_in.result c.behind.result (rest-of items d.parts.items d.ended c.deref.ensures.value) c.waiting_in.ensures.waiting c.behind.ensures)
