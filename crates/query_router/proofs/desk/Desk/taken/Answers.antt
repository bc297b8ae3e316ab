use Rattle.std.proofs.Common.{◌≡◌, ◌-◌, length, take, drop, position, IfSome, subst}
use Rattle.query_router.specs.Desk.{is_taken, is_with, DeskValue, IsAt}
use Rattle.query_router.proofs.OpenParts.{first-behind, rest-of, some-behind, is_with-opens}
use Rattle.query_router.proofs.desk.Desk.taken.Goals as goal

pub returns-clause-place : goal.returns-clause-place
returns-clause-place c =
    let d = c.self.inside in
    let items = c.deref.result.now in
    subst (λ (v : DeskValue). c.behind.result ≡ position (is_with c.args.shard c.args.worker) v.parts) c.self.view_is
    (first-behind (is_with c.args.shard c.args.worker) (is_with-opens c.args.shard c.args.worker) d.parts.items (take (length items - d.ended) (drop d.ended items)) d.ended c.taken_in.result c.behind.result c.self.invariant.has_ended (rest-of items d.parts.items d.ended c.deref.ensures.value) c.taken_in.ensures.place c.behind.ensures)

pub returns-clause-taken : goal.returns-clause-taken
returns-clause-taken c =
    let d = c.self.inside in
    let items = c.deref.result.now in
    subst (λ (v : DeskValue). IfSome c.behind.result (IsAt is_taken v.parts)) c.self.view_is
    (some-behind is_taken d.parts.items (take (length items - d.ended) (drop d.ended items)) d.ended c.taken_in.result c.behind.result (rest-of items d.parts.items d.ended c.deref.ensures.value) c.taken_in.ensures.taken c.behind.ensures)
