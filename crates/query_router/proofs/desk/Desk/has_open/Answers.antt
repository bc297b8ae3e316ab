use Rattle.std.proofs.Common.{◌≡◌, nat_lt, subst, ap, ◌∙◌}
use Rattle.std.specs.List.{list_any}
use Rattle.query_router.specs.Desk.{DeskValue, is_open}
use Rattle.query_router.proofs.OpenParts.{some-count}
use Rattle.query_router.proofs.desk.Desk.has_open.Goals as goal

pub returns : goal.returns
returns c =
    subst (λ (d : DeskValue). nat_lt 0 c.self.inside.open_count ≡ list_any is_open d.parts) c.self.view_is (ap (nat_lt 0) c.self.invariant.count ∙ some-count c.self.inside.parts.items)
