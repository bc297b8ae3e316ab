use Rattle.std.proofs.Common.{List, ◌<◌, ◌^◌, length, subst, sym}
use Rattle.volap_cell.specs.declared.role.Role.{Role}
use Rattle.script_roles.proofs.Roles.{few-actors, roles-listed}
use Rattle.script_roles.proofs.listing.script_roles.Goals as goal

pub returns-clause-few : goal.returns-clause-few
returns-clause-few c =
    let few = few-actors c.args.with.now c.are_bytes.ensures.servers c.are_bytes.ensures.workers c.are_bytes.ensures.threads in
    let listed = roles-listed c.args.with.now c.new-roles.result c.add_sessions.new.roles c.push.new.self c.push-2.new.self c.add_hands.new.roles c.new-roles.ensures c.in_ok-add_sessions.ensures.ok
    c.in_ok-push.ensures.ok c.in_ok-push-2.ensures.ok c.in_ok-add_hands.ensures.ok in
    subst (λ (roles : List Role). length roles < 2 ^ 16) (sym listed) few
