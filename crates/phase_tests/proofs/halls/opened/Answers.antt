use Rattle.std.proofs.Common.{◌≡◌, ◌∙◌, ◌<◌, length, sym, arith}
use Rattle.phase_tests.proofs.Pairing.{hall-fits, is-paired, second-is}
use Rattle.phase_tests.proofs.halls.opened.Goals as goal

pub open-requires : goal.open-requires
open-requires c =
    let one : length c.in_ok-h.h ≡ 1 = c.in_ok-h.ensures in
    record { fits = hall-fits c.in_ok-h.h c.dims-dims.ensures.valid c.args.other c.in_ok-roles.roles c.in_ok-roles.ensures c.requires (omega (arith, one)) }

pub returns : goal.returns
returns c = record {
  paired = is-paired c.in_ok-h.h c.args.other c.in_ok-roles.roles c.in_ok-roles.ensures _ _ c.in_ok-both.ensures.opened c.in_ok-h.ensures;
  second = second-is c.in_ok-h.h c.args.other c.in_ok-roles.roles c.in_ok-roles.ensures _ _ c.in_ok-both.ensures.opened;
}
