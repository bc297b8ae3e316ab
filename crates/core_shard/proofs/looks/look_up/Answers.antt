use Rattle.std.proofs.Common.{option_map, ap, ◌∙◌, IsSome, refl, subst, sym}
use Rattle.volap_cell.specs.{Cells.{cell_of, gate_shard}, Values.{actor_of, errand_of}}
use Rattle.core_shard.proofs.NotesHeights.{height-noted, its-gate, look-makes}
use Rattle.core_shard.proofs.looks.look_up.Goals as goal

pub gate_seen-requires : goal.gate_seen-requires
gate_seen-requires c =
    let it = its-gate c.args.h.now c.args.map_at (cell_of c.args.map.now) c.args.gate_at (cell_of c.args.gate.now) (actor_of c.args.actor.now) c.requires.here c.requires.due in
    subst IsSome (sym (ap gate_shard it.1)) refl

pub returns : goal.returns
returns c =
    let a = actor_of c.args.actor.now in
    let cell = cell_of c.args.map.now in
    let gate = cell_of c.args.gate.now in
    let it = c.gate_seen.result.now in
    let is = c.gate_seen.ensures in
    let (e, errand, row) = c.row_in-going.ensures in
    let r = c.row_in-going.result.now in
    let noted = ap (option_map errand_of) (c.go_on.ensures e r errand row)
    ∙ height-noted a cell c.args.gate_at gate c.requires.due e r c.in-Before.height c.in-Before.filled it.height it (ap (option_map errand_of) errand) row c.in-Before.is refl in
    record { made = look-makes c.args.h.now c.args.map_at cell c.args.gate_at gate a c.requires.here c.requires.due cell gate it _ refl is is (λ k. record a { errand = noted k }) }
