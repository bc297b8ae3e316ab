use Rattle.std.proofs.Common.{option_map, sym, ap, ◌∙◌, subst, refl}
use Rattle.list_words.proofs.Elements.{Some-same}
use Rattle.volap_cell.specs.{Cells.{DeskCell, MapCell, cell_of}, Lending.{owner_of, with_desk}, Values.{ErrandValue, actor_of, errand_of}}
use Rattle.volap_cell.proofs.{Outcomes.on-err}
use Rattle.core_shard.specs.Due.{Divides}
use Rattle.core_shard.proofs.ExpandReady.{can-divide, expand-makes, on-both}
use Rattle.core_shard.proofs.expands.expand.Goals as goal

-- src/expands.rt:53:5
pub divide-requires : goal.divide-requires
divide-requires c = record {
  due = can-divide c.args.h.now c.args.map_at (cell_of c.args.map.now) c.args.desk_at (cell_of c.args.desk.now) (actor_of c.args.actor.now) c.requires.here c.requires.due
      (owner_of c.args.map.now) c.map_in-map.result.now (ap cell_of c.map_in-map.ensures.value)
      (owner_of c.args.desk.now) c.desk_in-desk.result.now (ap cell_of c.desk_in-desk.ensures.value) c.args.actor.now.errand refl;
}

-- src/expands.rt:27:1
pub returns-clause-made : goal.returns-clause-made
returns-clause-made c =
    let due = c.requires.due in
    let map_is = ap cell_of c.map_in-map.ensures.value in
    let desk_is = ap cell_of c.desk_in-desk.ensures.value in
    let had = can-divide c.args.h.now c.args.map_at (cell_of c.args.map.now) c.args.desk_at (cell_of c.args.desk.now) (actor_of c.args.actor.now) c.requires.here due
    (owner_of c.args.map.now) c.map_in-map.result.now map_is (owner_of c.args.desk.now) c.desk_in-desk.result.now desk_is c.args.actor.now.errand refl in
    let same = Some-same (errand_of had.e) due.e (sym (ap (option_map errand_of) had.had) ∙ due.errand) in
    on-both c.divide.result
    (λ done none. expand-makes c.args.h.now c.args.map_at (cell_of c.args.map.now) c.args.desk_at (cell_of c.args.desk.now) (actor_of c.args.actor.now) c.requires.here due
    (owner_of c.args.map.now) c.map_in-map.result.now map_is (owner_of c.args.desk.now) c.desk_in-desk.result.now desk_is
    (MapCell (owner_of c.args.map.now) c.map_in-map.result.now) refl c.divide.new.desk (DeskCell (owner_of c.args.desk.now) c.divide.new.desk) _
    (subst (λ (e : ErrandValue). Divides c.args.h.now c.map_in-map.result.now c.desk_in-desk.result.now c.divide.new.desk e) (sym same) (done had.e had.had)) refl
    (λ k. record (actor_of c.args.actor.now) { errand = option_map errand_of (none k) }))
    c.divide.ensures.done c.divide.ensures.left

pub returns-clause-refused : goal.returns-clause-refused
returns-clause-refused c =
    on-err c.divide.result c.divide.ensures.refused (λ k.
    let errand = ap (option_map errand_of) k.1 in
    (sym c.map_in-map.ensures.value, ap (with_desk c.args.desk.now) k.0 ∙ sym c.desk_in-desk.ensures.value, (λ i. record (actor_of c.args.actor.now) { errand = errand i })))
