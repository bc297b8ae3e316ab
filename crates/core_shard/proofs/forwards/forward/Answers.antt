use Rattle.std.proofs.Common.{option_map, sym, ap, ◌∙◌, subst, refl}
use Rattle.list_words.proofs.Elements.{Some-same}
use Rattle.volap_cell.specs.{Cells.{DeskCell, MapCell, cell_of}, Lending.owner_of, Values.{ErrandValue, actor_of, errand_of}}
use Rattle.core_shard.specs.Due.{CanSend, Sends}
use Rattle.core_shard.proofs.ForwardReady.{can-send, forward-makes}
use Rattle.core_shard.proofs.forwards.forward.Goals as goal

-- src/forwards.rt:47:5
pub send-requires : goal.send-requires
send-requires c =
    let same = Some-same (errand_of c.leave-errand.result) c.requires.due.e (sym (ap (option_map errand_of) c.leave-errand.ensures.left) ∙ c.requires.due.errand) in
    record {
      due = subst (λ (e : ErrandValue). CanSend c.map_in-map.result.now c.desk_in-desk.result.now e) same
          (can-send c.args.h.now c.args.map_at (cell_of c.args.map.now) c.args.desk_at (cell_of c.args.desk.now) (actor_of c.args.actor.now) c.requires.here c.requires.due
          (owner_of c.args.map.now) c.map_in-map.result.now (ap cell_of c.map_in-map.ensures.value)
          (owner_of c.args.desk.now) c.desk_in-desk.result.now (ap cell_of c.desk_in-desk.ensures.value));
    }

-- src/forwards.rt:22:1
pub returns : goal.returns
returns c =
    let same = Some-same (errand_of c.leave-errand.result) c.requires.due.e (sym (ap (option_map errand_of) c.leave-errand.ensures.left) ∙ c.requires.due.errand) in
    record {
      made = forward-makes c.args.h.now c.args.map_at (cell_of c.args.map.now) c.args.desk_at (cell_of c.args.desk.now) (actor_of c.args.actor.now) c.requires.here c.requires.due
          (owner_of c.args.map.now) c.map_in-map.result.now (ap cell_of c.map_in-map.ensures.value)
          (owner_of c.args.desk.now) c.desk_in-desk.result.now (ap cell_of c.desk_in-desk.ensures.value)
          (MapCell (owner_of c.args.map.now) c.map_in-map.result.now) refl c.send.new.desk (DeskCell (owner_of c.args.desk.now) c.send.new.desk) _
          (subst (λ (e : ErrandValue). Sends c.map_in-map.result.now c.desk_in-desk.result.now c.send.new.desk e) (sym same) c.send.ensures.sends) refl
          (λ k. record (actor_of c.args.actor.now) { errand = option_map errand_of (c.leave-errand.ensures.none k) });
    }
