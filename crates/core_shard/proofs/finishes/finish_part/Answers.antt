use Rattle.std.proofs.Common.{option_map, sym, ap, ◌∙◌, subst, refl}
use Rattle.list_words.proofs.Elements.{Some-same}
use Rattle.volap_cell.specs.{Cells.{DeskCell, cell_of}, Lending.owner_of, Values.{ErrandValue, actor_of, errand_of}}
use Rattle.core_shard.specs.Due.{CanEnd, Ends}
use Rattle.core_shard.proofs.FinishReady.{can-end, finish-makes, gate-pinned}
use Rattle.core_shard.proofs.finishes.finish_part.Goals as goal

-- src/finishes.rt:39:5
pub unpin_if-requires : goal.unpin_if-requires
unpin_if-requires c = record {
  pinned = gate-pinned c.args.h.now c.args.gate_at (option_map cell_of c.args.gate.now) c.args.desk_at (cell_of c.args.desk.now) (actor_of c.args.actor.now) c.requires.here c.requires.due;
}

-- src/finishes.rt:41:5
pub end-requires : goal.end-requires
end-requires c =
    let dv = c.desk_in-desk.result.now in
    let same = Some-same (errand_of c.leave-errand.result) c.requires.due.e (sym (ap (option_map errand_of) c.leave-errand.ensures.left) ∙ c.requires.due.errand) in
    record {
      due = subst (λ (e : ErrandValue). CanEnd dv e) same
          (can-end c.args.h.now c.args.gate_at (option_map cell_of c.args.gate.now) c.args.desk_at (cell_of c.args.desk.now) (actor_of c.args.actor.now) c.requires.here c.requires.due
          (owner_of c.args.desk.now) dv (ap cell_of c.desk_in-desk.ensures.value));
    }

-- src/finishes.rt:20:1
pub returns-clause-made : goal.returns-clause-made
returns-clause-made c =
    let dv = c.desk_in-desk.result.now in
    let same = Some-same (errand_of c.leave-errand.result) c.requires.due.e (sym (ap (option_map errand_of) c.leave-errand.ensures.left) ∙ c.requires.due.errand) in
    finish-makes c.args.h.now c.args.gate_at (option_map cell_of c.args.gate.now) c.args.desk_at (cell_of c.args.desk.now) (actor_of c.args.actor.now) c.requires.here c.requires.due
    (owner_of c.args.desk.now) dv (ap cell_of c.desk_in-desk.ensures.value)
    (option_map cell_of c.unpin_if.new.gate) c.end.new.desk (DeskCell (owner_of c.args.desk.now) c.end.new.desk) _ c.unpin_if.ensures.less
    (subst (λ (e : ErrandValue). Ends e dv c.end.new.desk) (sym same) c.end.ensures.ends) refl
    (λ k. record (actor_of c.args.actor.now) { errand = option_map errand_of (c.leave-errand.ensures.none k) })
