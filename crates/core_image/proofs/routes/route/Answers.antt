use Rattle.std.proofs.Common.{ℕ, refl, sym, ap, ◌∙◌, subst, false}
use Rattle.dim_hierarchy.specs.declared.row.Row.{Row}
use Rattle.core_image.specs.Routing.{CanLay, Lays}
use Rattle.volap_cell.specs.{Cells.{DeskCell, ImageCell, cell_of}, Lending.{owner_of, with_desk}, Values.actor_of}
use Rattle.volap_cell.proofs.{Outcomes.as-err}
use Rattle.core_image.proofs.{Here.Ready.at-command, Here.Routed.{can-lay, has-routed}}
use Rattle.core_image.proofs.routes.route.Goals as goal

-- src/routes.rt:49:5
pub lay-requires : goal.lay-requires
lay-requires c =
    let same = at-command c.there-command.result.now c.in-Insert.row c.in-Insert.routed c.args.actor.now.command c.there-command.ensures c.in-Insert.is c.requires.due.of c.requires.due.row false c.requires.due.command in
    record {
      due = subst (λ (r : Row). CanLay c.args.h.now r.at c.desk_in-desk.result.now c.image_in-image.result.now) (sym same.1)
          (can-lay c.args.h.now c.args.desk_at c.args.image_at (cell_of c.args.desk.now) (cell_of c.args.image.now) (actor_of c.args.actor.now) c.requires.here c.requires.due
          (owner_of c.args.desk.now) c.desk_in-desk.result.now (ap cell_of c.desk_in-desk.ensures.value)
          (owner_of c.args.image.now) c.image_in-image.result.now (ap cell_of c.image_in-image.ensures.value));
    }

-- src/routes.rt:21:1
pub returns-clause-made : goal.returns-clause-made
returns-clause-made c =
    let same = at-command c.there-command.result.now c.in-Insert.row c.in-Insert.routed c.args.actor.now.command c.there-command.ensures c.in-Insert.is c.requires.due.of c.requires.due.row false c.requires.due.command in
    let hs = c.args.h.now in
    let marked = c.mark.ensures c.requires.due.of c.requires.due.row c.requires.due.command in
    has-routed hs c.args.desk_at c.args.image_at (cell_of c.args.desk.now) (cell_of c.args.image.now) (actor_of c.args.actor.now) c.requires.here c.requires.due
    (owner_of c.args.desk.now) c.desk_in-desk.result.now (ap cell_of c.desk_in-desk.ensures.value)
    (owner_of c.args.image.now) c.image_in-image.result.now (ap cell_of c.image_in-image.ensures.value)
    c.lay.new.desk (DeskCell (owner_of c.args.desk.now) c.lay.new.desk) (ImageCell (owner_of c.args.image.now) c.image_in-image.result.now) _
    (subst (λ (of : ℕ). Lays hs of c.requires.due.row c.image_in-image.result.now c.desk_in-desk.result.now c.lay.new.desk) same.0
    (subst (λ (r : Row). Lays hs c.there-command.result.now.of r c.image_in-image.result.now c.desk_in-desk.result.now c.lay.new.desk) same.1 c.in_ok-lay.ensures.ok))
    refl refl (λ k. record (actor_of c.args.actor.now) { command = marked k })

pub returns-in_err-lay-clause-refused : goal.returns-in_err-lay-clause-refused
returns-in_err-lay-clause-refused c =
    as-err c.from_residual.result (ap (with_desk c.args.desk.now) c.in_err-lay.ensures.err ∙ sym c.desk_in-desk.ensures.value, sym c.image_in-image.ensures.value, refl)
