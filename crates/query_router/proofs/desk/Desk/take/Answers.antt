use Rattle.std.proofs.{Common.{◌≡◌, Some, slice_get, subst, sym, ap, ◌∙◌}, lemmas.Option.slice_get-get_or}
use Rattle.query_router.specs.Desk.{is_open, is_waiting, DeskValue, IsAt}
use Rattle.query_router.proofs.OpenParts.{progress-take}
use Rattle.query_router.proofs.desk.Desk.take.Goals as goal

pub invariant_of-self : goal.invariant_of-self
invariant_of-self c =
    let at = subst (λ (v : DeskValue). IsAt is_waiting v.parts c.args.place) (sym c.self.view_is) c.requires in
    progress-take c.self.inside.parts.items c.self.inside.ended c.self.inside.open_count c.args.place c.replace.new.dest c.self.invariant at (ap is_open c.replace.ensures.after)

pub returns-clause-part : goal.returns-clause-part
returns-clause-part c =
    let at = subst (λ (v : DeskValue). IsAt is_waiting v.parts c.args.place) (sym c.self.view_is) c.requires in
    let held = c.index_mut-part.result.now in
    subst (λ (v : DeskValue). slice_get v.parts c.args.place ≡ Some c.replace.result) c.self.view_is
    (slice_get-get_or c.self.inside.parts.items c.args.place held at.within ∙ ap Some (sym c.index_mut-part.ensures.value ∙ sym c.replace.ensures.value))
