use Rattle.std.proofs.Common.{◌+◌, ◌-◌, ℕ, List, subst, sym, ap, ◌∙◌}
use Rattle.std.specs.Int.{from_bool}
use Rattle.query_router.specs.{Desk.{is_taken, DeskValue, IsAt}, Progress.HasEnded, declared.part.Part.Part}
use Rattle.query_router.proofs.OpenParts.{count-put, ended-put, taken-counts}
use Rattle.query_router.proofs.desk.Desk.set.Goals as goal

pub overflow_sub-self : goal.overflow_sub-self
overflow_sub-self c =
    let at = subst (λ (v : DeskValue). IsAt is_taken v.parts c.args.place) (sym c.self.view_is) c.requires in
    taken-counts c.self.inside.parts.items c.self.inside.ended c.self.inside.open_count c.args.place c.args.part c.self.invariant at

pub first_open-self-inside-requires : goal.first_open-self-inside-requires
first_open-self-inside-requires c =
    let at = subst (λ (v : DeskValue). IsAt is_taken v.parts c.args.place) (sym c.self.view_is) c.requires in
    subst (λ (xs : List Part). HasEnded xs c.self.inside.ended) (sym c.deref.ensures.value)
    (ended-put c.self.inside.parts.items c.self.inside.ended c.self.inside.open_count c.args.place c.args.part c.self.invariant at)

pub invariant_of-self : goal.invariant_of-self
invariant_of-self c =
    let at = subst (λ (v : DeskValue). IsAt is_taken v.parts c.args.place) (sym c.self.view_is) c.requires in
    record {
      has_ended = subst (λ (xs : List Part). HasEnded xs c.first_open-self-inside.result) c.deref.ensures.value c.first_open-self-inside.ensures;
      count =
          ap (λ (n : ℕ). c.self.inside.open_count - 1 + n) (c.from.ensures ∙ ap from_bool c.is_open.ensures)
          ∙ count-put c.self.inside.parts.items c.self.inside.ended c.self.inside.open_count c.args.place c.args.part c.self.invariant at;
    }
