use Rattle.std.proofs.Common.{◌+◌, ◌-◌, ℕ, List, insert, set, is_ok, subst, sym, ap, ◌∙◌}
use Rattle.std.specs.Int.{from_bool}
use Rattle.query_router.specs.{Desk.{is_open, is_taken, DeskValue, IsAt}, declared.part.Part.Part}
use Rattle.query_router.proofs.OpenParts.{progress-are, progress-expand, taken-counts, when-ok}
use Rattle.query_router.proofs.desk.Desk.expand.Goals as goal

pub overflow_sub-self : goal.overflow_sub-self
overflow_sub-self c =
    let at = subst (λ (v : DeskValue). IsAt is_taken v.parts c.args.place) (sym c.self.view_is) c.requires in
    taken-counts c.self.inside.parts.items c.self.inside.ended c.self.inside.open_count c.args.place c.args.left c.self.invariant at

pub invariant_of-self-2 : goal.invariant_of-self-2
invariant_of-self-2 c =
    let d = c.self.inside in
    let place = c.args.place in
    let left = c.args.left in
    let right = c.args.right in
    let at = subst (λ (v : DeskValue). IsAt is_taken v.parts place) (sym c.self.view_is) c.requires in
    let put = set c.reserve.new.self.items place left in
    let ok = sym c.is_ok.ensures.value ∙ c.if-prove.false in
    let inserted = when-ok (is_ok c.insert-inserted.result) c.insert-inserted.new.self.items (insert put (place + 1) right) put ok c.insert-inserted.ensures.items in
    let first = c.from.ensures ∙ ap from_bool c.is_open.ensures in
    let second = c.from-2.ensures ∙ ap from_bool c.is_open-2.ensures in
    progress-are (insert (set d.parts.items place left) (place + 1) right) c.insert-inserted.new.self.items d.ended (d.open_count - 1 + from_bool (is_open left) + from_bool (is_open right))
    (d.open_count - 1 + c.from.result + c.from-2.result)
    (inserted ∙ ap (λ (xs : List Part). insert (set xs place left) (place + 1) right) c.reserve.ensures.items)
    (ap (λ (n : ℕ). d.open_count - 1 + n + c.from-2.result) first ∙ ap (λ (n : ℕ). d.open_count - 1 + from_bool (is_open left) + n) second)
    (progress-expand d.parts.items d.ended d.open_count place left right c.self.invariant at)
