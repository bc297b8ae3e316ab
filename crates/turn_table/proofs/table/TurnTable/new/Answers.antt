use Rattle.std.proofs.Common.{rules, [], ◌-◌, ℕ, replicate, ap, refl, ◌∙◌}
use Rattle.turn_table.proofs.Turned.{straight}
use Rattle.turn_table.proofs.Opened.{opens_as, first_seated}
use Rattle.turn_table.proofs.table.TurnTable.new.Goals as goal

pub new-requires : goal.new-requires
new-requires g c = opens_as g.C.Core.invariant g.C.Core.log_at g.C.Core.log g.C.Core.needs c.args.cells.items _ c.args.actors.now.items _ _ _ c.requires.some.1 c.requires.some.0 c.requires.valid (λ i a k h. g.C.Core.idle_free a k (c.requires.idle i a h))
    (ap (λ v. v.items) c.of.ensures) (ap (λ v. v.items) c.of-2.ensures) (c.as_slice.ensures.value ∙ (c.in_ok-words.ensures ∙ ap (λ n. replicate {A = ℕ} n 0) (c.len.ensures ∙ search rules))) c.in_ok-slots.ensures

pub invariant_of-result-in-Ok : goal.invariant_of-result-in-Ok
invariant_of-result-in-Ok g c = straight g.C.Core.invariant g.C.Core.log_at g.C.Core.log g.C.Core.needs _ _ 0 _ _ _ refl (first_seated g.C.Core.invariant g.C.Core.log_at g.C.Core.log g.C.Core.needs c.args.cells.items _ c.args.actors.now.items _ _ _ _ _ c.requires.some.1 c.requires.some.0 c.requires.valid (λ i a k h. g.C.Core.idle_free a k (c.requires.idle i a h))
    (ap (λ v. v.items) c.of.ensures) (ap (λ v. v.items) c.of-2.ensures) (search rules) (ap (λ n. n - 1) (c.len-in-Ok.ensures ∙ search rules)) c.new-in-Ok.ensures)

pub returns-in-Ok-clause-possible : goal.returns-in-Ok-clause-possible
returns-in-Ok-clause-possible g c = (first_seated g.C.Core.invariant g.C.Core.log_at g.C.Core.log g.C.Core.needs c.args.cells.items _ c.args.actors.now.items _ 0 _ [] c.in-Ok.place.me c.requires.some.1 c.requires.some.0 c.requires.valid (λ i a k h. g.C.Core.idle_free a k (c.requires.idle i a h))
    (ap (λ v. v.items) c.of.ensures) (ap (λ v. v.items) c.of-2.ensures) c.in-Ok.ensures.ok.4 refl refl).possible
