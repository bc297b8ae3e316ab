use Rattle.std.proofs.Common.{◌≡◌, ℕ, List, sym, ap, ◌∙◌, subst}
use Rattle.turn_table.specs.{Numbered.value_of, Seat.SeatValue}
use Rattle.counter_core.specs.Counters.{KeepsSum}
use Rattle.counter_core.proofs.Sums.{two, replace_same}
use Rattle.counter_core.proofs.counters.transfer.Goals as goal

pub commit-requires-clause-event : goal.commit-requires-clause-event
commit-requires-clause-event g c =
    let H : Type 0 = SeatValue ℕ ℕ ℕ in
    let actors = ap (λ (h : H). h.view.actors) c.lift.ensures.seat ∙ (ap (λ (h : H). h.view.actors) c.take-2.ensures.took.3 ∙ ap (λ (h : H). h.view.actors) c.take.ensures.took.3) in
    let t = c.moved-cells.ensures.cells in
    let held : c.lift.new.seat.view.held ≡ c.lift.result = ap (λ (h : H). h.view.held) c.lift.ensures.seat ∙ sym c.lift.ensures.cells in
    let P : List (ℕ × ℕ) × List (ℕ × ℕ) → Type 0 = λ z. KeepsSum z.0 z.1 in
    (0, ap (λ (l : List (ℕ × ℕ)). value_of l c.args.number) actors ∙ c.requires.actor, subst P (λ i. (sym (held ∙ t.6) i, sym t.7 i)) (two t.0 t.1 t.2 t.3 t.4 t.5 t.8))

pub returns-clause-actors : goal.returns-clause-actors
returns-clause-actors g c =
    let H : Type 0 = SeatValue ℕ ℕ ℕ in
    let actors = ap (λ (h : H). h.view.actors) c.lift.ensures.seat ∙ (ap (λ (h : H). h.view.actors) c.take-2.ensures.took.3 ∙ ap (λ (h : H). h.view.actors) c.take.ensures.took.3) in
    let had = ap (λ (l : List (ℕ × ℕ)). value_of l c.args.number) actors ∙ c.requires.actor in (
      ap (λ (h : H). h.view.actors) c.release.ensures.seat ∙ (ap (λ (h : H). h.view.actors) c.commit.ensures.seat ∙ (replace_same c.lift.new.seat.view.actors c.args.number 0 had ∙ actors)),
      ap (λ (h : H). h.view.actor_count) c.release.ensures.seat ∙ (ap (λ (h : H). h.view.actor_count) c.commit.ensures.seat ∙ (ap (λ (h : H). h.view.actor_count) c.lift.ensures.seat
          ∙ (ap (λ (h : H). h.view.actor_count) c.take-2.ensures.took.3 ∙ ap (λ (h : H). h.view.actor_count) c.take.ensures.took.3))),
    )
