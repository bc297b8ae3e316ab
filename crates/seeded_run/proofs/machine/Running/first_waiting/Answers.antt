use Rattle.std.proofs.Common.{◌≡◌, ◌<◌, ◌≤◌, arith, inl, inr, subst, sym}
use Rattle.std.specs.Prelude.{Some, slice_get}
use Rattle.seeded_run.proofs.{Cursors.Firstly.{below-or-at, next-read}, Cursors.Held.some-within}
use Rattle.seeded_run.proofs.machine.Running.first_waiting.Goals as goal

pub loop-place-preserved : goal.loop-place-preserved
loop-place-preserved c = λ i d at low.
    let m = c.args.self.now in
    elim (below-or-at i c.loop-place.place low) [
      | inl before ↦ c.loop-place.invariant i d at before
      | inr here ↦
          let there = subst (λ k. slice_get m.phase.now k ≡ Some d) here at in
          let read = next-read m c.requires.kept c.loop-place.place d c.index-self-place.result c.session_of-session.result c.from.result c.index.result.now there c.session_of-session.ensures.value c.from.ensures c.index.ensures in
          subst (λ k. i < k) read (subst (λ k. k < c.index.result.now) (sym here) c.if-index-place.false)
    ]

pub returns-then-index-place-clause-waits : goal.returns-then-index-place-clause-waits
returns-then-index-place-clause-waits c = λ d at.
    let m = c.args.self.now in
    let read = next-read m c.requires.kept c.loop-place.place d c.index-self-place.result c.session_of-session.result c.from.result c.index.result.now at c.session_of-session.ensures.value c.from.ensures c.index.ensures in
    subst (λ k. k ≤ c.loop-place.place) read c.if-index-place.true

pub returns-clause-begun : goal.returns-clause-begun
returns-clause-begun c = λ i d at low. c.loop-place.invariant i d at (omega (arith, low, c.loop-place-test.false))

pub returns-clause-waits : goal.returns-clause-waits
returns-clause-waits c = λ d at. absurd (omega (arith, some-within c.args.self.now.phase.now _ d at))
