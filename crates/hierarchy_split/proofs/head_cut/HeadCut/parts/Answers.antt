use Rattle.std.proofs.Common.{ℕ, List, ◌∙◌, refl, sym, ap, arith}
use Rattle.arrayvec.specs.ArrayVec.{ArrayVec as Items}
use Rattle.hierarchy_split.proofs.{Partings.{Parting-keeps, Parting-parts, Parting-all}, head_cut.HeadCut.parts.Goals.{then-keeps, else-keeps}}
use Rattle.hierarchy_split.proofs.head_cut.HeadCut.parts.Goals as goal

pub loop-place-init : goal.loop-place-init
loop-place-init c = rw (c.new-kept.ensures, c.new-parted.ensures) (record { kept_is = refl; parted_is = refl; all = refl })

pub loop-place-preserved : goal.loop-place-preserved
loop-place-preserved c =
    let h = c.args.h.now in
    let head = c.args.head.now in
    let kept = c.loop-place.kept.items in
    let parted = c.loop-place.parted.items in
    let items : Items ℕ → List ℕ = λ a. a.items in
    elim c.if-keeps.branch [
      | then-keeps w ↦ rw (ap items w.kept-is ∙ w.push.ensures.items, ap items w.parted-is)
          (Parting-keeps h head c.args.self.now c.loop-place.place kept parted c.index-head-place.result c.loop-place.invariant c.loop-place-test.true c.index-head-place.is (sym c.keeps.ensures ∙ w.if-keeps.true))
      | else-keeps w ↦ rw (ap items w.kept-is, ap items w.parted-is ∙ w.push-else-keeps.ensures.items)
          (Parting-parts h head c.args.self.now c.loop-place.place kept parted c.index-head-place.result c.loop-place.invariant c.loop-place-test.true c.index-head-place.is (sym c.keeps.ensures ∙ w.if-keeps.false))
    ]

pub returns : goal.returns
returns c =
    let all = Parting-all c.args.h.now c.args.head.now c.args.self.now c.loop-place.place c.loop-place.kept.items c.loop-place.parted.items (omega (arith, c.loop-place.auto.place-end, c.loop-place-test.false)) c.loop-place.invariant in
    record { kept = all.kept_is; parted = all.parted_is; order = all.order }
