use Rattle.std.proofs.{Common.{ℕ, ◌≡◌, ◌<◌, length, get_or, map, refl, sym, arith, ◌∙◌}, lemmas.Bool.{false≢true}, lemmas.List.length-map}
use Rattle.dc_node.specs.declared.entry.Entry.{Entry}
use Rattle.link_descent.proofs.{Picks.{IsPick-from_best, set_at}, Ranks.{first-ranked, takes-ranked, keeps-ranked, keeps-beyond}, choice.place_of.Goals.{in-Some+then-comes_before, in-Some+else-comes_before, in_default}}
use Rattle.link_descent.proofs.choice.place_of.Goals as goal

pub loop-place-init : goal.loop-place-init
loop-place-init c =
    let entries = c.args.entries.now in
    let first = get_or entries 0 c.index-entries-0.result in
    first-ranked c.args.h.now c.args.at.now.coord (map (λ e. e.set) entries) first.set c.growth-least.result (set_at entries 0 0 c.index-entries-0.result refl c.requires.some) c.growth-least.ensures

pub loop-place-preserved : goal.loop-place-preserved
loop-place-preserved c =
    let h = c.args.h.now in
    let at = c.args.at.now.coord in
    let entries = c.args.entries.now in
    let sets = map (λ e. e.set) entries in
    let n = c.loop-place.place in
    let was = c.loop-place.invariant in
    let best = c.loop-place.best in
    let least = c.loop-place.least in
    let next = get_or entries c.from.result c.index-entries-from.result in
    let there = set_at entries c.from.result n c.index-entries-from.result c.from.ensures (let f = c.from.ensures in omega arith) in
    let within : best < length entries = (let w = was.best.within in omega arith) in
    let here = λ (k : ℕ) (d : Entry) (is : k ≡ best). set_at entries k best d is (omega (arith, is, within)) in
    elim c.match-growth_within.branch [
      | in-Some+then-comes_before w ↦ rw (w.best-is, w.least-is) (takes-ranked h at sets n best least was _ next.set (here w.from-in-Some.result w.index-entries-from-in-Some.result w.from-in-Some.ensures) there w.in-Some.growth w.in-Some.ensures.some (w.comes_before.ensures.0 w.if-comes_before.true))
      | in-Some+else-comes_before w ↦ rw (w.best-is, w.least-is) (keeps-ranked h at sets n best least was _ next.set (here w.from-in-Some.result w.index-entries-from-in-Some.result w.from-in-Some.ensures) there w.in-Some.growth w.in-Some.ensures.some (λ b. false≢true (sym w.if-comes_before.false ∙ w.comes_before.ensures.1 b)))
      | in_default w ↦ rw (w.best-is, w.least-is) (keeps-beyond h at sets n best least was _ next.set (here best c.index-entries-from.result refl) there w.in_default.ensures.none)
    ]

pub returns : goal.returns
returns c =
    let entries = c.args.entries.now in
    let sets = map (λ e. e.set) entries in
    let m = length-map entries (λ e. e.set) in
    IsPick-from_best c.args.h.now c.args.at.now.coord sets c.loop-place.place c.loop-place.best (omega arith) c.loop-place.invariant.best
