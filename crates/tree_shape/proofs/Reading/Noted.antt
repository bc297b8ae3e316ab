-- What is noted is in the tree and is reached; and no gate is noted where none is reached.
use Rattle.std.proofs.Common.{◌≡◌, ◌≢◌, ℕ, ◌≤◌, true, leb, List, [], ◌∷◌, refl, sym, ap, ◌∙◌, arith}
use Rattle.list_words.specs.Counts.{Each, times}
use Rattle.list_words.proofs.{Times.same_is, Truth.on_bool}
use Rattle.tree_shape.specs.{Queries.items_of, Shape.{Table, TreeCells, Node, nodes, Shape, ShapeOk}, Trees.IsTree, Walks.{Noted, IsNoted, AreNoted, reach, pending}}
use Rattle.tree_shape.proofs.Reading.Queries.{reach-low}

-- a noted block is in the tree, on its level
pub noted-cell : (g : Shape) (look : ℕ → Node) (p : Noted) → IsNoted g look p → (g.inside p.cell ≡ true) × (g.level p.cell ≡ p.level)
noted-cell g look p d =
    let e : times p.cell p.walk ≡ times p.cell (p.cell ∷ d.walks.0) = ap (times p.cell) d.walks.1 in
    let o = same_is p.cell p.cell refl in
    d.cells p.cell (omega arith)

-- a block of the walk is reached as often as it is on it
pub reach-walk : (g : Shape) (look : ℕ → Node) (p : Noted) (y : ℕ) → ShapeOk g → IsNoted g look p → 1 ≤ times y p.walk → reach g p y ≡ times y p.walk
reach-walk g look p y ok d on =
    let (inside, level) = d.cells y on in
    let up : g.above y p.level ≡ y = ap (g.above y) (sym level) ∙ ok.itself y inside in
    let low : g.level y ≤ p.level = omega (arith, level) in
    reach-low g p y low ∙ ap (λ (x : ℕ). times x p.walk) up

-- and reached from itself
pub reach-itself : (g : Shape) (look : ℕ → Node) (p : Noted) → ShapeOk g → IsNoted g look p → 1 ≤ reach g p p.cell
reach-itself g look p ok d =
    let e : times p.cell p.walk ≡ times p.cell (p.cell ∷ d.walks.0) = ap (times p.cell) d.walks.1 in
    let o = same_is p.cell p.cell refl in
    let on : 1 ≤ times p.cell p.walk = omega arith in
    let r = reach-walk g look p p.cell ok d on in omega arith

-- No gate is noted where none is reached.

pub none-above : (table : Table) (cells : TreeCells) (g : Shape) (ps : List Noted) → IsTree table cells g → AreNoted g (nodes cells) ps → Each (λ i. i.cell ≢ cells.gate_cell) (items_of ps) → pending g ps cells.gate_cell ≡ 0
none-above table cells g [] t d e = refl
none-above table cells g (p ∷ ps) t d e =
    let ih = none-above table cells g ps t d.1 e.1 in
    let (inside, level) = noted-cell g (nodes cells) p d.0 in
    let low = d.0.low in
    let h = t.height in
    let lv = t.level in
    on_bool (leb (g.level cells.gate_cell) p.level)
    (λ q. let le : g.level cells.gate_cell ≤ p.level = grind arith in
    let top : g.level p.cell ≡ cells.gate.height = omega arith in absurd (e.0 (t.only p.cell inside top)))
    (λ q. let r : reach g p cells.gate_cell ≡ 0 = rw q refl in omega arith)

pub none-noted : (g : Shape) (look : ℕ → Node) (gate : ℕ) (ps : List Noted) → ShapeOk g → AreNoted g look ps → pending g ps gate ≡ 0 → Each (λ i. i.cell ≢ gate) (items_of ps)
none-noted g look gate [] ok d e = tt
none-noted g look gate (p ∷ ps) ok d e = (
  (λ is. let r = reach-itself g look p ok d.0 in let s : reach g p p.cell ≡ reach g p gate = ap (reach g p) is in absurd (omega arith)),
  none-noted g look gate ps ok d.1 (omega arith),
)
