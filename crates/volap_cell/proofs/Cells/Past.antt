-- A cell that stands anywhere among those that a step holds: those before it have other tags, and so are other cells.
use Rattle.std.proofs.{Common.{◌≡◌, ◌≢◌, ℕ, List, [], ◌∷◌, ◌++◌, sym, ap, ◌∙◌}, lemmas.Bool.ne_eqb}
use Rattle.cell_stock.specs.Stock.{StockValue}
use Rattle.row_ledger.specs.LedgerValue.{LedgerValue}
use Rattle.list_words.specs.Counts.{Each}
use Rattle.list_words.proofs.Each.{each-right}
use Rattle.volap_cell.specs.{Cells.{CellValue, LedgerCell, StockCell, tag_of, ledger_in, stock_in}, Setting.{Setting, ledger_cell, stock_cell}, World.{Change, put}}
use Rattle.volap_cell.proofs.{Cells.Numbers.{at-ledger, at-stock}, Views.Fields.IsNew, Views.Frames.{AreAt, first}, Views.Shown.AreTagged}

-- these have other tags than the cell
abbrev pub HaveOthers : Change → List Change → Type 0
HaveOthers c before = Each (λ d. tag_of d.before ≢ tag_of c.before) before

at-past : (cells : ℕ → CellValue) (before : List Change) (c : Change) (rest : List Change) → AreAt cells (before ++ c ∷ rest) → cells c.number ≡ c.before
at-past cells before c rest at = (each-right (λ (d : Change). cells d.number ≡ d.before) before (c ∷ rest) at).0

pub put-past : (cells : ℕ → CellValue) (before : List Change) (c : Change) (rest : List Change) → AreAt cells (before ++ c ∷ rest) → HaveOthers c before → put (before ++ c ∷ rest) cells c.number ≡ c.now
put-past cells [] c rest at others = first c rest cells
put-past cells (d ∷ before) c rest at others =
    let here = at-past cells before c rest at.1 in
    let ne : c.number ≢ d.number = (λ e. others.0 (ap tag_of (sym at.0) ∙ ap (λ (y : ℕ). tag_of (cells y)) (sym e) ∙ ap tag_of here)) in
    rw (ne_eqb c.number d.number ne) (put-past cells before c rest at.1 others.1)

-- what one thing was and is, in the cell with its number
one-past : {A : Type 0} (f : CellValue → A) (cells : ℕ → CellValue) (before : List Change) (c : Change) (rest : List Change) → AreAt cells (before ++ c ∷ rest) → HaveOthers c before → (y : ℕ) → c.number ≡ y → (old new : A) → f c.before ≡ old → f c.now ≡ new
    → IsNew (f (put (before ++ c ∷ rest) cells y)) (f (cells y)) old new
one-past f cells before c rest at others y is old new was now = record {
  was_that = ap (λ (x : ℕ). f (cells x)) (sym is) ∙ ap f (at-past cells before c rest at) ∙ was;
  is_that = ap (λ (x : ℕ). f (put (before ++ c ∷ rest) cells x)) (sym is) ∙ ap f (put-past cells before c rest at others) ∙ now;
}

pub ledger-past : (s : Setting) (cells : ℕ → CellValue) → AreTagged s cells → (before : List Change) (c : Change) (rest : List Change) → AreAt cells (before ++ c ∷ rest) → HaveOthers c before → (old new : LedgerValue) → c.before ≡ LedgerCell old → c.now ≡ LedgerCell new
    → IsNew (ledger_in (put (before ++ c ∷ rest) cells ledger_cell)) (ledger_in (cells ledger_cell)) old new
ledger-past s cells tagged before c rest at others old new was is =
    one-past ledger_in cells before c rest at others ledger_cell (at-ledger s cells tagged c.number old (at-past cells before c rest at ∙ was)) old new (ap ledger_in was) (ap ledger_in is)

pub stock-past : (s : Setting) (cells : ℕ → CellValue) → AreTagged s cells → (before : List Change) (c : Change) (rest : List Change) → AreAt cells (before ++ c ∷ rest) → HaveOthers c before → (old new : StockValue) → c.before ≡ StockCell old → c.now ≡ StockCell new
    → IsNew (stock_in (put (before ++ c ∷ rest) cells stock_cell)) (stock_in (cells stock_cell)) old new
stock-past s cells tagged before c rest at others old new was is =
    one-past stock_in cells before c rest at others stock_cell (at-stock s cells tagged c.number old (at-past cells before c rest at ∙ was)) old new (ap stock_in was) (ap stock_in is)
