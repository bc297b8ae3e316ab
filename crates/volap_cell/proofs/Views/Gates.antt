-- A gate's fields after the steps that change it: new at its cell and as before at every other.
use Rattle.std.proofs.Common.{◌≡◌, ◌≢◌, ℕ, List, [], ◌∷◌, inl, inr, refl, sym, ap, ◌∙◌}
use Rattle.shard_build.specs.shard_store.specs.declared.gate.Gate.{Gate}
use Rattle.volap_cell.specs.{Cells.{CellValue, MapOf, OfStock, GateCell, tag_of}, TreeKinds.TurnsGate, World.{Change, put}}
use Rattle.volap_cell.proofs.{Views.Fields.{IsNewAt, OnlyAt}, Views.Frames.{AreAt, Same, kept-but, first, second, differ}}

-- the others stay in f
only-rest : {A : Type 0} (f : CellValue → A) (y : ℕ) (cs : List Change) → Same f cs → OnlyAt f y cs
only-rest f y [] same = tt
only-rest f y (c ∷ cs) same = (inr same.0, only-rest f y cs same.1)

-- the first cell that is held changes, and the others stay in f
pub first-new : {A : Type 0} (f : CellValue → A) (cells : ℕ → CellValue) (c : Change) (cs : List Change) → AreAt cells (c ∷ cs) → (old new : A) → f c.before ≡ old → f c.now ≡ new → Same f cs
    → IsNewAt (λ y. f (put (c ∷ cs) cells y)) (λ y. f (cells y)) c.number old new
first-new f cells c cs at old new was is same = record {
  was_there = ap f at.0 ∙ was;
  is_there = ap f (first c cs cells) ∙ is;
  elsewhere = kept-but f c.number (c ∷ cs) cells at (inl refl, only-rest f c.number cs same);
}

-- the second one does, which is another cell than the first
pub second-new : {A : Type 0} (f : CellValue → A) (cells : ℕ → CellValue) (m c : Change) (cs : List Change) → AreAt cells (m ∷ c ∷ cs) → tag_of c.before ≢ tag_of m.before → f m.now ≡ f m.before → (old new : A) → f c.before ≡ old → f c.now ≡ new → Same f cs
    → IsNewAt (λ y. f (put (m ∷ c ∷ cs) cells y)) (λ y. f (cells y)) c.number old new
second-new f cells m c cs at off stays old new was is same = record {
  was_there = ap f at.1.0 ∙ was;
  is_there = ap f (second m c cs cells (differ tag_of cells c m at.1.0 at.0 off)) ∙ is;
  elsewhere = kept-but f c.number (m ∷ c ∷ cs) cells at (inr stays, (inl refl, only-rest f c.number cs same));
}

-- a gate, held first or behind a worker's table; f may be any of its fields

pub gate-first : {A : Type 0} (f : CellValue → A) (cells : ℕ → CellValue) (g : Change) (cs : List Change) → AreAt cells (g ∷ cs) → {old new : Gate} → TurnsGate old new g → Same f cs
    → IsNewAt (λ y. f (put (g ∷ cs) cells y)) (λ y. f (cells y)) g.number (f (GateCell old)) (f (GateCell new))
gate-first f cells g cs at turns same = first-new f cells g cs at _ _ (ap f turns.was) (ap f turns.is) same

pub gate-behind : {A : Type 0} (f : CellValue → A) (cells : ℕ → CellValue) (m g : Change) (cs : List Change) → AreAt cells (m ∷ g ∷ cs) → (worker : ℕ) → tag_of m.before ≡ MapOf worker → m.now ≡ m.before → {old new : Gate} → TurnsGate old new g → Same f cs
    → IsNewAt (λ y. f (put (m ∷ g ∷ cs) cells y)) (λ y. f (cells y)) g.number (f (GateCell old)) (f (GateCell new))
gate-behind f cells m g cs at worker tag read turns same =
    second-new f cells m g cs at (λ e. let no : OfStock ≡ MapOf worker = ap tag_of (sym turns.was) ∙ e ∙ tag in cc) (ap f read) _ _ (ap f turns.was) (ap f turns.is) same
