-- Which cells are blank: those of an actor's spares, and those that its job has spent on blocks.
use Rattle.std.proofs.Common.{◌≡◌, ◌≢◌, ℕ, ◌≤◌, cond, List, [], ◌∷◌, Option, Some, None, IsSome, refl, sym, ap, ◌∙◌, subst, arith}
use Rattle.cell_stock.specs.Stock.{cells_of}
use Rattle.shard_build.specs.link_descent.specs.declared.entered.Fresh.{Fresh}
use Rattle.list_words.specs.Counts.{Each, Among}
use Rattle.list_words.proofs.Times.{among-times}
use Rattle.volap_cell.specs.{Cells.gate_shard, Ghost.{Ghost, Owner, NotOfStock, Unused, InPurse, AGate, InTree, InJob, is_in_purse, is_in_job}, Invariant.InvWith, Setting.Setting, Stocking.spent_of, TreeKinds.AreFilled, View.view, World.{World, Change}}
use Rattle.volap_cell.proofs.{Cells.Numbers.tag-rest, Views.Frames.AreAt, Views.Touches.IsBlank}

none-of : {A : Type 0} (x : Option A) → ¬ IsSome x → x ≡ None
none-of None never = refl
none-of (Some a) never = absurd (never refl)

-- a cell of the stock that isn't a gate's is blank
pub owned-blank : (s : Setting) (w : World) (g : Ghost) → InvWith s (view s w) g → (y : ℕ) → g.owner y ≢ NotOfStock → g.owner y ≢ AGate → IsBlank (w.cells y)
owned-blank s w g inv y of_stock no_gate =
    let (above, below) = inv.stocking.within y of_stock in
    record {
      tag = inv.numbering.tag y ∙ tag-rest s y above;
      no_gate = none-of (gate_shard (w.cells y)) (λ some. no_gate (inv.stocking.gate y some));
    }

-- who owns a cell of a purse or of a job

in-purse : (a : ℕ) (o : Owner) → 1 ≤ cond (is_in_purse a o) 1 0 → o ≡ InPurse a
in-purse a (InPurse b) le = ap InPurse (grind arith)
in-purse a NotOfStock le = absurd (omega arith)
in-purse a Unused le = absurd (omega arith)
in-purse a AGate le = absurd (omega arith)
in-purse a (InTree c) le = absurd (omega arith)
in-purse a (InJob c) le = absurd (omega arith)

in-job : (a : ℕ) (o : Owner) → 1 ≤ cond (is_in_job a o) 1 0 → o ≡ InJob a
in-job a (InJob b) le = ap InJob (grind arith)
in-job a NotOfStock le = absurd (omega arith)
in-job a Unused le = absurd (omega arith)
in-job a AGate le = absurd (omega arith)
in-job a (InTree c) le = absurd (omega arith)
in-job a (InPurse c) le = absurd (omega arith)

pub spare-owner : (s : Setting) (w : World) (g : Ghost) → InvWith s (view s w) g → (a y : ℕ) → Among y (cells_of (w.actors a).purse) → g.owner y ≡ InPurse a
spare-owner s w g inv a y among =
    let some = among-times y (cells_of (w.actors a).purse) among in
    let is = inv.stocking.purse a y in
    in-purse a (g.owner y) (omega arith)

pub spent-owner : (s : Setting) (w : World) (g : Ghost) → InvWith s (view s w) g → (a y : ℕ) → Among y (cells_of (spent_of (w.actors a).job)) → g.owner y ≡ InJob a
spent-owner s w g inv a y among =
    let some = among-times y (cells_of (spent_of (w.actors a).job)) among in
    let is = inv.stocking.job a y in
    in-job a (g.owner y) (omega arith)

-- a spare's cell is blank, and one that a job has spent

pub spare-blank : (s : Setting) (w : World) (g : Ghost) → InvWith s (view s w) g → (a y : ℕ) → Among y (cells_of (w.actors a).purse) → IsBlank (w.cells y)
spare-blank s w g inv a y among =
    let owner = spare-owner s w g inv a y among in
    owned-blank s w g inv y (λ e. let no : InPurse a ≡ NotOfStock = sym owner ∙ e in cc) (λ e. let no : InPurse a ≡ AGate = sym owner ∙ e in cc)

pub spent-blank : (s : Setting) (w : World) (g : Ghost) → InvWith s (view s w) g → (a y : ℕ) → Among y (cells_of (spent_of (w.actors a).job)) → IsBlank (w.cells y)
spent-blank s w g inv a y among =
    let owner = spent-owner s w g inv a y among in
    owned-blank s w g inv y (λ e. let no : InJob a ≡ NotOfStock = sym owner ∙ e in cc) (λ e. let no : InJob a ≡ AGate = sym owner ∙ e in cc)

-- the cells that new blocks fill are blank, where each is a spare's
pub filled-blank : (s : Setting) (w : World) (g : Ghost) → InvWith s (view s w) g → (a : ℕ) (fresh : List Fresh) (cs : List Change) → AreAt w.cells cs → AreFilled fresh cs → Each (λ f. Among f.cell (cells_of (w.actors a).purse)) fresh → Each (λ c. IsBlank c.before) cs
filled-blank s w g inv a [] [] at filled among = tt
filled-blank s w g inv a [] (c ∷ cs) at filled among = absurd filled
filled-blank s w g inv a (f ∷ fresh) [] at filled among = absurd filled
filled-blank s w g inv a (f ∷ fresh) (c ∷ cs) at filled among =
    let blank = spare-blank s w g inv a f.cell among.0 in
    (subst IsBlank (ap w.cells (sym filled.0) ∙ at.0) blank, filled-blank s w g inv a fresh cs at.1 filled.2 among.1)
