-- The cells that the kinds fill are blank: new blocks take spares of the purse, and so do new gates; a built block has one that
-- its job has spent.
use Rattle.std.proofs.Common.{◌≡◌, ℕ, List, [], ◌∷◌, ◌++◌, Some, inl, inr, refl, sym, ap, ◌∙◌, subst}
use Rattle.dim_hierarchy.specs.{Dimension.Dimension, declared.row.Row.Row}
use Rattle.dc_node.specs.declared.block.Block.{Block}
use Rattle.cell_stock.specs.{Stock.{PurseValue, cells_of}, declared.purse.Spare.Spare}
use Rattle.shard_build.specs.link_descent.specs.{Descend.{Enters, IsTakenFrom}, declared.entered.Entered.Entered, declared.entered.Fresh.Fresh}
use Rattle.shard_build.specs.shard_store.specs.declared.gate.Gate.{Gate}
use Rattle.list_words.specs.Counts.{Each, Among}
use Rattle.list_words.proofs.Each.{among-left, among-right, each-left, each-right}
use Rattle.volap_cell.specs.{AdminKinds.{DoesBuildBlock, DoesFinishSplit, DoesFinishMove, spent_by, spent_in}, Ghost.Ghost, Invariant.InvWith, Setting.Setting, Stocking.spent_of, TreeKinds.{DoesEnterTree, blocks_of}, Values.ActorValue, View.view, World.{World, Change, Agrees}}
use Rattle.volap_cell.proofs.{Cells.Blanks.{filled-blank, spare-blank, spent-blank}, Views.Frames.AreAt, Views.Touches.IsBlank}

-- a spare that stands in a purse has its cell among the purse's cells
pub among-cells : (x : Spare) (xs : List Spare) → Among x xs → Among x.cell (cells_of xs)
among-cells x [] m = absurd m
among-cells x (y ∷ xs) m = elim m [ inl is ↦ inl (ap (λ (z : Spare). z.cell) is) | inr more ↦ inr (among-cells x xs more) ]

-- the spare that was taken was in the purse, and so was what is left
taken-among : (before now : PurseValue) (spare : Spare) → IsTakenFrom before spare now → Among spare.cell (cells_of before.spares)
taken-among before now spare t = among-cells spare before.spares (subst (Among spare) (sym t) (among-right now.spares (spare ∷ []) spare (inl refl)))

left-among : (before now : PurseValue) (spare : Spare) (x : Spare) → IsTakenFrom before spare now → Among x now.spares → Among x.cell (cells_of before.spares)
left-among before now spare x t m = among-cells x before.spares (subst (Among x) (sym t) (among-left now.spares (spare ∷ []) x m))

-- New blocks' cells are of the purse.

abbrev AreOf : List Spare → List Fresh → Type 0
AreOf purse fresh = Each (λ f. Among f.cell (cells_of purse)) fresh

pub enter-of : (h : List Dimension) (row : Row) (tail : List Block) (gate gate_now : Gate) (root root_now : Block) (purse purse_now : PurseValue) (entered : Entered) → Enters h row tail gate gate_now root root_now purse purse_now entered
    → Each (λ f. Among f.cell (cells_of purse.spares)) entered.fresh.items
enter-of h row tail gate gate_now root root_now purse purse_now entered d = elim d.step [
  | inl passed ↦ (let (e, keeps, passes) = passed in subst (AreOf purse.spares) (sym passes.fresh) tt)
  | inr more ↦ elim more [
    | inl halved ↦ (let (e, keeps, halves) = halved in subst (AreOf purse.spares) (sym halves.fresh) (taken-among purse purse_now halves.spare halves.purse_is, tt))
    | inr cut ↦ (let top : Among cut.top cut.between.spares = subst (Among cut.top) (sym cut.purse_is) (among-right purse_now.spares (cut.top ∷ []) cut.top (inl refl)) in
        subst (AreOf purse.spares) (sym cut.fresh) (taken-among purse cut.between cut.spare cut.cuts.purse_is, (left-among purse cut.between cut.spare cut.top cut.cuts.purse_is top, tt)))
  ]
]

-- The cells before.

pub enter-blank : (s : Setting) (w : World) (k : Ghost) → InvWith s (view s w) k → (n : ℕ) (h : List Dimension) (m g root : Change) (others : List Change) (a b : ActorValue) → Agrees w (m ∷ g ∷ root ∷ others) n a → (d : DoesEnterTree h m g root others a b)
    → Each (λ x. IsBlank x.before) d.fresh
enter-blank s w k inv n h m g root others a b agrees d =
    let at : AreAt w.cells d.fresh = each-right (λ (x : Change). w.cells x.number ≡ x.before) d.tail d.fresh
    (each-left (λ (x : Change). w.cells x.number ≡ x.before) (d.tail ++ d.fresh) d.unfilled (subst (AreAt w.cells) d.others_are agrees.cells.1.1.1)) in
    let purse : d.purse.spares ≡ (w.actors n).purse = d.purse_was ∙ ap (λ (x : ActorValue). x.purse) (sym agrees.actor_is) in
    let of = enter-of h d.r.row (blocks_of d.tail) d.gate d.entered_gate d.head d.head_now d.purse d.purse_now d.entered d.enters in
    filled-blank s w k inv n d.entered.fresh.items d.fresh at d.are_filled (subst (λ (xs : List Spare). AreOf xs d.entered.fresh.items) purse of)

-- a cell of a spare of the actor's
spare-at : (s : Setting) (w : World) (g : Ghost) → InvWith s (view s w) g → (n : ℕ) (a : ActorValue) (c : Change) (x : Spare) → w.cells c.number ≡ c.before → w.actors n ≡ a → c.number ≡ x.cell → Among x a.purse → IsBlank c.before
spare-at s w g inv n a c x at is number among =
    let mine : Among x (w.actors n).purse = subst (λ (z : ActorValue). Among x z.purse) (sym is) among in
    subst IsBlank (ap w.cells (sym number) ∙ at) (spare-blank s w g inv n x.cell (among-cells x (w.actors n).purse mine))

pub split-blank : (s : Setting) (w : World) (g : Ghost) → InvWith s (view s w) g → (n : ℕ) (h : List Dimension) (m x l r reg c led : Change) (a b : ActorValue) → Agrees w (m ∷ x ∷ l ∷ r ∷ reg ∷ c ∷ led ∷ []) n a → DoesFinishSplit h m x l r reg c led a b
    → IsBlank l.before × IsBlank r.before
split-blank s w g inv n h m x l r reg c led a b agrees d =
    let right = subst (Among d.right_spare) (sym d.spares) (among-right d.rest (d.right_spare ∷ d.left_spare ∷ []) d.right_spare (inl refl)) in
    let left = subst (Among d.left_spare) (sym d.spares) (among-right d.rest (d.right_spare ∷ d.left_spare ∷ []) d.left_spare (inr (inl refl))) in
    (spare-at s w g inv n a l d.left_spare agrees.cells.1.1.0 agrees.actor_is d.left_cell left, spare-at s w g inv n a r d.right_spare agrees.cells.1.1.1.0 agrees.actor_is d.right_cell right)

pub move-blank : (s : Setting) (w : World) (k : Ghost) → InvWith s (view s w) k → (n : ℕ) (h : List Dimension) (maps : List Change) (x g reg c led : Change) (a b : ActorValue) → Agrees w (maps ++ x ∷ g ∷ reg ∷ c ∷ led ∷ []) n a → DoesFinishMove h maps x g reg c led a b
    → IsBlank g.before
move-blank s w k inv n h maps x g reg c led a b agrees d =
    let at = each-right (λ (z : Change). w.cells z.number ≡ z.before) maps (x ∷ g ∷ reg ∷ c ∷ led ∷ []) agrees.cells in
    let mine = subst (Among d.spare) (sym d.spares) (among-right d.rest (d.spare ∷ []) d.spare (inl refl)) in
    spare-at s w k inv n a g d.spare at.1.0 agrees.actor_is d.cell mine

-- a block that isn't in its cell yet has a spare that its job has spent
among-spent : (f : Fresh) (fs : List Fresh) → Among f fs → Among (record { cell = f.cell; stamp = f.block.stamp }) (spent_by fs)
among-spent f [] m = absurd m
among-spent f (x ∷ fs) m = elim m [ inl is ↦ inl (ap (λ (z : Fresh). record { cell = z.cell; stamp = z.block.stamp }) is) | inr more ↦ inr (among-spent f fs more) ]

pub build-blank : (s : Setting) (w : World) (g : Ghost) → InvWith s (view s w) g → (n : ℕ) (c : Change) (a b : ActorValue) → Agrees w (c ∷ []) n a → DoesBuildBlock c a b → IsBlank c.before
build-blank s w g inv n c a b agrees d =
    let job : (w.actors n).job ≡ Some d.job = ap (λ (x : ActorValue). x.job) agrees.actor_is ∙ d.has.is_job in
    let building = inv.working.building n d.job d.building job d.has.stage_is in
    let next : Among d.next d.building.unbuilt = subst (Among d.next) (sym d.unbuilt) (among-right d.others (d.next ∷ []) d.next (inl refl)) in
    let all = among-spent d.next (d.building.unbuilt ++ building.built) (among-left d.building.unbuilt building.built d.next next) in
    let spare : Spare = record { cell = d.next.cell; stamp = d.next.block.stamp } in
    let spent : spent_of (w.actors n).job ≡ d.building.spent = ap spent_of job ∙ ap spent_in d.has.stage_is in
    let mine : Among spare (spent_of (w.actors n).job) = subst (Among spare) (sym (spent ∙ building.trees_are.spent)) all in
    subst IsBlank (ap w.cells d.here ∙ agrees.cells.0) (spent-blank s w g inv n d.next.cell (among-cells spare (spent_of (w.actors n).job) mine))
