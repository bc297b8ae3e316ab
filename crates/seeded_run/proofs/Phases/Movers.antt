-- Where something is due for somebody, somebody can do what is due for it.
use Rattle.std.proofs.{Common.{◌≡◌, ◌≢◌, ◌∙◌, ℕ, zero, suc, ◌<◌, ◌≤◌, ◌⊎◌, inl, inr, Bool, true, false, List, [], ◌∷◌, Option, Some, None, refl, sym, ap, subst, arith, not}, lemmas.Bool.{eq-eqb, eqb-true}}
use Rattle.std.specs.{Option.option_map_or, Prelude.{◌==◌, ◌&&◌, ◌||◌, is_some, option_map, option_and_then, slice_get, if◌then◌else◌}}
use Rattle.dc_node.specs.{Block.{entries_in, is_leaf}, declared.entry.Entry.Entry}
use Rattle.core_pages.specs.tree_shape.proofs.{Down.Deepest.some-law, Whole.Totals.leads-down}
use Rattle.core_pages.specs.tree_shape.specs.{Carrying.{AreCarriers, Carriers, IsIdleIf, WantsChild}, Steps.IsIdle, Trees.IsTree}
use Rattle.list_words.specs.Counts.{Among}
use Rattle.script_form.specs.declared.script.Command.{Command}
use Rattle.core_pages.specs.volap_cell.proofs.{Cells.Holding.carries, Persons.has-taken, Sums.sum-zero}
use Rattle.core_pages.specs.volap_cell.specs.{Cells.{CellValue, FreeCell, LedgerCell, StockCell, RegistryCell, ImageCell, DeskCell, MapCell, GateCell, BlockCell, active_in, block_in, gate_shard, phase_of}, Errands.{AtBlock, AtRest, InLeaf, IsCarried, Outside, RowPlace, RowWay, block_at, place_of, row_way, taken_by, taken_of, way_in_task, way_of}, Ghost.{Ghost, InTree}, Growing.table_of, Invariant.InvWith, Setting.{Setting, actor_count}, Stocking.{IsWhole, cells_at}, Turning.{inside_of, is_inside}, Values.{ActorValue, ErrandValue, TaskValue, OfRow, Unread, Read, JobValue}, View.view, World.World, declared.errand.RowErrand.RowErrand, declared.errand.Way.Way, declared.kind.Kind.Kind}
use Rattle.core_pages.specs.volap_cell.specs.declared.errand.Way.TheVariants as way
use Rattle.core_pages.specs.volap_cell.specs.declared.kind.Kind.TheVariants as kind
use Rattle.core_due.specs.{Due.{all_below, carry_kind, led_to, row_kind, task_kind}, Wants.{child_of, child_wanted, gate_awaited, is_block_free, is_carried_at, is_drained, meets, wanted, wanted_down, wanted_of}}
use Rattle.seeded_run.specs.{Due.{actor_kind, due_by, is_alone}, Progress.{CanLaw, SomeCan, SomeDue}}

-- Rows on their way.

-- an errand that is seen as a row on its way
pub record HasWay (a : ActorValue) (x : RowWay) : Type 0 where
  pub e : ErrandValue
  pub r : RowErrand
  pub errand : a.errand ≡ Some e
  pub row : e.task ≡ OfRow r
  pub is : row_way e r ≡ x

in-task : (e : ErrandValue) (t : TaskValue) (x : RowWay) → way_in_task e t ≡ Some x → (r : RowErrand) × (t ≡ OfRow r) × (row_way e r ≡ x)
in-task e (OfRow r) x is = (r, refl, cc)
in-task e (Unread f) x is = cc
in-task e (Read r) x is = cc

has-way : (a : ActorValue) (o : Option ErrandValue) (x : RowWay) → a.errand ≡ o → way_of o ≡ Some x → HasWay a x
has-way a None x at is = cc
has-way a (Some e) x at is = let t = in-task e e.task x is in record { e = e; r = t.0; errand = at; row = t.1; is = t.2 }

carried-way : (on : Way) (c y : ℕ) → place_of on ≡ AtBlock c y → on ≡ way.Carried c y
carried-way (way.Before height filled) c y is = cc
carried-way (way.Carried gate block) c y is = cc
carried-way (way.Put gate) c y is = cc
carried-way way.Placed c y is = cc

put-way : (on : Way) (c : ℕ) → place_of on ≡ InLeaf c → on ≡ way.Put c
put-way (way.Before height filled) c is = cc
put-way (way.Carried gate block) c is = cc
put-way (way.Put gate) c is = cc
put-way way.Placed c is = cc

-- the row that is carried in the tree of a gate, if one is
in_place : ℕ → ℕ → RowPlace → Option ℕ
in_place c row (AtBlock gate block) = if gate == c then Some row else None
in_place c row _ = None

carried_in : ℕ → Option RowWay → Option ℕ
carried_in c None = None
carried_in c (Some x) = in_place c x.row.no x.place

place-at : (c row r : ℕ) (p : RowPlace) → in_place c row p ≡ Some r → (y : ℕ) × (p ≡ AtBlock c y) × (row ≡ r)
unfolding in_place
place-at c row r Outside is = cc
place-at c row r (AtBlock gate block) is = by (gate == c) refl is
  where
    by : (b : Bool) → (gate == c) ≡ b → (if b then Some row else None) ≡ Some r → (y : ℕ) × (AtBlock gate block ≡ AtBlock c y) × (row ≡ r)
    by true same e = (block, ap (λ k. AtBlock k block) (eqb-true gate c same), cc)
    by false same e = cc
place-at c row r (InLeaf gate) is = cc
place-at c row r AtRest is = cc

carried-at : (c r : ℕ) (o : Option RowWay) → carried_in c o ≡ Some r → (x : RowWay) × (y : ℕ) × (o ≡ Some x) × (x.place ≡ AtBlock c y) × (x.row.no ≡ r)
unfolding carried_in
carried-at c r None is = cc
carried-at c r (Some x) is = let p = place-at c x.row.no r x.place is in (x, p.0, refl, p.1, p.2)

carried-is : (c y : ℕ) (x : RowWay) (o : Option RowWay) → o ≡ Some x → x.place ≡ AtBlock c y → carried_in c o ≡ Some x.row.no
unfolding carried_in in_place
carried-is c y x o is at = ap (carried_in c) is ∙ ap (in_place c x.row.no) at ∙ ap (λ b. if b then Some x.row.no else None) (eq-eqb c c refl)

-- the actors below a number that carry rows in the tree of a gate
carriers_of : (ℕ → Option RowWay) → ℕ → ℕ → List ℕ
carriers_of ways c zero = []
carriers_of ways c (suc n) = if is_some (carried_in c (ways n)) then n ∷ carriers_of ways c n else carriers_of ways c n

among-is : (ways : ℕ → Option RowWay) (c n a : ℕ) → Among a (carriers_of ways c n) → (a < n) × (is_some (carried_in c (ways a)) ≡ true)
unfolding carriers_of
among-is ways c zero a among = absurd among
among-is ways c (suc n) a among = by (λ m. among-is ways c n a m) (is_some (carried_in c (ways n))) refl among
  where
    by : (Among a (carriers_of ways c n) → (a < n) × (is_some (carried_in c (ways a)) ≡ true)) → (b : Bool) → is_some (carried_in c (ways n)) ≡ b
        → Among a (if b then n ∷ carriers_of ways c n else carriers_of ways c n) → (a < suc n) × (is_some (carried_in c (ways a)) ≡ true)
    by more true is (inl same) = (omega (arith, same), ap (λ k. is_some (carried_in c (ways k))) same ∙ is)
    by more true is (inr among) = let m = more among in (omega (arith, m.0), m.1)
    by more false is among = let m = more among in (omega (arith, m.0), m.1)

below-or-at : (a n : ℕ) → a < suc n → (a < n) ⊎ (a ≡ n)
below-or-at a n h = grind arith

among-from : (ways : ℕ → Option RowWay) (c n a : ℕ) → a < n → is_some (carried_in c (ways a)) ≡ true → Among a (carriers_of ways c n)
unfolding carriers_of
among-from ways c zero a low is = absurd (omega arith)
among-from ways c (suc n) a low is =
    elim (below-or-at a n low) [
      | inl below ↦ later (is_some (carried_in c (ways n))) (among-from ways c n a below is)
      | inr at ↦ subst (λ b. Among a (if b then n ∷ carriers_of ways c n else carriers_of ways c n)) (sym (ap (λ k. is_some (carried_in c (ways k))) (sym at) ∙ is)) (inl at)
    ]
  where
    later : (b : Bool) → Among a (carriers_of ways c n) → Among a (if b then n ∷ carriers_of ways c n else carriers_of ways c n)
    later true m = inr m
    later false m = m

-- Cells of gates.

-- a cell with a gate has its phase
gate-phase : (cell : CellValue) → is_some (gate_shard cell) ≡ true → phase_of cell ≢ None
gate-phase FreeCell is none = cc
gate-phase (LedgerCell l) is none = cc
gate-phase (StockCell x) is none = cc
gate-phase (RegistryCell r) is none = cc
gate-phase (ImageCell n image) is none = cc
gate-phase (DeskCell n desk) is none = cc
gate-phase (MapCell n table) is none = cc
gate-phase (GateCell gate) is none = cc
gate-phase (BlockCell b) is none = cc

-- Tests.

pub all-from : (n : ℕ) (test : ℕ → Bool) → ((a : ℕ) → a < n → test a ≡ true) → all_below n test ≡ true
all-from zero test each = refl
all-from (suc n) test each = both (test n) (all_below n test) (each n (omega arith)) (all-from n test (λ a low. each a (omega arith)))
  where
    both : (a b : Bool) → a ≡ true → b ≡ true → (a && b) ≡ true
    both true b x y = y
    both false b x y = cc

pub clash : {X : Type 0} → (b : Bool) → b ≡ true → b ≡ false → X
clash b x y = cc

-- a block is free where nobody is seen at it
free-from : (s : Setting) (w : World) (n y : ℕ) → ((a : ℕ) → a < actor_count s → is_carried_at y (way_of (w.actors a).errand) ≡ false) → is_block_free s w n y ≡ true
free-from s w n y nobody = all-from (actor_count s) _ (λ a low. or-not (a == n) (is_carried_at y (way_of (w.actors a).errand)) (nobody a low))
  where
    or-not : (a b : Bool) → b ≡ false → (a || not b) ≡ true
    or-not true b e = refl
    or-not false true e = cc
    or-not false false e = refl

-- who is seen at a block carries its row there
seen-at : (y : ℕ) (o : Option RowWay) → is_carried_at y o ≡ true → IsCarried o y
seen-at y None is = cc
seen-at y (Some x) is = at-block (block_at x.place) is
  where
    at-block : (b : Option ℕ) → option_map_or (λ block. block == y) b false ≡ true → b ≡ Some y
    at-block None e = cc
    at-block (Some block) e = ap Some (eqb-true block y e)

pub meets-both : (s : Setting) (w : World) (a : ℕ) (k : Kind) → option_map_or (is_block_free s w a) (wanted s w (w.actors a) k) true ≡ true → is_drained w (w.actors a).job ≡ true → meets s w a k ≡ true
meets-both s w a k free drained = both (option_map_or (is_block_free s w a) (wanted s w (w.actors a) k) true) (is_drained w (w.actors a).job) free drained
  where
    both : (a b : Bool) → a ≡ true → b ≡ true → (a && b) ≡ true
    both true b x y = y
    both false b x y = cc

-- what is wanted, if anything, is free
pub free-or-none : (s : Setting) (w : World) (a : ℕ) (o : Option ℕ) → ((y : ℕ) → o ≡ Some y → is_block_free s w a y ≡ true) → option_map_or (is_block_free s w a) o true ≡ true
free-or-none s w a None free = refl
free-or-none s w a (Some y) free = free y refl

-- Carriers.

-- the child of an entry
child-is : (entries : List Entry) (c : ℕ) (o : Option ℕ) → option_and_then (λ place. option_map (λ (e : Entry). e.child) (slice_get entries place)) o ≡ Some c
    → (place : ℕ) × (entry : Entry) × (slice_get entries place ≡ Some entry) × (c ≡ entry.child)
child-is entries c None is = cc
child-is entries c (Some place) is = at (slice_get entries place) refl is
  where
    at : (o : Option Entry) → slice_get entries place ≡ o → option_map (λ (e : Entry). e.child) o ≡ Some c
        → (place : ℕ) × (entry : Entry) × (slice_get entries place ≡ Some entry) × (c ≡ entry.child)
    at None got e = cc
    at (Some entry) got e = (place, entry, got, cc)

leaf-or-not : (b : Bool) → ((if b then kind.PutInLeaf else kind.Down) ≡ kind.PutInLeaf) ⊎ ((if b then kind.PutInLeaf else kind.Down) ≡ kind.Down)
leaf-or-not true = inl refl
leaf-or-not false = inr refl

module _ (s : Setting) (w : World) (rest : ℕ → List Command) (a : ℕ) (e : ErrandValue) (r : RowErrand) (errand : (w.actors a).errand ≡ Some e) (row : e.task ≡ OfRow r) where
  -- by how far its row has come
  by-way : (on : Way) → r.way ≡ on → due_by s w rest a ≡ row_kind w (led_to s w e) (w.actors a) on
  by-way on is =
      ap (actor_kind s w (is_alone s w rest a) (rest a) (w.actors a)) errand
      ∙ ap (task_kind w (led_to s w e) (w.actors a)) row
      ∙ ap (row_kind w (led_to s w e) (w.actors a)) is

  wanted-is : (k : Kind) → wanted s w (w.actors a) k ≡ wanted_of s w e k
  wanted-is k = ap (option_and_then (λ x. wanted_of s w x k)) errand

  -- a row that is carried wants its child, or nothing
  wanted-down : (c y : ℕ) → r.way ≡ way.Carried c y → wanted s w (w.actors a) kind.Down ≡ child_of s.hierarchy r.row (block_in (w.cells y))
  wanted-down c y is = wanted-is kind.Down ∙ ap (wanted_down s.hierarchy w) row ∙ ap (child_wanted s.hierarchy w r.row) is

  wanted-carry : (c y z : ℕ) → r.way ≡ way.Carried c y → (k : Kind) → (k ≡ kind.PutInLeaf) ⊎ (k ≡ kind.Down) → wanted s w (w.actors a) k ≡ Some z
      → (place : ℕ) × (entry : Entry) × (slice_get (entries_in (block_in (w.cells y)).body) place ≡ Some entry) × (z ≡ entry.child)
  wanted-carry c y z is k (inl leaf) some = let none : wanted s w (w.actors a) k ≡ None = ap (wanted s w (w.actors a)) leaf ∙ wanted-is kind.PutInLeaf in cc
  wanted-carry c y z is k (inr down) some =
      child-is (entries_in (block_in (w.cells y)).body) z _ (sym (wanted-down c y is) ∙ ap (wanted s w (w.actors a)) (sym down) ∙ some)

some-of : (o : Option ℕ) → is_some o ≡ true → (x : ℕ) × (o ≡ Some x)
some-of None is = cc
some-of (Some x) is = (x, refl)

never-true : (b : Bool) → (b ≡ true → ⊥) → b ≡ false
never-true true no_way = absurd (no_way refl)
never-true false no_way = refl

module _ (s : Setting) (w : World) (g : Ghost) (rest : ℕ → List Command) (i : InvWith s (view s w) g) where
  -- who is at a part has no job
  pub no-job : (a : ℕ) (e : ErrandValue) → (w.actors a).errand ≡ Some e → is_drained w (w.actors a).job ≡ true
  no-job a e errand = by (w.actors a).job refl
    where
      by : (j : Option JobValue) → (w.actors a).job ≡ j → is_drained w (w.actors a).job ≡ true
      by None is = ap (is_drained w) is
      by (Some j) is = absurd (i.numbering.parts a (taken_by e) (ap taken_of errand) (i.numbering.working a j is))

  low-at : (a : ℕ) (e : ErrandValue) → (w.actors a).errand ≡ Some e → a < actor_count s
  low-at a e errand = has-taken s (view s w) i.numbering a (taken_by e) (ap taken_of errand)

  -- what is known of an actor that carries a row in the tree of a gate
  record Fact (a c r : ℕ) : Type 0 where
    y : ℕ
    e : ErrandValue
    on : RowErrand
    errand : (w.actors a).errand ≡ Some e
    row : e.task ≡ OfRow on
    way_is : on.way ≡ way.Carried c y
    placed : (g.shape c).placed r ≡ true
    carried : (g.shape c).carried r ≡ true
    at : (g.shape c).at r ≡ y

  fact : (a c r : ℕ) → carried_in c (way_of (w.actors a).errand) ≡ Some r → Fact a c r
  fact a c r is =
      let (x, y, seen, place, no_is) = carried-at c r (way_of (w.actors a).errand) is in
      let h = has-way (w.actors a) (w.actors a).errand x refl seen in
      let turn = i.turning.carrying a c y x seen place in
      record {
        y = y;
        e = h.e;
        on = h.r;
        errand = h.errand;
        row = h.row;
        way_is = carried-way h.r.way c y (ap (λ (z : RowWay). z.place) h.is ∙ place);
        placed = subst (λ n. (g.shape c).placed n ≡ true) no_is turn.0.placed;
        carried = subst (λ n. (g.shape c).carried n ≡ true) no_is turn.1;
        at = ap (g.shape c).at (sym no_is) ∙ turn.2;
      }

  due-carry : (a c r : ℕ) → (f : Fact a c r) → due_by s w rest a ≡ Some (carry_kind (block_in (w.cells f.y)))
  due-carry a c r f = by-way s w rest a f.e f.on f.errand f.row (way.Carried c f.y) f.way_is

  ways : ℕ → Option RowWay
  ways a = way_of (w.actors a).errand

  all : ℕ → Carriers
  all c = record { row = λ a. carried_in c (way_of (w.actors a).errand); wants = λ a. option_and_then (wanted s w (w.actors a)) (due_by s w rest a) }

  wants-is : (a c r : ℕ) → (f : Fact a c r) → option_and_then (wanted s w (w.actors a)) (due_by s w rest a) ≡ wanted s w (w.actors a) (carry_kind (block_in (w.cells f.y)))
  wants-is a c r f = ap (option_and_then (wanted s w (w.actors a))) (due-carry a c r f)

  entry-wanted : (a c r z : ℕ) → (f : Fact a c r) → wanted s w (w.actors a) (carry_kind (block_in (w.cells f.y))) ≡ Some z
      → (place : ℕ) × (entry : Entry) × (slice_get (entries_in (block_in (w.cells f.y)).body) place ≡ Some entry) × (z ≡ entry.child)
  entry-wanted a c r z f is =
      wanted-carry s w rest a f.e f.on f.errand f.row c f.y z f.way_is (carry_kind (block_in (w.cells f.y))) (leaf-or-not (is_leaf (block_in (w.cells f.y)).body)) is

  carriers-are : (c : ℕ) → (view s w).phases c ≢ None
      → AreCarriers (cells_at (view s w).blocks (view s w).trees c) (g.shape c) (all c) (carriers_of ways c (actor_count s))
  unfolding ways all
  carriers-are c stands = record {
    some = λ r placed carried.
        let (a, y, x, seen, same, place) = i.turning.carried c r stands placed carried in
        let h = has-way (w.actors a) (w.actors a).errand x refl seen in
        let is = carried-is c y x (way_of (w.actors a).errand) seen place ∙ ap Some same in
        (a, among-from ways c (actor_count s) a (low-at a h.e h.errand) (ap is_some is), is);
    carried = λ a r is. let f = fact a c r is in (f.placed, f.carried);
    child = λ a r is.
        let f = fact a c r is in
        let o = wanted s w (w.actors a) (carry_kind (block_in (w.cells f.y))) in
        subst (WantsChild (cells_at (view s w).blocks (view s w).trees c) (g.shape c) r) (sym (wants-is a c r f)) (by a r f o refl);
  }
    where
      by : (a r : ℕ) (f : Fact a c r) (o : Option ℕ) → wanted s w (w.actors a) (carry_kind (block_in (w.cells f.y))) ≡ o
          → WantsChild (cells_at (view s w).blocks (view s w).trees c) (g.shape c) r o
      by a r f None is = tt
      by a r f (Some z) is =
          let entry = entry-wanted a c r z f is in
          (entry.0, entry.1, subst (λ n. slice_get (entries_in (block_in (w.cells n)).body) entry.0 ≡ Some entry.1) (sym f.at) entry.2, entry.3)

  -- Where somebody carries a row, one who does can step.

  -- a child that one of the tree's carriers wants, and that is idle in the tree, is free
  child-free : (c : ℕ) → IsWhole (view s w).gates (view s w).phases (view s w).pins c → IsTree (table_of s (view s w).row) (cells_at (view s w).blocks (view s w).trees c) (g.shape c)
      → (a r z : ℕ) → (f : Fact a c r) → wanted s w (w.actors a) (carry_kind (block_in (w.cells f.y))) ≡ Some z → IsIdle (g.shape c) z → is_block_free s w a z ≡ true
  child-free c whole tree a r z f is idle =
      let entry = entry-wanted a c r z f is in
      let cells = cells_at (view s w).blocks (view s w).trees c in
      let below = leads-down (table_of s (view s w).row) cells (g.shape c) ((g.shape c).at r) entry.0 entry.1 tree (tree.tree.shape.stands r f.placed) (tree.entered r f.placed)
      (subst (λ n. slice_get (entries_in (block_in (w.cells n)).body) entry.0 ≡ Some entry.1) (sym f.at) entry.2) in
      let owner : g.owner z ≡ InTree c = subst (λ n. g.owner n ≡ InTree c) (sym entry.3) (i.stocking.tree c entry.1.child whole below.inside below.block).0 in
      free-from s w a z (λ b low. never-true (is_carried_at z (way_of (w.actors b).errand)) (λ seen.
      let k = carries s (view s w) g i b z (seen-at z (way_of (w.actors b).errand) seen) in
      let trees : InTree c ≡ InTree k.gate = sym owner ∙ k.owner in
      let same : c ≡ k.gate = cc in
      idle k.way.row.no
      (subst (λ n. (g.shape n).placed k.way.row.no ≡ true) (sym same) k.placed)
      (subst (λ n. (g.shape n).carried k.way.row.no ≡ true) (sym same) k.carried)
      (subst (λ n. (g.shape n).at k.way.row.no ≡ z) (sym same) k.at)))

  -- a carrier whose wanted child is idle in the tree can step
  mover-can : (c : ℕ) → IsWhole (view s w).gates (view s w).phases (view s w).pins c → IsTree (table_of s (view s w).row) (cells_at (view s w).blocks (view s w).trees c) (g.shape c)
      → (a r : ℕ) → a < actor_count s → (f : Fact a c r) → IsIdleIf (g.shape c) (wanted s w (w.actors a) (carry_kind (block_in (w.cells f.y)))) → SomeCan s w rest
  mover-can c whole tree a r low f idle = record {
    due = record { actor = a; within = low; kind_is = carry_kind (block_in (w.cells f.y)); is_due = due-carry a c r f };
    meets_it = meets-both s w a (carry_kind (block_in (w.cells f.y))) (by (wanted s w (w.actors a) (carry_kind (block_in (w.cells f.y)))) refl idle) (no-job a f.e f.errand);
  }
    where
      by : (o : Option ℕ) → wanted s w (w.actors a) (carry_kind (block_in (w.cells f.y))) ≡ o → IsIdleIf (g.shape c) o → option_map_or (is_block_free s w a) o true ≡ true
      by None is idle = refl
      by (Some z) is idle = child-free c whole tree a r z f is idle

  -- of the carriers in a tree one can
  tree-can : (c : ℕ) → IsWhole (view s w).gates (view s w).phases (view s w).pins c → IsTree (table_of s (view s w).row) (cells_at (view s w).blocks (view s w).trees c) (g.shape c)
      → (a : ℕ) → a < actor_count s → is_some (carried_in c (way_of (w.actors a).errand)) ≡ true → SomeCan s w rest
  unfolding ways all
  tree-can c whole tree a low here =
      let (j, among, idle) = some-law (table_of s (view s w).row) (cells_at (view s w).blocks (view s w).trees c) (g.shape c) (all c) (carriers_of ways c (actor_count s)) a
      tree (carriers-are c (gate-phase (w.cells c) whole.0)) (among-from ways c (actor_count s) a low here) in
      let found = among-is ways c (actor_count s) j among in
      let r = some-of (carried_in c (way_of (w.actors j).errand)) found.1 in
      let f = fact j c r.0 r.1 in
      mover-can c whole tree j r.0 found.0 f (subst (IsIdleIf (g.shape c)) (wants-is j c r.0 f) idle)

  carrier-can : (a y : ℕ) → IsCarried (way_of (w.actors a).errand) y → SomeCan s w rest
  carrier-can a y keeps =
      let k = carries s (view s w) g i a y keeps in
      let h = has-way (w.actors a) (w.actors a).errand k.way refl k.is_way in
      tree-can k.gate k.whole k.tree a (low-at a h.e h.errand) (ap is_some (carried-is k.gate y k.way (way_of (w.actors a).errand) k.is_way k.place))

  -- Where nobody does, each block is free.

  -- an insert that has put its row can leave its tree
  leaver-can : (a c : ℕ) (x : RowWay) → way_of (w.actors a).errand ≡ Some x → x.place ≡ InLeaf c → SomeCan s w rest
  leaver-can a c x seen place =
      let h = has-way (w.actors a) (w.actors a).errand x refl seen in
      let on = put-way h.r.way c (ap (λ (z : RowWay). z.place) h.is ∙ place) in
      let none : wanted s w (w.actors a) kind.LeaveTree ≡ None = wanted-is s w rest a h.e h.r h.errand h.row kind.LeaveTree in
      record {
        due = record { actor = a; within = low-at a h.e h.errand; kind_is = kind.LeaveTree; is_due = by-way s w rest a h.e h.r h.errand h.row (way.Put c) on };
        meets_it = meets-both s w a kind.LeaveTree (ap (λ o. option_map_or (is_block_free s w a) o true) none) (no-job a h.e h.errand);
      }

  -- somebody carries a row at a block, or nobody below a number does
  carried-or : (n : ℕ) → ((a : ℕ) × (y : ℕ) × IsCarried (way_of (w.actors a).errand) y) ⊎ ((a y : ℕ) → a < n → is_carried_at y (way_of (w.actors a).errand) ≡ false)
  carried-or zero = inr (λ a y low. absurd (omega arith))
  carried-or (suc n) = join (carried-or n) (at-or (way_of (w.actors n).errand))
    where
      place-or : (p : RowPlace) → ((y : ℕ) × (block_at p ≡ Some y)) ⊎ (block_at p ≡ None)
      place-or Outside = inr refl
      place-or (AtBlock c y) = inl (y, refl)
      place-or (InLeaf c) = inr refl
      place-or AtRest = inr refl

      at-or : (o : Option RowWay) → ((y : ℕ) × IsCarried o y) ⊎ ((y : ℕ) → is_carried_at y o ≡ false)
      at-or None = inr (λ y. refl)
      at-or (Some x) = elim (place-or x.place) [
        | inl at ↦ inl at
        | inr off ↦ inr (λ y. ap (λ o. option_map_or (λ block. block == y) o false) off)
      ]

      join : ((a : ℕ) × (y : ℕ) × IsCarried (way_of (w.actors a).errand) y) ⊎ ((a y : ℕ) → a < n → is_carried_at y (way_of (w.actors a).errand) ≡ false)
          → ((y : ℕ) × IsCarried (way_of (w.actors n).errand) y) ⊎ ((y : ℕ) → is_carried_at y (way_of (w.actors n).errand) ≡ false)
          → ((a : ℕ) × (y : ℕ) × IsCarried (way_of (w.actors a).errand) y) ⊎ ((a y : ℕ) → a < suc n → is_carried_at y (way_of (w.actors a).errand) ≡ false)
      join (inl found) here = inl found
      join (inr none) (inl at) = inl (n, at.0, at.1)
      join (inr none) (inr off) = inr (λ a y low. elim (below-or-at a n low) [
        | inl below ↦ none a y below
        | inr is ↦ ap (λ k. is_carried_at y (way_of (w.actors k).errand)) is ∙ off y
      ])

  -- an insert is in a leaf of the tree of a gate, or none below a number is in that tree
  inside-or : (none : (a y : ℕ) → a < actor_count s → is_carried_at y (way_of (w.actors a).errand) ≡ false) (c n : ℕ) → n ≤ actor_count s
      → ((a : ℕ) × (x : RowWay) × (way_of (w.actors a).errand ≡ Some x) × (x.place ≡ InLeaf c)) ⊎ ((a : ℕ) → a < n → inside_of c (way_of (w.actors a).errand) ≡ 0)
  inside-or none c zero few = inr (λ a low. absurd (omega arith))
  inside-or none c (suc n) few = join (inside-or none c n (omega arith)) (at-or (way_of (w.actors n).errand) refl)
    where
      if-at : (gate : ℕ) (b : Bool) → (gate == c) ≡ b → (gate ≡ c) ⊎ (◌≡◌ {A = ℕ} (if b then 1 else 0) 0)
      if-at gate true is = inl (eqb-true gate c is)
      if-at gate false is = inr refl

      place-or : (p : RowPlace) → ((y : ℕ) → option_map_or (λ block. block == y) (block_at p) false ≡ false) → (p ≡ InLeaf c) ⊎ (is_inside c p ≡ 0)
      place-or Outside off = inr refl
      place-or (AtBlock gate y) off = clash (y == y) (eq-eqb y y refl) (off y)
      place-or (InLeaf gate) off = elim (if-at gate (gate == c) refl) [ inl is ↦ inl (ap InLeaf is) | inr zero_ ↦ inr zero_ ]
      place-or AtRest off = inr refl

      at-or : (o : Option RowWay) → way_of (w.actors n).errand ≡ o → ((x : RowWay) × (way_of (w.actors n).errand ≡ Some x) × (x.place ≡ InLeaf c)) ⊎ (inside_of c (way_of (w.actors n).errand) ≡ 0)
      at-or None is = inr (ap (inside_of c) is)
      at-or (Some x) is = elim (place-or x.place (λ y. ap (is_carried_at y) (sym is) ∙ none n y (omega arith))) [
        | inl leaf ↦ inl (x, is, leaf)
        | inr zero_ ↦ inr (ap (inside_of c) is ∙ zero_)
      ]

      join : ((a : ℕ) × (x : RowWay) × (way_of (w.actors a).errand ≡ Some x) × (x.place ≡ InLeaf c)) ⊎ ((a : ℕ) → a < n → inside_of c (way_of (w.actors a).errand) ≡ 0)
          → ((x : RowWay) × (way_of (w.actors n).errand ≡ Some x) × (x.place ≡ InLeaf c)) ⊎ (inside_of c (way_of (w.actors n).errand) ≡ 0)
          → ((a : ℕ) × (x : RowWay) × (way_of (w.actors a).errand ≡ Some x) × (x.place ≡ InLeaf c)) ⊎ ((a : ℕ) → a < suc n → inside_of c (way_of (w.actors a).errand) ≡ 0)
      join (inl found) here = inl found
      join (inr out) (inl x) = inl (n, x.0, x.1, x.2)
      join (inr out) (inr zero_) = inr (λ a low. elim (below-or-at a n low) [
        | inl below ↦ out a below
        | inr is ↦ ap (λ k. inside_of c (way_of (w.actors k).errand)) is ∙ zero_
      ])

  -- a gate that a job waits for still has inserts
  pub undrained : (job : Option JobValue) → is_drained w job ≡ false → (c : ℕ) × ((active_in (w.cells c) == 0) ≡ false)
  undrained None is = clash true refl is
  undrained (Some job) is = by (gate_awaited job.stage) is
    where
      by : (o : Option ℕ) → option_map_or (λ gate. active_in (w.cells gate) == 0) o true ≡ false → (c : ℕ) × ((active_in (w.cells c) == 0) ≡ false)
      by None e = clash true refl e
      by (Some c) e = (c, e)

  idle-can : ((a y : ℕ) → a < actor_count s → is_carried_at y (way_of (w.actors a).errand) ≡ false) → SomeDue s w rest → SomeCan s w rest
  idle-can none due = by (is_drained w (w.actors due.actor).job) refl
    where
      by : (b : Bool) → is_drained w (w.actors due.actor).job ≡ b → SomeCan s w rest
      by true drained = record {
        due = due;
        meets_it = meets-both s w due.actor due.kind_is
            (free-or-none s w due.actor (wanted s w (w.actors due.actor) due.kind_is) (λ z is. free-from s w due.actor z (λ a low. none a z low))) drained;
      }
      by false waits =
          let c = undrained (w.actors due.actor).job waits in
          elim (inside-or none c.0 (actor_count s) (omega arith)) [
            | inl (a, x, seen, leaf) ↦ leaver-can a c.0 x seen leaf
            | inr out ↦ clash (active_in (w.cells c.0) == 0)
                (eq-eqb (active_in (w.cells c.0)) 0 (i.turning.counts c.0 ∙ sum-zero (actor_count s) (λ a. inside_of c.0 (way_of (w.actors a).errand)) out)) c.1
          ]

  someone-can : SomeDue s w rest → SomeCan s w rest
  someone-can due = elim (carried-or (actor_count s)) [
    | inl (a, y, keeps) ↦ carrier-can a y keeps
    | inr none ↦ idle-can none due
  ]

pub can-law : CanLaw
can-law s w g rest i due = someone-can s w g rest i due
