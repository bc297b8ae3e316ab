-- The cell of a block of a tree that is gone is used again: the invariant holds still, and less is left.
use Rattle.std.proofs.{Common.{◌≡◌, ◌≢◌, ℕ, ◌+◌, ◌<◌, true, false, cond, eqb, List, [], ◌∷◌, ◌++◌, length, Option, Some, None, IsSome, refl, sym, ap, ◌∙◌, subst, inl, inr, arith}, lemmas.Bool.{eqb-true, eqb-false}, lemmas.List.length-append}
use Rattle.cell_stock.specs.Stock.{StockValue}
use Rattle.dim_hierarchy.specs.Dimension.{Dimension}
use Rattle.core_tree.specs.shard_store.specs.{declared.gate.Gate.Gate, declared.gate.Phase.Phase, declared.gate.Phase.TheVariants.Gone}
use Rattle.list_words.specs.Counts.{times}
use Rattle.list_words.proofs.{Times.{times-append, same_is}, Truth.on_bool}
use Rattle.core_tree.specs.tree_shape.specs.Laws.{OtherLaw}
use Rattle.core_tree.specs.volap_cell.specs.{AdminKinds.ReusesBlock, Cells.{CellValue, FreeCell, GateCell, StockCell, OfStock, TheStock, active_in, block_in, gate_shard, gone_in, has_block, phase_of, pins_in, queue_in, tag_of, way_in}, Errands.ReadPart, Falls.gone_left, Ghost.{AGate, Ghost, InTree, NotOfStock}, Invariant.InvWith, Reusing.is_gone, Setting.Setting, Steps.{IsKept, Keeps}, Stocking.IsWhole, Values.{ActorValue, JobValue}, View.{View, view}, World.{Agrees, Change, World, after, put}}
use Rattle.core_tree.specs.volap_cell.proofs.{Cells.Blanks.owned-blank, Cells.Past.stock-past, OneEvent.Reads.{pinned-whole, readers-take}, Views.Admin.{by_reuse, view-reuse_block}, Views.Fields.IsNew, Views.Frames.{first, kept-but, second, unmoved-one}, Views.Seen.renewed, Views.Touches.{IsBlank, turned}}
use Rattle.core_admin.proofs.{Postponing.Returned.one, Reusing.Freeing.{Freeing, freed, freed-holds}, Reusing.FreesCells.{in-tree, no-jobs, control-less}}
use Rattle.core_tree.specs.volap_cell.specs.declared.kind.Kind.TheVariants as kind

module _ (x y c : Change) (b : ActorValue) (s : Setting) (w : World) (n : ℕ) (g : Ghost) (other : OtherLaw) (i : InvWith s (view s w) g) (ag : Agrees w (x ∷ y ∷ c ∷ []) n (w.actors n)) (d : ReusesBlock x y c (w.actors n) b) where
  abbrev v : View
  v = view s w

  abbrev cs : List Change
  cs = x ∷ y ∷ c ∷ []

  abbrev w2 : World
  w2 = after w cs n b

  abbrev u : View
  u = view s w2

  gate-at : w.cells x.number ≡ GateCell d.gate
  gate-at = ag.cells.0 ∙ d.turns.was

  gone : v.phases x.number ≡ Some Gone
  gone = ap phase_of gate-at ∙ ap Some d.may.is_gone

  gate-is : v.gates x.number ≡ Some d.gate.shard
  gate-is = ap gate_shard gate-at

  list : v.gone x.number ≡ d.cells ++ y.number ∷ []
  list = ap gone_in gate-at ∙ d.last

  listed : (z : ℕ) → times z d.cells + one (eqb z y.number) ≡ times z (v.gone x.number)
  listed z = (let parts = ap (times z) list ∙ times-append z d.cells (y.number ∷ []) in on_bool (eqb z y.number)
      (λ q. let it : one (eqb z y.number) ≡ 1 = ap one q in let here = same_is z y.number (eqb-true z y.number q) in omega (arith, parts, it, here))
      (λ q. let it : one (eqb z y.number) ≡ 0 = ap one q in let no = same-not z q in omega (arith, parts, it, no)))
    where
      same-not : (z : ℕ) → eqb z y.number ≡ false → times z (y.number ∷ []) ≡ 0
      same-not z q = rw q refl

  owner : g.owner y.number ≡ InTree x.number
  owner =
      let at = i.stocking.gone_cells x.number gone y.number in
      let some = listed y.number in
      let it : one (eqb y.number y.number) ≡ 1 = ap one (eqb-refl y.number) in
      in-tree x.number (g.owner y.number) (omega (arith, at, some, it))
    where
      eqb-refl : (k : ℕ) → eqb k k ≡ true
      eqb-refl k = on_bool (eqb k k) (λ q. q) (λ q. absurd (eqb-false k k q refl))

  gate-owner : g.owner x.number ≡ AGate
  gate-owner = i.stocking.gate x.number (subst IsSome (sym gate-is) refl)

  apart : y.number ≢ x.number
  apart e = (let no : InTree x.number ≡ AGate = sym owner ∙ ap g.owner e ∙ gate-owner in cc)

  blank : IsBlank y.before
  blank = subst IsBlank ag.cells.1.0 (owned-blank s w g i y.number (λ e. let no : InTree x.number ≡ NotOfStock = sym owner ∙ e in cc) (λ e. let no : InTree x.number ≡ AGate = sym owner ∙ e in cc))

  same : u ≡ renewed by_reuse u v
  same = view-reuse_block s w n x y c (w.actors n) b ag d blank

  -- what is seen of a gate but its list, and nothing of the stock, is as before at every other cell
  off : {A : Type 0} (f : CellValue → A) → ((z : Gate) (xs : List ℕ) → f (GateCell (record z { gone = xs })) ≡ f (GateCell z)) → ((p q : StockValue) → f (StockCell p) ≡ f (StockCell q)) → (z : ℕ) → z ≢ y.number → f (put cs w.cells z) ≡ f (w.cells z)
  off f gates stocks z ne = kept-but f y.number cs w.cells ag.cells (
    inr (turned f x (GateCell d.gate) (GateCell (record d.gate { gone = d.cells })) d.turns.was d.turns.is (gates d.gate d.cells)),
    (inl refl, (inr (turned f c _ _ d.frees.was d.frees.is (stocks _ _)), tt)),
  ) z ne

  off-list : (z : ℕ) → z ≢ y.number → z ≢ x.number → u.gone z ≡ v.gone z
  off-list z ny nx = kept-but gone_in x.number cs w.cells ag.cells (
    inl refl,
    (inr (ap gone_in d.freed ∙ sym no-list), (inr (turned gone_in c _ _ d.frees.was d.frees.is refl), tt)),
  ) z nx
    where
      no-list : gone_in y.before ≡ []
      no-list = by y.before blank.no_gate
        where
          by : (k : CellValue) → gate_shard k ≡ None → gone_in k ≡ []
          by (GateCell z) none = (let no : Some z.shard ≡ None = none in cc)
          by _ none = refl

  free-now : w2.cells y.number ≡ FreeCell
  free-now = second x y (c ∷ []) w.cells apart ∙ d.freed

  gate-now : w2.cells x.number ≡ GateCell (record d.gate { gone = d.cells })
  gate-now = first x (y ∷ c ∷ []) w.cells ∙ d.turns.is

  list-now : u.gone x.number ≡ d.cells
  list-now = ap gone_in gate-now

  stocks : IsNew u.stock v.stock d.frees.stock (record d.frees.stock { free = d.frees.stock.free ++ y.number ∷ [] })
  stocks = stock-past s w.cells i.numbering.tag (x ∷ y ∷ []) c [] ag.cells (
    (λ e. let no : OfStock ≡ TheStock = ap tag_of (sym d.turns.was) ∙ e ∙ ap tag_of d.frees.was in cc),
    ((λ e. let no : OfStock ≡ TheStock = sym blank.tag ∙ e ∙ ap tag_of d.frees.was in cc), tt),
  ) _ _ d.frees.was d.frees.is

  -- a blank cell tells nothing of a gate
  none-there : {A : Type 0} (f : CellValue → A) → ((k : CellValue) → gate_shard k ≡ None → f k ≡ f FreeCell) → f (w.cells y.number) ≡ f FreeCell
  none-there f bare = ap f ag.cells.1.0 ∙ bare y.before blank.no_gate

  active-bare : (k : CellValue) → gate_shard k ≡ None → active_in k ≡ active_in FreeCell
  active-bare (GateCell z) none = (let no : Some z.shard ≡ None = none in cc)
  active-bare _ none = refl

  pins-bare : (k : CellValue) → gate_shard k ≡ None → pins_in k ≡ pins_in FreeCell
  pins-bare (GateCell z) none = (let no : Some z.shard ≡ None = none in cc)
  pins-bare _ none = refl

  -- a field that the cell doesn't have before or after
  still : (f : CellValue → ℕ) → ((z : ℕ) → z ≢ y.number → f (put cs w.cells z) ≡ f (w.cells z)) → f (w.cells y.number) ≡ f FreeCell → (z : ℕ) → f (put cs w.cells z) ≡ f (w.cells z)
  still f others none z = on_bool (eqb z y.number)
      (λ q. let e = eqb-true z y.number q in ap (λ (k : ℕ). f (put cs w.cells k)) e ∙ ap f free-now ∙ sym (ap (λ (k : ℕ). f (w.cells k)) e ∙ none))
      (λ q. others z (eqb-false z y.number q))

  -- no gate goes or comes, and the list stays

  phases-same : (z : ℕ) → u.phases z ≡ v.phases z
  phases-same z = on_bool (eqb z y.number)
      (λ q. let e = eqb-true z y.number q in ap u.phases e ∙ ap phase_of free-now ∙ sym (ap v.phases e ∙ none-there phase_of phase-bare))
      (λ q. off phase_of (λ z xs. refl) (λ p k. refl) z (eqb-false z y.number q))
    where
      phase-bare : (k : CellValue) → gate_shard k ≡ None → phase_of k ≡ phase_of FreeCell
      phase-bare (GateCell z) none = (let no : Some z.shard ≡ None = none in cc)
      phase-bare _ none = refl

  lists-same : (a : ℕ) → u.gone_gates a ≡ v.gone_gates a
  lists-same = unmoved-one (λ (k : ActorValue). k.gone_gates) w.actors n b (ap (λ (k : ActorValue). k.gone_gates) d.actor_is)

  freeing : Freeing s u v g
  freeing = record {
    x = x.number;
    y = y.number;
    is_gate = subst IsSome (sym gate-is) refl;
    gone = gone;
    unpinned = ap pins_in gate-at ∙ d.may.unpinned;
    what = inl (owner, apart);
    less = λ ne z. ap (λ (xs : List ℕ). times z xs + one (eqb z y.number)) list-now ∙ listed z;
    no_gate = ap gate_shard free-now;
    no_phase = ap phase_of free-now;
    no_list = ap gone_in free-now;
    no_block = ap has_block free-now;
    gates_off = off gate_shard (λ z xs. refl) (λ p q. refl);
    phases_off = off phase_of (λ z xs. refl) (λ p q. refl);
    trees_off = off way_in (λ z xs. refl) (λ p q. refl);
    queues_off = off queue_in (λ z xs. refl) (λ p q. refl);
    blocks_off = off block_in (λ z xs. refl) (λ p q. refl);
    made_off = off has_block (λ z xs. refl) (λ p q. refl);
    active_same = still active_in (off active_in (λ z xs. refl) (λ p q. refl)) (none-there active_in active-bare);
    pins_same = still pins_in (off pins_in (λ z xs. refl) (λ p q. refl)) (none-there pins_in pins-bare);
    gone_off = off-list;
    listed = record { listed = λ a z role. ap (times z) (lists-same a) ∙ i.reusing.listed a z role ∙ ap (λ (p : Option Phase). cond (is_gone p) 1 0) (sym (phases-same z)) };
    counts = λ z. freed-counts z;
    stamps = ap (λ (k : StockValue). k.stamps) stocks.is_that ∙ sym (ap (λ (k : StockValue). k.stamps) stocks.was_that);
    ids = ap (λ (k : StockValue). k.ids) stocks.is_that ∙ sym (ap (λ (k : StockValue). k.ids) stocks.was_that);
    all = ap (λ (k : StockValue). k.cells) stocks.is_that ∙ sym (ap (λ (k : StockValue). k.cells) stocks.was_that);
  }
    where
      freed-counts : (z : ℕ) → times z u.stock.free ≡ times z v.stock.free + one (eqb z y.number)
      freed-counts z =
          let now = ap (λ (k : StockValue). times z k.free) stocks.is_that ∙ times-append z d.frees.stock.free (y.number ∷ []) in
          let was = ap (λ (k : StockValue). times z k.free) stocks.was_that in
          on_bool (eqb z y.number)
          (λ q. let it : one (eqb z y.number) ≡ 1 = ap one q in let here = same_is z y.number (eqb-true z y.number q) in omega (arith, now, was, it, here))
          (λ q. let it : one (eqb z y.number) ≡ 0 = ap one q in let no = same-not z q in omega (arith, now, was, it, no))
        where
          same-not : (z : ℕ) → eqb z y.number ≡ false → times z (y.number ∷ []) ≡ 0
          same-not z q = rw q refl

  nobody : (a : ℕ) (j : JobValue) → v.jobs a ≡ Some j → ⊥
  nobody = no-jobs s v g i n d.may.role d.may.no_command

  pinned : (a e : ℕ) (p : ReadPart) → v.reads a ≡ Some p → p.reading.pin ≡ Some e → IsWhole v.gates v.phases v.pins e
  pinned = pinned-whole s v.tags v.numbers v.roles v.settings v.counted_in v.purses v.commands v.taken v.jobs v.gates v.phases v.pins v.reads i.numbering (readers-take s w) i.pinning

  shorter : gone_left (u.phases x.number) (u.gone x.number) < gone_left (v.phases x.number) (v.gone x.number)
  shorter =
      let now : gone_left (u.phases x.number) (u.gone x.number) ≡ 1 + length d.cells = (λ k. gone_left ((ap phase_of gate-now ∙ ap Some d.may.is_gone) k) (list-now k)) in
      let was : gone_left (v.phases x.number) (v.gone x.number) ≡ 1 + length (d.cells ++ y.number ∷ []) = (λ k. gone_left (gone k) (list k)) in
      let more = length-append d.cells (y.number ∷ []) in
      omega (arith, now, was, more)

  abbrev g2 : Ghost
  g2 = record g { owner = λ z. freed y.number z (g.owner z) }

  pub reuse-block-kept : IsKept s kind.Reuse n w w2 g
  unfolding freeing
  reuse-block-kept = record {
    step = record { changes = cs; actor = b; agrees = ag; does = d; sight = tt; now_is = refl };
    ghost_now = g2;
    holds = subst (λ (z : View). InvWith s z g2) (sym same) (freed-holds s u v g i freeing other pinned nobody);
    newer = [];
    grows = ap (λ (z : View). z.history) same;
    goes_on = inl (inl (control-less s w cs n b g g2 i (ap (λ (k : ActorValue). k.command) d.actor_is) (ap (λ (k : ActorValue). k.job) d.actor_is) nobody freeing same shorter));
  }

pub reuse-block-keeps : OtherLaw → (h : List Dimension) (x y c : Change) (a b : ActorValue) (d : ReusesBlock x y c a b) → Keeps h kind.Reuse (x ∷ y ∷ c ∷ []) a b d
reuse-block-keeps other h x y c a b d s w n g about i ag sight =
    reuse-block-kept x y c b s w n g other i (record { cells = ag.cells; actor_is = refl; free = λ k ne. ag.free k ne }) (subst (λ (z : ActorValue). ReusesBlock x y c z b) (sym ag.actor_is) d)
