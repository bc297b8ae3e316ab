-- A gate's own cell is used again, when its tree is: the invariant holds still, and less is left.
use Rattle.std.proofs.{Common.{◌≡◌, ◌≢◌, ℕ, ◌+◌, ◌<◌, false, cond, eqb, List, [], ◌∷◌, ◌++◌, length, Option, Some, IsSome, refl, sym, ap, ◌∙◌, subst, inl, inr, arith}, lemmas.Bool.{eqb-true, eqb-false}}
use Rattle.cell_stock.specs.Stock.{StockValue}
use Rattle.dim_hierarchy.specs.Dimension.{Dimension}
use Rattle.core_tree.specs.shard_store.specs.{declared.gate.Phase.Phase, declared.gate.Phase.TheVariants.Gone}
use Rattle.list_words.specs.Counts.{times}
use Rattle.list_words.proofs.{Times.{times-append, same_is}, Truth.on_bool}
use Rattle.core_tree.specs.tree_shape.specs.Laws.{OtherLaw}
use Rattle.core_tree.specs.volap_cell.specs.{AdminKinds.ReusesGate, Cells.{CellValue, FreeCell, GateCell, StockCell, OfStock, TheStock, active_in, block_in, gate_shard, gone_in, has_block, phase_of, pins_in, queue_in, tag_of, way_in}, Errands.ReadPart, Falls.gone_left, Ghost.Ghost, Invariant.InvWith, Reusing.{is_gone, without_gate}, Setting.Setting, Steps.{IsKept, Keeps}, Stocking.IsWhole, Values.{ActorValue, JobValue}, View.{View, view}, World.{Agrees, Change, World, after, put}}
use Rattle.core_tree.specs.volap_cell.proofs.{Cells.Past.stock-past, OneEvent.Reads.{pinned-whole, readers-take}, Persons.only-admin, Reusing.{less-off, less-there, reusing-turned}, Views.Admin.{by_reuse, view-reuse_gate}, Views.Fields.IsNew, Views.Frames.{actor-at, first, kept-but}, Views.Seen.renewed, Views.Touches.turned}
use Rattle.core_admin.proofs.{Postponing.Returned.one, Reusing.Freeing.{Freeing, freed, freed-holds}, Reusing.FreesCells.{no-jobs, idle, control-less}}
use Rattle.core_tree.specs.volap_cell.specs.declared.kind.Kind.TheVariants as kind

module _ (x c : Change) (b : ActorValue) (s : Setting) (w : World) (n : ℕ) (g : Ghost) (other : OtherLaw) (i : InvWith s (view s w) g) (ag : Agrees w (x ∷ c ∷ []) n (w.actors n)) (d : ReusesGate x c (w.actors n) b) where
  abbrev v : View
  v = view s w

  abbrev cs : List Change
  cs = x ∷ c ∷ []

  abbrev w2 : World
  w2 = after w cs n b

  abbrev u : View
  u = view s w2

  gate-at : w.cells x.number ≡ GateCell d.gate
  gate-at = ag.cells.0 ∙ d.was

  gone : v.phases x.number ≡ Some Gone
  gone = ap phase_of gate-at ∙ ap Some d.may.is_gone

  same : u ≡ renewed by_reuse u v
  same = view-reuse_gate s w n x c (w.actors n) b ag d

  off : {A : Type 0} (f : CellValue → A) → ((p q : StockValue) → f (StockCell p) ≡ f (StockCell q)) → (z : ℕ) → z ≢ x.number → f (put cs w.cells z) ≡ f (w.cells z)
  off f stocks z ne = kept-but f x.number cs w.cells ag.cells (inl refl, (inr (turned f c _ _ d.frees.was d.frees.is (stocks _ _)), tt)) z ne

  free-now : w2.cells x.number ≡ FreeCell
  free-now = first x (c ∷ []) w.cells ∙ d.freed

  stocks : IsNew u.stock v.stock d.frees.stock (record d.frees.stock { free = d.frees.stock.free ++ x.number ∷ [] })
  stocks = stock-past s w.cells i.numbering.tag (x ∷ []) c [] ag.cells ((λ e. let no : OfStock ≡ TheStock = ap tag_of (sym d.was) ∙ e ∙ ap tag_of d.frees.was in cc), tt) _ _ d.frees.was d.frees.is

  still : (f : CellValue → ℕ) → ((z : ℕ) → z ≢ x.number → f (put cs w.cells z) ≡ f (w.cells z)) → f (w.cells x.number) ≡ f FreeCell → (z : ℕ) → f (put cs w.cells z) ≡ f (w.cells z)
  still f others none z = on_bool (eqb z x.number)
      (λ q. let e = eqb-true z x.number q in ap (λ (k : ℕ). f (put cs w.cells k)) e ∙ ap f free-now ∙ sym (ap (λ (k : ℕ). f (w.cells k)) e ∙ none))
      (λ q. others z (eqb-false z x.number q))

  list : u.gone_gates n ≡ without_gate x.number (v.gone_gates n)
  list = ap (λ (k : ActorValue). k.gone_gates) (actor-at w.actors n b ∙ d.actor_is)

  freeing : Freeing s u v g
  freeing = record {
    x = x.number;
    y = x.number;
    is_gate = subst IsSome (sym (ap gate_shard gate-at)) refl;
    gone = gone;
    unpinned = ap pins_in gate-at ∙ d.may.unpinned;
    what = inr (refl, ap gone_in gate-at ∙ d.empty);
    less = λ ne z. absurd (ne refl);
    no_gate = ap gate_shard free-now;
    no_phase = ap phase_of free-now;
    no_list = ap gone_in free-now;
    no_block = ap has_block free-now;
    gates_off = off gate_shard (λ p q. refl);
    phases_off = off phase_of (λ p q. refl);
    trees_off = off way_in (λ p q. refl);
    queues_off = off queue_in (λ p q. refl);
    blocks_off = off block_in (λ p q. refl);
    made_off = off has_block (λ p q. refl);
    active_same = still active_in (off active_in (λ p q. refl)) (idle s v g i x.number gone);
    pins_same = still pins_in (off pins_in (λ p q. refl)) (ap pins_in gate-at ∙ d.may.unpinned);
    listed = reusing-turned v.roles v.phases u.phases v.gone_gates u.gone_gates i.reusing n x.number (λ a role. only-admin s v i.numbering n a d.may.role role)
        (λ z ne. ap (times z) list ∙ less-off (v.gone_gates n) x.number z ne)
        (ap (times x.number) list ∙ less-there (v.gone_gates n) x.number ∙ sym (ap (λ (p : Option Phase). cond (is_gone p) 1 0) (ap phase_of free-now)))
        (λ z ne. ap is_gone (off phase_of (λ p q. refl) z ne));
    gone_off = λ z ne nx. off gone_in (λ p q. refl) z ne;
    counts = λ z. freed-counts z;
    stamps = ap (λ (k : StockValue). k.stamps) stocks.is_that ∙ sym (ap (λ (k : StockValue). k.stamps) stocks.was_that);
    ids = ap (λ (k : StockValue). k.ids) stocks.is_that ∙ sym (ap (λ (k : StockValue). k.ids) stocks.was_that);
    all = ap (λ (k : StockValue). k.cells) stocks.is_that ∙ sym (ap (λ (k : StockValue). k.cells) stocks.was_that);
  }
    where
      freed-counts : (z : ℕ) → times z u.stock.free ≡ times z v.stock.free + one (eqb z x.number)
      freed-counts z =
          let now = ap (λ (k : StockValue). times z k.free) stocks.is_that ∙ times-append z d.frees.stock.free (x.number ∷ []) in
          let was = ap (λ (k : StockValue). times z k.free) stocks.was_that in
          on_bool (eqb z x.number)
          (λ q. let it : one (eqb z x.number) ≡ 1 = ap one q in let here = same_is z x.number (eqb-true z x.number q) in omega (arith, now, was, it, here))
          (λ q. let it : one (eqb z x.number) ≡ 0 = ap one q in let no = same-not z q in omega (arith, now, was, it, no))
        where
          same-not : (z : ℕ) → eqb z x.number ≡ false → times z (x.number ∷ []) ≡ 0
          same-not z q = rw q refl

  nobody : (a : ℕ) (j : JobValue) → v.jobs a ≡ Some j → ⊥
  nobody = no-jobs s v g i n d.may.role d.may.no_command

  pinned : (a e : ℕ) (p : ReadPart) → v.reads a ≡ Some p → p.reading.pin ≡ Some e → IsWhole v.gates v.phases v.pins e
  pinned = pinned-whole s v.tags v.numbers v.roles v.settings v.counted_in v.purses v.commands v.taken v.jobs v.gates v.phases v.pins v.reads i.numbering (readers-take s w) i.pinning

  shorter : gone_left (u.phases x.number) (u.gone x.number) < gone_left (v.phases x.number) (v.gone x.number)
  shorter =
      let now : gone_left (u.phases x.number) (u.gone x.number) ≡ 0 = (λ k. gone_left (ap phase_of free-now k) (ap gone_in free-now k)) in
      let was : gone_left (v.phases x.number) (v.gone x.number) ≡ 1 + length (v.gone x.number) = (λ k. gone_left (gone k) (v.gone x.number)) in
      omega (arith, now, was)

  abbrev g2 : Ghost
  g2 = record g { owner = λ z. freed x.number z (g.owner z) }

  pub reuse-gate-kept : IsKept s kind.Reuse n w w2 g
  unfolding freeing
  reuse-gate-kept = record {
    step = record { changes = cs; actor = b; agrees = ag; does = d; sight = tt; now_is = refl };
    ghost_now = g2;
    holds = subst (λ (z : View). InvWith s z g2) (sym same) (freed-holds s u v g i freeing other pinned nobody);
    newer = [];
    grows = ap (λ (z : View). z.history) same;
    goes_on = inl (inl (control-less s w cs n b g g2 i (ap (λ (k : ActorValue). k.command) d.actor_is) (ap (λ (k : ActorValue). k.job) d.actor_is) nobody freeing same shorter));
  }

pub reuse-gate-keeps : OtherLaw → (h : List Dimension) (x c : Change) (a b : ActorValue) (d : ReusesGate x c a b) → Keeps h kind.Reuse (x ∷ c ∷ []) a b d
reuse-gate-keeps other h x c a b d s w n g about i ag sight =
    reuse-gate-kept x c b s w n g other i (record { cells = ag.cells; actor_is = refl; free = λ k ne. ag.free k ne }) (subst (λ (z : ActorValue). ReusesGate x c z b) (sym ag.actor_is) d)
