-- One event more, that splits and moves no shard: where shards are, and where rows are.
use Rattle.std.proofs.{Common.{◌≡◌, ℕ, ◌<◌, ◌∙◌, List, [], ◌∷◌, Bool, IsTrue, sym, subst, ◌⊎◌, Contains, inl, inr}, lemmas.List.Elements.{All-weaker, Contains-append_right}}
use Rattle.std.specs.Prelude.{Option, Some, IsSome}
use Rattle.describing_set.specs.declared.listing.Spot.{Spot}
use Rattle.cell_stock.specs.Stock.{StockValue}
use Rattle.mapping_table.specs.declared.place.Where.{Where}
use Rattle.query_router.specs.{Desk.DeskValue, declared.part.Part.Part, declared.part.PartState.PartState}
use Rattle.query_router.specs.declared.part.PartState.TheVariants as state
use Rattle.row_ledger.specs.{Changes.ShardsStay, Past.{Ack, insert_at, acked}, Shards.comes_from, declared.event.Event.Event}
use Rattle.row_ledger.proofs.Older.{is_child-older, is_path-older}
use Rattle.server_image.specs.{Image.ImageValue, Registry.RegistryValue}
use Rattle.shard_build.specs.shard_store.specs.{declared.gate.Phase.Phase, declared.queue.Queue.Queue}
use Rattle.shard_build.specs.tree_shape.specs.Shape.{Shape}
use Rattle.volap_cell.specs.{Errands.RowWay, Growing.{IsUnder, Resting}, Lineage.{Lineage, went_to}, Placing.{IsRouted, Placing, IsLead, IsRowPart, IsOnWay, Inserting}, Setting.Setting, declared.command.Command.Command}
use Rattle.volap_cell.proofs.OneEvent.Older.{live-stays, on-stays, was-stays, comes-stays, insert-kept}

module _ (s : Setting) (e : Event) (h : List Event) (stay : ShardsStay s.workers e h) where
  pub under-grown : (placed : ℕ → Bool) (home : ℕ → ℕ) (x r : ℕ) → IsUnder h placed home x r → IsUnder (e ∷ h) placed home x r
  under-grown placed home x r u = record { is_placed = u.is_placed; comes = comes-stays s.workers e h stay x (home r) ∙ u.comes }

  pub under-was : (placed : ℕ → Bool) (home : ℕ → ℕ) (x r : ℕ) → IsUnder (e ∷ h) placed home x r → IsUnder h placed home x r
  under-was placed home x r u = record { is_placed = u.is_placed; comes = sym (comes-stays s.workers e h stay x (home r)) ∙ u.comes }

  pub resting-grown : (gates : ℕ → Option ℕ) (phases : ℕ → Option Phase) (shape : ℕ → Shape) (placed : ℕ → Bool) (home : ℕ → ℕ)
      → Resting h gates phases shape placed home → Resting (e ∷ h) gates phases shape placed home
  resting-grown gates phases shape placed home i = record {
    rests = λ c x r g p q. let t = i.rests c x r g p q in (t.0, under-grown placed home x r t.1);
  }

  -- Shards.

  -- no move is noted
  pub lineage-grown : (stock : StockValue) (registry : RegistryValue) (maps : ℕ → ℕ → Option Where) (gates : ℕ → Option ℕ) (phases : ℕ → Option Phase) (gate : ℕ → ℕ)
      → ((x w : ℕ) → went_to (e ∷ h) x w ≡ went_to h x w) → Lineage s h stock registry maps gates phases gate → Lineage s (e ∷ h) stock registry maps gates phases gate
  lineage-grown stock registry maps gates phases gate went i = record {
    ids = i.ids ∙ sym stay.ids;
    front = i.front ∙ sym stay.frontier;
    gate_of = λ x w on. i.gate_of x w (sym (on-stays s.workers e h stay x w) ∙ on);
    known = λ x w was. i.known x w (was-stays s.workers e h stay x w was);
    live = λ c x g p. let l = i.live c x g p in (live-stays s.workers e h stay x ∙ l.0, l.1);
    leads = λ w x c m. let l = i.leads w x c m in (on-stays s.workers e h stay x w ∙ l.0, l.1);
    split = λ w x l r plane m. let t = i.split w x l r plane m in (is_child-older e h x l t.0, is_child-older e h x r t.1, t.2, t.3, t.4);
    divided = λ w x l r plane m. let t = i.divided w x l r plane m in
        (t.0, (t.1.0, Contains-append_right (e ∷ []) h _ t.1.1), elim t.2 [ inl there ↦ inl (went x w ∙ there) | inr never ↦ inr (stay.left_at x w ∙ never) ]);
    moved = λ w x v m. let t = i.moved w x v m in (t.0, t.1, t.2, subst (λ (o : Option ℕ). IsSome o) (sym (stay.left_at x w)) t.3, went x w ∙ t.4);
    later = λ w x v u p q m n lp lq. i.later w x v u p q m n (sym (stay.left_at x w) ∙ lp) (sym (stay.left_at x v) ∙ lq);
    made = λ c x g. subst (λ (n : ℕ). x < n) (sym stay.ids) (i.made c x g);
  }

  -- Rows.

  -- nothing is acknowledged
  pub placing-grown : (commands : ℕ → Option Command) (ways : ℕ → Option RowWay) (queues : ℕ → Queue) (gate : ℕ → ℕ) (shape : ℕ → Shape) (placed : ℕ → Bool) (home : ℕ → ℕ) (path : ℕ → List ℕ)
      → acked (e ∷ h) ≡ acked h → Placing s h commands ways queues gate shape placed home path → Placing s (e ∷ h) commands ways queues gate shape placed home path
  placing-grown commands ways queues gate shape placed home path same i = record {
    one = λ x r live. i.one x r (sym (live-stays s.workers e h stay x) ∙ live);
    stands = λ r p. live-stays s.workers e h stay (home r) ∙ i.stands r p;
    begun = λ r p. let b = i.begun r p in (b.0, insert-kept e h r b.0 b.1);
    line = λ r p. let l = i.line r p in (l.0, comes-stays s.workers e h stay _ (home r) ∙ l.1);
    acked_rows = λ k has. i.acked_rows k (subst (λ (ks : List Ack). Contains ks k) same has);
    others = λ r p. subst (λ (ks : List Ack). ((k : Ack) × Contains ks k × (k.row.no ≡ r)) ⊎ IsRouted commands r) (sym same) (i.others r p);
  }

  pub lead-grown : (images : ℕ → ImageValue) (server : ℕ) (path : List ℕ) (shard : ℕ) → IsLead h images server path shard → IsLead (e ∷ h) images server path shard
  lead-grown images server path shard i = record {
    is_path = is_path-older e h server path i.is_path;
    last = i.last;
    listed = All-weaker (λ (x : Spot). IsTrue (comes_from h x.shard shard) → Contains path x.shard) (λ (x : Spot). IsTrue (comes_from (e ∷ h) x.shard shard) → Contains path x.shard)
        (λ x f comes. f (sym (comes-stays s.workers e h stay x.shard shard) ∙ comes)) (images server).spots i.listed;
  }

  pub row-part-grown : (images : ℕ → ImageValue) (ways : ℕ → Option RowWay) (placed : ℕ → Bool) (path : ℕ → List ℕ) (server r : ℕ) (p : Part) (st : PartState)
      → IsRowPart h images ways placed path server r p st → IsRowPart (e ∷ h) images ways placed path server r p st
  row-part-grown images ways placed path server r p (state.Waiting wanted) i = (i.0, i.1, lead-grown images server p.path p.shard i.2)
  row-part-grown images ways placed path server r p (state.Placed way) i = (i.0, i.1, i.2, lead-grown images server way _ i.3)
  row-part-grown images ways placed path server r p state.NoMemory i = i
  row-part-grown images ways placed path server r p _ i = tt

  pub on-way-grown : (images : ℕ → ImageValue) (placed : ℕ → Bool) (path : ℕ → List ℕ) (w : RowWay) → IsOnWay h images placed path w → IsOnWay (e ∷ h) images placed path w
  on-way-grown images placed path w i = record {
    known = let k = i.known in (k.0, insert-kept e h w.row.no k.0 k.1, k.2, k.3);
    lead = lead-grown images w.server w.path w.shard i.lead;
    passed = i.passed;
    came = i.came;
  }

  -- the inserts whose parts are on desks began before
  pub inserting-grown : (images : ℕ → ImageValue) (desks : ℕ → DeskValue) (commands : ℕ → Option Command) (ways : ℕ → Option RowWay) (placed : ℕ → Bool) (path : ℕ → List ℕ)
      → ((server r : ℕ) → server < s.servers → (desks server).op ≡ Some r → insert_at (e ∷ h) r ≡ insert_at h r)
      → Inserting s h images desks commands ways placed path → Inserting s (e ∷ h) images desks commands ways placed path
  inserting-grown images desks commands ways placed path same i = record {
    unrouted = i.unrouted;
    parts = λ server r insert within op is.
        All-weaker (λ (p : Part). IsRowPart h images ways placed path server r p p.state) (λ (p : Part). IsRowPart (e ∷ h) images ways placed path server r p p.state)
        (λ p. row-part-grown images ways placed path server r p p.state) (desks server).parts (i.parts server r insert within op (sym (same server r within op) ∙ is));
    on_way = λ a w is. on-way-grown images placed path w (i.on_way a w is);
  }
