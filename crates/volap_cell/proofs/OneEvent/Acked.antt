-- What an acknowledgement adds to the history, and what it leaves of each part of the invariant that reads it.
-- Where shards are: `lineage-acked`, `resting-acked`, `under-acked`. The table of rows: `rows-acked`, `growing-acked`, `queueing-acked`.
-- Where rows are: `placing-acked`, with the new row's place; how far inserts are: `inserting-acked`. What is known: `imaging-acked`,
-- `covering-acked`, with the new row covered where it must be. Desks and queries: `desking-acked`, `querying-acked`. Jobs and balances:
-- `working-acked`, `balancing-acked`. Commands: `telling-acked`, with the insert ended; and `few-acked` of what is owed.
use Rattle.std.proofs.{Common.{◌≡◌, ◌≢◌, ℕ, ◌<◌, ◌∙◌, List, [], ◌∷◌, ◌++◌, Bool, true, IsTrue, length, refl, sym, ap, subst, arith, ◌⊎◌, inl, inr, All, Contains, ◌==◌, ◌+◌, le_of_lt}, lemmas.Bool.{cond_both, eqb-true, eqb-false}, lemmas.List.Elements.{All-weaker, All-cons, All-append, All-contains, All-contains_itself, Contains-append_left, Contains-append_right}}
use Rattle.std.specs.Prelude.{Option, Some, None, ◌^◌}
use Rattle.dim_hierarchy.specs.declared.row.Row.{Row}
use Rattle.cell_stock.specs.{Stock.StockValue, declared.purse.Spare.Spare}
use Rattle.dc_node.specs.declared.block.Block.{Block}
use Rattle.mapping_table.specs.declared.place.Where.{Where}
use Rattle.query_router.specs.Desk.{DeskValue}
use Rattle.row_ledger.specs.{Bounds.{own, passed, listed, known, listing_of, is_listed}, Changes.{AckChanges, ShardsStay}, Past.{Ack, Insert, ack_of, insert_at, acked, last_of}, Shards.is_path, declared.event.Event.Event, declared.event.Event.TheVariants.Acked}
use Rattle.row_ledger.proofs.{Changes.acked-changes, Growth.KeepsRight-acked}
use Rattle.server_image.specs.{Image.ImageValue, Registry.RegistryValue}
use Rattle.shard_build.specs.shard_store.specs.{declared.gate.Gate.Gate, declared.gate.Phase.Phase, declared.queue.Queue.Queue}
use Rattle.shard_build.specs.tree_shape.specs.Shape.{Shape}
use Rattle.list_words.proofs.{Elements.Contains-first, Truth.on_bool}
use Rattle.volap_cell.specs.{Desking.Desking, Errands.{ReadPart, RowWay, Taken}, Growing.{Growing, Queueing, Resting}, ImageKinds.doing, Imaging.{IsCovered, Fits, Covering, Imaging}, Lineage.Lineage, Placing.{NobodyAt, Placing, Inserting}, Querying.Querying, Setting.{Setting, site_in}, Telling.Telling, Values.JobValue, View.row_at, Working.{Working, Balancing}, declared.command.Command.Command, declared.role.Role.Role}
use Rattle.volap_cell.specs.declared.command.Work.TheVariants as work_is
use Rattle.volap_cell.proofs.{OneEvent.Desks.{desking-grown, querying-grown}, OneEvent.Known.{AreOlder, fits-grown, covered-grown, imaging-grown, boxes-grown, came-grown, pushed-grown, noted-grown, must-grown, unacked-grown}, OneEvent.Noted.telling-ends, OneEvent.Older.{insert-same, query-same, rows-same, live-stays, comes-stays, insert-kept}, OneEvent.Rows.{resting-grown, lineage-grown, inserting-grown}, OneEvent.Told.few-pushed, OneEvent.Work.{working-grown, balancing-grown}}

module _ (s : Setting) (h : List Event) (of : ℕ) (way : List ℕ) (insert : Insert) (begun : insert_at h of ≡ Some insert) where
  pub ack-changes : AckChanges s.hierarchy s.workers of way insert h
  ack-changes = acked-changes s.hierarchy s.workers of way insert h begun

  ack-stays : ShardsStay s.workers (Acked of way) h
  ack-stays = ack-changes.shards

  -- Where shards are.

  pub resting-acked : (gates : ℕ → Option ℕ) (phases : ℕ → Option Phase) (shape : ℕ → Shape) (placed : ℕ → Bool) (home : ℕ → ℕ)
      → Resting h gates phases shape placed home → Resting (Acked of way ∷ h) gates phases shape placed home
  resting-acked gates phases shape placed home i = resting-grown s (Acked of way) h ack-stays gates phases shape placed home i

  pub lineage-acked : (stock : StockValue) (registry : RegistryValue) (maps : ℕ → ℕ → Option Where) (gates : ℕ → Option ℕ) (phases : ℕ → Option Phase) (gate : ℕ → ℕ)
      → Lineage s h stock registry maps gates phases gate → Lineage s (Acked of way ∷ h) stock registry maps gates phases gate
  lineage-acked stock registry maps gates phases gate i = lineage-grown s (Acked of way) h ack-stays stock registry maps gates phases gate (λ x w. refl) i

  -- The table of rows.

  pub rows-acked : row_at (Acked of way ∷ h) ≡ row_at h
  rows-acked = rows-same (Acked of way) h refl

  pub growing-acked : (blocks : ℕ → Block) (trees : ℕ → Gate) (gates : ℕ → Option ℕ) (phases : ℕ → Option Phase) (pins : ℕ → ℕ) (shape : ℕ → Shape)
      → Growing s (row_at h) blocks trees gates phases pins shape → Growing s (row_at (Acked of way ∷ h)) blocks trees gates phases pins shape
  growing-acked blocks trees gates phases pins shape i = subst (λ (row : ℕ → Row). Growing s row blocks trees gates phases pins shape) (sym rows-acked) i

  pub queueing-acked : (gates : ℕ → Option ℕ) (phases : ℕ → Option Phase) (queues : ℕ → Queue)
      → Queueing s (row_at h) gates phases queues → Queueing s (row_at (Acked of way ∷ h)) gates phases queues
  queueing-acked gates phases queues i = subst (λ (row : ℕ → Row). Queueing s row gates phases queues) (sym rows-acked) i

  -- Where rows are. The row that is acknowledged is at rest, and came by this way; other routed inserts are still open.

  pub placing-acked : (commands commands_now : ℕ → Option Command) (ways : ℕ → Option RowWay) (queues : ℕ → Queue) (gate : ℕ → ℕ) (shape : ℕ → Shape) (placed : ℕ → Bool) (home : ℕ → ℕ) (path : ℕ → List ℕ)
      → insert.row.no ≡ of → placed of ≡ true → path of ≡ way → NobodyAt ways of
      → ((a r : ℕ) (row : Row) → r ≢ of → commands a ≡ doing r (work_is.Insert row true) → commands_now a ≡ doing r (work_is.Insert row true))
      → Placing s h commands ways queues gate shape placed home path → Placing s (Acked of way ∷ h) commands_now ways queues gate shape placed home path
  placing-acked commands commands_now ways queues gate shape placed home path number is_placed came nobody stay_open i = record {
    one = λ x r live. i.one x r (sym (live-stays s.workers (Acked of way) h ack-stays x) ∙ live);
    stands = λ r p. live-stays s.workers (Acked of way) h ack-stays (home r) ∙ i.stands r p;
    begun = λ r p. let b = i.begun r p in (b.0, insert-kept (Acked of way) h r b.0 b.1);
    line = λ r p. let l = i.line r p in (l.0, comes-stays s.workers (Acked of way) h ack-stays _ (home r) ∙ l.1);
    acked_rows = λ k has. elim (Contains-first (ack_of way insert) (acked h) k (subst (λ (ks : List Ack). Contains ks k) ack-changes.acked has)) [
      | inl new ↦ subst (λ (k : Ack). (placed k.row.no ≡ true) × (path k.row.no ≡ k.path) × NobodyAt ways k.row.no) new
          (subst (λ (r : ℕ). (placed r ≡ true) × (path r ≡ way) × NobodyAt ways r) (sym number) (is_placed, came, nobody))
      | inr old ↦ i.acked_rows k old
    ];
    others = λ r p. on_bool (r == of)
        (λ here. let is : r ≡ of = eqb-true r of here in
        inl (ack_of way insert, subst (λ (ks : List Ack). Contains ks (ack_of way insert)) (sym ack-changes.acked) (0, omega arith, refl), number ∙ sym is))
        (λ off. elim (i.others r p) [
          | inl old ↦ inl (old.0, subst (λ (ks : List Ack). Contains ks old.0) (sym ack-changes.acked) (Contains-append_right (ack_of way insert ∷ []) (acked h) old.0 old.1), old.2)
          | inr routed ↦ inr (routed.0, routed.1, stay_open routed.0 r routed.1 (eqb-false r of off) routed.2)
        ]);
  }

  pub inserting-acked : (images : ℕ → ImageValue) (desks : ℕ → DeskValue) (commands : ℕ → Option Command) (ways : ℕ → Option RowWay) (placed : ℕ → Bool) (path : ℕ → List ℕ)
      → Inserting s h images desks commands ways placed path → Inserting s (Acked of way ∷ h) images desks commands ways placed path
  inserting-acked images desks commands ways placed path i =
      inserting-grown s (Acked of way) h ack-stays images desks commands ways placed path (λ server r within op. insert-same (Acked of way) h refl r) i

  -- What is known. The boxes have grown before.

  pub imaging-acked : (images : ℕ → ImageValue) (placed : ℕ → Bool) → AreOlder h placed → Imaging s h (row_at h) images placed → Imaging s (Acked of way ∷ h) (row_at (Acked of way ∷ h)) images placed
  imaging-acked images placed older i = imaging-grown s (Acked of way) h ack-stays placed older images ack-changes.pulls i

  -- what holds of all that a server had to know, and of the row that is acknowledged where it must know that too
  pub All-known-acked : (P : Ack → Type 0) (server : ℕ) → All P (known s.hierarchy h server)
      → ((insert.server ≡ server) ⊎ IsTrue (is_listed s.hierarchy (listing_of h server) (ack_of way insert)) → P (ack_of way insert))
      → All P (known s.hierarchy (Acked of way ∷ h) server)
  All-known-acked P server all new =
      let inside : (k : Ack) → Contains (known s.hierarchy h server) k → P k = λ k has. All-contains P (known s.hierarchy h server) k all has in
      let owns : All P (own h server) = All-weaker (Contains (own h server)) P (λ k has. inside k (Contains-append_left (own h server ++ passed h server) (listed s.hierarchy h server) k (Contains-append_left (own h server) (passed h server) k has))) (own h server) (All-contains_itself (own h server)) in
      let told : All P (passed h server) = All-weaker (Contains (passed h server)) P (λ k has. inside k (Contains-append_left (own h server ++ passed h server) (listed s.hierarchy h server) k (Contains-append_right (own h server) (passed h server) k has))) (passed h server) (All-contains_itself (passed h server)) in
      let lists : All P (listed s.hierarchy h server) = All-weaker (Contains (listed s.hierarchy h server)) P (λ k has. inside k (Contains-append_right (own h server ++ passed h server) (listed s.hierarchy h server) k has)) (listed s.hierarchy h server) (All-contains_itself (listed s.hierarchy h server)) in
      All-append P (own (Acked of way ∷ h) server ++ passed (Acked of way ∷ h) server) (listed s.hierarchy (Acked of way ∷ h) server)
      (All-append P (own (Acked of way ∷ h) server) (passed (Acked of way ∷ h) server)
      (subst (All P) (sym (ack-changes.own server)) (cond_both (insert.server == server) (ack_of way insert ∷ own h server) (own h server) (All P)
      (λ q. All-cons P (ack_of way insert) (own h server) (new (inl (eqb-true insert.server server q))) owns) (λ q. owns)))
      (subst (All P) (sym (ack-changes.pulls.passed server)) told))
      (subst (All P) (sym (ack-changes.listed server)) (cond_both (is_listed s.hierarchy (listing_of h server) (ack_of way insert)) (ack_of way insert ∷ listed s.hierarchy h server) (listed s.hierarchy h server) (All P)
      (λ q. All-cons P (ack_of way insert) (listed s.hierarchy h server) (new (inr q)) lists) (λ q. lists)))

  -- the row that is acknowledged fits, or its server has noted it; and each server that must know it covers it
  pub covering-acked : (registry : RegistryValue) (images : ℕ → ImageValue) (placed : ℕ → Bool) (home : ℕ → ℕ) (path : ℕ → List ℕ)
      → AreOlder h placed → insert.row.no ≡ of → placed of ≡ true
      → Fits s.hierarchy (row_at h) home registry.frontier of ⊎ Contains (images insert.server).growths (record { shard = last_of way; at = insert.row.at })
      → ((server : ℕ) → server < s.servers → (insert.server ≡ server) ⊎ IsTrue (is_listed s.hierarchy (listing_of h server) (ack_of way insert))
      → IsCovered s.hierarchy h (row_at h) home (images server).spots of)
      → Covering s h (row_at h) registry images placed home path → Covering s (Acked of way ∷ h) (row_at (Acked of way ∷ h)) registry images placed home path
  covering-acked registry images placed home path older number is_placed fits covers i = record {
    boxes = boxes-grown s (Acked of way) h ack-stays placed older registry images home path i;
    came = came-grown s (Acked of way) h ack-stays placed older registry images home path i;
    pushed = subst (All (λ (k : Ack). Fits s.hierarchy (row_at (Acked of way ∷ h)) home registry.frontier k.row.no)) (sym ack-changes.pulls.published)
        (pushed-grown s (Acked of way) h ack-stays placed older registry images home path i);
    noted = subst (All (λ (k : Ack). Fits s.hierarchy (row_at (Acked of way ∷ h)) home registry.frontier k.row.no ⊎ Contains (images k.server).growths (record { shard = last_of k.path; at = k.row.at }))) (sym ack-changes.acked)
        (All-cons (λ (k : Ack). Fits s.hierarchy (row_at (Acked of way ∷ h)) home registry.frontier k.row.no ⊎ Contains (images k.server).growths (record { shard = last_of k.path; at = k.row.at })) (ack_of way insert) (acked h)
        (elim fits [
          | inl f ↦ inl (subst (λ (r : ℕ). Fits s.hierarchy (row_at (Acked of way ∷ h)) home registry.frontier r) (sym number) (fits-grown s (Acked of way) h ack-stays placed older home registry.frontier of is_placed f))
          | inr g ↦ inr g
        ])
        (noted-grown s (Acked of way) h ack-stays placed older registry images home path i));
    must = λ server within.
        All-known-acked (λ (k : Ack). IsCovered s.hierarchy (Acked of way ∷ h) (row_at (Acked of way ∷ h)) home (images server).spots k.row.no) server
        (must-grown s (Acked of way) h ack-stays placed older registry images home path i server within)
        (λ why. subst (λ (r : ℕ). IsCovered s.hierarchy (Acked of way ∷ h) (row_at (Acked of way ∷ h)) home (images server).spots r) (sym number)
        (covered-grown s (Acked of way) h ack-stays placed older home (images server).spots of is_placed (covers server within why)));
    unacked = unacked-grown s (Acked of way) h ack-stays placed older registry images home path i;
  }

  -- Desks, queries, jobs and balances.

  pub desking-acked : (desks : ℕ → DeskValue) (roles : ℕ → Role) (commands : ℕ → Option Command) (taken : ℕ → Option Taken)
      → Desking s h desks roles commands taken → Desking s (Acked of way ∷ h) desks roles commands taken
  desking-acked desks roles commands taken i = desking-grown s (Acked of way) h ack-stays desks roles commands taken
      (λ server b within op. (insert-same (Acked of way) h refl b, query-same (Acked of way) h refl b)) i

  pub querying-acked : (blocks : ℕ → Block) (trees : ℕ → Gate) (desks : ℕ → DeskValue) (taken : ℕ → Option Taken) (reads : ℕ → Option ReadPart) (shape : ℕ → Shape) (placed : ℕ → Bool) (home : ℕ → ℕ) (counted : ℕ → ℕ → List ℕ)
      → AreOlder h placed → Querying s h (row_at h) blocks trees desks taken reads shape placed home counted
      → Querying s (Acked of way ∷ h) (row_at (Acked of way ∷ h)) blocks trees desks taken reads shape placed home counted
  querying-acked blocks trees desks taken reads shape placed home counted older i = querying-grown s (Acked of way) h ack-stays placed home older blocks trees desks taken reads shape counted
      (λ server b known op. query-same (Acked of way) h refl b) (λ a b q p is op asked n some. ap (λ (row : ℕ → Row). row n) rows-acked) i

  pub working-acked : (blocks : ℕ → Block) (made : ℕ → Bool) (trees : ℕ → Gate) (phases : ℕ → Option Phase) (active : ℕ → ℕ) (queues : ℕ → Queue) (purses : ℕ → List Spare) (commands : ℕ → Option Command) (jobs : ℕ → Option JobValue) (gate : ℕ → ℕ) (shape : ℕ → Shape) (placed : ℕ → Bool)
      → ((a : ℕ) (c : Command) → commands a ≡ Some c → c.of < length h)
      → Working s h blocks made trees phases active queues purses commands jobs gate shape placed → Working s (Acked of way ∷ h) blocks made trees phases active queues purses commands jobs gate shape placed
  working-acked blocks made trees phases active queues purses commands jobs gate shape placed began i =
      working-grown s (Acked of way) h ack-stays blocks made trees phases active queues purses commands jobs gate shape placed (λ a c is. le_of_lt (began a c is)) i

  pub balancing-acked : (commands : ℕ → Option Command) (jobs : ℕ → Option JobValue) (placed : ℕ → Bool) (home : ℕ → ℕ)
      → ((a : ℕ) (c : Command) → commands a ≡ Some c → c.of < length h)
      → Balancing s h commands jobs placed home → Balancing s (Acked of way ∷ h) commands jobs placed home
  balancing-acked commands jobs placed home began i = balancing-grown s (Acked of way) h ack-stays commands jobs placed home (λ a b balance is. (le_of_lt (began a _ is), refl)) i

  -- Commands. The actor of the insert has none afterwards, and has seen all.

  pub telling-acked : (n : ℕ) (commands commands_now : ℕ → Option Command) (jobs : ℕ → Option JobValue) (roles : ℕ → Role) (seen seen_now : ℕ → ℕ) (placed : ℕ → Bool) (routed : Bool)
      → commands n ≡ doing of (work_is.Insert insert.row routed) → commands_now n ≡ None → seen_now n ≡ length (Acked of way ∷ h)
      → ((a : ℕ) → a ≢ n → (commands_now a ≡ commands a) × (seen_now a ≡ seen a))
      → IsTrue (is_path h insert.server way)
      → Telling s h commands jobs roles seen placed → Telling s (Acked of way ∷ h) commands_now jobs roles seen_now placed
  telling-acked n commands commands_now jobs roles seen seen_now placed routed command ended all_seen others path i =
      let its : Command = record { of = of; work = work_is.Insert insert.row routed } in
      telling-ends s (Acked of way) h n commands commands_now jobs jobs roles seen seen_now placed
      (record { others = λ a off. let o = others a off in (o.0, refl, o.1); all_seen = all_seen })
      (KeepsRight-acked (site_in s) placed h of way i.right (record { insert = insert; begun = begun; is_open = i.is_open n its command; descends = path }))
      i its refl command ended

-- what is owed, with one promise used
pub few-acked : (h : List Event) (of : ℕ) (way : List ℕ) (promised promised_now : ℕ) → promised + 0 ≡ promised_now + 1 → length h + promised < 2 ^ 31 → length (Acked of way ∷ h) + promised_now < 2 ^ 31
few-acked h of way promised promised_now used few = few-pushed (Acked of way) h promised promised_now (2 ^ 31) (omega arith) few
