-- A purse is filled, or what is left in it is given back.
use Rattle.std.proofs.{Common.{◌≡◌, ◌≢◌, ℕ, ◌+◌, ◌-◌, ◌*◌, ◌^◌, ◌<◌, ◌≤◌, Bool, true, false, eqb, leb, List, [], ◌∷◌, ◌++◌, length, Option, Some, None, All, refl, sym, ap, ◌∙◌, subst, inl, inr, arith}, lemmas.Bool.{leb-false, leb-true, eqb-true, eqb-false}, lemmas.List.Elements.{All-head, All-tail, All-weaker}}
use Rattle.std.specs.{List.range_with_len, Prelude.option_map}
use Rattle.cell_stock.specs.{Stock.{AreOut, Gives, IsStock, PurseValue, StockValue, Takes, cells_of, stamps_of}, declared.purse.Spare.Spare}
use Rattle.cell_stock.proofs.Cells.{IsDistinct-range, Takes-AreFresh}
use Rattle.dim_hierarchy.specs.Dimension.{Dimension}
use Rattle.row_ledger.specs.declared.event.Event.{Event}
use Rattle.list_words.specs.Counts.{Each, times}
use Rattle.list_words.proofs.{Times.{times-append, times-distinct}, Truth.on_bool}
use Rattle.volap_cell.specs.{Cells.{CellValue, StockCell}, Errands.{AtBlock, IsCarried, Outside, RowWay, block_at, height_of, is_filled, place_of, row_way, way_of}, Falls.{far, gates_of_errand, gates_of_task, gates_of_way, left, one_if_any, per_gate, rows_of_errand}, Ghost.Ghost, Invariant.InvWith, Setting.{Setting, actor_count}, Steps.{IsHere, IsKept, Keeps, Makes}, TreeKinds.{DoesRefill, Empties, Fills, HasRow, on_way}, Values.{ActorValue, ErrandValue}, View.{View, view}, World.{Agrees, Change, World, after, change, held}, declared.errand.RowErrand.RowErrand, declared.errand.Way.Way, declared.errand.Way.TheVariants.{Before, Carried, Placed, Put}, declared.kind.Kind.TheVariants.Refill, declared.role.Role.TheVariants.Admin}
use Rattle.volap_cell.proofs.{Actors.{row-at, taken-is}, Cells.Past.stock-past, Persons.has-taken, Views.Fields.IsNew, Views.Frames.{actor-at, actor-off}, Views.Seen.renewed, Views.Shown.held-stock, Views.Trees.{by_refill, view-refill}}
use Rattle.core_tree.specs.DueAtGates.{CanGiveBack, CanRefill, IsRefilled}
use Rattle.core_tree.proofs.{Rows.Arrivals.same-row, Rows.AsFar.{as_far, inserting-still, placing-still, turning-still}, Rows.Remains.{IsStepOf, control-same, gates-changed, rows-changed}, Stocks.Exchanges.{Exchanges, are-out, exchanged-lineage, exchanged-numbering, exchanged-stamping, exchanged-stocking, exchanged-working, exchanged_owner, stock-valid}}

-- Between the stock and the purse.

-- the purse is emptied
pub gives-exchanges : (stock now : StockValue) (purse emptied : PurseValue) (spares : List Spare) → purse.spares ≡ spares → stock.stamps < 2 ^ 63 → Gives stock now purse emptied → Exchanges stock now spares []
gives-exchanges stock now purse emptied spares is few gives = record {
  counts = λ y. let k = ap (times y) gives.cells ∙ times-append y stock.free (cells_of purse.spares) in
      let l = ap (λ (ss : List Spare). times y (cells_of ss)) is in omega arith;
  later = (let k = gives.stamps in omega arith);
  few = (let k = gives.stamps in omega arith);
  ids = gives.ids;
  all = gives.all;
  given = tt;
  once = λ y. omega arith;
}

each-stamp : (P : ℕ → Type 0) (xs : List Spare) → All P (stamps_of xs) → Each (λ (x : Spare). P x.stamp) xs
each-stamp P [] all = tt
each-stamp P (x ∷ xs) all = (All-head P x.stamp (stamps_of xs) all, each-stamp P xs (All-tail P x.stamp (stamps_of xs) all))

-- and filled again
pub takes-exchanges : (stock between now : StockValue) (spares : List Spare) (n : ℕ) (emptied purse_now : PurseValue) → Exchanges stock between spares [] → IsStock between → emptied.spares ≡ [] → now.stamps < 2 ^ 63 → Takes n between now emptied purse_now
    → Exchanges stock now spares purse_now.spares
takes-exchanges stock between now spares n emptied purse_now first valid none few takes =
    let taken : purse_now.spares ≡ takes.spares = takes.filled ∙ ap (λ (ss : List Spare). ss ++ takes.spares) none in
    let next = takes.next in
    let later = first.later in
    subst (Exchanges stock now spares) (sym taken) (record {
      counts = λ y. let k = ap (times y) takes.cells ∙ times-append y now.free (cells_of takes.spares) in
          let l = first.counts y in omega arith;
      later = omega arith;
      few = few;
      ids = takes.ids ∙ first.ids;
      all = takes.all ∙ first.all;
      given = each-stamp (λ stamp. (stock.stamps ≤ stamp) × (stamp < now.stamps)) takes.spares
          (All-weaker (λ stamp. (between.stamps ≤ stamp) × (stamp < now.stamps)) (λ stamp. (stock.stamps ≤ stamp) × (stamp < now.stamps)) (λ stamp both. let le = both.0 in (omega arith, both.1)) (stamps_of takes.spares)
          (Takes-AreFresh n between now emptied purse_now valid takes).stamps);
      once = subst (λ (xs : List ℕ). (y : ℕ) → times y xs ≤ 1) (sym takes.stamps) (times-distinct (range_with_len between.stamps n) (IsDistinct-range between.stamps n));
    })

-- The way of a row whose purse is filled.

noted-before : (way : Way) (height : ℕ) → height_of way ≡ Some height → is_filled way ≡ false → way ≡ Before (Some height) false
noted-before (Before known filled) height noted unfilled = (λ k. Before (noted k) (unfilled k))
noted-before (Carried gate block) height noted unfilled = cc
noted-before (Put gate) height noted unfilled = cc
noted-before Placed height noted unfilled = cc

pub far-some : (workers : ℕ) (h : List Event) (x w : ℕ) → 1 ≤ far workers h x w
far-some workers h x w = omega arith

module _ (c : Change) (b : ActorValue) (s : Setting) (w : World) (n : ℕ) (g : Ghost) (i : InvWith s (view s w) g) (ag : Agrees w (c ∷ []) n (w.actors n)) (d : DoesRefill c (w.actors n) b) where
  abbrev v : View
  v = view s w

  abbrev w2 : World
  w2 = after w (c ∷ []) n b

  abbrev u : View
  u = view s w2

  abbrev v2 : View
  v2 = renewed by_refill u v

  same : u ≡ v2
  same = view-refill s w n c (w.actors n) b ag d

  stocks : IsNew u.stock v.stock d.stock d.stock_now
  stocks = stock-past s w.cells i.numbering.tag [] c [] ag.cells tt d.stock d.stock_now d.was d.is

  jobless : v.jobs n ≡ None
  jobless = d.no_job

  few-stamps : v.stock.stamps < 2 ^ 63
  few-stamps = i.stocking.valid.stamps

  emptied : (between : StockValue) (purse empty : PurseValue) → purse.spares ≡ v.purses n → Gives d.stock between purse empty → Exchanges v.stock between (v.purses n) []
  emptied between purse empty is gives = gives-exchanges v.stock between purse empty (v.purses n) is few-stamps (subst (λ (z : StockValue). Gives z between purse empty) (sym stocks.was_that) gives)

  fills : (height : ℕ) → Fills height d.stock d.stock_now (w.actors n) b → Exchanges v.stock d.stock_now (v.purses n) b.purse
  fills height f =
      let first = emptied f.between f.purse f.emptied f.purse_was f.gives in
      elim f.takes [
        | inl taken ↦ subst (Exchanges v.stock d.stock_now (v.purses n)) f.purse_is
            (takes-exchanges v.stock f.between d.stock_now (v.purses n) (height + 2) f.emptied f.purse_now first (stock-valid s w g i n f.between [] jobless first) f.gives.emptied f.stamps taken.1)
        | inr left_ ↦ subst (Exchanges v.stock d.stock_now (v.purses n)) (sym left_.2) (subst (λ (z : StockValue). Exchanges v.stock z (v.purses n) []) (sym left_.1) first)
      ]

  exchange : Exchanges v.stock u.stock (v.purses n) b.purse
  exchange = subst (λ (z : StockValue). Exchanges v.stock z (v.purses n) b.purse) (sym stocks.is_that) (elim d.does [
    | inl filled ↦ fills filled.0 filled.1
    | inr e ↦ subst (Exchanges v.stock d.stock_now (v.purses n)) (sym (ap (λ (a : ActorValue). a.purse) e.actor_is)) (emptied d.stock_now e.purse e.emptied e.purse_was e.gives)
  ])

  -- The actor is there, and carries no row.

  few : n < actor_count s
  few = elim d.does [
    | inl filled ↦ has-taken s v i.numbering n _ (taken-is filled.1.has.errand filled.1.has.row)
    | inr e ↦ on_bool (leb (actor_count s) n) (λ q. absurd (e.some (i.numbering.nobody n (leb-true _ _ q)).1)) (λ q. leb-false _ _ q)
  ]

  free : (x y : ℕ) (way : RowWay) → v.ways n ≡ Some way → way.place ≢ AtBlock x y
  free x y way is at = elim d.does [
    | inl filled ↦ (let f = filled.1 in
        let both : ◌≡◌ {A = Option RowWay} (Some (row_way f.e f.r)) (Some way) = sym (row-at f.has) ∙ is in
        let out : place_of f.r.way ≡ Outside = ap place_of (noted-before f.r.way filled.0 f.noted f.unfilled) in
        let its : row_way f.e f.r ≡ way = cc in
        let no : Outside ≡ AtBlock x y = sym out ∙ ap (λ (z : RowWay). z.place) its ∙ at in cc)
    | inr e ↦ e.none_carried y (subst (λ (o : Option RowWay). IsCarried o y) (sym is) (ap block_at at))
  ]

  mine : u.purses n ≡ b.purse
  mine = ap (λ (a : ActorValue). a.purse) (actor-at w.actors n b)

  off : (a : ℕ) → a ≢ n → u.purses a ≡ v.purses a
  off a ne = ap (λ (z : ActorValue). z.purse) (actor-off w.actors n b a ne)

  boxes-off : (a : ℕ) → a ≢ n → u.boxes a ≡ v.boxes a
  boxes-off a ne = ap (λ (z : ActorValue). z.boxes) (actor-off w.actors n b a ne)

  ways-off : (a : ℕ) → a ≢ n → u.ways a ≡ v.ways a
  ways-off a ne = ap (λ (z : ActorValue). way_of z.errand) (actor-off w.actors n b a ne)

  -- its row is where it was
  still : (a : ℕ) → option_map as_far (u.ways a) ≡ option_map as_far (v.ways a)
  still a = on_bool (eqb a n)
      (λ q. let is = eqb-true a n q in
      ap (λ (z : ℕ). option_map as_far (u.ways z)) is ∙ ap (λ (z : ActorValue). option_map as_far (way_of z.errand)) (actor-at w.actors n b) ∙ here ∙ sym (ap (λ (z : ℕ). option_map as_far (v.ways z)) is))
      (λ q. ap (option_map as_far) (ways-off a (eqb-false a n q)))
    where
      here : option_map as_far (way_of b.errand) ≡ option_map as_far (v.ways n)
      here = elim d.does [
        | inl filled ↦ (let f = filled.1 in
            let out : place_of f.r.way ≡ Outside = ap place_of (noted-before f.r.way filled.0 f.noted f.unfilled) in
            ap (λ (z : ActorValue). option_map as_far (way_of z.errand)) f.actor_is ∙ (λ k. Some (record (row_way f.e f.r) { place = sym out k; filled = false })) ∙ sym (ap (option_map as_far) (row-at f.has)))
        | inr e ↦ ap (λ (z : ActorValue). option_map as_far (way_of z.errand)) e.actor_is
      ]

  boxed : (x : RowWay) → u.ways n ≡ Some x → x.filled ≡ true → 2 * length (u.purses n) + 1 ≤ u.boxes n
  boxed x is filled =
      let boxes_now : u.boxes n ≡ b.boxes = ap (λ (z : ActorValue). z.boxes) (actor-at w.actors n b) in
      rw (mine, boxes_now) (elim d.does [
        | inl done ↦ done.1.boxes
        | inr e ↦ (let was : v.ways n ≡ Some x = sym (ap (λ (z : ActorValue). way_of z.errand) (actor-at w.actors n b) ∙ ap (λ (z : ActorValue). way_of z.errand) e.actor_is) ∙ is in
            let had : 2 * length (w.actors n).purse + 1 ≤ (w.actors n).boxes = i.turning.boxed n x was filled in
            let none : length b.purse ≡ 0 = ap (λ (z : ActorValue). length z.purse) e.actor_is in
            let same_boxes : b.boxes ≡ (w.actors n).boxes = ap (λ (z : ActorValue). z.boxes) e.actor_is in
            omega arith)
      ])

  -- an administrator is at no part, and so gives its spares back
  admin : v.roles n ≡ Admin → b.purse ≡ []
  admin role = elim d.does [
    | inl filled ↦ absurd (i.numbering.parts n _ (taken-is filled.1.has.errand filled.1.has.row) role)
    | inr e ↦ ap (λ (a : ActorValue). a.purse) e.actor_is
  ]

  abbrev g2 : Ghost
  g2 = record g { owner = exchanged_owner b.purse n g.owner }

  pub holds : InvWith s v2 g2
  holds = record {
    numbering = exchanged-numbering s w g i n u.stock b.purse jobless exchange u.purses mine off few admin;
    telling = i.telling;
    owing = i.owing;
    turning = turning-still v.ways u.ways still n ways-off free v.purses u.purses off v.boxes u.boxes boxes-off s v.phases v.active g.gate g.shape g.home boxed i.turning;
    stocking = exchanged-stocking s w g i n u.stock b.purse jobless exchange u.purses mine off;
    stamping = exchanged-stamping s w g i n u.stock b.purse jobless exchange u.purses mine off;
    lineage = exchanged-lineage s w g i n u.stock b.purse jobless exchange u.purses mine off;
    leading = i.leading;
    growing = i.growing;
    queueing = i.queueing;
    resting = i.resting;
    placing = placing-still v.ways u.ways still s v.history v.commands v.queues g.gate g.shape g.placed g.home g.path i.placing;
    inserting = inserting-still v.ways u.ways still s v.history v.images v.desks v.commands g.placed g.path i.inserting;
    imaging = i.imaging;
    covering = i.covering;
    desking = i.desking;
    pinning = i.pinning;
    querying = i.querying;
    working = exchanged-working s w g i n u.stock b.purse jobless exchange u.purses mine off;
    balancing = i.balancing;
    reusing = i.reusing;
  }

  -- What is left.

  step-of : IsStepOf s w w2 n b
  step-of = record {
    few = few;
    at = actor-at w.actors n b;
    off = λ a ne. actor-off w.actors n b a ne;
    history = ap (λ (x : View). x.history) same;
    desks = ap (λ (x : View). x.desks) same;
    phases = ap (λ (x : View). x.phases) same;
    gone = ap (λ (x : View). x.gone) same;
    command = elim d.does [ inl filled ↦ ap (λ (a : ActorValue). a.command) filled.1.actor_is | inr e ↦ ap (λ (a : ActorValue). a.command) e.actor_is ];
    job = elim d.does [ inl filled ↦ ap (λ (a : ActorValue). a.job) filled.1.actor_is | inr e ↦ ap (λ (a : ActorValue). a.job) e.actor_is ];
  }

  gates-less : (height : ℕ) → Fills height d.stock d.stock_now (w.actors n) b → (left s w2 g2).gates < (left s w g).gates
  gates-less height f =
      let all = gates-changed s w w2 g g2 n b step-of in
      let far_ = far s.workers v.history f.e.shard f.e.worker in
      let some = far-some s.workers v.history f.e.shard f.e.worker in
      let now : gates_of_errand s v.history b.errand ≡ per_gate * far_ - 3 = ap (λ (a : ActorValue). gates_of_errand s v.history a.errand) f.actor_is in
      let was : gates_of_errand s v.history (w.actors n).errand ≡ per_gate * far_ - 2 =
      ap (gates_of_errand s v.history) f.has.errand ∙ ap (gates_of_task far_) f.has.row ∙ ap (gates_of_way far_) (noted-before f.r.way height f.noted f.unfilled) in
      omega arith

  gates-same : Empties d.stock d.stock_now (w.actors n) b → (left s w2 g2).gates ≡ (left s w g).gates
  gates-same e =
      let all = gates-changed s w w2 g g2 n b step-of in
      let now : gates_of_errand s v.history b.errand ≡ gates_of_errand s v.history (w.actors n).errand = ap (λ (a : ActorValue). gates_of_errand s v.history a.errand) e.actor_is in
      omega arith

  any-some : (ss : List Spare) → ss ≢ [] → one_if_any ss ≡ 1
  any-some [] some = absurd (some refl)
  any-some (x ∷ ss) some = refl

  rows-less : Empties d.stock d.stock_now (w.actors n) b → (left s w2 g2).rows < (left s w g).rows
  rows-less e =
      let all = rows-changed s w w2 g g2 n b step-of refl in
      let errand : rows_of_errand g.shape b.errand ≡ rows_of_errand g.shape (w.actors n).errand = ap (λ (a : ActorValue). rows_of_errand g.shape a.errand) e.actor_is in
      let now : one_if_any b.purse ≡ 0 = ap (λ (a : ActorValue). one_if_any a.purse) e.actor_is in
      let was = any-some (w.actors n).purse e.some in
      omega arith

  pub refill-kept : IsKept s Refill n w w2 g
  refill-kept = record {
    step = record { changes = c ∷ []; actor = b; agrees = ag; does = d; sight = tt; now_is = refl };
    ghost_now = g2;
    holds = subst (λ (x : View). InvWith s x g2) (sym same) holds;
    newer = [];
    grows = ap (λ (x : View). x.history) same;
    goes_on = elim d.does [
      | inl filled ↦ inl (inr (inl (control-same s w w2 g g2 n b step-of, gates-less filled.0 filled.1)))
      | inr e ↦ inl (inr (inr (inl (control-same s w w2 g g2 n b step-of, gates-same e, rows-less e))))
    ];
  }

pub refill-keeps : (h : List Dimension) (c : Change) (a b : ActorValue) (d : DoesRefill c a b) → Keeps h Refill (c ∷ []) a b d
refill-keeps h c a b d s w n g about i ag sight =
    refill-kept c b s w n g i (record { cells = ag.cells; actor_is = refl; free = λ x ne. ag.free x ne }) (subst (λ (z : ActorValue). DoesRefill c z b) (sym ag.actor_is) d)

-- The calls.

-- what a filled purse's kind did
pub refill-makes : (h : List Dimension) (at : ℕ) (cell : CellValue) (stock now : StockValue) (a b : ActorValue) (e : ErrandValue) (r : RowErrand) (height : ℕ) (filled : Bool) (purse purse_now : PurseValue) → CanRefill cell a
    → cell ≡ StockCell stock → HasRow a e r → r.way ≡ Before (Some height) filled → purse.spares ≡ a.purse → IsRefilled (height + 2) stock now purse purse_now b.boxes → purse_now.spares ≡ b.purse
    → b ≡ record a { purse = b.purse; boxes = b.boxes; errand = on_way e r (Before (Some height) true) } → Makes h Refill (change at cell (StockCell now) ∷ []) a b
refill-makes h at cell stock now a b e r height filled purse purse_now due is has before purse_was done purse_is actor_is =
    let same = (same-row has due.has).1 in
    let does : DoesRefill (change at cell (StockCell now)) a b = record {
      no_job = due.no_job;
      stock = stock;
      stock_now = now;
      was = is;
      is = refl;
      does = inl (
        height,
        record {
          purse = purse;
          purse_was = purse_was;
          emptied = done.emptied;
          between = done.between;
          gives = done.gives;
          purse_now = purse_now;
          purse_is = purse_is;
          takes = elim done.takes [ inl taken ↦ inl taken | inr none ↦ inr (none.0, none.1, sym purse_is ∙ none.2) ];
          stamps = done.stamps;
          boxes = subst (λ (ss : List Spare). 2 * length ss + 1 ≤ b.boxes) purse_is done.enough;
          e = e;
          r = r;
          has = has;
          noted = ap height_of before;
          unfilled = ap (λ (x : RowErrand). is_filled x.way) same ∙ due.unfilled;
          actor_is = actor_is;
        },
      );
    } in
    record { does = does; keeps = refill-keeps h (change at cell (StockCell now)) a b does }

-- what an emptied purse's kind did
pub give-makes : (h : List Dimension) (at : ℕ) (cell : CellValue) (stock now : StockValue) (a b : ActorValue) (purse emptied : PurseValue) → CanGiveBack cell a → cell ≡ StockCell stock → purse.spares ≡ a.purse → Gives stock now purse emptied
    → b ≡ record a { purse = [] } → Makes h Refill (change at cell (StockCell now) ∷ []) a b
give-makes h at cell stock now a b purse emptied due is purse_was gives actor_is =
    let does : DoesRefill (change at cell (StockCell now)) a b = record {
      no_job = due.no_job;
      stock = stock;
      stock_now = now;
      was = is;
      is = refl;
      does = inr (record { some = due.some; none_to_fill = due.none_to_fill; none_carried = due.none_carried; purse = purse; purse_was = purse_was; emptied = emptied; gives = gives; actor_is = actor_is });
    } in
    record { does = does; keeps = refill-keeps h (change at cell (StockCell now)) a b does }

-- what is in the purse may go back
pub can-give : (h : List Dimension) (at : ℕ) (cell : CellValue) (a : ActorValue) (stock : StockValue) → IsHere h (held at cell ∷ []) a → cell ≡ StockCell stock → AreOut stock a.purse
can-give h at cell a stock k is =
    let i = k.inv.holds in
    let held_there = held-stock a.setting k.world i.numbering.tag at stock (k.agrees.cells.0 ∙ is) in
    let purse : (k.world.actors k.number).purse ≡ a.purse = ap (λ (z : ActorValue). z.purse) k.agrees.actor_is in
    subst (λ (z : StockValue). AreOut z a.purse) held_there (subst (AreOut (view a.setting k.world).stock) purse (are-out a.setting (view a.setting k.world) k.inv.ghost_of i k.number))
