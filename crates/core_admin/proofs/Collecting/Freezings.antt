-- A shard is frozen: its gate's phase is new, and the cells that the job needs go from the stock to the purse.
use Rattle.std.proofs.{Common.{◌≡◌, ◌≢◌, ℕ, ◌+◌, ◌*◌, ◌^◌, ◌<◌, ◌≤◌, Bool, false, cond, eqb, List, [], ◌∷◌, ◌++◌, length, Option, Some, None, IsSome, All, refl, sym, ap, ◌∙◌, subst, ◌⊎◌, inl, inr, arith, append-nil}, lemmas.Bool.{eqb-true, eqb-false}, lemmas.List.Elements.{All-head, All-tail}}
use Rattle.std.specs.List.{AllByRecursion, IsDistinct, range_with_len}
use Rattle.cell_stock.specs.{Stock.{IsStock, StockValue, cells_of, stamps_of}, declared.purse.Spare.Spare}
use Rattle.cell_stock.proofs.Cells.{IsDistinct-range, Takes-AreFresh}
use Rattle.describing_set.specs.{Plane.IsPlaneOf, Sets.IsDescSetOf, declared.plane.Plane.Plane, declared.set.DescSet.DescSet}
use Rattle.core_tree.specs.shard_store.specs.{declared.gate.Gate.Gate, declared.gate.Phase.Phase, declared.queue.Queue.Queue}
use Rattle.core_tree.specs.shard_store.specs.declared.gate.Phase.TheVariants as phase
use Rattle.list_words.specs.Counts.{Among, Each, times}
use Rattle.list_words.proofs.{Each.each-map, Times.{times-append, same_is, same_not}, Truth.on_bool}
use Rattle.core_tree.specs.volap_cell.specs.{AdminKinds.{Freezes, IsDivided, cells_needed, rows_at}, Cells.{GateCell, MapOf, OfStock, TheStock, phase_of, queue_in, tag_of, way_in, way_to_tree}, Errands.{RowWay, Taken, taken_of, way_of}, Falls.{Falls, gone_left, job_left, left, plenty, stage_left}, Ghost.Ghost, Growing.Queueing, Invariant.InvWith, Lineage.Lineage, Reusing.is_gone, Setting.Setting, Stocking.{IsWhole, items_in, spent_of}, Turning.{IsIn, Turning}, Values.{ActorValue, ErrandValue, JobValue, StageValue, IsCalled, IsDeclined, IsFrozen, Collects, Builds}, View.{View, view}, Working.{IsFrozenFor, frozen_in}, World.{Agrees, Change, World, after}, declared.job.Frozen.Frozen}
use Rattle.core_tree.specs.volap_cell.proofs.{Cells.Past.stock-past, Persons.has-job, Reusing.stands-off, Views.Admin.{by_freeze, view-freeze}, Views.Fields.{IsNew, IsNewAt, actor-new}, Views.Frames.{actor-at, actor-off}, Views.Gates.gate-behind, Views.Seen.renewed}
use Rattle.core_admin.proofs.{Jobs.Controls.control-falls, Jobs.Staging.{IsAtWork, others-jobless, staged-balancing, staged-numbering, staged-telling, staged-working}, Purses.{Reshares, reshared, reshared-stamping, reshared-stocking}}

-- Spares that were just taken.

each-stamp : (P : ℕ → Type 0) (xs : List Spare) → All P (stamps_of xs) → Each (λ (x : Spare). P x.stamp) xs
each-stamp P [] all = tt
each-stamp P (x ∷ xs) all = (All-head P x.stamp (stamps_of xs) all, each-stamp P xs (All-tail P x.stamp (stamps_of xs) all))

not-counted : (x : ℕ) (ys : List ℕ) → AllByRecursion (λ y. eqb x y ≡ false) ys → times x ys ≡ 0
not-counted x [] a = refl
not-counted x (y ∷ ys) a = (let s = same_not x y (eqb-false _ _ a.0) in let k = not-counted x ys a.1 in omega (arith, s, k))

times-distinct : (xs : List ℕ) → IsDistinct eqb xs → (y : ℕ) → times y xs ≤ 1
unfolding IsDistinct
times-distinct [] d y = omega arith
times-distinct (x ∷ xs) d y = on_bool (eqb y x)
    (λ q. let e = eqb-true _ _ q in let s = same_is y x e in let k = not-counted x xs d.0 in
    let z : times y xs ≡ 0 = ap (λ (w : ℕ). times w xs) e ∙ k in omega (arith, s, z))
    (λ q. let s = same_not y x (eqb-false _ _ q) in let k = times-distinct xs d.1 y in omega (arith, s, k))

-- an actor at no part carries no row
pub wayless : (errand : Option ErrandValue) → ((t : Taken) → taken_of errand ≡ Some t → ⊥) → (x : RowWay) → way_of errand ≡ Some x → ⊥
wayless None none x is = cc
wayless (Some e) none x is = none _ refl

-- a plane where the job is a split, and none where it is a move

divided-split : (to : Option ℕ) (set : DescSet) (plane : Option Plane) → IsDivided to set plane → to ≡ None → IsSome plane
divided-split None set (Some plane) d e = refl
divided-split None set None d e = absurd d
divided-split (Some worker) set plane d e = absurd (cc)

divided-move : (to : Option ℕ) (set : DescSet) (plane : Option Plane) → IsDivided to set plane → (worker : ℕ) → to ≡ Some worker → plane ≡ None
divided-move None set plane d worker e = absurd (cc)
divided-move (Some x) set plane d worker e = d

divided-plane : (to : Option ℕ) (set : DescSet) (plane : Option Plane) → IsDivided to set plane → (p : Plane) → plane ≡ Some p → IsPlaneOf set p
divided-plane None set (Some plane) d p e = let same : plane ≡ p = cc in subst (IsPlaneOf set) same d
divided-plane None set None d p e = absurd d
divided-plane (Some worker) set plane d p e = let never : None ≡ Some p = sym d ∙ e in absurd (cc)

same-frozen : (f e : Frozen) → frozen_in (IsFrozen f) ≡ Some e → f ≡ e
same-frozen f e is = cc

-- the job of the actor leads to the gate that it holds
pub record IsAtGate (s : Setting) (w : World) (g : Ghost) (n : ℕ) (job : JobValue) (at : ℕ) (gate : Gate) : Type 0 where
  pub is_job : (w.actors n).job ≡ Some job
  pub called : job.stage ≡ IsCalled
  pub empty : (w.actors n).purse ≡ []
  pub leads : g.gate job.shard ≡ at
  pub cell : w.cells at ≡ GateCell gate
  pub standing : gate.phase ≢ phase.Gone

module _ (s : Setting) (w : World) (n : ℕ) (g : Ghost) (i : InvWith s (view s w) g) (m gt c : Change) (b : ActorValue) (ag : Agrees w (m ∷ gt ∷ c ∷ []) n (w.actors n)) (job : JobValue) (plane : Option Plane) (gate : Gate) (stock : StockValue)
    (worker : ℕ) (table : tag_of m.before ≡ MapOf worker) (read : m.now ≡ m.before) (at : IsAtGate s w g n job gt.number gate) (d : Freezes job plane gate stock gt c (w.actors n) b)
    (set : DescSet) (valid : IsDescSetOf s.hierarchy set) (divided : IsDivided job.to set plane) where
  abbrev v : View
  v = view s w

  abbrev w2 : World
  w2 = after w (m ∷ gt ∷ c ∷ []) n b

  abbrev u : View
  u = view s w2

  abbrev v2 : View
  v2 = renewed by_freeze u v

  same : u ≡ v2
  same = view-freeze s w n m gt c (w.actors n) b ag read job plane gate stock d

  abbrev frozen : Frozen
  frozen = record { gate = gt.number; plane = plane; rows = rows_at gate }

  new-job : b.job ≡ Some (record job { stage = IsFrozen frozen })
  new-job = ap (λ (a : ActorValue). a.job) d.actor_is

  new : IsNewAt u.jobs v.jobs n (Some job) (Some (record job { stage = IsFrozen frozen }))
  new =
      let k = actor-new (λ (a : ActorValue). a.job) w.actors n b in
      record { was_there = at.is_job; is_there = k.is_there ∙ new-job; elsewhere = k.elsewhere }

  mine : u.purses n ≡ b.purse
  mine = ap (λ (a : ActorValue). a.purse) (actor-at w.actors n b)

  off : (a : ℕ) → a ≢ n → u.purses a ≡ v.purses a
  off a ne = ap (λ (a : ActorValue). a.purse) (actor-off w.actors n b a ne)

  -- The gate's phase.

  phases-new : IsNewAt u.phases v.phases gt.number (Some gate.phase) (Some (phase.Frozen (length gate.queue.rows)))
  phases-new = gate-behind phase_of w.cells m gt (c ∷ []) ag.cells worker table read d.frozen (ap phase_of d.turns.is ∙ sym (ap phase_of d.turns.was), tt)

  stands-now : u.phases gt.number ≢ Some phase.Gone
  stands-now e = (let k : Some (phase.Frozen (length gate.queue.rows)) ≡ Some phase.Gone = sym phases-new.is_there ∙ e in cc)

  -- what holds of no gate's phase but of its being gone
  on-phase : (P : ℕ → Option Phase → Option Phase → Type 0) → P gt.number (Some gate.phase) (Some (phase.Frozen (length gate.queue.rows))) → ((y : ℕ) → P y (v.phases y) (v.phases y)) → (y : ℕ) → P y (v.phases y) (u.phases y)
  on-phase P here else_ y = on_bool (eqb y gt.number)
      (λ q. subst (λ (z : ℕ). P z (v.phases z) (u.phases z)) (sym (eqb-true _ _ q)) (subst (λ (p : Option Phase). P gt.number p (u.phases gt.number)) (sym phases-new.was_there) (subst (P gt.number (Some gate.phase)) (sym phases-new.is_there) here)))
      (λ q. subst (P y (v.phases y)) (sym (phases-new.elsewhere y (eqb-false _ _ q))) (else_ y))

  gone-was : (y : ℕ) → u.phases y ≡ Some phase.Gone → v.phases y ≡ Some phase.Gone
  gone-was = on-phase (λ y was now. now ≡ Some phase.Gone → was ≡ Some phase.Gone) (λ e. absurd (cc)) (λ y e. e)

  gone-now : (y : ℕ) → v.phases y ≡ Some phase.Gone → u.phases y ≡ Some phase.Gone
  gone-now = on-phase (λ y was now. was ≡ Some phase.Gone → now ≡ Some phase.Gone) (λ e. absurd (at.standing (cc))) (λ y e. e)

  whole-was : (y : ℕ) → IsWhole v.gates u.phases v.pins y → IsWhole v.gates v.phases v.pins y
  whole-was y whole = (whole.0, elim whole.1 [ inl stands ↦ inl (λ e. stands (gone-now y e)) | inr pinned ↦ inr pinned ])

  -- The cells that were taken.

  stocks : IsNew u.stock v.stock stock d.stock_now
  stocks = stock-past s w.cells i.numbering.tag (m ∷ gt ∷ []) c [] ag.cells (
    (λ e. let never : MapOf worker ≡ TheStock = sym table ∙ e ∙ ap tag_of d.turns.was in cc),
    ((λ e. let never : OfStock ≡ TheStock = ap tag_of (sym d.frozen.was) ∙ e ∙ ap tag_of d.turns.was in cc), tt),
  ) stock d.stock_now d.turns.was d.turns.is

  abbrev taken : List Spare
  taken = d.takes.spares

  purse-is : b.purse ≡ taken
  purse-is = sym d.purse_is ∙ d.takes.filled ∙ ap (λ (xs : List Spare). xs ++ taken) (d.purse_was ∙ at.empty)

  spent-none : spent_of (Some job) ≡ []
  spent-none = ap (λ (st : StageValue). spent_of (Some (record job { stage = st }))) at.called

  abbrev from : v.stock ≡ stock
  from = stocks.was_that

  reshares : Reshares v.stock u.stock (v.purses n) (spent_of (Some job)) b.purse []
  reshares = record {
    counts = λ y.
        let free : times y v.stock.free ≡ times y d.stock_now.free + times y (cells_of taken) = ap (λ (x : StockValue). times y x.free) from ∙ ap (times y) d.takes.cells ∙ times-append y d.stock_now.free (cells_of taken) in
        let now : times y u.stock.free ≡ times y d.stock_now.free = ap (λ (x : StockValue). times y x.free) stocks.is_that in
        let purse : times y (cells_of b.purse) ≡ times y (cells_of taken) = ap (λ (xs : List Spare). times y (cells_of xs)) purse-is in
        let none : times y (cells_of (v.purses n)) ≡ 0 = ap (λ (xs : List Spare). times y (cells_of xs)) at.empty in
        let unspent : times y (cells_of (spent_of (Some job))) ≡ 0 = ap (λ (xs : List Spare). times y (cells_of xs)) spent-none in
        omega (arith, free, now, purse, none, unspent);
    later = (let a = ap (λ (x : StockValue). x.stamps) from in let b = ap (λ (x : StockValue). x.stamps) stocks.is_that in let k = d.takes.next in omega (arith, a, b, k));
    few = subst (λ (x : StockValue). x.stamps < 2 ^ 63) (sym stocks.is_that) d.stamps;
    ids = ap (λ (x : StockValue). x.ids) stocks.is_that ∙ d.takes.ids ∙ sym (ap (λ (x : StockValue). x.ids) from);
    all = ap (λ (x : StockValue). x.cells) stocks.is_that ∙ d.takes.all ∙ sym (ap (λ (x : StockValue). x.cells) from);
    given = subst (Each (λ (x : Spare). ((v.stock.stamps ≤ x.stamp) × (x.stamp < u.stock.stamps)) ⊎ Among x (v.purses n ++ spent_of (Some job)))) (sym (append-nil b.purse ∙ purse-is))
        (each-map (λ (x : Spare). (stock.stamps ≤ x.stamp) × (x.stamp < d.stock_now.stamps)) (λ (x : Spare). ((v.stock.stamps ≤ x.stamp) × (x.stamp < u.stock.stamps)) ⊎ Among x (v.purses n ++ spent_of (Some job))) taken
        (λ x both. inl (subst (λ (y : StockValue). y.stamps ≤ x.stamp) (sym from) both.0, subst (λ (y : StockValue). x.stamp < y.stamps) (sym stocks.is_that) both.1))
        (each-stamp (λ stamp. (stock.stamps ≤ stamp) × (stamp < d.stock_now.stamps)) taken (Takes-AreFresh (cells_needed job.to (rows_at gate)) stock d.stock_now d.purse d.purse_now (subst IsStock from i.stocking.valid) d.takes).stamps));
    once = λ stamp. subst (λ (xs : List Spare). times stamp (stamps_of xs) ≤ 1) (sym (append-nil b.purse ∙ purse-is))
        (subst (λ (xs : List ℕ). times stamp xs ≤ 1) (sym d.takes.stamps) (times-distinct (range_with_len stock.stamps (cells_needed job.to (rows_at gate))) (IsDistinct-range stock.stamps (cells_needed job.to (rows_at gate))) stamp));
  }

  abbrev g2 : Ghost
  g2 = record g { owner = reshared b.purse [] n g.owner }

  -- The parts.

  no-way : (x : RowWay) → v.ways n ≡ Some x → ⊥
  no-way = wayless (w.actors n).errand (λ t is. i.numbering.parts n t is (i.numbering.working n job at.is_job))

  in-as : (x : RowWay) (y : ℕ) → IsIn v.phases g.gate g.shape g.home x y → IsIn u.phases g.gate g.shape g.home x y
  in-as x y o = record { stands = λ e. o.stands (gone-was y e); gate_is = o.gate_is; placed = o.placed }

  turning-now : Turning s v.ways u.purses v.boxes u.phases v.active g.gate g.shape g.home
  turning-now =
      let k = i.turning in record {
        one = k.one;
        carrying = λ a y z x is placed. let o = k.carrying a y z x is placed in (in-as x y o.0, o.1, o.2);
        in_leaf = λ a y x is placed. let o = k.in_leaf a y x is placed in (in-as x y o.0, o.1);
        carried = λ y r some. k.carried y r (λ none. some (on-phase (λ y was now. was ≡ None → now ≡ None) (λ e. absurd (cc)) (λ y e. e) y none));
        enough = λ a y z x is placed.
            let ne : a ≢ n = (λ e. no-way x (ap v.ways (sym e) ∙ is)) in
            rw (off a ne) (k.enough a y z x is placed);
        boxed = λ a x is filled.
            let ne : a ≢ n = (λ e. no-way x (ap v.ways (sym e) ∙ is)) in
            rw (off a ne) (k.boxed a x is filled);
        counts = k.counts;
      }

  lineage-now : Lineage s v.history u.stock v.registry v.maps v.gates u.phases g.gate
  lineage-now =
      let k = i.lineage in record {
        ids = reshares.ids ∙ k.ids;
        front = k.front;
        gate_of = λ x y on. let (leads, is, stands) = k.gate_of x y on in (leads, is, λ e. stands (gone-was (g.gate x) e));
        known = k.known;
        live = λ y x is stands. k.live y x is (λ e. stands (gone-now y e));
        leads = k.leads;
        split = k.split;
        divided = k.divided;
        moved = k.moved;
        later = k.later;
        made = k.made;
      }

  tree-is : v.trees gt.number ≡ way_to_tree gate
  tree-is = ap way_in at.cell

  queue-is : v.queues gt.number ≡ gate.queue
  queue-is = ap queue_in at.cell

  queueing-now : Queueing s v.row v.gates u.phases v.queues
  queueing-now =
      let k = i.queueing in record {
        queue = k.queue;
        named = k.named;
        upto = λ y upto. on-phase (λ y was now. now ≡ Some (phase.Frozen upto) → upto ≤ length (v.queues y).rows)
            (λ e. let long : length gate.queue.rows ≡ upto = (let k : Some (phase.Frozen (length gate.queue.rows)) ≡ Some (phase.Frozen upto) = e in cc) in
            let all : length (v.queues gt.number).rows ≡ length gate.queue.rows = ap (λ (q : Queue). length q.rows) queue-is in omega (arith, long, all))
            (λ y e. k.upto y upto e) y;
      }

  at-work : IsAtWork s v.history v.blocks v.made v.trees u.phases v.active v.queues (u.purses n) (v.commands n) g.gate g.shape g.placed (record job { stage = IsFrozen frozen })
  at-work = record {
    unspent = λ none. let never : Some frozen ≡ None = none in absurd (cc);
    declined = λ x why is stage. let never : IsFrozen frozen ≡ IsDeclined why = stage in absurd (cc);
    frozen = λ f is. subst (IsFrozenFor s v.trees u.phases g.gate (u.purses n) (record job { stage = IsFrozen frozen })) (same-frozen frozen f is) (record {
      gate_is = sym at.leads;
      upto = length gate.queue.rows;
      phase_is = phases-new.is_there;
      rows = ap (λ (x : Gate). x.agg.count + length gate.queue.rows) (sym tree-is);
      cells = (let count = d.takes.count in let here : length (u.purses n) ≡ length taken = ap (λ (xs : List Spare). length xs) (mine ∙ purse-is) in omega (arith, count, here));
      split = divided-split job.to set plane divided;
      move = divided-move job.to set plane divided;
      plane = λ p e. record { set = set; valid = valid; plane_of = divided-plane job.to set plane divided p e };
    });
    collected = λ k is. let never : IsFrozen frozen ≡ Collects k = is in absurd (cc);
    building = λ x is. let never : IsFrozen frozen ≡ Builds x = is in absurd (cc);
  }

  holds-renewed : InvWith s v2 g2
  holds-renewed = record {
    numbering = staged-numbering s v i.numbering n job (IsFrozen frozen) u.jobs new u.purses off;
    telling = staged-telling s v i.numbering n job (IsFrozen frozen) u.jobs new v.history g.placed i.telling;
    owing = i.owing;
    turning = turning-now;
    stocking = reshared-stocking s w g i n job (IsFrozen frozen) u.jobs new u.stock b.purse reshares u.purses mine off u.phases gone-was gone-now;
    stamping = reshared-stamping s w g i n job (IsFrozen frozen) u.jobs new u.stock b.purse reshares u.purses mine off u.phases gone-was gone-now (sym (ap (λ (st : StageValue). items_in st) at.called));
    lineage = lineage-now;
    leading = i.leading;
    growing = record { tree = λ y whole. i.growing.tree y (whole-was y whole) };
    queueing = queueing-now;
    resting = record { rests = λ y x r is gone. i.resting.rests y x r is (gone-was y gone) };
    placing = i.placing;
    inserting = i.inserting;
    imaging = i.imaging;
    covering = i.covering;
    desking = i.desking;
    pinning = i.pinning;
    querying = i.querying;
    working = staged-working s v i.numbering n job (IsFrozen frozen) u.jobs new v.history v.blocks v.made v.trees v.phases u.phases v.active v.queues v.purses u.purses g.gate g.shape g.placed i.working at-work;
    balancing = staged-balancing s v i.numbering n job (IsFrozen frozen) u.jobs new v.history g.placed g.home i.balancing;
    reusing = record {
      listed = λ a y role. i.reusing.listed a y role ∙ on-phase (λ y was now. ◌≡◌ {A = ℕ} (cond (is_gone was) 1 0) (cond (is_gone now) 1 0))
          (ap (λ (k : Bool). cond k 1 0) (stands-off (Some gate.phase) (λ e. at.standing (cc)))) (λ y. refl) y;
    };
  }

  pub frozen-holds : InvWith s u g2
  frozen-holds = subst (λ (x : View). InvWith s x g2) (sym same) holds-renewed

  pub frozen-history : u.history ≡ v.history
  frozen-history = ap (λ (x : View). x.history) same

  pub frozen-falls : Falls (left s w g) (left s w2 g2)
  frozen-falls =
      let gone : u.gone ≡ v.gone = ap (λ (x : View). x.gone) same in
      let was : job_left s v (w.actors n).job ≡ 6 * plenty s = ap (job_left s v) at.is_job ∙ ap (λ (st : StageValue). stage_left s v st) at.called in
      let now : job_left s u b.job ≡ 5 * plenty s = ap (job_left s u) new-job in
      control-falls s w w2 g g2 n b (record {
        few = has-job s v i.numbering n job at.is_job;
        at = actor-at w.actors n b;
        off = λ a ne. actor-off w.actors n b a ne;
        jobless = others-jobless s v i.numbering n job at.is_job;
        command = ap (λ (a : ActorValue). a.command) d.actor_is;
        less = omega (arith, was, now);
        cells = λ y. on-phase (λ y was now. gone_left now (u.gone y) ≡ gone_left was (v.gone y)) (sym (not-gone gate.phase at.standing (v.gone gt.number))) (λ y. ap (λ (f : ℕ → List ℕ). gone_left (v.phases y) (f y)) gone) y;
      })
    where
      not-gone : (p : Phase) → p ≢ phase.Gone → (cells : List ℕ) → gone_left (Some p) cells ≡ 0
      not-gone phase.Open ne cells = refl
      not-gone (phase.Frozen upto) ne cells = refl
      not-gone phase.Gone ne cells = absurd (ne refl)
