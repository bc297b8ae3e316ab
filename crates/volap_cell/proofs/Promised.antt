-- The promises of the invariant: the one place of each row, and what images and queries have.
use Rattle.std.proofs.{Common.{◌≡◌, ◌≢◌, ℕ, zero, suc, ◌<◌, ◌≤◌, List, [], ◌∷◌, true, false, eqb, get_or, refl, sym, ap, subst, arith, ◌∙◌, ◌⊎◌, inl, inr}, lemmas.Bool.{cases_lt, eq-eqb, false≢true, eqb-true, eqb-false}, lemmas.List.Elements.{All-contains, All-contains_itself, All-head, Contains-append_cases}}
use Rattle.std.specs.Prelude.{All, Option, Some, None, Contains, IsTrue, Any, option_and_then}
use Rattle.row_ledger.proofs.Descent.{comes_from-comparable, live-made}
use Rattle.list_words.specs.Counts.{times}
use Rattle.list_words.proofs.{Elements.Contains-nil, Truth.on_bool}
use Rattle.shard_build.specs.tree_shape.specs.Queries.{fits}
use Rattle.describing_set.specs.{DescSet.covers, declared.listing.Spot.Spot}
use Rattle.row_ledger.specs.{Bounds.known, Past.{Ack, Insert, Query, event_at, insert_at, is_kept, query_at, session_in}, Shards.{comes_from, is_live}, declared.event.Event.Event}
use Rattle.dim_hierarchy.specs.declared.row.Row.{Row}
use Rattle.query_router.specs.{Desk.{is_refused, is_taken, is_waiting, state_is_refused, state_waits}, declared.part.Part.Part, declared.part.PartState.PartState}
use Rattle.query_router.specs.declared.part.PartState.TheVariants as state_is
use Rattle.volap_cell.specs.{Desking.{AreLinesApart, AreUnrelated, IsInsertState, IsQueryState, IsTaken, is_on_desk}, Errands.{ReadPart, Taken, read_in_task, read_of, taken_by, taken_of}, Ghost.Ghost, Growing.{IsUnder, table_of}, ImageKinds.doing, Imaging.IsCovered, Invariant.InvWith, Placing.IsRowPart, Promises.{HasNotRead, IsAheadOf, IsBeneath, IsCoveredBy, HasItsPlace, IsOnDesk, HasNotPassed, IsUnrouted, IsInOne, times_in, HasCounted, PlaceLaw, RowsLaw, ImageLaw, QueryLaw}, Querying.{IsCounted, IsEndOfPart, IsInTreeOf, IsReading, IsWalk, must_hold, pins_of}, Setting.{Setting, actor_count, site_in}, Stocking.IsWhole, Sums.sum_below, Telling.IsProgress, Values.{ErrandValue, JobValue, TaskValue, OfRow, Unread, Read}, View.{View, row_at, view}, World.World, declared.command.Command.Command, declared.command.Work.Work, declared.role.Role.TheVariants.Session}
use Rattle.volap_cell.specs.declared.command.Work.TheVariants as work_is
use Rattle.volap_cell.proofs.{Desks.Inserts.taken-way, Histories.Beginnings.{acked-of, insert-ended, insert-session, no-query, no-call}, Histories.Knowing.{acked-begun, known-acked}, Histories.Standings.{standing, in-one, in-none}}

-- An insert that hasn't passed a gate stands on its server's desk, or isn't routed.

module _ (s : Setting) (w : World) (g : Ghost) (inv : InvWith s (view s w) g) (r : ℕ) (i : Insert) (begun : insert_at (view s w).history r ≡ Some i) where
  abbrev row_part : Part → PartState → Type 0
  row_part p st = IsRowPart (view s w).history (view s w).images (view s w).ways g.placed g.path i.server r p st

  within : i.server < s.servers
  within = (inv.telling.rows r i begun).1

  -- of the one part of the insert
  its-part : ((view s w).desks i.server).op ≡ Some r → (p : Part) → ((view s w).desks i.server).parts ≡ p ∷ [] → row_part p p.state
  its-part op p alone = All-head (λ (p : Part). row_part p p.state) p [] (subst (All (λ (p : Part). row_part p p.state)) alone (inv.inserting.parts i.server r i within op begun))

  its-taker : (p : Part) → ((view s w).desks i.server).parts ≡ p ∷ [] → is_taken p ≡ true → IsTaken (view s w).taken i.server p
  its-taker p alone = All-head (λ (p : Part). is_taken p ≡ true → IsTaken (view s w).taken i.server p) p [] (subst (All (λ (p : Part). is_taken p ≡ true → IsTaken (view s w).taken i.server p)) alone (inv.desking.takers i.server within))

  -- a part before a gate, by its state
  outside : g.placed r ≡ false → ((view s w).desks i.server).op ≡ Some r → (p : Part) → ((view s w).desks i.server).parts ≡ p ∷ []
      → (st : PartState) → p.state ≡ st → IsInsertState i st → row_part p st → HasNotPassed (view s w) i.server r p
  outside out op p alone (state_is.Waiting wanted) is valid part = inl (rw is refl)
  outside out op p alone state_is.Taken is valid part =
      let t = its-taker p alone (rw is refl) in
      let has = taken-way s w g inv r i t.0 t.1 begun (ap (λ n. ((view s w).desks n).op) t.3 ∙ op) t.2 in
      inr (inr (rw is refl, (t.0, has.way, has.at, has.server_is ∙ t.3, has.number, sym (inv.inserting.on_way t.0 has.way has.at).passed ∙ ap g.placed has.number ∙ out)))
  outside out op p alone (state_is.Placed path) is valid part = absurd (false≢true (sym out ∙ part.0))
  outside out op p alone state_is.NoMemory is valid part = inr (inl (rw is refl))
  outside out op p alone (state_is.Done total) is valid part = absurd valid

  -- what the actor of an open insert does
  at-work : g.placed r ≡ false → (a : ℕ) (job : Option JobValue) (work : Work) → (view s w).commands a ≡ doing r work → IsProgress s (view s w).history r work job ((view s w).roles a) → IsOnDesk s (view s w) i r ⊎ IsUnrouted (view s w) r
  at-work out a job (work_is.Insert row false) command progress = inr (a, row, command)
  at-work out a job (work_is.Insert row true) command progress =
      let server : progress.0 ≡ i.server = (let both : Some (record { server = progress.0; row = row }) ≡ Some i = sym progress.2 ∙ begun in cc) in
      let role : (view s w).roles a ≡ Session i.server = subst (λ n. (view s w).roles a ≡ Session n) server progress.1 in
      let op = inv.desking.on_desk a i.server (record { of = r; work = work_is.Insert row true }) command role refl in
      let one = inv.desking.insert i.server r i within op begun in
      inl (record { op = op; part = one.0; alone = one.1; outside = outside out op one.0 one.1 one.0.state refl one.2 (its-part op one.0 one.1) })
  at-work out a job work_is.Query command progress = absurd (no-query (view s w).history r i progress.0 begun progress.2)
  at-work out a job (work_is.Sync server pulled) command progress = absurd (no-call (view s w).history r i _ begun progress.0.1)
  at-work out a job (work_is.Settle pulls) command progress = absurd (no-call (view s w).history r i _ begun progress.0.1)
  at-work out a job work_is.Bare command progress = absurd (no-call (view s w).history r i _ begun progress.1)
  at-work out a job (work_is.Page subject there shown) command progress = absurd (no-call (view s w).history r i _ begun progress.0.1)
  at-work out a job (work_is.Action x) command progress = absurd (no-call (view s w).history r i _ begun progress.0.1)
  at-work out a job (work_is.Balance b) command progress = absurd (no-call (view s w).history r i _ begun progress.0.1)

  before-gate : IsTrue (is_kept (view s w).history r) → g.placed r ≡ false → IsOnDesk s (view s w) i r ⊎ IsUnrouted (view s w) r
  before-gate kept out = (let its = insert-session (view s w).history r i begun in elim (inv.telling.status its.0 r its.1) [
    | inl over ↦
        let k = acked-of _ _ (view s w).history r i inv.telling.right.right.each begun (insert-ended (view s w).history r i begun over) kept in
        let placed : g.placed r ≡ true = subst (λ n. g.placed n ≡ true) k.2 (inv.placing.acked_rows k.0 k.1).0 in
        absurd (false≢true (sym out ∙ placed))
    | inr x ↦
        let command : (view s w).commands x.0 ≡ doing r x.1.work = x.2 ∙ ap (λ n. Some (record { of = n; work = x.1.work })) x.3 in
        at-work out x.0 ((view s w).jobs x.0) x.1.work command (subst (λ n. IsProgress s (view s w).history n x.1.work ((view s w).jobs x.0) ((view s w).roles x.0)) x.3 (inv.telling.progress x.0 x.1 x.2))
  ])

  -- A row that has passed a gate is on no desk before one, and its insert is routed.

  waits-out : (p : Part) (st : PartState) → p.state ≡ st → is_waiting p ≡ true → row_part p st → g.placed r ≡ false
  waits-out p (state_is.Waiting wanted) is waits part = part.0
  waits-out p state_is.Taken is waits part = absurd (false≢true (sym (ap state_waits is) ∙ waits))
  waits-out p (state_is.Placed path) is waits part = absurd (false≢true (sym (ap state_waits is) ∙ waits))
  waits-out p (state_is.Done total) is waits part = absurd (false≢true (sym (ap state_waits is) ∙ waits))
  waits-out p state_is.NoMemory is waits part = absurd (false≢true (sym (ap state_waits is) ∙ waits))

  refused-out : (p : Part) (st : PartState) → p.state ≡ st → is_refused p ≡ true → row_part p st → g.placed r ≡ false
  refused-out p (state_is.Waiting wanted) is refused part = absurd (false≢true (sym (ap state_is_refused is) ∙ refused))
  refused-out p state_is.Taken is refused part = absurd (false≢true (sym (ap state_is_refused is) ∙ refused))
  refused-out p (state_is.Placed path) is refused part = absurd (false≢true (sym (ap state_is_refused is) ∙ refused))
  refused-out p (state_is.Done total) is refused part = absurd (false≢true (sym (ap state_is_refused is) ∙ refused))
  refused-out p state_is.NoMemory is refused part = part.0

  desk-out : IsOnDesk s (view s w) i r → g.placed r ≡ false
  desk-out d = elim d.outside [
    | inl waits ↦ waits-out d.part d.part.state refl waits (its-part d.op d.part d.alone)
    | inr other ↦ elim other [
      | inl refused ↦ refused-out d.part d.part.state refl refused (its-part d.op d.part d.alone)
      | inr x ↦ ap g.placed (sym x.1.4) ∙ (inv.inserting.on_way x.1.0 x.1.1 x.1.2).passed ∙ x.1.5
    ]
  ]

  unrouted-out : IsUnrouted (view s w) r → g.placed r ≡ false
  unrouted-out x = (inv.inserting.unrouted x.0 r x.1 x.2).0

  -- and an insert that stands on a desk is routed
  not-both : IsOnDesk s (view s w) i r → IsUnrouted (view s w) r → ⊥
  not-both d x =
      let its = inv.desking.whose i.server r within d.op in
      let mine = inv.telling.own its.0 its.1 its.2 in
      let other = inv.telling.own x.0 (record { of = r; work = work_is.Insert x.1 false }) x.2 in
      let one : its.0 ≡ x.0 = (let there : option_and_then session_in (event_at (view s w).history r) ≡ Some its.0 = subst (λ n. option_and_then session_in (event_at (view s w).history n) ≡ Some its.0) its.3 mine in cc) in
      let same : its.1 ≡ record { of = r; work = work_is.Insert x.1 false } = (let both : Some its.1 ≡ doing r (work_is.Insert x.1 false) = sym its.2 ∙ ap (view s w).commands one ∙ x.2 in cc) in
      false≢true (ap (λ (c : Command). is_on_desk c.work) (sym same) ∙ its.5)

  pub in-place : IsTrue (is_kept (view s w).history r) → HasItsPlace s (view s w) (standing s (view s w) g inv) i r
  in-place kept = on_bool (g.placed r)
      (λ placed. inl ((g.home r, in-one s (view s w) g inv r placed), (λ d. false≢true (sym (desk-out d) ∙ placed)), (λ x. false≢true (sym (unrouted-out x) ∙ placed))))
      (λ out. let none = in-none s (view s w) g inv r out in elim (before-gate kept out) [
        | inl d ↦ inr (inl (none, d, (λ x. not-both d x)))
        | inr x ↦ inr (inr (none, (λ d. not-both d x), x))
      ])

pub place-law : PlaceLaw
place-law s w inv = (standing s (view s w) inv.ghost_of inv.holds, λ r i begun kept. in-place s w inv.ghost_of inv.holds r i begun kept)

-- The rows of the shards that stand.

eqb-cases : (x y : ℕ) → (x ≡ y) ⊎ (x ≢ y)
eqb-cases x y = on_bool (eqb x y) (λ q. inl (eqb-true x y q)) (λ q. inr (eqb-false x y q))

-- a row that a shard has has passed a gate
pub is-placed : (s : Setting) (v : View) (g : Ghost) (i : InvWith s v g) (x r : ℕ) → is_live s.workers v.history x ≡ true → 1 ≤ times_in v (standing s v g i).gate (standing s v g i).shape x r → g.placed r ≡ true
is-placed s v g i x r live some = on_bool (g.placed r) (λ placed. placed)
    (λ out. let none : times_in v (standing s v g i).gate (standing s v g i).shape x r ≡ 0 = in-none s v g i r out x live in absurd (omega arith))

-- and in that one shard
same-shard : (s : Setting) (v : View) (g : Ghost) (i : InvWith s v g) (x r : ℕ) → is_live s.workers v.history x ≡ true → 1 ≤ times_in v (standing s v g i).gate (standing s v g i).shape x r
    → IsInOne s v (standing s v g i) r x
same-shard s v g i x r live some =
    let one = in-one s v g i r (is-placed s v g i x r live some) in
    elim (eqb-cases x (g.home r)) [
      | inl same ↦ subst (λ y. IsInOne s v (standing s v g i) r y) (sym same) one
      | inr other ↦ let none = one.others x live other in absurd (omega arith)
    ]

pub rows-law : RowsLaw
rows-law s w inv =
    let v = view s w in let g = inv.ghost_of in let i = inv.holds in (
      standing s v g i,
      λ x r live some. (i.placing.begun r (is-placed s v g i x r live some), i.telling.right.kept r (is-placed s v g i x r live some), same-shard s v g i x r live some),
      λ k c. (g.home k.row.no, in-one s v g i k.row.no (i.placing.acked_rows k c).0),
    )

-- Images.

-- a row's coordinate is that of its acknowledgement
row-at : (v : View) (k : Ack) → insert_at v.history k.row.no ≡ Some (record { server = k.server; row = k.row }) → row_at v.history k.row.no ≡ k.row
row-at v k begun = rw begun refl

-- a row that a server must know is covered
covered : (s : Setting) (w : World) (g : Ghost) (i : InvWith s (view s w) g) (server : ℕ) → server < s.servers → (k : Ack) → Contains (known s.hierarchy (view s w).history server) k
    → IsCoveredBy s (view s w) (standing s (view s w) g i) server k
covered s w g i server within k c =
    let v = view s w in
    let acked-k = known-acked s.hierarchy v.history server k c in
    let at = row-at v k (acked-begun _ _ v.history k i.telling.right.right.each acked-k) in
    let box = All-contains (λ (k : Ack). IsCovered s.hierarchy v.history v.row g.home (v.images server).spots k.row.no) (known s.hierarchy v.history server) k (i.covering.must server within) c in (
      g.home k.row.no,
      in-one s v g i k.row.no (i.placing.acked_rows k acked-k).0,
      subst (λ (r : Row). Any (λ (spot : Spot). IsTrue (comes_from v.history spot.shard (g.home k.row.no)) × (covers s.hierarchy spot.set r.at ≡ true)) (v.images server).spots) at box,
    )

pub image-law : ImageLaw
image-law s w inv =
    let v = view s w in let g = inv.ghost_of in let i = inv.holds in
    (standing s v g i, λ server within n d lt. covered s w g i server within (get_or (known s.hierarchy v.history server) n d) (All-contains_itself (known s.hierarchy v.history server) n d lt))

-- Queries.

-- the parts of a query with one shard are one, as a shard comes from itself
pub apart-at : (h : List Event) (parts : List Part) (p other : Part) → AreLinesApart h parts → Contains parts p → Contains parts other → (p.shard ≡ other.shard) ⊎ AreUnrelated h p other
apart-at h [] p other apart c d = absurd (Contains-nil p c)
apart-at h (x ∷ parts) p other apart c d = elim (Contains-append_cases (x ∷ []) parts p c) [
  | inl first ↦ elim (Contains-append_cases (x ∷ []) parts other d) [
    | inl also ↦ inl (ap (λ (q : Part). q.shard) (sym (only-one x p first) ∙ only-one x other also))
    | inr later ↦ inr (subst (λ (q : Part). AreUnrelated h q other) (only-one x p first) (All-contains (AreUnrelated h x) parts other apart.0 later))
  ]
  | inr later ↦ elim (Contains-append_cases (x ∷ []) parts other d) [
    | inl first ↦ (let u = All-contains (AreUnrelated h x) parts p apart.0 later in inr (subst (λ (q : Part). AreUnrelated h p q) (only-one x other first) (u.1, u.0)))
    | inr also ↦ apart-at h parts p other apart.1 later also
  ]
]
  where
    only-one : (x p : Part) → Contains (x ∷ []) p → x ≡ p
    only-one x p (zero, lt, is) = is
    only-one x p (suc n, lt, is) = absurd (omega arith)

-- one summand is no more than the sum
one-of : (n a : ℕ) (f : ℕ → ℕ) → a < n → f a ≤ sum_below n f
one-of zero a f lt = absurd (omega arith)
one-of (suc n) a f lt = elim (eqb-cases a n) [
  | inl same ↦ (let e : f a ≡ f n = ap f same in omega arith)
  | inr other ↦ (let lower : a < n = omega arith in let ih = one-of n a f lower in omega arith)
]

-- who has read something has taken a part
pub reads-taken : (errand : Option ErrandValue) (p : ReadPart) → read_of errand ≡ Some p → taken_of errand ≡ None → ⊥
reads-taken None p is none = cc
reads-taken (Some e) p is none = cc

-- a gate to which an actor's part is pinned has a whole tree
pub pinned-whole : (s : Setting) (w : World) (g : Ghost) → InvWith s (view s w) g → (a c : ℕ) (p : ReadPart) → (view s w).reads a ≡ Some p → p.reading.pin ≡ Some c
    → IsWhole (view s w).gates (view s w).phases (view s w).pins c
pinned-whole s w g i a c p reads pin =
    let v = view s w in
    let gate = i.pinning.shard a c p reads pin in
    let within : a < actor_count s = elim (cases_lt a (actor_count s)) [
      | inl lt ↦ lt
      | inr beyond ↦ absurd (reads-taken (w.actors a).errand p reads (i.numbering.nobody a beyond).3)
    ] in
    let one : pins_of c (v.reads a) ≡ 1 = rw reads (rw pin (rw (eq-eqb c c refl) refl)) in
    let sum = one-of (actor_count s) a (λ a. pins_of c (v.reads a)) within in
    let all = i.pinning.counts c in
    (rw gate refl, inr (omega arith))

-- a row that a part which has read its gate must hold is counted, or beneath what is noted
by-reading : (s : Setting) (w : World) (g : Ghost) (i : InvWith s (view s w) g) (server shard of r : ℕ) (q : Query) (a : ℕ) (p : ReadPart) → (view s w).reads a ≡ Some p → p.server ≡ server → p.shard ≡ shard
    → IsUnder (view s w).history g.placed g.home shard r → must_hold s.hierarchy (view s w).history of q r ≡ true → fits (table_of s (view s w).row) q.filter r ≡ true
    → IsReading s (view s w).history (view s w).row (view s w).blocks (view s w).trees g.shape g.placed g.home of q shard (g.counted server shard) p.reading
    → (1 ≤ times r (g.counted server shard)) ⊎ IsBeneath s (view s w) (standing s (view s w) g i) server shard r
unfolding standing
by-reading s w g i server shard of r q a p reads same_server same_shard under must fit reading =
    at p.reading.pin refl reading.walk (reading.holds r must fit under)
  where
    at : (pin : Option ℕ) → p.reading.pin ≡ pin → IsWalk s (view s w).history (view s w).row (view s w).blocks (view s w).trees g.shape of q (g.counted server shard) p.reading pin
        → (1 ≤ times r (g.counted server shard)) ⊎ IsInTreeOf g.shape pin r → (1 ≤ times r (g.counted server shard)) ⊎ IsBeneath s (view s w) (standing s (view s w) g i) server shard r
    at None is walk holds = elim holds [ inl has ↦ inl has | inr never ↦ absurd never ]
    at (Some c) is walk holds = elim holds [
      | inl has ↦ inl has
      | inr there ↦
          let u = walk.1 in
          let some = u.ok.whole r there must fit in
          let most = u.ok.once r there in
          elim (cases_lt 0 (times r (g.counted server shard))) [
            | inl has ↦ inl has
            | inr none ↦ inr (record {
              actor = a;
              part = p;
              reads = reads;
              server_is = same_server;
              shard_is = same_shard;
              gate = c;
              pinned = is;
              tree = i.growing.tree c (pinned-whole s w g i a c p reads is);
              noted = u.noted;
              items = u.are;
              walks = u.ok.noted;
              placed = there;
              once = (let below : times r (g.counted server shard) ≡ 0 = omega arith in omega arith);
            })
          ]
    ]

-- what an actor reads is of the part that it took

by-task : (e : ErrandValue) (task : TaskValue) → e.task ≡ task → (part : ReadPart) (t : Taken) → read_in_task e e.task ≡ Some part → Some (taken_by e) ≡ Some t → (part.server ≡ t.server) × (part.shard ≡ t.shard)
by-task e (OfRow x) is part t a b = (let none : read_in_task e e.task ≡ None = rw is refl in cc)
by-task e (Unread f) is part t a b = (let none : read_in_task e e.task ≡ None = rw is refl in cc)
by-task e (Read x) is part t a b =
    (let some : read_in_task e e.task ≡ Some (record { server = e.server; shard = e.shard; reading = x }) = rw is refl in
    let one : part ≡ record { server = e.server; shard = e.shard; reading = x } = cc in
    let two : taken_by e ≡ t = cc in
    (ap (λ (p : ReadPart). p.server) one ∙ ap (λ (u : Taken). u.server) two, ap (λ (p : ReadPart). p.shard) one ∙ ap (λ (u : Taken). u.shard) two))

pub reads-same : (errand : Option ErrandValue) (part : ReadPart) (t : Taken) → read_of errand ≡ Some part → taken_of errand ≡ Some t → (part.server ≡ t.server) × (part.shard ≡ t.shard)
reads-same None part t a b = cc
reads-same (Some e) part t a b = by-task e e.task refl part t a b

-- what a part, by its state, gives of a row that is under its shard and that the query must hold
by-state : (s : Setting) (w : World) (g : Ghost) (i : InvWith s (view s w) g) (server of r : ℕ) (q : Query) (p : Part) → IsUnder (view s w).history g.placed g.home p.shard r
    → must_hold s.hierarchy (view s w).history of q r ≡ true → fits (table_of s (view s w).row) q.filter r ≡ true → ((view s w).desks server).op ≡ Some of → query_at (view s w).history of ≡ Some q
    → (is_taken p ≡ true → IsTaken (view s w).taken server p)
    → (state : PartState) → p.state ≡ state → IsQueryState q state → IsEndOfPart s (view s w).history (view s w).row g.placed g.home of q p.shard (g.counted server p.shard) state
    → (1 ≤ times r (g.counted server p.shard)) ⊎ IsBeneath s (view s w) (standing s (view s w) g i) server p.shard r ⊎ (HasNotRead (view s w) server p × IsAheadOf s (view s w) (standing s (view s w) g i) p r)
by-state s w g i server of r q p under must fit op asked taker (state_is.Waiting wanted) is valid end = inr (inr (inl (rw is refl), (g.home r, in-one s (view s w) g i r under.is_placed, under.comes)))
by-state s w g i server of r q p under must fit op asked taker state_is.Taken is valid end =
    let t = taker (rw is refl) in
    at t ((view s w).reads t.0) refl
  where
    at : (t : IsTaken (view s w).taken server p) → (o : Option ReadPart) → (view s w).reads t.0 ≡ o
        → (1 ≤ times r (g.counted server p.shard)) ⊎ IsBeneath s (view s w) (standing s (view s w) g i) server p.shard r ⊎ (HasNotRead (view s w) server p × IsAheadOf s (view s w) (standing s (view s w) g i) p r)
    at t None none = inr (inr (inr (inr (t.0, t.1, t.2, t.3, t.4, none)), (g.home r, in-one s (view s w) g i r under.is_placed, under.comes)))
    at t (Some part) reads =
        let same = reads-same (w.actors t.0).errand part t.1 reads t.2 in
        let server_is : part.server ≡ server = same.0 ∙ t.3 in
        let shard_is : part.shard ≡ p.shard = same.1 ∙ t.4 in
        let reading = i.querying.reading t.0 of q part reads (ap (λ n. ((view s w).desks n).op) server_is ∙ op) asked in
        elim (by-reading s w g i server p.shard of r q t.0 part reads server_is shard_is under must fit
        (subst (λ n. IsReading s (view s w).history (view s w).row (view s w).blocks (view s w).trees g.shape g.placed g.home of q p.shard (g.counted n p.shard) part.reading) server_is
        (subst (λ n. IsReading s (view s w).history (view s w).row (view s w).blocks (view s w).trees g.shape g.placed g.home of q n (g.counted part.server n) part.reading) shard_is reading))) [
          | inl has ↦ inl has
          | inr beneath ↦ inr (inl beneath)
        ]
by-state s w g i server of r q p under must fit op asked taker (state_is.Done total) is valid end = elim (end.1 r must fit under) [ inl has ↦ inl has | inr never ↦ absurd never ]
by-state s w g i server of r q p under must fit op asked taker (state_is.Placed path) is valid end = absurd valid
by-state s w g i server of r q p under must fit op asked taker state_is.NoMemory is valid end = inr (inr (inr (inl (rw is refl)), (g.home r, in-one s (view s w) g i r under.is_placed, under.comes)))

pub has-counted : (s : Setting) (w : World) (g : Ghost) (i : InvWith s (view s w) g) (server of : ℕ) (q : Query) → server < s.servers → ((view s w).desks server).op ≡ Some of
    → query_at (view s w).history of ≡ Some q → HasCounted s (view s w) (standing s (view s w) g i) of server q (g.counted server)
has-counted s w g i server of q within op asked =
    let v = view s w in
    let parts = (v.desks server).parts in
    let counts = i.querying.counts server of q within op asked in
    let ends = i.querying.ends server of q within op asked in
    let desk = i.desking.query server of q within op asked in
    let one-part = All-contains (λ (p : Part). is_refused p ≡ false → IsCounted s v.history v.row g.placed g.home q p.shard (g.counted server p.shard)) parts in
    record {
      once = λ r n d lt well. (counts n d lt well).once r;
      apart = λ r p other c d well well-other some some-other.
          (let under = (one-part p counts c well).under r some in
          let under-other = (one-part other counts d well-other).under r some-other in
          let made = live-made (site_in s) _ v.history (g.home r) i.telling.right.right.each (i.placing.stands r under.is_placed) in
          elim (apart-at v.history parts p other desk.1 c d) [
            | inl same ↦ same
            | inr u ↦ elim (comes_from-comparable (site_in s) _ v.history p.shard other.shard (g.home r) i.telling.right.right.each made under.comes under-other.comes) [
              | inl below ↦ absurd (false≢true (sym u.0 ∙ below))
              | inr below ↦ absurd (false≢true (sym u.1 ∙ below))
            ]
          ]);
      usable = λ r p c well some. (let a = one-part p counts c well in
          (i.telling.right.kept r (a.under r some).is_placed, a.fitting r some, (g.home r, in-one s v g i r (a.under r some).is_placed)));
      whole = λ r must fit. (let found = i.querying.whole server of q within op asked r must fit in
          let p = found.1 in
          let end = All-contains (λ (p : Part). IsEndOfPart s v.history v.row g.placed g.home of q p.shard (g.counted server p.shard) p.state) parts p ends (found.0, found.2, found.3) in
          let valid = All-contains (λ (p : Part). IsQueryState q p.state) parts p desk.0 (found.0, found.2, found.3) in
          (found.0, p, found.2, found.3, by-state s w g i server of r q p found.4 must fit op asked (All-contains (λ (p : Part). is_taken p ≡ true → IsTaken v.taken server p) parts p (i.desking.takers server within) (found.0, found.2, found.3)) p.state refl valid end));
    }

pub query-law : QueryLaw
query-law s w inv = (standing s (view s w) inv.ghost_of inv.holds, λ server of q within op asked. (inv.ghost_of.counted server, has-counted s w inv.ghost_of inv.holds server of q within op asked))
