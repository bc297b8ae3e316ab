-- A query that begins keeps the invariant, and brings no more than its own work with it.
use Rattle.std.proofs.{Common.{◌≡◌, ◌≢◌, ℕ, ◌+◌, ◌^◌, ◌<◌, ◌≤◌, List, [], ◌∷◌, true, false, cond, eqb, length, map, Option, Some, None, refl, sym, ap, ◌∙◌, subst, arith, inl, inr, ◌&&◌, All, Any, Contains}, lemmas.Bool.{false≢true, eqb-true, eqb-false, ne_eqb}, lemmas.List.Elements.{All-contains, All-contains_itself, All-map, All-weaker}}
use Rattle.std.specs.Prelude.{IsSome, sum_by}
use Rattle.dim_hierarchy.specs.{Dimension.Dimension, Filter.IsFilterOf}
use Rattle.describing_set.specs.{Filter.overlaps, Sets.IsDescSetOf, declared.listing.Spot.Spot}
use Rattle.server_image.specs.{Image.{ImageValue, planned}, Spots.AreBoxes}
use Rattle.query_router.specs.{Desk.{DeskValue, is_open, is_refused, is_taken}, declared.part.Part.Part}
use Rattle.query_router.specs.declared.part.Want.TheVariants as want
use Rattle.row_ledger.specs.{Bounds.known, Kept.KeepsRight, Laws.AscendFrom, Past.{Ack, Insert, Query, insert_at, insert_in, query_at, query_in}, declared.event.Event.Event, declared.event.Event.TheVariants.Asked}
use Rattle.list_words.proofs.{Elements.{Contains-filter, Contains-filtered, Contains-map}, Truth.{on_bool, eqb-self}}
use Rattle.row_ledger.proofs.Growth.{KeepsRight-asked}
use Rattle.volap_cell.specs.tree_shape.specs.Queries.{fits}
use Rattle.volap_cell.specs.{Desking.{IsQueryPart, IsQueryState, IsTaken, AreLinesApart, is_on_desk}, Errands.{ReadPart, Taken}, Falls.{control_of, gates_of_part, gates_of_work, left, of_work, rows_of_part}, Ghost.Ghost, Growing.{IsUnder, table_of}, ImageKinds.{DoesBeginQuery, query_part}, Imaging.{IsImageOf, IsCovered}, Invariant.InvWith, Owing.{Owing, is_insert, one_if, owed_by, serves}, Querying.{IsCounted, IsEndOfPart, must_hold}, Setting.{Setting, actor_count, site_in}, Steps.{IsKept, Keeps}, Telling.{IsProgress, Telling}, Values.{ActorValue, JobValue}, View.{View, view, row_at}, World.{World, Change, Agrees, after}, declared.command.Command.Command, declared.role.Role.TheVariants.{Hand, Session}}
use Rattle.volap_cell.specs.declared.command.Work.TheVariants as work_is
use Rattle.volap_cell.specs.declared.kind.Kind.TheVariants as kind
use Rattle.volap_cell.proofs.{Histories.Books.desk-image-event, OneEvent.Desks.{fits-was, lines-grown}, OneEvent.Known.{AreOlder, known-acked, older-rows}, OneEvent.Noted.{IsNotedBy, new-told, telling-begins}, OneEvent.Quiet.{Told, all-stays, told-here, under-quiet}, OneEvent.Reads.readers-take, Persons.has-role, Sums.{sum-changed, sum-kept}, Views.Books.{by_query, view-begin_query}, Views.Fields.{IsNewAt, IsPushed}, Views.Frames.{actor-at, actor-off}, Views.Seen.renewed, Views.Shown.held-ledger}
use Rattle.core_image.proofs.{Commands.Going.{going-balancing, going-numbering, going-working, its-own, others-routed, placing-routed}, Commands.Laid.{laid, laid-desking, laid-inserting, laid-leading, laid-querying, taken-off}, Images.KnownMade.known-made, Images.Listings.listing-ascends, Images.Planned.{box-overlaps, held-known, parts-apart}, Images.Valid.image-boxes, Lessens.Lefts.{IsSteady, control-goes, gates-go, nothing-of, rows-go}, Rows.row-coords}

module _ (d im l : Change) (b : ActorValue) (s : Setting) (w : World) (n : ℕ) (g : Ghost) (i : InvWith s (view s w) g) (ag : Agrees w (d ∷ im ∷ l ∷ []) n (w.actors n)) (does : DoesBeginQuery s.hierarchy d im l (w.actors n) b)
    (room : length does.asked.ledger_now.history + does.asked.ledger_now.promised < 2 ^ 31) where
  abbrev cs : List Change
  cs = d ∷ im ∷ l ∷ []

  abbrev v : View
  v = view s w

  abbrev h : List Event
  h = v.history

  abbrev w2 : World
  w2 = after w cs n b

  abbrev u : View
  u = view s w2

  abbrev server : ℕ
  server = does.server

  abbrev e : Event
  e = Asked (w.actors n).number server does.filter

  abbrev q : Query
  q = record { server = server; filter = does.filter }

  abbrev parts : List Part
  parts = map (query_part does.filter) (planned s.hierarchy does.filter does.image.spots)

  -- the view afterwards, with its history written out
  abbrev v2 : View
  v2 = record (renewed by_query u v) { history = e ∷ h; row = row_at (e ∷ h) }

  books : (server < s.servers) × IsNewAt u.desks v.desks server does.desk (laid does.desk (length does.asked.ledger.history) parts) × IsNewAt u.images v.images server does.image does.image × IsPushed e 2 1 b.seen u.history v.history u.promised v.promised
  books = desk-image-event s w n b i.numbering.tag d im l ag.cells does.put does.same does.asked

  within : server < s.servers
  within = books.0

  ledger-was : (h ≡ does.asked.ledger.history) × (v.promised ≡ does.asked.ledger.promised)
  ledger-was = held-ledger s w i.numbering.tag l.number does.asked.ledger (ag.cells.1.1.0 ∙ does.asked.was)

  laid-there : IsNewAt v2.desks v.desks server does.desk (laid does.desk (length h) parts)
  laid-there = subst (λ (past : List Event). IsNewAt v2.desks v.desks server does.desk (laid does.desk (length past) parts)) (sym ledger-was.0) books.1

  image-there : v.images server ≡ does.image
  image-there = (let image = books.2 in image.was_there)

  pushed : IsPushed e 2 1 b.seen u.history v.history u.promised v.promised
  pushed = books.3

  same : u ≡ v2
  same = view-begin_query s w n s.hierarchy d im l (w.actors n) b ag does ∙ (λ k. record (renewed by_query u v) { history = pushed.history_is k; row = row_at (pushed.history_is k) })

  told : Told s v g (e ∷ h)
  told = told-here s w g e refl (λ a of balance is. refl) i

  older : AreOlder h g.placed
  older = older-rows s h i.placing

  -- The command.

  abbrev its : Command
  its = record { of = length h; work = work_is.Query }

  begins : IsNewAt v2.commands v.commands n None (Some its)
  begins = record {
    was_there = does.free.command;
    is_there = ap (λ (a : ActorValue). a.command) (actor-at w.actors n b ∙ does.actor_is) ∙ ap (λ (past : List Event). Some (record { of = length past; work = work_is.Query })) (sym ledger-was.0);
    elsewhere = λ a ne. ap (λ (x : ActorValue). x.command) (actor-off w.actors n b a ne);
  }

  few : n < actor_count s
  few = has-role s v i.numbering n (λ is. let never : Session server ≡ Hand s.workers = sym does.role ∙ is in cc)

  jobless : (j : JobValue) → v.jobs n ≡ Some j → ⊥
  jobless j is = (let never : ◌≡◌ {A = Option JobValue} None (Some j) = sym does.free.job ∙ is in cc)

  asked-is : (other : Query) → query_at (e ∷ h) (length h) ≡ Some other → q ≡ other
  asked-is other is = (let both : ◌≡◌ {A = Option Query} (Some q) (Some other) = sym (new-told query_in e h) ∙ is in cc)

  no-row : (insert : Insert) → insert_at (e ∷ h) (length h) ≡ Some insert → ⊥
  no-row insert is = (let never : ◌≡◌ {A = Option Insert} None (Some insert) = sym (new-told insert_in e h) ∙ is in cc)

  off-desk : (c : Command) → ◌≡◌ {A = Option Command} None (Some c) → is_on_desk c.work ≡ false
  off-desk c is = absurd (cc)

  right : KeepsRight (site_in s) g.placed (e ∷ h)
  right = KeepsRight-asked (site_in s) g.placed h (w.actors n).number server does.filter i.telling.right

  noted : IsNotedBy e h n v.commands v2.commands v.jobs v.jobs v.seen v2.seen
  noted = record {
    others = λ a ne. (begins.elsewhere a ne, refl, ap (λ (x : ActorValue). x.seen) (actor-off w.actors n b a ne));
    all_seen = ap (λ (a : ActorValue). a.seen) (actor-at w.actors n b) ∙ pushed.all_seen ∙ ap length pushed.history_is;
  }

  telling-now : Telling s (e ∷ h) v2.commands v.jobs v.roles v2.seen g.placed
  telling-now = telling-begins s e h n v.commands v2.commands v.jobs v.jobs v.roles v.seen v2.seen g.placed noted right i.telling (ap Some (i.numbering.number n)) does.free.command
      (λ c is.
      let it : its ≡ c = its-own n None its v.commands v2.commands begins c is in
      subst (λ (x : Command). (x.of ≡ length h) × IsProgress s (e ∷ h) x.of x.work (v.jobs n) (v.roles n)) it (refl, (q, does.role, new-told query_in e h)))
      (inr (its, begins.is_there))
      (λ insert is. let never : ◌≡◌ {A = Option Insert} None (Some insert) = is in absurd (cc))
      (λ other is. let both : ◌≡◌ {A = Option Query} (Some q) (Some other) = is in let it : q ≡ other = cc in subst (λ (x : Query). IsFilterOf s.hierarchy x.filter × (x.server < s.servers) × (0 < length s.hierarchy)) it (does.valid, within, does.dims))

  -- What is owed.

  more : v.promised + 1 ≡ v2.promised
  more = (let p = pushed.promised_is in omega (arith, p))

  owing-now : Owing s (e ∷ h) v2.promised v.images v2.desks v.roles v2.commands v.counted_in
  owing-now = record {
    promises =
        let sums = sum-changed (actor_count s) (λ a. owed_by (v.commands a)) (λ a. owed_by (v2.commands a)) n (λ a ne. ap owed_by (begins.elsewhere a ne)) few in
        let none : owed_by (v.commands n) ≡ 0 = ap owed_by begins.was_there in
        let one : owed_by (v2.commands n) ≡ 1 = ap owed_by begins.is_there in
        let old = i.owing.promises in omega (arith, sums, one, none, more, old);
    few =
        let long : length does.asked.ledger_now.history ≡ length (e ∷ h) = ap length (does.asked.history ∙ ap (λ (past : List Event). e ∷ past) (sym ledger-was.0)) in
        let promises = does.asked.promised in
        let was = ledger-was.1 in omega (arith, long, promises, was, room, more);
    image = λ x lt. i.owing.image x lt ∙ sym (sum-kept (actor_count s) (λ a. one_if (serves x (v.roles a) && is_insert (v.commands a))) (λ a. one_if (serves x (v.roles a) && is_insert (v2.commands a))) n
        (λ a ne. ap (λ (c : Option Command). one_if (serves x (v.roles a) && is_insert c)) (begins.elsewhere a ne))
        (ap (λ (c : Option Command). one_if (serves x (v.roles n) && is_insert c)) begins.is_there ∙ sym (ap (λ (c : Option Command). one_if (serves x (v.roles n) && is_insert c)) begins.was_there)));
    sessions = λ x lt. on_bool (eqb x server)
        (λ z. let is = eqb-true x server z in
        ap (λ (y : DeskValue). y.sessions) (ap v2.desks is ∙ laid-there.is_there) ∙ sym (ap (λ (y : DeskValue). y.sessions) (ap v.desks is ∙ laid-there.was_there)) ∙ i.owing.sessions x lt)
        (λ z. ap (λ (y : DeskValue). y.sessions) (laid-there.elsewhere x (eqb-false x server z)) ∙ i.owing.sessions x lt);
  }

  -- The parts.

  image : IsImageOf s h v.row g.placed server does.image
  image = subst (λ (x : ImageValue). IsImageOf s h v.row g.placed server x) image-there (i.imaging.image server within)

  of-parts : (P : Part → Type 0) → ((x : Spot) → Contains does.image.spots x → P (query_part does.filter x)) → All P parts
  of-parts P f = All-map P (query_part does.filter) (planned s.hierarchy does.filter does.image.spots)
      (All-weaker (Contains (planned s.hierarchy does.filter does.image.spots)) (λ (x : Spot). P (query_part does.filter x))
      (λ x has. f x (Contains-filtered (λ (y : Spot). overlaps s.hierarchy y.set does.filter) does.image.spots x has)) (planned s.hierarchy does.filter does.image.spots) (All-contains_itself (planned s.hierarchy does.filter does.image.spots)))

  lines : AreLinesApart h parts
  lines = parts-apart h does.filter (λ (y : Spot). overlaps s.hierarchy y.set does.filter) 0 does.image.spots
      (subst (AscendFrom 0) (sym image.places) (listing-ascends (site_in s) g.placed h server i.telling.right.right.opening i.telling.right.right.each))
      (λ x y a c comes. image.apart x.shard y.shard (a.0, x, a.1, a.2, refl) (c.0, y, c.1, c.2, refl) comes)

  spot-leads : (x : Spot) → Contains does.image.spots x → (x.worker < s.workers) × IsSome (v.maps x.worker x.shard)
  spot-leads x has = All-contains (λ (y : Spot). (y.worker < s.workers) × IsSome (v.maps y.worker y.shard)) does.image.spots x
      (subst (λ (y : ImageValue). All (λ (z : Spot). (z.worker < s.workers) × IsSome (v.maps z.worker z.shard)) y.spots) image-there (i.leading.spots server within)) has

  leads : All (λ (p : Part). is_open p ≡ true → (p.worker < s.workers) × IsSome (v.maps p.worker p.shard)) parts
  leads = of-parts (λ (p : Part). is_open p ≡ true → (p.worker < s.workers) × IsSome (v.maps p.worker p.shard)) (λ x has on. spot-leads x has)

  untaken : (a : ℕ) (t : Taken) → v.taken a ≡ Some t → t.server ≢ server
  untaken = taken-off s server does.desk (length h) parts v.desks v2.desks laid-there does.empty h v.roles v.commands v.taken i.desking

  unread : (a : ℕ) (p : ReadPart) → v.reads a ≡ Some p → p.server ≢ server
  unread a p is = (let t = readers-take s w a p is in λ e. untaken a t.0 t.1 (t.2 ∙ e))

  -- nothing is counted yet
  abbrev counted : ℕ → ℕ → List ℕ
  counted = λ x. cond (eqb x server) (λ y. []) (g.counted x)

  none-counted : counted server ≡ (λ y. [])
  none-counted = rw (eqb-self server) refl

  abbrev g2 : Ghost
  g2 = record g { counted = counted }

  -- a row that the query must hold is in the line of a part
  whole : (r : ℕ) → must_hold s.hierarchy (e ∷ h) (length h) q r ≡ true → fits (table_of s (row_at (e ∷ h))) does.filter r ≡ true → Any (λ (p : Part). IsUnder (e ∷ h) g.placed g.home p.shard r) parts
  whole r held fit =
      let k = held-known s.hierarchy e h q r held in
      let placed : g.placed r ≡ true = subst (λ (x : ℕ). g.placed x ≡ true) k.2 (older.acked_rows k.0 (known-acked s.hierarchy h server k.0 k.1)) in
      let fitting : fits (table_of s (row_at h)) does.filter r ≡ true = sym (fits-was s e h (all-stays s e h refl).shards g.placed g.home older does.filter r placed) ∙ fit in
      let covered : IsCovered s.hierarchy h v.row g.home does.image.spots r =
      subst (λ (y : ImageValue). IsCovered s.hierarchy h v.row g.home y.spots r) image-there
      (subst (λ (x : ℕ). IsCovered s.hierarchy h v.row g.home (v.images server).spots x) k.2
      (All-contains (λ (a : Ack). IsCovered s.hierarchy h v.row g.home (v.images server).spots a.row.no) (known s.hierarchy h server) k.0 (i.covering.must server within) k.1)) in
      let spot = covered.1 in
      let boxes = subst (λ (y : ImageValue). AreBoxes s.hierarchy y.spots) image-there (image-boxes s w g i server within) in
      let there : Contains does.image.spots spot = (covered.0, covered.2, covered.3) in
      let met : overlaps s.hierarchy spot.set does.filter ≡ true = box-overlaps s.hierarchy spot.set does.filter (row_at h r).at (All-contains (λ (y : Spot). IsDescSetOf s.hierarchy y.set) does.image.spots spot boxes there) does.valid (row-coords s w g i r placed)
      does.dims covered.4.1 fitting in
      let part = Contains-map (query_part does.filter) (planned s.hierarchy does.filter does.image.spots) spot (Contains-filter (λ (y : Spot). overlaps s.hierarchy y.set does.filter) does.image.spots spot there met) in
      (part.0, query_part does.filter spot, part.1, part.2, under-quiet s e h refl g.placed g.home spot.shard r (record { is_placed = placed; comes = covered.4.0 }))

  -- All parts.

  pub holds : InvWith s v2 g2
  holds = record {
    numbering = going-numbering n None its v.commands v2.commands begins s v.tags v.numbers v.roles v.settings v.counted_in v.purses v.taken v.jobs few i.numbering;
    telling = telling-now;
    owing = owing-now;
    turning = i.turning;
    stocking = i.stocking;
    stamping = i.stamping;
    lineage = told.lineage;
    leading = laid-leading s server does.desk (length h) parts v.desks v2.desks laid-there does.empty v.maps v.images leads i.leading;
    growing = told.growing;
    queueing = told.queueing;
    resting = told.resting;
    placing = placing-routed s (e ∷ h) v.commands v2.commands v.ways v.queues g.gate g.shape g.placed g.home g.path (others-routed n None its v.commands v2.commands begins (λ r row is. absurd (cc))) told.placing;
    inserting = laid-inserting s server does.desk (length h) parts v.desks v2.desks laid-there does.empty n None its v.roles v.commands v2.commands begins refl does.role refl off-desk (e ∷ h) v.images v.ways g.placed g.path
        (λ insert is. absurd (no-row insert is)) told.inserting;
    imaging = told.imaging;
    covering = told.covering;
    desking = laid-desking s server does.desk (length h) parts v.desks v2.desks laid-there does.empty n None its v.roles v.commands v2.commands begins refl does.role refl off-desk (e ∷ h) v.taken
        (λ insert is. absurd (no-row insert is))
        (λ other is. (of-parts (λ (p : Part). IsQueryState other p.state) (λ x has. ap (λ (y : Query). want.Filter y.filter) (asked-is other is)), lines-grown s e h (all-stays s e h refl).shards parts lines, of-parts (IsQueryPart s (e ∷ h)) (λ x has. (refl, known-made s v g i x.shard x.worker (spot-leads x has).1))))
        (of-parts (λ (p : Part). is_taken p ≡ true → IsTaken v.taken server p) (λ x has on. absurd (false≢true on))) told.desking;
    pinning = i.pinning;
    querying = laid-querying s server does.desk (length h) parts v.desks v2.desks laid-there does.empty (e ∷ h) (row_at (e ∷ h)) v.blocks v.trees v.taken v.reads g.shape g.placed g.home g.counted counted
        (λ x ne. rw (ne_eqb x server ne) refl) untaken
        (λ other is. subst (λ (c : ℕ → List ℕ). All (λ (p : Part). is_refused p ≡ false → IsCounted s (e ∷ h) (row_at (e ∷ h)) g.placed g.home other p.shard (c p.shard)) parts) (sym none-counted)
        (of-parts (λ (p : Part). is_refused p ≡ false → IsCounted s (e ∷ h) (row_at (e ∷ h)) g.placed g.home other p.shard [])
        (λ x has kept. record { once = λ r. omega arith; fitting = λ r some. absurd (omega (arith, some)); under = λ r some. absurd (omega (arith, some)) })))
        (λ other is. subst (λ (c : ℕ → List ℕ). All (λ (p : Part). IsEndOfPart s (e ∷ h) (row_at (e ∷ h)) g.placed g.home (length h) other p.shard (c p.shard) p.state) parts) (sym none-counted)
        (of-parts (λ (p : Part). IsEndOfPart s (e ∷ h) (row_at (e ∷ h)) g.placed g.home (length h) other p.shard [] p.state) (λ x has. refl)))
        (λ other is r held fit. let it = asked-is other is in
        whole r (subst (λ (y : Query). must_hold s.hierarchy (e ∷ h) (length h) y r ≡ true) (sym it) held) (subst (λ (y : Query). fits (table_of s (row_at (e ∷ h))) y.filter r ≡ true) (sym it) fit))
        unread told.querying;
    working = going-working n None its v.commands v2.commands begins s (e ∷ h) v.blocks v.made v.trees v.phases v.active v.queues v.purses v.jobs g.gate g.shape g.placed jobless told.working;
    balancing = going-balancing n None its v.commands v2.commands begins s (e ∷ h) v.jobs g.placed g.home (λ x is. cc) told.balancing;
    reusing = i.reusing;
  }

  -- What is left.

  steady : IsSteady (w.actors n) b
  steady = record {
    errand = ap (λ (a : ActorValue). a.errand) does.actor_is;
    purse = ap (λ (a : ActorValue). a.purse) does.actor_is;
    job = ap (λ (a : ActorValue). a.job) does.actor_is;
  }

  nothing-left : (f : Part → ℕ) → ((x : Spot) → f (query_part does.filter x) ≡ 0) → sum_by f parts ≡ 0
  nothing-left f zero_ = nothing-of f parts (of-parts (λ (p : Part). f p ≡ 0) (λ x has. zero_ x))

  no-parts : does.desk.parts ≡ []
  no-parts = ap (λ (y : DeskValue). y.parts) (sym laid-there.was_there) ∙ i.desking.empty server within (ap (λ (y : DeskValue). y.op) laid-there.was_there ∙ does.empty)

  control-same : (left s w2 g2).control ≡ (left s w g).control
  control-same =
      let goes = control-goes s w cs n b e v2 few same refl (all-stays s e h refl).shards refl steady g g2 refl refl in
      let was : of_work (control_of s) (w.actors n).command ≡ 0 = ap (of_work (control_of s)) does.free.command in
      let now : of_work (control_of s) b.command ≡ 0 = ap (λ (a : ActorValue). of_work (control_of s) a.command) does.actor_is in
      omega (arith, goes, was, now)

  gates-same : (left s w2 g2).gates ≡ (left s w g).gates
  gates-same =
      let goes = gates-go s w cs n b e v2 few same refl (all-stays s e h refl).shards refl steady g g2 server does.desk (laid does.desk (length h) parts) within laid-there in
      let was : of_work (gates_of_work h) (w.actors n).command ≡ 0 = ap (of_work (gates_of_work h)) does.free.command in
      let now : of_work (gates_of_work h) b.command ≡ 0 = ap (λ (a : ActorValue). of_work (gates_of_work h) a.command) does.actor_is in
      let none : sum_by (gates_of_part s h) does.desk.parts ≡ 0 = ap (sum_by (gates_of_part s h)) no-parts in
      let new = nothing-left (gates_of_part s h) (λ x. refl) in
      omega (arith, goes, was, now, none, new)

  rows-same : (left s w2 g2).rows ≡ (left s w g).rows
  rows-same =
      let goes = rows-go s w cs n b e v2 few same refl (all-stays s e h refl).shards refl steady g g2 server does.desk (laid does.desk (length h) parts) refl within laid-there in
      let none : sum_by (λ (p : Part). rows_of_part p.state) does.desk.parts ≡ 0 = ap (sum_by (λ (p : Part). rows_of_part p.state)) no-parts in
      let new = nothing-left (λ (p : Part). rows_of_part p.state) (λ x. refl) in
      omega (arith, goes, none, new)

  pub query-kept : IsKept s kind.BeginQuery n w w2 g
  query-kept = record {
    step = record { changes = cs; actor = b; agrees = ag; does = does; sight = tt; now_is = refl };
    ghost_now = g2;
    holds = subst (λ (z : View). InvWith s z g2) (sym same) holds;
    newer = e ∷ [];
    grows = pushed.history_is;
    goes_on = inr (inl (record {
      e = e;
      begun = refl;
      grown = pushed.history_is;
      control = no-more (left s w2 g2).control (left s w g).control _ control-same;
      gates = no-more (left s w2 g2).gates (left s w g).gates _ gates-same;
      rows = rows-same;
    }));
  }
    where
      no-more : (x y z : ℕ) → x ≡ y → x ≤ y + z
      no-more x y z is = omega (arith, is)

-- where the ledger has room
pub query-keeps : (hierarchy : List Dimension) (d im l : Change) (a b : ActorValue) (does : DoesBeginQuery hierarchy d im l a b) → length does.asked.ledger_now.history + does.asked.ledger_now.promised < 2 ^ 31
    → Keeps hierarchy kind.BeginQuery (d ∷ im ∷ l ∷ []) a b does
query-keeps hierarchy d im l a b does room s w n g same i ag sight =
    let Fits : List Dimension → ActorValue → Type 0 = λ hs z. (x : DoesBeginQuery hs d im l z b) × (length x.asked.ledger_now.history + x.asked.ledger_now.promised < 2 ^ 31) in
    let here : Fits s.hierarchy (w.actors n) = subst (λ (hs : List Dimension). Fits hs (w.actors n)) (sym same) (subst (Fits hierarchy) (sym ag.actor_is) (does, room)) in
    query-kept d im l b s w n g i (record { cells = ag.cells; actor_is = refl; free = λ x ne. ag.free x ne }) here.0 here.1
