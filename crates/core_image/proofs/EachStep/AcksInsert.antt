-- An acknowledgement keeps the invariant, and less is left.
use Rattle.std.proofs.{Common.{◌≡◌, ◌≢◌, ℕ, ◌+◌, ◌<◌, List, [], ◌∷◌, Bool, true, false, eqb, length, Option, Some, None, option_and_then, refl, sym, ap, ◌∙◌, subst, arith, inl, inr, ◌==◌, ◌&&◌, All, Contains}, lemmas.Bool.{and_right, false≢true, eqb-true, eqb-false, ne_eqb}, lemmas.List.Elements.All-head}
use Rattle.std.specs.{Option.option_map_or, Prelude.sum_by}
use Rattle.dim_hierarchy.specs.Dimension.{Dimension}
use Rattle.query_router.specs.{Desk.{DeskValue, is_taken, state_is_taken}, declared.part.Part.Part, declared.part.PartState.PartState, declared.part.PartState.TheVariants.Placed}
use Rattle.row_ledger.specs.{Changes.ShardsStay, Past.{Ack, Insert, acked, event_at, has_ended, insert_at, last_of, session_in}, Right.{EachEvent, Stands}, Shards.comes_from, declared.event.Event.Event, declared.event.Event.TheVariants.Acked}
use Rattle.row_ledger.proofs.{Ended.acked-ended, Fresh.kind-within}
use Rattle.server_image.specs.Image.{ImageValue}
use Rattle.list_words.proofs.{Elements.Contains-first, Truth.{on_bool, eqb-self}}
use Rattle.volap_cell.specs.{Desking.Desking, Falls.{control_of, far, gates_of_errand, gates_of_part, gates_of_state, gates_of_work, gone_left, job_left, left, of_work, one_if_any, rows_of_errand, rows_of_part}, Ghost.Ghost, ImageKinds.{DoesAck, cleared, doing}, Imaging.{Covering, Imaging}, Invariant.InvWith, Owing.{Owing, is_insert, one_if, owed_by, serves}, Placing.{Inserting, IsRowPart}, Setting.{Setting, actor_count, cell_count, site_in}, Steps.{IsKept, Keeps}, Sums.sum_below, Values.{ActorValue, JobValue}, View.{View, view, row_at}, World.{World, Change, Agrees, after}, declared.command.Command.Command, declared.command.Work.Work, declared.role.Role.Role, declared.role.Role.TheVariants.{Admin, Session}}
use Rattle.volap_cell.specs.declared.command.Work.TheVariants as work_is
use Rattle.volap_cell.specs.declared.kind.Kind.TheVariants as kind
use Rattle.volap_cell.proofs.{Histories.Books.desk-image-event, OneEvent.Acked.{ack-changes, placing-acked, inserting-acked, imaging-acked, covering-acked, desking-acked, querying-acked, working-acked, balancing-acked, telling-acked, few-acked, lineage-acked, growing-acked, queueing-acked, resting-acked}, OneEvent.Ahead.{command-stays, errand-stays, job-stays, parts-stay}, OneEvent.Known.{AreOlder, older-rows}, Persons.has-command, Sums.{sum-changed, sum-kept, sum-same}, Views.Books.{by_ack, view-ack}, Views.Fields.{IsNewAt, IsPushed}, Views.Frames.{actor-at, actor-off, unmoved-one}, Views.Seen.renewed}
use Rattle.core_image.proofs.{Images.Widens.{IsPlacedRow, covering-now, imaging-now, inserting-now, leading-now, noted-now, row-covered}, EachStep.Clears.{cleared-desking, cleared-inserting, cleared-leading, cleared-querying, ended-balancing, ended-inserting, ended-numbering, ended-working, still-has}, Rows.{row-coords, may-coords, begun-of}}

module _ (d im l : Change) (b : ActorValue) (s : Setting) (w : World) (n : ℕ) (g : Ghost) (i : InvWith s (view s w) g) (ag : Agrees w (d ∷ im ∷ l ∷ []) n (w.actors n)) (does : DoesAck s.hierarchy d im l (w.actors n) b) where
  abbrev cs : List Change
  cs = d ∷ im ∷ l ∷ []

  abbrev v : View
  v = view s w

  abbrev h : List Event
  h = v.history

  abbrev w2 : World
  w2 = after w cs n b

  abbrev u : View
  u = view s w2

  abbrev of : ℕ
  of = does.of

  abbrev way : List ℕ
  way = does.path

  abbrev server : ℕ
  server = does.server

  abbrev e : Event
  e = Acked of way

  -- the view afterwards, with its history written out
  abbrev v2 : View
  v2 = record (renewed by_ack u v) { history = e ∷ h; row = row_at (e ∷ h) }

  books : (server < s.servers) × IsNewAt u.desks v.desks server does.desk (cleared does.desk) × IsNewAt u.images v.images server does.image does.image_now × IsPushed e 0 1 b.seen u.history v.history u.promised v.promised
  books = desk-image-event s w n b i.numbering.tag d im l ag.cells does.clear does.turns does.acked

  within : server < s.servers
  within = books.0

  desk-turned : IsNewAt v2.desks v.desks server does.desk (cleared does.desk)
  desk-turned = books.1

  image-turned : IsNewAt v2.images v.images server does.image does.image_now
  image-turned = books.2

  pushed : IsPushed e 0 1 b.seen u.history v.history u.promised v.promised
  pushed = books.3

  same : u ≡ v2
  same = view-ack s w n s.hierarchy d im l (w.actors n) b ag does ∙ (λ k. record (renewed by_ack u v) { history = pushed.history_is k; row = row_at (pushed.history_is k) })

  -- The command.

  abbrev its : Command
  its = record { of = of; work = work_is.Insert does.row true }

  end : IsNewAt v2.commands v.commands n (Some its) None
  end = record {
    was_there = does.command;
    is_there = ap (λ (a : ActorValue). a.command) (actor-at w.actors n b ∙ does.actor_is);
    elsewhere = λ a ne. ap (λ (x : ActorValue). x.command) (actor-off w.actors n b a ne);
  }

  few : n < actor_count s
  few = has-command s v i.numbering n its does.command

  abbrev insert : Insert
  insert = record { server = server; row = does.row }

  started : (insert_at h of ≡ Some insert) × (does.row.no ≡ of)
  started = begun-of s w g i n of server does.row does.command does.role

  begun-here : insert_at h of ≡ Some insert
  begun-here = started.0

  number : does.row.no ≡ of
  number = started.1

  -- nobody else has this command
  own : (a : ℕ) (c : Command) → v.commands a ≡ Some c → c.of ≡ of → a ≡ n
  own a c has is =
      let both : ◌≡◌ {A = Option ℕ} (Some a) (Some n) = sym (i.telling.own a c has) ∙ ap (λ (p : ℕ). option_and_then session_in (event_at h p)) is ∙ i.telling.own n its does.command in cc

  began : (a : ℕ) (c : Command) → v.commands a ≡ Some c → c.of < length h
  began a c has = kind-within session_in h c.of a (i.telling.own a c has)

  began-still : (a : ℕ) (c : Command) → v2.commands a ≡ Some c → c.of < length h
  began-still a c has = began a c (still-has n its v.commands v2.commands end a c has).1

  jobless : (j : JobValue) → v.jobs n ≡ Some j → ⊥
  jobless j is = (let roles : Session server ≡ Admin = sym does.role ∙ i.numbering.working n j is in cc)

  -- The part, and its row.

  op : (v.desks server).op ≡ Some of
  op = ap (λ (x : DeskValue). x.op) desk-turned.was_there ∙ does.op

  placed-part : IsRowPart h v.images v.ways g.placed g.path server of does.part (Placed way)
  placed-part =
      let P : Part → Type 0 = λ p. IsRowPart h v.images v.ways g.placed g.path server of p p.state in
      let all : All P (does.part ∷ []) = subst (All P) (ap (λ (x : DeskValue). x.parts) desk-turned.was_there ∙ does.parts) (i.inserting.parts server of insert within op begun-here) in
      subst (λ (st : PartState). IsRowPart h v.images v.ways g.placed g.path server of does.part st) does.placed (All-head P does.part [] all)

  none-taken : (p : Part) → Contains does.desk.parts p → is_taken p ≡ true → ⊥
  none-taken p has taken = elim (Contains-first does.part [] p (subst (λ (ps : List Part). Contains ps p) does.parts has)) [
    | inl is ↦ false≢true (sym (ap state_is_taken does.placed) ∙ ap is_taken is ∙ taken)
    | inr none ↦ absurd (omega (arith, none.1))
  ]

  older : AreOlder h g.placed
  older = older-rows s h i.placing

  each : EachEvent (Stands (site_in s) g.placed) h
  each = i.telling.right.right.each

  row : IsPlacedRow s h g.placed g.home g.path server way does.row of
  row = record {
    tall = i.numbering.setting.hierarchy;
    right = i.telling.right;
    begun = begun-here;
    number = number;
    is_placed = placed-part.0;
    came = placed-part.1;
    is_path = placed-part.3.is_path;
    line = subst (λ (p : List ℕ). comes_from h (last_of p) (g.home of) ≡ true) placed-part.1 (i.placing.line of placed-part.0).1;
    stands = i.placing.stands of placed-part.0;
    older = older;
    coords = row-coords s w g i;
    valid = may-coords s w g i;
  }

  none-acked : (a : Ack) → Contains (acked h) a → a.row.no ≢ of
  none-acked a has is =
      let ended = acked-ended (site_in s) g.placed h a each has in
      let open_ = i.telling.is_open n its does.command in
      false≢true (sym open_ ∙ ap (λ (p : ℕ). has_ended h p) (sym is) ∙ ended)

  -- What is owed.

  owed-image : (x : ℕ) → x < s.servers → (v2.images x).owed ≡ sum_below (actor_count s) (λ a. one_if (serves x (v.roles a) && is_insert (v2.commands a)))
  owed-image x lt =
      let f : ℕ → ℕ = λ a. one_if (serves x (v.roles a) && is_insert (v.commands a)) in
      let k : ℕ → ℕ = λ a. one_if (serves x (v.roles a) && is_insert (v2.commands a)) in
      let others : (a : ℕ) → a ≢ n → k a ≡ f a = λ a ne. ap (λ (c : Option Command). one_if (serves x (v.roles a) && is_insert c)) (end.elsewhere a ne) in
      let was : f n ≡ one_if ((server == x) && true) = ap (λ (r : Role). one_if (serves x r && is_insert (v.commands n))) does.role ∙ ap (λ (c : Option Command). one_if ((server == x) && is_insert c)) does.command in
      let none : k n ≡ 0 = ap (λ (c : Option Command). one_if (serves x (v.roles n) && is_insert c)) end.is_there ∙ ap one_if (and_right (serves x (v.roles n)) false refl) in
      let old = i.owing.image x lt in
      on_bool (eqb x server)
      (λ q.
      let is = eqb-true x server q in
      let one : f n ≡ 1 = was ∙ ap (λ (y : ℕ). one_if ((server == y) && true)) is ∙ (rw (eqb-self server) refl) in
      let sums = sum-changed (actor_count s) f k n others few in
      let now : (v2.images x).owed ≡ does.image_now.owed = ap (λ (y : ImageValue). y.owed) (ap v2.images is ∙ image-turned.is_there) in
      let before : (v.images x).owed ≡ does.image.owed = ap (λ (y : ImageValue). y.owed) (ap v.images is ∙ image-turned.was_there) in
      let less = does.grows.owed in omega (arith, one, none, sums, now, before, less, old))
      (λ q.
      let ne = eqb-false x server q in
      let zero_ : f n ≡ 0 = was ∙ ap (λ (y : Bool). one_if (y && true)) (ne_eqb server x (λ z. ne (sym z))) in
      ap (λ (y : ImageValue). y.owed) (image-turned.elsewhere x ne) ∙ old ∙ sym (sum-kept (actor_count s) f k n others (none ∙ sym zero_)))

  owing-now : Owing s (e ∷ h) v2.promised v2.images v2.desks v.roles v2.commands v.counted_in
  owing-now = record {
    promises =
        let sums = sum-changed (actor_count s) (λ a. owed_by (v.commands a)) (λ a. owed_by (v2.commands a)) n (λ a ne. ap owed_by (end.elsewhere a ne)) few in
        let one : owed_by (v.commands n) ≡ 1 = ap owed_by does.command in
        let none : owed_by (v2.commands n) ≡ 0 = ap owed_by end.is_there in
        let less = pushed.promised_is in
        let old = i.owing.promises in omega (arith, sums, one, none, less, old);
    few = few-acked h of way v.promised v2.promised pushed.promised_is i.owing.few;
    image = owed-image;
    sessions = λ x lt. on_bool (eqb x server)
        (λ q. let is = eqb-true x server q in
        ap (λ (y : DeskValue). y.sessions) (ap v2.desks is ∙ desk-turned.is_there) ∙ sym (ap (λ (y : DeskValue). y.sessions) (ap v.desks is ∙ desk-turned.was_there)) ∙ i.owing.sessions x lt)
        (λ q. ap (λ (y : DeskValue). y.sessions) (desk-turned.elsewhere x (eqb-false x server q)) ∙ i.owing.sessions x lt);
  }

  -- All parts.

  inserting-still : Inserting s h v2.images v2.desks v2.commands v.ways g.placed g.path
  inserting-still = ended-inserting n its v.commands v2.commands end s h v2.images v2.desks v.ways g.placed g.path
      (cleared-inserting s server does.desk v.desks v2.desks desk-turned h v2.images v.commands v.ways g.placed g.path
      (inserting-now s h g.placed g.home g.path server way does.row of row does.image does.image_now v.images v2.images image-turned does.grows i.imaging within v.desks v.commands v.ways i.inserting))

  imaging-still : Imaging s h v.row v2.images g.placed
  imaging-still = imaging-now s h g.placed g.home g.path server way does.row of row does.image does.image_now v.images v2.images image-turned does.grows i.imaging within

  covering-still : Covering s h v.row v.registry v2.images g.placed g.home g.path
  covering-still = covering-now s h g.placed g.home g.path server way does.row of row does.image does.image_now v.images v2.images image-turned does.grows i.imaging within v.registry i.covering

  desking-still : Desking s h v2.desks v.roles v2.commands v.taken
  desking-still = cleared-desking s server does.desk v.desks v2.desks desk-turned n its v.roles v.commands v2.commands end does.op does.role own none-taken h v.taken i.desking

  pub holds : InvWith s v2 g
  holds = record {
    numbering = ended-numbering n its v.commands v2.commands end s v.tags v.numbers v.roles v.settings v.counted_in v.purses v.taken v.jobs i.numbering;
    telling = telling-acked s h of way insert begun-here n v.commands v2.commands v.jobs v.roles v.seen v2.seen g.placed true does.command end.is_there
        (ap (λ (a : ActorValue). a.seen) (actor-at w.actors n b) ∙ pushed.all_seen ∙ ap length pushed.history_is)
        (λ a ne. (end.elsewhere a ne, ap (λ (x : ActorValue). x.seen) (actor-off w.actors n b a ne))) placed-part.3.is_path i.telling;
    owing = owing-now;
    turning = i.turning;
    stocking = i.stocking;
    stamping = i.stamping;
    lineage = lineage-acked s h of way insert begun-here v.stock v.registry v.maps v.gates v.phases g.gate i.lineage;
    leading = cleared-leading s server does.desk v.desks v2.desks desk-turned v.maps v2.images
        (leading-now s h g.placed g.home g.path server way does.row of row does.image does.image_now v.images v2.images image-turned does.grows i.imaging within v.maps v.desks i.leading);
    growing = growing-acked s h of way insert begun-here v.blocks v.trees v.gates v.phases v.pins g.shape i.growing;
    queueing = queueing-acked s h of way insert begun-here v.gates v.phases v.queues i.queueing;
    resting = resting-acked s h of way insert begun-here v.gates v.phases g.shape g.placed g.home i.resting;
    placing = placing-acked s h of way insert begun-here v.commands v2.commands v.ways v.queues g.gate g.shape g.placed g.home g.path number placed-part.0 placed-part.1 placed-part.2
        (λ a r x ne is. end.elsewhere a (λ z. let both : doing r (work_is.Insert x true) ≡ Some its = sym is ∙ ap v.commands z ∙ does.command in ne (ap (λ (c : Option Command). option_map_or (λ (y : Command). y.of) c 0) both)) ∙ is) i.placing;
    inserting = inserting-acked s h of way insert begun-here v2.images v2.desks v2.commands v.ways g.placed g.path inserting-still;
    imaging = imaging-acked s h of way insert begun-here v2.images g.placed older imaging-still;
    covering = covering-acked s h of way insert begun-here v.registry v2.images g.placed g.home g.path older number placed-part.0
        (inr (noted-now s h g.placed g.home g.path server way does.row of row does.image does.image_now v.images v2.images image-turned does.grows i.imaging within))
        (row-covered s h g.placed g.home g.path server way does.row of row does.image does.image_now v.images v2.images image-turned does.grows i.imaging within v.registry i.covering none-acked) covering-still;
    desking = desking-acked s h of way insert begun-here v2.desks v.roles v2.commands v.taken desking-still;
    pinning = i.pinning;
    querying = querying-acked s h of way insert begun-here v.blocks v.trees v2.desks v.taken v.reads g.shape g.placed g.home g.counted older
        (cleared-querying s server does.desk v.desks v2.desks desk-turned h v.row v.blocks v.trees v.taken v.reads g.shape g.placed g.home g.counted i.querying);
    working = working-acked s h of way insert begun-here v.blocks v.made v.trees v.phases v.active v.queues v.purses v2.commands v.jobs g.gate g.shape g.placed began-still
        (ended-working n its v.commands v2.commands end s h v.blocks v.made v.trees v.phases v.active v.queues v.purses v.jobs g.gate g.shape g.placed jobless i.working);
    balancing = balancing-acked s h of way insert begun-here v2.commands v.jobs g.placed g.home began-still (ended-balancing n its v.commands v2.commands end s h v.jobs g.placed g.home i.balancing);
    reusing = i.reusing;
  }

  -- What is left.

  stay : ShardsStay s.workers e h
  stay = (ack-changes s h of way insert begun-here).shards

  actor-same : {A : Type 0} (f : ActorValue → A) → f b ≡ f (w.actors n) → (a : ℕ) → f (w2.actors a) ≡ f (w.actors a)
  actor-same f is a = unmoved-one f w.actors n b is a

  -- what an insert doesn't count for once its part was routed
  work-kept : (f : Work → ℕ) → f (work_is.Insert does.row true) ≡ 0 → (a : ℕ) → of_work f (w2.actors a).command ≡ of_work f (w.actors a).command
  work-kept f none a = on_bool (eqb a n)
      (λ q. let is = eqb-true a n q in ap (of_work f) (ap v2.commands is ∙ end.is_there) ∙ sym (ap (of_work f) (ap v.commands is ∙ does.command) ∙ none))
      (λ q. ap (of_work f) (end.elsewhere a (eqb-false a n q)))

  control-same : (left s w2 g).control ≡ (left s w g).control
  control-same =
      ap (λ (z : View). sum_below (actor_count s) (λ a. of_work (control_of s) (w2.actors a).command + job_left s z (w2.actors a).job) + sum_below (cell_count s) (λ y. gone_left (z.phases y) (z.gone y))) same
      ∙ ap (λ (x : ℕ). x + sum_below (cell_count s) (λ y. gone_left (v.phases y) (v.gone y)))
      (sum-same (actor_count s) (λ a. of_work (control_of s) (w.actors a).command + job_left s v (w.actors a).job) (λ a. of_work (control_of s) (w2.actors a).command + job_left s v2 (w2.actors a).job)
      (λ a lt.
      let one = work-kept (control_of s) refl a in
      let two = actor-same (λ z. job_left s v2 z.job) (ap (λ (z : ActorValue). job_left s v2 z.job) does.actor_is) a in
      let three = job-stays s v v2 refl (w.actors a).job in omega arith))

  gates-desk : (x : ℕ) → sum_by (gates_of_part s (e ∷ h)) (v2.desks x).parts ≡ sum_by (gates_of_part s h) (v.desks x).parts
  gates-desk x = on_bool (eqb x server)
      (λ q.
      let is = eqb-true x server q in
      let far_ = far s.workers h does.part.shard does.part.worker in
      ap (λ (y : DeskValue). sum_by (gates_of_part s (e ∷ h)) y.parts) (ap v2.desks is ∙ desk-turned.is_there)
      ∙ sym (ap (λ (y : DeskValue). sum_by (gates_of_part s h) y.parts) (ap v.desks is ∙ desk-turned.was_there) ∙ ap (sum_by (gates_of_part s h)) does.parts ∙ ap (λ (st : PartState). 0 + gates_of_state far_ does.part.path st) does.placed))
      (λ q. ap (λ (y : DeskValue). sum_by (gates_of_part s (e ∷ h)) y.parts) (desk-turned.elsewhere x (eqb-false x server q)) ∙ parts-stay s e h stay refl (v.desks x).parts)

  gates-same : (left s w2 g).gates ≡ (left s w g).gates
  gates-same =
      let is : (left s w2 g).gates ≡ sum_below (actor_count s) (λ a. of_work (gates_of_work (e ∷ h)) (w2.actors a).command + gates_of_errand s (e ∷ h) (w2.actors a).errand) + sum_below s.servers (λ x. sum_by (gates_of_part s (e ∷ h)) (v2.desks x).parts) =
      ap (λ (z : View). sum_below (actor_count s) (λ a. of_work (gates_of_work z.history) (w2.actors a).command + gates_of_errand s z.history (w2.actors a).errand) + sum_below s.servers (λ x. sum_by (gates_of_part s z.history) (z.desks x).parts)) same in
      let actors = sum-same (actor_count s) (λ a. of_work (gates_of_work h) (w.actors a).command + gates_of_errand s h (w.actors a).errand) (λ a. of_work (gates_of_work (e ∷ h)) (w2.actors a).command + gates_of_errand s (e ∷ h) (w2.actors a).errand)
      (λ a lt.
      let one = work-kept (gates_of_work (e ∷ h)) refl a in
      let two = command-stays s.workers e h stay refl (w.actors a).command in
      let three = actor-same (λ z. gates_of_errand s (e ∷ h) z.errand) (ap (λ (z : ActorValue). gates_of_errand s (e ∷ h) z.errand) does.actor_is) a in
      let four = errand-stays s e h stay refl (w.actors a).errand in omega arith) in
      let desks = sum-same s.servers (λ x. sum_by (gates_of_part s h) (v.desks x).parts) (λ x. sum_by (gates_of_part s (e ∷ h)) (v2.desks x).parts) (λ x lt. gates-desk x) in
      omega arith

  rows-less : (left s w2 g).rows < (left s w g).rows
  rows-less =
      let is : (left s w2 g).rows ≡ sum_below (actor_count s) (λ a. rows_of_errand g.shape (w2.actors a).errand + one_if_any (w2.actors a).purse) + sum_below s.servers (λ x. sum_by (λ (p : Part). rows_of_part p.state) (v2.desks x).parts) =
      ap (λ (z : View). sum_below (actor_count s) (λ a. rows_of_errand g.shape (w2.actors a).errand + one_if_any (w2.actors a).purse) + sum_below s.servers (λ x. sum_by (λ (p : Part). rows_of_part p.state) (z.desks x).parts)) same in
      let actors = sum-same (actor_count s) (λ a. rows_of_errand g.shape (w.actors a).errand + one_if_any (w.actors a).purse) (λ a. rows_of_errand g.shape (w2.actors a).errand + one_if_any (w2.actors a).purse)
      (λ a lt. actor-same (λ z. rows_of_errand g.shape z.errand + one_if_any z.purse) (ap (λ (z : ActorValue). rows_of_errand g.shape z.errand + one_if_any z.purse) does.actor_is) a) in
      let one : sum_by (λ (p : Part). rows_of_part p.state) (v.desks server).parts ≡ 1 =
      ap (λ (y : DeskValue). sum_by (λ (p : Part). rows_of_part p.state) y.parts) desk-turned.was_there ∙ ap (sum_by (λ (p : Part). rows_of_part p.state)) does.parts ∙ ap (λ (st : PartState). 0 + rows_of_part st) does.placed in
      let none : sum_by (λ (p : Part). rows_of_part p.state) (v2.desks server).parts ≡ 0 = ap (λ (y : DeskValue). sum_by (λ (p : Part). rows_of_part p.state) y.parts) desk-turned.is_there in
      let desks = sum-changed s.servers (λ x. sum_by (λ (p : Part). rows_of_part p.state) (v.desks x).parts) (λ x. sum_by (λ (p : Part). rows_of_part p.state) (v2.desks x).parts) server
      (λ x ne. ap (λ (y : DeskValue). sum_by (λ (p : Part). rows_of_part p.state) y.parts) (desk-turned.elsewhere x ne)) within in
      omega arith

  pub ack-kept : IsKept s kind.Ack n w w2 g
  ack-kept = record {
    step = record { changes = cs; actor = b; agrees = ag; does = does; sight = tt; now_is = refl };
    ghost_now = g;
    holds = subst (λ (z : View). InvWith s z g) (sym same) holds;
    newer = e ∷ [];
    grows = pushed.history_is;
    goes_on = inl (inr (inr (inl (control-same, gates-same, rows-less))));
  }

pub ack-keeps : (hierarchy : List Dimension) (d im l : Change) (a b : ActorValue) (does : DoesAck hierarchy d im l a b) → Keeps hierarchy kind.Ack (d ∷ im ∷ l ∷ []) a b does
ack-keeps hierarchy d im l a b does s w n g same i ag sight =
    ack-kept d im l b s w n g i (record { cells = ag.cells; actor_is = refl; free = λ x ne. ag.free x ne })
    (subst (λ (hs : List Dimension). DoesAck hs d im l (w.actors n) b) (sym same) (subst (λ (z : ActorValue). DoesAck hierarchy d im l z b) (sym ag.actor_is) does))
