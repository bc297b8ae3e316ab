-- An insert's routing keeps the invariant, and less is left.
use Rattle.std.proofs.{Common.{◌≡◌, ◌≢◌, ℕ, ◌+◌, ◌*◌, ◌<◌, ◌≤◌, List, [], ◌∷◌, true, false, eqb, Option, Some, refl, sym, ap, ◌∙◌, subst, arith, inl, inr, ◌&&◌, All, Any, Contains, IsTrue}, lemmas.Bool.{and_from, false≢true, eqb-true, eqb-false}, lemmas.List.Elements.{All-cons, All-nil, All-contains, All-contains_itself, All-weaker}, lemmas.Option.{slice_get_within, get_or_from_slice_get}}
use Rattle.std.specs.{List.list_any, Prelude.{IsSome, sum_by, option_and_then}}
use Rattle.dim_hierarchy.specs.Dimension.{Dimension}
use Rattle.describing_set.specs.declared.listing.Spot.{Spot}
use Rattle.query_router.specs.{Desk.{DeskValue, is_open, is_taken}, declared.part.Part.Part, declared.part.Want.TheVariants.Row}
use Rattle.row_ledger.specs.{Bounds.listing_of, Past.{Insert, Query, event_at, has_ended, insert_at, query_at, session_in}, Shards.{comes_from, is_of, is_path}, declared.event.Event.Event}
use Rattle.server_image.specs.Image.{ImageValue}
use Rattle.list_words.proofs.Truth.{on_bool}
use Rattle.volap_cell.specs.{Desking.{IsTaken, is_on_desk}, Errands.{ReadPart, Taken}, Falls.{control_of, far, farthest, gates_of_errand, gates_of_part, gates_of_work, gone_left, job_left, left, of_work, per_gate}, Ghost.Ghost, ImageKinds.{DoesRoute, part_for}, Imaging.IsImageOf, Invariant.InvWith, Owing.{Owing, is_insert, one_if, owed_by, serves}, Placing.{IsLead, IsRowPart, NobodyAt}, Setting.{Setting, actor_count, cell_count}, Steps.{IsKept, Keeps}, Sums.sum_below, Telling.{IsProgress, Telling}, Values.{ActorValue, JobValue}, View.{View, view}, World.{World, Change, Agrees, after}, declared.command.Balance.Balance, declared.command.Command.Command, declared.role.Role.TheVariants.{Admin, Session}}
use Rattle.volap_cell.specs.declared.command.Work.TheVariants as work_is
use Rattle.volap_cell.specs.declared.kind.Kind.TheVariants as kind
use Rattle.volap_cell.proofs.{Histories.Beginnings.no-query, Histories.Books.desk-image, OneEvent.Ahead.job-stays, OneEvent.Reads.readers-take, Persons.has-command, Sums.{sum-changed, sum-kept, sum-same}, Views.Books.{by_route, view-route}, Views.Fields.IsNewAt, Views.Frames.{actor-at, actor-off, unmoved-one}, Views.Seen.renewed}
use Rattle.core_image.proofs.{Commands.Going.{going-balancing, going-numbering, going-working, its-own, others-routed, other-had, placing-routed}, Commands.Laid.{laid-desking, laid-inserting, laid-leading, laid-querying, taken-off}, Images.Frontiers.{listed-was, spot-there, place-there}, Lessens.Fars.far-most}

module _ (d im : Change) (b : ActorValue) (s : Setting) (w : World) (n : ℕ) (g : Ghost) (i : InvWith s (view s w) g) (ag : Agrees w (d ∷ im ∷ []) n (w.actors n)) (does : DoesRoute s.hierarchy d im (w.actors n) b) where
  abbrev cs : List Change
  cs = d ∷ im ∷ []

  abbrev v : View
  v = view s w

  abbrev h : List Event
  h = v.history

  abbrev w2 : World
  w2 = after w cs n b

  abbrev of : ℕ
  of = does.of

  abbrev server : ℕ
  server = does.server

  abbrev part : Part
  part = part_for does.row does.spot

  abbrev v2 : View
  v2 = renewed by_route (view s w2) v

  same : view s w2 ≡ v2
  same = view-route s w n s.hierarchy d im (w.actors n) b ag does

  books : (server < s.servers) × IsNewAt v2.desks v.desks server does.desk (record does.desk { op = Some of; parts = part ∷ [] }) × IsNewAt (view s w2).images v.images server does.image does.image
  books = desk-image s w n b i.numbering.tag d im ag.cells does.put does.same

  within : server < s.servers
  within = books.0

  laid-there : IsNewAt v2.desks v.desks server does.desk (record does.desk { op = Some of; parts = part ∷ [] })
  laid-there = books.1

  image-there : v.images server ≡ does.image
  image-there = books.2.was_there

  -- The command.

  abbrev was : Command
  was = record { of = of; work = work_is.Insert does.row false }

  abbrev its : Command
  its = record { of = of; work = work_is.Insert does.row true }

  goes : IsNewAt v2.commands v.commands n (Some was) (Some its)
  goes = record {
    was_there = does.command;
    is_there = ap (λ (a : ActorValue). a.command) (actor-at w.actors n b ∙ does.actor_is);
    elsewhere = λ a ne. ap (λ (x : ActorValue). x.command) (actor-off w.actors n b a ne);
  }

  few : n < actor_count s
  few = has-command s v i.numbering n was does.command

  abbrev insert : Insert
  insert = record { server = server; row = does.row }

  begun-here : insert_at h of ≡ Some insert
  begun-here =
      let progress = i.telling.progress n was does.command in
      let sessions : Session progress.0 ≡ Session server = sym progress.1 ∙ does.role in
      let servers : progress.0 ≡ server = cc in
      progress.2 ∙ ap (λ (x : ℕ). Some (record { server = x; row = does.row })) servers

  insert-is : (other : Insert) → insert_at h of ≡ Some other → insert ≡ other
  insert-is other begun = (let both : ◌≡◌ {A = Option Insert} (Some insert) (Some other) = sym begun-here ∙ begun in cc)

  jobless : (j : JobValue) → v.jobs n ≡ Some j → ⊥
  jobless j is = (let roles : Session server ≡ Admin = sym does.role ∙ i.numbering.working n j is in cc)

  no-balance : (x : Balance) → its.work ≡ work_is.Balance x → ⊥
  no-balance x is = cc

  -- The part.

  spot-in : Contains does.image.spots does.spot
  spot-in = (does.place, slice_get_within does.image.spots does.place does.spot does.spot_at, get_or_from_slice_get does.image.spots does.place does.spot does.spot does.spot_at)

  spot-listed : Any (λ (x : Spot). x.shard ≡ does.spot.shard) does.image.spots
  spot-listed = (spot-in.0, does.spot, spot-in.1, spot-in.2, refl)

  listed : is_path h server (does.spot.shard ∷ []) ≡ true
  listed =
      let known = subst (λ (x : ImageValue). IsImageOf s h v.row g.placed server x) image-there (i.imaging.image server within) in
      let there = spot-there does.spot.shard (listing_of h server) (ap (list_any (is_of does.spot.shard)) (sym known.places) ∙ place-there does.spot.shard does.image.spots spot-listed) in
      and_from _ _ (listed-was h server does.spot.shard there) refl

  lead : IsLead h v.images server (does.spot.shard ∷ []) does.spot.shard
  lead = record {
    is_path = listed;
    last = refl;
    listed =
        let known = subst (λ (x : ImageValue). IsImageOf s h v.row g.placed server x) image-there (i.imaging.image server within) in
        subst (λ (x : ImageValue). All (λ (y : Spot). IsTrue (comes_from h y.shard does.spot.shard) → Contains (does.spot.shard ∷ []) y.shard) x.spots) (sym image-there)
        (All-weaker (Contains does.image.spots) (λ (y : Spot). IsTrue (comes_from h y.shard does.spot.shard) → Contains (does.spot.shard ∷ []) y.shard)
        (λ y has comes. (0, omega arith, sym (known.apart y.shard does.spot.shard (has.0, y, has.1, has.2, refl) spot-listed comes)))
        does.image.spots (All-contains_itself does.image.spots));
  }

  unrouted : (g.placed of ≡ false) × NobodyAt v.ways of
  unrouted = i.inserting.unrouted n of does.row does.command

  leads : (does.spot.worker < s.workers) × IsSome (v.maps does.spot.worker does.spot.shard)
  leads = All-contains (λ (x : Spot). (x.worker < s.workers) × IsSome (v.maps x.worker x.shard)) does.image.spots does.spot
      (subst (λ (x : ImageValue). All (λ (y : Spot). (y.worker < s.workers) × IsSome (v.maps y.worker y.shard)) x.spots) image-there (i.leading.spots server within)) spot-in

  -- What is owed.

  owing-now : Owing s h v.promised v.images v2.desks v.roles v2.commands v.counted_in
  owing-now = record {
    promises = i.owing.promises ∙ sym (sum-kept (actor_count s) (λ a. owed_by (v.commands a)) (λ a. owed_by (v2.commands a)) n (λ a ne. ap owed_by (goes.elsewhere a ne)) (ap owed_by goes.is_there ∙ sym (ap owed_by does.command)));
    few = i.owing.few;
    image = λ x lt. i.owing.image x lt ∙ sym (sum-kept (actor_count s) (λ a. one_if (serves x (v.roles a) && is_insert (v.commands a))) (λ a. one_if (serves x (v.roles a) && is_insert (v2.commands a))) n
        (λ a ne. ap (λ (c : Option Command). one_if (serves x (v.roles a) && is_insert c)) (goes.elsewhere a ne))
        (ap (λ (c : Option Command). one_if (serves x (v.roles n) && is_insert c)) goes.is_there ∙ sym (ap (λ (c : Option Command). one_if (serves x (v.roles n) && is_insert c)) does.command)));
    sessions = λ x lt. on_bool (eqb x server)
        (λ q. let is = eqb-true x server q in
        ap (λ (y : DeskValue). y.sessions) (ap v2.desks is ∙ laid-there.is_there) ∙ sym (ap (λ (y : DeskValue). y.sessions) (ap v.desks is ∙ laid-there.was_there)) ∙ i.owing.sessions x lt)
        (λ q. ap (λ (y : DeskValue). y.sessions) (laid-there.elsewhere x (eqb-false x server q)) ∙ i.owing.sessions x lt);
  }

  -- The command is as open as it was.

  telling-now : Telling s h v2.commands v.jobs v.roles v.seen g.placed
  telling-now =
      let at : (P : ℕ → Command → Type 0) → (P n was → P n its) → ((a : ℕ) (c : Command) → v.commands a ≡ Some c → P a c) → (a : ℕ) (c : Command) → v2.commands a ≡ Some c → P a c =
      λ P step all a c is. on_bool (eqb a n)
      (λ q. let e = eqb-true a n q in
      subst (λ (x : ℕ). P x c) (sym e) (subst (P n) (its-own n (Some was) its v.commands v2.commands goes c (ap v2.commands (sym e) ∙ is)) (step (all n was does.command))))
      (λ q. all a c (other-had n (Some was) its v.commands v2.commands goes a c (eqb-false a n q) is)) in
      record {
        right = i.telling.right;
        own = at (λ a c. option_and_then session_in (event_at h c.of) ≡ Some a) (λ x. x) i.telling.own;
        is_open = at (λ a c. has_ended h c.of ≡ false) (λ x. x) i.telling.is_open;
        progress = at (λ a c. IsProgress s h c.of c.work (v.jobs a) (v.roles a)) (λ x. x) i.telling.progress;
        last = i.telling.last;
        within = i.telling.within;
        rows = i.telling.rows;
        filters = i.telling.filters;
        status = λ a p is. elim (i.telling.status a p is) [
          | inl ended ↦ inl ended
          | inr at ↦ on_bool (eqb at.0 n)
              (λ q. let same : was ≡ at.1 = (let both : ◌≡◌ {A = Option Command} (Some was) (Some at.1) = sym does.command ∙ ap v.commands (sym (eqb-true at.0 n q)) ∙ at.2 in cc) in
              inr (n, its, goes.is_there, ap (λ (c : Command). c.of) same ∙ at.3))
              (λ q. inr (at.0, at.1, goes.elsewhere at.0 (eqb-false at.0 n q) ∙ at.2, at.3))
        ];
      }

  -- All parts.

  none-asked : (q : Query) → query_at h of ≡ Some q → ⊥
  none-asked q asked = no-query h of insert q begun-here asked

  off-desk : (c : Command) → Some was ≡ Some c → is_on_desk c.work ≡ false
  off-desk c is = (let same : was ≡ c = cc in ap (λ (x : Command). is_on_desk x.work) (sym same))

  untaken : (a : ℕ) (t : Taken) → v.taken a ≡ Some t → t.server ≢ server
  untaken = taken-off s server does.desk of (part ∷ []) v.desks v2.desks laid-there does.empty h v.roles v.commands v.taken i.desking

  unread : (a : ℕ) (p : ReadPart) → v.reads a ≡ Some p → p.server ≢ server
  unread a p is = (let t = readers-take s w a p is in λ e. untaken a t.0 t.1 (t.2 ∙ e))

  pub holds : InvWith s v2 g
  holds = record {
    numbering = going-numbering n (Some was) its v.commands v2.commands goes s v.tags v.numbers v.roles v.settings v.counted_in v.purses v.taken v.jobs few i.numbering;
    telling = telling-now;
    owing = owing-now;
    turning = i.turning;
    stocking = i.stocking;
    stamping = i.stamping;
    lineage = i.lineage;
    leading = laid-leading s server does.desk of (part ∷ []) v.desks v2.desks laid-there does.empty v.maps v.images
        (All-cons (λ (p : Part). is_open p ≡ true → (p.worker < s.workers) × IsSome (v.maps p.worker p.shard)) part [] (λ on. leads) (All-nil _)) i.leading;
    growing = i.growing;
    queueing = i.queueing;
    resting = i.resting;
    placing = placing-routed s h v.commands v2.commands v.ways v.queues g.gate g.shape g.placed g.home g.path
        (others-routed n (Some was) its v.commands v2.commands goes (λ r row is. let same : was ≡ record { of = r; work = work_is.Insert row true } = cc in false≢true (ap (λ (c : Command). is_on_desk c.work) same))) i.placing;
    inserting = laid-inserting s server does.desk of (part ∷ []) v.desks v2.desks laid-there does.empty n (Some was) its v.roles v.commands v2.commands goes refl does.role refl off-desk h v.images v.ways g.placed g.path
        (λ other begun. All-cons (λ (p : Part). IsRowPart h v.images v.ways g.placed g.path server of p p.state) part [] (unrouted.0, unrouted.1, lead) (All-nil _)) i.inserting;
    imaging = i.imaging;
    covering = i.covering;
    desking = laid-desking s server does.desk of (part ∷ []) v.desks v2.desks laid-there does.empty n (Some was) its v.roles v.commands v2.commands goes refl does.role refl off-desk h v.taken
        (λ other begun. (part, refl, ap (λ (x : Insert). Row x.row) (insert-is other begun)))
        (λ q asked. absurd (none-asked q asked))
        (All-cons (λ (p : Part). is_taken p ≡ true → IsTaken v.taken server p) part [] (λ on. absurd (false≢true on)) (All-nil _)) i.desking;
    pinning = i.pinning;
    querying = laid-querying s server does.desk of (part ∷ []) v.desks v2.desks laid-there does.empty h v.row v.blocks v.trees v.taken v.reads g.shape g.placed g.home g.counted g.counted (λ x ne. refl) untaken
        (λ q asked. absurd (none-asked q asked)) (λ q asked. absurd (none-asked q asked)) (λ q asked. absurd (none-asked q asked)) unread i.querying;
    working = going-working n (Some was) its v.commands v2.commands goes s h v.blocks v.made v.trees v.phases v.active v.queues v.purses v.jobs g.gate g.shape g.placed jobless i.working;
    balancing = going-balancing n (Some was) its v.commands v2.commands goes s h v.jobs g.placed g.home no-balance i.balancing;
    reusing = i.reusing;
  }

  -- What is left.

  actor-same : {A : Type 0} (f : ActorValue → A) → f b ≡ f (w.actors n) → (a : ℕ) → f (w2.actors a) ≡ f (w.actors a)
  actor-same f is a = unmoved-one f w.actors n b is a

  control-same : (left s w2 g).control ≡ (left s w g).control
  control-same =
      ap (λ (z : View). sum_below (actor_count s) (λ a. of_work (control_of s) (w2.actors a).command + job_left s z (w2.actors a).job) + sum_below (cell_count s) (λ y. gone_left (z.phases y) (z.gone y))) same
      ∙ ap (λ (x : ℕ). x + sum_below (cell_count s) (λ y. gone_left (v.phases y) (v.gone y)))
      (sum-same (actor_count s) (λ a. of_work (control_of s) (w.actors a).command + job_left s v (w.actors a).job) (λ a. of_work (control_of s) (w2.actors a).command + job_left s v2 (w2.actors a).job)
      (λ a lt.
      let one = actor-same (λ z. of_work (control_of s) z.command) (ap (λ (z : ActorValue). of_work (control_of s) z.command) does.actor_is ∙ sym (ap (of_work (control_of s)) does.command)) a in
      let two = actor-same (λ z. job_left s v2 z.job) (ap (λ (z : ActorValue). job_left s v2 z.job) does.actor_is) a in
      let three = job-stays s v v2 refl (w.actors a).job in omega arith))

  gates-less : (left s w2 g).gates < (left s w g).gates
  gates-less =
      let F : ℕ → ℕ = λ a. of_work (gates_of_work h) (w.actors a).command + gates_of_errand s h (w.actors a).errand in
      let G : ℕ → ℕ = λ a. of_work (gates_of_work h) (w2.actors a).command + gates_of_errand s h (w2.actors a).errand in
      let D : ℕ → ℕ = λ x. sum_by (gates_of_part s h) (v.desks x).parts in
      let E : ℕ → ℕ = λ x. sum_by (gates_of_part s h) (v2.desks x).parts in
      let is : (left s w2 g).gates ≡ sum_below (actor_count s) G + sum_below s.servers E =
      ap (λ (z : View). sum_below (actor_count s) (λ a. of_work (gates_of_work z.history) (w2.actors a).command + gates_of_errand s z.history (w2.actors a).errand) + sum_below s.servers (λ x. sum_by (gates_of_part s z.history) (z.desks x).parts)) same in
      let actors = sum-changed (actor_count s) F G n (λ a ne. ap (λ (z : ActorValue). of_work (gates_of_work h) z.command + gates_of_errand s h z.errand) (actor-off w.actors n b a ne)) few in
      let work_was : F n ≡ per_gate * farthest h + 1 + gates_of_errand s h (w.actors n).errand = ap (λ (c : Option Command). of_work (gates_of_work h) c + gates_of_errand s h (w.actors n).errand) does.command in
      let work_is : G n ≡ 0 + gates_of_errand s h (w.actors n).errand = ap (λ (z : ActorValue). of_work (gates_of_work h) z.command + gates_of_errand s h z.errand) (actor-at w.actors n b ∙ does.actor_is) in
      let desks = sum-changed s.servers D E server (λ x ne. ap (λ (y : DeskValue). sum_by (gates_of_part s h) y.parts) (laid-there.elsewhere x ne)) within in
      let none : D server ≡ 0 = ap (sum_by (gates_of_part s h)) (i.desking.empty server within (ap (λ (y : DeskValue). y.op) laid-there.was_there ∙ does.empty)) in
      let one : E server ≡ 0 + per_gate * far s.workers h does.spot.shard does.spot.worker = ap (λ (y : DeskValue). sum_by (gates_of_part s h) y.parts) laid-there.is_there in
      let most = far-most s.workers h does.spot.shard does.spot.worker in
      less (sum_below (actor_count s) F) (sum_below (actor_count s) G) (sum_below s.servers D) (sum_below s.servers E) (F n) (G n) (D server) (E server)
      (farthest h) (far s.workers h does.spot.shard does.spot.worker) (gates_of_errand s h (w.actors n).errand) (left s w2 g).gates is actors work_was work_is desks none one most
    where
      less : (sf sg sd se f g2 d2 e2 all one rest now : ℕ) → now ≡ sg + se → sg + f ≡ sf + g2 → f ≡ 6 * all + 1 + rest → g2 ≡ 0 + rest → se + d2 ≡ sd + e2 → d2 ≡ 0 → e2 ≡ 0 + 6 * one → one ≤ all → now < sf + sd
      less sf sg sd se f g2 d2 e2 all one rest now a b c d e f2 g3 h2 = omega arith

  pub route-kept : IsKept s kind.Route n w w2 g
  route-kept = record {
    step = record { changes = cs; actor = b; agrees = ag; does = does; sight = tt; now_is = refl };
    ghost_now = g;
    holds = subst (λ (z : View). InvWith s z g) (sym same) holds;
    newer = [];
    grows = ap (λ (z : View). z.history) same;
    goes_on = inl (inr (inl (control-same, gates-less)));
  }

pub route-keeps : (hierarchy : List Dimension) (d im : Change) (a b : ActorValue) (does : DoesRoute hierarchy d im a b) → Keeps hierarchy kind.Route (d ∷ im ∷ []) a b does
route-keeps hierarchy d im a b does s w n g same i ag sight =
    route-kept d im b s w n g i (record { cells = ag.cells; actor_is = refl; free = λ x ne. ag.free x ne })
    (subst (λ (hs : List Dimension). DoesRoute hs d im (w.actors n) b) (sym same) (subst (λ (z : ActorValue). DoesRoute hierarchy d im z b) (sym ag.actor_is) does))
