-- An answer keeps the invariant, and less is left.
use Rattle.std.proofs.{Common.{◌≡◌, ◌≢◌, ℕ, ◌<◌, List, [], ◌∷◌, true, eqb, length, Option, Some, None, option_and_then, refl, sym, ap, ◌∙◌, subst, arith, inl, inr, ◌&&◌, Contains}, lemmas.Bool.{false≢true, eqb-true, eqb-false}, lemmas.List.Elements.{All-contains_itself, All-weaker}}
use Rattle.std.specs.{Option.option_map_or, Prelude.sum_by}
use Rattle.dim_hierarchy.specs.Dimension.{Dimension}
use Rattle.measure_agg.specs.Aggregate.{Aggregate}
use Rattle.query_router.specs.{Desk.{DeskValue, is_taken, state_is_taken, verdict_of}, declared.part.Part.Part, declared.part.PartState.PartState, declared.part.PartState.TheVariants.Done, declared.part.Verdict.TheVariants.Sum}
use Rattle.row_ledger.specs.{Kept.KeepsRight, Past.{Query, event_at, query_at, session_in}, declared.event.Event.Event, declared.event.Event.TheVariants.Answered}
use Rattle.row_ledger.proofs.Growth.{KeepsRight-answered}
use Rattle.list_words.proofs.Truth.{on_bool}
use Rattle.volap_cell.specs.{Falls.{control_of, far, gates_of_state, gates_of_work, left, of_work, queries_of_state, queries_of_work, rows_of_part}, Ghost.Ghost, ImageKinds.{DoesAnswer, cleared, doing}, Invariant.InvWith, Owing.{Owing, is_insert, one_if, owed_by, serves}, Placing.IsRouted, Setting.{Setting, actor_count, site_in}, Steps.{IsKept, Keeps}, Telling.Telling, Values.{ActorValue, JobValue}, View.{View, view, row_at}, World.{World, Change, Agrees, after}, declared.command.Command.Command, declared.command.Work.Work, declared.role.Role.TheVariants.{Admin, Session}}
use Rattle.volap_cell.specs.declared.command.Work.TheVariants as work_is
use Rattle.volap_cell.specs.declared.kind.Kind.TheVariants as kind
use Rattle.volap_cell.proofs.{Histories.Books.desk-event, OneEvent.Noted.{IsNotedBy, telling-ends}, OneEvent.Quiet.{Told, all-stays, told-here}, OneEvent.Told.few-pushed, Persons.has-command, Sums.{sum-changed, sum-kept}, Views.Books.{by_query, view-answer}, Views.Fields.{IsNewAt, IsPushed}, Views.Frames.{actor-at, actor-off}, Views.Seen.renewed}
use Rattle.core_image.proofs.{Answered.{allowed, done}, Commands.Going.placing-routed, EachStep.Clears.{cleared-desking, cleared-inserting, cleared-leading, cleared-querying, ended-balancing, ended-inserting, ended-numbering, ended-working, others-keep}, Lessens.Lefts.{IsSteady, control-goes, gates-go, nothing-of, queries-go, rows-go}}

module _ (d l : Change) (b : ActorValue) (s : Setting) (w : World) (n : ℕ) (g : Ghost) (i : InvWith s (view s w) g) (ag : Agrees w (d ∷ l ∷ []) n (w.actors n)) (does : DoesAnswer d l (w.actors n) b) where
  abbrev cs : List Change
  cs = d ∷ l ∷ []

  abbrev v : View
  v = view s w

  abbrev h : List Event
  h = v.history

  abbrev w2 : World
  w2 = after w cs n b

  abbrev u : View
  u = view s w2

  abbrev of : ℕ
  of = does.of

  abbrev server : ℕ
  server = does.server

  abbrev e : Event
  e = Answered of does.answer

  -- the view afterwards, with its history written out
  abbrev v2 : View
  v2 = record (renewed by_query u v) { history = e ∷ h; row = row_at (e ∷ h) }

  books : (server < s.servers) × IsNewAt u.desks v.desks server does.desk (cleared does.desk) × IsPushed e 0 1 b.seen u.history v.history u.promised v.promised
  books = desk-event s w n b i.numbering.tag d l ag.cells does.clear does.answered

  within : server < s.servers
  within = books.0

  desk-turned : IsNewAt v2.desks v.desks server does.desk (cleared does.desk)
  desk-turned = books.1

  pushed : IsPushed e 0 1 b.seen u.history v.history u.promised v.promised
  pushed = books.2

  same : u ≡ v2
  same = view-answer s w n d l (w.actors n) b ag does ∙ (λ k. record (renewed by_query u v) { history = pushed.history_is k; row = row_at (pushed.history_is k) })

  told : Told s v g (e ∷ h)
  told = told-here s w g e refl (λ a p balance is. refl) i

  -- The command.

  abbrev its : Command
  its = record { of = of; work = work_is.Query }

  end : IsNewAt v2.commands v.commands n (Some its) None
  end = record {
    was_there = does.command;
    is_there = ap (λ (a : ActorValue). a.command) (actor-at w.actors n b ∙ does.actor_is);
    elsewhere = λ a ne. ap (λ (x : ActorValue). x.command) (actor-off w.actors n b a ne);
  }

  few : n < actor_count s
  few = has-command s v i.numbering n its does.command

  asked : (q : Query) × (query_at h of ≡ Some q)
  asked = (let progress = i.telling.progress n its does.command in (progress.0, progress.2))

  own : (a : ℕ) (c : Command) → v.commands a ≡ Some c → c.of ≡ of → a ≡ n
  own a c has is =
      let both : ◌≡◌ {A = Option ℕ} (Some a) (Some n) = sym (i.telling.own a c has) ∙ ap (λ (p : ℕ). option_and_then session_in (event_at h p)) is ∙ i.telling.own n its does.command in cc

  jobless : (j : JobValue) → v.jobs n ≡ Some j → ⊥
  jobless j is = (let roles : Session server ≡ Admin = sym does.role ∙ i.numbering.working n j is in cc)

  op : (v.desks server).op ≡ Some of
  op = ap (λ (x : DeskValue). x.op) desk-turned.was_there ∙ does.op

  comes : verdict_of (v.desks server).parts ≡ Some (Sum does.answer)
  comes = ap (λ (x : DeskValue). verdict_of x.parts) desk-turned.was_there ∙ does.sum

  -- each part is done
  all-done : (p : Part) → Contains does.desk.parts p → (a : Aggregate) × (p.state ≡ Done a)
  all-done p has = done s w g i server of asked.0 within op asked.1 does.answer comes p (subst (λ (x : DeskValue). Contains x.parts p) (sym desk-turned.was_there) has)

  none-taken : (p : Part) → Contains does.desk.parts p → is_taken p ≡ true → ⊥
  none-taken p has taken = (let a = all-done p has in false≢true (sym (ap state_is_taken a.1) ∙ taken))

  right : KeepsRight (site_in s) g.placed (e ∷ h)
  right = KeepsRight-answered (site_in s) g.placed h of does.answer i.telling.right
      (record { query = asked.0; asked = asked.1; is_open = i.telling.is_open n its does.command; allowed = allowed s w g i server of asked.0 within op asked.1 does.answer comes })

  noted : IsNotedBy e h n v.commands v2.commands v.jobs v.jobs v.seen v2.seen
  noted = record {
    others = λ a ne. (end.elsewhere a ne, refl, ap (λ (x : ActorValue). x.seen) (actor-off w.actors n b a ne));
    all_seen = ap (λ (a : ActorValue). a.seen) (actor-at w.actors n b) ∙ pushed.all_seen ∙ ap length pushed.history_is;
  }

  telling-now : Telling s (e ∷ h) v2.commands v.jobs v.roles v2.seen g.placed
  telling-now = telling-ends s e h n v.commands v2.commands v.jobs v.jobs v.roles v.seen v2.seen g.placed noted right i.telling its refl does.command end.is_there

  routed : (r : ℕ) → IsRouted v.commands r → IsRouted v2.commands r
  routed r x =
      let other : x.0 ≢ n = (λ is.
      let both : ◌≡◌ {A = Option Command} (doing r (work_is.Insert x.1 true)) (Some its) = sym x.2 ∙ ap v.commands is ∙ does.command in
      let works : work_is.Insert x.1 true ≡ work_is.Query = ap (λ (o : Option Command). option_map_or (λ (c : Command). c.work) o work_is.Query) both in cc) in
      (x.0, x.1, others-keep n its v.commands v2.commands end x.0 _ other x.2)

  -- What is owed.

  owing-now : Owing s (e ∷ h) v2.promised v.images v2.desks v.roles v2.commands v.counted_in
  owing-now = record {
    promises =
        let sums = sum-changed (actor_count s) (λ a. owed_by (v.commands a)) (λ a. owed_by (v2.commands a)) n (λ a ne. ap owed_by (end.elsewhere a ne)) few in
        let one : owed_by (v.commands n) ≡ 1 = ap owed_by does.command in
        let none : owed_by (v2.commands n) ≡ 0 = ap owed_by end.is_there in
        let less = pushed.promised_is in
        let old = i.owing.promises in omega (arith, sums, one, none, less, old);
    few = (let less = pushed.promised_is in few-pushed e h v.promised v2.promised _ (omega (arith, less)) i.owing.few);
    image = λ x lt. i.owing.image x lt ∙ sym (sum-kept (actor_count s) (λ a. one_if (serves x (v.roles a) && is_insert (v.commands a))) (λ a. one_if (serves x (v.roles a) && is_insert (v2.commands a))) n
        (λ a ne. ap (λ (c : Option Command). one_if (serves x (v.roles a) && is_insert c)) (end.elsewhere a ne))
        (ap (λ (c : Option Command). one_if (serves x (v.roles n) && is_insert c)) end.is_there ∙ sym (ap (λ (c : Option Command). one_if (serves x (v.roles n) && is_insert c)) does.command)));
    sessions = λ x lt. on_bool (eqb x server)
        (λ q. let is = eqb-true x server q in
        ap (λ (y : DeskValue). y.sessions) (ap v2.desks is ∙ desk-turned.is_there) ∙ sym (ap (λ (y : DeskValue). y.sessions) (ap v.desks is ∙ desk-turned.was_there)) ∙ i.owing.sessions x lt)
        (λ q. ap (λ (y : DeskValue). y.sessions) (desk-turned.elsewhere x (eqb-false x server q)) ∙ i.owing.sessions x lt);
  }

  -- All parts.

  pub holds : InvWith s v2 g
  holds = record {
    numbering = ended-numbering n its v.commands v2.commands end s v.tags v.numbers v.roles v.settings v.counted_in v.purses v.taken v.jobs i.numbering;
    telling = telling-now;
    owing = owing-now;
    turning = i.turning;
    stocking = i.stocking;
    stamping = i.stamping;
    lineage = told.lineage;
    leading = cleared-leading s server does.desk v.desks v2.desks desk-turned v.maps v.images i.leading;
    growing = told.growing;
    queueing = told.queueing;
    resting = told.resting;
    placing = placing-routed s (e ∷ h) v.commands v2.commands v.ways v.queues g.gate g.shape g.placed g.home g.path routed told.placing;
    inserting = ended-inserting n its v.commands v2.commands end s (e ∷ h) v.images v2.desks v.ways g.placed g.path
        (cleared-inserting s server does.desk v.desks v2.desks desk-turned (e ∷ h) v.images v.commands v.ways g.placed g.path told.inserting);
    imaging = told.imaging;
    covering = told.covering;
    desking = cleared-desking s server does.desk v.desks v2.desks desk-turned n its v.roles v.commands v2.commands end does.op does.role own none-taken (e ∷ h) v.taken told.desking;
    pinning = i.pinning;
    querying = cleared-querying s server does.desk v.desks v2.desks desk-turned (e ∷ h) (row_at (e ∷ h)) v.blocks v.trees v.taken v.reads g.shape g.placed g.home g.counted told.querying;
    working = ended-working n its v.commands v2.commands end s (e ∷ h) v.blocks v.made v.trees v.phases v.active v.queues v.purses v.jobs g.gate g.shape g.placed jobless told.working;
    balancing = ended-balancing n its v.commands v2.commands end s (e ∷ h) v.jobs g.placed g.home told.balancing;
    reusing = i.reusing;
  }

  -- What is left.

  steady : IsSteady (w.actors n) b
  steady = record {
    errand = ap (λ (a : ActorValue). a.errand) does.actor_is;
    purse = ap (λ (a : ActorValue). a.purse) does.actor_is;
    job = ap (λ (a : ActorValue). a.job) does.actor_is;
  }

  was-left : (f : Work → ℕ) → of_work f (w.actors n).command ≡ f work_is.Query
  was-left f = ap (of_work f) does.command

  now-left : (f : Work → ℕ) → of_work f b.command ≡ 0
  now-left f = ap (λ (a : ActorValue). of_work f a.command) does.actor_is

  -- parts that are done have nothing left
  nothing-left : (f : Part → PartState → ℕ) → ((p : Part) (a : Aggregate) → f p (Done a) ≡ 0) → sum_by (λ (p : Part). f p p.state) does.desk.parts ≡ 0
  nothing-left f none = nothing-of (λ (p : Part). f p p.state) does.desk.parts
      (All-weaker (Contains does.desk.parts) (λ (p : Part). f p p.state ≡ 0) (λ p has. let a = all-done p has in ap (f p) a.1 ∙ none p a.0) does.desk.parts (All-contains_itself does.desk.parts))

  control-same : (left s w2 g).control ≡ (left s w g).control
  control-same =
      let goes = control-goes s w cs n b e v2 few same refl (all-stays s e h refl).shards refl steady g g refl refl in
      let was = was-left (control_of s) in
      let now = now-left (control_of s) in omega (arith, goes, was, now)

  gates-same : (left s w2 g).gates ≡ (left s w g).gates
  gates-same =
      let goes = gates-go s w cs n b e v2 few same refl (all-stays s e h refl).shards refl steady g g server does.desk (cleared does.desk) within desk-turned in
      let was = was-left (gates_of_work h) in
      let now = now-left (gates_of_work h) in
      let parts = nothing-left (λ p st. gates_of_state (far s.workers h p.shard p.worker) p.path st) (λ p a. refl) in omega (arith, goes, was, now, parts)

  rows-same : (left s w2 g).rows ≡ (left s w g).rows
  rows-same =
      let goes = rows-go s w cs n b e v2 few same refl (all-stays s e h refl).shards refl steady g g server does.desk (cleared does.desk) refl within desk-turned in
      let parts = nothing-left (λ p st. rows_of_part st) (λ p a. refl) in omega (arith, goes, parts)

  queries-less : (left s w2 g).queries < (left s w g).queries
  queries-less =
      let goes = queries-go s w cs n b e v2 few same refl (all-stays s e h refl).shards refl steady g server does.desk (cleared does.desk) refl within desk-turned in
      let was = was-left queries_of_work in
      let now = now-left queries_of_work in
      let parts = nothing-left (λ p st. queries_of_state s (far s.workers h p.shard p.worker) st) (λ p a. refl) in omega (arith, goes, was, now, parts)

  pub answer-kept : IsKept s kind.Answer n w w2 g
  answer-kept = record {
    step = record { changes = cs; actor = b; agrees = ag; does = does; sight = tt; now_is = refl };
    ghost_now = g;
    holds = subst (λ (z : View). InvWith s z g) (sym same) holds;
    newer = e ∷ [];
    grows = pushed.history_is;
    goes_on = inl (inr (inr (inr (control-same, gates-same, rows-same, queries-less))));
  }

pub answer-keeps : (hierarchy : List Dimension) (d l : Change) (a b : ActorValue) (does : DoesAnswer d l a b) → Keeps hierarchy kind.Answer (d ∷ l ∷ []) a b does
answer-keeps hierarchy d l a b does s w n g _ i ag sight =
    answer-kept d l b s w n g i (record { cells = ag.cells; actor_is = refl; free = λ x ne. ag.free x ne }) (subst (λ (z : ActorValue). DoesAnswer d l z b) (sym ag.actor_is) does)
