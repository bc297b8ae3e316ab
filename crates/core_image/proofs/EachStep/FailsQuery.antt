-- The failure of a query of which a part found no memory keeps the invariant, and less is left.
use Rattle.std.proofs.{Common.{Contains, ◌≡◌, ◌≢◌, ℕ, ◌<◌, List, [], ◌∷◌, true, false, length, Option, Some, None, refl, sym, ap, ◌∙◌, subst, arith, inl, Bool, ◌≤◌}, lemmas.Bool.{false≢true, or_right}}
use Rattle.std.specs.Option.{option_map_or}
use Rattle.dim_hierarchy.specs.{Dimension.Dimension, declared.row.Row.Row}
use Rattle.query_router.specs.{Desk.{DeskValue, is_taken, is_waiting}, declared.part.Part.Part}
use Rattle.row_ledger.specs.{Changes.ShardsStay, Kept.KeepsRight, Past.{Query, query_at}, declared.event.Event.Event, declared.event.Event.TheVariants.Failed}
use Rattle.row_ledger.proofs.Changes.{quiet}
use Rattle.volap_cell.specs.{Falls.{control_of, gates_of_errand, gates_of_work, job_left, left, of_work, queries_of_errand, queries_of_work}, Ghost.Ghost, ImageKinds.{DoesNoteWith, FailsQuery, OfQuery, cleared}, Invariant.InvWith, Owing.{Owing, is_insert_work}, Setting.{Setting, actor_count, site_in}, Steps.{IsKept, Keeps}, Sums.sum_below, Values.{ActorValue, JobValue}, View.{View, view, row_at}, World.{World, Change, Agrees, after}, declared.command.Command.Command, declared.command.Work.Work, declared.role.Role.TheVariants.{Admin, Session}}
use Rattle.list_words.proofs.Truth.{on_bool}
use Rattle.volap_cell.proofs.{Histories.Beginnings.no-query, Histories.Books.{DeskNew, EventNew, desk-event}, OneEvent.Noted.telling-ends, OneEvent.Quiet.{Told, told-here}, Persons.has-command, Sums.sum-changed, Views.Books.{by_query, view-fail_query}, Views.Fields.IsNewAt, Views.Frames.{actor-at, actor-off}, Views.Seen.renewed}
use Rattle.volap_cell.specs.declared.command.Work.TheVariants as work_is
use Rattle.volap_cell.specs.declared.kind.Kind.TheVariants as kind
use Rattle.core_image.proofs.{Commands.Ends.{cleared-sessions, ended-placing, none-open, only-its, query-fails, verdict-closed}, Commands.Owed.{owed-others, promises-now}, EachStep.Clears.{cleared-desking, cleared-inserting, cleared-leading, cleared-querying, ended-balancing, ended-inserting, ended-numbering, ended-working}, Lessens.Remains.{control-changed, gates-changed, gates_on, queries-changed, queries-fall, queries_on, rows-changed, rows_at, rows_on}}

-- a query is no insert
query-no-insert : (row : Row) (routed : Bool) → ◌≡◌ {A = Work} work_is.Query (work_is.Insert row routed) → ⊥
query-no-insert row routed is = false≢true (ap is_insert_work is)

module _ (d l : Change) (b : ActorValue) (s : Setting) (w : World) (n : ℕ) (g : Ghost) (i : InvWith s (view s w) g) (ag : Agrees w (d ∷ l ∷ []) n (w.actors n)) (does : FailsQuery d l (w.actors n) b) where
  abbrev cs : List Change
  cs = d ∷ l ∷ []

  abbrev v : View
  v = view s w

  abbrev h : List Event
  h = v.history

  abbrev w2 : World
  w2 = after w cs n b

  abbrev u : View
  u = view s w2

  abbrev of : ℕ
  of = does.of

  abbrev e : Event
  e = Failed of

  abbrev server : ℕ
  server = does.server

  abbrev desk : DeskValue
  desk = does.refused.desk

  books : (server < s.servers) × DeskNew u v server desk (cleared desk) × EventNew u v e 0 1 b.seen
  books = desk-event s w n b i.numbering.tag d l ag.cells does.refused.clear does.failed

  within : server < s.servers
  within = books.0

  desk-turned : DeskNew u v server desk (cleared desk)
  desk-turned = books.1

  pushed : EventNew u v e 0 1 b.seen
  pushed = books.2

  -- the view afterwards, with its history written out
  abbrev v2 : View
  v2 = record (renewed by_query u v) { history = e ∷ h; row = row_at (e ∷ h) }

  same : u ≡ v2
  same = view-fail_query s w n d l (w.actors n) b ag does ∙ (λ k. record (renewed by_query u v) { history = pushed.history_is k; row = row_at (pushed.history_is k) })

  -- The command.

  abbrev its : Command
  its = record { of = of; work = work_is.Query }

  actor-now : w2.actors n ≡ record (w.actors n) { command = None; seen = b.seen }
  actor-now = actor-at w.actors n b ∙ does.actor_is

  end : IsNewAt v2.commands v.commands n (Some its) None
  end = record {
    was_there = does.command;
    is_there = ap (λ (a : ActorValue). a.command) actor-now;
    elsewhere = λ a ne. ap (λ (x : ActorValue). x.command) (actor-off w.actors n b a ne);
  }

  there : n < actor_count s
  there = has-command s v i.numbering n its does.command

  asked : (q : Query) × (query_at h of ≡ Some q)
  asked = (let progress = i.telling.progress n its does.command in (progress.0, progress.2))

  own : (a : ℕ) (c : Command) → v.commands a ≡ Some c → c.of ≡ of → a ≡ n
  own = only-its s h v.commands v.jobs v.roles v.seen g.placed i.telling n its does.command

  -- a row is no query
  out : g.placed of ≡ false
  out = on_bool (g.placed of)
      (λ p. let begun = i.placing.begun of p in absurd (no-query h of begun.0 asked.0 begun.1 asked.1))
      (λ q. q)

  right : KeepsRight (site_in s) g.placed (e ∷ h)
  right = query-fails s g.placed h of asked.0 i.telling.right asked.1 (i.telling.is_open n its does.command) out

  none-taken : (p : Part) → Contains desk.parts p → is_taken p ≡ true → ⊥
  none-taken p has taken = none-open desk.parts (verdict-closed desk.parts does.refused.refused) p has (or_right (is_waiting p) (is_taken p) taken)

  jobless : (j : JobValue) → v.jobs n ≡ Some j → ⊥
  jobless j is = (let roles : Session server ≡ Admin = sym does.role ∙ i.numbering.working n j is in cc)

  -- Parts.

  told : Told s v g (e ∷ h)
  told = told-here s w g e refl (λ a of balance is. refl) i

  owing-now : Owing s (e ∷ h) v2.promised v.images v2.desks v.roles v2.commands v.counted_in
  owing-now = record {
    promises = promises-now (actor_count s) n there v.commands v2.commands (Some its) None end v.promised v2.promised 0 1 pushed.promised_is refl i.owing.promises;
    few = (let moved = pushed.promised_is in let few = i.owing.few in omega (arith, moved, few));
    image = λ x lt. i.owing.image x lt ∙ sym (owed-others (actor_count s) n there v.commands v2.commands (Some its) None end v.roles refl refl x);
    sessions = cleared-sessions s server desk v.desks v2.desks desk-turned v.roles v.counted_in i.owing.sessions;
  }

  holds : InvWith s v2 g
  holds = record {
    numbering = ended-numbering n its v.commands v2.commands end s v.tags v.numbers v.roles v.settings v.counted_in v.purses v.taken v.jobs i.numbering;
    telling = telling-ends s e h n v.commands v2.commands v.jobs v.jobs v.roles v.seen v2.seen g.placed
        (record {
          others = λ a ne. (end.elsewhere a ne, refl, ap (λ (x : ActorValue). x.seen) (actor-off w.actors n b a ne));
          all_seen = ap (λ (x : ActorValue). x.seen) actor-now ∙ pushed.all_seen ∙ ap length pushed.history_is;
        })
        right i.telling its refl does.command end.is_there;
    owing = owing-now;
    turning = i.turning;
    stocking = i.stocking;
    stamping = i.stamping;
    lineage = told.lineage;
    leading = cleared-leading s server desk v.desks v2.desks desk-turned v.maps v.images i.leading;
    growing = told.growing;
    queueing = told.queueing;
    resting = told.resting;
    placing = ended-placing n its v.commands v2.commands end s (e ∷ h) v.ways v.queues g.gate g.shape g.placed g.home g.path
        (λ r row is. let works : work_is.Query ≡ work_is.Insert row true = ap (λ (c : Option Command). option_map_or (λ (k : Command). k.work) c work_is.Query) is in absurd (query-no-insert row true works)) told.placing;
    inserting = ended-inserting n its v.commands v2.commands end s (e ∷ h) v.images v2.desks v.ways g.placed g.path
        (cleared-inserting s server desk v.desks v2.desks desk-turned (e ∷ h) v.images v.commands v.ways g.placed g.path told.inserting);
    imaging = told.imaging;
    covering = told.covering;
    desking = cleared-desking s server desk v.desks v2.desks desk-turned n its v.roles v.commands v2.commands end does.refused.op does.role own none-taken (e ∷ h) v.taken told.desking;
    pinning = i.pinning;
    querying = cleared-querying s server desk v.desks v2.desks desk-turned (e ∷ h) (row_at (e ∷ h)) v.blocks v.trees v.taken v.reads g.shape g.placed g.home g.counted told.querying;
    working = ended-working n its v.commands v2.commands end s (e ∷ h) v.blocks v.made v.trees v.phases v.active v.queues v.purses v.jobs g.gate g.shape g.placed jobless told.working;
    balancing = ended-balancing n its v.commands v2.commands end s (e ∷ h) v.jobs g.placed g.home told.balancing;
    reusing = i.reusing;
  }

  -- What is left.

  others : (a : ℕ) → a ≢ n → w2.actors a ≡ w.actors a
  others a ne = actor-off w.actors n b a ne

  stay : ShardsStay s.workers e h
  stay = (quiet s.hierarchy s.workers e h refl).shards

  -- what the desks' parts count for is no more
  one-cleared : (f : DeskValue → ℕ) → f (cleared desk) ≡ 0 → sum_below s.servers (λ x. f (v2.desks x)) ≤ sum_below s.servers (λ x. f (v.desks x))
  one-cleared f none =
      let sums = sum-changed s.servers (λ x. f (v.desks x)) (λ x. f (v2.desks x)) server (λ x ne. ap f (desk-turned.elsewhere x ne)) within in
      let now : f (v2.desks server) ≡ 0 = ap f desk-turned.is_there ∙ none in
      omega (arith, sums, now)

  control-same : (left s w2 g).control ≡ (left s w g).control
  control-same =
      let control = control-changed s w w2 g n v2 same others (inl there) refl refl in
      let was : of_work (control_of s) (w.actors n).command ≡ 0 = ap (of_work (control_of s)) does.command in
      let now : of_work (control_of s) (w2.actors n).command ≡ 0 = ap (of_work (control_of s)) end.is_there in
      let job = ap (λ (x : ActorValue). job_left s v x.job) actor-now in
      omega (arith, control, was, now, job)

  gates-no-more : (left s w2 g).gates ≤ (left s w g).gates
  gates-no-more =
      let gates = gates-changed s w w2 g n v2 same others (inl there) e h refl refl stay refl in
      let was : of_work (gates_of_work h) (w.actors n).command ≡ 0 = ap (of_work (gates_of_work h)) does.command in
      let now : of_work (gates_of_work h) (w2.actors n).command ≡ 0 = ap (of_work (gates_of_work h)) end.is_there in
      let errand = ap (λ (x : ActorValue). gates_of_errand s h x.errand) actor-now in
      let desks = one-cleared (gates_on s h) refl in
      omega (arith, gates, was, now, errand, desks)

  rows-no-more : (left s w2 g).rows ≤ (left s w g).rows
  rows-no-more =
      let rows = rows-changed s w w2 g n v2 same others (inl there) in
      let actor = ap (rows_at g) actor-now in
      let desks = one-cleared rows_on refl in
      omega (arith, rows, actor, desks)

  queries-less : (left s w2 g).queries < (left s w g).queries
  queries-less =
      let queries = queries-changed s w w2 g n v2 same others (inl there) refl e h refl refl stay refl in
      let was : of_work queries_of_work (w.actors n).command ≡ 1 = ap (of_work queries_of_work) does.command in
      let now : of_work queries_of_work (w2.actors n).command ≡ 0 = ap (of_work queries_of_work) end.is_there in
      let errand = ap (λ (x : ActorValue). queries_of_errand s v g x.errand) actor-now in
      let desks = one-cleared (queries_on s h) refl in
      omega (arith, queries, was, now, errand, desks)

  pub query-kept : (done : DoesNoteWith d l (w.actors n) b) → IsKept s kind.Note n w w2 g
  query-kept done = record {
    step = record { changes = cs; actor = b; agrees = ag; does = done; sight = tt; now_is = refl };
    ghost_now = g;
    holds = subst (λ (z : View). InvWith s z g) (sym same) holds;
    newer = e ∷ [];
    grows = pushed.history_is;
    goes_on = inl (queries-fall (left s w g) (left s w2 g) control-same gates-no-more rows-no-more queries-less);
  }

pub query-keeps : (hierarchy : List Dimension) (d l : Change) (a b : ActorValue) (does : FailsQuery d l a b) → Keeps hierarchy kind.Note (d ∷ l ∷ []) a b (OfQuery does)
query-keeps hierarchy d l a b does s w n g i_same i ag sight =
    let here : FailsQuery d l (w.actors n) b = subst (λ (z : ActorValue). FailsQuery d l z b) (sym ag.actor_is) does in
    query-kept d l b s w n g i (record { cells = ag.cells; actor_is = refl; free = λ x ne. ag.free x ne }) here (OfQuery here)
