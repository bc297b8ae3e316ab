-- The end of a command that is no insert and no query keeps the invariant, and less is left.
use Rattle.std.proofs.{Common.{◌≡◌, ◌≢◌, ℕ, ◌+◌, ◌<◌, ◌≤◌, List, [], ◌∷◌, Bool, false, length, Option, Some, None, refl, sym, ap, ◌∙◌, subst, arith, ◌⊎◌, inl, inr}, lemmas.Bool.{cases_lt, false≢true}}
use Rattle.std.specs.Option.{option_map_or}
use Rattle.row_ledger.specs.{Changes.ShardsStay, Kept.KeepsRight, Right.IsRightEnd, declared.event.Event.Event, declared.event.Event.TheVariants.Ended, declared.settings.How.How}
use Rattle.row_ledger.proofs.{Changes.quiet, Growth.KeepsRight-ended}
use Rattle.volap_cell.specs.{Commands.owes, Desking.is_on_desk, Falls.{Falls, control_of, gates_of_errand, gates_of_work, job_left, left, of_work}, Ghost.Ghost, ImageKinds.{NotesEnded, OfEnded}, Invariant.InvWith, Owing.{Owing, is_insert_work}, Setting.{Setting, actor_count, site_in}, Steps.IsKept, Stocking.{items_of_job, spent_of}, Values.{ActorValue, JobValue}, View.{View, view, row_at}, Working.frozen_in, World.{World, Change, Agrees, after}, declared.command.Command.Command, declared.command.Work.Work, declared.role.Role.TheVariants.Admin}
use Rattle.volap_cell.specs.declared.kind.Kind.TheVariants as kind
use Rattle.volap_cell.proofs.{Histories.Books.{EventNew, one-event}, OneEvent.Noted.telling-ends, OneEvent.Quiet.{Told, told-here}, Persons.has-command, Views.Books.{by_call, view-note_ended}, Views.Fields.IsNewAt, Views.Frames.{actor-at, actor-off}, Views.Seen.renewed}
use Rattle.core_image.proofs.{Commands.Ends.{ended-desking, ended-placing}, Commands.JobsEnd.{jobless-balancing, jobless-numbering, jobless-stamping, jobless-stocking, jobless-working}, Commands.Owed.{owed-others, promises-now}, EachStep.Clears.ended-inserting, Lessens.Remains.{control_at, control-changed, gates-changed}}

-- what a command is as it ends
pub record IsEnding (s : Setting) (h : List Event) (placed : ℕ → Bool) (of : ℕ) (work : Work) (job : Option JobValue) (how : How) : Type 0 where
  pub right : IsRightEnd (site_in s) placed h of how
  pub off_desk : is_on_desk work ≡ false
  pub no_insert : is_insert_work work ≡ false
  pub some : 1 ≤ owes work
  pub unspent : spent_of job ≡ []
  pub unnoted : items_of_job job ≡ []
  pub unfrozen : (j : JobValue) → job ≡ Some j → frozen_in j.stage ≡ None
  pub less : (1 ≤ control_of s work) ⊎ (1 ≤ gates_of_work h work)

module _ (l : Change) (b : ActorValue) (s : Setting) (w : World) (n : ℕ) (g : Ghost) (i : InvWith s (view s w) g) (ag : Agrees w (l ∷ []) n (w.actors n)) (does : NotesEnded l (w.actors n) b)
    (is : IsEnding s (view s w).history g.placed does.of does.work (w.actors n).job does.how_it_ends) where
  abbrev v : View
  v = view s w

  abbrev h : List Event
  h = v.history

  abbrev w2 : World
  w2 = after w (l ∷ []) n b

  abbrev u : View
  u = view s w2

  abbrev of : ℕ
  of = does.of

  abbrev e : Event
  e = Ended of does.how_it_ends

  pushed : EventNew u v e 0 (owes does.work) b.seen
  pushed = one-event s w n b i.numbering.tag l ag.cells does.ended

  -- the view afterwards, with its history written out
  abbrev v2 : View
  v2 = record (renewed by_call u v) { history = e ∷ h; row = row_at (e ∷ h) }

  same : u ≡ v2
  same = view-note_ended s w n l (w.actors n) b ag does ∙ (λ k. record (renewed by_call u v) { history = pushed.history_is k; row = row_at (pushed.history_is k) })

  -- The command.

  abbrev its : Command
  its = record { of = of; work = does.work }

  actor-now : w2.actors n ≡ record (w.actors n) { command = None; job = None; seen = b.seen }
  actor-now = actor-at w.actors n b ∙ does.actor_is

  end : IsNewAt v2.commands v.commands n (Some its) None
  end = record {
    was_there = does.command;
    is_there = ap (λ (a : ActorValue). a.command) actor-now;
    elsewhere = λ a ne. ap (λ (x : ActorValue). x.command) (actor-off w.actors n b a ne);
  }

  gone : IsNewAt v2.jobs v.jobs n (w.actors n).job None
  gone = record {
    was_there = refl;
    is_there = ap (λ (a : ActorValue). a.job) actor-now;
    elsewhere = λ a ne. ap (λ (x : ActorValue). x.job) (actor-off w.actors n b a ne);
  }

  there : n < actor_count s
  there = has-command s v i.numbering n its does.command

  right : KeepsRight (site_in s) g.placed (e ∷ h)
  right = KeepsRight-ended (site_in s) g.placed h of does.how_it_ends i.telling.right is.right

  -- Parts.

  told : Told s v g (e ∷ h)
  told = told-here s w g e refl (λ a p balance has. refl) i

  owing-now : Owing s (e ∷ h) v2.promised v.images v.desks v.roles v2.commands v.counted_in
  owing-now = record {
    promises = promises-now (actor_count s) n there v.commands v2.commands (Some its) None end v.promised v2.promised 0 (owes does.work) pushed.promised_is (omega arith) i.owing.promises;
    few = (let moved = pushed.promised_is in let few = i.owing.few in let some = is.some in omega (arith, moved, few, some));
    image = λ x lt. i.owing.image x lt ∙ sym (owed-others (actor_count s) n there v.commands v2.commands (Some its) None end v.roles is.no_insert refl x);
    sessions = i.owing.sessions;
  }

  -- an administrator's purse is empty: its job has frozen nothing, or it has none
  empty : v.roles n ≡ Admin → v.purses n ≡ []
  empty role = by_job (v.jobs n) refl
    where
      by_job : (job : Option JobValue) → v.jobs n ≡ job → v.purses n ≡ []
      by_job None none = i.numbering.idle n role none
      by_job (Some j) some = i.working.unspent n j some (is.unfrozen j some)

  holds : InvWith s v2 g
  holds = record {
    numbering = jobless-numbering n its v.commands v2.commands end (w.actors n).job v.jobs v2.jobs gone s v.tags v.numbers v.roles v.settings v.counted_in v.purses v.taken empty i.numbering;
    telling = telling-ends s e h n v.commands v2.commands v.jobs v2.jobs v.roles v.seen v2.seen g.placed
        (record {
          others = λ a ne. (end.elsewhere a ne, gone.elsewhere a ne, ap (λ (x : ActorValue). x.seen) (actor-off w.actors n b a ne));
          all_seen = ap (λ (x : ActorValue). x.seen) actor-now ∙ pushed.all_seen ∙ ap length pushed.history_is;
        })
        right i.telling its refl does.command end.is_there;
    owing = owing-now;
    turning = i.turning;
    stocking = jobless-stocking n its v.commands v2.commands end (w.actors n).job v.jobs v2.jobs gone is.unspent s v.purses v.stock v.made v.gates v.phases v.pins v.gone g.owner g.shape i.stocking;
    stamping = jobless-stamping n its v.commands v2.commands end (w.actors n).job v.jobs v2.jobs gone is.unspent is.unnoted v.purses v.stock v.blocks v.made v.trees v.gates v.phases v.pins v.reads g.shape i.stamping;
    lineage = told.lineage;
    leading = i.leading;
    growing = told.growing;
    queueing = told.queueing;
    resting = told.resting;
    placing = ended-placing n its v.commands v2.commands end s (e ∷ h) v.ways v.queues g.gate g.shape g.placed g.home g.path
        (λ r row has. absurd (false≢true (sym is.no_insert ∙ ap (λ (c : Option Command). option_map_or (λ (k : Command). is_insert_work k.work) c false) has))) told.placing;
    inserting = ended-inserting n its v.commands v2.commands end s (e ∷ h) v.images v.desks v.ways g.placed g.path told.inserting;
    imaging = told.imaging;
    covering = told.covering;
    desking = ended-desking n its v.commands v2.commands end s (e ∷ h) v.desks v.roles v.taken is.off_desk told.desking;
    pinning = i.pinning;
    querying = told.querying;
    working = jobless-working n its v.commands v2.commands end (w.actors n).job v.jobs v2.jobs gone s (e ∷ h) v.blocks v.made v.trees v.phases v.active v.queues v.purses g.gate g.shape g.placed told.working;
    balancing = jobless-balancing n its v.commands v2.commands end (w.actors n).job v.jobs v2.jobs gone s (e ∷ h) g.placed g.home told.balancing;
    reusing = i.reusing;
  }

  -- What is left.

  others : (a : ℕ) → a ≢ n → w2.actors a ≡ w.actors a
  others a ne = actor-off w.actors n b a ne

  stay : ShardsStay s.workers e h
  stay = (quiet s.hierarchy s.workers e h refl).shards

  falls : Falls (left s w g) (left s w2 g)
  falls =
      let control = control-changed s w w2 g n v2 same others (inl there) refl refl in
      let gates = gates-changed s w w2 g n v2 same others (inl there) e h refl refl stay refl in
      let had : of_work (control_of s) (w.actors n).command ≡ control_of s does.work = ap (of_work (control_of s)) does.command in
      let none : control_at s v (w2.actors n) ≡ 0 = ap (control_at s v) actor-now in
      let gates_had : of_work (gates_of_work h) (w.actors n).command ≡ gates_of_work h does.work = ap (of_work (gates_of_work h)) does.command in
      let gates_none : of_work (gates_of_work h) (w2.actors n).command ≡ 0 = ap (of_work (gates_of_work h)) end.is_there in
      let errand = ap (λ (x : ActorValue). gates_of_errand s h x.errand) actor-now in
      elim (cases_lt 0 (control_of s does.work + job_left s v (w.actors n).job)) [
        | inl some ↦ inl (omega (arith, control, had, none, some))
        | inr nothing ↦ elim is.less [
          | inl some ↦ absurd (omega (arith, nothing, some))
          | inr some ↦ inr (inl (omega (arith, control, had, none, nothing), omega (arith, gates, gates_had, gates_none, errand, some)))
        ]
      ]

  pub ended-kept : IsKept s kind.Note n w w2 g
  ended-kept = record {
    step = record { changes = l ∷ []; actor = b; agrees = ag; does = OfEnded does; sight = tt; now_is = refl };
    ghost_now = g;
    holds = subst (λ (z : View). InvWith s z g) (sym same) holds;
    newer = e ∷ [];
    grows = pushed.history_is;
    goes_on = inl falls;
  }
