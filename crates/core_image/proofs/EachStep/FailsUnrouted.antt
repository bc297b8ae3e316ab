-- The failure of an insert for which no part was routed keeps the invariant, and less is left. The desk isn't touched: another
-- session's command may stand there.
use Rattle.std.proofs.Common.{◌≡◌, ◌≢◌, ℕ, ◌+◌, ◌*◌, ◌<◌, List, [], ◌∷◌, false, length, Option, Some, None, refl, sym, ap, ◌∙◌, subst, arith, inl, inr}
use Rattle.std.specs.Option.{option_map_or}
use mathlib.Core.Path.{fun_ext}
use Rattle.dim_hierarchy.specs.Dimension.{Dimension}
use Rattle.row_ledger.specs.{Changes.ShardsStay, Kept.KeepsRight, Past.insert_at, declared.event.Event.Event, declared.event.Event.TheVariants.Failed}
use Rattle.row_ledger.proofs.Changes.{quiet}
use Rattle.server_image.specs.Image.{ImageValue}
use Rattle.volap_cell.specs.{Falls.{control_of, farthest, gates_of_errand, gates_of_work, job_left, left, of_work, per_gate}, Ghost.Ghost, ImageKinds.{DoesNoteWith, FailsUnrouted, OfUnrouted}, Invariant.InvWith, Owing.Owing, Placing.NobodyAt, Setting.{Setting, actor_count, site_in}, Steps.{IsKept, Keeps}, Values.{ActorValue, JobValue}, View.{View, view, row_at}, World.{World, Change, Agrees, after}, declared.command.Command.Command, declared.role.Role.TheVariants.{Admin, Session}}
use Rattle.volap_cell.specs.declared.command.Work.TheVariants as work_is
use Rattle.volap_cell.specs.declared.kind.Kind.TheVariants as kind
use Rattle.volap_cell.proofs.{Histories.Books.{EventNew, ImageNew, image-event}, OneEvent.Noted.telling-ends, OneEvent.Quiet.{Told, told-here}, Persons.has-command, Views.Books.{by_begin_insert, view-fail_unrouted}, Views.Fields.IsNewAt, Views.Frames.{actor-at, actor-off}, Views.Seen.renewed}
use Rattle.core_image.proofs.{Commands.Ends.{ended-desking, ended-placing, insert-fails}, Commands.Owed.{owed-covering, owed-imaging, owed-insert, owed-inserting, owed-leading, owed-only, promises-now, with_owed}, EachStep.Clears.{ended-balancing, ended-inserting, ended-numbering, ended-working}, Lessens.Remains.{control-changed, gates-changed}, Rows.begun-of}

module _ (im l : Change) (b : ActorValue) (s : Setting) (w : World) (n : ℕ) (g : Ghost) (i : InvWith s (view s w) g) (ag : Agrees w (im ∷ l ∷ []) n (w.actors n)) (does : FailsUnrouted im l (w.actors n) b) where
  abbrev cs : List Change
  cs = im ∷ l ∷ []

  abbrev v : View
  v = view s w

  abbrev h : List Event
  h = v.history

  abbrev w2 : World
  w2 = after w cs n b

  abbrev u : View
  u = view s w2

  abbrev of : ℕ
  of = does.of

  abbrev e : Event
  e = Failed of

  books : (does.server < s.servers) × ImageNew u v does.server does.image does.image_now × EventNew u v e 0 1 b.seen
  books = image-event s w n b i.numbering.tag im l ag.cells does.turns does.failed

  pushed : EventNew u v e 0 1 b.seen
  pushed = books.2

  -- the view afterwards, with its history written out
  abbrev v2 : View
  v2 = record (renewed by_begin_insert u v) { history = e ∷ h; row = row_at (e ∷ h); images = with_owed v.images (λ x. (u.images x).owed) }

  images-are : u.images ≡ v2.images
  images-are = fun_ext (owed-only v.images u.images does.server does.image does.image_now books.1 (sym (ap (λ (x : ImageValue). x.spots) does.forgoes)) (sym (ap (λ (x : ImageValue). x.growths) does.forgoes)))

  same : u ≡ v2
  same = view-fail_unrouted s w n im l (w.actors n) b ag does ∙ (λ k. record (renewed by_begin_insert u v) { history = pushed.history_is k; row = row_at (pushed.history_is k); images = images-are k })

  -- The command.

  abbrev its : Command
  its = record { of = of; work = work_is.Insert does.row false }

  actor-now : w2.actors n ≡ record (w.actors n) { command = None; seen = b.seen }
  actor-now = actor-at w.actors n b ∙ does.actor_is

  end : IsNewAt v2.commands v.commands n (Some its) None
  end = record {
    was_there = does.command;
    is_there = ap (λ (a : ActorValue). a.command) actor-now;
    elsewhere = λ a ne. ap (λ (x : ActorValue). x.command) (actor-off w.actors n b a ne);
  }

  there : n < actor_count s
  there = has-command s v i.numbering n its does.command

  begun : insert_at h of ≡ Some (record { server = does.server; row = does.row })
  begun = (begun-of s w g i n of does.server does.row does.command does.role).0

  out : (g.placed of ≡ false) × NobodyAt v.ways of
  out = i.inserting.unrouted n of does.row does.command

  right : KeepsRight (site_in s) g.placed (e ∷ h)
  right = insert-fails s g.placed h of _ i.telling.right begun (i.telling.is_open n its does.command) out.0

  jobless : (j : JobValue) → v.jobs n ≡ Some j → ⊥
  jobless j is = (let roles : Session does.server ≡ Admin = sym does.role ∙ i.numbering.working n j is in cc)

  -- Parts.

  told : Told s v g (e ∷ h)
  told = told-here s w g e refl (λ a of balance is. refl) i

  owing-now : Owing s (e ∷ h) v2.promised v2.images v.desks v.roles v2.commands v.counted_in
  owing-now = record {
    promises = promises-now (actor_count s) n there v.commands v2.commands (Some its) None end v.promised v2.promised 0 1 pushed.promised_is refl i.owing.promises;
    few = (let moved = pushed.promised_is in let few = i.owing.few in omega (arith, moved, few));
    image = λ x lt. owed-insert (actor_count s) n there v.commands v2.commands (Some its) None end v.roles does.server does.role v.images u.images does.image does.image_now books.1
        (let less = ap (λ (y : ImageValue). y.owed) does.forgoes in omega (arith, less)) x (i.owing.image x lt);
    sessions = i.owing.sessions;
  }

  abbrev owed : ℕ → ℕ
  owed = λ x. (u.images x).owed

  holds : InvWith s v2 g
  holds = record {
    numbering = ended-numbering n its v.commands v2.commands end s v.tags v.numbers v.roles v.settings v.counted_in v.purses v.taken v.jobs i.numbering;
    telling = telling-ends s e h n v.commands v2.commands v.jobs v.jobs v.roles v.seen v2.seen g.placed
        (record {
          others = λ a ne. (end.elsewhere a ne, refl, ap (λ (x : ActorValue). x.seen) (actor-off w.actors n b a ne));
          all_seen = ap (λ (x : ActorValue). x.seen) actor-now ∙ pushed.all_seen ∙ ap length pushed.history_is;
        })
        right i.telling its refl does.command end.is_there;
    owing = owing-now;
    turning = i.turning;
    stocking = i.stocking;
    stamping = i.stamping;
    lineage = told.lineage;
    leading = owed-leading v.images owed s v.maps v.desks i.leading;
    growing = told.growing;
    queueing = told.queueing;
    resting = told.resting;
    placing = ended-placing n its v.commands v2.commands end s (e ∷ h) v.ways v.queues g.gate g.shape g.placed g.home g.path
        (λ r row is. let it : of ≡ r = ap (λ (c : Option Command). option_map_or (λ (k : Command). k.of) c 0) is in subst (λ (p : ℕ). g.placed p ≡ false) it out.0) told.placing;
    inserting = owed-inserting v.images owed s (e ∷ h) v.desks v2.commands v.ways g.placed g.path
        (ended-inserting n its v.commands v2.commands end s (e ∷ h) v.images v.desks v.ways g.placed g.path told.inserting);
    imaging = owed-imaging v.images owed s (e ∷ h) (row_at (e ∷ h)) g.placed told.imaging;
    covering = owed-covering v.images owed s (e ∷ h) (row_at (e ∷ h)) v.registry g.placed g.home g.path told.covering;
    desking = ended-desking n its v.commands v2.commands end s (e ∷ h) v.desks v.roles v.taken refl told.desking;
    pinning = i.pinning;
    querying = told.querying;
    working = ended-working n its v.commands v2.commands end s (e ∷ h) v.blocks v.made v.trees v.phases v.active v.queues v.purses v.jobs g.gate g.shape g.placed jobless told.working;
    balancing = ended-balancing n its v.commands v2.commands end s (e ∷ h) v.jobs g.placed g.home told.balancing;
    reusing = i.reusing;
  }

  -- What is left.

  others : (a : ℕ) → a ≢ n → w2.actors a ≡ w.actors a
  others a ne = actor-off w.actors n b a ne

  stay : ShardsStay s.workers e h
  stay = (quiet s.hierarchy s.workers e h refl).shards

  control-same : (left s w2 g).control ≡ (left s w g).control
  control-same =
      let control = control-changed s w w2 g n v2 same others (inl there) refl refl in
      let was : of_work (control_of s) (w.actors n).command ≡ 0 = ap (of_work (control_of s)) does.command in
      let now : of_work (control_of s) (w2.actors n).command ≡ 0 = ap (of_work (control_of s)) end.is_there in
      let job = ap (λ (x : ActorValue). job_left s v x.job) actor-now in
      omega (arith, control, was, now, job)

  gates-less : (left s w2 g).gates < (left s w g).gates
  gates-less =
      let gates = gates-changed s w w2 g n v2 same others (inl there) e h refl refl stay refl in
      let was : of_work (gates_of_work h) (w.actors n).command ≡ per_gate * farthest h + 1 = ap (of_work (gates_of_work h)) does.command in
      let now : of_work (gates_of_work h) (w2.actors n).command ≡ 0 = ap (of_work (gates_of_work h)) end.is_there in
      let errand = ap (λ (x : ActorValue). gates_of_errand s h x.errand) actor-now in
      omega (arith, gates, was, now, errand)

  pub unrouted-kept : (done : DoesNoteWith im l (w.actors n) b) → IsKept s kind.Note n w w2 g
  unrouted-kept done = record {
    step = record { changes = cs; actor = b; agrees = ag; does = done; sight = tt; now_is = refl };
    ghost_now = g;
    holds = subst (λ (z : View). InvWith s z g) (sym same) holds;
    newer = e ∷ [];
    grows = pushed.history_is;
    goes_on = inl (inr (inl (control-same, gates-less)));
  }

pub unrouted-keeps : (hierarchy : List Dimension) (im l : Change) (a b : ActorValue) (d : FailsUnrouted im l a b) → Keeps hierarchy kind.Note (im ∷ l ∷ []) a b (OfUnrouted d)
unrouted-keeps hierarchy im l a b d s w n g i_same i ag sight =
    let here : FailsUnrouted im l (w.actors n) b = subst (λ (z : ActorValue). FailsUnrouted im l z b) (sym ag.actor_is) d in
    unrouted-kept im l b s w n g i (record { cells = ag.cells; actor_is = refl; free = λ x ne. ag.free x ne }) here (OfUnrouted here)
