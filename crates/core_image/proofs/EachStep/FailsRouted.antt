-- The failure of an insert whose part found no memory before its gate keeps the invariant, and less is left.
use Rattle.std.proofs.{Common.{All, Contains, ◌≡◌, ◌≢◌, ℕ, ◌+◌, ◌<◌, List, [], ◌∷◌, true, false, length, Option, Some, None, refl, sym, ap, ◌∙◌, subst, arith, inl, inr}, lemmas.Bool.{false≢true}, lemmas.List.Elements.All-head}
use Rattle.std.specs.{Option.option_map_or, Prelude.sum_by}
use mathlib.Core.Path.{fun_ext}
use Rattle.dim_hierarchy.specs.Dimension.{Dimension}
use Rattle.query_router.specs.{Desk.{DeskValue, is_taken, state_is_taken, verdict_of}, declared.part.Part.Part, declared.part.PartState.PartState, declared.part.PartState.TheVariants.NoMemory}
use Rattle.row_ledger.specs.{Changes.ShardsStay, Kept.KeepsRight, Past.{Insert, insert_at}, declared.event.Event.Event, declared.event.Event.TheVariants.Failed}
use Rattle.row_ledger.proofs.Changes.{quiet}
use Rattle.server_image.specs.Image.{ImageValue}
use Rattle.volap_cell.specs.{Falls.{control_of, far, gates_of_errand, gates_of_part, gates_of_state, gates_of_work, job_left, left, of_work, one_if_any}, Ghost.Ghost, ImageKinds.{FailsRouted, cleared}, Invariant.InvWith, Owing.Owing, Placing.{IsRowPart, NobodyAt}, Setting.{Setting, actor_count, site_in}, Steps.{IsKept, Keeps}, Values.{ActorValue, JobValue}, View.{View, view, row_at}, World.{World, Change, Agrees, after}, declared.command.Command.Command, declared.role.Role.TheVariants.{Admin, Session}}
use Rattle.volap_cell.specs.declared.command.Work.TheVariants as work_is
use Rattle.volap_cell.specs.declared.kind.Kind.TheVariants as kind
use Rattle.volap_cell.proofs.{Histories.Books.{DeskNew, EventNew, ImageNew, desk-image-event}, OneEvent.Noted.telling-ends, OneEvent.Quiet.{Told, told-here}, Persons.has-command, Sums.sum-changed, Views.Books.{by_ack, view-fail_routed}, Views.Fields.IsNewAt, Views.Frames.{actor-at, actor-off}, Views.Seen.renewed}
use Rattle.core_image.proofs.{Commands.Ends.{cleared-sessions, ended-placing, insert-fails, one-refused, only-its}, Commands.Owed.{owed-covering, owed-imaging, owed-insert, owed-inserting, owed-leading, owed-only, promises-now, with_owed}, EachStep.Clears.{cleared-desking, cleared-inserting, cleared-leading, cleared-querying, ended-balancing, ended-inserting, ended-numbering, ended-working}, Lessens.Remains.{control-changed, gates-changed, gates_on}, Rows.begun-of}
use Rattle.list_words.proofs.Elements.{Contains-first}

-- a path that isn't empty has one at least
some-path : (path : List ℕ) → path ≢ [] → one_if_any path ≡ 1
some-path [] some = absurd (some refl)
some-path (x ∷ path) some = refl

module _ (d im l : Change) (b : ActorValue) (s : Setting) (w : World) (n : ℕ) (g : Ghost) (i : InvWith s (view s w) g) (ag : Agrees w (d ∷ im ∷ l ∷ []) n (w.actors n)) (does : FailsRouted d im l (w.actors n) b) where
  abbrev cs : List Change
  cs = d ∷ im ∷ l ∷ []

  abbrev v : View
  v = view s w

  abbrev h : List Event
  h = v.history

  abbrev w2 : World
  w2 = after w cs n b

  abbrev u : View
  u = view s w2

  abbrev of : ℕ
  of = does.of

  abbrev e : Event
  e = Failed of

  abbrev server : ℕ
  server = does.server

  abbrev desk : DeskValue
  desk = does.refused.desk

  books : (server < s.servers) × DeskNew u v server desk (cleared desk) × ImageNew u v server does.image does.image_now × EventNew u v e 0 1 b.seen
  books = desk-image-event s w n b i.numbering.tag d im l ag.cells does.refused.clear does.turns does.failed

  within : server < s.servers
  within = books.0

  desk-turned : DeskNew u v server desk (cleared desk)
  desk-turned = books.1

  pushed : EventNew u v e 0 1 b.seen
  pushed = books.3

  -- the view afterwards, with its history written out
  abbrev v2 : View
  v2 = record (renewed by_ack u v) { history = e ∷ h; row = row_at (e ∷ h); images = with_owed v.images (λ x. (u.images x).owed) }

  images-are : u.images ≡ v2.images
  images-are = fun_ext (owed-only v.images u.images server does.image does.image_now books.2 (sym (ap (λ (x : ImageValue). x.spots) does.forgoes)) (sym (ap (λ (x : ImageValue). x.growths) does.forgoes)))

  same : u ≡ v2
  same = view-fail_routed s w n d im l (w.actors n) b ag does ∙ (λ k. record (renewed by_ack u v) { history = pushed.history_is k; row = row_at (pushed.history_is k); images = images-are k })

  -- The command.

  abbrev its : Command
  its = record { of = of; work = work_is.Insert does.row true }

  actor-now : w2.actors n ≡ record (w.actors n) { command = None; seen = b.seen }
  actor-now = actor-at w.actors n b ∙ does.actor_is

  end : IsNewAt v2.commands v.commands n (Some its) None
  end = record {
    was_there = does.command;
    is_there = ap (λ (a : ActorValue). a.command) actor-now;
    elsewhere = λ a ne. ap (λ (x : ActorValue). x.command) (actor-off w.actors n b a ne);
  }

  there : n < actor_count s
  there = has-command s v i.numbering n its does.command

  abbrev insert : Insert
  insert = record { server = server; row = does.row }

  begun : insert_at h of ≡ Some (insert)
  begun = (begun-of s w g i n of server does.row does.command does.role).0

  own : (a : ℕ) (c : Command) → v.commands a ≡ Some c → c.of ≡ of → a ≡ n
  own = only-its s h v.commands v.jobs v.roles v.seen g.placed i.telling n its does.command

  -- The part.

  op : (v.desks server).op ≡ Some of
  op = ap (λ (x : DeskValue). x.op) desk-turned.was_there ∙ does.refused.op

  one-part : (p : Part) × (desk.parts ≡ p ∷ []) × (p.state ≡ NoMemory)
  one-part =
      let one = i.desking.insert server of insert within op begun in
      let parts : desk.parts ≡ one.0 ∷ [] = sym (ap (λ (x : DeskValue). x.parts) desk-turned.was_there) ∙ one.1 in
      (one.0, parts, one-refused one.0 (ap verdict_of (sym parts) ∙ does.refused.refused))

  abbrev part : Part
  part = one-part.0

  part-at : IsRowPart h v.images v.ways g.placed g.path server of part NoMemory
  part-at =
      let P : Part → Type 0 = λ p. IsRowPart h v.images v.ways g.placed g.path server of p p.state in
      let all : All P (part ∷ []) = subst (All P) (ap (λ (x : DeskValue). x.parts) desk-turned.was_there ∙ one-part.1) (i.inserting.parts server of insert within op begun) in
      subst (λ (st : PartState). IsRowPart h v.images v.ways g.placed g.path server of part st) one-part.2 (All-head P part [] all)

  out : (g.placed of ≡ false) × NobodyAt v.ways of
  out = (part-at.0, part-at.1)

  right : KeepsRight (site_in s) g.placed (e ∷ h)
  right = insert-fails s g.placed h of _ i.telling.right begun (i.telling.is_open n its does.command) out.0

  none-taken : (p : Part) → Contains desk.parts p → is_taken p ≡ true → ⊥
  none-taken p has taken = elim (Contains-first part [] p (subst (λ (ps : List Part). Contains ps p) one-part.1 has)) [
    | inl is ↦ false≢true (sym (ap state_is_taken one-part.2) ∙ ap is_taken is ∙ taken)
    | inr none ↦ absurd (omega (arith, none.1))
  ]

  jobless : (j : JobValue) → v.jobs n ≡ Some j → ⊥
  jobless j is = (let roles : Session server ≡ Admin = sym does.role ∙ i.numbering.working n j is in cc)

  -- Parts.

  told : Told s v g (e ∷ h)
  told = told-here s w g e refl (λ a of balance is. refl) i

  owing-now : Owing s (e ∷ h) v2.promised v2.images v2.desks v.roles v2.commands v.counted_in
  owing-now = record {
    promises = promises-now (actor_count s) n there v.commands v2.commands (Some its) None end v.promised v2.promised 0 1 pushed.promised_is refl i.owing.promises;
    few = (let moved = pushed.promised_is in let few = i.owing.few in omega (arith, moved, few));
    image = λ x lt. owed-insert (actor_count s) n there v.commands v2.commands (Some its) None end v.roles server does.role v.images u.images does.image does.image_now books.2
        (let less = ap (λ (y : ImageValue). y.owed) does.forgoes in omega (arith, less)) x (i.owing.image x lt);
    sessions = cleared-sessions s server desk v.desks v2.desks desk-turned v.roles v.counted_in i.owing.sessions;
  }

  abbrev owed : ℕ → ℕ
  owed = λ x. (u.images x).owed

  holds : InvWith s v2 g
  holds = record {
    numbering = ended-numbering n its v.commands v2.commands end s v.tags v.numbers v.roles v.settings v.counted_in v.purses v.taken v.jobs i.numbering;
    telling = telling-ends s e h n v.commands v2.commands v.jobs v.jobs v.roles v.seen v2.seen g.placed
        (record {
          others = λ a ne. (end.elsewhere a ne, refl, ap (λ (x : ActorValue). x.seen) (actor-off w.actors n b a ne));
          all_seen = ap (λ (x : ActorValue). x.seen) actor-now ∙ pushed.all_seen ∙ ap length pushed.history_is;
        })
        right i.telling its refl does.command end.is_there;
    owing = owing-now;
    turning = i.turning;
    stocking = i.stocking;
    stamping = i.stamping;
    lineage = told.lineage;
    leading = owed-leading v.images owed s v.maps v2.desks (cleared-leading s server desk v.desks v2.desks desk-turned v.maps v.images i.leading);
    growing = told.growing;
    queueing = told.queueing;
    resting = told.resting;
    placing = ended-placing n its v.commands v2.commands end s (e ∷ h) v.ways v.queues g.gate g.shape g.placed g.home g.path
        (λ r row is. let it : of ≡ r = ap (λ (c : Option Command). option_map_or (λ (k : Command). k.of) c 0) is in subst (λ (p : ℕ). g.placed p ≡ false) it out.0) told.placing;
    inserting = owed-inserting v.images owed s (e ∷ h) v2.desks v2.commands v.ways g.placed g.path
        (ended-inserting n its v.commands v2.commands end s (e ∷ h) v.images v2.desks v.ways g.placed g.path
        (cleared-inserting s server desk v.desks v2.desks desk-turned (e ∷ h) v.images v.commands v.ways g.placed g.path told.inserting));
    imaging = owed-imaging v.images owed s (e ∷ h) (row_at (e ∷ h)) g.placed told.imaging;
    covering = owed-covering v.images owed s (e ∷ h) (row_at (e ∷ h)) v.registry g.placed g.home g.path told.covering;
    desking = cleared-desking s server desk v.desks v2.desks desk-turned n its v.roles v.commands v2.commands end does.refused.op does.role own none-taken (e ∷ h) v.taken told.desking;
    pinning = i.pinning;
    querying = cleared-querying s server desk v.desks v2.desks desk-turned (e ∷ h) (row_at (e ∷ h)) v.blocks v.trees v.taken v.reads g.shape g.placed g.home g.counted told.querying;
    working = ended-working n its v.commands v2.commands end s (e ∷ h) v.blocks v.made v.trees v.phases v.active v.queues v.purses v.jobs g.gate g.shape g.placed jobless told.working;
    balancing = ended-balancing n its v.commands v2.commands end s (e ∷ h) v.jobs g.placed g.home told.balancing;
    reusing = i.reusing;
  }

  -- What is left.

  others : (a : ℕ) → a ≢ n → w2.actors a ≡ w.actors a
  others a ne = actor-off w.actors n b a ne

  stay : ShardsStay s.workers e h
  stay = (quiet s.hierarchy s.workers e h refl).shards

  control-same : (left s w2 g).control ≡ (left s w g).control
  control-same =
      let control = control-changed s w w2 g n v2 same others (inl there) refl refl in
      let was : of_work (control_of s) (w.actors n).command ≡ 0 = ap (of_work (control_of s)) does.command in
      let now : of_work (control_of s) (w2.actors n).command ≡ 0 = ap (of_work (control_of s)) end.is_there in
      let job = ap (λ (x : ActorValue). job_left s v x.job) actor-now in
      omega (arith, control, was, now, job)

  gates-less : (left s w2 g).gates < (left s w g).gates
  gates-less =
      let gates = gates-changed s w w2 g n v2 same others (inl there) e h refl refl stay refl in
      let was : of_work (gates_of_work h) (w.actors n).command ≡ 0 = ap (of_work (gates_of_work h)) does.command in
      let now : of_work (gates_of_work h) (w2.actors n).command ≡ 0 = ap (of_work (gates_of_work h)) end.is_there in
      let errand = ap (λ (x : ActorValue). gates_of_errand s h x.errand) actor-now in
      let one : gates_on s h (v.desks server) ≡ 0 + one_if_any part.path =
      ap (gates_on s h) desk-turned.was_there ∙ ap (sum_by (gates_of_part s h)) one-part.1 ∙ ap (λ (st : PartState). 0 + gates_of_state (far s.workers h part.shard part.worker) part.path st) one-part.2 in
      let some = some-path part.path part-at.2 in
      let none : gates_on s h (v2.desks server) ≡ 0 = ap (gates_on s h) desk-turned.is_there in
      let desks = sum-changed s.servers (λ x. gates_on s h (v.desks x)) (λ x. gates_on s h (v2.desks x)) server (λ x ne. ap (gates_on s h) (desk-turned.elsewhere x ne)) within in
      omega (arith, gates, was, now, errand, one, some, none, desks)

  pub routed-kept : IsKept s kind.Note n w w2 g
  routed-kept = record {
    step = record { changes = cs; actor = b; agrees = ag; does = does; sight = tt; now_is = refl };
    ghost_now = g;
    holds = subst (λ (z : View). InvWith s z g) (sym same) holds;
    newer = e ∷ [];
    grows = pushed.history_is;
    goes_on = inl (inr (inl (control-same, gates-less)));
  }

pub routed-keeps : (hierarchy : List Dimension) (d im l : Change) (a b : ActorValue) (does : FailsRouted d im l a b) → Keeps hierarchy kind.Note (d ∷ im ∷ l ∷ []) a b does
routed-keeps hierarchy d im l a b does s w n g i_same i ag sight =
    let here : FailsRouted d im l (w.actors n) b = subst (λ (z : ActorValue). FailsRouted d im l z b) (sym ag.actor_is) does in
    routed-kept d im l b s w n g i (record { cells = ag.cells; actor_is = refl; free = λ x ne. ag.free x ne }) here
