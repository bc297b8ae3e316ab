-- The beginning of an insert keeps the invariant, and brings no more with it than a command may.
use Rattle.std.proofs.Common.{◌≡◌, ◌≢◌, ℕ, ◌+◌, ◌<◌, ◌*◌, List, [], ◌∷◌, false, length, Option, Some, None, refl, sym, ap, ◌∙◌, subst, arith, inl, inr}
use mathlib.Core.Path.{fun_ext}
use Rattle.std.specs.Option.{option_map_or}
use Rattle.dim_hierarchy.specs.{Dimension.Dimension, Row.IsCoordOf, Rows.IsRowOf, declared.row.Coord.Coord, declared.row.Row.Row}
use Rattle.row_ledger.specs.{Changes.ShardsStay, LedgerValue.LedgerValue, Past.{Insert, Query, insert_at, insert_in}, declared.event.Event.Event, declared.event.Event.TheVariants.Begun}
use Rattle.row_ledger.proofs.{Changes.quiet, Growth.KeepsRight-begun}
use Rattle.server_image.specs.Image.{ImageValue}
use Rattle.volap_cell.specs.{Cells.{CellValue, ImageCell, ImageOf, LedgerCell, tag_of}, Falls.{BringsWork, control_of, farthest, gates_of_errand, gates_of_work, job_left, left, of_work, per_gate}, Ghost.Ghost, ImageKinds.{DoesBeginInsert, doing}, Invariant.InvWith, Owing.Owing, Placing.NobodyAt, Setting.{Setting, actor_count, site_in}, Steps.{IsKept, Keeps, Makes}, Telling.{IsProgress, Telling}, Values.ActorValue, View.{View, view, row_at}, World.{World, Change, Agrees, after, change}, declared.command.Command.Command, declared.role.Role.TheVariants.{Hand, Session}}
use Rattle.volap_cell.specs.declared.command.Work.TheVariants as work_is
use Rattle.volap_cell.specs.declared.kind.Kind.TheVariants as kind
use Rattle.volap_cell.proofs.{Histories.Books.{EventNew, ImageNew, image-event}, OneEvent.Known.older-rows, OneEvent.Noted.{new-told, telling-begins}, OneEvent.Quiet.{Told, new-row-out, nobody-at-new, told-here}, Persons.has-role, Views.Books.{by_begin_insert, view-begin_insert}, Views.Fields.IsNewAt, Views.Frames.{actor-at, actor-off}, Views.Seen.renewed, Views.Shown.held-ledger}
use Rattle.core_image.specs.NotesDue.{CanBeginInsert, OpensInsert}
use Rattle.core_image.proofs.{Commands.Begun.{begun-balancing, begun-desking, begun-inserting, begun-numbering, begun-placing, begun-working}, Commands.Owed.{IsFew, few-pushed, owed-covering, owed-imaging, owed-insert, owed-inserting, owed-leading, owed-only, promises-now, with_owed}, Lessens.Remains.{control-changed, gates-changed, no-more, rows-changed, rows_at}}

module _ (im l : Change) (b : ActorValue) (s : Setting) (w : World) (n : ℕ) (g : Ghost) (i : InvWith s (view s w) g) (ag : Agrees w (im ∷ l ∷ []) n (w.actors n)) (does : DoesBeginInsert s.hierarchy im l (w.actors n) b) (few : IsFew does.begun) where
  abbrev cs : List Change
  cs = im ∷ l ∷ []

  abbrev v : View
  v = view s w

  abbrev h : List Event
  h = v.history

  abbrev w2 : World
  w2 = after w cs n b

  abbrev u : View
  u = view s w2

  abbrev row : Row
  row = does.row

  abbrev e : Event
  e = Begun (w.actors n).number does.server row

  abbrev image_now : ImageValue
  image_now = record does.image { owed = does.image.owed + 1 }

  books : (does.server < s.servers) × ImageNew u v does.server does.image image_now × EventNew u v e 2 1 b.seen
  books = image-event s w n b i.numbering.tag im l ag.cells does.owes_more does.begun

  pushed : EventNew u v e 2 1 b.seen
  pushed = books.2

  -- the view afterwards, with its history written out
  abbrev v2 : View
  v2 = record (renewed by_begin_insert u v) { history = e ∷ h; row = row_at (e ∷ h); images = with_owed v.images (λ x. (u.images x).owed) }

  images-are : u.images ≡ v2.images
  images-are = fun_ext (owed-only v.images u.images does.server does.image image_now books.1 refl refl)

  same : u ≡ v2
  same = view-begin_insert s w n s.hierarchy im l (w.actors n) b ag does ∙ (λ k. record (renewed by_begin_insert u v) { history = pushed.history_is k; row = row_at (pushed.history_is k); images = images-are k })

  -- The command.

  abbrev its : Command
  its = record { of = row.no; work = work_is.Insert row false }

  actor-now : w2.actors n ≡ record (w.actors n) { command = Some its; seen = b.seen }
  actor-now = actor-at w.actors n b ∙ does.actor_is

  begin : IsNewAt v2.commands v.commands n None (Some its)
  begin = record {
    was_there = does.free.command;
    is_there = ap (λ (a : ActorValue). a.command) actor-now;
    elsewhere = λ a ne. ap (λ (x : ActorValue). x.command) (actor-off w.actors n b a ne);
  }

  there : n < actor_count s
  there = has-role s v i.numbering n (λ hand. let never : Session does.server ≡ Hand s.workers = sym does.role ∙ hand in cc)

  ledger-was : (v.history ≡ does.begun.ledger.history) × (v.promised ≡ does.begun.ledger.promised)
  ledger-was = held-ledger s w i.numbering.tag l.number does.begun.ledger (ag.cells.1.0 ∙ does.begun.was)

  number : row.no ≡ length h
  number = does.number ∙ ap length (sym ledger-was.0)

  -- Parts.

  told : Told s v g (e ∷ h)
  told = told-here s w g e refl (λ a of balance is. refl) i

  out : (r : ℕ) (x : Row) → Some its ≡ doing r (work_is.Insert x false) → (g.placed r ≡ false) × NobodyAt v.ways r
  out r x is =
      let of : row.no ≡ r = ap (λ (c : Option Command). option_map_or (λ (k : Command). k.of) c 0) is in
      subst (λ (p : ℕ). (g.placed p ≡ false) × NobodyAt v.ways p) (sym number ∙ of) (new-row-out h g.placed (older-rows s h i.placing), nobody-at-new s h i.inserting)

  telling-now : Telling s (e ∷ h) v2.commands v.jobs v.roles v2.seen g.placed
  telling-now = telling-begins s e h n v.commands v2.commands v.jobs v.jobs v.roles v.seen v2.seen g.placed
      (record {
        others = λ a ne. (begin.elsewhere a ne, refl, ap (λ (x : ActorValue). x.seen) (actor-off w.actors n b a ne));
        all_seen = ap (λ (x : ActorValue). x.seen) actor-now ∙ pushed.all_seen ∙ ap length pushed.history_is;
      })
      (KeepsRight-begun (site_in s) g.placed h (w.actors n).number does.server row i.telling.right number) i.telling
      (ap Some (i.numbering.number n)) does.free.command
      (λ c has. let it : its ≡ c = (let both : ◌≡◌ {A = Option Command} (Some its) (Some c) = sym begin.is_there ∙ has in cc) in
      subst (λ (x : Command). (x.of ≡ length h) × IsProgress s (e ∷ h) x.of x.work (v.jobs n) (v.roles n)) it
      (number, (does.server, does.role, ap (insert_at (e ∷ h)) number ∙ new-told insert_in e h, refl)))
      (inr (its, begin.is_there))
      (λ insert is. let it : record { server = does.server; row = row } ≡ insert = cc in
      subst (λ (x : Insert). IsRowOf s.hierarchy x.row × (x.server < s.servers)) it (does.valid, books.0))
      (λ q is. let never : ◌≡◌ {A = Option Query} None (Some q) = is in cc)

  owing-now : Owing s (e ∷ h) v2.promised v2.images v.desks v.roles v2.commands v.counted_in
  owing-now = record {
    promises = promises-now (actor_count s) n there v.commands v2.commands None (Some its) begin v.promised v2.promised 2 1 pushed.promised_is refl i.owing.promises;
    few = few-pushed does.begun h v.promised v2.promised ledger-was.0 ledger-was.1 pushed.promised_is few;
    image = λ x lt. owed-insert (actor_count s) n there v.commands v2.commands None (Some its) begin v.roles does.server does.role v.images u.images does.image image_now books.1 (omega arith) x (i.owing.image x lt);
    sessions = i.owing.sessions;
  }

  abbrev owed : ℕ → ℕ
  owed = λ x. (u.images x).owed

  pub holds : InvWith s v2 g
  holds = record {
    numbering = begun-numbering n its v.commands v2.commands begin s v.tags v.numbers v.roles v.settings v.counted_in v.purses v.taken v.jobs there i.numbering;
    telling = telling-now;
    owing = owing-now;
    turning = i.turning;
    stocking = i.stocking;
    stamping = i.stamping;
    lineage = told.lineage;
    leading = owed-leading v.images owed s v.maps v.desks i.leading;
    growing = told.growing;
    queueing = told.queueing;
    resting = told.resting;
    placing = begun-placing n its v.commands v2.commands begin s (e ∷ h) v.ways v.queues g.gate g.shape g.placed g.home g.path told.placing;
    inserting = owed-inserting v.images owed s (e ∷ h) v.desks v2.commands v.ways g.placed g.path
        (begun-inserting n its v.commands v2.commands begin s (e ∷ h) v.images v.desks v.ways g.placed g.path out told.inserting);
    imaging = owed-imaging v.images owed s (e ∷ h) (row_at (e ∷ h)) g.placed told.imaging;
    covering = owed-covering v.images owed s (e ∷ h) (row_at (e ∷ h)) v.registry g.placed g.home g.path told.covering;
    desking = begun-desking n its v.commands v2.commands begin s (e ∷ h) v.desks v.roles v.taken refl told.desking;
    pinning = i.pinning;
    querying = told.querying;
    working = begun-working n its v.commands v2.commands begin s (e ∷ h) v.blocks v.made v.trees v.phases v.active v.queues v.purses v.jobs g.gate g.shape g.placed does.free.job told.working;
    balancing = begun-balancing n its v.commands v2.commands begin s (e ∷ h) v.jobs g.placed g.home (λ b is. cc) told.balancing;
    reusing = i.reusing;
  }

  -- What is left.

  others : (a : ℕ) → a ≢ n → w2.actors a ≡ w.actors a
  others a ne = actor-off w.actors n b a ne

  stay : ShardsStay s.workers e h
  stay = (quiet s.hierarchy s.workers e h refl).shards

  begins : BringsWork s (left s w g) (left s w2 g) h u.history
  begins =
      let control = control-changed s w w2 g n v2 same others (inl there) refl refl in
      let gates = gates-changed s w w2 g n v2 same others (inl there) e h refl refl stay refl in
      let rows = rows-changed s w w2 g n v2 same others (inl there) in
      let no_control : of_work (control_of s) (w.actors n).command ≡ 0 = ap (of_work (control_of s)) does.free.command in
      let control_now : of_work (control_of s) (w2.actors n).command ≡ 0 = ap (of_work (control_of s)) begin.is_there in
      let no_gates : of_work (gates_of_work h) (w.actors n).command ≡ 0 = ap (of_work (gates_of_work h)) does.free.command in
      let gates_now : of_work (gates_of_work h) (w2.actors n).command ≡ per_gate * farthest h + 1 = ap (of_work (gates_of_work h)) begin.is_there in
      let job = ap (λ (x : ActorValue). job_left s v x.job) actor-now in
      let errand = ap (λ (x : ActorValue). gates_of_errand s h x.errand) actor-now in
      let row_parts = ap (rows_at g) actor-now in
      let same_control : (left s w2 g).control ≡ (left s w g).control = omega (arith, control, no_control, control_now, job) in
      record {
        e = e;
        begun = refl;
        grown = pushed.history_is;
        control = no-more (left s w2 g).control (left s w g).control _ same_control;
        gates = omega (arith, gates, no_gates, gates_now, errand);
        rows = omega (arith, rows, row_parts);
      }

  pub begin-kept : IsKept s kind.BeginInsert n w w2 g
  begin-kept = record {
    step = record { changes = cs; actor = b; agrees = ag; does = does; sight = tt; now_is = refl };
    ghost_now = g;
    holds = subst (λ (z : View). InvWith s z g) (sym same) holds;
    newer = e ∷ [];
    grows = pushed.history_is;
    goes_on = inr (inl begins);
  }

pub begin-keeps : (hierarchy : List Dimension) (im l : Change) (a b : ActorValue) (does : DoesBeginInsert hierarchy im l a b) → IsFew does.begun → Keeps hierarchy kind.BeginInsert (im ∷ l ∷ []) a b does
begin-keeps hierarchy im l a b does few s w n g i_same i ag sight =
    let here : (d : DoesBeginInsert hierarchy im l (w.actors n) b) × IsFew d.begun = subst (λ (z : ActorValue). (d : DoesBeginInsert hierarchy im l z b) × IsFew d.begun) (sym ag.actor_is) (does, few) in
    let there : (d : DoesBeginInsert s.hierarchy im l (w.actors n) b) × IsFew d.begun = subst (λ (hs : List Dimension). (d : DoesBeginInsert hs im l (w.actors n) b) × IsFew d.begun) (sym i_same) here in
    begin-kept im l b s w n g i (record { cells = ag.cells; actor_is = refl; free = λ x ne. ag.free x ne }) there.0 there.1

-- the kind was done
pub begin-makes : (hs : List Dimension) (image_at ledger_at : ℕ) (at : Coord) (image ledger : CellValue) (a : ActorValue) → CanBeginInsert hs at image ledger a
    → (server : ℕ) (iv : ImageValue) → image ≡ ImageCell server iv → (lv : LedgerValue) → ledger ≡ LedgerCell lv
    → (iv2 : ImageValue) (lv2 : LedgerValue) (row : Row) → row.no ≡ length lv.history → row.at ≡ at → OpensInsert (Begun a.number server row) iv iv2 lv lv2
    → (seen : ℕ) → seen ≡ length lv2.history
    → Makes hs kind.BeginInsert (change image_at image (ImageCell server iv2) ∷ change ledger_at ledger (LedgerCell lv2) ∷ []) a (record a { command = doing row.no (work_is.Insert row false); seen = seen })
begin-makes hs image_at ledger_at at image ledger a due server iv image_is lv ledger_is iv2 lv2 row number coord opens seen all_seen =
    let servers : server ≡ due.server = (let tags : ImageOf server ≡ ImageOf due.server = sym (ap tag_of image_is) ∙ due.image_is in cc) in
    let b : ActorValue = record a { command = doing row.no (work_is.Insert row false); seen = seen } in
    let does : DoesBeginInsert hs (change image_at image (ImageCell server iv2)) (change ledger_at ledger (LedgerCell lv2)) a b = record {
      free = due.free;
      server = server;
      role = due.role ∙ ap Session (sym servers);
      row = row;
      valid = subst (IsCoordOf hs) (sym coord) due.coord;
      image = iv;
      owes_more = record { was = image_is; is = ap (ImageCell server) opens.owes };
      begun = record { ledger = lv; ledger_now = lv2; was = ledger_is; is = refl; history = opens.notes.history; promised = opens.notes.promised; all_seen = all_seen };
      number = number;
      actor_is = refl;
    } in
    record { does = does; keeps = begin-keeps hs _ _ a b does opens.notes.few }
