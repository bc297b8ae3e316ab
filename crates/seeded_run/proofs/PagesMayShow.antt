-- Where the page of a command is due, it can be made and shown: everyone else is idle, and a shard that stands has its gate where the table of
-- its worker leads. It is so of whatever state the vectors are.
use Rattle.std.proofs.{Common.{ℕ, ◌≡◌, ◌≢◌, ◌+◌, ◌<◌, Bool, true, false, eqb, List, [], ◌∷◌, length, Option, Some, None, get_or, inl, inr, refl, sym, ap, ◌∙◌, subst, arith}, lemmas.Bool.{cases_lt, eqb-false, eqb-true}}
use Rattle.std.specs.{List.list_any, Prelude.{⊤, IsSome}}
use Rattle.core_due.proofs.{BooksHeld.hold-ledger, Holding.{prepared, there}, InStates.{cells-seen, counted, may-make}, WorksAsked.{shown-alone, work-asked}}
use Rattle.core_due.specs.{Look.{cells_only, setting_by, world_by}, Ready.IsStateOf, WorkLaws.IsAtWork, Works.work_due, WorksReady.{AreBytes, IsNoteAsked, IsShowing}, declared.works.WorkDue.WorkDue}
use Rattle.core_due.specs.declared.works.WorkDue.TheVariants as work_due_is
use Rattle.core_pages.specs.core_image.proofs.{EachStep.NotesShown.{IsNewest, newest-call}, Images.Hosts.{host-on, stands-live}}
use Rattle.core_pages.specs.core_image.specs.NotesDue.{Shows as IsPageOf}
use Rattle.core_pages.proofs.LookedAt.{has-cells, seen-of, valid-of, world-of}
use Rattle.core_pages.specs.{Looks.IsSeenOf, Seen.{CanSee, CanSeeIn, IsOfGate, IsQuietIn}}
use Rattle.core_due.specs.core_steps.specs.Notes.{note_asks, note_places}
use Rattle.core_due.specs.core_steps.specs.declared.notes.NoteStep.TheVariants as note
use Rattle.dim_hierarchy.specs.{Dimension.Dimension, declared.filter.Pick.Pick}
use Rattle.list_words.proofs.{Elements.Some-same, Truth.on_bool}
use Rattle.mapping_table.specs.declared.place.Where.TheVariants as where_is
use Rattle.row_ledger.proofs.Positions.{before-here}
use Rattle.row_ledger.specs.declared.class.Class.TheVariants as class
use Rattle.row_ledger.specs.{Classes.class_of, Groups.{IsQuestion, question}, Past.{before, call_at, call_in, newest}, Right.{EachEvent, Stands}, Shards.{Place, frontier, is_live, is_of, places_after}, Workers.is_on, declared.class.Subject.Subject, declared.event.Event.Event, declared.event.Event.TheVariants.Called, declared.page.Page.Page, declared.page.TreePage.TreePage, declared.settings.Call.Call, declared.settings.Call.TheVariants.{Sync, Split, Move, Balance, Barrier, Settle, Shards, Tree, Audit, Group}, declared.settings.Use.Use}
use Rattle.row_ledger.specs.declared.class.Subject.TheVariants as subject
use Rattle.row_ledger.specs.declared.page.Page.TheVariants as page
use Rattle.server_image.specs.Registry.{host_of}
use Rattle.core_pages.specs.volap_cell.proofs.{Cells.States.{of-it, stands}, OneEvent.Noted.new-told}
use Rattle.core_pages.specs.volap_cell.specs.{Cells.{CellValue, gate_shard, ledger_in, phase_of}, Ghost.Ghost, Invariant.InvWith, Opening.IsFresh, Setting.{Setting, actor_count, cell_count, ledger_cell, site_in}, Sights.{HasGroups, IsIdle, SeesPage}, State.IsWorldOf, Steps.{Inv, history_in}, Values.{ActorValue, actor_of}, View.view, World.World, declared.command.Work.Work, declared.state.State.State}
use Rattle.core_pages.specs.volap_cell.specs.declared.command.Work.TheVariants as work_is
use Rattle.core_pages.specs.shard_store.specs.declared.gate.Phase.TheVariants.{Gone}
use Rattle.seeded_run.specs.{Drives.MayShow, Pages.{CanShow, MayTell, Shows, ShowsGroups, ShowsTree, place_at, place_of, seen}}

-- Right behind a call that begins, the shards stand that stood before it.

called-keeps : (e : Event) (c : Call) (places : List Place) → call_in e ≡ Some c → places_after places e ≡ places
called-keeps (Called session d) c places is = refl
called-keeps _ c places is = absurd (let never : ◌≡◌ {A = Option Call} None (Some c) = is in cc)

live-now : (workers : ℕ) (h : List Event) (of shard : ℕ) (c : Call) → length h ≡ of + 1 → call_at h of ≡ Some c → is_live workers h shard ≡ is_live workers (before h of) shard
live-now workers [] of shard c long is = absurd (omega (arith, long))
live-now workers (e ∷ past) of shard c long is =
    let at : length past ≡ of = omega (arith, long) in
    let told : call_in e ≡ Some c = sym (new-told call_in e past) ∙ ap (call_at (e ∷ past)) at ∙ is in
    ap (list_any (is_of shard)) (called-keeps e c (frontier workers past) told) ∙ ap (λ (xs : List Event). is_live workers xs shard) (sym (before-here e past) ∙ ap (before (e ∷ past)) at)

-- Being alone.

-- everyone else is idle, and the actor is at no part
record IsAlone (w : World) (n : ℕ) : Type 0 where
  pub idle : (a : ℕ) → a ≢ n → IsIdle (w.actors a)
  pub free : (w.actors n).errand ≡ None

quiet : (w : World) (n : ℕ) → IsAlone w n → (a : ℕ) → (w.actors a).errand ≡ None
quiet w n alone a = on_bool (eqb a n) (λ q. ap (λ (b : ℕ). (w.actors b).errand) (eqb-true _ _ q) ∙ alone.free) (λ q. (alone.idle a (eqb-false _ _ q)).errand)

pub fresh-idle : (s : Setting) (a : ℕ) (x : ActorValue) → IsFresh s a x → IsIdle x
fresh-idle s a x fresh = record { command = fresh.command; errand = fresh.errand; job = fresh.job; purse = fresh.purse; counted = fresh.counted }

-- Whatever state the vectors are, it has the same cells and actors, and is about the same.
module _ (h : List Dimension) (with : Use) (state : State) (s : Setting) (w : World) (of : IsStateOf h with state s w) (n : ℕ) (lt : n < length state.actors.items) (t : Setting) (v : World) (is : IsWorldOf state.cells.items state.actors.items v) (inv : Inv t v) where
  cells-same : w.cells ≡ v.cells
  cells-same = cells-seen state.cells.items state.actors.items w of.is ∙ sym (cells-seen state.cells.items state.actors.items v is)

  actor-same : (a : ℕ) → a < length state.actors.items → w.actors a ≡ v.actors a
  actor-same a low =
      let k = stands (get_or state.actors.items a None) (λ x. actor_of x ≡ w.actors a) (of.is.actor a low) in
      sym k.2 ∙ of-it (get_or state.actors.items a None) (λ x. actor_of x ≡ v.actors a) k.0 (is.actor a low) k.1

  about-same : s ≡ t
  about-same = sym (of.inv.holds.numbering.about n) ∙ ap (λ (x : ActorValue). x.setting) (actor-same n lt) ∙ inv.holds.numbering.about n

  alone-in : IsAlone w n → IsAlone v n
  alone-in alone = record {
    idle = λ a ne. elim (cases_lt a (length state.actors.items)) [
      | inl low ↦ subst IsIdle (actor-same a low) (alone.idle a ne)
      | inr past ↦ fresh-idle (v.actors a).setting a (v.actors a) (is.no_actor a past)
    ];
    free = ap (λ (x : ActorValue). x.errand) (sym (actor-same n lt)) ∙ alone.free;
  }

-- What a page asks of the state.
module _ (h : List Dimension) (with : Use) (state : State) (s : Setting) (w : World) (is : IsStateOf h with state s w) (n : ℕ) (alone : IsAlone w n) where
  abbrev g : Ghost
  g = is.inv.ghost_of

  abbrev i : InvWith s (view s w) is.inv.ghost_of
  i = is.inv.holds

  in-state : (v : World) → IsSeenOf (seen state) v → IsWorldOf state.cells.items state.actors.items v
  in-state v looks = world-of state.cells.items state.actors.items w is.is v looks

  module _ (about : Subject) (k : IsShowing w n about) where
    lt : n < actor_count s
    lt = there s w is.inv n (record { of = k.of; work = work_is.Page about true false }) k.command

    here : n < length state.actors.items
    here = subst (λ (m : ℕ). n < m) (sym is.count) lt

    quiet-in : IsQuietIn with.servers (seen state)
    quiet-in t v looks inv = record {
      servers_are = ap (λ (x : Setting). x.servers) (sym (about-same h with state s w is n here t v (in-state v looks) inv)) ∙ is.servers;
      quiet = quiet v n (alone-in h with state s w is n here t v (in-state v looks) inv alone);
    }

    -- a page that is what the state has can be shown
    may-tell : (shown : Page) → IsPageOf (work_is.Page about true false) shown → ((t : Setting) (v : World) → t.hierarchy ≡ h → IsSeenOf (seen state) v → Inv t v → SeesPage t (view t v) shown) → MayTell h state n shown
    may-tell shown fits sees =
        let asked : IsNoteAsked s w n (note.Shown shown) = record { of = k.of; work = work_is.Page about true false; command = k.command; shows = fits; next = k.next; ledger_is = i.numbering.tag ledger_cell } in
        let may = may-make h with state s w is n (note_places (note.Shown shown)) (note_asks (note.Shown shown)) ⊤
        (prepared s w is.inv n (note_places (note.Shown shown)) (note_asks (note.Shown shown) s.hierarchy) lt (hold-ledger s w is.inv n) asked) tt in
        record {
          within = may.within;
          apart = may.apart;
          actor = may.actor;
          ready = may.ready;
          seen = λ t v same at inv. record {
            alone = (alone-in h with state s w is n here t v at inv alone).idle;
            page = sees t v same (seen-of state.cells.items state.actors.items v at) inv;
          };
        }

  -- The tree of a shard.
  module _ (shard : ℕ) (k : IsShowing w n (subject.Tree shard)) where
    live : is_live s.workers (history_in w) shard ≡ true
    live =
        let told = i.telling.progress n (record { of = k.of; work = work_is.Page (subject.Tree shard) true false }) k.command in
        live-now s.workers (history_in w) k.of shard told.0.0 k.next told.0.1 ∙ told.2

    host : (x : ℕ) × (host_of shard (view s w).registry ≡ Some x) × (is_on s.workers (history_in w) shard x ≡ true)
    host = host-on s.workers (history_in w) (view s w).registry i.lineage.front shard (stands-live s.workers (history_in w) (view s w).registry i.lineage.front shard ∙ live)

    gate-of : ((view s w).maps host.0 shard ≡ Some (where_is.Gate (g.gate shard))) × ((view s w).gates (g.gate shard) ≡ Some shard) × ((view s w).phases (g.gate shard) ≢ Some Gone)
    gate-of = i.lineage.gate_of shard host.0 host.2

    place-is : place_of (setting_by [] with) (world_by state.cells.items) shard ≡ Some (where_is.Gate (g.gate shard))
    place-is =
        ap (λ (f : ℕ → CellValue). place_of (setting_by [] with) (cells_only f) shard) (sym (cells-seen state.cells.items state.actors.items w is.is))
        ∙ ap (λ (servers : ℕ). place_of (counted servers with.workers) (cells_only w.cells) shard) (sym is.servers)
        ∙ ap (place_at (counted s.servers with.workers) (cells_only w.cells) shard) host.1
        ∙ gate-of.0

    can-see : (v : World) → w.cells ≡ v.cells → ((a : ℕ) → (v.actors a).errand ≡ None) → CanSee v (g.gate shard)
    can-see v same still = record {
      gate = subst (λ (f : ℕ → CellValue). IsSome (gate_shard (f (g.gate shard)))) same (subst IsSome (sym gate-of.1) refl);
      stands = subst (λ (f : ℕ → CellValue). phase_of (f (g.gate shard)) ≢ Some Gone) same gate-of.2;
      quiet = still;
    }

    can-see-in : CanSeeIn (seen state) (length state.cells.items) (g.gate shard)
    can-see-in t v looks inv =
        let low = here (subject.Tree shard) k in
        let at = in-state v looks in (
          ap cell_count (sym (about-same h with state s w is n low t v at inv)) ∙ sym is.places,
          can-see v (cells-same h with state s w is n low t v at inv) (quiet v n (alone-in h with state s w is n low t v at inv alone)),
        )

    of-shard : (shown : TreePage) → IsOfGate (seen state) (g.gate shard) shown → shown.shard ≡ shard
    of-shard shown of_gate =
        let found : gate_shard (w.cells (g.gate shard)) ≡ Some shown.shard = subst (λ (f : ℕ → CellValue). gate_shard (f (g.gate shard)) ≡ Some shown.shard) (seen-of state.cells.items state.actors.items w is.is).cells of_gate in
        Some-same shard shown.shard (sym gate-of.1 ∙ found)

    shows-tree : ShowsTree h with state n shard
    shows-tree = record {
      gate = g.gate shard;
      stands = place-is;
      can_see = can-see-in;
      may_tell = λ shown looks of_gate. may-tell (subject.Tree shard) k (page.Tree shown) (of-shard shown of_gate) (λ t v same at inv. looks t v at inv);
    }

  -- The groups that a call asks for.
  module _ (k : IsShowing w n subject.Groups) where
    its-call : (c : Call) × (call_at (history_in w) k.of ≡ Some c) × (class_of c ≡ class.Page subject.Groups)
    its-call = (i.telling.progress n (record { of = k.of; work = work_is.Page subject.Groups true false }) k.command).0

    asks : (session dim level : ℕ) (filter : List Pick) (past : List Event) → history_in w ≡ Called session (Group dim level filter) ∷ past → ShowsGroups h with state n
    asks session dim level filter past is_newest = record {
      quiet = quiet-in subject.Groups k;
      count = λ t v looks inv. ap cell_count (sym (about-same h with state s w is n (here subject.Groups k) t v (in-state v looks) inv)) ∙ sym is.places;
      session = session;
      dim = dim;
      level = level;
      filter = filter;
      called = ap (λ (f : ℕ → CellValue). newest (ledger_in (f ledger_cell)).history) (sym (cells-seen state.cells.items state.actors.items w is.is)) ∙ ap newest is_newest;
      valid = subst (λ (hs : List Dimension). IsQuestion (question hs filter dim level)) is.hierarchy (subst (λ (past : List Event). EachEvent (Stands (site_in s) g.placed) past) is_newest i.telling.right.right.each).0;
      may_tell = λ shown are. may-tell subject.Groups k (page.Group shown) tt (λ t v same at inv. record {
        session = session;
        dim = dim;
        level = level;
        filter = filter;
        past = past;
        called = ap (λ (f : ℕ → CellValue). (ledger_in (f ledger_cell)).history) (sym (cells-same h with state s w is n (here subject.Groups k) t v (in-state v at) inv)) ∙ is_newest;
        has = subst (λ (hs : List Dimension). HasGroups (question hs filter dim level) t (view t v) shown) (sym same) (are t v same at inv);
      });
    }

    by-call : (c : Call) → class_of c ≡ class.Page subject.Groups → IsNewest (history_in w) k.of c → ShowsGroups h with state n
    by-call (Group dim level filter) is_class x = asks x.session dim level filter x.past x.is
    by-call (Sync server) is_class x = absurd (cc)
    by-call (Split shard) is_class x = absurd (cc)
    by-call (Move shard worker) is_class x = absurd (cc)
    by-call (Balance _) is_class x = absurd (cc)
    by-call Barrier is_class x = absurd (cc)
    by-call Settle is_class x = absurd (cc)
    by-call Shards is_class x = absurd (let same : subject.Shards ≡ subject.Groups = cc in cc)
    by-call (Tree shard) is_class x = absurd (let same : subject.Tree shard ≡ subject.Groups = cc in cc)
    by-call Audit is_class x = absurd (let same : subject.Rows ≡ subject.Groups = cc in cc)

    shows-groups : ShowsGroups h with state n
    shows-groups = by-call its-call.0 its-call.2 (newest-call (history_in w) k.of its-call.0 k.next its-call.1)

  shows : (about : Subject) → IsShowing w n about → Shows h with state n about
  shows (subject.Tree shard) k = shows-tree shard k
  shows subject.Shards k = record { quiet = quiet-in subject.Shards k; may_tell = λ lines are. may-tell subject.Shards k (page.Shards lines) tt are }
  shows subject.Rows k = record { quiet = quiet-in subject.Rows k; may_tell = λ audit is_so. may-tell subject.Rows k (page.Audit audit) tt (λ t v same at inv. is_so t v at inv) }
  shows subject.Groups k = shows-groups k

  can-show : (about : Subject) → IsShowing w n about → CanShow h with state n about
  can-show about k = record {
    valid = valid-of state.cells.items state.actors.items h (record { setting = s; hierarchy = is.hierarchy; world = w; is = is.is; inv = is.inv });
    there = has-cells state.cells.items state.actors.items w is.is;
    few = (let few = i.numbering.setting.few in omega (arith, few, is.places));
    shows = shows about k;
  }

-- So it is where the page is what is due.
module _ (h : List Dimension) (with : Use) (state : State) (s : Setting) (w : World) (n of : ℕ) (work : Work) (alone : Bool) where
  pub may-show : (due : WorkDue) → IsStateOf h with state s w → IsAtWork w n of work → AreBytes s.servers work → (alone ≡ true → (a : ℕ) → a ≢ n → IsIdle (w.actors a))
      → work_due s w (history_in w) alone (w.actors n) of work ≡ Some due → MayShow h with state n due
  may-show (work_due_is.Takes desk) is at bytes idle due = tt
  may-show (work_due_is.Books step) is at bytes idle due = tt
  may-show (work_due_is.Jobs step) is at bytes idle due = tt
  may-show (work_due_is.Splits map gate) is at bytes idle due = tt
  may-show (work_due_is.Ends how) is at bytes idle due = tt
  may-show work_due_is.Leaves is at bytes idle due = tt
  may-show (work_due_is.Shows about) is at bytes idle due =
      let k : IsShowing w n about = work-asked s w is.inv n of work at.command at.free bytes at.waits alone (work_due_is.Shows about) due in
      can-show h with state s w is n (record { idle = idle (shown-alone s w n of work (history_in w) alone about at.command k due); free = at.free }) about k
