-- What a step of a called command makes of the history, and of its actor, at the seat that has all actors.
use Rattle.std.proofs.Common.{◌≡◌, ◌∙◌, ℕ, ◌+◌, ◌<◌, ◌≤◌, true, false, List, [], ◌∷◌, length, Option, Some, None, Result, refl, sym, ap, subst, arith}
use Rattle.std.specs.Prelude.{OnErr, OnOk}
use mathlib.Core.Option.{none}
use Rattle.call_steps.proofs.CallsMade.{IsBegunBy, IsToldOf, begun-by, same-work}
use Rattle.call_steps.proofs.OpenCalls.{extends-length}
use Rattle.call_steps.specs.Calls.{CanCall, CanEndCall}
use Rattle.call_steps.specs.core_due.proofs.{BooksHeld.hold-ledger, Holding.prepared}
use Rattle.core_pages.specs.core_image.specs.{NotesDue.{CanNoteShown}, Told.{open_of}, ToldPages.{began_at}}
use Rattle.call_steps.specs.core_steps.specs.{Notes.{note_asks, note_kind, note_places, note_tells}, Places.{one_at, two_at}}
use Rattle.call_steps.specs.core_steps.specs.declared.notes.NoteStep.TheVariants as note
use Rattle.dim_hierarchy.specs.Dimension.{Dimension}
use Rattle.list_words.proofs.Elements.{Some-same}
use Rattle.row_ledger.specs.{Classes.class_of, Right.Asks, declared.class.{Class.Class, Subject.Subject}, declared.event.Event.Event, declared.page.Page.Page, declared.settings.{Call.Call, How.How}}
use Rattle.row_ledger.specs.declared.event.Event.TheVariants as event
use Rattle.call_steps.specs.seat_steps.proofs.{HeldLedger.{changed, does-held, history_in, newest, pushed, tells-held}, Since.{extends-on, map-err, map-ok, nothing-new}, WithLedger.due-still}
use Rattle.call_steps.specs.session_steps.proofs.CommandsMade.{unknown-noted}
use Rattle.call_steps.specs.seat_steps.specs.{Booked.IsDue, declared.floor.{Floor.Floor, Player.Player}}
use Rattle.server_image.specs.Registry.{RegistryValue}
use Rattle.turn_table.specs.{Numbered.{value_of}, Seat.{SeatValue}}
use Rattle.core_pages.specs.volap_cell.specs.{Cells.CellValue, Commands.{once_shown, server_of}, ImageKinds.{DoesNote, DoesNoteWith, IsBegun, IsFree, NotesCalled, NotesEnded, NotesShown, OfCalled, OfCalledAsking, OfCount, OfEnded, OfLeft, OfQuery, OfRefused, OfShown, OfUnknown, OfUnrouted, doing}, Setting.{Setting, ledger_cell, registry_cell}, Values.{ActorValue, actor_of}, World.{Change, World}, declared.actor.Actor.Actor, declared.cell.Cell.Cell, declared.command.{Command.Command, Work.Work}, declared.kind.Kind.Kind}
use Rattle.core_pages.specs.volap_cell.specs.declared.command.Work.TheVariants as work_is
use Rattle.core_pages.specs.volap_cell.specs.declared.kind.Kind.TheVariants as kind
use Rattle.whole_steps.proofs.{Adding.takes-turn, Alone.{around, sole-on}, Turned.knows-on}
use Rattle.whole_steps.specs.{Commands.{CanShow, HasCalledSole, HasEndedSole, HasShownSole, IsAtPage}, Done.HasNotedUnknown, Seats.{HasEveryone, HasTurned, TakesCell}, Sole.{HasAdded, HasMadeSole, HasWaited, IsDueSole, IsSameBut, IsSole, player}}

-- What is asked.

-- what is due of every state around is due of those in which the seat may be
pub due-sole : (f : Floor) (p : Player) (row : List (Option ℕ)) {Asks : List Dimension → List (Option CellValue) → ActorValue → Type 0} → IsDue f p row Asks → IsDueSole f p row Asks
due-sole f p row due = record { prepared = λ s w is. due.prepared s w is.around }

-- so it is when a first cell was taken
pub due-before : {cell rank : ℕ} (f : Floor) (n : ℕ) (a : Actor) (was mid : SeatValue Cell Actor Event) (row : List (Option ℕ)) {Asks : List Dimension → List (Option CellValue) → ActorValue → Type 0} → TakesCell cell rank was mid
    → value_of was.view.held ledger_cell ≡ none → IsDue f (player n a was) row Asks → IsDue f (player n a mid) row Asks
due-before {cell} {rank} f n a was mid row took off due = due-still f row (takes-turn cell rank n a was mid took) off due

-- with a call nothing else was added
pub began-with : {h : List Dimension} {call : Call} {p : Player} (at : IsAtPage h call p) → length p.seat.view.seen ≡ length at.older + 1
began-with at = (let all = ap (λ (l : List Event). length l) at.newest in omega (arith, all))

-- a page is shown in every state that the seat may be in
pub show-due : (f : Floor) (p : Player) (shown : Page) → IsSole f p → CanShow f shown p → IsDueSole f p (note_places (note.Shown shown)) (note_asks (note.Shown shown))
show-due f p shown sole can = record {
  prepared = λ s w is.
      let at = is.around in
      let asked : CanNoteShown shown (w.cells ledger_cell) (w.actors p.number) = record {
        of = length can.due.older;
        work = work_is.Page can.due.subject true false;
        command = ap (λ (a : ActorValue). a.command) at.actor ∙ can.due.command;
        shows = subst (λ (c : Class). Asks c shown) can.due.asks can.asked;
        next = ap (λ (l : List Event). length l) (is.history (can.knows ledger_cell (ledger-low _ _ _ _ at.cells))) ∙ began-with can.due;
        ledger_is = at.inv.holds.numbering.tag ledger_cell;
      } in
      prepared s w at.inv p.number (one_at ledger_cell) (note_asks (note.Shown shown) s.hierarchy) at.there (hold-ledger s w at.inv p.number) asked;
}
  where
    ledger-low : (servers workers stock cells : ℕ) → 3 + servers + servers + workers + stock ≡ cells → 0 < cells
    ledger-low servers workers stock cells all = omega arith

-- The notes of an actor that does nothing.

-- a command is there or isn't
no-command : {A : Type 0} (of : ℕ) (work : Work) (command : Option Command) → command ≡ None → command ≡ doing of work → A
no-command of work command empty is = (let never : ◌≡◌ {A = Option Command} None (doing of work) = sym empty ∙ is in absurd (cc))

module _ (l : Change) (a b : ActorValue) (free : IsFree a) where
  -- with the event of a call its beginning is noted
  called-note : (call : Call) → history_in l.now ≡ event.Called a.number call ∷ history_in l.before → DoesNote l a b → (registry : RegistryValue) × NotesCalled registry false l a b
  called-note call told (OfCalled registry n) = (registry, n)
  called-note call told (OfUnknown n) = (let q = sym told ∙ (pushed n.pushed).0 in absurd (cc))
  called-note call told (OfRefused n) = (let q = sym told ∙ (pushed n.pushed).0 in absurd (cc))
  called-note call told (OfLeft n) = no-command n.of (work_is.Balance n.balance) a.command free.command n.command
  called-note call told (OfShown page n) = no-command n.of n.work a.command free.command n.command
  called-note call told (OfEnded n) = no-command n.of n.work a.command free.command n.command
  called-note call told (OfCount n) = (let never : [] ≡ event.Called a.number call ∷ history_in l.before = sym (ap history_in n.turns.is) ∙ told in absurd (cc))

  -- so is it with the registry
  asking-note : (c : Change) → DoesNoteWith c l a b → (registry : RegistryValue) × NotesCalled registry true l a b
  asking-note c (OfCalledAsking registry asked n) = (registry, n)
  asking-note c (OfUnrouted x) = no-command x.of (work_is.Insert x.row false) a.command free.command x.command
  asking-note c (OfQuery x) = no-command x.of work_is.Query a.command free.command x.command

-- A step with the ledger.

module _ {f : Floor} {kind : Kind} {See : Setting → World → ℕ → Type 0} {Tells : ActorValue → (was now : List (Option CellValue)) → Type 0} {row : List (Option ℕ)} {was now : Player} (has : HasMadeSole f kind See Tells row was now) where
  -- it adds this event
  abbrev pub added : (e : Event) → now.seat.view.seen ≡ e ∷ (has.mid).seat.view.seen → HasAdded f e was now
  added e is = record {
    stands = has.stands;
    same = has.same;
    knows = has.knows;
    older = (has.mid).seat.view.seen;
    behind = has.turned.seen;
    exact = has.turned.exact;
    now_is = is;
    noted = has.noted;
  }

  pub mid-actor : actor_of (has.mid).actor ≡ actor_of was.actor
  mid-actor = ap actor_of has.actor

-- an actor's number is that of its place
pub numbered : (f : Floor) (p : Player) → IsSole f p → (actor_of p.actor).number ≡ p.number
numbered f p sole = (let is = around f p sole in ap (λ (a : ActorValue). a.number) (sym is.actor) ∙ is.inv.holds.numbering.number p.number)

-- Beginnings.

module _ {f : Floor} {See : Setting → World → ℕ → Type 0} {Tells : ActorValue → (was now : List (Option CellValue)) → Type 0} {was now : Player} (sole : IsSole f was) (call : Call) (can : CanCall f call was) where
  has-called : {kind : Kind} {row : List (Option ℕ)} (has : HasMadeSole f kind See Tells row was now) → IsBegunBy call has.mid now → HasCalledSole f call was now
  has-called has b =
      let me = mid-actor has in
      let number : (actor_of (has.mid).actor).number ≡ was.number = ap (λ (a : ActorValue). a.number) me ∙ numbered f was sole in
      record {
        added = added has (event.Called was.number call) (b.pushes ∙ ap (λ (n : ℕ). event.Called n call ∷ (has.mid).seat.view.seen) number);
        work = b.work;
        job = b.job;
        begins = (b.registry, subst (λ (n : ℕ). IsBegun n b.registry (class_of call) b.work b.job) (ap (λ (a : ActorValue). a.setting.workers) me ∙ sole.workers) b.begun);
        actor = b.actor ∙ ap (λ (a : ActorValue). record a { command = doing (length (has.mid).seat.view.seen) b.work; job = b.job; seen = length now.seat.view.seen }) me;
      }

  pub alone-called : (has : HasMadeSole f kind.Note See Tells (one_at ledger_cell) was now) → IsToldOf call has.mid (has.made).new → HasCalledSole f call was now
  alone-called has told =
      let free = subst IsFree (sym (mid-actor has)) can.free in
      let n = called-note (changed (has.mid).seat.view.held (has.made).new ledger_cell) (actor_of (has.mid).actor) (actor_of now.actor) free call told (does-held has.made has.at) in
      has-called has (begun-by has.made has.whole (has.at).there.0 call told n.0 false n.1)

  pub asking-called : (has : HasMadeSole f kind.Note See Tells (two_at registry_cell ledger_cell) was now) → IsToldOf call has.mid (has.made).new → HasCalledSole f call was now
  asking-called has told =
      let free = subst IsFree (sym (mid-actor has)) can.free in
      let held = (has.mid).seat.view.held in
      let new = (has.made).new in
      let n = asking-note (changed held new ledger_cell) (actor_of (has.mid).actor) (actor_of now.actor) free (changed held new registry_cell) (does-held has.made has.at) in
      has-called has (begun-by has.made has.whole (has.at).there.1.0 call told n.0 true n.1)

-- A note of a command that does not begin.

pub has-noted : {f : Floor} {See : Setting → World → ℕ → Type 0} {was now : Player} (dim : ℕ) → IsSole f was → IsFree (actor_of was.actor) → (actor_of was.actor).seen ≤ length was.seat.view.seen
    → HasMadeSole f (note_kind (note.Unknown dim)) See (note_tells (note.Unknown dim)) (note_places (note.Unknown dim)) was now → HasNotedUnknown f dim was now
has-noted {f} {See} {was} {now} dim sole free seen has =
    let me = mid-actor has in
    let number : (actor_of (has.mid).actor).number ≡ was.number = ap (λ (a : ActorValue). a.number) me ∙ numbered f was sole in
    let both = unknown-noted has.whole dim (subst IsFree (sym me) free) has.at has.made in
    let actor : actor_of now.actor ≡ record (actor_of was.actor) { seen = length now.seat.view.seen } = both.1 ∙ ap (λ (a : ActorValue). record a { seen = length now.seat.view.seen }) me in
    let last = ap (λ (a : ActorValue). a.seen) actor in
    record {
      done = record {
        stands = has.stands;
        same = has.same;
        actor = actor ∙ (λ i. record (actor_of was.actor) { seen = sym last i });
        noted = omega (arith, last);
      };
      older = (has.mid).seat.view.seen;
      since = has.turned.seen;
      only = nothing-new was.number (actor_of was.actor).seen (has.mid).seat.view.seen was.seat.view.seen has.turned.seen has.noted seen;
      seen = both.0 ∙ (λ i. event.Unknown (number i) (server_of (me i).role) dim ∷ (has.mid).seat.view.seen);
    }

-- What it comes to where turns were taken before.

module _ (f : Floor) (n : ℕ) (a b : Actor) (was mid now : SeatValue Cell Actor Event) where
  pub but-before : HasTurned was mid → IsSameBut (player n a mid) (player n b now) → IsSameBut (player n a was) (player n b now)
  but-before turned same = record {
    number = refl;
    seat_number = same.seat_number ∙ turned.number;
    actor_count = same.actor_count ∙ turned.actor_count;
    others = λ j ne. same.others j ne ∙ ap (λ (l : List (ℕ × Actor)). value_of l j) turned.actors;
    setting = same.setting;
    knows = λ k known. same.knows k (knows-on turned k known);
  }

  abbrev pub added-before : {e : Event} → HasTurned was mid → HasAdded f e (player n a mid) (player n b now) → HasAdded f e (player n a was) (player n b now)
  added-before turned has = record {
    stands = has.stands;
    same = but-before turned has.same;
    knows = has.knows;
    older = has.older;
    behind = extends-on has.older mid.view.seen was.view.seen has.behind turned.seen;
    exact = λ k. has.exact (knows-on turned ledger_cell k) ∙ turned.exact k;
    now_is = has.now_is;
    noted = has.noted;
  }

  pub called-before : {cell rank : ℕ} {See : Setting → World → ℕ → Type 0} {Tells : ActorValue → (was now : List (Option CellValue)) → Type 0} {T E : Type 0} → IsSole f (player n a was) → HasEveryone f.table mid → TakesCell cell rank was mid → (call : Call) → CanCall f call (player n a was)
      → (r : Result T E) → ((has : HasMadeSole f kind.Note See Tells (two_at registry_cell ledger_cell) (player n a mid) (player n b now)) → IsToldOf call has.mid (has.made).new)
      → OnOk r (HasMadeSole f kind.Note See Tells (two_at registry_cell ledger_cell) (player n a mid) (player n b now)) → OnOk r (HasCalledSole f call (player n a was) (player n b now))
  called-before sole everyone took call can r told made =
      map-ok r (λ has.
      let seen = extends-length was.view.seen mid.view.seen took.turned.seen in
      let noted = can.noted in
      let c = asking-called (sole-on f (player n a was) mid sole took.turned everyone) call (record { free = can.free; allowed = can.allowed; server = can.server; valid = can.valid; noted = omega arith }) has (told has) in
      record { added = added-before took.turned c.added; work = c.work; job = c.job; begins = c.begins; actor = c.actor })
      made

  pub waited-before : {T E : Type 0} → HasTurned was mid → (r : Result T E) → OnErr r (HasWaited f (player n a mid) (player n b now)) → OnErr r (HasWaited f (player n a was) (player n b now))
  waited-before turned r waited = map-err r (λ w. record {
    stands = w.stands;
    same = but-before turned w.same;
    knows = w.knows;
    actor = w.actor;
    seen = extends-on now.view.seen mid.view.seen was.view.seen w.seen turned.seen;
    exact = λ k. w.exact (knows-on turned ledger_cell k) ∙ turned.exact k;
    noted = w.noted;
  }) waited

-- Pages.

-- with the event of a page it is noted that the page is shown
shown-note : (l : Change) (a b : ActorValue) (of : ℕ) (p : Page) → history_in l.now ≡ event.Shown of p ∷ history_in l.before → DoesNote l a b → NotesShown p l a b
shown-note l a b of p told (OfShown page n) = (let q = sym (pushed n.shown).0 ∙ told in let same : page ≡ p = cc in subst (λ (x : Page). NotesShown x l a b) same n)
shown-note l a b of p told (OfUnknown n) = (let q = sym told ∙ (pushed n.pushed).0 in absurd (cc))
shown-note l a b of p told (OfRefused n) = (let q = sym told ∙ (pushed n.pushed).0 in absurd (cc))
shown-note l a b of p told (OfCalled registry n) = (let q = sym told ∙ (pushed n.pushed).0 in absurd (cc))
shown-note l a b of p told (OfLeft n) = (let q = sym told ∙ (pushed n.left).0 in absurd (cc))
shown-note l a b of p told (OfEnded n) = (let q = sym told ∙ (pushed n.ended).0 in absurd (cc))
shown-note l a b of p told (OfCount n) = (let never : [] ≡ event.Shown of p ∷ history_in l.before = sym (ap history_in n.turns.is) ∙ told in absurd (cc))

-- and the command is as it is once its page is shown
shown-work : (subject : Subject) (work work_now : Work) → work ≡ work_is.Page subject true false → once_shown work ≡ Some work_now → work_now ≡ work_is.Page subject true true
shown-work subject work work_now is once = Some-same (work_is.Page subject true true) work_now (sym (ap once_shown is) ∙ once)

place-same : (of of_too : ℕ) (work work_too : Work) (command : Option Command) → command ≡ doing of work → command ≡ doing of_too work_too → of_too ≡ of
place-same of of_too work work_too command is is_too = ap (λ (c : Command). c.of) (sym (Some-same (record { of = of_too; work = work_too }) (record { of = of; work = work }) (sym is_too ∙ is)))

-- with the event of an end it is noted that the command ends so
ended-note : (l : Change) (a b : ActorValue) (of : ℕ) (h : How) → history_in l.now ≡ event.Ended of h ∷ history_in l.before → DoesNote l a b → (n : NotesEnded l a b) × (n.how_it_ends ≡ h)
ended-note l a b of h told (OfEnded n) = (n, (let q = sym (pushed n.ended).0 ∙ told in cc))
ended-note l a b of h told (OfUnknown n) = (let q = sym told ∙ (pushed n.pushed).0 in absurd (cc))
ended-note l a b of h told (OfRefused n) = (let q = sym told ∙ (pushed n.pushed).0 in absurd (cc))
ended-note l a b of h told (OfCalled registry n) = (let q = sym told ∙ (pushed n.pushed).0 in absurd (cc))
ended-note l a b of h told (OfLeft n) = (let q = sym told ∙ (pushed n.left).0 in absurd (cc))
ended-note l a b of h told (OfShown page n) = (let q = sym told ∙ (pushed n.shown).0 in absurd (cc))
ended-note l a b of h told (OfCount n) = (let never : [] ≡ event.Ended of h ∷ history_in l.before = sym (ap history_in n.turns.is) ∙ told in absurd (cc))

module _ {f : Floor} {See : Setting → World → ℕ → Type 0} {was now : Player} where
  pub has-shown : (shown : Page) {h : List Dimension} {call : Call} (at : IsAtPage h call was) → HasMadeSole f (note_kind (note.Shown shown)) See (note_tells (note.Shown shown)) (note_places (note.Shown shown)) was now → HasShownSole f shown was now
  has-shown shown at has =
      let me = mid-actor has in
      let there = (has.at).there.0 in
      let l = changed (has.mid).seat.view.held (has.made).new ledger_cell in
      let does : DoesNote l (actor_of was.actor) (actor_of now.actor) = subst (λ (a : ActorValue). DoesNote l a (actor_of now.actor)) me (does-held has.made has.at) in
      let n = shown-note l (actor_of was.actor) (actor_of now.actor) (began_at (actor_of (has.mid).actor).command) shown (tells-held has.made has.at) does in
      let e = newest has.made has.whole there n.shown in
      let place = place-same (length at.older) n.of (work_is.Page at.subject true false) n.work (actor_of was.actor).command at.command n.command in
      let work = same-work n.of (length at.older) n.work (work_is.Page at.subject true false) (actor_of was.actor).command n.command at.command in
      record {
        of = length at.older;
        subject = at.subject;
        command = at.command;
        added = added has (event.Shown (length at.older) shown) (e.0 ∙ ap (λ (k : ℕ). event.Shown k shown ∷ (has.mid).seat.view.seen) place);
        actor = n.actor_is ∙ (λ k. record (actor_of was.actor) { command = doing (place k) (shown-work at.subject n.work n.work_now work n.once k); seen = e.1 k });
      }

  -- Ends.

  pub has-ended : (h : How) (can : CanEndCall f h was) → HasMadeSole f (note_kind (note.Ended h)) See (note_tells (note.Ended h)) (note_places (note.Ended h)) was now → HasEndedSole f h was now
  has-ended h can has =
      let me = mid-actor has in
      let there = (has.at).there.0 in
      let l = changed (has.mid).seat.view.held (has.made).new ledger_cell in
      let does : DoesNote l (actor_of was.actor) (actor_of now.actor) = subst (λ (a : ActorValue). DoesNote l a (actor_of now.actor)) me (does-held has.made has.at) in
      let n = ended-note l (actor_of was.actor) (actor_of now.actor) (open_of (actor_of (has.mid).actor)) h (tells-held has.made has.at) does in
      let e = newest has.made has.whole there (n.0).ended in
      record {
        of = (n.0).of;
        work = (n.0).work;
        command = (n.0).command;
        added = added has (event.Ended (n.0).of h) (e.0 ∙ (λ k. event.Ended (n.0).of (n.1 k) ∷ (has.mid).seat.view.seen));
        actor = (n.0).actor_is ∙ (λ k. record (actor_of was.actor) { command = None; job = None; seen = e.1 k });
      }
