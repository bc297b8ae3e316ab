-- What a step of a called command makes of the history that its actor has seen, and of the actor.
use Rattle.std.proofs.Common.{◌≡◌, ◌∙◌, ℕ, Bool, true, false, List, [], ◌∷◌, length, Option, Some, None, refl, sym, ap, subst}
use Rattle.call_steps.proofs.AtAction.{at-action}
use Rattle.call_steps.specs.Calls.{CanCall, CanEndCall, CanLeaveAction, CanPullFor, HasCalled, HasEndedCall, HasLeftAction, HasPulledFor, this}
use Rattle.session_steps.specs.core_image.specs.Told.{called_by, open_of}
use Rattle.session_steps.specs.core_told.proofs.Pulling.{ending-law}
use Rattle.session_steps.specs.core_steps.specs.{Books.{book_kind, book_places, book_tells}, Notes.{note_kind, note_places, note_tells}, Places.{one_at, two_at}}
use Rattle.session_steps.specs.core_steps.specs.declared.books.BookStep.TheVariants as book
use Rattle.session_steps.specs.core_steps.specs.declared.notes.NoteStep.TheVariants as note
use Rattle.dim_hierarchy.specs.Dimension.{Dimension}
use Rattle.list_words.proofs.Elements.{Some-same}
use Rattle.row_ledger.specs.{Classes.class_of, declared.event.Event.Event, declared.settings.{Call.Call, How.How}}
use Rattle.row_ledger.specs.declared.event.Event.TheVariants as event
use Rattle.script_run.specs.Runs.{HasPulls, PullsAlone}
use Rattle.session_steps.specs.seat_steps.proofs.{Around.around, HeldLedger.{HasSeenAll, PushesBy, changed, does-held, held_at, history_in, newest, pushed, seen-was, tells-held, told-by}, Since.{mid-same, pushed-since}}
use Rattle.session_steps.specs.seat_steps.specs.{Booked.{HasBooked, IsUnchanged}, Floors.IsSeated, Made.HasMade, declared.floor.{Floor.Floor, Player.Player}}
use Rattle.server_image.specs.Registry.{RegistryValue}
use Rattle.session_steps.specs.volap_cell.specs.{Cells.CellValue, Commands.{MayNoteEnd, after_action, due_pull, once_shown, pulled_once}, ImageKinds.{DoesNote, DoesNoteWith, DoesSync, IsBegun, IsFree, NotesCalled, NotesEnded, NotesLeft, OfCalled, OfCalledAsking, OfCount, OfEnded, OfLeft, OfQuery, OfRefused, OfShown, OfUnknown, OfUnrouted, doing}, Planning.next_job, Setting.{Setting, ledger_cell, registry_cell}, Values.{ActorValue, JobValue, actor_of}, World.{Change, World}, declared.cell.Cell.Cell, declared.command.{Balance.Balance, Command.Command, Work.Work}, declared.kind.Kind.Kind}
use Rattle.session_steps.specs.volap_cell.specs.Steps as steps
use Rattle.session_steps.specs.volap_cell.specs.declared.command.Work.TheVariants as work_is
use Rattle.session_steps.specs.volap_cell.specs.declared.kind.Kind.TheVariants as kind
use Rattle.session_steps.specs.volap_turns.specs.Rows.{IsThere}

-- an actor is at one command
pub same-work : (of of_too : ℕ) (work work_too : Work) (command : Option Command) → command ≡ doing of work → command ≡ doing of_too work_too → work ≡ work_too
same-work of of_too work work_too command is is_too = ap (λ (c : Command). c.work) (Some-same (record { of = of_too; work = work_too }) (record { of = of; work = work }) (sym is_too ∙ is))

-- which has none, or one
no-command : {A : Type 0} (of : ℕ) (work : Work) (command : Option Command) → command ≡ None → command ≡ doing of work → A
no-command of work command none is = (let never : ◌≡◌ {A = Option Command} None (doing of work) = sym none ∙ is in absurd (cc))

-- what is read of an actor's command
pub work-at : (p : Player) (command : Command) (of : ℕ) (work : Work) → p.actor.command ≡ Some command → (actor_of p.actor).command ≡ doing of work → command.work ≡ work
work-at p command of work read is = ap (λ (c : Command). c.work) (sym (Some-same command (record { of = of; work = work }) (sym read ∙ is)))

-- Beginnings.

module _ (l : Change) (a b : ActorValue) (free : IsFree a) where
  -- with the event of a call its beginning is noted
  pub called-note : (call : Call) → history_in l.now ≡ event.Called a.number call ∷ history_in l.before → DoesNote l a b → (registry : RegistryValue) × NotesCalled registry false l a b
  called-note call told (OfCalled registry n) = (registry, n)
  called-note call told (OfUnknown n) = (let q = sym told ∙ (pushed n.pushed).0 in absurd (cc))
  called-note call told (OfRefused n) = (let q = sym told ∙ (pushed n.pushed).0 in absurd (cc))
  called-note call told (OfLeft n) = no-command n.of (work_is.Balance n.balance) a.command free.command n.command
  called-note call told (OfShown page n) = no-command n.of n.work a.command free.command n.command
  called-note call told (OfEnded n) = no-command n.of n.work a.command free.command n.command
  called-note call told (OfCount n) = (let never : [] ≡ event.Called a.number call ∷ history_in l.before = sym (ap history_in n.turns.is) ∙ told in absurd (cc))

  -- so is it with the registry
  pub asking-note : (c : Change) → DoesNoteWith c l a b → (registry : RegistryValue) × NotesCalled registry true l a b
  asking-note c (OfCalledAsking registry asked n) = (registry, n)
  asking-note c (OfUnrouted x) = no-command x.of (work_is.Insert x.row false) a.command free.command x.command
  asking-note c (OfQuery x) = no-command x.of work_is.Query a.command free.command x.command

-- the call has begun with the newest event that is seen
pub record IsBegunBy (call : Call) (was now : Player) : Type 0 where
  pub pushes : PushesBy (called_by call) was now
  pub registry : RegistryValue
  pub work : Work
  pub job : Option JobValue
  pub begun : IsBegun (actor_of was.actor).setting.workers registry (class_of call) work job
  pub actor : actor_of now.actor ≡ record (actor_of was.actor) { command = doing (length was.seat.view.seen) work; job = job; seen = length now.seat.view.seen }

module _ {h : List Dimension} {kind : Kind} {See : Setting → World → ℕ → Type 0} {Tells : ActorValue → (was now : List (Option CellValue)) → Type 0} {row : List (Option ℕ)} {was now : Player} (made : HasMade h kind See Tells row was now) (all : HasSeenAll was)
    (there : IsThere was.seat.view.held ledger_cell) (call : Call)
    (told : history_in (held_at made.new ledger_cell) ≡ event.Called (actor_of was.actor).number call ∷ history_in (held_at was.seat.view.held ledger_cell)) where
  pub begun-by : (registry : RegistryValue) (asks : Bool) → NotesCalled registry asks (changed was.seat.view.held made.new ledger_cell) (actor_of was.actor) (actor_of now.actor) → IsBegunBy call was now
  begun-by registry asks n =
      let same : n.called ≡ call = (let q = sym (pushed n.pushed).0 ∙ told in cc) in
      let place = ap (λ (c : CellValue). length (history_in c)) (sym n.pushed.was) ∙ ap (λ (events : List Event). length events) (seen-was made all there) in
      let seen = (newest made all there n.pushed).1 in
      record {
        pushes = told-by made all there (called_by call) told;
        registry = registry;
        work = n.work;
        job = n.job;
        begun = subst (λ (c : Call). IsBegun (actor_of was.actor).setting.workers registry (class_of c) n.work n.job) same n.begun;
        actor = n.actor_is ∙ (λ k. record (actor_of was.actor) { command = doing (place k) n.work; job = n.job; seen = seen k });
      }

module _ {f : Floor} {kind : Kind} {See : Setting → World → ℕ → Type 0} {Tells : ActorValue → (was now : List (Option CellValue)) → Type 0} {row : List (Option ℕ)} {p was now : Player} (seated : IsSeated f p) (same : IsUnchanged p was) (booked : HasBooked f kind See Tells row was now) where
  has-called : (call : Call) → CanCall f call p → IsBegunBy call booked.mid now → HasCalled f (length (booked.mid).seat.view.seen) call p now
  has-called call can b = record {
    pushed = pushed-since p same booked (called_by call) b.pushes can.noted;
    position = refl;
    work = b.work;
    job = b.job;
    begins = (b.registry, subst (λ (n : ℕ). IsBegun n b.registry (class_of call) b.work b.job) (ap (λ (a : ActorValue). a.setting.workers) (mid-same p same booked).actor ∙ seated.workers) b.begun);
    actor = b.actor ∙ ap (λ (a : ActorValue). record a { command = doing (length (booked.mid).seat.view.seen) b.work; job = b.job; seen = length now.seat.view.seen }) (mid-same p same booked).actor;
  }

-- the call's event is told of the cells that were held
abbrev pub IsToldOf : Call → Player → List (ℕ × Cell) → Type 0
IsToldOf call mid new = history_in (held_at new ledger_cell) ≡ event.Called (actor_of mid.actor).number call ∷ history_in (held_at mid.seat.view.held ledger_cell)

module _ {f : Floor} {See : Setting → World → ℕ → Type 0} {Tells : ActorValue → (was now : List (Option CellValue)) → Type 0} {p was now : Player} (seated : IsSeated f p) (same : IsUnchanged p was) (call : Call) (can : CanCall f call p) where
  pub alone-begun : (booked : HasBooked f kind.Note See Tells (one_at ledger_cell) was now) → IsToldOf call booked.mid (booked.made).new → HasCalled f (length (booked.mid).seat.view.seen) call p now
  alone-begun booked told =
      let free = subst IsFree (sym (mid-same p same booked).actor) can.free in
      let n = called-note (changed (booked.mid).seat.view.held (booked.made).new ledger_cell) (actor_of (booked.mid).actor) (actor_of now.actor) free call told (does-held booked.made booked.at) in
      has-called seated same booked call can (begun-by booked.made booked.whole (booked.at).there.0 call told n.0 false n.1)

  pub asking-begun : (booked : HasBooked f kind.Note See Tells (two_at registry_cell ledger_cell) was now) → IsToldOf call booked.mid (booked.made).new → HasCalled f (length (booked.mid).seat.view.seen) call p now
  asking-begun booked told =
      let free = subst IsFree (sym (mid-same p same booked).actor) can.free in
      let held = (booked.mid).seat.view.held in
      let new = (booked.made).new in
      let n = asking-note (changed held new ledger_cell) (actor_of (booked.mid).actor) (actor_of now.actor) free (changed held new registry_cell) (does-held booked.made booked.at) in
      has-called seated same booked call can (begun-by booked.made booked.whole (booked.at).there.1.0 call told n.0 true n.1)

-- where the command is read of the actor that has begun it, that is its position
pub begun-at : {f : Floor} {of : ℕ} {call : Call} {p now : Player} → HasCalled f of call p now → (command : Command) → now.actor.command ≡ Some command → command.of ≡ of
begun-at {of = of} begun command read =
    let both : Some command ≡ doing of begun.work = sym read ∙ ap (λ (a : ActorValue). a.command) begun.actor in
    ap (λ (c : Command). c.of) (sym (Some-same command (record { of = of; work = begun.work }) both))

-- Pulls.

pub has-pulled : {f : Floor} {See : Setting → World → ℕ → Type 0} (image server : ℕ) {p was now : Player} → IsSeated f p → IsUnchanged p was → CanPullFor f server p
    → HasBooked f (book_kind (book.Sync image)) See (book_tells (book.Sync image)) (book_places (book.Sync image)) was now → HasPulledFor f server p now
has-pulled {f} image server {p} {was} {now} seated same can booked =
    let mid = booked.mid in
    let held = mid.seat.view.held in
    let new = (booked.made).new in
    let d : DoesSync f.hierarchy (changed held new image) (changed held new registry_cell) (changed held new ledger_cell) (actor_of mid.actor) (actor_of now.actor) = does-held booked.made booked.at in
    let me = (mid-same p same booked).actor in
    let mine : (actor_of p.actor).command ≡ doing d.of d.work = sym (ap (λ (a : ActorValue). a.command) me) ∙ d.command in
    let work = same-work d.of can.of d.work can.work (actor_of p.actor).command mine can.command in
    let servers : (actor_of mid.actor).setting.servers ≡ f.with.servers = ap (λ (a : ActorValue). a.setting.servers) me ∙ seated.servers in
    let due : due_pull f.with.servers can.work ≡ Some d.server = sym (λ k. due_pull (servers k) (work k)) ∙ d.due in
    let to : d.server ≡ server = Some-same server d.server (sym can.due ∙ due) in
    let n = newest booked.made booked.whole (booked.at).there.1.1.0 d.pulled in
    record {
      of = d.of;
      work = d.work;
      command = mine;
      listing = d.listing;
      pushed = pushed-since p same booked (this (event.Synced server d.listing)) (n.0 ∙ (λ k. event.Synced (to k) d.listing ∷ mid.seat.view.seen)) can.noted;
      actor = d.actor_is ∙ (λ k. record (me k) { command = doing d.of (pulled_once d.work); seen = n.1 k });
    }

-- Notes of an actor with a command.

-- with the event of an end it is noted that the command ends so
pub ended-note : (l : Change) (a b : ActorValue) (of : ℕ) (h : How) → history_in l.now ≡ event.Ended of h ∷ history_in l.before → DoesNote l a b → (n : NotesEnded l a b) × (n.how_it_ends ≡ h)
ended-note l a b of h told (OfEnded n) = (n, (let q = sym (pushed n.ended).0 ∙ told in cc))
ended-note l a b of h told (OfUnknown n) = (let q = sym told ∙ (pushed n.pushed).0 in absurd (cc))
ended-note l a b of h told (OfRefused n) = (let q = sym told ∙ (pushed n.pushed).0 in absurd (cc))
ended-note l a b of h told (OfCalled registry n) = (let q = sym told ∙ (pushed n.pushed).0 in absurd (cc))
ended-note l a b of h told (OfLeft n) = (let q = sym told ∙ (pushed n.left).0 in absurd (cc))
ended-note l a b of h told (OfShown page n) = (let q = sym told ∙ (pushed n.shown).0 in absurd (cc))
ended-note l a b of h told (OfCount n) = (let never : [] ≡ event.Ended of h ∷ history_in l.before = sym (ap history_in n.turns.is) ∙ told in absurd (cc))

module _ (l : Change) (a b : ActorValue) (of : ℕ) (work : Work) (command : a.command ≡ doing of work) where
  left-note : (balance : Balance) → work ≡ work_is.Balance balance → ((servers : ℕ) (h : How) → MayNoteEnd servers work a.job h → ⊥) → (e : Event) → history_in l.now ≡ e ∷ history_in l.before → DoesNote l a b → NotesLeft l a b
  left-note balance is stays e told (OfLeft n) = n
  left-note balance is stays e told (OfUnknown n) = no-command of work a.command n.free.command command
  left-note balance is stays e told (OfRefused n) = no-command of work a.command n.free.command command
  left-note balance is stays e told (OfCalled registry n) = no-command of work a.command n.free.command command
  left-note balance is stays e told (OfEnded n) =
      absurd (stays a.setting.servers n.how_it_ends (subst (λ (k : Work). MayNoteEnd a.setting.servers k a.job n.how_it_ends) (sym (same-work of n.of work n.work a.command command n.command)) n.ends))
  left-note balance is stays e told (OfShown page n) =
      (let never : ◌≡◌ {A = Option Work} None (Some n.work_now) = ap once_shown (sym is ∙ same-work of n.of work n.work a.command command n.command) ∙ n.once in absurd (cc))
  left-note balance is stays e told (OfCount n) = (let never : [] ≡ e ∷ history_in l.before = sym (ap history_in n.turns.is) ∙ told in absurd (cc))

module _ {f : Floor} {See : Setting → World → ℕ → Type 0} {Tells : ActorValue → (was now : List (Option CellValue)) → Type 0} {row : List (Option ℕ)} {p was now : Player} (seated : IsSeated f p) (same : IsUnchanged p was) (booked : HasBooked f kind.Note See Tells row was now)
    (there : IsThere (booked.mid).seat.view.held ledger_cell) where
  -- what the step did to the ledger
  abbrev on_ledger : Change
  on_ledger = changed (booked.mid).seat.view.held (booked.made).new ledger_cell

  -- so the command ends with the pulls that it was to make, if no other one pulled
  pulled-so : (h : How) → (n : NotesEnded on_ledger (actor_of p.actor) (actor_of now.actor)) → n.how_it_ends ≡ h → PullsAlone (booked.mid).seat.view.seen n.of → HasPulls f.with (booked.mid).seat.view.seen (event.Ended n.of h)
  pulled-so h n how_is alone =
      let mid = booked.mid in
      let (s, w, is) = around f mid booked.seated in
      let history : steps.history_in w ≡ mid.seat.view.seen = is.seen there.0 there.1 in
      let actor : w.actors mid.number ≡ actor_of p.actor = is.actor ∙ (mid-same p same booked).actor in
      let servers : s.servers ≡ (actor_of p.actor).setting.servers = is.servers ∙ sym seated.servers in
      let may : MayNoteEnd s.servers n.work (w.actors mid.number).job h = subst (λ (x : ℕ × Option JobValue × How). MayNoteEnd x.0 n.work x.1 x.2) (λ i. (sym servers i, sym (ap (λ (a : ActorValue). a.job) actor) i, how_is i)) n.ends in
      subst (λ (l : List Event). HasPulls f.with l (event.Ended n.of h)) history
      (ending-law s w is.inv.ghost_of mid.number (record { of = n.of; work = n.work }) h f.with is.inv.holds is.pulling (ap (λ (a : ActorValue). a.command) actor ∙ n.command) may (sym is.servers) (subst (λ (l : List Event). PullsAlone l n.of) (sym history) alone))

  ended-so : (h : How) → CanEndCall f h p → (n : NotesEnded on_ledger (actor_of p.actor) (actor_of now.actor)) → n.how_it_ends ≡ h → HasEndedCall f h p now
  ended-so h can n how_is =
      let e = newest booked.made booked.whole there n.ended in
      record {
        of = n.of;
        work = n.work;
        command = n.command;
        pushed = pushed-since p same booked (this (event.Ended n.of h)) (e.0 ∙ (λ k. event.Ended n.of (how_is k) ∷ (booked.mid).seat.view.seen)) can.noted;
        pulls = pulled-so h n how_is;
        actor = n.actor_is ∙ (λ k. record (actor_of p.actor) { command = None; job = None; seen = e.1 k });
      }

  left-so : CanLeaveAction p → NotesLeft on_ledger (actor_of p.actor) (actor_of now.actor) → HasLeftAction f p now
  left-so can n =
      let e = newest booked.made booked.whole there n.left in
      record {
        of = n.of;
        balance = n.balance;
        command = n.command;
        job = n.job;
        job_is = n.job_is;
        how = n.left_as;
        leaves = n.leaves;
        pushed = pushed-since p same booked (this (event.Left n.of (n.job).shard n.left_as)) e.0 can.noted;
        actor = n.actor_is ∙ (λ k. record (actor_of p.actor) { command = doing n.of (work_is.Balance (after_action false n.job n.balance)); job = next_job (after_action false n.job n.balance); seen = e.1 k });
      }

module _ {f : Floor} {See : Setting → World → ℕ → Type 0} {p was now : Player} (seated : IsSeated f p) (same : IsUnchanged p was) where
  pub has-ended : (h : How) → CanEndCall f h p → HasBooked f (note_kind (note.Ended h)) See (note_tells (note.Ended h)) (note_places (note.Ended h)) was now → HasEndedCall f h p now
  has-ended h can booked =
      let there = (booked.at).there.0 in
      let l = on_ledger seated same booked there in
      let does : DoesNote l (actor_of p.actor) (actor_of now.actor) = subst (λ (a : ActorValue). DoesNote l a (actor_of now.actor)) (mid-same p same booked).actor (does-held booked.made booked.at) in
      let tells = tells-held booked.made booked.at in
      let n = ended-note l (actor_of p.actor) (actor_of now.actor) (open_of (actor_of (booked.mid).actor)) h tells does in
      ended-so seated same booked there h can n.0 n.1

  pub has-left : CanLeaveAction p → HasBooked f (note_kind note.Left) See (note_tells note.Left) (note_places note.Left) was now → HasLeftAction f p now
  has-left can booked =
      let there = (booked.at).there.0 in
      let l = on_ledger seated same booked there in
      let does : DoesNote l (actor_of p.actor) (actor_of now.actor) = subst (λ (a : ActorValue). DoesNote l a (actor_of now.actor)) (mid-same p same booked).actor (does-held booked.made booked.at) in
      let tells = tells-held booked.made booked.at in
      left-so seated same booked there can
      (left-note l (actor_of p.actor) (actor_of now.actor) can.of (work_is.Balance can.balance) can.command can.balance refl (λ servers h ends. at-action f p seated can.of can.balance can.job h can.command can.job_is ends) tells.0 tells.2 does)
