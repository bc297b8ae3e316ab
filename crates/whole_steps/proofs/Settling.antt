-- The pulls of a settle, one after the other, and what it comes to.
use Rattle.std.proofs.Common.{◌≡◌, ◌∙◌, ℕ, ◌+◌, ◌<◌, List, [], ◌∷◌, length, Option, Some, None, Result, refl, sym, ap, arith}
use Rattle.std.specs.Prelude.{OnOk}
use mathlib.Core.Option.{some, some-ne-none}
use Rattle.call_steps.proofs.{CallsMade.same-work, OpenCalls.extends-length}
use Rattle.call_steps.specs.Calls.{CanCall, CanEndCall, CanPullFor}
use Rattle.call_steps.specs.core_steps.specs.Books.{book_kind, book_places, book_tells}
use Rattle.call_steps.specs.core_steps.specs.declared.books.BookStep.TheVariants as book
use Rattle.dim_hierarchy.specs.Dimension.{Dimension}
use Rattle.list_words.proofs.Elements.{Some-same}
use Rattle.row_ledger.specs.declared.{event.Event.Event, settings.How.How}
use Rattle.row_ledger.specs.declared.event.Event.TheVariants.{Ended, Synced}
use Rattle.row_ledger.specs.declared.settings.Call.TheVariants.{Settle}
use Rattle.row_ledger.specs.declared.settings.How.TheVariants as how
use Rattle.call_steps.specs.seat_steps.proofs.{HeldLedger.{changed, does-held, newest}, Since.{extends-on, map-ok}}
use Rattle.call_steps.specs.seat_steps.specs.{Booked.IsDue, declared.floor.{Floor.Floor, Player.Player}}
use Rattle.turn_table.specs.{Numbered.value_of, Seat.SeatValue}
use Rattle.core_pages.specs.volap_cell.specs.{Commands.{due_pull, pulled_once, settles_next}, ImageKinds.{DoesSync, doing}, Setting.{Setting, ledger_cell, registry_cell}, Steps.history_in, Values.{ActorValue, actor_of}, World.World, Cells.CellValue, declared.actor.Actor.Actor, declared.cell.Cell.Cell}
use Rattle.core_pages.specs.volap_cell.specs.declared.command.Work.TheVariants as work_is
use Rattle.whole_steps.proofs.{Alone.everyone-of, Calling.{added, added-before, mid-actor}, Paging.{done-so, place-same, same-on}, Turned.turned-self}
use Rattle.whole_steps.specs.{Commands.{HasCalledSole, HasEndedSole}, Done.{HasDone, HasEndedPage}, Seats.{HasTurned}, Settles.{HasFailedToSettle, HasPulledAll, HasPulledSole, HasSettled, IsAtSettle}, Sole.{HasMadeSole, HasWaited, IsSole, StandsSole, player}}

-- One pull.

pub has-pulled : {f : Floor} {See : Setting → World → ℕ → Type 0} (image server : ℕ) {was now : Player} → IsSole f was → CanPullFor f server was → HasMadeSole f (book_kind (book.Sync image)) See (book_tells (book.Sync image)) (book_places (book.Sync image)) was now → HasPulledSole f server was now
has-pulled {f} image server {was} {now} sole can has =
    let mid = has.mid in
    let held = mid.seat.view.held in
    let new = (has.made).new in
    let d : DoesSync f.hierarchy (changed held new image) (changed held new registry_cell) (changed held new ledger_cell) (actor_of mid.actor) (actor_of now.actor) = does-held has.made has.at in
    let me = mid-actor has in
    let mine : (actor_of was.actor).command ≡ doing d.of d.work = sym (ap (λ (a : ActorValue). a.command) me) ∙ d.command in
    let work = same-work d.of can.of d.work can.work (actor_of was.actor).command mine can.command in
    let servers : (actor_of mid.actor).setting.servers ≡ f.with.servers = ap (λ (a : ActorValue). a.setting.servers) me ∙ sole.servers in
    let due : due_pull f.with.servers can.work ≡ Some d.server = sym (λ k. due_pull (servers k) (work k)) ∙ d.due in
    let to : d.server ≡ server = Some-same server d.server (sym can.due ∙ due) in
    let n = newest has.made has.whole (has.at).there.1.1.0 d.pulled in
    record {
      of = d.of;
      work = d.work;
      command = mine;
      listing = d.listing;
      added = added has (Synced server d.listing) (n.0 ∙ (λ k. Synced (to k) d.listing ∷ mid.seat.view.seen));
      actor = d.actor_is ∙ (λ k. record (me k) { command = doing d.of (pulled_once d.work); seen = n.1 k });
    }

-- where turns were taken before it
pub pulled-before : {T E : Type 0} (f : Floor) (n : ℕ) (a b : Actor) (was mid now : SeatValue Cell Actor Event) (server : ℕ) → HasTurned was mid → (r : Result T E) → OnOk r (HasPulledSole f server (player n a mid) (player n b now)) → OnOk r (HasPulledSole f server (player n a was) (player n b now))
pulled-before f n a b was mid now server turned r pulled = map-ok r (λ p. record { of = p.of; work = p.work; command = p.command; listing = p.listing; added = added-before f n a b was mid now turned p.added; actor = p.actor }) pulled

-- who may pull may so when turns were taken
pub can-pull-on : (f : Floor) (server n : ℕ) (a : Actor) (was mid : SeatValue Cell Actor Event) → HasTurned was mid → CanPullFor f server (player n a was) → CanPullFor f server (player n a mid)
can-pull-on f server n a was mid turned can =
    let longer = extends-length was.view.seen mid.view.seen turned.seen in
    let noted = can.noted in record { of = can.of; work = can.work; command = can.command; due = can.due; no_part = can.no_part; noted = omega (arith, longer, noted) }

-- what is due where nothing is held is due when turns were taken
pub due-turned : (f : Floor) (n : ℕ) (a : Actor) (was mid : SeatValue Cell Actor Event) (row : List (Option ℕ)) {Asks : List Dimension → List (Option CellValue) → ActorValue → Type 0} → HasTurned was mid → was.view.held ≡ [] → IsDue f (player n a was) row Asks → IsDue f (player n a mid) row Asks
due-turned f n a was mid row turned empty due = record {
  prepared = λ s w is. due.prepared s w (record {
    about = is.about;
    servers = is.servers;
    workers = is.workers;
    inv = is.inv;
    pulling = is.pulling;
    counted = is.counted;
    actor = is.actor;
    there = is.there;
    cells = is.cells;
    held = λ k c e. absurd (none-there k c e);
    free = λ k c e j ne. absurd (none-there k c e);
    behind = extends-on (history_in w) mid.view.seen was.view.seen is.behind turned.seen;
    seen = λ c e. absurd (none-there ledger_cell c e);
  });
}
  where
    none-there : (k : ℕ) (c : Cell) → value_of was.view.held k ≡ some c → ⊥
    none-there k c e = some-ne-none c (sym e ∙ ap (λ (l : List (ℕ × Cell)). value_of l k) empty)

-- All pulls.

module _ (f : Floor) (was : Player) where
  pub none-pulled : StandsSole f was → IsAtSettle was → HasPulledAll f 0 was was
  none-pulled stands at = record {
    at = at;
    stands = stands;
    same = record { number = refl; seat_number = refl; actor_count = refl; others = λ j ne. refl; setting = refl; knows = λ k knows. knows };
    pulls = [];
    are = tt;
    count = refl;
    seen = refl;
    actor = λ i. record (actor_of was.actor) { command = at.command i };
    noted = at.noted;
  }

  module _ (many : ℕ) (mid : Player) (has : HasPulledAll f many was mid) where
    at-command : (actor_of mid.actor).command ≡ doing has.at.of (work_is.Settle many)
    at-command = ap (λ (a : ActorValue). a.command) has.actor

    pub can-pull : (server : ℕ) → settles_next f.with.servers many ≡ Some server → CanPullFor f server mid
    can-pull server next = record {
      of = has.at.of;
      work = work_is.Settle many;
      command = at-command;
      due = next;
      no_part = ap (λ (a : ActorValue). a.errand) has.actor ∙ has.at.no_part;
      noted = has.noted;
    }

    pub pulled-on : (server : ℕ) (now : Player) → settles_next f.with.servers many ≡ Some server → HasPulledSole f server mid now → HasPulledAll f (many + 1) was now
    pulled-on server now next p =
        let before : p.added.older ≡ mid.seat.view.seen = p.added.exact (has.same.knows ledger_cell has.at.knows) in
        let work : p.work ≡ work_is.Settle many = same-work p.of has.at.of p.work (work_is.Settle many) (actor_of mid.actor).command p.command at-command in
        let place : p.of ≡ has.at.of = place-same has.at.of p.of (work_is.Settle many) p.work (actor_of mid.actor).command at-command p.command in
        let seen : (actor_of now.actor).seen ≡ length now.seat.view.seen = ap (λ (a : ActorValue). a.seen) p.actor in
        record {
          at = has.at;
          stands = p.added.stands;
          same = same-on has.same p.added.same;
          pulls = Synced server p.listing ∷ has.pulls;
          are = (record { server = server; next = ap (settles_next f.with.servers) has.count ∙ next; listing = p.listing; event = refl }, has.are);
          count = (let count = has.count in omega (arith, count));
          seen = p.added.now_is ∙ ap (λ (l : List Event). Synced server p.listing ∷ l) (before ∙ has.seen);
          actor = p.actor
              ∙ (λ i. record (has.actor i) { command = doing (place i) (pulled_once (work i)); seen = sym seen i });
          noted = omega (arith, seen);
        }

    -- where no memory was found all is as it was
    pub waited-on : (now : Player) → HasWaited f mid now → HasPulledAll f many was now
    waited-on now w =
        let before : now.seat.view.seen ≡ mid.seat.view.seen = w.exact (has.same.knows ledger_cell has.at.knows) in
        let seen : (actor_of now.actor).seen ≡ (actor_of mid.actor).seen = ap (λ (a : ActorValue). a.seen) w.actor in
        let long = ap (λ (l : List Event). length l) before in
        let noted = has.noted in
        record {
          at = has.at;
          stands = w.stands;
          same = same-on has.same w.same;
          pulls = has.pulls;
          are = has.are;
          count = has.count;
          seen = before ∙ has.seen;
          actor = w.actor ∙ has.actor ∙ (λ i. record (actor_of was.actor) { command = doing has.at.of (work_is.Settle many); seen = sym seen i });
          noted = omega (arith, noted, seen, long);
        }

    -- and the command ends
    pub ends-fine : many ≡ f.with.servers + f.with.servers → CanEndCall f how.Fine mid
    ends-fine all = record { of = has.at.of; work = work_is.Settle many; command = at-command; ends = all; no_part = ap (λ (a : ActorValue). a.errand) has.actor ∙ has.at.no_part; noted = has.noted }

    pub ends-failed : many < f.with.servers + f.with.servers → CanEndCall f how.NoMemory mid
    ends-failed fewer = record { of = has.at.of; work = work_is.Settle many; command = at-command; ends = fewer; no_part = ap (λ (a : ActorValue). a.errand) has.actor ∙ has.at.no_part; noted = has.noted }

    pub ended-pulls : (h : How) (now : Player) → HasEndedSole f h mid now → HasEndedPage f (λ k. Ended k h ∷ has.pulls) was now
    ended-pulls h now e =
        let before : e.added.older ≡ mid.seat.view.seen = e.added.exact (has.same.knows ledger_cell has.at.knows) in
        let place : e.of ≡ has.at.of = place-same has.at.of e.of (work_is.Settle many) e.work (actor_of mid.actor).command at-command e.command in
        record {
          of = has.at.of;
          began = has.at.began;
          stands = e.added.stands;
          same = same-on has.same e.added.same;
          seen = e.added.now_is ∙ (λ i. Ended (place i) h ∷ (before ∙ has.seen) i);
          actor = e.actor ∙ ap (λ (a : ActorValue). record a { command = None; job = None; seen = length now.seat.view.seen }) has.actor;
        }

-- The call.

module _ (f : Floor) (n : ℕ) (a b : Actor) (was then : SeatValue Cell Actor Event) (stands : StandsSole f (player n a was)) (can : CanCall f Settle (player n a was)) (has : HasCalledSole f Settle (player n a was) (player n b then)) where
  pub at-settle : IsAtSettle (player n b then)
  at-settle =
      let all = ap (λ (l : List Event). length l) has.added.now_is in
      let seen = ap (λ (x : ActorValue). x.seen) has.actor in
      record {
        of = length has.added.older;
        command = ap (λ (x : ActorValue). x.command) has.actor ∙ ap (doing (length has.added.older)) has.begins.1.0;
        began = omega (arith, all);
        no_part = ap (λ (x : ActorValue). x.errand) has.actor ∙ can.free.errand;
        noted = omega (arith, seen);
        knows = has.added.knows;
      }

  module _ (many : ℕ) (c : Actor) (mid : SeatValue Cell Actor Event) (pulled : HasPulledAll f many (player n b then) (player n c mid)) (d : Actor) (now : SeatValue Cell Actor Event) where
    so : (h : How) → HasEndedSole f h (player n c mid) (player n d now) → HasDone f Settle (λ k. Ended k h ∷ pulled.pulls) (player n a was) (player n d now)
    so h e = done-so f Settle n a b d was was then now (turned-self was) (everyone-of f (player n a was) stands.sole) can has (λ k. Ended k h ∷ pulled.pulls) (ended-pulls f (player n b then) many (player n c mid) pulled h (player n d now) e)

    pub settled-so : many ≡ f.with.servers + f.with.servers → HasEndedSole f how.Fine (player n c mid) (player n d now) → HasSettled f (player n a was) (player n d now)
    settled-so all e = record { pulls = pulled.pulls; are = pulled.are; count = pulled.count ∙ all; done = so how.Fine e }

    pub failed-so : many < f.with.servers + f.with.servers → HasEndedSole f how.NoMemory (player n c mid) (player n d now) → HasFailedToSettle f (player n a was) (player n d now)
    failed-so fewer e = record { pulls = pulled.pulls; are = pulled.are; fewer = (let count = pulled.count in omega (arith, count, fewer)); done = so how.NoMemory e }
