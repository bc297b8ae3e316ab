-- What the steps of a session at its seat make of it.
use Rattle.std.proofs.Common.{◌≡◌, ◌∙◌, ℕ, ◌<◌, ◌≤◌, ◌^◌, List, [], ◌∷◌, ◌++◌, length, Some, None, Result, refl, sym, ap, subst, arith}
use Rattle.actor_run.specs.{Doing.{HasDone, HasRefused}, Driving.EndsSince, Sessions.{BeganNothing, Began, IsNewest, IsOneEvent, IsSession, SessionValue, session_of}}
use Rattle.actor_run.proofs.Chains.{began, extends-length, goes-on, refused-behind}
use Rattle.whole_steps.specs.core_image.specs.Told.{refused_by, unknown_by}
use Rattle.row_ledger.specs.{Past.session_in, Right.IsRight, Site.{Site, site_of}, declared.event.Event.Event}
use Rattle.row_ledger.specs.declared.event.Event.TheVariants.{Refused, Unknown}
use Rattle.script_run.specs.Places.{begins_of}
use Rattle.whole_steps.specs.seat_steps.specs.{Booked.{HasPushed, IsAsBefore}, Floors.{Stands}, declared.floor.{Floor.Floor, Player.Player}}
use Rattle.whole_steps.specs.session_steps.specs.{Begins.{CanBegin, HasNoted}, declared.commands.End.End}
use Rattle.whole_steps.specs.session_steps.proofs.Heard.{begun-nothing, numbered, right-seen}
use Rattle.whole_steps.specs.seat_steps.proofs.Since.{extends-on}
use Rattle.turn_table.specs.Numbered.{Extends}
use Rattle.whole_steps.specs.volap_cell.specs.{Commands.server_of, ImageKinds.{IsFree, doing}, Setting.{Setting, actor_count, site_in}, Values.{ActorValue, actor_of}, declared.command.Work.Work}

module _ (f : Floor) (server : ℕ) (was : Player) (s : IsSession f server was) where
  abbrev pub a : ActorValue
  a = actor_of was.actor

  abbrev pub as_value : SessionValue
  as_value = session_of f server was

  -- it may begin a command
  pub can-begin : CanBegin was
  can-begin = record { server = server; role = s.role; free = s.free; noted = s.noted }

  -- its number and its server, as its events have them
  pub number-is : a.number ≡ was.number
  number-is = numbered f was s.stands.seated

  pub server-is : server_of a.role ≡ server
  server-is = ap server_of s.role

  -- the actor is the same but for what it has noted and its rooms
  abbrev pub IsBut : ActorValue → Type 0
  IsBut b = b ≡ record a { seen = b.seen; purse = b.purse; boxes = b.boxes; gone_gates = b.gone_gates }

  -- Behind steps that leave it so, the session is one as before.
  module _ (now : Player) (stands : Stands f now) (number : now.number ≡ was.number) (same : IsBut (actor_of now.actor)) (noted : (actor_of now.actor).seen ≤ length now.seat.view.seen)
      (later : Extends now.seat.view.seen was.seat.view.seen) where
    setting : (actor_of now.actor).setting ≡ a.setting
    setting = ap (λ (x : ActorValue). x.setting) same

    right : IsRight (site_in (actor_of now.actor).setting) now.seat.view.seen
    right = right-seen f now stands.seated (
        let servers : (actor_of now.actor).setting.servers ≡ a.setting.servers = ap (λ (x : Setting). x.servers) setting in
        let opened : a.setting.servers ≤ length was.seat.view.seen = s.right.opened in
        let longer = extends-length was.seat.view.seen now.seat.view.seen later in omega arith)

    still-session : IsSession f server now
    still-session = record {
      stands = stands;
      role = ap (λ (x : ActorValue). x.role) same ∙ s.role;
      free = record { command = ap (λ (x : ActorValue). x.command) same ∙ s.free.command; errand = ap (λ (x : ActorValue). x.errand) same ∙ s.free.errand; job = ap (λ (x : ActorValue). x.job) same ∙ s.free.job };
      counted = ap (λ (x : ActorValue). x.counted) same ∙ s.counted;
      alone = stands.seated.alone;
      noted = noted;
      few = subst (λ (x : Setting). actor_count x < 2 ^ 16) (sym setting) s.few;
      right = right;
    }

    site : site_in (actor_of now.actor).setting ≡ site_of f.with f.hierarchy
    site = λ i. record { hierarchy = stands.seated.holds.one.about i; servers = stands.seated.servers i; workers = stands.seated.workers i }

    pub done : (Ends : SessionValue → SessionValue → Type 0) → Ends as_value (session_of f server now) → HasDone f Ends server was now
    done Ends ends = record {
      session = still-session;
      goes = record {
        same = λ i. record { floor = f; number = number i; server = server; seen = now.seat.view.seen };
        later = later;
        right = subst (λ (x : Site). IsRight x now.seat.view.seen) site right;
      };
      ends = ends;
    }

  -- Where it is as before, it began nothing.
  pub as-before : (now : Player) → IsAsBefore f was now → HasDone f BeganNothing server was now
  as-before now before =
      let noted : (actor_of now.actor).seen ≤ length was.seat.view.seen = subst (λ (x : ActorValue). x.seen ≤ length was.seat.view.seen) (sym before.actor) s.noted in
      let longer = extends-length was.seat.view.seen now.seat.view.seen before.seen in
      done now before.stands before.number (subst IsBut (sym before.actor) refl) (omega arith) before.seen BeganNothing
      (subst (λ (n : ℕ). begins_of now.seat.view.seen n ≡ begins_of was.seat.view.seen n) before.number (begun-nothing f now before.stands.seated was.seat.view.seen before.seen noted))

  pub still-free : (now : Player) → IsAsBefore f was now → IsFree (actor_of now.actor)
  still-free now before = subst IsFree (sym before.actor) s.free

  -- An event of its own is pushed, by which a command begins.
  module _ (event_of : ActorValue → ℕ → Event) (mid : Player) (pushed : HasPushed f event_of was mid) (of : ℕ) (position : of ≡ length pushed.older) (e : Event) (is : event_of a (length pushed.older) ≡ e)
      (own : session_in e ≡ Some was.number) where
    event-is : mid.seat.view.seen ≡ e ∷ pushed.older
    event-is = pushed.now_is ∙ ap (λ (x : Event). x ∷ pushed.older) is

    longer : Extends mid.seat.view.seen was.seat.view.seen
    longer = extends-on mid.seat.view.seen pushed.older was.seat.view.seen (e ∷ [], event-is) pushed.behind

    -- that is so of what is seen later, where nothing has begun since
    pub begun-since : (now : Player) → Extends now.seat.view.seen mid.seat.view.seen → begins_of now.seat.view.seen was.number ≡ begins_of mid.seat.view.seen was.number → Began of e as_value (session_of f server now)
    begun-since now since same =
        began as_value (session_of f server now) of e pushed.older since.0 pushed.behind position pushed.only own
        (since.1 ∙ ap (λ (h : List Event). since.0 ++ h) event-is)
        (same ∙ ap (λ (h : List Event). begins_of h was.number) event-is)

    -- the event alone is the command
    pub noted-one : actor_of mid.actor ≡ record a { seen = length mid.seat.view.seen } → HasDone f (IsOneEvent e) server was mid
    noted-one same =
        let seen : (actor_of mid.actor).seen ≡ length mid.seat.view.seen = ap (λ (x : ActorValue). x.seen) same in
        done mid pushed.stands pushed.number (subst IsBut (sym same) refl) (omega arith) longer (IsOneEvent e)
        ((pushed.older, event-is), (of, begun-since mid ([], refl) refl))

    -- the command is open then, and ends later
    pub ended-since : (work : Work) → actor_of mid.actor ≡ record a { command = doing of work; seen = length mid.seat.view.seen } → (r : End) (now : Player) → (ended : EndsSince f r mid now)
        → HasDone f (λ x y. Began of e x y × IsNewest ended.newest y) server was now
    ended-since work opened r now ended =
        let n = length now.seat.view.seen in
        let purse = (actor_of now.actor).purse in
        let boxes = (actor_of now.actor).boxes in
        let left : ActorValue = record a { command = None; errand = None; seen = n; purse = purse; boxes = boxes } in
        let same : actor_of now.actor ≡ left = ended.actor ∙ ap (λ (x : ActorValue). let z : ActorValue = record x { command = None; errand = None; seen = n; purse = purse; boxes = boxes } in z) opened in
        let free : IsBut left = λ i. record a { command = sym s.free.command i; errand = sym s.free.errand i; seen = n; purse = purse; boxes = boxes } in
        let seen : (actor_of now.actor).seen ≡ length now.seat.view.seen = ap (λ (x : ActorValue). x.seen) same in
        let since = extends-on now.seat.view.seen ended.older mid.seat.view.seen (ended.newest ∷ [], ended.now_is) ended.behind in
        let only = subst (λ (k : ℕ). begins_of now.seat.view.seen k ≡ begins_of mid.seat.view.seen k) pushed.number ended.only in
        done now ended.stands (ended.number ∙ pushed.number) (subst IsBut (sym same) free) (omega arith) (extends-on now.seat.view.seen mid.seat.view.seen was.seat.view.seen since longer) (λ x y. Began of e x y × IsNewest ended.newest y)
        (begun-since now since only, (ended.older, ended.now_is))

-- Notes.

module _ (f : Floor) (server : ℕ) (was now : Player) (s : IsSession f server was) where
  pub refused-noted : HasNoted f refused_by was now → HasDone f (λ x y. IsOneEvent (Refused x.number) x y) server was now
  refused-noted noted =
      let did = noted-one f server was s refused_by now noted.pushed (length noted.pushed.older) refl (Refused was.number) (ap (λ (n : ℕ). Refused n) (number-is f server was s)) refl noted.actor in
      record { session = did.session; goes = did.goes; ends = did.ends }

  pub told : (dim : ℕ) → HasNoted f (unknown_by dim) was now → HasDone f (λ x y. IsOneEvent (Unknown x.number x.server dim) x y) server was now
  told dim noted =
      let did =
      noted-one f server was s (unknown_by dim) now noted.pushed (length noted.pushed.older) refl (Unknown was.number server dim)
      (λ i. Unknown (number-is f server was s i) (server-is f server was s i) dim) refl noted.actor in
      record { session = did.session; goes = did.goes; ends = did.ends }

-- it was refused behind a time in which it was as before
pub refused-later : {T E : Type 0} (r : Result T E) (f : Floor) (server : ℕ) (was mid now : Player) → HasDone f BeganNothing server was mid → HasDone f (HasRefused r) server mid now → HasDone f (HasRefused r) server was now
refused-later r f server was mid now first second = record {
  session = second.session;
  goes = goes-on (session_of f server was) (session_of f server mid) (session_of f server now) first.goes second.goes;
  ends = refused-behind (session_of f server was) (session_of f server mid) (session_of f server now) first.goes first.ends r second.ends;
}
