-- A cursor's query stays open where room is made for it, and where it visits a block.
use Rattle.std.proofs.Common.{◌≡◌, ◌∙◌, ℕ, List, Result, Ok, Err, IfErr, IsErr, IsErrAnd, sym, ap, subst}
use Rattle.actor_run.specs.{Cursors.{CursorValue, IsCursor, WasRefused, cursor_of}, Driving.IsOpenSince, Sessions.session_of}
use Rattle.actor_run.proofs.Opened.{part-on}
use Rattle.whole_steps.specs.core_tree.specs.ReadDue.{room_to_note}
use Rattle.dim_hierarchy.specs.declared.filter.Pick.{Pick}
use Rattle.row_ledger.specs.declared.event.Event.{Event}
use Rattle.whole_steps.specs.seat_steps.specs.{Floors.{AreTold, IsSeated, Stands, kept_by}, declared.floor.{Floor.Floor, Player.Player}}
use Rattle.whole_steps.specs.seat_steps.specs.Takes as seat_takes
use Rattle.whole_steps.specs.session_steps.specs.Visits as seat
use Rattle.turn_table.specs.{Seat.SeatValue, Views.after_refusal}
use Rattle.whole_steps.specs.volap_cell.specs.{ImageKinds.doing, Values.{ActorValue, actor_of}, declared.actor.Actor.Actor, declared.cell.Cell.Cell}

-- Rooms.

-- another actor in the place of one that it is the same as, but for what room it has
abbrev pub in_place : Player → Actor → Player
in_place p b = record p { actor = b }

module _ (f : Floor) (p : Player) (b : Actor) (same : actor_of b ≡ actor_of p.actor) (went : b.went ≡ p.actor.went) where
  seated-still : IsSeated f p → IsSeated f (in_place p b)
  seated-still seated = record {
    holds = record {
      own = seated.holds.own;
      home = seated.holds.home;
      one = record { last = seated.holds.one.last; has = seated.holds.one.has; same = seated.holds.one.same ∙ sym same; went = seated.holds.one.went ∙ sym went; about = ap (λ (x : ActorValue). x.setting.hierarchy) same ∙ seated.holds.one.about; others = seated.holds.one.others };
      rows = seated.holds.rows;
      possible = seated.holds.possible;
      wide = seated.holds.wide;
    };
    alone = seated.alone;
    servers = ap (λ (x : ActorValue). x.setting.servers) same ∙ seated.servers;
    workers = ap (λ (x : ActorValue). x.setting.workers) same ∙ seated.workers;
    kept = subst (λ (x : ActorValue). AreTold p.seat.ranks (kept_by x)) (sym same) seated.kept;
  }

  stands-still : Stands f p → Stands f (in_place p b)
  stands-still stands = record { seated = seated-still stands.seated; bare = stands.bare ∙ ap kept_by (sym same) }

  open-still : (start : Player) → IsOpenSince f start p → IsOpenSince f start (in_place p b)
  open-still start since = record {
    stands = stands-still since.stands;
    number = since.number;
    server = since.server;
    role = since.role;
    of = since.of;
    work = since.work;
    command = since.command;
    kind = since.kind;
    no_job = since.no_job;
    work_now = since.work_now;
    further = since.further;
    actor = subst (λ (x : ActorValue). x ≡ record (actor_of start.actor) { command = doing since.of since.work_now; errand = x.errand; purse = x.purse; boxes = x.boxes }) (sym same) since.actor;
    noted = since.noted;
    seen = since.seen;
  }

  pub cursor-reserved : (server : ℕ) (was : Player) (of : ℕ) (filter : List Pick) → IsCursor f server was of filter p → IsCursor f server was of filter (in_place p b)
  cursor-reserved server was of filter is = record { session = is.session; valid = is.valid; start = is.start; asked = is.asked; since = open-still is.start is.since }

-- Visits.

module _ (f : Floor) (server : ℕ) (was : Player) (of : ℕ) (filter : List Pick) (p now : Player) (block : ℕ) (visited : seat.HasVisited f block p now) where
  pub cursor-visited : IsCursor f server was of filter p → IsCursor f server was of filter now
  cursor-visited is = record { session = is.session; valid = is.valid; start = is.start; asked = is.asked; since = part-on f is.start p is.since now visited.went }

-- where the visit was refused nothing but the tries at the seat has changed
module _ (f : Floor) (server : ℕ) (was : Player) (of : ℕ) (filter : List Pick) (p now : Player) where
  abbrev shown : SeatValue Cell Actor Event → Actor → CursorValue
  shown z a = record { was = session_of f server was; of = of; filter = filter; seen = z.view.seen; actor = actor_of a; room = room_to_note a; refused = z.view.refused; tried = z.view.note }

  pub cursor-refused : (cell block word : ℕ) → cell ≡ block → now.actor ≡ p.actor → seat_takes.WasRefused block word p now
      → WasRefused cell word (cursor_of f server was of filter p) (cursor_of f server was of filter now)
  cursor-refused cell block word same actor refused = subst (λ (k : ℕ). WasRefused k word (cursor_of f server was of filter p) (cursor_of f server was of filter now)) (sym same)
      (ap (λ (z : SeatValue Cell Actor Event). shown z now.actor) refused ∙ ap (λ (a : Actor). shown (record p.seat { view = after_refusal p.seat.view block word }) a) actor)

-- what is so of each error that there can be is so of the one there is
pub if-err : {T E : Type 0} (r : Result T E) {P Q : E → Type 0} → IsErr r × IsErrAnd r Q → ((e : E) → Q e → P e) → IfErr r P
if-err (Ok v) is f = tt
if-err (Err e) is f = f e is.1
