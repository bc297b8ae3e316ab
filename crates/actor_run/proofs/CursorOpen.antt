-- A cursor's query, from where it began until it ends.
use Rattle.std.proofs.Common.{◌≡◌, ◌∙◌, ℕ, ◌≤◌, Bool, true, false, List, [], ◌∷◌, length, Option, Some, None, inl, inr, refl, sym, ap, subst, arith}
use Rattle.std.specs.Bool.{OnFalse, OnTrue}
use Rattle.actor_run.specs.{Cursors.{BeginsCursor, Finishes, HasFinished, IsCursor, IsCursorFor, IsNoAnswer, cursor_of}, Doing.HasDone, Driving.{EndsSince, IsOpenSince}, Sessions.{Began, IsNewest, IsSession, SessionValue, session_of}}
use Rattle.actor_run.specs.declared.session.Asked.TheVariants as asked
use Rattle.actor_run.specs.declared.session.Asked.{Asked as AskedAnswer}
use Rattle.actor_run.proofs.{Chains.extends-length, Ends.{query-ended, query-unacked}, Opened.{further-end, further-kind, just-open}, Sessions.{begun-since, number-is, server-is}}
use Rattle.whole_steps.specs.core_image.specs.Told.{asked_by}
use Rattle.dim_hierarchy.specs.{Dimension.Dimension, declared.{filter.{NamePick.NamePick, Pick.Pick}}}
use Rattle.measure_agg.specs.Aggregate.{Aggregate}
use Rattle.row_ledger.specs.declared.event.Event.{Event}
use Rattle.row_ledger.specs.declared.event.Event.TheVariants.{Answered, Asked, Failed}
use Rattle.script_run.specs.Places.{begins_of}
use Rattle.whole_steps.specs.part_steps.specs.{Parts.IsUnread, Reads.IsBeforeBlocks}
use Rattle.whole_steps.specs.seat_steps.specs.declared.floor.{Floor.Floor, Player.Player}
use Rattle.whole_steps.specs.session_steps.specs.{Commands.{IsEndFor, IsEndOf, IsFurtherWork}, declared.commands.End.End}
use Rattle.whole_steps.specs.session_steps.specs.declared.commands.End.TheVariants as end
use Rattle.whole_steps.specs.session_steps.proofs.Heard.{begun-nothing}
use Rattle.whole_steps.specs.seat_steps.proofs.Since.{extends-on}
use Rattle.whole_steps.specs.volap_cell.specs.{ImageKinds.doing, Values.{ActorValue, actor_of}, declared.command.{Command.Command, Work.Work}}
use Rattle.whole_steps.specs.volap_cell.specs.declared.command.Work.TheVariants as work_is

-- What is open.

abbrev HasWork : Work → Option Command → Type 0
HasWork work None = ⊥
HasWork work (Some c) = c.work ≡ work

abbrev IsEndOfCommand : End → Event → Option Command → Type 0
IsEndOfCommand r e None = ⊥
IsEndOfCommand r e (Some c) = IsEndFor r c.work × IsEndOf r c.of e

module _ (f : Floor) (start now : Player) (since : IsOpenSince f start now) where
  abbrev pub st : ActorValue
  st = actor_of start.actor

  abbrev pub a : ActorValue
  a = actor_of now.actor

  command-now : a.command ≡ doing since.of since.work_now
  command-now = ap (λ (x : ActorValue). x.command) since.actor

  -- a query is a query still
  pub query-now : (of : ℕ) → st.command ≡ doing of work_is.Query → a.command ≡ doing since.of work_is.Query
  query-now of is =
      let first : since.work ≡ work_is.Query = subst (HasWork work_is.Query) (sym is ∙ since.command) refl in
      let further : since.work_now ≡ work_is.Query = subst (λ (w : Work). IsFurtherWork w since.work_now) first since.further in
      command-now ∙ ap (doing since.of) further

  -- what was seen when it began is no less than the session has noted
  few : a.seen ≤ length start.seat.view.seen
  few = subst (λ (n : ℕ). n ≤ length start.seat.view.seen) (sym (ap (λ (x : ActorValue). x.seen) since.actor)) since.noted

  pub begun-none : begins_of now.seat.view.seen start.number ≡ begins_of start.seat.view.seen start.number
  begun-none = subst (λ (n : ℕ). begins_of now.seat.view.seen n ≡ begins_of start.seat.view.seen n) since.number (begun-nothing f now since.stands.seated start.seat.view.seen since.seen few)

  -- it is open since now
  pub open-now : IsOpenSince f now now
  open-now =
      let longer = extends-length start.seat.view.seen now.seat.view.seen since.seen in
      let low = few in
      just-open f now since.server since.of since.work_now since.stands (ap (λ (x : ActorValue). x.role) since.actor ∙ since.role) command-now (further-kind since.work since.work_now since.kind since.further)
      (ap (λ (x : ActorValue). x.job) since.actor ∙ since.no_job) (omega arith)

  -- where it ends since now, it ends since it began
  pub ends-behind : (r : End) (last : Player) → EndsSince f r now last → EndsSince f r start last
  ends-behind r last ended =
      let t = ended.ends since.of since.work_now command-now in
      record {
        stands = ended.stands;
        number = ended.number ∙ since.number;
        older = ended.older;
        behind = extends-on ended.older now.seat.view.seen start.seat.view.seen ended.behind since.seen;
        newest = ended.newest;
        now_is = ended.now_is;
        right = ended.right;
        only = subst (λ (n : ℕ). begins_of last.seat.view.seen n ≡ begins_of now.seat.view.seen n) since.number ended.only ∙ begun-none;
        ends = λ of work command. subst (λ (c : Option Command). IsEndOfCommand r ended.newest c) (sym since.command ∙ command) (further-end r since.work since.work_now since.kind since.further t.0, t.1);
        actor = ended.actor ∙ ap (λ (x : ActorValue). let z : ActorValue = record x { command = None; errand = None; seen = length last.seat.view.seen; purse = (actor_of last.actor).purse; boxes = (actor_of last.actor).boxes } in z) since.actor;
      }

-- No block was visited.

pub before-taken : (h : List Dimension) (b : Bool) (x : ActorValue) → OnTrue b (IsUnread x) → OnFalse b (x.errand ≡ None) → IsBeforeBlocks h x
before-taken h true x unread none = inr (inl unread)
before-taken h false x unread none = inl none

-- Its beginning.

pub no-answer : IsNoAnswer asked.NoMemory
no-answer of agg e = (let never : asked.NoMemory ≡ asked.Answer of agg = e in cc)

pub unknown-no-answer : (dim : ℕ) → IsNoAnswer (asked.Unknown dim)
unknown-no-answer dim of agg e = (let never : asked.Unknown dim ≡ asked.Answer of agg = e in cc)

module _ (f : Floor) (server : ℕ) (was : Player) (s : IsSession f server was) (names : List NamePick) (of : ℕ) (filter : List Pick) (now : Player) (begins : BeginsCursor f names of filter was now) where
  pub is-cursor-for : IsCursorFor names (session_of f server was) (cursor_of f server was of filter now)
  is-cursor-for =
      let start = begins.start in
      let has = begins.asked.pushed in
      let longer = extends-on start.seat.view.seen has.older was.seat.view.seen (asked_by filter (actor_of was.actor) (length has.older) ∷ [], has.now_is) has.behind in
      let same = subst (λ (n : ℕ). begins_of now.seat.view.seen n ≡ begins_of start.seat.view.seen n) has.number (begun-none f start now begins.since) in
      let began = begun-since f server was s (asked_by filter) start has of begins.asked.position (Asked was.number server filter) (λ i. Asked (number-is f server was s i) (server-is f server was s i) filter) refl now begins.since.seen same in
      record {
        session = refl;
        named = begins.named;
        later = extends-on now.seat.view.seen start.seat.view.seen was.seat.view.seen begins.since.seen longer;
        began = record { past = began.past; at = began.at; one = began.one };
        unvisited = begins.unvisited;
      }

  -- so it is of the session as its caller sees it, where the one before is kept

  module _ (g : Floor) (same_floor : f ≡ g) (kept : Player) (same : kept ≡ was) where
    pub cursor-kept-for : (v : SessionValue) → session_of g server was ≡ v → IsCursorFor names v (cursor_of g server kept of filter now)
    cursor-kept-for v is = subst (λ (x : SessionValue). IsCursorFor names x (cursor_of g server kept of filter now)) is
        (subst (λ (x : Floor × Player). IsCursorFor names (session_of x.0 server was) (cursor_of x.0 server x.1 of filter now)) (λ i. (same_floor i, sym same i)) is-cursor-for)

-- Its end.

module _ (f : Floor) (server : ℕ) (was : Player) (of : ℕ) (filter : List Pick) (mid : Player) (is : IsCursor f server was of filter mid) where
  pub cursor-open : IsOpenSince f mid mid
  cursor-open = open-now f is.start mid is.since

  -- it isn't acknowledged
  pub cursor-unacked : (now : Player) → EndsSince f end.Acked mid now → ⊥
  cursor-unacked now ended = query-unacked f server was is.start is.session of filter is.asked now (ends-behind f is.start mid is.since end.Acked now ended)

  module _ (r : End) (now : Player) (ended : EndsSince f r mid now) where
    since-start : EndsSince f r is.start now
    since-start = ends-behind f is.start mid is.since r now ended

    pub end-of : IsEndOf r of ended.newest
    unfolding since-start ends-behind
    end-of = (since-start.ends of work_is.Query (ap (λ (x : ActorValue). x.command) is.asked.actor)).1

    did : HasDone f (λ x y. Began of (Asked was.number server filter) x y × IsNewest ended.newest y) server was now
    unfolding since-start ends-behind
    did = query-ended f server was is.start is.session of filter is.asked r now since-start

    -- the session is one as before
    pub cursor-session : IsSession f server now
    cursor-session = did.session

    pub cursor-finished : (answer : AskedAnswer) → Finishes answer (cursor_of f server was of filter mid) (session_of f server now) → HasFinished answer (cursor_of f server was of filter mid) (session_of f server now)
    cursor-finished answer ends = record {
      goes = did.goes;
      later = extends-on now.seat.view.seen ended.older mid.seat.view.seen (ended.newest ∷ [], ended.now_is) ended.behind;
      began = subst (λ (n : ℕ). Began of (Asked n server filter) (session_of f server was) (session_of f server now)) (sym (ap (λ (x : SessionValue). x.number) did.goes.same)) did.ends.0;
      ends = ends;
    }

    -- the newest event that it has seen is the end
    pub newest-is : (e : Event) → ended.newest ≡ e → IsNewest e (session_of f server now)
    newest-is e same = subst (λ (x : Event). IsNewest x (session_of f server now)) same did.ends.1

  pub cursor-answered : (now : Player) (agg : Aggregate) → EndsSince f (end.Answered agg) mid now → HasFinished (asked.Answer of agg) (cursor_of f server was of filter mid) (session_of f server now)
  cursor-answered now agg ended = cursor-finished (end.Answered agg) now ended (asked.Answer of agg) (refl, newest-is (end.Answered agg) now ended (Answered of agg) (end-of (end.Answered agg) now ended))

  pub cursor-failed : (now : Player) → EndsSince f end.Failed mid now → HasFinished asked.NoMemory (cursor_of f server was of filter mid) (session_of f server now)
  cursor-failed now ended = cursor-finished end.Failed now ended asked.NoMemory (newest-is end.Failed now ended (Failed of) (end-of end.Failed now ended))
