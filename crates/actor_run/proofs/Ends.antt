-- How a session's insert and its query come to their ends.
use Rattle.std.proofs.lemmas.Bool.{false≢true}
use Rattle.std.proofs.Common.{◌≡◌, ◌∙◌, ℕ, ℤ, ◌≤◌, false, true, List, [], ◌∷◌, length, is_none, position, Some, Bool, Result, Ok, Err, IsErr, inl, inr, refl, sym, ap, subst, arith}
use Rattle.actor_run.specs.{Doing.{HasDone, HasRefused, HasTold}, Driving.{EndsSince, IsOpenSince}, Sessions.{Began, BeganInsert, BeganNothing, BeganQuery, EndedInsert, EndedQuery, EndsInsert, EndsQuery, TriesInsert, TriesQuery, IsNewest, IsOneEvent, IsSession, SessionValue, session_of}}
use Rattle.actor_run.specs.declared.session.Asked.TheVariants as asked
use Rattle.actor_run.specs.declared.session.Inserted.TheVariants as inserted
use Rattle.actor_run.specs.declared.session.{Asked.{Asked as AskedAnswer}, Inserted.Inserted}
use Rattle.actor_run.proofs.{Chains.extends-length, Opened.just-open, Sessions.{ended-since, number-is, server-is}}
use Rattle.whole_steps.specs.core_image.specs.Told.{asked_by, begun_by}
use Rattle.dim_hierarchy.specs.{Filter.{IsFilterNamed, picks}, Row.{IsCoordNamed, leaves}, declared.{filter.{NamePick.NamePick, Pick.Pick}, row.Coord.Coord}}
use Rattle.measure_agg.specs.Aggregate.{Aggregate}
use Rattle.row_ledger.specs.declared.event.Event.{Event}
use Rattle.row_ledger.specs.declared.event.Event.TheVariants.{Asked, Begun, Refused, Unknown}
use Rattle.script_run.specs.Places.{begins_of}
use Rattle.whole_steps.specs.seat_steps.specs.{Booked.IsAsBefore, Floors.Stands, declared.floor.{Floor.Floor, Player.Player}}
use Rattle.whole_steps.specs.session_steps.specs.{Begins.{CanBegin, HasAsked, HasBegunInsert, row_at}, declared.commands.End.End}
use Rattle.whole_steps.specs.session_steps.specs.declared.commands.End.TheVariants as end
use Rattle.whole_steps.specs.session_steps.proofs.Heard.{begun-nothing}
use Rattle.whole_steps.specs.seat_steps.proofs.Since.{extends-on}
use Rattle.whole_steps.specs.volap_cell.specs.{ImageKinds.{IsFree, doing}, Values.{ActorValue, actor_of}, declared.command.Work.Work}
use Rattle.whole_steps.specs.volap_cell.specs.declared.command.Work.TheVariants as work_is

-- Beginnings.

pub as-before-self : (f : Floor) (p : Player) → Stands f p → IsAsBefore f p p
as-before-self f p stands = record { stands = stands; number = refl; actor = refl; went = refl; seen = ([], refl) }

pub as-before-on : (f : Floor) (was mid now : Player) → IsAsBefore f was mid → IsAsBefore f mid now → IsAsBefore f was now
as-before-on f was mid now first second = record {
  stands = second.stands;
  number = second.number ∙ first.number;
  actor = second.actor ∙ first.actor;
  went = second.went ∙ first.went;
  seen = extends-on now.seat.view.seen mid.seat.view.seen was.seat.view.seen second.seen first.seen;
}

pub still-begins : (f : Floor) (was now : Player) → CanBegin was → IsAsBefore f was now → CanBegin now
still-begins f was now begins before =
    let longer = extends-length was.seat.view.seen now.seat.view.seen before.seen in
    let noted : (actor_of now.actor).seen ≤ length was.seat.view.seen = subst (λ (x : ActorValue). x.seen ≤ length was.seat.view.seen) (sym before.actor) begins.noted in
    record { server = begins.server; role = ap (λ (x : ActorValue). x.role) before.actor ∙ begins.role; free = subst IsFree (sym before.actor) begins.free; noted = omega arith }

-- a query has begun after a time in which the session was as before
pub asked-behind : (f : Floor) (was mid now : Player) (of : ℕ) (filter : List Pick) → CanBegin was → IsAsBefore f was mid → HasAsked f of filter mid now → HasAsked f of filter was now
asked-behind f was mid now of filter begins before has =
    let noted : (actor_of mid.actor).seen ≤ length was.seat.view.seen = subst (λ (x : ActorValue). x.seen ≤ length was.seat.view.seen) (sym before.actor) begins.noted in
    let older = has.pushed.older in
    record {
      pushed = record {
        stands = has.pushed.stands;
        number = has.pushed.number ∙ before.number;
        older = older;
        behind = extends-on older mid.seat.view.seen was.seat.view.seen has.pushed.behind before.seen;
        now_is = has.pushed.now_is ∙ ap (λ (x : ActorValue). asked_by filter x (length older) ∷ older) before.actor;
        only = subst (λ (n : ℕ). begins_of older n ≡ begins_of was.seat.view.seen n) before.number
            (has.pushed.only ∙ begun-nothing f mid before.stands.seated was.seat.view.seen before.seen noted);
        right = has.pushed.right;
      };
      position = has.position;
      actor = has.actor ∙ ap (λ (x : ActorValue). let z : ActorValue = record x { command = doing of work_is.Query; seen = length now.seat.view.seen } in z) before.actor;
      went = has.went;
    }

-- Ends.

module _ (f : Floor) (server : ℕ) (was mid : Player) (s : IsSession f server was) (of : ℕ) where
  module _ (at : Coord) (measures : ℤ) (has : HasBegunInsert f of at measures was mid) where
    abbrev pub insert : Work
    insert = work_is.Insert (row_at of at measures) false

    insert-command : (actor_of mid.actor).command ≡ doing of insert
    insert-command = ap (λ (x : ActorValue). x.command) has.actor

    pub insert-open : IsOpenSince f mid mid
    insert-open =
        let seen : (actor_of mid.actor).seen ≡ length mid.seat.view.seen = ap (λ (x : ActorValue). x.seen) has.actor in
        just-open f mid server of insert has.pushed.stands (ap (λ (x : ActorValue). x.role) has.actor ∙ s.role) insert-command tt (ap (λ (x : ActorValue). x.job) has.actor ∙ s.free.job) (omega arith)

    -- an insert isn't answered
    pub insert-unanswered : (now : Player) (agg : Aggregate) → EndsSince f (end.Answered agg) mid now → ⊥
    insert-unanswered now agg ended = (let never : work_is.Insert (row_at of at measures) false ≡ work_is.Query = (ended.ends of insert insert-command).0 in cc)

    module _ (now : Player) (names : List (List ℕ)) (named : IsCoordNamed f.hierarchy names at) where
      began-insert : (r : End) → (ended : EndsSince f r mid now) → HasDone f (λ x y. BeganInsert of names measures x y × IsNewest ended.newest y) server was now
      began-insert r ended =
          let did =
          ended-since f server was s (begun_by at measures) mid has.pushed of has.position (Begun was.number server (row_at of at measures))
          (λ i. Begun (number-is f server was s i) (server-is f server was s i) (row_at (sym has.position i) at measures)) refl insert has.actor r now ended in
          record { session = did.session; goes = did.goes; ends = (record { at = at; named = named; began = did.ends.0 }, did.ends.1) }

      pub insert-acked : EndsSince f end.Acked mid now → HasDone f (EndedInsert (inserted.Ok of) names measures) server was now
      insert-acked ended =
          let did = began-insert end.Acked ended in
          let is = (ended.ends of insert insert-command).1 in
          record { session = did.session; goes = did.goes; ends = (did.ends.0, (is.0, subst (λ (e : Event). IsNewest e (session_of f server now)) is.1 did.ends.1)) }

      pub insert-failed : EndsSince f end.Failed mid now → HasDone f (EndedInsert inserted.NoMemory names measures) server was now
      insert-failed ended =
          let did = began-insert end.Failed ended in
          let is = (ended.ends of insert insert-command).1 in
          record { session = did.session; goes = did.goes; ends = inr (of, did.ends.0, subst (λ (e : Event). IsNewest e (session_of f server now)) is did.ends.1) }

  module _ (filter : List Pick) (has : HasAsked f of filter was mid) where
    query-command : (actor_of mid.actor).command ≡ doing of work_is.Query
    query-command = ap (λ (x : ActorValue). x.command) has.actor

    pub query-open : IsOpenSince f mid mid
    query-open =
        let seen : (actor_of mid.actor).seen ≡ length mid.seat.view.seen = ap (λ (x : ActorValue). x.seen) has.actor in
        just-open f mid server of work_is.Query has.pushed.stands (ap (λ (x : ActorValue). x.role) has.actor ∙ s.role) query-command tt (ap (λ (x : ActorValue). x.job) has.actor ∙ s.free.job) (omega arith)

    -- a query isn't acknowledged
    pub query-unacked : (now : Player) → EndsSince f end.Acked mid now → ⊥
    query-unacked now ended = (let is = (ended.ends of work_is.Query query-command).0 in let never : work_is.Query ≡ work_is.Insert is.0 is.1 = is.2 in cc)

    -- it began so, and has ended by the newest event
    pub query-ended : (r : End) (now : Player) → (ended : EndsSince f r mid now) → HasDone f (λ x y. Began of (Asked was.number server filter) x y × IsNewest ended.newest y) server was now
    query-ended r now ended =
        ended-since f server was s (asked_by filter) mid has.pushed of has.position (Asked was.number server filter)
        (λ i. Asked (number-is f server was s i) (server-is f server was s i) filter) refl work_is.Query has.actor r now ended

    module _ (now : Player) (names : List NamePick) (named : IsFilterNamed f.hierarchy names filter) where
      began-query : (r : End) → (ended : EndsSince f r mid now) → HasDone f (λ x y. BeganQuery of names x y × IsNewest ended.newest y) server was now
      began-query r ended =
          let did = query-ended r now ended in
          record { session = did.session; goes = did.goes; ends = (record { filter = filter; named = named; began = did.ends.0 }, did.ends.1) }

      pub query-answered : (agg : Aggregate) → EndsSince f (end.Answered agg) mid now → HasDone f (EndedQuery (asked.Answer of agg) names) server was now
      query-answered agg ended =
          let did = began-query (end.Answered agg) ended in
          let is = (ended.ends of work_is.Query query-command).1 in
          record { session = did.session; goes = did.goes; ends = (did.ends.0, subst (λ (e : Event). IsNewest e (session_of f server now)) is did.ends.1) }

      pub query-failed : EndsSince f end.Failed mid now → HasDone f (EndedQuery asked.NoMemory names) server was now
      query-failed ended =
          let did = began-query end.Failed ended in
          let is = (ended.ends of work_is.Query query-command).1 in
          record { session = did.session; goes = did.goes; ends = inr (of, did.ends.0, subst (λ (e : Event). IsNewest e (session_of f server now)) is did.ends.1) }

-- where something of it stands in the history, that is how it ends

pub ended-insert : (r : Inserted) (names : List (List ℕ)) (measures : ℤ) (x y : SessionValue) → EndedInsert r names measures x y → EndsInsert r names measures x y
ended-insert (inserted.Ok of) names measures x y ended = ended
ended-insert (inserted.Unknown dim) names measures x y ended = ended
ended-insert inserted.NoMemory names measures x y ended = inr ended

pub ended-query : (r : AskedAnswer) (names : List NamePick) (x y : SessionValue) → EndedQuery r names x y → EndsQuery r names x y
ended-query (asked.Answer of agg) names x y ended = ended
ended-query (asked.Unknown dim) names x y ended = ended
ended-query asked.NoMemory names x y ended = inr ended

-- Calls that begin nothing.

module _ (f : Floor) (server : ℕ) (was now : Player) where
  pub insert-refused : (names : List (List ℕ)) (measures : ℤ) → HasDone f (λ x y. IsOneEvent (Refused x.number) x y) server was now → HasDone f (EndedInsert inserted.NoMemory names measures) server was now
  insert-refused names measures did = record { session = did.session; goes = did.goes; ends = inl did.ends }

  pub query-refused : (names : List NamePick) → HasDone f (λ x y. IsOneEvent (Refused x.number) x y) server was now → HasDone f (EndedQuery asked.NoMemory names) server was now
  query-refused names did = record { session = did.session; goes = did.goes; ends = inl did.ends }

  -- nothing of it stands in the history

  pub insert-nothing : {E : Type 0} (r : Result Inserted E) → IsErr r → (names : List (List ℕ)) (measures : ℤ) → HasDone f BeganNothing server was now → HasDone f (TriesInsert r names measures) server was now
  insert-nothing (Ok x) is names measures did = absurd (false≢true is)
  insert-nothing (Err e) is names measures did = record { session = did.session; goes = did.goes; ends = did.ends }

  pub query-nothing : {E : Type 0} (r : Result AskedAnswer E) → IsErr r → (names : List NamePick) → HasDone f BeganNothing server was now → HasDone f (TriesQuery r names) server was now
  query-nothing (Ok x) is names did = absurd (false≢true is)
  query-nothing (Err e) is names did = record { session = did.session; goes = did.goes; ends = did.ends }

  pub told-nothing : {E : Type 0} (r : Result Bool E) → IsErr r → (dim : ℕ) → HasDone f BeganNothing server was now → HasDone f (HasTold r dim) server was now
  told-nothing (Ok x) is dim did = absurd (false≢true is)
  told-nothing (Err e) is dim did = record { session = did.session; goes = did.goes; ends = did.ends }

  -- whether that is noted or not
  pub query-stopped : {T E : Type 0} (r : Result T E) (names : List NamePick) → HasDone f (HasRefused r) server was now → HasDone f (EndsQuery asked.NoMemory names) server was now
  query-stopped (Ok u) names did = record { session = did.session; goes = did.goes; ends = inr (inl did.ends) }
  query-stopped (Err e) names did = record { session = did.session; goes = did.goes; ends = inl did.ends }

  pub insert-unknown : (names : List (List ℕ)) (measures : ℤ) (dim : ℕ) → position is_none (leaves f.hierarchy names) ≡ Some dim → HasDone f (λ x y. IsOneEvent (Unknown x.number x.server dim) x y) server was now → HasDone f (EndedInsert (inserted.Unknown dim) names measures) server was now
  insert-unknown names measures dim at did = record { session = did.session; goes = did.goes; ends = (at, did.ends) }

  pub query-unknown : (names : List NamePick) (dim : ℕ) → position is_none (picks f.hierarchy names) ≡ Some dim → HasDone f (λ x y. IsOneEvent (Unknown x.number x.server dim) x y) server was now → HasDone f (EndedQuery (asked.Unknown dim) names) server was now
  query-unknown names dim at did = record { session = did.session; goes = did.goes; ends = (at, did.ends) }
