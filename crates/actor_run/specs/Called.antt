-- What a called command comes to: of the history that its actor had seen and of the one that it has seen then, the newest event first.
use Rattle.std.specs.Prelude.{ℕ, ◌≡◌, ◌≤◌, ◌⊎◌, List, [], ◌∷◌, ◌++◌, length, Some, Result, Ok, Err}
use Rattle.row_ledger.specs.{Past.event_at, Right.IsRight, Site.site_of, declared.event.Event.Event, declared.settings.{Call.Call, How.How}}
use Rattle.row_ledger.specs.declared.{event.Event.TheVariants.{Called, Ended, Refused}, settings.How.TheVariants.NoMemory}
use Rattle.script_run.specs.{Places.begins_of, Runs.{HasPulls, PullsAlone}}
use Rattle.whole_steps.specs.seat_steps.specs.declared.floor.Floor.{Floor}
use Rattle.turn_table.specs.Numbered.{Extends}

-- It has seen what it had or more; that is right.
pub record HasHeard (f : Floor) (was now : List Event) : Type 0 where
  pub later : Extends now was
  pub right : IsRight (site_of f.with f.hierarchy) now

-- The call began with the event at this position, at or past the end of what the actor had seen; the actor began nothing else.
pub record BeganCall (number of : ℕ) (call : Call) (was now : List Event) : Type 0 where
  pub past : length was ≤ of
  pub at : event_at now of ≡ Some (Called number call)
  pub one : begins_of now number ≡ begins_of was number ++ of ∷ []

-- It has ended so with the newest event. Where no other command that pulls was open meanwhile, it had pulled as it was to.
pub record EndedCall (f : Floor) (number : ℕ) (call : Call) (how : How) (was now : List Event) : Type 0 where
  pub of : ℕ
  pub began : BeganCall number of call was now
  pub older : List Event
  pub newest : now ≡ Ended of how ∷ older
  pub pulls : PullsAlone older of → HasPulls f.with older (Ended of how)

-- the actor's command is noted as refused, by the newest event
pub record WasRefused (number : ℕ) (was now : List Event) : Type 0 where
  pub of : ℕ
  pub past : length was ≤ of
  pub at : event_at now of ≡ Some (Refused number)
  pub one : begins_of now number ≡ begins_of was number ++ of ∷ []
  pub older : List Event
  pub newest : now ≡ Refused number ∷ older

-- the actor has begun nothing
abbrev pub HasBegunNothing : ℕ → List Event → List Event → Type 0
HasBegunNothing number was now = begins_of now number ≡ begins_of was number

-- It is noted that the call was refused for want of memory; or no memory was found for that, and nothing of it stands in the history.
abbrev pub NotCalled : {T E : Type 0} → ℕ → Result T E → List Event → List Event → Type 0
NotCalled number (Ok u) was now = WasRefused number was now
NotCalled number (Err e) was now = HasBegunNothing number was now

-- how a call ends of which something stands in the history
abbrev pub EndedSo : Floor → ℕ → Call → How → List Event → List Event → Type 0
EndedSo f number call NoMemory was now = WasRefused number was now ⊎ EndedCall f number call NoMemory was now
EndedSo f number call how was now = EndedCall f number call how was now

-- where memory is wanting it may be that nothing of it does
abbrev pub EndsCall : Floor → ℕ → Call → How → List Event → List Event → Type 0
EndsCall f number call NoMemory was now = HasBegunNothing number was now ⊎ EndedSo f number call NoMemory was now
EndsCall f number call how was now = EndedSo f number call how was now

-- or that is told
abbrev pub TriesCall : {E : Type 0} → Floor → ℕ → Call → Result How E → List Event → List Event → Type 0
TriesCall f number call (Ok how) was now = EndedSo f number call how was now
TriesCall f number call (Err e) was now = HasBegunNothing number was now

pub record DoesCall (f : Floor) (number : ℕ) (call : Call) (how : How) (was now : List Event) : Type 0 where
  pub heard : HasHeard f was now
  pub ends : EndsCall f number call how was now

pub record DoesTryCall {E : Type 0} (f : Floor) (number : ℕ) (call : Call) (r : Result How E) (was now : List Event) : Type 0 where
  pub heard : HasHeard f was now
  pub tries : TriesCall f number call r was now
