-- What each answer of the top call says of the source, the sink and the history.
--
-- `before` and `now` are what a source has left, or a sink has taken, before the call and after it, where it tells that.
use Rattle.std.specs.{Io.KnownBytes.{Appends, Consumes, IsAtEnd}, List.AllZip, Prelude.{ℕ, ◌≡◌, ◌+◌, ◌<◌, ◌≤◌, ◌^◌, ◌⊎◌, ◌&&◌, ⊤, Bool, true, false, if◌then◌else◌, nat_lt, IsTrue, Option, Some, Ok, Err, List, [], ◌∷◌, ◌++◌, filter, length, take, None}}
use Rattle.volap_io.specs.Causes.{Rose}
use Rattle.rand_core.specs.Pcg32Seed.{pcg32_seed}
use Rattle.rand_pcg.specs.Pcg.{pcg32_of_seed}
use Rattle.dim_hierarchy.specs.{Dimension.Dimension, Filter.matches, declared.row.Row.Row}
use Rattle.measure_agg.specs.Aggregate.{Aggregate, agg}
use Rattle.row_ledger.specs.{Past.{Query, acked_rows, begun, call_at, query_at}, Right.IsRight, Site.site_of, declared.event.Event.Event, declared.event.Event.TheVariants.{Answered, Ended}, declared.settings.Call.TheVariants.Settle, declared.settings.How.TheVariants.Fine, declared.settings.Use.Use}
use Rattle.script_form.specs.{Scripts.{records_of, script}, declared.script.Cause.Cause, declared.script.Command.Command, declared.script.Script.Script, declared.script.ScriptFault.TheVariants.Bad}
use Rattle.script_run.specs.{Phases.phases_to, Places.{places, is_over_at}, Runs.{IsRunSoFar, IsRunOf, IsRunInto, IsSerial, InsertEnds}}
use Rattle.answer_text.specs.{Printed.{told, told_to, bad_line}, Summary.summary}
use Rattle.volap_gen.specs.Generated.{generated, text_of}
use Rattle.seeded_turns.specs.declared.schedule.Schedule.{Schedule}
use Rattle.seeded_turns.specs.declared.schedule.Schedule.TheVariants as schedule_is
use Rattle.seeded_run.specs.Order.{is_order}
use Rattle.olap_top.specs.{declared.outcome.Outcome.Outcome, declared.wanted.Wanted.Wanted, declared.wanted.Wanted.TheVariants.{Step, Seeded, Run, Load}}

-- What was read.

-- the source was read to its end, and gave these bytes, at most 2^26 of them
pub record IsReadWhole (before now : Option (List ℕ)) (bytes : List ℕ) : Type 0 where
  pub consumed : Consumes before now bytes
  pub at_end : IsAtEnd now
  pub few : length bytes ≤ 2 ^ 26

-- these bytes are asked for: those that the source gave; for a load the generated text, and nothing was read
abbrev pub AreAsked : Wanted → Option (List ℕ) → Option (List ℕ) → List ℕ → Type 0
AreAsked (Load rows seed threads) before now bytes = (now ≡ before) × (bytes ≡ text_of (generated rows seed))
AreAsked wanted before now bytes = IsReadWhole before now bytes

-- and these bytes are this script
pub record IsAskedScript (wanted : Wanted) (before now : Option (List ℕ)) (s : Script) : Type 0 where
  pub bytes : List ℕ
  pub asked : AreAsked wanted before now bytes
  pub is_script : script (records_of bytes) ≡ Ok s

-- What is written.

-- what is asked to be written of a script that ran with this history
abbrev pub asked_text : Wanted → Script → List Event → List ℕ
asked_text (Load rows seed threads) s history = summary rows seed s.with s.commands history
asked_text wanted s history = told s.with s.commands history

-- what of that is written when the first k phases have ended: their text, and nothing of a summary, which is written behind all phases
abbrev pub asked_text_to : ℕ → Wanted → Script → List Event → List ℕ
asked_text_to k (Load rows seed threads) s history = []
asked_text_to k wanted s history = told_to k s.with s.commands history

-- the sink took the first bytes of this text, and not all of it
pub record TookPart (taken_before taken_now : Option (List ℕ)) (text : List ℕ) : Type 0 where
  pub count : ℕ
  pub part : count < length text
  pub took : Appends taken_before taken_now (take count text)

-- What ran.

-- nothing ran
abbrev pub LeavesNothing : Outcome → Type 0
LeavesNothing o = (o.ledger.history ≡ []) × (o.rest ≡ None)

-- The history is right and a run of exactly these commands, and each insert of known leaf concepts is acknowledged or ended for want of memory.
pub record HasRun (with : Use) (h : List Dimension) (commands : List Command) (history : List Event) : Type 0 where
  pub right : IsRight (site_of with h) history
  pub run : IsRunOf with h commands history
  pub inserts : AllZip (InsertEnds h history) commands (places with commands history)

-- whether each actor is to have a thread
abbrev pub wants_threads : Wanted → Bool
wants_threads Run = true
wants_threads (Load rows seed threads) = threads
wants_threads wanted = false

abbrev pub has_commands : Script → Bool
has_commands s = nat_lt 0 (length s.commands)

-- A script without commands needs no threads: one has nothing to do.
abbrev pub on_threads : Wanted → Script → Bool
on_threads wanted s = wants_threads wanted && has_commands s

-- On one thread the commands go one after the other; or whose turn it is the seed's generator draws, from the first phase on.
abbrev pub schedule_of : Wanted → Schedule
schedule_of (Seeded seed) = schedule_is.Seed (pcg32_of_seed (pcg32_seed 16 seed))
schedule_of wanted = schedule_is.Order

abbrev pub goes_in_order : Wanted → Bool
goes_in_order wanted = if wants_threads wanted then false else is_order (schedule_of wanted)

-- the history is a part of a run of this script, and in it the commands begin in order, each when the one before has ended
pub record RunsInOrder (s : Script) (history : List Event) : Type 0 where
  pub part : IsRunSoFar s.with s.hierarchy s.commands history
  pub serial : IsSerial s.with s.commands history

pub record IsSerialRun (wanted : Wanted) (left_before left_now : Option (List ℕ)) (history : List Event) : Type 0 where
  pub script : Script
  pub read : IsAskedScript wanted left_before left_now script
  pub runs : RunsInOrder script history

-- The history comes to an answer behind a settle that was fine, and no insert has begun since.
pub record IsBehindSettle (past : List Event) : Type 0 where
  pub since : List Event
  pub of : ℕ
  pub before : List Event
  pub ended : past ≡ since ++ Ended of Fine ∷ before
  pub called : call_at before of ≡ Some Settle
  pub none_begun : begun since ≡ []

-- There each answer, whichever server gives it, is the aggregate of all matching rows that were acknowledged before it.
abbrev pub AreOfAllBehindSettles : List Dimension → List Event → Type 0
AreOfAllBehindSettles h history =
    (later past : List Event) (of : ℕ) (answer : Aggregate) (query : Query) → history ≡ later ++ Answered of answer ∷ past
    → query_at past of ≡ Some query → IsBehindSettle past
    → answer ≡ agg (filter (λ (r : Row). matches h query.filter r.at) (acked_rows past))

pub record IsSettlingRun (wanted : Wanted) (left_before left_now : Option (List ℕ)) (history : List Event) : Type 0 where
  pub script : Script
  pub read : IsAskedScript wanted left_before left_now script
  pub of_all : AreOfAllBehindSettles script.hierarchy history

-- What each answer says.

-- the script that was asked for ran, and the sink took its whole text
pub record IsDone (wanted : Wanted) (left_before left_now taken_before taken_now : Option (List ℕ)) (history : List Event) : Type 0 where
  pub script : Script
  pub read : IsAskedScript wanted left_before left_now script
  pub ran : HasRun script.with script.hierarchy script.commands history
  pub took : Appends taken_before taken_now (asked_text wanted script history)

-- The script ran up to the end of a phase, in whose text the sink failed: it took the first bytes of the text, and the
-- whole text of the phases before.
pub record RanToPhase (s : Script) (taken_before taken_now : Option (List ℕ)) (history : List Event) : Type 0 where
  pub phase : ℕ
  pub ran : HasRun s.with s.hierarchy (phases_to (phase + 1) s.commands) history
  pub took : TookPart taken_before taken_now (told s.with s.commands history)
  pub phases : length (told_to phase s.with s.commands history) ≤ took.count

-- The whole script ran, and the sink failed in its summary, of which it took the first bytes.
pub record RanToSummary (rows seed : ℕ) (s : Script) (taken_before taken_now : Option (List ℕ)) (history : List Event) : Type 0 where
  pub ran : HasRun s.with s.hierarchy s.commands history
  pub took : TookPart taken_before taken_now (summary rows seed s.with s.commands history)

-- the script ran up to where the sink failed
abbrev pub RanTo : Wanted → Script → Option (List ℕ) → Option (List ℕ) → List Event → Type 0
RanTo (Load rows seed threads) s taken_before taken_now history = RanToSummary rows seed s taken_before taken_now history
RanTo wanted s taken_before taken_now history = RanToPhase s taken_before taken_now history

pub record IsCutOff (wanted : Wanted) (left_before left_now taken_before taken_now : Option (List ℕ)) (history : List Event) : Type 0 where
  pub script : Script
  pub read : IsAskedScript wanted left_before left_now script
  pub ran : RanTo wanted script taken_before taken_now history

-- The script ran into a phase, in which memory ran out, or behind the last one, where none was found for a summary. The sink took
-- the whole text of the phases before, and nothing of a summary. An insert of known leaf concepts that is over was acknowledged or
-- ended for want of memory.
pub record RanInto (wanted : Wanted) (s : Script) (taken_before taken_now : Option (List ℕ)) (history : List Event) : Type 0 where
  pub phase : ℕ
  pub right : IsRight (site_of s.with s.hierarchy) history
  pub run : IsRunInto phase s.with s.hierarchy s.commands history
  pub inserts : AllZip (λ c p. IsTrue (is_over_at history p) → InsertEnds s.hierarchy history c p) s.commands (places s.with s.commands history)
  pub took : Appends taken_before taken_now (asked_text_to phase wanted s history)

pub record IsStarved (wanted : Wanted) (left_before left_now taken_before taken_now : Option (List ℕ)) (history : List Event) : Type 0 where
  pub script : Script
  pub read : IsAskedScript wanted left_before left_now script
  pub ran : RanInto wanted script taken_before taken_now history

-- what was read is no script: the sink took the line that tells the first bad record and its first cause, or failed at a part of it
pub record IsNoScript (left_before left_now taken_before taken_now : Option (List ℕ)) (faults_before faults_now : ℕ) : Type 0 where
  pub bytes : List ℕ
  pub read : IsReadWhole left_before left_now bytes
  pub at : ℕ
  pub cause : Cause
  pub no_script : script (records_of bytes) ≡ Err (Bad at cause)
  pub took : Appends taken_before taken_now (bad_line at cause)
      ⊎ (Rose faults_before faults_now × TookPart taken_before taken_now (bad_line at cause))

-- the source tells its bytes, and they are a script
pub record IsGoodScript (left : Option (List ℕ)) : Type 0 where
  pub bytes : List ℕ
  pub tells : left ≡ Some bytes
  pub few : length bytes ≤ 2 ^ 26
  pub is_script : (s : Script) × (script (records_of bytes) ≡ Ok s)

-- there is a good script: the generated text is one, and else the source tells its bytes, and they are one
abbrev pub HasGoodScript : Wanted → Option (List ℕ) → Type 0
HasGoodScript (Load rows seed threads) left = ⊤
HasGoodScript wanted left = IsGoodScript left
