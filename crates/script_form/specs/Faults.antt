-- What contracts say of records that are a script, or have a first fault.
use Rattle.std.specs.Prelude.{ℕ, ◌≡◌, ◌+◌, Some, None, Result, Ok, Err, ⊤, List, ◌∷◌, ◌++◌, length}
use Rattle.script_form.specs.{Fields.Record, Scripts.first_cause, declared.script.Cause.Cause, declared.script.Script.Script, declared.script.ScriptFault.ScriptFault}
use Rattle.script_form.specs.declared.script.ScriptFault.TheVariants as fault

-- want of memory, or this answer
abbrev pub IsAnswer : Result Script ScriptFault → Result Script ScriptFault → Type 0
IsAnswer answer (Ok s) = answer ≡ Ok s
IsAnswer answer (Err (fault.Bad at cause)) = answer ≡ Err (fault.Bad at cause)
IsAnswer answer (Err fault.NoMemory) = ⊤

-- none of the records has a cause, each behind those before it
abbrev pub AreFine : List Record → Type 0
AreFine rs = (before : List Record) (r : Record) (after : List Record) → rs ≡ before ++ r ∷ after → first_cause before r ≡ None

-- the record with this number is the first with a cause, and this is its first cause
pub record IsFirstFault (rs : List Record) (at : ℕ) (c : Cause) : Type 0 where
  pub front : List Record
  pub bad : Record
  pub rest : List Record
  pub whole : rs ≡ front ++ bad ∷ rest
  pub fine : AreFine front
  pub cause : first_cause front bad ≡ Some c
  pub number : at ≡ length front + 1
