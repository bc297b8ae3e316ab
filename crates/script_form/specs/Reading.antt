-- What contracts say of a record that is read behind others.
use Rattle.std.specs.Prelude.{ℕ, ◌≡◌, ◌<◌, true, false, ⊤, Option, Some, None, length}
use Rattle.script_form.specs.{Causes.{is_version, wrong_order, wrong_number, wrong_name, hierarchy_cause, cause_at}, Fields.{Record, field}, Scripts.after, Table.{kind_of, width}, declared.record.RecordFault.RecordFault, declared.script.Cause.Cause, declared.script.Script.Script, declared.table.Kind.Kind}
use Rattle.script_form.specs.declared.record.RecordFault.TheVariants as fault

-- a record of this kind has the fields of its kind
pub record HasForm (before : Script) (k : Kind) (r : Record) : Type 0 where
  pub kind : kind_of (field r 0) ≡ Some k
  pub fields : length r ≡ width k (length before.hierarchy)
  pub number : wrong_number before.with.servers k r ≡ false
  pub name : wrong_name k r ≡ false
  pub servers : before.with.servers < 256

-- and nothing but the hierarchy can stand against it
pub record MayStand (place : ℕ) (before : Script) (k : Kind) (r : Record) : Type 0 where
  pub form : HasForm before k r
  pub version : place ≡ 0 → is_version r ≡ true
  pub order : wrong_order place before k ≡ false
  pub cause : cause_at place before r ≡ hierarchy_cause before.hierarchy k r

-- want of memory, or this cause
abbrev pub TellsCause : Option Cause → RecordFault → Type 0
TellsCause cause (fault.Bad told) = cause ≡ Some told
TellsCause cause fault.NoMemory = ⊤

-- a record that nothing stands against, with the script of those before it and with its own
pub record IsTaken (place : ℕ) (before new : Script) (r : Record) : Type 0 where
  pub kind : Kind
  pub stands : MayStand place before kind r
  pub fine : hierarchy_cause before.hierarchy kind r ≡ None
  pub script : new ≡ after before r
