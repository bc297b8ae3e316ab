-- What is printed of a script, with the history that tells it.
use Rattle.std.specs.Prelude.{ℕ, ◌≡◌, Ok, Err, List}
use Rattle.answer_text.specs.Printed.{told}
use Rattle.row_ledger.specs.declared.event.Event.{Event}
use Rattle.script_form.specs.{Scripts.{records_of, script}, declared.script.Cause.Cause, declared.script.Script.Script, declared.script.ScriptFault.TheVariants.Bad}
use Rattle.olap_top.specs.Outcomes.{HasRun}

-- the bytes are a script, the history is right and a run of exactly its commands, and the text is what that history tells
pub record IsAnswer (bytes text : List ℕ) (history : List Event) : Type 0 where
  pub asked : Script
  pub read : script (records_of bytes) ≡ Ok asked
  pub ran : HasRun asked.with asked.hierarchy asked.commands history
  pub text_is : text ≡ told asked.with asked.commands history

-- the bytes are no script: one of their records is bad
pub record IsBadText (bytes : List ℕ) : Type 0 where
  pub at : ℕ
  pub cause : Cause
  pub bad : script (records_of bytes) ≡ Err (Bad at cause)
