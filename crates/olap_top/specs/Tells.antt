-- What is told of a phase, read off a history.
use Rattle.std.specs.Prelude.{ℕ, ◌≡◌, IfOk, IfSome, OnOk, Option, Result, is_some, List, reverse, take}
use Rattle.std.specs.declared.alloc.{AllocError.AllocError, Global.Global}
use Rattle.std.specs.Prelude.{Vec}
use Rattle.answer_text.specs.{Marks.RefersBack, Told.{HasTold, IsToldOf, seen_of}, declared.text.Teller.Teller}
use Rattle.row_ledger.specs.declared.{event.Event.Event, settings.Use.Use}
use Rattle.script_form.specs.declared.script.Command.{Command}
use Rattle.olap_top.specs.RunSoFar.{untold_text}

-- the commands go on behind those that are told, and the events, the oldest first, behind those that were read
pub record AsksForPhase (with : Use) (commands : List Command) (teller : Option Teller) (events : List Event) : Type 0 where
  pub told : IfSome teller (IsToldOf with commands events)
  pub refers : IfSome teller (λ t. RefersBack (reverse (take (seen_of t) events)))

-- this is their text, and they are told now; nothing without a teller
pub record TellsPhase (with : Use) (commands : List Command) (teller : Option Teller) (events : List Event) (teller_now : Option Teller) (text : Result (Vec ℕ Global) AllocError) : Type 0 where
  pub text_is : IfOk text (λ v. v.items ≡ untold_text teller with commands (reverse events))
  pub told : OnOk text (IfSome teller_now (HasTold with commands (reverse events)))
  pub same : is_some teller_now ≡ is_some teller
