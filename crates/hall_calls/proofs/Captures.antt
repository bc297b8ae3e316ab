-- A closure may go to another thread where all that it captures may.
use mathlib.Core.List.{List, [], ◌∷◌}
use denote.RattleType.{RattleType}
use denote.Struct.Field.{row_field}
use denote.Struct.Tuple.{TupleAt, parts, type_at}
use denote.Param.{param}
use denote.Param.Send.{IsSend, param_send}
use denote.Param.SendFields.{FieldsHave, as_row_send, declared_send}

abbrev Each : List RattleType → Type 0
Each [] = Unit {0}
Each (T ∷ Ts) = IsSend T × Each Ts

-- each of these may
pub record AllSend (Ts : List RattleType) : Type 0 where
  each : Each Ts

pub all-none : AllSend []
all-none = record { each = tt }

pub all-more : {T : RattleType} {Ts : List RattleType} → IsSend T → AllSend Ts → AllSend (T ∷ Ts)
all-more s ss = record { each = (s, ss.each) }

fields : (Ts : List RattleType) → Each Ts → FieldsHave IsSend (parts Ts)
fields [] s = tt
fields (T ∷ Ts) s = (as_row_send (row_field T) s.0, fields Ts s.1)

-- as `join` sends its first closure, whatever the closure's name is
pub captured : {Ts : List RattleType} → AllSend Ts → IsSend (param 1 (TupleAt [] Ts))
captured {Ts} s = param_send 1 (TupleAt [] Ts) (declared_send (type_at [] Ts) (fields Ts s.each))
