-- The script that a list of records is, or where and why it is bad.
use Rattle.std.specs.{Option.{option_or, option_to_list}, Prelude.{ℕ, pos, ◌+◌, Option, Some, None, option_map, unwrap_or, Result, Ok, Err, if◌then◌else◌, List, [], ◌∷◌, ◌++◌, length, drop, map, fold, slice_set}}
use Rattle.csv.specs.Reading.{default_config, records, strip_bom}
use Rattle.dim_hierarchy.specs.{Dimension.{Dimension, dimension, find_dim, new_dimension, with_concept}, declared.filter.NamePick.NamePick}
use Rattle.dim_hierarchy.specs.declared.filter.NamePick.TheVariants as pick
use Rattle.row_ledger.specs.{declared.settings.Call.Call, declared.settings.Use.Use}
use Rattle.row_ledger.specs.declared.settings.Call.TheVariants as call
use Rattle.script_form.specs.{Causes.{cause_at, parent_of}, Fields.{Record, field, is_star, measure_of, pieces, value_of}, Table.kind_of, declared.script.Cause.Cause, declared.script.Command.Command, declared.script.Script.Script, declared.script.ScriptFault.ScriptFault, declared.table.Kind.Kind}
use Rattle.script_form.specs.declared.script.Cause.TheVariants as cause
use Rattle.script_form.specs.declared.script.Command.TheVariants as command
use Rattle.script_form.specs.declared.script.ScriptFault.TheVariants as fault
use Rattle.script_form.specs.declared.table.Kind.TheVariants as kind

-- the records of a text: comma, double quotes, any number of fields, one leading byte order mark dropped
abbrev pub records_of : List ℕ → List Record
records_of text = records default_config (strip_bom text)

-- Settings.

abbrev pub default_settings : Use
default_settings = record { servers = 2; workers = 2; threads = 2; cells = 16384 }

abbrev pub settings_in : Record → Use
settings_in r = record { servers = value_of (field r 1); workers = value_of (field r 2); threads = value_of (field r 3); cells = value_of (field r 4) }

abbrev pub settings_with : Option Kind → Use → Record → Use
settings_with (Some kind.Use) with r = settings_in r
settings_with _ with r = with

-- The hierarchy.

abbrev pub with_named : List Dimension → ℕ → List ℕ → ℕ → List Dimension
with_named h dim name parent = slice_set h dim (with_concept (dimension h dim) name parent)

-- with the concept of a record in the dimension with this number
abbrev pub concept_added : List Dimension → ℕ → Record → List Dimension
concept_added h dim r = with_named h dim (field r 2) (unwrap_or (parent_of h dim (field r 3)) 0)

abbrev pub hierarchy_with : Option Kind → List Dimension → Record → List Dimension
hierarchy_with (Some kind.Dim) h r = h ++ new_dimension (field r 1) (value_of (field r 2)) ∷ []
hierarchy_with (Some kind.Concept) h r = concept_added h (unwrap_or (find_dim h (field r 1)) 0) r
hierarchy_with _ h r = h

-- The commands.

abbrev pub pick_of : List ℕ → NamePick
pick_of text = if is_star text then pick.All else pick.Any (pieces text)

-- the called command that a record of a kind is, if it is one without names
abbrev pub call_by : Kind → Record → Option Call
call_by kind.Sync r = Some (call.Sync (value_of (field r 1)))
call_by kind.Split r = Some (call.Split (value_of (field r 1)))
call_by kind.Move r = Some (call.Move (value_of (field r 1)) (value_of (field r 2)))
call_by kind.Balance r = Some (call.Balance (value_of (field r 1)))
call_by kind.Barrier r = Some call.Barrier
call_by kind.Settle r = Some call.Settle
call_by kind.Shards r = Some call.Shards
call_by kind.Tree r = Some (call.Tree (value_of (field r 1)))
call_by kind.Audit r = Some call.Audit
call_by other r = None

-- the command that a record of a kind is, if it is one, where these dimensions stand
abbrev pub command_by : Option Kind → List Dimension → Record → Option Command
command_by (Some kind.Insert) h r =
    Some (command.Insert (record { server = value_of (field r 1); measures = unwrap_or (measure_of (field r 2)) (pos 0); names = drop 3 r }))
command_by (Some kind.Query) h r = Some (command.Query (record { server = value_of (field r 1); filter = map pick_of (drop 2 r) }))
command_by (Some kind.Group) h r = Some (command.Group (unwrap_or (find_dim h (field r 1)) 0) (value_of (field r 2)) (map pick_of (drop 3 r)))
command_by (Some k) h r = option_map command.Control (call_by k r)
command_by None h r = None

abbrev pub command_of : List Dimension → Record → Option Command
command_of h r = command_by (kind_of (field r 0)) h r

-- The whole.

-- the script without a record
abbrev pub nothing : Script
nothing = record { with = default_settings; hierarchy = []; commands = [] }

-- the script of the records before it, after one more
abbrev pub after : Script → Record → Script
after s r = record { with = settings_with (kind_of (field r 0)) s.with r; hierarchy = hierarchy_with (kind_of (field r 0)) s.hierarchy r; commands = s.commands ++ option_to_list (command_of s.hierarchy r) }

-- the script of records of which none is bad
abbrev pub script_of : List Record → Script
script_of rs = fold after nothing rs

-- the first cause of a record, given the records before it
abbrev pub first_cause : List Record → Record → Option Cause
first_cause before r = cause_at (length before) (script_of before) r

-- the first fault of records that stand behind others
abbrev pub first_fault : List Record → List Record → Option ScriptFault
first_fault before [] = None
first_fault before (r ∷ rest) =
    option_or (option_map (λ c. fault.Bad (length before + 1) c) (first_cause before r)) (first_fault (before ++ r ∷ []) rest)

abbrev pub unless : Option ScriptFault → Script → Result Script ScriptFault
unless None s = Ok s
unless (Some f) s = Err f

-- the script that records are, or the first fault
abbrev pub script : List Record → Result Script ScriptFault
script [] = Err (fault.Bad 1 cause.Version)
script (r ∷ rest) = unless (first_fault [] (r ∷ rest)) (script_of (r ∷ rest))
