-- The causes for which a record is bad, given the script of the records before it.
use Rattle.std.specs.{List.list_all, Prelude.{ℕ, ◌+◌, ◌==◌, ◌&&◌, ◌||◌, not, Bool, true, Option, Some, None, is_some, nat_le, option_and_then, if◌then◌else◌, List, [], ◌∷◌, length, drop, bytes_eq, codes}}
use Rattle.dim_hierarchy.specs.{Dimension.{Dimension, concept_fault, dim_fault, find, find_dim, tree}, Tree.leaf_level, declared.hierarchy.ConceptFault.ConceptFault, declared.hierarchy.DimFault.DimFault}
use Rattle.dim_hierarchy.specs.declared.hierarchy.DimFault.TheVariants as dim
use Rattle.dim_hierarchy.specs.declared.hierarchy.ConceptFault.TheVariants as concept
use Rattle.script_form.specs.{Fields.{Record, field, in_range, is_below, is_name, is_pick, is_star, measure_of, value_of}, Table.{form_of, kind_of, width}, declared.script.Cause.Cause, declared.script.Script.Script, declared.table.Each.Each, declared.table.Field.Field, declared.table.Kind.Kind}
use Rattle.script_form.specs.declared.script.Cause.TheVariants as cause
use Rattle.script_form.specs.declared.table.Each.TheVariants as each
use Rattle.script_form.specs.declared.table.Field.TheVariants as must
use Rattle.script_form.specs.declared.table.Kind.TheVariants as kind

abbrev pub is_version : Record → Bool
is_version r = (length r == 2) && bytes_eq (field r 0) (codes "volap") && bytes_eq (field r 1) (codes "1")

-- a record that may not stand behind so many records and their script
abbrev pub wrong_order : ℕ → Script → Kind → Bool
wrong_order place before kind.Volap = not (place == 0)
wrong_order place before kind.Use = not (place == 1)
wrong_order place before kind.Dim = not (length before.commands == 0)
wrong_order place before kind.Concept = not (length before.commands == 0)
wrong_order place before _ = length before.hierarchy == 0

-- a field that must be a number is none in its range, where there are so many servers

abbrev pub is_number : ℕ → Field → List ℕ → Bool
is_number servers must.Server text = is_below text servers
is_number servers (must.Below limit) text = is_below text limit
is_number servers (must.Range low high) text = in_range text low high
is_number servers must.Measure text = is_some (measure_of text)
is_number servers _ text = true

-- the fields from a place on are as these must be
abbrev pub are_fields : (Field → List ℕ → Bool) → List Field → ℕ → Record → Bool
are_fields fits [] i r = true
are_fields fits (f ∷ fs) i r = fits f (field r i) && are_fields fits fs (i + 1) r

abbrev pub wrong_number : ℕ → Kind → Record → Bool
wrong_number servers k r = not (are_fields (is_number servers) (form_of k).fields 1 r)

-- a field that must be a name, or a piece of a filter, is none

abbrev pub is_named : Field → List ℕ → Bool
is_named must.Name text = is_name text
is_named must.Parent text = is_star text || is_name text
is_named _ text = true

abbrev pub are_each : Each → Record → Bool
are_each each.Nothing texts = true
are_each each.Name texts = list_all is_name texts
are_each each.Pick texts = list_all is_pick texts

abbrev pub wrong_name : Kind → Record → Bool
wrong_name k r = not (are_fields is_named (form_of k).fields 1 r && are_each (form_of k).each (drop (1 + length (form_of k).fields) r))

-- What the hierarchy says against a dimension, a concept or a group.

abbrev pub dim_cause : DimFault → Option Cause
dim_cause dim.Full = Some cause.DimFull
dim_cause dim.Twice = Some cause.DimTwice
dim_cause dim.BadLevels = Some cause.Number
dim_cause dim.NoMemory = None

abbrev pub concept_cause : ConceptFault → Option Cause
concept_cause concept.NoDim = Some cause.NoDim
concept_cause concept.NoParent = Some cause.NoParent
concept_cause concept.Twice = Some cause.ConceptTwice
concept_cause concept.TooDeep = Some cause.TooDeep
concept_cause concept.NoMemory = None

-- the concept that a field names as a parent: ALL for `*`
abbrev pub parent_of : List Dimension → ℕ → List ℕ → Option ℕ
parent_of h dim name = if is_star name then Some 0 else find h dim name

-- against a concept of this name, by its dimension and its parent where these stand
abbrev pub cause_under : List Dimension → ℕ → List ℕ → Option ℕ → Option Cause
cause_under h dim name None = Some cause.NoParent
cause_under h dim name (Some parent) = option_and_then concept_cause (concept_fault h dim name parent)

abbrev pub cause_in : List Dimension → Option ℕ → Record → Option Cause
cause_in h None r = Some cause.NoDim
cause_in h (Some dim) r = cause_under h dim (field r 2) (parent_of h dim (field r 3))

-- against a group by a level of a dimension, if it stands
abbrev pub group_cause : List Dimension → Option ℕ → ℕ → Option Cause
group_cause h None level = Some cause.NoDim
group_cause h (Some dim) level = if nat_le level (leaf_level (tree h dim)) then None else Some cause.TooDeep

abbrev pub hierarchy_cause : List Dimension → Kind → Record → Option Cause
hierarchy_cause h kind.Dim r = option_and_then dim_cause (dim_fault h (field r 1) (value_of (field r 2)))
hierarchy_cause h kind.Concept r = cause_in h (find_dim h (field r 1)) r
hierarchy_cause h kind.Group r = group_cause h (find_dim h (field r 1)) (value_of (field r 2))
hierarchy_cause h _ r = None

-- The first cause of a record, in the order in which causes count.

abbrev pub cause_by_kind : ℕ → Script → Option Kind → Record → Option Cause
cause_by_kind place before None r = Some cause.Kind
cause_by_kind place before (Some k) r =
    if wrong_order place before k then Some cause.Order
    else if not (length r == width k (length before.hierarchy)) then Some cause.Fields
    else if wrong_number before.with.servers k r then Some cause.Number
    else if wrong_name k r then Some cause.Name
    else hierarchy_cause before.hierarchy k r

-- the first cause of a record behind so many records and their script
abbrev pub cause_at : ℕ → Script → Record → Option Cause
cause_at place before r =
    if (place == 0) && not (is_version r) then Some cause.Version
    else cause_by_kind place before (kind_of (field r 0)) r
