-- Lines as rows are added one after the other.
use Rattle.std.specs.Prelude.{ℕ, ◌≡◌, ◌==◌, ◌≤◌, nat_lt, if◌then◌else◌, Bool, true, false, List, [], ◌∷◌, ◌++◌, length, map, take, drop, slice_get, IfSome}
use Rattle.dc_node.specs.Summary.{IsSummaryOf}
use Rattle.describing_set.specs.declared.set.DescSet.{DescSet}
use Rattle.dim_hierarchy.specs.{Filter.matches, declared.row.Row.Row}
use Rattle.measure_agg.specs.{Aggregate.Aggregate, Joining.{join, one}}
use Rattle.group_answer.specs.{Groups.{Question, concept_of, line}, Telling.{IsNarrow, IsOfAll}}
use Rattle.row_ledger.specs.declared.page.GroupLine.{GroupLine}

-- lines, as a value of their own
pub record LinesValue : Type 0 where
  pub items : List GroupLine

abbrev pub concepts_in : List GroupLine → List ℕ
concepts_in lines = map (λ (x : GroupLine). x.id) lines

-- ascending lines with an aggregate more for a concept, which may have a line already
abbrev pub with_line : ℕ → Aggregate → List GroupLine → List GroupLine
with_line id total [] = line id total ∷ []
with_line id total (x ∷ xs) =
    if nat_lt id x.id then line id total ∷ x ∷ xs else (if id == x.id then line id (join x.agg total) ∷ xs else x ∷ with_line id total xs)

-- with a row more, where it matches
abbrev pub with_row : Question → Row → List GroupLine → List GroupLine
with_row q row lines = if matches q.hierarchy q.filter row.at then with_line (concept_of q row) (one row.measures) lines else lines

-- with several rows more
abbrev pub with_rows : Question → List Row → List GroupLine → List GroupLine
with_rows q [] lines = lines
with_rows q (row ∷ rows) lines = with_rows q rows (with_row q row lines)

-- the place of a concept's line, or the one where it goes
pub record IsPlaceOf (id : ℕ) (lines : List GroupLine) (at : ℕ) : Type 0 where
  pub within : at ≤ length lines
  pub front : (total : Aggregate) → with_line id total lines ≡ take at lines ++ with_line id total (drop at lines)
  pub next : IfSome (slice_get lines at) (λ (x : GroupLine). id ≤ x.id)

-- the rows of a set and its aggregate were added, or none; the rows were added wherever the set tells all
pub record IsAdded (q : Question) (set : DescSet) (total : Aggregate) (before now : List GroupLine) (done : Bool) : Type 0 where
  pub told : (rows : List Row) → IsSummaryOf q.hierarchy rows total set → done ≡ true → now ≡ with_rows q rows before
  pub kept : done ≡ false → now ≡ before
  pub known : IsOfAll q → IsNarrow q set → done ≡ true
