-- Rows by the concept of a level that they are under: which concepts these are, and the aggregate of each one's rows.
use Rattle.std.specs.Prelude.{ℕ, ◌≡◌, ◌==◌, ◌<◌, ◌≤◌, ⊤, List, length, map, filter}
use Rattle.dim_hierarchy.specs.{Dimension.{Dimension, tree}, Filter.{IsFilterOf, matches}, Row.concept_at, Tree.{leaf_level, up}, declared.filter.Pick.Pick, declared.row.Row.Row}
use Rattle.describing_set.specs.Ascending.{ascending}
use Rattle.measure_agg.specs.Aggregate.{Aggregate, agg}
use Rattle.row_ledger.specs.{declared.page.GroupLine.GroupLine, declared.page.GroupPage.GroupPage, declared.settings.Call.Call, declared.settings.Call.TheVariants.Group}

-- which rows are asked for, and by which level of which dimension they are told apart
pub record Question : Type 0 where
  pub hierarchy : List Dimension
  pub filter : List Pick
  pub dim : ℕ
  pub level : ℕ

abbrev pub question : List Dimension → List Pick → (dim level : ℕ) → Question
question h f dim level = record { hierarchy = h; filter = f; dim = dim; level = level }

-- the filter is one of the hierarchy, and the dimension has that level
pub record IsQuestion (q : Question) : Type 0 where
  pub filter : IsFilterOf q.hierarchy q.filter
  pub dim : q.dim < length q.hierarchy
  pub level : q.level ≤ leaf_level (tree q.hierarchy q.dim)

-- a group that is called asks a question of the hierarchy
abbrev pub IsCallOf : List Dimension → Call → Type 0
IsCallOf h (Group dim level filter) = IsQuestion (question h filter dim level)
IsCallOf h other = ⊤

-- the rows that the filter matches
abbrev pub matching : Question → List Row → List Row
matching q rows = filter (λ (r : Row). matches q.hierarchy q.filter r.at) rows

-- the concept of that level that a row is under
abbrev pub concept_of : Question → Row → ℕ
concept_of q row = up (tree q.hierarchy q.dim) (concept_at row.at q.dim) q.level

-- the rows under a concept
abbrev pub under : Question → ℕ → List Row → List Row
under q id rows = filter (λ (r : Row). concept_of q r == id) rows

abbrev pub line : ℕ → Aggregate → GroupLine
line id total = record { id = id; agg = total }

-- ascending, the concepts of that level that a matching row is under, each with the aggregate of these rows
abbrev pub groups : Question → List Row → List GroupLine
groups q rows = map (λ (id : ℕ). line id (agg (under q id (matching q rows)))) (ascending (map (concept_of q) (matching q rows)))

-- the page of these rows
pub record IsGroupPage (q : Question) (rows : List Row) (page : GroupPage) : Type 0 where
  pub lines : page.lines ≡ groups q rows
  pub all : page.all ≡ agg (matching q rows)
