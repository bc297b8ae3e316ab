-- The marks of a few concepts, and those of all others by their lineages.
use Rattle.std.specs.{Arc.arc_value, BTreeMap.BTreeMap, List.slice_index_or, Ordering.nat_cmp, Prelude.{ℕ, zero, suc, ◌≡◌, ◌+◌, ◌<◌, ◌==◌, Bool, unwrap_or, List, length, slice_index}}
use Rattle.std.specs.BTreeMap as tree
use Rattle.dim_hierarchy.specs.{Concept.{level_of, number_of}, Lineage.{Lineages, lineages_at, lineage_of, AreLineagesOf}, Marks.{listed_mark, noted, raised}, Tree.{Tree, IsConcept}, declared.few_marks.FewMarks.FewMarks, declared.filter.Pick.Pick, declared.filter.Pick.TheVariants.Ids}

-- the mark with which a concept is noted, else 0
abbrev pub noted_in : BTreeMap ℕ ℕ → ℕ → ℕ
noted_in marks id = unwrap_or (tree.get nat_cmp marks id) 0

-- the lineages beside marks
abbrev pub lineages : FewMarks → Lineages
lineages f = arc_value f.lineages

-- a concept has a lineage there, with a place for each level down to its own
pub record HasLineage (f : FewMarks) (id : ℕ) : Type 0 where
  pub level : level_of id < length (lineages f)
  pub number : number_of id < length (lineages_at (lineages f) (level_of id))
  pub long : length (lineage_of (lineages f) id) ≡ 9
  pub few : level_of id < 9

-- the mark that the first so many concepts of a lineage give the last of them
abbrev pub mark_down : BTreeMap ℕ ℕ → List ℕ → ℕ → ℕ
mark_down marks lineage zero = 0
mark_down marks lineage (suc n) = raised (mark_down marks lineage n == 2) (noted_in marks (slice_index_or lineage n 0))

-- the mark of a concept
abbrev pub few_mark : FewMarks → ℕ → ℕ
few_mark f id = mark_down f.marks (lineage_of (lineages f) id) (level_of id + 1)

-- the concept at a place has the mark of those that are picked
abbrev pub has_few_mark : List ℕ → FewMarks → ℕ → Bool
has_few_mark column f place = few_mark f (slice_index column place) == 2

-- the listed concepts are noted, and those above them
pub record AreNoted (t : Tree) (ids : List ℕ) (marks : BTreeMap ℕ ℕ) : Type 0 where
  pub each : (id : ℕ) → IsConcept t id → noted_in marks id ≡ listed_mark t ids id

-- a listed concept more was noted, and those above it
pub record NotesWay (t : Tree) (x : ℕ) (old new : BTreeMap ℕ ℕ) : Type 0 where
  pub each : (id : ℕ) → IsConcept t id → noted_in new id ≡ noted t x id (noted_in old id)

-- the marks of a pick that lists concepts
pub record AreFewMarks (t : Tree) (p : Pick) (f : FewMarks) : Type 0 where
  pub ids : List ℕ
  pub pick : p ≡ Ids ids
  pub lineages_of : AreLineagesOf t (lineages f)
  pub noted_are : AreNoted t ids f.marks
