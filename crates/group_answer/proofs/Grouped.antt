-- Lines to which rows are added are the groups of these rows, in whatever order they come.
use Rattle.std.proofs.{Common.{ℕ, ◌≡◌, ◌≢◌, true, false, List, [], ◌∷◌, ◌++◌, map, refl, sym, ap, ◌∙◌, arith, inl, inr}, lemmas.Bool.{eq-eqb, ne_eqb}, lemmas.List.append-nil}
use Rattle.describing_set.specs.{Ascending.{ascending, with_id}, Sorted.{Ascends, In}}
use Rattle.describing_set.proofs.Sorted.{Ascends-ascending, Below-In, In-ascending, three_ways, with_id-after, with_id-before, with_id-here}
use Rattle.dim_hierarchy.specs.{Filter.matches, declared.row.Row.Row}
use Rattle.list_words.proofs.Truth.{on_bool}
use Rattle.measure_agg.specs.{Aggregate.{Aggregate, agg}, Joining.{join, one}}
use Rattle.measure_agg.proofs.AggLaws.{agg-append, agg-one, join_commutative, join_empty_left}
use Rattle.group_answer.specs.{Adding.{with_line, with_row, with_rows}, Groups.{Question, all_of, concept_of, groups, line, matching, under}}
use Rattle.row_ledger.specs.declared.page.GroupLine.{GroupLine}
use Rattle.row_ledger.proofs.Grouping.{groups-shuffled, shuffled-same}
use Rattle.group_answer.proofs.{LineSteps.{all-with_line, line-after, line-before, line-here}, RowSteps.{row-in, row-out}}

-- Lines of a function of the concept.

abbrev lines_by : (ℕ → Aggregate) → List ℕ → List GroupLine
lines_by f ids = map (λ (id : ℕ). line id (f id)) ids

-- functions that agree on all concepts but one
same-lines : (id : ℕ) (f g : ℕ → Aggregate) → ((x : ℕ) → x ≢ id → f x ≡ g x) → (ids : List ℕ) → ((x : ℕ) → In x ids → x ≢ id) → lines_by f ids ≡ lines_by g ids
same-lines id f g agree [] other = refl
same-lines id f g agree (x ∷ ids) other =
    let here = agree x (other x (inl refl)) in
    let rest = same-lines id f g agree ids (λ y i. other y (inr i)) in
    λ k. line x (here k) ∷ rest k

line-added : (id : ℕ) (total : Aggregate) (f g : ℕ → Aggregate) → ((x : ℕ) → x ≢ id → f x ≡ g x) → g id ≡ join (f id) total → (ids : List ℕ) → Ascends ids → ((¬ In id ids) → f id ≡ agg [])
    → with_line id total (lines_by f ids) ≡ lines_by g (with_id id ids)
line-added id total f g agree more [] ascends none =
    let is : g id ≡ total = more ∙ ap (λ (a : Aggregate). join a total) (none (λ i. i)) ∙ join_empty_left total in
    ap (λ (a : Aggregate). line id a ∷ []) (sym is)
line-added id total f g agree more (x ∷ ids) ascends none = elim (three_ways id x) [
  | inl h ↦
      let away : (y : ℕ) → In y (x ∷ ids) → y ≢ id = λ y i e. elim i [ inl q ↦ absurd (omega (arith, h, q, e)) | inr j ↦ let low = Below-In x y ids ascends.0 j in absurd (omega (arith, h, low, e)) ] in
      let is : g id ≡ total = more ∙ ap (λ (a : Aggregate). join a total) (none (λ i. away id i refl)) ∙ join_empty_left total in
      let rest = same-lines id f g agree (x ∷ ids) away in
      line-before id total (line x (f x)) (lines_by f ids) h ∙ (let back = sym is in λ k. line id (back k) ∷ rest k) ∙ ap (lines_by g) (sym (with_id-before id x ids h))
  | inr e ↦ elim e [
    | inl h ↦
        let away : (y : ℕ) → In y ids → y ≢ id = λ y i q. (let low = Below-In x y ids ascends.0 i in absurd (omega (arith, h, low, q))) in
        let rest = same-lines id f g agree ids away in
        let is : join (f x) total ≡ g id = ap (λ (y : ℕ). join (f y) total) (sym h) ∙ sym more in
        line-here id total (line x (f x)) (lines_by f ids) h ∙ (λ k. line id (is k) ∷ rest k) ∙ ap (λ (y : ℕ). line y (g y) ∷ lines_by g ids) h ∙ ap (lines_by g) (sym (with_id-here id x ids h))
    | inr h ↦
        let here = agree x (λ q. absurd (omega (arith, h, q))) in
        let rest = line-added id total f g agree more ids ascends.1 (λ out. none (λ i. elim i [ inl q ↦ absurd (omega (arith, h, q)) | inr j ↦ out j ])) in
        line-after id total (line x (f x)) (lines_by f ids) h ∙ (λ k. line x (here k) ∷ rest k) ∙ ap (lines_by g) (sym (with_id-after id x ids h))
  ]
]

-- Groups.

module _ (q : Question) where
  abbrev ids : List Row → List ℕ
  ids rows = map (concept_of q) rows

  under-here : (row : Row) (rows : List Row) → under q (concept_of q row) (row ∷ rows) ≡ row ∷ under q (concept_of q row) rows
  under-here row rows = rw (eq-eqb (concept_of q row) (concept_of q row) refl) refl

  under-other : (id : ℕ) (row : Row) (rows : List Row) → id ≢ concept_of q row → under q id (row ∷ rows) ≡ under q id rows
  under-other id row rows ne = rw (ne_eqb (concept_of q row) id (λ e. ne (sym e))) refl

  -- a concept that none of the rows is under
  under-none : (id : ℕ) (rows : List Row) → (¬ In id (ids rows)) → under q id rows ≡ []
  under-none id [] out = refl
  under-none id (row ∷ rows) out = under-other id row rows (λ e. out (inl e)) ∙ under-none id rows (λ i. out (inr i))

  matching-in : (row : Row) (rows : List Row) → matches q.hierarchy q.filter row.at ≡ true → matching q (row ∷ rows) ≡ row ∷ matching q rows
  matching-in row rows m = rw m refl

  matching-out : (row : Row) (rows : List Row) → matches q.hierarchy q.filter row.at ≡ false → matching q (row ∷ rows) ≡ matching q rows
  matching-out row rows m = rw m refl

  -- the groups of rows that all match
  abbrev groups_in : List Row → List GroupLine
  groups_in rows = lines_by (λ (id : ℕ). agg (under q id rows)) (ascending (ids rows))

  grouped-in : (row : Row) (rows : List Row) → with_line (concept_of q row) (one row.measures) (groups_in rows) ≡ groups_in (row ∷ rows)
  grouped-in row rows =
      let id = concept_of q row in
      let f : ℕ → Aggregate = λ (x : ℕ). agg (under q x rows) in
      let g : ℕ → Aggregate = λ (x : ℕ). agg (under q x (row ∷ rows)) in
      let more : g id ≡ join (f id) (one row.measures) =
      ap agg (under-here row rows) ∙ agg-append (row ∷ []) (under q id rows) ∙ ap (λ (a : Aggregate). join a (f id)) (agg-one row) ∙ join_commutative (one row.measures) (f id) in
      line-added id (one row.measures) f g (λ x ne. ap agg (sym (under-other x row rows ne))) more (ascending (ids rows)) (Ascends-ascending (ids rows))
      (λ out. ap agg (under-none id rows (λ i. out (In-ascending id (ids rows) i))))

  pub row-grouped : (row : Row) (rows : List Row) → with_row q row (groups q rows) ≡ groups q (row ∷ rows)
  row-grouped row rows = on_bool (matches q.hierarchy q.filter row.at)
      (λ m. row-in q row (groups q rows) m ∙ grouped-in row (matching q rows) ∙ ap groups_in (sym (matching-in row rows m)))
      (λ m. row-out q row (groups q rows) m ∙ ap groups_in (sym (matching-out row rows m)))

  -- the lines together are all rows that match
  pub all-groups : (rows : List Row) → all_of (groups q rows) ≡ agg (matching q rows)
  all-groups [] = refl
  all-groups (row ∷ rows) =
      let before = all-groups rows in
      on_bool (matches q.hierarchy q.filter row.at)
      (λ m. ap all_of (sym (row-grouped row rows) ∙ row-in q row (groups q rows) m) ∙ all-with_line (concept_of q row) (one row.measures) (groups q rows)
      ∙ ap (join (one row.measures)) before ∙ ap (λ (a : Aggregate). join a (agg (matching q rows))) (sym (agg-one row)) ∙ sym (agg-append (row ∷ []) (matching q rows)) ∙ ap agg (sym (matching-in row rows m)))
      (λ m. ap all_of (sym (row-grouped row rows) ∙ row-out q row (groups q rows) m) ∙ before ∙ ap agg (sym (matching-out row rows m)))

  -- rows that are added one after the other
  rows-grouped : (more rows : List Row) → with_rows q more (groups q rows) ≡ groups q (rows ++ more)
  rows-grouped [] rows = ap (groups q) (sym (append-nil rows))
  rows-grouped (row ∷ more) rows =
      ap (with_rows q more) (row-grouped row rows)
      ∙ rows-grouped more (row ∷ rows)
      ∙ groups-shuffled q (row ∷ (rows ++ more)) (rows ++ row ∷ more) (rows, more, refl, shuffled-same (rows ++ more))

  pub grouped : (rows : List Row) → with_rows q rows [] ≡ groups q rows
  grouped rows = rows-grouped rows []
