-- Lines as rows are added: one by one, by an aggregate, or not at all.
use Rattle.std.proofs.{Common.{ℕ, ◌≡◌, ◌+◌, ◌≤◌, true, false, List, [], ◌∷◌, ◌++◌, length, refl, sym, ap, ◌∙◌, arith}}
use Rattle.dim_hierarchy.specs.{Filter.matches, declared.row.Row.Row}
use Rattle.list_words.specs.Counts.{Each}
use Rattle.list_words.proofs.Truth.{on_bool}
use Rattle.measure_agg.specs.{Aggregate.{Aggregate, agg}, Joining.{join, one}}
use Rattle.measure_agg.proofs.AggLaws.{agg-append, agg-one}
use Rattle.group_answer.specs.{Adding.{with_line, with_row, with_rows}, Groups.{Question, all_of, concept_of}, Telling.AreUnder}
use Rattle.row_ledger.specs.declared.page.GroupLine.{GroupLine}
use Rattle.group_answer.proofs.LineSteps.{all-with_line, line-twice}

module _ (q : Question) where
  abbrev Matches : Row → Type 0
  Matches row = matches q.hierarchy q.filter row.at ≡ true

  abbrev MatchesNot : Row → Type 0
  MatchesNot row = matches q.hierarchy q.filter row.at ≡ false

  pub row-in : (row : Row) (lines : List GroupLine) → Matches row → with_row q row lines ≡ with_line (concept_of q row) (one row.measures) lines
  row-in row lines m = rw m refl

  pub row-out : (row : Row) (lines : List GroupLine) → MatchesNot row → with_row q row lines ≡ lines
  row-out row lines m = rw m refl

  pub rows-append : (xs ys : List Row) (lines : List GroupLine) → with_rows q (xs ++ ys) lines ≡ with_rows q ys (with_rows q xs lines)
  rows-append [] ys lines = refl
  rows-append (x ∷ xs) ys lines = rows-append xs ys (with_row q x lines)

  -- a row adds one to all lines together, or nothing
  pub row-few : (row : Row) (lines : List GroupLine) → (all_of (with_row q row lines)).count ≤ (all_of lines).count + 1
  row-few row lines = on_bool (matches q.hierarchy q.filter row.at)
      (λ m. let added = ap all_of (row-in row lines m) ∙ all-with_line (concept_of q row) (one row.measures) lines in omega (arith, ap (λ (a : Aggregate). a.count) added))
      (λ m. let same = ap all_of (row-out row lines m) in omega (arith, ap (λ (a : Aggregate). a.count) same))

  pub rows-few : (rows : List Row) (lines : List GroupLine) → (all_of (with_rows q rows lines)).count ≤ (all_of lines).count + length rows
  rows-few [] lines = omega arith
  rows-few (row ∷ rows) lines = let first = row-few row lines in let rest = rows-few rows (with_row q row lines) in omega (arith, first, rest)

  -- rows that don't match
  pub rows-out : (rows : List Row) (lines : List GroupLine) → Each MatchesNot rows → with_rows q rows lines ≡ lines
  rows-out [] lines each = refl
  rows-out (row ∷ rows) lines each = ap (with_rows q rows) (row-out row lines each.0) ∙ rows-out rows lines each.1

  -- rows that are all under one concept
  rows-together : (id : ℕ) (row : Row) (rows : List Row) (lines : List GroupLine) → Each (λ (r : Row). Matches r × (concept_of q r ≡ id)) (row ∷ rows)
      → with_rows q (row ∷ rows) lines ≡ with_line id (agg (row ∷ rows)) lines
  rows-together id row [] lines each = row-in row lines each.0.0 ∙ (λ k. with_line (each.0.1 k) (one row.measures) lines) ∙ ap (λ (a : Aggregate). with_line id a lines) (sym (agg-one row))
  rows-together id row (next ∷ rows) lines each =
      let first : with_row q row lines ≡ with_line id (one row.measures) lines = row-in row lines each.0.0 ∙ ap (λ (c : ℕ). with_line c (one row.measures) lines) each.0.1 in
      let both : join (one row.measures) (agg (next ∷ rows)) ≡ agg (row ∷ next ∷ rows) = ap (λ (a : Aggregate). join a (agg (next ∷ rows))) (sym (agg-one row)) ∙ sym (agg-append (row ∷ []) (next ∷ rows)) in
      ap (with_rows q (next ∷ rows)) first
      ∙ rows-together id next rows (with_line id (one row.measures) lines) each.1
      ∙ line-twice id (one row.measures) (agg (next ∷ rows)) lines
      ∙ ap (λ (a : Aggregate). with_line id a lines) both

  pub rows-under : (id : ℕ) (rows : List Row) (lines : List GroupLine) → AreUnder q id rows → with_rows q rows lines ≡ with_line id (agg rows) lines
  rows-under id [] lines are = absurd (are.some refl)
  rows-under id (row ∷ rows) lines are = rows-together id row rows lines are.each
