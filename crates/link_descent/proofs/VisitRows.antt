-- The rows that a visit adds.
use Rattle.std.proofs.{Common.{◌≡◌, ℕ, ◌+◌, ◌<◌, Bool, true, false, List, [], ◌∷◌, ◌++◌, length, take, get_or, refl, sym, ap, ◌∙◌, append-nil}, lemmas.List.Elements.filter_more}
use Rattle.std.specs.Prelude.{filter}
use Rattle.dim_hierarchy.specs.declared.row.Row.{Row}
use Rattle.measure_agg.proofs.AggLaws.{agg-one}
use Rattle.measure_agg.specs.{Aggregate.{Aggregate, agg}, Joining.{one, join}}

abbrev pub AppendLaw : Type 0
AppendLaw = (xs ys : List Row) → agg (xs ++ ys) ≡ join (agg xs) (agg ys)

abbrev pub AssociativeLaw : Type 0
AssociativeLaw = (a b c : Aggregate) → join (join a b) c ≡ join a (join b c)

-- the row at i is among the first rows that pass, where it passes
filter-passed : (test : Row → Bool) (rows : List Row) (i : ℕ) (row : Row) → i < length rows → row ≡ get_or rows i row → test row ≡ true
    → filter test (take (i + 1) rows) ≡ filter test (take i rows) ++ row ∷ []
filter-passed test rows i row within read passed =
    rw (filter_more test rows i row within, ← read, passed) refl

filter-failed : (test : Row → Bool) (rows : List Row) (i : ℕ) (row : Row) → i < length rows → row ≡ get_or rows i row → test row ≡ false
    → filter test (take (i + 1) rows) ≡ filter test (take i rows)
filter-failed test rows i row within read failed =
    rw (filter_more test rows i row within, ← read, failed) (append-nil (filter test (take i rows)))

pub rows_more : AppendLaw → AssociativeLaw → (test : Row → Bool) (rows : List Row) (i : ℕ) (row : Row) (start total : Aggregate)
    → i < length rows → row ≡ get_or rows i row → test row ≡ true → total ≡ join start (agg (filter test (take i rows)))
    → join total (one row.measures) ≡ join start (agg (filter test (take (i + 1) rows)))
rows_more append associative test rows i row start total within read passed so_far =
    ap (λ a. join a (one row.measures)) so_far
    ∙ associative start (agg (filter test (take i rows))) (one row.measures)
    ∙ ap (join start)
    (sym (ap agg (filter-passed test rows i row within read passed)
    ∙ append (filter test (take i rows)) (row ∷ [])
    ∙ ap (join (agg (filter test (take i rows)))) (agg-one row)))

pub rows_same : (test : Row → Bool) (rows : List Row) (i : ℕ) (row : Row) (start total : Aggregate)
    → i < length rows → row ≡ get_or rows i row → test row ≡ false → total ≡ join start (agg (filter test (take i rows)))
    → total ≡ join start (agg (filter test (take (i + 1) rows)))
rows_same test rows i row start total within read failed so_far =
    so_far ∙ ap (λ xs. join start (agg xs)) (sym (filter-failed test rows i row within read failed))
