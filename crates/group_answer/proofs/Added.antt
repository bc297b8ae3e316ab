-- What is added of rows that a set tells.
use Rattle.std.proofs.Common.{ℕ, ◌≡◌, ◌≢◌, true, false, List, All as Every, refl, sym, ap, ◌∙◌}
use Rattle.dim_hierarchy.specs.{Rows.IsRowOf, declared.row.Row.Row}
use Rattle.dc_node.specs.Summary.{coords}
use Rattle.describing_set.specs.{DescSet.IsSetOf, declared.set.DescSet.DescSet}
use Rattle.measure_agg.specs.Aggregate.{Aggregate}
use Rattle.group_answer.specs.{Adding.{IsAdded, with_line}, Groups.Question, Telling.{IsNarrow, IsOfAll, IsTold}}
use Rattle.row_ledger.specs.declared.page.GroupLine.{GroupLine}
use Rattle.group_answer.specs.declared.told.Told.{Told}
use Rattle.group_answer.specs.declared.told.Told.TheVariants.{NoRow, Under, Unknown}
use Rattle.group_answer.proofs.RowSteps.{rows-out, rows-under}

module _ (q : Question) (set : DescSet) (total : Aggregate) (lines : List GroupLine) where
  abbrev Tells : Told → Type 0
  Tells told = (rows : List Row) → Every (IsRowOf q.hierarchy) rows → IsSetOf q.hierarchy (coords rows) set → IsTold q rows told

  pub added-none : Tells NoRow → IsAdded q set total lines lines true
  added-none told = record {
    told = λ rows is done. sym (rows-out q rows lines (told rows is.valid is.set_of));
    kept = λ never. refl;
    known = λ all narrow. refl;
  }

  pub added-under : (id : ℕ) (now : List GroupLine) → Tells (Under id) → now ≡ with_line id total lines → IsAdded q set total lines now true
  added-under id now told is_now = record {
    told = λ rows is done. is_now ∙ ap (λ (a : Aggregate). with_line id a lines) is.agg ∙ sym (rows-under q id rows lines (told rows is.valid is.set_of));
    kept = λ never. (let no : true ≡ false = never in cc);
    known = λ all narrow. refl;
  }

  pub added-not : (IsOfAll q → IsNarrow q set → Unknown ≢ Unknown) → IsAdded q set total lines lines false
  added-not known = record {
    told = λ rows is never. (let no : false ≡ true = never in cc);
    kept = λ done. refl;
    known = λ all narrow. absurd (known all narrow refl);
  }
