-- How a question is stored, and lines together.
use Rattle.std.specs.{Coded.{Coded, code_by, coded×, coded_ℕ, coded_list}, Prelude.{ℕ, refl, List, map}}
use Rattle.dc_node.specs.Summary.{joined}
use Rattle.dim_hierarchy.specs.{Compiled.pick_code, Dimension.Dimension, Stored.dimension_code, declared.filter.Pick.Pick}
use Rattle.measure_agg.specs.Aggregate.{Aggregate}
use Rattle.row_ledger.specs.declared.page.GroupLine.{GroupLine}
pub use Rattle.row_ledger.specs.Groups.{IsGroupPage, IsQuestion, Question, concept_of, groups, line, matching, question, under}

-- a question is stored as its parts
abbrev pub question_code : Coded Question
question_code =
    code_by (List Dimension × (List Pick × (ℕ × ℕ))) (coded× (coded_list dimension_code) (coded× (coded_list pick_code) (coded× coded_ℕ coded_ℕ)))
    (λ q. (q.hierarchy, (q.filter, (q.dim, q.level)))) (λ p. record { hierarchy = p.0; filter = p.1.0; dim = p.1.1.0; level = p.1.1.1 }) (λ _. refl)

-- the aggregate of all lines together
abbrev pub all_of : List GroupLine → Aggregate
all_of lines = joined (map (λ (x : GroupLine). x.agg) lines)
