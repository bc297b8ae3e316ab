-- How a dimension is stored.
use Rattle.std.specs.{Coded.{Coded, code_by, coded×, coded_ℕ, coded_list}, Prelude.{ℕ, List, refl}}
use Rattle.std.specs.FinMap as map
use Rattle.dim_hierarchy.specs.Dimension.{Dimension, NameMap}

-- as its parts
abbrev pub dimension_code : Coded Dimension
dimension_code =
    code_by (List ℕ × (List (List ℕ) × (List ℕ × NameMap)))
    (coded× (coded_list coded_ℕ) (coded× (coded_list (coded_list coded_ℕ)) (coded× (coded_list coded_ℕ) (map.code (coded_list coded_ℕ) coded_ℕ))))
    (λ d. (d.name, (d.tree, (d.order, d.names)))) (λ p. record { name = p.0; tree = p.1.0; order = p.1.1.0; names = p.1.1.1 }) (λ _. refl)
