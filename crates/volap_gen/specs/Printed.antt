-- What a leaf concept prints as, and a row's record.
use Rattle.std.specs.{Fmt.{decimal, signed_decimal}, Prelude.{ℕ, List, [], ◌∷◌, codes}}
use Rattle.volap_gen.specs.{Names.leaf_name, declared.names.Leaf.Leaf, declared.rows.NewRow.NewRow}
use Rattle.script_form.specs.Fields.{Record}

abbrev pub leaf_text : Leaf → List ℕ
leaf_text c = leaf_name c.above.above.dim c.above.above.number c.above.number c.number

abbrev pub row_fields : NewRow → Record
row_fields row = codes "insert" ∷ decimal row.server ∷ signed_decimal row.measures ∷ leaf_text row.day ∷ leaf_text row.shop ∷ leaf_text row.item ∷ []
