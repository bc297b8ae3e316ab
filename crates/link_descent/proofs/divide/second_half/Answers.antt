use Rattle.std.proofs.{Common.{◌≡◌, ◌≤◌, ◌∙◌, true, length, drop, ap, sym, subst, arith}, lemmas.Bool.eqb-true, lemmas.List.{length-drop, take_all}}
use Rattle.dc_node.specs.{Block.is_full, declared.block.Body.Body, declared.block.Body.TheVariants.Rows}
use Rattle.link_descent.specs.Divide.{rest, half}
use Rattle.link_descent.proofs.divide.second_half.Goals as goal

pub returns-in-Rows-clause-body : goal.returns-in-Rows-clause-body
returns-in-Rows-clause-body c =
    let rows = c.in-Rows.rows.items in
    let full : length rows ≡ 32 = eqb-true (length rows) 32 (subst (λ (b : Body). is_full b ≡ true) c.in-Rows.is c.requires.full) in
    let few : length (drop 16 rows) ≤ 16 = let n = length-drop 16 rows in omega (arith, n, full) in
    let same = c.of.ensures ∙ c.copy_rows.ensures.rows ∙ take_all 16 (drop 16 rows) few in
    subst (λ (b : Body). Rows c.of.result ≡ rest b (half b)) (sym c.in-Rows.is) (ap (λ xs. Rows (record { items = xs })) same)
