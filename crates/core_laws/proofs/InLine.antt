-- An acknowledged row is in the line of the last shard of its path.
use Rattle.std.proofs.Common.{ℕ, List, subst}
use Rattle.std.specs.Prelude.{IsTrue}
use Rattle.row_ledger.specs.{Past.last_of, Shards.comes_from}
use Rattle.core_tree.specs.volap_cell.proofs.Histories.Standings.{standing, in-one}
use Rattle.core_tree.specs.volap_cell.specs.View.{view}
use Rattle.core_laws.specs.Lines.{LineLaw}

pub line-law : LineLaw
line-law s w inv =
    let v = view s w in let g = inv.ghost_of in let i = inv.holds in (
      standing s v g i,
      λ k c.
          (let its = i.placing.acked_rows k c in
          let r = k.row.no in (
            g.home r,
            in-one s v g i r its.0,
            subst (λ (path : List ℕ). IsTrue (comes_from v.history (last_of path) (g.home r))) its.1 (i.placing.line r its.0).1,
          )),
    )
