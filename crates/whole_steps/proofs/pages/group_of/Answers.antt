use Rattle.std.proofs.Common.{◌∙◌, ℕ, List, ap, sym, subst}
use Rattle.core_pages.specs.volap_cell.specs.{Cells.{CellValue, ledger_in}, Setting.ledger_cell, Sights.HasGroups, View.view}
use Rattle.dim_hierarchy.specs.Dimension.{Dimension}
use Rattle.group_answer.specs.{Seen.HasCountIn}
use Rattle.row_ledger.specs.Groups.{question}
use Rattle.whole_steps.proofs.Telling.{if-ok-on}
use Rattle.whole_steps.proofs.pages.group_of.Goals as goal

pub group-requires-clause-count : goal.group-requires-clause-count
group-requires-clause-count g c = subst (λ (k : ℕ). HasCountIn k (g.C.Cells.state c.args.cells.now)) (sym c.len-many.ensures) c.requires.tells.count

pub returns-clause-page : goal.returns-clause-page
returns-clause-page g c =
    let tells = c.requires.tells in
    if-ok-on c.group.result c.group.ensures.page
    (λ p groups s w about seen inv. record {
      session = tells.session;
      dim = c.args.dim;
      level = c.args.level;
      filter = c.args.filter.now;
      past = tells.past;
      called = ap (λ (cells : ℕ → CellValue). (ledger_in (cells ledger_cell)).history) (sym seen.cells) ∙ tells.called;
      has = subst (λ (h : List Dimension). HasGroups (question h c.args.filter.now c.args.dim c.args.level) s (view s w) p) (sym about) (groups s w about seen inv);
    })
