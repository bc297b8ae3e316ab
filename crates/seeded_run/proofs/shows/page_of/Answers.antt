use Rattle.std.proofs.Common.{subst}
use Rattle.row_ledger.specs.declared.class.Subject.{Subject}
use Rattle.seeded_run.specs.Pages.{Shows, ShowsRows, ShowsShards}
use Rattle.seeded_run.proofs.shows.page_of.Goals as goal

pub returns-in_ok-shards_page-in-Shards : goal.returns-in_ok-shards_page-in-Shards
returns-in_ok-shards_page-in-Shards c =
    let k : ShowsShards c.args.h.now c.args.with.now c.args.state.now c.args.number = subst (λ (x : Subject). Shows c.args.h.now c.args.with.now c.args.state.now c.args.number x) c.in-Shards.is c.requires.can.shows in
    k.may_tell c.in_ok-shards_page-in-Shards.field-0 c.in_ok-shards_page-in-Shards.ensures.page

pub returns-in-Rows : goal.returns-in-Rows
returns-in-Rows c =
    let k : ShowsRows c.args.h.now c.args.with.now c.args.state.now c.args.number = subst (λ (x : Subject). Shows c.args.h.now c.args.with.now c.args.state.now c.args.number x) c.in-Rows.is c.requires.can.shows in
    k.may_tell c.audit_page.result c.audit_page.ensures.page
