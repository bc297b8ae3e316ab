use Rattle.std.proofs.Common.{ℕ, ◌≡◌, ◌∙◌, length, List, Option, Some, sym, ap, subst, arith}
use Rattle.core_due.specs.Look.{cell_at}
use Rattle.dim_hierarchy.specs.{Dimension.Dimension, declared.filter.Pick.Pick}
use Rattle.group_answer.specs.Seen.{AreGroupsIn, HasCountIn}
use Rattle.row_ledger.specs.{Groups.{Question, question}, Past.newest, declared.event.Event.Event, declared.event.Event.TheVariants.Called, declared.settings.Call.Call, declared.settings.Call.TheVariants.Group}
use Rattle.core_pages.specs.volap_cell.specs.{Cells.ledger_in, Setting.ledger_cell, declared.cell.Cell.Cell}
use Rattle.seeded_run.specs.Pages.{ShowsGroups, seen}
use Rattle.seeded_run.proofs.shows.group_page.Goals as goal

-- the event that was found is the newest one, and asks its question
same-question : (h : List Dimension) (o : Option Event) (found : Event) (session : ℕ) (call : Call) (dim level : ℕ) (filter : List Pick) (other other_dim other_level : ℕ) (other_filter : List Pick)
    → found ≡ Called session call → call ≡ Group dim level filter → Some found ≡ o → o ≡ Some (Called other (Group other_dim other_level other_filter))
    → question h filter dim level ≡ question h other_filter other_dim other_level
same-question h o found session call dim level filter other other_dim other_level other_filter is calls at newest_is =
    let dims : dim ≡ other_dim = cc in
    let levels : level ≡ other_level = cc in
    let filters : filter ≡ other_filter = cc in
    ap (λ (f : List Pick). question h f dim level) filters ∙ ap (λ (d : ℕ). question h other_filter d level) dims ∙ ap (question h other_filter other_dim) levels

pub group-requires-clause-count : goal.group-requires-clause-count
group-requires-clause-count c =
    let k : ShowsGroups c.args.h.now c.args.with.now c.args.state.now c.args.number = c.requires.can.shows in
    let many : c.len-many.result ≡ length c.args.state.now.cells.items = omega (arith, c.len-many.ensures, c.deref.ensures.len, ap length c.deref.ensures.value) in
    subst (λ (m : ℕ). HasCountIn m (seen c.args.state.now)) (sym many) k.count

pub returns : goal.returns
returns c =
    let k : ShowsGroups c.args.h.now c.args.with.now c.args.state.now c.args.number = c.requires.can.shows in
    let asked = c.in-Some-Called-default-Group in
    let at = asked.ensures ∙ ap (λ (cells : List (Option Cell)). newest (ledger_in (cell_at cells ledger_cell)).history) c.deref.ensures.value in
    let same : question c.args.h.now asked.filter asked.dim asked.level ≡ question c.args.h.now k.filter k.dim k.level =
    same-question c.args.h.now _ asked.field-0.now asked.field-0-0 asked.field-0-1 asked.dim asked.level asked.filter k.session k.dim k.level k.filter asked.field-0-is asked.field-0-1-is at k.called in
    k.may_tell c.in_ok-group.field-0 (subst (λ (q : Question). AreGroupsIn q (seen c.args.state.now) c.in_ok-group.field-0) same c.in_ok-group.ensures.page)
