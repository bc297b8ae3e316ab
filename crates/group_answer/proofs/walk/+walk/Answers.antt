use Rattle.std.proofs.{Common.{List, ◌≡◌, ◌-◌, ◌+◌, ◌*◌, ◌<◌, ◌∷◌, rules, drop, length, sym, ap, ◌∙◌, subst, suc, arith}, lemmas.List.{drop_more, length-append}}
use Rattle.std.specs.List.{flat_map}
use Rattle.dc_node.specs.declared.entry.Entry.{Entry}
use Rattle.list_words.specs.Counts.{Each}
use Rattle.core_pages.specs.Looks.{HasCells, StateValue, blocks_of, cells_in}
use Rattle.core_pages.specs.tree_shape.specs.PageLines.{group_entries}
use Rattle.group_answer.specs.{Adding.with_rows, Groups.all_of, Reading.{AreSummed, rows_at}}
use Rattle.row_ledger.specs.declared.page.GroupLine.{GroupLine}
use Rattle.group_answer.proofs.{RowSteps.{rows-append, rows-few}, Steps.on-ok, Summed.{rows-below, summed-below}}
use Rattle.group_answer.proofs.walk.+walk.Goals as goal

pub add_entries-loop-entry-preserved : goal.add_entries-loop-entry-preserved
add_entries-loop-entry-preserved g t c =
    let q = c.args.asked.now in
    let blocks = λ (s : StateValue). blocks_of c.args.many (cells_in s) in
    let state = g.C.Cells.state c.args.cells.now in
    let i = c.loop-entry.entry-index in
    let entries = c.args.entries.now in
    let e = c.entry-item.result in
    let old = c.loop-entry.found.lines.items in
    let rows = λ (x : Entry). rows_at (blocks state) c.args.level x in
    let rest = flat_map rows (drop (i + 1) entries) in
    let here : drop i entries ≡ e ∷ drop (i + 1) entries = drop_more entries i e c.loop-entry-test.true ∙ ap (λ (x : Entry). x ∷ drop (i + 1) entries) (sym c.entry-item.is) in
    let added : c.add_entry.new.found.lines.items ≡ with_rows q (rows e) old = c.in_ok-add_entry.ensures.lines ∙ ap (λ (s : StateValue). with_rows q (rows_at (blocks s) c.args.level e) old) c.loop-entry.invariant.same in
    let one = rows-few q (rows e) old in
    let parts = ap (λ (l : List Entry). length (flat_map rows l)) here in
    let sum = length-append (rows e) rest in
    record {
      same = c.add_entry.ensures.same ∙ c.loop-entry.invariant.same;
      lines = ap (with_rows q rest) added ∙ sym (rows-append q (rows e) rest old) ∙ ap (λ (l : List Entry). with_rows q (flat_map rows l) old) (sym here) ∙ c.loop-entry.invariant.lines;
      few = omega (arith, one, parts, sum, ap (λ (l : List GroupLine). (all_of l).count) added, c.loop-entry.invariant.few);
    }

pub add_entry-add_entries-requires : goal.add_entry-add_entries-requires
add_entry-add_entries-requires g t c =
    let h = c.args.asked.now.hierarchy in
    let blocks = λ (s : StateValue). blocks_of c.args.many (cells_in s) in
    let state = g.C.Cells.state c.args.cells.now in
    let entry = c.args.entry.now in
    let level = c.args.level in
    let up : level ≡ suc (level - 1) = omega (arith, c.if-level-eq0.false) in
    let entries_is : c.as_slice-entries.result.now ≡ group_entries (blocks state) entry = c.as_slice-entries.ensures.value ∙ c.in_ok-group.ensures.kept in
    let lines_are = c.look.ensures.lines ∙ c.in_ok-add_told.ensures.lines.kept c.if-branch.false in
    let below = summed-below h (blocks state) level (level - 1) entry up c.requires.summed in
    let rows = rows-below (blocks state) level (level - 1) entry up in
    let seen = g.C.Cells.state c.group_of.new.cells in
    let read : flat_map (λ (e : Entry). rows_at (blocks seen) (level - 1) e) c.as_slice-entries.result.now ≡ flat_map (λ (e : Entry). rows_at (blocks state) (level - 1) e) (group_entries (blocks state) entry) =
    λ k. flat_map (λ (e : Entry). rows_at (blocks (c.group_of.ensures.same k)) (level - 1) e) (entries_is k) in
    let there : HasCells c.args.many seen = subst (HasCells c.args.many) (sym c.group_of.ensures.same) c.requires.there in
    let summed : Each (λ (e : Entry). AreSummed h (blocks seen) (level - 1) e) c.as_slice-entries.result.now =
    subst (λ (s : StateValue). Each (λ (e : Entry). AreSummed h (blocks s) (level - 1) e) c.as_slice-entries.result.now) (sym c.group_of.ensures.same)
    (subst (λ (l : List Entry). Each (λ (e : Entry). AreSummed h (blocks state) (level - 1) e) l) (sym entries_is) below) in
    let few : (all_of c.look.new.self.lines.items).count + length (flat_map (λ (e : Entry). rows_at (blocks seen) (level - 1) e) c.as_slice-entries.result.now) < 9223372036854775808 =
    omega (arith, c.requires.few, ap (λ (l : List GroupLine). (all_of l).count) lines_are, ap length rows, ap length read) in
    let falls : 2 * (level - 1) + 1 < 2 * level = omega (arith, c.if-level-eq0.false) in
    search (rules, there, summed, few, falls)

pub add_entry-returns-clause-lines : goal.add_entry-returns-clause-lines
add_entry-returns-clause-lines g t c =
    let q = c.args.asked.now in
    let blocks = λ (s : StateValue). blocks_of c.args.many (cells_in s) in
    let state = g.C.Cells.state c.args.cells.now in
    let entry = c.args.entry.now in
    let level = c.args.level in
    let up : level ≡ suc (level - 1) = omega (arith, c.if-level-eq0.false) in
    let entries_is : c.as_slice-entries.result.now ≡ group_entries (blocks state) entry = c.as_slice-entries.ensures.value ∙ c.in_ok-group.ensures.kept in
    let lines_are = c.look.ensures.lines ∙ c.in_ok-add_told.ensures.lines.kept c.if-branch.false in
    let rows_are = (λ k. flat_map (λ (e : Entry). rows_at (blocks (c.group_of.ensures.same k)) (level - 1) e) (entries_is k)) ∙ sym (rows-below (blocks state) level (level - 1) entry up) in
    on-ok c.add_entries.result (λ added. added ∙ (λ k. with_rows q (rows_are k) (lines_are k))) c.add_entries.ensures.lines
