use Rattle.std.proofs.{Common.{subst, ap, map, ◌∙◌}, lemmas.List.Elements.{All-map, All-same}}
use Rattle.describing_set.specs.Sets.{IsDescSetOf}
use Rattle.dc_node.specs.Block.{IsBodyOf}
use Rattle.link_descent.proofs.cuts.item_sets.Goals as goal

pub returns-in-Entries-clause-valid : goal.returns-in-Entries-clause-valid
returns-in-Entries-clause-valid c =
    let h = c.args.h.now in
    let entries = c.in-Entries.entries.items in
    All-same (IsDescSetOf h) c.entry_sets.new.sets.items (map (λ e. e.set) entries) (c.entry_sets.ensures ∙ ap (map (λ e. e.set)) c.as_slice.ensures.value)
    (All-map (IsDescSetOf h) (λ e. e.set) entries (subst (IsBodyOf h) c.in-Entries.is c.requires.body))
