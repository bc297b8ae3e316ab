use Rattle.std.proofs.{Common.subst, lemmas.List.Elements.All-same}
use Rattle.std.specs.{Option.option_copied, Prelude.IfSome}
use Rattle.describing_set.specs.Sets.{IsDescSetOf}
use Rattle.dc_node.specs.{Block.{entries_in, IsBodyOf}, declared.block.Block.Block, declared.entry.Entry.Entry}
use Rattle.link_descent.proofs.Entries.{All-entries}
use Rattle.link_descent.proofs.cuts.strike_block.Goals as goal

pub strike_entries-requires-clause-entries : goal.strike_entries-requires-clause-entries
strike_entries-requires-clause-entries c =
    let h = c.args.h.now in
    let body = c.in-Some.block.now.body in
    let valid : IsBodyOf h body = subst (λ o. IfSome (option_copied o) (λ (b : Block). IsBodyOf h b.body)) c.in-Some.is c.requires.block in
    All-same (λ (e : Entry). IsDescSetOf h e.set) c.entries.result.now (entries_in body) c.entries.ensures.value (All-entries h body valid)
