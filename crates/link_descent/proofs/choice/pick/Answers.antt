use Rattle.std.proofs.Common.{sym, subst}
use Rattle.std.specs.Prelude.{List, All}
use Rattle.describing_set.specs.Sets.{IsDescSetOf}
use Rattle.dc_node.specs.declared.entry.Entry.{Entry}
use Rattle.link_descent.proofs.{Entries.All-entries, Picks.{IsPick-place, one_pick}}
use Rattle.link_descent.proofs.choice.pick.Goals as goal

pub place_of-requires-clause-sets : goal.place_of-requires-clause-sets
place_of-requires-clause-sets c =
    subst (λ (es : List Entry). All (λ e. IsDescSetOf c.args.h.now e.set) es) (sym c.entries.ensures.value) (All-entries c.args.h.now c.args.block.now.body c.requires.body)

pub returns-clause-place : goal.returns-clause-place
returns-clause-place c = rw (← c.entries.ensures.value) (IsPick-place _ _ _ _ c.place_of.ensures)

pub returns-clause-only : goal.returns-clause-only
returns-clause-only c = rw (← c.entries.ensures.value) (λ other pick. one_pick _ _ _ other _ pick c.place_of.ensures)
