use Rattle.std.proofs.Common.{inl, refl}
use Rattle.core_pages.specs.volap_cell.proofs.Outcomes.{on-ok}
use Rattle.core_pages.specs.volap_cell.specs.declared.kind.Kind.TheVariants.{Note}
use Rattle.seeded_run.specs.{Commands.beginning, Due.are_known}
use Rattle.seeded_run.proofs.{Instead.note-stands, Ready.BeginsReady.{still-core, to-begin-still}, States.further-then}
use Rattle.seeded_run.proofs.beginnings.begin.Goals as goal

pub refuse-requires-clause-core : goal.refuse-requires-clause-core
refuse-requires-clause-core c = still-core c.args.h.now c.args.with.now c.args.state.now c.try_to_begin.new.state c.requires.core c.in-Err-2.ensures.stays c.args.number c.args.command.now

pub refuse-requires-clause-begins : goal.refuse-requires-clause-begins
refuse-requires-clause-begins c = to-begin-still c.args.h.now c.args.with.now c.args.state.now c.try_to_begin.new.state c.requires.core c.in-Err-2.ensures.stays c.args.number c.args.command.now c.requires.begins

pub returns-in-Err-2-clause-made : goal.returns-in-Err-2-clause-made
returns-in-Err-2-clause-made c =
    on-ok c.refuse.result c.refuse.ensures.made (λ made. (
      Note,
      further-then c.args.h.now Note c.args.number c.args.state.now c.try_to_begin.new.state c.refuse.new.state c.in-Err-2.ensures.stays made,
      note-stands c.args.command.now (are_known c.args.h.now c.args.command.now),
    ))

pub returns-in-Ok-clause-made : goal.returns-in-Ok-clause-made
returns-in-Ok-clause-made c = (beginning c.args.h.now c.args.command.now, c.in-Ok.ensures.made, inl refl)
