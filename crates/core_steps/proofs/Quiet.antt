-- The events of steps by which a command goes on or ends begin nothing.
use Rattle.std.proofs.Common.{ℕ, ◌≡◌, List, ◌∷◌, Option, false, None, Some, refl, sym, ap, ◌∙◌, subst}
use Rattle.core_steps.specs.Books.{EndsIn}
use Rattle.dim_hierarchy.specs.Dimension.{Dimension}
use Rattle.row_ledger.specs.{Past.is_beginning, declared.event.Event.Event}
use Rattle.row_ledger.specs.declared.event.Event.TheVariants as event
use Rattle.core_shard.specs.volap_cell.specs.{Cells.{CellValue, DeskOf, TheLedger, ledger_in, tag_of}, ImageKinds.{DoesAck, DoesAnswer, DoesNote, DoesNoteWith, DoesSync, FailsRouted, OfCalled, OfCalledAsking, OfCount, OfEnded, OfLeft, OfQuery, OfRefused, OfShown, OfUnknown, OfUnrouted, Pushes}, Values.ActorValue, World.Change, declared.command.Command.Command}

one-or-none : {P : Type 0} {o : Option Command} {c : Command} → o ≡ None → o ≡ Some c → P
one-or-none {P} {o} {c} e f = (let k : None ≡ Some c = sym e ∙ f in absurd (cc))

pushed : (e : Event) (more used : ℕ) (l : Change) (seen : ℕ) → is_beginning e ≡ false → Pushes e more used l seen → EndsIn l.before l.now
pushed e more used l seen quiet p = (
  e,
  quiet,
  subst (λ (c : CellValue). (ledger_in l.now).history ≡ e ∷ (ledger_in c).history) (sym p.was)
      (subst (λ (c : CellValue). (ledger_in c).history ≡ e ∷ p.ledger.history) (sym p.is) p.history),
)

pub ack-ends : {h : List Dimension} {d i l : Change} {a b : ActorValue} → DoesAck h d i l a b → EndsIn l.before l.now
ack-ends {h} {d} {i} {l} {a} {b} does = pushed (event.Acked does.of does.path) 0 1 l b.seen refl does.acked

pub answer-ends : {d l : Change} {a b : ActorValue} → DoesAnswer d l a b → EndsIn l.before l.now
answer-ends {d} {l} {a} {b} does = pushed (event.Answered does.of does.answer) 0 1 l b.seen refl does.answered

pub sync-ends : {h : List Dimension} {i r l : Change} {a b : ActorValue} → DoesSync h i r l a b → EndsIn l.before l.now
sync-ends {h} {i} {r} {l} {a} {b} does = pushed (event.Synced does.server does.listing) 1 1 l b.seen refl does.pulled

pub routed-ends : {d i l : Change} {a b : ActorValue} → FailsRouted d i l a b → EndsIn l.before l.now
routed-ends {d} {i} {l} {a} {b} does = pushed (event.Failed does.of) 0 1 l b.seen refl does.failed

-- of an actor with a command
pub unrouted-ends : {k l : Change} {a b : ActorValue} {c : Command} → a.command ≡ Some c → DoesNoteWith k l a b → EndsIn l.before l.now
unrouted-ends has (OfCalledAsking registry asked does) = one-or-none does.free.command has
unrouted-ends {k} {l} {a} {b} has (OfUnrouted does) = pushed (event.Failed does.of) 0 1 l b.seen refl does.failed
unrouted-ends {k} {l} {a} {b} has (OfQuery does) = pushed (event.Failed does.of) 0 1 l b.seen refl does.failed

-- with the ledger alone, too
pub noted-ends : {l : Change} {a b : ActorValue} {c : Command} → a.command ≡ Some c → tag_of l.before ≡ TheLedger → DoesNote l a b → EndsIn l.before l.now
noted-ends has tags (OfUnknown does) = one-or-none does.free.command has
noted-ends has tags (OfRefused does) = one-or-none does.free.command has
noted-ends has tags (OfCalled registry does) = one-or-none does.free.command has
noted-ends {l} {a} {b} has tags (OfLeft does) = pushed (event.Left does.of does.job.shard does.left_as) 0 1 l b.seen refl does.left
noted-ends {l} {a} {b} has tags (OfShown page does) = pushed (event.Shown does.of page) 0 1 l b.seen refl does.shown
noted-ends {l} {a} {b} has tags (OfEnded does) = pushed (event.Ended does.of does.how_it_ends) 0 _ l b.seen refl does.ended
noted-ends {l} {a} {b} has tags (OfCount does) = (let never : TheLedger ≡ DeskOf does.server = sym tags ∙ ap tag_of does.turns.was in absurd (cc))
