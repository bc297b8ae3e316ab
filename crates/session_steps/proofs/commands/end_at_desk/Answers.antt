use Rattle.std.proofs.Common.{◌≡◌, ◌∙◌, ℕ, subst}
use Rattle.part_steps.specs.core_steps.specs.{Books.{book_asks, book_places}, declared.books.BookStep.BookStep}
use Rattle.part_steps.specs.core_steps.specs.declared.books.BookStep.TheVariants.{Ack, FailRouted}
use Rattle.session_steps.proofs.Servers.{places-are}
use Rattle.part_steps.specs.seat_steps.proofs.{Since.{unchanged, unchanged-on}, WithLedger.{due-still, ledger-off}}
use Rattle.session_steps.specs.Books.{EndsAtDesk}
use Rattle.part_steps.specs.seat_steps.specs.Booked.{IsDue}
use Rattle.session_steps.proofs.commands.end_at_desk.Goals as goal

ack-is : (desk image d i : ℕ) (step : BookStep) → step ≡ Ack d i → EndsAtDesk desk image step → step ≡ Ack desk image
ack-is desk image d i step is ends = (let same : EndsAtDesk desk image (Ack d i) = subst (EndsAtDesk desk image) is ends in is ∙ (λ k. Ack (same.0 k) (same.1 k)))

routed-is : (desk image d i : ℕ) (step : BookStep) → step ≡ FailRouted d i → EndsAtDesk desk image step → step ≡ FailRouted desk image
routed-is desk image d i step is ends = (let same : EndsAtDesk desk image (FailRouted d i) = subst (EndsAtDesk desk image) is ends in is ∙ (λ k. FailRouted (same.0 k) (same.1 k)))

pub end_by-requires-in-Ack-clause-due : goal.end_by-requires-in-Ack-clause-due
end_by-requires-in-Ack-clause-due g c =
    let f = c.args.floor.now in let was = c.args.player.now in let step = Ack c.args.desk c.args.image in
    due-still f (book_places step) c.take_image.ensures.took (ledger-off f was c.requires.seated c.args.desk 4 (places-are c.requires.books).2 c.requires.ranks)
    (subst (λ (s : BookStep). IsDue f was (book_places s) (book_asks s)) (ack-is c.args.desk c.args.image _ _ c.args.step c.in-Ack.is c.requires.ends) c.requires.due)

pub end_by-requires-in-FailRouted-clause-due : goal.end_by-requires-in-FailRouted-clause-due
end_by-requires-in-FailRouted-clause-due g c =
    let f = c.args.floor.now in let was = c.args.player.now in let step = FailRouted c.args.desk c.args.image in
    due-still f (book_places step) c.take_image-in-FailRouted.ensures.took (ledger-off f was c.requires.seated c.args.desk 4 (places-are c.requires.books).2 c.requires.ranks)
    (subst (λ (s : BookStep). IsDue f was (book_places s) (book_asks s)) (routed-is c.args.desk c.args.image _ _ c.args.step c.in-FailRouted.is c.requires.ends) c.requires.due)

pub returns-in-Ack : goal.returns-in-Ack
returns-in-Ack g c = record { comes = λ p same. c.end_by-in-Ack.ensures.comes p (unchanged-on same (unchanged c.take_image.ensures.took.same)) }

pub returns-in-FailRouted : goal.returns-in-FailRouted
returns-in-FailRouted g c = record { comes = λ p same. c.end_by-in-FailRouted.ensures.comes p (unchanged-on same (unchanged c.take_image-in-FailRouted.ensures.took.same)) }
