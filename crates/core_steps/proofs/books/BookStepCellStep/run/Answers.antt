use Rattle.core_steps.proofs.{BookTold.{asked-two, told-three, told-two}, Quiet.{ack-ends, answer-ends, routed-ends, sync-ends, unrouted-ends}}
use Rattle.core_steps.specs.declared.books.BookStep.TheVariants as book
use Rattle.core_shard.specs.volap_cell.proofs.Outcomes.{on-ok}
use Rattle.core_steps.proofs.books.BookStepCellStep.run.Goals as goal

pub returns-in-Ack-clause-told : goal.returns-in-Ack-clause-told
returns-in-Ack-clause-told c = told-three (book.Ack c.in-Ack.desk c.in-Ack.image) c.in-Ack.is c.lent-first.ensures.value c.lent-second.ensures.value c.args.others.now c.lent.ensures.value _ _ (ack-ends c.ack.ensures.made.does)

pub returns-in-Answer-clause-told : goal.returns-in-Answer-clause-told
returns-in-Answer-clause-told c = told-two (book.Answer c.in-Answer.desk) c.in-Answer.is c.lent-first.ensures.value c.lent-second.ensures.value c.args.others.now _ _ (answer-ends c.answer.ensures.made.does)

pub returns-in-Sync-clause-told : goal.returns-in-Sync-clause-told
returns-in-Sync-clause-told c = on-ok c.sync.result c.sync.ensures.made (λ made. told-three (book.Sync c.in-Sync.image) c.in-Sync.is c.lent-first.ensures.value c.lent-second.ensures.value c.args.others.now c.lent-in-Sync.ensures.value _ _ (sync-ends made.does))

pub returns-in-FailUnrouted-clause-told : goal.returns-in-FailUnrouted-clause-told
returns-in-FailUnrouted-clause-told c =
    let can = asked-two (book.FailUnrouted c.in-FailUnrouted.image) c.in-FailUnrouted.is c.lent-first.ensures.value c.lent-second.ensures.value c.args.others.now _ _ c.requires.asked in
    told-two (book.FailUnrouted c.in-FailUnrouted.image) c.in-FailUnrouted.is c.lent-first.ensures.value c.lent-second.ensures.value c.args.others.now _ _ (unrouted-ends can.command c.fail_unrouted.ensures.made.does)

pub returns-in-FailRouted-clause-told : goal.returns-in-FailRouted-clause-told
returns-in-FailRouted-clause-told c = told-three (book.FailRouted c.in-FailRouted.desk c.in-FailRouted.image) c.in-FailRouted.is c.lent-first.ensures.value c.lent-second.ensures.value c.args.others.now c.lent-in-FailRouted.ensures.value _ _ (routed-ends c.fail_routed.ensures.made.does)

pub returns-in-FailQuery-clause-told : goal.returns-in-FailQuery-clause-told
returns-in-FailQuery-clause-told c =
    let can = asked-two (book.FailQuery c.in-FailQuery.desk) c.in-FailQuery.is c.lent-first.ensures.value c.lent-second.ensures.value c.args.others.now _ _ c.requires.asked in
    told-two (book.FailQuery c.in-FailQuery.desk) c.in-FailQuery.is c.lent-first.ensures.value c.lent-second.ensures.value c.args.others.now _ _ (unrouted-ends can.command c.fail_query.ensures.made.does)
