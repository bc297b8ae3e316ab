use Rattle.std.proofs.Common.{◌∙◌, [], ◌∷◌, refl, arith}
use Rattle.seat_steps.specs.core_steps.specs.Jobs.{job_places}
use Rattle.seat_steps.specs.core_steps.specs.declared.jobs.JobStep.TheVariants as job
use Rattle.job_steps.proofs.{Cells.takes-on, Made.opened-since, Rest.{all-apart, all-at, all-within, behind-two, first-may, first-order, rest-may}}
use Rattle.seat_steps.proofs.Since.{unchanged}
use Rattle.seat_steps.specs.volap_cell.specs.{Setting.{ledger_cell, registry_cell, stock_cell}}
use Rattle.job_steps.proofs.ends.move_on.Goals as goal

pub take_two-requires-clause-may : goal.take_two-requires-clause-may
take_two-requires-clause-may g c =
    let f = c.args.floor.now in
    let p = c.args.player.now in
    let stands = c.requires.stands in
    let none = c.requires.opened.no_part in
    let due = c.requires.due p refl refl in
    let low = all-within f p stands.seated (job.FinishMove c.args.from c.args.to c.args.gate c.args.new) due in
    let apart = all-apart f p stands.seated (job.FinishMove c.args.from c.args.to c.args.gate c.args.new) due in
    first-may f p stands none (c.args.from ∷ c.args.to ∷ []) (c.args.gate ∷ c.args.new ∷ registry_cell ∷ stock_cell ∷ ledger_cell ∷ []) low apart (omega arith)

pub take_two-requires-clause-order : goal.take_two-requires-clause-order
take_two-requires-clause-order g c = first-order c.args.floor.now c.args.player.now c.requires.stands c.requires.opened.no_part c.args.from c.args.to 1

pub take_two-requires-2-clause-may : goal.take_two-requires-2-clause-may
take_two-requires-2-clause-may g c =
    let f = c.args.floor.now in
    let p = c.args.player.now in
    let stands = c.requires.stands in
    let none = c.requires.opened.no_part in
    let due = c.requires.due p refl refl in
    let low = all-within f p stands.seated (job.FinishMove c.args.from c.args.to c.args.gate c.args.new) due in
    let apart = all-apart f p stands.seated (job.FinishMove c.args.from c.args.to c.args.gate c.args.new) due in
    rest-may f p stands none (c.args.from ∷ c.args.to ∷ []) (c.args.gate ∷ c.args.new ∷ []) (registry_cell ∷ stock_cell ∷ ledger_cell ∷ []) (c.take_two.ensures.took) low apart (omega arith)

pub take_two-requires-2-clause-order : goal.take_two-requires-2-clause-order
take_two-requires-2-clause-order g c = behind-two c.take_two.new.player 1 2 c.args.gate c.args.new (omega arith) (c.take_two.ensures.took).behind

pub take_books-requires-clause-may : goal.take_books-requires-clause-may
take_books-requires-clause-may g c =
    let f = c.args.floor.now in
    let p = c.args.player.now in
    let stands = c.requires.stands in
    let none = c.requires.opened.no_part in
    let due = c.requires.due p refl refl in
    let low = all-within f p stands.seated (job.FinishMove c.args.from c.args.to c.args.gate c.args.new) due in
    let apart = all-apart f p stands.seated (job.FinishMove c.args.from c.args.to c.args.gate c.args.new) due in
    rest-may f p stands none (c.args.from ∷ c.args.to ∷ c.args.gate ∷ c.args.new ∷ []) (registry_cell ∷ stock_cell ∷ ledger_cell ∷ []) [] (takes-on (c.take_two.ensures.took) c.take_two-2.ensures.took) low apart (omega arith)

pub take_books-requires-clause-behind : goal.take_books-requires-clause-behind
take_books-requires-clause-behind g c = (takes-on (c.take_two.ensures.took) c.take_two-2.ensures.took).behind

pub make_end-requires-clause-opened : goal.make_end-requires-clause-opened
make_end-requires-clause-opened g c = opened-since (unchanged (takes-on (takes-on (c.take_two.ensures.took) c.take_two-2.ensures.took) c.take_books.ensures.took).same) c.requires.opened

pub make_end-requires-clause-at : goal.make_end-requires-clause-at
make_end-requires-clause-at g c =
    let f = c.args.floor.now in
    let p = c.args.player.now in
    let stands = c.requires.stands in
    let none = c.requires.opened.no_part in
    let due = c.requires.due p refl refl in
    let low = all-within f p stands.seated (job.FinishMove c.args.from c.args.to c.args.gate c.args.new) due in
    let apart = all-apart f p stands.seated (job.FinishMove c.args.from c.args.to c.args.gate c.args.new) due in
    all-at f p stands none (job_places (job.FinishMove c.args.from c.args.to c.args.gate c.args.new)) (takes-on (takes-on (c.take_two.ensures.took) c.take_two-2.ensures.took) c.take_books.ensures.took) apart

pub make_end-requires-clause-due : goal.make_end-requires-clause-due
make_end-requires-clause-due g c = (let same = unchanged (takes-on (takes-on (c.take_two.ensures.took) c.take_two-2.ensures.took) c.take_books.ensures.took).same in c.requires.due c.take_books.new.player same.number same.actor)

pub make_end-requires-clause-instead : goal.make_end-requires-clause-instead
make_end-requires-clause-instead g c q number actor = (let same = unchanged (takes-on (takes-on (c.take_two.ensures.took) c.take_two-2.ensures.took) c.take_books.ensures.took).same in c.requires.instead q (number ∙ same.number) (actor ∙ same.actor))

pub returns : goal.returns
returns g c = record { came = c.make_end.ensures.came c.args.player.now (unchanged (takes-on (takes-on (c.take_two.ensures.took) c.take_two-2.ensures.took) c.take_books.ensures.took).same) c.requires.opened }
