use Rattle.std.proofs.Common.{◌∙◌, [], ◌∷◌, refl, sym, ap, arith}
use Rattle.seat_steps.specs.core_steps.specs.Jobs.{job_places}
use Rattle.seat_steps.specs.core_steps.specs.declared.jobs.JobStep.TheVariants as job
use Rattle.job_steps.proofs.{Cells.takes-on, Made.{first-within, opened-since}, Rest.{all-apart, all-at, all-within, behind-three, first-some, rest-may}}
use Rattle.seat_steps.proofs.Since.{unchanged}
use Rattle.seat_steps.specs.volap_cell.specs.{Setting.{ledger_cell, registry_cell, stock_cell}, Values.{ActorValue}}
use Rattle.job_steps.proofs.ends.split.Goals as goal

pub take_first-requires-clause-no_part : goal.take_first-requires-clause-no_part
take_first-requires-clause-no_part g c = c.requires.opened.no_part

pub take_first-requires-clause-cell : goal.take_first-requires-clause-cell
take_first-requires-clause-cell g c = first-within c.args.floor.now c.args.player.now c.requires.stands.seated (job.FinishSplit c.args.map c.args.gate c.args.left c.args.right) (c.requires.due c.args.player.now refl refl) c.args.map (c.args.gate ∷ c.args.left ∷ c.args.right ∷ registry_cell ∷ stock_cell ∷ ledger_cell ∷ []) refl

pub take_three-requires-clause-may : goal.take_three-requires-clause-may
take_three-requires-clause-may g c =
    let f = c.args.floor.now in
    let p = c.args.player.now in
    let stands = c.requires.stands in
    let none = c.requires.opened.no_part in
    let due = c.requires.due p refl refl in
    let low = all-within f p stands.seated (job.FinishSplit c.args.map c.args.gate c.args.left c.args.right) due in
    let apart = all-apart f p stands.seated (job.FinishSplit c.args.map c.args.gate c.args.left c.args.right) due in
    rest-may f p stands none (c.args.map ∷ []) (c.args.gate ∷ c.args.left ∷ c.args.right ∷ []) (registry_cell ∷ stock_cell ∷ ledger_cell ∷ []) (first-some c.args.floor.now c.args.player.now c.requires.stands c.requires.opened.no_part c.take_first.ensures.took) low apart (omega arith)

pub take_three-requires-clause-order : goal.take_three-requires-clause-order
take_three-requires-clause-order g c = behind-three c.take_first.new.player 1 2 c.args.gate c.args.left c.args.right (omega arith) (first-some c.args.floor.now c.args.player.now c.requires.stands c.requires.opened.no_part c.take_first.ensures.took).behind

pub take_books-requires-clause-may : goal.take_books-requires-clause-may
take_books-requires-clause-may g c =
    let f = c.args.floor.now in
    let p = c.args.player.now in
    let stands = c.requires.stands in
    let none = c.requires.opened.no_part in
    let due = c.requires.due p refl refl in
    let low = all-within f p stands.seated (job.FinishSplit c.args.map c.args.gate c.args.left c.args.right) due in
    let apart = all-apart f p stands.seated (job.FinishSplit c.args.map c.args.gate c.args.left c.args.right) due in
    rest-may f p stands none (c.args.map ∷ c.args.gate ∷ c.args.left ∷ c.args.right ∷ []) (registry_cell ∷ stock_cell ∷ ledger_cell ∷ []) [] (takes-on (first-some c.args.floor.now c.args.player.now c.requires.stands c.requires.opened.no_part c.take_first.ensures.took) c.take_three.ensures.took) low apart (omega arith)

pub take_books-requires-clause-behind : goal.take_books-requires-clause-behind
take_books-requires-clause-behind g c = (takes-on (first-some c.args.floor.now c.args.player.now c.requires.stands c.requires.opened.no_part c.take_first.ensures.took) c.take_three.ensures.took).behind

pub make_end-requires-clause-opened : goal.make_end-requires-clause-opened
make_end-requires-clause-opened g c = opened-since (unchanged (takes-on (takes-on (first-some c.args.floor.now c.args.player.now c.requires.stands c.requires.opened.no_part c.take_first.ensures.took) c.take_three.ensures.took) c.take_books.ensures.took).same) c.requires.opened

pub make_end-requires-clause-ends : goal.make_end-requires-clause-ends
make_end-requires-clause-ends g c x is = c.requires.splits x (ap (λ (a : ActorValue). a.job) (sym (unchanged (takes-on (takes-on (first-some c.args.floor.now c.args.player.now c.requires.stands c.requires.opened.no_part c.take_first.ensures.took) c.take_three.ensures.took) c.take_books.ensures.took).same).actor) ∙ is)

pub make_end-requires-clause-at : goal.make_end-requires-clause-at
make_end-requires-clause-at g c =
    let f = c.args.floor.now in
    let p = c.args.player.now in
    let stands = c.requires.stands in
    let none = c.requires.opened.no_part in
    let due = c.requires.due p refl refl in
    let low = all-within f p stands.seated (job.FinishSplit c.args.map c.args.gate c.args.left c.args.right) due in
    let apart = all-apart f p stands.seated (job.FinishSplit c.args.map c.args.gate c.args.left c.args.right) due in
    all-at f p stands none (job_places (job.FinishSplit c.args.map c.args.gate c.args.left c.args.right)) (takes-on (takes-on (first-some c.args.floor.now c.args.player.now c.requires.stands c.requires.opened.no_part c.take_first.ensures.took) c.take_three.ensures.took) c.take_books.ensures.took) apart

pub make_end-requires-clause-due : goal.make_end-requires-clause-due
make_end-requires-clause-due g c = (let same = unchanged (takes-on (takes-on (first-some c.args.floor.now c.args.player.now c.requires.stands c.requires.opened.no_part c.take_first.ensures.took) c.take_three.ensures.took) c.take_books.ensures.took).same in c.requires.due c.take_books.new.player same.number same.actor)

pub make_end-requires-clause-instead : goal.make_end-requires-clause-instead
make_end-requires-clause-instead g c q number actor = (let same = unchanged (takes-on (takes-on (first-some c.args.floor.now c.args.player.now c.requires.stands c.requires.opened.no_part c.take_first.ensures.took) c.take_three.ensures.took) c.take_books.ensures.took).same in c.requires.instead q (number ∙ same.number) (actor ∙ same.actor))

pub returns : goal.returns
returns g c = record { came = c.make_end.ensures.came c.args.player.now (unchanged (takes-on (takes-on (first-some c.args.floor.now c.args.player.now c.requires.stands c.requires.opened.no_part c.take_first.ensures.took) c.take_three.ensures.took) c.take_books.ensures.took).same) c.requires.opened }
