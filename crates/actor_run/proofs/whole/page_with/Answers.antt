use Rattle.std.proofs.Common.{◌≡◌, ◌∙◌, List, [], Option, subst, sym}
use Rattle.actor_run.proofs.Gathered.{begun-else, other-number, can-call, missing-put, own-after, own-in, own-number, own-role, page-may, page-no-sync, paged-done, paged-later, put-back, role-after, role-in, role-number, role-role, sole-of, told-by}
use Rattle.actor_run.specs.Passes.{ArePasses, missing}
use Rattle.whole_steps.specs.volap_cell.specs.{Values.actor_of, declared.actor.Actor.Actor}
use Rattle.actor_run.proofs.whole.page_with.Goals as goal

pub call_page-requires-clause-stands : goal.call_page-requires-clause-stands
call_page-requires-clause-stands g c = sole-of c.requires.are c.requires.all c.args.floor.now c.requires.about c.own_number-number.result c.args.own.now (own-in c.requires.are c.requires.all c.own_number-number.result c.own_number-number.ensures c.in_default.ensures.none)

pub call_page-requires-clause-begins : goal.call_page-requires-clause-begins
call_page-requires-clause-begins g c = can-call c.requires.are c.requires.all c.args.floor.now c.requires.about c.own_number-number.result c.args.own.now (own-in c.requires.are c.requires.all c.own_number-number.result c.own_number-number.ensures c.in_default.ensures.none) (own-role c.requires.are c.requires.all c.own_number-number.result c.own_number-number.ensures c.in_default.ensures.none) c.args.call.now (page-may c.args.call.now c.requires.page.0 c.requires.page.1) (page-no-sync c.args.call.now c.requires.page.0 c.requires.page.1) c.requires.valid

pub call_page-seat-requires-clause-stands : goal.call_page-seat-requires-clause-stands
call_page-seat-requires-clause-stands g c = sole-of c.requires.are c.requires.all c.args.floor.now c.requires.about c.in-Some.number c.in-Some-taken.actor (role-in c.requires.are c.requires.all c.in-Some.number c.in-Some.ensures.some.0 c.in-Some-taken.actor c.in-Some-taken.ensures.some.1 c.in-Some.ensures.some.1)

pub call_page-seat-requires-clause-begins : goal.call_page-seat-requires-clause-begins
call_page-seat-requires-clause-begins g c = can-call c.requires.are c.requires.all c.args.floor.now c.requires.about c.in-Some.number c.in-Some-taken.actor (role-in c.requires.are c.requires.all c.in-Some.number c.in-Some.ensures.some.0 c.in-Some-taken.actor c.in-Some-taken.ensures.some.1 c.in-Some.ensures.some.1) (role-role c.requires.are c.requires.all c.in-Some.number c.in-Some.ensures.some.0 c.in-Some-taken.actor c.in-Some-taken.ensures.some.1 c.in-Some.ensures.some.1) c.args.call.now (page-may c.args.call.now c.requires.page.0 c.requires.page.1) (page-no-sync c.args.call.now c.requires.page.0 c.requires.page.1) c.requires.valid

pub returns-in_default-clause-are : goal.returns-in_default-clause-are
returns-in_default-clause-are g c = own-after c.requires.are c.requires.all c.args.floor.now c.requires.about c.own_number-number.result c.args.own.now (own-in c.requires.are c.requires.all c.own_number-number.result c.own_number-number.ensures c.in_default.ensures.none) c.call_page.new.actor c.call_page.result.0 (paged-done c.args.floor.now c.args.call.now c.own_number-number.result c.args.own.now c.call_page.new.actor c.args.seat c.call_page.result.0 c.call_page.result.1 c.call_page.ensures.paged) (paged-later c.args.floor.now c.args.call.now c.own_number-number.result c.args.own.now c.call_page.new.actor c.args.seat c.call_page.result.0 c.call_page.result.1 c.call_page.ensures.paged) c.own_number-number.ensures

pub returns-in_default-clause-table : goal.returns-in_default-clause-table
returns-in_default-clause-table g c = (paged-done c.args.floor.now c.args.call.now c.own_number-number.result c.args.own.now c.call_page.new.actor c.args.seat c.call_page.result.0 c.call_page.result.1 c.call_page.ensures.paged).stands.sole.holds.own ∙ sym c.requires.about.table

pub returns-in_default-clause-setting : goal.returns-in_default-clause-setting
returns-in_default-clause-setting g c = (paged-done c.args.floor.now c.args.call.now c.own_number-number.result c.args.own.now c.call_page.new.actor c.args.seat c.call_page.result.0 c.call_page.result.1 c.call_page.ensures.paged).same.setting

pub returns-in_default-clause-later : goal.returns-in_default-clause-later
returns-in_default-clause-later g c = paged-later c.args.floor.now c.args.call.now c.own_number-number.result c.args.own.now c.call_page.new.actor c.args.seat c.call_page.result.0 c.call_page.result.1 c.call_page.ensures.paged

pub returns-clause-are : goal.returns-clause-are
returns-clause-are g c = subst (λ (l : List (Option Actor)). ArePasses c.call_page-seat.result.0 c.args.own.now l) (sym (put-back c.requires.are c.requires.all c.in-Some.number c.in-Some.ensures.some.0 c.in-Some-taken.actor c.in-Some-taken.ensures.some.1 c.in-Some.ensures.some.1 c.taken.new.actors.items c.put.new.actors.items c.call_page-seat.new.actor c.taken.ensures.now c.put.ensures.now)) (role-after c.requires.are c.requires.all c.args.floor.now c.requires.about c.in-Some.number c.in-Some-taken.actor (role-in c.requires.are c.requires.all c.in-Some.number c.in-Some.ensures.some.0 c.in-Some-taken.actor c.in-Some-taken.ensures.some.1 c.in-Some.ensures.some.1) c.call_page-seat.new.actor c.call_page-seat.result.0 (paged-done c.args.floor.now c.args.call.now c.in-Some.number c.in-Some-taken.actor c.call_page-seat.new.actor c.args.seat c.call_page-seat.result.0 c.call_page-seat.result.1 c.call_page-seat.ensures.paged) (paged-later c.args.floor.now c.args.call.now c.in-Some.number c.in-Some-taken.actor c.call_page-seat.new.actor c.args.seat c.call_page-seat.result.0 c.call_page-seat.result.1 c.call_page-seat.ensures.paged) c.in-Some.ensures.some.0)

pub returns-clause-all : goal.returns-clause-all
returns-clause-all g c = subst (λ (l : List (Option Actor)). missing 0 l ≡ []) (sym (put-back c.requires.are c.requires.all c.in-Some.number c.in-Some.ensures.some.0 c.in-Some-taken.actor c.in-Some-taken.ensures.some.1 c.in-Some.ensures.some.1 c.taken.new.actors.items c.put.new.actors.items c.call_page-seat.new.actor c.taken.ensures.now c.put.ensures.now)) (missing-put 0 c.args.actors.now.items c.in-Some.number c.call_page-seat.new.actor c.requires.all)

pub returns-clause-table : goal.returns-clause-table
returns-clause-table g c = (paged-done c.args.floor.now c.args.call.now c.in-Some.number c.in-Some-taken.actor c.call_page-seat.new.actor c.args.seat c.call_page-seat.result.0 c.call_page-seat.result.1 c.call_page-seat.ensures.paged).stands.sole.holds.own ∙ sym c.requires.about.table

pub returns-clause-later : goal.returns-clause-later
returns-clause-later g c = paged-later c.args.floor.now c.args.call.now c.in-Some.number c.in-Some-taken.actor c.call_page-seat.new.actor c.args.seat c.call_page-seat.result.0 c.call_page-seat.result.1 c.call_page-seat.ensures.paged

pub returns-in_default-clause-told : goal.returns-in_default-clause-told
returns-in_default-clause-told g c = told-by c.args.floor.now c.args.call.now c.own_number-number.result c.args.own.now c.call_page.new.actor c.args.seat c.call_page.result.0 c.args.own.now c.call_page.new.actor c.args.actors.now.items c.args.actors.now.items (own-number c.requires.are c.requires.all c.own_number-number.result c.own_number-number.ensures c.in_default.ensures.none) c.call_page.result.1 c.call_page.ensures.paged

pub returns-clause-told : goal.returns-clause-told
returns-clause-told g c = told-by c.args.floor.now c.args.call.now c.in-Some.number c.in-Some-taken.actor c.call_page-seat.new.actor c.args.seat c.call_page-seat.result.0 c.args.own.now c.args.own.now c.args.actors.now.items c.put.new.actors.items (role-number c.requires.are c.requires.all c.in-Some.number c.in-Some.ensures.some.0 c.in-Some-taken.actor c.in-Some-taken.ensures.some.1 c.in-Some.ensures.some.1) c.call_page-seat.result.1 c.call_page-seat.ensures.paged

pub returns-in_default-clause-others : goal.returns-in_default-clause-others
returns-in_default-clause-others g c k other = begun-else c.requires.are c.requires.all c.args.floor.now c.requires.about c.own_number-number.result c.args.own.now (own-in c.requires.are c.requires.all c.own_number-number.result c.own_number-number.ensures c.in_default.ensures.none) c.call_page.new.actor c.call_page.result.0 (paged-done c.args.floor.now c.args.call.now c.own_number-number.result c.args.own.now c.call_page.new.actor c.args.seat c.call_page.result.0 c.call_page.result.1 c.call_page.ensures.paged) (paged-later c.args.floor.now c.args.call.now c.own_number-number.result c.args.own.now c.call_page.new.actor c.args.seat c.call_page.result.0 c.call_page.result.1 c.call_page.ensures.paged) k (other-number (actor_of c.args.own.now).setting c.own_number-number.result k (own-number c.requires.are c.requires.all c.own_number-number.result c.own_number-number.ensures c.in_default.ensures.none) other)

pub returns-clause-others : goal.returns-clause-others
returns-clause-others g c k other = begun-else c.requires.are c.requires.all c.args.floor.now c.requires.about c.in-Some.number c.in-Some-taken.actor (role-in c.requires.are c.requires.all c.in-Some.number c.in-Some.ensures.some.0 c.in-Some-taken.actor c.in-Some-taken.ensures.some.1 c.in-Some.ensures.some.1) c.call_page-seat.new.actor c.call_page-seat.result.0 (paged-done c.args.floor.now c.args.call.now c.in-Some.number c.in-Some-taken.actor c.call_page-seat.new.actor c.args.seat c.call_page-seat.result.0 c.call_page-seat.result.1 c.call_page-seat.ensures.paged) (paged-later c.args.floor.now c.args.call.now c.in-Some.number c.in-Some-taken.actor c.call_page-seat.new.actor c.args.seat c.call_page-seat.result.0 c.call_page-seat.result.1 c.call_page-seat.ensures.paged) k (other-number (actor_of c.args.own.now).setting c.in-Some.number k (role-number c.requires.are c.requires.all c.in-Some.number c.in-Some.ensures.some.0 c.in-Some-taken.actor c.in-Some-taken.ensures.some.1 c.in-Some.ensures.some.1) other)
