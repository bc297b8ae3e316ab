use Rattle.std.proofs.Common.{◌≡◌, ◌∙◌, List, [], Option, subst, sym}
use Rattle.actor_run.proofs.Gathered.{begun-else, other-number, can-call, missing-put, own-after, own-in, own-number, own-role, put-back, role-after, role-in, role-number, role-role, settled-done, settled-later, settled-so, sole-of}
use Rattle.actor_run.specs.Passes.{ArePasses, missing}
use Rattle.row_ledger.specs.declared.settings.Call.TheVariants.{Settle}
use Rattle.whole_steps.specs.volap_cell.specs.{Values.actor_of, declared.actor.Actor.Actor}
use Rattle.actor_run.proofs.whole.settle_with.Goals as goal

pub call_settle-requires-clause-stands : goal.call_settle-requires-clause-stands
call_settle-requires-clause-stands g c = sole-of c.requires.are c.requires.all c.args.floor.now c.requires.about c.own_number-number.result c.args.own.now (own-in c.requires.are c.requires.all c.own_number-number.result c.own_number-number.ensures c.in_default.ensures.none)

pub call_settle-requires-clause-begins : goal.call_settle-requires-clause-begins
call_settle-requires-clause-begins g c = can-call c.requires.are c.requires.all c.args.floor.now c.requires.about c.own_number-number.result c.args.own.now (own-in c.requires.are c.requires.all c.own_number-number.result c.own_number-number.ensures c.in_default.ensures.none) (own-role c.requires.are c.requires.all c.own_number-number.result c.own_number-number.ensures c.in_default.ensures.none) Settle tt (λ k e. cc) tt

pub call_settle-settled-requires-clause-stands : goal.call_settle-settled-requires-clause-stands
call_settle-settled-requires-clause-stands g c = sole-of c.requires.are c.requires.all c.args.floor.now c.requires.about c.in-Some.number c.in-Some-taken.actor (role-in c.requires.are c.requires.all c.in-Some.number c.in-Some.ensures.some.0 c.in-Some-taken.actor c.in-Some-taken.ensures.some.1 c.in-Some.ensures.some.1)

pub call_settle-settled-requires-clause-begins : goal.call_settle-settled-requires-clause-begins
call_settle-settled-requires-clause-begins g c = can-call c.requires.are c.requires.all c.args.floor.now c.requires.about c.in-Some.number c.in-Some-taken.actor (role-in c.requires.are c.requires.all c.in-Some.number c.in-Some.ensures.some.0 c.in-Some-taken.actor c.in-Some-taken.ensures.some.1 c.in-Some.ensures.some.1) (role-role c.requires.are c.requires.all c.in-Some.number c.in-Some.ensures.some.0 c.in-Some-taken.actor c.in-Some-taken.ensures.some.1 c.in-Some.ensures.some.1) Settle tt (λ k e. cc) tt

pub returns-in_default-clause-are : goal.returns-in_default-clause-are
returns-in_default-clause-are g c = own-after c.requires.are c.requires.all c.args.floor.now c.requires.about c.own_number-number.result c.args.own.now (own-in c.requires.are c.requires.all c.own_number-number.result c.own_number-number.ensures c.in_default.ensures.none) c.call_settle.new.actor c.call_settle.new.seat (settled-done c.args.floor.now c.own_number-number.result c.args.own.now c.call_settle.new.actor c.args.seat.now c.call_settle.new.seat c.call_settle.result c.call_settle.ensures.settled) (settled-later c.args.floor.now c.own_number-number.result c.args.own.now c.call_settle.new.actor c.args.seat.now c.call_settle.new.seat c.call_settle.result c.call_settle.ensures.settled) c.own_number-number.ensures

pub returns-in_default-clause-table : goal.returns-in_default-clause-table
returns-in_default-clause-table g c = (settled-done c.args.floor.now c.own_number-number.result c.args.own.now c.call_settle.new.actor c.args.seat.now c.call_settle.new.seat c.call_settle.result c.call_settle.ensures.settled).stands.sole.holds.own ∙ sym c.requires.about.table

pub returns-in_default-clause-setting : goal.returns-in_default-clause-setting
returns-in_default-clause-setting g c = (settled-done c.args.floor.now c.own_number-number.result c.args.own.now c.call_settle.new.actor c.args.seat.now c.call_settle.new.seat c.call_settle.result c.call_settle.ensures.settled).same.setting

pub returns-in_default-clause-later : goal.returns-in_default-clause-later
returns-in_default-clause-later g c = settled-later c.args.floor.now c.own_number-number.result c.args.own.now c.call_settle.new.actor c.args.seat.now c.call_settle.new.seat c.call_settle.result c.call_settle.ensures.settled

pub returns-clause-are : goal.returns-clause-are
returns-clause-are g c = subst (λ (l : List (Option Actor)). ArePasses c.call_settle-settled.new.seat c.args.own.now l) (sym (put-back c.requires.are c.requires.all c.in-Some.number c.in-Some.ensures.some.0 c.in-Some-taken.actor c.in-Some-taken.ensures.some.1 c.in-Some.ensures.some.1 c.taken.new.actors.items c.put.new.actors.items c.call_settle-settled.new.actor c.taken.ensures.now c.put.ensures.now)) (role-after c.requires.are c.requires.all c.args.floor.now c.requires.about c.in-Some.number c.in-Some-taken.actor (role-in c.requires.are c.requires.all c.in-Some.number c.in-Some.ensures.some.0 c.in-Some-taken.actor c.in-Some-taken.ensures.some.1 c.in-Some.ensures.some.1) c.call_settle-settled.new.actor c.call_settle-settled.new.seat (settled-done c.args.floor.now c.in-Some.number c.in-Some-taken.actor c.call_settle-settled.new.actor c.args.seat.now c.call_settle-settled.new.seat c.call_settle-settled.result c.call_settle-settled.ensures.settled) (settled-later c.args.floor.now c.in-Some.number c.in-Some-taken.actor c.call_settle-settled.new.actor c.args.seat.now c.call_settle-settled.new.seat c.call_settle-settled.result c.call_settle-settled.ensures.settled) c.in-Some.ensures.some.0)

pub returns-clause-all : goal.returns-clause-all
returns-clause-all g c = subst (λ (l : List (Option Actor)). missing 0 l ≡ []) (sym (put-back c.requires.are c.requires.all c.in-Some.number c.in-Some.ensures.some.0 c.in-Some-taken.actor c.in-Some-taken.ensures.some.1 c.in-Some.ensures.some.1 c.taken.new.actors.items c.put.new.actors.items c.call_settle-settled.new.actor c.taken.ensures.now c.put.ensures.now)) (missing-put 0 c.args.actors.now.items c.in-Some.number c.call_settle-settled.new.actor c.requires.all)

pub returns-clause-table : goal.returns-clause-table
returns-clause-table g c = (settled-done c.args.floor.now c.in-Some.number c.in-Some-taken.actor c.call_settle-settled.new.actor c.args.seat.now c.call_settle-settled.new.seat c.call_settle-settled.result c.call_settle-settled.ensures.settled).stands.sole.holds.own ∙ sym c.requires.about.table

pub returns-clause-later : goal.returns-clause-later
returns-clause-later g c = settled-later c.args.floor.now c.in-Some.number c.in-Some-taken.actor c.call_settle-settled.new.actor c.args.seat.now c.call_settle-settled.new.seat c.call_settle-settled.result c.call_settle-settled.ensures.settled

pub returns-in_default-clause-settled : goal.returns-in_default-clause-settled
returns-in_default-clause-settled g c = settled-so c.args.floor.now c.own_number-number.result c.args.own.now c.call_settle.new.actor c.args.seat.now c.call_settle.new.seat c.args.own.now c.call_settle.new.actor c.args.actors.now.items c.args.actors.now.items (own-number c.requires.are c.requires.all c.own_number-number.result c.own_number-number.ensures c.in_default.ensures.none) c.call_settle.result c.call_settle.ensures.settled

pub returns-clause-settled : goal.returns-clause-settled
returns-clause-settled g c = settled-so c.args.floor.now c.in-Some.number c.in-Some-taken.actor c.call_settle-settled.new.actor c.args.seat.now c.call_settle-settled.new.seat c.args.own.now c.args.own.now c.args.actors.now.items c.put.new.actors.items (role-number c.requires.are c.requires.all c.in-Some.number c.in-Some.ensures.some.0 c.in-Some-taken.actor c.in-Some-taken.ensures.some.1 c.in-Some.ensures.some.1) c.call_settle-settled.result c.call_settle-settled.ensures.settled

pub returns-in_default-clause-others : goal.returns-in_default-clause-others
returns-in_default-clause-others g c k other = begun-else c.requires.are c.requires.all c.args.floor.now c.requires.about c.own_number-number.result c.args.own.now (own-in c.requires.are c.requires.all c.own_number-number.result c.own_number-number.ensures c.in_default.ensures.none) c.call_settle.new.actor c.call_settle.new.seat (settled-done c.args.floor.now c.own_number-number.result c.args.own.now c.call_settle.new.actor c.args.seat.now c.call_settle.new.seat c.call_settle.result c.call_settle.ensures.settled) (settled-later c.args.floor.now c.own_number-number.result c.args.own.now c.call_settle.new.actor c.args.seat.now c.call_settle.new.seat c.call_settle.result c.call_settle.ensures.settled) k (other-number (actor_of c.args.own.now).setting c.own_number-number.result k (own-number c.requires.are c.requires.all c.own_number-number.result c.own_number-number.ensures c.in_default.ensures.none) other)

pub returns-clause-others : goal.returns-clause-others
returns-clause-others g c k other = begun-else c.requires.are c.requires.all c.args.floor.now c.requires.about c.in-Some.number c.in-Some-taken.actor (role-in c.requires.are c.requires.all c.in-Some.number c.in-Some.ensures.some.0 c.in-Some-taken.actor c.in-Some-taken.ensures.some.1 c.in-Some.ensures.some.1) c.call_settle-settled.new.actor c.call_settle-settled.new.seat (settled-done c.args.floor.now c.in-Some.number c.in-Some-taken.actor c.call_settle-settled.new.actor c.args.seat.now c.call_settle-settled.new.seat c.call_settle-settled.result c.call_settle-settled.ensures.settled) (settled-later c.args.floor.now c.in-Some.number c.in-Some-taken.actor c.call_settle-settled.new.actor c.args.seat.now c.call_settle-settled.new.seat c.call_settle-settled.result c.call_settle-settled.ensures.settled) k (other-number (actor_of c.args.own.now).setting c.in-Some.number k (role-number c.requires.are c.requires.all c.in-Some.number c.in-Some.ensures.some.0 c.in-Some-taken.actor c.in-Some-taken.ensures.some.1 c.in-Some.ensures.some.1) other)
