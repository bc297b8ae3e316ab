use Rattle.std.proofs.Common.{◌≡◌, ◌∙◌, List, [], Option, subst, sym}
use Rattle.actor_run.proofs.Gathered.{begun-else, free-in, missing-put, noted-done, noted-later, noted-none, noted-so, other-number, own-after, own-in, own-number, own-role, put-back, role-after, role-in, role-number, role-role, sole-of}
use Rattle.actor_run.specs.Passes.{ArePasses, missing}
use Rattle.whole_steps.specs.volap_cell.specs.{Values.actor_of, declared.actor.Actor.Actor}
use Rattle.actor_run.proofs.whole.unknown_with.Goals as goal

pub note_unknown-requires-clause-stands : goal.note_unknown-requires-clause-stands
note_unknown-requires-clause-stands g c = sole-of c.requires.are c.requires.all c.args.floor.now c.requires.about c.own_number-number.result c.args.own.now (own-in c.requires.are c.requires.all c.own_number-number.result c.own_number-number.ensures c.in_default.ensures.none)

pub note_unknown-requires-clause-free : goal.note_unknown-requires-clause-free
note_unknown-requires-clause-free g c = free-in (own-in c.requires.are c.requires.all c.own_number-number.result c.own_number-number.ensures c.in_default.ensures.none)

pub note_unknown-requires-clause-seen : goal.note_unknown-requires-clause-seen
note_unknown-requires-clause-seen g c = (own-in c.requires.are c.requires.all c.own_number-number.result c.own_number-number.ensures c.in_default.ensures.none).noted

pub note_unknown-noted-requires-clause-stands : goal.note_unknown-noted-requires-clause-stands
note_unknown-noted-requires-clause-stands g c = sole-of c.requires.are c.requires.all c.args.floor.now c.requires.about c.in-Some.number c.in-Some-taken.actor (role-in c.requires.are c.requires.all c.in-Some.number c.in-Some.ensures.some.0 c.in-Some-taken.actor c.in-Some-taken.ensures.some.1 c.in-Some.ensures.some.1)

pub note_unknown-noted-requires-clause-free : goal.note_unknown-noted-requires-clause-free
note_unknown-noted-requires-clause-free g c = free-in (role-in c.requires.are c.requires.all c.in-Some.number c.in-Some.ensures.some.0 c.in-Some-taken.actor c.in-Some-taken.ensures.some.1 c.in-Some.ensures.some.1)

pub note_unknown-noted-requires-clause-seen : goal.note_unknown-noted-requires-clause-seen
note_unknown-noted-requires-clause-seen g c = (role-in c.requires.are c.requires.all c.in-Some.number c.in-Some.ensures.some.0 c.in-Some-taken.actor c.in-Some-taken.ensures.some.1 c.in-Some.ensures.some.1).noted

pub returns-in_default-clause-are : goal.returns-in_default-clause-are
returns-in_default-clause-are g c = own-after c.requires.are c.requires.all c.args.floor.now c.requires.about c.own_number-number.result c.args.own.now (own-in c.requires.are c.requires.all c.own_number-number.result c.own_number-number.ensures c.in_default.ensures.none) c.note_unknown.new.actor c.note_unknown.new.seat (noted-done c.args.floor.now c.args.dim c.own_number-number.result c.args.own.now c.note_unknown.new.actor c.args.seat.now c.note_unknown.new.seat c.note_unknown.result c.note_unknown.ensures.noted c.note_unknown.ensures.same) (noted-later c.args.floor.now c.args.dim c.own_number-number.result c.args.own.now c.note_unknown.new.actor c.args.seat.now c.note_unknown.new.seat c.note_unknown.result c.note_unknown.ensures.noted c.note_unknown.ensures.same) c.own_number-number.ensures

pub returns-in_default-clause-table : goal.returns-in_default-clause-table
returns-in_default-clause-table g c = (noted-done c.args.floor.now c.args.dim c.own_number-number.result c.args.own.now c.note_unknown.new.actor c.args.seat.now c.note_unknown.new.seat c.note_unknown.result c.note_unknown.ensures.noted c.note_unknown.ensures.same).stands.sole.holds.own ∙ sym c.requires.about.table

pub returns-in_default-clause-setting : goal.returns-in_default-clause-setting
returns-in_default-clause-setting g c = (noted-done c.args.floor.now c.args.dim c.own_number-number.result c.args.own.now c.note_unknown.new.actor c.args.seat.now c.note_unknown.new.seat c.note_unknown.result c.note_unknown.ensures.noted c.note_unknown.ensures.same).same.setting

pub returns-in_default-clause-later : goal.returns-in_default-clause-later
returns-in_default-clause-later g c = noted-later c.args.floor.now c.args.dim c.own_number-number.result c.args.own.now c.note_unknown.new.actor c.args.seat.now c.note_unknown.new.seat c.note_unknown.result c.note_unknown.ensures.noted c.note_unknown.ensures.same

pub returns-clause-are : goal.returns-clause-are
returns-clause-are g c = subst (λ (l : List (Option Actor)). ArePasses c.note_unknown-noted.new.seat c.args.own.now l) (sym (put-back c.requires.are c.requires.all c.in-Some.number c.in-Some.ensures.some.0 c.in-Some-taken.actor c.in-Some-taken.ensures.some.1 c.in-Some.ensures.some.1 c.taken.new.actors.items c.put.new.actors.items c.note_unknown-noted.new.actor c.taken.ensures.now c.put.ensures.now)) (role-after c.requires.are c.requires.all c.args.floor.now c.requires.about c.in-Some.number c.in-Some-taken.actor (role-in c.requires.are c.requires.all c.in-Some.number c.in-Some.ensures.some.0 c.in-Some-taken.actor c.in-Some-taken.ensures.some.1 c.in-Some.ensures.some.1) c.note_unknown-noted.new.actor c.note_unknown-noted.new.seat (noted-done c.args.floor.now c.args.dim c.in-Some.number c.in-Some-taken.actor c.note_unknown-noted.new.actor c.args.seat.now c.note_unknown-noted.new.seat c.note_unknown-noted.result c.note_unknown-noted.ensures.noted c.note_unknown-noted.ensures.same) (noted-later c.args.floor.now c.args.dim c.in-Some.number c.in-Some-taken.actor c.note_unknown-noted.new.actor c.args.seat.now c.note_unknown-noted.new.seat c.note_unknown-noted.result c.note_unknown-noted.ensures.noted c.note_unknown-noted.ensures.same) c.in-Some.ensures.some.0)

pub returns-clause-all : goal.returns-clause-all
returns-clause-all g c = subst (λ (l : List (Option Actor)). missing 0 l ≡ []) (sym (put-back c.requires.are c.requires.all c.in-Some.number c.in-Some.ensures.some.0 c.in-Some-taken.actor c.in-Some-taken.ensures.some.1 c.in-Some.ensures.some.1 c.taken.new.actors.items c.put.new.actors.items c.note_unknown-noted.new.actor c.taken.ensures.now c.put.ensures.now)) (missing-put 0 c.args.actors.now.items c.in-Some.number c.note_unknown-noted.new.actor c.requires.all)

pub returns-clause-table : goal.returns-clause-table
returns-clause-table g c = (noted-done c.args.floor.now c.args.dim c.in-Some.number c.in-Some-taken.actor c.note_unknown-noted.new.actor c.args.seat.now c.note_unknown-noted.new.seat c.note_unknown-noted.result c.note_unknown-noted.ensures.noted c.note_unknown-noted.ensures.same).stands.sole.holds.own ∙ sym c.requires.about.table

pub returns-clause-later : goal.returns-clause-later
returns-clause-later g c = noted-later c.args.floor.now c.args.dim c.in-Some.number c.in-Some-taken.actor c.note_unknown-noted.new.actor c.args.seat.now c.note_unknown-noted.new.seat c.note_unknown-noted.result c.note_unknown-noted.ensures.noted c.note_unknown-noted.ensures.same

pub returns-in_default-clause-noted : goal.returns-in_default-clause-noted
returns-in_default-clause-noted g c = noted-so c.args.floor.now c.args.dim c.own_number-number.result c.args.own.now c.note_unknown.new.actor c.args.seat.now c.note_unknown.new.seat c.note_unknown.result c.note_unknown.ensures.noted c.note_unknown.ensures.same c.args.own.now c.note_unknown.new.actor c.args.actors.now.items c.args.actors.now.items (own-number c.requires.are c.requires.all c.own_number-number.result c.own_number-number.ensures c.in_default.ensures.none) (own-role c.requires.are c.requires.all c.own_number-number.result c.own_number-number.ensures c.in_default.ensures.none)

pub returns-in_default-clause-none : goal.returns-in_default-clause-none
returns-in_default-clause-none g c = noted-none c.args.floor.now c.args.dim c.own_number-number.result c.args.own.now c.note_unknown.new.actor c.args.seat.now c.note_unknown.new.seat c.note_unknown.result c.note_unknown.ensures.noted c.note_unknown.ensures.same c.args.own.now c.note_unknown.new.actor c.args.actors.now.items c.args.actors.now.items (own-number c.requires.are c.requires.all c.own_number-number.result c.own_number-number.ensures c.in_default.ensures.none)

pub returns-clause-noted : goal.returns-clause-noted
returns-clause-noted g c = noted-so c.args.floor.now c.args.dim c.in-Some.number c.in-Some-taken.actor c.note_unknown-noted.new.actor c.args.seat.now c.note_unknown-noted.new.seat c.note_unknown-noted.result c.note_unknown-noted.ensures.noted c.note_unknown-noted.ensures.same c.args.own.now c.args.own.now c.args.actors.now.items c.put.new.actors.items (role-number c.requires.are c.requires.all c.in-Some.number c.in-Some.ensures.some.0 c.in-Some-taken.actor c.in-Some-taken.ensures.some.1 c.in-Some.ensures.some.1) (role-role c.requires.are c.requires.all c.in-Some.number c.in-Some.ensures.some.0 c.in-Some-taken.actor c.in-Some-taken.ensures.some.1 c.in-Some.ensures.some.1)

pub returns-clause-none : goal.returns-clause-none
returns-clause-none g c = noted-none c.args.floor.now c.args.dim c.in-Some.number c.in-Some-taken.actor c.note_unknown-noted.new.actor c.args.seat.now c.note_unknown-noted.new.seat c.note_unknown-noted.result c.note_unknown-noted.ensures.noted c.note_unknown-noted.ensures.same c.args.own.now c.args.own.now c.args.actors.now.items c.put.new.actors.items (role-number c.requires.are c.requires.all c.in-Some.number c.in-Some.ensures.some.0 c.in-Some-taken.actor c.in-Some-taken.ensures.some.1 c.in-Some.ensures.some.1)

pub returns-in_default-clause-others : goal.returns-in_default-clause-others
returns-in_default-clause-others g c k other = begun-else c.requires.are c.requires.all c.args.floor.now c.requires.about c.own_number-number.result c.args.own.now (own-in c.requires.are c.requires.all c.own_number-number.result c.own_number-number.ensures c.in_default.ensures.none) c.note_unknown.new.actor c.note_unknown.new.seat (noted-done c.args.floor.now c.args.dim c.own_number-number.result c.args.own.now c.note_unknown.new.actor c.args.seat.now c.note_unknown.new.seat c.note_unknown.result c.note_unknown.ensures.noted c.note_unknown.ensures.same) (noted-later c.args.floor.now c.args.dim c.own_number-number.result c.args.own.now c.note_unknown.new.actor c.args.seat.now c.note_unknown.new.seat c.note_unknown.result c.note_unknown.ensures.noted c.note_unknown.ensures.same) k (other-number (actor_of c.args.own.now).setting c.own_number-number.result k (own-number c.requires.are c.requires.all c.own_number-number.result c.own_number-number.ensures c.in_default.ensures.none) other)

pub returns-clause-others : goal.returns-clause-others
returns-clause-others g c k other = begun-else c.requires.are c.requires.all c.args.floor.now c.requires.about c.in-Some.number c.in-Some-taken.actor (role-in c.requires.are c.requires.all c.in-Some.number c.in-Some.ensures.some.0 c.in-Some-taken.actor c.in-Some-taken.ensures.some.1 c.in-Some.ensures.some.1) c.note_unknown-noted.new.actor c.note_unknown-noted.new.seat (noted-done c.args.floor.now c.args.dim c.in-Some.number c.in-Some-taken.actor c.note_unknown-noted.new.actor c.args.seat.now c.note_unknown-noted.new.seat c.note_unknown-noted.result c.note_unknown-noted.ensures.noted c.note_unknown-noted.ensures.same) (noted-later c.args.floor.now c.args.dim c.in-Some.number c.in-Some-taken.actor c.note_unknown-noted.new.actor c.args.seat.now c.note_unknown-noted.new.seat c.note_unknown-noted.result c.note_unknown-noted.ensures.noted c.note_unknown-noted.ensures.same) k (other-number (actor_of c.args.own.now).setting c.in-Some.number k (role-number c.requires.are c.requires.all c.in-Some.number c.in-Some.ensures.some.0 c.in-Some-taken.actor c.in-Some-taken.ensures.some.1 c.in-Some.ensures.some.1) other)
