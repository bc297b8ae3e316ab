use Rattle.std.proofs.Common.{◌≡◌, ◌∙◌, List, [], ◌∷◌, Option, subst, sym}
use Rattle.actor_run.proofs.Gathered.{begun-else, other-number, barrier-done, barrier-ends, barrier-later, barrier-none, can-call, missing-put, own-after, own-in, own-number, own-role, put-back, role-after, role-in, role-number, role-role, sole-of}
use Rattle.actor_run.specs.Passes.{ArePasses, missing}
use Rattle.row_ledger.specs.declared.event.Event.TheVariants.{Ended}
use Rattle.row_ledger.specs.declared.settings.Call.TheVariants.{Barrier}
use Rattle.row_ledger.specs.declared.settings.How.TheVariants.{Fine}
use Rattle.whole_steps.specs.volap_cell.specs.{Values.actor_of, declared.actor.Actor.Actor}
use Rattle.actor_run.proofs.whole.barrier_with.Goals as goal

pub call_barrier-requires-clause-stands : goal.call_barrier-requires-clause-stands
call_barrier-requires-clause-stands g c = sole-of c.requires.are c.requires.all c.args.floor.now c.requires.about c.own_number-number.result c.args.own.now (own-in c.requires.are c.requires.all c.own_number-number.result c.own_number-number.ensures c.in_default.ensures.none)

pub call_barrier-requires-clause-begins : goal.call_barrier-requires-clause-begins
call_barrier-requires-clause-begins g c = can-call c.requires.are c.requires.all c.args.floor.now c.requires.about c.own_number-number.result c.args.own.now (own-in c.requires.are c.requires.all c.own_number-number.result c.own_number-number.ensures c.in_default.ensures.none) (own-role c.requires.are c.requires.all c.own_number-number.result c.own_number-number.ensures c.in_default.ensures.none) Barrier tt (λ k e. cc) tt

pub call_barrier-done-requires-clause-stands : goal.call_barrier-done-requires-clause-stands
call_barrier-done-requires-clause-stands g c = sole-of c.requires.are c.requires.all c.args.floor.now c.requires.about c.in-Some.number c.in-Some-taken.actor (role-in c.requires.are c.requires.all c.in-Some.number c.in-Some.ensures.some.0 c.in-Some-taken.actor c.in-Some-taken.ensures.some.1 c.in-Some.ensures.some.1)

pub call_barrier-done-requires-clause-begins : goal.call_barrier-done-requires-clause-begins
call_barrier-done-requires-clause-begins g c = can-call c.requires.are c.requires.all c.args.floor.now c.requires.about c.in-Some.number c.in-Some-taken.actor (role-in c.requires.are c.requires.all c.in-Some.number c.in-Some.ensures.some.0 c.in-Some-taken.actor c.in-Some-taken.ensures.some.1 c.in-Some.ensures.some.1) (role-role c.requires.are c.requires.all c.in-Some.number c.in-Some.ensures.some.0 c.in-Some-taken.actor c.in-Some-taken.ensures.some.1 c.in-Some.ensures.some.1) Barrier tt (λ k e. cc) tt

pub returns-in_default-clause-are : goal.returns-in_default-clause-are
returns-in_default-clause-are g c = own-after c.requires.are c.requires.all c.args.floor.now c.requires.about c.own_number-number.result c.args.own.now (own-in c.requires.are c.requires.all c.own_number-number.result c.own_number-number.ensures c.in_default.ensures.none) c.call_barrier.new.actor c.call_barrier.new.seat (barrier-done c.args.floor.now Barrier c.own_number-number.result c.args.own.now c.call_barrier.new.actor c.args.seat.now c.call_barrier.new.seat (λ of. Ended of Fine ∷ []) c.call_barrier.result c.call_barrier.ensures.done c.call_barrier.ensures.same) (barrier-later c.args.floor.now Barrier c.own_number-number.result c.args.own.now c.call_barrier.new.actor c.args.seat.now c.call_barrier.new.seat (λ of. Ended of Fine ∷ []) c.call_barrier.result c.call_barrier.ensures.done c.call_barrier.ensures.same) c.own_number-number.ensures

pub returns-in_default-clause-table : goal.returns-in_default-clause-table
returns-in_default-clause-table g c = (barrier-done c.args.floor.now Barrier c.own_number-number.result c.args.own.now c.call_barrier.new.actor c.args.seat.now c.call_barrier.new.seat (λ of. Ended of Fine ∷ []) c.call_barrier.result c.call_barrier.ensures.done c.call_barrier.ensures.same).stands.sole.holds.own ∙ sym c.requires.about.table

pub returns-in_default-clause-setting : goal.returns-in_default-clause-setting
returns-in_default-clause-setting g c = (barrier-done c.args.floor.now Barrier c.own_number-number.result c.args.own.now c.call_barrier.new.actor c.args.seat.now c.call_barrier.new.seat (λ of. Ended of Fine ∷ []) c.call_barrier.result c.call_barrier.ensures.done c.call_barrier.ensures.same).same.setting

pub returns-in_default-clause-later : goal.returns-in_default-clause-later
returns-in_default-clause-later g c = barrier-later c.args.floor.now Barrier c.own_number-number.result c.args.own.now c.call_barrier.new.actor c.args.seat.now c.call_barrier.new.seat (λ of. Ended of Fine ∷ []) c.call_barrier.result c.call_barrier.ensures.done c.call_barrier.ensures.same

pub returns-clause-are : goal.returns-clause-are
returns-clause-are g c = subst (λ (l : List (Option Actor)). ArePasses c.call_barrier-done.new.seat c.args.own.now l) (sym (put-back c.requires.are c.requires.all c.in-Some.number c.in-Some.ensures.some.0 c.in-Some-taken.actor c.in-Some-taken.ensures.some.1 c.in-Some.ensures.some.1 c.taken.new.actors.items c.put.new.actors.items c.call_barrier-done.new.actor c.taken.ensures.now c.put.ensures.now)) (role-after c.requires.are c.requires.all c.args.floor.now c.requires.about c.in-Some.number c.in-Some-taken.actor (role-in c.requires.are c.requires.all c.in-Some.number c.in-Some.ensures.some.0 c.in-Some-taken.actor c.in-Some-taken.ensures.some.1 c.in-Some.ensures.some.1) c.call_barrier-done.new.actor c.call_barrier-done.new.seat (barrier-done c.args.floor.now Barrier c.in-Some.number c.in-Some-taken.actor c.call_barrier-done.new.actor c.args.seat.now c.call_barrier-done.new.seat (λ of. Ended of Fine ∷ []) c.call_barrier-done.result c.call_barrier-done.ensures.done c.call_barrier-done.ensures.same) (barrier-later c.args.floor.now Barrier c.in-Some.number c.in-Some-taken.actor c.call_barrier-done.new.actor c.args.seat.now c.call_barrier-done.new.seat (λ of. Ended of Fine ∷ []) c.call_barrier-done.result c.call_barrier-done.ensures.done c.call_barrier-done.ensures.same) c.in-Some.ensures.some.0)

pub returns-clause-all : goal.returns-clause-all
returns-clause-all g c = subst (λ (l : List (Option Actor)). missing 0 l ≡ []) (sym (put-back c.requires.are c.requires.all c.in-Some.number c.in-Some.ensures.some.0 c.in-Some-taken.actor c.in-Some-taken.ensures.some.1 c.in-Some.ensures.some.1 c.taken.new.actors.items c.put.new.actors.items c.call_barrier-done.new.actor c.taken.ensures.now c.put.ensures.now)) (missing-put 0 c.args.actors.now.items c.in-Some.number c.call_barrier-done.new.actor c.requires.all)

pub returns-clause-table : goal.returns-clause-table
returns-clause-table g c = (barrier-done c.args.floor.now Barrier c.in-Some.number c.in-Some-taken.actor c.call_barrier-done.new.actor c.args.seat.now c.call_barrier-done.new.seat (λ of. Ended of Fine ∷ []) c.call_barrier-done.result c.call_barrier-done.ensures.done c.call_barrier-done.ensures.same).stands.sole.holds.own ∙ sym c.requires.about.table

pub returns-clause-later : goal.returns-clause-later
returns-clause-later g c = barrier-later c.args.floor.now Barrier c.in-Some.number c.in-Some-taken.actor c.call_barrier-done.new.actor c.args.seat.now c.call_barrier-done.new.seat (λ of. Ended of Fine ∷ []) c.call_barrier-done.result c.call_barrier-done.ensures.done c.call_barrier-done.ensures.same

pub returns-in_default-clause-done : goal.returns-in_default-clause-done
returns-in_default-clause-done g c = barrier-ends c.args.floor.now Barrier c.own_number-number.result c.args.own.now c.call_barrier.new.actor c.args.seat.now c.call_barrier.new.seat (λ of. Ended of Fine ∷ []) c.args.own.now c.call_barrier.new.actor c.args.actors.now.items c.args.actors.now.items (own-number c.requires.are c.requires.all c.own_number-number.result c.own_number-number.ensures c.in_default.ensures.none) c.call_barrier.result c.call_barrier.ensures.done

pub returns-in_default-clause-none : goal.returns-in_default-clause-none
returns-in_default-clause-none g c = barrier-none c.args.floor.now Barrier c.own_number-number.result c.args.own.now c.call_barrier.new.actor c.args.seat.now c.call_barrier.new.seat (λ of. Ended of Fine ∷ []) c.args.own.now c.call_barrier.new.actor c.args.actors.now.items c.args.actors.now.items (own-number c.requires.are c.requires.all c.own_number-number.result c.own_number-number.ensures c.in_default.ensures.none) c.call_barrier.result c.call_barrier.ensures.same

pub returns-clause-done : goal.returns-clause-done
returns-clause-done g c = barrier-ends c.args.floor.now Barrier c.in-Some.number c.in-Some-taken.actor c.call_barrier-done.new.actor c.args.seat.now c.call_barrier-done.new.seat (λ of. Ended of Fine ∷ []) c.args.own.now c.args.own.now c.args.actors.now.items c.put.new.actors.items (role-number c.requires.are c.requires.all c.in-Some.number c.in-Some.ensures.some.0 c.in-Some-taken.actor c.in-Some-taken.ensures.some.1 c.in-Some.ensures.some.1) c.call_barrier-done.result c.call_barrier-done.ensures.done

pub returns-clause-none : goal.returns-clause-none
returns-clause-none g c = barrier-none c.args.floor.now Barrier c.in-Some.number c.in-Some-taken.actor c.call_barrier-done.new.actor c.args.seat.now c.call_barrier-done.new.seat (λ of. Ended of Fine ∷ []) c.args.own.now c.args.own.now c.args.actors.now.items c.put.new.actors.items (role-number c.requires.are c.requires.all c.in-Some.number c.in-Some.ensures.some.0 c.in-Some-taken.actor c.in-Some-taken.ensures.some.1 c.in-Some.ensures.some.1) c.call_barrier-done.result c.call_barrier-done.ensures.same

pub returns-in_default-clause-others : goal.returns-in_default-clause-others
returns-in_default-clause-others g c k other = begun-else c.requires.are c.requires.all c.args.floor.now c.requires.about c.own_number-number.result c.args.own.now (own-in c.requires.are c.requires.all c.own_number-number.result c.own_number-number.ensures c.in_default.ensures.none) c.call_barrier.new.actor c.call_barrier.new.seat (barrier-done c.args.floor.now Barrier c.own_number-number.result c.args.own.now c.call_barrier.new.actor c.args.seat.now c.call_barrier.new.seat (λ of. Ended of Fine ∷ []) c.call_barrier.result c.call_barrier.ensures.done c.call_barrier.ensures.same) (barrier-later c.args.floor.now Barrier c.own_number-number.result c.args.own.now c.call_barrier.new.actor c.args.seat.now c.call_barrier.new.seat (λ of. Ended of Fine ∷ []) c.call_barrier.result c.call_barrier.ensures.done c.call_barrier.ensures.same) k (other-number (actor_of c.args.own.now).setting c.own_number-number.result k (own-number c.requires.are c.requires.all c.own_number-number.result c.own_number-number.ensures c.in_default.ensures.none) other)

pub returns-clause-others : goal.returns-clause-others
returns-clause-others g c k other = begun-else c.requires.are c.requires.all c.args.floor.now c.requires.about c.in-Some.number c.in-Some-taken.actor (role-in c.requires.are c.requires.all c.in-Some.number c.in-Some.ensures.some.0 c.in-Some-taken.actor c.in-Some-taken.ensures.some.1 c.in-Some.ensures.some.1) c.call_barrier-done.new.actor c.call_barrier-done.new.seat (barrier-done c.args.floor.now Barrier c.in-Some.number c.in-Some-taken.actor c.call_barrier-done.new.actor c.args.seat.now c.call_barrier-done.new.seat (λ of. Ended of Fine ∷ []) c.call_barrier-done.result c.call_barrier-done.ensures.done c.call_barrier-done.ensures.same) (barrier-later c.args.floor.now Barrier c.in-Some.number c.in-Some-taken.actor c.call_barrier-done.new.actor c.args.seat.now c.call_barrier-done.new.seat (λ of. Ended of Fine ∷ []) c.call_barrier-done.result c.call_barrier-done.ensures.done c.call_barrier-done.ensures.same) k (other-number (actor_of c.args.own.now).setting c.in-Some.number k (role-number c.requires.are c.requires.all c.in-Some.number c.in-Some.ensures.some.0 c.in-Some-taken.actor c.in-Some-taken.ensures.some.1 c.in-Some.ensures.some.1) other)
