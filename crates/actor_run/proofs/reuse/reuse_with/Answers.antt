use Rattle.std.proofs.Common.{◌≡◌, ◌∙◌, List, [], Option, subst, sym}
use Rattle.actor_run.proofs.{Gathered.{missing-put, own-after, own-in, own-role, put-back, role-after, role-in, role-role, sole-of}, Reused.{is-between, own-none, reused-back, reused-nothing, role-none}}
use Rattle.actor_run.specs.Passes.{ArePasses, gone_of, missing}
use Rattle.whole_steps.specs.volap_cell.specs.declared.actor.Actor.{Actor}
use Rattle.actor_run.proofs.reuse.reuse_with.Goals as goal

pub reuse_all-requires-clause-stands : goal.reuse_all-requires-clause-stands
reuse_all-requires-clause-stands g c = sole-of c.requires.are c.requires.all c.args.floor.now c.requires.about c.own_number-number.result c.args.own.now (own-in c.requires.are c.requires.all c.own_number-number.result c.own_number-number.ensures c.in_default.ensures.none)

pub reuse_all-requires-clause-between : goal.reuse_all-requires-clause-between
reuse_all-requires-clause-between g c = is-between c.requires.are c.requires.all c.args.floor.now c.requires.about c.own_number-number.result c.args.own.now (own-in c.requires.are c.requires.all c.own_number-number.result c.own_number-number.ensures c.in_default.ensures.none)
    (own-role c.requires.are c.requires.all c.own_number-number.result c.own_number-number.ensures c.in_default.ensures.none)

pub returns-in_default-clause-are : goal.returns-in_default-clause-are
returns-in_default-clause-are g c =
    let n = c.own_number-number.result in
    let it = own-in c.requires.are c.requires.all n c.own_number-number.ensures c.in_default.ensures.none in
    own-after c.requires.are c.requires.all c.args.floor.now c.requires.about n c.args.own.now it c.reuse_all.new.actor c.reuse_all.new.seat
    (reused-back c.requires.are c.requires.all c.args.floor.now c.requires.about n c.args.own.now it c.reuse_all.new.actor c.reuse_all.new.seat c.reuse_all.ensures.reused) c.reuse_all.ensures.reused.seen c.own_number-number.ensures

pub returns-in_default-clause-table : goal.returns-in_default-clause-table
returns-in_default-clause-table g c = c.reuse_all.ensures.reused.stands.sole.holds.own ∙ sym c.requires.about.table

pub returns-in_default-clause-setting : goal.returns-in_default-clause-setting
returns-in_default-clause-setting g c = c.reuse_all.ensures.reused.same.setting

pub returns-in_default-clause-later : goal.returns-in_default-clause-later
returns-in_default-clause-later g c = c.reuse_all.ensures.reused.seen

pub returns-in_default-clause-nothing : goal.returns-in_default-clause-nothing
returns-in_default-clause-nothing g c =
    let n = c.own_number-number.result in
    let it = own-in c.requires.are c.requires.all n c.own_number-number.ensures c.in_default.ensures.none in
    reused-nothing c.requires.are c.requires.all c.args.floor.now c.requires.about n c.args.own.now it c.reuse_all.new.actor c.reuse_all.new.seat c.reuse_all.ensures.reused

pub returns-in_default-clause-none : goal.returns-in_default-clause-none
returns-in_default-clause-none g c = own-none c.requires.are c.requires.all c.reuse_all.new.actor c.in_default.ensures.none c.reuse_all.ensures.none

pub reuse_all-requires-2-clause-stands : goal.reuse_all-requires-2-clause-stands
reuse_all-requires-2-clause-stands g c = sole-of c.requires.are c.requires.all c.args.floor.now c.requires.about c.in-Some.number c.in-Some-taken.actor (role-in c.requires.are c.requires.all c.in-Some.number c.in-Some.ensures.some.0 c.in-Some-taken.actor c.in-Some-taken.ensures.some.1 c.in-Some.ensures.some.1)

pub reuse_all-requires-2-clause-between : goal.reuse_all-requires-2-clause-between
reuse_all-requires-2-clause-between g c = is-between c.requires.are c.requires.all c.args.floor.now c.requires.about c.in-Some.number c.in-Some-taken.actor (role-in c.requires.are c.requires.all c.in-Some.number c.in-Some.ensures.some.0 c.in-Some-taken.actor c.in-Some-taken.ensures.some.1 c.in-Some.ensures.some.1)
    (role-role c.requires.are c.requires.all c.in-Some.number c.in-Some.ensures.some.0 c.in-Some-taken.actor c.in-Some-taken.ensures.some.1 c.in-Some.ensures.some.1)

pub returns-clause-are : goal.returns-clause-are
returns-clause-are g c =
    let n = c.in-Some.number in
    let x = c.in-Some-taken.actor in
    let it = role-in c.requires.are c.requires.all n c.in-Some.ensures.some.0 x c.in-Some-taken.ensures.some.1 c.in-Some.ensures.some.1 in
    let y = c.reuse_all-2.new.actor in
    let t = c.reuse_all-2.new.seat in
    let back = reused-back c.requires.are c.requires.all c.args.floor.now c.requires.about n x it y t c.reuse_all-2.ensures.reused in
    subst (λ (l : List (Option Actor)). ArePasses t c.args.own.now l) (sym (put-back c.requires.are c.requires.all n c.in-Some.ensures.some.0 x c.in-Some-taken.ensures.some.1 c.in-Some.ensures.some.1 c.taken.new.actors.items c.put.new.actors.items y c.taken.ensures.now c.put.ensures.now))
    (role-after c.requires.are c.requires.all c.args.floor.now c.requires.about n x it y t back c.reuse_all-2.ensures.reused.seen c.in-Some.ensures.some.0)

pub returns-clause-all : goal.returns-clause-all
returns-clause-all g c =
    subst (λ (l : List (Option Actor)). missing 0 l ≡ [])
    (sym (put-back c.requires.are c.requires.all c.in-Some.number c.in-Some.ensures.some.0 c.in-Some-taken.actor c.in-Some-taken.ensures.some.1 c.in-Some.ensures.some.1 c.taken.new.actors.items c.put.new.actors.items c.reuse_all-2.new.actor c.taken.ensures.now c.put.ensures.now))
    (missing-put 0 c.args.actors.now.items c.in-Some.number c.reuse_all-2.new.actor c.requires.all)

pub returns-clause-table : goal.returns-clause-table
returns-clause-table g c = c.reuse_all-2.ensures.reused.stands.sole.holds.own ∙ sym c.requires.about.table

pub returns-clause-later : goal.returns-clause-later
returns-clause-later g c = c.reuse_all-2.ensures.reused.seen

pub returns-clause-nothing : goal.returns-clause-nothing
returns-clause-nothing g c =
    let n = c.in-Some.number in
    let x = c.in-Some-taken.actor in
    let it = role-in c.requires.are c.requires.all n c.in-Some.ensures.some.0 x c.in-Some-taken.ensures.some.1 c.in-Some.ensures.some.1 in
    reused-nothing c.requires.are c.requires.all c.args.floor.now c.requires.about n x it c.reuse_all-2.new.actor c.reuse_all-2.new.seat c.reuse_all-2.ensures.reused

pub returns-clause-none : goal.returns-clause-none
returns-clause-none g c =
    let n = c.in-Some.number in
    let x = c.in-Some-taken.actor in
    subst (λ (l : List (Option Actor)). gone_of c.args.own.now l ≡ [])
    (sym (put-back c.requires.are c.requires.all n c.in-Some.ensures.some.0 x c.in-Some-taken.ensures.some.1 c.in-Some.ensures.some.1 c.taken.new.actors.items c.put.new.actors.items c.reuse_all-2.new.actor c.taken.ensures.now c.put.ensures.now))
    (role-none c.requires.are c.requires.all n c.in-Some.ensures.some.0 x c.in-Some-taken.ensures.some.1 (role-role c.requires.are c.requires.all n c.in-Some.ensures.some.0 x c.in-Some-taken.ensures.some.1 c.in-Some.ensures.some.1) c.reuse_all-2.new.actor c.reuse_all-2.ensures.none)
