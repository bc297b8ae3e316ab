use Rattle.std.proofs.{Common.{◌∙◌, ℕ, ◌<◌, Some, ap, refl, subst, sym}}
use Rattle.std.specs.Vec.{with_item}
use Rattle.core_steps.specs.{Places.{row_of}}
use Rattle.core_steps.proofs.{Arms.{back-one, held-one, one-within}, Held.{actor-is, actor-there, asked, here}, Made.made}
use Rattle.core_shard.specs.volap_cell.specs.{declared.state.State.State}
use Rattle.core_steps.proofs.driver.make.Goals as goal

pub index_mut-requires : goal.index_mut-requires
index_mut-requires g c = subst (λ (k : ℕ). c.args.number < k) (sym c.args.state.now.actors.ok.0) c.requires.may.actor

pub lent-actor-requires : goal.lent-actor-requires
lent-actor-requires g c = actor-there c.requires.sound c.requires.may _ c.index_mut.ensures.value

-- One.

pub index_mut-requires-in-One : goal.index_mut-requires-in-One
index_mut-requires-in-One g c = subst (λ (k : ℕ). c.in-One.first < k) (sym c.args.state.now.cells.ok.0) (one-within c.requires.sound c.requires.may (ap row_of (sym c.in-One.is) ∙ c.places.ensures))

pub run-requires : goal.run-requires
run-requires g c =
    let named = ap row_of (sym c.in-One.is) ∙ c.places.ensures in
    let is = held-one c.requires.sound c.requires.may named _ _ _ c.index_mut-in-One.ensures.value c.none.ensures (actor-is c.requires.sound c.requires.may _ _ c.index_mut.ensures.value c.lent-actor.ensures.value) in
    record { fill = is.fill; here = here c.requires.sound c.requires.may is; asked = asked c.requires.sound c.requires.may is }

pub returns-in-One : goal.returns-in-One
returns-in-One g c =
    let named = ap row_of (sym c.in-One.is) ∙ c.places.ensures in
    let is = held-one c.requires.sound c.requires.may named _ _ _ c.index_mut-in-One.ensures.value c.none.ensures (actor-is c.requires.sound c.requires.may _ _ c.index_mut.ensures.value c.lent-actor.ensures.value) in
    let r = c.run in
    let now : State = record { cells = with_item c.args.state.now.cells c.in-One.first r.new.first; actors = with_item c.args.state.now.actors c.args.number (Some r.new.actor) } in
    let done = made c.requires.sound c.requires.may is now _ r.new.actor r.ensures.fill (back-one c.requires.sound c.requires.may named r.new.first r.new.second r.new.others r.ensures.fill) refl
    r.result (g.S.CellStep.kind c.args.step) (g.S.CellStep.tells c.args.step) r.ensures.went r.ensures.told r.ensures.refused in
    record { further = done.further; told = done.told; spared = done.spared; sure = r.ensures.sure; same = done.same }

-- More.

pub make_two-requires : goal.make_two-requires
make_two-requires g c = record { sound = c.requires.sound; may = c.requires.may; named = ap row_of (sym c.in-Two.is) ∙ c.places.ensures }

pub make_many-requires : goal.make_many-requires
make_many-requires g c = record { sound = c.requires.sound; may = c.requires.may; named = ap row_of (sym c.in-Many.is) ∙ c.places.ensures }
