use Rattle.std.proofs.{Common.{◌∙◌, ℕ, ◌<◌, List, Option, Some, ap, drop, is_some, length, map, refl, subst, sym}, lemmas.List.{length-set, take_at}}
use Rattle.std.specs.Vec.{with_item, with_items}
use Rattle.core_steps.specs.{Places.{others_held}, declared.step.Others.Others}
use Rattle.core_steps.proofs.{Arms.{back-two, first-lent, held-two, second-lent, two-apart}, Held.{actor-is, actor-there, asked, here}, Made.made}
use Rattle.core_shard.specs.volap_cell.specs.{declared.cell.Cell.Cell, declared.state.State.State}
use Rattle.core_steps.proofs.driver.make_two.Goals as goal

pub index_mut-requires : goal.index_mut-requires
index_mut-requires g c = subst (λ (k : ℕ). c.args.number < k) (sym c.args.state.now.actors.ok.0) c.requires.may.actor

pub lent-actor-requires : goal.lent-actor-requires
lent-actor-requires g c = actor-there c.requires.sound c.requires.may _ c.index_mut.ensures.value

pub run_two-requires : goal.run_two-requires
run_two-requires g c =
    let out = c.deref_mut.ensures.value in
    let is = held-two c.requires.sound c.requires.may c.requires.named _ c.none.result _ out (ap (λ (o : Others). map is_some (others_held o)) c.none.ensures) tt (actor-is c.requires.sound c.requires.may _ _ c.index_mut.ensures.value c.lent-actor.ensures.value) in
    record {
      first = first-lent c.requires.sound c.requires.may c.requires.named _ out;
      second = second-lent c.requires.sound c.requires.may c.requires.named _ out;
      apart = two-apart c.requires.sound c.requires.may c.requires.named;
      fill = is.fill;
      here = here c.requires.sound c.requires.may is;
      asked = asked c.requires.sound c.requires.may is;
    }

pub returns : goal.returns
returns g c =
    let out = c.deref_mut.ensures.value in
    let is = held-two c.requires.sound c.requires.may c.requires.named _ c.none.result _ out (ap (λ (o : Others). map is_some (others_held o)) c.none.ensures) tt (actor-is c.requires.sound c.requires.may _ _ c.index_mut.ensures.value c.lent-actor.ensures.value) in
    let r = c.run_two in
    let cells = c.args.state.now.cells in
    let ws = r.new.cells in
    let now : State = record { cells = with_items cells ws; actors = with_item c.args.state.now.actors c.args.number (Some r.new.actor) } in
    let filled = take_at ws (drop (length ws) cells.items) cells.len (ap (λ (l : List (Option Cell)). length l) r.ensures.cells ∙ length-set _ _ _ ∙ length-set _ _ _ ∙ c.deref_mut.ensures.len) in
    let done = made c.requires.sound c.requires.may is now _ r.new.actor r.ensures.fill (filled ∙ r.ensures.cells ∙ back-two c.requires.sound c.requires.may c.requires.named _ _ _ r.new.others out r.ensures.fill) refl
    r.result (g.S.CellStep.kind c.args.step) (g.S.CellStep.tells c.args.step) r.ensures.went r.ensures.told r.ensures.refused in
    record { further = done.further; told = done.told; spared = done.spared; sure = r.ensures.sure; same = done.same }
