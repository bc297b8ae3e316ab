use Rattle.std.proofs.Common.{◌≡◌, List, Result, Ok, Err, IfErr, OnOk, inl, subst}
use Rattle.actor_run.specs.{Doing.Does, Sessions.{EndedQuery, EndsQuery}}
use Rattle.actor_run.proofs.Ends.{ended-query}
use Rattle.actor_run.specs.declared.session.Asked.{Asked}
use Rattle.dim_hierarchy.specs.declared.filter.NamePick.{NamePick}
use Rattle.whole_steps.specs.seat_steps.specs.declared.floor.Player.{Player}
use Rattle.actor_run.proofs.gates.begin.Goals as goal

on-err : {T E : Type 0} (P Q : E → Type 0) (r : Result T E) → ((e : E) → P e → Q e) → IfErr r P → IfErr r Q
on-err P Q (Ok x) f p = tt
on-err P Q (Err e) f p = f e p

pub returns-in-Ok-Ok-clause-refused : goal.returns-in-Ok-Ok-clause-refused
returns-in-Ok-Ok-clause-refused g c =
    let f = c.args.floor.now in
    let now = c.begin_with.new.player in
    let same = subst (λ r. OnOk r (c.filter_for.new.player ≡ c.args.player.now)) c.in-Ok-Ok.field-0-is c.in-Ok-Ok.ensures.same in
    on-err (λ (a : Asked). (names : List NamePick) → Does f (EndsQuery a names) c.filter_for.new.player now) (λ (a : Asked). Does f (EndsQuery a c.args.names.now) c.args.player.now now) c.begin_with.result
    (λ a does. subst (λ (p : Player). Does f (EndsQuery a c.args.names.now) p now) same (does c.args.names.now)) c.begin_with.ensures.refused

pub returns-in-Ok-Err-clause-refused : goal.returns-in-Ok-Err-clause-refused
returns-in-Ok-Err-clause-refused g c server s =
    let f = c.args.floor.now in
    let now = c.filter_for.new.player in
    let does = subst (λ r. IfErr r (λ (a : Asked). Does f (EndedQuery a c.args.names.now) c.args.player.now now)) c.in-Ok-Err.field-0-is c.in-Ok-Err.ensures.refused in
    let did = does server s in
    record { session = did.session; goes = did.goes; ends = ended-query c.in-Ok-Err.answer c.args.names.now _ _ did.ends }

pub returns-in-Err-clause-refused : goal.returns-in-Err-clause-refused
returns-in-Err-clause-refused g c server s = (let did = c.in-Err.ensures.nothing server s in record { session = did.session; goes = did.goes; ends = inl did.ends })
