use Rattle.std.proofs.Common.{◌∙◌, IfOk, Err, List, [], ◌∷◌, ◌++◌, Ok, Result, ap, subst}
use Rattle.actor_run.proofs.Opening.{opened-table}
use Rattle.actor_run.specs.Halls.{hall_setting, own_role}
use Rattle.whole_steps.specs.volap_cell.specs.{Filling.{IsOpened, setting_for}, declared.role.Role.Role}
use Rattle.actor_run.proofs.hall.opened.Goals as goal

-- what follows of four facts about what a call gives
from-four : {T E : Type 0} (r : Result T E) {P Q R S U : T → Type 0} → IfOk r P → IfOk r Q → IfOk r R → IfOk r S → ((x : T) → P x → Q x → R x → S x → U x) → IfOk r U
from-four (Ok x) p q r s f = f x p q r s
from-four (Err e) p q r s f = tt

pub open-requires-2-clause-whole : goal.open-requires-2-clause-whole
open-requires-2-clause-whole c = (c.opening_is_whole.ensures _ _ _ c.in_ok-open.ensures).0

pub open-requires-2-clause-idle : goal.open-requires-2-clause-idle
open-requires-2-clause-idle c = (c.opening_is_whole.ensures _ _ _ c.in_ok-open.ensures).1

pub returns : goal.returns
returns c =
    let state = c.in_ok-open.field-0 in
    let s = hall_setting c.args.h.now c.args.with.now c.args.roles in
    let opened : IsOpened s state.cells.items state.actors.items = subst (λ (roles : List Role). IsOpened (setting_for c.args.h.now c.args.with.now roles) state.cells.items state.actors.items) (c.in_ok-push.ensures.ok ∙ ap (λ (role : Role). c.args.roles ++ role ∷ []) (c.own_role-own.ensures ∙ ap own_role c.as_slice.ensures)) c.in_ok-open.ensures in
    let e = c.open-2.ensures in
    from-four c.open-2.result e.table e.actors e.seat e.possible (λ r wide here of possible. opened-table s state.cells.items state.actors.items r.0 r.1 r.2.items opened wide here of possible)
