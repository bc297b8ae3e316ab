-- What is found on a desk, and what a hand becomes that takes a part there.
use Rattle.std.proofs.{Common.{◌≡◌, ◌∙◌, ◌==◌, ℕ, ◌<◌, Bool, true, false, List, [], ◌∷◌, eqb-true, refl, sym, ap, subst, if◌then◌else◌, arith, ◌+◌}, lemmas.List.Folds.Any-from_list_any}
use Rattle.std.specs.{List.list_any, Prelude.{IsSome, is_some, position}}
use Rattle.session_steps.specs.core_due.proofs.BooksHeld.{take-prepared}
use Rattle.session_steps.specs.core_due.specs.{Look.setting_by, Ready.IsStepAsked}
use Rattle.session_steps.specs.core_shard.proofs.FinishReady.{first-place}
use Rattle.session_steps.specs.core_steps.specs.Parts.{part_asks, part_kind, part_places}
use Rattle.session_steps.specs.core_steps.specs.declared.parts.PartStep.TheVariants.{TakePart}
use Rattle.dim_hierarchy.specs.Dimension.{Dimension}
use Rattle.hand_steps.specs.Hands.{IsIdleHand, NoneCounted, found_on}
use Rattle.hand_steps.specs.declared.hands.Found.TheVariants as found
use Rattle.query_router.specs.{Desk.{DeskValue, waits_for}, declared.part.Part.Part}
use Rattle.row_ledger.specs.declared.event.Event.{Event}
use Rattle.session_steps.proofs.Since.{unchanged-back}
use Rattle.session_steps.specs.seat_steps.proofs.{Around.{around, seen-there}, Since.as-before}
use Rattle.session_steps.specs.seat_steps.specs.{Booked.{IsAsBefore, IsDue, IsUnchanged}, Floors.{IsAround, IsSeated, Stands}, Looks.Sees, Takes.GaveAll, declared.floor.{Floor.Floor, Player.Player}}
use Rattle.turn_table.proofs.Numbered.{starts_self}
use Rattle.turn_table.specs.{Numbered.{Extends, value_of}, Seat.cell_count}
use Rattle.session_steps.specs.volap_cell.proofs.Cells.Numbers.{tag-desk}
use Rattle.session_steps.specs.volap_cell.specs.{Cells.{cell_of, desk_in}, Kinds.Does, Numbering.tag_at, Setting.{Setting, desk_cell}, ShardKinds.{IsDeskFor, may_take}, Steps.Makes, Values.ActorValue, World.{Change, World}, declared.role.Role.Role, declared.role.Role.TheVariants.Hand}
use Rattle.session_steps.specs.volap_cell.specs.declared.kind.Kind.TheVariants as kind
use Rattle.session_steps.specs.volap_turns.specs.Rows.{IsThere}

-- What is found.

-- a part is, where one waits for the worker
pub part-waits : (worker : ℕ) (desk : DeskValue) → found.Part ≡ found_on worker desk → list_any (waits_for worker) desk.parts ≡ true
part-waits worker desk is = by (list_any (waits_for worker) desk.parts) (desk.sessions == 0) is
  where
    by : (waits none : Bool) → found.Part ≡ (if waits then found.Part else if none then found.NoSession else found.Nothing) → waits ≡ true
    by true none e = refl
    by false true e = absurd (cc)
    by false false e = absurd (cc)

-- and where no session is, none is counted
pub none-counted : (worker : ℕ) (desk : DeskValue) → found.NoSession ≡ found_on worker desk → desk.sessions ≡ 0
none-counted worker desk is = by (list_any (waits_for worker) desk.parts) (desk.sessions == 0) refl is
  where
    by : (waits none : Bool) → (desk.sessions == 0) ≡ none → found.NoSession ≡ (if waits then found.Part else if none then found.NoSession else found.Nothing) → desk.sessions ≡ 0
    by true none same e = absurd (cc)
    by false true same e = eqb-true desk.sessions 0 same
    by false false same e = absurd (cc)

-- Taking it.

module _ (f : Floor) (p : Player) (desk server : ℕ) (idle : IsIdleHand p) (low : server < f.with.servers) (at : (s : Setting) → s.servers ≡ f.with.servers → desk ≡ desk_cell s server) (there : IsThere p.seat.view.held desk)
    (waits : Sees p desk (λ cell. list_any (waits_for idle.worker) (desk_in cell).parts ≡ true)) where
  module _ (s : Setting) (w : World) (is : IsAround f p s w) where
    parts : List Part
    parts = (desk_in (w.cells desk)).parts

    role-is : (w.actors p.number).role ≡ Hand idle.worker
    role-is = ap (λ (a : ActorValue). a.role) is.actor ∙ idle.role

    asked : IsStepAsked s w p.number (TakePart desk)
    unfolding parts
    asked = record {
      free = ap (λ (a : ActorValue). a.errand) is.actor ∙ idle.free.errand;
      no_job = ap (λ (a : ActorValue). a.job) is.actor ∙ idle.free.job;
      server = server;
      desk_is = is.inv.holds.numbering.tag desk ∙ ap (tag_at s) (at s is.servers) ∙ tag-desk s server (subst (λ (k : ℕ). server < k) (sym is.servers) low);
      its = subst (λ (r : Role). IsDeskFor r server (desk_in (w.cells desk)) (w.actors p.number).command) (sym role-is) tt;
      ready = subst (λ (r : Role). IsSome (position (may_take r) parts)) (sym role-is)
          (first-place (waits_for idle.worker) parts (Any-from_list_any (waits_for idle.worker) parts (seen-there f p s w is desk (λ cell. list_any (waits_for idle.worker) (desk_in cell).parts ≡ true) there waits)));
    }

  -- it is due
  pub take-due : IsDue f p (part_places (TakePart desk)) (part_asks (TakePart desk))
  take-due = record { prepared = λ s w is. take-prepared s w is.inv p.number is.there desk (asked s w is) }

-- and it makes the hand one that is at a part
taken : (h : List Dimension) (cs : List Change) (a b : ActorValue) → Does h kind.TakePart cs a b → IsSome b.errand × (b ≡ record a { errand = b.errand })
taken h [] a b does = absurd does
taken h (d ∷ []) a b does = (ap (λ (z : ActorValue). is_some z.errand) does.actor_is, does.actor_is ∙ (λ k. record a { errand = sym (ap (λ (z : ActorValue). z.errand) does.actor_is) k }))
taken h (d ∷ e ∷ more) a b does = absurd does

pub take-makes : {h : List Dimension} {changes : List Change} {a b : ActorValue} (desk : ℕ) → Makes h (part_kind (TakePart desk)) changes a b → IsSome b.errand × (b ≡ record a { errand = b.errand })
take-makes {h} {changes} {a} {b} desk makes = taken h changes a b makes.does

-- The desk.

desk-below : (x servers workers stock many cells desk : ℕ) → x < servers → servers ≡ many → 3 + servers + servers + workers + stock ≡ cells → desk ≡ 3 + many + x → desk < cells
desk-below x servers workers stock many cells desk low same all is = omega arith

-- it is a cell of the table
pub desk-there : (f : Floor) (p : Player) (desk server : ℕ) → IsSeated f p → server < f.with.servers → desk ≡ desk_cell (setting_by [] f.with) server → desk < cell_count f.table
desk-there f p desk server seated low is =
    let it = around f p seated in
    desk-below server _ _ _ _ _ desk (subst (λ (k : ℕ). server < k) (sym it.2.servers) low) it.2.servers it.2.cells is

-- The desk was held, and given back.

module _ (f : Floor) {was mid now : Player} (same : IsUnchanged was mid) (stands : Stands f now) (gave : GaveAll mid now) where
  -- the actor is as before
  pub gave-back : IsAsBefore f was now
  gave-back = as-before f stands (unchanged-back same gave)

  -- and no session was counted there, where none was seen
  pub was-none : (server worker desk : ℕ) → IsSeated f mid → desk ≡ desk_cell (setting_by [] f.with) server → IsThere mid.seat.view.held desk → Sees mid desk (λ cell. found.NoSession ≡ found_on worker (desk_in cell)) → NoneCounted f server was.number was.seat.view.seen now.seat.view.seen
  was-none server worker desk seated at there sees = record {
    there = mid;
    seated = seated;
    number_is = same.number;
    since = same.seen;
    desk = there.0;
    held = ap (λ (k : ℕ). value_of mid.seat.view.held k) (sym at) ∙ there.1;
    none = none-counted worker (desk_in (cell_of there.0)) (sees there.0 there.1);
    before = subst (λ (l : List Event). Extends l mid.seat.view.seen) (sym gave.seen) (starts_self mid.seat.view.seen);
  }
