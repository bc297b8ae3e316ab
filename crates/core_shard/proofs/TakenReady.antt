-- The call that takes a part: what its inner functions ask, and what it did.
use Rattle.std.proofs.Common.{◌≡◌, ℕ, List, [], ◌∷◌, true, Option, Some, refl, sym, ap, subst, ◌∙◌}
use Rattle.std.specs.Prelude.{IfSome, IsTrue, position, slice_get, slice_set}
use Rattle.dim_hierarchy.specs.Dimension.{Dimension}
use Rattle.query_router.specs.{Desk.{DeskValue, IsAt, is_waiting, state_waits, taken_from}, declared.part.Part.Part, declared.part.PartState.PartState, declared.part.Want.Want}
use Rattle.query_router.specs.declared.part.PartState.TheVariants as state
use Rattle.volap_cell.specs.{Cells.{CellValue, DeskCell, DeskOf, desk_in, tag_of}, ShardKinds.{DoesTakePart, IsDeskFor, errand_for, may_take}, Steps.Makes, Values.ActorValue, World.change, declared.kind.Kind.TheVariants.TakePart}
use Rattle.core_shard.specs.Due.{CanTakePart, IsWaiting}
use Rattle.core_shard.proofs.TakesPart.{take-keeps}

waits-in : (st : PartState) → state_waits st ≡ true → (wanted : Want) × (st ≡ state.Waiting wanted)
waits-in (state.Waiting wanted) is = (wanted, refl)
waits-in _ is = cc

waits-part : (p : Part) → is_waiting p ≡ true → IsWaiting p
waits-part p is = let found = waits-in p.state is in record { wanted = found.0; waits = found.1 }

pub take-makes : (h : List Dimension) (at : ℕ) (cell cell2 : CellValue) (a b : ActorValue) (server : ℕ) (dv : DeskValue) → CanTakePart cell a → cell ≡ DeskCell server dv
    → (place : ℕ) → position (may_take a.role) dv.parts ≡ Some place → (part : Part) → slice_get dv.parts place ≡ Some part → cell2 ≡ DeskCell server (record dv { parts = slice_set dv.parts place (taken_from part) })
    → (wait : IsWaiting part) → b ≡ record a { errand = Some (errand_for server part wait.wanted) } → Makes h TakePart (change at cell cell2 ∷ []) a b
take-makes h at cell cell2 a b server dv due is place first part part_at is2 wait actor_is =
    let tags : DeskOf server ≡ DeskOf due.server = sym (ap tag_of is) ∙ due.desk_is in
    let same : due.server ≡ server = cc in
    let its : IsDeskFor a.role server dv a.command = subst (λ (x : ℕ). IsDeskFor a.role x dv a.command) same (subst (λ (x : DeskValue). IsDeskFor a.role due.server x a.command) (ap desk_in is) due.its) in
    let does : DoesTakePart (change at cell cell2) a b = record {
      free = due.free;
      no_job = due.no_job;
      server = server;
      desk = dv;
      for = its;
      place = place;
      first = first;
      part = part;
      part_at = part_at;
      turns = record { was = is; is = is2 };
      wanted = wait.wanted;
      waits = wait.waits;
      actor_is = actor_is;
    } in
    record { does = does; keeps = take-keeps h (change at cell cell2) a b does }

-- a part that passed the test waits
pub waiting-at : (parts : List Part) (place : ℕ) (p : Part) → IsAt is_waiting parts place → slice_get parts place ≡ Some p → IsWaiting p
waiting-at parts place p at is = waits-part p (subst (λ (o : Option Part). IfSome o (λ x. IsTrue (is_waiting x))) is at.passes)
