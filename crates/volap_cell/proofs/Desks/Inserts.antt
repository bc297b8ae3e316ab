-- An actor that took the part of an insert has its row.
use Rattle.std.proofs.Common.{◌≡◌, ◌∙◌, ℕ, List, Option, Some, None, refl, sym, ap, subst}
use Rattle.dim_hierarchy.specs.{declared.filter.Pick.Pick, declared.row.Row.Row}
use Rattle.query_router.specs.declared.part.Want.TheVariants as want
use Rattle.row_ledger.specs.Past.{Insert, insert_at, query_at}
use Rattle.volap_cell.proofs.Histories.Beginnings.{no-query}
use Rattle.volap_cell.specs.{Desking.{IsAtPart, IsWantOf}, Errands.{RowWay, Taken, row_way, taken_by, taken_of, want_of, way_in_task, way_of}, Ghost.Ghost, Invariant.InvWith, Setting.Setting, Values.{ErrandValue, TaskValue, OfRow, Unread, Read}, View.view, World.World}
use Rattle.row_ledger.proofs.Ended.{number_of}

-- an actor has the row with this number, for a part on the desk of this server
pub record HasTheRow (s : Setting) (w : World) (r server a : ℕ) : Type 0 where
  pub way : RowWay
  pub at : (view s w).ways a ≡ Some way
  pub server_is : way.server ≡ server
  pub number : way.row.no ≡ r

pub taken-way : (s : Setting) (w : World) (g : Ghost) → InvWith s (view s w) g → (r : ℕ) (i : Insert) (a : ℕ) (t : Taken) → insert_at (view s w).history r ≡ Some i
    → ((view s w).desks t.server).op ≡ Some r → (view s w).taken a ≡ Some t → HasTheRow s w r t.server a
taken-way s w g inv r i a t begun op takes = by-errand (w.actors a).errand refl takes
  where
    part : IsAtPart s (view s w).history (view s w).desks t
    part = inv.desking.at_parts a t takes

    same_of : part.of ≡ r
    same_of = (let there : ((view s w).desks t.server).op ≡ Some part.of = part.op in cc)

    -- it asks for a row, as an insert began there
    no-filter : (f : List Pick) → t.want ≡ want.Filter f → ⊥
    no-filter f is =
        let q = subst (IsWantOf (view s w).history part.of) is part.wants in
        no-query (view s w).history r i q.0 begun (subst (λ k. query_at (view s w).history k ≡ Some q.0) same_of q.1)

    by-task : (e : ErrandValue) (task : TaskValue) → (w.actors a).errand ≡ Some e → e.task ≡ task → taken_by e ≡ t → HasTheRow s w r t.server a
    by-task e (OfRow x) errand is same =
        let wants : t.want ≡ want.Row x.row = ap (λ (u : Taken). u.want) (sym same) ∙ ap want_of is in
        let its = subst (IsWantOf (view s w).history part.of) wants part.wants in
        let there : insert_at (view s w).history r ≡ Some its.0 = subst (λ k. insert_at (view s w).history k ≡ Some its.0) same_of its.1 in
        record {
          way = row_way e x;
          at = ap way_of errand ∙ ap (way_in_task e) is;
          server_is = ap (λ (u : Taken). u.server) same;
          number = ap (λ (y : Row). y.no) (sym its.2) ∙ number_of _ _ (view s w).history r its.0 inv.telling.right.right.each there;
        }
    by-task e (Unread f) errand is same = absurd (no-filter f (ap (λ (u : Taken). u.want) (sym same) ∙ ap want_of is))
    by-task e (Read x) errand is same = absurd (no-filter x.wanted.picks (ap (λ (u : Taken). u.want) (sym same) ∙ ap want_of is))

    by-errand : (o : Option ErrandValue) → (w.actors a).errand ≡ o → taken_of o ≡ Some t → HasTheRow s w r t.server a
    by-errand None is takes = cc
    by-errand (Some e) is takes = by-task e e.task is refl (let one : taken_by e ≡ t = cc in one)
