-- The row of a part that goes back to its desk: how far it has come, and that no actor is at it then.
use Rattle.std.proofs.Common.{◌≡◌, ℕ, Option, Some, None, sym, ap, ◌∙◌}
use Rattle.row_ledger.specs.Past.{Insert, insert_at}
use Rattle.list_words.proofs.Elements.{Some-same}
use Rattle.query_router.specs.declared.part.Want.TheVariants as want
use Rattle.volap_cell.specs.{Errands.{RowWay, has_passed, place_of, row_way, taken_by, way_in_task}, Ghost.Ghost, Invariant.InvWith, Placing.{IsOnWay, NobodyAt}, Setting.Setting, Values.{ErrandValue, OfRow}, View.View, declared.errand.RowErrand.RowErrand}
use Rattle.volap_cell.proofs.Views.Fields.{IsNewAt}
use Rattle.core_shard.proofs.{BackFacts.row-begun, GoesBack.others-had}

module _ (s : Setting) (v : View) (g : Ghost) (i : InvWith s v g) (n : ℕ) (e : ErrandValue) (takes : v.taken n ≡ Some (taken_by e)) (goes : v.ways n ≡ way_in_task e e.task) (r : RowErrand) (same : e.task ≡ OfRow r) where
  abbrev of : ℕ
  of = (i.desking.at_parts n (taken_by e) takes).of

  mine : v.ways n ≡ Some (row_way e r)
  mine = goes ∙ ap (way_in_task e) same

  pub row-on : IsOnWay v.history v.images g.placed g.path (row_way e r)
  row-on = i.inserting.on_way n (row_way e r) mine

  pub row-number : r.row.no ≡ of
  row-number = (row-begun s v g i n e takes r same).3

  pub row-passed : g.placed of ≡ has_passed (place_of r.way)
  row-passed = ap g.placed (sym row-number) ∙ row-on.passed

  pub row-want : (x : Insert) → insert_at v.history of ≡ Some x → want.Row r.row ≡ want.Row x.row
  row-want x begun = (let (y, began, row, number) = row-begun s v g i n e takes r same in ap want.Row (sym row ∙ ap (λ (z : Insert). z.row) (Some-same x y (sym begun ∙ began))))

  pub row-nobody : (ways_now : ℕ → Option RowWay) → IsNewAt ways_now v.ways n (way_in_task e e.task) None → NobodyAt ways_now of
  row-nobody ways_now ways a w has here =
      let (ne, had) = others-had ways_now v.ways n (way_in_task e e.task) ways a w has in
      ne (i.turning.one a n w (row_way e r) had mine (here ∙ sym row-number))
