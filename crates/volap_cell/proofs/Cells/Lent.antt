-- What was lent out of a cell, and the row of an errand.
use Rattle.std.proofs.Common.{◌≡◌, Option, Some, None, option_map, refl, ap, ◌∙◌}
use Rattle.volap_cell.specs.{Values.{ErrandValue, OfRow, errand_of, task_of}, declared.errand.Errand.Errand, declared.errand.RowErrand.RowErrand, declared.errand.Task.Task}
use Rattle.volap_cell.specs.declared.errand.Task.TheVariants as task

task-behind : (t : Task) (r : RowErrand) → task_of t ≡ OfRow r → t ≡ task.Row r
task-behind (task.Row x) r e = cc
task-behind (task.Unread f) r e = cc
task-behind (task.Read x) r e = cc

-- an errand whose value is that of a row has this row
pub row-behind : (o : Option Errand) (e : ErrandValue) (r : RowErrand) → option_map errand_of o ≡ Some e → e.task ≡ OfRow r
    → (x : Errand) × (o ≡ Some x) × (x.task ≡ task.Row r)
row-behind None e r is row = cc
row-behind (Some x) e r is row = (x, refl, task-behind x.task r (let k : errand_of x ≡ e = cc in ap (λ (z : ErrandValue). z.task) k ∙ row))
