-- What the steps of the kinds leave of their actor: a row that comes on, and a query that reads, keep the part that was taken.
use Rattle.std.proofs.Common.{◌≡◌, ℕ, cond, List, [], Option, Some, None, refl, sym, ap, ◌∙◌}
use Rattle.cell_stock.specs.declared.purse.Spare.{Spare}
use Rattle.query_router.specs.declared.part.Want.TheVariants as want
use Rattle.volap_cell.specs.{Errands.{taken_of, way_of, read_of, want_of, way_in_task, read_in_task, place_of, is_filled, row_way}, TreeKinds.{HasRow, on_way, with_reading}, Values.{ActorValue, ErrandValue, ReadingValue, TaskValue, OfRow, Read}, declared.errand.RowErrand.RowErrand, declared.errand.Way.Way}
use Rattle.volap_cell.proofs.Views.Seen.{Touched, actor_beside}

-- Errands.

-- an errand with another task for the same part
abbrev pub with_task : ErrandValue → TaskValue → Option ErrandValue
with_task e task = Some (record e { task = task })

-- an errand is seen by its task

pub taken-is : {errand : Option ErrandValue} {e : ErrandValue} {task : TaskValue} → errand ≡ Some e → e.task ≡ task → taken_of errand ≡ Some (record { server = e.server; shard = e.shard; worker = e.worker; want = want_of task })
taken-is {e} is task = ap taken_of is ∙ (λ k. Some (record { server = e.server; shard = e.shard; worker = e.worker; want = want_of (task k) }))

pub way-is : {errand : Option ErrandValue} {e : ErrandValue} {task : TaskValue} → errand ≡ Some e → e.task ≡ task → way_of errand ≡ way_in_task e task
way-is {e} is task = ap way_of is ∙ ap (way_in_task e) task

pub read-is : {errand : Option ErrandValue} {e : ErrandValue} {task : TaskValue} → errand ≡ Some e → e.task ≡ task → read_of errand ≡ read_in_task e task
read-is {e} is task = ap read_of is ∙ ap (read_in_task e) task

-- the part stays while its want is the same
pub taken-stays : {errand : Option ErrandValue} {e : ErrandValue} {task : TaskValue} (now : TaskValue) → errand ≡ Some e → e.task ≡ task → want_of now ≡ want_of task → taken_of (with_task e now) ≡ taken_of errand
taken-stays {e} now is task same = (λ k. Some (record { server = e.server; shard = e.shard; worker = e.worker; want = same k })) ∙ sym (taken-is is task)

-- Rows.

-- the row is seen where it has come to
pub row-at : {a : ActorValue} {e : ErrandValue} {r : RowErrand} → HasRow a e r → way_of a.errand ≡ Some (row_way e r)
row-at has = way-is has.errand has.row

pub row-taken : {a : ActorValue} {e : ErrandValue} {r : RowErrand} (way : Way) → HasRow a e r → taken_of (on_way e r way) ≡ taken_of a.errand
row-taken {r} way has = taken-stays (OfRow (record r { way = way })) has.errand has.row refl

pub row-reads : {a : ActorValue} {e : ErrandValue} {r : RowErrand} (way : Way) → HasRow a e r → read_of (on_way e r way) ≡ read_of a.errand
row-reads way has = sym (read-is has.errand has.row)

-- a row that is at the same place, with its purse filled or not as before
pub row-stays : {a : ActorValue} {e : ErrandValue} {r : RowErrand} (way : Way) → HasRow a e r → place_of way ≡ place_of r.way → is_filled way ≡ is_filled r.way → way_of (on_way e r way) ≡ way_of a.errand
row-stays {e} {r} way has same filled = (λ k. Some (record (row_way e r) { place = same k; filled = filled k })) ∙ sym (row-at has)

-- A row comes on, with what it uses of the purse and the boxes. Of what is touched nothing is asked, and `refl` says that.
pub row-moved : (t : Touched) {a b : ActorValue} {e : ErrandValue} {r : RowErrand} {way : Way} {purse : List Spare} {boxes : ℕ} → b ≡ record a { purse = purse; boxes = boxes; errand = on_way e r way } → HasRow a e r
    → cond t.ways None (way_of (on_way e r way)) ≡ cond t.ways None (way_of a.errand) → cond t.purses [] purse ≡ cond t.purses [] a.purse → cond t.boxes 0 boxes ≡ cond t.boxes 0 a.boxes
    → actor_beside t b ≡ actor_beside t a
row-moved t {a} {e} {r} {way} is has ways purses counts =
    let taken = row-taken way has in
    let reads = row-reads way has in
    ap (actor_beside t) is ∙ (λ k. record (actor_beside t a) { purse = purses k; boxes = counts k; taken = cond t.taken None (taken k); way = ways k; reading = cond t.reads None (reads k) })

-- Queries.

-- a query reads on for the same part
pub query-read : (t : Touched) {a b : ActorValue} {e : ErrandValue} {task : TaskValue} {reading : ReadingValue} → b ≡ record a { errand = with_reading e reading } → a.errand ≡ Some e → e.task ≡ task
    → want.Filter reading.wanted.picks ≡ want_of task → way_in_task e task ≡ None → cond t.reads None (read_of (with_reading e reading)) ≡ cond t.reads None (read_of a.errand)
    → actor_beside t b ≡ actor_beside t a
query-read t {a} {reading} is errand task_is same none reads =
    let taken = taken-stays (Read reading) errand task_is same in
    let ways : None ≡ way_of a.errand = sym (way-is errand task_is ∙ none) in
    ap (actor_beside t) is ∙ (λ k. record (actor_beside t a) { taken = cond t.taken None (taken k); way = cond t.ways None (ways k); reading = reads k })
