use Rattle.std.proofs.Common.{◌≡◌, ◌≢◌, ◌<◌, ℕ}
use Rattle.std.specs.Prelude.{slice_index}
use Rattle.dc_node.specs.Columns.{id_at}
use Rattle.dc_node.proofs.columns.put.Given as goal

abbrev pub invariant-loop-dim : goal.invariant-loop-dim
invariant-loop-dim l =
    ((d : ℕ) → d < l.dim → id_at l.columns d l.place ≡ slice_index l.ids d)
    × ((d i : ℕ) → i ≢ l.place → id_at l.columns d i ≡ id_at l.initial.columns d i)
