-- What a split or a move that is finished leaves as it was.
use Rattle.std.specs.Prelude.{ℕ, ◌≡◌, ◌⊎◌}
use Rattle.core_tree.specs.volap_cell.specs.{Promises.{IsInNone, IsInOne, Standing}, Setting.Setting, Steps.{Inv, Step}, View.{View, view}, World.World, declared.kind.Kind.Kind}
use Rattle.core_tree.specs.volap_cell.specs.declared.kind.Kind.TheVariants as kind

-- the kinds that finish a split or a move
abbrev pub IsFinish : Kind → Type 0
IsFinish k = (k ≡ kind.FinishSplit) ⊎ (k ≡ kind.FinishMove)

-- before and now a row is in one shard that stands, once, and in no other one; or before and now it is in none
abbrev pub StaysOnce : (s : Setting) (v now : View) → Standing s v → Standing s now → ℕ → Type 0
StaysOnce s v now t t_now r =
    (((x : ℕ) × IsInOne s v t r x) × ((y : ℕ) × IsInOne s now t_now r y))
    ⊎ (IsInNone s v t r × IsInNone s now t_now r)

-- the shards that stand have the same rows before and now, each once
pub record HaveSameRows (s : Setting) (v now : View) : Type 0 where
  pub standing : Standing s v
  pub standing_now : Standing s now
  pub stays : (r : ℕ) → StaysOnce s v now standing standing_now r
  pub row : (r : ℕ) → now.row r ≡ v.row r

-- So do they where a split or a move is finished.
abbrev pub FinishLaw : Type 0
FinishLaw = (s : Setting) (k : Kind) (n : ℕ) (w now : World) → IsFinish k → Inv s w → Inv s now → Step s k n w now → HaveSameRows s (view s w) (view s now)
