-- A step from a reached state leads to a reached one, and what a kind keeps is the invariant.
use Rattle.std.proofs.Common.{ℕ, ◌∷◌, refl}
use Rattle.volap_cell.specs.{Setting.Setting, Steps.{IsReached, Step}, World.World, declared.kind.Kind.Kind}

-- a reached state and one step more
pub reached-on : (s : Setting) (kind : Kind) (n : ℕ) (between to : World) → IsReached s between → Step s kind n between to → IsReached s to
reached-on s kind n between to reached step = record {
  opening = reached.opening;
  is_opening = reached.is_opening;
  made = record { kind_is = kind; actor = n; to = to } ∷ reached.made;
  lead = (between, reached.lead, step, refl);
}
