-- Passes that are taken one after the other.
use Rattle.std.specs.Prelude.{ℕ, ◌≡◌, ◌≤◌, ◌==◌, count_by, length}
use Rattle.hall_calls.specs.actor_run.specs.Passes.{PassesValue}

-- Of a hall with four sessions and its own actor, the passes from this number on are in.
pub record AreInFrom (n : ℕ) (p : PassesValue) : Type 0 where
  pub roles : length p.setting.roles ≡ 5
  pub none : (k : ℕ) → n ≤ k → count_by (λ x. x == k) p.out ≡ 0
