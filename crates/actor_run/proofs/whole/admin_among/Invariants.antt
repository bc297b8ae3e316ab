use Rattle.std.proofs.Common.{ℕ, ◌≡◌, ◌<◌, true, get_or, None}
use Rattle.actor_run.specs.Wholes.{is_admin_at}
use Rattle.actor_run.proofs.whole.admin_among.Given as goal

-- it isn't one of those before
abbrev pub invariant-loop-at : goal.invariant-loop-at
invariant-loop-at l = (k : ℕ) → k < l.at → is_admin_at (get_or l.actors.items k None) ≡ true → ⊥
