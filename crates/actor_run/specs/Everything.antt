-- A session's query over everything: how many steps are counted for it.
use Rattle.std.specs.Prelude.{ℕ, ◌≡◌, ◌+◌, ◌*◌, ◌-◌, ◌^◌, ◌≤◌, ◌⊎◌, List, All as Each, Option, Some, None}
use Rattle.whole_steps.specs.core_counts.specs.Ahead.{moves, splits}
use Rattle.dim_hierarchy.specs.declared.filter.NamePick.{NamePick}
use Rattle.dim_hierarchy.specs.declared.filter.NamePick.TheVariants.{All}
use Rattle.row_ledger.specs.{Past.{Query, query_at}, declared.event.Event.Event}
use Rattle.whole_steps.specs.core_tree.specs.ReadDue.{IsOfAll}
use Rattle.whole_steps.specs.part_steps.specs.Counts.{HasReadAlone, IsOfEverything}
use Rattle.whole_steps.specs.seat_steps.specs.declared.floor.{Floor.Floor, Player.Player}
use Rattle.whole_steps.specs.session_steps.specs.declared.commands.End.{End}
use Rattle.whole_steps.specs.volap_cell.specs.{ImageKinds.doing, Values.actor_of}
use Rattle.whole_steps.specs.volap_cell.specs.declared.command.Work.TheVariants as work_is

-- each pick by name is All
abbrev pub AreAllPicks : List NamePick → Type 0
AreAllPicks names = Each (λ p. p ≡ All) names

-- at most four more are counted for each shard that was ever made, and four for each move
abbrev pub IsFew : Floor → List Event → (was now : ℕ) → Type 0
IsFew f seen was now = now ≤ was + 4 * (f.with.workers + 2 * splits seen + moves seen)

-- so it is of a query over everything
abbrev pub CostsFew : Floor → List NamePick → List Event → (was now : ℕ) → Type 0
CostsFew f names seen was now = AreAllPicks names → IsFew f seen was now

-- While it is open.

-- Two are counted for each part that was ended or sent on, and so many besides; or the actor can count no further part.
abbrev pub IsFewFor : (went more was now : ℕ) → Type 0
IsFewFor went more was now = (now ≤ was + 2 * went + more) ⊎ (2 ^ 64 - 1 ≤ went)

-- The session's query over everything is open, and so many are counted for it. Two are counted ahead where its part has read a gate.
pub record HasSpent (f : Floor) (p : Player) (was now : ℕ) : Type 0 where
  pub of : ℕ
  pub command : (actor_of p.actor).command ≡ doing of work_is.Query
  pub query : Query
  pub asked : query_at p.seat.view.seen of ≡ Some query
  pub all : IsOfAll f.hierarchy query.filter
  pub spent : ((((actor_of p.actor).errand ≡ None) ⊎ IsOfEverything f.hierarchy (actor_of p.actor)) × IsFewFor p.actor.went 0 was now)
      ⊎ (HasReadAlone (actor_of p.actor) × IsFewFor p.actor.went 2 was now)

-- it is still open, or has ended
abbrev pub SpendsSince : Floor → Option End → Player → (was now : ℕ) → Type 0
SpendsSince f None p was now = HasSpent f p was now
SpendsSince f (Some e) p was now = IsFew f p.seat.view.seen was now
