-- What an actor that holds cells for a step of its job has, and what its steps then come to.
use Rattle.std.proofs.Common.{◌≡◌, ◌∙◌, ℕ, ◌<◌, ◌≤◌, List, [], ◌∷◌, ◌++◌, length, Option, Some, refl, sym, ap, subst, arith}
use mathlib.Core.Option.{none}
use Rattle.seat_steps.specs.core_steps.specs.{Jobs.{job_places}, Places.numbers, declared.jobs.JobStep.JobStep}
use Rattle.seat_steps.specs.core_image.specs.NotesDue.{MayBeLeft}
use Rattle.job_steps.specs.{Dues.{IsJobDue, LeadsTo, stopped}, Jobs.{CameTo, HasJobOpen, IsOfAdmin}}
use Rattle.row_ledger.specs.declared.settings.How.{How}
use Rattle.seat_steps.proofs.{Around.{still-sees, still-there}, Ranks.{order-more, order-none}, Since.{as-before, unchanged-on}, WithLedger.{due-at, held-below, next-cell}}
use Rattle.seat_steps.specs.{Booked.{IsAsBefore, IsUnchanged}, Floors.{IsSeated, Stands}, Looks.lead_of, Takes.{GaveAll, TakesTurn}, declared.{floor.{Floor.Floor, Player.Player}, looks.Lead.Lead}}
use Rattle.turn_table.proofs.Numbered.{starts_self}
use Rattle.turn_table.specs.{Numbered.{Extends, numbers_of, value_of}, Seat.{IsInOrder, cell_count}}
use Rattle.seat_steps.specs.volap_cell.specs.{Cells.where_in, Commands.{EndsJob, EndsStage}, ImageKinds.doing, Values.{JobValue, actor_of}, declared.{actor.Actor.Actor, command.Work.Work}}
use Rattle.seat_steps.specs.volap_cell.specs.declared.command.Work.TheVariants as work_is
use Rattle.seat_steps.specs.volap_turns.specs.Rows.{AreAt}

-- where a held table leads is known still with one cell more
pub leads-still : {cell : ℕ} {rank : Option ℕ} {was now : Player} → TakesTurn cell rank was now → (map shard : ℕ) (to : Lead) → LeadsTo was map shard to → LeadsTo now map shard to
leads-still took map shard to led = record { there = still-there took map led.there; leads = still-sees took map (λ cell. to ≡ lead_of (where_in cell shard)) led.there led.leads }

-- what was held has been given back
pub gave-back : (f : Floor) {p mid now : Player} → IsUnchanged p mid → Stands f now → GaveAll mid now → IsAsBefore f p now
gave-back f {p} {mid} {now} same stands gave = as-before f stands (unchanged-on same (record {
  number = gave.number;
  actor = ap (λ (x : Actor). actor_of x) gave.actor;
  went = ap (λ (x : Actor). x.went) gave.actor;
  seen = subst (λ l. Extends l mid.seat.view.seen) (sym gave.seen) (starts_self mid.seat.view.seen);
}))

-- Turns of a table and of a gate behind it, and then of a cell of a higher rank.

module _ (f : Floor) (p : Player) (seated : IsSeated f p) where
  -- a cell behind one that is held
  module _ (map low : ℕ) (held : p.seat.ranks ≡ (map, Some low) ∷ []) where
    pub order-second : (cell rank : ℕ) → low < rank → IsInOrder p.seat.ranks cell rank
    order-second cell rank lower =
        let below : low ≤ rank = omega (arith, lower) in
        subst (λ (l : List (ℕ × Option ℕ)). IsInOrder l cell rank) (sym held) (order-more [] map low cell rank (below, λ same. absurd (omega (arith, lower, same))) (order-none cell rank))

    pub room-second : length p.seat.view.held < 7
    room-second = held-below f p seated 7 (subst (λ (l : List (ℕ × Option ℕ)). length l < 7) (sym held) (omega arith))

    pub next-second : (step : JobStep) → IsJobDue f p step → (cell : ℕ) (more : List ℕ) → numbers (job_places step) ≡ map ∷ cell ∷ more → (cell < cell_count f.table) × (value_of p.seat.view.held cell ≡ none)
    next-second step due cell more is = next-cell f p (job_places step) seated due cell more (ap (λ (l : List (ℕ × Option ℕ)). numbers_of l ++ cell ∷ more) held ∙ sym is)

  -- and one behind two
  module _ (map gate low high : ℕ) (up : low < high) (held : p.seat.ranks ≡ (map, Some low) ∷ (gate, Some high) ∷ []) where
    pub order-third : (cell rank : ℕ) → high < rank → IsInOrder p.seat.ranks cell rank
    order-third cell rank lower =
        let below : low ≤ rank = omega (arith, up, lower) in
        let below_too : high ≤ rank = omega (arith, lower) in
        subst (λ (l : List (ℕ × Option ℕ)). IsInOrder l cell rank) (sym held)
        (order-more ((gate, Some high) ∷ []) map low cell rank (below, λ same. absurd (omega (arith, up, lower, same)))
        (order-more [] gate high cell rank (below_too, λ same. absurd (omega (arith, lower, same))) (order-none cell rank)))

    pub room-third : length p.seat.view.held < 7
    room-third = held-below f p seated 7 (subst (λ (l : List (ℕ × Option ℕ)). length l < 7) (sym held) (omega arith))

    pub next-third : (step : JobStep) → IsJobDue f p step → (cell : ℕ) (more : List ℕ) → numbers (job_places step) ≡ map ∷ gate ∷ cell ∷ more → (cell < cell_count f.table) × (value_of p.seat.view.held cell ≡ none)
    next-third step due cell more is = next-cell f p (job_places step) seated due cell more (ap (λ (l : List (ℕ × Option ℕ)). numbers_of l ++ cell ∷ more) held ∙ sym is)

  -- the cells that are held are those of a step
  pub held-at : (step : JobStep) → IsJobDue f p step → (ranks : List (ℕ × Option ℕ)) → p.seat.ranks ≡ ranks → numbers_of ranks ≡ numbers (job_places step) → AreAt (job_places step) p.seat.view.held
  held-at step due ranks held is = due-at f p (job_places step) seated due (ap (λ (l : List (ℕ × Option ℕ)). numbers_of l) held ∙ is)

-- What is due in place of a job that isn't frozen, or is declined.
pub stop-came : (f : Floor) (p : Player) {now : Player} (how_it_ends : How) → IsAsBefore f p now → (has : HasJobOpen p) → (x : JobValue) → (actor_of p.actor).job ≡ Some x → EndsStage x.stage how_it_ends → MayBeLeft x.stage → CameTo f (stopped has.work how_it_ends) p now
stop-came f p {now} how_it_ends same has x is_job ends left = by has.work has.command has.kind
  where
    by : (k : Work) → (actor_of p.actor).command ≡ doing has.of k → IsOfAdmin k → CameTo f (stopped k how_it_ends) p now
    by (work_is.Insert row routed) command kind = absurd kind
    by work_is.Query command kind = absurd kind
    by (work_is.Sync server pulled) command kind = absurd kind
    by (work_is.Settle pulls) command kind = absurd kind
    by work_is.Bare command kind = absurd kind
    by (work_is.Page subject there shown) command kind = absurd kind
    by (work_is.Action action) command kind = record { same = same; of = has.of; work = work_is.Action action; command = command; ends = subst (λ (o : Option JobValue). EndsJob o how_it_ends) (sym is_job) ends }
    by (work_is.Balance balance) command kind = record { same = same; of = has.of; balance = balance; command = command; job = x; job_is = is_job; left = left }

pub still-before : {f : Floor} {p : Player} → Stands f p → IsAsBefore f p p
still-before {f} {p} stands = record { stands = stands; number = refl; actor = refl; went = refl; seen = starts_self p.seat.view.seen }
