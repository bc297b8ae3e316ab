-- A balance that is at an action isn't at its end.
use Rattle.std.proofs.Common.{◌≡◌, ◌∙◌, ℕ, ◌<◌, List, length, Option, Some, None, sym, ap, subst, arith}
use Rattle.session_steps.specs.core_image.proofs.Commands.NextAction.{inside, next-action}
use Rattle.list_words.proofs.Elements.{Some-same}
use Rattle.row_ledger.specs.declared.settings.How.{How}
use Rattle.row_ledger.specs.declared.settings.How.TheVariants as how
use Rattle.session_steps.specs.seat_steps.proofs.Around.{around}
use Rattle.session_steps.specs.seat_steps.specs.{Floors.IsSeated, declared.floor.{Floor.Floor, Player.Player}}
use Rattle.shard_plan.specs.declared.action.Action.{Action}
use Rattle.session_steps.specs.volap_cell.specs.{Commands.EndsBalance, ImageKinds.doing, Planning.next_job, Values.{ActorValue, JobValue, actor_of}, Working.{IsJobOf, begun_job}, declared.command.{Balance.Balance, Command.Command}}
use Rattle.session_steps.specs.volap_cell.specs.declared.command.Work.TheVariants as work_is

before-end : (b : Balance) (actions : List Action) (h : How) → b.plan ≡ Some actions → b.over < length actions → EndsBalance b h → ⊥
before-end b actions (how.Balanced done planned) plan low (x, y, (all, plan_too, z)) =
    let same : all ≡ actions = Some-same actions all (sym plan ∙ plan_too) in
    let long = ap (λ (l : List Action). length l) same in
    absurd (omega (arith, low, y, z, long))
before-end b actions how.NoMemory plan low e = (let never : ◌≡◌ {A = Option (List Action)} None (Some actions) = sym e ∙ plan in absurd (cc))
before-end b actions h plan low e = absurd e

pub at-action : (f : Floor) (p : Player) → IsSeated f p → (of : ℕ) (b : Balance) (job : JobValue) (h : How) → (actor_of p.actor).command ≡ doing of (work_is.Balance b) → (actor_of p.actor).job ≡ Some job → EndsBalance b h → ⊥
at-action f p seated of b job h command job_is ends =
    let it = around f p seated in
    let is = it.2 in
    let (c, mine, asked) = is.inv.holds.working.command p.number job (ap (λ (a : ActorValue). a.job) is.actor ∙ job_is) in
    let same : ◌≡◌ {A = Command} (record { of = of; work = work_is.Balance b }) c = Some-same c (record { of = of; work = work_is.Balance b }) (sym mine ∙ ap (λ (a : ActorValue). a.command) is.actor ∙ command) in
    let next : next_job b ≡ Some (begun_job job) = subst (λ (x : Command). IsJobOf x.work job) (sym same) asked in
    let (actions, a, planned, here, own) = next-action b (begun_job job) next in
    before-end b actions h planned (inside b.over actions a here) ends
