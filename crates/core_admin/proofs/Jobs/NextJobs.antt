-- The command of a job, and the job that comes next, if one does: at its beginning, for the command as it is then.
use Rattle.std.proofs.{Common.{◌≡◌, ◌≢◌, ℕ, ◌*◌, ◌<◌, ◌≤◌, List, [], Bool, true, false, eqb, Option, Some, None, refl, sym, ap, ◌∙◌, subst, arith, ◌+◌, ◌-◌, suc, length, option_map, option_and_then, slice_get, inl, inr, suc-mul}, lemmas.Bool.{eqb-true, eqb-false, cases_lt}, lemmas.Option.slice_get_past}
use Rattle.cell_stock.specs.declared.purse.Spare.{Spare}
use Rattle.dc_node.specs.declared.block.Block.{Block}
use Rattle.row_ledger.specs.{Workers.is_on, declared.event.Event.Event}
use Rattle.core_tree.specs.shard_store.specs.{declared.gate.Gate.Gate, declared.gate.Phase.Phase, declared.queue.Queue.Queue}
use Rattle.core_tree.specs.tree_shape.specs.Shape.{Shape}
use Rattle.list_words.proofs.Truth.{on_bool}
use Rattle.core_tree.specs.volap_cell.specs.{Commands.after_action, Falls.{job_left, plenty, stage_left, actions_left, control_of}, Ghost.Ghost, Invariant.InvWith, Numbering.Numbering, Owing.{is_insert, is_insert_work}, Planning.{job_for, next_job}, Setting.Setting, Values.{JobValue, IsCalled, IsDeclined, Collects, Builds}, View.View, Working.{IsBuilding, IsCollected, IsDeclinedFor, IsFrozenFor, IsJobOf, Working, frozen_in, Balancing, IsBalancing}, declared.command.Balance.Balance, declared.command.Command.Command, declared.command.Work.Work, declared.role.Role.TheVariants.Admin}
use Rattle.core_tree.specs.volap_cell.specs.declared.command.Work.TheVariants as work_is
use Rattle.core_tree.specs.volap_cell.proofs.{Persons.has-job, Views.Fields.IsNewAt}
use Rattle.core_admin.proofs.{Jobs.JobsGoOn.only-one, Jobs.TurnedCommands.IsOffDesk}
use Rattle.std.specs.Option.{option_map_or}
use Rattle.shard_plan.specs.declared.action.Action.{Action}

-- the command asks for a job: it is a split, a move or a balance
pub off-desk : (work : Work) (job : JobValue) → IsJobOf work job → IsOffDesk work
off-desk (work_is.Action act) job is = record { no_insert = refl; off = refl }
off-desk (work_is.Balance b) job is = record { no_insert = refl; off = refl }
off-desk (work_is.Insert row routed) job is = absurd is
off-desk work_is.Query job is = absurd is
off-desk (work_is.Sync server pulled) job is = absurd is
off-desk work_is.Bare job is = absurd is
off-desk (work_is.Settle pulls) job is = absurd is
off-desk (work_is.Page subject there shown) job is = absurd is

pub none-insert : (command : Option Command) → ((k : Command) → command ≡ Some k → is_insert_work k.work ≡ false) → is_insert command ≡ false
none-insert None none = refl
none-insert (Some k) none = none k refl

-- a job at its beginning leaves so much
pub job-few : (s : Setting) (v : View) (job : Option JobValue) → ((j : JobValue) → job ≡ Some j → j.stage ≡ IsCalled) → job_left s v job ≤ 6 * plenty s
job-few s v None called = omega arith
job-few s v (Some j) called = (let at : job_left s v (Some j) ≡ 6 * plenty s = ap (stage_left s v) (called j refl) in omega (arith, at))

-- with the next action, a balance and its job have no more to do than the balance had alone
pub control-next : (s : Setting) (v : View) (done : Bool) (job : JobValue) (b : Balance) (actions : List Action) → b.plan ≡ Some actions → b.over < length actions → ((j : JobValue) → next_job (after_action done job b) ≡ Some j → j.stage ≡ IsCalled)
    → control_of s (work_is.Balance (after_action done job b)) + job_left s v (next_job (after_action done job b)) ≤ control_of s (work_is.Balance b)
control-next s v done job b actions plan inside called =
    let next = after_action done job b in
    let unit = 8 * plenty s in
    let len = length actions in
    let at = b.over in
    let was : control_of s (work_is.Balance b) ≡ 1 + (len - (at + 1)) * unit = ap (λ (z : Option (List Action)). 1 + actions_left s b z) plan in
    let now : control_of s (work_is.Balance next) ≡ 1 + (len - (at + 1 + 1)) * unit = ap (λ (z : Option (List Action)). 1 + actions_left s next z) plan in
    let few = job-few s v (next_job next) called in
    elim (cases_lt (at + 1) len) [
      | inl more ↦
          let step : len - (at + 1) ≡ suc (len - (at + 1 + 1)) = omega (arith, more) in
          let sum : (len - (at + 1)) * unit ≡ (len - (at + 1 + 1)) * unit + unit = ap (λ (z : ℕ). z * unit) step ∙ suc-mul (len - (at + 1 + 1)) unit in
          omega (arith, was, now, sum, few)
      | inr last ↦
          let step : len - (at + 1) ≡ len - (at + 1 + 1) = omega (arith, last) in
          let same_left : (len - (at + 1)) * unit ≡ (len - (at + 1 + 1)) * unit = ap (λ (z : ℕ). z * unit) step in
          let nothing : next_job next ≡ None =
          ap (λ (z : Option (List Action)). option_map (job_for next.standing) (option_and_then (λ (xs : List Action). slice_get xs next.over) z)) plan
          ∙ ap (option_map (job_for next.standing)) (slice_get_past actions (at + 1) last) in
          let none : job_left s v (next_job next) ≡ 0 = ap (job_left s v) nothing in
          omega (arith, was, now, same_left, none)
    ]

-- one balance is another one now
pub balancing-one : (s : Setting) (h : List Event) (placed : ℕ → Bool) (home : ℕ → ℕ) (n of : ℕ) (b : Balance) (its : Option Command) (commands commands_now : ℕ → Option Command)
    → IsNewAt commands_now commands n its (Some (record { of = of; work = work_is.Balance b })) → (jobs_now : ℕ → Option JobValue) (job : Option JobValue) → jobs_now n ≡ job → IsBalancing s h placed home job of b
    → ((a r : ℕ) (k : Balance) → a ≢ n → commands a ≡ Some (record { of = r; work = work_is.Balance k }) → IsBalancing s h placed home (jobs_now a) r k) → Balancing s h commands_now jobs_now placed home
balancing-one s h placed home n of b its commands commands_now turn jobs_now job job_is now others = record {
  balance = λ a r k has. on_bool (eqb a n)
      (λ q.
      let here = eqb-true a n q in
      let both : ◌≡◌ {A = Option Command} (Some (record { of = of; work = work_is.Balance b })) (Some (record { of = r; work = work_is.Balance k })) = sym turn.is_there ∙ ap commands_now (sym here) ∙ has in
      let same_of : of ≡ r = ap (λ (z : Option Command). option_map_or (λ (t : Command). t.of) z 0) both in
      let same_work : work_is.Balance b ≡ work_is.Balance k = ap (λ (z : Option Command). option_map_or (λ (t : Command). t.work) z work_is.Query) both in
      let same_balance : b ≡ k = cc in
      subst (λ (j : Option JobValue). IsBalancing s h placed home j r k) (sym (ap jobs_now here ∙ job_is))
      (subst (λ (z : ℕ). IsBalancing s h placed home job z k) same_of (subst (λ (z : Balance). IsBalancing s h placed home job of z) same_balance now)))
      (λ q. let ne = eqb-false a n q in others a r k ne (sym (turn.elsewhere a ne) ∙ has));
}

-- The job that is there afterwards, if there is one, is at its beginning.
pub record IsNextOf (s : Setting) (h : List Event) (command : Option Command) (j : JobValue) : Type 0 where
  pub called : j.stage ≡ IsCalled
  pub whose : (c : Command) × (command ≡ Some c) × IsJobOf c.work j
  pub front : is_on s.workers h j.shard j.worker ≡ true
  pub to : (worker : ℕ) → j.to ≡ Some worker → worker < s.workers

module _ (s : Setting) (v : View) (g : Ghost) (i : InvWith s v g) (n : ℕ) (job : JobValue) (job2 : Option JobValue) (jobs_now : ℕ → Option JobValue) (new : IsNewAt jobs_now v.jobs n (Some job) job2) (h2 : List Event) (command2 : Option Command)
    (next : (j : JobValue) → job2 ≡ Some j → IsNextOf s h2 command2 j) (commands_now : ℕ → Option Command) (its : Option Command) (turn : IsNewAt commands_now v.commands n its command2) (purses_now : ℕ → List Spare) (mine : purses_now n ≡ []) where
  its-next : (P : ℕ → JobValue → Type 0) → ((j : JobValue) → job2 ≡ Some j → P n j) → (a : ℕ) (j : JobValue) → jobs_now a ≡ Some j → P a j
  its-next P f a j has = on_bool (eqb a n)
      (λ z. let x = eqb-true a n z in subst (λ (y : ℕ). P y j) (sym x) (f j (sym new.is_there ∙ ap jobs_now (sym x) ∙ has)))
      (λ z. let ne = eqb-false a n z in absurd (ne (only-one s v g i a n j job (sym (new.elsewhere a ne) ∙ has) new.was_there)))

  pub numbering-next : ((a : ℕ) → a ≢ n → purses_now a ≡ v.purses a) → Numbering s v.tags v.numbers v.roles v.settings v.counted_in purses_now commands_now v.taken jobs_now
  numbering-next off =
      let k = i.numbering in record {
        setting = k.setting;
        tag = k.tag;
        number = k.number;
        role = k.role;
        about = k.about;
        beyond = k.beyond;
        nobody = λ a le. let no = k.nobody a le in
            let lt = has-job s v i.numbering n job new.was_there in
            let ne : a ≢ n = (λ x. absurd (omega (arith, lt, le, x))) in
            (no.0, off a ne ∙ no.1, turn.elsewhere a ne ∙ no.2, no.3, new.elsewhere a ne ∙ no.4);
        working = its-next (λ a j. v.roles a ≡ Admin) (λ j has. k.working n job new.was_there);
        parts = k.parts;
        idle = λ a role none. on_bool (eqb a n)
            (λ z. ap purses_now (eqb-true a n z) ∙ mine)
            (λ z. let ne = eqb-false a n z in off a ne ∙ k.idle a role (sym (new.elsewhere a ne) ∙ none));
      }

  pub working-next : (blocks : ℕ → Block) (made : ℕ → Bool) (trees : ℕ → Gate) (phases : ℕ → Option Phase) (active : ℕ → ℕ) (queues : ℕ → Queue) (gate : ℕ → ℕ) (shape : ℕ → Shape) (placed : ℕ → Bool)
      → Working s h2 blocks made trees phases active queues purses_now commands_now jobs_now gate shape placed
  working-next blocks made trees phases active queues gate shape placed = record {
    command = its-next (λ a j. (k : Command) × (commands_now a ≡ Some k) × IsJobOf k.work j) (λ j has. let o = (next j has).whose in (o.0, turn.is_there ∙ o.1, o.2));
    front = its-next (λ a j. is_on s.workers h2 j.shard j.worker ≡ true) (λ j has. (next j has).front);
    to = λ a worker j. its-next (λ a j. j.to ≡ Some worker → worker < s.workers) (λ j has. (next j has).to worker) a j;
    unspent = λ a j. its-next (λ a j. frozen_in j.stage ≡ None → purses_now a ≡ []) (λ j has none. mine) a j;
    declined = λ a j k why has _ stage. its-next (λ a j. j.stage ≡ IsDeclined why → IsDeclinedFor s h2 placed k.of j why) (λ j has st. let no : IsCalled ≡ IsDeclined why = sym (next j has).called ∙ st in cc) a j has stage;
    frozen = λ a j f. its-next (λ a j. frozen_in j.stage ≡ Some f → IsFrozenFor s trees phases gate (purses_now a) j f) (λ j has at. let no : None ≡ Some f = ap frozen_in (sym (next j has).called) ∙ at in cc) a j;
    collected = λ a j k. its-next (λ a j. j.stage ≡ Collects k → IsCollected h2 blocks trees queues phases active shape k) (λ j has at. let no : IsCalled ≡ Collects k = sym (next j has).called ∙ at in cc) a j;
    building = λ a j k. its-next (λ a j. j.stage ≡ Builds k → IsBuilding s h2 blocks made trees queues phases active shape (purses_now a) k) (λ j has at. let no : IsCalled ≡ Builds k = sym (next j has).called ∙ at in cc) a j;
  }
