-- Who uses cells again, and what is due for an actor that is idle.
use Rattle.std.proofs.{Common.{◌≡◌, ◌∙◌, ◌&&◌, ◌+◌, ◌==◌, ℕ, inl, inr, Bool, true, false, not, is_none, is_some, List, [], ◌∷◌, length, Option, Some, None, option_map, refl, sym, ap}, lemmas.Bool.{cases_lt, eqb-true}}
use Rattle.std.specs.{List.list_any, Option.option_map_or, Prelude.{if◌then◌else◌, option_and_then, slice_get}}
use Rattle.core_due.specs.{Due.{balance_kind, desk_of, finish_kind, is_empty, is_empty_desk, job_kind, kind_by_verdict, parts_kind, stage_kind, there_kind, work_kind}, Parts.{due_kind, part_due}, Reuses.{reuse_due, reuse_for}, Wants.{is_block_free, is_drained, meets, wanted_of}, declared.parts.PartDue.PartDue}
use Rattle.core_due.specs.declared.parts.PartDue.TheVariants as part_is_due
use Rattle.core_due.proofs.PartKinds.{part-kind}
use Rattle.core_due.specs.core_steps.specs.{Parts.part_kind, Trees.tree_kind, declared.parts.PartStep.PartStep, declared.reuses.ReuseStep.ReuseStep, declared.trees.TreeStep.TreeStep}
use Rattle.core_due.specs.core_steps.specs.declared.parts.PartStep.TheVariants as part
use Rattle.core_due.specs.core_steps.specs.declared.trees.TreeStep.TheVariants as tree
use Rattle.dim_hierarchy.specs.Dimension.{Dimension}
use Rattle.query_router.specs.{Desk.{DeskValue, is_waiting, verdict_of}, declared.part.Part.Part, declared.part.Verdict.Verdict}
use Rattle.query_router.specs.declared.part.Verdict.TheVariants as verdict
use Rattle.row_ledger.specs.declared.event.Event.{Event}
use Rattle.script_form.specs.declared.script.Command.{Command}
use Rattle.script_form.specs.declared.script.Command.TheVariants as script
use Rattle.script_run.specs.Phases.{closes}
use Rattle.core_pages.specs.volap_cell.specs.{Commands.settles_next, Ghost.Ghost, Invariant.InvWith, Setting.{Setting, actor_count}, Sights.IsIdle, Steps.history_in, Values.{ActorValue, Builds, Collects, ErrandValue, IsCalled, IsDeclined, IsFrozen, JobValue, StageValue}, View.view, World.World, declared.command.Command.Command as OpenCommand, declared.command.Work.Work, declared.kind.Kind.Kind, declared.role.Role.Role}
use Rattle.core_pages.specs.volap_cell.specs.declared.command.Work.TheVariants as work_is
use Rattle.core_pages.specs.volap_cell.specs.declared.kind.Kind.TheVariants as kind
use Rattle.core_pages.specs.volap_cell.specs.declared.role.Role.TheVariants.{Admin, Hand, Puller, Session}
use Rattle.seeded_run.specs.{Can.{can, can_in_order, is_reuse, is_turn_of}, Due.{actor_kind, are_known, command_kind, due, due_by, first_kind, free_kind, is_alone, kind_or, next_kind, purse_kind}, DueSteps.{actor_step, command_step, due_step, free_step, step_due, step_or, step_where}, Laws.{IdleLaw, OrderLaw}, Rests.{PhaseRun, first_open, rest_of}, declared.turn.DueStep.DueStep}
use Rattle.seeded_run.specs.declared.turn.DueStep.TheVariants as step_is
use Rattle.seeded_run.proofs.Due.DueSteps.{KeepsPurse, TellsReuse}

-- Kinds by which no cell is used again.

either : (b : Bool) (x y : Option Kind) → is_reuse x ≡ false → is_reuse y ≡ false → is_reuse (if b then x else y) ≡ false
either true x y first second = first
either false x y first second = second

part-other : (step : PartStep) → is_reuse (Some (part_kind step)) ≡ false
part-other (part.TakePart desk) = refl
part-other (part.LookUp map gate) = refl
part-other (part.Forward map desk) = refl
part-other (part.Expand map desk) = refl
part-other (part.FinishPart desk) = refl
part-other (part.FinishPinned gate desk) = refl

tree-other : (step : TreeStep) → is_reuse (Some (tree_kind step)) ≡ false
tree-other (tree.PutInLeaf leaf) = refl
tree-other (tree.LeaveTree gate) = refl
tree-other (tree.EnterQueue map gate) = refl
tree-other (tree.ReadGate map gate) = refl
tree-other (tree.VisitBlock block) = refl
tree-other tree.Refill = refl
tree-other tree.GiveBack = refl

due-other : (due : PartDue) → is_reuse (Some (due_kind due)) ≡ false
due-other (part_is_due.Part step) = part-other step
due-other (part_is_due.Tree step) = tree-other step
due-other (part_is_due.Enters map gate) = refl
due-other (part_is_due.Descends block) = refl

if-other : (b : Bool) (x y : Kind) → is_reuse (Some x) ≡ false → is_reuse (Some y) ≡ false → is_reuse (Some (if b then x else y)) ≡ false
if-other true x y first second = first
if-other false x y first second = second

verdict-other : (parts : List Part) (v : Option Verdict) → is_reuse (kind_by_verdict parts v) ≡ false
verdict-other parts None = either (list_any is_waiting parts) (Some kind.TakePart) None refl refl
verdict-other parts (Some verdict.NoMemory) = refl
verdict-other parts (Some verdict.Placed) = refl
verdict-other parts (Some (verdict.Sum answer)) = refl

parts-other : (desk : Option DeskValue) → is_reuse (parts_kind desk) ≡ false
parts-other None = refl
parts-other (Some desk) = verdict-other desk.parts (verdict_of desk.parts)

stage-other : (to : Option ℕ) (stage : StageValue) → is_reuse (Some (stage_kind to stage)) ≡ false
stage-other to IsCalled = refl
stage-other to (IsDeclined why) = refl
stage-other to (IsFrozen f) = refl
stage-other to (Collects c) = refl
stage-other to (Builds b) = if-other (is_empty b.unbuilt) (finish_kind to) kind.BuildBlock (finish to) refl
  where
    finish : (o : Option ℕ) → is_reuse (Some (finish_kind o)) ≡ false
    finish None = refl
    finish (Some worker) = refl

job-other : (job : Option JobValue) (without : Kind) → is_reuse (Some without) ≡ false → is_reuse (Some (job_kind job without)) ≡ false
job-other None without other = other
job-other (Some job) without other = stage-other job.to job.stage

there-other : (history : List Event) (alone : Bool) (of : ℕ) (stands shown : Bool) → is_reuse (there_kind history alone of stands shown) ≡ false
there-other history alone of false shown = refl
there-other history alone of true true = refl
there-other history alone of true false = either (alone && (length history == of + 1)) (Some kind.Note) None refl refl

work-other : (s : Setting) (history : List Event) (alone : Bool) (desk : Option DeskValue) (a : ActorValue) (of : ℕ) (work : Work) → is_reuse (work_kind s history alone desk a of work) ≡ false
work-other s history alone desk a of (work_is.Insert row false) = either (is_empty_desk desk) (Some kind.Route) None refl refl
work-other s history alone desk a of (work_is.Insert row true) = parts-other desk
work-other s history alone desk a of work_is.Query = parts-other desk
work-other s history alone desk a of (work_is.Sync server pulled) = if-other pulled kind.Note kind.Sync refl refl
work-other s history alone desk a of (work_is.Settle pulls) = if-other (is_some (settles_next s.servers pulls)) kind.Sync kind.Note refl refl
work-other s history alone desk a of work_is.Bare = refl
work-other s history alone desk a of (work_is.Page subject stands shown) = there-other history alone of stands shown
work-other s history alone desk a of (work_is.Action x) = job-other a.job kind.Note refl
work-other s history alone desk a of (work_is.Balance b) = job-other a.job (balance_kind b) (if-other (is_none b.plan) kind.LookUp kind.Note refl refl)

first-other : (desk : Option DeskValue) (c : Command) (known : Bool) → is_reuse (first_kind desk c known) ≡ false
first-other desk (script.Insert new) true = refl
first-other desk (script.Insert new) false = refl
first-other desk (script.Query question) true = either (is_empty_desk desk) (Some kind.BeginQuery) None refl refl
first-other desk (script.Query question) false = refl
first-other desk (script.Control called) true = refl
first-other desk (script.Control called) false = refl
first-other desk (script.Group dim level filter) known = refl

next-other : (h : List Dimension) (alone : Bool) (desk : Option DeskValue) (rest : List Command) → is_reuse (next_kind h alone desk rest) ≡ false
next-other h alone desk [] = refl
next-other h alone desk (c ∷ more) = either (closes c && not alone) None (first_kind desk c (are_known h c)) refl (first-other desk c (are_known h c))

free-other : (s : Setting) (w : World) (alone : Bool) (rest : List Command) (r : Role) → is_reuse (free_kind s w alone rest r) ≡ false
free-other s w alone rest (Hand worker) = either _ (Some kind.TakePart) None refl refl
free-other s w alone rest (Session server) = next-other s.hierarchy alone (desk_of s w (Session server)) rest
free-other s w alone rest Puller = next-other s.hierarchy alone None rest
free-other s w alone rest Admin = next-other s.hierarchy alone None rest

-- Who does so.

clash : {X : Type 0} (b : Bool) → b ≡ true → b ≡ false → X
clash b x y = cc

reuse-is : (k : Option Kind) → is_reuse k ≡ true → k ≡ Some kind.Reuse
reuse-is (Some kind.Reuse) is = refl
reuse-is (Some k) is = cc
reuse-is None is = cc

-- An actor for which that is due has no command and no part, and nothing to give back.
module _ (s : Setting) (w : World) (rest : ℕ → List Command) (n : ℕ) (is_due : due_by s w rest n ≡ Some kind.Reuse) where
  never : {X : Type 0} (k : Option Kind) → is_reuse k ≡ false → k ≡ Some kind.Reuse → X
  never k other is = clash (is_reuse k) (ap is_reuse is) other

  by-errand : (o : Option ErrandValue) → (w.actors n).errand ≡ o → (w.actors n).errand ≡ None
  by-errand None is = is
  by-errand (Some e) is =
      never (option_map due_kind (part_due s w (w.actors n) e)) (at-part (part_due s w (w.actors n) e))
      (part-kind s w (w.actors n) e ∙ sym (ap (actor_kind s w (is_alone s w rest n) (rest n) (w.actors n)) is) ∙ is_due)
    where
      at-part : (o : Option PartDue) → is_reuse (option_map due_kind o) ≡ false
      at-part None = refl
      at-part (Some due) = due-other due

  no-errand : (w.actors n).errand ≡ None
  no-errand = by-errand (w.actors n).errand refl

  at-purse : purse_kind s w (is_alone s w rest n) (rest n) (w.actors n) ≡ Some kind.Reuse
  at-purse = sym (ap (actor_kind s w (is_alone s w rest n) (rest n) (w.actors n)) no-errand) ∙ is_due

  by-purse : (b : Bool) → (is_none (w.actors n).job && not (is_empty (w.actors n).purse)) ≡ b → KeepsPurse (w.actors n)
  by-purse false is = is
  by-purse true is =
      never (Some kind.Refill) refl
      (sym (ap (λ b. if b then Some kind.Refill else command_kind s w (is_alone s w rest n) (rest n) (w.actors n) (w.actors n).command) is) ∙ at-purse)

  keeps : KeepsPurse (w.actors n)
  keeps = by-purse (is_none (w.actors n).job && not (is_empty (w.actors n).purse)) refl

  at-command : command_kind s w (is_alone s w rest n) (rest n) (w.actors n) (w.actors n).command ≡ Some kind.Reuse
  at-command = sym (ap (λ b. if b then Some kind.Refill else command_kind s w (is_alone s w rest n) (rest n) (w.actors n) (w.actors n).command) keeps) ∙ at-purse

  by-command : (o : Option OpenCommand) → (w.actors n).command ≡ o → (w.actors n).command ≡ None
  by-command None is = is
  by-command (Some c) is =
      never (command_kind s w (is_alone s w rest n) (rest n) (w.actors n) (Some c)) (work-other s (history_in w) (is_alone s w rest n) (desk_of s w (w.actors n).role) (w.actors n) c.of c.work)
      (sym (ap (command_kind s w (is_alone s w rest n) (rest n) (w.actors n)) is) ∙ at-command)

  no-command : (w.actors n).command ≡ None
  no-command = by-command (w.actors n).command refl

  by-step : (o : Option ReuseStep) → reuse_due w (w.actors n) ≡ o → (step : ReuseStep) × (reuse_due w (w.actors n) ≡ Some step)
  by-step (Some step) is = (step, is)
  by-step None is =
      never (free_kind s w (is_alone s w rest n) (rest n) (w.actors n).role) (free-other s w (is_alone s w rest n) (rest n) (w.actors n).role)
      (sym (ap (λ o. kind_or o (free_kind s w (is_alone s w rest n) (rest n) (w.actors n).role)) is) ∙ sym (ap (command_kind s w (is_alone s w rest n) (rest n) (w.actors n)) no-command) ∙ at-command)

  pub reuse-only : (step : ReuseStep) × TellsReuse w n step
  reuse-only = (let k = by-step (reuse_due w (w.actors n)) refl in (k.0, (no-errand, no-command, keeps, k.1)))

-- it is an administrator
pub reuse-admin : (w : World) (a : ActorValue) (step : ReuseStep) → reuse_due w a ≡ Some step → a.role ≡ Admin
reuse-admin w a step is = by a.role is
  where
    by : (r : Role) → reuse_for w a r ≡ Some step → r ≡ Admin
    by Admin is = refl
    by Puller is = cc
    by (Session server) is = cc
    by (Hand worker) is = cc

-- of which there is one
pub one-admin : (s : Setting) (w : World) (g : Ghost) → InvWith s (view s w) g → (a b : ℕ) → (w.actors a).role ≡ Admin → (w.actors b).role ≡ Admin → a ≡ b
one-admin s w g i a b is_a is_b = i.numbering.setting.admin a b (at a is_a) (at b is_b)
  where
    not-hand : {X : Type 0} (r : Role) (worker : ℕ) → r ≡ Admin → r ≡ Hand worker → X
    not-hand r worker x y = cc

    at : (n : ℕ) → (w.actors n).role ≡ Admin → slice_get s.roles n ≡ Some Admin
    at n is = elim (cases_lt n (actor_count s)) [
      | inl low ↦ i.numbering.role n low ∙ ap Some is
      | inr past ↦ not-hand (w.actors n).role s.workers is (i.numbering.beyond n past)
    ]

-- Idle actors.

module _ (s : Setting) (w : World) (n : ℕ) (idle : IsIdle (w.actors n)) where
  none-left : (is_none (w.actors n).job && not (is_empty (w.actors n).purse)) ≡ false
  none-left = rw idle.job (rw idle.purse refl)

  module _ (alone : Bool) (rest : List Command) where
    pub idle-kind : actor_kind s w alone rest (w.actors n) (w.actors n).errand ≡ kind_or (reuse_due w (w.actors n)) (free_kind s w alone rest (w.actors n).role)
    idle-kind =
        ap (actor_kind s w alone rest (w.actors n)) idle.errand
        ∙ ap (λ b. if b then Some kind.Refill else command_kind s w alone rest (w.actors n) (w.actors n).command) none-left
        ∙ ap (command_kind s w alone rest (w.actors n)) idle.command

    pub idle-step : actor_step s w alone rest (w.actors n) (w.actors n).errand ≡ step_or (reuse_due w (w.actors n)) (free_step s w alone rest (w.actors n).role)
    idle-step =
        ap (actor_step s w alone rest (w.actors n)) idle.errand
        ∙ ap (λ b. if b then Some (step_is.AtPart (part_is_due.Tree tree.GiveBack)) else command_step s w alone rest (w.actors n) (w.actors n).command) none-left
        ∙ ap (command_step s w alone rest (w.actors n)) idle.command

  -- they wait for nothing
  pub idle-meets : (k : Kind) → meets s w n k ≡ true
  idle-meets k =
      ap (λ (e : Option ErrandValue). option_map_or (is_block_free s w n) (option_and_then (λ (x : ErrandValue). wanted_of s w x k) e) true && is_drained w (w.actors n).job) idle.errand
      ∙ ap (λ (j : Option JobValue). true && is_drained w j) idle.job

  -- Where the commands go in order and all are over, they use cells again, and do nothing else.

  goes-by : (o : Option ReuseStep) (k : Option Kind) (x : Option DueStep) → is_reuse k ≡ false
      → step_where (is_reuse (kind_or o k) && option_map_or (meets s w n) (kind_or o k) false) (step_or o x) ≡ option_map step_is.Reuses o
  goes-by None k x other = ap (λ b. step_where (b && option_map_or (meets s w n) k false) x) other
  goes-by (Some step) k x other = ap (λ b. step_where b (Some (step_is.Reuses step))) (idle-meets kind.Reuse)

  pub over-step : (p : PhaseRun) → first_open p (history_in w) ≡ None → due_step true s p w n ≡ option_map step_is.Reuses (reuse_due w (w.actors n))
  over-step p over =
      let rest = rest_of p (history_in w) n in
      let alone = is_alone s w (rest_of p (history_in w)) n in
      let kind_is = idle-kind alone rest in
      let k = free_kind s w alone rest (w.actors n).role in
      let o = reuse_due w (w.actors n) in
      ap (λ first. step_where (is_turn_of first n (due s p w n) && can s p w n) (step_due s p w n)) over
      ∙ ap (λ due_is. step_where (is_reuse due_is && option_map_or (meets s w n) due_is false) (step_due s p w n)) kind_is
      ∙ ap (step_where (is_reuse (kind_or o k) && option_map_or (meets s w n) (kind_or o k) false)) (idle-step alone rest)
      ∙ goes-by o k (free_step s w alone rest (w.actors n).role) (free-other s w alone rest (w.actors n).role)

-- of one that is no hand, and whose stream is at its end
pub idle-law : IdleLaw
idle-law s w rest n idle no_hand none = idle-kind s w n idle (is_alone s w rest n) (rest n) ∙ ap (kind_or (reuse_due w (w.actors n))) (by (w.actors n).role refl)
  where
    none-next : (desk : Option DeskValue) → next_kind s.hierarchy (is_alone s w rest n) desk (rest n) ≡ None
    none-next desk = ap (next_kind s.hierarchy (is_alone s w rest n) desk) none

    by : (r : Role) → (w.actors n).role ≡ r → free_kind s w (is_alone s w rest n) (rest n) r ≡ None
    by (Hand worker) is = absurd (no_hand worker is)
    by (Session server) is = none-next (desk_of s w (Session server))
    by Puller is = none-next None
    by Admin is = none-next None

-- In order.

turn-parts : (a b : Bool) → (a && b) ≡ true → a ≡ true
turn-parts true b is = refl
turn-parts false b is = cc

pub order-law : OrderLaw
order-law s p w g i a b can_a can_b = by (first_open p (history_in w)) refl
  where
    admin : (n : ℕ) → due s p w n ≡ Some kind.Reuse → (w.actors n).role ≡ Admin
    admin n is = (let k = reuse-only s w (rest_of p (history_in w)) n is in reuse-admin w (w.actors n) k.0 (k.1).3)

    turn : (n : ℕ) → can_in_order s p w n ≡ true → is_turn_of (first_open p (history_in w)) n (due s p w n) ≡ true
    turn n is = turn-parts (is_turn_of (first_open p (history_in w)) n (due s p w n)) (can s p w n) is

    by : (first : Option ℕ) → first_open p (history_in w) ≡ first → a ≡ b
    by (Some m) is =
        let at_a : (m == a) ≡ true = sym (ap (λ o. is_turn_of o a (due s p w a)) is) ∙ turn a can_a in
        let at_b : (m == b) ≡ true = sym (ap (λ o. is_turn_of o b (due s p w b)) is) ∙ turn b can_b in
        sym (eqb-true m a at_a) ∙ eqb-true m b at_b
    by None is =
        let of_a = reuse-is (due s p w a) (sym (ap (λ o. is_turn_of o a (due s p w a)) is) ∙ turn a can_a) in
        let of_b = reuse-is (due s p w b) (sym (ap (λ o. is_turn_of o b (due s p w b)) is) ∙ turn b can_b) in
        one-admin s w g i a b (admin a of_a) (admin b of_b)
