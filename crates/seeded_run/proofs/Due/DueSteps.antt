-- What an actor does on its turn, the kind of step that is due for it, and what that tells of the actor.
use Rattle.std.proofs.Common.{◌≡◌, ◌⊎◌, ◌&&◌, ℕ, inl, inr, Bool, true, false, cond, not, is_none, is_some, IfSome, List, [], ◌∷◌, Option, None, Some, option_map, ap, refl, sym, subst}
use Rattle.std.specs.{Option.option_map_or, Prelude.{if◌then◌else◌, ⊤}}
use Rattle.script_form.specs.declared.script.Command.{Command}
use Rattle.script_form.specs.declared.script.Command.TheVariants as script
use Rattle.script_run.specs.Phases.{closes}
use Rattle.query_router.specs.Desk.{DeskValue}
use Rattle.dim_hierarchy.specs.Dimension.{Dimension}
use Rattle.core_pages.specs.tree_shape.proofs.Reading.Collects.{collect-ends}
use Rattle.core_pages.specs.volap_cell.specs.{ImageKinds.doing, Setting.Setting, Steps.{Inv, history_in}, Values.{ActorValue, ErrandValue, JobValue}, World.World, declared.command.Command.Command as OpenCommand, declared.command.Work.Work, declared.kind.Kind.Kind, declared.role.Role.Role}
use Rattle.core_pages.specs.volap_cell.specs.declared.kind.Kind.TheVariants as kind
use Rattle.core_pages.specs.volap_cell.specs.declared.role.Role.TheVariants as role
use Rattle.core_due.specs.{Due.{desk_of, hand_kind, is_empty, is_empty_desk}, Laws.IsDueAt, Parts.{due_kind, part_due}, Ready.HasSpares, Reuses.reuse_due, Wants.meets, Works.{work_due, work_due_kind}, declared.parts.PartDue.PartDue, declared.works.WorkDue.WorkDue}
use Rattle.core_due.specs.declared.parts.PartDue.TheVariants.{Tree}
use Rattle.core_due.proofs.{PartKinds.part-kind, WorkKinds.work-kind}
use Rattle.core_due.specs.core_steps.specs.declared.{reuses.ReuseStep.ReuseStep, trees.TreeStep.TheVariants.GiveBack}
use Rattle.core_told.specs.Told.{is_of_part}
use Rattle.seeded_run.specs.{Can.{can, can_step}, Commands.may_begin, Due.{actor_kind, are_known, command_kind, due, due_by, first_kind, free_kind, is_alone, kind_or, next_kind}, DueSteps.{IsOfKind, actor_step, command_step, due_step, free_step, step_due, step_due_by, step_if_free, step_or, step_where}, Rests.{PhaseRun, rest_of}, declared.turn.DueStep.DueStep}
use Rattle.seeded_run.specs.declared.turn.DueStep.TheVariants.{AtPart, AtWork, Begins, Reuses, Takes}
use Rattle.seeded_run.proofs.Holding.LeftAlone.{both-parts}

-- Kinds that begin commands.

pub begins-apart : (k : Kind) → may_begin k ≡ true → is_of_part k ≡ false
begins-apart kind.BeginInsert e = refl
begins-apart kind.BeginQuery e = refl
begins-apart kind.Note e = refl
begins-apart k e = cc

some-kind : (j k : Kind) → ◌≡◌ {A = Option Kind} (Some j) (Some k) → j ≡ k
some-kind j k e = cc

no-kind : {X : Type 0} (k : Kind) → ◌≡◌ {A = Option Kind} None (Some k) → X
no-kind k e = cc

some-step : (x y : DueStep) → ◌≡◌ {A = Option DueStep} (Some x) (Some y) → x ≡ y
some-step x y e = cc

no-step : {X : Type 0} (x : DueStep) → ◌≡◌ {A = Option DueStep} None (Some x) → X
no-step x e = cc

at-empty : (b : Bool) (k : Kind) → (if b then Some kind.BeginQuery else None) ≡ Some k → may_begin k ≡ true
at-empty true k e = ap may_begin (sym (some-kind kind.BeginQuery k e))
at-empty false k e = no-kind k e

first-begins : (desk : Option DeskValue) (c : Command) (known : Bool) (k : Kind) → first_kind desk c known ≡ Some k → may_begin k ≡ true
first-begins desk (script.Insert new) true k e = ap may_begin (sym (some-kind kind.BeginInsert k e))
first-begins desk (script.Query question) true k e = at-empty (is_empty_desk desk) k e
first-begins desk (script.Control call) true k e = ap may_begin (sym (some-kind kind.Note k e))
first-begins desk (script.Insert new) false k e = ap may_begin (sym (some-kind kind.Note k e))
first-begins desk (script.Query question) false k e = ap may_begin (sym (some-kind kind.Note k e))
first-begins desk (script.Control call) false k e = ap may_begin (sym (some-kind kind.Note k e))
first-begins desk (script.Group dim level filter) known k e = ap may_begin (sym (some-kind kind.Note k e))

-- the next command begins by one of them
next-begins : (h : List Dimension) (alone : Bool) (desk : Option DeskValue) (rest : List Command) (k : Kind) → next_kind h alone desk rest ≡ Some k → may_begin k ≡ true
next-begins h alone desk [] k e = no-kind k e
next-begins h alone desk (c ∷ more) k e = by (closes c && not alone) e
  where
    by : (b : Bool) → (if b then None else first_kind desk c (are_known h c)) ≡ Some k → may_begin k ≡ true
    by true e = no-kind k e
    by false e = first-begins desk c (are_known h c) k e

-- A step and its kind.

-- both are due, and the step is of the kind; or neither is due
abbrev AreSame : ActorValue → Option DueStep → Option Kind → Type 0
AreSame a None None = ⊤
AreSame a (Some step) (Some k) = IsOfKind step a k
AreSame a None (Some k) = ⊥
AreSame a (Some step) None = ⊥

begin-same : (a : ActorValue) (o : Option Kind) → a.command ≡ None → ((k : Kind) → o ≡ Some k → may_begin k ≡ true) → AreSame a (option_map (λ k. Begins) o) o
begin-same a None none begins = tt
begin-same a (Some k) none begins = (none, begins k refl)

part-same : (a : ActorValue) (o : Option PartDue) → AreSame a (option_map AtPart o) (option_map due_kind o)
part-same a None = tt
part-same a (Some due) = refl

work-same : (a : ActorValue) (o : Option WorkDue) → AreSame a (option_map AtWork o) (option_map work_due_kind o)
work-same a None = tt
work-same a (Some due) = refl

hand-same : (a : ActorValue) (worker : ℕ) (b : Bool) → a.role ≡ role.Hand worker → AreSame a (option_map (λ k. Takes worker) (if b then Some kind.TakePart else None)) (if b then Some kind.TakePart else None)
hand-same a worker true is = (is, refl)
hand-same a worker false is = tt

reuse-same : (a : ActorValue) (o : Option ReuseStep) (x : Option DueStep) (k : Option Kind) → a.command ≡ None → AreSame a x k → AreSame a (step_or o x) (kind_or o k)
reuse-same a None x k none same = same
reuse-same a (Some step) x k none same = (none, refl)

module _ (s : Setting) (w : World) (rest : ℕ → List Command) (n : ℕ) (inv : Inv s w) where
  free-same : (r : Role) → (w.actors n).role ≡ r → (w.actors n).command ≡ None → AreSame (w.actors n) (free_step s w (is_alone s w rest n) (rest n) r) (free_kind s w (is_alone s w rest n) (rest n) r)
  free-same (role.Hand worker) is none = hand-same (w.actors n) worker _ is
  free-same (role.Session server) is none = begin-same (w.actors n) (free_kind s w (is_alone s w rest n) (rest n) (role.Session server)) none (next-begins s.hierarchy (is_alone s w rest n) (desk_of s w (role.Session server)) (rest n))
  free-same role.Puller is none = begin-same (w.actors n) (free_kind s w (is_alone s w rest n) (rest n) role.Puller) none (next-begins s.hierarchy (is_alone s w rest n) None (rest n))
  free-same role.Admin is none = begin-same (w.actors n) (free_kind s w (is_alone s w rest n) (rest n) role.Admin) none (next-begins s.hierarchy (is_alone s w rest n) None (rest n))

  command-same : (o : Option OpenCommand) → (w.actors n).command ≡ o → AreSame (w.actors n) (command_step s w (is_alone s w rest n) (rest n) (w.actors n) o) (command_kind s w (is_alone s w rest n) (rest n) (w.actors n) o)
  command-same None is =
      reuse-same (w.actors n) (reuse_due w (w.actors n)) (free_step s w (is_alone s w rest n) (rest n) (w.actors n).role) (free_kind s w (is_alone s w rest n) (rest n) (w.actors n).role) is
      (free-same (w.actors n).role refl is)
  command-same (Some c) is =
      subst (λ o. AreSame (w.actors n) (option_map AtWork (work_due s w (history_in w) (is_alone s w rest n) (w.actors n) c.of c.work)) o)
      (work-kind s w inv n c.of (λ table cells g read collected tree x. collect-ends table cells g read collected tree x) (history_in w) (is_alone s w rest n) c.work is)
      (work-same (w.actors n) (work_due s w (history_in w) (is_alone s w rest n) (w.actors n) c.of c.work))

  purse-same : (b : Bool) → AreSame (w.actors n) (if b then Some (AtPart (Tree GiveBack)) else command_step s w (is_alone s w rest n) (rest n) (w.actors n) (w.actors n).command)
      (if b then Some kind.Refill else command_kind s w (is_alone s w rest n) (rest n) (w.actors n) (w.actors n).command)
  purse-same true = refl
  purse-same false = command-same (w.actors n).command refl

  actor-same : (o : Option ErrandValue) → AreSame (w.actors n) (actor_step s w (is_alone s w rest n) (rest n) (w.actors n) o) (actor_kind s w (is_alone s w rest n) (rest n) (w.actors n) o)
  actor-same None = purse-same (is_none (w.actors n).job && not (is_empty (w.actors n).purse))
  actor-same (Some e) = subst (λ o. AreSame (w.actors n) (option_map AtPart (part_due s w (w.actors n) e)) o) (part-kind s w (w.actors n) e) (part-same (w.actors n) (part_due s w (w.actors n) e))

  due-same : AreSame (w.actors n) (step_due_by s w rest n) (due_by s w rest n)
  due-same = actor-same (w.actors n).errand

of-step : (a : ActorValue) (o : Option DueStep) (p : Option Kind) (step : DueStep) → AreSame a o p → o ≡ Some step → (k : Kind) × (p ≡ Some k) × IsOfKind step a k
of-step a None p step same is = no-step step is
of-step a (Some x) None step same is = absurd same
of-step a (Some x) (Some k) step same is = (k, refl, subst (λ z. IsOfKind z a k) (some-step x step is) same)

-- what is due is of the kind that is due
pub step-kind : (s : Setting) (w : World) (rest : ℕ → List Command) (n : ℕ) (step : DueStep) → Inv s w → step_due_by s w rest n ≡ Some step
    → (k : Kind) × (due_by s w rest n ≡ Some k) × IsOfKind step (w.actors n) k
step-kind s w rest n step inv is = of-step (w.actors n) (step_due_by s w rest n) (due_by s w rest n) step (due-same s w rest n inv) is

-- What can be made.

where-some : (b : Bool) (o : Option DueStep) (step : DueStep) → step_where b o ≡ Some step → (b ≡ true) × (o ≡ Some step)
where-some true o step e = (refl, e)
where-some false o step e = no-step step e

pub kind-of : (in_order : Bool) (s : Setting) (p : PhaseRun) (w : World) (n : ℕ) (step : DueStep) → Inv s w → due_step in_order s p w n ≡ Some step
    → (k : Kind) × (due s p w n ≡ Some k) × (can_step in_order s p w n ≡ true) × IsOfKind step (w.actors n) k × (step_due s p w n ≡ Some step)
kind-of in_order s p w n step inv e =
    let both = where-some (can_step in_order s p w n) (step_due s p w n) step e in
    let k = step-kind s w (rest_of p (history_in w)) n step inv both.1 in
    (k.0, k.1, both.0, k.2, both.1)

-- for whom nothing is due can make no step

pub no-both : (a b : Bool) → b ≡ false → (a && b) ≡ false
no-both true b e = e
no-both false b e = refl

none-able : (s : Setting) (p : PhaseRun) (w : World) (n : ℕ) → due s p w n ≡ None → can s p w n ≡ false
none-able s p w n none = ap (λ (o : Option Kind). option_map_or (meets s w n) o false) none

pub none-due : (in_order : Bool) (s : Setting) (p : PhaseRun) (w : World) (n : ℕ) → due s p w n ≡ None → can_step in_order s p w n ≡ false
none-due false s p w n none = none-able s p w n none
none-due true s p w n none = no-both _ (can s p w n) (none-able s p w n none)

-- something is done by who can step, and by nobody else

same-none : (a : ActorValue) (p : Option Kind) → AreSame a None p → p ≡ None
same-none a None same = refl
same-none a (Some k) same = absurd same

can-some : (a : ActorValue) (b : Bool) (o : Option DueStep) (p : Option Kind) → AreSame a o p → (p ≡ None → b ≡ false) → is_some (step_where b o) ≡ b
can-some a true (Some step) p same none = refl
can-some a false o p same none = refl
can-some a true None p same none = sym (none (same-none a p same))

pub steps-if-can : (in_order : Bool) (s : Setting) (p : PhaseRun) (w : World) (n : ℕ) → Inv s w → is_some (due_step in_order s p w n) ≡ can_step in_order s p w n
steps-if-can in_order s p w n inv =
    can-some (w.actors n) (can_step in_order s p w n) (step_due s p w n) (due s p w n) (due-same s w (rest_of p (history_in w)) n inv) (none-due in_order s p w n)

-- of an actor whose turn it isn't nothing is told, and of another what it can do
pub in-turn : (in_order turn : Bool) (s : Setting) (p : PhaseRun) (w : World) (n : ℕ) → can_step in_order s p w n ≡ (turn && can s p w n) → due_step in_order s p w n ≡ cond turn (step_if_free s p w n) None
in-turn in_order true s p w n is = ap (λ b. step_where b (step_due s p w n)) is
in-turn in_order false s p w n is = ap (λ b. step_where b (step_due s p w n)) is

-- What a step tells of its actor.

-- it has nothing to give back
abbrev pub KeepsPurse : ActorValue → Type 0
KeepsPurse a = (is_none a.job && not (is_empty a.purse)) ≡ false

abbrev pub TellsPart : Setting → World → ℕ → PartDue → Type 0
TellsPart s w n due = ((e : ErrandValue) × IsDueAt s w n e due) ⊎ (HasSpares (w.actors n) × (due ≡ Tree GiveBack))

abbrev pub TellsWork : Setting → World → (ℕ → List Command) → ℕ → WorkDue → Type 0
TellsWork s w rest n due =
    (of : ℕ) × (work : Work) × ((w.actors n).command ≡ doing of work) × ((w.actors n).errand ≡ None) × (work_due s w (history_in w) (is_alone s w rest n) (w.actors n) of work ≡ Some due)

abbrev pub TellsHand : Setting → World → ℕ → ℕ → Type 0
TellsHand s w n worker =
    ((w.actors n).role ≡ role.Hand worker) × ((w.actors n).errand ≡ None) × ((w.actors n).command ≡ None) × KeepsPurse (w.actors n) × (hand_kind s w worker ≡ Some kind.TakePart)

abbrev pub TellsReuse : World → ℕ → ReuseStep → Type 0
TellsReuse w n step = ((w.actors n).errand ≡ None) × ((w.actors n).command ≡ None) × KeepsPurse (w.actors n) × (reuse_due w (w.actors n) ≡ Some step)

abbrev Tells : Setting → World → (ℕ → List Command) → ℕ → DueStep → Type 0
Tells s w rest n Begins = ((w.actors n).errand ≡ None) × ((w.actors n).command ≡ None)
Tells s w rest n (Takes worker) = TellsHand s w n worker
Tells s w rest n (Reuses step) = TellsReuse w n step
Tells s w rest n (AtPart due) = TellsPart s w n due
Tells s w rest n (AtWork due) = TellsWork s w rest n due

mapped : {A : Type 0} (f : A → DueStep) (P : DueStep → Type 0) (o : Option A) → ((x : A) → o ≡ Some x → P (f x)) → IfSome (option_map f o) P
mapped f P None so = tt
mapped f P (Some x) so = so x refl

take-is : (b : Bool) (k : Kind) → (if b then Some kind.TakePart else None) ≡ Some k → (if b then Some kind.TakePart else None) ≡ Some kind.TakePart
take-is true k e = refl
take-is false k e = no-kind k e

not-so : (b : Bool) → not b ≡ true → b ≡ false
not-so true e = cc
not-so false e = refl

none-of : (o : Option JobValue) → is_none o ≡ true → o ≡ None
none-of None e = refl
none-of (Some x) e = cc

module _ (s : Setting) (w : World) (rest : ℕ → List Command) (n : ℕ) where
  module _ (errand : (w.actors n).errand ≡ None) where
    free-tells : (r : Role) → (w.actors n).role ≡ r → (w.actors n).command ≡ None → KeepsPurse (w.actors n) → IfSome (free_step s w (is_alone s w rest n) (rest n) r) (Tells s w rest n)
    free-tells (role.Hand worker) is none keeps = mapped (λ k. Takes worker) (Tells s w rest n) (hand_kind s w worker) (λ k told. (is, errand, none, keeps, take-is _ k told))
    free-tells (role.Session server) is none keeps = mapped (λ k. Begins) (Tells s w rest n) (free_kind s w (is_alone s w rest n) (rest n) (role.Session server)) (λ k told. (errand, none))
    free-tells role.Puller is none keeps = mapped (λ k. Begins) (Tells s w rest n) (free_kind s w (is_alone s w rest n) (rest n) role.Puller) (λ k told. (errand, none))
    free-tells role.Admin is none keeps = mapped (λ k. Begins) (Tells s w rest n) (free_kind s w (is_alone s w rest n) (rest n) role.Admin) (λ k told. (errand, none))

    -- it uses a cell again, or does this
    or-tells : (o : Option ReuseStep) (x : Option DueStep) → reuse_due w (w.actors n) ≡ o → (w.actors n).command ≡ None → KeepsPurse (w.actors n) → IfSome x (Tells s w rest n) → IfSome (step_or o x) (Tells s w rest n)
    or-tells None x is none keeps tells = tells
    or-tells (Some step) x is none keeps tells = (errand, none, keeps, is)

    command-tells : (o : Option OpenCommand) → (w.actors n).command ≡ o → KeepsPurse (w.actors n) → IfSome (command_step s w (is_alone s w rest n) (rest n) (w.actors n) o) (Tells s w rest n)
    command-tells None is keeps =
        or-tells (reuse_due w (w.actors n)) (free_step s w (is_alone s w rest n) (rest n) (w.actors n).role) refl is keeps (free-tells (w.actors n).role refl is keeps)
    command-tells (Some c) is keeps =
        mapped AtWork (Tells s w rest n) (work_due s w (history_in w) (is_alone s w rest n) (w.actors n) c.of c.work) (λ due told. (c.of, c.work, is, errand, told))

    purse-tells : (b : Bool) → (is_none (w.actors n).job && not (is_empty (w.actors n).purse)) ≡ b
        → IfSome (if b then Some (AtPart (Tree GiveBack)) else command_step s w (is_alone s w rest n) (rest n) (w.actors n) (w.actors n).command) (Tells s w rest n)
    purse-tells true is =
        let both = both-parts (is_none (w.actors n).job) (not (is_empty (w.actors n).purse)) is in
        inr (record { no_errand = errand; no_job = none-of (w.actors n).job both.0; some = not-so (is_empty (w.actors n).purse) both.1 }, refl)
    purse-tells false is = command-tells (w.actors n).command refl is

  actor-tells : (o : Option ErrandValue) → (w.actors n).errand ≡ o → IfSome (actor_step s w (is_alone s w rest n) (rest n) (w.actors n) o) (Tells s w rest n)
  actor-tells None is = purse-tells is (is_none (w.actors n).job && not (is_empty (w.actors n).purse)) refl
  actor-tells (Some e) is = mapped AtPart (Tells s w rest n) (part_due s w (w.actors n) e) (λ due told. inl (e, (is, told)))

  step-tells : (step : DueStep) → step_due_by s w rest n ≡ Some step → Tells s w rest n step
  step-tells step is = subst (λ o. IfSome o (Tells s w rest n)) is (actor-tells (w.actors n).errand refl)

pub at-part : (s : Setting) (w : World) (rest : ℕ → List Command) (n : ℕ) (due : PartDue) → step_due_by s w rest n ≡ Some (AtPart due) → TellsPart s w n due
at-part s w rest n due is = step-tells s w rest n (AtPart due) is

pub at-work : (s : Setting) (w : World) (rest : ℕ → List Command) (n : ℕ) (due : WorkDue) → step_due_by s w rest n ≡ Some (AtWork due) → TellsWork s w rest n due
at-work s w rest n due is = step-tells s w rest n (AtWork due) is

pub at-take : (s : Setting) (w : World) (rest : ℕ → List Command) (n worker : ℕ) → step_due_by s w rest n ≡ Some (Takes worker) → TellsHand s w n worker
at-take s w rest n worker is = step-tells s w rest n (Takes worker) is

pub at-reuse : (s : Setting) (w : World) (rest : ℕ → List Command) (n : ℕ) (step : ReuseStep) → step_due_by s w rest n ≡ Some (Reuses step) → TellsReuse w n step
at-reuse s w rest n step is = step-tells s w rest n (Reuses step) is
