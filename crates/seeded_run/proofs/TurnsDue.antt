-- Where no kind of step is due for an actor that is at no part, it does nothing. That is so in any state, whether or not it meets the
-- invariant.
use Rattle.std.proofs.Common.{◌≡◌, ℕ, Bool, true, false, not, is_none, ◌&&◌, ◌+◌, ◌==◌, List, length, Option, Some, None, option_map, refl, sym, ap}
use Rattle.std.specs.{List.list_any, Option.option_map_or, Prelude.if◌then◌else◌}
use Rattle.core_due.specs.core_steps.specs.declared.books.BookStep.{BookStep}
use Rattle.core_due.specs.core_steps.specs.declared.books.BookStep.TheVariants as book
use Rattle.core_due.specs.core_steps.specs.declared.{reuses.ReuseStep.ReuseStep, trees.TreeStep.TheVariants.GiveBack}
use Rattle.query_router.specs.{Desk.{is_waiting, verdict_of}, declared.part.Part.Part, declared.part.Verdict.Verdict}
use Rattle.query_router.specs.declared.part.Verdict.TheVariants as verdict
use Rattle.row_ledger.specs.{declared.class.Subject.Subject, declared.event.Event.Event}
use Rattle.script_form.specs.declared.script.Command.{Command}
use Rattle.core_pages.specs.volap_cell.specs.{Cells.{desk_in, ledger_in}, Setting.{Setting, desk_cell, image_cell, ledger_cell}, Values.ActorValue, World.World, declared.command.Command.Command as OpenCommand, declared.command.Work.Work, declared.kind.Kind.Kind, declared.role.Role.Role}
use Rattle.core_pages.specs.volap_cell.specs.declared.command.Work.TheVariants as work_is
use Rattle.core_pages.specs.volap_cell.specs.declared.kind.Kind.TheVariants as kind
use Rattle.core_pages.specs.volap_cell.specs.declared.role.Role.TheVariants as role
use Rattle.core_due.specs.{Due.{desk_of, is_empty, is_empty_desk, kind_at_empty, kind_by_verdict, parts_kind, there_kind, work_kind}, Reuses.reuse_due, Works.{insert_due, page_due, query_due, route_due, verdict_due, work_due}, declared.parts.PartDue.TheVariants.Tree, declared.works.WorkDue.WorkDue}
use Rattle.core_due.specs.declared.works.WorkDue.TheVariants.{Books, Shows, Takes}
use Rattle.seeded_run.specs.{Due.{command_kind, free_kind, kind_or, purse_kind}, DueSteps.{command_step, free_step, purse_step, step_or, step_where}, declared.turn.DueStep.DueStep}
use Rattle.seeded_run.specs.declared.turn.DueStep.TheVariants.{AtPart, AtWork, Begins}

some-none : {X : Type 0} (k : Kind) → ◌≡◌ {A = Option Kind} (Some k) None → X
some-none k e = cc

if-none : (b : Bool) (k : Kind) (x : WorkDue) → (if b then Some k else None) ≡ None → (if b then Some x else None) ≡ None
if-none true k x e = some-none k e
if-none false k x e = refl

-- Commands that are open.

verdict-none : (desk image : ℕ) (failed : BookStep) (ps : List Part) (v : Option Verdict) → kind_by_verdict ps v ≡ None → verdict_due desk image failed ps v ≡ None
verdict-none desk image failed ps None e = if-none (list_any is_waiting ps) kind.TakePart (Takes desk) e
verdict-none desk image failed ps (Some verdict.NoMemory) e = some-none kind.Note e
verdict-none desk image failed ps (Some verdict.Placed) e = some-none kind.Ack e
verdict-none desk image failed ps (Some (verdict.Sum answer)) e = some-none kind.Answer e

page-none : (history : List Event) (alone : Bool) (of : ℕ) (subject : Subject) (stands shown : Bool) → there_kind history alone of stands shown ≡ None → page_due history alone of subject stands shown ≡ None
page-none history alone of subject false shown e = some-none kind.Note e
page-none history alone of subject true true e = some-none kind.Note e
page-none history alone of subject true false e = if-none (alone && (length history == of + 1)) kind.Note (Shows subject) e

module _ (s : Setting) (w : World) where
  route-none : (r : Role) → kind_at_empty (desk_of s w r) kind.Route ≡ None → route_due s w r ≡ None
  route-none (role.Session x) e = if-none (is_empty_desk (Some (desk_in (w.cells (desk_cell s x))))) kind.Route (Books (book.Route (desk_cell s x) (image_cell x))) e
  route-none (role.Hand worker) e = refl
  route-none role.Puller e = refl
  route-none role.Admin e = refl

  insert-none : (r : Role) → parts_kind (desk_of s w r) ≡ None → insert_due s w r ≡ None
  insert-none (role.Session x) e =
      let ps = (desk_in (w.cells (desk_cell s x))).parts in
      verdict-none (desk_cell s x) (image_cell x) (book.FailRouted (desk_cell s x) (image_cell x)) ps (verdict_of ps) e
  insert-none (role.Hand worker) e = refl
  insert-none role.Puller e = refl
  insert-none role.Admin e = refl

  query-none : (r : Role) → parts_kind (desk_of s w r) ≡ None → query_due s w r ≡ None
  query-none (role.Session x) e =
      let ps = (desk_in (w.cells (desk_cell s x))).parts in
      verdict-none (desk_cell s x) (image_cell x) (book.FailQuery (desk_cell s x)) ps (verdict_of ps) e
  query-none (role.Hand worker) e = refl
  query-none role.Puller e = refl
  query-none role.Admin e = refl

  work-none : (history : List Event) (alone : Bool) (a : ActorValue) (of : ℕ) (work : Work) → work_kind s history alone (desk_of s w a.role) a of work ≡ None → work_due s w history alone a of work ≡ None
  work-none history alone a of (work_is.Insert row false) e = route-none a.role e
  work-none history alone a of (work_is.Insert row true) e = insert-none a.role e
  work-none history alone a of work_is.Query e = query-none a.role e
  work-none history alone a of (work_is.Sync server pulled) e = some-none _ e
  work-none history alone a of (work_is.Settle pulls) e = some-none _ e
  work-none history alone a of work_is.Bare e = some-none kind.Note e
  work-none history alone a of (work_is.Page subject stands shown) e = page-none history alone of subject stands shown e
  work-none history alone a of (work_is.Action x) e = some-none _ e
  work-none history alone a of (work_is.Balance b) e = some-none _ e

  -- All of it.

  module _ (alone : Bool) (rest : List Command) where
    free-none : (r : Role) → free_kind s w alone rest r ≡ None → free_step s w alone rest r ≡ None
    free-none (role.Hand worker) e = ap (option_map _) e
    free-none (role.Session server) e = ap (option_map (λ k. Begins)) e
    free-none role.Puller e = ap (option_map (λ k. Begins)) e
    free-none role.Admin e = ap (option_map (λ k. Begins)) e

    or-none : (o : Option ReuseStep) (k : Option Kind) (x : Option DueStep) → (k ≡ None → x ≡ None) → kind_or o k ≡ None → step_or o x ≡ None
    or-none None k x none e = none e
    or-none (Some step) k x none e = some-none kind.Reuse e

    command-none : (a : ActorValue) (o : Option OpenCommand) → command_kind s w alone rest a o ≡ None → command_step s w alone rest a o ≡ None
    command-none a None e = or-none (reuse_due w a) (free_kind s w alone rest a.role) (free_step s w alone rest a.role) (free-none a.role) e
    command-none a (Some c) e = ap (option_map AtWork) (work-none (ledger_in (w.cells ledger_cell)).history alone a c.of c.work e)

    purse-none : (a : ActorValue) → purse_kind s w alone rest a ≡ None → purse_step s w alone rest a ≡ None
    purse-none a = by (is_none a.job && not (is_empty a.purse))
      where
        by : (b : Bool) → (if b then Some kind.Refill else command_kind s w alone rest a a.command) ≡ None → (if b then Some (AtPart (Tree GiveBack)) else command_step s w alone rest a a.command) ≡ None
        by true e = some-none kind.Refill e
        by false e = command-none a a.command e

    -- so what it does is done wherever a kind is due, which waits for no block
    pub at-no-part : (a : ActorValue) → step_where (option_map_or (λ k. true) (purse_kind s w alone rest a) false) (purse_step s w alone rest a) ≡ purse_step s w alone rest a
    at-no-part a = by (purse_kind s w alone rest a) (purse-none a)
      where
        by : (o : Option Kind) → (o ≡ None → purse_step s w alone rest a ≡ None) → step_where (option_map_or (λ k. true) o false) (purse_step s w alone rest a) ≡ purse_step s w alone rest a
        by None none = sym (none refl)
        by (Some k) none = refl
