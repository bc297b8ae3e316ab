-- What is known of an actor for which the beginning of its next command is due.
use Rattle.std.proofs.Common.{ℕ, ◌≡◌, ◌<◌, Bool, true, false, not, Option, Some, None, List, [], ◌∷◌, Ok, Err, get_or, refl, sym, ap, ◌∙◌, subst}
use Rattle.std.specs.{Option.IfNone, Prelude.{◌+◌, ◌&&◌, if◌then◌else◌, slice_get, Result, IsOk, IfSome}}
use Rattle.dim_hierarchy.specs.{Dimension.Dimension, declared.hierarchy.FilterFault.FilterFault, declared.hierarchy.FilterFault.TheVariants.Unknown}
use Rattle.query_router.specs.Desk.{DeskValue}
use Rattle.row_ledger.specs.{Classes.class_of, declared.class.Class.Class, declared.settings.Call.Call, declared.settings.Use.Use}
use Rattle.row_ledger.specs.declared.class.Class.TheVariants as class_is
use Rattle.script_form.specs.{declared.script.Command.Command, declared.script.Question.Question}
use Rattle.script_form.specs.declared.script.Command.TheVariants as script
use Rattle.script_run.specs.{Phases.closes, Places.{session_of, session_of_call}}
use Rattle.core_pages.specs.volap_cell.specs.{Cells.desk_in, Commands.{MayCall, MayCallAs, server_of}, Ghost.Ghost, ImageKinds.IsFree, Invariant.InvWith, Setting.{Setting, desk_cell}, Values.{ActorValue, JobValue, actor_of}, View.view, World.World, declared.actor.Actor.Actor, declared.cell.Cell.Cell, declared.kind.Kind.Kind, declared.role.Role.Role, declared.role.Role.TheVariants.{Admin, Hand, Puller, Session}}
use Rattle.core_pages.specs.volap_cell.specs.declared.kind.Kind.TheVariants as kind
use Rattle.core_pages.specs.volap_cell.proofs.Cells.States.{of-it, stands}
use Rattle.core_due.specs.Due.{desk_of, is_empty_desk}
use Rattle.core_told.specs.Told.{is_of_part}
use Rattle.script_roles.specs.Roles.{AreScriptRoles}
use Rattle.seeded_run.specs.{Commands.{IsAllowed, IsToBegin, beginning, beginning_if, may_begin}, Core.IsCore, Due.{are_known, first_kind, is_alone, next_kind}}
use Rattle.seeded_run.proofs.{Due.DueCommands.{IsAtEmpty, at-empty}, Holding.LeftAlone.{IsAtCommand, at-command, next-due, off-part}, Scripts.role-is}

-- Whose a command is.

-- what its actor is there for

abbrev pub role_of_class : Class → Role
role_of_class (class_is.Sync server) = Puller
role_of_class class = Admin

abbrev pub role_for : Command → Role
role_for (script.Insert new) = Session new.server
role_for (script.Query question) = Session question.server
role_for (script.Control called) = role_of_class (class_of called)
role_for (script.Group dim level filter) = Admin

called-at : (s : Setting) (with : Use) (class : Class) → s.servers ≡ with.servers → AreScriptRoles s → slice_get s.roles (session_of_call with class) ≡ Some (role_of_class class)
called-at s with (class_is.Sync server) same roles = ap (λ (m : ℕ). slice_get s.roles m) (sym same) ∙ roles.puller
called-at s with class_is.Settle same roles = ap (λ (m : ℕ). slice_get s.roles (m + 1)) (sym same) ∙ roles.admin
called-at s with class_is.Bare same roles = ap (λ (m : ℕ). slice_get s.roles (m + 1)) (sym same) ∙ roles.admin
called-at s with (class_is.Page subject) same roles = ap (λ (m : ℕ). slice_get s.roles (m + 1)) (sym same) ∙ roles.admin
called-at s with (class_is.Action act) same roles = ap (λ (m : ℕ). slice_get s.roles (m + 1)) (sym same) ∙ roles.admin
called-at s with (class_is.Balance most) same roles = ap (λ (m : ℕ). slice_get s.roles (m + 1)) (sym same) ∙ roles.admin

own-at : (s : Setting) (with : Use) (h : List Dimension) (c : Command) → s.servers ≡ with.servers → AreScriptRoles s → IsAllowed with h c → slice_get s.roles (session_of with c) ≡ Some (role_for c)
own-at s with h (script.Insert new) same roles allowed = roles.session new.server (subst (λ (m : ℕ). new.server < m) (sym same) allowed)
own-at s with h (script.Query question) same roles allowed = roles.session question.server (subst (λ (m : ℕ). question.server < m) (sym same) allowed.0)
own-at s with h (script.Control called) same roles allowed = called-at s with (class_of called) same roles
own-at s with h (script.Group dim level filter) same roles allowed = ap (λ (m : ℕ). slice_get s.roles (m + 1)) (sym same) ∙ roles.admin

may-call-as : (class : Class) → MayCallAs (role_of_class class) class
may-call-as (class_is.Sync server) = tt
may-call-as class_is.Settle = tt
may-call-as class_is.Bare = tt
may-call-as (class_is.Page subject) = tt
may-call-as (class_is.Action act) = tt
may-call-as (class_is.Balance most) = tt

pub may-call : (called : Call) → MayCall (role_for (script.Control called)) called
may-call called = may-call-as (class_of called)

pub no-server : (class : Class) → server_of (role_of_class class) ≡ 0
no-server (class_is.Sync server) = refl
no-server class_is.Settle = refl
no-server class_is.Bare = refl
no-server (class_is.Page subject) = refl
no-server (class_is.Action act) = refl
no-server (class_is.Balance most) = refl

no-hand : (class : Class) (worker : ℕ) → role_of_class class ≡ Hand worker → ⊥
no-hand (class_is.Sync server) worker e = cc
no-hand class_is.Settle worker e = cc
no-hand class_is.Bare worker e = cc
no-hand (class_is.Page subject) worker e = cc
no-hand (class_is.Action act) worker e = cc
no-hand (class_is.Balance most) worker e = cc

not-hand : (c : Command) (worker : ℕ) → role_for c ≡ Hand worker → ⊥
not-hand (script.Insert new) worker e = cc
not-hand (script.Query question) worker e = cc
not-hand (script.Control called) worker e = no-hand (class_of called) worker e
not-hand (script.Group dim level filter) worker e = cc

-- What is due.

begins-no-part : (k : Kind) → may_begin k ≡ true → is_of_part k ≡ false
begins-no-part kind.BeginInsert e = refl
begins-no-part kind.BeginQuery e = refl
begins-no-part kind.Note e = refl
begins-no-part k e = cc

-- an actor without a command has no job
no-job : (s : Setting) (w : World) (g : Ghost) → InvWith s (view s w) g → (n : ℕ) → (w.actors n).command ≡ None → (w.actors n).job ≡ None
no-job s w g i n none = by (w.actors n).job refl
  where
    by : (o : Option JobValue) → (w.actors n).job ≡ o → (w.actors n).job ≡ None
    by None is = is
    by (Some j) is = (let c = i.working.command n j is in let clash : None ≡ Some c.0 = sym none ∙ c.1 in absurd (cc))

first-due : (h : List Dimension) (alone : Bool) (desk : Option DeskValue) (c : Command) (more : List Command) (k : Kind) → next_kind h alone desk (c ∷ more) ≡ Some k → first_kind desk c (are_known h c) ≡ Some k
first-due h alone desk c more k e = by (closes c && not alone) e
  where
    by : (b : Bool) → (if b then None else first_kind desk c (are_known h c)) ≡ Some k → first_kind desk c (are_known h c) ≡ Some k
    by true e = (let none : None ≡ Some k = e in absurd (cc))
    by false e = e

kind-same : (k x : Kind) → ◌≡◌ {A = Option Kind} (Some k) (Some x) → k ≡ x
kind-same k x e = cc

-- a command that names what isn't known ends with a note
pub ends-noted : (c : Command) → beginning_if c false ≡ kind.Note
ends-noted (script.Insert new) = refl
ends-noted (script.Query question) = refl
ends-noted (script.Control called) = refl
ends-noted (script.Group dim level filter) = refl

first-as : (desk : Option DeskValue) (c : Command) (known : Bool) (k : Kind) → first_kind desk c known ≡ Some k → k ≡ beginning_if c known
first-as desk (script.Insert new) true k e = sym (kind-same kind.BeginInsert k e)
first-as desk (script.Insert new) false k e = sym (kind-same kind.Note k e)
first-as desk (script.Query question) true k e = by (is_empty_desk desk) e
  where
    by : (b : Bool) → (if b then Some kind.BeginQuery else None) ≡ Some k → k ≡ kind.BeginQuery
    by true e = sym (kind-same kind.BeginQuery k e)
    by false e = cc
first-as desk (script.Query question) false k e = sym (kind-same kind.Note k e)
first-as desk (script.Control called) known k e = sym (kind-same kind.Note k e)
first-as desk (script.Group dim level filter) known k e = sym (kind-same kind.Note k e)

-- The actor has nothing to do and is there for the command; where that is a query of which all is known, the desk is empty.
pub record IsAtNext (s : Setting) (w : World) (n : ℕ) (c : Command) : Type 0 where
  pub free : IsFree (w.actors n)
  pub purse : (w.actors n).purse ≡ []
  pub role : (w.actors n).role ≡ role_for c
  pub empty : (question : Question) → c ≡ script.Query question → are_known s.hierarchy c ≡ true → (desk_in (w.cells (desk_cell s question.server))).op ≡ None

module _ (h : List Dimension) (with : Use) (cells : List (Option Cell)) (actors : List (Option Actor)) (s : Setting) (w : World) (core : IsCore h with cells actors s w) (n : ℕ) (c : Command)
    (b : IsToBegin h with cells actors n c) where
  abbrev rest : ℕ → List Command
  rest = (b.next s w core).rest

  at : IsAtCommand s w (b.next s w core).rest n b.kind_is
  at = at-command s w (b.next s w core).rest n b.kind_is (b.next s w core).due_is (off-part (w.actors n).errand b.kind_is (begins-no-part b.kind_is b.begins))

  none : (w.actors n).command ≡ None
  none =
      let k = stands (get_or actors n None) (λ x. actor_of x ≡ w.actors n) (core.is.actor n b.within) in
      ap (λ (a : ActorValue). a.command) (sym k.2) ∙ of-it (get_or actors n None) (λ a. (actor_of a).command ≡ None) k.0 b.free k.1

  job : (w.actors n).job ≡ None
  job = no-job s w core.inv.ghost_of core.inv.holds n none

  role : (w.actors n).role ≡ role_for c
  role = role-is s w core.inv.ghost_of core.inv.holds core.roles n (role_for c) (ap (λ (m : ℕ). slice_get s.roles m) (sym b.own) ∙ own-at s with h c core.servers core.roles b.allowed)

  first : first_kind (desk_of s w (w.actors n).role) c (are_known s.hierarchy c) ≡ Some b.kind_is
  first =
      let next = next-due s w rest n b.kind_is at none (λ worker is. not-hand c worker (sym role ∙ is)) in
      first-due s.hierarchy (is_alone s w rest n) (desk_of s w (w.actors n).role) c (b.next s w core).more b.kind_is
      (ap (next_kind s.hierarchy (is_alone s w rest n) (desk_of s w (w.actors n).role)) (sym (b.next s w core).next) ∙ next)

  -- the command begins by that kind, or ends
  pub beginning-is : b.kind_is ≡ beginning s.hierarchy c
  beginning-is = first-as (desk_of s w (w.actors n).role) c (are_known s.hierarchy c) b.kind_is first

  empty : (question : Question) → c ≡ script.Query question → are_known s.hierarchy c ≡ true → (desk_in (w.cells (desk_cell s question.server))).op ≡ None
  empty question is known =
      let due : first_kind (desk_of s w (w.actors n).role) (script.Query question) true ≡ Some b.kind_is =
      ap (λ (x : Command). first_kind (desk_of s w (w.actors n).role) x true) (sym is) ∙ ap (first_kind (desk_of s w (w.actors n).role) c) (sym known) ∙ first in
      let found : IsAtEmpty s w (w.actors n).role = (at-empty s w (w.actors n).role b.kind_is kind.BeginQuery due).0 in
      let same : Session found.server ≡ Session question.server = sym found.role ∙ role ∙ ap role_for is in
      let server : found.server ≡ question.server = cc in
      subst (λ (x : ℕ). (desk_in (w.cells (desk_cell s x))).op ≡ None) server found.empty

  pub at-next : IsAtNext s w n c
  at-next = record { free = record { command = none; errand = at.errand; job = job }; purse = at.purse job; role = role; empty = empty }

-- Names.

-- the first dimension in which a name isn't known, from what a look-up answers

pub unknown-name : {A : Type 0} (first : Option ℕ) (dim : ℕ) (r : Result A ℕ) → r ≡ Err dim → IfSome first (λ d. r ≡ Err d) → IfNone first (IsOk r) → first ≡ Some dim
unknown-name None dim r is unknown known = let never = rw is at known in cc
unknown-name (Some d) dim r is unknown known = cc

-- where it answers with a coordinate, there is none
pub known-names : {A : Type 0} (first : Option ℕ) (x : A) (r : Result A ℕ) → r ≡ Ok x → IfSome first (λ d. r ≡ Err d) → first ≡ None
known-names None x r is unknown = refl
known-names (Some d) x r is unknown = cc

-- where it answers with a filter, there is none
pub known-picks : {A : Type 0} (first : Option ℕ) (x : A) (r : Result A FilterFault) → r ≡ Ok x → IfSome first (λ d. r ≡ Err (Unknown d)) → first ≡ None
known-picks None x r is unknown = refl
known-picks (Some d) x r is unknown = cc
