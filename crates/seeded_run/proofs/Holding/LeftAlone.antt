-- Who is alone, and for whom something is due then.
use Rattle.std.proofs.{Common.{◌≡◌, ◌≢◌, ◌∙◌, ℕ, zero, suc, ◌<◌, ◌≤◌, ◌⊎◌, inl, inr, Bool, true, false, List, [], ◌∷◌, Option, Some, None, refl, sym, ap, arith, not}, lemmas.Bool.{eq-eqb, ne_eqb}}
use Rattle.std.specs.{List.list_any, Prelude.{◌==◌, ◌&&◌, ◌||◌, is_none, is_some, if◌then◌else◌}}
use Rattle.dc_node.specs.Block.{is_leaf}
use Rattle.mapping_table.specs.declared.place.Where.{Where}
use Rattle.mapping_table.specs.declared.place.Where.TheVariants as where_is
use Rattle.query_router.specs.{Desk.waits_for, declared.part.Part.Part}
use Rattle.script_form.specs.declared.script.Command.{Command}
use Rattle.script_run.specs.Phases.{closes}
use Rattle.core_pages.specs.volap_cell.specs.{Cells.{block_in, desk_in}, Commands.once_shown, Desking.is_on_desk, Ghost.Ghost, Invariant.InvWith, Setting.{Setting, actor_count, desk_cell}, Sights.IsIdle, Values.{ActorValue, ErrandValue, TaskValue, OfRow, Unread, Read}, View.view, World.World, declared.command.Command.Command as OpenCommand, declared.command.Work.Work, declared.errand.Way.Way, declared.kind.Kind.Kind, declared.role.Role.Role}
use Rattle.core_pages.specs.volap_cell.specs.declared.command.Work.TheVariants as work_is
use Rattle.core_pages.specs.volap_cell.specs.declared.errand.Way.TheVariants as way
use Rattle.core_pages.specs.volap_cell.specs.declared.kind.Kind.TheVariants as kind
use Rattle.core_pages.specs.volap_cell.specs.declared.role.Role.TheVariants as role
use Rattle.seeded_run.proofs.{Due.Dues.all_below-at, Phases.Movers.all-from}
use Rattle.core_due.specs.{Due.{any_below, carry_kind, desk_of, does_nothing, hand_kind, is_empty, kind_by, led_to, may_enter, placed_kind, read_kind, row_kind, task_kind}, Reuses.reuse_due}
use Rattle.core_due.specs.core_steps.specs.declared.reuses.ReuseStep.{ReuseStep}
use Rattle.core_told.specs.Told.{is_closing_work, is_of_part, is_plain}
use Rattle.seeded_run.specs.{Due.{actor_kind, are_known, command_kind, due_by, first_kind, free_kind, is_alone, kind_or, next_kind}, Steps.is_for_part}

-- Booleans.

pub both-parts : (a b : Bool) → (a && b) ≡ true → (a ≡ true) × (b ≡ true)
both-parts true b e = (refl, e)
both-parts false b e = cc

pub and-both : (a b : Bool) → a ≡ true → b ≡ true → (a && b) ≡ true
and-both true b x y = y
and-both false b x y = cc

pub left-out : (a b : Bool) → (a || b) ≡ true → a ≡ false → b ≡ true
left-out true b e x = cc
left-out false b e x = e

pub true-or : (a b : Bool) → a ≡ true → (a || b) ≡ true
true-or true b x = refl
true-or false b x = cc

pub or-true : (a b : Bool) → b ≡ true → (a || b) ≡ true
or-true true b x = refl
or-true false b x = x

pub apart : {X : Type 0} (b : Bool) → b ≡ true → b ≡ false → X
apart b x y = cc

pub same-or-not : (a b : ℕ) → (a ≡ b) ⊎ (a ≢ b)
same-or-not a b = grind arith

-- Idle actors.

none-of : {A : Type 0} (o : Option A) → is_none o ≡ true → o ≡ None
none-of None e = refl
none-of (Some x) e = cc

pub empty-of : {A : Type 0} (xs : List A) → is_empty xs ≡ true → xs ≡ []
empty-of [] e = refl
empty-of (x ∷ xs) e = cc

not-so : (b : Bool) → not b ≡ true → b ≡ false
not-so true e = cc
not-so false e = refl

pub is-idle : (a : ActorValue) → does_nothing a ≡ true → IsIdle a
is-idle a e =
    let b = both-parts (is_none a.command && is_none a.errand && is_none a.job && is_empty a.purse) (not a.counted) e in
    let c = both-parts (is_none a.command && is_none a.errand && is_none a.job) (is_empty a.purse) b.0 in
    let d = both-parts (is_none a.command && is_none a.errand) (is_none a.job) c.0 in
    let f = both-parts (is_none a.command) (is_none a.errand) d.0 in
    record { command = none-of a.command f.0; errand = none-of a.errand f.1; job = none-of a.job d.1; purse = empty-of a.purse c.1; counted = not-so a.counted b.1 }

pub does-nothing : (a : ActorValue) → IsIdle a → does_nothing a ≡ true
does-nothing a idle = rw idle.command (rw idle.errand (rw idle.job (rw idle.purse (rw idle.counted refl))))

-- Being alone.

pub alone-parts : (s : Setting) (w : World) (rest : ℕ → List Command) (n a : ℕ) → is_alone s w rest n ≡ true → a < actor_count s → a ≢ n → IsIdle (w.actors a) × (rest a ≡ [])
alone-parts s w rest n a alone low differs =
    let test = left-out (a == n) (does_nothing (w.actors a) && is_empty (rest a)) (all_below-at (actor_count s) _ a alone low) (ne_eqb a n differs) in
    let parts = both-parts (does_nothing (w.actors a)) (is_empty (rest a)) test in
    (is-idle (w.actors a) parts.0, empty-of (rest a) parts.1)

pub alone-from : (s : Setting) (w : World) (rest : ℕ → List Command) (n : ℕ) → ((a : ℕ) → a < actor_count s → a ≢ n → IsIdle (w.actors a) × (rest a ≡ [])) → is_alone s w rest n ≡ true
alone-from s w rest n each = all-from (actor_count s) _ (λ a low. elim (same-or-not a n) [
  | inl is ↦ true-or (a == n) (does_nothing (w.actors a) && is_empty (rest a)) (eq-eqb a n is)
  | inr differs ↦
      let here = each a low differs in
      or-true (a == n) (does_nothing (w.actors a) && is_empty (rest a))
      (and-both (does_nothing (w.actors a)) (is_empty (rest a)) (does-nothing (w.actors a) here.0) (ap is_empty here.1))
])

-- What is due.

-- Where an actor is at a part, or has spares without a job, its step goes on with that.

kind-by-part : (led : Option Where) (at_gate : ℕ → Kind) (k : Kind) → ((g : ℕ) → is_of_part (at_gate g) ≡ true) → kind_by led at_gate ≡ Some k → is_of_part k ≡ true
kind-by-part None at_gate k part is = cc
kind-by-part (Some (where_is.Gate gate)) at_gate k part is = let same : at_gate gate ≡ k = cc in ap is_of_part (sym same) ∙ part gate
kind-by-part (Some (where_is.Split plane left right)) at_gate k part is = let same : kind.Expand ≡ k = cc in ap is_of_part (sym same)
kind-by-part (Some (where_is.Moved to)) at_gate k part is = let same : kind.Forward ≡ k = cc in ap is_of_part (sym same)

if-part : (b : Bool) (x y : Kind) → is_of_part x ≡ true → is_of_part y ≡ true → is_of_part (if b then x else y) ≡ true
if-part true x y p q = p
if-part false x y p q = q

row-part : (w : World) (led : Option Where) (a : ActorValue) (on : Way) (k : Kind) → row_kind w led a on ≡ Some k → is_of_part k ≡ true
row-part w led a (way.Before None filled) k is = kind-by-part led _ k (λ g. refl) is
row-part w led a (way.Before (Some height) false) k is = kind-by-part led _ k (λ g. refl) is
row-part w led a (way.Before (Some height) true) k is = kind-by-part led _ k (λ g. if-part (may_enter (w.cells g) a) kind.EnterTree kind.EnterQueue refl refl) is
row-part w led a (way.Carried gate block) k is = let same : carry_kind (block_in (w.cells block)) ≡ k = cc in ap is_of_part (sym same) ∙ if-part (is_leaf (block_in (w.cells block)).body) kind.PutInLeaf kind.Down refl refl
row-part w led a (way.Put gate) k is = let same : kind.LeaveTree ≡ k = cc in ap is_of_part (sym same)
row-part w led a way.Placed k is = let same : placed_kind a ≡ k = cc in ap is_of_part (sym same) ∙ if-part (is_empty a.purse) kind.FinishPart kind.Refill refl refl

pub task-part : (w : World) (led : Option Where) (a : ActorValue) (t : TaskValue) (k : Kind) → task_kind w led a t ≡ Some k → is_of_part k ≡ true
task-part w led a (OfRow r) k is = row-part w led a r.way k is
task-part w led a (Unread f) k is = kind-by-part led _ k (λ g. refl) is
task-part w led a (Read r) k is = let same : read_kind r.items ≡ k = cc in ap is_of_part (sym same) ∙ if-part (is_empty r.items) kind.FinishPart kind.BlockVisit refl refl

-- of an actor whose next step isn't such a one; nor does it use a cell again, if it has no command
pub record IsAtCommand (s : Setting) (w : World) (rest : ℕ → List Command) (n : ℕ) (k : Kind) : Type 0 where
  pub errand : (w.actors n).errand ≡ None
  pub purse : (w.actors n).job ≡ None → (w.actors n).purse ≡ []
  pub due : command_kind s w (is_alone s w rest n) (rest n) (w.actors n) (w.actors n).command ≡ Some k
  pub free : (w.actors n).command ≡ None → free_kind s w (is_alone s w rest n) (rest n) (w.actors n).role ≡ Some k

-- what is due is what comes first, or what comes next
pub due-or-next : (o : Option ReuseStep) (next : Option Kind) (k : Kind) → kind_or o next ≡ Some k → (k ≡ kind.Reuse) ⊎ (next ≡ Some k)
due-or-next None next k is = inr is
due-or-next (Some step) next k is = (let first : Some kind.Reuse ≡ Some k = is in let same : kind.Reuse ≡ k = cc in inl (sym same))

-- whoever is at a part goes on with that by each kind of a part; and by all others nobody does

at-part-for : (e : ErrandValue) (k : Kind) → is_of_part k ≡ true → is_for_part (Some e) k ≡ true
at-part-for e kind.LookUp on = refl
at-part-for e k on = on

pub off-part : (errand : Option ErrandValue) (k : Kind) → is_of_part k ≡ false → is_for_part errand k ≡ false
off-part errand kind.LookUp off = cc
off-part errand k off = off

pub at-command : (s : Setting) (w : World) (rest : ℕ → List Command) (n : ℕ) (k : Kind) → due_by s w rest n ≡ Some k → is_for_part (w.actors n).errand k ≡ false → IsAtCommand s w rest n k
at-command s w rest n k due other = by-errand (w.actors n).errand refl
  where
    by-purse : (w.actors n).errand ≡ None → (b : Bool) → (is_none (w.actors n).job && not (is_empty (w.actors n).purse)) ≡ b → IsAtCommand s w rest n k
    by-purse none true is =
        let refill : Some kind.Refill ≡ Some k = sym (ap (actor_kind s w (is_alone s w rest n) (rest n) (w.actors n)) none
        ∙ ap (λ b. if b then Some kind.Refill else command_kind s w (is_alone s w rest n) (rest n) (w.actors n) (w.actors n).command) is) ∙ due in
        let same : kind.Refill ≡ k = cc in
        apart (is_for_part (w.actors n).errand k) (ap (is_for_part (w.actors n).errand) (sym same)) other
    by-purse none false is = record { errand = none; purse = λ job. empty (is_empty (w.actors n).purse) refl job is; due = of_command; free = of_free }
      where
        of_command : command_kind s w (is_alone s w rest n) (rest n) (w.actors n) (w.actors n).command ≡ Some k
        of_command = sym (ap (actor_kind s w (is_alone s w rest n) (rest n) (w.actors n)) none
            ∙ ap (λ b. if b then Some kind.Refill else command_kind s w (is_alone s w rest n) (rest n) (w.actors n) (w.actors n).command) is) ∙ due

        of_free : (w.actors n).command ≡ None → free_kind s w (is_alone s w rest n) (rest n) (w.actors n).role ≡ Some k
        of_free command =
            elim (due-or-next (reuse_due w (w.actors n)) (free_kind s w (is_alone s w rest n) (rest n) (w.actors n).role) k
            (sym (ap (command_kind s w (is_alone s w rest n) (rest n) (w.actors n)) command) ∙ of_command)) [
              | inl reuse ↦ apart (is_for_part (w.actors n).errand k) (ap (is_for_part (w.actors n).errand) reuse) other
              | inr next ↦ next
            ]

        empty : (b : Bool) → is_empty (w.actors n).purse ≡ b → (w.actors n).job ≡ None → (is_none (w.actors n).job && not (is_empty (w.actors n).purse)) ≡ false → (w.actors n).purse ≡ []
        empty true at job is = empty-of (w.actors n).purse at
        empty false at job is = apart (is_none (w.actors n).job && not (is_empty (w.actors n).purse)) (rw job (rw at refl)) is

    by-errand : (o : Option ErrandValue) → (w.actors n).errand ≡ o → IsAtCommand s w rest n k
    by-errand (Some e) is =
        let part = task-part w (led_to s w e) (w.actors n) e.task k (sym (ap (actor_kind s w (is_alone s w rest n) (rest n) (w.actors n)) is) ∙ due) in
        apart (is_for_part (w.actors n).errand k) (ap (λ (o : Option ErrandValue). is_for_part o k) is ∙ at-part-for e k part) other
    by-errand None is = by-purse is (is_none (w.actors n).job && not (is_empty (w.actors n).purse)) refl

-- Of an actor that is no hand and has no command, it is its next command; one that closes its phase is due where it is alone.
pub next-due : (s : Setting) (w : World) (rest : ℕ → List Command) (n : ℕ) (k : Kind) → IsAtCommand s w rest n k → (w.actors n).command ≡ None → ((worker : ℕ) → (w.actors n).role ≢ role.Hand worker)
    → next_kind s.hierarchy (is_alone s w rest n) (desk_of s w (w.actors n).role) (rest n) ≡ Some k
next-due s w rest n k at none hand = by (w.actors n).role refl
  where
    by : (r : Role) → (w.actors n).role ≡ r → next_kind s.hierarchy (is_alone s w rest n) (desk_of s w (w.actors n).role) (rest n) ≡ Some k
    by (role.Hand worker) is = absurd (hand worker is)
    by (role.Session server) is = ap (λ r. next_kind s.hierarchy (is_alone s w rest n) (desk_of s w r) (rest n)) is ∙ sym (ap (free_kind s w (is_alone s w rest n) (rest n)) is) ∙ at.free none
    by role.Puller is = ap (λ r. next_kind s.hierarchy (is_alone s w rest n) (desk_of s w r) (rest n)) is ∙ sym (ap (free_kind s w (is_alone s w rest n) (rest n)) is) ∙ at.free none
    by role.Admin is = ap (λ r. next_kind s.hierarchy (is_alone s w rest n) (desk_of s w r) (rest n)) is ∙ sym (ap (free_kind s w (is_alone s w rest n) (rest n)) is) ∙ at.free none

pub closing-alone : (h : _) (alone : Bool) (desk : _) (c : Command) (more cs : List Command) (k : Kind) → next_kind h alone desk cs ≡ Some k → cs ≡ c ∷ more → closes c ≡ true → alone ≡ true
closing-alone h true desk c more cs k due is closing = refl
closing-alone h false desk c more cs k due is closing =
    let none : next_kind h false desk cs ≡ None = ap (next_kind h false desk) is ∙ ap (λ b. if b && true then None else first_kind desk c (are_known h c)) closing in
    cc

-- A hand has something to do only where somebody's insert or query is on a desk.

any-some : (n : ℕ) (test : ℕ → Bool) → any_below n test ≡ true → (a : ℕ) × (a < n) × (test a ≡ true)
any-some zero test e = cc
any-some (suc n) test e = by (λ more. any-some n test more) (test n) refl e
  where
    by : (any_below n test ≡ true → (a : ℕ) × (a < n) × (test a ≡ true)) → (b : Bool) → test n ≡ b → (b || any_below n test) ≡ true → (a : ℕ) × (a < suc n) × (test a ≡ true)
    by go true is e = (n, omega arith, is)
    by go false is e = let found = go e in (found.0, omega (arith, found.1), found.2)

none-any : (test : Part → Bool) (ps : List Part) → ps ≡ [] → list_any test ps ≡ true → ⊥
none-any test ps is e = let none : list_any test [] ≡ true = ap (list_any test) (sym is) ∙ e in cc

module _ (s : Setting) (w : World) (g : Ghost) (i : InvWith s (view s w) g) where
  on-desk : (worker : ℕ) (k : Kind) → hand_kind s w worker ≡ Some k → (a : ℕ) × (c : OpenCommand) × ((w.actors a).command ≡ Some c) × (is_on_desk c.work ≡ true)
  on-desk worker k due = by-any (any_below s.servers (λ server. list_any (waits_for worker) (desk_in (w.cells (desk_cell s server))).parts)) refl due
    where
      by-op : (server : ℕ) → server < s.servers → list_any (waits_for worker) ((view s w).desks server).parts ≡ true → (o : Option ℕ) → ((view s w).desks server).op ≡ o
          → (a : ℕ) × (c : OpenCommand) × ((w.actors a).command ≡ Some c) × (is_on_desk c.work ≡ true)
      by-op server low any None is = absurd (none-any (waits_for worker) ((view s w).desks server).parts (i.desking.empty server low is) any)
      by-op server low any (Some of) is = let who = i.desking.whose server of low is in (who.0, who.1, who.2, who.5)

      by-any : (b : Bool) → any_below s.servers (λ server. list_any (waits_for worker) (desk_in (w.cells (desk_cell s server))).parts) ≡ b → (if b then Some kind.TakePart else None) ≡ Some k
          → (a : ℕ) × (c : OpenCommand) × ((w.actors a).command ≡ Some c) × (is_on_desk c.work ≡ true)
      by-any false is e = cc
      by-any true is e = let found = any-some s.servers _ is in by-op found.0 found.1 found.2 ((view s w).desks found.0).op refl

  -- beyond the last actor nobody has a command
  pub within-of : (a : ℕ) (c : OpenCommand) → (w.actors a).command ≡ Some c → a < actor_count s
  within-of a c at = elim (low-or-high a (actor_count s)) [ inl low ↦ low | inr high ↦ some-none (w.actors a).command c at (i.numbering.nobody a high).2 ]
    where
      low-or-high : (a n : ℕ) → (a < n) ⊎ (n ≤ a)
      low-or-high a n = grind arith

      some-none : {X : Type 0} (o : Option OpenCommand) (c : OpenCommand) → o ≡ Some c → o ≡ None → X
      some-none o c x y = cc

  -- While an actor with a command that stands on no desk is alone, nothing is due for another one, but that it uses a cell again.
  pub stuck : (rest : ℕ → List Command) (a n : ℕ) (c : OpenCommand) (k : Kind) → (w.actors a).command ≡ Some c → is_on_desk c.work ≡ false → is_alone s w rest a ≡ true → n < actor_count s → n ≢ a
      → due_by s w rest n ≡ Some k → k ≡ kind.Reuse
  stuck rest a n c k command off alone low differs due =
      elim (due-or-next (reuse_due w (w.actors n)) (free_kind s w (is_alone s w rest n) (rest n) (w.actors n).role) k of_command) [
        | inl reuse ↦ reuse
        | inr next ↦ absurd (by-role next (w.actors n).role refl)
      ]
    where
      idle : IsIdle (w.actors n) × (rest n ≡ [])
      idle = alone-parts s w rest a n alone low differs

      of_command : command_kind s w (is_alone s w rest n) (rest n) (w.actors n) None ≡ Some k
      of_command = sym (ap (actor_kind s w (is_alone s w rest n) (rest n) (w.actors n)) idle.0.errand
          ∙ ap (λ b. if b then Some kind.Refill else command_kind s w (is_alone s w rest n) (rest n) (w.actors n) (w.actors n).command) quiet
          ∙ ap (command_kind s w (is_alone s w rest n) (rest n) (w.actors n)) idle.0.command) ∙ due
        where
          quiet : (is_none (w.actors n).job && not (is_empty (w.actors n).purse)) ≡ false
          quiet = rw idle.0.job (rw idle.0.purse refl)

      nothing : (desk : _) → next_kind s.hierarchy (is_alone s w rest n) desk (rest n) ≡ Some k → ⊥
      nothing desk e = let none : None ≡ Some k = sym (ap (next_kind s.hierarchy (is_alone s w rest n) desk) idle.1) ∙ e in cc

      by-role : free_kind s w (is_alone s w rest n) (rest n) (w.actors n).role ≡ Some k → (r : Role) → (w.actors n).role ≡ r → ⊥
      by-role free (role.Hand worker) is =
          let found = on-desk worker k (sym (ap (free_kind s w (is_alone s w rest n) (rest n)) is) ∙ free) in
          elim (same-or-not found.0 a) [
            | inl same ↦ both (w.actors a).command c found.1 command (ap (λ x. (w.actors x).command) (sym same) ∙ found.2) found.3 off
            | inr other ↦ none (w.actors found.0).command found.1 (alone-parts s w rest a found.0 alone (within-of found.0 found.1 found.2) other).0.command found.2
          ]
        where
          both : (o : Option OpenCommand) (e d : OpenCommand) → o ≡ Some e → o ≡ Some d → is_on_desk d.work ≡ true → is_on_desk e.work ≡ false → ⊥
          both o e d x y on out = let same : d ≡ e = cc in apart (is_on_desk e.work) (ap (λ (z : OpenCommand). is_on_desk z.work) (sym same) ∙ on) out

          none : (o : Option OpenCommand) (d : OpenCommand) → o ≡ None → o ≡ Some d → ⊥
          none o d x y = cc
      by-role free (role.Session server) is = nothing (desk_of s w (w.actors n).role) (ap (λ r. next_kind s.hierarchy (is_alone s w rest n) (desk_of s w r) (rest n)) is ∙ sym (ap (free_kind s w (is_alone s w rest n) (rest n)) is) ∙ free)
      by-role free role.Puller is = nothing (desk_of s w (w.actors n).role) (ap (λ r. next_kind s.hierarchy (is_alone s w rest n) (desk_of s w r) (rest n)) is ∙ sym (ap (free_kind s w (is_alone s w rest n) (rest n)) is) ∙ free)
      by-role free role.Admin is = nothing (desk_of s w (w.actors n).role) (ap (λ r. next_kind s.hierarchy (is_alone s w rest n) (desk_of s w r) (rest n)) is ∙ sym (ap (free_kind s w (is_alone s w rest n) (rest n)) is) ∙ free)

-- Kinds of work.

pub closing-off : (work : Work) → is_closing_work work ≡ true → is_on_desk work ≡ false
closing-off (work_is.Insert row routed) e = cc
closing-off work_is.Query e = cc
closing-off (work_is.Sync server pulled) e = cc
closing-off work_is.Bare e = refl
closing-off (work_is.Settle pulls) e = refl
closing-off (work_is.Action act) e = cc
closing-off (work_is.Balance b) e = cc
closing-off (work_is.Page subject there shown) e = refl

pub plain-open : (work : Work) → is_plain work ≡ true → is_closing_work work ≡ true → ⊥
plain-open (work_is.Insert row routed) p e = cc
plain-open work_is.Query p e = cc
plain-open (work_is.Sync server pulled) p e = cc
plain-open work_is.Bare p e = cc
plain-open (work_is.Settle pulls) p e = cc
plain-open (work_is.Action act) p e = cc
plain-open (work_is.Balance b) p e = cc
plain-open (work_is.Page subject there shown) p e = cc

-- what still has a page to show closes its phase
pub page-closing : (work : Work) → is_some (once_shown work) ≡ true → is_closing_work work ≡ true
page-closing (work_is.Insert row routed) e = cc
page-closing work_is.Query e = cc
page-closing (work_is.Sync server pulled) e = cc
page-closing work_is.Bare e = cc
page-closing (work_is.Settle pulls) e = cc
page-closing (work_is.Action act) e = cc
page-closing (work_is.Balance b) e = cc
page-closing (work_is.Page subject there shown) e = refl
