-- What the steps of inserts and queries ask is so where they are due: of their parts on the desk of a session's server.
use Rattle.std.proofs.{Common.{ℕ, ◌≡◌, ◌<◌, ◌∙◌, Bool, true, false, List, [], ◌∷◌, Option, Some, None, refl, sym, ap, subst, if◌then◌else◌}, lemmas.List.Folds.Any-from_list_any, lemmas.Option.get_or_from_slice_get}
use Rattle.std.specs.{List.{list_any, slice_index_or}, Prelude.{IfSome, IsSome, is_none, position}}
use Rattle.core_due.specs.{Due.is_empty_desk, Ready.IsStepAsked, Works.{insert_due, query_due, route_due, verdict_due}, WorksReady.IsWorkAsked}
use Rattle.core_due.specs.declared.works.WorkDue.TheVariants.{Books, Takes}
use Rattle.core_steps.specs.core_shard.proofs.FinishReady.{first-place}
use Rattle.core_steps.specs.declared.parts.PartStep.TheVariants.{TakePart}
use Rattle.core_steps.specs.declared.books.BookStep.TheVariants as book
use Rattle.dim_hierarchy.specs.declared.row.Row.{Row}
use Rattle.measure_agg.specs.Aggregate.{Aggregate}
use Rattle.query_router.specs.{Desk.{is_open, is_placed, is_refused, is_waiting, state_is_placed, sum_of, verdict_of}, declared.part.Part.Part, declared.part.PartState.PartState, declared.part.Verdict.Verdict}
use Rattle.query_router.specs.declared.part.PartState.TheVariants as state
use Rattle.query_router.specs.declared.part.Verdict.TheVariants as verdict
use Rattle.row_ledger.specs.Past.{Insert, Query}
use Rattle.core_steps.specs.volap_cell.proofs.Cells.Numbers.{tag-desk, tag-image}
use Rattle.core_steps.specs.volap_cell.specs.{Cells.{DeskOf, ImageOf, desk_in, tag_of}, Desking.{IsInsertState, IsQueryState, is_on_desk}, ImageKinds.doing, Invariant.InvWith, Numbering.IsRoleOf, Setting.{Setting, desk_cell, image_cell, ledger_cell}, ShardKinds.{IsDeskFor, may_take}, Steps.{Inv}, Values.{JobValue}, View.view, World.World, declared.command.Command.Command, declared.command.Work.Work, declared.role.Role.Role, declared.role.Role.TheVariants.{Admin, Hand, Puller, Session}}
use Rattle.core_steps.specs.volap_cell.specs.declared.command.Work.TheVariants as work_is
use Rattle.core_due.proofs.{EndsAsked.if-some, Holding.there}

none-is : {A : Type 0} (o : Option A) → is_none o ≡ true → o ≡ None
none-is None e = refl
none-is (Some x) e = absurd (cc)

-- What parts come to.

placed-any : (ps : List Part) → verdict_of ps ≡ Some verdict.Placed → list_any is_placed ps ≡ true
placed-any ps is = by (list_any is_open ps) (list_any is_refused ps) (list_any is_placed ps) is
  where
    by : (a b c : Bool) → (if a then None else if b then Some verdict.NoMemory else if c then Some verdict.Placed else Some (verdict.Sum (sum_of ps))) ≡ Some verdict.Placed → c ≡ true
    by true b c is = (let none : None ≡ Some verdict.Placed = is in absurd (cc))
    by false true c is = (let none : Some verdict.NoMemory ≡ Some verdict.Placed = is in absurd (cc))
    by false false true is = refl
    by false false false is = (let none : Some (verdict.Sum (sum_of ps)) ≡ Some verdict.Placed = is in absurd (cc))

query-state : (q : Query) (st : PartState) → IsQueryState q st → state_is_placed st ≡ true → ⊥
query-state q (state.Waiting wanted) is e = cc
query-state q state.Taken is e = cc
query-state q (state.Done total) is e = cc
query-state q state.NoMemory is e = cc
query-state q (state.Placed path) is e = is

insert-state : (i : Insert) (p : Part) (answer : Aggregate) → verdict_of (p ∷ []) ≡ Some (verdict.Sum answer) → IsInsertState i p.state → ⊥
insert-state i p answer come is = by p.state refl is come
  where
    by : (st : PartState) → p.state ≡ st → IsInsertState i st → verdict_of (record p { state = st } ∷ []) ≡ Some (verdict.Sum answer) → ⊥
    by (state.Waiting wanted) at is come = (let none : None ≡ Some (verdict.Sum answer) = come in absurd (cc))
    by state.Taken at is come = (let none : None ≡ Some (verdict.Sum answer) = come in absurd (cc))
    by (state.Done total) at is come = is
    by state.NoMemory at is come = (let none : Some verdict.NoMemory ≡ Some (verdict.Sum answer) = come in absurd (cc))
    by (state.Placed path) at is come = (let none : Some verdict.Placed ≡ Some (verdict.Sum answer) = come in absurd (cc))

module _ (s : Setting) (w : World) (inv : Inv s w) (n : ℕ) where
  abbrev i : InvWith s (view s w) inv.ghost_of
  i = inv.holds

  -- Sessions.

  session-there : (c : Command) → (w.actors n).command ≡ Some c → (x : ℕ) → (w.actors n).role ≡ Session x → x < s.servers
  session-there c command x role =
      let lt = there s w inv n c command in
      let at : slice_index_or s.roles n (Session x) ≡ Session x = get_or_from_slice_get s.roles n (w.actors n).role (Session x) (i.numbering.role n lt) ∙ role in
      subst (IsRoleOf s) at (i.numbering.setting.roles n (Session x) lt)

  -- it has no job
  no-job : (x : ℕ) → (w.actors n).role ≡ Session x → (w.actors n).job ≡ None
  no-job x role = by (w.actors n).job refl
    where
      by : (o : Option JobValue) → (w.actors n).job ≡ o → (w.actors n).job ≡ None
      by None none = none
      by (Some j) some = (let never : Session x ≡ Admin = sym role ∙ i.numbering.working n j some in absurd (cc))

  module _ (of : ℕ) (work : Work) (command : (w.actors n).command ≡ doing of work) (x : ℕ) (role : (w.actors n).role ≡ Session x) where
    abbrev c : Command
    c = record { of = of; work = work }

    abbrev parts : List Part
    parts = (desk_in (w.cells (desk_cell s x))).parts

    low : x < s.servers
    low = session-there c command x role

    desk-is : tag_of (w.cells (desk_cell s x)) ≡ DeskOf x
    desk-is = i.numbering.tag (desk_cell s x) ∙ tag-desk s x low

    image-is : tag_of (w.cells (image_cell x)) ≡ ImageOf x
    image-is = i.numbering.tag (image_cell x) ∙ tag-image s x low

    -- it takes a part of its command from its desk, where one waits
    takes : is_on_desk work ≡ true → (w.actors n).errand ≡ None → list_any is_waiting parts ≡ true → IsStepAsked s w n (TakePart (desk_cell s x))
    takes on free waits =
        let op = i.desking.on_desk n x c command role on in
        let its : IsDeskFor (w.actors n).role x (desk_in (w.cells (desk_cell s x))) (w.actors n).command =
        subst (λ (r : Role). IsDeskFor r x (desk_in (w.cells (desk_cell s x))) (w.actors n).command) (sym role)
        (subst (λ (o : Option Command). IsDeskFor (Session x) x (desk_in (w.cells (desk_cell s x))) o) (sym command) (refl, op)) in
        record {
          free = free;
          no_job = no-job x role;
          server = x;
          desk_is = desk-is;
          its = its;
          ready = subst (λ (r : Role). IsSome (position (may_take r) parts)) (sym role) (first-place is_waiting parts (Any-from_list_any is_waiting parts waits));
        }

  -- a query's parts aren't placed
  query-unplaced : (of x : ℕ) → (w.actors n).command ≡ doing of work_is.Query → (w.actors n).role ≡ Session x → verdict_of (desk_in (w.cells (desk_cell s x))).parts ≡ Some verdict.Placed → ⊥
  query-unplaced of x command role come =
      let c : Command = record { of = of; work = work_is.Query } in
      let p = i.telling.progress n c command in
      let parts = (i.desking.query x of p.0 (session-there c command x role) (i.desking.on_desk n x c command role refl) p.2).0 in
      let some = Any-from_list_any is_placed (desk_in (w.cells (desk_cell s x))).parts (placed-any (desk_in (w.cells (desk_cell s x))).parts come) in
      query-state p.0 some.1.state (subst (λ (y : Part). IsQueryState p.0 y.state) some.3 (parts some.0 some.1 some.2)) some.4

  -- and an insert's come to no sum
  insert-unsummed : (of x : ℕ) (row : Row) (answer : Aggregate) → (w.actors n).command ≡ doing of (work_is.Insert row true) → (w.actors n).role ≡ Session x → verdict_of (desk_in (w.cells (desk_cell s x))).parts ≡ Some (verdict.Sum answer) → ⊥
  insert-unsummed of x row answer command role come =
      let c : Command = record { of = of; work = work_is.Insert row true } in
      let p = i.telling.progress n c command in
      let one = i.desking.insert x of (record { server = p.0; row = row }) (session-there c command x role) (i.desking.on_desk n x c command role refl) p.2 in
      insert-state (record { server = p.0; row = row }) one.0 answer (ap verdict_of (sym one.1) ∙ come) one.2

  -- Inserts and queries.

  pub route-asked : (of : ℕ) (row : Row) → (w.actors n).command ≡ doing of (work_is.Insert row false) → IfSome (route_due s w (w.actors n).role) (IsWorkAsked s w n)
  route-asked of row command = by (w.actors n).role refl
    where
      by : (r : Role) → (w.actors n).role ≡ r → IfSome (route_due s w r) (IsWorkAsked s w n)
      by (Session x) role = if-some (IsWorkAsked s w n) (is_empty_desk (Some (desk_in (w.cells (desk_cell s x))))) (Books (book.Route (desk_cell s x) (image_cell x))) (λ empty. record {
        of = of;
        row = row;
        command = command;
        server = x;
        role = role;
        desk_is = desk-is of (work_is.Insert row false) command x role;
        empty = none-is (desk_in (w.cells (desk_cell s x))).op empty;
        image_is = image-is of (work_is.Insert row false) command x role;
      })
      by (Hand worker) role = tt
      by Puller role = tt
      by Admin role = tt

  pub insert-asked : (of : ℕ) (row : Row) → (w.actors n).command ≡ doing of (work_is.Insert row true) → (w.actors n).errand ≡ None → IfSome (insert_due s w (w.actors n).role) (IsWorkAsked s w n)
  insert-asked of row command free = by (w.actors n).role refl
    where
      at : (x : ℕ) → (w.actors n).role ≡ Session x → (v : Option Verdict) → verdict_of (desk_in (w.cells (desk_cell s x))).parts ≡ v
          → IfSome (verdict_due (desk_cell s x) (image_cell x) (book.FailRouted (desk_cell s x) (image_cell x)) (desk_in (w.cells (desk_cell s x))).parts v) (IsWorkAsked s w n)
      at x role None come = if-some (IsWorkAsked s w n) (list_any is_waiting (desk_in (w.cells (desk_cell s x))).parts) (Takes (desk_cell s x)) (takes of (work_is.Insert row true) command x role refl free)
      at x role (Some verdict.NoMemory) come = record {
        of = of;
        row = row;
        command = command;
        idle = free;
        server = x;
        role = role;
        desk_is = desk-is of (work_is.Insert row true) command x role;
        refused = come;
        image_is = image-is of (work_is.Insert row true) command x role;
        ledger_is = i.numbering.tag ledger_cell;
      }
      at x role (Some verdict.Placed) come = record {
        of = of;
        row = row;
        command = command;
        idle = free;
        server = x;
        role = role;
        desk_is = desk-is of (work_is.Insert row true) command x role;
        placed = come;
        image_is = image-is of (work_is.Insert row true) command x role;
        ledger_is = i.numbering.tag ledger_cell;
      }
      at x role (Some (verdict.Sum answer)) come = absurd (insert-unsummed of x row answer command role come)

      by : (r : Role) → (w.actors n).role ≡ r → IfSome (insert_due s w r) (IsWorkAsked s w n)
      by (Session x) role = at x role (verdict_of (desk_in (w.cells (desk_cell s x))).parts) refl
      by (Hand worker) role = tt
      by Puller role = tt
      by Admin role = tt

  pub query-asked : (of : ℕ) → (w.actors n).command ≡ doing of work_is.Query → (w.actors n).errand ≡ None → IfSome (query_due s w (w.actors n).role) (IsWorkAsked s w n)
  query-asked of command free = by (w.actors n).role refl
    where
      at : (x : ℕ) → (w.actors n).role ≡ Session x → (v : Option Verdict) → verdict_of (desk_in (w.cells (desk_cell s x))).parts ≡ v
          → IfSome (verdict_due (desk_cell s x) (image_cell x) (book.FailQuery (desk_cell s x)) (desk_in (w.cells (desk_cell s x))).parts v) (IsWorkAsked s w n)
      at x role None come = if-some (IsWorkAsked s w n) (list_any is_waiting (desk_in (w.cells (desk_cell s x))).parts) (Takes (desk_cell s x)) (takes of work_is.Query command x role refl free)
      at x role (Some verdict.NoMemory) come =
          record { of = of; command = command; idle = free; server = x; role = role; desk_is = desk-is of work_is.Query command x role; refused = come; ledger_is = i.numbering.tag ledger_cell }
      at x role (Some verdict.Placed) come = absurd (query-unplaced of x command role come)
      at x role (Some (verdict.Sum answer)) come =
          record { of = of; command = command; idle = free; server = x; role = role; desk_is = desk-is of work_is.Query command x role; answer = answer; sum = come; ledger_is = i.numbering.tag ledger_cell }

      by : (r : Role) → (w.actors n).role ≡ r → IfSome (query_due s w r) (IsWorkAsked s w n)
      by (Session x) role = at x role (verdict_of (desk_in (w.cells (desk_cell s x))).parts) refl
      by (Hand worker) role = tt
      by Puller role = tt
      by Admin role = tt
