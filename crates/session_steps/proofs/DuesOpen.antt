-- What is due for the command that a session has open is prepared: its part is laid, it goes on by the parts on its desk, or it fails.
use Rattle.std.proofs.Common.{◌≡◌, ◌∙◌, ℕ, ◌^◌, ◌<◌, Bool, true, false, Option, Some, None, refl, sym, ap, subst, if◌then◌else◌, arith}
use Rattle.std.specs.List.{list_any}
use Rattle.part_steps.specs.core_due.specs.{Due.is_empty_desk, Wants.is_drained, WorkLaws.{IsAtWork, WorkAskedLaw, WorkPreparedLaw}, Works.{insert_due, parts_due, query_due, route_due, verdict_due, work_due}, WorksReady.{AreBytes, IsWorkPrepared, most_in}, declared.works.WorkDue.WorkDue}
use Rattle.part_steps.specs.core_due.specs.declared.works.WorkDue.TheVariants.{Books, Takes}
use Rattle.part_steps.specs.core_steps.specs.{Books.{book_asks, book_places}, Parts.{part_asks, part_places}, declared.books.BookStep.BookStep}
use Rattle.part_steps.specs.core_steps.specs.declared.books.BookStep.TheVariants as book
use Rattle.part_steps.specs.core_steps.specs.declared.parts.PartStep.TheVariants.{TakePart}
use Rattle.query_router.specs.{Desk.{DeskValue, is_waiting, verdict_of}, declared.part.{Verdict.Verdict}}
use Rattle.query_router.specs.declared.part.Verdict.TheVariants as verdict
use Rattle.part_steps.specs.seat_steps.proofs.Around.{seen-there}
use Rattle.session_steps.proofs.Servers.{desk-is, image-tag, role-is}
use Rattle.part_steps.specs.seat_steps.specs.{Booked.IsDue, Floors.IsAround, Looks.Sees, declared.floor.{Floor.Floor, Player.Player}}
use Rattle.session_steps.specs.{Books.{AreBooksOf, EndsAtDesk, IsDueBy, fails_by}, Commands.{HasOpen, IsOfSession}}
use Rattle.part_steps.specs.volap_cell.specs.{Cells.{cell_of, desk_in}, ImageKinds.doing, Setting.{Setting, ledger_cell}, Steps.history_in, Values.{ActorValue}, World.World, declared.command.Work.Work, declared.role.Role.Role}
use Rattle.part_steps.specs.volap_cell.specs.declared.command.Work.TheVariants as work_is
use Rattle.part_steps.specs.volap_turns.specs.Rows.{IsThere}

-- What is due by the parts on a desk: a part of this desk is taken, or the command ends by a step at this desk.

books-same : (x y : BookStep) → Some (Books x) ≡ Some (Books y) → x ≡ y
books-same x y e = cc

takes-there : (desk image : ℕ) (failed : BookStep) (at : ℕ) (value : DeskValue) → parts_due desk image failed value ≡ Some (Takes at) → at ≡ desk
takes-there desk image failed at value = by (verdict_of value.parts) (list_any is_waiting value.parts)
  where
    by : (v : Option Verdict) (waits : Bool) → verdict_due desk image failed value.parts v ≡ Some (Takes at) → at ≡ desk
    by None waits e = waiting (list_any is_waiting value.parts) e
      where
        waiting : (b : Bool) → (if b then Some (Takes desk) else None) ≡ Some (Takes at) → at ≡ desk
        waiting true e = cc
        waiting false e = (let none : None ≡ Some (Takes at) = e in absurd (cc))
    by (Some verdict.NoMemory) waits e = (let no : Some (Books failed) ≡ Some (Takes at) = e in absurd (cc))
    by (Some verdict.Placed) waits e = (let no : Some (Books (book.Ack desk image)) ≡ Some (Takes at) = e in absurd (cc))
    by (Some (verdict.Sum answer)) waits e = (let no : Some (Books (book.Answer desk)) ≡ Some (Takes at) = e in absurd (cc))

books-there : (desk image : ℕ) (failed : BookStep) (step : BookStep) (value : DeskValue) → EndsAtDesk desk image failed → parts_due desk image failed value ≡ Some (Books step) → EndsAtDesk desk image step
books-there desk image failed step value ends = by (verdict_of value.parts)
  where
    by : (v : Option Verdict) → verdict_due desk image failed value.parts v ≡ Some (Books step) → EndsAtDesk desk image step
    by None e = waiting (list_any is_waiting value.parts) e
      where
        waiting : (b : Bool) → (if b then Some (Takes desk) else None) ≡ Some (Books step) → EndsAtDesk desk image step
        waiting true e = (let no : Some (Takes desk) ≡ Some (Books step) = e in absurd (cc))
        waiting false e = (let none : None ≡ Some (Books step) = e in absurd (cc))
    by (Some verdict.NoMemory) e = subst (EndsAtDesk desk image) (books-same failed step e) ends
    by (Some verdict.Placed) e = subst (EndsAtDesk desk image) (books-same (book.Ack desk image) step e) (refl, refl)
    by (Some (verdict.Sum answer)) e = subst (EndsAtDesk desk image) (books-same (book.Answer desk) step e) refl

-- a command fails at this desk
fails-there : (desk image : ℕ) (failed : BookStep) (work : Work) → fails_by desk image work ≡ Some failed → EndsAtDesk desk image failed
fails-there desk image failed work e = by work e
  where
    step : (x : BookStep) → Some x ≡ Some failed → EndsAtDesk desk image x → EndsAtDesk desk image failed
    step x e ends = subst (EndsAtDesk desk image) (let same : x ≡ failed = cc in same) ends

    by : (k : Work) → fails_by desk image k ≡ Some failed → EndsAtDesk desk image failed
    by (work_is.Insert row false) e = (let none : None ≡ Some failed = e in absurd (cc))
    by (work_is.Insert row true) e = step (book.FailRouted desk image) e (refl, refl)
    by work_is.Query e = step (book.FailQuery desk) e refl
    by (work_is.Sync server pulled) e = step (book.FailQuery desk) e refl
    by (work_is.Settle pulls) e = step (book.FailQuery desk) e refl
    by work_is.Bare e = step (book.FailQuery desk) e refl
    by (work_is.Page subject stands shown) e = step (book.FailQuery desk) e refl
    by (work_is.Action a) e = step (book.FailQuery desk) e refl
    by (work_is.Balance b) e = step (book.FailQuery desk) e refl

none-few : 0 < 2 ^ 8
none-few = omega arith

module _ (f : Floor) (p : Player) (desk image : ℕ) (books : AreBooksOf f p desk image) (has : HasOpen p) where
  module _ (s : Setting) (w : World) (is : IsAround f p s w) where
    abbrev x : ℕ
    x = books.server

    command : (w.actors p.number).command ≡ doing has.of has.work
    command = ap (λ (a : ActorValue). a.command) is.actor ∙ has.command

    bytes : AreBytes s.servers has.work
    bytes = record { servers = subst (λ (k : ℕ). k < 2 ^ 8) (sym is.servers) books.bytes; actions = by has.work has.kind }
      where
        by : (k : Work) → IsOfSession k → most_in k < 2 ^ 8
        by (work_is.Insert row routed) kind = none-few
        by work_is.Query kind = none-few
        by (work_is.Sync server pulled) kind = absurd kind
        by (work_is.Settle pulls) kind = absurd kind
        by work_is.Bare kind = absurd kind
        by (work_is.Page subject stands shown) kind = absurd kind
        by (work_is.Action a) kind = absurd kind
        by (work_is.Balance b) kind = absurd kind

    abbrev due_for : Work → Option WorkDue
    due_for work = work_due s w (history_in w) false (w.actors p.number) has.of work

    -- the part of an insert is laid on the empty desk
    laid : (k : Work) → IsOfSession k → fails_by desk image k ≡ None → is_empty_desk (Some (desk_in (w.cells desk))) ≡ true → due_for k ≡ Some (Books (book.Route desk image))
    laid (work_is.Insert row false) kind e empty =
        ap (λ (r : Role). route_due s w r) (role-is f p desk image books s w is)
        ∙ subst (λ (d : ℕ × ℕ). (if is_empty_desk (Some (desk_in (w.cells d.0))) then Some (Books (book.Route d.0 d.1)) else None) ≡ Some (Books (book.Route desk image)))
        (λ i. (desk-is f p desk image books s w is i, books.image_is i))
        (rw empty refl)
    laid (work_is.Insert row true) kind e empty = (let none : Some (book.FailRouted desk image) ≡ None = e in absurd (cc))
    laid work_is.Query kind e empty = (let none : Some (book.FailQuery desk) ≡ None = e in absurd (cc))
    laid (work_is.Sync server pulled) kind e empty = absurd kind
    laid (work_is.Settle pulls) kind e empty = absurd kind
    laid work_is.Bare kind e empty = absurd kind
    laid (work_is.Page subject stands shown) kind e empty = absurd kind
    laid (work_is.Action a) kind e empty = absurd kind
    laid (work_is.Balance b) kind e empty = absurd kind

    -- what is due for a command whose parts are on the desk
    on-desk : (k : Work) → IsOfSession k → (failed : BookStep) → fails_by desk image k ≡ Some failed → due_for k ≡ parts_due desk image failed (desk_in (w.cells desk))
    on-desk (work_is.Insert row false) kind failed e = (let none : None ≡ Some failed = e in absurd (cc))
    on-desk (work_is.Insert row true) kind failed e =
        let same : book.FailRouted desk image ≡ failed = (let both : Some (book.FailRouted desk image) ≡ Some failed = e in cc) in
        ap (λ (r : Role). insert_due s w r) (role-is f p desk image books s w is)
        ∙ (λ i. let d = sym (desk-is f p desk image books s w is) i in let m = sym books.image_is i in parts_due d m (book.FailRouted d m) (desk_in (w.cells d)))
        ∙ ap (λ (z : BookStep). parts_due desk image z (desk_in (w.cells desk))) same
    on-desk work_is.Query kind failed e =
        let same : book.FailQuery desk ≡ failed = (let both : Some (book.FailQuery desk) ≡ Some failed = e in cc) in
        ap (λ (r : Role). query_due s w r) (role-is f p desk image books s w is)
        ∙ (λ i. let d = sym (desk-is f p desk image books s w is) i in let m = sym books.image_is i in parts_due d m (book.FailQuery d) (desk_in (w.cells d)))
        ∙ ap (λ (z : BookStep). parts_due desk image z (desk_in (w.cells desk))) same
    on-desk (work_is.Sync server pulled) kind failed e = absurd kind
    on-desk (work_is.Settle pulls) kind failed e = absurd kind
    on-desk work_is.Bare kind failed e = absurd kind
    on-desk (work_is.Page subject stands shown) kind failed e = absurd kind
    on-desk (work_is.Action a) kind failed e = absurd kind
    on-desk (work_is.Balance b) kind failed e = absurd kind

  module _ (asked : WorkAskedLaw) (prepared : WorkPreparedLaw) where
    -- what is due is prepared
    due-prepared : (s : Setting) (w : World) (is : IsAround f p s w) (due : WorkDue) → due_for s w is has.work ≡ Some due → IsWorkPrepared s w p.number due
    due-prepared s w is due e =
        let at : IsAtWork w p.number has.of has.work = record {
          command = command s w is;
          free = ap (λ (a : ActorValue). a.errand) is.actor ∙ has.no_part;
          waits = ap (λ j. is_drained w j) (ap (λ (a : ActorValue). a.job) is.actor ∙ has.no_job);
        } in
        (prepared s w p.number has.of has.work due is.inv (command s w is) (bytes s w is) (asked s w p.number has.of has.work false due is.inv at (bytes s w is) e)).0

    -- so are the laying of a part on the empty desk
    pub route-due : fails_by desk image has.work ≡ None → IsThere p.seat.view.held desk → Sees p desk (λ cell. is_empty_desk (Some (desk_in cell)) ≡ true)
        → IsDue f p (book_places (book.Route desk image)) (book_asks (book.Route desk image))
    route-due unlaid there sees = record {
      prepared = λ s w is. due-prepared s w is (Books (book.Route desk image)) (laid s w is has.work has.kind unlaid (seen-there f p s w is desk (λ cell. is_empty_desk (Some (desk_in cell)) ≡ true) there sees));
    }

    module _ (failed : BookStep) (laid_is : fails_by desk image has.work ≡ Some failed) (there : IsThere p.seat.view.held desk) where
      prepared-at : (due : WorkDue) → Sees p desk (λ cell. Some due ≡ parts_due desk image failed (desk_in cell)) → (s : Setting) (w : World) → IsAround f p s w → IsWorkPrepared s w p.number due
      prepared-at due sees s w is =
          due-prepared s w is due (on-desk s w is has.work has.kind failed laid_is ∙ sym (seen-there f p s w is desk (λ cell. Some due ≡ parts_due desk image failed (desk_in cell)) there sees))

      -- the taking of a part from the desk
      takes-due : (at : ℕ) → Sees p desk (λ cell. Some (Takes at) ≡ parts_due desk image failed (desk_in cell)) → IsDue f p (part_places (TakePart desk)) (part_asks (TakePart desk))
      takes-due at sees =
          subst (λ (d : ℕ). IsDue f p (part_places (TakePart d)) (part_asks (TakePart d))) (takes-there desk image failed at (desk_in (cell_of there.0)) (sym (sees there.0 there.1)))
          (record { prepared = prepared-at (Takes at) sees })

      -- and the step by which the command ends
      ends-due : (step : BookStep) → Sees p desk (λ cell. Some (Books step) ≡ parts_due desk image failed (desk_in cell)) → IsDue f p (book_places step) (book_asks step)
      ends-due step sees = record { prepared = prepared-at (Books step) sees }

      -- whatever is due by the parts
      pub by-parts : (due : Option WorkDue) → Sees p desk (λ cell. due ≡ parts_due desk image failed (desk_in cell)) → IsDueBy f p desk image due
      by-parts (Some (Takes at)) sees = takes-due at sees
      by-parts (Some (Books step)) sees = (
        books-there desk image failed step (desk_in (cell_of there.0)) (fails-there desk image failed has.work laid_is) (sym (sees there.0 there.1)),
        ends-due step sees,
      )
      by-parts due sees = tt

    fails-prepared : (s : Setting) (w : World) (is : IsAround f p s w) (k : Work) → IsOfSession k → has.work ≡ k → fails_by desk image k ≡ None → IsWorkPrepared s w p.number (Books (book.FailUnrouted image))
    fails-prepared s w is (work_is.Insert row false) kind same e =
        (prepared s w p.number has.of has.work (Books (book.FailUnrouted image)) is.inv (command s w is) (bytes s w is) (record {
          of = has.of;
          row = row;
          command = command s w is ∙ ap (doing has.of) same;
          server = books.server;
          role = role-is f p desk image books s w is;
          image_is = image-tag f p desk image books s w is;
          ledger_is = is.inv.holds.numbering.tag ledger_cell;
        })).0
    fails-prepared s w is (work_is.Insert row true) kind same e = (let no : Some (book.FailRouted desk image) ≡ None = e in absurd (cc))
    fails-prepared s w is work_is.Query kind same e = (let no : Some (book.FailQuery desk) ≡ None = e in absurd (cc))
    fails-prepared s w is (work_is.Sync server pulled) kind same e = absurd kind
    fails-prepared s w is (work_is.Settle pulls) kind same e = absurd kind
    fails-prepared s w is work_is.Bare kind same e = absurd kind
    fails-prepared s w is (work_is.Page subject stands shown) kind same e = absurd kind
    fails-prepared s w is (work_is.Action a) kind same e = absurd kind
    fails-prepared s w is (work_is.Balance b) kind same e = absurd kind

    -- an insert of which no part is laid can fail
    pub unrouted-due : fails_by desk image has.work ≡ None → IsDue f p (book_places (book.FailUnrouted image)) (book_asks (book.FailUnrouted image))
    unrouted-due unlaid = record { prepared = λ s w is. fails-prepared s w is has.work has.kind refl unlaid }
