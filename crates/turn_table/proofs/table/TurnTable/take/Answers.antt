use Rattle.std.proofs.Common.{rules, ◌≡◌, [], ◌∷◌, ◌++◌, true, false, Some, ap, refl, ◌∙◌, subst, Result, Ok, Err}
use Rattle.std.specs.Result.{is_ok, OnOk, IfErr}
use mathlib.Core.Option.{some}
use Rattle.turn_table.specs.{Numbered.value_of, Seat.SeatValue, Views.{HasAll, after_take, with_note}}
use Rattle.turn_table.proofs.table.TurnTable.take.Goals as goal

-- what is so of a try that was had
had : {T E P : Type 0} (r : Result T E) → is_ok r ≡ true → OnOk r P → P
had (Ok x) is p = p
had (Err e) is p = absurd (let never : false ≡ true = is in cc)

-- what is so of a refusal
refused : {T E : Type 0} (P : E → Type 0) (r : Result T E) → is_ok r ≡ false → IfErr r P → (e : E) × P e
refused P (Ok x) is p = absurd (let never : true ≡ false = is in cc)
refused P (Err e) is p = (e, p)

pub loop-init : goal.loop-init
loop-init g c = (c.attempt.new.seat.view.refused, c.attempt.new.seat.view.note, refl)

pub returns-then-is_ok-2-clause-took : goal.returns-then-is_ok-2-clause-took
returns-then-is_ok-2-clause-took g c =
    let H : Type 0 = SeatValue g.row.C-Cell.Denot g.row.C-Actor.Denot g.row.C-Entry.Denot in
    let first = refused _ c.attempt.result (search rules) c.attempt.ensures.err in
    let t = had c.attempt_or_park.result (search rules) c.attempt_or_park.ensures.ok in
    let before = c.loop.invariant in
    let now : c.loop.seat ≡ record c.args.seat.now { view = with_note c.args.seat.now.view before.0 before.1 } = before.2 ∙ ap (λ (h : H). record h { view = with_note h.view before.0 before.1 }) first.1.3 in (
      t.0,
      before.0,
      before.1,
      t.1 ∙ ap (λ (h : H). record h { ranks = h.ranks ++ (c.args.cell, Some c.args.rank) ∷ []; view = after_take g.C.Core.log_at g.C.Core.log h.view c.args.cell t.0 }) now,
      (t.2.0, t.2.1 ∙ ap (λ (h : H). t.2.0 ++ h.view.seen) now),
      subst (λ (h : H). HasAll h.view.actor_count h.view → (d : g.row.C-Cell.Denot) → value_of h.view.known c.args.cell ≡ some d → t.0 ≡ d) now t.3,
    )
