-- What becomes of a seat by a turn that its actor takes, tries to take or gives back.
use Rattle.std.proofs.Common.{◌≡◌, ◌≢◌, ◌∙◌, ℕ, ◌+◌, List, [], ◌∷◌, ◌++◌, append-nil, Option, None, Result, Ok, Err, refl, sym, ap, subst}
use Rattle.std.specs.Prelude.{IfErr, OnErr, OnOk}
use mathlib.Core.Logic.{dite}
use mathlib.Core.Option.{some, some-injective}
use native.Mathlib.Decide.{ℕ_discrete}
use Rattle.dim_hierarchy.specs.Dimension.{Dimension}
use Rattle.atomic_table.specs.Seated.{TableId}
use Rattle.row_ledger.specs.declared.event.Event.{Event}
use Rattle.seat_steps.specs.{Floors.{AreTold, IsSeated, kept_by}, Takes.{IsSameActor, TakesTurn, WasRefused}, declared.floor.{Floor.Floor, Player.Player}}
use Rattle.seat_steps.proofs.{Left.numbers-without, Told.told-more}
use Rattle.turn_table.specs.{Numbered.{Extends, numbers_of, value_of, without}, Seat.SeatValue, Views.{after_refusal, after_release, after_take, with_note}, declared.turns.Busy.Busy}
use Rattle.turn_table.proofs.Seats.{numbers_append}
use Rattle.core_due.specs.volap_cell.specs.{Setting.ledger_cell, Values.{ActorValue, actor_of}, World.MustKeep, declared.actor.Actor.Actor, declared.cell.Cell.Cell}
use Rattle.core_due.specs.volap_cell.proofs.Outcomes.{on-ok}
use Rattle.volap_turns.specs.{Rule.{Needs, history_of}, Seats.{HasActor, Holds}, Wholes.CanBe}

module _ {h : List Dimension} {t : TableId} {s : SeatValue Cell Actor Event} {n : ℕ} {a : Actor} (holds : Holds h t s n a) where
  -- with one more cell
  pub took-holds : (now : SeatValue Cell Actor Event) (cell : ℕ) (rank : Option ℕ) (tries : ℕ) (last : ℕ × ℕ) (c : Cell)
      → now ≡ record s { ranks = s.ranks ++ (cell, rank) ∷ []; view = after_take ledger_cell history_of (with_note s.view tries last) cell c } → CanBe now.view → Holds h t now n a
  took-holds now cell rank tries last c e possible = record {
    own = ap (λ (z : SeatValue Cell Actor Event). z.table_id) e ∙ holds.own;
    home = ap (λ (z : SeatValue Cell Actor Event). z.lifted) e ∙ holds.home;
    one = subst (λ (z : SeatValue Cell Actor Event). HasActor h z.view n a) (sym e) (record { last = holds.one.last; has = holds.one.has; same = holds.one.same; went = holds.one.went; about = holds.one.about; others = holds.one.others });
    rows = ap (λ (z : SeatValue Cell Actor Event). numbers_of z.view.held) e ∙ numbers_append s.view.held ((cell, c) ∷ []) ∙ ap (λ (l : List ℕ). l ++ cell ∷ []) holds.rows ∙ sym (numbers_append s.ranks ((cell, rank) ∷ [])) ∙ ap (λ (z : SeatValue Cell Actor Event). numbers_of z.ranks) (sym e);
    possible = possible;
    wide = ap (λ (z : SeatValue Cell Actor Event). z.view.cell_count) e ∙ holds.wide;
  }

  -- with one try more that was refused
  pub refused-holds : (now : SeatValue Cell Actor Event) (cell word : ℕ) → now ≡ record s { view = after_refusal s.view cell word } → CanBe now.view → Holds h t now n a
  refused-holds now cell word e possible = record {
    own = ap (λ (z : SeatValue Cell Actor Event). z.table_id) e ∙ holds.own;
    home = ap (λ (z : SeatValue Cell Actor Event). z.lifted) e ∙ holds.home;
    one = subst (λ (z : SeatValue Cell Actor Event). HasActor h z.view n a) (sym e) (record { last = holds.one.last; has = holds.one.has; same = holds.one.same; went = holds.one.went; about = holds.one.about; others = holds.one.others });
    rows = ap (λ (z : SeatValue Cell Actor Event). numbers_of z.view.held) e ∙ holds.rows ∙ ap (λ (z : SeatValue Cell Actor Event). numbers_of z.ranks) (sym e);
    possible = possible;
    wide = ap (λ (z : SeatValue Cell Actor Event). z.view.cell_count) e ∙ holds.wide;
  }

  -- with one less
  pub gave-holds : (now : SeatValue Cell Actor Event) (cell : ℕ) → now ≡ record s { ranks = without s.ranks cell; view = after_release s.view cell } → CanBe now.view → Holds h t now n a
  gave-holds now cell e possible = record {
    own = ap (λ (z : SeatValue Cell Actor Event). z.table_id) e ∙ holds.own;
    home = ap (λ (z : SeatValue Cell Actor Event). z.lifted) e ∙ holds.home;
    one = subst (λ (z : SeatValue Cell Actor Event). HasActor h z.view n a) (sym e) (record { last = holds.one.last; has = holds.one.has; same = holds.one.same; went = holds.one.went; about = holds.one.about; others = holds.one.others });
    rows = ap (λ (z : SeatValue Cell Actor Event). numbers_of z.view.held) e ∙ numbers-without s.view.held s.ranks cell holds.rows ∙ ap (λ (z : SeatValue Cell Actor Event). numbers_of z.ranks) (sym e);
    possible = possible;
    wide = ap (λ (z : SeatValue Cell Actor Event). z.view.cell_count) e ∙ holds.wide;
  }

  -- the actor may be given to others where it need not keep the cell
  pub free-of : (cell : ℕ) → (MustKeep (actor_of a) cell → ⊥) → (j : ℕ) (x : Actor) → value_of s.view.actors j ≡ some x → Needs x cell → ⊥
  free-of cell free j x has needs = dite (ℕ_discrete j n)
      (λ (same : j ≡ n). let it : x ≡ holds.one.last = some-injective x holds.one.last (sym has ∙ ap (λ (i : ℕ). value_of s.view.actors i) same ∙ holds.one.has) in free (subst (λ (v : ActorValue). MustKeep v cell) (ap actor_of it ∙ holds.one.same) needs))
      (λ (ne : j ≢ n). holds.one.others j x cell ne has needs)

-- An actor is at its seat still where the seat has the same actors, and what was told is told.
pub seated-still : (f : Floor) (p : Player) (now : SeatValue Cell Actor Event) (more : List (ℕ × Option ℕ)) → IsSeated f p → Holds f.hierarchy f.table now p.number p.actor → now.ranks ≡ p.seat.ranks ++ more → now.view.actors ≡ p.seat.view.actors
    → IsSeated f (record p { seat = now })
seated-still f p now more seated holds ranks actors = record {
  holds = holds;
  alone = λ j x at. seated.alone j x (ap (λ (l : List (ℕ × Actor)). value_of l j) (sym actors) ∙ at);
  servers = seated.servers;
  workers = seated.workers;
  kept = subst (λ (r : List (ℕ × Option ℕ)). AreTold r (kept_by (actor_of p.actor))) (sym ranks) (told-more (kept_by (actor_of p.actor)) p.seat.ranks more seated.kept);
}

-- What a try comes to.

-- the turn was free
abbrev pub WasFree : (was now : SeatValue Cell Actor Event) → ℕ → Type 0
WasFree was now cell = (c : Cell) × (now ≡ record was { ranks = was.ranks ++ (cell, None) ∷ []; view = after_take ledger_cell history_of was.view cell c }) × Extends now.view.seen was.view.seen

-- it was another seat's, whose word was read
abbrev pub WasBusy : (was now : SeatValue Cell Actor Event) → ℕ → Busy → Type 0
WasBusy was now cell b = (b.cell ≡ cell) × (b.word ≢ 0) × (b.word ≢ was.view.number + 1) × (now ≡ record was { view = after_refusal was.view cell b.word })

module _ (f : Floor) (p : Player) (now : SeatValue Cell Actor Event) (cell : ℕ) {T : Type 0} where
  pub tried-seated : (r : Result T Busy) → IsSeated f p → CanBe now.view → OnOk r (WasFree p.seat now cell) → IfErr r (WasBusy p.seat now cell) → IsSeated f (record p { seat = now })
  tried-seated (Ok x) seated possible free busy = seated-still f p now ((cell, None) ∷ []) seated (took-holds seated.holds now cell None p.seat.view.refused p.seat.view.note free.0 free.1 possible)
      (ap (λ (z : SeatValue Cell Actor Event). z.ranks) free.1) (ap (λ (z : SeatValue Cell Actor Event). z.view.actors) free.1)
  tried-seated (Err b) seated possible free busy = seated-still f p now [] seated (refused-holds seated.holds now cell b.word busy.3 possible)
      (ap (λ (z : SeatValue Cell Actor Event). z.ranks) busy.3 ∙ sym (append-nil p.seat.ranks)) (ap (λ (z : SeatValue Cell Actor Event). z.view.actors) busy.3)

  pub tried-took : (r : Result T Busy) → OnOk r (WasFree p.seat now cell) → OnOk r (TakesTurn cell None p (record p { seat = now }))
  tried-took r free = on-ok r free (λ k. record {
    value = k.0;
    same = record { number = refl; actor = refl; seen = k.2 };
    ranks = ap (λ (z : SeatValue Cell Actor Event). z.ranks) k.1;
    held = ap (λ (z : SeatValue Cell Actor Event). z.view.held) k.1;
  })

  pub tried-same : (r : Result T Busy) → IfErr r (WasBusy p.seat now cell) → OnErr r (IsSameActor p (record p { seat = now }))
  tried-same (Ok x) busy = tt
  tried-same (Err b) busy = record { number = refl; actor = refl; seen = ([], ap (λ (z : SeatValue Cell Actor Event). z.view.seen) busy.3) }

  pub tried-ranks : (r : Result T Busy) → IfErr r (WasBusy p.seat now cell) → OnErr r (now.ranks ≡ p.seat.ranks)
  tried-ranks (Ok x) busy = tt
  tried-ranks (Err b) busy = ap (λ (z : SeatValue Cell Actor Event). z.ranks) busy.3

  pub tried-seen : (r : Result T Busy) → IfErr r (WasBusy p.seat now cell) → OnErr r (now.view.seen ≡ p.seat.view.seen)
  tried-seen (Ok x) busy = tt
  tried-seen (Err b) busy = ap (λ (z : SeatValue Cell Actor Event). z.view.seen) busy.3

  pub tried-refused : (r : Result T Busy) → IfErr r (WasBusy p.seat now cell) → IfErr r (λ b. WasRefused cell b.word p (record p { seat = now }))
  tried-refused (Ok x) busy = tt
  tried-refused (Err b) busy = busy.3
