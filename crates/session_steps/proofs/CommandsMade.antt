-- What a step of a session's command makes of the history that it has seen, and of the session.
use Rattle.std.proofs.Common.{◌≡◌, ◌∙◌, ℕ, ℤ, false, true, List, [], ◌∷◌, length, Option, Some, None, refl, sym, ap, subst}
use mathlib.Core.Option.{some}
use Rattle.part_steps.specs.core_image.specs.Told.{asked_by, begun_by, refused_by, unknown_by}
use Rattle.part_steps.specs.core_steps.specs.{Begins.{begin_kind, begin_places, begin_tells}, Books.{book_kind, book_places}, Notes.{note_kind, note_places, note_tells}, Parts.part_kind}
use Rattle.part_steps.specs.core_steps.specs.declared.begins.BeginStep.TheVariants as begin
use Rattle.part_steps.specs.core_steps.specs.declared.books.BookStep.TheVariants as book
use Rattle.part_steps.specs.core_steps.specs.declared.notes.NoteStep.TheVariants as note
use Rattle.part_steps.specs.core_steps.specs.declared.parts.PartStep.TheVariants.{TakePart}
use Rattle.dim_hierarchy.specs.{Dimension.Dimension, declared.filter.Pick.Pick, declared.row.Coord.Coord, declared.row.Row.Row}
use Rattle.list_words.proofs.Elements.{Some-same}
use Rattle.measure_agg.specs.Aggregate.{Aggregate}
use Rattle.query_router.specs.Desk.{verdict_of}
use Rattle.query_router.specs.declared.part.Verdict.TheVariants.{Sum}
use Rattle.row_ledger.specs.{declared.event.Event.Event, declared.settings.Call.Call}
use Rattle.row_ledger.specs.declared.event.Event.TheVariants as event
use Rattle.part_steps.specs.seat_steps.specs.{Made.HasMade, declared.floor.Player.Player}
use Rattle.session_steps.specs.{Begins.row_at, Commands.{IsEndFor, IsEndOf, IsFurtherWork}, declared.commands.End.End}
use Rattle.session_steps.specs.declared.commands.End.TheVariants as end
use Rattle.turn_table.specs.Numbered.{value_of}
use Rattle.part_steps.specs.volap_cell.specs.{Cells.{CellValue, cell_of, desk_in}, ImageKinds.{DoesAck, DoesAnswer, DoesBeginInsert, DoesBeginQuery, DoesNote, DoesNoteWith, FailsQuery, FailsRouted, FailsUnrouted, IsFree, OfCalled, OfCalledAsking, OfCount, OfEnded, OfLeft, OfQuery, OfRefused, OfShown, OfUnknown, OfUnrouted, doing}, Kinds.Does, Setting.{Setting, ledger_cell}, Steps.Makes, Values.{ActorValue, actor_of}, World.{Change, World}, declared.cell.Cell.Cell, declared.command.Command.Command, declared.command.Work.Work, declared.kind.Kind.Kind}
use Rattle.part_steps.specs.volap_cell.specs.declared.command.Work.TheVariants as work_is
use Rattle.part_steps.specs.volap_cell.specs.declared.kind.Kind.TheVariants as kind
use Rattle.part_steps.specs.volap_turns.specs.Rows.{AreAt, IsThere}
use Rattle.part_steps.specs.seat_steps.proofs.HeldLedger.{HasSeenAll, IsNewest, PushesBy, changed, does-held, held_at, history_in, in_cell, newest, pushed, seen-now, seen-was, tells-held, told-by}

-- Steps that push no event. The session has the same command open, or the part of its insert is laid.

abbrev pub IsFurther : ActorValue → ActorValue → Type 0
IsFurther a b = (of : ℕ) (work : Work) → a.command ≡ doing of work → (work_now : Work) × IsFurtherWork work work_now × (b ≡ record a { command = doing of work_now; errand = b.errand })

-- a command is the same work still
pub further-same : (work : Work) → IsFurtherWork work work
further-same (work_is.Insert row routed) = (routed, refl)
further-same work = refl

-- an actor is at one command
pub one-command : (a : ActorValue) (of of_too : ℕ) (work work_too : Work) → a.command ≡ doing of work → a.command ≡ doing of_too work_too → ◌≡◌ {A = Command} (record { of = of; work = work }) (record { of = of_too; work = work_too })
one-command a of of_too work work_too is is_too = Some-same (record { of = of_too; work = work_too }) (record { of = of; work = work }) (sym is_too ∙ is)

module _ (h : List Dimension) (a b : ActorValue) where
  taken-further : (cs : List Change) → Does h kind.TakePart cs a b → IsFurther a b
  taken-further (d ∷ []) does = λ of work command. (work, further-same work, does.actor_is ∙ (λ k. record a { command = command k; errand = sym (ap (λ (z : ActorValue). z.errand) does.actor_is) k }))
  taken-further cs does = absurd does

  routed-further : (cs : List Change) → Does h kind.Route cs a b → IsFurther a b
  routed-further (d ∷ i ∷ []) does = λ of work command.
      subst (λ (c : Command). (work_now : Work) × IsFurtherWork c.work work_now × (b ≡ record a { command = doing c.of work_now; errand = b.errand })) (one-command a does.of of (work_is.Insert does.row false) work does.command command)
      (work_is.Insert does.row true, (true, refl), does.actor_is ∙ (λ k. record a { command = doing does.of (work_is.Insert does.row true); errand = sym (ap (λ (z : ActorValue). z.errand) does.actor_is) k }))
  routed-further cs does = absurd does

  routed-errand : (cs : List Change) → Does h kind.Route cs a b → b.errand ≡ a.errand
  routed-errand (d ∷ i ∷ []) does = ap (λ (z : ActorValue). z.errand) does.actor_is
  routed-errand cs does = absurd does

pub take-further : {h : List Dimension} {changes : List Change} {a b : ActorValue} (desk : ℕ) → Makes h (part_kind (TakePart desk)) changes a b → IsFurther a b
take-further {h} {changes} {a} {b} desk makes = taken-further h a b changes makes.does

pub route-further : {h : List Dimension} {changes : List Change} {a b : ActorValue} (desk image : ℕ) → Makes h (book_kind (book.Route desk image)) changes a b → IsFurther a b
route-further {h} {changes} {a} {b} desk image makes = routed-further h a b changes makes.does

pub route-errand : {h : List Dimension} {changes : List Change} {a b : ActorValue} (desk image : ℕ) → Makes h (book_kind (book.Route desk image)) changes a b → b.errand ≡ a.errand
route-errand {h} {changes} {a} {b} desk image makes = routed-errand h a b changes makes.does

-- Steps that end a command.

-- the newest event that is seen ends the session's command so
pub record EndsBy (e : End) (was now : Player) : Type 0 where
  pub newest : Event
  pub now_is : now.seat.view.seen ≡ newest ∷ was.seat.view.seen
  pub ends : (of : ℕ) (work : Work) → (actor_of was.actor).command ≡ doing of work → IsEndFor e work × IsEndOf e of newest × (actor_of now.actor ≡ record (actor_of was.actor) { command = None; seen = length now.seat.view.seen })

-- the query is answered with what the parts on the desk have together
pub record IsAnswered (desk : ℕ) (was now : Player) : Type 0 where
  pub cell : Cell
  pub held : value_of was.seat.view.held desk ≡ some cell
  pub answer : Aggregate
  pub sum : verdict_of (desk_in (cell_of cell)).parts ≡ Some (Sum answer)
  pub by : EndsBy (end.Answered answer) was now

ends-by : {was now : Player} (e : End) (newest : Event) (of : ℕ) (work : Work) (seen : ℕ) → (actor_of was.actor).command ≡ doing of work → IsEndFor e work → IsEndOf e of newest → IsNewest newest seen was now
    → actor_of now.actor ≡ record (actor_of was.actor) { command = None; seen = seen } → EndsBy e was now
ends-by {was} {now} e newest of work seen command suits ends is actor_is = record {
  newest = newest;
  now_is = is.0;
  ends = λ of_too work_too command_too.
      subst (λ (c : Command). IsEndFor e c.work × IsEndOf e c.of newest × (actor_of now.actor ≡ record (actor_of was.actor) { command = None; seen = length now.seat.view.seen })) (one-command (actor_of was.actor) of of_too work work_too command command_too)
      (suits, ends, actor_is ∙ (λ k. record (actor_of was.actor) { command = None; seen = is.1 k }));
}

-- of the notes with a cell beside the ledger it is that which the command has

fails-unrouted : (c l : Change) (a b : ActorValue) (of : ℕ) (row : Row) → a.command ≡ doing of (work_is.Insert row false) → DoesNoteWith c l a b → FailsUnrouted c l a b
fails-unrouted c l a b of row command (OfCalledAsking registry asked called) = (let never : ◌≡◌ {A = Option Command} None (doing of (work_is.Insert row false)) = sym called.free.command ∙ command in absurd (cc))
fails-unrouted c l a b of row command (OfUnrouted f) = f
fails-unrouted c l a b of row command (OfQuery f) = (let never : work_is.Query ≡ work_is.Insert row false = ap (λ (z : Command). z.work) (one-command a f.of of work_is.Query (work_is.Insert row false) f.command command) in absurd (cc))

fails-query : (c l : Change) (a b : ActorValue) (of : ℕ) → a.command ≡ doing of work_is.Query → DoesNoteWith c l a b → FailsQuery c l a b
fails-query c l a b of command (OfCalledAsking registry asked called) = (let never : ◌≡◌ {A = Option Command} None (doing of work_is.Query) = sym called.free.command ∙ command in absurd (cc))
fails-query c l a b of command (OfUnrouted f) = (let never : work_is.Insert f.row false ≡ work_is.Query = ap (λ (z : Command). z.work) (one-command a f.of of (work_is.Insert f.row false) work_is.Query f.command command) in absurd (cc))
fails-query c l a b of command (OfQuery f) = f

module _ {h : List Dimension} {Sees : Setting → World → ℕ → Type 0} {Tells : ActorValue → (was now : List (Option CellValue)) → Type 0} {was now : Player} (all : HasSeenAll was) where
  pub ack-ends : (desk image : ℕ) → AreAt (book_places (book.Ack desk image)) was.seat.view.held → HasMade h (book_kind (book.Ack desk image)) Sees Tells (book_places (book.Ack desk image)) was now → EndsBy end.Acked was now
  ack-ends desk image at made =
      let d : DoesAck h (changed was.seat.view.held made.new desk) (changed was.seat.view.held made.new image) (changed was.seat.view.held made.new ledger_cell) (actor_of was.actor) (actor_of now.actor) = does-held made at in
      ends-by end.Acked (event.Acked d.of d.path) d.of (work_is.Insert d.row true) (actor_of now.actor).seen d.command (d.row, true, refl) (d.path, refl) (newest made all at.there.1.1.0 d.acked) d.actor_is

  pub answer-ends : (desk : ℕ) → AreAt (book_places (book.Answer desk)) was.seat.view.held → HasMade h (book_kind (book.Answer desk)) Sees Tells (book_places (book.Answer desk)) was now → IsAnswered desk was now
  answer-ends desk at made =
      let d : DoesAnswer (changed was.seat.view.held made.new desk) (changed was.seat.view.held made.new ledger_cell) (actor_of was.actor) (actor_of now.actor) = does-held made at in
      record {
        cell = at.there.0.0;
        held = at.there.0.1;
        answer = d.answer;
        sum = ap (λ (c : CellValue). verdict_of (desk_in c).parts) (sym (ap in_cell at.there.0.1) ∙ d.clear.was) ∙ d.sum;
        by = ends-by (end.Answered d.answer) (event.Answered d.of d.answer) d.of work_is.Query (actor_of now.actor).seen d.command refl refl (newest made all at.there.1.0 d.answered) d.actor_is;
      }

  pub unrouted-ends : (image of : ℕ) (row : Row) → (actor_of was.actor).command ≡ doing of (work_is.Insert row false) → AreAt (book_places (book.FailUnrouted image)) was.seat.view.held
      → HasMade h (book_kind (book.FailUnrouted image)) Sees Tells (book_places (book.FailUnrouted image)) was now → EndsBy end.Failed was now
  unrouted-ends image of row command at made =
      let d = fails-unrouted (changed was.seat.view.held made.new image) (changed was.seat.view.held made.new ledger_cell) (actor_of was.actor) (actor_of now.actor) of row command (does-held made at) in
      ends-by end.Failed (event.Failed d.of) d.of (work_is.Insert d.row false) (actor_of now.actor).seen d.command tt refl (newest made all at.there.1.0 d.failed) d.actor_is

  pub routed-ends : (desk image : ℕ) → AreAt (book_places (book.FailRouted desk image)) was.seat.view.held → HasMade h (book_kind (book.FailRouted desk image)) Sees Tells (book_places (book.FailRouted desk image)) was now → EndsBy end.Failed was now
  routed-ends desk image at made =
      let d : FailsRouted (changed was.seat.view.held made.new desk) (changed was.seat.view.held made.new image) (changed was.seat.view.held made.new ledger_cell) (actor_of was.actor) (actor_of now.actor) = does-held made at in
      ends-by end.Failed (event.Failed d.of) d.of (work_is.Insert d.row true) (actor_of now.actor).seen d.command tt refl (newest made all at.there.1.1.0 d.failed) d.actor_is

  pub query-ends : (desk of : ℕ) → (actor_of was.actor).command ≡ doing of work_is.Query → AreAt (book_places (book.FailQuery desk)) was.seat.view.held → HasMade h (book_kind (book.FailQuery desk)) Sees Tells (book_places (book.FailQuery desk)) was now
      → EndsBy end.Failed was now
  query-ends desk of command at made =
      let d = fails-query (changed was.seat.view.held made.new desk) (changed was.seat.view.held made.new ledger_cell) (actor_of was.actor) (actor_of now.actor) of command (does-held made at) in
      ends-by end.Failed (event.Failed d.of) d.of work_is.Query (actor_of now.actor).seen d.command tt refl (newest made all at.there.1.0 d.failed) d.actor_is

-- Steps that begin a command, and notes.

-- nothing of the actor changes but how far it has seen
abbrev IsNoted : Change → ActorValue → ActorValue → Type 0
IsNoted l a b = (b ≡ record a { seen = b.seen }) × (b.seen ≡ length (history_in l.now))

-- a free actor that pushes no call begins nothing
only-noted : (l : Change) (a b : ActorValue) (e : Event) → IsFree a → ((caller : ℕ) (call : Call) → e ≡ event.Called caller call → ⊥) → history_in l.now ≡ e ∷ history_in l.before → DoesNote l a b → IsNoted l a b
only-noted l a b e free other told (OfUnknown n) = (n.actor_is, (pushed n.pushed).1)
only-noted l a b e free other told (OfRefused n) = (n.actor_is, (pushed n.pushed).1)
only-noted l a b e free other told (OfCalled registry n) = absurd (other a.number n.called (let q = sym told ∙ (pushed n.pushed).0 in cc))
only-noted l a b e free other told (OfLeft n) = (let never : ◌≡◌ {A = Option Command} None (doing n.of (work_is.Balance n.balance)) = sym free.command ∙ n.command in absurd (cc))
only-noted l a b e free other told (OfShown page n) = (let never : ◌≡◌ {A = Option Command} None (doing n.of n.work) = sym free.command ∙ n.command in absurd (cc))
only-noted l a b e free other told (OfEnded n) = (let never : ◌≡◌ {A = Option Command} None (doing n.of n.work) = sym free.command ∙ n.command in absurd (cc))
only-noted l a b e free other told (OfCount n) = (let never : [] ≡ e ∷ history_in l.before = sym (ap history_in n.turns.is) ∙ told in absurd (cc))

module _ {h : List Dimension} {kind : Kind} {Sees : Setting → World → ℕ → Type 0} {Tells : ActorValue → (was now : List (Option CellValue)) → Type 0} {row : List (Option ℕ)} {was now : Player} (all : HasSeenAll was)
    (there : IsThere was.seat.view.held ledger_cell) (made : HasMade h kind Sees Tells row was now) where
  noted-by : (event_of : ActorValue → ℕ → Event) → ((a : ActorValue) (n caller : ℕ) (call : Call) → event_of a n ≡ event.Called caller call → ⊥) → IsFree (actor_of was.actor)
      → history_in (held_at made.new ledger_cell) ≡ event_of (actor_of was.actor) (length (history_in (held_at was.seat.view.held ledger_cell))) ∷ history_in (held_at was.seat.view.held ledger_cell)
      → DoesNote (changed was.seat.view.held made.new ledger_cell) (actor_of was.actor) (actor_of now.actor) → PushesBy event_of was now × (actor_of now.actor ≡ record (actor_of was.actor) { seen = length now.seat.view.seen })
  noted-by event_of other free told does =
      let place = length (history_in (held_at was.seat.view.held ledger_cell)) in
      let n = only-noted (changed was.seat.view.held made.new ledger_cell) (actor_of was.actor) (actor_of now.actor) (event_of (actor_of was.actor) place) free (other (actor_of was.actor) place) told does in
      (told-by made all there event_of told, n.0 ∙ (λ k. record (actor_of was.actor) { seen = (n.1 ∙ ap (λ (events : List Event). length events) (sym (seen-now made all there))) k }))

module _ {h : List Dimension} {Sees : Setting → World → ℕ → Type 0} {was now : Player} (all : HasSeenAll was) where
  pub insert-begins : (image : ℕ) (at : Coord) (measures : ℤ) → AreAt (begin_places (begin.Insert image at measures)) was.seat.view.held
      → HasMade h (begin_kind (begin.Insert image at measures)) Sees (begin_tells (begin.Insert image at measures)) (begin_places (begin.Insert image at measures)) was now
      → PushesBy (begun_by at measures) was now
      × (actor_of now.actor ≡ record (actor_of was.actor) { command = doing (length was.seat.view.seen) (work_is.Insert (row_at (length was.seat.view.seen) at measures) false); seen = length now.seat.view.seen })
  insert-begins image at measures are made =
      let held = was.seat.view.held in
      let ledger = are.there.1.0 in
      let d : DoesBeginInsert h (changed held made.new image) (changed held made.new ledger_cell) (actor_of was.actor) (actor_of now.actor) = does-held made are in
      let told = tells-held made are in
      let p = pushed d.begun in
      let row : d.row ≡ row_at (length (history_in (held_at held ledger_cell))) at measures = (let q = sym p.0 ∙ told in cc) in
      let row_now = row ∙ ap (λ (events : List Event). row_at (length events) at measures) (seen-was made all ledger) in
      let seen = (newest made all ledger d.begun).1 in
      (told-by made all ledger (begun_by at measures) told, d.actor_is ∙ (λ k. record (actor_of was.actor) { command = doing (row_now k).no (work_is.Insert (row_now k) false); seen = seen k }))

  pub query-begins : (desk image : ℕ) (filter : List Pick) → AreAt (begin_places (begin.Query desk image filter)) was.seat.view.held
      → HasMade h (begin_kind (begin.Query desk image filter)) Sees (begin_tells (begin.Query desk image filter)) (begin_places (begin.Query desk image filter)) was now
      → PushesBy (asked_by filter) was now × (actor_of now.actor ≡ record (actor_of was.actor) { command = doing (length was.seat.view.seen) work_is.Query; seen = length now.seat.view.seen })
  query-begins desk image filter are made =
      let held = was.seat.view.held in
      let ledger = are.there.1.1.0 in
      let d : DoesBeginQuery h (changed held made.new desk) (changed held made.new image) (changed held made.new ledger_cell) (actor_of was.actor) (actor_of now.actor) = does-held made are in
      let place = ap (λ (c : CellValue). length (history_in c)) (sym d.asked.was) ∙ ap (λ (events : List Event). length events) (seen-was made all ledger) in
      let seen = (newest made all ledger d.asked).1 in
      (told-by made all ledger (asked_by filter) (tells-held made are), d.actor_is ∙ (λ k. record (actor_of was.actor) { command = doing (place k) work_is.Query; seen = seen k }))

  pub unknown-noted : (dim : ℕ) → IsFree (actor_of was.actor) → AreAt (note_places (note.Unknown dim)) was.seat.view.held → HasMade h (note_kind (note.Unknown dim)) Sees (note_tells (note.Unknown dim)) (note_places (note.Unknown dim)) was now
      → PushesBy (unknown_by dim) was now × (actor_of now.actor ≡ record (actor_of was.actor) { seen = length now.seat.view.seen })
  unknown-noted dim free are made = noted-by all are.there.0 made (unknown_by dim) (λ a n caller call same. cc) free (tells-held made are) (does-held made are)

  pub refused-noted : IsFree (actor_of was.actor) → AreAt (note_places note.Refused) was.seat.view.held → HasMade h (note_kind note.Refused) Sees (note_tells note.Refused) (note_places note.Refused) was now
      → PushesBy refused_by was now × (actor_of now.actor ≡ record (actor_of was.actor) { seen = length now.seat.view.seen })
  refused-noted free are made = noted-by all are.there.0 made refused_by (λ a n caller call same. cc) free (tells-held made are) (does-held made are)
