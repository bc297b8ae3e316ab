-- What becomes of an actor's row by a step: the block at which it then is carried is still held when the first cell is given back.
use Rattle.std.proofs.Common.{◌≡◌, ◌≢◌, ◌∙◌, ℕ, eqb, cond, Bool, List, [], ◌∷◌, map, Option, Some, None, sym, ap, subst}
use Rattle.std.specs.Prelude.{⊤}
use mathlib.Core.Option.{some}
use Rattle.seat_steps.specs.core_steps.specs.{Begins.{begin_kind, begin_places, begin_tells}, Books.{book_kind, book_places, book_tells}, Notes.{note_kind, note_places, note_sees, note_tells}, Parts.{part_kind, part_places}, Places.{numbers, swaps}, Rows.{row_kind, row_places}, Trees.{tree_kind, tree_places}}
use Rattle.seat_steps.specs.core_steps.specs.declared.{begins.BeginStep.BeginStep, books.BookStep.BookStep, notes.NoteStep.NoteStep, parts.PartStep.PartStep, parts.PartStep.TheVariants.TakePart, rows.RowStep.RowStep, trees.TreeStep.TreeStep}
use Rattle.seat_steps.specs.core_steps.specs.declared.begins.BeginStep.TheVariants as begin
use Rattle.seat_steps.specs.core_steps.specs.declared.books.BookStep.TheVariants as book
use Rattle.seat_steps.specs.core_steps.specs.declared.rows.RowStep.TheVariants as row
use Rattle.dim_hierarchy.specs.Dimension.{Dimension}
use Rattle.list_words.proofs.{Each.each-map, Truth.on_bool}
use Rattle.list_words.specs.Counts.{Each}
use Rattle.part_steps.proofs.{Entered.{CarriesOn, behind, down-beside, down-on, enter-beside, enter-on}, Uncarried.{IsUncarried, part-left, take-part, tree-left}}
use Rattle.part_steps.specs.Goings.{IsBesidePart}
use Rattle.seat_steps.specs.{Floors.{AreTold, IsAround, kept_by, kept_on}, Made.IsKeptBy, declared.floor.{Floor.Floor, Player.Player}}
use Rattle.turn_table.specs.{Numbered.{after_first, value_of}, Seat.free_rank}
use Rattle.turn_table.proofs.Numbered.{find_else, find_here}
use Rattle.seat_steps.specs.volap_cell.specs.{Errands.{taken_by, taken_of, way_of}, ImageKinds.{DoesNote, DoesNoteWith, OfCalled, OfCalledAsking, OfCount, OfEnded, OfLeft, OfQuery, OfRefused, OfShown, OfUnknown, OfUnrouted, doing}, Kinds.Does, State.{AreDifferent, changes_of}, Steps.Makes, Values.{ActorValue, ErrandValue, actor_of}, World.{Change, World}, Setting.Setting, declared.cell.Cell.Cell, declared.command.Balance.Balance, declared.command.Command.Command}
use Rattle.seat_steps.specs.volap_cell.specs.declared.command.Work.TheVariants as work_is
use Rattle.seat_steps.specs.volap_cell.specs.declared.kind.Kind.TheVariants as kind
use Rattle.seat_steps.specs.volap_turns.specs.Rows.{cells_for}

-- Parts.

-- a command isn't a balance, which looks up loads as a part looks up a height
abbrev pub IsNoBalance : Option Command → Type 0
IsNoBalance command = (of : ℕ) (balance : Balance) → command ≡ doing of (work_is.Balance balance) → ⊥

-- who is at a part has no balance
pub at-part-no-balance : (f : Floor) (p : Player) (s : Setting) (w : World) → IsAround f p s w → (e : ErrandValue) → (actor_of p.actor).errand ≡ Some e → IsNoBalance (actor_of p.actor).command
at-part-no-balance f p s w is e errand of balance command =
    let at : taken_of (w.actors p.number).errand ≡ Some (taken_by e) = ap (λ (a : ActorValue). taken_of a.errand) is.actor ∙ ap taken_of errand in
    let does : (w.actors p.number).command ≡ doing of (work_is.Balance balance) = ap (λ (a : ActorValue). a.command) is.actor ∙ command in
    is.inv.holds.numbering.parts p.number (taken_by e) at (is.inv.holds.telling.progress p.number (record { of = of; work = work_is.Balance balance }) does).1

-- what is changed by a step over the cells that are held at its places
abbrev changes_at : Player → List (Option ℕ) → List (Option Cell) → List Change
changes_at p row now = changes_of (swaps row (cells_for p.seat.view.held row) now)

-- nothing is kept
none-told : (a b : ActorValue) (ranks : List (ℕ × Option ℕ)) → IsUncarried a b → AreTold ranks (kept_by b)
none-told a b ranks left = subst (AreTold ranks) (sym left.1) tt

-- nothing is carried behind a step of a part, nor of a tree

pub part-kept : (h : List Dimension) (p : Player) (step : PartStep) → IsNoBalance (actor_of p.actor).command → IsKeptBy h (part_kind step) (λ s w n. ⊤) (λ a was now. ⊤) (part_places step) p
part-kept h p step none b now went told = none-told (actor_of p.actor) b (after_first p.seat.ranks) (part-left h (actor_of p.actor) b step (changes_at p (part_places step) now) none went.makes.does)

pub take-kept : (h : List Dimension) (p : Player) (desk : ℕ) → IsKeptBy h (part_kind (TakePart desk)) (λ s w n. ⊤) (λ a was now. ⊤) (part_places (TakePart desk)) p
take-kept h p desk b now went told = none-told (actor_of p.actor) b (after_first p.seat.ranks) (take-part h (actor_of p.actor) b (changes_at p (part_places (TakePart desk)) now) went.makes.does)

pub tree-kept : (h : List Dimension) (p : Player) (step : TreeStep) → IsKeptBy h (tree_kind step) (λ s w n. ⊤) (λ a was now. ⊤) (tree_places step) p
tree-kept h p step b now went told = none-told (actor_of p.actor) b (after_first p.seat.ranks) (tree-left h (actor_of p.actor) b step (changes_at p (tree_places step) now) went.makes.does)

-- the actor is beside its part as before
module _ {h : List Dimension} {changes : List Change} {a b : ActorValue} where
  pub part-beside : (step : PartStep) → IsNoBalance a.command → Makes h (part_kind step) changes a b → IsBesidePart a b
  part-beside step none makes = (part-left h a b step changes none makes.does).0

  pub tree-beside : (step : TreeStep) → Makes h (tree_kind step) changes a b → IsBesidePart a b
  tree-beside step makes = (tree-left h a b step changes makes.does).0

  pub row-beside : (step : RowStep) → Makes h (row_kind step) changes a b → IsBesidePart a b
  row-beside (row.Down parent place child first second fresh) makes = down-beside h a b changes makes.does
  row-beside (row.EnterTree table gate root first second fresh top) makes = enter-beside h a b changes makes.does

-- Rows to a head.

-- for these cells the rank was told that may be told for several cells in any order
abbrev pub HaveFreeRank : List (ℕ × Option ℕ) → List ℕ → Type 0
HaveFreeRank ranks ys = Each (λ y. value_of ranks y ≡ some (Some free_rank)) ys

carried-told : (b : ActorValue) (ranks : List (ℕ × Option ℕ)) → CarriesOn (λ y. value_of ranks y ≡ some (Some free_rank)) b → AreTold ranks (kept_by b)
carried-told b ranks at = subst (AreTold ranks) (sym at.1) (at.2, tt)

-- the block at which the row is carried behind the step is its head, or a cell for a new block

pub down-kept : (h : List Dimension) (p : Player) (parent place child : ℕ) (first second fresh : Option ℕ) → HaveFreeRank (after_first p.seat.ranks) (numbers (Some child ∷ first ∷ second ∷ fresh ∷ []))
    → IsKeptBy h (row_kind (row.Down parent place child first second fresh)) (λ s w n. ⊤) (λ a was now. ⊤) (row_places (row.Down parent place child first second fresh)) p
down-kept h p parent place child first second fresh ranks b now went told =
    let P : ℕ → Type 0 = λ y. value_of (after_first p.seat.ranks) y ≡ some (Some free_rank) in
    let places = row_places (row.Down parent place child first second fresh) in
    carried-told b (after_first p.seat.ranks) (down-on P h (actor_of p.actor) b (changes_at p places now) (behind P 1 places (cells_for p.seat.view.held places) now ranks) went.makes.does)

pub enter-kept : (h : List Dimension) (p : Player) (table gate root : ℕ) (first second fresh top : Option ℕ) → HaveFreeRank (after_first p.seat.ranks) (numbers (Some root ∷ first ∷ second ∷ fresh ∷ top ∷ []))
    → IsKeptBy h (row_kind (row.EnterTree table gate root first second fresh top)) (λ s w n. ⊤) (λ a was now. ⊤) (row_places (row.EnterTree table gate root first second fresh top)) p
enter-kept h p table gate root first second fresh top ranks b now went told =
    let P : ℕ → Type 0 = λ y. value_of (after_first p.seat.ranks) y ≡ some (Some free_rank) in
    let places = row_places (row.EnterTree table gate root first second fresh top) in
    carried-told b (after_first p.seat.ranks) (enter-on P h (actor_of p.actor) b (changes_at p places now) (behind P 2 places (cells_for p.seat.view.held places) now ranks) went.makes.does)

-- How that rank is told for cells.

-- for each of these, in their order
abbrev pub told_free : List ℕ → List (ℕ × Option ℕ)
told_free ys = map (λ (y : ℕ). (y, Some free_rank)) ys

told-more : (ranks : List (ℕ × Option ℕ)) (x y : ℕ) → value_of ranks y ≡ some (Some free_rank) → value_of ((x, Some free_rank) ∷ ranks) y ≡ some (Some free_rank)
told-more ranks x y told = on_bool (eqb x y)
    (λ same. ap (λ (q : Bool). cond q (some (Some free_rank)) (value_of ranks y)) same)
    (λ other. ap (λ (q : Bool). cond q (some (Some free_rank)) (value_of ranks y)) other ∙ told)

pub are-free : (ys : List ℕ) → HaveFreeRank (told_free ys) ys
are-free [] = tt
are-free (y ∷ ys) = (find_here (told_free ys) y (Some free_rank), each-map (λ z. value_of (told_free ys) z ≡ some (Some free_rank)) (λ z. value_of (told_free (y ∷ ys)) z ≡ some (Some free_rank)) ys (told-more (told_free ys) y) (are-free ys))

-- what is told for another cell before them is of no matter
pub free-behind : (ranks : List (ℕ × Option ℕ)) (x : ℕ) (rank : Option ℕ) (ys : List ℕ) → Each (λ y. y ≢ x) ys → HaveFreeRank ranks ys → HaveFreeRank ((x, rank) ∷ ranks) ys
free-behind ranks x rank [] others free = tt
free-behind ranks x rank (y ∷ ys) others free = (find_else ranks x y rank (λ e. others.0 (sym e)) ∙ free.0, free-behind ranks x rank ys others.1 free.1)

pub down-ranks : (ranks : List (ℕ × Option ℕ)) (parent child : ℕ) (first second fresh : Option ℕ) → ranks ≡ told_free (numbers (Some parent ∷ Some child ∷ first ∷ second ∷ fresh ∷ []))
    → HaveFreeRank (after_first ranks) (numbers (Some child ∷ first ∷ second ∷ fresh ∷ []))
down-ranks ranks parent child first second fresh is =
    let ys = numbers (Some child ∷ first ∷ second ∷ fresh ∷ []) in
    subst (λ (l : List (ℕ × Option ℕ)). HaveFreeRank (after_first l) ys) (sym is) (are-free ys)

pub enter-ranks : (ranks : List (ℕ × Option ℕ)) (table gate root : ℕ) (first second fresh top : Option ℕ) → AreDifferent (numbers (Some table ∷ Some gate ∷ Some root ∷ first ∷ second ∷ fresh ∷ top ∷ []))
    → ranks ≡ (table, Some 1) ∷ (gate, Some 2) ∷ told_free (numbers (Some root ∷ first ∷ second ∷ fresh ∷ top ∷ [])) → HaveFreeRank (after_first ranks) (numbers (Some root ∷ first ∷ second ∷ fresh ∷ top ∷ []))
enter-ranks ranks table gate root first second fresh top apart is =
    let ys = numbers (Some root ∷ first ∷ second ∷ fresh ∷ top ∷ []) in
    subst (λ (l : List (ℕ × Option ℕ)). HaveFreeRank (after_first l) ys) (sym is) (free-behind (told_free ys) gate (Some 2) ys apart.1.0 (are-free ys))

-- Commands. An actor at no part carries nothing, before a step and behind it.

abbrev errand_in : ActorValue → Option ErrandValue
errand_in a = a.errand

module _ (h : List Dimension) (a b : ActorValue) where
  note-errand : (c : Change) → DoesNote c a b → b.errand ≡ a.errand
  note-errand c (OfUnknown n) = ap errand_in n.actor_is
  note-errand c (OfRefused n) = ap errand_in n.actor_is
  note-errand c (OfCalled registry n) = ap errand_in n.actor_is
  note-errand c (OfLeft n) = ap errand_in n.actor_is
  note-errand c (OfShown page n) = ap errand_in n.actor_is
  note-errand c (OfEnded n) = ap errand_in n.actor_is
  note-errand c (OfCount n) = ap errand_in n.actor_is

  with-errand : (c l : Change) → DoesNoteWith c l a b → b.errand ≡ a.errand
  with-errand c l (OfCalledAsking registry asked n) = ap errand_in n.actor_is
  with-errand c l (OfUnrouted n) = ap errand_in n.actor_is
  with-errand c l (OfQuery n) = ap errand_in n.actor_is

  -- a note leaves the part that the actor is at
  pub noted-errand : (cs : List Change) → Does h kind.Note cs a b → b.errand ≡ a.errand
  noted-errand (c ∷ []) does = note-errand c does
  noted-errand (c ∷ l ∷ []) does = with-errand c l does
  noted-errand (d ∷ i ∷ l ∷ []) does = ap errand_in does.actor_is
  noted-errand cs does = absurd does

  route-errand : (cs : List Change) → Does h kind.Route cs a b → b.errand ≡ a.errand
  route-errand (d ∷ i ∷ []) does = ap errand_in does.actor_is
  route-errand cs does = absurd does

  ack-errand : (cs : List Change) → Does h kind.Ack cs a b → b.errand ≡ a.errand
  ack-errand (d ∷ i ∷ l ∷ []) does = ap errand_in does.actor_is
  ack-errand cs does = absurd does

  answer-errand : (cs : List Change) → Does h kind.Answer cs a b → b.errand ≡ a.errand
  answer-errand (d ∷ l ∷ []) does = ap errand_in does.actor_is
  answer-errand cs does = absurd does

  sync-errand : (cs : List Change) → Does h kind.Sync cs a b → b.errand ≡ a.errand
  sync-errand (i ∷ r ∷ l ∷ []) does = ap errand_in does.actor_is
  sync-errand cs does = absurd does

  insert-errand : (cs : List Change) → Does h kind.BeginInsert cs a b → b.errand ≡ a.errand
  insert-errand (i ∷ l ∷ []) does = ap errand_in does.actor_is
  insert-errand cs does = absurd does

  query-errand : (cs : List Change) → Does h kind.BeginQuery cs a b → b.errand ≡ a.errand
  query-errand (d ∷ i ∷ l ∷ []) does = ap errand_in does.actor_is
  query-errand cs does = absurd does

  book-errand : (step : BookStep) (cs : List Change) → Does h (book_kind step) cs a b → b.errand ≡ a.errand
  book-errand (book.Route desk image) cs does = route-errand cs does
  book-errand (book.Ack desk image) cs does = ack-errand cs does
  book-errand (book.Answer desk) cs does = answer-errand cs does
  book-errand (book.Sync image) cs does = sync-errand cs does
  book-errand (book.FailUnrouted image) cs does = noted-errand cs does
  book-errand (book.FailRouted desk image) cs does = noted-errand cs does
  book-errand (book.FailQuery desk) cs does = noted-errand cs does

  begin-errand : (step : BeginStep) (cs : List Change) → Does h (begin_kind step) cs a b → b.errand ≡ a.errand
  begin-errand (begin.Insert image at measures) cs does = insert-errand cs does
  begin-errand (begin.Query desk image filter) cs does = query-errand cs does

-- an actor at no part keeps nothing
pub no-errand-told : (b : ActorValue) (ranks : List (ℕ × Option ℕ)) → b.errand ≡ None → AreTold ranks (kept_by b)
no-errand-told b ranks none = subst (λ (e : Option ErrandValue). AreTold ranks (kept_on (way_of e))) (sym none) tt

pub book-kept : (h : List Dimension) (p : Player) (step : BookStep) → (actor_of p.actor).errand ≡ None → IsKeptBy h (book_kind step) (λ s w n. ⊤) (book_tells step) (book_places step) p
book-kept h p step none b now went told = no-errand-told b (after_first p.seat.ranks) (book-errand h (actor_of p.actor) b step (changes_at p (book_places step) now) went.makes.does ∙ none)

pub begin-kept : (h : List Dimension) (p : Player) (step : BeginStep) → (actor_of p.actor).errand ≡ None → IsKeptBy h (begin_kind step) (λ s w n. ⊤) (begin_tells step) (begin_places step) p
begin-kept h p step none b now went told = no-errand-told b (after_first p.seat.ranks) (begin-errand h (actor_of p.actor) b step (changes_at p (begin_places step) now) went.makes.does ∙ none)

pub note-kept : (h : List Dimension) (p : Player) (step : NoteStep) → (actor_of p.actor).errand ≡ None → IsKeptBy h (note_kind step) (note_sees step) (note_tells step) (note_places step) p
note-kept h p step none b now went told = no-errand-told b (after_first p.seat.ranks) (noted-errand h (actor_of p.actor) b (changes_at p (note_places step) now) went.makes.does ∙ none)
