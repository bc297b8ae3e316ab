-- The law of a core, what a seat knows of the state, and what each step on a word tells.
use Rattle.std.specs.Prelude.{◌≡◌, ◌≢◌, ℕ, ◌+◌, ◌<◌, List, ◌∷◌, length, slice_set, Option, Some}
use mathlib.Core.Option.{some, none}
use lib.ListN.{get_elem?}
use Rattle.atomic_table.specs.Table.{Me, Step, rest}
use Rattle.turn_table.specs.{Numbered.{value_of, HaveOwnNumbers, Extends, write_all, replace}, Rule.Agrees, Views.{HasAll, after_take, after_refusal, after_commit, after_release}, declared.view.View.View}

-- The law.

-- what a change sees: how many cells and actors there are, the held cells, the seat's actors, and, of a seat that has
-- all actors, the values that it has seen
pub record Sight (Cell Actor : Type 0) : Type 0 where
  pub cell_count : ℕ
  pub actor_count : ℕ
  pub held : List (ℕ × Cell)
  pub mine : List (ℕ × Actor)
  pub known : List (ℕ × Cell)

-- what a change by this seat sees
abbrev pub sight : {Cell Actor Entry : Type 0} → View Cell Actor Entry → Sight Cell Actor
sight v = record { cell_count = v.cell_count; actor_count = v.actor_count; held = v.held; mine = v.actors; known = v.known }

-- the new values are of the held cells
abbrev pub AreSameCells : {Cell : Type 0} → List (ℕ × Cell) → List (ℕ × Cell) → Type 0
AreSameCells {Cell} held new =
    ((k : ℕ) (d : Cell) → value_of new k ≡ some d → (e : Cell) × (value_of held k ≡ some e))
    × ((k : ℕ) → value_of new k ≡ none → value_of held k ≡ none)

-- in any state that is valid and agrees with what the change sees, the change keeps the state valid and keeps or extends the list
abbrev pub IsLawful : {Cell Actor Entry : Type 0} → (List Cell → List Actor → Type 0) → ℕ → (Cell → List Entry) → (Actor → ℕ → Type 0) → (Sight Cell Actor → List (ℕ × Cell) → ℕ → Actor → Actor → Type 0) → Type 0
IsLawful {Cell} {Actor} {Entry} invariant log_at log needs change =
    (cells : List Cell) (actors : List Actor) (s : Sight Cell Actor) (new : List (ℕ × Cell)) (i : ℕ) (a b : Actor)
    → invariant cells actors → s.cell_count ≡ length cells → s.actor_count ≡ length actors
    -- the state agrees with the held cells, with the seat's actors, and with the values seen where these are all actors
    → ((k : ℕ) (c : Cell) → value_of s.held k ≡ some c → get_elem? cells k ≡ some c)
    → ((j : ℕ) (x : Actor) → value_of s.mine j ≡ some x → get_elem? actors j ≡ some x)
    → (((j : ℕ) → j < s.actor_count → (x : Actor) × (value_of s.mine j ≡ some x)) → (k : ℕ) (c : Cell) → value_of s.known k ≡ some c → get_elem? cells k ≡ some c)
    -- no other actor must keep a held cell
    → ((j : ℕ) (x : Actor) (k : ℕ) → get_elem? actors j ≡ some x → value_of s.mine j ≡ none → needs x k → value_of s.held k ≡ none)
    → AreSameCells s.held new → HaveOwnNumbers new → value_of s.mine i ≡ some a → change s new i a b
    → invariant (write_all cells new) (slice_set actors i b)
    × ((d e : Cell) → get_elem? cells log_at ≡ some d → get_elem? (write_all cells new) log_at ≡ some e → Extends (log e) (log d))

-- What a seat knows.

-- no actor of another seat must keep a cell that this seat holds
abbrev pub IsUnkept : {Cell Actor Entry : Type 0} → (Actor → ℕ → Type 0) → List Actor → View Cell Actor Entry → Type 0
IsUnkept {Cell} {Actor} {Entry} needs actors v = (j : ℕ) (x : Actor) (k : ℕ) → get_elem? actors j ≡ some x → value_of v.actors j ≡ none → needs x k → value_of v.held k ≡ none

-- there is a valid state that agrees with this view
pub record IsPossible {Cell Actor Entry : Type 0} (invariant : List Cell → List Actor → Type 0) (log_at : ℕ) (log : Cell → List Entry) (needs : Actor → ℕ → Type 0) (v : View Cell Actor Entry) : Type 0 where
  pub cells : List Cell
  pub actors : List Actor
  pub valid : invariant cells actors
  pub cell_count : v.cell_count ≡ length cells
  pub actor_count : v.actor_count ≡ length actors
  pub agrees : Agrees log_at log cells actors v
  pub unkept : IsUnkept needs actors v
  -- a seat that has all actors knows the values that it has seen, and the whole list
  pub known : HasAll v.actor_count v → (k : ℕ) (c : Cell) → value_of v.known k ≡ some c → get_elem? cells k ≡ some c
  pub whole : HasAll v.actor_count v → (c : Cell) → get_elem? cells log_at ≡ some c → log c ≡ v.seen

-- The steps on a word.

module _ {Cell Actor Entry : Type 0} (invariant : List Cell → List Actor → Type 0) (log_at : ℕ) (log : Cell → List Entry) (needs : Actor → ℕ → Type 0) where
  -- the word was 0 and the turn is had, or it wasn't and only the note changes
  abbrev pub Took : Step (Option Cell) → Me (Option Cell) (View Cell Actor Entry) → ℕ → Me (Option Cell) (View Cell Actor Entry) → Type 0
  Took st m n m' =
      (n ≡ 0 → (c : Cell) × (m' ≡ (after_take log_at log m.0 st.word c, (st.word, Some c) ∷ m.1))
      × IsPossible invariant log_at log needs m'.0 × Extends m'.0.seen m.0.seen
      × (HasAll m.0.actor_count m.0 → (d : Cell) → value_of m.0.known st.word ≡ some d → c ≡ d))
      × (n ≢ 0 → (m' ≡ (after_refusal m.0 st.word n, m.1)) × (value_of m.0.held st.word ≡ none → n ≢ m.0.number + 1))

-- the view is the one that the call picked, and the slot taken last is given back
abbrev pub GaveBack : {Cell Actor Entry : Type 0} → (List Cell → List Actor → Type 0) → ℕ → (Cell → List Entry) → (Actor → ℕ → Type 0) → (View Cell Actor Entry → View Cell Actor Entry)
    → Step (Option Cell) → Me (Option Cell) (View Cell Actor Entry) → ℕ → Me (Option Cell) (View Cell Actor Entry) → Type 0
GaveBack invariant log_at log needs next st m n m' = (m' ≡ (next m.0, rest m.1)) × IsPossible invariant log_at log needs m'.0 × Extends m'.0.seen m.0.seen

-- nothing changes, and no actor is twice with the seat
abbrev pub Looked : {Cell Actor Entry : Type 0} → (List Cell → List Actor → Type 0) → ℕ → (Cell → List Entry) → (Actor → ℕ → Type 0)
    → Step (Option Cell) → Me (Option Cell) (View Cell Actor Entry) → ℕ → Me (Option Cell) (View Cell Actor Entry) → Type 0
Looked invariant log_at log needs st m n m' = (m' ≡ m) × IsPossible invariant log_at log needs m'.0 × Extends m.0.seen m.0.told × HaveOwnNumbers m.0.actors

-- the picked view is that after a commit, in which the cell k has the slot that was taken last
pub record IsCommit {Cell Actor Entry : Type 0} (log_at : ℕ) (log : Cell → List Entry) (needs : Actor → ℕ → Type 0) (change : Sight Cell Actor → List (ℕ × Cell) → ℕ → Actor → Actor → Type 0) (m : Me (Option Cell) (View Cell Actor Entry)) (next : View Cell Actor Entry → View Cell Actor Entry) (k : ℕ) : Type 0 where
  pub now : Cell
  pub others : List (ℕ × Cell)
  pub number : ℕ
  pub before : Actor
  pub after : Actor
  pub front : m.1 ≡ (k, Some now) ∷ rest m.1
  pub next_is : next m.0 ≡ after_commit log_at log m.0 ((k, now) ∷ others) number after
  pub same : AreSameCells m.0.held ((k, now) ∷ others)
  pub distinct : HaveOwnNumbers ((k, now) ∷ others)
  pub has : value_of m.0.actors number ≡ some before
  pub goes : change (sight m.0) ((k, now) ∷ others) number before after
  pub left : (j : ℕ) (x : Actor) (n : ℕ) → value_of (replace m.0.actors number after) j ≡ some x → needs x n → (d : Cell) × (value_of others n ≡ some d)

-- the picked view is that after the release of the cell k, which has the slot that was taken last
pub record IsRelease {Cell Actor Entry : Type 0} (needs : Actor → ℕ → Type 0) (m : Me (Option Cell) (View Cell Actor Entry)) (next : View Cell Actor Entry → View Cell Actor Entry) (k : ℕ) : Type 0 where
  pub now : Cell
  pub front : m.1 ≡ (k, Some now) ∷ rest m.1
  pub next_is : next m.0 ≡ after_release m.0 k
  pub had : value_of m.0.held k ≡ some now
  pub distinct : HaveOwnNumbers m.0.held
  pub free : (j : ℕ) (x : Actor) → value_of m.0.actors j ≡ some x → needs x k → ⊥

-- The end.

-- each cell is there, and with the seat's actors they are a valid state, which the seat has seen as it is
pub record IsClosed {Cell Actor Entry : Type 0} (invariant : List Cell → List Actor → Type 0) (log_at : ℕ) (log : Cell → List Entry) (xs : List (Option Cell)) (v : View Cell Actor Entry) : Type 0 where
  pub cells : List Cell
  pub actors : List Actor
  pub cell_count : length xs ≡ length cells
  pub actor_count : length actors ≡ v.actor_count
  pub valid : invariant cells actors
  pub each_cell : (k : ℕ) (c : Cell) → get_elem? cells k ≡ some c → get_elem? xs k ≡ some (Some c)
  pub own : (i : ℕ) (a : Actor) → value_of v.actors i ≡ some a → get_elem? actors i ≡ some a
  pub seen : (c : Cell) → get_elem? cells log_at ≡ some c → log c ≡ v.seen
  pub known : (k : ℕ) (c : Cell) → value_of v.known k ≡ some c → get_elem? cells k ≡ some c
