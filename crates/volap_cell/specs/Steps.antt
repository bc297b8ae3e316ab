-- Steps, the states that they lead to, the invariant, and what a kind of step asks and promises.
use Rattle.std.specs.Prelude.{ℕ, ◌≡◌, ◌++◌, ⊤, List, [], ◌∷◌}
use Rattle.dim_hierarchy.specs.Dimension.{Dimension}
use Rattle.row_ledger.specs.declared.event.Event.{Event}
use Rattle.volap_cell.specs.{Cells.ledger_in, Falls.{GoesOn, left}, Ghost.Ghost, ImageKinds.{DoesNote, OfShown}, Invariant.InvWith, Kinds.Does, Opening.IsOpening, Setting.{Setting, ledger_cell}, Sights.Sees, Values.ActorValue, View.view, World.{World, Change, Agrees, after}, declared.kind.Kind.Kind}
use Rattle.volap_cell.specs.declared.kind.Kind.TheVariants as kind

-- a page that is shown is what the state has; no other step asks for more than the cells that it holds
abbrev pub SeesNote : Setting → World → ℕ → (c : Change) → (a b : ActorValue) → DoesNote c a b → Type 0
SeesNote s w n c a b (OfShown page shown) = Sees s w n page
SeesNote s w n c a b _ = ⊤

abbrev pub HasSight : Setting → World → ℕ → (h : List Dimension) (k : Kind) (changes : List Change) (a b : ActorValue) → Does h k changes a b → Type 0
HasSight s w n h kind.Note (c ∷ []) a b does = SeesNote s w n c a b does
HasSight s w n h _ _ a b does = ⊤

-- One step: an actor changes cells that agree with the state as its kind says, and all else stays.
pub record Step (s : Setting) (k : Kind) (n : ℕ) (w now : World) : Type 0 where
  pub changes : List Change
  pub actor : ActorValue
  pub agrees : Agrees w changes n (w.actors n)
  pub does : Does s.hierarchy k changes (w.actors n) actor
  pub sight : HasSight s w n s.hierarchy k changes (w.actors n) actor does
  pub now_is : now ≡ after w changes n actor

-- Runs.

-- a step that was made, and the state that it led to
pub record Made : Type 0 where
  pub kind_is : Kind
  pub actor : ℕ
  pub to : World

-- steps lead from a state to another one, the last step first
abbrev pub Lead : Setting → World → List Made → World → Type 0
Lead s from [] to = to ≡ from
Lead s from (m ∷ made) to = (between : World) × Lead s from made between × Step s m.kind_is m.actor between to × (m.to ≡ to)

-- a state that is reached from an opening
pub record IsReached (s : Setting) (w : World) : Type 0 where
  pub opening : World
  pub is_opening : IsOpening s opening
  pub made : List Made
  pub lead : Lead s opening made w

-- The invariant: the parts hold, with some ghost beside the state, and the state is reached from an opening.
pub record Inv (s : Setting) (w : World) : Type 0 where
  pub ghost_of : Ghost
  pub holds : InvWith s (view s w) ghost_of
  pub reached : IsReached s w

abbrev pub history_in : World → List Event
history_in w = (ledger_in (w.cells ledger_cell)).history

-- Kinds.

-- A kind asks that some state that meets the invariant has the cells and the actor that it is given, and that its hierarchy is
-- what the actor is about.
pub record IsHere (h : List Dimension) (changes : List Change) (a : ActorValue) : Type 0 where
  pub about : a.setting.hierarchy ≡ h
  pub world : World
  pub number : ℕ
  pub inv : Inv a.setting world
  pub agrees : Agrees world changes number a

-- What a kind promises of a state: it is one step further, meets the invariant, has its history kept or longer, and less is left.
pub record IsKept (s : Setting) (k : Kind) (n : ℕ) (w now : World) (ghost : Ghost) : Type 0 where
  pub step : Step s k n w now
  pub ghost_now : Ghost
  pub holds : InvWith s (view s now) ghost_now
  pub newer : List Event
  pub grows : history_in now ≡ newer ++ history_in w
  pub goes_on : GoesOn s (left s w ghost) (left s now ghost_now) (history_in w) (history_in now)

-- It promises that of every state that meets the invariant and has these cells and this actor, where nobody else must keep one of
-- the cells, and where the state has what a page shows.
abbrev pub Keeps : (h : List Dimension) (k : Kind) (changes : List Change) (a b : ActorValue) → Does h k changes a b → Type 0
Keeps h k changes a b does = (s : Setting) (w : World) (n : ℕ) (ghost : Ghost) → s.hierarchy ≡ h → InvWith s (view s w) ghost → Agrees w changes n a
    → HasSight s w n h k changes a b does → IsKept s k n w (after w changes n b) ghost

-- what a kind did, and that promise
pub record Makes (h : List Dimension) (k : Kind) (changes : List Change) (a b : ActorValue) : Type 0 where
  pub does : Does h k changes a b
  pub keeps : Keeps h k changes a b does
