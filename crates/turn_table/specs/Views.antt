-- What a seat knows, and how each call changes it.
use Rattle.std.specs.Prelude.{◌≡◌, ℕ, ◌+◌, ◌-◌, ◌<◌, List, [], ◌∷◌, ◌++◌, length}
use mathlib.Core.Option.{some, none}
use mathlib.Core.Option as maybe
use lib.ListN.{get_elem?}
use Rattle.turn_table.specs.{Numbered.{value_of, replace, without, after_first, with_numbers, longer, shorter}, declared.view.View.View}

-- the seat has every actor
abbrev pub HasAll : {Cell Actor Entry : Type 0} → ℕ → View Cell Actor Entry → Type 0
HasAll {Cell} {Actor} {Entry} count v = (i : ℕ) → i < count → (a : Actor) × (value_of v.actors i ≡ some a)

-- one numbered actor, if there is one
abbrev pub lone : {Actor : Type 0} → maybe.Option Actor → ℕ → List (ℕ × Actor)
lone none i = []
lone (some a) i = (i, a) ∷ []

-- the list in this cell, or else the one seen before
abbrev pub seen_of : {Cell Entry : Type 0} → (Cell → List Entry) → maybe.Option Cell → List Entry → List Entry
seen_of log none seen = seen
seen_of log (some c) seen = log c

module _ {Cell Actor Entry : Type 0} (log_at : ℕ) (log : Cell → List Entry) where
  -- the view of the first seat, which has all actors, holds no cell and has seen every value
  abbrev pub first_view : List Cell → List Actor → View Cell Actor Entry
  first_view cells actors = record {
    number = length actors - 1;
    cell_count = length cells;
    actor_count = length actors;
    actors = with_numbers 0 actors;
    held = [];
    seen = seen_of log (get_elem? cells log_at) [];
    told = [];
    known = with_numbers 0 cells;
    refused = 0;
    note = (0, 0);
  }

  -- the cell k is held, with the value c
  abbrev pub after_take : View Cell Actor Entry → ℕ → Cell → View Cell Actor Entry
  after_take v k c = record v { held = v.held ++ (k, c) ∷ []; known = (k, c) ∷ v.known; seen = seen_of log (value_of ((k, c) ∷ []) log_at) v.seen }

  -- the held cells have these values, of which the first is given back, and the actor i is b
  abbrev pub after_commit : View Cell Actor Entry → List (ℕ × Cell) → ℕ → Actor → View Cell Actor Entry
  after_commit v new i b = record v { held = after_first new; known = new ++ v.known; actors = replace v.actors i b; seen = seen_of log (value_of new log_at) v.seen }

module _ {Cell Actor Entry : Type 0} where
  -- the cell k is given back as it was
  abbrev pub after_release : View Cell Actor Entry → ℕ → View Cell Actor Entry
  after_release v k = record v { held = without v.held k }

  -- n tries were refused, the last of them as noted
  abbrev pub with_note : View Cell Actor Entry → ℕ → ℕ × ℕ → View Cell Actor Entry
  with_note v n last = record v { refused = n; note = last }

  -- one more try was refused, at the cell k, whose word was read
  abbrev pub after_refusal : View Cell Actor Entry → ℕ → ℕ → View Cell Actor Entry
  after_refusal v k word = record v { refused = v.refused + 1; note = (k, word) }

  -- the actor i goes, and the view of the seat that it goes to

  abbrev pub after_split : View Cell Actor Entry → ℕ → View Cell Actor Entry
  after_split v i = record v { actors = without v.actors i }

  abbrev pub split_view : View Cell Actor Entry → ℕ → View Cell Actor Entry
  split_view v i = record {
    number = i;
    cell_count = v.cell_count;
    actor_count = v.actor_count;
    actors = lone (value_of v.actors i) i;
    held = [];
    seen = v.seen;
    told = [];
    known = [];
    refused = 0;
    note = (0, 0);
  }

  -- the actors of both, and what is left of the other view

  abbrev pub joined_view : View Cell Actor Entry → View Cell Actor Entry → View Cell Actor Entry
  joined_view v w = record v { actors = v.actors ++ w.actors; known = []; told = shorter v.seen w.seen; seen = longer v.seen w.seen }

  abbrev pub spent_view : View Cell Actor Entry
  spent_view = record {
    number = 0;
    cell_count = 0;
    actor_count = 0;
    actors = [];
    held = [];
    seen = [];
    told = [];
    known = [];
    refused = 0;
    note = (0, 0);
  }
