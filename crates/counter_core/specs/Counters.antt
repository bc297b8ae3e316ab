-- Counters whose sum stays.
use Rattle.std.specs.{List.sum, Prelude.{◌≡◌, ℕ, List, []}}
use mathlib.Core.Path.{◌∙◌, refl}
use mathlib.Core.Option.{some}
use lib.ListN.{get_elem?}
use Rattle.turn_table.specs.{Law.IsLawful, Numbered.{value_of, HaveOwnNumbers, write_all}}

-- the sum of all counters
abbrev pub whole : ℕ
whole = 30

-- the held counters change so that the sum of all counters stays, whatever the others are
abbrev pub KeepsSum : List (ℕ × ℕ) → List (ℕ × ℕ) → Type 0
KeepsSum held new = (cells : List ℕ) → ((k c : ℕ) → value_of held k ≡ some c → get_elem? cells k ≡ some c) → HaveOwnNumbers new → sum (write_all cells new) ≡ sum cells

-- a change that keeps the sum is lawful; there is no list
pub lawful : IsLawful {Cell = ℕ} {Actor = ℕ} {Entry = ℕ} (λ cells _. sum cells ≡ whole) 0 (λ _. []) (λ _ _. ⊥) (λ s new _ _ _. KeepsSum s.held new)
lawful cells actors s new i a b valid _ _ held _ _ _ _ apart _ change = (change cells held apart ∙ valid, λ d e _ _. ([], refl))
