-- Histories that go on: what an earlier part of one is, and where its events stand.
use Rattle.std.proofs.Common.{◌≡◌, ◌∙◌, ℕ, ◌==◌, ◌≤◌, ◌||◌, Bool, true, false, not, IsTrue, List, [], ◌∷◌, ◌++◌, length, Option, Some, None, option_and_then, refl, ap}
use Rattle.std.specs.List.{cons_option, list_any}
use Rattle.row_ledger.specs.{Kept.KeepsRight, Past.{Query, event_at, failed, failed_in, is_kept, query_at, query_in}, Right.{IsRight, Opens, Stands}, Site.Site, declared.event.Event.Event}
use Rattle.row_ledger.proofs.{Before.at-later, Positions.event_at-here, SettledAnswer.EachEvent-later, Within.StandsRight-within}
use Rattle.turn_table.specs.Numbered.{Extends}

not-or : (a b : Bool) → not (a || b) ≡ true → not b ≡ true
not-or true b e = absurd (cc)
not-or false b e = e

-- a row that fails nowhere in the longer history fails nowhere in the shorter one
is_kept-earlier : (newer h : List Event) (n : ℕ) → IsTrue (is_kept (newer ++ h) n) → IsTrue (is_kept h n)
is_kept-earlier [] h n kept = kept
is_kept-earlier (e ∷ newer) h n kept = is_kept-earlier newer h n (older (failed_in e) kept)
  where
    older : (o : Option ℕ) → IsTrue (not (list_any (λ of. of == n) (cons_option o (failed (newer ++ h))))) → IsTrue (is_kept (newer ++ h) n)
    older None is = is
    older (Some of) is = not-or (of == n) (list_any (λ of. of == n) (failed (newer ++ h))) is

-- an earlier part of a history that is kept right is right, once each server has pulled
pub right-earlier : (site : Site) (placed : ℕ → Bool) (newer h : List Event) → KeepsRight site placed (newer ++ h) → site.servers ≤ length h → IsRight site h
right-earlier site placed newer h keeps opened = StandsRight-within site placed (is_kept h) h (λ n is_placed. is_kept-earlier newer h n (keeps.kept n is_placed)) (record {
  opened = opened;
  opening = EachEvent-later (Opens site) newer h keeps.right.opening;
  each = EachEvent-later (Stands site placed) newer h keeps.right.each;
})

-- an event stands where it was pushed
pub at-pushed : (newer older : List Event) (e : Event) → event_at (newer ++ e ∷ older) (length older) ≡ Some e
at-pushed newer older e = at-later newer (e ∷ older) (length older) e (event_at-here e older)

-- a query that has begun stands in each history that goes on
pub query-on : (now was : List Event) → Extends now was → (p : ℕ) (q : Query) → query_at was p ≡ Some q → query_at now p ≡ Some q
query-on now was longer p q asked = ap (λ (h : List Event). query_at h p) longer.1 ∙ there (event_at was p) refl asked
  where
    there : (o : Option Event) → event_at was p ≡ o → option_and_then query_in o ≡ Some q → query_at (longer.0 ++ was) p ≡ Some q
    there None at is = absurd (cc)
    there (Some e) at is = ap (option_and_then query_in) (at-later longer.0 was p e at) ∙ is
