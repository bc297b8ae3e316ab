-- A session that does its commands in turn: where they are in the history at the end.
use Rattle.std.proofs.{Common.{◌≡◌, ◌∙◌, ℕ, zero, suc, ◌<◌, ◌≤◌, Bool, List, [], ◌∷◌, ◌++◌, length, Some, refl, sym, ap, subst, arith, append_assoc, append-nil}}
use Rattle.std.specs.Prelude.{IsTrue, slice_get}
use Rattle.dim_hierarchy.specs.Dimension.{Dimension}
use Rattle.row_ledger.specs.{Past.{is_over}, Right.{EachEvent, Site, Stands}, declared.event.Event.Event, declared.settings.Use.Use}
use Rattle.script_form.specs.declared.script.Command.{Command}
use Rattle.script_run.proofs.Grow.{within}
use Rattle.script_run.specs.{Places.begins_of, Runs.{BeginsAt, EndsBefore}}
use Rattle.session_runs.proofs.{Later.{begins-then, ends-behind, later-then, more-from, over-then}, Pulls.{PullsAloneTo, alone-then, pulls-then}}
use Rattle.session_runs.specs.Sessions.{BeginsNothing, DoesCommand, DoesInTurn, EndsWithPulls, IsLater}

-- The k-th of a session's commands since an earlier history was done at a position, by a call that ended when the history was so long.
-- The session's later ones began behind that.
pub record IsDone (with : Use) (h : List Dimension) (c : Command) (now : List Event) (places : List ℕ) (k p : ℕ) : Type 0 where
  pub begins : BeginsAt with h now c (Some p)
  pub over : IsTrue (is_over now p)
  pub until : ℕ
  pub others : (l q : ℕ) → k < l → slice_get places l ≡ Some q → (until ≤ q) × EndsBefore now (Some p) (Some q)
  pub pulls : PullsAloneTo until now p → EndsWithPulls with now p

pub record AreDone (with : Use) (h : List Dimension) (session : ℕ) (cs : List Command) (past now : List Event) : Type 0 where
  pub later : IsLater past now
  pub places : List ℕ
  pub are : begins_of now session ≡ begins_of past session ++ places
  pub count : length places ≡ length cs
  pub each : (k : ℕ) (c : Command) (p : ℕ) → slice_get cs k ≡ Some c → slice_get places k ≡ Some p → IsDone with h c now places k p

-- a command more in front of those that are done
module _ (site : Site) (usable : ℕ → Bool) (with : Use) (h : List Dimension) (session : ℕ) (c : Command) (cs : List Command) (past seen next now : List Event) (right : EachEvent (Stands site usable) now)
    (nothing : BeginsNothing session past seen) (does : DoesCommand with h session c seen next) (rest : AreDone with h session cs next now) where
  abbrev places_now : List ℕ
  places_now = does.of ∷ rest.places

  inside : does.of < length next
  inside = within next does.of does.begins.0 does.begins.1

  behind : (l q : ℕ) → 0 < l → slice_get places_now l ≡ Some q → (length next ≤ q) × EndsBefore now (Some does.of) (Some q)
  behind zero q low at_q = absurd (omega arith)
  behind (suc l) q low at_q =
      let from = more-from session next now rest.places rest.later rest.are l q at_q in
      (from, ends-behind next now rest.later does.of q inside from does.over)

  first : IsDone with h c now places_now 0 does.of
  first = record {
    begins = begins-then with h next now rest.later c does.of does.begins;
    over = over-then next now rest.later does.of does.over;
    until = length next;
    others = behind;
    pulls = λ alone. pulls-then site usable with next now rest.later does.of inside right does.over (does.pulls (alone-then next now rest.later does.of inside alone));
  }

  others : (k p : ℕ) (d : Command) (done : IsDone with h d now rest.places k p) (l q : ℕ) → suc k < l → slice_get places_now l ≡ Some q → (done.until ≤ q) × EndsBefore now (Some p) (Some q)
  others k p d done zero q low at_q = absurd (omega arith)
  others k p d done (suc l) q low at_q = done.others l q (omega arith) at_q

  each-done : (k : ℕ) (d : Command) (p : ℕ) → slice_get (c ∷ cs) k ≡ Some d → slice_get places_now k ≡ Some p → IsDone with h d now places_now k p
  each-done zero d p at_c at_p =
      let same : c ≡ d = cc in
      let here : does.of ≡ p = cc in
      subst (λ x. IsDone with h x now places_now 0 p) same (subst (IsDone with h c now places_now 0) here first)
  each-done (suc k) d p at_c at_p =
      let done = rest.each k d p at_c at_p in
      record { begins = done.begins; over = done.over; until = done.until; others = others k p d done; pulls = done.pulls }

  one-more : AreDone with h session (c ∷ cs) past now
  one-more = record {
    later = later-then past seen now nothing.later (later-then seen next now does.later rest.later);
    places = places_now;
    are = rest.are ∙ ap (λ l. l ++ rest.places) (does.one ∙ ap (λ l. l ++ does.of ∷ []) nothing.none) ∙ append_assoc (begins_of past session) (does.of ∷ []) rest.places;
    count = ap suc rest.count;
    each = each-done;
  }

pub in-turn : (site : Site) (usable : ℕ → Bool) (with : Use) (h : List Dimension) (session : ℕ) (cs : List Command) (past now : List Event)
    → EachEvent (Stands site usable) now → DoesInTurn with h session cs past now → AreDone with h session cs past now
in-turn site usable with h session [] past now right does = record {
  later = does.later;
  places = [];
  are = does.none ∙ sym (append-nil (begins_of past session));
  count = refl;
  each = λ k c p at_c at_p. cc;
}
in-turn site usable with h session (c ∷ cs) past now right (seen, next, nothing, does, more) =
    one-more site usable with h session c cs past seen next now right nothing does (in-turn site usable with h session cs next now right more)
