-- An insert and a sync that are done at once, and a sync that pulled twice.
use Rattle.std.proofs.{Common.{◌≡◌, ◌≢◌, ◌∙◌, ℕ, zero, suc, inl, inr, List, [], ◌∷◌, length, Option, Some, None, refl, sym, ap, subst, arith}, lemmas.Bool.{eq-eqb, ne_eqb}}
use Rattle.describing_set.specs.declared.listing.Spot.{Spot}
use Rattle.dim_hierarchy.specs.Dimension.{Dimension}
use Rattle.list_words.proofs.Elements.{Some-same}
use Rattle.row_ledger.proofs.Positions.{event_at-past}
use Rattle.row_ledger.specs.{Past.{before, call_at, end_in, event_at}, Settled.pulls_since, declared.event.Event.Event, declared.event.Event.TheVariants.{Called, Ended, Refused}, declared.settings.Call.Call, declared.settings.Call.TheVariants.Sync, declared.settings.How.How, declared.settings.How.TheVariants.Fine}
use Rattle.script_form.specs.{declared.script.Command.Command, declared.script.Command.TheVariants.{Control, Insert}, declared.script.NewRow.NewRow}
use Rattle.script_run.proofs.Grow.{same-or}
use Rattle.script_run.specs.{Places.begins_of, Runs.{HasPulls, PullsAlone}, Worked.two}
use Rattle.session_runs.proofs.Pulls.{call-within}
use Rattle.session_runs.specs.{Sessions.{BeginsNothing, DoesCommand, DoesInTurn, EachDoes, EndsWithPulls, IsLater, stream_of}, Worked.{at_once, opened, pulled_twice, row_and_sync}}

-- Done at once.

nothing-there : {X : Type 0} (o : Option Event) (e : Event) → o ≡ None → o ≡ Some e → X
nothing-there o e none some = cc

-- the end stands last
end-last : (l : List Spot) (p of : ℕ) (how : How) → event_at (at_once l) p ≡ Some (Ended of how) → (p ≡ 5) × (Ended 2 Fine ≡ Ended of how)
end-last l zero of how at = absurd (cc)
end-last l (suc zero) of how at = absurd (cc)
end-last l (suc (suc zero)) of how at = absurd (cc)
end-last l (suc (suc (suc zero))) of how at = absurd (cc)
end-last l (suc (suc (suc (suc zero)))) of how at = absurd (cc)
end-last l (suc (suc (suc (suc (suc zero))))) of how at = (refl, cc)
end-last l (suc (suc (suc (suc (suc (suc p)))))) of how at = nothing-there (event_at (at_once l) (suc (suc (suc (suc (suc (suc p))))))) (Ended of how) (event_at-past (at_once l) (suc (suc (suc (suc (suc (suc p)))))) (omega arith)) at

is-later : (l : List Spot) → IsLater (opened l) (at_once l)
is-later l = (Ended 2 Fine ∷ _ ∷ Refused 0 ∷ Called 2 (Sync 0) ∷ [], refl)

none-after : (s : ℕ) (h : List Event) → BeginsNothing s h h
none-after s h = record { later = ([], refl); none = refl }

other-end : (how : How) → Ended 2 Fine ≡ Ended 3 how → ⊥
other-end how is = let numbers : 3 ≡ 2 = Some-same 2 3 (ap end_in is) in absurd (omega (arith, numbers))

row-pulls : (l : List Spot) → EndsWithPulls two (at_once l) 3
row-pulls l p how at = absurd (other-end how (end-last l p 3 how at).1)

sync-pulls : (l : List Spot) → EndsWithPulls two (at_once l) 2
sync-pulls l p how at =
    let is = end-last l p 2 how at in
    let fine : Fine ≡ how = let e = is.1 in cc in
    subst (λ n. HasPulls two (before (at_once l) n) (Ended 2 how)) (sym is.0) (subst (λ x. HasPulls two (before (at_once l) 5) (Ended 2 x)) fine refl)

row-done : (h : List Dimension) (l : List Spot) (new : NewRow) → new.server ≡ 0 → DoesCommand two h 0 (Insert new) (opened l) (at_once l)
unfolding begins_of
row-done h l new is = record { later = is-later l; of = 3; one = refl; begins = (Refused 0, refl, sym is); over = refl; pulls = λ alone. row-pulls l }

sync-done : (h : List Dimension) (l : List Spot) → DoesCommand two h 2 (Control (Sync 0)) (opened l) (at_once l)
unfolding begins_of
sync-done h l = record { later = is-later l; of = 2; one = refl; begins = (Called 2 (Sync 0), refl, (refl, refl)); over = refl; pulls = λ alone. sync-pulls l }

-- a session with neither begins nothing
others-nothing : (l : List Spot) (s : ℕ) → 0 ≢ s → 2 ≢ s → BeginsNothing s (opened l) (at_once l)
unfolding begins_of
others-nothing l s first second = record { later = is-later l; none = rw (ne_eqb 0 s first, ne_eqb 2 s second) refl }

row-stream : (new : NewRow) → new.server ≡ 0 → stream_of two (row_and_sync new) 0 ≡ Insert new ∷ []
row-stream new is = rw (eq-eqb new.server 0 is) refl

sync-stream : (new : NewRow) → new.server ≡ 0 → stream_of two (row_and_sync new) 2 ≡ Control (Sync 0) ∷ []
sync-stream new is = rw (ne_eqb new.server 2 (λ e. let clash : 0 ≡ 2 = sym is ∙ e in cc)) refl

no-stream : (new : NewRow) → new.server ≡ 0 → (s : ℕ) → 0 ≢ s → 2 ≢ s → stream_of two (row_and_sync new) s ≡ []
no-stream new is s first second = rw (ne_eqb new.server s (λ e. first (sym is ∙ e)), ne_eqb 2 s second) refl

alone-done : (h : List Dimension) (s : ℕ) (c : Command) (past now : List Event) → DoesCommand two h s c past now → DoesInTurn two h s (c ∷ []) past now
alone-done h s c past now does = (past, now, none-after s past, does, none-after s now)

pub each-done : (h : List Dimension) (l : List Spot) (new : NewRow) → new.server ≡ 0 → EachDoes two h (row_and_sync new) (opened l) (at_once l)
each-done h l new is s = elim (same-or 0 s) [
  | inl row ↦ subst (λ n. DoesInTurn two h n (stream_of two (row_and_sync new) n) (opened l) (at_once l)) row
      (subst (λ cs. DoesInTurn two h 0 cs (opened l) (at_once l)) (sym (row-stream new is)) (alone-done h 0 (Insert new) (opened l) (at_once l) (row-done h l new is)))
  | inr not_row ↦ elim (same-or 2 s) [
    | inl sync ↦ subst (λ n. DoesInTurn two h n (stream_of two (row_and_sync new) n) (opened l) (at_once l)) sync
        (subst (λ cs. DoesInTurn two h 2 cs (opened l) (at_once l)) (sym (sync-stream new is)) (alone-done h 2 (Control (Sync 0)) (opened l) (at_once l) (sync-done h l)))
    | inr not_sync ↦ subst (λ cs. DoesInTurn two h s cs (opened l) (at_once l)) (sym (no-stream new is s not_row not_sync)) (others-nothing l s not_row not_sync)
  ]
]

-- Pulled twice.

no-call : {X : Type 0} (l : List Spot) (p : ℕ) (call : Call) → call_at (pulled_twice l) p ≡ Some call → p ≢ 2 → X
no-call l zero call at differs = absurd (cc)
no-call l (suc zero) call at differs = absurd (cc)
no-call l (suc (suc zero)) call at differs = absurd (differs refl)
no-call l (suc (suc (suc zero))) call at differs = absurd (cc)
no-call l (suc (suc (suc (suc zero)))) call at differs = absurd (cc)
no-call l (suc (suc (suc (suc (suc zero))))) call at differs = absurd (cc)
no-call l (suc (suc (suc (suc (suc (suc p)))))) call at differs = let inside = call-within (pulled_twice l) (suc (suc (suc (suc (suc (suc p)))))) call at in absurd (omega arith)

not-twice : (pulled : List ℕ) → pulled ≡ 0 ∷ 0 ∷ [] → pulled ≡ 0 ∷ [] → ⊥
not-twice pulled two_pulls one_pull = absurd (omega (arith, ap length two_pulls, ap length one_pull))

pub twice-not : (h : List Dimension) (l : List Spot) → DoesCommand two h 2 (Control (Sync 0)) (opened l) (pulled_twice l) → ⊥
unfolding begins_of
twice-not h l done =
    let one : 2 ∷ [] ≡ done.of ∷ [] = done.one in
    let here : done.of ≡ 2 = cc in
    let pulls = subst (λ n. PullsAlone (pulled_twice l) n → EndsWithPulls two (pulled_twice l) n) here done.pulls in
    not-twice (pulls_since (before (pulled_twice l) 5) 2) refl (pulls (λ p call at pulling differs. no-call l p call at differs) 5 Fine refl)
