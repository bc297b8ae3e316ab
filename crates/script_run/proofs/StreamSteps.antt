-- Streams stay streams as the history grows.
use Rattle.std.proofs.Common.{◌≡◌, ◌≢◌, ◌∙◌, ℕ, ◌+◌, ◌<◌, inl, inr, Bool, true, false, List, [], ◌∷◌, ◌++◌, length, get_or, take, refl, sym, ap, subst, arith, length-append}
use Rattle.std.specs.{Option.option_map_or, Prelude.{Option, Some, None, slice_get, IsTrue, ◌||◌}}
use Rattle.row_ledger.specs.{Past.{is_over, has_ended, event_at, ends_itself}, declared.event.Event.Event}
use Rattle.row_ledger.proofs.{Older.has_ended-older, Positions.event_at-older}
use Rattle.script_form.specs.declared.script.Command.{Command}
use Rattle.script_run.specs.{Parts.place_in, Places.{session_of, count_of, begins_in, begins_of}, Streams.{StreamBeginLaw, StreamOtherLaw}}
use Rattle.script_run.proofs.{Begin.{begins-none, begins-own, begins-same, bool-or, places-other}, Grow.{within, same-or, below-or}, NextCommand.{take-front, get-middle, some-eq, over-now, has-place}, PlaceFacts.{begins_of-here, begins_of-other}}

or-more : (a b c d : Bool) → (a ≡ true → c ≡ true) → (b ≡ true → d ≡ true) → (a || b) ≡ true → (c || d) ≡ true
or-more true b c d h k t = subst (λ x. (x || d) ≡ true) (sym (h refl)) refl
or-more false b c d h k t = subst (λ x. (c || x) ≡ true) (sym (k t)) (or-right c)
  where
    or-right : (x : Bool) → (x || true) ≡ true
    or-right true = refl
    or-right false = refl

ends-older : (e : Event) (history : List Event) (p : ℕ) (o : Option Event) → event_at history p ≡ o → option_map_or ends_itself o false ≡ true
    → option_map_or ends_itself (event_at (e ∷ history) p) false ≡ true
ends-older e history p None at t = cc
ends-older e history p (Some b) at t =
    subst (λ o. option_map_or ends_itself o false ≡ true) (sym (event_at-older e history p (within history p b at) ∙ at)) t

length-one : (xs : List ℕ) (x : ℕ) → length (xs ++ x ∷ []) ≡ length xs + 1
length-one xs x = length-append xs (x ∷ [])

-- what is over stays over
pub over-older : (e : Event) (history : List Event) (p : ℕ) → IsTrue (is_over history p) → IsTrue (is_over (e ∷ history) p)
over-older e history p over =
    or-more (has_ended history p) (option_map_or ends_itself (event_at history p) false) (has_ended (e ∷ history) p) (option_map_or ends_itself (event_at (e ∷ history) p) false)
    (has_ended-older e history p) (λ t. ends-older e history p (event_at history p) refl t) over

pub other_law : StreamOtherLaw
other_law with commands e history next opened now_opened streams none ends = record {
  counts = λ s. streams.counts s ∙ sym (ap length (begins_of-other e history s (begins-none s e none)));
  begun = λ i c at low.
      let found = streams.begun i c at low in (
        found.0,
        ap (λ ps. get_or ps i None) (places-other with [] commands e history none) ∙ found.1,
        elim found.2 [
          | inl over ↦ inl (over-older e history found.0 over)
          | inr is ↦ ends (session_of with c) found.0 is
        ],
      );
}

pub begin_law : StreamBeginLaw
begin_law with front c back e history next now_next opened now_opened streams is none session on =
    let commands = front ++ c ∷ back in
    let s = session_of with c in
    let placed = has-place with front c back e history session (ap (count_of with s) (sym (ap (λ n. take n commands) is ∙ take-front front (c ∷ back))) ∙ streams.counts s) in
    record {
      counts = λ t. elim (same-or t s) [
        | inl same ↦
            ap (λ x. count_of with x (take (now_next x) commands)) same ∙ on.one
            ∙ ap (λ n. n + 1) (ap (λ n. count_of with s (take n commands)) (sym is) ∙ streams.counts s)
            ∙ sym (begins-longer s) ∙ sym (ap (λ x. length (begins_of (e ∷ history) x)) same)
        | inr apart ↦ ap (λ n. count_of with t (take n commands)) (on.others t apart).0 ∙ streams.counts t
            ∙ sym (ap length (begins_of-other e history t (not-begins t apart)))
      ];
      begun = λ i b at low. elim (same-or i (length front)) [
        | inl here ↦
            let one : b ≡ c = some-eq b c (slice_get commands (length front)) (subst (λ n. slice_get commands n ≡ Some b) here at) (get-middle front back c) in (
              length history,
              ap (place_in with commands (e ∷ history)) here ∙ placed.here,
              elim on.opens [
                | inl over ↦ inl over
                | inr opens ↦ inr (ap (λ (x : Command). now_opened (session_of with x)) one ∙ opens)
              ],
            )
        | inr there ↦ elim (same-or (session_of with b) s) [
          | inl same ↦
              let below : i < length front = elim (below-or i (length front)) [
                | inl less ↦ less
                | inr more ↦ absurd (on.no_other i b at (omega arith) (subst (λ x. i < now_next x) same low) same)
              ] in
              let found = streams.begun i b at (subst (λ x. i < next x) (sym same) (omega (arith, is))) in
              (found.0, placed.others i there ∙ found.1, inl (over-older e history found.0 (over-now (opened (session_of with b)) found.0 history (ap opened same ∙ none) found.2)))
          | inr apart ↦
              let found = streams.begun i b at (subst (λ n. i < n) (on.others (session_of with b) apart).0 low) in (
                found.0,
                placed.others i there ∙ found.1,
                elim found.2 [
                  | inl over ↦ inl (over-older e history found.0 over)
                  | inr opens ↦ inr ((on.others (session_of with b) apart).1 ∙ opens)
                ],
              )
        ]
      ];
    }
  where
    begins-longer : (x : ℕ) → length (begins_of (e ∷ history) (session_of with c)) ≡ length (begins_of history (session_of with c)) + 1
    begins-longer x = ap length (begins_of-here e history (session_of with c) (begins-own (session_of with c) e session)) ∙ length-one (begins_of history (session_of with c)) (length history)

    not-begins : (t : ℕ) → t ≢ session_of with c → begins_in t e ≡ false
    not-begins t apart = elim (bool-or (begins_in t e)) [
      | inl begins ↦ absurd (apart (sym (begins-same (session_of with c) t e session begins)))
      | inr other ↦ other
    ]
