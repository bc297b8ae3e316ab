-- Where commands begin, one command more at a time.
use Rattle.std.proofs.{Common.{◌≡◌, ◌∙◌, ℕ, ◌+◌, ◌<◌, ◌≤◌, List, [], ◌∷◌, ◌++◌, true, false, Option, Some, None, length, get_or, set, take, drop, append-nil, refl, ap, sym, inl, inr, arith}, lemmas.Bool.{cases_Bool, eqb-true, eqb-false, eq-eqb}, lemmas.List.{append_assoc, drop_more, drop_all, take_more, length-take, length-set, get_or-set_same, get_or-set_other, get_or_read}, lemmas.List.Elements.{All-nil, All-cons, All-get_or}, lemmas.List.Sums.{count_by_more_yes, count_by_more_no, count_by-le-length}, lemmas.Option.{slice_get_within, get_or_from_slice_get}}
use Rattle.std.specs.Prelude.{All, slice_get, ◌==◌}
use Rattle.row_ledger.specs.{declared.event.Event.Event, declared.settings.Use.Use}
use Rattle.script_form.specs.declared.script.Command.{Command}
use Rattle.script_run.specs.{Places.{begins_of, count_of, place_behind, places_behind, session_of}, Streams.sessions}
use Rattle.answer_text.specs.Marks.{Counts, IsPosition}
use Rattle.answer_text.proofs.MarkFacts.{begins_of-below}

-- The commands of each session so far.

pub count_read : (counts : List ℕ) (with : Use) (before : List Command) (session count : ℕ) → Counts counts with before → session < sessions
    → count ≡ get_or counts session count → count ≡ count_of with session before
count_read counts with before session count so_far few read =
    get_or_read counts session count (rw so_far.len few) read 0 ∙ so_far.counted session few

counted_at : (counts : List ℕ) (with : Use) (cs : List Command) (i : ℕ) (c : Command) (session count s : ℕ) → i < length cs → c ≡ get_or cs i c
    → session ≡ session_of with c → count ≡ count_of with session (take i cs) → s < length counts → get_or counts s 0 ≡ count_of with s (take i cs)
    → get_or (set counts session (count + 1)) s 0 ≡ count_of with s (take (i + 1) cs)
counted_at counts with cs i c session count s inside is its here below old =
    elim (cases_Bool (session == s)) [
      | inl same ↦
          let at : session ≡ s = eqb-true session s same in
          let few : session < length counts = omega arith in
          let passes : session_of with (get_or cs i c) == session ≡ true = rw (← is, ← its) (eq-eqb session session refl) in
          rw (← at) (get_or-set_same counts session (count + 1) 0 few ∙ (ap (λ n. n + 1) here ∙ sym (count_by_more_yes (λ x. session_of with x == session) cs i c inside passes)))
      | inr other ↦
          let fails : session_of with (get_or cs i c) == s ≡ false = rw (← is, ← its) other in
          get_or-set_other counts session s (count + 1) 0 (λ e. eqb-false session s other (sym e)) ∙ (old ∙ sym (count_by_more_no (λ x. session_of with x == s) cs i c inside fails))
    ]

pub counts_more : (counts : List ℕ) (with : Use) (cs : List Command) (i : ℕ) (c : Command) (session count : ℕ) → i < length cs → c ≡ get_or cs i c
    → session ≡ session_of with c → count ≡ count_of with session (take i cs) → Counts counts with (take i cs) → Counts (set counts session (count + 1)) with (take (i + 1) cs)
counts_more counts with cs i c session count inside is its here so_far =
    record {
      len = length-set counts session (count + 1) ∙ so_far.len;
      counted = λ s below. counted_at counts with cs i c session count s inside is its here (rw so_far.len below) (so_far.counted s below);
    }

-- there are at most as many as commands
pub counts-le : (with : Use) (cs : List Command) (i s : ℕ) → count_of with s (take i cs) ≤ i
counts-le with cs i s = omega (arith, count_by-le-length (λ c. session_of with c == s) (take i cs), length-take i cs)

-- The places.

pub places_more : (with : Use) (cs : List Command) (i : ℕ) (c : Command) (h : List Event) → i < length cs → c ≡ get_or cs i c
    → places_behind with (take i cs) (drop i cs) h ≡ place_behind with (take i cs) c h ∷ places_behind with (take (i + 1) cs) (drop (i + 1) cs) h
unfolding places_behind
places_more with cs i c h inside is = rw (drop_more cs i c inside, ← is, take_more cs i c inside, ← is) refl

pub places_end : (with : Use) (cs : List Command) (i : ℕ) (h : List Event) → length cs ≤ i → places_behind with (take i cs) (drop i cs) h ≡ []
unfolding places_behind
places_end with cs i h all = rw (drop_all i cs all) refl

-- a loop that takes them
pub taken_more : (taken whole : List (Option ℕ)) (with : Use) (cs : List Command) (i : ℕ) (c : Command) (h : List Event) (session count : ℕ) (place : Option ℕ)
    → i < length cs → c ≡ get_or cs i c → session ≡ session_of with c → count ≡ count_of with session (take i cs) → place ≡ slice_get (begins_of h session) count
    → taken ++ places_behind with (take i cs) (drop i cs) h ≡ whole → (taken ++ place ∷ []) ++ places_behind with (take (i + 1) cs) (drop (i + 1) cs) h ≡ whole
taken_more taken whole with cs i c h session count place inside is its here at so_far =
    let begins : place ≡ place_behind with (take i cs) c h = rw (← its, ← here) at in
    rw (append_assoc, begins, ← places_more with cs i c h inside is) so_far

pub taken_all : (taken whole : List (Option ℕ)) (with : Use) (cs : List Command) (i : ℕ) (h : List Event) → length cs ≤ i
    → taken ++ places_behind with (take i cs) (drop i cs) h ≡ whole → taken ≡ whole
taken_all taken whole with cs i h all so_far = let end = rw (places_end with cs i h all, append-nil taken) at so_far in end

place-is : (h : List Event) (s n : ℕ) (place : Option ℕ) → slice_get (begins_of h s) n ≡ place → IsPosition h place
place-is h s n None is = tt
place-is h s n (Some p) is =
    let within : n < length (begins_of h s) = slice_get_within (begins_of h s) n p is in
    rw (← get_or_from_slice_get (begins_of h s) n p 0 is) (All-get_or (λ q. q < length h) (begins_of h s) n 0 within (begins_of-below h s))

pub places-are : (with : Use) (before cs : List Command) (h : List Event) → All (IsPosition h) (places_behind with before cs h)
unfolding places_behind
places-are with before [] h = All-nil (IsPosition h)
places-are with before (c ∷ cs) h =
    All-cons (IsPosition h) (place_behind with before c h) (places_behind with (before ++ c ∷ []) cs h) (place-is h (session_of with c) (count_of with (session_of with c) before) (place_behind with before c h) refl) (places-are with (before ++ c ∷ []) cs h)
