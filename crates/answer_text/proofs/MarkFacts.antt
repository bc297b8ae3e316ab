-- What is noted of a history, one event more at a time.
use Rattle.std.proofs.{Common.{◌≡◌, ◌∙◌, ℕ, zero, suc, ◌+◌, ◌<◌, ◌≤◌, ◌⊎◌, List, [], ◌∷◌, ◌==◌, Option, Some, None, length, get_or, take, reverse, refl, ap, sym, subst, inl, inr, arith}, lemmas.Bool.{cases_Bool, eqb-true}, lemmas.Bool.Decides.nat_tests, lemmas.List.{take_more, reverse-append, length-reverse, length-take-le}, lemmas.List.Elements.{All-nil, All-push, All-weaker}, lemmas.Option.same_Some}
use Rattle.std.specs.{Option.option_or, Prelude.{IfSome, false, find, is_some, option_and_then, true, All}}
use Rattle.row_ledger.specs.{Belonging.number_in, Past.{end_in, event_at, has_ended, is_end_of, page_in, page_of, session_in}, declared.event.Event.Event, declared.event.Event.TheVariants.{Acked, Answered, Failed, Split, Shown, Ended}, declared.page.Page.Page}
use Rattle.script_run.specs.{Places.{begins_in, begins_of}, Streams.sessions}
use Rattle.answer_text.specs.{Marks.{HasBegin, HasMark, IsPosition, IsQuiet, KnowsBegins, KnowsNewest, RefersBack, is_at, newest, shown, shown_for}, Notes.KnowsMarks, Printed.split_for, declared.notes.Notes.Notes}

-- a loop over events, the newest first
pub past_more : (events : List Event) (i : ℕ) (e : Event) → i < length events → e ≡ get_or events i e → reverse (take (i + 1) events) ≡ e ∷ reverse (take i events)
past_more events i e inside is = rw (take_more events i e inside, ← is, reverse-append) refl

pub past_length : (events : List Event) (i : ℕ) → i ≤ length events → length (reverse (take i events)) ≡ i
past_length events i inside = length-reverse (take i events) ∙ length-take-le i events inside

-- The beginnings by session.

pub begins_none : (lists : List (List ℕ)) → length lists ≡ sessions → ((s : ℕ) → s < sessions → get_or lists s [] ≡ []) → KnowsBegins lists []
unfolding begins_of
begins_none lists len none = record { len = len; begun = none }

begins_more : (lists new : List (List ℕ)) (past : List Event) (e : Event) (i : ℕ) → KnowsBegins lists past → length past ≡ i → HasBegin (session_in e) i lists new
    → KnowsBegins new (e ∷ past)
unfolding begins_of
begins_more lists new past e i known at has =
    record {
      len = has.len ∙ known.len;
      begun = λ s below. rw (has.begun s (rw known.len below), known.begun s below, at) refl;
    }

-- The newest marks by position.

-- nothing is noted of nothing
pub newest_nothing : (marks : Event → Option ℕ) (noted : List (Option ℕ)) → noted ≡ [] → KnowsNewest marks 0 noted []
newest_nothing marks noted none = record { few = omega (arith, ap length none); known = λ p below. absurd (omega arith) }

none-past : (xs : List (Option ℕ)) (p : ℕ) → length xs ≤ p → get_or xs p None ≡ None
none-past [] p beyond = refl
none-past (x ∷ xs) zero beyond = absurd (omega arith)
none-past (x ∷ xs) (suc p) beyond = none-past xs p (omega arith)

-- positions behind a history have no mark yet
newest_further : (marks : Event → Option ℕ) (n : ℕ) (noted : List (Option ℕ)) (past : List Event) → length past ≤ n → IsQuiet marks past
    → KnowsNewest marks (length past) noted past → KnowsNewest marks n noted past
newest_further marks n noted past more quiet so_far =
    let few : length noted ≤ length past = so_far.few in
    record {
      few = omega arith;
      known = λ p below. elim (below-or p (length past)) [
        | inl within ↦ so_far.known p within
        | inr beyond ↦ none-past noted p (omega arith) ∙ sym (quiet p beyond)
      ];
    }
  where
    below-or : (a b : ℕ) → (a < b) ⊎ (b ≤ a)
    below-or a b = grind arith

newest_more : (marks : Event → Option ℕ) (n : ℕ) (noted new : List (Option ℕ)) (past : List Event) (e : Event) (i : ℕ) → KnowsNewest marks n noted past → length past ≡ i
    → HasMark n (marks e) i noted new → KnowsNewest marks n new (e ∷ past)
unfolding newest
newest_more marks n noted new past e i so_far at has =
    record {
      few = has.few;
      known = λ p below. rw (has.noted p below, so_far.known p below, at) refl;
    }

-- an event is noted for all lists
pub marks_more : (n : ℕ) (notes new : Notes) (past : List Event) (e : Event) (i : ℕ) → KnowsMarks n notes past → length past ≡ i
    → HasBegin (session_in e) i notes.begins.items new.begins.items → HasMark n (end_in e) i notes.ends.items new.ends.items → HasMark n (shown_for e) i notes.pages.items new.pages.items
    → HasMark n (split_for e) i notes.splits.items new.splits.items → KnowsMarks n new (e ∷ past)
marks_more n notes new past e i known at begun ended shown split =
    record {
      begins = begins_more notes.begins.items new.begins.items past e i known.begins at begun;
      ends = newest_more end_in n notes.ends.items new.ends.items past e i known.ends at ended;
      pages = newest_more shown_for n notes.pages.items new.pages.items past e i known.pages at shown;
      splits = newest_more split_for n notes.splits.items new.splits.items past e i known.splits at split;
    }

-- Where each event refers back, none marks a command that begins behind them all.

-- a mark is the number of the command to which the event belongs
abbrev IsNumber : (Event → Option ℕ) → Type 0
IsNumber marks = (e : Event) (o : ℕ) → marks e ≡ Some o → number_in e ≡ Some o

ends-number : IsNumber end_in
ends-number (Acked of path) o is = is
ends-number (Answered of agg) o is = is
ends-number (Failed of) o is = is
ends-number (Ended of how) o is = is
ends-number e o is = cc

pages-number : IsNumber shown_for
pages-number (Shown of page) o is = is
pages-number e o is = cc

splits-number : IsNumber split_for
splits-number (Split of shard left right) o is = is
splits-number e o is = cc

quiet-at : (place number : Option ℕ) (n p : ℕ) → ((of : ℕ) → place ≡ Some of → number ≡ Some of) → IfSome number (λ of. of < n) → n ≤ p → is_at p place ≡ false
quiet-at None number n p same back low = refl
quiet-at (Some of) number n p same back low =
    let below : of < n = subst (λ o. IfSome o (λ x. x < n)) (same of refl) back in
    elim (cases_Bool (of == p)) [
      | inl here ↦ absurd (omega (arith, eqb-true of p here, below, low))
      | inr other ↦ other
    ]

quiet : (marks : Event → Option ℕ) (past : List Event) → IsNumber marks → RefersBack past → IsQuiet marks past
unfolding newest
quiet marks [] number back = λ p low. refl
quiet marks (e ∷ past) number back =
    λ p low. rw (quiet-at (marks e) (number_in e) (length past) p (number e) back.0 (omega arith)) (quiet marks past number back.1 p (omega arith))

pub marks_further : (n : ℕ) (notes : Notes) (past : List Event) → length past ≤ n → RefersBack past → KnowsMarks (length past) notes past → KnowsMarks n notes past
marks_further n notes past more back known =
    record {
      begins = known.begins;
      ends = newest_further end_in n notes.ends.items past more (quiet end_in past ends-number back) known.ends;
      pages = newest_further shown_for n notes.pages.items past more (quiet shown_for past pages-number back) known.pages;
      splits = newest_further split_for n notes.splits.items past more (quiet split_for past splits-number back) known.splits;
    }

-- The event at the position of a mark.

newest-below : (marks : Event → Option ℕ) (h : List Event) (p q : ℕ) → newest marks h p ≡ Some q → q < length h
unfolding newest
newest-below marks [] p q is = absurd (cc)
newest-below marks (e ∷ past) p q is =
    elim (cases_Bool (is_at p (marks e))) [
      | inl here ↦ let same = rw here at is in let at : length past ≡ q = same_Some (length past) q same in omega arith
      | inr older ↦ let before = rw older at is in omega (arith, newest-below marks past p q before)
    ]

event_at-older : (e : Event) (past : List Event) (place : Option ℕ) → ((q : ℕ) → place ≡ Some q → q < length past)
    → option_and_then (event_at (e ∷ past)) place ≡ option_and_then (event_at past) place
event_at-older e past None below = refl
event_at-older e past (Some q) below = let older = below q refl in grind (arith, nat_tests)

event_at-newest : (e : Event) (past : List Event) → event_at (e ∷ past) (length past) ≡ Some e
event_at-newest e past = grind (arith, nat_tests)

newest_event : (marks : Event → Option ℕ) (h : List Event) (p : ℕ) → option_and_then (event_at h) (newest marks h p) ≡ find (λ e. is_at p (marks e)) h
unfolding newest
newest_event marks [] p = refl
newest_event marks (e ∷ past) p =
    elim (cases_Bool (is_at p (marks e))) [
      | inl here ↦ rw here (event_at-newest e past)
      | inr older ↦ rw older (event_at-older e past (newest marks past p) (newest-below marks past p) ∙ newest_event marks past p)
    ]

-- what is noted for a command is where the newest event stands that marks it

newest-position : (h : List Event) (place : Option ℕ) → ((q : ℕ) → place ≡ Some q → q < length h) → IsPosition h place
newest-position h None below = tt
newest-position h (Some q) below = below q refl

pub noted-position : (marks : Event → Option ℕ) (h : List Event) (noted : List (Option ℕ)) (p : ℕ) → KnowsNewest marks (length h) noted h → p < length h
    → IsPosition h (get_or noted p None)
noted-position marks h noted p so_far below = rw (so_far.known p below) (newest-position h (newest marks h p) (newest-below marks h p))

pub noted-event : (marks : Event → Option ℕ) (h : List Event) (noted : List (Option ℕ)) (p : ℕ) → KnowsNewest marks (length h) noted h → p < length h
    → option_and_then (event_at h) (get_or noted p None) ≡ find (λ e. is_at p (marks e)) h
noted-event marks h noted p so_far below = rw (so_far.known p below) (newest_event marks h p)

has_ended-at : (h : List Event) (p : ℕ) → is_some (newest end_in h p) ≡ has_ended h p
unfolding newest
has_ended-at [] p = refl
has_ended-at (e ∷ past) p =
    elim (cases_Bool (is_end_of p e)) [
      | inl here ↦ rw here refl
      | inr older ↦ rw older (has_ended-at past p)
    ]

pub noted-ended : (h : List Event) (noted : List (Option ℕ)) (p : ℕ) → KnowsNewest end_in (length h) noted h → p < length h → is_some (get_or noted p None) ≡ has_ended h p
noted-ended h noted p so_far below = rw (so_far.known p below) (has_ended-at h p)

page_in-here : (e : Event) (p : ℕ) (older : Option Page) → is_at p (shown_for e) ≡ true → option_or (page_in p e) older ≡ shown e
page_in-here (Shown of page) p older here = rw here refl
page_in-here e p older here = absurd (cc)

page_in-other : (e : Event) (p : ℕ) (older : Option Page) → is_at p (shown_for e) ≡ false → option_or (page_in p e) older ≡ older
page_in-other (Shown of page) p older other = rw other refl
page_in-other e p older other = refl

-- the page of the newest event that shows one
newest-page : (h : List Event) (p : ℕ) → option_and_then shown (find (λ e. is_at p (shown_for e)) h) ≡ page_of h p
newest-page [] p = refl
newest-page (e ∷ past) p =
    elim (cases_Bool (is_at p (shown_for e))) [
      | inl here ↦ rw (here, page_in-here e p (page_of past p) here) refl
      | inr older ↦ rw (older, page_in-other e p (page_of past p) older) (newest-page past p)
    ]

pub noted-page : (h : List Event) (noted : List (Option ℕ)) (p : ℕ) → KnowsNewest shown_for (length h) noted h → p < length h
    → option_and_then shown (option_and_then (event_at h) (get_or noted p None)) ≡ page_of h p
noted-page h noted p so_far below = ap (option_and_then shown) (noted-event shown_for h noted p so_far below) ∙ newest-page h p

-- Beginnings are positions.

are_below : (e : Event) (past : List Event) (positions : List ℕ) → All (λ p. p < length past) positions → All (λ p. p < length (e ∷ past)) positions
are_below e past positions below = All-weaker (λ p. p < length past) (λ p. p < length (e ∷ past)) (λ p less. omega arith) positions below

pub begins_of-below : (h : List Event) (s : ℕ) → All (λ p. p < length h) (begins_of h s)
unfolding begins_of
begins_of-below [] s = All-nil (λ p. p < 0)
begins_of-below (e ∷ past) s =
    let older = are_below e past (begins_of past s) (begins_of-below past s) in
    elim (cases_Bool (begins_in s e)) [
      | inl here ↦ rw here (All-push (λ p. p < length (e ∷ past)) (begins_of past s) (length past) older (omega arith))
      | inr other ↦ rw other older
    ]
