-- The next command of a stream begins.
use Rattle.std.proofs.Common.{◌≡◌, ◌≢◌, ◌∙◌, ℕ, zero, suc, ◌<◌, ◌⊎◌, inl, inr, List, [], ◌∷◌, ◌++◌, length, get_or, take, refl, sym, ap, subst, arith}
use Rattle.std.specs.Prelude.{Option, Some, None, slice_get, IsTrue}
use Rattle.row_ledger.specs.{Past.{is_over, session_in}, declared.event.Event.Event, declared.settings.Use.Use}
use Rattle.script_form.specs.declared.script.Command.{Command}
use Rattle.script_run.specs.{Parts.{HasPlace, place_in}, Places.{session_of, count_of, begins_of, places, places_behind}, Streams.NextLaw}
use Rattle.script_run.proofs.{Begin.places-begin, PlaceFacts.places_behind-length}

pub take-front : {A : Type 0} → (xs ys : List A) → take (length xs) (xs ++ ys) ≡ xs
take-front [] ys = refl
take-front (x ∷ xs) ys = ap (λ l. x ∷ l) (take-front xs ys)

pub get-middle : {A : Type 0} → (xs ys : List A) (x : A) → slice_get (xs ++ x ∷ ys) (length xs) ≡ Some x
get-middle [] ys x = refl
get-middle (z ∷ xs) ys x = get-middle xs ys x

or-middle : {A : Type 0} → (xs ys : List A) (x d : A) (k : ℕ) → k ≡ length xs → get_or (xs ++ x ∷ ys) k d ≡ x
or-middle xs ys x d k is = subst (λ n. get_or (xs ++ x ∷ ys) n d ≡ x) (sym is) (go xs)
  where
    go : (zs : List _) → get_or (zs ++ x ∷ ys) (length zs) d ≡ x
    go [] = refl
    go (z ∷ zs) = go zs

or-others : {A : Type 0} → (xs ys : List A) (x z d : A) (i : ℕ) → i ≢ length xs → get_or (xs ++ x ∷ ys) i d ≡ get_or (xs ++ z ∷ ys) i d
or-others [] ys x z d zero h = absurd (h refl)
or-others [] ys x z d (suc i) h = refl
or-others (w ∷ xs) ys x z d zero h = refl
or-others (w ∷ xs) ys x z d (suc i) h = or-others xs ys x z d i (λ e. h (ap suc e))

pub some-eq : {A : Type 0} → (x y : A) (o : Option A) → o ≡ Some x → o ≡ Some y → x ≡ y
some-eq x y o a b = cc

pub over-now : (o : Option ℕ) (p : ℕ) (history : List Event) → o ≡ None → IsTrue (is_over history p) ⊎ (o ≡ Some p) → IsTrue (is_over history p)
over-now o p history none (inl over) = over
over-now o p history none (inr open_) = cc

pub has-place : (with : Use) (front : List Command) (c : Command) (back : List Command) (e : Event) (history : List Event) → session_in e ≡ Some (session_of with c)
    → count_of with (session_of with c) front ≡ length (begins_of history (session_of with c))
    → HasPlace (length front) (length history) (place_in with (front ++ c ∷ back) history) (place_in with (front ++ c ∷ back) (e ∷ history))
has-place with front c back e history session count =
    let both = places-begin with front c back e history session count in
    let len : length (places with front history) ≡ length front = places_behind-length with [] front history in
    record {
      here = ap (λ ps. get_or ps (length front) None) both.now ∙ or-middle (places with front history) (places_behind with (front ++ c ∷ []) back history) (Some (length history)) None (length front) (sym len);
      others = λ i not.
          ap (λ ps. get_or ps i None) both.now
          ∙ or-others (places with front history) (places_behind with (front ++ c ∷ []) back history) (Some (length history)) None None i (λ at. not (at ∙ len))
          ∙ sym (ap (λ ps. get_or ps i None) both.before);
    }

-- the next command of a session has no place yet
pub next-none : (with : Use) (front : List Command) (c : Command) (back : List Command) (e : Event) (history : List Event) → session_in e ≡ Some (session_of with c)
    → count_of with (session_of with c) front ≡ length (begins_of history (session_of with c)) → place_in with (front ++ c ∷ back) history (length front) ≡ None
next-none with front c back e history session count =
    let len : length (places with front history) ≡ length front = places_behind-length with [] front history in
    ap (λ ps. get_or ps (length front) None) (places-begin with front c back e history session count).before
    ∙ or-middle (places with front history) (places_behind with (front ++ c ∷ []) back history) None None (length front) (sym len)

pub next_law : NextLaw
next_law with h front c back e history next opened streams is none behind session begins =
    let commands = front ++ c ∷ back in
    let s = session_of with c in
    let front-is : take (next s) commands ≡ front = ap (λ n. take n commands) is ∙ take-front front (c ∷ back) in
    let count : count_of with s front ≡ length (begins_of history s) = ap (count_of with s) (sym front-is) ∙ streams.counts s in (
      record {
        command = c;
        at = get-middle front back c;
        none = next-none with front c back e history session count;
        begins = begins;
        waited = λ i b at_b w.
            elim w.1 [
              | inl same ↦
                  let one : session_of with b ≡ s = same b c at_b (get-middle front back c) in
                  let low : i < next (session_of with b) = subst (λ x. i < next x) (sym one) (omega (arith, w.0, is)) in
                  let found = streams.begun i b at_b low in
                  (found.0, found.1, over-now (opened (session_of with b)) found.0 history (ap opened one ∙ none) found.2)
              | inr lower ↦ behind i b at_b lower
            ];
        itself = λ w. omega (arith, w.0);
      },
      has-place with front c back e history session count,
    )
