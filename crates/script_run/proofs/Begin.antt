-- The places of commands when one of them begins.
use Rattle.std.proofs.{Common.{◌≡◌, ◌∙◌, ℕ, ◌<◌, ◌≤◌, ◌⊎◌, inl, inr, Bool, true, false, List, [], ◌∷◌, ◌++◌, length, refl, sym, ap, subst, arith, append_assoc, length-append}, lemmas.Bool.{eq-eqb, eqb-true}, lemmas.Option.slice_get_past}
use Rattle.std.specs.{Option.option_map_or, Prelude.{Some, None, slice_get, ◌==◌}}
use Rattle.row_ledger.specs.{Past.session_in, declared.event.Event.Event, declared.settings.Use.Use}
use Rattle.script_form.specs.declared.script.Command.{Command}
use Rattle.script_run.specs.Places.{session_of, count_of, begins_in, begins_of, place_behind, places_behind, places}
use Rattle.script_run.proofs.PlaceFacts.{begins_of-here, begins_of-other, count_of-append, places_behind-append, own_count, slice_get-left}

-- An event that begins nothing moves no place.
pub begins-none : (session : ℕ) (e : Event) → session_in e ≡ None → begins_in session e ≡ false
begins-none session e none = rw none refl

pub places-other : (with : Use) (before cs : List Command) (e : Event) (history : List Event) → session_in e ≡ None
    → places_behind with before cs (e ∷ history) ≡ places_behind with before cs history
unfolding places_behind
places-other with before [] e history none = refl
places-other with before (c ∷ cs) e history none =
    ap (λ ps. slice_get ps (count_of with (session_of with c) before) ∷ places_behind with (before ++ c ∷ []) cs (e ∷ history))
    (begins_of-other e history (session_of with c) (begins-none (session_of with c) e none))
    ∙ ap (λ ps. place_behind with before c history ∷ ps) (places-other with (before ++ c ∷ []) cs e history none)

-- An event that begins a command of a session.

pub bool-or : (b : Bool) → (b ≡ true) ⊎ (b ≡ false)
bool-or true = inl refl
bool-or false = inr refl

pub begins-same : (s t : ℕ) (e : Event) → session_in e ≡ Some s → begins_in t e ≡ true → s ≡ t
begins-same s t e is begins = let b : (s == t) ≡ true = subst (λ o. option_map_or (λ x. x == t) o false ≡ true) is begins in eqb-true s t b

pub begins-own : (s : ℕ) (e : Event) → session_in e ≡ Some s → begins_in s e ≡ true
begins-own s e is = rw is (eq-eqb s s refl)

get-last : (xs : List ℕ) (x i : ℕ) → i ≡ length xs → slice_get (xs ++ x ∷ []) i ≡ Some x
get-last xs x i is = subst (λ n. slice_get (xs ++ x ∷ []) n ≡ Some x) (sym is) (go xs)
  where
    go : (ys : List ℕ) → slice_get (ys ++ x ∷ []) (length ys) ≡ Some x
    go [] = refl
    go (y ∷ ys) = go ys

-- a command's place stays where it isn't the next one of the session
place-kept : (with : Use) (before : List Command) (c : Command) (e : Event) (history : List Event) (s : ℕ) → session_in e ≡ Some s
    → (session_of with c ≡ s → (count_of with s before < length (begins_of history s)) ⊎ (length (begins_of history s) < count_of with s before))
    → place_behind with before c (e ∷ history) ≡ place_behind with before c history
place-kept with before c e history s is apart =
    elim (bool-or (begins_in (session_of with c) e)) [
      | inr not ↦ ap (λ ps. slice_get ps (count_of with (session_of with c) before)) (begins_of-other e history (session_of with c) not)
      | inl begins ↦
          let same : session_of with c ≡ s = sym (begins-same s (session_of with c) e is begins) in
          let k = count_of with (session_of with c) before in
          let more = ap (λ ps. slice_get ps k) (begins_of-here e history (session_of with c) begins) in
          let counts = apart same in
          let t = session_of with c in
          let len : length (begins_of history t) ≡ length (begins_of history s) = ap (λ x. length (begins_of history x)) same in
          let num : k ≡ count_of with s before = ap (λ x. count_of with x before) same in
          elim counts [
            | inl below ↦ more ∙ slice_get-left (begins_of history t) (length history ∷ []) k (omega (arith, len, num, below))
            | inr above ↦ more ∙ slice_get_past (begins_of history t ++ length history ∷ []) k (omega (arith, len, num, above, length-append (begins_of history t) (length history ∷ [])))
                ∙ sym (slice_get_past (begins_of history t) k (omega (arith, len, num, above)))
          ]
    ]

pub places-front : (with : Use) (before cs : List Command) (e : Event) (history : List Event) (s : ℕ) → session_in e ≡ Some s
    → count_of with s (before ++ cs) ≤ length (begins_of history s) → places_behind with before cs (e ∷ history) ≡ places_behind with before cs history
unfolding places_behind
places-front with before [] e history s is few = refl
places-front with before (c ∷ cs) e history s is few =
    let below : session_of with c ≡ s → count_of with s before < length (begins_of history s) =
    λ same. (let own : 1 ≤ count_of with s (c ∷ cs) = subst (λ x. 1 ≤ count_of with x (c ∷ cs)) same (own_count with c cs) in
    omega (arith, own, few, count_of-append with s before (c ∷ cs))) in
    ap (λ p. p ∷ places_behind with (before ++ c ∷ []) cs (e ∷ history)) (place-kept with before c e history s is (λ same. inl (below same)))
    ∙ ap (λ ps. place_behind with before c history ∷ ps)
    (places-front with (before ++ c ∷ []) cs e history s is (subst (λ l. count_of with s l ≤ length (begins_of history s)) (sym (append_assoc before (c ∷ []) cs)) few))

pub places-back : (with : Use) (before cs : List Command) (e : Event) (history : List Event) (s : ℕ) → session_in e ≡ Some s
    → length (begins_of history s) < count_of with s before → places_behind with before cs (e ∷ history) ≡ places_behind with before cs history
unfolding places_behind
places-back with before [] e history s is many = refl
places-back with before (c ∷ cs) e history s is many =
    ap (λ p. p ∷ places_behind with (before ++ c ∷ []) cs (e ∷ history)) (place-kept with before c e history s is (λ same. inr many))
    ∙ ap (λ ps. place_behind with before c history ∷ ps)
    (places-back with (before ++ c ∷ []) cs e history s is (omega (arith, many, count_of-append with s before (c ∷ []))))

-- The next command of the session has its place now, and no other place moves.
pub record Begin (with : Use) (front : List Command) (c : Command) (back : List Command) (e : Event) (history : List Event) : Type 0 where
  pub before : places with (front ++ c ∷ back) history ≡ places with front history ++ None ∷ places_behind with (front ++ c ∷ []) back history
  pub now : places with (front ++ c ∷ back) (e ∷ history) ≡ places with front history ++ Some (length history) ∷ places_behind with (front ++ c ∷ []) back history

pub places-begin : (with : Use) (front : List Command) (c : Command) (back : List Command) (e : Event) (history : List Event) → session_in e ≡ Some (session_of with c)
    → count_of with (session_of with c) front ≡ length (begins_of history (session_of with c)) → Begin with front c back e history
unfolding places_behind
places-begin with front c back e history is count =
    let s = session_of with c in
    let split = λ (h : List Event). places_behind-append with [] front (c ∷ back) h in
    let one : 1 ≤ count_of with s (c ∷ []) = own_count with c [] in
    let here : place_behind with front c (e ∷ history) ≡ Some (length history) =
    ap (λ ps. slice_get ps (count_of with s front)) (begins_of-here e history s (begins-own s e is)) ∙ get-last (begins_of history s) (length history) (count_of with s front) count in
    let none : place_behind with front c history ≡ None = slice_get_past (begins_of history s) (count_of with s front) (omega arith) in
    let front-same : places with front (e ∷ history) ≡ places with front history = places-front with [] front e history s is (omega arith) in
    let back-same = places-back with (front ++ c ∷ []) back e history s is (omega (arith, count_of-append with s front (c ∷ []))) in
    record {
      before = split history ∙ ap (λ o. places with front history ++ o ∷ places_behind with (front ++ c ∷ []) back history) none;
      now = split (e ∷ history)
          ∙ ap (λ ps. ps ++ place_behind with front c (e ∷ history) ∷ places_behind with (front ++ c ∷ []) back (e ∷ history)) front-same
          ∙ ap (λ o. places with front history ++ o ∷ places_behind with (front ++ c ∷ []) back (e ∷ history)) here
          ∙ ap (λ ps. places with front history ++ Some (length history) ∷ ps) back-same;
    }
