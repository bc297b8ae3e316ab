-- The stream of a session: a command of it by its place in the stream and by its place among all.
use Rattle.std.proofs.{Common.{◌≡◌, ◌∙◌, ℕ, zero, suc, ◌+◌, ◌<◌, Bool, true, false, List, [], ◌∷◌, ◌++◌, length, take, get_or, Some, None, refl, sym, ap, arith, append_assoc, append-nil}, lemmas.Bool.{eq-eqb, eqb-true}, lemmas.List.Sums.length-filter}
use Rattle.std.specs.Prelude.{◌==◌, slice_get}
use Rattle.row_ledger.specs.{declared.event.Event.Event, declared.settings.Use.Use}
use Rattle.script_form.specs.declared.script.Command.{Command}
use Rattle.script_run.proofs.{Between.{get-behind, take-behind}, PlaceFacts.count_of-append}
use Rattle.script_run.specs.{Parts.place_in, Places.{begins_of, count_of, place_behind, places_behind, session_of}}
use Rattle.session_runs.specs.Sessions.{stream_of}

pub stream-length : (with : Use) (cs : List Command) (s : ℕ) → length (stream_of with cs s) ≡ count_of with s cs
stream-length with cs s = length-filter (λ c. session_of with c == s) cs

-- A command and the rest.

own-stream : (with : Use) (s : ℕ) (c : Command) (cs : List Command) → (session_of with c == s) ≡ true → stream_of with (c ∷ cs) s ≡ c ∷ stream_of with cs s
own-stream with s c cs own = rw own refl

other-stream : (with : Use) (s : ℕ) (c : Command) (cs : List Command) → (session_of with c == s) ≡ false → stream_of with (c ∷ cs) s ≡ stream_of with cs s
other-stream with s c cs other = rw other refl

own-count : (with : Use) (s : ℕ) (c : Command) (cs : List Command) → (session_of with c == s) ≡ true → count_of with s (c ∷ cs) ≡ suc (count_of with s cs)
own-count with s c cs own = let one : count_of with s (c ∷ []) ≡ 1 = rw own refl in omega (arith, one, count_of-append with s (c ∷ []) cs)

other-count : (with : Use) (s : ℕ) (c : Command) (cs : List Command) → (session_of with c == s) ≡ false → count_of with s (c ∷ cs) ≡ count_of with s cs
other-count with s c cs other = let none : count_of with s (c ∷ []) ≡ 0 = rw other refl in omega (arith, none, count_of-append with s (c ∷ []) cs)

-- Among all.

-- where a command of the stream stands among all
pub record StandsAmong (with : Use) (s : ℕ) (cs : List Command) (k : ℕ) (c : Command) : Type 0 where
  pub place : ℕ
  pub at : slice_get cs place ≡ Some c
  pub own : session_of with c ≡ s
  pub count : count_of with s (take place cs) ≡ k

-- behind one command more
further : (with : Use) (s : ℕ) (d : Command) (cs : List Command) (c : Command) (j : ℕ) → StandsAmong with s cs j c → (m : ℕ) → count_of with s (d ∷ []) + j ≡ m → StandsAmong with s (d ∷ cs) m c
further with s d cs c j more m is = record {
  place = suc more.place;
  at = more.at;
  own = more.own;
  count = omega (arith, is, more.count, count_of-append with s (d ∷ []) (take more.place cs));
}

among-more : (with : Use) (s : ℕ) (d : Command) (cs : List Command) (c : Command) → ((j : ℕ) → slice_get (stream_of with cs s) j ≡ Some c → StandsAmong with s cs j c)
    → (b : Bool) → (session_of with d == s) ≡ b → (k : ℕ) → slice_get (stream_of with (d ∷ cs) s) k ≡ Some c → StandsAmong with s (d ∷ cs) k c
among-more with s d cs c more true own zero at =
    let first : Some d ≡ Some c = ap (λ l. slice_get l 0) (sym (own-stream with s d cs own)) ∙ at in
    let same : d ≡ c = cc in
    record { place = 0; at = first; own = ap (session_of with) (sym same) ∙ eqb-true (session_of with d) s own; count = refl }
among-more with s d cs c more true own (suc j) at =
    let one = own-count with s d [] own in
    further with s d cs c j (more j (ap (λ l. slice_get l (suc j)) (sym (own-stream with s d cs own)) ∙ at)) (suc j) (omega (arith, one))
among-more with s d cs c more false other j at =
    let none = other-count with s d [] other in
    further with s d cs c j (more j (ap (λ l. slice_get l j) (sym (other-stream with s d cs other)) ∙ at)) j (omega (arith, none))

pub among : (with : Use) (s : ℕ) (cs : List Command) (k : ℕ) (c : Command) → slice_get (stream_of with cs s) k ≡ Some c → StandsAmong with s cs k c
among with s [] k c at = cc
among with s (d ∷ cs) k c at = among-more with s d cs c (λ j here. among with s cs j c here) (session_of with d == s) refl k at

-- and where one of all stands in its stream
pub in-stream : (with : Use) (s : ℕ) (cs : List Command) (i : ℕ) (c : Command) → slice_get cs i ≡ Some c → session_of with c ≡ s → slice_get (stream_of with cs s) (count_of with s (take i cs)) ≡ Some c
in-stream with s [] i c at own = cc
in-stream with s (d ∷ cs) zero c at own =
    let same : d ≡ c = cc in
    let mine : (session_of with d == s) ≡ true = ap (λ x. session_of with x == s) same ∙ eq-eqb (session_of with c) s own in
    ap (λ l. slice_get l 0) (own-stream with s d cs mine) ∙ ap Some same
in-stream with s (d ∷ cs) (suc i) c at own = by (in-stream with s cs i c at own) (session_of with d == s) refl
  where
    by : slice_get (stream_of with cs s) (count_of with s (take i cs)) ≡ Some c → (b : Bool) → (session_of with d == s) ≡ b
        → slice_get (stream_of with (d ∷ cs) s) (count_of with s (d ∷ take i cs)) ≡ Some c
    by more true mine = ap (slice_get (stream_of with (d ∷ cs) s)) (own-count with s d (take i cs) mine) ∙ ap (λ l. slice_get l (suc (count_of with s (take i cs)))) (own-stream with s d cs mine) ∙ more
    by more false other = ap (slice_get (stream_of with (d ∷ cs) s)) (other-count with s d (take i cs) other) ∙ ap (λ l. slice_get l (count_of with s (take i cs))) (other-stream with s d cs other) ∙ more

-- behind it stand more of its session
pub count-past : (with : Use) (s : ℕ) (cs : List Command) (m n : ℕ) (c : Command) → slice_get cs m ≡ Some c → session_of with c ≡ s → m < n → count_of with s (take m cs) < count_of with s (take n cs)
count-past with s [] m n c at own low = cc
count-past with s (d ∷ cs) m zero c at own low = absurd (omega arith)
count-past with s (d ∷ cs) zero (suc n) c at own low =
    let same : d ≡ c = cc in
    let one = own-count with s d (take n cs) (ap (λ x. session_of with x == s) same ∙ eq-eqb (session_of with c) s own) in
    omega (arith, one)
count-past with s (d ∷ cs) (suc m) (suc n) c at own low =
    let more = count-past with s cs m n c at own (omega (arith, low)) in
    omega (arith, more, count_of-append with s (d ∷ []) (take n cs), count_of-append with s (d ∷ []) (take m cs))

-- Where it begins.

place-from : (with : Use) (before cs : List Command) (history : List Event) (i : ℕ) (c : Command) → slice_get cs i ≡ Some c
    → get_or (places_behind with before cs history) i None ≡ place_behind with (before ++ take i cs) c history
unfolding places_behind
place-from with before [] history i c at = cc
place-from with before (d ∷ cs) history zero c at =
    let same : d ≡ c = cc in
    ap (λ x. place_behind with before x history) same ∙ ap (λ b. place_behind with b c history) (sym (append-nil before))
place-from with before (d ∷ cs) history (suc i) c at =
    place-from with (before ++ d ∷ []) cs history i c at ∙ ap (λ b. place_behind with b c history) (append_assoc before (d ∷ []) (take i cs))

-- one of these commands that stand behind others begins at the place that it has among its session's
pub place-behind : (with : Use) (done cs : List Command) (history : List Event) (i : ℕ) (c : Command) → slice_get cs i ≡ Some c
    → place_in with (done ++ cs) history (length done + i) ≡ slice_get (begins_of history (session_of with c)) (count_of with (session_of with c) done + count_of with (session_of with c) (take i cs))
place-behind with done cs history i c at =
    let s = session_of with c in
    let taken = take-behind done cs (length done + i) (omega arith) in
    let here : taken.0 ≡ i = omega (arith, taken.1) in
    let all : take (length done + i) (done ++ cs) ≡ done ++ take i cs = taken.2 ∙ ap (λ n. done ++ take n cs) here in
    place-from with [] (done ++ cs) history (length done + i) c (get-behind done cs i ∙ at)
    ∙ ap (slice_get (begins_of history s)) (ap (count_of with s) all ∙ count_of-append with s done (take i cs))
