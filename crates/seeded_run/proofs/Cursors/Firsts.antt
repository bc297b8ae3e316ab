-- The first command that isn't over, by the places of the commands.
use Rattle.std.proofs.{Common.{◌≡◌, ◌∙◌, ℕ, zero, suc, ◌+◌, ◌<◌, ◌≤◌, Bool, true, false, List, [], ◌∷◌, ◌++◌, length, take, get_or, Option, Some, None, refl, sym, ap, arith, append_assoc, append-nil, length-append}, lemmas.Bool.eq-eqb, lemmas.Option.slice_get_past}
use Rattle.std.specs.{Option.option_map_or, Prelude.{◌==◌, IsTrue, slice_get, if◌then◌else◌}}
use Rattle.row_ledger.specs.{Past.{is_over, session_in}, declared.event.Event.Event, declared.settings.Use.Use}
use Rattle.script_form.specs.declared.script.Command.{Command}
use Rattle.script_run.proofs.{Begin.begins-own, Between.{get-behind, take-behind}, NextCommand.{get-middle, take-front}, PlaceFacts.{begins_of-here, begins_of-other, count_of-append}, StreamSteps.over-older, Whole.get-some}
use Rattle.script_run.specs.{Parts.place_in, Places.{begins_in, begins_of, count_of, is_over_at, place_behind, places_behind, session_of}}
use Rattle.seeded_run.proofs.Cursors.Cursors.{is-one}
use Rattle.seeded_run.specs.{Cursors.HasCursors, Rests.{PhaseRun, first_open_behind, first_open, is_over_behind}}

-- Where a command begins.

place-from : (with : Use) (before cs : List Command) (history : List Event) (i : ℕ) (c : Command) → slice_get cs i ≡ Some c
    → get_or (places_behind with before cs history) i None ≡ place_behind with (before ++ take i cs) c history
unfolding places_behind
place-from with before [] history i c at = cc
place-from with before (d ∷ cs) history zero c at =
    let same : d ≡ c = cc in
    ap (λ x. place_behind with before x history) same ∙ ap (λ b. place_behind with b c history) (sym (append-nil before))
place-from with before (d ∷ cs) history (suc i) c at =
    place-from with (before ++ d ∷ []) cs history i c at ∙ ap (λ b. place_behind with b c history) (append_assoc before (d ∷ []) (take i cs))

pub place-is : (with : Use) (commands : List Command) (history : List Event) (i : ℕ) (c : Command) → slice_get commands i ≡ Some c
    → place_in with commands history i ≡ slice_get (begins_of history (session_of with c)) (count_of with (session_of with c) (take i commands))
place-is with commands history i c at = place-from with [] commands history i c at

count-more : (with : Use) (s : ℕ) (cs : List Command) (m n : ℕ) → m ≤ n → count_of with s (take m cs) ≤ count_of with s (take n cs)
count-more with s [] zero n low = omega arith
count-more with s [] (suc m) zero low = absurd (omega arith)
count-more with s [] (suc m) (suc n) low = omega arith
count-more with s (c ∷ cs) zero n low = omega arith
count-more with s (c ∷ cs) (suc m) zero low = absurd (omega arith)
count-more with s (c ∷ cs) (suc m) (suc n) low =
    let more = count-more with s cs m n (omega arith) in
    omega (arith, more, count_of-append with s (c ∷ []) (take m cs), count_of-append with s (c ∷ []) (take n cs))

-- and one more with each command of the session
count-past : (with : Use) (s : ℕ) (cs : List Command) (m n : ℕ) (c : Command) → slice_get cs m ≡ Some c → session_of with c ≡ s → m < n → count_of with s (take m cs) < count_of with s (take n cs)
count-past with s [] m n c at own low = cc
count-past with s (d ∷ cs) m zero c at own low = absurd (omega arith)
count-past with s (d ∷ cs) zero (suc n) c at own low =
    let same : d ≡ c = cc in
    let one = is-one with s d (ap (λ x. session_of with x == s) same ∙ eq-eqb (session_of with c) s own) in
    omega (arith, one, count_of-append with s (d ∷ []) (take n cs))
count-past with s (d ∷ cs) (suc m) (suc n) c at own low =
    let more = count-past with s cs m n c at own (omega (arith, low)) in
    omega (arith, more, count_of-append with s (d ∷ []) (take n cs), count_of-append with s (d ∷ []) (take m cs))

-- In a phase.

-- where a command began, where its session has begun as many since the phase did
abbrev pub place_since : PhaseRun → List Event → ℕ → Command → Option ℕ
place_since p history i c = slice_get (begins_of history (session_of p.with c)) (length (begins_of p.before (session_of p.with c)) + count_of p.with (session_of p.with c) (take i p.commands))

-- whether a command of the phase is over
abbrev pub over_in : PhaseRun → List Event → ℕ → Bool
over_in p history i = option_map_or (λ c. is_over_behind p history (take i p.commands) c) (slice_get p.commands i) false

pub over-at : (p : PhaseRun) (history : List Event) (i : ℕ) (c : Command) → slice_get p.commands i ≡ Some c → over_in p history i ≡ is_over_at history (place_since p history i c)
over-at p history i c at = ap (λ o. option_map_or (λ d. is_over_behind p history (take i p.commands) d) o false) at

-- behind commands that are done it is the place among all
pub place-behind : (p : PhaseRun) (done : List Command) (history : List Event) → ((session : ℕ) → length (begins_of p.before session) ≡ count_of p.with session done)
    → (i : ℕ) (c : Command) → slice_get p.commands i ≡ Some c → place_since p history i c ≡ place_in p.with (done ++ p.commands) history (length done + i)
place-behind p done history through i c at =
    let s = session_of p.with c in
    let taken = take-behind done p.commands (length done + i) (omega arith) in
    let here : taken.0 ≡ i = omega (arith, taken.1) in
    let all : take (length done + i) (done ++ p.commands) ≡ done ++ take i p.commands = taken.2 ∙ ap (λ n. done ++ take n p.commands) here in
    let count : length (begins_of p.before s) + count_of p.with s (take i p.commands) ≡ count_of p.with s (take (length done + i) (done ++ p.commands)) =
    omega (arith, through s, count_of-append p.with s done (take i p.commands), ap (count_of p.with s) all) in
    ap (slice_get (begins_of history s)) count ∙ sym (place-is p.with (done ++ p.commands) history (length done + i) c (get-behind done p.commands i ∙ at))

-- one that its session hasn't come to isn't over, and each other one has its place

pub late-not : (p : PhaseRun) (history : List Event) (next : ℕ → ℕ) → HasCursors p history next → (i : ℕ) (c : Command) → slice_get p.commands i ≡ Some c → next (session_of p.with c) ≤ i → over_in p history i ≡ false
late-not p history next cursors i c at late =
    let s = session_of p.with c in
    over-at p history i c at
    ∙ ap (is_over_at history) (slice_get_past (begins_of history s) (length (begins_of p.before s) + count_of p.with s (take i p.commands))
    (omega (arith, cursors.counts s, count-more p.with s p.commands (next s) i late)))

pub past-place : (p : PhaseRun) (history : List Event) (next : ℕ → ℕ) → HasCursors p history next → (i : ℕ) (c : Command) → slice_get p.commands i ≡ Some c → i < next (session_of p.with c) → (q : ℕ) × (place_since p history i c ≡ Some q)
past-place p history next cursors i c at low =
    let s = session_of p.with c in
    get-some (begins_of history s) (length (begins_of p.before s) + count_of p.with s (take i p.commands)) (omega (arith, cursors.counts s, count-past p.with s p.commands i (next s) c at refl low))

-- With one event more.

get-more : (xs : List ℕ) (y k x : ℕ) → slice_get xs k ≡ Some x → slice_get (xs ++ y ∷ []) k ≡ Some x
get-more [] y k x at = cc
get-more (z ∷ xs) y zero x at = at
get-more (z ∷ xs) y (suc k) x at = get-more xs y k x at

place-older : (p : PhaseRun) (e : Event) (history : List Event) (i : ℕ) (c : Command) (q : ℕ) → place_since p history i c ≡ Some q → place_since p (e ∷ history) i c ≡ Some q
place-older p e history i c q at = by (begins_in (session_of p.with c) e) refl
  where
    by : (b : Bool) → begins_in (session_of p.with c) e ≡ b → place_since p (e ∷ history) i c ≡ Some q
    by true is =
        let s = session_of p.with c in
        let k = length (begins_of p.before s) + count_of p.with s (take i p.commands) in
        ap (λ l. slice_get l k) (begins_of-here e history s is) ∙ get-more (begins_of history s) (length history) k q at
    by false is =
        let s = session_of p.with c in
        ap (λ l. slice_get l (length (begins_of p.before s) + count_of p.with s (take i p.commands))) (begins_of-other e history s is) ∙ at

-- one that begins stands there
pub place-now : (p : PhaseRun) (e : Event) (history : List Event) (i : ℕ) (c : Command) → session_in e ≡ Some (session_of p.with c)
    → length (begins_of history (session_of p.with c)) ≡ length (begins_of p.before (session_of p.with c)) + count_of p.with (session_of p.with c) (take i p.commands)
    → place_since p (e ∷ history) i c ≡ Some (length history)
place-now p e history i c session count =
    let s = session_of p.with c in
    ap (λ l. slice_get l (length (begins_of p.before s) + count_of p.with s (take i p.commands))) (begins_of-here e history s (begins-own s e session))
    ∙ ap (slice_get (begins_of history s ++ length history ∷ [])) (sym count) ∙ get-middle (begins_of history s) [] (length history)

pub over-place : (history : List Event) (o : Option ℕ) → is_over_at history o ≡ true → (q : ℕ) × (o ≡ Some q) × IsTrue (is_over history q)
over-place history None over = cc
over-place history (Some q) over = (q, refl, over)

-- what is over stays so
pub over-still : (p : PhaseRun) (e : Event) (history : List Event) (i : ℕ) → over_in p history i ≡ true → over_in p (e ∷ history) i ≡ true
over-still p e history i over = by (slice_get p.commands i) refl
  where
    by : (o : Option Command) → slice_get p.commands i ≡ o → over_in p (e ∷ history) i ≡ true
    by None at = (let never : false ≡ true = sym (ap (λ o. option_map_or (λ d. is_over_behind p history (take i p.commands) d) o false) at) ∙ over in cc)
    by (Some c) at =
        let old = over-place history (place_since p history i c) (sym (over-at p history i c at) ∙ over) in
        over-at p (e ∷ history) i c at ∙ ap (is_over_at (e ∷ history)) (place-older p e history i c old.0 old.1) ∙ over-older e history old.0 old.2

-- Which is first.

-- the first item of a list that doesn't pass, by its place
firsts : (ℕ → Bool) → (Command → ℕ) → ℕ → List Command → Option ℕ
firsts test f k [] = None
firsts test f k (c ∷ cs) = if test k then firsts test f (suc k) cs else Some (f c)

-- an item that doesn't pass, behind others that do
pub record IsFirst (test : ℕ → Bool) (f : Command → ℕ) (k : ℕ) (cs : List Command) (a : ℕ) : Type 0 where
  pub at : ℕ
  pub command : Command
  pub here : slice_get cs at ≡ Some command
  pub is : f command ≡ a
  pub fails : test (k + at) ≡ false
  pub pass : (i : ℕ) → i < at → test (k + i) ≡ true

firsts-some : (test : ℕ → Bool) (f : Command → ℕ) (k : ℕ) (cs : List Command) (a : ℕ) → firsts test f k cs ≡ Some a → IsFirst test f k cs a
unfolding firsts
firsts-some test f k [] a is = cc
firsts-some test f k (c ∷ cs) a is = by (λ e. firsts-some test f (suc k) cs a e) (test k) refl is
  where
    here : k + 0 ≡ k
    here = omega arith

    by : (firsts test f (suc k) cs ≡ Some a → IsFirst test f (suc k) cs a) → (b : Bool) → test k ≡ b → (if b then firsts test f (suc k) cs else Some (f c)) ≡ Some a → IsFirst test f k (c ∷ cs) a
    by go false fails e = record { at = 0; command = c; here = refl; is = cc; fails = ap test here ∙ fails; pass = λ i low. absurd (omega arith) }
    by go true pass e =
        let more = go e in
        let far : k + suc more.at ≡ suc k + more.at = omega arith in
        record {
          at = suc more.at;
          command = more.command;
          here = more.here;
          is = more.is;
          fails = ap test far ∙ more.fails;
          pass = λ i low. before i more low pass;
        }
      where
        before : (i : ℕ) → (m : IsFirst test f (suc k) cs a) → i < suc m.at → test k ≡ true → test (k + i) ≡ true
        before zero m low pass = ap test here ∙ pass
        before (suc i) m low pass = let far : k + suc i ≡ suc k + i = omega arith in ap test far ∙ m.pass i (omega arith)

firsts-none : (test : ℕ → Bool) (f : Command → ℕ) (k : ℕ) (cs : List Command) → firsts test f k cs ≡ None → (i : ℕ) (c : Command) → slice_get cs i ≡ Some c → test (k + i) ≡ true
unfolding firsts
firsts-none test f k [] is i c at = cc
firsts-none test f k (d ∷ cs) is i c at = by (λ e j there. firsts-none test f (suc k) cs e j c there) (test k) refl is i at
  where
    by : (firsts test f (suc k) cs ≡ None → (j : ℕ) → slice_get cs j ≡ Some c → test (suc k + j) ≡ true) → (b : Bool) → test k ≡ b → (if b then firsts test f (suc k) cs else Some (f d)) ≡ None → (i : ℕ) → slice_get (d ∷ cs) i ≡ Some c → test (k + i) ≡ true
    by go false fails e i at = cc
    by go true pass e zero at = let here : k + 0 ≡ k = omega arith in ap test here ∙ pass
    by go true pass e (suc i) at = let far : k + suc i ≡ suc k + i = omega arith in ap test far ∙ go e i at

firsts-at : (test : ℕ → Bool) (f : Command → ℕ) (k : ℕ) (cs : List Command) (j : ℕ) (c : Command) → slice_get cs j ≡ Some c → test (k + j) ≡ false → ((i : ℕ) → i < j → test (k + i) ≡ true)
    → firsts test f k cs ≡ Some (f c)
unfolding firsts
firsts-at test f k [] j c at fails pass = cc
firsts-at test f k (d ∷ cs) zero c at fails pass =
    let here : k + 0 ≡ k = omega arith in
    let same : d ≡ c = cc in
    ap (λ b. if b then firsts test f (suc k) cs else Some (f d)) (ap test (sym here) ∙ fails) ∙ ap (λ x. Some (f x)) same
firsts-at test f k (d ∷ cs) (suc j) c at fails pass =
    let here : k + 0 ≡ k = omega arith in
    let far : suc k + j ≡ k + suc j = omega arith in
    ap (λ b. if b then firsts test f (suc k) cs else Some (f d)) (ap test (sym here) ∙ pass 0 (omega arith))
    ∙ firsts-at test f (suc k) cs j c at (ap test far ∙ fails) (λ i low. let on : suc k + i ≡ k + suc i = omega arith in ap test on ∙ pass (suc i) (omega arith))

module _ (p : PhaseRun) (history : List Event) where
  behind-is : (front : List Command) (c : Command) (cs : List Command) → p.commands ≡ front ++ c ∷ cs → is_over_behind p history front c ≡ over_in p history (length front)
  behind-is front c cs is =
      let at : slice_get p.commands (length front) ≡ Some c = ap (λ l. slice_get l (length front)) is ∙ get-middle front cs c in
      let taken : take (length front) p.commands ≡ front = ap (take (length front)) is ∙ take-front front (c ∷ cs) in
      sym (ap (λ o. option_map_or (λ d. is_over_behind p history (take (length front) p.commands) d) o false) at ∙ ap (λ f. is_over_behind p history f c) taken)

  is-firsts : (front cs : List Command) → p.commands ≡ front ++ cs → first_open_behind p history front cs ≡ firsts (over_in p history) (session_of p.with) (length front) cs
  unfolding firsts
  is-firsts front [] is = refl
  is-firsts front (c ∷ cs) is =
      let more = is-firsts (front ++ c ∷ []) cs (is ∙ sym (append_assoc front (c ∷ []) cs)) in
      let far : length (front ++ c ∷ []) ≡ suc (length front) = length-append front (c ∷ []) ∙ (omega arith) in
      ap (λ o. if is_over_behind p history front c then o else Some (session_of p.with c)) (more ∙ ap (λ k. firsts (over_in p history) (session_of p.with) k cs) far)
      ∙ ap (λ b. if b then firsts (over_in p history) (session_of p.with) (suc (length front)) cs else Some (session_of p.with c)) (behind-is front c cs is)

  pub first-some : (a : ℕ) → first_open p history ≡ Some a → IsFirst (over_in p history) (session_of p.with) 0 p.commands a
  first-some a is = firsts-some (over_in p history) (session_of p.with) 0 p.commands a (sym (is-firsts [] p.commands refl) ∙ is)

  pub first-none : first_open p history ≡ None → (i : ℕ) (c : Command) → slice_get p.commands i ≡ Some c → over_in p history i ≡ true
  first-none is i c at =
      let here : 0 + i ≡ i = omega arith in
      ap (over_in p history) (sym here) ∙ firsts-none (over_in p history) (session_of p.with) 0 p.commands (sym (is-firsts [] p.commands refl) ∙ is) i c at

  pub first-at : (k : ℕ) (c : Command) → slice_get p.commands k ≡ Some c → over_in p history k ≡ false → ((i : ℕ) → i < k → over_in p history i ≡ true)
      → first_open p history ≡ Some (session_of p.with c)
  first-at k c at fails pass =
      let here : 0 + k ≡ k = omega arith in
      is-firsts [] p.commands refl
      ∙ firsts-at (over_in p history) (session_of p.with) 0 p.commands k c at (ap (over_in p history) here ∙ fails)
      (λ i low. let there : 0 + i ≡ i = omega arith in ap (over_in p history) there ∙ pass i low)

-- of the first one, in the phase

pub first-fails : (p : PhaseRun) (history : List Event) (a : ℕ) (f : IsFirst (over_in p history) (session_of p.with) 0 p.commands a) → over_in p history f.at ≡ false
first-fails p history a f = let here : f.at ≡ 0 + f.at = omega arith in ap (over_in p history) here ∙ f.fails

pub first-pass : (p : PhaseRun) (history : List Event) (a : ℕ) (f : IsFirst (over_in p history) (session_of p.with) 0 p.commands a) → (i : ℕ) → i < f.at → over_in p history i ≡ true
first-pass p history a f i low = let here : i ≡ 0 + i = omega arith in ap (over_in p history) here ∙ f.pass i low
