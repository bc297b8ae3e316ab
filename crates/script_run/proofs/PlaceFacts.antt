-- Where commands begin, as the history and the list of commands grow.
use Rattle.std.proofs.{Common.{◌≡◌, ◌∙◌, ℕ, suc, ◌+◌, ◌<◌, ◌≤◌, true, false, List, [], ◌∷◌, ◌++◌, length, map, refl, sym, ap, arith, append_assoc, append-nil, length-append}, Math.ListN.get_or-append, lemmas.Bool.eq-eqb, lemmas.List.Sums.sum_by-append, lemmas.Option.{slice_get_past, slice_get-get_or}}
use Rattle.std.specs.Prelude.{Some, None, slice_get}
use Rattle.row_ledger.specs.{declared.event.Event.Event, declared.settings.Use.Use}
use Rattle.script_form.specs.declared.script.Command.{Command}
use Rattle.script_run.specs.Places.{session_of, count_of, begins_in, begins_of, place_behind, places_behind}

-- what one event adds to the beginnings of a session

pub begins_of-here : (e : Event) (past : List Event) (session : ℕ) → begins_in session e ≡ true → begins_of (e ∷ past) session ≡ begins_of past session ++ length past ∷ []
unfolding begins_of
begins_of-here e past session begins = rw begins refl

pub begins_of-other : (e : Event) (past : List Event) (session : ℕ) → begins_in session e ≡ false → begins_of (e ∷ past) session ≡ begins_of past session
unfolding begins_of
begins_of-other e past session other = rw other refl

-- how many commands are of a session

pub count_of-append : (with : Use) (session : ℕ) (xs ys : List Command) → count_of with session (xs ++ ys) ≡ count_of with session xs + count_of with session ys
count_of-append with session xs ys = sum_by-append _ xs ys

-- the second history goes on from the first: each session's beginnings are followed by others
pub record GoesOn (history later : List Event) : Type 0 where
  pub more : (session : ℕ) → (ps : List ℕ) × (begins_of later session ≡ begins_of history session ++ ps)

-- each command has begun, as far as the numbers go
pub record HaveBegun (with : Use) (commands : List Command) (history : List Event) : Type 0 where
  pub counts : (session : ℕ) → count_of with session commands ≤ length (begins_of history session)

-- no command more than these has begun
pub record NoneMore (with : Use) (commands : List Command) (history : List Event) : Type 0 where
  pub counts : (session : ℕ) → length (begins_of history session) ≤ count_of with session commands

pub slice_get-left : (xs ys : List ℕ) (i : ℕ) → i < length xs → slice_get (xs ++ ys) i ≡ slice_get xs i
slice_get-left xs ys i within =
    slice_get-get_or (xs ++ ys) i 0 (omega (arith, length-append xs ys)) ∙ ap Some (get_or-append xs ys 0 i within) ∙ sym (slice_get-get_or xs i 0 within)

-- the command itself is one of its session
pub own_count : (with : Use) (c : Command) (cs : List Command) → 1 ≤ count_of with (session_of with c) (c ∷ cs)
own_count with c cs =
    let one : count_of with (session_of with c) (c ∷ []) ≡ 1 = rw (eq-eqb (session_of with c) (session_of with c) refl) refl in
    omega (arith, one, count_of-append with (session_of with c) (c ∷ []) cs)

count_step : (with : Use) (session : ℕ) (before : List Command) (c : Command) (cs : List Command)
    → count_of with session ((before ++ c ∷ []) ++ cs) ≡ count_of with session (before ++ c ∷ cs)
count_step with session before c cs = ap (count_of with session) (append_assoc before (c ∷ []) cs)

pub places_behind-length : (with : Use) (before cs : List Command) (history : List Event) → length (places_behind with before cs history) ≡ length cs
unfolding places_behind
places_behind-length with before [] history = refl
places_behind-length with before (c ∷ cs) history = ap suc (places_behind-length with (before ++ c ∷ []) cs history)

pub places_behind-append : (with : Use) (before xs ys : List Command) (history : List Event)
    → places_behind with before (xs ++ ys) history ≡ places_behind with before xs history ++ places_behind with (before ++ xs) ys history
unfolding places_behind
places_behind-append with before [] ys history = ap (λ b. places_behind with b ys history) (sym (append-nil before))
places_behind-append with before (x ∷ xs) ys history =
    ap (λ ps. place_behind with before x history ∷ ps)
    (places_behind-append with (before ++ x ∷ []) xs ys history
    ∙ ap (λ b. places_behind with (before ++ x ∷ []) xs history ++ places_behind with b ys history) (append_assoc before (x ∷ []) xs))

-- where commands have begun stays
pub places_behind-kept : (with : Use) (before cs : List Command) (history later : List Event) → GoesOn history later → HaveBegun with (before ++ cs) history
    → places_behind with before cs later ≡ places_behind with before cs history
unfolding places_behind
places_behind-kept with before [] history later on begun = refl
places_behind-kept with before (c ∷ cs) history later on begun =
    let s = session_of with c in
    let more = on.more s in
    let within : count_of with s before < length (begins_of history s) = omega (arith, begun.counts s, count_of-append with s before (c ∷ cs), own_count with c cs) in
    let here : place_behind with before c later ≡ place_behind with before c history =
    ap (λ ps. slice_get ps (count_of with s before)) more.1 ∙ slice_get-left (begins_of history s) more.0 (count_of with s before) within in
    let begun_on : HaveBegun with ((before ++ c ∷ []) ++ cs) history = record { counts = λ t. rw (count_step with t before c cs) (begun.counts t) } in
    ap (λ p. p ∷ places_behind with (before ++ c ∷ []) cs later) here
    ∙ ap (λ ps. place_behind with before c history ∷ ps) (places_behind-kept with (before ++ c ∷ []) cs history later on begun_on)

pub places_behind-none : (with : Use) (before cs : List Command) (history : List Event) → NoneMore with before history
    → places_behind with before cs history ≡ map (λ c. None) cs
unfolding places_behind
places_behind-none with before [] history none = refl
places_behind-none with before (c ∷ cs) history none =
    let none_on : NoneMore with (before ++ c ∷ []) history =
    record { counts = λ t. omega (arith, none.counts t, count_of-append with t before (c ∷ [])) } in
    ap (λ p. p ∷ places_behind with (before ++ c ∷ []) cs history) (slice_get_past (begins_of history (session_of with c)) (count_of with (session_of with c) before) (none.counts (session_of with c)))
    ∙ ap (λ ps. None ∷ ps) (places_behind-none with (before ++ c ∷ []) cs history none_on)
