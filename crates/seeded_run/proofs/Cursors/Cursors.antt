-- What streams still have, by cursors.
use Rattle.std.proofs.{Common.{◌≡◌, ◌∙◌, ℕ, zero, suc, ◌+◌, ◌≤◌, Bool, true, false, List, [], ◌∷◌, length, take, drop, Some, refl, ap, arith}, lemmas.Bool.eq-eqb}
use Rattle.std.specs.Prelude.{◌==◌, slice_get}
use Rattle.row_ledger.specs.declared.settings.Use.{Use}
use Rattle.script_form.specs.declared.script.Command.{Command}
use Rattle.script_run.proofs.PlaceFacts.{count_of-append}
use Rattle.script_run.specs.Places.{count_of, session_of}
use Rattle.seeded_run.specs.{Cursors.{CursorLaw, FirstLaw, LastLaw}, Rests.{begun_in, stream_of}}

-- one command is of the session or not

pub is-one : (with : Use) (s : ℕ) (c : Command) → (session_of with c == s) ≡ true → count_of with s (c ∷ []) ≡ 1
is-one with s c own = rw own refl

is-none : (with : Use) (s : ℕ) (c : Command) → (session_of with c == s) ≡ false → count_of with s (c ∷ []) ≡ 0
is-none with s c other = rw other refl

pub own-first : (with : Use) (s : ℕ) (c : Command) (cs : List Command) → (session_of with c == s) ≡ true → stream_of with (c ∷ cs) s ≡ c ∷ stream_of with cs s
own-first with s c cs own = rw own refl

pub other-first : (with : Use) (s : ℕ) (c : Command) (cs : List Command) → (session_of with c == s) ≡ false → stream_of with (c ∷ cs) s ≡ stream_of with cs s
other-first with s c cs other = rw other refl

-- without as many commands of the session as the first ones have, a stream is that of the others
drop-stream : (with : Use) (s : ℕ) (cs : List Command) (m : ℕ) → drop (count_of with s (take m cs)) (stream_of with cs s) ≡ stream_of with (drop m cs) s
drop-stream with s [] zero = refl
drop-stream with s [] (suc m) = refl
drop-stream with s (c ∷ cs) zero = refl
drop-stream with s (c ∷ cs) (suc m) = by (drop-stream with s cs m) (session_of with c == s) refl
  where
    by : drop (count_of with s (take m cs)) (stream_of with cs s) ≡ stream_of with (drop m cs) s → (b : Bool) → (session_of with c == s) ≡ b
        → drop (count_of with s (c ∷ take m cs)) (stream_of with (c ∷ cs) s) ≡ stream_of with (drop m cs) s
    by more true is =
        let one : count_of with s (c ∷ take m cs) ≡ suc (count_of with s (take m cs)) = omega (arith, is-one with s c is, count_of-append with s (c ∷ []) (take m cs)) in
        ap (λ k. drop k (stream_of with (c ∷ cs) s)) one ∙ ap (drop (suc (count_of with s (take m cs)))) (own-first with s c cs is) ∙ more
    by more false is =
        let same : count_of with s (c ∷ take m cs) ≡ count_of with s (take m cs) = omega (arith, is-none with s c is, count_of-append with s (c ∷ []) (take m cs)) in
        ap (λ k. drop k (stream_of with (c ∷ cs) s)) same ∙ ap (drop (count_of with s (take m cs))) (other-first with s c cs is) ∙ more

pub cursor-law : CursorLaw
cursor-law p history next has session =
    let begun : begun_in p history session ≡ count_of p.with session (take (next session) p.commands) = omega (arith, has.counts session) in
    ap (λ k. drop k (stream_of p.with p.commands session)) begun ∙ drop-stream p.with session p.commands (next session)

drop-at : (cs : List Command) (k : ℕ) (c : Command) → slice_get cs k ≡ Some c → drop k cs ≡ c ∷ drop (suc k) cs
drop-at [] k c at = cc
drop-at (d ∷ cs) zero c at = let same : d ≡ c = cc in ap (λ x. x ∷ cs) same
drop-at (d ∷ cs) (suc k) c at = drop-at cs k c at

drop-past : (cs : List Command) (k : ℕ) → length cs ≤ k → drop k cs ≡ []
drop-past [] zero past = refl
drop-past [] (suc k) past = refl
drop-past (c ∷ cs) zero past = absurd (omega arith)
drop-past (c ∷ cs) (suc k) past = drop-past cs k (omega arith)

pub first-law : FirstLaw
first-law p history next has session c at own =
    let k = next session in
    let later : suc k ≡ k + 1 = omega arith in
    cursor-law p history next has session
    ∙ ap (λ cs. stream_of p.with cs session) (drop-at p.commands k c at)
    ∙ own-first p.with session c (drop (suc k) p.commands) (eq-eqb (session_of p.with c) session own)
    ∙ ap (λ n. c ∷ stream_of p.with (drop n p.commands) session) later

pub last-law : LastLaw
last-law p history next has session past =
    cursor-law p history next has session
    ∙ ap (λ cs. stream_of p.with cs session) (drop-past p.commands (next session) past)
