-- Streams get shorter as their commands begin.
use Rattle.std.proofs.Common.{◌≡◌, ◌∙◌, ℕ, zero, suc, ◌+◌, ◌-◌, ◌≤◌, Bool, true, false, List, [], ◌∷◌, length, drop, refl, ap, arith, length-append}
use Rattle.std.specs.Prelude.{if◌then◌else◌}
use Rattle.row_ledger.specs.declared.event.Event.{Event}
use Rattle.script_form.specs.declared.script.Command.{Command}
use Rattle.script_run.specs.Places.{begins_in, begins_of}
use Rattle.script_run.proofs.PlaceFacts.{begins_of-here, begins_of-other}
use Rattle.seeded_run.specs.{Laws.RestLaw, Rests.{PhaseRun, begun_in, rest_of, stream_of}}

drop-more : (k : ℕ) (xs : List Command) → drop (suc k) xs ≡ drop 1 (drop k xs)
drop-more zero xs = refl
drop-more (suc k) [] = refl
drop-more (suc k) (x ∷ xs) = drop-more k xs

-- one more than some others that are no more
one-more : (n m b : ℕ) → n ≡ m + 1 → b ≤ m → n - b ≡ suc (m - b)
one-more n m b e h = omega arith

by : (b : Bool) (p : PhaseRun) (e : Event) (history : List Event) (session : ℕ) → begins_in session e ≡ b → length (begins_of p.before session) ≤ length (begins_of history session)
    → rest_of p (e ∷ history) session ≡ (if b then drop 1 (rest_of p history session) else rest_of p history session)
by true p e history session is few =
    let longer : length (begins_of (e ∷ history) session) ≡ length (begins_of history session) + 1 =
    ap length (begins_of-here e history session is) ∙ length-append (begins_of history session) (length history ∷ []) in
    let one : begun_in p (e ∷ history) session ≡ suc (begun_in p history session) = one-more _ _ _ longer few in
    ap (λ k. drop k (stream_of p.with p.commands session)) one ∙ drop-more (begun_in p history session) (stream_of p.with p.commands session)
by false p e history session is few =
    ap (λ l. drop (length l - length (begins_of p.before session)) (stream_of p.with p.commands session)) (begins_of-other e history session is)

pub rest-law : RestLaw
rest-law p e history session few = by (begins_in session e) p e history session refl few
