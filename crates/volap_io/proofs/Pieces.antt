-- What pieces of bytes, one after another, come to.
use Rattle.std.proofs.{Common.{◌≡◌, ◌+◌, ◌-◌, ◌≤◌, ◌++◌, ℕ, List, Option, length, take, drop, sym, arith, length-append, length-drop}, KnownBytes.{Appends-trans, Consumes-trans}, Math.Seq.take-add, lemmas.Grind.common_steps, lemmas.List.{take_all, drop-drop}}
use Rattle.std.specs.Io.KnownBytes.{Appends, Consumes}
use Rattle.volap_io.specs.Causes.{Gave}

-- a list's first bytes, copied to the front of a buffer, and then the rest of the list
front-copied : (left rest : List ℕ) (n : ℕ) → n ≤ length left → take n (take n left ++ rest) ++ drop n left ≡ left
front-copied left rest n within = grind (arith, common_steps)

-- what is left from `at` on is a piece of n bytes, which a buffer has at its front, and what is left after it
pub drop-given : (bytes piece rest : List ℕ) (at n : ℕ) → at + n ≤ length bytes → piece ≡ take n (drop at bytes)
    → drop at bytes ≡ take n (piece ++ rest) ++ drop (at + n) bytes
drop-given bytes piece rest at n within is =
    rw (is, ← drop-drop n at bytes) (sym (front-copied (drop at bytes) rest n (omega (arith, length-drop at bytes))))

-- a piece more came
pub Gave-more : (P : ℕ → Type 0) (a b c : Option (List ℕ)) (bs cs : List ℕ) → Consumes a b bs → Consumes b c cs → P (length bs + length cs) → Gave a c P
Gave-more P a b c bs cs first second counted = (bs ++ cs, Consumes-trans a b c bs cs first second, rw length-append counted)

-- of the bytes from `done` on, n more were taken
pub Appends-more : (a b c : Option (List ℕ)) (bytes : List ℕ) (done n : ℕ) → Appends a b (take done bytes)
    → Appends b c (take n (take (length bytes - done) (drop done bytes))) → Appends a c (take (done + n) bytes)
Appends-more a b c bytes done n front piece =
    let whole = take_all (length bytes - done) (drop done bytes) (omega (arith, length-drop done bytes)) in
    rw (take-add done n bytes) (Appends-trans a b c _ _ front (rw whole at piece))
