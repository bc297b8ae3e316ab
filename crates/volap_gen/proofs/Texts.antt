-- Texts that grow by one record, or by some.
use Rattle.std.proofs.{Common.{◌≡◌, ℕ, zero, suc, ◌+◌, List, [], ◌∷◌, ◌++◌, map, sym, ap, ◌∙◌, append_assoc, append-nil, add-one, arith}, lemmas.List.flat_map_more, lemmas.List.Concat.flat_map-append, lemmas.List.FromFn.map-range_with_len_more}
use Rattle.std.specs.List.{flat_map, range_with_len}
use Rattle.volap_gen.specs.Generated.{record_line, text_of}
use Rattle.script_form.specs.Fields.{Record}

-- n numbers and one more
range-push : (a n : ℕ) → range_with_len a (suc n) ≡ range_with_len a n ++ (a + n) ∷ []
range-push a zero = ap (λ k. k ∷ []) (omega arith)
range-push a (suc n) =
    let same : (a + 1) + n ≡ a + suc n = omega arith in
    ap (λ rest. a ∷ rest) (range-push (a + 1) n ∙ ap (λ k. range_with_len (a + 1) n ++ k ∷ []) same)

flat_map-range_more : (f : ℕ → List Record) (n : ℕ) → flat_map f (range_with_len 0 (n + 1)) ≡ flat_map f (range_with_len 0 n) ++ f n
flat_map-range_more f n =
    let last : 0 + n ≡ n = omega arith in
    rw add-one (
    ap (flat_map f) (range-push 0 n)
    ∙ flat_map-append f (range_with_len 0 n) ((0 + n) ∷ [])
    ∙ ap (λ rest. flat_map f (range_with_len 0 n) ++ rest) (append-nil (f (0 + n)))
    ∙ ap (λ k. flat_map f (range_with_len 0 n) ++ f k) last
    )

-- a loop's text, with the records of one more number
pub texts-more : (f : ℕ → List Record) (before now next : List ℕ) (n : ℕ) → now ≡ before ++ text_of (flat_map f (range_with_len 0 n))
    → next ≡ now ++ text_of (f n) → next ≡ before ++ text_of (flat_map f (range_with_len 0 (n + 1)))
texts-more f before now next n so_far more =
    more
    ∙ ap (λ t. t ++ text_of (f n)) so_far
    ∙ append_assoc before (text_of (flat_map f (range_with_len 0 n))) (text_of (f n))
    ∙ ap (λ t. before ++ t) (sym (flat_map-append record_line (flat_map f (range_with_len 0 n)) (f n)))
    ∙ ap (λ rs. before ++ text_of rs) (sym (flat_map-range_more f n))

-- the same with one record
pub text-more : (f : ℕ → Record) (before now next : List ℕ) (n : ℕ) → now ≡ before ++ text_of (map f (range_with_len 0 n))
    → next ≡ now ++ record_line (f n) → next ≡ before ++ text_of (map f (range_with_len 0 (n + 1)))
text-more f before now next n so_far more =
    more
    ∙ ap (λ t. t ++ record_line (f n)) so_far
    ∙ flat_map_more record_line before (map f (range_with_len 0 n)) (f n)
    ∙ ap (λ rs. before ++ text_of rs) (sym (map-range_with_len_more f 0 n n (omega arith)))
