-- An entry put in place of another.
use Rattle.std.proofs.{Common.{◌≡◌, ℕ, ◌+◌, ◌<◌, List, [], ◌∷◌, ◌++◌, length, take, drop, sym, ap, ◌∙◌, add-one, append_assoc}, lemmas.List.{take_at, length-set, set_split}}
use Rattle.std.specs.{List.refill, Prelude.slice_set}
use Rattle.dc_node.specs.{Block.replaced, declared.entry.Entry.Entry}

-- a write of one entry
pub set-entry : (xs : List Entry) (place : ℕ) (e : Entry) → place < length xs → slice_set xs place e ≡ replaced xs place (e ∷ [])
set-entry xs place e within =
    set_split xs place e within
    ∙ sym (append_assoc (take place xs) (e ∷ []) (drop (place + 1) xs) ∙ ap (λ n. take place xs ++ e ∷ drop n xs) (add-one place))

-- a write through the slice of all entries
pub set-refilled : (xs ys : List Entry) (place : ℕ) (e : Entry) → ys ≡ xs → refill (length xs) xs (slice_set ys place e) ≡ slice_set xs place e
set-refilled xs ys place e same =
    rw same (take_at (slice_set xs place e) (drop (length (slice_set xs place e)) xs) (length xs) (length-set xs place e))
