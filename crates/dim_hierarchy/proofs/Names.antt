-- Names as byte strings, and maps from them.
use Rattle.std.proofs.{Common.{ℕ, ◌≡◌, ◌≢◌, ◌⊎◌, inl, inr, List, refl, sym, ap, ◌∙◌, cond, Bool, true, false}, lemmas.Bool.{false≢true}, lemmas.Map.Text.is_eq-slice_cmp}
use Rattle.std.specs.{Cmp.tied_itself, Cmp.Lexicographic.{slice_cmp, nat_list_cmp_total}, FinMap.{slice_cmp-IsAntisymmetric, nat_cmp-IsAntisymmetric}, Ordering.{nat_cmp, is_eq}, Prelude.Some, Str.bytes_eq, declared.cmp.Ordering.Ordering, declared.cmp.Ordering.TheVariants.{Less, Equal, Greater}}
use Rattle.std.specs.FinMap as fin

-- the order of byte strings
abbrev pub by_byte : List ℕ → List ℕ → Ordering
by_byte = slice_cmp nat_cmp

pub by_byte-Equal : (x y : List ℕ) → by_byte x y ≡ Equal → x ≡ y
by_byte-Equal x y e = slice_cmp-IsAntisymmetric nat_cmp-IsAntisymmetric x y e

pub by_byte-itself : (x : List ℕ) → by_byte x x ≡ Equal
by_byte-itself x = tied_itself nat_list_cmp_total x

pub by_byte-is_eq : (x y : List ℕ) → is_eq (by_byte x y) ≡ true → x ≡ y
by_byte-is_eq x y h = elim (by_byte x y) as (λ r. r ≡ by_byte x y → is_eq r ≡ true → x ≡ y) [
  | Less ↦ λ e t. absurd (false≢true t)
  | Equal ↦ λ e t. by_byte-Equal x y (sym e)
  | Greater ↦ λ e t. absurd (false≢true t)
] refl h

pub bytes_eq-is : (x y : List ℕ) → bytes_eq x y ≡ true → x ≡ y
bytes_eq-is x y h = by_byte-is_eq x y (is_eq-slice_cmp x y ∙ h)

pub bytes_eq-itself : (x : List ℕ) → bytes_eq x x ≡ true
bytes_eq-itself x = sym (is_eq-slice_cmp x x) ∙ ap is_eq (by_byte-itself x)

-- Names in the map after an insertion.

pub same_name : (x y : List ℕ) → (x ≡ y) ⊎ (x ≢ y)
same_name x y = elim (is_eq (by_byte x y)) as (λ b. b ≡ is_eq (by_byte x y) → (x ≡ y) ⊎ (x ≢ y)) [
  | true ↦ λ e. inl (by_byte-is_eq x y (sym e))
  | false ↦ λ e. inr (λ same. false≢true (e ∙ ap (λ z. is_eq (by_byte z y)) same ∙ ap is_eq (by_byte-itself y)))
] refl

pub get-insert_same : (m : fin.FinMap by_byte ℕ) (name : List ℕ) (id : ℕ) → fin.get (fin.insert m name id) name ≡ Some id
get-insert_same m name id =
    fin.get-insert nat_list_cmp_total m name id name ∙ ap (λ b. cond b (Some id) (fin.get m name)) (ap is_eq (by_byte-itself name))

pub get-insert_other : (m : fin.FinMap by_byte ℕ) (name : List ℕ) (id : ℕ) (other : List ℕ) → other ≢ name → fin.get (fin.insert m name id) other ≡ fin.get m other
get-insert_other m name id other ne =
    fin.get-insert nat_list_cmp_total m name id other
    ∙ ap (λ b. cond b (Some id) (fin.get m other)) (not_true (is_eq (by_byte other name)) (λ e. ne (by_byte-is_eq other name e)))
  where
    not_true : (b : Bool) → (b ≡ true → ⊥) → b ≡ false
    not_true true n = absurd (n refl)
    not_true false n = refl
