-- What holds of each item of a list, and items that stand among others.
use Rattle.std.proofs.{Common.{ℕ, inl, inr, Bool, List, [], ◌∷◌, ◌++◌, map, filter, take, drop, refl, sym, subst}, lemmas.List.take-append-drop, lemmas.List.Elements.{All-nil, All-cons, All-head, All-tail}}
use Rattle.std.specs.{List.flat_map, Prelude.All}
use Rattle.list_words.specs.Counts.{Among, Each}
use Rattle.list_words.proofs.Truth.{on_bool}

-- Items among others.

pub among-left : {A : Type 0} (xs ys : List A) (x : A) → Among x xs → Among x (xs ++ ys)
among-left [] ys x h = absurd h
among-left (z ∷ xs) ys x h = elim h [ inl e ↦ inl e | inr w ↦ inr (among-left xs ys x w) ]

pub among-right : {A : Type 0} (xs ys : List A) (x : A) → Among x ys → Among x (xs ++ ys)
among-right [] ys x h = h
among-right (z ∷ xs) ys x h = inr (among-right xs ys x h)

-- Facts of each item.

pub each-here : {A : Type 0} (P : A → Type 0) (xs : List A) → ((x : A) → Among x xs → P x) → Each P xs
each-here P [] f = tt
each-here P (x ∷ xs) f = (f x (inl refl), each-here P xs (λ y h. f y (inr h)))

pub each-append : {A : Type 0} (P : A → Type 0) (xs ys : List A) → Each P xs → Each P ys → Each P (xs ++ ys)
each-append P [] ys h k = k
each-append P (x ∷ xs) ys h k = (h.0, each-append P xs ys h.1 k)

pub each-left : {A : Type 0} (P : A → Type 0) (xs ys : List A) → Each P (xs ++ ys) → Each P xs
each-left P [] ys h = tt
each-left P (x ∷ xs) ys h = (h.0, each-left P xs ys h.1)

pub each-right : {A : Type 0} (P : A → Type 0) (xs ys : List A) → Each P (xs ++ ys) → Each P ys
each-right P [] ys h = h
each-right P (x ∷ xs) ys h = each-right P xs ys h.1

pub take-among : {A : Type 0} (xs : List A) (n : ℕ) → Each (λ x. Among x xs) (take n xs)
take-among xs n = each-here (λ x. Among x xs) (take n xs) (λ x h. subst (λ ys. Among x ys) (take-append-drop n xs) (among-left (take n xs) (drop n xs) x h))

pub drop-among : {A : Type 0} (xs : List A) (n : ℕ) → Each (λ x. Among x xs) (drop n xs)
drop-among xs n = each-here (λ x. Among x xs) (drop n xs) (λ x h. subst (λ ys. Among x ys) (take-append-drop n xs) (among-right (take n xs) (drop n xs) x h))

-- what holds of each item holds of one, and of those that stand among them
pub each-among : {A : Type 0} (P : A → Type 0) (x : A) (xs : List A) → Each P xs → Among x xs → P x
each-among P x [] h a = absurd a
each-among P x (y ∷ ys) h a = elim a [ inl e ↦ subst P (sym e) h.0 | inr w ↦ each-among P x ys h.1 w ]

pub each-of : {A : Type 0} (P : A → Type 0) (xs ys : List A) → Each P xs → Each (λ y. Among y xs) ys → Each P ys
each-of P xs [] h w = tt
each-of P xs (y ∷ ys) h w = (each-among P y xs h w.0, each-of P xs ys h w.1)

pub each-map : {A : Type 0} (P Q : A → Type 0) (xs : List A) → ((x : A) → P x → Q x) → Each P xs → Each Q xs
each-map P Q [] f h = tt
each-map P Q (x ∷ xs) f h = (f x h.0, each-map P Q xs f h.1)

pub each-both : {A : Type 0} (P Q R : A → Type 0) (xs : List A) → ((x : A) → P x → Q x → R x) → Each P xs → Each Q xs → Each R xs
each-both P Q R [] f h k = tt
each-both P Q R (x ∷ xs) f h k = (f x h.0 k.0, each-both P Q R xs f h.1 k.1)

pub each-mapped : {A B : Type 0} (P : B → Type 0) (f : A → B) (xs : List A) → Each (λ x. P (f x)) xs → Each P (map f xs)
each-mapped P f [] h = tt
each-mapped P f (x ∷ xs) h = (h.0, each-mapped P f xs h.1)

pub each-made : {A B : Type 0} (Q : A → Type 0) (P : B → Type 0) (f : A → B) (xs : List A) → ((x : A) → Q x → P (f x)) → Each Q xs → Each P (map f xs)
each-made Q P f [] h w = tt
each-made Q P f (x ∷ xs) h w = (h x w.0, each-made Q P f xs h w.1)

pub each-flat : {A B : Type 0} (P : B → Type 0) (f : A → List B) (xs : List A) → Each (λ x. Each P (f x)) xs → Each P (flat_map f xs)
each-flat P f [] h = tt
each-flat P f (x ∷ xs) h = each-append P (f x) (flat_map f xs) h.0 (each-flat P f xs h.1)

pub each-filter : {A : Type 0} (P : A → Type 0) (p : A → Bool) (xs : List A) → Each P xs → Each P (filter p xs)
each-filter P p [] e = tt
each-filter P p (x ∷ xs) e = (let rest = each-filter P p xs e.1 in on_bool (p x) (λ q. rw q (e.0, rest)) (λ q. rw q rest))

pub all-each : {A : Type 0} (P : A → Type 0) (xs : List A) → Each P xs → All P xs
all-each P [] h = All-nil P
all-each P (x ∷ xs) h = All-cons P x xs h.0 (all-each P xs h.1)

pub each-all : {A : Type 0} (P : A → Type 0) (xs : List A) → All P xs → Each P xs
each-all P [] h = tt
each-all P (x ∷ xs) h = (All-head P x xs h, each-all P xs (All-tail P x xs h))
