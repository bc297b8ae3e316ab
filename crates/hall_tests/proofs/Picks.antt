-- Questions whose picks name something.
use Rattle.std.proofs.{Common.{◌≡◌, ◌∙◌, List, [], ◌∷◌, ◌++◌, refl, sym, ap, subst}, lemmas.List.Elements.{All-cons, All-nil, All-weaker}}
use Rattle.std.specs.Prelude.{All, true}
use Rattle.dim_hierarchy.specs.{Names.IsNamePick, declared.filter.NamePick.NamePick}
use Rattle.dim_hierarchy.specs.declared.filter.NamePick.TheVariants as by_name
use Rattle.hall_tests.specs.Plans.{IsQuestion, is_pick}

pick-is : (p : NamePick) → is_pick p ≡ true → IsNamePick p
pick-is by_name.All is = tt
pick-is (by_name.Any []) is = absurd (cc)
pick-is (by_name.Any (name ∷ names)) is = λ none. cc

pub picks_are : (picks : List NamePick) → IsQuestion picks → All IsNamePick picks
picks_are picks is = All-weaker (λ p. is_pick p ≡ true) IsNamePick pick-is picks is.1

-- a question for one name
pub asks_one : {name : List Prim.Native.Nat.ℕ} (names : List (List Prim.Native.Nat.ℕ)) (picks : List NamePick) → names ≡ [] ++ name ∷ [] → picks ≡ [] ++ by_name.Any names ∷ [] → IsQuestion picks
asks_one {name} names picks named asked =
    let one : picks ≡ by_name.Any (name ∷ []) ∷ [] = asked ∙ ap (λ l. by_name.Any l ∷ []) named in
    subst IsQuestion (sym one) (refl, All-cons (λ p. is_pick p ≡ true) (by_name.Any (name ∷ [])) [] refl (All-nil (λ p. is_pick p ≡ true)))
