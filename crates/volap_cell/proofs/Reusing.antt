-- What becomes of the administrator's list when a gate goes, and when its cell is free again.
use Rattle.std.proofs.{Common.{◌≡◌, ◌≢◌, ℕ, ◌+◌, Bool, false, cond, eqb, List, [], ◌∷◌, ◌++◌, Option, Some, None, refl, sym, ap, ◌∙◌, subst, arith}, lemmas.Bool.{eqb-true, eqb-false}}
use Rattle.list_words.specs.Counts.{times}
use Rattle.list_words.proofs.{Times.{same_is, same_not, times-append}, Truth.on_bool}
use Rattle.shard_build.specs.shard_store.specs.{declared.gate.Phase.Phase, declared.gate.Phase.TheVariants.{Open, Frozen, Gone}}
use Rattle.volap_cell.specs.{Reusing.{Reusing, is_gone, without_gate}, declared.role.Role.Role, declared.role.Role.TheVariants.Admin}

-- a gate that stands, or a cell without one, is not on the list
pub stands-off : (p : Option Phase) → p ≢ Some Gone → is_gone p ≡ false
stands-off None stands = refl
stands-off (Some Open) stands = refl
stands-off (Some (Frozen upto)) stands = refl
stands-off (Some Gone) stands = absurd (stands refl)

-- a list with a cell more behind it

pub more-off : (xs : List ℕ) (gate c : ℕ) → c ≢ gate → times c (xs ++ gate ∷ []) ≡ times c xs
more-off xs gate c ne = (let parts = times-append c xs (gate ∷ []) in let none = same_not c gate ne in omega (arith, parts, none))

pub more-there : (xs : List ℕ) (gate : ℕ) → times gate (xs ++ gate ∷ []) ≡ times gate xs + 1
more-there xs gate = (let parts = times-append gate xs (gate ∷ []) in let one = same_is gate gate refl in omega (arith, parts, one))

-- and without one

pub less-off : (xs : List ℕ) (gate c : ℕ) → c ≢ gate → times c (without_gate gate xs) ≡ times c xs
less-off [] gate c ne = refl
less-off (x ∷ xs) gate c ne =
    let rest = less-off xs gate c ne in
    on_bool (eqb x gate)
    (λ q. let none = same_not c x (λ e. ne (e ∙ eqb-true x gate q)) in rw q (omega (arith, rest, none)))
    (λ q. rw q (omega (arith, rest)))

pub less-there : (xs : List ℕ) (gate : ℕ) → times gate (without_gate gate xs) ≡ 0
less-there [] gate = refl
less-there (x ∷ xs) gate =
    let rest = less-there xs gate in
    on_bool (eqb x gate)
    (λ q. rw q rest)
    (λ q. let none = same_not gate x (λ e. eqb-false x gate q (sym e)) in rw q (omega (arith, rest, none)))

-- one gate goes, or its cell is free again: the list of the one administrator has it, or has it no more, and all others as before
pub reusing-turned : (roles : ℕ → Role) (phases phases_now : ℕ → Option Phase) (lists lists_now : ℕ → List ℕ) → Reusing roles phases lists → (n gate : ℕ) → ((a : ℕ) → roles a ≡ Admin → a ≡ n)
    → ((c : ℕ) → c ≢ gate → times c (lists_now n) ≡ times c (lists n)) → times gate (lists_now n) ≡ cond (is_gone (phases_now gate)) 1 0
    → ((c : ℕ) → c ≢ gate → is_gone (phases_now c) ≡ is_gone (phases c)) → Reusing roles phases_now lists_now
reusing-turned roles phases phases_now lists lists_now r n gate one off there others = record {
  listed = λ a c role.
      let e = one a role in
      subst (λ (k : ℕ). times c (lists_now k) ≡ cond (is_gone (phases_now c)) 1 0) (sym e) (on_bool (eqb c gate)
      (λ q. subst (λ (k : ℕ). times k (lists_now n) ≡ cond (is_gone (phases_now k)) 1 0) (sym (eqb-true c gate q)) there)
      (λ q.
      let ne = eqb-false c gate q in
      off c ne ∙ r.listed n c (ap roles (sym e) ∙ role) ∙ ap (λ (b : Bool). cond b 1 0) (sym (others c ne))));
}
