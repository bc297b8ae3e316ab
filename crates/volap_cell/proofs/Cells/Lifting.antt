-- Cells that are moved out one after the other, some of them at times only: those that are still to come can be moved out when the
-- first ones are, and all of them stood at their places before.
use Rattle.std.proofs.{Common.{◌≡◌, ◌≢◌, ℕ, List, [], ◌∷◌, ◌++◌, Option, Some, None, length, get_or, set, sym, ap, ◌∙◌, subst}, lemmas.List.get_or-set_other}
use Rattle.std.specs.Prelude.{⊤}
use Rattle.dim_hierarchy.specs.Dimension.{Dimension}
use Rattle.list_words.specs.Counts.{Each}
use Rattle.volap_cell.specs.{Setting.Setting, State.{Has, IsWorldOf, AreDifferent, CanLift, Stand, taken, given, Exchange, numbers_of, cells_before, cells_now, changes_of, MayHold, Stepped}, Steps.{HasSight, Inv, Makes}, Values.actor_of, World.{World, Change}, declared.actor.Actor.Actor, declared.cell.Cell.Cell, declared.kind.Kind.Kind}
use Rattle.volap_cell.proofs.Cells.States.{length-given, length-taken, taken-off, drives}

-- Some and then others.

front : {A : Type 0} (P : A → Type 0) (ys zs : List A) → Each P (ys ++ zs) → Each P ys
front P [] zs e = tt
front P (y ∷ ys) zs e = (e.0, front P ys zs e.1)

back : {A : Type 0} (P : A → Type 0) (ys zs : List A) → Each P (ys ++ zs) → Each P zs
back P [] zs e = e
back P (y ∷ ys) zs e = back P ys zs e.1

different-front : (ys zs : List ℕ) → AreDifferent (ys ++ zs) → AreDifferent ys
different-front [] zs d = tt
different-front (y ∷ ys) zs d = (front (λ z. z ≢ y) ys zs d.0, different-front ys zs d.1)

-- the first ones can be moved out
pub lift-some : {A : Type 0} (xs : List (Option A)) (ys zs : List ℕ) → CanLift xs (ys ++ zs) → CanLift xs ys
lift-some {A} xs ys zs can = record { there = front (λ y. Has (get_or xs y None) (λ (x : A). ⊤)) ys zs can.there; apart = different-front ys zs can.apart }

there-still : {A : Type 0} (xs : List (Option A)) (y : ℕ) (zs : List ℕ) → Each (λ z. z ≢ y) zs → Each (λ z. Has (get_or xs z None) (λ (x : A). ⊤)) zs → Each (λ z. Has (get_or (set xs y None) z None) (λ (x : A). ⊤)) zs
there-still xs y [] apart have = tt
there-still {A} xs y (z ∷ zs) apart have = (
  subst (λ (o : Option A). Has o (λ (x : A). ⊤)) (sym (get_or-set_other xs y z None None apart.0)) have.0,
  there-still xs y zs apart.1 have.1,
)

others-of : {A : Type 0} (xs : List (Option A)) (ys zs : List ℕ) → CanLift xs (ys ++ zs) → CanLift (taken ys xs) zs
others-of xs [] zs can = can
others-of xs (y ∷ ys) zs can = others-of (set xs y None) ys zs (record { there = there-still xs y (ys ++ zs) can.apart.0 can.there.1; apart = can.apart.1 })

-- and then the others
pub lift-others : {A : Type 0} (xs out : List (Option A)) (ys zs : List ℕ) → out ≡ taken ys xs → CanLift xs (ys ++ zs) → CanLift out zs
lift-others {A} xs out ys zs e can = subst (λ (vs : List (Option A)). CanLift vs zs) (sym e) (others-of xs ys zs can)

-- what stood when others were out stood before
pub stand-others : {A : Type 0} (xs out : List (Option A)) (ys : List ℕ) (things : List (ℕ × A)) → out ≡ taken ys xs → Each (λ t. Each (λ y. t.0 ≢ y) ys) things → Stand out things → Stand xs things
stand-others xs out ys [] e apart st = tt
stand-others {A} xs out ys (t ∷ things) e apart st = (
  sym (taken-off ys xs t.0 apart.0) ∙ ap (λ (vs : List (Option A)). get_or vs t.0 None) (sym e) ∙ st.0,
  stand-others xs out ys things e apart.1 st.1,
)

pub long-out : {A : Type 0} (xs out : List (Option A)) (ys : List ℕ) → out ≡ taken ys xs → length out ≡ length xs
long-out {A} xs out ys e = ap (λ (vs : List (Option A)). length vs) e ∙ length-taken ys xs

pub long-back : {A : Type 0} (out back : List (Option A)) (things : List (ℕ × A)) → back ≡ given things out → length back ≡ length out
long-back {A} out back things e = ap (λ (vs : List (Option A)). length vs) e ∙ length-given things out

-- A driver's step, of exchanges that are known by equations.
pub drives-as : (h : List Dimension) (kind : Kind) (cells cells_out cells_back : List (Option Cell)) (actors actors_out actors_back : List (Option Actor)) (xs : List Exchange)
    (numbers : List ℕ) (befores nows : List (ℕ × Cell)) (changes : List Change) (n : ℕ) (a now : Actor)
    → numbers_of xs ≡ numbers → cells_before xs ≡ befores → cells_now xs ≡ nows → changes_of xs ≡ changes
    → cells_out ≡ taken numbers cells → actors_out ≡ set actors n None → cells_back ≡ given nows cells_out → actors_back ≡ set actors_out n (Some now)
    → MayHold cells actors befores n a → (makes : Makes h kind changes (actor_of a) (actor_of now))
    → ((s : Setting) (w : World) → s.hierarchy ≡ h → IsWorldOf cells actors w → Inv s w → HasSight s w n h kind changes (actor_of a) (actor_of now) makes.does)
    → Stepped h kind n cells actors cells_back actors_back
drives-as h kind cells cells_out cells_back actors actors_out actors_back xs numbers befores nows changes n a now is_numbers is_befores is_nows is_changes e f e2 f2 may =
    subst (λ (cs : List Change). (makes : Makes h kind cs (actor_of a) (actor_of now))
    → ((s : Setting) (w : World) → s.hierarchy ≡ h → IsWorldOf cells actors w → Inv s w → HasSight s w n h kind cs (actor_of a) (actor_of now) makes.does)
    → Stepped h kind n cells actors cells_back actors_back) is_changes
    (drives h kind cells cells_out cells_back actors actors_out actors_back xs n a now
    (e ∙ ap (λ (ys : List ℕ). taken ys cells) (sym is_numbers)) f
    (e2 ∙ ap (λ (ts : List (ℕ × Cell)). given ts cells_out) (sym is_nows)) f2
    (subst (λ (ts : List (ℕ × Cell)). MayHold cells actors ts n a) (sym is_befores) may))
