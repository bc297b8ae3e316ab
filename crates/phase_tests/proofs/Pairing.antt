-- A hall with two roles: it opens, and when both passes are in again it can close.
use Rattle.std.proofs.{Common.{◌≡◌, ◌∙◌, ℕ, zero, suc, ◌+◌, ◌<◌, ◌==◌, List, [], ◌∷◌, ◌++◌, length, Some, slice_get, refl, sym, ap, subst, arith}, lemmas.List.Elements.{All-cons, All-nil}}
use Rattle.std.specs.Prelude.{count_by, if◌then◌else◌}
use Rattle.dim_hierarchy.specs.Dimension.{Dimension, IsHierarchy}
use Rattle.row_ledger.specs.declared.settings.Use.{Use}
use Rattle.hall_calls.proofs.Both.{none-out, role-taken}
use Rattle.hall_hands.specs.actor_run.specs.{Halls.{HasOpened, IsHallFor, hall_setting, own_role}, Passes.{AreAllIn, HasGiven, HasTaken, PassValue, PassesValue}}
use Rattle.hall_hands.specs.seat_steps.specs.declared.floor.Floor.{Floor}
use Rattle.hall_hands.specs.volap_cell.specs.{Numbering.{IsRoleOf, IsSetting}, Setting.Setting, declared.role.Role.Role, declared.role.Role.TheVariants.{Admin, Hand, Puller, Session}}
use Rattle.phase_tests.specs.Pairs.{IsPaired, IsThere, pair}

abbrev settings : Use
settings = record { servers = 2; workers = 1; threads = 1; cells = 256 }

-- The administrator has one place: the second of a pair's, or that behind them.

behind : (other : Role) → own_role (pair other) ≡ Admin → (other ≡ Admin → ⊥) → (a : ℕ) → slice_get (pair other ++ Admin ∷ []) a ≡ Some Admin → a ≡ 2
behind other own not zero at = absurd (cc)
behind other own not (suc zero) at = absurd (not (cc))
behind other own not (suc (suc zero)) at = refl
behind other own not (suc (suc (suc a))) at = absurd (cc)

second : (a : ℕ) → slice_get (pair Admin ++ Puller ∷ []) a ≡ Some Admin → a ≡ 1
second zero at = absurd (cc)
second (suc zero) at = refl
second (suc (suc zero)) at = absurd (cc)
second (suc (suc (suc a))) at = absurd (cc)

module _ (h : List Dimension) (valid : IsHierarchy h) where
  fits-with : (other own : Role) → own_role (pair other) ≡ own → IsRoleOf (hall_setting h settings (pair other)) other → IsRoleOf (hall_setting h settings (pair other)) own
      → ((a b : ℕ) → slice_get (pair other ++ own_role (pair other) ∷ []) a ≡ Some Admin → slice_get (pair other ++ own_role (pair other) ∷ []) b ≡ Some Admin → a ≡ b) → IsSetting (hall_setting h settings (pair other))
  fits-with other own is there own_there once =
      let s : Setting = hall_setting h settings (pair other) in
      record {
        hierarchy = valid;
        servers = omega arith;
        workers = omega arith;
        enough = omega arith;
        few = omega arith;
        roles = All-cons (IsRoleOf s) (Session 0) (other ∷ own_role (pair other) ∷ []) (omega arith)
            (All-cons (IsRoleOf s) other (own_role (pair other) ∷ []) there (All-cons (IsRoleOf s) (own_role (pair other)) [] (subst (IsRoleOf s) (sym is) own_there) (All-nil (IsRoleOf s))));
        admin = once;
      }

  setting-fits : (other : Role) → IsThere other → IsSetting (hall_setting h settings (pair other))
  setting-fits (Session server) there = fits-with (Session server) Admin refl there tt (λ a b at_a at_b. behind (Session server) refl (λ same. cc) a at_a ∙ sym (behind (Session server) refl (λ same. cc) b at_b))
  setting-fits (Hand worker) there = fits-with (Hand worker) Admin refl there tt (λ a b at_a at_b. behind (Hand worker) refl (λ same. cc) a at_a ∙ sym (behind (Hand worker) refl (λ same. cc) b at_b))
  setting-fits Puller there = fits-with Puller Admin refl tt tt (λ a b at_a at_b. behind Puller refl (λ same. cc) a at_a ∙ sym (behind Puller refl (λ same. cc) b at_b))
  setting-fits Admin there = fits-with Admin Puller refl tt tt (λ a b at_a at_b. second a at_a ∙ sym (second b at_b))

  pub hall-fits : (other : Role) (roles : List Role) → roles ≡ pair other → IsThere other → 0 < length h → IsHallFor h settings roles
  hall-fits other roles are there dims = subst (IsHallFor h settings) (sym are) record {
    setting = setting-fits other there;
    dims = dims;
    few = omega arith;
  }

-- The roles.

module _ (h : List Dimension) (other : Role) (roles : List Role) (are : roles ≡ pair other) (f : Floor) (p : PassesValue) (opened : HasOpened h settings roles f p) where
  roles-are : p.setting.roles ≡ pair other ++ own_role (pair other) ∷ []
  roles-are = ap (λ (s : Setting). s.roles) opened.setting ∙ ap (λ (l : List Role). l ++ own_role l ∷ []) are

  pub is-paired : length h ≡ 1 → IsPaired f p
  is-paired one = record {
    own = opened.own;
    all = opened.all;
    one = ap (λ (l : List Dimension). length l) opened.hierarchy ∙ one;
    first = ap (λ (l : List Role). slice_get l 0) roles-are;
  }

  pub second-is : slice_get p.setting.roles 1 ≡ Some other
  second-is = ap (λ (l : List Role). slice_get l 1) roles-are

-- the role of a pass is that of its place
pub role-is : (was now : PassesValue) (pass : PassValue) (number : ℕ) (role : Role) → slice_get was.setting.roles number ≡ Some role → HasTaken number was now pass → pass.role ≡ role
role-is was now pass number role at taken = role-taken was.setting.roles was now pass number role refl at taken

-- Passes that are taken, and come in.

abbrev outs : ℕ → PassesValue → ℕ
outs k p = count_by (λ x. x == k) p.out

abbrev one_at : ℕ → ℕ → ℕ
one_at k n = if k == n then 1 else 0

given : (k n : ℕ) (was now : PassesValue) (p : PassValue) → p.number ≡ n → HasGiven p was now → outs k was ≡ outs k now + one_at k n
given k n was now p number give = give.out k ∙ ap (λ m. outs k now + one_at k m) number

pub one-in : (p0 p1 q1 : PassesValue) (a w : PassValue) → AreAllIn p0 → HasTaken 0 p0 p1 a → w.number ≡ 0 → HasGiven w p1 q1 → AreAllIn q1
one-in p0 p1 q1 a w all take number give = none-out q1.out (λ k.
    let before : outs k p0 ≡ 0 = ap (λ (l : List ℕ). count_by (λ v. v == k) l) all in
    let t0 : outs k p1 ≡ outs k p0 + one_at k 0 = take.out k in
    let g0 : outs k p1 ≡ outs k q1 + one_at k 0 = given k 0 p1 q1 w number give in
    omega (arith, before, t0, g0))

pub both-in : (p0 p1 p2 q1 q2 : PassesValue) (a b w x : PassValue) → AreAllIn p0 → HasTaken 0 p0 p1 a → HasTaken 1 p1 p2 b → w.number ≡ 0 → x.number ≡ 1 → HasGiven w p2 q1 → HasGiven x q1 q2 → AreAllIn q2
both-in p0 p1 p2 q1 q2 a b w x all take_a take_b number_w number_x give_w give_x = none-out q2.out (λ k.
    let before : outs k p0 ≡ 0 = ap (λ (l : List ℕ). count_by (λ v. v == k) l) all in
    let t0 : outs k p1 ≡ outs k p0 + one_at k 0 = take_a.out k in
    let t1 : outs k p2 ≡ outs k p1 + one_at k 1 = take_b.out k in
    let g0 : outs k p2 ≡ outs k q1 + one_at k 0 = given k 0 p2 q1 w number_w give_w in
    let g1 : outs k q1 ≡ outs k q2 + one_at k 1 = given k 1 q1 q2 x number_x give_x in
    omega (arith, before, t0, t1, g0, g1))
