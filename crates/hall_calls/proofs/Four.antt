-- A hall with four sessions: it opens, and when all four passes are in it can close.
use Rattle.std.proofs.{Common.{◌≡◌, ◌∙◌, ℕ, ◌+◌, ◌<◌, ◌≤◌, ◌^◌, ◌==◌, List, [], ◌∷◌, ◌++◌, suc, zero, refl, sym, ap, subst, arith}, lemmas.List.Elements.{All-cons, All-nil}}
use Rattle.std.specs.Prelude.{Some, count_by, if◌then◌else◌, slice_get, length}
use Rattle.actor_run.specs.{Halls.{HasOpened, IsHallFor, hall_setting, own_role}, Passes.{AreAllIn, HasGiven, HasTaken, IsPassOf, PassValue, PassesValue}}
use Rattle.dim_hierarchy.specs.Dimension.{Dimension, IsHierarchy}
use Rattle.row_ledger.specs.declared.settings.Use.{Use}
use Rattle.actor_run.specs.seat_steps.specs.declared.floor.Floor.{Floor}
use Rattle.actor_run.specs.volap_cell.specs.{Numbering.{IsRoleOf, IsSetting}, Setting.Setting, declared.role.Role.Role, declared.role.Role.TheVariants.{Admin, Session}}
use Rattle.hall_calls.specs.Passing.{CanWork}
use Rattle.hall_calls.proofs.Both.{none-out, role-taken}

-- four sessions, by their servers
abbrev pub four : ℕ → ℕ → ℕ → ℕ → List Role
four a b c d = Session a ∷ Session b ∷ Session c ∷ Session d ∷ []

-- settings for them
pub record AreFor (with : Use) (a b c d : ℕ) : Type 0 where
  pub servers : (a < with.servers) × (b < with.servers) × (c < with.servers) × (d < with.servers)
  pub one_worker : with.workers ≡ 1
  pub enough : 2 ≤ with.cells
  pub few : with.servers + with.servers + with.cells < 2 ^ 31

setting-fits : (h : List Dimension) (with : Use) (a b c d : ℕ) → IsHierarchy h → AreFor with a b c d → IsSetting (hall_setting h with (four a b c d))
setting-fits h with a b c d valid are = record {
  hierarchy = valid;
  servers = let within = are.servers.0 in omega (arith, within);
  workers = let one = are.one_worker in omega (arith, one);
  enough = let one = are.one_worker in let enough = are.enough in omega (arith, one, enough);
  few = let one = are.one_worker in let few = are.few in omega (arith, one, few);
  roles = All-cons (IsRoleOf s) (Session a) (Session b ∷ Session c ∷ Session d ∷ Admin ∷ []) are.servers.0
      (All-cons (IsRoleOf s) (Session b) (Session c ∷ Session d ∷ Admin ∷ []) are.servers.1
      (All-cons (IsRoleOf s) (Session c) (Session d ∷ Admin ∷ []) are.servers.2
      (All-cons (IsRoleOf s) (Session d) (Admin ∷ []) are.servers.3 (All-cons (IsRoleOf s) Admin [] tt (All-nil (IsRoleOf s))))));
  admin = λ x y at_x at_y. last x at_x ∙ sym (last y at_y);
}
  where
    s : Setting
    s = hall_setting h with (four a b c d)

    last : (x : ℕ) → slice_get (four a b c d ++ Admin ∷ []) x ≡ Some Admin → x ≡ 4
    last zero at = absurd (cc)
    last (suc zero) at = absurd (cc)
    last (suc (suc zero)) at = absurd (cc)
    last (suc (suc (suc zero))) at = absurd (cc)
    last (suc (suc (suc (suc zero)))) at = refl
    last (suc (suc (suc (suc (suc x))))) at = absurd (cc)

pub hall-fits : (h : List Dimension) (with : Use) (roles : List Role) (a b c d : ℕ) → roles ≡ four a b c d → IsHierarchy h → 0 < length h → AreFor with a b c d → IsHallFor h with roles
hall-fits h with roles a b c d roles_are valid dims are = subst (IsHallFor h with) (sym roles_are) record {
  setting = setting-fits h with a b c d valid are;
  dims = dims;
  few = omega arith;
}

-- how often a number is out

abbrev pub outs : ℕ → PassesValue → ℕ
outs k p = count_by (λ x. x == k) p.out

abbrev pub one_at : ℕ → ℕ → ℕ
one_at k n = if k == n then 1 else 0

given : (k n : ℕ) (was now : PassesValue) (p : PassValue) → p.number ≡ n → HasGiven p was now → outs k was ≡ outs k now + one_at k n
given k n was now p number give = give.out k ∙ ap (λ m. outs k now + one_at k m) number

-- where four passes were taken and are given back, all are in
pub all-in : (p0 p1 p2 p3 p4 q1 q2 q3 q4 : PassesValue) (a b c d w x y z : PassValue) → AreAllIn p0 → HasTaken 0 p0 p1 a → HasTaken 1 p1 p2 b → HasTaken 2 p2 p3 c → HasTaken 3 p3 p4 d
    → w.number ≡ 0 → x.number ≡ 1 → y.number ≡ 2 → z.number ≡ 3 → HasGiven w p4 q1 → HasGiven x q1 q2 → HasGiven y q2 q3 → HasGiven z q3 q4 → AreAllIn q4
all-in p0 p1 p2 p3 p4 q1 q2 q3 q4 a b c d w x y z all take_a take_b take_c take_d number_w number_x number_y number_z give_w give_x give_y give_z = none-out q4.out none
  where
    none : (k : ℕ) → outs k q4 ≡ 0
    none k =
        let before : outs k p0 ≡ 0 = ap (λ (l : List ℕ). count_by (λ v. v == k) l) all in
        let t0 : outs k p1 ≡ outs k p0 + one_at k 0 = take_a.out k in
        let t1 : outs k p2 ≡ outs k p1 + one_at k 1 = take_b.out k in
        let t2 : outs k p3 ≡ outs k p2 + one_at k 2 = take_c.out k in
        let t3 : outs k p4 ≡ outs k p3 + one_at k 3 = take_d.out k in
        let g0 : outs k p4 ≡ outs k q1 + one_at k 0 = given k 0 p4 q1 w number_w give_w in
        let g1 : outs k q1 ≡ outs k q2 + one_at k 1 = given k 1 q1 q2 x number_x give_x in
        let g2 : outs k q2 ≡ outs k q3 + one_at k 2 = given k 2 q2 q3 y number_y give_y in
        let g3 : outs k q3 ≡ outs k q4 + one_at k 3 = given k 3 q3 q4 z number_z give_z in
        omega (arith, before, t0, t1, t2, t3, g0, g1, g2, g3)

-- The roles.

-- the roles of an open hall
pub settled : (h : List Dimension) (with : Use) (roles : List Role) (a b c d : ℕ) (f : Floor) (opened : PassesValue) → roles ≡ four a b c d → HasOpened h with roles f opened → opened.setting.roles ≡ four a b c d ++ Admin ∷ []
settled h with roles a b c d f opened are is_open = ap (λ (x : Setting). x.roles) is_open.setting ∙ ap (λ (l : List Role). l ++ own_role l ∷ []) are

pub still-settled : (roles : List Role) (was now : PassesValue) (pass : PassValue) (number : ℕ) → was.setting.roles ≡ roles → HasTaken number was now pass → now.setting.roles ≡ roles
still-settled roles was now pass number settled taken = ap (λ (p : PassesValue). p.setting.roles) taken.now_is ∙ settled

-- the pass of a session can work
pub can-work : (roles : List Role) (f : Floor) (was now : PassesValue) (pass : PassValue) (number server : ℕ) → was.setting.roles ≡ roles → slice_get roles number ≡ Some (Session server) → HasTaken number was now pass → IsPassOf f pass → CanWork f pass
can-work roles f was now pass number server settled at taken of = record { of = of; role = (server, role-taken roles was now pass number (Session server) settled at taken) }

-- all four can work
pub can-work-all : (h : List Dimension) (with : Use) (roles : List Role) (a b c d : ℕ) (f : Floor) (p0 p1 p2 p3 p4 : PassesValue) (w x y z : PassValue) → roles ≡ four a b c d → HasOpened h with roles f p0 → HasTaken 0 p0 p1 w → HasTaken 1 p1 p2 x
    → HasTaken 2 p2 p3 y → HasTaken 3 p3 p4 z → IsPassOf f w → IsPassOf f x → IsPassOf f y → IsPassOf f z → (CanWork f w × CanWork f x) × (CanWork f y × CanWork f z)
can-work-all h with roles a b c d f p0 p1 p2 p3 p4 w x y z are is_open take_w take_x take_y take_z of_w of_x of_y of_z =
    let all = four a b c d ++ Admin ∷ [] in
    let s0 = settled h with roles a b c d f p0 are is_open in
    let s1 = still-settled all p0 p1 w 0 s0 take_w in
    let s2 = still-settled all p1 p2 x 1 s1 take_x in
    let s3 = still-settled all p2 p3 y 2 s2 take_y in (
      (can-work all f p0 p1 w 0 a s0 refl take_w of_w, can-work all f p1 p2 x 1 b s1 refl take_x of_x),
      (can-work all f p2 p3 y 2 c s2 refl take_y of_y, can-work all f p3 p4 z 3 d s3 refl take_z of_z),
    )
