-- A hall with two sessions, from its opening to its end.
use Rattle.std.proofs.{Common.{◌≡◌, ◌∙◌, ℕ, Bool, ◌+◌, ◌<◌, ◌≤◌, ◌^◌, ◌==◌, cond, inl, inr, List, [], ◌∷◌, ◌++◌, suc, zero, length, refl, sym, ap, subst, arith}, lemmas.{Bool.eq-eqb, List.Elements.{All-cons, All-nil}, List.Sums.sum_by-cons}}
use Rattle.std.specs.Prelude.{Some, count_by, if◌then◌else◌, slice_get}
use Rattle.actor_run.specs.{Halls.{HasClosed, HasOpened, IsHallFor, hall_setting, own_role}, Passes.{AreAllIn, HasGiven, HasTaken, IsOut, PassValue, PassesValue}}
use Rattle.dim_hierarchy.specs.{Dimension.{Dimension, IsHierarchy}, declared.filter.NamePick.NamePick}
use Rattle.list_words.proofs.Elements.{Some-same}
use Rattle.row_ledger.specs.{Right.IsRight, Site.site_of, declared.settings.Use.Use}
use Rattle.actor_run.specs.seat_steps.specs.declared.floor.Floor.{Floor}
use Rattle.actor_run.specs.volap_cell.specs.{Numbering.{IsRoleOf, IsSetting}, Setting.Setting, declared.role.Role.Role, declared.role.Role.TheVariants.{Admin, Session}, declared.state.State.State}
use Rattle.actor_run.specs.volap_turns.specs.Wholes.{IsWhole}
use Rattle.hall_calls.specs.{Both.{HasBoth, two_servers, two_sessions}, Tells.{HasWorked, IsTold}, declared.work.Told.Told}
use Rattle.hall_calls.proofs.Tellings.{told-extended}

-- The opening.

setting-fits : (h : List Dimension) (cells : ℕ) → IsHierarchy h → 2 ≤ cells → cells < 2 ^ 31 → IsSetting (hall_setting h (two_servers cells) two_sessions)
setting-fits h cells valid enough few = record {
  hierarchy = valid;
  servers = omega arith;
  workers = omega arith;
  enough = omega (arith, enough);
  few = omega (arith, few);
  roles = All-cons (IsRoleOf s) (Session 0) (Session 1 ∷ Admin ∷ []) (omega arith) (All-cons (IsRoleOf s) (Session 1) (Admin ∷ []) (omega arith) (All-cons (IsRoleOf s) Admin [] tt (All-nil (IsRoleOf s))));
  admin = λ a b at_a at_b. last a at_a ∙ sym (last b at_b);
}
  where
    s : Setting
    s = hall_setting h (two_servers cells) two_sessions

    last : (a : ℕ) → slice_get (two_sessions ++ Admin ∷ []) a ≡ Some Admin → a ≡ 2
    last zero at = absurd (cc)
    last (suc zero) at = absurd (cc)
    last (suc (suc zero)) at = refl
    last (suc (suc (suc a))) at = absurd (cc)

pub hall-fits : (h : List Dimension) (cells : ℕ) (roles : List Role) → roles ≡ two_sessions → IsHierarchy h → 0 < length h → 2 ≤ cells → cells < 2 ^ 31 → IsHallFor h (two_servers cells) roles
hall-fits h cells roles are valid dims enough few = subst (IsHallFor h (two_servers cells)) (sym are) record {
  setting = setting-fits h cells valid enough few;
  dims = dims;
  few = omega arith;
}

-- Passes that are taken, and come in.

-- the role of a pass is that of its place
pub role-taken : (roles : List Role) (was now : PassesValue) (pass : PassValue) (number : ℕ) (role : Role) → was.setting.roles ≡ roles → slice_get roles number ≡ Some role → HasTaken number was now pass → pass.role ≡ role
role-taken roles was now pass number role are at taken =
    let its : slice_get roles number ≡ Some pass.role = subst (λ (l : List Role). slice_get l number ≡ Some pass.role) are taken.role in
    Some-same role pass.role (sym at ∙ its)

abbrev one_if : Bool → ℕ
one_if b = cond b 1 0

counted : (k n : ℕ) (ns : List ℕ) → count_by (λ x. x == k) (n ∷ ns) ≡ one_if (n == k) + count_by (λ x. x == k) ns
counted k n ns = sum_by-cons (λ x. one_if (x == k)) n ns

pub none-out : (xs : List ℕ) → ((k : ℕ) → count_by (λ x. x == k) xs ≡ 0) → xs ≡ []
none-out [] none = refl
none-out (x ∷ xs) none =
    let here = none x in
    let split = counted x x xs in
    let once = ap one_if (eq-eqb x x refl) in
    absurd (omega (arith, here, split, once))

-- where two passes were taken and are given back, all are in
pub all-in : (opened one_out two_out one_in now : PassesValue) (a b : PassValue) (c d : PassValue) → AreAllIn opened → HasTaken 0 opened one_out a → HasTaken 1 one_out two_out b
    → c.number ≡ 0 → d.number ≡ 1 → HasGiven c two_out one_in → HasGiven d one_in now → AreAllIn now
all-in opened one_out two_out one_in now a b c d all take_a take_b number_c number_d give_c give_d = none-out now.out none
  where
    none : (k : ℕ) → count_by (λ x. x == k) now.out ≡ 0
    none k =
        let before : count_by (λ x. x == k) opened.out ≡ 0 = ap (λ (l : List ℕ). count_by (λ x. x == k) l) all in
        let first = take_a.out k in
        let second = take_b.out k in
        let third : count_by (λ x. x == k) two_out.out ≡ count_by (λ x. x == k) one_in.out + (if k == 0 then 1 else 0) = give_c.out k ∙ ap (λ n. count_by (λ x. x == k) one_in.out + (if k == n then 1 else 0)) number_c in
        let fourth : count_by (λ x. x == k) one_in.out ≡ count_by (λ x. x == k) now.out + (if k == 1 then 1 else 0) = give_d.out k ∙ ap (λ n. count_by (λ x. x == k) now.out + (if k == n then 1 else 0)) number_d in
        omega (arith, before, first, second, third, fourth)

-- where one pass was taken and is given back, all are in
pub one-in : (opened out now : PassesValue) (a b : PassValue) → AreAllIn opened → HasTaken 0 opened out a → b.number ≡ 0 → HasGiven b out now → AreAllIn now
one-in opened out now a b all take number give = none-out now.out none
  where
    none : (k : ℕ) → count_by (λ x. x == k) now.out ≡ 0
    none k =
        let before : count_by (λ x. x == k) opened.out ≡ 0 = ap (λ (l : List ℕ). count_by (λ x. x == k) l) all in
        let first = take.out k in
        let second : count_by (λ x. x == k) out.out ≡ count_by (λ x. x == k) now.out + (if k == 0 then 1 else 0) = give.out k ∙ ap (λ n. count_by (λ x. x == k) now.out + (if k == n then 1 else 0)) number in
        omega (arith, before, first, second)

-- the roles of an open hall
settled : (h : List Dimension) (cells : ℕ) (roles : List Role) (f : Floor) (opened : PassesValue) → roles ≡ two_sessions → HasOpened h (two_servers cells) roles f opened → opened.setting.roles ≡ two_sessions ++ Admin ∷ []
settled h cells roles f opened are is_open = ap (λ (x : Setting). x.roles) is_open.setting ∙ ap (λ (l : List Role). l ++ own_role l ∷ []) are

still-settled : (was now : PassesValue) (pass : PassValue) (number : ℕ) → was.setting.roles ≡ two_sessions ++ Admin ∷ [] → HasTaken number was now pass → now.setting.roles ≡ two_sessions ++ Admin ∷ []
still-settled was now pass number settled taken = ap (λ (p : PassesValue). p.setting.roles) taken.now_is ∙ settled

in-place : (number : ℕ) (p : PassesValue) → p.setting.roles ≡ two_sessions ++ Admin ∷ [] → number < 2 → count_by (λ k. k == number) p.out ≡ 0 → IsOut number p → ⊥
in-place number p settled there none (inl beyond) = let many : length p.setting.roles ≡ 3 = ap length settled in omega (arith, beyond, many, there)
in-place number p settled there none (inr once) = omega (arith, none, once)

-- both passes are in, the second also when the first is out
pub first-in : (h : List Dimension) (cells : ℕ) (roles : List Role) (f : Floor) (opened : PassesValue) → roles ≡ two_sessions → HasOpened h (two_servers cells) roles f opened → IsOut 0 opened → ⊥
first-in h cells roles f opened are is_open out = in-place 0 opened (settled h cells roles f opened are is_open) (omega arith) (ap (λ (l : List ℕ). count_by (λ k. k == 0) l) is_open.all) out

pub second-in : (h : List Dimension) (cells : ℕ) (roles : List Role) (f : Floor) (opened now : PassesValue) (pass : PassValue) → roles ≡ two_sessions → HasOpened h (two_servers cells) roles f opened → HasTaken 0 opened now pass → IsOut 1 now → ⊥
second-in h cells roles f opened now pass are is_open taken out =
    let none : count_by (λ k. k == 1) now.out ≡ 0 = taken.out 1 ∙ ap (λ (l : List ℕ). count_by (λ k. k == 1) l + 0) is_open.all in
    in-place 1 now (still-settled opened now pass 0 (settled h cells roles f opened are is_open) taken) (omega arith) none out

-- The end.

pub opened-with : (h : List Dimension) (cells : ℕ) (roles : List Role) (w : Use) (f : Floor) (opened : PassesValue) → w ≡ two_servers cells → HasOpened h w roles f opened → HasOpened h (two_servers cells) roles f opened
opened-with h cells roles w f opened are is_open = subst (λ (u : Use). HasOpened h u roles f opened) are is_open

pub has-both : (h : List Dimension) (cells : ℕ) (names : List NamePick) (roles : List Role) (f : Floor) (opened one_out two_out one_in now : PassesValue) (a b c d : PassValue) (one other : Told) (s : State) → roles ≡ two_sessions
    → HasOpened h (two_servers cells) roles f opened → HasTaken 0 opened one_out a → HasTaken 1 one_out two_out b → HasWorked f names a c one → HasWorked f names b d other → HasGiven c two_out one_in → HasGiven d one_in now
    → HasClosed f now s → HasBoth h names s one other
has-both h cells names roles f opened one_out two_out one_in now a b c d one other s are is_open take_a take_b worked_c worked_d give_c give_d closed =
    let roles_are = settled h cells roles f opened are is_open in
    let still = still-settled opened one_out a 0 roles_are take_a in
    let first : IsTold f.hierarchy names (record { number = a.number; server = 0 }) c.seen one = worked_c.tells 0 (role-taken (two_sessions ++ Admin ∷ []) opened one_out a 0 (Session 0) roles_are refl take_a) in
    let second : IsTold f.hierarchy names (record { number = b.number; server = 1 }) d.seen other = worked_d.tells 1 (role-taken (two_sessions ++ Admin ∷ []) one_out two_out b 1 (Session 1) still refl take_b) in
    let first_numbered : IsTold f.hierarchy names (record { number = 0; server = 0 }) c.seen one = subst (λ k. IsTold f.hierarchy names (record { number = k; server = 0 }) c.seen one) take_a.number_is first in
    let second_numbered : IsTold f.hierarchy names (record { number = 1; server = 1 }) d.seen other = subst (λ k. IsTold f.hierarchy names (record { number = k; server = 1 }) d.seen other) take_b.number_is second in
    let first_in = told-extended f.hierarchy names (record { number = 0; server = 0 }) c.seen one_in.seen one give_c.as_pass first_numbered in
    let first_now : IsTold f.hierarchy names (record { number = 0; server = 0 }) now.seen one = told-extended f.hierarchy names (record { number = 0; server = 0 }) one_in.seen now.seen one give_d.longer first_in in
    let second_now : IsTold f.hierarchy names (record { number = 1; server = 1 }) now.seen other = told-extended f.hierarchy names (record { number = 1; server = 1 }) d.seen now.seen other give_d.as_pass second_numbered in
    let settings : IsRight (site_of (two_servers cells) f.hierarchy) now.seen = subst (λ (w : Use). IsRight (site_of w f.hierarchy) now.seen) is_open.settings closed.right in
    record {
      whole = subst (λ (l : List Dimension). IsWhole l s.cells.items s.actors.items) is_open.hierarchy closed.whole;
      history = now.seen;
      history_is = closed.history;
      right = subst (λ (l : List Dimension). IsRight (record { hierarchy = l; servers = 2; workers = 1 }) now.seen) is_open.hierarchy settings;
      first = subst (λ (l : List Dimension). IsTold l names (record { number = 0; server = 0 }) now.seen one) is_open.hierarchy first_now;
      second = subst (λ (l : List Dimension). IsTold l names (record { number = 1; server = 1 }) now.seen other) is_open.hierarchy second_now;
    }
