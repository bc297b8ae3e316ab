-- A hall for a script's run opens, and its passes are those of its phases.
use Rattle.std.proofs.{Common.{◌≡◌, ◌∙◌, ℕ, zero, suc, ◌+◌, ◌<◌, Bool, true, List, [], ◌∷◌, ◌++◌, length, Option, Some, None, slice_get, refl, sym, ap, subst, arith}, lemmas.{Bool.or_right, List.length-append, Option.slice_get_within}}
use Rattle.std.specs.{List.list_any, Prelude.{◌||◌, if◌then◌else◌}}
use Rattle.hall_hands.specs.actor_run.specs.{Halls.{HasOpened, IsHallFor, is_admin, own_role}, Passes.PassesValue}
use Rattle.dim_hierarchy.specs.Dimension.{Dimension, IsHierarchy}
use Rattle.row_ledger.specs.declared.settings.Use.{Use}
use Rattle.script_form.specs.Fits.{AreSettings}
use Rattle.script_roles.specs.Roles.{IsNumbered, roles_of}
use Rattle.script_roles.proofs.Roles.{admin-at, can-open, few-in-script, numbered, opens-with}
use Rattle.script_run.specs.Between.{IsThrough, OpeningLaw}
use Rattle.hall_hands.specs.seat_steps.specs.declared.floor.Floor.{Floor}
use Rattle.threaded_run.specs.Phases.{ArePhased}
use Rattle.script_roles.specs.volap_cell.specs.{Setting.{Setting, actor_count, site_in}, declared.role.Role.Role, declared.role.Role.TheVariants.{Admin, Puller}}

-- Lists.

any-at : (roles : List Role) (n : ℕ) → slice_get roles n ≡ Some Admin → list_any is_admin roles ≡ true
any-at [] n at = cc
any-at (r ∷ roles) zero at =
    let same : Some r ≡ Some Admin = at in
    let is : r ≡ Admin = cc in
    ap (λ (x : Role). is_admin x || list_any is_admin roles) is
any-at (r ∷ roles) (suc n) at = ap (λ (b : Bool). is_admin r || b) (any-at roles n at) ∙ or_right (is_admin r) true refl

in-front : (xs : List Role) (own : Role) (n : ℕ) (role : Role) → n < length xs → slice_get (xs ++ own ∷ []) n ≡ Some role → slice_get xs n ≡ Some role
in-front [] own n role low at = absurd (omega (arith, low))
in-front (x ∷ xs) own zero role low at = at
in-front (x ∷ xs) own (suc n) role low at = in-front xs own n role (omega (arith, low)) at

at-last : (xs : List Role) (own : Role) (n : ℕ) → n ≡ length xs → slice_get (xs ++ own ∷ []) n ≡ Some own
at-last [] own zero is = refl
at-last [] own (suc n) is = absurd (omega (arith, is))
at-last (x ∷ xs) own zero is = absurd (omega (arith, is))
at-last (x ∷ xs) own (suc n) is = at-last xs own n (omega (arith, is))

-- The hall's own actor is a puller.

one-puller : (own : Role) → own ≡ Puller → (k : ℕ) (role : Role) → slice_get (own ∷ []) k ≡ Some role → role ≡ Puller
one-puller own is zero role at = (let same : Some own ≡ Some role = at in cc)
one-puller own is (suc k) role at = (let never : ◌≡◌ {A = Option Role} None (Some role) = at in absurd (cc))

own-is : (with : Use) → own_role (roles_of with) ≡ Puller
own-is with = ap (λ (b : Bool). if b then Puller else Admin) (any-at (roles_of with) (with.servers + 1) (admin-at with))

pub script-hall : (h : List Dimension) (with : Use) (roles : List Role) → roles ≡ roles_of with → AreSettings with → IsHierarchy h → 0 < length h → IsHallFor h with roles
script-hall h with roles are settings hierarchy dims = subst (λ (rs : List Role). IsHallFor h with rs) (sym are) record {
  setting = opens-with with (own_role (roles_of with) ∷ []) (one-puller (own_role (roles_of with)) (own-is with)) h (can-open h with settings hierarchy);
  dims = dims;
  few = few-in-script with settings;
}

module _ (h : List Dimension) (with : Use) (roles : List Role) (listed : roles ≡ roles_of with) (f : Floor) (p : PassesValue) (opened : HasOpened h with roles f p) where
  same : own_role roles ≡ Puller
  same = ap own_role listed ∙ own-is with

  admin-there : slice_get roles (with.servers + 1) ≡ Some Admin
  admin-there = ap (λ (rs : List Role). slice_get rs (with.servers + 1)) listed ∙ admin-at with

  roles-are : p.setting.roles ≡ roles ++ own_role roles ∷ []
  roles-are = ap (λ (s : Setting). s.roles) opened.setting

  count : actor_count p.setting ≡ length roles + 1
  count = ap (λ (rs : List Role). length rs) roles-are ∙ length-append roles (own_role roles ∷ [])

  there : (n : ℕ) (role : Role) → n + 1 < actor_count p.setting → slice_get p.setting.roles n ≡ Some role → IsNumbered role f.with n
  there n role low at =
      let is : slice_get (roles ++ own_role roles ∷ []) n ≡ Some role = ap (λ (rs : List Role). slice_get rs n) (sym roles-are) ∙ at in
      subst (λ (w : Use). IsNumbered role w n) (sym opened.settings) (numbered with n role (ap (λ (rs : List Role). slice_get rs n) (sym listed) ∙ in-front roles (own_role roles) n role (omega (arith, low, count)) is))

  pub are-phased : ArePhased f p
  are-phased = record {
    own = opened.own;
    all = opened.all;
    many = (
        let servers = ap (λ (w : Use). w.servers) opened.settings in
        let low = slice_get_within roles (with.servers + 1) Admin admin-there in
        omega (arith, servers, low, count)
        );
    roles = there;
    last = λ n is. ap (λ (rs : List Role). slice_get rs n) roles-are ∙ at-last roles (own_role roles) n (omega (arith, is, count)) ∙ ap Some same;
  }

  pub none-begun : OpeningLaw → IsThrough with h [] p.seen
  none-begun law = law with h (site_in p.setting) p.seen opened.opening
