-- A hall with a worker and two sessions fits, as tests open it.
use Rattle.std.proofs.{Common.{◌≡◌, ◌∙◌, ℕ, suc, zero, ◌+◌, ◌^◌, ◌<◌, List, [], ◌∷◌, ◌++◌, length, Some, slice_get, All, refl, sym, arith}, lemmas.List.Elements.{All-cons, All-head, All-nil, All-tail}}
use Rattle.actor_run.specs.{Halls.{IsHallFor, hall_setting}, Sessions.IsSessionRole}
use Rattle.dim_hierarchy.specs.Dimension.{Dimension, IsHierarchy}
use Rattle.row_ledger.specs.declared.settings.Use.{Use}
use Rattle.whole_steps.specs.volap_cell.specs.{Numbering.IsRoleOf, declared.role.Role.Role}
use Rattle.whole_steps.specs.volap_cell.specs.declared.role.Role.TheVariants.{Admin, Session}

-- the hall's own role stands behind those of sessions
own-last : (roles : List Role) → All IsSessionRole roles → (a : ℕ) → slice_get (roles ++ Admin ∷ []) a ≡ Some Admin → a ≡ length roles
own-last [] all zero at = refl
own-last [] all (suc a) at = absurd (cc)
own-last (role ∷ roles) all zero at = (let is = All-head IsSessionRole role roles all in let same = is.1 in absurd (cc))
own-last (role ∷ roles) all (suc a) at = (let here = own-last roles (All-tail IsSessionRole role roles all) a at in omega arith)

module _ (servers x y : ℕ) where
  abbrev pub with : Use
  with = record { servers = servers; workers = 1; threads = 1; cells = 64 }

  abbrev pub two : List Role
  two = Session x ∷ Session y ∷ []

  pub two-fit : x < servers → y < servers → servers < 2 ^ 8 → (h : List Dimension) → 0 < length h → IsHierarchy h → IsHallFor h with two
  two-fit first second bytes h some valid =
      let s = hall_setting h with two in
      let sessions : All IsSessionRole two = All-cons IsSessionRole (Session x) (Session y ∷ []) (x, refl) (All-cons IsSessionRole (Session y) [] (y, refl) (All-nil IsSessionRole)) in
      record {
        setting = record {
          hierarchy = valid;
          servers = omega arith;
          workers = omega arith;
          enough = omega arith;
          few = omega arith;
          roles = All-cons (IsRoleOf s) (Session x) (Session y ∷ Admin ∷ []) first (All-cons (IsRoleOf s) (Session y) (Admin ∷ []) second (All-cons (IsRoleOf s) Admin [] tt (All-nil (IsRoleOf s))));
          admin = λ a b at_a at_b. own-last two sessions a at_a ∙ sym (own-last two sessions b at_b);
        };
        dims = some;
        few = omega arith;
      }
