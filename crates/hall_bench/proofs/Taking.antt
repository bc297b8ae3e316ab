-- The passes of a hall with four sessions, taken one after the other.
use Rattle.std.proofs.{Common.{◌≡◌, ◌∙◌, ℕ, ◌+◌, ◌<◌, ◌==◌, inl, inr, List, length, ap, arith}, lemmas.Bool.ne_eqb}
use Rattle.std.specs.Prelude.{count_by, if◌then◌else◌}
use Rattle.hall_calls.specs.actor_run.specs.{Halls.HasOpened, Passes.{HasTaken, IsOut, PassValue, PassesValue}}
use Rattle.dim_hierarchy.specs.Dimension.{Dimension}
use Rattle.row_ledger.specs.declared.settings.Use.{Use}
use Rattle.hall_calls.specs.seat_steps.specs.declared.floor.Floor.{Floor}
use Rattle.hall_calls.specs.volap_cell.specs.declared.role.Role.{Role}
use Rattle.hall_calls.proofs.Four.{four, settled}
use Rattle.hall_bench.specs.Rest.{AreInFrom}

-- all are in at first
pub opened-in : (h : List Dimension) (with : Use) (roles : List Role) (a b c d : ℕ) (f : Floor) (p : PassesValue) → roles ≡ four a b c d → HasOpened h with roles f p → AreInFrom 0 p
opened-in h with roles a b c d f p are is_open = record {
  roles = ap length (settled h with roles a b c d f p are is_open);
  none = λ k within. ap (λ (l : List ℕ). count_by (λ x. x == k) l) is_open.all;
}

-- where one is taken, those behind it still are
pub taken-in : (n : ℕ) (was now : PassesValue) (pass : PassValue) → AreInFrom n was → HasTaken n was now pass → AreInFrom (n + 1) now
taken-in n was now pass from taken = record {
  roles = ap (λ (p : PassesValue). length p.setting.roles) taken.now_is ∙ from.roles;
  none = λ k within.
      let here = taken.out k in
      let before = from.none k (omega (arith, within)) in
      let other : (if k == n then 1 else 0) ≡ 0 = ap {B = ℕ} (λ b. if b then 1 else 0) (ne_eqb k n (λ same. omega (arith, within, same))) in
      omega (arith, here, before, other);
}

-- a pass that is in isn't out
pub is-in : (n : ℕ) (p : PassesValue) → n < 4 → AreInFrom n p → IsOut n p → ⊥
is-in n p few from (inl beyond) = let many = from.roles in omega (arith, beyond, many, few)
is-in n p few from (inr once) = let none = from.none n (omega arith) in omega (arith, none, once)
