-- All passes are in, and the administrator uses the cells of gates that are gone again: all are in still, and it knows of no such gate.
use Rattle.std.proofs.Common.{◌≡◌, ◌≢◌, ◌∙◌, ℕ, ◌<◌, ◌≤◌, true, List, [], length, get_or, set, slice_get, Option, Some, None, sym, ap, subst, arith, length-set, get_or-set_other, get_or-set_same}
use mathlib.Core.Logic.{dite}
use native.Mathlib.Decide.{ℕ_discrete}
use Rattle.actor_run.proofs.{Gathered.{IsBack, admin-role, begun-else, role-at, role-in, stands-at}, Knowing.{none-among, none-left, none-of, none-other}, Seated.{is-actor, none-since, setting-of}}
use Rattle.actor_run.specs.{Halls.is_admin, Passes.{AreAllIn, ArePasses, IsAbout, IsIn, IsPassesOf, PassesValue, gone_at, gone_of, missing, passes_of}, Wholes.{HaveReused, is_admin_at}}
use Rattle.atomic_table.specs.Seated.{TableId}
use Rattle.row_ledger.specs.{Right.IsRight, Site.Site}
use Rattle.script_run.specs.Places.{begins_of}
use Rattle.turn_table.specs.{Numbered.Extends, Seat.SeatValue}
use Rattle.whole_steps.specs.call_steps.proofs.OpenCalls.{extends-length}
use Rattle.whole_steps.specs.{Reuses.HasReusedSole, Sole.player}
use Rattle.whole_steps.specs.job_steps.specs.Reuses.{IsBetween}
use Rattle.whole_steps.specs.seat_steps.specs.declared.floor.Floor.{Floor}
use Rattle.whole_steps.specs.volap_cell.specs.{Setting.Setting, Sights.IsIdle, Values.{ActorValue, actor_of}, declared.actor.Actor.Actor, declared.cell.Cell.Cell, declared.role.Role.Role, declared.role.Role.TheVariants.Admin}
use Rattle.row_ledger.specs.declared.event.Event.{Event}

abbrev S : Type 0
S = SeatValue Cell Actor Event

module _ {s : S} {own : Actor} {actors : List (Option Actor)} (are : ArePasses s own actors) (all : missing 0 actors ≡ []) where
  abbrev about : Setting
  about = (actor_of own).setting

  module _ (f : Floor) (of : IsAbout f s.table_id (actor_of own).setting) (n : ℕ) (x : Actor) (it : IsIn (actor_of own).setting s n x) where
    -- the administrator has nothing to do
    pub is-between : (actor_of x).role ≡ Admin → IsBetween (player n x s)
    is-between admin = record { role = admin; no_command = it.idle.command; no_part = it.idle.errand }

    module _ (y : Actor) (t : S) (has : HasReusedSole f (player n x s) (player n y t)) where
      -- nor has it then
      pub reused-back : IsBack f (player n x s) (player n y t)
      reused-back = record {
        stands = has.stands;
        same = has.same;
        idle = λ i. subst IsIdle (sym has.actor) (record { command = i.command; errand = i.errand; job = i.job; purse = i.purse; counted = i.counted });
        noted = (let seen = ap (λ (v : ActorValue). v.seen) has.actor in let few = it.noted in let longer = extends-length s.view.seen t.view.seen has.seen in omega (arith, seen, few, longer));
      }

      -- and nobody has begun anything
      pub reused-nothing : (k : ℕ) → begins_of t.view.seen k ≡ begins_of s.view.seen k
      reused-nothing k = dite (ℕ_discrete k n)
          (λ (same : k ≡ n).
          let one = has.stands.sole.holds.one in
          let possible = has.stands.sole.holds.possible in
          let mine = is-actor possible n one.last one.has ∙ one.same ∙ has.actor in
          none-since possible k s.view.seen has.seen
          (subst (λ (v : ActorValue). v.seen ≤ length s.view.seen) (sym (ap possible.valid.world.actors same ∙ mine)) it.noted))
          (λ (ne : k ≢ n). begun-else are all f of n x it y t reused-back has.seen k ne)

  -- Nobody else is the administrator.

  one-admin : (n k : ℕ) (x y : Actor) → IsIn about s n x → IsIn about s k y → (actor_of x).role ≡ Admin → (actor_of y).role ≡ Admin → n ≡ k
  one-admin n k x y first second admin too =
      let same = setting-of are.possible (length actors) are.own_one.last are.own_one.has in
      let about_is : about ≡ are.possible.valid.setting = ap (λ (z : ActorValue). z.setting) (sym are.own_one.same) ∙ same in
      let at_n : slice_get about.roles n ≡ Some Admin = role-at are all n x first ∙ ap (λ (r : Role). Some r) admin in
      let at_k : slice_get about.roles k ≡ Some Admin = role-at are all k y second ∙ ap (λ (r : Role). Some r) too in
      are.possible.valid.inv.holds.numbering.setting.admin n k (ap (λ (z : Setting). slice_get z.roles n) (sym about_is) ∙ at_n) (ap (λ (z : Setting). slice_get z.roles k) (sym about_is) ∙ at_k)

  -- So they know of none, where it is the hall's own
  pub own-none : (y : Actor) → ((k : ℕ) → k < length actors → is_admin_at (get_or actors k None) ≡ true → ⊥) → (actor_of y).gone_gates ≡ [] → gone_of y actors ≡ []
  own-none y none_there empty = none-of y actors (none-left y empty) (none-among actors (λ k low. none-other (get_or actors k None) (none_there k low)))

  -- or that of a role
  pub role-none : (n : ℕ) → n < length actors → (x : Actor) → get_or actors n None ≡ Some x → (actor_of x).role ≡ Admin → (y : Actor) → (actor_of y).gone_gates ≡ [] → gone_of own (set actors n (Some y)) ≡ []
  role-none n low x here admin y empty =
      none-of own (set actors n (Some y))
      (none-other (Some own) (λ e. (
      let it = role-in are all n low x here (ap is_admin_at here ∙ ap is_admin admin) in
      let same = one-admin n (length actors) x own it are.own_one admin (admin-role (actor_of own).role e) in
      omega (arith, low, same))))
      (none-among (set actors n (Some y)) (λ k lt. dite (ℕ_discrete k n)
      (λ (same : k ≡ n). ap gone_at (ap (λ j. get_or (set actors n (Some y)) j None) same ∙ get_or-set_same actors n (Some y) None low) ∙ none-left y empty)
      (λ (ne : k ≢ n).
      let long = length-set actors n (Some y) in
      let other = stands-at are all k (omega (arith, lt, long)) in
      let it = role-in are all n low x here (ap is_admin_at here ∙ ap is_admin admin) in
      ap gone_at (get_or-set_other actors n k (Some y) None ne ∙ other.1)
      ∙ none-other (Some other.0) (λ e. ne (sym (one-admin n k x other.0 it other.2 admin (admin-role (actor_of other.0).role e)))))))

-- All passes are in still, and nobody has begun anything.
pub have-reused : (f : Floor) (v : PassesValue) (s t : S) (own own_now : Actor) (actors now : List (Option Actor)) → passes_of s own actors ≡ v → IsPassesOf f v → AreAllIn v → ArePasses t own_now now → missing 0 now ≡ [] → t.table_id ≡ s.table_id
    → (actor_of own_now).setting ≡ (actor_of own).setting → Extends t.view.seen s.view.seen → ((k : ℕ) → begins_of t.view.seen k ≡ begins_of s.view.seen k) → HaveReused f v (passes_of t own_now now)
have-reused f v s t own own_now actors now view of all are all_now table setting later nothing =
    subst (λ (z : PassesValue). IsPassesOf f z → AreAllIn z → HaveReused f z (passes_of t own_now now)) view (λ mine in_all.
    let own_is : IsAbout f t.table_id (actor_of own_now).setting = subst (λ (z : TableId × Setting). IsAbout f z.0 z.1) (λ i. (sym table i, sym setting i)) mine in
    record {
      own = own_is;
      all = all_now;
      same = λ i. record { table = table i; setting = setting i; out = (all_now ∙ sym in_all) i; seen = t.view.seen; gone = gone_of own_now now };
      later = later;
      right = subst (λ (x : Site). IsRight x t.view.seen) (λ i. record { hierarchy = own_is.hierarchy i; servers = own_is.servers i; workers = own_is.workers i }) are.right;
      none = nothing;
    }) of all
