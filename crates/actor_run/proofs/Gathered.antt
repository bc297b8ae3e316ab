-- All passes are in, at one seat: one of its actors is the administrator, who may call there, and behind the call all are in still.
use Rattle.std.proofs.Common.{◌≡◌, ◌≢◌, ◌∙◌, ℕ, zero, suc, ◌+◌, ◌<◌, ◌≤◌, true, List, [], ◌∷◌, ◌++◌, length, get_or, set, slice_get, Option, Some, None, Result, Ok, Err, refl, sym, ap, subst, arith, append_assoc, length-set, get_or-set_other, get_or-set_same, set-set}
use Rattle.std.proofs.lemmas.Option.{slice_get_within}
use Rattle.std.specs.Prelude.{OnErr, OnOk}
use mathlib.Core.Logic.{dite}
use mathlib.Core.Option.{none, some, some-injective}
use native.Mathlib.Decide.{ℕ_discrete, dec_lt}
use Rattle.actor_run.proofs.{Closing.has-all, Missing.none-missing, Taken.some-cells, Seated.{below-count, is, is-actor, none-held, none-since, right-whole, role-of, setting-of, still-at}}
use Rattle.actor_run.specs.{Halls.is_admin, Passes.{AreAllIn, ArePasses, HasAdmin, IsAbout, IsAdminOf, IsAt, IsIn, IsPassesOf, PassesValue, gone_of, in_seat, missing, passes_of}, Wholes.{AddsNothing, AreToldBy, EndsIn, EndsUnknown, HaveGoneOn, HaveSettledSo, is_admin_at}}
use Rattle.atomic_table.specs.Seated.{TableId}
use Rattle.whole_steps.specs.call_steps.proofs.OpenCalls.{extends-length}
use Rattle.whole_steps.specs.call_steps.specs.Calls.{CanCall}
use Rattle.list_words.proofs.Elements.{Some-same}
use Rattle.row_ledger.specs.{Classes.class_of, Groups.IsCallOf, Right.IsRight, Site.Site, declared.class.Class.Class, declared.class.Subject.Subject, declared.event.Event.Event, declared.event.Event.TheVariants.{Called, Ended, Shown, Unknown}, declared.settings.Call.Call}
use Rattle.row_ledger.specs.declared.class.Class.TheVariants as class
use Rattle.row_ledger.specs.declared.settings.Call.TheVariants.{Settle}
use Rattle.row_ledger.specs.declared.settings.Decline.TheVariants as decline
use Rattle.row_ledger.specs.declared.settings.How.TheVariants as how
use Rattle.whole_steps.specs.seat_steps.proofs.Since.{extends-on}
use Rattle.whole_steps.specs.seat_steps.specs.declared.floor.{Floor.Floor, Player.Player}
use Rattle.turn_table.specs.{Numbered.{Extends, numbers_of, value_of}, Seat.{SeatValue, cell_count}}
use Rattle.whole_steps.specs.volap_cell.specs.{Commands.{MayCall, MayCallAs, server_of}, ImageKinds.IsFree, Setting.{Setting, actor_count, ledger_cell, site_in}, Sights.IsIdle, Values.{ActorValue, actor_of}, declared.actor.Actor.Actor, declared.cell.Cell.Cell, declared.role.Role.Role, declared.role.Role.TheVariants.{Admin, Hand, Puller, Session}}
use Rattle.script_run.specs.Places.{begins_of}
use Rattle.whole_steps.specs.volap_turns.specs.Worlds.{past}
use Rattle.whole_steps.proofs.Alone.{everyone-of, idle-keeps, idle-none}
use Rattle.whole_steps.specs.{Done.{HasDone, HasNotBegun, HasNotedUnknown, HasPaged, IsDoneSole}, Seats.{HasEveryone, HasTurned}, Settles.HasSettledCall, Sole.{IsSameBut, StandsSole, player}}
use Rattle.whole_steps.specs.declared.settles.Settled.{Settled}
use Rattle.whole_steps.specs.declared.settles.Settled.TheVariants as settled
use Rattle.whole_steps.specs.declared.tells.Paged.{Paged}
use Rattle.whole_steps.specs.declared.tells.Paged.TheVariants as paged

abbrev S : Type 0
S = SeatValue Cell Actor Event

pub admin-role : (r : Role) → is_admin r ≡ true → r ≡ Admin
admin-role Admin e = refl
admin-role (Session server) e = absurd (cc)
admin-role (Hand worker) e = absurd (cc)
admin-role Puller e = absurd (cc)

-- where something stands at a place, it is seen whether the administrator does
pub stands-admin : (o : Option Actor) (x : Actor) → o ≡ Some x → is_admin_at o ≡ true → (actor_of x).role ≡ Admin
stands-admin o x is e = admin-role (actor_of x).role (ap is_admin_at (sym is) ∙ e)

-- who isn't among them
pub missing-put : (k : ℕ) (xs : List (Option Actor)) (n : ℕ) (y : Actor) → missing k xs ≡ [] → missing k (set xs n (Some y)) ≡ []
missing-put k [] n y all = refl
missing-put k (None ∷ xs) n y all = absurd (cc)
missing-put k (Some a ∷ xs) zero y all = all
missing-put k (Some a ∷ xs) (suc n) y all = missing-put (k + 1) xs n y all

-- Behind what an actor did it stands at the seat with everyone, idle if it was.
pub record IsBack (f : Floor) (was now : Player) : Type 0 where
  pub stands : StandsSole f now
  pub same : IsSameBut was now
  pub idle : IsIdle (actor_of was.actor) → IsIdle (actor_of now.actor)
  pub noted : (actor_of now.actor).seen ≤ length now.seat.view.seen

-- an actor that is in does nothing
pub free-in : {about : Setting} {s : S} {n : ℕ} {x : Actor} → IsIn about s n x → IsFree (actor_of x)
free-in it = record { command = it.idle.command; errand = it.idle.errand; job = it.idle.job }

is-back : {f : Floor} {was now : Player} → IsDoneSole f was now → IsBack f was now
is-back done = record {
  stands = done.stands;
  same = done.same;
  idle = λ i. subst IsIdle (sym done.actor) (record { command = i.command; errand = i.errand; job = i.job; purse = i.purse; counted = i.counted });
  noted = done.noted;
}

module _ {s : S} {own : Actor} {actors : List (Option Actor)} (are : ArePasses s own actors) (all : missing 0 actors ≡ []) where
  abbrev about : Setting
  about = (actor_of own).setting

  -- at each place stands an actor of the seat

  pub stands-at : (a : ℕ) → a < length actors → (x : Actor) × (get_or actors a None ≡ Some x) × IsIn about s a x
  stands-at a lt = (let it = none-missing 0 actors all a lt in (it.0, it.1, subst (λ (o : Option Actor). IsAt about s a o) it.1 (are.each a lt)))

  in-at : (a : ℕ) → a < s.view.actor_count → (x : Actor) × IsIn about s a x
  in-at a lt = dite (dec_lt a (length actors))
      (λ (low : a < length actors). (let it = stands-at a low in (it.0, it.2)))
      (λ (ge : ¬ (a < length actors)). (own, subst (λ k. IsIn about s k own) (omega (arith, are.count)) are.own_one))

  idle-at : (j : ℕ) (x : Actor) → value_of s.view.actors j ≡ some x → IsIdle (actor_of x)
  idle-at j x has =
      let it = in-at j (below-count are.possible j x has) in
      let same : it.1.last ≡ x = some-injective it.1.last x (sym it.1.has ∙ has) in
      subst IsIdle (sym it.1.same ∙ ap actor_of same) it.1.idle

  -- so any of them may act there

  module _ (f : Floor) (of : IsAbout f s.table_id (actor_of own).setting) (n : ℕ) (x : Actor) (it : IsIn (actor_of own).setting s n x) where
    pub sole-of : StandsSole f (player n x s)
    sole-of = record {
      sole = record {
        holds = record {
          own = of.table;
          home = are.home;
          one = record {
            last = it.last;
            has = it.has;
            same = it.same;
            went = it.went;
            about = ap (λ (z : Setting). z.hierarchy) it.about_is ∙ of.hierarchy;
            others = λ j y k ne has keeps. idle-keeps (actor_of y) k (idle-at j y has).errand keeps;
          };
          rows = ap (λ (l : List (ℕ × Cell)). numbers_of l) are.empty ∙ sym (ap (λ (l : List (ℕ × Option ℕ)). numbers_of l) are.bare);
          possible = are.possible;
          wide = are.wide ∙ ap (λ (t : TableId). cell_count t) of.table;
        };
        every = has-all are all;
        others = λ j y ne has. idle-at j y has;
        servers = ap (λ (z : Setting). z.servers) it.about_is ∙ of.servers;
        workers = ap (λ (z : Setting). z.workers) it.about_is ∙ of.workers;
        none_kept = idle-none (actor_of x) it.idle.errand;
      };
      bare = are.bare;
    }

    -- the administrator makes these calls
    pub can-call : (actor_of x).role ≡ Admin → (call : Call) → MayCall Admin call → ((k : ℕ) → class_of call ≡ class.Sync k → ⊥) → IsCallOf f.hierarchy call → CanCall f call (player n x s)
    can-call role call may other valid = record {
      free = free-in it;
      allowed = subst (λ (r : Role). MayCall r call) (sym role) may;
      server = λ k e. absurd (other k e);
      valid = valid;
      noted = it.noted;
    }

    -- Behind its command.

    module _ (y : Actor) (t : S) (done : IsBack f (player n x s) (player n y t)) (later : Extends t.view.seen s.view.seen) where
      longer : length s.view.seen ≤ length t.view.seen
      longer = extends-length s.view.seen t.view.seen later

      pub now-in : IsIn about t n y
      now-in = record {
        last = done.stands.sole.holds.one.last;
        has = done.stands.sole.holds.one.has;
        same = done.stands.sole.holds.one.same;
        went = done.stands.sole.holds.one.went;
        about_is = done.same.setting ∙ it.about_is;
        idle = done.idle it.idle;
        noted = done.noted;
      }

      at-else : (a : ℕ) → a ≢ n → (o : Option Actor) → IsAt about s a o → IsAt about t a o
      at-else a ne o at = still-at about s t a o (done.same.others a ne) longer at

      -- nobody else has begun anything

      noted-else : (k : ℕ) → k ≢ n → (done.stands.sole.holds.possible.valid.world.actors k).seen ≤ length s.view.seen
      noted-else k ne =
          let possible = done.stands.sole.holds.possible in
          let count = possible.actor_count in
          let same = done.same.actor_count in
          dite (dec_lt k s.view.actor_count)
          (λ (low : k < s.view.actor_count).
          let at = in-at k low in
          subst (λ (v : ActorValue). v.seen ≤ length s.view.seen) (sym (is-actor possible k at.1.last (done.same.others k ne ∙ at.1.has) ∙ at.1.same)) at.1.noted)
          (λ (past_all : ¬ (k < s.view.actor_count)).
          let zero : (possible.valid.world.actors k).seen ≡ 0 = ((is possible).no_actor k (past possible.actors k (omega (arith, past_all, count, same)))).seen in
          omega (arith, zero))

      pub begun-else : (k : ℕ) → k ≢ n → begins_of t.view.seen k ≡ begins_of s.view.seen k
      begun-else k ne = none-since done.stands.sole.holds.possible k s.view.seen later (noted-else k ne)

      right-now : IsRight (site_in (actor_of own).setting) t.view.seen
      right-now =
          let possible = done.stands.sole.holds.possible in
          let same : possible.valid.setting ≡ (actor_of own).setting = sym (setting-of possible n now-in.last now-in.has) ∙ ap (λ (z : ActorValue). z.setting) now-in.same ∙ now-in.about_is in
          subst (λ (z : Setting). IsRight (site_in z) t.view.seen) same (right-whole possible done.stands.sole.every)

      after : (own_now : Actor) (now : List (Option Actor)) → length now ≡ length actors → (actor_of own_now).setting ≡ about → IsIn about t (length actors) own_now → ((a : ℕ) → a < length actors → IsAt about t a (get_or now a None)) → ArePasses t own_now now
      after own_now now long same one each =
          let holds = done.stands.sole.holds in
          record {
            home = holds.home;
            bare = done.stands.bare;
            empty = none-held t.view.held t.ranks holds.rows done.stands.bare;
            possible = holds.possible;
            wide = holds.wide ∙ ap (λ (z : TableId). cell_count z) (sym holds.own);
            count = done.same.actor_count ∙ are.count ∙ ap (λ k. k + 1) (sym long);
            number = done.same.seat_number ∙ are.number ∙ sym long;
            many = ap (λ k. k + 1) long ∙ are.many ∙ ap actor_count (sym same);
            few = (let few = are.few in omega (arith, few, long));
            own_one = subst (λ (z : Setting × ℕ). IsIn z.0 t z.1 own_now) (λ i. (sym same i, sym long i)) one;
            each = λ a lt. subst (λ (z : Setting). IsAt z t a (get_or now a None)) (sym same) (each a (omega (arith, lt, long)));
            beyond = λ a past. done.same.others a (λ e. (let low = below-count are.possible n it.last it.has in let count = are.count in omega (arith, past, long, e, low, count))) ∙ are.beyond a (omega (arith, past, long));
            right = subst (λ (z : Setting). IsRight (site_in z) t.view.seen) (sym same) right-now;
            admin = subst HasAdmin (sym same) are.admin;
          }

      -- the hall's own
      pub own-after : n ≡ length actors → ArePasses t y actors
      own-after here = after y actors refl now-in.about_is (subst (λ k. IsIn about t k y) here now-in) (λ a lt. at-else a (λ e. omega (arith, lt, e, here)) (get_or actors a None) (are.each a lt))

      -- that of a role
      pub role-after : n < length actors → ArePasses t own (set actors n (Some y))
      role-after low =
          let long = length-set actors n (Some y) in
          after own (set actors n (Some y)) long refl (at-else (length actors) (λ e. omega (arith, low, e)) (Some own) are.own_one)
          (λ a lt. dite (ℕ_discrete a n)
          (λ (same : a ≡ n). subst (λ k. IsAt about t k (get_or (set actors n (Some y)) k None)) (sym same) (subst (λ (o : Option Actor). IsAt about t n o) (sym (get_or-set_same actors n (Some y) None low)) now-in))
          (λ (ne : a ≢ n). subst (λ (o : Option Actor). IsAt about t a o) (sym (get_or-set_other actors n a (Some y) None ne)) (at-else a ne (get_or actors a None) (are.each a lt))))

  -- Where turns alone were taken and given back all are in still.

  module _ (f : Floor) (of : IsAbout f s.table_id (actor_of own).setting) where
    pub everyone-in : HasEveryone f.table s
    everyone-in = everyone-of f (player (length actors) own s) (sole-of f of (length actors) own are.own_one).sole

    -- what they have seen then is right
    pub right-then : (t : S) → HasEveryone f.table t → HasTurned s t → IsRight (site_in (actor_of own).setting) t.view.seen
    right-then t everyone turned =
        let has : value_of t.view.actors (length actors) ≡ some are.own_one.last = ap (λ (l : List (ℕ × Actor)). value_of l (length actors)) turned.actors ∙ are.own_one.has in
        let setting : everyone.possible.valid.setting ≡ about = sym (setting-of everyone.possible (length actors) are.own_one.last has) ∙ ap (λ (z : ActorValue). z.setting) are.own_one.same in
        subst (λ (z : Setting). IsRight (site_in z) t.view.seen) setting (right-whole everyone.possible everyone.every)

    pub turned-are : (t : S) → HasEveryone f.table t → HasTurned s t → t.ranks ≡ [] → ArePasses t own actors
    turned-are t everyone turned bare =
        let longer = extends-length s.view.seen t.view.seen turned.seen in
        let actor_is : (a : ℕ) → value_of t.view.actors a ≡ value_of s.view.actors a = λ a. ap (λ (l : List (ℕ × Actor)). value_of l a) turned.actors in
        record {
          home = everyone.home;
          bare = bare;
          empty = none-held t.view.held t.ranks everyone.rows bare;
          possible = everyone.possible;
          wide = everyone.wide ∙ ap (λ (z : TableId). cell_count z) (sym everyone.own);
          count = turned.actor_count ∙ are.count;
          number = turned.number ∙ are.number;
          many = are.many;
          few = are.few;
          own_one = still-at about s t (length actors) (Some own) (actor_is (length actors)) longer are.own_one;
          each = λ a lt. still-at about s t a (get_or actors a None) (actor_is a) longer (are.each a lt);
          beyond = λ a past. actor_is a ∙ are.beyond a past;
          right = right-then t everyone turned;
          admin = are.admin;
        }

    pub begun-none : (t : S) → HasEveryone f.table t → HasTurned s t → (k : ℕ) → begins_of t.view.seen k ≡ begins_of s.view.seen k
    begun-none t everyone turned k =
        let possible = everyone.possible in
        let count = possible.actor_count in
        let same = turned.actor_count in
        let noted : (possible.valid.world.actors k).seen ≤ length s.view.seen = dite (dec_lt k s.view.actor_count)
        (λ (low : k < s.view.actor_count).
        let at = in-at k low in
        subst (λ (v : ActorValue). v.seen ≤ length s.view.seen) (sym (is-actor possible k at.1.last (ap (λ (l : List (ℕ × Actor)). value_of l k) turned.actors ∙ at.1.has) ∙ at.1.same)) at.1.noted)
        (λ (past_all : ¬ (k < s.view.actor_count)).
        let zero : (possible.valid.world.actors k).seen ≡ 0 = ((is possible).no_actor k (past possible.actors k (omega (arith, past_all, count, same)))).seen in
        omega (arith, zero)) in
        none-since possible k s.view.seen turned.seen noted

    pub ledger-in : ledger_cell < cell_count f.table
    ledger-in = subst (λ (t : TableId). 0 < cell_count t) of.table (some-cells are)

  -- The administrator.

  pub role-at : (a : ℕ) (x : Actor) → IsIn about s a x → slice_get about.roles a ≡ Some (actor_of x).role
  role-at a x it =
      ap (λ (z : Setting). slice_get z.roles a) (sym it.about_is) ∙ ap (λ (z : ActorValue). slice_get z.setting.roles a) (sym it.same) ∙ ap (λ (z : Setting). slice_get z.roles a) (setting-of are.possible a it.last it.has)
      ∙ role-of are.possible a it.last it.has ∙ ap (λ (z : ActorValue). Some z.role) it.same

  pub admin-of : (a : ℕ) (x : Actor) → IsIn (actor_of own).setting s a x → (actor_of x).role ≡ Admin → IsAdminOf (actor_of own).setting a
  admin-of a x it role = role-at a x it ∙ ap Some role

  -- where it is none of those of the roles, it is the hall's own
  pub own-admin : ((k : ℕ) → k < length actors → is_admin_at (get_or actors k None) ≡ true → ⊥) → (actor_of own).role ≡ Admin
  own-admin none_there =
      let (k, e) = are.admin in
      let low : k < length about.roles = slice_get_within about.roles k Admin e in
      let many = are.many in
      dite (dec_lt k (length actors))
      (λ (lt : k < length actors).
      let it = stands-at k lt in
      let role : (actor_of it.0).role ≡ Admin = Some-same Admin (actor_of it.0).role (sym e ∙ role-at k it.0 it.2) in
      absurd (none_there k lt (ap is_admin_at it.1 ∙ ap is_admin role)))
      (λ (ge : ¬ (k < length actors)).
      let here : k ≡ length actors = omega (arith, ge, low, many) in
      Some-same Admin (actor_of own).role (sym e ∙ ap (λ j. slice_get about.roles j) here ∙ role-at (length actors) own are.own_one))

-- The seat of passes isn't out.

module _ {o : Option S} {s : S} (is : o ≡ Some s) (own : Actor) (actors : List (Option Actor)) where
  pub here-are : ArePasses (in_seat o) own actors → ArePasses s own actors
  here-are are = subst (λ (z : Option S). ArePasses (in_seat z) own actors) is are

  pub here-view : {v : PassesValue} → passes_of (in_seat o) own actors ≡ v → passes_of s own actors ≡ v
  here-view view = ap (λ (z : Option S). passes_of (in_seat z) own actors) (sym is) ∙ view

-- What a command comes to.

module _ (f : Floor) (call : Call) (n : ℕ) (x y : Actor) (s t : S) where
  done-since : {events : ℕ → List Event} → HasDone f call events (player n x s) (player n y t) → Extends t.view.seen s.view.seen
  done-since {events} done = extends-on t.view.seen done.older s.view.seen (events (length done.older) ++ Called n call ∷ [], done.seen ∙ sym (append_assoc (events (length done.older)) (Called n call ∷ []) done.older)) done.since

  pub paged-done : (r : Paged) → HasPaged f call r (player n x s) (player n y t) → IsBack f (player n x s) (player n y t)
  paged-done (paged.Page shown) has = is-back has.0.done
  paged-done paged.Unknown has = is-back has.1.done
  paged-done paged.Failed has = is-back has.done
  paged-done paged.NotBegun has = is-back has.done

  pub paged-later : (r : Paged) → HasPaged f call r (player n x s) (player n y t) → Extends t.view.seen s.view.seen
  paged-later (paged.Page shown) has = done-since has.0
  paged-later paged.Unknown has = done-since has.1
  paged-later paged.Failed has = done-since has
  paged-later paged.NotBegun has = has.since

  module _ (own own_now : Actor) (actors now : List (Option Actor)) (admin : IsAdminOf (actor_of own).setting n) where
    abbrev ends-in : (events : ℕ → List Event) → HasDone f call events (player n x s) (player n y t) → EndsIn call events (passes_of s own actors) (passes_of t own_now now)
    ends-in events done = record { number = n; admin = admin; older = done.older; since = done.since; only = done.only; seen = done.seen }

    abbrev adds-nothing : HasNotBegun f (player n x s) (player n y t) → AddsNothing (passes_of s own actors) (passes_of t own_now now)
    adds-nothing has = record { number = n; admin = admin; only = has.only }

    pub told-by : (r : Paged) → HasPaged f call r (player n x s) (player n y t) → AreToldBy f call r (passes_of s own actors) (passes_of t own_now now)
    told-by (paged.Page shown) has = record { ends = ends-in (λ of. Ended of how.Fine ∷ Shown of shown ∷ []) has.0; page = has.1 }
    told-by paged.Unknown has = (has.0, ends-in (λ of. Ended of (how.Declined decline.Unknown) ∷ []) has.1)
    told-by paged.Failed has = ends-in (λ of. Ended of how.NoMemory ∷ []) has
    told-by paged.NotBegun has = adds-nothing has

  -- a barrier ends, or doesn't begin

  module _ {T E : Type 0} (events : ℕ → List Event) where
    pub barrier-done : (r : Result T E) → OnOk r (HasDone f call events (player n x s) (player n y t)) → OnErr r (HasNotBegun f (player n x s) (player n y t)) → IsBack f (player n x s) (player n y t)
    barrier-done (Ok z) done none_done = is-back done.done
    barrier-done (Err z) done none_done = is-back none_done.done

    pub barrier-later : (r : Result T E) → OnOk r (HasDone f call events (player n x s) (player n y t)) → OnErr r (HasNotBegun f (player n x s) (player n y t)) → Extends t.view.seen s.view.seen
    barrier-later (Ok z) done none_done = done-since done
    barrier-later (Err z) done none_done = none_done.since

    module _ (own own_now : Actor) (actors now : List (Option Actor)) (admin : IsAdminOf (actor_of own).setting n) where
      pub barrier-ends : (r : Result T E) → OnOk r (HasDone f call events (player n x s) (player n y t)) → OnOk r (EndsIn call events (passes_of s own actors) (passes_of t own_now now))
      barrier-ends (Ok z) done = ends-in own own_now actors now admin events done
      barrier-ends (Err z) done = tt

      pub barrier-none : (r : Result T E) → OnErr r (HasNotBegun f (player n x s) (player n y t)) → OnErr r (AddsNothing (passes_of s own actors) (passes_of t own_now now))
      barrier-none (Ok z) none_done = tt
      barrier-none (Err z) none_done = adds-nothing own own_now actors now admin none_done

-- A note of a command that names what isn't known.

module _ (f : Floor) (dim n : ℕ) (x y : Actor) (s t : S) {T E : Type 0} (r : Result T E) (noted : OnOk r (HasNotedUnknown f dim (player n x s) (player n y t))) (none_noted : OnErr r (HasNotBegun f (player n x s) (player n y t))) where
  abbrev P : Type 0
  P = HasNotedUnknown f dim (player n x s) (player n y t)

  pub noted-done : IsBack f (player n x s) (player n y t)
  noted-done = by r noted none_noted
    where
      by : (r : Result T E) → OnOk r P → OnErr r (HasNotBegun f (player n x s) (player n y t)) → IsBack f (player n x s) (player n y t)
      by (Ok z) has none_done = is-back has.done
      by (Err z) has none_done = is-back none_done.done

  pub noted-later : Extends t.view.seen s.view.seen
  noted-later = by r noted none_noted
    where
      by : (r : Result T E) → OnOk r P → OnErr r (HasNotBegun f (player n x s) (player n y t)) → Extends t.view.seen s.view.seen
      by (Ok z) has none_done = extends-on t.view.seen has.older s.view.seen (Unknown n (server_of (actor_of x).role) dim ∷ [], has.seen) has.since
      by (Err z) has none_done = none_done.since

  module _ (own own_now : Actor) (actors now : List (Option Actor)) (admin : IsAdminOf (actor_of own).setting n) where
    pub noted-so : (actor_of x).role ≡ Admin → OnOk r (EndsUnknown dim (passes_of s own actors) (passes_of t own_now now))
    noted-so role = by r noted
      where
        by : (r : Result T E) → OnOk r P → OnOk r (EndsUnknown dim (passes_of s own actors) (passes_of t own_now now))
        by (Ok z) has = record { number = n; admin = admin; older = has.older; since = has.since; only = has.only; seen = has.seen ∙ ap (λ (z : Role). Unknown n (server_of z) dim ∷ has.older) role }
        by (Err z) has = tt

    pub noted-none : OnErr r (AddsNothing (passes_of s own actors) (passes_of t own_now now))
    noted-none = by r none_noted
      where
        by : (r : Result T E) → OnErr r (HasNotBegun f (player n x s) (player n y t)) → OnErr r (AddsNothing (passes_of s own actors) (passes_of t own_now now))
        by (Ok z) none_done = tt
        by (Err z) none_done = record { number = n; admin = admin; only = none_done.only }

-- A settle.

module _ (f : Floor) (n : ℕ) (x y : Actor) (s t : S) where
  pub settled-done : (r : Settled) → HasSettledCall f r (player n x s) (player n y t) → IsBack f (player n x s) (player n y t)
  settled-done settled.Ok has = is-back has.done.done
  settled-done settled.Failed has = is-back has.done.done
  settled-done settled.NotBegun has = is-back has.done

  pub settled-later : (r : Settled) → HasSettledCall f r (player n x s) (player n y t) → Extends t.view.seen s.view.seen
  settled-later settled.Ok has = done-since f Settle n x y s t has.done
  settled-later settled.Failed has = done-since f Settle n x y s t has.done
  settled-later settled.NotBegun has = has.since

  pub settled-so : (own own_now : Actor) (actors now : List (Option Actor)) (admin : IsAdminOf (actor_of own).setting n) (r : Settled) → HasSettledCall f r (player n x s) (player n y t) → HaveSettledSo f r (passes_of s own actors) (passes_of t own_now now)
  settled-so own own_now actors now admin settled.Ok has = record { pulls = has.pulls; are = has.are; count = has.count; ends = ends-in f Settle n x y s t own own_now actors now admin (λ of. Ended of how.Fine ∷ has.pulls) has.done }
  settled-so own own_now actors now admin settled.Failed has = record { pulls = has.pulls; are = has.are; fewer = has.fewer; ends = ends-in f Settle n x y s t own own_now actors now admin (λ of. Ended of how.NoMemory ∷ has.pulls) has.done }
  settled-so own own_now actors now admin settled.NotBegun has = adds-nothing f Settle n x y s t own own_now actors now admin has

-- The administrator among them.

module _ {s : S} {own : Actor} {actors : List (Option Actor)} (are : ArePasses s own actors) (all : missing 0 actors ≡ []) where
  -- the hall's own
  module _ (n : ℕ) (here : n ≡ length actors) (none_there : (k : ℕ) → k < length actors → is_admin_at (get_or actors k None) ≡ true → ⊥) where
    pub own-in : IsIn (actor_of own).setting s n own
    own-in = subst (λ k. IsIn (actor_of own).setting s k own) (sym here) are.own_one

    pub own-role : (actor_of own).role ≡ Admin
    own-role = own-admin are all none_there

    pub own-number : IsAdminOf (actor_of own).setting n
    own-number = admin-of are all n own own-in own-role

  -- that of a role
  module _ (n : ℕ) (low : n < length actors) (x : Actor) (here : get_or actors n None ≡ Some x) (admin : is_admin_at (get_or actors n None) ≡ true) where
    pub role-in : IsIn (actor_of own).setting s n x
    role-in = subst (λ (o : Option Actor). IsAt (actor_of own).setting s n o) here (are.each n low)

    pub role-role : (actor_of x).role ≡ Admin
    role-role = stands-admin (get_or actors n None) x here admin

    pub role-number : IsAdminOf (actor_of own).setting n
    role-number = admin-of are all n x role-in role-role

    -- it is put back
    pub put-back : (out put : List (Option Actor)) (y : Actor) → out ≡ set actors n None → put ≡ set out n (Some y) → put ≡ set actors n (Some y)
    put-back out put y taken given = given ∙ ap (λ (l : List (Option Actor)). set l n (Some y)) taken ∙ set-set actors n None (Some y)

-- All passes are in still.
pub gone-on : (f : Floor) (v : PassesValue) (s t : S) (own own_now : Actor) (actors now : List (Option Actor)) → passes_of s own actors ≡ v → IsPassesOf f v → AreAllIn v → ArePasses t own_now now → missing 0 now ≡ [] → t.table_id ≡ s.table_id → (actor_of own_now).setting ≡ (actor_of own).setting
    → Extends t.view.seen s.view.seen → ((k : ℕ) → (IsAdminOf (actor_of own).setting k → ⊥) → begins_of t.view.seen k ≡ begins_of s.view.seen k) → HaveGoneOn f v (passes_of t own_now now)
gone-on f v s t own own_now actors now view of all are all_now table setting later others =
    subst (λ (z : PassesValue). IsPassesOf f z → AreAllIn z → HaveGoneOn f z (passes_of t own_now now)) view (λ mine in_all.
    let own_is : IsAbout f t.table_id (actor_of own_now).setting = subst (λ (z : TableId × Setting). IsAbout f z.0 z.1) (λ i. (sym table i, sym setting i)) mine in
    record {
      own = own_is;
      all = all_now;
      same = λ i. record { table = table i; setting = setting i; out = (all_now ∙ sym in_all) i; seen = t.view.seen; gone = gone_of own_now now };
      later = later;
      right = subst (λ (x : Site). IsRight x t.view.seen) (λ i. record { hierarchy = own_is.hierarchy i; servers = own_is.servers i; workers = own_is.workers i }) are.right;
      others = others;
    }) of all

-- who isn't the administrator has another number
pub other-number : (about : Setting) (n k : ℕ) → IsAdminOf about n → (IsAdminOf about k → ⊥) → k ≢ n
other-number about n k admin other same = other (subst (IsAdminOf about) (sym same) admin)

-- Pages and barriers are the administrator's calls.

pub page-may : (call : Call) (subject : Subject) → class_of call ≡ class.Page subject → MayCall Admin call
page-may call subject is = subst (λ (c : Class). MayCallAs Admin c) (sym is) tt

pub page-no-sync : (call : Call) (subject : Subject) → class_of call ≡ class.Page subject → (k : ℕ) → class_of call ≡ class.Sync k → ⊥
page-no-sync call subject is k e = (let never : class.Page subject ≡ class.Sync k = sym is ∙ e in cc)
