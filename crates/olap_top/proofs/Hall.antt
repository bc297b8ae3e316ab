-- Phases that a hall runs, by what its calls promise.
use Rattle.std.proofs.{Common.{◌≡◌, ◌∙◌, ◌+◌, ◌<◌, ◌≤◌, inl, inr, ℕ, zero, suc, drop, take, Result, Ok, Err, Bool, true, false, List, [], ◌∷◌, ◌++◌, refl, sym, ap, subst, arith, length, append-nil, append_assoc}, lemmas.Bool.{cases_lt, false≢true}, lemmas.List.take-append-drop}
use Rattle.std.specs.Prelude.{◌&&◌, if◌then◌else◌, Option, Some, slice_get, OnErr, OnOk}
use Rattle.dim_hierarchy.specs.Dimension.{Dimension}
use Rattle.row_ledger.specs.{Right.IsRight, Site.site_of, declared.event.Event.Event, declared.settings.Use.Use}
use Rattle.script_form.specs.{Fits.Fits, declared.script.Command.Command, declared.script.Script.Script}
use Rattle.script_form.specs.declared.script.Command.TheVariants as command
use Rattle.script_run.proofs.PhaseFacts.{all_of-append}
use Rattle.script_run.specs.{Between.IsThrough, Phases.all_of, Places.begins_of, Runs.IsRunSoFar}
use Rattle.seeded_run.proofs.{PagesMayShow.fresh-idle, Worlds.{its-setting, its-world}}
use Rattle.seeded_run.specs.{Core.{HasState, IsStateOf}, Order.is_order, Kept.{AreIdle, IsNoneGone}, Phase.{about, held}}
use Rattle.seeded_run.specs.script_roles.specs.Roles.{IsNumbered, roles_of}
use Rattle.session_runs.proofs.Phases.{phase-law, stop-law, together-law}
use Rattle.session_runs.specs.Sessions.{DoesPhase, EachDoesFirst}
use Rattle.core_laws.specs.volap_cell.specs.{Cells.phase_of, Setting.{Setting, actor_count, site_in}, Sights.IsIdle, Steps.history_in, World.World, declared.role.Role.Role, declared.state.State.State}
use Rattle.core_laws.specs.volap_cell.specs.declared.role.Role.TheVariants as role
use Rattle.threaded_run.specs.actor_run.specs.{Halls.{HasClosed, HasOpened, hall_setting}, Passes.PassesValue, Wholes.HaveRested}
use Rattle.threaded_run.specs.seat_steps.specs.declared.floor.Floor.{Floor}
use Rattle.threaded_run.specs.{Phases.{AreBack, ArePhased, StopsInPhase}, Streams.{AllFit, FitsFloor}}
use Rattle.olap_top.specs.{Engines.{HasBeenRead, HasGoneInto, HasOpenedFor, IsLeft, IsLeftBehind, IsLeftWithin, MayRunNext}, OneRun.{setting_alone, setting_of}, Outcomes.{goes_in_order, has_commands, on_threads, schedule_of, wants_threads}, RunSoFar.HasGrown, Threads.{IsHallBehind, IsHallOf}, declared.wanted.Wanted.Wanted}

on_ok-two : {T E A B C : Type 0} (r : Result T E) → (A → B → C) → OnOk r A → OnOk r B → OnOk r C
on_ok-two (Ok x) f a b = f a b
on_ok-two (Err e) f a b = tt

on_err-one : {T E A B : Type 0} (r : Result T E) → (A → B) → OnErr r A → OnErr r B
on_err-one (Ok x) f a = tt
on_err-one (Err e) f a = f a

-- The same settings and dimensions.

same-through : (f : Floor) (s : Script) (done : List Command) (history : List Event) → f.with ≡ s.with → f.hierarchy ≡ s.hierarchy → IsThrough f.with f.hierarchy done history → IsThrough s.with s.hierarchy done history
same-through f s done history with_is hierarchy_is through =
    subst (λ u. IsThrough u s.hierarchy done history) with_is (subst (λ h. IsThrough f.with h done history) hierarchy_is through)

floor-through : (f : Floor) (s : Script) (done : List Command) (history : List Event) → f.with ≡ s.with → f.hierarchy ≡ s.hierarchy → IsThrough s.with s.hierarchy done history → IsThrough f.with f.hierarchy done history
floor-through f s done history with_is hierarchy_is through =
    subst (λ u. IsThrough u f.hierarchy done history) (sym with_is) (subst (λ h. IsThrough s.with h done history) (sym hierarchy_is) through)

site-same : (f : Floor) (s : Script) → f.with ≡ s.with → f.hierarchy ≡ s.hierarchy → site_of f.with f.hierarchy ≡ site_of s.with s.hierarchy
site-same f s with_is hierarchy_is = ap (λ u. site_of u f.hierarchy) with_is ∙ ap (site_of s.with) hierarchy_is

-- Openings.

pub opened-for : (wanted : Wanted) (s : Script) (h : List Dimension) (with : Use) (f : Floor) (p : PassesValue) → s.with ≡ with → s.hierarchy ≡ h → on_threads wanted s ≡ true
    → HasOpened h with (roles_of with) f p → ArePhased f p → IsThrough with h [] p.seen → IsRight (site_in p.setting) p.seen → HasOpenedFor s p.seen (IsHallBehind wanted s [] f p)
opened-for wanted s h with f p with_is hierarchy_is threads opened phased through right =
    let setting : p.setting ≡ hall_setting s.hierarchy s.with (roles_of s.with) =
    opened.setting ∙ ap (λ d. hall_setting d with (roles_of with)) (sym hierarchy_is) ∙ ap (λ u. hall_setting s.hierarchy u (roles_of u)) (sym with_is) in
    let script : IsThrough s.with s.hierarchy [] p.seen = subst (λ u. IsThrough u s.hierarchy [] p.seen) (sym with_is) (subst (λ d. IsThrough with d [] p.seen) (sym hierarchy_is) through) in
    record {
      through = script;
      right = subst (λ (t : Setting). IsRight (site_in t) p.seen) setting right;
      behind = record {
        is = record {
          threads = threads;
          with_is = opened.settings ∙ sym with_is;
          hierarchy_is = opened.hierarchy ∙ sym hierarchy_is;
          phased = phased;
          setting = setting;
        };
        through = script;
        none_gone = opened.gone;
      };
    }

-- Phases.

-- what fits the script fits the hall
fits-hall : (f : Floor) (s : Script) (c : Command) → f.with ≡ s.with → f.hierarchy ≡ s.hierarchy → Fits s c → FitsFloor f c
fits-hall f s c with_is hierarchy_is fits =
    subst (λ (u : Use). Fits (record { with = u; hierarchy = f.hierarchy; commands = [] }) c) (sym with_is)
    (subst (λ (h : List Dimension). Fits (record { with = s.with; hierarchy = h; commands = [] }) c) (sym hierarchy_is) (bare s c fits))
  where
    bare : (s : Script) (c : Command) → Fits s c → Fits (record { with = s.with; hierarchy = s.hierarchy; commands = [] }) c
    bare s (command.Insert new) fits = fits
    bare s (command.Query question) fits = fits
    bare s (command.Control c) fits = fits
    bare s (command.Group dim level filter) fits = fits

get-drop : (n i : ℕ) (xs : List Command) → slice_get (drop n xs) i ≡ slice_get xs (n + i)
get-drop zero i xs = let same : i ≡ zero + i = omega arith in ap (slice_get xs) same
get-drop (suc n) i [] = let none : suc n + i ≡ suc (n + i) = omega arith in ap (slice_get []) (sym none)
get-drop (suc n) i (x ∷ xs) = let same : suc n + i ≡ suc (n + i) = omega arith in get-drop n i xs ∙ ap (slice_get (x ∷ xs)) (sym same)

pub all-fit : (wanted : Wanted) (s : Script) (ps : List (List Command)) (n : ℕ) (commands phase : List Command) (f : Floor) (p : PassesValue) → IsHallBehind wanted s ps f p → MayRunNext s ps n commands
    → phase ≡ drop n commands → AllFit f phase
all-fit wanted s ps n commands phase f p behind may phase_is i c at =
    fits-hall f s c behind.is.with_is behind.is.hierarchy_is (may.fit (n + i) c (sym (get-drop n i commands) ∙ ap (λ (l : List Command). slice_get l i) (sym phase_is) ∙ at))

module _ (wanted : Wanted) (s : Script) (f : Floor) (was now : PassesValue) (is : IsHallOf wanted s f was) (back : AreBack f was now) (right : IsRight (site_in now.setting) now.seen) where
  pub still-hall : IsHallOf wanted s f now
  still-hall = record {
    threads = is.threads;
    with_is = is.with_is;
    hierarchy_is = is.hierarchy_is;
    phased = back.phased;
    setting = back.setting ∙ is.setting;
  }

  right-now : IsRight (site_of s.with s.hierarchy) now.seen
  right-now = subst (λ (t : Setting). IsRight (site_in t) now.seen) (back.setting ∙ is.setting) right

  pub gone-into : HasGoneInto s was.seen now.seen (IsHallOf wanted s f now)
  gone-into = record {
    grows = record { newer = back.later.0; grown = back.later.1 };
    right = right-now;
    within = still-hall;
  }

  pub through-phase : (ps : List (List Command)) (phase : List Command) → IsThrough s.with s.hierarchy (all_of ps) was.seen → DoesPhase f.with f.hierarchy phase was.seen now.seen
      → IsThrough s.with s.hierarchy (all_of ps ++ phase) now.seen
  through-phase ps phase through does =
      same-through f s (all_of ps ++ phase) now.seen is.with_is is.hierarchy_is
      (phase-law (site_of s.with s.hierarchy) f.with f.hierarchy (all_of ps) phase was.seen now.seen right-now (floor-through f s (all_of ps) was.seen is.with_is is.hierarchy_is through) does)

  pub behind-phase : (ps : List (List Command)) (phase : List Command) → IsThrough s.with s.hierarchy (all_of ps ++ phase) now.seen → now.gone ≡ [] → IsHallBehind wanted s (ps ++ phase ∷ []) f now
  behind-phase ps phase through none = record {
    is = still-hall;
    through = subst (λ l. IsThrough s.with s.hierarchy l now.seen) (sym (all_of-append ps (phase ∷ []) ∙ ap (λ l. all_of ps ++ l) (append-nil phase))) through;
    none_gone = none;
  }

  pub stopped-phase : (ps : List (List Command)) (phase more : List Command) → IsThrough s.with s.hierarchy (all_of ps) was.seen → StopsInPhase f.with f.hierarchy phase was.seen now.seen
      → IsRunSoFar s.with s.hierarchy ((all_of ps ++ phase) ++ more) now.seen
  stopped-phase ps phase more through stops =
      let far : IsRunSoFar f.with f.hierarchy (all_of ps ++ (stops.front ++ (stops.more ++ more))) now.seen =
      stop-law (site_of s.with s.hierarchy) f.with f.hierarchy (all_of ps) stops.front (stops.more ++ more) was.seen now.seen right-now (floor-through f s (all_of ps) was.seen is.with_is is.hierarchy_is through) stops.none_closes stops.first in
      let whole : all_of ps ++ (stops.front ++ (stops.more ++ more)) ≡ (all_of ps ++ phase) ++ more =
      ap (λ l. all_of ps ++ l) (sym (append_assoc stops.front stops.more more) ∙ ap (λ l. l ++ more) (sym stops.split)) ∙ sym (append_assoc (all_of ps) phase more) in
      subst (λ u. IsRunSoFar u s.hierarchy ((all_of ps ++ phase) ++ more) now.seen) is.with_is
      (subst (λ h. IsRunSoFar f.with h ((all_of ps ++ phase) ++ more) now.seen) is.hierarchy_is
      (subst (λ l. IsRunSoFar f.with f.hierarchy l now.seen) whole far))

-- of what the call says
module _ {T E : Type 0} (r : Result T E) (wanted : Wanted) (s : Script) (ps : List (List Command)) (n : ℕ) (commands phase : List Command) (f : Floor) (was now : PassesValue)
    (behind : IsHallBehind wanted s ps f was) (may : MayRunNext s ps n commands) (phase_is : phase ≡ drop n commands) (back : AreBack f was now) (right : IsRight (site_in now.setting) now.seen) where
  all-are : all_of ps ++ phase ≡ commands
  all-are = ap (λ l. l ++ phase) may.first ∙ ap (λ l. take n commands ++ l) phase_is ∙ take-append-drop n commands

  pub hall-through : OnOk r (DoesPhase f.with f.hierarchy phase was.seen now.seen) → OnOk r (now.gone ≡ [])
      → OnOk r (IsThrough s.with s.hierarchy commands now.seen × IsHallBehind wanted s (ps ++ drop n commands ∷ []) f now)
  hall-through does none = on_ok-two r (λ d g.
      (let through = through-phase wanted s f was now behind.is back right ps phase behind.through d in (
        subst (λ l. IsThrough s.with s.hierarchy l now.seen) all-are through,
        subst (λ l. IsHallBehind wanted s (ps ++ l ∷ []) f now) phase_is (behind-phase wanted s f was now behind.is back right ps phase through g),
      ))) does none

  pub hall-stopped : OnErr r (StopsInPhase f.with f.hierarchy phase was.seen now.seen) → OnErr r ((more : List Command) → IsRunSoFar s.with s.hierarchy (commands ++ more) now.seen)
  hall-stopped stops = on_err-one r (λ x more. subst (λ l. IsRunSoFar s.with s.hierarchy (l ++ more) now.seen) all-are (stopped-phase wanted s f was now behind.is back right ps phase more behind.through x)) stops

-- Reading.

module _ (wanted : Wanted) (s : Script) (f : Floor) (was now : PassesValue) (rested : HaveRested f was now) where
  setting-same : now.setting ≡ was.setting
  setting-same = ap (λ (p : PassesValue). p.setting) rested.same

  pub rested-hall : IsHallOf wanted s f was → IsHallOf wanted s f now
  rested-hall is = record {
    threads = is.threads;
    with_is = is.with_is;
    hierarchy_is = is.hierarchy_is;
    phased = record {
      own = rested.own;
      all = rested.all;
      many = subst (λ (t : Setting). f.with.servers + 3 ≤ actor_count t) (sym setting-same) is.phased.many;
      roles = subst (λ (t : Setting). (n : ℕ) (r : Role) → n + 1 < actor_count t → slice_get t.roles n ≡ Some r → IsNumbered r f.with n) (sym setting-same) is.phased.roles;
      last = subst (λ (t : Setting). (n : ℕ) → n + 1 ≡ actor_count t → slice_get t.roles n ≡ Some role.Puller) (sym setting-same) is.phased.last;
    };
    setting = setting-same ∙ is.setting;
  }

  pub been-read : (ps : List (List Command)) → IsHallBehind wanted s ps f was → HasBeenRead s was.seen now.seen (IsHallBehind wanted s ps f now)
  been-read ps behind =
      let right : IsRight (site_of s.with s.hierarchy) now.seen = subst (λ t. IsRight t now.seen) (site-same f s behind.is.with_is behind.is.hierarchy_is) rested.right in
      record {
        grows = record { newer = rested.later.0; grown = rested.later.1 };
        right = right;
        none = rested.none;
        behind = record {
          is = rested-hall behind.is;
          through = subst (λ l. IsThrough s.with s.hierarchy l now.seen) (append-nil (all_of ps))
              (together-law (site_of s.with s.hierarchy) s.with s.hierarchy (all_of ps) [] was.seen now.seen right behind.through tt (λ session. record { later = rested.later; none = rested.none session }));
          none_gone = ap (λ (p : PassesValue). p.gone) rested.same ∙ behind.none_gone;
        };
      }

-- What is left.

-- by threads nothing is in order
no-order : (wanted : Wanted) (s : Script) → on_threads wanted s ≡ true → goes_in_order wanted ≡ true → ⊥
no-order wanted s threads order = by (wants_threads wanted) refl
  where
    by : (b : Bool) → wants_threads wanted ≡ b → ⊥
    by true is = false≢true (sym (ap (λ b. if b then false else is_order (schedule_of wanted)) is) ∙ order)
    by false is = false≢true (sym (ap (λ b. b && has_commands s) is) ∙ threads)

not-alone : {A : Type 0} (wanted : Wanted) (s : Script) → on_threads wanted s ≡ true → on_threads wanted s ≡ false → A
not-alone wanted s threads alone = absurd (false≢true (sym alone ∙ threads))

module _ (wanted : Wanted) (s : Script) (f : Floor) (p : PassesValue) (x : State) (is : IsHallOf wanted s f p) (closed : HasClosed f p x) where
  about-run : closed.whole.sound.setting ≡ hall_setting s.hierarchy s.with (roles_of s.with)
  about-run = closed.setting ∙ is.setting

  state-is : IsStateOf s.hierarchy s.with x.cells.items x.actors.items closed.whole.sound.setting closed.whole.sound.world
  state-is = record {
    hierarchy = closed.whole.sound.hierarchy ∙ is.hierarchy_is;
    servers = ap (λ (t : Setting). t.servers) about-run;
    workers = ap (λ (t : Setting). t.workers) about-run;
    stock = ap (λ (t : Setting). t.stock_cells) about-run;
    count = closed.whole.many;
    places = closed.whole.wide;
    is = closed.whole.sound.is;
    inv = closed.whole.sound.inv;
  }

  world-is : closed.whole.sound.world ≡ held s.hierarchy s.with x
  world-is = its-world s.hierarchy s.with x.cells.items x.actors.items closed.whole.sound.setting closed.whole.sound.world state-is

  left-hall : IsLeft wanted s p.seen x
  left-hall = record {
    state = record { setting = closed.whole.sound.setting; world = closed.whole.sound.world; is_state = state-is };
    about_is = sym (its-setting s.hierarchy s.with x.cells.items x.actors.items closed.whole.sound.setting closed.whole.sound.world state-is) ∙ about-run
        ∙ sym (ap (λ b. if b then hall_setting s.hierarchy s.with (roles_of s.with) else setting_alone s) is.threads);
    told = ap history_in (sym world-is) ∙ closed.history closed.whole.sound.world closed.whole.sound.is;
  }

  idle-one : (a : ℕ) → IsIdle (closed.whole.sound.world.actors a)
  idle-one a = elim (cases_lt a (length x.actors.items)) [
    | inl within ↦ closed.idle closed.whole.sound.world closed.whole.sound.is a within
    | inr past ↦ fresh-idle (closed.whole.sound.world.actors a).setting a (closed.whole.sound.world.actors a) (closed.whole.sound.is.no_actor a past)
  ]

  pub hall-left-within : (ps : List (List Command)) (phase : List Command) → IsLeftWithin wanted s ps phase p.seen x
  hall-left-within ps phase = record {
    left = left-hall;
    run = λ alone. not-alone wanted s is.threads alone;
    serial = λ order more. absurd (no-order wanted s is.threads order);
  }

  pub hall-left-behind : (ps : List (List Command)) → p.gone ≡ [] → IsLeftBehind wanted s ps p.seen x
  hall-left-behind ps none = record {
    left = left-hall;
    idle = subst AreIdle world-is idle-one;
    none_gone = subst IsNoneGone world-is (closed.gone none closed.whole.sound.world closed.whole.sound.is);
    run = λ alone. not-alone wanted s is.threads alone;
    serial = λ order more. absurd (no-order wanted s is.threads order);
  }
