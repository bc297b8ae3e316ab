-- What an actor's step is as a turn of a phase, and what holds behind it.
use Rattle.std.proofs.Common.{◌≡◌, ◌≢◌, ◌∙◌, ◌<◌, ◌≤◌, ◌⊎◌, inl, inr, ℕ, suc, Bool, true, false, List, [], ◌∷◌, length, get_or, Option, Some, None, is_none, refl, sym, ap, subst, arith}
use Rattle.std.specs.{Option.option_map_or, Prelude.slice_get}
use Rattle.row_ledger.specs.{Past.session_in, declared.event.Event.Event, declared.settings.Use.Use}
use Rattle.core_due.specs.core_steps.specs.Steps.{IsFurther, IsSame}
use Rattle.row_ledger.specs.declared.event.Event.TheVariants as event
use Rattle.dim_hierarchy.specs.Dimension.{Dimension}
use Rattle.script_form.specs.declared.script.Command.{Command}
use Rattle.script_form.specs.declared.script.Command.TheVariants as script
use Rattle.script_run.specs.{Places.{begins_of, session_of}, Runs.Begins}
use Rattle.core_pages.specs.volap_cell.specs.{Setting.{Setting, actor_count}, State.Stepped, Steps.{Step, history_in}, Values.{ActorValue, actor_of}, World.World, declared.actor.Actor.Actor, declared.cell.Cell.Cell, declared.command.Command.Command as OpenCommand, declared.kind.Kind.Kind, declared.kind.Kind.TheVariants.Note, declared.state.State.State}
use Rattle.core_pages.specs.volap_cell.proofs.Cells.States.{is-some, stands}
use Rattle.core_due.specs.{Due.does_nothing, Wants.meets}
use Rattle.core_told.proofs.Told.{others-law}
use Rattle.core_told.specs.Told.{is_of_part}
use Rattle.seeded_run.specs.{Arms.{GoesOnAtPart, GoesOnWithCommand, TellsIfNote}, Can.{can, can_step, is_turn_of}, Commands.{GoesBy, IsBegunBy, IsNextAt, IsToBegin, may_begin}, Core.IsCore, Due.due, Hands.IsFreeHand, Instead.StandsFor, Kept.{IsTurn, MovesOn}, Machine.{AloneInOrder, HasLeftOver, HasMovedOn, HasTurned, IsDueNow, IsPhaseHeld, IsPhaseKept, KnowsHands, KnowsOtherHands, RestsAsIs, about_in, next_at, phase_of, world_of}, Measure.BeginInTurn, Phase.most_actors, Rests.{PhaseRun, first_open, rest_of}, Running.{IsRunning, RunsBehind}, Steps.{begins_by, begins_of_one, is_for_part}, Worlds.{setting_in, world_in}, declared.machine.Running.Running}
use Rattle.seeded_run.proofs.{Begins.{keeps-beginning-law, quiet-law}, Counted.counted-law, Cursors.Held.rest-some, Holding.LeftAlone.{apart, both-parts, same-or-not}, Phases.InTurn.nobody-else, Phases.Keeps.keeps-other-law, Phases.Measure.fewer-law, States.same-core, Worlds.{one-setting, only-world}}

-- the core that stands behind a step
pub core-then : (h : List Dimension) (with : Use) (cells cells_now : List (Option Cell)) (actors actors_now : List (Option Actor)) (s : Setting) (w : World) (k : Kind) (n : ℕ)
    → (core : IsCore h with cells actors s w) → Stepped h k n cells actors cells_now actors_now
    → (now : World) × IsCore h with cells_now actors_now s now × Step s k n w now
core-then h with cells cells_now actors actors_now s w k n core stepped =
    let x = stepped.step s w core.inv.ghost_of core.hierarchy core.is core.inv.holds core.inv.reached in (
      x.now,
      record {
        hierarchy = core.hierarchy;
        servers = core.servers;
        workers = core.workers;
        stock = core.stock;
        roles = core.roles;
        count = stepped.actors_kept ∙ core.count;
        places = stepped.cells_kept ∙ core.places;
        is = x.is;
        inv = record { ghost_of = x.kept.ghost_now; holds = x.kept.holds; reached = x.reached };
      },
      x.kept.step,
    )

-- an event that begins a command is of its session
begins-session : (with : Use) (h : List Dimension) (past : List Event) (c : Command) (e : Event) → Begins with h past c e → session_in e ≡ Some (session_of with c)
begins-session with h past (script.Insert new) (event.Synced server listing) b = absurd b
begins-session with h past (script.Insert new) (event.Begun session server row) b = ap Some b.0
begins-session with h past (script.Insert new) (event.Acked of path) b = absurd b
begins-session with h past (script.Insert new) (event.Asked session server filter) b = absurd b
begins-session with h past (script.Insert new) (event.Answered of agg) b = absurd b
begins-session with h past (script.Insert new) (event.Unknown session server dim) b = ap Some b.0
begins-session with h past (script.Insert new) (event.Failed of) b = absurd b
begins-session with h past (script.Insert new) (event.Refused session) b = ap Some b
begins-session with h past (script.Insert new) (event.Called session call) b = absurd b
begins-session with h past (script.Insert new) (event.Split of shard left right) b = absurd b
begins-session with h past (script.Insert new) (event.Moved of shard worker) b = absurd b
begins-session with h past (script.Insert new) (event.Left of shard how) b = absurd b
begins-session with h past (script.Insert new) (event.Shown of page) b = absurd b
begins-session with h past (script.Insert new) (event.Ended of how) b = absurd b
begins-session with h past (script.Query question) (event.Synced server listing) b = absurd b
begins-session with h past (script.Query question) (event.Begun session server row) b = absurd b
begins-session with h past (script.Query question) (event.Acked of path) b = absurd b
begins-session with h past (script.Query question) (event.Asked session server filter) b = ap Some b.0
begins-session with h past (script.Query question) (event.Answered of agg) b = absurd b
begins-session with h past (script.Query question) (event.Unknown session server dim) b = ap Some b.0
begins-session with h past (script.Query question) (event.Failed of) b = absurd b
begins-session with h past (script.Query question) (event.Refused session) b = ap Some b
begins-session with h past (script.Query question) (event.Called session call) b = absurd b
begins-session with h past (script.Query question) (event.Split of shard left right) b = absurd b
begins-session with h past (script.Query question) (event.Moved of shard worker) b = absurd b
begins-session with h past (script.Query question) (event.Left of shard how) b = absurd b
begins-session with h past (script.Query question) (event.Shown of page) b = absurd b
begins-session with h past (script.Query question) (event.Ended of how) b = absurd b
begins-session with h past (script.Control called) (event.Synced server listing) b = absurd b
begins-session with h past (script.Control called) (event.Begun session server row) b = absurd b
begins-session with h past (script.Control called) (event.Acked of path) b = absurd b
begins-session with h past (script.Control called) (event.Asked session server filter) b = absurd b
begins-session with h past (script.Control called) (event.Answered of agg) b = absurd b
begins-session with h past (script.Control called) (event.Unknown session server dim) b = ap Some b.0
begins-session with h past (script.Control called) (event.Failed of) b = absurd b
begins-session with h past (script.Control called) (event.Refused session) b = ap Some b.0
begins-session with h past (script.Control called) (event.Called session call) b = ap Some b.0
begins-session with h past (script.Control called) (event.Split of shard left right) b = absurd b
begins-session with h past (script.Control called) (event.Moved of shard worker) b = absurd b
begins-session with h past (script.Control called) (event.Left of shard how) b = absurd b
begins-session with h past (script.Control called) (event.Shown of page) b = absurd b
begins-session with h past (script.Control called) (event.Ended of how) b = absurd b
begins-session with h past (script.Group dim level names) (event.Synced server listing) b = absurd b
begins-session with h past (script.Group dim level names) (event.Begun session server row) b = absurd b
begins-session with h past (script.Group dim level names) (event.Acked of path) b = absurd b
begins-session with h past (script.Group dim level names) (event.Asked session server filter) b = absurd b
begins-session with h past (script.Group dim level names) (event.Answered of agg) b = absurd b
begins-session with h past (script.Group dim level names) (event.Unknown session server unknown) b = ap Some b.0
begins-session with h past (script.Group dim level names) (event.Failed of) b = absurd b
begins-session with h past (script.Group dim level names) (event.Refused session) b = ap Some b
begins-session with h past (script.Group dim level names) (event.Called session call) b = ap Some b.0
begins-session with h past (script.Group dim level names) (event.Split of shard left right) b = absurd b
begins-session with h past (script.Group dim level names) (event.Moved of shard worker) b = absurd b
begins-session with h past (script.Group dim level names) (event.Left of shard how) b = absurd b
begins-session with h past (script.Group dim level names) (event.Shown of page) b = absurd b
begins-session with h past (script.Group dim level names) (event.Ended of how) b = absurd b

some-is : (o : Option Kind) (k : Kind) (test : Kind → Bool) → o ≡ Some k → option_map_or test o false ≡ true → test k ≡ true
some-is None k test is e = cc
some-is (Some x) k test is e = let same : x ≡ k = cc in ap test (sym same) ∙ e

module _ (m : Running) (kept : IsPhaseKept m) (n : ℕ) (due_kind : Kind) (now_due : IsDueNow m n due_kind) where
  abbrev s : Setting
  s = about_in m

  abbrev w : World
  w = world_of m

  abbrev p : PhaseRun
  p = phase_of m

  -- who can step can make the step that is due, in whatever order commands go
  can-now : (b : Bool) → can_step b s p w n ≡ true → can s p w n ≡ true
  can-now false e = e
  can-now true e = (both-parts (is_turn_of (first_open p (history_in w)) n (due s p w n)) (can s p w n) e).1

  pub meets-it : meets s w n due_kind ≡ true
  meets-it = some-is (due s p w n) due_kind (meets s w n) now_due.due_is (can-now m.in_order now_due.can)

  pub is-next : (c : Command) → slice_get m.phase.now (next_at m n) ≡ Some c → (t : Setting) (x : World) → IsCore m.h.now m.with m.state.cells.items m.state.actors.items t x → IsNextAt t x n c due_kind
  is-next c at = λ t x core.
      let rest = rest-some m kept n c at in
      let here : IsNextAt s w n c due_kind = record { rest = rest_of p (history_in w); more = rest.0; next = rest.1; due_is = now_due.due_is; meets_it = meets-it } in
      subst (λ (y : World). IsNextAt t y n c due_kind) (sym (only-world m.h.now m.with m.state.cells.items m.state.actors.items t x core))
      (subst (λ (z : Setting). IsNextAt z w n c due_kind) (sym (one-setting m.h.now m.with m.state.cells.items m.state.actors.items t x core)) here)

  -- where a command may begin, the next one of the actor's stream does
  unfoldable pub to-begin : (c : Command) → slice_get m.phase.now (next_at m n) ≡ Some c → n < length m.state.actors.items → begins_by m.state.actors.items n due_kind ≡ true
      → IsToBegin m.h.now m.with m.state.cells.items m.state.actors.items n c
  to-begin c at within begins =
      let a = stands (get_or m.state.actors.items n None) (λ x. actor_of x ≡ w.actors n) (kept.core.is.actor n within) in
      let both = both-parts (is_none (actor_of a.0).command) (may_begin due_kind) (sym (ap (λ o. begins_of_one o due_kind) a.1) ∙ begins) in
      let may = kept.may_run (next_at m n) c at in
      record {
        within = within;
        kind_is = due_kind;
        begins = both.1;
        next = is-next c at;
        own = kept.is_running.own n c at;
        free = is-some (get_or m.state.actors.items n None) (λ x. (actor_of x).command ≡ None) a.0 a.1 (none-is (actor_of a.0).command both.0);
        names = may.names;
        allowed = may.allowed;
      }
    where
      none-is : (o : Option OpenCommand) → is_none o ≡ true → o ≡ None
      none-is None is = refl
      none-is (Some c) is = cc

  -- no command has begun that hadn't as the phase began
  begun-before : (session : ℕ) → length (begins_of p.before session) ≤ length (begins_of (history_in w) session)
  begun-before session = omega (arith, kept.is_running.cursors.counts session)

  -- Where the commands go in order it is the actor's turn, and everyone else does nothing.
  alone-before : AloneInOrder m n
  alone-before order a differs =
      let is : can_step true s p w n ≡ true = ap (λ b. can_step b s p w n) (sym order) ∙ now_due.can in
      let turn = (both-parts (is_turn_of (first_open p (history_in w)) n (due s p w n)) (can s p w n) is).0 in
      kept.is_running.idle order a (nobody-else (first_open p (history_in w)) n (due s p w n) turn a differs)

  -- A step that begins nothing.
  module _ (state_now : State) (k : Kind) (stepped : IsFurther m.h.now k n m.state state_now)
      (within : n < length m.state.actors.items) (of_part : is_for_part (w.actors n).errand due_kind ≡ true → is_of_part k ≡ true) (stands : StandsFor due_kind k) where
    after : (x : World) × IsCore m.h.now m.with state_now.cells.items state_now.actors.items s x × Step s k n w x
    after = core-then m.h.now m.with m.state.cells.items state_now.cells.items m.state.actors.items state_now.actors.items s w k n kept.core stepped

    abbrev world_now : World
    world_now = world_in m.h.now m.with state_now.cells.items state_now.actors.items

    same-about : setting_in m.h.now m.with state_now.actors.items ≡ s
    same-about = sym (one-setting m.h.now m.with state_now.cells.items state_now.actors.items s after.0 after.1)

    same-world : after.0 ≡ world_now
    same-world = only-world m.h.now m.with state_now.cells.items state_now.actors.items s after.0 after.1

    step : Step s k n w world_now
    step = subst (λ (x : World). Step s k n w x) same-world after.2

    core-now : IsCore m.h.now m.with state_now.cells.items state_now.actors.items s world_now
    core-now = subst (λ (x : World). IsCore m.h.now m.with state_now.cells.items state_now.actors.items s x) same-world after.1

    turn : IsTurn m.in_order s p w n world_now
    turn = record { within = subst (λ c. n < c) kept.core.count within; can = now_due.can; due_kind = due_kind; is_due = now_due.due_is; made = k; stands = stands; of_part = of_part; step = step }

    alone-now : m.in_order ≡ true → (a : ℕ) → a ≢ n → does_nothing (world_now.actors a) ≡ true
    alone-now order a differs = ap does_nothing (others-law s k n w world_now a step differs) ∙ alone-before order a differs

    hands-now : KnowsHands m → KnowsOtherHands (record m { state = state_now }) n
    hands-now knows a differs worker low told =
        subst (λ (x : ActorValue). IsFreeHand x worker) (sym (others-law s k n w world_now a step differs)) (knows a worker (subst (λ (c : ℕ). a < c) stepped.actors_kept low) told)

    -- fewer steps are left, where the step counts nobody at a desk and commands begin in turn
    fewer : ((world_now.actors n).counted ≡ (w.actors n).counted) → BeginInTurn s p (history_in w) (history_in world_now)
        → (most : ℕ) → HasLeftOver m most → (most_now : ℕ) × HasLeftOver (record m { state = state_now }) most_now × (most_now < most)
    fewer counted turns most has =
        let less = fewer-law m.h.now p k n m.state.cells.items m.state.actors.items state_now.cells.items state_now.actors.items most has.core stepped
        (λ t x y core core_y made.
        subst (λ (z : Setting). ((y.actors n).counted ≡ (x.actors n).counted) × BeginInTurn z p (history_in x) (history_in y)) (sym (one-setting m.h.now m.with m.state.cells.items m.state.actors.items t x core))
        (subst (λ (v : World). ((y.actors n).counted ≡ (v.actors n).counted) × BeginInTurn s p (history_in v) (history_in y)) (sym (only-world m.h.now m.with m.state.cells.items m.state.actors.items t x core))
        (subst (λ (v : World). ((v.actors n).counted ≡ (w.actors n).counted) × BeginInTurn s p (history_in w) (history_in v)) (sym (only-world m.h.now m.with state_now.cells.items state_now.actors.items t y core_y))
        (counted, turns)))) in
        (less.0, record { core = less.1 }, less.2)

    -- where no event begins a command
    module _ (quiet : (e : Event) → history_in world_now ≡ e ∷ history_in w → session_in e ≡ None) (counted : (world_now.actors n).counted ≡ (w.actors n).counted) where
      none-begins : {X : Type 0} (o : Option ℕ) (a : ℕ) → o ≡ None → o ≡ Some a → X
      none-begins o a x y = cc

      running-now : IsRunning m.in_order s p world_now (next_at m) × ((done : List Command) → RunsBehind m.in_order s p done w (next_at m) → RunsBehind m.in_order s p done world_now (next_at m))
      running-now = keeps-other-law m.in_order s p w world_now kept.core.inv.ghost_of core-now.inv.ghost_of (next_at m) n kept.core.inv.holds core-now.inv.holds turn quiet counted kept.is_running

      pub has-gone-on : HasTurned m n (record m { state = state_now })
      has-gone-on = record {
        turn = record {
          same = record { h = refl; with = refl; phase = refl; in_order = refl; before = refl; count = refl };
          about = same-about;
          is = core-now.is;
          turn = record { turn = turn; inv = core-now.inv };
        };
        kept = record {
          core = subst (λ (z : Setting). IsCore m.h.now m.with state_now.cells.items state_now.actors.items z world_now) (sym same-about) core-now;
          may_run = kept.may_run;
          is_running = subst (λ (z : Setting). IsRunning m.in_order z p world_now (next_at m)) (sym same-about) running-now.0;
          behind = λ done through. subst (λ (z : Setting). RunsBehind m.in_order z p done world_now (next_at m)) (sym same-about) (running-now.1 done (kept.behind done through));
          count = kept.count ∙ sym stepped.actors_kept;
          few = kept.few;
          within = kept.within;
          left = kept.left;
          begun = kept.begun;
        };
        left = fewer counted (record { before = begun-before; next = λ e session is grown. none-begins (session_in e) session (quiet e grown) is });
        alone = alone-now;
        hands = hands-now;
      }

    -- of a part or a purse
    went-at-part : is_of_part k ≡ true → HasTurned m n (record m { state = state_now })
    went-at-part part =
        has-gone-on (quiet-law s k n w world_now kept.core.inv.ghost_of core-now.inv.ghost_of kept.core.inv.holds core-now.inv.holds step (λ none. part))
        (counted-law s k n w world_now step (inl (λ note. apart (is_of_part k) part (ap is_of_part note))))

    -- of a command
    went-with-command : (w.actors n).command ≢ None → TellsIfNote k m.state state_now → HasTurned m n (record m { state = state_now })
    went-with-command has tells =
        has-gone-on (quiet-law s k n w world_now kept.core.inv.ghost_of core-now.inv.ghost_of kept.core.inv.holds core-now.inv.holds step (λ none. absurd (has none)))
        (counted-law s k n w world_now step (told tells))
      where
        told : TellsIfNote k m.state state_now → (k ≢ Note) ⊎ (history_in world_now ≢ history_in w) ⊎ ((world_now.actors n).command ≢ (w.actors n).command)
        told (inl other) = inl other
        told (inr longer) = inr (inl (longer w world_now kept.core.is core-now.is))

    -- where it begins the session's next command
    module _ (c : Command) (at : slice_get m.phase.now (next_at m n) ≡ Some c) (begun : GoesBy m.with m.h.now c m.state.cells.items m.state.actors.items state_now.cells.items state_now.actors.items)
        (now : Running) (has_moved : HasMovedOn (record m { state = state_now }) n now) where
      abbrev mid : Running
      mid = record m { state = state_now; next = now.next; left = now.left }

      moved : HasMovedOn (record m { state = state_now }) n mid
      moved = subst (λ (x : Running). HasMovedOn (record m { state = state_now }) n x) has_moved.only has_moved

      grown : IsBegunBy m.with m.h.now c (history_in w) (history_in world_now)
      grown = begun w world_now kept.core.is core-now.is

      own : session_of m.with c ≡ n
      own = kept.is_running.own n c at

      session : session_in grown.event ≡ Some n
      session = begins-session m.with m.h.now (history_in w) c grown.event grown.begins ∙ ap Some own

      longer : (e : Event) (past : List Event) → e ∷ past ≡ past → ⊥
      longer e past is = let len : suc (length past) ≡ length past = ap length is in omega arith

      counted : (world_now.actors n).counted ≡ (w.actors n).counted
      counted = counted-law s k n w world_now step (inr (inl (λ same. longer grown.event (history_in w) (sym grown.grows ∙ same))))

      only-session : (o : Option ℕ) (a b : ℕ) → o ≡ Some a → o ≡ Some b → b ≡ a
      only-session o a b x y = cc

      in-turn : BeginInTurn s p (history_in w) (history_in world_now)
      in-turn = record {
        before = begun-before;
        next = λ e t is longer.
            let same : e ≡ grown.event = heads (sym longer ∙ grown.grows) in
            let who : t ≡ n = only-session (session_in grown.event) n t session (ap session_in (sym same) ∙ is) in
            let rest = rest-some m kept n c at in (
              subst (λ x. x < actor_count s) (sym who) turn.within,
              subst (λ x. rest_of p (history_in w) x ≢ []) (sym who) (λ none. not-empty c rest.0 (sym rest.1 ∙ none)),
            );
      }
        where
          heads : {x y : Event} {xs ys : List Event} → x ∷ xs ≡ y ∷ ys → x ≡ y
          heads e = cc

          not-empty : (x : Command) (xs : List Command) → x ∷ xs ≡ [] → ⊥
          not-empty x xs e = cc

      moves : MovesOn p n (next_at m) (next_at mid)
      moves = record { further = moved.further; none = moved.none; others = moved.others; own = own-now }
        where
          own-now : (t : ℕ) (d : Command) → slice_get m.phase.now (next_at mid t) ≡ Some d → session_of m.with d ≡ t
          own-now t d here = elim (same-or-not t n) [
            | inl is ↦ moved.own d (ap (λ a. slice_get m.phase.now (next_at mid a)) (sym is) ∙ here) ∙ sym is
            | inr differs ↦ kept.is_running.own t d (ap (slice_get m.phase.now) (sym (moved.others t differs)) ∙ here)
          ]

      running-begun : IsRunning m.in_order s p world_now (next_at mid) × ((done : List Command) → RunsBehind m.in_order s p done w (next_at m) → RunsBehind m.in_order s p done world_now (next_at mid))
      running-begun = keeps-beginning-law m.in_order s p w world_now kept.core.inv.ghost_of core-now.inv.ghost_of (next_at m) (next_at mid) n c grown.event
          kept.core.inv.holds core-now.inv.holds turn at grown.grows session grown.begins moves kept.is_running

      within-now : (t : ℕ) → next_at mid t ≤ length m.phase.now
      within-now t = elim (same-or-not t n) [
        | inl is ↦ subst (λ a. next_at mid a ≤ length m.phase.now) (sym is) moved.within
        | inr differs ↦ subst (λ k. k ≤ length m.phase.now) (sym (moved.others t differs)) (kept.within t)
      ]

      begun-now : (i : ℕ) (d : Command) → slice_get m.phase.now i ≡ Some d → i < m.begun → i < next_at mid (session_of m.with d)
      begun-now i d here low =
          let before = kept.begun i d here low in
          elim (same-or-not (session_of m.with d) n) [
            | inl is ↦ subst (λ a. i < next_at mid a) (sym is) (omega (arith, subst (λ a. i < next_at m a) is before, moved.further))
            | inr differs ↦ subst (λ k. i < k) (sym (moved.others (session_of m.with d) differs)) before
          ]

      turned-mid : HasTurned m n mid
      turned-mid = record {
        turn = record {
          same = record { h = refl; with = refl; phase = refl; in_order = refl; before = refl; count = moved.count };
          about = same-about;
          is = core-now.is;
          turn = record { turn = turn; inv = core-now.inv };
        };
        kept = record {
          core = subst (λ (z : Setting). IsCore m.h.now m.with state_now.cells.items state_now.actors.items z world_now) (sym same-about) core-now;
          may_run = kept.may_run;
          is_running = subst (λ (z : Setting). IsRunning m.in_order z p world_now (next_at mid)) (sym same-about) running-begun.0;
          behind = λ done through. subst (λ (z : Setting). RunsBehind m.in_order z p done world_now (next_at mid)) (sym same-about) (running-begun.1 done (kept.behind done through));
          count = moved.count ∙ kept.count ∙ sym stepped.actors_kept;
          few = subst (λ k. k < most_actors) (sym moved.count) kept.few;
          within = within-now;
          left = moved.left;
          begun = begun-now;
        };
        left = λ most has. (let less = fewer counted in-turn most has in (less.0, record { core = less.1.core }, less.2));
        alone = alone-now;
        hands = hands-now;
      }

      pub has-begun : HasTurned m n now
      has-begun = subst (λ (x : Running). HasTurned m n x) (sym has_moved.only) turned-mid

  -- Where the actor has gone on with its part or its purse, or with its command, it has had its turn.
  module _ (state_now : State) (within : n < length m.state.actors.items) where
    pub has-gone-on-at-part : GoesOnAtPart m.h.now due_kind n m.state state_now → HasTurned m n (record m { state = state_now })
    has-gone-on-at-part made = went-at-part state_now made.0 made.2 within (λ is. made.1) made.3 made.1

    -- whatever is made where a part is due is of a part
    pub has-gone-on-with-command : (w.actors n).command ≢ None → ((k : Kind) → StandsFor due_kind k → is_for_part (w.actors n).errand due_kind ≡ true → is_of_part k ≡ true)
        → GoesOnWithCommand m.h.now due_kind n m.state state_now → HasTurned m n (record m { state = state_now })
    has-gone-on-with-command has of_part made = went-with-command state_now made.0 made.1 within (of_part made.0 made.3) made.3 has made.2

-- Where a beginning found no memory, the same holds as before.
pub rests-held : (m : Running) → IsPhaseHeld m → (state_now : State) → IsSame m.state state_now
    → IsPhaseHeld (record m { state = state_now }) × RestsAsIs m (record m { state = state_now })
rests-held m held state_now same =
    let kept = held.kept in
    let first = held.first in
    let s = about_in m in
    let w = world_of m in
    let core = same-core m.h.now m.with m.state state_now s w same kept.core in
    let about = one-setting m.h.now m.with state_now.cells.items state_now.actors.items s w core in
    let world = only-world m.h.now m.with state_now.cells.items state_now.actors.items s w core in (
      record {
        kept = record {
          core = subst (λ (x : World). IsCore m.h.now m.with state_now.cells.items state_now.actors.items (setting_in m.h.now m.with state_now.actors.items) x) world
              (subst (λ (z : Setting). IsCore m.h.now m.with state_now.cells.items state_now.actors.items z w) about core);
          may_run = kept.may_run;
          is_running = subst (λ (x : World). IsRunning m.in_order (setting_in m.h.now m.with state_now.actors.items) (phase_of m) x (next_at m)) world
              (subst (λ (z : Setting). IsRunning m.in_order z (phase_of m) w (next_at m)) about kept.is_running);
          behind = λ done through. subst (λ (x : World). RunsBehind m.in_order (setting_in m.h.now m.with state_now.actors.items) (phase_of m) done x (next_at m)) world
              (subst (λ (z : Setting). RunsBehind m.in_order z (phase_of m) done w (next_at m)) about (kept.behind done through));
          count = kept.count ∙ sym same.actors_kept;
          few = kept.few;
          within = kept.within;
          left = kept.left;
          begun = kept.begun;
        };
        first = λ order. ap (λ (x : World). first_open (phase_of m) (history_in x)) (sym world) ∙ first order;
        hands = λ a worker low told. subst (λ (x : World). IsFreeHand (x.actors a) worker) world (held.hands a worker (subst (λ (c : ℕ). a < c) same.actors_kept low) told);
      },
      record { same = record { h = refl; with = refl; phase = refl; in_order = refl; before = refl; count = refl }; state = same; about = sym about; world = sym world },
    )
