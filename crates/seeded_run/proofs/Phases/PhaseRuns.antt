-- How a phase begins and ends.
use Rattle.std.proofs.{Common.{◌≡◌, ◌≢◌, ◌∙◌, ℕ, zero, suc, ◌+◌, ◌-◌, ◌<◌, ◌≤◌, ◌⊎◌, inl, inr, Bool, true, false, List, [], ◌∷◌, ◌++◌, length, take, drop, Option, Some, None, refl, sym, ap, subst, arith}, Math.Seq.take-length, lemmas.Bool.{eq-eqb, eqb-true}, lemmas.List.take-append-drop, lemmas.Option.slice_get_within}
use Rattle.std.specs.{Option.option_map_or, Prelude.{◌==◌, ◌&&◌, option_and_then, slice_get}}
use Rattle.row_ledger.proofs.Positions.{event_at-here, event_at-older}
use Rattle.row_ledger.specs.{Past.{event_at, session_in}, declared.event.Event.Event, declared.settings.Use.Use}
use Rattle.script_form.specs.declared.script.Command.{Command}
use Rattle.script_run.proofs.{Between.{get-behind, none-count, order-start-law, phase-end-law, phase-start-law}, NextCommand.over-now, PhaseEnds.{all-over, first-place, get-first}, PlaceFacts.{begins_of-here, begins_of-other, count_of-append}, Whole.{get-some, places-length}}
use Rattle.script_run.specs.{Between.AreFirst, Phases.closes, Places.{begins_in, begins_of, count_of, is_over_at, places, session_of}}
use Rattle.core_pages.specs.volap_cell.specs.{Errands.taken_of, Ghost.Ghost, Invariant.InvWith, Setting.{Setting, actor_count}, Sights.IsIdle, Steps.history_in, Values.ErrandValue, View.view, World.World, declared.command.Command.Command as OpenCommand, declared.role.Role.TheVariants.Admin}
use Rattle.core_pages.specs.volap_cell.specs.declared.kind.Kind.TheVariants as kind
use Rattle.seeded_turns.proofs.Able.{able_place}
use Rattle.seeded_turns.specs.Drawn.{able}
use Rattle.core_due.specs.core_steps.specs.declared.reuses.ReuseStep.{ReuseStep}
use Rattle.core_due.proofs.ReusesPrepared.{none-gone}
use Rattle.core_due.specs.{Due.{does_nothing, is_empty}, Reuses.reuse_due, Wants.meets}
use Rattle.seeded_run.proofs.{Cursors.Cursors.{cursor-law, other-first, own-first}, Cursors.Firsts.{IsFirst, first-fails, first-none, first-pass, first-some, late-not, over-at, over_in, past-place}, Due.DueReuses.{idle-kind, idle-meets}, Holding.LeftAlone.{alone-from, apart, both-parts, does-nothing, empty-of, is-idle, same-or-not}, Phases.Ends.{end-law, no-actor}, Phases.Orders.order-end-law, Scripts.{role-is, same-command, script-law}}
use Rattle.seeded_run.specs.{Can.{able_in, can, can_step, is_reuse, is_turn_of}, Due.{due, free_kind, is_alone, kind_or}, Kept.{AreIdle, BehindBeginsLaw, BehindEndsLaw, HasBegunAll, IsNoneGone, PhaseBeginsLaw, PhaseEndsLaw, RunsLaw, StopsLaw}, Progress.{IsOrderedRun, IsScriptRun, is_done}, Rests.{PhaseRun, first_open, rest_of, stream_of}, Running.{IsRunning, behind, opened_in}}

-- Streams by places.

-- a command that stands there is in the stream
stream-has : (with : Use) (s : ℕ) (cs : List Command) (m i : ℕ) (c : Command) → slice_get cs i ≡ Some c → session_of with c ≡ s → m ≤ i → stream_of with (drop m cs) s ≡ [] → ⊥
stream-has with s [] m i c at own low none = cc
stream-has with s (d ∷ cs) (suc m) zero c at own low none = absurd (omega arith)
stream-has with s (d ∷ cs) (suc m) (suc i) c at own low none = stream-has with s cs m i c at own (omega arith) none
stream-has with s (d ∷ cs) zero zero c at own low none =
    let same : d ≡ c = cc in
    let more : stream_of with (d ∷ cs) s ≡ d ∷ stream_of with cs s = own-first with s d cs (ap (λ x. session_of with x == s) same ∙ eq-eqb (session_of with c) s own) in
    let no_more : d ∷ stream_of with cs s ≡ [] = sym more ∙ none in
    cc
stream-has with s (d ∷ cs) zero (suc i) c at own low none = by (λ e. stream-has with s cs 0 i c at own (omega arith) e) (session_of with d == s) refl
  where
    by : (stream_of with cs s ≡ [] → ⊥) → (b : Bool) → (session_of with d == s) ≡ b → ⊥
    by go true is = let no_more : d ∷ stream_of with cs s ≡ [] = sym (own-first with s d cs is) ∙ none in cc
    by go false is = go (sym (other-first with s d cs is) ∙ none)

-- the first of a stream, before which none of it stands
record FirstIn (with : Use) (s : ℕ) (cs : List Command) (c : Command) : Type 0 where
  pub at : ℕ
  pub here : slice_get cs at ≡ Some c
  pub own : session_of with c ≡ s
  pub before : (i : ℕ) (d : Command) → slice_get cs i ≡ Some d → session_of with d ≡ s → at ≤ i

stream-first : (with : Use) (s : ℕ) (cs : List Command) (c : Command) (more : List Command) → stream_of with cs s ≡ c ∷ more → FirstIn with s cs c
stream-first with s [] c more is = cc
stream-first with s (d ∷ cs) c more is = by (λ e. stream-first with s cs c more e) (session_of with d == s) refl
  where
    by : (stream_of with cs s ≡ c ∷ more → FirstIn with s cs c) → (b : Bool) → (session_of with d == s) ≡ b → FirstIn with s (d ∷ cs) c
    by go true own =
        let first : d ∷ stream_of with cs s ≡ c ∷ more = sym (own-first with s d cs own) ∙ is in
        let same : d ≡ c = cc in
        record { at = 0; here = ap Some same; own = ap (session_of with) (sym same) ∙ eqb-true (session_of with d) s own; before = λ i e at o. omega arith }
    by go false other =
        let f = go (sym (other-first with s d cs other) ∙ is) in
        record { at = suc f.at; here = f.here; own = f.own; before = before f }
      where
        before : (f : FirstIn with s cs c) → (i : ℕ) (e : Command) → slice_get (d ∷ cs) i ≡ Some e → session_of with e ≡ s → suc f.at ≤ i
        before f zero e at o = let same : d ≡ e = cc in apart (session_of with d == s) (eq-eqb (session_of with d) s (ap (session_of with) same ∙ o)) other
        before f (suc i) e at o = let low = f.before i e at o in omega arith

drop-get : (xs : List Command) (m i : ℕ) → slice_get (drop m xs) i ≡ slice_get xs (m + i)
drop-get xs zero i = let e : i ≡ 0 + i = omega arith in ap (slice_get xs) e
drop-get [] (suc m) i = refl
drop-get (x ∷ xs) (suc m) i = let e : suc (m + i) ≡ suc m + i = omega arith in drop-get xs m i ∙ ap (slice_get (x ∷ xs)) e

-- Beginning.

none-open : {X : Type 0} (o : Option OpenCommand) (c : OpenCommand) → o ≡ None → o ≡ Some c → X
none-open o c x y = cc

pub phase-begins-law : PhaseBeginsLaw
phase-begins-law in_order s p w next roles phase idle before first = record {
  roles = roles;
  phase = phase;
  cursors = record { counts = λ t. omega (arith, ap (λ h. length (begins_of h t)) before, none-count p.with t p.commands (next t) (λ i c at low. first.first t i c at low)) };
  own = first.own;
  closing = λ a c at closing. none-open (w.actors a).command c (idle a).command at;
  pages = λ a c at page. none-open (w.actors a).command c (idle a).command at;
  nobody = λ a. (idle a).counted;
  idle = λ order a other. does-nothing (w.actors a) (idle a);
}

pub behind-begins-law : BehindBeginsLaw
behind-begins-law in_order s p done w next between before first =
    let start = phase-start-law p.with s.hierarchy done p.commands (history_in w) (behind done next) between.through are-first in
    record {
      through = λ t. ap (λ h. length (begins_of h t)) before ∙ between.through.counts t;
      in_phase = record {
        part = start.part;
        streams = record {
          counts = start.streams.counts;
          begun = λ i c at low. let found = start.streams.begun i c at low in (found.0, found.1, inl (over-now None found.0 (history_in w) refl found.2));
        };
        past = start.past;
      };
      pulled = λ a c at. none-open (w.actors a).command c (between.idle a).command at;
      ordered = λ order. order-start-law p.with s.hierarchy done p.commands (history_in w) (λ t. omega (arith, between.through.counts t)) (between.ordered order);
    }
  where
    are-first : AreFirst p.with (done ++ p.commands) (length done) (behind done next)
    are-first t = (
      omega arith,
      λ i c at high low.
          (let far : length done + (i - length done) ≡ i = omega (arith, high) in
          first.first t (i - length done) c (sym (get-behind done p.commands (i - length done)) ∙ ap (slice_get (done ++ p.commands)) far ∙ at) (omega (arith, low, high))),
    )

-- While it runs.

none-begun : (s k q : ℕ) → slice_get (begins_of [] s) k ≡ Some q → ⊥
unfolding begins_of
none-begun s k q at = cc

-- where a session began something the event is of that session
begins-at : (history : List Event) (s k q : ℕ) → slice_get (begins_of history s) k ≡ Some q → (q < length history) × (option_and_then session_in (event_at history q) ≡ Some s)
begins-at [] s k q at = absurd (none-begun s k q at)
begins-at (e ∷ past) s k q at = by (λ there. begins-at past s k q there) (begins_in s e) refl
  where
    older : (q < length past) × (option_and_then session_in (event_at past q) ≡ Some s) → (q < length (e ∷ past)) × (option_and_then session_in (event_at (e ∷ past) q) ≡ Some s)
    older old = (omega (arith, old.0), ap (option_and_then session_in) (event_at-older e past q old.0) ∙ old.1)

    session : begins_in s e ≡ true → session_in e ≡ Some s
    session is = of (session_in e) is
      where
        of : (o : Option ℕ) → option_map_or (λ t. t == s) o false ≡ true → o ≡ Some s
        of None is = cc
        of (Some t) is = ap Some (eqb-true t s is)

    last : (xs : List ℕ) (k : ℕ) → slice_get (xs ++ length past ∷ []) k ≡ Some q → (slice_get xs k ≡ Some q) ⊎ (length past ≡ q)
    last [] zero at = inr (cc)
    last [] (suc k) at = cc
    last (x ∷ xs) zero at = inl at
    last (x ∷ xs) (suc k) at = last xs k at

    by : (slice_get (begins_of past s) k ≡ Some q → (q < length past) × (option_and_then session_in (event_at past q) ≡ Some s)) → (b : Bool) → begins_in s e ≡ b
        → (q < length (e ∷ past)) × (option_and_then session_in (event_at (e ∷ past) q) ≡ Some s)
    by go true is = elim (last (begins_of past s) k (ap (λ l. slice_get l k) (sym (begins_of-here e past s is)) ∙ at)) [
      | inl old ↦ older (go old)
      | inr here ↦ (omega (arith, here), ap (λ j. option_and_then session_in (event_at (e ∷ past) j)) (sym here) ∙ ap (option_and_then session_in) (event_at-here e past) ∙ session is)
    ]
    by go false is = older (go (ap (λ l. slice_get l k) (sym (begins_of-other e past s is)) ∙ at))

no-part : (o : Option ErrandValue) → taken_of o ≡ None → o ≡ None
no-part None e = refl
no-part (Some x) e = cc

pub low-or-high : (a n : ℕ) → (a < n) ⊎ (n ≤ a)
low-or-high a n = grind arith

module _ (in_order : Bool) (s : Setting) (p : PhaseRun) (w : World) (g : Ghost) (next : ℕ → ℕ) (i : InvWith s (view s w) g) (r : IsRunning in_order s p w next) where
  -- nobody stands behind the last actor
  pub beyond-idle : (a : ℕ) → actor_count s ≤ a → IsIdle (w.actors a)
  beyond-idle a high =
      let nobody = i.numbering.nobody a high in
      record { command = nobody.2; errand = no-part (w.actors a).errand nobody.3; job = nobody.4; purse = nobody.1; counted = nobody.0 }

  pub all-idle : ((a : ℕ) → a < actor_count s → IsIdle (w.actors a)) → (a : ℕ) → IsIdle (w.actors a)
  all-idle within a = elim (low-or-high a (actor_count s)) [ inl low ↦ within a low | inr high ↦ beyond-idle a high ]

  pub script : IsScriptRun s w (rest_of p (history_in w))
  script = script-law s p w g i r.roles r.phase r.pages r.nobody

  -- a session is an actor
  pub is-actor : (k : ℕ) (c : Command) → slice_get p.commands k ≡ Some c → session_of p.with c < actor_count s
  is-actor k c at = omega (arith, r.phase.sessions k c at, slice_get_within s.roles (s.servers + 1) _ r.roles.admin)

  -- behind the last command of a stream its session's next one stands further
  pub rest-past : (k : ℕ) (c : Command) → slice_get p.commands k ≡ Some c → rest_of p (history_in w) (session_of p.with c) ≡ [] → k < next (session_of p.with c)
  rest-past k c at none = elim (low-or-high k (next (session_of p.with c))) [
    | inl low ↦ low
    | inr high ↦ absurd (stream-has p.with (session_of p.with c) p.commands (next (session_of p.with c)) k c at refl high
        (sym (cursor-law p (history_in w) next r.cursors (session_of p.with c)) ∙ none))
  ]

  -- what is over has begun
  pub over-past : (k : ℕ) (c : Command) → slice_get p.commands k ≡ Some c → over_in p (history_in w) k ≡ true → k < next (session_of p.with c)
  over-past k c at over = elim (low-or-high k (next (session_of p.with c))) [
    | inl low ↦ low
    | inr high ↦ apart (over_in p (history_in w) k) over (late-not p (history_in w) next r.cursors k c at high)
  ]

  -- and what has begun is over, while its session has nothing open
  pub past-over : (k : ℕ) (c : Command) → slice_get p.commands k ≡ Some c → k < next (session_of p.with c) → (w.actors (session_of p.with c)).command ≡ None → over_in p (history_in w) k ≡ true
  past-over k c at low none =
      let found = past-place p (history_in w) next r.cursors k c at low in
      let begun = begins-at (history_in w) (session_of p.with c) (length (begins_of p.before (session_of p.with c)) + count_of p.with (session_of p.with c) (take k p.commands)) found.0 found.1 in
      over-at p (history_in w) k c at ∙ ap (is_over_at (history_in w)) found.1 ∙ elim (i.telling.status (session_of p.with c) found.0 begun.1) [
        | inl over ↦ over
        | inr (a, it, at_a, of) ↦
            let whose : a ≡ session_of p.with c = same-open (option_and_then session_in (event_at (history_in w) found.0)) a (session_of p.with c)
            (ap (λ q. option_and_then session_in (event_at (history_in w) q)) (sym of) ∙ i.telling.own a it at_a) begun.1 in
            none-open (w.actors a).command it (ap (λ x. (w.actors x).command) whose ∙ none) at_a
      ]
    where
      same-open : (o : Option ℕ) (a b : ℕ) → o ≡ Some a → o ≡ Some b → a ≡ b
      same-open o a b x y = cc

  -- In order.
  module _ (order : in_order ≡ true) where
    first-here : (a : ℕ) → (f : IsFirst (over_in p (history_in w)) (session_of p.with) 0 p.commands a) → is_done w (rest_of p (history_in w)) a ≡ true → ⊥
    first-here a f isdone =
        let parts = both-parts (does_nothing (w.actors a)) (is_empty (rest_of p (history_in w) a)) isdone in
        let none = ap (λ x. (w.actors x).command) f.is ∙ (is-idle (w.actors a) parts.0).command in
        let past = rest-past f.at f.command f.here (ap (rest_of p (history_in w)) f.is ∙ empty-of (rest_of p (history_in w) a) parts.1) in
        apart (over_in p (history_in w) f.at) (past-over f.at f.command f.here past none) (first-fails p (history_in w) a f)

    not-true : (b : Bool) → (b ≡ true → ⊥) → b ≡ false
    not-true true h = absurd (h refl)
    not-true false h = refl

    some-apart : (o : Option ℕ) (a b : ℕ) → o ≡ Some a → o ≡ Some b → a ≡ b
    some-apart o a b x y = cc

    others-idle : (a b : ℕ) → first_open p (history_in w) ≡ Some a → b ≢ a → does_nothing (w.actors b) ≡ true
    others-idle a b is differs = r.idle order b (λ here. differs (some-apart (first_open p (history_in w)) b a here is))

    -- where the command that closes the phase is next, all others are over
    last-alone : (a : ℕ) (c : Command) (more : List Command) → first_open p (history_in w) ≡ Some a → (w.actors a).command ≡ None → rest_of p (history_in w) a ≡ c ∷ more → closes c ≡ true
        → is_alone s w (rest_of p (history_in w)) a ≡ true
    last-alone a c more is none rest closing = alone-from s w (rest_of p (history_in w)) a (λ b low differs. (is-idle (w.actors b) (others-idle a b is differs), empty b differs (rest_of p (history_in w) b) refl))
      where
        m : ℕ
        m = next a

        f : IsFirst (over_in p (history_in w)) (session_of p.with) 0 p.commands a
        f = first-some p (history_in w) a is

        x : FirstIn p.with a (drop m p.commands) c
        x = stream-first p.with a (drop m p.commands) c more (sym (cursor-law p (history_in w) next r.cursors a) ∙ rest)

        here : slice_get p.commands (m + x.at) ≡ Some c
        here = sym (drop-get p.commands m x.at) ∙ x.here

        last : m + x.at + 1 ≡ length p.commands
        last = r.phase.last (m + x.at) c here closing

        -- the first one that isn't over is this one, or stands behind it
        not-before : m + x.at ≤ f.at
        not-before = elim (low-or-high f.at (next a)) [
          | inl low ↦ apart (over_in p (history_in w) f.at)
              (past-over f.at f.command f.here (subst (λ t. f.at < next t) (sym f.is) low) (ap (λ t. (w.actors t).command) f.is ∙ none))
              (first-fails p (history_in w) a f)
          | inr high ↦
              let far : m + (f.at - m) ≡ f.at = omega (arith, high) in
              let low = x.before (f.at - m) f.command (drop-get p.commands m (f.at - m) ∙ ap (slice_get p.commands) far ∙ f.here) f.is in
              omega (arith, low, far)
        ]

        empty : (b : ℕ) → b ≢ a → (ds : List Command) → rest_of p (history_in w) b ≡ ds → rest_of p (history_in w) b ≡ []
        empty b differs [] at = at
        empty b differs (d ∷ ds) at =
            let y = stream-first p.with b (drop (next b) p.commands) d ds (sym (cursor-law p (history_in w) next r.cursors b) ∙ at) in
            let there : slice_get p.commands (next b + y.at) ≡ Some d = sym (drop-get p.commands (next b) y.at) ∙ y.here in
            let within = slice_get_within p.commands (next b + y.at) d there in
            elim (same-or-not (next b + y.at) (m + x.at)) [
              | inl same ↦ absurd (differs (sym y.own ∙ ap (session_of p.with) (same-command p.commands (next b + y.at) (m + x.at) d c same there here) ∙ x.own))
              | inr other ↦
                  let over = first-pass p (history_in w) a f (next b + y.at) (omega (arith, within, last, not-before, other)) in
                  let past = subst (λ t. next b + y.at < next t) y.own (over-past (next b + y.at) d there over) in
                  absurd (omega (arith, past))
            ]

    pub ordered-run : IsOrderedRun s p w
    ordered-run = record {
      here = λ a is.
          let f = first-some p (history_in w) a is in
          (subst (λ t. t < actor_count s) f.is (is-actor f.at f.command f.here), not-true (is_done w (rest_of p (history_in w)) a) (first-here a f));
      others = others-idle;
      last = last-alone;
    }

  -- Where nobody can step.
  module _ (none : able_in in_order s p w ≡ []) where
    none-open-first : in_order ≡ true → first_open p (history_in w) ≡ None
    none-open-first order = order-end-law s p w g i script (ordered-run order) (subst (λ b. able_in b s p w ≡ []) order none)

    each-done : in_order ≡ false → (a : ℕ) → a < actor_count s → is_done w (rest_of p (history_in w)) a ≡ true
    each-done free a low = end-law s p w g i script (subst (λ b. able_in b s p w ≡ []) free none) a low

    pub idle-at-end : AreIdle w
    idle-at-end = by in_order refl
      where
        some-none : (o : Option ℕ) (a : ℕ) → o ≡ None → o ≡ Some a → ⊥
        some-none o a x y = cc

        by : (b : Bool) → in_order ≡ b → AreIdle w
        by false free = all-idle (λ a low. is-idle (w.actors a) (both-parts (does_nothing (w.actors a)) (is_empty (rest_of p (history_in w) a)) (each-done free a low)).0)
        by true order = λ a. is-idle (w.actors a) (r.idle order a (λ here. some-none (first_open p (history_in w)) a (none-open-first order) here))

    -- So the administrator can't use a cell again, and none is left that could be.

    abbrev admin : ℕ
    admin = s.servers + 1

    module _ (step : ReuseStep) (is : reuse_due w (w.actors (s.servers + 1)) ≡ Some step) where
      reuse-is-due : due s p w admin ≡ Some kind.Reuse
      reuse-is-due =
          let rest = rest_of p (history_in w) in
          idle-kind s w admin (idle-at-end admin) (is_alone s w rest admin) (rest admin)
          ∙ ap (λ o. kind_or o (free_kind s w (is_alone s w rest admin) (rest admin) (w.actors admin).role)) is

      can-reuse : can s p w admin ≡ true
      can-reuse = ap (λ o. option_map_or (meets s w admin) o false) reuse-is-due ∙ idle-meets s w admin (idle-at-end admin) kind.Reuse

      admin-steps : (b : Bool) → in_order ≡ b → can_step b s p w admin ≡ true
      admin-steps false free = can-reuse
      admin-steps true order =
          ap (λ o. is_turn_of o admin (due s p w admin) && can s p w admin) (none-open-first order)
          ∙ ap (λ k. is_reuse k && can s p w admin) reuse-is-due
          ∙ can-reuse

    none-reusable : reuse_due w (w.actors admin) ≡ None
    none-reusable = by (reuse_due w (w.actors admin)) refl
      where
        by : (o : Option ReuseStep) → reuse_due w (w.actors admin) ≡ o → reuse_due w (w.actors admin) ≡ None
        by None is = is
        by (Some step) is =
            no-actor (able (can_step in_order s p w) (actor_count s)) (length (able (can_step in_order s p w) admin)) admin none
            (able_place (can_step in_order s p w) (actor_count s) admin (slice_get_within s.roles admin Admin r.roles.admin) (admin-steps step is in_order refl))

    pub none-gone-at-end : IsNoneGone w
    none-gone-at-end = none-gone s w g i admin (role-is s w g i r.roles admin Admin r.roles.admin) (λ a. (idle-at-end a).errand) none-reusable

    -- each command has begun
    pub all-begun : (k : ℕ) (c : Command) → slice_get p.commands k ≡ Some c → k < next (session_of p.with c)
    all-begun k c at = by in_order refl
      where
        by : (b : Bool) → in_order ≡ b → k < next (session_of p.with c)
        by false free =
            rest-past k c at (empty-of (rest_of p (history_in w) (session_of p.with c))
            (both-parts (does_nothing (w.actors (session_of p.with c))) (is_empty (rest_of p (history_in w) (session_of p.with c))) (each-done free (session_of p.with c) (is-actor k c at))).1)
        by true order = over-past k c at (first-none p (history_in w) (none-open-first order) k c at)

    -- so each session has begun all of its own
    pub begun-at-end : HasBegunAll p w
    begun-at-end t =
        let n = next t in
        let more = drop n p.commands in
        let none_left : count_of p.with t (take (length more) more) ≡ 0 = none-count p.with t more (length more) (λ k c at low same. not-left t k c at same) in
        omega (arith, r.cursors.counts t, none_left, ap (count_of p.with t) (take-length more), ap (count_of p.with t) (take-append-drop n p.commands), count_of-append p.with t (take n p.commands) more)
      where
        not-left : (t k : ℕ) (c : Command) → slice_get (drop (next t) p.commands) k ≡ Some c → session_of p.with c ≡ t → ⊥
        not-left t k c at same =
            let low = subst (λ x. next t + k < next x) same (all-begun (next t + k) c (sym (drop-get p.commands (next t) k) ∙ at)) in
            absurd (omega (arith, low))

pub runs-law : RunsLaw
runs-law in_order s p w g next i r = (script in_order s p w g next i r, λ order. ordered-run in_order s p w g next i r order)

-- Ending.

pub phase-ends-law : PhaseEndsLaw
phase-ends-law in_order s p w g next i r none = (idle-at-end in_order s p w g next i r none, none-gone-at-end in_order s p w g next i r none, begun-at-end in_order s p w g next i r none)

pub opened-none : (w : World) (a : ℕ) → (w.actors a).command ≡ None → opened_in w a ≡ None
opened-none w a none = rw none refl

pub behind-ends-law : BehindEndsLaw
behind-ends-law in_order s p done w g next i r b none =
    let idle = idle-at-end in_order s p w g next i r none in
    record {
      through = phase-end-law p.with s.hierarchy (done ++ p.commands) (length done) (history_in w) (behind done next) (opened_in w) b.in_phase (record {
        begun = λ k c at. elim (low-or-high k (length done)) [
          | inl low ↦ omega (arith, low)
          | inr high ↦
              let far : length done + (k - length done) ≡ k = omega (arith, high) in
              let low = all-begun in_order s p w g next i r none (k - length done) c (sym (get-behind done p.commands (k - length done)) ∙ ap (slice_get (done ++ p.commands)) far ∙ at) in
              omega (arith, low, far)
        ];
        ended = λ a. opened-none w a (idle a).command;
      });
      idle = idle;
      none_gone = none-gone-at-end in_order s p w g next i r none;
      ordered = b.ordered;
    }

-- Stopping.

pub stops-law : StopsLaw
stops-law in_order s p done w next b = record {
  part = b.in_phase.part;
  few = λ session. few session;
  over = all-over (history_in w) (places p.with done (history_in w)) (λ j low.
      let within : j < length done = omega (arith, low, places-length p.with done (history_in w)) in
      let c = get-some done j within in
      let found = b.in_phase.past j c.0 (get-first done p.commands j within ∙ c.1) within in
      (found.0, sym (first-place p.with done p.commands (history_in w) j within) ∙ found.1, found.2));
  ordered = b.ordered;
}
  where
    few : (session : ℕ) → length (begins_of (history_in w) session) ≤ count_of p.with session (done ++ p.commands)
    few session =
        let all = done ++ p.commands in
        let n = behind done next session in
        omega (arith, b.in_phase.streams.counts session, ap (count_of p.with session) (take-append-drop n all), count_of-append p.with session (take n all) (drop n all))
