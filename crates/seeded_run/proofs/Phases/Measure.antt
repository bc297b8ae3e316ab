-- With each step of a phase fewer are left.
use Rattle.std.proofs.{Common.{◌≡◌, ◌∙◌, ℕ, ◌+◌, ◌<◌, ◌≤◌, Bool, true, List, [], ◌∷◌, ◌++◌, length, Option, Some, None, refl, sym, ap, subst, arith, length-append}, lemmas.Bool.{false≢true, ne_eqb}}
use Rattle.std.specs.Prelude.{is_some, if◌then◌else◌}
use Rattle.row_ledger.specs.{Past.{is_beginning, session_in}, declared.event.Event.Event}
use Rattle.script_run.specs.Places.{begins_in, begins_of}
use Rattle.script_run.proofs.PlaceFacts.{begins_of-here, begins_of-other}
use Rattle.list_words.proofs.Truth.{on_bool}
use Rattle.core_pages.specs.volap_cell.specs.{Falls.left, Ghost.Ghost, Setting.{Setting, actor_count}, Steps.{Step, history_in}, World.World, declared.kind.Kind.Kind}
use Rattle.core_pages.specs.volap_cell.proofs.Sums.{sum-kept}
use Rattle.seeded_run.proofs.{Phases.Limits.limits-law, Phases.Ranks.{rank-falls, step-falls}, Phases.Waiting.waiting-law}
use Rattle.seeded_run.specs.{Core.IsCore, Measure.{BeginInTurn, MostLaw, FewerLaw, StepsLeftLaw, limits_of, steps_left}, Ranks.{IsWithin, commands_waiting, with_waiting}, Rests.PhaseRun}

-- a session has no fewer beginnings with an event
begun-more : (e : Event) (history : List Event) (session : ℕ) → length (begins_of history session) ≤ length (begins_of (e ∷ history) session)
begun-more e history session = on_bool (begins_in session e)
    (λ q. let longer : length (begins_of (e ∷ history) session) ≡ length (begins_of history session) + 1 =
    ap length (begins_of-here e history session q) ∙ length-append (begins_of history session) (length history ∷ []) in omega arith)
    (λ q. let same = ap length (begins_of-other e history session q) in omega arith)

begun-later : (newer history : List Event) (session : ℕ) → length (begins_of history session) ≤ length (begins_of (newer ++ history) session)
begun-later [] history session = omega arith
begun-later (e ∷ newer) history session =
    let more = begun-more e (newer ++ history) session in
    let rest = begun-later newer history session in omega arith

-- so no more commands wait later
waits-no-more : (s : Setting) (p : PhaseRun) (newer history : List Event) → ((session : ℕ) → length (begins_of p.before session) ≤ length (begins_of history session)) → commands_waiting s p (newer ++ history) ≤ commands_waiting s p history
waits-no-more s p [] history few = omega arith
waits-no-more s p (e ∷ newer) history few =
    let here = (waiting-law s p e (newer ++ history) (λ session. let k = few session in let more = begun-later newer history session in omega arith)).0 in
    let rest = waits-no-more s p newer history few in omega arith

some-session : (o : Option ℕ) → is_some o ≡ true → (a : ℕ) × (o ≡ Some a)
some-session None is = absurd (false≢true is)
some-session (Some a) is = (a, refl)

-- and fewer where one begins
waits-less : (s : Setting) (p : PhaseRun) (e : Event) (history history_now : List Event) → BeginInTurn s p history history_now → is_beginning e ≡ true → history_now ≡ e ∷ history → commands_waiting s p history_now < commands_waiting s p history
waits-less s p e history history_now turn is grown =
    let (a, session) = some-session (session_in e) is in
    let next = turn.next e a session grown in
    subst (λ (h : List Event). commands_waiting s p h < commands_waiting s p history) (sym grown) ((waiting-law s p e history turn.before).1 a session next.0 next.1)

-- as many actors are counted at desks, where one is as it was
counted-same : (s : Setting) (k : Kind) (n : ℕ) (w now : World) (g g2 : Ghost) → Step s k n w now → (now.actors n).counted ≡ (w.actors n).counted → (left s now g2).counted ≡ (left s w g).counted
counted-same s k n w now g g2 step same = sum-kept (actor_count s) (λ a. if (w.actors a).counted then 1 else 0) (λ a. if (now.actors a).counted then 1 else 0) n
    (λ a ne. ap (λ (b : Bool). if b then 1 else 0) (ap (λ (z : World). (z.actors a).counted) step.now_is ∙ rw (ne_eqb a n ne) refl))
    (ap (λ (b : Bool). if b then 1 else 0) same)

pub steps-left-law : StepsLeftLaw
steps-left-law s p k n w now g kept same turn =
    let limits = limits-law s now kept.ghost_now kept.holds in
    let within : IsWithin (limits_of s) (with_waiting s (commands_waiting s p (history_in now)) (left s now kept.ghost_now)) =
    record { gates = limits.gates; rows = limits.rows; queries = limits.queries } in
    let few : commands_waiting s p (history_in now) ≤ commands_waiting s p (history_in w) =
    subst (λ (h : List Event). commands_waiting s p h ≤ commands_waiting s p (history_in w)) (sym kept.grows) (waits-no-more s p kept.newer (history_in w) turn.before) in
    let falls = step-falls s (left s w g) (left s now kept.ghost_now) (history_in w) (history_in now) (commands_waiting s p (history_in w)) (commands_waiting s p (history_in now)) kept.goes_on
    (counted-same s k n w now g kept.ghost_now kept.step same) few (λ e is grown. waits-less s p e (history_in w) (history_in now) turn is grown) in
    rank-falls (limits_of s) (with_waiting s (commands_waiting s p (history_in w)) (left s w g)) (with_waiting s (commands_waiting s p (history_in now)) (left s now kept.ghost_now)) falls within

-- Runs.

pub most-law : MostLaw
most-law h p cells actors core = (
  steps_left core.setting p core.world core.is_core.inv.ghost_of,
  record {
    setting = core.setting;
    world = core.world;
    is_core = core.is_core;
    left = record { ghost = core.is_core.inv.ghost_of; holds = core.is_core.inv.holds; few = omega arith };
  },
)

pub fewer-law : FewerLaw
fewer-law h p k n cells actors cells_now actors_now most has stepped turn =
    let s = has.setting in
    let w = has.world in
    let core = has.is_core in
    let after = stepped.step s w has.left.ghost core.hierarchy core.is has.left.holds core.inv.reached in
    let core_now : IsCore h p.with cells_now actors_now s after.now = record {
      hierarchy = core.hierarchy;
      servers = core.servers;
      workers = core.workers;
      stock = core.stock;
      roles = core.roles;
      count = stepped.actors_kept ∙ core.count;
      places = stepped.cells_kept ∙ core.places;
      is = after.is;
      inv = record { ghost_of = after.kept.ghost_now; holds = after.kept.holds; reached = after.reached };
    } in
    let goes = turn s w after.now core core_now after.kept.step in
    let less = steps-left-law s p k n w after.now has.left.ghost after.kept goes.0 goes.1 in
    let few = has.left.few in (
      steps_left s p after.now after.kept.ghost_now,
      record { setting = s; world = after.now; is_core = core_now; left = record { ghost = after.kept.ghost_now; holds = after.kept.holds; few = omega arith } },
      omega (arith, less, few),
    )
