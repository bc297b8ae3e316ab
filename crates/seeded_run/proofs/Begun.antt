-- What is due for an actor whose command may begin, or that can step at all.
use Rattle.std.proofs.{Common.{◌≡◌, ◌≢◌, ◌∙◌, ◌<◌, ◌&&◌, inl, inr, ℕ, Bool, true, false, not, ◌==◌, List, [], ◌∷◌, Option, Some, None, is_none, length, get_or, option_map, refl, sym, ap, subst}, lemmas.Bool.eq-eqb}
use Rattle.std.specs.Prelude.{if◌then◌else◌, slice_get}
use Rattle.dim_hierarchy.specs.Dimension.{Dimension}
use Rattle.query_router.specs.Desk.{DeskValue}
use Rattle.script_form.specs.declared.script.Command.{Command}
use Rattle.script_form.specs.declared.script.Command.TheVariants as script
use Rattle.core_pages.specs.volap_cell.specs.{Errands.way_of, Setting.Setting, Steps.history_in, Values.{ActorValue, ErrandValue, actor_of}, World.World, declared.actor.Actor.Actor, declared.command.Command.Command as OpenCommand, declared.kind.Kind.Kind, declared.role.Role.Role}
use Rattle.core_pages.specs.volap_cell.specs.declared.kind.Kind.TheVariants as kind
use Rattle.core_pages.specs.volap_cell.specs.declared.role.Role.TheVariants as role
use Rattle.core_pages.specs.volap_cell.proofs.Cells.States.{same-actor, stands}
use Rattle.core_due.proofs.Released.{reuse-told}
use Rattle.core_due.specs.{Due.desk_of, Look.world_by, Reuses.reuse_due, Wants.is_carried_at}
use Rattle.core_told.specs.Told.{is_of_part}
use Rattle.seeded_run.specs.{Commands.may_begin, Due.{due, free_kind, is_alone, next_kind}, DueSteps.due_step, Machine.{BeginsNow, HasLeftOver, HasTurned, IsDueNow, IsDueStep, IsPhaseHeld, IsPhaseKept, TakesTurn, about_in, next_at, phase_of, step_in, world_of}, Rests.{first_open, rest_of}, Steps.{begins_by, begins_of_one, is_for_part}, Takes.{AsksHere, carries_at, free_by}, declared.turn.DueStep.TheVariants.{Begins, Reuses}, declared.machine.Running.Running}
use Rattle.seeded_run.proofs.{Cursors.Held.{none-past, rest-none, rest-some}, Due.DueReuses.over-step, Due.DueSteps.{begins-apart, kind-of}, Holding.LeftAlone.{and-both, apart, at-command, both-parts, is-idle, off-part, or-true, same-or-not, true-or}, Phases.Movers.all-from, Phases.PhaseRuns.script, Seen.world-seen}

may-of : (actors : List (Option Actor)) (n : ℕ) (k : Kind) → begins_by actors n k ≡ true → may_begin k ≡ true
may-of actors n k = by (get_or actors n None)
  where
    by : (o : Option Actor) → begins_of_one o k ≡ true → may_begin k ≡ true
    by None e = cc
    by (Some a) e = (both-parts (is_none (actor_of a).command) (may_begin k) e).1

-- a kind by which a command may begin is of no part
pub no-part : (actors : List (Option Actor)) (n : ℕ) (errand : Option ErrandValue) (due_kind k : Kind) → begins_by actors n due_kind ≡ true → is_for_part errand due_kind ≡ true → is_of_part k ≡ true
no-part actors n errand due_kind k begins part = apart (is_for_part errand due_kind) part (off-part errand due_kind (begins-apart due_kind (may-of actors n due_kind begins)))

none-next : (h : List Dimension) (alone : Bool) (desk : Option DeskValue) (rest : List Command) (k : Kind) {X : Type 0} → rest ≡ [] → next_kind h alone desk rest ≡ Some k → X
none-next h alone desk [] k none e = cc
none-next h alone desk (c ∷ more) k none e = cc

free-none : (s : Setting) (w : World) (alone : Bool) (rest : List Command) (r : Role) (k : Kind) → rest ≡ [] → free_kind s w alone rest r ≡ Some k → may_begin k ≡ false
free-none s w alone rest (role.Hand worker) k none e = by _ e
  where
    by : (b : Bool) → (if b then Some kind.TakePart else None) ≡ Some k → may_begin k ≡ false
    by true e = (let same : kind.TakePart ≡ k = cc in ap may_begin (sym same))
    by false e = cc
free-none s w alone rest (role.Session server) k none e = none-next s.hierarchy alone (desk_of s w (role.Session server)) rest k none e
free-none s w alone rest role.Puller k none e = none-next s.hierarchy alone (desk_of s w role.Puller) rest k none e
free-none s w alone rest role.Admin k none e = none-next s.hierarchy alone (desk_of s w role.Admin) rest k none e

module _ (m : Running) (kept : IsPhaseKept m) (n : ℕ) where
  -- where a command may begin, there is a next one
  pub begins-next : (k : Kind) → IsDueNow m n k → n < length m.state.actors.items → begins_by m.state.actors.items n k ≡ true → slice_get m.phase.now (next_at m n) ≡ None → ⊥
  begins-next k now_due within begins none =
      let s = about_in m in
      let w = world_of m in
      let rest = rest_of (phase_of m) (history_in w) in
      let a = stands (get_or m.state.actors.items n None) (λ x. actor_of x ≡ w.actors n) (kept.core.is.actor n within) in
      let both = both-parts (is_none (actor_of a.0).command) (may_begin k) (sym (ap (λ o. begins_of_one o k) a.1) ∙ begins) in
      let free : (w.actors n).command ≡ None = sym (ap (λ (x : ActorValue). x.command) a.2) ∙ none-is (actor_of a.0).command both.0 in
      let at = at-command s w rest n k now_due.due_is (off-part (w.actors n).errand k (begins-apart k both.1)) in
      apart (may_begin k) both.1 (free-none s w (is_alone s w rest n) (rest n) (w.actors n).role k (rest-none m kept n (none-past m.phase.now (next_at m n) none)) (at.free free))
    where
      none-is : (o : Option OpenCommand) → is_none o ≡ true → o ≡ None
      none-is None is = refl
      none-is (Some c) is = cc

  -- a query is next for a session
  pub asks-ahead : n < length m.state.actors.items → AsksHere (get_or m.state.actors.items n None) (slice_get m.phase.now (next_at m n))
  asks-ahead within = by (slice_get m.phase.now (next_at m n)) refl
    where
      by : (o : Option Command) → slice_get m.phase.now (next_at m n) ≡ o → AsksHere (get_or m.state.actors.items n None) o
      by (Some (script.Query question)) at =
          let run = script m.in_order (about_in m) (phase_of m) (world_of m) kept.core.inv.ghost_of _ kept.core.inv.holds kept.is_running in
          let rest = rest-some m kept n (script.Query question) at in
          let who = run.asks n question rest.0 rest.1 in
          let a = stands (get_or m.state.actors.items n None) (λ x. actor_of x ≡ (world_of m).actors n) (kept.core.is.actor n within) in
          subst (λ o. AsksHere o (Some (script.Query question))) (sym a.1) (who.0, ap (λ (x : ActorValue). x.role) a.2 ∙ who.1)
      by None at = none (get_or m.state.actors.items n None)
        where
          none : (o : Option Actor) → AsksHere o None
          none None = tt
          none (Some a) = tt
      by (Some (script.Insert new)) at = none (get_or m.state.actors.items n None)
        where
          none : (o : Option Actor) → AsksHere o (Some (script.Insert new))
          none None = tt
          none (Some a) = tt
      by (Some (script.Control called)) at = none (get_or m.state.actors.items n None)
        where
          none : (o : Option Actor) → AsksHere o (Some (script.Control called))
          none None = tt
          none (Some a) = tt
      by (Some (script.Group dim level filter)) at = none (get_or m.state.actors.items n None)
        where
          none : (o : Option Actor) → AsksHere o (Some (script.Group dim level filter))
          none None = tt
          none (Some a) = tt

-- What an actor does on its turn.
module _ (m : Running) (kept : IsPhaseKept m) (n : ℕ) (within : n < length m.state.actors.items) where
  begins-seen : (k : Kind) → begins_by m.state.actors.items n k ≡ (is_none ((world_of m).actors n).command && may_begin k)
  begins-seen k =
      let a = stands (get_or m.state.actors.items n None) (λ x. actor_of x ≡ (world_of m).actors n) (kept.core.is.actor n within) in
      ap (λ o. begins_of_one o k) a.1 ∙ ap (λ (x : ActorValue). is_none x.command && may_begin k) a.2

  -- it begins its next command
  pub begins-now : IsDueStep m n Begins → BeginsNow m n
  begins-now due =
      let k = kind-of m.in_order (about_in m) (phase_of m) (world_of m) n Begins kept.core.inv due.is in
      record {
        kind = k.0;
        due = record { due_is = k.1; can = k.2 };
        begins = begins-seen k.0 ∙ and-both (is_none ((world_of m).actors n).command) (may_begin k.0) (ap is_none (k.3).0) (k.3).1;
      }

-- Where the commands go in order, nobody but the actor of the first one carries a row.
pub alone-carries : (m : Running) → IsPhaseHeld m → (n : ℕ) → m.in_order ≡ true → m.first ≡ Some n → (block : ℕ) → free_by m.state.actors.items n block ≡ true
alone-carries m held n order first block = all-from (length m.state.actors.items) _ (λ a low. elim (same-or-not a n) [
  | inl is ↦ true-or (a == n) (not (carries_at (get_or m.state.actors.items a None) block)) (eq-eqb a n is)
  | inr differs ↦ or-true (a == n) (not (carries_at (get_or m.state.actors.items a None) block)) (rests a low differs)
])
  where
    opened : first_open (phase_of m) (history_in (world_of m)) ≡ Some n
    opened = held.first order ∙ first

    other : (a : ℕ) → a ≢ n → first_open (phase_of m) (history_in (world_of m)) ≢ Some a
    other a differs is = differs (some-same (sym is ∙ opened))
      where
        some-same : ◌≡◌ {A = Option ℕ} (Some a) (Some n) → a ≡ n
        some-same e = cc

    rests : (a : ℕ) → a < length m.state.actors.items → a ≢ n → not (carries_at (get_or m.state.actors.items a None) block) ≡ true
    rests a low differs =
        let x = stands (get_or m.state.actors.items a None) (λ y. actor_of y ≡ (world_of m).actors a) (held.kept.core.is.actor a low) in
        let idle = is-idle ((world_of m).actors a) (held.kept.is_running.idle order a (other a differs)) in
        ap (λ o. not (carries_at o block)) x.1
        ∙ ap (λ (y : ActorValue). not (is_carried_at block (way_of y.errand))) x.2
        ∙ ap (λ e. not (is_carried_at block (way_of e))) idle.errand

-- Where they do and all are over, everybody is idle, and what an actor does is seen in the cells.
pub over-seen : (m : Running) → IsPhaseHeld m → (n : ℕ) → m.in_order ≡ true → m.first ≡ None → (a : Actor) → get_or m.state.actors.items n None ≡ Some a
    → step_in m n ≡ option_map Reuses (reuse_due (world_by m.state.cells.items) (actor_of a))
over-seen m held n order over a at =
    let s = about_in m in
    let w = world_of m in
    let core = held.kept.core in
    let opened : first_open (phase_of m) (history_in w) ≡ None = held.first order ∙ over in
    let idle = is-idle (w.actors n) (held.kept.is_running.idle order n (λ some. none-some (sym opened ∙ some))) in
    ap (λ b. due_step b s (phase_of m) w n) order
    ∙ over-step s w n idle (phase_of m) opened
    ∙ ap (option_map Reuses)
    (ap (reuse_due w) (same-actor m.state.cells.items m.state.actors.items w n a core.is at) ∙ reuse-told w (actor_of a)
    ∙ ap (λ (v : World). reuse_due v (actor_of a)) (world-seen m.h.now m.with m.state.cells.items m.state.actors.items s w core))
  where
    none-some : ◌≡◌ {A = Option ℕ} None (Some n) → ⊥
    none-some e = cc

-- What a turn was it is still when it is known whose the first command is.
pub turned-then : (m mid now : Running) (n : ℕ) → HasTurned m n mid → now ≡ record mid { begun = now.begun; first = now.first; hands = now.hands } → TakesTurn m n now
turned-then m mid now n turned same =
    let t = turned.turn in
    subst (λ (x : Running). TakesTurn m n x) (sym same)
    (record {
      same = record { h = t.same.h; with = t.same.with; phase = t.same.phase; in_order = t.same.in_order; before = t.same.before; count = t.same.count };
      about = t.about;
      is = t.is;
      turn = t.turn;
    })

pub less-then : (m mid now : Running) (n : ℕ) → HasTurned m n mid → now ≡ record mid { begun = now.begun; first = now.first; hands = now.hands } → (most : ℕ) → HasLeftOver m most → (most_now : ℕ) × HasLeftOver now most_now × (most_now < most)
less-then m mid now n turned same most has =
    let less = turned.left most has in
    (less.0, subst (λ (x : Running). HasLeftOver x less.0) (sym same) (record { core = less.1.core }), less.2)
