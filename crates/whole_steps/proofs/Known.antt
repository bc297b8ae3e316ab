-- The seat that has all actors and knows each cell: what it knows is the state, whichever the seat may be in.
use Rattle.std.proofs.{Common.{◌≡◌, ◌≢◌, ◌∙◌, ℕ, ◌<◌, ◌≤◌, List, None, inl, inr, sym, ap, subst, arith}, lemmas.Bool.{cases_lt, le-ltb, lt-ltb}}
use Rattle.std.specs.Prelude.{is_some}
use mathlib.Core.Logic.{dite}
use mathlib.Core.Option.{none, some}
use native.Mathlib.Decide.{ℕ_discrete}
use Rattle.atomic_table.specs.Seated.{TableId}
use Rattle.core_pages.specs.{Looks.{HasCells, IsActorOf, IsSeenOf, IsValid, cells_in, or_free}, Seen.IsQuietIn}
use Rattle.row_ledger.specs.declared.{event.Event.Event, page.Page.Page}
use Rattle.call_steps.specs.seat_steps.specs.declared.floor.{Floor.Floor, Player.Player}
use Rattle.turn_table.proofs.Numbered.{below_length, some_or_none}
use Rattle.turn_table.specs.{Law.sight, Numbered.value_of, Seat.{SeatValue, cell_count}}
use Rattle.core_pages.specs.volap_cell.specs.{Cells.{cell_of}, Opening.IsFresh, Setting.Setting, Sights.{IsIdle, Sees}, Steps.Inv, Values.{ActorValue, actor_of}, World.World, declared.actor.Actor.Actor, declared.cell.Cell.Cell}
use Rattle.core_pages.specs.volap_cell.specs.Setting as setting
use Rattle.call_steps.specs.volap_turns.proofs.Known.{about, seen-of}
use Rattle.call_steps.specs.volap_turns.specs.{Rule.{HasEvery, IsSeen}}
use Rattle.whole_steps.proofs.{Alone.everyone-of, Turned.{turned-self, within-table}}
use Rattle.whole_steps.specs.{Commands.IsPageIn, Seats.{HasEveryone, HasTurned, KnowsAll, if_some, state_at}, Sole.{CanSeeThen, IsSole}}

fresh-idle : (s : Setting) (a : ℕ) (x : ActorValue) → IsFresh s a x → IsIdle x
fresh-idle s a x fresh = record { command = fresh.command; errand = fresh.errand; job = fresh.job; purse = fresh.purse; counted = fresh.counted }

module _ (t : TableId) (was : SeatValue Cell Actor Event) (everyone : HasEveryone t was) where
  -- past the last cell nothing is known, and past the last actor there is none

  pub cell-none : (y : ℕ) → cell_count t ≤ y → value_of was.view.known y ≡ none
  cell-none y ge = elim (some_or_none (value_of was.view.known y)) [
    | inl k ↦ (let low = within-table everyone y k in absurd (omega (arith, low, ge)))
    | inr n ↦ n
  ]

  actor-none : (a : ℕ) → was.view.actor_count ≤ a → value_of was.view.actors a ≡ none
  actor-none a ge = elim (some_or_none (value_of was.view.actors a)) [
    | inl k ↦ (let can = everyone.possible in
        let low = below_length can.actors a k.0 (can.agrees.own a k.0 k.1) in
        let count = can.actor_count in absurd (omega (arith, low, ge, count)))
    | inr n ↦ n
  ]

  -- an actor of what is seen is the seat's
  pub actor-of : (w : World) → IsSeenOf (state_at was) w → (a : ℕ) (x : Actor) → value_of was.view.actors a ≡ some x → w.actors a ≡ actor_of x
  actor-of w seen a x e = sym (subst (λ o. IsActorOf (if_some actor_of o) a (w.actors a)) e (seen.actors a))

  pub actor-past : (w : World) → IsSeenOf (state_at was) w → (a : ℕ) → was.view.actor_count ≤ a → IsFresh (w.actors a).setting a (w.actors a)
  actor-past w seen a ge = subst (λ o. IsActorOf (if_some actor_of o) a (w.actors a)) (actor-none a ge) (seen.actors a)

  module _ (knows : KnowsAll t was) where
    pub has-cells : HasCells (cell_count t) (state_at was)
    has-cells y = elim (cases_lt y (cell_count t)) [
      | inl low ↦ (let k = knows y low in ap (λ o. is_some (if_some cell_of o)) k.1 ∙ sym (lt-ltb y (cell_count t) low))
      | inr ge ↦ ap (λ o. is_some (if_some cell_of o)) (cell-none y ge) ∙ sym (le-ltb y (cell_count t) ge)
    ]

    -- whatever turns are taken, what is seen then is that
    module _ (now : SeatValue Cell Actor Event) (turned : HasTurned was now) (w : World) (seen : IsSeen (sight now.view) w) where
      every-now : HasEvery (sight now.view)
      every-now j low =
          let it = everyone.every j (subst (λ (n : ℕ). j < n) turned.actor_count low) in
          (it.0, ap (λ (l : List (ℕ × Actor)). value_of l j) turned.actors ∙ it.1)

      cell-seen : (y : ℕ) → cells_in (state_at was) y ≡ w.cells y
      cell-seen y = elim (cases_lt y (cell_count t)) [
        | inl low ↦ (let k = knows y low in ap (λ o. or_free (if_some cell_of o)) k.1 ∙ sym (seen.known every-now y k.0 (turned.known y k.0 k.1)))
        | inr ge ↦ ap (λ o. or_free (if_some cell_of o)) (cell-none y ge) ∙ sym (seen.beyond y (subst (λ (n : ℕ). n ≤ y) (sym (turned.cell_count ∙ everyone.wide)) ge))
      ]

      actor-seen : (a : ℕ) → IsActorOf (if_some actor_of (value_of was.view.actors a)) a (w.actors a)
      actor-seen a = elim (cases_lt a was.view.actor_count) [
        | inl low ↦ (let it = everyone.every a low in
            subst (λ o. IsActorOf (if_some actor_of o) a (w.actors a)) (sym it.1) (sym (seen.mine a it.0 (ap (λ (l : List (ℕ × Actor)). value_of l a) turned.actors ∙ it.1))))
        | inr ge ↦ subst (λ o. IsActorOf (if_some actor_of o) a (w.actors a)) (sym (actor-none a ge)) (seen.others a (subst (λ (n : ℕ). n ≤ a) (sym turned.actor_count) ge))
      ]

      pub seen-then : IsSeenOf (state_at was) w
      seen-then = record { cells = λ k y. cell-seen y k; actors = actor-seen }

module _ (f : Floor) (p : Player) (sole : IsSole f p) where
  everyone : HasEveryone f.table p.seat
  everyone = everyone-of f p sole

  -- everyone else is idle in what is seen
  pub idle-else : (w : World) → IsSeenOf (state_at p.seat) w → (a : ℕ) → a ≢ p.number → IsIdle (w.actors a)
  idle-else w seen a ne = elim (cases_lt a p.seat.view.actor_count) [
    | inl low ↦ (let it = sole.every a low in subst IsIdle (sym (actor-of f.table p.seat everyone w seen a it.0 it.1)) (sole.others a it.0 ne it.1))
    | inr ge ↦ fresh-idle (w.actors a).setting a (w.actors a) (actor-past f.table p.seat everyone w seen a ge)
  ]

  pub me-in : (w : World) → IsSeenOf (state_at p.seat) w → w.actors p.number ≡ actor_of p.actor
  me-in w seen = actor-of f.table p.seat everyone w seen p.number sole.holds.one.last sole.holds.one.has ∙ sole.holds.one.same

  -- so what is seen is about what the actor is
  pub about-in : (s : Setting) (w : World) → IsSeenOf (state_at p.seat) w → Inv s w → s ≡ (actor_of p.actor).setting
  about-in s w seen inv = sym (inv.holds.numbering.about p.number) ∙ ap (λ (a : ActorValue). a.setting) (me-in w seen)

  pub quiet-in : (actor_of p.actor).errand ≡ None → IsQuietIn f.with.servers (state_at p.seat)
  quiet-in no_part s w seen inv = record {
    servers_are = ap (λ (x : Setting). x.servers) (about-in s w seen inv) ∙ sole.servers;
    quiet = λ a. dite (ℕ_discrete a p.number)
        (λ (same : a ≡ p.number). ap (λ (i : ℕ). (w.actors i).errand) same ∙ ap (λ (x : ActorValue). x.errand) (me-in w seen) ∙ no_part)
        (λ (ne : a ≢ p.number). (idle-else w seen a ne).errand);
  }

  module _ (knows : KnowsAll f.table p.seat) where
    pub seen-self : IsSeenOf (state_at p.seat) sole.holds.possible.valid.world
    seen-self = seen-then f.table p.seat everyone knows p.seat (turned-self p.seat) sole.holds.possible.valid.world (seen-of sole.holds.one sole.holds.possible)

    pub valid-in : IsValid f.hierarchy (state_at p.seat)
    valid-in = record {
      setting = sole.holds.possible.valid.setting;
      hierarchy = about sole.holds.one sole.holds.possible;
      world = sole.holds.possible.valid.world;
      is = seen-self;
      inv = sole.holds.possible.valid.inv;
    }

    -- and a page of it may be shown
    pub sees-page : (shown : Page) → IsPageIn f.hierarchy (state_at p.seat) shown → CanSeeThen f.hierarchy p (λ s w n. Sees s w n shown)
    sees-page shown page now turned s w about inv seen =
        let at = seen-then f.table p.seat everyone knows now turned w seen in
        record { alone = idle-else w at; page = page s w about at inv }
