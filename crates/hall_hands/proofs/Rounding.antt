-- A hand on its round: desk by desk it does nothing again, and what it found at each desk was so since it began.
use Rattle.std.proofs.{Common.{◌≡◌, ◌∙◌, ℕ, ◌+◌, Bool, true, false, List, refl, sym, ap, subst, inl, inr, arith}, lemmas.Bool.cases_lt}
use Rattle.hall_hands.specs.Rounds.{HasFoundNobody, HasGoneOn, NobodyBelow}
use Rattle.hand_steps.specs.Hands.{HasServed, IsIdleHand, NoneCounted}
use Rattle.hand_steps.specs.declared.hands.Found.{Found}
use Rattle.hand_steps.specs.declared.hands.Found.TheVariants as found
use Rattle.row_ledger.specs.declared.event.Event.{Event}
use Rattle.hand_steps.specs.seat_steps.proofs.Since.{extends-on}
use Rattle.hand_steps.specs.seat_steps.specs.{Floors.Stands, declared.floor.{Floor.Floor, Player.Player}}
use Rattle.turn_table.proofs.Numbered.{starts_self}
use Rattle.turn_table.specs.Numbered.{Extends}
use Rattle.hand_steps.specs.volap_cell.specs.Values.{ActorValue, actor_of}

-- what was so between two times was so between an earlier and a later one
pub counted-within : (f : Floor) (server number : ℕ) (first past now last : List Event) → NoneCounted f server number past now → Extends past first → Extends last now → NoneCounted f server number first last
counted-within f server number first past now last none before after = record {
  there = none.there;
  seated = none.seated;
  number_is = none.number_is;
  desk = none.desk;
  held = none.held;
  none = none.none;
  since = extends-on none.there.seat.view.seen past first none.since before;
  before = extends-on last now none.there.seat.view.seen after none.before;
}

pub gone-none : (f : Floor) (p : Player) → Stands f p → HasGoneOn f p p
gone-none f p stands = record { stands = stands; number = refl; actor = refl; purse = λ e. e; seen = starts_self p.seat.view.seen }

module _ (f : Floor) (start was : Player) (on : HasGoneOn f start was) where
  -- it does nothing still
  pub idle-still : IsIdleHand start → IsIdleHand was
  idle-still idle = record {
    worker = idle.worker;
    role = ap (λ (a : ActorValue). a.role) on.actor ∙ idle.role;
    free = record { command = ap (λ (a : ActorValue). a.command) on.actor ∙ idle.free.command; errand = ap (λ (a : ActorValue). a.errand) on.actor ∙ idle.free.errand; job = ap (λ (a : ActorValue). a.job) on.actor ∙ idle.free.job };
  }

  pub gone-on : (now : Player) → HasGoneOn f was now → HasGoneOn f start now
  gone-on now then = record {
    stands = then.stands;
    number = then.number ∙ on.number;
    actor = then.actor ∙ ap (λ (a : ActorValue). record a { purse = (actor_of now.actor).purse; boxes = (actor_of now.actor).boxes }) on.actor;
    purse = λ e. then.purse (on.purse e);
    seen = extends-on now.seat.view.seen was.seat.view.seen start.seat.view.seen then.seen on.seen;
  }

  module _ (server : ℕ) (r : Found) (now : Player) (served : HasServed f server r was now) where
    as-gone : HasGoneOn f was now
    as-gone = record { stands = served.stands; number = served.number; actor = served.actor; purse = served.purse; seen = served.seen }

    pub served-on : HasGoneOn f start now
    served-on = gone-on now as-gone

    -- where somebody was counted nothing is said of anybody
    pub somebody : (nobody : Bool) → nobody ≡ false → HasGoneOn f start now × (nobody ≡ true → NobodyBelow f (server + 1) start now)
    somebody nobody some = (served-on, λ e. (let never : false ≡ true = sym some ∙ e in absurd (cc)))

    -- at one desk more nobody was counted
    pub nobody-next : r ≡ found.NoSession → NobodyBelow f server start was → NobodyBelow f (server + 1) start now
    nobody-next none below k low = elim (cases_lt k server) [
      | inl less ↦ (let it = below k less in counted-within f k start.number start.seat.view.seen start.seat.view.seen was.seat.view.seen now.seat.view.seen it (starts_self start.seat.view.seen) served.seen)
      | inr more ↦ (
          let same : server ≡ k = omega (arith, low, more) in
          subst (λ (n : ℕ). NoneCounted f n start.number start.seat.view.seen now.seat.view.seen) same
          (subst (λ (n : ℕ). NoneCounted f server n start.seat.view.seen now.seat.view.seen) on.number
          (counted-within f server was.number start.seat.view.seen was.seat.view.seen now.seat.view.seen now.seat.view.seen (served.none none) on.seen (starts_self now.seat.view.seen)))
          )
    ]

  -- a later time at which nobody was found is one since the start
  pub nobody-since : (now : Player) → HasFoundNobody f was now → HasFoundNobody f start now
  nobody-since now then = record {
    on = gone-on now then.on;
    nobody = λ k low.
        subst (λ (n : ℕ). NoneCounted f k n start.seat.view.seen now.seat.view.seen) on.number
        (counted-within f k was.number start.seat.view.seen was.seat.view.seen now.seat.view.seen now.seat.view.seen (then.nobody k low) on.seen (starts_self now.seat.view.seen));
  }
