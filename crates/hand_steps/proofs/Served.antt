-- A hand with its part, from where it took it until it is done.
use Rattle.std.proofs.Common.{◌≡◌, ◌∙◌, ℕ, true, false, [], Option, Some, None, is_some, option_map, refl, sym, ap}
use Rattle.hand_steps.specs.Hands.{HasDonePart, HasServed, HasTakenPart, NoneCounted}
use Rattle.hand_steps.specs.declared.hands.Found.{Found}
use Rattle.hand_steps.specs.declared.hands.Found.TheVariants as found
use Rattle.session_steps.specs.part_steps.specs.Goings.{WentOn}
use Rattle.session_steps.specs.seat_steps.proofs.Since.{extends-on}
use Rattle.session_steps.specs.seat_steps.specs.{Booked.IsAsBefore, Floors.Stands, declared.floor.{Floor.Floor, Player.Player}}
use Rattle.session_steps.specs.Coming.{HasEmptied}
use Rattle.turn_table.proofs.Numbered.{starts_self}
use Rattle.turn_table.specs.Numbered.{Extends}
use Rattle.session_steps.specs.volap_cell.specs.{ImageKinds.IsFree, Values.{ActorValue, actor_of, errand_of}}

-- The actor has gone on with its part from there.
pub record IsAtPartSince (f : Floor) (start now : Player) : Type 0 where
  pub stands : Stands f now
  pub number : now.number ≡ start.number
  pub actor : actor_of now.actor ≡ record (actor_of start.actor) { errand = (actor_of now.actor).errand; purse = (actor_of now.actor).purse; boxes = (actor_of now.actor).boxes }
  pub seen : Extends now.seat.view.seen start.seat.view.seen

pub at-start : (f : Floor) (p : Player) → Stands f p → IsAtPartSince f p p
at-start f p stands = record { stands = stands; number = refl; actor = refl; seen = starts_self p.seat.view.seen }

module _ (f : Floor) (start was : Player) (at : IsAtPartSince f start was) where
  pub went-since : (now : Player) → WentOn f was now → IsAtPartSince f start now
  went-since now went = record {
    stands = went.stands;
    number = went.number ∙ at.number;
    actor = went.beside ∙ ap (λ (a : ActorValue). record a { errand = (actor_of now.actor).errand; purse = (actor_of now.actor).purse; boxes = (actor_of now.actor).boxes }) at.actor;
    seen = extends-on now.seat.view.seen was.seat.view.seen start.seat.view.seen went.seen at.seen;
  }

  -- at no part it does nothing
  pub free-since : (actor_of start.actor).command ≡ None → (actor_of start.actor).job ≡ None → (actor_of was.actor).errand ≡ None → IsFree (actor_of was.actor)
  free-since command job none = record { command = ap (λ (a : ActorValue). a.command) at.actor ∙ command; errand = none; job = ap (λ (a : ActorValue). a.job) at.actor ∙ job }

  pub done-since : (now : Player) → (actor_of was.actor).errand ≡ None → HasEmptied f was now → HasDonePart f start now
  done-since now none emptied = record {
    stands = emptied.stands;
    number = emptied.number ∙ at.number;
    actor = emptied.actor ∙ (λ i. record (at.actor i) { errand = none i; purse = []; boxes = sym (ap (λ (a : ActorValue). a.boxes) emptied.actor) i });
    seen = extends-on now.seat.view.seen was.seat.view.seen start.seat.view.seen emptied.seen at.seen;
  }

-- A desk.

pub served-part : (f : Floor) (server : ℕ) (was mid now : Player) → (actor_of was.actor).errand ≡ None → HasTakenPart f was mid → HasDonePart f mid now → HasServed f server found.Part was now
served-part f server was mid now free took done = record {
  stands = done.stands;
  number = done.number ∙ took.number;
  actor = done.actor ∙ (λ i. record (took.actor i) { errand = sym free i; purse = sym (ap (λ (a : ActorValue). a.purse) done.actor) i; boxes = (actor_of now.actor).boxes });
  purse = λ before. ap (λ (a : ActorValue). a.purse) done.actor;
  seen = extends-on now.seat.view.seen mid.seat.view.seen was.seat.view.seen done.seen took.seen;
  none = λ e. absurd (cc);
}

pub served-none : (f : Floor) (server : ℕ) (r : Found) (was now : Player) → IsAsBefore f was now → (r ≡ found.NoSession → NoneCounted f server was.number was.seat.view.seen now.seat.view.seen) → HasServed f server r was now
served-none f server r was now same none = record {
  stands = same.stands;
  number = same.number;
  actor = same.actor ∙ (λ i. record (actor_of was.actor) { purse = sym (ap (λ (a : ActorValue). a.purse) same.actor) i; boxes = sym (ap (λ (a : ActorValue). a.boxes) same.actor) i });
  purse = λ before. ap (λ (a : ActorValue). a.purse) same.actor ∙ before;
  seen = same.seen;
  none = none;
}

-- Whether an actor is at a part.

mapped : {A B : Type 0} (f : A → B) (o : Option A) → is_some (option_map f o) ≡ is_some o
mapped f None = refl
mapped f (Some x) = refl

pub at-part : (p : Player) → is_some p.actor.errand ≡ true → is_some (actor_of p.actor).errand ≡ true
at-part p some = mapped errand_of p.actor.errand ∙ some

pub at-none : (p : Player) → is_some p.actor.errand ≡ false → (actor_of p.actor).errand ≡ None
at-none p none = by errand_of p.actor.errand none
  where
    by : {A B : Type 0} (f : A → B) (o : Option A) → is_some o ≡ false → option_map f o ≡ None
    by f None e = refl
    by f (Some x) e = absurd (cc)
