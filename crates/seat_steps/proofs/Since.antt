-- What a step with the ledger comes to, told since an earlier time at which the actor was the same.
use Rattle.std.proofs.{Common.{◌≡◌, ◌∙◌, ℕ, ◌<◌, ◌≤◌, ◌==◌, Bool, true, false, List, [], ◌∷◌, ◌++◌, length, Option, Some, None, Result, Ok, Err, refl, sym, ap, subst, inl, inr, arith, eqb-true, append_assoc, length-append}, lemmas.Bool.cases_lt}
use Rattle.std.specs.{Option.option_map_or, Prelude.{OnErr, OnOk, option_and_then}}
use Rattle.row_ledger.proofs.Positions.{event_at-here, event_at-older, event_at-past}
use Rattle.row_ledger.specs.{Past.{event_at, session_in}, declared.event.Event.Event}
use Rattle.script_run.proofs.PlaceFacts.{begins_of-other}
use Rattle.script_run.specs.Places.{begins_in, begins_of}
use Rattle.seat_steps.proofs.{Around.bare-held, HeldLedger.PushesBy}
use Rattle.seat_steps.specs.{Booked.{HasBooked, HasPushed, IsAsBefore, IsUnchanged}, Floors.{Stands, kept_by, kept_on}, Takes.IsSameActor, declared.floor.{Floor.Floor, Player.Player}}
use Rattle.turn_table.proofs.Numbered.{starts_self}
use Rattle.turn_table.specs.Numbered.{Extends}
use Rattle.core_due.specs.volap_cell.specs.{Cells.CellValue, Errands.way_of, Setting.Setting, Values.{ActorValue, actor_of}, World.World, declared.actor.Actor.Actor, declared.kind.Kind.Kind}

-- What is known where a step went.

pub map-ok : {T E : Type 0} (r : Result T E) {P Q : Type 0} → (P → Q) → OnOk r P → OnOk r Q
map-ok (Ok x) f p = f p
map-ok (Err x) f p = tt

pub map-err : {T E : Type 0} (r : Result T E) {P Q : Type 0} → (P → Q) → OnErr r P → OnErr r Q
map-err (Ok x) f p = tt
map-err (Err x) f p = f p

pub as-err : {T E : Type 0} (r : Result T E) {P : Type 0} → P → OnErr r P
as-err (Ok x) p = tt
as-err (Err x) p = p

-- The same actor.

pub extends-on : {A : Type 0} (xs ys zs : List A) → Extends xs ys → Extends ys zs → Extends xs zs
extends-on xs ys zs a b = (a.0 ++ b.0, a.1 ∙ ap (λ l. a.0 ++ l) b.1 ∙ sym (append_assoc a.0 b.0 zs))

abbrev pub unchanged : {was now : Player} → IsSameActor was now → IsUnchanged was now
unchanged same = record { number = same.number; actor = ap actor_of same.actor; went = ap (λ (a : Actor). a.went) same.actor; seen = same.seen }

pub still-unchanged : (p : Player) → IsUnchanged p p
still-unchanged p = record { number = refl; actor = refl; went = refl; seen = starts_self p.seat.view.seen }

abbrev pub unchanged-on : {p q r : Player} → IsUnchanged p q → IsUnchanged q r → IsUnchanged p r
unchanged-on {p} {q} {r} a b = record { number = b.number ∙ a.number; actor = b.actor ∙ a.actor; went = b.went ∙ a.went; seen = extends-on r.seat.view.seen q.seat.view.seen p.seat.view.seen b.seen a.seen }

abbrev pub looked : {p was now : Player} → IsUnchanged p was → now ≡ was → IsUnchanged p now
looked {p} same e = subst (IsUnchanged p) (sym e) same

abbrev pub before-unchanged : {f : Floor} {was now : Player} → IsAsBefore f was now → IsUnchanged was now
before-unchanged same = record { number = same.number; actor = same.actor; went = same.went; seen = same.seen }

pub as-before : (f : Floor) {was now : Player} → Stands f now → IsUnchanged was now → IsAsBefore f was now
as-before f stands same = record { stands = stands; number = same.number; actor = same.actor; went = same.went; seen = same.seen }

-- so it is where a step found no memory
pub refused-unchanged : {T E : Type 0} (r : Result T E) (was now : Player) → OnErr r (now.number ≡ was.number) → OnErr r (actor_of now.actor ≡ actor_of was.actor) → OnErr r (now.actor.went ≡ was.actor.went) → OnErr r (now.seat.view.seen ≡ was.seat.view.seen) → OnErr r (IsUnchanged was now)
refused-unchanged (Ok x) was now number actor went seen = tt
refused-unchanged (Err x) was now number actor went seen = record { number = number; actor = actor; went = went; seen = subst (λ l. Extends l was.seat.view.seen) (sym seen) (starts_self was.seat.view.seen) }

-- An actor at no part keeps nothing between its steps.

none-kept : (a : ActorValue) → a.errand ≡ None → kept_by a ≡ []
none-kept a none = ap (λ o. kept_on (way_of o)) none

pub nothing-told : {f : Floor} {p : Player} → Stands f p → (actor_of p.actor).errand ≡ None → p.seat.ranks ≡ []
nothing-told {f} {p} stands none = stands.bare ∙ none-kept (actor_of p.actor) none

pub nothing-held : {f : Floor} {p : Player} → Stands f p → (actor_of p.actor).errand ≡ None → p.seat.view.held ≡ []
nothing-held {f} {p} stands none = bare-held f p stands (none-kept (actor_of p.actor) none)

-- Beginnings in the history.

-- whether a session is that of an event
is-one : (o : Option ℕ) (n : ℕ) → option_map_or (λ s. s == n) o false ≡ true → o ≡ Some n
is-one None n e = absurd (cc)
is-one (Some k) n e = ap Some (eqb-true k n e)

older : (n noted : ℕ) (was : List Event) (e : Event) (es : List Event) → ((q : ℕ) → option_and_then session_in (event_at (e ∷ es ++ was) q) ≡ Some n → q < noted)
    → (q : ℕ) → option_and_then session_in (event_at (es ++ was) q) ≡ Some n → q < noted
older n noted was e es f q is = elim (cases_lt q (length (es ++ was))) [
  | inl low ↦ f q (ap (λ o. option_and_then session_in o) (event_at-older e (es ++ was) q low) ∙ is)
  | inr high ↦ (let none : None ≡ Some n = sym (ap (λ o. option_and_then session_in o) (event_at-past (es ++ was) q high)) ∙ is in absurd (cc))
]

newest : (n noted : ℕ) (was : List Event) (e : Event) (es : List Event) → ((q : ℕ) → option_and_then session_in (event_at (e ∷ es ++ was) q) ≡ Some n → q < noted) → begins_of (es ++ was) n ≡ begins_of was n
    → noted ≤ length was → begins_of (e ∷ es ++ was) n ≡ begins_of was n
newest n noted was e es f rest few = by (begins_in n e) refl
  where
    by : (b : Bool) → begins_in n e ≡ b → begins_of (e ∷ es ++ was) n ≡ begins_of was n
    by true begins = absurd (
        let here = f (length (es ++ was)) (ap (λ o. option_and_then session_in o) (event_at-here e (es ++ was)) ∙ is-one (session_in e) n begins) in
        let long = length-append es was in omega arith
        )
    by false other = begins_of-other e (es ++ was) n other ∙ rest

-- of the beginnings of an actor that has noted all of them there is none behind what it had seen then
pub nothing-new : (n noted : ℕ) (now was : List Event) → Extends now was → ((q : ℕ) → option_and_then session_in (event_at now q) ≡ Some n → q < noted) → noted ≤ length was → begins_of now n ≡ begins_of was n
nothing-new n noted now was longer last few = ap (λ l. begins_of l n) longer.1 ∙ go longer.0 (λ q e. last q (ap (λ l. option_and_then session_in (event_at l q)) longer.1 ∙ e))
  where
    go : (newer : List Event) → ((q : ℕ) → option_and_then session_in (event_at (newer ++ was) q) ≡ Some n → q < noted) → begins_of (newer ++ was) n ≡ begins_of was n
    go [] f = refl
    go (e ∷ es) f = newest n noted was e es f (go es (λ q is. older n noted was e es f q is)) few

-- Steps with the ledger.

module _ {f : Floor} {kind : Kind} {See : Setting → World → ℕ → Type 0} {Tells : ActorValue → (was now : List (Option CellValue)) → Type 0} {row : List (Option ℕ)} (p : Player) {was now : Player} (same : IsUnchanged p was) (booked : HasBooked f kind See Tells row was now) where
  -- what was held when the step was made
  abbrev mid : Player
  mid = booked.mid

  pub mid-same : IsUnchanged p booked.mid
  mid-same = unchanged-on same (unchanged booked.took.same)

  pub number-since : now.number ≡ p.number
  number-since = booked.made.number ∙ mid-same.number

  pub none-since : (actor_of p.actor).seen ≤ length p.seat.view.seen → begins_of (booked.mid).seat.view.seen p.number ≡ begins_of p.seat.view.seen p.number
  none-since few = nothing-new p.number (actor_of p.actor).seen (booked.mid).seat.view.seen p.seat.view.seen mid-same.seen
      (λ q e. subst (λ (a : ActorValue). q < a.seen) same.actor (booked.noted q (e ∙ ap Some (sym same.number)))) few

  -- the event is pushed
  abbrev pub pushed-since : (event_of : ActorValue → ℕ → Event) → PushesBy event_of booked.mid now → (actor_of p.actor).seen ≤ length p.seat.view.seen → HasPushed f event_of p now
  pushed-since event_of by few = record {
    stands = booked.stands;
    number = number-since;
    older = (booked.mid).seat.view.seen;
    behind = mid-same.seen;
    now_is = by ∙ ap (λ (a : ActorValue). event_of a (length (booked.mid).seat.view.seen) ∷ (booked.mid).seat.view.seen) mid-same.actor;
    only = none-since few;
    right = booked.right;
  }
