-- All passes are in, at one seat that takes turns alone: all are in still, and nobody has begun anything.
use Rattle.std.proofs.Common.{◌≡◌, ◌∙◌, ◌<◌, List, [], Option, Some, ap, reverse, subst, sym}
use Rattle.std.proofs.lemmas.List.{reverse-reverse}
use Rattle.actor_run.proofs.Gathered.{begun-none, everyone-in, here-are, here-view, ledger-in, right-then, turned-are}
use Rattle.actor_run.specs.{Passes.{AreAllIn, ArePasses, IsAbout, IsPassesOf, PassesValue, in_seat, missing, passes_of}, Wholes.{HaveRested}}
use Rattle.atomic_table.specs.Seated.{TableId}
use Rattle.row_ledger.specs.{Right.IsRight, Site.Site, declared.event.Event.Event}
use Rattle.turn_table.specs.Seat.{SeatValue, cell_count}
use Rattle.whole_steps.specs.Seats.{HasEveryone, HasTurned}
use Rattle.whole_steps.specs.seat_steps.specs.declared.floor.Floor.{Floor}
use Rattle.whole_steps.specs.volap_cell.specs.{Setting.ledger_cell, Values.actor_of, declared.actor.Actor.Actor, declared.cell.Cell.Cell}

abbrev S : Type 0
S = SeatValue Cell Actor Event

-- what was seen then, the oldest first, is lent
rested-lent : {f : Floor} {was now : PassesValue} → HaveRested f was now → HaveRested f was (record was { seen = reverse (reverse now.seen) })
rested-lent {f} {was} {now} rested = subst (λ (l : List Event). HaveRested f was (record was { seen = l })) (sym (reverse-reverse now.seen)) (subst (HaveRested f was) rested.same rested)

module _ {s : S} {own : Actor} {actors : List (Option Actor)} (are : ArePasses s own actors) (all : missing 0 actors ≡ []) (f : Floor) (of : IsAbout f s.table_id (actor_of own).setting) where
  turned-rested : (t : S) → HasEveryone f.table t → HasTurned s t → HaveRested f (passes_of s own actors) (passes_of t own actors)
  turned-rested t everyone turned = record {
    own = subst (λ (z : TableId). IsAbout f z (actor_of own).setting) (sym turned.table) of;
    all = all;
    same = λ i. record (passes_of s own actors) { table = turned.table i; seen = t.view.seen };
    later = turned.seen;
    right = subst (λ (x : Site). IsRight x t.view.seen) (λ i. record { hierarchy = of.hierarchy i; servers = of.servers i; workers = of.workers i }) (right-then are all f of t everyone turned);
    none = begun-none are all f of t everyone turned;
  }

-- The seat of a hall's passes.

module _ {floor f : Floor} (is : floor ≡ f) {o : Option S} {s : S} (here : o ≡ Some s) (own : Actor) (actors : List (Option Actor)) (are : ArePasses (in_seat o) own actors) {v : PassesValue} (view : passes_of (in_seat o) own actors ≡ v) (mine : IsPassesOf f v) (in_all : AreAllIn v) where
  seat-are : ArePasses s own actors
  seat-are = here-are here own actors are

  seat-view : passes_of s own actors ≡ v
  seat-view = here-view here own actors view

  none-out : missing 0 actors ≡ []
  none-out = ap (λ (p : PassesValue). p.out) seat-view ∙ in_all

  seat-of : IsAbout floor s.table_id (actor_of own).setting
  seat-of = subst (λ (x : Floor × PassesValue). IsPassesOf x.0 x.1) (λ i. (sym is i, sym seat-view i)) mine

  pub passes-everyone : HasEveryone floor.table s
  passes-everyone = everyone-in seat-are none-out floor seat-of

  pub passes-ledger : ledger_cell < cell_count floor.table
  passes-ledger = ledger-in seat-are none-out floor seat-of

  pub passes-are : (t : S) → HasEveryone floor.table t → HasTurned s t → t.ranks ≡ [] → ArePasses t own actors
  passes-are = turned-are seat-are none-out floor seat-of

  pub passes-rested : (t : S) → HasEveryone floor.table t → HasTurned s t → HaveRested f v (passes_of t own actors)
  passes-rested t everyone turned = subst (λ (x : Floor × PassesValue). HaveRested x.0 x.1 (passes_of t own actors)) (λ i. (is i, seat-view i)) (turned-rested seat-are none-out floor seat-of t everyone turned)

  -- whatever they have seen then can be lent
  pub passes-lent : {asks : List Event → Type 0} → ((events : List Event) → HaveRested f v (record v { seen = reverse events }) → asks events) → (t : S) → HasEveryone floor.table t → HasTurned s t → asks (reverse t.view.seen)
  passes-lent asked t everyone turned = asked (reverse t.view.seen) (rested-lent (passes-rested t everyone turned))
