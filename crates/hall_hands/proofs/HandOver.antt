-- A pass becomes a hand, which serves, and a pass again.
use Rattle.std.proofs.Common.{◌≡◌, ◌∙◌, ℕ, ◌^◌, ◌<◌, ◌≤◌, List, length, Option, sym, ap, subst, arith}
use Rattle.std.proofs.lemmas.Option.{get_or_from_slice_get}
use Rattle.std.specs.List.{slice_index_or}
use Rattle.actor_run.proofs.{Chains.extends-length, PassAndSession.pass-stands}
use Rattle.atomic_table.specs.Seated.{TableId}
use Rattle.dim_hierarchy.specs.Dimension.{Dimension}
use Rattle.hall_hands.specs.{Hands.{HasServedAll, IsHand, hand_of}, Rounds.{HasFoundNobody}}
use Rattle.hand_steps.specs.Hands.{IsIdleHand}
use Rattle.script_run.specs.Places.{begins_of}
use Rattle.hand_steps.specs.seat_steps.proofs.Around.{around}
use Rattle.hand_steps.specs.seat_steps.specs.{Floors.{Stands, kept_on}, declared.floor.{Floor.Floor, Player.Player}}
use Rattle.hand_steps.specs.session_steps.proofs.Heard.{begun-nothing, right-seen}
use Rattle.hand_steps.specs.volap_cell.specs.{Errands.way_of, Numbering.IsRoleOf, Setting.actor_count, Sights.IsIdle, Values.{ActorValue, ErrandValue, actor_of}, declared.role.Role.TheVariants.Hand}
use Rattle.hand_steps.specs.volap_turns.specs.Seats.{Holds}

module _ (f : Floor) (worker : ℕ) (p : Player) (hand : IsHand f worker p) where
  pub hand-stands : Stands f p
  hand-stands = pass-stands f p hand.pass hand.own

  pub hand-idle : IsIdleHand p
  hand-idle = record { worker = worker; role = hand.role; free = record { command = hand.pass.idle.command; errand = hand.pass.idle.errand; job = hand.pass.idle.job } }

  -- its worker is there
  pub worker-there : worker < f.with.workers
  worker-there =
      let it = around f p hand-stands.seated in
      let i = it.2.inv.holds in
      let at : slice_index_or it.0.roles p.number (Hand worker) ≡ Hand worker =
      get_or_from_slice_get it.0.roles p.number (it.1.actors p.number).role (Hand worker) (i.numbering.role p.number it.2.there) ∙ ap (λ (a : ActorValue). a.role) it.2.actor ∙ hand.role in
      subst (λ (n : ℕ). worker < n) it.2.workers (subst (IsRoleOf it.0) at (i.numbering.setting.roles p.number (Hand worker) it.2.there))

  module _ (now : Player) (served : HasFoundNobody f p now) where
    -- nothing but its purse and its rooms is changed, and the purse is empty again
    at-end : actor_of now.actor ≡ record (actor_of p.actor) { boxes = (actor_of now.actor).boxes }
    at-end = served.on.actor ∙ (λ i. record (actor_of p.actor) { purse = (served.on.purse hand.pass.idle.purse ∙ sym hand.pass.idle.purse) i; boxes = (actor_of now.actor).boxes })

    pub hand-still : IsHand f worker now
    hand-still =
        let seated = served.on.stands.seated in
        let was = hand.pass in
        let idle : IsIdle (actor_of now.actor) = subst IsIdle (sym at-end) (record { command = was.idle.command; errand = was.idle.errand; job = was.idle.job; purse = was.idle.purse; counted = was.idle.counted }) in
        let longer = extends-length p.seat.view.seen now.seat.view.seen served.on.seen in
        let few : (actor_of p.actor).setting.servers ≤ length now.seat.view.seen = (let opened = was.right.opened in omega (arith, longer, opened)) in
        let noted : (actor_of p.actor).seen ≤ length now.seat.view.seen = (let before = was.noted in omega (arith, longer, before)) in
        record {
          pass = record {
            holds = subst (λ (x : TableId × List Dimension). Holds x.1 x.0 now.seat now.number now.actor) (λ i. (sym seated.holds.own i, sym seated.holds.one.about i)) seated.holds;
            bare = served.on.stands.bare ∙ ap (λ (o : Option ErrandValue). kept_on (way_of o)) idle.errand;
            alone = seated.alone;
            idle = idle;
            noted = subst (λ (a : ActorValue). a.seen ≤ length now.seat.view.seen) (sym at-end) noted;
            few = subst (λ (a : ActorValue). actor_count a.setting < 2 ^ 16) (sym at-end) was.few;
            right = right-seen f now seated (subst (λ (a : ActorValue). a.setting.servers ≤ length now.seat.view.seen) (sym at-end) few);
          };
          own = record { table = seated.holds.own; hierarchy = seated.holds.one.about; servers = seated.servers; workers = seated.workers };
          role = ap (λ (a : ActorValue). a.role) at-end ∙ hand.role;
        }

    pub hand-served : HasServedAll (hand_of f worker p) (hand_of f worker now)
    hand-served = record {
      same = λ i. record { floor = f; number = served.on.number i; worker = worker; seen = now.seat.view.seen };
      later = served.on.seen;
      begun = subst (λ (n : ℕ). begins_of now.seat.view.seen n ≡ begins_of p.seat.view.seen n) served.on.number
          (begun-nothing f now served.on.stands.seated p.seat.view.seen served.on.seen (subst (λ (a : ActorValue). a.seen ≤ length p.seat.view.seen) (sym at-end) hand.pass.noted));
      nobody = served.nobody;
    }
