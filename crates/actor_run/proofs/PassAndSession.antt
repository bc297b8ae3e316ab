-- A pass becomes a session when its server's desk counts it, and a session a pass when it is counted no more.
use Rattle.std.proofs.Common.{◌≡◌, ◌∙◌, ℕ, ◌^◌, ◌<◌, ◌≤◌, true, false, List, [], ◌++◌, length, Option, refl, sym, ap, subst, arith, length-append}
use Rattle.actor_run.specs.{Passes.{IsPass, IsPassOf, pass_of}, Sessions.{BecomesPass, IsPassFor, IsSession, IsSessionRole, session_of}}
use Rattle.atomic_table.specs.Seated.{TableId}
use Rattle.dim_hierarchy.specs.Dimension.{Dimension}
use Rattle.row_ledger.specs.declared.event.Event.{Event}
use Rattle.whole_steps.specs.seat_steps.specs.{Booked.IsAsBefore, Floors.{AreTold, Stands, kept_on}, declared.floor.{Floor.Floor, Player.Player}}
use Rattle.whole_steps.specs.session_steps.specs.Coming.{HasCome, HasEmptied, HasLeft, IsAtNothing}
use Rattle.script_run.specs.Places.{begins_of}
use Rattle.whole_steps.specs.session_steps.proofs.Heard.{begun-nothing, right-seen}
use Rattle.whole_steps.specs.seat_steps.proofs.Since.{extends-on}
use Rattle.turn_table.specs.Numbered.{Extends}
use Rattle.whole_steps.specs.volap_cell.specs.{Errands.way_of, ImageKinds.IsFree, Setting.actor_count, Sights.IsIdle, Values.{ActorValue, ErrandValue, actor_of}, declared.role.Role.TheVariants.Session}
use Rattle.whole_steps.specs.volap_turns.specs.Seats.{Holds}

-- what is seen later is no less
no-less : (was now : List Event) (n : ℕ) → Extends now was → n ≤ length was → n ≤ length now
no-less was now n more few =
    let long : length now ≡ length (more.0 ++ was) = ap (λ (l : List Event). length l) more.1 in
    let both = length-append more.0 was in
    omega (arith, long, both, few)

-- A pass.

module _ (f : Floor) (p : Player) (pass : IsPass p) where
  -- its actor stands at its seat
  pub pass-stands : IsPassOf f (pass_of p) → Stands f p
  pass-stands of = record {
    seated = record {
      holds = subst (λ (x : TableId × List Dimension). Holds x.1 x.0 p.seat p.number p.actor) (λ i. (of.table i, of.hierarchy i)) pass.holds;
      alone = pass.alone;
      servers = of.servers;
      workers = of.workers;
      kept = subst (λ (o : Option ErrandValue). AreTold p.seat.ranks (kept_on (way_of o))) (sym pass.idle.errand) tt;
    };
    bare = pass.bare ∙ ap (λ (o : Option ErrandValue). kept_on (way_of o)) (sym pass.idle.errand);
  }

  pub pass-nothing : IsSessionRole (pass_of p).role → IsAtNothing p
  pass-nothing role = record { server = role.0; role = role.1; free = record { command = pass.idle.command; errand = pass.idle.errand; job = pass.idle.job } }

  -- it has nothing to do when it has come, and has come still when it has seen more
  module _ (mid : Player) (come : HasCome f p mid) where
    pub come-free : IsFree (actor_of mid.actor)
    come-free = subst IsFree (sym come.actor) (record { command = pass.idle.command; errand = pass.idle.errand; job = pass.idle.job })

    pub come-heard : (now : Player) → IsAsBefore f mid now → HasCome f p now
    come-heard now heard = record {
      stands = heard.stands;
      number = heard.number ∙ come.number;
      actor = heard.actor ∙ come.actor;
      seen = extends-on now.seat.view.seen mid.seat.view.seen p.seat.view.seen heard.seen come.seen;
    }

  -- it is a session when it has come
  pub pass-session : (now : Player) (server : ℕ) → (actor_of p.actor).role ≡ Session server → HasCome f p now → IsSession f server now
  pass-session now server role come =
      let few = no-less p.seat.view.seen now.seat.view.seen (actor_of p.actor).setting.servers come.seen pass.right.opened in
      let noted = no-less p.seat.view.seen now.seat.view.seen (actor_of p.actor).seen come.seen pass.noted in
      record {
        stands = come.stands;
        role = ap (λ (a : ActorValue). a.role) come.actor ∙ role;
        free = subst IsFree (sym come.actor) (record { command = pass.idle.command; errand = pass.idle.errand; job = pass.idle.job });
        counted = ap (λ (a : ActorValue). a.counted) come.actor;
        alone = come.stands.seated.alone;
        noted = subst (λ (a : ActorValue). a.seen ≤ length now.seat.view.seen) (sym come.actor) noted;
        few = subst (λ (a : ActorValue). actor_count a.setting < 2 ^ 16) (sym come.actor) pass.few;
        right = right-seen f now come.stands.seated (subst (λ (a : ActorValue). a.setting.servers ≤ length now.seat.view.seen) (sym come.actor) few);
      }

  pub pass-for : (now : Player) (server : ℕ) → (actor_of p.actor).role ≡ Session server → HasCome f p now → IsPassFor f (pass_of p) (session_of f server now)
  pass-for now server role come = record {
    floor = refl;
    number = come.number;
    role = role;
    seen = come.seen;
    begun = subst (λ (n : ℕ). begins_of now.seat.view.seen n ≡ begins_of p.seat.view.seen n) come.number
        (begun-nothing f now come.stands.seated p.seat.view.seen come.seen (subst (λ (a : ActorValue). a.seen ≤ length p.seat.view.seen) (sym come.actor) pass.noted));
  }

-- A session.

module _ (f : Floor) (server : ℕ) (p : Player) (session : IsSession f server p) where
  module _ (mid : Player) (emptied : HasEmptied f p mid) where
    pub still-nothing : IsAtNothing mid
    still-nothing = record { server = server; role = ap (λ (a : ActorValue). a.role) emptied.actor ∙ session.role; free = subst IsFree (sym emptied.actor) (record { command = session.free.command; errand = session.free.errand; job = session.free.job }) }

    pub still-counted : (actor_of mid.actor).counted ≡ true
    still-counted = ap (λ (a : ActorValue). a.counted) emptied.actor ∙ session.counted

    module _ (now : Player) (left : HasLeft f mid now) where
      -- what it is in the end
      at-end : actor_of now.actor ≡ record (actor_of p.actor) { purse = []; counted = false }
      at-end = left.actor ∙ (λ i. record (emptied.actor i) { counted = false })

      later : Extends now.seat.view.seen p.seat.view.seen
      later = extends-on now.seat.view.seen mid.seat.view.seen p.seat.view.seen left.seen emptied.seen

      -- it is a pass again when it has left
      pub session-pass : IsPass now
      session-pass =
          let seated = left.stands.seated in
          let idle : IsIdle (actor_of now.actor) = subst IsIdle (sym at-end) (record { command = session.free.command; errand = session.free.errand; job = session.free.job; purse = refl; counted = refl }) in
          let few = no-less p.seat.view.seen now.seat.view.seen (actor_of p.actor).setting.servers later session.right.opened in
          let noted = no-less p.seat.view.seen now.seat.view.seen (actor_of p.actor).seen later session.noted in
          record {
            holds = subst (λ (x : TableId × List Dimension). Holds x.1 x.0 now.seat now.number now.actor) (λ i. (sym seated.holds.own i, sym seated.holds.one.about i)) seated.holds;
            bare = left.stands.bare ∙ ap (λ (o : Option ErrandValue). kept_on (way_of o)) idle.errand;
            alone = seated.alone;
            idle = idle;
            noted = subst (λ (a : ActorValue). a.seen ≤ length now.seat.view.seen) (sym at-end) noted;
            few = subst (λ (a : ActorValue). actor_count a.setting < 2 ^ 16) (sym at-end) session.few;
            right = right-seen f now seated (subst (λ (a : ActorValue). a.setting.servers ≤ length now.seat.view.seen) (sym at-end) few);
          }

      pub session-own : IsPassOf f (pass_of now)
      session-own = (let seated = left.stands.seated in record { table = seated.holds.own; hierarchy = seated.holds.one.about; servers = seated.servers; workers = seated.workers })

      pub session-made : BecomesPass (session_of f server p) (pass_of now)
      session-made = record {
        number = left.number ∙ emptied.number;
        role = ap (λ (a : ActorValue). a.role) at-end ∙ session.role;
        seen = later;
        begun = subst (λ (n : ℕ). begins_of now.seat.view.seen n ≡ begins_of p.seat.view.seen n) (left.number ∙ emptied.number)
            (begun-nothing f now left.stands.seated p.seat.view.seen later (subst (λ (a : ActorValue). a.seen ≤ length p.seat.view.seen) (sym at-end) session.noted));
      }
