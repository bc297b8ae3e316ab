use Rattle.std.proofs.Common.{◌∙◌, List, inl, sym, ap, subst}
use Rattle.actor_run.proofs.{CursorOpen.no-answer, Ends.{query-open, query-stopped}, Sessions.{as-before, can-begin, refused-later}}
use Rattle.dim_hierarchy.specs.{Filter.IsFilterNamed, declared.filter.Pick.Pick}
use Rattle.whole_steps.specs.session_steps.specs.Begins.{HasAsked}
use Rattle.whole_steps.specs.volap_cell.specs.Values.{ActorValue}
use Rattle.actor_run.proofs.gates.begin_with.Goals as goal

pub ask-requires-clause-stands : goal.ask-requires-clause-stands
ask-requires-clause-stands g c = c.requires.session.1.stands

pub ask-requires-clause-begins : goal.ask-requires-clause-begins
ask-requires-clause-begins g c = can-begin c.args.floor.now c.requires.session.0 c.args.player.now c.requires.session.1

pub refuse-requires : goal.refuse-requires
refuse-requires g c = record { session = (c.requires.session.0, (as-before c.args.floor.now c.requires.session.0 c.args.player.now c.requires.session.1 c.ask.new.player c.in_default.ensures.same).session) }

pub go_to_gate-requires : goal.go_to_gate-requires
go_to_gate-requires g c =
    let has = c.in-Some.ensures.begun in
    record {
      since = query-open c.args.floor.now c.requires.session.0 c.args.player.now c.ask.new.player c.requires.session.1 c.in-Some.of c.args.filter has;
      query = (c.in-Some.of, ap (λ (x : ActorValue). x.command) has.actor);
      unvisited = inl (ap (λ (x : ActorValue). x.errand) has.actor ∙ c.requires.session.1.free.errand);
    }

pub returns-in_default : goal.returns-in_default
returns-in_default g c =
    let f = c.args.floor.now in
    let was = c.args.player.now in
    record {
      begun = tt;
      refused = λ names server s. (
          let before = as-before f server was s c.ask.new.player c.in_default.ensures.same in
          query-stopped f server was c.refuse.new.player c.refuse.result names (refused-later c.refuse.result f server was c.ask.new.player c.refuse.new.player before (c.refuse.ensures.does server before.session))
          );
      no_answer = no-answer;
      seen = c.refuse.ensures.seen;
    }

pub returns : goal.returns
returns g c =
    let f = c.args.floor.now in
    let was = c.args.player.now in
    let same = sym c.of-copy.ensures in
    record {
      begun = λ names named. record {
        named = subst (IsFilterNamed f.hierarchy names) same named;
        start = c.ask.new.player;
        asked = subst (λ (l : List Pick). HasAsked f c.in-Some.of l was c.ask.new.player) same c.in-Some.ensures.begun;
        since = c.go_to_gate.ensures.since;
        unvisited = c.go_to_gate.ensures.unvisited;
      };
      refused = tt;
      no_answer = tt;
      seen = tt;
    }
