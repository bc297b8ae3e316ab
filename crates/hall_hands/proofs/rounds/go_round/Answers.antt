use Rattle.std.proofs.Common.{◌∙◌, refl, subst, sym, arith}
use Rattle.hall_hands.proofs.Rounding.{gone-none, idle-still, nobody-next, served-on, somebody}
use Rattle.hand_steps.specs.declared.hands.Found.TheVariants as found
use Rattle.hand_steps.specs.seat_steps.specs.{Floors.Stands, declared.floor.Floor.Floor}
use Rattle.hall_hands.proofs.rounds.go_round.Goals as goal
use Rattle.hall_hands.proofs.rounds.go_round.Goals.{in-Part, in-Nothing, in-NoSession}

pub loop-server-init : goal.loop-server-init
loop-server-init g c = (
  gone-none c.floor-floor.result.now c.args.player.now (subst (λ (f : Floor). Stands f c.args.player.now) (sym c.floor-floor.ensures) c.requires.stands),
  λ e server low. absurd (omega (arith, low)),
)

pub serve_desk-requires-clause-stands : goal.serve_desk-requires-clause-stands
serve_desk-requires-clause-stands g c _ _ = c.loop-server.invariant.0.stands

pub serve_desk-requires-clause-idle : goal.serve_desk-requires-clause-idle
serve_desk-requires-clause-idle g c _ _ = idle-still c.floor-floor.result.now c.args.player.now c.loop-server.player c.loop-server.invariant.0 c.requires.idle

pub loop-server-preserved : goal.loop-server-preserved
loop-server-preserved g c =
    let f = c.floor-floor.result.now in
    let start = c.args.player.now in
    let was = c.loop-server.player in
    let on = c.loop-server.invariant.0 in
    let server = c.loop-server.server in
    let now = c.serve_desk.new.player in
    elim c.match-serve_desk.branch [
      | in-Part w ↦ somebody f start was on server found.Part now w.in-Part.ensures.served c.match-serve_desk.nobody w.nobody-is
      | in-Nothing w ↦ somebody f start was on server found.Nothing now w.in-Nothing.ensures.served c.match-serve_desk.nobody w.nobody-is
      | in-NoSession w ↦ (
        served-on f start was on server found.NoSession now w.in-NoSession.ensures.served,
        λ e. nobody-next f start was on server found.NoSession now w.in-NoSession.ensures.served refl (c.loop-server.invariant.1 (sym w.nobody-is ∙ e)),
      )
    ]
