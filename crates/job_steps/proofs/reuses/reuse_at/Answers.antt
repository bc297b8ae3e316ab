use Rattle.std.proofs.Common.{◌≡◌, ◌∙◌, [], None, Some, sym, ap, subst}
use Rattle.job_steps.proofs.{Arms.gave-back, Reusing.{between-since, listed-within}}
use Rattle.job_steps.specs.Reuses.{IsReleasedAt, last_gone}
use Rattle.seat_steps.proofs.{Since.{looked, unchanged, unchanged-on}, WithLedger.first-there}
use Rattle.seat_steps.specs.{Floors.IsSeated, Looks.Sees, declared.floor.Player.Player}
use Rattle.seat_steps.specs.volap_turns.specs.Rows.{IsThere}
use Rattle.job_steps.proofs.reuses.reuse_at.Goals as goal

pub take_first-requires-clause-no_part : goal.take_first-requires-clause-no_part
take_first-requires-clause-no_part g c = c.requires.between.no_part

pub take_first-requires-clause-cell : goal.take_first-requires-clause-cell
take_first-requires-clause-cell g c = listed-within c.args.floor.now c.args.player.now c.requires.between c.requires.stands.seated c.args.gate c.requires.listed

pub is_released_at-requires-clause-held : goal.is_released_at-requires-clause-held
is_released_at-requires-clause-held g c = first-there c.args.floor.now c.take_first.new.player c.take_first.ensures.seated c.args.gate 2 [] c.take_first.ensures.ranks

pub returns-then-not-is_released_at-clause-none : goal.returns-then-not-is_released_at-clause-none
returns-then-not-is_released_at-clause-none g c = gave-back c.args.floor.now (looked (unchanged c.take_first.ensures.took.same) c.is_released_at.ensures.same) c.give_all.ensures.stands c.give_all.ensures.gave

pub returns-then-not-is_released_at-clause-in_use : goal.returns-then-not-is_released_at-clause-in_use
returns-then-not-is_released_at-clause-in_use g c p same = record {
  mid = c.take_first.new.player;
  same = unchanged-on same (unchanged c.take_first.ensures.took.same);
  seated = c.take_first.ensures.seated;
  there = first-there c.args.floor.now c.take_first.new.player c.take_first.ensures.seated c.args.gate 2 [] c.take_first.ensures.ranks;
  in_use = λ d e. sym (c.is_released_at.ensures.seen d e) ∙ c.if-not-is_released_at.true;
}

pub last_gone_at-requires-clause-seated : goal.last_gone_at-requires-clause-seated
last_gone_at-requires-clause-seated g c = subst (IsSeated c.args.floor.now) (sym c.is_released_at.ensures.same) c.take_first.ensures.seated

pub last_gone_at-requires-clause-held : goal.last_gone_at-requires-clause-held
last_gone_at-requires-clause-held g c =
    subst (λ (p : Player). IsThere p.seat.view.held c.args.gate) (sym c.is_released_at.ensures.same)
    (first-there c.args.floor.now c.take_first.new.player c.take_first.ensures.seated c.args.gate 2 [] c.take_first.ensures.ranks)

pub reuse_block-requires-clause-seated : goal.reuse_block-requires-clause-seated
reuse_block-requires-clause-seated g c = subst (IsSeated c.args.floor.now) (sym (c.last_gone_at.ensures.same ∙ c.is_released_at.ensures.same)) c.take_first.ensures.seated

pub reuse_block-requires-clause-between : goal.reuse_block-requires-clause-between
reuse_block-requires-clause-between g c = between-since (looked (unchanged c.take_first.ensures.took.same) (c.last_gone_at.ensures.same ∙ c.is_released_at.ensures.same)) c.requires.between

pub reuse_block-requires-clause-held : goal.reuse_block-requires-clause-held
reuse_block-requires-clause-held g c = ap (λ (p : Player). p.seat.ranks) (c.last_gone_at.ensures.same ∙ c.is_released_at.ensures.same) ∙ c.take_first.ensures.ranks

pub reuse_block-requires-clause-released : goal.reuse_block-requires-clause-released
reuse_block-requires-clause-released g c =
    let there = first-there c.args.floor.now c.take_first.new.player c.take_first.ensures.seated c.args.gate 2 [] c.take_first.ensures.ranks in
    let seen = subst (λ (p : Player). Sees p c.args.gate (λ cell. c.last_gone_at.result ≡ last_gone cell)) c.is_released_at.ensures.same c.last_gone_at.ensures.seen in
    subst (λ (p : Player). IsReleasedAt p c.args.gate (Some c.in-Some.block)) (sym (c.last_gone_at.ensures.same ∙ c.is_released_at.ensures.same)) (record {
      there = there;
      released = λ d e. sym (c.is_released_at.ensures.seen d e) ∙ c.if-not-is_released_at.false;
      last_is = λ d e. sym c.in-Some.is ∙ seen d e;
    })

pub reuse_gate-requires-clause-seated : goal.reuse_gate-requires-clause-seated
reuse_gate-requires-clause-seated g c = subst (IsSeated c.args.floor.now) (sym (c.last_gone_at.ensures.same ∙ c.is_released_at.ensures.same)) c.take_first.ensures.seated

pub reuse_gate-requires-clause-between : goal.reuse_gate-requires-clause-between
reuse_gate-requires-clause-between g c = between-since (looked (unchanged c.take_first.ensures.took.same) (c.last_gone_at.ensures.same ∙ c.is_released_at.ensures.same)) c.requires.between

pub reuse_gate-requires-clause-held : goal.reuse_gate-requires-clause-held
reuse_gate-requires-clause-held g c = ap (λ (p : Player). p.seat.ranks) (c.last_gone_at.ensures.same ∙ c.is_released_at.ensures.same) ∙ c.take_first.ensures.ranks

pub reuse_gate-requires-clause-released : goal.reuse_gate-requires-clause-released
reuse_gate-requires-clause-released g c =
    let there = first-there c.args.floor.now c.take_first.new.player c.take_first.ensures.seated c.args.gate 2 [] c.take_first.ensures.ranks in
    let seen = subst (λ (p : Player). Sees p c.args.gate (λ cell. c.last_gone_at.result ≡ last_gone cell)) c.is_released_at.ensures.same c.last_gone_at.ensures.seen in
    subst (λ (p : Player). IsReleasedAt p c.args.gate None) (sym (c.last_gone_at.ensures.same ∙ c.is_released_at.ensures.same)) (record {
      there = there;
      released = λ d e. sym (c.is_released_at.ensures.seen d e) ∙ c.if-not-is_released_at.false;
      last_is = λ d e. sym c.in-None.is ∙ seen d e;
    })

pub returns-in-Some-clause-some : goal.returns-in-Some-clause-some
returns-in-Some-clause-some g c p same = c.reuse_block.ensures.reused p (looked (unchanged-on same (unchanged c.take_first.ensures.took.same)) (c.last_gone_at.ensures.same ∙ c.is_released_at.ensures.same))

pub returns-in-None-clause-some : goal.returns-in-None-clause-some
returns-in-None-clause-some g c p same = c.reuse_gate.ensures.reused p (looked (unchanged-on same (unchanged c.take_first.ensures.took.same)) (c.last_gone_at.ensures.same ∙ c.is_released_at.ensures.same))
