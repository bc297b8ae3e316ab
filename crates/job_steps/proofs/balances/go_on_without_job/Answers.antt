use Rattle.std.proofs.Common.{◌∙◌, Option, IsSome, refl, sym, ap, subst}
use Rattle.job_steps.proofs.{Arms.still-before, Dues.{balance-ends, open-at}}
use Rattle.row_ledger.specs.declared.settings.{Decline.TheVariants.Unknown, How.How, How.TheVariants.Declined}
use Rattle.seat_steps.specs.volap_cell.specs.{Commands.{EndsJob, MayNoteEnd}, ImageKinds.doing, Values.{JobValue, actor_of}, declared.command.{Command.Command, Work.Work}}
use Rattle.job_steps.proofs.balances.go_on_without_job.Goals as goal

pub there-requires : goal.there-requires
there-requires g c = subst (λ (o : Option Command). IsSome o) (sym c.requires.at.opened.command) refl

pub returns-in-Action : goal.returns-in-Action
returns-in-Action g c =
    let f = c.args.floor.now in
    let r = c.there.result.now in
    record {
      came = record {
        same = still-before c.requires.stands;
        of = r.of;
        work = r.work;
        command = c.there.ensures;
        ends = subst (λ (k : Work). MayNoteEnd f.with.servers k (actor_of c.args.player.now.actor).job (Declined Unknown)) (sym c.in-Action.is) (subst (λ (o : Option JobValue). EndsJob o (Declined Unknown)) (sym c.requires.no_job) refl);
      };
    }

pub returns-then-not-is_none : goal.returns-then-not-is_none
returns-then-not-is_none g c =
    let f = c.args.floor.now in
    let p = c.args.player.now in
    let r = c.there.result.now in
    let laws = c.works_can_be_made.ensures in
    let command = c.there.ensures ∙ ap (λ (k : Work). doing r.of k) c.in-Balance.is in
    let e = balance-ends laws.asked laws.prepared f p (open-at c.requires.at) r.of c.in-Balance.balance command c.requires.no_job (sym c.is_none.ensures ∙ c.if-not-is_none.true) c.requires.stands.seated in
    record {
      came = record {
        same = still-before c.requires.stands;
        of = e.1;
        work = e.0;
        command = e.2;
        ends = subst (λ (h : How). MayNoteEnd f.with.servers e.0 (actor_of p.actor).job h) (sym c.end_of.ensures) e.3;
      };
    }
