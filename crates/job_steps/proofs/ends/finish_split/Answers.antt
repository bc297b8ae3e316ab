use Rattle.std.proofs.Common.{◌≡◌, ◌∙◌, Some, None, refl, sym, ap, subst}
use Rattle.seat_steps.specs.core_due.specs.Spares.{last_spare, spare_before}
use Rattle.job_steps.proofs.Dues.{IsOpenAt, open-at, split-due, split-instead, splits}
use Rattle.job_steps.specs.{Dues.IsToFinish, Jobs.{CameTo, HasJobOpen}}
use Rattle.list_words.proofs.Elements.{Some-same}
use Rattle.seat_steps.specs.{Floors.Stands, declared.floor.Player.Player}
use Rattle.seat_steps.specs.volap_cell.specs.Values.{ActorValue, JobValue, actor_of}
use Rattle.job_steps.proofs.ends.finish_split.Goals as goal

pub split-requires-clause-stands : goal.split-requires-clause-stands
split-requires-clause-stands g c = subst (Stands c.args.floor.now) (sym c.spares_of-last.ensures.same) c.requires.stands

pub split-requires-clause-opened : goal.split-requires-clause-opened
split-requires-clause-opened g c = subst HasJobOpen (sym c.spares_of-last.ensures.same) c.requires.at.opened

pub split-requires-clause-splits : goal.split-requires-clause-splits
split-requires-clause-splits g c x is =
    let f = c.args.floor.now in
    let p = c.args.player.now in
    let laws = c.works_can_be_made.ensures in
    let k = c.requires.finishes in
    let none = splits laws.asked laws.prepared f p (open-at c.requires.at) c.args.map c.args.gate None k refl in
    let is_job : (actor_of p.actor).job ≡ Some x = ap (λ (q : Player). (actor_of q.actor).job) (sym c.spares_of-last.ensures.same) ∙ is in
    let same : x ≡ k.job = Some-same k.job x (sym k.has.is_job ∙ is_job) in
    ap (λ (y : JobValue). y.to) same ∙ none

pub split-requires-clause-due : goal.split-requires-clause-due
split-requires-clause-due g c q number actor =
    let f = c.args.floor.now in
    let p = c.args.player.now in
    let laws = c.works_can_be_made.ensures in
    let same : actor_of q.actor ≡ actor_of p.actor = actor ∙ ap (λ (y : Player). actor_of y.actor) c.spares_of-last.ensures.same in
    let purse = ap (λ (x : ActorValue). x.purse) same in
    split-due laws.asked laws.prepared f q (subst (IsOpenAt f) (sym same) (open-at c.requires.at)) c.args.map c.args.gate None
    (subst (λ (x : ActorValue). IsToFinish f x c.args.map c.args.gate None) (sym same) c.requires.finishes) refl c.in-Some.left c.in-Some-before.right
    (ap last_spare purse ∙ sym c.spares_of-last.ensures.last ∙ c.in-Some.is) (ap spare_before purse ∙ sym c.spares_of-last.ensures.before ∙ c.in-Some-before.is)

pub split-requires-clause-instead : goal.split-requires-clause-instead
split-requires-clause-instead g c q number actor =
    let f = c.args.floor.now in
    let p = c.args.player.now in
    let laws = c.works_can_be_made.ensures in
    let same : actor_of q.actor ≡ actor_of p.actor = actor ∙ ap (λ (y : Player). actor_of y.actor) c.spares_of-last.ensures.same in
    split-instead laws.asked laws.prepared f q (subst (IsOpenAt f) (sym same) (open-at c.requires.at)) c.args.map c.args.gate None
    (subst (λ (x : ActorValue). IsToFinish f x c.args.map c.args.gate None) (sym same) c.requires.finishes) refl

pub returns : goal.returns
returns g c = record { came = subst (λ (x : Player). CameTo c.args.floor.now c.split.result x c.split.new.player) c.spares_of-last.ensures.same c.split.ensures.came }
