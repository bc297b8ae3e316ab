use Rattle.std.proofs.Common.{◌∙◌, sym, ap}
use Rattle.call_steps.proofs.{OpenCalls.{call-done, call-opened, open-still, pulled-on}, Syncing.{may-end, may-fail, may-pull}}
use Rattle.call_steps.specs.Opened.{IsCallOpen}
use Rattle.row_ledger.specs.declared.settings.{Call.TheVariants.Sync, How.TheVariants.{Fine, NoMemory}}
use Rattle.session_steps.specs.volap_cell.specs.Values.{ActorValue}
use Rattle.session_steps.specs.volap_turns.proofs.Turned.{when-err, when-ok}
use Rattle.call_steps.proofs.syncs.sync.Goals as goal

pub pull-requires-clause-stands : goal.pull-requires-clause-stands
pull-requires-clause-stands g c = c.in-Ok.ensures.begun.pushed.stands

pub pull-requires-clause-pulls : goal.pull-requires-clause-pulls
pull-requires-clause-pulls g c = may-pull c.args.floor.now c.args.server c.in-Ok.of c.args.player.now c.begin_call.new.player c.requires.begins c.in-Ok.ensures.begun

pub end_call-requires-clause-ends : goal.end_call-requires-clause-ends
end_call-requires-clause-ends g c =
    may-end c.args.floor.now c.args.server c.in-Ok.of c.args.player.now c.begin_call.new.player c.requires.begins c.in-Ok.ensures.begun c.pull.new.player
    (when-ok c.pull.result c.pull.ensures.pulled (sym c.is_ok.ensures.value ∙ c.if-is_ok.true))

pub end_call-requires-else-is_ok-clause-ends : goal.end_call-requires-else-is_ok-clause-ends
end_call-requires-else-is_ok-clause-ends g c =
    may-fail c.args.floor.now c.args.server c.in-Ok.of c.args.player.now c.begin_call.new.player c.requires.begins c.in-Ok.ensures.begun c.pull.new.player
    (when-err c.pull.result c.pull.ensures.same (sym c.is_ok.ensures.value ∙ c.if-is_ok.false))

pub returns-then-is_ok : goal.returns-then-is_ok
returns-then-is_ok g c =
    let f = c.args.floor.now in
    let start = c.args.player.now in
    let call = Sync c.args.server in
    let pulled = when-ok c.pull.result c.pull.ensures.pulled (sym c.is_ok.ensures.value ∙ c.if-is_ok.true) in
    let called : IsCallOpen f c.in-Ok.of call start c.begin_call.new.player = call-opened f c.in-Ok.of call start c.begin_call.new.player c.requires.stands.seated c.in-Ok.ensures.begun in
    let on = pulled-on f c.in-Ok.of call start c.begin_call.new.player called c.args.server c.pull.new.player pulled in
    record {
      synced = call-done f c.in-Ok.of call start c.pull.new.player on Fine c.end_call.new.player c.end_call.ensures.ended;
      purse = ap (λ (a : ActorValue). a.purse) c.end_call.ensures.ended.actor ∙ ap (λ (a : ActorValue). a.purse) pulled.actor ∙ ap (λ (a : ActorValue). a.purse) c.in-Ok.ensures.begun.actor;
    }

pub returns : goal.returns
returns g c =
    let f = c.args.floor.now in
    let start = c.args.player.now in
    let call = Sync c.args.server in
    let same = when-err c.pull.result c.pull.ensures.same (sym c.is_ok.ensures.value ∙ c.if-is_ok.false) in
    let called : IsCallOpen f c.in-Ok.of call start c.begin_call.new.player = call-opened f c.in-Ok.of call start c.begin_call.new.player c.requires.stands.seated c.in-Ok.ensures.begun in
    let on = open-still f c.in-Ok.of call start c.begin_call.new.player c.pull.new.player called same in
    record {
      synced = call-done f c.in-Ok.of call start c.pull.new.player on NoMemory c.end_call-else-is_ok.new.player c.end_call-else-is_ok.ensures.ended;
      purse = ap (λ (a : ActorValue). a.purse) c.end_call-else-is_ok.ensures.ended.actor ∙ ap (λ (a : ActorValue). a.purse) same.actor ∙ ap (λ (a : ActorValue). a.purse) c.in-Ok.ensures.begun.actor;
    }
