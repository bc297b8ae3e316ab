use Rattle.std.proofs.Common.{refl, rules}
use Rattle.shard_store.specs.Gate.{root_entry}
use Rattle.link_descent.proofs.Passes.{passes-in}
use Rattle.link_descent.proofs.descend.pass_root.Goals as goal

pub returns-clause-step : goal.returns-clause-step
returns-clause-step c =
    let gate = c.args.gate.now in
    passes-in c.args.h.now c.args.row.now gate (record gate { agg = c.join-gate.result; set = c.grow.new.self }) (record (root_entry gate) { agg = c.join-gate.result; set = c.grow.new.self })
    (record { child = refl; stamp = refl; agg = search rules; grown = c.grow.ensures.grown; valid = c.grow.ensures.valid }) refl
