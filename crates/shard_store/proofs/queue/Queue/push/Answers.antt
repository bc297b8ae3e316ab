use Rattle.std.proofs.{Common.{◌≡◌, arith}, lemmas.Int.to_z-of_z}
use Rattle.measure_agg.specs.Joining.{join, one}
use Rattle.shard_store.proofs.queue.Queue.push.Goals as goal

pub returns-clause-ok : goal.returns-clause-ok
returns-clause-ok c =
    let q = c.args.self.now in
    let summary = c.laws.ensures.push q.rows c.args.row.now q.agg q.set c.grow.new.self c.requires.row c.grow.ensures.grown c.requires.queue.summary in
    let total : c.join-self.result ≡ join q.agg (one c.args.row.now.measures) = grind (arith, to_z-of_z) in
    record {
      rows = c.in_ok-push.ensures.ok;
      queue = record {
        summary = rw (c.in_ok-push.ensures.ok, total) summary;
        valid = c.grow.ensures.valid;
      };
    }
