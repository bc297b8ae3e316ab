use Rattle.std.proofs.Common.{ℕ, ◌≡◌, ◌+◌, ◌*◌, ap, subst}
use Rattle.volap_cell.proofs.FirstState.Filled.{first-stock, was-taken}
use Rattle.volap_cell.proofs.opening.first_stock.Goals as goal

pub returns : goal.returns
returns c =
    first-stock c.args.first c.args.cells c.args.workers c.in_ok-stock.stock c.take.new.self c.shard_ids.new.self c.reserve.new.self c.take.new.purse c.requires.enough c.in_ok-stock.ensures
    (was-taken c.args.first c.args.cells c.args.workers (2 * c.from-count.result) c.in_ok-stock.stock c.take.new.self c.reserve.new.self c.take.new.purse c.take.result c.requires.enough (ap (λ (k : ℕ). 2 * k) c.from-count.ensures) c.in_ok-stock.ensures c.take.ensures.none c.take.ensures.some)
    (subst (λ (k : ℕ). c.shard_ids.new.self ≡ record c.take.new.self { ids = c.take.new.self.ids + k }) c.from.ensures c.shard_ids.ensures.next)
    c.free.ensures.valid
