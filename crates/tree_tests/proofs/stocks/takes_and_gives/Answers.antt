use Rattle.std.proofs.{Common.{◌≡◌, [], ◌++◌, ◌∙◌, sym, subst}, lemmas.List.append-nil}
use Rattle.cell_stock.specs.Stock.{StockValue, AreOut}
use Rattle.tree_tests.proofs.stocks.takes_and_gives.Goals as goal

pub give-requires : goal.give-requires
give-requires g c =
    let before : StockValue = c.in_ok-stock.stock in
    let empty : c.reserve.new.self.spares ≡ [] = c.reserve.ensures.spares ∙ c.new-purse.ensures in
    let out : AreOut before (c.reserve.new.self.spares ++ []) = subst (λ xs. AreOut before (xs ++ [])) (sym empty) (c.laws.ensures.none before c.free.ensures.valid) in
    rw append-nil at (c.laws.ensures.taken 4 before c.take.new.self c.reserve.new.self c.take.new.purse [] c.free.ensures.valid out c.in-Some.ensures.some)
