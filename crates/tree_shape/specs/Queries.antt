-- What holds of an unfinished query between steps.
use Rattle.std.specs.Prelude.{ℕ, ◌≡◌, ◌≢◌, ◌+◌, ◌≤◌, Bool, true, List, map}
use Rattle.dim_hierarchy.specs.{Filter.matches, declared.filter.Pick.Pick}
use Rattle.dc_node.specs.declared.todo.Item.{Item}
use Rattle.list_words.specs.Counts.{Each, times}
use Rattle.tree_shape.specs.{Shape.{Table, Node, Shape}, Walks.{Noted, AreNoted, pending}}

-- Of a query that has counted some rows and noted some blocks of a tree. `must` tells which rows it has to hold, and
-- `fits` which ones its filter matches. A row is counted or beneath one noted block, not both, and not neither where it
-- must be held. Beneath a row that is still carried though it is counted nothing is noted: it will come down there.
pub record QueryOk (g : Shape) (look : ℕ → Node) (must fits : ℕ → Bool) (ps : List Noted) (counted : List ℕ) : Type 0 where
  pub noted : AreNoted g look ps
  pub blocks : (y : ℕ) → g.inside y ≡ true → pending g ps y ≤ 1
  pub distinct : (r : ℕ) → times r counted ≤ 1
  pub fitting : (r : ℕ) → 1 ≤ times r counted → fits r ≡ true
  pub once : (r : ℕ) → g.placed r ≡ true → times r counted + pending g ps (g.at r) ≤ 1
  pub whole : (r : ℕ) → g.placed r ≡ true → must r ≡ true → fits r ≡ true → 1 ≤ times r counted + pending g ps (g.at r)
  pub passed : (r : ℕ) → g.placed r ≡ true → g.carried r ≡ true → 1 ≤ times r counted
      → (y : ℕ) → g.inside y ≡ true → g.level y ≤ g.level (g.at r) → g.above y (g.level (g.at r)) ≡ g.at r → pending g ps y ≡ 0

-- the cell and the stamp of each noted block, as a query's list has them
abbrev pub items_of : List Noted → List Item
items_of ps = map (λ p. record { cell = p.cell; stamp = p.stamp }) ps

-- the same of a query's own list of noted blocks
pub record IsUnfinished (g : Shape) (look : ℕ → Node) (must fits : ℕ → Bool) (items : List Item) (counted : List ℕ) : Type 0 where
  pub noted : List Noted
  pub are : items_of noted ≡ items
  pub ok : QueryOk g look must fits noted counted

-- no noted block waits for this stamp
abbrev pub NoneWaits : ℕ → List Item → Type 0
NoneWaits stamp items = Each (λ i. i.stamp ≢ stamp) items

-- the rows that a filter matches, by their numbers
abbrev pub fits : Table → List Pick → ℕ → Bool
fits table f r = matches table.hierarchy f (table.row r).at
