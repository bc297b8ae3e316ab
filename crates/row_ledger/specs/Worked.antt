-- A worked row: one dimension, geo, with the country de and in it the cities berlin and munich; two servers and two
-- workers; an insert of 5 at berlin, and a query for de through the same server.
use Rattle.std.specs.Prelude.{ℕ, pos, true, Some, None, List, [], ◌∷◌, codes}
use Rattle.std.specs.FinMap as map
use Rattle.dim_hierarchy.specs.{Dimension.Dimension, declared.filter.Pick.Pick, declared.filter.Pick.TheVariants.Ids, declared.row.Coord.Coord, declared.row.Row.Row}
use Rattle.measure_agg.specs.Aggregate.{Aggregate}
use Rattle.describing_set.specs.{Part.part, declared.listing.Spot.Spot, declared.set.DescSet.DescSet}
use Rattle.row_ledger.specs.{Site.Site, declared.event.Event.Event, declared.event.Event.TheVariants.{Synced, Begun, Acked, Asked, Answered, Failed, Called, Shown, Ended}, declared.page.NodeLine.NodeLine, declared.page.TreePage.TreePage, declared.settings.Call.TheVariants.Tree, declared.settings.How.TheVariants.Fine}
use Rattle.row_ledger.specs.declared.page.Page.TheVariants as page

abbrev pub de : ℕ
de = 0x10000000

abbrev pub berlin : ℕ
berlin = 0x20000000

abbrev pub munich : ℕ
munich = 0x20000001

abbrev pub geo : Dimension
geo = record {
  name = codes "geo";
  tree = (0 ∷ []) ∷ (0 ∷ []) ∷ (de ∷ de ∷ []) ∷ [];
  order = de ∷ berlin ∷ munich ∷ [];
  names = map.insert (map.insert (map.insert map.empty (codes "de") de) (codes "berlin") berlin) (codes "munich") munich;
}

abbrev pub site : Site
site = record { hierarchy = geo ∷ []; servers = 2; workers = 2 }

-- the set of these cities, and a shard that is listed with it

abbrev pub box : List ℕ → DescSet
box cities = record { parts = record { items = part 2 cities ∷ [] } }

abbrev pub spot : ℕ → ℕ → List ℕ → Spot
spot shard worker cities = record { shard = shard; worker = worker; set = box cities }

-- both servers pull the first shards, with empty boxes
abbrev pub first_listing : List Spot
first_listing = spot 0 0 [] ∷ spot 1 1 [] ∷ []

abbrev pub opened : List Event
opened = Synced 1 first_listing ∷ Synced 0 first_listing ∷ []

-- a row of 5 at berlin, which begins right behind that
abbrev pub in_city : ℕ → Coord
in_city city = record { at = city ∷ 0 ∷ 0 ∷ 0 ∷ 0 ∷ 0 ∷ 0 ∷ 0 ∷ [] }

abbrev pub row : Row
row = record { no = 2; at = in_city berlin; measures = pos 5 }

abbrev pub for_de : List Pick
for_de = Ids (de ∷ []) ∷ []

-- the answer that counts the row, one that counts it twice, and one that counts nothing

abbrev pub once : Aggregate
once = record { count = 1; sum = pos 5; least = Some (pos 5); greatest = Some (pos 5) }

abbrev pub twice : Aggregate
twice = record { count = 2; sum = pos 10; least = Some (pos 5); greatest = Some (pos 5) }

abbrev pub nothing : Aggregate
nothing = record { count = 0; sum = pos 0; least = None; greatest = None }

-- the row is acknowledged, and then the query is answered
abbrev pub answered : Aggregate → List Event
answered answer = Answered 4 answer ∷ Asked 0 0 for_de ∷ Acked 2 (0 ∷ []) ∷ Begun 0 0 row ∷ opened

-- the query is answered, and then the insert fails
abbrev pub answered_and_failed : Aggregate → List Event
answered_and_failed answer = Failed 2 ∷ Answered 3 answer ∷ Asked 0 0 for_de ∷ Begun 0 0 row ∷ opened

-- the page of a shard whose tree is one leaf with so many rows at berlin

abbrev pub one_leaf : ℕ → Aggregate → NodeLine
one_leaf count total = record { depth = 0; leaf = true; blocks = 1; items = count; agg = total; set = box (berlin ∷ []) }

abbrev pub page_with : ℕ → ℕ → Aggregate → TreePage
page_with shard count total = record { shard = shard; height = 1; rows = count; queued = 0; nodes = one_leaf count total ∷ [] }

-- the row is acknowledged, and then the tree of shard 0 is asked for
abbrev pub called : List Event
called = Called 3 (Tree 0) ∷ Acked 2 (0 ∷ []) ∷ Begun 0 0 row ∷ opened

-- and shown
abbrev pub shown : TreePage → List Event
shown tree = Ended 4 Fine ∷ Shown 4 (page.Tree tree) ∷ called
