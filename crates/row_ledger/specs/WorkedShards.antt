-- Worked splits and moves: two rows in two cities, a split of their shard with a query across it, and pages behind it.
use Rattle.std.specs.Prelude.{ℕ, pos, List, [], ◌∷◌}
use Rattle.dim_hierarchy.specs.{declared.filter.Pick.Pick, declared.filter.Pick.TheVariants.Ids, declared.row.Row.Row}
use Rattle.measure_agg.specs.Aggregate.{Aggregate}
use Rattle.row_ledger.specs.{Worked.{berlin, munich, in_city, box, once, one_leaf}, WorkedPulls.{inserted, both}, declared.event.Event.Event, declared.event.Event.TheVariants.{Begun, Acked, Asked, Answered, Called, Moved, Shown, Ended}, declared.page.Page.Page, declared.page.ShardLine.ShardLine, declared.page.TreePage.TreePage, declared.settings.Call.TheVariants.{Split, Move, Shards, Tree, Audit}, declared.settings.Decline.Decline, declared.settings.Decline.TheVariants.Unknown, declared.settings.How.TheVariants.{Fine, Declined}}
use Rattle.row_ledger.specs.declared.event.Event.TheVariants as event
use Rattle.row_ledger.specs.declared.page.Page.TheVariants as page

-- a row of 7 at munich comes to the same shard
abbrev pub other : Row
other = record { no = 4; at = in_city munich; measures = pos 7 }

abbrev pub two_cities : List Event
two_cities = Acked 4 (0 ∷ []) ∷ Begun 0 0 other ∷ inserted

-- a query for berlin begins, and then the split of shard 0
abbrev pub for_berlin : List Pick
for_berlin = Ids (berlin ∷ []) ∷ []

abbrev pub to_split : List Event
to_split = Called 3 (Split 0) ∷ Asked 0 0 for_berlin ∷ two_cities

-- the split is done and ends, and the query is answered
abbrev pub split : List Event
split = Ended 7 Fine ∷ event.Split 7 0 2 3 ∷ to_split

abbrev pub across_split : Aggregate → List Event
across_split answer = Answered 6 answer ∷ split

-- a split that is declined, for this reason
abbrev pub split_declined : Decline → List Event
split_declined why = Ended 7 (Declined why) ∷ to_split

-- a second split of the same call
abbrev pub split_twice : List Event
split_twice = event.Split 7 1 4 5 ∷ event.Split 7 0 2 3 ∷ to_split

-- a third row, with this path, begins and is acknowledged behind the split

abbrev pub third : Row
third = record { no = 11; at = in_city munich; measures = pos 7 }

abbrev pub with_path : List ℕ → List Event
with_path path = Acked 11 path ∷ Begun 0 0 third ∷ across_split once

-- Pages.

-- a command of the control stream shows a page at once, and ends
abbrev pub shards_shown : List ShardLine → List Event
shards_shown lines = Ended 11 Fine ∷ Shown 11 (page.Shards lines) ∷ Called 3 Shards ∷ across_split once

abbrev pub shard_line : ℕ → ℕ → ℕ → List ℕ → ShardLine
shard_line shard worker rows cities = record { shard = shard; worker = worker; rows = rows; queued = 0; set = box cities }

-- the lines of the three shards, and those in which the row at munich stands nowhere

abbrev pub all_lines : List ShardLine
all_lines = shard_line 1 1 0 [] ∷ shard_line 2 0 1 (berlin ∷ []) ∷ shard_line 3 0 1 (munich ∷ []) ∷ []

abbrev pub lines_without : List ShardLine
lines_without = shard_line 1 1 0 [] ∷ shard_line 2 0 1 (berlin ∷ []) ∷ shard_line 3 0 0 [] ∷ []

abbrev pub audit_shown : Aggregate → List Event
audit_shown total = Ended 14 Fine ∷ Shown 14 (page.Audit (record { agg = total; shards = 3 })) ∷ Called 3 Audit ∷ shards_shown all_lines

-- the tree of the left child
abbrev pub tree_shown : TreePage → List Event
tree_shown tree = Ended 17 Fine ∷ Shown 17 (page.Tree tree) ∷ Called 3 (Tree 2) ∷ audit_shown both

abbrev pub tree_of_two : TreePage
tree_of_two = record { shard = 2; height = 1; rows = 1; queued = 0; nodes = one_leaf 1 once ∷ [] }

-- a page that is shown while an insert is open
abbrev pub shown_amid : Page → List Event
shown_amid page = Shown 12 page ∷ Called 3 Audit ∷ Begun 0 0 third ∷ across_split once

-- Moves.

-- a move to a worker that there is none of is declined, and one to worker 1 is done
abbrev pub moved : List Event
moved =
    Ended 6 Fine
    ∷ Moved 6 0 1
    ∷ Called 3 (Move 0 1)
    ∷ Ended 4 (Declined Unknown)
    ∷ Called 3 (Move 0 7)
    ∷ inserted
