-- The text that a history tells of a script: a line or a page for each command, in the order of the script, phase by phase.
use Rattle.std.specs.{Fmt.{decimal, signed_decimal}, List.{flat_map, join_by}, Option.option_map_or, Prelude.{ℕ, ◌+◌, ℤ, ◌==◌, Bool, false, Option, Some, None, option_and_then, if◌then◌else◌, List, [], ◌∷◌, ◌++◌, length, take, find, codes}}
use Rattle.dim_hierarchy.specs.Concept.{level_of, number_of}
use Rattle.measure_agg.specs.Aggregate.{Aggregate}
use Rattle.describing_set.specs.{declared.part.Part.Part, declared.set.DescSet.DescSet}
use Rattle.row_ledger.specs.{Past.{event_at, page_of}, declared.event.Event.Event, declared.event.Event.TheVariants.{Acked, Answered, Unknown, Split, Ended}, declared.page.AuditLine.AuditLine, declared.page.GroupLine.GroupLine, declared.page.NodeLine.NodeLine, declared.page.Page.Page, declared.page.ShardLine.ShardLine, declared.page.TreePage.TreePage, declared.settings.Call.Call, declared.settings.Decline.Decline, declared.settings.How.How, declared.settings.How.TheVariants.{Fine, Balanced, Declined, Postponed, NoMemory}, declared.settings.Use.Use}
use Rattle.row_ledger.specs.declared.page.Page.TheVariants as page
use Rattle.row_ledger.specs.declared.settings.Call.TheVariants as call
use Rattle.row_ledger.specs.declared.settings.Decline.TheVariants as decline
use Rattle.script_form.specs.{Table.word_of, declared.script.Cause.Cause, declared.script.Command.Command, declared.script.Command.TheVariants.Control}
use Rattle.script_form.specs.declared.script.Cause.TheVariants as cause
use Rattle.script_run.specs.{Phases.phases, Places.{places_behind, are_over, end_of}}

-- The line of a command.

-- a number, or a dash for none
abbrev pub or_dash : Option ℤ → List ℕ
or_dash None = codes "-"
or_dash (Some z) = signed_decimal z

-- an aggregate: count, sum, least and greatest
abbrev pub total_text : Aggregate → List ℕ
total_text a =
    decimal a.count ++ (codes " " ++ (signed_decimal a.sum ++ (codes " " ++ (or_dash a.least ++ (codes " " ++ or_dash a.greatest)))))

abbrev pub pair_text : ℕ → ℕ → List ℕ
pair_text a b = decimal a ++ (codes " " ++ decimal b)

-- why a command is declined; where cells are wanting, how many it needs and how many are free
abbrev pub decline_text : Decline → List ℕ
decline_text decline.Unknown = codes "unknown"
decline_text decline.OnePlace = codes "oneplace"
decline_text (decline.NoCell need free) = codes "nocell " ++ pair_text need free

-- what is said of a called command that found no memory: a split and a move are postponed
abbrev pub starved_call_text : Call → List ℕ
starved_call_text (call.Split shard) = codes "postponed"
starved_call_text (call.Move shard worker) = codes "postponed"
starved_call_text called = codes "nomem"

abbrev pub starved_text : Command → List ℕ
starved_text (Control called) = starved_call_text called
starved_text c = codes "nomem"

-- what is said of a called command that did what it was to do: a split names the two shards that it made
abbrev pub fine_text : Call → Option Event → List ℕ
fine_text (call.Split shard) (Some (Split of parent left right)) = codes "ok " ++ pair_text left right
fine_text called split = codes "ok"

abbrev pub how_text : Call → Option Event → How → List ℕ
how_text called split Fine = fine_text called split
how_text called split (Balanced done planned) = pair_text done planned
how_text called split (Declined why) = codes "declined " ++ decline_text why
how_text called split Postponed = codes "postponed"
how_text called split NoMemory = starved_call_text called

-- what is said of a command that ended so
abbrev pub end_text : Command → Option Event → How → List ℕ
end_text (Control called) split how = how_text called split how
end_text c split how = starved_text c

-- what is said of a command by the events that begin and end it and the newest that splits a shard for it; without an end it found no memory
abbrev pub answer_text : Command → Option Event → Option Event → Option Event → List ℕ
answer_text c (Some (Unknown session server dim)) end split = codes "unknown " ++ decimal dim
answer_text c begin (Some (Acked of path)) split = codes "ok"
answer_text c begin (Some (Answered of total)) split = total_text total
answer_text c begin (Some (Ended of how)) split = end_text c split how
answer_text c begin end split = starved_text c

-- a command's number from 1, its word, and what is said
abbrev pub line : ℕ → List ℕ → List ℕ → List ℕ
line n word said = decimal n ++ (codes " " ++ (word ++ (codes " " ++ (said ++ codes "\n"))))

-- the newest event that splits a shard for the command that began at a position

abbrev pub split_for : Event → Option ℕ
split_for (Split of shard left right) = Some of
split_for e = None

abbrev pub split_of : List Event → ℕ → Option Event
split_of history p = find (λ e. option_map_or (λ of. of == p) (split_for e) false) history

-- what is said of a command that began at a place
abbrev pub answer_at : Command → List Event → Option ℕ → List ℕ
answer_at c history place =
    answer_text c (option_and_then (event_at history) place) (option_and_then (end_of history) place) (option_and_then (split_of history) place)

abbrev pub line_at : ℕ → Command → List Event → Option ℕ → List ℕ
line_at n c history place = line n (word_of c) (answer_at c history place)

-- The lines of a page.

-- concepts by their numbers within their level
abbrev pub numbers_text : List ℕ → List ℕ
numbers_text ids = join_by (λ id. decimal (number_of id)) (codes "+") ids

-- one dimension of a set: its level, and its concepts
abbrev pub part_text : Part → List ℕ
part_text p = decimal p.level ++ (codes ":" ++ numbers_text p.ids.items)

abbrev pub box_text : DescSet → List ℕ
box_text set = join_by part_text (codes "/") set.parts.items

abbrev pub kind_text : Bool → List ℕ
kind_text leaf = if leaf then codes "leaf" else codes "dir"

-- a group of a tree: its depth and kind, its blocks and items, and the aggregate and the set of its rows
abbrev pub node_said : NodeLine → List ℕ
node_said node =
    decimal node.depth ++ (codes " " ++ (kind_text node.leaf ++ (codes " " ++ (decimal node.blocks ++ (codes " " ++ (decimal node.items ++ (codes " " ++ (total_text node.agg ++ (codes " " ++ box_text node.set)))))))))

-- a tree: its shard, its height, and how many rows are in it and in its queue
abbrev pub tree_said : TreePage → List ℕ
tree_said tree =
    decimal tree.shard ++ (codes " height " ++ (decimal tree.height ++ (codes " rows " ++ (decimal tree.rows ++ (codes " queued " ++ decimal tree.queued)))))

-- a shard: its id and worker, how many rows are in its tree and in its queue, and the set of them all
abbrev pub shard_said : ShardLine → List ℕ
shard_said shard =
    decimal shard.shard ++ (codes " worker " ++ (decimal shard.worker ++ (codes " rows " ++ (decimal shard.rows ++ (codes " queued " ++ (decimal shard.queued ++ (codes " box " ++ box_text shard.set)))))))

-- the aggregate of all rows, and how many shards there are
abbrev pub audit_said : AuditLine → List ℕ
audit_said audit = total_text audit.agg ++ (codes " shards " ++ decimal audit.shards)

-- a concept, by its level and its number within it, and the aggregate of its rows
abbrev pub group_said : GroupLine → List ℕ
group_said group = decimal (level_of group.id) ++ (codes ":" ++ (decimal (number_of group.id) ++ (codes " " ++ total_text group.agg)))

-- all rows of a page of groups
abbrev pub all_said : Aggregate → List ℕ
all_said all = codes "all " ++ total_text all

-- a line for each shard; a line for the tree, and one for each of its groups; the line of an audit; or a line for each concept, and one for all rows
abbrev pub page_text : ℕ → Page → List ℕ
page_text n (page.Shards shards) = flat_map (λ shard. line n (codes "shard") (shard_said shard)) shards
page_text n (page.Audit audit) = line n (codes "audit") (audit_said audit)
page_text n (page.Group group) = flat_map (λ one. line n (codes "group") (group_said one)) group.lines ++ line n (codes "group") (all_said group.all)
page_text n (page.Tree tree) = line n (codes "tree") (tree_said tree) ++ flat_map (λ node. line n (codes "node") (node_said node)) tree.nodes

-- what is told of a command that began at a place: the page that was shown for it, or else one line
abbrev pub text_at : ℕ → Command → List Event → Option ℕ → List ℕ
text_at n c history place = option_map_or (page_text n) (option_and_then (page_of history) place) (line_at n c history place)

-- the lines of commands, numbered from n, that began at these places
unfoldable pub lines : ℕ → List Command → List (Option ℕ) → List Event → List ℕ
lines n (c ∷ cs) (p ∷ ps) history = text_at n c history p ++ lines (n + 1) cs ps history
lines n _ _ history = []

-- The text of phases.

-- the lines of a phase, numbered from n, or nothing where one of its commands has no end
abbrev pub phase_lines : ℕ → List Command → List (Option ℕ) → List Event → List ℕ
phase_lines n phase ps history = if are_over history ps then lines n phase ps history else []

-- the text of a phase behind these commands
unfoldable pub phase_behind : Use → List Command → List Command → List Event → List ℕ
phase_behind with before phase history = phase_lines (length before + 1) phase (places_behind with before phase history) history

unfoldable pub texts_behind : Use → List Command → List (List Command) → List Event → List (List ℕ)
texts_behind with before [] history = []
texts_behind with before (phase ∷ more) history = phase_behind with before phase history ∷ texts_behind with (before ++ phase) more history

-- the text of each phase of a script
abbrev pub texts : Use → List Command → List Event → List (List ℕ)
texts with commands history = texts_behind with [] (phases commands) history

-- the text of the first k phases
abbrev pub told_to : ℕ → Use → List Command → List Event → List ℕ
told_to k with commands history = flat_map (λ text. text) (take k (texts with commands history))

abbrev pub told : Use → List Command → List Event → List ℕ
told with commands history = flat_map (λ text. text) (texts with commands history)

-- The line that answers a bad script.

abbrev pub cause_word : Cause → List ℕ
cause_word cause.Version = codes "version"
cause_word cause.Kind = codes "kind"
cause_word cause.Order = codes "order"
cause_word cause.Fields = codes "fields"
cause_word cause.Number = codes "number"
cause_word cause.Name = codes "name"
cause_word cause.DimFull = codes "dimfull"
cause_word cause.DimTwice = codes "dimtwice"
cause_word cause.NoDim = codes "nodim"
cause_word cause.NoParent = codes "noparent"
cause_word cause.ConceptTwice = codes "concepttwice"
cause_word cause.TooDeep = codes "toodeep"

-- the number of the record, and its cause
abbrev pub bad_line : ℕ → Cause → List ℕ
bad_line at c = codes "bad " ++ (decimal at ++ (codes " " ++ (cause_word c ++ codes "\n")))
