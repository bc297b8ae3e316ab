use Rattle.std.proofs.Common.{◌≡◌, ◌∙◌, List, [], ◌∷◌, true, false, cond, sym, ap}
use Rattle.std.specs.Prelude.{if◌then◌else◌}
use Rattle.dim_hierarchy.specs.{Dimension.Dimension, declared.filter.Pick.Pick}
use Rattle.measure_agg.specs.{Aggregate.{Aggregate, agg}, Joining.join}
use Rattle.describing_set.specs.Filter.{is_inside}
use Rattle.dc_node.specs.{Summary.{joined, aggs}, declared.entry.Entry.Entry}
use Rattle.link_descent.specs.{GateRead.tree_part, Visit.taken}
use Rattle.shard_store.specs.Gate.{root_entry}
use Rattle.link_descent.proofs.gate_reads.read_gate.Goals as goal

-- what one entry adds
one_taken : (h : List Dimension) (f : List Pick) (a : Aggregate) (e : Entry) → ((x : Aggregate) → join x (agg []) ≡ x) → (if is_inside h e.set f then join a e.agg else a) ≡ join a (joined (aggs (taken h f (e ∷ []))))
one_taken h f a e empty = elim (is_inside h e.set f) as (λ b. (if b then join a e.agg else a) ≡ join a (joined (aggs (cond b (e ∷ []) [])))) [
  | true ↦ ap (join a) (sym (empty e.agg))
  | false ↦ sym (empty a)
]

pub returns-clause-agg : goal.returns-clause-agg
returns-clause-agg c =
    let h = c.args.wanted.now.hierarchy in
    let f = c.args.wanted.now.picks in
    let now = c.visit_queue.new.total in
    c.visit_entry.ensures.total
    ∙ ap (λ (e : Entry). if is_inside h e.set f then join now e.agg else now) c.root_entry.ensures
    ∙ one_taken h f now (root_entry c.args.gate.now) c.laws.ensures.empty_right
    ∙ ap (λ a. join a (tree_part h f c.args.gate.now)) c.visit_queue.ensures.total
