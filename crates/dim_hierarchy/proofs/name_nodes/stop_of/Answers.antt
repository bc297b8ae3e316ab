use Rattle.std.proofs.{Common.{◌≡◌, ◌∙◌, ap, sym, cond, true, false}, lemmas.Bool.ltb-false, lemmas.Option.slice_get_past}
use Rattle.std.specs.Str.{bytes_eq}
use Rattle.dim_hierarchy.specs.declared.name_nodes.Stop.TheVariants.{Here, Full}
use Rattle.dim_hierarchy.proofs.NameStops.{stop_of-is, stop-nowhere, stop-same_hash, stop-ended, stop-onward, onward-free, onward-on, read-some}
use Rattle.dim_hierarchy.proofs.name_nodes.stop_of.Goals as goal

pub loop-node-init : goal.loop-node-init
loop-node-init c = sym (stop_of-is c.args.nodes.now c.args.name.now c.args.hash)

pub returns-then-eq-clause-value : goal.returns-then-eq-clause-value
returns-then-eq-clause-value c =
    let l = c.in-Some.ensures.lookup in
    let same : bytes_eq c.in-Some.node.now.name.items c.args.name.now ≡ true = ap (λ z. bytes_eq z c.args.name.now) (sym c.as_slice.ensures.value) ∙ sym c.eq.ensures ∙ c.if-eq.true in
    sym (stop-same_hash c.args.nodes.now c.args.name.now c.args.hash c.loop-node.left c.loop-node.at c.loop-node.digits c.in-Some.node.now (read-some c.args.nodes.now c.loop-node.at c.in-Some.node.now l.0 l.1) c.if-node-hash.true
    ∙ ap (λ b. cond b (Here c.loop-node.at) Full) same) ∙ c.loop-node.invariant

pub returns-else-eq-clause-value : goal.returns-else-eq-clause-value
returns-else-eq-clause-value c =
    let l = c.in-Some.ensures.lookup in
    let same : bytes_eq c.in-Some.node.now.name.items c.args.name.now ≡ false = ap (λ z. bytes_eq z c.args.name.now) (sym c.as_slice.ensures.value) ∙ sym c.eq.ensures ∙ c.if-eq.false in
    sym (stop-same_hash c.args.nodes.now c.args.name.now c.args.hash c.loop-node.left c.loop-node.at c.loop-node.digits c.in-Some.node.now (read-some c.args.nodes.now c.loop-node.at c.in-Some.node.now l.0 l.1) c.if-node-hash.true
    ∙ ap (λ b. cond b (Here c.loop-node.at) Full) same) ∙ c.loop-node.invariant

pub returns-then-left-eq0-clause-value : goal.returns-then-left-eq0-clause-value
returns-then-left-eq0-clause-value c =
    let l = c.in-Some.ensures.lookup in
    sym (stop-ended c.args.nodes.now c.args.name.now c.args.hash c.loop-node.left c.loop-node.at c.loop-node.digits c.in-Some.node.now (read-some c.args.nodes.now c.loop-node.at c.in-Some.node.now l.0 l.1) c.if-node-hash.false c.if-left-eq0.true) ∙ c.loop-node.invariant

pub returns-then-next-eq0-clause-value : goal.returns-then-next-eq0-clause-value
returns-then-next-eq0-clause-value c =
    let l = c.in-Some.ensures.lookup in
    sym (stop-onward c.args.nodes.now c.args.name.now c.args.hash c.loop-node.left c.loop-node.at c.loop-node.digits c.in-Some.node.now (read-some c.args.nodes.now c.loop-node.at c.in-Some.node.now l.0 l.1) c.if-node-hash.false c.if-left-eq0.false
    ∙ onward-free c.args.nodes.now c.args.name.now c.args.hash _ c.loop-node.at c.loop-node.digits c.in-Some.node.now c.if-next-eq0.true) ∙ c.loop-node.invariant

pub loop-node-preserved : goal.loop-node-preserved
loop-node-preserved c =
    let l = c.in-Some.ensures.lookup in
    sym (stop-onward c.args.nodes.now c.args.name.now c.args.hash c.loop-node.left c.loop-node.at c.loop-node.digits c.in-Some.node.now (read-some c.args.nodes.now c.loop-node.at c.in-Some.node.now l.0 l.1) c.if-node-hash.false c.if-left-eq0.false
    ∙ onward-on c.args.nodes.now c.args.name.now c.args.hash _ c.loop-node.at c.loop-node.digits c.in-Some.node.now c.if-next-eq0.false) ∙ c.loop-node.invariant

pub returns-clause-value : goal.returns-clause-value
returns-clause-value c =
    let l = c.in_default.ensures.lookup in
    sym (stop-nowhere c.args.nodes.now c.args.name.now c.args.hash c.loop-node.left c.loop-node.at c.loop-node.digits (slice_get_past c.args.nodes.now c.loop-node.at (ltb-false c.loop-node.at _ (sym l.0)))) ∙ c.loop-node.invariant
