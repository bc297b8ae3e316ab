-- Each entry leads to one of the blocks
use Rattle.std.proofs.{Common.{◌≡◌, ℕ, true, List, [], ◌∷◌, ◌++◌, map, take, drop, refl, sym, subst, arith}, lemmas.Grind.flat_map-append, lemmas.List.{map-append, take-append-drop}, lemmas.List.Elements.{All-nil, All-cons, All-append, All-weaker, Contains-append_left, Contains-append_right}}
use Rattle.std.specs.{List.AllZip, Prelude.{All, Contains}}
use Rattle.dim_hierarchy.specs.Dimension.{Dimension}
use Rattle.dc_node.specs.{Block.{entries_in, is_leaf}, declared.entry.Entry.Entry}
use Rattle.cell_stock.specs.declared.purse.Spare.{Spare}
use Rattle.tree_shape.specs.link_descent.specs.declared.entered.Fresh.{Fresh}
use Rattle.tree_shape.specs.Forest.{all_entries}
use Rattle.shard_build.specs.Building.{AreLed, IsEntryTo, spare_of, spare_to}
use Rattle.shard_build.proofs.Summed.{leaves-entries}

taken-left : (xs ys : List Fresh) (s : Spare) → Contains (map spare_of xs) s → Contains (map spare_of (xs ++ ys)) s
taken-left xs ys s h = subst (λ (zs : List Spare). Contains zs s) (sym (map-append spare_of xs ys)) (Contains-append_left (map spare_of xs) (map spare_of ys) s h)

taken-right : (xs ys : List Fresh) (s : Spare) → Contains (map spare_of ys) s → Contains (map spare_of (xs ++ ys)) s
taken-right xs ys s h = subst (λ (zs : List Spare). Contains zs s) (sym (map-append spare_of xs ys)) (Contains-append_right (map spare_of xs) (map spare_of ys) s h)

pub taken-from : (from : ℕ) (blocks : List Fresh) (s : Spare) → Contains (map spare_of (drop from blocks)) s → Contains (map spare_of blocks) s
taken-from from blocks s h = subst (λ (fs : List Fresh). Contains (map spare_of fs) s) (take-append-drop from blocks) (taken-right (take from blocks) (drop from blocks) s h)

pub taken-first : (h : List Dimension) (f : Fresh) (fs : List Fresh) (e : Entry) → IsEntryTo h f e → Contains (map spare_of (f ∷ fs)) (spare_to e)
taken-first h f fs e w = rw (w.child, w.stamp) (0, omega arith, refl)

entries-led : (h : List Dimension) (fs : List Fresh) (es : List Entry) → AllZip (IsEntryTo h) fs es → All (λ e. Contains (map spare_of fs) (spare_to e)) es
entries-led h [] [] z = All-nil (λ (e : Entry). Contains [] (spare_to e))
entries-led h [] (e ∷ es) z = absurd z
entries-led h (f ∷ fs) [] z = absurd z
entries-led h (f ∷ fs) (e ∷ es) z =
    All-cons (λ (e : Entry). Contains (map spare_of (f ∷ fs)) (spare_to e)) e es (taken-first h f fs e z.0)
    (All-weaker (λ (e : Entry). Contains (map spare_of fs) (spare_to e)) (λ (e : Entry). Contains (map spare_of (f ∷ fs)) (spare_to e)) (λ e k. taken-right (f ∷ []) fs (spare_to e) k) es
    (entries-led h fs es z.1))

pub leaves-led : (leaves : List Fresh) → All (λ f. is_leaf f.block.body ≡ true) leaves → AreLed leaves
leaves-led leaves k = subst (All (λ (e : Entry). Contains (map spare_of leaves) (spare_to e))) (sym (leaves-entries leaves k)) (All-nil (λ (e : Entry). Contains (map spare_of leaves) (spare_to e)))

pub level-led : (h : List Dimension) (blocks parents : List Fresh) (from : ℕ) → AreLed blocks → AllZip (IsEntryTo h) (drop from blocks) (all_entries parents) → AreLed (blocks ++ parents)
level-led h blocks parents from led z =
    let P = λ (e : Entry). Contains (map spare_of (blocks ++ parents)) (spare_to e) in
    subst (All P) (sym (flat_map-append (λ (f : Fresh). entries_in f.block.body) blocks parents))
    (All-append P (all_entries blocks) (all_entries parents)
    (All-weaker (λ (e : Entry). Contains (map spare_of blocks) (spare_to e)) P (λ e k. taken-left blocks parents (spare_to e) k) (all_entries blocks) led)
    (All-weaker (λ (e : Entry). Contains (map spare_of (drop from blocks)) (spare_to e)) P (λ e k. taken-left blocks parents (spare_to e) (taken-from from blocks (spare_to e) k)) (all_entries parents)
    (entries-led h (drop from blocks) (all_entries parents) z)))
