-- Head cuts that are told of the items of other blocks.
use Rattle.std.proofs.{Common.{ℕ, ◌≡◌, ◌+◌, ◌<◌, List, [], ◌∷◌, ◌++◌, length, take, map, get_or, sym, ap, subst, ◌∙◌}, lemmas.List.{append-nil, append_assoc, take_more, map-append}, lemmas.List.Concat.flat_map-append}
use Rattle.std.specs.{List.{AllZip, flat_map}, Prelude.{IfSome, slice_get}}
use Rattle.dim_hierarchy.specs.{Dimension.Dimension, declared.row.Row.Row}
use Rattle.describing_set.specs.{DescSet.IsSetOf, declared.set.DescSet.DescSet}
use Rattle.hierarchy_split.specs.{Flags.AreHeadCutsOf, Head.{GroupItems, with_other}, declared.head.HeadCuts.HeadCuts}
use Rattle.dc_node.specs.{Block.{rows_in, entries_in}, declared.block.Block.Block, declared.block.Body.Body, declared.block.Body.TheVariants.{Rows, Entries}, declared.entry.Entry.Entry}
use Rattle.link_descent.specs.{Divide.{front, together, AreItemSets}, Room.Strikes}
use Rattle.link_descent.proofs.Items.{AllZip-more, no_row, row_there, row_read}

-- items with some others more
abbrev with_others : GroupItems → List DescSet → GroupItems
with_others items sets = record { head = items.head; others = items.others ++ sets }

-- a body without items
pub Strikes-none : (h : List Dimension) (body : Body) (cuts : HeadCuts) → AreItemSets h body [] → Strikes h body cuts cuts
Strikes-none h body cuts are = record {
  sets = [];
  are_sets = are;
  struck = λ items a. subst (λ l. AreHeadCutsOf h (record { head = items.head; others = l }) cuts) (sym (append-nil items.others)) a;
}

-- one item more
pub Strikes-one : (h : List Dimension) (body more : Body) (set : DescSet) (before between now : HeadCuts) → (s : Strikes h body before between) → AreItemSets h more (s.sets ++ set ∷ [])
    → ((items : GroupItems) → AreHeadCutsOf h items between → AreHeadCutsOf h (with_other items set) now) → Strikes h more before now
Strikes-one h body more set before between now s are one = record {
  sets = s.sets ++ set ∷ [];
  are_sets = are;
  struck = λ items a. subst (λ l. AreHeadCutsOf h (record { head = items.head; others = l }) now) (append_assoc items.others s.sets (set ∷ [])) (one (with_others items s.sets) (s.struck items a));
}

pub Strikes-row : (h : List Dimension) (rows : List Row) (i : ℕ) (set : DescSet) (before between now : HeadCuts) → i < length rows → IfSome (slice_get rows i) (λ row. IsSetOf h (row.at ∷ []) set)
    → Strikes h (Rows (record { items = take i rows })) before between
    → ((items : GroupItems) → AreHeadCutsOf h items between → AreHeadCutsOf h (with_other items set) now) → Strikes h (Rows (record { items = take (i + 1) rows })) before now
Strikes-row h rows i set before between now lt is s one =
    let R : Row → DescSet → Type 0 = λ r x. IsSetOf h (r.at ∷ []) x in
    let here = row_there (λ r. R r set) rows i lt is in
    Strikes-one h (Rows (record { items = take i rows })) (Rows (record { items = take (i + 1) rows })) set before between now s
    (AllZip-more R rows s.sets i (get_or rows i no_row) set lt (row_read rows i lt) s.are_sets here) one

pub Strikes-entry : (h : List Dimension) (entries : List Entry) (i : ℕ) (e : Entry) (before between now : HeadCuts) → i < length entries → e ≡ get_or entries i e
    → Strikes h (Entries (record { items = take i entries })) before between
    → ((items : GroupItems) → AreHeadCutsOf h items between → AreHeadCutsOf h (with_other items e.set) now) → Strikes h (Entries (record { items = take (i + 1) entries })) before now
Strikes-entry h entries i e before between now lt read s one =
    let sets : List Entry → List DescSet = map (λ x. x.set) in
    let more : take (i + 1) entries ≡ take i entries ++ e ∷ [] = take_more entries i e lt ∙ ap (λ x. take i entries ++ x ∷ []) (sym read) in
    Strikes-one h (Entries (record { items = take i entries })) (Entries (record { items = take (i + 1) entries })) e.set before between now s
    (ap (λ l. l ++ e.set ∷ []) s.are_sets ∙ sym (map-append (λ x. x.set) (take i entries) (e ∷ [])) ∙ ap sets (sym more)) one

-- the items of some blocks, and those of others

AllZip-append : {A B : Type 0} (R : A → B → Type 0) (xs more : List A) (ys others : List B) → AllZip R xs ys → AllZip R more others → AllZip R (xs ++ more) (ys ++ others)
AllZip-append R [] more [] others a b = b
AllZip-append R [] more (y ∷ ys) others a b = absurd a
AllZip-append R (x ∷ xs) more [] others a b = absurd a
AllZip-append R (x ∷ xs) more (y ∷ ys) others a b = (a.0, AllZip-append R xs more ys others a.1 b)

sets-append : (h : List Dimension) (body : Body) (xs ys : List Block) (s t : List DescSet) → AreItemSets h (together (front body 0) xs) s → AreItemSets h (together (front body 0) ys) t → AreItemSets h (together (front body 0) (xs ++ ys)) (s ++ t)
sets-append h (Rows rows) xs ys s t a b =
    let R : Row → DescSet → Type 0 = λ r x. IsSetOf h (r.at ∷ []) x in
    subst (λ l. AllZip R l (s ++ t)) (sym (flat_map-append (λ (b : Block). rows_in b.body) xs ys)) (AllZip-append R (flat_map (λ (b : Block). rows_in b.body) xs) (flat_map (λ (b : Block). rows_in b.body) ys) s t a b)
sets-append h (Entries entries) xs ys s t a b =
    ap (λ l. l ++ t) a ∙ ap (λ l. map (λ (e : Entry). e.set) (flat_map (λ (b : Block). entries_in b.body) xs) ++ l) b
    ∙ sym (map-append (λ (e : Entry). e.set) (flat_map (λ (b : Block). entries_in b.body) xs) (flat_map (λ (b : Block). entries_in b.body) ys))
    ∙ ap (map (λ (e : Entry). e.set)) (sym (flat_map-append (λ (b : Block). entries_in b.body) xs ys))

pub Strikes-both : (h : List Dimension) (body : Body) (xs ys : List Block) (before between now : HeadCuts) → Strikes h (together (front body 0) xs) before between → Strikes h (together (front body 0) ys) between now
    → Strikes h (together (front body 0) (xs ++ ys)) before now
Strikes-both h body xs ys before between now s t = record {
  sets = s.sets ++ t.sets;
  are_sets = sets-append h body xs ys s.sets t.sets s.are_sets t.are_sets;
  struck = λ items a. subst (λ l. AreHeadCutsOf h (record { head = items.head; others = l }) now) (append_assoc items.others s.sets t.sets) (t.struck (with_others items s.sets) (s.struck items a));
}
