-- A leaf more, and a directory more
use Rattle.std.proofs.{Common.{◌≡◌, ℕ, ◌+◌, ◌-◌, ◌*◌, ◌<◌, ◌≤◌, true, false, List, [], ◌∷◌, ◌++◌, length, map, take, drop, refl, sym, ap, ◌∙◌, subst, arith, length-append}, lemmas.Grind.flat_map-append, lemmas.List.{append-nil, append_assoc, map-append, reverse-append, length-take, length-drop}, lemmas.List.Elements.All-push}
use Rattle.std.specs.{List.AllZip, Prelude.{min, None, reverse}}
use Rattle.dim_hierarchy.specs.{Dimension.Dimension, declared.row.Row.Row}
use Rattle.dc_node.specs.{Block.{rows_in, entries_in, is_leaf, size}, declared.entry.Entry.Entry}
use Rattle.cell_stock.specs.{Stock.PurseValue, declared.purse.Spare.Spare}
use Rattle.tree_shape.specs.link_descent.specs.declared.entered.Fresh.{Fresh}
use Rattle.shard_plan.specs.Building.{leaf_rows, parent_nodes}
use Rattle.tree_shape.specs.Forest.{all_entries}
use Rattle.shard_build.specs.Building.{AddsDirectory, AddsLeaves, AddsLevel, AreLeavesOf, AreParentsOf, IsEntryTo, SiteValue, UsesUp, directory_in, leaf_in, most, spare_of}
use Rattle.shard_build.proofs.{Lists.{zip-append, zip-length, take-next, part-next, part-before}, Sizes.sizes-more}

-- Spares.

pub uses-both : (xs ys : List Fresh) (a b c : PurseValue) → UsesUp xs a b → UsesUp ys b c → UsesUp (xs ++ ys) a c
uses-both xs ys a b c u v = record {
  spares = u.spares ∙ ap (λ zs. zs ++ reverse (map spare_of xs)) v.spares ∙ append_assoc c.spares (reverse (map spare_of ys)) (reverse (map spare_of xs))
      ∙ ap (λ zs. c.spares ++ zs) (sym (reverse-append (map spare_of xs) (map spare_of ys)) ∙ ap reverse (sym (map-append spare_of xs ys)));
  room = omega (arith, u.room, v.room, length-append xs ys);
}

uses-one : (f : Fresh) (a b : PurseValue) → a.spares ≡ b.spares ++ spare_of f ∷ [] → b.room ≡ a.room + 1 → UsesUp (f ∷ []) a b
uses-one f a b s r = record { spares = s; room = r }

-- Leaves.

leaves-more : (xs ys : List Row) (blocks : List Fresh) (s : Spare) → AreLeavesOf xs blocks → length ys ≤ leaf_rows → AreLeavesOf (xs ++ ys) (blocks ++ leaf_in s ys ∷ [])
leaves-more xs ys blocks s w le = record {
  kind = All-push (λ f. is_leaf f.block.body ≡ true) blocks (leaf_in s ys) w.kind refl;
  small = All-push (λ f. size f.block.body ≤ most f.block.body) blocks (leaf_in s ys) w.small le;
  alone = All-push (λ f. f.block.right ≡ None) blocks (leaf_in s ys) w.alone refl;
  rows_are = flat_map-append (λ (f : Fresh). rows_in f.block.body) blocks (leaf_in s ys ∷ []) ∙ ap (λ zs. zs ++ (ys ++ [])) w.rows_are ∙ ap (λ zs. xs ++ zs) (append-nil ys);
}

pub adds-leaf : (rows : List Row) (at end : ℕ) (blocks now : List Fresh) (s : Spare) (a b c : PurseValue) → AddsLeaves rows at blocks a b
    → end ≡ min (at + leaf_rows) (length rows) → now ≡ blocks ++ leaf_in s (take (end - at) (drop at rows)) ∷ []
    → b.spares ≡ c.spares ++ s ∷ [] → c.room ≡ b.room + 1 → AddsLeaves rows end now a c
adds-leaf rows at end blocks now s a b c w e is t r =
    let piece = take (end - at) (drop at rows) in
    let p = w.place in
    let le : at ≤ end = omega arith in
    let small : length piece ≤ leaf_rows = omega (arith, length-take (end - at) (drop at rows)) in
    let takes : length piece ≡ min leaf_rows (length rows - leaf_rows * length blocks) = omega (arith, length-take (end - at) (drop at rows), length-drop at rows) in
    let f = leaf_in s piece in
    subst (λ zs. AddsLeaves rows end zs a c) (sym is) (record {
      leaves = subst (λ zs. AreLeavesOf zs (blocks ++ f ∷ [])) (sym (take-next at end rows le)) (leaves-more (take at rows) piece blocks s w.leaves small);
      place = omega (arith, length-append blocks (f ∷ []));
      sizes = sizes-more leaf_rows (length rows) blocks f w.sizes takes;
      uses = uses-both blocks (f ∷ []) a b c w.uses (uses-one f b c t r);
    })

-- Directories.

parents-more : (h : List Dimension) (cs ds ps : List Fresh) (s : Spare) (es : List Entry) → AreParentsOf h cs ps → AllZip (IsEntryTo h) ds es → 1 ≤ length ds
    → length ds ≤ parent_nodes → AreParentsOf h (cs ++ ds) (ps ++ directory_in s es ∷ [])
parents-more h cs ds ps s es w z some few =
    let d = directory_in s es in
    let n = zip-length (IsEntryTo h) ds es z in
    record {
      kind = All-push (λ f. is_leaf f.block.body ≡ false) ps d w.kind refl;
      some = All-push (λ f. 1 ≤ size f.block.body) ps d w.some (omega arith);
      small = All-push (λ f. size f.block.body ≤ most f.block.body) ps d w.small (omega arith);
      alone = All-push (λ f. f.block.right ≡ None) ps d w.alone refl;
      entries = subst (AllZip (IsEntryTo h) (cs ++ ds))
          (sym (flat_map-append (λ (f : Fresh). entries_in f.block.body) ps (d ∷ []) ∙ ap (λ zs. all_entries ps ++ zs) (append-nil es)))
          (zip-append (IsEntryTo h) cs ds (all_entries ps) es w.entries z);
    }

pub adds-directory : (h : List Dimension) (from at end : ℕ) (before now next : SiteValue) (s : Spare) (a b c : PurseValue) → from < length before.blocks → at < length before.blocks
    → AddsLevel h from at before now a b → end ≡ min (at + parent_nodes) (length before.blocks)
    → AddsDirectory h (take (end - at) (drop at now.blocks)) s now.blocks next.blocks → next.directories + 1 ≡ now.directories
    → b.spares ≡ c.spares ++ s ∷ [] → c.room ≡ b.room + 1 → AddsLevel h from end before next a c
adds-directory h from at end before now next s a b c inner lt w e d left t r =
    let p = w.place in
    let l = w.last in
    let piece = take (end - at) (drop at before.blocks) in
    let same : take (end - at) (drop at now.blocks) ≡ piece = ap (λ zs. take (end - at) (drop at zs)) w.added ∙ part-before at end before.blocks w.parents (omega arith) (omega arith) in
    let z : AllZip (IsEntryTo h) piece d.entries = subst (λ zs. AllZip (IsEntryTo h) zs d.entries) same d.are in
    let count : length piece ≡ end - at = omega (arith, length-take (end - at) (drop at before.blocks), length-drop at before.blocks) in
    let takes : length d.entries ≡ min parent_nodes (length before.blocks - from - parent_nodes * length w.parents) = omega (arith, zip-length (IsEntryTo h) piece d.entries z, count) in
    let f = directory_in s d.entries in
    let more = length-append w.parents (f ∷ []) in
    record {
      parents = w.parents ++ f ∷ [];
      are = subst (λ zs. AreParentsOf h zs (w.parents ++ f ∷ [])) (sym (part-next from at end before.blocks (omega arith) (omega arith)))
          (parents-more h (take (at - from) (drop from before.blocks)) piece w.parents s d.entries w.are z (omega arith) (omega arith));
      place = omega arith;
      last = omega arith;
      sizes = sizes-more parent_nodes (length before.blocks - from) w.parents f w.sizes takes;
      added = d.added ∙ ap (λ zs. zs ++ f ∷ []) w.added ∙ append_assoc before.blocks w.parents (f ∷ []);
      directories = (let q = w.directories in omega arith);
      uses = uses-both w.parents (f ∷ []) a b c w.uses (uses-one f b c t r);
    }
