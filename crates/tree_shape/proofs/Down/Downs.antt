-- The whole step down onto a head that is halved, from what it does in the cells
use Rattle.std.proofs.{Common.{◌≡◌, ◌≢◌, ℕ, inl, Bool, eqb, List, refl, ◌∙◌}, lemmas.Bool.ne_eqb}
use Rattle.dc_node.specs.declared.entry.Entry.{Entry}
use Rattle.list_words.proofs.Truth.{eqb-self}
use Rattle.tree_shape.specs.{Queries.QueryOk, Shape.{Node, Shape, Table}, Trees.TreeOk, Walks.Noted}
use Rattle.tree_shape.proofs.{Cutting.Divisions.tree-joined, Cutting.Made.{divided-made, at_right-made, above_right-made}, Cutting.Relations.{Divided, DownJoined, Grew, Joined, NoneExpects, NoneHas, all_grown, heads_with, lower, made, put_behind}, Reading.Queries.{apart, query-divided}}
use Rattle.tree_shape.proofs.Onward as O

module _ (g : Shape) (look look3 : ℕ → Node) (table : Table) (k c n t r : ℕ) (tree : TreeOk g look table) (d : DownJoined g look look3 table k c n t r) where
  -- the parent's entries, which the division leaves
  abbrev es : List Entry
  es = (look (g.at r)).entries

  -- between the division and the row's way down the parent is as it was
  abbrev look2 : ℕ → Node
  look2 = O.look2 g look look3 table k c n t r c es tree d

  abbrev g2 : Shape
  g2 = made g k c n (look2 n) (heads_with g n c) (λ h. put_behind c n (g.group h)) g.below

  abbrev pub g3 : Shape
  g3 = lower g2 r c

  divided : Divided g g2 k c n
  divided = divided-made g look look2 table k c n (heads_with g n c) (λ h. put_behind c n (g.group h)) g.below tree d.c_inside d.c_level d.fresh
      (O.rows2 g look look3 table k c n t r c es tree d) (O.entries2 g look look3 table k c n t r c es tree d)

  joined : Joined g g2 look look2 k c n t
  joined =
      let rows2 = O.rows2 g look look3 table k c n t r c es tree d in
      let entries2 = O.entries2 g look look3 table k c n t r c es tree d in
      record {
        items = record {
          div = divided;
          relinked = O.relinked2 g look look3 table k c n t r c es tree d;
          waits = d.waits;
          free = d.free;
          c_head = d.c_head;
          head = λ y h. inl (rw (ne_eqb y n h) refl);
          rows = rows2;
          entries = entries2;
          left = O.left2 g look look3 table k c n t r c es tree d;
          right = O.right2 g look look3 table k c n t r c es tree d;
          other_rows = O.kept g look look3 table k c n t r c es tree d (λ (b : Node). b.rows) refl;
          at_right = at_right-made g look look2 table k c n (heads_with g n c) (λ h. put_behind c n (g.group h)) g.below tree d.c_inside d.c_level d.fresh rows2 entries2;
          above_right = above_right-made g look look2 table k c n (heads_with g n c) (λ h. put_behind c n (g.group h)) g.below tree d.c_inside d.c_level d.fresh rows2 entries2;
        };
        new_head = rw (eqb-self n) refl;
        head = λ y h. rw (ne_eqb y n h) refl;
        group = λ h. refl;
        below = λ h. refl;
        other = O.kept g look look3 table k c n t r c es tree d (λ (b : Node). b.entries) refl;
      }

  tree2 : TreeOk g2 look2 table
  tree2 = tree-joined g g2 look look2 table k c n t tree.shape tree joined

  kept-head : (y : ℕ) → y ≢ n → g.head y ≡ y → g2.head y ≡ y
  kept-head y yn e = joined.head y yn ∙ e

  c-head : g2.head c ≡ c
  c-head = kept-head c (apart g c n d.c_inside d.fresh) d.c_head

  pub tree-down : TreeOk g3 look3 table
  tree-down = O.tree-onward g look look3 table k c n t r c es tree d g2 divided kept-head c-head tree2

  pub query-down : (must fits : ℕ → Bool) (ps : List Noted) (counted : List ℕ) → NoneExpects t ps → QueryOk g look must fits ps counted → QueryOk g3 look3 must fits (all_grown c n ps) counted
  query-down must fits ps counted fresh q =
      O.query-onward g look look3 table k c n t r c es tree d g2 divided kept-head c-head tree2 must fits (all_grown c n ps) counted
      (query-divided g g2 look k c n tree.shape divided look2 t must fits ps counted (O.relinked2 g look look3 table k c n t r c es tree d) fresh q)

  pub grew-down : Grew g g3 (λ y. eqb y n) k k r c
  grew-down = O.grew-onward g look look3 table k c n t r c es tree d g2 divided kept-head c-head tree2

  pub stamps-down : (u : ℕ) → u ≢ t → NoneHas g look u → NoneHas g3 look3 u
  stamps-down u ut = O.stamps-onward g look look3 table k c n t r c es tree d g2 divided kept-head c-head tree2 u (λ o. o)
