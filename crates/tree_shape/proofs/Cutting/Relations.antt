-- The steps as relations between two shapes and the nodes of the cells.
use Rattle.std.specs.Prelude.{◌≡◌, ◌≢◌, ℕ, ◌+◌, ◌-◌, ◌<◌, ◌≤◌, ◌⊎◌, Bool, true, false, cond, eqb, leb, List, [], ◌∷◌, ◌++◌, Some, map}
use Rattle.dc_node.specs.{Entry.IsWithRow, Summary.IsSummaryOf, declared.entry.Entry.Entry}
use Rattle.dim_hierarchy.specs.Rows.{IsRowOf}
use Rattle.list_words.specs.Counts.{Among, Each, same, times, total}
use Rattle.tree_shape.specs.{Queries.fits, Shape.{Node, Shape, Table}, Trees.EntryOk, Walks.{Noted, noted_of}}

-- an entry's aggregate and set are those of these rows
abbrev pub IsSumOf : Table → List ℕ → Entry → Type 0
IsSumOf table ns e = IsSummaryOf table.hierarchy (map table.row ns) e.agg e.set

-- an entry after the row r came beneath the group with the head c
pub record Touch (table : Table) (r c : ℕ) (e e2 : Entry) : Type 0 where
  pub child : e2.child ≡ e.child
  pub stamp : e2.stamp ≡ e.stamp
  pub here : e.child ≡ c → IsWithRow table.hierarchy (table.row r) e e2
  pub elsewhere : e.child ≢ c → e2 ≡ e

abbrev pub Touched : Table → ℕ → ℕ → List Entry → List Entry → Type 0
Touched table r c [] [] = Unit {0}
Touched table r c [] (x ∷ xs) = ⊥
Touched table r c (e ∷ es) [] = ⊥
Touched table r c (e ∷ es) (e2 ∷ es2) = Touch table r c e e2 × Touched table r c es es2

-- no noted block waits for this stamp
abbrev pub NoneExpects : ℕ → List Noted → Type 0
NoneExpects t [] = Unit {0}
NoneExpects t (p ∷ ps) = (p.stamp ≢ t) × NoneExpects t ps

-- n stands behind each c
abbrev pub put_behind : ℕ → ℕ → List ℕ → List ℕ
put_behind c n [] = []
put_behind c n (y ∷ ys) = cond (eqb y c) (y ∷ n ∷ put_behind c n ys) (y ∷ put_behind c n ys)

-- a head c on level k was divided, and n took a part of what hung under it
pub record Divided (g g2 : Shape) (k c n : ℕ) : Type 0 where
  pub c_inside : g.inside c ≡ true
  pub c_level : g.level c ≡ k
  pub fresh : g.inside n ≡ false
  pub new_inside : g2.inside n ≡ true
  pub new_level : g2.level n ≡ k
  pub new_itself : g2.above n k ≡ n
  pub new_above : (l : ℕ) → k < l → g2.above n l ≡ g.above c l
  pub height : g2.height ≡ g.height
  pub inside : (y : ℕ) → y ≢ n → g2.inside y ≡ g.inside y
  pub level : (y : ℕ) → y ≢ n → g2.level y ≡ g.level y
  pub above : (y l : ℕ) → g.inside y ≡ true → g.level y ≤ l → (g2.above y l ≡ g.above y l) ⊎ ((l ≡ k) × (g.above y l ≡ c) × (g2.above y l ≡ n) × (g.level y < l))
  pub together : (y l : ℕ) → g.inside y ≡ true → g.level y ≤ l → l < k → g2.above (g.above y l) k ≡ g2.above y k
  pub placed : (r : ℕ) → g2.placed r ≡ g.placed r
  pub carried : (r : ℕ) → g2.carried r ≡ g.carried r
  pub at : (r : ℕ) → g.placed r ≡ true → (g2.at r ≡ g.at r) ⊎ ((k ≡ 0) × (g.at r ≡ c) × (g.carried r ≡ false) × (g2.at r ≡ n))

-- and so in the cells: both take stamps, n the old one and the old link, and c a fresh one and the link to n
pub record Relinked (look look2 : ℕ → Node) (c n t : ℕ) : Type 0 where
  pub head_stamp : (look2 c).stamp ≡ t
  pub head_right : (look2 c).right ≡ Some n
  pub new_stamp : (look2 n).stamp ≡ (look c).stamp
  pub new_right : (look2 n).right ≡ (look c).right
  pub other_stamp : (y : ℕ) → y ≢ c → y ≢ n → (look2 y).stamp ≡ (look y).stamp
  pub other_right : (y : ℕ) → y ≢ c → y ≢ n → (look2 y).right ≡ (look y).right

-- a noted block after a division
abbrev pub grown : ℕ → ℕ → Noted → Noted
grown c n p = record { cell = p.cell; stamp = p.stamp; level = p.level; walk = put_behind c n p.walk }

abbrev pub all_grown : ℕ → ℕ → List Noted → List Noted
all_grown c n [] = []
all_grown c n (p ∷ ps) = grown c n p ∷ all_grown c n ps

-- the same blocks, hung in the same way
pub record SameTree (g g2 : Shape) : Type 0 where
  pub height : g2.height ≡ g.height
  pub inside : (y : ℕ) → g2.inside y ≡ g.inside y
  pub level : (y : ℕ) → g2.level y ≡ g.level y
  pub above : (y l : ℕ) → g2.above y l ≡ g.above y l

-- the same stamps and links
pub record SameLinks (look look2 : ℕ → Node) : Type 0 where
  pub stamp : (y : ℕ) → (look2 y).stamp ≡ (look y).stamp
  pub right : (y : ℕ) → (look2 y).right ≡ (look y).right

-- the row r went down from the block that carried it to the block c under it
pub record Lowered (g g2 : Shape) (r c : ℕ) : Type 0 where
  pub tree : SameTree g g2
  pub c_inside : g.inside c ≡ true
  pub c_level : g.level c < g.level (g.at r)
  pub c_above : g.above c (g.level (g.at r)) ≡ g.at r
  pub r_placed : g.placed r ≡ true
  pub r_carried : g.carried r ≡ true
  pub placed : (q : ℕ) → g2.placed q ≡ g.placed q
  pub carried : (q : ℕ) → g2.carried q ≡ g.carried q
  pub now : g2.at r ≡ c
  pub at : (q : ℕ) → q ≢ r → g2.at q ≡ g.at q

-- the row r, which a leaf's holder carried, is in that leaf
pub record Settled (g g2 : Shape) (r : ℕ) : Type 0 where
  pub tree : SameTree g g2
  pub placed : (q : ℕ) → g2.placed q ≡ g.placed q
  pub now : g2.carried r ≡ false
  pub carried : (q : ℕ) → q ≢ r → g2.carried q ≡ g.carried q
  pub at : (q : ℕ) → g2.at q ≡ g.at q

-- the row r came in at the block c
pub record Came (g g2 : Shape) (r c : ℕ) : Type 0 where
  pub tree : SameTree g g2
  pub c_inside : g.inside c ≡ true
  pub before : g.placed r ≡ false
  pub now_at : g2.at r ≡ c
  pub placed : (q : ℕ) → q ≢ r → g2.placed q ≡ g.placed q
  pub carried : (q : ℕ) → q ≢ r → g2.carried q ≡ g.carried q
  pub at : (q : ℕ) → q ≢ r → g2.at q ≡ g.at q

-- what a query does with an entry
pub data Verdict : Type 0 where
  Skip : Verdict
  Note : Verdict
  Take : Verdict

abbrev pub on_note : {A : Type 0} → Verdict → A → List A → List A
on_note Skip x xs = xs
on_note Note x xs = x ∷ xs
on_note Take x xs = xs

abbrev pub on_take : {A : Type 0} → Verdict → List A → List A → List A
on_take Skip xs ys = ys
on_take Note xs ys = ys
on_take Take xs ys = xs ++ ys

abbrev pub notes : Shape → ℕ → (Entry → Verdict) → List Entry → List Noted
notes g l v [] = []
notes g l v (e ∷ es) = on_note (v e) (noted_of g l e) (notes g l v es)

abbrev pub takes : Shape → (Entry → Verdict) → List Entry → List ℕ
takes g v [] = []
takes g v (e ∷ es) = on_take (v e) (g.below e.child) (takes g v es)

-- a verdict goes by the rows beneath: all fit, or none does
pub record VerdictOk (g : Shape) (fits : ℕ → Bool) (v : Entry → Verdict) (e : Entry) : Type 0 where
  pub take : v e ≡ Take → (r : ℕ) → 1 ≤ times r (g.below e.child) → fits r ≡ true
  pub skip : v e ≡ Skip → (r : ℕ) → 1 ≤ times r (g.below e.child) → fits r ≡ false

-- what is left of a noted block's walk behind its first block
abbrev pub left_over : ℕ → ℕ → List ℕ → List Noted
left_over s l [] = []
left_over s l (z ∷ zs) = record { cell = z; stamp = s; level = l; walk = z ∷ zs } ∷ []

-- the rows of a list that fit
abbrev pub fitting : (ℕ → Bool) → List ℕ → List ℕ
fitting fits [] = []
fitting fits (r ∷ rs) = cond (fits r) (r ∷ fitting fits rs) (fitting fits rs)

-- a row went down onto a head that was not divided, or after it was
pub record LoweredTree (g g2 : Shape) (look look2 : ℕ → Node) (table : Table) (r c : ℕ) : Type 0 where
  pub low : Lowered g g2 r c
  pub next : g.level (g.at r) ≡ g.level c + 1
  pub c_head : g.head c ≡ c
  pub group : (h : ℕ) → g2.group h ≡ g.group h
  pub head : (y : ℕ) → g2.head y ≡ g.head y
  pub below_c : g2.below c ≡ r ∷ g.below c
  pub below : (h : ℕ) → h ≢ c → g2.below h ≡ g.below h
  pub links : SameLinks look look2
  pub rows : (y : ℕ) → (look2 y).rows ≡ (look y).rows
  pub entries : Touched table r c (look (g.at r)).entries (look2 (g.at r)).entries
  pub numbered : IsRowOf table.hierarchy (table.row r)
  pub other : (y : ℕ) → y ≢ g.at r → (look2 y).entries ≡ (look y).entries

-- What a division leaves of the items, in all cases. The head of a block is as before, or the new block in the place of c.
pub record DividedItems (g g2 : Shape) (look look2 : ℕ → Node) (k c n t : ℕ) : Type 0 where
  pub div : Divided g g2 k c n
  pub relinked : Relinked look look2 c n t
  pub waits : (b l : ℕ) → g.inside b ≡ true → g.level b ≡ l + 1 → Each (λ e. e.stamp ≢ t) (look b).entries
  pub free : (r : ℕ) → g.placed r ≡ true → g.carried r ≡ true → g.at r ≢ c
  pub c_head : g.head c ≡ c
  pub head : (y : ℕ) → y ≢ n → (g2.head y ≡ g.head y) ⊎ ((g.level y ≡ k) × (g.head y ≡ c) × (g2.head y ≡ n))
  pub rows : (r : ℕ) → times r (look c).rows ≡ times r (look2 c).rows + times r (look2 n).rows
  pub entries : (f : Entry → ℕ) → total f (look c).entries ≡ total f (look2 c).entries + total f (look2 n).entries
  pub left : Each (λ e. Among e (look c).entries) (look2 c).entries
  pub right : Each (λ e. Among e (look c).entries) (look2 n).entries
  pub other_rows : (y : ℕ) → y ≢ c → y ≢ n → (look2 y).rows ≡ (look y).rows
  pub at_right : (r : ℕ) → g.placed r ≡ true → g.at r ≡ c → g.carried r ≡ false → same (g2.at r) n ≡ times r (look2 n).rows
  pub above_right : (y j : ℕ) → g.inside y ≡ true → k ≡ j + 1 → g.level y ≤ j → g.above y k ≡ c → same (g2.above y k) n ≡ total (λ e. times (g.above y j) (g.group e.child)) (look2 n).entries

-- the new block joins the group
pub record Joined (g g2 : Shape) (look look2 : ℕ → Node) (k c n t : ℕ) : Type 0 where
  pub items : DividedItems g g2 look look2 k c n t
  pub new_head : g2.head n ≡ c
  pub head : (y : ℕ) → y ≢ n → g2.head y ≡ g.head y
  pub group : (h : ℕ) → g2.group h ≡ put_behind c n (g.group h)
  pub below : (h : ℕ) → g2.below h ≡ g.below h
  pub other : (y : ℕ) → y ≢ c → y ≢ n → (look2 y).entries ≡ (look y).entries

-- two entries in place of the one whose child is c
abbrev pub parted : ℕ → Entry → Entry → List Entry → List Entry
parted c a b [] = []
parted c a b (e ∷ es) = cond (eqb e.child c) (a ∷ b ∷ parted c a b es) (e ∷ parted c a b es)

-- how often r is among the rows of a block, or beneath its entries
abbrev pub part_rows : Shape → Node → ℕ → ℕ → ℕ
part_rows g b k r = cond (eqb k 0) (times r b.rows) (total (λ e. times r (g.below e.child)) b.entries)

-- The group that an entry leads to is c and the blocks behind it, its tail. Now c is a group, and n is the head of another
-- one, which has the tail behind it; and the parent has an entry for each.
pub record Parted (g g2 : Shape) (look look2 : ℕ → Node) (table : Table) (k c n t top : ℕ) (tail : List ℕ) (a b old : Entry) : Type 0 where
  pub items : DividedItems g g2 look look2 k c n t
  pub old_ok : EntryOk g look table k old
  pub old_child : old.child ≡ c
  pub old_stamp : old.stamp ≢ t
  pub new_head : g2.head n ≡ n
  pub tail_head : (y : ℕ) → 1 ≤ times y tail → g2.head y ≡ n
  pub other_head : (y : ℕ) → y ≢ n → times y tail ≡ 0 → g2.head y ≡ g.head y
  pub free_tail : (r : ℕ) → g.placed r ≡ true → g.carried r ≡ true → times (g.at r) tail ≡ 0
  pub group_was : g.group c ≡ c ∷ tail
  pub group_c : g2.group c ≡ c ∷ []
  pub group_n : g2.group n ≡ n ∷ tail
  pub group : (h : ℕ) → h ≢ c → h ≢ n → g2.group h ≡ g.group h
  pub below : (h : ℕ) → h ≢ c → h ≢ n → g2.below h ≡ g.below h
  pub below_c : (r : ℕ) → times r (g2.below c) ≡ part_rows g (look2 c) k r
  pub below_n : (r : ℕ) → times r (g2.below n) ≡ total (λ y. part_rows g (look2 y) k r) (n ∷ tail)
  pub a_child : a.child ≡ c
  pub a_stamp : a.stamp ≡ t
  pub a_sum : IsSumOf table (g2.below c) a
  pub b_child : b.child ≡ n
  pub b_stamp : b.stamp ≡ old.stamp
  pub b_sum : IsSumOf table (g2.below n) b
  pub top_is : g.above c (k + 1) ≡ top
  pub top_in : g.inside top ≡ true
  pub top_level : g.level top ≡ k + 1
  pub entries : (look2 top).entries ≡ parted c a b (look top).entries
  pub other : (y : ℕ) → y ≢ c → y ≢ n → y ≢ top → (look2 y).entries ≡ (look y).entries

-- whether a block hangs under an entry of the list, which c had on level k
abbrev pub goes : Shape → ℕ → ℕ → List Entry → ℕ → Bool
goes g k c right y = cond (g.inside y) (cond (leb k (g.level y)) false (cond (eqb (g.above y k) c) (leb 1 (total (λ e. times (g.above y (k - 1)) (g.group e.child)) right)) false)) false

abbrev pub settles : Shape → ℕ → List ℕ → ℕ → Bool
settles g c right r = cond (g.placed r) (cond (g.carried r) false (cond (eqb (g.at r) c) (leb 1 (times r right)) false)) false

-- the shape after a division, but for groups
abbrev pub made : Shape → ℕ → ℕ → ℕ → Node → (ℕ → ℕ) → (ℕ → List ℕ) → (ℕ → List ℕ) → Shape
made g k c n right heads groups belows = record {
  height = g.height;
  inside = λ y. cond (eqb y n) true (g.inside y);
  level = λ y. cond (eqb y n) k (g.level y);
  above = λ y l. cond (eqb y n) (cond (eqb l k) n (g.above c l)) (cond (eqb l k) (cond (goes g k c right.entries y) n (g.above y l)) (g.above y l));
  group = groups;
  placed = g.placed;
  carried = g.carried;
  at = λ r. cond (settles g c right.rows r) n (g.at r);
  below = belows;
  head = heads;
}

-- the new block has this head, and each other block the one that it had
abbrev pub heads_with : Shape → ℕ → ℕ → ℕ → ℕ
heads_with g n new_head y = cond (eqb y n) new_head (g.head y)

-- and where the new block is a head, that of the tail too
abbrev pub heads_parted : Shape → ℕ → List ℕ → ℕ → ℕ
heads_parted g n tail y = cond (eqb y n) n (cond (leb 1 (times y tail)) n (g.head y))

-- a row is put in its leaf
pub record SettledTree (g g2 : Shape) (look look2 : ℕ → Node) (r : ℕ) : Type 0 where
  pub put : Settled g g2 r
  pub r_placed : g.placed r ≡ true
  pub r_carried : g.carried r ≡ true
  pub low : g.level (g.at r) ≡ 0
  pub group : (h : ℕ) → g2.group h ≡ g.group h
  pub head : (y : ℕ) → g2.head y ≡ g.head y
  pub below : (h : ℕ) → g2.below h ≡ g.below h
  pub links : SameLinks look look2
  pub rows : (q : ℕ) → times q (look2 (g.at r)).rows ≡ times q (look (g.at r)).rows + same q r
  pub other : (y : ℕ) → y ≢ g.at r → (look2 y).rows ≡ (look y).rows
  pub entries : (y : ℕ) → (look2 y).entries ≡ (look y).entries

-- a shape in which r is in its leaf
abbrev pub put : Shape → ℕ → Shape
put g r = record g { carried = λ q. cond (eqb q r) false (g.carried q) }

-- the gate is the one block on the highest level, with one entry. A new root m is put between it and the root, with that entry
pub record Raised (g g2 : Shape) (look look2 : ℕ → Node) (h gate m : ℕ) (root new : Entry) : Type 0 where
  pub height : g.height ≡ h + 1
  pub height2 : g2.height ≡ h + 2
  pub some : 1 ≤ h
  pub gate_in : g.inside gate ≡ true
  pub gate_level : g.level gate ≡ h
  pub only : (y : ℕ) → g.inside y ≡ true → g.level y ≡ h → y ≡ gate
  pub fresh : g.inside m ≡ false
  pub free : (r : ℕ) → g.placed r ≡ true → g.at r ≢ gate
  pub m_in : g2.inside m ≡ true
  pub inside : (y : ℕ) → y ≢ m → g2.inside y ≡ g.inside y
  pub m_level : g2.level m ≡ h
  pub gate_level2 : g2.level gate ≡ h + 1
  pub level : (y : ℕ) → y ≢ m → y ≢ gate → g2.level y ≡ g.level y
  pub above : (y l : ℕ) → y ≢ m → l < h → g2.above y l ≡ g.above y l
  pub above_h : (y : ℕ) → y ≢ gate → g2.above y h ≡ m
  pub above_top : (y : ℕ) → g2.above y (h + 1) ≡ gate
  pub placed : (r : ℕ) → g2.placed r ≡ g.placed r
  pub carried : (r : ℕ) → g2.carried r ≡ g.carried r
  pub at : (r : ℕ) → g2.at r ≡ g.at r
  pub group_m : g2.group m ≡ m ∷ []
  pub group : (y : ℕ) → y ≢ m → g2.group y ≡ g.group y
  pub below_m : g2.below m ≡ g.below root.child
  pub below : (y : ℕ) → y ≢ m → g2.below y ≡ g.below y
  pub head_m : g2.head m ≡ m
  pub head : (y : ℕ) → y ≢ m → g2.head y ≡ g.head y
  pub stamp : (y : ℕ) → y ≢ m → (look2 y).stamp ≡ (look y).stamp
  pub right : (y : ℕ) → y ≢ m → (look2 y).right ≡ (look y).right
  pub rows : (y : ℕ) → y ≢ m → (look2 y).rows ≡ (look y).rows
  pub entries : (y : ℕ) → y ≢ m → y ≢ gate → (look2 y).entries ≡ (look y).entries
  pub gate_was : (look gate).entries ≡ root ∷ []
  pub gate_is : (look2 gate).entries ≡ new ∷ []
  pub m_is : (look2 m).entries ≡ root ∷ []
  pub new_child : new.child ≡ m
  pub new_stamp : new.stamp ≡ (look2 m).stamp
  pub new_agg : new.agg ≡ root.agg
  pub new_set : new.set ≡ root.set

-- Down onto a head c that was divided, as the cells have it: r was carried at the parent, which has the entries es after the
-- division, and is carried at x, which is c or n.
pub record DownDivided (g : Shape) (look look3 : ℕ → Node) (table : Table) (k c n t r x : ℕ) (es : List Entry) : Type 0 where
  pub r_placed : g.placed r ≡ true
  pub r_carried : g.carried r ≡ true
  pub c_inside : g.inside c ≡ true
  pub c_level : g.level c ≡ k
  pub next : g.level (g.at r) ≡ k + 1
  pub c_above : g.above c (k + 1) ≡ g.at r
  pub c_head : g.head c ≡ c
  pub fresh : g.inside n ≡ false
  pub free : (q : ℕ) → g.placed q ≡ true → g.carried q ≡ true → g.at q ≢ c
  pub waits : (b l : ℕ) → g.inside b ≡ true → g.level b ≡ l + 1 → Each (λ e. e.stamp ≢ t) (look b).entries
  pub relinked : Relinked look look3 c n t
  pub rows : (q : ℕ) → times q (look c).rows ≡ times q (look3 c).rows + times q (look3 n).rows
  pub entries : (f : Entry → ℕ) → total f (look c).entries ≡ total f (look3 c).entries + total f (look3 n).entries
  pub left : Each (λ e. Among e (look c).entries) (look3 c).entries
  pub right : Each (λ e. Among e (look c).entries) (look3 n).entries
  pub chosen : (x ≡ c) ⊎ (x ≡ n)
  pub top : Touched table r x es (look3 (g.at r)).entries
  pub numbered : IsRowOf table.hierarchy (table.row r)
  pub top_rows : (look3 (g.at r)).rows ≡ (look (g.at r)).rows
  pub other : (y : ℕ) → y ≢ c → y ≢ n → y ≢ g.at r → look3 y ≡ look y

-- where the head was halved, the parent has its entries still
abbrev pub DownJoined : Shape → (ℕ → Node) → (ℕ → Node) → Table → ℕ → ℕ → ℕ → ℕ → ℕ → Type 0
DownJoined g look look3 table k c n t r = DownDivided g look look3 table k c n t r c (look (g.at r)).entries

-- the shape after a row went down to c
abbrev pub lower : Shape → ℕ → ℕ → Shape
lower g r c = record g { at = λ q. cond (eqb q r) c (g.at q); below = λ h. cond (eqb h c) (r ∷ g.below c) (g.below h) }

-- a row comes in at the gate, the one block on the highest level
pub record CameTree (g g2 : Shape) (look look2 : ℕ → Node) (r gate : ℕ) : Type 0 where
  pub came : Came g g2 r gate
  pub now_placed : g2.placed r ≡ true
  pub now_carried : g2.carried r ≡ true
  pub top : g.level gate + 1 ≡ g.height
  pub group : (h : ℕ) → g2.group h ≡ g.group h
  pub head : (y : ℕ) → g2.head y ≡ g.head y
  pub below : (h : ℕ) → g2.below h ≡ g.below h
  pub links : SameLinks look look2
  pub rows : (y : ℕ) → (look2 y).rows ≡ (look y).rows
  pub entries : (y : ℕ) → (look2 y).entries ≡ (look y).entries

abbrev pub all_below : Shape → List Entry → List ℕ
all_below g [] = []
all_below g (e ∷ es) = g.below e.child ++ all_below g es

-- the rows of a block on level k, or beneath its entries
abbrev pub block_rows : Shape → Node → ℕ → List ℕ
block_rows g b k = cond (eqb k 0) b.rows (all_below g b.entries)

-- and those of several blocks
abbrev pub group_rows : Shape → (ℕ → Node) → ℕ → List ℕ → List ℕ
group_rows g look k [] = []
group_rows g look k (y ∷ ys) = block_rows g (look y) k ++ group_rows g look k ys

-- where it was cut, the parent has an entry for each part
pub record DownParted (g : Shape) (look look3 : ℕ → Node) (table : Table) (k c n t r x : ℕ) (a b old : Entry) : Type 0 where
  pub down : DownDivided g look look3 table k c n t r x (parted c a b (look (g.at r)).entries)
  pub old_ok : EntryOk g look table k old
  pub old_child : old.child ≡ c
  pub old_stamp : old.stamp ≢ t
  pub tail : List ℕ
  pub group : g.group c ≡ c ∷ tail
  pub free_tail : (q : ℕ) → g.placed q ≡ true → g.carried q ≡ true → times (g.at q) tail ≡ 0
  pub a_child : a.child ≡ c
  pub a_stamp : a.stamp ≡ t
  pub a_sum : IsSumOf table (block_rows g (look3 c) k) a
  pub b_child : b.child ≡ n
  pub b_stamp : b.stamp ≡ old.stamp
  pub b_sum : IsSumOf table (group_rows g look3 k (n ∷ tail)) b

-- a head c under the block p was cut, and p has two entries in place of one; no row moved but with its leaf
pub record CutUnder (g : Shape) (look look2 : ℕ → Node) (table : Table) (k c n t p : ℕ) (a b old : Entry) : Type 0 where
  pub p_inside : g.inside p ≡ true
  pub p_level : g.level p ≡ k + 1
  pub c_inside : g.inside c ≡ true
  pub c_level : g.level c ≡ k
  pub c_above : g.above c (k + 1) ≡ p
  pub c_head : g.head c ≡ c
  pub fresh : g.inside n ≡ false
  pub free : (q : ℕ) → g.placed q ≡ true → g.carried q ≡ true → g.at q ≢ c
  pub waits : (b l : ℕ) → g.inside b ≡ true → g.level b ≡ l + 1 → Each (λ e. e.stamp ≢ t) (look b).entries
  pub relinked : Relinked look look2 c n t
  pub rows : (q : ℕ) → times q (look c).rows ≡ times q (look2 c).rows + times q (look2 n).rows
  pub entries : (f : Entry → ℕ) → total f (look c).entries ≡ total f (look2 c).entries + total f (look2 n).entries
  pub left : Each (λ e. Among e (look c).entries) (look2 c).entries
  pub right : Each (λ e. Among e (look c).entries) (look2 n).entries
  pub old_ok : EntryOk g look table k old
  pub old_child : old.child ≡ c
  pub old_stamp : old.stamp ≢ t
  pub tail : List ℕ
  pub group : g.group c ≡ c ∷ tail
  pub free_tail : (q : ℕ) → g.placed q ≡ true → g.carried q ≡ true → times (g.at q) tail ≡ 0
  pub a_child : a.child ≡ c
  pub a_stamp : a.stamp ≡ t
  pub a_sum : IsSumOf table (block_rows g (look2 c) k) a
  pub b_child : b.child ≡ n
  pub b_stamp : b.stamp ≡ old.stamp
  pub b_sum : IsSumOf table (group_rows g look2 k (n ∷ tail)) b
  pub top : (look2 p).entries ≡ parted c a b (look p).entries
  pub other_rows : (y : ℕ) → y ≢ c → y ≢ n → (look2 y).rows ≡ (look y).rows
  pub other : (y : ℕ) → y ≢ c → y ≢ n → y ≢ p → (look2 y).entries ≡ (look y).entries

-- down onto a head c that isn't divided, as the cells have it
pub record DownPassed (g : Shape) (look look3 : ℕ → Node) (table : Table) (k c r : ℕ) : Type 0 where
  pub r_placed : g.placed r ≡ true
  pub r_carried : g.carried r ≡ true
  pub c_inside : g.inside c ≡ true
  pub c_level : g.level c ≡ k
  pub next : g.level (g.at r) ≡ k + 1
  pub c_above : g.above c (k + 1) ≡ g.at r
  pub c_head : g.head c ≡ c
  pub numbered : IsRowOf table.hierarchy (table.row r)
  pub top : Touched table r c (look (g.at r)).entries (look3 (g.at r)).entries
  pub top_rows : (look3 (g.at r)).rows ≡ (look (g.at r)).rows
  pub top_stamp : (look3 (g.at r)).stamp ≡ (look (g.at r)).stamp
  pub top_right : (look3 (g.at r)).right ≡ (look (g.at r)).right
  pub other : (y : ℕ) → y ≢ g.at r → look3 y ≡ look y

-- How a shape grows by a step after which the row r is at the block x on level k: some fresh cells came to level j,
-- heads stayed heads, and of the other rows those that are carried stayed.
pub record Grew (g g3 : Shape) (fresh : ℕ → Bool) (j k r x : ℕ) : Type 0 where
  pub height : g3.height ≡ g.height
  pub inside : (y : ℕ) → fresh y ≡ false → g3.inside y ≡ g.inside y
  pub level : (y : ℕ) → fresh y ≡ false → g3.level y ≡ g.level y
  pub head : (y : ℕ) → fresh y ≡ false → g.head y ≡ y → g3.head y ≡ y
  pub new : (y : ℕ) → fresh y ≡ true → (g.inside y ≡ false) × (g3.inside y ≡ true) × (g3.level y ≡ j)
  pub placed : (q : ℕ) → g3.placed q ≡ g.placed q
  pub carried : (q : ℕ) → g3.carried q ≡ g.carried q
  pub at_r : g3.at r ≡ x
  pub at : (q : ℕ) → q ≢ r → g.placed q ≡ true → g.carried q ≡ true → g3.at q ≡ g.at q
  pub x_in : g3.inside x ≡ true
  pub x_level : g3.level x ≡ k
  pub x_head : g3.head x ≡ x

-- no entry of a tree expects the stamp
abbrev pub NoneHas : Shape → (ℕ → Node) → ℕ → Type 0
NoneHas g look u = (b l : ℕ) → g.inside b ≡ true → g.level b ≡ l + 1 → Each (λ e. e.stamp ≢ u) (look b).entries

-- the shape after a row came in at the gate
abbrev pub come : Shape → ℕ → ℕ → Shape
come g r gate = record g { placed = λ q. cond (eqb q r) true (g.placed q); carried = λ q. cond (eqb q r) true (g.carried q); at = λ q. cond (eqb q r) gate (g.at q) }

-- the shape after a new root m was put between the gate, which is on level h, and the root
abbrev pub raise : Shape → ℕ → ℕ → ℕ → ℕ → Shape
raise g h gate m root = record {
  height = h + 2;
  inside = λ y. cond (eqb y m) true (g.inside y);
  level = λ y. cond (eqb y m) h (cond (eqb y gate) (h + 1) (g.level y));
  above = λ y l. cond (eqb l (h + 1)) gate (cond (eqb l h) m (g.above y l));
  head = λ y. cond (eqb y m) m (g.head y);
  group = λ y. cond (eqb y m) (m ∷ []) (g.group y);
  below = λ y. cond (eqb y m) (g.below root) (g.below y);
  placed = g.placed;
  carried = g.carried;
  at = g.at;
}
