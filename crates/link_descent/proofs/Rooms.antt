-- Room at a head that is cut, and what is new then.
use Rattle.std.proofs.Common.{ℕ, ◌≡◌, ◌+◌, ◌≤◌, true, List, [], refl, ap, ◌∙◌, arith, inl, inr}
use Rattle.dim_hierarchy.specs.Dimension.{Dimension}
use Rattle.dc_node.specs.{Block.{is_full, IsBodyOf}, Summary.row_count, declared.block.Block.Block, declared.block.Body.Body, declared.block.Body.TheVariants.{Rows, Entries}, declared.entry.Entry.Entry}
use Rattle.cell_stock.specs.{Stock.PurseValue, declared.purse.Spare.Spare}
use Rattle.link_descent.specs.{Descend.{IsAlone, IsTakenFrom}, Divide.{body_at, front, together, ends_with, IsCutInTwo, IsCutByHead}, Room.{AreTwoGroups, MakesRoom, AreNew}, declared.descend.Room.Room, declared.descend.Room.TheVariants.{Had, Half, Two}}
use Rattle.link_descent.proofs.{Behind.{count-alone, count-behind, count-parted}, Parts.{ArePartsOf, IsCutInTwo-parts, IsCutByHead-parts, IsSummary-count}}

-- a head in two parts, of which the right one has some blocks behind it
pub record AreDivided (h : List Dimension) (old head new : Body) (behind : List Block) (most : ℕ) : Type 0 where
  pub parts : ArePartsOf h old head new
  pub count : row_count head + row_count (together new behind) ≤ most

pub divided-in-two : (h : List Dimension) (old : Block) (tail : List Block) (cell stamp : ℕ) (head new : Block) → is_full old.body ≡ true → IsBodyOf h old.body → IsCutInTwo h old cell stamp head new
    → AreDivided h old.body head.body new.body [] (row_count (together old.body tail))
divided-in-two h old tail cell stamp head new full valid cut =
    let parts = IsCutInTwo-parts h old cell stamp head new full valid cut in
    let a = count-behind old.body tail in
    let b = count-alone new.body in
    record { parts = parts; count = omega (arith, parts.rows, a, b) }

front-body_at : (b : Body) (places : List ℕ) → front (body_at b places) 0 ≡ front b 0
front-body_at (Rows rows) places = refl
front-body_at (Entries entries) places = refl

pub divided-by-head : (h : List Dimension) (old : Block) (tail : List Block) (cell stamp : ℕ) (head new : Block) → is_full old.body ≡ true → IsBodyOf h old.body → IsCutByHead h old tail cell stamp head new
    → AreDivided h old.body head.body new.body tail (row_count (together old.body tail))
divided-by-head h old tail cell stamp head new full valid cut =
    let parts = IsCutByHead-parts h old tail cell stamp head new full valid cut in
    let kind : front new.body 0 ≡ front old.body 0 = ap (λ (b : Block). front b.body 0) cut.new_is ∙ front-body_at old.body _ in
    let c = count-parted old.body head.body new.body tail kind parts.rows in
    record { parts = parts; count = omega (arith, c) }

-- what is new

pub groups-new : (h : List Dimension) (behind : List Block) (entry : Entry) (old : Body) (head new : Block) (cell most : ℕ) (r : Room) → AreDivided h old head.body new.body behind most → AreTwoGroups h behind entry head new cell r → AreNew h most r
groups-new h behind entry old head new cell most Had d g = absurd g
groups-new h behind entry old head new cell most (Half fresh) d g = absurd g
groups-new h behind entry old head new cell most (Two fresh left right) d g =
    let m = IsSummary-count h head.body left.agg left.set g.1.summary in
    let n = IsSummary-count h (together new.body behind) right.agg right.set g.2.summary in (
      rw g.0 (record { valid = d.parts.right_is.valid; room = d.parts.right_is.room }),
      record { valid = g.1.valid; few = omega (arith, m, d.count) },
      record { valid = g.2.valid; few = omega (arith, n, d.count) },
    )

-- room was made by a cut

pub room-in-two : (h : List Dimension) (tail : List Block) (entry : Entry) (head head_now new : Block) (purse purse_now : PurseValue) (spare : Spare) (r : Room) → is_full head.body ≡ true → IsTakenFrom purse spare purse_now
    → IsAlone entry head → IsCutInTwo h head spare.cell spare.stamp head_now new → AreTwoGroups h [] entry head_now new spare.cell r → MakesRoom h tail entry head head_now purse purse_now r
room-in-two h tail entry head head_now new purse purse_now spare Had full taken alone cut g = absurd g
room-in-two h tail entry head head_now new purse purse_now spare (Half fresh) full taken alone cut g = absurd g
room-in-two h tail entry head head_now new purse purse_now spare (Two fresh left right) full taken alone cut g = record {
  spare = spare;
  new = new;
  fresh_is = g.0;
  cuts = record { full = full; purse_is = taken; behind = []; cut = inl (alone, cut, refl); left_is = g.1; right_is = g.2 };
}

pub room-by-head : (h : List Dimension) (tail : List Block) (entry : Entry) (head head_now new : Block) (purse purse_now : PurseValue) (spare : Spare) (r : Room) → is_full head.body ≡ true → IsTakenFrom purse spare purse_now
    → ¬ IsAlone entry head → ends_with entry.stamp tail ≡ true → IsCutByHead h head tail spare.cell spare.stamp head_now new → AreTwoGroups h tail entry head_now new spare.cell r → MakesRoom h tail entry head head_now purse purse_now r
room-by-head h tail entry head head_now new purse purse_now spare Had full taken more ends cut g = absurd g
room-by-head h tail entry head head_now new purse purse_now spare (Half fresh) full taken more ends cut g = absurd g
room-by-head h tail entry head head_now new purse purse_now spare (Two fresh left right) full taken more ends cut g = record {
  spare = spare;
  new = new;
  fresh_is = g.0;
  cuts = record { full = full; purse_is = taken; behind = tail; cut = inr (more, ends, cut, refl); left_is = g.1; right_is = g.2 };
}
