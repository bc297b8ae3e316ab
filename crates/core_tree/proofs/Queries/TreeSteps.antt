-- A commit of blocks by which a row goes on in its tree, down or into its leaf, keeps the whole invariant, and less is left.
use Rattle.std.proofs.{Common.{◌≡◌, ◌≢◌, ℕ, ◌+◌, ◌<◌, ◌≤◌, Bool, true, false, cond, eqb, leb, List, [], ◌∷◌, ◌++◌, Option, Some, None, refl, sym, ap, ◌∙◌, subst, ◌⊎◌, inl, inr, arith}, lemmas.Bool.{leb-true, leb-false, eqb-true, ne_eqb}}
use Rattle.cell_stock.specs.declared.purse.Spare.{Spare}
use Rattle.query_router.specs.declared.part.Part.{Part}
use Rattle.std.specs.Prelude.{sum_by}
use Rattle.list_words.specs.Counts.{Each}
use Rattle.list_words.proofs.Truth.{on_bool, eqb-self}
use Rattle.volap_cell.specs.tree_shape.specs.{Laws.{OtherLaw, CollectOtherLaw}, Shape.Shape}
use Rattle.volap_cell.specs.{Cells.{CellValue, block_in, has_block}, Errands.{RowWay, AtBlock, ReadPart, way_of, taken_of, place_of, row_way, has_passed, is_filled}, Falls.{left, far, rows_of_way, rows_of_task, rows_of_errand, gates_of_way, gates_of_task, gates_of_errand, gates_of_work, gates_of_part, control_of, of_work, job_left, gone_left, one_if_any, rows_of_part}, Ghost.{Ghost, Owner, InTree, InPurse}, Growing.table_of, Invariant.InvWith, Kinds.Does, Setting.{Setting, actor_count, cell_count}, Steps.{HasSight, IsKept}, Stocking.cells_at, Sums.sum_below, TreeKinds.{HasRow, on_way}, Turning.{is_inside, inside_of}, Values.{ActorValue, ErrandValue}, View.{View, view}, World.{World, Change, put, after, Agrees}, declared.errand.RowErrand.RowErrand, declared.errand.Way.Way, declared.errand.Way.TheVariants.{Before, Carried, Placed, Put}, declared.kind.Kind.Kind}
use Rattle.volap_cell.proofs.{Actors.{row-at, taken-is}, OneEvent.Ahead.job-stays, Promised.reads-taken, Sums.{sum-same, sum-some, sum-less}, Views.Commits.view-after, Views.Frames.{Same, AreAt, holds-still, actor-at, actor-off, unmoved-one}, Views.Seen.{Touched, ActorSeen, nothing, beside, actor_beside, renewed}}
use Rattle.core_tree.proofs.{Rows.Carriers.{Carries, carries}, Rows.Less.{rows-as-before, any-front}, Rows.Moves.{Moved, Went, TreeMoves, moved-growing, moved-numbering, moved-turning, counts-same, level-kept, moved-stocking, moved-stamping}, Rows.MovesRest.{moved-resting, moved-placing, moved-inserting, moved-querying, moved-working}, Stocks.Spares.moved_owner, Stocks.Stamps.Restamps}

-- what such a commit touches
abbrev pub of_steps : Touched
of_steps = record nothing { blocks = true; purses = true; boxes = true; ways = true }

-- the cell is of the tree, or of the actor's purse, or its block stays
abbrev pub IsOwn : (ℕ → Owner) → ℕ → ℕ → Change → Type 0
IsOwn owner c n x = (owner x.number ≡ InTree c) ⊎ (owner x.number ≡ InPurse n) ⊎ (block_in x.now ≡ block_in x.before)

-- any other cell has its block as before
pub block-off : (cs : List Change) (cells : ℕ → CellValue) (owner : ℕ → Owner) (c n y : ℕ) → AreAt cells cs → Each (IsOwn owner c n) cs → owner y ≢ InTree c → owner y ≢ InPurse n → block_in (put cs cells y) ≡ block_in (cells y)
block-off [] cells owner c n y at own nt np = refl
block-off (x ∷ cs) cells owner c n y at own nt np =
    let ih = block-off cs cells owner c n y at.1 own.1 nt np in
    on_bool (eqb y x.number)
    (λ q. let e = eqb-true _ _ q in
    ap (λ (b : Bool). block_in (cond b x.now (put cs cells y))) q
    ∙ elim own.0 [
      | inl t ↦ absurd (nt (ap owner e ∙ t))
      | inr w ↦ elim w [
        | inl p ↦ absurd (np (ap owner e ∙ p))
        | inr s ↦ s ∙ ap block_in (sym at.0) ∙ ap (λ (z : ℕ). block_in (cells z)) (sym e)
      ]
    ])
    (λ q. ap (λ (b : Bool). block_in (cond b x.now (put cs cells y))) q ∙ ih)

abbrev pub with_shape : (ℕ → Shape) → ℕ → Shape → ℕ → Shape
with_shape shape c g2 d = cond (eqb d c) g2 (shape d)

-- What a kind of this sort shows of its own: the row was carried at a block of the gate's tree, and goes on.
pub record TreeStep (s : Setting) (w : World) (n : ℕ) (cs : List Change) (b : ActorValue) (g : Ghost) : Type 0 where
  pub e : ErrandValue
  pub r : RowErrand
  pub has : HasRow (w.actors n) e r
  pub gate : ℕ
  pub block : ℕ
  pub carried : r.way ≡ Carried gate block
  pub way : Way
  pub errand : b.errand ≡ on_way e r way
  pub rest : actor_beside of_steps b ≡ actor_beside of_steps (w.actors n)
  pub cells : Same (beside of_steps) cs
  pub made : Each (λ c. has_block c.now ≡ true) cs
  pub own : Each (IsOwn g.owner gate n) cs
  pub shape : Shape
  pub used : List Spare
  pub purse : (w.actors n).purse ≡ b.purse ++ used
  pub fresh : Each (λ x. has_block (put cs w.cells x.cell) ≡ true) used
  pub stamps : Restamps (g.shape gate).inside (view s w).made (view s (after w cs n b)).made (view s w).blocks (view s (after w cs n b)).blocks used
  pub moved : Moved (table_of s (view s w).row) (cells_at (view s w).blocks (view s w).trees gate) (cells_at (view s (after w cs n b)).blocks (view s w).trees gate) (g.shape gate) shape r.row.no used
  pub went : Went shape gate r.row.no b.purse b.boxes (place_of way)
  pub inside : (d : ℕ) → is_inside d (place_of way) ≡ is_inside d (AtBlock gate block)
  pub passed : has_passed (place_of way) ≡ true
  pub ahead : (far : ℕ) → gates_of_way far way ≡ 0
  pub less : rows_of_way (with_shape g.shape gate shape) way < (g.shape gate).level block + 4

-- Small facts.

-- a row that has passed its gate is none for which the purse was filled
passed-unfilled : (w : Way) → has_passed (place_of w) ≡ true → is_filled w ≡ false
passed-unfilled (Before height filled) e = cc
passed-unfilled (Carried gate block) e = refl
passed-unfilled (Put gate) e = refl
passed-unfilled Placed e = refl

none-of : {A : Type 0} (o : Option A) → ((x : A) → o ≡ Some x → ⊥) → o ≡ None
none-of None f = refl
none-of (Some x) f = absurd (f x refl)

module _ (s : Setting) (w : World) (n : ℕ) (cs : List Change) (b : ActorValue) (g : Ghost) (other : OtherLaw) (collects : CollectOtherLaw) (i : InvWith s (view s w) g)
    (ag : Agrees w cs n (w.actors n)) (t : TreeStep s w n cs b g) where
  abbrev v : View
  v = view s w

  abbrev w2 : World
  w2 = after w cs n b

  abbrev v2 : View
  v2 = renewed of_steps (view s w2) v

  abbrev g2 : Ghost
  g2 = record g { shape = with_shape g.shape t.gate t.shape; owner = moved_owner t.used t.gate g.owner }

  abbrev way : RowWay
  way = row_way t.e t.r

  same : view s w2 ≡ v2
  same = view-after of_steps s w cs n b ag.cells t.cells t.rest

  me : w2.actors n ≡ b
  me = actor-at w.actors n b

  was : v.ways n ≡ Some way
  was = row-at t.has

  taken : taken_of (w.actors n).errand ≢ None
  taken e = (let k = taken-is t.has.errand t.has.row in let z = sym k ∙ e in cc)

  few : n < actor_count s
  few = on_bool (leb (actor_count s) n) (λ q. absurd (taken (i.numbering.nobody n (leb-true _ _ q)).3)) (λ q. leb-false _ _ q)

  readers : (a : ℕ) (p : ReadPart) → v.reads a ≡ Some p → a < actor_count s
  readers a p is = on_bool (leb (actor_count s) a) (λ q. absurd (reads-taken (w.actors a).errand p is (i.numbering.nobody a (leb-true _ _ q)).3)) (λ q. leb-false _ _ q)

  jobless : v.jobs n ≡ None
  jobless = none-of (v.jobs n) (λ j is. i.numbering.parts n _ (taken-is t.has.errand t.has.row) (i.numbering.working n j is))

  at-block : place_of t.r.way ≡ AtBlock t.gate t.block
  at-block = ap place_of t.carried

  -- the row is in the tree of the gate of its shard, which stands
  here : Carries s v g t.gate t.block way
  here = carries s v g refl i n t.gate t.block way was at-block

  shape-at : g2.shape t.gate ≡ t.shape
  shape-at = rw (eqb-self t.gate) refl

  moves : TreeMoves s v v2 g g2 n t.gate
  moves = record {
    way = way;
    place = place_of t.way;
    was = was;
    is = ap (λ (a : ActorValue). way_of a.errand) me ∙ ap way_of t.errand ∙ (λ k. Some (record way { place = place_of t.way; filled = passed-unfilled t.way t.passed k }));
    from = λ d y p. let z : AtBlock d y ≡ AtBlock t.gate t.block = sym p ∙ at-block in cc;
    is_gate = here.whole.0;
    stands = here.in_tree.stands;
    gate_is = here.in_tree.gate_is;
    used = t.used;
    purse = subst (λ (a : ActorValue). (w.actors n).purse ≡ a.purse ++ t.used) (sym me) t.purse;
    moved = subst (λ (z : Shape). Moved (table_of s v.row) (cells_at v.blocks v.trees t.gate) (cells_at v2.blocks v.trees t.gate) (g.shape t.gate) z t.r.row.no t.used) (sym shape-at) t.moved;
    went = subst (λ (z : Shape). Went z t.gate t.r.row.no (v2.purses n) (v2.boxes n) (place_of t.way)) (sym shape-at)
        (subst (λ (a : ActorValue). Went t.shape t.gate t.r.row.no a.purse a.boxes (place_of t.way)) (sym me) t.went);
    off = λ y nt np. block-off cs w.cells g.owner t.gate n y ag.cells t.own nt np;
    still = λ y. holds-still (λ c. has_block c ≡ true) cs w.cells t.made y;
    fresh = t.fresh;
    stamps = t.stamps;
    ways_off = λ a ne. ap (λ (z : ActorValue). way_of z.errand) (actor-off w.actors n b a ne);
    purses_off = λ a ne. ap (λ (z : ActorValue). z.purse) (actor-off w.actors n b a ne);
    boxes_off = λ a ne. ap (λ (z : ActorValue). z.boxes) (actor-off w.actors n b a ne);
    trees_off = λ d ne. refl;
    shape_off = λ d ne. rw (ne_eqb d t.gate ne) refl;
    owner = λ y. refl;
    gate_same = λ x. refl;
    home_off = λ q ne. refl;
  }

  -- the insert is counted at its gate
  busy : 1 ≤ v.active t.gate
  busy =
      let one : ◌≡◌ {A = ℕ} (inside_of t.gate (v.ways n)) 1 = ap (inside_of t.gate) was ∙ ap (is_inside t.gate) at-block ∙ (rw (eqb-self t.gate) refl) in
      let some = sum-some (actor_count s) (λ a. inside_of t.gate (v.ways a)) n few in
      let all = i.turning.counts t.gate in omega arith

  placed : (g.shape t.gate).placed t.r.row.no ≡ true
  placed = here.in_tree.placed

  pub holds : InvWith s v2 g2
  unfolding moves
  holds = record {
    numbering = moved-numbering s v v2 g g2 n t.gate other i moves;
    telling = i.telling;
    owing = i.owing;
    turning = moved-turning s v v2 g g2 n t.gate other i moves v.active (counts-same s v v2 g g2 n t.gate other i moves (λ d. t.inside d ∙ ap (is_inside d) (sym at-block)));
    stocking = moved-stocking s v v2 g g2 n t.gate other i moves;
    stamping = moved-stamping s v v2 g g2 n t.gate other i moves;
    lineage = i.lineage;
    leading = i.leading;
    growing = moved-growing s v v2 g g2 n t.gate other i moves;
    queueing = i.queueing;
    resting = moved-resting s v v2 g g2 n t.gate other i moves;
    placing = moved-placing s v v2 g g2 n t.gate other i moves placed;
    inserting = moved-inserting s v v2 g g2 n t.gate other i moves (t.passed ∙ ap has_passed (sym at-block));
    imaging = i.imaging;
    covering = i.covering;
    desking = i.desking;
    pinning = i.pinning;
    querying = moved-querying s v v2 g g2 n t.gate other i moves readers (λ a of q p is op asks np. let z : true ≡ false = sym placed ∙ np in cc);
    working = moved-working s v v2 g g2 n t.gate other i moves collects jobless
        (λ d upto is idle e. let z : v.active t.gate ≡ 0 = ap v.active (sym e) ∙ idle in omega (arith, busy)) (λ d upto is. refl) (λ d upto is. refl);
    balancing = i.balancing;
    reusing = i.reusing;
  }

  -- What is left.

  actor-same : {A : Type 0} (f : ActorValue → A) → f b ≡ f (w.actors n) → (a : ℕ) → f (w2.actors a) ≡ f (w.actors a)
  actor-same f e a = unmoved-one f w.actors n b e a

  command : b.command ≡ (w.actors n).command
  command = ap (λ (x : ActorSeen). x.command) t.rest

  job : b.job ≡ (w.actors n).job
  job = ap (λ (x : ActorSeen). x.job) t.rest

  control-same : (left s w2 g2).control ≡ (left s w g).control
  control-same =
      ap (λ (u : View). sum_below (actor_count s) (λ a. of_work (control_of s) (w2.actors a).command + job_left s u (w2.actors a).job) + sum_below (cell_count s) (λ y. gone_left (u.phases y) (u.gone y))) same
      ∙ ap (λ (x : ℕ). x + sum_below (cell_count s) (λ y. gone_left (v.phases y) (v.gone y)))
      (sum-same (actor_count s) (λ a. of_work (control_of s) (w.actors a).command + job_left s v (w.actors a).job) (λ a. of_work (control_of s) (w2.actors a).command + job_left s v2 (w2.actors a).job)
      (λ a lt.
      let one = actor-same (λ z. of_work (control_of s) z.command) (ap (of_work (control_of s)) command) a in
      let two = actor-same (λ z. job_left s v2 z.job) (ap (job_left s v2) job) a in
      let three = job-stays s v v2 refl (w.actors a).job in omega arith))

  gates-errand : gates_of_errand s v.history b.errand ≡ gates_of_errand s v.history (w.actors n).errand
  gates-errand =
      let far_ = far s.workers v.history t.e.shard t.e.worker in
      let now : gates_of_errand s v.history b.errand ≡ 0 = ap (gates_of_errand s v.history) t.errand ∙ t.ahead far_ in
      let old : gates_of_errand s v.history (w.actors n).errand ≡ 0 = ap (gates_of_errand s v.history) t.has.errand ∙ ap (gates_of_task far_) t.has.row ∙ ap (gates_of_way far_) t.carried in
      now ∙ sym old

  gates-same : (left s w2 g2).gates ≡ (left s w g).gates
  gates-same =
      ap (λ (u : View). sum_below (actor_count s) (λ a. of_work (gates_of_work u.history) (w2.actors a).command + gates_of_errand s u.history (w2.actors a).errand)
      + sum_below s.servers (λ server. sum_by (gates_of_part s u.history) (u.desks server).parts)) same
      ∙ ap (λ (x : ℕ). x + sum_below s.servers (λ server. sum_by (gates_of_part s v.history) (v.desks server).parts))
      (sum-same (actor_count s) (λ a. of_work (gates_of_work v.history) (w.actors a).command + gates_of_errand s v.history (w.actors a).errand)
      (λ a. of_work (gates_of_work v.history) (w2.actors a).command + gates_of_errand s v.history (w2.actors a).errand)
      (λ a lt.
      let one = actor-same (λ z. of_work (gates_of_work v.history) z.command) (ap (of_work (gates_of_work v.history)) command) a in
      let two = actor-same (λ z. gates_of_errand s v.history z.errand) gates-errand a in omega arith))

  rows-less : (left s w2 g2).rows < (left s w g).rows
  rows-less =
      let desks = sum_below s.servers (λ server. sum_by (λ (p : Part). rows_of_part p.state) (v.desks server).parts) in
      let is : (left s w2 g2).rows ≡ sum_below (actor_count s) (λ a. rows_of_errand g2.shape (w2.actors a).errand + one_if_any (w2.actors a).purse) + desks =
      ap (λ (u : View). sum_below (actor_count s) (λ a. rows_of_errand g2.shape (w2.actors a).errand + one_if_any (w2.actors a).purse) + sum_below s.servers (λ server. sum_by (λ (p : Part). rows_of_part p.state) (u.desks server).parts)) same in
      let less = sum-less (actor_count s) (λ a. rows_of_errand g.shape (w.actors a).errand + one_if_any (w.actors a).purse) (λ a. rows_of_errand g2.shape (w2.actors a).errand + one_if_any (w2.actors a).purse) n few
      (let now : rows_of_errand g2.shape (w2.actors n).errand ≡ rows_of_way g2.shape t.way = ap (λ (a : ActorValue). rows_of_errand g2.shape a.errand) me ∙ ap (rows_of_errand g2.shape) t.errand in
      let old : rows_of_errand g.shape (w.actors n).errand ≡ (g.shape t.gate).level t.block + 4 = ap (rows_of_errand g.shape) t.has.errand ∙ ap (rows_of_task g.shape) t.has.row ∙ ap (rows_of_way g.shape) t.carried in
      let purse : one_if_any (w2.actors n).purse ≡ one_if_any b.purse = ap (λ (a : ActorValue). one_if_any a.purse) me in
      let front = any-front (w.actors n).purse b.purse t.used t.purse in
      let k = t.less in omega arith)
      (λ a ne.
      let off = actor-off w.actors n b a ne in
      let one : rows_of_errand g2.shape (w2.actors a).errand ≡ rows_of_errand g2.shape (w.actors a).errand = ap (λ (z : ActorValue). rows_of_errand g2.shape z.errand) off in
      let two : one_if_any (w2.actors a).purse ≡ one_if_any (w.actors a).purse = ap (λ (z : ActorValue). one_if_any z.purse) off in
      let three = rows-as-before g.shape g2.shape (w.actors a).errand (λ d y u is p. level-kept s v v2 g g2 n t.gate other i moves a d y u is p) in omega arith) in
      omega arith

  pub tree-kept : (k : Kind) (does : Does s.hierarchy k cs (w.actors n) b) → HasSight s w n s.hierarchy k cs (w.actors n) b does → IsKept s k n w w2 g
  tree-kept k does sight = record {
    step = record { changes = cs; actor = b; agrees = ag; does = does; sight = sight; now_is = refl };
    ghost_now = g2;
    holds = subst (λ (u : View). InvWith s u g2) (sym same) holds;
    newer = [];
    grows = ap (λ (u : View). u.history) same;
    goes_on = inl (inr (inr (inl (control-same, gates-same, rows-less))));
  }
