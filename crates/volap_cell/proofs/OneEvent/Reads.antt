-- The rows that a query's reading has counted, or finds in the tree that it reads, began before the next event.
use Rattle.std.proofs.{Common.{◌≡◌, ℕ, ◌<◌, ◌≤◌, ◌∙◌, List, Bool, true, false, length, arith, refl, sym, ap, subst, ◌⊎◌, inl, inr, ◌==◌, ◌&&◌, eqb-true}, lemmas.Bool.{and_parts, cases_lt}, lemmas.List.Elements.All-contains}
use Rattle.std.specs.Prelude.{Option, Some, None, IsSome}
use Rattle.cell_stock.specs.declared.purse.Spare.{Spare}
use Rattle.dc_node.specs.declared.block.Block.{Block}
use Rattle.query_router.specs.{Desk.{DeskValue, is_refused, is_taken, state_is_refused, state_is_taken}, declared.part.Part.Part, declared.part.PartState.PartState}
use Rattle.query_router.specs.declared.part.PartState.TheVariants as state
use Rattle.row_ledger.specs.{Past.{Query, query_at}, declared.event.Event.Event}
use Rattle.shard_build.specs.shard_store.specs.{declared.gate.Gate.Gate, declared.gate.Phase.Phase}
use Rattle.list_words.specs.Counts.{times}
use Rattle.list_words.proofs.Truth.{eqb-self}
use Rattle.shard_build.specs.tree_shape.specs.Shape.{Shape}
use Rattle.volap_cell.specs.{Cells.Tag, Desking.Desking, Errands.{ReadPart, Taken, read_in_task, read_of, taken_by, taken_of}, Growing.Growing, Numbering.Numbering, Querying.{IsCounted, IsInTreeOf, Pinning, Querying, one_pin, pins_of}, Setting.{Setting, actor_count}, Stocking.IsWhole, Sums.sum_below, Values.{JobValue, ErrandValue, TaskValue, OfRow, Unread, Read}, View.{row_at, view}, World.World, declared.command.Command.Command, declared.role.Role.Role}
use Rattle.volap_cell.proofs.{OneEvent.Known.AreOlder, OneEvent.Trees.tree-row-older, Sums.sum-some}

-- who has read a gate has taken a part of the same server and shard
abbrev pub ReadersTake : (ℕ → Option Taken) → (ℕ → Option ReadPart) → Type 0
ReadersTake taken reads = (a : ℕ) (p : ReadPart) → reads a ≡ Some p → (t : Taken) × (taken a ≡ Some t) × (t.server ≡ p.server) × (t.shard ≡ p.shard)

pub read-taken : (errand : Option ErrandValue) (p : ReadPart) → read_of errand ≡ Some p → (t : Taken) × (taken_of errand ≡ Some t) × (t.server ≡ p.server) × (t.shard ≡ p.shard)
read-taken None p is = (let never : ◌≡◌ {A = Option ReadPart} None (Some p) = is in cc)
read-taken (Some e) p is = in-task e.task refl is
  where
    in-task : (task : TaskValue) → e.task ≡ task → read_in_task e task ≡ Some p → (t : Taken) × (taken_of (Some e) ≡ Some t) × (t.server ≡ p.server) × (t.shard ≡ p.shard)
    in-task (OfRow r) same is = (let never : ◌≡◌ {A = Option ReadPart} None (Some p) = is in cc)
    in-task (Unread f) same is = (let never : ◌≡◌ {A = Option ReadPart} None (Some p) = is in cc)
    in-task (Read r) same is = (let part : record { server = e.server; shard = e.shard; reading = r } ≡ p = cc in (taken_by e, refl, ap (λ (x : ReadPart). x.server) part, ap (λ (x : ReadPart). x.shard) part))

-- who has read a gate in a state has taken a part there
pub readers-take : (s : Setting) (w : World) → ReadersTake (view s w).taken (view s w).reads
readers-take s w a p is = read-taken (w.actors a).errand p is

-- the gate to which a reading is pinned has a whole tree
pub pinned-whole : (s : Setting) (tags : ℕ → Tag) (numbers : ℕ → ℕ) (roles : ℕ → Role) (settings : ℕ → Setting) (counted_in : ℕ → Bool) (purses : ℕ → List Spare) (commands : ℕ → Option Command) (taken : ℕ → Option Taken) (jobs : ℕ → Option JobValue) (gates : ℕ → Option ℕ) (phases : ℕ → Option Phase) (pins : ℕ → ℕ) (reads : ℕ → Option ReadPart)
    → Numbering s tags numbers roles settings counted_in purses commands taken jobs → ReadersTake taken reads → Pinning s gates pins reads
    → (a c : ℕ) (p : ReadPart) → reads a ≡ Some p → p.reading.pin ≡ Some c → IsWhole gates phases pins c
pinned-whole s tags numbers roles settings counted_in purses commands taken jobs gates phases pins reads numbering takes pinning a c p is pin =
    let there : a < actor_count s = elim (cases_lt a (actor_count s)) [
      | inl lt ↦ lt
      | inr ge ↦
          let nobody = numbering.nobody a ge in
          let t = takes a p is in
          let never : ◌≡◌ {A = Option Taken} None (Some t.0) = sym nobody.3 ∙ t.1 in cc
    ] in
    let one : pins_of c (reads a) ≡ 1 = ap (pins_of c) is ∙ ap (one_pin c) pin ∙ rw (eqb-self c) refl in
    let some : pins_of c (reads a) ≤ sum_below (actor_count s) (λ b. pins_of c (reads b)) = sum-some (actor_count s) (λ b. pins_of c (reads b)) a there in
    let count : pins c ≡ sum_below (actor_count s) (λ b. pins_of c (reads b)) = pinning.counts c in
    (subst (λ (o : Option ℕ). IsSome o) (sym (pinning.shard a c p is pin)) refl, inr (omega arith))

-- a part that is taken wasn't refused
pub taken-kept : (st : PartState) → state_is_taken st ≡ true → state_is_refused st ≡ false
taken-kept state.NoMemory is = (let never : false ≡ true = is in cc)
taken-kept _ is = refl

module _ (s : Setting) (h : List Event) (some : 0 < length h) (placed : ℕ → Bool) (home : ℕ → ℕ) (older : AreOlder h placed)
    (blocks : ℕ → Block) (trees : ℕ → Gate) (gates : ℕ → Option ℕ) (phases : ℕ → Option Phase) (pins : ℕ → ℕ) (desks : ℕ → DeskValue) (roles : ℕ → Role) (commands : ℕ → Option Command) (taken : ℕ → Option Taken) (reads : ℕ → Option ReadPart) (shape : ℕ → Shape) (counted : ℕ → ℕ → List ℕ)
    (takes : ReadersTake taken reads) (pinned : (a c : ℕ) (p : ReadPart) → reads a ≡ Some p → p.reading.pin ≡ Some c → IsWhole gates phases pins c)
    (growing : Growing s (row_at h) blocks trees gates phases pins shape) (desking : Desking s h desks roles commands taken) (querying : Querying s h (row_at h) blocks trees desks taken reads shape placed home counted) where
  -- what a reading has counted is what its part has
  pub reading-counts : (a of : ℕ) (q : Query) (p : ReadPart) → reads a ≡ Some p → (desks p.server).op ≡ Some of → query_at h of ≡ Some q → IsCounted s h (row_at h) placed home q p.shard (counted p.server p.shard)
  reading-counts a of q p is op asked =
      let t = takes a p is in
      let at = desking.at_parts a t.0 t.1 in
      let part = at.part in
      let x : Part = part.1 in
      let with_parts = and_parts (x.shard == t.0.shard && x.worker == t.0.worker) (is_taken x) part.4 in
      let place_parts = and_parts (x.shard == t.0.shard) (x.worker == t.0.worker) with_parts.0 in
      let op_there : (desks t.0.server).op ≡ Some of = subst (λ (n : ℕ). (desks n).op ≡ Some of) (sym t.2) op in
      let all = querying.counts t.0.server of q at.within op_there asked in
      let here = All-contains (λ (y : Part). is_refused y ≡ false → IsCounted s h (row_at h) placed home q y.shard (counted t.0.server y.shard)) (desks t.0.server).parts x all (part.0, part.2, part.3) in
      let counts : IsCounted s h (row_at h) placed home q x.shard (counted t.0.server x.shard) = here (taken-kept x.state with_parts.1) in
      let shard : x.shard ≡ p.shard = eqb-true x.shard t.0.shard place_parts.0 ∙ t.3 in
      subst (λ (n : ℕ). IsCounted s h (row_at h) placed home q p.shard (counted n p.shard)) t.2
      (subst (λ (n : ℕ). IsCounted s h (row_at h) placed home q n (counted t.0.server n)) shard counts)

  in-tree-older : (a : ℕ) (p : ReadPart) → reads a ≡ Some p → (pin : Option ℕ) → p.reading.pin ≡ pin → (n : ℕ) → IsInTreeOf shape pin n → n < length h
  in-tree-older a p is None pin_is n there = absurd there
  in-tree-older a p is (Some c) pin_is n there = tree-row-older s h some blocks trees gates phases pins shape growing c n (pinned a c p is pin_is) there

  pub reading-rows-older : (a of : ℕ) (q : Query) (p : ReadPart) → reads a ≡ Some p → (desks p.server).op ≡ Some of → query_at h of ≡ Some q
      → (n : ℕ) → (1 ≤ times n (counted p.server p.shard)) ⊎ IsInTreeOf shape p.reading.pin n → n < length h
  reading-rows-older a of q p is op asked n there = elim there [
    | inl some_there ↦ let counts = reading-counts a of q p is op asked in let u = counts.under n some_there in older.placed_rows n u.is_placed
    | inr in_tree ↦ in-tree-older a p is p.reading.pin refl n in_tree
  ]
