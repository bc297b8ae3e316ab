-- One event more, of any sort: trees and queues over a table of rows that changes at the newest position alone.
use Rattle.std.proofs.{Common.{◌≡◌, ℕ, ◌<◌, ◌≤◌, ◌∙◌, List, [], ◌∷◌, Bool, true, length, refl, sym, ap, arith, inl, inr}, lemmas.Bool.cases_lt}
use Rattle.std.specs.Prelude.{Option}
use Rattle.dim_hierarchy.specs.declared.row.Row.{Row}
use Rattle.dc_node.specs.declared.block.Block.{Block}
use Rattle.row_ledger.specs.{Kept.KeepsRight, declared.event.Event.Event}
use Rattle.row_ledger.proofs.Positions.{event_at-past}
use Rattle.shard_build.specs.shard_store.specs.{declared.gate.Gate.Gate, declared.gate.Phase.Phase, declared.queue.Queue.Queue}
use Rattle.list_words.specs.Counts.{Each}
use Rattle.shard_build.specs.tree_shape.specs.{Shape.Shape, Tables.{AreAlike, IsThere}}
use Rattle.shard_build.specs.tree_shape.proofs.Whole.Tables.{tree-alike}
use Rattle.volap_cell.specs.{Growing.{table_of, Growing, Queueing}, Numbering.IsSetting, Setting.{Setting, site_in}, Stocking.{cells_at, IsWhole}, View.{row_at, no_row}}
use Rattle.volap_cell.proofs.OneEvent.Older.{row-older}

-- there is a past: each server has pulled
pub past-there : (s : Setting) (placed : ℕ → Bool) (h : List Event) → IsSetting s → KeepsRight (site_in s) placed h → 0 < length h
past-there s placed h setting right = let some : 0 < s.servers = setting.servers in let opened : s.servers ≤ length h = right.right.opened in omega arith

-- no row stands past the newest position
pub no-row-past : (h : List Event) (r : ℕ) → length h ≤ r → row_at h r ≡ no_row
no-row-past h r beyond = rw (event_at-past h r beyond) refl

-- a row that has the number of its place began before
pub named-older : (h : List Event) (r : ℕ) → 0 < length h → (row_at h r).no ≡ r → r < length h
named-older h r some named = elim (cases_lt r (length h)) [
  | inl lt ↦ lt
  | inr ge ↦
      let none : 0 ≡ r = ap (λ (x : Row). x.no) (sym (no-row-past h r ge)) ∙ named in
      omega arith
]

-- the rows of a tree began before
pub tree-row-older : (s : Setting) (h : List Event) → 0 < length h
    → (blocks : ℕ → Block) (trees : ℕ → Gate) (gates : ℕ → Option ℕ) (phases : ℕ → Option Phase) (pins : ℕ → ℕ) (shape : ℕ → Shape)
    → Growing s (row_at h) blocks trees gates phases pins shape → (c r : ℕ) → IsWhole gates phases pins c → (shape c).placed r ≡ true → r < length h
tree-row-older s h some blocks trees gates phases pins shape i c r whole is_placed =
    let tree = i.tree c whole in let named = tree.numbered r is_placed in named-older h r some named.0

module _ (s : Setting) (e : Event) (h : List Event) (some : 0 < length h) where
  -- Trees.

  pub growing-grown : (blocks : ℕ → Block) (trees : ℕ → Gate) (gates : ℕ → Option ℕ) (phases : ℕ → Option Phase) (pins : ℕ → ℕ) (shape : ℕ → Shape)
      → Growing s (row_at h) blocks trees gates phases pins shape → Growing s (row_at (e ∷ h)) blocks trees gates phases pins shape
  growing-grown blocks trees gates phases pins shape i = record {
    tree = λ c whole.
        let alike : AreAlike (IsThere (shape c)) (table_of s (row_at h)) (table_of s (row_at (e ∷ h))) =
        record { hierarchy = refl; row = λ r is_placed. row-older e h r (tree-row-older s h some blocks trees gates phases pins shape i c r whole is_placed) } in
        tree-alike (table_of s (row_at h)) (table_of s (row_at (e ∷ h))) (shape c) alike (cells_at blocks trees c) (i.tree c whole);
  }

  -- Queues.

  pub named-grown : (rows : List Row) → Each (λ r. row_at h r.no ≡ r) rows → Each (λ r. row_at (e ∷ h) r.no ≡ r) rows
  named-grown [] i = tt
  named-grown (r ∷ rows) i =
      let older : r.no < length h = named-older h r.no some (ap (λ (x : Row). x.no) i.0) in
      (row-older e h r.no older ∙ i.0, named-grown rows i.1)

  pub queueing-grown : (gates : ℕ → Option ℕ) (phases : ℕ → Option Phase) (queues : ℕ → Queue) → Queueing s (row_at h) gates phases queues → Queueing s (row_at (e ∷ h)) gates phases queues
  queueing-grown gates phases queues i = record {
    queue = i.queue;
    named = λ c is. named-grown (queues c).rows (i.named c is);
    upto = i.upto;
  }
