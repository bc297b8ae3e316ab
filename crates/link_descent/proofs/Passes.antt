-- Steps at which nothing is divided.
use Rattle.std.proofs.Common.{ℕ, ◌≡◌, ◌<◌, inl, List, length, refl, sym, ap, ◌∙◌}
use Rattle.std.specs.Prelude.{slice_get, slice_set, Some}
use Rattle.dim_hierarchy.specs.{Dimension.Dimension, declared.row.Row.Row}
use Rattle.dc_node.specs.{Block.{entries_in, with_entries}, Entry.{IsWithRow, HasRowMore}, declared.block.Block.Block, declared.entry.Entry.Entry}
use Rattle.dc_node.proofs.Places.{set-entry}
use Rattle.shard_store.specs.{Gate.root_entry, declared.gate.Gate.Gate}
use Rattle.link_descent.specs.Pass.{PassesDown, PassesIn}

-- the entry was changed where it stands
pub passes-down : (h : List Dimension) (row : Row) (place n : ℕ) (parent parent_now : Block) → n ≡ place → place < length (entries_in parent.body)
    → (now : List Entry) → HasRowMore h row n (entries_in parent.body) now → parent_now ≡ with_entries parent now
    → PassesDown h row place parent parent_now
passes-down h row place n parent parent_now at within now more is =
    let entries = entries_in parent.body in
    let here : slice_get entries place ≡ Some more.entry = ap (slice_get entries) (sym at) ∙ more.entry_at in
    record {
      entry = more.entry;
      entry_at = here;
      step = λ tail child purse room. record {
        entry = more.entry;
        entry_at = here;
        step = inl (
          more.entry_now,
          record {
            parent_is = is ∙ ap (with_entries parent) (more.now_is ∙ ap (λ k. slice_set entries k more.entry_now) at ∙ set-entry entries place more.entry_now within);
          },
          record { room = room; entry_is = more.counted; head_is = refl; purse_is = refl; fresh = refl; at = refl },
        );
      };
    }

-- the gate counts the row
pub passes-in : (h : List Dimension) (row : Row) (gate gate_now : Gate) (entry_now : Entry) → IsWithRow h row (root_entry gate) entry_now → gate_now ≡ record gate { agg = entry_now.agg; set = entry_now.set } → PassesIn h row gate gate_now
passes-in h row gate gate_now entry_now counted is = λ tail root purse room. record {
  step = inl (
    entry_now,
    record { gate_is = is },
    record { room = room; entry_is = counted; head_is = refl; purse_is = refl; fresh = refl; at = refl },
  );
}
