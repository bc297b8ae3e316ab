use Rattle.std.proofs.Common.{◌≡◌, ◌+◌, ◌≤◌, ◌++◌, map, take}
use Rattle.dc_node.specs.declared.entry.Entry.{Entry}
use Rattle.core_admin.proofs.collects.note_entries.Given as goal

abbrev pub invariant-loop-entry : goal.invariant-loop-entry
invariant-loop-entry l = record {
  items : l.todo.items ≡ l.initial.todo.items ++ map (λ (e : Entry). record { cell = e.child; stamp = e.stamp }) (take l.entry-index l.entries);
  room : l.initial.todo.room ≤ l.todo.room + l.entry-index;
}
