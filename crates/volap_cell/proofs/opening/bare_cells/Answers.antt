use Rattle.std.proofs.Common.{ℕ, ◌-◌, ◌*◌, subst}
use Rattle.volap_cell.specs.Filling.{Adds, IsFreeCell}
use Rattle.volap_cell.proofs.opening.bare_cells.Goals as goal

pub returns : goal.returns
returns c = record {
  start = c.new-cells.result.items;
  fixed = c.add_free.new.cells.items;
  images = c.add_images.new.cells.items;
  desks = c.add_desks.new.cells.items;
  maps = c.add_maps.new.cells.items;
  free = c.add_free-2.new.cells.items;
  gates = c.add_gates.new.cells.items;
  start_is = c.new-cells.ensures.items;
  fixed_are = c.in_ok-add_free.ensures.ok;
  images_are = c.in_ok-add_images.ensures.ok;
  desks_are = c.in_ok-add_desks.ensures.ok;
  maps_are = c.in_ok-add_maps.ensures.ok;
  free_are = subst (λ (k : ℕ). Adds (c.args.with.now.cells - 2 * k) IsFreeCell c.add_maps.new.cells.items c.add_free-2.new.cells.items) c.from.ensures c.in_ok-add_free-2.ensures.ok;
  gates_are = c.in_ok-add_gates.ensures.ok;
  roots_are = c.in_ok-add_roots.ensures.ok;
}
