use Rattle.std.proofs.Common.{ℕ, ◌≡◌, ◌+◌, ◌-◌, ◌*◌, List, Option, ap, arith, refl, subst, sym}
use Rattle.server_image.specs.Registry.{RegistryValue, IsNewRegistry}
use Rattle.volap_cell.specs.{Filling.{HasPulled, IsFirstStock, IsOpened, setting_for}, Setting.{Setting, cell_count, first_stock_cell}, declared.cell.Cell.Cell}
use Rattle.volap_cell.specs.declared.cell.Cell.TheVariants as cell
use Rattle.volap_cell.proofs.FirstState.Made.{is-opened}
use Rattle.volap_cell.proofs.opening.open.Goals as goal

pub returns : goal.returns
returns c =
    let s : Setting = setting_for c.args.h.now c.args.with.now c.args.roles in
    let first : ℕ = 3 + 2 * c.from.result + c.from-workers.result in
    let first_root : ℕ = first + c.args.with.now.cells - c.from-workers.result in
    let first_gate : ℕ = first_root - c.from-workers.result in
    let servers : c.from.result ≡ s.servers = c.from.ensures in
    let workers : c.from-workers.result ≡ s.workers = c.from-workers.ensures in
    let enough = c.requires.setting.enough in
    let first_is : first ≡ first_stock_cell s = omega arith in
    let gate_at : first_gate + 2 * s.workers ≡ cell_count s = omega arith in
    let root_at : first_root + s.workers ≡ cell_count s = omega arith in
    let spots = c.in_ok-registry.registry.frontier in
    let pulled = subst (HasPulled spots s.servers) (sym c.in_ok-ledger.ensures.ok) c.in_ok-first_pulls.ensures in
    let stock_is = subst (IsFirstStock first s.stock_cells s.workers) (sym c.in_ok-stock.ensures.ok) c.in_ok-first_stock.ensures in
    let registry_ok = subst (IsNewRegistry s.hierarchy s.workers) (sym c.in_ok-registry-2.ensures.ok) c.in_ok-registry.ensures.opening in
    let spots_are : c.in_ok-registry-2.registry.value.frontier ≡ spots = ap (λ (r : RegistryValue). r.frontier) c.in_ok-registry-2.ensures.ok in
    subst (λ (xs : List (Option Cell)). IsOpened s xs c.add_actors.new.actors.items) (sym c.put_three.ensures.value)
    (is-opened s c.requires.setting spots first first_gate first_root c.in_ok-cells.cells.items c.in_ok-cells.ensures c.new-actors.result.items c.add_actors.new.actors.items
    c.in_ok-ledger.ledger.value c.in_ok-stock.stock.value c.in_ok-registry-2.registry.value (cell.Ledger c.in_ok-ledger.ledger) (cell.Stock c.in_ok-stock.stock) (cell.Registry c.in_ok-registry-2.registry)
    first_is gate_at root_at refl refl refl pulled stock_is registry_ok spots_are c.new-actors.ensures.items c.in_ok-add_actors.ensures.ok)
