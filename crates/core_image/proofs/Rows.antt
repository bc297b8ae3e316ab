-- Rows of a state: those that have passed a gate have coordinates of the hierarchy, and an insert's row began with it.
use Rattle.std.proofs.Common.{◌≡◌, ℕ, Bool, true, Option, Some, option_and_then, sym, ap, ◌∙◌, subst, Contains}
use Rattle.dim_hierarchy.specs.{Row.IsCoordOf, declared.row.Row.Row}
use Rattle.row_ledger.specs.{Bounds.may, Past.{begun, insert_at, insert_in}, declared.event.Event.Event}
use Rattle.list_words.proofs.Elements.{Contains-filtered}
use Rattle.row_ledger.proofs.SettledAnswer.{begun-at}
use Rattle.volap_cell.specs.{Ghost.Ghost, ImageKinds.doing, Invariant.InvWith, Setting.{Setting, site_in}, View.{View, view, row_at, row_or}, World.World, declared.command.Work.TheVariants.Insert, declared.role.Role.TheVariants.Session}

module _ (s : Setting) (w : World) (g : Ghost) (i : InvWith s (view s w) g) where
  abbrev v : View
  v = view s w

  pub row-coords : (r : ℕ) → g.placed r ≡ true → IsCoordOf s.hierarchy (row_at v.history r).at
  row-coords r p = (let b = i.placing.begun r p in subst (λ (x : Row). IsCoordOf s.hierarchy x.at) (sym (ap row_or b.1)) (i.telling.rows r b.0 b.1).0)

  pub may-coords : (r : Row) → Contains (may g.placed v.history) r → IsCoordOf s.hierarchy r.at
  may-coords r has =
      let f = begun-at (site_in s) g.placed v.history r i.telling.right.right.each (Contains-filtered (λ (x : Row). g.placed x.no) (begun v.history) r has) in
      let ins : insert_at v.history r.no ≡ Some (record { server = f.1; row = r }) = ap (λ (o : Option Event). option_and_then insert_in o) f.2 in
      (i.telling.rows r.no _ ins).0

  pub begun-of : (n of server : ℕ) (row : Row) {routed : Bool} → v.commands n ≡ doing of (Insert row routed) → v.roles n ≡ Session server → (insert_at v.history of ≡ Some (record { server = server; row = row })) × (row.no ≡ of)
  begun-of n of server row {routed} has role =
      let progress = i.telling.progress n (record { of = of; work = Insert row routed }) has in
      let sessions : Session progress.0 ≡ Session server = sym progress.1 ∙ role in
      let servers : progress.0 ≡ server = cc in
      (progress.2 ∙ ap (λ (x : ℕ). Some (record { server = x; row = row })) servers, progress.3)
