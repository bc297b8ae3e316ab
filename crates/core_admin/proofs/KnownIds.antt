-- An id that is still to be given out is new: no table leads from it, and no shard of it stands.
use Rattle.std.proofs.Common.{◌≡◌, ℕ, ◌<◌, ◌≤◌, false, Option, Some, None, IsSome, refl, sym, ◌∙◌, arith}
use Rattle.mapping_table.specs.declared.place.Where.{Where}
use Rattle.mapping_table.specs.declared.place.Where.TheVariants as where_is
use Rattle.row_ledger.specs.{Listings.places_of, Right.{EachEvent, Stands}, Shards.{frontier, ids_made}, Workers.left_at}
use Rattle.row_ledger.proofs.Descent.{live-made, split-made}
use Rattle.server_image.specs.Registry.{RegistryValue, on_frontier}
use Rattle.list_words.proofs.Truth.{on_bool}
use Rattle.core_tree.specs.volap_cell.specs.{Ghost.Ghost, Invariant.InvWith, Setting.{Setting, site_in}, View.View}
use Rattle.core_image.proofs.Images.Hosts.{stands-live}
use Rattle.core_tree.specs.volap_cell.proofs.Histories.Departures.{left-moves, moves-made}

module _ (s : Setting) (v : View) (g : Ghost) (i : InvWith s v g) where
  each : EachEvent (Stands (site_in s) g.placed) v.history
  each = i.telling.right.right.each

  -- each shard that has an entry was made
  pub entry-made : (w x : ℕ) (to : Where) → v.maps w x ≡ Some to → x < ids_made s.workers v.history
  entry-made w x (where_is.Gate c) is = i.lineage.made (g.gate x) x (i.lineage.gate_of x w (i.lineage.leads w x c is).0).1
  entry-made w x (where_is.Split plane l r) is = (let o = i.lineage.divided w x l r plane is in (split-made (site_in s) g.placed v.history x l r each o.1).0)
  entry-made w x (where_is.Moved to) is = at (left_at s.workers v.history x w) refl (i.lineage.moved w x to is).3
    where
      at : (o : Option ℕ) → left_at s.workers v.history x w ≡ o → IsSome o → x < ids_made s.workers v.history
      at None is some = cc
      at (Some p) is some = moves-made (site_in s) g.placed v.history x p each (left-moves s.workers v.history x w p is)

  -- the next ids lead nowhere
  pub next-nowhere : (w x : ℕ) → v.stock.ids ≤ x → v.maps w x ≡ None
  next-nowhere w x le = by (v.maps w x) refl
    where
      by : (o : Option Where) → v.maps w x ≡ o → v.maps w x ≡ None
      by None is = is
      by (Some to) is = (let lt = entry-made w x to is in let ids = i.lineage.ids in absurd (omega (arith, lt, ids, le)))

  -- and stand nowhere
  pub next-off : (r : RegistryValue) → places_of r.frontier ≡ frontier s.workers v.history → (x : ℕ) → v.stock.ids ≤ x → on_frontier x r ≡ false
  next-off r front x le = on_bool (on_frontier x r)
      (λ has.
      let made = live-made (site_in s) g.placed v.history x each (sym (stands-live s.workers v.history r front x) ∙ has) in
      let ids = i.lineage.ids in
      absurd (omega (arith, made, ids, le)))
      (λ off. off)
