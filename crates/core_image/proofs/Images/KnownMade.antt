-- A shard that a worker's table knows was made.
use Rattle.std.proofs.{Common.{◌≡◌, ℕ, ◌<◌, Option, Some, None, refl}, lemmas.Bool.{false≢true}}
use Rattle.std.specs.Prelude.{IsSome}
use Rattle.mapping_table.specs.declared.place.Where.{Where}
use Rattle.mapping_table.specs.declared.place.Where.TheVariants as where_is
use Rattle.row_ledger.specs.{Shards.ids_made, Workers.left_at}
use Rattle.row_ledger.proofs.Descent.{split-made}
use Rattle.volap_cell.specs.{Ghost.Ghost, Invariant.InvWith, Setting.{Setting, site_in}, View.View}
use Rattle.volap_cell.proofs.Histories.Departures.{left-moves, moves-made}

module _ (s : Setting) (v : View) (g : Ghost) (i : InvWith s v g) where
  pub known-made : (x y : ℕ) → IsSome (v.maps y x) → x < ids_made s.workers v.history
  known-made x y some = by (v.maps y x) refl some
    where
      moved : (o : Option ℕ) → left_at s.workers v.history x y ≡ o → IsSome o → x < ids_made s.workers v.history
      moved None is some = absurd (false≢true some)
      moved (Some p) is some = moves-made (site_in s) g.placed v.history x p i.telling.right.right.each (left-moves s.workers v.history x y p is)

      by : (o : Option Where) → v.maps y x ≡ o → IsSome o → x < ids_made s.workers v.history
      by None is some = absurd (false≢true some)
      by (Some (where_is.Gate c)) is some = (let leads = i.lineage.leads y x c is in i.lineage.made (g.gate x) x (i.lineage.gate_of x y leads.0).1)
      by (Some (where_is.Split plane l r)) is some = (split-made (site_in s) g.placed v.history x l r i.telling.right.right.each (i.lineage.divided y x l r plane is).1).0
      by (Some (where_is.Moved to)) is some = moved (left_at s.workers v.history x y) refl (i.lineage.moved y x to is).3
