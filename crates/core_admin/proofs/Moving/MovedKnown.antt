-- A shard moves: no shard comes from others than before, and the registry's boxes stay.
use Rattle.std.proofs.Common.{◌≡◌, ℕ, List, ◌∷◌, true, refl, sym, ap, ◌∙◌, subst, ◌==◌, eqb-true}
use Rattle.std.specs.List.{AllZip}
use Rattle.describing_set.specs.{DescSet.covers, declared.listing.Spot.Spot}
use Rattle.row_ledger.specs.{Bounds.may, Listings.IsBox, Shards.{comes_from, frontier}, declared.event.Event.Event, declared.event.Event.TheVariants.Moved}
use Rattle.row_ledger.proofs.{Changes.moved-changes, Descent.comes_from-self}
use Rattle.server_image.specs.Registry.{RegistryValue}
use Rattle.core_tree.specs.tree_shape.specs.Queries.{fits}
use Rattle.list_words.proofs.Truth.{on_bool}
use Rattle.core_tree.specs.volap_cell.specs.{Ghost.Ghost, Growing.IsUnder, Imaging.Fits, Invariant.InvWith, Setting.Setting, View.{View, view}, World.World}
use Rattle.core_image.proofs.Images.Boxes.{All-zip, Any-zip}
use Rattle.core_admin.proofs.{Moving.MovedShards.live-moved, ShardLines.{KeepsBoxes, KeepsLines}}

-- the same box of the same shard
abbrev pub IsSameBox : Spot → Spot → Type 0
IsSameBox old new = (new.shard ≡ old.shard) × (new.set ≡ old.set)

module _ (s : Setting) (w : World) (g : Ghost) (i : InvWith s (view s w) g) (of shard to : ℕ) where
  abbrev v : View
  v = view s w

  abbrev h : List Event
  h = v.history

  abbrev e : Event
  e = Moved of shard to

  pub comes : (x y : ℕ) → comes_from (e ∷ h) x y ≡ comes_from h x y
  comes x y = on_bool (y == x)
      (λ q. let same : y ≡ x = eqb-true y x q in rw q (sym (ap (comes_from h x) same ∙ comes_from-self h x)))
      (λ q. rw q refl)

  -- Rows of shards.

  pub under-moved : (x r : ℕ) → IsUnder h g.placed g.home x r → IsUnder (e ∷ h) g.placed g.home x r
  under-moved x r u = record { is_placed = u.is_placed; comes = comes x (g.home r) ∙ u.comes }

  pub under-before : (x r : ℕ) → IsUnder (e ∷ h) g.placed g.home x r → IsUnder h g.placed g.home x r
  under-before x r u = record { is_placed = u.is_placed; comes = sym (comes x (g.home r)) ∙ u.comes }

  pub moved-lines : KeepsLines s v g g.home e
  moved-lines =
      let k = moved-changes s.hierarchy s.workers of shard to h in record {
        no_insert = refl;
        no_query = refl;
        acks = k.acks;
        pulls = k.pulls;
        knowledge = k.knowledge;
        comes = λ x y made. comes x y;
        under = under-moved;
        under_was = λ x r made. under-before x r;
        from = λ x is. (x, sym (live-moved shard to x (frontier s.workers h)) ∙ is, λ z c. comes z x ∙ c);
      }

  -- the boxes of the registry stay
  module _ (registry : RegistryValue) (same : AllZip IsSameBox v.registry.frontier registry.frontier) where
    fits-there : (r : ℕ) → Fits s.hierarchy v.row g.home v.registry.frontier r → Fits s.hierarchy v.row g.home registry.frontier r
    fits-there r f = Any-zip IsSameBox (λ (z : Spot). (z.shard ≡ g.home r) × (covers s.hierarchy z.set (v.row r).at ≡ true)) (λ (z : Spot). (z.shard ≡ g.home r) × (covers s.hierarchy z.set (v.row r).at ≡ true))
        (λ x y box both. (box.0 ∙ both.0, subst (λ set. covers s.hierarchy set (v.row r).at ≡ true) (sym box.1) both.1)) v.registry.frontier registry.frontier same f

    pub moved-boxes : KeepsBoxes s v g g.home registry
    moved-boxes = record {
      boxes = All-zip IsSameBox (λ (z : Spot). IsBox s.hierarchy (may g.placed h) z.set) (λ (z : Spot). IsBox s.hierarchy (may g.placed h) z.set) (λ x y box is. subst (IsBox s.hierarchy (may g.placed h)) (sym box.1) is)
          v.registry.frontier registry.frontier same i.covering.boxes;
      fits = λ r placed f. fits-there r f;
      came = λ r p off. fits-there r (i.covering.came r p off);
    }
