-- Where shards are: the registry has those that stand, and the workers' tables lead from each id that a server or a part may
-- still have to a gate, or on to children or another worker.
use Rattle.std.specs.Prelude.{ℕ, ◌≡◌, ◌≢◌, ◌==◌, ◌<◌, ◌⊎◌, ◌||◌, Bool, true, false, IsTrue, IsSome, List, [], ◌∷◌, Option, Some, None, All, Contains, if◌then◌else◌}
use Rattle.describing_set.specs.{Plane.IsHierarchyPlane, declared.listing.Spot.Spot, declared.plane.Plane.Plane}
use Rattle.cell_stock.specs.Stock.{StockValue}
use Rattle.mapping_table.specs.declared.place.Where.{Where}
use Rattle.mapping_table.specs.declared.place.Where.TheVariants as where_is
use Rattle.query_router.specs.{Desk.{DeskValue, is_open}, declared.part.Part.Part}
use Rattle.row_ledger.specs.{Listings.places_of, Shards.{frontier, ids_made, is_child, is_live}, Workers.{is_on, left_at}, declared.event.Event.Event, declared.event.Event.TheVariants.{Moved, Split}}
use Rattle.server_image.specs.{Image.ImageValue, Registry.RegistryValue}
use Rattle.shard_build.specs.shard_store.specs.{declared.gate.Phase.Phase, declared.gate.Phase.TheVariants.Gone}
use Rattle.volap_cell.specs.Setting.{Setting}

-- the last move of a shard brought it to the worker
abbrev pub went_to : List Event → ℕ → ℕ → Bool
went_to [] x w = false
went_to (Moved of shard to ∷ past) x w = if shard == x then to == w else went_to past x w
went_to (e ∷ past) x w = went_to past x w

-- a shard stands on a worker, or stood there once
abbrev pub was_on : ℕ → List Event → ℕ → ℕ → Bool
was_on workers [] x w = is_on workers [] x w
was_on workers (e ∷ past) x w = is_on workers (e ∷ past) x w || was_on workers past x w

-- The registry has the shards that stand, and a table leads to the gate of each, from the worker that has it, and from no other. A
-- shard that was split leads to its children, by a plane of the hierarchy, where its last move had brought it. A shard that has
-- moved leads on, and the farther the later it moved. So a worker's table knows each shard that ever stood there.
pub record Lineage (s : Setting) (history : List Event) (stock : StockValue) (registry : RegistryValue) (maps : ℕ → ℕ → Option Where) (gates : ℕ → Option ℕ) (phases : ℕ → Option Phase) (gate : ℕ → ℕ) : Type 0 where
  pub ids : stock.ids ≡ ids_made s.workers history
  pub front : places_of registry.frontier ≡ frontier s.workers history
  pub gate_of : (x w : ℕ) → is_on s.workers history x w ≡ true → (maps w x ≡ Some (where_is.Gate (gate x))) × (gates (gate x) ≡ Some x) × (phases (gate x) ≢ Some Gone)
  pub known : (x w : ℕ) → was_on s.workers history x w ≡ true → IsSome (maps w x)
  pub live : (c x : ℕ) → gates c ≡ Some x → phases c ≢ Some Gone → (is_live s.workers history x ≡ true) × (gate x ≡ c)
  pub leads : (w x c : ℕ) → maps w x ≡ Some (where_is.Gate c) → (is_on s.workers history x w ≡ true) × (gate x ≡ c)
  pub split : (w x l r : ℕ) (plane : Plane) → maps w x ≡ Some (where_is.Split plane l r)
      → IsTrue (is_child history x l) × IsTrue (is_child history x r) × (l ≢ r) × IsSome (maps w l) × IsSome (maps w r)
  pub divided : (w x l r : ℕ) (plane : Plane) → maps w x ≡ Some (where_is.Split plane l r)
      → IsHierarchyPlane s.hierarchy plane × ((of : ℕ) × Contains history (Split of x l r)) × ((went_to history x w ≡ true) ⊎ (left_at s.workers history x w ≡ None))
  pub moved : (w x v : ℕ) → maps w x ≡ Some (where_is.Moved v) → (v < s.workers) × (v ≢ w) × IsSome (maps v x) × IsSome (left_at s.workers history x w) × (went_to history x w ≡ false)
  pub later : (w x v u p q : ℕ) → maps w x ≡ Some (where_is.Moved v) → maps v x ≡ Some (where_is.Moved u) → left_at s.workers history x w ≡ Some p → left_at s.workers history x v ≡ Some q → p < q
  pub made : (c x : ℕ) → gates c ≡ Some x → x < ids_made s.workers history

-- each shard that a server lists, and that of each open part, is in its worker's table
pub record Leading (s : Setting) (maps : ℕ → ℕ → Option Where) (images : ℕ → ImageValue) (desks : ℕ → DeskValue) : Type 0 where
  pub spots : (server : ℕ) → server < s.servers → All (λ (x : Spot). (x.worker < s.workers) × IsSome (maps x.worker x.shard)) (images server).spots
  pub parts : (server : ℕ) → server < s.servers → All (λ (p : Part). is_open p ≡ true → (p.worker < s.workers) × IsSome (maps p.worker p.shard)) (desks server).parts
