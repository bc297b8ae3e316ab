-- One event more, that splits and moves no shard: what images list and cover, and what the registry's boxes cover.
use Rattle.std.proofs.{Common.{◌≡◌, ◌≢◌, ℕ, ◌<◌, ◌∙◌, List, ◌∷◌, Bool, true, IsTrue, length, refl, sym, ap, subst, ◌⊎◌, inl, inr, All, Any, Contains}, lemmas.List.Elements.{All-weaker, All-contains, All-contains_itself}}
use Rattle.std.specs.{List.AllZip, Prelude.{Option, Some}}
use Rattle.dim_hierarchy.specs.{Dimension.Dimension, declared.row.Row.Row}
use Rattle.describing_set.specs.{DescSet.covers, declared.listing.Spot.Spot}
use Rattle.row_ledger.specs.{Bounds.{published, listing_of, known, may}, Changes.{ShardsStay, AcksStay, PullsStay, KnowledgeStays}, Listings.{IsBox, places_of}, Past.{Ack, Insert, insert_at, insert_in, acked, last_of}, Shards.comes_from, declared.event.Event.Event}
use Rattle.row_ledger.proofs.{Answering.{All-published, All-known}, Older.acked-older}
use Rattle.server_image.specs.{Image.ImageValue, Registry.RegistryValue, declared.image.Growth.Growth}
use Rattle.shard_build.specs.shard_store.specs.declared.queue.Queue.{Queue}
use Rattle.shard_build.specs.tree_shape.specs.Shape.{Shape}
use Rattle.volap_cell.specs.{Errands.RowWay, Imaging.{HasGrown, IsGrowth, IsImageOf, IsCovered, Fits, Covering, Imaging}, Placing.Placing, Setting.Setting, View.row_at, declared.command.Command.Command}
use Rattle.volap_cell.proofs.OneEvent.Older.{live-stays, comes-stays, insert-within, kind-older, row-older, box-older, Any-weaker}

-- Rows that have passed a gate, and so all that were acknowledged, began before.
pub record AreOlder (h : List Event) (placed : ℕ → Bool) : Type 0 where
  pub placed_rows : (r : ℕ) → placed r ≡ true → r < length h
  pub acked_rows : (k : Ack) → Contains (acked h) k → placed k.row.no ≡ true

pub older-rows : (s : Setting) (h : List Event) {commands : ℕ → Option Command} {ways : ℕ → Option RowWay} {queues : ℕ → Queue} {gate : ℕ → ℕ} {shape : ℕ → Shape} {placed : ℕ → Bool} {home : ℕ → ℕ} {path : ℕ → List ℕ}
    → Placing s h commands ways queues gate shape placed home path → AreOlder h placed
older-rows s h i = record {
  placed_rows = λ r p. let b = i.begun r p in insert-within h r b.0 b.1;
  acked_rows = λ k has. let t = i.acked_rows k has in t.0;
}

-- what is so of each element that is there
pub All-inside : {X : Type 0} (P Q : X → Type 0) (xs : List X) → ((x : X) → Contains xs x → P x → Q x) → All P xs → All Q xs
All-inside P Q xs f all = All-weaker (Contains xs) Q (λ x has. f x has (All-contains P xs x all has)) xs (All-contains_itself xs)

-- what is published, and what a server must know, was acknowledged

pub published-acked : (h : List Event) (k : Ack) → Contains (published h) k → Contains (acked h) k
published-acked h k has = All-contains (Contains (acked h)) (published h) k (All-published (Contains (acked h)) h (All-contains_itself (acked h))) has

pub known-acked : (hierarchy : List Dimension) (h : List Event) (server : ℕ) (k : Ack) → Contains (known hierarchy h server) k → Contains (acked h) k
known-acked hierarchy h server k has = All-contains (Contains (acked h)) (known hierarchy h server) k (All-known (Contains (acked h)) hierarchy h server (All-contains_itself (acked h))) has

module _ (s : Setting) (e : Event) (h : List Event) (stay : ShardsStay s.workers e h) (placed : ℕ → Bool) (older : AreOlder h placed) where
  placed-row : (r : ℕ) → placed r ≡ true → row_at (e ∷ h) r ≡ row_at h r
  placed-row r p = row-older e h r (older.placed_rows r p)

  -- Images.

  pub growth-grown : (g : Growth) → IsGrowth s h (row_at h) placed g → IsGrowth s (e ∷ h) (row_at (e ∷ h)) placed g
  growth-grown g i = record {
    made = subst (λ (n : ℕ). g.shard < n) (sym stay.ids) i.made;
    number = i.number;
    is_placed = i.is_placed;
    at = ap (λ (r : Row). r.at) (placed-row i.number i.is_placed) ∙ i.at;
  }

  pub image-grown : (server : ℕ) (image : ImageValue) → listing_of (e ∷ h) server ≡ listing_of h server
      → IsImageOf s h (row_at h) placed server image → IsImageOf s (e ∷ h) (row_at (e ∷ h)) placed server image
  image-grown server image lists i = record {
    places = i.places ∙ ap places_of (sym lists);
    grown = subst (λ (spots : List Spot). AllZip (HasGrown s.hierarchy) spots image.spots) (sym lists) i.grown;
    apart = λ x y a b comes. i.apart x y a b (sym (comes-stays s.workers e h stay x y) ∙ comes);
    whole = λ x live. Any-weaker (λ (spot : Spot). IsTrue (comes_from h spot.shard x)) (λ (spot : Spot). IsTrue (comes_from (e ∷ h) spot.shard x))
        (λ spot comes. comes-stays s.workers e h stay spot.shard x ∙ comes) image.spots (i.whole x (sym (live-stays s.workers e h stay x) ∙ live));
    boxes = box-older s.hierarchy placed e h image.spots i.boxes;
    growths = All-weaker (IsGrowth s h (row_at h) placed) (IsGrowth s (e ∷ h) (row_at (e ∷ h)) placed) growth-grown image.growths i.growths;
  }

  -- nobody pulls
  pub imaging-grown : (images : ℕ → ImageValue) → PullsStay e h → Imaging s h (row_at h) images placed → Imaging s (e ∷ h) (row_at (e ∷ h)) images placed
  imaging-grown images pulls i = record { image = λ server within. image-grown server (images server) (pulls.listing server) (i.image server within) }

  -- Boxes.

  pub fits-grown : (home : ℕ → ℕ) (spots : List Spot) (r : ℕ) → placed r ≡ true → Fits s.hierarchy (row_at h) home spots r → Fits s.hierarchy (row_at (e ∷ h)) home spots r
  fits-grown home spots r p i = subst (λ (x : Row). Any (λ (spot : Spot). (spot.shard ≡ home r) × (covers s.hierarchy spot.set x.at ≡ true)) spots) (sym (placed-row r p)) i

  pub covered-grown : (home : ℕ → ℕ) (spots : List Spot) (r : ℕ) → placed r ≡ true → IsCovered s.hierarchy h (row_at h) home spots r → IsCovered s.hierarchy (e ∷ h) (row_at (e ∷ h)) home spots r
  covered-grown home spots r p i =
      let same : row_at (e ∷ h) r ≡ row_at h r = placed-row r p in
      Any-weaker (λ (spot : Spot). IsTrue (comes_from h spot.shard (home r)) × (covers s.hierarchy spot.set (row_at h r).at ≡ true))
      (λ (spot : Spot). IsTrue (comes_from (e ∷ h) spot.shard (home r)) × (covers s.hierarchy spot.set (row_at (e ∷ h) r).at ≡ true))
      (λ spot both. (comes-stays s.workers e h stay spot.shard (home r) ∙ both.0, ap (λ (x : Row). covers s.hierarchy spot.set x.at) same ∙ both.1)) spots i

  abbrev IsNoted : (row : ℕ → Row) → List Spot → (ℕ → ImageValue) → (ℕ → ℕ) → Ack → Type 0
  IsNoted row spots images home k = Fits s.hierarchy row home spots k.row.no ⊎ Contains (images k.server).growths (record { shard = last_of k.path; at = k.row.at })

  -- the parts of Covering, each for what was acknowledged before
  module _ (registry : RegistryValue) (images : ℕ → ImageValue) (home : ℕ → ℕ) (path : ℕ → List ℕ) (i : Covering s h (row_at h) registry images placed home path) where
    pub boxes-grown : All (λ (spot : Spot). IsBox s.hierarchy (may placed (e ∷ h)) spot.set) registry.frontier
    boxes-grown = box-older s.hierarchy placed e h registry.frontier i.boxes

    pub came-grown : (r : ℕ) → placed r ≡ true → home r ≢ last_of (path r) → Fits s.hierarchy (row_at (e ∷ h)) home registry.frontier r
    came-grown r p off = fits-grown home registry.frontier r p (i.came r p off)

    pub pushed-grown : All (λ (k : Ack). Fits s.hierarchy (row_at (e ∷ h)) home registry.frontier k.row.no) (published h)
    pushed-grown = All-inside (λ (k : Ack). Fits s.hierarchy (row_at h) home registry.frontier k.row.no) (λ (k : Ack). Fits s.hierarchy (row_at (e ∷ h)) home registry.frontier k.row.no) (published h)
        (λ k has. fits-grown home registry.frontier k.row.no (older.acked_rows k (published-acked h k has))) i.pushed

    pub noted-grown : All (IsNoted (row_at (e ∷ h)) registry.frontier images home) (acked h)
    noted-grown = All-inside (IsNoted (row_at h) registry.frontier images home) (IsNoted (row_at (e ∷ h)) registry.frontier images home) (acked h)
        (λ k has n. elim n [ inl f ↦ inl (fits-grown home registry.frontier k.row.no (older.acked_rows k has) f) | inr g ↦ inr g ]) i.noted

    pub must-grown : (server : ℕ) → server < s.servers → All (λ (k : Ack). IsCovered s.hierarchy (e ∷ h) (row_at (e ∷ h)) home (images server).spots k.row.no) (known s.hierarchy h server)
    must-grown server within = All-inside (λ (k : Ack). IsCovered s.hierarchy h (row_at h) home (images server).spots k.row.no)
        (λ (k : Ack). IsCovered s.hierarchy (e ∷ h) (row_at (e ∷ h)) home (images server).spots k.row.no) (known s.hierarchy h server)
        (λ k has. covered-grown home (images server).spots k.row.no (older.acked_rows k (known-acked s.hierarchy h server k has))) (i.must server within)

    pub unacked-grown : (r : ℕ) (insert : Insert) → placed r ≡ true → insert_at (e ∷ h) r ≡ Some insert → ((k : Ack) → Contains (acked (e ∷ h)) k → k.row.no ≢ r)
        → Any (λ (spot : Spot). Contains (path r) spot.shard) (images insert.server).spots ⊎ IsCovered s.hierarchy (e ∷ h) (row_at (e ∷ h)) home (images insert.server).spots r
    unacked-grown r insert p is none =
        let was : insert_at h r ≡ Some insert = sym (kind-older insert_in e h r (older.placed_rows r p)) ∙ is in
        elim (i.unacked r insert p was (λ k has. none k (acked-older e h k has))) [
          | inl lists ↦ inl lists
          | inr covers ↦ inr (covered-grown home (images insert.server).spots r p covers)
        ]

    -- nothing is acknowledged, and nobody pulls
    pub covering-grown : AcksStay e h → PullsStay e h → KnowledgeStays s.hierarchy e h → Covering s (e ∷ h) (row_at (e ∷ h)) registry images placed home path
    covering-grown acks pulls knowledge = record {
      boxes = boxes-grown;
      came = came-grown;
      pushed = subst (All (λ (k : Ack). Fits s.hierarchy (row_at (e ∷ h)) home registry.frontier k.row.no)) (sym pulls.published) pushed-grown;
      noted = subst (All (IsNoted (row_at (e ∷ h)) registry.frontier images home)) (sym acks.acked) noted-grown;
      must = λ server within.
          let same : known s.hierarchy (e ∷ h) server ≡ known s.hierarchy h server = rw (acks.own server, pulls.passed server, knowledge.listed server) refl in
          subst (All (λ (k : Ack). IsCovered s.hierarchy (e ∷ h) (row_at (e ∷ h)) home (images server).spots k.row.no)) (sym same) (must-grown server within);
      unacked = unacked-grown;
    }
