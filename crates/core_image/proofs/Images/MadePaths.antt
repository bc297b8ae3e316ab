-- What has its id: the shards that a server listed, and those to which rows went; and what comes from where behind a position.
use Rattle.std.proofs.{Common.{◌≡◌, ℕ, zero, suc, ◌<◌, List, [], ◌∷◌, Bool, true, false, length, Option, Some, refl, sym, ap, ◌∙◌, subst, arith, inl, inr, ◌==◌, ◌&&◌, Contains, nat_lt, option_map}, lemmas.Bool.{and_parts, cases_lt, false≢true, or_cases}}
use Rattle.std.specs.{List.{cons_option, list_any}, Prelude.{filter_map, if◌then◌else◌}}
use Rattle.describing_set.specs.declared.listing.Spot.{Spot}
use Rattle.row_ledger.specs.{Listings.places_of, Past.{Ack, Pull, ack_of, acked, before, insert_at, last_of, pull_in}, Right.{EachEvent, IsRightAck, Opens, Stands}, Shards.{comes_from, descends, first_places, ids_made, is_child, is_of, is_path, was_listed}, Site.Site, declared.event.Event.Event, declared.event.Event.TheVariants.{Acked, Synced}}
use Rattle.row_ledger.proofs.Descent.{comes_from-older, ids_made-older, live-made}
use Rattle.list_words.proofs.Elements.{Contains-nil}
use Rattle.core_image.proofs.{Images.Hosts.has-place, Images.Paths.child-comes}

module _ (site : Site) (usable : ℕ → Bool) where
  -- the shards of a listing have ids

  first-made : (h : List Event) (x : ℕ) → list_any (is_of x) (first_places site.workers) ≡ true → x < ids_made site.workers h
  first-made h x is = (let below = live-made site usable [] x tt is in omega (arith, below))

  pub listed-made : (h : List Event) → EachEvent (Opens site) h → EachEvent (Stands site usable) h → (server x : ℕ) → was_listed h server x ≡ true → x < ids_made site.workers h
  listed-made [] opens each server x is = absurd (false≢true is)
  listed-made (Synced t listing ∷ past) opens each server x is =
      elim (or_cases ((t == server) && list_any (λ (spot : Spot). spot.shard == x) listing) (list_any (λ (p : Pull). (p.server == server) && list_any (λ (spot : Spot). spot.shard == x) p.listing) (filter_map pull_in past)) is) [
        | inl new ↦
            let here : list_any (is_of x) (places_of listing) ≡ true = sym (has-place x listing) ∙ (and_parts (t == server) (list_any (λ (spot : Spot). spot.shard == x) listing) new).1 in
            elim (cases_lt (length past) site.servers) [
              | inl early ↦ first-made (Synced t listing ∷ past) x (sym (ap (list_any (is_of x)) (opens.0 early).1.places) ∙ here)
              | inr late ↦ (let pull = each.0 late in live-made site usable past x each.1 (sym (ap (list_any (is_of x)) pull.lists.places) ∙ here))
            ]
        | inr old ↦ listed-made past opens.1 each.1 server x old
      ]
  listed-made (e ∷ past) opens each server x is = ids_made-older site e past x (listed-made past opens.1 each.1 server x is)

  -- and so has the last one of a path

  last-made : (h : List Event) → EachEvent (Stands site usable) h → (x : ℕ) (path : List ℕ) → x < ids_made site.workers h → descends h x path ≡ true → last_of (x ∷ path) < ids_made site.workers h
  last-made h each x [] made is = made
  last-made h each x (y ∷ path) made is =
      let parts = and_parts (is_child h x y) (descends h y path) is in
      last-made h each y path (child-comes site usable h x y each parts.0).1 parts.1

  pub path-made : (h : List Event) → EachEvent (Opens site) h → EachEvent (Stands site usable) h → (server : ℕ) (path : List ℕ) → is_path h server path ≡ true → last_of path < ids_made site.workers h
  path-made h opens each server [] is = absurd (false≢true is)
  path-made h opens each server (x ∷ path) is =
      let parts = and_parts (was_listed h server x) (descends h x path) is in
      last-made h each x path (listed-made h opens each server x parts.0) parts.1

  -- the shard that took a row has its id
  pub acked-made : (h : List Event) → EachEvent (Opens site) h → EachEvent (Stands site usable) h → (k : Ack) → Contains (acked h) k → last_of k.path < ids_made site.workers h
  acked-made [] opens each k has = absurd (Contains-nil k has)
  acked-made (Acked of path ∷ past) opens each k has =
      let a : IsRightAck past of path = each.0 in
      let is : option_map (ack_of path) (insert_at past of) ≡ Some (record { server = a.insert.server; row = a.insert.row; path = path }) = rw a.begun refl in
      at (path-made past opens.1 each.1 a.insert.server path a.descends) refl (subst (λ (o : Option Ack). Contains (cons_option o (acked past)) k) is has) (acked-made past opens.1 each.1 k)
    where
      at : last_of path < ids_made site.workers past → {first : Ack} → first.path ≡ path → Contains (first ∷ acked past) k → (Contains (acked past) k → last_of k.path < ids_made site.workers past) → last_of k.path < ids_made site.workers past
      at made same (zero, within, here) rest = subst (λ (p : List ℕ). last_of p < ids_made site.workers past) (sym same ∙ ap (λ (b : Ack). b.path) here) made
      at made same (suc j, within, here) rest = rest (j, omega arith, here)
  acked-made (e ∷ past) opens each k has = ids_made-older site e past (last_of k.path) (acked-made past opens.1 each.1 k has)

  -- What comes from where doesn't change for shards that had their ids.

  pub ids-before : (h : List Event) (of x : ℕ) → x < ids_made site.workers (before h of) → x < ids_made site.workers h
  ids-before [] of x made = made
  ids-before (e ∷ past) of x made = at (nat_lt (length past) of) (λ m. ids-before past of x m) made
    where
      at : (v : Bool) → (x < ids_made site.workers (before past of) → x < ids_made site.workers past) → x < ids_made site.workers (if v then e ∷ past else before past of) → x < ids_made site.workers (e ∷ past)
      at true rest made = made
      at false rest made = ids_made-older site e past x (rest made)

  pub comes-before : (h : List Event) → EachEvent (Stands site usable) h → (of x y : ℕ) → y < ids_made site.workers (before h of) → comes_from h x y ≡ comes_from (before h of) x y
  comes-before [] each of x y made = refl
  comes-before (e ∷ past) each of x y made = at (nat_lt (length past) of) (λ m. comes_from-older site usable past e x y each.0 (ids-before past of y m) ∙ comes-before past each.1 of x y m) made
    where
      at : (v : Bool) → (y < ids_made site.workers (before past of) → comes_from (e ∷ past) x y ≡ comes_from (before past of) x y) → y < ids_made site.workers (if v then e ∷ past else before past of)
          → comes_from (e ∷ past) x y ≡ comes_from (if v then e ∷ past else before past of) x y
      at true rest made = refl
      at false rest made = rest made
