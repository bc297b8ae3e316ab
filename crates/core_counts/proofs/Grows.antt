-- With an event the parts that stand go on more often by no more than such a bound grows.
use Rattle.std.proofs.{Common.{◌≡◌, ℕ, ◌+◌, ◌*◌, ◌<◌, ◌≤◌, List, [], ◌∷◌, length, Bool, true, false, not, Option, Some, None, refl, sym, ap, subst, arith, ◌==◌, ◌&&◌}, lemmas.Bool.{eqb-true, false≢true, lt-leb}, lemmas.List.Sums.sum_by-cons}
use Rattle.std.specs.Prelude.{if◌then◌else◌, nat_le}
use Rattle.list_words.proofs.Truth.{on_bool}
use Rattle.query_router.specs.{Desk.is_open, declared.part.Part.Part}
use Rattle.row_ledger.proofs.Descent.{comes_from-older}
use Rattle.row_ledger.specs.{Right.{EachEvent, Site, Stands}, Shards.{comes_from, ids_made, is_live}, Workers.{is_on, left_at}, declared.event.Event.Event, declared.event.Event.TheVariants.{Moved, Split}}
use Rattle.core_shard.proofs.FarLess.{once}
use Rattle.core_shard.specs.volap_cell.specs.{Desking.AreLinesApart, Falls.{count_events, departure, far, is_from, moves_ahead, splits_under}, Lineage.went_to}
use Rattle.core_counts.specs.Ahead.{GrowsLaw, ahead, ahead_of, is_move, is_split, most_ahead}
use Rattle.core_counts.proofs.{Above.{EachPlace, NamesMade, above, one-above}, AtFirst.{each-place, ids-grow, move-above, name-made, names-made}, LastMoves.went-on}

-- Counts.

count-less : (test other : Event → ℕ → Bool) (h : List Event) → EachPlace (λ e p. once (test e p) ≤ once (other e p)) h → count_events test h ≤ count_events other h
count-less test other [] each = omega arith
count-less test other (e ∷ past) each = (let rest = count-less test other past each.1 in let here = each.0 in omega (arith, rest, here))

-- an event that names a shard that was made, at a position below one
record IsBelow (n m : ℕ) (e : Event) (p : ℕ) : Type 0 where
  pub names : NamesMade n e
  pub low : p < m

places-below : (n m : ℕ) (h : List Event) → length h ≤ m → EachPlace (λ e p. NamesMade n e) h → EachPlace (IsBelow n m) h
places-below n m [] few each = tt
places-below n m (e ∷ past) few each = (record { names = each.0; low = omega (arith, few) }, places-below n m past (omega (arith, few)) each.1)

-- Departures.

-- b whether the event moves the shard, d whether to this worker, on whether it stood there, went whether its last move had brought it
-- there, o when it last left the worker
dep-bool : (b d on went : Bool) (o : Option ℕ) (n q : ℕ) → q < n → (b ≡ true → went ≡ true → on ≡ true)
    → once (is_from (if (if b then d else went) then None else (if (b && on) && not d then Some n else o)) q) ≤ once (is_from (if went then None else o) q)
dep-bool false d on went o n q lt there = omega arith
dep-bool true true on went o n q lt there = omega arith
dep-bool true false true went o n q lt there = (let none : nat_le n q ≡ false = lt-leb n q lt in rw none (omega arith))
dep-bool true false false true o n q lt there = absurd (false≢true (there refl refl))
dep-bool true false false false o n q lt there = omega arith

-- one of two tests is less where the one that is chosen is
pick : (b a c d e : Bool) → (b ≡ true → once a ≤ once c) → once d ≤ once e → once (if b then a else d) ≤ once (if b then c else e)
pick true a c d e f g = f refl
pick false a c d e f g = g

module _ (site : Site) (usable : ℕ → Bool) (past : List Event) (each : EachEvent (Stands site usable) past) where
  abbrev n : ℕ
  n = ids_made site.workers past

  -- no part has an earlier departure than before, as far as events before are concerned
  dep-less : (e : Event) → Stands site usable past e → (x w q : ℕ) → q < length past → once (is_from (departure site.workers (e ∷ past) x w) q) ≤ once (is_from (departure site.workers past x w) q)
  dep-less (Moved of shard to) stands x w q lt =
      dep-bool (shard == x) (to == w) (is_on site.workers past x w) (went_to past x w) (left_at site.workers past x w) (length past) q lt
      (λ same went. went-on site usable past x w each went (subst (λ (y : ℕ). is_live site.workers past y ≡ true) (eqb-true shard x same) stands.live))
  dep-less _ stands x w q lt = omega arith

  module _ (e : Event) (stands : Stands site usable past e) where
    split-same : (x : ℕ) (f : Event) → NamesMade n f → splits_under (e ∷ past) x f ≡ splits_under past x f
    split-same x (Split of shard left right) made = comes_from-older site usable past e x shard stands made
    split-same x _ made = refl

    move-less : (x w : ℕ) (f : Event) (q : ℕ) → NamesMade n f → q < length past → once (moves_ahead (e ∷ past) x (departure site.workers (e ∷ past) x w) f q) ≤ once (moves_ahead past x (departure site.workers past x w) f q)
    move-less x w (Moved of shard to) q made lt =
        let same = ap once (comes_from-older site usable past e x shard stands made) in
        pick (shard == x) (is_from (departure site.workers (e ∷ past) x w) q) (is_from (departure site.workers past x w) q) (comes_from (e ∷ past) x shard) (comes_from past x shard)
        (λ t. dep-less e stands x w q lt) (omega (arith, same))
    move-less x w _ q made lt = omega arith

    below : EachPlace (IsBelow n (length past)) past
    below = places-below n (length past) past (omega arith) (names-made site usable n past each (omega arith))

    older-splits : (x : ℕ) → count_events (λ f p. splits_under (e ∷ past) x f) past ≤ count_events (λ f p. splits_under past x f) past
    older-splits x = count-less (λ f p. splits_under (e ∷ past) x f) (λ f p. splits_under past x f) past
        (each-place (IsBelow n (length past)) (λ f p. once (splits_under (e ∷ past) x f) ≤ once (splits_under past x f)) (λ f p b. let same = ap once (split-same x f b.names) in omega (arith, same)) past below)

    older-moves : (x w : ℕ) → count_events (moves_ahead (e ∷ past) x (departure site.workers (e ∷ past) x w)) past ≤ count_events (moves_ahead past x (departure site.workers past x w)) past
    older-moves x w = count-less (moves_ahead (e ∷ past) x (departure site.workers (e ∷ past) x w)) (moves_ahead past x (departure site.workers past x w)) past
        (each-place (IsBelow n (length past)) (λ f p. once (moves_ahead (e ∷ past) x (departure site.workers (e ∷ past) x w) f p) ≤ once (moves_ahead past x (departure site.workers past x w) f p))
        (λ f p b. move-less x w f p b.names b.low) past below)

  -- How much an event adds for one part, and for all.

  abbrev pub added : Event → ℕ → ℕ
  added (Split of shard left right) x = 2 * once (comes_from past x shard)
  added (Moved of shard to) x = once (comes_from past x shard)
  added _ x = 0

  -- the event itself
  head-few : (e : Event) → Stands site usable past e → (x : ℕ) (o : Option ℕ) → 2 * once (splits_under (e ∷ past) x e) + once (moves_ahead (e ∷ past) x o e (length past)) ≤ added e x
  head-few (Split of shard left right) stands x o =
      let made = name-made site usable (Split of shard left right) past n each stands (omega arith) in
      let same = ap once (comes_from-older site usable past (Split of shard left right) x shard stands made) in
      omega (arith, same)
  head-few (Moved of shard to) stands x o =
      let made = name-made site usable (Moved of shard to) past n each stands (omega arith) in
      let same = ap once (comes_from-older site usable past (Moved of shard to) x shard stands made) in
      let own = move-above (Moved of shard to ∷ past) x o shard (length past) in
      omega (arith, same, own)
  head-few _ stands x o = omega arith

  far-grows : (e : Event) → Stands site usable past e → (x w : ℕ) → far site.workers (e ∷ past) x w ≤ far site.workers past x w + added e x
  far-grows e stands x w =
      let ss = older-splits e stands x in
      let ms = older-moves e stands x w in
      let head = head-few e stands x (departure site.workers (e ∷ past) x w) in
      omega (arith, ss, ms, head)

  abbrev adds : Event → List Part → ℕ
  adds e [] = 0
  adds e (p ∷ parts) = added e p.shard + adds e parts

  part-grows : (e : Event) → Stands site usable past e → (p : Part) → ahead_of site.workers (e ∷ past) p ≤ ahead_of site.workers past p + added e p.shard
  part-grows e stands p = on_bool (is_open p)
      (λ t. let far = far-grows e stands p.shard p.worker in rw t far)
      (λ t. rw t (omega arith))

  parts-grow : (e : Event) → Stands site usable past e → (parts : List Part) → ahead site.workers (e ∷ past) parts ≤ ahead site.workers past parts + adds e parts
  parts-grow e stands [] = omega arith
  parts-grow e stands (p ∷ parts) =
      let here = part-grows e stands p in
      let rest = parts-grow e stands parts in
      let was = sum_by-cons (ahead_of site.workers past) p parts in
      let now = sum_by-cons (ahead_of site.workers (e ∷ past)) p parts in
      omega (arith, here, rest, was, now)

  adds-split : (of shard left right : ℕ) (parts : List Part) → adds (Split of shard left right) parts ≡ 2 * above past parts shard
  adds-split of shard left right [] = refl
  adds-split of shard left right (p ∷ parts) = (let rest = adds-split of shard left right parts in omega (arith, rest))

  adds-move : (of shard to : ℕ) (parts : List Part) → adds (Moved of shard to) parts ≡ above past parts shard
  adds-move of shard to [] = refl
  adds-move of shard to (p ∷ parts) = (let rest = adds-move of shard to parts in omega (arith, rest))

  added-none : (e : Event) → is_split e ≡ false → is_move e ≡ false → (x : ℕ) → added e x ≡ 0
  added-none (Split of shard left right) no_split no_move x = absurd (false≢true (sym no_split))
  added-none (Moved of shard to) no_split no_move x = absurd (false≢true (sym no_move))
  added-none _ no_split no_move x = refl

  adds-none : (e : Event) → is_split e ≡ false → is_move e ≡ false → (parts : List Part) → adds e parts ≡ 0
  adds-none e no_split no_move [] = refl
  adds-none e no_split no_move (p ∷ parts) = (let here = added-none e no_split no_move p.shard in let rest = adds-none e no_split no_move parts in omega (arith, here, rest))

  -- What it adds for all parts is no more than what it adds to the bound.

  module _ (parts : List Part) (apart : AreLinesApart past parts) where
    by-split : (e : Event) → Stands site usable past e → is_split e ≡ true → adds e parts + most_ahead site.workers past ≤ most_ahead site.workers (e ∷ past)
    by-split (Split of shard left right) stands is =
        let made = name-made site usable (Split of shard left right) past n each stands (omega arith) in
        let one = one-above site usable past each shard made parts apart in
        let few = adds-split of shard left right parts in
        omega (arith, one, few)
    by-split _ stands is = absurd (false≢true is)

    by-move : (e : Event) → Stands site usable past e → is_move e ≡ true → adds e parts + most_ahead site.workers past ≤ most_ahead site.workers (e ∷ past)
    by-move (Moved of shard to) stands is =
        let made = name-made site usable (Moved of shard to) past n each stands (omega arith) in
        let one = one-above site usable past each shard made parts apart in
        let few = adds-move of shard to parts in
        omega (arith, one, few)
    by-move _ stands is = absurd (false≢true is)

    by-other : (e : Event) → is_split e ≡ false → is_move e ≡ false → adds e parts + most_ahead site.workers past ≤ most_ahead site.workers (e ∷ past)
    by-other e no_split no_move =
        let none = adds-none e no_split no_move parts in
        let more = ids-grow site e past in
        let no_s = ap once no_split in
        let no_m = ap once no_move in
        omega (arith, none, more, no_s, no_m)

    adds-few : (e : Event) → Stands site usable past e → adds e parts + most_ahead site.workers past ≤ most_ahead site.workers (e ∷ past)
    adds-few e stands = on_bool (is_split e) (λ t. by-split e stands t) (λ t. on_bool (is_move e) (λ u. by-move e stands u) (λ u. by-other e t u))

    pub grows : (e : Event) → Stands site usable past e → ahead site.workers (e ∷ past) parts + most_ahead site.workers past ≤ ahead site.workers past parts + most_ahead site.workers (e ∷ past)
    grows e stands =
        let all = parts-grow e stands parts in
        let few = adds-few e stands in
        omega (arith, all, few)

pub grows-law : GrowsLaw
grows-law site usable e past parts stands are = grows site usable past are.each parts are.apart e stands
