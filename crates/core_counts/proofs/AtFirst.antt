-- Parts whose lines are apart go on no more often than there are shards, splits and moves for.
use Rattle.std.proofs.{Common.{◌≡◌, ◌∙◌, ℕ, ◌+◌, ◌*◌, ◌<◌, ◌≤◌, List, [], ◌∷◌, length, map, Bool, true, false, All, eqb, leb, refl, sym, ap, arith, ◌==◌, Option}, lemmas.Bool.{eqb-true, eqb-false, false≢true, leb-true, leb-false}, lemmas.List.Elements.{All-head, All-tail}, lemmas.List.length-map, lemmas.List.Sums.sum_by-cons}
use Rattle.std.specs.Prelude.{if◌then◌else◌}
use Rattle.list_words.proofs.{Times.{same_not}, Truth.on_bool}
use Rattle.list_words.specs.Counts.{times}
use Rattle.query_router.specs.{Desk.is_open, declared.part.Part.Part}
use Rattle.row_ledger.proofs.Descent.{comes_from-self, live-made}
use Rattle.row_ledger.specs.{Right.{EachEvent, Site, Stands}, Shards.{comes_from, ids_made}, declared.event.Event.Event, declared.event.Event.TheVariants.{Moved, Split}}
use Rattle.core_shard.proofs.FarLess.{once}
use Rattle.core_shard.specs.volap_cell.proofs.Counting.{length-few}
use Rattle.core_shard.specs.volap_cell.specs.{Falls.{count_events, departure, is_from, moves_ahead, splits_under}}
use Rattle.core_counts.specs.Ahead.{AreApart, AtFirstLaw, ahead, ahead_of, is_move, is_split, most_ahead}
use Rattle.core_counts.proofs.Above.{EachPlace, NamesMade, above, once-most, one-above, shards-above, total, totals, totals-most}

-- The shards that events name were made.

pub ids-grow : (site : Site) (e : Event) (past : List Event) → ids_made site.workers past ≤ ids_made site.workers (e ∷ past)
ids-grow site (Split of shard left right) past = omega arith
ids-grow site _ past = omega arith

pub name-made : (site : Site) (usable : ℕ → Bool) (e : Event) (past : List Event) (n : ℕ) → EachEvent (Stands site usable) past → Stands site usable past e → ids_made site.workers past ≤ n → NamesMade n e
name-made site usable (Split of shard left right) past n each stands few = (let made = live-made site usable past shard each stands.done.live in omega (arith, made, few))
name-made site usable (Moved of shard worker) past n each stands few = (let made = live-made site usable past shard each stands.live in omega (arith, made, few))
name-made site usable _ past n each stands few = tt

pub names-made : (site : Site) (usable : ℕ → Bool) (n : ℕ) (h : List Event) → EachEvent (Stands site usable) h → ids_made site.workers h ≤ n → EachPlace (λ e p. NamesMade n e) h
names-made site usable n [] each few = tt
names-made site usable n (e ∷ past) each few =
    let more = ids-grow site e past in
    let less : ids_made site.workers past ≤ n = omega (arith, more, few) in
    (name-made site usable e past n each.1 each.0 less, names-made site usable n past each.1 less)

pub each-place : (P Q : Event → ℕ → Type 0) → ((e : Event) (p : ℕ) → P e p → Q e p) → (h : List Event) → EachPlace P h → EachPlace Q h
each-place P Q f [] each = tt
each-place P Q f (e ∷ past) each = (f e (length past) each.0, each-place P Q f past each.1)

-- What an event is to a part.

abbrev pub by_split : List Event → Part → Event → ℕ → Bool
by_split h x e p = splits_under h x.shard e

abbrev pub by_move : ℕ → List Event → Part → Event → ℕ → Bool
by_move workers h x e p = moves_ahead h x.shard (departure workers h x.shard x.worker) e p

no-split : (h : List Event) (x : ℕ) (e : Event) → is_split e ≡ false → splits_under h x e ≡ false
no-split h x (Split of shard left right) is = absurd (false≢true (sym is))
no-split h x _ is = refl

no-move : (h : List Event) (x : ℕ) (o : Option ℕ) (e : Event) (p : ℕ) → is_move e ≡ false → moves_ahead h x o e p ≡ false
no-move h x o (Moved of shard worker) p is = absurd (false≢true (sym is))
no-move h x o _ p is = refl

-- a move is of the line of a part where it is ahead of it
pub move-above : (h : List Event) (x : ℕ) (o : Option ℕ) (z p : ℕ) → once (if z == x then is_from o p else comes_from h x z) ≤ once (comes_from h x z)
move-above h x o z p = on_bool (z == x)
    (λ t.
    let own : comes_from h x z ≡ true = ap (comes_from h x) (eqb-true z x t) ∙ comes_from-self h x in
    let most = once-most (is_from o p) in
    rw (t, own) (omega (arith, most)))
    (λ t. rw t (omega arith))

module _ (h : List Event) (parts : List Part) where
  total-none : (test : Part → Event → ℕ → Bool) (parts : List Part) (e : Event) (p : ℕ) → ((x : Part) → test x e p ≡ false) → total test parts e p ≡ 0
  total-none test [] e p none = refl
  total-none test (x ∷ parts) e p none = (let here = ap once (none x) in let rest = total-none test parts e p none in omega (arith, here, rest))

  total-split : (parts : List Part) (of shard left right p : ℕ) → total (by_split h) parts (Split of shard left right) p ≤ above h parts shard
  total-split [] of shard left right p = omega arith
  total-split (x ∷ parts) of shard left right p = (let rest = total-split parts of shard left right p in omega (arith, rest))

  total-move : (workers : ℕ) (parts : List Part) (of shard to p : ℕ) → total (by_move workers h) parts (Moved of shard to) p ≤ above h parts shard
  total-move workers [] of shard to p = omega arith
  total-move workers (x ∷ parts) of shard to p =
      let rest = total-move workers parts of shard to p in
      let here = move-above h x.shard (departure workers h x.shard x.worker) shard p in
      omega (arith, rest, here)

  module _ (site : Site) (usable : ℕ → Bool) (are : AreApart site usable h parts) where
    abbrev n : ℕ
    n = ids_made site.workers h

    one-split : (e : Event) (p : ℕ) → NamesMade n e → is_split e ≡ true → total (by_split h) parts e p ≤ 1
    one-split (Split of shard left right) p made is =
        let all = total-split parts of shard left right p in
        let one = one-above site usable h are.each shard made parts are.apart in
        omega (arith, all, one)
    one-split _ p made is = absurd (false≢true is)

    one-move : (e : Event) (p : ℕ) → NamesMade n e → is_move e ≡ true → total (by_move site.workers h) parts e p ≤ 1
    one-move (Moved of shard to) p made is =
        let all = total-move site.workers parts of shard to p in
        let one = one-above site usable h are.each shard made parts are.apart in
        omega (arith, all, one)
    one-move _ p made is = absurd (false≢true is)

    splits-few : (e : Event) (p : ℕ) → NamesMade n e → total (by_split h) parts e p ≤ once (is_split e)
    splits-few e p made = on_bool (is_split e)
        (λ t. let few = one-split e p made t in rw t few)
        (λ t. let none = total-none (by_split h) parts e p (λ x. no-split h x.shard e t) in rw t (omega (arith, none)))

    moves-few : (e : Event) (p : ℕ) → NamesMade n e → total (by_move site.workers h) parts e p ≤ once (is_move e)
    moves-few e p made = on_bool (is_move e)
        (λ t. let few = one-move e p made t in rw t few)
        (λ t. let none = total-none (by_move site.workers h) parts e p (λ x. no-move h x.shard (departure site.workers h x.shard x.worker) e p t) in rw t (omega (arith, none)))

    -- The parts are of different shards.

    abbrev shards : List ℕ
    shards = map (λ (p : Part). p.shard) parts

    times-made : (parts : List Part) → All (λ (p : Part). p.shard < n) parts → (r : ℕ) → 1 ≤ times r (map (λ (p : Part). p.shard) parts) → r < n
    times-made [] made r some = absurd (omega (arith, some))
    times-made (p ∷ parts) made r some =
        let here : p.shard < n = All-head (λ (q : Part). q.shard < n) p parts made in
        let others = All-tail (λ (q : Part). q.shard < n) p parts made in
        on_bool (eqb r p.shard)
        (λ t. let is = eqb-true r p.shard t in omega (arith, is, here))
        (λ t. let none = same_not r p.shard (eqb-false r p.shard t) in times-made parts others r (omega (arith, some, none)))

    times-few : (r : ℕ) → times r shards ≤ 1
    times-few r = on_bool (leb 1 (times r shards))
        (λ t.
        let below = times-made parts are.made r (leb-true 1 (times r shards) t) in
        let one = one-above site usable h are.each r below parts are.apart in
        let all = shards-above h parts r in
        omega (arith, one, all))
        (λ t. let none = leb-false 1 (times r shards) t in omega (arith, none))

    parts-few : length parts ≤ n
    parts-few =
        let few = length-few shards n times-few (times-made parts are.made) in
        let same = length-map parts (λ (p : Part). p.shard) in
        omega (arith, few, same)

    -- All together.

    of-part : (x : Part) → ahead_of site.workers h x ≤ 1 + 2 * count_events (by_split h x) h + count_events (by_move site.workers h x) h
    of-part x = on_bool (is_open x) (λ t. rw t (omega arith)) (λ t. rw t (omega arith))

    of-parts : (parts : List Part) → ahead site.workers h parts ≤ length parts + 2 * totals (by_split h) parts h + totals (by_move site.workers h) parts h
    of-parts [] = omega arith
    of-parts (x ∷ parts) =
        let rest = of-parts parts in
        let here = of-part x in
        let all = sum_by-cons (ahead_of site.workers h) x parts in
        omega (arith, rest, here, all)

    pub at-first : ahead site.workers h parts ≤ most_ahead site.workers h
    at-first =
        let names = names-made site usable n h are.each (omega arith) in
        let ss = totals-most (by_split h) parts is_split h (each-place _ _ splits-few h names) in
        let ms = totals-most (by_move site.workers h) parts is_move h (each-place _ _ moves-few h names) in
        let all = of-parts parts in
        let few = parts-few in
        omega (arith, ss, ms, all, few)

pub at-first-law : AtFirstLaw
at-first-law site usable h parts are = at-first h parts site usable are
