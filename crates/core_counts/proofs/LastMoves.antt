-- A shard that stands is where its last move brought it.
use Rattle.std.proofs.{Common.{◌≡◌, ◌≢◌, ◌∙◌, ℕ, ◌<◌, List, [], ◌∷◌, Bool, true, false, not, All, Option, Some, None, get_or, refl, sym, arith, ◌==◌, ◌&&◌}, lemmas.Bool.{eq-eqb, eqb-true, false≢true}, lemmas.List.Elements.{All-append, All-cons, All-filter, All-head, All-map, All-nil, All-tail}}
use Rattle.std.specs.{List.list_any, Prelude.{if◌then◌else◌, filter}}
use Rattle.list_words.proofs.Truth.{on_bool}
use Rattle.row_ledger.proofs.Descent.{live-made}
use Rattle.row_ledger.specs.{Right.{EachEvent, Site, Stands}, Shards.{Place, children, frontier, ids_made, is_live, is_of, place, worker_of}, Workers.is_on, declared.event.Event.Event, declared.event.Event.TheVariants.{Moved, Split}}
use Rattle.core_shard.specs.volap_cell.specs.Lineage.{went_to}
use Rattle.core_counts.proofs.AtFirst.{ids-grow}

-- a shard that was moved has its id
went-made : (site : Site) (usable : ℕ → Bool) (h : List Event) (x w : ℕ) → EachEvent (Stands site usable) h → went_to h x w ≡ true → x < ids_made site.workers h
went-made site usable [] x w each is = absurd (false≢true is)
went-made site usable (Moved of shard to ∷ past) x w each is = on_bool (shard == x)
    (λ t. let made = live-made site usable past shard each.1 each.0.live in let same = eqb-true shard x t in omega (arith, made, same))
    (λ t. let older : went_to past x w ≡ true = rw t at is in went-made site usable past x w each.1 older)
went-made site usable (Split of shard left right ∷ past) x w each is =
    (let older = went-made site usable past x w each.1 is in let more = ids-grow site (Split of shard left right) past in omega (arith, older, more))
went-made site usable (_ ∷ past) x w each is = went-made site usable past x w each.1 is

-- the shard stands at no other worker
abbrev IsAt : ℕ → ℕ → Place → Type 0
IsAt x w p = p.shard ≡ x → p.worker ≡ w

abbrev moved_to : ℕ → ℕ → Place → Place
moved_to shard to p = if is_of shard p then place shard to else p

here-one : (shard to x w : ℕ) → shard ≡ x → to ≡ w → (p : Place) → IsAt x w (moved_to shard to p)
here-one shard to x w same is p = on_bool (is_of shard p)
    (λ t. rw t (λ own. is))
    (λ t. rw t (λ own. absurd (false≢true (sym t ∙ eq-eqb p.shard shard (own ∙ sym same)))))

there-one : (shard to x w : ℕ) → (shard == x) ≡ false → (p : Place) → IsAt x w p → IsAt x w (moved_to shard to p)
there-one shard to x w other p at = on_bool (is_of shard p)
    (λ t. rw t (λ own. absurd (false≢true (sym other ∙ eq-eqb shard x own))))
    (λ t. rw t at)

new-at : (left right : ℕ) (worker : Option ℕ) (x w : ℕ) → left ≢ x → right ≢ x → All (IsAt x w) (children left right worker)
new-at left right None x w l r = All-nil (IsAt x w)
new-at left right (Some worker) x w l r =
    All-cons (IsAt x w) (place left worker) (place right worker ∷ []) (λ own. absurd (l own)) (All-cons (IsAt x w) (place right worker) [] (λ own. absurd (r own)) (All-nil (IsAt x w)))

went-at : (site : Site) (usable : ℕ → Bool) (h : List Event) (x w : ℕ) → EachEvent (Stands site usable) h → went_to h x w ≡ true → All (IsAt x w) (frontier site.workers h)
went-at site usable [] x w each is = absurd (false≢true is)
went-at site usable (Moved of shard to ∷ past) x w each is = on_bool (shard == x)
    (λ t. let here : (to == w) ≡ true = rw t at is in All-map (IsAt x w) (moved_to shard to) (frontier site.workers past) (λ k d lt. here-one shard to x w (eqb-true shard x t) (eqb-true to w here) (get_or (frontier site.workers past) k d)))
    (λ t. let older : went_to past x w ≡ true = rw t at is in All-map (IsAt x w) (moved_to shard to) (frontier site.workers past) (λ k d lt. there-one shard to x w t (get_or (frontier site.workers past) k d) (went-at site usable past x w each.1 older k d lt)))
went-at site usable (Split of shard left right ∷ past) x w each is =
    let older = went-at site usable past x w each.1 is in
    let made = went-made site usable past x w each.1 is in
    let next = each.0.next in
    let after = each.0.after in
    let places = frontier site.workers past in
    All-append (IsAt x w) (filter (λ (p : Place). not (is_of shard p)) places) (children left right (worker_of places shard))
    (All-filter (λ (p : Place). not (is_of shard p)) (IsAt x w) places older)
    (new-at left right (worker_of places shard) x w (λ e. omega (arith, e, made, next)) (λ e. omega (arith, e, made, after)))
went-at site usable (_ ∷ past) x w each is = went-at site usable past x w each.1 is

one-on : (x w : ℕ) (places : List Place) → All (IsAt x w) places → list_any (is_of x) places ≡ true → list_any (λ (p : Place). is_of x p && (p.worker == w)) places ≡ true
one-on x w [] at there = there
one-on x w (p ∷ places) at there = on_bool (is_of x p)
    (λ t. let here : (p.worker == w) ≡ true = eq-eqb p.worker w (All-head (IsAt x w) p places at (eqb-true p.shard x t)) in rw (t, here) refl)
    (λ t. let more : list_any (is_of x) places ≡ true = rw t at there in rw t (one-on x w places (All-tail (IsAt x w) p places at) more))

pub went-on : (site : Site) (usable : ℕ → Bool) (h : List Event) (x w : ℕ) → EachEvent (Stands site usable) h → went_to h x w ≡ true → is_live site.workers h x ≡ true → is_on site.workers h x w ≡ true
went-on site usable h x w each is live = one-on x w (frontier site.workers h) (went-at site usable h x w each is) live
