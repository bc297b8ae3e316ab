-- One event more: what it leaves of what a past tells at older positions, of shards, and of rows that may be counted.
use Rattle.std.proofs.{Common.{◌≡◌, ℕ, ◌<◌, ◌∙◌, List, [], ◌∷◌, Bool, true, inl, inr, length, refl, sym, ap, arith, ◌==◌, ◌&&◌, eqb-true, eq-eqb, All, Any, Contains}, lemmas.Bool.{or_cases, or_left}, lemmas.List.Elements.All-weaker}
use mathlib.Core.Path.{fun_ext}
use Rattle.std.specs.{List.list_any, Prelude.{Option, Some, None, option_and_then}}
use Rattle.dim_hierarchy.specs.Dimension.{Dimension}
use Rattle.describing_set.specs.declared.listing.Spot.{Spot}
use Rattle.row_ledger.specs.{Bounds.may, Changes.ShardsStay, Listings.IsBox, Past.{Insert, Query, event_at, insert_at, insert_in, query_at, query_in, call_at, call_in}, Shards.{Place, is_of, is_live, comes_from}, Workers.is_on, declared.event.Event.Event, declared.settings.Call.Call}
use Rattle.row_ledger.proofs.{Descent.comes_from-self, Fresh.kind-within, Older.may-older, Positions.{event_at-older, event_at-past}}
use Rattle.list_words.proofs.Truth.{on_bool}
use Rattle.volap_cell.specs.{Lineage.was_on, View.{row_at, row_or}}

-- Positions. What began at an older one is what it was.

pub kind-older : {X : Type 0} (kind : Event → Option X) (e : Event) (h : List Event) (p : ℕ) → p < length h → option_and_then kind (event_at (e ∷ h) p) ≡ option_and_then kind (event_at h p)
kind-older kind e h p older = ap (λ (o : Option Event). option_and_then kind o) (event_at-older e h p older)

-- an event that begins nothing of the kind leaves each position
pub kind-same : {X : Type 0} (kind : Event → Option X) (e : Event) (h : List Event) → kind e ≡ None → (p : ℕ) → option_and_then kind (event_at (e ∷ h) p) ≡ option_and_then kind (event_at h p)
kind-same kind e h none p = on_bool (p == length h)
    (λ here. let is : p ≡ length h = eqb-true p (length h) here in
    let new : event_at (e ∷ h) p ≡ Some e = rw here refl in
    let nothing : event_at h p ≡ None = event_at-past h p (omega arith) in
    ap (λ (o : Option Event). option_and_then kind o) new ∙ none ∙ sym (ap (λ (o : Option Event). option_and_then kind o) nothing))
    (λ off. ap (λ (o : Option Event). option_and_then kind o) (rw off refl))

pub insert-same : (e : Event) (h : List Event) → insert_in e ≡ None → (p : ℕ) → insert_at (e ∷ h) p ≡ insert_at h p
insert-same e h none p = kind-same insert_in e h none p

pub query-same : (e : Event) (h : List Event) → query_in e ≡ None → (p : ℕ) → query_at (e ∷ h) p ≡ query_at h p
query-same e h none p = kind-same query_in e h none p

pub insert-within : (h : List Event) (p : ℕ) (i : Insert) → insert_at h p ≡ Some i → p < length h
insert-within h p i is = kind-within insert_in h p i is

pub query-within : (h : List Event) (p : ℕ) (q : Query) → query_at h p ≡ Some q → p < length h
query-within h p q is = kind-within query_in h p q is

-- what began at an older position
pub insert-kept : (e : Event) (h : List Event) (p : ℕ) (i : Insert) → insert_at h p ≡ Some i → insert_at (e ∷ h) p ≡ Some i
insert-kept e h p i is = kind-older insert_in e h p (insert-within h p i is) ∙ is

pub query-kept : (e : Event) (h : List Event) (p : ℕ) (q : Query) → query_at h p ≡ Some q → query_at (e ∷ h) p ≡ Some q
query-kept e h p q is = kind-older query_in e h p (query-within h p q is) ∙ is

pub call-kept : (e : Event) (h : List Event) (p : ℕ) (c : Call) → call_at h p ≡ Some c → call_at (e ∷ h) p ≡ Some c
call-kept e h p c is = kind-older call_in e h p (kind-within call_in h p c is) ∙ is

-- Rows.

pub row-older : (e : Event) (h : List Event) (r : ℕ) → r < length h → row_at (e ∷ h) r ≡ row_at h r
row-older e h r older = ap row_or (kind-older insert_in e h r older)

-- an event that begins no insert leaves the whole table
pub rows-same : (e : Event) (h : List Event) → insert_in e ≡ None → row_at (e ∷ h) ≡ row_at h
rows-same e h none = fun_ext (λ r. ap row_or (insert-same e h none r))

-- Shards.

pub live-stays : (workers : ℕ) (e : Event) (h : List Event) → ShardsStay workers e h → (x : ℕ) → is_live workers (e ∷ h) x ≡ is_live workers h x
live-stays workers e h stay x = ap (λ (places : List Place). list_any (is_of x) places) stay.frontier

pub on-stays : (workers : ℕ) (e : Event) (h : List Event) → ShardsStay workers e h → (x w : ℕ) → is_on workers (e ∷ h) x w ≡ is_on workers h x w
on-stays workers e h stay x w = let f : List Place → Bool = λ places. list_any (λ (p : Place). is_of x p && (p.worker == w)) places in ap f stay.frontier

-- a shard was where it is
on-was : (workers : ℕ) (h : List Event) (x w : ℕ) → is_on workers h x w ≡ true → was_on workers h x w ≡ true
on-was workers [] x w on = on
on-was workers (e ∷ past) x w on = or_left (is_on workers (e ∷ past) x w) (was_on workers past x w) on

pub was-stays : (workers : ℕ) (e : Event) (h : List Event) → ShardsStay workers e h → (x w : ℕ) → was_on workers (e ∷ h) x w ≡ true → was_on workers h x w ≡ true
was-stays workers e h stay x w was = elim (or_cases (is_on workers (e ∷ h) x w) (was_on workers h x w) was) [
  | inl now ↦ on-was workers h x w (sym (on-stays workers e h stay x w) ∙ now)
  | inr before ↦ before
]

pub comes-stays : (workers : ℕ) (e : Event) (h : List Event) → ShardsStay workers e h → (x y : ℕ) → comes_from (e ∷ h) x y ≡ comes_from h x y
comes-stays workers e h stay x y = stay.comes_from x y ∙ on_bool (y == x)
    (λ same. let is : y ≡ x = eqb-true y x same in rw is (rw (comes_from-self h x, eq-eqb x x refl) refl))
    (λ other. rw other refl)

-- Boxes.

pub box-older : (h : List Dimension) (placed : ℕ → Bool) (e : Event) (past : List Event) (spots : List Spot)
    → All (λ (spot : Spot). IsBox h (may placed past) spot.set) spots → All (λ (spot : Spot). IsBox h (may placed (e ∷ past)) spot.set) spots
box-older h placed e past spots boxes = All-weaker (λ (spot : Spot). IsBox h (may placed past) spot.set) (λ (spot : Spot). IsBox h (may placed (e ∷ past)) spot.set)
    (λ spot box. record {
      rows = box.rows;
      usable = All-weaker (Contains (may placed past)) (Contains (may placed (e ∷ past))) (may-older placed e past) box.rows box.usable;
      set_of = box.set_of;
    }) spots boxes

-- Lists.

pub Any-weaker : {X : Type 0} (P Q : X → Type 0) → ((x : X) → P x → Q x) → (xs : List X) → Any P xs → Any Q xs
Any-weaker P Q weaker xs any = (any.0, any.1, any.2, any.3, weaker any.1 any.4)
