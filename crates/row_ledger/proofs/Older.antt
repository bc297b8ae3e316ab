-- What an event adds to what is ended, acknowledged, begun and may be counted.
use Rattle.std.proofs.{Common.{◌≡◌, ℕ, List, [], ◌∷◌, Bool, true, false, IsTrue, length, refl, ap, sym, ◌∙◌, ◌==◌, inl, inr}, lemmas.Bool.{cases_lt, false≢true, or_right, or_left, or_cases, and_parts, and_from}, lemmas.List.Elements.Contains-append_right}
use Rattle.std.specs.{List.{list_any, cons_option}, Option.option_map_or, Prelude.{Option, Some, None, Contains, filter_map}}
use Rattle.dim_hierarchy.specs.declared.row.Row.{Row}
use Rattle.row_ledger.specs.{Bounds.{own, published, passed, may}, Past.{Ack, ack_in, pull_in, split_in, ends_itself, is_end_of, has_ended, is_over, begun, acked}, Shards.{was_listed, is_child, descends, is_path}, declared.event.Event.Event, declared.event.Event.TheVariants.Begun}
use Rattle.list_words.proofs.Elements.{Contains-cons_option, Contains-filter, Contains-filtered, IsTrue-filtered}
use Rattle.row_ledger.proofs.Positions.{event_at-older, event_at-past}

pub has_ended-older : (e : Event) (past : List Event) (p : ℕ) → has_ended past p ≡ true → has_ended (e ∷ past) p ≡ true
has_ended-older e past p ended = or_right (is_end_of p e) (has_ended past p) ended

pub acked-older : (e : Event) (past : List Event) (a : Ack) → Contains (acked past) a → Contains (acked (e ∷ past)) a
acked-older e past a has = Contains-cons_option (ack_in past e) (acked past) a has

pub begun-older : (e : Event) (past : List Event) (r : Row) → Contains (begun past) r → Contains (begun (e ∷ past)) r
begun-older (Begun session server row) past r has = Contains-append_right (row ∷ []) (begun past) r has
begun-older _ past r has = has

pub may-older : (usable : ℕ → Bool) (e : Event) (past : List Event) (r : Row) → Contains (may usable past) r → Contains (may usable (e ∷ past)) r
may-older usable e past r has =
    Contains-filter (λ r. usable r.no) (begun (e ∷ past)) r
    (begun-older e past r (Contains-filtered (λ r. usable r.no) (begun past) r has))
    (IsTrue-filtered (λ r. usable r.no) (begun past) r has)

pub own-older : (e : Event) (past : List Event) (server : ℕ) (a : Ack) → Contains (own past server) a → Contains (own (e ∷ past) server) a
own-older e past server a has =
    Contains-filter (λ (b : Ack). b.server == server) (acked (e ∷ past)) a
    (acked-older e past a (Contains-filtered (λ (b : Ack). b.server == server) (acked past) a has))
    (IsTrue-filtered (λ (b : Ack). b.server == server) (acked past) a has)

pub published-older : (e : Event) (past : List Event) (a : Ack) → Contains (published past) a → Contains (published (e ∷ past)) a
published-older e past a has = Contains-append_right _ (published past) a has

pub passed-older : (e : Event) (past : List Event) (server : ℕ) (a : Ack) → Contains (passed past server) a → Contains (passed (e ∷ past) server) a
passed-older e past server a has = Contains-append_right _ (passed past server) a has

-- Paths.

list_any-cons_option : {X : Type 0} (test : X → Bool) (o : Option X) (xs : List X) → list_any test xs ≡ true → list_any test (cons_option o xs) ≡ true
list_any-cons_option test None xs passes = passes
list_any-cons_option test (Some x) xs passes = or_right (test x) (list_any test xs) passes

pub was_listed-older : (e : Event) (past : List Event) (server shard : ℕ) → was_listed past server shard ≡ true → was_listed (e ∷ past) server shard ≡ true
was_listed-older e past server shard was = list_any-cons_option _ (pull_in e) (filter_map pull_in past) was

pub is_child-older : (e : Event) (past : List Event) (x y : ℕ) → is_child past x y ≡ true → is_child (e ∷ past) x y ≡ true
is_child-older e past x y is = list_any-cons_option _ (split_in e) (filter_map split_in past) is

pub descends-older : (e : Event) (past : List Event) (x : ℕ) (path : List ℕ) → descends past x path ≡ true → descends (e ∷ past) x path ≡ true
descends-older e past x [] is = refl
descends-older e past x (y ∷ path) is =
    let parts = and_parts (is_child past x y) (descends past y path) is in
    and_from (is_child (e ∷ past) x y) (descends (e ∷ past) y path) (is_child-older e past x y parts.0) (descends-older e past y path parts.1)

-- a path stays one
pub is_path-older : (e : Event) (past : List Event) (server : ℕ) (path : List ℕ) → IsTrue (is_path past server path) → IsTrue (is_path (e ∷ past) server path)
is_path-older e past server [] is = is
is_path-older e past server (x ∷ path) is =
    let parts = and_parts (was_listed past server x) (descends past x path) is in
    and_from (was_listed (e ∷ past) server x) (descends (e ∷ past) x path) (was_listed-older e past server x parts.0) (descends-older e past x path parts.1)

-- Open commands.

-- what is over stays so
pub is_over-older : (e : Event) (past : List Event) (p : ℕ) → is_over past p ≡ true → is_over (e ∷ past) p ≡ true
is_over-older e past p over = elim (or_cases (has_ended past p) _ over) [
  | inl ended ↦ or_left (has_ended (e ∷ past) p) _ (has_ended-older e past p ended)
  | inr itself ↦ or_right (has_ended (e ∷ past) p) _ (elim (cases_lt p (length past)) [
    | inl inside ↦ ap (λ o. option_map_or ends_itself o false) (event_at-older e past p inside) ∙ itself
    | inr beyond ↦ absurd (false≢true (sym (ap (λ o. option_map_or ends_itself o false) (event_at-past past p beyond)) ∙ itself))
  ])
]
