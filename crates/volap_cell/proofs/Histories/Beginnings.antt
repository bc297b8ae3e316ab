-- What began at a position of a history is of one kind, and an insert that ended there was acknowledged or has failed.
use Rattle.std.proofs.{Common.{◌≡◌, ℕ, zero, suc, List, [], ◌∷◌, Bool, true, false, not, refl, sym, ap, arith, ◌==◌, ◌∙◌, inl, inr, map}, lemmas.Bool.{eq-eqb, false≢true, or_cases, or_right}, lemmas.List.Elements.Contains-append_right}
use Rattle.std.specs.{List.list_any, Option.option_map_or, Prelude.{Option, Some, None, Contains, IsTrue, option_and_then}}
use Rattle.row_ledger.specs.{Past.{Ack, Insert, Query, acked, call_at, call_in, ends_itself, event_at, failed, has_ended, insert_at, insert_in, is_kept, is_over, query_at, query_in, session_in}, Right.{Site, EachEvent, Stands}, declared.event.Event.Event, declared.event.Event.TheVariants.Begun, declared.settings.Call.Call}
use Rattle.list_words.proofs.Elements.{Contains-nil}
use Rattle.row_ledger.proofs.Ended.{ended-cases, number_of, insert_at-is}
use Rattle.dim_hierarchy.specs.declared.row.Row.{Row}

-- an insert is no query and no call

insert-query : (e : Option Event) (i : Insert) (q : Query) → option_and_then insert_in e ≡ Some i → option_and_then query_in e ≡ Some q → ⊥
insert-query None i q a b = cc
insert-query (Some (Begun n s r)) i q a b = cc
insert-query (Some _) i q a b = cc

insert-call : (e : Option Event) (i : Insert) (c : Call) → option_and_then insert_in e ≡ Some i → option_and_then call_in e ≡ Some c → ⊥
insert-call None i c a b = cc
insert-call (Some (Begun n s r)) i c a b = cc
insert-call (Some _) i c a b = cc

pub no-query : (h : List Event) (p : ℕ) (i : Insert) (q : Query) → insert_at h p ≡ Some i → query_at h p ≡ Some q → ⊥
no-query h p i q a b = insert-query (event_at h p) i q a b

pub no-call : (h : List Event) (p : ℕ) (i : Insert) (c : Call) → insert_at h p ≡ Some i → call_at h p ≡ Some c → ⊥
no-call h p i c a b = insert-call (event_at h p) i c a b

-- the event that began an insert

-- an insert is somebody's, and has its end only where it has ended

insert-begins : (e : Option Event) (i : Insert) → option_and_then insert_in e ≡ Some i → ((n : ℕ) × (option_and_then session_in e ≡ Some n)) × (option_map_or ends_itself e false ≡ false)
insert-begins None i q = cc
insert-begins (Some (Begun n s r)) i q = ((n, refl), refl)
insert-begins (Some _) i q = cc

pub insert-session : (h : List Event) (p : ℕ) (i : Insert) → insert_at h p ≡ Some i → (n : ℕ) × (option_and_then session_in (event_at h p) ≡ Some n)
insert-session h p i begun = (insert-begins (event_at h p) i begun).0

pub insert-ended : (h : List Event) (p : ℕ) (i : Insert) → insert_at h p ≡ Some i → is_over h p ≡ true → has_ended h p ≡ true
insert-ended h p i begun over = elim (or_cases (has_ended h p) (option_map_or ends_itself (event_at h p) false) over) [
  | inl ended ↦ ended
  | inr itself ↦ absurd (false≢true (sym (insert-begins (event_at h p) i begun).1 ∙ itself))
]

among : (xs : List ℕ) (n : ℕ) → Contains xs n → list_any (λ x. x == n) xs ≡ true
among [] n c = absurd (Contains-nil n c)
among (x ∷ xs) n (zero, k, is) = rw (eq-eqb x n is) refl
among (x ∷ xs) n (suc j, k, is) = or_right (x == n) (list_any (λ x. x == n) xs) (among xs n (j, omega arith, is))

-- the acknowledgement of a row
ack-of : (ks : List Ack) (r : Row) → Contains (map (λ (k : Ack). k.row) ks) r → (k : Ack) × Contains ks k × (k.row ≡ r)
ack-of [] r c = absurd (Contains-nil r c)
ack-of (k ∷ ks) r (zero, l, is) = (k, (0, omega arith, refl), is)
ack-of (k ∷ ks) r (suc j, l, is) = let more = ack-of ks r (j, omega arith, is) in (more.0, Contains-append_right (k ∷ []) ks more.0 more.1, more.2)

-- an insert that ended and didn't fail was acknowledged
pub acked-of : (site : Site) (usable : ℕ → Bool) (h : List Event) (p : ℕ) (i : Insert) → EachEvent (Stands site usable) h → insert_at h p ≡ Some i → has_ended h p ≡ true → IsTrue (is_kept h p)
    → (k : Ack) × Contains (acked h) k × (k.row.no ≡ p)
acked-of site usable h p i each begun ended kept =
    let e = insert_at-is (event_at h p) i begun in
    elim (ended-cases site usable h p e.0 i.server i.row each e.1 ended) [
      | inl c ↦ let k = ack-of (acked h) i.row c in (k.0, k.1, ap (λ (r : Row). r.no) k.2 ∙ number_of site usable h p i each begun)
      | inr f ↦ absurd (false≢true (sym (ap not (among (failed h) p f)) ∙ kept))
    ]
