-- In a right history each insert that ended was acknowledged or failed, and no row is acknowledged twice.
use Rattle.std.proofs.{Common.{◌≡◌, ℕ, zero, suc, List, [], ◌∷◌, Bool, true, false, length, refl, sym, ap, subst, arith, ◌==◌, ◌∙◌, ◌||◌, ◌⊎◌, inl, inr, map}, lemmas.Bool.{cases_lt, eq-eqb, eqb-true, false≢true}, lemmas.List.Elements.Contains-append_right}
use Rattle.std.specs.{List.{IsDistinct, AllByRecursion, cons_option}, Option.option_map_or, Prelude.{Option, Some, None, nat_eq, Contains, option_map, option_and_then}}
use Rattle.dim_hierarchy.specs.declared.row.Row.{Row}
use Rattle.row_ledger.specs.{Bounds.numbers, Past.{Ack, Insert, ack_in, ack_of, acked, acked_rows, insert_in, insert_at, query_at, call_at, event_at, failed, failed_in, end_in, has_ended}, Right.{Site, EachEvent, Stands, IsRightAck, IsRightAnswer, IsRightEnd}, declared.event.Event.Event, declared.event.Event.TheVariants.{Begun, Acked, Answered, Failed, Ended}}
use Rattle.list_words.proofs.Elements.{Contains-nil, Contains-cons_option}
use Rattle.row_ledger.proofs.{Fresh.fresh-newest, Older.has_ended-older, Positions.{event_at-here, event_at-older, event_at-past}}

pub insert_at-is : (e : Option Event) (i : Insert) → option_and_then insert_in e ≡ Some i → (n : ℕ) × (e ≡ Some (Begun n i.server i.row))
insert_at-is None i q = cc
insert_at-is (Some (Begun n s r)) i q = let j : record { server = s; row = r } ≡ i = cc in (n, ap (λ (i : Insert). Some (Begun n i.server i.row)) j)
insert_at-is (Some _) i q = cc

-- a row's number is its position
pub number_at : (site : Site) (usable : ℕ → Bool) (past : List Event) (o n s : ℕ) (r : Row) → EachEvent (Stands site usable) past → event_at past o ≡ Some (Begun n s r) → r.no ≡ o
number_at site usable [] o n s r w q = cc
number_at site usable (e ∷ past) o n s r w q = elim (cases_lt o (length past)) [
  | inl b ↦ number_at site usable past o n s r w.1 (sym (event_at-older e past o b) ∙ q)
  | inr b ↦ elim (cases_lt (length past) o) [
    | inl c ↦ let none : event_at (e ∷ past) o ≡ None = event_at-past (e ∷ past) o c in cc
    | inr c ↦
        let here : o ≡ length past = omega arith in
        let found : event_at (e ∷ past) (length past) ≡ Some e = event_at-here e past in
        let is : e ≡ Begun n s r = let q' : event_at (e ∷ past) (length past) ≡ Some (Begun n s r) = subst (λ k. event_at (e ∷ past) k ≡ Some (Begun n s r)) here q in cc in
        let fact : Stands site usable past (Begun n s r) = subst (λ (x : Event). Stands site usable past x) is w.0 in
        fact ∙ sym here
  ]
]

pub number_of : (site : Site) (usable : ℕ → Bool) (past : List Event) (o : ℕ) (i : Insert) → EachEvent (Stands site usable) past → insert_at past o ≡ Some i → i.row.no ≡ o
number_of site usable past o i w q = let f = insert_at-is (event_at past o) i q in number_at site usable past o f.0 i.server i.row w f.1

-- an acknowledged row's insert has ended
pub acked-ended : (site : Site) (usable : ℕ → Bool) (past : List Event) (b : Ack) → EachEvent (Stands site usable) past → Contains (acked past) b → has_ended past b.row.no ≡ true
acked-ended site usable [] b w c = absurd (Contains-nil b c)
acked-ended site usable (Acked o path ∷ past) b w c =
    let a : IsRightAck past o path = w.0 in
    let number : a.insert.row.no ≡ o = number_of site usable past o a.insert w.1 a.begun in
    let is : option_map (ack_of path) (insert_at past o) ≡ Some (record { server = a.insert.server; row = a.insert.row; path = path }) = rw a.begun refl in
    go number (subst (λ (o : Option Ack). Contains (cons_option o (acked past)) b) is c) (acked-ended site usable past b w.1)
  where
    go : {i : Insert} → i.row.no ≡ o → Contains (record { server = i.server; row = i.row; path = path } ∷ acked past) b → (Contains (acked past) b → has_ended past b.row.no ≡ true) → has_ended (Acked o path ∷ past) b.row.no ≡ true
    go q (zero, h, e) rest = let same : o ≡ b.row.no = sym q ∙ ap (λ (a : Ack). a.row.no) e in rw (eq-eqb o b.row.no same) refl
    go q (suc k, h, e) rest = has_ended-older (Acked o path) past b.row.no (rest (k, omega arith, e))
acked-ended site usable (e ∷ past) b w c = has_ended-older e past b.row.no (acked-ended site usable past b w.1 c)

-- no row is acknowledged twice
pub acked-distinct : (site : Site) (usable : ℕ → Bool) (past : List Event) → EachEvent (Stands site usable) past → IsDistinct nat_eq (numbers (acked_rows past))
unfolding IsDistinct
acked-distinct site usable [] w = tt
acked-distinct site usable (Acked o path ∷ past) w =
    let a : IsRightAck past o path = w.0 in
    let number : a.insert.row.no ≡ o = number_of site usable past o a.insert w.1 a.begun in
    let is : option_map (ack_of path) (insert_at past o) ≡ Some (record { server = a.insert.server; row = a.insert.row; path = path }) = rw a.begun refl in
    subst (λ (o : Option Ack). IsDistinct nat_eq (map (λ (r : Row). r.no) (map (λ (a : Ack). a.row) (cons_option o (acked past))))) (sym is)
    (differ a.insert.row.no (acked past) (λ b c. acked-ended site usable past b w.1 c) (subst (λ n. has_ended past n ≡ false) (sym number) a.is_open), acked-distinct site usable past w.1)
  where
    differ : (n : ℕ) (bs : List Ack) → ((b : Ack) → Contains bs b → has_ended past b.row.no ≡ true) → has_ended past n ≡ false → AllByRecursion (λ y. nat_eq n y ≡ false) (map (λ (r : Row). r.no) (map (λ (a : Ack). a.row) bs))
    differ n [] f h = tt
    differ n (b ∷ bs) f h =
        (unlike n b.row.no h (f b (0, omega arith, refl)), differ n bs (λ c d. f c (Contains-append_right (b ∷ []) bs c d)) h)
      where
        unlike : (n m : ℕ) → has_ended past n ≡ false → has_ended past m ≡ true → nat_eq n m ≡ false
        unlike n m p q = (elim (nat_eq n m) as (λ v. nat_eq n m ≡ v → v ≡ false) [ true ↦ λ t. let same : n ≡ m = eqb-true n m t in let u : has_ended past m ≡ false = subst (λ k. has_ended past k ≡ false) same p in absurd (false≢true (sym u ∙ q)) | false ↦ λ _. refl ]) refl
acked-distinct site usable (e ∷ past) w = acked-distinct site usable past w.1

-- an insert that ended was acknowledged or failed
abbrev pub AckedOrFailed : List Event → ℕ → Row → Type 0
AckedOrFailed past n r = Contains (acked_rows past) r ⊎ Contains (failed past) n

older : (past : List Event) (e : Event) (n : ℕ) (r : Row) → AckedOrFailed past n r → AckedOrFailed (e ∷ past) n r
older past e n r c = elim c [ inl a ↦ inl (map_more (ack_in past e) (acked past) a) | inr f ↦ inr (Contains-cons_option (failed_in e) (failed past) n f) ]
  where
    map_more : (o : Option Ack) (xs : List Ack) → Contains (map (λ (a : Ack). a.row) xs) r → Contains (map (λ (a : Ack). a.row) (cons_option o xs)) r
    map_more None xs c = c
    map_more (Some a) xs c = Contains-append_right (a.row ∷ []) _ r c

at_end : (site : Site) (usable : ℕ → Bool) (past : List Event) (e : Event) (n m s : ℕ) (r : Row) → Stands site usable past e → event_at past n ≡ Some (Begun m s r) → end_in e ≡ Some n → AckedOrFailed (e ∷ past) n r
at_end site usable past (Acked o p) n m s r w q t =
    let same : o ≡ n = cc in
    let found : insert_at past o ≡ Some (record { server = s; row = r }) = rw (same, q) refl in
    rw found (inl (0, omega arith, refl))
at_end site usable past (Failed o) n m s r w q t = let same : o ≡ n = cc in inr (0, omega arith, same)
at_end site usable past (Answered o b) n m s r w q t =
    let a : IsRightAnswer site usable past o b = w in
    let same : o ≡ n = cc in
    let none : query_at past o ≡ None = rw (same, q) refl in
    absurd (let some : query_at past o ≡ Some a.query = a.asked in cc)
at_end site usable past (Ended o how) n m s r w q t =
    let a : IsRightEnd site usable past o how = w in
    let same : o ≡ n = cc in
    let none : call_at past o ≡ None = rw (same, q) refl in
    absurd (let some : call_at past o ≡ Some a.call = a.called in cc)
at_end site usable past _ n m s r w q t = cc

pub ended-cases : (site : Site) (usable : ℕ → Bool) (past : List Event) (n m s : ℕ) (r : Row) → EachEvent (Stands site usable) past → event_at past n ≡ Some (Begun m s r) → has_ended past n ≡ true → AckedOrFailed past n r
ended-cases site usable [] n m s r w q h = cc
ended-cases site usable (e ∷ past) n m s r w q h = elim (cases_lt n (length past)) [
  | inl b ↦
      let q' : event_at past n ≡ Some (Begun m s r) = sym (event_at-older e past n b) ∙ q in
      go (end_in e) (λ t. at_end site usable past e n m s r w.0 q' t) (λ f. older past e n r (ended-cases site usable past n m s r w.1 q' f)) h
  | inr b ↦ let not_yet : has_ended (e ∷ past) n ≡ false = fresh-newest site usable e past w n b in absurd (false≢true (sym not_yet ∙ h))
]
  where
    go : (o : Option ℕ) → (o ≡ Some n → AckedOrFailed (e ∷ past) n r) → (has_ended past n ≡ true → AckedOrFailed (e ∷ past) n r) → (option_map_or (λ n'. n' == n) o false || has_ended past n) ≡ true → AckedOrFailed (e ∷ past) n r
    go None here rest h = rest h
    go (Some k) here rest h = at (k == n) refl h
      where
        at : (v : Bool) → (k == n) ≡ v → (v || has_ended past n) ≡ true → AckedOrFailed (e ∷ past) n r
        at true t h = here (ap Some (eqb-true k n t))
        at false t h = rest h
