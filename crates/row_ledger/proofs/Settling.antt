-- After the pulls of a settle every server must know each row that was acknowledged before it.
use Rattle.std.proofs.{Common.{◌≡◌, ℕ, zero, suc, ◌+◌, ◌≤◌, ◌<◌, List, [], ◌∷◌, ◌++◌, Bool, true, false, length, refl, sym, ap, subst, arith, ◌==◌, ◌∙◌, inl, inr, map}, lemmas.Bool.{cases_lt, eq-eqb}, lemmas.List.{reverse-append, reverse-reverse}, lemmas.List.Elements.{Contains-append_left, Contains-append_right}}
use Rattle.std.specs.{List.{cons_option, range_with_len}, Option.option_map_or, Prelude.{Option, Some, None, nat_lt, Contains, filter_map, reverse, if◌then◌else◌}}
use Rattle.dim_hierarchy.specs.Dimension.{Dimension}
use Rattle.row_ledger.specs.{Bounds.{own, published, passed, listed, known, must}, Past.{Ack, Pull, acked, pull_in, before, since}, Settled.{settle_pulls, pulls_since}, declared.event.Event.Event}
use Rattle.row_ledger.proofs.{Older.own-older, Positions.{before-older, since-inside, since-outside}}
use Rattle.list_words.proofs.Elements.{Contains-nil, Contains-filter, Contains-map}

-- the servers of the pulls, the newest first
abbrev pulls : List Event → List ℕ
pulls events = map (λ (p : Pull). p.server) (filter_map pull_in events)

own-before : (past : List Event) (o t : ℕ) (a : Ack) → Contains (own (before past o) t) a → Contains (own past t) a
own-before [] o t a c = c
own-before (e ∷ past) o t a c = go (own-before past o t a) (nat_lt (length past) o) c
  where
    go : (Contains (own (before past o) t) a → Contains (own past t) a) → (v : Bool) → Contains (own (if v then e ∷ past else before past o) t) a → Contains (own (e ∷ past) t) a
    go rest true c = c
    go rest false c = own-older e past t a (rest c)

-- where t pulled behind o, its rows of before o are published
published-since : (past : List Event) (o t : ℕ) (a : Ack) → Contains (pulls (since past o)) t → Contains (own (before past o) t) a → Contains (published past) a
published-since [] o t a c d = absurd (Contains-nil t c)
published-since (e ∷ past) o t a c d = elim (cases_lt o (length past)) [
  | inl b ↦
      let c' : Contains (pulls (e ∷ since past o)) t = subst (λ (l : List Event). Contains (pulls l) t) (since-inside e past o b) c in
      let d' : Contains (own (before past o) t) a = subst (λ (l : List Event). Contains (own l t) a) (before-older e past o (omega arith)) d in
      go (λ f. published-since past o t a f d') d' (pull_in e) c'
  | inr b ↦ absurd (Contains-nil t (subst (λ (l : List Event). Contains (pulls l) t) (since-outside e past o b) c))
]
  where
    go : (Contains (pulls (since past o)) t → Contains (published past) a) → Contains (own (before past o) t) a → (p : Option Pull) → Contains (map (λ (p : Pull). p.server) (cons_option p (filter_map pull_in (since past o)))) t → Contains (option_map_or (λ (p : Pull). own past p.server) p [] ++ published past) a
    go rest d None c = rest c
    go rest d (Some p) (zero, b, s) = Contains-append_left (own past p.server) (published past) a (subst (λ n. Contains (own past n) a) (sym s) (own-before past o t a d))
    go rest d (Some p) (suc k, b, s) = Contains-append_right (own past p.server) (published past) a (rest (k, omega arith, s))

-- where t pulled behind o, and s behind that, s was passed these rows
passed-since : (past : List Event) (o s t : ℕ) (a : Ack) (xs ys : List ℕ) → pulls (since past o) ≡ xs ++ ys → Contains xs s → Contains ys t → Contains (own (before past o) t) a → Contains (passed past s) a
passed-since [] o s t a [] ys e c d w = absurd (Contains-nil s c)
passed-since [] o s t a (x ∷ xs) ys e c d w = cc
passed-since (e ∷ past) o s t a xs ys q c d w = elim (cases_lt o (length past)) [
  | inl b ↦
      let q' : pulls (e ∷ since past o) ≡ xs ++ ys = subst (λ (l : List Event). pulls l ≡ xs ++ ys) (since-inside e past o b) q in
      let w' : Contains (own (before past o) t) a = subst (λ (l : List Event). Contains (own l t) a) (before-older e past o (omega arith)) w in
      go (λ zs f g. passed-since past o s t a zs ys f g d w') w' (pull_in e) xs q' c
  | inr b ↦ none xs c (subst (λ (l : List Event). pulls l ≡ xs ++ ys) (since-outside e past o b) q)
]
  where
    none : (zs : List ℕ) → Contains zs s → [] ≡ zs ++ ys → Contains (passed (e ∷ past) s) a
    none [] c q = absurd (Contains-nil s c)
    none (z ∷ zs) c q = cc

    go : ((zs : List ℕ) → pulls (since past o) ≡ zs ++ ys → Contains zs s → Contains (passed past s) a) → Contains (own (before past o) t) a → (p : Option Pull) (zs : List ℕ) → map (λ (p : Pull). p.server) (cons_option p (filter_map pull_in (since past o))) ≡ zs ++ ys → Contains zs s → Contains (option_map_or (λ (p : Pull). if p.server == s then published past else []) p [] ++ passed past s) a
    go rest w None zs q c = rest zs q c
    go rest w (Some p) [] q c = absurd (Contains-nil s c)
    go rest w (Some p) (z ∷ zs) q (zero, b, f) =
        let mine : p.server ≡ s = cc in
        let more : pulls (since past o) ≡ zs ++ ys = cc in
        let out : Contains (published past) a = published-since past o t a (subst (λ (l : List ℕ). Contains l t) (sym more) (Contains-append_right zs ys t d)) w in
        Contains-append_left (if p.server == s then published past else []) (passed past s) a (rw (eq-eqb p.server s mine) out)
    go rest w (Some p) (z ∷ zs) q (suc k, b, f) =
        let more : pulls (since past o) ≡ zs ++ ys = cc in
        Contains-append_right _ (passed past s) a (rest zs more (k, omega arith, f))

Contains-range : (from n s : ℕ) → from ≤ s → s < from + n → Contains (range_with_len from n) s
Contains-range from zero s least most = absurd (omega arith)
Contains-range from (suc n) s least most = elim (cases_lt from s) [
  | inl above ↦ Contains-append_right (from ∷ []) (range_with_len (from + 1) n) s (Contains-range (from + 1) n s (omega arith) (omega arith))
  | inr here ↦ (0, omega arith, omega arith)
]

Contains-reverse : {X : Type 0} (xs : List X) (x : X) → Contains xs x → Contains (reverse xs) x
Contains-reverse [] x has = has
Contains-reverse (y ∷ xs) x (zero, within, here) =
    rw (reverse-append (y ∷ []) xs) (Contains-append_right (reverse xs) (y ∷ []) x (0, omega arith, here))
Contains-reverse (y ∷ xs) x (suc k, within, here) =
    rw (reverse-append (y ∷ []) xs) (Contains-append_left (reverse xs) (y ∷ []) x (Contains-reverse xs x (k, omega arith, here)))

-- each server was passed what another one acknowledged before a settle that pulled for each server twice
pub passed-settled : (past : List Event) (of servers server : ℕ) (a : Ack) → pulls_since past of ≡ settle_pulls servers → server < servers → a.server < servers
    → Contains (acked (before past of)) a → Contains (passed past server) a
passed-settled past of servers server a pulled small through has =
    let once : List ℕ = range_with_len 0 servers in
    let turned : pulls (since past of) ≡ reverse once ++ reverse once =
    sym (reverse-reverse (pulls (since past of))) ∙ ap reverse pulled ∙ reverse-append once once in
    let mine : Contains (own (before past of) a.server) a = Contains-filter (λ (b : Ack). b.server == a.server) (acked (before past of)) a has (eq-eqb a.server a.server refl) in
    passed-since past of server a.server a (reverse once) (reverse once) turned
    (Contains-reverse once server (Contains-range 0 servers server (omega arith) (omega arith)))
    (Contains-reverse once a.server (Contains-range 0 servers a.server (omega arith) (omega arith))) mine

-- what a server was passed it must know
pub must-passed : (h : List Dimension) (past : List Event) (server : ℕ) (a : Ack) → Contains (passed past server) a → Contains (must h past server) a.row
must-passed h past server a told =
    Contains-map (λ (b : Ack). b.row) (known h past server) a
    (Contains-append_left (own past server ++ passed past server) (listed h past server) a (Contains-append_right (own past server) (passed past server) a told))

-- so each server must know what was acknowledged before such a settle
pub must-settled : (h : List Dimension) (past : List Event) (of servers server : ℕ) (a : Ack) → pulls_since past of ≡ settle_pulls servers → server < servers → a.server < servers
    → Contains (acked (before past of)) a → Contains (must h past server) a.row
must-settled h past of servers server a pulled small through has = must-passed h past server a (passed-settled past of servers server a pulled small through has)
