-- The entries that a visit adds, and those whose children it notes.
use Rattle.std.proofs.{Common.{◌≡◌, ℕ, ◌+◌, ◌<◌, ◌≤◌, Bool, true, false, cond, if◌then◌else◌, List, [], ◌∷◌, ◌++◌, length, take, drop, get_or, refl, sym, ap, ◌∙◌, arith, append-nil, append_assoc}, lemmas.List.{take_more, map-append, take-append-drop}, lemmas.List.Elements.{filter_more, filter-append}}
use Rattle.std.specs.Prelude.{filter}
use Rattle.dim_hierarchy.specs.{Dimension.Dimension, declared.filter.Pick.Pick}
use Rattle.measure_agg.specs.{Aggregate.{Aggregate, agg}, Joining.join}
use Rattle.dc_node.specs.{Summary.{joined, aggs}, declared.entry.Entry.Entry, declared.todo.Item.Item}
use Rattle.link_descent.specs.Visit.{noted}

abbrev pub JoinedLaw : Type 0
JoinedLaw = (xs ys : List Aggregate) → joined (xs ++ ys) ≡ join (joined xs) (joined ys)

-- the aggregates that are joined are one more where the entry at i passes

joined_if : JoinedLaw → ((a : Aggregate) → join a (agg []) ≡ a) → (passes : Bool) (entries : List Entry) (e : Entry)
    → joined (aggs (entries ++ cond passes (e ∷ []) [])) ≡ (if passes then join (joined (aggs entries)) e.agg else joined (aggs entries))
joined_if append empty true entries e =
    ap joined (map-append (λ x. x.agg) entries (e ∷ []))
    ∙ append (aggs entries) (e.agg ∷ [])
    ∙ ap (join (joined (aggs entries))) (empty e.agg)
joined_if append empty false entries e = ap (λ es. joined (aggs es)) (append-nil entries)

join_if : ((a b c : Aggregate) → join (join a b) c ≡ join a (join b c)) → (passes : Bool) (start all more : Aggregate)
    → (if passes then join (join start all) more else join start all) ≡ join start (if passes then join all more else all)
join_if associative true start all more = associative start all more
join_if associative false start all more = refl

pub joined_more : JoinedLaw → ((a b c : Aggregate) → join (join a b) c ≡ join a (join b c)) → ((a : Aggregate) → join a (agg []) ≡ a)
    → (test : Entry → Bool) (entries : List Entry) (i : ℕ) (e : Entry) (start total now : Aggregate)
    → i < length entries → e ≡ get_or entries i e → total ≡ join start (joined (aggs (filter test (take i entries))))
    → now ≡ (if test e then join total e.agg else total)
    → now ≡ join start (joined (aggs (filter test (take (i + 1) entries))))
joined_more append associative empty test entries i e start total now within read so_far step =
    let front = filter test (take i entries) in
    let more : filter test (take (i + 1) entries) ≡ front ++ cond (test e) (e ∷ []) [] = rw (filter_more test entries i e within, ← read) refl in
    step
    ∙ ap (λ a. if test e then join a e.agg else a) so_far
    ∙ join_if associative (test e) start (joined (aggs front)) e.agg
    ∙ ap (join start) (sym (ap (λ es. joined (aggs es)) more ∙ joined_if append empty (test e) front e))

-- the first entries that pass have no more rows than all

filtered-few : (test : Entry → Bool) (entries : List Entry) → (joined (aggs (filter test entries))).count ≤ (joined (aggs entries)).count
filtered-few test [] = omega arith
filtered-few test (e ∷ entries) =
    let few = filtered-few test entries in
    elim (test e) as (λ b. (joined (aggs (cond b (e ∷ filter test entries) (filter test entries)))).count ≤ e.agg.count + (joined (aggs entries)).count) [
      | true ↦ omega arith
      | false ↦ omega arith
    ]

pub joined_room : JoinedLaw → (test : Entry → Bool) (entries : List Entry) (i : ℕ) (e : Entry) (start total : Aggregate)
    → i < length entries → e ≡ get_or entries i e → total ≡ join start (joined (aggs (filter test (take i entries))))
    → total.count + e.agg.count ≤ start.count + (joined (aggs entries)).count
joined_room append test entries i e start total within read so_far =
    let whole : joined (aggs entries) ≡ join (joined (aggs (take (i + 1) entries))) (joined (aggs (drop (i + 1) entries))) =
    ap (λ es. joined (aggs es)) (sym (take-append-drop (i + 1) entries))
    ∙ ap joined (map-append (λ x. x.agg) (take (i + 1) entries) (drop (i + 1) entries))
    ∙ append (aggs (take (i + 1) entries)) (aggs (drop (i + 1) entries)) in
    let more : joined (aggs (take (i + 1) entries)) ≡ join (joined (aggs (take i entries))) (joined (e.agg ∷ [])) =
    rw (take_more entries i e within, ← read, map-append) (append (aggs (take i entries)) (e.agg ∷ [])) in
    let few = filtered-few test (take i entries) in
    omega (arith, few, ap (λ a. a.count) whole, ap (λ a. a.count) more, ap (λ a. a.count) so_far)

-- what is noted of one entry more

pub noted_more : (h : List Dimension) (f : List Pick) (entries : List Entry) (i : ℕ) (e : Entry) (start items now : List Item)
    → i < length entries → e ≡ get_or entries i e → items ≡ start ++ noted h f (take i entries) → now ≡ items ++ noted h f (e ∷ [])
    → now ≡ start ++ noted h f (take (i + 1) entries)
noted_more h f entries i e start items now within read so_far step =
    let item : Entry → Item = λ x. record { cell = x.child; stamp = x.stamp } in
    let more : noted h f (take (i + 1) entries) ≡ noted h f (take i entries) ++ noted h f (e ∷ []) =
    rw (take_more entries i e within, ← read, filter-append, map-append) refl in
    step
    ∙ ap (λ l. l ++ noted h f (e ∷ [])) so_far
    ∙ append_assoc start (noted h f (take i entries)) (noted h f (e ∷ []))
    ∙ ap (λ l. start ++ l) (sym more)
