-- A phase begins and ends.
use Rattle.std.proofs.{Common.{◌≡◌, ◌∙◌, ℕ, zero, suc, ◌+◌, ◌*◌, ◌<◌, ◌≤◌, inl, inr, Bool, true, false, List, [], ◌∷◌, ◌++◌, length, map, get_or, refl, sym, ap, subst, arith}, Math.ListN.get_or-append, lemmas.Option.slice_get_within}
use Rattle.std.specs.{List.list_all, Prelude.{Option, Some, None, slice_get, IsTrue, ◌&&◌, if◌then◌else◌}}
use Rattle.dim_hierarchy.specs.Dimension.{Dimension}
use Rattle.row_ledger.specs.{Past.is_over, declared.event.Event.Event, declared.settings.Use.Use}
use Rattle.script_form.specs.declared.script.Command.{Command}
use Rattle.script_run.specs.{Parts.{IsPartAt, Waits, place_in}, Phases.{ranks_from, closes}, Places.{session_of, count_of, begins_of, places, places_behind, is_over_at, are_over}, Runs.{BeginsAt, EndsBefore}, Streams.{FinishLaw, StartLaw}}
use Rattle.script_run.proofs.{Grow.{below-or, ends-none}, NextCommand.over-now, PlaceFacts.{places_behind-append, places_behind-none}, Whole.{part_law, get-some, places-length}}

-- what holds of each place of a list holds of all
pub all-over : (history : List Event) (ps : List (Option ℕ)) → ((i : ℕ) → i < length ps → (p : ℕ) × (get_or ps i None ≡ Some p) × IsTrue (is_over history p)) → IsTrue (are_over history ps)
all-over history [] h = refl
all-over history (o ∷ ps) h =
    let first = h 0 (omega arith) in
    let here : is_over_at history o ≡ true = subst (λ w. is_over_at history w ≡ true) (sym first.1) first.2 in
    let more : are_over history ps ≡ true = all-over history ps (λ i low. h (suc i) (omega arith)) in
    and-both (is_over_at history o) (list_all (is_over_at history) ps) here more
  where
    and-both : (a b : Bool) → a ≡ true → b ≡ true → (a && b) ≡ true
    and-both true b x y = y
    and-both false b x y = cc

pub finish_law : FinishLaw
finish_law with h commands history next opened part streams finished = record {
  part = part_law with h commands history part;
  over = all-over history (places with commands history) (λ i low.
      let c = get-some commands i (omega (arith, low, places-length with commands history)) in
      let found = streams.begun i c.0 c.1 (finished.begun i c.0 c.1) in
      (found.0, found.1, over-now (opened (session_of with c.0)) found.0 history (finished.ended (session_of with c.0)) found.2));
}

-- The first commands keep their places, and none of the others has one.
pub first-place : (with : Use) (done phase : List Command) (history : List Event) (i : ℕ) → i < length done
    → place_in with (done ++ phase) history i ≡ place_in with done history i
first-place with done phase history i low =
    ap (λ ps. get_or ps i None) (places_behind-append with [] done phase history)
    ∙ get_or-append (places with done history) (places_behind with done phase history) None i (omega (arith, low, places-length with done history))

nones-at : (cs : List Command) (i : ℕ) → get_or {A = Option ℕ} (map (λ (c : Command). None) cs) i None ≡ None
nones-at [] i = refl
nones-at (c ∷ cs) zero = refl
nones-at (c ∷ cs) (suc i) = nones-at cs i

behind-at : (xs ys : List (Option ℕ)) (i : ℕ) → length xs ≤ i → ((j : ℕ) → get_or ys j None ≡ None) → get_or (xs ++ ys) i None ≡ None
behind-at [] ys i h n = n i
behind-at (x ∷ xs) ys zero h n = absurd (omega arith)
behind-at (x ∷ xs) ys (suc i) h n = behind-at xs ys i (omega arith) n

pub no-place : (with : Use) (done phase : List Command) (history : List Event) → ((s : ℕ) → length (begins_of history s) ≤ count_of with s done)
    → (i : ℕ) → length done ≤ i → place_in with (done ++ phase) history i ≡ None
no-place with done phase history few i high =
    ap (λ ps. get_or ps i None) (places_behind-append with [] done phase history ∙ ap (λ qs. places with done history ++ qs) (places_behind-none with done phase history (record { counts = few })))
    ∙ behind-at (places with done history) (map (λ c. None) phase) i (omega (arith, high, places-length with done history)) (nones-at phase)

pub get-first : (xs ys : List Command) (i : ℕ) → i < length xs → slice_get (xs ++ ys) i ≡ slice_get xs i
get-first [] ys i h = absurd (omega arith)
get-first (x ∷ xs) ys zero h = refl
get-first (x ∷ xs) ys (suc i) h = get-first xs ys i (omega arith)

-- The ranks of the first commands stay.
rank-first : (k : ℕ) (xs ys : List Command) (i : ℕ) → i < length xs → get_or (ranks_from k (xs ++ ys)) i 0 ≡ get_or (ranks_from k xs) i 0
unfolding ranks_from
rank-first k [] ys i h = absurd (omega arith)
rank-first k (x ∷ xs) ys zero h =
    elim (closes x) as (λ b. get_or (if b then (2 * k + 1) ∷ ranks_from (k + 1) (xs ++ ys) else (2 * k) ∷ ranks_from k (xs ++ ys)) 0 0
    ≡ get_or (if b then (2 * k + 1) ∷ ranks_from (k + 1) xs else (2 * k) ∷ ranks_from k xs) 0 0) [ true ↦ refl | false ↦ refl ]
rank-first k (x ∷ xs) ys (suc i) h =
    elim (closes x) as (λ b. get_or (if b then (2 * k + 1) ∷ ranks_from (k + 1) (xs ++ ys) else (2 * k) ∷ ranks_from k (xs ++ ys)) (suc i) 0
    ≡ get_or (if b then (2 * k + 1) ∷ ranks_from (k + 1) xs else (2 * k) ∷ ranks_from k xs) (suc i) 0) [
      | true ↦ rank-first (k + 1) xs ys i (omega arith)
      | false ↦ rank-first k xs ys i (omega arith)
    ]

-- Whatever has to wait for what among the first commands, and does so among all of them too.
pub start-any : (with : Use) (h : List Dimension) (done phase : List Command) (history : List Event) (waits waits_now : ℕ → ℕ → Type 0)
    → ((s : ℕ) → length (begins_of history s) ≤ count_of with s done)
    → ((i j : ℕ) → j < length done → waits_now i j → (i < j) × waits i j)
    → IsPartAt with h done waits history (place_in with done history)
    → IsPartAt with h (done ++ phase) waits_now history (place_in with (done ++ phase) history)
start-any with h done phase history waits waits_now few same part = record {
  begun = λ i c at. elim (below-or i (length done)) [
    | inl low ↦ subst (λ o. BeginsAt with h history c o) (sym (first-place with done phase history i low)) (part.begun i c (sym (get-first done phase i low) ∙ at))
    | inr high ↦ subst (λ o. BeginsAt with h history c o) (sym (no-place with done phase history few i high)) tt
  ];
  only = λ p e at beginning.
      let found = part.only p e at beginning in
      let low = slice_get_within done found.0 found.1 found.2 in
      (found.0, found.1, get-first done phase found.0 low ∙ found.2, first-place with done phase history found.0 low ∙ found.3);
  in_turn = λ i j c d ci dj w. elim (below-or j (length done)) [
    | inr high ↦ ends-none history (place_in with (done ++ phase) history i) (place_in with (done ++ phase) history j) (no-place with done phase history few j high)
    | inl low ↦
        let old = same i j low w in
        let lower : i < length done = omega (arith, old.0, low) in
        let cd = sym (get-first done phase i lower) ∙ ci in
        let dd = sym (get-first done phase j low) ∙ dj in
        subst (λ o. EndsBefore history o (place_in with (done ++ phase) history j)) (sym (first-place with done phase history i lower))
        (subst (λ o. EndsBefore history (place_in with done history i) o) (sym (first-place with done phase history j low)) (part.in_turn i j c d cd dd old.1))
  ];
  pulls = part.pulls;
}

-- the first commands wait for one another as they do among all
waits-first : (with : Use) (done phase : List Command) (i j : ℕ) → j < length done → Waits with (done ++ phase) i j → (i < j) × Waits with done i j
waits-first with done phase i j low w =
    let lower : i < length done = omega (arith, w.0, low) in (
      w.0,
      (
        w.0,
        elim w.1 [
          | inl same ↦ inl (λ a b at_a at_b. same a b (get-first done phase i lower ∙ at_a) (get-first done phase j low ∙ at_b))
          | inr less ↦ inr (omega (arith, less, rank-first 0 done phase i lower, rank-first 0 done phase j low))
        ],
      ),
    )

pub start_law : StartLaw
start_law with h done phase history few part =
    start-any with h done phase history (Waits with done) (Waits with (done ++ phase)) few (waits-first with done phase) part
