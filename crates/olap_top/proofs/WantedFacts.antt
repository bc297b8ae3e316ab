-- What words want, computed and meant.
use Rattle.std.proofs.{Common.{◌≡◌, ◌<◌, ◌≤◌, ◌∙◌, ◌^◌, ℕ, List, [], ◌∷◌, ◌++◌, length, take, drop, Bool, true, false, ◌&&◌, Option, Some, None, ap, sym, subst, refl, arith, inl, inr, append-nil}, lemmas.Bool.{and_parts, true≢false}, lemmas.Bool.Decides.nat_tests, lemmas.List.take-append-drop, lemmas.Slice.Eq.bytes_eq-Decides}
use Rattle.std.specs.{Option.option_map_or, Prelude.{IfSome, nat_lt, nat_le, option_and_then, option_map, ◌⊎◌, codes, if◌then◌else◌}, Str.bytes_eq}
use Rattle.script_form.specs.Fields.{number_of}
use Rattle.olap_top.specs.{Wanted.{AreFewRows, Given, GivenBoth, GivenNext, at_end, behind, below_2_64, first_word, from_1_to_most, given, given_alone, given_both, given_next, load_by, load_of, row_count_of, run_of, seed_of, skip_threads, step_of, threads_at_end, wanted}, Words.{AreOptions, GiveLoad, GiveOption, SpellsRows, SpellsSeed, Want, most_rows}, declared.wanted.Wanted.Wanted, declared.wanted.Wanted.TheVariants.{Step, Seeded, Run, Load}}

-- What gives a value.

if_some : {X : Type 0} (b : Bool) (o : Option X) (x : X) → (if b then o else None) ≡ Some x → (b ≡ true) × (o ≡ Some x)
if_some true o x is = (refl, is)
if_some false o x is = cc

then_some : {X Y : Type 0} (f : X → Option Y) (o : Option X) (y : Y) → option_and_then f o ≡ Some y → (x : X) × (o ≡ Some x) × (f x ≡ Some y)
then_some f None y is = cc
then_some f (Some x) y is = (x, refl, is)

map_some : {X Y : Type 0} (f : X → Y) (o : Option X) (y : Y) → option_map f o ≡ Some y → (x : X) × (o ≡ Some x) × (f x ≡ y)
map_some f None y is = cc
map_some f (Some x) y is = (x, refl, cc)

same_some : {X : Type 0} (a b : X) → Some a ≡ Some b → a ≡ b
same_some a b is = cc

end_some : {X : Type 0} (words : List (List ℕ)) (a b : X) → at_end words a ≡ Some b → (words ≡ []) × (a ≡ b)
end_some [] a b is = (refl, same_some a b is)
end_some (word ∷ rest) a b is = cc

-- Numbers.

below_seed : (o : Option ℕ) (seed : ℕ) → option_and_then below_2_64 o ≡ Some seed → (o ≡ Some seed) × (seed < 2 ^ 64)
below_seed None seed is = cc
below_seed (Some n) seed is =
    let kept = if_some (nat_lt n (2 ^ 64)) (Some n) seed is in
    let same : n ≡ seed = let e = kept.1 in cc in
    (kept.1, rw (← same) (grind (arith, nat_tests)))

spells : (text : List ℕ) (seed : ℕ) → seed_of text ≡ Some seed → SpellsSeed text seed
spells text seed is = below_seed (number_of text) seed is

spelled : (text : List ℕ) (seed : ℕ) → SpellsSeed text seed → seed_of text ≡ Some seed
spelled text seed spelt = rw (spelt.0) (let small : nat_lt seed (2 ^ 64) ≡ true = grind (arith, nat_tests) in rw small refl)

few_rows : (o : Option ℕ) (rows : ℕ) → option_and_then from_1_to_most o ≡ Some rows → (o ≡ Some rows) × (1 ≤ rows) × (rows ≤ most_rows)
few_rows None rows is = cc
few_rows (Some n) rows is =
    let kept = if_some (nat_le 1 n && nat_le n most_rows) (Some n) rows is in
    let both = and_parts (nat_le 1 n) (nat_le n most_rows) kept.0 in
    let some : nat_le 1 n ≡ true = both.0 in
    let few : nat_le n most_rows ≡ true = both.1 in
    let same : n ≡ rows = same_some n rows kept.1 in
    (kept.1, rw (← same) (grind (arith, nat_tests)), rw (← same) (grind (arith, nat_tests)))

spells_rows : (text : List ℕ) (rows : ℕ) → row_count_of text ≡ Some rows → SpellsRows text rows
spells_rows text rows is = few_rows (number_of text) rows is

spelled_rows : (text : List ℕ) (rows : ℕ) → SpellsRows text rows → row_count_of text ≡ Some rows
spelled_rows text rows spelt =
    let least : 1 ≤ rows = spelt.1 in
    let most : rows ≤ most_rows = spelt.2 in
    let some : nat_le 1 rows ≡ true = grind (arith, nat_tests) in
    let few : nat_le rows most_rows ≡ true = grind (arith, nat_tests) in
    rw (spelt.0) (rw (some, few) refl)

-- What is computed is what is meant.

behind_is : (front word text : List ℕ) → behind front word ≡ Some text → word ≡ front ++ text
behind_is front word text is =
    let kept = if_some (bytes_eq (take (length front) word) front) (Some (drop (length front) word)) text is in
    sym (take-append-drop (length front) word)
    ∙ ap (λ l. l ++ drop (length front) word) ((bytes_eq-Decides (take (length front) word) front).0 kept.0)
    ∙ ap (λ l. front ++ l) (same_some (drop (length front) word) text kept.1)

-- words that give an option a text, and the words behind them
record Gives (name : List ℕ) (words : List (List ℕ)) (one : Given) : Type 0 where
  pub front : List (List ℕ)
  pub whole : words ≡ front ++ one.1
  pub gives : GiveOption name front one.0

given_is : (name : List ℕ) (words : List (List ℕ)) (one : Given) → given name words ≡ Some one → Gives name words one
given_is name [] one is = cc
given_is name (word ∷ rest) one is = by (bytes_eq word name) refl is
  where
    named : word ≡ name → (rest : List (List ℕ)) → first_word rest ≡ Some one → Gives name (word ∷ rest) one
    named same [] is = cc
    named same (text ∷ more) is =
        subst (Gives name (word ∷ text ∷ more)) (same_some (text, more) one is)
        (record { front = word ∷ text ∷ []; whole = refl; gives = inl (ap (λ w. w ∷ text ∷ []) same) })

    joined : option_map (λ text. (text, rest)) (option_and_then (behind (codes "=")) (behind name word)) ≡ Some one → Gives name (word ∷ rest) one
    joined is =
        let made = map_some (λ (text : List ℕ). (text, rest)) (option_and_then (behind (codes "=")) (behind name word)) one is in
        let sign = then_some (behind (codes "=")) (behind name word) made.0 made.1 in
        subst (Gives name (word ∷ rest)) made.2
        (record {
          front = word ∷ [];
          whole = refl;
          gives = inr (ap (λ w. w ∷ []) (behind_is name word sign.0 sign.1 ∙ ap (λ l. name ++ l) (behind_is (codes "=") sign.0 made.0 sign.2)));
        })

    by : (b : Bool) → bytes_eq word name ≡ b → (if b then first_word rest else option_map (λ text. (text, rest)) (option_and_then (behind (codes "=")) (behind name word))) ≡ Some one → Gives name (word ∷ rest) one
    by true same is = named ((bytes_eq-Decides word name).0 same) rest is
    by false other is = joined is

given_alone_is : (name : List ℕ) (words : List (List ℕ)) (text : List ℕ) → given_alone name words ≡ Some text → GiveOption name words text
given_alone_is name words text is =
    let one = then_some (λ (one : Given). at_end one.1 one.0) (given name words) text is in
    let ended = end_some one.0.1 one.0.0 text one.2 in
    let a = given_is name words one.0 one.1 in
    let whole : words ≡ a.front = a.whole ∙ ap (λ l. a.front ++ l) ended.0 ∙ append-nil a.front in
    subst (GiveOption name words) ended.1 (subst (λ l. GiveOption name l one.0.0) (sym whole) a.gives)

-- `--threads` is taken off the front of these words, or not
abbrev Skips : Bool → List (List ℕ) → Bool × List (List ℕ) → Type 0
Skips found words p = ((p.0 ≡ found) × (words ≡ p.1)) ⊎ ((found ≡ false) × (p.0 ≡ true) × (words ≡ codes "--threads" ∷ p.1))

skips_is : (found : Bool) (words : List (List ℕ)) → Skips found words (skip_threads found words)
skips_is found [] = inl (refl, refl)
skips_is true (word ∷ rest) = inl (refl, refl)
skips_is false (word ∷ rest) = by (bytes_eq word (codes "--threads")) refl
  where
    by : (b : Bool) → bytes_eq word (codes "--threads") ≡ b → Skips false (word ∷ rest) (if b then (true, rest) else (false, word ∷ rest))
    by true same = inr (refl, refl, ap (λ w. w ∷ rest) ((bytes_eq-Decides word (codes "--threads")).0 same))
    by false other = inl (refl, refl)

-- words that give an option a text, with `--threads` before it or not, and the words behind them
record GivesNext (name : List ℕ) (found : Bool) (words : List (List ℕ)) (one : GivenNext) : Type 0 where
  pub front : List (List ℕ)
  pub skips : Skips found words (one.1, front ++ one.2)
  pub gives : GiveOption name front one.0

given_next_is : (name : List ℕ) (found : Bool) (words : List (List ℕ)) (one : GivenNext) → given_next name found words ≡ Some one → GivesNext name found words one
given_next_is name found words one is =
    let threads : Bool = (skip_threads found words).0 in
    let rest : List (List ℕ) = (skip_threads found words).1 in
    let made = map_some (λ (one : Given). (one.0, threads, one.1)) (given name rest) one is in
    let a = given_is name rest made.0 made.1 in
    subst (GivesNext name found words) made.2 (record { front = a.front; skips = subst (λ l. Skips found words (threads, l)) a.whole (skips_is found words); gives = a.gives })

at_end_is : (found : Bool) (words : List (List ℕ)) (threads : Bool) → threads_at_end found words ≡ Some threads → Skips found words (threads, [])
at_end_is found words threads is =
    let now = skip_threads found words in
    let ended = end_some now.1 now.0 threads is in
    subst (λ b. Skips found words (b, [])) ended.1 (subst (λ l. Skips found words (now.0, l)) ended.0 (skips_is found words))

in_order : (front back words mid last : List (List ℕ)) (found now threads : Bool) → Skips false words (found, front ++ mid) → Skips found mid (now, back ++ last) → Skips now last (threads, []) → AreOptions threads front back words
in_order front back words mid last found now threads (inl a) (inl b) (inl c) =
    subst (λ t. AreOptions t front back words) (sym (c.0 ∙ b.0 ∙ a.0)) (a.1 ∙ ap (λ l. front ++ l) (b.1 ∙ ap (λ l. back ++ l) c.1 ∙ append-nil back))
in_order front back words mid last found now threads (inl a) (inl b) (inr c) =
    subst (λ t. AreOptions t front back words) (sym c.1) (inr (inr (a.1 ∙ ap (λ l. front ++ l) (b.1 ∙ ap (λ l. back ++ l) c.2))))
in_order front back words mid last found now threads (inl a) (inr b) (inl c) =
    subst (λ t. AreOptions t front back words) (sym (c.0 ∙ b.1))
    (inr (inl (a.1 ∙ ap (λ l. front ++ l) (b.2 ∙ ap (λ l. codes "--threads" ∷ l) (ap (λ l. back ++ l) c.1 ∙ append-nil back)))))
in_order front back words mid last found now threads (inl a) (inr b) (inr c) = absurd (true≢false (sym b.1 ∙ c.0))
in_order front back words mid last found now threads (inr a) (inl b) (inl c) =
    subst (λ t. AreOptions t front back words) (sym (c.0 ∙ b.0 ∙ a.1))
    (inl (a.2 ∙ ap (λ l. codes "--threads" ∷ (front ++ l)) (b.1 ∙ ap (λ l. back ++ l) c.1 ∙ append-nil back)))
in_order front back words mid last found now threads (inr a) (inl b) (inr c) = absurd (true≢false (sym a.1 ∙ sym b.0 ∙ c.0))
in_order front back words mid last found now threads (inr a) (inr b) c = absurd (true≢false (sym a.1 ∙ b.0))

-- words that give two options a text each, and hold `--threads` or not
record GivesBoth (first second : List ℕ) (words : List (List ℕ)) (both : GivenBoth) : Type 0 where
  pub front : List (List ℕ)
  pub back : List (List ℕ)
  pub order : AreOptions both.2 front back words
  pub one : GiveOption first front both.0
  pub two : GiveOption second back both.1

given_both_is : (first second : List ℕ) (words : List (List ℕ)) (both : GivenBoth) → given_both first second words ≡ Some both → GivesBoth first second words both
given_both_is first second words both is =
    let one = then_some (λ (one : GivenNext). option_and_then (λ (two : GivenNext). option_map (λ threads. (one.0, two.0, threads)) (threads_at_end two.1 two.2)) (given_next second one.1 one.2))
    (given_next first false words) both is in
    let two = then_some (λ (two : GivenNext). option_map (λ threads. (one.0.0, two.0, threads)) (threads_at_end two.1 two.2)) (given_next second one.0.1 one.0.2) both one.2 in
    let end = map_some (λ threads. (one.0.0, two.0.0, threads)) (threads_at_end two.0.1 two.0.2) both two.2 in
    let a = given_next_is first false words one.0 one.1 in
    let b = given_next_is second one.0.1 one.0.2 two.0 two.1 in
    let c = at_end_is two.0.1 two.0.2 end.0 end.1 in
    subst (GivesBoth first second words) {x = (one.0.0, two.0.0, end.0)} end.2
    (record { front = a.front; back = b.front; order = in_order a.front b.front words one.0.2 two.0.2 one.0.1 two.0.1 end.0 a.skips b.skips c; one = a.gives; two = b.gives })

step_is : (options : List (List ℕ)) (w : Wanted) → step_of options ≡ Some w → Want (codes "step" ∷ options) w
step_is [] w is = subst (Want (codes "step" ∷ [])) (same_some Step w is) refl
step_is (option ∷ more) w is =
    let options = option ∷ more in
    let text = then_some (λ text. option_map Seeded (seed_of text)) (given_alone (codes "--seed") options) w is in
    let seed = map_some Seeded (seed_of text.0) w text.2 in
    subst (Want (codes "step" ∷ options)) seed.2 (options, refl, (text.0, given_alone_is (codes "--seed") options text.0 text.1, spells text.0 seed.0 seed.1))

run_is : (options : List (List ℕ)) (w : Wanted) → run_of options ≡ Some w → Want (codes "run" ∷ options) w
run_is options w is =
    let ended = end_some options Run w is in
    subst (Want (codes "run" ∷ options)) ended.1 (ap (λ l. codes "run" ∷ l) ended.0)

-- a load whose numbers are spelled so
record LoadBy (rows seed : List ℕ) (threads : Bool) (w : Wanted) : Type 0 where
  pub row_count : ℕ
  pub seed_is : ℕ
  pub spells_rows : SpellsRows rows row_count
  pub spells_seed : SpellsSeed seed seed_is
  pub load : Load row_count seed_is threads ≡ w

load_by_is : (rows seed : List ℕ) (threads : Bool) (w : Wanted) → load_by rows seed threads ≡ Some w → LoadBy rows seed threads w
load_by_is rows seed threads w is =
    let n = then_some (λ n. option_map (λ k. Load n k threads) (seed_of seed)) (row_count_of rows) w is in
    let k = map_some (λ k. Load n.0 k threads) (seed_of seed) w n.2 in
    record { row_count = n.0; seed_is = k.0; spells_rows = spells_rows rows n.0 n.1; spells_seed = spells seed k.0 k.1; load = k.2 }

load_is : (options : List (List ℕ)) (w : Wanted) → load_of options ≡ Some w → Want (codes "load" ∷ options) w
load_is options w is = by (given_both (codes "--rows") (codes "--seed") options) refl is
  where
    by : (o : Option GivenBoth) → given_both (codes "--rows") (codes "--seed") options ≡ o
        → option_map_or (λ (both : GivenBoth). load_by both.0 both.1 both.2) o
        (option_and_then (λ (both : GivenBoth). load_by both.1 both.0 both.2) (given_both (codes "--seed") (codes "--rows") options)) ≡ Some w
        → Want (codes "load" ∷ options) w
    by (Some texts) at is =
        let both = given_both_is (codes "--rows") (codes "--seed") options texts at in
        let load = load_by_is texts.0 texts.1 texts.2 w is in
        subst (Want (codes "load" ∷ options)) load.load (
          options,
          refl,
          record {
            for_rows = both.front;
            for_seed = both.back;
            either_order = inl both.order;
            rows_are = (texts.0, both.one, load.spells_rows);
            seed_is = (texts.1, both.two, load.spells_seed);
          },
        )
    by None at is =
        let found = then_some (λ (both : GivenBoth). load_by both.1 both.0 both.2) (given_both (codes "--seed") (codes "--rows") options) w is in
        let both = given_both_is (codes "--seed") (codes "--rows") options found.0 found.1 in
        let load = load_by_is found.0.1 found.0.0 found.0.2 w found.2 in
        subst (Want (codes "load" ∷ options)) load.load (
          options,
          refl,
          record {
            for_rows = both.back;
            for_seed = both.front;
            either_order = inr both.order;
            rows_are = (found.0.1, both.two, load.spells_rows);
            seed_is = (found.0.0, both.one, load.spells_seed);
          },
        )

pub wanted_is : (words : List (List ℕ)) (w : Wanted) → wanted words ≡ Some w → Want words w
wanted_is [] w is = cc
wanted_is (first ∷ options) w is = by (bytes_eq first (codes "step")) refl is
  where
    -- where the first word is this one
    named : (name : List ℕ) → bytes_eq first name ≡ true → Want (name ∷ options) w → Want (first ∷ options) w
    named name same want = subst (λ (l : List ℕ). Want (l ∷ options) w) (sym ((bytes_eq-Decides first name).0 same)) want

    else_load : (if bytes_eq first (codes "load") then load_of options else None) ≡ Some w → Want (first ∷ options) w
    else_load is =
        let kept = if_some (bytes_eq first (codes "load")) (load_of options) w is in
        named (codes "load") kept.0 (load_is options w kept.1)

    else_run : (b : Bool) → bytes_eq first (codes "run") ≡ b → (if b then run_of options else if bytes_eq first (codes "load") then load_of options else None) ≡ Some w → Want (first ∷ options) w
    else_run true same is = named (codes "run") same (run_is options w is)
    else_run false other is = else_load is

    by : (b : Bool) → bytes_eq first (codes "step") ≡ b
        → (if b then step_of options else if bytes_eq first (codes "run") then run_of options else if bytes_eq first (codes "load") then load_of options else None) ≡ Some w
        → Want (first ∷ options) w
    by true same is = named (codes "step") same (step_is options w is)
    by false other is = else_run (bytes_eq first (codes "run")) refl is

-- What is meant is computed.

-- an option that is found where it comes first, also behind `--threads`
record IsFound (name : List ℕ) : Type 0 where
  pub at_front : (words : List (List ℕ)) (text : List ℕ) (rest : List (List ℕ)) (found : Bool) → GiveOption name words text → given_next name found (words ++ rest) ≡ Some (text, found, rest)
  pub behind_threads : (words : List (List ℕ)) (text : List ℕ) (rest : List (List ℕ)) → GiveOption name words text → given_next name false (codes "--threads" ∷ (words ++ rest)) ≡ Some (text, true, rest)

seed_found : IsFound (codes "--seed")
seed_found = record { at_front = at_front; behind_threads = behind_threads }
  where
    at_front : (words : List (List ℕ)) (text : List ℕ) (rest : List (List ℕ)) (found : Bool) → GiveOption (codes "--seed") words text → given_next (codes "--seed") found (words ++ rest) ≡ Some (text, found, rest)
    at_front words text rest true (inl two) = rw two refl
    at_front words text rest true (inr one) = rw one refl
    at_front words text rest false (inl two) = rw two refl
    at_front words text rest false (inr one) = rw one refl

    behind_threads : (words : List (List ℕ)) (text : List ℕ) (rest : List (List ℕ)) → GiveOption (codes "--seed") words text
        → given_next (codes "--seed") false (codes "--threads" ∷ (words ++ rest)) ≡ Some (text, true, rest)
    behind_threads words text rest (inl two) = rw two refl
    behind_threads words text rest (inr one) = rw one refl

rows_found : IsFound (codes "--rows")
rows_found = record { at_front = at_front; behind_threads = behind_threads }
  where
    at_front : (words : List (List ℕ)) (text : List ℕ) (rest : List (List ℕ)) (found : Bool) → GiveOption (codes "--rows") words text → given_next (codes "--rows") found (words ++ rest) ≡ Some (text, found, rest)
    at_front words text rest true (inl two) = rw two refl
    at_front words text rest true (inr one) = rw one refl
    at_front words text rest false (inl two) = rw two refl
    at_front words text rest false (inr one) = rw one refl

    behind_threads : (words : List (List ℕ)) (text : List ℕ) (rest : List (List ℕ)) → GiveOption (codes "--rows") words text
        → given_next (codes "--rows") false (codes "--threads" ∷ (words ++ rest)) ≡ Some (text, true, rest)
    behind_threads words text rest (inl two) = rw two refl
    behind_threads words text rest (inr one) = rw one refl

-- an option that is found, with no words behind it
module _ (name : List ℕ) (is : IsFound name) (words : List (List ℕ)) (text : List ℕ) (gives : GiveOption name words text) where
  last_given : (found : Bool) → given_next name found words ≡ Some (text, found, [])
  last_given found = ap (given_next name found) (sym (append-nil words)) ∙ is.at_front words text [] found gives

  last_behind_threads : given_next name false (codes "--threads" ∷ words) ≡ Some (text, true, [])
  last_behind_threads = ap (λ l. given_next name false (codes "--threads" ∷ l)) (sym (append-nil words)) ∙ is.behind_threads words text [] gives

both_given : (first second : List ℕ) (words : List (List ℕ)) (one two : GivenNext) (threads : Bool) → given_next first false words ≡ Some one → given_next second one.1 one.2 ≡ Some two
    → threads_at_end two.1 two.2 ≡ Some threads
    → given_both first second words ≡ Some (one.0, two.0, threads)
both_given first second words one two threads first_is second_is end_is =
    ap
    (λ o. option_and_then (λ (one : GivenNext). option_and_then (λ (two : GivenNext). option_map (λ threads. (one.0, two.0, threads)) (threads_at_end two.1 two.2)) (given_next second one.1 one.2)) o)
    first_is
    ∙ ap (λ o. option_and_then (λ (two : GivenNext). option_map (λ threads. (one.0, two.0, threads)) (threads_at_end two.1 two.2)) o) second_is
    ∙ ap (λ o. option_map (λ threads. (one.0, two.0, threads)) o) end_is

module _ (first second : List ℕ) (is_first : IsFound first) (is_second : IsFound second) (front back words : List (List ℕ)) (a b : List ℕ) (one : GiveOption first front a) (two : GiveOption second back b) where
  in_order_given : (threads : Bool) → AreOptions threads front back words → given_both first second words ≡ Some (a, b, threads)
  in_order_given false order =
      both_given first second words (a, false, back) (b, false, []) false
      (ap (given_next first false) order ∙ is_first.at_front front a back false one)
      (last_given second is_second back b two false) refl
  in_order_given true (inl order) =
      both_given first second words (a, true, back) (b, true, []) true
      (ap (given_next first false) order ∙ is_first.behind_threads front a back one)
      (last_given second is_second back b two true) refl
  in_order_given true (inr (inl order)) =
      both_given first second words (a, false, codes "--threads" ∷ back) (b, true, []) true
      (ap (given_next first false) order ∙ is_first.at_front front a (codes "--threads" ∷ back) false one)
      (last_behind_threads second is_second back b two) refl
  in_order_given true (inr (inr order)) =
      both_given first second words (a, false, back ++ (codes "--threads" ∷ [])) (b, false, codes "--threads" ∷ []) true
      (ap (given_next first false) order ∙ is_first.at_front front a (back ++ (codes "--threads" ∷ [])) false one)
      (is_second.at_front back b (codes "--threads" ∷ []) false two) refl

-- what gives a seed first gives no rows first
none_given : (words : List (List ℕ)) (text : List ℕ) (rest : List (List ℕ)) → GiveOption (codes "--seed") words text → given_next (codes "--rows") false (words ++ rest) ≡ None
none_given words text rest (inl two) = rw two refl
none_given words text rest (inr one) = rw one refl

none_behind_threads : (words : List (List ℕ)) (text : List ℕ) (rest : List (List ℕ)) → GiveOption (codes "--seed") words text
    → given_next (codes "--rows") false (codes "--threads" ∷ (words ++ rest)) ≡ None
none_behind_threads words text rest (inl two) = rw two refl
none_behind_threads words text rest (inr one) = rw one refl

none_in_order : (threads : Bool) (front back words : List (List ℕ)) (text : List ℕ) → GiveOption (codes "--seed") front text → AreOptions threads front back words → given_next (codes "--rows") false words ≡ None
none_in_order false front back words text gives order = ap (given_next (codes "--rows") false) order ∙ none_given front text back gives
none_in_order true front back words text gives (inl order) = ap (given_next (codes "--rows") false) order ∙ none_behind_threads front text back gives
none_in_order true front back words text gives (inr (inl order)) = ap (given_next (codes "--rows") false) order ∙ none_given front text (codes "--threads" ∷ back) gives
none_in_order true front back words text gives (inr (inr order)) = ap (given_next (codes "--rows") false) order ∙ none_given front text (back ++ (codes "--threads" ∷ [])) gives

by_seed : (options : List (List ℕ)) (text : List ℕ) (seed : ℕ) → GiveOption (codes "--seed") options text → SpellsSeed text seed → wanted (codes "step" ∷ options) ≡ Some (Seeded seed)
by_seed options text seed (inl two) spelt = rw (two, spelled text seed spelt) refl
by_seed options text seed (inr one) spelt = rw (one, spelled text seed spelt) refl

load_made : (rows_text seed_text : List ℕ) (rows seed : ℕ) (threads : Bool) → SpellsRows rows_text rows → SpellsSeed seed_text seed → load_by rows_text seed_text threads ≡ Some (Load rows seed threads)
load_made rows_text seed_text rows seed threads rows_spelt seed_spelt =
    ap (λ o. option_and_then (λ n. option_map (λ k. Load n k threads) (seed_of seed_text)) o) (spelled_rows rows_text rows rows_spelt)
    ∙ ap (λ o. option_map (λ k. Load rows k threads) o) (spelled seed_text seed seed_spelt)

by_load : (options : List (List ℕ)) (rows seed : ℕ) (threads : Bool) → GiveLoad options rows seed threads → load_of options ≡ Some (Load rows seed threads)
by_load options rows seed threads give = by give.either_order
  where
    rows_text : List ℕ
    rows_text = give.rows_are.0

    seed_text : List ℕ
    seed_text = give.seed_is.0

    -- where no rows come first
    else_by : Option GivenBoth → Option Wanted
    else_by o = option_map_or (λ (both : GivenBoth). load_by both.0 both.1 both.2) o
        (option_and_then (λ (both : GivenBoth). load_by both.1 both.0 both.2) (given_both (codes "--seed") (codes "--rows") options))

    made : load_by rows_text seed_text threads ≡ Some (Load rows seed threads)
    made = load_made rows_text seed_text rows seed threads give.rows_are.2 give.seed_is.2

    by : AreOptions threads give.for_rows give.for_seed options ⊎ AreOptions threads give.for_seed give.for_rows options → load_of options ≡ Some (Load rows seed threads)
    by (inl order) =
        ap else_by
        (in_order_given (codes "--rows") (codes "--seed") rows_found seed_found give.for_rows give.for_seed options rows_text seed_text give.rows_are.1 give.seed_is.1 threads order)
        ∙ made
    by (inr order) =
        let none : given_both (codes "--rows") (codes "--seed") options ≡ None = ap
        (λ o. option_and_then (λ (one : GivenNext). option_and_then (λ (two : GivenNext). option_map (λ threads. (one.0, two.0, threads)) (threads_at_end two.1 two.2)) (given_next (codes "--seed") one.1 one.2)) o)
        (none_in_order threads give.for_seed give.for_rows options seed_text give.seed_is.1 order) in
        ap else_by none
        ∙ ap (λ o. option_and_then (λ (both : GivenBoth). load_by both.1 both.0 both.2) o)
        (in_order_given (codes "--seed") (codes "--rows") seed_found rows_found give.for_seed give.for_rows options seed_text rows_text give.seed_is.1 give.rows_are.1 threads order)
        ∙ made

pub is_wanted : (words : List (List ℕ)) (w : Wanted) → Want words w → wanted words ≡ Some w
is_wanted words Step want = rw want refl
is_wanted words (Seeded seed) want = rw want.1 (by_seed want.0 want.2.0 seed want.2.1 want.2.2)
is_wanted words Run want = rw want refl
is_wanted words (Load rows seed threads) want = rw want.1 (by_load want.0 rows seed threads want.2)

-- where nothing is computed, nothing is meant
pub none_wanted : (words : List (List ℕ)) (w : Wanted) → wanted words ≡ None → Want words w → ⊥
none_wanted words w none want = cc (sym none ∙ is_wanted words w want)

pub some_wanted : (words : List (List ℕ)) (found : Option Wanted) → found ≡ wanted words → IfSome found (Want words)
some_wanted words None is = tt
some_wanted words (Some w) is = wanted_is words w (sym is)

-- What is wanted can be generated.
few_wanted : (words : List (List ℕ)) (w : Wanted) → Want words w → AreFewRows w
few_wanted words Step want = tt
few_wanted words (Seeded seed) want = tt
few_wanted words Run want = tt
few_wanted words (Load rows seed threads) want = want.2.rows_are.2.2

pub few_some : (words : List (List ℕ)) (found : Option Wanted) → found ≡ wanted words → IfSome found AreFewRows
few_some words None is = tt
few_some words (Some w) is = few_wanted words w (wanted_is words w (sym is))
