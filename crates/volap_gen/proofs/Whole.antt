-- The generated text is a script.
use Rattle.std.proofs.Common.{◌≡◌, ◌<◌, ◌≤◌, ◌∙◌, ◌+◌, ◌++◌, ℕ, zero, suc, List, [], ◌∷◌, length, true, Ok, ap, refl, arith, lit<}
use Rattle.std.specs.{Cmp.Lexicographic.slice_cmp, List.list_all, Ordering.nat_cmp, Prelude.codes}
use Rattle.std.specs.FinMap as map
use Rattle.csv.specs.{Reading.{default_config, records_from, strip_bom}, Records.field_at}
use Rattle.csv.specs.declared.parser.State.TheVariants as st
use Rattle.dim_hierarchy.specs.{Dimension.{Dimension, new_dimension}, Tree.{new_tree, parents_at}}
use Rattle.row_ledger.specs.declared.settings.Use.{Use}
use Rattle.script_form.specs.{Fields.{Record, is_name}, Scripts.{records_of, script, script_of}}
use Rattle.script_form.proofs.Standing.{Fine, afters, commands_fine, fine_append, fine_script}
use Rattle.volap_gen.specs.{Generated.{closing, concept_records, generated, leaf_records, middle_records, opening, generated_rows, text_of}, declared.names.Dim.TheVariants.{Date, Store, Product}}
use Rattle.volap_gen.proofs.{Growing.{IsFilled, StandsAt}, Lines.{is_plain, lines_fit, lines_read}, Plain.{all_append, commands_rest, plain_date, plain_opening, plain_product, plain_rest, plain_store}, Walked.{IsSlot, IsWalked, at_work, walked}, Walks.{walk, walk_date, walk_product, walk_store}}

-- Read.

plain_all : (rows seed : ℕ) → list_all is_plain (generated rows seed) ≡ true
plain_all rows seed =
    all_append is_plain opening _ plain_opening
    (all_append is_plain (concept_records Date) _ plain_date
    (all_append is_plain (concept_records Store) _ plain_store
    (all_append is_plain (concept_records Product) _ plain_product (plain_rest rows seed))))

no_mark : (rows seed : ℕ) → strip_bom (text_of (generated rows seed)) ≡ text_of (generated rows seed)
unfolding strip_bom opening
no_mark rows seed = refl

pub generated_read : (rows seed : ℕ) → records_of (text_of (generated rows seed)) ≡ generated rows seed
generated_read rows seed =
    let text = text_of (generated rows seed) in
    let room = lines_fit (generated rows seed) in
    ap (λ t. records_from default_config (length t + 1) st.StartRecord t) (no_mark rows seed)
    ∙ lines_read (generated rows seed) (length text + 1) (omega (arith, room)) (plain_all rows seed)

-- The head.

settings : Use
settings = record { servers = 4; workers = 4; threads = 2; cells = 16384 }

abbrev bare : List ℕ → Dimension
bare name = new_dimension name 3

opening_fine : Fine 0 (script_of []) opening
unfolding opening field_at
opening_fine = (refl, (refl, (refl, (refl, (refl, tt)))))

opening_after : afters (script_of []) opening ≡ at_work settings (bare (codes "date") ∷ bare (codes "store") ∷ bare (codes "product") ∷ [])
unfolding opening field_at settings
opening_after = refl

rooms_bare : (l : ℕ) → length (parents_at (new_tree 3) l) ≤ 0 + 1
rooms_bare zero = omega arith
rooms_bare (suc zero) = omega arith
rooms_bare (suc (suc zero)) = omega arith
rooms_bare (suc (suc (suc zero))) = omega arith
rooms_bare (suc (suc (suc (suc l)))) = omega arith

bare_filled : (name : List ℕ) → IsFilled (bare name) 0 0
bare_filled name =
    let none = map.get-empty {X = ℕ} (slice_cmp nat_cmp) in
    record { levels = refl; named = λ q id e. let z = none q in absurd cc; rooms = rooms_bare; all = record { level = lit< tt; number = lit< tt } }

-- Each of the three dimensions, between the others.

slot_date : (b c : Dimension) → IsSlot (λ d. d ∷ b ∷ c ∷ []) 0 (codes "date")
slot_date b c = record { found = λ d is. rw is refl; at = λ d. refl; put = λ d e. refl; len = λ d. refl; within = omega arith; named = refl }

slot_store : (a c : Dimension) → a.name ≡ codes "date" → IsSlot (λ d. a ∷ d ∷ c ∷ []) 1 (codes "store")
slot_store a c first = record { found = λ d is. rw (first, is) refl; at = λ d. refl; put = λ d e. refl; len = λ d. refl; within = omega arith; named = refl }

slot_product : (a b : Dimension) → a.name ≡ codes "date" → b.name ≡ codes "store" → IsSlot (λ d. a ∷ b ∷ d ∷ []) 2 (codes "product")
slot_product a b first second = record { found = λ d is. rw (first, second, is) refl; at = λ d. refl; put = λ d e. refl; len = λ d. refl; within = omega arith; named = refl }

few_date : length (concept_records Date) ≡ 1047
unfolding concept_records middle_records leaf_records
few_date = refl

few_store : length (concept_records Store) ≡ 124
unfolding concept_records middle_records leaf_records
few_store = refl

few_product : length (concept_records Product) ≡ 225
unfolding concept_records middle_records leaf_records
few_product = refl

no_name : (d : Dimension) (level : ℕ) → is_name [] ≡ true → StandsAt d level []
no_name d level named = cc

walk_bare : (place : Dimension → List Dimension) (i : ℕ) (of : List ℕ) (nth : ℕ) → IsSlot place i of → 0 < nth
    → (rs : List Record) → length rs < 2000 → walk of 0 [] [] rs ≡ true → IsWalked settings place of nth (bare of) rs
walk_bare place i of nth slot behind rs few walks =
    walked settings place i of rs nth 0 0 [] [] (bare of) slot behind walks refl (bare_filled of) (no_name (bare of) 1) (no_name (bare of) 2) (omega (arith, few))

-- The whole.

-- records of a dimension, and others behind them
on : (place : Dimension → List Dimension) (of : List ℕ) (nth : ℕ) (d : Dimension) (rs later : List Record) (walk : IsWalked settings place of nth d rs)
    → Fine (nth + length rs) (at_work settings (place walk.grown_to)) later → Fine nth (at_work settings (place d)) (rs ++ later)
on place of nth d rs later walk fine = fine_append nth (at_work settings (place d)) rs later walk.fine (rw walk.then_is fine)

rest_fine : (rows seed nth : ℕ) (a b c : Dimension) → 0 < nth → Fine nth (at_work settings (a ∷ b ∷ c ∷ [])) (generated_rows rows seed ++ closing)
unfolding settings
rest_fine rows seed nth a b c behind =
    commands_fine 4 3 (generated_rows rows seed ++ closing) nth (at_work settings (a ∷ b ∷ c ∷ [])) (commands_rest rows seed) behind (omega arith) (record { servers_are = refl; dims_are = refl })

concepts_fine : (rows seed nth : ℕ) → 0 < nth → Fine nth (at_work settings (bare (codes "date") ∷ bare (codes "store") ∷ bare (codes "product") ∷ []))
    (concept_records Date ++ (concept_records Store ++ (concept_records Product ++ (generated_rows rows seed ++ closing))))
concepts_fine rows seed nth behind =
    let n1 = nth + length (concept_records Date) in
    let n2 = n1 + length (concept_records Store) in
    let n3 = n2 + length (concept_records Product) in
    let first = walk_bare (λ d. d ∷ bare (codes "store") ∷ bare (codes "product") ∷ []) 0 (codes "date") nth (slot_date (bare (codes "store")) (bare (codes "product"))) behind (concept_records Date) (omega (arith, few_date)) walk_date in
    let a = first.grown_to in
    let second = walk_bare (λ d. a ∷ d ∷ bare (codes "product") ∷ []) 1 (codes "store") n1 (slot_store a (bare (codes "product")) first.called) (omega (arith, behind)) (concept_records Store) (omega (arith, few_store)) walk_store in
    let b = second.grown_to in
    let third = walk_bare (λ d. a ∷ b ∷ d ∷ []) 2 (codes "product") n2 (slot_product a b first.called second.called) (omega (arith, behind)) (concept_records Product) (omega (arith, few_product)) walk_product in
    on (λ d. d ∷ bare (codes "store") ∷ bare (codes "product") ∷ []) (codes "date") nth (bare (codes "date")) (concept_records Date) _ first
    (on (λ d. a ∷ d ∷ bare (codes "product") ∷ []) (codes "store") n1 (bare (codes "store")) (concept_records Store) _ second
    (on (λ d. a ∷ b ∷ d ∷ []) (codes "product") n2 (bare (codes "product")) (concept_records Product) _ third
    (rest_fine rows seed n3 a b third.grown_to (omega (arith, behind)))))

some_opening : 0 < 0 + length opening
unfolding opening
some_opening = omega arith

all_fine : (rows seed : ℕ) → Fine 0 (script_of []) (generated rows seed)
all_fine rows seed =
    fine_append 0 (script_of []) opening (concept_records Date ++ (concept_records Store ++ (concept_records Product ++ (generated_rows rows seed ++ closing)))) opening_fine
    (rw opening_after (concepts_fine rows seed (0 + length opening) some_opening))

some : (rows seed : ℕ) → 0 < length (generated rows seed)
unfolding opening
some rows seed = omega arith

pub generated_script : (rows seed : ℕ) → script (records_of (text_of (generated rows seed))) ≡ Ok (script_of (generated rows seed))
generated_script rows seed = ap script (generated_read rows seed) ∙ fine_script (generated rows seed) (some rows seed) (all_fine rows seed)
