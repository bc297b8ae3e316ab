-- Records against which nothing stands, one after the other: any at all, commands, and concepts.
use Rattle.std.proofs.{Common.{◌≡◌, ◌<◌, ◌∙◌, ◌+◌, ◌++◌, ℕ, List, [], ◌∷◌, length, Bool, true, false, ◌&&◌, Option, Some, None, Ok, ap, refl, arith, append-nil, length-append}, lemmas.Bool.and_parts, lemmas.Bool.Decides.nat_tests}
use Rattle.std.specs.{List.list_all, Option.option_map_or, Prelude.{⊤, not, ◌==◌, ◌||◌, codes, unwrap_or, option_and_then, if◌then◌else◌}}
use Rattle.csv.specs.Records.{field_at}
use Rattle.dim_hierarchy.specs.Dimension.{Dimension, concept_fault, find_dim}
use Rattle.row_ledger.specs.declared.settings.Use.{Use}
use Rattle.script_form.specs.{Causes.{cause_at, cause_by_kind, cause_in, cause_under, concept_cause, hierarchy_cause, is_version, parent_of, wrong_name, wrong_number, wrong_order}, Fields.{Record, field, is_name, is_star}, Scripts.{after, concept_added, first_cause, first_fault, hierarchy_with, script, script_of, settings_with, with_named}, Table.{kind_of, width}, declared.script.Cause.Cause, declared.script.Script.Script, declared.table.Kind.Kind}
use Rattle.script_form.specs.declared.table.Kind.TheVariants as kind
use Rattle.script_form.specs.declared.script.Cause.TheVariants as cause
use Rattle.script_form.proofs.ScriptFacts.{script_fine, script_of-push}

-- Records of which none has a cause, each behind the script of those before it.

abbrev pub Fine : ℕ → Script → List Record → Type 0
Fine place s [] = ⊤
Fine place s (r ∷ rs) = (cause_at place s r ≡ None) × Fine (place + 1) (after s r) rs

-- the script of these records too
abbrev pub afters : Script → List Record → Script
afters s [] = s
afters s (r ∷ rs) = afters (after s r) rs

same_place : (s : Script) (rs : List Record) (a b : ℕ) → a ≡ b → Fine a s rs → Fine b s rs
same_place s rs a b is fine = rw (← is) fine

pub fine_append : (place : ℕ) (s : Script) (xs ys : List Record) → Fine place s xs → Fine (place + length xs) (afters s xs) ys → Fine place s (xs ++ ys)
fine_append place s [] ys fine later = same_place s ys (place + 0) place (omega arith) later
fine_append place s (x ∷ xs) ys fine later =
    (fine.0, fine_append (place + 1) (after s x) xs ys fine.1 (same_place (afters (after s x) xs) ys (place + length (x ∷ xs)) (place + 1 + length xs) (omega arith) later))

no_fault : (before rs : List Record) → Fine (length before) (script_of before) rs → first_fault before rs ≡ None
no_fault before [] fine = refl
no_fault before (r ∷ rs) fine =
    let none : first_cause before r ≡ None = fine.0 in
    let place : length before + 1 ≡ length (before ++ r ∷ []) = omega (arith, length-append before (r ∷ [])) in
    let next : Fine (length (before ++ r ∷ [])) (script_of (before ++ r ∷ [])) rs = rw (← place, script_of-push before r) fine.1 in
    rw none (no_fault (before ++ r ∷ []) rs next)

-- such records are a script
pub fine_script : (rs : List Record) → 0 < length rs → Fine 0 (script_of []) rs → script rs ≡ Ok (script_of rs)
fine_script rs some fine = script_fine rs some (no_fault [] rs fine)

-- Commands that nothing of the hierarchy can stand against: all but groups.

abbrev commands : Kind → Bool
commands kind.Volap = false
commands kind.Use = false
commands kind.Dim = false
commands kind.Concept = false
commands kind.Group = false
commands _ = true

abbrev has_form : ℕ → ℕ → Kind → Record → Bool
has_form servers dims k r = commands k && ((length r == width k dims) && (not (wrong_number servers k r) && not (wrong_name k r)))

-- such a command of a script of so many servers and dimensions
unfoldable pub is_command : ℕ → ℕ → Record → Bool
is_command servers dims r = option_map_or (λ k. has_form servers dims k r) (kind_of (field r 0)) false

-- none of the tests of a record fails
pub passes : (a b c d : Bool) (rest : Option Cause) → a ≡ false → b ≡ false → c ≡ false → d ≡ false → rest ≡ None
    → (if a then Some cause.Order else if b then Some cause.Fields else if c then Some cause.Number else if d then Some cause.Name else rest) ≡ None
passes a b c d rest ae be c_is de re = rw (ae, be, c_is, de) re

pub not_first : (place : ℕ) (b : Bool) (rest : Option Cause) → 0 < place → rest ≡ None → (if (place == 0) && b then Some cause.Version else rest) ≡ None
not_first place b rest behind none = let zero_not : (place == 0) ≡ false = grind (arith, nat_tests) in rw zero_not none

pub not_true : (b : Bool) → not b ≡ true → b ≡ false
not_true true is = cc
not_true false is = refl

same_number : (a b : ℕ) → (a == b) ≡ true → a ≡ b
same_number a b is = grind (arith, nat_tests)

number_same : (a b : ℕ) → a ≡ b → not (a == b) ≡ false
number_same a b is = grind (arith, nat_tests)

-- what a command does not touch
record Leaves (place : ℕ) (s : Script) (k : Kind) (r : Record) : Type 0 where
  order : wrong_order place s k ≡ (length s.hierarchy == 0)
  cause : hierarchy_cause s.hierarchy k r ≡ None
  settings : settings_with (Some k) s.with r ≡ s.with
  hierarchy : hierarchy_with (Some k) s.hierarchy r ≡ s.hierarchy

leaves : (place : ℕ) (s : Script) (k : Kind) (r : Record) → commands k ≡ true → Leaves place s k r
leaves place s kind.Volap r is = cc
leaves place s kind.Use r is = cc
leaves place s kind.Dim r is = cc
leaves place s kind.Concept r is = cc
leaves place s kind.Group r is = cc
leaves place s _ r is = record { order = refl; cause = refl; settings = refl; hierarchy = refl }

pub record HasSize (s : Script) (servers dims : ℕ) : Type 0 where
  pub servers_are : s.with.servers ≡ servers
  pub dims_are : length s.hierarchy ≡ dims

record GoesBy (place : ℕ) (s : Script) (o : Option Kind) (r : Record) : Type 0 where
  cause : cause_by_kind place s o r ≡ None
  settings : settings_with o s.with r ≡ s.with
  hierarchy : hierarchy_with o s.hierarchy r ≡ s.hierarchy

by_kind : (servers dims place : ℕ) (s : Script) (o : Option Kind) (r : Record) → HasSize s servers dims → 0 < dims → option_map_or (λ k. has_form servers dims k r) o false ≡ true → GoesBy place s o r
by_kind servers dims place s None r opened some is = cc
by_kind servers dims place s (Some k) r opened some is =
    let some_dims : (dims == 0) ≡ false = grind (arith, nat_tests) in
    let all = and_parts (commands k) ((length r == width k dims) && (not (wrong_number servers k r) && not (wrong_name k r))) is in
    let most = and_parts (length r == width k dims) (not (wrong_number servers k r) && not (wrong_name k r)) all.1 in
    let two = and_parts (not (wrong_number servers k r)) (not (wrong_name k r)) most.1 in
    let left = leaves place s k r all.0 in
    let order : wrong_order place s k ≡ false = left.order ∙ ap (λ n. n == 0) opened.dims_are ∙ some_dims in
    let fields : not (length r == width k (length s.hierarchy)) ≡ false = ap (λ n. not (length r == width k n)) opened.dims_are ∙ number_same (length r) (width k dims) (same_number (length r) (width k dims) most.0) in
    let number : wrong_number s.with.servers k r ≡ false = ap (λ n. wrong_number n k r) opened.servers_are ∙ not_true (wrong_number servers k r) two.0 in
    record {
      cause = passes (wrong_order place s k) (not (length r == width k (length s.hierarchy))) (wrong_number s.with.servers k r) (wrong_name k r) (hierarchy_cause s.hierarchy k r) order fields number (not_true (wrong_name k r) two.1) left.cause;
      settings = left.settings;
      hierarchy = left.hierarchy;
    }

size_after : (servers dims : ℕ) (s : Script) (r : Record) → (after s r).with ≡ s.with → (after s r).hierarchy ≡ s.hierarchy → HasSize s servers dims → HasSize (after s r) servers dims
size_after servers dims s r same_with same_dims opened = record { servers_are = ap (λ (w : Use). w.servers) same_with ∙ opened.servers_are; dims_are = ap (λ (h : List Dimension). length h) same_dims ∙ opened.dims_are }

-- commands stand behind any first record and a dimension
pub commands_fine : (servers dims : ℕ) (rs : List Record) (place : ℕ) (s : Script) → list_all (is_command servers dims) rs ≡ true → 0 < place → 0 < dims → HasSize s servers dims → Fine place s rs
unfolding is_command
commands_fine servers dims [] place s are behind some opened = tt
commands_fine servers dims (r ∷ rs) place s are behind some opened =
    let parts = and_parts (is_command servers dims r) (list_all (is_command servers dims) rs) are in
    let taken = by_kind servers dims place s (kind_of (field r 0)) r opened some parts.0 in (
      not_first place (not (is_version r)) (cause_by_kind place s (kind_of (field r 0)) r) behind taken.cause,
      commands_fine servers dims rs (place + 1) (after s r) parts.1 (omega arith) some (size_after servers dims s r taken.settings taken.hierarchy opened),
    )

-- Concepts.

-- a concept that its hierarchy has nothing against, before any command
pub concept_fine : (place : ℕ) (s : Script) (of name parent : List ℕ) (dim id : ℕ) → 0 < place → s.commands ≡ [] → is_name of ≡ true → is_name name ≡ true
    → (is_star parent || is_name parent) ≡ true → find_dim s.hierarchy of ≡ Some dim → parent_of s.hierarchy dim parent ≡ Some id → concept_fault s.hierarchy dim name id ≡ None
    → cause_at place s (codes "concept" ∷ of ∷ name ∷ parent ∷ []) ≡ None
unfolding field_at
concept_fine place s of name parent dim id behind none named_dim named named_parent at under fault =
    let r : Record = codes "concept" ∷ of ∷ name ∷ parent ∷ [] in
    let order : wrong_order place s kind.Concept ≡ false = ap (λ cs. not (length cs == 0)) none in
    let names : wrong_name kind.Concept r ≡ false = rw (named_dim, named, named_parent) refl in
    let cause : hierarchy_cause s.hierarchy kind.Concept r ≡ None =
    ap (λ o. cause_in s.hierarchy o r) at ∙ ap (λ o. cause_under s.hierarchy dim name o) under ∙ ap (λ o. option_and_then concept_cause o) fault in
    not_first place (not (is_version r)) (cause_by_kind place s (Some kind.Concept) r) behind
    (passes (wrong_order place s kind.Concept) false false (wrong_name kind.Concept r) (hierarchy_cause s.hierarchy kind.Concept r) order refl refl names cause)

-- and what the script is then
pub concept_after : (s : Script) (of name parent : List ℕ) (dim id : ℕ) → find_dim s.hierarchy of ≡ Some dim → parent_of s.hierarchy dim parent ≡ Some id
    → after s (codes "concept" ∷ of ∷ name ∷ parent ∷ []) ≡ record { with = s.with; hierarchy = with_named s.hierarchy dim name id; commands = s.commands }
unfolding field_at
concept_after s of name parent dim id at under =
    let r : Record = codes "concept" ∷ of ∷ name ∷ parent ∷ [] in
    let added : hierarchy_with (Some kind.Concept) s.hierarchy r ≡ with_named s.hierarchy dim name id =
    ap (λ o. concept_added s.hierarchy (unwrap_or o 0) r) at ∙ ap (λ o. with_named s.hierarchy dim name (unwrap_or o 0)) under in
    rw (append-nil s.commands) (ap (λ h. record { with = s.with; hierarchy = h; commands = s.commands }) added)
