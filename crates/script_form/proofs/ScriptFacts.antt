-- The script of the records read so far.
use Rattle.std.proofs.{Common.{◌≡◌, ◌≢◌, ◌≤◌, ◌<◌, ◌+◌, ◌++◌, ℕ, List, get_or, [], ◌∷◌, length, map, drop, Bool, true, false, Option, Some, None, Ok, Err, arith, refl, sym, ◌∙◌, ap, subst, All, ◌&&◌, inl, inr, length-append, length-drop}, lemmas.Bool.{and_parts, cases_Bool, leb-true}, lemmas.Bool.Decides.nat_tests, lemmas.List.{append_assoc, append-nil, length-map, length-set, nil_from_length}, lemmas.List.Elements.{All-map, All-push}, lemmas.List.Splits.length-slice_split, lemmas.List.Sums.fold-append}
use Rattle.std.specs.{Option.option_to_list, Prelude.{codes, nat_le, not, unwrap_or, ◌==◌}, Str.bytes_eq}
use Rattle.dim_hierarchy.specs.{Dimension.{Dimension, find_dim, new_dimension, tree}, Names.IsNamePick, Tree.leaf_level}
use Rattle.script_form.specs.{Causes.{cause_at, group_cause, hierarchy_cause, is_version}, Fields.{Record, field, is_bar, is_star, value_of}, Fits.{AreSettings, Fits}, Reading.{MayStand, IsTaken}, Scripts.{after, command_by, first_cause, first_fault, hierarchy_with, nothing, pick_of, script, script_of, settings_with}, Table.kind_of, declared.script.Cause.Cause, declared.script.Command.Command, declared.script.Script.Script, declared.script.ScriptFault.ScriptFault, declared.table.Kind.Kind}
use Rattle.script_form.specs.declared.table.Kind.TheVariants as kind
use Rattle.script_form.specs.declared.script.Cause.TheVariants as cause
use Rattle.script_form.specs.declared.script.Command.TheVariants as command
use Rattle.script_form.specs.declared.script.ScriptFault.TheVariants as fault
use Rattle.script_form.proofs.PieceFacts.{position_below}
use Rattle.script_form.proofs.NumberFacts.{call_in_range, group_level, insert_server, query_server, settings_more, value_below}

-- of the records so far none has a cause, and this is their script
pub record SoFar (rows : List Record) (at : ℕ) (s : Script) : Type 0 where
  pub count : length rows ≡ at
  pub script : s ≡ script_of rows
  pub sound : (rest : List Record) → first_fault [] (rows ++ rest) ≡ first_fault rows rest
  pub begun : at ≤ 1 → s.commands ≡ []
  pub settings : AreSettings s.with
  pub fits : All (Fits s) s.commands
  pub dims : 0 < length s.commands → 0 < length s.hierarchy

pub none_so_far : SoFar [] 0 (script_of [])
none_so_far = record {
  count = refl;
  script = refl;
  sound = λ rest. refl;
  begun = λ _. refl;
  settings = record { servers = (omega arith, omega arith); workers = (omega arith, omega arith); threads = (omega arith, omega arith); cells = (omega arith, omega arith) };
  fits = λ k d within. absurd (omega arith);
  dims = λ some. absurd (omega arith);
}

-- One record more.

pub script_of-push : (rows : List Record) (r : Record) → script_of (rows ++ r ∷ []) ≡ after (script_of rows) r
script_of-push rows r = fold-append after nothing rows (r ∷ [])

-- the script with what a record of this kind says
after_kind : Kind → Script → Record → Script
after_kind k s r = record { with = settings_with (Some k) s.with r; hierarchy = hierarchy_with (Some k) s.hierarchy r; commands = s.commands ++ option_to_list (command_by (Some k) s.hierarchy r) }

after_by_kind : (s : Script) (r : Record) (k : Kind) → kind_of (field r 0) ≡ Some k → after s r ≡ after_kind k s r
unfolding after_kind
after_by_kind s r k is = rw is refl

-- The first record has no command, and so a `use` record has none before it.

version_kind : (r : Record) → is_version r ≡ true → kind_of (field r 0) ≡ Some kind.Volap
version_kind r is =
    let both = and_parts ((length r == 2) && bytes_eq (field r 0) (codes "volap")) (bytes_eq (field r 1) (codes "1")) is in
    let word = and_parts (length r == 2) (bytes_eq (field r 0) (codes "volap")) both.0 in
    rw word.1 refl

no_commands : (xs : List Command) → not (length xs == 0) ≡ false → xs ≡ []
no_commands xs none = nil_from_length xs (grind (arith, nat_tests))

stands_second : (place : ℕ) → not (place == 1) ≡ false → place ≡ 1
stands_second place is = grind (arith, nat_tests)

begun_more : (at : ℕ) (s : Script) (r : Record) → (at ≤ 1 → s.commands ≡ []) → (at ≡ 0 → is_version r ≡ true) → at + 1 ≤ 1 → (after s r).commands ≡ []
begun_more at s r begun version early =
    rw (version_kind r (version (omega arith)), begun (omega arith)) refl

-- The commands fit.

none_fit : (s : Script) (xs : List Command) → xs ≡ [] → All (Fits s) (xs ++ [])
none_fit s xs none = rw none (λ k d within. absurd (omega arith))

not_nil : {X : Type 0} (xs : List X) → 0 < length xs → xs ≢ []
not_nil xs some none = omega (arith, ap length none)

pick_lists : (text : List ℕ) (star : Bool) → star ≡ is_star text → IsNamePick (pick_of text)
pick_lists text true star = rw (← star) tt
pick_lists text false star = rw (← star) (not_nil _ (omega (arith, length-slice_split is_bar text)))

picks_list : (texts : Record) → All IsNamePick (map pick_of texts)
picks_list texts = All-map IsNamePick pick_of texts (λ k d within. let text = get_or texts k d in pick_lists text (is_star text) refl)

-- a group's dimension stands and has its level
group_stands : (h : List Dimension) (dim : Option ℕ) (level : ℕ) → group_cause h dim level ≡ None → (x : ℕ) × (dim ≡ Some x) × (level ≤ leaf_level (tree h x))
group_stands h None level none = cc
group_stands h (Some x) level none =
    elim (cases_Bool (nat_le level (leaf_level (tree h x)))) [
      | inl fits ↦ (x, refl, leb-true level (leaf_level (tree h x)) fits)
      | inr deep ↦ let never = rw deep at none in cc
    ]

group_fits : (place : ℕ) (s : Script) (r : Record) → MayStand place s kind.Group r → hierarchy_cause s.hierarchy kind.Group r ≡ None → Fits s (command.Group (unwrap_or (find_dim s.hierarchy (field r 1)) 0) (value_of (field r 2)) (map pick_of (drop 3 r)))
group_fits place s r stands fine =
    let (x, at, deep) = group_stands s.hierarchy (find_dim s.hierarchy (field r 1)) (value_of (field r 2)) fine in
    let dim : unwrap_or (find_dim s.hierarchy (field r 1)) 0 ≡ x = ap (λ o. unwrap_or o 0) at in (
      subst (λ (n : ℕ). n < length s.hierarchy) (sym dim) (position_below (λ (d : Dimension). bytes_eq d.name (field r 1)) s.hierarchy x at),
      group_level s.with.servers r stands.form.number,
      subst (λ (n : ℕ). value_of (field r 2) ≤ leaf_level (tree s.hierarchy n)) (sym dim) deep,
      omega (arith, stands.form.fields, length-drop 3 r, length-map (drop 3 r) pick_of),
      picks_list (drop 3 r),
    )

fits_more : (place : ℕ) (s : Script) (k : Kind) (r : Record) → MayStand place s k r → hierarchy_cause s.hierarchy k r ≡ None → (place ≤ 1 → s.commands ≡ []) → All (Fits s) s.commands → All (Fits (after_kind k s r)) (after_kind k s r).commands
unfolding after_kind
fits_more place s kind.Volap r stands fine begun fits = rw append-nil fits
fits_more place s kind.Use r stands fine begun fits = let one = stands_second place stands.order in none_fit (after_kind kind.Use s r) s.commands (begun (omega arith))
fits_more place s kind.Dim r stands fine begun fits = none_fit (after_kind kind.Dim s r) s.commands (no_commands s.commands stands.order)
fits_more place s kind.Concept r stands fine begun fits = none_fit (after_kind kind.Concept s r) s.commands (no_commands s.commands stands.order)
fits_more place s kind.Insert r stands fine begun fits =
    All-push (Fits s) s.commands _ fits (
      value_below (field r 1) s.with.servers (insert_server s.with.servers r stands.form.number),
      omega (arith, stands.form.fields, length-drop 3 r),
    )
fits_more place s kind.Query r stands fine begun fits =
    All-push (Fits s) s.commands _ fits (
      value_below (field r 1) s.with.servers (query_server s.with.servers r stands.form.number),
      omega (arith, stands.form.fields, length-drop 2 r, length-map (drop 2 r) pick_of),
      picks_list (drop 2 r),
    )
fits_more place s kind.Group r stands fine begun fits = All-push (Fits s) s.commands _ fits (group_fits place s r stands fine)
fits_more place s kind.Sync r stands fine begun fits = All-push (Fits s) s.commands _ fits (call_in_range s.with.servers kind.Sync _ r refl stands.form.number)
fits_more place s kind.Split r stands fine begun fits = All-push (Fits s) s.commands _ fits (call_in_range s.with.servers kind.Split _ r refl stands.form.number)
fits_more place s kind.Move r stands fine begun fits = All-push (Fits s) s.commands _ fits (call_in_range s.with.servers kind.Move _ r refl stands.form.number)
fits_more place s kind.Balance r stands fine begun fits = All-push (Fits s) s.commands _ fits (call_in_range s.with.servers kind.Balance _ r refl stands.form.number)
fits_more place s kind.Barrier r stands fine begun fits = All-push (Fits s) s.commands _ fits (call_in_range s.with.servers kind.Barrier _ r refl stands.form.number)
fits_more place s kind.Settle r stands fine begun fits = All-push (Fits s) s.commands _ fits (call_in_range s.with.servers kind.Settle _ r refl stands.form.number)
fits_more place s kind.Shards r stands fine begun fits = All-push (Fits s) s.commands _ fits (call_in_range s.with.servers kind.Shards _ r refl stands.form.number)
fits_more place s kind.Tree r stands fine begun fits = All-push (Fits s) s.commands _ fits (call_in_range s.with.servers kind.Tree _ r refl stands.form.number)
fits_more place s kind.Audit r stands fine begun fits = All-push (Fits s) s.commands _ fits (call_in_range s.with.servers kind.Audit _ r refl stands.form.number)

-- A command stands behind a dimension, and no record takes a dimension away.

dims_stand : (h : List Dimension) (k : Kind) (r : Record) → length h ≤ length (hierarchy_with (Some k) h r)
dims_stand h kind.Dim r = omega (arith, length-append h (new_dimension (field r 1) (value_of (field r 2)) ∷ []))
dims_stand h kind.Concept r = simp length-set (omega arith)
dims_stand h _ r = omega arith

some_dims : (h : List Dimension) → (length h == 0) ≡ false → 0 < length h
some_dims h some = grind (arith, nat_tests)

-- a record that is no command adds none
dims_kept : (s : Script) (k : Kind) (r : Record) → command_by (Some k) s.hierarchy r ≡ None → (0 < length s.commands → 0 < length s.hierarchy) → 0 < length (after_kind k s r).commands → 0 < length (after_kind k s r).hierarchy
unfolding after_kind
dims_kept s k r none dims some =
    let before = dims (rw (none, append-nil) at some) in
    omega (arith, dims_stand s.hierarchy k r)

-- where a script that has a command has a dimension, so it is with a record more
dims_more : (place : ℕ) (s : Script) (k : Kind) (r : Record) → MayStand place s k r → (0 < length s.commands → 0 < length s.hierarchy)
    → 0 < length (after_kind k s r).commands → 0 < length (after_kind k s r).hierarchy
unfolding after_kind
dims_more place s kind.Volap r stands dims some = dims_kept s kind.Volap r refl dims some
dims_more place s kind.Use r stands dims some = dims_kept s kind.Use r refl dims some
dims_more place s kind.Dim r stands dims some = dims_kept s kind.Dim r refl dims some
dims_more place s kind.Concept r stands dims some = dims_kept s kind.Concept r refl dims some
dims_more place s _ r stands dims some = some_dims s.hierarchy stands.order

-- The records so far and one more.

fits_same : (s t : Script) → s ≡ t → All (Fits t) t.commands → All (Fits s) s.commands
fits_same s t same fits = rw same fits

-- what the code tells of a record is its cause behind the rows
pub cause_is : (rows : List Record) (at : ℕ) (s : Script) (r : Record) → SoFar rows at s → first_cause rows r ≡ cause_at at s r
cause_is rows at s r so_far = rw (← so_far.count, so_far.script) refl

first_more : (rows rest : List Record) (r : Record) → first_cause rows r ≡ None → first_fault rows (r ∷ rest) ≡ first_fault (rows ++ r ∷ []) rest
first_more rows rest r none = rw none refl

first_bad : (rows rest : List Record) (r : Record) (c : Cause) → first_cause rows r ≡ Some c → first_fault rows (r ∷ rest) ≡ Some (fault.Bad (length rows + 1) c)
first_bad rows rest r c bad = rw bad refl

pub one_more : (rows : List Record) (at : ℕ) (s t : Script) (r : Record) → SoFar rows at s → IsTaken at s t r → SoFar (rows ++ r ∷ []) (at + 1) t
one_more rows at s t r so_far taken =
    let none : first_cause rows r ≡ None = cause_is rows at s r so_far ∙ taken.stands.cause ∙ taken.fine in
    let by_kind = after_by_kind s r taken.kind taken.stands.form.kind in
    record {
      count = omega (arith, length-append rows (r ∷ []), so_far.count);
      script = taken.script ∙ ap (λ u. after u r) so_far.script ∙ sym (script_of-push rows r);
      sound = λ rest. rw append_assoc (so_far.sound (r ∷ rest) ∙ first_more rows rest r none);
      begun = λ early. ap (λ u. u.commands) taken.script ∙ begun_more at s r so_far.begun taken.stands.version early;
      settings = rw (taken.script, taken.stands.form.kind) (settings_more s.with.servers s.with taken.kind r taken.stands.form.number so_far.settings);
      fits = fits_same t (after_kind taken.kind s r) (taken.script ∙ by_kind) (fits_more at s taken.kind r taken.stands taken.fine so_far.begun so_far.fits);
      dims = rw (taken.script ∙ by_kind) (dims_more at s taken.kind r taken.stands so_far.dims);
    }

-- The end.

script_fault : (all : List Record) (f : ScriptFault) → first_fault [] all ≡ Some f → script all ≡ Err f
script_fault [] f is = cc
script_fault (r ∷ rest) f is = rw is refl

-- a record with a cause behind those so far
pub script_bad : (all rows rest : List Record) (at : ℕ) (s : Script) (r : Record) (c : Cause) → all ≡ (rows ++ r ∷ []) ++ rest → SoFar rows at s → cause_at at s r ≡ Some c
    → script all ≡ Err (fault.Bad (at + 1) c)
script_bad all rows rest at s r c is so_far bad =
    script_fault all (fault.Bad (at + 1) c) (rw (is, append_assoc, ← so_far.count) (so_far.sound (r ∷ rest) ∙ first_bad rows rest r c (cause_is rows at s r so_far ∙ bad)))

pub script_fine : (all : List Record) → 0 < length all → first_fault [] all ≡ None → script all ≡ Ok (script_of all)
script_fine [] some is = absurd (omega arith)
script_fine (r ∷ rest) some is = rw is refl

-- no record is left behind those so far
pub script_good : (all rows : List Record) (at : ℕ) (s : Script) → all ≡ rows → SoFar rows at s → 0 < at → script all ≡ Ok s
script_good all rows at s is so_far some =
    let none : first_fault [] rows ≡ None = rw (append-nil rows) at (so_far.sound []) in
    rw (is, so_far.script) (script_fine rows (omega (arith, so_far.count)) none)

pub script_empty : (all rows : List Record) (at : ℕ) (s : Script) → all ≡ rows → SoFar rows at s → at ≡ 0 → script all ≡ Err (fault.Bad 1 cause.Version)
script_empty all [] at s is so_far none = rw is refl
script_empty all (r ∷ rest) at s is so_far none = absurd (omega (arith, so_far.count))
