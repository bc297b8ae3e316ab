-- The fields of a record from a place on.
use Rattle.std.proofs.{Common.{◌≡◌, ◌<◌, ◌≤◌, ◌+◌, ◌++◌, ◌&&◌, ℕ, zero, suc, List, [], ◌∷◌, true, length, drop, map, arith, refl, sym, ap, add-one, ◌∙◌}, lemmas.Bool.{and_parts, leb-true}, lemmas.List.append_assoc}
use Rattle.std.specs.{List.{list_all, list_any}, Prelude.{nat_le, not}}
use Rattle.csv.specs.Records.{field_at}
use Rattle.dim_hierarchy.specs.declared.filter.NamePick.{NamePick}
use Rattle.script_form.specs.{Fields.{Record, field, is_bar, is_name, is_star}, Limits.most_bytes, Scripts.pick_of}

-- the fields from a place on are the field there and those behind it
pub drop_field : (r : Record) (i : ℕ) → i < length r → drop i r ≡ field r i ∷ drop (i + 1) r
unfolding field_at
drop_field [] i within = absurd (omega arith)
drop_field (f ∷ fs) zero within = refl
drop_field (f ∷ fs) (suc i) within = rw (add-one) (drop_field fs i (omega arith) ∙ rw (add-one) refl)

-- Fields that are names.

pub name_few : (text : List ℕ) → is_name text ≡ true → length text ≤ 255
name_few text is =
    let but_star = and_parts (nat_le 1 (length text) && nat_le (length text) most_bytes && not (list_any is_bar text)) (not (is_star text)) is in
    let within = and_parts (nat_le 1 (length text) && nat_le (length text) most_bytes) (not (list_any is_bar text)) but_star.0 in
    let few = leb-true (length text) most_bytes (and_parts (nat_le 1 (length text)) (nat_le (length text) most_bytes) within.0).1 in
    omega (arith, few)

-- the field at a place and those behind it
pub names_split : (r : Record) (i : ℕ) → i < length r → list_all is_name (drop i r) ≡ true → (length (field r i) ≤ 255) × (list_all is_name (drop (i + 1) r) ≡ true)
names_split r i within are =
    let parts = and_parts (is_name (field r i)) (list_all is_name (drop (i + 1) r)) (sym (ap (list_all is_name) (drop_field r i within)) ∙ are) in
    (name_few (field r i) parts.0, parts.1)

-- a field more was taken

pub names_more : (r taken all : Record) (i : ℕ) → i < length r → taken ++ drop i r ≡ all → (taken ++ field r i ∷ []) ++ drop (i + 1) r ≡ all
names_more r taken all i within is = rw append_assoc (rw (drop_field r i within) at is)

pub picks_more : (r : Record) (taken all : List NamePick) (i : ℕ) → i < length r → taken ++ map pick_of (drop i r) ≡ all → (taken ++ pick_of (field r i) ∷ []) ++ map pick_of (drop (i + 1) r) ≡ all
picks_more r taken all i within is = rw append_assoc (rw (drop_field r i within) at is)
