-- The values of numbers in a range.
use Rattle.std.proofs.{Common.{◌≡◌, ◌≤◌, ◌<◌, ◌+◌, ℕ, List, [], ◌∷◌, Bool, true, false, ◌&&◌, Option, Some, None, ap, arith, refl, subst}, lemmas.Bool.and_parts, lemmas.Bool.Decides.nat_tests}
use Rattle.script_form.specs.{Causes.{are_fields, is_number, wrong_number}, Fields.{Record, field, in_range, is_below, measure_of, number_of, value_of}, Fits.{AreSettings, IsInRange}, Limits.{most_servers, most_workers, most_threads, fewest_cells, most_cells, most_levels, shard_ids, worker_ids, most_actions}, Scripts.{call_by, settings_with}, Table.form_of, declared.table.Field.Field, declared.table.Kind.Kind}
use Rattle.std.specs.{Option.option_map_or, Prelude.{nat_le, nat_lt, not, is_some, unwrap_or}}
use Rattle.row_ledger.specs.{declared.settings.Call.Call, declared.settings.Use.Use}
use Rattle.row_ledger.specs.declared.settings.Call.TheVariants as call
use Rattle.script_form.specs.declared.table.Field.TheVariants as must
use Rattle.script_form.specs.declared.table.Kind.TheVariants as kind

below : (o : Option ℕ) (limit : ℕ) → option_map_or (λ value. nat_lt value limit) o false ≡ true → unwrap_or o 0 < limit
below None limit is = cc
below (Some value) limit is = grind (arith, nat_tests)

pub value_below : (text : List ℕ) (limit : ℕ) → is_below text limit ≡ true → value_of text < limit
value_below text limit is = below (number_of text) limit is

within : (o : Option ℕ) (low high : ℕ) → option_map_or (λ value. nat_le low value && nat_le value high) o false ≡ true → (low ≤ unwrap_or o 0) × (unwrap_or o 0 ≤ high)
within None low high is = cc
within (Some value) low high is = grind (arith, nat_tests)

value_within : (text : List ℕ) (low high : ℕ) → in_range text low high ≡ true → (low ≤ value_of text) × (value_of text ≤ high)
value_within text low high is = within (number_of text) low high is

not_wrong : (b : Bool) → not b ≡ false → b ≡ true
not_wrong true is = refl
not_wrong false is = cc

both : (a b : Bool) → a ≡ true → b ≡ true → (a && b) ≡ true
both a b x y = rw (x, y) refl

-- a command's server is one of so many

pub insert_server : (servers : ℕ) (r : Record) → wrong_number servers kind.Insert r ≡ false → is_below (field r 1) servers ≡ true
insert_server servers r fine = (and_parts (is_below (field r 1) servers) (is_some (measure_of (field r 2)) && true) (not_wrong _ fine)).0

pub query_server : (servers : ℕ) (r : Record) → wrong_number servers kind.Query r ≡ false → is_below (field r 1) servers ≡ true
query_server servers r fine = (and_parts (is_below (field r 1) servers) true (not_wrong _ fine)).0

its : (servers : ℕ) (one called : Call) → ◌≡◌ {A = Option Call} (Some one) (Some called) → IsInRange servers one → IsInRange servers called
its servers one called is fits = let same : one ≡ called = cc in subst (IsInRange servers) same fits

-- the numbers of a call are in their ranges
pub call_in_range : (servers : ℕ) (k : Kind) (called : Call) (r : Record) → call_by k r ≡ Some called → wrong_number servers k r ≡ false → IsInRange servers called
call_in_range servers kind.Sync called r is fine = its servers (call.Sync (value_of (field r 1))) called is (value_below (field r 1) servers (and_parts (is_below (field r 1) servers) true (not_wrong _ fine)).0)
call_in_range servers kind.Split called r is fine = its servers (call.Split (value_of (field r 1))) called is (value_below (field r 1) shard_ids (and_parts (is_below (field r 1) shard_ids) true (not_wrong _ fine)).0)
call_in_range servers kind.Move called r is fine =
    let first = and_parts (is_below (field r 1) shard_ids) (is_below (field r 2) worker_ids && true) (not_wrong _ fine) in
    its servers (call.Move (value_of (field r 1)) (value_of (field r 2))) called is (value_below (field r 1) shard_ids first.0, value_below (field r 2) worker_ids (and_parts (is_below (field r 2) worker_ids) true first.1).0)
call_in_range servers kind.Balance called r is fine = its servers (call.Balance (value_of (field r 1))) called is (value_within (field r 1) 1 most_actions (and_parts (in_range (field r 1) 1 most_actions) true (not_wrong _ fine)).0)
call_in_range servers kind.Tree called r is fine = its servers (call.Tree (value_of (field r 1))) called is (value_below (field r 1) shard_ids (and_parts (is_below (field r 1) shard_ids) true (not_wrong _ fine)).0)
call_in_range servers kind.Barrier called r is fine = its servers call.Barrier called is tt
call_in_range servers kind.Settle called r is fine = its servers call.Settle called is tt
call_in_range servers kind.Shards called r is fine = its servers call.Shards called is tt
call_in_range servers kind.Audit called r is fine = its servers call.Audit called is tt
call_in_range servers _ called r is fine = cc

-- the level of a group is one that a dimension can have
pub group_level : (servers : ℕ) (r : Record) → wrong_number servers kind.Group r ≡ false → 1 ≤ value_of (field r 2)
group_level servers r fine = (value_within (field r 2) 1 most_levels (and_parts (in_range (field r 2) 1 most_levels) true (not_wrong _ fine)).0).0

-- what is a number where there are so many servers is one where there are more

below_more : (o : Option ℕ) (a b : ℕ) → a ≤ b → option_map_or (λ value. nat_lt value a) o false ≡ true → option_map_or (λ value. nat_lt value b) o false ≡ true
below_more None a b few is = cc
below_more (Some value) a b few is = grind (arith, nat_tests)

number_more : (a b : ℕ) (f : Field) (text : List ℕ) → a ≤ b → is_number a f text ≡ true → is_number b f text ≡ true
number_more a b must.Server text few is = below_more (number_of text) a b few is
number_more a b _ text few is = is

fields_more : (a b : ℕ) (fs : List Field) (i : ℕ) (r : Record) → a ≤ b → are_fields (is_number a) fs i r ≡ true → are_fields (is_number b) fs i r ≡ true
fields_more a b [] i r few are = refl
fields_more a b (f ∷ fs) i r few are =
    let parts = and_parts (is_number a f (field r i)) (are_fields (is_number a) fs (i + 1) r) are in
    both (is_number b f (field r i)) (are_fields (is_number b) fs (i + 1) r) (number_more a b f (field r i) few parts.0) (fields_more a b fs (i + 1) r few parts.1)

pub numbers_more : (servers : ℕ) (k : Kind) (r : Record) → servers < 256 → wrong_number servers k r ≡ false → wrong_number 256 k r ≡ false
numbers_more servers k r few fine =
    ap not (fields_more servers 256 (form_of k).fields 1 r (omega arith) (not_wrong (are_fields (is_number servers) (form_of k).fields 1 r) fine))

-- settings stay in their ranges
pub settings_more : (servers : ℕ) (with : Use) (k : Kind) (r : Record) → wrong_number servers k r ≡ false → AreSettings with → AreSettings (settings_with (Some k) with r)
settings_more servers with kind.Use r fine settings =
    let workers = in_range (field r 2) 1 most_workers in
    let threads = in_range (field r 3) 1 most_threads in
    let cells = in_range (field r 4) fewest_cells most_cells in
    let one = and_parts (in_range (field r 1) 1 most_servers) (workers && (threads && (cells && true))) (not_wrong _ fine) in
    let two = and_parts workers (threads && (cells && true)) one.1 in
    let three = and_parts threads (cells && true) two.1 in
    record {
      servers = value_within (field r 1) 1 most_servers one.0;
      workers = value_within (field r 2) 1 most_workers two.0;
      threads = value_within (field r 3) 1 most_threads three.0;
      cells = value_within (field r 4) fewest_cells most_cells (and_parts cells true three.1).0;
    }
settings_more servers with _ r fine settings = settings
