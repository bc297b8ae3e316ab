-- Pulls of syncs and settles: what an event adds to them, and that a command ends with those that it was to make.
use Rattle.std.proofs.{Common.{◌≡◌, ◌∙◌, ℕ, zero, suc, ◌+◌, ◌-◌, ◌<◌, ◌≤◌, ◌⊎◌, inl, inr, Bool, true, false, List, [], ◌∷◌, ◌++◌, length, map, reverse, take, Option, Some, None, refl, sym, ap, subst, arith, append_assoc, length-append}, Math.Seq.take-length, lemmas.List.FromFn.length-range_with_len}
use mathlib.Core.List.{reverse-cons}
use Rattle.std.specs.{List.range_with_len, Prelude.{IfSome, filter_map, nat_lt, option_and_then, if◌then◌else◌}}
use Rattle.row_ledger.proofs.Positions.{since-inside, since-outside}
use Rattle.row_ledger.specs.{Classes.class_of, Past.{Pull, call_at, call_in, end_in, event_at, insert_in, pull_in, query_in, session_in, since}, Settled.{pulls_since, settle_pulls}, declared.class.Class.Class, declared.event.Event.Event, declared.settings.How.How, declared.settings.Use.Use}
use Rattle.row_ledger.specs.declared.event.Event.TheVariants as event
use Rattle.row_ledger.specs.declared.class.Class.TheVariants as class_is
use Rattle.row_ledger.specs.declared.settings.How.TheVariants as how
use Rattle.script_run.specs.Runs.{ArePulls, HasPulls}
use Rattle.volap_cell.specs.{Commands.{MayNoteEnd, due_pull, once_shown, pulled_once, settles_next}, Setting.Setting, Telling.{IsCalledAs, IsProgress}, Values.JobValue, declared.command.Work.Work, declared.role.Role.Role}
use Rattle.volap_cell.specs.declared.command.Work.TheVariants as work_is
use Rattle.core_told.specs.Told.{HasPulled, is_deed, is_plain}

-- Events.

pub deed-session : (e : Event) → is_deed e ≡ true → session_in e ≡ None
deed-session (event.Split of shard left right) d = refl
deed-session (event.Moved of shard worker) d = refl
deed-session (event.Left of shard how) d = refl
deed-session (event.Synced server listing) d = cc
deed-session (event.Begun session server row) d = cc
deed-session (event.Acked of path) d = cc
deed-session (event.Asked session server filter) d = cc
deed-session (event.Answered of agg) d = cc
deed-session (event.Unknown session server dim) d = cc
deed-session (event.Failed of) d = cc
deed-session (event.Refused session) d = cc
deed-session (event.Called session call) d = cc
deed-session (event.Shown of page) d = cc
deed-session (event.Ended of how) d = cc

pub deed-ends : (e : Event) → is_deed e ≡ true → end_in e ≡ None
deed-ends (event.Split of shard left right) d = refl
deed-ends (event.Moved of shard worker) d = refl
deed-ends (event.Left of shard how) d = refl
deed-ends (event.Synced server listing) d = cc
deed-ends (event.Begun session server row) d = cc
deed-ends (event.Acked of path) d = cc
deed-ends (event.Asked session server filter) d = cc
deed-ends (event.Answered of agg) d = cc
deed-ends (event.Unknown session server dim) d = cc
deed-ends (event.Failed of) d = cc
deed-ends (event.Refused session) d = cc
deed-ends (event.Called session call) d = cc
deed-ends (event.Shown of page) d = cc
deed-ends (event.Ended of how) d = cc

pub deed-pulls : (e : Event) → is_deed e ≡ true → pull_in e ≡ None
deed-pulls (event.Split of shard left right) d = refl
deed-pulls (event.Moved of shard worker) d = refl
deed-pulls (event.Left of shard how) d = refl
deed-pulls (event.Synced server listing) d = cc
deed-pulls (event.Begun session server row) d = cc
deed-pulls (event.Acked of path) d = cc
deed-pulls (event.Asked session server filter) d = cc
deed-pulls (event.Answered of agg) d = cc
deed-pulls (event.Unknown session server dim) d = cc
deed-pulls (event.Failed of) d = cc
deed-pulls (event.Refused session) d = cc
deed-pulls (event.Called session call) d = cc
deed-pulls (event.Shown of page) d = cc
deed-pulls (event.Ended of how) d = cc

pub deed-right : (with : Use) (past : List Event) (e : Event) → is_deed e ≡ true → HasPulls with past e
deed-right with past (event.Split of shard left right) d = tt
deed-right with past (event.Moved of shard worker) d = tt
deed-right with past (event.Left of shard how) d = tt
deed-right with past (event.Synced server listing) d = tt
deed-right with past (event.Begun session server row) d = tt
deed-right with past (event.Acked of path) d = tt
deed-right with past (event.Asked session server filter) d = tt
deed-right with past (event.Answered of agg) d = tt
deed-right with past (event.Unknown session server dim) d = tt
deed-right with past (event.Failed of) d = tt
deed-right with past (event.Refused session) d = tt
deed-right with past (event.Called session call) d = tt
deed-right with past (event.Shown of page) d = tt
deed-right with past (event.Ended of how) d = cc

pub end-pulls-none : (e : Event) (of : ℕ) → end_in e ≡ Some of → pull_in e ≡ None
end-pulls-none (event.Acked of path) o d = refl
end-pulls-none (event.Answered of agg) o d = refl
end-pulls-none (event.Failed of) o d = refl
end-pulls-none (event.Ended of how) o d = refl
end-pulls-none (event.Split of shard left right) o d = cc
end-pulls-none (event.Moved of shard worker) o d = cc
end-pulls-none (event.Left of shard how) o d = cc
end-pulls-none (event.Synced server listing) o d = cc
end-pulls-none (event.Begun session server row) o d = cc
end-pulls-none (event.Asked session server filter) o d = cc
end-pulls-none (event.Unknown session server dim) o d = cc
end-pulls-none (event.Refused session) o d = cc
end-pulls-none (event.Called session call) o d = cc
end-pulls-none (event.Shown of page) o d = cc

pub begin-pulls-none : (e : Event) (n : ℕ) → session_in e ≡ Some n → pull_in e ≡ None
begin-pulls-none (event.Begun session server row) n d = refl
begin-pulls-none (event.Asked session server filter) n d = refl
begin-pulls-none (event.Unknown session server dim) n d = refl
begin-pulls-none (event.Refused session) n d = refl
begin-pulls-none (event.Called session call) n d = refl
begin-pulls-none (event.Acked of path) n d = cc
begin-pulls-none (event.Answered of agg) n d = cc
begin-pulls-none (event.Failed of) n d = cc
begin-pulls-none (event.Ended of how) n d = cc
begin-pulls-none (event.Split of shard left right) n d = cc
begin-pulls-none (event.Moved of shard worker) n d = cc
begin-pulls-none (event.Left of shard how) n d = cc
begin-pulls-none (event.Synced server listing) n d = cc
begin-pulls-none (event.Shown of page) n d = cc

-- Pulls since a position.

pub pulled-same : (e : Event) (past : List Event) (p : ℕ) → pull_in e ≡ None → p < length past → pulls_since (e ∷ past) p ≡ pulls_since past p
pulled-same e past p none low =
    ap (λ es. reverse (map (λ (pull : Pull). pull.server) (filter_map pull_in es))) (since-inside e past p low)
    ∙ rw none refl

pub pulled-more : (server : ℕ) (listing : _) (past : List Event) (p : ℕ) → p < length past → pulls_since (event.Synced server listing ∷ past) p ≡ pulls_since past p ++ server ∷ []
pulled-more server listing past p low =
    ap (λ es. reverse (map (λ (pull : Pull). pull.server) (filter_map pull_in es))) (since-inside (event.Synced server listing) past p low)
    ∙ reverse-cons server (map (λ (pull : Pull). pull.server) (filter_map pull_in (since past p)))

pub pulled-none : (e : Event) (past : List Event) → pulls_since (e ∷ past) (length past) ≡ []
pulled-none e past = ap (λ es. reverse (map (λ (pull : Pull). pull.server) (filter_map pull_in es))) (since-outside e past (length past) (omega arith))

-- All servers.

-- all servers in the order of their numbers
abbrev each_server : ℕ → List ℕ
each_server n = range_with_len 0 n

servers-length : (n : ℕ) → length (each_server n) ≡ n
servers-length n = length-range_with_len 0 n

pub twice-length : (n : ℕ) → length (settle_pulls n) ≡ n + n
twice-length n = omega (arith, servers-length n, length-append (each_server n) (each_server n))

take-next : (xs ys : List ℕ) (x : ℕ) (k : ℕ) → k ≡ length xs → take (suc k) (xs ++ x ∷ ys) ≡ take k (xs ++ x ∷ ys) ++ x ∷ []
take-next [] ys x zero is = refl
take-next [] ys x (suc k) is = absurd (omega arith)
take-next (z ∷ xs) ys x zero is = absurd (omega arith)
take-next (z ∷ xs) ys x (suc k) is = ap (λ l. z ∷ l) (take-next xs ys x k (omega arith))

-- the numbers below one stand in front of it
range-split : (from n k : ℕ) → k < n → (more : List ℕ) × (range_with_len from n ≡ range_with_len from k ++ (from + k) ∷ more)
range-split from zero k low = absurd (omega arith)
range-split from (suc n) zero low = (range_with_len (from + 1) n, ap (λ x. x ∷ range_with_len (from + 1) n) (let same : from ≡ from + 0 = omega arith in same))
range-split from (suc n) (suc k) low =
    let found = range-split (from + 1) n k (omega arith) in
    (found.0, ap (λ l. from ∷ l) (found.1 ∙ ap (λ x. range_with_len (from + 1) k ++ x ∷ found.0) (let same : from + 1 + k ≡ from + suc k = omega arith in same)))

server-split : (n k : ℕ) → k < n → (more : List ℕ) × (each_server n ≡ each_server k ++ k ∷ more)
server-split n k low =
    let found = range-split 0 n k low in
    (found.0, found.1 ∙ ap (λ x. each_server k ++ x ∷ found.0) (let same : 0 + k ≡ k = omega arith in same))

less-of : (a b : ℕ) → nat_lt a b ≡ true → a < b
less-of a b h = grind arith

not-less-of : (a b : ℕ) → nat_lt a b ≡ false → b ≤ a
not-less-of a b h = grind arith

some-same : (a b : ℕ) → Some a ≡ Some b → a ≡ b
some-same a b e = cc

pub settle-next : (servers pulls server : ℕ) → settles_next servers pulls ≡ Some server → take (pulls + 1) (settle_pulls servers) ≡ take pulls (settle_pulls servers) ++ server ∷ []
settle-next servers pulls server is = by (nat_lt pulls servers) refl is
  where
    one : pulls + 1 ≡ suc pulls
    one = omega arith

    second : (d : ℕ) → d < servers → pulls ≡ servers + d → take (pulls + 1) (settle_pulls servers) ≡ take pulls (settle_pulls servers) ++ d ∷ []
    second d low at =
        let split = server-split servers d low in
        let all : settle_pulls servers ≡ (each_server servers ++ each_server d) ++ d ∷ split.0 = ap (λ l. each_server servers ++ l) split.1 ∙ sym (append_assoc (each_server servers) (each_server d) (d ∷ split.0)) in
        ap (λ m. take m (settle_pulls servers)) one ∙ ap (take (suc pulls)) all
        ∙ take-next (each_server servers ++ each_server d) split.0 d pulls (omega (arith, at, servers-length servers, servers-length d, length-append (each_server servers) (each_server d)))
        ∙ ap (λ l. take pulls l ++ d ∷ []) (sym all)

    by-second : (b : Bool) → nat_lt pulls servers ≡ false → nat_lt pulls (servers + servers) ≡ b → (if b then Some (pulls - servers) else None) ≡ Some server
        → take (pulls + 1) (settle_pulls servers) ≡ take pulls (settle_pulls servers) ++ server ∷ []
    by-second false past end e = cc
    by-second true past low e =
        let d : pulls - servers ≡ server = some-same (pulls - servers) server e in
        let high = not-less-of pulls servers past in
        let below = less-of pulls (servers + servers) low in
        second server (omega (arith, d, high, below)) (omega (arith, d, high, below))

    by : (b : Bool) → nat_lt pulls servers ≡ b → (if b then Some pulls else if nat_lt pulls (servers + servers) then Some (pulls - servers) else None) ≡ Some server
        → take (pulls + 1) (settle_pulls servers) ≡ take pulls (settle_pulls servers) ++ server ∷ []
    by true low e =
        let at : pulls ≡ server = some-same pulls server e in
        let split = server-split servers pulls (less-of pulls servers low) in
        let all : settle_pulls servers ≡ each_server pulls ++ pulls ∷ (split.0 ++ each_server servers) = ap (λ l. l ++ each_server servers) split.1 ∙ append_assoc (each_server pulls) (pulls ∷ split.0) (each_server servers) in
        ap (λ m. take m (settle_pulls servers)) one ∙ ap (take (suc pulls)) all
        ∙ take-next (each_server pulls) (split.0 ++ each_server servers) pulls pulls (sym (servers-length pulls))
        ∙ ap (λ l. take pulls l ++ pulls ∷ []) (sym all)
        ∙ ap (λ x. take pulls (settle_pulls servers) ++ x ∷ []) at
    by false past e = by-second (nat_lt pulls (servers + servers)) past refl e

-- A pull that is due, and the work after it.

pub pull-next : (servers server : ℕ) (work : Work) (pulled : List ℕ) → due_pull servers work ≡ Some server → HasPulled servers work pulled → HasPulled servers (pulled_once work) (pulled ++ server ∷ [])
pull-next servers server (work_is.Sync x false) pulled due has = let same : x ≡ server = cc in ap (λ l. l ++ server ∷ []) has ∙ ap (λ y. y ∷ []) (sym same)
pull-next servers server (work_is.Sync x true) pulled due has = cc
pull-next servers server (work_is.Settle pulls) pulled due has = ap (λ l. l ++ server ∷ []) has ∙ sym (settle-next servers pulls server due)
pull-next servers server (work_is.Insert row routed) pulled due has = cc
pull-next servers server work_is.Query pulled due has = cc
pull-next servers server work_is.Bare pulled due has = cc
pull-next servers server (work_is.Action act) pulled due has = cc
pull-next servers server (work_is.Balance b) pulled due has = cc
pull-next servers server (work_is.Page subject there shown) pulled due has = cc

pub plain-pulled : (servers : ℕ) (work : Work) (pulled : List ℕ) → is_plain work ≡ true → HasPulled servers work pulled
plain-pulled servers (work_is.Sync x pulls) pulled plain = cc
plain-pulled servers (work_is.Settle pulls) pulled plain = cc
plain-pulled servers (work_is.Insert row routed) pulled plain = tt
plain-pulled servers work_is.Query pulled plain = tt
plain-pulled servers work_is.Bare pulled plain = tt
plain-pulled servers (work_is.Action act) pulled plain = tt
plain-pulled servers (work_is.Balance b) pulled plain = tt
plain-pulled servers (work_is.Page subject there shown) pulled plain = tt

pub shown-pulled : (servers : ℕ) (work work_now : Work) (pulled : List ℕ) → once_shown work ≡ Some work_now → HasPulled servers work_now pulled
shown-pulled servers (work_is.Page subject true false) work_now pulled is = let same : work_is.Page subject true true ≡ work_now = cc in subst (λ x. HasPulled servers x pulled) same tt
shown-pulled servers (work_is.Page subject true true) work_now pulled is = cc
shown-pulled servers (work_is.Page subject false shown) work_now pulled is = cc
shown-pulled servers (work_is.Insert row routed) work_now pulled is = cc
shown-pulled servers work_is.Query work_now pulled is = cc
shown-pulled servers (work_is.Sync server did) work_now pulled is = cc
shown-pulled servers work_is.Bare work_now pulled is = cc
shown-pulled servers (work_is.Settle pulls) work_now pulled is = cc
shown-pulled servers (work_is.Action act) work_now pulled is = cc
shown-pulled servers (work_is.Balance b) work_now pulled is = cc

-- Ends.

insert-no-call : (o : Option Event) (x : _) → option_and_then insert_in o ≡ Some x → option_and_then call_in o ≡ None
insert-no-call None x is = cc
insert-no-call (Some (event.Begun session server row)) x is = refl
insert-no-call (Some (event.Called session call)) x is = cc
insert-no-call (Some (event.Asked session server filter)) x is = cc
insert-no-call (Some (event.Unknown session server dim)) x is = cc
insert-no-call (Some (event.Refused session)) x is = cc
insert-no-call (Some (event.Acked of path)) x is = cc
insert-no-call (Some (event.Answered of agg)) x is = cc
insert-no-call (Some (event.Failed of)) x is = cc
insert-no-call (Some (event.Ended of how)) x is = cc
insert-no-call (Some (event.Split of shard left right)) x is = cc
insert-no-call (Some (event.Moved of shard worker)) x is = cc
insert-no-call (Some (event.Left of shard how)) x is = cc
insert-no-call (Some (event.Synced server listing)) x is = cc
insert-no-call (Some (event.Shown of page)) x is = cc

query-no-call : (o : Option Event) (x : _) → option_and_then query_in o ≡ Some x → option_and_then call_in o ≡ None
query-no-call None x is = cc
query-no-call (Some (event.Begun session server row)) x is = cc
query-no-call (Some (event.Called session call)) x is = cc
query-no-call (Some (event.Asked session server filter)) x is = refl
query-no-call (Some (event.Unknown session server dim)) x is = cc
query-no-call (Some (event.Refused session)) x is = cc
query-no-call (Some (event.Acked of path)) x is = cc
query-no-call (Some (event.Answered of agg)) x is = cc
query-no-call (Some (event.Failed of)) x is = cc
query-no-call (Some (event.Ended of how)) x is = cc
query-no-call (Some (event.Split of shard left right)) x is = cc
query-no-call (Some (event.Moved of shard worker)) x is = cc
query-no-call (Some (event.Left of shard how)) x is = cc
query-no-call (Some (event.Synced server listing)) x is = cc
query-no-call (Some (event.Shown of page)) x is = cc

-- only an end by its own note has to have pulled
pub right-if : (with : Use) (past : List Event) (e : Event) → ((of : ℕ) (h : How) → e ≡ event.Ended of h → HasPulls with past (event.Ended of h)) → HasPulls with past e
right-if with past (event.Ended of how) f = f of how refl
right-if with past (event.Begun session server row) f = tt
right-if with past (event.Called session call) f = tt
right-if with past (event.Asked session server filter) f = tt
right-if with past (event.Unknown session server dim) f = tt
right-if with past (event.Refused session) f = tt
right-if with past (event.Acked of path) f = tt
right-if with past (event.Answered of agg) f = tt
right-if with past (event.Failed of) f = tt
right-if with past (event.Split of shard left right) f = tt
right-if with past (event.Moved of shard worker) f = tt
right-if with past (event.Left of shard how) f = tt
right-if with past (event.Synced server listing) f = tt
right-if with past (event.Shown of page) f = tt

sync-ends : (servers server : ℕ) (did : Bool) (job : Option JobValue) (h : How) (pulled : List ℕ) → HasPulled servers (work_is.Sync server did) pulled → MayNoteEnd servers (work_is.Sync server did) job h
    → ArePulls servers (class_is.Sync server) h pulled
sync-ends servers server true job how.Fine pulled has may = has
sync-ends servers server false job how.Fine pulled has may = cc
sync-ends servers server true job how.NoMemory pulled has may = cc
sync-ends servers server false job how.NoMemory pulled has may = has
sync-ends servers server did job (how.Balanced done planned) pulled has may = tt
sync-ends servers server did job (how.Declined why) pulled has may = tt
sync-ends servers server did job how.Postponed pulled has may = tt

settle-ends : (servers pulls : ℕ) (job : Option JobValue) (h : How) (pulled : List ℕ) → HasPulled servers (work_is.Settle pulls) pulled → MayNoteEnd servers (work_is.Settle pulls) job h
    → ArePulls servers class_is.Settle h pulled
settle-ends servers pulls job how.Fine pulled has may =
    has ∙ ap (λ n. take n (settle_pulls servers)) (may ∙ sym (twice-length servers)) ∙ take-length (settle_pulls servers)
settle-ends servers pulls job how.NoMemory pulled has may = (pulls, omega (arith, may, twice-length servers), has)
settle-ends servers pulls job (how.Balanced done planned) pulled has may = tt
settle-ends servers pulls job (how.Declined why) pulled has may = tt
settle-ends servers pulls job how.Postponed pulled has may = tt

-- the pulls of a command that ends
module _ (s : Setting) (h past : List Event) (of : ℕ) (job : Option JobValue) (role : Role) (ends_as : How) (calls : call_at past of ≡ call_at h of) (pulls_are : pulls_since past of ≡ pulls_since h of) where
  if-none : call_at h of ≡ None → IfSome (call_at past of) (λ called. ArePulls s.servers (class_of called) ends_as (pulls_since past of))
  if-none is = subst (λ o. IfSome o (λ called. ArePulls s.servers (class_of called) ends_as (pulls_since past of))) (sym (calls ∙ is)) tt

  if-some : (class : Class) → IsCalledAs h of class → ArePulls s.servers class ends_as (pulls_since h of) → IfSome (call_at past of) (λ called. ArePulls s.servers (class_of called) ends_as (pulls_since past of))
  if-some class is right = subst (λ o. IfSome o (λ called. ArePulls s.servers (class_of called) ends_as (pulls_since past of))) (sym (calls ∙ is.1))
      (subst (λ c. ArePulls s.servers c ends_as (pulls_since past of)) (sym is.2) (subst (ArePulls s.servers class ends_as) (sym pulls_are) right))

  pub end-right : (work : Work) → IsProgress s h of work job role → HasPulled s.servers work (pulls_since h of) → (is_plain work ≡ true) ⊎ MayNoteEnd s.servers work job ends_as
      → IfSome (call_at past of) (λ called. ArePulls s.servers (class_of called) ends_as (pulls_since past of))
  end-right (work_is.Insert row routed) p has may = if-none (insert-no-call (event_at h of) _ p.2)
  end-right work_is.Query p has may = if-none (query-no-call (event_at h of) _ p.2)
  end-right (work_is.Sync server pulled) p has (inl plain) = cc
  end-right (work_is.Sync server pulled) p has (inr may) = if-some (class_is.Sync server) p.0 (sync-ends s.servers server pulled job ends_as (pulls_since h of) has may)
  end-right work_is.Bare p has may = if-some class_is.Bare p tt
  end-right (work_is.Settle pulls) p has (inl plain) = cc
  end-right (work_is.Settle pulls) p has (inr may) = if-some class_is.Settle p.0 (settle-ends s.servers pulls job ends_as (pulls_since h of) has may)
  end-right (work_is.Page subject there shown) p has may = if-some (class_is.Page subject) p.0 tt
  end-right (work_is.Action act) p has may = if-some (class_is.Action act) p.0 tt
  end-right (work_is.Balance b) p has may = if-some (class_is.Balance b.most) p.0 tt
