-- What a right history says of settled queries, and of settles.
use Rattle.std.proofs.Common.{◌≡◌, ◌∙◌, ◌+◌, ◌<◌, ℕ, Bool, true, false, List, [], ◌∷◌, ◌++◌, length, sym, subst, append_assoc}
use Rattle.std.specs.Prelude.{Contains, IfSome, Some, if◌then◌else◌, nat_lt}
use Rattle.dim_hierarchy.specs.Dimension.{Dimension}
use Rattle.row_ledger.proofs.{Older.{acked-older, passed-older}, SettledAnswer.{EachEvent-later, settled-is_all}, Settling.{must-passed, passed-settled}}
use Rattle.core_laws.specs.volap_cell.proofs.Histories.Knowing.{acked-begun}
use Rattle.row_ledger.specs.{Bounds.passed, Classes.class_of, Past.{Ack, Insert, acked, before, call_at, insert_at}, Right.{EachEvent, IsRight, Stands}, Settled.{pulls_since, settle_pulls}, Site.{Site, site_of}, declared.event.Event.Event, declared.event.Event.TheVariants.Ended, declared.settings.Call.TheVariants.Settle, declared.settings.How.TheVariants.Fine, declared.settings.Use.Use}
use Rattle.script_run.specs.Runs.{ArePulls, HasPulls}
use Rattle.olap_top.specs.Settles.{SettledAreAll, SettlesTell}

pub settled-all : (site : Site) (history : List Event) → IsRight site history → SettledAreAll site history
settled-all site history right = λ later past of answer query whole asked settled.
    settled-is_all site later past of answer query (subst (IsRight site) whole right) asked settled

-- What was passed to a server stays so.
passed-later : (later past : List Event) (server : ℕ) (a : Ack) → Contains (passed past server) a → Contains (passed (later ++ past) server) a
passed-later [] past server a has = has
passed-later (e ∷ later) past server a has = passed-older e (later ++ past) server a (passed-later later past server a has)

-- A settle that was fine pulled so.
settle-pulled : (with : Use) (history later past : List Event) (of : ℕ) → EachEvent (HasPulls with) history → history ≡ later ++ Ended of Fine ∷ past → call_at past of ≡ Some Settle
    → pulls_since past of ≡ settle_pulls with.servers
settle-pulled with history later past of each whole called =
    let here = (EachEvent-later (HasPulls with) later (Ended of Fine ∷ past) (subst (EachEvent (HasPulls with)) whole each)).0 in
    subst (λ o. IfSome o (λ called. ArePulls with.servers (class_of called) Fine (pulls_since past of))) called here

-- whose rows were acknowledged is a server of the script
pub record AreOfServers (servers : ℕ) (history : List Event) : Type 0 where
  pub each : (r : ℕ) (i : Insert) → insert_at history r ≡ Some i → i.server < servers

acked-later : (later past : List Event) (a : Ack) → Contains (acked past) a → Contains (acked (later ++ past)) a
acked-later [] past a has = has
acked-later (e ∷ later) past a has = acked-older e (later ++ past) a (acked-later later past a has)

acked-before : (past : List Event) (of : ℕ) (a : Ack) → Contains (acked (before past of)) a → Contains (acked past) a
acked-before [] of a has = has
acked-before (e ∷ past) of a has = go (λ rest. acked-before past of a rest) (nat_lt (length past) of) has
  where
    go : (Contains (acked (before past of)) a → Contains (acked past) a) → (b : Bool) → Contains (acked (if b then e ∷ past else before past of)) a → Contains (acked (e ∷ past)) a
    go rest true has = has
    go rest false has = acked-older e past a (rest has)

pub settles-tell : (with : Use) (h : List Dimension) (usable : ℕ → Bool) (history : List Event) → EachEvent (Stands (site_of with h) usable) history → EachEvent (HasPulls with) history
    → AreOfServers with.servers history → SettlesTell (site_of with h) history
settles-tell with h usable history stands each servers = λ later between past of server a whole called small has.
    let all : history ≡ (later ++ between) ++ Ended of Fine ∷ past = whole ∙ sym (append_assoc later between (Ended of Fine ∷ past)) in
    let in_past : Contains (acked past) a = acked-before past of a has in
    let in_all : Contains (acked history) a = subst (λ l. Contains (acked l) a) (sym all) (acked-later (later ++ between) (Ended of Fine ∷ past) a (acked-older (Ended of Fine) past a in_past)) in
    let through : a.server < with.servers = servers.each a.row.no (record { server = a.server; row = a.row }) (acked-begun (site_of with h) usable history a stands in_all) in
    let told : Contains (passed past server) a = passed-settled past of with.servers server a (settle-pulled with history (later ++ between) past of each all called) small through has in
    must-passed h (between ++ Ended of Fine ∷ past) server a (passed-later between (Ended of Fine ∷ past) server a (passed-older (Ended of Fine) past server a told))
