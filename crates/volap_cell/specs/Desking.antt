-- Desks: whose command stands on each, and who is at its parts.
use Rattle.std.specs.Prelude.{ℕ, ◌≡◌, ◌<◌, ⊤, Bool, true, false, List, [], ◌∷◌, Option, Some, None, All, Any}
use Rattle.query_router.specs.{Desk.{DeskValue, is_taken, is_with}, declared.part.Part.Part, declared.part.PartState.PartState, declared.part.Want.Want}
use Rattle.query_router.specs.declared.part.PartState.TheVariants as state
use Rattle.query_router.specs.declared.part.Want.TheVariants as want
use Rattle.row_ledger.specs.{Past.{Insert, Query, insert_at, query_at}, Shards.{comes_from, ids_made}, declared.event.Event.Event}
use Rattle.volap_cell.specs.{Errands.Taken, Setting.Setting, declared.command.Command.Command, declared.command.Work.Work, declared.role.Role.Role, declared.role.Role.TheVariants.Session}
use Rattle.volap_cell.specs.declared.command.Work.TheVariants as work_is

-- whether the command stands on its server's desk
abbrev pub is_on_desk : Work → Bool
is_on_desk (work_is.Insert row routed) = routed
is_on_desk work_is.Query = true
is_on_desk _ = false

-- states that a part of an insert can have, and of a query

abbrev pub IsInsertState : Insert → PartState → Type 0
IsInsertState i (state.Waiting wanted) = wanted ≡ want.Row i.row
IsInsertState i state.Taken = ⊤
IsInsertState i (state.Placed path) = ⊤
IsInsertState i state.NoMemory = ⊤
IsInsertState i (state.Done total) = ⊥

abbrev pub IsQueryState : Query → PartState → Type 0
IsQueryState q (state.Waiting wanted) = wanted ≡ want.Filter q.filter
IsQueryState q state.Taken = ⊤
IsQueryState q (state.Done total) = ⊤
IsQueryState q state.NoMemory = ⊤
IsQueryState q (state.Placed path) = ⊥

-- a part of a query came by no path, and its shard was made
abbrev pub IsQueryPart : Setting → List Event → Part → Type 0
IsQueryPart s h p = (p.path ≡ []) × (p.shard < ids_made s.workers h)

-- neither shard comes from the other
abbrev pub AreUnrelated : List Event → Part → Part → Type 0
AreUnrelated h p other = (comes_from h p.shard other.shard ≡ false) × (comes_from h other.shard p.shard ≡ false)

abbrev pub AreLinesApart : List Event → List Part → Type 0
AreLinesApart h [] = ⊤
AreLinesApart h (p ∷ parts) = All (AreUnrelated h p) parts × AreLinesApart h parts

-- what a part of the command that began at this position asks for
abbrev pub IsWantOf : List Event → ℕ → Want → Type 0
IsWantOf h of (want.Row row) = (i : Insert) × (insert_at h of ≡ Some i) × (i.row ≡ row)
IsWantOf h of (want.Filter f) = (q : Query) × (query_at h of ≡ Some q) × (q.filter ≡ f)

-- an actor is at the part, and at no other
abbrev pub IsTaken : (ℕ → Option Taken) → ℕ → Part → Type 0
IsTaken taken server p = (a : ℕ) × (t : Taken) × (taken a ≡ Some t) × (t.server ≡ server) × (t.shard ≡ p.shard) × (t.worker ≡ p.worker)

-- an actor's part stands on the desk of its command
pub record IsAtPart (s : Setting) (history : List Event) (desks : ℕ → DeskValue) (t : Taken) : Type 0 where
  pub within : t.server < s.servers
  pub of : ℕ
  pub op : (desks t.server).op ≡ Some of
  pub wants : IsWantOf history of t.want
  pub part : Any (λ (p : Part). is_with t.shard t.worker p ≡ true) (desks t.server).parts

pub record Desking (s : Setting) (history : List Event) (desks : ℕ → DeskValue) (roles : ℕ → Role) (commands : ℕ → Option Command) (taken : ℕ → Option Taken) : Type 0 where
  pub empty : (server : ℕ) → server < s.servers → (desks server).op ≡ None → (desks server).parts ≡ []
  pub whose : (server of : ℕ) → server < s.servers → (desks server).op ≡ Some of
      → (a : ℕ) × (c : Command) × (commands a ≡ Some c) × (c.of ≡ of) × (roles a ≡ Session server) × (is_on_desk c.work ≡ true)
  pub on_desk : (a server : ℕ) (c : Command) → commands a ≡ Some c → roles a ≡ Session server → is_on_desk c.work ≡ true → (desks server).op ≡ Some c.of
  pub insert : (server of : ℕ) (i : Insert) → server < s.servers → (desks server).op ≡ Some of → insert_at history of ≡ Some i
      → (p : Part) × ((desks server).parts ≡ p ∷ []) × IsInsertState i p.state
  pub query : (server of : ℕ) (q : Query) → server < s.servers → (desks server).op ≡ Some of → query_at history of ≡ Some q
      → All (λ (p : Part). IsQueryState q p.state) (desks server).parts × AreLinesApart history (desks server).parts × All (IsQueryPart s history) (desks server).parts
  pub takers : (server : ℕ) → server < s.servers → All (λ (p : Part). is_taken p ≡ true → IsTaken taken server p) (desks server).parts
  pub at_parts : (a : ℕ) (t : Taken) → taken a ≡ Some t → IsAtPart s history desks t
  pub one : (a b : ℕ) (t u : Taken) → taken a ≡ Some t → taken b ≡ Some u → t.server ≡ u.server → t.shard ≡ u.shard → t.worker ≡ u.worker → a ≡ b
