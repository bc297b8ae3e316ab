-- Calls for which all passes of a hall are in: what they come to. The newest event comes first.
use Rattle.std.specs.Prelude.{ℕ, ◌≡◌, ◌+◌, ◌<◌, ◌⊎◌, Bool, false, List, [], ◌∷◌, ◌++◌, length, position, is_none, Option, Some, None}
use Rattle.actor_run.specs.{Halls.is_admin, Passes.{AreAllIn, IsAdminOf, IsPassesOf, PassesValue}}
use Rattle.actor_run.specs.declared.whole.GroupFault.{GroupFault}
use Rattle.actor_run.specs.declared.whole.GroupFault.TheVariants as group_fault
use Rattle.actor_run.specs.declared.whole.TreeFault.{TreeFault}
use Rattle.actor_run.specs.declared.whole.TreeFault.TheVariants as fault
use Rattle.dim_hierarchy.specs.{Filter.{IsFilterNamed, picks}, declared.filter.{NamePick.NamePick, Pick.Pick}}
use Rattle.row_ledger.specs.{Right.IsRight, Site.site_of, declared.event.Event.Event, declared.page.Page.Page, declared.settings.Call.Call}
use Rattle.row_ledger.specs.declared.event.Event.TheVariants.{Called, Ended, Shown, Unknown}
use Rattle.row_ledger.specs.declared.settings.Call.TheVariants.{Group, Settle}
use Rattle.row_ledger.specs.declared.settings.Decline.TheVariants as decline
use Rattle.row_ledger.specs.declared.settings.How.TheVariants as how
use Rattle.script_run.specs.Places.{begins_of}
use Rattle.whole_steps.specs.seat_steps.specs.declared.floor.Floor.{Floor}
use Rattle.turn_table.specs.Numbered.{Extends}
use Rattle.whole_steps.specs.volap_cell.specs.{Values.actor_of, declared.actor.Actor.Actor}
use Rattle.whole_steps.specs.{Done.{IsOfTree, IsPageAt}, Settles.ArePulls}
use Rattle.whole_steps.specs.declared.settles.Settled.{Settled}
use Rattle.whole_steps.specs.declared.settles.Settled.TheVariants as settled
use Rattle.whole_steps.specs.declared.tells.Paged.{Paged}
use Rattle.whole_steps.specs.declared.tells.Paged.TheVariants as paged

-- whether the administrator stands at a place
abbrev pub is_admin_at : Option Actor → Bool
is_admin_at None = false
is_admin_at (Some x) = is_admin (actor_of x).role

-- All passes are in still, and what they had seen is the oldest part of what they have seen then, which is right. Nobody but the
-- administrator has begun anything.
pub record HaveGoneOn (f : Floor) (was now : PassesValue) : Type 0 where
  pub own : IsPassesOf f now
  pub all : AreAllIn now
  pub same : now ≡ record was { seen = now.seen; gone = now.gone }
  pub later : Extends now.seen was.seen
  pub right : IsRight (site_of f.with f.hierarchy) now.seen
  pub others : (k : ℕ) → (IsAdminOf was.setting k → ⊥) → begins_of now.seen k ≡ begins_of was.seen k

-- All passes are in still, and have seen as much or more, which is right. Nobody has begun anything. Cells of gates that were gone are used
-- again.
pub record HaveReused (f : Floor) (was now : PassesValue) : Type 0 where
  pub own : IsPassesOf f now
  pub all : AreAllIn now
  pub same : now ≡ record was { seen = now.seen; gone = now.gone }
  pub later : Extends now.seen was.seen
  pub right : IsRight (site_of f.with f.hierarchy) now.seen
  pub none : (k : ℕ) → begins_of now.seen k ≡ begins_of was.seen k

-- All passes are in still, and what they had seen is the oldest part of what they have seen then, which is right. Nobody has begun anything.
pub record HaveRested (f : Floor) (was now : PassesValue) : Type 0 where
  pub own : IsPassesOf f now
  pub all : AreAllIn now
  pub same : now ≡ record was { seen = now.seen }
  pub later : Extends now.seen was.seen
  pub right : IsRight (site_of f.with f.hierarchy) now.seen
  pub none : (k : ℕ) → begins_of now.seen k ≡ begins_of was.seen k

-- The newest events are those of the administrator's call: its beginning, and these behind it. Before them stands what had been seen, or more,
-- in which the administrator has begun nothing else.
pub record EndsIn (call : Call) (events : ℕ → List Event) (was now : PassesValue) : Type 0 where
  pub number : ℕ
  pub admin : IsAdminOf was.setting number
  pub older : List Event
  pub since : Extends older was.seen
  pub only : begins_of older number ≡ begins_of was.seen number
  pub seen : now.seen ≡ events (length older) ++ Called number call ∷ older

-- No event is of the call: the administrator has begun nothing.
pub record AddsNothing (was now : PassesValue) : Type 0 where
  pub number : ℕ
  pub admin : IsAdminOf was.setting number
  pub only : begins_of now.seen number ≡ begins_of was.seen number

-- This page was shown, and the call ended well. It is a page of a state that meets the invariant, whose newest event is the call's beginning.
pub record HaveShown (f : Floor) (call : Call) (shown : Page) (was now : PassesValue) : Type 0 where
  pub ends : EndsIn call (λ of. Ended of how.Fine ∷ Shown of shown ∷ []) was now
  pub page : IsPageAt f.hierarchy (Called ends.number call ∷ ends.older) shown

-- what the page is of doesn't stand
abbrev pub IsNoneThere : Call → PassesValue → PassesValue → Type 0
IsNoneThere call was now = EndsIn call (λ of. Ended of (how.Declined decline.Unknown) ∷ []) was now

-- no memory was found: nothing is added, or the call has ended with that
abbrev pub IsNoMemory : Call → PassesValue → PassesValue → Type 0
IsNoMemory call was now = AddsNothing was now ⊎ EndsIn call (λ of. Ended of how.NoMemory ∷ []) was now

-- what a command that shows a page comes to
abbrev pub AreToldBy : Floor → Call → Paged → PassesValue → PassesValue → Type 0
AreToldBy f call (paged.Page shown) was now = HaveShown f call shown was now
AreToldBy f call paged.Unknown was now = IsOfTree call × IsNoneThere call was now
AreToldBy f call paged.Failed was now = EndsIn call (λ of. Ended of how.NoMemory ∷ []) was now
AreToldBy f call paged.NotBegun was now = AddsNothing was now

-- why a tree isn't shown
abbrev pub IsTreeFault : TreeFault → Call → PassesValue → PassesValue → Type 0
IsTreeFault fault.Unknown call was now = IsNoneThere call was now
IsTreeFault fault.NoMemory call was now = IsNoMemory call was now

-- Groups: calls with a filter for which names are given.

-- The newest event notes that a command of the administrator names what isn't known, first in this dimension. Before it stands what had been
-- seen, or more, in which the administrator has begun nothing else.
pub record EndsUnknown (dim : ℕ) (was now : PassesValue) : Type 0 where
  pub number : ℕ
  pub admin : IsAdminOf was.setting number
  pub older : List Event
  pub since : Extends older was.seen
  pub only : begins_of older number ≡ begins_of was.seen number
  pub seen : now.seen ≡ Unknown number 0 dim ∷ older

-- so it is noted of these names
pub record HaveNotedUnknown (f : Floor) (names : List NamePick) (dim : ℕ) (was now : PassesValue) : Type 0 where
  pub first : position is_none (picks f.hierarchy names) ≡ Some dim
  pub ends : EndsUnknown dim was now

-- the call with the filter of these names
pub record IsGroupNamed (f : Floor) (dim level : ℕ) (names : List NamePick) (call : Call) : Type 0 where
  pub filter : List Pick
  pub named : IsFilterNamed f.hierarchy names filter
  pub call_is : call ≡ Group dim level filter

-- the page of the group was shown
abbrev pub HaveShownGroup : Floor → (dim level : ℕ) → List NamePick → Page → PassesValue → PassesValue → Type 0
HaveShownGroup f dim level names shown was now = (call : Call) × IsGroupNamed f dim level names call × HaveShown f call shown was now

-- what a group comes to whose names are known
abbrev pub AreToldGroup : Floor → (dim level : ℕ) → List NamePick → Paged → PassesValue → PassesValue → Type 0
AreToldGroup f dim level names (paged.Page shown) was now = HaveShownGroup f dim level names shown was now
AreToldGroup f dim level names paged.Unknown was now = ⊥
AreToldGroup f dim level names paged.Failed was now = (call : Call) × IsGroupNamed f dim level names call × EndsIn call (λ of. Ended of how.NoMemory ∷ []) was now
AreToldGroup f dim level names paged.NotBegun was now = AddsNothing was now

-- why a group isn't shown
abbrev pub IsGroupFault : GroupFault → Floor → (dim level : ℕ) → List NamePick → PassesValue → PassesValue → Type 0
IsGroupFault (group_fault.Unknown unknown) f dim level names was now = HaveNotedUnknown f names unknown was now
IsGroupFault group_fault.NoMemory f dim level names was now = AddsNothing was now ⊎ ((call : Call) × IsGroupNamed f dim level names call × EndsIn call (λ of. Ended of how.NoMemory ∷ []) was now)

-- Settles.

-- A settle has ended well behind all its pulls: one of each server in the order of their numbers, twice over.
pub record HaveSettled (f : Floor) (was now : PassesValue) : Type 0 where
  pub pulls : List Event
  pub are : ArePulls f.with.servers pulls
  pub count : length pulls ≡ f.with.servers + f.with.servers
  pub ends : EndsIn Settle (λ of. Ended of how.Fine ∷ pulls) was now

-- No memory was found for the pull behind these.
pub record HaveFailedToSettle (f : Floor) (was now : PassesValue) : Type 0 where
  pub pulls : List Event
  pub are : ArePulls f.with.servers pulls
  pub fewer : length pulls < f.with.servers + f.with.servers
  pub ends : EndsIn Settle (λ of. Ended of how.NoMemory ∷ pulls) was now

-- no memory was found: nothing is added, or the settle has ended with that
abbrev pub HaveNotSettled : Floor → PassesValue → PassesValue → Type 0
HaveNotSettled f was now = AddsNothing was now ⊎ HaveFailedToSettle f was now

abbrev pub HaveSettledSo : Floor → Settled → PassesValue → PassesValue → Type 0
HaveSettledSo f settled.Ok was now = HaveSettled f was now
HaveSettledSo f settled.Failed was now = HaveFailedToSettle f was now
HaveSettledSo f settled.NotBegun was now = AddsNothing was now
