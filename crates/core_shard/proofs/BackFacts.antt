-- A part of an actor that goes back to its desk: the fields of the view that change with it, and what the invariant says of the part.
use Rattle.std.proofs.Common.{◌≡◌, ℕ, ◌+◌, List, [], ◌∷◌, true, take, drop, Some, None, refl, sym, ap, subst, ◌∙◌}
use Rattle.std.specs.Prelude.{position, slice_get, slice_set}
use Rattle.dim_hierarchy.specs.{declared.filter.Pick.Pick, declared.row.Row.Row}
use Rattle.query_router.specs.{Desk.{DeskValue, is_with}, declared.part.Part.Part}
use Rattle.row_ledger.specs.Past.{Insert, Query, insert_at, query_at}
use Rattle.volap_cell.specs.{Desking.{IsAtPart, IsWantOf}, Errands.{read_in_task, read_of, taken_by, taken_of, want_of, way_in_task, way_of}, Ghost.Ghost, Invariant.InvWith, Querying.{one_pin, pins_of}, Setting.{Setting, site_in}, ShardKinds.pin_of, Values.{ActorValue, ErrandValue, ReadingValue, TaskValue, OfRow, Unread, Read}, View.{View, view}, World.{World, Change, after}, declared.errand.RowErrand.RowErrand}
use Rattle.volap_cell.proofs.{Desks.Lists.{found-at, place-set, place-splits}, Desks.Shared.{TurnsParts, turned-parts}, Histories.Beginnings.no-query, Views.Fields.IsNewAt, Views.Frames.{actor-at, actor-off}}
use Rattle.row_ledger.proofs.Ended.{number_of}

-- The actor's fields: it has no part then.
module _ (s : Setting) (w : World) (cs : List Change) (n : ℕ) (b : ActorValue) (e : ErrandValue) (had : (w.actors n).errand ≡ Some e) (none : b.errand ≡ None) where
  abbrev u : View
  u = view s (after w cs n b)

  abbrev v : View
  v = view s w

  pub back-taken : IsNewAt u.taken v.taken n (Some (taken_by e)) None
  back-taken = record {
    was_there = ap taken_of had;
    is_there = ap (λ (x : ActorValue). taken_of x.errand) (actor-at w.actors n b) ∙ ap taken_of none;
    elsewhere = λ a ne. ap (λ (x : ActorValue). taken_of x.errand) (actor-off w.actors n b a ne);
  }

  pub back-ways : IsNewAt u.ways v.ways n (way_in_task e e.task) None
  back-ways = record {
    was_there = ap way_of had;
    is_there = ap (λ (x : ActorValue). way_of x.errand) (actor-at w.actors n b) ∙ ap way_of none;
    elsewhere = λ a ne. ap (λ (x : ActorValue). way_of x.errand) (actor-off w.actors n b a ne);
  }

  pub back-reads : IsNewAt u.reads v.reads n (read_in_task e e.task) None
  back-reads = record {
    was_there = ap read_of had;
    is_there = ap (λ (x : ActorValue). read_of x.errand) (actor-at w.actors n b) ∙ ap read_of none;
    elsewhere = λ a ne. ap (λ (x : ActorValue). read_of x.errand) (actor-off w.actors n b a ne);
  }

-- the pin of a part is that of its reading
pub pin-read : (c : ℕ) (e : ErrandValue) (task : TaskValue) → pins_of c (read_in_task e task) ≡ one_pin c (pin_of task)
pin-read c e (OfRow r) = refl
pin-read c e (Unread f) = refl
pin-read c e (Read r) = refl

-- Where the part stands on its desk.

-- the one that was taken, and the parts before it and behind it
pub record IsInPlace (e : ErrandValue) (parts : List Part) (place : ℕ) (old : Part) : Type 0 where
  pub with : is_with e.shard e.worker old ≡ true
  pub here : slice_get parts place ≡ Some old

pub in-place : (e : ErrandValue) (parts : List Part) (place : ℕ) → position (is_with e.shard e.worker) parts ≡ Some place → (old : Part) × IsInPlace e parts place old
in-place e parts place found = (let (old, here, with) = found-at (is_with e.shard e.worker) parts place found in (old, record { with = with; here = here }))

-- one part stands in its place
pub one-turned : (desks desks_now : ℕ → DeskValue) (server : ℕ) (desk : DeskValue) (e : ErrandValue) (place : ℕ) (old part : Part) → IsNewAt desks_now desks server desk (record desk { parts = slice_set desk.parts place part })
    → IsInPlace e desk.parts place old → TurnsParts desks desks_now server (take place desk.parts) old (part ∷ []) (drop (place + 1) desk.parts)
one-turned desks desks_now server desk e place old part at is =
    turned-parts desks desks_now server desk (slice_set desk.parts place part) (take place desk.parts) old (part ∷ []) (drop (place + 1) desk.parts) at (place-splits desk.parts place old is.here) (place-set desk.parts place old part is.here)

-- What the part's command is.

module _ (s : Setting) (v : View) (g : Ghost) (i : InvWith s v g) (n : ℕ) (e : ErrandValue) (takes : v.taken n ≡ Some (taken_by e)) where
  abbrev pub at : IsAtPart s v.history v.desks (taken_by e)
  at = i.desking.at_parts n (taken_by e) takes

  pub wants : (task : TaskValue) → e.task ≡ task → IsWantOf v.history at.of (want_of task)
  wants task is = subst (λ (t : TaskValue). IsWantOf v.history at.of (want_of t)) is at.wants

  -- a row's is the insert of the row
  pub row-begun : (r : RowErrand) → e.task ≡ OfRow r → (x : Insert) × (insert_at v.history at.of ≡ Some x) × (x.row ≡ r.row) × (r.row.no ≡ at.of)
  row-begun r is =
      let (x, begun, row) = wants (OfRow r) is in
      (x, begun, row, ap (λ (z : Row). z.no) (sym row) ∙ number_of (site_in s) g.placed v.history at.of x i.telling.right.right.each begun)

  pub row-no-query : (r : RowErrand) → e.task ≡ OfRow r → (q : Query) → query_at v.history at.of ≡ Some q → ⊥
  row-no-query r is q asked = (let (x, begun, row) = wants (OfRow r) is in no-query v.history at.of x q begun asked)

  pub unread-no-insert : (f : List Pick) → e.task ≡ Unread f → (x : Insert) → insert_at v.history at.of ≡ Some x → ⊥
  unread-no-insert f is x begun = (let (q, asked, filter) = wants (Unread f) is in no-query v.history at.of x q begun asked)

  pub read-no-insert : (r : ReadingValue) → e.task ≡ Read r → (x : Insert) → insert_at v.history at.of ≡ Some x → ⊥
  read-no-insert r is x begun = (let (q, asked, filter) = wants (Read r) is in no-query v.history at.of x q begun asked)

  pub unread-filter : (f : List Pick) → e.task ≡ Unread f → (q : Query) → query_at v.history at.of ≡ Some q → q.filter ≡ f
  unread-filter f is q asked = (let (x, asked_x, filter) = wants (Unread f) is in let same : Some x ≡ Some q = sym asked_x ∙ asked in let it : x ≡ q = cc in ap (λ (z : Query). z.filter) (sym it) ∙ filter)
