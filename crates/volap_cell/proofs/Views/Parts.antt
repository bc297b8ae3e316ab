-- The view after the steps of parts between desks, tables and gates: the fields that each touches, and no other.
use Rattle.std.proofs.Common.{◌≡◌, ℕ, true, List, [], ◌∷◌, ◌++◌, Option, Some, None, refl, sym, ap}
use Rattle.dim_hierarchy.specs.Dimension.{Dimension}
use Rattle.describing_set.specs.declared.plane.Plane.{Plane}
use Rattle.query_router.specs.declared.part.Part.{Part}
use Rattle.shard_build.specs.shard_store.specs.declared.gate.Gate.{Gate}
use Rattle.list_words.proofs.Each.{each-append}
use Rattle.volap_cell.specs.{Cells.GateCell, Errands.{is_filled, place_of}, Setting.Setting, ShardKinds.{DoesTakePart, NotesHeight, ReadsLoad, DoesForward, DoesExpand, DoesFinishPart, PutsOne, PutsChildren, Unpins, pin_of}, Values.{ActorValue, ErrandValue, TaskValue, OfRow, Unread, Read}, View.view, World.{World, Change, Agrees, after}}
use Rattle.volap_cell.specs.declared.errand.Way.TheVariants as way
use Rattle.volap_cell.proofs.{Actors.{row-moved, row-stays}, Views.Commits.view-step, Views.Frames.Same, Views.Seen.{Touched, nothing, beside, actor_beside, renewed}, Views.Touches.{turned, turned-desk}}

-- Desks.

-- a part is put back on its desk
pub put-one : (t : Touched) → t.desks ≡ true → {e : ErrandValue} {part : Part} {d : Change} → PutsOne e part d → beside t d.now ≡ beside t d.before
put-one t on puts = let (place, back) = puts in turned-desk t on back.turns

-- the parts at the children are
pub put-children : (t : Touched) → t.desks ≡ true → (h : List Dimension) (e : ErrandValue) (task : TaskValue) (plane : Plane) (left right : ℕ) (d : Change) → PutsChildren h e task plane left right d → beside t d.now ≡ beside t d.before
put-children t on h e (OfRow r) plane left right d puts = put-one t on puts
put-children t on h e (Unread f) plane left right d puts = let (place, back) = puts in turned-desk t on back.turns
put-children t on h e (Read r) plane left right d puts = absurd puts

-- a desk and the part of an actor
abbrev pub by_part : Touched
by_part = record nothing { desks = true; taken = true; ways = true; reads = true }

pub view-take_part : (s : Setting) (w : World) (n : ℕ) (d : Change) (a b : ActorValue) → Agrees w (d ∷ []) n a → DoesTakePart d a b
    → view s (after w (d ∷ []) n b) ≡ renewed by_part (view s (after w (d ∷ []) n b)) (view s w)
view-take_part s w n d a b agrees does = view-step by_part s w (d ∷ []) n a b agrees (turned-desk by_part refl does.turns, tt) (ap (actor_beside by_part) does.actor_is)

pub view-forward : (s : Setting) (w : World) (n : ℕ) (m d : Change) (a b : ActorValue) → Agrees w (m ∷ d ∷ []) n a → DoesForward m d a b
    → view s (after w (m ∷ d ∷ []) n b) ≡ renewed by_part (view s (after w (m ∷ d ∷ []) n b)) (view s w)
view-forward s w n m d a b agrees does =
    view-step by_part s w (m ∷ d ∷ []) n a b agrees (ap (beside by_part) does.leads.same, (put-one by_part refl does.puts, tt)) (ap (actor_beside by_part) does.actor_is)

pub view-expand : (s : Setting) (w : World) (n : ℕ) (h : List Dimension) (m d : Change) (a b : ActorValue) → Agrees w (m ∷ d ∷ []) n a → DoesExpand h m d a b
    → view s (after w (m ∷ d ∷ []) n b) ≡ renewed by_part (view s (after w (m ∷ d ∷ []) n b)) (view s w)
view-expand s w n h m d a b agrees does =
    view-step by_part s w (m ∷ d ∷ []) n a b agrees
    (ap (beside by_part) does.leads.same, (put-children by_part refl h does.e does.e.task does.plane does.left does.right d does.puts, tt))
    (ap (actor_beside by_part) does.actor_is)

-- Ending a part.

abbrev pub by_finish_part : Touched
by_finish_part = record by_part { pins = true }

-- a gate has a pin less, or none is held
unpinned : (pin : Option ℕ) (cs : List Change) → Unpins pin cs → Same (beside by_finish_part) cs
unpinned None [] u = tt
unpinned None (g ∷ cs) u = absurd u
unpinned (Some pin) [] u = absurd u
unpinned (Some pin) (g ∷ []) u =
    let (number, gates) = u in
    let (gate, gate_now, turns, left) = gates in
    (turned (beside by_finish_part) g _ _ turns.was turns.is (sym (ap (λ (x : Gate). beside by_finish_part (GateCell x)) left)), tt)
unpinned (Some pin) (g ∷ c ∷ cs) u = absurd u

pub view-finish_part : (s : Setting) (w : World) (n : ℕ) (pinned : List Change) (d : Change) (a b : ActorValue) → Agrees w (pinned ++ d ∷ []) n a → DoesFinishPart pinned d a b
    → view s (after w (pinned ++ d ∷ []) n b) ≡ renewed by_finish_part (view s (after w (pinned ++ d ∷ []) n b)) (view s w)
view-finish_part s w n pinned d a b agrees does =
    let t = by_finish_part in
    let gate = unpinned (pin_of does.e.task) pinned does.unpins in
    view-step t s w (pinned ++ d ∷ []) n a b agrees
    (each-append (λ c. beside t c.now ≡ beside t c.before) pinned (d ∷ []) gate (put-one t refl does.puts, tt))
    (ap (actor_beside t) does.actor_is)

-- where no gate is held no pin changes
pub view-finish_unpinned : (s : Setting) (w : World) (n : ℕ) (d : Change) (a b : ActorValue) → Agrees w (d ∷ []) n a → DoesFinishPart [] d a b
    → view s (after w (d ∷ []) n b) ≡ renewed by_part (view s (after w (d ∷ []) n b)) (view s w)
view-finish_unpinned s w n d a b agrees does = view-step by_part s w (d ∷ []) n a b agrees (put-one by_part refl does.puts, tt) (ap (actor_beside by_part) does.actor_is)

-- Looking up.

-- the height that is noted isn't seen: nothing is touched
pub view-note_height : (s : Setting) (w : World) (n : ℕ) (m g : Change) (a b : ActorValue) → Agrees w (m ∷ g ∷ []) n a → NotesHeight m g a b
    → view s (after w (m ∷ g ∷ []) n b) ≡ renewed nothing (view s (after w (m ∷ g ∷ []) n b)) (view s w)
view-note_height s w n m g a b agrees d =
    let known = way.Before (Some d.gate.height) d.filled in
    view-step nothing s w (m ∷ g ∷ []) n a b agrees
    (ap (beside nothing) d.leads.same, (turned (beside nothing) g (GateCell d.gate) (GateCell d.gate) d.same.was d.same.is refl, tt))
    (row-moved nothing {purse = a.purse} {boxes = a.boxes} d.actor_is d.has (row-stays known d.has (sym (ap place_of d.unknown)) (sym (ap is_filled d.unknown))) refl refl)

abbrev pub by_load : Touched
by_load = record nothing { commands = true; jobs = true }

pub view-read_load : (s : Setting) (w : World) (n : ℕ) (m g : Change) (a b : ActorValue) → Agrees w (m ∷ g ∷ []) n a → ReadsLoad m g a b
    → view s (after w (m ∷ g ∷ []) n b) ≡ renewed by_load (view s (after w (m ∷ g ∷ []) n b)) (view s w)
view-read_load s w n m g a b agrees d =
    view-step by_load s w (m ∷ g ∷ []) n a b agrees
    (ap (beside by_load) d.leads.same, (turned (beside by_load) g (GateCell d.gate) (GateCell d.gate) d.same.was d.same.is refl, tt))
    (ap (actor_beside by_load) d.actor_is)
