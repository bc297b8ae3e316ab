-- The view after the steps of commands at images, desks and the ledger: the fields that each touches, and no other.
use Rattle.std.proofs.Common.{◌≡◌, ℕ, Bool, true, List, [], ◌∷◌, refl, ap}
use Rattle.dim_hierarchy.specs.Dimension.{Dimension}
use Rattle.row_ledger.specs.declared.page.Page.{Page}
use Rattle.server_image.specs.Registry.{RegistryValue}
use Rattle.volap_cell.specs.{Cells.{ImageCell, RegistryCell}, ImageKinds.{DoesBeginInsert, DoesRoute, DoesAck, DoesBeginQuery, DoesAnswer, DoesSync, NotesUnknown, NotesRefused, NotesCalled, NotesLeft, NotesShown, NotesEnded, CountsSession, FailsUnrouted, FailsRouted, FailsQuery, IsAsked}, Setting.Setting, Values.ActorValue, View.view, World.{World, Change, Agrees, after}}
use Rattle.volap_cell.proofs.{Views.Commits.view-step, Views.Seen.{Touched, nothing, beside, actor_beside, renewed}, Views.Touches.{turned, turned-desk, turned-image, pushed}}

-- an event and the command of an actor
abbrev pub by_event : Touched
by_event = record nothing { ledger = true; seen = true; commands = true }

-- Inserts.

abbrev pub by_begin_insert : Touched
by_begin_insert = record by_event { images = true }

pub view-begin_insert : (s : Setting) (w : World) (n : ℕ) (h : List Dimension) (i l : Change) (a b : ActorValue) → Agrees w (i ∷ l ∷ []) n a → DoesBeginInsert h i l a b
    → view s (after w (i ∷ l ∷ []) n b) ≡ renewed by_begin_insert (view s (after w (i ∷ l ∷ []) n b)) (view s w)
view-begin_insert s w n h i l a b agrees d =
    let t = by_begin_insert in view-step t s w (i ∷ l ∷ []) n a b agrees (turned-image t refl d.owes_more, (pushed t refl d.begun, tt)) (ap (actor_beside t) d.actor_is)

abbrev pub by_route : Touched
by_route = record nothing { desks = true; commands = true }

pub view-route : (s : Setting) (w : World) (n : ℕ) (h : List Dimension) (d i : Change) (a b : ActorValue) → Agrees w (d ∷ i ∷ []) n a → DoesRoute h d i a b
    → view s (after w (d ∷ i ∷ []) n b) ≡ renewed by_route (view s (after w (d ∷ i ∷ []) n b)) (view s w)
view-route s w n h d i a b agrees does =
    let t = by_route in
    let image = turned (beside t) i (ImageCell does.server does.image) (ImageCell does.server does.image) does.same.was does.same.is refl in
    view-step t s w (d ∷ i ∷ []) n a b agrees (turned-desk t refl does.put, (image, tt)) (ap (actor_beside t) does.actor_is)

abbrev pub by_ack : Touched
by_ack = record by_event { desks = true; images = true }

pub view-ack : (s : Setting) (w : World) (n : ℕ) (h : List Dimension) (d i l : Change) (a b : ActorValue) → Agrees w (d ∷ i ∷ l ∷ []) n a → DoesAck h d i l a b
    → view s (after w (d ∷ i ∷ l ∷ []) n b) ≡ renewed by_ack (view s (after w (d ∷ i ∷ l ∷ []) n b)) (view s w)
view-ack s w n h d i l a b agrees does =
    let t = by_ack in
    view-step t s w (d ∷ i ∷ l ∷ []) n a b agrees (turned-desk t refl does.clear, (turned-image t refl does.turns, (pushed t refl does.acked, tt))) (ap (actor_beside t) does.actor_is)

-- an insert that ends for want of memory, with its part or before it had one

pub view-fail_routed : (s : Setting) (w : World) (n : ℕ) (d i l : Change) (a b : ActorValue) → Agrees w (d ∷ i ∷ l ∷ []) n a → FailsRouted d i l a b
    → view s (after w (d ∷ i ∷ l ∷ []) n b) ≡ renewed by_ack (view s (after w (d ∷ i ∷ l ∷ []) n b)) (view s w)
view-fail_routed s w n d i l a b agrees does =
    let t = by_ack in
    view-step t s w (d ∷ i ∷ l ∷ []) n a b agrees (turned-desk t refl does.refused.clear, (turned-image t refl does.turns, (pushed t refl does.failed, tt))) (ap (actor_beside t) does.actor_is)

pub view-fail_unrouted : (s : Setting) (w : World) (n : ℕ) (i l : Change) (a b : ActorValue) → Agrees w (i ∷ l ∷ []) n a → FailsUnrouted i l a b
    → view s (after w (i ∷ l ∷ []) n b) ≡ renewed by_begin_insert (view s (after w (i ∷ l ∷ []) n b)) (view s w)
view-fail_unrouted s w n i l a b agrees does =
    let t = by_begin_insert in view-step t s w (i ∷ l ∷ []) n a b agrees (turned-image t refl does.turns, (pushed t refl does.failed, tt)) (ap (actor_beside t) does.actor_is)

-- Queries.

abbrev pub by_query : Touched
by_query = record by_event { desks = true }

pub view-begin_query : (s : Setting) (w : World) (n : ℕ) (h : List Dimension) (d i l : Change) (a b : ActorValue) → Agrees w (d ∷ i ∷ l ∷ []) n a → DoesBeginQuery h d i l a b
    → view s (after w (d ∷ i ∷ l ∷ []) n b) ≡ renewed by_query (view s (after w (d ∷ i ∷ l ∷ []) n b)) (view s w)
view-begin_query s w n h d i l a b agrees does =
    let t = by_query in
    let image = turned (beside t) i (ImageCell does.server does.image) (ImageCell does.server does.image) does.same.was does.same.is refl in
    view-step t s w (d ∷ i ∷ l ∷ []) n a b agrees (turned-desk t refl does.put, (image, (pushed t refl does.asked, tt))) (ap (actor_beside t) does.actor_is)

pub view-answer : (s : Setting) (w : World) (n : ℕ) (d l : Change) (a b : ActorValue) → Agrees w (d ∷ l ∷ []) n a → DoesAnswer d l a b
    → view s (after w (d ∷ l ∷ []) n b) ≡ renewed by_query (view s (after w (d ∷ l ∷ []) n b)) (view s w)
view-answer s w n d l a b agrees does =
    let t = by_query in view-step t s w (d ∷ l ∷ []) n a b agrees (turned-desk t refl does.clear, (pushed t refl does.answered, tt)) (ap (actor_beside t) does.actor_is)

pub view-fail_query : (s : Setting) (w : World) (n : ℕ) (d l : Change) (a b : ActorValue) → Agrees w (d ∷ l ∷ []) n a → FailsQuery d l a b
    → view s (after w (d ∷ l ∷ []) n b) ≡ renewed by_query (view s (after w (d ∷ l ∷ []) n b)) (view s w)
view-fail_query s w n d l a b agrees does =
    let t = by_query in view-step t s w (d ∷ l ∷ []) n a b agrees (turned-desk t refl does.refused.clear, (pushed t refl does.failed, tt)) (ap (actor_beside t) does.actor_is)

-- Pulls.

abbrev pub by_sync : Touched
by_sync = record by_event { images = true; registry = true }

pub view-sync : (s : Setting) (w : World) (n : ℕ) (h : List Dimension) (i r l : Change) (a b : ActorValue) → Agrees w (i ∷ r ∷ l ∷ []) n a → DoesSync h i r l a b
    → view s (after w (i ∷ r ∷ l ∷ []) n b) ≡ renewed by_sync (view s (after w (i ∷ r ∷ l ∷ []) n b)) (view s w)
view-sync s w n h i r l a b agrees does =
    let t = by_sync in
    view-step t s w (i ∷ r ∷ l ∷ []) n a b agrees
    (turned-image t refl does.turns_image, (turned (beside t) r (RegistryCell does.registry) (RegistryCell does.registry_now) does.was does.is refl, (pushed t refl does.pulled, tt)))
    (ap (actor_beside t) does.actor_is)

-- Notes.

-- an event of a command that never begins
abbrev pub by_refusal : Touched
by_refusal = record nothing { ledger = true; seen = true }

pub view-note_unknown : (s : Setting) (w : World) (n : ℕ) (l : Change) (a b : ActorValue) → Agrees w (l ∷ []) n a → NotesUnknown l a b
    → view s (after w (l ∷ []) n b) ≡ renewed by_refusal (view s (after w (l ∷ []) n b)) (view s w)
view-note_unknown s w n l a b agrees d = view-step by_refusal s w (l ∷ []) n a b agrees (pushed by_refusal refl d.pushed, tt) (ap (actor_beside by_refusal) d.actor_is)

pub view-note_refused : (s : Setting) (w : World) (n : ℕ) (l : Change) (a b : ActorValue) → Agrees w (l ∷ []) n a → NotesRefused l a b
    → view s (after w (l ∷ []) n b) ≡ renewed by_refusal (view s (after w (l ∷ []) n b)) (view s w)
view-note_refused s w n l a b agrees d = view-step by_refusal s w (l ∷ []) n a b agrees (pushed by_refusal refl d.pushed, tt) (ap (actor_beside by_refusal) d.actor_is)

-- an event, and the command and the job of an actor
abbrev pub by_call : Touched
by_call = record by_event { jobs = true }

pub view-note_called : (s : Setting) (w : World) (n : ℕ) (registry : RegistryValue) (asks : Bool) (l : Change) (a b : ActorValue) → Agrees w (l ∷ []) n a → NotesCalled registry asks l a b
    → view s (after w (l ∷ []) n b) ≡ renewed by_call (view s (after w (l ∷ []) n b)) (view s w)
view-note_called s w n registry asks l a b agrees d = view-step by_call s w (l ∷ []) n a b agrees (pushed by_call refl d.pushed, tt) (ap (actor_beside by_call) d.actor_is)

pub view-note_asking : (s : Setting) (w : World) (n : ℕ) (registry : RegistryValue) (asks : Bool) (c l : Change) (a b : ActorValue) → Agrees w (c ∷ l ∷ []) n a → IsAsked registry c → NotesCalled registry asks l a b
    → view s (after w (c ∷ l ∷ []) n b) ≡ renewed by_call (view s (after w (c ∷ l ∷ []) n b)) (view s w)
view-note_asking s w n registry asks c l a b agrees asked d = view-step by_call s w (c ∷ l ∷ []) n a b agrees (ap (beside by_call) asked.same, (pushed by_call refl d.pushed, tt)) (ap (actor_beside by_call) d.actor_is)

pub view-note_left : (s : Setting) (w : World) (n : ℕ) (l : Change) (a b : ActorValue) → Agrees w (l ∷ []) n a → NotesLeft l a b
    → view s (after w (l ∷ []) n b) ≡ renewed by_call (view s (after w (l ∷ []) n b)) (view s w)
view-note_left s w n l a b agrees d = view-step by_call s w (l ∷ []) n a b agrees (pushed by_call refl d.left, tt) (ap (actor_beside by_call) d.actor_is)

pub view-note_shown : (s : Setting) (w : World) (n : ℕ) (page : Page) (l : Change) (a b : ActorValue) → Agrees w (l ∷ []) n a → NotesShown page l a b
    → view s (after w (l ∷ []) n b) ≡ renewed by_event (view s (after w (l ∷ []) n b)) (view s w)
view-note_shown s w n page l a b agrees d = view-step by_event s w (l ∷ []) n a b agrees (pushed by_event refl d.shown, tt) (ap (actor_beside by_event) d.actor_is)

pub view-note_ended : (s : Setting) (w : World) (n : ℕ) (l : Change) (a b : ActorValue) → Agrees w (l ∷ []) n a → NotesEnded l a b
    → view s (after w (l ∷ []) n b) ≡ renewed by_call (view s (after w (l ∷ []) n b)) (view s w)
view-note_ended s w n l a b agrees d = view-step by_call s w (l ∷ []) n a b agrees (pushed by_call refl d.ended, tt) (ap (actor_beside by_call) d.actor_is)

abbrev pub by_count : Touched
by_count = record nothing { desks = true; counted_in = true }

pub view-count_session : (s : Setting) (w : World) (n : ℕ) (d : Change) (a b : ActorValue) → Agrees w (d ∷ []) n a → CountsSession d a b
    → view s (after w (d ∷ []) n b) ≡ renewed by_count (view s (after w (d ∷ []) n b)) (view s w)
view-count_session s w n d a b agrees does = view-step by_count s w (d ∷ []) n a b agrees (turned-desk by_count refl does.turns, tt) (ap (actor_beside by_count) does.actor_is)
