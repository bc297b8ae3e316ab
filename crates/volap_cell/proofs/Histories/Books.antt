-- Desks, images, ledger and registry after the steps that change them: which are new, and what the history has more.
use Rattle.std.proofs.Common.{◌≡◌, ℕ, ◌<◌, [], ◌∷◌, inl, inr, refl, sym, ap, ◌∙◌}
use Rattle.query_router.specs.Desk.{DeskValue}
use Rattle.row_ledger.specs.declared.event.Event.{Event}
use Rattle.server_image.specs.{Image.ImageValue, Registry.RegistryValue}
use Rattle.shard_build.specs.shard_store.specs.declared.gate.Gate.{Gate}
use Rattle.volap_cell.specs.{Cells.{RegistryCell, OfStock, MapOf, DeskOf, ImageOf, TheRegistry, TheLedger, tag_of, desk_in, image_in, pins_in}, ImageKinds.{Pushes, TurnsImage}, Setting.Setting, ShardKinds.TurnsDesk, TreeKinds.TurnsGate, Values.ActorValue, View.{View, view}, World.{World, Change, after}}
use Rattle.volap_cell.proofs.{Views.Fields.{IsNewAt, IsNew, IsPushed, apart-tags, cell-new, desk-new, image-new, ledger-new, registry-new, pushed-new}, Views.Frames.AreAt, Views.Shown.{AreTagged, held-desk, held-image}}

-- what is new of a desk, of an image, of the history: between two views

abbrev pub DeskNew : View → View → ℕ → DeskValue → DeskValue → Type 0
DeskNew now was server old new = IsNewAt now.desks was.desks server old new

abbrev pub ImageNew : View → View → ℕ → ImageValue → ImageValue → Type 0
ImageNew now was server old new = IsNewAt now.images was.images server old new

abbrev pub EventNew : View → View → Event → (more used seen : ℕ) → Type 0
EventNew now was e more used seen = IsPushed e more used seen now.history was.history now.promised was.promised

-- a desk alone
pub one-desk : (s : Setting) (w : World) (n : ℕ) (b : ActorValue) → AreTagged s w.cells → (d : Change) → AreAt w.cells (d ∷ []) → {server : ℕ} {old new : DeskValue} → TurnsDesk server old new d
    → (server < s.servers) × DeskNew (view s (after w (d ∷ []) n b)) (view s w) server old new
one-desk s w n b tagged d at {server} {old} {new} turns =
    let apart = apart-tags (DeskOf server ∷ []) w.cells (d ∷ []) at (ap tag_of turns.was, tt) (tt, tt) in
    let (lt, here) = held-desk s w tagged d.number server old (at.0 ∙ turns.was) in
    (lt, desk-new s w.cells (d ∷ []) tagged at apart d (inl refl) server old new turns (inl refl, tt))

-- the ledger alone
pub one-event : (s : Setting) (w : World) (n : ℕ) (b : ActorValue) → AreTagged s w.cells → (l : Change) → AreAt w.cells (l ∷ []) → {e : Event} {more used seen : ℕ} → Pushes e more used l seen
    → EventNew (view s (after w (l ∷ []) n b)) (view s w) e more used seen
one-event s w n b tagged l at p =
    let apart = apart-tags (TheLedger ∷ []) w.cells (l ∷ []) at (ap tag_of p.was, tt) (tt, tt) in
    pushed-new p (ledger-new s w.cells (l ∷ []) tagged at apart l (inl refl) p.ledger p.ledger_now p.was p.is)

-- a table that is read and a desk
pub table-desk : (s : Setting) (w : World) (n : ℕ) (b : ActorValue) → AreTagged s w.cells → (m d : Change) → AreAt w.cells (m ∷ d ∷ []) → (worker : ℕ) → tag_of m.before ≡ MapOf worker → m.now ≡ m.before
    → {server : ℕ} {old new : DeskValue} → TurnsDesk server old new d
    → (server < s.servers) × DeskNew (view s (after w (m ∷ d ∷ []) n b)) (view s w) server old new
table-desk s w n b tagged m d at worker tag read {server} {old} {new} turns =
    let apart = apart-tags (MapOf worker ∷ DeskOf server ∷ []) w.cells (m ∷ d ∷ []) at (tag, (ap tag_of turns.was, tt)) (((λ e. cc), tt), (tt, tt)) in
    let (lt, here) = held-desk s w tagged d.number server old (at.1.0 ∙ turns.was) in
    (lt, desk-new s w.cells (m ∷ d ∷ []) tagged at apart d (inr (inl refl)) server old new turns (inr (ap desk_in read), (inl refl, tt)))

-- a gate whose pins change, and a desk
pub gate-desk : (s : Setting) (w : World) (n : ℕ) (b : ActorValue) → AreTagged s w.cells → (g d : Change) → AreAt w.cells (g ∷ d ∷ []) → {gate gate_now : Gate} → TurnsGate gate gate_now g → {server : ℕ} {old new : DeskValue} → TurnsDesk server old new d
    → (server < s.servers) × DeskNew (view s (after w (g ∷ d ∷ []) n b)) (view s w) server old new × IsNewAt (view s (after w (g ∷ d ∷ []) n b)).pins (view s w).pins g.number gate.pins gate_now.pins
gate-desk s w n b tagged g d at {gate} {gate_now} gates {server} {old} {new} turns =
    let cs = g ∷ d ∷ [] in
    let apart = apart-tags (OfStock ∷ DeskOf server ∷ []) w.cells cs at (ap tag_of gates.was, (ap tag_of turns.was, tt)) (((λ e. cc), tt), (tt, tt)) in
    let (lt, here) = held-desk s w tagged d.number server old (at.1.0 ∙ turns.was) in
    let pins = cell-new pins_in w.cells cs at apart g (inl refl) (inl refl, (inr (ap pins_in turns.is ∙ sym (ap pins_in turns.was)), tt)) in (
      lt,
      desk-new s w.cells cs tagged at apart d (inr (inl refl)) server old new turns (inr (ap desk_in gates.is ∙ sym (ap desk_in gates.was)), (inl refl, tt)),
      record { was_there = pins.was_there ∙ ap pins_in gates.was; is_there = pins.is_there ∙ ap pins_in gates.is; elsewhere = pins.elsewhere },
    )

-- an image and the ledger
pub image-event : (s : Setting) (w : World) (n : ℕ) (b : ActorValue) → AreTagged s w.cells → (i l : Change) → AreAt w.cells (i ∷ l ∷ []) → {server : ℕ} {old new : ImageValue} → TurnsImage server old new i → {e : Event} {more used seen : ℕ} → Pushes e more used l seen
    → (server < s.servers) × ImageNew (view s (after w (i ∷ l ∷ []) n b)) (view s w) server old new × EventNew (view s (after w (i ∷ l ∷ []) n b)) (view s w) e more used seen
image-event s w n b tagged i l at {server} {old} {new} turns p =
    let cs = i ∷ l ∷ [] in
    let apart = apart-tags (ImageOf server ∷ TheLedger ∷ []) w.cells cs at (ap tag_of turns.was, (ap tag_of p.was, tt)) (((λ e. cc), tt), (tt, tt)) in
    let (lt, here) = held-image s w tagged i.number server old (at.0 ∙ turns.was) in (
      lt,
      image-new s w.cells cs tagged at apart i (inl refl) server old new turns (inl refl, (inr (ap image_in p.is ∙ sym (ap image_in p.was)), tt)),
      pushed-new p (ledger-new s w.cells cs tagged at apart l (inr (inl refl)) p.ledger p.ledger_now p.was p.is),
    )

-- a desk and the ledger
pub desk-event : (s : Setting) (w : World) (n : ℕ) (b : ActorValue) → AreTagged s w.cells → (d l : Change) → AreAt w.cells (d ∷ l ∷ []) → {server : ℕ} {old new : DeskValue} → TurnsDesk server old new d → {e : Event} {more used seen : ℕ} → Pushes e more used l seen
    → (server < s.servers) × DeskNew (view s (after w (d ∷ l ∷ []) n b)) (view s w) server old new × EventNew (view s (after w (d ∷ l ∷ []) n b)) (view s w) e more used seen
desk-event s w n b tagged d l at {server} {old} {new} turns p =
    let cs = d ∷ l ∷ [] in
    let apart = apart-tags (DeskOf server ∷ TheLedger ∷ []) w.cells cs at (ap tag_of turns.was, (ap tag_of p.was, tt)) (((λ e. cc), tt), (tt, tt)) in
    let (lt, here) = held-desk s w tagged d.number server old (at.0 ∙ turns.was) in (
      lt,
      desk-new s w.cells cs tagged at apart d (inl refl) server old new turns (inl refl, (inr (ap desk_in p.is ∙ sym (ap desk_in p.was)), tt)),
      pushed-new p (ledger-new s w.cells cs tagged at apart l (inr (inl refl)) p.ledger p.ledger_now p.was p.is),
    )

-- a desk and an image
pub desk-image : (s : Setting) (w : World) (n : ℕ) (b : ActorValue) → AreTagged s w.cells → (d i : Change) → AreAt w.cells (d ∷ i ∷ []) → {server : ℕ} {old new : DeskValue} → TurnsDesk server old new d → {at_server : ℕ} {image image_now : ImageValue} → TurnsImage at_server image image_now i
    → (server < s.servers) × DeskNew (view s (after w (d ∷ i ∷ []) n b)) (view s w) server old new × ImageNew (view s (after w (d ∷ i ∷ []) n b)) (view s w) at_server image image_now
desk-image s w n b tagged d i at {server} {old} {new} turns {at_server} {image} {image_now} grows =
    let cs = d ∷ i ∷ [] in
    let apart = apart-tags (DeskOf server ∷ ImageOf at_server ∷ []) w.cells cs at (ap tag_of turns.was, (ap tag_of grows.was, tt)) (((λ e. cc), tt), (tt, tt)) in
    let (lt, here) = held-desk s w tagged d.number server old (at.0 ∙ turns.was) in (
      lt,
      desk-new s w.cells cs tagged at apart d (inl refl) server old new turns (inl refl, (inr (ap desk_in grows.is ∙ sym (ap desk_in grows.was)), tt)),
      image-new s w.cells cs tagged at apart i (inr (inl refl)) at_server image image_now grows (inr (ap image_in turns.is ∙ sym (ap image_in turns.was)), (inl refl, tt)),
    )

-- a desk, an image and the ledger
pub desk-image-event : (s : Setting) (w : World) (n : ℕ) (b : ActorValue) → AreTagged s w.cells → (d i l : Change) → AreAt w.cells (d ∷ i ∷ l ∷ []) → {server : ℕ} {old new : DeskValue} → TurnsDesk server old new d
    → {at_server : ℕ} {image image_now : ImageValue} → TurnsImage at_server image image_now i → {e : Event} {more used seen : ℕ} → Pushes e more used l seen
    → (server < s.servers) × DeskNew (view s (after w (d ∷ i ∷ l ∷ []) n b)) (view s w) server old new × ImageNew (view s (after w (d ∷ i ∷ l ∷ []) n b)) (view s w) at_server image image_now
    × EventNew (view s (after w (d ∷ i ∷ l ∷ []) n b)) (view s w) e more used seen
desk-image-event s w n b tagged d i l at {server} {old} {new} turns {at_server} {image} {image_now} grows p =
    let cs = d ∷ i ∷ l ∷ [] in
    let apart = apart-tags (DeskOf server ∷ ImageOf at_server ∷ TheLedger ∷ []) w.cells cs at (ap tag_of turns.was, (ap tag_of grows.was, (ap tag_of p.was, tt))) (((λ e. cc), ((λ e. cc), tt)), (((λ e. cc), tt), (tt, tt))) in
    let (lt, here) = held-desk s w tagged d.number server old (at.0 ∙ turns.was) in (
      lt,
      desk-new s w.cells cs tagged at apart d (inl refl) server old new turns (inl refl, (inr (ap desk_in grows.is ∙ sym (ap desk_in grows.was)), (inr (ap desk_in p.is ∙ sym (ap desk_in p.was)), tt))),
      image-new s w.cells cs tagged at apart i (inr (inl refl)) at_server image image_now grows (inr (ap image_in turns.is ∙ sym (ap image_in turns.was)), (inl refl, (inr (ap image_in p.is ∙ sym (ap image_in p.was)), tt))),
      pushed-new p (ledger-new s w.cells cs tagged at apart l (inr (inr (inl refl))) p.ledger p.ledger_now p.was p.is),
    )

-- an image, the registry and the ledger
pub image-registry-event : (s : Setting) (w : World) (n : ℕ) (b : ActorValue) → AreTagged s w.cells → (i r l : Change) → AreAt w.cells (i ∷ r ∷ l ∷ []) → {server : ℕ} {old new : ImageValue} → TurnsImage server old new i
    → (registry registry_now : RegistryValue) → r.before ≡ RegistryCell registry → r.now ≡ RegistryCell registry_now → {e : Event} {more used seen : ℕ} → Pushes e more used l seen
    → (server < s.servers) × ImageNew (view s (after w (i ∷ r ∷ l ∷ []) n b)) (view s w) server old new × IsNew (view s (after w (i ∷ r ∷ l ∷ []) n b)).registry (view s w).registry registry registry_now
    × EventNew (view s (after w (i ∷ r ∷ l ∷ []) n b)) (view s w) e more used seen
image-registry-event s w n b tagged i r l at {server} {old} {new} turns registry registry_now was is p =
    let cs = i ∷ r ∷ l ∷ [] in
    let apart = apart-tags (ImageOf server ∷ TheRegistry ∷ TheLedger ∷ []) w.cells cs at (ap tag_of turns.was, (ap tag_of was, (ap tag_of p.was, tt))) (((λ e. cc), ((λ e. cc), tt)), (((λ e. cc), tt), (tt, tt))) in
    let (lt, here) = held-image s w tagged i.number server old (at.0 ∙ turns.was) in (
      lt,
      image-new s w.cells cs tagged at apart i (inl refl) server old new turns (inl refl, (inr (ap image_in is ∙ sym (ap image_in was)), (inr (ap image_in p.is ∙ sym (ap image_in p.was)), tt))),
      registry-new s w.cells cs tagged at apart r (inr (inl refl)) registry registry_now was is,
      pushed-new p (ledger-new s w.cells cs tagged at apart l (inr (inr (inl refl))) p.ledger p.ledger_now p.was p.is),
    )
