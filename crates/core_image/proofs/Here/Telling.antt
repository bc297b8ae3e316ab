-- The event that a step puts in the ledger's cell, told of its actor.
use Rattle.std.proofs.Common.{ℕ, ℤ, ◌≡◌, List, ◌∷◌, length, sym, ap, ◌∙◌, subst}
use Rattle.dim_hierarchy.specs.{Dimension.Dimension, declared.filter.Pick.Pick, declared.row.Coord.Coord}
use Rattle.query_router.specs.Desk.{DeskValue}
use Rattle.row_ledger.specs.{LedgerValue.LedgerValue, declared.event.Event.Event}
use Rattle.row_ledger.specs.declared.event.Event.TheVariants as event
use Rattle.server_image.specs.Image.{ImageValue}
use Rattle.volap_cell.specs.{Cells.{CellValue, DeskCell, DeskOf, ImageCell, ImageOf, LedgerCell, tag_of}, Commands.server_of, Values.ActorValue, declared.role.Role.TheVariants.Session}
use Rattle.core_image.specs.{Asking.OpensQuery, NotesDue.{Notes, OpensInsert}, Told.{Tells, asked_by, begun_by, unknown_by}}

pub tells : (event_of : ActorValue → ℕ → Event) (a : ActorValue) (ledger : CellValue) (lv lv2 : LedgerValue) → ledger ≡ LedgerCell lv → lv2.history ≡ event_of a (length lv.history) ∷ lv.history
    → Tells event_of a ledger (LedgerCell lv2)
tells event_of a ledger lv lv2 e k = subst (λ (c : CellValue). Tells event_of a c (LedgerCell lv2)) (sym e) k

-- the server of a session, which its cells have too
server-is : (a : ActorValue) (server due : ℕ) → a.role ≡ Session due → server ≡ due → server ≡ server_of a.role
server-is a server due role e = e ∙ ap server_of (sym role)

pub tells-begun : (at : Coord) (measures : ℤ) (a : ActorValue) (image ledger : CellValue) (due : ℕ) → a.role ≡ Session due → tag_of image ≡ ImageOf due
    → (server : ℕ) (iv : ImageValue) → image ≡ ImageCell server iv → (lv : LedgerValue) → ledger ≡ LedgerCell lv → (place : ℕ) → place ≡ length lv.history
    → (iv2 : ImageValue) (lv2 : LedgerValue) → OpensInsert (event.Begun a.number server (record { no = place; at = at; measures = measures })) iv iv2 lv lv2
    → Tells (begun_by at measures) a ledger (LedgerCell lv2)
tells-begun at measures a image ledger due role tag server iv image_is lv ledger_is place e iv2 lv2 opens =
    let servers : server ≡ due = (let tags : ImageOf server ≡ ImageOf due = sym (ap tag_of image_is) ∙ tag in cc) in
    tells (begun_by at measures) a ledger lv lv2 ledger_is
    (opens.notes.history
    ∙ ap (λ (s : ℕ). event.Begun a.number s (record { no = place; at = at; measures = measures }) ∷ lv.history) (server-is a server due role servers)
    ∙ ap (λ (k : ℕ). event.Begun a.number (server_of a.role) (record { no = k; at = at; measures = measures }) ∷ lv.history) e)

pub tells-asked : (h : List Dimension) (filter : List Pick) (a : ActorValue) (desk ledger : CellValue) (due : ℕ) → a.role ≡ Session due → tag_of desk ≡ DeskOf due
    → (server : ℕ) (dv : DeskValue) → desk ≡ DeskCell server dv → (iv : ImageValue) (lv : LedgerValue) → ledger ≡ LedgerCell lv
    → (dv2 : DeskValue) (lv2 : LedgerValue) → OpensQuery h a.number server filter iv dv dv2 lv lv2
    → Tells (asked_by filter) a ledger (LedgerCell lv2)
tells-asked h filter a desk ledger due role tag server dv desk_is iv lv ledger_is dv2 lv2 asks =
    let servers : server ≡ due = (let tags : DeskOf server ≡ DeskOf due = sym (ap tag_of desk_is) ∙ tag in cc) in
    tells (asked_by filter) a ledger lv lv2 ledger_is
    (asks.history ∙ ap (λ (s : ℕ). event.Asked a.number s filter ∷ lv.history) (server-is a server due role servers))

pub tells-unknown : (dim : ℕ) (a : ActorValue) (ledger : CellValue) (lv lv2 : LedgerValue) → ledger ≡ LedgerCell lv → (server : ℕ) → server ≡ server_of a.role
    → Notes (event.Unknown a.number server dim) 1 1 lv lv2 → Tells (unknown_by dim) a ledger (LedgerCell lv2)
tells-unknown dim a ledger lv lv2 ledger_is server is notes =
    tells (unknown_by dim) a ledger lv lv2 ledger_is (notes.history ∙ ap (λ (s : ℕ). event.Unknown a.number s dim ∷ lv.history) is)
