-- A session's server: its desk and its image are there, and what its session's beginnings ask of them is so.
use Rattle.std.proofs.{Common.{◌≡◌, ◌≢◌, ◌∙◌, ℕ, ℤ, ◌+◌, ◌^◌, ◌<◌, true, List, length, Option, Some, None, refl, sym, ap, subst, arith}, lemmas.Option.get_or_from_slice_get}
use Rattle.std.specs.{List.slice_index_or, Prelude.is_none}
use Rattle.part_steps.specs.core_due.proofs.{BooksHeld.hold-ledger, Holding.{hold-three, hold-two, prepared}}
use Rattle.part_steps.specs.core_due.specs.Due.{is_empty_desk}
use Rattle.part_steps.specs.core_steps.specs.{Begins.{begin_asks, begin_places}, Notes.{note_asks, note_places}}
use Rattle.part_steps.specs.core_steps.specs.declared.begins.BeginStep.TheVariants as begin
use Rattle.part_steps.specs.core_steps.specs.declared.notes.NoteStep.TheVariants as note
use Rattle.dim_hierarchy.specs.{Filter.IsFilterOf, Row.IsCoordOf, declared.filter.Pick.Pick, declared.row.Coord.Coord}
use Rattle.part_steps.specs.seat_steps.proofs.Around.{around, seen-there}
use Rattle.part_steps.specs.seat_steps.specs.{Booked.IsDue, Floors.{IsAround, IsSeated}, Looks.Sees, declared.floor.{Floor.Floor, Player.Player}}
use Rattle.session_steps.specs.Books.{AreBooksOf}
use Rattle.turn_table.specs.Seat.{cell_count}
use Rattle.part_steps.specs.volap_cell.proofs.Cells.Numbers.{tag-desk, tag-image}
use Rattle.part_steps.specs.volap_cell.specs.{Cells.{DeskOf, ImageOf, TheLedger, desk_in, tag_of}, ImageKinds.IsFree, Numbering.IsRoleOf, Setting.{Setting, desk_cell, image_cell, ledger_cell}, Values.{ActorValue, actor_of}, World.World, declared.role.Role.TheVariants.Session}
use Rattle.part_steps.specs.volap_turns.specs.Rows.{IsThere}

-- Numbers.

below-same : (x few many : ℕ) → x < few → few ≡ many → x < many
below-same x few many low e = omega arith

desk-below : (x servers workers stock many cells desk : ℕ) → x < servers → servers ≡ many → 3 + servers + servers + workers + stock ≡ cells → desk ≡ 3 + many + x → desk < cells
desk-below x servers workers stock many cells desk low same all is = omega arith

module _ (f : Floor) (p : Player) where
  module _ (s : Setting) (w : World) (is : IsAround f p s w) where
    server-there : (x : ℕ) → (actor_of p.actor).role ≡ Session x → x < s.servers
    server-there x role =
        let i = is.inv.holds in
        let at : slice_index_or s.roles p.number (Session x) ≡ Session x = get_or_from_slice_get s.roles p.number (w.actors p.number).role (Session x) (i.numbering.role p.number is.there) ∙ ap (λ (a : ActorValue). a.role) is.actor ∙ role in
        subst (IsRoleOf s) at (i.numbering.setting.roles p.number (Session x) is.there)

  -- the server of a session is one of those that are there
  pub server-below : IsSeated f p → (x : ℕ) → (actor_of p.actor).role ≡ Session x → x < f.with.servers
  server-below seated x role = (let it = around f p seated in below-same x _ _ (server-there it.0 it.1 it.2 x role) it.2.servers)

  -- in these cells are the desk and the image of the server
  pub books-are : IsSeated f p → (x : ℕ) → (actor_of p.actor).role ≡ Session x → f.with.servers < 2 ^ 8 → (desk image : ℕ) → desk ≡ 3 + f.with.servers + x → image ≡ image_cell x → AreBooksOf f p desk image
  books-are seated x role bytes desk image desk_is image_is =
      let it = around f p seated in
      let low = server-there it.0 it.1 it.2 x role in
      record {
        server = x;
        role = role;
        low = server-below seated x role;
        bytes = bytes;
        desk_is = desk_is;
        image_is = image_is;
        within = desk-below x _ _ _ _ _ desk low it.2.servers it.2.cells desk_is;
      }

  module _ (desk image : ℕ) (books : AreBooksOf f p desk image) where
    module _ (s : Setting) (w : World) (is : IsAround f p s w) where
      low : books.server < s.servers
      low = below-same books.server _ _ books.low (sym is.servers)

      pub desk-is : desk ≡ desk_cell s books.server
      desk-is = books.desk_is ∙ ap (λ (k : ℕ). 3 + k + books.server) (sym is.servers)

      pub role-is : (w.actors p.number).role ≡ Session books.server
      role-is = ap (λ (a : ActorValue). a.role) is.actor ∙ books.role

      pub desk-tag : tag_of (w.cells desk) ≡ DeskOf books.server
      desk-tag = ap (λ (k : ℕ). tag_of (w.cells k)) desk-is ∙ is.inv.holds.numbering.tag (desk_cell s books.server) ∙ tag-desk s books.server low

      pub image-tag : tag_of (w.cells image) ≡ ImageOf books.server
      image-tag = ap (λ (k : ℕ). tag_of (w.cells k)) books.image_is ∙ is.inv.holds.numbering.tag (image_cell books.server) ∙ tag-image s books.server low

    -- Beginnings.

    pub insert-due : (at : Coord) (measures : ℤ) → IsFree (actor_of p.actor) → IsCoordOf f.hierarchy at → IsDue f p (begin_places (begin.Insert image at measures)) (begin_asks (begin.Insert image at measures))
    insert-due at measures free coord = record {
      prepared = λ s w is.
          let step = begin.Insert image at measures in
          let tag = is.inv.holds.numbering.tag ledger_cell in
          prepared s w is.inv p.number (begin_places step) (begin_asks step s.hierarchy) is.there
          (hold-two s w is.inv p.number image ledger_cell (ImageOf books.server) TheLedger (image-tag s w is) tag (λ e. cc) (λ e. cc) (λ e. cc))
          (record { free = subst IsFree (sym is.actor) free; server = books.server; role = role-is s w is; image_is = image-tag s w is; ledger_is = tag; coord = subst (λ h. IsCoordOf h at) (sym is.about) coord });
    }

    pub query-due : (filter : List Pick) → IsFree (actor_of p.actor) → IsFilterOf f.hierarchy filter → 0 < length f.hierarchy → IsThere p.seat.view.held desk → Sees p desk (λ cell. is_empty_desk (Some (desk_in cell)) ≡ true)
        → IsDue f p (begin_places (begin.Query desk image filter)) (begin_asks (begin.Query desk image filter))
    query-due filter free valid dims there sees = record {
      prepared = λ s w is.
          let step = begin.Query desk image filter in
          let tag = is.inv.holds.numbering.tag ledger_cell in
          prepared s w is.inv p.number (begin_places step) (begin_asks step s.hierarchy) is.there
          (hold-three s w is.inv p.number desk image ledger_cell (DeskOf books.server) (ImageOf books.server) TheLedger (desk-tag s w is) (image-tag s w is) tag (λ e. cc) (λ e. cc) (λ e. cc) (λ e. cc) (λ e. cc) (λ e. cc))
          (record {
            free = subst IsFree (sym is.actor) free;
            server = books.server;
            role = role-is s w is;
            valid = subst (λ h. IsFilterOf h filter) (sym is.about) valid;
            dims = subst (λ h. 0 < length h) (sym is.about) dims;
            desk_is = desk-tag s w is;
            empty = none-is (desk_in (w.cells desk)).op (seen-there f p s w is desk (λ cell. is_empty_desk (Some (desk_in cell)) ≡ true) there sees);
            image_is = image-tag s w is;
            ledger_is = tag;
          });
    }
      where
        none-is : {A : Type 0} (o : Option A) → is_none o ≡ true → o ≡ None
        none-is None e = refl
        none-is (Some x) e = absurd (cc)

  -- Notes of whoever has nothing to do.

  pub unknown-due : (dim : ℕ) → IsFree (actor_of p.actor) → IsDue f p (note_places (note.Unknown dim)) (note_asks (note.Unknown dim))
  unknown-due dim free = record {
    prepared = λ s w is.
        prepared s w is.inv p.number (note_places (note.Unknown dim)) (note_asks (note.Unknown dim) s.hierarchy) is.there (hold-ledger s w is.inv p.number)
        (record { free = subst IsFree (sym is.actor) free; ledger_is = is.inv.holds.numbering.tag ledger_cell });
  }

  pub refused-due : IsFree (actor_of p.actor) → IsDue f p (note_places note.Refused) (note_asks note.Refused)
  refused-due free = record {
    prepared = λ s w is.
        prepared s w is.inv p.number (note_places note.Refused) (note_asks note.Refused s.hierarchy) is.there (hold-ledger s w is.inv p.number)
        (record { free = subst IsFree (sym is.actor) free; ledger_is = is.inv.holds.numbering.tag ledger_cell });
  }

-- Where the cells stand.

image-low : (x servers image desk cells : ℕ) → x < servers → desk ≡ 3 + servers + x → image ≡ 3 + x → desk < cells → (image < cells) × (desk ≢ image) × (0 < desk) × (0 < image)
image-low x servers image desk cells low is also within = (omega arith, λ e. omega arith, omega arith, omega arith)

pub places-are : {f : Floor} {p : Player} {desk image : ℕ} → AreBooksOf f p desk image → (image < cell_count f.table) × (desk ≢ image) × (0 < desk) × (0 < image)
places-are {f} {p} {desk} {image} books = image-low books.server f.with.servers image desk (cell_count f.table) books.low books.desk_is books.image_is books.within

-- they are the same for the same actor
pub books-still : {f : Floor} {desk image : ℕ} (was now : Player) → actor_of now.actor ≡ actor_of was.actor → AreBooksOf f was desk image → AreBooksOf f now desk image
books-still was now same books = record { server = books.server; role = ap (λ (a : ActorValue). a.role) same ∙ books.role; low = books.low; bytes = books.bytes; desk_is = books.desk_is; image_is = books.image_is; within = books.within }
