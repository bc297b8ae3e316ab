-- Where the beginning of a command is due, the state has what its step asks; and what the step tells is that beginning.
use Rattle.std.proofs.{Common.{Bor, ℕ, ℤ, ◌≡◌, ◌<◌, true, false, List, ◌∷◌, length, Option, Some, None, get_or, position, refl, sym, ap, ◌∙◌, subst}, lemmas.Option.get_or_from_slice_get}
use Rattle.std.specs.{List.slice_index_or, Prelude.{⊤, is_none}}
use Rattle.core_due.specs.{Ready.IsStateOf, WorksReady.MayMakeNote}
use Rattle.core_due.proofs.{BooksHeld.hold-ledger, Holding.{CanHoldAll, hold-three, hold-two, prepared}, InStates.may-make}
use Rattle.core_pages.specs.core_image.specs.{Asking.CanBeginQuery, NotesDue.{CanBeginInsert, CanNoteAsking, CanNoteCalled, CanNoteRefused, CanNoteUnknown}, Told.{asked_by, begun_by, called_by, refused_by, unknown_by}}
use Rattle.core_due.specs.core_steps.specs.{Begins.{begin_asks, begin_places}, Notes.note_asks, Places.{numbers, one_at, two_at, values_at}, Steps.{IsSame, MayMake}, declared.begins.BeginStep.BeginStep}
use Rattle.core_due.specs.core_steps.specs.declared.begins.BeginStep.TheVariants as begin
use Rattle.core_due.specs.core_steps.specs.declared.notes.NoteStep.TheVariants as note
use Rattle.dim_hierarchy.specs.{Dimension.Dimension, Filter.{IsFilterNamed, IsFilterOf, picks}, Row.{IsCoordNamed, IsCoordOf}, declared.filter.NamePick.NamePick, declared.filter.Pick.Pick, declared.row.Coord.Coord}
use Rattle.row_ledger.specs.declared.settings.Call.TheVariants as call_is
use Rattle.row_ledger.specs.{Classes.class_of, Groups.IsCallOf, declared.event.Event.Event, declared.settings.Call.Call, declared.settings.Use.Use}
use Rattle.script_form.specs.{declared.script.Command.Command, declared.script.NewRow.NewRow, declared.script.Question.Question}
use Rattle.script_form.specs.declared.script.Command.TheVariants as script
use Rattle.script_run.specs.{Places.session_of, Runs.{Begins, first_unknown}}
use Rattle.core_pages.specs.volap_cell.specs.{Cells.{CellValue, DeskOf, ImageOf, TheLedger, TheRegistry, tag_of}, Commands.{MayCall, server_of}, ImageKinds.asks_registry, Numbering.{IsRoleOf, tag_at}, Setting.{Setting, actor_count, desk_cell, image_cell, ledger_cell, registry_cell}, State.IsWorldOf, Steps.history_in, Values.{ActorValue, actor_of}, World.World, declared.role.Role.TheVariants.Session, declared.state.State.State}
use Rattle.core_pages.specs.volap_cell.proofs.{Cells.Numbers.{tag-desk, tag-image}, Cells.States.{is-some, of-it, stands}}
use Rattle.seeded_run.specs.{Commands.{GoesBy, IsAllowedCall, IsNextAt, IsToBegin, may_be_refused}, Core.{HasCore, IsCore}, Due.are_known}
use Rattle.seeded_run.proofs.{Due.DueBegins.{IsAtNext, at-next, may-call, no-server, role_for}, States.{same-core, state-of}, Worlds.{one-setting, only-world}}

module _ (h : List Dimension) (with : Use) (state : State) (core : HasCore h with state.cells.items state.actors.items) (n : ℕ) where
  abbrev s : Setting
  s = core.setting

  abbrev w : World
  w = core.world

  of : IsStateOf h with state s w
  of = state-of h with state s w core.is_core

  next-at : (c : Command) → IsToBegin h with state.cells.items state.actors.items n c → IsAtNext s w n c
  next-at c b = at-next h with state.cells.items state.actors.items s w core.is_core n c b

  there : (c : Command) → IsToBegin h with state.cells.items state.actors.items n c → n < actor_count s
  there c b = subst (λ (k : ℕ). n < k) core.is_core.count b.within

  server-within : n < actor_count s → (server : ℕ) → (w.actors n).role ≡ Session server → server < s.servers
  server-within lt server role =
      let at : slice_index_or s.roles n (Session server) ≡ Session server = get_or_from_slice_get s.roles n (w.actors n).role (Session server) (core.is_core.inv.holds.numbering.role n lt) ∙ role in
      subst (IsRoleOf s) at (core.is_core.inv.holds.numbering.setting.roles n (Session server) lt)

  tag-is : (y : ℕ) → tag_of (w.cells y) ≡ tag_at s y
  tag-is y = core.is_core.inv.holds.numbering.tag y

  -- of cells that the actor may hold
  step-may : n < actor_count s → (row : List (Option ℕ)) (Asks : List Dimension → List (Option CellValue) → ActorValue → Type 0) → CanHoldAll s w n (numbers row) → Asks s.hierarchy (values_at w.cells row) (w.actors n)
      → MayMake h state n row (Asks h) (λ t v m. ⊤)
  step-may lt row Asks held asked = may-make h with state s w of n row Asks ⊤ (prepared s w core.is_core.inv n row (Asks s.hierarchy) lt held asked) tt

  -- At an image or a desk.

  abbrev pub MayBegin : BeginStep → Type 0
  MayBegin step = MayMake h state n (begin_places step) (begin_asks step h) (λ t v m. ⊤)

  pub insert-may : (new : NewRow) → IsToBegin h with state.cells.items state.actors.items n (script.Insert new) → (at : Coord) → IsCoordNamed h new.names at → (measures : ℤ) (image : ℕ) → image ≡ image_cell new.server
      → MayBegin (begin.Insert image at measures)
  insert-may new b at named measures image image_is =
      let x = next-at (script.Insert new) b in
      let lt = there (script.Insert new) b in
      let low : new.server < s.servers = server-within lt new.server x.role in
      let can : CanBeginInsert s.hierarchy at (w.cells (image_cell new.server)) (w.cells ledger_cell) (w.actors n) = record {
        free = x.free;
        server = new.server;
        role = x.role;
        image_is = tag-is (image_cell new.server) ∙ tag-image s new.server low;
        ledger_is = tag-is ledger_cell;
        coord = subst (λ (g : List Dimension). IsCoordOf g at) (sym core.is_core.hierarchy) named.valid;
      } in
      let step = begin.Insert (image_cell new.server) at measures in
      subst (λ (i : ℕ). MayBegin (begin.Insert i at measures)) (sym image_is)
      (step-may lt (begin_places step) (begin_asks step)
      (hold-two s w core.is_core.inv n (image_cell new.server) ledger_cell (ImageOf new.server) TheLedger can.image_is can.ledger_is (λ e. cc) (λ e. cc) (λ e. cc)) can)

  pub query-may : (question : Question) → IsToBegin h with state.cells.items state.actors.items n (script.Query question) → (filter : List Pick) → IsFilterNamed h question.filter filter → position is_none (picks h question.filter) ≡ None
      → (desk image : ℕ) → ((t : Setting) → t.servers ≡ with.servers → desk ≡ desk_cell t question.server) → image ≡ image_cell question.server → MayBegin (begin.Query desk image filter)
  query-may question b filter named none desk image desk_is image_is =
      let y = question.server in
      let x = next-at (script.Query question) b in
      let lt = there (script.Query question) b in
      let low : y < s.servers = server-within lt y x.role in
      let known : are_known s.hierarchy (script.Query question) ≡ true = ap (λ (d : List Dimension). are_known d (script.Query question)) core.is_core.hierarchy ∙ ap is_none none in
      let can : CanBeginQuery s.hierarchy (w.cells (desk_cell s y)) (w.cells (image_cell y)) (w.cells ledger_cell) (w.actors n) filter = record {
        free = x.free;
        server = y;
        role = x.role;
        valid = subst (λ (g : List Dimension). IsFilterOf g filter) (sym core.is_core.hierarchy) named.valid;
        dims = subst (λ (g : List Dimension). 0 < length g) (sym core.is_core.hierarchy) b.allowed.1;
        desk_is = tag-is (desk_cell s y) ∙ tag-desk s y low;
        empty = x.empty question refl known;
        image_is = tag-is (image_cell y) ∙ tag-image s y low;
        ledger_is = tag-is ledger_cell;
      } in
      let step = begin.Query (desk_cell s y) (image_cell y) filter in
      subst (λ (d : ℕ). MayBegin (begin.Query d image filter)) (sym (desk_is s core.is_core.servers))
      (subst (λ (i : ℕ). MayBegin (begin.Query (desk_cell s y) i filter)) (sym image_is)
      (step-may lt (begin_places step) (begin_asks step)
      (hold-three s w core.is_core.inv n (desk_cell s y) (image_cell y) ledger_cell (DeskOf y) (ImageOf y) TheLedger can.desk_is can.image_is can.ledger_is (λ e. cc) (λ e. cc) (λ e. cc) (λ e. cc) (λ e. cc) (λ e. cc)) can))

  -- In the ledger.

  -- a note that asks this of the ledger alone
  pub noting : (c : Command) → IsToBegin h with state.cells.items state.actors.items n c → (Asks : List Dimension → List (Option CellValue) → ActorValue → Type 0) → Asks s.hierarchy (values_at w.cells (one_at ledger_cell)) (w.actors n)
      → MayMake h state n (one_at ledger_cell) (Asks h) (λ t v m. ⊤)
  noting c b Asks asked = step-may (there c b) (one_at ledger_cell) Asks (hold-ledger s w core.is_core.inv n) asked

  -- or of the registry too
  pub noting-both : (c : Command) → IsToBegin h with state.cells.items state.actors.items n c → (Asks : List Dimension → List (Option CellValue) → ActorValue → Type 0) → Asks s.hierarchy (values_at w.cells (two_at registry_cell ledger_cell)) (w.actors n)
      → MayMake h state n (two_at registry_cell ledger_cell) (Asks h) (λ t v m. ⊤)
  noting-both c b Asks asked =
      step-may (there c b) (two_at registry_cell ledger_cell) Asks
      (hold-two s w core.is_core.inv n registry_cell ledger_cell TheRegistry TheLedger (tag-is registry_cell) (tag-is ledger_cell) (λ e. cc) (λ e. cc) (λ e. cc)) asked

  pub unknown-asked : (c : Command) → IsToBegin h with state.cells.items state.actors.items n c → CanNoteUnknown (w.cells ledger_cell) (w.actors n)
  unknown-asked c b = record { free = (next-at c b).free; ledger_is = tag-is ledger_cell }

  pub refused-asked : (c : Command) → IsToBegin h with state.cells.items state.actors.items n c → CanNoteRefused (w.cells ledger_cell) (w.actors n)
  refused-asked c b = record { free = (next-at c b).free; ledger_is = tag-is ledger_cell }

  pub called-asked : (called : Call) → IsToBegin h with state.cells.items state.actors.items n (script.Control called) → asks_registry (class_of called) ≡ false → CanNoteCalled s.hierarchy called (w.cells ledger_cell) (w.actors n)
  called-asked called b alone =
      let x = next-at (script.Control called) b in
      let about : s.servers ≡ (w.actors n).setting.servers = ap (λ (z : Setting). z.servers) (sym (core.is_core.inv.holds.numbering.about n)) in
      record {
        free = x.free;
        allowed = subst (λ r. MayCall r called) (sym x.role) (may-call called);
        alone = alone;
        server = λ y is. subst (λ (m : ℕ). y < m) (sym core.is_core.servers ∙ about) (subst (IsAllowedCall with) is b.allowed.0);
        valid = subst (λ (g : List Dimension). IsCallOf g called) (sym core.is_core.hierarchy) b.allowed.1;
        ledger_is = tag-is ledger_cell;
      }

  -- a call, wherever it is kept
  abbrev kept : Call → Bor Call
  kept call = record { ref_ptr = (0, 0); now = call }

  -- a group is called with what its names stand for
  pub group-may : (dim level : ℕ) (names : List NamePick) → IsToBegin h with state.cells.items state.actors.items n (script.Group dim level names) → (filter : List Pick) → IsFilterNamed h names filter
      → MayMakeNote h state n (note.Called (kept (call_is.Group dim level filter)))
  group-may dim level names b filter named =
      let x = next-at (script.Group dim level names) b in
      let can : CanNoteCalled s.hierarchy (call_is.Group dim level filter) (w.cells ledger_cell) (w.actors n) = record {
        free = x.free;
        allowed = subst (λ r. MayCall r (call_is.Group dim level filter)) (sym x.role) tt;
        alone = refl;
        server = λ y is. cc;
        valid = subst (λ (g : List Dimension). IsCallOf g (call_is.Group dim level filter)) (sym core.is_core.hierarchy) (record { filter = named.valid; dim = b.allowed.0; level = b.allowed.1 });
        ledger_is = tag-is ledger_cell;
      } in
      noting (script.Group dim level names) b (note_asks (note.Called (kept (call_is.Group dim level filter)))) can

  pub asking-asked : (called : Call) → IsToBegin h with state.cells.items state.actors.items n (script.Control called) → asks_registry (class_of called) ≡ true → CanNoteAsking called with.workers (w.cells registry_cell) (w.cells ledger_cell) (w.actors n)
  asking-asked called b asks =
      let x = next-at (script.Control called) b in
      record {
        free = x.free;
        spares = x.purse;
        allowed = subst (λ r. MayCall r called) (sym x.role) (may-call called);
        asks = asks;
        workers_are = sym core.is_core.workers ∙ ap (λ (z : Setting). z.workers) (sym (core.is_core.inv.holds.numbering.about n));
        registry_is = tag-is registry_cell;
        ledger_is = tag-is ledger_cell;
      }

  -- What they tell.

  -- the history has this event of the actor more
  abbrev Adds : (ActorValue → ℕ → Event) → State → Type 0
  Adds event_of now =
      (v u : World) → IsWorldOf state.cells.items state.actors.items v → IsWorldOf now.cells.items now.actors.items u → history_in u ≡ event_of (v.actors n) (length (history_in v)) ∷ history_in v

  -- an event of the actor, with its number and its role, is the command's beginning
  module _ (c : Command) (b : IsToBegin h with state.cells.items state.actors.items n c) (now : State) where
    begun : (event_of : ActorValue → ℕ → Event) → Adds event_of now
        → ((past : List Event) (a : ActorValue) (place : ℕ) → a.number ≡ session_of with c → a.role ≡ role_for c → Begins with h past c (event_of a place))
        → GoesBy with h c state.cells.items state.actors.items now.cells.items now.actors.items
    begun event_of adds begins v u i j =
        let k = stands (get_or state.actors.items n None) (λ x. actor_of x ≡ w.actors n) (core.is_core.is.actor n b.within) in
        let same : v.actors n ≡ w.actors n = sym (of-it (get_or state.actors.items n None) (λ x. actor_of x ≡ v.actors n) k.0 (i.actor n b.within) k.1) ∙ k.2 in
        record {
          event = event_of (v.actors n) (length (history_in v));
          begins = begins (history_in v) (v.actors n) (length (history_in v)) (ap (λ (a : ActorValue). a.number) same ∙ core.is_core.inv.holds.numbering.number n ∙ sym b.own) (ap (λ (a : ActorValue). a.role) same ∙ (next-at c b).role);
          grows = adds v u i j;
        }

    pub begun-insert : (new : NewRow) → c ≡ script.Insert new → (at : Coord) (measures : ℤ) → IsCoordNamed h new.names at → measures ≡ new.measures → Adds (begun_by at measures) now
        → GoesBy with h c state.cells.items state.actors.items now.cells.items now.actors.items
    begun-insert new is at measures named same adds = begun (begun_by at measures) adds (λ past a place number role.
        subst (λ (x : Command). Begins with h past x (begun_by at measures a place)) (sym is) (number ∙ ap (session_of with) is, ap server_of (role ∙ ap role_for is), same, named))

    pub begun-query : (question : Question) → c ≡ script.Query question → (filter : List Pick) → IsFilterNamed h question.filter filter → Adds (asked_by filter) now
        → GoesBy with h c state.cells.items state.actors.items now.cells.items now.actors.items
    begun-query question is filter named adds = begun (asked_by filter) adds (λ past a place number role.
        subst (λ (x : Command). Begins with h past x (asked_by filter a place)) (sym is) (number ∙ ap (session_of with) is, ap server_of (role ∙ ap role_for is), named))

    pub begun-unknown : (dim : ℕ) → first_unknown h c ≡ Some dim → Adds (unknown_by dim) now → GoesBy with h c state.cells.items state.actors.items now.cells.items now.actors.items
    begun-unknown dim first adds = begun (unknown_by dim) adds (λ past a place number role. by c first past a place number role)
      where
        by : (x : Command) → first_unknown h x ≡ Some dim → (past : List Event) (a : ActorValue) (place : ℕ) → a.number ≡ session_of with x → a.role ≡ role_for x → Begins with h past x (unknown_by dim a place)
        by (script.Insert new) first past a place number role = (number, ap server_of role, first)
        by (script.Query question) first past a place number role = (number, ap server_of role, first)
        by (script.Control called) first past a place number role = (number, ap server_of role ∙ no-server (class_of called), first)
        by (script.Group dim level filter) first past a place number role = (number, ap server_of role, first)

    pub begun-call : (called : Call) → c ≡ script.Control called → Adds (called_by called) now → GoesBy with h c state.cells.items state.actors.items now.cells.items now.actors.items
    begun-call called is adds = begun (called_by called) adds (λ past a place number role.
        subst (λ (x : Command). Begins with h past x (called_by called a place)) (sym is) (number ∙ ap (session_of with) is, refl))

    pub begun-group : (dim level : ℕ) (names : List NamePick) → c ≡ script.Group dim level names → (filter : List Pick) → IsFilterNamed h names filter → Adds (called_by (call_is.Group dim level filter)) now
        → GoesBy with h c state.cells.items state.actors.items now.cells.items now.actors.items
    begun-group dim level names is filter named adds = begun (called_by (call_is.Group dim level filter)) adds (λ past a place number role.
        subst (λ (x : Command). Begins with h past x (called_by (call_is.Group dim level filter) a place)) (sym is) (number ∙ ap (session_of with) is, (filter, named, refl)))

    pub begun-refused : may_be_refused c ≡ true → Adds refused_by now → GoesBy with h c state.cells.items state.actors.items now.cells.items now.actors.items
    begun-refused may adds = begun refused_by adds (λ past a place number role. by c may past a place number)
      where
        by : (x : Command) → may_be_refused x ≡ true → (past : List Event) (a : ActorValue) (place : ℕ) → a.number ≡ session_of with x → Begins with h past x (refused_by a place)
        by (script.Insert new) may past a place number = number
        by (script.Query question) may past a place number = number
        by (script.Control called) may past a place number = (number, may)
        by (script.Group dim level filter) may past a place number = number

-- Where the state stayed as it was.
module _ (h : List Dimension) (with : Use) (state now : State) (core : HasCore h with state.cells.items state.actors.items) (same : IsSame state now) (n : ℕ) (c : Command) where
  still : IsCore h with now.cells.items now.actors.items core.setting core.world
  still = same-core h with state now core.setting core.world same core.is_core

  pub still-core : HasCore h with now.cells.items now.actors.items
  still-core = record { setting = core.setting; world = core.world; is_core = still }

  -- the command is to begin still
  pub to-begin-still : IsToBegin h with state.cells.items state.actors.items n c → IsToBegin h with now.cells.items now.actors.items n c
  to-begin-still b = record {
    within = subst (λ (k : ℕ). n < k) (sym same.actors_kept) b.within;
    kind_is = b.kind_is;
    begins = b.begins;
    next = λ s w is.
        let setting : core.setting ≡ s = one-setting h with now.cells.items now.actors.items core.setting core.world still ∙ sym (one-setting h with now.cells.items now.actors.items s w is) in
        let world : core.world ≡ w = only-world h with now.cells.items now.actors.items core.setting core.world still ∙ sym (only-world h with now.cells.items now.actors.items s w is) in
        subst (λ (x : Setting). IsNextAt x w n c b.kind_is) setting (subst (λ (x : World). IsNextAt core.setting x n c b.kind_is) world (b.next core.setting core.world core.is_core));
    own = b.own;
    free =
        let k = stands (get_or now.actors.items n None) (λ x. actor_of x ≡ core.world.actors n) (still.is.actor n (subst (λ (k : ℕ). n < k) (sym same.actors_kept) b.within)) in
        is-some (get_or now.actors.items n None) (λ a. (actor_of a).command ≡ None) k.0 k.1
        (ap (λ (a : ActorValue). a.command) k.2 ∙ (at-next h with state.cells.items state.actors.items core.setting core.world core.is_core n c b).free.command);
    names = b.names;
    allowed = b.allowed;
  }
