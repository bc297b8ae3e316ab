-- The view after a commit: it is the view before, with those fields new that the commit touches. One lemma for all kinds, any
-- number of cells, and any fields.
use Rattle.std.proofs.Common.{◌≡◌, ℕ, Bool, true, false, cond, refl, sym, ap, ◌∙◌, List, [], None}
use mathlib.Core.Path.{fun_ext}
use Rattle.cell_stock.specs.Stock.{StockValue}
use Rattle.row_ledger.specs.LedgerValue.{LedgerValue}
use Rattle.server_image.specs.Registry.{RegistryValue}
use Rattle.volap_cell.specs.{Cells.ledger_in, Setting.{Setting, ledger_cell, stock_cell, registry_cell, image_cell, desk_cell, map_cell}, Values.ActorValue, View.{view, row_at}, World.{World, Change, Agrees, put, after}}
use Rattle.volap_cell.proofs.{Views.Frames.{AreAt, Same, kept-one, unmoved-one}, Views.Seen.{CellSeen, ActorSeen, Touched, bare, beside, actor_beside, renewed}}

-- a field by number that isn't touched is the one before
untouched : {A : Type 0} (t : Bool) (none : A) (now was : ℕ → A) → ((i : ℕ) → cond t none (now i) ≡ cond t none (was i)) → now ≡ cond t now was
untouched true none now was e = refl
untouched false none now was e = fun_ext e

-- and so is what is read of one thing
untouched-of : {A B : Type 0} (f : A → B) (t : Bool) (none now was : A) → cond t none now ≡ cond t none was → f now ≡ cond t (f now) (f was)
untouched-of f true none now was e = refl
untouched-of f false none now was e = ap f e

pub view-after : (t : Touched) (s : Setting) (w : World) (cs : List Change) (n : ℕ) (now : ActorValue) → AreAt w.cells cs → Same (beside t) cs → actor_beside t now ≡ actor_beside t (w.actors n)
    → view s (after w cs n now) ≡ renewed t (view s (after w cs n now)) (view s w)
view-after t s w cs n now at same actor =
    let cell = kept-one (beside t) cs w.cells at same in
    let who = unmoved-one (actor_beside t) w.actors n now actor in
    let v = view s (after w cs n now) in
    let u = view s w in
    let tags : v.tags ≡ u.tags = fun_ext (λ y. ap (λ (c : CellSeen). c.tag) (cell y)) in
    let blocks = untouched t.blocks bare.block v.blocks u.blocks (λ y. ap (λ (c : CellSeen). c.block) (cell y)) in
    let made = untouched t.blocks bare.made v.made u.made (λ y. ap (λ (c : CellSeen). c.made) (cell y)) in
    let gates = untouched t.gates bare.gate.shard v.gates u.gates (λ y. ap (λ (c : CellSeen). c.gate.shard) (cell y)) in
    let phases = untouched t.phases bare.gate.phase v.phases u.phases (λ y. ap (λ (c : CellSeen). c.gate.phase) (cell y)) in
    let trees = untouched t.trees bare.gate.tree v.trees u.trees (λ y. ap (λ (c : CellSeen). c.gate.tree) (cell y)) in
    let active = untouched t.active bare.gate.active v.active u.active (λ y. ap (λ (c : CellSeen). c.gate.active) (cell y)) in
    let pins = untouched t.pins bare.gate.pins v.pins u.pins (λ y. ap (λ (c : CellSeen). c.gate.pins) (cell y)) in
    let queues = untouched t.queues bare.gate.queue v.queues u.queues (λ y. ap (λ (c : CellSeen). c.gate.queue) (cell y)) in
    let gone = untouched t.gone bare.gate.gone v.gone u.gone (λ y. ap (λ (c : CellSeen). c.gate.gone) (cell y)) in
    let led = ap (λ (c : CellSeen). c.ledger) (cell ledger_cell) in
    let history = untouched-of (λ (l : LedgerValue). l.history) t.ledger bare.ledger (ledger_in (put cs w.cells ledger_cell)) (ledger_in (w.cells ledger_cell)) led in
    let promised = untouched-of (λ (l : LedgerValue). l.promised) t.ledger bare.ledger (ledger_in (put cs w.cells ledger_cell)) (ledger_in (w.cells ledger_cell)) led in
    let row = untouched-of (λ (l : LedgerValue). row_at l.history) t.ledger bare.ledger (ledger_in (put cs w.cells ledger_cell)) (ledger_in (w.cells ledger_cell)) led in
    let stock = untouched-of (λ (x : StockValue). x) t.stock bare.stock v.stock u.stock (ap (λ (c : CellSeen). c.stock) (cell stock_cell)) in
    let registry = untouched-of (λ (x : RegistryValue). x) t.registry bare.registry v.registry u.registry (ap (λ (c : CellSeen). c.registry) (cell registry_cell)) in
    let images = untouched t.images bare.image v.images u.images (λ x. ap (λ (c : CellSeen). c.image) (cell (image_cell x))) in
    let desks = untouched t.desks bare.desk v.desks u.desks (λ x. ap (λ (c : CellSeen). c.desk) (cell (desk_cell s x))) in
    let maps = untouched t.maps bare.table v.maps u.maps (λ x. ap (λ (c : CellSeen). c.table) (cell (map_cell s x))) in
    let numbers : v.numbers ≡ u.numbers = fun_ext (λ a. ap (λ (x : ActorSeen). x.number) (who a)) in
    let roles : v.roles ≡ u.roles = fun_ext (λ a. ap (λ (x : ActorSeen). x.role) (who a)) in
    let settings : v.settings ≡ u.settings = fun_ext (λ a. ap (λ (x : ActorSeen). x.setting) (who a)) in
    let seen = untouched t.seen 0 v.seen u.seen (λ a. ap (λ (x : ActorSeen). x.seen) (who a)) in
    let counted_in = untouched t.counted_in false v.counted_in u.counted_in (λ a. ap (λ (x : ActorSeen). x.counted) (who a)) in
    let purses = untouched t.purses [] v.purses u.purses (λ a. ap (λ (x : ActorSeen). x.purse) (who a)) in
    let boxes = untouched t.boxes 0 v.boxes u.boxes (λ a. ap (λ (x : ActorSeen). x.boxes) (who a)) in
    let commands = untouched t.commands None v.commands u.commands (λ a. ap (λ (x : ActorSeen). x.command) (who a)) in
    let taken = untouched t.taken None v.taken u.taken (λ a. ap (λ (x : ActorSeen). x.taken) (who a)) in
    let ways = untouched t.ways None v.ways u.ways (λ a. ap (λ (x : ActorSeen). x.way) (who a)) in
    let reads = untouched t.reads None v.reads u.reads (λ a. ap (λ (x : ActorSeen). x.reading) (who a)) in
    let jobs = untouched t.jobs None v.jobs u.jobs (λ a. ap (λ (x : ActorSeen). x.job) (who a)) in
    let gone_gates = untouched t.gone_gates [] v.gone_gates u.gone_gates (λ a. ap (λ (x : ActorSeen). x.gone_gates) (who a)) in
    λ k. record {
      tags = tags k;
      blocks = blocks k;
      made = made k;
      gates = gates k;
      phases = phases k;
      trees = trees k;
      active = active k;
      pins = pins k;
      queues = queues k;
      gone = gone k;
      history = history k;
      promised = promised k;
      row = row k;
      stock = stock k;
      registry = registry k;
      images = images k;
      desks = desks k;
      maps = maps k;
      numbers = numbers k;
      roles = roles k;
      settings = settings k;
      seen = seen k;
      counted_in = counted_in k;
      purses = purses k;
      boxes = boxes k;
      commands = commands k;
      taken = taken k;
      ways = ways k;
      reads = reads k;
      jobs = jobs k;
      gone_gates = gone_gates k;
    }

-- the same of a step
pub view-step : (t : Touched) (s : Setting) (w : World) (cs : List Change) (n : ℕ) (a b : ActorValue) → Agrees w cs n a → Same (beside t) cs → actor_beside t b ≡ actor_beside t a
    → view s (after w cs n b) ≡ renewed t (view s (after w cs n b)) (view s w)
view-step t s w cs n a b agrees same actor = view-after t s w cs n b agrees.cells same (actor ∙ sym (ap (actor_beside t) agrees.actor_is))
