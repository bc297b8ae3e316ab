-- Pages that are due at the seat that has all actors can be made: a shard that stands has its gate where the table of its worker leads.
use Rattle.std.proofs.Common.{◌≡◌, ◌≢◌, ◌∙◌, ℕ, ◌+◌, ◌<◌, ◌^◌, true, false, List, [], ◌∷◌, length, Option, Some, None, Result, Ok, Err, refl, sym, ap, subst, arith}
use Rattle.std.specs.{List.list_any, Prelude.{IfOk, IsSome}}
use Rattle.call_steps.specs.core_due.specs.Look.{setting_by}
use Rattle.core_pages.specs.core_image.proofs.Images.Hosts.{host-on, stands-live}
use Rattle.core_pages.specs.{Looks.{HasCells, IsSeenOf, StateValue, cells_in}, Seen.{CanSeeIn, IsOfGate}}
use Rattle.group_answer.specs.Seen.{HasCountIn}
use Rattle.list_words.proofs.Elements.{Some-same}
use Rattle.mapping_table.specs.declared.place.Where.TheVariants as where_is
use Rattle.row_ledger.proofs.Positions.{before-here}
use Rattle.row_ledger.specs.{Classes.class_of, Past.{before, call_at, call_in}, Shards.{Place, frontier, is_live, is_of, places_after}, Workers.is_on, declared.class.Subject.Subject, declared.event.Event.Event, declared.event.Event.TheVariants.Called, declared.page.TreePage.TreePage, declared.settings.Call.Call, declared.settings.Use.Use}
use Rattle.row_ledger.specs.declared.class.Class.TheVariants as class
use Rattle.row_ledger.specs.declared.class.Subject.TheVariants as subject
use Rattle.row_ledger.specs.declared.settings.Call.TheVariants.{Audit, Group, Shards, Tree}
use Rattle.call_steps.specs.seat_steps.specs.declared.floor.{Floor.Floor, Player.Player}
use Rattle.server_image.specs.Registry.{host_of}
use Rattle.core_pages.specs.shard_store.specs.declared.gate.Phase.TheVariants.{Gone}
use Rattle.turn_table.specs.Seat.{cell_count}
use Rattle.core_pages.specs.volap_cell.proofs.OneEvent.Noted.{new-told}
use Rattle.core_pages.specs.volap_cell.specs.{Cells.{CellValue, gate_shard, ledger_in, phase_of, registry_in, where_in}, ImageKinds.doing, Setting.{Setting, ledger_cell, map_cell, registry_cell}, Steps.{Inv, history_in}, Values.{ActorValue, actor_of}, View.view}
use Rattle.core_pages.specs.volap_cell.specs.Setting as setting
use Rattle.core_pages.specs.volap_cell.specs.declared.command.Work.TheVariants as work_is
use Rattle.whole_steps.proofs.{Alone.{everyone-of, whole-history}, Calling.began-with, Known.{about-in, has-cells, me-in, quiet-in, seen-self, valid-in}}
use Rattle.whole_steps.specs.{Commands.IsAtPage, Pages.{CanTell, StandsAt, TellsTree}, Seats.{KnowsAll, state_at}, Sole.IsSole}

pub if-ok-on : {T E : Type 0} {P Q : T → Type 0} (r : Result T E) → IfOk r P → ((x : T) → P x → Q x) → IfOk r Q
if-ok-on (Ok x) p f = f x p
if-ok-on (Err e) p f = tt

-- a shard stands at one gate
pub gate-same : {with : Use} {state : StateValue} {shard a b : ℕ} → StandsAt with state shard a → StandsAt with state shard b → a ≡ b
gate-same {with} {state} {shard} {a} {b} x y =
    let host : y.host ≡ x.host = Some-same x.host y.host (sym x.host_is ∙ y.host_is) in
    let at = sym x.leads ∙ ap (λ (h : ℕ). where_in (cells_in state (map_cell (setting_by [] with) h)) shard) (sym host) ∙ y.leads in
    let gate : where_is.Gate b ≡ where_is.Gate a = Some-same (where_is.Gate a) (where_is.Gate b) at in cc

-- Right behind a call that begins, the shards stand that stood before it.

called-keeps : (e : Event) (c : Call) (places : List Place) → call_in e ≡ Some c → places_after places e ≡ places
called-keeps (Called session d) c places is = refl
called-keeps _ c places is = absurd (let never : ◌≡◌ {A = Option Call} None (Some c) = is in cc)

live-now : (workers : ℕ) (h : List Event) (of shard : ℕ) (c : Call) → length h ≡ of + 1 → call_at h of ≡ Some c → is_live workers h shard ≡ is_live workers (before h of) shard
live-now workers [] of shard c long is = absurd (omega (arith, long))
live-now workers (e ∷ past) of shard c long is =
    let at : length past ≡ of = omega (arith, long) in
    let told : call_in e ≡ Some c = sym (new-told call_in e past) ∙ ap (call_at (e ∷ past)) at ∙ is in
    ap (list_any (is_of shard)) (called-keeps e c (frontier workers past) told) ∙ ap (λ (xs : List Event). is_live workers xs shard) (sym (before-here e past) ∙ ap (before (e ∷ past)) at)

-- What a page asks.

module _ (f : Floor) (p : Player) (sole : IsSole f p) (knows : KnowsAll f.table p.seat) where
  inv : Inv sole.holds.possible.valid.setting sole.holds.possible.valid.world
  inv = sole.holds.possible.valid.inv

  seen-is : IsSeenOf (state_at p.seat) sole.holds.possible.valid.world
  seen-is = seen-self f p sole knows

  same-setting : sole.holds.possible.valid.setting ≡ (actor_of p.actor).setting
  same-setting = about-in f p sole sole.holds.possible.valid.setting sole.holds.possible.valid.world seen-is inv

  many-is : cell_count f.table ≡ setting.cell_count sole.holds.possible.valid.setting
  many-is = sym (sym sole.holds.possible.valid.wide ∙ sym sole.holds.possible.cell_count ∙ sole.holds.wide)

  count-in : HasCountIn (cell_count f.table) (state_at p.seat)
  count-in t v looks inv_v = ap setting.cell_count (about-in f p sole t v looks inv_v ∙ sym same-setting) ∙ sym many-is

  few : cell_count f.table < 2 ^ 32
  few = (let low = inv.holds.numbering.setting.few in omega (arith, low, many-is))

  there : HasCells (cell_count f.table) (state_at p.seat)
  there = has-cells f.table p.seat (everyone-of f p sole) knows

  module _ (shard : ℕ) (at : IsAtPage f.hierarchy (Tree shard) p) where
    -- what the command does
    works : (actor_of p.actor).command ≡ doing (length at.older) (work_is.Page (subject.Tree shard) true false)
    works = (let same : at.subject ≡ subject.Tree shard = (let asks = at.asks in cc) in at.command ∙ ap (λ (x : Subject). doing (length at.older) (work_is.Page x true false)) same)

    command : (sole.holds.possible.valid.world).actors p.number ≡ actor_of p.actor
    command = me-in f p sole sole.holds.possible.valid.world seen-is

    live : is_live (sole.holds.possible.valid.setting).workers (history_in sole.holds.possible.valid.world) shard ≡ true
    live =
        let told = inv.holds.telling.progress p.number (record { of = length at.older; work = work_is.Page (subject.Tree shard) true false }) (ap (λ (a : ActorValue). a.command) command ∙ works) in
        let long : length (history_in sole.holds.possible.valid.world) ≡ length at.older + 1 = ap (λ (l : List Event). length l) (whole-history f p sole) ∙ began-with at in
        live-now (sole.holds.possible.valid.setting).workers (history_in sole.holds.possible.valid.world) (length at.older) shard told.0.0 long told.0.1 ∙ told.2

    host : (x : ℕ) × (host_of shard (view sole.holds.possible.valid.setting sole.holds.possible.valid.world).registry ≡ Some x) × (is_on (sole.holds.possible.valid.setting).workers (history_in sole.holds.possible.valid.world) shard x ≡ true)
    host = host-on (sole.holds.possible.valid.setting).workers (history_in sole.holds.possible.valid.world) (view sole.holds.possible.valid.setting sole.holds.possible.valid.world).registry inv.holds.lineage.front shard
        (stands-live (sole.holds.possible.valid.setting).workers (history_in sole.holds.possible.valid.world) (view sole.holds.possible.valid.setting sole.holds.possible.valid.world).registry inv.holds.lineage.front shard ∙ live)

    gate-of : ((view sole.holds.possible.valid.setting sole.holds.possible.valid.world).maps host.0 shard ≡ Some (where_is.Gate (inv.ghost_of.gate shard)))
        × ((view sole.holds.possible.valid.setting sole.holds.possible.valid.world).gates (inv.ghost_of.gate shard) ≡ Some shard) × ((view sole.holds.possible.valid.setting sole.holds.possible.valid.world).phases (inv.ghost_of.gate shard) ≢ Some Gone)
    gate-of = inv.holds.lineage.gate_of shard host.0 host.2

    servers-same : (sole.holds.possible.valid.setting).servers ≡ f.with.servers
    servers-same = ap (λ (x : Setting). x.servers) same-setting ∙ sole.servers

    stands-at : StandsAt f.with (state_at p.seat) shard (inv.ghost_of.gate shard)
    stands-at = record {
      host = host.0;
      host_is = ap (λ (c : ℕ → CellValue). host_of shard (registry_in (c registry_cell))) seen-is.cells ∙ host.1;
      leads = ap (λ (c : ℕ → CellValue). where_in (c (map_cell (setting_by [] f.with) host.0)) shard) seen-is.cells
          ∙ ap (λ (k : ℕ). where_in ((sole.holds.possible.valid.world).cells (3 + k + k + host.0)) shard) (sym servers-same) ∙ gate-of.0;
    }

    can-see : CanSeeIn (state_at p.seat) (cell_count f.table) (inv.ghost_of.gate shard)
    can-see t v looks inv_v =
        let same : (sole.holds.possible.valid.world).cells ≡ v.cells = sym seen-is.cells ∙ looks.cells in (
          count-in t v looks inv_v,
          record {
            gate = subst (λ (c : ℕ → CellValue). IsSome (gate_shard (c (inv.ghost_of.gate shard)))) same (subst IsSome (sym gate-of.1) refl);
            stands = subst (λ (c : ℕ → CellValue). phase_of (c (inv.ghost_of.gate shard)) ≢ Some Gone) same gate-of.2;
            quiet = (quiet-in f p sole at.no_part t v looks inv_v).quiet;
          },
        )

    of-shard : (shown : TreePage) → IsOfGate (state_at p.seat) (inv.ghost_of.gate shard) shown → shown.shard ≡ shard
    of-shard shown of_gate =
        let found : gate_shard ((sole.holds.possible.valid.world).cells (inv.ghost_of.gate shard)) ≡ Some shown.shard = subst (λ (c : ℕ → CellValue). gate_shard (c (inv.ghost_of.gate shard)) ≡ Some shown.shard) seen-is.cells of_gate in
        Some-same shard shown.shard (sym gate-of.1 ∙ found)

    tells-tree : TellsTree f.hierarchy f.with (cell_count f.table) (state_at p.seat) shard
    tells-tree = record {
      valid = valid-in f p sole knows;
      there = there;
      few = few;
      gate = inv.ghost_of.gate shard;
      stands = stands-at;
      can_see = can-see;
      of_shard = of-shard;
    }

  -- the page that is due can be made
  pub can-tell : (call : Call) → IsAtPage f.hierarchy call p → CanTell f.hierarchy f.with (cell_count f.table) (state_at p.seat) call
  can-tell (Tree shard) at = tells-tree shard at
  can-tell Shards at = record { valid = valid-in f p sole knows; quiet = quiet-in f p sole at.no_part }
  can-tell Audit at = record { valid = valid-in f p sole knows; quiet = quiet-in f p sole at.no_part }
  can-tell (Group dim level filter) at = record {
    valid = valid-in f p sole knows;
    quiet = quiet-in f p sole at.no_part;
    there = there;
    count = count-in;
    few = few;
    asks = at.valid;
    session = p.number;
    past = at.older;
    called = ap (λ (c : ℕ → CellValue). (ledger_in (c ledger_cell)).history) seen-is.cells ∙ whole-history f p sole ∙ at.newest;
  }
  can-tell call at = absurd (page-only call at.subject at.asks)
    where
      page-only : (c : Call) (about : Subject) → class_of c ≡ class.Page about → ⊥
      page-only c about e = cc
