-- What an actor does on its turn is told by what one thread sees that holds all cells and actors.
use Rattle.std.proofs.{Common.{◌≡◌, ◌∙◌, ℕ, ◌<◌, Bool, true, false, List, [], length, get_or, Option, Some, None, IfSome, refl, sym, ap, subst, not, arith, ◌+◌}, lemmas.Bool.eqb-true}
use Rattle.std.specs.{Option.option_map_or, Prelude.{◌==◌, ◌&&◌, ◌||◌, if◌then◌else◌, is_none, option_and_then}}
use mathlib.Core.Path.{fun_ext}
use Rattle.core_due.specs.core_tree.proofs.Rows.Carriers.{Carries, carries}
use Rattle.dc_node.specs.Block.{IsBodyOf}
use Rattle.dim_hierarchy.specs.{Dimension.Dimension, Rows.IsRowOf}
use Rattle.row_ledger.specs.declared.settings.Use.{Use}
use Rattle.script_form.specs.declared.script.Command.{Command}
use Rattle.script_form.specs.declared.script.Command.TheVariants as script
use Rattle.core_pages.specs.tree_shape.specs.Laws.{BlockLaw}
use Rattle.core_pages.specs.volap_cell.proofs.{Actors.row-at, Cells.States.same-actor}
use Rattle.core_pages.specs.volap_cell.specs.{Cells.{CellValue, block_in, desk_in}, Errands.{place_of, row_way, way_of}, Growing.table_of, Setting.{Setting, actor_count, desk_cell}, State.Has, Stocking.cells_at, TreeKinds.HasRow, Values.{ActorValue, ErrandValue, OfRow, actor_of}, View.view, World.World, declared.actor.Actor.Actor, declared.cell.Cell.Cell, declared.errand.RowErrand.RowErrand, declared.kind.Kind.Kind}
use Rattle.core_pages.specs.volap_cell.specs.declared.errand.Way.TheVariants as way
use Rattle.core_pages.specs.volap_cell.specs.declared.role.Role.TheVariants as role
use Rattle.core_due.proofs.InStates.{cells-seen}
use Rattle.core_due.specs.{Due.{all_below, desk_of, is_empty_desk}, Look.{cell_at, setting_by, world_by}, Wants.{is_block_free, is_carried_at, is_drained, meets, wanted_of}}
use Rattle.seeded_run.proofs.{Due.DueSteps.no-both, Holding.Others.all-same, Looks.{due-seen, step-seen}, Phases.Progress.session-within, Scripts.session-is, Seen.{core-seen, wanted-told, world-seen}}
use Rattle.seeded_run.specs.{Can.is_turn_of, Core.IsCore, Due.{actor_kind, due_by}, DueSteps.{KnowsBytes, actor_step, step_due_by, step_where}, Look.{IsTold, ahead, alone_by}, Takes.{AsksHere, CanPick, HasDeskFor, carries_at, free_by, is_free_by}, declared.turn.DueStep.DueStep}

-- Who carries a row there.

carries-seen : (o : Option Actor) (v : ActorValue) (y : ℕ) → Has o (λ x. actor_of x ≡ v) → is_carried_at y (way_of v.errand) ≡ carries_at o y
carries-seen None v y has = absurd has
carries-seen (Some a) v y has = ap (λ (x : ActorValue). is_carried_at y (way_of x.errand)) (sym has)

free-seen : (s : Setting) (w : World) (actors : List (Option Actor)) (n y : ℕ) → length actors ≡ actor_count s → ((a : ℕ) → a < length actors → Has (get_or actors a None) (λ x. actor_of x ≡ w.actors a))
    → is_block_free s w n y ≡ free_by actors n y
free-seen s w actors n y count is =
    ap (λ m. all_below m (λ a. a == n || not (is_carried_at y (way_of (w.actors a).errand)))) (sym count)
    ∙ all-same (length actors) (λ a. a == n || not (is_carried_at y (way_of (w.actors a).errand))) (λ a. a == n || not (carries_at (get_or actors a None) y)) (λ a below. ap (λ b. a == n || not b) (carries-seen (get_or actors a None) (w.actors a) y (is a below)))

-- All of it.

-- what no kind depends on is tested apart
test-out : (o : Option Kind) (test : Kind → Bool) (d : Bool) → option_map_or (λ k. test k && d) o false ≡ (option_map_or test o false && d)
test-out None test d = refl
test-out (Some k) test d = refl

and-so : (b d : Bool) → d ≡ true → (b && d) ≡ b
and-so true d is = is
and-so false d is = refl

same-or : (o : Option ℕ) (f g : ℕ → Bool) → ((y : ℕ) → f y ≡ g y) → option_map_or f o true ≡ option_map_or g o true
same-or None f g same = refl
same-or (Some y) f g same = same y

module _ (h : List Dimension) (with : Use) (cells : List (Option Cell)) (actors : List (Option Actor)) (s : Setting) (w : World) (n : ℕ) (core : IsCore h with cells actors s w) (low : n < length actors) (a : Actor) (at : get_or actors n None ≡ Some a) where
  -- what the actor's step wants is free
  abbrev is_free_for : Kind → Bool
  is_free_for k = is_free_by h with cells actors n (actor_of a).errand k

  cell-seen : (y : ℕ) → w.cells y ≡ cell_at cells y
  cell-seen y = ap (λ (f : ℕ → CellValue). f y) (cells-seen cells actors w core.is)

  is-actor : w.actors n ≡ actor_of a
  is-actor = same-actor cells actors w n a core.is at

  wanted-by : (o : Option ErrandValue) (k : Kind) → option_and_then (λ e. wanted_of s w e k) o ≡ option_and_then (λ (e : ErrandValue). wanted_of (setting_by h with) (world_by cells) e k) o
  wanted-by None k = refl
  wanted-by (Some e) k = wanted-told s w e k ∙ core-seen h with cells actors s w core (λ t v. wanted_of t v e k)

  meets-seen : (k : Kind) → meets s w n k ≡ (is_free_for k && is_drained (world_by cells) (actor_of a).job)
  meets-seen k =
      ap (λ (x : ActorValue). option_map_or (is_block_free s w n) (option_and_then (λ e. wanted_of s w e k) x.errand) true && is_drained w x.job) is-actor
      ∙ ap (λ o. option_map_or (is_block_free s w n) o true && is_drained w (actor_of a).job) (wanted-by (actor_of a).errand k)
      ∙ ap (λ b. b && is_drained w (actor_of a).job)
      (same-or (option_and_then (λ (e : ErrandValue). wanted_of (setting_by h with) (world_by cells) e k) (actor_of a).errand) (is_block_free s w n) (free_by actors n)
      (λ y. free-seen s w actors n y core.count core.is.actor))
      ∙ ap (λ (v : World). is_free_for k && is_drained v (actor_of a).job) (world-seen h with cells actors s w core)

  -- What it does.
  module _ (rest : ℕ → List Command) (next : Option Command) (left : ℕ) (told : IsTold s rest n next left) where
    abbrev kind_seen : Option Kind
    kind_seen = actor_kind (setting_by h with) (world_by cells) (alone_by actors n next left) (ahead next) (actor_of a) (actor_of a).errand

    abbrev step_seen : Option DueStep
    step_seen = actor_step (setting_by h with) (world_by cells) (alone_by actors n next left) (ahead next) (actor_of a) (actor_of a).errand

    steps-seen : step_where (option_map_or (meets s w n) (due_by s w rest n) false) (step_due_by s w rest n)
        ≡ step_where (option_map_or is_free_for kind_seen false && is_drained (world_by cells) (actor_of a).job) step_seen
    steps-seen =
        ap (λ (f : Kind → Bool). step_where (option_map_or f (due_by s w rest n) false) (step_due_by s w rest n)) (fun_ext meets-seen)
        ∙ ap (λ o. step_where (option_map_or (λ k. is_free_for k && is_drained (world_by cells) (actor_of a).job) o false) (step_due_by s w rest n)) (due-seen h with cells actors s w n core low rest next left a told at)
        ∙ ap (λ o. step_where (option_map_or (λ k. is_free_for k && is_drained (world_by cells) (actor_of a).job) kind_seen false) o) (step-seen h with cells actors s w n core low rest next left a told at)
        ∙ ap (λ b. step_where b step_seen) (test-out kind_seen is_free_for (is_drained (world_by cells) (actor_of a).job))

    -- while inserts are in the tree that its job waits for, it does nothing
    pub stays-so : is_drained (world_by cells) (actor_of a).job ≡ false → step_where (option_map_or (meets s w n) (due_by s w rest n) false) (step_due_by s w rest n) ≡ None
    stays-so waits = steps-seen ∙ ap (λ b. step_where b step_seen) (no-both (option_map_or is_free_for kind_seen false) (is_drained (world_by cells) (actor_of a).job) waits)

    pub steps-so : is_drained (world_by cells) (actor_of a).job ≡ true → (step : Option DueStep) → step_where (option_map_or is_free_for kind_seen false) step_seen ≡ step
        → step_where (option_map_or (meets s w n) (due_by s w rest n) false) (step_due_by s w rest n) ≡ step
    steps-so drained step is = steps-seen ∙ ap (λ b. step_where b step_seen) (and-so (option_map_or is_free_for kind_seen false) (is_drained (world_by cells) (actor_of a).job) drained) ∙ is

  pub bytes-so : (step : Option DueStep) → IfSome step (KnowsBytes with.servers (actor_of a)) → IfSome step (KnowsBytes with.servers (w.actors n))
  bytes-so step = subst (λ (x : ActorValue). IfSome step (KnowsBytes with.servers x)) (sym is-actor)

  -- Its row, and the block at which it is carried, are of the dimensions.
  module _ (blocks : BlockLaw) (e : ErrandValue) (has_errand : (actor_of a).errand ≡ Some e) where
    module _ (r : RowErrand) (gate block : ℕ) (row : e.task ≡ OfRow r) (carried : r.way ≡ way.Carried gate block) where
      has : HasRow (actor_of a) e r
      has = record { errand = has_errand; row = row }

      here : Carries s (view s w) core.inv.ghost_of gate block (row_way e r)
      here = carries s (view s w) core.inv.ghost_of refl core.inv.holds n gate block (row_way e r)
          (ap (λ (x : ActorValue). way_of x.errand) is-actor ∙ row-at has)
          (ap place_of carried)

      body-is : IsBodyOf h (block_in (cell_at cells block)).body
      body-is = subst (λ (x : CellValue). IsBodyOf h (block_in x).body) (cell-seen block)
          (subst (λ (g : List Dimension). IsBodyOf g (block_in (w.cells block)).body) core.hierarchy
          (blocks (table_of s (view s w).row) (cells_at (view s w).blocks (view s w).trees gate) (core.inv.ghost_of.shape gate) block here.tree core.inv.holds.numbering.setting.hierarchy here.inside here.apart).body)

      row-is : IsRowOf h r.row
      row-is = subst (λ (g : List Dimension). IsRowOf g r.row) core.hierarchy (subst (IsRowOf s.hierarchy) here.known (here.tree.numbered r.row.no here.in_tree.placed).1)

    pub can-pick : CanPick h cells e
    can-pick = record { body = body-is; row = row-is }

  -- The desk of its server is empty while it has no command.
  module _ (server : ℕ) (session : a.role ≡ role.Session server) (none : a.command ≡ None) where
    session-here : (w.actors n).role ≡ role.Session server
    session-here = ap (λ (x : ActorValue). x.role) is-actor ∙ session

    by-op : (o : Option ℕ) → ((view s w).desks server).op ≡ o → is_none ((view s w).desks server).op ≡ true
    by-op None is = ap is_none is
    by-op (Some of) is =
        let low_server = session-within s w core.inv.ghost_of (λ m. []) core.inv.holds n server (omega (arith, core.count)) session-here in
        let who = core.inv.holds.desking.whose server of low_server is in
        let same : who.0 ≡ n = session-is s w core.inv.ghost_of core.inv.holds core.roles who.0 server who.4 ∙ sym (session-is s w core.inv.ghost_of core.inv.holds core.roles n server session-here) in
        let its : (w.actors n).command ≡ Some who.1 = ap (λ m. (w.actors m).command) (sym same) ∙ who.2 in
        let free : (w.actors n).command ≡ None = ap (λ (x : ActorValue). x.command) is-actor ∙ none in
        absurd (cc)

    empty-here : is_empty_desk (desk_of (setting_by [] with) (world_by cells) (role.Session server)) ≡ true
    empty-here =
        subst (λ m. is_none (desk_in (cell_at cells (3 + m + server))).op ≡ true) core.servers
        (subst (λ (c : CellValue). is_none (desk_in c).op ≡ true) (cell-seen (desk_cell s server)) (by-op ((view s w).desks server).op refl))

  pub desk-empty : (next : Option Command) → AsksHere (Some a) next → a.command ≡ None → HasDeskFor (desk_of (setting_by [] with) (world_by cells) a.role) next
  desk-empty None asks none = tt
  desk-empty (Some (script.Insert new)) asks none = tt
  desk-empty (Some (script.Control call)) asks none = tt
  desk-empty (Some (script.Group dim level filter)) asks none = tt
  desk-empty (Some (script.Query q)) asks none = ap (λ r. is_empty_desk (desk_of (setting_by [] with) (world_by cells) r)) asks.1 ∙ empty-here asks.0 asks.1 none

-- In order.

pub in-turn : (in_order : Bool) (first opened : Option ℕ) (n : ℕ) (k : Option Kind) (x : Bool) → (in_order ≡ true → opened ≡ first)
    → (if in_order then is_turn_of opened n k && x else x) ≡ ((not in_order || is_turn_of first n k) && x)
in-turn true first opened n k x same = ap (λ o. is_turn_of o n k && x) (same refl)
in-turn false first opened n k x same = refl

-- where a command isn't over, it is its actor's turn and nobody else's

pub own-turn : (any : Bool) (first : Option ℕ) (n : ℕ) (k : Option Kind) → (any || option_map_or (λ m. m == n) first false) ≡ true → (any || is_turn_of first n k) ≡ true
own-turn true first n k is = refl
own-turn false (Some m) n k is = is
own-turn false None n k is = cc

pub other-turn : (any : Bool) (first : Option ℕ) (m n : ℕ) (k : Option Kind) → first ≡ Some m → (any || option_map_or (λ m. m == n) first false) ≡ false → (any || is_turn_of first n k) ≡ false
other-turn any None m n k some is = cc
other-turn any (Some y) m n k some is = is

-- in order it is the turn of whose command the first is
pub its-turn : (in_order : Bool) (first : Option ℕ) (n : ℕ) → (not in_order || option_map_or (λ m. m == n) first false) ≡ true → in_order ≡ true → first ≡ Some n
its-turn false first n is order = cc
its-turn true None n is order = cc
its-turn true (Some m) n is order = ap Some (eqb-true m n is)

-- and else they do go in order
pub orders : (in_order : Bool) (first : Option ℕ) (n : ℕ) → (not in_order || option_map_or (λ m. m == n) first false) ≡ false → in_order ≡ true
orders true first n is = refl
orders false first n is = cc
