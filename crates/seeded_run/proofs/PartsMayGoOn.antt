-- What is due for a part may be made in a state that one thread holds, and where it finds no memory, the part may end; so may spares be
-- given back, and a hand may take a part that waits for its worker.
use Rattle.std.proofs.{Common.{ℕ, zero, suc, ◌≡◌, ◌<◌, ◌||◌, ◌∙◌, Bool, true, false, List, [], length, Option, Some, None, get_or, refl, sym, ap, subst, arith, if◌then◌else◌}, lemmas.List.Folds.Any-from_list_any}
use Rattle.std.specs.{List.list_any, Prelude.{IsSome, position}}
use Rattle.core_due.specs.{Awaited.IsAwaited, Due.{any_below, hand_kind}, Laws.IsDueAt, Look.{cell_at, cells_only, setting_by, world_by}, Parts.{due_kind, ending, part_due}, Ready.{CanDescend, HasSpares, IsDescending, IsEntering, IsFree, IsPartPrepared, IsPartReady, IsStateOf, IsStepAsked, MayMakePart, head_of}, Rows.{descent_of, entrance_of}, Wants.meets, declared.parts.PartDue.PartDue}
use Rattle.core_due.specs.declared.parts.PartDue.TheVariants.{Descends, Enters, Part, Tree}
use Rattle.core_due.proofs.{AtParts.part-there, BooksHeld.take-prepared, InStates.{cells-seen, part-may, still-state, tree-may}, PartsReady.{can-descend, down-prepared, down-ready, ends-ready, in-prepared, in-ready, is-free, is-prepared, is-ready}, StepsPrepared.spares-prepared}
use Rattle.core_due.specs.core_shard.proofs.FinishReady.{first-place}
use Rattle.core_due.specs.core_steps.specs.{Steps.IsSound, declared.rows.RowStep.RowStep}
use Rattle.core_due.specs.core_steps.specs.declared.parts.PartStep.TheVariants.{TakePart}
use Rattle.core_due.specs.core_steps.specs.declared.trees.TreeStep.TheVariants.{GiveBack}
use Rattle.dim_hierarchy.specs.Dimension.{Dimension}
use Rattle.list_words.proofs.Elements.{Some-same}
use Rattle.query_router.specs.Desk.{waits_for}
use Rattle.row_ledger.specs.declared.settings.Use.{Use}
use Rattle.core_pages.specs.volap_cell.proofs.{Cells.Numbers.tag-desk, Cells.States.{is-some, stands}}
use Rattle.core_pages.specs.volap_cell.specs.{Cells.{CellValue, desk_in}, Setting.{Setting, actor_count, desk_cell}, ShardKinds.{IsDeskFor, may_take, pin_of}, Values.{ActorValue, ErrandValue, JobValue, actor_of}, World.World, declared.kind.Kind.Kind, declared.role.Role.Role, declared.state.State.State}
use Rattle.core_pages.specs.volap_cell.specs.declared.kind.Kind.TheVariants as kind
use Rattle.core_pages.specs.volap_cell.specs.declared.role.Role.TheVariants.{Admin, Hand}
use Rattle.seeded_run.specs.Drives.{EndsPart, HasActor, IsFound, MayEndInstead, MayGoOn, MayTake}

-- a setting of which no more is known than how many servers there are
abbrev counted : ℕ → Setting
counted servers = record { hierarchy = []; servers = servers; workers = 0; stock_cells = 0; roles = [] }

-- The least number that meets a test.

or-first : (a b : Bool) → (a || b) ≡ true → b ≡ false → a ≡ true
or-first true b both none = refl
or-first false b both none = cc

first-below : (n : ℕ) (test : ℕ → Bool) → any_below n test ≡ true → (k : ℕ) × (k < n) × (test k ≡ true) × (any_below k test ≡ false)
first-below zero test some = (let never : false ≡ true = some in cc)
first-below (suc n) test some = by (first-below n test) (any_below n test) refl
  where
    by : (any_below n test ≡ true → (k : ℕ) × (k < n) × (test k ≡ true) × (any_below k test ≡ false)) → (b : Bool) → any_below n test ≡ b → (k : ℕ) × (k < suc n) × (test k ≡ true) × (any_below k test ≡ false)
    by lower true is = (let k = lower is in (k.0, omega (arith, k.1), k.2, k.3))
    by lower false none = (n, omega arith, or-first (test n) (any_below n test) some none, none)

-- a hand has something to take where a part waits for its worker
is-awaited : (b : Bool) → (if b then Some kind.TakePart else None) ≡ Some kind.TakePart → b ≡ true
is-awaited true is = refl
is-awaited false is = (let never : ◌≡◌ {A = Option Kind} None (Some kind.TakePart) = is in absurd (cc))

module _ (h : List Dimension) (with : Use) (state : State) (s : Setting) (w : World) (of : IsStateOf h with state s w) where
  pub sound : IsSound h state
  sound = record { setting = s; hierarchy = of.hierarchy; world = w; is = of.is; inv = of.inv }

  -- what is so of the actor in the state is so of it where it stands
  pub has-actor : (n : ℕ) → n < actor_count s → (P : ActorValue → Type 0) → P (w.actors n) → HasActor state n P
  has-actor n here P p =
      let low : n < length state.actors.items = subst (λ (k : ℕ). n < k) (sym of.count) here in
      let k = stands (get_or state.actors.items n None) (λ x. actor_of x ≡ w.actors n) (of.is.actor n low) in
      is-some (get_or state.actors.items n None) (λ a. P (actor_of a)) k.0 k.1 (subst P (sym k.2) p)

  abbrev seen : w.cells ≡ cell_at state.cells.items
  seen = cells-seen state.cells.items state.actors.items w of.is

  -- the step by which a part ends tells no more than how many servers there are
  ending-seen : (e : ErrandValue) (pin : Option ℕ) → ending s e pin ≡ ending (setting_by [] with) e pin
  ending-seen e None = ap (λ (k : ℕ). ending (counted k) e None) of.servers
  ending-seen e (Some gate) = ap (λ (k : ℕ). ending (counted k) e (Some gate)) of.servers

-- Parts.

module _ (h : List Dimension) (with : Use) (state : State) (s : Setting) (w : World) (of : IsStateOf h with state s w) (n : ℕ) (e : ErrandValue) (due : PartDue) (at : IsDueAt s w n e due) where
  here : n < actor_count s
  here = part-there s w of.inv.ghost_of of.inv.holds n e at.0

  enters : (map gate : ℕ) → IsEntering s w n map gate → meets s w n kind.EnterTree ≡ true → MayGoOn h state n (Enters map gate)
  enters map gate d free =
      let p = in-prepared s w n of.inv map gate d in
      let r = in-ready h with state s w of n map gate d in
      let same : p.0 ≡ r.0 = sym (Some-same p.0 r.0 (sym p.1 ∙ ap (λ (f : ℕ → CellValue). entrance_of (cells_only f) (w.actors n).purse map gate) (seen h with state s w of) ∙ r.1)) in
      has-actor h with state s w of n here (λ a. IsFound h state n (entrance_of (world_by state.cells.items) a.purse map gate)) (r.0, r.1, r.2 (subst (λ (x : RowStep). IsFree w n (head_of x)) same (p.3 free)))

  descends : (block : ℕ) → IsDescending w n block → meets s w n kind.Down ≡ true → MayGoOn h state n (Descends block)
  descends block d free =
      let p = down-prepared s w n of.inv block d in
      let r = down-ready h with state s w of n block d in
      let found : descent_of s.hierarchy w (w.actors n) block ≡ descent_of h (world_by state.cells.items) (w.actors n) block =
      ap (λ (g : List Dimension). descent_of g w (w.actors n) block) of.hierarchy ∙ ap (λ (f : ℕ → CellValue). descent_of h (cells_only f) (w.actors n) block) (seen h with state s w of) in
      let same : p.0 ≡ r.0 = sym (Some-same p.0 r.0 (sym p.1 ∙ found ∙ r.1)) in
      has-actor h with state s w of n here (λ a. CanDescend h state.cells.items a block × IsFound h state n (descent_of h (world_by state.cells.items) a block))
      (can-descend h with state s w of n block d, (r.0, r.1, r.2 (subst (λ (x : RowStep). IsFree w n (head_of x)) same (p.3 free))))

  goes-on : meets s w n (due_kind due) ≡ true → MayGoOn h state n due
  goes-on free = by due at.1 free (is-prepared s w n of.inv e at.0 due at.1) (is-ready h with state s w of n e at.0 due at.1)
    where
      by : (x : PartDue) → part_due s w (w.actors n) e ≡ Some x → meets s w n (due_kind x) ≡ true → IsPartPrepared s w n x → IsPartReady h state w n x → MayGoOn h state n x
      by (Part step) is free p r = r
      by (Tree step) is free p r = r (is-free s w n of.inv e at.0 step is free)
      by (Enters map gate) is free p r = enters map gate p free
      by (Descends block) is free p r = descends block p free

  -- where no memory is found, it ends
  ends : MayEndInstead h with state n due
  ends fails now same =
      let still = still-state h with state now s w of same in
      let made : MayMakePart h now n (ending (setting_by [] with) e (pin_of e.task)) =
      subst (MayMakePart h now n) (ending-seen h with state s w of e (pin_of e.task)) (ends-ready h with now s w still n e at.0 due at.1 fails) in
      (sound h with now s w still, has-actor h with now s w still n here (EndsPart h with now n) (e, at.0, made))

  pub may-go-on : meets s w n (due_kind due) ≡ true → MayGoOn h state n due × MayEndInstead h with state n due
  may-go-on free = (goes-on free, ends)

-- Without a part.

module _ (h : List Dimension) (with : Use) (state : State) (s : Setting) (w : World) (n : ℕ) (of : IsStateOf h with state s w) where
  -- spares go back, which takes no memory
  pub may-give-back : HasSpares (w.actors n) → MayGoOn h state n (Tree GiveBack) × MayEndInstead h with state n (Tree GiveBack)
  may-give-back has = (tree-may h with state s w of n GiveBack (spares-prepared s w of.inv.ghost_of of.inv.holds n has.no_errand has.no_job has.some) tt, λ fails. (let never : false ≡ true = fails in absurd (cc)))

  -- Hands.

  module _ (here : n < actor_count s) (worker : ℕ) (role : (w.actors n).role ≡ Hand worker) (free : (w.actors n).errand ≡ None) where
    no-job : (w.actors n).job ≡ None
    no-job = by (w.actors n).job refl
      where
        by : (o : Option JobValue) → (w.actors n).job ≡ o → (w.actors n).job ≡ None
        by None none = none
        by (Some j) some = (let never : Hand worker ≡ Admin = sym role ∙ of.inv.holds.numbering.working n j some in absurd (cc))

    -- on the desk of a server a part waits
    taking : (server : ℕ) → server < s.servers → list_any (waits_for worker) (desk_in (w.cells (desk_cell s server))).parts ≡ true → IsStepAsked s w n (TakePart (desk_cell s server))
    taking server low waits =
        let desk = desk_in (w.cells (desk_cell s server)) in
        record {
          free = free;
          no_job = no-job;
          server = server;
          desk_is = of.inv.holds.numbering.tag (desk_cell s server) ∙ tag-desk s server low;
          its = subst (λ (r : Role). IsDeskFor r server desk (w.actors n).command) (sym role) tt;
          ready = subst (λ (r : Role). IsSome (position (may_take r) desk.parts)) (sym role) (first-place (waits_for worker) desk.parts (Any-from_list_any (waits_for worker) desk.parts waits));
        }

    from-first : (server : ℕ) → IsAwaited with state.cells.items worker server → MayMakePart h state n (TakePart (desk_cell (setting_by [] with) server))
    from-first server a =
        let low : server < s.servers = subst (λ (k : ℕ). server < k) (sym of.servers) a.within in
        let waits : list_any (waits_for worker) (desk_in (w.cells (desk_cell s server))).parts ≡ true =
        ap (λ (f : ℕ → CellValue). list_any (waits_for worker) (desk_in (f (desk_cell s server))).parts) (seen h with state s w of)
        ∙ ap (λ (k : ℕ). list_any (waits_for worker) (desk_in (cell_at state.cells.items (desk_cell (counted k) server))).parts) of.servers ∙ a.waits in
        subst (λ (k : ℕ). MayMakePart h state n (TakePart (desk_cell (counted k) server))) of.servers
        (part-may h with state s w of n (TakePart (desk_cell s server)) (take-prepared s w of.inv n here (desk_cell s server) (taking server low waits)))

    pub may-take : hand_kind s w worker ≡ Some kind.TakePart → MayTake h with state n worker
    may-take due =
        let there : hand_kind (setting_by [] with) (world_by state.cells.items) worker ≡ Some kind.TakePart =
        sym (ap (λ (f : ℕ → CellValue). hand_kind s (cells_only f) worker) (seen h with state s w of) ∙ ap (λ (k : ℕ). hand_kind (counted k) (world_by state.cells.items) worker) of.servers) ∙ due in
        let waiting : ℕ → Bool = λ server. list_any (waits_for worker) (desk_in (cell_at state.cells.items (desk_cell (setting_by [] with) server))).parts in
        let k = first-below with.servers waiting (is-awaited (any_below with.servers waiting) there) in
        (k.0, record { within = k.1; waits = k.2; first = k.3 }, from-first)
