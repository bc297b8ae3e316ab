-- Cells of gates that are gone: in every state that the administrator's seat may be in they can be taken, and the step is prepared by
-- which one of them is used again.
use Rattle.std.proofs.{Common.{◌≡◌, ◌≢◌, ◌∙◌, ℕ, zero, suc, ◌+◌, ◌<◌, ◌≤◌, cond, get_or, IsSome, List, [], ◌∷◌, ◌++◌, length, slice_get, Option, Some, None, inl, inr, refl, sym, ap, subst, arith}, lemmas.{Bool.cases_lt, Option.slice_get-get_or}}
use Rattle.std.specs.Prelude.{⊤, true}
use mathlib.Core.Option.{none}
use Rattle.seat_steps.specs.core_admin.proofs.{Collecting.FrozenGates.phase-gate, Reusing.FreesCells.in-tree}
use Rattle.seat_steps.specs.core_due.proofs.{Holding.{CanHold, CanHoldAll, hold-one, prepared}, LastItems.{found-last, found-none}, Owned.{gate-low, lend-block, lend-gate, tree-owned}, Released.released-is}
use Rattle.seat_steps.specs.core_due.specs.{Reuses.{is_released, reuse_by}, ReuseLaws.IsReusePrepared}
use Rattle.seat_steps.specs.core_steps.specs.{Places.{numbers, values}, Reuses.{reuse_asks, reuse_places}, declared.reuses.ReuseStep.ReuseStep}
use Rattle.seat_steps.specs.core_steps.specs.declared.reuses.ReuseStep.TheVariants as reuse
use Rattle.dim_hierarchy.specs.Dimension.{Dimension}
use Rattle.job_steps.specs.Reuses.{IsBetween, IsReleasedAt, IsReuseDue, WasInUse, after_reuse, last_gone}
use Rattle.list_words.proofs.{Elements.Some-same, Times.{among-times, same_is, times-append}}
use Rattle.list_words.specs.Counts.{Among, Each, times}
use Rattle.seat_steps.proofs.{Around.{around, asked-held, seen-there, still-sees, still-there, within}, HeldLedger.does-held, WithLedger.{due-at, next-cell}}
use Rattle.seat_steps.specs.{Booked.IsUnchanged, Floors.{AreTold, IsAround, IsSeated, kept_on}, Made.{HasMade, IsKeptBy}, Takes.TakesTurn, declared.floor.{Floor.Floor, Player.Player}}
use Rattle.seat_steps.specs.shard_store.specs.declared.gate.{Phase.Phase, Phase.TheVariants.{Frozen, Gone, Open}}
use Rattle.turn_table.specs.{Numbered.{after_first, numbers_of, value_of}, Seat.cell_count}
use Rattle.seat_steps.specs.volap_cell.proofs.{Cells.Holding.carries, Persons.has-role}
use Rattle.seat_steps.specs.volap_cell.specs.{Cells.{CellValue, TheStock, gate_shard, gone_in, phase_of, pins_in}, Errands.way_of, Ghost.{AGate, Ghost, InTree}, Invariant.InvWith, Kinds.Does, Reusing.is_gone, Setting.{Setting, actor_count, stock_cell}, Steps.Inv, Values.{ActorValue, ErrandValue, actor_of}, View.{View, view}, World.{Change, MustKeep, World}, declared.{kind.Kind.TheVariants.Reuse, role.Role.TheVariants.{Admin, Hand}}}
use Rattle.seat_steps.specs.volap_turns.specs.Rows.{AreAt, cells_for}

-- Lists.

pub get-among : (xs : List ℕ) (k x : ℕ) → slice_get xs k ≡ Some x → Among x xs
get-among [] k x e = absurd (cc)
get-among (y ∷ xs) zero x e = (let same : x ≡ y = cc in inl same)
get-among (y ∷ xs) (suc k) x e = inr (get-among xs k x e)

pub each-get : (P : ℕ → Type 0) (xs : List ℕ) → ((k x : ℕ) → slice_get xs k ≡ Some x → P x) → Each P xs
each-get P [] h = tt
each-get P (x ∷ xs) h = (h 0 x refl, each-get P xs (λ k y e. h (suc k) y e))

-- each gate of a list was in use, and the next one
pub one-more : (f : Floor) (p : Player) (gates : List ℕ) (place : ℕ) → place < length gates → ((k gate : ℕ) → k < place → slice_get gates k ≡ Some gate → WasInUse f p gate) → WasInUse f p (get_or gates place 0)
    → (k gate : ℕ) → k < place + 1 → slice_get gates k ≡ Some gate → WasInUse f p gate
one-more f p gates place low before here k gate less e = elim (cases_lt k place) [
  | inl lower ↦ before k gate lower e
  | inr high ↦ (
      let same : k ≡ place = omega (arith, high, less) in
      let is : gate ≡ get_or gates place 0 = Some-same (get_or gates place 0) gate (sym (slice_get-get_or gates place 0 low) ∙ ap (λ (m : ℕ). slice_get gates m) (sym same) ∙ e) in
      subst (WasInUse f p) (sym is) here
      )
]

-- Of a state.

gone-if : (p : Option Phase) → 1 ≤ cond (is_gone p) 1 0 → p ≡ Some Gone
gone-if (Some Gone) some = refl
gone-if (Some Open) some = absurd (omega (arith, some))
gone-if (Some (Frozen upto)) some = absurd (omega (arith, some))
gone-if None some = absurd (omega (arith, some))

module _ (s : Setting) (w : World) (inv : Inv s w) (n : ℕ) (admin : (w.actors n).role ≡ Admin) where
  abbrev v : View
  v = view s w

  abbrev g : Ghost
  g = inv.ghost_of

  abbrev i : InvWith s (view s w) inv.ghost_of
  i = inv.holds

  -- a gate of its list is gone
  listed-gone : (gate : ℕ) → Among gate (w.actors n).gone_gates → phase_of (w.cells gate) ≡ Some Gone
  listed-gone gate among =
      let some = among-times gate (w.actors n).gone_gates among in
      let listed = i.reusing.listed n gate admin in
      gone-if (v.phases gate) (omega (arith, some, listed))

  module _ (gate : ℕ) (gone : phase_of (w.cells gate) ≡ Some Gone) where
    stands : IsSome (gate_shard (w.cells gate))
    stands = (let k = phase-gate (w.cells gate) Gone gone in subst (λ (c : CellValue). IsSome (gate_shard c)) (sym k.1) refl)

    hold-gate : CanHold s w n gate
    hold-gate = lend-gate s w g i n ⊤ gate stands

    hold-stock : CanHold s w n stock_cell
    hold-stock = hold-one s w inv n stock_cell TheStock (i.numbering.tag stock_cell) (λ e. cc)

    gate-off-stock : stock_cell ≢ gate
    gate-off-stock e = (let low = gate-low s w g i gate stands in absurd (omega (arith, e, low)))

    gate-held : CanHoldAll s w n (gate ∷ stock_cell ∷ [])
    gate-held = record { each = (hold-gate, (hold-stock, tt)); apart = ((gate-off-stock, tt), (tt, tt)) }

    module _ (block : ℕ) (front : List ℕ) (list : gone_in (w.cells gate) ≡ front ++ block ∷ []) where
      owner : g.owner block ≡ InTree gate
      owner =
          let cells = i.stocking.gone_cells gate gone block in
          let all = ap (times block) list ∙ times-append block front (block ∷ []) in
          let one = same_is block block refl in
          in-tree gate (g.owner block) (omega (arith, cells, all, one))

      -- no row is carried in its tree
      uncarried : (a : ℕ) → ¬ MustKeep (w.actors a) block
      uncarried a keeps =
          let x = carries s v g i a block keeps in
          let both : InTree x.gate ≡ InTree gate = sym x.owner ∙ owner in
          let same : x.gate ≡ gate = cc in
          (i.turning.carrying a x.gate block x.way x.is_way x.place).0.stands (ap v.phases same ∙ gone)

      block-off-gate : block ≢ gate
      block-off-gate e = (let never : AGate ≡ InTree gate = sym (i.stocking.gate gate stands) ∙ ap g.owner (sym e) ∙ owner in cc)

      block-off-stock : stock_cell ≢ block
      block-off-stock e = (let low = (i.stocking.within block (tree-owned s w g i gate block owner)).0 in absurd (omega (arith, e, low)))

      block-held : CanHoldAll s w n (gate ∷ block ∷ stock_cell ∷ [])
      block-held = record {
        each = (hold-gate, (lend-block s w g i n ⊤ gate block owner (λ always a ne. uncarried a), (hold-stock, tt)));
        apart = ((block-off-gate, (gate-off-stock, tt)), ((block-off-stock, tt), (tt, tt)));
      }

    there : n < actor_count s
    there = has-role s v i.numbering n (λ e. let never : Admin ≡ Hand s.workers = sym admin ∙ e in cc)

    -- without a pin and a command the step is prepared
    module _ (no_command : (w.actors n).command ≡ None) (unpinned : pins_in (w.cells gate) ≡ 0) where
      by-last : (o : Option ℕ) → last_gone (w.cells gate) ≡ o → IsReusePrepared s w n (reuse_by gate o)
      by-last None found = prepared s w inv n (reuse_places (reuse.Gate gate)) (reuse_asks (reuse.Gate gate) s.hierarchy) there gate-held (record {
        can = record { role = admin; no_command = no_command; gone = gone; unpinned = unpinned; stock_is = i.numbering.tag stock_cell };
        empty = found-none (gone_in (w.cells gate)) found;
      })
      by-last (Some block) found =
          let k = found-last (gone_in (w.cells gate)) block found in
          prepared s w inv n (reuse_places (reuse.Block gate block)) (reuse_asks (reuse.Block gate block) s.hierarchy) there (block-held block k.0 k.1) (record {
            can = record { role = admin; no_command = no_command; gone = gone; unpinned = unpinned; stock_is = i.numbering.tag stock_cell };
            cells = k.0;
            last = k.1;
          })

-- At a seat.

pub between-since : {p q : Player} → IsUnchanged p q → IsBetween p → IsBetween q
between-since same b = record {
  role = ap (λ (x : ActorValue). x.role) same.actor ∙ b.role;
  no_command = ap (λ (x : ActorValue). x.command) same.actor ∙ b.no_command;
  no_part = ap (λ (x : ActorValue). x.errand) same.actor ∙ b.no_part;
}

module _ (f : Floor) (p : Player) (between : IsBetween p) where
  module _ (s : Setting) (w : World) (is : IsAround f p s w) where
    admin-in : (w.actors p.number).role ≡ Admin
    admin-in = ap (λ (x : ActorValue). x.role) is.actor ∙ between.role

    free-in : (w.actors p.number).command ≡ None
    free-in = ap (λ (x : ActorValue). x.command) is.actor ∙ between.no_command

  -- a gate of the list is there
  pub listed-within : IsSeated f p → (gate : ℕ) → Among gate (actor_of p.actor).gone_gates → gate < cell_count f.table
  listed-within seated gate among =
      let it = around f p seated in
      let admin = admin-in it.0 it.1 it.2 in
      let listed = subst (λ (x : ActorValue). Among gate x.gone_gates) (sym (it.2).actor) among in
      within f p it.0 it.1 it.2 gate (hold-gate it.0 it.1 (it.2).inv p.number admin gate (listed-gone it.0 it.1 (it.2).inv p.number admin gate listed)).within

  pub reuse-due : (gate : ℕ) (last : Option ℕ) → IsReleasedAt p gate last → IsReuseDue f p (reuse_by gate last)
  reuse-due gate last k = record {
    prepared = λ s w is. (
        let both = released-is (w.cells gate) (seen-there f p s w is gate (λ cell. is_released cell ≡ true) k.there k.released) in
        by-last s w is.inv p.number (admin-in s w is) gate both.0 (free-in s w is) both.1 last (sym (seen-there f p s w is gate (λ cell. last ≡ last_gone cell) k.there k.last_is))
        );
  }

-- with one cell more
pub released-still : {cell : ℕ} {rank : Option ℕ} {was now : Player} → TakesTurn cell rank was now → (gate : ℕ) (last : Option ℕ) → IsReleasedAt was gate last → IsReleasedAt now gate last
released-still took gate last k = record {
  there = still-there took gate k.there;
  released = still-sees took gate (λ cell. is_released cell ≡ true) k.there k.released;
  last_is = still-sees took gate (λ cell. last ≡ last_gone cell) k.there k.last_is;
}

-- The step that was made.

reuse-errand : (h : List Dimension) (a b : ActorValue) → a.errand ≡ None → (cs : List Change) → Does h Reuse cs a b → b.errand ≡ None
reuse-errand h a b free (at ∷ y ∷ c ∷ []) d = ap (λ (x : ActorValue). x.errand) d.actor_is ∙ free
reuse-errand h a b free (at ∷ c ∷ []) d = ap (λ (x : ActorValue). x.errand) d.actor_is ∙ free
reuse-errand h a b free cs d = absurd d

-- the administrator is at no part behind it, so it keeps no cell
pub reuse-kept : (h : List Dimension) (p : Player) (step : ReuseStep) → (actor_of p.actor).errand ≡ None → IsKeptBy h Reuse (λ s w n. ⊤) (λ a was now. ⊤) (reuse_places step) p
reuse-kept h p step free b now went told =
    subst (λ (e : Option ErrandValue). AreTold (after_first p.seat.ranks) (kept_on (way_of e))) (sym (reuse-errand h (actor_of p.actor) b free _ went.makes.does)) tt

pub reuse-actor : (h : List Dimension) {was now : Player} → (step : ReuseStep) → AreAt (reuse_places step) was.seat.view.held → HasMade h Reuse (λ s w n. ⊤) (λ a was now. ⊤) (reuse_places step) was now
    → actor_of now.actor ≡ after_reuse step (actor_of was.actor)
reuse-actor h (reuse.Block gate block) at made = (does-held made at).actor_is
reuse-actor h (reuse.Gate gate) at made = (does-held made at).actor_is

-- How many cells it has, and what it asks of them.

pub reuse-few : (step : ReuseStep) → (0 < length (numbers (reuse_places step))) × (length (numbers (reuse_places step)) ≤ 7)
reuse-few (reuse.Block gate block) = (omega arith, omega arith)
reuse-few (reuse.Gate gate) = (omega arith, omega arith)

pub reuse-asked : (f : Floor) (p : Player) → IsSeated f p → (step : ReuseStep) → IsReuseDue f p step → AreAt (reuse_places step) p.seat.view.held
    → reuse_asks step f.hierarchy (values (cells_for p.seat.view.held (reuse_places step))) (actor_of p.actor)
reuse-asked f p seated step due at =
    let it = around f p seated in
    let ready = due.prepared it.0 it.1 it.2 in
    subst (λ (h : List Dimension). reuse_asks step h (values (cells_for p.seat.view.held (reuse_places step))) (actor_of p.actor)) (it.2).about
    (asked-held f p it.0 it.1 it.2 (reuse_places step) (reuse_asks step (it.0).hierarchy) at ready.asked)

-- Turns of cells behind the gate.

module _ (f : Floor) (p : Player) (seated : IsSeated f p) (step : ReuseStep) (due : IsReuseDue f p step) where
  -- the next one
  pub next-reused : (ranks : List (ℕ × Option ℕ)) → p.seat.ranks ≡ ranks → (cell : ℕ) (more : List ℕ) → numbers (reuse_places step) ≡ numbers_of ranks ++ cell ∷ more → (cell < cell_count f.table) × (value_of p.seat.view.held cell ≡ none)
  next-reused ranks held cell more is = next-cell f p (reuse_places step) seated due cell more (ap (λ (l : List (ℕ × Option ℕ)). numbers_of l ++ cell ∷ more) held ∙ sym is)

  -- all are held
  pub reuse-at : (ranks : List (ℕ × Option ℕ)) → p.seat.ranks ≡ ranks → numbers_of ranks ≡ numbers (reuse_places step) → AreAt (reuse_places step) p.seat.view.held
  reuse-at ranks held is = due-at f p (reuse_places step) seated due (ap (λ (l : List (ℕ × Option ℕ)). numbers_of l) held ∙ is)
