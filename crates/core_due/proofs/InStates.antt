-- What is prepared may be made in a state that one thread holds; and the state is the same one still where no memory was found.
use Rattle.std.proofs.{Common.{◌≡◌, ◌∙◌, ℕ, ◌<◌, inl, inr, List, [], length, Option, Some, None, get_or, refl, sym, ap, subst}, lemmas.Bool.cases_lt, lemmas.List.get_or_past}
use Rattle.std.specs.Prelude.{⊤}
use mathlib.Core.Path.{fun_ext}
use Rattle.core_due.specs.{Look.{cell_at, cells_only, setting_by, world_by}, Parts.part_due, Ready.{IsFree, IsFreeFor, IsLendable, IsPrepared, IsRowPrepared, IsStateOf, IsStepPrepared, IsTreePrepared, MayMakePart, MayMakeRow, MayMakeTree, head_of}}
use Rattle.core_steps.specs.{Parts.{part_asks, part_places}, Places.{numbers, values_at}, Rows.{row_asks, row_places}, Steps.{IsSame, MayMake}, Trees.{tree_asks, tree_places}, declared.parts.PartStep.PartStep, declared.rows.RowStep.RowStep, declared.trees.TreeStep.TreeStep}
use Rattle.dim_hierarchy.specs.Dimension.{Dimension}
use Rattle.list_words.proofs.Each.{each-map}
use Rattle.row_ledger.specs.declared.settings.Use.{Use}
use Rattle.core_steps.specs.volap_cell.proofs.Cells.States.{of-it, stands}
use Rattle.core_steps.specs.volap_cell.specs.{Cells.{CellValue, cell_of}, Errands.{IsCarried, way_of}, Filling.cell_or, Setting.Setting, State.{Has, IsWorldOf}, Values.{ActorValue, ErrandValue, actor_of}, World.{MustKeep, World}, declared.actor.Actor.Actor, declared.cell.Cell.Cell, declared.state.State.State}

-- Vectors and the state that they are.

seen-in : (o : Option Cell) (v : CellValue) → Has o (λ c. cell_of c ≡ v) → v ≡ cell_or o
seen-in None v has = absurd has
seen-in (Some c) v has = sym has

module _ (cells : List (Option Cell)) (actors : List (Option Actor)) (w : World) (is : IsWorldOf cells actors w) where
  cell-is : (y : ℕ) → w.cells y ≡ cell_at cells y
  cell-is y = elim (cases_lt y (length cells)) [
    | inl low ↦ seen-in (get_or cells y None) (w.cells y) (is.cell y low)
    | inr past ↦ is.no_cell y past ∙ ap cell_or (sym (get_or_past cells y None past))
  ]

  -- each cell is what is seen of it
  pub cells-seen : w.cells ≡ cell_at cells
  cells-seen = fun_ext cell-is

  module _ (v : World) (is_too : IsWorldOf cells actors v) where
    same-actor : (a : ℕ) → a < length actors → w.actors a ≡ v.actors a
    same-actor a low =
        let k = stands (get_or actors a None) (λ x. actor_of x ≡ w.actors a) (is.actor a low) in
        sym k.2 ∙ of-it (get_or actors a None) (λ x. actor_of x ≡ v.actors a) k.0 (is_too.actor a low) k.1

    -- a cell that is free in one state is free in the other
    same-free : (n y : ℕ) → IsFree w n y → IsFree v n y
    same-free n y free a ne keeps = elim (cases_lt a (length actors)) [
      | inl low ↦ free a ne (subst (λ (x : ActorValue). MustKeep x y) (sym (same-actor a low)) keeps)
      | inr past ↦ subst (λ (o : Option ErrandValue). IsCarried (way_of o) y) (is_too.no_actor a past).errand keeps
    ]

-- What is due is a function of what is seen.

-- a setting of which no more is known than how many servers and workers there are
abbrev pub counted : (servers workers : ℕ) → Setting
counted servers workers = record { hierarchy = []; servers = servers; workers = workers; stock_cells = 0; roles = [] }

module _ (h : List Dimension) (with : Use) (state : State) (s : Setting) (w : World) (of : IsStateOf h with state s w) where
  part-told : (a : ActorValue) (e : ErrandValue) → part_due s w a e ≡ part_due (counted s.servers with.workers) (cells_only w.cells) a e
  part-told a e = refl

  pub due-seen : (a : ActorValue) (e : ErrandValue) → part_due s w a e ≡ part_due (setting_by [] with) (world_by state.cells.items) a e
  due-seen a e =
      part-told a e
      ∙ ap (λ (k : ℕ). part_due (counted k with.workers) (cells_only w.cells) a e) of.servers
      ∙ ap (λ (f : ℕ → CellValue). part_due (setting_by [] with) (cells_only f) a e) (cells-seen state.cells.items state.actors.items w of.is)

  -- What may be made.

  pub may-make : (n : ℕ) (row : List (Option ℕ)) (Asks : List Dimension → List (Option CellValue) → ActorValue → Type 0) (If : Type 0) → IsPrepared s w n row (Asks s.hierarchy) If → If → MayMake h state n row (Asks h) (λ s v m. ⊤)
  may-make n row Asks If p if =
      let here : n < length state.actors.items = subst (λ (k : ℕ). n < k) (sym of.count) p.actor in
      subst (λ (g : List Dimension). MayMake h state n row (Asks g) (λ s v m. ⊤)) of.hierarchy (record {
        within = each-map (IsLendable s w n If) (λ y. y < length state.cells.items) (numbers row) (λ y can. subst (λ (k : ℕ). y < k) (sym of.places) can.within) p.cells;
        apart = p.apart;
        actor = here;
        ready = λ v is. record {
          unkept = λ a ne. each-map (IsLendable s w n If) (λ y. ¬ MustKeep (v.actors a) y) (numbers row)
              (λ y can. same-free state.cells.items state.actors.items w of.is v is n y (can.free if) a ne) p.cells;
          asked = subst (λ (f : ℕ → CellValue). Asks s.hierarchy (values_at f row) (v.actors n)) (cells-seen state.cells.items state.actors.items w of.is ∙ sym (cells-seen state.cells.items state.actors.items v is))
              (subst (λ (a : ActorValue). Asks s.hierarchy (values_at w.cells row) a) (same-actor state.cells.items state.actors.items w of.is v is n here) p.asked);
        };
        seen = λ t v same is inv. tt;
      })

  pub part-may : (n : ℕ) (step : PartStep) → IsStepPrepared s w n step → MayMakePart h state n step
  part-may n step p = may-make n (part_places step) (part_asks step) ⊤ p tt

  pub tree-may : (n : ℕ) (step : TreeStep) → IsTreePrepared s w n step → IsFreeFor w n step → MayMakeTree h state n step
  tree-may n step p free = may-make n (tree_places step) (tree_asks step) (IsFreeFor w n step) p free

  pub row-may : (n : ℕ) (step : RowStep) → IsRowPrepared s w n step → IsFree w n (head_of step) → MayMakeRow h state n step
  row-may n step p free = may-make n (row_places step) (row_asks step) (IsFree w n (head_of step)) p free

-- Where no memory was found.

pub still-state : (h : List Dimension) (with : Use) (state now : State) (s : Setting) (w : World) → IsStateOf h with state s w → IsSame state now → IsStateOf h with now s w
still-state h with state now s w of same = record {
  hierarchy = of.hierarchy;
  servers = of.servers;
  workers = of.workers;
  count = same.actors_kept ∙ of.count;
  places = same.cells_kept ∙ of.places;
  is = same.same w of.is;
  inv = of.inv;
}
