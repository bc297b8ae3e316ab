-- What is left where one actor's step notes an event that splits and moves no shard: its parts, and what the step changes of each.
use Rattle.std.proofs.{Common.{◌≡◌, ◌≢◌, ℕ, ◌+◌, ◌<◌, ◌≤◌, List, ◌∷◌, false, ap, arith, ◌*◌, ◌-◌, ◌∙◌, ◌⊎◌, inl, inr, Option, Some, None, refl, sym}, lemmas.Bool.cases_lt}
use mathlib.Core.Path.{fun_ext}
use Rattle.std.specs.{Option.option_map_or, Prelude.sum_by}
use Rattle.dc_node.specs.declared.block.Block.{Block}
use Rattle.query_router.specs.{Desk.DeskValue, declared.part.Part.Part}
use Rattle.row_ledger.specs.{Changes.ShardsStay, declared.event.Event.Event}
use Rattle.volap_cell.specs.{Falls.{Falls, Left, blocks_left, control_of, far, per_query, queries_of_errand, queries_of_state, queries_of_task, queries_of_work, gates_of_errand, gates_of_part, gates_of_work, gone_left, is_split_or_move, job_left, left, of_work, one_if_any, rows_of_errand, rows_of_part}, Ghost.Ghost, Setting.{Setting, actor_count, cell_count}, Sums.sum_below, Values.{ActorValue, ErrandValue, TaskValue, OfRow, Unread, Read}, View.{View, view}, World.World}
use Rattle.volap_cell.proofs.{OneEvent.Ahead.{command-stays, errand-stays, far-stays, job-stays, parts-stay}, Sums.{sum-changed, sum-kept, sum-same}}

-- what one actor has of each number, and one desk

abbrev pub control_at : Setting → View → ActorValue → ℕ
control_at s v a = of_work (control_of s) a.command + job_left s v a.job

abbrev pub gates_at : Setting → List Event → ActorValue → ℕ
gates_at s h a = of_work (gates_of_work h) a.command + gates_of_errand s h a.errand

abbrev pub rows_at : Ghost → ActorValue → ℕ
rows_at g a = rows_of_errand g.shape a.errand + one_if_any a.purse

abbrev pub queries_at : Setting → View → Ghost → ActorValue → ℕ
queries_at s v g a = of_work queries_of_work a.command + queries_of_errand s v g a.errand

abbrev pub gates_on : Setting → List Event → DeskValue → ℕ
gates_on s h d = sum_by (gates_of_part s h) d.parts

abbrev pub rows_on : DeskValue → ℕ
rows_on d = sum_by (λ (p : Part). rows_of_part p.state) d.parts

abbrev pub queries_on : Setting → List Event → DeskValue → ℕ
queries_on s h d = sum_by (λ (p : Part). queries_of_state s (far s.workers h p.shard p.worker) p.state) d.parts

-- what stays is no more than with anything added
pub no-more : (a b c : ℕ) → a ≡ b → a ≤ b + c
no-more a b c same = omega (arith, same)

-- what is left goes by these alone
pub record Stays (was now : ActorValue) : Type 0 where
  pub command : now.command ≡ was.command
  pub errand : now.errand ≡ was.errand
  pub purse : now.purse ≡ was.purse
  pub job : now.job ≡ was.job

-- an actor that is there, or one that stays as it was
module _ (s : Setting) (w w2 : World) (g : Ghost) (n : ℕ) (v2 : View) (same : view s w2 ≡ v2) (others : (a : ℕ) → a ≢ n → w2.actors a ≡ w.actors a) (there : (n < actor_count s) ⊎ Stays (w.actors n) (w2.actors n)) where
  abbrev v : View
  v = view s w

  -- a sum over the actors
  one-actor : (f : ActorValue → ℕ) → (Stays (w.actors n) (w2.actors n) → f (w2.actors n) ≡ f (w.actors n)) → sum_below (actor_count s) (λ a. f (w2.actors a)) + f (w.actors n) ≡ sum_below (actor_count s) (λ a. f (w.actors a)) + f (w2.actors n)
  one-actor f stays = elim there [
    | inl lt ↦ sum-changed (actor_count s) (λ a. f (w.actors a)) (λ a. f (w2.actors a)) n (λ a ne. ap f (others a ne)) lt
    | inr still ↦
        let kept = stays still in
        let sums = sum-kept (actor_count s) (λ a. f (w.actors a)) (λ a. f (w2.actors a)) n (λ a ne. ap f (others a ne)) kept in
        omega (arith, kept, sums)
  ]

  pub control-changed : v2.phases ≡ v.phases → v2.gone ≡ v.gone → (left s w2 g).control + control_at s v (w.actors n) ≡ (left s w g).control + control_at s v (w2.actors n)
  control-changed phases gone =
      let is : (left s w2 g).control ≡ sum_below (actor_count s) (λ a. control_at s v2 (w2.actors a)) + sum_below (cell_count s) (λ y. gone_left (v2.phases y) (v2.gone y)) =
      ap (λ (z : View). sum_below (actor_count s) (λ a. of_work (control_of s) (w2.actors a).command + job_left s z (w2.actors a).job) + sum_below (cell_count s) (λ y. gone_left (z.phases y) (z.gone y))) same in
      let jobs : sum_below (actor_count s) (λ a. control_at s v2 (w2.actors a)) ≡ sum_below (actor_count s) (λ a. control_at s v (w2.actors a)) =
      sum-same (actor_count s) (λ a. control_at s v (w2.actors a)) (λ a. control_at s v2 (w2.actors a))
      (λ a lt. ap (λ (x : ℕ). of_work (control_of s) (w2.actors a).command + x) (job-stays s v v2 phases (w2.actors a).job)) in
      let cells : sum_below (cell_count s) (λ y. gone_left (v2.phases y) (v2.gone y)) ≡ sum_below (cell_count s) (λ y. gone_left (v.phases y) (v.gone y)) =
      (λ k. sum_below (cell_count s) (λ y. gone_left (phases k y) (gone k y))) in
      let one = one-actor (control_at s v) (λ still. λ k. of_work (control_of s) (still.command k) + job_left s v (still.job k)) in
      omega (arith, is, jobs, cells, one)

  pub gates-changed : (e : Event) (h : List Event) → v.history ≡ h → v2.history ≡ e ∷ h → ShardsStay s.workers e h → is_split_or_move e ≡ false
      → (left s w2 g).gates + gates_at s h (w.actors n) + sum_below s.servers (λ x. gates_on s h (v.desks x)) ≡ (left s w g).gates + gates_at s h (w2.actors n) + sum_below s.servers (λ x. gates_on s h (v2.desks x))
  gates-changed e h was now stay other =
      let is : (left s w2 g).gates ≡ sum_below (actor_count s) (λ a. gates_at s v2.history (w2.actors a)) + sum_below s.servers (λ x. gates_on s v2.history (v2.desks x)) =
      ap (λ (z : View). sum_below (actor_count s) (λ a. gates_at s z.history (w2.actors a)) + sum_below s.servers (λ x. gates_on s z.history (z.desks x))) same in
      let grown : sum_below (actor_count s) (λ a. gates_at s v2.history (w2.actors a)) + sum_below s.servers (λ x. gates_on s v2.history (v2.desks x))
      ≡ sum_below (actor_count s) (λ a. gates_at s (e ∷ h) (w2.actors a)) + sum_below s.servers (λ x. gates_on s (e ∷ h) (v2.desks x)) =
      ap (λ (past : List Event). sum_below (actor_count s) (λ a. gates_at s past (w2.actors a)) + sum_below s.servers (λ x. gates_on s past (v2.desks x))) now in
      let old : (left s w g).gates ≡ sum_below (actor_count s) (λ a. gates_at s h (w.actors a)) + sum_below s.servers (λ x. gates_on s h (v.desks x)) =
      ap (λ (past : List Event). sum_below (actor_count s) (λ a. gates_at s past (w.actors a)) + sum_below s.servers (λ x. gates_on s past (v.desks x))) was in
      let actors : sum_below (actor_count s) (λ a. gates_at s (e ∷ h) (w2.actors a)) ≡ sum_below (actor_count s) (λ a. gates_at s h (w2.actors a)) =
      sum-same (actor_count s) (λ a. gates_at s h (w2.actors a)) (λ a. gates_at s (e ∷ h) (w2.actors a))
      (λ a lt.
      let one = command-stays s.workers e h stay other (w2.actors a).command in
      let two = errand-stays s e h stay other (w2.actors a).errand in omega (arith, one, two)) in
      let desks : sum_below s.servers (λ x. gates_on s (e ∷ h) (v2.desks x)) ≡ sum_below s.servers (λ x. gates_on s h (v2.desks x)) =
      sum-same s.servers (λ x. gates_on s h (v2.desks x)) (λ x. gates_on s (e ∷ h) (v2.desks x)) (λ x lt. parts-stay s e h stay other (v2.desks x).parts) in
      let one = one-actor (gates_at s h) (λ still. λ k. of_work (gates_of_work h) (still.command k) + gates_of_errand s h (still.errand k)) in
      omega (arith, is, grown, old, actors, desks, one)

  pub rows-changed : (left s w2 g).rows + rows_at g (w.actors n) + sum_below s.servers (λ x. rows_on (v.desks x)) ≡ (left s w g).rows + rows_at g (w2.actors n) + sum_below s.servers (λ x. rows_on (v2.desks x))
  rows-changed =
      let is : (left s w2 g).rows ≡ sum_below (actor_count s) (λ a. rows_at g (w2.actors a)) + sum_below s.servers (λ x. rows_on (v2.desks x)) =
      ap (λ (z : View). sum_below (actor_count s) (λ a. rows_at g (w2.actors a)) + sum_below s.servers (λ x. rows_on (z.desks x))) same in
      let one = one-actor (rows_at g) (λ still. λ k. rows_of_errand g.shape (still.errand k) + one_if_any (still.purse k)) in
      omega (arith, is, one)

  -- an errand's part of a query, where no part is farther or nearer
  pub errand-queries : v2.blocks ≡ v.blocks → ((x y : ℕ) → far s.workers v2.history x y ≡ far s.workers v.history x y) → (errand : Option ErrandValue) → queries_of_errand s v2 g errand ≡ queries_of_errand s v g errand
  errand-queries blocks reach None = refl
  errand-queries blocks reach (Some x) = by-task x.task (far s.workers v2.history x.shard x.worker) (far s.workers v.history x.shard x.worker) (reach x.shard x.worker)
    where
      by-task : (task : TaskValue) (ahead_now ahead : ℕ) → ahead_now ≡ ahead → queries_of_task s v2 g ahead_now task ≡ queries_of_task s v g ahead task
      by-task (OfRow r) ahead_now ahead same = refl
      by-task (Unread f) ahead_now ahead same = ap (λ (x : ℕ). per_query s * x - 1) same
      by-task (Read r) ahead_now ahead same = ap (λ (b : ℕ → Block). 2 + option_map_or (λ c. blocks_left b (cell_count s) (g.shape c) r.items) r.pin 0) blocks

  pub queries-changed : v2.blocks ≡ v.blocks → (e : Event) (h : List Event) → v.history ≡ h → v2.history ≡ e ∷ h → ShardsStay s.workers e h → is_split_or_move e ≡ false
      → (left s w2 g).queries + queries_at s v g (w.actors n) + sum_below s.servers (λ x. queries_on s h (v.desks x)) ≡ (left s w g).queries + queries_at s v g (w2.actors n) + sum_below s.servers (λ x. queries_on s h (v2.desks x))
  queries-changed blocks e h was now stay other =
      let is : (left s w2 g).queries ≡ sum_below (actor_count s) (λ a. queries_at s v2 g (w2.actors a)) + sum_below s.servers (λ x. queries_on s v2.history (v2.desks x)) =
      ap (λ (z : View). sum_below (actor_count s) (λ a. queries_at s z g (w2.actors a)) + sum_below s.servers (λ x. queries_on s z.history (z.desks x))) same in
      let grown : sum_below s.servers (λ x. queries_on s v2.history (v2.desks x)) ≡ sum_below s.servers (λ x. queries_on s (e ∷ h) (v2.desks x)) = ap (λ (past : List Event). sum_below s.servers (λ x. queries_on s past (v2.desks x))) now in
      let old : sum_below s.servers (λ x. queries_on s v.history (v.desks x)) ≡ sum_below s.servers (λ x. queries_on s h (v.desks x)) = ap (λ (past : List Event). sum_below s.servers (λ x. queries_on s past (v.desks x))) was in
      let actors : sum_below (actor_count s) (λ a. queries_at s v2 g (w2.actors a)) ≡ sum_below (actor_count s) (λ a. queries_at s v g (w2.actors a)) =
      sum-same (actor_count s) (λ a. queries_at s v g (w2.actors a)) (λ a. queries_at s v2 g (w2.actors a))
      (λ a lt. ap (λ (x : ℕ). of_work queries_of_work (w2.actors a).command + x) (errand-queries blocks
      (λ x y. ap (λ (past : List Event). far s.workers past x y) now ∙ far-stays s.workers e h stay other x y ∙ ap (λ (past : List Event). far s.workers past x y) (sym was)) (w2.actors a).errand)) in
      let desks : sum_below s.servers (λ x. queries_on s (e ∷ h) (v2.desks x)) ≡ sum_below s.servers (λ x. queries_on s h (v2.desks x)) =
      sum-same s.servers (λ x. queries_on s h (v2.desks x)) (λ x. queries_on s (e ∷ h) (v2.desks x)) (λ x lt. part-queries e h stay other (v2.desks x).parts) in
      let one = one-actor (queries_at s v g) (λ still. λ k. of_work queries_of_work (still.command k) + queries_of_errand s v g (still.errand k)) in
      omega (arith, is, grown, old, actors, desks, one)
    where
      part-queries : (e : Event) (h : List Event) → ShardsStay s.workers e h → is_split_or_move e ≡ false → (ps : List Part)
          → sum_by (λ (p : Part). queries_of_state s (far s.workers (e ∷ h) p.shard p.worker) p.state) ps ≡ sum_by (λ (p : Part). queries_of_state s (far s.workers h p.shard p.worker) p.state) ps
      part-queries e h stay other ps = ap (λ (f : Part → ℕ). sum_by f ps) (fun_ext (λ p. ap (λ (n : ℕ). queries_of_state s n p.state) (far-stays s.workers e h stay other p.shard p.worker)))

-- where nothing changes that it goes by, just as much is left
module _ (s : Setting) (w w2 : World) (g : Ghost) (n : ℕ) (v2 : View) (same : view s w2 ≡ v2) (others : (a : ℕ) → a ≢ n → w2.actors a ≡ w.actors a) (still : Stays (w.actors n) (w2.actors n))
    (phases : v2.phases ≡ (view s w).phases) (gone : v2.gone ≡ (view s w).gone) (blocks : v2.blocks ≡ (view s w).blocks) (history : v2.history ≡ (view s w).history) (parts : (x : ℕ) → (v2.desks x).parts ≡ ((view s w).desks x).parts) where
  abbrev was : View
  was = view s w

  kept : (f : ActorValue → ℕ) → f (w2.actors n) ≡ f (w.actors n) → sum_below (actor_count s) (λ a. f (w2.actors a)) ≡ sum_below (actor_count s) (λ a. f (w.actors a))
  kept f is = sum-kept (actor_count s) (λ a. f (w.actors a)) (λ a. f (w2.actors a)) n (λ a ne. ap f (others a ne)) is

  on-desks : (f : List Part → ℕ) → sum_below s.servers (λ x. f (v2.desks x).parts) ≡ sum_below s.servers (λ x. f (was.desks x).parts)
  on-desks f = sum-same s.servers (λ x. f (was.desks x).parts) (λ x. f (v2.desks x).parts) (λ x lt. ap f (parts x))

  control-still : (left s w2 g).control ≡ (left s w g).control
  control-still =
      let changed = control-changed s w w2 g n v2 same others (inr still) phases gone in
      let at : control_at s was (w2.actors n) ≡ control_at s was (w.actors n) = (λ k. of_work (control_of s) (still.command k) + job_left s was (still.job k)) in
      omega (arith, changed, at)

  gates-still : (left s w2 g).gates ≡ (left s w g).gates
  gates-still =
      let is : (left s w2 g).gates ≡ sum_below (actor_count s) (λ a. gates_at s was.history (w2.actors a)) + sum_below s.servers (λ x. gates_on s was.history (v2.desks x)) =
      ap (λ (z : View). sum_below (actor_count s) (λ a. gates_at s z.history (w2.actors a)) + sum_below s.servers (λ x. gates_on s z.history (z.desks x))) same
      ∙ ap (λ (past : List Event). sum_below (actor_count s) (λ a. gates_at s past (w2.actors a)) + sum_below s.servers (λ x. gates_on s past (v2.desks x))) history in
      let actors = kept (gates_at s was.history) (λ k. of_work (gates_of_work was.history) (still.command k) + gates_of_errand s was.history (still.errand k)) in
      let desks = on-desks (sum_by (gates_of_part s was.history)) in
      omega (arith, is, actors, desks)

  rows-still : (left s w2 g).rows ≡ (left s w g).rows
  rows-still =
      let is : (left s w2 g).rows ≡ sum_below (actor_count s) (λ a. rows_at g (w2.actors a)) + sum_below s.servers (λ x. rows_on (v2.desks x)) =
      ap (λ (z : View). sum_below (actor_count s) (λ a. rows_at g (w2.actors a)) + sum_below s.servers (λ x. rows_on (z.desks x))) same in
      let actors = kept (rows_at g) (λ k. rows_of_errand g.shape (still.errand k) + one_if_any (still.purse k)) in
      let desks = on-desks (sum_by (λ (p : Part). rows_of_part p.state)) in
      omega (arith, is, actors, desks)

  queries-still : (left s w2 g).queries ≡ (left s w g).queries
  queries-still =
      let is : (left s w2 g).queries ≡ sum_below (actor_count s) (λ a. queries_at s v2 g (w2.actors a)) + sum_below s.servers (λ x. queries_on s was.history (v2.desks x)) =
      ap (λ (z : View). sum_below (actor_count s) (λ a. queries_at s z g (w2.actors a)) + sum_below s.servers (λ x. queries_on s z.history (z.desks x))) same
      ∙ ap (λ (past : List Event). sum_below (actor_count s) (λ a. queries_at s v2 g (w2.actors a)) + sum_below s.servers (λ x. queries_on s past (v2.desks x))) history in
      let read : sum_below (actor_count s) (λ a. queries_at s v2 g (w2.actors a)) ≡ sum_below (actor_count s) (λ a. queries_at s was g (w2.actors a)) =
      sum-same (actor_count s) (λ a. queries_at s was g (w2.actors a)) (λ a. queries_at s v2 g (w2.actors a))
      (λ a lt. ap (λ (x : ℕ). of_work queries_of_work (w2.actors a).command + x)
      (errand-queries s w w2 g n v2 same others (inr still) blocks (λ x y. ap (λ (past : List Event). far s.workers past x y) history) (w2.actors a).errand)) in
      let actors = kept (queries_at s was g) (λ k. of_work queries_of_work (still.command k) + queries_of_errand s was g (still.errand k)) in
      let desks = on-desks (sum_by (λ (p : Part). queries_of_state s (far s.workers was.history p.shard p.worker) p.state)) in
      omega (arith, is, read, actors, desks)

  pub all-still : ((left s w2 g).control ≡ (left s w g).control) × ((left s w2 g).gates ≡ (left s w g).gates) × ((left s w2 g).rows ≡ (left s w g).rows) × ((left s w2 g).queries ≡ (left s w g).queries)
  all-still = (control-still, gates-still, rows-still, queries-still)

-- where one number falls and those before it don't rise, less is left
pub queries-fall : (before now : Left) → now.control ≡ before.control → now.gates ≤ before.gates → now.rows ≤ before.rows → now.queries < before.queries → Falls before now
queries-fall before now control gates rows queries = elim (cases_lt now.gates before.gates) [
  | inl less ↦ inr (inl (control, less))
  | inr ge ↦
      let same : now.gates ≡ before.gates = omega (arith, gates, ge) in
      elim (cases_lt now.rows before.rows) [
        | inl less ↦ inr (inr (inl (control, same, less)))
        | inr no_less ↦ inr (inr (inr (control, same, omega (arith, rows, no_less), queries)))
      ]
]
