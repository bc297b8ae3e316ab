-- What is left after a step of one actor that leaves commands, jobs, desks, the history and the gates' phases as they are, and no tree
-- differently shaped: the controlling stream has as much, and of the rest what the actor's errand and purse make of it.
use Rattle.std.proofs.{Common.{◌≡◌, ◌≢◌, ℕ, ◌+◌, ◌<◌, eqb, arith, List, sym, ap, ◌∙◌, Option}, lemmas.Bool.{eqb-true, eqb-false}}
use Rattle.std.specs.Prelude.{sum_by}
use Rattle.query_router.specs.declared.part.Part.{Part}
use Rattle.row_ledger.specs.declared.event.Event.{Event}
use Rattle.volap_cell.specs.tree_shape.specs.Shape.{Shape}
use Rattle.list_words.proofs.Truth.{on_bool}
use Rattle.volap_cell.specs.{Falls.{control_of, gates_of_errand, gates_of_part, gates_of_work, gone_left, job_left, left, of_work, one_if_any, rows_of_errand, rows_of_part}, Ghost.Ghost, Setting.{Setting, actor_count, cell_count}, Sums.sum_below, Values.ActorValue, View.{View, view}, World.World, declared.command.Command.Command}
use Rattle.volap_cell.proofs.{OneEvent.Ahead.job-stays, Sums.{sum-changed, sum-same}}

-- only the actor n has changed
pub record IsStepOf (s : Setting) (w w2 : World) (n : ℕ) (b : ActorValue) : Type 0 where
  pub few : n < actor_count s
  pub at : w2.actors n ≡ b
  pub off : (a : ℕ) → a ≢ n → w2.actors a ≡ w.actors a
  pub history : (view s w2).history ≡ (view s w).history
  pub desks : (view s w2).desks ≡ (view s w).desks
  pub phases : (view s w2).phases ≡ (view s w).phases
  pub gone : (view s w2).gone ≡ (view s w).gone
  pub command : b.command ≡ (w.actors n).command
  pub job : b.job ≡ (w.actors n).job

module _ (s : Setting) (w w2 : World) (g g2 : Ghost) (n : ℕ) (b : ActorValue) (i : IsStepOf s w w2 n b) where
  abbrev v : View
  v = view s w

  abbrev u : View
  u = view s w2

  -- what the step leaves of the actor it leaves of all
  actor-same : {A : Type 0} (f : ActorValue → A) → f b ≡ f (w.actors n) → (a : ℕ) → f (w2.actors a) ≡ f (w.actors a)
  actor-same f is a = on_bool (eqb a n)
      (λ q. let e = eqb-true _ _ q in ap (λ (z : ℕ). f (w2.actors z)) e ∙ ap f i.at ∙ is ∙ ap (λ (z : ℕ). f (w.actors z)) (sym e))
      (λ q. ap f (i.off a (eqb-false _ _ q)))

  pub control-same : (left s w2 g2).control ≡ (left s w g).control
  control-same =
      let actors = sum-same (actor_count s) (λ a. of_work (control_of s) (w.actors a).command + job_left s v (w.actors a).job) (λ a. of_work (control_of s) (w2.actors a).command + job_left s u (w2.actors a).job)
      (λ a lt.
      let one = actor-same (λ z. of_work (control_of s) z.command) (ap (of_work (control_of s)) i.command) a in
      let two = actor-same (λ z. job_left s u z.job) (ap (job_left s u) i.job) a in
      let three = job-stays s v u i.phases (w.actors a).job in omega arith) in
      let phases = i.phases in
      let gone = i.gone in
      let cells : sum_below (cell_count s) (λ y. gone_left (u.phases y) (u.gone y)) ≡ sum_below (cell_count s) (λ y. gone_left (v.phases y) (v.gone y)) = (λ k. sum_below (cell_count s) (λ y. gone_left (phases k y) (gone k y))) in
      omega arith

  pub gates-changed : (left s w2 g2).gates + gates_of_errand s v.history (w.actors n).errand ≡ (left s w g).gates + gates_of_errand s v.history b.errand
  gates-changed =
      let f : List Event → ℕ → ℕ = λ h a. of_work (gates_of_work h) (w2.actors a).command + gates_of_errand s h (w2.actors a).errand in
      let was : ℕ → ℕ = λ a. of_work (gates_of_work v.history) (w.actors a).command + gates_of_errand s v.history (w.actors a).errand in
      let of_history : sum_below (actor_count s) (f u.history) ≡ sum_below (actor_count s) (f v.history) = ap (λ (h : List Event). sum_below (actor_count s) (f h)) i.history in
      let actors = sum-changed (actor_count s) was (f v.history) n
      (λ a ne. ap (λ (z : ActorValue). of_work (gates_of_work v.history) z.command + gates_of_errand s v.history z.errand) (i.off a ne)) i.few in
      let now : f v.history n ≡ of_work (gates_of_work v.history) (w.actors n).command + gates_of_errand s v.history b.errand =
      ap (λ (z : ActorValue). of_work (gates_of_work v.history) z.command + gates_of_errand s v.history z.errand) i.at
      ∙ ap (λ (c : Option Command). of_work (gates_of_work v.history) c + gates_of_errand s v.history b.errand) i.command in
      let history = i.history in
      let desks = i.desks in
      let parts : sum_below s.servers (λ server. sum_by (gates_of_part s u.history) (u.desks server).parts) ≡ sum_below s.servers (λ server. sum_by (gates_of_part s v.history) (v.desks server).parts) =
      (λ k. sum_below s.servers (λ server. sum_by (gates_of_part s (history k)) (desks k server).parts)) in
      omega arith

  pub rows-changed : g2.shape ≡ g.shape → (left s w2 g2).rows + (rows_of_errand g.shape (w.actors n).errand + one_if_any (w.actors n).purse) ≡ (left s w g).rows + (rows_of_errand g.shape b.errand + one_if_any b.purse)
  rows-changed shapes =
      let f : (ℕ → Shape) → ActorValue → ℕ = λ shape z. rows_of_errand shape z.errand + one_if_any z.purse in
      let of_shape : sum_below (actor_count s) (λ a. f g2.shape (w2.actors a)) ≡ sum_below (actor_count s) (λ a. f g.shape (w2.actors a)) = ap (λ (shape : ℕ → Shape). sum_below (actor_count s) (λ a. f shape (w2.actors a))) shapes in
      let actors = sum-changed (actor_count s) (λ a. f g.shape (w.actors a)) (λ a. f g.shape (w2.actors a)) n (λ a ne. ap (f g.shape) (i.off a ne)) i.few in
      let now : f g.shape (w2.actors n) ≡ f g.shape b = ap (f g.shape) i.at in
      let desks = i.desks in
      let parts : sum_below s.servers (λ server. sum_by (λ (p : Part). rows_of_part p.state) (u.desks server).parts) ≡ sum_below s.servers (λ server. sum_by (λ (p : Part). rows_of_part p.state) (v.desks server).parts) =
      (λ k. sum_below s.servers (λ server. sum_by (λ (p : Part). rows_of_part p.state) (desks k server).parts)) in
      omega arith
