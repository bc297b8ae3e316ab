-- What is left after an actor's step that notes an event which splits and moves no shard, and that changes its command and one desk.
use Rattle.std.proofs.{Common.{◌≡◌, ℕ, ◌+◌, ◌*◌, ◌-◌, ◌<◌, ◌≤◌, List, ◌∷◌, false, Option, Some, None, refl, ap, arith, ◌∙◌, All}, lemmas.List.Elements.All-weaker, lemmas.List.Sums.sum_by-le}
use Rattle.std.specs.{Option.option_map_or, Prelude.sum_by}
use mathlib.Core.Path.{fun_ext}
use Rattle.query_router.specs.{Desk.DeskValue, declared.part.Part.Part}
use Rattle.row_ledger.specs.{Changes.ShardsStay, declared.event.Event.Event}
use Rattle.volap_cell.specs.{Falls.{blocks_left, control_of, far, gates_of_errand, gates_of_part, gates_of_work, gone_left, is_split_or_move, job_left, left, of_work, one_if_any, per_query, queries_of_errand, queries_of_state, queries_of_task, queries_of_work, rows_of_errand, rows_of_part}, Ghost.Ghost, Setting.{Setting, actor_count, cell_count}, Sums.sum_below, Values.{ActorValue, ErrandValue, TaskValue, OfRow, Unread, Read}, View.{View, view}, World.{World, Change, after}}
use Rattle.volap_cell.proofs.{OneEvent.Ahead.{command-stays, errand-stays, far-stays, job-stays, part-stays}, Sums.{sum-changed, sum-same}, Views.Fields.IsNewAt, Views.Frames.{actor-at, actor-off}}

-- parts of which each has nothing left have nothing left together
pub nothing-of : (f : Part → ℕ) (parts : List Part) → All (λ (p : Part). f p ≡ 0) parts → sum_by f parts ≡ 0
nothing-of f parts none = (let most = sum_by-le f 0 parts (All-weaker (λ (p : Part). f p ≡ 0) (λ (p : Part). f p ≤ 0) (λ p is. omega (arith, is)) parts none) in omega (arith, most))

-- what the actor's step leaves
pub record IsSteady (was now : ActorValue) : Type 0 where
  pub errand : now.errand ≡ was.errand
  pub purse : now.purse ≡ was.purse
  pub job : now.job ≡ was.job

module _ (s : Setting) (w : World) (cs : List Change) (n : ℕ) (b : ActorValue) (e : Event) (v2 : View) (few : n < actor_count s) (same : view s (after w cs n b) ≡ v2) (grown : v2.history ≡ e ∷ (view s w).history)
    (stay : ShardsStay s.workers e (view s w).history) (other : is_split_or_move e ≡ false) (steady : IsSteady (w.actors n) b) where
  abbrev v : View
  v = view s w

  abbrev h : List Event
  h = v.history

  abbrev w2 : World
  w2 = after w cs n b

  abbrev a1 : ActorValue
  a1 = w.actors n

  -- a sum over actors, where the numbers of others stay
  of-actors : (f f2 : ActorValue → ℕ) → ((x : ActorValue) → f2 x ≡ f x) → sum_below (actor_count s) (λ a. f2 (w2.actors a)) + f a1 ≡ sum_below (actor_count s) (λ a. f (w.actors a)) + f2 b
  of-actors f f2 alike =
      let one = sum-changed (actor_count s) (λ a. f (w.actors a)) (λ a. f (w2.actors a)) n (λ a ne. ap f (actor-off w.actors n b a ne)) few in
      let all = sum-same (actor_count s) (λ a. f (w2.actors a)) (λ a. f2 (w2.actors a)) (λ a lt. alike (w2.actors a)) in
      let here : f (w2.actors n) ≡ f b = ap f (actor-at w.actors n b) in
      let there = alike b in omega (arith, one, all, here, there)

  -- a sum over desks, of which one changes
  of-desks : (f f2 : Part → ℕ) → ((x : Part) → f2 x ≡ f x) → (x : ℕ) (old new : DeskValue) → x < s.servers → IsNewAt v2.desks v.desks x old new
      → sum_below s.servers (λ y. sum_by f2 (v2.desks y).parts) + sum_by f old.parts ≡ sum_below s.servers (λ y. sum_by f (v.desks y).parts) + sum_by f new.parts
  of-desks f f2 alike x old new lt turned =
      let tests : f2 ≡ f = fun_ext alike in
      let one = sum-changed s.servers (λ y. sum_by f (v.desks y).parts) (λ y. sum_by f (v2.desks y).parts) x (λ y ne. ap (λ (d : DeskValue). sum_by f d.parts) (turned.elsewhere y ne)) lt in
      let was : sum_by f (v.desks x).parts ≡ sum_by f old.parts = ap (λ (d : DeskValue). sum_by f d.parts) turned.was_there in
      let now : sum_by f (v2.desks x).parts ≡ sum_by f new.parts = ap (λ (d : DeskValue). sum_by f d.parts) turned.is_there in
      let all : sum_below s.servers (λ y. sum_by f2 (v2.desks y).parts) ≡ sum_below s.servers (λ y. sum_by f (v2.desks y).parts) = ap (λ (k : Part → ℕ). sum_below s.servers (λ y. sum_by k (v2.desks y).parts)) tests in
      omega (arith, one, was, now, all)

  pub control-goes : (g g2 : Ghost) → v2.phases ≡ v.phases → v2.gone ≡ v.gone → (left s w2 g2).control + of_work (control_of s) a1.command ≡ (left s w g).control + of_work (control_of s) b.command
  control-goes g g2 phases gone =
      let f : View → ActorValue → ℕ = λ z x. of_work (control_of s) x.command + job_left s z x.job in
      let is : (left s w2 g2).control ≡ sum_below (actor_count s) (λ a. f v2 (w2.actors a)) + sum_below (cell_count s) (λ y. gone_left (v2.phases y) (v2.gone y)) =
      ap (λ (z : View). sum_below (actor_count s) (λ a. f z (w2.actors a)) + sum_below (cell_count s) (λ y. gone_left (z.phases y) (z.gone y))) same in
      let cells : sum_below (cell_count s) (λ y. gone_left (v2.phases y) (v2.gone y)) ≡ sum_below (cell_count s) (λ y. gone_left (v.phases y) (v.gone y)) = (λ k. sum_below (cell_count s) (λ y. gone_left (phases k y) (gone k y))) in
      let actors = of-actors (f v) (f v2) (λ x. let stays = job-stays s v v2 phases x.job in omega (arith, stays)) in
      let job : job_left s v b.job ≡ job_left s v a1.job = ap (job_left s v) steady.job in
      let stays = job-stays s v v2 phases b.job in
      omega (arith, is, cells, actors, job, stays)

  pub gates-go : (g g2 : Ghost) (x : ℕ) (old new : DeskValue) → x < s.servers → IsNewAt v2.desks v.desks x old new
      → (left s w2 g2).gates + of_work (gates_of_work h) a1.command + sum_by (gates_of_part s h) old.parts ≡ (left s w g).gates + of_work (gates_of_work h) b.command + sum_by (gates_of_part s h) new.parts
  gates-go g g2 x old new lt turned =
      let f : List Event → ActorValue → ℕ = λ past x. of_work (gates_of_work past) x.command + gates_of_errand s past x.errand in
      let is : (left s w2 g2).gates ≡ sum_below (actor_count s) (λ a. f (e ∷ h) (w2.actors a)) + sum_below s.servers (λ y. sum_by (gates_of_part s (e ∷ h)) (v2.desks y).parts) =
      ap (λ (z : View). sum_below (actor_count s) (λ a. f z.history (w2.actors a)) + sum_below s.servers (λ y. sum_by (gates_of_part s z.history) (z.desks y).parts)) same
      ∙ ap (λ (past : List Event). sum_below (actor_count s) (λ a. f past (w2.actors a)) + sum_below s.servers (λ y. sum_by (gates_of_part s past) (v2.desks y).parts)) grown in
      let actors = of-actors (f h) (f (e ∷ h)) (λ x. let one = command-stays s.workers e h stay other x.command in let two = errand-stays s e h stay other x.errand in omega (arith, one, two)) in
      let desks = of-desks (gates_of_part s h) (gates_of_part s (e ∷ h)) (λ p. part-stays s e h stay other p) x old new lt turned in
      let errand : gates_of_errand s h b.errand ≡ gates_of_errand s h a1.errand = ap (gates_of_errand s h) steady.errand in
      let command = command-stays s.workers e h stay other b.command in
      let same_errand = errand-stays s e h stay other b.errand in
      omega (arith, is, actors, desks, errand, command, same_errand)

  pub rows-go : (g g2 : Ghost) (x : ℕ) (old new : DeskValue) → g2.shape ≡ g.shape → x < s.servers → IsNewAt v2.desks v.desks x old new
      → (left s w2 g2).rows + sum_by (λ (p : Part). rows_of_part p.state) old.parts ≡ (left s w g).rows + sum_by (λ (p : Part). rows_of_part p.state) new.parts
  rows-go g g2 x old new shapes lt turned =
      let f : Ghost → ActorValue → ℕ = λ k x. rows_of_errand k.shape x.errand + one_if_any x.purse in
      let d : Part → ℕ = λ p. rows_of_part p.state in
      let is : (left s w2 g2).rows ≡ sum_below (actor_count s) (λ a. f g2 (w2.actors a)) + sum_below s.servers (λ y. sum_by d (v2.desks y).parts) =
      ap (λ (z : View). sum_below (actor_count s) (λ a. f g2 (w2.actors a)) + sum_below s.servers (λ y. sum_by d (z.desks y).parts)) same in
      let actors = of-actors (f g) (f g2) (λ x. λ k. rows_of_errand (shapes k) x.errand + one_if_any x.purse) in
      let desks = of-desks d d (λ p. refl) x old new lt turned in
      let kept : f g2 b ≡ f g a1 = (λ k. rows_of_errand (shapes k) (steady.errand k) + one_if_any (steady.purse k)) in
      omega (arith, is, actors, desks, kept)

  -- Queries.

  task-stays : (g : Ghost) (x y : ℕ) → v2.blocks ≡ v.blocks → (t : TaskValue) → queries_of_task s v2 g (far s.workers (e ∷ h) x y) t ≡ queries_of_task s v g (far s.workers h x y) t
  task-stays g x y blocks (OfRow r) = refl
  task-stays g x y blocks (Unread f) = ap (λ (m : ℕ). per_query s * m - 1) (far-stays s.workers e h stay other x y)
  task-stays g x y blocks (Read r) = λ k. 2 + option_map_or (λ c. blocks_left (blocks k) (cell_count s) (g.shape c) r.items) r.pin 0

  of-errand : (g : Ghost) → v2.blocks ≡ v.blocks → (errand : Option ErrandValue) → queries_of_errand s v2 g errand ≡ queries_of_errand s v g errand
  of-errand g blocks None = refl
  of-errand g blocks (Some x) = ap (λ (past : List Event). queries_of_task s v2 g (far s.workers past x.shard x.worker) x.task) grown ∙ task-stays g x.shard x.worker blocks x.task

  pub queries-go : (g : Ghost) (x : ℕ) (old new : DeskValue) → v2.blocks ≡ v.blocks → x < s.servers → IsNewAt v2.desks v.desks x old new
      → (left s w2 g).queries + of_work queries_of_work a1.command + sum_by (λ (p : Part). queries_of_state s (far s.workers h p.shard p.worker) p.state) old.parts
      ≡ (left s w g).queries + of_work queries_of_work b.command + sum_by (λ (p : Part). queries_of_state s (far s.workers h p.shard p.worker) p.state) new.parts
  queries-go g x old new blocks lt turned =
      let f : View → ActorValue → ℕ = λ z x. of_work queries_of_work x.command + queries_of_errand s z g x.errand in
      let d : List Event → Part → ℕ = λ past p. queries_of_state s (far s.workers past p.shard p.worker) p.state in
      let is : (left s w2 g).queries ≡ sum_below (actor_count s) (λ a. f v2 (w2.actors a)) + sum_below s.servers (λ y. sum_by (d (e ∷ h)) (v2.desks y).parts) =
      ap (λ (z : View). sum_below (actor_count s) (λ a. f z (w2.actors a)) + sum_below s.servers (λ y. sum_by (d z.history) (z.desks y).parts)) same
      ∙ ap (λ (past : List Event). sum_below (actor_count s) (λ a. f v2 (w2.actors a)) + sum_below s.servers (λ y. sum_by (d past) (v2.desks y).parts)) grown in
      let actors = of-actors (f v) (f v2) (λ x. let one = of-errand g blocks x.errand in omega (arith, one)) in
      let desks = of-desks (d h) (d (e ∷ h)) (λ p. ap (λ (m : ℕ). queries_of_state s m p.state) (far-stays s.workers e h stay other p.shard p.worker)) x old new lt turned in
      let errand : queries_of_errand s v g b.errand ≡ queries_of_errand s v g a1.errand = ap (queries_of_errand s v g) steady.errand in
      let kept = of-errand g blocks b.errand in
      omega (arith, is, actors, desks, errand, kept)
