-- What is left after a step by which an actor's errand changes, and a part of a desk gives way to others: each of the four numbers.
use Rattle.std.proofs.Common.{◌≡◌, ℕ, ◌+◌, ◌<◌, List, ◌∷◌, ◌++◌, Option, Some, None, refl, ap, arith}
use Rattle.std.specs.Prelude.{sum_by}
use Rattle.query_router.specs.{Desk.DeskValue, declared.part.Part.Part}
use Rattle.row_ledger.specs.declared.event.Event.{Event}
use Rattle.volap_cell.specs.{Errands.{ReadPart, RowWay, Taken}, Falls.{control_of, far, gates_of_errand, gates_of_part, gates_of_work, gone_left, job_left, left, of_work, one_if_any, queries_of_errand, queries_of_state, queries_of_task, queries_of_work, rows_of_errand, rows_of_part}, Ghost.Ghost, Setting.{Setting, actor_count, cell_count}, Sums.sum_below, Values.{ActorValue, ErrandValue, TaskValue, OfRow, Unread, Read}, View.{View, view}, World.{World, Change, after}}
use Rattle.volap_cell.proofs.{Desks.Lists.sum-exchanged, Desks.Shared.TurnsParts, OneEvent.Ahead.job-stays, Sums.{sum-changed, sum-same}, Views.Frames.{actor-at, actor-off}}

-- what is left of a query's part on a desk
abbrev pub queries_of_part : Setting → List Event → Part → ℕ
queries_of_part s h p = queries_of_state s (far s.workers h p.shard p.worker) p.state

-- a view whose desks, parts and pins are new
abbrev pub with_parts : View → (ℕ → DeskValue) → (ℕ → Option Taken) → (ℕ → Option RowWay) → (ℕ → Option ReadPart) → (ℕ → ℕ) → View
with_parts v desks taken ways reads pins = record v { desks = desks; taken = taken; ways = ways; reads = reads; pins = pins }

module _ (s : Setting) (w : World) (g : Ghost) (cs : List Change) (n : ℕ) (b : ActorValue) (desks : ℕ → DeskValue) (taken : ℕ → Option Taken) (ways : ℕ → Option RowWay) (reads : ℕ → Option ReadPart) (pins : ℕ → ℕ) (counted : ℕ → ℕ → List ℕ)
    (same : view s (after w cs n b) ≡ with_parts (view s w) desks taken ways reads pins) (few : n < actor_count s)
    (command : b.command ≡ (w.actors n).command) (job : b.job ≡ (w.actors n).job) (purse : b.purse ≡ (w.actors n).purse)
    (server : ℕ) (within : server < s.servers) (before : List Part) (old : Part) (new behind : List Part) (turn : TurnsParts (view s w).desks desks server before old new behind) where
  abbrev v : View
  v = view s w

  abbrev h : List Event
  h = v.history

  abbrev w2 : World
  w2 = after w cs n b

  abbrev v2 : View
  v2 = with_parts v desks taken ways reads pins

  abbrev g2 : Ghost
  g2 = record g { counted = counted }

  abbrev a : ActorValue
  a = w.actors n

  actors-sum : (F : ActorValue → ℕ) → sum_below (actor_count s) (λ x. F (w2.actors x)) + F a ≡ sum_below (actor_count s) (λ x. F (w.actors x)) + F b
  actors-sum F =
      let changed = sum-changed (actor_count s) (λ x. F (w.actors x)) (λ x. F (w2.actors x)) n (λ x ne. ap F (actor-off w.actors n b x ne)) few in
      let here : F (w2.actors n) ≡ F b = ap F (actor-at w.actors n b) in
      omega (arith, changed, here)

  desks-sum : (f : Part → ℕ) → sum_below s.servers (λ x. sum_by f (desks x).parts) + f old ≡ sum_below s.servers (λ x. sum_by f (v.desks x).parts) + sum_by f new
  desks-sum f =
      let changed = sum-changed s.servers (λ x. sum_by f (v.desks x).parts) (λ x. sum_by f (desks x).parts) server (λ x ne. ap (λ (d : DeskValue). sum_by f d.parts) (turn.elsewhere x ne)) within in
      let was : sum_by f (v.desks server).parts ≡ sum_by f (before ++ old ∷ behind) = ap (sum_by f) turn.was in
      let is : sum_by f (desks server).parts ≡ sum_by f (before ++ (new ++ behind)) = ap (λ (d : DeskValue). sum_by f d.parts) turn.is in
      let exchanged = sum-exchanged f before new behind old in
      omega (arith, changed, was, is, exchanged)

  pub control-same : (left s w2 g2).control ≡ (left s w g).control
  control-same =
      let F : ActorValue → ℕ = λ x. of_work (control_of s) x.command + job_left s v x.job in
      let rest : ℕ = sum_below (cell_count s) (λ y. gone_left (v.phases y) (v.gone y)) in
      let is : (left s w2 g2).control ≡ sum_below (actor_count s) (λ x. of_work (control_of s) (w2.actors x).command + job_left s v2 (w2.actors x).job) + rest =
      ap (λ (z : View). sum_below (actor_count s) (λ x. of_work (control_of s) (w2.actors x).command + job_left s z (w2.actors x).job) + sum_below (cell_count s) (λ y. gone_left (z.phases y) (z.gone y))) same in
      let jobs = sum-same (actor_count s) (λ x. F (w2.actors x)) (λ x. of_work (control_of s) (w2.actors x).command + job_left s v2 (w2.actors x).job)
      (λ x lt. ap (λ (k : ℕ). of_work (control_of s) (w2.actors x).command + k) (job-stays s v v2 refl (w2.actors x).job)) in
      let changed = actors-sum F in
      let kept : F b ≡ F a = (λ k. of_work (control_of s) (command k) + job_left s v (job k)) in
      omega (arith, is, jobs, changed, kept)

  pub gates-turn : (left s w2 g2).gates + (gates_of_errand s h a.errand + gates_of_part s h old) ≡ (left s w g).gates + (gates_of_errand s h b.errand + sum_by (gates_of_part s h) new)
  gates-turn =
      let F : ActorValue → ℕ = λ x. of_work (gates_of_work h) x.command + gates_of_errand s h x.errand in
      let is : (left s w2 g2).gates ≡ sum_below (actor_count s) (λ x. F (w2.actors x)) + sum_below s.servers (λ x. sum_by (gates_of_part s h) (desks x).parts) =
      ap (λ (z : View). sum_below (actor_count s) (λ x. of_work (gates_of_work z.history) (w2.actors x).command + gates_of_errand s z.history (w2.actors x).errand) + sum_below s.servers (λ x. sum_by (gates_of_part s z.history) (z.desks x).parts)) same in
      let changed = actors-sum F in
      let parts = desks-sum (gates_of_part s h) in
      let kept : of_work (gates_of_work h) b.command ≡ of_work (gates_of_work h) a.command = ap (of_work (gates_of_work h)) command in
      omega (arith, is, changed, parts, kept)

  pub rows-turn : (left s w2 g2).rows + (rows_of_errand g.shape a.errand + rows_of_part old.state) ≡ (left s w g).rows + (rows_of_errand g.shape b.errand + sum_by (λ (p : Part). rows_of_part p.state) new)
  rows-turn =
      let F : ActorValue → ℕ = λ x. rows_of_errand g.shape x.errand + one_if_any x.purse in
      let is : (left s w2 g2).rows ≡ sum_below (actor_count s) (λ x. F (w2.actors x)) + sum_below s.servers (λ x. sum_by (λ (p : Part). rows_of_part p.state) (desks x).parts) =
      ap (λ (z : View). sum_below (actor_count s) (λ x. rows_of_errand g.shape (w2.actors x).errand + one_if_any (w2.actors x).purse) + sum_below s.servers (λ x. sum_by (λ (p : Part). rows_of_part p.state) (z.desks x).parts)) same in
      let changed = actors-sum F in
      let parts = desks-sum (λ (p : Part). rows_of_part p.state) in
      let kept : one_if_any b.purse ≡ one_if_any a.purse = ap one_if_any purse in
      omega (arith, is, changed, parts, kept)

  task-stays : (ahead : ℕ) (t : TaskValue) → queries_of_task s v2 g2 ahead t ≡ queries_of_task s v g ahead t
  task-stays ahead (OfRow r) = refl
  task-stays ahead (Unread f) = refl
  task-stays ahead (Read r) = refl

  errand-stays : (x : Option ErrandValue) → queries_of_errand s v2 g2 x ≡ queries_of_errand s v g x
  errand-stays None = refl
  errand-stays (Some x) = task-stays (far s.workers h x.shard x.worker) x.task

  pub queries-turn : (left s w2 g2).queries + (queries_of_errand s v g a.errand + queries_of_part s h old) ≡ (left s w g).queries + (queries_of_errand s v g b.errand + sum_by (queries_of_part s h) new)
  queries-turn =
      let F : ActorValue → ℕ = λ x. of_work queries_of_work x.command + queries_of_errand s v g x.errand in
      let is : (left s w2 g2).queries ≡ sum_below (actor_count s) (λ x. of_work queries_of_work (w2.actors x).command + queries_of_errand s v2 g2 (w2.actors x).errand) + sum_below s.servers (λ x. sum_by (queries_of_part s h) (desks x).parts) =
      ap (λ (z : View). sum_below (actor_count s) (λ x. of_work queries_of_work (w2.actors x).command + queries_of_errand s z g2 (w2.actors x).errand)
      + sum_below s.servers (λ x. sum_by (λ p. queries_of_state s (far s.workers z.history p.shard p.worker) p.state) (z.desks x).parts)) same in
      let errands = sum-same (actor_count s) (λ x. F (w2.actors x)) (λ x. of_work queries_of_work (w2.actors x).command + queries_of_errand s v2 g2 (w2.actors x).errand)
      (λ x lt. ap (λ (k : ℕ). of_work queries_of_work (w2.actors x).command + k) (errand-stays (w2.actors x).errand)) in
      let changed = actors-sum F in
      let parts = desks-sum (queries_of_part s h) in
      let kept : of_work queries_of_work b.command ≡ of_work queries_of_work a.command = ap (of_work queries_of_work) command in
      omega (arith, is, errands, changed, parts, kept)
