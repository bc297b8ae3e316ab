-- Less is left of what the controlling stream has, where the one administrator's job has come further.
use Rattle.std.proofs.Common.{◌≡◌, ◌≢◌, ℕ, ◌+◌, ◌<◌, ◌≤◌, Option, None, ap, ◌∙◌, inl, arith}
use Rattle.core_tree.specs.volap_cell.specs.{Falls.{Falls, control_of, gone_left, job_left, left, of_work}, Ghost.Ghost, Setting.{Setting, actor_count, cell_count}, Values.ActorValue, View.view, World.World, declared.command.Command.Command}
use Rattle.core_tree.specs.volap_cell.proofs.Sums.{sum-less, sum-same}

-- the actor n alone has changed, its command is as before, and there is less to do for its job; nobody else has one
pub record IsFurther (s : Setting) (w w2 : World) (n : ℕ) (b : ActorValue) : Type 0 where
  pub few : n < actor_count s
  pub at : w2.actors n ≡ b
  pub off : (a : ℕ) → a ≢ n → w2.actors a ≡ w.actors a
  pub jobless : (a : ℕ) → a ≢ n → (w.actors a).job ≡ None
  pub command : b.command ≡ (w.actors n).command
  pub less : job_left s (view s w2) b.job < job_left s (view s w) (w.actors n).job
  pub cells : (y : ℕ) → gone_left ((view s w2).phases y) ((view s w2).gone y) ≡ gone_left ((view s w).phases y) ((view s w).gone y)

pub control-falls : (s : Setting) (w w2 : World) (g g2 : Ghost) (n : ℕ) (b : ActorValue) → IsFurther s w w2 n b → Falls (left s w g) (left s w2 g2)
control-falls s w w2 g g2 n b i =
    let v = view s w in
    let u = view s w2 in
    let was : ℕ → ℕ = λ a. of_work (control_of s) (w.actors a).command + job_left s v (w.actors a).job in
    let now : ℕ → ℕ = λ a. of_work (control_of s) (w2.actors a).command + job_left s u (w2.actors a).job in
    let here : now n ≡ of_work (control_of s) (w.actors n).command + job_left s u b.job =
    ap (λ (x : ActorValue). of_work (control_of s) x.command + job_left s u x.job) i.at ∙ ap (λ (c : Option Command). of_work (control_of s) c + job_left s u b.job) i.command in
    let less = i.less in
    let others : (a : ℕ) → a ≢ n → now a ≤ was a = λ a ne.
    let same : now a ≡ of_work (control_of s) (w.actors a).command + job_left s u (w.actors a).job = ap (λ (x : ActorValue). of_work (control_of s) x.command + job_left s u x.job) (i.off a ne) in
    let none_now : job_left s u (w.actors a).job ≡ 0 = ap (job_left s u) (i.jobless a ne) in
    omega (arith, same, none_now) in
    let actors = sum-less (actor_count s) was now n i.few (omega (arith, here, less)) others in
    let cells = sum-same (cell_count s) (λ y. gone_left (v.phases y) (v.gone y)) (λ y. gone_left (u.phases y) (u.gone y)) (λ y lt. i.cells y) in
    inl (omega (arith, actors, cells))
