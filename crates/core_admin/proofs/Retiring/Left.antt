-- What is left of control where a gate is retired: its cells are to be given back, which is less than was left of its job.
use Rattle.std.proofs.{Common.{◌≡◌, ◌≢◌, ℕ, ◌+◌, ◌*◌, ◌<◌, ◌≤◌, Bool, true, false, cond, eqb, [], length, Option, Some, None, refl, sym, ap, ◌∙◌, inl, inr, arith}, lemmas.Bool.{cases_lt, eqb-true, eqb-false, ne_eqb}}
use Rattle.core_tree.specs.shard_store.specs.declared.gate.Phase.{Phase}
use Rattle.list_words.specs.Counts.{times}
use Rattle.list_words.proofs.Truth.{on_bool, eqb-self}
use Rattle.core_tree.specs.volap_cell.specs.{Falls.{control_of, gone_left, job_left, left, of_work, plenty, stage_left}, Ghost.{AGate, Ghost, InTree, NotOfStock}, Invariant.InvWith, Setting.{Setting, actor_count, cell_count}, Sums.sum_below, Values.{ActorValue, BuildingValue, Builds, JobValue, StageValue}, View.{View, view}, World.World, declared.command.Command.Command}
use Rattle.core_tree.specs.volap_cell.proofs.{Counting.length-few, Persons.has-job, Sums.{sum-beyond, sum-changed, sum-no-more}}
use Rattle.core_admin.proofs.{Jobs.JobsGoOn.only-one, Retiring.Gates.{Retiring, old-whole}}

-- one summand is more by so much at most, and the others are no more
sum-one-more : (m : ℕ) (f f2 : ℕ → ℕ) (x k : ℕ) → ((z : ℕ) → z ≢ x → f2 z ≤ f z) → f2 x ≤ f x + k → sum_below m f2 ≤ sum_below m f + k
sum-one-more m f f2 x k others here =
    let more : ℕ → ℕ = λ z. cond (eqb z x) (f x + k) (f z) in
    let at : more x ≡ f x + k = rw (eqb-self x) refl in
    let off : (z : ℕ) → z ≢ x → more z ≡ f z = λ z ne. (rw (ne_eqb z x ne) refl) in
    let le = sum-no-more m more f2 (λ z lt. on_bool (eqb z x)
    (λ q. let is = eqb-true z x q in let a : f2 z ≡ f2 x = ap f2 is in let b : more z ≡ f x + k = ap more is ∙ at in omega (arith, a, b, here))
    (λ q. let ne = eqb-false z x q in let a = others z ne in let b = off z ne in omega (arith, a, b))) in
    elim (cases_lt x m) [
      | inl lt ↦ (let changed = sum-changed m f more x off lt in omega (arith, le, changed, at))
      | inr ge ↦ (let beyond = sum-beyond m f more x off ge in omega (arith, le, beyond))
    ]

module _ (s : Setting) (w w2 : World) (v2 : View) (g g2 : Ghost) (n : ℕ) (i : InvWith s (view s w) g) (m : Retiring s (view s w) v2 g g2 n) (same : view s w2 ≡ v2) (others : (a : ℕ) → a ≢ n → w2.actors a ≡ w.actors a)
    (its command2 : Option Command) (job : JobValue) (job2 : Option JobValue) (building : BuildingValue) (command_was : (w.actors n).command ≡ its) (command_is : (w2.actors n).command ≡ command2) (job_was : (w.actors n).job ≡ Some job)
    (job_is : (w2.actors n).job ≡ job2) (stage : job.stage ≡ Builds building) (unbuilt : building.unbuilt ≡ []) where
  abbrev v : View
  v = view s w

  gone-few : length (v2.gone m.x) ≤ cell_count s
  gone-few = length-few (v2.gone m.x) (cell_count s)
      (λ y. let k = m.read_x y in at-most ((g.shape m.x).inside y) (eqb y m.x) (times y (v2.gone m.x)) k)
      (λ y some.
      let k = m.read_x y in
      let in_tree = is-inside ((g.shape m.x).inside y) (eqb y m.x) (times y (v2.gone m.x)) k some in
      (i.stocking.within y (λ e. on_bool (eqb y m.x)
      (λ q. let no : AGate ≡ NotOfStock = sym (ap g.owner (eqb-true y m.x q) ∙ i.stocking.gate m.x (old-whole s v v2 g g2 n i m).0) ∙ e in cc)
      (λ q. let own = (i.stocking.tree m.x y (old-whole s v v2 g g2 n i m) in_tree (eqb-false y m.x q)).0 in let no : InTree m.x ≡ NotOfStock = sym own ∙ e in cc))).1)
    where
      at-most : (a b : Bool) (k : ℕ) → k ≡ cond a (cond b 0 1) 0 → k ≤ 1
      at-most true true k e = omega (arith, e)
      at-most true false k e = omega (arith, e)
      at-most false b k e = omega (arith, e)

      is-inside : (a b : Bool) (k : ℕ) → k ≡ cond a (cond b 0 1) 0 → 1 ≤ k → a ≡ true
      is-inside true b k e some = refl
      is-inside false b k e some = absurd (omega (arith, e, some))

  cells-more : sum_below (cell_count s) (λ y. gone_left (v2.phases y) (v2.gone y)) ≤ sum_below (cell_count s) (λ y. gone_left (v.phases y) (v.gone y)) + (1 + length (v2.gone m.x))
  cells-more = sum-one-more (cell_count s) (λ y. gone_left (v.phases y) (v.gone y)) (λ y. gone_left (v2.phases y) (v2.gone y)) m.x (1 + length (v2.gone m.x))
      (λ z ne. on_bool (m.new z)
      (λ q. let none : gone_left (v2.phases z) (v2.gone z) ≡ 0 = ap (λ (p : Option Phase). gone_left p (v2.gone z)) (m.phase_new z q) in omega (arith, none))
      (λ q. let same : gone_left (v2.phases z) (v2.gone z) ≡ gone_left (v.phases z) (v.gone z) = (λ k. gone_left (m.phases_off z q ne k) (m.gone_off z q ne k)) in omega (arith, same)))
      (let here : gone_left (v2.phases m.x) (v2.gone m.x) ≡ 1 + length (v2.gone m.x) = ap (λ (p : Option Phase). gone_left p (v2.gone m.x)) m.phase_x in omega (arith, here))

  jobless : (a : ℕ) → a ≢ n → v.jobs a ≡ None
  jobless a ne = by (v.jobs a) refl
    where
      by : (o : Option JobValue) → v.jobs a ≡ o → v.jobs a ≡ None
      by None is = is
      by (Some j) is = absurd (ne (only-one s v g i a n j job is job_was))

  pub control-retired : of_work (control_of s) command2 + job_left s v2 job2 + (1 + cell_count s) < of_work (control_of s) its + (2 * plenty s + 1) → (left s w2 g2).control < (left s w g).control
  control-retired less =
      let f : View → World → ℕ → ℕ = λ z x a. of_work (control_of s) (x.actors a).command + job_left s z (x.actors a).job in
      let is : (left s w2 g2).control ≡ sum_below (actor_count s) (f v2 w2) + sum_below (cell_count s) (λ y. gone_left (v2.phases y) (v2.gone y)) =
      ap (λ (z : View). sum_below (actor_count s) (f z w2) + sum_below (cell_count s) (λ y. gone_left (z.phases y) (z.gone y))) same in
      let there = has-job s v i.numbering n job job_was in
      let actors = sum-changed (actor_count s) (f v w) (f v2 w2) n
      (λ a ne. ap (λ (x : ActorValue). of_work (control_of s) x.command + job_left s v2 x.job) (others a ne)
      ∙ ap (λ (o : Option JobValue). of_work (control_of s) (w.actors a).command + job_left s v2 o) (jobless a ne)
      ∙ sym (ap (λ (o : Option JobValue). of_work (control_of s) (w.actors a).command + job_left s v o) (jobless a ne))) there in
      let was : f v w n ≡ of_work (control_of s) its + (2 * plenty s + 1) =
      (λ k. of_work (control_of s) (command_was k) + job_left s v (job_was k)) ∙ ap (λ (st : StageValue). of_work (control_of s) its + stage_left s v st) stage ∙ none-left in
      let now : f v2 w2 n ≡ of_work (control_of s) command2 + job_left s v2 job2 = (λ k. of_work (control_of s) (command_is k) + job_left s v2 (job_is k)) in
      let cells = cells-more in
      let few = gone-few in
      omega (arith, is, actors, was, now, cells, few, less)
    where
      none-left : of_work (control_of s) its + (2 * plenty s + 1 + length building.unbuilt) ≡ of_work (control_of s) its + (2 * plenty s + 1)
      none-left = (let none : length building.unbuilt ≡ 0 = ap length unbuilt in omega (arith, none))
