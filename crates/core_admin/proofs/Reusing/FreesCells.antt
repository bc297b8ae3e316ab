-- A cell of a gate that is gone is used again: the invariant holds still, and one cell less is to be given back.
use Rattle.std.proofs.{Common.{◌≡◌, ℕ, ◌+◌, ◌<◌, ◌≤◌, eqb, List, Option, Some, None, refl, sym, ap, ◌∙◌, arith}, lemmas.Bool.{eqb-true, eqb-false}}
use Rattle.core_tree.specs.shard_store.specs.{declared.gate.Phase.Phase, declared.gate.Phase.TheVariants.Gone}
use Rattle.list_words.proofs.Truth.{on_bool}
use Rattle.core_tree.specs.volap_cell.specs.{Errands.{AtBlock, AtRest, InLeaf, Outside, RowPlace, RowWay}, Falls.{control_of, gone_left, job_left, left, of_work}, Ghost.{AGate, Ghost, InTree, NotOfStock, Owner, is_in_tree}, Invariant.InvWith, Setting.{Setting, actor_count, cell_count}, Sums.sum_below, Turning.{inside_of, is_inside}, Values.{ActorValue, JobValue}, View.{View, view}, World.{Change, World, after}, declared.command.Command.Command, declared.role.Role.TheVariants.Admin}
use Rattle.core_tree.specs.volap_cell.proofs.{Persons.only-admin, Sums.{sum-less, sum-same, sum-zero}, Views.Admin.by_reuse, Views.Frames.unmoved-one, Views.Seen.renewed}
use Rattle.core_admin.proofs.{Postponing.Returned.one, Reusing.Freeing.Freeing}

pub in-tree : (c : ℕ) (o : Owner) → 1 ≤ one (is_in_tree c o) → o ≡ InTree c
in-tree c (InTree d) some = on_bool (eqb d c) (λ q. ap InTree (eqb-true d c q)) (λ q. let none : one (eqb d c) ≡ 0 = ap one q in absurd (omega (arith, none, some)))
in-tree c _ some = absurd (omega (arith, some))

-- The administrator between two commands: nobody has a job, for its command would be the administrator's.

pub no-jobs : (s : Setting) (v : View) (g : Ghost) → InvWith s v g → (n : ℕ) → v.roles n ≡ Admin → v.commands n ≡ None → (a : ℕ) (j : JobValue) → v.jobs a ≡ Some j → ⊥
no-jobs s v g i n admin none a j has =
    let same = only-admin s v i.numbering n a admin (i.numbering.working a j has) in
    let k = i.working.command a j has in
    let no : ◌≡◌ {A = Option Command} None (Some k.0) = sym none ∙ ap v.commands (sym same) ∙ k.1 in cc

-- nobody is in the tree of a gate that is gone

pub idle : (s : Setting) (v : View) (g : Ghost) → InvWith s v g → (c : ℕ) → v.phases c ≡ Some Gone → v.active c ≡ 0
idle s v g i c gone = i.turning.counts c ∙ sum-zero (actor_count s) (λ a. inside_of c (v.ways a)) (λ a lt. by-way a (v.ways a) refl)
  where
    by-place : (a : ℕ) (w : RowWay) → v.ways a ≡ Some w → (place : RowPlace) → w.place ≡ place → is_inside c place ≡ 0
    by-place a w has Outside is = refl
    by-place a w has AtRest is = refl
    by-place a w has (AtBlock d y) is = on_bool (eqb d c)
        (λ q. absurd ((i.turning.carrying a d y w has is).0.stands (ap v.phases (eqb-true d c q) ∙ gone)))
        (λ q. rw q refl)
    by-place a w has (InLeaf d) is = on_bool (eqb d c)
        (λ q. absurd ((i.turning.in_leaf a d w has is).0.stands (ap v.phases (eqb-true d c q) ∙ gone)))
        (λ q. rw q refl)

    by-way : (a : ℕ) (o : Option RowWay) → v.ways a ≡ o → inside_of c o ≡ 0
    by-way a None is = refl
    by-way a (Some w) is = by-place a w is w.place refl

-- What is left, where all that a commit does is seen of these cells.
module _ (s : Setting) (w : World) (cs : List Change) (n : ℕ) (b : ActorValue) (g g2 : Ghost) (i : InvWith s (view s w) g) (command_is : b.command ≡ (w.actors n).command) (job_is : b.job ≡ (w.actors n).job) (none : (a : ℕ) (j : JobValue) → (view s w).jobs a ≡ Some j → ⊥)
    (m : Freeing s (view s (after w cs n b)) (view s w) g) (same : view s (after w cs n b) ≡ renewed by_reuse (view s (after w cs n b)) (view s w))
    (shorter : gone_left ((view s (after w cs n b)).phases m.x) ((view s (after w cs n b)).gone m.x) < gone_left ((view s w).phases m.x) ((view s w).gone m.x)) where
  abbrev v : View
  v = view s w

  abbrev u : View
  u = view s (after w cs n b)

  commands-same : (a : ℕ) → ((after w cs n b).actors a).command ≡ (w.actors a).command
  commands-same = unmoved-one (λ (x : ActorValue). x.command) w.actors n b command_is

  jobs-same : (a : ℕ) → ((after w cs n b).actors a).job ≡ (w.actors a).job
  jobs-same = unmoved-one (λ (x : ActorValue). x.job) w.actors n b job_is

  jobless : (a : ℕ) → (w.actors a).job ≡ None
  jobless a = by (w.actors a).job refl
    where
      by : (o : Option JobValue) → (w.actors a).job ≡ o → (w.actors a).job ≡ None
      by None is = is
      by (Some j) is = absurd (none a j is)

  pub control-less : (left s (after w cs n b) g2).control < (left s w g).control
  control-less =
      let actors : sum_below (actor_count s) (λ a. of_work (control_of s) ((after w cs n b).actors a).command + job_left s u ((after w cs n b).actors a).job)
      ≡ sum_below (actor_count s) (λ a. of_work (control_of s) (w.actors a).command + job_left s v (w.actors a).job) =
      sum-same (actor_count s) (λ a. of_work (control_of s) (w.actors a).command + job_left s v (w.actors a).job) (λ a. of_work (control_of s) ((after w cs n b).actors a).command + job_left s u ((after w cs n b).actors a).job)
      (λ a lt.
      let command = ap (λ (o : Option Command). of_work (control_of s) o) (commands-same a) in
      let now : job_left s u ((after w cs n b).actors a).job ≡ 0 = ap (job_left s u) (jobs-same a ∙ jobless a) in
      let was : job_left s v (w.actors a).job ≡ 0 = ap (job_left s v) (jobless a) in
      omega (arith, command, now, was)) in
      let cells : sum_below (cell_count s) (λ y. gone_left (u.phases y) (u.gone y)) < sum_below (cell_count s) (λ y. gone_left (v.phases y) (v.gone y)) =
      sum-less (cell_count s) (λ y. gone_left (v.phases y) (v.gone y)) (λ y. gone_left (u.phases y) (u.gone y)) m.x
      (i.stocking.within m.x (λ e. let no : AGate ≡ NotOfStock = sym (i.stocking.gate m.x m.is_gate) ∙ e in cc)).1
      shorter
      (λ z ne. on_bool (eqb z m.y)
      (λ q. let free : gone_left (u.phases z) (u.gone z) ≡ 0 = ap (λ (p : Option Phase). gone_left p (u.gone z)) (ap u.phases (eqb-true z m.y q) ∙ m.no_phase) in omega (arith, free))
      (λ q. let off = eqb-false z m.y q in let stays : gone_left (u.phases z) (u.gone z) ≡ gone_left (v.phases z) (v.gone z) = (λ k. gone_left (m.phases_off z off k) (m.gone_off z off ne k)) in omega (arith, stays))) in
      omega (arith, actors, cells)
