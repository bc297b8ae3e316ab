-- What is left of parts and inserts stays with an event that splits and moves no shard, and what is left of a job goes by the phases of gates alone.
use Rattle.std.proofs.Common.{◌≡◌, ℕ, ◌+◌, ◌*◌, ◌-◌, List, [], ◌∷◌, Bool, true, false, length, refl, ap, ◌∙◌, arith, ◌==◌, Option, Some, None}
use mathlib.Core.Path.{fun_ext}
use Rattle.std.specs.Prelude.{if◌then◌else◌, sum_by}
use Rattle.query_router.specs.declared.part.Part.{Part}
use Rattle.row_ledger.specs.{Changes.ShardsStay, declared.event.Event.Event, declared.event.Event.TheVariants.{Split, Moved}}
use Rattle.volap_cell.specs.{Falls.{count_events, departure, far, farthest, gates_of_errand, gates_of_part, gates_of_state, gates_of_task, gates_of_work, is_from, is_split_or_move, job_left, moves_ahead, of_work, per_gate, plenty, splits_under, stage_left, frozen_upto}, Lineage.went_to, Setting.{Setting, cell_count}, Values.{ErrandValue, JobValue, StageValue, IsCalled, IsDeclined, IsFrozen, Collects, Builds}, View.View, declared.command.Command.Command, declared.command.Work.Work}
use Rattle.shard_build.specs.shard_store.specs.declared.gate.Phase.{Phase}
use Rattle.volap_cell.specs.declared.command.Work.TheVariants as work_is
use Rattle.volap_cell.proofs.OneEvent.Older.{comes-stays}

count-same : (test other : Event → ℕ → Bool) → ((e : Event) (p : ℕ) → test e p ≡ other e p) → (h : List Event) → count_events test h ≡ count_events other h
count-same test other same [] = refl
count-same test other same (e ∷ past) =
    let here = same e (length past) in
    let rest = count-same test other same past in
    λ k. (if here k then 1 else 0) + rest k

-- 1 where a test passes
abbrev once : Bool → ℕ
once b = if b then 1 else 0

no-split : (h : List Event) (x : ℕ) (e : Event) → is_split_or_move e ≡ false → splits_under h x e ≡ false
no-split h x (Split of shard left right) is = absurd (cc)
no-split h x _ is = refl

no-move : (h : List Event) (x : ℕ) (at : Option ℕ) (e : Event) (p : ℕ) → is_split_or_move e ≡ false → moves_ahead h x at e p ≡ false
no-move h x at (Moved of shard worker) p is = absurd (cc)
no-move h x at _ p is = refl

went-stays : (e : Event) (h : List Event) → is_split_or_move e ≡ false → (x w : ℕ) → went_to (e ∷ h) x w ≡ went_to h x w
went-stays (Moved of shard worker) h is x w = absurd (cc)
went-stays _ h is x w = refl

module _ (workers : ℕ) (e : Event) (h : List Event) (stay : ShardsStay workers e h) (other : is_split_or_move e ≡ false) where
  splits-stay : (x : ℕ) (f : Event) → splits_under (e ∷ h) x f ≡ splits_under h x f
  splits-stay x (Split of shard left right) = comes-stays workers e h stay x shard
  splits-stay x _ = refl

  moves-stay : (x : ℕ) (at : Option ℕ) (f : Event) (p : ℕ) → moves_ahead (e ∷ h) x at f p ≡ moves_ahead h x at f p
  moves-stay x at (Moved of shard worker) p = ap (λ (b : Bool). if shard == x then is_from at p else b) (comes-stays workers e h stay x shard)
  moves-stay x at _ p = refl

  pub far-stays : (x w : ℕ) → far workers (e ∷ h) x w ≡ far workers h x w
  far-stays x w =
      let went = went-stays e h other x w in
      let left : departure workers (e ∷ h) x w ≡ departure workers h x w = (λ k. if went k then None else stay.left_at x w k) in
      let no_split : once (splits_under (e ∷ h) x e) ≡ 0 = ap once (no-split (e ∷ h) x e other) in
      let splits : count_events (λ f p. splits_under (e ∷ h) x f) h ≡ count_events (λ f p. splits_under h x f) h = count-same (λ f p. splits_under (e ∷ h) x f) (λ f p. splits_under h x f) (λ f p. splits-stay x f) h in
      let at = departure workers (e ∷ h) x w in
      let no_move : once (moves_ahead (e ∷ h) x at e (length h)) ≡ 0 = ap once (no-move (e ∷ h) x at e (length h) other) in
      let moves : count_events (moves_ahead (e ∷ h) x at) h ≡ count_events (moves_ahead h x (departure workers h x w)) h =
      count-same (moves_ahead (e ∷ h) x at) (moves_ahead h x at) (moves-stay x at) h ∙ ap (λ (o : Option ℕ). count_events (moves_ahead h x o) h) left in
      omega (arith, no_split, splits, no_move, moves)

  pub farthest-stays : farthest (e ∷ h) ≡ farthest h
  farthest-stays = (let none : once (is_split_or_move e) ≡ 0 = ap once other in omega (arith, none))

  pub work-stays : (work : Work) → gates_of_work (e ∷ h) work ≡ gates_of_work h work
  work-stays (work_is.Insert row false) = (let same = farthest-stays in ap (λ (n : ℕ). per_gate * n + 1) same)
  work-stays (work_is.Insert row true) = refl
  work-stays _ = refl

  pub command-stays : (command : Option Command) → of_work (gates_of_work (e ∷ h)) command ≡ of_work (gates_of_work h) command
  command-stays None = refl
  command-stays (Some c) = work-stays c.work

-- of an errand, and of a part on a desk
module _ (s : Setting) (e : Event) (h : List Event) (stay : ShardsStay s.workers e h) (other : is_split_or_move e ≡ false) where
  pub errand-stays : (errand : Option ErrandValue) → gates_of_errand s (e ∷ h) errand ≡ gates_of_errand s h errand
  errand-stays None = refl
  errand-stays (Some errand) = ap (λ (n : ℕ). gates_of_task n errand.task) (far-stays s.workers e h stay other errand.shard errand.worker)

  pub part-stays : (p : Part) → gates_of_part s (e ∷ h) p ≡ gates_of_part s h p
  part-stays p = ap (λ (n : ℕ). gates_of_state n p.path p.state) (far-stays s.workers e h stay other p.shard p.worker)

  pub parts-stay : (ps : List Part) → sum_by (gates_of_part s (e ∷ h)) ps ≡ sum_by (gates_of_part s h) ps
  parts-stay ps = ap (λ (f : Part → ℕ). sum_by f ps) (fun_ext part-stays)

-- Jobs.

stage-stays : (s : Setting) (v now : View) → now.phases ≡ v.phases → (stage : StageValue) → stage_left s now stage ≡ stage_left s v stage
stage-stays s v now same IsCalled = refl
stage-stays s v now same (IsDeclined why) = refl
stage-stays s v now same (IsFrozen f) = refl
stage-stays s v now same (Collects c) = ap (λ (phases : ℕ → Option Phase). 3 * plenty s + 1 + (cell_count s - length c.read) + (frozen_upto (phases c.frozen.gate) - c.queued)) same
stage-stays s v now same (Builds b) = refl

pub job-stays : (s : Setting) (v now : View) → now.phases ≡ v.phases → (job : Option JobValue) → job_left s now job ≡ job_left s v job
job-stays s v now same None = refl
job-stays s v now same (Some job) = stage-stays s v now same job.stage
