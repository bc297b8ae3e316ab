-- A step that changes nothing but the stage of an administrator's job: what is left to show is what the new stage says of the state.
use Rattle.std.proofs.Common.{◌≡◌, ℕ, ◌<◌, ◌≤◌, List, Some, refl, sym, ap, ◌∙◌, subst, inl, arith}
use Rattle.cell_stock.specs.declared.purse.Spare.{Spare}
use Rattle.list_words.specs.Counts.{Each}
use Rattle.core_tree.specs.tree_shape.specs.Queries.{NoneWaits}
use Rattle.core_tree.specs.volap_cell.specs.{AdminKinds.at_stage, Falls.{GoesOn, gone_left, job_left, left, stage_left}, Ghost.Ghost, Invariant.InvWith, Setting.Setting, Steps.history_in, Stocking.{all_spares, items_in, spent_of}, Values.{ActorValue, JobValue, StageValue}, View.{View, view}, World.{World, Change, after}}
use Rattle.core_tree.specs.volap_cell.proofs.{OneEvent.Ahead.job-stays, Persons.has-job, Views.Admin.by_job, Views.Fields.{IsNewAt, actor-new}, Views.Frames.{actor-at, actor-off}, Views.Seen.renewed}
use Rattle.core_admin.proofs.{Jobs.Controls.control-falls, Jobs.Staging.{IsAtWork, others-jobless, staged-balancing, staged-numbering, staged-stamping, staged-stocking, staged-telling, staged-working}}

-- an actor's job gets to a stage, and the view has nothing else that is new
pub record Stages (s : Setting) (w : World) (n : ℕ) (cs : List Change) (job : JobValue) (stage : StageValue) (b : ActorValue) : Type 0 where
  pub is_job : (w.actors n).job ≡ Some job
  pub actor_is : b ≡ record (w.actors n) { job = at_stage job stage }
  pub same : view s (after w cs n b) ≡ renewed by_job (view s (after w cs n b)) (view s w)

-- What the new stage says of the state: what its work has come to; it has spent what it had spent before; no spare has a stamp at which
-- a walk from a block that is noted now ends, and no stamp that is given out later is one; and there is less to do.
pub record IsNewStage (s : Setting) (v : View) (g : Ghost) (n : ℕ) (job : JobValue) (stage : StageValue) : Type 0 where
  pub at : IsAtWork s v.history v.blocks v.made v.trees v.phases v.active v.queues (v.purses n) (v.commands n) g.gate g.shape g.placed (record job { stage = stage })
  pub spent : spent_of (Some (record job { stage = stage })) ≡ spent_of (Some job)
  pub waits : (a : ℕ) → Each (λ (x : Spare). NoneWaits x.stamp (items_in stage)) (all_spares v.purses v.jobs a)
  pub fresh : (stamp : ℕ) → v.stock.stamps ≤ stamp → NoneWaits stamp (items_in stage)
  pub less : stage_left s v stage < stage_left s v job.stage

module _ (s : Setting) (w : World) (n : ℕ) (g : Ghost) (i : InvWith s (view s w) g) (cs : List Change) (job : JobValue) (stage : StageValue) (b : ActorValue) (d : Stages s w n cs job stage b) (to : IsNewStage s (view s w) g n job stage) where
  abbrev v : View
  v = view s w

  abbrev w2 : World
  w2 = after w cs n b

  abbrev u : View
  u = view s w2

  new-job : b.job ≡ Some (record job { stage = stage })
  new-job = ap (λ (a : ActorValue). a.job) d.actor_is

  new : IsNewAt u.jobs v.jobs n (Some job) (Some (record job { stage = stage }))
  new =
      let k = actor-new (λ (a : ActorValue). a.job) w.actors n b in
      record { was_there = d.is_job; is_there = k.is_there ∙ new-job; elsewhere = k.elsewhere }

  holds-renewed : InvWith s (renewed by_job u v) g
  holds-renewed = record {
    numbering = staged-numbering s v i.numbering n job stage u.jobs new v.purses (λ a ne. refl);
    telling = staged-telling s v i.numbering n job stage u.jobs new v.history g.placed i.telling;
    owing = i.owing;
    turning = i.turning;
    stocking = staged-stocking s v i.numbering n job stage u.jobs new to.spent v.stock v.made v.gates v.phases v.pins v.gone v.purses g.owner g.shape i.stocking;
    stamping = staged-stamping s v i.numbering n job stage u.jobs new to.spent v.stock v.blocks v.made v.trees v.gates v.phases v.pins v.purses v.reads g.shape i.stamping to.waits to.fresh;
    lineage = i.lineage;
    leading = i.leading;
    growing = i.growing;
    queueing = i.queueing;
    resting = i.resting;
    placing = i.placing;
    inserting = i.inserting;
    imaging = i.imaging;
    covering = i.covering;
    desking = i.desking;
    pinning = i.pinning;
    querying = i.querying;
    working = staged-working s v i.numbering n job stage u.jobs new v.history v.blocks v.made v.trees v.phases v.phases v.active v.queues v.purses v.purses g.gate g.shape g.placed i.working to.at;
    balancing = staged-balancing s v i.numbering n job stage u.jobs new v.history g.placed g.home i.balancing;
    reusing = i.reusing;
  }

  pub stage-holds : InvWith s u g
  stage-holds = subst (λ (x : View). InvWith s x g) (sym d.same) holds-renewed

  pub stage-history : history_in w2 ≡ history_in w
  stage-history = ap (λ (x : View). x.history) d.same

  pub stage-goes_on : GoesOn s (left s w g) (left s w2 g) (history_in w) (history_in w2)
  stage-goes_on =
      let phases : u.phases ≡ v.phases = ap (λ (x : View). x.phases) d.same in
      let gone : u.gone ≡ v.gone = ap (λ (x : View). x.gone) d.same in
      let was : job_left s v (w.actors n).job ≡ stage_left s v job.stage = ap (job_left s v) d.is_job in
      let now : job_left s u b.job ≡ stage_left s v stage = job-stays s v u phases b.job ∙ ap (job_left s v) new-job in
      let less = to.less in
      inl (control-falls s w w2 g g n b (record {
        few = has-job s v i.numbering n job d.is_job;
        at = actor-at w.actors n b;
        off = λ a ne. actor-off w.actors n b a ne;
        jobless = others-jobless s v i.numbering n job d.is_job;
        command = ap (λ (a : ActorValue). a.command) d.actor_is;
        less = omega (arith, was, now, less);
        cells = λ y. λ k. gone_left (phases k y) (gone k y);
      }))
