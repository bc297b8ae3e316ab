-- With nothing noted any more, the next row of the queue is collected.
use Rattle.std.proofs.{Common.{◌≡◌, ℕ, ◌+◌, List, [], ◌∷◌, ◌++◌, take, Some, refl, sym, ap, ◌∙◌, arith, append_assoc, slice_get}, lemmas.List.take_more, lemmas.Option.{get_or_from_slice_get, slice_get_within}}
use Rattle.dim_hierarchy.specs.declared.row.Row.{Row}
use Rattle.core_tree.specs.shard_store.specs.declared.gate.Phase.TheVariants as phase
use Rattle.core_tree.specs.shard_store.specs.declared.queue.Queue.{Queue}
use Rattle.core_tree.specs.volap_cell.specs.{AdminKinds.CollectsQueued, Cells.{GateCell, phase_of, queue_in}, Falls.{frozen_upto, stage_left}, Ghost.Ghost, Invariant.InvWith, Kinds.Does, Setting.Setting, Steps.IsKept, Stocking.items_in, Values.{ActorValue, CollectingValue, Collects}, View.{View, view}, Working.IsCollected, World.{Agrees, Change, World, after}, declared.kind.Kind.TheVariants.Collect}
use Rattle.core_tree.specs.volap_cell.proofs.Views.Admin.{view-collect_queued}
use Rattle.core_admin.proofs.{Collecting.SoFar.{goes-on, none-spent, so-far}, Collecting.Stages.{job-fresh, job-waits}, Jobs.Stages.{IsNewStage, Stages, stage-goes_on, stage-history, stage-holds}}

row-there : (rows : List Row) (k : ℕ) (r : Row) → slice_get rows k ≡ Some r → take (k + 1) rows ≡ take k rows ++ r ∷ []
row-there rows k r is = take_more rows k r (slice_get_within rows k r is) ∙ ap (λ (x : Row). take k rows ++ x ∷ []) (get_or_from_slice_get rows k r r is)

module _ (s : Setting) (w : World) (n : ℕ) (g : Ghost) (i : InvWith s (view s w) g) (c : Change) (b : ActorValue) (ag : Agrees w (c ∷ []) n (w.actors n)) (d : CollectsQueued c (w.actors n) b) where
  abbrev v : View
  v = view s w

  abbrev k : IsCollected v.history v.blocks v.trees v.queues v.phases v.active g.shape d.collecting
  k = so-far s w n g i d.job d.collecting d.has

  abbrev now : CollectingValue
  now = record d.collecting { queued = d.collecting.queued + 1; rows = d.collecting.rows ++ d.row ∷ [] }

  cell : w.cells d.collecting.frozen.gate ≡ GateCell d.gate
  cell = ap w.cells d.here ∙ ag.cells.0 ∙ d.same.was

  queue-is : v.queues d.collecting.frozen.gate ≡ d.gate.queue
  queue-is = ap queue_in cell

  phase-is : v.phases d.collecting.frozen.gate ≡ Some (phase.Frozen d.upto)
  phase-is = ap phase_of cell ∙ ap Some d.frozen

  collected : IsCollected v.history v.blocks v.trees v.queues v.phases v.active g.shape now
  collected = record {
    drained = k.drained;
    at_blocks = k.at_blocks;
    named = k.named;
    rows =
        let queue = (v.queues d.collecting.frozen.gate).rows in
        let more : take (d.collecting.queued + 1) queue ≡ take d.collecting.queued queue ++ d.row ∷ [] = row-there queue d.collecting.queued d.row (ap (λ (q : Queue). slice_get q.rows d.collecting.queued) queue-is ∙ d.row_at) in
        ap (λ (xs : List Row). xs ++ d.row ∷ []) k.rows ∙ append_assoc k.at_blocks (take d.collecting.queued queue) (d.row ∷ []) ∙ ap (λ (xs : List Row). k.at_blocks ++ xs) (sym more);
    collecting = k.collecting;
    upto = λ m is. let same : d.upto ≡ m = (let both : Some (phase.Frozen d.upto) ≡ Some (phase.Frozen m) = sym phase-is ∙ is in cc) in let more = d.more in omega (arith, same, more);
    blocks_first = λ some. d.all_read;
  }

  to : IsNewStage s v g n d.job (Collects now)
  to = record {
    at = goes-on s w n g i d.job d.collecting d.has now refl collected;
    spent = none-spent s w n g i d.job d.collecting d.has now;
    waits = job-waits s v g i n d.job d.collecting.items d.has.is_job (ap items_in d.has.stage_is);
    fresh = job-fresh s v g i n d.job d.collecting.items d.has.is_job (ap items_in d.has.stage_is);
    less = (
        let was : stage_left s v d.job.stage ≡ stage_left s v (Collects d.collecting) = ap (stage_left s v) d.has.stage_is in
        let upto : frozen_upto (v.phases d.collecting.frozen.gate) ≡ d.upto = ap frozen_upto phase-is in
        let more = d.more in
        omega (arith, was, upto, more));
  }

  pub queued-kept : (does : Does s.hierarchy Collect (c ∷ []) (w.actors n) b) → IsKept s Collect n w (after w (c ∷ []) n b) g
  queued-kept does =
      let stages : Stages s w n (c ∷ []) d.job (Collects now) b = record { is_job = d.has.is_job; actor_is = d.actor_is; same = view-collect_queued s w n c (w.actors n) b ag d } in
      record {
        step = record { changes = c ∷ []; actor = b; agrees = ag; does = does; sight = tt; now_is = refl };
        ghost_now = g;
        holds = stage-holds s w n g i (c ∷ []) d.job (Collects now) b stages to;
        newer = [];
        grows = stage-history s w n g i (c ∷ []) d.job (Collects now) b stages to;
        goes_on = stage-goes_on s w n g i (c ∷ []) d.job (Collects now) b stages to;
      }
