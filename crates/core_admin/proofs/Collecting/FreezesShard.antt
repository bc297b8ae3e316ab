-- A shard is frozen for a job, or the job is declined.
use Rattle.std.proofs.Common.{◌≡◌, ℕ, ◌+◌, ◌*◌, ◌<◌, List, [], ◌∷◌, true, length, Option, Some, None, refl, sym, ap, ◌∙◌, subst, inl, inr, arith}
use Rattle.cell_stock.specs.declared.purse.Spare.{Spare}
use Rattle.dim_hierarchy.specs.{Dimension.Dimension, declared.row.Row.Row}
use Rattle.describing_set.specs.{Sets.JoinsTo, declared.plane.Plane.Plane}
use Rattle.row_ledger.specs.{Work.IsCause, Workers.is_on, declared.settings.Decline.Decline, declared.settings.Decline.TheVariants.{OnePlace, NoCell}}
use Rattle.core_tree.specs.shard_store.specs.{declared.gate.Gate.Gate, declared.queue.Queue.Queue}
use Rattle.core_tree.specs.tree_shape.specs.{Laws.GateLaw, Queries.NoneWaits}
use Rattle.list_words.proofs.Each.{each-here}
use Rattle.core_tree.specs.volap_cell.specs.{AdminKinds.{spent_in, Declines, DoesFreeze, Freezes, HasOnePlace, IsDivided, cells_needed, rows_at}, Cells.{GateCell, MapOf, tag_of, queue_in, way_in, way_to_tree}, Falls.{plenty, stage_left}, Ghost.Ghost, Invariant.InvWith, Setting.Setting, Steps.{IsKept, Keeps}, Stocking.all_spares, Values.{ActorValue, StageValue, IsDeclined, Collects, Builds}, View.{View, view}, Working.{IsDeclinedFor, action_of, action_to}, World.{Agrees, Change, World, after}, declared.kind.Kind.TheVariants.Freeze}
use Rattle.core_tree.specs.volap_cell.proofs.{Views.Admin.view-decline, Views.Shown.held-leads}
use Rattle.core_admin.proofs.{Collecting.Freezings.{IsAtGate, frozen-falls, frozen-history, frozen-holds}, Collecting.Planes.few-everywhere, Collecting.ShardRows.{rows as rows-of, rows-count, rows-read, rows-set, set-valid}, Jobs.Stages.{IsNewStage, Stages, stage-goes_on, stage-history, stage-holds}, Purses.reshared}

-- fewer cells are free than the action needs for so many rows
few-cells : (h : List Dimension) (shard : ℕ) (to : Option ℕ) (rows : List Row) (need free : ℕ) → free < need → need ≡ cells_needed to (length rows) → IsCause h (action_to shard to) rows (NoCell need free)
few-cells h shard None rows need free lt is = (lt, is)
few-cells h shard (Some worker) rows need free lt is = (lt, is)

same-decline : (d e : Decline) → IsDeclined d ≡ IsDeclined e → d ≡ e
same-decline d e is = cc

module _ (gates : GateLaw) (s : Setting) (w : World) (n : ℕ) (g : Ghost) (i : InvWith s (view s w) g) (m gt c : Change) (b : ActorValue) (ag : Agrees w (m ∷ gt ∷ c ∷ []) n (w.actors n)) (d : DoesFreeze s.hierarchy m gt c (w.actors n) b) where
  abbrev v : View
  v = view s w

  leads : g.gate d.job.shard ≡ gt.number
  leads = (i.lineage.leads d.job.worker d.job.shard gt.number (held-leads s w i.numbering.tag m ag.cells.0 d.job.worker d.job.shard _ d.leads).1).1

  on : is_on s.workers v.history d.job.shard d.job.worker ≡ true
  on = i.working.front n d.job d.has.is_job

  abbrev rows : List Row
  rows = rows-of gates s w g i d.job.shard d.job.worker on

  -- what the gate in its cell says of the rows

  module _ (was : gt.before ≡ GateCell d.gate) where
    cell : w.cells gt.number ≡ GateCell d.gate
    cell = ag.cells.1.0 ∙ was

    at-gate : IsAtGate s w g n d.job gt.number d.gate
    at-gate = record { is_job = d.has.is_job; called = d.has.stage_is; empty = d.empty; leads = leads; cell = cell; standing = d.standing }

    tree-is : v.trees (g.gate d.job.shard) ≡ way_to_tree d.gate
    tree-is = ap v.trees leads ∙ ap way_in cell

    queue-is : v.queues (g.gate d.job.shard) ≡ d.gate.queue
    queue-is = ap v.queues leads ∙ ap queue_in cell

    count : length rows ≡ rows_at d.gate
    count = rows-count gates s w g i d.job.shard d.job.worker on ∙ (λ k. (tree-is k).agg.count + length (queue-is k).rows)

    joins : JoinsTo s.hierarchy (v.trees (g.gate d.job.shard)).set (v.queues (g.gate d.job.shard)).set d.set
    joins = subst (λ (x : Gate). JoinsTo s.hierarchy x.set (v.queues (g.gate d.job.shard)).set d.set) (sym tree-is) (subst (λ (x : Queue). JoinsTo s.hierarchy d.gate.set x.set d.set) (sym queue-is) d.set_of)

    one-place : (to : Option ℕ) → HasOnePlace to d.set → IsCause s.hierarchy (action_to d.job.shard to) rows OnePlace
    one-place None none = record { set = d.set; set_of = rows-set gates s w g i d.job.shard d.job.worker on d.set joins; few = few-everywhere d.set none }
    one-place (Some worker) none = absurd none

  -- It is declined.

  module _ (decline : Decline) (does : Declines d.job decline d.gate d.stock gt c (w.actors n) b) (cause : IsCause s.hierarchy (action_of d.job) rows decline) where
    stages : Stages s w n (m ∷ gt ∷ c ∷ []) d.job (IsDeclined decline) b
    stages = record { is_job = d.has.is_job; actor_is = does.2; same = view-decline s w n m gt c (w.actors n) b ag d.leads.same d.job decline d.gate d.stock does }

    to : IsNewStage s v g n d.job (IsDeclined decline)
    to = record {
      at = record {
        unspent = λ none. d.empty;
        declined = λ x why has stage. subst (IsDeclinedFor s v.history g.placed x.of (record d.job { stage = IsDeclined decline })) (same-decline decline why stage) (record { rows = rows; read = rows-read gates s w g i d.job.shard d.job.worker on x.of; cause = cause });
        frozen = λ f is. let never : None ≡ Some f = is in absurd (cc);
        collected = λ k is. let never : IsDeclined decline ≡ Collects k = is in absurd (cc);
        building = λ x is. let never : IsDeclined decline ≡ Builds x = is in absurd (cc);
      };
      spent = sym (ap (λ (st : StageValue). spent_in st) d.has.stage_is);
      waits = λ a. each-here (λ (x : Spare). NoneWaits x.stamp []) (all_spares v.purses v.jobs a) (λ x among. tt);
      fresh = λ stamp le. tt;
      less = (let was : stage_left s v d.job.stage ≡ 6 * plenty s = ap (stage_left s v) d.has.stage_is in omega (arith, was));
    }

    declined-kept : IsKept s Freeze n w (after w (m ∷ gt ∷ c ∷ []) n b) g
    declined-kept = record {
      step = record { changes = m ∷ gt ∷ c ∷ []; actor = b; agrees = ag; does = d; sight = tt; now_is = refl };
      ghost_now = g;
      holds = stage-holds s w n g i (m ∷ gt ∷ c ∷ []) d.job (IsDeclined decline) b stages to;
      newer = [];
      grows = stage-history s w n g i (m ∷ gt ∷ c ∷ []) d.job (IsDeclined decline) b stages to;
      goes_on = stage-goes_on s w n g i (m ∷ gt ∷ c ∷ []) d.job (IsDeclined decline) b stages to;
    }

  -- It is frozen.

  table : tag_of m.before ≡ MapOf d.job.worker
  table = ap tag_of d.leads.was

  frozen-kept : (plane : Option Plane) → IsDivided d.job.to d.set plane → Freezes d.job plane d.gate d.stock gt c (w.actors n) b → IsKept s Freeze n w (after w (m ∷ gt ∷ c ∷ []) n b) g
  frozen-kept plane divided f =
      let valid = set-valid gates s w g i d.job.shard d.job.worker on d.set (joins f.frozen.was) in
      let at = at-gate f.frozen.was in
      record {
        step = record { changes = m ∷ gt ∷ c ∷ []; actor = b; agrees = ag; does = d; sight = tt; now_is = refl };
        ghost_now = record g { owner = reshared b.purse [] n g.owner };
        holds = frozen-holds s w n g i m gt c b ag d.job plane d.gate d.stock d.job.worker table d.leads.same at f d.set valid divided;
        newer = [];
        grows = frozen-history s w n g i m gt c b ag d.job plane d.gate d.stock d.job.worker table d.leads.same at f d.set valid divided;
        goes_on = inl (frozen-falls s w n g i m gt c b ag d.job plane d.gate d.stock d.job.worker table d.leads.same at f d.set valid divided);
      }

  freeze-kept : IsKept s Freeze n w (after w (m ∷ gt ∷ c ∷ []) n b) g
  freeze-kept = elim d.does [
    | inl none ↦ declined-kept OnePlace none.1 (one-place none.1.0.was d.job.to none.0)
    | inr some ↦ elim some.2 [
      | inl few ↦ declined-kept (NoCell (cells_needed d.job.to (rows_at d.gate)) (length d.stock.free)) few.1
          (few-cells s.hierarchy d.job.shard d.job.to rows _ _ few.0 (ap (cells_needed d.job.to) (sym (count few.1.0.was))))
      | inr enough ↦ frozen-kept some.0 some.1 enough.1
    ]
  ]

pub freeze-keeps : GateLaw → (h : List Dimension) (m gt c : Change) (a b : ActorValue) (d : DoesFreeze h m gt c a b) → Keeps h Freeze (m ∷ gt ∷ c ∷ []) a b d
freeze-keeps gates h m gt c a b d s w n g about i ag sight =
    freeze-kept gates s w n g i m gt c b (record { cells = ag.cells; actor_is = refl; free = λ x ne. ag.free x ne })
    (subst (λ (z : ActorValue). DoesFreeze s.hierarchy m gt c z b) (sym ag.actor_is) (subst (λ (z : List Dimension). DoesFreeze z m gt c a b) (sym about) d))
