-- What is known of a job that collects, and what is to be shown once it has collected more.
use Rattle.std.proofs.Common.{◌≡◌, ℕ, ◌+◌, List, [], length, Some, None, sym, ap, ◌∙◌, subst}
use Rattle.cell_stock.specs.declared.purse.Spare.{Spare}
use Rattle.dim_hierarchy.specs.declared.row.Row.{Row}
use Rattle.row_ledger.specs.declared.event.Event.{Event}
use Rattle.list_words.specs.Counts.{Each}
use Rattle.list_words.proofs.Each.{each-map}
use Rattle.core_tree.specs.volap_cell.specs.{AdminKinds.{HasJob, cells_needed, spent_in}, Ghost.Ghost, Invariant.InvWith, Setting.Setting, Values.{CollectingValue, JobValue, StageValue, Builds, Collects, IsDeclined}, View.{View, view, row_at, row_or}, Working.{IsCollected, IsFrozenFor, frozen_in, HasBegun}, World.World}
use Rattle.core_admin.proofs.{Collecting.Drains.{same-collecting, still-frozen}, Collecting.FrozenGates.{IsGateOf, frozen-gate}, Jobs.Staging.IsAtWork}

-- rows of inserts that began are those of their numbers
pub begun-named : (h : List Event) (rows : List Row) → Each (HasBegun h) rows → Each (λ (r : Row). row_at h r.no ≡ r) rows
begun-named h rows all = each-map (HasBegun h) (λ (r : Row). row_at h r.no ≡ r) rows (λ r o. ap row_or o.1 ∙ o.2) all

module _ (s : Setting) (w : World) (n : ℕ) (g : Ghost) (i : InvWith s (view s w) g) (job : JobValue) (was : CollectingValue) (has : HasJob (w.actors n) job (Collects was)) where
  abbrev v : View
  v = view s w

  abbrev pub on : frozen_in job.stage ≡ Some was.frozen
  on = ap frozen_in has.stage_is

  abbrev pub its : IsFrozenFor s v.trees v.phases g.gate (v.purses n) job was.frozen
  its = i.working.frozen n job was.frozen has.is_job on

  pub gate-of : IsGateOf s v g job.shard job.worker was.frozen.gate
  gate-of = frozen-gate s v g i n job has.is_job was.frozen on

  pub so-far : IsCollected v.history v.blocks v.trees v.queues v.phases v.active g.shape was
  so-far = i.working.collected n job was has.is_job has.stage_is

  -- what is to be shown of what is collected now
  pub goes-on : (now : CollectingValue) → now.frozen ≡ was.frozen → IsCollected v.history v.blocks v.trees v.queues v.phases v.active g.shape now
      → IsAtWork s v.history v.blocks v.made v.trees v.phases v.active v.queues (v.purses n) (v.commands n) g.gate g.shape g.placed (record job { stage = Collects now })
  goes-on now same collected = record {
    unspent = λ none. let never : Some now.frozen ≡ None = none in absurd (cc);
    declined = λ x why is stage. let never : Collects now ≡ IsDeclined why = stage in absurd (cc);
    frozen = λ f is. subst (IsFrozenFor s v.trees v.phases g.gate (v.purses n) (record job { stage = Collects now })) (sym same ∙ still-frozen now f is) (record {
      gate_is = its.gate_is;
      upto = its.upto;
      phase_is = its.phase_is;
      rows = its.rows;
      cells = subst (λ (st : StageValue). length (v.purses n) + length (spent_in st) ≡ cells_needed job.to was.frozen.rows) has.stage_is its.cells;
      split = its.split;
      move = its.move;
      plane = its.plane;
    });
    collected = λ k is. subst (IsCollected v.history v.blocks v.trees v.queues v.phases v.active g.shape) (same-collecting now k is) collected;
    building = λ x is. let never : Collects now ≡ Builds x = is in absurd (cc);
  }

  pub none-spent : (now : CollectingValue) → ◌≡◌ {A = List Spare} [] (spent_in job.stage)
  none-spent now = sym (ap (λ (st : StageValue). spent_in st) has.stage_is)
