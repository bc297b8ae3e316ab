use Rattle.std.proofs.Common.{ℕ, ◌∙◌, refl, ap, sym, subst}
use Rattle.std.specs.Prelude.{IsSome}
use Rattle.volap_cell.specs.{Cells.{Tag, ImageCell, LedgerCell, RegistryCell, cell_of, owned_by}, Lending.{owner_of, with_ledger, with_registry, with_image}, Values.actor_of}
use Rattle.volap_cell.proofs.{Outcomes.as-err}
use Rattle.core_image.specs.Pulling.{Pulls}
use Rattle.core_image.proofs.Here.SyncedHere.{can-pull, few-pulls, has-synced}
use Rattle.core_image.proofs.syncs.sync.Goals as goal

pub owner_in-server-requires : goal.owner_in-server-requires
owner_in-server-requires c = subst (λ (t : Tag). IsSome (owned_by t)) (sym c.requires.due.image_is) refl

-- src/syncs.rt:53:5
pub pull-requires : goal.pull-requires
pull-requires c = record {
  due = can-pull c.args.h.now c.args.image_at c.args.registry_at c.args.ledger_at (cell_of c.args.image.now) (cell_of c.args.registry.now) (cell_of c.args.ledger.now) (actor_of c.args.actor.now) c.requires.here c.requires.due
      (owner_of c.args.image.now) c.image_in-image.result.now (ap cell_of c.image_in-image.ensures.value)
      c.registry_in-registry.result.now (ap cell_of c.registry_in-registry.ensures.value)
      c.ledger_in-ledger.result.now (ap cell_of c.ledger_in-ledger.ensures.value);
}

-- src/syncs.rt:54:5
pub go_on-requires : goal.go_on-requires
go_on-requires c = record { few = few-pulls (cell_of c.args.image.now) (cell_of c.args.registry.now) (cell_of c.args.ledger.now) (actor_of c.args.actor.now) c.requires.due }

-- src/syncs.rt:22:1
pub returns-clause-made : goal.returns-clause-made
returns-clause-made c =
    let went = c.go_on.ensures c.requires.due.of c.requires.due.work c.requires.due.command in
    has-synced c.args.h.now c.args.image_at c.args.registry_at c.args.ledger_at (cell_of c.args.image.now) (cell_of c.args.registry.now) (cell_of c.args.ledger.now) (actor_of c.args.actor.now) c.requires.here c.requires.due
    (owner_of c.args.image.now) c.image_in-image.result.now (ap cell_of c.image_in-image.ensures.value)
    c.registry_in-registry.result.now (ap cell_of c.registry_in-registry.ensures.value)
    c.ledger_in-ledger.result.now (ap cell_of c.ledger_in-ledger.ensures.value)
    c.pull.new.image c.pull.new.registry c.pull.new.ledger (ImageCell (owner_of c.args.image.now) c.pull.new.image) (RegistryCell c.pull.new.registry) (LedgerCell c.pull.new.ledger) _
    (subst (λ (s : ℕ). Pulls c.args.h.now s c.image_in-image.result.now c.pull.new.image c.registry_in-registry.result.now c.pull.new.registry c.ledger_in-ledger.result.now c.pull.new.ledger)
    c.owner_in-server.ensures c.in_ok-pull.ensures.ok) refl refl refl (λ k. record (actor_of c.args.actor.now) { command = went k; seen = c.len-actor.ensures.value k })

pub returns-in_err-pull-clause-refused : goal.returns-in_err-pull-clause-refused
returns-in_err-pull-clause-refused c =
    let k = c.in_err-pull.ensures.err in
    as-err c.from_residual.result (ap (with_image c.args.image.now) k.0 ∙ sym c.image_in-image.ensures.value, ap (with_registry c.args.registry.now) k.1 ∙ sym c.registry_in-registry.ensures.value, ap (with_ledger c.args.ledger.now) k.2 ∙ sym c.ledger_in-ledger.ensures.value, refl)
