use Rattle.std.proofs.Common.{IsSome, ℕ, Option, Some, option_map, refl, sym, ap, ◌∙◌, subst}
use Rattle.std.specs.Option.{option_map_or}
use Rattle.core_tree.specs.volap_cell.specs.{Cells.{cell_of, gate_shard}, Values.{actor_of, job_of}, declared.command.Command.Command}
use Rattle.core_tree.specs.volap_cell.specs.declared.command.Work.TheVariants as work_is
use Rattle.core_admin.specs.LoadDue.{CanNote, NotesLoad}
use Rattle.core_admin.proofs.Balances.LoadsHere.{can-note, few-rows, its-gate, load-makes}
use Rattle.core_admin.proofs.loads.read_load.Goals as goal

pub gate_seen-requires : goal.gate_seen-requires
gate_seen-requires c =
    let it = its-gate c.tree_laws.ensures.gate c.args.h.now c.args.workers c.args.map_at (cell_of c.args.map.now) c.args.gate_at (cell_of c.args.gate.now) (actor_of c.args.actor.now) c.requires.here c.requires.due in
    subst IsSome (sym (ap gate_shard it.1)) refl

pub rows_in-rows-requires : goal.rows_in-rows-requires
rows_in-rows-requires c = record {
  few = few-rows c.tree_laws.ensures.gate c.args.h.now c.args.workers c.args.map_at (cell_of c.args.map.now) c.args.gate_at (cell_of c.args.gate.now) (actor_of c.args.actor.now) c.requires.here c.requires.due c.gate_seen.result.now c.gate_seen.ensures;
}

pub read_in-requires : goal.read_in-requires
read_in-requires c =
    let gates = c.tree_laws.ensures.gate in
    let cell = cell_of c.args.map.now in
    let gate = cell_of c.args.gate.now in
    let a = actor_of c.args.actor.now in
    let can = can-note gates c.args.h.now c.args.workers c.args.map_at cell c.args.gate_at gate a c.requires.here c.requires.due c.gate_seen.result.now c.gate_seen.ensures c.ranges.workers.fits in
    record {
      due = record {
        balance = c.requires.due.balance;
        work = ap (λ (o : Option Command). option_map_or (λ (k : Command). k.work) o work_is.Query) (sym c.lent-command.ensures.value ∙ c.requires.due.command);
        can = subst (CanNote c.requires.due.balance) (sym c.rows_in-rows.ensures.value) can;
      };
    }

pub returns : goal.returns
returns c =
    let gates = c.tree_laws.ensures.gate in
    let cell = cell_of c.args.map.now in
    let gate = cell_of c.args.gate.now in
    let a = actor_of c.args.actor.now in
    let due = c.requires.due in
    let same = sym c.lent-command.ensures.value ∙ due.command in
    let works = ap (λ (o : Option Command). option_map_or (λ (k : Command). k.work) o work_is.Query) same in
    let of_is = ap (λ (o : Option Command). option_map_or (λ (k : Command). k.of) o 0) same in
    let did = c.read_in.ensures due.balance works in
    let job = option_map (λ j. job_of j.value) c.read_in.result in
    let notes = subst (λ (rows : ℕ). NotesLoad due.balance rows c.args.workers did.0 job) c.rows_in-rows.ensures.value did.2 in
    let whole = did.1 ∙ (λ k. record { of = of_is k; work = work_is.Balance did.0 }) in
    record { made = load-makes gates c.args.h.now c.args.workers c.args.map_at cell c.args.gate_at gate a c.requires.here due c.gate_seen.result.now c.gate_seen.ensures cell gate did.0 job _ refl c.gate_seen.ensures notes (λ k. record a { command = Some (whole k); job = job }) }
