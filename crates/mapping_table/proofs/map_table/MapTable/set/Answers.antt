use Rattle.std.proofs.Common.{◌∙◌, ap, sym, Ok, Err, Result}
use Rattle.std.specs.Prelude.{OnErr}
use Rattle.std.specs.FinMap as map
use Rattle.mapping_table.proofs.Places.{from_entries-updated, lookup-entries}
use Rattle.mapping_table.proofs.map_table.MapTable.set.Goals as goal

pub returns-clause-ok : goal.returns-clause-ok
returns-clause-ok c =
    from_entries-updated c.self.inside.places c.insert.new.self c.args.id c.args.to c.in_ok-insert.ensures.updates
    ∙ ap (λ m. map.insert m c.args.id c.args.to) c.self.view_is

-- what is so is so where the call fails
where-it-fails : {T E : Type 0} (r : Result T E) (P : Type 0) → P → OnErr r P
where-it-fails (Ok x) P p = tt
where-it-fails (Err e) P p = p

pub returns-in_err-insert-clause-known : goal.returns-in_err-insert-clause-known
returns-in_err-insert-clause-known c =
    where-it-fails c.from_residual.result _ (ap (λ m. map.get m c.args.id) (sym c.self.view_is) ∙ sym (lookup-entries c.args.id c.self.inside.places.entries) ∙ c.in_err-insert.ensures.absent)
