use Rattle.std.proofs.lemmas.List.Elements.{All-push}
use Rattle.dim_hierarchy.specs.{Row.IsCoordOf, declared.row.Row.Row}
use Rattle.run_tests.proofs.against_flat.insert.Goals as goal

pub returns-in_err-insert-in-Ok : goal.returns-in_err-insert-in-Ok
returns-in_err-insert-in-Ok c = rw c.in_err-insert-in-Ok.ensures.err c.requires.rows

pub returns-in_ok-insert-in-Ok : goal.returns-in_ok-insert-in-Ok
returns-in_ok-insert-in-Ok c =
    rw c.in_ok-insert-in-Ok.ensures.ok (All-push (λ (r : Row). IsCoordOf c.args.script.now.hierarchy r.at) _ _ c.requires.rows c.in-Ok.ensures.ok.valid)
