use Rattle.std.proofs.Common.{◌≡◌, ◌++◌, ◌∷◌, [], rules, length, ◌<◌}
use Rattle.csv.specs.Records.{fields_of}
use Rattle.script_form.specs.{Fields.field, Scripts.pick_of}
use Rattle.script_form.proofs.FieldFacts.{picks_more}
use Rattle.script_form.proofs.names.filter.Goals as goal

pub loop-i-preserved : goal.loop-i-preserved
loop-i-preserved c =
    let pushed : c.push.new.self ≡ c.loop-i.filter ++ pick_of (field (fields_of c.args.row.now) c.loop-i.i) ∷ [] = search rules in
    let inside : c.loop-i.i < length (fields_of c.args.row.now) = search rules in
    rw pushed (picks_more (fields_of c.args.row.now) c.loop-i.filter _ c.loop-i.i inside c.loop-i.invariant)
