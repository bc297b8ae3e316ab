use Rattle.std.proofs.Common.{◌≡◌, ◌++◌, ◌∷◌, [], rules, length, ◌<◌}
use Rattle.csv.specs.Records.{fields_of}
use Rattle.script_form.specs.Fields.{field}
use Rattle.script_form.proofs.FieldFacts.{names_more, names_split}
use Rattle.script_form.proofs.names.names.Goals as goal

pub push-requires : goal.push-requires
push-requires c =
    let inside : c.loop-i.i < length (fields_of c.args.row.now) = search rules in
    rw c.field.ensures (names_split (fields_of c.args.row.now) c.loop-i.i inside c.loop-i.invariant.left).0

pub loop-i-preserved : goal.loop-i-preserved
loop-i-preserved c =
    let pushed : c.push.new.self ≡ c.loop-i.names ++ field (fields_of c.args.row.now) c.loop-i.i ∷ [] = search rules in
    let inside : c.loop-i.i < length (fields_of c.args.row.now) = search rules in
    record {
      taken = rw pushed (names_more (fields_of c.args.row.now) c.loop-i.names _ c.loop-i.i inside c.loop-i.invariant.taken);
      left = (names_split (fields_of c.args.row.now) c.loop-i.i inside c.loop-i.invariant.left).1;
    }
