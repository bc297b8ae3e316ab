use Rattle.std.proofs.Common.{Result, ap, subst, ◌∙◌, arith}
use Rattle.std.specs.Prelude.{List}
use Rattle.dim_hierarchy.specs.declared.row.Row.{Row}
use Rattle.shard_codec.specs.{Reading.{GivesUnlessFull, decoded}, declared.fault.CodecFault.CodecFault}
use Rattle.shard_codec.proofs.{Again.decoded-again, Found.{given_text, given_rows}}
use Rattle.shard_codec.proofs.reading.decode.Goals as goal

pub returns-clause-text : goal.returns-clause-text
returns-clause-text c =
    given_text c.args.h.now c.args.bytes.now c.all_rows.result c.all_rows.ensures.valid (λ i. omega (arith, c.type_inv.bytes i)) c.all_rows.ensures.exact

pub returns-clause-rows : goal.returns-clause-rows
returns-clause-rows c =
    given_rows c.args.h.now c.args.bytes.now c.all_rows.result c.all_rows.ensures.valid (λ i. omega (arith, c.type_inv.bytes i)) c.all_rows.ensures.exact

pub returns-clause-again : goal.returns-clause-again
returns-clause-again c = λ rows spelled is.
    subst (λ (read : Result (List Row) CodecFault). GivesUnlessFull (λ rows. rows.items) c.all_rows.result read) (ap (decoded c.args.h.now) is ∙ decoded-again c.args.h.now rows spelled) c.all_rows.ensures.exact
