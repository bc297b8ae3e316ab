use Rattle.std.proofs.Common.{◌<◌, ◌∙◌, ◌++◌, ◌∷◌, [], inl, inr, rules}
use Rattle.csv.specs.{Reading.{default_config, records_from, strip_bom}, Records.fields_of}
use Rattle.script_form.proofs.{RecordFacts.{none_read, reading_more, reading_stops}, ScriptFacts.{none_so_far, one_more, script_bad, script_empty, script_good}}
use Rattle.script_form.proofs.reader.read_script.Goals as goal

pub loop-at-init : goal.loop-at-init
loop-at-init c =
    let reader = c.from_reader-reader.ensures in
    record {
      rows = [];
      reading = record {
        plain = rw (c.flexible.ensures, c.has_headers.ensures) at reader.trim ∙ c.new.ensures.trim;
        ready = inr (inr (rw (c.flexible.ensures, c.has_headers.ensures) at reader.has_headers, reader.headers));
        config = rw (c.flexible.ensures, c.has_headers.ensures) at reader.config ∙ c.new.ensures.config;
        flexible = rw c.flexible.ensures at reader.flexible;
        left = strip_bom c.args.text.now;
        source = reader.source;
        read = rw reader.state (none_read c.args.text.now);
      };
      so_far = rw (c.new-2.ensures, c.new-3.ensures) none_so_far;
    }

pub returns-then-at-eq0-clause-answer : goal.returns-then-at-eq0-clause-answer
returns-then-at-eq0-clause-answer c =
    let inv = c.loop-at.invariant in
    let read = rw c.in-Ok-false.field-0-test at (c.in-Ok-false.ensures.reads inv.reading.plain inv.reading.ready) in
    let all = reading_stops c.loop-at.reader c.read_byte_record.new.self c.args.text.now inv.rows _ inv.reading read in
    rw (c.bad.ensures, c.if-at-eq0.true) (script_empty _ inv.rows c.loop-at.at c.loop-at.script all inv.so_far c.if-at-eq0.true)

pub returns-in-Ok-false-clause-answer : goal.returns-in-Ok-false-clause-answer
returns-in-Ok-false-clause-answer c =
    let inv = c.loop-at.invariant in
    let read = rw c.in-Ok-false.field-0-test at (c.in-Ok-false.ensures.reads inv.reading.plain inv.reading.ready) in
    let all = reading_stops c.loop-at.reader c.read_byte_record.new.self c.args.text.now inv.rows _ inv.reading read in
    let some : 0 < c.loop-at.at = search rules in
    script_good _ inv.rows c.loop-at.at c.loop-at.script all inv.so_far some

pub returns-in-Err-Bad-clause-answer : goal.returns-in-Err-Bad-clause-answer
returns-in-Err-Bad-clause-answer c =
    let inv = c.loop-at.invariant in
    let row = fields_of c.read_byte_record.new.row in
    let read = rw c.in-Ok-true.field-0-test at (c.in-Ok-true.ensures.reads inv.reading.plain inv.reading.ready) in
    let reading = reading_more c.loop-at.reader c.read_byte_record.new.self c.args.text.now inv.rows row inv.reading read (inl (c.in-Ok-true.ensures.ready inv.reading.plain)) c.in-Ok-true.ensures.flexible in
    let bad = rw c.in-Err-Bad.field-0-is at c.in-Err-Bad.ensures.cause in
    rw (c.bad-in-Err-Bad.ensures, c.in-Err-Bad.field-0-is) (script_bad _ inv.rows (records_from default_config reading.read.more c.read_byte_record.new.self.state reading.left) c.loop-at.at c.loop-at.script row c.in-Err-Bad.cause reading.read.all inv.so_far bad)

pub loop-at-preserved : goal.loop-at-preserved
loop-at-preserved c =
    let inv = c.loop-at.invariant in
    let row = fields_of c.read_byte_record.new.row in
    let read = rw c.in-Ok-true.field-0-test at (c.in-Ok-true.ensures.reads inv.reading.plain inv.reading.ready) in
    record {
      rows = inv.rows ++ row ∷ [];
      reading = reading_more c.loop-at.reader c.read_byte_record.new.self c.args.text.now inv.rows row inv.reading read (inl (c.in-Ok-true.ensures.ready inv.reading.plain)) c.in-Ok-true.ensures.flexible;
      so_far = one_more inv.rows c.loop-at.at c.loop-at.script c.take_record.new.script row inv.so_far c.in-Ok.ensures.ok;
    }
