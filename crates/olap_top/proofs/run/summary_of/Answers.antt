use Rattle.std.proofs.{Common.{◌≡◌, List, reverse, subst}, lemmas.List.reverse-reverse}
use Rattle.std.specs.Prelude.{IfOk}
use Rattle.answer_text.specs.Summary.{summary}
use Rattle.row_ledger.specs.declared.settings.Use.{Use}
use Rattle.script_form.specs.declared.script.Command.{Command}
use Rattle.olap_top.specs.Standing.{history_of}
use Rattle.olap_top.proofs.run.summary_of.Goals as goal

pub returns-clause-text : goal.returns-clause-text
returns-clause-text g c =
    let s = c.args.script.now in
    let text = c.read.new.reader.text in
    let now = history_of c.read.new.self in
    subst (λ h. IfOk text (λ v. v.items ≡ summary c.args.rows c.args.seed s.with s.commands h)) (reverse-reverse now)
    (subst (λ (u : Use). IfOk text (λ v. v.items ≡ summary c.args.rows c.args.seed u s.commands (reverse (reverse now)))) c.with.ensures
    (subst (λ (l : List Command). IfOk text (λ v. v.items ≡ summary c.args.rows c.args.seed c.with.result.now l (reverse (reverse now)))) c.commands.ensures c.read.ensures.told))

pub returns-clause-kept : goal.returns-clause-kept
returns-clause-kept g c = λ wanted ps stands. c.read.ensures.kept wanted c.args.script.now ps stands
