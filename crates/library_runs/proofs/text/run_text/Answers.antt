use Rattle.std.proofs.Common.{◌≡◌, ◌∙◌, ◌<◌, ◌^◌, [], length, map, sym, ap, subst, arith}
use Rattle.std.specs.Prelude.{string_bytes}
use Rattle.volap_io.specs.Memory.{Store, Supply}
use Rattle.olap_top.specs.{declared.outcome.Status.Status, declared.wanted.Wanted.TheVariants.Step}
use Rattle.library_runs.specs.Text.{IsAnswer, IsBadText}
use Rattle.library_runs.proofs.Texts.{is-answer, is-bad, is-large}
use Rattle.library_runs.proofs.text.run_text.Goals as goal

pub new-requires-2 : goal.new-requires-2
new-requires-2 g c = omega arith

pub new-source-requires : goal.new-source-requires
new-source-requires g c = omega arith

pub returns-in_default-clause-bad : goal.returns-in_default-clause-bad
returns-in_default-clause-bad g c = λ e. absurd (let same = e in cc)

pub returns-in_default-clause-large : goal.returns-in_default-clause-large
returns-in_default-clause-large g c = λ e. absurd (let same = e in cc)

pub returns-in_default-clause-words : goal.returns-in_default-clause-words
returns-in_default-clause-words g c = λ e. (let same = e in cc)

pub returns-in_default-new-clause-bad : goal.returns-in_default-new-clause-bad
returns-in_default-new-clause-bad g c = λ e. absurd (let same = e in cc)

pub returns-in_default-new-clause-large : goal.returns-in_default-new-clause-large
returns-in_default-new-clause-large g c = λ e. absurd (let same = e in cc)

pub returns-in_default-new-clause-words : goal.returns-in_default-new-clause-words
returns-in_default-new-clause-words g c = λ e. (let same = e in cc)

pub returns-in_default-status-clause-bad : goal.returns-in_default-status-clause-bad
returns-in_default-status-clause-bad g c = λ e.
    let status : c.olap-outcome.result.status ≡ Status.BadScript = (let same = e in cc) in
    let given : c.new-source.result.left ≡ c.args.text.items = ap (λ (s : Supply). s.left) c.new-source.ensures in
    subst IsBadText given
    (is-bad c.new-source.result.left c.olap-outcome.new.source.left _ _ _ _ (c.olap-outcome.ensures.bad_script status).0)

pub returns-in_default-status-clause-large : goal.returns-in_default-status-clause-large
returns-in_default-status-clause-large g c = λ e.
    let status : c.olap-outcome.result.status ≡ Status.TooLarge = (let same = e in cc) in
    let given : c.new-source.result.left ≡ c.args.text.items = ap (λ (s : Supply). s.left) c.new-source.ensures in
    subst (λ l. 2 ^ 26 < length l) given
    (is-large c.new-source.result.left c.olap-outcome.new.source.left (c.olap-outcome.ensures.too_large status).0)

pub returns-in_default-status-clause-words : goal.returns-in_default-status-clause-words
returns-in_default-status-clause-words g c = λ e.
    let status : c.olap-outcome.result.status ≡ Status.BadWords = (let same = e in cc) in
    c.olap-outcome.ensures.words.0 status Step (ap (map string_bytes) c.as_slice.ensures.value ∙ c.in-Ok.ensures)

pub returns-in_default-to_vec-clause-bad : goal.returns-in_default-to_vec-clause-bad
returns-in_default-to_vec-clause-bad g c = λ e. absurd (let same = e in cc)

pub returns-in_default-to_vec-clause-large : goal.returns-in_default-to_vec-clause-large
returns-in_default-to_vec-clause-large g c = λ e. absurd (let same = e in cc)

pub returns-in_default-to_vec-clause-words : goal.returns-in_default-to_vec-clause-words
returns-in_default-to_vec-clause-words g c = λ e. (let same = e in cc)

pub returns-clause-done : goal.returns-clause-done
returns-clause-done g c =
    let given : c.new-source.result.left ≡ c.args.text.items = ap (λ (s : Supply). s.left) c.new-source.ensures in
    let empty : c.in-Ok-new.sink.taken ≡ [] = ap (λ (s : Store). s.taken) c.in-Ok-new.ensures in
    let text : c.in-Ok-to_vec.text.items ≡ c.olap-outcome.new.sink.taken = c.in-Ok-to_vec.ensures.items_if_clones_equal (λ x y e. e) ∙ c.taken.ensures in
    let alone = ap (map string_bytes) c.as_slice.ensures.value ∙ c.in-Ok.ensures in
    subst (λ l. IsAnswer c.args.text.items l c.olap-outcome.result.ledger.history) (sym text)
    (is-answer c.as_slice.result.now c.args.text.items c.new-source.result.left c.olap-outcome.new.source.left c.in-Ok-new.sink.taken c.olap-outcome.new.sink.taken c.olap-outcome.result.ledger.history
    given empty alone (c.olap-outcome.ensures.done c.in-Done.is))

pub returns-clause-bad : goal.returns-clause-bad
returns-clause-bad g c = λ e. absurd (let same = e in cc)

pub returns-clause-large : goal.returns-clause-large
returns-clause-large g c = λ e. absurd (let same = e in cc)

pub returns-clause-words : goal.returns-clause-words
returns-clause-words g c = λ e. (let same = e in cc)
