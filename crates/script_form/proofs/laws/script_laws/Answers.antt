use Rattle.script_form.proofs.ScriptLaws.{bad_is_first, fine_is_good, first_is_bad, good_is_fine}
use Rattle.script_form.proofs.laws.script_laws.Goals as goal

pub returns : goal.returns
returns c = record {
  good = λ rs s. (good_is_fine rs s, λ fine. fine_is_good rs s fine.0 fine.1 fine.2);
  bad = λ rs at cause some. (bad_is_first rs at cause some, first_is_bad rs at cause);
}
