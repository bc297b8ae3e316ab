use Rattle.answer_text.proofs.Referring.{refers-back}
use Rattle.answer_text.proofs.laws.right_histories_refer_back.Goals as goal

pub returns : goal.returns
returns c = refers-back
