use Rattle.std.proofs.{Common.{◌≡◌, false, subst}, lemmas.Bool.{false≢true}}
use Rattle.row_ledger.specs.{Classes.class_of, Right.shows, declared.settings.Call.Call, declared.settings.Call.TheVariants.Tree, declared.settings.How.TheVariants.Fine}
use Rattle.row_ledger.proofs.worked.tree_without_a_page_is_wrong.Goals as goal

pub returns : goal.returns
returns c right =
    let end = right.each.0 in
    let call : end.call ≡ Tree 0 = cc end.called in
    false≢true (subst (λ (call : Call). false ≡ shows (class_of call) Fine) call end.page)
