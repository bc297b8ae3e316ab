use Rattle.std.proofs.Common.{◌≡◌, ℕ, arith, subst}
use Rattle.row_ledger.specs.{Classes.class_of, Right.Asks, Worked.{once, page_with}, declared.settings.Call.Call, declared.settings.Call.TheVariants.Tree}
use Rattle.row_ledger.specs.declared.page.Page.TheVariants as page
use Rattle.row_ledger.proofs.worked.page_of_another_shard_is_wrong.Goals as goal

pub returns : goal.returns
returns c right =
    let of_call = right.each.1.0 in
    let call : of_call.call ≡ Tree 0 = cc of_call.called in
    let same : ◌≡◌ {A = ℕ} 1 0 = subst (λ (call : Call). Asks (class_of call) (page.Tree (page_with 1 1 once))) call of_call.asked in
    omega arith
