use Rattle.std.proofs.Common.{◌≡◌, ◌∙◌, ℕ, Bool, List, ◌∷◌, length, reverse, subst, arith}
use Rattle.shard_plan.specs.Balancing.{plan}
use Rattle.row_ledger.specs.{Classes.class_of, Past.{work, is_kept}, Right.MayEnd, Site.Site, Work.{IsRightBalance, loads}, Worked.site, WorkedBalance.{to_balance, balanced_without}, declared.event.Event.Event, declared.event.Event.TheVariants.Moved, declared.settings.Call.Call, declared.settings.Call.TheVariants.Balance, declared.settings.How.TheVariants.Balanced}
use Rattle.list_words.proofs.Elements.{Some-same, length-AllZip}
use Rattle.row_ledger.proofs.worked_balance.balance_without_its_left_is_wrong.Goals as goal

-- each planned action has an event
as_many : (site : Site) (usable : ℕ → Bool) (past : List Event) (of most done planned : ℕ)
    → IsRightBalance site usable past of most done planned → planned ≡ length (reverse (work past of))
as_many site usable past of most done planned right = right.actions ∙ length-AllZip _ (plan (loads right.readings) site.workers most) (reverse (work past of)) right.events

pub returns : goal.returns
returns c right =
    let end = right.each.0 in
    let call : end.call ≡ Balance 4 = Some-same (Balance 4) end.call end.called in
    let may : MayEnd site (is_kept balanced_without) (Moved 43 1 1 ∷ to_balance) 43 (class_of (Balance 4)) (Balanced 1 2) =
    subst (λ (call : Call). MayEnd site (is_kept balanced_without) (Moved 43 1 1 ∷ to_balance) 43 (class_of call) (Balanced 1 2)) call end.may_end in
    let one : ◌≡◌ {A = ℕ} 2 1 = as_many site (is_kept balanced_without) (Moved 43 1 1 ∷ to_balance) 43 4 1 2 may in
    omega arith
