use Rattle.std.proofs.Common.{Some, ◌∙◌, arith}
use Rattle.core_image.proofs.syncs.go_on.Goals as goal

-- src/syncs.rt:94:39
pub overflow_add-pulls : goal.overflow_add-pulls
overflow_add-pulls c =
    let few = c.requires.few c.in-Some.command.of c.in-Settle.pulls (c.in-Some.is ∙ (λ k. Some (record c.in-Some.command { work = c.in-Settle.is k }))) in
    omega (arith, few)
