use Rattle.std.proofs.{Common.{ℕ, ◌<◌, ◌≡◌, Some, slice_get, get_or, length, List, ap, subst, refl, arith}, lemmas.Option.slice_get-get_or}
use Rattle.dc_node.specs.declared.entry.Entry.{Entry}
use Rattle.core_tree.proofs.downs.child_at.Goals as goal

pub returns : goal.returns
returns c =
    let xs = c.entries.result.now in
    let i = c.from.result in
    let e = get_or xs i c.index-entries-from.result in
    let within : i < length xs = (let a = c.requires in let n = ap length c.entries.ensures.value in let f = c.from.ensures in omega arith) in
    let read : slice_get xs i ≡ Some e = slice_get-get_or xs i c.index-entries-from.result within in (
      e,
      subst (λ (ys : List Entry). slice_get ys c.args.place ≡ Some e) c.entries.ensures.value (subst (λ (j : ℕ). slice_get xs j ≡ Some e) c.from.ensures read),
      refl,
    )
