use Rattle.std.proofs.Common.{◌+◌, ◌≤◌, [], ◌∷◌, ◌++◌, length, length-append, append_assoc, sym, ap, ◌∙◌, arith}
use Rattle.turn_table.proofs.held.Held.and.Goals as goal

pub with-all-requires : goal.with-all-requires
with-all-requires g c =
    let few : length c.args.self + length c.args.others ≤ 7 = c.requires in
    omega (arith, few, ap length c.loop-next.invariant, length-append c.loop-next.all c.loop-next.left, length-append c.args.self c.args.others, ap length c.in-Some.ensures.some)

pub loop-next-preserved : goal.loop-next-preserved
loop-next-preserved g c = let n = c.in-Some.next in let all = c.loop-next.all in ap (λ l. l ++ n.1) c.with-all.ensures ∙ (append_assoc all (n.0 ∷ []) n.1 ∙ (ap (λ zs. all ++ zs) (sym c.in-Some.ensures.some) ∙ c.loop-next.invariant))
