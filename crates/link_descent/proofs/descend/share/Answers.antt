use Rattle.std.proofs.{Common.{refl, sym, ◌∙◌, inl, inr}, lemmas.Bool.{false≢true}}
use Rattle.link_descent.proofs.Picks.{IsPick-left, IsPick-right}
use Rattle.link_descent.proofs.descend.share.Goals as goal

pub returns-then-is_before-clause-shared : goal.returns-then-is_before-clause-shared
returns-then-is_before-clause-shared c =
    let tells = rw c.lineages-at.ensures at c.is_before.ensures in
    let before = tells.0 c.if-is_before.true in (
      c.args.right.now,
      record {
        place = 1;
        pick = IsPick-right c.args.h.now c.args.row.now.at c.args.left.now.set c.args.right.now.set before;
        shared = inr (refl, c.add_row.ensures, refl, refl);
      },
      c.add_row.ensures.child,
    )

pub returns-clause-shared : goal.returns-clause-shared
returns-clause-shared c =
    let tells = rw c.lineages-at.ensures at c.is_before.ensures in (
      c.args.left.now,
      record {
        place = 0;
        pick = IsPick-left c.args.h.now c.args.row.now.at c.args.left.now.set c.args.right.now.set (λ b. false≢true (sym c.if-is_before.false ∙ tells.1 b));
        shared = inl (refl, c.add_row-else-is_before.ensures, refl, refl);
      },
      c.add_row-else-is_before.ensures.child,
    )
