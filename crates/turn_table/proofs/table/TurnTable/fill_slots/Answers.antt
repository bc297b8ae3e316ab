use Rattle.std.proofs.Common.{[], ◌∷◌, ◌++◌, sym, ap, ◌∙◌, append_assoc}
use Rattle.turn_table.proofs.Seats.{filled, pair_path}
use Rattle.turn_table.proofs.table.TurnTable.fill_slots.Goals as goal

pub loop-next-preserved : goal.loop-next-preserved
loop-next-preserved g c =
    let inv = c.loop-next.invariant in let done = inv.slots.0 in let here = c.in-Some.ensures.some in let n = c.in-Some.next in record {
      table = c.fill_front.ensures.same.0 ∙ inv.table;
      id = c.fill_front.ensures.same.1 ∙ inv.id;
      slots = (
        done ++ n.0 ∷ [],
        append_assoc done (n.0 ∷ []) n.1 ∙ (ap (λ zs. done ++ zs) (sym here) ∙ inv.slots.1),
        c.fill_front.ensures.slots ∙ pair_path (ap (λ m. m.0) inv.slots.2) (filled _ n.1 done n.0 _ here (ap (λ m. m.1) inv.slots.2)),
      );
    }
