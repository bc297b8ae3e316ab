use Rattle.std.proofs.{Common.{length, refl, arith}, lemmas.Bool.{false≢true}}
use Rattle.hierarchy_split.proofs.{Orders.{places_length, places_below, Placing-takes, Placing-keeps, Placing-skips}, order.cut_place.Goals.{then-is_between+then-is_nearer, else-is_between, else-is_between-via-then-is_between+else-is_nearer, else-is_between-via-else-is_between}}
use Rattle.hierarchy_split.proofs.order.cut_place.Goals as goal

pub overflow_cast-n : goal.overflow_cast-n
overflow_cast-n c = let e = places_length (length c.args.leasts.now) c.args.order.now c.requires.order.places in omega (arith, e, c.requires.few)

pub is_between-requires-clause-order : goal.is_between-requires-clause-order
is_between-requires-clause-order c = places_below (length c.args.leasts.now) c.args.order.now c.requires.order.places

pub is_nearer-requires-clause-n : goal.is_nearer-requires-clause-n
is_nearer-requires-clause-n c = let e = places_length (length c.args.leasts.now) c.args.order.now c.requires.order.places in omega (arith, e, c.requires.few)

pub loop-k-preserved : goal.loop-k-preserved
loop-k-preserved c =
    let xs = c.args.leasts.now in
    let order = c.args.order.now in
    elim c.if-is_between.branch [
      | then-is_between+then-is_nearer w ↦ rw w.best-is (Placing-takes xs order c.loop-k.k c.loop-k.best c.loop-k.invariant (w.if-is_between.ensures.0 refl) w.if-is_nearer.ensures.some)
      | else-is_between w ↦ rw w.best-is (elim w.else-is_between.branch [
        | else-is_between-via-then-is_between+else-is_nearer v ↦ Placing-keeps xs order c.loop-k.k c.loop-k.best c.loop-k.invariant v.if-is_nearer.ensures.none v.if-is_nearer.ensures.some
        | else-is_between-via-else-is_between v ↦ Placing-skips xs order c.loop-k.k c.loop-k.best c.loop-k.invariant (λ b. false≢true (v.if-is_between.ensures.1 b))
      ])
    ]
