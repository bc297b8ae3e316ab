use Rattle.std.proofs.Common.{[], ◌∷◌}
use Rattle.volap_turns.proofs.Placed.{all-found, all-same, can-here, can-more, can-spread, IsNext, spread-more, spread-none}
use Rattle.volap_turns.proofs.spread.spread.Goals as goal

pub next-third-requires-clause-there : goal.next-third-requires-clause-there
next-third-requires-clause-there c = (let r = c.args.row in
    let n0 : IsNext r.first c.next-first.result.0 c.args.cells c.next-first.result.1 = record { fill = c.next-first.ensures.fill; count = c.next-first.ensures.count; same = c.next-first.ensures.same } in
    let n1 : IsNext r.second c.next-second.result.0 c.next-first.result.1 c.next-second.result.1 = record { fill = c.next-second.ensures.fill; count = c.next-second.ensures.count; same = c.next-second.ensures.same } in
    can-here r.third (r.fourth ∷ r.fifth ∷ r.sixth ∷ r.seventh ∷ []) _ (can-more r.second (r.third ∷ r.fourth ∷ r.fifth ∷ r.sixth ∷ r.seventh ∷ []) _ c.next-first.result.1 _ n1 (can-more r.first (r.second ∷ r.third ∷ r.fourth ∷ r.fifth ∷ r.sixth ∷ r.seventh ∷ []) _ c.args.cells _ n0 (can-spread _ _ c.requires.at))))

pub next-fourth-requires-clause-there : goal.next-fourth-requires-clause-there
next-fourth-requires-clause-there c = (let r = c.args.row in
    let n0 : IsNext r.first c.next-first.result.0 c.args.cells c.next-first.result.1 = record { fill = c.next-first.ensures.fill; count = c.next-first.ensures.count; same = c.next-first.ensures.same } in
    let n1 : IsNext r.second c.next-second.result.0 c.next-first.result.1 c.next-second.result.1 = record { fill = c.next-second.ensures.fill; count = c.next-second.ensures.count; same = c.next-second.ensures.same } in
    let n2 : IsNext r.third c.next-third.result.0 c.next-second.result.1 c.next-third.result.1 = record { fill = c.next-third.ensures.fill; count = c.next-third.ensures.count; same = c.next-third.ensures.same } in
    can-here r.fourth (r.fifth ∷ r.sixth ∷ r.seventh ∷ []) _ (can-more r.third (r.fourth ∷ r.fifth ∷ r.sixth ∷ r.seventh ∷ []) _ c.next-second.result.1 _ n2 (can-more r.second (r.third ∷ r.fourth ∷ r.fifth ∷ r.sixth ∷ r.seventh ∷ []) _ c.next-first.result.1 _ n1 (can-more r.first (r.second ∷ r.third ∷ r.fourth ∷ r.fifth ∷ r.sixth ∷ r.seventh ∷ []) _ c.args.cells _ n0 (can-spread _ _ c.requires.at)))))

pub next-fifth-requires-clause-there : goal.next-fifth-requires-clause-there
next-fifth-requires-clause-there c = (let r = c.args.row in
    let n0 : IsNext r.first c.next-first.result.0 c.args.cells c.next-first.result.1 = record { fill = c.next-first.ensures.fill; count = c.next-first.ensures.count; same = c.next-first.ensures.same } in
    let n1 : IsNext r.second c.next-second.result.0 c.next-first.result.1 c.next-second.result.1 = record { fill = c.next-second.ensures.fill; count = c.next-second.ensures.count; same = c.next-second.ensures.same } in
    let n2 : IsNext r.third c.next-third.result.0 c.next-second.result.1 c.next-third.result.1 = record { fill = c.next-third.ensures.fill; count = c.next-third.ensures.count; same = c.next-third.ensures.same } in
    let n3 : IsNext r.fourth c.next-fourth.result.0 c.next-third.result.1 c.next-fourth.result.1 = record { fill = c.next-fourth.ensures.fill; count = c.next-fourth.ensures.count; same = c.next-fourth.ensures.same } in
    can-here r.fifth (r.sixth ∷ r.seventh ∷ []) _ (can-more r.fourth (r.fifth ∷ r.sixth ∷ r.seventh ∷ []) _ c.next-third.result.1 _ n3 (can-more r.third (r.fourth ∷ r.fifth ∷ r.sixth ∷ r.seventh ∷ []) _ c.next-second.result.1 _ n2 (can-more r.second (r.third ∷ r.fourth ∷ r.fifth ∷ r.sixth ∷ r.seventh ∷ []) _ c.next-first.result.1 _ n1 (can-more r.first (r.second ∷ r.third ∷ r.fourth ∷ r.fifth ∷ r.sixth ∷ r.seventh ∷ []) _ c.args.cells _ n0 (can-spread _ _ c.requires.at))))))

pub next-sixth-requires-clause-there : goal.next-sixth-requires-clause-there
next-sixth-requires-clause-there c = (let r = c.args.row in
    let n0 : IsNext r.first c.next-first.result.0 c.args.cells c.next-first.result.1 = record { fill = c.next-first.ensures.fill; count = c.next-first.ensures.count; same = c.next-first.ensures.same } in
    let n1 : IsNext r.second c.next-second.result.0 c.next-first.result.1 c.next-second.result.1 = record { fill = c.next-second.ensures.fill; count = c.next-second.ensures.count; same = c.next-second.ensures.same } in
    let n2 : IsNext r.third c.next-third.result.0 c.next-second.result.1 c.next-third.result.1 = record { fill = c.next-third.ensures.fill; count = c.next-third.ensures.count; same = c.next-third.ensures.same } in
    let n3 : IsNext r.fourth c.next-fourth.result.0 c.next-third.result.1 c.next-fourth.result.1 = record { fill = c.next-fourth.ensures.fill; count = c.next-fourth.ensures.count; same = c.next-fourth.ensures.same } in
    let n4 : IsNext r.fifth c.next-fifth.result.0 c.next-fourth.result.1 c.next-fifth.result.1 = record { fill = c.next-fifth.ensures.fill; count = c.next-fifth.ensures.count; same = c.next-fifth.ensures.same } in
    can-here r.sixth (r.seventh ∷ []) _ (can-more r.fifth (r.sixth ∷ r.seventh ∷ []) _ c.next-fourth.result.1 _ n4 (can-more r.fourth (r.fifth ∷ r.sixth ∷ r.seventh ∷ []) _ c.next-third.result.1 _ n3 (can-more r.third (r.fourth ∷ r.fifth ∷ r.sixth ∷ r.seventh ∷ []) _ c.next-second.result.1 _ n2 (can-more r.second (r.third ∷ r.fourth ∷ r.fifth ∷ r.sixth ∷ r.seventh ∷ []) _ c.next-first.result.1 _ n1 (can-more r.first (r.second ∷ r.third ∷ r.fourth ∷ r.fifth ∷ r.sixth ∷ r.seventh ∷ []) _ c.args.cells _ n0 (can-spread _ _ c.requires.at)))))))

pub next-seventh-requires-clause-there : goal.next-seventh-requires-clause-there
next-seventh-requires-clause-there c = (let r = c.args.row in
    let n0 : IsNext r.first c.next-first.result.0 c.args.cells c.next-first.result.1 = record { fill = c.next-first.ensures.fill; count = c.next-first.ensures.count; same = c.next-first.ensures.same } in
    let n1 : IsNext r.second c.next-second.result.0 c.next-first.result.1 c.next-second.result.1 = record { fill = c.next-second.ensures.fill; count = c.next-second.ensures.count; same = c.next-second.ensures.same } in
    let n2 : IsNext r.third c.next-third.result.0 c.next-second.result.1 c.next-third.result.1 = record { fill = c.next-third.ensures.fill; count = c.next-third.ensures.count; same = c.next-third.ensures.same } in
    let n3 : IsNext r.fourth c.next-fourth.result.0 c.next-third.result.1 c.next-fourth.result.1 = record { fill = c.next-fourth.ensures.fill; count = c.next-fourth.ensures.count; same = c.next-fourth.ensures.same } in
    let n4 : IsNext r.fifth c.next-fifth.result.0 c.next-fourth.result.1 c.next-fifth.result.1 = record { fill = c.next-fifth.ensures.fill; count = c.next-fifth.ensures.count; same = c.next-fifth.ensures.same } in
    let n5 : IsNext r.sixth c.next-sixth.result.0 c.next-fifth.result.1 c.next-sixth.result.1 = record { fill = c.next-sixth.ensures.fill; count = c.next-sixth.ensures.count; same = c.next-sixth.ensures.same } in
    can-here r.seventh [] _ (can-more r.sixth (r.seventh ∷ []) _ c.next-fifth.result.1 _ n5 (can-more r.fifth (r.sixth ∷ r.seventh ∷ []) _ c.next-fourth.result.1 _ n4 (can-more r.fourth (r.fifth ∷ r.sixth ∷ r.seventh ∷ []) _ c.next-third.result.1 _ n3 (can-more r.third (r.fourth ∷ r.fifth ∷ r.sixth ∷ r.seventh ∷ []) _ c.next-second.result.1 _ n2 (can-more r.second (r.third ∷ r.fourth ∷ r.fifth ∷ r.sixth ∷ r.seventh ∷ []) _ c.next-first.result.1 _ n1 (can-more r.first (r.second ∷ r.third ∷ r.fourth ∷ r.fifth ∷ r.sixth ∷ r.seventh ∷ []) _ c.args.cells _ n0 (can-spread _ _ c.requires.at))))))))

pub returns-clause-cells : goal.returns-clause-cells
returns-clause-cells c = (let r = c.args.row in
    let n0 : IsNext r.first c.next-first.result.0 c.args.cells c.next-first.result.1 = record { fill = c.next-first.ensures.fill; count = c.next-first.ensures.count; same = c.next-first.ensures.same } in
    let n1 : IsNext r.second c.next-second.result.0 c.next-first.result.1 c.next-second.result.1 = record { fill = c.next-second.ensures.fill; count = c.next-second.ensures.count; same = c.next-second.ensures.same } in
    let n2 : IsNext r.third c.next-third.result.0 c.next-second.result.1 c.next-third.result.1 = record { fill = c.next-third.ensures.fill; count = c.next-third.ensures.count; same = c.next-third.ensures.same } in
    let n3 : IsNext r.fourth c.next-fourth.result.0 c.next-third.result.1 c.next-fourth.result.1 = record { fill = c.next-fourth.ensures.fill; count = c.next-fourth.ensures.count; same = c.next-fourth.ensures.same } in
    let n4 : IsNext r.fifth c.next-fifth.result.0 c.next-fourth.result.1 c.next-fifth.result.1 = record { fill = c.next-fifth.ensures.fill; count = c.next-fifth.ensures.count; same = c.next-fifth.ensures.same } in
    let n5 : IsNext r.sixth c.next-sixth.result.0 c.next-fifth.result.1 c.next-sixth.result.1 = record { fill = c.next-sixth.ensures.fill; count = c.next-sixth.ensures.count; same = c.next-sixth.ensures.same } in
    let n6 : IsNext r.seventh c.next-seventh.result.0 c.next-sixth.result.1 c.next-seventh.result.1 = record { fill = c.next-seventh.ensures.fill; count = c.next-seventh.ensures.count; same = c.next-seventh.ensures.same } in
    all-found (r.first ∷ r.second ∷ r.third ∷ r.fourth ∷ r.fifth ∷ r.sixth ∷ r.seventh ∷ []) _ _ _ c.requires.at (spread-more r.first (r.second ∷ r.third ∷ r.fourth ∷ r.fifth ∷ r.sixth ∷ r.seventh ∷ []) c.next-first.result.0 _ c.args.cells c.next-first.result.1 _ n0 (spread-more r.second (r.third ∷ r.fourth ∷ r.fifth ∷ r.sixth ∷ r.seventh ∷ []) c.next-second.result.0 _ c.next-first.result.1 c.next-second.result.1 _ n1 (spread-more r.third (r.fourth ∷ r.fifth ∷ r.sixth ∷ r.seventh ∷ []) c.next-third.result.0 _ c.next-second.result.1 c.next-third.result.1 _ n2 (spread-more r.fourth (r.fifth ∷ r.sixth ∷ r.seventh ∷ []) c.next-fourth.result.0 _ c.next-third.result.1 c.next-fourth.result.1 _ n3 (spread-more r.fifth (r.sixth ∷ r.seventh ∷ []) c.next-fifth.result.0 _ c.next-fourth.result.1 c.next-fifth.result.1 _ n4 (spread-more r.sixth (r.seventh ∷ []) c.next-sixth.result.0 _ c.next-fifth.result.1 c.next-sixth.result.1 _ n5 (spread-more r.seventh [] c.next-seventh.result.0 _ c.next-sixth.result.1 c.next-seventh.result.1 _ n6 (spread-none c.next-seventh.result.1)))))))))

pub returns-clause-same : goal.returns-clause-same
returns-clause-same c = (let r = c.args.row in
    let n0 : IsNext r.first c.next-first.result.0 c.args.cells c.next-first.result.1 = record { fill = c.next-first.ensures.fill; count = c.next-first.ensures.count; same = c.next-first.ensures.same } in
    let n1 : IsNext r.second c.next-second.result.0 c.next-first.result.1 c.next-second.result.1 = record { fill = c.next-second.ensures.fill; count = c.next-second.ensures.count; same = c.next-second.ensures.same } in
    let n2 : IsNext r.third c.next-third.result.0 c.next-second.result.1 c.next-third.result.1 = record { fill = c.next-third.ensures.fill; count = c.next-third.ensures.count; same = c.next-third.ensures.same } in
    let n3 : IsNext r.fourth c.next-fourth.result.0 c.next-third.result.1 c.next-fourth.result.1 = record { fill = c.next-fourth.ensures.fill; count = c.next-fourth.ensures.count; same = c.next-fourth.ensures.same } in
    let n4 : IsNext r.fifth c.next-fifth.result.0 c.next-fourth.result.1 c.next-fifth.result.1 = record { fill = c.next-fifth.ensures.fill; count = c.next-fifth.ensures.count; same = c.next-fifth.ensures.same } in
    let n5 : IsNext r.sixth c.next-sixth.result.0 c.next-fifth.result.1 c.next-sixth.result.1 = record { fill = c.next-sixth.ensures.fill; count = c.next-sixth.ensures.count; same = c.next-sixth.ensures.same } in
    let n6 : IsNext r.seventh c.next-seventh.result.0 c.next-sixth.result.1 c.next-seventh.result.1 = record { fill = c.next-seventh.ensures.fill; count = c.next-seventh.ensures.count; same = c.next-seventh.ensures.same } in
    all-same (r.first ∷ r.second ∷ r.third ∷ r.fourth ∷ r.fifth ∷ r.sixth ∷ r.seventh ∷ []) _ _ _ c.requires.at (spread-more r.first (r.second ∷ r.third ∷ r.fourth ∷ r.fifth ∷ r.sixth ∷ r.seventh ∷ []) c.next-first.result.0 _ c.args.cells c.next-first.result.1 _ n0 (spread-more r.second (r.third ∷ r.fourth ∷ r.fifth ∷ r.sixth ∷ r.seventh ∷ []) c.next-second.result.0 _ c.next-first.result.1 c.next-second.result.1 _ n1 (spread-more r.third (r.fourth ∷ r.fifth ∷ r.sixth ∷ r.seventh ∷ []) c.next-third.result.0 _ c.next-second.result.1 c.next-third.result.1 _ n2 (spread-more r.fourth (r.fifth ∷ r.sixth ∷ r.seventh ∷ []) c.next-fourth.result.0 _ c.next-third.result.1 c.next-fourth.result.1 _ n3 (spread-more r.fifth (r.sixth ∷ r.seventh ∷ []) c.next-fifth.result.0 _ c.next-fourth.result.1 c.next-fifth.result.1 _ n4 (spread-more r.sixth (r.seventh ∷ []) c.next-sixth.result.0 _ c.next-fifth.result.1 c.next-sixth.result.1 _ n5 (spread-more r.seventh [] c.next-seventh.result.0 _ c.next-sixth.result.1 c.next-seventh.result.1 _ n6 (spread-none c.next-seventh.result.1)))))))))
