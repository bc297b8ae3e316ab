use Rattle.std.proofs.{Common.{◌≡◌, ◌<◌, ◌+◌, ◌++◌, ◌∷◌, [], ◌∙◌, length, take, get_or, subst, sym, ap, arith}, lemmas.List.Elements.{All-push, All-same}, lemmas.Option.slice_get-get_or}
use Rattle.std.specs.{List.AllZip, Prelude.IfSome}
use Rattle.dim_hierarchy.specs.{Rows.IsRowOf, declared.row.Row.Row}
use Rattle.describing_set.specs.{DescSet.IsSetOf, Sets.IsDescSetOf, declared.set.DescSet.DescSet}
use Rattle.link_descent.proofs.{Items.{AllZip-more, no_row, row_there, row_read}, cuts.row_sets.Goals.{in-Some, in_default}}
use Rattle.link_descent.proofs.cuts.row_sets.Goals as goal

pub push_coord-requires-clause-at : goal.push_coord-requires-clause-at
push_coord-requires-clause-at c =
    let rows = c.args.rows.now.items in
    let i = c.loop-place.place in
    let lt : i < length rows = omega (arith, c.loop-place-test.true, c.len-place-end.ensures.value) in
    subst (λ o. IfSome o (IsRowOf c.args.h.now)) (sym (slice_get-get_or rows i no_row lt) ∙ sym c.row.ensures ∙ c.in-Some.is) (c.requires.rows i no_row lt)

pub loop-place-preserved : goal.loop-place-preserved
loop-place-preserved c =
    let h = c.args.h.now in
    let R : Row → DescSet → Type 0 = λ r s. IsSetOf h (r.at ∷ []) s in
    let rows = c.args.rows.now.items in
    let i = c.loop-place.place in
    let lt : i < length rows = omega (arith, c.loop-place-test.true, c.len-place-end.ensures.value) in
    let sets = c.loop-place.sets.items in
    elim c.match-row.branch [
      | in-Some w ↦
          let more = w.push_coord.ensures.items in
          let now : c.match-row.sets.items ≡ sets ++ more.set ∷ [] = ap (λ v. v.items) w.sets-is ∙ more.now_is in
          let here = row_there (λ r. R r more.set) rows i lt (subst (λ o. IfSome o (λ (r : Row). R r more.set)) (sym (sym c.row.ensures ∙ w.in-Some.is)) more.set_of) in
          record {
            sets = subst (λ l. AllZip R (take (i + 1) rows) l) (sym now) (AllZip-more R rows sets i (get_or rows i no_row) more.set lt (row_read rows i lt) c.loop-place.invariant.sets here);
            valid = All-same (IsDescSetOf h) c.match-row.sets.items (sets ++ more.set ∷ []) now (All-push (IsDescSetOf h) sets more.set c.loop-place.invariant.valid more.valid);
            count = ap (λ v. length v.items) w.sets-is ∙ w.push_coord.ensures.len ∙ ap (λ n. n + 1) c.loop-place.invariant.count;
          }
      | in_default w ↦ absurd (w.in_default.not-Some (get_or rows i no_row) (c.row.ensures ∙ slice_get-get_or rows i no_row lt))
    ]
