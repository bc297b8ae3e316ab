use Rattle.std.proofs.Common.{IsSome, ap, subst, sym, ◌+◌, ◌∙◌}
use Rattle.std.specs.FinMap as map
use Rattle.std.specs.Ordering.{nat_cmp}
use Rattle.mapping_table.specs.declared.place.Where.{Where}
use Rattle.mapping_table.specs.declared.place.Where.TheVariants as where_is
use Rattle.core_admin.proofs.TableSteps.{both-forgotten, entered-last, still-known}
use Rattle.core_admin.proofs.splits.enter_both.Goals as goal

pub lead_apart-requires-clause-known : goal.lead_apart-requires-clause-known
lead_apart-requires-clause-known c =
    subst (λ (z : map.FinMap nat_cmp Where). IsSome (map.get z c.args.shard)) (sym c.in_ok-lead_to_children.ensures.ok) (still-known c.args.table.now c.args.first c.args.left_at c.args.right_at c.requires.due.nowhere c.args.shard c.requires.due.known)

pub returns-in-Ok-clause-ok : goal.returns-in-Ok-clause-ok
returns-in-Ok-clause-ok c =
    let apart = where_is.Split c.args.plane.now c.args.first (c.args.first + 1) in
    record {
      leads = c.lead_apart.ensures ∙ ap (λ (z : map.FinMap nat_cmp Where). map.insert z c.args.shard apart) c.in_ok-lead_to_children.ensures.ok
          ∙ entered-last c.args.table.now c.args.first c.args.left_at c.args.right_at c.requires.due.nowhere c.args.shard c.requires.due.known apart;
      split = c.in-Ok.ensures.ok;
    }

pub returns-in-Err-clause-err : goal.returns-in-Err-clause-err
returns-in-Err-clause-err c = (
  c.forget-in-Err.ensures
      ∙ ap (λ (z : map.FinMap nat_cmp Where). map.remove z c.args.first) (c.forget.ensures ∙ ap (λ (z : map.FinMap nat_cmp Where). map.remove z (c.args.first + 1)) c.in_ok-lead_to_children.ensures.ok)
      ∙ both-forgotten c.args.table.now c.args.first c.args.left_at c.args.right_at c.requires.due.nowhere,
  c.in-Err.ensures.err,
)
