-- What an actor's part is where it waits again for the shard that it had, at another worker.
use Rattle.std.proofs.Common.{◌≡◌, ℕ, ◌<◌, List, [], ◌∷◌, ◌++◌, true, false, Option, Some, None, refl, sym, ap, subst, ◌∙◌}
use Rattle.std.specs.Prelude.{IsSome}
use Rattle.query_router.specs.{Desk.{is_open, is_taken, is_with}, declared.part.Part.Part, declared.part.Want.Want}
use Rattle.query_router.specs.declared.part.Want.TheVariants as want
use Rattle.row_ledger.specs.Past.{Insert, Query, insert_at, query_at}
use Rattle.volap_cell.specs.{Desking.{IsInsertState, IsQueryPart, IsQueryState}, Errands.{RowWay, has_passed, read_in_task, taken_by, want_of, way_in_task}, Ghost.Ghost, Invariant.InvWith, Placing.{IsLead, IsRowPart}, Querying.IsEndOfPart, Setting.Setting, ShardKinds.{IsOutside, waiting}, Values.{ErrandValue, OfRow, Read, TaskValue, Unread}, View.View}
use Rattle.volap_cell.proofs.Views.Fields.{IsNewAt}
use Rattle.core_shard.proofs.{BackFacts.{row-no-query, unread-filter, unread-no-insert}, GoesBack.AreParts, OnePart.{all-one, its-made, one-apart, one-counted, one-under}, RowBack.{row-nobody, row-on, row-passed, row-want}}

module _ (s : Setting) (v : View) (g : Ghost) (i : InvWith s v g) (n : ℕ) (e : ErrandValue) (takes : v.taken n ≡ Some (taken_by e)) (goes : v.ways n ≡ way_in_task e e.task) (reads : v.reads n ≡ read_in_task e e.task)
    (wanted : Want) (path : List ℕ) (is : IsOutside e.task wanted path) (before behind : List Part) (old : Part) (was : (v.desks e.server).parts ≡ before ++ old ∷ behind) (with : is_with e.shard e.worker old ≡ true)
    (ways_now : ℕ → Option RowWay) (ways : IsNewAt ways_now v.ways n (way_in_task e e.task) None) (to : ℕ) (leads : (to < s.workers) × IsSome (v.maps to e.shard)) where
  abbrev of : ℕ
  of = (i.desking.at_parts n (taken_by e) takes).of

  abbrev pub part : Part
  part = waiting e.shard to path wanted

  row-part : (x : Insert) → insert_at v.history of ≡ Some x → (task : TaskValue) → e.task ≡ task → IsOutside task wanted path
      → IsInsertState x part.state × IsRowPart v.history v.images ways_now g.placed g.path e.server of part part.state
  row-part x begun (OfRow r) same (outside, want_is, path_is) =
      let on = row-on s v g i n e takes goes r same in
      let lead : IsLead v.history v.images e.server path e.shard = subst (λ (p : List ℕ). IsLead v.history v.images e.server p e.shard) (sym path_is) on.lead in
      (want_is ∙ row-want s v g i n e takes goes r same x begun, (row-passed s v g i n e takes goes r same ∙ ap has_passed outside, row-nobody s v g i n e takes goes r same ways_now ways, lead))
  row-part x begun (Unread f) same outside = absurd (unread-no-insert s v g i n e takes f same x begun)
  row-part x begun (Read r) same outside = absurd outside

  asks : (q : Query) → query_at v.history of ≡ Some q → (task : TaskValue) → e.task ≡ task → IsOutside task wanted path → IsQueryState q part.state × (g.counted e.server e.shard ≡ []) × IsQueryPart s v.history part
  asks q asked (OfRow r) same outside = absurd (row-no-query s v g i n e takes r same q asked)
  asks q asked (Unread f) same (want_is, path_is) =
      (want_is ∙ ap want.Filter (sym (unread-filter s v g i n e takes f same q asked)), i.querying.unread n (taken_by e) f takes (ap (λ (t : TaskValue). want_of t) same) (reads ∙ ap (read_in_task e) same), (path_is, its-made s v g i n e takes before behind old was with q asked))
  asks q asked (Read r) same outside = absurd outside

  pub waiting-parts : AreParts s v g e before old (part ∷ []) behind ways_now g.counted of
  waiting-parts = record {
    none_taken = all-one (λ (p : Part). is_taken p ≡ false) part refl;
    leads = all-one (λ (p : Part). is_open p ≡ true → (p.worker < s.workers) × IsSome (v.maps p.worker p.shard)) part (λ opened. leads);
    insert = λ x begun. let row = row-part x begun e.task refl is in (part, refl, row.0, row.1);
    query = λ q asked. all-one (λ (p : Part). IsQueryState q p.state) part (asks q asked e.task refl is).0;
    made = λ q asked. all-one (IsQueryPart s v.history) part (asks q asked e.task refl is).2;
    counts = one-counted s v g i n e takes before behind old was with part refl;
    ends = λ q asked. all-one (λ (p : Part). IsEndOfPart s v.history v.row g.placed g.home of q p.shard (g.counted e.server p.shard) p.state) part (asks q asked e.task refl is).1;
    apart = one-apart s v g i n e takes before behind old was with part refl;
    whole = λ q asked r must fit under. one-under s v g i n e takes before behind old was with part refl r under;
    same = λ p has. refl;
    off = λ x ne y. refl;
  }
