-- A part that stands again on its desk with the shard that it had: it is apart from the others, and has counted what it had.
use Rattle.std.proofs.{Common.{◌≡◌, ℕ, ◌<◌, List, [], ◌∷◌, ◌++◌, true, false, Some, refl, sym, ap, subst, ◌∙◌, All, Any, Contains}, lemmas.List.Elements.{All-contains, All-cons, All-nil}}
use Rattle.query_router.specs.{Desk.{is_refused, is_with, state_is_refused, state_is_taken}, declared.part.Part.Part, declared.part.PartState.PartState}
use Rattle.query_router.specs.declared.part.PartState.TheVariants as state
use Rattle.row_ledger.specs.{Past.{Query, query_at}, Shards.{comes_from, ids_made}}
use Rattle.volap_cell.specs.{Desking.{AreLinesApart, AreUnrelated, IsQueryPart}, Errands.taken_by, Ghost.Ghost, Growing.IsUnder, Invariant.InvWith, Querying.IsCounted, Setting.Setting, Values.ErrandValue, View.View}
use Rattle.volap_cell.proofs.{Desks.Facts.with-parts, Desks.Lists.{Contains-head, Contains-one, any-of, apart-others, old-was}}

-- one that is taken wasn't refused
not-refused : (st : PartState) → state_is_taken st ≡ true → state_is_refused st ≡ false
not-refused state.NoMemory is = (let never : false ≡ true = is in cc)
not-refused _ is = refl

-- what holds of a part holds of all that stand in the place
pub all-one : (P : Part → Type 0) (p : Part) → P p → All P (p ∷ [])
all-one P p here = All-cons P p [] here (All-nil P)

module _ (s : Setting) (v : View) (g : Ghost) (i : InvWith s v g) (n : ℕ) (e : ErrandValue) (takes : v.taken n ≡ Some (taken_by e)) (before behind : List Part) (old : Part) (was : (v.desks e.server).parts ≡ before ++ old ∷ behind) (with : is_with e.shard e.worker old ≡ true) where
  abbrev pub of : ℕ
  of = (i.desking.at_parts n (taken_by e) takes).of

  pub within : e.server < s.servers
  within = (i.desking.at_parts n (taken_by e) takes).within

  pub op : (v.desks e.server).op ≡ Some of
  op = (i.desking.at_parts n (taken_by e) takes).op

  pub its-shard : old.shard ≡ e.shard
  its-shard = (with-parts e.shard e.worker old with).0

  pub in-parts : Contains (v.desks e.server).parts old
  in-parts = subst (λ (xs : List Part). Contains xs old) (sym was) (old-was before behind old)

  -- it was made, where the command is a query
  pub its-made : (q : Query) → query_at v.history of ≡ Some q → e.shard < ids_made s.workers v.history
  its-made q asked =
      subst (λ (x : ℕ). x < ids_made s.workers v.history) its-shard (All-contains (IsQueryPart s v.history) (v.desks e.server).parts old (i.desking.query e.server of q within op asked).2 in-parts).1

  -- the lines of the others, where the command is a query
  pub unrelated : (q : Query) → query_at v.history of ≡ Some q → (p : Part) → Contains (before ++ behind) p → (comes_from v.history e.shard p.shard ≡ false) × (comes_from v.history p.shard e.shard ≡ false)
  unrelated q asked p has =
      let lines = subst (AreLinesApart v.history) was (i.desking.query e.server of q within op asked).1 in
      let apart = apart-others v.history before behind old lines p has in
      (ap (λ (x : ℕ). comes_from v.history x p.shard) (sym its-shard) ∙ apart.0, ap (λ (x : ℕ). comes_from v.history p.shard x) (sym its-shard) ∙ apart.1)

  pub counted : (q : Query) → query_at v.history of ≡ Some q → IsCounted s v.history v.row g.placed g.home q e.shard (g.counted e.server e.shard)
  counted q asked =
      let P : Part → Type 0 = λ p. is_refused p ≡ false → IsCounted s v.history v.row g.placed g.home q p.shard (g.counted e.server p.shard) in
      subst (λ (x : ℕ). IsCounted s v.history v.row g.placed g.home q x (g.counted e.server x)) its-shard
      (All-contains P (v.desks e.server).parts old (i.querying.counts e.server of q within op asked) in-parts (not-refused old.state (with-parts e.shard e.worker old with).2))

  module _ (part : Part) (same : part.shard ≡ e.shard) where
    pub one-apart : (q : Query) → query_at v.history of ≡ Some q → AreLinesApart v.history (part ∷ []) × ((p other : Part) → Contains (before ++ behind) p → Contains (part ∷ []) other → AreUnrelated v.history p other)
    one-apart q asked = (
      (All-nil (AreUnrelated v.history part), tt),
      λ p other has new.
          let lines = unrelated q asked p has in
          subst (AreUnrelated v.history p) (Contains-one part other new) (ap (λ (x : ℕ). comes_from v.history p.shard x) same ∙ lines.1, ap (λ (x : ℕ). comes_from v.history x p.shard) same ∙ lines.0),
    )

    pub one-under : (r : ℕ) → IsUnder v.history g.placed g.home old.shard r → Any (λ (p : Part). IsUnder v.history g.placed g.home p.shard r) (part ∷ [])
    one-under r under = any-of (λ (p : Part). IsUnder v.history g.placed g.home p.shard r) (part ∷ []) part (Contains-head part []) (subst (λ (x : ℕ). IsUnder v.history g.placed g.home x r) (its-shard ∙ sym same) under)

    pub one-counted : (q : Query) → query_at v.history of ≡ Some q → All (λ (p : Part). is_refused p ≡ false → IsCounted s v.history v.row g.placed g.home q p.shard (g.counted e.server p.shard)) (part ∷ [])
    one-counted q asked = all-one (λ (p : Part). is_refused p ≡ false → IsCounted s v.history v.row g.placed g.home q p.shard (g.counted e.server p.shard)) part
        (λ kept. subst (λ (x : ℕ). IsCounted s v.history v.row g.placed g.home q x (g.counted e.server x)) (sym same) (counted q asked))
