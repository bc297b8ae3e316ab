-- The part of a query at which an actor is: it is the only one of its shard on its desk, and no other actor is at it.
use Rattle.std.proofs.{Common.{◌≡◌, ℕ, zero, suc, ◌<◌, List, [], ◌∷◌, true, Option, Some, sym, ap, subst, ◌∙◌, arith, inl, inr, ◌==◌, ◌&&◌, Contains, eqb-true}, lemmas.Bool.{and_parts, false≢true}, lemmas.List.Elements.{All-contains, Contains-append_cases}}
use Rattle.dim_hierarchy.specs.declared.filter.Pick.{Pick}
use Rattle.query_router.specs.{Desk.{DeskValue, is_taken}, declared.part.Part.Part}
use Rattle.query_router.specs.declared.part.Want.TheVariants as want
use Rattle.row_ledger.specs.{Past.{Query, query_at}, Shards.comes_from, declared.event.Event.Event}
use Rattle.row_ledger.proofs.Descent.{comes_from-self}
use Rattle.list_words.proofs.Elements.{Contains-nil}
use Rattle.volap_cell.specs.{Desking.{Desking, AreLinesApart, AreUnrelated, IsWantOf}, Errands.Taken, Setting.Setting, declared.command.Command.Command, declared.role.Role.Role}

only-one : (x p : Part) → Contains (x ∷ []) p → x ≡ p
only-one x p (zero, lt, is) = is
only-one x p (suc n, lt, is) = absurd (omega arith)

-- parts of one shard are one
pub shard-once : (h : List Event) (parts : List Part) (p other : Part) → AreLinesApart h parts → Contains parts p → Contains parts other → p.shard ≡ other.shard → p ≡ other
shard-once h [] p other apart c d same = absurd (Contains-nil p c)
shard-once h (x ∷ parts) p other apart c d same = elim (Contains-append_cases (x ∷ []) parts p c) [
  | inl first ↦ elim (Contains-append_cases (x ∷ []) parts other d) [
    | inl also ↦ sym (only-one x p first) ∙ only-one x other also
    | inr later ↦ absurd (related x other (ap (λ (q : Part). q.shard) (only-one x p first) ∙ same) (All-contains (AreUnrelated h x) parts other apart.0 later))
  ]
  | inr later ↦ elim (Contains-append_cases (x ∷ []) parts other d) [
    | inl first ↦ absurd (related x p (ap (λ (q : Part). q.shard) (only-one x other first) ∙ sym same) (All-contains (AreUnrelated h x) parts p apart.0 later))
    | inr also ↦ shard-once h parts p other apart.1 later also same
  ]
]
  where
    related : (a b : Part) → a.shard ≡ b.shard → AreUnrelated h a b → ⊥
    related a b same u = false≢true (sym u.0 ∙ ap (comes_from h a.shard) (sym same) ∙ comes_from-self h a.shard)

-- what an actor's part of a query stands for on its desk
pub record IsQueryPart (s : Setting) (h : List Event) (desks : ℕ → DeskValue) (t : Taken) (f : List Pick) : Type 0 where
  pub within : t.server < s.servers
  pub of : ℕ
  pub op : (desks t.server).op ≡ Some of
  pub q : Query
  pub asked : query_at h of ≡ Some q
  pub filter : q.filter ≡ f
  pub part : Part
  pub there : Contains (desks t.server).parts part
  pub shard : part.shard ≡ t.shard
  pub worker : part.worker ≡ t.worker
  pub is_at : is_taken part ≡ true

module _ (s : Setting) (h : List Event) (desks : ℕ → DeskValue) (roles : ℕ → Role) (commands : ℕ → Option Command) (taken : ℕ → Option Taken) (i : Desking s h desks roles commands taken) where
  pub query-part : (a : ℕ) (t : Taken) (f : List Pick) → taken a ≡ Some t → t.want ≡ want.Filter f → IsQueryPart s h desks t f
  query-part a t f is wants =
      let at = i.at_parts a t is in
      let (q, asked, filter) = subst (IsWantOf h at.of) wants at.wants in
      let (place, part, lt, there, passes) = at.part in
      let (both, is_at) = and_parts (part.shard == t.shard && part.worker == t.worker) (is_taken part) passes in
      let (shard, worker) = and_parts (part.shard == t.shard) (part.worker == t.worker) both in
      record {
        within = at.within;
        of = at.of;
        op = at.op;
        q = q;
        asked = asked;
        filter = filter;
        part = part;
        there = (place, lt, there);
        shard = eqb-true part.shard t.shard shard;
        worker = eqb-true part.worker t.worker worker;
        is_at = is_at;
      }

  module _ (t : Taken) (f : List Pick) (k : IsQueryPart s h desks t f) where
    -- no other part has its shard
    pub the-part : (p : Part) → Contains (desks t.server).parts p → p.shard ≡ t.shard → p ≡ k.part
    the-part p there shard = shard-once h (desks t.server).parts p k.part (i.query t.server k.of k.q k.within k.op k.asked).1 there k.there (shard ∙ sym k.shard)

    -- and no other actor is at a part of its shard
    pub alone : (a n : ℕ) (u : Taken) → taken n ≡ Some t → taken a ≡ Some u → u.server ≡ t.server → u.shard ≡ t.shard → a ≡ n
    alone a n u is_n is_a server shard =
        let at = i.at_parts a u is_a in
        let (place, part, lt, there, passes) = at.part in
        let (both, is_at) = and_parts (part.shard == u.shard && part.worker == u.worker) (is_taken part) passes in
        let (of_shard, of_worker) = and_parts (part.shard == u.shard) (part.worker == u.worker) both in
        let here : Contains (desks t.server).parts part = subst (λ (x : ℕ). Contains (desks x).parts part) server (place, lt, there) in
        let one : part ≡ k.part = the-part part here (eqb-true part.shard u.shard of_shard ∙ shard) in
        i.one a n u t is_a is_n server shard (sym (eqb-true part.worker u.worker of_worker) ∙ ap (λ (p : Part). p.worker) one ∙ k.worker)
