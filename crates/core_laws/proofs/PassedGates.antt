-- Whether a row has passed a gate is seen: it was acknowledged, or its insert's part is placed, or an actor has it past its gate.
use Rattle.std.proofs.{Common.{◌≡◌, ◌∙◌, ◌⊎◌, ◌<◌, inl, inr, ℕ, true, List, [], ◌∷◌, Some, refl, sym, ap, subst}, lemmas.Bool.{false≢true}, lemmas.List.Elements.All-head}
use Rattle.std.specs.Prelude.{All, Contains}
use Rattle.query_router.specs.{Desk.is_taken, declared.part.Part.Part, declared.part.PartState.PartState}
use Rattle.query_router.specs.declared.part.PartState.TheVariants as state
use Rattle.row_ledger.specs.Past.{Ack, Insert, acked, insert_at}
use Rattle.core_tree.specs.volap_cell.proofs.Desks.Inserts.{taken-way}
use Rattle.core_tree.specs.volap_cell.specs.{Desking.{IsInsertState, IsTaken}, Errands.{RowWay, has_passed}, Ghost.Ghost, Invariant.InvWith, Placing.{IsRouted, IsRowPart}, Setting.Setting, View.view, World.World, declared.command.Command.Command}
use Rattle.core_tree.specs.volap_cell.specs.declared.command.Work.TheVariants as work_is

-- the insert's part is placed on its desk
pub record IsPlacedThere (s : Setting) (w : World) (r : ℕ) : Type 0 where
  pub insert : Insert
  pub begun : insert_at (view s w).history r ≡ Some insert
  pub server : ℕ
  pub within : server < s.servers
  pub op : ((view s w).desks server).op ≡ Some r
  pub part : Part
  pub alone : ((view s w).desks server).parts ≡ part ∷ []
  pub path : List ℕ
  pub state_is : part.state ≡ state.Placed path

-- an actor has the row past its gate
pub record IsCarriedPast (s : Setting) (w : World) (r : ℕ) : Type 0 where
  pub actor : ℕ
  pub way : RowWay
  pub has : (view s w).ways actor ≡ Some way
  pub row_is : way.row.no ≡ r
  pub passed : has_passed way.place ≡ true

abbrev pub HasPassed : Setting → World → ℕ → Type 0
HasPassed s w r = ((k : Ack) × Contains (acked (view s w).history) k × (k.row.no ≡ r)) ⊎ IsPlacedThere s w r ⊎ IsCarriedPast s w r

-- the one part of a list of one
of-one : (P : Part → Type 0) (parts : List Part) (p : Part) → parts ≡ p ∷ [] → All P parts → P p
of-one P parts p one all = All-head P p [] (subst (All P) one all)

module _ (s : Setting) (w : World) (g : Ghost) (i : InvWith s (view s w) g) (r : ℕ) where
  -- a row that has passed a gate is seen so
  pub is-seen : g.placed r ≡ true → HasPassed s w r
  is-seen placed = elim (i.placing.others r placed) [
    | inl acked_row ↦ inl acked_row
    | inr routed ↦ inr (by-insert routed)
  ]
    where
      by-insert : IsRouted (view s w).commands r → IsPlacedThere s w r ⊎ IsCarriedPast s w r
      by-insert routed =
          let c : Command = record { of = r; work = work_is.Insert routed.1 true } in
          let progress = i.telling.progress routed.0 c routed.2 in
          let ins : Insert = record { server = progress.0; row = routed.1 } in
          let within : progress.0 < s.servers = (i.telling.rows r ins progress.2).1 in
          let op = i.desking.on_desk routed.0 progress.0 c routed.2 progress.1 refl in
          let one = i.desking.insert progress.0 r ins within op progress.2 in
          let part = of-one (λ (p : Part). IsRowPart (view s w).history (view s w).images (view s w).ways g.placed g.path progress.0 r p p.state) ((view s w).desks progress.0).parts one.0 one.1
          (i.inserting.parts progress.0 r ins within op progress.2) in
          let taker = of-one (λ (p : Part). is_taken p ≡ true → IsTaken (view s w).taken progress.0 p) ((view s w).desks progress.0).parts one.0 one.1 (i.desking.takers progress.0 within) in
          by-state progress.0 ins progress.2 within op one.0 one.1 taker one.0.state refl one.2 part
        where
          by-state : (server : ℕ) (ins : Insert) → insert_at (view s w).history r ≡ Some ins → server < s.servers → ((view s w).desks server).op ≡ Some r
              → (p : Part) → ((view s w).desks server).parts ≡ p ∷ [] → (is_taken p ≡ true → IsTaken (view s w).taken server p)
              → (st : PartState) → p.state ≡ st → IsInsertState ins st → IsRowPart (view s w).history (view s w).images (view s w).ways g.placed g.path server r p st → IsPlacedThere s w r ⊎ IsCarriedPast s w r
          by-state server ins begun within op p one taker (state.Waiting wanted) is valid part = absurd (false≢true (sym part.0 ∙ placed))
          by-state server ins begun within op p one taker state.Taken is valid part =
              let t = taker (rw is refl) in
              let has = taken-way s w g i r ins t.0 t.1 begun (ap (λ n. ((view s w).desks n).op) t.3 ∙ op) t.2 in
              inr (record { actor = t.0; way = has.way; has = has.at; row_is = has.number; passed = sym (i.inserting.on_way t.0 has.way has.at).passed ∙ ap g.placed has.number ∙ placed })
          by-state server ins begun within op p one taker (state.Placed path) is valid part =
              inl (record { insert = ins; begun = begun; server = server; within = within; op = op; part = p; alone = one; path = path; state_is = is })
          by-state server ins begun within op p one taker state.NoMemory is valid part = absurd (false≢true (sym part.0 ∙ placed))
          by-state server ins begun within op p one taker (state.Done total) is valid part = absurd valid

  -- and one that is seen so has passed one
  pub has-passed : HasPassed s w r → g.placed r ≡ true
  has-passed seen = elim seen [
    | inl k ↦ subst (λ n. g.placed n ≡ true) k.2 (i.placing.acked_rows k.0 k.1).0
    | inr other ↦ elim other [
      | inl there ↦
          let part = of-one (λ (p : Part). IsRowPart (view s w).history (view s w).images (view s w).ways g.placed g.path there.server r p p.state) ((view s w).desks there.server).parts there.part there.alone
          (i.inserting.parts there.server r there.insert there.within there.op there.begun) in
          (subst (IsRowPart (view s w).history (view s w).images (view s w).ways g.placed g.path there.server r there.part) there.state_is part).0
      | inr past ↦ ap g.placed (sym past.row_is) ∙ (i.inserting.on_way past.actor past.way past.has).passed ∙ past.passed
    ]
  ]
