-- A step that is no note leaves its actor counted at its desk as it was, and so does one that changes the history or its actor's
-- command.
use Rattle.std.proofs.{Common.{◌≡◌, ◌∙◌, ◌⊎◌, inl, inr, ℕ, Bool, cond, eqb, List, [], ◌∷◌, refl, sym, ap, subst}, lemmas.Bool.eqb-true}
use Rattle.dim_hierarchy.specs.Dimension.{Dimension}
use Rattle.row_ledger.specs.declared.event.Event.{Event}
use Rattle.list_words.proofs.Truth.{on_bool, eqb-self}
use Rattle.core_pages.specs.volap_cell.specs.{AdminKinds.{Finishes, GivesUp}, Cells.{CellValue, ledger_in}, ImageKinds.{CountsSession, DoesNote, DoesNoteWith, OfUnknown, OfRefused, OfCalled, OfLeft, OfShown, OfEnded, OfCount, OfCalledAsking, OfUnrouted, OfQuery}, Kinds.Does, Setting.ledger_cell, Steps.history_in, Values.{ActorValue, JobValue}, World.{Agrees, Change, World, after}, declared.command.Work.Work, declared.kind.Kind.Kind}
use Rattle.core_pages.specs.volap_cell.specs.declared.command.Work.TheVariants as work_is
use Rattle.core_pages.specs.volap_cell.specs.declared.kind.Kind.TheVariants as kind
use Rattle.seeded_run.specs.Measure.{CountedLaw}

-- the actor is counted as before
abbrev Same : ActorValue → ActorValue → Type 0
Same a b = b.counted ≡ a.counted

finished : (gate of : ℕ) (work : Work) (job : JobValue) (e : Event) (l : Change) (a b : ActorValue) → Finishes gate of work job e l a b → Same a b
finished gate of (work_is.Balance balance) job e l a b d = ap (λ (z : ActorValue). z.counted) d.1
finished gate of _ job e l a b d = ap (λ (z : ActorValue). z.counted) d.1

gave-up : (of : ℕ) (work : Work) (job : JobValue) (l : Change) (a b : ActorValue) → GivesUp of work job l a b → Same a b
gave-up of (work_is.Balance balance) job l a b d = ap (λ (z : ActorValue). z.counted) d.1
gave-up of _ job l a b d = ap (λ (z : ActorValue). z.counted) d.1

-- a note that holds one cell counts a session, or leaves it
noted : (c : Change) (a b : ActorValue) → DoesNote c a b → CountsSession c a b ⊎ Same a b
noted c a b (OfUnknown d) = inr (ap (λ (z : ActorValue). z.counted) d.actor_is)
noted c a b (OfRefused d) = inr (ap (λ (z : ActorValue). z.counted) d.actor_is)
noted c a b (OfCalled registry d) = inr (ap (λ (z : ActorValue). z.counted) d.actor_is)
noted c a b (OfLeft d) = inr (ap (λ (z : ActorValue). z.counted) d.actor_is)
noted c a b (OfShown page d) = inr (ap (λ (z : ActorValue). z.counted) d.actor_is)
noted c a b (OfEnded d) = inr (ap (λ (z : ActorValue). z.counted) d.actor_is)
noted c a b (OfCount d) = inl d

noted-with : (c l : Change) (a b : ActorValue) → DoesNoteWith c l a b → Same a b
noted-with c l a b (OfCalledAsking registry asks d) = ap (λ (z : ActorValue). z.counted) d.actor_is
noted-with c l a b (OfUnrouted d) = ap (λ (z : ActorValue). z.counted) d.actor_is
noted-with c l a b (OfQuery d) = ap (λ (z : ActorValue). z.counted) d.actor_is

-- a note of one cell that counts a session
record Counts (k : Kind) (cs : List Change) (a b : ActorValue) : Type 0 where
  note : k ≡ kind.Note
  cell : Change
  alone : cs ≡ cell ∷ []
  counts : CountsSession cell a b

by-kind : (h : List Dimension) (k : Kind) (cs : List Change) (a b : ActorValue) → Does h k cs a b → Counts k cs a b ⊎ Same a b
by-kind h kind.GateRead (m ∷ g ∷ []) a b d = inr (ap (λ (z : ActorValue). z.counted) d.actor_is)
by-kind h kind.BlockVisit (c ∷ []) a b d = inr (ap (λ (z : ActorValue). z.counted) d.actor_is)
by-kind h kind.EnterTree (m ∷ g ∷ root ∷ others) a b d = inr (ap (λ (z : ActorValue). z.counted) d.actor_is)
by-kind h kind.EnterQueue (m ∷ g ∷ []) a b d = inr (ap (λ (z : ActorValue). z.counted) d.actor_is)
by-kind h kind.Down (p ∷ c ∷ others) a b d = inr (ap (λ (z : ActorValue). z.counted) d.actor_is)
by-kind h kind.PutInLeaf (c ∷ []) a b d = inr (ap (λ (z : ActorValue). z.counted) d.actor_is)
by-kind h kind.LeaveTree (g ∷ []) a b d = inr (ap (λ (z : ActorValue). z.counted) d.actor_is)
by-kind h kind.Refill (c ∷ []) a b d = elim d.does [
  | inl fills ↦ inr (ap (λ (z : ActorValue). z.counted) fills.1.actor_is)
  | inr empties ↦ inr (ap (λ (z : ActorValue). z.counted) empties.actor_is)
]
by-kind h kind.TakePart (c ∷ []) a b d = inr (ap (λ (z : ActorValue). z.counted) d.actor_is)
by-kind h kind.LookUp (m ∷ g ∷ []) a b d = elim d [
  | inl height ↦ inr (ap (λ (z : ActorValue). z.counted) height.actor_is)
  | inr load ↦ inr (ap (λ (z : ActorValue). z.counted) load.actor_is)
]
by-kind h kind.Forward (m ∷ c ∷ []) a b d = inr (ap (λ (z : ActorValue). z.counted) d.actor_is)
by-kind h kind.Expand (m ∷ c ∷ []) a b d = inr (ap (λ (z : ActorValue). z.counted) d.actor_is)
by-kind h kind.FinishPart (c ∷ []) a b d = inr (ap (λ (z : ActorValue). z.counted) d.actor_is)
by-kind h kind.FinishPart (g ∷ c ∷ []) a b d = inr (ap (λ (z : ActorValue). z.counted) d.actor_is)
by-kind h kind.BeginInsert (i ∷ l ∷ []) a b d = inr (ap (λ (z : ActorValue). z.counted) d.actor_is)
by-kind h kind.Note (c ∷ []) a b d = elim (noted c a b d) [
  | inl counts ↦ inl (record { note = refl; cell = c; alone = refl; counts = counts })
  | inr is ↦ inr is
]
by-kind h kind.Note (c ∷ l ∷ []) a b d = inr (noted-with c l a b d)
by-kind h kind.Note (c ∷ i ∷ l ∷ []) a b d = inr (ap (λ (z : ActorValue). z.counted) d.actor_is)
by-kind h kind.Route (c ∷ i ∷ []) a b d = inr (ap (λ (z : ActorValue). z.counted) d.actor_is)
by-kind h kind.Ack (c ∷ i ∷ l ∷ []) a b d = inr (ap (λ (z : ActorValue). z.counted) d.actor_is)
by-kind h kind.BeginQuery (c ∷ i ∷ l ∷ []) a b d = inr (ap (λ (z : ActorValue). z.counted) d.actor_is)
by-kind h kind.Answer (c ∷ l ∷ []) a b d = inr (ap (λ (z : ActorValue). z.counted) d.actor_is)
by-kind h kind.Sync (i ∷ r ∷ l ∷ []) a b d = inr (ap (λ (z : ActorValue). z.counted) d.actor_is)
by-kind h kind.Freeze (m ∷ g ∷ c ∷ []) a b d = elim d.does [
  | inl one ↦ inr (ap (λ (z : ActorValue). z.counted) one.1.2)
  | inr (plane, divided, inl few) ↦ inr (ap (λ (z : ActorValue). z.counted) few.1.2)
  | inr (plane, divided, inr enough) ↦ inr (ap (λ (z : ActorValue). z.counted) enough.1.actor_is)
]
by-kind h kind.Drained (g ∷ []) a b d = inr (ap (λ (z : ActorValue). z.counted) d.actor_is)
by-kind h kind.Collect (c ∷ []) a b d = elim d [
  | inl block ↦ inr (ap (λ (z : ActorValue). z.counted) block.actor_is)
  | inr (inl queued) ↦ inr (ap (λ (z : ActorValue). z.counted) queued.actor_is)
  | inr (inr all) ↦ inr (ap (λ (z : ActorValue). z.counted) all.actor_is)
]
by-kind h kind.BuildBlock (c ∷ []) a b d = inr (ap (λ (z : ActorValue). z.counted) d.actor_is)
by-kind h kind.FinishSplit (m ∷ x ∷ l ∷ r ∷ reg ∷ c ∷ led ∷ []) a b d = inr (finished x.number d.of d.work d.job _ led a b d.finishes)
by-kind h kind.FinishMove (m ∷ x ∷ g ∷ reg ∷ c ∷ led ∷ []) a b d = inr (finished x.number d.of d.work d.job _ led a b d.finishes)
by-kind h kind.FinishMove (m ∷ n ∷ x ∷ g ∷ reg ∷ c ∷ led ∷ []) a b d = inr (finished x.number d.of d.work d.job _ led a b d.finishes)
by-kind h kind.Postpone (c ∷ led ∷ []) a b d = inr (gave-up d.of d.work d.job led a b d.gives_up)
by-kind h kind.Reuse (g ∷ y ∷ c ∷ []) a b d = inr (ap (λ (z : ActorValue). z.counted) d.actor_is)
by-kind h kind.Reuse (g ∷ c ∷ []) a b d = inr (ap (λ (z : ActorValue). z.counted) d.actor_is)
by-kind h _ _ a b d = absurd d

-- a count leaves the history, as it holds a desk alone
still : (w : World) (n : ℕ) (c : Change) (a b : ActorValue) → Agrees w (c ∷ []) n a → CountsSession c a b → history_in (after w (c ∷ []) n b) ≡ history_in w
still w n c a b agrees d = on_bool (eqb ledger_cell c.number)
    (λ q. let here : w.cells ledger_cell ≡ c.before = ap w.cells (eqb-true _ _ q) ∙ agrees.cells.0 in
    let was : history_in w ≡ [] = ap (λ (z : CellValue). (ledger_in z).history) (here ∙ d.turns.was) in
    let is : history_in (after w (c ∷ []) n b) ≡ [] = ap (λ (v : Bool). (ledger_in (cond v c.now (w.cells ledger_cell))).history) q ∙ ap (λ (z : CellValue). (ledger_in z).history) d.turns.is in
    is ∙ sym was)
    (λ q. ap (λ (v : Bool). (ledger_in (cond v c.now (w.cells ledger_cell))).history) q)

pub counted-law : CountedLaw
counted-law s k n w now step kept = elim (by-kind s.hierarchy k step.changes (w.actors n) step.actor step.does) [
  | inl count ↦ elim kept [
    | inl other ↦ absurd (other count.note)
    | inr (inl changed) ↦
        let agrees : Agrees w (count.cell ∷ []) n (w.actors n) = subst (λ (cs : List Change). Agrees w cs n (w.actors n)) count.alone step.agrees in
        let now_is : now ≡ after w (count.cell ∷ []) n step.actor = step.now_is ∙ ap (λ (cs : List Change). after w cs n step.actor) count.alone in
        absurd (changed (ap history_in now_is ∙ still w n count.cell (w.actors n) step.actor agrees count.counts))
    | inr (inr changed) ↦ absurd (changed (here (λ (z : ActorValue). z.command) ∙ ap (λ (z : ActorValue). z.command) count.counts.actor_is))
  ]
  | inr same ↦ here (λ (z : ActorValue). z.counted) ∙ same
]
  where
    here : {X : Type 0} (f : ActorValue → X) → f (now.actors n) ≡ f step.actor
    here f = ap (λ (z : World). f (z.actors n)) step.now_is ∙ ap (λ (v : Bool). f (cond v step.actor (w.actors n))) (eqb-self n)
