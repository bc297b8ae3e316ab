-- The table of the kinds: which cells each holds, in which order, and what it does to them and to its actor. `Does` is what the
-- code of a kind is proved to do, and what a step of the core is.
use Rattle.std.specs.Prelude.{List, [], ◌∷◌}
use Rattle.dim_hierarchy.specs.Dimension.{Dimension}
use Rattle.volap_cell.specs.{AdminKinds.{DoesFreeze, DoesDrained, DoesCollect, DoesBuildBlock, DoesFinishSplit, DoesFinishMove, DoesPostpone, ReusesBlock, ReusesGate}, ImageKinds.{DoesBeginInsert, DoesNote, DoesNoteWith, FailsRouted, DoesRoute, DoesAck, DoesBeginQuery, DoesAnswer, DoesSync}, ShardKinds.{DoesTakePart, DoesLookUp, DoesForward, DoesExpand, DoesFinishPart}, TreeKinds.{DoesGateRead, DoesBlockVisit, DoesEnterTree, DoesEnterQueue, DoesDown, DoesPutInLeaf, DoesLeaveTree, DoesRefill}, Values.ActorValue, World.Change, declared.kind.Kind.Kind}
use Rattle.volap_cell.specs.declared.kind.Kind.TheVariants as kind

abbrev pub Does : List Dimension → Kind → List Change → ActorValue → ActorValue → Type 0
Does h kind.GateRead (m ∷ g ∷ []) a b = DoesGateRead h m g a b
Does h kind.BlockVisit (c ∷ []) a b = DoesBlockVisit h c a b
Does h kind.EnterTree (m ∷ g ∷ root ∷ others) a b = DoesEnterTree h m g root others a b
Does h kind.EnterQueue (m ∷ g ∷ []) a b = DoesEnterQueue h m g a b
Does h kind.Down (p ∷ c ∷ others) a b = DoesDown h p c others a b
Does h kind.PutInLeaf (c ∷ []) a b = DoesPutInLeaf c a b
Does h kind.LeaveTree (g ∷ []) a b = DoesLeaveTree g a b
Does h kind.Refill (c ∷ []) a b = DoesRefill c a b
Does h kind.TakePart (d ∷ []) a b = DoesTakePart d a b
Does h kind.LookUp (m ∷ g ∷ []) a b = DoesLookUp m g a b
Does h kind.Forward (m ∷ d ∷ []) a b = DoesForward m d a b
Does h kind.Expand (m ∷ d ∷ []) a b = DoesExpand h m d a b
Does h kind.FinishPart (d ∷ []) a b = DoesFinishPart [] d a b
Does h kind.FinishPart (g ∷ d ∷ []) a b = DoesFinishPart (g ∷ []) d a b
Does h kind.BeginInsert (i ∷ l ∷ []) a b = DoesBeginInsert h i l a b
Does h kind.Note (c ∷ []) a b = DoesNote c a b
Does h kind.Note (c ∷ l ∷ []) a b = DoesNoteWith c l a b
Does h kind.Note (d ∷ i ∷ l ∷ []) a b = FailsRouted d i l a b
Does h kind.Route (d ∷ i ∷ []) a b = DoesRoute h d i a b
Does h kind.Ack (d ∷ i ∷ l ∷ []) a b = DoesAck h d i l a b
Does h kind.BeginQuery (d ∷ i ∷ l ∷ []) a b = DoesBeginQuery h d i l a b
Does h kind.Answer (d ∷ l ∷ []) a b = DoesAnswer d l a b
Does h kind.Sync (i ∷ r ∷ l ∷ []) a b = DoesSync h i r l a b
Does h kind.Freeze (m ∷ g ∷ c ∷ []) a b = DoesFreeze h m g c a b
Does h kind.Drained (g ∷ []) a b = DoesDrained g a b
Does h kind.Collect (c ∷ []) a b = DoesCollect h c a b
Does h kind.BuildBlock (c ∷ []) a b = DoesBuildBlock c a b
Does h kind.FinishSplit (m ∷ x ∷ l ∷ r ∷ reg ∷ c ∷ led ∷ []) a b = DoesFinishSplit h m x l r reg c led a b
Does h kind.FinishMove (m ∷ x ∷ g ∷ reg ∷ c ∷ led ∷ []) a b = DoesFinishMove h (m ∷ []) x g reg c led a b
Does h kind.FinishMove (m ∷ n ∷ x ∷ g ∷ reg ∷ c ∷ led ∷ []) a b = DoesFinishMove h (m ∷ n ∷ []) x g reg c led a b
Does h kind.Postpone (c ∷ led ∷ []) a b = DoesPostpone c led a b
Does h kind.Reuse (g ∷ y ∷ c ∷ []) a b = ReusesBlock g y c a b
Does h kind.Reuse (g ∷ c ∷ []) a b = ReusesGate g c a b
Does h _ _ a b = ⊥
