-- Where a split or a move is finished the shards that stand keep their rows.
use Rattle.std.proofs.{Common.{◌≡◌, ◌∙◌, inl, inr, ℕ, true, false, List, [], ◌∷◌, ◌++◌, sym, ap, subst}, lemmas.Bool.{false≢true}}
use Rattle.query_router.specs.Desk.{DeskValue}
use Rattle.row_ledger.specs.Past.{Ack}
use Rattle.std.specs.Prelude.{Contains, Option}
use Rattle.list_words.proofs.Truth.{on_bool}
use Rattle.core_tree.specs.volap_cell.proofs.{Cells.Spares.{move-blank, split-blank}, Histories.Standings.{standing, in-none, in-one}, Views.Admin.{view-finish_move, view-finish_split}}
use Rattle.core_tree.specs.volap_cell.specs.{AdminKinds.{DoesFinishMove, DoesFinishSplit}, Errands.RowWay, Ghost.Ghost, Invariant.InvWith, Kinds.Does, Setting.{Setting, ledger_cell}, Steps.{Inv, Step}, Values.ActorValue, View.{View, row_or, view}, World.{Agrees, Change, World, after}, declared.kind.Kind.Kind}
use Rattle.core_tree.specs.volap_cell.specs.declared.kind.Kind.TheVariants as kind
use Rattle.core_laws.proofs.{PassedGates.{HasPassed, has-passed, is-seen}, QuietLedger.{IsQuiet, move-cells, quiet-at, split-cells}}
use Rattle.core_laws.specs.Finishing.{FinishLaw, HaveSameRows, IsFinish}

-- Desks and errands are as they were, no insert has begun, and no row was acknowledged.
pub record IsQuietStep (s : Setting) (w now : World) : Type 0 where
  pub quiet : IsQuiet (view s w).history (view s now).history
  pub desks : (view s now).desks ≡ (view s w).desks
  pub ways : (view s now).ways ≡ (view s w).ways

-- Then what has passed a gate has passed one now, and the other way around.

passed-now : (s : Setting) (w now : World) (r : ℕ) → IsQuietStep s w now → HasPassed s w r → HasPassed s now r
passed-now s w now r q (inl k) = inl (k.0, subst (λ (acks : List Ack). Contains acks k.0) (sym q.quiet.acked_same) k.1, k.2)
passed-now s w now r q (inr (inl there)) = inr (inl (record {
  insert = there.insert;
  begun = q.quiet.inserts r ∙ there.begun;
  server = there.server;
  within = there.within;
  op = ap (λ (f : ℕ → DeskValue). (f there.server).op) q.desks ∙ there.op;
  part = there.part;
  alone = ap (λ (f : ℕ → DeskValue). (f there.server).parts) q.desks ∙ there.alone;
  path = there.path;
  state_is = there.state_is;
}))
passed-now s w now r q (inr (inr past)) = inr (inr (record {
  actor = past.actor;
  way = past.way;
  has = ap (λ (f : ℕ → Option RowWay). f past.actor) q.ways ∙ past.has;
  row_is = past.row_is;
  passed = past.passed;
}))

turned-round : (s : Setting) (w now : World) → IsQuietStep s w now → IsQuietStep s now w
turned-round s w now q = record { quiet = record { acked_same = sym q.quiet.acked_same; inserts = λ r. sym (q.quiet.inserts r) }; desks = sym q.desks; ways = sym q.ways }

-- So the shards that stand have the same rows, each once.
pub quiet-rows : (s : Setting) (w now : World) → Inv s w → Inv s now → IsQuietStep s w now → HaveSameRows s (view s w) (view s now)
quiet-rows s w now inv inv_now q = record {
  standing = standing s v g i;
  standing_now = standing s u k j;
  stays = λ r. on_bool (g.placed r)
      (λ placed. inl ((g.home r, in-one s v g i r placed), (k.home r, in-one s u k j r (goes-on r placed))))
      (λ out. inr (in-none s v g i r out, in-none s u k j r (stays-out r out)));
  row = λ r. ap row_or (q.quiet.inserts r);
}
  where
    v : View
    v = view s w

    u : View
    u = view s now

    g : Ghost
    g = inv.ghost_of

    k : Ghost
    k = inv_now.ghost_of

    i : InvWith s (view s w) g
    i = inv.holds

    j : InvWith s (view s now) k
    j = inv_now.holds

    goes-on : (r : ℕ) → g.placed r ≡ true → k.placed r ≡ true
    goes-on r placed = has-passed s now k j r (passed-now s w now r q (is-seen s w g i r placed))

    stays-out : (r : ℕ) → g.placed r ≡ false → k.placed r ≡ false
    stays-out r out = on_bool (k.placed r)
        (λ placed. let was : g.placed r ≡ true = has-passed s w g i r (passed-now s now w r (turned-round s w now q) (is-seen s now k j r placed)) in absurd (false≢true (sym out ∙ was)))
        (λ none. none)

-- The two kinds.

split-quiet : (s : Setting) (w : World) (n : ℕ) (g : Ghost) → InvWith s (view s w) g → (m x l r reg c led : Change) (b : ActorValue) → Agrees w (m ∷ x ∷ l ∷ r ∷ reg ∷ c ∷ led ∷ []) n (w.actors n)
    → DoesFinishSplit s.hierarchy m x l r reg c led (w.actors n) b → IsQuietStep s w (after w (m ∷ x ∷ l ∷ r ∷ reg ∷ c ∷ led ∷ []) n b)
split-quiet s w n g i m x l r reg c led b agrees d =
    let blank = split-blank s w g i n s.hierarchy m x l r reg c led (w.actors n) b agrees d in
    let same = view-finish_split s w n s.hierarchy m x l r reg c led (w.actors n) b agrees d blank.0.tag blank.1.tag in
    record {
      quiet = quiet-at (m ∷ x ∷ l ∷ r ∷ reg ∷ c ∷ led ∷ []) w.cells agrees.cells (split-cells s.hierarchy m x l r reg c led (w.actors n) b d blank.0.tag blank.1.tag) ledger_cell;
      desks = ap (λ (z : View). z.desks) same;
      ways = ap (λ (z : View). z.ways) same;
    }

move-quiet : (s : Setting) (w : World) (n : ℕ) (g : Ghost) → InvWith s (view s w) g → (maps : List Change) (x gc reg c led : Change) (b : ActorValue) → Agrees w (maps ++ x ∷ gc ∷ reg ∷ c ∷ led ∷ []) n (w.actors n)
    → DoesFinishMove s.hierarchy maps x gc reg c led (w.actors n) b → IsQuietStep s w (after w (maps ++ x ∷ gc ∷ reg ∷ c ∷ led ∷ []) n b)
move-quiet s w n g i maps x gc reg c led b agrees d =
    let blank = move-blank s w g i n s.hierarchy maps x gc reg c led (w.actors n) b agrees d in
    let same = view-finish_move s w n s.hierarchy maps x gc reg c led (w.actors n) b agrees d blank.tag in
    record {
      quiet = quiet-at (maps ++ x ∷ gc ∷ reg ∷ c ∷ led ∷ []) w.cells agrees.cells (move-cells s.hierarchy maps x gc reg c led (w.actors n) b d blank.tag) ledger_cell;
      desks = ap (λ (z : View). z.desks) same;
      ways = ap (λ (z : View). z.ways) same;
    }

by-split : (s : Setting) (w : World) (n : ℕ) (g : Ghost) → InvWith s (view s w) g → (cs : List Change) (b : ActorValue) → Agrees w cs n (w.actors n) → Does s.hierarchy kind.FinishSplit cs (w.actors n) b → IsQuietStep s w (after w cs n b)
by-split s w n g i [] b agrees d = absurd d
by-split s w n g i (c0 ∷ []) b agrees d = absurd d
by-split s w n g i (c0 ∷ c1 ∷ []) b agrees d = absurd d
by-split s w n g i (c0 ∷ c1 ∷ c2 ∷ []) b agrees d = absurd d
by-split s w n g i (c0 ∷ c1 ∷ c2 ∷ c3 ∷ []) b agrees d = absurd d
by-split s w n g i (c0 ∷ c1 ∷ c2 ∷ c3 ∷ c4 ∷ []) b agrees d = absurd d
by-split s w n g i (c0 ∷ c1 ∷ c2 ∷ c3 ∷ c4 ∷ c5 ∷ []) b agrees d = absurd d
by-split s w n g i (m ∷ x ∷ l ∷ r ∷ reg ∷ c ∷ led ∷ []) b agrees d = split-quiet s w n g i m x l r reg c led b agrees d
by-split s w n g i (c0 ∷ c1 ∷ c2 ∷ c3 ∷ c4 ∷ c5 ∷ c6 ∷ c7 ∷ more) b agrees d = absurd d

by-move : (s : Setting) (w : World) (n : ℕ) (g : Ghost) → InvWith s (view s w) g → (cs : List Change) (b : ActorValue) → Agrees w cs n (w.actors n) → Does s.hierarchy kind.FinishMove cs (w.actors n) b → IsQuietStep s w (after w cs n b)
by-move s w n g i [] b agrees d = absurd d
by-move s w n g i (c0 ∷ []) b agrees d = absurd d
by-move s w n g i (c0 ∷ c1 ∷ []) b agrees d = absurd d
by-move s w n g i (c0 ∷ c1 ∷ c2 ∷ []) b agrees d = absurd d
by-move s w n g i (c0 ∷ c1 ∷ c2 ∷ c3 ∷ []) b agrees d = absurd d
by-move s w n g i (c0 ∷ c1 ∷ c2 ∷ c3 ∷ c4 ∷ []) b agrees d = absurd d
by-move s w n g i (m ∷ x ∷ gc ∷ reg ∷ c ∷ led ∷ []) b agrees d = move-quiet s w n g i (m ∷ []) x gc reg c led b agrees d
by-move s w n g i (m ∷ z ∷ x ∷ gc ∷ reg ∷ c ∷ led ∷ []) b agrees d = move-quiet s w n g i (m ∷ z ∷ []) x gc reg c led b agrees d
by-move s w n g i (c0 ∷ c1 ∷ c2 ∷ c3 ∷ c4 ∷ c5 ∷ c6 ∷ c7 ∷ more) b agrees d = absurd d

quiet-step : (s : Setting) (k : Kind) (n : ℕ) (w now : World) (g : Ghost) → InvWith s (view s w) g → IsFinish k → Step s k n w now → IsQuietStep s w now
quiet-step s k n w now g i (inl split) step =
    subst (IsQuietStep s w) (sym step.now_is)
    (by-split s w n g i step.changes step.actor step.agrees (subst (λ (x : Kind). Does s.hierarchy x step.changes (w.actors n) step.actor) split step.does))
quiet-step s k n w now g i (inr move) step =
    subst (IsQuietStep s w) (sym step.now_is)
    (by-move s w n g i step.changes step.actor step.agrees (subst (λ (x : Kind). Does s.hierarchy x step.changes (w.actors n) step.actor) move step.does))

pub finish-law : FinishLaw
finish-law s k n w now is inv inv_now step = quiet-rows s w now inv inv_now (quiet-step s k n w now inv.ghost_of inv.holds is step)
