-- The end of a split or a move begins no insert and acknowledges none, and leaves desks and errands alone.
use Rattle.std.proofs.{Common.{◌≡◌, ◌∙◌, ℕ, ◌+◌, Bool, true, false, cond, eqb, List, [], ◌∷◌, ◌++◌, None, refl, sym, ap, subst}, lemmas.Bool.eqb-true}
use Rattle.dim_hierarchy.specs.Dimension.{Dimension}
use Rattle.row_ledger.specs.{LedgerValue.LedgerValue, Past.{acked, insert_at, insert_in}, declared.event.Event.Event}
use Rattle.row_ledger.specs.declared.event.Event.TheVariants as event
use Rattle.row_ledger.specs.declared.settings.How.TheVariants as how
use Rattle.core_tree.specs.shard_store.specs.declared.gate.Gate.{Gate}
use Rattle.list_words.proofs.Each.{each-append}
use Rattle.list_words.specs.Counts.{Each}
use Rattle.core_tree.specs.volap_cell.proofs.{OneEvent.Older.insert-same, Views.Frames.AreAt}
use Rattle.core_tree.specs.volap_cell.specs.{AdminKinds.{DoesFinishMove, DoesFinishSplit, Finishes, MovesIn, PushesBoth}, Cells.{CellValue, FreeCell, LedgerCell, StockCell, RegistryCell, ImageCell, DeskCell, MapCell, GateCell, BlockCell, OfStock, ledger_in, tag_of}, ImageKinds.Pushes, Values.{ActorValue, JobValue}, World.{Change, put}, declared.command.Work.Work}
use Rattle.core_tree.specs.volap_cell.specs.declared.command.Work.TheVariants as work_is

-- no insert has begun, and no row was acknowledged
pub record IsQuiet (before now : List Event) : Type 0 where
  pub acked_same : acked now ≡ acked before
  pub inserts : (r : ℕ) → insert_at now r ≡ insert_at before r

quiet-none : (h : List Event) → IsQuiet h h
quiet-none h = record { acked_same = refl; inserts = λ r. refl }

-- an event that begins no insert and acknowledges none
pub record IsBeside (e : Event) : Type 0 where
  pub none : insert_in e ≡ None
  pub no_ack : (h : List Event) → acked (e ∷ h) ≡ acked h

split-beside : (of shard left right : ℕ) → IsBeside (event.Split of shard left right)
split-beside of shard left right = record { none = refl; no_ack = λ h. refl }

move-beside : (of shard worker : ℕ) → IsBeside (event.Moved of shard worker)
move-beside of shard worker = record { none = refl; no_ack = λ h. refl }

quiet-one : (e : Event) (h : List Event) → IsBeside e → IsQuiet h (e ∷ h)
quiet-one e h beside = record { acked_same = beside.no_ack h; inserts = λ r. insert-same e h beside.none r }

-- and then it may be that the command ends
quiet-both : (e : Event) (of : ℕ) (h : List Event) → IsBeside e → IsQuiet h (event.Ended of how.Fine ∷ e ∷ h)
quiet-both e of h beside = record {
  acked_same = beside.no_ack h;
  inserts = λ r. insert-same (event.Ended of how.Fine) (e ∷ h) refl r ∙ insert-same e h beside.none r;
}

-- Cells.

-- the history of a cell is as quiet
abbrev pub IsQuietCell : Change → Type 0
IsQuietCell c = IsQuiet (ledger_in c.before).history (ledger_in c.now).history

same-cell : (c : Change) → ledger_in c.now ≡ ledger_in c.before → IsQuietCell c
same-cell c same = subst (λ (l : LedgerValue). IsQuiet (ledger_in c.before).history l.history) (sym same) (quiet-none (ledger_in c.before).history)

-- a cell of the stock has no history
of-stock : (c : CellValue) → tag_of c ≡ OfStock → ledger_in c ≡ ledger_in FreeCell
of-stock FreeCell tag = refl
of-stock (BlockCell b) tag = refl
of-stock (GateCell x) tag = refl
of-stock (LedgerCell l) tag = cc
of-stock (StockCell s) tag = cc
of-stock (RegistryCell r) tag = cc
of-stock (ImageCell s i) tag = cc
of-stock (DeskCell s d) tag = cc
of-stock (MapCell w m) tag = cc

turns-cell : (c : Change) (old new : CellValue) → c.before ≡ old → c.now ≡ new → ledger_in new ≡ ledger_in old → IsQuietCell c
turns-cell c old new was is same = same-cell c (ap ledger_in is ∙ same ∙ sym (ap ledger_in was))

gate-cell : (c : Change) (gate : Gate) → tag_of c.before ≡ OfStock → c.now ≡ GateCell gate → IsQuietCell c
gate-cell c gate tag is = same-cell c (ap ledger_in is ∙ sym (of-stock c.before tag))

pushes-cell : (e : Event) (c : Change) (more used seen : ℕ) → IsBeside e → Pushes e more used c seen → IsQuietCell c
pushes-cell e c more used seen beside p =
    subst (λ (l : LedgerValue). IsQuiet (ledger_in c.before).history l.history) (sym (ap ledger_in p.is))
    (subst (λ (l : LedgerValue). IsQuiet l.history p.ledger_now.history) (sym (ap ledger_in p.was))
    (subst (IsQuiet p.ledger.history) (sym p.history) (quiet-one e p.ledger.history beside)))

both-cell : (e : Event) (of : ℕ) (c : Change) (seen : ℕ) → IsBeside e → PushesBoth e (event.Ended of how.Fine) c seen → IsQuietCell c
both-cell e of c seen beside p =
    subst (λ (l : LedgerValue). IsQuiet (ledger_in c.before).history l.history) (sym (ap ledger_in p.is))
    (subst (λ (l : LedgerValue). IsQuiet l.history p.ledger_now.history) (sym (ap ledger_in p.was))
    (subst (IsQuiet p.ledger.history) (sym p.history) (quiet-both e of p.ledger.history beside)))

ends-cell : (gate of : ℕ) (work : Work) (job : JobValue) (e : Event) (l : Change) (a b : ActorValue) → IsBeside e → Finishes gate of work job e l a b → IsQuietCell l
ends-cell gate of (work_is.Balance balance) job e l a b beside f = pushes-cell e l 0 1 b.seen beside f.0
ends-cell gate of (work_is.Insert row routed) job e l a b beside f = both-cell e of l b.seen beside f.0
ends-cell gate of work_is.Query job e l a b beside f = both-cell e of l b.seen beside f.0
ends-cell gate of (work_is.Sync server pulled) job e l a b beside f = both-cell e of l b.seen beside f.0
ends-cell gate of work_is.Bare job e l a b beside f = both-cell e of l b.seen beside f.0
ends-cell gate of (work_is.Settle pulls) job e l a b beside f = both-cell e of l b.seen beside f.0
ends-cell gate of (work_is.Action act) job e l a b beside f = both-cell e of l b.seen beside f.0
ends-cell gate of (work_is.Page subject there shown) job e l a b beside f = both-cell e of l b.seen beside f.0

-- so is that of each cell of the state
pub quiet-at : (cs : List Change) (cells : ℕ → CellValue) → AreAt cells cs → Each IsQuietCell cs → (y : ℕ) → IsQuiet (ledger_in (cells y)).history (ledger_in (put cs cells y)).history
quiet-at [] cells at each y = quiet-none (ledger_in (cells y)).history
quiet-at (c ∷ cs) cells at each y = go (quiet-at cs cells at.1 each.1 y) (eqb y c.number) refl
  where
    go : IsQuiet (ledger_in (cells y)).history (ledger_in (put cs cells y)).history → (b : Bool) → eqb y c.number ≡ b → IsQuiet (ledger_in (cells y)).history (ledger_in (cond b c.now (put cs cells y))).history
    go rest true here = subst (λ (x : CellValue). IsQuiet (ledger_in x).history (ledger_in c.now).history) (sym (ap cells (eqb-true y c.number here) ∙ at.0)) each.0
    go rest false off = rest

-- the cells of a split that is finished
pub split-cells : (h : List Dimension) (m x l r reg c led : Change) (a b : ActorValue) → DoesFinishSplit h m x l r reg c led a b → tag_of l.before ≡ OfStock → tag_of r.before ≡ OfStock
    → Each IsQuietCell (m ∷ x ∷ l ∷ r ∷ reg ∷ c ∷ led ∷ [])
split-cells h m x l r reg c led a b d left right = (
  turns-cell m _ _ d.map_was d.map_is refl,
  (
    turns-cell x _ _ d.turns.was d.turns.is refl,
    (
      gate-cell l d.left_gate left d.left_now,
      (
        gate-cell r d.right_gate right d.right_now,
        (
          turns-cell reg _ _ d.registry_was d.registry_is refl,
          (
            turns-cell c _ _ d.turns_stock.was d.turns_stock.is refl,
            (ends-cell x.number d.of d.work d.job _ led a b (split-beside d.of d.job.shard d.stock.ids (d.stock.ids + 1)) d.finishes, tt),
          ),
        ),
      ),
    ),
  ),
)

-- and of a move
pub move-cells : (h : List Dimension) (maps : List Change) (x g reg c led : Change) (a b : ActorValue) → DoesFinishMove h maps x g reg c led a b → tag_of g.before ≡ OfStock → Each IsQuietCell (maps ++ x ∷ g ∷ reg ∷ c ∷ led ∷ [])
move-cells h maps x g reg c led a b d new =
    each-append IsQuietCell maps (x ∷ g ∷ reg ∷ c ∷ led ∷ []) (tables maps d.moves) (
      turns-cell x _ _ d.turns.was d.turns.is refl,
      (
        gate-cell g d.new_gate new d.new_now,
        (
          turns-cell reg _ _ d.registry_was d.registry_is refl,
          (
            turns-cell c _ _ d.turns_stock.was d.turns_stock.is refl,
            (ends-cell x.number d.of d.work d.job _ led a b (move-beside d.of d.job.shard d.to) d.finishes, tt),
          ),
        ),
      ),
    )
  where
    tables : (ms : List Change) → MovesIn ms d.job d.to g.number → Each IsQuietCell ms
    tables [] moves = absurd moves
    tables (y ∷ []) moves = (turns-cell y _ _ moves.1.1 moves.1.2 refl, tt)
    tables (y ∷ z ∷ []) moves = (turns-cell y _ _ moves.1.1 moves.1.2 refl, (turns-cell z _ _ moves.2.1 moves.2.2 refl, tt))
    tables (y ∷ z ∷ u ∷ more) moves = absurd moves
