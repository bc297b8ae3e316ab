-- What each kind of step tells the history.
use Rattle.std.proofs.{Common.{◌≡◌, ◌≢◌, ◌∙◌, ℕ, ◌⊎◌, inl, inr, Bool, true, false, cond, eqb, List, [], ◌∷◌, ◌++◌, Option, Some, None, length, refl, sym, ap, subst, arith, ◌<◌}, lemmas.Bool.{eq-eqb, eqb-true}, lemmas.Option.slice_get_within}
use Rattle.std.specs.Prelude.{slice_get, option_map, option_and_then}
use Rattle.dim_hierarchy.specs.Dimension.{Dimension}
use Rattle.dc_node.specs.declared.block.Block.{Block}
use Rattle.volap_cell.specs.link_descent.specs.declared.entered.Fresh.{Fresh}
use Rattle.cell_stock.specs.declared.purse.Spare.{Spare}
use Rattle.describing_set.specs.declared.plane.Plane.{Plane}
use Rattle.row_ledger.specs.{Classes.class_of, LedgerValue.LedgerValue, Past.{end_in, ends_itself, session_in}, declared.class.Class.Class, declared.event.Event.Event, declared.settings.How.How}
use Rattle.row_ledger.specs.declared.event.Event.TheVariants as event
use Rattle.row_ledger.specs.declared.class.Class.TheVariants as class_is
use Rattle.row_ledger.specs.declared.settings.How.TheVariants as how
use Rattle.script_run.specs.Phases.{is_closing}
use Rattle.server_image.specs.Registry.{RegistryValue}
use Rattle.shard_plan.specs.declared.action.Action.{Action}
use Rattle.list_words.specs.Counts.{Each}
use Rattle.list_words.proofs.Truth.{on_bool}
use Rattle.volap_cell.proofs.{Cells.Numbers.at-ledger, Views.Frames.{AreAt, actor-at, actor-off}}
use Rattle.volap_cell.specs.{AdminKinds.{DoesFreeze, Finishes, GivesUp, MovesIn, PushesBoth}, Cells.{CellValue, Tag, TheLedger, FreeCell, LedgerCell, StockCell, RegistryCell, ImageCell, DeskCell, MapCell, GateCell, BlockCell, tag_of, ledger_in}, Commands.{EndsBalance, EndsStage, MayNoteEnd, due_pull, server_of}, Ghost.Ghost, ImageKinds.{DoesNote, DoesNoteWith, IsBegun, IsFree, NotesCalled, NotesEnded, OfCalled, OfCalledAsking, OfCount, OfEnded, OfLeft, OfQuery, OfRefused, OfShown, OfUnknown, OfUnrouted, Pushes, doing}, Invariant.InvWith, Kinds.Does, Planning.{job_for, next_job}, Setting.{Setting, ledger_cell}, ShardKinds.{PutsChildren, Unpins}, Steps.{Step, history_in}, TreeKinds.{AreBehind, AreFilled, IsTailIf, most_behind}, Values.{ActorValue, ErrandValue, TaskValue, OfRow, Unread, Read, JobValue, StageValue, IsCalled, IsDeclined, IsFrozen, Collects, Builds}, View.view, Working.{IsJobOf, begun_job, frozen_in}, World.{World, Change, Agrees, after, put}, declared.command.Balance.Balance, declared.command.Command.Command as OpenCommand, declared.command.Work.Work, declared.kind.Kind.Kind, declared.role.Role.Role, declared.role.Role.TheVariants.{Admin, Session}}
use Rattle.volap_cell.specs.declared.command.Work.TheVariants as work_is
use Rattle.volap_cell.specs.declared.kind.Kind.TheVariants as kind
use Rattle.core_told.specs.Told.{GoesFurther, HasPulled, IsEnd, OfBeginning, OfDeed, OfEnd, OfNothing, OfPage, OfPull, OpensCommand, OpensNone, OpensOne, OthersLaw, TellsNothing, Told, ToldLaw, is_closing_work, is_deed, is_of_part, is_plain}

-- The ledger's cell.

-- a changed cell isn't the ledger afterwards, or it is as before
abbrev pub IsOff : Change → Type 0
IsOff c = (tag_of c.now ≢ TheLedger) ⊎ (c.now ≡ c.before)

-- what a cell is tells that it isn't the ledger

not-ledger : (t : Tag) (c x : CellValue) → tag_of x ≡ t → t ≢ TheLedger → c ≡ x → tag_of c ≢ TheLedger
not-ledger t c x tag apart is here = apart (sym tag ∙ ap tag_of (sym is) ∙ here)

pub of-gate : (c : CellValue) (x : _) → c ≡ GateCell x → tag_of c ≢ TheLedger
of-gate c x is = not-ledger (tag_of (GateCell x)) c (GateCell x) refl (λ e. cc) is

pub of-block : (c : CellValue) (x : _) → c ≡ BlockCell x → tag_of c ≢ TheLedger
of-block c x is = not-ledger (tag_of (BlockCell x)) c (BlockCell x) refl (λ e. cc) is

pub of-stock : (c : CellValue) (x : _) → c ≡ StockCell x → tag_of c ≢ TheLedger
of-stock c x is = not-ledger (tag_of (StockCell x)) c (StockCell x) refl (λ e. cc) is

pub of-registry : (c : CellValue) (x : _) → c ≡ RegistryCell x → tag_of c ≢ TheLedger
of-registry c x is = not-ledger (tag_of (RegistryCell x)) c (RegistryCell x) refl (λ e. cc) is

pub of-image : (c : CellValue) (server : ℕ) (x : _) → c ≡ ImageCell server x → tag_of c ≢ TheLedger
of-image c server x is = not-ledger (tag_of (ImageCell server x)) c (ImageCell server x) refl (λ e. cc) is

pub of-desk : (c : CellValue) (server : ℕ) (x : _) → c ≡ DeskCell server x → tag_of c ≢ TheLedger
of-desk c server x is = not-ledger (tag_of (DeskCell server x)) c (DeskCell server x) refl (λ e. cc) is

pub of-map : (c : CellValue) (worker : ℕ) (x : _) → c ≡ MapCell worker x → tag_of c ≢ TheLedger
of-map c worker x is = not-ledger (tag_of (MapCell worker x)) c (MapCell worker x) refl (λ e. cc) is

pub of-free : (c : CellValue) → c ≡ FreeCell → tag_of c ≢ TheLedger
of-free c is = not-ledger (tag_of FreeCell) c FreeCell refl (λ e. cc) is

-- a cell that is the ledger afterwards, while no change made it so, is as before
pub quiet : (cs : List Change) (cells : ℕ → CellValue) (y : ℕ) → AreAt cells cs → Each IsOff cs → tag_of (put cs cells y) ≡ TheLedger → put cs cells y ≡ cells y
quiet [] cells y at off tag = refl
quiet (c ∷ cs) cells y at off tag = on_bool (eqb y c.number)
    (λ q.
    let here = ap (λ (b : Bool). cond b c.now (put cs cells y)) q in
    elim off.0 [
      | inl apart ↦ absurd (apart (ap tag_of (sym here) ∙ tag))
      | inr same ↦ here ∙ same ∙ sym at.0 ∙ ap cells (sym (eqb-true _ _ q))
    ])
    (λ q.
    let there = ap (λ (b : Bool). cond b c.now (put cs cells y)) q in
    there ∙ quiet cs cells y at.1 off.1 (ap tag_of (sym there) ∙ tag))

-- the one change that is the ledger's, behind others that aren't
pub ledger-now : (front : List Change) (l : Change) (cells : ℕ → CellValue) (y : ℕ) → Each (λ c. tag_of c.now ≢ TheLedger) front → l.number ≡ y
    → tag_of (put (front ++ l ∷ []) cells y) ≡ TheLedger → put (front ++ l ∷ []) cells y ≡ l.now
ledger-now [] l cells y off is tag = on_bool (eqb y l.number)
    (λ q. ap (λ (b : Bool). cond b l.now (cells y)) q)
    (λ q. absurd (other (eqb y l.number) (eq-eqb y l.number (sym is)) q))
  where
    other : (b : Bool) → b ≡ true → b ≡ false → ⊥
    other b x z = cc
ledger-now (c ∷ front) l cells y off is tag = on_bool (eqb y c.number)
    (λ q. absurd (off.0 (ap tag_of (sym (ap (λ (b : Bool). cond b c.now (put (front ++ l ∷ []) cells y)) q)) ∙ tag)))
    (λ q.
    let there = ap (λ (b : Bool). cond b c.now (put (front ++ l ∷ []) cells y)) q in
    there ∙ ledger-now front l cells y off.1 is (ap tag_of (sym there) ∙ tag))

each-append : (P : Change → Type 0) (xs ys : List Change) → Each P xs → Each P ys → Each P (xs ++ ys)
each-append P [] ys a b = b
each-append P (x ∷ xs) ys a b = (a.0, each-append P xs ys a.1 b)

each-last : (P : Change → Type 0) (xs : List Change) (y : Change) → Each P (xs ++ y ∷ []) → P y
each-last P [] y e = e.0
each-last P (x ∷ xs) y e = each-last P xs y e.1

-- blocks behind a head, and new ones

behind-off : (expected most : ℕ) (block : Block) (tail : List Change) → AreBehind expected most block tail → Each IsOff tail
behind-off expected most block [] b = tt
behind-off expected most block (c ∷ tail) b = (inr b.4.same, behind-off expected b.0 _ tail b.5)

tail-off : (full : Bool) (expected : ℕ) (head : Block) (tail : List Change) → IsTailIf full expected head tail → Each IsOff tail
tail-off true expected head tail b = behind-off expected most_behind head tail b
tail-off false expected head tail b = subst (Each IsOff) (sym b) tt

filled-off : (fresh : List Fresh) (cs : List Change) → AreFilled fresh cs → Each IsOff cs
filled-off [] [] f = tt
filled-off [] (c ∷ cs) f = absurd f
filled-off (x ∷ fresh) [] f = absurd f
filled-off (x ∷ fresh) (c ∷ cs) f = (inl (of-block c.now x.block f.1), filled-off fresh cs f.2)

same-off : (cs : List Change) → Each (λ c. c.now ≡ c.before) cs → Each IsOff cs
same-off [] e = tt
same-off (c ∷ cs) e = (inr e.0, same-off cs e.1)

unpins-off : (o : Option ℕ) (g : Change) → Unpins o (g ∷ []) → IsOff g
unpins-off None g u = absurd u
unpins-off (Some pinned) g u = inl (of-gate g.now u.1.1 u.1.2.is)

children-off : (h : List Dimension) (e : ErrandValue) (t : TaskValue) (plane : Plane) (left right : ℕ) (d : Change) → PutsChildren h e t plane left right d → IsOff d
children-off h e (OfRow r) plane left right d puts = inl (of-desk d.now e.server _ puts.1.turns.is)
children-off h e (Unread f) plane left right d puts = inl (of-desk d.now e.server _ puts.1.turns.is)
children-off h e (Read r) plane left right d puts = absurd puts

-- the tables that a move changes
moves-off : (maps : List Change) (job : JobValue) (to gate : ℕ) → MovesIn maps job to gate → Each (λ c. tag_of c.now ≢ TheLedger) maps
moves-off [] job to gate m = absurd m
moves-off (m ∷ []) job to gate d = (of-map m.now to _ d.1.2, tt)
moves-off (m ∷ n ∷ []) job to gate d = (of-map m.now job.worker _ d.1.2, (of-map n.now to _ d.2.2, tt))
moves-off (m ∷ n ∷ x ∷ more) job to gate d = absurd d

-- a call's work as it begins
begun-new : (servers workers : ℕ) (r : RegistryValue) (class : Class) (work : Work) (job : Option JobValue) → IsBegun workers r class work job
    → HasPulled servers work [] × (is_closing_work work ≡ is_closing class)
begun-new servers workers r (class_is.Sync server) work job b = subst (λ x. HasPulled servers x [] × (is_closing_work x ≡ false)) (sym b.0) (refl, refl)
begun-new servers workers r class_is.Settle work job b = subst (λ x. HasPulled servers x [] × (is_closing_work x ≡ true)) (sym b.0) (refl, refl)
begun-new servers workers r class_is.Bare work job b = subst (λ x. HasPulled servers x [] × (is_closing_work x ≡ true)) (sym b.0) (tt, refl)
begun-new servers workers r (class_is.Page subject) work job b = subst (λ x. HasPulled servers x [] × (is_closing_work x ≡ true)) (sym b.0) (tt, refl)
begun-new servers workers r (class_is.Action act) work job b = subst (λ x. HasPulled servers x [] × (is_closing_work x ≡ false)) (sym b.0) (tt, refl)
begun-new servers workers r (class_is.Balance most) work job b = subst (λ x. HasPulled servers x [] × (is_closing_work x ≡ false)) (sym b.1.1) (tt, refl)

-- a command with a job is a split, a move or a balance
plain-job : (work : Work) (job : JobValue) → IsJobOf work job → is_plain work ≡ true
plain-job (work_is.Insert row routed) job j = refl
plain-job work_is.Query job j = refl
plain-job (work_is.Sync server pulled) job j = absurd j
plain-job work_is.Bare job j = absurd j
plain-job (work_is.Settle pulls) job j = absurd j
plain-job (work_is.Action act) job j = refl
plain-job (work_is.Balance b) job j = refl
plain-job (work_is.Page subject there shown) job j = absurd j

-- where a command ends by its own note with a job, nothing was frozen for that

ends-stage : (stage : StageValue) (h : How) → EndsStage stage h → frozen_in stage ≡ None
ends-stage IsCalled h e = refl
ends-stage (IsDeclined why) h e = refl
ends-stage (IsFrozen f) h e = absurd e
ends-stage (Collects c) h e = absurd e
ends-stage (Builds b) h e = absurd e

next-some : (b : Balance) (job : JobValue) → next_job b ≡ Some (begun_job job) → (actions : List Action) × (b.plan ≡ Some actions) × (b.over < length actions)
next-some b job is = by b.plan refl is
  where
    found : (actions : List Action) → (o : Option Action) → slice_get actions b.over ≡ o → option_map (job_for b.standing) o ≡ Some (begun_job job) → b.over < length actions
    found actions None at e = cc
    found actions (Some a) at e = slice_get_within actions b.over a at

    by : (o : Option (List Action)) → b.plan ≡ o → option_map (job_for b.standing) (option_and_then (λ (actions : List Action). slice_get actions b.over) o) ≡ Some (begun_job job)
        → (actions : List Action) × (b.plan ≡ Some actions) × (b.over < length actions)
    by None at e = cc
    by (Some actions) at e = (actions, at, found actions (slice_get actions b.over) refl e)

balance-done : (b : Balance) (job : JobValue) (h : How) → next_job b ≡ Some (begun_job job) → EndsBalance b h → ⊥
balance-done b job (how.Balanced done planned) is e =
    let found = next-some b job is in
    let same : found.0 ≡ e.2.0 = some-same b.plan found.0 e.2.0 found.1 e.2.1 in
    omega (arith, found.2, e.1, e.2.2, ap length same)
  where
    some-same : (o : Option (List Action)) (x y : List Action) → o ≡ Some x → o ≡ Some y → x ≡ y
    some-same o x y p q = cc
balance-done b job how.NoMemory is e = let found = next-some b job is in none-some b.plan found.0 e found.1
  where
    none-some : (o : Option (List Action)) (x : List Action) → o ≡ None → o ≡ Some x → ⊥
    none-some o x p q = cc
balance-done b job how.Fine is e = absurd e
balance-done b job (how.Declined why) is e = absurd e
balance-done b job how.Postponed is e = absurd e

note-unfrozen : (servers : ℕ) (work : Work) (job : JobValue) (h : How) → IsJobOf work job → MayNoteEnd servers work (Some job) h → frozen_in job.stage ≡ None
note-unfrozen servers (work_is.Insert row routed) job h j e = absurd j
note-unfrozen servers work_is.Query job h j e = absurd j
note-unfrozen servers (work_is.Sync server pulled) job h j e = absurd j
note-unfrozen servers work_is.Bare job h j e = absurd j
note-unfrozen servers (work_is.Settle pulls) job h j e = absurd j
note-unfrozen servers (work_is.Action act) job h j e = ends-stage job.stage h e
note-unfrozen servers (work_is.Balance b) job h j e = absurd (balance-done b job h j e)
note-unfrozen servers (work_is.Page subject there shown) job h j e = absurd j

module _ (s : Setting) (n : ℕ) (w : World) (g : Ghost) (i : InvWith s (view s w) g) where
  -- a step behind which the ledger's cell is still the ledger
  record IsMade (cs : List Change) (b : ActorValue) : Type 0 where
    pub agrees : Agrees w cs n (w.actors n)
    pub tag : tag_of (put cs w.cells ledger_cell) ≡ TheLedger

  field-at : {A : Type 0} (f : ActorValue → A) (cs : List Change) (b : ActorValue) → f ((after w cs n b).actors n) ≡ f b
  field-at f cs b = ap f (actor-at w.actors n b)

  number-is : (w.actors n).number ≡ n
  number-is = i.numbering.number n

  servers-are : (w.actors n).setting.servers ≡ s.servers
  servers-are = ap (λ (x : Setting). x.servers) (i.numbering.about n)

  -- The history.

  ledger-was : (l : Change) (before : LedgerValue) → w.cells l.number ≡ l.before → l.before ≡ LedgerCell before → (l.number ≡ ledger_cell) × (history_in w ≡ before.history)
  ledger-was l before here was =
      let at = at-ledger s w.cells i.numbering.tag l.number before (here ∙ was) in
      (at, ap (λ (y : ℕ). (ledger_in (w.cells y)).history) (sym at) ∙ ap (λ c. (ledger_in c).history) (here ∙ was))

  told-more : (front : List Change) (l : Change) (b : ActorValue) (before now : LedgerValue) (newer : List Event) → IsMade (front ++ l ∷ []) b → Each (λ c. tag_of c.now ≢ TheLedger) front
      → l.before ≡ LedgerCell before → l.now ≡ LedgerCell now → now.history ≡ newer ++ before.history
      → history_in (after w (front ++ l ∷ []) n b) ≡ newer ++ history_in w
  told-more front l b before now newer made off was is history =
      let here = ledger-was l before (each-last (λ c. w.cells c.number ≡ c.before) front l made.agrees.cells) was in
      ap (λ c. (ledger_in c).history) (ledger-now front l w.cells ledger_cell off here.0 made.tag ∙ is) ∙ history ∙ ap (λ h. newer ++ h) (sym here.1)

  pushed : (front : List Change) (l : Change) (b : ActorValue) (e : Event) (more used seen : ℕ) → Pushes e more used l seen → IsMade (front ++ l ∷ []) b → Each (λ c. tag_of c.now ≢ TheLedger) front
      → history_in (after w (front ++ l ∷ []) n b) ≡ e ∷ history_in w
  pushed front l b e more used seen p made off = told-more front l b p.ledger p.ledger_now (e ∷ []) made off p.was p.is p.history

  tells-nothing : (cs : List Change) (b : ActorValue) → IsMade cs b → Each IsOff cs → (b.command ≡ (w.actors n).command) ⊎ GoesFurther (w.actors n).command b.command → TellsNothing n w (after w cs n b)
  tells-nothing cs b made off stays = record {
    history = ap (λ c. (ledger_in c).history) (quiet cs w.cells ledger_cell made.agrees.cells off made.tag);
    stays = subst (λ o. (o ≡ (w.actors n).command) ⊎ GoesFurther (w.actors n).command o) (sym (field-at (λ x. x.command) cs b)) stays;
  }

  nothing : (k : Kind) (cs : List Change) (b : ActorValue) → IsMade cs b → Each IsOff cs → (b.command ≡ (w.actors n).command) ⊎ GoesFurther (w.actors n).command b.command
      → Told s k n w (after w cs n b)
  nothing k cs b made off stays = OfNothing (tells-nothing cs b made off stays)

  quietly : (k : Kind) (cs : List Change) (b c : ActorValue) → IsMade cs b → Each IsOff cs → b ≡ c → c.command ≡ (w.actors n).command → Told s k n w (after w cs n b)
  quietly k cs b c made off is same = nothing k cs b made off (inl (ap (λ (x : ActorValue). x.command) is ∙ same))

  -- Beginnings.

  begins : (k : Kind) (front : List Change) (l : Change) (b : ActorValue) (e : Event) (more used : ℕ) → Pushes e more used l b.seen → IsMade (front ++ l ∷ []) b → Each (λ c. tag_of c.now ≢ TheLedger) front
      → is_of_part k ≡ false → session_in e ≡ Some (w.actors n).number → IsFree (w.actors n) → OpensCommand s e n w (after w (front ++ l ∷ []) n b)
      → (ends_itself e ≡ true → b.job ≡ None) → b.errand ≡ (w.actors n).errand → b.purse ≡ (w.actors n).purse → Told s k n w (after w (front ++ l ∷ []) n b)
  begins k front l b e more used p made off of_command session free opens job errand purse = OfBeginning (record {
    begins = e;
    history = pushed front l b e more used b.seen p made off;
    session = session ∙ ap Some number-is;
    free = free;
    of_command = of_command;
    opens = opens;
    job = λ ends. field-at (λ x. x.job) (front ++ l ∷ []) b ∙ job ends;
    errand = field-at (λ x. x.errand) (front ++ l ∷ []) b ∙ errand;
    purse = field-at (λ x. x.purse) (front ++ l ∷ []) b ∙ purse;
  })

  opens-at : (front : List Change) (l : Change) (b : ActorValue) (before : LedgerValue) (of : ℕ) (work : Work) → IsMade (front ++ l ∷ []) b → l.before ≡ LedgerCell before → of ≡ length before.history → b.command ≡ doing of work
      → ((after w (front ++ l ∷ []) n b).actors n).command ≡ doing (length (history_in w)) work
  opens-at front l b before of work made was at command =
      let here = ledger-was l before (each-last (λ c. w.cells c.number ≡ c.before) front l made.agrees.cells) was in
      field-at (λ x. x.command) (front ++ l ∷ []) b ∙ command ∙ ap (λ p. doing p work) (at ∙ ap length (sym here.1))

  called : (k : Kind) (front : List Change) (l : Change) (b : ActorValue) (registry : RegistryValue) (asks : Bool) → NotesCalled registry asks l (w.actors n) b → IsMade (front ++ l ∷ []) b
      → Each (λ c. tag_of c.now ≢ TheLedger) front → is_of_part k ≡ false → Told s k n w (after w (front ++ l ∷ []) n b)
  called k front l b registry asks d made off of_command =
      let new = begun-new s.servers (w.actors n).setting.workers registry (class_of d.called) d.work d.job d.begun in
      begins k front l b (event.Called (w.actors n).number d.called) _ _ d.pushed made off of_command refl d.free
      (OpensOne d.work refl (opens-at front l b d.pushed.ledger (length d.pushed.ledger.history) d.work made d.pushed.was refl (ap (λ (x : ActorValue). x.command) d.actor_is)) new.0 new.1)
      (λ e. cc) (ap (λ (x : ActorValue). x.errand) d.actor_is) (ap (λ (x : ActorValue). x.purse) d.actor_is)

  -- Ends.

  -- a session has no job
  session-job : (server : ℕ) → (w.actors n).role ≡ Session server → (w.actors n).job ≡ None
  session-job server role = by (w.actors n).job refl
    where
      by : (o : Option JobValue) → (w.actors n).job ≡ o → (w.actors n).job ≡ None
      by None is = is
      by (Some j) is = let admin = i.numbering.working n j is in apart (w.actors n).role server role admin
        where
          apart : {X : Type 0} (r : Role) (server : ℕ) → r ≡ Session server → r ≡ Admin → X
          apart r server x y = cc

  job-of : (of : ℕ) (work : Work) (job : JobValue) → (w.actors n).command ≡ doing of work → (w.actors n).job ≡ Some job → IsJobOf work job
  job-of of work job command at =
      let c = i.working.command n job at in
      let same : c.0.work ≡ work = same-work (w.actors n).command c.0 of work c.1 command in
      subst (λ x. IsJobOf x job) same c.2
    where
      same-work : (o : Option OpenCommand) (c : OpenCommand) (of : ℕ) (work : Work) → o ≡ Some c → o ≡ doing of work → c.work ≡ work
      same-work o c of work x y = cc

  ends : (k : Kind) (front : List Change) (l : Change) (b : ActorValue) (e : Event) (deeds : List Event) (of : ℕ) (work : Work) → history_in (after w (front ++ l ∷ []) n b) ≡ e ∷ deeds ++ history_in w
      → (deeds ≡ []) ⊎ ((deed : Event) × (deeds ≡ deed ∷ []) × (is_deed deed ≡ true)) → IsEnd s w n of work e → is_of_part k ≡ false → (w.actors n).command ≡ doing of work
      → b.command ≡ None → b.job ≡ None → b.errand ≡ (w.actors n).errand → (b.purse ≡ []) ⊎ ((b.purse ≡ (w.actors n).purse) × ((w.actors n).job ≡ None))
      → Told s k n w (after w (front ++ l ∷ []) n b)
  ends k front l b e deeds of work history are_deeds is_end of_command was command job errand purse = OfEnd (record {
    of = of;
    work = work;
    end_is = e;
    deeds = deeds;
    history = history;
    are_deeds = are_deeds;
    ends = is_end;
    of_command = of_command;
    was = was;
    command = field-at (λ x. x.command) (front ++ l ∷ []) b ∙ command;
    job = field-at (λ x. x.job) (front ++ l ∷ []) b ∙ job;
    errand = field-at (λ x. x.errand) (front ++ l ∷ []) b ∙ errand;
    purse = subst (λ (x : List Spare). (x ≡ []) ⊎ ((x ≡ (w.actors n).purse) × ((w.actors n).job ≡ None))) (sym (field-at (λ x. x.purse) (front ++ l ∷ []) b)) purse;
  })

  -- of a session's command, by an event of which the actor keeps all but the command
  session-ends : (k : Kind) (front : List Change) (l : Change) (b : ActorValue) (e : Event) (of : ℕ) (work : Work) (more used server : ℕ) → Pushes e more used l b.seen → IsMade (front ++ l ∷ []) b
      → Each (λ c. tag_of c.now ≢ TheLedger) front → end_in e ≡ Some of → is_plain work ≡ true → is_of_part k ≡ false → (w.actors n).command ≡ doing of work → (w.actors n).role ≡ Session server
      → b ≡ record (w.actors n) { command = None; seen = b.seen } → Told s k n w (after w (front ++ l ∷ []) n b)
  session-ends k front l b e of work more used server p made off end plain of_command was role is =
      let job = session-job server role in
      ends k front l b e [] of work (pushed front l b e more used b.seen p made off) (inl refl) (end, inl plain) of_command was
      (ap (λ (x : ActorValue). x.command) is) (ap (λ (x : ActorValue). x.job) is ∙ job) (ap (λ (x : ActorValue). x.errand) is) (inr (ap (λ (x : ActorValue). x.purse) is, job))

  note-ends : (k : Kind) (l : Change) (b : ActorValue) → is_of_part k ≡ false → NotesEnded l (w.actors n) b → IsMade (l ∷ []) b → Told s k n w (after w (l ∷ []) n b)
  note-ends k l b of_command d made =
      ends k [] l b (event.Ended d.of d.how_it_ends) [] d.of d.work (pushed [] l b _ _ _ b.seen d.ended made tt) (inl refl)
      (refl, inr (d.how_it_ends, refl, subst (λ m. MayNoteEnd m d.work (w.actors n).job d.how_it_ends) servers-are d.ends)) of_command d.command
      (ap (λ (x : ActorValue). x.command) d.actor_is) (ap (λ (x : ActorValue). x.job) d.actor_is) (ap (λ (x : ActorValue). x.errand) d.actor_is) (purse (w.actors n).job refl)
    where
      kept : b.purse ≡ (w.actors n).purse
      kept = ap (λ (x : ActorValue). x.purse) d.actor_is

      purse : (o : Option JobValue) → (w.actors n).job ≡ o → (b.purse ≡ []) ⊎ ((b.purse ≡ (w.actors n).purse) × ((w.actors n).job ≡ None))
      purse None is = inr (kept, is)
      purse (Some j) is =
          let may = subst (λ o. MayNoteEnd (w.actors n).setting.servers d.work o d.how_it_ends) is d.ends in
          inl (kept ∙ i.working.unspent n j is (note-unfrozen _ d.work j d.how_it_ends (job-of d.of d.work j d.command is) may))

  -- Deeds.

  deed : (k : Kind) (front : List Change) (l : Change) (b : ActorValue) (e : Event) (of more used : ℕ) (balance balance_now : Balance) → Pushes e more used l b.seen → IsMade (front ++ l ∷ []) b
      → Each (λ c. tag_of c.now ≢ TheLedger) front → is_deed e ≡ true → (w.actors n).command ≡ doing of (work_is.Balance balance) → b.command ≡ doing of (work_is.Balance balance_now)
      → Told s k n w (after w (front ++ l ∷ []) n b)
  deed k front l b e of more used balance balance_now p made off is_that was is = OfDeed (record {
    deed = e;
    history = pushed front l b e more used b.seen p made off;
    is_that = is_that;
    further = record {
      of = of;
      work = work_is.Balance balance;
      work_now = work_is.Balance balance_now;
      was = was;
      is = field-at (λ x. x.command) (front ++ l ∷ []) b ∙ is;
      plain = refl;
      plain_now = refl;
    };
  })

  -- A split or a move that is done, and one that is given up.
  module _ (k : Kind) (of_command : is_of_part k ≡ false) (front : List Change) (l : Change) (b : ActorValue) (of : ℕ) (job : JobValue) (at : (w.actors n).job ≡ Some job)
      (made : IsMade (front ++ l ∷ []) b) (off : Each (λ c. tag_of c.now ≢ TheLedger) front) where
    both : (gate : ℕ) (work : Work) (e : Event) → is_deed e ≡ true → (w.actors n).command ≡ doing of work
        → PushesBoth e (event.Ended of how.Fine) l b.seen
        × (b ≡ record (w.actors n) { purse = []; seen = b.seen; command = None; job = None; gone_gates = (w.actors n).gone_gates ++ gate ∷ [] })
        → Told s k n w (after w (front ++ l ∷ []) n b)
    both gate work e is_that was (p, is) =
        ends k front l b (event.Ended of how.Fine) (e ∷ []) of work (told-more front l b p.ledger p.ledger_now (event.Ended of how.Fine ∷ e ∷ []) made off p.was p.is p.history)
        (inr (e, refl, is_that)) (refl, inl (plain-job work job (job-of of work job was at))) of_command was
        (ap (λ (x : ActorValue). x.command) is) (ap (λ (x : ActorValue). x.job) is) (ap (λ (x : ActorValue). x.errand) is) (inl (ap (λ (x : ActorValue). x.purse) is))

    finishes : (gate : ℕ) (work : Work) (e : Event) → is_deed e ≡ true → (w.actors n).command ≡ doing of work → Finishes gate of work job e l (w.actors n) b → Told s k n w (after w (front ++ l ∷ []) n b)
    finishes gate (work_is.Balance balance) e is_that was (p, is) = deed k front l b e of 0 1 balance _ p made off is_that was (ap (λ (x : ActorValue). x.command) is)
    finishes gate (work_is.Insert row routed) e is_that was f = both gate (work_is.Insert row routed) e is_that was f
    finishes gate work_is.Query e is_that was f = both gate work_is.Query e is_that was f
    finishes gate (work_is.Sync server pulled) e is_that was f = both gate (work_is.Sync server pulled) e is_that was f
    finishes gate work_is.Bare e is_that was f = both gate work_is.Bare e is_that was f
    finishes gate (work_is.Settle pulls) e is_that was f = both gate (work_is.Settle pulls) e is_that was f
    finishes gate (work_is.Page subject there shown) e is_that was f = both gate (work_is.Page subject there shown) e is_that was f
    finishes gate (work_is.Action act) e is_that was f = both gate (work_is.Action act) e is_that was f

    one : (work : Work) → (w.actors n).command ≡ doing of work
        → Pushes (event.Ended of how.Postponed) 0 2 l b.seen × (b ≡ record (w.actors n) { purse = []; seen = b.seen; command = None; job = None }) → Told s k n w (after w (front ++ l ∷ []) n b)
    one work was (p, is) =
        ends k front l b (event.Ended of how.Postponed) [] of work (pushed front l b _ _ _ b.seen p made off)
        (inl refl) (refl, inl (plain-job work job (job-of of work job was at))) of_command was
        (ap (λ (x : ActorValue). x.command) is) (ap (λ (x : ActorValue). x.job) is) (ap (λ (x : ActorValue). x.errand) is) (inl (ap (λ (x : ActorValue). x.purse) is))

    gives-up : (work : Work) → (w.actors n).command ≡ doing of work → GivesUp of work job l (w.actors n) b → Told s k n w (after w (front ++ l ∷ []) n b)
    gives-up (work_is.Balance balance) was (p, is) = deed k front l b (event.Left of job.shard how.Postponed) of 0 1 balance _ p made off refl was (ap (λ (x : ActorValue). x.command) is)
    gives-up (work_is.Insert row routed) was f = one (work_is.Insert row routed) was f
    gives-up work_is.Query was f = one work_is.Query was f
    gives-up (work_is.Sync server pulled) was f = one (work_is.Sync server pulled) was f
    gives-up work_is.Bare was f = one work_is.Bare was f
    gives-up (work_is.Settle pulls) was f = one (work_is.Settle pulls) was f
    gives-up (work_is.Page subject there shown) was f = one (work_is.Page subject there shown) was f
    gives-up (work_is.Action act) was f = one (work_is.Action act) was f

  -- Each kind.

  freeze : (m x c : Change) (b : ActorValue) → IsMade (m ∷ x ∷ c ∷ []) b → DoesFreeze s.hierarchy m x c (w.actors n) b → Told s kind.Freeze n w (after w (m ∷ x ∷ c ∷ []) n b)
  freeze m x c b made d = elim d.does [
    | inl none ↦ quietly kind.Freeze (m ∷ x ∷ c ∷ []) b _ made (inr d.leads.same, (inl (of-gate x.now _ none.1.0.is), (inl (of-stock c.now _ none.1.1.is), tt))) none.1.2 refl
    | inr (plane, divided, inl few) ↦ quietly kind.Freeze (m ∷ x ∷ c ∷ []) b _ made (inr d.leads.same, (inl (of-gate x.now _ few.1.0.is), (inl (of-stock c.now _ few.1.1.is), tt))) few.1.2 refl
    | inr (plane, divided, inr some) ↦ quietly kind.Freeze (m ∷ x ∷ c ∷ []) b _ made (inr d.leads.same, (inl (of-gate x.now _ some.1.frozen.is), (inl (of-stock c.now _ some.1.turns.is), tt))) some.1.actor_is refl
  ]

  note : (c : Change) (b : ActorValue) → IsMade (c ∷ []) b → DoesNote c (w.actors n) b → Told s kind.Note n w (after w (c ∷ []) n b)
  note c b made (OfUnknown d) = begins kind.Note [] c b (event.Unknown (w.actors n).number (server_of (w.actors n).role) d.dim) _ _ d.pushed made tt refl refl d.free
      (OpensNone refl (field-at (λ x. x.command) (c ∷ []) b ∙ ap (λ (x : ActorValue). x.command) d.actor_is ∙ d.free.command))
      (λ e. ap (λ (x : ActorValue). x.job) d.actor_is ∙ d.free.job) (ap (λ (x : ActorValue). x.errand) d.actor_is) (ap (λ (x : ActorValue). x.purse) d.actor_is)
  note c b made (OfRefused d) = begins kind.Note [] c b (event.Refused (w.actors n).number) _ _ d.pushed made tt refl refl d.free
      (OpensNone refl (field-at (λ x. x.command) (c ∷ []) b ∙ ap (λ (x : ActorValue). x.command) d.actor_is ∙ d.free.command))
      (λ e. ap (λ (x : ActorValue). x.job) d.actor_is ∙ d.free.job) (ap (λ (x : ActorValue). x.errand) d.actor_is) (ap (λ (x : ActorValue). x.purse) d.actor_is)
  note c b made (OfCalled registry d) = called kind.Note [] c b registry false d made tt refl
  note c b made (OfLeft d) = deed kind.Note [] c b (event.Left d.of d.job.shard d.left_as) d.of _ _ d.balance _ d.left made tt refl d.command (ap (λ (x : ActorValue). x.command) d.actor_is)
  note c b made (OfShown page d) = OfPage (record {
    of = d.of;
    work = d.work;
    work_now = d.work_now;
    page = page;
    history = pushed [] c b _ _ _ b.seen d.shown made tt;
    was = d.command;
    once = d.once;
    is = field-at (λ x. x.command) (c ∷ []) b ∙ ap (λ (x : ActorValue). x.command) d.actor_is;
  })
  note c b made (OfEnded d) = note-ends kind.Note c b refl d made
  note c b made (OfCount d) = quietly kind.Note (c ∷ []) b _ made (inl (of-desk c.now d.server _ d.turns.is), tt) d.actor_is refl

  note-with : (c l : Change) (b : ActorValue) → IsMade (c ∷ l ∷ []) b → DoesNoteWith c l (w.actors n) b → Told s kind.Note n w (after w (c ∷ l ∷ []) n b)
  note-with c l b made (OfCalledAsking registry asked d) = called kind.Note (c ∷ []) l b registry true d made (of-registry c.now registry (asked.same ∙ asked.was), tt) refl
  note-with c l b made (OfUnrouted d) = session-ends kind.Note (c ∷ []) l b (event.Failed d.of) d.of _ _ _ d.server d.failed made (of-image c.now d.server _ d.turns.is, tt) refl refl refl d.command d.role d.actor_is
  note-with c l b made (OfQuery d) = session-ends kind.Note (c ∷ []) l b (event.Failed d.of) d.of _ _ _ d.server d.failed made (of-desk c.now d.server _ d.refused.clear.is, tt) refl refl refl d.command d.role d.actor_is

  -- a cell that is used again
  reuses : (cs : List Change) (b : ActorValue) → IsMade cs b → Does s.hierarchy kind.Reuse cs (w.actors n) b → TellsNothing n w (after w cs n b)
  reuses [] b made d = absurd d
  reuses (c0 ∷ []) b made d = absurd d
  reuses (x ∷ c ∷ []) b made d =
      tells-nothing (x ∷ c ∷ []) b made (inl (of-free x.now d.freed), (inl (of-stock c.now _ d.frees.is), tt)) (inl (ap (λ (y : ActorValue). y.command) d.actor_is))
  reuses (x ∷ y ∷ c ∷ []) b made d =
      tells-nothing (x ∷ y ∷ c ∷ []) b made (inl (of-gate x.now _ d.turns.is), (inl (of-free y.now d.freed), (inl (of-stock c.now _ d.frees.is), tt))) (inl (ap (λ (z : ActorValue). z.command) d.actor_is))
  reuses (c0 ∷ c1 ∷ c2 ∷ c3 ∷ more) b made d = absurd d

  told-of : (k : Kind) (cs : List Change) (b : ActorValue) → IsMade cs b → Does s.hierarchy k cs (w.actors n) b → Told s k n w (after w cs n b)
  told-of kind.GateRead [] b made d = absurd d
  told-of kind.GateRead (c0 ∷ []) b made d = absurd d
  told-of kind.GateRead (m ∷ x ∷ []) b made d = quietly kind.GateRead (m ∷ x ∷ []) b _ made (inr d.leads.same, (inl (of-gate x.now _ d.pinned.is), tt)) d.actor_is refl
  told-of kind.GateRead (c0 ∷ c1 ∷ c2 ∷ more) b made d = absurd d
  told-of kind.BlockVisit [] b made d = absurd d
  told-of kind.BlockVisit (c ∷ []) b made d = quietly kind.BlockVisit (c ∷ []) b _ made (inr d.read.same, tt) d.actor_is refl
  told-of kind.BlockVisit (c0 ∷ c1 ∷ more) b made d = absurd d
  told-of kind.EnterTree [] b made d = absurd d
  told-of kind.EnterTree (c0 ∷ []) b made d = absurd d
  told-of kind.EnterTree (c0 ∷ c1 ∷ []) b made d = absurd d
  told-of kind.EnterTree (m ∷ x ∷ root ∷ others) b made d = quietly kind.EnterTree (m ∷ x ∷ root ∷ others) b _ made (
    inr d.leads.same,
    (
      inl (of-gate x.now _ d.counted.is),
      (
        inl (of-block root.now _ d.turns.is),
        subst (Each IsOff) (sym d.others_are) (each-append IsOff (d.tail ++ d.fresh) d.unfilled (each-append IsOff d.tail d.fresh (tail-off _ d.gate.stamp d.head d.tail d.behind) (filled-off _ d.fresh d.are_filled)) (same-off d.unfilled d.stay)),
      ),
    ),
  ) d.actor_is refl
  told-of kind.EnterQueue [] b made d = absurd d
  told-of kind.EnterQueue (c0 ∷ []) b made d = absurd d
  told-of kind.EnterQueue (m ∷ x ∷ []) b made d = quietly kind.EnterQueue (m ∷ x ∷ []) b _ made (inr d.leads.same, (inl (of-gate x.now _ d.queued.is), tt)) d.actor_is refl
  told-of kind.EnterQueue (c0 ∷ c1 ∷ c2 ∷ more) b made d = absurd d
  told-of kind.Down [] b made d = absurd d
  told-of kind.Down (c0 ∷ []) b made d = absurd d
  told-of kind.Down (p ∷ c ∷ others) b made d = quietly kind.Down (p ∷ c ∷ others) b _ made (
    inl (of-block p.now _ d.turns_parent.is),
    (
      inl (of-block c.now _ d.turns_head.is),
      subst (Each IsOff) (sym d.others_are) (each-append IsOff d.tail d.fresh (tail-off _ d.entry.stamp d.head d.tail d.behind) (filled-off _ d.fresh d.are_filled)),
    ),
  ) d.actor_is refl
  told-of kind.PutInLeaf [] b made d = absurd d
  told-of kind.PutInLeaf (c ∷ []) b made d = quietly kind.PutInLeaf (c ∷ []) b _ made (inl (of-block c.now _ d.last.is), tt) d.actor_is refl
  told-of kind.PutInLeaf (c0 ∷ c1 ∷ more) b made d = absurd d
  told-of kind.LeaveTree [] b made d = absurd d
  told-of kind.LeaveTree (x ∷ []) b made d = quietly kind.LeaveTree (x ∷ []) b _ made (inl (of-gate x.now _ d.turns.is), tt) d.actor_is refl
  told-of kind.LeaveTree (c0 ∷ c1 ∷ more) b made d = absurd d
  told-of kind.Refill [] b made d = absurd d
  told-of kind.Refill (c ∷ []) b made d = elim d.does [
    | inl fills ↦ quietly kind.Refill (c ∷ []) b _ made (inl (of-stock c.now _ d.is), tt) fills.1.actor_is refl
    | inr empties ↦ quietly kind.Refill (c ∷ []) b _ made (inl (of-stock c.now _ d.is), tt) empties.actor_is refl
  ]
  told-of kind.Refill (c0 ∷ c1 ∷ more) b made d = absurd d
  told-of kind.TakePart [] b made d = absurd d
  told-of kind.TakePart (x ∷ []) b made d = quietly kind.TakePart (x ∷ []) b _ made (inl (of-desk x.now d.server _ d.turns.is), tt) d.actor_is refl
  told-of kind.TakePart (c0 ∷ c1 ∷ more) b made d = absurd d
  told-of kind.LookUp [] b made d = absurd d
  told-of kind.LookUp (c0 ∷ []) b made d = absurd d
  told-of kind.LookUp (m ∷ x ∷ []) b made (inl d) = quietly kind.LookUp (m ∷ x ∷ []) b _ made (inr d.leads.same, (inl (of-gate x.now _ d.same.is), tt)) d.actor_is refl
  told-of kind.LookUp (m ∷ x ∷ []) b made (inr d) = nothing kind.LookUp (m ∷ x ∷ []) b made (inr d.leads.same, (inl (of-gate x.now _ d.same.is), tt))
      (inr (record { of = d.of; work = work_is.Balance d.balance; work_now = work_is.Balance d.balance_now; was = d.command; is = ap (λ (x : ActorValue). x.command) d.actor_is; plain = refl; plain_now = refl }))
  told-of kind.LookUp (c0 ∷ c1 ∷ c2 ∷ more) b made d = absurd d
  told-of kind.Forward [] b made d = absurd d
  told-of kind.Forward (c0 ∷ []) b made d = absurd d
  told-of kind.Forward (m ∷ x ∷ []) b made d = quietly kind.Forward (m ∷ x ∷ []) b _ made (inr d.leads.same, (inl (of-desk x.now d.e.server _ d.puts.1.turns.is), tt)) d.actor_is refl
  told-of kind.Forward (c0 ∷ c1 ∷ c2 ∷ more) b made d = absurd d
  told-of kind.Expand [] b made d = absurd d
  told-of kind.Expand (c0 ∷ []) b made d = absurd d
  told-of kind.Expand (m ∷ x ∷ []) b made d = quietly kind.Expand (m ∷ x ∷ []) b _ made (inr d.leads.same, (children-off s.hierarchy d.e d.e.task d.plane d.left d.right x d.puts, tt)) d.actor_is refl
  told-of kind.Expand (c0 ∷ c1 ∷ c2 ∷ more) b made d = absurd d
  told-of kind.FinishPart [] b made d = absurd d
  told-of kind.FinishPart (x ∷ []) b made d = quietly kind.FinishPart (x ∷ []) b _ made (inl (of-desk x.now d.e.server _ d.puts.1.turns.is), tt) d.actor_is refl
  told-of kind.FinishPart (y ∷ x ∷ []) b made d = quietly kind.FinishPart (y ∷ x ∷ []) b _ made (unpins-off _ y d.unpins, (inl (of-desk x.now d.e.server _ d.puts.1.turns.is), tt)) d.actor_is refl
  told-of kind.FinishPart (c0 ∷ c1 ∷ c2 ∷ more) b made d = absurd d
  told-of kind.BeginInsert [] b made d = absurd d
  told-of kind.BeginInsert (c0 ∷ []) b made d = absurd d
  told-of kind.BeginInsert (x ∷ l ∷ []) b made d = begins kind.BeginInsert (x ∷ []) l b (event.Begun (w.actors n).number d.server d.row) _ _ d.begun made (of-image x.now d.server _ d.owes_more.is, tt) refl refl d.free
      (OpensOne (work_is.Insert d.row false) refl (opens-at (x ∷ []) l b d.begun.ledger d.row.no _ made d.begun.was d.number (ap (λ (y : ActorValue). y.command) d.actor_is)) tt refl)
      (λ e. cc) (ap (λ (y : ActorValue). y.errand) d.actor_is) (ap (λ (y : ActorValue). y.purse) d.actor_is)
  told-of kind.BeginInsert (c0 ∷ c1 ∷ c2 ∷ more) b made d = absurd d
  told-of kind.Note [] b made d = absurd d
  told-of kind.Note (c ∷ []) b made d = note c b made d
  told-of kind.Note (c ∷ l ∷ []) b made d = note-with c l b made d
  told-of kind.Note (x ∷ c ∷ l ∷ []) b made d = session-ends kind.Note (x ∷ c ∷ []) l b (event.Failed d.of) d.of _ _ _ d.server d.failed made (of-desk x.now d.server _ d.refused.clear.is, (of-image c.now d.server _ d.turns.is, tt)) refl refl refl d.command d.role d.actor_is
  told-of kind.Note (c0 ∷ c1 ∷ c2 ∷ c3 ∷ more) b made d = absurd d
  told-of kind.Route [] b made d = absurd d
  told-of kind.Route (c0 ∷ []) b made d = absurd d
  told-of kind.Route (x ∷ c ∷ []) b made d = nothing kind.Route (x ∷ c ∷ []) b made (inl (of-desk x.now d.server _ d.put.is), (inl (of-image c.now d.server _ d.same.is), tt))
      (inr (record { of = d.of; work = work_is.Insert d.row false; work_now = work_is.Insert d.row true; was = d.command; is = ap (λ (y : ActorValue). y.command) d.actor_is; plain = refl; plain_now = refl }))
  told-of kind.Route (c0 ∷ c1 ∷ c2 ∷ more) b made d = absurd d
  told-of kind.Ack [] b made d = absurd d
  told-of kind.Ack (c0 ∷ []) b made d = absurd d
  told-of kind.Ack (c0 ∷ c1 ∷ []) b made d = absurd d
  told-of kind.Ack (x ∷ c ∷ l ∷ []) b made d = session-ends kind.Ack (x ∷ c ∷ []) l b (event.Acked d.of d.path) d.of _ _ _ d.server d.acked made (of-desk x.now d.server _ d.clear.is, (of-image c.now d.server _ d.turns.is, tt)) refl refl refl d.command d.role d.actor_is
  told-of kind.Ack (c0 ∷ c1 ∷ c2 ∷ c3 ∷ more) b made d = absurd d
  told-of kind.BeginQuery [] b made d = absurd d
  told-of kind.BeginQuery (c0 ∷ []) b made d = absurd d
  told-of kind.BeginQuery (c0 ∷ c1 ∷ []) b made d = absurd d
  told-of kind.BeginQuery (x ∷ c ∷ l ∷ []) b made d = begins kind.BeginQuery (x ∷ c ∷ []) l b (event.Asked (w.actors n).number d.server d.filter) _ _ d.asked made (of-desk x.now d.server _ d.put.is, (of-image c.now d.server _ d.same.is, tt)) refl refl d.free
      (OpensOne work_is.Query refl (opens-at (x ∷ c ∷ []) l b d.asked.ledger _ _ made d.asked.was refl (ap (λ (y : ActorValue). y.command) d.actor_is)) tt refl)
      (λ e. cc) (ap (λ (y : ActorValue). y.errand) d.actor_is) (ap (λ (y : ActorValue). y.purse) d.actor_is)
  told-of kind.BeginQuery (c0 ∷ c1 ∷ c2 ∷ c3 ∷ more) b made d = absurd d
  told-of kind.Answer [] b made d = absurd d
  told-of kind.Answer (c0 ∷ []) b made d = absurd d
  told-of kind.Answer (x ∷ l ∷ []) b made d = session-ends kind.Answer (x ∷ []) l b (event.Answered d.of d.answer) d.of _ _ _ d.server d.answered made (of-desk x.now d.server _ d.clear.is, tt) refl refl refl d.command d.role d.actor_is
  told-of kind.Answer (c0 ∷ c1 ∷ c2 ∷ more) b made d = absurd d
  told-of kind.Sync [] b made d = absurd d
  told-of kind.Sync (c0 ∷ []) b made d = absurd d
  told-of kind.Sync (c0 ∷ c1 ∷ []) b made d = absurd d
  told-of kind.Sync (x ∷ r ∷ l ∷ []) b made d = OfPull (record {
    of = d.of;
    work = d.work;
    server = d.server;
    listing = d.listing;
    history = pushed (x ∷ r ∷ []) l b _ _ _ b.seen d.pulled made (of-image x.now d.server _ d.turns_image.is, (of-registry r.now _ d.is, tt));
    was = d.command;
    due = subst (λ m. due_pull m d.work ≡ Some d.server) servers-are d.due;
    is = field-at (λ y. y.command) (x ∷ r ∷ l ∷ []) b ∙ ap (λ (y : ActorValue). y.command) d.actor_is;
  })
  told-of kind.Sync (c0 ∷ c1 ∷ c2 ∷ c3 ∷ more) b made d = absurd d
  told-of kind.Freeze [] b made d = absurd d
  told-of kind.Freeze (c0 ∷ []) b made d = absurd d
  told-of kind.Freeze (c0 ∷ c1 ∷ []) b made d = absurd d
  told-of kind.Freeze (m ∷ x ∷ c ∷ []) b made d = freeze m x c b made d
  told-of kind.Freeze (c0 ∷ c1 ∷ c2 ∷ c3 ∷ more) b made d = absurd d
  told-of kind.Drained [] b made d = absurd d
  told-of kind.Drained (x ∷ []) b made d = quietly kind.Drained (x ∷ []) b _ made (inl (of-gate x.now _ d.same.is), tt) d.actor_is refl
  told-of kind.Drained (c0 ∷ c1 ∷ more) b made d = absurd d
  told-of kind.Collect [] b made d = absurd d
  told-of kind.Collect (c ∷ []) b made (inl d) = quietly kind.Collect (c ∷ []) b _ made (inr d.reads.same, tt) d.actor_is refl
  told-of kind.Collect (c ∷ []) b made (inr (inl d)) = quietly kind.Collect (c ∷ []) b _ made (inl (of-gate c.now _ d.same.is), tt) d.actor_is refl
  told-of kind.Collect (c ∷ []) b made (inr (inr d)) = quietly kind.Collect (c ∷ []) b _ made (inl (of-gate c.now _ d.same.is), tt) d.actor_is refl
  told-of kind.Collect (c0 ∷ c1 ∷ more) b made d = absurd d
  told-of kind.BuildBlock [] b made d = absurd d
  told-of kind.BuildBlock (c ∷ []) b made d = quietly kind.BuildBlock (c ∷ []) b _ made (inl (of-block c.now _ d.filled), tt) d.actor_is refl
  told-of kind.BuildBlock (c0 ∷ c1 ∷ more) b made d = absurd d
  told-of kind.FinishSplit [] b made d = absurd d
  told-of kind.FinishSplit (c0 ∷ []) b made d = absurd d
  told-of kind.FinishSplit (c0 ∷ c1 ∷ []) b made d = absurd d
  told-of kind.FinishSplit (c0 ∷ c1 ∷ c2 ∷ []) b made d = absurd d
  told-of kind.FinishSplit (c0 ∷ c1 ∷ c2 ∷ c3 ∷ []) b made d = absurd d
  told-of kind.FinishSplit (c0 ∷ c1 ∷ c2 ∷ c3 ∷ c4 ∷ []) b made d = absurd d
  told-of kind.FinishSplit (c0 ∷ c1 ∷ c2 ∷ c3 ∷ c4 ∷ c5 ∷ []) b made d = absurd d
  told-of kind.FinishSplit (m ∷ x ∷ y ∷ r ∷ reg ∷ c ∷ l ∷ []) b made d = finishes kind.FinishSplit refl (m ∷ x ∷ y ∷ r ∷ reg ∷ c ∷ []) l b d.of d.job d.has.is_job made
      (of-map m.now d.job.worker _ d.map_is, (of-gate x.now _ d.turns.is, (of-gate y.now _ d.left_now, (of-gate r.now _ d.right_now, (of-registry reg.now _ d.registry_is, (of-stock c.now _ d.turns_stock.is, tt))))))
      x.number d.work _ refl d.command d.finishes
  told-of kind.FinishSplit (c0 ∷ c1 ∷ c2 ∷ c3 ∷ c4 ∷ c5 ∷ c6 ∷ c7 ∷ more) b made d = absurd d
  told-of kind.FinishMove [] b made d = absurd d
  told-of kind.FinishMove (c0 ∷ []) b made d = absurd d
  told-of kind.FinishMove (c0 ∷ c1 ∷ []) b made d = absurd d
  told-of kind.FinishMove (c0 ∷ c1 ∷ c2 ∷ []) b made d = absurd d
  told-of kind.FinishMove (c0 ∷ c1 ∷ c2 ∷ c3 ∷ []) b made d = absurd d
  told-of kind.FinishMove (c0 ∷ c1 ∷ c2 ∷ c3 ∷ c4 ∷ []) b made d = absurd d
  told-of kind.FinishMove (m ∷ x ∷ y ∷ reg ∷ c ∷ l ∷ []) b made d = finishes kind.FinishMove refl (m ∷ x ∷ y ∷ reg ∷ c ∷ []) l b d.of d.job d.has.is_job made
      ((moves-off (m ∷ []) d.job d.to y.number d.moves).0, (of-gate x.now _ d.turns.is, (of-gate y.now _ d.new_now, (of-registry reg.now _ d.registry_is, (of-stock c.now _ d.turns_stock.is, tt)))))
      x.number d.work _ refl d.command d.finishes
  told-of kind.FinishMove (m ∷ z ∷ x ∷ y ∷ reg ∷ c ∷ l ∷ []) b made d = finishes kind.FinishMove refl (m ∷ z ∷ x ∷ y ∷ reg ∷ c ∷ []) l b d.of d.job d.has.is_job made
      ((moves-off (m ∷ z ∷ []) d.job d.to y.number d.moves).0, ((moves-off (m ∷ z ∷ []) d.job d.to y.number d.moves).1.0, (of-gate x.now _ d.turns.is, (of-gate y.now _ d.new_now, (of-registry reg.now _ d.registry_is, (of-stock c.now _ d.turns_stock.is, tt))))))
      x.number d.work _ refl d.command d.finishes
  told-of kind.FinishMove (c0 ∷ c1 ∷ c2 ∷ c3 ∷ c4 ∷ c5 ∷ c6 ∷ c7 ∷ more) b made d = absurd d
  told-of kind.Postpone [] b made d = absurd d
  told-of kind.Postpone (c0 ∷ []) b made d = absurd d
  told-of kind.Postpone (c ∷ l ∷ []) b made d = gives-up kind.Postpone refl (c ∷ []) l b d.of d.job d.is_job made (of-stock c.now _ d.turns.is, tt) d.work d.command d.gives_up
  told-of kind.Postpone (c0 ∷ c1 ∷ c2 ∷ more) b made d = absurd d
  told-of kind.Reuse cs b made d = OfNothing (reuses cs b made d)

-- a step's changes lead to its state
is-made : (s : Setting) (k : Kind) (n : ℕ) (w now : World) (g_now : Ghost) → InvWith s (view s now) g_now → (g : Ghost) (i : InvWith s (view s w) g) (step : Step s k n w now) → IsMade s n w g i step.changes step.actor
is-made s k n w now g_now i_now g i step = record { agrees = step.agrees; tag = subst (λ (x : World). tag_of (x.cells ledger_cell) ≡ TheLedger) step.now_is (i_now.numbering.tag ledger_cell) }

pub told-law : ToldLaw
told-law s k n w now g g_now i i_now step = subst (Told s k n w) (sym step.now_is) (told-of s n w g i k step.changes step.actor (is-made s k n w now g_now i_now g i step) step.does)

-- where a cell is used again nothing is told
pub reuse-tells : (s : Setting) (n : ℕ) (w now : World) (g g_now : Ghost) → InvWith s (view s w) g → InvWith s (view s now) g_now → Step s kind.Reuse n w now → TellsNothing n w now
reuse-tells s n w now g g_now i i_now step =
    subst (TellsNothing n w) (sym step.now_is) (reuses s n w g i step.changes step.actor (is-made s kind.Reuse n w now g_now i_now g i step) step.does)

pub others-law : OthersLaw
others-law s k n w now a step apart = ap (λ (x : World). x.actors a) step.now_is ∙ actor-off w.actors n step.actor a apart

-- An actor's command.

pub doing-is : (o : Option OpenCommand) (c : OpenCommand) (of : ℕ) (work : Work) → o ≡ Some c → o ≡ doing of work → (c.of ≡ of) × (c.work ≡ work)
doing-is o c of work x y = (cc, cc)

pub none-some : {X : Type 0} (o : Option OpenCommand) (c : OpenCommand) → o ≡ None → o ≡ Some c → X
none-some o c x y = cc
