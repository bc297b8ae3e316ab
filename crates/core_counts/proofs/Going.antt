-- What each kind of step does to desks, and to its actor's errand and command.
use Rattle.std.proofs.Common.{◌≡◌, ◌∙◌, ◌⊎◌, inl, inr, ℕ, true, false, List, [], ◌∷◌, ◌++◌, Option, Some, None, refl, sym, ap, subst}
use Rattle.list_words.specs.Counts.{Each}
use Rattle.query_router.specs.Desk.{DeskValue}
use Rattle.row_ledger.specs.declared.event.Event.{Event}
use Rattle.core_told.proofs.Told.{doing-is, none-some}
use Rattle.core_shard.specs.volap_cell.proofs.Views.Frames.{actor-at}
use Rattle.core_shard.specs.volap_cell.specs.{AdminKinds.{DoesFreeze, Finishes, GivesUp}, Cells.tag_of, Commands.{due_pull, once_shown, pulled_once}, Ghost.Ghost, ImageKinds.{CountsSession, DoesNote, DoesNoteWith, OfCalled, OfCalledAsking, OfCount, OfEnded, OfLeft, OfQuery, OfRefused, OfShown, OfUnknown, OfUnrouted, doing}, Invariant.InvWith, Kinds.Does, Setting.{Setting, desk_cell}, Steps.Step, Values.{ActorValue, ErrandValue, JobValue}, View.view, World.{Agrees, Change, World, after, put}, declared.command.Command.Command, declared.command.Work.Work, declared.kind.Kind.Kind}
use Rattle.core_shard.specs.volap_cell.specs.declared.command.Work.TheVariants as work_is
use Rattle.core_shard.specs.volap_cell.specs.declared.kind.Kind.TheVariants as kind
use Rattle.core_counts.proofs.{Leaving.{IsOff, Leaves, clears, each-append, filled-off, leaves, moves-off, off, opens, same, same-off, tail-off, turned}, Turning.{EndsPart, TakesPart, expands-part, finishes-part, finishes-pinned, forwards-part, takes-part}}

-- the errand stays, or goes on for the same desk
abbrev pub SameErrand : Option ErrandValue → Option ErrandValue → Type 0
SameErrand was now = (now ≡ was) ⊎ ((e : ErrandValue) × (f : ErrandValue) × (was ≡ Some e) × (now ≡ Some f) × (f.server ≡ e.server))

-- the command was so before, or there was none, or it is no query
abbrev pub SameQuery : Option Command → Option Command → Type 0
SameQuery was now = (now ≡ was) ⊎ (was ≡ None) ⊎ ((c : Command) → now ≡ Some c → c.work ≡ work_is.Query → ⊥)

-- parts stay, but for those of a desk that gets another command
pub record StaysPut (s : Setting) (n : ℕ) (w now : World) : Type 0 where
  pub leave : (server : ℕ) → Leaves ((view s w).desks server) ((view s now).desks server)
  pub errand : SameErrand (w.actors n).errand (now.actors n).errand
  pub command : SameQuery (w.actors n).command (now.actors n).command

pub data Goes (s : Setting) (n : ℕ) (w now : World) : Type 0 where
  Stays : StaysPut s n w now → Goes s n w now
  Takes : TakesPart s n w now → Goes s n w now
  Ends : EndsPart s n w now → Goes s n w now

-- Commands.

ended : (was now : Option Command) → now ≡ None → SameQuery was now
ended was now at = inr (inr (λ c is q. none-some now c at is))

other : (was now : Option Command) (of : ℕ) (work : Work) → now ≡ doing of work → (work ≡ work_is.Query → ⊥) → SameQuery was now
other was now of work at never = inr (inr (λ c is q. never (sym (doing-is now c of work is at).1 ∙ q)))

no-pull : (most server : ℕ) (work : Work) → due_pull most work ≡ Some server → pulled_once work ≡ work_is.Query → ⊥
no-pull most server (work_is.Sync x pulled) due is = cc
no-pull most server (work_is.Settle pulls) due is = cc
no-pull most server _ due is = cc

no-page : (work work_now : Work) → once_shown work ≡ Some work_now → work_now ≡ work_is.Query → ⊥
no-page (work_is.Page subject true false) work_now once is = cc
no-page _ work_now once is = cc

module _ (s : Setting) (n : ℕ) (w : World) (g : Ghost) (i : InvWith s (view s w) g) where
  abbrev a : ActorValue
  a = w.actors n

  -- a step behind which each cell is what it was
  pub record IsMade (cs : List Change) (b : ActorValue) : Type 0 where
    pub agrees : Agrees w cs n (w.actors n)
    pub tags : (y : ℕ) → tag_of (put cs w.cells y) ≡ tag_of (w.cells y)

  stays : (cs : List Change) (b : ActorValue) → IsMade cs b → Each IsOff cs → SameErrand a.errand b.errand → SameQuery a.command b.command → Goes s n w (after w cs n b)
  stays cs b made out errand command = Stays (record {
    leave = λ server. leaves cs w.cells (desk_cell s server) made.agrees.cells out (made.tags (desk_cell s server));
    errand = subst (λ (x : ActorValue). SameErrand a.errand x.errand) (sym (actor-at w.actors n b)) errand;
    command = subst (λ (x : ActorValue). SameQuery a.command x.command) (sym (actor-at w.actors n b)) command;
  })

  -- the errand and the command stay
  still : (cs : List Change) (b c : ActorValue) → IsMade cs b → Each IsOff cs → b ≡ c → c.errand ≡ a.errand → c.command ≡ a.command → Goes s n w (after w cs n b)
  still cs b c made out is errand command = stays cs b made out (inl (ap (λ (x : ActorValue). x.errand) is ∙ errand)) (inl (ap (λ (x : ActorValue). x.command) is ∙ command))

  -- the errand goes on
  onward : (cs : List Change) (b c : ActorValue) (e f : ErrandValue) → IsMade cs b → Each IsOff cs → b ≡ c → a.errand ≡ Some e → c.errand ≡ Some f → f.server ≡ e.server → c.command ≡ a.command → Goes s n w (after w cs n b)
  onward cs b c e f made out is was now server command =
      stays cs b made out (inr (e, f, was, ap (λ (x : ActorValue). x.errand) is ∙ now, server)) (inl (ap (λ (x : ActorValue). x.command) is ∙ command))

  -- the command begins, ends or is no query
  anew : (cs : List Change) (b c : ActorValue) → IsMade cs b → Each IsOff cs → b ≡ c → c.errand ≡ a.errand → SameQuery a.command c.command → Goes s n w (after w cs n b)
  anew cs b c made out is errand command = stays cs b made out (inl (ap (λ (x : ActorValue). x.errand) is ∙ errand)) (subst (λ (x : ActorValue). SameQuery a.command x.command) (sym is) command)

  -- a split or a move that is done, and one that is given up

  finishes : (cs : List Change) (b : ActorValue) (gate of : ℕ) (work : Work) (job : JobValue) (e : Event) (l : Change) → IsMade cs b → Each IsOff cs → Finishes gate of work job e l a b → Goes s n w (after w cs n b)
  finishes cs b gate of (work_is.Balance balance) job e l made out f = anew cs b _ made out f.1 refl (other a.command _ of (work_is.Balance _) refl (λ q. cc))
  finishes cs b gate of (work_is.Insert row routed) job e l made out f = anew cs b _ made out f.1 refl (ended a.command None refl)
  finishes cs b gate of work_is.Query job e l made out f = anew cs b _ made out f.1 refl (ended a.command None refl)
  finishes cs b gate of (work_is.Sync server pulled) job e l made out f = anew cs b _ made out f.1 refl (ended a.command None refl)
  finishes cs b gate of work_is.Bare job e l made out f = anew cs b _ made out f.1 refl (ended a.command None refl)
  finishes cs b gate of (work_is.Settle pulls) job e l made out f = anew cs b _ made out f.1 refl (ended a.command None refl)
  finishes cs b gate of (work_is.Page subject there shown) job e l made out f = anew cs b _ made out f.1 refl (ended a.command None refl)
  finishes cs b gate of (work_is.Action act) job e l made out f = anew cs b _ made out f.1 refl (ended a.command None refl)

  gives-up : (cs : List Change) (b : ActorValue) (of : ℕ) (work : Work) (job : JobValue) (l : Change) → IsMade cs b → Each IsOff cs → GivesUp of work job l a b → Goes s n w (after w cs n b)
  gives-up cs b of (work_is.Balance balance) job l made out f = anew cs b _ made out f.1 refl (other a.command _ of (work_is.Balance _) refl (λ q. cc))
  gives-up cs b of (work_is.Insert row routed) job l made out f = anew cs b _ made out f.1 refl (ended a.command None refl)
  gives-up cs b of work_is.Query job l made out f = anew cs b _ made out f.1 refl (ended a.command None refl)
  gives-up cs b of (work_is.Sync server pulled) job l made out f = anew cs b _ made out f.1 refl (ended a.command None refl)
  gives-up cs b of work_is.Bare job l made out f = anew cs b _ made out f.1 refl (ended a.command None refl)
  gives-up cs b of (work_is.Settle pulls) job l made out f = anew cs b _ made out f.1 refl (ended a.command None refl)
  gives-up cs b of (work_is.Page subject there shown) job l made out f = anew cs b _ made out f.1 refl (ended a.command None refl)
  gives-up cs b of (work_is.Action act) job l made out f = anew cs b _ made out f.1 refl (ended a.command None refl)

  -- the ledger's cell is no desk behind them

  finish-off : (b : ActorValue) (gate of : ℕ) (work : Work) (job : JobValue) (e : Event) (l : Change) → Finishes gate of work job e l a b → IsOff l
  finish-off b gate of (work_is.Balance balance) job e l f = off l _ f.0.is refl
  finish-off b gate of (work_is.Insert row routed) job e l f = off l _ f.0.is refl
  finish-off b gate of work_is.Query job e l f = off l _ f.0.is refl
  finish-off b gate of (work_is.Sync server pulled) job e l f = off l _ f.0.is refl
  finish-off b gate of work_is.Bare job e l f = off l _ f.0.is refl
  finish-off b gate of (work_is.Settle pulls) job e l f = off l _ f.0.is refl
  finish-off b gate of (work_is.Page subject there shown) job e l f = off l _ f.0.is refl
  finish-off b gate of (work_is.Action act) job e l f = off l _ f.0.is refl

  gives-off : (b : ActorValue) (of : ℕ) (work : Work) (job : JobValue) (l : Change) → GivesUp of work job l a b → IsOff l
  gives-off b of (work_is.Balance balance) job l f = off l _ f.0.is refl
  gives-off b of (work_is.Insert row routed) job l f = off l _ f.0.is refl
  gives-off b of work_is.Query job l f = off l _ f.0.is refl
  gives-off b of (work_is.Sync server pulled) job l f = off l _ f.0.is refl
  gives-off b of work_is.Bare job l f = off l _ f.0.is refl
  gives-off b of (work_is.Settle pulls) job l f = off l _ f.0.is refl
  gives-off b of (work_is.Page subject there shown) job l f = off l _ f.0.is refl
  gives-off b of (work_is.Action act) job l f = off l _ f.0.is refl

  -- Each kind.

  freeze : (m x c : Change) (b : ActorValue) → IsMade (m ∷ x ∷ c ∷ []) b → DoesFreeze s.hierarchy m x c a b → Goes s n w (after w (m ∷ x ∷ c ∷ []) n b)
  freeze m x c b made d = elim d.does [
    | inl none ↦ still (m ∷ x ∷ c ∷ []) b _ made (same m d.leads.same, (off x _ none.1.0.is refl, (off c _ none.1.1.is refl, tt))) none.1.2 refl refl
    | inr (plane, divided, inl few) ↦ still (m ∷ x ∷ c ∷ []) b _ made (same m d.leads.same, (off x _ few.1.0.is refl, (off c _ few.1.1.is refl, tt))) few.1.2 refl refl
    | inr (plane, divided, inr some) ↦ still (m ∷ x ∷ c ∷ []) b _ made (same m d.leads.same, (off x _ some.1.frozen.is refl, (off c _ some.1.turns.is refl, tt))) some.1.actor_is refl refl
  ]

  counted : (c : Change) (b : ActorValue) (d : CountsSession c a b) → Leaves d.desk d.desk_now
  counted c b d = elim d.counts [
    | inl in_now ↦ inl (ap (λ (x : DeskValue). x.parts) in_now.2)
    | inr out_now ↦ inl (sym (ap (λ (x : DeskValue). x.parts) out_now.2))
  ]

  note : (c : Change) (b : ActorValue) → IsMade (c ∷ []) b → DoesNote c a b → Goes s n w (after w (c ∷ []) n b)
  note c b made (OfUnknown d) = still (c ∷ []) b _ made (off c _ d.pushed.is refl, tt) d.actor_is refl refl
  note c b made (OfRefused d) = still (c ∷ []) b _ made (off c _ d.pushed.is refl, tt) d.actor_is refl refl
  note c b made (OfCalled registry d) = anew (c ∷ []) b _ made (off c _ d.pushed.is refl, tt) d.actor_is refl (inr (inl d.free.command))
  note c b made (OfLeft d) = anew (c ∷ []) b _ made (off c _ d.left.is refl, tt) d.actor_is refl (other a.command _ d.of (work_is.Balance _) refl (λ q. cc))
  note c b made (OfShown page d) = anew (c ∷ []) b _ made (off c _ d.shown.is refl, tt) d.actor_is refl (other a.command _ d.of d.work_now refl (no-page d.work d.work_now d.once))
  note c b made (OfEnded d) = anew (c ∷ []) b _ made (off c _ d.ended.is refl, tt) d.actor_is refl (ended a.command None refl)
  note c b made (OfCount d) = still (c ∷ []) b _ made (turned c d.server d.desk d.desk_now d.turns (counted c b d), tt) d.actor_is refl refl

  note-with : (c l : Change) (b : ActorValue) → IsMade (c ∷ l ∷ []) b → DoesNoteWith c l a b → Goes s n w (after w (c ∷ l ∷ []) n b)
  note-with c l b made (OfCalledAsking registry asked d) = anew (c ∷ l ∷ []) b _ made (same c asked.same, (off l _ d.pushed.is refl, tt)) d.actor_is refl (inr (inl d.free.command))
  note-with c l b made (OfUnrouted d) = anew (c ∷ l ∷ []) b _ made (off c _ d.turns.is refl, (off l _ d.failed.is refl, tt)) d.actor_is refl (ended a.command None refl)
  note-with c l b made (OfQuery d) =
      anew (c ∷ l ∷ []) b _ made (turned c d.server d.refused.desk _ d.refused.clear (clears d.refused.desk d.of d.refused.op), (off l _ d.failed.is refl, tt)) d.actor_is refl (ended a.command None refl)

  goes-of : (k : Kind) (cs : List Change) (b : ActorValue) → IsMade cs b → Does s.hierarchy k cs a b → Goes s n w (after w cs n b)
  goes-of kind.GateRead [] b made d = absurd d
  goes-of kind.GateRead (c0 ∷ []) b made d = absurd d
  goes-of kind.GateRead (m ∷ x ∷ []) b made d = onward (m ∷ x ∷ []) b _ d.e _ made (same m d.leads.same, (off x _ d.pinned.is refl, tt)) d.actor_is d.errand refl refl refl
  goes-of kind.GateRead (c0 ∷ c1 ∷ c2 ∷ more) b made d = absurd d
  goes-of kind.BlockVisit [] b made d = absurd d
  goes-of kind.BlockVisit (c ∷ []) b made d = onward (c ∷ []) b _ d.e _ made (same c d.read.same, tt) d.actor_is d.errand refl refl refl
  goes-of kind.BlockVisit (c0 ∷ c1 ∷ more) b made d = absurd d
  goes-of kind.EnterTree [] b made d = absurd d
  goes-of kind.EnterTree (c0 ∷ []) b made d = absurd d
  goes-of kind.EnterTree (c0 ∷ c1 ∷ []) b made d = absurd d
  goes-of kind.EnterTree (m ∷ x ∷ root ∷ others) b made d = onward (m ∷ x ∷ root ∷ others) b _ d.e _ made (
    same m d.leads.same,
    (
      off x _ d.counted.is refl,
      (
        off root _ d.turns.is refl,
        subst (Each IsOff) (sym d.others_are) (each-append (d.tail ++ d.fresh) d.unfilled (each-append d.tail d.fresh (tail-off _ d.gate.stamp d.head d.tail d.behind) (filled-off _ d.fresh d.are_filled)) (same-off d.unfilled d.stay)),
      ),
    ),
  ) d.actor_is d.has.errand refl refl refl
  goes-of kind.EnterQueue [] b made d = absurd d
  goes-of kind.EnterQueue (c0 ∷ []) b made d = absurd d
  goes-of kind.EnterQueue (m ∷ x ∷ []) b made d = onward (m ∷ x ∷ []) b _ d.e _ made (same m d.leads.same, (off x _ d.queued.is refl, tt)) d.actor_is d.has.errand refl refl refl
  goes-of kind.EnterQueue (c0 ∷ c1 ∷ c2 ∷ more) b made d = absurd d
  goes-of kind.Down [] b made d = absurd d
  goes-of kind.Down (c0 ∷ []) b made d = absurd d
  goes-of kind.Down (p ∷ c ∷ others) b made d = onward (p ∷ c ∷ others) b _ d.e _ made (
    off p _ d.turns_parent.is refl,
    (
      off c _ d.turns_head.is refl,
      subst (Each IsOff) (sym d.others_are) (each-append d.tail d.fresh (tail-off _ d.entry.stamp d.head d.tail d.behind) (filled-off _ d.fresh d.are_filled)),
    ),
  ) d.actor_is d.has.errand refl refl refl
  goes-of kind.PutInLeaf [] b made d = absurd d
  goes-of kind.PutInLeaf (c ∷ []) b made d = onward (c ∷ []) b _ d.e _ made (off c _ d.last.is refl, tt) d.actor_is d.has.errand refl refl refl
  goes-of kind.PutInLeaf (c0 ∷ c1 ∷ more) b made d = absurd d
  goes-of kind.LeaveTree [] b made d = absurd d
  goes-of kind.LeaveTree (x ∷ []) b made d = onward (x ∷ []) b _ d.e _ made (off x _ d.turns.is refl, tt) d.actor_is d.has.errand refl refl refl
  goes-of kind.LeaveTree (c0 ∷ c1 ∷ more) b made d = absurd d
  goes-of kind.Refill [] b made d = absurd d
  goes-of kind.Refill (c ∷ []) b made d = elim d.does [
    | inl fills ↦ onward (c ∷ []) b _ fills.1.e _ made (off c _ d.is refl, tt) fills.1.actor_is fills.1.has.errand refl refl refl
    | inr empties ↦ still (c ∷ []) b _ made (off c _ d.is refl, tt) empties.actor_is refl refl
  ]
  goes-of kind.Refill (c0 ∷ c1 ∷ more) b made d = absurd d
  goes-of kind.TakePart [] b made d = absurd d
  goes-of kind.TakePart (x ∷ []) b made d = Takes (takes-part s w n b g i x made.agrees d)
  goes-of kind.TakePart (c0 ∷ c1 ∷ more) b made d = absurd d
  goes-of kind.LookUp [] b made d = absurd d
  goes-of kind.LookUp (c0 ∷ []) b made d = absurd d
  goes-of kind.LookUp (m ∷ x ∷ []) b made (inl d) = onward (m ∷ x ∷ []) b _ d.e _ made (same m d.leads.same, (off x _ d.same.is refl, tt)) d.actor_is d.has.errand refl refl refl
  goes-of kind.LookUp (m ∷ x ∷ []) b made (inr d) = anew (m ∷ x ∷ []) b _ made (same m d.leads.same, (off x _ d.same.is refl, tt)) d.actor_is refl (other a.command _ d.of (work_is.Balance _) refl (λ q. cc))
  goes-of kind.LookUp (c0 ∷ c1 ∷ c2 ∷ more) b made d = absurd d
  goes-of kind.Forward [] b made d = absurd d
  goes-of kind.Forward (c0 ∷ []) b made d = absurd d
  goes-of kind.Forward (m ∷ x ∷ []) b made d = Ends (forwards-part s w n b g i m x made.agrees d)
  goes-of kind.Forward (c0 ∷ c1 ∷ c2 ∷ more) b made d = absurd d
  goes-of kind.Expand [] b made d = absurd d
  goes-of kind.Expand (c0 ∷ []) b made d = absurd d
  goes-of kind.Expand (m ∷ x ∷ []) b made d = Ends (expands-part s w n b g i m x made.agrees d)
  goes-of kind.Expand (c0 ∷ c1 ∷ c2 ∷ more) b made d = absurd d
  goes-of kind.FinishPart [] b made d = absurd d
  goes-of kind.FinishPart (x ∷ []) b made d = Ends (finishes-part s w n b g i x made.agrees d)
  goes-of kind.FinishPart (y ∷ x ∷ []) b made d = Ends (finishes-pinned s w n b g i y x made.agrees d)
  goes-of kind.FinishPart (c0 ∷ c1 ∷ c2 ∷ more) b made d = absurd d
  goes-of kind.BeginInsert [] b made d = absurd d
  goes-of kind.BeginInsert (c0 ∷ []) b made d = absurd d
  goes-of kind.BeginInsert (x ∷ l ∷ []) b made d = anew (x ∷ l ∷ []) b _ made (off x _ d.owes_more.is refl, (off l _ d.begun.is refl, tt)) d.actor_is refl (inr (inl d.free.command))
  goes-of kind.BeginInsert (c0 ∷ c1 ∷ c2 ∷ more) b made d = absurd d
  goes-of kind.Note [] b made d = absurd d
  goes-of kind.Note (c ∷ []) b made d = note c b made d
  goes-of kind.Note (c ∷ l ∷ []) b made d = note-with c l b made d
  goes-of kind.Note (x ∷ c ∷ l ∷ []) b made d =
      anew (x ∷ c ∷ l ∷ []) b _ made (turned x d.server d.refused.desk _ d.refused.clear (clears d.refused.desk d.of d.refused.op), (off c _ d.turns.is refl, (off l _ d.failed.is refl, tt))) d.actor_is refl (ended a.command None refl)
  goes-of kind.Note (c0 ∷ c1 ∷ c2 ∷ c3 ∷ more) b made d = absurd d
  goes-of kind.Route [] b made d = absurd d
  goes-of kind.Route (c0 ∷ []) b made d = absurd d
  goes-of kind.Route (x ∷ c ∷ []) b made d =
      anew (x ∷ c ∷ []) b _ made (turned x d.server d.desk _ d.put (opens d.desk d.of _ d.empty), (off c _ d.same.is refl, tt)) d.actor_is refl (other a.command _ d.of (work_is.Insert d.row true) refl (λ q. cc))
  goes-of kind.Route (c0 ∷ c1 ∷ c2 ∷ more) b made d = absurd d
  goes-of kind.Ack [] b made d = absurd d
  goes-of kind.Ack (c0 ∷ []) b made d = absurd d
  goes-of kind.Ack (c0 ∷ c1 ∷ []) b made d = absurd d
  goes-of kind.Ack (x ∷ c ∷ l ∷ []) b made d =
      anew (x ∷ c ∷ l ∷ []) b _ made (turned x d.server d.desk _ d.clear (clears d.desk d.of d.op), (off c _ d.turns.is refl, (off l _ d.acked.is refl, tt))) d.actor_is refl (ended a.command None refl)
  goes-of kind.Ack (c0 ∷ c1 ∷ c2 ∷ c3 ∷ more) b made d = absurd d
  goes-of kind.BeginQuery [] b made d = absurd d
  goes-of kind.BeginQuery (c0 ∷ []) b made d = absurd d
  goes-of kind.BeginQuery (c0 ∷ c1 ∷ []) b made d = absurd d
  goes-of kind.BeginQuery (x ∷ c ∷ l ∷ []) b made d =
      anew (x ∷ c ∷ l ∷ []) b _ made (turned x d.server d.desk _ d.put (opens d.desk _ _ d.empty), (off c _ d.same.is refl, (off l _ d.asked.is refl, tt))) d.actor_is refl (inr (inl d.free.command))
  goes-of kind.BeginQuery (c0 ∷ c1 ∷ c2 ∷ c3 ∷ more) b made d = absurd d
  goes-of kind.Answer [] b made d = absurd d
  goes-of kind.Answer (c0 ∷ []) b made d = absurd d
  goes-of kind.Answer (x ∷ l ∷ []) b made d = anew (x ∷ l ∷ []) b _ made (turned x d.server d.desk _ d.clear (clears d.desk d.of d.op), (off l _ d.answered.is refl, tt)) d.actor_is refl (ended a.command None refl)
  goes-of kind.Answer (c0 ∷ c1 ∷ c2 ∷ more) b made d = absurd d
  goes-of kind.Sync [] b made d = absurd d
  goes-of kind.Sync (c0 ∷ []) b made d = absurd d
  goes-of kind.Sync (c0 ∷ c1 ∷ []) b made d = absurd d
  goes-of kind.Sync (x ∷ r ∷ l ∷ []) b made d =
      anew (x ∷ r ∷ l ∷ []) b _ made (off x _ d.turns_image.is refl, (off r _ d.is refl, (off l _ d.pulled.is refl, tt))) d.actor_is refl (other a.command _ d.of (pulled_once d.work) refl (no-pull a.setting.servers d.server d.work d.due))
  goes-of kind.Sync (c0 ∷ c1 ∷ c2 ∷ c3 ∷ more) b made d = absurd d
  goes-of kind.Freeze [] b made d = absurd d
  goes-of kind.Freeze (c0 ∷ []) b made d = absurd d
  goes-of kind.Freeze (c0 ∷ c1 ∷ []) b made d = absurd d
  goes-of kind.Freeze (m ∷ x ∷ c ∷ []) b made d = freeze m x c b made d
  goes-of kind.Freeze (c0 ∷ c1 ∷ c2 ∷ c3 ∷ more) b made d = absurd d
  goes-of kind.Drained [] b made d = absurd d
  goes-of kind.Drained (x ∷ []) b made d = still (x ∷ []) b _ made (off x _ d.same.is refl, tt) d.actor_is refl refl
  goes-of kind.Drained (c0 ∷ c1 ∷ more) b made d = absurd d
  goes-of kind.Collect [] b made d = absurd d
  goes-of kind.Collect (c ∷ []) b made (inl d) = still (c ∷ []) b _ made (same c d.reads.same, tt) d.actor_is refl refl
  goes-of kind.Collect (c ∷ []) b made (inr (inl d)) = still (c ∷ []) b _ made (off c _ d.same.is refl, tt) d.actor_is refl refl
  goes-of kind.Collect (c ∷ []) b made (inr (inr d)) = still (c ∷ []) b _ made (off c _ d.same.is refl, tt) d.actor_is refl refl
  goes-of kind.Collect (c0 ∷ c1 ∷ more) b made d = absurd d
  goes-of kind.BuildBlock [] b made d = absurd d
  goes-of kind.BuildBlock (c ∷ []) b made d = still (c ∷ []) b _ made (off c _ d.filled refl, tt) d.actor_is refl refl
  goes-of kind.BuildBlock (c0 ∷ c1 ∷ more) b made d = absurd d
  goes-of kind.FinishSplit [] b made d = absurd d
  goes-of kind.FinishSplit (c0 ∷ []) b made d = absurd d
  goes-of kind.FinishSplit (c0 ∷ c1 ∷ []) b made d = absurd d
  goes-of kind.FinishSplit (c0 ∷ c1 ∷ c2 ∷ []) b made d = absurd d
  goes-of kind.FinishSplit (c0 ∷ c1 ∷ c2 ∷ c3 ∷ []) b made d = absurd d
  goes-of kind.FinishSplit (c0 ∷ c1 ∷ c2 ∷ c3 ∷ c4 ∷ []) b made d = absurd d
  goes-of kind.FinishSplit (c0 ∷ c1 ∷ c2 ∷ c3 ∷ c4 ∷ c5 ∷ []) b made d = absurd d
  goes-of kind.FinishSplit (m ∷ x ∷ y ∷ r ∷ reg ∷ c ∷ l ∷ []) b made d = finishes (m ∷ x ∷ y ∷ r ∷ reg ∷ c ∷ l ∷ []) b x.number d.of d.work d.job _ l made
      (off m _ d.map_is refl, (off x _ d.turns.is refl, (off y _ d.left_now refl, (off r _ d.right_now refl, (off reg _ d.registry_is refl, (off c _ d.turns_stock.is refl, (finish-off b x.number d.of d.work d.job _ l d.finishes, tt)))))))
      d.finishes
  goes-of kind.FinishSplit (c0 ∷ c1 ∷ c2 ∷ c3 ∷ c4 ∷ c5 ∷ c6 ∷ c7 ∷ more) b made d = absurd d
  goes-of kind.FinishMove [] b made d = absurd d
  goes-of kind.FinishMove (c0 ∷ []) b made d = absurd d
  goes-of kind.FinishMove (c0 ∷ c1 ∷ []) b made d = absurd d
  goes-of kind.FinishMove (c0 ∷ c1 ∷ c2 ∷ []) b made d = absurd d
  goes-of kind.FinishMove (c0 ∷ c1 ∷ c2 ∷ c3 ∷ []) b made d = absurd d
  goes-of kind.FinishMove (c0 ∷ c1 ∷ c2 ∷ c3 ∷ c4 ∷ []) b made d = absurd d
  goes-of kind.FinishMove (m ∷ x ∷ y ∷ reg ∷ c ∷ l ∷ []) b made d = finishes (m ∷ x ∷ y ∷ reg ∷ c ∷ l ∷ []) b x.number d.of d.work d.job _ l made
      ((moves-off (m ∷ []) d.job d.to y.number d.moves).0, (off x _ d.turns.is refl, (off y _ d.new_now refl, (off reg _ d.registry_is refl, (off c _ d.turns_stock.is refl, (finish-off b x.number d.of d.work d.job _ l d.finishes, tt))))))
      d.finishes
  goes-of kind.FinishMove (m ∷ z ∷ x ∷ y ∷ reg ∷ c ∷ l ∷ []) b made d = finishes (m ∷ z ∷ x ∷ y ∷ reg ∷ c ∷ l ∷ []) b x.number d.of d.work d.job _ l made
      ((moves-off (m ∷ z ∷ []) d.job d.to y.number d.moves).0, ((moves-off (m ∷ z ∷ []) d.job d.to y.number d.moves).1.0, (off x _ d.turns.is refl, (off y _ d.new_now refl, (off reg _ d.registry_is refl, (off c _ d.turns_stock.is refl, (finish-off b x.number d.of d.work d.job _ l d.finishes, tt)))))))
      d.finishes
  goes-of kind.FinishMove (c0 ∷ c1 ∷ c2 ∷ c3 ∷ c4 ∷ c5 ∷ c6 ∷ c7 ∷ more) b made d = absurd d
  goes-of kind.Postpone [] b made d = absurd d
  goes-of kind.Postpone (c0 ∷ []) b made d = absurd d
  goes-of kind.Postpone (c ∷ l ∷ []) b made d = gives-up (c ∷ l ∷ []) b d.of d.work d.job l made (off c _ d.turns.is refl, (gives-off b d.of d.work d.job l d.gives_up, tt)) d.gives_up
  goes-of kind.Postpone (c0 ∷ c1 ∷ c2 ∷ more) b made d = absurd d
  goes-of kind.Reuse [] b made d = absurd d
  goes-of kind.Reuse (c0 ∷ []) b made d = absurd d
  goes-of kind.Reuse (x ∷ c ∷ []) b made d = still (x ∷ c ∷ []) b _ made (off x _ d.freed refl, (off c _ d.frees.is refl, tt)) d.actor_is refl refl
  goes-of kind.Reuse (x ∷ y ∷ c ∷ []) b made d = still (x ∷ y ∷ c ∷ []) b _ made (off x _ d.turns.is refl, (off y _ d.freed refl, (off c _ d.frees.is refl, tt))) d.actor_is refl refl
  goes-of kind.Reuse (c0 ∷ c1 ∷ c2 ∷ c3 ∷ more) b made d = absurd d

-- a step's changes lead to its state
pub goes-now : (s : Setting) (k : Kind) (n : ℕ) (w now : World) (g g_now : Ghost) → InvWith s (view s w) g → InvWith s (view s now) g_now → Step s k n w now → Goes s n w now
goes-now s k n w now g g_now i i_now step =
    let tags : (y : ℕ) → tag_of (put step.changes w.cells y) ≡ tag_of (w.cells y) = λ y. ap (λ (x : World). tag_of (x.cells y)) (sym step.now_is) ∙ i_now.numbering.tag y ∙ sym (i.numbering.tag y) in
    subst (Goes s n w) (sym step.now_is) (goes-of s n w g i k step.changes step.actor (record { agrees = step.agrees; tags = tags }) step.does)
