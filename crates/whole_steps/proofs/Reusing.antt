-- Cells of gates that are gone, at the seat that has all actors. Nobody is at a part there, so no query is pinned to such a gate: each gate
-- of the administrator's list is released, and a cell of it can be used again.
use Rattle.std.proofs.{Common.{◌≡◌, ◌≢◌, ◌∙◌, ℕ, ◌+◌, ◌<◌, ◌≤◌, Bool, true, false, cond, IsSome, List, [], ◌∷◌, ◌++◌, length, ◌==◌, Option, Some, None, Result, inl, inr, refl, sym, ap, subst, arith}, lemmas.Bool.cases_lt}
use Rattle.std.specs.Prelude.{◌&&◌, ⊤, OnErr, OnOk}
use mathlib.Core.Logic.{dite}
use mathlib.Core.Option.{none, some}
use native.Mathlib.Decide.{ℕ_discrete}
use Rattle.call_steps.specs.core_admin.proofs.Collecting.FrozenGates.{phase-gate}
use Rattle.call_steps.specs.core_due.proofs.{Owned.lend-gate, Released.released-is}
use Rattle.call_steps.specs.core_due.specs.{Ready.IsPrepared, Reuses.is_released}
use Rattle.call_steps.specs.core_steps.specs.{Places.{numbers, values}, Reuses.{reuse_asks, reuse_places}, declared.reuses.ReuseStep.ReuseStep}
use Rattle.call_steps.specs.core_steps.specs.declared.reuses.ReuseStep.TheVariants as reuse
use Rattle.call_steps.specs.seat_steps.proofs.{Around.{asked-held, within}, Ranks.{order-more, order-none}, Since.extends-on, WithLedger.at-places}
use Rattle.call_steps.specs.seat_steps.specs.{Booked.IsKeptAnyhow, Floors.IsAround, Made.HasMade, declared.floor.{Floor.Floor, Player.Player}}
use Rattle.call_steps.specs.volap_turns.proofs.Known.{is}
use Rattle.call_steps.specs.volap_turns.specs.{Rows.{AreAt, IsThere, cells_for}, Seats.{HasStepped, Holds, IsStillHeld}, Worlds.past}
use Rattle.core_pages.specs.shard_store.specs.declared.gate.Phase.TheVariants.{Gone}
use Rattle.core_pages.specs.volap_cell.proofs.Sums.{sum-zero}
use Rattle.core_pages.specs.volap_cell.specs.{Cells.{CellValue, cell_of, gate_shard, phase_of, pins_in}, Errands.read_of, Querying.pins_of, Reusing.is_gone, Setting.{Setting, actor_count}, Values.{ActorValue, ErrandValue, actor_of}, View.view, World.World, declared.actor.Actor.Actor, declared.cell.Cell.Cell, declared.kind.Kind.TheVariants.Reuse}
use Rattle.dim_hierarchy.specs.Dimension.{Dimension}
use Rattle.job_steps.proofs.Reusing.{released-still, reuse-actor, reuse-few, reuse-kept}
use Rattle.job_steps.specs.Reuses.{IsBetween, IsReleasedAt, IsReuseDue, after_reuse, last_gone}
use Rattle.list_words.proofs.Times.{among-times}
use Rattle.list_words.specs.Counts.{Among, times}
use Rattle.row_ledger.specs.declared.event.Event.{Event}
use Rattle.turn_table.specs.{Numbered.{Extends, numbers_of, value_of}, Seat.{IsInOrder, SeatValue, cell_count}, declared.view.View.View}
use Rattle.whole_steps.proofs.{Adding.{everyone-behind, held-below, next-cell, same-behind, stands-behind, still-held, takes-turn}, Alone.{around, everyone-of, sole-on}, Calling.{but-before, due-sole}, Paging.same-on, Turned.{held-alone, none-held, turned-self}}
use Rattle.whole_steps.specs.{Reuses.{HasReusedCell, HasReusedSole}, Seats.{HasEveryone, HasTurned, TakesCell}, Sole.{IsSole, StandsSole, player}}

abbrev S : Type 0
S = SeatValue Cell Actor Event

one-true : (b : Bool) → 1 ≤ cond b 1 0 → b ≡ true
one-true true one = refl
one-true false one = absurd (omega (arith, one))

-- The gates of the list.

module _ (f : Floor) (p : Player) (sole : IsSole f p) (between : IsBetween p) where
  abbrev s : Setting
  s = sole.holds.possible.valid.setting

  abbrev w : World
  w = sole.holds.possible.valid.world

  abbrev it : IsAround f p s w
  it = around f p sole

  none-at-part : (a : ℕ) → (w.actors a).errand ≡ None
  none-at-part a = dite (ℕ_discrete a p.number)
      (λ (same : a ≡ p.number). ap (λ (i : ℕ). (w.actors i).errand) same ∙ ap (λ (x : ActorValue). x.errand) it.actor ∙ between.no_part)
      (λ (ne : a ≢ p.number). elim (cases_lt a p.seat.view.actor_count) [
        | inl low ↦ (
            let has = sole.every a low in
            let can = sole.holds.possible in
            ap (λ (x : ActorValue). x.errand) ((is sole.holds.one can).actor a has.0 (can.agrees.own a has.0 has.1)) ∙ (sole.others a has.0 ne has.1).errand
            )
        | inr ge ↦ (
            let can = sole.holds.possible in
            let count = can.actor_count in
            ((is sole.holds.one can).no_actor a (past can.actors a (omega (arith, ge, count)))).errand
            )
      ])

  unpinned : (gate : ℕ) → pins_in (w.cells gate) ≡ 0
  unpinned gate =
      it.inv.holds.pinning.counts gate
      ∙ sum-zero (actor_count s) (λ a. pins_of gate (read_of (w.actors a).errand)) (λ a low. ap (λ (o : Option ErrandValue). pins_of gate (read_of o)) (none-at-part a))

  module _ (gate : ℕ) (listed : Among gate (actor_of p.actor).gone_gates) where
    released : is_released (w.cells gate) ≡ true
    released =
        let among = subst (λ (x : ActorValue). Among gate x.gone_gates) (sym it.actor) listed in
        let some = among-times gate (w.actors p.number).gone_gates among in
        let once : times gate (w.actors p.number).gone_gates ≡ cond (is_gone (phase_of (w.cells gate))) 1 0 = it.inv.holds.reusing.listed p.number gate (ap (λ (x : ActorValue). x.role) it.actor ∙ between.role) in
        let gone = one-true (is_gone (phase_of (w.cells gate))) (omega (arith, some, once)) in
        λ j. gone j && (unpinned gate j == 0)

    -- it is there
    pub listed-within : gate < cell_count f.table
    listed-within =
        let gate_is = phase-gate (w.cells gate) Gone (released-is (w.cells gate) released).0 in
        let stands : IsSome (gate_shard (w.cells gate)) = subst (λ (c : CellValue). IsSome (gate_shard c)) (sym gate_is.1) refl in
        within f p s w it gate (lend-gate s w it.inv.ghost_of it.inv.holds p.number ⊤ gate stands).within

    -- where it is held, no query is pinned to it
    pub released-at : IsThere p.seat.view.held gate → (last : Option ℕ) → ((c : Cell) → value_of p.seat.view.held gate ≡ some c → last ≡ last_gone (cell_of c)) → IsReleasedAt p gate last
    released-at there last is = record {
      there = there;
      released = λ c e. subst (λ (x : CellValue). is_released x ≡ true) (it.held gate c e) released;
      last_is = is;
    }

-- Behind turns that were taken.

pub between-on : (n : ℕ) (a : Actor) (was now : S) → HasTurned was now → IsBetween (player n a was) → IsBetween (player n a now)
between-on n a was now turned b = record { role = b.role; no_command = b.no_command; no_part = b.no_part }

pub released-on : (cell rank n : ℕ) (a : Actor) (was now : S) → TakesCell cell rank was now → (gate : ℕ) (last : Option ℕ) → IsReleasedAt (player n a was) gate last → IsReleasedAt (player n a now) gate last
released-on cell rank n a was now took gate last k = released-still (takes-turn cell rank n a was now took) gate last k

-- The next cell of a step.

module _ (f : Floor) (p : Player) (sole : IsSole f p) (step : ReuseStep) (due : IsReuseDue f p step) where
  pub next-reused : (ranks : List (ℕ × Option ℕ)) → p.seat.ranks ≡ ranks → (cell : ℕ) (more : List ℕ) → numbers (reuse_places step) ≡ numbers_of ranks ++ cell ∷ more → (cell < cell_count f.table) × (value_of p.seat.view.held cell ≡ none)
  next-reused ranks held cell more is =
      next-cell f p (reuse_places step) sole (due-sole f p (reuse_places step) due) cell more (ap (λ (l : List (ℕ × Option ℕ)). numbers_of l ++ cell ∷ more) held ∙ sym is)

pub room-for : (f : Floor) (p : Player) → IsSole f p → (ranks : List (ℕ × Option ℕ)) → p.seat.ranks ≡ ranks → length ranks < 7 → length p.seat.view.held < 7
room-for f p sole ranks held few = held-below f p sole 7 (subst (λ (l : List (ℕ × Option ℕ)). length l < 7) (sym held) few)

-- The step.

module _ (f : Floor) (n : ℕ) (a : Actor) (mid : S) (what : ReuseStep) (sole : IsSole f (player n a mid)) (between : IsBetween (player n a mid)) (named : numbers_of mid.ranks ≡ numbers (reuse_places what)) (due : IsReuseDue f (player n a mid) what) where
  abbrev row : List (Option ℕ)
  row = reuse_places what

  abbrev there : IsPrepared sole.holds.possible.valid.setting sole.holds.possible.valid.world n row (reuse_asks what sole.holds.possible.valid.setting.hierarchy) ⊤
  there = due.prepared sole.holds.possible.valid.setting sole.holds.possible.valid.world (around f (player n a mid) sole)

  pub reuse-at : AreAt row mid.view.held
  reuse-at = at-places row mid.view.held (sole.holds.rows ∙ named) there.apart

  pub reuse-asked : reuse_asks what f.hierarchy (values (cells_for mid.view.held row)) (actor_of a)
  reuse-asked = subst (λ (h : List Dimension). reuse_asks what h (values (cells_for mid.view.held row)) (actor_of a)) (around f (player n a mid) sole).about
      (asked-held f (player n a mid) sole.holds.possible.valid.setting sole.holds.possible.valid.world (around f (player n a mid) sole) row (reuse_asks what sole.holds.possible.valid.setting.hierarchy) reuse-at there.asked)

  pub reuse-many : (0 < length mid.view.held) × (length mid.view.held ≤ 7)
  reuse-many = (let count = reuse-at.count in let few = reuse-few what in (omega (arith, count, few.0), omega (arith, count, few.1)))

  abbrev none_seen : Setting → World → ℕ → Type 0
  none_seen = λ s w n. ⊤

  abbrev none_told : ActorValue → (was now : List (Option CellValue)) → Type 0
  none_told = λ a was now. ⊤

  kept : IsKeptAnyhow f.hierarchy Reuse none_seen none_told row (player n a mid)
  kept q same = reuse-kept f.hierarchy q what (ap (λ (x : ActorValue). x.errand) same ∙ between.no_part)

  pub reuse-left : IsStillHeld f.hierarchy Reuse none_seen none_told row mid.view.held (actor_of a)
  reuse-left = still-held f Reuse none_seen none_told row n a a mid mid mid mid sole kept reuse-at (turned-self mid)

  module _ (b : Actor) (now last : S) (holds : Holds f.hierarchy f.table now n b) where
    pub reuse-everyone : {T E : Type 0} (r : Result T E) → OnOk r (HasStepped f.hierarchy Reuse none_seen none_told row mid now n a b) → OnErr r ((now ≡ mid) × (actor_of b ≡ actor_of a)) → HasEveryone f.table now
    reuse-everyone r stepped same = everyone-behind f Reuse none_seen none_told row n a b mid mid now last sole kept reuse-at (turned-self mid) holds r stepped same

    module _ (stepped : HasStepped f.hierarchy Reuse none_seen none_told row mid now n a b) (lists : Extends now.view.seen mid.view.seen) (gave : HasTurned now last) (everyone : HasEveryone f.table last) (bare : last.ranks ≡ []) where
      made : HasMade f.hierarchy Reuse none_seen none_told row (player n a mid) (player n b now)
      made = record {
        new = stepped.new;
        numbers = stepped.same_numbers;
        number = refl;
        went = stepped.went;
        told = stepped.told;
        seen = ap (λ (v : View Cell Actor Event). v.seen) stepped.view;
        counted = stepped.counted;
      }

      shorter : (step : ReuseStep) → actor_of b ≡ after_reuse step (actor_of a) → actor_of b ≡ record (actor_of a) { gone_gates = (actor_of b).gone_gates }
      shorter (reuse.Block gate block) e = e ∙ (λ i. record (actor_of a) { gone_gates = (sym e i).gone_gates })
      shorter (reuse.Gate gate) e = e ∙ (λ i. record (actor_of a) { gone_gates = (sym e i).gone_gates })

      pub reused-so : HasReusedCell f (player n a mid) (player n b last)
      reused-so = record {
        reused = record {
          stands = stands-behind f Reuse none_seen none_told row n a b mid mid now last sole kept reuse-at (turned-self mid) stepped holds gave everyone bare;
          same = same-behind f Reuse none_seen none_told row n a b mid mid now last sole kept reuse-at (turned-self mid) stepped holds gave;
          actor = shorter what (reuse-actor f.hierarchy what reuse-at made);
          seen = extends-on last.view.seen now.view.seen mid.view.seen gave.seen lists;
        };
        step = what;
        before = cells_for mid.view.held row;
        after = cells_for stepped.new row;
        went = stepped.went;
      }

-- Where turns were taken before it.

pub reused-before : (f : Floor) (n : ℕ) (a b : Actor) (was mid now : S) → HasTurned was mid → HasReusedCell f (player n a mid) (player n b now) → HasReusedCell f (player n a was) (player n b now)
reused-before f n a b was mid now turned has = record {
  reused = record {
    stands = has.reused.stands;
    same = but-before f n a b was mid now turned has.reused.same;
    actor = has.reused.actor;
    seen = extends-on now.view.seen mid.view.seen was.view.seen has.reused.seen turned.seen;
  };
  step = has.step;
  before = has.before;
  after = has.after;
  went = has.went;
}

-- One after the other.

pub none-reused : (f : Floor) (p : Player) → StandsSole f p → HasReusedSole f p p
none-reused f p stands = record {
  stands = stands;
  same = record { number = refl; seat_number = refl; actor_count = refl; others = λ j ne. refl; setting = refl; knows = λ k known. known };
  actor = refl;
  seen = (turned-self p.seat).seen;
}

pub reused-on : {f : Floor} {was mid now : Player} → HasReusedSole f was mid → HasReusedSole f mid now → HasReusedSole f was now
reused-on {f} {was} {mid} {now} first second = record {
  stands = second.stands;
  same = same-on first.same second.same;
  actor = second.actor ∙ (λ i. record (first.actor i) { gone_gates = (actor_of now.actor).gone_gates });
  seen = extends-on now.seat.view.seen mid.seat.view.seen was.seat.view.seen second.seen first.seen;
}

pub between-still : {f : Floor} {was now : Player} → HasReusedSole f was now → IsBetween was → IsBetween now
between-still has b = record {
  role = ap (λ (x : ActorValue). x.role) has.actor ∙ b.role;
  no_command = ap (λ (x : ActorValue). x.command) has.actor ∙ b.no_command;
  no_part = ap (λ (x : ActorValue). x.errand) has.actor ∙ b.no_part;
}

-- In their order of ranks, behind the gate.

pub order-second : (cell low at rank : ℕ) (ranks : List (ℕ × Option ℕ)) → low < rank → ranks ≡ (at, Some low) ∷ [] → IsInOrder ranks cell rank
order-second cell low at rank ranks lower held =
    let below : low ≤ rank = omega (arith, lower) in
    subst (λ (l : List (ℕ × Option ℕ)). IsInOrder l cell rank) (sym held) (order-more [] at low cell rank (below, λ same. absurd (omega (arith, lower, same))) (order-none cell rank))

pub order-third : (cell low at high next rank : ℕ) (ranks : List (ℕ × Option ℕ)) → low < rank → high < rank → ranks ≡ (at, Some low) ∷ (next, Some high) ∷ [] → IsInOrder ranks cell rank
order-third cell low at high next rank ranks lower higher held =
    let below : low ≤ rank = omega (arith, lower) in
    let below_too : high ≤ rank = omega (arith, higher) in
    subst (λ (l : List (ℕ × Option ℕ)). IsInOrder l cell rank) (sym held)
    (order-more ((next, Some high) ∷ []) at low cell rank (below, λ same. absurd (omega (arith, lower, same))) (order-more [] next high cell rank (below_too, λ same. absurd (omega (arith, higher, same))) (order-none cell rank)))

-- A gate that was taken and looked at.

pub turned-look : {was mid now : S} → now ≡ mid → HasTurned was mid → HasTurned was now
turned-look {was} same turned = subst (HasTurned was) (sym same) turned

pub held-gate : (f : Floor) (n : ℕ) (a : Actor) (was mid now : S) → StandsSole f (player n a was) → IsBetween (player n a was) → (gate rank : ℕ) → Among gate (actor_of a).gone_gates → HasEveryone f.table mid → TakesCell gate rank was mid → now ≡ mid → (last : Option ℕ)
    → ((c : Cell) → value_of mid.view.held gate ≡ some c → last ≡ last_gone (cell_of c)) → IsReleasedAt (player n a now) gate last
held-gate f n a was mid now stands between gate rank listed everyone took same last is =
    let there : IsThere mid.view.held gate = (took.value, held-alone took (none-held (everyone-of f (player n a was) stands.sole) stands.bare)) in
    subst (λ (s : S). IsReleasedAt (player n a s) gate last) (sym same)
    (released-at f (player n a mid) (sole-on f (player n a was) mid stands.sole took.turned everyone) (between-on n a was mid took.turned between) gate listed there last is)
