-- An actor at the seat that has all actors, and the states that the seat may be in.
use Rattle.std.proofs.Common.{◌≡◌, ◌≢◌, ◌∙◌, ℕ, ◌+◌, ◌<◌, List, [], ◌∷◌, Option, None, refl, sym, ap, subst, arith}
use Rattle.std.specs.Prelude.{option_and_then}
use mathlib.Core.Logic.{dite}
use mathlib.Core.Option.{none, some, some-injective, some-ne-none}
use native.Mathlib.Decide.{ℕ_discrete}
use lib.ListN.{get_elem?}
use Rattle.row_ledger.specs.{Past.{event_at, session_in}, declared.event.Event.Event}
use Rattle.call_steps.specs.seat_steps.proofs.Told.{kept-told}
use Rattle.call_steps.specs.seat_steps.specs.{Floors.{AreTold, IsAround, kept_by, kept_on}, declared.floor.{Floor.Floor, Player.Player}}
use Rattle.turn_table.specs.{Numbered.{value_of}, Seat.{SeatValue, cell_count}}
use Rattle.turn_table.proofs.Numbered.{below_length, there}
use Rattle.core_pages.specs.volap_cell.specs.{Cells.{CellValue, cell_of, ledger_in}, Errands.way_of, Setting.{Setting, ledger_cell}, State.exchange, Steps.{history_in}, Values.{ActorValue, actor_of}, World.MustKeep, declared.actor.Actor.Actor, declared.cell.Cell.Cell}
use Rattle.core_pages.specs.volap_cell.specs.Setting as setting
use Rattle.call_steps.specs.core_counts.specs.Counting.{IsCounted}
use Rattle.call_steps.specs.volap_turns.specs.{Law.others-free, Rule.went_of}
use Rattle.call_steps.specs.volap_turns.proofs.Known.{about, alone, is, me, setting-is}
use Rattle.whole_steps.specs.{Seats.{HasEveryone, HasTurned}, Sole.{HasNotedAll, IsSole, player}}

-- Who must keep none.

told-none : (kept : List (ℕ × Option ℕ)) → AreTold [] kept → kept ≡ []
told-none [] told = refl
told-none (k ∷ kept) told = absurd (some-ne-none k.1 (sym told.0))

pub none-kept : (a : ActorValue) (ranks : List (ℕ × Option ℕ)) → ranks ≡ [] → AreTold ranks (kept_by a) → kept_by a ≡ []
none-kept a ranks empty told = told-none (kept_by a) (subst (λ (l : List (ℕ × Option ℕ)). AreTold l (kept_by a)) empty told)

pub keeps-none : (a : ActorValue) (y : ℕ) → kept_by a ≡ [] → MustKeep a y → ⊥
keeps-none a y empty keeps = some-ne-none _ (sym (kept-told [] a y (subst (AreTold []) (sym empty) tt) keeps))

pub idle-none : (a : ActorValue) → a.errand ≡ None → kept_by a ≡ []
idle-none a idle = ap (λ o. kept_on (way_of o)) idle

pub idle-keeps : (a : ActorValue) (y : ℕ) → a.errand ≡ None → MustKeep a y → ⊥
idle-keeps a y idle = keeps-none a y (idle-none a idle)

-- The seat.

module _ (f : Floor) (p : Player) where
  pub everyone-of : IsSole f p → HasEveryone f.table p.seat
  everyone-of sole = record {
    own = sole.holds.own;
    home = sole.holds.home;
    every = sole.every;
    free = λ j x y has keeps. dite (ℕ_discrete j p.number)
        (λ (same : j ≡ p.number).
        let it : x ≡ sole.holds.one.last = some-injective x sole.holds.one.last (sym has ∙ ap (λ (i : ℕ). value_of p.seat.view.actors i) same ∙ sole.holds.one.has) in
        keeps-none (actor_of p.actor) y sole.none_kept (subst (λ (v : ActorValue). MustKeep v y) (ap actor_of it ∙ sole.holds.one.same) keeps))
        (λ (ne : j ≢ p.number). idle-keeps (actor_of x) y (sole.others j x ne has).errand keeps);
    rows = sole.holds.rows;
    possible = sole.holds.possible;
    wide = sole.holds.wide;
  }

  -- it is so still when turns were taken or given back
  pub sole-on : (s : SeatValue Cell Actor Event) → IsSole f p → HasTurned p.seat s → HasEveryone f.table s → IsSole f (player p.number p.actor s)
  sole-on s sole turned everyone =
      let actor_is : (j : ℕ) → value_of s.view.actors j ≡ value_of p.seat.view.actors j = λ j. ap (λ (l : List (ℕ × Actor)). value_of l j) turned.actors in
      record {
        holds = record {
          own = everyone.own;
          home = everyone.home;
          one = record {
            last = sole.holds.one.last;
            has = actor_is p.number ∙ sole.holds.one.has;
            same = sole.holds.one.same;
            went = sole.holds.one.went;
            about = sole.holds.one.about;
            others = λ j x y ne has keeps. everyone.free j x y has keeps;
          };
          rows = everyone.rows;
          possible = everyone.possible;
          wide = everyone.wide;
        };
        every = everyone.every;
        others = λ j x ne has. sole.others j x ne (sym (actor_is j) ∙ has);
        servers = sole.servers;
        workers = sole.workers;
        none_kept = sole.none_kept;
      }

  -- The states that it may be in.

  module _ (sole : IsSole f p) where
    same-setting : (actor_of p.actor).setting ≡ sole.holds.possible.valid.setting
    same-setting = setting-is sole.holds.one sole.holds.possible

    cell-at : (k : ℕ) (c : Cell) → value_of p.seat.view.held k ≡ some c → (sole.holds.possible.valid.world).cells k ≡ cell_of c
    cell-at k c e = (is sole.holds.one sole.holds.possible).cell k c (sole.holds.possible.agrees.held k c e)

    -- its history is the one that was seen
    pub whole-history : history_in sole.holds.possible.valid.world ≡ p.seat.view.seen
    whole-history =
        let wide = sole.holds.possible.valid.wide in
        let ledger = there sole.holds.possible.cells ledger_cell (cells-some _ _ _ _ wide) in
        ap (λ (x : CellValue). (ledger_in x).history) ((is sole.holds.one sole.holds.possible).cell ledger_cell ledger.0 ledger.1) ∙ sole.holds.possible.whole sole.every ledger.0 ledger.1
      where
        cells-some : (n servers workers stock : ℕ) → n ≡ 3 + servers + servers + workers + stock → 0 < n
        cells-some n servers workers stock e = omega arith

    -- one of them
    pub around : IsAround f p sole.holds.possible.valid.setting sole.holds.possible.valid.world
    around = record {
      about = about sole.holds.one sole.holds.possible;
      servers = ap (λ (x : Setting). x.servers) (sym same-setting) ∙ sole.servers;
      workers = ap (λ (x : Setting). x.workers) (sym same-setting) ∙ sole.workers;
      inv = sole.holds.possible.valid.inv;
      pulling = sole.holds.possible.valid.pulling;
      counted = subst (λ (n : ℕ). IsCounted sole.holds.possible.valid.setting sole.holds.possible.valid.world p.number n)
          (ap went_of (sole.holds.possible.agrees.own p.number sole.holds.one.last sole.holds.one.has) ∙ sole.holds.one.went) (sole.holds.possible.valid.counting p.number);
      actor = me sole.holds.one sole.holds.possible;
      there = (let many = sole.holds.possible.valid.many in
          let below = below_length sole.holds.possible.actors p.number sole.holds.one.last (sole.holds.possible.agrees.own p.number sole.holds.one.last sole.holds.one.has) in omega arith);
      cells = sym sole.holds.possible.valid.wide ∙ sym sole.holds.possible.cell_count ∙ sole.holds.wide;
      held = cell-at;
      free = λ k c e j ne. (others-free p.seat.view.held p.seat.view.actors sole.holds.possible.actors (sole.holds.possible.valid.world) p.number (exchange k c c ∷ []) (is sole.holds.one sole.holds.possible).actor (is sole.holds.one sole.holds.possible).no_actor
          sole.holds.possible.agrees.own sole.holds.possible.unkept (alone sole.holds.one sole.holds.possible (exchange k c c ∷ [])) (e, tt) j ne).0;
      behind = ([], whole-history);
      seen = λ c e. ap (λ (x : CellValue). (ledger_in x).history) (cell-at ledger_cell c e) ∙ sym (sole.holds.possible.agrees.fresh c e);
    }

-- all that the actor has begun in what was seen it has noted
pub noted-sole : (f : Floor) (p : Player) → IsSole f p → HasNotedAll p p.seat.view.seen
noted-sole f p sole q e =
    let is = around f p sole in
    let low = is.inv.holds.telling.last p.number q (ap (λ (l : List Event). option_and_then session_in (event_at l q)) (whole-history f p sole) ∙ e) in
    subst (λ (a : ActorValue). q < a.seen) is.actor low
