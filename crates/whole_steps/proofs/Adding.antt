-- A step that is made with the ledger behind other cells: the ledger can be taken, the step can be made over all of them, and the seat has all
-- actors still behind it.
use Rattle.std.proofs.Common.{◌≡◌, ◌≢◌, ◌∙◌, ℕ, ◌+◌, ◌<◌, ◌≤◌, List, [], ◌∷◌, ◌++◌, length, Option, Result, Ok, Err, inl, inr, refl, sym, ap, subst, arith, length-append}
use Rattle.std.specs.Prelude.{OnErr, OnOk, ⊤}
use mathlib.Core.Logic.{dite}
use mathlib.Core.Option.{none, some}
use native.Mathlib.Decide.{ℕ_discrete}
use Rattle.call_steps.specs.core_due.specs.Ready.{IsPrepared}
use Rattle.call_steps.specs.core_steps.specs.{Places.{numbers, values}, Steps.Went}
use Rattle.dim_hierarchy.specs.Dimension.{Dimension}
use Rattle.list_words.specs.Counts.{Each}
use Rattle.row_ledger.specs.declared.event.Event.{Event}
use Rattle.call_steps.specs.seat_steps.proofs.{Around.{asked-held, took-there}, WithLedger.{around-before, at-places}}
use Rattle.call_steps.specs.seat_steps.specs.{Booked.{IsKeptAnyhow, IsUpToLedger}, Floors.{kept_by}, Takes.Takes, declared.floor.{Floor.Floor, Player.Player}}
use Rattle.turn_table.proofs.{Numbered.{find_append_first, find_append_second, find_else, find_same, none_same, replace_else, replace_here, some_or_none}, Seats.numbers_append}
use Rattle.turn_table.specs.{Numbered.{numbers_of, value_of}, Seat.{SeatValue, cell_count}, declared.view.View.View}
use Rattle.core_pages.specs.volap_cell.specs.{Cells.CellValue, Setting.{Setting, ledger_cell, registry_cell}, State.AreDifferent, Values.{ActorValue, actor_of}, World.{World}, declared.actor.Actor.Actor, declared.cell.Cell.Cell, declared.kind.Kind.Kind}
use Rattle.call_steps.specs.volap_turns.proofs.{Placed.length-numbers, Turned.same-holds}
use Rattle.call_steps.specs.volap_turns.specs.{Rows.{AreAt, IsThere, cells_for}, Seats.{HasStepped, Holds, IsStillHeld}}
use Rattle.whole_steps.proofs.{Alone.{around, everyone-of, keeps-none, none-kept, noted-sole, sole-on, whole-history}, Turned.{knows-on, turned-on}}
use Rattle.whole_steps.specs.{Seats.{HasEveryone, HasTurned, Knows, TakesCell}, Sole.{HasMadeSole, HasWaited, IsDueSole, IsSameBut, IsSole, StandsSole, player}}

-- The next cell of a step that is due is one of the table, and isn't held yet.

each-between : (P : ℕ → Type 0) (ys : List ℕ) (k : ℕ) (more : List ℕ) → Each P (ys ++ k ∷ more) → P k
each-between P [] k more each = each.0
each-between P (y ∷ ys) k more each = each-between P ys k more each.1

off-before : {A : Type 0} (ps : List (ℕ × A)) (k : ℕ) (more : List ℕ) → AreDifferent (numbers_of ps ++ k ∷ more) → value_of ps k ≡ none
off-before [] k more apart = refl
off-before (p ∷ ps) k more apart =
    find_else ps p.0 k p.1 (λ e. each-between (λ z. z ≢ p.0) (numbers_of ps) k more apart.0 (sym e)) ∙ off-before ps k more apart.1

module _ (f : Floor) (p : Player) (row : List (Option ℕ)) {Asks : List Dimension → List (Option CellValue) → ActorValue → Type 0} (sole : IsSole f p) (due : IsDueSole f p row Asks) where
  prepared : IsPrepared sole.holds.possible.valid.setting sole.holds.possible.valid.world p.number row (Asks sole.holds.possible.valid.setting.hierarchy) ⊤
  prepared = due.prepared sole.holds.possible.valid.setting sole.holds.possible.valid.world (record { around = around f p sole; history = λ k. whole-history f p sole })

  pub next-cell : (k : ℕ) (more : List ℕ) → numbers_of p.seat.ranks ++ k ∷ more ≡ numbers row → (k < cell_count f.table) × (value_of p.seat.view.held k ≡ none)
  next-cell k more named =
      let lent = each-between _ (numbers_of p.seat.ranks) k more (subst (Each _) (sym named) prepared.cells) in (
        subst (λ (n : ℕ). k < n) (around f p sole).cells lent.within,
        none_same p.seat.ranks p.seat.view.held k (sym sole.holds.rows) (off-before p.seat.ranks k more (subst AreDifferent (sym named) prepared.apart)),
      )

-- the registry is one of the table
pub registry-within : (f : Floor) (p : Player) → IsSole f p → (k : ℕ) → k ≡ registry_cell → k < cell_count f.table
registry-within f p sole k is = low k _ _ _ _ is (around f p sole).cells
  where
    low : (k servers workers stock cells : ℕ) → k ≡ 2 → 3 + servers + servers + workers + stock ≡ cells → k < cells
    low k servers workers stock cells is all = omega arith

-- as many cells are held as ranks were told
pub held-below : (f : Floor) (p : Player) → IsSole f p → (most : ℕ) → length p.seat.ranks < most → length p.seat.view.held < most
held-below f p sole most few =
    subst (λ (k : ℕ). k < most) (sym (length-numbers p.seat.ranks) ∙ sym (ap (λ (l : List ℕ). length l) sole.holds.rows) ∙ length-numbers p.seat.view.held) few

-- a turn that is taken at the seat is taken by its actor
pub takes-turn : (cell rank n : ℕ) (a : Actor) (was now : SeatValue Cell Actor Event) → TakesCell cell rank was now → Takes cell rank (player n a was) (player n a now)
takes-turn cell rank n a was now took = record { value = took.value; same = record { number = refl; actor = refl; seen = took.turned.seen }; ranks = took.ranks; held = took.held }

-- Behind the take of the ledger.

module _ (f : Floor) (n : ℕ) (a : Actor) (was mid : SeatValue Cell Actor Event) (row : List (Option ℕ)) {Asks : List Dimension → List (Option CellValue) → ActorValue → Type 0} (sole : IsSole f (player n a was)) (everyone : HasEveryone f.table mid)
    (took : TakesCell ledger_cell 8 was mid) (held : IsUpToLedger (player n a was) row) (due : IsDueSole f (player n a was) row Asks) where
  pub sole-mid : IsSole f (player n a mid)
  sole-mid = sole-on f (player n a was) mid sole took.turned everyone

  off : value_of was.view.held ledger_cell ≡ none
  off = (next-cell f (player n a was) row sole due ledger_cell [] held.named).1

  abbrev takes : Takes ledger_cell 8 (player n a was) (player n a mid)
  takes = takes-turn ledger_cell 8 n a was mid took

  due-mid : IsPrepared sole-mid.holds.possible.valid.setting sole-mid.holds.possible.valid.world n row (Asks sole-mid.holds.possible.valid.setting.hierarchy) ⊤
  due-mid = due.prepared sole-mid.holds.possible.valid.setting sole-mid.holds.possible.valid.world (record {
    around = around-before f takes off sole-mid.holds.possible.valid.setting sole-mid.holds.possible.valid.world (around f (player n a mid) sole-mid);
    history = λ k. whole-history f (player n a mid) sole-mid ∙ took.turned.exact k;
  })

  pub held-at : AreAt row mid.view.held
  held-at = at-places row mid.view.held
      (ap (λ (l : List (ℕ × Cell)). numbers_of l) took.held ∙ numbers_append was.view.held ((ledger_cell, took.value) ∷ []) ∙ ap (λ (l : List ℕ). l ++ ledger_cell ∷ []) sole.holds.rows ∙ held.named) due-mid.apart

  pub held-asked : Asks f.hierarchy (values (cells_for mid.view.held row)) (actor_of a)
  held-asked = subst (λ (h : List Dimension). Asks h (values (cells_for mid.view.held row)) (actor_of a)) (around f (player n a mid) sole-mid).about
      (asked-held f (player n a mid) sole-mid.holds.possible.valid.setting sole-mid.holds.possible.valid.world (around f (player n a mid) sole-mid) row (Asks sole-mid.holds.possible.valid.setting.hierarchy) held-at due-mid.asked)

  pub held-there : IsThere mid.view.held ledger_cell
  held-there = took-there takes off

  pub held-few : (0 < length mid.view.held) × (length mid.view.held ≤ 7)
  held-few = one-more _ _ (ap (λ (l : List (ℕ × Cell)). length l) took.held ∙ length-append was.view.held ((ledger_cell, took.value) ∷ [])) (held-below f (player n a was) sole 7 held.few)
    where
      one-more : (x y : ℕ) → x ≡ y + 1 → y < 7 → (0 < x) × (x ≤ 7)
      one-more x y e few = (omega arith, omega arith)

-- Behind the step.

-- what was seen of a cell before, or by the step
known-either : (new known : List (ℕ × Cell)) (k : ℕ) → (c : Cell) × (value_of known k ≡ some c) → (c : Cell) × (value_of (new ++ known) k ≡ some c)
known-either new known k knows = elim (some_or_none (value_of new k)) [
  | inl t ↦ (t.0, find_append_first new known k t.0 t.1)
  | inr m ↦ (knows.0, find_append_second new known k m ∙ knows.1)
]

module _ (f : Floor) (kind : Kind) (Sees : Setting → World → ℕ → Type 0) (Tells : ActorValue → (was now : List (Option CellValue)) → Type 0) (row : List (Option ℕ)) (n : ℕ) (a b : Actor) (was mid now last : SeatValue Cell Actor Event)
    (sole : IsSole f (player n a mid)) (kept : IsKeptAnyhow f.hierarchy kind Sees Tells row (player n a was)) (at : AreAt row mid.view.held) (turned : HasTurned was mid) where
  -- it must keep no cell
  pub keeps-behind : (x : ActorValue) (cells : List (Option Cell)) → Went f.hierarchy kind Sees row (cells_for mid.view.held row) cells (actor_of a) x → Tells (actor_of a) (values (cells_for mid.view.held row)) (values cells) → kept_by x ≡ []
  keeps-behind x cells went told = none-kept x [] refl (kept (player n a (record mid { ranks = [] })) refl x cells went told)

  pub still-held : IsStillHeld f.hierarchy kind Sees Tells row mid.view.held (actor_of a)
  still-held x cells went told y keeps = absurd (keeps-none x y (keeps-behind x cells went told) keeps)

  module _ (stepped : HasStepped f.hierarchy kind Sees Tells row mid now n a b) (holds : Holds f.hierarchy f.table now n b) where
    actor-else : (j : ℕ) → j ≢ n → value_of now.view.actors j ≡ value_of mid.view.actors j
    actor-else j ne = ap (λ (v : View Cell Actor Event). value_of v.actors j) stepped.view ∙ replace_else mid.view.actors n j b ne

    actor-here : value_of now.view.actors n ≡ some b
    actor-here = ap (λ (v : View Cell Actor Event). value_of v.actors n) stepped.view ∙ replace_here mid.view.actors n sole.holds.one.last b sole.holds.one.has

    pub sole-behind : IsSole f (player n b now)
    sole-behind = record {
      holds = holds;
      every = λ j low. dite (ℕ_discrete j n)
          (λ (same : j ≡ n). (b, ap (λ (i : ℕ). value_of now.view.actors i) same ∙ actor-here))
          (λ (ne : j ≢ n). (let it = sole.every j (subst (λ (v : View Cell Actor Event). j < v.actor_count) stepped.view low) in (it.0, actor-else j ne ∙ it.1)));
      others = λ j x ne has. sole.others j x ne (sym (actor-else j ne) ∙ has);
      servers = ap (λ (s : Setting). s.servers) stepped.setting ∙ sole.servers;
      workers = ap (λ (s : Setting). s.workers) stepped.setting ∙ sole.workers;
      none_kept = keeps-behind (actor_of b) (cells_for stepped.new row) stepped.went stepped.told;
    }

    knows-behind : (k : ℕ) → Knows mid k → Knows now k
    knows-behind k knows = (let it = known-either stepped.new mid.view.known k knows in (it.0, ap (λ (v : View Cell Actor Event). value_of v.known k) stepped.view ∙ it.1))

    pub stands-behind : HasTurned now last → HasEveryone f.table last → last.ranks ≡ [] → StandsSole f (player n b last)
    stands-behind gave everyone bare = record { sole = sole-on f (player n b now) last sole-behind gave everyone; bare = bare }

    pub same-behind : HasTurned now last → IsSameBut (player n a was) (player n b last)
    same-behind gave = record {
      number = refl;
      seat_number = gave.number ∙ ap (λ (v : View Cell Actor Event). v.number) stepped.view ∙ turned.number;
      actor_count = gave.actor_count ∙ ap (λ (v : View Cell Actor Event). v.actor_count) stepped.view ∙ turned.actor_count;
      others = λ j ne. ap (λ (l : List (ℕ × Actor)). value_of l j) gave.actors ∙ actor-else j ne ∙ ap (λ (l : List (ℕ × Actor)). value_of l j) turned.actors;
      setting = stepped.setting;
      knows = λ k knows. knows-on gave k (knows-behind k (knows-on turned k knows));
    }

    -- where the ledger is held its history is known
    module _ (there : IsThere mid.view.held ledger_cell) where
      ledger-new : IsThere stepped.new ledger_cell
      ledger-new = find_same mid.view.held stepped.new ledger_cell there.0 (sym stepped.same_numbers) there.1

      ledger-behind : Knows now ledger_cell
      ledger-behind = (ledger-new.0, ap (λ (v : View Cell Actor Event). value_of v.known ledger_cell) stepped.view ∙ find_append_first stepped.new mid.view.known ledger_cell ledger-new.0 ledger-new.1)

      pub made-behind : HasTurned now last → HasEveryone f.table last → last.ranks ≡ [] → HasMadeSole f kind Sees Tells row (player n a was) (player n b last)
      made-behind gave everyone bare = record {
        stands = stands-behind gave everyone bare;
        same = same-behind gave;
        knows = knows-on gave ledger_cell ledger-behind;
        mid = player n a mid;
        turned = turned;
        number = refl;
        actor = refl;
        at = at;
        made = record {
          new = stepped.new;
          numbers = stepped.same_numbers;
          number = refl;
          went = stepped.went;
          told = stepped.told;
          seen = gave.exact ledger-behind ∙ ap (λ (v : View Cell Actor Event). v.seen) stepped.view;
          counted = stepped.counted;
        };
        whole = λ c e. sym (sole.holds.possible.agrees.fresh c e);
        noted = noted-sole f (player n a mid) sole;
      }

  module _ {T E : Type 0} (holds : Holds f.hierarchy f.table now n b) where
    -- in both cases the seat has everyone still
    pub everyone-behind : (r : Result T E) → OnOk r (HasStepped f.hierarchy kind Sees Tells row mid now n a b) → OnErr r ((now ≡ mid) × (actor_of b ≡ actor_of a)) → HasEveryone f.table now
    everyone-behind (Ok x) stepped same = everyone-of f (player n b now) (sole-behind stepped holds)
    everyone-behind (Err x) stepped same = subst (HasEveryone f.table) (sym same.0) (everyone-of f (player n a mid) sole)

    pub made-so : IsThere mid.view.held ledger_cell → (r : Result T E) → HasTurned now last → HasEveryone f.table last → last.ranks ≡ [] → OnOk r (HasStepped f.hierarchy kind Sees Tells row mid now n a b)
        → OnOk r (HasMadeSole f kind Sees Tells row (player n a was) (player n b last))
    made-so there (Ok x) gave everyone bare stepped = made-behind stepped holds there gave everyone bare
    made-so there (Err x) gave everyone bare stepped = tt

-- Where it found no memory.

-- the actor may have other rooms
sole-same : (f : Floor) (n : ℕ) (a b : Actor) (s : SeatValue Cell Actor Event) → IsSole f (player n a s) → actor_of b ≡ actor_of a → b.went ≡ a.went → IsSole f (player n b s)
sole-same f n a b s sole same uncounted = record {
  holds = same-holds sole.holds s b refl same uncounted;
  every = sole.every;
  others = sole.others;
  servers = ap (λ (x : ActorValue). x.setting.servers) same ∙ sole.servers;
  workers = ap (λ (x : ActorValue). x.setting.workers) same ∙ sole.workers;
  none_kept = ap kept_by same ∙ sole.none_kept;
}

module _ (f : Floor) (n : ℕ) (a b : Actor) (was mid now last : SeatValue Cell Actor Event) (sole : IsSole f (player n a mid)) (turned : HasTurned was mid) (knows : Knows mid ledger_cell) where
  waited : now ≡ mid → actor_of b ≡ actor_of a → b.went ≡ a.went → HasTurned now last → HasEveryone f.table last → last.ranks ≡ [] → HasWaited f (player n a was) (player n b last)
  waited e same uncounted gave everyone bare =
      let since : HasTurned mid last = subst (λ (z : SeatValue Cell Actor Event). HasTurned z last) e gave in
      let all = turned-on was mid last turned since in
      let there = sole-on f (player n b mid) last (sole-same f n a b mid sole same uncounted) since everyone in
      record {
        stands = record { sole = there; bare = bare };
        same = record {
          number = refl;
          seat_number = all.number;
          actor_count = all.actor_count;
          others = λ j ne. ap (λ (l : List (ℕ × Actor)). value_of l j) all.actors;
          setting = ap (λ (x : ActorValue). x.setting) same;
          knows = λ k known. knows-on all k known;
        };
        knows = knows-on since ledger_cell knows;
        actor = same;
        seen = all.seen;
        exact = all.exact;
        noted = λ q e. subst (λ (x : ActorValue). q < x.seen) same (noted-sole f (player n b last) there q e);
      }

  pub waited-so : {T E : Type 0} (r : Result T E) → OnErr r ((now ≡ mid) × (actor_of b ≡ actor_of a)) → OnErr r (b.went ≡ a.went) → HasTurned now last → HasEveryone f.table last → last.ranks ≡ [] → OnErr r (HasWaited f (player n a was) (player n b last))
  waited-so (Ok x) same uncounted gave everyone bare = tt
  waited-so (Err x) same uncounted gave everyone bare = waited same.0 same.1 uncounted gave everyone bare
