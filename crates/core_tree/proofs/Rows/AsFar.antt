-- A purse is filled for the row of an actor, or given back: all rows are as far as they were.
use Rattle.std.proofs.{Common.{◌≡◌, ◌≢◌, ℕ, ◌+◌, ◌*◌, ◌≤◌, Bool, true, false, eqb, List, length, Option, Some, None, refl, sym, ap, ◌∙◌, subst}, lemmas.Bool.{eqb-true, eqb-false}, lemmas.List.Elements.All-weaker}
use Rattle.std.specs.Prelude.{option_map}
use Rattle.cell_stock.specs.declared.purse.Spare.{Spare}
use Rattle.query_router.specs.{Desk.DeskValue, declared.part.Part.Part, declared.part.PartState.PartState}
use Rattle.query_router.specs.declared.part.PartState.TheVariants as state
use Rattle.row_ledger.specs.declared.event.Event.{Event}
use Rattle.server_image.specs.Image.{ImageValue}
use Rattle.volap_cell.specs.shard_store.specs.{declared.gate.Phase.Phase, declared.queue.Queue.Queue}
use Rattle.volap_cell.specs.tree_shape.specs.Shape.{Shape}
use Rattle.list_words.proofs.Truth.{on_bool}
use Rattle.volap_cell.specs.{Errands.{AtBlock, RowWay}, Placing.{Inserting, IsOnWay, IsRowPart, NobodyAt, Placing}, Setting.{Setting, actor_count}, Turning.{IsIn, Turning, inside_of}, declared.command.Command.Command}
use Rattle.volap_cell.proofs.Sums.{sum-same}

-- a row on its way, whether or not the purse was filled for it
abbrev pub as_far : RowWay → RowWay
as_far w = record w { filled = false }

-- who is at a row as far as another one
record IsAt (ways : ℕ → Option RowWay) (a : ℕ) (w : RowWay) : Type 0 where
  pub way : RowWay
  pub is : ways a ≡ Some way
  pub same : as_far way ≡ as_far w

is-at : (ways : ℕ → Option RowWay) (a : ℕ) (w : RowWay) (o : Option RowWay) → ways a ≡ o → option_map as_far o ≡ Some (as_far w) → IsAt ways a w
is-at ways a w None is same = cc
is-at ways a w (Some u) is same = record { way = u; is = is; same = (let one : as_far u ≡ as_far w = cc in one) }

inside-as_far : (c : ℕ) (o : Option RowWay) → inside_of c (option_map as_far o) ≡ inside_of c o
inside-as_far c None = refl
inside-as_far c (Some w) = refl

module _ (ways ways_now : ℕ → Option RowWay) (still : (a : ℕ) → option_map as_far (ways_now a) ≡ option_map as_far (ways a)) where
  was-at : (a : ℕ) (w : RowWay) → ways_now a ≡ Some w → IsAt ways a w
  was-at a w is = is-at ways a w (ways a) refl (sym (still a) ∙ ap (option_map as_far) is)

  now-at : (a : ℕ) (w : RowWay) → ways a ≡ Some w → IsAt ways_now a w
  now-at a w is = is-at ways_now a w (ways_now a) refl (still a ∙ ap (option_map as_far) is)

  nobody-still : (r : ℕ) → NobodyAt ways r → NobodyAt ways_now r
  nobody-still r none a w is e = (let was = was-at a w is in none a was.way was.is (ap (λ (u : RowWay). u.row.no) was.same ∙ e))

  -- Where rows are.

  pub placing-still : (s : Setting) (h : List Event) (commands : ℕ → Option Command) (queues : ℕ → Queue) (gate : ℕ → ℕ) (shape : ℕ → Shape) (placed : ℕ → Bool) (home : ℕ → ℕ) (path : ℕ → List ℕ)
      → Placing s h commands ways queues gate shape placed home path → Placing s h commands ways_now queues gate shape placed home path
  placing-still s h commands queues gate shape placed home path i = record {
    one = i.one;
    stands = i.stands;
    begun = i.begun;
    line = i.line;
    acked_rows = λ k has. let o = i.acked_rows k has in (o.0, o.1, nobody-still k.row.no o.2);
    others = i.others;
  }

  -- How far inserts are.

  module _ (s : Setting) (h : List Event) (images : ℕ → ImageValue) (desks : ℕ → DeskValue) (commands : ℕ → Option Command) (placed : ℕ → Bool) (path : ℕ → List ℕ) where
    part-still : (server r : ℕ) (p : Part) (st : PartState) → IsRowPart h images ways placed path server r p st → IsRowPart h images ways_now placed path server r p st
    part-still server r p (state.Waiting wanted) o = (o.0, nobody-still r o.1, o.2)
    part-still server r p (state.Placed way) o = (o.0, o.1, nobody-still r o.2, o.3)
    part-still server r p state.NoMemory o = (o.0, nobody-still r o.1, o.2)
    part-still server r p state.Taken o = o
    part-still server r p (state.Done total) o = o

    on-way : (u w : RowWay) → as_far u ≡ as_far w → IsOnWay h images placed path u → IsOnWay h images placed path w
    on-way u w same o =
        let k = subst (IsOnWay h images placed path) same (record { known = o.known; lead = o.lead; passed = o.passed; came = o.came }) in
        record { known = k.known; lead = k.lead; passed = k.passed; came = k.came }

    pub inserting-still : Inserting s h images desks commands ways placed path → Inserting s h images desks commands ways_now placed path
    inserting-still i = record {
      unrouted = λ a r row is. let o = i.unrouted a r row is in (o.0, nobody-still r o.1);
      parts = λ server r insert within op is. All-weaker (λ (p : Part). IsRowPart h images ways placed path server r p p.state) (λ (p : Part). IsRowPart h images ways_now placed path server r p p.state)
          (λ p. part-still server r p p.state) (desks server).parts (i.parts server r insert within op is);
      on_way = λ a w is. let was = was-at a w is in on-way was.way w was.same (i.on_way a was.way was.is);
    }

  -- Who carries rows. The actor itself carries none.

  module _ (n : ℕ) (off : (a : ℕ) → a ≢ n → ways_now a ≡ ways a) (free : (c y : ℕ) (w : RowWay) → ways n ≡ Some w → w.place ≢ AtBlock c y)
      (purses purses_now : ℕ → List Spare) (purses_off : (a : ℕ) → a ≢ n → purses_now a ≡ purses a) (boxes boxes_now : ℕ → ℕ) (boxes_off : (a : ℕ) → a ≢ n → boxes_now a ≡ boxes a) where
    pub turning-still : (s : Setting) (phases : ℕ → Option Phase) (active gate : ℕ → ℕ) (shape : ℕ → Shape) (home : ℕ → ℕ)
        → ((w : RowWay) → ways_now n ≡ Some w → w.filled ≡ true → 2 * length (purses_now n) + 1 ≤ boxes_now n)
        → Turning s ways purses boxes phases active gate shape home → Turning s ways_now purses_now boxes_now phases active gate shape home
    turning-still s phases active gate shape home enough i = record {
      one = λ a b w u is iu same.
          let x = was-at a w is in
          let y = was-at b u iu in
          i.one a b x.way y.way x.is y.is (ap (λ (z : RowWay). z.row.no) x.same ∙ same ∙ ap (λ (z : RowWay). z.row.no) (sym y.same));
      carrying = λ a c y w is at.
          let x = was-at a w is in
          let o = i.carrying a c y x.way x.is (ap (λ (z : RowWay). z.place) x.same ∙ at) in
          let row = ap (λ (z : RowWay). z.row.no) x.same in
          (in-as x.way w row c o.0, ap (shape c).carried (sym row) ∙ o.1, ap (shape c).at (sym row) ∙ o.2);
      in_leaf = λ a c w is at.
          let x = was-at a w is in
          let o = i.in_leaf a c x.way x.is (ap (λ (z : RowWay). z.place) x.same ∙ at) in
          let row = ap (λ (z : RowWay). z.row.no) x.same in
          (in-as x.way w row c o.0, ap (shape c).carried (sym row) ∙ o.1);
      carried = λ c r some placed carried.
          let (a, y, w, is, row, at) = i.carried c r some placed carried in
          let x = now-at a w is in
          (a, y, x.way, x.is, ap (λ (z : RowWay). z.row.no) x.same ∙ row, ap (λ (z : RowWay). z.place) x.same ∙ at);
      enough = λ a c y w is at.
          let ne : a ≢ n = carrier a c y w is at in
          rw (purses_off a ne, boxes_off a ne) (i.enough a c y w (sym (off a ne) ∙ is) at);
      boxed = λ a w is filled. on_bool (eqb a n)
          (λ q. let e = eqb-true a n q in
          subst (λ (z : ℕ). 2 * length (purses_now z) + 1 ≤ boxes_now z) (sym e) (enough w (ap ways_now (sym e) ∙ is) filled))
          (λ q. let ne = eqb-false a n q in rw (purses_off a ne, boxes_off a ne) (i.boxed a w (sym (off a ne) ∙ is) filled));
      counts = λ c. i.counts c ∙ sum-same (actor_count s) (λ a. inside_of c (ways_now a)) (λ a. inside_of c (ways a)) (λ a lt. inside a c);
    }
      where
        in-as : (u w : RowWay) → u.row.no ≡ w.row.no → (c : ℕ) → IsIn phases gate shape home u c → IsIn phases gate shape home w c
        in-as u w row c o = record { stands = o.stands; gate_is = ap (λ (r : ℕ). gate (home r)) (sym row) ∙ o.gate_is; placed = ap (shape c).placed (sym row) ∙ o.placed }

        carrier : (a c y : ℕ) (w : RowWay) → ways_now a ≡ Some w → w.place ≡ AtBlock c y → a ≢ n
        carrier a c y w is at e =
            let x = was-at a w is in
            free c y x.way (ap ways (sym e) ∙ x.is) (ap (λ (z : RowWay). z.place) x.same ∙ at)

        inside : (a c : ℕ) → inside_of c (ways a) ≡ inside_of c (ways_now a)
        inside a c = sym (inside-as_far c (ways a)) ∙ ap (inside_of c) (sym (still a)) ∙ inside-as_far c (ways_now a)
