-- The call that finishes a part: what its inner functions ask, and what it did.
use Rattle.std.proofs.{Common.{◌≡◌, ℕ, ◌<◌, List, [], ◌∷◌, ◌++◌, Bool, true, length, Option, Some, None, refl, sym, ap, subst, ◌∙◌, inl, inr, arith, Any, not}, lemmas.Bool.{cases_lt, false≢true, lt-ltb}, lemmas.List.Sums.prefix_len_passes}
use Rattle.std.specs.{List.position_or_len, Prelude.{IsSome, position, slice_set, slice_index_or}}
use Rattle.dim_hierarchy.specs.Dimension.{Dimension}
use Rattle.query_router.specs.{Desk.{DeskValue, is_with}, declared.part.Part.Part}
use Rattle.query_router.specs.declared.part.PartState.TheVariants as state
use Rattle.volap_cell.specs.shard_store.specs.declared.gate.Gate.{Gate}
use Rattle.list_words.proofs.{Each.each-right, Truth.eqb-self}
use Rattle.volap_cell.specs.{Cells.{CellValue, DeskCell, DeskOf, GateCell, gate_shard, pins_in, tag_of}, Desking.IsAtPart, Errands.{ReadPart, read_in_task, read_of, taken_by, taken_of}, Querying.{one_pin, pins_of}, Setting.{Setting, actor_count}, ShardKinds.{DoesFinishPart, Unpins, path_left, pin_of}, Steps.{IsHere, Makes}, Values.{ActorValue, OfRow, Read, TaskValue, Unread}, View.{View, view}, World.{Agrees, Change, World, change, change_if, held, held_if}, declared.errand.RowErrand.RowErrand, declared.errand.Way.Way, declared.kind.Kind.TheVariants.FinishPart}
use Rattle.volap_cell.specs.declared.errand.Way.TheVariants as way
use Rattle.volap_cell.proofs.{Persons.has-taken, Sums.sum-some, Views.Shown.held-desk}
use Rattle.core_shard.specs.Due.{CanEnd, CanFinishPart, Ends, IsEnded, IsGateOf, IsPinned, IsPinnedGate, LosesPinIf}
use Rattle.core_shard.proofs.FinishesPart.{finish-keeps, finish-keeps-pinned}

-- a row that is at rest has its path in what became of it
pub row-placed : (server shard worker : ℕ) (going : RowErrand) (no_path : List ℕ) → going.way ≡ way.Placed → no_path ≡ []
    → IsEnded (record { server = server; shard = shard; worker = worker; task = OfRow going }) (record { shard = shard; worker = worker; path = no_path; state = state.Placed going.path })
row-placed server shard worker going no_path is none = record {
  outcome = state.Placed going.path;
  is_outcome = inl (is, refl);
  part =
      let left : no_path ≡ path_left going.way going.path = none ∙ sym (ap (λ (w : Way). path_left w going.path) is) in
      λ k. record { shard = shard; worker = worker; path = left k; state = state.Placed going.path };
}

-- one that passes a test has a first place
pub first-place : {X : Type 0} (p : X → Bool) (xs : List X) → Any (λ x. p x ≡ true) xs → IsSome (position p xs)
first-place p xs (k, x, lt, here, passes) = elim (cases_lt (position_or_len p xs) (length xs)) [
  | inl within ↦ rw (lt-ltb (position_or_len p xs) (length xs) within) refl
  | inr past ↦ absurd (
      let other : not (p (slice_index_or xs k x)) ≡ true = prefix_len_passes (λ y. not (p y)) xs k x (omega (arith, lt, past)) in
      false≢true (sym (ap not (ap p here ∙ passes)) ∙ other)
      )
]

-- The cells that are held, the last of which is the desk.

pub desk-at : (w : World) (gate_at : ℕ) (gate : Option CellValue) (desk_at : ℕ) (desk : CellValue) (n : ℕ) (a : ActorValue) → Agrees w (held_if gate_at gate ++ held desk_at desk ∷ []) n a → w.cells desk_at ≡ desk
desk-at w gate_at gate desk_at desk n a ag = (each-right (λ (c : Change). w.cells c.number ≡ c.before) (held_if gate_at gate) (held desk_at desk ∷ []) ag.cells).0

gate-at : (w : World) (gate_at : ℕ) (gate : CellValue) (desk_at : ℕ) (desk : CellValue) (n : ℕ) (a : ActorValue) → Agrees w (held_if gate_at (Some gate) ++ held desk_at desk ∷ []) n a → w.cells gate_at ≡ gate
gate-at w gate_at gate desk_at desk n a ag = ag.cells.0

-- a cell in which a gate is seen
pub is-gate : (c : CellValue) (x : ℕ) → gate_shard c ≡ Some x → (gate : Gate) × (c ≡ GateCell gate)
is-gate (GateCell gate) x is = (gate, refl)
is-gate _ x is = absurd (cc)

module _ (hs : List Dimension) (gate_at : ℕ) (gate : Option CellValue) (desk_at : ℕ) (desk : CellValue) (a : ActorValue) (here : IsHere hs (held_if gate_at gate ++ held desk_at desk ∷ []) a) (due : CanFinishPart gate_at gate desk a) where
  abbrev s : Setting
  s = a.setting

  abbrev w : World
  w = here.world

  abbrev n : ℕ
  n = here.number

  abbrev v : View
  v = view s w

  takes : v.taken n ≡ Some (taken_by due.e)
  takes = ap (λ (x : ActorValue). taken_of x.errand) here.agrees.actor_is ∙ ap taken_of due.errand

  place : IsAtPart s v.history v.desks (taken_by due.e)
  place = here.inv.holds.desking.at_parts n (taken_by due.e) takes

  few : n < actor_count s
  few = has-taken s v here.inv.holds.numbering n (taken_by due.e) takes

  -- the gate that is held has a pin

  pinned-gate : (pin : Option ℕ) → pin_of due.e.task ≡ pin → (g : Option CellValue) → Agrees w (held_if gate_at g ++ held desk_at desk ∷ []) n a → IsGateOf pin gate_at g → IsPinned g
  pinned-gate None is None ag of = tt
  pinned-gate None is (Some c) ag of = absurd of
  pinned-gate (Some p) is None ag of = absurd of
  pinned-gate (Some p) is (Some c) ag of = (let i = here.inv.holds in at-task due.e.task refl is)
    where
      at-task : (task : TaskValue) → due.e.task ≡ task → pin_of due.e.task ≡ Some p → IsPinnedGate c
      at-task (OfRow r) same pin = (let never : ◌≡◌ {A = Option ℕ} None (Some p) = sym (ap pin_of same) ∙ pin in absurd (cc))
      at-task (Unread f) same pin = (let never : ◌≡◌ {A = Option ℕ} None (Some p) = sym (ap pin_of same) ∙ pin in absurd (cc))
      at-task (Read r) same pin =
          let i = here.inv.holds in
          let part : ReadPart = record { server = due.e.server; shard = due.e.shard; reading = r } in
          let reads : v.reads n ≡ Some part = ap (λ (x : ActorValue). read_of x.errand) here.agrees.actor_is ∙ ap read_of due.errand ∙ ap (read_in_task due.e) same in
          let its : r.pin ≡ Some p = sym (ap pin_of same) ∙ pin in
          let shard : v.gates p ≡ Some due.e.shard = i.pinning.shard n p part reads its in
          let cell : w.cells p ≡ c = ap w.cells (sym of) ∙ gate-at w gate_at c desk_at desk n a ag in
          let gate_is = is-gate c due.e.shard (ap gate_shard (sym cell) ∙ shard) in
          let one : pins_of p (v.reads n) ≡ 1 = ap (pins_of p) reads ∙ ap (one_pin p) its ∙ rw (eqb-self p) refl in
          let some = sum-some (actor_count s) (λ b. pins_of p (v.reads b)) n few in
          let count = i.pinning.counts p in
          let pins : v.pins p ≡ gate_is.0.pins = ap pins_in cell ∙ ap pins_in gate_is.1 in
          record { gate = gate_is.0; is = gate_is.1; some = omega (arith, one, some, count, pins) }

  pub gate-pinned : IsPinned gate
  gate-pinned = pinned-gate (pin_of due.e.task) refl gate here.agrees due.gate_of

  module _ (server : ℕ) (dv : DeskValue) (desk_is : desk ≡ DeskCell server dv) where
    pub its-server : server ≡ due.e.server
    its-server = (let tags : DeskOf server ≡ DeskOf due.e.server = sym (ap tag_of desk_is) ∙ due.desk_is in cc)

    pub can-end : CanEnd dv due.e
    can-end =
        let cell : desk ≡ DeskCell due.e.server dv = desk_is ∙ ap (λ (x : ℕ). DeskCell x dv) its-server in
        let held = held-desk s w here.inv.holds.numbering.tag desk_at due.e.server dv (desk-at w gate_at gate desk_at desk n a here.agrees ∙ cell) in
        record {
          ends = due.ends;
          found = first-place (is_with due.e.shard due.e.worker) dv.parts (subst (λ (d : DeskValue). Any (λ (p : Part). is_with due.e.shard due.e.worker p ≡ true) d.parts) held.1 place.part);
        }

    -- what was done

    pub finish-makes : (gate2 : Option CellValue) (dv2 : DeskValue) (desk2 : CellValue) (b : ActorValue) → LosesPinIf gate gate2 → Ends due.e dv dv2 → desk2 ≡ DeskCell server dv2 → b ≡ record a { errand = None }
        → Makes hs FinishPart (change_if gate_at gate gate2 ++ change desk_at desk desk2 ∷ []) a b
    finish-makes gate2 dv2 desk2 b loses ends is2 b_is = go gate gate2 (pin_of due.e.task) refl due.gate_of loses
      where
        no-pin : (pin : Option ℕ) → pin ≡ None → Unpins pin []
        no-pin pin is = subst (λ (q : Option ℕ). Unpins q []) (sym is) tt

        ended : (pinned : List Change) → Unpins (pin_of due.e.task) pinned → DoesFinishPart pinned (change desk_at desk desk2) a b
        ended pinned unpins = record {
          e = due.e;
          errand = due.errand;
          outcome = ends.is_ended.outcome;
          is_outcome = ends.is_ended.is_outcome;
          unpins = unpins;
          puts = (
            ends.place,
            record {
              desk = dv;
              found = ends.found;
              turns = record {
                was = desk_is ∙ ap (λ (x : ℕ). DeskCell x dv) its-server;
                is = is2 ∙ ap (λ (x : ℕ). DeskCell x dv2) its-server ∙ ap (DeskCell due.e.server) (ends.puts ∙ (λ k. record dv { parts = slice_set dv.parts ends.place (ends.is_ended.part k) }));
              };
            },
          );
          actor_is = b_is;
        }

        go : (g g2 : Option CellValue) (pin : Option ℕ) → pin_of due.e.task ≡ pin → IsGateOf pin gate_at g → LosesPinIf g g2 → Makes hs FinishPart (change_if gate_at g g2 ++ change desk_at desk desk2 ∷ []) a b
        go None None None pin of loses = (let does = ended [] (no-pin (pin_of due.e.task) pin) in record { does = does; keeps = finish-keeps hs (change desk_at desk desk2) a b does })
        go None None (Some p) pin of loses = absurd of
        go None (Some c) pin_is pin of loses = absurd loses
        go (Some c) None pin_is pin of loses = absurd loses
        go (Some c) (Some c2) None pin of loses = absurd of
        go (Some c) (Some c2) (Some p) pin of loses =
            let gate_is : Unpins (Some p) (change gate_at c c2 ∷ []) = (of, (loses.gate, loses.gate_now, record { was = loses.was; is = loses.is }, loses.less)) in
            let does = ended (change gate_at c c2 ∷ []) (subst (λ (q : Option ℕ). Unpins q (change gate_at c c2 ∷ [])) (sym pin) gate_is) in
            record { does = does; keeps = finish-keeps-pinned hs (change gate_at c c2) (change desk_at desk desk2) a b does }
