-- A session that comes to the desk of its server, or leaves it: what the count asks is so, and what it makes of the session.
use Rattle.std.proofs.{Common.{◌≡◌, ◌≢◌, ◌∙◌, ℕ, zero, suc, ◌+◌, ◌^◌, ◌<◌, ◌≤◌, ◌&&◌, Bool, true, false, not, List, [], ◌∷◌, Option, None, refl, sym, ap, subst, arith, inl, inr}, lemmas.Bool.and_right}
use Rattle.std.specs.Prelude.{⊤}
use Rattle.part_steps.specs.core_image.specs.NotesDue.{CanCount}
use Rattle.part_steps.specs.core_steps.specs.{Counts.count_asks, Places.{one_at, swaps, values}}
use Rattle.part_steps.specs.core_steps.specs.declared.counts.CountStep.TheVariants as count
use Rattle.dim_hierarchy.specs.Dimension.{Dimension}
use Rattle.row_ledger.specs.LedgerValue.{LedgerValue}
use Rattle.part_steps.specs.seat_steps.specs.{Floors.{AreTold, IsAround, kept_on}, Made.{HasMade, IsKeptBy}, declared.floor.{Floor.Floor, Player.Player}}
use Rattle.session_steps.specs.Books.{AreBooksOf}
use Rattle.part_steps.specs.seat_steps.proofs.Around.{around, asked-held}
use Rattle.session_steps.proofs.OneHeld.{HasOne, at-one, one-made, one-there, same-actor}
use Rattle.turn_table.specs.Numbered.{after_first}
use Rattle.part_steps.specs.volap_cell.proofs.{Cells.Numbers.tag-desk, Sums.sum-less}
use Rattle.part_steps.specs.volap_cell.specs.{Cells.{CellValue, DeskOf, LedgerCell, TheLedger, cell_of, desk_in, tag_of}, Errands.way_of, ImageKinds.{CountsSession, DoesNote, DoesNoteWith, OfCalled, OfCalledAsking, OfCount, OfEnded, OfLeft, OfQuery, OfRefused, OfShown, OfUnknown, OfUnrouted}, Kinds.Does, Owing.{one_if, serves}, Setting.{Setting, actor_count, desk_cell, ledger_cell}, State.changes_of, Sums.sum_below, Values.{ActorValue, ErrandValue, actor_of}, World.{Change, World}, declared.kind.Kind.TheVariants.Note, declared.role.Role.TheVariants.Session}
use Rattle.part_steps.specs.volap_turns.specs.Rows.{cells_for}

-- Fewer are counted than there are actors, where one isn't counted.

sum-ones : (m : ℕ) → sum_below m (λ a. 1) ≡ m
sum-ones zero = refl
sum-ones (suc m) = let ih = sum-ones m in omega arith

one-at-most : (b : Bool) → one_if b ≤ 1
one-at-most true = omega arith
one-at-most false = omega arith

fewer : (m n : ℕ) (f : ℕ → ℕ) → n < m → f n ≡ 0 → ((a : ℕ) → f a ≤ 1) → sum_below m f < m
fewer m n f lt none most =
    let ones = sum-ones m in
    let less : sum_below m f < sum_below m (λ a. 1) = sum-less m (λ a. 1) f n lt (omega arith) (λ a ne. most a) in
    omega arith

-- What a count leaves and what it makes.

-- a note leaves the part that the actor is at

alone-errand : {c : Change} {a b : ActorValue} → DoesNote c a b → b.errand ≡ a.errand
alone-errand (OfUnknown does) = ap (λ (x : ActorValue). x.errand) does.actor_is
alone-errand (OfRefused does) = ap (λ (x : ActorValue). x.errand) does.actor_is
alone-errand (OfCalled registry does) = ap (λ (x : ActorValue). x.errand) does.actor_is
alone-errand (OfLeft does) = ap (λ (x : ActorValue). x.errand) does.actor_is
alone-errand (OfShown page does) = ap (λ (x : ActorValue). x.errand) does.actor_is
alone-errand (OfEnded does) = ap (λ (x : ActorValue). x.errand) does.actor_is
alone-errand (OfCount does) = ap (λ (x : ActorValue). x.errand) does.actor_is

with-errand : {c l : Change} {a b : ActorValue} → DoesNoteWith c l a b → b.errand ≡ a.errand
with-errand (OfCalledAsking registry asked does) = ap (λ (x : ActorValue). x.errand) does.actor_is
with-errand (OfUnrouted does) = ap (λ (x : ActorValue). x.errand) does.actor_is
with-errand (OfQuery does) = ap (λ (x : ActorValue). x.errand) does.actor_is

note-errand : (h : List Dimension) (cs : List Change) (a b : ActorValue) → Does h Note cs a b → b.errand ≡ a.errand
note-errand h [] a b does = absurd does
note-errand h (c ∷ []) a b does = alone-errand does
note-errand h (c ∷ l ∷ []) a b does = with-errand does
note-errand h (d ∷ i ∷ l ∷ []) a b does = ap (λ (x : ActorValue). x.errand) does.actor_is
note-errand h (d ∷ i ∷ l ∷ m ∷ more) a b does = absurd does

-- so what it makes of an actor at no part carries nothing
pub count-kept : (h : List Dimension) (p : Player) (row : List (Option ℕ)) → (actor_of p.actor).errand ≡ None → IsKeptBy h Note (λ s w n. ⊤) (λ a was now. ⊤) row p
count-kept h p row none b now went told =
    subst (λ (o : Option ErrandValue). AreTold (after_first p.seat.ranks) (kept_on (way_of o))) (sym (note-errand h (changes_of (swaps row (cells_for p.seat.view.held row) now)) (actor_of p.actor) b went.makes.does ∙ none)) tt

-- with a desk alone a note is a count

not-ledger : {P : Type 0} {c : CellValue} {ledger : LedgerValue} (server : ℕ) → tag_of c ≡ DeskOf server → c ≡ LedgerCell ledger → P
not-ledger server tags is = (let never : DeskOf server ≡ TheLedger = sym tags ∙ ap tag_of is in absurd (cc))

its-count : {c : Change} {a b : ActorValue} (server : ℕ) → tag_of c.before ≡ DeskOf server → DoesNote c a b → CountsSession c a b
its-count server tags (OfUnknown does) = not-ledger server tags does.pushed.was
its-count server tags (OfRefused does) = not-ledger server tags does.pushed.was
its-count server tags (OfCalled registry does) = not-ledger server tags does.pushed.was
its-count server tags (OfLeft does) = not-ledger server tags does.left.was
its-count server tags (OfShown page does) = not-ledger server tags does.shown.was
its-count server tags (OfEnded does) = not-ledger server tags does.ended.was
its-count server tags (OfCount does) = does

counted-now : {c : Change} {a b : ActorValue} (come : Bool) → a.counted ≡ not come → CountsSession c a b → b.counted ≡ come
counted-now true other does = elim does.counts [ inl k ↦ k.1 | inr k ↦ (let never : true ≡ false = sym k.0 ∙ other in absurd (cc)) ]
counted-now false other does = elim does.counts [ inl k ↦ (let never : false ≡ true = sym k.0 ∙ other in absurd (cc)) | inr k ↦ k.1 ]

-- What it asks.

module _ (f : Floor) (p : Player) (s : Setting) (w : World) (is : IsAround f p s w) (server : ℕ) (role : (actor_of p.actor).role ≡ Session server) (low : server < f.with.servers) where
  below : server < s.servers
  below = subst (λ (n : ℕ). server < n) (sym is.servers) low

  -- the desk stands in its place
  desk-tag : tag_of (w.cells (desk_cell s server)) ≡ DeskOf server
  desk-tag = is.inv.holds.numbering.tag (desk_cell s server) ∙ tag-desk s server below

  -- what a count asks of the desk and the session
  can-count : (come : Bool) → (actor_of p.actor).counted ≡ not come → (come ≡ true → actor_count (actor_of p.actor).setting < 2 ^ 16) → CanCount (w.cells (desk_cell s server)) (w.actors p.number) come
  can-count come other few =
      let i = is.inv.holds in
      let away : come ≡ true → (w.actors p.number).counted ≡ false = λ e. ap (λ (a : ActorValue). a.counted) is.actor ∙ other ∙ ap not e in
      record {
        server = server;
        role = ap (λ (a : ActorValue). a.role) is.actor ∙ role;
        desk_is = desk-tag;
        other = ap (λ (a : ActorValue). a.counted) is.actor ∙ other;
        fits = λ e.
            let counts : ℕ → ℕ = λ a. one_if (serves server (w.actors a).role && (w.actors a).counted) in
            let none : counts p.number ≡ 0 = ap one_if (and_right (serves server (w.actors p.number).role) (w.actors p.number).counted (away e)) in
            let less = fewer (actor_count s) p.number counts is.there none (λ a. one-at-most (serves server (w.actors a).role && (w.actors a).counted)) in
            let all : (desk_in (w.cells (desk_cell s server))).sessions ≡ sum_below (actor_count s) counts = i.owing.sessions server below in
            let about : actor_count (actor_of p.actor).setting ≡ actor_count s = ap actor_count (ap (λ (a : ActorValue). a.setting) (sym is.actor) ∙ i.numbering.about p.number) in
            let enough = few e in
            omega (arith, less, all, about, enough);
      }

-- The count of a session that took its server's desk.

module _ {f : Floor} {was mid : Player} {desk image : ℕ} (books : AreBooksOf f was desk image) (one : HasOne f was mid desk 4) where
  role-mid : (actor_of mid.actor).role ≡ Session books.server
  role-mid = ap (λ (a : ActorValue). a.role) (same-actor one) ∙ books.role

  desk-at : (s : Setting) → s.servers ≡ f.with.servers → desk ≡ desk_cell s books.server
  desk-at s same = books.desk_is ∙ ap (λ (n : ℕ). 3 + n + books.server) (sym same)

  -- the desk isn't the ledger
  pub desk-apart : desk ≢ ledger_cell
  desk-apart e = absurd (let is = books.desk_is in omega (arith, is, e))

  can-mid : (come : Bool) → (actor_of was.actor).counted ≡ not come → (come ≡ true → actor_count (actor_of was.actor).setting < 2 ^ 16)
      → (s : Setting) (w : World) → IsAround f mid s w → CanCount (w.cells desk) (w.actors mid.number) come
  can-mid come other few s w is = subst (λ (y : ℕ). CanCount (w.cells y) (w.actors mid.number) come) (sym (desk-at s is.servers))
      (can-count f mid s w is books.server role-mid books.low come (ap (λ (a : ActorValue). a.counted) (same-actor one) ∙ other) (λ e. subst (λ (a : ActorValue). actor_count a.setting < 2 ^ 16) (sym (same-actor one)) (few e)))

  pub comes-asked : (actor_of was.actor).counted ≡ false → actor_count (actor_of was.actor).setting < 2 ^ 16 → count_asks (count.Comes desk) f.hierarchy (values (cells_for mid.seat.view.held (one_at desk))) (actor_of mid.actor)
  comes-asked away few =
      let (s, w, is) = around f mid one.seated in
      asked-held f mid s w is (one_at desk) (count_asks (count.Comes desk) f.hierarchy) (at-one one) (can-mid true away (λ e. few) s w is)

  pub goes-asked : (actor_of was.actor).counted ≡ true → count_asks (count.Goes desk) f.hierarchy (values (cells_for mid.seat.view.held (one_at desk))) (actor_of mid.actor)
  goes-asked there =
      let (s, w, is) = around f mid one.seated in
      asked-held f mid s w is (one_at desk) (count_asks (count.Goes desk) f.hierarchy) (at-one one) (can-mid false there (λ (e : false ≡ true). absurd (cc)) s w is)

  -- the session is counted so behind it
  pub count-makes : {h : List Dimension} {Sees : Setting → World → ℕ → Type 0} {Tells : ActorValue → (was now : List (Option CellValue)) → Type 0} {now : Player} (come : Bool) → (actor_of was.actor).counted ≡ not come
      → HasMade h Note Sees Tells (one_at desk) mid now → actor_of now.actor ≡ record (actor_of was.actor) { counted = come }
  count-makes {h} {Sees} {Tells} {now} come other made =
      let (s, w, is) = around f mid one.seated in
      let there = one-there one in
      let it = one-made one made in
      let tags : tag_of (cell_of there.0) ≡ DeskOf books.server =
      ap tag_of (sym (is.held desk there.0 there.1)) ∙ ap (λ (y : ℕ). tag_of (w.cells y)) (desk-at s is.servers) ∙ desk-tag f mid s w is books.server role-mid books.low in
      let does = its-count books.server tags it.1.does in
      let so = counted-now come (ap (λ (a : ActorValue). a.counted) (same-actor one) ∙ other) does in
      does.actor_is ∙ (λ i. record (same-actor one i) { counted = so i })
