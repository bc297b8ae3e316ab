-- The law: an event keeps the state valid, and the history as it was or longer.
use Rattle.std.proofs.Common.{◌≡◌, ◌≢◌, ◌∙◌, ℕ, ◌<◌, List, [], ◌∷◌, ◌++◌, length, slice_set, Option, inl, inr, sym, ap, subst, arith, eq-eqb, refl, length-set}
use mathlib.Core.Option.{some, none, some-injective, some-ne-none}
use lib.ListN.{get_elem?}
use Rattle.atomic_table.proofs.Lists.{set_here, set_else}
use Rattle.list_words.specs.Counts.{Each}
use Rattle.row_ledger.specs.declared.event.Event.{Event}
use Rattle.core_counts.proofs.Counting.{counting-law}
use Rattle.core_counts.specs.Counting.{IsCounting, went_after}
use Rattle.core_told.proofs.Pulling.{pulling-law}
use Rattle.core_told.specs.Pulling.{IsPulling}
use Rattle.turn_table.specs.Numbered.{Extends, value_of, write_all}
use Rattle.turn_table.proofs.Numbered.{below_length, length_write_all, some_or_none}
use Rattle.core_told.specs.volap_cell.specs.{Cells.{CellValue, cell_of, ledger_in}, Errands.{IsCarried, way_of}, Opening.IsFresh, Setting.{Setting, ledger_cell}, State.{Exchange, changes_of}, Steps.{Inv, IsKept, history_in}, Values.{ActorValue, ErrandValue, actor_of}, World.{Agrees, Change, MustKeep, World, after}, declared.actor.Actor.Actor, declared.cell.Cell.Cell, declared.kind.Kind.Kind}
use Rattle.core_told.specs.volap_cell.proofs.Runs.{reached-on}
use Rattle.volap_turns.specs.Rule.{IsSeen, Needs, Rests, TurnLaw, history_of, went_at, went_of}
use Rattle.volap_turns.specs.Worlds.{IsWorld, is-world, past, world-of, world-written}

-- The state agrees with the held cells.

pub agree : (held : List (ℕ × Cell)) (cells : List Cell) (w : World) → ((y : ℕ) (c : Cell) → get_elem? cells y ≡ some c → w.cells y ≡ cell_of c)
    → ((k : ℕ) (c : Cell) → value_of held k ≡ some c → get_elem? cells k ≡ some c) → (xs : List Exchange) → Each (λ x. value_of held x.number ≡ some x.before) xs
    → Each (λ c. w.cells c.number ≡ c.before) (changes_of xs)
agree held cells w cell has [] e = tt
agree held cells w cell has (x ∷ xs) e = (cell x.number x.before (has x.number x.before e.0), agree held cells w cell has xs e.1)

unkept : (held : List (ℕ × Cell)) (x : Actor) (y : ActorValue) → y ≡ actor_of x → ((k : ℕ) → Needs x k → value_of held k ≡ none) → (xs : List Exchange) → Each (λ x. value_of held x.number ≡ some x.before) xs
    → Each (λ c. ¬ MustKeep y c.number) (changes_of xs)
unkept held x y e off [] h = tt
unkept held x y e off (z ∷ xs) h = ((λ k. some-ne-none z.before (sym h.0 ∙ off z.number (subst (λ (v : ActorValue). MustKeep v z.number) e k))), unkept held x y e off xs h.1)

alone-as : (x y : ActorValue) → y ≡ x → (xs : List Exchange) → Each (λ e. ¬ MustKeep x e.number) xs → Each (λ c. ¬ MustKeep y c.number) (changes_of xs)
alone-as x y e [] h = tt
alone-as x y e (z ∷ xs) h = ((λ k. h.0 (subst (λ (v : ActorValue). MustKeep v z.number) e k)), alone-as x y e xs h.1)

fresh-keeps : (s : Setting) (a y : ℕ) (x : ActorValue) → IsFresh s a x → MustKeep x y → ⊥
fresh-keeps s a y x fresh k = subst (λ (e : Option ErrandValue). IsCarried (way_of e) y) fresh.errand k

none-keeps : (s : Setting) (a : ℕ) (x : ActorValue) → IsFresh s a x → (xs : List Exchange) → Each (λ c. ¬ MustKeep x c.number) (changes_of xs)
none-keeps s a x fresh [] = tt
none-keeps s a x fresh (z ∷ xs) = ((λ k. fresh-keeps s a z.number x fresh k), none-keeps s a x fresh xs)

-- each other actor of a valid state, one of the seat's or not, leaves these cells
pub others-free : (held : List (ℕ × Cell)) (mine : List (ℕ × Actor)) (actors : List Actor) (w : World) (i : ℕ) (xs : List Exchange)
    → ((j : ℕ) (x : Actor) → get_elem? actors j ≡ some x → w.actors j ≡ actor_of x) → ((j : ℕ) → get_elem? actors j ≡ none → IsFresh (w.actors j).setting j (w.actors j))
    → ((j : ℕ) (x : Actor) → value_of mine j ≡ some x → get_elem? actors j ≡ some x)
    → ((j : ℕ) (x : Actor) (k : ℕ) → get_elem? actors j ≡ some x → value_of mine j ≡ none → Needs x k → value_of held k ≡ none)
    → ((j : ℕ) (x : Actor) → j ≢ i → value_of mine j ≡ some x → Each (λ e. ¬ MustKeep (actor_of x) e.number) xs)
    → Each (λ x. value_of held x.number ≡ some x.before) xs
    → (j : ℕ) → j ≢ i → Each (λ c. ¬ MustKeep (w.actors j) c.number) (changes_of xs)
others-free held mine actors w i xs is none-is own apart alone before j ne = elim (some_or_none (get_elem? actors j)) [
  | inl t ↦ (
      let e = is j t.0 t.1 in elim (some_or_none (value_of mine j)) [
        | inl u ↦ (let xy : some t.0 ≡ some u.0 = sym t.1 ∙ own j u.0 u.1 in alone-as (actor_of u.0) (w.actors j) (e ∙ ap actor_of (some-injective t.0 u.0 xy)) xs (alone j u.0 ne u.1))
        | inr n ↦ unkept held t.0 (w.actors j) e (λ k m. apart j t.0 k t.1 n m) xs before
      ])
  | inr n ↦ none-keeps (w.actors j).setting j (w.actors j) (none-is j n) xs
]

-- who is idle needs no cell
pub rests-free : (a : Actor) (k : ℕ) → Rests a → Needs a k → ⊥
rests-free a k rests needs = subst (λ (e : Option ErrandValue). IsCarried (way_of e) k) rests.errand needs

-- what a kind keeps is the invariant
inv-kept : (s : Setting) (kind : Kind) (n : ℕ) (w : World) (inv : Inv s w) (to : World) → IsKept s kind n w to inv.ghost_of → Inv s to
inv-kept s kind n w inv to kept = record { ghost_of = kept.ghost_now; holds = kept.holds; reached = reached-on s kind n w to inv.reached kept.step }

-- and what open commands had pulled alone stays so
pulling-kept : (s : Setting) (kind : Kind) (n : ℕ) (w : World) (inv : Inv s w) (to : World) → IsKept s kind n w to inv.ghost_of → IsPulling s w → IsPulling s to
pulling-kept s kind n w inv to kept has = pulling-law s kind n w to inv.ghost_of kept.ghost_now inv.holds kept.holds kept.step has

-- and the parts of queries stay counted, where the actor has counted its own
module _ (s : Setting) (kind : Kind) (i : ℕ) (w : World) (inv : Inv s w) (changes : List Change) (actors : List Actor) (a b : Actor) (here : get_elem? actors i ≡ some a) (me : w.actors i ≡ actor_of a) where
  abbrev later : World
  later = after w changes i (actor_of b)

  own-count : b.went ≡ went_after (actor_of a) (actor_of b) a.went → went_at (slice_set actors i b) i ≡ went_after (w.actors i) (later.actors i) (went_at actors i)
  own-count e =
      let set_at : get_elem? (slice_set actors i b) i ≡ some b = set_here actors i b (below_length actors i a here) in
      let is_b : later.actors i ≡ actor_of b = rw (eq-eqb i i refl) refl in
      ap went_of set_at ∙ e ∙ sym (λ k. went_after (me k) (is_b k) (went_of (here k)))

  other-counts : (j : ℕ) → j ≢ i → went_at (slice_set actors i b) j ≡ went_at actors j
  other-counts j ne = ap went_of (set_else actors i j b ne)

  counting-kept : IsKept s kind i w later inv.ghost_of → b.went ≡ went_after (actor_of a) (actor_of b) a.went → IsCounting s w (went_at actors) → IsCounting s later (went_at (slice_set actors i b))
  counting-kept kept e has =
      counting-law s kind i w later inv.ghost_of kept.ghost_now inv.holds kept.holds kept.step (went_at actors) (went_at (slice_set actors i b)) (own-count e) other-counts has

-- what is kept of the history in a state is kept of the one that a ledger has
longer : (newer before after was now : List Event) → after ≡ newer ++ before → before ≡ was → after ≡ now → Extends now was
longer newer before after was now grows was_is now_is = (newer, sym now_is ∙ grows ∙ ap (λ (l : List Event). newer ++ l) was_is)

-- The law.

pub lawful : TurnLaw
lawful cells actors s new i a b valid cell_count actor_count has own knows apart same distinct mine g =
    let w = valid.world in
    let is = is-world cells actors w valid.is in
    let here : get_elem? actors i ≡ some a = own i a mine in
    let me : w.actors i ≡ actor_of a = is.actor i a here in
    let about : valid.setting.hierarchy ≡ g.h = ap (λ (st : Setting). st.hierarchy) (sym (valid.inv.holds.numbering.about i)) ∙ ap (λ (z : ActorValue). z.setting.hierarchy) me ∙ g.about in
    let agrees : Agrees w (changes_of g.exchanges) i (actor_of a) = record {
      cells = agree s.held cells w is.cell has g.exchanges g.before;
      actor_is = me;
      free = others-free s.held s.mine actors w i g.exchanges is.actor is.no_actor own apart g.alone g.before;
    } in
    let seen : IsSeen s w = record {
      mine = λ j x f. is.actor j x (own j x f);
      others = λ j le. is.no_actor j (past actors j (omega (arith, actor_count)));
      known = λ all k c f. is.cell k c (knows all k c f);
      beyond = λ k le. is.no_cell k (past cells k (omega (arith, cell_count)));
    } in
    let to = after w (changes_of g.exchanges) i (actor_of b) in
    let kept : IsKept valid.setting g.kind i w to valid.inv.ghost_of =
    g.makes.keeps valid.setting w i valid.inv.ghost_of about valid.inv.holds agrees (g.sight valid.setting w about valid.inv seen) in
    let within : (y : ℕ) (d : Cell) → value_of new y ≡ some d → y < length cells = λ y d f. let o = same.0 y d f in below_length cells y o.0 (has y o.0 o.1) in
    let written : IsWorld (write_all cells new) (slice_set actors i b) to = world-written cells actors w g.exchanges new i a b is g.now within here in (
      record {
        setting = valid.setting;
        world = to;
        is = world-of (write_all cells new) (slice_set actors i b) to written;
        inv = inv-kept valid.setting g.kind i w valid.inv to kept;
        pulling = pulling-kept valid.setting g.kind i w valid.inv to kept valid.pulling;
        counting = counting-kept valid.setting g.kind i w valid.inv (changes_of g.exchanges) actors a b here me kept g.went valid.counting;
        wide = length_write_all cells new ∙ valid.wide;
        many = length-set actors i b ∙ valid.many;
      },
      λ d e hd he. longer kept.newer (history_in w) (history_in to) (history_of d) (history_of e) kept.grows
          (ap (λ (c : CellValue). (ledger_in c).history) (is.cell ledger_cell d hd))
          (ap (λ (c : CellValue). (ledger_in c).history) (written.cell ledger_cell e he)),
    )
