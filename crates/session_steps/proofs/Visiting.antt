-- A query that visits the block that it noted last, without waiting: its turn can be taken, the visit is due, and the actor has gone on by it.
use Rattle.std.proofs.Common.{◌≡◌, ◌∙◌, ℕ, ◌≤◌, List, [], ◌∷◌, ◌++◌, Option, Some, None, refl, sym, ap, subst}
use Rattle.std.specs.Prelude.{⊤}
use Rattle.part_steps.specs.core_steps.specs.{Places.one_at, Steps.Went, Trees.tree_places}
use Rattle.part_steps.specs.core_steps.specs.declared.trees.TreeStep.TheVariants.{VisitBlock}
use Rattle.part_steps.specs.core_tree.specs.ReadDue.{room_to_note}
use Rattle.part_steps.specs.link_descent.specs.Visit.{most_noted}
use Rattle.part_steps.specs.{Parts.{IsTreeSure, IsVisiting, MayWaitFor}, Reads.{Anything, HasRoom, noted_by, noted_in, noted_on}}
use Rattle.part_steps.specs.seat_steps.specs.{Floors.{IsSeated, Stands, kept_by}, Made.HasMade, Takes.{IsSameActor, TakesTurn}, declared.floor.{Floor.Floor, Player.Player}}
use Rattle.session_steps.specs.Visits.{HasVisited}
use Rattle.part_steps.proofs.{PartsMade.{tree-at, tree-first, went-taken, went-tree}, PartsSure.{end-bare, tree-on, visit-ends, visit-sure}}
use Rattle.turn_table.specs.Numbered.{Extends, numbers_of}
use Rattle.part_steps.specs.volap_cell.specs.{Values.{ActorValue, ErrandValue, OfRow, Read, TaskValue, Unread, actor_of}, declared.actor.Actor.Actor}
use Rattle.part_steps.specs.volap_cell.specs.declared.kind.Kind.TheVariants.{BlockVisit}
use Rattle.part_steps.specs.volap_turns.specs.Rows.{AreAt, cells_for}

-- Who has noted a block has read its gate.

reads-in : (a : ActorValue) (e : ErrandValue) (block : ℕ) → a.errand ≡ Some e → (t : TaskValue) → e.task ≡ t → noted_in t ≡ Some block → IsVisiting a (Some block)
reads-in a e block errand (OfRow r) task is = absurd (cc)
reads-in a e block errand (Unread f) task is = absurd (cc)
reads-in a e block errand (Read r) task is = record { e = e; reading = r; errand = errand; task = task; last = sym is }

reads-on : (a : ActorValue) (block : ℕ) (o : Option ErrandValue) → a.errand ≡ o → noted_on o ≡ Some block → IsVisiting a (Some block)
reads-on a block None errand is = absurd (cc)
reads-on a block (Some e) errand is = reads-in a e block errand e.task refl is

pub reads : (a : ActorValue) (block : ℕ) → noted_by a ≡ Some block → IsVisiting a (Some block)
reads a block is = reads-on a block a.errand refl is

-- The turn of the block.

module _ (f : Floor) (p : Player) (stands : Stands f p) (block : ℕ) (visits : IsVisiting (actor_of p.actor) (Some block)) where
  no-ranks : p.seat.ranks ≡ []
  no-ranks = stands.bare ∙ end-bare (visit-ends (Some block) visits)

  pub can-try : MayWaitFor f p block 3
  can-try = tree-first f p stands.seated (VisitBlock block) (visit-sure f p block visits) block 3 [] no-ranks refl

  -- with it the block is held alone, and the visit is due
  module _ (mid : Player) (took : TakesTurn block None p mid) where
    pub still-sure : IsTreeSure f mid (VisitBlock block)
    still-sure = tree-on took (VisitBlock block) (visit-sure f p block visits)

    pub block-at : IsSeated f mid → AreAt (tree_places (VisitBlock block)) mid.seat.view.held
    block-at seated = tree-at f mid seated (VisitBlock block) still-sure (sym (ap (λ (l : List (ℕ × Option ℕ)). numbers_of l) (took.ranks ∙ ap (λ (l : List (ℕ × Option ℕ)). l ++ (block, None) ∷ []) no-ranks)))

    pub room-still : noted_by (actor_of p.actor) ≡ Some block → HasRoom p.actor → most_noted ≤ room_to_note mid.actor
    room-still noted room = subst (λ (x : Actor). most_noted ≤ room_to_note x) (sym took.same.actor) (room block noted)

-- where it is another's, the actor still stands at its seat
pub stands-still : (f : Floor) (was now : Player) → Stands f was → IsSeated f now → IsSameActor was now → now.seat.ranks ≡ was.seat.ranks → Stands f now
stands-still f was now stands seated same ranks = record { seated = seated; bare = ranks ∙ stands.bare ∙ ap (λ (x : Actor). kept_by (actor_of x)) (sym same.actor) }

-- The visit.
pub has-visited : (f : Floor) (was mid now : Player) (block : ℕ) → IsSeated f mid → IsSameActor was mid → Stands f now → Extends now.seat.view.seen mid.seat.view.seen → HasMade f.hierarchy BlockVisit (λ s w n. ⊤) (λ a was now. ⊤) (one_at block) mid now
    → HasVisited f block was now
has-visited f was mid now block seated same stands seen made = record {
  went = went-taken f was mid now same (went-tree f mid seated (VisitBlock block) now tt stands seen made);
  visit = (
      let before = cells_for mid.seat.view.held (one_at block) in
      let after = cells_for made.new (one_at block) in
      record { before = before; after = after; went = subst (λ (x : ActorValue). Went f.hierarchy BlockVisit Anything (one_at block) before after x (actor_of now.actor)) (ap (λ (x : Actor). actor_of x) same.actor) made.went }
      );
}
