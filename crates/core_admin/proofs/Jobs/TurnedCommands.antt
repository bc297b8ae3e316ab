-- An actor's command goes on or ends; before and afterwards it is no insert, and stands on no desk. What the parts keep that read commands.
use Rattle.std.proofs.{Common.{◌≡◌, ◌≢◌, ℕ, List, Bool, true, false, Option, Some, refl, sym, ap, ◌∙◌, inl, inr}, lemmas.Bool.{false≢true}}
use Rattle.std.specs.Option.{option_map_or}
use Rattle.query_router.specs.Desk.{DeskValue}
use Rattle.row_ledger.specs.declared.event.Event.{Event}
use Rattle.server_image.specs.Image.{ImageValue}
use Rattle.core_tree.specs.shard_store.specs.declared.queue.Queue.{Queue}
use Rattle.core_tree.specs.tree_shape.specs.Shape.{Shape}
use Rattle.core_tree.specs.volap_cell.specs.{Desking.{Desking, is_on_desk}, Errands.{RowWay, Taken}, Owing.is_insert_work, Placing.{Inserting, Placing}, Setting.Setting, declared.command.Command.Command, declared.command.Work.Work, declared.role.Role.Role}
use Rattle.core_tree.specs.volap_cell.proofs.Views.Fields.{IsNewAt}

-- no insert, and on no desk
pub record IsOffDesk (work : Work) : Type 0 where
  pub no_insert : is_insert_work work ≡ false
  pub off : is_on_desk work ≡ false

module _ (n : ℕ) (its : Command) (new : Option Command) (commands commands_now : ℕ → Option Command) (turn : IsNewAt commands_now commands n (Some its) new) (plain : IsOffDesk its.work) (plain_now : (c : Command) → new ≡ Some c → IsOffDesk c.work) where
  -- the actor is another one, where an insert or a desk is spoken of

  was-other : (f : Work → Bool) → f its.work ≡ false → (a : ℕ) (c : Command) → commands a ≡ Some c → f c.work ≡ true → a ≢ n
  was-other f off a c has on e =
      let same : f c.work ≡ f its.work = ap (λ (o : Option Command). option_map_or (λ (k : Command). f k.work) o false) (sym has ∙ ap commands e ∙ turn.was_there) in
      false≢true (sym off ∙ sym same ∙ on)

  is-other : (f : Work → Bool) → ((c : Command) → new ≡ Some c → f c.work ≡ false) → (a : ℕ) (c : Command) → commands_now a ≡ Some c → f c.work ≡ true → a ≢ n
  is-other f off a c has on e = false≢true (sym (off c (sym turn.is_there ∙ ap commands_now (sym e) ∙ has)) ∙ on)

  pub turned-placing : (s : Setting) (h : List Event) (ways : ℕ → Option RowWay) (queues : ℕ → Queue) (gate : ℕ → ℕ) (shape : ℕ → Shape) (placed : ℕ → Bool) (home : ℕ → ℕ) (path : ℕ → List ℕ)
      → Placing s h commands ways queues gate shape placed home path → Placing s h commands_now ways queues gate shape placed home path
  turned-placing s h ways queues gate shape placed home path i = record {
    one = i.one;
    stands = i.stands;
    begun = i.begun;
    line = i.line;
    acked_rows = i.acked_rows;
    others = λ r p. elim (i.others r p) [
      | inl k ↦ inl k
      | inr t ↦ inr (t.0, t.1, turn.elsewhere t.0 (was-other is_insert_work plain.no_insert t.0 _ t.2 refl) ∙ t.2)
    ];
  }

  pub turned-inserting : (s : Setting) (h : List Event) (images : ℕ → ImageValue) (desks : ℕ → DeskValue) (ways : ℕ → Option RowWay) (placed : ℕ → Bool) (path : ℕ → List ℕ)
      → Inserting s h images desks commands ways placed path → Inserting s h images desks commands_now ways placed path
  turned-inserting s h images desks ways placed path i = record {
    unrouted = λ a r row is. i.unrouted a r row (sym (turn.elsewhere a (is-other is_insert_work (λ c e. (plain_now c e).no_insert) a _ is refl)) ∙ is);
    parts = i.parts;
    on_way = i.on_way;
  }

  pub turned-desking : (s : Setting) (h : List Event) (desks : ℕ → DeskValue) (roles : ℕ → Role) (taken : ℕ → Option Taken)
      → Desking s h desks roles commands taken → Desking s h desks roles commands_now taken
  turned-desking s h desks roles taken i = record {
    empty = i.empty;
    whose = λ x of within op.
        let (a, c, has, is, serves, on) = i.whose x of within op in
        (a, c, turn.elsewhere a (was-other is_on_desk plain.off a c has on) ∙ has, is, serves, on);
    on_desk = λ a x c has serves on. i.on_desk a x c (sym (turn.elsewhere a (is-other is_on_desk (λ c e. (plain_now c e).off) a c has on)) ∙ has) serves on;
    insert = i.insert;
    query = i.query;
    takers = i.takers;
    at_parts = i.at_parts;
    one = i.one;
  }
