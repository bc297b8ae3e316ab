-- An actor's command begins or goes on: what the parts keep that read commands and no event.
use Rattle.std.proofs.{Common.{◌≡◌, ◌≢◌, ℕ, ◌<◌, List, Bool, true, false, Option, Some, sym, ap, ◌∙◌, arith, inl, inr}, lemmas.Bool.{false≢true}}
use Rattle.dim_hierarchy.specs.declared.row.Row.{Row}
use Rattle.dc_node.specs.declared.block.Block.{Block}
use Rattle.cell_stock.specs.declared.purse.Spare.{Spare}
use Rattle.row_ledger.specs.declared.event.Event.{Event}
use Rattle.volap_cell.specs.shard_store.specs.{declared.gate.Gate.Gate, declared.gate.Phase.Phase, declared.queue.Queue.Queue}
use Rattle.volap_cell.specs.tree_shape.specs.Shape.{Shape}
use Rattle.volap_cell.specs.{Cells.Tag, Desking.{Desking, is_on_desk}, Errands.{RowWay, Taken}, ImageKinds.doing, Numbering.Numbering, Placing.{Inserting, IsRouted, Placing}, Setting.{Setting, actor_count}, Values.JobValue, Working.{Balancing, Working}, declared.command.Balance.Balance, declared.command.Command.Command, declared.role.Role.Role}
use Rattle.query_router.specs.Desk.{DeskValue}
use Rattle.server_image.specs.Image.{ImageValue}
use Rattle.volap_cell.specs.declared.command.Work.TheVariants as work_is
use Rattle.volap_cell.proofs.Views.Fields.{IsNewAt}

-- rows whose inserts were routed stay so, where the inserts that are routed stay
pub placing-routed : (s : Setting) (h : List Event) (commands commands_now : ℕ → Option Command) (ways : ℕ → Option RowWay) (queues : ℕ → Queue) (gate : ℕ → ℕ) (shape : ℕ → Shape) (placed : ℕ → Bool) (home : ℕ → ℕ) (path : ℕ → List ℕ)
    → ((r : ℕ) → IsRouted commands r → IsRouted commands_now r) → Placing s h commands ways queues gate shape placed home path → Placing s h commands_now ways queues gate shape placed home path
placing-routed s h commands commands_now ways queues gate shape placed home path stay i = record {
  one = i.one;
  stands = i.stands;
  begun = i.begun;
  line = i.line;
  acked_rows = i.acked_rows;
  others = λ r p. elim (i.others r p) [ inl acked ↦ inl acked | inr routed ↦ inr (stay r routed) ];
}

module _ (n : ℕ) (old : Option Command) (its : Command) (commands commands_now : ℕ → Option Command) (new : IsNewAt commands_now commands n old (Some its)) where
  -- who has a command and is another one had it before
  pub other-had : (a : ℕ) (c : Command) → a ≢ n → commands_now a ≡ Some c → commands a ≡ Some c
  other-had a c ne is = sym (new.elsewhere a ne) ∙ is

  -- and keeps it
  pub other-keeps : (a : ℕ) (c : Command) → a ≢ n → commands a ≡ Some c → commands_now a ≡ Some c
  other-keeps a c ne is = new.elsewhere a ne ∙ is

  -- the actor has this one
  pub its-own : (c : Command) → commands_now n ≡ Some c → its ≡ c
  its-own c is = let both : ◌≡◌ {A = Option Command} (Some its) (Some c) = sym new.is_there ∙ is in cc

  -- the actor's insert wasn't routed
  pub others-routed : ((r : ℕ) (row : Row) → old ≡ doing r (work_is.Insert row true) → ⊥) → (r : ℕ) → IsRouted commands r → IsRouted commands_now r
  others-routed none r routed =
      let ne : routed.0 ≢ n = (λ e. none r routed.1 (sym new.was_there ∙ ap commands (sym e) ∙ routed.2)) in
      (routed.0, routed.1, new.elsewhere routed.0 ne ∙ routed.2)

  pub going-numbering : (s : Setting) (tags : ℕ → Tag) (numbers : ℕ → ℕ) (roles : ℕ → Role) (settings : ℕ → Setting) (counted_in : ℕ → Bool) (purses : ℕ → List Spare) (taken : ℕ → Option Taken) (jobs : ℕ → Option JobValue) → n < actor_count s
      → Numbering s tags numbers roles settings counted_in purses commands taken jobs → Numbering s tags numbers roles settings counted_in purses commands_now taken jobs
  going-numbering s tags numbers roles settings counted_in purses taken jobs few i = record {
    setting = i.setting;
    tag = i.tag;
    number = i.number;
    role = i.role;
    about = i.about;
    beyond = i.beyond;
    nobody = λ a le. let (counted, purse, none, takes, job) = i.nobody a le in
        (counted, purse, new.elsewhere a (λ e. absurd (omega arith)) ∙ none, takes, job);
    working = i.working;
    parts = i.parts;
    idle = i.idle;
  }

  pub going-working : (s : Setting) (h : List Event) (blocks : ℕ → Block) (made : ℕ → Bool) (trees : ℕ → Gate) (phases : ℕ → Option Phase) (active : ℕ → ℕ) (queues : ℕ → Queue) (purses : ℕ → List Spare) (jobs : ℕ → Option JobValue) (gate : ℕ → ℕ) (shape : ℕ → Shape) (placed : ℕ → Bool)
      → ((j : JobValue) → jobs n ≡ Some j → ⊥)
      → Working s h blocks made trees phases active queues purses commands jobs gate shape placed → Working s h blocks made trees phases active queues purses commands_now jobs gate shape placed
  going-working s h blocks made trees phases active queues purses jobs gate shape placed jobless i =
      let other : (a : ℕ) (j : JobValue) → jobs a ≡ Some j → a ≢ n = λ a j is e. jobless j (ap jobs (sym e) ∙ is) in
      record {
        command = λ a j is. let old_ = i.command a j is in (old_.0, other-keeps a old_.0 (other a j is) old_.1, old_.2);
        front = i.front;
        to = i.to;
        unspent = i.unspent;
        declined = λ a j c why is has stage. i.declined a j c why is (other-had a c (other a j is) has) stage;
        frozen = i.frozen;
        collected = i.collected;
        building = i.building;
      }

  pub going-balancing : (s : Setting) (h : List Event) (jobs : ℕ → Option JobValue) (placed : ℕ → Bool) (home : ℕ → ℕ) → ((b : Balance) → its.work ≡ work_is.Balance b → ⊥)
      → Balancing s h commands jobs placed home → Balancing s h commands_now jobs placed home
  going-balancing s h jobs placed home none i = record {
    balance = λ a of b is. i.balance a of b (other-had a _ (λ e. none b (ap (λ (c : Command). c.work) (its-own (record { of = of; work = work_is.Balance b }) (ap commands_now (sym e) ∙ is)))) is);
  }

  -- neither command stands on a desk

  pub going-desking : (s : Setting) (h : List Event) (desks : ℕ → DeskValue) (roles : ℕ → Role) (taken : ℕ → Option Taken) → ((c : Command) → old ≡ Some c → is_on_desk c.work ≡ false) → is_on_desk its.work ≡ false
      → Desking s h desks roles commands taken → Desking s h desks roles commands_now taken
  going-desking s h desks roles taken off off_now i = record {
    empty = i.empty;
    whose = λ x of within op.
        let (a, c, has, is, serves, stood) = i.whose x of within op in
        let other : a ≢ n = (λ e. false≢true (sym (off c (sym new.was_there ∙ ap commands (sym e) ∙ has)) ∙ stood)) in
        (a, c, other-keeps a c other has, is, serves, stood);
    on_desk = λ a x c has serves stood.
        let other : a ≢ n = (λ e. false≢true (sym off_now ∙ ap (λ (d : Command). is_on_desk d.work) (its-own c (ap commands_now (sym e) ∙ has)) ∙ stood)) in
        i.on_desk a x c (other-had a c other has) serves stood;
    insert = i.insert;
    query = i.query;
    takers = i.takers;
    at_parts = i.at_parts;
    one = i.one;
  }

  pub going-inserting : (s : Setting) (h : List Event) (images : ℕ → ImageValue) (desks : ℕ → DeskValue) (ways : ℕ → Option RowWay) (placed : ℕ → Bool) (path : ℕ → List ℕ) → ((r : ℕ) (row : Row) → its.work ≡ work_is.Insert row false → ⊥)
      → Inserting s h images desks commands ways placed path → Inserting s h images desks commands_now ways placed path
  going-inserting s h images desks ways placed path none i = record {
    unrouted = λ a r row is. i.unrouted a r row (other-had a _ (λ e. none r row (ap (λ (c : Command). c.work) (its-own (record { of = r; work = work_is.Insert row false }) (ap commands_now (sym e) ∙ is)))) is);
    parts = i.parts;
    on_way = i.on_way;
  }
