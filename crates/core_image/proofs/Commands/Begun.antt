-- An actor that has no command gets one, which stands on no desk: what the parts keep that read commands.
use Rattle.std.proofs.{Common.{◌≡◌, ◌≢◌, ℕ, ◌<◌, List, Bool, false, eqb, Option, Some, None, sym, ap, ◌∙◌, ◌⊎◌, inl, inr, arith}, lemmas.Bool.{false≢true, eqb-true, eqb-false}}
use Rattle.cell_stock.specs.declared.purse.Spare.{Spare}
use Rattle.dc_node.specs.declared.block.Block.{Block}
use Rattle.dim_hierarchy.specs.declared.row.Row.{Row}
use Rattle.query_router.specs.Desk.{DeskValue}
use Rattle.row_ledger.specs.declared.event.Event.{Event}
use Rattle.server_image.specs.Image.{ImageValue}
use Rattle.volap_cell.specs.shard_store.specs.{declared.gate.Gate.Gate, declared.gate.Phase.Phase, declared.queue.Queue.Queue}
use Rattle.volap_cell.specs.tree_shape.specs.Shape.{Shape}
use Rattle.list_words.proofs.Truth.{on_bool}
use Rattle.volap_cell.specs.{Cells.Tag, Desking.{Desking, is_on_desk}, Errands.{RowWay, Taken}, ImageKinds.doing, Numbering.Numbering, Placing.{Inserting, NobodyAt, Placing}, Setting.{Setting, actor_count}, Values.JobValue, Working.{Balancing, Working}, declared.command.Balance.Balance, declared.command.Command.Command, declared.role.Role.Role}
use Rattle.volap_cell.specs.declared.command.Work.TheVariants as work_is
use Rattle.volap_cell.proofs.Views.Fields.{IsNewAt}

module _ (n : ℕ) (its : Command) (commands commands_now : ℕ → Option Command) (begin : IsNewAt commands_now commands n None (Some its)) where
  -- who had a command has it still
  pub has-still : (a : ℕ) (c : Command) → commands a ≡ Some c → commands_now a ≡ Some c
  has-still a c is =
      let ne : a ≢ n = (λ e. let never : ◌≡◌ {A = Option Command} None (Some c) = sym begin.was_there ∙ ap commands (sym e) ∙ is in absurd (cc)) in
      begin.elsewhere a ne ∙ is

  -- who has one had it, or is this actor
  pub had-or-its : (a : ℕ) (c : Command) → commands_now a ≡ Some c → (commands a ≡ Some c) ⊎ ((a ≡ n) × (c ≡ its))
  had-or-its a c is = on_bool (eqb a n)
      (λ q. let e = eqb-true a n q in let same : ◌≡◌ {A = Option Command} (Some its) (Some c) = sym begin.is_there ∙ ap commands_now (sym e) ∙ is in inr (e, cc))
      (λ q. inl (sym (begin.elsewhere a (eqb-false a n q)) ∙ is))

  pub begun-numbering : (s : Setting) (tags : ℕ → Tag) (numbers : ℕ → ℕ) (roles : ℕ → Role) (settings : ℕ → Setting) (counted_in : ℕ → Bool) (purses : ℕ → List Spare) (taken : ℕ → Option Taken) (jobs : ℕ → Option JobValue)
      → n < actor_count s → Numbering s tags numbers roles settings counted_in purses commands taken jobs → Numbering s tags numbers roles settings counted_in purses commands_now taken jobs
  begun-numbering s tags numbers roles settings counted_in purses taken jobs there i = record {
    setting = i.setting;
    tag = i.tag;
    number = i.number;
    role = i.role;
    about = i.about;
    beyond = i.beyond;
    nobody = λ a le. let (counted, purse, none, takes, job) = i.nobody a le in
        let ne : a ≢ n = (λ e. absurd (omega (arith, there, le, e))) in
        (counted, purse, begin.elsewhere a ne ∙ none, takes, job);
    working = i.working;
    parts = i.parts;
    idle = i.idle;
  }

  pub begun-placing : (s : Setting) (h : List Event) (ways : ℕ → Option RowWay) (queues : ℕ → Queue) (gate : ℕ → ℕ) (shape : ℕ → Shape) (placed : ℕ → Bool) (home : ℕ → ℕ) (path : ℕ → List ℕ)
      → Placing s h commands ways queues gate shape placed home path → Placing s h commands_now ways queues gate shape placed home path
  begun-placing s h ways queues gate shape placed home path i = record {
    one = i.one;
    stands = i.stands;
    begun = i.begun;
    line = i.line;
    acked_rows = i.acked_rows;
    others = λ r p. elim (i.others r p) [ inl k ↦ inl k | inr t ↦ inr (t.0, t.1, has-still t.0 _ t.2) ];
  }

  -- an insert that begins has passed no gate, and nobody is at it
  pub begun-inserting : (s : Setting) (h : List Event) (images : ℕ → ImageValue) (desks : ℕ → DeskValue) (ways : ℕ → Option RowWay) (placed : ℕ → Bool) (path : ℕ → List ℕ)
      → ((r : ℕ) (row : Row) → Some its ≡ doing r (work_is.Insert row false) → (placed r ≡ false) × NobodyAt ways r)
      → Inserting s h images desks commands ways placed path → Inserting s h images desks commands_now ways placed path
  begun-inserting s h images desks ways placed path out i = record {
    unrouted = λ a r row is. elim (had-or-its a _ is) [ inl was ↦ i.unrouted a r row was | inr t ↦ out r row (ap Some (sym t.1)) ];
    parts = i.parts;
    on_way = i.on_way;
  }

  pub begun-desking : (s : Setting) (h : List Event) (desks : ℕ → DeskValue) (roles : ℕ → Role) (taken : ℕ → Option Taken)
      → is_on_desk its.work ≡ false → Desking s h desks roles commands taken → Desking s h desks roles commands_now taken
  begun-desking s h desks roles taken off i = record {
    empty = i.empty;
    whose = λ x of within op. let (a, c, has, is, serves, on) = i.whose x of within op in (a, c, has-still a c has, is, serves, on);
    on_desk = λ a x c has serves on. elim (had-or-its a c has) [
      | inl was ↦ i.on_desk a x c was serves on
      | inr t ↦ absurd (false≢true (sym off ∙ ap (λ (k : Command). is_on_desk k.work) (sym t.1) ∙ on))
    ];
    insert = i.insert;
    query = i.query;
    takers = i.takers;
    at_parts = i.at_parts;
    one = i.one;
  }

  -- no job begins with it
  pub begun-working : (s : Setting) (h : List Event) (blocks : ℕ → Block) (made : ℕ → Bool) (trees : ℕ → Gate) (phases : ℕ → Option Phase) (active : ℕ → ℕ) (queues : ℕ → Queue) (purses : ℕ → List Spare) (jobs : ℕ → Option JobValue) (gate : ℕ → ℕ) (shape : ℕ → Shape) (placed : ℕ → Bool)
      → jobs n ≡ None → Working s h blocks made trees phases active queues purses commands jobs gate shape placed → Working s h blocks made trees phases active queues purses commands_now jobs gate shape placed
  begun-working s h blocks made trees phases active queues purses jobs gate shape placed jobless i = record {
    command = λ a j is. let old = i.command a j is in (old.0, has-still a old.0 old.1, old.2);
    front = i.front;
    to = i.to;
    unspent = i.unspent;
    declined = λ a j c why is has stage. elim (had-or-its a c has) [
      | inl was ↦ i.declined a j c why is was stage
      | inr t ↦ (let never : ◌≡◌ {A = Option JobValue} None (Some j) = sym jobless ∙ ap jobs (sym t.0) ∙ is in absurd (cc))
    ];
    frozen = i.frozen;
    collected = i.collected;
    building = i.building;
  }

  pub begun-balancing : (s : Setting) (h : List Event) (jobs : ℕ → Option JobValue) (placed : ℕ → Bool) (home : ℕ → ℕ) → ((b : Balance) → its.work ≡ work_is.Balance b → ⊥)
      → Balancing s h commands jobs placed home → Balancing s h commands_now jobs placed home
  begun-balancing s h jobs placed home none i = record {
    balance = λ a of b is. elim (had-or-its a _ is) [
      | inl was ↦ i.balance a of b was
      | inr t ↦ absurd (none b (ap (λ (k : Command). k.work) (sym t.1)))
    ];
  }
