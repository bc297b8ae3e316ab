-- An actor's command ends, and its job with it where it has one: what the parts keep that read jobs.
use Rattle.std.proofs.{Common.{◌≡◌, ◌≢◌, ℕ, List, [], Bool, eqb, Option, Some, None, sym, ap, ◌∙◌, subst}, lemmas.Bool.{eqb-true, eqb-false}}
use Rattle.cell_stock.specs.{Stock.StockValue, declared.purse.Spare.Spare}
use Rattle.dc_node.specs.declared.block.Block.{Block}
use Rattle.row_ledger.specs.declared.event.Event.{Event}
use Rattle.volap_cell.specs.shard_store.specs.{declared.gate.Gate.Gate, declared.gate.Phase.Phase, declared.queue.Queue.Queue}
use Rattle.volap_cell.specs.tree_shape.specs.Shape.{Shape}
use Rattle.list_words.proofs.Truth.{on_bool}
use Rattle.volap_cell.specs.{Cells.Tag, Errands.{ReadPart, Taken}, Ghost.Owner, Numbering.Numbering, Setting.Setting, Stocking.{Stamping, Stocking, items_of_job, spent_of}, Values.JobValue, Working.{Balancing, IsBalancing, Working}, declared.command.Command.Command, declared.role.Role.Role, declared.role.Role.TheVariants.Admin}
use Rattle.volap_cell.proofs.Views.Fields.{IsNewAt}
use Rattle.core_image.proofs.{Commands.Jobs.{stamping-alike, stocking-alike}, EachStep.Clears.{others-keep, still-has}}

module _ (n : ℕ) (its : Command) (commands commands_now : ℕ → Option Command) (end : IsNewAt commands_now commands n (Some its) None) (job : Option JobValue) (jobs jobs_now : ℕ → Option JobValue) (gone : IsNewAt jobs_now jobs n job None) where
  -- who has a job had it, and is another one
  pub had-it : (a : ℕ) (j : JobValue) → jobs_now a ≡ Some j → (a ≢ n) × (jobs a ≡ Some j)
  had-it a j is =
      let ne : a ≢ n = (λ e. let never : ◌≡◌ {A = Option JobValue} None (Some j) = sym gone.is_there ∙ ap jobs_now (sym e) ∙ is in absurd (cc)) in
      (ne, sym (gone.elsewhere a ne) ∙ is)

  pub jobless-numbering : (s : Setting) (tags : ℕ → Tag) (numbers : ℕ → ℕ) (roles : ℕ → Role) (settings : ℕ → Setting) (counted_in : ℕ → Bool) (purses : ℕ → List Spare) (taken : ℕ → Option Taken) → (roles n ≡ Admin → purses n ≡ [])
      → Numbering s tags numbers roles settings counted_in purses commands taken jobs → Numbering s tags numbers roles settings counted_in purses commands_now taken jobs_now
  jobless-numbering s tags numbers roles settings counted_in purses taken empty i = record {
    setting = i.setting;
    tag = i.tag;
    number = i.number;
    role = i.role;
    about = i.about;
    beyond = i.beyond;
    nobody = λ a le. let (counted, purse, none, takes, jobless) = i.nobody a le in (
      counted,
      purse,
      on_bool (eqb a n) (λ q. ap commands_now (eqb-true a n q) ∙ end.is_there) (λ q. end.elsewhere a (eqb-false a n q) ∙ none),
      takes,
      on_bool (eqb a n) (λ q. ap jobs_now (eqb-true a n q) ∙ gone.is_there) (λ q. gone.elsewhere a (eqb-false a n q) ∙ jobless),
    );
    working = λ a j is. i.working a j (had-it a j is).1;
    parts = i.parts;
    idle = λ a role none. on_bool (eqb a n)
        (λ q. let e = eqb-true a n q in ap purses e ∙ empty (ap roles (sym e) ∙ role))
        (λ q. i.idle a role (sym (gone.elsewhere a (eqb-false a n q)) ∙ none));
  }

  -- nothing was spent for the job, and nothing noted

  spent-gone : spent_of job ≡ [] → (a : ℕ) → spent_of (jobs_now a) ≡ spent_of (jobs a)
  spent-gone nothing a = on_bool (eqb a n)
      (λ q. let e = eqb-true a n q in ap (λ (x : ℕ). spent_of (jobs_now x)) e ∙ ap spent_of gone.is_there ∙ sym (ap (λ (x : ℕ). spent_of (jobs x)) e ∙ ap spent_of gone.was_there ∙ nothing))
      (λ q. ap spent_of (gone.elsewhere a (eqb-false a n q)))

  items-gone : items_of_job job ≡ [] → (a : ℕ) → items_of_job (jobs_now a) ≡ items_of_job (jobs a)
  items-gone nothing a = on_bool (eqb a n)
      (λ q. let e = eqb-true a n q in ap (λ (x : ℕ). items_of_job (jobs_now x)) e ∙ ap items_of_job gone.is_there ∙ sym (ap (λ (x : ℕ). items_of_job (jobs x)) e ∙ ap items_of_job gone.was_there ∙ nothing))
      (λ q. ap items_of_job (gone.elsewhere a (eqb-false a n q)))

  pub jobless-stocking : spent_of job ≡ [] → (s : Setting) (purses : ℕ → List Spare) (stock : StockValue) (made : ℕ → Bool) (gates : ℕ → Option ℕ) (phases : ℕ → Option Phase) (pins : ℕ → ℕ) (cells : ℕ → List ℕ) (owner : ℕ → Owner) (shape : ℕ → Shape)
      → Stocking s stock made gates phases pins cells purses jobs owner shape → Stocking s stock made gates phases pins cells purses jobs_now owner shape
  jobless-stocking nothing s purses = stocking-alike s jobs jobs_now purses (spent-gone nothing)

  pub jobless-stamping : spent_of job ≡ [] → items_of_job job ≡ [] → (purses : ℕ → List Spare) (stock : StockValue) (blocks : ℕ → Block) (made : ℕ → Bool) (trees : ℕ → Gate) (gates : ℕ → Option ℕ) (phases : ℕ → Option Phase) (pins : ℕ → ℕ) (reads : ℕ → Option ReadPart) (shape : ℕ → Shape)
      → Stamping stock blocks made trees gates phases pins purses reads jobs shape → Stamping stock blocks made trees gates phases pins purses reads jobs_now shape
  jobless-stamping nothing none purses = stamping-alike jobs jobs_now purses (spent-gone nothing) (items-gone none)

  -- other jobs, and other balances

  pub jobless-working : (s : Setting) (h : List Event) (blocks : ℕ → Block) (made : ℕ → Bool) (trees : ℕ → Gate) (phases : ℕ → Option Phase) (active : ℕ → ℕ) (queues : ℕ → Queue) (purses : ℕ → List Spare) (gate : ℕ → ℕ) (shape : ℕ → Shape) (placed : ℕ → Bool)
      → Working s h blocks made trees phases active queues purses commands jobs gate shape placed → Working s h blocks made trees phases active queues purses commands_now jobs_now gate shape placed
  jobless-working s h blocks made trees phases active queues purses gate shape placed i = record {
    command = λ a j is. let was = had-it a j is in let old = i.command a j was.1 in (old.0, others-keep n its commands commands_now end a old.0 was.0 old.1, old.2);
    front = λ a j is. i.front a j (had-it a j is).1;
    to = λ a worker j is. i.to a worker j (had-it a j is).1;
    unspent = λ a j is. i.unspent a j (had-it a j is).1;
    declined = λ a j c why is has. i.declined a j c why (had-it a j is).1 (still-has n its commands commands_now end a c has).1;
    frozen = λ a j f is. i.frozen a j f (had-it a j is).1;
    collected = λ a j k is. i.collected a j k (had-it a j is).1;
    building = λ a j b is. i.building a j b (had-it a j is).1;
  }

  pub jobless-balancing : (s : Setting) (h : List Event) (placed : ℕ → Bool) (home : ℕ → ℕ) → Balancing s h commands jobs placed home → Balancing s h commands_now jobs_now placed home
  jobless-balancing s h placed home i = record {
    balance = λ a of b is.
        let was = still-has n its commands commands_now end a _ is in
        subst (λ (j : Option JobValue). IsBalancing s h placed home j of b) (sym (gone.elsewhere a was.0)) (i.balance a of b was.1);
  }
