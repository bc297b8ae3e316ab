-- An actor that has no command and no job gets a command, and a job with it where that asks for one: what the parts keep that read jobs.
use Rattle.std.proofs.{Common.{◌≡◌, ◌≢◌, ℕ, ◌<◌, ◌++◌, List, [], Bool, true, false, eqb, Option, Some, None, refl, sym, ap, ◌∙◌, subst, ◌⊎◌, inl, inr, arith}, lemmas.Bool.{false≢true, eqb-true, eqb-false}}
use Rattle.cell_stock.specs.{Stock.{StockValue, cells_of}, declared.purse.Spare.Spare}
use Rattle.dc_node.specs.{declared.block.Block.Block, declared.todo.Item.Item}
use Rattle.row_ledger.specs.{Workers.is_on, declared.event.Event.Event, declared.settings.Decline.Decline}
use Rattle.volap_cell.specs.shard_store.specs.{declared.gate.Gate.Gate, declared.gate.Phase.Phase, declared.queue.Queue.Queue}
use Rattle.list_words.specs.Counts.{Each, times}
use Rattle.list_words.proofs.Truth.{on_bool}
use Rattle.volap_cell.specs.tree_shape.specs.{Queries.NoneWaits, Shape.{Shape, nodes}, Steps.{AreApart, AreSpares}}
use Rattle.volap_cell.specs.{Cells.Tag, Errands.{ReadPart, Taken}, Ghost.Owner, Numbering.Numbering, Setting.{Setting, actor_count}, Stocking.{LeavesStamp, Stamping, Stocking, all_items, all_spares, items_of_job, items_of_read, spent_of, cells_at}, Values.{JobValue, StageValue, IsCalled, IsDeclined}, Working.{Balancing, IsBalancing, IsJobOf, Working, frozen_in}, declared.command.Balance.Balance, declared.command.Command.Command, declared.command.Work.Work, declared.role.Role.Role, declared.role.Role.TheVariants.Admin}
use Rattle.volap_cell.specs.declared.command.Work.TheVariants as work_is
use Rattle.volap_cell.proofs.Views.Fields.{IsNewAt}
use Rattle.core_image.proofs.Commands.Begun.{had-or-its, has-still}

-- Jobs for which the same is spent, and the same noted.

module _ (s : Setting) (jobs jobs_now : ℕ → Option JobValue) (purses : ℕ → List Spare) (spent-same : (a : ℕ) → spent_of (jobs_now a) ≡ spent_of (jobs a)) where
  pub stocking-alike : (stock : StockValue) (made : ℕ → Bool) (gates : ℕ → Option ℕ) (phases : ℕ → Option Phase) (pins : ℕ → ℕ) (gone : ℕ → List ℕ) (owner : ℕ → Owner) (shape : ℕ → Shape)
      → Stocking s stock made gates phases pins gone purses jobs owner shape → Stocking s stock made gates phases pins gone purses jobs_now owner shape
  stocking-alike stock made gates phases pins gone owner shape i = record {
    valid = i.valid;
    count = i.count;
    within = i.within;
    every = i.every;
    unused = i.unused;
    purse = i.purse;
    job = λ a y. ap (λ (xs : List Spare). times y (cells_of xs)) (spent-same a) ∙ i.job a y;
    gate = i.gate;
    gate_back = i.gate_back;
    tree = i.tree;
    tree_back = i.tree_back;
    gone_cells = i.gone_cells;
    none_gone = i.none_gone;
  }

module _ (jobs jobs_now : ℕ → Option JobValue) (purses : ℕ → List Spare) (spent-same : (a : ℕ) → spent_of (jobs_now a) ≡ spent_of (jobs a)) (items-same : (a : ℕ) → items_of_job (jobs_now a) ≡ items_of_job (jobs a)) where
  pub stamping-alike : (stock : StockValue) (blocks : ℕ → Block) (made : ℕ → Bool) (trees : ℕ → Gate) (gates : ℕ → Option ℕ) (phases : ℕ → Option Phase) (pins : ℕ → ℕ) (reads : ℕ → Option ReadPart) (shape : ℕ → Shape)
      → Stamping stock blocks made trees gates phases pins purses reads jobs shape → Stamping stock blocks made trees gates phases pins purses reads jobs_now shape
  stamping-alike stock blocks made trees gates phases pins reads shape i =
      let spares : (a : ℕ) → all_spares purses jobs a ≡ all_spares purses jobs_now a = λ a. ap (λ (xs : List Spare). purses a ++ xs) (sym (spent-same a)) in
      let items : (a : ℕ) → all_items reads jobs a ≡ all_items reads jobs_now a = λ a. ap (λ (xs : List Item). items_of_read (reads a) ++ xs) (sym (items-same a)) in
      record {
        blocks_given = i.blocks_given;
        blocks_apart = i.blocks_apart;
        unspared = λ a y is. subst (λ (xs : List Spare). Each (LeavesStamp y (blocks y).stamp) xs) (spares a) (i.unspared a y is);
        given = λ a. subst (λ (xs : List Spare). Each (λ x. x.stamp < stock.stamps) xs) (spares a) (i.given a);
        apart = λ a b ne. subst (λ (xs : List Spare). Each (λ x. Each (AreApart x) (all_spares purses jobs_now b)) xs) (spares a)
            (subst (λ (ys : List Spare). Each (λ x. Each (AreApart x) ys) (all_spares purses jobs a)) (spares b) (i.apart a b ne));
        spare = λ a c whole. subst (λ (xs : List Spare). AreSpares (shape c) (nodes (cells_at blocks trees c)) xs) (spares a) (i.spare a c whole);
        waits = λ a b. subst (λ (xs : List Spare). Each (λ x. NoneWaits x.stamp (all_items reads jobs_now b)) xs) (spares a)
            (subst (λ (ys : List Item). Each (λ x. NoneWaits x.stamp ys) (all_spares purses jobs a)) (items b) (i.waits a b));
        fresh = i.fresh;
        fresh_waits = λ b stamp le. subst (λ (ys : List Item). NoneWaits stamp ys) (items b) (i.fresh_waits b stamp le);
      }

-- a job at its beginning, for the command that asks for it, of an administrator without spares
pub record IsNewJob (s : Setting) (h : List Event) (role : Role) (purse : List Spare) (work : Work) (j : JobValue) : Type 0 where
  pub called : j.stage ≡ IsCalled
  pub admin : role ≡ Admin
  pub spares : purse ≡ []
  pub is_job : IsJobOf work j
  pub front : is_on s.workers h j.shard j.worker ≡ true
  pub to : (worker : ℕ) → j.to ≡ Some worker → worker < s.workers

-- nothing is spent and nothing noted for it

pub spent-new : (job : Option JobValue) → ((j : JobValue) → job ≡ Some j → j.stage ≡ IsCalled) → spent_of job ≡ []
spent-new None called = refl
spent-new (Some j) called = ap (λ (st : StageValue). spent_of (Some (record j { stage = st }))) (called j refl)

pub items-new : (job : Option JobValue) → ((j : JobValue) → job ≡ Some j → j.stage ≡ IsCalled) → items_of_job job ≡ []
items-new None called = refl
items-new (Some j) called = ap (λ (st : StageValue). items_of_job (Some (record j { stage = st }))) (called j refl)

abbrev is_called : StageValue → Bool
is_called IsCalled = true
is_called _ = false

-- a stage at its beginning is no decline
pub not-declined : (why : Decline) → IsCalled ≡ IsDeclined why → ⊥
not-declined why e = false≢true (sym (ap is_called e))

module _ (n : ℕ) (its : Command) (commands commands_now : ℕ → Option Command) (begin : IsNewAt commands_now commands n None (Some its)) (job : Option JobValue) (jobs jobs_now : ℕ → Option JobValue) (new : IsNewAt jobs_now jobs n None job)
    (s : Setting) (h : List Event) (roles : ℕ → Role) (purses : ℕ → List Spare) (fresh : (j : JobValue) → job ≡ Some j → IsNewJob s h (roles n) (purses n) its.work j) where
  -- who has a job had it, or it is the new one
  had-job : (a : ℕ) (j : JobValue) → jobs_now a ≡ Some j → ((a ≢ n) × (jobs a ≡ Some j)) ⊎ ((a ≡ n) × (job ≡ Some j))
  had-job a j is = on_bool (eqb a n)
      (λ q. let e = eqb-true a n q in inr (e, sym new.is_there ∙ ap jobs_now (sym e) ∙ is))
      (λ q. let ne = eqb-false a n q in inl (ne, sym (new.elsewhere a ne) ∙ is))

  called : (j : JobValue) → job ≡ Some j → j.stage ≡ IsCalled
  called j is = (fresh j is).called

  pub begun-jobs : (tags : ℕ → Tag) (numbers : ℕ → ℕ) (settings : ℕ → Setting) (counted_in : ℕ → Bool) (taken : ℕ → Option Taken)
      → n < actor_count s → Numbering s tags numbers roles settings counted_in purses commands taken jobs → Numbering s tags numbers roles settings counted_in purses commands_now taken jobs_now
  begun-jobs tags numbers settings counted_in taken there i = record {
    setting = i.setting;
    tag = i.tag;
    number = i.number;
    role = i.role;
    about = i.about;
    beyond = i.beyond;
    nobody = λ a le. let (counted, purse, none, takes, jobless) = i.nobody a le in
        let ne : a ≢ n = (λ e. absurd (omega (arith, there, le, e))) in
        (counted, purse, begin.elsewhere a ne ∙ none, takes, new.elsewhere a ne ∙ jobless);
    working = λ a j is. elim (had-job a j is) [ inl t ↦ i.working a j t.1 | inr t ↦ ap roles t.0 ∙ (fresh j t.1).admin ];
    parts = i.parts;
    idle = λ a role jobless. i.idle a role (on_bool (eqb a n)
        (λ q. ap jobs (eqb-true a n q) ∙ new.was_there)
        (λ q. sym (new.elsewhere a (eqb-false a n q)) ∙ jobless));
  }

  -- Spares and notes.

  spent-same : (a : ℕ) → spent_of (jobs_now a) ≡ spent_of (jobs a)
  spent-same a = on_bool (eqb a n)
      (λ q. let e = eqb-true a n q in ap (λ (x : ℕ). spent_of (jobs_now x)) e ∙ ap spent_of new.is_there ∙ spent-new job called ∙ sym (ap (λ (x : ℕ). spent_of (jobs x)) e ∙ ap spent_of new.was_there))
      (λ q. ap spent_of (new.elsewhere a (eqb-false a n q)))

  items-same : (a : ℕ) → items_of_job (jobs_now a) ≡ items_of_job (jobs a)
  items-same a = on_bool (eqb a n)
      (λ q. let e = eqb-true a n q in ap (λ (x : ℕ). items_of_job (jobs_now x)) e ∙ ap items_of_job new.is_there ∙ items-new job called ∙ sym (ap (λ (x : ℕ). items_of_job (jobs x)) e ∙ ap items_of_job new.was_there))
      (λ q. ap items_of_job (new.elsewhere a (eqb-false a n q)))

  pub begun-stocking : (stock : StockValue) (made : ℕ → Bool) (gates : ℕ → Option ℕ) (phases : ℕ → Option Phase) (pins : ℕ → ℕ) (gone : ℕ → List ℕ) (owner : ℕ → Owner) (shape : ℕ → Shape)
      → Stocking s stock made gates phases pins gone purses jobs owner shape → Stocking s stock made gates phases pins gone purses jobs_now owner shape
  begun-stocking = stocking-alike s jobs jobs_now purses spent-same

  pub begun-stamping : (stock : StockValue) (blocks : ℕ → Block) (made : ℕ → Bool) (trees : ℕ → Gate) (gates : ℕ → Option ℕ) (phases : ℕ → Option Phase) (pins : ℕ → ℕ) (reads : ℕ → Option ReadPart) (shape : ℕ → Shape)
      → Stamping stock blocks made trees gates phases pins purses reads jobs shape → Stamping stock blocks made trees gates phases pins purses reads jobs_now shape
  begun-stamping = stamping-alike jobs jobs_now purses spent-same items-same

  -- Jobs.

  not-called : {A : Type 0} (f : StageValue → Option A) (j : JobValue) (x : A) → f IsCalled ≡ None → job ≡ Some j → f j.stage ≡ Some x → ⊥
  not-called {A} f j x none is has = (let never : ◌≡◌ {A = Option A} None (Some x) = sym none ∙ ap f (sym (called j is)) ∙ has in cc)

  pub started-working : (blocks : ℕ → Block) (made : ℕ → Bool) (trees : ℕ → Gate) (phases : ℕ → Option Phase) (active : ℕ → ℕ) (queues : ℕ → Queue) (gate : ℕ → ℕ) (shape : ℕ → Shape) (placed : ℕ → Bool)
      → Working s h blocks made trees phases active queues purses commands jobs gate shape placed → Working s h blocks made trees phases active queues purses commands_now jobs_now gate shape placed
  started-working blocks made trees phases active queues gate shape placed i = record {
    command = λ a j is. elim (had-job a j is) [
      | inl t ↦ (let old = i.command a j t.1 in (old.0, has-still n its commands commands_now begin a old.0 old.1, old.2))
      | inr t ↦ (its, ap commands_now t.0 ∙ begin.is_there, (fresh j t.1).is_job)
    ];
    front = λ a j is. elim (had-job a j is) [ inl t ↦ i.front a j t.1 | inr t ↦ (fresh j t.1).front ];
    to = λ a worker j is. elim (had-job a j is) [ inl t ↦ i.to a worker j t.1 | inr t ↦ (fresh j t.1).to worker ];
    unspent = λ a j is none. elim (had-job a j is) [ inl t ↦ i.unspent a j t.1 none | inr t ↦ ap purses t.0 ∙ (fresh j t.1).spares ];
    declined = λ a j c why is has stage. elim (had-job a j is) [
      | inl t ↦ elim (had-or-its n its commands commands_now begin a c has) [ inl was ↦ i.declined a j c why t.1 was stage | inr k ↦ absurd (t.0 k.0) ]
      | inr t ↦ (let never : IsCalled ≡ IsDeclined why = sym (called j t.1) ∙ stage in absurd (not-declined why never))
    ];
    frozen = λ a j f is at. elim (had-job a j is) [ inl t ↦ i.frozen a j f t.1 at | inr t ↦ absurd (not-called frozen_in j f refl t.1 at) ];
    collected = λ a j k is stage. elim (had-job a j is) [ inl t ↦ i.collected a j k t.1 stage | inr t ↦ absurd (not-called frozen_in j k.frozen refl t.1 (ap frozen_in stage)) ];
    building = λ a j b is stage. elim (had-job a j is) [ inl t ↦ i.building a j b t.1 stage | inr t ↦ absurd (not-called frozen_in j b.frozen refl t.1 (ap frozen_in stage)) ];
  }

  -- Balances.

  pub started-balancing : (placed : ℕ → Bool) (home : ℕ → ℕ) → ((b : Balance) → its.work ≡ work_is.Balance b → IsBalancing s h placed home job its.of b)
      → Balancing s h commands jobs placed home → Balancing s h commands_now jobs_now placed home
  started-balancing placed home mine i = record {
    balance = λ a of b is. elim (had-or-its n its commands commands_now begin a _ is) [
      | inl was ↦
          let ne : a ≢ n = (λ e. let never : ◌≡◌ {A = Option Command} None (Some (record { of = of; work = work_is.Balance b })) = sym begin.was_there ∙ ap commands (sym e) ∙ was in absurd (cc)) in
          subst (λ (j : Option JobValue). IsBalancing s h placed home j of b) (sym (new.elsewhere a ne)) (i.balance a of b was)
      | inr t ↦
          let its_of : its.of ≡ of = ap (λ (c : Command). c.of) (sym t.1) in
          let its_work : its.work ≡ work_is.Balance b = ap (λ (c : Command). c.work) (sym t.1) in
          subst (λ (j : Option JobValue). IsBalancing s h placed home j of b) (sym (ap jobs_now t.0 ∙ new.is_there))
          (subst (λ (p : ℕ). IsBalancing s h placed home job p b) its_of (mine b its_work))
    ];
  }
