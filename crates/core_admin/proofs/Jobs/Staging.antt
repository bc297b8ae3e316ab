-- An administrator's job gets to another stage: what the parts keep that read jobs. There is one administrator, so nobody else has a job.
use Rattle.std.proofs.{Common.{◌≡◌, ◌≢◌, ℕ, ◌<◌, ◌≤◌, ◌++◌, Bool, true, eqb, List, [], Option, Some, None, is_some, refl, sym, ap, ◌∙◌, subst, arith}, lemmas.Bool.{eqb-true, eqb-false}}
use Rattle.cell_stock.specs.{Stock.{StockValue, cells_of}, declared.purse.Spare.Spare}
use Rattle.dc_node.specs.{declared.block.Block.Block, declared.todo.Item.Item}
use Rattle.row_ledger.specs.{Workers.is_on, declared.event.Event.Event, declared.settings.Decline.Decline}
use Rattle.core_tree.specs.shard_store.specs.{declared.gate.Gate.Gate, declared.gate.Phase.Phase, declared.queue.Queue.Queue}
use Rattle.list_words.specs.Counts.{Each, times}
use Rattle.list_words.proofs.{Each.{each-both, each-append, each-left}, Truth.on_bool}
use Rattle.core_tree.specs.tree_shape.specs.{Queries.NoneWaits, Shape.{Shape, nodes}, Steps.{AreApart, AreSpares}}
use Rattle.core_tree.specs.volap_cell.specs.{Errands.ReadPart, Ghost.Owner, Numbering.Numbering, Setting.Setting, Stocking.{LeavesStamp, Stamping, Stocking, all_items, all_spares, cells_at, items_in, items_of_job, items_of_read, spent_of}, Telling.{IsProgress, Telling}, Values.{JobValue, StageValue, IsDeclined, Collects, Builds, CollectingValue, BuildingValue}, View.View, Working.{Balancing, IsBuilding, IsCollected, IsDeclinedFor, IsFrozenFor, IsJobOf, Working, frozen_in}, declared.command.Command.Command, declared.command.Work.Work, declared.job.Frozen.Frozen, declared.role.Role.Role, declared.role.Role.TheVariants.Admin}
use Rattle.core_tree.specs.volap_cell.specs.declared.command.Work.TheVariants as work_is
use Rattle.core_tree.specs.volap_cell.proofs.{Persons.{IsNumbered, has-job}, Views.Fields.IsNewAt}

-- One administrator.

pub one-admin : (s : Setting) (v : View) → IsNumbered s v → (a b : ℕ) (j k : JobValue) → v.jobs a ≡ Some j → v.jobs b ≡ Some k → a ≡ b
one-admin s v i a b j k ja kb =
    let ra = i.role a (has-job s v i a j ja) ∙ ap Some (i.working a j ja) in
    let rb = i.role b (has-job s v i b k kb) ∙ ap Some (i.working b k kb) in
    i.setting.admin a b ra rb

on-job : {P : Type 0} (o : Option JobValue) → (o ≡ None → P) → ((j : JobValue) → o ≡ Some j → P) → P
on-job None none some = none refl
on-job (Some j) none some = some j refl

pub others-jobless : (s : Setting) (v : View) → IsNumbered s v → (n : ℕ) (j : JobValue) → v.jobs n ≡ Some j → (a : ℕ) → a ≢ n → v.jobs a ≡ None
others-jobless s v i n j jn a ne = on-job (v.jobs a) (λ e. e) (λ k e. absurd (ne (one-admin s v i a n k j e jn)))

-- Whether a command has a job is all that its progress tells of it.

pub progress-as : (s : Setting) (h : List Event) (of : ℕ) (w : Work) (job now : Option JobValue) (role : Role) → is_some now ≡ is_some job → IsProgress s h of w job role → IsProgress s h of w now role
progress-as s h of (work_is.Insert row routed) job now role same p = p
progress-as s h of work_is.Query job now role same p = p
progress-as s h of (work_is.Sync server pulled) job now role same p = p
progress-as s h of work_is.Bare job now role same p = p
progress-as s h of (work_is.Settle pulls) job now role same p = p
progress-as s h of (work_is.Action act) job now role same p = (p.0, p.1, same ∙ p.2)
progress-as s h of (work_is.Balance b) job now role same p = p
progress-as s h of (work_is.Page subject there shown) job now role same p = p

-- what the work of one job says, where its actor has this purse
pub record IsAtWork (s : Setting) (history : List Event) (blocks : ℕ → Block) (made : ℕ → Bool) (trees : ℕ → Gate) (phases : ℕ → Option Phase) (active : ℕ → ℕ) (queues : ℕ → Queue) (purse : List Spare) (command : Option Command) (gate : ℕ → ℕ) (shape : ℕ → Shape) (placed : ℕ → Bool) (j : JobValue) : Type 0 where
  pub unspent : frozen_in j.stage ≡ None → purse ≡ []
  pub declined : (c : Command) (why : Decline) → command ≡ Some c → j.stage ≡ IsDeclined why → IsDeclinedFor s history placed c.of j why
  pub frozen : (f : Frozen) → frozen_in j.stage ≡ Some f → IsFrozenFor s trees phases gate purse j f
  pub collected : (k : CollectingValue) → j.stage ≡ Collects k → IsCollected history blocks trees queues phases active shape k
  pub building : (b : BuildingValue) → j.stage ≡ Builds b → IsBuilding s history blocks made trees queues phases active shape purse b

module _ (s : Setting) (v : View) (numbered : IsNumbered s v) (n : ℕ) (job : JobValue) (stage : StageValue) (jobs : ℕ → Option JobValue) (new : IsNewAt jobs v.jobs n (Some job) (Some (record job { stage = stage }))) where
  abbrev now : JobValue
  now = record job { stage = stage }

  jobless : (a : ℕ) → a ≢ n → jobs a ≡ None
  jobless a ne = new.elsewhere a ne ∙ others-jobless s v numbered n job new.was_there a ne

  some-same : (a : ℕ) → is_some (jobs a) ≡ is_some (v.jobs a)
  some-same a = on_bool (eqb a n)
      (λ q. let e = eqb-true a n q in
      ap (λ (x : ℕ). is_some (jobs x)) e ∙ ap (λ (o : Option JobValue). is_some o) new.is_there ∙ sym (ap (λ (o : Option JobValue). is_some o) new.was_there) ∙ sym (ap (λ (x : ℕ). is_some (v.jobs x)) e))
      (λ q. ap (λ (o : Option JobValue). is_some o) (new.elsewhere a (eqb-false a n q)))

  -- a job is the actor's
  its : (P : ℕ → JobValue → Type 0) → P n now → (a : ℕ) (j : JobValue) → jobs a ≡ Some j → P a j
  its P p a j is = on_bool (eqb a n)
      (λ q. let e = eqb-true a n q in
      let same : Some now ≡ Some j = sym new.is_there ∙ ap jobs (sym e) ∙ is in
      let j_is : now ≡ j = cc in
      subst (λ (x : ℕ). P x j) (sym e) (subst (P n) j_is p))
      (λ q. let none = jobless a (eqb-false a n q) in let no : None ≡ Some j = sym none ∙ is in absurd (cc))

  -- no other actor has another purse
  pub staged-numbering : (purses : ℕ → List Spare) → ((a : ℕ) → a ≢ n → purses a ≡ v.purses a) → Numbering s v.tags v.numbers v.roles v.settings v.counted_in purses v.commands v.taken jobs
  staged-numbering purses off = record {
    setting = numbered.setting;
    tag = numbered.tag;
    number = numbered.number;
    role = numbered.role;
    about = numbered.about;
    nobody = λ a le. let (counted, purse, command, taken, none) = numbered.nobody a le in
        let there = has-job s v numbered n job new.was_there in
        let ne : a ≢ n = (λ e. absurd (omega (arith, there, le, e))) in
        (counted, off a ne ∙ purse, command, taken, jobless a ne);
    beyond = numbered.beyond;
    working = its (λ a j. v.roles a ≡ Admin) (numbered.working n job new.was_there);
    parts = numbered.parts;
    idle = λ a role none. on_bool (eqb a n)
        (λ q. let never : ◌≡◌ {A = Option JobValue} (Some now) None = sym new.is_there ∙ ap jobs (sym (eqb-true a n q)) ∙ none in absurd (cc))
        (λ q. let ne = eqb-false a n q in off a ne ∙ numbered.idle a role (sym (new.elsewhere a ne) ∙ none));
  }

  pub staged-telling : (h : List Event) (placed : ℕ → Bool) → Telling s h v.commands v.jobs v.roles v.seen placed → Telling s h v.commands jobs v.roles v.seen placed
  staged-telling h placed i = record {
    right = i.right;
    own = i.own;
    is_open = i.is_open;
    progress = λ a c is. progress-as s h c.of c.work (v.jobs a) (jobs a) (v.roles a) (some-same a) (i.progress a c is);
    last = i.last;
    within = i.within;
    rows = i.rows;
    filters = i.filters;
    status = i.status;
  }

  pub staged-balancing : (h : List Event) (placed : ℕ → Bool) (home : ℕ → ℕ) → Balancing s h v.commands v.jobs placed home → Balancing s h v.commands jobs placed home
  staged-balancing h placed home i = record {
    balance = λ a of b is. let o = i.balance a of b is in record {
      places = o.places;
      readings = o.readings;
      loads = o.loads;
      each = o.each;
      read = o.read;
      still = o.still;
      planned = o.planned;
      from = o.from;
      at_work = some-same a ∙ o.at_work;
    };
  }

  pub staged-working : (h : List Event) (blocks : ℕ → Block) (made : ℕ → Bool) (trees : ℕ → Gate) (phases phases_now : ℕ → Option Phase) (active : ℕ → ℕ) (queues : ℕ → Queue) (purses purses_now : ℕ → List Spare) (gate : ℕ → ℕ) (shape : ℕ → Shape) (placed : ℕ → Bool)
      → Working s h blocks made trees phases active queues purses v.commands v.jobs gate shape placed
      → IsAtWork s h blocks made trees phases_now active queues (purses_now n) (v.commands n) gate shape placed now
      → Working s h blocks made trees phases_now active queues purses_now v.commands jobs gate shape placed
  staged-working h blocks made trees phases phases_now active queues purses purses_now gate shape placed i at = record {
    command = its (λ a j. (c : Command) × (v.commands a ≡ Some c) × IsJobOf c.work j) (let o = i.command n job new.was_there in (o.0, o.1, as-job o.0.work o.2));
    front = its (λ a j. is_on s.workers h j.shard j.worker ≡ true) (i.front n job new.was_there);
    to = λ a worker. its (λ a j. j.to ≡ Some worker → worker < s.workers) (i.to n worker job new.was_there) a;
    unspent = its (λ a j. frozen_in j.stage ≡ None → purses_now a ≡ []) at.unspent;
    declined = λ a j c why is. its (λ a j. v.commands a ≡ Some c → j.stage ≡ IsDeclined why → IsDeclinedFor s h placed c.of j why) (at.declined c why) a j is;
    frozen = λ a j f is. its (λ a j. frozen_in j.stage ≡ Some f → IsFrozenFor s trees phases_now gate (purses_now a) j f) (at.frozen f) a j is;
    collected = λ a j k is. its (λ a j. j.stage ≡ Collects k → IsCollected h blocks trees queues phases_now active shape k) (at.collected k) a j is;
    building = λ a j b is. its (λ a j. j.stage ≡ Builds b → IsBuilding s h blocks made trees queues phases_now active shape (purses_now a) b) (at.building b) a j is;
  }
    where
      as-job : (w : Work) → IsJobOf w job → IsJobOf w now
      as-job (work_is.Action act) p = p
      as-job (work_is.Balance b) p = p
      as-job _ p = absurd p

  -- Where the job has spent just as much before.

  module _ (spent : spent_of (Some now) ≡ spent_of (Some job)) where
    spent-same : (a : ℕ) → spent_of (jobs a) ≡ spent_of (v.jobs a)
    spent-same a = on_bool (eqb a n)
        (λ q. let e = eqb-true a n q in ap (λ (x : ℕ). spent_of (jobs x)) e ∙ ap spent_of new.is_there ∙ spent ∙ sym (ap (λ (x : ℕ). spent_of (v.jobs x)) e ∙ ap spent_of new.was_there))
        (λ q. ap spent_of (new.elsewhere a (eqb-false a n q)))

    pub staged-stocking : (stock : StockValue) (made : ℕ → Bool) (gates : ℕ → Option ℕ) (phases : ℕ → Option Phase) (pins : ℕ → ℕ) (gone : ℕ → List ℕ) (purses : ℕ → List Spare) (owner : ℕ → Owner) (shape : ℕ → Shape)
        → Stocking s stock made gates phases pins gone purses v.jobs owner shape → Stocking s stock made gates phases pins gone purses jobs owner shape
    staged-stocking stock made gates phases pins gone purses owner shape i = record {
      valid = i.valid;
      count = i.count;
      within = i.within;
      every = i.every;
      unused = i.unused;
      purse = i.purse;
      job = λ a y. ap (λ (xs : List Spare). times y (cells_of xs)) (spent-same a) ∙ i.job a y;
      gate = i.gate;
      gate_back = i.gate_back;
      tree = i.tree;
      tree_back = i.tree_back;
      gone_cells = i.gone_cells;
      none_gone = i.none_gone;
    }

    -- what is noted for it now no spare has as its stamp, and no stamp that isn't given out yet is one of these
    pub staged-stamping : (stock : StockValue) (blocks : ℕ → Block) (made : ℕ → Bool) (trees : ℕ → Gate) (gates : ℕ → Option ℕ) (phases : ℕ → Option Phase) (pins : ℕ → ℕ) (purses : ℕ → List Spare) (reads : ℕ → Option ReadPart) (shape : ℕ → Shape)
        → Stamping stock blocks made trees gates phases pins purses reads v.jobs shape
        → ((a : ℕ) → Each (λ (x : Spare). NoneWaits x.stamp (items_in stage)) (all_spares purses v.jobs a))
        → ((stamp : ℕ) → stock.stamps ≤ stamp → NoneWaits stamp (items_in stage))
        → Stamping stock blocks made trees gates phases pins purses reads jobs shape
    staged-stamping stock blocks made trees gates phases pins purses reads shape i waits fresh =
        let spares : (a : ℕ) → all_spares purses v.jobs a ≡ all_spares purses jobs a = λ a. ap (λ (xs : List Spare). purses a ++ xs) (sym (spent-same a)) in
        record {
          blocks_given = i.blocks_given;
          blocks_apart = i.blocks_apart;
          unspared = λ a y is. subst (λ (xs : List Spare). Each (LeavesStamp y (blocks y).stamp) xs) (spares a) (i.unspared a y is);
          given = λ a. subst (λ (xs : List Spare). Each (λ x. x.stamp < stock.stamps) xs) (spares a) (i.given a);
          apart = λ a b ne. subst (λ (xs : List Spare). Each (λ x. Each (AreApart x) (all_spares purses jobs b)) xs) (spares a)
              (subst (λ (ys : List Spare). Each (λ x. Each (AreApart x) ys) (all_spares purses v.jobs a)) (spares b) (i.apart a b ne));
          spare = λ a c whole. subst (λ (xs : List Spare). AreSpares (shape c) (nodes (cells_at blocks trees c)) xs) (spares a) (i.spare a c whole);
          waits = λ a b. subst (λ (xs : List Spare). Each (λ x. NoneWaits x.stamp (all_items reads jobs b)) xs) (spares a) (waits-now a b);
          fresh = i.fresh;
          fresh_waits = λ b stamp le. joined stamp b (i.fresh_waits b stamp le) (fresh stamp le);
        }
      where
        -- what an actor has noted is what it had noted, but for the items of the job
        joined : (stamp b : ℕ) → NoneWaits stamp (all_items reads v.jobs b) → NoneWaits stamp (items_in stage) → NoneWaits stamp (all_items reads jobs b)
        joined stamp b old here = on_bool (eqb b n)
            (λ q. let e = eqb-true b n q in
            subst (λ (x : ℕ). NoneWaits stamp (items_of_read (reads b) ++ items_of_job (jobs x))) (sym e)
            (subst (λ (o : Option JobValue). NoneWaits stamp (items_of_read (reads b) ++ items_of_job o)) (sym new.is_there)
            (each-append (λ (x : Item). x.stamp ≢ stamp) (items_of_read (reads b)) (items_in stage) (each-left (λ (x : Item). x.stamp ≢ stamp) (items_of_read (reads b)) (items_of_job (v.jobs b)) old) here)))
            (λ q. subst (λ (o : Option JobValue). NoneWaits stamp (items_of_read (reads b) ++ items_of_job o)) (sym (new.elsewhere b (eqb-false b n q))) old)

        waits-now : (a b : ℕ) → Each (λ (x : Spare). NoneWaits x.stamp (all_items reads jobs b)) (all_spares purses v.jobs a)
        waits-now a b = each-both (λ (x : Spare). NoneWaits x.stamp (all_items reads v.jobs b)) (λ (x : Spare). NoneWaits x.stamp (items_in stage)) (λ (x : Spare). NoneWaits x.stamp (all_items reads jobs b)) (all_spares purses v.jobs a)
            (λ x old here. joined x.stamp b old here) (i.waits a b) (waits a)
