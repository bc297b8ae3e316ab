-- What each command that is no insert and no query is as it begins.
use Rattle.std.proofs.{Common.{◌≡◌, ◌≢◌, ℕ, ◌*◌, ◌<◌, ◌≤◌, List, [], ◌∷◌, Bool, true, false, length, Option, Some, None, refl, sym, ap, ◌∙◌, subst, arith, ◌&&◌, nat_lt, take, map, Any, option_map, option_and_then, is_some, ◌==◌, eqb-true, slice_get, ◌^◌, ◌-◌, ◌+◌}, lemmas.Bool.{and_parts, false≢true, ltb-true}, lemmas.List.length-map, lemmas.List.Elements.All-nil, lemmas.Nat.mul-le}
use Rattle.cell_stock.specs.declared.purse.Spare.{Spare}
use Rattle.row_ledger.specs.{Changes.ShardsStay, Classes.{class_of, is_there}, Kept.KeepsRight, Listings.places_of, Past.{before, call_at, call_in, has_page, work}, Shards.{frontier, is_live, comes_from, place}, Work.is_known, Workers.is_on, declared.class.Class.Class, declared.class.Subject.Subject, declared.event.Event.Event, declared.event.Event.TheVariants.Called, declared.settings.Call.Call, declared.settings.Call.TheVariants.Barrier}
use Rattle.row_ledger.specs.declared.class.Class.TheVariants as class_is
use Rattle.row_ledger.specs.declared.class.Subject.TheVariants as subject
use Rattle.row_ledger.proofs.{Changes.quiet, Descent.comes_from-self, Growth.KeepsRight-called, Positions.before-here}
use Rattle.server_image.specs.Registry.{RegistryValue, host_of, on_frontier}
use Rattle.shard_plan.specs.declared.action.Action.TheVariants as action
use Rattle.std.specs.Prelude.{IsTrue}
use Rattle.shard_plan.specs.{declared.action.Action.Action, declared.action.Load.Load}
use Rattle.describing_set.specs.declared.listing.Spot.{Spot}
use Rattle.volap_cell.specs.{Commands.{MayCall, MayCallAs}, Falls.{job_left, plenty, actions_left, control_of}, Ghost.Ghost, ImageKinds.{IsBegun, asks_registry, job_begun, job_called, IsNewBalance, unread_load}, Invariant.InvWith, Planning.job_for, Setting.{Setting, site_in}, Values.{JobValue, StageValue, IsCalled}, View.View, Working.{action_of, action_to, IsBalancing, IsReadLoad, places_in}, declared.command.Balance.Balance, declared.command.Work.Work, declared.role.Role.Role, declared.role.Role.TheVariants.{Admin, Hand, Puller, Session}}
use Rattle.volap_cell.specs.declared.command.Work.TheVariants as work_is
use Rattle.volap_cell.proofs.{OneEvent.Noted.{new-pageless, new-told, new-workless}, OneEvent.Older.{on-stays, Any-weaker, live-stays}}
use Rattle.core_image.specs.NotesDue.{BeginsAsking}
use Rattle.core_image.proofs.{Commands.Jobs.IsNewJob, Images.Hosts.{host-on, job-known, job-new, stands-live, has-load, few-stand, places-unread}, EachStep.CallsBegin.{IsBeginning, most_control}}

-- whoever may call is there
pub caller-there : (role : Role) (call : Call) → MayCall role call → (w : ℕ) → role ≢ Hand w
caller-there role call may w is = absurd (subst (λ (r : Role). MayCall r call) is may)

module _ (s : Setting) (v : View) (g : Ghost) (i : InvWith s v g) (number : ℕ) (role : Role) (purse : List Spare) where
  abbrev h : List Event
  h = v.history

  abbrev of : ℕ
  of = length h

  -- what is so as it is said of the work and of the job
  as-said : (e : Event) {work : Work} {job : Option JobValue} (work_now : Work) (job_now : Option JobValue) → work ≡ work_now → job ≡ job_now → IsBeginning s v g (e ∷ h) of role purse work_now job_now → IsBeginning s v g (e ∷ h) of role purse work job
  as-said e {work} {job} work_now job_now works jobs is =
      subst (λ (x : Work). IsBeginning s v g (e ∷ h) of role purse x job) (sym works) (subst (λ (j : Option JobValue). IsBeginning s v g (e ∷ h) of role purse work_now j) (sym jobs) is)

  none-new : (j : JobValue) (work : Work) (past : List Event) → None ≡ Some j → IsNewJob s past role purse work j
  none-new j work past is = (let never : ◌≡◌ {A = Option JobValue} None (Some j) = is in absurd (cc))

  module _ (call : Call) where
    abbrev e : Event
    e = Called number call

    -- whatever is called, a page or an action of its own doesn't stand before it
    abbrev any : Event
    any = Called number Barrier

    right : KeepsRight (site_in s) g.placed (any ∷ h)
    right = KeepsRight-called (site_in s) g.placed h number Barrier tt i.telling.right

    told : call_at (e ∷ h) of ≡ Some call
    told = new-told call_in e h

    pageless : has_page (e ∷ h) of ≡ false
    pageless = new-pageless s any h g.placed right number refl

    workless : work (e ∷ h) of ≡ []
    workless = new-workless s any h g.placed right number refl

    past : before (e ∷ h) of ≡ h
    past = before-here e h

  pub sync-begins : (call : Call) (server : ℕ) → class_of call ≡ class_is.Sync server → server < s.servers → IsBeginning s v g (Called number call ∷ h) of role purse (work_is.Sync server false) None
  sync-begins call server class within = record {
    progress = ((call, told call, class), within, λ never. absurd (false≢true never));
    new_job = λ j is. none-new j _ _ is;
    off_desk = refl;
    no_insert = refl;
    balance = λ b is. absurd (cc);
    control = omega arith;
    gates = omega arith;
  }

  pub settle-begins : (call : Call) → class_of call ≡ class_is.Settle → IsBeginning s v g (Called number call ∷ h) of role purse (work_is.Settle 0) None
  settle-begins call class = record {
    progress = ((call, told call, class), omega arith);
    new_job = λ j is. none-new j _ _ is;
    off_desk = refl;
    no_insert = refl;
    balance = λ b is. absurd (cc);
    control = omega arith;
    gates = omega arith;
  }

  pub bare-begins : (call : Call) → class_of call ≡ class_is.Bare → IsBeginning s v g (Called number call ∷ h) of role purse work_is.Bare None
  bare-begins call class = record {
    progress = (call, told call, class);
    new_job = λ j is. none-new j _ _ is;
    off_desk = refl;
    no_insert = refl;
    balance = λ b is. absurd (cc);
    control = omega arith;
    gates = omega arith;
  }

  pub page-begins : (call : Call) (subject : Subject) (there : Bool) → class_of call ≡ class_is.Page subject → is_there s.workers h subject ≡ there
      → IsBeginning s v g (Called number call ∷ h) of role purse (work_is.Page subject there false) None
  page-begins call subject there class is_so = record {
    progress = (
      (call, told call, class),
      pageless call,
      ap (λ (p : List Event). is_there s.workers p subject) (past call) ∙ is_so,
      λ never. absurd (false≢true never),
    );
    new_job = λ j is. none-new j _ _ is;
    off_desk = refl;
    no_insert = refl;
    balance = λ b is. absurd (cc);
    control = omega arith;
    gates = omega arith;
  }

  -- Commands that ask what stands.

  module _ (r : RegistryValue) (is_registry : v.registry ≡ r) where
    front : places_of r.frontier ≡ frontier s.workers h
    front = subst (λ (x : RegistryValue). places_of x.frontier ≡ frontier s.workers h) is_registry i.lineage.front

    live : (x : ℕ) → on_frontier x r ≡ is_live s.workers h x
    live x = stands-live s.workers h r front x

    -- a job at its beginning leaves so much
    job-few : (job : Option JobValue) → ((j : JobValue) → job ≡ Some j → j.stage ≡ IsCalled) → job_left s v job ≤ 6 * plenty s
    job-few None called = omega arith
    job-few (Some j) called = (let at : job_left s v (Some j) ≡ 6 * plenty s = ap (λ (st : StageValue). job_left s v (Some (record j { stage = st }))) (called j refl) in omega (arith, at))

    -- the host of a shard that stands
    host : (x : ℕ) → on_frontier x r ≡ true → (w : ℕ) × (host_of x r ≡ Some w) × (is_on s.workers h x w ≡ true)
    host x = host-on s.workers h r front x

    on-still : (call : Call) (x w : ℕ) → is_on s.workers h x w ≡ true → is_on s.workers (Called number call ∷ h) x w ≡ true
    on-still call x w on = on-stays s.workers (Called number call) h (quiet s.hierarchy s.workers (Called number call) h refl).shards x w ∙ on

    -- what a new job is, of a shard that stands
    job-as : (x : ℕ) (to : Option ℕ) (known : Bool) → (known ≡ true → on_frontier x r ≡ true) → (j : JobValue) → job_called r x to known ≡ Some j
        → (known ≡ true) × ((w : ℕ) × (j ≡ record { shard = x; worker = w; to = to; stage = IsCalled }) × (is_on s.workers h x w ≡ true))
    job-as x to known stands j is = by known refl
      where
        by : (k : Bool) → known ≡ k → (known ≡ true) × ((w : ℕ) × (j ≡ record { shard = x; worker = w; to = to; stage = IsCalled }) × (is_on s.workers h x w ≡ true))
        by true k =
            let (w, has, on) = host x (stands k) in
            (k, (w, (job-new r x to known w has j is).1, on))
        by false k = (let never : ◌≡◌ {A = Option JobValue} None (Some j) = ap (job_called r x to) (sym k) ∙ is in absurd (cc))

    -- an action on this shard, that goes to this worker, of which this tells whether it is known
    job-begins : (call : Call) (a : Action) (x : ℕ) (to : Option ℕ) (known : Bool) → class_of call ≡ class_is.Action a → action_to x to ≡ a → (known ≡ true → on_frontier x r ≡ true)
        → known ≡ is_known (site_in s) h a → ((worker : ℕ) → to ≡ Some worker → known ≡ true → worker < s.workers) → role ≡ Admin → purse ≡ []
        → IsBeginning s v g (Called number call ∷ h) of role purse (work_is.Action a) (job_called r x to known)
    job-begins call a x to known class its stands known_is within admin spares =
        let new = job-as x to known stands in
        let few = job-few (job_called r x to known) (λ j is. ap (λ (y : JobValue). y.stage) (new j is).1.1) in
        record {
          progress = (
            (call, told call, class),
            workless call,
            job-known r x to known (λ k. let (w, has, on) = host x (stands k) in (w, has)) ∙ known_is ∙ ap (λ (p : List Event). is_known (site_in s) p a) (sym (past call)),
          );
          new_job = λ j is.
              let (k, (w, same, on)) = new j is in
              record {
                called = ap (λ (y : JobValue). y.stage) same;
                admin = admin;
                spares = spares;
                is_job = ap action_of same ∙ its;
                front = subst (λ (y : JobValue). is_on s.workers (Called number call ∷ h) y.shard y.worker ≡ true) (sym same) (on-still call x w on);
                to = λ worker to_is. within worker (sym (ap (λ (y : JobValue). y.to) same) ∙ to_is) k;
              };
          off_desk = refl;
          no_insert = refl;
          balance = λ b is. absurd (cc);
          control = omega (arith, few);
          gates = omega arith;
        }

    pub action-begins : (call : Call) (a : Action) → class_of call ≡ class_is.Action a → role ≡ Admin → purse ≡ [] → IsBeginning s v g (Called number call ∷ h) of role purse (work_is.Action a) (job_begun s.workers r a)
    action-begins call (action.Split x) class admin spares =
        job-begins call (action.Split x) x None (on_frontier x r) class refl (λ k. k) (live x) (λ worker never known. let no : ◌≡◌ {A = Option ℕ} None (Some worker) = never in absurd (cc)) admin spares
    action-begins call (action.Move x to) class admin spares =
        job-begins call (action.Move x to) x (Some to) (on_frontier x r && nat_lt to s.workers) class refl
        (λ k. (and_parts (on_frontier x r) (nat_lt to s.workers) k).0) (ap (λ (b : Bool). b && nat_lt to s.workers) (live x))
        (λ worker is k. let same : to ≡ worker = cc in subst (λ (n : ℕ). n < s.workers) same (ltb-true to s.workers (and_parts (on_frontier x r) (nat_lt to s.workers) k).1)) admin spares

  -- a call that asks nothing of the registry
  alone-as : (call : Call) (class : Class) → class_of call ≡ class → asks_registry class ≡ false → ((x : ℕ) → class ≡ class_is.Sync x → x < s.servers) → (workers : ℕ) (r : RegistryValue) (work : Work) (job : Option JobValue) → IsBegun workers r class work job
      → IsBeginning s v g (Called number call ∷ h) of role purse work job
  alone-as call (class_is.Sync server) class alone within workers r work job is = as-said (Called number call) _ _ is.0 is.1 (sync-begins call server class (within server refl))
  alone-as call class_is.Settle class alone within workers r work job is = as-said (Called number call) _ _ is.0 is.1 (settle-begins call class)
  alone-as call class_is.Bare class alone within workers r work job is = as-said (Called number call) _ _ is.0 is.1 (bare-begins call class)
  alone-as call (class_is.Page subject.Shards) class alone within workers r work job is = as-said (Called number call) _ _ is.0 is.1 (page-begins call subject.Shards true class refl)
  alone-as call (class_is.Page subject.Rows) class alone within workers r work job is = as-said (Called number call) _ _ is.0 is.1 (page-begins call subject.Rows true class refl)
  alone-as call (class_is.Page subject.Groups) class alone within workers r work job is = as-said (Called number call) _ _ is.0 is.1 (page-begins call subject.Groups true class refl)
  alone-as call _ class alone within workers r work job is = absurd (false≢true (sym alone))

  pub alone-begins : (call : Call) → asks_registry (class_of call) ≡ false → ((x : ℕ) → class_of call ≡ class_is.Sync x → x < s.servers) → (workers : ℕ) (r : RegistryValue) (work : Work) (job : Option JobValue) → IsBegun workers r (class_of call) work job
      → IsBeginning s v g (Called number call ∷ h) of role purse work job
  alone-begins call = alone-as call (class_of call) refl

  -- A balance.

  module _ (r : RegistryValue) (is_registry : v.registry ≡ r) (most : ℕ) (b : Balance) (new : IsNewBalance r most b) (admin : role ≡ Admin) (call : Call) (class : class_of call ≡ class_is.Balance most) where
    abbrev calls : Event
    calls = Called number call

    stays : ShardsStay s.workers calls h
    stays = (quiet s.hierarchy s.workers calls h refl).shards

    its-front : places_of r.frontier ≡ frontier s.workers h
    its-front = subst (λ (x : RegistryValue). places_of x.frontier ≡ frontier s.workers h) is_registry i.lineage.front

    balancing : IsBalancing s (calls ∷ h) g.placed g.home None of b
    balancing = record {
      places = ap places_in new.loads ∙ places-unread r.frontier ∙ its-front ∙ ap (frontier s.workers) (sym (past call));
      readings = [];
      loads = ap (λ (n : ℕ). take n b.loads) (sym new.read);
      each = All-nil (IsReadLoad s (calls ∷ h) g.placed g.home of);
      read = (let none = new.read in omega (arith, none));
      still = λ unplanned. (stays.frontier ∙ ap (frontier s.workers) (sym (past call)), workless call, new.over, new.done, new.standing, (let none = new.read in let some = new.some in omega (arith, none, some)));
      planned = λ actions is. let never : ◌≡◌ {A = Option (List Action)} None (Some actions) = sym new.plan ∙ is in absurd (cc);
      from = λ x live.
          let has : on_frontier x r ≡ true = stands-live s.workers h r its-front x ∙ sym (live-stays s.workers calls h stays x) ∙ live in
          subst (λ (loads : List Load). Any (λ (l : Load). IsTrue (comes_from (calls ∷ h) l.shard x)) loads) (sym new.loads)
          (Any-weaker (λ (l : Load). (l.shard == x) ≡ true) (λ (l : Load). IsTrue (comes_from (calls ∷ h) l.shard x))
          (λ l same. subst (λ (y : ℕ). IsTrue (comes_from (calls ∷ h) y x)) (sym (eqb-true l.shard x same)) (comes_from-self (calls ∷ h) x)) (map unread_load r.frontier) (has-load x r has));
      at_work = sym (ap (λ (plan : Option (List Action)). is_some (option_map (job_for b.standing) (option_and_then (λ (actions : List Action). slice_get actions b.over) plan))) new.plan);
    }

    -- no more actions than a byte can tell, and no more loads than shards stand
    control-few : most < 2 ^ 8 → control_of s (work_is.Balance b) + job_left s v None ≤ most_control s
    control-few few =
        let at : control_of s (work_is.Balance b) ≡ 1 + (b.most * (8 * plenty s) + 1 + (length b.loads - b.read)) = ap (λ (plan : Option (List Action)). 1 + actions_left s b plan) new.plan in
        let most_is = new.most_is in
        let actions : b.most * (8 * plenty s) ≤ 255 * (8 * plenty s) = mul-le b.most (8 * plenty s) 255 (8 * plenty s) (omega (arith, few, most_is)) (omega arith) in
        let loads : length b.loads ≡ length r.frontier = ap length new.loads ∙ length-map r.frontier unread_load in
        let shards : length r.frontier ≡ length (frontier s.workers h) = sym (length-map r.frontier (λ (spot : Spot). place spot.shard spot.worker)) ∙ ap length its-front in
        let stand = few-stand s.workers h in
        let events = i.owing.few in
        omega (arith, at, actions, loads, shards, stand, events)

    pub balance-begins : most < 2 ^ 8 → IsBeginning s v g (calls ∷ h) of role purse (work_is.Balance b) None
    balance-begins few = record {
      progress = ((call, told call, class ∙ ap class_is.Balance (sym new.most_is)), admin);
      new_job = λ j is. none-new j _ _ is;
      off_desk = refl;
      no_insert = refl;
      balance = λ other is. let same : b ≡ other = cc in subst (λ (x : Balance). IsBalancing s (calls ∷ h) g.placed g.home None of x) same balancing;
      control = control-few few;
      gates = omega arith;
    }

  -- a call that asks the registry
  asking-as : (call : Call) (class : Class) → class_of call ≡ class → asks_registry class ≡ true → (r : RegistryValue) → v.registry ≡ r → role ≡ Admin → purse ≡ [] → (work : Work) (job : Option JobValue) → BeginsAsking s.workers r class work job
      → IsBeginning s v g (Called number call ∷ h) of role purse work job
  asking-as call (class_is.Page (subject.Tree x)) class asks r is_registry admin spares work job is =
      as-said (Called number call) _ _ is.0 is.1 (page-begins call (subject.Tree x) (on_frontier x r) class (sym (live r is_registry x)))
  asking-as call (class_is.Action a) class asks r is_registry admin spares work job is = as-said (Called number call) _ _ is.0 is.1 (action-begins r is_registry call a class admin spares)
  asking-as call (class_is.Balance most) class asks r is_registry admin spares work job is =
      let none = is.0.0 in
      let (b, works, new) = is.0.1 in
      as-said (Called number call) _ _ works none (balance-begins r is_registry most b new admin call class is.1)
  asking-as call _ class asks r is_registry admin spares work job is = absurd (false≢true asks)

  pub asking-begins : (call : Call) → asks_registry (class_of call) ≡ true → (r : RegistryValue) → v.registry ≡ r → role ≡ Admin → purse ≡ [] → (work : Work) (job : Option JobValue) → BeginsAsking s.workers r (class_of call) work job
      → IsBeginning s v g (Called number call ∷ h) of role purse work job
  asking-begins call = asking-as call (class_of call) refl

-- the administrator alone asks the registry
asker-as : (role : Role) (class : Class) → MayCallAs role class → asks_registry class ≡ true → role ≡ Admin
asker-as Admin class may asks = refl
asker-as (Session x) (class_is.Sync server) may asks = absurd (false≢true asks)
asker-as (Session x) _ may asks = absurd may
asker-as Puller (class_is.Sync server) may asks = absurd (false≢true asks)
asker-as Puller _ may asks = absurd may
asker-as (Hand w) class may asks = absurd may

pub asker-admin : (role : Role) (call : Call) → MayCall role call → asks_registry (class_of call) ≡ true → role ≡ Admin
asker-admin role call = asker-as role (class_of call)
