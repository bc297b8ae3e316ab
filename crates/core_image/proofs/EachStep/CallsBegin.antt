-- The beginning of a command that is no insert and no query keeps the invariant, and brings no more with it than a command may.
use Rattle.std.proofs.{Common.{◌≡◌, ◌≢◌, ℕ, ◌+◌, ◌*◌, ◌<◌, ◌≤◌, ◌^◌, List, [], ◌∷◌, false, length, Option, Some, None, refl, sym, ap, ◌∙◌, subst, arith, inl, inr}, lemmas.Bool.{false≢true}}
use Rattle.std.specs.Option.{option_map_or}
use Rattle.cell_stock.specs.declared.purse.Spare.{Spare}
use Rattle.dim_hierarchy.specs.declared.row.Row.{Row}
use Rattle.row_ledger.specs.{Changes.ShardsStay, Groups.IsCallOf, Past.{Insert, Query}, declared.event.Event.Event, declared.event.Event.TheVariants.Called, declared.settings.Call.Call}
use Rattle.row_ledger.proofs.{Changes.quiet, Growth.KeepsRight-called}
use Rattle.volap_cell.specs.{Commands.owes, Desking.is_on_desk, Falls.{BringsWork, control_of, gates_of_errand, gates_of_work, job_left, left, of_work, plenty}, Ghost.Ghost, ImageKinds.{IsFree, doing}, Invariant.InvWith, Kinds.Does, Owing.{Owing, is_insert_work}, Placing.NobodyAt, Setting.{Setting, actor_count, cell_count, site_in}, Steps.{HasSight, IsKept}, Telling.{IsProgress, Telling}, Values.{ActorValue, JobValue}, View.{View, view, row_at}, Working.IsBalancing, World.{World, Change, Agrees, after}, declared.command.Balance.Balance, declared.command.Command.Command, declared.command.Work.Work, declared.role.Role.Role}
use Rattle.volap_cell.specs.declared.command.Work.TheVariants as work_is
use Rattle.volap_cell.specs.declared.kind.Kind.TheVariants as kind
use Rattle.volap_cell.proofs.{Histories.Books.EventNew, OneEvent.Noted.telling-begins, OneEvent.Quiet.{Told, told-here}, Views.Books.by_call, Views.Fields.IsNewAt, Views.Frames.{actor-at, actor-off}, Views.Seen.renewed}
use Rattle.core_image.proofs.{Commands.Begun.{begun-desking, begun-inserting, begun-placing}, Commands.Jobs.{IsNewJob, begun-jobs, begun-stamping, begun-stocking, started-balancing, started-working}, Commands.Owed.{owed-others, promises-now}, Lessens.Remains.{control_at, control-changed, gates-changed, rows_at, rows-changed}}

-- the most that a command may bring of what the controlling stream still has
abbrev pub most_control : Setting → ℕ
most_control s = 2 ^ 8 * (8 * plenty s) + cell_count s + 2 ^ 32

-- what a command is as it begins, over the history with its beginning
pub record IsBeginning (s : Setting) (v : View) (g : Ghost) (h : List Event) (of : ℕ) (role : Role) (purse : List Spare) (work : Work) (job : Option JobValue) : Type 0 where
  pub progress : IsProgress s h of work job role
  pub new_job : (j : JobValue) → job ≡ Some j → IsNewJob s h role purse work j
  pub off_desk : is_on_desk work ≡ false
  pub no_insert : is_insert_work work ≡ false
  pub balance : (b : Balance) → work ≡ work_is.Balance b → IsBalancing s h g.placed g.home job of b
  pub control : control_of s work + job_left s v job ≤ most_control s
  pub gates : gates_of_work v.history work ≤ 2

module _ (cs : List Change) (b : ActorValue) (s : Setting) (w : World) (n : ℕ) (g : Ghost) (i : InvWith s (view s w) g) (ag : Agrees w cs n (w.actors n)) (call : Call) (valid : IsCallOf s.hierarchy call) (work : Work) (job : Option JobValue) (free : IsFree (w.actors n)) (there : n < actor_count s)
    (pushed : EventNew (view s (after w cs n b)) (view s w) (Called (w.actors n).number call) (1 + owes work) 1 b.seen) (few : length (Called (w.actors n).number call ∷ (view s w).history) + (view s (after w cs n b)).promised < 2 ^ 31)
    (viewed : view s (after w cs n b) ≡ renewed by_call (view s (after w cs n b)) (view s w))
    (is : IsBeginning s (view s w) g (Called (w.actors n).number call ∷ (view s w).history) (length (view s w).history) ((view s w).roles n) ((view s w).purses n) work job)
    (actor_is : b ≡ record (w.actors n) { command = doing (length (view s w).history) work; job = job; seen = b.seen }) where
  abbrev v : View
  v = view s w

  abbrev h : List Event
  h = v.history

  abbrev w2 : World
  w2 = after w cs n b

  abbrev u : View
  u = view s w2

  abbrev e : Event
  e = Called (w.actors n).number call

  -- the view afterwards, with its history written out
  abbrev v2 : View
  v2 = record (renewed by_call u v) { history = e ∷ h; row = row_at (e ∷ h) }

  same : u ≡ v2
  same = viewed ∙ (λ k. record (renewed by_call u v) { history = pushed.history_is k; row = row_at (pushed.history_is k) })

  abbrev its : Command
  its = record { of = length h; work = work }

  actor-now : w2.actors n ≡ record (w.actors n) { command = Some its; job = job; seen = b.seen }
  actor-now = actor-at w.actors n b ∙ actor_is

  begin : IsNewAt v2.commands v.commands n None (Some its)
  begin = record {
    was_there = free.command;
    is_there = ap (λ (a : ActorValue). a.command) actor-now;
    elsewhere = λ a ne. ap (λ (x : ActorValue). x.command) (actor-off w.actors n b a ne);
  }

  new : IsNewAt v2.jobs v.jobs n None job
  new = record {
    was_there = free.job;
    is_there = ap (λ (a : ActorValue). a.job) actor-now;
    elsewhere = λ a ne. ap (λ (x : ActorValue). x.job) (actor-off w.actors n b a ne);
  }

  told : Told s v g (e ∷ h)
  told = told-here s w g e refl (λ a of balance is. refl) i

  out : (r : ℕ) (x : Row) → Some its ≡ doing r (work_is.Insert x false) → (g.placed r ≡ false) × NobodyAt v.ways r
  out r x same_work = absurd (false≢true (sym is.no_insert ∙ ap (λ (c : Option Command). option_map_or (λ (k : Command). is_insert_work k.work) c false) same_work))

  telling-now : Telling s (e ∷ h) v2.commands v2.jobs v.roles v2.seen g.placed
  telling-now = telling-begins s e h n v.commands v2.commands v.jobs v2.jobs v.roles v.seen v2.seen g.placed
      (record {
        others = λ a ne. (begin.elsewhere a ne, new.elsewhere a ne, ap (λ (x : ActorValue). x.seen) (actor-off w.actors n b a ne));
        all_seen = ap (λ (x : ActorValue). x.seen) actor-now ∙ pushed.all_seen ∙ ap length pushed.history_is;
      })
      (KeepsRight-called (site_in s) g.placed h (w.actors n).number call valid i.telling.right) i.telling
      (ap Some (i.numbering.number n)) free.command
      (λ c has. let it : its ≡ c = (let both : ◌≡◌ {A = Option Command} (Some its) (Some c) = sym begin.is_there ∙ has in cc) in
      subst (λ (x : Command). (x.of ≡ length h) × IsProgress s (e ∷ h) x.of x.work (v2.jobs n) (v.roles n)) it
      (refl, subst (λ (j : Option JobValue). IsProgress s (e ∷ h) (length h) work j (v.roles n)) (sym new.is_there) is.progress))
      (inr (its, begin.is_there))
      (λ insert none. let never : ◌≡◌ {A = Option Insert} None (Some insert) = none in absurd (cc))
      (λ q none. let never : ◌≡◌ {A = Option Query} None (Some q) = none in absurd (cc))

  owing-now : Owing s (e ∷ h) v2.promised v.images v.desks v.roles v2.commands v.counted_in
  owing-now = record {
    promises = promises-now (actor_count s) n there v.commands v2.commands None (Some its) begin v.promised v2.promised (1 + owes work) 1 pushed.promised_is (omega arith) i.owing.promises;
    few = few;
    image = λ x lt. i.owing.image x lt ∙ sym (owed-others (actor_count s) n there v.commands v2.commands None (Some its) begin v.roles refl is.no_insert x);
    sessions = i.owing.sessions;
  }

  holds : InvWith s v2 g
  holds = record {
    numbering = begun-jobs n its v.commands v2.commands begin job v.jobs v2.jobs new s (e ∷ h) v.roles v.purses is.new_job v.tags v.numbers v.settings v.counted_in v.taken there i.numbering;
    telling = telling-now;
    owing = owing-now;
    turning = i.turning;
    stocking = begun-stocking n its v.commands v2.commands begin job v.jobs v2.jobs new s (e ∷ h) v.roles v.purses is.new_job v.stock v.made v.gates v.phases v.pins v.gone g.owner g.shape i.stocking;
    stamping = begun-stamping n its v.commands v2.commands begin job v.jobs v2.jobs new s (e ∷ h) v.roles v.purses is.new_job v.stock v.blocks v.made v.trees v.gates v.phases v.pins v.reads g.shape i.stamping;
    lineage = told.lineage;
    leading = i.leading;
    growing = told.growing;
    queueing = told.queueing;
    resting = told.resting;
    placing = begun-placing n its v.commands v2.commands begin s (e ∷ h) v.ways v.queues g.gate g.shape g.placed g.home g.path told.placing;
    inserting = begun-inserting n its v.commands v2.commands begin s (e ∷ h) v.images v.desks v.ways g.placed g.path out told.inserting;
    imaging = told.imaging;
    covering = told.covering;
    desking = begun-desking n its v.commands v2.commands begin s (e ∷ h) v.desks v.roles v.taken is.off_desk told.desking;
    pinning = i.pinning;
    querying = told.querying;
    working = started-working n its v.commands v2.commands begin job v.jobs v2.jobs new s (e ∷ h) v.roles v.purses is.new_job v.blocks v.made v.trees v.phases v.active v.queues g.gate g.shape g.placed told.working;
    balancing = started-balancing n its v.commands v2.commands begin job v.jobs v2.jobs new s (e ∷ h) v.roles v.purses is.new_job g.placed g.home is.balance told.balancing;
    reusing = i.reusing;
  }

  -- What is left.

  others : (a : ℕ) → a ≢ n → w2.actors a ≡ w.actors a
  others a ne = actor-off w.actors n b a ne

  stay : ShardsStay s.workers e h
  stay = (quiet s.hierarchy s.workers e h refl).shards

  begins : BringsWork s (left s w g) (left s w2 g) h u.history
  begins =
      let control = control-changed s w w2 g n v2 same others (inl there) refl refl in
      let gates = gates-changed s w w2 g n v2 same others (inl there) e h refl refl stay refl in
      let rows = rows-changed s w w2 g n v2 same others (inl there) in
      let no_control : control_at s v (w.actors n) ≡ 0 = (λ k. of_work (control_of s) (free.command k) + job_left s v (free.job k)) in
      let control_now : control_at s v (w2.actors n) ≡ control_of s work + job_left s v job = ap (control_at s v) actor-now in
      let no_gates : of_work (gates_of_work h) (w.actors n).command ≡ 0 = ap (of_work (gates_of_work h)) free.command in
      let gates_now : of_work (gates_of_work h) (w2.actors n).command ≡ gates_of_work h work = ap (of_work (gates_of_work h)) begin.is_there in
      let errand = ap (λ (x : ActorValue). gates_of_errand s h x.errand) actor-now in
      let row_parts = ap (rows_at g) actor-now in
      let most = is.control in
      let few_gates = is.gates in
      record {
        e = e;
        begun = refl;
        grown = pushed.history_is;
        control = at-most _ _ _ _ _ control no_control control_now most;
        gates = omega (arith, gates, no_gates, gates_now, errand, few_gates);
        rows = omega (arith, rows, row_parts);
      }
    where
      at-most : (now before was is_now most : ℕ) → now + was ≡ before + is_now → was ≡ 0 → {x : ℕ} → is_now ≡ x → x ≤ most → now ≤ before + most
      at-most now before was is_now most sums none at le = omega (arith, sums, none, at, le)

  pub call-kept : (does : Does s.hierarchy kind.Note cs (w.actors n) b) → HasSight s w n s.hierarchy kind.Note cs (w.actors n) b does → IsKept s kind.Note n w w2 g
  call-kept does sight = record {
    step = record { changes = cs; actor = b; agrees = ag; does = does; sight = sight; now_is = refl };
    ghost_now = g;
    holds = subst (λ (z : View). InvWith s z g) (sym same) holds;
    newer = e ∷ [];
    grows = pushed.history_is;
    goes_on = inr (inl begins);
  }
