-- A caller stays one: a pass of its hall with its role, through its calls.
use Rattle.std.proofs.lemmas.Bool.{false≢true}
use Rattle.std.proofs.Common.{◌≡◌, ◌∙◌, ℕ, ◌^◌, ◌<◌, ◌≤◌, List, [], ◌∷◌, ◌++◌, length, Option, None, Result, Ok, Err, IsErr, inl, inr, refl, sym, ap, subst, arith}
use Rattle.std.specs.Prelude.{OnErr, OnOk}
use Rattle.actor_run.proofs.{Chains.extends-length, PassAndSession.pass-stands}
use Rattle.actor_run.specs.{Called.{EndedCall, EndedSo, EndsCall, HasBegunNothing, NotCalled, TriesCall, WasRefused}}
use Rattle.atomic_table.specs.Seated.{TableId}
use Rattle.actor_run.specs.call_steps.specs.{Calls.CanCall, Opened.IsCallDone}
use Rattle.job_steps.specs.core_image.specs.Told.{refused_by}
use Rattle.dim_hierarchy.specs.Dimension.{Dimension}
use Rattle.hall_admin.specs.{Callers.{IsCaller, StaysCaller}, Jobs.IsOfJob, Pulls.TriesSync, declared.puller.Synced.Synced}
use Rattle.row_ledger.proofs.Positions.{event_at-here}
use Rattle.row_ledger.specs.{Classes.class_of, Groups.IsCallOf, Past.event_at, Right.IsRight, Site.{Site, site_of}, declared.class.Class.Class, declared.event.Event.Event, declared.settings.{Call.Call, How.How}}
use Rattle.row_ledger.specs.declared.class.Class.TheVariants as class
use Rattle.row_ledger.specs.declared.{event.Event.TheVariants.Refused, settings.Call.TheVariants.{Group, Sync}}
use Rattle.row_ledger.specs.declared.settings.How.TheVariants as how_it
use Rattle.script_run.proofs.{Begin.begins-own, PlaceFacts.begins_of-here}
use Rattle.script_run.specs.Places.{begins_of}
use Rattle.job_steps.specs.seat_steps.proofs.{Around.around, Since.extends-on}
use Rattle.job_steps.specs.seat_steps.specs.{Booked.IsAsBefore, Floors.{IsSeated, Stands, kept_on}, declared.floor.{Floor.Floor, Player.Player}}
use Rattle.actor_run.specs.session_steps.proofs.Heard.{begun-nothing, numbered, right-seen}
use Rattle.actor_run.specs.session_steps.specs.Begins.{HasNoted}
use Rattle.turn_table.specs.Numbered.{Extends}
use Rattle.job_steps.specs.volap_cell.specs.{Commands.{MayCall, MayCallAs}, Errands.way_of, ImageKinds.IsFree, Setting.{Setting, actor_count, site_in}, Sights.IsIdle, Values.{ActorValue, ErrandValue, actor_of}, declared.role.Role.Role}
use Rattle.job_steps.specs.volap_cell.specs.declared.role.Role.TheVariants as is_role
use Rattle.job_steps.specs.volap_turns.specs.Seats.{Holds}

-- an end is one of which something stands in the history
ended-so : (f : Floor) (number : ℕ) (call : Call) (how : How) (was now : List Event) → EndedCall f number call how was now → EndedSo f number call how was now
ended-so f number call how_it.NoMemory was now ended = inr ended
ended-so f number call how was now ended = ended

-- and that is how the call ends
pub ends-call : (f : Floor) (number : ℕ) (call : Call) (how : How) (was now : List Event) → EndedSo f number call how was now → EndsCall f number call how was now
ends-call f number call how_it.NoMemory was now ended = inr ended
ends-call f number call how was now ended = ended

-- what was refused behind a time in which nothing began was refused
pub noted-behind : (n : ℕ) (was mid now : List Event) → Extends mid was → begins_of mid n ≡ begins_of was n → WasRefused n mid now → WasRefused n was now
noted-behind n was mid now more nothing refused = record {
  of = refused.of;
  past = (let longer = extends-length was mid more in let past = refused.past in omega (arith, longer, past));
  at = refused.at;
  one = refused.one ∙ ap (λ (l : List ℕ). l ++ refused.of ∷ []) nothing;
  older = refused.older;
  newest = refused.newest;
}

refused-behind : {T E : Type 0} (n : ℕ) (r : Result T E) (was mid now : List Event) → Extends mid was → begins_of mid n ≡ begins_of was n → NotCalled n r mid now → NotCalled n r was now
refused-behind n (Err e) was mid now more nothing none = none ∙ nothing
refused-behind n (Ok u) was mid now more nothing refused = noted-behind n was mid now more nothing refused

-- an administrator without a job has nothing in its purse
unspent : (f : Floor) (p : Player) → IsSeated f p → (actor_of p.actor).role ≡ is_role.Admin → (actor_of p.actor).job ≡ None → (actor_of p.actor).purse ≡ []
unspent f p seated role none =
    let it = around f p seated in
    let same = it.2.actor in
    ap (λ (x : ActorValue). x.purse) (sym same)
    ∙ it.2.inv.holds.numbering.idle p.number (ap (λ (x : ActorValue). x.role) same ∙ role) (ap (λ (x : ActorValue). x.job) same ∙ none)

-- it may call a split, a move or a balance
may-call : (class : Class) → IsOfJob class → MayCallAs is_role.Admin class
may-call (class.Action action) kind = tt
may-call (class.Balance most) kind = tt
may-call class kind = absurd kind

module _ (f : Floor) (role : Role) (was : Player) (c : IsCaller f role was) where
  abbrev a : ActorValue
  a = actor_of was.actor

  pub caller-stands : Stands f was
  caller-stands = pass-stands f was c.pass c.own

  pub caller-free : IsFree a
  caller-free = record { command = c.pass.idle.command; errand = c.pass.idle.errand; job = c.pass.idle.job }

  -- the actor is the same but for what it has noted, its rooms, and what it keeps of gates
  abbrev IsBut : ActorValue → Type 0
  IsBut b = b ≡ record a { seen = b.seen; boxes = b.boxes; gone_gates = b.gone_gates }

  -- Behind steps that leave it so, it is a caller still.
  module _ (now : Player) (stands : Stands f now) (number : now.number ≡ was.number) (same : IsBut (actor_of now.actor)) (noted : (actor_of now.actor).seen ≤ length now.seat.view.seen)
      (later : Extends now.seat.view.seen was.seat.view.seen) where
    setting : (actor_of now.actor).setting ≡ a.setting
    setting = ap (λ (x : ActorValue). x.setting) same

    idle : IsIdle (actor_of now.actor)
    idle = record {
      command = ap (λ (x : ActorValue). x.command) same ∙ c.pass.idle.command;
      errand = ap (λ (x : ActorValue). x.errand) same ∙ c.pass.idle.errand;
      job = ap (λ (x : ActorValue). x.job) same ∙ c.pass.idle.job;
      purse = ap (λ (x : ActorValue). x.purse) same ∙ c.pass.idle.purse;
      counted = ap (λ (x : ActorValue). x.counted) same ∙ c.pass.idle.counted;
    }

    right : IsRight (site_in (actor_of now.actor).setting) now.seat.view.seen
    right = right-seen f now stands.seated (
        let servers : (actor_of now.actor).setting.servers ≡ a.setting.servers = ap (λ (x : Setting). x.servers) setting in
        let opened : a.setting.servers ≤ length was.seat.view.seen = c.pass.right.opened in
        let longer = extends-length was.seat.view.seen now.seat.view.seen later in omega arith)

    site : site_in (actor_of now.actor).setting ≡ site_of f.with f.hierarchy
    site = λ i. record { hierarchy = stands.seated.holds.one.about i; servers = stands.seated.servers i; workers = stands.seated.workers i }

    still-caller : IsCaller f role now
    still-caller =
        let seated = stands.seated in
        record {
          pass = record {
            holds = subst (λ (x : TableId × List Dimension). Holds x.1 x.0 now.seat now.number now.actor) (λ i. (sym seated.holds.own i, sym seated.holds.one.about i)) seated.holds;
            bare = stands.bare ∙ ap (λ (o : Option ErrandValue). kept_on (way_of o)) idle.errand;
            alone = seated.alone;
            idle = idle;
            noted = noted;
            few = subst (λ (x : Setting). actor_count x < 2 ^ 16) (sym setting) c.pass.few;
            right = right;
          };
          own = record { table = seated.holds.own; hierarchy = seated.holds.one.about; servers = seated.servers; workers = seated.workers };
          role_is = ap (λ (x : ActorValue). x.role) same ∙ c.role_is;
        }

    stays : (Ends : List Event → List Event → Type 0) → Ends was.seat.view.seen now.seat.view.seen → StaysCaller f role Ends was now
    stays Ends ends = record {
      caller = still-caller;
      number = number;
      heard = record { later = later; right = subst (λ (x : Site). IsRight x now.seat.view.seen) site right };
      ends = ends;
    }

  -- where it has noted nothing more, it began nothing
  pub stays-idle : (now : Player) → Stands f now → now.number ≡ was.number → IsBut (actor_of now.actor) → (actor_of now.actor).seen ≡ a.seen → Extends now.seat.view.seen was.seat.view.seen → StaysCaller f role (HasBegunNothing was.number) was now
  stays-idle now stands number same few later =
      let noted : (actor_of now.actor).seen ≤ length was.seat.view.seen = (let before = c.pass.noted in omega (arith, before, few)) in
      let longer = extends-length was.seat.view.seen now.seat.view.seen later in
      stays now stands number same (omega (arith, noted, longer)) later (HasBegunNothing was.number)
      (subst (λ (n : ℕ). begins_of now.seat.view.seen n ≡ begins_of was.seat.view.seen n) number (begun-nothing f now stands.seated was.seat.view.seen later noted))

  -- so it is where it is as before
  pub stays-before : (now : Player) → IsAsBefore f was now → StaysCaller f role (HasBegunNothing was.number) was now
  stays-before now before = stays-idle now before.stands before.number (subst IsBut (sym before.actor) refl) (ap (λ (x : ActorValue). x.seen) before.actor) before.seen

  -- its command was noted as refused
  pub stays-refused : (now : Player) → HasNoted f refused_by was now → StaysCaller f role (WasRefused was.number) was now
  stays-refused now noted =
      let older = noted.pushed.older in
      let e = Refused was.number in
      let is : now.seat.view.seen ≡ e ∷ older = noted.pushed.now_is ∙ ap (λ (n : ℕ). Refused n ∷ older) (numbered f was caller-stands.seated) in
      let longer = extends-length was.seat.view.seen older noted.pushed.behind in
      let all = ap (λ (x : ActorValue). x.seen) noted.actor in
      let refused : WasRefused was.number was.seat.view.seen now.seat.view.seen = record {
        of = length older;
        past = longer;
        at = ap (λ (h : List Event). event_at h (length older)) is ∙ event_at-here e older;
        one = ap (λ (h : List Event). begins_of h was.number) is ∙ begins_of-here e older was.number (begins-own was.number e refl) ∙ ap (λ (l : List ℕ). l ++ length older ∷ []) noted.pushed.only;
        older = older;
        newest = is;
      } in
      stays now noted.pushed.stands noted.pushed.number (subst IsBut (sym noted.actor) refl) (omega (arith, all))
      (extends-on now.seat.view.seen older was.seat.view.seen (e ∷ [], is) noted.pushed.behind) (WasRefused was.number) refused

  -- where there was memory for that
  pub stays-noted : {E : Type 0} (now : Player) (r : Result (Unit {0}) E) → OnOk r (HasNoted f refused_by was now) → OnErr r (IsAsBefore f was now) → StaysCaller f role (NotCalled was.number r) was now
  stays-noted now (Ok done) noted same = (let stays = stays-refused now noted in record { caller = stays.caller; number = stays.number; heard = stays.heard; ends = stays.ends })
  stays-noted now (Err fault) noted same = (let stays = stays-before now same in record { caller = stays.caller; number = stays.number; heard = stays.heard; ends = stays.ends })

  -- Its call has ended, and its purse is empty.
  module _ (of : ℕ) (call : Call) (how : How) (now : Player) (done : IsCallDone f of call how was now) where
    pub stays-done : (actor_of now.actor).purse ≡ [] → StaysCaller f role (EndedSo f was.number call how) was now
    stays-done purse =
        let b = actor_of now.actor in
        let but : IsBut b = done.actor ∙ (λ i. record a {
          command = sym c.pass.idle.command i;
          job = sym c.pass.idle.job i;
          purse = (purse ∙ sym c.pass.idle.purse) i;
          seen = b.seen;
          boxes = b.boxes;
          gone_gates = b.gone_gates;
        }) in
        let all = done.noted in
        stays now done.stands done.called.number but (omega (arith, all)) done.called.seen (EndedSo f was.number call how) (ended-so f was.number call how was.seat.view.seen now.seat.view.seen (record {
          of = of;
          began = record { past = done.called.past; at = done.called.at; one = done.called.one };
          older = done.older;
          newest = done.newest;
          pulls = done.pulls;
        }))

    -- so is an administrator's, who has no job
    pub stays-admin : role ≡ is_role.Admin → StaysCaller f role (EndedSo f was.number call how) was now
    stays-admin admin =
        stays-done (unspent f now done.stands.seated (ap (λ (x : ActorValue). x.role) done.actor ∙ c.role_is ∙ admin) (ap (λ (x : ActorValue). x.job) done.actor))

-- Behind a time in which it began nothing.
module _ (f : Floor) (role : Role) (was mid now : Player) (first : StaysCaller f role (HasBegunNothing was.number) was mid) where
  pub stays-behind : (Ends : ℕ → List Event → List Event → Type 0) → (Ends was.number mid.seat.view.seen now.seat.view.seen → Ends was.number was.seat.view.seen now.seat.view.seen)
      → StaysCaller f role (Ends mid.number) mid now → StaysCaller f role (Ends was.number) was now
  stays-behind Ends on second = record {
    caller = second.caller;
    number = second.number ∙ first.number;
    heard = record { later = extends-on now.seat.view.seen mid.seat.view.seen was.seat.view.seen second.heard.later first.heard.later; right = second.heard.right };
    ends = on (subst (λ (n : ℕ). Ends n mid.seat.view.seen now.seat.view.seen) first.number second.ends);
  }

-- It was refused there.
pub refused-later : {T E : Type 0} (r : Result T E) (f : Floor) (role : Role) (was mid now : Player) → StaysCaller f role (HasBegunNothing was.number) was mid → StaysCaller f role (NotCalled mid.number r) mid now
    → StaysCaller f role (NotCalled was.number r) was now
refused-later r f role was mid now first second =
    stays-behind f role was mid now first (λ (n : ℕ). NotCalled n r) (refused-behind was.number r was.seat.view.seen mid.seat.view.seen now.seat.view.seen first.heard.later first.ends) second

module _ (f : Floor) (role : Role) (was now : Player) where
  -- so its call found no memory
  pub stays-unmade : (call : Call) → StaysCaller f role (WasRefused was.number) was now → StaysCaller f role (EndedSo f was.number call how_it.NoMemory) was now
  stays-unmade call stays = record { caller = stays.caller; number = stays.number; heard = stays.heard; ends = inl stays.ends }

  -- and nothing of it stands in the history

  pub call-nothing : {E : Type 0} (r : Result How E) → IsErr r → (call : Call) → StaysCaller f role (HasBegunNothing was.number) was now → StaysCaller f role (TriesCall f was.number call r) was now
  call-nothing (Ok x) is call stays = absurd (false≢true is)
  call-nothing (Err e) is call stays = record { caller = stays.caller; number = stays.number; heard = stays.heard; ends = stays.ends }

  pub sync-nothing : {E : Type 0} (r : Result Synced E) → IsErr r → (server : ℕ) → StaysCaller f role (HasBegunNothing was.number) was now → StaysCaller f role (TriesSync f was.number server r) was now
  sync-nothing (Ok x) is server stays = absurd (false≢true is)
  sync-nothing (Err e) is server stays = record { caller = stays.caller; number = stays.number; heard = stays.heard; ends = stays.ends }

-- What it may call.

-- the calls of jobs name nothing
of-job : (h : List Dimension) (call : Call) → IsOfJob (class_of call) → IsCallOf h call
of-job h (Group dim level filter) kind = absurd kind
of-job h call kind = tt

module _ (f : Floor) (p : Player) where
  pub admin-can : (call : Call) → IsCaller f is_role.Admin p → IsOfJob (class_of call) → CanCall f call p
  admin-can call c kind = record {
    free = caller-free f is_role.Admin p c;
    allowed = subst (λ (r : Role). MayCall r call) (sym c.role_is) (may-call (class_of call) kind);
    server = λ x e. absurd (subst IsOfJob e kind);
    valid = of-job f.hierarchy call kind;
    noted = c.pass.noted;
  }

  pub puller-can : (server : ℕ) → IsCaller f is_role.Puller p → server < f.with.servers → CanCall f (Sync server) p
  puller-can server c low = record {
    free = caller-free f is_role.Puller p c;
    allowed = subst (λ (r : Role). MayCall r (Sync server)) (sym c.role_is) tt;
    server = λ x e. (let same : server ≡ x = cc in subst (λ (n : ℕ). n < f.with.servers) same low);
    valid = tt;
    noted = c.pass.noted;
  }
