-- The command that closes a phase, with nothing beside it.
use Rattle.std.proofs.{Common.{◌≡◌, ◌≢◌, ◌∙◌, ℕ, zero, suc, ◌+◌, ◌<◌, ◌≤◌, Bool, true, false, cond, List, [], ◌∷◌, ◌++◌, length, take, slice_get, Some, Result, Ok, Err, IfSome, inl, inr, refl, sym, ap, subst, arith}, lemmas.Bool.{cases_lt, false≢true, ne_eqb}, lemmas.Option.slice_get_within}
use Rattle.std.specs.Prelude.{◌==◌, IsTrue, OnErr, OnOk, option_and_then}
use Rattle.dim_hierarchy.specs.declared.filter.NamePick.{NamePick}
use Rattle.hall_hands.specs.actor_run.specs.{Passes.{IsAdminOf, PassesValue}, Wholes.{AddsNothing, AreToldBy, AreToldGroup, EndsIn, HaveGoneOn, HaveNotedUnknown, HaveReused, HaveSettledSo, IsGroupNamed}}
use Rattle.hall_hands.specs.core_told.proofs.Pulled.{pulled-more, pulled-none, settle-next, twice-length}
use Rattle.row_ledger.proofs.Positions.{event_at-here}
use Rattle.row_ledger.specs.{Classes.class_of, Past.{before, call_at, call_in, event_at, is_over}, Right.IsRight, Settled.{pulls_since, settle_pulls}, Site.site_of, declared.class.Subject.Subject, declared.event.Event.Event, declared.page.Page.Page, declared.settings.{Call.Call, How.How, Use.Use}}
use Rattle.row_ledger.specs.declared.class.Class.TheVariants as class
use Rattle.row_ledger.specs.declared.event.Event.TheVariants.{Called, Ended, Shown, Synced, Unknown}
use Rattle.row_ledger.specs.declared.settings.Call.TheVariants.{Barrier, Settle, Sync}
use Rattle.row_ledger.specs.declared.settings.How.TheVariants as how_it
use Rattle.script_form.specs.declared.script.{Command.Command, Command.TheVariants.{Control, Group}}
use Rattle.script_run.proofs.{Begin.begins-own, PlaceFacts.{begins_of-here, begins_of-other}}
use Rattle.script_run.specs.{Phases.is_closing, Places.{begins_of, session_of, session_of_call}, Runs.{ArePulls, Begins, HasPulls, PullsAlone, is_pulling}}
use Rattle.hall_hands.specs.seat_steps.specs.declared.floor.Floor.{Floor}
use Rattle.session_runs.proofs.Pulls.{plain-pulls}
use Rattle.session_runs.specs.Sessions.{BeginsNothing, DoesCommand, DoesInTurn, EachDoes, EndsWithPulls, stream_of}
use Rattle.hall_hands.specs.session_steps.proofs.Grown.{at-pushed}
use Rattle.threaded_run.proofs.{Called.{admin-calls, ends-pulled}, Done.{over-here, over-itself, unpulled}, Turns.does-own}
use Rattle.script_roles.specs.Roles.{IsNumbered}
use Rattle.threaded_run.specs.Phases.{AreBack, ArePhased}
use Rattle.script_roles.specs.volap_cell.specs.{Setting.{Setting, actor_count}, declared.role.{Role.Role, Role.TheVariants.{Admin, Puller}}}
use Rattle.hall_hands.specs.whole_steps.specs.Settles.{ArePulls as ArePullsOfSettle}
use Rattle.hall_hands.specs.whole_steps.specs.declared.{settles.Settled.Settled, tells.Paged.Paged}
use Rattle.hall_hands.specs.whole_steps.specs.declared.settles.Settled.TheVariants as settled
use Rattle.hall_hands.specs.whole_steps.specs.declared.tells.Paged.TheVariants as paged
use Rattle.row_ledger.specs.declared.settings.Decline.TheVariants as decline

take-whole : (l : List ℕ) (n : ℕ) → n ≡ length l → take n l ≡ l
take-whole [] zero is = refl
take-whole [] (suc n) is = refl
take-whole (x ∷ l) zero is = absurd (omega (arith, is))
take-whole (x ∷ l) (suc n) is = ap (λ (m : List ℕ). x ∷ m) (take-whole l n (omega (arith, is)))

-- Events that begin nothing.

abbrev pub BeginNone : List Event → Type 0
BeginNone between = (n : ℕ) (past : List Event) → begins_of (between ++ past) n ≡ begins_of past n

-- a page that is shown begins nothing
shown-none : (at : ℕ) (shown : Page) → BeginNone (Shown at shown ∷ [])
shown-none at shown n past = begins_of-other (Shown at shown) past n refl

-- Pulls of a settle.

module _ (servers : ℕ) (number : ℕ) (older : List Event) where
  abbrev begun : List Event
  begun = Called number Settle ∷ older

  pulls-behind : (pulls : List Event) → ArePullsOfSettle servers pulls → length older < length (pulls ++ begun)
  pulls-behind [] are = omega arith
  pulls-behind (e ∷ pulls) are = (let low = pulls-behind pulls are.1 in omega (arith, low))

  pub pulled-list : (pulls : List Event) → ArePullsOfSettle servers pulls → pulls_since (pulls ++ begun) (length older) ≡ take (length pulls) (settle_pulls servers)
  pulled-list [] are = pulled-none (Called number Settle) older
  pulled-list (e ∷ pulls) (one, are) =
      ap (λ (x : Event). pulls_since (x ∷ (pulls ++ begun)) (length older)) one.event
      ∙ pulled-more one.server one.listing (pulls ++ begun) (length older) (pulls-behind pulls are)
      ∙ ap (λ (l : List ℕ). l ++ one.server ∷ []) (pulled-list pulls are)
      ∙ sym (settle-next servers (length pulls) one.server one.next)
      ∙ ap (λ (n : ℕ). take n (settle_pulls servers)) (let same : length pulls + 1 ≡ suc (length pulls) = omega arith in same)

  pub pulls-begin-none : (pulls : List Event) → ArePullsOfSettle servers pulls → BeginNone pulls
  pulls-begin-none [] are n past = refl
  pulls-begin-none (e ∷ pulls) (one, are) n past =
      ap (λ (x : Event). begins_of (x ∷ (pulls ++ past)) n) one.event
      ∙ begins_of-other (Synced one.server one.listing) (pulls ++ past) n refl ∙ pulls-begin-none pulls are n past

-- what was pulled, where it is known which call ended
has-pulls : (with : Use) (past : List Event) (of : ℕ) (call : Call) (how : How) → call_at past of ≡ Some call → ArePulls with.servers (class_of call) how (pulls_since past of) → HasPulls with past (Ended of how)
has-pulls with past of call how at are = subst (λ o. IfSome o (λ called. ArePulls with.servers (class_of called) how (pulls_since past of))) (sym at) are

call-at : (between older : List Event) (number : ℕ) (call : Call) → call_at (between ++ Called number call ∷ older) (length older) ≡ Some call
call-at between older number call = ap (option_and_then call_in) (at-pushed between older (Called number call))

-- which classes close
closing-no-sync : (call : Call) → is_closing (class_of call) ≡ true → (server : ℕ) → call ≡ Sync server → ⊥
closing-no-sync call closes server is = false≢true (sym (ap (λ (c : Call). is_closing (class_of c)) is) ∙ closes)

module _ (f : Floor) (was now : PassesValue) (phased : ArePhased f was) (on : HaveGoneOn f was now) where
  -- the administrator's number
  admin-is : (k : ℕ) → IsAdminOf was.setting k → k ≡ f.with.servers + 1
  admin-is k at = elim (cases_lt (k + 1) (actor_count was.setting)) [
    | inl low ↦ phased.roles k Admin low at
    | inr high ↦
        let within = slice_get_within was.setting.roles k Admin at in
        let never : Some Admin ≡ Some Puller = sym at ∙ phased.last k (omega (arith, within, high)) in
        absurd (cc)
  ]

  pub all-on : AreBack f was now
  all-on =
      let same = ap (λ (p : PassesValue). p.setting) on.same in
      record {
        phased = record {
          own = on.own;
          all = on.all;
          many = subst (λ (s : Setting). f.with.servers + 3 ≤ actor_count s) (sym same) phased.many;
          roles = subst (λ (s : Setting). (n : ℕ) (r : Role) → n + 1 < actor_count s → slice_get s.roles n ≡ Some r → IsNumbered r f.with n) (sym same) phased.roles;
          last = subst (λ (s : Setting). (n : ℕ) → n + 1 ≡ actor_count s → slice_get s.roles n ≡ Some Puller) (sym same) phased.last;
        };
        setting = same;
        later = on.later;
      }

  else-nothing : (k : ℕ) → k ≢ f.with.servers + 1 → BeginsNothing k was.seen now.seen
  else-nothing k other = record { later = on.later; none = on.others k (λ at. other (admin-is k at)) }

  pub all-nothing : AddsNothing was now → (k : ℕ) → BeginsNothing k was.seen now.seen
  all-nothing adds k = elim (cases_lt k (f.with.servers + 1)) [
    | inl low ↦ else-nothing k (λ e. omega (arith, low, e))
    | inr high ↦ elim (cases_lt (f.with.servers + 1) k) [
      | inl above ↦ else-nothing k (λ e. omega (arith, above, e))
      | inr here ↦
          let same : adds.number ≡ k = (let admin = admin-is adds.number adds.admin in omega (arith, high, here, admin)) in
          record { later = on.later; none = subst (λ (n : ℕ). begins_of now.seen n ≡ begins_of was.seen n) same adds.only }
    ]
  ]

  -- a command of the administrator is done, and no other
  each-one : (c : Command) (number : ℕ) → session_of f.with c ≡ f.with.servers + 1 → IsAdminOf was.setting number → DoesCommand f.with f.hierarchy number c was.seen now.seen
      → EachDoes f.with f.hierarchy (c ∷ []) was.seen now.seen
  each-one c number own at does session = elim (cases_lt session (f.with.servers + 1)) [
    | inl low ↦ other-does session (λ e. omega (arith, low, e))
    | inr high ↦ elim (cases_lt (f.with.servers + 1) session) [
      | inl above ↦ other-does session (λ e. omega (arith, above, e))
      | inr here ↦
          let admin = admin-is number at in
          let same : number ≡ session = omega (arith, high, here, admin) in
          does-own f.with f.hierarchy session c was.seen now.seen (own ∙ sym admin ∙ same) (subst (λ (n : ℕ). DoesCommand f.with f.hierarchy n c was.seen now.seen) same does)
    ]
  ]
    where
      other-does : (n : ℕ) → n ≢ f.with.servers + 1 → DoesInTurn f.with f.hierarchy n (stream_of f.with (c ∷ []) n) was.seen now.seen
      other-does n differs =
          let apart : (session_of f.with c == n) ≡ false = ne_eqb (session_of f.with c) n (λ e. differs (sym e ∙ own)) in
          subst (λ (l : List Command). DoesInTurn f.with f.hierarchy n l was.seen now.seen) (sym (ap (λ (b : Bool). cond b (c ∷ []) []) apart)) (else-nothing n differs)

  -- A command that begins with a call.
  module _ (c : Command) (of_admin : session_of f.with c ≡ f.with.servers + 1) (call : Call) (events : ℕ → List Event) (ends : EndsIn call events was now)
      (begins : (past : List Event) → Begins f.with f.hierarchy past c (Called ends.number call)) (how : How) (between : List Event)
      (is : events (length ends.older) ≡ Ended (length ends.older) how ∷ between) (none : BeginNone between) where
    abbrev of : ℕ
    of = length ends.older

    abbrev mid : List Event
    mid = between ++ Called ends.number call ∷ ends.older

    seen-is : now.seen ≡ Ended of how ∷ mid
    seen-is = ends.seen ∙ ap (λ (l : List Event). l ++ Called ends.number call ∷ ends.older) is

    whole-done : HasPulls f.with mid (Ended of how) → DoesCommand f.with f.hierarchy ends.number c was.seen now.seen
    whole-done pulls =
        let right = subst (IsRight (site_of f.with f.hierarchy)) seen-is on.right in
        record {
          later = on.later;
          of = of;
          one = ap (λ (l : List Event). begins_of l ends.number) seen-is ∙ begins_of-other (Ended of how) mid ends.number refl ∙ none ends.number (Called ends.number call ∷ ends.older)
              ∙ begins_of-here (Called ends.number call) ends.older ends.number (begins-own ends.number (Called ends.number call) refl) ∙ ap (λ (l : List ℕ). l ++ of ∷ []) ends.only;
          begins = (Called ends.number call, ap (λ (l : List Event). event_at l of) seen-is ∙ at-pushed (Ended of how ∷ between) ends.older (Called ends.number call), begins (before now.seen of));
          over = subst (λ (l : List Event). IsTrue (is_over l of)) (sym seen-is) (over-here (Ended of how) mid of refl);
          pulls = subst (λ (l : List Event). PullsAlone l of → EndsWithPulls f.with l of) (sym seen-is) (ends-pulled (site_of f.with f.hierarchy) f.with mid of how right (λ alone. pulls));
        }

    pub each-whole : HasPulls f.with mid (Ended of how) → EachDoes f.with f.hierarchy (c ∷ []) was.seen now.seen
    each-whole pulls = each-one c ends.number of_admin ends.admin (whole-done pulls)

    -- where the call pulls nothing
    pub each-plain : is_pulling (class_of call) ≡ false → EachDoes f.with f.hierarchy (c ∷ []) was.seen now.seen
    each-plain plain =
        each-whole
        (has-pulls f.with mid of call how (call-at between ends.older ends.number call) (plain-pulls f.with.servers (class_of call) how (pulls_since mid of) plain))

  -- A called command.
  module _ (call : Call) (closes : is_closing (class_of call) ≡ true) where
    of-admin : session_of f.with (Control call) ≡ f.with.servers + 1
    of-admin = admin-calls f.with call (closing-no-sync call closes)

    begins-called : (number : ℕ) → IsAdminOf was.setting number → (past : List Event) → Begins f.with f.hierarchy past (Control call) (Called number call)
    begins-called number at past = (admin-is number at ∙ sym of-admin, refl)

  -- Barriers.
  pub barrier-done : (call : Call) → class_of call ≡ class.Bare → EndsIn Barrier (λ of. Ended of how_it.Fine ∷ []) was now → EachDoes f.with f.hierarchy (Control call ∷ []) was.seen now.seen
  barrier-done Barrier is ends =
      each-plain (Control Barrier) refl Barrier (λ of. Ended of how_it.Fine ∷ []) ends (begins-called Barrier refl ends.number ends.admin) how_it.Fine [] refl (λ n past. refl) refl
  barrier-done call is ends = absurd (bare-only call is)
    where
      bare-only : (c : Call) → class_of c ≡ class.Bare → ⊥
      bare-only c e = cc

  -- Pages.

  page-ends : (call : Call) (subject : Subject) → class_of call ≡ class.Page subject → (events : ℕ → List Event) (ends : EndsIn call events was now) (how : How) (between : List Event)
      → events (length ends.older) ≡ Ended (length ends.older) how ∷ between → BeginNone between → EachDoes f.with f.hierarchy (Control call ∷ []) was.seen now.seen
  page-ends call subject is events ends how between at none =
      let closes : is_closing (class_of call) ≡ true = ap is_closing is in
      each-plain (Control call) (of-admin call closes) call events ends (begins-called call closes ends.number ends.admin) how between at none (ap is_pulling is)

  pub page-done : (call : Call) (subject : Subject) → class_of call ≡ class.Page subject → (r : Paged) → (r ≡ paged.NotBegun → ⊥) → AreToldBy f call r was now → EachDoes f.with f.hierarchy (Control call ∷ []) was.seen now.seen
  page-done call subject is (paged.Page shown) there told =
      page-ends call subject is (λ of. Ended of how_it.Fine ∷ Shown of shown ∷ []) told.ends how_it.Fine (Shown (length told.ends.older) shown ∷ []) refl (shown-none (length told.ends.older) shown)
  page-done call subject is paged.Unknown there told = page-ends call subject is (λ of. Ended of (how_it.Declined decline.Unknown) ∷ []) told.1 (how_it.Declined decline.Unknown) [] refl (λ n past. refl)
  page-done call subject is paged.Failed there told = page-ends call subject is (λ of. Ended of how_it.NoMemory ∷ []) told how_it.NoMemory [] refl (λ n past. refl)
  page-done call subject is paged.NotBegun there told = absurd (there refl)

  -- Groups.

  module _ (dim level : ℕ) (names : List NamePick) where
    group-ends : (call : Call) → IsGroupNamed f dim level names call → (events : ℕ → List Event) (ends : EndsIn call events was now) (how : How) (between : List Event)
        → events (length ends.older) ≡ Ended (length ends.older) how ∷ between → BeginNone between → EachDoes f.with f.hierarchy (Group dim level names ∷ []) was.seen now.seen
    group-ends call named events ends how between at none =
        each-plain (Group dim level names) refl call events ends (λ past. (admin-is ends.number ends.admin, (named.filter, named.named, named.call_is))) how between at none
        (ap (λ (c : Call). is_pulling (class_of c)) named.call_is)

    pub group-told : (r : Paged) → (r ≡ paged.NotBegun → ⊥) → AreToldGroup f dim level names r was now → EachDoes f.with f.hierarchy (Group dim level names ∷ []) was.seen now.seen
    group-told (paged.Page shown) there (call, named, told) =
        group-ends call named (λ of. Ended of how_it.Fine ∷ Shown of shown ∷ []) told.ends how_it.Fine (Shown (length told.ends.older) shown ∷ []) refl (shown-none (length told.ends.older) shown)
    group-told paged.Unknown there told = absurd told
    group-told paged.Failed there (call, named, ends) = group-ends call named (λ of. Ended of how_it.NoMemory ∷ []) ends how_it.NoMemory [] refl (λ n past. refl)
    group-told paged.NotBegun there told = absurd (there refl)

    -- where a name stands for nothing
    pub group-unknown : (unknown : ℕ) → HaveNotedUnknown f names unknown was now → EachDoes f.with f.hierarchy (Group dim level names ∷ []) was.seen now.seen
    group-unknown unknown noted =
        let ends = noted.ends in
        let e = Unknown ends.number 0 unknown in
        let of = length ends.older in
        let at : event_at now.seen of ≡ Some e = ap (λ (l : List Event). event_at l of) ends.seen ∙ event_at-here e ends.older in
        each-one (Group dim level names) ends.number refl ends.admin
        (record {
          later = on.later;
          of = of;
          one = ap (λ (l : List Event). begins_of l ends.number) ends.seen ∙ begins_of-here e ends.older ends.number (begins-own ends.number e refl) ∙ ap (λ (l : List ℕ). l ++ of ∷ []) ends.only;
          begins = (e, at, (admin-is ends.number ends.admin, refl, noted.first));
          over = over-itself now.seen of e at refl;
          pulls = λ alone. unpulled f.with now.seen of e at refl;
        })

  -- Settles.

  settle-ends : (how : How) (pulls : List Event) → ArePullsOfSettle f.with.servers pulls → (ends : EndsIn Settle (λ of. Ended of how ∷ pulls) was now)
      → ArePulls f.with.servers class.Settle how (take (length pulls) (settle_pulls f.with.servers)) → EachDoes f.with f.hierarchy (Control Settle ∷ []) was.seen now.seen
  settle-ends how pulls are ends right =
      each-whole (Control Settle) refl Settle (λ of. Ended of how ∷ pulls) ends (begins-called Settle refl ends.number ends.admin) how pulls refl (pulls-begin-none f.with.servers ends.number ends.older pulls are)
      (has-pulls f.with (pulls ++ Called ends.number Settle ∷ ends.older) (length ends.older) Settle how (call-at pulls ends.older ends.number Settle)
      (subst (λ (l : List ℕ). ArePulls f.with.servers class.Settle how l) (sym (pulled-list f.with.servers ends.number ends.older pulls are)) right))

  settle-call : (r : Settled) → (r ≡ settled.NotBegun → ⊥) → HaveSettledSo f r was now → EachDoes f.with f.hierarchy (Control Settle ∷ []) was.seen now.seen
  settle-call settled.Ok there has =
      settle-ends how_it.Fine has.pulls has.are has.ends (take-whole (settle_pulls f.with.servers) (length has.pulls) (has.count ∙ sym (twice-length f.with.servers)))
  settle-call settled.Failed there has =
      let fewer : length has.pulls < length (settle_pulls f.with.servers) = (let few = has.fewer in let twice = twice-length f.with.servers in omega (arith, few, twice)) in
      settle-ends how_it.NoMemory has.pulls has.are has.ends (length has.pulls, fewer, refl)
  settle-call settled.NotBegun there has = absurd (there refl)

  pub settle-done : (call : Call) → class_of call ≡ class.Settle → (r : Settled) → (r ≡ settled.NotBegun → ⊥) → HaveSettledSo f r was now → EachDoes f.with f.hierarchy (Control call ∷ []) was.seen now.seen
  settle-done Settle is r there has = settle-call r there has
  settle-done call is r there has = absurd (settle-only call is)
    where
      settle-only : (c : Call) → class_of c ≡ class.Settle → ⊥
      settle-only c e = cc

-- what an answer tells is told of something else

pub map-ok : {T E : Type 0} (P Q : Type 0) (r : Result T E) → (P → Q) → OnOk r P → OnOk r Q
map-ok P Q (Ok x) g p = g p
map-ok P Q (Err e) g p = tt

pub map-err : {T E : Type 0} (P Q : Type 0) (r : Result T E) → (P → Q) → OnErr r P → OnErr r Q
map-err P Q (Ok x) g p = tt
map-err P Q (Err e) g p = g p

-- Cells that are used again: all are in still, and nobody has begun anything.

module _ (f : Floor) (was now : PassesValue) (phased : ArePhased f was) (reused : HaveReused f was now) where
  pub reused-back : AreBack f was now
  reused-back = all-on f was now phased (record { own = reused.own; all = reused.all; same = reused.same; later = reused.later; right = reused.right; others = λ k other. reused.none k })

  pub reused-nothing : (k : ℕ) → BeginsNothing k was.seen now.seen
  reused-nothing k = record { later = reused.later; none = reused.none k }
