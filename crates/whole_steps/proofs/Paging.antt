-- Whole commands at the seat that has all actors: each step can be made behind the one before it, and what they come to together.
use Rattle.std.proofs.Common.{◌≡◌, ◌∙◌, ℕ, ◌+◌, ◌<◌, ◌≤◌, Bool, true, false, List, [], ◌∷◌, ◌++◌, length, Option, None, Result, Ok, Err, inl, inr, refl, sym, ap, subst, arith}
use Rattle.std.proofs.lemmas.Bool.{cases_lt}
use Rattle.std.specs.{Prelude.{IfOk, OnErr, OnOk}, Result.is_err}
use Rattle.std.specs.declared.alloc.AllocError.{AllocError}
use Rattle.atomic_table.specs.Seated.{TableId}
use Rattle.call_steps.specs.Calls.{CanCall, CanEndCall}
use Rattle.core_pages.specs.Looks.{IsActorOf, IsSeenOf, cells_in, or_free}
use Rattle.list_words.proofs.Elements.{Some-same}
use Rattle.row_ledger.specs.{Classes.class_of, Right.Asks, declared.class.Class.Class, declared.class.Subject.Subject, declared.event.Event.Event, declared.page.Page.Page, declared.settings.{Call.Call, How.How}}
use Rattle.row_ledger.specs.declared.class.Class.TheVariants as class
use Rattle.row_ledger.specs.declared.class.Subject.TheVariants as subject
use Rattle.row_ledger.specs.declared.event.Event.TheVariants.{Called, Ended, Shown}
use Rattle.row_ledger.specs.declared.settings.Call.TheVariants.{Audit, Barrier, Group, Shards, Tree}
use Rattle.row_ledger.specs.declared.settings.Decline.TheVariants as decline
use Rattle.row_ledger.specs.declared.settings.How.TheVariants as how
use Rattle.call_steps.specs.seat_steps.proofs.Since.{extends-on, nothing-new}
use Rattle.call_steps.specs.seat_steps.specs.declared.floor.{Floor.Floor, Player.Player}
use Rattle.call_steps.proofs.OpenCalls.{extends-length}
use Rattle.server_image.specs.Registry.{RegistryValue}
use Rattle.turn_table.specs.{Numbered.{value_of}, Seat.{SeatValue, cell_count}}
use Rattle.core_pages.specs.volap_cell.specs.{Cells.{CellValue, cell_of}, ImageKinds.{IsBegun, doing, subject_stands}, Setting.{ledger_cell}, Values.{ActorValue, actor_of}, World.World, declared.actor.Actor.Actor, declared.cell.Cell.Cell, declared.command.{Command.Command, Work.Work}}
use Rattle.core_pages.specs.volap_cell.specs.declared.command.Work.TheVariants as work_is
use Rattle.call_steps.specs.volap_turns.proofs.Known.{about}
use Rattle.whole_steps.proofs.{Alone.{around, everyone-of, sole-on, whole-history}, Calling.began-with, Known.{cell-none, seen-self}, Turned.{knows-on, turned-self}}
use Rattle.whole_steps.specs.{Commands.{CanShow, HasCalledSole, HasEndedSole, HasShownSole, IsAtPage, IsPageIn}, Done.{HasDone, HasEndedPage, HasNotBegun, HasPaged, HasToldPage, IsOfTree, IsPageAt, is_there}, Seats.{HasEveryone, HasTurned, Knows, KnowsAll, if_some, state_at}, Sole.{HasWaited, IsSameBut, IsSole, StandsSole, player}}
use Rattle.whole_steps.specs.declared.tells.Paged.{Paged}
use Rattle.whole_steps.specs.declared.tells.Paged.TheVariants as paged

-- Turns between steps.

module _ (f : Floor) (n : ℕ) (a : Actor) (was now : SeatValue Cell Actor Event) (turned : HasTurned was now) (everyone : HasEveryone f.table now) where
  pub stands-on : StandsSole f (player n a was) → now.ranks ≡ [] → StandsSole f (player n a now)
  stands-on stands bare = record { sole = sole-on f (player n a was) now stands.sole turned everyone; bare = bare }

  pub same-turned : IsSameBut (player n a was) (player n a now)
  same-turned = record {
    number = refl;
    seat_number = turned.number;
    actor_count = turned.actor_count;
    others = λ j ne. ap (λ (l : List (ℕ × Actor)). value_of l j) turned.actors;
    setting = refl;
    knows = λ k knows. knows-on turned k knows;
  }

pub same-on : {p q r : Player} → IsSameBut p q → IsSameBut q r → IsSameBut p r
same-on {p} {q} {r} a b = record {
  number = b.number ∙ a.number;
  seat_number = b.seat_number ∙ a.seat_number;
  actor_count = b.actor_count ∙ a.actor_count;
  others = λ j ne. b.others j (λ e. ne (e ∙ a.number)) ∙ a.others j ne;
  setting = b.setting ∙ a.setting;
  knows = λ k known. b.knows k (a.knows k known);
}

pub ledger-known : (f : Floor) (p : Player) → IsSole f p → KnowsAll f.table p.seat → Knows p.seat ledger_cell
ledger-known f p sole knows = knows ledger_cell (low _ _ _ _ (around f p sole).cells)
  where
    low : (servers workers stock cells : ℕ) → 3 + servers + servers + workers + stock ≡ cells → 0 < cells
    low servers workers stock cells all = omega arith

-- what is seen then is what was seen before
state-back : (t : TableId) (was now : SeatValue Cell Actor Event) → HasEveryone t was → HasEveryone t now → KnowsAll t was → HasTurned was now → (w : World) → IsSeenOf (state_at now) w → IsSeenOf (state_at was) w
state-back t was now everyone everyone_now knows turned w seen = record {
  cells = λ i y. (same y ∙ ap (λ (cs : ℕ → CellValue). cs y) seen.cells) i;
  actors = λ a. subst (λ (l : List (ℕ × Actor)). IsActorOf (if_some actor_of (value_of l a)) a (w.actors a)) turned.actors (seen.actors a);
}
  where
    same : (y : ℕ) → cells_in (state_at was) y ≡ cells_in (state_at now) y
    same y = elim (cases_lt y (cell_count t)) [
      | inl low ↦ (let k = knows y low in ap (λ o. or_free (if_some cell_of o)) k.1 ∙ sym (ap (λ o. or_free (if_some cell_of o)) (turned.known y k.0 k.1)))
      | inr ge ↦ ap (λ o. or_free (if_some cell_of o)) (cell-none t was everyone y ge) ∙ sym (ap (λ o. or_free (if_some cell_of o)) (cell-none t now everyone_now y ge))
    ]

-- Beginnings.

-- who may call may so when turns were taken
pub can-call-on : (f : Floor) (call : Call) (n : ℕ) (a : Actor) (was now : SeatValue Cell Actor Event) → HasTurned was now → CanCall f call (player n a was) → CanCall f call (player n a now)
can-call-on f call n a was now turned can =
    let longer = extends-length was.view.seen now.view.seen turned.seen in
    let noted = can.noted in record { free = can.free; allowed = can.allowed; server = can.server; valid = can.valid; noted = omega arith }

-- Where the call has not begun.

pub not-begun : (f : Floor) (n : ℕ) (a b : Actor) (was mid now : SeatValue Cell Actor Event) → HasTurned was mid → HasEveryone f.table mid → (actor_of a).seen ≤ length was.view.seen → HasWaited f (player n a mid) (player n b now) → HasNotBegun f (player n a was) (player n b now)
not-begun f n a b was mid now turned everyone noted waited =
    let since = extends-on now.view.seen mid.view.seen was.view.seen waited.seen turned.seen in
    let longer = extends-length was.view.seen now.view.seen since in
    let seen = ap (λ (x : ActorValue). x.seen) waited.actor in
    record {
      done = record {
        stands = waited.stands;
        same = same-on (same-turned f n a was mid turned everyone) waited.same;
        actor = waited.actor ∙ (λ i. record (actor_of a) { seen = sym seen i });
        noted = omega arith;
      };
      since = since;
      only = nothing-new n (actor_of a).seen now.view.seen was.view.seen since waited.noted noted;
    }

-- all shards, all rows and all groups are always there
tree-alone : (call : Call) (about : Subject) (r : RegistryValue) → class_of call ≡ class.Page about → subject_stands r about ≡ false → IsOfTree call
tree-alone (Tree shard) about r is none_there = tt
tree-alone Shards about r is none_there = absurd (let same : subject.Shards ≡ about = cc in let never : true ≡ false = ap (subject_stands r) same ∙ none_there in cc)
tree-alone Audit about r is none_there = absurd (let same : subject.Rows ≡ about = cc in let never : true ≡ false = ap (subject_stands r) same ∙ none_there in cc)
tree-alone (Group dim level filter) about r is none_there = absurd (let same : subject.Groups ≡ about = cc in let never : true ≡ false = ap (subject_stands r) same ∙ none_there in cc)
tree-alone call about r is none_there = absurd (cc)

-- The work with which it begins.

module _ (f : Floor) (call : Call) (subject : Subject) (class_is : class_of call ≡ class.Page subject) (was now : Player) (has : HasCalledSole f call was now) where
  abbrev of : ℕ
  of = length has.added.older

  abbrev work-is : (there : Bool) × (has.work ≡ work_is.Page subject there false)
  work-is =
      let begins : IsBegun f.with.workers has.begins.0 (class.Page subject) has.work has.job = subst (λ (c : Class). IsBegun f.with.workers has.begins.0 c has.work has.job) class_is has.begins.1 in
      (subject_stands has.begins.0 subject, begins.0)

  command-is : (actor_of now.actor).command ≡ doing (length has.added.older) has.work
  command-is = ap (λ (a : ActorValue). a.command) has.actor

  pub at-page : CanCall f call was → is_there (actor_of now.actor).command ≡ true → IsAtPage f.hierarchy call now
  at-page can there =
      let found : work-is.0 ≡ true = sym (ap is_there (command-is ∙ ap (doing (length has.added.older)) work-is.1)) ∙ there in
      record {
        subject = subject;
        asks = class_is;
        valid = can.valid;
        older = has.added.older;
        newest = has.added.now_is ∙ ap (λ (k : ℕ). Called k call ∷ has.added.older) (sym has.added.same.number);
        command = command-is ∙ ap (doing (length has.added.older)) (work-is.1 ∙ ap (λ (b : Bool). work_is.Page subject b false) found);
        no_part = ap (λ (a : ActorValue). a.errand) has.actor ∙ can.free.errand;
      }

  pub of-tree : is_there (actor_of now.actor).command ≡ false → IsOfTree call
  of-tree none_there = tree-alone call subject has.begins.0 class_is (sym (ap is_there (command-is ∙ ap (doing (length has.added.older)) work-is.1)) ∙ none_there)

  -- where what the page is of isn't there, that is how it ends
  pub ends-unknown : CanCall f call was → is_there (actor_of now.actor).command ≡ false → CanEndCall f (how.Declined decline.Unknown) now
  ends-unknown can there =
      let found : work-is.0 ≡ false = sym (ap is_there (command-is ∙ ap (doing (length has.added.older)) work-is.1)) ∙ there in
      let seen = ap (λ (a : ActorValue). a.seen) has.actor in
      record {
        of = length has.added.older;
        work = work_is.Page subject false false;
        command = command-is ∙ ap (doing (length has.added.older)) (work-is.1 ∙ ap (λ (b : Bool). work_is.Page subject b false) found);
        ends = (refl, refl);
        no_part = ap (λ (a : ActorValue). a.errand) has.actor ∙ can.free.errand;
        noted = omega (arith, seen);
      }

-- Ends.

pub place-same : (of of_too : ℕ) (work work_too : Work) (command : Option Command) → command ≡ doing of work → command ≡ doing of_too work_too → of_too ≡ of
place-same of of_too work work_too command is is_too = ap (λ (c : Command). c.of) (sym (Some-same (record { of = of_too; work = work_too }) (record { of = of; work = work }) (sym is_too ∙ is)))

-- the command ends at once, behind its beginning
pub ended-straight : (f : Floor) (h : How) (n of : ℕ) (work : Work) (a b : Actor) (was mid now : SeatValue Cell Actor Event) → (actor_of a).command ≡ doing of work → length was.view.seen ≡ of + 1 → HasTurned was mid → HasEveryone f.table mid → Knows was ledger_cell
    → HasEndedSole f h (player n a mid) (player n b now) → HasEndedPage f (λ k. Ended k h ∷ []) (player n a was) (player n b now)
ended-straight f h n of work a b was mid now command began turned everyone knows has =
    let place = place-same of has.of work has.work (actor_of a).command command has.command in
    record {
      of = of;
      began = began;
      stands = has.added.stands;
      same = same-on (same-turned f n a was mid turned everyone) has.added.same;
      seen = has.added.now_is ∙ (λ i. Ended (place i) h ∷ (has.added.exact (knows-on turned ledger_cell knows) ∙ turned.exact knows) i);
      actor = has.actor;
    }

-- or behind its page
module _ (f : Floor) (n : ℕ) (call : Call) (shown : Page) (a b c : Actor) (was mid then now : SeatValue Cell Actor Event) (at : IsAtPage f.hierarchy call (player n a was)) (turned : HasTurned was mid) (everyone : HasEveryone f.table mid) (knows : Knows was ledger_cell)
    (has : HasShownSole f shown (player n a mid) (player n b then)) where
  -- a command whose page was shown may end
  pub ends-shown : CanEndCall f how.Fine (player n b then)
  ends-shown =
      let seen = ap (λ (x : ActorValue). x.seen) has.actor in
      record {
        of = has.of;
        work = work_is.Page has.subject true true;
        command = ap (λ (x : ActorValue). x.command) has.actor;
        ends = refl;
        no_part = ap (λ (x : ActorValue). x.errand) has.actor ∙ at.no_part;
        noted = omega (arith, seen);
      }

  pub ended-shown : HasEndedSole f how.Fine (player n b then) (player n c now) → HasEndedPage f (λ k. Ended k how.Fine ∷ Shown k shown ∷ []) (player n a was) (player n c now)
  ended-shown ends =
      let place : has.of ≡ length at.older = place-same (length at.older) has.of (work_is.Page at.subject true false) (work_is.Page has.subject true false) (actor_of a).command at.command has.command in
      let place_too : ends.of ≡ length at.older = place-same has.of ends.of (work_is.Page has.subject true true) ends.work (actor_of b).command (ap (λ (x : ActorValue). x.command) has.actor) ends.command ∙ place in
      let before : has.added.older ≡ was.view.seen = has.added.exact (knows-on turned ledger_cell knows) ∙ turned.exact knows in
      record {
        of = length at.older;
        began = began-with at;
        stands = ends.added.stands;
        same = same-on (same-turned f n a was mid turned everyone) (same-on has.added.same ends.added.same);
        seen = ends.added.now_is ∙ (λ i. Ended (place_too i) how.Fine ∷ (ends.added.exact has.added.knows ∙ has.added.now_is ∙ (λ j. Shown (place j) shown ∷ before j)) i);
        actor = ends.actor ∙ ap (λ (x : ActorValue). record x { command = None; job = None; seen = length now.view.seen }) has.actor;
      }

-- a command that shows nothing may end for want of memory
pub ends-failed : (f : Floor) (call : Call) (p : Player) → IsAtPage f.hierarchy call p → (actor_of p.actor).seen ≤ length p.seat.view.seen → CanEndCall f how.NoMemory p
ends-failed f call p at noted = record { of = length at.older; work = work_is.Page at.subject true false; command = at.command; ends = refl; no_part = at.no_part; noted = noted }

-- From the beginning to the end.

module _ (f : Floor) (call : Call) (n : ℕ) (a b c : Actor) (was mid then now : SeatValue Cell Actor Event) (turned : HasTurned was mid) (everyone : HasEveryone f.table mid) (can : CanCall f call (player n a was)) (has : HasCalledSole f call (player n a mid) (player n b then)) where
  abbrev pub done-so : (events : ℕ → List Event) → HasEndedPage f events (player n b then) (player n c now) → HasDone f call events (player n a was) (player n c now)
  done-so events ended =
      let began = ended.began in
      let all = ap (λ (l : List Event). length l) has.added.now_is in
      let place : ended.of ≡ length has.added.older = omega (arith, began, all) in
      let actor : actor_of c ≡ record (actor_of a) { command = None; job = None; seen = length now.view.seen } = ended.actor ∙ ap (λ (x : ActorValue). record x { command = None; job = None; seen = length now.view.seen }) has.actor in
      let seen = ap (λ (x : ActorValue). x.seen) actor in
      record {
        done = record {
          stands = ended.stands;
          same = same-on (same-turned f n a was mid turned everyone) (same-on has.added.same ended.same);
          actor = actor ∙ (λ i. record (actor_of a) { command = sym can.free.command i; job = sym can.free.job i; seen = sym seen i });
          noted = omega (arith, seen);
        };
        older = has.added.older;
        since = extends-on has.added.older mid.view.seen was.view.seen has.added.behind turned.seen;
        only = nothing-new n (actor_of a).seen has.added.older was.view.seen (extends-on has.added.older mid.view.seen was.view.seen has.added.behind turned.seen) has.added.noted can.noted;
        seen = ended.seen ∙ (λ i. events (place i) ++ has.added.now_is i);
      }

  -- the page that was shown is one of a state
  pub page-at : (shown : Page) → KnowsAll f.table then → IsPageIn f.hierarchy (state_at then) shown → IsPageAt f.hierarchy (Called n call ∷ has.added.older) shown
  page-at shown knows page =
      let sole = has.added.stands.sole in
      let about_is = about sole.holds.one sole.holds.possible in
      record {
        setting = sole.holds.possible.valid.setting;
        hierarchy = about_is;
        world = sole.holds.possible.valid.world;
        inv = sole.holds.possible.valid.inv;
        history_is = whole-history f (player n b then) sole ∙ has.added.now_is;
        page = page sole.holds.possible.valid.setting sole.holds.possible.valid.world about_is (seen-self f (player n b then) sole knows) sole.holds.possible.valid.inv;
      }

-- A barrier.

module _ (f : Floor) (was now : Player) (can : CanCall f Barrier was) (has : HasCalledSole f Barrier was now) where
  bare-command : (actor_of now.actor).command ≡ doing (length has.added.older) work_is.Bare
  bare-command = ap (λ (a : ActorValue). a.command) has.actor ∙ ap (doing (length has.added.older)) has.begins.1.0

  pub ends-bare : CanEndCall f how.Fine now
  ends-bare =
      let seen = ap (λ (a : ActorValue). a.seen) has.actor in
      record {
        of = length has.added.older;
        work = work_is.Bare;
        command = bare-command;
        ends = tt;
        no_part = ap (λ (a : ActorValue). a.errand) has.actor ∙ can.free.errand;
        noted = omega (arith, seen);
      }

pub bare-done : (f : Floor) (n : ℕ) (a b c : Actor) (was then now : SeatValue Cell Actor Event) → StandsSole f (player n a was) → (can : CanCall f Barrier (player n a was)) → (has : HasCalledSole f Barrier (player n a was) (player n b then)) → HasEndedSole f how.Fine (player n b then) (player n c now)
    → HasDone f Barrier (λ of. Ended of how.Fine ∷ []) (player n a was) (player n c now)
bare-done f n a b c was then now stands can has ends =
    let all = ap (λ (l : List Event). length l) has.added.now_is in
    let ended = ended-straight f how.Fine n (length has.added.older) work_is.Bare b c then then now (bare-command f (player n a was) (player n b then) can has) (omega (arith, all)) (turned-self then) (everyone-of f (player n b then) has.added.stands.sole) has.added.knows ends in
    done-so f Barrier n a b c was was then now (turned-self was) (everyone-of f (player n a was) stands.sole) can has (λ of. Ended of how.Fine ∷ []) ended

-- What is made of a page.

module _ (f : Floor) (call : Call) (n : ℕ) (a : Actor) (was mid : SeatValue Cell Actor Event) (stands : StandsSole f (player n a was)) (knows : KnowsAll f.table was) (at : IsAtPage f.hierarchy call (player n a was)) (turned : HasTurned was mid) (everyone : HasEveryone f.table mid) where
  pub at-on : IsAtPage f.hierarchy call (player n a mid)
  at-on = record {
    subject = at.subject;
    asks = at.asks;
    valid = at.valid;
    older = at.older;
    newest = turned.exact (ledger-known f (player n a was) stands.sole knows) ∙ at.newest;
    command = at.command;
    no_part = at.no_part;
  }

  pub shows-on : (made : Result Page AllocError) → IfOk made (λ p. IsPageIn f.hierarchy (state_at was) p) → IfOk made (λ p. Asks (class_of call) p) → (shown : Page) → made ≡ Ok shown → CanShow f shown (player n a mid)
  shows-on made page asked shown is = record {
    call = call;
    due = at-on;
    asked = subst (λ (r : Result Page AllocError). IfOk r (λ p. Asks (class_of call) p)) is asked;
    knows = λ k low. knows-on turned k (knows k low);
    page = λ s w about inv_seen inv. subst (λ (r : Result Page AllocError). IfOk r (λ p. IsPageIn f.hierarchy (state_at was) p)) is page s w about (state-back f.table was mid (everyone-of f (player n a was) stands.sole) everyone knows turned w inv_seen) inv;
  }

  pub page-made : (made : Result Page AllocError) → IfOk made (λ p. IsPageIn f.hierarchy (state_at was) p) → (shown : Page) → made ≡ Ok shown → IsPageIn f.hierarchy (state_at was) shown
  page-made made page shown is = subst (λ (r : Result Page AllocError). IfOk r (λ p. IsPageIn f.hierarchy (state_at was) p)) is page

  noted-on : (actor_of a).seen ≤ length was.view.seen → (actor_of a).seen ≤ length mid.view.seen
  noted-on noted = (let longer = extends-length was.view.seen mid.view.seen turned.seen in omega (arith, longer, noted))

  pub fails-on : (actor_of a).seen ≤ length was.view.seen → CanEndCall f how.NoMemory (player n a mid)
  fails-on noted = ends-failed f call (player n a mid) at-on (noted-on noted)

pub told-page : {f : Floor} {shown copy : Page} {was now : Player} → shown ≡ copy → HasEndedPage f (λ k. Ended k how.Fine ∷ Shown k shown ∷ []) was now → IsPageIn f.hierarchy (state_at was.seat) shown → HasToldPage f (paged.Page copy) was now
told-page {f} {shown} {copy} {was} {now} same ended page = subst (λ (p : Page). HasToldPage f (paged.Page p) was now) same (ended, page)

-- What a call answers.

pub err-of : {T E P : Type 0} (r : Result T E) → OnErr r P → is_err r ≡ true → P
err-of (Ok x) p e = absurd (cc)
err-of (Err x) p e = p

pub ok-of : {T E P : Type 0} (r : Result T E) → OnOk r P → is_err r ≡ false → P
ok-of (Ok x) p e = p
ok-of (Err x) p e = absurd (cc)

module _ (f : Floor) (call : Call) (n : ℕ) (a b c : Actor) (was mid then now : SeatValue Cell Actor Event) (turned : HasTurned was mid) (everyone : HasEveryone f.table mid) (knows : KnowsAll f.table mid) (can : CanCall f call (player n a was)) (has : HasCalledSole f call (player n a mid) (player n b then)) where
  pub knows-then : KnowsAll f.table then
  knows-then k low = has.added.same.knows k (knows k low)

  pub paged-so : (r : Paged) → HasToldPage f r (player n b then) (player n c now) → HasPaged f call r (player n a was) (player n c now)
  paged-so (paged.Page shown) told = (done-so f call n a b c was mid then now turned everyone can has (λ of. Ended of how.Fine ∷ Shown of shown ∷ []) told.0, page-at f call n a b c was mid then now turned everyone can has shown knows-then told.1)
  paged-so paged.Failed told = done-so f call n a b c was mid then now turned everyone can has (λ of. Ended of how.NoMemory ∷ []) told
  paged-so paged.Unknown told = absurd told
  paged-so paged.NotBegun told = absurd told

  pub unknown-so : HasEndedSole f (how.Declined decline.Unknown) (player n b then) (player n c now) → HasDone f call (λ of. Ended of (how.Declined decline.Unknown) ∷ []) (player n a was) (player n c now)
  unknown-so ends =
      let all = ap (λ (l : List Event). length l) has.added.now_is in
      let ended = ended-straight f (how.Declined decline.Unknown) n (length has.added.older) has.work b c then then now (ap (λ (x : ActorValue). x.command) has.actor) (omega (arith, all)) (turned-self then) (everyone-of f (player n b then) has.added.stands.sole) has.added.knows ends in
      done-so f call n a b c was mid then now turned everyone can has (λ of. Ended of (how.Declined decline.Unknown) ∷ []) ended
