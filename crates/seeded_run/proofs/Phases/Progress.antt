-- Something is due for somebody while not all are done.
use Rattle.std.proofs.{Common.{◌≡◌, ◌≢◌, ◌∙◌, ℕ, zero, suc, ◌+◌, ◌<◌, ◌⊎◌, inl, inr, Bool, true, false, List, [], ◌∷◌, length, Option, Some, None, refl, sym, ap, subst, arith, not}, lemmas.Bool.{eq-eqb, eqb-true}, lemmas.List.Folds.Any-from_list_any, lemmas.Option.get_or_from_slice_get}
use Rattle.std.specs.{List.{list_any, slice_index_or}, Prelude.{◌==◌, ◌&&◌, ◌||◌, is_some, is_none, if◌then◌else◌, IsSome}}
use Rattle.query_router.specs.{Desk.{is_open, is_placed, is_refused, is_taken, is_waiting, is_with, sum_of, verdict_of}, declared.part.Part.Part, declared.part.Verdict.Verdict}
use Rattle.query_router.specs.declared.part.Verdict.TheVariants as verdict
use Rattle.script_form.specs.declared.script.Command.{Command}
use Rattle.script_form.specs.declared.script.Command.TheVariants as script
use Rattle.script_run.specs.Phases.{closes}
use Rattle.core_pages.specs.volap_cell.proofs.Persons.{has-taken}
use Rattle.core_pages.specs.volap_cell.specs.{Commands.once_shown, Desking.{IsTaken, is_on_desk}, Errands.{Taken, taken_by, taken_of}, Ghost.Ghost, Invariant.InvWith, Numbering.IsRoleOf, Setting.{Setting, actor_count}, Steps.history_in, Telling.IsProgress, Values.{ErrandValue, JobValue}, View.view, World.World, declared.command.Command.Command as OpenCommand, declared.command.Work.Work, declared.kind.Kind.Kind, declared.role.Role.Role, declared.role.Role.TheVariants.Session}
use Rattle.core_pages.specs.volap_cell.specs.declared.command.Work.TheVariants as work_is
use Rattle.core_pages.specs.volap_cell.specs.declared.kind.Kind.TheVariants as kind
use Rattle.core_pages.specs.volap_cell.specs.declared.role.Role.TheVariants as role
use Rattle.core_due.specs.{Due.{all_below, desk_of, does_nothing, is_empty, kind_at_empty, kind_by_verdict, led_to, page_kind, parts_kind, work_kind}, Reuses.reuse_due}
use Rattle.core_due.specs.core_steps.specs.declared.reuses.ReuseStep.{ReuseStep}
use Rattle.seeded_run.specs.{Due.{actor_kind, are_known, command_kind, due_by, first_kind, free_kind, is_alone, kind_or, next_kind}, Progress.{DueLaw, IsScriptRun, SomeDue, is_done}}
use Rattle.seeded_run.proofs.Due.Dues.{at-part-law}

and-three : (a b c : Bool) → (a && b && c) ≡ true → (a ≡ true) × (b ≡ true) × (c ≡ true)
and-three true true c e = (refl, refl, e)
and-three true false c e = cc
and-three false b c e = cc

pub or-second : (a b : Bool) → b ≡ true → (a || b) ≡ true
or-second true b e = refl
or-second false b e = e

-- a part that an actor is at is of its shard and worker, and open
pub with-is : (shard worker : ℕ) (p : Part) → is_with shard worker p ≡ true → (p.shard ≡ shard) × (p.worker ≡ worker) × (is_taken p ≡ true)
with-is shard worker p e =
    let all = and-three (p.shard == shard) (p.worker == worker) (is_taken p) e in
    (eqb-true p.shard shard all.0, eqb-true p.worker worker all.1, all.2)

clash : {X : Type 0} → (b : Bool) → b ≡ true → b ≡ false → X
clash b x y = cc

some-errand : (o : Option ErrandValue) (t : Taken) → taken_of o ≡ Some t → (e : ErrandValue) × (o ≡ Some e)
some-errand None t is = cc
some-errand (Some e) t is = (e, refl)

-- where some part is open and none waits, one is taken
open-taken : (ps : List Part) → list_any is_open ps ≡ true → list_any is_waiting ps ≡ false → list_any is_taken ps ≡ true
open-taken [] some none = some
open-taken (p ∷ ps) some none = by (is_waiting p) (is_taken p) (list_any is_open ps) (list_any is_waiting ps) (list_any is_taken ps) (open-taken ps) some none
  where
    by : (a b all waits taken : Bool) → (all ≡ true → waits ≡ false → taken ≡ true) → ((a || b) || all) ≡ true → (a || waits) ≡ false → (b || taken) ≡ true
    by true b all waits taken more some none = cc
    by false true all waits taken more some none = refl
    by false false all waits taken more some none = more some none

-- parts without a verdict are open
none-open : (ps : List Part) → verdict_of ps ≡ None → list_any is_open ps ≡ true
none-open ps is = by (list_any is_open ps) (list_any is_refused ps) (list_any is_placed ps) is
  where
    by : (a b c : Bool) → (if a then None else if b then Some verdict.NoMemory else if c then Some verdict.Placed else Some (verdict.Sum (sum_of ps))) ≡ None → a ≡ true
    by true b c is = refl
    by false true c is = cc
    by false false true is = cc
    by false false false is = cc

or-false : (a b : Bool) → (a || b) ≡ false → (a ≡ false) × (b ≡ false)
or-false true b e = cc
or-false false b e = (refl, e)

-- where not all pass, one doesn't
not-all : (n : ℕ) (test : ℕ → Bool) → all_below n test ≡ false → (b : ℕ) × (b < n) × (test b ≡ false)
not-all zero test e = cc
not-all (suc n) test e = by (λ all. not-all n test all) (test n) refl e
  where
    by : (all_below n test ≡ false → (b : ℕ) × (b < n) × (test b ≡ false)) → (v : Bool) → test n ≡ v → (v && all_below n test) ≡ false → (b : ℕ) × (b < suc n) × (test b ≡ false)
    by rest true is e = let more = rest e in (more.0, omega (arith, more.1), more.2)
    by rest false is e = (n, omega arith, is)

module _ (s : Setting) (w : World) (g : Ghost) (rest : ℕ → List Command) (i : InvWith s (view s w) g) where
  -- a worker knows the shard of a part that an actor is at
  pub led-known : (a : ℕ) (e : ErrandValue) → (w.actors a).errand ≡ Some e → is_some (led_to s w e) ≡ true
  led-known a e at =
      let here = i.desking.at_parts a (taken_by e) (ap taken_of at) in
      let p = here.part.1 in
      let is = with-is e.shard e.worker p here.part.4 in
      let leads = i.leading.parts e.server here.within here.part.0 p here.part.2 in
      let known = subst (λ (q : Part). is_open q ≡ true → (q.worker < s.workers) × IsSome ((view s w).maps q.worker q.shard)) here.part.3 leads (or-second (is_waiting p) (is_taken p) is.2) in
      subst (λ n. is_some ((view s w).maps n e.shard) ≡ true) is.1 (subst (λ n. is_some ((view s w).maps p.worker n) ≡ true) is.0 known.1)

  -- something is due for an actor that is at a part
  errand-due : (a : ℕ) (e : ErrandValue) → (w.actors a).errand ≡ Some e → SomeDue s w rest
  errand-due a e at =
      let k = at-part-law s w rest a e at (led-known a e at) in
      record { actor = a; within = has-taken s (view s w) i.numbering a (taken_by e) (ap taken_of at); kind_is = k.0; is_due = k.1 }

  -- somebody is at a part
  abbrev pub AtPart : Type 0
  AtPart = (b : ℕ) × (e : ErrandValue) × ((w.actors b).errand ≡ Some e)

  -- something is due for an actor, or somebody is at a part
  abbrev pub Goes : ℕ → Type 0
  Goes a = ((k : Kind) × (due_by s w rest a ≡ Some k)) ⊎ AtPart

  goes-due : (a : ℕ) → a < actor_count s → Goes a → SomeDue s w rest
  goes-due a low (inl (k, is)) = record { actor = a; within = low; kind_is = k; is_due = is }
  goes-due a low (inr (b, e, at)) = errand-due b e at

  -- somebody is at a taken part of a desk
  taken-at : (server : ℕ) → server < s.servers → list_any is_taken ((view s w).desks server).parts ≡ true → AtPart
  taken-at server low any =
      let found = Any-from_list_any is_taken ((view s w).desks server).parts any in
      let taker = subst (λ (q : Part). is_taken q ≡ true → IsTaken (view s w).taken server q) found.3 (i.desking.takers server low found.0 found.1 found.2) found.4 in
      let e = some-errand (w.actors taker.0).errand taker.1 taker.2 in
      (taker.0, e.0, e.1)

  -- the kinds that the parts of a desk make due, or somebody is at one of them
  by-parts : (server : ℕ) → server < s.servers → ((k : Kind) × (parts_kind (Some ((view s w).desks server)) ≡ Some k)) ⊎ AtPart
  by-parts server low = by (verdict_of ps) refl
    where
      ps : List Part
      ps = ((view s w).desks server).parts

      waiting : (b : Bool) → list_any is_waiting ps ≡ b → verdict_of ps ≡ None → ((k : Kind) × (kind_by_verdict ps None ≡ Some k)) ⊎ AtPart
      waiting true is none = inl (kind.TakePart, ap (λ b. if b then Some kind.TakePart else None) is)
      waiting false is none = inr (taken-at server low (open-taken ps (none-open ps none) is))

      by : (v : Option Verdict) → verdict_of ps ≡ v → ((k : Kind) × (kind_by_verdict ps (verdict_of ps) ≡ Some k)) ⊎ AtPart
      by None is = subst (λ v. ((k : Kind) × (kind_by_verdict ps v ≡ Some k)) ⊎ AtPart) (sym is) (waiting (list_any is_waiting ps) refl is)
      by (Some verdict.NoMemory) is = inl (kind.Note, ap (kind_by_verdict ps) is)
      by (Some verdict.Placed) is = inl (kind.Ack, ap (kind_by_verdict ps) is)
      by (Some (verdict.Sum x)) is = inl (kind.Answer, ap (kind_by_verdict ps) is)

  -- the server of a session is there
  pub session-within : (a server : ℕ) → a < actor_count s → (w.actors a).role ≡ Session server → server < s.servers
  session-within a server low role =
      let at : slice_index_or s.roles a (Session server) ≡ Session server = get_or_from_slice_get s.roles a (w.actors a).role (Session server) (i.numbering.role a low) ∙ role in
      subst (IsRoleOf s) at (i.numbering.setting.roles a (Session server) low)

  module _ (run : IsScriptRun s w rest) where
    -- a desk is empty while the one session of its server has no command there
    empty-desk : (a server : ℕ) → server < s.servers → (w.actors a).role ≡ Session server → ((c : OpenCommand) → (w.actors a).command ≡ Some c → is_on_desk c.work ≡ false)
        → is_none ((view s w).desks server).op ≡ true
    empty-desk a server low role off = by ((view s w).desks server).op refl
      where
        by : (o : Option ℕ) → ((view s w).desks server).op ≡ o → is_none ((view s w).desks server).op ≡ true
        by None is = ap is_none is
        by (Some of) is =
            let who = i.desking.whose server of low is in
            let same : who.0 ≡ a = run.one who.0 a server who.4 role in
            absurd (clash (is_on_desk who.1.work) who.5 (off who.1 (ap (λ n. (w.actors n).command) (sym same) ∙ who.2)))

    -- of an actor at no part that needn't empty its purse
    by-command : (a : ℕ) → (w.actors a).errand ≡ None → (is_none (w.actors a).job && not (is_empty (w.actors a).purse)) ≡ false
        → due_by s w rest a ≡ command_kind s w (is_alone s w rest a) (rest a) (w.actors a) (w.actors a).command
    by-command a none purse =
        let x = w.actors a in
        ap (actor_kind s w (is_alone s w rest a) (rest a) x) none
        ∙ ap (λ b. if b then Some kind.Refill else command_kind s w (is_alone s w rest a) (rest a) x x.command) purse

    -- of one that must
    by-purse : (a : ℕ) → (w.actors a).errand ≡ None → (is_none (w.actors a).job && not (is_empty (w.actors a).purse)) ≡ true
        → due_by s w rest a ≡ Some kind.Refill
    by-purse a none purse =
        let x = w.actors a in
        ap (actor_kind s w (is_alone s w rest a) (rest a) x) none
        ∙ ap (λ b. if b then Some kind.Refill else command_kind s w (is_alone s w rest a) (rest a) x x.command) purse

    -- something is due for an actor with a command
    module _ (a : ℕ) (low : a < actor_count s) (c : OpenCommand) (at : (w.actors a).command ≡ Some c)
        (is_due : due_by s w rest a ≡ work_kind s (history_in w) (is_alone s w rest a) (desk_of s w (w.actors a).role) (w.actors a) c.of c.work) where
      found : (k : Kind) → due_by s w rest a ≡ Some k → Goes a
      found k is = inl (k, is)

      of-work : (work : Work) → c.work ≡ work → due_by s w rest a ≡ work_kind s (history_in w) (is_alone s w rest a) (desk_of s w (w.actors a).role) (w.actors a) c.of work
      of-work work is = is_due ∙ ap (work_kind s (history_in w) (is_alone s w rest a) (desk_of s w (w.actors a).role) (w.actors a) c.of) is

      progress : (work : Work) → c.work ≡ work → IsProgress s (history_in w) c.of work (w.actors a).job (w.actors a).role
      progress work is = subst (λ x. IsProgress s (history_in w) c.of x (w.actors a).job (w.actors a).role) is (i.telling.progress a c at)

      page-due : (work : Work) → c.work ≡ work → (shown : Bool) → (shown ≡ false → is_some (once_shown work) ≡ true)
          → due_by s w rest a ≡ page_kind (history_in w) (is_alone s w rest a) c.of shown → Goes a
      page-due work is true once due = found kind.Note due
      page-due work is false once due =
          let page = run.pages a c at (ap (λ x. is_some (once_shown x)) is ∙ once refl) in
          found kind.Note (due ∙ rw page.0 (rw (eq-eqb (length (history_in w)) (c.of + 1) page.1) refl))

      parts-here : (server : ℕ) → (w.actors a).role ≡ Session server → due_by s w rest a ≡ parts_kind (desk_of s w (w.actors a).role) → Goes a
      parts-here server role due = elim (by-parts server (session-within a server low role)) [
        | inl k ↦ found k.0 (due ∙ ap (λ r. parts_kind (desk_of s w r)) role ∙ k.1)
        | inr at ↦ inr at
      ]

      by-work : (work : Work) → c.work ≡ work → Goes a
      by-work (work_is.Insert row false) is =
          let p = progress (work_is.Insert row false) is in
          let empty = empty-desk a p.0 (session-within a p.0 low p.1) p.1 (λ d at_d. let same : d ≡ c = cc in ap (λ (x : OpenCommand). is_on_desk x.work) same ∙ ap is_on_desk is) in
          found kind.Route (of-work _ is ∙ ap (λ r. kind_at_empty (desk_of s w r) kind.Route) p.1 ∙ ap (λ b. if b then Some kind.Route else None) empty)
      by-work (work_is.Insert row true) is = let p = progress (work_is.Insert row true) is in parts-here p.0 p.1 (of-work _ is)
      by-work work_is.Query is = let p = progress work_is.Query is in parts-here p.0.server p.1 (of-work _ is)
      by-work (work_is.Sync server pulled) is = found _ (of-work _ is)
      by-work work_is.Bare is = found _ (of-work _ is)
      by-work (work_is.Settle pulls) is = found _ (of-work _ is)
      by-work (work_is.Action act) is = found _ (of-work _ is)
      by-work (work_is.Balance b) is = found _ (of-work _ is)
      by-work (work_is.Page subject false shown) is = found kind.Note (of-work _ is)
      by-work (work_is.Page subject true shown) is = page-due _ is shown (λ e. ap (λ b. is_some (once_shown (work_is.Page subject true b))) e) (of-work _ is)

    -- Of an actor without a command: the one that it has next closes the phase, and someone else isn't done.
    pub record Blocked (a : ℕ) : Type 0 where
      pub c : Command
      pub more : List Command
      pub next : rest a ≡ c ∷ more
      pub closing : closes c ≡ true
      pub free : (w.actors a).command ≡ None
      pub others : is_alone s w rest a ≡ false

    module _ (a : ℕ) (low : a < actor_count s) (none : (w.actors a).command ≡ None)
        (is_due : due_by s w rest a ≡ free_kind s w (is_alone s w rest a) (rest a) (w.actors a).role) (left : is_empty (rest a) ≡ false) where
      here : (k : Kind) → due_by s w rest a ≡ Some k → Goes a ⊎ Blocked a
      here k is = inl (inl (k, is))

      by-known : (c : Command) (more : List Command) → rest a ≡ c ∷ more → (known : Bool) → due_by s w rest a ≡ first_kind (desk_of s w (w.actors a).role) c known → Goes a ⊎ Blocked a
      by-known (script.Insert new) more at true due = here kind.BeginInsert due
      by-known (script.Insert new) more at false due = here kind.Note due
      by-known (script.Query question) more at true due =
          let p = run.asks a question more at in
          let empty = empty-desk a p.0 (session-within a p.0 low p.1) p.1 (λ d at_d. absurd (cc)) in
          here kind.BeginQuery (due ∙ ap (λ r. kind_at_empty (desk_of s w r) kind.BeginQuery) p.1 ∙ ap (λ b. if b then Some kind.BeginQuery else None) empty)
      by-known (script.Query question) more at false due = here kind.Note due
      by-known (script.Control call) more at true due = here kind.Note due
      by-known (script.Control call) more at false due = here kind.Note due
      by-known (script.Group dim level filter) more at known due = here kind.Note due

      by-closing : (c : Command) (more : List Command) → rest a ≡ c ∷ more → (closed alone : Bool) → closes c ≡ closed → is_alone s w rest a ≡ alone
          → due_by s w rest a ≡ (if closed && not alone then None else first_kind (desk_of s w (w.actors a).role) c (are_known s.hierarchy c)) → Goes a ⊎ Blocked a
      by-closing c more at true false is others due = inr (record { c = c; more = more; next = at; closing = is; free = none; others = others })
      by-closing c more at true true is others due = by-known c more at (are_known s.hierarchy c) due
      by-closing c more at false alone is others due = by-known c more at (are_known s.hierarchy c) due

      by-next : (cs : List Command) → rest a ≡ cs → due_by s w rest a ≡ next_kind s.hierarchy (is_alone s w rest a) (desk_of s w (w.actors a).role) cs → Goes a ⊎ Blocked a
      by-next [] at due = clash true refl (ap is_empty (sym at) ∙ left)
      by-next (c ∷ more) at due = by-closing c more at (closes c) (is_alone s w rest a) refl refl due

      by-role : (r : Role) → (w.actors a).role ≡ r → Goes a ⊎ Blocked a
      by-role (role.Hand worker) is = clash true refl (ap is_empty (sym (run.hands a worker is)) ∙ left)
      by-role (role.Session server) is =
          by-next (rest a) refl (is_due ∙ ap (free_kind s w (is_alone s w rest a) (rest a)) is ∙ ap (λ r. next_kind s.hierarchy (is_alone s w rest a) (desk_of s w r) (rest a)) (sym is))
      by-role role.Puller is =
          by-next (rest a) refl (is_due ∙ ap (free_kind s w (is_alone s w rest a) (rest a)) is ∙ ap (λ r. next_kind s.hierarchy (is_alone s w rest a) (desk_of s w r) (rest a)) (sym is))
      by-role role.Admin is =
          by-next (rest a) refl (is_due ∙ ap (free_kind s w (is_alone s w rest a) (rest a)) is ∙ ap (λ r. next_kind s.hierarchy (is_alone s w rest a) (desk_of s w r) (rest a)) (sym is))

    -- an actor that isn't done
    module _ (a : ℕ) (low : a < actor_count s) (busy : is_done w rest a ≡ false) where
      no-job : (j : Option JobValue) → (w.actors a).job ≡ j → (w.actors a).command ≡ None → (w.actors a).job ≡ None
      no-job None is none = is
      no-job (Some j) is none = let c = i.working.command a j is in clash true refl (sym (ap is_some (sym none ∙ c.1)))

      idle-left : (w.actors a).command ≡ None → (w.actors a).errand ≡ None → (w.actors a).job ≡ None → is_empty (w.actors a).purse ≡ true → is_empty (rest a) ≡ false
      idle-left command errand job purse =
          sym (ap (λ b. b && is_empty (rest a)) nothing) ∙ busy
        where
          nothing : does_nothing (w.actors a) ≡ true
          nothing = rw command (rw errand (rw job (rw purse (rw (run.nobody a) refl))))

      without-command : (w.actors a).errand ≡ None → (w.actors a).command ≡ None → (b : Bool) → is_empty (w.actors a).purse ≡ b → Goes a ⊎ Blocked a
      without-command errand command false purse =
          let job = no-job (w.actors a).job refl command in
          inl (inl (kind.Refill, by-purse a errand (rw job (rw purse refl))))
      without-command errand command true purse =
          let job = no-job (w.actors a).job refl command in
          let due = by-command a errand (rw job (rw purse refl)) ∙ ap (command_kind s w (is_alone s w rest a) (rest a) (w.actors a)) command in
          by-reuse (reuse_due w (w.actors a)) refl due (idle-left command errand job purse)
        where
          -- it uses a cell again, if it can
          by-reuse : (o : Option ReuseStep) → reuse_due w (w.actors a) ≡ o → due_by s w rest a ≡ kind_or (reuse_due w (w.actors a)) (free_kind s w (is_alone s w rest a) (rest a) (w.actors a).role) → is_empty (rest a) ≡ false
              → Goes a ⊎ Blocked a
          by-reuse (Some step) is due left = inl (inl (kind.Reuse, due ∙ ap (λ o. kind_or o (free_kind s w (is_alone s w rest a) (rest a) (w.actors a).role)) is))
          by-reuse None is due left =
              by-role a low command (due ∙ ap (λ o. kind_or o (free_kind s w (is_alone s w rest a) (rest a) (w.actors a).role)) is) left (w.actors a).role refl

      with-command : (w.actors a).errand ≡ None → (c : OpenCommand) → (w.actors a).command ≡ Some c → (b : Bool) → (is_none (w.actors a).job && not (is_empty (w.actors a).purse)) ≡ b → Goes a
      with-command errand c command true purse = inl (kind.Refill, by-purse a errand purse)
      with-command errand c command false purse =
          by-work a low c command (by-command a errand purse ∙ ap (command_kind s w (is_alone s w rest a) (rest a) (w.actors a)) command) c.work refl

      at-no-part : (o : Option OpenCommand) → (w.actors a).command ≡ o → (w.actors a).errand ≡ None → Goes a ⊎ Blocked a
      at-no-part None command errand = without-command errand command (is_empty (w.actors a).purse) refl
      at-no-part (Some c) command errand = inl (with-command errand c command (is_none (w.actors a).job && not (is_empty (w.actors a).purse)) refl)

      pub due-or-blocked : (o : Option ErrandValue) → (w.actors a).errand ≡ o → Goes a ⊎ Blocked a
      due-or-blocked None errand = at-no-part (w.actors a).command refl errand
      due-or-blocked (Some e) errand = inl (inr (a, e, errand))

    -- someone else isn't done
    other-busy : (a : ℕ) → is_alone s w rest a ≡ false → (b : ℕ) × (b < actor_count s) × (b ≢ a) × (is_done w rest b ≡ false)
    other-busy a others =
        let b = not-all (actor_count s) (λ b. b == a || is_done w rest b) others in
        let apart = or-false (b.0 == a) (is_done w rest b.0) b.2 in
        (b.0, b.1, (λ same. clash (b.0 == a) (eq-eqb b.0 a same) apart.0), apart.1)

    someone : (a : ℕ) → a < actor_count s → is_done w rest a ≡ false → SomeDue s w rest
    someone a low busy = elim (due-or-blocked a low busy (w.actors a).errand refl) [
      | inl goes ↦ goes-due a low goes
      | inr blocked ↦
          let b = other-busy a blocked.others in
          elim (due-or-blocked b.0 b.1 b.3 (w.actors b.0).errand refl) [
            | inl goes ↦ goes-due b.0 b.1 goes
            | inr too ↦ absurd (b.2 (run.closing b.0 a too.c blocked.c too.more blocked.more too.next blocked.next too.closing blocked.closing))
          ]
    ]

pub due-law : DueLaw
due-law s w g rest i run a low busy = someone s w g rest i run a low busy
