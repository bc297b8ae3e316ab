-- An open command that pulls alone has pulled as far as its actor says, after each step.
use Rattle.std.proofs.Common.{◌≡◌, ◌≢◌, ◌∙◌, ℕ, ◌<◌, inl, inr, true, false, List, [], ◌∷◌, ◌++◌, length, Option, Some, None, refl, sym, ap, subst, arith}
use Rattle.std.specs.Prelude.{IfSome, option_and_then}
use mathlib.Core.Logic.{dite}
use native.Mathlib.Decide.{ℕ_discrete}
use Rattle.list_words.proofs.Elements.{Some-same}
use Rattle.row_ledger.proofs.{Before.{ended-before, over-ended}, Fresh.kind-within, Positions.{before-older, event_at-older}}
use Rattle.row_ledger.specs.{Classes.class_of, Past.{call_at, call_in, ends_itself, event_at, has_ended, is_over, pull_in, session_in}, Settled.pulls_since, declared.event.Event.Event, declared.settings.Call.Call}
use Rattle.row_ledger.specs.declared.event.Event.TheVariants as event
use Rattle.script_run.specs.Runs.{ArePulls, EndsBefore, PullsAlone, is_pulling}
use Rattle.volap_cell.specs.{Commands.{due_pull, pulled_once}, Ghost.Ghost, ImageKinds.doing, Invariant.InvWith, Setting.Setting, Steps.{Step, history_in}, Telling.IsProgress, Values.{ActorValue, JobValue}, View.view, World.World, declared.command.Command.Command as OpenCommand, declared.command.Work.Work, declared.kind.Kind.Kind, declared.role.Role.Role}
use Rattle.volap_cell.specs.declared.command.Work.TheVariants as work_is
use Rattle.core_told.proofs.{Pulled.{begin-pulls-none, deed-pulls, end-pulls-none, end-right, plain-pulled, pull-next, pulled-more, pulled-none, pulled-same, shown-pulled}, Told.{doing-is, none-some, others-law, told-law}}
use Rattle.core_told.specs.{Pulling.{EndingLaw, IsPulling, OpenedPullingLaw, PullingLaw, RestingLaw}, Told.{GoesFurther, HasPulled, OfBeginning, OfDeed, OfEnd, OfNothing, OfPage, OfPull, OpensCommand, OpensNone, OpensOne, TellsBeginning, TellsPull, Told, is_plain}}

-- Histories.

-- what pulls alone did so before the newest event
alone-older : (e : Event) (past : List Event) (of : ℕ) → of < length past → PullsAlone (e ∷ past) of → PullsAlone past of
alone-older e past of low alone p call at pulling differs =
    let inside : p < length past = kind-within call_in past p call at in
    let ends = alone p call (ap (option_and_then call_in) (event_at-older e past p inside) ∙ at) pulling differs in
    (ends.0, subst (λ l. is_over l p ≡ true) (before-older e past of (omega (arith, low))) ends.1)

called-stays : (o : Option Event) (call : Call) → option_and_then call_in o ≡ Some call → (e : Event) × (o ≡ Some e) × (ends_itself e ≡ false)
called-stays None call is = cc
called-stays (Some (event.Called session x)) call is = (event.Called session x, refl, refl)
called-stays (Some _) call is = cc

-- an open call hasn't ended before anything
open-before : (h : List Event) (p q : ℕ) (call : Call) → call_at h p ≡ Some call → has_ended h p ≡ false → EndsBefore h (Some p) (Some q) → ⊥
open-before h p q call at is_open ends =
    let found = called-stays (event_at h p) call at in
    let ended : has_ended h p ≡ true = ended-before h q p (over-ended h q p found.0 found.1 found.2 ends.1) in
    cc

-- Commands.

-- who can pull has a call open that pulls
pulling-call : (s : Setting) (h : List Event) (of server : ℕ) (work : Work) (job : Option JobValue) (role : Role) → IsProgress s h of work job role → due_pull s.servers work ≡ Some server
    → (call : Call) × (call_at h of ≡ Some call) × (is_pulling (class_of call) ≡ true)
pulling-call s h of server (work_is.Sync x did) job role p due = (p.0.0, p.0.1, ap is_pulling p.0.2)
pulling-call s h of server (work_is.Settle pulls) job role p due = (p.0.0, p.0.1, ap is_pulling p.0.2)
pulling-call s h of server (work_is.Insert row routed) job role p due = cc
pulling-call s h of server work_is.Query job role p due = cc
pulling-call s h of server work_is.Bare job role p due = cc
pulling-call s h of server (work_is.Page subject there shown) job role p due = cc
pulling-call s h of server (work_is.Action act) job role p due = cc
pulling-call s h of server (work_is.Balance b) job role p due = cc

-- A step.

module _ (s : Setting) (k : Kind) (n : ℕ) (w now : World) (g : Ghost) (i : InvWith s (view s w) g) (step : Step s k n w now) (has : IsPulling s w) where
  -- a command has pulled as far as it says, if it pulled alone
  abbrev HasAlone : List Event → OpenCommand → Type 0
  HasAlone h c = PullsAlone h c.of → HasPulled s.servers c.work (pulls_since h c.of)

  within : (a : ℕ) (c : OpenCommand) → (w.actors a).command ≡ Some c → c.of < length (history_in w)
  within a c at = omega (arith, i.telling.last a c.of (i.telling.own a c at), i.telling.within a)

  -- behind an event that is no pull
  still : (e : Event) (past : List Event) (c : OpenCommand) → pull_in e ≡ None → c.of < length past → HasAlone past c → HasAlone (e ∷ past) c
  still e past c none low had alone = subst (HasPulled s.servers c.work) (sym (pulled-same e past c.of none low)) (had (alone-older e past c.of low alone))

  -- while the actor pulls, none pulls alone that another one has open
  pull-beside : (t : TellsPull s n w now) (a : ℕ) (c : OpenCommand) → a ≢ n → (w.actors a).command ≡ Some c → PullsAlone (history_in now) c.of → ⊥
  pull-beside t a c differs at alone =
      let h = history_in w in
      let own : OpenCommand = record { of = t.of; work = t.work } in
      let call = pulling-call s h t.of t.server t.work _ _ (i.telling.progress n own t.was) t.due in
      let apart : t.of ≢ c.of = λ same. differs (Some-same n a (sym (i.telling.own n own t.was) ∙ ap (λ q. option_and_then session_in (event_at h q)) same ∙ i.telling.own a c at)) in
      let before = alone-older (event.Synced t.server t.listing) h c.of (within a c at) (subst (λ l. PullsAlone l c.of) t.history alone) in
      open-before h t.of c.of call.0 call.1 (i.telling.is_open n own t.was) (before t.of call.0 call.1 call.2 apart)

  -- what becomes of the commands of other actors
  others : Told s k n w now → (a : ℕ) (c : OpenCommand) → a ≢ n → (w.actors a).command ≡ Some c → HasAlone (history_in now) c
  others (OfNothing t) a c differs at = subst (λ l. HasAlone l c) (sym t.history) (has a c at)
  others (OfDeed t) a c differs at = subst (λ l. HasAlone l c) (sym t.history) (still t.deed (history_in w) c (deed-pulls t.deed t.is_that) (within a c at) (has a c at))
  others (OfPull t) a c differs at = λ alone. absurd (pull-beside t a c differs at alone)
  others (OfPage t) a c differs at = subst (λ l. HasAlone l c) (sym t.history) (still (event.Shown t.of t.page) (history_in w) c refl (within a c at) (has a c at))
  others (OfEnd t) a c differs at =
      let low = within a c at in
      let ends = end-pulls-none t.end_is t.of t.ends.0 in
      subst (λ l. HasAlone l c) (sym t.history) (elim t.are_deeds [
        | inl none ↦ subst (λ ds. HasAlone (t.end_is ∷ ds ++ history_in w) c) (sym none) (still t.end_is (history_in w) c ends low (has a c at))
        | inr (deed, is, that) ↦ subst (λ ds. HasAlone (t.end_is ∷ ds ++ history_in w) c) (sym is)
            (still t.end_is (deed ∷ history_in w) c ends (omega (arith, low)) (still deed (history_in w) c (deed-pulls deed that) low (has a c at)))
      ])
  others (OfBeginning t) a c differs at = subst (λ l. HasAlone l c) (sym t.history) (still t.begins (history_in w) c (begin-pulls-none t.begins n t.session) (within a c at) (has a c at))

  -- and of the actor's own
  plainly : GoesFurther (w.actors n).command (now.actors n).command → (c : OpenCommand) → (now.actors n).command ≡ Some c → HasAlone (history_in now) c
  plainly f c at alone = plain-pulled s.servers c.work (pulls_since (history_in now) c.of) (ap is_plain (doing-is (now.actors n).command c f.of f.work_now at f.is).1 ∙ f.plain_now)

  pull-own : (t : TellsPull s n w now) → HasAlone (history_in now) (record { of = t.of; work = pulled_once t.work })
  pull-own t alone =
      let h = history_in w in
      let low = within n (record { of = t.of; work = t.work }) t.was in
      let before = alone-older (event.Synced t.server t.listing) h t.of low (subst (λ l. PullsAlone l t.of) t.history alone) in
      subst (λ l. HasPulled s.servers (pulled_once t.work) (pulls_since l t.of)) (sym t.history)
      (subst (HasPulled s.servers (pulled_once t.work)) (sym (pulled-more t.server t.listing h t.of low))
      (pull-next s.servers t.server t.work (pulls_since h t.of) t.due (has n (record { of = t.of; work = t.work }) t.was before)))

  begun : (t : TellsBeginning s k n w now) → (work : Work) → HasPulled s.servers work [] → HasAlone (history_in now) (record { of = length (history_in w); work = work })
  begun t work pulled alone =
      subst (λ l. HasPulled s.servers work (pulls_since l (length (history_in w)))) (sym t.history) (subst (HasPulled s.servers work) (sym (pulled-none t.begins (history_in w))) pulled)

  -- it is this one
  as-doing : (c : OpenCommand) (of : ℕ) (work : Work) → (now.actors n).command ≡ Some c → (now.actors n).command ≡ doing of work → HasAlone (history_in now) (record { of = of; work = work }) → HasAlone (history_in now) c
  as-doing c of work at is had = subst (HasAlone (history_in now)) (Some-same c (record { of = of; work = work }) (sym at ∙ is)) had

  own : Told s k n w now → (c : OpenCommand) → (now.actors n).command ≡ Some c → HasAlone (history_in now) c
  own (OfNothing t) c at = elim t.stays [ inl same ↦ subst (λ l. HasAlone l c) (sym t.history) (has n c (sym same ∙ at)) | inr f ↦ plainly f c at ]
  own (OfDeed t) c at = plainly t.further c at
  own (OfPull t) c at = as-doing c t.of (pulled_once t.work) at t.is (pull-own t)
  own (OfPage t) c at = λ alone. subst (λ x. HasPulled s.servers x (pulls_since (history_in now) c.of)) (sym (doing-is (now.actors n).command c t.of t.work_now at t.is).1)
      (shown-pulled s.servers t.work t.work_now (pulls_since (history_in now) c.of) t.once)
  own (OfEnd t) c at = none-some (now.actors n).command c t.command at
  own (OfBeginning t) c at = by t.opens
    where
      by : OpensCommand s t.begins n w now → HasAlone (history_in now) c
      by (OpensNone itself none) = none-some (now.actors n).command c none at
      by (OpensOne work itself command pulled closing) = as-doing c (length (history_in w)) work at command (begun t work pulled)

  goes-on : Told s k n w now → IsPulling s now
  goes-on t a c at = dite (ℕ_discrete a n)
      (λ (same : a ≡ n). own t c (ap (λ x. (now.actors x).command) (sym same) ∙ at))
      (λ (differs : a ≢ n). others t a c differs (ap (λ (x : ActorValue). x.command) (sym (others-law s k n w now a step differs)) ∙ at))

pub pulling-law : PullingLaw
pulling-law s k n w now g g_now i i_now step has = goes-on s k n w now g i step has (told-law s k n w now g g_now i i_now step)

pub resting-law : RestingLaw
resting-law s w none a c at = none-some (w.actors a).command c (none a) at

pub opened-pulling-law : OpenedPullingLaw
opened-pulling-law s w opening = resting-law s w (λ a. (opening.actors a).command)

pub ending-law : EndingLaw
ending-law s w g n c how with i has at may servers alone =
    subst (λ m. IfSome (call_at (history_in w) c.of) (λ called. ArePulls m (class_of called) how (pulls_since (history_in w) c.of))) (sym servers)
    (end-right s (history_in w) (history_in w) c.of (w.actors n).job _ how refl refl c.work (i.telling.progress n c at) (has n c at alone) (inr may))
