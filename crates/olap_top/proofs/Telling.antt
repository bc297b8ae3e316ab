-- What a teller reads of a history, and tells.
use Rattle.std.specs.declared.alloc.{AllocError.AllocError}
use Rattle.std.proofs.{Common.{◌≡◌, ◌∙◌, ◌≤◌, ℕ, Global, Result, Vec, List, [], ◌++◌, refl, sym, ap, subst, length, take, drop, reverse, append-nil, append_assoc}, lemmas.List.{length-take-le, reverse-append, reverse-reverse, take-append-drop}}
use Rattle.std.specs.Prelude.{if◌then◌else◌, IfOk, IfSome, OnOk, is_some, Option, Some, None}
use Rattle.answer_text.proofs.{Referring.refers-back, TellerFacts.teller_law}
use Rattle.answer_text.specs.{Marks.RefersBack, Printed.phase_behind, Told.{HasTold, IsTeller, IsToldOf, seen_of}, declared.text.Teller.Teller}
use Rattle.row_ledger.proofs.SettledAnswer.{EachEvent-later}
use Rattle.row_ledger.specs.{Past.is_kept, Right.IsRight, Site.site_of, declared.event.Event.Event, declared.settings.Use.Use}
use Rattle.script_form.specs.{declared.script.Command.Command, declared.script.Script.Script}
use Rattle.script_run.specs.{Between.IsThrough, Places.begins_of, Runs.IsRunSoFar}
use Rattle.session_runs.proofs.Phases.{together-law}
use Rattle.olap_top.specs.{RunSoFar.{HasGone, HasGrown, HasStopped, HasToldSo, IsBehind, untold_text}, Tells.{AsksForPhase, TellsPhase}}
use Rattle.olap_top.proofs.{Ends.if_ok-more, Grown.grown-on, PhaseSteps.part-behind}

-- where each event stands behind what it refers to, so it is of the first events
refers-part : (seen : ℕ) (events : List Event) → RefersBack (reverse events) → RefersBack (reverse (take seen events))
refers-part seen events refers =
    EachEvent-later _ (reverse (drop seen events)) (reverse (take seen events))
    (subst RefersBack (ap reverse (sym (take-append-drop seen events)) ∙ reverse-append (take seen events) (drop seen events)) refers)

-- what a teller has told it has told so
pub told-so : (s : Script) (done : List Command) (history : List Event) (teller : Option Teller) → IfSome teller (HasTold s.with done history) → IfSome teller (HasToldSo s done history)
told-so s done history None told = tt
told-so s done history (Some teller) told = record { past = history; more = []; told = told; grown = refl }

-- a new one has told nothing
pub told-none : (s : Script) (history : List Event) (teller : Option Teller) → IfSome teller IsTeller → IfSome teller (HasToldSo s [] history)
told-none s history None new = tt
told-none s history (Some teller) new = record { past = []; more = history; told = new.has s.with; grown = sym (append-nil history) }

-- one that has told the first n commands knows of them all, where the history has gone on
pub told-of : (s : Script) (all : List Command) (n : ℕ) (past newer : List Event) (events : List Event) (teller : Option Teller) → IfSome teller (HasToldSo s (take n all) past) → reverse events ≡ newer ++ past
    → IfSome teller (IsToldOf s.with all events)
told-of s all n past newer events None told grown = tt
told-of s all n past newer events (Some teller) told grown =
    let whole : reverse events ≡ (newer ++ told.more) ++ told.past = grown ∙ ap (λ l. newer ++ l) told.grown ∙ sym (append_assoc newer told.more told.past) in
    subst (λ (l : List Command). IsToldOf s.with l events teller) (take-append-drop n all)
    (teller_law s.with (take n all) (drop n all) told.past (newer ++ told.more) events teller told.told whole)

pub refers-seen : (events : List Event) (teller : Option Teller) → RefersBack (reverse events) → IfSome teller (λ t. RefersBack (reverse (take (seen_of t) events)))
refers-seen events None refers = tt
refers-seen events (Some teller) refers = refers-part (seen_of teller) events refers

-- and it tells the others
pub untold-is : (s : Script) (all : List Command) (n : ℕ) (past history : List Event) (teller : Option Teller) → n ≤ length all → IfSome teller (HasToldSo s (take n all) past)
    → untold_text teller s.with all history ≡ (if is_some teller then phase_behind s.with (take n all) (drop n all) history else [])
untold-is s all n past history None within told = refl
untold-is s all n past history (Some teller) within told = ap (λ k. phase_behind s.with (take k all) (drop k all) history) (told.told.told ∙ length-take-le n all within)

-- A phase that has ended, and is told.

-- Nothing has begun since the commands were through.
pub still-through : (s : Script) (done : List Command) (was now : List Event) → HasGrown was now → IsRight (site_of s.with s.hierarchy) now → ((session : ℕ) → begins_of now session ≡ begins_of was session)
    → IsThrough s.with s.hierarchy done was → IsThrough s.with s.hierarchy done now
still-through s done was now grows right none through =
    subst (λ l. IsThrough s.with s.hierarchy l now) (append-nil done)
    (together-law (site_of s.with s.hierarchy) s.with s.hierarchy done [] was now right through tt (λ session. record { later = (grows.newer, grows.grown); none = none session }))

-- what is asked of the events
pub asks-so : (s : Script) (commands : List Command) (n : ℕ) (with : Use) (was mid : List Event) (events : List Event) (teller read : Option Teller) → with ≡ s.with → read ≡ teller
    → IfSome teller (HasToldSo s (take n commands) was) → HasGrown was mid → HasGrown mid (reverse events) → IsRight (site_of s.with s.hierarchy) (reverse events) → AsksForPhase with commands read events
asks-so s commands n with was mid events teller read with_is read_is told first next right =
    let grown = grown-on was mid (reverse events) first next in
    subst (λ u. AsksForPhase u commands read events) (sym with_is)
    (subst (λ t. AsksForPhase s.with commands t events) (sym read_is) (record {
      told = told-of s commands n was grown.newer events teller told grown.grown;
      refers = refers-seen events teller (refers-back (site_of s.with s.hierarchy) (is_kept (reverse events)) (reverse events) right);
    }))

-- what it tells
module _ (s : Script) (commands : List Command) (n : ℕ) (was mid now : List Event) (teller teller_now : Option Teller) (text : Result (Vec ℕ Global) AllocError) (within : n ≤ length commands)
    (behind : IsBehind s (take n commands) was teller) (through : IsThrough s.with s.hierarchy commands mid) (first : HasGrown was mid) (next : HasGrown mid now)
    (right : IsRight (site_of s.with s.hierarchy) now) (none : (session : ℕ) → begins_of now session ≡ begins_of mid session) where
  through-now : IsThrough s.with s.hierarchy commands now
  through-now = still-through s commands mid now next right none through

  all-are : take n commands ++ drop n commands ≡ commands
  all-are = take-append-drop n commands

  tells-so : TellsPhase s.with commands teller (reverse now) teller_now text → IfOk text (λ v. HasGone s (take n commands) (drop n commands) was now teller teller_now v.items)
  tells-so tells =
      let back : reverse (reverse now) ≡ now = reverse-reverse now in
      if_ok-more text (λ v. v.items ≡ untold_text teller s.with commands (reverse (reverse now))) (λ v. HasGone s (take n commands) (drop n commands) was now teller teller_now v.items)
      (IfSome teller_now (HasTold s.with commands (reverse (reverse now))))
      (λ v is told. record {
        behind = record {
          through = subst (λ l. IsThrough s.with s.hierarchy l now) (sym all-are) through-now;
          right = right;
          told = told-so s (take n commands ++ drop n commands) now teller_now
              (subst (λ l. IfSome teller_now (HasTold s.with l now)) (sym all-are) (subst (λ h. IfSome teller_now (HasTold s.with commands h)) back told));
        };
        grows = grown-on was mid now first next;
        same = tells.same;
        text_is = is ∙ ap (untold_text teller s.with commands) back ∙ untold-is s commands n was now teller within behind.told;
      }) tells.text_is tells.told

  pub tells-gone : (with : Use) (read : Option Teller) → with ≡ s.with → read ≡ teller → TellsPhase with commands read (reverse now) teller_now text
      → IfOk text (λ v. HasGone s (take n commands) (drop n commands) was now teller teller_now v.items)
  tells-gone with read with_is read_is tells =
      tells-so (subst (λ t. TellsPhase s.with commands t (reverse now) teller_now text) read_is (subst (λ u. TellsPhase u commands read (reverse now) teller_now text) with_is tells))

  -- memory was wanting for the text
  pub untold-stopped : HasStopped s (take n commands) (drop n commands) was now
  untold-stopped = record {
    right = right;
    grows = grown-on was mid now first next;
    part = λ more. subst (λ l. IsRunSoFar s.with s.hierarchy (l ++ more) now) (sym all-are) (part-behind s commands more now through-now);
  }

-- memory was wanting in the phase
pub stopped-so : (s : Script) (commands : List Command) (n : ℕ) (was now : List Event) → IsRight (site_of s.with s.hierarchy) now → HasGrown was now → ((more : List Command) → IsRunSoFar s.with s.hierarchy (commands ++ more) now)
    → HasStopped s (take n commands) (drop n commands) was now
stopped-so s commands n was now right grows part = record { right = right; grows = grows; part = λ more. subst (λ l. IsRunSoFar s.with s.hierarchy (l ++ more) now) (sym (take-append-drop n commands)) (part more) }
