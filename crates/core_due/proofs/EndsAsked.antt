-- What an end asks is so of a called command that may end so, and what the page of a command asks where it is due.
use Rattle.std.proofs.{Common.{ℕ, ◌≡◌, ◌+◌, ◌==◌, ◌&&◌, Bool, true, false, length, Some, None, refl, sym, subst, eqb-true, if◌then◌else◌}, lemmas.Bool.{and_parts}}
use Rattle.std.specs.Prelude.{IfSome}
use Rattle.core_due.specs.{Works.{page_due}, WorksReady.{IsWorkAsked}}
use Rattle.core_due.specs.declared.works.WorkDue.TheVariants.{Ends, Shows}
use Rattle.row_ledger.specs.{declared.class.Subject.Subject, declared.settings.How.How}
use Rattle.row_ledger.specs.declared.settings.How.TheVariants as how
use Rattle.row_ledger.specs.declared.settings.Decline.TheVariants.{Unknown}
use Rattle.core_steps.specs.volap_cell.specs.{Commands.{MayNoteEnd}, ImageKinds.doing, Invariant.InvWith, Setting.{Setting, ledger_cell}, Steps.{Inv, history_in}, View.view, World.World, declared.command.Work.Work}
use Rattle.core_steps.specs.volap_cell.specs.declared.command.Work.TheVariants as work_is

-- where a test decides
pub if-some : {A : Type 0} (P : A → Type 0) (b : Bool) (x : A) → (b ≡ true → P x) → IfSome (if b then Some x else None) P
if-some P true x so = so refl
if-some P false x so = tt

module _ (s : Setting) (w : World) (inv : Inv s w) (n : ℕ) where
  abbrev i : InvWith s (view s w) inv.ghost_of
  i = inv.holds

  -- A called command that may end so.
  pub ended : (of : ℕ) (work : Work) (how : How) → (w.actors n).command ≡ doing of work → MayNoteEnd s.servers work (w.actors n).job how → IsWorkAsked s w n (Ends how)
  ended of work how command ends = record {
    of = of;
    work = work;
    command = command;
    ends = subst (λ (t : Setting). MayNoteEnd t.servers work (w.actors n).job how) (sym (i.numbering.about n)) ends;
    ledger_is = i.numbering.tag ledger_cell;
  }

  -- Pages.

  pub page-asked : (alone : Bool) (of : ℕ) (subject : Subject) (stands shown : Bool) → (w.actors n).command ≡ doing of (work_is.Page subject stands shown) → IfSome (page_due (history_in w) alone of subject stands shown) (IsWorkAsked s w n)
  page-asked alone of subject false shown command = ended of (work_is.Page subject false shown) (how.Declined Unknown) command (refl, refl)
  page-asked alone of subject true true command = ended of (work_is.Page subject true true) how.Fine command refl
  page-asked alone of subject true false command =
      if-some (IsWorkAsked s w n) (alone && (length (history_in w) == of + 1)) (Shows subject) (λ both. record { of = of; command = command; next = eqb-true _ _ (and_parts alone _ both).1 })
