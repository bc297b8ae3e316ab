-- A command that asks for no page has none.
use Rattle.std.proofs.{Common.{◌≡◌, ℕ, List, [], ◌∷◌, Bool, true, false, Option, Some, None, is_some, refl, sym, ap, ◌∙◌, inl, inr, ◌==◌, eqb-true, le_of_eq}, lemmas.Bool.{false≢true}}
use Rattle.std.specs.{Option.option_or, Prelude.{if◌then◌else◌}}
use Rattle.row_ledger.specs.{Classes.class_of, Past.{call_at, call_in, has_page, page_in, page_of}, Right.{Asks, EachEvent, Stands}, Site.Site, declared.class.Class.Class, declared.event.Event.Event, declared.event.Event.TheVariants.Shown, declared.page.Page.Page, declared.settings.Call.Call}
use Rattle.row_ledger.specs.declared.class.Class.TheVariants as class_is
use Rattle.row_ledger.proofs.Fresh.{pageless}
use Rattle.list_words.proofs.Truth.{on_bool}
use Rattle.volap_cell.proofs.OneEvent.Told.{kind-cases}

-- whether a call of the class asks for a page
abbrev pub asks_page : Class → Bool
asks_page (class_is.Page subject) = true
asks_page _ = false

asked-page : (class : Class) (shown : Page) → Asks class shown → asks_page class ≡ true
asked-page (class_is.Page subject) shown asks = refl
asked-page _ shown asks = absurd asks

-- an event that begins a call is no page, and none is for a call that asks for none

call-no-page : (e : Event) (of : ℕ) (call : Call) → call_in e ≡ Some call → page_in of e ≡ None
call-no-page (Shown p shown) of call is = (let never : ◌≡◌ {A = Option Call} None (Some call) = is in absurd (cc))
call-no-page _ of call is = refl

other-page : (site : Site) (usable : ℕ → Bool) (e : Event) (past : List Event) → Stands site usable past e → (of : ℕ) (call : Call) → call_at past of ≡ Some call → asks_page (class_of call) ≡ false → page_in of e ≡ None
other-page site usable (Shown p shown) past right of call at none = on_bool (p == of)
    (λ q.
    let both : ◌≡◌ {A = Option Call} (Some right.call) (Some call) = sym right.called ∙ ap (call_at past) (eqb-true p of q) ∙ at in
    let same : right.call ≡ call = cc in
    absurd (false≢true (sym none ∙ ap (λ (c : Call). asks_page (class_of c)) (sym same) ∙ asked-page (class_of right.call) shown right.asked)))
    (λ q. ap (λ (b : Bool). if b then Some shown else None) q)
other-page site usable _ past right of call at none = refl

pub no-page : (site : Site) (usable : ℕ → Bool) (h : List Event) → EachEvent (Stands site usable) h → (of : ℕ) (call : Call) → call_at h of ≡ Some call → asks_page (class_of call) ≡ false → has_page h of ≡ false
no-page site usable [] each of call at none = refl
no-page site usable (e ∷ past) each of call at none = elim (kind-cases call_in e past of call at) [
  | inl old ↦
      let rest = no-page site usable past each.1 of call old none in
      ap (λ (o : Option Page). is_some (option_or o (page_of past of))) (other-page site usable e past each.0 of call old none) ∙ rest
  | inr new ↦
      let rest = pageless site usable past each.1 of (le_of_eq (sym new.0)) in
      ap (λ (o : Option Page). is_some (option_or o (page_of past of))) (call-no-page e of call new.1) ∙ ap is_some rest
]
