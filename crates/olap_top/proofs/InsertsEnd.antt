-- In a right history an insert that is over was acknowledged, or ended for want of memory.
use Rattle.std.proofs.{Common.{◌≡◌, ◌∙◌, ◌⊎◌, inl, inr, ℕ, Bool, true, false, List, [], ◌∷◌, length, refl, sym, ap, IsTrue}, lemmas.Bool.{and_parts, cases_lt, eqb-true, false≢true}}
use Rattle.std.specs.{List.AllZip, Option.option_map_or, Prelude.{Option, Some, None, ◌||◌, find, if◌then◌else◌}}
use Rattle.dim_hierarchy.specs.{Dimension.Dimension, declared.row.Row.Row}
use Rattle.row_ledger.proofs.{Fresh.fresh-newest, Positions.event_at-older}
use Rattle.row_ledger.specs.{Past.{before, call_at, ends_itself, event_at, has_ended, is_end_of, is_over, query_at}, Right.{EachEvent, Stands}, Site.Site, declared.event.Event.Event, declared.settings.Use.Use}
use Rattle.row_ledger.specs.declared.event.Event.TheVariants as event
use Rattle.script_form.specs.{declared.script.Command.Command, declared.script.Command.TheVariants.{Control, Group, Insert, Query}}
use Rattle.script_run.specs.{Places.{are_over, end_of, is_over_at}, Runs.{Begins, BeginsAt, InsertEnds, first_unknown}}
use Rattle.olap_top.proofs.Zips.{AllZip-weaker}

-- how an insert may have ended
abbrev HasEnd : List Event → ℕ → Type 0
HasEnd history p = ((path : List ℕ) × (end_of history p ≡ Some (event.Acked p path))) ⊎ (end_of history p ≡ Some (event.Failed p))

-- the event that ends it
ended-by : (site : Site) (usable : ℕ → Bool) (past : List Event) (e : Event) (p session server : ℕ) (row : Row) → Stands site usable past e → event_at past p ≡ Some (event.Begun session server row)
    → is_end_of p e ≡ true → ((path : List ℕ) × (e ≡ event.Acked p path)) ⊎ (e ≡ event.Failed p)
ended-by site usable past e p session server row stands at ends = by e stands ends
  where
    by : (e : Event) → Stands site usable past e → is_end_of p e ≡ true → ((path : List ℕ) × (e ≡ event.Acked p path)) ⊎ (e ≡ event.Failed p)
    by (event.Acked of path) r is = inl (path, ap (λ n. event.Acked n path) (eqb-true of p is))
    by (event.Failed of) r is = inr (ap event.Failed (eqb-true of p is))
    by (event.Answered of answer) r is =
        let same : of ≡ p = eqb-true of p is in
        let none : query_at past of ≡ None = rw (same, at) refl in
        absurd (let some : query_at past of ≡ Some r.query = r.asked in cc)
    by (event.Ended of how) r is =
        let same : of ≡ p = eqb-true of p is in
        let none : call_at past of ≡ None = rw (same, at) refl in
        absurd (let some : call_at past of ≡ Some r.call = r.called in cc)
    by _ r is = absurd (false≢true is)

has-end : (site : Site) (usable : ℕ → Bool) (history : List Event) (p session server : ℕ) (row : Row) → EachEvent (Stands site usable) history → event_at history p ≡ Some (event.Begun session server row)
    → has_ended history p ≡ true → HasEnd history p
has-end site usable [] p session server row each at ended = absurd (false≢true ended)
has-end site usable (e ∷ past) p session server row each at ended = elim (cases_lt p (length past)) [
  | inr high ↦ absurd (false≢true (sym (fresh-newest site usable e past each p high) ∙ ended))
  | inl low ↦
      let before : event_at past p ≡ Some (event.Begun session server row) = sym (event_at-older e past p low) ∙ at in
      by (λ more. has-end site usable past p session server row each.1 before more) before (is_end_of p e) refl
]
  where
    here : ((path : List ℕ) × (e ≡ event.Acked p path)) ⊎ (e ≡ event.Failed p) → end_of (e ∷ past) p ≡ Some e → HasEnd (e ∷ past) p
    here (inl acked) is = inl (acked.0, is ∙ ap Some acked.1)
    here (inr failed) is = inr (is ∙ ap Some failed)

    there : HasEnd past p → end_of (e ∷ past) p ≡ end_of past p → HasEnd (e ∷ past) p
    there (inl acked) is = inl (acked.0, is ∙ acked.1)
    there (inr failed) is = inr (is ∙ failed)

    by : (has_ended past p ≡ true → HasEnd past p) → event_at past p ≡ Some (event.Begun session server row) → (b : Bool) → is_end_of p e ≡ b → HasEnd (e ∷ past) p
    by more before true is =
        here (ended-by site usable past e p session server row each.0 before is) (ap (λ b. if b then Some e else find (is_end_of p) past) is)
    by more before false is =
        there (more (sym (ap (λ b. b || has_ended past p) is) ∙ ended)) (ap (λ b. if b then Some e else find (is_end_of p) past) is)

begun-over : (history : List Event) (p session server : ℕ) (row : Row) → event_at history p ≡ Some (event.Begun session server row) → IsTrue (is_over history p) → has_ended history p ≡ true
begun-over history p session server row at over = by (has_ended history p) refl
  where
    by : (b : Bool) → has_ended history p ≡ b → has_ended history p ≡ true
    by true is = is
    by false is = absurd (false≢true (sym (ap (λ b. b || option_map_or ends_itself (event_at history p) false) is ∙ ap (λ o. false || option_map_or ends_itself o false) at) ∙ over))

-- of a command that began there
insert-ends : (site : Site) (usable : ℕ → Bool) (with : Use) (h : List Dimension) (history : List Event) → EachEvent (Stands site usable) history → (c : Command) (place : Option ℕ)
    → BeginsAt with h history c place → IsTrue (is_over_at history place) → InsertEnds h history c place
insert-ends site usable with h history each (Query question) place begins over = tt
insert-ends site usable with h history each (Control called) place begins over = tt
insert-ends site usable with h history each (Group dim level filter) place begins over = tt
insert-ends site usable with h history each (Insert new) None begins over = tt
insert-ends site usable with h history each (Insert new) (Some p) begins over = λ known. by known begins.0 begins.1 begins.2
  where
    as-end : HasEnd history p → ((path : List ℕ) × (end_of history p ≡ Some (event.Acked p path))) ⊎ (end_of history p ≡ Some (event.Failed p)) ⊎ (event_at history p ≡ Some (event.Refused new.server))
    as-end (inl acked) = inl acked
    as-end (inr failed) = inr (inl failed)

    by : first_unknown h (Insert new) ≡ None → (e : Event) → event_at history p ≡ Some e → Begins with h (before history p) (Insert new) e
        → ((path : List ℕ) × (end_of history p ≡ Some (event.Acked p path))) ⊎ (end_of history p ≡ Some (event.Failed p)) ⊎ (event_at history p ≡ Some (event.Refused new.server))
    by known (event.Begun session server row) at is = as-end (has-end site usable history p session server row each at (begun-over history p session server row at over))
    by known (event.Unknown session server dim) at is = absurd (let never : ◌≡◌ {A = Option ℕ} None (Some dim) = sym known ∙ is.2 in cc)
    by known (event.Refused session) at is = inr (inr (at ∙ ap (λ n. Some (event.Refused n)) is))
    by known _ at is = absurd is

-- So it is of all inserts of a part of a run that are over.
pub inserts-end : (site : Site) (usable : ℕ → Bool) (with : Use) (h : List Dimension) (history : List Event) → EachEvent (Stands site usable) history → (cs : List Command) (places : List (Option ℕ))
    → AllZip (BeginsAt with h history) cs places → AllZip (λ c p. IsTrue (is_over_at history p) → InsertEnds h history c p) cs places
inserts-end site usable with h history each cs places begun =
    AllZip-weaker (BeginsAt with h history) (λ c p. IsTrue (is_over_at history p) → InsertEnds h history c p) cs places (insert-ends site usable with h history each) begun

-- and of all inserts of a whole one
pub inserts-over : (site : Site) (usable : ℕ → Bool) (with : Use) (h : List Dimension) (history : List Event) → EachEvent (Stands site usable) history → (cs : List Command) (places : List (Option ℕ))
    → AllZip (BeginsAt with h history) cs places → IsTrue (are_over history places) → AllZip (InsertEnds h history) cs places
inserts-over site usable with h history each [] [] begun over = tt
inserts-over site usable with h history each [] (p ∷ ps) begun over = absurd begun
inserts-over site usable with h history each (c ∷ cs) [] begun over = absurd begun
inserts-over site usable with h history each (c ∷ cs) (p ∷ ps) begun over =
    let both = and_parts (is_over_at history p) (are_over history ps) over in
    (insert-ends site usable with h history each c p begun.0 both.0, inserts-over site usable with h history each cs ps begun.1 both.1)
