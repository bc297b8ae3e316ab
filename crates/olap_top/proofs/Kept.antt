-- What is told of commands that are over stays as the history goes on.
use Rattle.std.proofs.{Common.{◌≡◌, ◌∙◌, ◌+◌, ◌<◌, ℕ, Bool, true, false, List, [], ◌∷◌, ◌++◌, length, map, refl, sym, ap, subst, arith, IsTrue, append-nil, append_assoc, ◌==◌}, lemmas.Bool.{and_parts, false≢true, ne_eqb}}
use Rattle.std.specs.{List.{AllByRecursion, AllZip}, Option.{option_map_or, option_or}, Prelude.{Option, Some, None, is_some, ◌||◌, find, option_and_then, if◌then◌else◌}}
use Rattle.dim_hierarchy.specs.Dimension.{Dimension}
use Rattle.answer_text.proofs.TextFacts.{IsSameAt, lines-kept}
use Rattle.answer_text.specs.Printed.{lines, split_for}
use Rattle.row_ledger.proofs.{Older.is_over-older, Positions.event_at-older}
use Rattle.row_ledger.specs.{Belonging.number_in, Past.{call_in, end_in, ends_itself, event_at, has_ended, insert_at, insert_in, is_end_of, is_over, page_in, page_of, query_at, query_in}, Right.{EachEvent, Stands}, Site.Site, declared.event.Event.Event, declared.settings.Use.Use}
use Rattle.row_ledger.specs.declared.event.Event.TheVariants as event
use Rattle.script_form.specs.declared.script.Command.{Command}
use Rattle.script_run.proofs.{Between.through-law, Grow.within, PlaceFacts.{GoesOn, HaveBegun, begins_of-here, begins_of-other, places_behind-kept}}
use Rattle.script_run.specs.{Between.IsThrough, Places.{are_over, begins_in, begins_of, places}, Runs.BeginsAt}

-- the lines of commands that are done
abbrev pub lines_of : Use → List Command → List Event → List ℕ
lines_of with done history = lines 1 done (places with done history) history

-- No event belongs to a command that is over.

-- a command of a kind that doesn't end itself, and that has no end, isn't over
still-open : {A : Type 0} (f : Event → Option A) → ((e : Event) (x : A) → f e ≡ Some x → ends_itself e ≡ false) → (past : List Event) (p : ℕ) (x : A)
    → option_and_then f (event_at past p) ≡ Some x → has_ended past p ≡ false → is_over past p ≡ true → ⊥
still-open {A} f stays past p x is opened over = by (event_at past p) refl
  where
    by : (o : Option Event) → event_at past p ≡ o → ⊥
    by None at = let none : ◌≡◌ {A = Option A} None (Some x) = sym (ap (option_and_then f) at) ∙ is in cc
    by (Some e) at =
        let here : f e ≡ Some x = sym (ap (option_and_then f) at) ∙ is in
        let closed : (false || ends_itself e) ≡ true = sym (ap (λ b. b || option_map_or ends_itself (event_at past p) false) opened ∙ ap (λ o. false || option_map_or ends_itself o false) at) ∙ over in
        false≢true (sym (stays e x here) ∙ closed)

abbrev DontEnd : {A : Type 0} (f : Event → Option A) → Type 0
DontEnd {A} f = (e : Event) (x : A) → f e ≡ Some x → ends_itself e ≡ false

insert-stays : DontEnd insert_in
insert-stays (event.Begun session server row) x is = refl
insert-stays _ x is = cc

query-stays : DontEnd query_in
query-stays (event.Asked session server filter) x is = refl
query-stays _ x is = cc

call-stays : DontEnd call_in
call-stays (event.Called session called) x is = refl
call-stays _ x is = cc

failed-open : (past : List Event) (p : ℕ) → IsTrue (is_some (insert_at past p) || is_some (query_at past p)) → has_ended past p ≡ false → is_over past p ≡ true → ⊥
failed-open past p begun opened over = by (event_at past p) refl
  where
    of-kind : (e : Event) → IsTrue (is_some (insert_in e) || is_some (query_in e)) → ends_itself e ≡ false
    of-kind (event.Begun session server row) some = refl
    of-kind (event.Asked session server filter) some = refl
    of-kind _ some = cc

    by : (o : Option Event) → event_at past p ≡ o → ⊥
    by None at = false≢true (sym (ap (λ o. is_some (option_and_then insert_in o) || is_some (option_and_then query_in o)) at) ∙ begun)
    by (Some e) at =
        let closed : (false || ends_itself e) ≡ true = sym (ap (λ b. b || option_map_or ends_itself (event_at past p) false) opened ∙ ap (λ o. false || option_map_or ends_itself o false) at) ∙ over in
        false≢true (sym (of-kind e (sym (ap (λ o. is_some (option_and_then insert_in o) || is_some (option_and_then query_in o)) at) ∙ begun)) ∙ closed)

-- an event of a command stands where that isn't over
pub quiet-over : (site : Site) (usable : ℕ → Bool) (past : List Event) (e : Event) (p : ℕ) → Stands site usable past e → is_over past p ≡ true → number_in e ≡ Some p → ⊥
quiet-over site usable past e p stands over is = by e stands is
  where
    by : (e : Event) → Stands site usable past e → number_in e ≡ Some p → ⊥
    by (event.Acked of path) r is = let same : of ≡ p = cc in still-open insert_in insert-stays past of r.insert r.begun r.is_open (rw same over)
    by (event.Answered of answer) r is = let same : of ≡ p = cc in still-open query_in query-stays past of r.query r.asked r.is_open (rw same over)
    by (event.Failed of) r is = let same : of ≡ p = cc in failed-open past of r.begun r.is_open (rw same over)
    by (event.Split of shard left right) r is = let same : of ≡ p = cc in still-open call_in call-stays past of r.done.call r.done.called r.done.is_open (rw same over)
    by (event.Moved of shard worker) r is = let same : of ≡ p = cc in still-open call_in call-stays past of r.call r.called r.is_open (rw same over)
    by (event.Left of shard how) r is = let same : of ≡ p = cc in still-open call_in call-stays past of r.call r.called r.is_open (rw same over)
    by (event.Shown of page) r is = let same : of ≡ p = cc in still-open call_in call-stays past of r.call r.called r.is_open (rw same over)
    by (event.Ended of how) r is = let same : of ≡ p = cc in still-open call_in call-stays past of r.call r.called r.is_open (rw same over)
    by (event.Synced server listing) r is = cc
    by (event.Begun session server row) r is = cc
    by (event.Asked session server filter) r is = cc
    by (event.Unknown session server dim) r is = cc
    by (event.Refused session) r is = cc
    by (event.Called session called) r is = cc

-- So what is told of it stays.

of-number : (o : Option ℕ) (p : ℕ) → (o ≡ Some p → ⊥) → option_map_or (λ of. of == p) o false ≡ false
of-number None p other = refl
of-number (Some of) p other = ne_eqb of p (λ same. other (ap Some same))

no-end : (e : Event) (p : ℕ) → (number_in e ≡ Some p → ⊥) → is_end_of p e ≡ false
no-end e p other = of-number (end_in e) p (λ is. other (by e is))
  where
    by : (e : Event) → end_in e ≡ Some p → number_in e ≡ Some p
    by (event.Acked of path) is = is
    by (event.Answered of answer) is = is
    by (event.Failed of) is = is
    by (event.Ended of how) is = is
    by _ is = cc

no-split : (e : Event) (p : ℕ) → (number_in e ≡ Some p → ⊥) → option_map_or (λ of. of == p) (split_for e) false ≡ false
no-split e p other = of-number (split_for e) p (λ is. other (by e is))
  where
    by : (e : Event) → split_for e ≡ Some p → number_in e ≡ Some p
    by (event.Split of shard left right) is = is
    by _ is = cc

no-page : (e : Event) (p : ℕ) → (number_in e ≡ Some p → ⊥) → page_in p e ≡ None
no-page (event.Shown of page) p other = rw (ne_eqb of p (λ same. other (ap Some same))) refl
no-page _ p other = refl

-- a command that began before the end of the history, and is over
pub record IsOverAt (history : List Event) (p : ℕ) : Type 0 where
  pub within : p < length history
  pub over : is_over history p ≡ true

pub over-grown : (newer history : List Event) (p : ℕ) → IsOverAt history p → IsOverAt (newer ++ history) p
over-grown [] history p is = is
over-grown (e ∷ newer) history p is =
    let before = over-grown newer history p is in
    record { within = omega (arith, before.within); over = is_over-older e (newer ++ history) p before.over }

pub same-grown : (site : Site) (usable : ℕ → Bool) (newer history : List Event) (p : ℕ) → EachEvent (Stands site usable) (newer ++ history) → IsOverAt history p → IsSameAt history (newer ++ history) p
same-grown site usable [] history p each is = record { event = refl; end = refl; split = refl; page = refl }
same-grown site usable (e ∷ newer) history p each is =
    let before = same-grown site usable newer history p each.1 is in
    let here = over-grown newer history p is in
    let other : number_in e ≡ Some p → ⊥ = quiet-over site usable (newer ++ history) e p each.0 here.over in
    record {
      event = event_at-older e (newer ++ history) p here.within ∙ before.event;
      end = ap (λ b. if b then Some e else find (is_end_of p) (newer ++ history)) (no-end e p other) ∙ before.end;
      split = ap (λ b. if b then Some e else find (λ d. option_map_or (λ of. of == p) (split_for d) false) (newer ++ history)) (no-split e p other) ∙ before.split;
      page = ap (λ o. option_or o (page_of (newer ++ history) p)) (no-page e p other) ∙ before.page;
    }

-- Commands that are done.

-- where they began
pub record AreDoneAt (history : List Event) (places : List (Option ℕ)) : Type 0 where
  pub begins : List ℕ
  pub are : places ≡ map Some begins
  pub over : AllByRecursion (IsOverAt history) begins

pub done-at : (with : Use) (h : List Dimension) (history : List Event) (cs : List Command) (ps : List (Option ℕ)) → AllZip (BeginsAt with h history) cs ps → IsTrue (are_over history ps) → AreDoneAt history ps
done-at with h history cs [] begun over = record { begins = []; are = refl; over = tt }
done-at with h history [] (p ∷ ps) begun over = absurd begun
done-at with h history (c ∷ cs) (None ∷ ps) begun over = absurd (false≢true over)
done-at with h history (c ∷ cs) (Some p ∷ ps) begun over =
    let both = and_parts (is_over history p) (are_over history ps) over in
    let rest = done-at with h history cs ps begun.1 both.1 in
    record {
      begins = p ∷ rest.begins;
      are = ap (λ l. Some p ∷ l) rest.are;
      over = (record { within = within history p begun.0.0 begun.0.1; over = both.0 }, rest.over);
    }

goes-on : (newer history : List Event) → GoesOn history (newer ++ history)
goes-on [] history = record { more = λ session. ([], sym (append-nil (begins_of history session))) }
goes-on (e ∷ newer) history = let rest = goes-on newer history in record { more = λ session. by rest session (begins_in session e) refl }
  where
    by : GoesOn history (newer ++ history) → (session : ℕ) (b : Bool) → begins_in session e ≡ b → (ps : List ℕ) × (begins_of (e ∷ newer ++ history) session ≡ begins_of history session ++ ps)
    by rest session true is =
        let before = rest.more session in
        (before.0 ++ length (newer ++ history) ∷ [], begins_of-here e (newer ++ history) session is ∙ ap (λ l. l ++ length (newer ++ history) ∷ []) before.1 ∙ append_assoc (begins_of history session) before.0 (length (newer ++ history) ∷ []))
    by rest session false is = let before = rest.more session in (before.0, begins_of-other e (newer ++ history) session is ∙ before.1)

same-all : (site : Site) (usable : ℕ → Bool) (newer history : List Event) (begins : List ℕ) → EachEvent (Stands site usable) (newer ++ history) → AllByRecursion (IsOverAt history) begins
    → AllByRecursion (IsSameAt history (newer ++ history)) begins
same-all site usable newer history [] each over = tt
same-all site usable newer history (p ∷ ps) each over = (same-grown site usable newer history p each over.0, same-all site usable newer history ps each over.1)

-- The lines of commands that are through are the same when the history has grown.
pub lines-grown : (site : Site) (usable : ℕ → Bool) (with : Use) (h : List Dimension) (done : List Command) (newer history : List Event) → EachEvent (Stands site usable) (newer ++ history)
    → IsThrough with h done history → lines_of with done (newer ++ history) ≡ lines_of with done history
lines-grown site usable with h done newer history each through =
    let run = through-law with h done history through in
    let at = done-at with h history done (places with done history) run.part.begun run.over in
    let begun : HaveBegun with done history = record { counts = λ session. omega (arith, through.counts session) } in
    ap (λ ps. lines 1 done ps (newer ++ history)) (places_behind-kept with [] done history (newer ++ history) (goes-on newer history) begun ∙ at.are)
    ∙ lines-kept 1 done at.begins history (newer ++ history) (same-all site usable newer history at.begins each at.over)
    ∙ ap (λ ps. lines 1 done ps history) (sym at.are)

-- and they are over still
all-over : (newer history : List Event) (begins : List ℕ) → AllByRecursion (IsOverAt history) begins → IsTrue (are_over (newer ++ history) (map Some begins))
all-over newer history [] over = refl
all-over newer history (p ∷ ps) over = rw ((over-grown newer history p over.0).over) (all-over newer history ps over.1)

pub over-kept : (with : Use) (h : List Dimension) (done : List Command) (newer history : List Event) → IsThrough with h done history → IsTrue (are_over (newer ++ history) (places with done (newer ++ history)))
over-kept with h done newer history through =
    let run = through-law with h done history through in
    let at = done-at with h history done (places with done history) run.part.begun run.over in
    let begun : HaveBegun with done history = record { counts = λ session. omega (arith, through.counts session) } in
    subst (λ ps. IsTrue (are_over (newer ++ history) ps)) (sym (places_behind-kept with [] done history (newer ++ history) (goes-on newer history) begun ∙ at.are)) (all-over newer history at.begins at.over)
