-- Between phases: where one begins and where it ends.
use Rattle.std.proofs.{Common.{◌≡◌, ◌≢◌, ◌∙◌, ℕ, zero, suc, ◌+◌, ◌<◌, ◌≤◌, inl, inr, Bool, true, false, List, [], ◌∷◌, ◌++◌, length, get_or, take, refl, sym, ap, subst, arith}, lemmas.Bool.{cases_Bool, ne_eqb}, lemmas.Option.slice_get_within}
use Rattle.std.specs.Prelude.{Option, Some, None, slice_get, IsTrue, is_some, ◌==◌, cond}
use Rattle.row_ledger.proofs.Positions.{event_at-here, event_at-older}
use Rattle.row_ledger.specs.{Past.{event_at, is_beginning, is_over, session_in}, Right.{EachEvent, IsFirstPull}, Site.Site, declared.event.Event.Event, declared.event.Event.TheVariants.Synced, declared.settings.Use.Use}
use Rattle.script_form.specs.declared.script.Command.{Command}
use Rattle.script_run.proofs.{Begin.{begins-none, places-other}, Grow.{begin, below-or, other, within}, NextCommand.{get-middle, has-place, next-none, over-now}, PhaseEnds.{finish_law, first-place, get-first, start-any, start_law}, PlaceFacts.{begins_of-other, count_of-append}}
use Rattle.script_run.specs.{Between.{OpeningLaw, OrderBeginLaw, OrderOtherLaw, OrderStartLaw, PhaseEndLaw, PhaseStartLaw, ThroughLaw}, Parts.{IsPartAt, place_in}, Places.{begins_of, count_of, session_of}, Runs.HasPulls}

-- How many commands of a session stand in a list.

other-one : (with : Use) (s : ℕ) (c : Command) → session_of with c ≢ s → count_of with s (c ∷ []) ≡ 0
other-one with s c differs = rw (ne_eqb (session_of with c) s differs) refl

-- none, where none of them is
pub none-count : (with : Use) (s : ℕ) (cs : List Command) (m : ℕ) → ((i : ℕ) (c : Command) → slice_get cs i ≡ Some c → i < m → session_of with c ≢ s) → count_of with s (take m cs) ≡ 0
none-count with s [] zero none = refl
none-count with s [] (suc m) none = refl
none-count with s (c ∷ cs) zero none = refl
none-count with s (c ∷ cs) (suc m) none =
    let first = other-one with s c (none 0 c refl (omega arith)) in
    let more = none-count with s cs m (λ i d at low. none (suc i) d at (omega arith)) in
    omega (arith, first, more, count_of-append with s (c ∷ []) (take m cs))

take-all : (xs : List Command) → take (length xs) xs ≡ xs
take-all [] = refl
take-all (x ∷ xs) = ap (λ l. x ∷ l) (take-all xs)

-- all of them stand among the first ones, where each does
all-count : (with : Use) (s : ℕ) (cs : List Command) (m : ℕ) → ((i : ℕ) (c : Command) → slice_get cs i ≡ Some c → session_of with c ≡ s → i < m) → count_of with s (take m cs) ≡ count_of with s cs
all-count with s [] zero all = refl
all-count with s [] (suc m) all = refl
all-count with s (c ∷ cs) zero all =
    sym (ap (count_of with s) (sym (take-all (c ∷ cs))) ∙ none-count with s (c ∷ cs) (length (c ∷ cs)) (λ i d at low same. absurd (omega (arith, all i d at same))))
all-count with s (c ∷ cs) (suc m) all =
    let more = all-count with s cs m (λ i d at same. let low = all (suc i) d at same in omega arith) in
    omega (arith, more, count_of-append with s (c ∷ []) (take m cs), count_of-append with s (c ∷ []) cs)

-- the first ones of two lists behind one another
pub take-behind : (xs ys : List Command) (n : ℕ) → length xs ≤ n → (m : ℕ) × (n ≡ length xs + m) × (take n (xs ++ ys) ≡ xs ++ take m ys)
take-behind [] ys n low = (n, omega arith, refl)
take-behind (x ∷ xs) ys zero low = absurd (omega arith)
take-behind (x ∷ xs) ys (suc n) low =
    let more = take-behind xs ys n (omega arith) in
    (more.0, omega (arith, more.1), ap (λ l. x ∷ l) more.2)

pub get-behind : (xs ys : List Command) (i : ℕ) → slice_get (xs ++ ys) (length xs + i) ≡ slice_get ys i
get-behind [] ys i = let e : 0 + i ≡ i = omega arith in ap (slice_get ys) e
get-behind (x ∷ xs) ys i = let e : suc (length xs) + i ≡ suc (length xs + i) = omega arith in ap (slice_get (x ∷ (xs ++ ys))) e ∙ get-behind xs ys i

-- Through with all commands.

pub through-law : ThroughLaw
through-law with h commands history through =
    finish_law with h commands history (λ s. length commands) (λ s. None) through.part
    (record {
      counts = λ s. ap (count_of with s) (take-all commands) ∙ sym (through.counts s);
      begun = λ i c at low. let found = through.over i c at in (found.0, found.1, inl found.2);
    })
    (record { begun = λ i c at. slice_get_within commands i c at; ended = λ s. refl })

-- where nothing begins no session begins anything
begins-nothing : (s : ℕ) (history : List Event) → ((p : ℕ) (e : Event) → event_at history p ≡ Some e → is_beginning e ≡ false) → begins_of history s ≡ []
unfolding begins_of
begins-nothing s [] none = refl
begins-nothing s (e ∷ past) none =
    begins_of-other e past s (begins-none s e (not-some (session_in e) (none (length past) e (event_at-here e past))))
    ∙ begins-nothing s past (λ p b at. none p b (event_at-older e past p (within past p b at) ∙ at))
  where
    not-some : (o : Option ℕ) → is_some o ≡ false → o ≡ None
    not-some None is = refl
    not-some (Some x) is = cc

-- first pulls begin no command, and end none
none-begins : (site : Site) (h : List Event) → EachEvent (IsFirstPull site) h → (p : ℕ) (e : Event) → event_at h p ≡ Some e → is_beginning e ≡ false
none-begins site [] pulls p e at = (let never : ◌≡◌ {A = Option Event} None (Some e) = at in absurd (cc))
none-begins site (Synced server listing ∷ past) pulls p e at = elim (cases_Bool (p == length past)) [
  | inl here ↦
      (let same : Some (Synced server listing) ≡ Some e = ap (λ (b : Bool). cond b (Some (Synced server listing)) (event_at past p)) (sym here) ∙ at in
      let event_is : Synced server listing ≡ e = cc in
      ap is_beginning (sym event_is))
  | inr older ↦ none-begins site past pulls.1 p e (ap (λ (b : Bool). cond b (Some (Synced server listing)) (event_at past p)) (sym older) ∙ at)
]
none-begins site (_ ∷ past) pulls p e at = absurd pulls.0

none-ends : (with : Use) (site : Site) (h : List Event) → EachEvent (IsFirstPull site) h → EachEvent (HasPulls with) h
none-ends with site [] pulls = tt
none-ends with site (Synced server listing ∷ past) pulls = (tt, none-ends with site past pulls.1)
none-ends with site (_ ∷ past) pulls = absurd pulls.0

pub opening-law : OpeningLaw
opening-law with h site history opening = record {
  part = record {
    begun = λ i c at. cc;
    only = λ p e at begins. absurd (clash (is_beginning e) begins (none-begins site history opening.pulls p e at));
    in_turn = λ i j c d at_c at_d w. cc;
    pulls = none-ends with site history opening.pulls;
  };
  counts = λ s. ap length (begins-nothing s history (none-begins site history opening.pulls));
  over = λ i c at. cc;
}
  where
    clash : (b : Bool) → b ≡ true → b ≡ false → ⊥
    clash b x y = cc

-- Phases.

-- the commands before the phase have their places in it, and are over
module _ (with : Use) (done phase : List Command) (history : List Event)
    (over : (i : ℕ) (c : Command) → slice_get done i ≡ Some c → (p : ℕ) × (place_in with done history i ≡ Some p) × IsTrue (is_over history p)) where
  past-over : (i : ℕ) (c : Command) → slice_get (done ++ phase) i ≡ Some c → i < length done
      → (p : ℕ) × (place_in with (done ++ phase) history i ≡ Some p) × IsTrue (is_over history p)
  past-over i c at low =
      let found = over i c (sym (get-first done phase i low) ∙ at) in
      (found.0, first-place with done phase history i low ∙ found.1, found.2)

pub phase-start-law : PhaseStartLaw
phase-start-law with h done phase history next through first = record {
  part = start_law with h done phase history (λ s. omega (arith, through.counts s)) through.part;
  streams = record {
    counts = λ s.
        let taken = take-behind done phase (next s) (first s).0 in
        let none : count_of with s (take taken.0 phase) ≡ 0 =
        none-count with s phase taken.0 (λ i c at low. (first s).1 (length done + i) c (get-behind done phase i ∙ at) (omega arith) (omega (arith, low, taken.1))) in
        ap (count_of with s) taken.2 ∙ omega (arith, none, count_of-append with s done (take taken.0 phase), through.counts s);
    begun = λ i c at low. elim (below-or i (length done)) [
      | inl old ↦ let found = past-over with done phase history through.over i c at old in (found.0, found.1, inl found.2)
      | inr late ↦ absurd ((first (session_of with c)).1 i c at late low refl)
    ];
  };
  past = past-over with done phase history through.over;
}

pub phase-end-law : PhaseEndLaw
phase-end-law with h commands n history next opened phase finished = record {
  part = phase.part;
  counts = λ s. sym (phase.streams.counts s)
      ∙ all-count with s commands (next s) (λ i c at same. subst (λ t. i < next t) same (finished.begun i c at));
  over = λ i c at.
      let found = phase.streams.begun i c at (finished.begun i c at) in
      (found.0, found.1, over-now (opened (session_of with c)) found.0 history (finished.ended (session_of with c)) found.2);
}

-- One after the other.

pub order-start-law : OrderStartLaw
order-start-law with h done phase history few order = start-any with h done phase history (λ i j. i < j) (λ i j. i < j) few (λ i j low w. (w, w)) order

pub order-other-law : OrderOtherLaw
order-other-law with h commands e history none pulls order =
    subst (λ ps. IsPartAt with h commands (λ i j. i < j) (e ∷ history) (λ i. get_or ps i None)) (sym (places-other with [] commands e history none))
    (other with h commands (λ i j. i < j) e history (place_in with commands history) (ap is_some none) pulls order)

pub order-begin-law : OrderBeginLaw
order-begin-law with h front c back e history before count session begins order =
    let commands = front ++ c ∷ back in
    begin with h commands (λ i j. i < j) e history (place_in with commands history) (place_in with commands (e ∷ history)) (length front)
    (record {
      command = c;
      at = get-middle front back c;
      none = next-none with front c back e history session count;
      begins = begins;
      waited = λ i b at low. before i low;
      itself = λ low. omega arith;
    })
    (has-place with front c back e history session count) order
