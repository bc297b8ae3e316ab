-- One event more, that an actor notes: what the history tells of each command, and what is owed to it.
use Rattle.std.proofs.{Common.{◌≡◌, ◌≢◌, ℕ, ◌+◌, ◌<◌, ◌≤◌, ◌∙◌, List, ◌∷◌, Bool, true, false, IsTrue, length, refl, sym, ap, subst, arith, ◌⊎◌, inl, inr, ◌==◌, eqb-true, le_of_lt, le_of_eq}, lemmas.Bool.{or_left, or_right, eqb-false, ne_eqb}}
use Rattle.std.specs.{List.list_any, Option.option_map_or, Prelude.{Option, Some, None, option_and_then}}
use Rattle.dim_hierarchy.specs.{Filter.IsFilterOf, Rows.IsRowOf}
use Rattle.row_ledger.specs.{Belonging.number_in, Classes.is_there, Kept.KeepsRight, Past.{Insert, Query, event_at, insert_in, query_in, session_in, ends_itself, is_end_of, has_ended, is_work_of, page_in, has_page, since, is_pull_of}, Right.has_pulled, Work.is_known, declared.class.Class.Class, declared.event.Event.Event, declared.event.Event.TheVariants.{Acked, Answered, Failed, Split, Moved, Left, Shown, Ended}}
use Rattle.row_ledger.proofs.{Fresh.kind-within, Older.is_over-older, Positions.{before-older, event_at-here, since-inside}}
use Rattle.list_words.proofs.Truth.{on_bool}
use Rattle.volap_cell.specs.{Setting.{Setting, site_in}, Telling.{IsCalledAs, IsProgress, IsOverOrOpen, Telling}, Values.JobValue, declared.command.Command.Command, declared.command.Work.Work, declared.role.Role.Role}
use Rattle.volap_cell.specs.declared.command.Work.TheVariants as work_is
use Rattle.volap_cell.proofs.{OneEvent.Older.{kind-older, insert-kept, query-kept, call-kept}, OneEvent.Work.work-same}

-- Other commands. An event that belongs to another command is no end, no work and no page of this one.

pub no-end : (e : Event) (p : ℕ) → number_in e ≢ Some p → is_end_of p e ≡ false
no-end (Acked of path) p other = ne_eqb of p (λ q. other (ap Some q))
no-end (Answered of agg) p other = ne_eqb of p (λ q. other (ap Some q))
no-end (Failed of) p other = ne_eqb of p (λ q. other (ap Some q))
no-end (Ended of how) p other = ne_eqb of p (λ q. other (ap Some q))
no-end _ p other = refl

pub no-work : (e : Event) (p : ℕ) → number_in e ≢ Some p → is_work_of p e ≡ false
no-work (Split of shard left right) p other = ne_eqb of p (λ q. other (ap Some q))
no-work (Moved of shard worker) p other = ne_eqb of p (λ q. other (ap Some q))
no-work (Left of shard how) p other = ne_eqb of p (λ q. other (ap Some q))
no-work _ p other = refl

pub no-page : (e : Event) (p : ℕ) → number_in e ≢ Some p → page_in p e ≡ None
no-page (Shown of page) p other = rw (ne_eqb of p (λ q. other (ap Some q))) refl
no-page _ p other = refl

pub ended-same : (e : Event) (h : List Event) (p : ℕ) → number_in e ≢ Some p → has_ended (e ∷ h) p ≡ has_ended h p
ended-same e h p other = rw (no-end e p other) refl

pub page-same : (e : Event) (h : List Event) (p : ℕ) → number_in e ≢ Some p → has_page (e ∷ h) p ≡ has_page h p
page-same e h p other = rw (no-page e p other) refl

-- a server that has pulled since a position
pub pulled-grown : (e : Event) (h : List Event) (of server : ℕ) → of < length h → IsTrue (has_pulled h of server) → IsTrue (has_pulled (e ∷ h) of server)
pulled-grown e h of server began pulled = ap (list_any (is_pull_of server)) (since-inside e h of began) ∙ or_right (is_pull_of server e) (list_any (is_pull_of server) (since h of)) pulled

-- the class of a call stays
pub called-kept : (e : Event) (h : List Event) (of : ℕ) (class : Class) → IsCalledAs h of class → IsCalledAs (e ∷ h) of class
called-kept e h of class called = (called.0, call-kept e h of called.0 called.1, called.2)

-- how far a command has come, that began before and to which the event doesn't belong
pub progress-grown : (s : Setting) (e : Event) (h : List Event) (of : ℕ) (w : Work) (job : Option JobValue) (role : Role) → of < length h → number_in e ≢ Some of
    → IsProgress s h of w job role → IsProgress s (e ∷ h) of w job role
progress-grown s e h of (work_is.Insert row routed) job role began other i = (i.0, i.1, insert-kept e h of _ i.2, i.3)
progress-grown s e h of work_is.Query job role began other i = (i.0, i.1, query-kept e h of i.0 i.2)
progress-grown s e h of (work_is.Sync server pulled) job role began other i = (called-kept e h of _ i.0, i.1, λ p. pulled-grown e h of server began (i.2 p))
progress-grown s e h of (work_is.Settle pulls) job role began other i = (called-kept e h of _ i.0, i.1)
progress-grown s e h of work_is.Bare job role began other i = called-kept e h of _ i
progress-grown s e h of (work_is.Page subject there shown) job role began other i = (
  called-kept e h of _ i.0,
  page-same e h of other ∙ i.1,
  ap (λ (past : List Event). is_there s.workers past subject) (before-older e h of (le_of_lt began)) ∙ i.2,
  i.3,
)
progress-grown s e h of (work_is.Action a) job role began other i = (
  called-kept e h of _ i.0,
  work-same e h of (no-work e of other) ∙ i.1,
  i.2 ∙ ap (λ (past : List Event). is_known (site_in s) past a) (sym (before-older e h of (le_of_lt began))),
)
progress-grown s e h of (work_is.Balance b) job role began other i = (called-kept e h of _ i.0, i.1)

-- what began at a position did so before, or is what the event begins
pub kind-cases : {X : Type 0} (kind : Event → Option X) (e : Event) (h : List Event) (p : ℕ) (x : X) → option_and_then kind (event_at (e ∷ h) p) ≡ Some x
    → (option_and_then kind (event_at h p) ≡ Some x) ⊎ ((p ≡ length h) × (kind e ≡ Some x))
kind-cases kind e h p x is = on_bool (p == length h)
    (λ here. let new : event_at (e ∷ h) p ≡ Some e = rw here refl in
    inr (eqb-true p (length h) here, sym (ap (λ (o : Option Event). option_and_then kind o) new) ∙ is))
    (λ off. let old : event_at (e ∷ h) p ≡ event_at h p = rw off refl in
    inl (sym (ap (λ (o : Option Event). option_and_then kind o) old) ∙ is))

-- a command's own session began it
abbrev pub IsOwn : List Event → ℕ → ℕ → Type 0
IsOwn h of a = option_and_then session_in (event_at h of) ≡ Some a

-- One actor notes the event. The event is of its command, or begins one. Other actors' commands stay. Its own afterwards, if it has
-- one, began, is open and is as far as it says; and one that it had, or begins, has its end, or is its command.
pub record IsNoted (s : Setting) (e : Event) (h : List Event) (n : ℕ) (commands commands_now : ℕ → Option Command) (jobs jobs_now : ℕ → Option JobValue) (roles : ℕ → Role) (seen seen_now : ℕ → ℕ) : Type 0 where
  pub others : (a : ℕ) → a ≢ n → (commands_now a ≡ commands a) × (jobs_now a ≡ jobs a) × (seen_now a ≡ seen a)
  pub whose : (of : ℕ) → number_in e ≡ Some of → IsOwn h of n
  pub by : (a : ℕ) → session_in e ≡ Some a → a ≡ n
  pub mine : (c : Command) → commands_now n ≡ Some c → IsOwn (e ∷ h) c.of n × (has_ended (e ∷ h) c.of ≡ false) × IsProgress s (e ∷ h) c.of c.work (jobs_now n) (roles n)
  pub all_seen : seen_now n ≡ length (e ∷ h)
  pub row : (i : Insert) → insert_in e ≡ Some i → IsRowOf s.hierarchy i.row × (i.server < s.servers)
  pub filter : (q : Query) → query_in e ≡ Some q → IsFilterOf s.hierarchy q.filter × (q.server < s.servers) × (0 < length s.hierarchy)
  pub begins : (a : ℕ) → session_in e ≡ Some a → (ends_itself e ≡ true) ⊎ ((c : Command) × (commands_now n ≡ Some c) × (c.of ≡ length h))
  pub goes_on : (c : Command) → commands n ≡ Some c → (has_ended (e ∷ h) c.of ≡ true) ⊎ ((d : Command) × (commands_now n ≡ Some d) × (d.of ≡ c.of))

module _ (s : Setting) (e : Event) (h : List Event) (n : ℕ) (commands commands_now : ℕ → Option Command) (jobs jobs_now : ℕ → Option JobValue) (roles : ℕ → Role) (seen seen_now : ℕ → ℕ) (placed : ℕ → Bool)
    (noted : IsNoted s e h n commands commands_now jobs jobs_now roles seen seen_now) (i : Telling s h commands jobs roles seen placed) where
  -- a command of another actor isn't that of the event
  pub is-other : (a : ℕ) (c : Command) → a ≢ n → commands a ≡ Some c → number_in e ≢ Some c.of
  is-other a c off is q =
      let mine : IsOwn h c.of n = noted.whose c.of q in
      let its : IsOwn h c.of a = i.own a c is in
      let same : Some a ≡ Some n = sym its ∙ mine in
      off cc

  command-now : (a : ℕ) (c : Command) → commands_now a ≡ Some c → IsOwn (e ∷ h) c.of a × (has_ended (e ∷ h) c.of ≡ false) × IsProgress s (e ∷ h) c.of c.work (jobs_now a) (roles a)
  command-now a c is = on_bool (a == n)
      (λ q. subst (λ (b : ℕ). commands_now b ≡ Some c → IsOwn (e ∷ h) c.of b × (has_ended (e ∷ h) c.of ≡ false) × IsProgress s (e ∷ h) c.of c.work (jobs_now b) (roles b)) (sym (eqb-true a n q)) (noted.mine c) is)
      (λ q. let off : a ≢ n = eqb-false a n q in
      let o = noted.others a off in
      let was : commands a ≡ Some c = sym o.0 ∙ is in
      let own : IsOwn h c.of a = i.own a c was in
      let began : c.of < length h = kind-within session_in h c.of a own in
      let other : number_in e ≢ Some c.of = is-other a c off was in (
        kind-older session_in e h c.of began ∙ own,
        ended-same e h c.of other ∙ i.is_open a c was,
        subst (λ (j : Option JobValue). IsProgress s (e ∷ h) c.of c.work j (roles a)) (sym o.1) (progress-grown s e h c.of c.work (jobs a) (roles a) began other (i.progress a c was)),
      ))

  last-now : (a p : ℕ) → IsOwn (e ∷ h) p a → p < seen_now a
  last-now a p own = on_bool (a == n)
      (λ q. let all : seen_now a ≡ length (e ∷ h) = ap seen_now (eqb-true a n q) ∙ noted.all_seen in
      let below : p < length (e ∷ h) = kind-within session_in (e ∷ h) p a own in omega arith)
      (λ q. let off : a ≢ n = eqb-false a n q in
      let o = noted.others a off in
      elim (kind-cases session_in e h p a own) [
        | inl old ↦ subst (λ (m : ℕ). p < m) (sym o.2) (i.last a p old)
        | inr new ↦ absurd (off (noted.by a new.1))
      ])

  within-now : (a : ℕ) → seen_now a ≤ length (e ∷ h)
  within-now a = on_bool (a == n)
      (λ q. le_of_eq (ap seen_now (eqb-true a n q) ∙ noted.all_seen))
      (λ q. let o = noted.others a (eqb-false a n q) in let same : seen_now a ≡ seen a = o.2 in let below : seen a ≤ length h = i.within a in omega arith)

  status-now : (a p : ℕ) → IsOwn (e ∷ h) p a → IsOverOrOpen (e ∷ h) commands_now p
  status-now a p own = elim (kind-cases session_in e h p a own) [
    | inl old ↦ elim (i.status a p old) [
      | inl over ↦ inl (is_over-older e h p over)
      | inr at ↦ on_bool (at.0 == n)
          (λ q. let mine : commands n ≡ Some at.1 = sym (ap commands (eqb-true at.0 n q)) ∙ at.2 in
          elim (noted.goes_on at.1 mine) [
            | inl ended ↦ inl (or_left (has_ended (e ∷ h) p) _ (ap (has_ended (e ∷ h)) (sym at.3) ∙ ended))
            | inr goes ↦ inr (n, goes.0, goes.1, goes.2 ∙ at.3)
          ])
          (λ q. let o = noted.others at.0 (eqb-false at.0 n q) in inr (at.0, at.1, o.0 ∙ at.2, at.3))
    ]
    | inr new ↦ elim (noted.begins a new.1) [
      | inl itself ↦ inl (or_right (has_ended (e ∷ h) p) _ (ap (λ (o : Option Event). option_map_or ends_itself o false) (ap (event_at (e ∷ h)) new.0 ∙ event_at-here e h) ∙ itself))
      | inr c ↦ inr (n, c.0, c.1, c.2 ∙ sym new.0)
    ]
  ]

  pub telling-grown : KeepsRight (site_in s) placed (e ∷ h) → Telling s (e ∷ h) commands_now jobs_now roles seen_now placed
  telling-grown right = record {
    right = right;
    own = λ a c is. let t = command-now a c is in t.0;
    is_open = λ a c is. let t = command-now a c is in t.1;
    progress = λ a c is. let t = command-now a c is in t.2;
    last = last-now;
    within = within-now;
    rows = λ r insert is. elim (kind-cases insert_in e h r insert is) [
      | inl old ↦ i.rows r insert old
      | inr new ↦ noted.row insert new.1
    ];
    filters = λ b q is. elim (kind-cases query_in e h b q is) [
      | inl old ↦ i.filters b q old
      | inr new ↦ noted.filter q new.1
    ];
    status = status-now;
  }

-- each command began before
pub commands-older : (s : Setting) (h : List Event) {commands : ℕ → Option Command} {jobs : ℕ → Option JobValue} {roles : ℕ → Role} {seen : ℕ → ℕ} {placed : ℕ → Bool}
    → Telling s h commands jobs roles seen placed → (a : ℕ) (c : Command) → commands a ≡ Some c → c.of < length h
commands-older s h i a c is = kind-within session_in h c.of a (i.own a c is)

-- What is owed. A push that was promised leaves room for those that are still promised.
pub few-pushed : (e : Event) (h : List Event) (promised promised_now bound : ℕ) → promised_now + 1 ≤ promised → length h + promised < bound → length (e ∷ h) + promised_now < bound
few-pushed e h promised promised_now bound used few = omega arith
