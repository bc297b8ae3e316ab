-- A job comes to its end: its command of one action ends in the same commit, and a balance goes on to its next action.
use Rattle.std.proofs.{Common.{◌≡◌, ◌≢◌, ℕ, ◌<◌, List, ◌∷◌, Bool, eqb, length, Option, Some, None, option_and_then, refl, sym, ap, ◌∙◌, subst, inl, inr, arith, le_of_eq, eq-eqb}, lemmas.Bool.{or_left, eqb-true, eqb-false}}
use Rattle.row_ledger.specs.{Belonging.number_in, Kept.KeepsRight, Past.{end_in, event_at, has_ended, insert_at, insert_in, is_end_of, query_at, query_in, session_in}, declared.event.Event.Event, declared.event.Event.TheVariants.Ended, declared.settings.How.How}
use Rattle.row_ledger.proofs.Older.{is_over-older}
use Rattle.list_words.proofs.Truth.{on_bool}
use Rattle.core_tree.specs.volap_cell.specs.{Setting.{Setting, site_in}, Telling.{IsProgress, Telling}, Values.JobValue, declared.command.Command.Command, declared.role.Role.Role}
use Rattle.core_tree.specs.volap_cell.proofs.{OneEvent.Older.kind-same, OneEvent.Told.{commands-older, ended-same, progress-grown}, Views.Fields.IsNewAt}
use Rattle.core_image.proofs.Commands.Ends.{only-its}

-- A command notes an event that is no beginning and no end, and ends with the next one.
module _ (s : Setting) (h : List Event) (commands commands_now : ℕ → Option Command) (jobs jobs_now : ℕ → Option JobValue) (roles : ℕ → Role) (seen seen_now : ℕ → ℕ) (placed : ℕ → Bool) (i : Telling s h commands jobs roles seen placed)
    (n : ℕ) (its : Command) (e : Event) (how : How) (turn : IsNewAt commands_now commands n (Some its) None) (gone : (a : ℕ) → a ≢ n → jobs_now a ≡ jobs a) (seen_off : (a : ℕ) → a ≢ n → seen_now a ≡ seen a)
    (number : number_in e ≡ Some its.of) (no_session : session_in e ≡ None) (no_insert : insert_in e ≡ None) (no_query : query_in e ≡ None) (no_end : end_in e ≡ None) where
  abbrev f : Event
  f = Ended its.of how

  abbrev h2 : List Event
  h2 = f ∷ e ∷ h

  other-command : (a : ℕ) (c : Command) → commands_now a ≡ Some c → (a ≢ n) × (commands a ≡ Some c) × (c.of ≢ its.of)
  other-command a c has =
      let ne : a ≢ n = (λ k. let never : ◌≡◌ {A = Option Command} None (Some c) = sym turn.is_there ∙ ap commands_now (sym k) ∙ has in cc) in
      let was = sym (turn.elsewhere a ne) ∙ has in
      (ne, was, λ k. ne (only-its s h commands jobs roles seen placed i n its turn.was_there a c was k))

  session-same : (p : ℕ) → option_and_then session_in (event_at h2 p) ≡ option_and_then session_in (event_at h p)
  session-same p = kind-same session_in f (e ∷ h) refl p ∙ kind-same session_in e h no_session p

  insert-same : (p : ℕ) → insert_at h2 p ≡ insert_at h p
  insert-same p = kind-same insert_in f (e ∷ h) refl p ∙ kind-same insert_in e h no_insert p

  query-same : (p : ℕ) → query_at h2 p ≡ query_at h p
  query-same p = kind-same query_in f (e ∷ h) refl p ∙ kind-same query_in e h no_query p

  off-first : (c : Command) → c.of ≢ its.of → number_in e ≢ Some c.of
  off-first c ne k = (let both : Some its.of ≡ Some c.of = sym number ∙ k in ne cc)

  off-second : (c : Command) → c.of ≢ its.of → number_in f ≢ Some c.of
  off-second c ne k = (let both : ◌≡◌ {A = Option ℕ} (Some its.of) (Some c.of) = k in ne cc)

  pub telling-finished : KeepsRight (site_in s) placed h2 → seen_now n ≡ length h2 → Telling s h2 commands_now jobs_now roles seen_now placed
  telling-finished right all_seen = record {
    right = right;
    own = λ a c has. let o = other-command a c has in session-same c.of ∙ i.own a c o.1;
    is_open = λ a c has. let o = other-command a c has in ended-same f (e ∷ h) c.of (off-second c o.2) ∙ ended-same e h c.of (off-first c o.2) ∙ i.is_open a c o.1;
    progress = λ a c has.
        let o = other-command a c has in
        let began = commands-older s h i a c o.1 in
        subst (λ (j : Option JobValue). IsProgress s h2 c.of c.work j (roles a)) (sym (gone a o.0))
        (progress-grown s f (e ∷ h) c.of c.work (jobs a) (roles a) (omega (arith, began)) (off-second c o.2)
        (progress-grown s e h c.of c.work (jobs a) (roles a) began (off-first c o.2) (i.progress a c o.1)));
    last = λ a p own.
        let lt = i.last a p (sym (session-same p) ∙ own) in
        on_bool (eqb a n)
        (λ q. let is = eqb-true a n q in let all : seen_now a ≡ length h2 = ap seen_now is ∙ all_seen in let le = i.within a in omega (arith, lt, all, le))
        (λ q. subst (λ (k : ℕ). p < k) (sym (seen_off a (eqb-false a n q))) lt);
    within = λ a. on_bool (eqb a n)
        (λ q. le_of_eq (ap seen_now (eqb-true a n q) ∙ all_seen))
        (λ q. let off = seen_off a (eqb-false a n q) in let le = i.within a in omega (arith, off, le));
    rows = λ r insert is. i.rows r insert (sym (insert-same r) ∙ is);
    filters = λ b q is. i.filters b q (sym (query-same b) ∙ is);
    status = λ a p own. elim (i.status a p (sym (session-same p) ∙ own)) [
      | inl over ↦ inl (is_over-older f (e ∷ h) p (is_over-older e h p over))
      | inr at ↦ on_bool (eqb at.0 n)
          (λ q.
          let both : ◌≡◌ {A = Option Command} (Some its) (Some at.1) = sym turn.was_there ∙ ap commands (sym (eqb-true at.0 n q)) ∙ at.2 in
          let same : its.of ≡ at.1.of = (let k : its ≡ at.1 = cc in ap (λ (c : Command). c.of) k) in
          inl (or_left (has_ended h2 p) _ (or_left (is_end_of p f) (has_ended (e ∷ h) p) (eq-eqb its.of p (same ∙ at.3)))))
          (λ q. inr (at.0, at.1, turn.elsewhere at.0 (eqb-false at.0 n q) ∙ at.2, at.3))
    ];
  }
