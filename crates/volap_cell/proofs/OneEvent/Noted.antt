-- What the history tells of commands when an actor notes an event: it begins a command, goes on with its own, or ends it.
-- `telling-begins`, `telling-goes-on`, `telling-ends`, each over a history that is right with the event; what is told of a command that
-- begins: `new-own`, `new-open`, `new-workless`, `new-pageless`, `new-told`.
use Rattle.std.proofs.{Common.{◌≡◌, ◌≢◌, ℕ, ◌<◌, ◌∙◌, List, [], ◌∷◌, Bool, true, false, length, refl, sym, ap, subst, ◌⊎◌, inl, inr, is_some, eq-eqb, le_refl}, lemmas.Bool.or_left}
use Rattle.std.specs.Prelude.{Option, Some, None, option_and_then}
use Rattle.dim_hierarchy.specs.{Filter.IsFilterOf, Rows.IsRowOf}
use Rattle.row_ledger.specs.{Belonging.number_in, Kept.KeepsRight, Past.{Insert, Query, event_at, insert_in, query_in, session_in, end_in, ends_itself, is_end_of, has_ended, has_page, work}, declared.event.Event.Event, declared.event.Event.TheVariants.{Begun, Acked, Asked, Answered, Unknown, Failed, Refused, Called, Ended}}
use Rattle.row_ledger.proofs.{Fresh.{fresh-newest, pageless, workless}, Positions.event_at-here}
use Rattle.volap_cell.specs.{Setting.{Setting, site_in}, Telling.{IsProgress, Telling}, Values.JobValue, declared.command.Command.Command, declared.role.Role.Role}
use Rattle.volap_cell.proofs.{OneEvent.Older.kind-older, OneEvent.Told.{IsOwn, commands-older, no-work, page-same, telling-grown}, OneEvent.Work.work-same}

-- Events. One that begins a command belongs to no other; one that doesn't begins no insert and no query.

begins-alone : (e : Event) (a p : ℕ) → session_in e ≡ Some a → number_in e ≢ Some p
begins-alone (Begun session server row) a p is n = (let never : ◌≡◌ {A = Option ℕ} None (Some p) = n in cc)
begins-alone (Asked session server filter) a p is n = (let never : ◌≡◌ {A = Option ℕ} None (Some p) = n in cc)
begins-alone (Unknown session server dim) a p is n = (let never : ◌≡◌ {A = Option ℕ} None (Some p) = n in cc)
begins-alone (Refused session) a p is n = (let never : ◌≡◌ {A = Option ℕ} None (Some p) = n in cc)
begins-alone (Called session call) a p is n = (let never : ◌≡◌ {A = Option ℕ} None (Some p) = n in cc)
begins-alone _ a p is n = (let never : ◌≡◌ {A = Option ℕ} None (Some a) = is in cc)

no-insert : (e : Event) → session_in e ≡ None → insert_in e ≡ None
no-insert (Begun session server row) none = (let never : Some session ≡ None = none in cc)
no-insert _ none = refl

no-query : (e : Event) → session_in e ≡ None → query_in e ≡ None
no-query (Asked session server filter) none = (let never : Some session ≡ None = none in cc)
no-query _ none = refl

-- an end belongs to the command that it ends, and begins none

end-number : (e : Event) (p : ℕ) → end_in e ≡ Some p → number_in e ≡ Some p
end-number (Acked of path) p is = is
end-number (Answered of agg) p is = is
end-number (Failed of) p is = is
end-number (Ended of how) p is = is
end-number _ p is = (let never : ◌≡◌ {A = Option ℕ} None (Some p) = is in cc)

pub end-begins-none : (e : Event) (p : ℕ) → end_in e ≡ Some p → session_in e ≡ None
end-begins-none (Acked of path) p is = refl
end-begins-none (Answered of agg) p is = refl
end-begins-none (Failed of) p is = refl
end-begins-none (Ended of how) p is = refl
end-begins-none _ p is = (let never : ◌≡◌ {A = Option ℕ} None (Some p) = is in cc)

-- New commands.

-- what an event tells at its own position
pub new-told : {X : Type 0} (kind : Event → Option X) (e : Event) (h : List Event) → option_and_then kind (event_at (e ∷ h) (length h)) ≡ kind e
new-told kind e h = ap (λ (o : Option Event). option_and_then kind o) (event_at-here e h)

pub new-own : (e : Event) (h : List Event) (n : ℕ) → session_in e ≡ Some n → IsOwn (e ∷ h) (length h) n
new-own e h n is = new-told session_in e h ∙ is

module _ (s : Setting) (e : Event) (h : List Event) (placed : ℕ → Bool) (right : KeepsRight (site_in s) placed (e ∷ h)) where
  pub new-open : has_ended (e ∷ h) (length h) ≡ false
  new-open = fresh-newest (site_in s) placed e h right.right.each (length h) (le_refl (length h))

  -- it belongs to no older command, so it is no work and no page
  pub new-workless : (a : ℕ) → session_in e ≡ Some a → work (e ∷ h) (length h) ≡ []
  new-workless a is = let each = right.right.each in work-same e h (length h) (no-work e (length h) (begins-alone e a (length h) is)) ∙ workless (site_in s) placed h each.1 (length h) (le_refl (length h))

  pub new-pageless : (a : ℕ) → session_in e ≡ Some a → has_page (e ∷ h) (length h) ≡ false
  new-pageless a is = let each = right.right.each in page-same e h (length h) (begins-alone e a (length h) is) ∙ ap is_some (pageless (site_in s) placed h each.1 (length h) (le_refl (length h)))

-- other actors keep their commands, their jobs and what they have seen, and this one has seen all
pub record IsNotedBy (e : Event) (h : List Event) (n : ℕ) (commands commands_now : ℕ → Option Command) (jobs jobs_now : ℕ → Option JobValue) (seen seen_now : ℕ → ℕ) : Type 0 where
  pub others : (a : ℕ) → a ≢ n → (commands_now a ≡ commands a) × (jobs_now a ≡ jobs a) × (seen_now a ≡ seen a)
  pub all_seen : seen_now n ≡ length (e ∷ h)

module _ (s : Setting) (e : Event) (h : List Event) (n : ℕ) (commands commands_now : ℕ → Option Command) (jobs jobs_now : ℕ → Option JobValue) (roles : ℕ → Role) (seen seen_now : ℕ → ℕ) (placed : ℕ → Bool)
    (by : IsNotedBy e h n commands commands_now jobs jobs_now seen seen_now) (right : KeepsRight (site_in s) placed (e ∷ h)) (i : Telling s h commands jobs roles seen placed) where
  -- an actor without a command begins one, or notes one that ends with its beginning
  pub telling-begins : session_in e ≡ Some n → commands n ≡ None
      → ((c : Command) → commands_now n ≡ Some c → (c.of ≡ length h) × IsProgress s (e ∷ h) c.of c.work (jobs_now n) (roles n))
      → (ends_itself e ≡ true) ⊎ ((c : Command) × (commands_now n ≡ Some c))
      → ((insert : Insert) → insert_in e ≡ Some insert → IsRowOf s.hierarchy insert.row × (insert.server < s.servers))
      → ((q : Query) → query_in e ≡ Some q → IsFilterOf s.hierarchy q.filter × (q.server < s.servers) × (0 < length s.hierarchy))
      → Telling s (e ∷ h) commands_now jobs_now roles seen_now placed
  telling-begins session free now over row filter = telling-grown s e h n commands commands_now jobs jobs_now roles seen seen_now placed
      (record {
        others = by.others;
        whose = λ b is. absurd (begins-alone e n b session is);
        by = λ a is. let same : Some a ≡ Some n = sym is ∙ session in cc;
        mine = λ c is. let t = now c is in (
          subst (λ (p : ℕ). IsOwn (e ∷ h) p n) (sym t.0) (new-own e h n session),
          ap (has_ended (e ∷ h)) t.0 ∙ new-open s e h placed right,
          t.1,
        );
        all_seen = by.all_seen;
        row = row;
        filter = filter;
        begins = λ a is. elim over [ inl itself ↦ inl itself | inr c ↦ (let u = now c.0 c.1 in inr (c.0, c.1, u.0)) ];
        goes_on = λ c is. let never : ◌≡◌ {A = Option Command} None (Some c) = sym free ∙ is in cc;
      })
      i right

  -- an actor's command goes on, as far as it says; the event is no end, and belongs to no other command
  pub telling-goes-on : (c d : Command) → session_in e ≡ None → end_in e ≡ None → ((b : ℕ) → number_in e ≡ Some b → b ≡ c.of)
      → commands n ≡ Some c → commands_now n ≡ Some d → d.of ≡ c.of → IsProgress s (e ∷ h) d.of d.work (jobs_now n) (roles n)
      → Telling s (e ∷ h) commands_now jobs_now roles seen_now placed
  telling-goes-on c d none ends number was now same progress =
      let own : IsOwn h c.of n = i.own n c was in
      let began : c.of < length h = commands-older s h i n c was in
      telling-grown s e h n commands commands_now jobs jobs_now roles seen seen_now placed
      (record {
        others = by.others;
        whose = λ b is. subst (λ (p : ℕ). IsOwn h p n) (sym (number b is)) own;
        by = λ a is. let never : ◌≡◌ {A = Option ℕ} None (Some a) = sym none ∙ is in cc;
        mine = λ x is. let it : d ≡ x = cc in subst (λ (y : Command). IsOwn (e ∷ h) y.of n × (has_ended (e ∷ h) y.of ≡ false) × IsProgress s (e ∷ h) y.of y.work (jobs_now n) (roles n)) it (
          subst (λ (p : ℕ). IsOwn (e ∷ h) p n) (sym same) (kind-older session_in e h c.of began ∙ own),
          ap (has_ended (e ∷ h)) same ∙ (rw ends (i.is_open n c was)),
          progress,
        );
        all_seen = by.all_seen;
        row = λ insert is. let never : ◌≡◌ {A = Option Insert} None (Some insert) = sym (no-insert e none) ∙ is in cc;
        filter = λ q is. let never : ◌≡◌ {A = Option Query} None (Some q) = sym (no-query e none) ∙ is in cc;
        begins = λ a is. let never : ◌≡◌ {A = Option ℕ} None (Some a) = sym none ∙ is in cc;
        goes_on = λ x is. let it : c ≡ x = cc in inr (d, now, same ∙ ap (λ (y : Command). y.of) it);
      })
      i right

  -- an actor's command ends
  pub telling-ends : (c : Command) → end_in e ≡ Some c.of → commands n ≡ Some c → commands_now n ≡ None → Telling s (e ∷ h) commands_now jobs_now roles seen_now placed
  telling-ends c ends was now =
      let none : session_in e ≡ None = end-begins-none e c.of ends in
      telling-grown s e h n commands commands_now jobs jobs_now roles seen seen_now placed
      (record {
        others = by.others;
        whose = λ b is. let same : Some c.of ≡ Some b = sym (end-number e c.of ends) ∙ is in let it : c.of ≡ b = cc in subst (λ (p : ℕ). IsOwn h p n) it (i.own n c was);
        by = λ a is. let never : ◌≡◌ {A = Option ℕ} None (Some a) = sym none ∙ is in cc;
        mine = λ x is. let never : ◌≡◌ {A = Option Command} None (Some x) = sym now ∙ is in cc;
        all_seen = by.all_seen;
        row = λ insert is. let never : ◌≡◌ {A = Option Insert} None (Some insert) = sym (no-insert e none) ∙ is in cc;
        filter = λ q is. let never : ◌≡◌ {A = Option Query} None (Some q) = sym (no-query e none) ∙ is in cc;
        begins = λ a is. let never : ◌≡◌ {A = Option ℕ} None (Some a) = sym none ∙ is in cc;
        goes_on = λ x is. let it : c ≡ x = cc in
            inl (or_left (is_end_of x.of e) (has_ended h x.of) (rw ends (eq-eqb c.of x.of (ap (λ (y : Command). y.of) it))));
      })
      i right
