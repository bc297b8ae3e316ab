-- A step of any kind leaves the parts of open queries few.
use Rattle.std.proofs.{Common.{◌≡◌, ◌≢◌, ◌∙◌, inl, inr, ℕ, ◌+◌, ◌<◌, ◌≤◌, List, [], ◌∷◌, ◌++◌, Bool, true, false, All, eqb, get_or, Option, Some, None, sym, ap, subst, arith}, lemmas.Bool.{eqb-false, eqb-true}, lemmas.List.Elements.{All-head, All-tail, All-weaker}}
use Rattle.std.specs.Prelude.{if◌then◌else◌, is_some, nat_lt, ◌^◌, ◌-◌}
use Rattle.list_words.proofs.Truth.{on_bool}
use Rattle.query_router.specs.{Desk.DeskValue, declared.part.Part.Part}
use Rattle.row_ledger.proofs.Descent.{comes_from-older}
use Rattle.row_ledger.specs.{Right.{EachEvent, Site, Stands}, Shards.ids_made, declared.event.Event.Event}
use Rattle.core_told.proofs.Told.{none-some, others-law, told-law}
use Rattle.core_told.specs.Told.{OfBeginning, OfDeed, OfEnd, OfNothing, OfPage, OfPull, Told}
use Rattle.core_shard.specs.volap_cell.proofs.Persons.{IsNumbered, has-role}
use Rattle.core_shard.specs.volap_cell.specs.{Desking.{AreLinesApart, AreUnrelated, IsQueryPart, is_on_desk}, Ghost.Ghost, Invariant.InvWith, Setting.{Setting, site_in}, Steps.{Step, history_in}, Values.ErrandValue, View.{View, view}, World.World, declared.command.Command.Command, declared.command.Work.TheVariants.{Query}, declared.kind.Kind.Kind, declared.role.Role.TheVariants.{Hand, Session}}
use Rattle.core_counts.specs.{Ahead.{AreApart, ahead, most_ahead}, Counting.{CountingLaw, IsCounted, IsCounting, RestingCountLaw, went_after, went_if}}
use Rattle.core_counts.proofs.{AtFirst.{at-first-law, ids-grow}, Going.{Ends, Goes, SameErrand, Stays, Takes, goes-now}, Grows.grows-law, Leaving.Leaves}

-- What was counted.

at-most-one : (b : Bool) (went : ℕ) → (if b then went + 1 else went) ≤ went + 1
at-most-one true went = omega arith
at-most-one false went = omega arith

went-most : (begun was_at is_at : Bool) (went : ℕ) → went_if begun was_at is_at went ≤ went + 1
went-most false was_at is_at went = omega arith
went-most true true false went = at-most-one (nat_lt went (2 ^ 64 - 1)) went
went-most true true true went = omega arith
went-most true false is_at went = omega arith

-- it is no more where an actor is at a part afterwards, or where it was at none

went-at : (begun was_at : Bool) (went : ℕ) → went_if begun was_at true went ≤ went
went-at false was_at went = omega arith
went-at true true went = omega arith
went-at true false went = omega arith

went-off : (begun is_at : Bool) (went : ℕ) → went_if begun false is_at went ≤ went
went-off false is_at went = omega arith
went-off true is_at went = omega arith

went-same : (begun : Bool) (was now : Option ErrandValue) (went : ℕ) → SameErrand was now → went_if begun (is_some was) (is_some now) went ≤ went
went-same begun None None went same = went-off begun false went
went-same begun was (Some f) went same = went-at begun (is_some was) went
went-same begun (Some e) None went (inl same) = (let never : ◌≡◌ {A = Option ErrandValue} None (Some e) = same in absurd (cc))
went-same begun (Some e) None went (inr (x, f, was, now, server)) = (let never : ◌≡◌ {A = Option ErrandValue} None (Some f) = now in absurd (cc))

-- Histories that have grown.

-- so a history grows in a step
grown-of : (s : Setting) (k : Kind) (n : ℕ) (w now : World) → Told s k n w now → (newer : List Event) × (history_in now ≡ newer ++ history_in w)
grown-of s k n w now (OfNothing t) = ([], t.history)
grown-of s k n w now (OfDeed t) = (_ ∷ [], t.history)
grown-of s k n w now (OfPull t) = (_ ∷ [], t.history)
grown-of s k n w now (OfPage t) = (_ ∷ [], t.history)
grown-of s k n w now (OfEnd t) = (t.end_is ∷ t.deeds, t.history)
grown-of s k n w now (OfBeginning t) = (_ ∷ [], t.history)

module _ (site : Site) (usable : ℕ → Bool) (e : Event) (past : List Event) (stands : Stands site usable past e) where
  abbrev IsMade : Part → Type 0
  IsMade p = p.shard < ids_made site.workers past

  still-unrelated : (p : Part) → IsMade p → (xs : List Part) → All IsMade xs → All (AreUnrelated past p) xs → All (AreUnrelated (e ∷ past) p) xs
  still-unrelated p here xs made apart = λ k d lt. (
    comes_from-older site usable past e p.shard (get_or xs k d).shard stands (made k d lt) ∙ (apart k d lt).0,
    comes_from-older site usable past e (get_or xs k d).shard p.shard stands here ∙ (apart k d lt).1,
  )

  still-apart : (parts : List Part) → All IsMade parts → AreLinesApart past parts → AreLinesApart (e ∷ past) parts
  still-apart [] made apart = tt
  still-apart (p ∷ parts) made apart =
      (still-unrelated p (All-head IsMade p parts made) parts (All-tail IsMade p parts made) apart.0, still-apart parts (All-tail IsMade p parts made) apart.1)

  apart-still : (parts : List Part) → AreApart site usable past parts → AreApart site usable (e ∷ past) parts
  apart-still parts are =
      let more = ids-grow site e past in
      record {
        each = (stands, are.each);
        apart = still-apart parts are.made are.apart;
        made = All-weaker IsMade (λ (p : Part). p.shard < ids_made site.workers (e ∷ past)) (λ p lt. omega (arith, lt, more)) parts are.made;
      }

-- with all events that come the parts that stand go on more often by no more than the bound grows
grow-all : (site : Site) (usable : ℕ → Bool) (h : List Event) (parts : List Part) → AreLinesApart h parts → All (λ (p : Part). p.shard < ids_made site.workers h) parts
    → (newer : List Event) → EachEvent (Stands site usable) (newer ++ h)
    → (ahead site.workers (newer ++ h) parts + most_ahead site.workers h ≤ ahead site.workers h parts + most_ahead site.workers (newer ++ h)) × AreApart site usable (newer ++ h) parts
grow-all site usable h parts apart made [] each = (omega arith, record { each = each; apart = apart; made = made })
grow-all site usable h parts apart made (e ∷ newer) each =
    let rest = grow-all site usable h parts apart made newer each.1 in
    let few = rest.0 in
    let one = grows-law site usable e (newer ++ h) parts each.0 rest.1 in
    (omega (arith, few, one), apart-still site usable e (newer ++ h) each.0 parts rest.1)

-- The parts of an open query.

on-its-desk : (s : Setting) (v : View) (g : Ghost) (i : InvWith s v g) (a server : ℕ) (c : Command) → v.roles a ≡ Session server → v.commands a ≡ Some c → c.work ≡ Query → (v.desks server).op ≡ Some c.of
on-its-desk s v g i a server c role has query = i.desking.on_desk a server c has role (ap is_on_desk query)

query-parts : (s : Setting) (v : View) (g : Ghost) (i : InvWith s v g) (a server : ℕ) (c : Command) → v.roles a ≡ Session server → v.commands a ≡ Some c → c.work ≡ Query
    → AreApart (site_in s) g.placed v.history (v.desks server).parts
query-parts s v g i a server c role has query =
    let began = i.telling.progress a (record { of = c.of; work = Query }) (has ∙ (λ k. Some (record { of = c.of; work = query k }))) in
    let roles : Session began.0.server ≡ Session server = sym began.1 ∙ role in
    let servers : began.0.server ≡ server = cc in
    let within = subst (λ (x : ℕ). x < s.servers) servers (i.telling.filters c.of began.0 began.2).1 in
    let stands = i.desking.query server c.of began.0 within (on-its-desk s v g i a server c role has query) began.2 in
    record {
      each = i.telling.right.right.each;
      apart = stands.1;
      made = All-weaker (IsQueryPart s v.history) (λ (p : Part). p.shard < ids_made s.workers v.history) (λ p is. is.1) (v.desks server).parts stands.2;
    }

-- who serves a server did so before
served : (s : Setting) (v u : View) → IsNumbered s v → IsNumbered s u → (a server : ℕ) → u.roles a ≡ Session server → v.roles a ≡ Session server
served s v u was now a server role =
    let few = has-role s u now a (λ e. let never : Session server ≡ Hand s.workers = sym role ∙ e in cc) in
    let both : Some (v.roles a) ≡ Some (u.roles a) = sym (was.role a few) ∙ now.role a few in
    let same : v.roles a ≡ u.roles a = cc in
    same ∙ role

module _ (s : Setting) (k : Kind) (n : ℕ) (w now : World) (g g_now : Ghost) (i : InvWith s (view s w) g) (i_now : InvWith s (view s now) g_now) (step : Step s k n w now) (went went_now : ℕ → ℕ)
    (counts : went_now n ≡ went_after (w.actors n) (now.actors n) (went n)) (others : (a : ℕ) → a ≢ n → went_now a ≡ went a) (was : IsCounting s w went) where
  abbrev v : View
  v = view s w

  abbrev u : View
  u = view s now

  abbrev h : List Event
  h = history_in w

  abbrev h_now : List Event
  h_now = history_in now

  role-was : (a server : ℕ) → u.roles a ≡ Session server → v.roles a ≡ Session server
  role-was = served s v u i.numbering i_now.numbering

  -- the query was open before, and stands on the desk of this server
  record IsQueryOf (a server : ℕ) (c : Command) : Type 0 where
    pub role : u.roles a ≡ Session server
    pub had : v.commands a ≡ Some c
    pub has : u.commands a ≡ Some c
    pub query : c.work ≡ Query

  abbrev IsFew : ℕ → ℕ → Type 0
  IsFew a server = went_now a + ahead s.workers h_now (u.desks server).parts ≤ most_ahead s.workers h_now

  few-was : (a server : ℕ) (c : Command) → IsQueryOf a server c → went a + ahead s.workers h (v.desks server).parts ≤ most_ahead s.workers h
  few-was a server c is = (was a).few server c (role-was a server is.role) is.had is.query

  -- where parts stay and the history may grow
  stays-few : (a server : ℕ) (c : Command) → IsQueryOf a server c → Leaves (v.desks server) (u.desks server) → went_now a ≤ went a → IsFew a server
  stays-few a server c is leaves few_went =
      let role = role-was a server is.role in
      let here = query-parts s v g i a server c role is.had is.query in
      let grown = grown-of s k n w now (told-law s k n w now g g_now i i_now step) in
      let each : EachEvent (Stands (site_in s) g_now.placed) (grown.0 ++ h) = subst (EachEvent (Stands (site_in s) g_now.placed)) grown.1 i_now.telling.right.right.each in
      let all = (grow-all (site_in s) g_now.placed h (v.desks server).parts here.apart here.made grown.0 each).0 in
      let more : ahead s.workers h_now (v.desks server).parts + most_ahead s.workers h ≤ ahead s.workers h (v.desks server).parts + most_ahead s.workers h_now =
      subst (λ (l : List Event). ahead s.workers l (v.desks server).parts + most_ahead s.workers h ≤ ahead s.workers h (v.desks server).parts + most_ahead s.workers l) (sym grown.1) all in
      let same : (u.desks server).parts ≡ (v.desks server).parts = elim leaves [
        | inl parts ↦ parts
        | inr other ↦ absurd (other (on-its-desk s u g_now i_now a server c is.role is.has is.query ∙ sym (on-its-desk s v g i a server c role is.had is.query)))
      ] in
      let even : ahead s.workers h_now (u.desks server).parts ≡ ahead s.workers h_now (v.desks server).parts = ap (ahead s.workers h_now) same in
      let few = few-was a server c is in
      omega (arith, more, even, few, few_went)

  -- where parts go on and the history stays
  turns-few : (a server : ℕ) (c : Command) → IsQueryOf a server c → h_now ≡ h → went_now a + ahead s.workers h (u.desks server).parts ≤ went a + ahead s.workers h (v.desks server).parts → IsFew a server
  turns-few a server c is history less =
      let few = few-was a server c is in
      let here : went_now a + ahead s.workers h (u.desks server).parts ≤ most_ahead s.workers h = omega (arith, few, less) in
      subst (λ (l : List Event). went_now a + ahead s.workers l (u.desks server).parts ≤ most_ahead s.workers l) (sym history) here

  -- Of the actor that steps.

  begins-few : (server : ℕ) (c : Command) → u.roles n ≡ Session server → u.commands n ≡ Some c → c.work ≡ Query → v.commands n ≡ None → IsFew n server
  begins-few server c role has query none =
      let zero : went_now n ≡ 0 = counts ∙ ap (λ (o : Option Command). went_if (is_some o) (is_some (w.actors n).errand) (is_some (now.actors n).errand) (went n)) none in
      let few = at-first-law (site_in s) g_now.placed h_now (u.desks server).parts (query-parts s u g_now i_now n server c role has query) in
      omega (arith, zero, few)

  own-few : (server : ℕ) (c : Command) → u.roles n ≡ Session server → u.commands n ≡ Some c → c.work ≡ Query → Goes s n w now → IsFew n server
  own-few server c role has query (Stays t) = elim t.command [
    | inl same ↦
        let few = went-same (is_some (w.actors n).command) (w.actors n).errand (now.actors n).errand (went n) t.errand in
        let less : went_now n ≤ went n = omega (arith, counts, few) in
        stays-few n server c (record { role = role; had = sym same ∙ has; has = has; query = query }) (t.leave server) less
    | inr (inl none) ↦ begins-few server c role has query none
    | inr (inr never) ↦ absurd (never c has query)
  ]
  own-few server c role has query (Takes t) =
      let at : went_now n ≡ went_if (is_some (w.actors n).command) (is_some (w.actors n).errand) true (went n) =
      counts ∙ ap (λ (o : Option ErrandValue). went_if (is_some (w.actors n).command) (is_some (w.actors n).errand) (is_some o) (went n)) t.errand in
      let few = went-at (is_some (w.actors n).command) (is_some (w.actors n).errand) (went n) in
      let less = t.few server in
      turns-few n server c (record { role = role; had = sym t.command ∙ has; has = has; query = query }) t.history (omega (arith, at, few, less))
  own-few server c role has query (Ends t) =
      let few = went-most (is_some (w.actors n).command) (is_some (w.actors n).errand) (is_some (now.actors n).errand) (went n) in
      let here = (was n).own server t.e (role-was n server role) t.had in
      let less : ahead s.workers h (u.desks server).parts + 1 ≤ ahead s.workers h (v.desks server).parts = subst (λ (x : ℕ). ahead s.workers h (u.desks x).parts + 1 ≤ ahead s.workers h (v.desks x).parts) here t.fewer in
      turns-few n server c (record { role = role; had = sym t.command ∙ has; has = has; query = query }) t.history (omega (arith, counts, few, less))

  -- Of others.

  ends-elsewhere : (server ended : ℕ) → ahead s.workers h (u.desks ended).parts + 1 ≤ ahead s.workers h (v.desks ended).parts → ((x : ℕ) → x ≢ ended → u.desks x ≡ v.desks x)
      → ahead s.workers h (u.desks server).parts ≤ ahead s.workers h (v.desks server).parts
  ends-elsewhere server ended fewer off = on_bool (eqb server ended)
      (λ q. let less = subst (λ (x : ℕ). ahead s.workers h (u.desks x).parts + 1 ≤ ahead s.workers h (v.desks x).parts) (sym (eqb-true server ended q)) fewer in omega (arith, less))
      (λ q. let even = ap (λ (d : DeskValue). ahead s.workers h d.parts) (off server (eqb-false server ended q)) in omega (arith, even))

  others-few : (a server : ℕ) (c : Command) → a ≢ n → IsQueryOf a server c → Goes s n w now → IsFew a server
  others-few a server c apart is (Stays t) = (let even = others a apart in stays-few a server c is (t.leave server) (omega (arith, even)))
  others-few a server c apart is (Takes t) = (let even = others a apart in let less = t.few server in turns-few a server c is t.history (omega (arith, even, less)))
  others-few a server c apart is (Ends t) = (let even = others a apart in let less = ends-elsewhere server t.e.server t.fewer t.elsewhere in turns-few a server c is t.history (omega (arith, even, less)))

  -- The part of a session.

  own-part : (server : ℕ) (e : ErrandValue) → u.roles n ≡ Session server → (now.actors n).errand ≡ Some e → Goes s n w now → e.server ≡ server
  own-part server e role has (Stays t) = elim t.errand [
    | inl same ↦ (was n).own server e (role-was n server role) (sym same ∙ has)
    | inr (x, f, had, goes, servers) ↦
        let both : Some e ≡ Some f = sym has ∙ goes in
        let it : e ≡ f = cc in
        ap (λ (y : ErrandValue). y.server) it ∙ servers ∙ (was n).own server x (role-was n server role) had
  ]
  own-part server e role has (Takes t) =
      let both : Some e ≡ Some t.e = sym has ∙ t.errand in
      let it : e ≡ t.e = cc in
      ap (λ (y : ErrandValue). y.server) it ∙ t.own server (role-was n server role)
  own-part server e role has (Ends t) = (let never : ◌≡◌ {A = Option ErrandValue} None (Some e) = sym t.none ∙ has in absurd (cc))

  goes : Goes s n w now
  goes = goes-now s k n w now g g_now i i_now step

  counted-own : IsCounted s now n (went_now n)
  counted-own = record { few = λ server c role has query. own-few server c role has query goes; own = λ server e role has. own-part server e role has goes }

  counted-other : (a : ℕ) → a ≢ n → IsCounted s now a (went_now a)
  counted-other a apart =
      let stays = others-law s k n w now a step apart in
      record {
        few = λ server c role has query. others-few a server c apart (record { role = role; had = sym (ap (λ x. x.command) stays) ∙ has; has = has; query = query }) goes;
        own = λ server e role has. (was a).own server e (role-was a server role) (sym (ap (λ x. x.errand) stays) ∙ has);
      }

  pub still-counting : IsCounting s now went_now
  still-counting a = on_bool (eqb a n)
      (λ q. subst (λ (x : ℕ). IsCounted s now x (went_now x)) (sym (eqb-true a n q)) counted-own)
      (λ q. counted-other a (eqb-false a n q))

pub counting-law : CountingLaw
counting-law s k n w now g g_now i i_now step went went_now counts others was = still-counting s k n w now g g_now i i_now step went went_now counts others was

pub resting-count-law : RestingCountLaw
resting-count-law s w went none nowhere a = record {
  few = λ server c role has query. none-some (w.actors a).command c (none a) has;
  own = λ server e role has. let never : ◌≡◌ {A = Option ErrandValue} None (Some e) = sym (nowhere a) ∙ has in absurd (cc);
}
