-- What the actors and the phase of a script give.
use Rattle.std.proofs.{Common.{◌≡◌, ◌∙◌, ℕ, zero, suc, ◌+◌, ◌<◌, ◌≤◌, ◌⊎◌, inl, inr, Bool, true, false, List, [], ◌∷◌, drop, Option, Some, refl, sym, ap, subst, arith}, lemmas.Bool.eqb-true, lemmas.Option.slice_get_within}
use Rattle.std.specs.Prelude.{◌==◌, filter, slice_get, if◌then◌else◌}
use Rattle.script_form.specs.{declared.script.Command.Command, declared.script.Command.TheVariants.Query}
use Rattle.script_run.specs.Places.{session_of}
use Rattle.core_pages.specs.volap_cell.specs.{Ghost.Ghost, Invariant.InvWith, Setting.{Setting, actor_count}, Steps.history_in, View.view, World.World, declared.role.Role.Role, declared.role.Role.TheVariants.{Admin, Hand, Puller, Session}}
use Rattle.script_roles.specs.Roles.{AreScriptRoles}
use Rattle.seeded_run.specs.{Progress.ScriptLaw, Rests.{PhaseRun, begun_in, rest_of, stream_of}}

-- an item of a part of a list is one of the list

in-drop : (k : ℕ) (xs : List Command) (i : ℕ) (c : Command) → slice_get (drop k xs) i ≡ Some c → (j : ℕ) × (slice_get xs j ≡ Some c)
in-drop zero xs i c at = (i, at)
in-drop (suc k) [] i c at = (i, at)
in-drop (suc k) (x ∷ xs) i c at = let found = in-drop k xs i c at in (suc found.0, found.1)

in-filter : (test : Command → Bool) (xs : List Command) (i : ℕ) (c : Command) → slice_get (filter test xs) i ≡ Some c → (j : ℕ) × (slice_get xs j ≡ Some c) × (test c ≡ true)
in-filter test [] i c at = cc
in-filter test (x ∷ xs) i c at = by (λ k. in-filter test xs k c) (test x) refl i at
  where
    by : ((k : ℕ) → slice_get (filter test xs) k ≡ Some c → (j : ℕ) × (slice_get xs j ≡ Some c) × (test c ≡ true)) → (b : Bool) → test x ≡ b → (k : ℕ)
        → slice_get (if b then x ∷ filter test xs else filter test xs) k ≡ Some c → (j : ℕ) × (slice_get (x ∷ xs) j ≡ Some c) × (test c ≡ true)
    by more true is zero at = let same : x ≡ c = cc in (0, at, sym (ap test same) ∙ is)
    by more true is (suc k) at = let found = more k at in (suc found.0, found.1, found.2)
    by more false is k at = let found = more k at in (suc found.0, found.1, found.2)

-- the next command of a session is one of the phase, and the session's
pub next-of : (p : PhaseRun) (w : World) (a : ℕ) (c : Command) (more : List Command) → rest_of p (history_in w) a ≡ c ∷ more → (i : ℕ) × (slice_get p.commands i ≡ Some c) × (session_of p.with c ≡ a)
next-of p w a c more is =
    let first : slice_get (rest_of p (history_in w) a) 0 ≡ Some c = ap (λ cs. slice_get cs 0) is in
    let dropped = in-drop (begun_in p (history_in w) a) (stream_of p.with p.commands a) 0 c first in
    let found = in-filter (λ d. session_of p.with d == a) p.commands dropped.0 c dropped.1 in
    (found.0, found.1, eqb-true (session_of p.with c) a found.2)

same-role : (o : Option Role) (a b : Role) → o ≡ Some a → o ≡ Some b → a ≡ b
same-role o a b x y = cc

pub same-command : (xs : List Command) (i j : ℕ) (c d : Command) → i ≡ j → slice_get xs i ≡ Some c → slice_get xs j ≡ Some d → c ≡ d
same-command xs i j c d is at_c at_d = let at : slice_get xs i ≡ Some d = ap (slice_get xs) is ∙ at_d in cc

which : (a n : ℕ) → (a < n) ⊎ (a ≡ n) ⊎ (a ≡ n + 1) ⊎ (n + 2 ≤ a)
which a n = grind arith

low-or-past : (a n : ℕ) → (a < n) ⊎ (n ≤ a)
low-or-past a n = grind arith

module _ (s : Setting) (w : World) (g : Ghost) (i : InvWith s (view s w) g) (roles : AreScriptRoles s) where
  pub role-is : (a : ℕ) (r : Role) → slice_get s.roles a ≡ Some r → (w.actors a).role ≡ r
  role-is a r at = same-role (slice_get s.roles a) (w.actors a).role r (i.numbering.role a (slice_get_within s.roles a r at)) at

  pub session-is : (a server : ℕ) → (w.actors a).role ≡ Session server → a ≡ server
  session-is a server is = elim (which a s.servers) [
    | inl low ↦ let here = role-is a (Session a) (roles.session a low) in cc
    | inr (inl at) ↦ let here = role-is a Puller (ap (slice_get s.roles) at ∙ roles.puller) in cc
    | inr (inr (inl at)) ↦ let here = role-is a Admin (ap (slice_get s.roles) at ∙ roles.admin) in cc
    | inr (inr (inr high)) ↦ elim (low-or-past a (actor_count s)) [
      | inl low ↦ let hand = roles.hand a (w.actors a).role high (i.numbering.role a low) in absurd (not-hand (w.actors a).role server hand.0 is hand.1)
      | inr past ↦ absurd (not-hand (w.actors a).role server s.workers is (i.numbering.beyond a past))
    ]
  ]
    where
      not-hand : (r : Role) (server worker : ℕ) → r ≡ Session server → r ≡ Hand worker → ⊥
      not-hand r server worker x y = cc

  -- a hand stands behind the sessions, the puller and the administrator
  pub hand-behind : (a worker : ℕ) → (w.actors a).role ≡ Hand worker → a < s.servers + 2 → ⊥
  hand-behind a worker is low = elim (which a s.servers) [
    | inl below ↦ let here = role-is a (Session a) (roles.session a below) in cc
    | inr (inl at) ↦ let here = role-is a Puller (ap (slice_get s.roles) at ∙ roles.puller) in cc
    | inr (inr (inl at)) ↦ let here = role-is a Admin (ap (slice_get s.roles) at ∙ roles.admin) in cc
    | inr (inr (inr high)) ↦ absurd (omega arith)
  ]

pub script-law : ScriptLaw
script-law s p w g i roles phase pages nobody = record {
  one = λ a b server is_a is_b. session-is s w g i roles a server is_a ∙ sym (session-is s w g i roles b server is_b);
  asks = λ a q more is.
      let found = next-of p w a (Query q) more is in
      let low : a < s.servers = subst (λ n. n < s.servers) found.2 (phase.asked found.0 q found.1) in
      (a, role-is s w g i roles a (Session a) (roles.session a low));
  hands = λ a worker is. by a worker is (rest_of p (history_in w) a) refl;
  closing = λ a b c d cs ds is_a is_b closes_c closes_d.
      let first = next-of p w a c cs is_a in
      let second = next-of p w b d ds is_b in
      let e = phase.last first.0 c first.1 closes_c in
      let f = phase.last second.0 d second.1 closes_d in
      let same = same-command p.commands first.0 second.0 c d (omega (arith, e, f)) first.1 second.1 in
      sym first.2 ∙ ap (session_of p.with) same ∙ second.2;
  pages = pages;
  nobody = nobody;
}
  where
    by : (a worker : ℕ) → (w.actors a).role ≡ Hand worker → (cs : List Command) → rest_of p (history_in w) a ≡ cs → rest_of p (history_in w) a ≡ []
    by a worker is [] rest = rest
    by a worker is (c ∷ more) rest =
        let found = next-of p w a c more rest in
        absurd (hand-behind s w g i roles a worker is (subst (λ n. n < s.servers + 2) found.2 (phase.sessions found.0 c found.1)))
