-- Commands that are done all at once, one that is done alone, phases, and a script.
use Rattle.std.proofs.{Common.{◌≡◌, ◌∙◌, ℕ, zero, suc, ◌+◌, ◌<◌, inl, inr, Bool, true, false, List, [], ◌∷◌, ◌++◌, length, take, Some, refl, sym, ap, subst, arith, append_assoc, append-nil, length-append}, lemmas.Option.slice_get_within}
use Rattle.std.specs.{List.slice_index_or, Prelude.{slice_get}}
use Rattle.dim_hierarchy.specs.Dimension.{Dimension}
use Rattle.row_ledger.proofs.SettledAnswer.{EachEvent-later}
use Rattle.row_ledger.specs.{Classes.class_of, Right.{EachEvent, Site, Stands}, declared.class.Class.Class, declared.class.Class.TheVariants.{Sync, Settle}, declared.event.Event.Event, declared.settings.Call.Call, declared.settings.Use.Use}
use Rattle.script_form.specs.declared.script.Command.{Command}
use Rattle.script_form.specs.declared.script.Command.TheVariants.{Control}
use Rattle.script_run.proofs.{Between.{get-behind, through-law}, InPhase.rank_law, PhaseEnds.start_law, PhaseFacts.all_of-phases, Whole.part_law}
use Rattle.script_run.specs.{Between.IsThrough, Phases.{all_of, closes, is_closing, phases, ranks}, Places.{session_of, session_of_call}, Runs.{IsRunSoFar, is_pulling}, Streams.NoneCloses}
use Rattle.session_runs.proofs.{Later.later-then, Ran.{GoTogether, part-now, few-now, through-all}}
use Rattle.session_runs.specs.Laws.{AloneLaw, PhaseLaw, RunLaw, StopLaw, TogetherLaw}
use Rattle.session_runs.specs.Sessions.{DoesInTurn, DoesPhase, DoesPhases, EachDoes, IsLater, stream_of}

-- Later histories.

turn-later : (with : Use) (h : List Dimension) (s : ℕ) (cs : List Command) (past now : List Event) → DoesInTurn with h s cs past now → IsLater past now
turn-later with h s [] past now does = does.later
turn-later with h s (c ∷ cs) past now (seen, next, nothing, does, more) =
    later-then past seen now nothing.later (later-then seen next now does.later (turn-later with h s cs next now more))

each-later : (with : Use) (h : List Dimension) (cs : List Command) (past now : List Event) → EachDoes with h cs past now → IsLater past now
each-later with h cs past now does = turn-later with h 0 (stream_of with cs 0) past now (does 0)

right-then : (site : Site) (usable : ℕ → Bool) (past now : List Event) → IsLater past now → EachEvent (Stands site usable) now → EachEvent (Stands site usable) past
right-then site usable past now (newer, is) right = EachEvent-later (Stands site usable) newer past (subst (EachEvent (Stands site usable)) is right)

-- Commands that close nothing.

none-at : (cs : List Command) (i : ℕ) (c : Command) → NoneCloses cs → slice_get cs i ≡ Some c → closes c ≡ false
none-at [] i c none at = cc
none-at (d ∷ cs) zero c none at = let same : d ≡ c = cc in ap closes (sym same) ∙ none.0
none-at (d ∷ cs) (suc i) c none at = none-at cs i c none.1 at

none-first : (cs : List Command) (i : ℕ) → NoneCloses cs → NoneCloses (take i cs)
none-first [] zero none = tt
none-first [] (suc i) none = tt
none-first (c ∷ cs) zero none = tt
none-first (c ∷ cs) (suc i) none = (none.0, none-first cs i none.1)

split-here : (cs : List Command) (i : ℕ) (c : Command) → slice_get cs i ≡ Some c → (back : List Command) × (cs ≡ take i cs ++ c ∷ back) × (length (take i cs) ≡ i)
split-here [] i c at = cc
split-here (d ∷ cs) zero c at = let same : d ≡ c = cc in (cs, ap (λ x. x ∷ cs) same, refl)
split-here (d ∷ cs) (suc i) c at = let more = split-here cs i c at in (more.0, ap (λ l. d ∷ l) more.1, ap suc more.2)

-- of these only a sync pulls
only-syncs : (with : Use) (call : Call) → closes (Control call) ≡ false → is_pulling (class_of call) ≡ true → session_of with (Control call) ≡ with.servers
only-syncs with call none pulling = by (class_of call) none pulling
  where
    by : (class : Class) → is_closing class ≡ false → is_pulling class ≡ true → session_of_call with class ≡ with.servers
    by (Sync server) none pulling = refl
    by Settle none pulling = cc
    by class none pulling = cc

rank-low : (done cs : List Command) (i j : ℕ) (d : Command) → NoneCloses cs → slice_get cs j ≡ Some d → i < length (done ++ cs)
    → slice_index_or (ranks (done ++ cs)) i 0 < slice_index_or (ranks (done ++ cs)) (length done + j) 0 → i < length done
rank-low done cs i j d none at low less =
    let split = split-here cs j d at in
    rank_law done (take j cs) d split.0 i (none-first cs j none) (none-at cs j d none at)
    (subst (λ l. i < length (done ++ l)) split.1 low)
    (subst (λ n. slice_index_or (ranks (done ++ (take j cs ++ d ∷ split.0))) i 0 < slice_index_or (ranks (done ++ (take j cs ++ d ∷ split.0))) (length done + n) 0) (sym split.2)
    (subst (λ l. slice_index_or (ranks (done ++ l)) i 0 < slice_index_or (ranks (done ++ l)) (length done + j) 0) split.1 less))

open-together : (with : Use) (done cs : List Command) → NoneCloses cs → GoTogether with done cs
open-together with done cs none = record {
  waiting = λ i j c d at_i at_j w. elim w.1 [
    | inl same ↦ same c d (get-behind done cs i ∙ at_i) (get-behind done cs j ∙ at_j)
    | inr less ↦
        let low = slice_get_within cs i c at_i in
        let before_done = rank-low done cs (length done + i) j d none at_j (omega (arith, low, length-append done cs)) less in
        absurd (omega (arith, before_done))
  ];
  pulling = λ i j a b at_a at_b pulls_a pulls_b.
      only-syncs with a (none-at cs i (Control a) none at_a) pulls_a ∙ sym (only-syncs with b (none-at cs j (Control b) none at_b) pulls_b);
}

-- one command goes together with itself
one-together : (with : Use) (done : List Command) (c : Command) → GoTogether with done (c ∷ [])
one-together with done c = record {
  waiting = λ i j a b at_a at_b w. ap (session_of with) (sym (is-one i a at_a) ∙ is-one j b at_b);
  pulling = λ i j a b at_a at_b pulls_a pulls_b. ap (session_of with) (sym (is-one i (Control a) at_a) ∙ is-one j (Control b) at_b);
}
  where
    is-one : (i : ℕ) (a : Command) → slice_get (c ∷ []) i ≡ Some a → c ≡ a
    is-one zero a at = cc
    is-one (suc i) a at = cc

-- The laws.

module _ (site : Site) (usable : ℕ → Bool) (with : Use) (h : List Dimension) where
  pub together : (done cs : List Command) (past now : List Event) → EachEvent (Stands site usable) now → IsThrough with h done past → NoneCloses cs → EachDoes with h cs past now → IsThrough with h (done ++ cs) now
  together done cs past now right through none does = through-all site usable with h done cs past now right through does (open-together with done cs none)

  pub alone : (done : List Command) (c : Command) (past now : List Event) → EachEvent (Stands site usable) now → IsThrough with h done past → EachDoes with h (c ∷ []) past now → IsThrough with h (done ++ c ∷ []) now
  alone done c past now right through does = through-all site usable with h done (c ∷ []) past now right through does (one-together with done c)

  pub phase-done : (done phase : List Command) (past now : List Event) → EachEvent (Stands site usable) now → IsThrough with h done past → DoesPhase with h phase past now → IsThrough with h (done ++ phase) now
  phase-done done phase past now right through (inl (none, does)) = together done phase past now right through none does
  phase-done done phase past now right through (inr last) =
      let right_between = right-then site usable last.between now (each-later with h (last.last ∷ []) last.between now last.then) right in
      let first = together done last.front past last.between right_between through last.none_closes last.first in
      subst (λ l. IsThrough with h l now) (append_assoc done last.front (last.last ∷ []) ∙ ap (λ l. done ++ l) (sym last.split))
      (alone (done ++ last.front) last.last last.between now right first last.then)

phase-later : (with : Use) (h : List Dimension) (phase : List Command) (past now : List Event) → DoesPhase with h phase past now → IsLater past now
phase-later with h phase past now (inl (none, does)) = each-later with h phase past now does
phase-later with h phase past now (inr last) =
    later-then past last.between now (each-later with h last.front past last.between last.first) (each-later with h (last.last ∷ []) last.between now last.then)

phases-later : (with : Use) (h : List Dimension) (ps : List (List Command)) (past now : List Event) → DoesPhases with h ps past now → IsLater past now
phases-later with h [] past now is = ([], is)
phases-later with h (phase ∷ more) past now (between, does, rest) = later-then past between now (phase-later with h phase past between does) (phases-later with h more between now rest)

phases-done : (site : Site) (usable : ℕ → Bool) (with : Use) (h : List Dimension) (ps : List (List Command)) (done : List Command) (past now : List Event) → EachEvent (Stands site usable) now
    → IsThrough with h done past → DoesPhases with h ps past now → IsThrough with h (done ++ all_of ps) now
phases-done site usable with h [] done past now right through is = subst (λ l. IsThrough with h (done ++ []) l) (sym is) (subst (λ l. IsThrough with h l past) (sym (append-nil done)) through)
phases-done site usable with h (phase ∷ more) done past now right through (between, does, rest) =
    let right_between = right-then site usable between now (phases-later with h more between now rest) right in
    let first = phase-done site usable with h done phase past between right_between through does in
    subst (λ l. IsThrough with h l now) (append_assoc done phase (all_of more))
    (phases-done site usable with h more (done ++ phase) between now right first rest)

pub together-law : TogetherLaw
together-law site with h done commands past now right = together site _ with h done commands past now right.each

pub alone-law : AloneLaw
alone-law site with h done c past now right = alone site _ with h done c past now right.each

pub phase-law : PhaseLaw
phase-law site with h done phase past now right = phase-done site _ with h done phase past now right.each

pub run-law : RunLaw
run-law site with h commands opening now right through does =
    through-law with h commands now
    (subst (λ l. IsThrough with h l now) (all_of-phases commands)
    (phases-done site _ with h (phases commands) [] opening now right.each through does))

pub stop-law : StopLaw
stop-law site with h done commands more past now right through none does =
    let goes = open-together with done commands none in
    let part = part-now site _ with h done commands past now right.each through does goes in
    let longer = start_law with h (done ++ commands) more now (few-now site _ with h done commands past now right.each through does goes) part in
    subst (λ l. IsRunSoFar with h l now) (append_assoc done commands more) (part_law with h ((done ++ commands) ++ more) now longer)
