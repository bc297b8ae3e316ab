-- A run between two phases, and how it goes on from there.
use Rattle.std.proofs.{Common.{◌≡◌, ◌∙◌, ◌⊎◌, ℕ, zero, suc, ◌+◌, ◌-◌, ◌≤◌, ◌<◌, inl, inr, Bool, true, false, IsTrue, List, [], ◌∷◌, ◌++◌, length, take, drop, refl, sym, ap, subst, arith, append_assoc, append-nil, length-append}, Math.Seq.{take-append_seam, take-append-add}, lemmas.Bool.{and_parts, cases_lt, false≢true}, lemmas.List.{drop-drop, drop-take, drop_all, length-take-le, take-append-drop, take-take, take_all}, lemmas.List.Elements.{All-head, All-tail}, lemmas.List.Folds.list_all-append, lemmas.Option.slice_get_within}
use Rattle.std.specs.{Io.KnownBytes.Appends, Prelude.{All, Option, Some, None, is_some, ◌&&◌, if◌then◌else◌, get_or, slice_get}}
use Rattle.dim_hierarchy.specs.Dimension.{Dimension}
use Rattle.answer_text.proofs.{TextFacts.{AreFirst, lines-append, told-first, told_to-first}, ToldLines.phase_behind-is}
use Rattle.answer_text.specs.{Printed.{lines, phase_behind, told, told_to}, declared.text.Teller.Teller}
use Rattle.row_ledger.specs.{Past.is_kept, Right.{EachEvent, IsRight, Stands}, Site.site_of, declared.event.Event.Event, declared.settings.Use.Use}
use Rattle.script_form.specs.{Fits.Fits, declared.script.Command.Command, declared.script.Script.Script}
use Rattle.script_run.proofs.{Between.{order-start-law, through-law}, PhaseEnds.start_law, PhaseFacts.{all_of-append, phases-nil, phases-some}, PlaceFacts.{NoneMore, places_behind-append, places_behind-length}, Whole.{part_law, serial_law}}
use Rattle.script_run.specs.{Between.{IsInOrder, IsThrough}, Phases.{all_of, closes, phases, phases_to}, Places.{are_over, begins_of, count_of, is_over_at, places, places_behind}, Runs.{IsRunSoFar, IsSerial}, Streams.NoneCloses}
use Rattle.threaded_run.specs.Streams.{ClosesLast}
use Rattle.olap_top.specs.{Engines.MayRunNext, OneRun.phase_of, Outcomes.{HasRun, RanInto, RanToPhase, TookPart, asked_text_to}, RunSoFar.{tells_phases, HasGone, HasGrown, HasStopped, IsBehind}, declared.wanted.Wanted.Wanted}
use Rattle.olap_top.proofs.{Asked.asked-to, InsertsEnd.{inserts-end, inserts-over}, Kept.{lines-grown, lines_of, over-kept}}

-- What a sink took.

pub Appends-nil : (before : Option (List ℕ)) → Appends before before []
Appends-nil None = tt
Appends-nil (Some xs) = sym (append-nil xs)

pub Appends-more : (before middle now : Option (List ℕ)) (xs ys : List ℕ) → Appends before middle xs → Appends middle now ys → Appends before now (xs ++ ys)
Appends-more None middle now xs ys a b = tt
Appends-more (Some bs) None now xs ys a b = absurd a
Appends-more (Some bs) (Some ms) None xs ys a b = absurd b
Appends-more (Some bs) (Some ms) (Some ns) xs ys a b = b ∙ ap (λ l. l ++ ys) a ∙ append_assoc bs xs ys

-- Between two phases.

-- what is told of these commands, where phases are told
abbrev pub said : Bool → Use → List Command → List Event → List ℕ
said telling with done history = if telling then lines_of with done history else []

-- the first n commands are done, which are whole phases, and their text is written, where phases are told
pub record IsAtPhase (s : Script) (n : ℕ) (taken_before taken_now : Option (List ℕ)) (telling : Bool) (history : List Event) (teller : Option Teller) : Type 0 where
  pub ps : List (List Command)
  pub first : AreFirst s.commands ps (phases (drop n s.commands))
  pub all : all_of ps ≡ take n s.commands
  pub behind : IsBehind s (take n s.commands) history teller
  pub same : is_some teller ≡ telling
  pub took : Appends taken_before taken_now (said telling s.with (take n s.commands) history)

lines_of-nil : (with : Use) (history : List Event) → lines_of with [] history ≡ []
unfolding lines
lines_of-nil with history = refl

pub said-nil : (telling : Bool) (with : Use) (history : List Event) → said telling with [] history ≡ []
said-nil true with history = lines_of-nil with history
said-nil false with history = refl

abbrev pub at-start : (s : Script) (taken : Option (List ℕ)) (history : List Event) (teller : Option Teller) → IsBehind s [] history teller → IsAtPhase s 0 taken taken (is_some teller) history teller
at-start s taken history teller behind = record {
  ps = [];
  first = record { split = refl };
  all = refl;
  behind = behind;
  same = refl;
  took = subst (Appends taken taken) (sym (said-nil (is_some teller) s.with history)) (Appends-nil taken);
}

-- A run of commands that are through.

pub has-run : (s : Script) (done : List Command) (history : List Event) (teller : Option Teller) → IsBehind s done history teller → HasRun s.with s.hierarchy done history
has-run s done history teller behind =
    let is = through-law s.with s.hierarchy done history behind.through in
    record {
      right = behind.right;
      run = is;
      inserts = inserts-over (site_of s.with s.hierarchy) (is_kept history) s.with s.hierarchy history behind.right.each done (places s.with done history) is.part.begun is.over;
    }

none-more : (with : Use) (h : List Dimension) (done : List Command) (history : List Event) → IsThrough with h done history → NoneMore with done history
none-more with h done history through = record { counts = λ session. omega (arith, through.counts session) }

-- the text of the whole script is so far that of the phases that are done
told-is : (s : Script) (n : ℕ) (ps : List (List Command)) (history : List Event) → AreFirst s.commands ps (phases (drop n s.commands)) → all_of ps ≡ take n s.commands → IsThrough s.with s.hierarchy (take n s.commands) history
    → told s.with s.commands history ≡ lines_of s.with (take n s.commands) history
told-is s n ps history first all done =
    let through : IsThrough s.with s.hierarchy (all_of ps) history = subst (λ l. IsThrough s.with s.hierarchy l history) (sym all) done in
    told-first s.with s.commands ps (phases (drop n s.commands)) history first (phases-some (drop n s.commands))
    (through-law s.with s.hierarchy (all_of ps) history through).over (none-more s.with s.hierarchy (all_of ps) history through)
    ∙ ap (λ l. lines_of s.with l history) all

-- Where nothing is left, all is done.
pub at-done : (s : Script) (n : ℕ) (taken_before taken_now : Option (List ℕ)) (telling : Bool) (history : List Event) (teller : Option Teller) → length s.commands ≤ n
    → IsAtPhase s n taken_before taken_now telling history teller
    → HasRun s.with s.hierarchy s.commands history × Appends taken_before taken_now (if telling then told s.with s.commands history else [])
at-done s n taken_before taken_now telling history teller past at = (
  subst (λ l. HasRun s.with s.hierarchy l history) (take_all n s.commands past) (has-run s (take n s.commands) history teller at.behind),
  subst (Appends taken_before taken_now) (sym (ap (λ l. if telling then l else []) (told-is s n at.ps history at.first at.all at.behind.through))) at.took,
)

-- The next phase.

-- the commands from the n-th to the m-th are the next phase
pub record IsNext (s : Script) (n m : ℕ) : Type 0 where
  pub low : n ≤ m
  pub split : phases (drop n s.commands) ≡ drop n (take m s.commands) ∷ phases (drop m s.commands)
  pub whole : take n s.commands ++ drop n (take m s.commands) ≡ take m s.commands

abbrev pub next_phase : Script → ℕ → ℕ → List Command
next_phase s n m = drop n (take m s.commands)

pub next-is : (s : Script) (n k : ℕ) → phases (drop n s.commands) ≡ take k (drop n s.commands) ∷ phases (drop k (drop n s.commands)) → IsNext s n (n + k)
next-is s n k split =
    let here : drop n (take (n + k) s.commands) ≡ take k (drop n s.commands) = drop-take n k s.commands in
    record {
      low = omega arith;
      split = split ∙ ap (λ l. take k (drop n s.commands) ∷ phases l) (drop-drop k n s.commands) ∙ ap (λ l. l ∷ phases (drop (n + k) s.commands)) (sym here);
      whole = ap (λ l. l ++ drop n (take (n + k) s.commands)) (sym (take-take n (n + k) s.commands (omega arith))) ∙ take-append-drop n (take (n + k) s.commands);
    }

-- it closes with its last command alone
pub not-closing : (cs : List Command) (i : ℕ) (c : Command) → NoneCloses cs → slice_get cs i ≡ Some c → closes c ≡ true → ⊥
not-closing [] i c none at closing = cc
not-closing (d ∷ cs) zero c none at closing =
    let same : d ≡ c = cc in
    false≢true (sym none.0 ∙ ap closes same ∙ closing)
not-closing (d ∷ cs) (suc i) c none at closing = not-closing cs i c none.1 at closing

get-take : (cs : List Command) (k i : ℕ) → i < k → slice_get (take k cs) i ≡ slice_get cs i
get-take [] k i low = ap (λ l. slice_get l i) (none k)
  where
    none : (k : ℕ) → ◌≡◌ {A = List Command} (take k []) []
    none zero = refl
    none (suc k) = refl
get-take (c ∷ cs) zero i low = absurd (omega arith)
get-take (c ∷ cs) (suc k) zero low = refl
get-take (c ∷ cs) (suc k) (suc i) low = get-take cs k i (omega arith)

pub closes-last : (cs : List Command) (k : ℕ) → 0 < k → k ≤ length cs → NoneCloses (take (k - 1) cs) → ClosesLast (take k cs)
closes-last cs k some within none = λ i c at closing.
    let low : i < length (take k cs) = slice_get_within (take k cs) i c at in
    let count : length (take k cs) ≡ k = length-take-le k cs within in
    elim (cases_lt i (k - 1)) [
      | inl early ↦ absurd (not-closing (take (k - 1) cs) i c none (get-take cs (k - 1) i early ∙ sym (get-take cs k i (omega arith)) ∙ at) closing)
      | inr late ↦ omega arith
    ]

pub first-next : (s : Script) (n m : ℕ) (ps : List (List Command)) → AreFirst s.commands ps (phases (drop n s.commands)) → IsNext s n m → AreFirst s.commands (ps ++ next_phase s n m ∷ []) (phases (drop m s.commands))
first-next s n m ps first next = record { split = first.split ∙ ap (λ l. ps ++ l) next.split ∙ sym (append_assoc ps (next_phase s n m ∷ []) (phases (drop m s.commands))) }

-- Its text is behind that of the phases that are done.

-- what was told stays so
lines-still : (s : Script) (done : List Command) (was now : List Event) → HasGrown was now → IsRight (site_of s.with s.hierarchy) now → IsThrough s.with s.hierarchy done was → lines_of s.with done now ≡ lines_of s.with done was
lines-still s done was now grows right through =
    let site = site_of s.with s.hierarchy in
    ap (lines_of s.with done) grows.grown
    ∙ lines-grown site (is_kept now) s.with s.hierarchy done grows.newer was (subst (EachEvent (Stands site (is_kept now))) grows.grown right.each) through

module _ (s : Script) (done phase : List Command) (was now : List Event) (teller teller_now : Option Teller) (text : List ℕ)
    (behind : IsBehind s done was teller) (gone : HasGone s done phase was now teller teller_now text) where
  grown-lines : lines_of s.with (done ++ phase) now ≡ lines_of s.with done was ++ phase_behind s.with done phase now
  grown-lines =
      let here = places s.with done now in
      let there = places_behind s.with done phase now in
      let places_are : places s.with (done ++ phase) now ≡ here ++ there = places_behind-append s.with [] done phase now in
      let over = (through-law s.with s.hierarchy (done ++ phase) now gone.behind.through).over in
      let split : (are_over now here && are_over now there) ≡ true = sym (list_all-append (is_over_at now) here there) ∙ ap (are_over now) (sym places_are) ∙ over in
      let phase_over = (and_parts (are_over now here) (are_over now there) split).1 in
      let before : lines 1 done here now ≡ lines_of s.with done was = lines-still s done was now gone.grows gone.behind.right behind.through in
      let new : lines (1 + length done) phase there now ≡ phase_behind s.with done phase now =
      ap (λ k. lines k phase there now) (let k : 1 + length done ≡ length done + 1 = omega arith in k)
      ∙ ap (λ b. if b then lines (length done + 1) phase there now else []) (sym phase_over)
      ∙ sym (phase_behind-is s.with done phase now) in
      ap (λ ps. lines 1 (done ++ phase) ps now) places_are
      ∙ lines-append 1 done phase here there now (sym (places_behind-length s.with [] done now))
      ∙ ap (λ l. l ++ lines (1 + length done) phase there now) before
      ∙ ap (λ l. lines_of s.with done was ++ l) new

  pub grown-text : (telling : Bool) → is_some teller ≡ telling → said telling s.with (done ++ phase) now ≡ said telling s.with done was ++ text
  grown-text true is = grown-lines ∙ ap (λ l. lines_of s.with done was ++ l) (sym (gone.text_is ∙ ap (λ b. if b then phase_behind s.with done phase now else []) is))
  grown-text false is = sym (gone.text_is ∙ ap (λ b. if b then phase_behind s.with done phase now else []) is)

-- The sink took it.
abbrev pub at-next : (s : Script) (n m : ℕ) (taken_before taken_middle taken_now : Option (List ℕ)) (telling : Bool) (was now : List Event) (teller teller_now : Option Teller) (text : List ℕ) → IsNext s n m
    → IsAtPhase s n taken_before taken_middle telling was teller → HasGone s (take n s.commands) (next_phase s n m) was now teller teller_now text → Appends taken_middle taken_now text
    → IsAtPhase s m taken_before taken_now telling now teller_now
at-next s n m taken_before taken_middle taken_now telling was now teller teller_now text next at gone took = record {
  ps = at.ps ++ next_phase s n m ∷ [];
  first = first-next s n m at.ps at.first next;
  all = all_of-append at.ps (next_phase s n m ∷ []) ∙ ap (λ l. all_of at.ps ++ l) (append-nil (next_phase s n m)) ∙ ap (λ l. l ++ next_phase s n m) at.all ∙ next.whole;
  behind = subst (λ l. IsBehind s l now teller_now) next.whole gone.behind;
  same = gone.same ∙ at.same;
  took = subst (Appends taken_before taken_now)
      (sym (grown-text s (take n s.commands) (next_phase s n m) was now teller teller_now text at.behind gone telling at.same) ∙ ap (λ l. said telling s.with l now) next.whole)
      (Appends-more taken_before taken_middle taken_now (said telling s.with (take n s.commands) was) text at.took took);
}

first-phases : (s : Script) (ps rest : List (List Command)) → AreFirst s.commands ps rest → phases_to (length ps) s.commands ≡ all_of ps
first-phases s ps rest first = ap (λ l. all_of (take (length ps) l)) first.split ∙ ap all_of (take-append_seam ps rest)

-- the phases that are done, with the next one
next-phases : (s : Script) (n m : ℕ) (ps : List (List Command)) → AreFirst s.commands ps (phases (drop n s.commands)) → all_of ps ≡ take n s.commands → IsNext s n m
    → phases_to (length ps + 1) s.commands ≡ take m s.commands
next-phases s n m ps first all next =
    let both = ps ++ next_phase s n m ∷ [] in
    let count : length ps + 1 ≡ length both = omega (arith, length-append ps (next_phase s n m ∷ [])) in
    ap (λ k. phases_to k s.commands) count
    ∙ first-phases s both (phases (drop m s.commands)) (record { split = first.split ∙ ap (λ l. ps ++ l) next.split ∙ sym (append_assoc ps (next_phase s n m ∷ []) (phases (drop m s.commands))) })
    ∙ all_of-append ps (next_phase s n m ∷ []) ∙ ap (λ l. all_of ps ++ l) (append-nil (next_phase s n m)) ∙ ap (λ l. l ++ next_phase s n m) all ∙ next.whole

-- the text of the phases that are done
told-to-is : (s : Script) (n : ℕ) (ps : List (List Command)) (history : List Event) → AreFirst s.commands ps (phases (drop n s.commands)) → all_of ps ≡ take n s.commands
    → IsTrue (are_over history (places s.with (take n s.commands) history)) → told_to (length ps) s.with s.commands history ≡ lines_of s.with (take n s.commands) history
told-to-is s n ps history first all over =
    told_to-first s.with s.commands ps (phases (drop n s.commands)) history first (subst (λ l. IsTrue (are_over history (places s.with l history))) (sym all) over)
    ∙ ap (λ l. lines_of s.with l history) all

-- what was over still is
over-still : (s : Script) (done : List Command) (was now : List Event) → HasGrown was now → IsThrough s.with s.hierarchy done was → IsTrue (are_over now (places s.with done now))
over-still s done was now grows through = subst (λ h. IsTrue (are_over h (places s.with done h))) (sym grows.grown) (over-kept s.with s.hierarchy done grows.newer was through)

-- The sink failed in it. It can fail only where there is a text.
module _ (s : Script) (n m : ℕ) (taken_before taken_middle taken_now : Option (List ℕ)) (was now : List Event) (teller teller_now : Option Teller) (text : List ℕ) (next : IsNext s n m)
    (gone : HasGone s (take n s.commands) (next_phase s n m) was now teller teller_now text) (part : TookPart taken_middle taken_now text) where
  ran-to-phase : IsAtPhase s n taken_before taken_middle true was teller → RanToPhase s taken_before taken_now now
  ran-to-phase at =
      let done = take n s.commands in
      let written = lines_of s.with done was in
      let behind : IsBehind s (take m s.commands) now teller_now = subst (λ l. IsBehind s l now teller_now) next.whole gone.behind in
      let grown : lines_of s.with (take m s.commands) now ≡ written ++ text =
      ap (λ l. lines_of s.with l now) (sym next.whole) ∙ grown-text s done (next_phase s n m) was now teller teller_now text at.behind gone true at.same in
      let both = at-next s n m None None None true was now teller teller_now text next (record { ps = at.ps; first = at.first; all = at.all; behind = at.behind; same = at.same; took = tt }) gone tt in
      let whole : told s.with s.commands now ≡ written ++ text = told-is s m both.ps now both.first both.all behind.through ∙ grown in
      let took : take (length written + part.count) (told s.with s.commands now) ≡ written ++ take part.count text =
      ap (take (length written + part.count)) whole ∙ take-append-add written text part.count in
      let before : told_to (length at.ps) s.with s.commands now ≡ written =
      told-to-is s n at.ps now at.first at.all (over-still s done was now gone.grows at.behind.through) ∙ lines-still s done was now gone.grows gone.behind.right at.behind.through in
      record {
        phase = length at.ps;
        ran = subst (λ l. HasRun s.with s.hierarchy l now) (sym (next-phases s n m at.ps at.first at.all next)) (has-run s (take m s.commands) now teller_now behind);
        took = record {
          count = length written + part.count;
          part = omega (arith, part.part, ap length whole, length-append written text);
          took = subst (Appends taken_before taken_now) (sym took) (Appends-more taken_before taken_middle taken_now written (take part.count text) at.took part.took);
        };
        phases = omega (arith, ap length before);
      }

  pub at-fault : (telling : Bool) → IsAtPhase s n taken_before taken_middle telling was teller → (telling ≡ true) × RanToPhase s taken_before taken_now now
  at-fault true at = (refl, ran-to-phase at)
  at-fault false at =
      let none : text ≡ [] = gone.text_is ∙ ap (λ b. if b then phase_behind s.with (take n s.commands) (next_phase s n m) now else []) at.same in
      absurd (omega (arith, part.part, ap length none))

-- Memory ran out in it.
module _ (s : Script) (n m : ℕ) (was now : List Event) (next : IsNext s n m) (stopped : HasStopped s (take n s.commands) (next_phase s n m) was now) where
  pub stopped-all : IsRunSoFar s.with s.hierarchy s.commands now
  stopped-all = subst (λ l. IsRunSoFar s.with s.hierarchy l now) (ap (λ l. l ++ drop m s.commands) next.whole ∙ take-append-drop m s.commands) (stopped.part (drop m s.commands))

  pub at-halt : (wanted : Wanted) (taken_before taken_now : Option (List ℕ)) (telling : Bool) (teller : Option Teller) → telling ≡ tells_phases wanted
      → IsAtPhase s n taken_before taken_now telling was teller → RanInto wanted s taken_before taken_now now
  at-halt wanted taken_before taken_now telling teller same_telling at =
      let done = take n s.commands in
      let over = over-still s done was now stopped.grows at.behind.through in
      let text : lines_of s.with done was ≡ told_to (length at.ps) s.with s.commands now =
      sym (lines-still s done was now stopped.grows stopped.right at.behind.through) ∙ sym (told-to-is s n at.ps now at.first at.all over) in
      let asked : said telling s.with done was ≡ asked_text_to (length at.ps) wanted s now =
      ap (λ l. if telling then l else []) text ∙ ap (λ b. if b then told_to (length at.ps) s.with s.commands now else []) same_telling ∙ sym (asked-to wanted (length at.ps) s now) in
      record {
        phase = length at.ps;
        right = stopped.right;
        run = record {
          part = subst (λ l. IsRunSoFar s.with s.hierarchy l now) (append-nil (done ++ next_phase s n m) ∙ next.whole ∙ sym (next-phases s n m at.ps at.first at.all next)) (stopped.part []);
          over = subst (λ l. IsTrue (are_over now (places s.with l now))) (sym (first-phases s at.ps (phases (drop n s.commands)) at.first ∙ at.all)) over;
        };
        inserts = inserts-end (site_of s.with s.hierarchy) (is_kept now) s.with s.hierarchy now stopped.right.each s.commands (places s.with s.commands now) stopped-all.begun;
        took = subst (Appends taken_before taken_now) asked at.took;
      }

-- What is left, however it ended.

-- the phases that are done are the first ones
pub first-taken : (s : Script) (ps rest : List (List Command)) → AreFirst s.commands ps rest → ps ≡ take (length ps) (phases s.commands)
first-taken s ps rest first = sym (ap (take (length ps)) first.split ∙ take-append_seam ps rest)

-- where nothing is left they are all
pub all-taken : (s : Script) (n : ℕ) (ps : List (List Command)) → AreFirst s.commands ps (phases (drop n s.commands)) → length s.commands ≤ n → ps ≡ phases s.commands
all-taken s n ps first past =
    let none : drop n s.commands ≡ [] = drop_all n s.commands past in
    sym (first.split ∙ ap (λ l. ps ++ phases l) none ∙ ap (λ l. ps ++ l) phases-nil ∙ append-nil ps)

-- the next one stands behind them
pub next-stands : (s : Script) (n m : ℕ) (ps : List (List Command)) → AreFirst s.commands ps (phases (drop n s.commands)) → IsNext s n m → phase_of s (length ps) ≡ next_phase s n m
next-stands s n m ps first next = ap (λ l. get_or l (length ps) []) (first.split ∙ ap (λ l. ps ++ l) next.split) ∙ get-seam ps (next_phase s n m) (phases (drop m s.commands))
  where
    get-seam : (ps : List (List Command)) (p : List Command) (rest : List (List Command)) → get_or (ps ++ p ∷ rest) (length ps) [] ≡ p
    get-seam [] p rest = refl
    get-seam (q ∷ ps) p rest = get-seam ps p rest

few-begun : (s : Script) (done : List Command) (history : List Event) → IsThrough s.with s.hierarchy done history → (session : ℕ) → length (begins_of history session) ≤ count_of s.with session done
few-begun s done history through session = omega (arith, through.counts session)

-- commands that are through are a part of a run of these and more
pub part-behind : (s : Script) (done more : List Command) (history : List Event) → IsThrough s.with s.hierarchy done history → IsRunSoFar s.with s.hierarchy (done ++ more) history
part-behind s done more history through = part_law s.with s.hierarchy (done ++ more) history (start_law s.with s.hierarchy done more history (few-begun s done history through) through.part)

pub part-of-all : (s : Script) (n : ℕ) (history : List Event) → IsThrough s.with s.hierarchy (take n s.commands) history → IsRunSoFar s.with s.hierarchy s.commands history
part-of-all s n history through = subst (λ l. IsRunSoFar s.with s.hierarchy l history) (take-append-drop n s.commands) (part-behind s (take n s.commands) (drop n s.commands) history through)

-- and in their order, where they are
pub serial-behind : (s : Script) (done more : List Command) (history : List Event) → IsThrough s.with s.hierarchy done history → IsInOrder s.with s.hierarchy done history → IsSerial s.with (done ++ more) history
serial-behind s done more history through ordered = serial_law s.with s.hierarchy (done ++ more) history (order-start-law s.with s.hierarchy done more history (few-begun s done history through) ordered)

-- The commands as a list that was lent.

pub two-takes : (s : Script) (all : List Command) (n m : ℕ) → n ≤ m → all ≡ s.commands → take n (take m all) ≡ take n s.commands
two-takes s all n m low is = take-take n m all low ∙ ap (take n) is

-- what is said of the commands that were lent is said of the script's own
pub of-script : (s : Script) (all : List Command) (n m : ℕ) (P : List Command → List Command → Type 0) → n ≤ m → all ≡ s.commands → P (take n (take m all)) (drop n (take m all)) → P (take n s.commands) (next_phase s n m)
of-script s all n m P low is holds =
    subst (λ (l : List Command). P (take n s.commands) (drop n (take m l))) is (subst (λ l. P l (drop n (take m all))) (two-takes s all n m low is) holds)

pub next-of : (s : Script) (all : List Command) (n k : ℕ) → all ≡ s.commands → phases (drop n all) ≡ take k (drop n all) ∷ phases (drop k (drop n all)) → IsNext s n (n + k)
next-of s all n k is split = next-is s n k (subst (λ (l : List Command). phases (drop n l) ≡ take k (drop n l) ∷ phases (drop k (drop n l))) is split)

pub closes-of : (all : List Command) (n k : ℕ) → 0 < k → k ≤ length (drop n all) → NoneCloses (take (k - 1) (drop n all)) → ClosesLast (drop n (take (n + k) all))
closes-of all n k some within none = subst ClosesLast (sym (drop-take n k all)) (closes-last (drop n all) k some within none)

-- Commands of a script may run.

of-get : {A : Type 0} (P : A → Type 0) (xs : List A) (i : ℕ) (x : A) → All P xs → slice_get xs i ≡ Some x → P x
of-get P [] i x all at = cc
of-get P (y ∷ ys) zero x all at = let same : y ≡ x = cc in subst P same (All-head P y ys all)
of-get P (y ∷ ys) (suc i) x all at = of-get P ys i x (All-tail P y ys all) at

pub may-run : (s : Script) (all : List Command) (n m : ℕ) (ps : List (List Command)) → n ≤ m → n < length all → all ≡ s.commands → All (Fits s) s.commands → (0 < length s.commands → 0 < length s.hierarchy)
    → all_of ps ≡ take n s.commands → MayRunNext s ps n (take m all)
may-run s all n m ps low some is fits dims first = record {
  first = first ∙ sym (two-takes s all n m low is);
  fit = λ i c at.
      let within : i < length (take m all) = slice_get_within (take m all) i c at in
      let few : length (take m all) ≤ m = length-take-most m all in
      of-get (Fits s) s.commands i c fits (ap (λ l. slice_get l i) (sym is) ∙ sym (get-take all m i (omega arith)) ∙ at);
  dims = dims (omega (arith, some, ap length is));
}
  where
    length-take-most : (m : ℕ) (cs : List Command) → length (take m cs) ≤ m
    length-take-most zero cs = omega arith
    length-take-most (suc m) [] = omega arith
    length-take-most (suc m) (c ∷ cs) = let more = length-take-most m cs in omega arith
