-- A step that begins the next command of its session keeps what holds between the steps of a phase.
use Rattle.std.proofs.{Common.{◌≡◌, ◌≢◌, ◌∙◌, ℕ, zero, suc, ◌+◌, ◌-◌, ◌<◌, ◌≤◌, ◌⊎◌, inl, inr, Bool, true, false, List, [], ◌∷◌, ◌++◌, length, take, drop, Option, Some, None, refl, sym, ap, subst, arith, append_assoc, length-append}, lemmas.Bool.{eq-eqb, ne_eqb}, lemmas.List.length-take-le, lemmas.Option.slice_get_within}
use Rattle.std.specs.{List.slice_index_or, Option.option_map_or, Prelude.{◌==◌, ◌||◌, IsTrue, slice_get}}
use Rattle.core_pages.specs.volap_cell.proofs.{Desks.Lists.splits-at, OneEvent.Noted.end-begins-none}
use Rattle.dim_hierarchy.specs.Dimension.{Dimension}
use Rattle.row_ledger.specs.{Classes.class_of, Past.{ends_itself, event_at, has_ended, is_over, session_in}, Settled.pulls_since, declared.event.Event.Event, declared.settings.Call.Call, declared.settings.Use.Use}
use Rattle.row_ledger.proofs.Positions.{event_at-here}
use Rattle.row_ledger.specs.declared.event.Event.TheVariants as event
use Rattle.script_form.specs.declared.script.Command.{Command}
use Rattle.script_form.specs.declared.script.Command.TheVariants as script
use Rattle.script_run.proofs.{Begin.begins-own, Between.{get-behind, none-count, order-begin-law}, InPhase.{phase_begin_law, rank_law}, NextCommand.take-front, PhaseEnds.get-first, PlaceFacts.{begins_of-here, begins_of-other, count_of-append}, Whole.get-some}
use Rattle.script_run.specs.{Between.IsInOrder, Parts.place_in, Phases.{closes, is_closing, ranks}, Places.{begins_of, count_of, is_over_at, session_of}, Runs.Begins, Streams.{NoneCloses, IsInPhase, IsReady, StepsOn}}
use Rattle.core_pages.specs.volap_cell.specs.{Ghost.Ghost, ImageKinds.doing, Invariant.InvWith, Setting.Setting, Steps.history_in, View.view, World.World, declared.command.Command.Command as OpenCommand, declared.command.Work.Work, declared.role.Role.TheVariants.Hand}
use Rattle.core_told.proofs.{Pulled.{begin-pulls-none, deed-session, pulled-none}, Told.{doing-is, none-some, told-law}}
use Rattle.core_told.specs.Told.{HasPulled, OfBeginning, OfDeed, OfEnd, OfNothing, OfPage, OfPull, OpensCommand, OpensNone, OpensOne, TellsBeginning, Told, begins_closing, is_closing_work, is_of_part}
use Rattle.seeded_run.proofs.{Counted.counted-law, Cursors.Cursors.{first-law, is-one}, Cursors.Firsts.{IsFirst, first-at, first-fails, first-pass, first-some, over-at, over-place, over-still, over_in, place-behind, place-now, place_since}, Holding.LeftAlone.{IsAtCommand, alone-parts, apart, closing-alone, does-nothing, next-due, same-or-not}, Phases.Keeps.{Own, OwnPulls, behind-by, can-first, idle-from, is-at-command, kept-by, one-more, opened-other}, Phases.PhaseRuns.{is-actor, low-or-high, opened-none, past-over, rest-past}, Scripts.hand-behind}
use Rattle.core_due.specs.Due.{desk_of, does_nothing}
use Rattle.seeded_run.specs.{Cursors.HasCursors, Due.is_alone, Kept.{IsTurn, KeepsBeginningLaw, MovesOn, QuietLaw}, Rests.{PhaseRun, first_open, rest_of, stream_of}, Running.{IsRunning, RunsBehind, behind, opened_in}}

-- Lists of commands.

parts-at : (cs : List Command) (k : ℕ) (c : Command) → slice_get cs k ≡ Some c → (cs ≡ take k cs ++ c ∷ drop (suc k) cs) × (length (take k cs) ≡ k)
parts-at cs k c at = (splits-at cs k c at, length-take-le k cs (let low = slice_get_within cs k c at in omega arith))

-- with the command at a place, and none of its session behind, there is one more
count-gap : (with : Use) (s : ℕ) (cs : List Command) (m n : ℕ) (c : Command) → slice_get cs m ≡ Some c → session_of with c ≡ s → m < n
    → ((i : ℕ) (d : Command) → slice_get cs i ≡ Some d → m < i → i < n → session_of with d ≢ s) → count_of with s (take n cs) ≡ count_of with s (take m cs) + 1
count-gap with s [] m n c at own low none = cc
count-gap with s (d ∷ cs) m zero c at own low none = absurd (omega arith)
count-gap with s (d ∷ cs) zero (suc n) c at own low none =
    let same : d ≡ c = cc in
    let one = is-one with s d (ap (λ x. session_of with x == s) same ∙ eq-eqb (session_of with c) s own) in
    let rest = none-count with s cs n (λ i x there below. none (suc i) x there (omega arith) (omega (arith, below))) in
    omega (arith, one, rest, count_of-append with s (d ∷ []) (take n cs))
count-gap with s (d ∷ cs) (suc m) (suc n) c at own low none =
    let more = count-gap with s cs m n c at own (omega (arith, low)) (λ i x there far below. none (suc i) x there (omega (arith, far)) (omega (arith, below))) in
    omega (arith, more, count_of-append with s (d ∷ []) (take n cs), count_of-append with s (d ∷ []) (take m cs))

take-get : (cs : List Command) (k i : ℕ) (d : Command) → slice_get (take k cs) i ≡ Some d → (slice_get cs i ≡ Some d) × (i < k)
take-get [] zero i d at = cc
take-get [] (suc k) i d at = cc
take-get (c ∷ cs) zero i d at = cc
take-get (c ∷ cs) (suc k) zero d at = (at, omega arith)
take-get (c ∷ cs) (suc k) (suc i) d at = let more = take-get cs k i d at in (more.0, omega (arith, more.1))

none-closes : (cs : List Command) → ((i : ℕ) (d : Command) → slice_get cs i ≡ Some d → closes d ≡ false) → NoneCloses cs
none-closes [] each = tt
none-closes (c ∷ cs) each = (each 0 c refl, none-closes cs (λ i d at. each (suc i) d at))

-- The next command of a phase begins.

begin-phase : (with : Use) (h : List Dimension) (done cs : List Command) (k : ℕ) (c : Command) (e : Event) (history : List Event) (next now_next : ℕ → ℕ) (opened now_opened : ℕ → Option ℕ)
    → slice_get cs k ≡ Some c → IsInPhase with h (done ++ cs) (length done) history next opened
    → next (session_of with c) ≡ length done + k → opened (session_of with c) ≡ None → IsReady with (done ++ cs) (length done) next opened (length done + k)
    → session_in e ≡ Some (session_of with c) → Begins with h history c e
    → StepsOn with (done ++ cs) e history (session_of with c) (length done + k) next now_next opened now_opened
    → IsInPhase with h (done ++ cs) (length done) (e ∷ history) now_next now_opened
begin-phase with h done cs k c e history next now_next opened now_opened at phase is none ready session begins on =
    let front = done ++ take k cs in
    let back = drop (suc k) cs in
    let split = parts-at cs k c at in
    let all : done ++ cs ≡ front ++ c ∷ back = ap (λ l. done ++ l) split.0 ∙ sym (append_assoc done (take k cs) (c ∷ back)) in
    let far : length done + k ≡ length front = omega (arith, split.1, length-append done (take k cs)) in
    subst (λ l. IsInPhase with h l (length done) (e ∷ history) now_next now_opened) (sym all)
    (phase_begin_law with h front c back (length done) e history next now_next opened now_opened (subst (λ l. IsInPhase with h l (length done) history next opened) all phase)
    (omega (arith, far)) (is ∙ far) none (subst (IsReady with (front ++ c ∷ back) (length done) next opened) far (subst (λ l. IsReady with l (length done) next opened (length done + k)) all ready))
    session begins
    (subst (λ m. StepsOn with (front ++ c ∷ back) e history (session_of with c) m next now_next opened now_opened) far
    (subst (λ l. StepsOn with l e history (session_of with c) (length done + k) next now_next opened now_opened) all on)))

begin-order : (with : Use) (h : List Dimension) (done cs : List Command) (k : ℕ) (c : Command) (e : Event) (history : List Event)
    → slice_get cs k ≡ Some c → ((j : ℕ) → j < length done + k → (q : ℕ) × (place_in with (done ++ cs) history j ≡ Some q) × IsTrue (is_over history q))
    → count_of with (session_of with c) (take (length done + k) (done ++ cs)) ≡ length (begins_of history (session_of with c))
    → session_in e ≡ Some (session_of with c) → Begins with h history c e → IsInOrder with h (done ++ cs) history → IsInOrder with h (done ++ cs) (e ∷ history)
begin-order with h done cs k c e history at before count session begins order =
    let front = done ++ take k cs in
    let back = drop (suc k) cs in
    let split = parts-at cs k c at in
    let all : done ++ cs ≡ front ++ c ∷ back = ap (λ l. done ++ l) split.0 ∙ sym (append_assoc done (take k cs) (c ∷ back)) in
    let far : length done + k ≡ length front = omega (arith, split.1, length-append done (take k cs)) in
    let first : take (length done + k) (done ++ cs) ≡ front = ap (take (length done + k)) all ∙ ap (λ m. take m (front ++ c ∷ back)) far ∙ take-front front (c ∷ back) in
    let count_front : count_of with (session_of with c) front ≡ length (begins_of history (session_of with c)) = ap (count_of with (session_of with c)) (sym first) ∙ count in
    subst (λ l. IsInOrder with h l (e ∷ history)) (sym all)
    (order-begin-law with h front c back e history
    (λ j low. let found = before j (omega (arith, low, far)) in (found.0, ap (λ l. place_in with l history j) (sym all) ∙ found.1, found.2))
    count_front session begins (subst (λ l. IsInOrder with h l history) all order))

-- Events that begin commands.

begins-closes : (with : Use) (h : List Dimension) (past : List Event) (c : Command) (e : Event) → Begins with h past c e → begins_closing e ≡ true → closes c ≡ true
begins-closes with h past (script.Insert new) (event.Called session call) b closing = absurd b
begins-closes with h past (script.Query question) (event.Called session call) b closing = absurd b
begins-closes with h past (script.Control called) (event.Called session call) b closing = ap (λ (x : Call). is_closing (class_of x)) (sym b.1) ∙ closing
begins-closes with h past (script.Group dim level filter) (event.Called session call) b closing = refl
begins-closes with h past c (event.Begun session server row) b closing = cc
begins-closes with h past c (event.Asked session server filter) b closing = cc
begins-closes with h past c (event.Unknown session server dim) b closing = cc
begins-closes with h past c (event.Refused session) b closing = cc
begins-closes with h past c (event.Acked of path) b closing = cc
begins-closes with h past c (event.Answered of agg) b closing = cc
begins-closes with h past c (event.Failed of) b closing = cc
begins-closes with h past c (event.Ended of how) b closing = cc
begins-closes with h past c (event.Split of shard left right) b closing = cc
begins-closes with h past c (event.Moved of shard worker) b closing = cc
begins-closes with h past c (event.Left of shard how) b closing = cc
begins-closes with h past c (event.Synced server listing) b closing = cc
begins-closes with h past c (event.Shown of page) b closing = cc

longer : (e : Event) (h : List Event) → h ≡ e ∷ h → ⊥
longer e h is = let len : length h ≡ suc (length h) = ap length is in omega arith

module _ (in_order : Bool) (s : Setting) (p : PhaseRun) (w now : World) (g g_now : Ghost) (next : ℕ → ℕ) (n : ℕ)
    (i : InvWith s (view s w) g) (i_now : InvWith s (view s now) g_now) (turn : IsTurn in_order s p w n now) (r : IsRunning in_order s p w next)
    (t : TellsBeginning s turn.made n w now) (next_now : ℕ → ℕ) (c : Command) (at : slice_get p.commands (next n) ≡ Some c)
    (begins : Begins p.with s.hierarchy (history_in w) c t.begins) (moves : MovesOn p n next next_now) where
  own-session : session_of p.with c ≡ n
  own-session = r.own n c at

  at-command-now : IsAtCommand s w (rest_of p (history_in w)) n turn.due_kind
  at-command-now = is-at-command in_order s p w now g g_now next n i i_now turn r t.of_command

  rest-first : rest_of p (history_in w) n ≡ c ∷ stream_of p.with (drop (next n + 1) p.commands) n
  rest-first = first-law p (history_in w) next r.cursors n c at own-session

  no-hand : (worker : ℕ) → (w.actors n).role ≢ Hand worker
  no-hand worker role = hand-behind s w g i r.roles n worker role (subst (λ x. x < s.servers + 2) own-session (r.phase.sessions (next n) c at))

  -- a command that closes the phase begins alone
  alone : closes c ≡ true → is_alone s w (rest_of p (history_in w)) n ≡ true
  alone closing = closing-alone s.hierarchy (is_alone s w (rest_of p (history_in w)) n) (desk_of s w (w.actors n).role) c (stream_of p.with (drop (next n + 1) p.commands) n) (rest_of p (history_in w) n) turn.due_kind
      (next-due s w (rest_of p (history_in w)) n turn.due_kind at-command-now t.free.command no-hand) rest-first closing

  counted : (now.actors n).counted ≡ (w.actors n).counted
  counted = counted-law s turn.made n w now turn.step (inr (inl (λ same. longer t.begins (history_in w) (sym same ∙ t.history))))

  session-is : session_in t.begins ≡ Some (session_of p.with c)
  session-is = t.session ∙ ap Some (sym own-session)

  -- The others begin nothing, and the session one command.

  begins-others : (x : ℕ) → x ≢ n → begins_of (history_in now) x ≡ begins_of (history_in w) x
  begins-others x differs =
      ap (λ h. begins_of h x) t.history
      ∙ begins_of-other t.begins (history_in w) x (ap (λ o. option_map_or (λ y. y == x) o false) t.session ∙ ne_eqb n x (λ e. differs (sym e)))

  rest-others : (x : ℕ) → x ≢ n → rest_of p (history_in now) x ≡ rest_of p (history_in w) x
  rest-others x differs = ap (λ l. drop (length l - length (begins_of p.before x)) (stream_of p.with p.commands x)) (begins-others x differs)

  one-more-begun : length (begins_of (history_in now) n) ≡ length (begins_of (history_in w) n) + 1
  one-more-begun =
      ap (λ h. length (begins_of h n)) t.history
      ∙ ap length (begins_of-here t.begins (history_in w) n (begins-own n t.begins t.session))
      ∙ length-append (begins_of (history_in w) n) (length (history_in w) ∷ [])

  one-more-past : count_of p.with n (take (next_now n) p.commands) ≡ count_of p.with n (take (next n) p.commands) + 1
  one-more-past = count-gap p.with n p.commands (next n) (next_now n) c at own-session moves.further (λ j d there far below. moves.none j d there far below)

  cursors-now : HasCursors p (history_in now) next_now
  cursors-now = record {
    counts = λ x. elim (same-or-not x n) [
      | inl same ↦ subst (λ y. length (begins_of (history_in now) y) ≡ length (begins_of p.before y) + count_of p.with y (take (next_now y) p.commands)) (sym same)
          (omega (arith, one-more-begun, one-more-past, r.cursors.counts n))
      | inr differs ↦ ap length (begins-others x differs) ∙ r.cursors.counts x ∙ ap (λ m. length (begins_of p.before x) + count_of p.with x (take m p.commands)) (sym (moves.others x differs))
    ];
  }

  own-beginning : Own in_order s p w now g g_now next n i i_now turn r
  own-beginning = by t.opens
    where
      by : OpensCommand s t.begins n w now → Own in_order s p w now g g_now next n i i_now turn r
      by (OpensNone itself none) = record {
        closing = λ x there closing. none-some (now.actors n).command x none there;
        pages = λ x there page. none-some (now.actors n).command x none there;
      }
      by (OpensOne work itself command pulled closing_is) = record {
        closing = λ x there closing.
            let same = doing-is (now.actors n).command x (length (history_in w)) work there command in
            alone (begins-closes p.with s.hierarchy (history_in w) c t.begins begins (sym closing_is ∙ ap is_closing_work (sym same.1) ∙ closing));
        pages = λ x there page.
            let same = doing-is (now.actors n).command x (length (history_in w)) work there command in
            omega (arith, ap length t.history, same.0);
      }

  -- One after the other.
  module _ (order : in_order ≡ true) where
    f : IsFirst (over_in p (history_in w)) (session_of p.with) 0 p.commands n
    f = first-some p (history_in w) n (can-first in_order s p w now g g_now next n i i_now turn r t.of_command order)

    not-past : next n ≤ f.at
    not-past = elim (low-or-high f.at (next n)) [
      | inr high ↦ high
      | inl low ↦ apart (over_in p (history_in w) f.at)
          (past-over in_order s p w g next i r f.at f.command f.here (subst (λ x. f.at < next x) (sym f.is) low) (ap (λ x. (w.actors x).command) f.is ∙ t.free.command))
          (first-fails p (history_in w) n f)
    ]

    over-before : (j : ℕ) → j < next n → over_in p (history_in w) j ≡ true
    over-before j low = first-pass p (history_in w) n f j (omega (arith, low, not-past))

    -- what has begun and doesn't end with that is the first one that isn't over
    still-first : (work : Work) → ends_itself t.begins ≡ false → (now.actors n).command ≡ doing (length (history_in w)) work → first_open p (history_in now) ≡ Some n
    still-first work itself command =
        let ended : has_ended (t.begins ∷ history_in w) (length (history_in w)) ≡ false =
        ap (λ x. has_ended x (length (history_in w))) (sym t.history) ∙ i_now.telling.is_open n (record { of = length (history_in w); work = work }) command in
        let here : over_in p (t.begins ∷ history_in w) (next n) ≡ false =
        over-at p (t.begins ∷ history_in w) (next n) c at
        ∙ ap (is_over_at (t.begins ∷ history_in w))
        (place-now p t.begins (history_in w) (next n) c session-is
        (subst (λ x. length (begins_of (history_in w) x) ≡ length (begins_of p.before x) + count_of p.with x (take (next n) p.commands)) (sym own-session) (r.cursors.counts n)))
        ∙ ap (λ b. b || option_map_or ends_itself (event_at (t.begins ∷ history_in w) (length (history_in w))) false) ended
        ∙ ap (λ o. option_map_or ends_itself o false) (event_at-here t.begins (history_in w)) ∙ itself in
        ap (first_open p) t.history
        ∙ first-at p (t.begins ∷ history_in w) (next n) c at here (λ j low. over-still p t.begins (history_in w) j (over-before j low))
        ∙ ap Some own-session

    own-idle : first_open p (history_in now) ≢ Some n → does_nothing (now.actors n) ≡ true
    own-idle differs = by t.opens
      where
        by : OpensCommand s t.begins n w now → does_nothing (now.actors n) ≡ true
        by (OpensNone itself none) = does-nothing (now.actors n) (record {
          command = none;
          errand = t.errand ∙ t.free.errand;
          job = t.job itself;
          purse = t.purse ∙ at-command-now.purse t.free.job;
          counted = counted ∙ r.nobody n;
        })
        by (OpensOne work itself command pulled closing) = absurd (differs (still-first work itself command))

  pub keeps-beginning : IsRunning in_order s p now next_now
  keeps-beginning = kept-by in_order s p w now g g_now next n i i_now turn r next_now rest-others counted own-beginning cursors-now moves.own
      (λ order. idle-from in_order s p w now g g_now next n i i_now turn r (own-idle order) order)

  -- Behind commands that are done.

  module _ (done : List Command) (b : RunsBehind in_order s p done w next) where
    -- the command's place among all
    abbrev k : ℕ
    k = behind done next n

    next-is : behind done next (session_of p.with c) ≡ k
    next-is = ap (behind done next) own-session

    nothing-open : opened_in w (session_of p.with c) ≡ None
    nothing-open = ap (opened_in w) own-session ∙ opened-none w n t.free.command

    -- where a command of the phase stands among all
    far : (j : ℕ) → length done ≤ j → length done + (j - length done) ≡ j
    far j high = omega (arith, high)

    in-phase : (j : ℕ) (d : Command) → length done ≤ j → slice_get (done ++ p.commands) j ≡ Some d → slice_get p.commands (j - length done) ≡ Some d
    in-phase j d high there = sym (get-behind done p.commands (j - length done)) ∙ ap (slice_get (done ++ p.commands)) (far j high) ∙ there

    ready : IsReady p.with (done ++ p.commands) (length done) (behind done next) (opened_in w) k
    ready j d there lower = by (closes c) refl
      where
        by : (b : Bool) → closes c ≡ b → (j < length done) ⊎ ((j < behind done next (session_of p.with d)) × (opened_in w (session_of p.with d) ≡ None))
        by false open_ =
            let split = parts-at p.commands (next n) c at in
            let all = ap (λ l. done ++ l) split.0 in
            inl (rank_law done (take (next n) p.commands) c (drop (suc (next n)) p.commands) j
            (none-closes (take (next n) p.commands) (λ m x found. not-closing m x (take-get p.commands (next n) m x found) (closes x) refl)) open_
            (subst (λ l. j < length l) all (slice_get_within (done ++ p.commands) j d there))
            (subst (λ m. slice_index_or (ranks (done ++ (take (next n) p.commands ++ c ∷ drop (suc (next n)) p.commands))) j 0 < slice_index_or (ranks (done ++ (take (next n) p.commands ++ c ∷ drop (suc (next n)) p.commands))) (length done + m) 0) (sym split.1)
            (subst (λ l. slice_index_or (ranks l) j 0 < slice_index_or (ranks l) k 0) all lower)))
          where
            not-closing : (m : ℕ) (x : Command) → (slice_get p.commands m ≡ Some x) × (m < next n) → (b : Bool) → closes x ≡ b → closes x ≡ false
            not-closing m x found false at_x = at_x
            not-closing m x found true at_x = absurd (omega (arith, r.phase.last m x found.0 at_x, found.1, slice_get_within p.commands (next n) c at))
        by true closing = elim (low-or-high j (length done)) [
          | inl low ↦ inl low
          | inr high ↦
              let here = in-phase j d high there in
              let within = slice_get_within p.commands (j - length done) d here in
              let last = r.phase.last (next n) c at closing in
              inr (elim (same-or-not (session_of p.with d) n) [
                | inl same ↦ (
                  subst (λ x. j < behind done next x) (sym same) (elim (same-or-not j k) [
                    | inl is_it ↦ absurd (omega (arith, lower, ap (λ m. slice_index_or (ranks (done ++ p.commands)) m 0) is_it))
                    | inr other ↦ omega (arith, within, last, far j high, other)
                  ]),
                  ap (opened_in w) same ∙ opened-none w n t.free.command,
                )
                | inr other ↦
                    let idle = alone-parts s w (rest_of p (history_in w)) n (session_of p.with d) (alone closing) (is-actor in_order s p w g next i r (j - length done) d here) other in
                    let past = rest-past in_order s p w g next i r (j - length done) d here idle.1 in
                    (omega (arith, past, far j high), opened-none w (session_of p.with d) idle.0.command)
              ])
        ]

    opens-now : IsTrue (is_over (t.begins ∷ history_in w) (length (history_in w))) ⊎ (opened_in now n ≡ Some (length (history_in w)))
    opens-now = by t.opens
      where
        by : OpensCommand s t.begins n w now → IsTrue (is_over (t.begins ∷ history_in w) (length (history_in w))) ⊎ (opened_in now n ≡ Some (length (history_in w)))
        by (OpensNone itself none) = inl (or-last (has_ended (t.begins ∷ history_in w) (length (history_in w))) (option_map_or ends_itself (event_at (t.begins ∷ history_in w) (length (history_in w))) false)
            (ap (λ o. option_map_or ends_itself o false) (event_at-here t.begins (history_in w)) ∙ itself))
          where
            or-last : (a b : Bool) → b ≡ true → (a || b) ≡ true
            or-last true b x = refl
            or-last false b x = x
        by (OpensOne work itself command pulled closing) = inr (rw command refl)

    on : StepsOn p.with (done ++ p.commands) t.begins (history_in w) (session_of p.with c) k (behind done next) (behind done next_now) (opened_in w) (opened_in now)
    on = record {
      further = further;
      one = count-gap p.with (session_of p.with c) (done ++ p.commands) k (behind done next_now (session_of p.with c)) c (get-behind done p.commands (next n) ∙ at) refl further none-between;
      no_other = none-between;
      others = λ x differs. let apart_n : x ≢ n = λ e. differs (e ∙ sym own-session) in (
        ap (λ m. length done + m) (moves.others x apart_n),
        opened-other in_order s p w now g g_now next n i i_now turn r x apart_n,
      );
      opens = elim opens-now [ inl over ↦ inl over | inr opened ↦ inr (ap (opened_in now) own-session ∙ opened) ];
    }
      where
        further : k < behind done next_now (session_of p.with c)
        further = subst (λ x. k < behind done next_now x) (sym own-session) (let low = moves.further in omega arith)

        none-between : (j : ℕ) (d : Command) → slice_get (done ++ p.commands) j ≡ Some d → k < j → j < behind done next_now (session_of p.with c) → session_of p.with d ≢ session_of p.with c
        none-between j d there low below same =
            let high : length done ≤ j = omega (arith, low) in
            let below_n : j < behind done next_now n = subst (λ x. j < behind done next_now x) own-session below in
            moves.none (j - length done) d (in-phase j d high there) (omega (arith, low, far j high)) (omega (arith, below_n, far j high)) (same ∙ own-session)

    phase-now : IsInPhase p.with s.hierarchy (done ++ p.commands) (length done) (history_in now) (behind done next_now) (opened_in now)
    phase-now = subst (λ x. IsInPhase p.with s.hierarchy (done ++ p.commands) (length done) x (behind done next_now) (opened_in now)) (sym t.history)
        (begin-phase p.with s.hierarchy done p.commands (next n) c t.begins (history_in w) (behind done next) (behind done next_now) (opened_in w) (opened_in now) at b.in_phase next-is nothing-open
        ready session-is begins on)

    pulls-beginning : OwnPulls in_order s p w now g g_now next n i i_now turn r done b
    pulls-beginning = by t.opens
      where
        pulls : (a : ℕ) (x : OpenCommand) → a ≢ n → (w.actors a).command ≡ Some x → HasPulled s.servers x.work (pulls_since (history_in now) x.of)
        pulls a x differs there = one-more in_order s p w now g g_now next n i i_now turn r done b t.begins t.history (begin-pulls-none t.begins n t.session) a x there

        by : OpensCommand s t.begins n w now → OwnPulls in_order s p w now g g_now next n i i_now turn r done b
        by (OpensNone itself none) = record { pulled = λ x there. none-some (now.actors n).command x none there; pulled_others = pulls }
        by (OpensOne work itself command pulled closing_is) = record {
          pulled = λ x there.
              let same = doing-is (now.actors n).command x (length (history_in w)) work there command in
              let none : pulls_since (history_in now) x.of ≡ [] = ap (λ y. pulls_since y x.of) t.history ∙ ap (pulls_since (t.begins ∷ history_in w)) same.0 ∙ pulled-none t.begins (history_in w) in
              subst (HasPulled s.servers x.work) (sym none) (subst (λ y. HasPulled s.servers y []) (sym same.1) pulled);
          pulled_others = pulls;
        }

    -- in their order each one before is over
    order-now : in_order ≡ true → IsInOrder p.with s.hierarchy (done ++ p.commands) (history_in now)
    order-now order = subst (λ x. IsInOrder p.with s.hierarchy (done ++ p.commands) x) (sym t.history)
        (begin-order p.with s.hierarchy done p.commands (next n) c t.begins (history_in w) at all-before
        (ap (λ m. count_of p.with (session_of p.with c) (take m (done ++ p.commands))) (sym next-is) ∙ b.in_phase.streams.counts (session_of p.with c))
        session-is begins (b.ordered order))
      where
        all-before : (j : ℕ) → j < k → (q : ℕ) × (place_in p.with (done ++ p.commands) (history_in w) j ≡ Some q) × IsTrue (is_over (history_in w) q)
        all-before j low = elim (low-or-high j (length done)) [
          | inl old ↦ let d = get-some done j old in b.in_phase.past j d.0 (get-first done p.commands j old ∙ d.1) old
          | inr high ↦
              let below : j - length done < next n = omega (arith, low, far j high) in
              let d = get-some p.commands (j - length done) (omega (arith, below, slice_get_within p.commands (next n) c at)) in
              let over = over-place (history_in w) (place_since p (history_in w) (j - length done) d.0) (sym (over-at p (history_in w) (j - length done) d.0 d.1) ∙ over-before order (j - length done) below) in (
                over.0,
                ap (place_in p.with (done ++ p.commands) (history_in w)) (sym (far j high)) ∙ sym (place-behind p done (history_in w) b.through (j - length done) d.0 d.1) ∙ over.1,
                over.2,
              )
        ]

    pub beginning-behind : RunsBehind in_order s p done now next_now
    beginning-behind = behind-by in_order s p w now g g_now next n i i_now turn r done b next_now pulls-beginning phase-now order-now

-- What is told with a beginning is one.

heads : (x y : Event) (xs ys : List Event) → x ∷ xs ≡ y ∷ ys → x ≡ y
heads x y xs ys e = cc

session-clash : {X : Type 0} (o : Option ℕ) (n : ℕ) → o ≡ None → o ≡ Some n → X
session-clash o n x y = cc

beginning-of : (s : Setting) (k : _) (n : ℕ) (w now : World) (e : Event) → history_in now ≡ e ∷ history_in w → session_in e ≡ Some n → Told s k n w now
    → (t : TellsBeginning s k n w now) × (e ≡ t.begins)
beginning-of s k n w now e is session (OfNothing t) = absurd (longer e (history_in w) (sym t.history ∙ is))
beginning-of s k n w now e is session (OfDeed t) = session-clash (session_in e) n (ap session_in (heads e t.deed _ _ (sym is ∙ t.history)) ∙ deed-session t.deed t.is_that) session
beginning-of s k n w now e is session (OfPull t) = session-clash (session_in e) n (ap session_in (heads e (event.Synced t.server t.listing) _ _ (sym is ∙ t.history))) session
beginning-of s k n w now e is session (OfPage t) = session-clash (session_in e) n (ap session_in (heads e (event.Shown t.of t.page) _ _ (sym is ∙ t.history))) session
beginning-of s k n w now e is session (OfEnd t) = session-clash (session_in e) n (ap session_in (heads e t.end_is _ _ (sym is ∙ t.history)) ∙ end-begins-none t.end_is t.of t.ends.0) session
beginning-of s k n w now e is session (OfBeginning t) = (t, heads e t.begins _ _ (sym is ∙ t.history))

pub keeps-beginning-law : KeepsBeginningLaw
keeps-beginning-law in_order s p w now g g_now next next_now n c e i i_now turn at history session begins moves r =
    let found = beginning-of s turn.made n w now e history session (told-law s turn.made n w now g g_now i i_now turn.step) in
    let told = subst (Begins p.with s.hierarchy (history_in w) c) found.1 begins in (
      keeps-beginning in_order s p w now g g_now next n i i_now turn r found.0 next_now c at told moves,
      λ done b. beginning-behind in_order s p w now g g_now next n i i_now turn r found.0 next_now c at told moves done b,
    )

-- Kinds that begin nothing.

pub quiet-law : QuietLaw
quiet-law s k n w now g g_now i i_now step busy e is = by (told-law s k n w now g g_now i i_now step)
  where
    by : Told s k n w now → session_in e ≡ None
    by (OfNothing t) = absurd (longer e (history_in w) (sym t.history ∙ is))
    by (OfDeed t) = ap session_in (heads e t.deed _ _ (sym is ∙ t.history)) ∙ deed-session t.deed t.is_that
    by (OfPull t) = ap session_in (heads e (event.Synced t.server t.listing) _ _ (sym is ∙ t.history))
    by (OfPage t) = ap session_in (heads e (event.Shown t.of t.page) _ _ (sym is ∙ t.history))
    by (OfEnd t) = ap session_in (heads e t.end_is _ _ (sym is ∙ t.history)) ∙ end-begins-none t.end_is t.of t.ends.0
    by (OfBeginning t) = apart (is_of_part k) (busy t.free.command) t.of_command
