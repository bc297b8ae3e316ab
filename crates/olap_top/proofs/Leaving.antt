-- What a run leaves.
use Rattle.std.proofs.{Common.{◌≡◌, ◌≢◌, ◌∙◌, ◌≤◌, ◌⊎◌, inl, inr, ℕ, zero, suc, Bool, true, false, List, [], ◌∷◌, ◌++◌, length, take, drop, refl, sym, ap, subst, arith, append-nil, append_assoc}, lemmas.List.{take-append-drop, take_all}}
use Rattle.std.specs.{List.slice_index_or, Prelude.if◌then◌else◌}
use Rattle.seeded_run.specs.script_roles.specs.Roles.{roles_of}
use Rattle.threaded_run.specs.actor_run.specs.Halls.{hall_setting, own_role}
use Rattle.core_laws.proofs.CellUses.{cell-use-law}
use Rattle.core_laws.specs.CellUse.{AreAllUsed}
use Rattle.dim_hierarchy.specs.Dimension.{Dimension}
use Rattle.row_ledger.specs.{Right.IsRight, Site.site_of, declared.event.Event.Event, declared.settings.Use.Use}
use Rattle.script_form.specs.{Fits.AreSettings, declared.script.Command.Command, declared.script.Script.Script}
use Rattle.script_run.proofs.PhaseFacts.{all_of-append, all_of-phases}
use Rattle.script_run.specs.{Phases.{all_of, phases}, Runs.{IsRunSoFar, IsSerial}}
use Rattle.seeded_run.specs.{Kept.{AreIdle, IsNoneGone}, Phase.held}
use Rattle.seeded_turns.specs.{Drawn.Moment, declared.schedule.Schedule.Schedule}
use Rattle.core_laws.specs.volap_cell.proofs.Promised.{place-law, rows-law}
use Rattle.core_laws.specs.volap_cell.specs.{Filling.setting_for, Opening.IsOpening, Setting.Setting, Steps.{Inv, IsReached, history_in}, World.World, declared.role.Role.Role, declared.state.State.State}
use Rattle.olap_top.specs.{Engines.{HasRunInto, HasRunThrough, IsLeft, IsLeftBehind, IsLeftWithin}, Left.{IsHandedOut, LeavesRun}, OneRun.{EndsAs, GoesTo, IsRunUpTo, IsWhole, RunPhases, RunsPhase, alone_in_order, phase_of, setting_alone, setting_of}, Outcomes.{RunsInOrder, goes_in_order, on_threads, schedule_of}, RowsKept.AreRowsKept, RunSoFar.HasLeft, Settles.IsSettling, declared.outcome.Outcome.Outcome, declared.outcome.Status.Status, declared.wanted.Wanted.Wanted}
use Rattle.olap_top.specs.declared.outcome.Status.TheVariants as status_is
use Rattle.olap_top.proofs.{Behind.of-all-behind, Handing.state-inv, Settled.{settled-all, settles-tell}}

-- What is held keeps each row.
rows-kept : (s : Setting) (w : World) → Inv s w → AreRowsKept s w
rows-kept s w inv =
    let places = place-law s w inv in
    let rows = rows-law s w inv in
    record {
      places = record { standing = places.0; one = places.1 };
      shards = record { standing = rows.0; began = rows.1; acknowledged = rows.2 };
    }

-- Where everybody is idle and no gate is gone, each cell has its one use.
all-used : (s : Setting) (w : World) → Inv s w → AreIdle w × IsNoneGone w → AreAllUsed s w
all-used s w inv (idle, gone) = cell-use-law s w inv (λ a. (idle a).purse) (λ a. (idle a).job) gone

-- what is said of the history is said of the one that was handed out
pub of-history : (h : List Dimension) (with : Use) (x : State) (o : Outcome) (history : List Event) (P : List Event → Type 0) → history_in (held h with x) ≡ history → IsHandedOut h with x o → P history → P o.ledger.history
of-history h with x o history P told out holds = subst P (sym (ap history_in out.same ∙ told)) holds

-- How the state came about, by the status with which the run ended.

module _ (wanted : Wanted) (s : Script) (to : World) where
  nothing-more : (opening : World) (is_opening : IsOpening (setting_alone s) opening) (k : ℕ) (between : Moment World) (schedule : Schedule) → RunPhases (alone_in_order wanted) s (take k (phases s.commands)) (record { state = opening; schedule = schedule_of wanted }) between
      → RunsPhase (alone_in_order wanted) s (phase_of s k) between (record { state = to; schedule = schedule }) → GoesTo (alone_in_order wanted) s (record { state = opening; schedule = schedule_of wanted }) to
  nothing-more opening is_opening k between schedule whole part = record { phase = k; between = between; whole = whole; schedule = schedule; part = part }

  goes-through : (k : ℕ) (run : HasRunThrough wanted s (take k (phases s.commands)) to) → GoesTo (alone_in_order wanted) s (record { state = run.opening; schedule = schedule_of wanted }) to
  goes-through k run = nothing-more run.opening run.is_opening k (record { state = to; schedule = run.schedule }) run.schedule run.turns (record { turns = []; are = refl })

  ran-fault : (k : ℕ) → HasRunThrough wanted s (take k (phases s.commands)) to → IsRunUpTo wanted s status_is.WriteFault to
  ran-fault k run = record { opening = run.opening; is_opening = run.is_opening; goes = goes-through k run; ends = (k, (run.schedule, run.turns)) }

  ran-short : (k : ℕ) → HasRunThrough wanted s (take k (phases s.commands)) to → IsRunUpTo wanted s status_is.NoMemory to
  ran-short k run = record { opening = run.opening; is_opening = run.is_opening; goes = goes-through k run; ends = tt }

  ran-into : (k : ℕ) → HasRunInto wanted s (take k (phases s.commands)) (phase_of s k) to → IsRunUpTo wanted s status_is.NoMemory to
  ran-into k run = record { opening = run.opening; is_opening = run.is_opening; goes = nothing-more run.opening run.is_opening k run.between run.schedule run.whole run.part; ends = tt }

  ran-done : HasRunThrough wanted s (phases s.commands) to → IsRunUpTo wanted s status_is.Done to
  ran-done run =
      let all : take (length (phases s.commands)) (phases s.commands) ≡ phases s.commands = take_all (length (phases s.commands)) (phases s.commands) (omega arith) in
      let whole = subst (λ l. RunPhases (alone_in_order wanted) s l (record { state = run.opening; schedule = schedule_of wanted }) (record { state = to; schedule = run.schedule })) (sym all) run.turns in
      record {
        opening = run.opening;
        is_opening = run.is_opening;
        goes = nothing-more run.opening run.is_opening (length (phases s.commands)) (record { state = to; schedule = run.schedule }) run.schedule whole (record { turns = []; are = refl });
        ends = (run.schedule, run.turns);
      }

-- what is known of a state that is left, whatever the status
pub record IsLeftAs (wanted : Wanted) (s : Script) (status : Status) (history : List Event) (x : State) : Type 0 where
  pub left : IsLeft wanted s history x
  pub run : on_threads wanted s ≡ false → IsRunUpTo wanted s status (held s.hierarchy s.with x)
  pub rests : status ≢ status_is.NoMemory → AreIdle (held s.hierarchy s.with x) × IsNoneGone (held s.hierarchy s.with x)
  pub serial : goes_in_order wanted ≡ true → IsSerial s.with s.commands history

-- behind the first phases
serial-first : (wanted : Wanted) (s : Script) (k : ℕ) (history : List Event) → ((more : List Command) → IsSerial s.with (all_of (take k (phases s.commands)) ++ more) history) → IsSerial s.with s.commands history
serial-first wanted s k history serial =
    subst (λ l. IsSerial s.with l history)
    (sym (all_of-append (take k (phases s.commands)) (drop k (phases s.commands))) ∙ ap all_of (take-append-drop k (phases s.commands)) ∙ all_of-phases s.commands)
    (serial (all_of (drop k (phases s.commands))))

-- the phases behind the next one, which is empty where there is none
behind-next : (ps : List (List Command)) (k : ℕ) → (rest : List (List Command)) × ((all_of (take k ps) ++ slice_index_or ps k []) ++ all_of rest ≡ all_of ps)
behind-next [] zero = ([], refl)
behind-next [] (suc k) = ([], refl)
behind-next (p ∷ ps) zero = (ps, refl)
behind-next (p ∷ ps) (suc k) =
    let more = behind-next ps k in
    (more.0, ap (λ l. l ++ all_of more.0) (append_assoc p (all_of (take k ps)) (slice_index_or ps k [])) ∙ append_assoc p (all_of (take k ps) ++ slice_index_or ps k []) (all_of more.0) ∙ ap (λ l. p ++ l) more.1)

-- in the next one
serial-next : (wanted : Wanted) (s : Script) (k : ℕ) (history : List Event) → ((more : List Command) → IsSerial s.with ((all_of (take k (phases s.commands)) ++ phase_of s k) ++ more) history) → IsSerial s.with s.commands history
serial-next wanted s k history serial =
    let rest = behind-next (phases s.commands) k in
    subst (λ l. IsSerial s.with l history) (rest.1 ∙ all_of-phases s.commands) (serial (all_of rest.0))

module _ (wanted : Wanted) (s : Script) (history : List Event) (x : State) where
  left-through : (k : ℕ) → IsLeftBehind wanted s (take k (phases s.commands)) history x → IsLeftAs wanted s status_is.WriteFault history x
  left-through k left = record {
    left = left.left;
    run = λ alone. ran-fault wanted s (held s.hierarchy s.with x) k (left.run alone);
    rests = λ ample. (left.idle, left.none_gone);
    serial = λ order. serial-first wanted s k history (left.serial order);
  }

  left-short : (k : ℕ) → IsLeftBehind wanted s (take k (phases s.commands)) history x → IsLeftAs wanted s status_is.NoMemory history x
  left-short k left = record {
    left = left.left;
    run = λ alone. ran-short wanted s (held s.hierarchy s.with x) k (left.run alone);
    rests = λ ample. absurd (ample refl);
    serial = λ order. serial-first wanted s k history (left.serial order);
  }

  left-into : (k : ℕ) → IsLeftWithin wanted s (take k (phases s.commands)) (phase_of s k) history x → IsLeftAs wanted s status_is.NoMemory history x
  left-into k left = record {
    left = left.left;
    run = λ alone. ran-into wanted s (held s.hierarchy s.with x) k (left.run alone);
    rests = λ ample. absurd (ample refl);
    serial = λ order. serial-next wanted s k history (left.serial order);
  }

  left-done : IsLeftBehind wanted s (phases s.commands) history x → IsLeftAs wanted s status_is.Done history x
  left-done left = record {
    left = left.left;
    run = λ alone. ran-done wanted s (held s.hierarchy s.with x) (left.run alone);
    rests = λ ample. (left.idle, left.none_gone);
    serial = λ order. subst (λ l. IsSerial s.with l history) (append-nil (all_of (phases s.commands)) ∙ all_of-phases s.commands) (left.serial order []);
  }

-- what an engine left, by the status with which the run ended
pub left-as : (wanted : Wanted) (s : Script) (status : Status) (history : List Event) (x : State) (behind : List (List Command) → Type 0) (within : List (List Command) → List Command → Type 0)
    → ((ps : List (List Command)) → behind ps → IsLeftBehind wanted s ps history x) → ((ps : List (List Command)) (phase : List Command) → within ps phase → IsLeftWithin wanted s ps phase history x)
    → (status ≡ status_is.Done) ⊎ (status ≡ status_is.WriteFault) ⊎ (status ≡ status_is.NoMemory) → HasLeft s status behind within → IsLeftAs wanted s status history x
left-as wanted s status history x behind within of-behind of-within kinds has = elim kinds [
  | inl done ↦
      let at = subst (λ (t : Status). HasLeft s t behind within) done has in
      subst (λ (t : Status). IsLeftAs wanted s t history x) (sym done) (left-done wanted s history x (of-behind (phases s.commands) at))
  | inr (inl fault) ↦
      let at = subst (λ (t : Status). HasLeft s t behind within) fault has in
      subst (λ (t : Status). IsLeftAs wanted s t history x) (sym fault) (left-through wanted s history x at.0 (of-behind (take at.0 (phases s.commands)) at.1))
  | inr (inr none) ↦
      let at = subst (λ (t : Status). HasLeft s t behind within) none has in
      subst (λ (t : Status). IsLeftAs wanted s t history x) (sym none) (short at)
]
  where
    short : HasLeft s status_is.NoMemory behind within → IsLeftAs wanted s status_is.NoMemory history x
    short (k, inl at) = left-short wanted s history x k (of-behind (take k (phases s.commands)) at)
    short (k, inr at) = left-into wanted s history x k (of-within (take k (phases s.commands)) (phase_of s k) at)

-- What the history says of settles and of settled answers.

of-roles : (s : Script) (roles : List Role) (w : World) → Inv (setting_for s.hierarchy s.with roles) w → IsRight (site_of s.with s.hierarchy) (history_in w) → IsRunSoFar s.with s.hierarchy s.commands (history_in w)
    → IsSettling (site_of s.with s.hierarchy) (history_in w)
of-roles s roles w inv right part =
    let site = site_of s.with s.hierarchy in
    let tell = settles-tell s.with s.hierarchy inv.ghost_of.placed (history_in w) inv.holds.telling.right.right.each part.pulls (record { each = λ r i is. (inv.holds.telling.rows r i is).1 }) in
    record {
      answers = settled-all site (history_in w) right;
      settles = tell;
      of_all = of-all-behind s.with s.hierarchy s.commands (history_in w) right part tell (λ p q is. (inv.holds.telling.filters p q is).1);
    }

settling-in : (wanted : Wanted) (s : Script) (w : World) → Inv (setting_of wanted s) w → IsRight (site_of s.with s.hierarchy) (history_in w) → IsRunSoFar s.with s.hierarchy s.commands (history_in w)
    → IsSettling (site_of s.with s.hierarchy) (history_in w)
settling-in wanted s w inv right part = by (on_threads wanted s) inv
  where
    by : (b : Bool) → Inv (if b then hall_setting s.hierarchy s.with (roles_of s.with) else setting_alone s) w → IsSettling (site_of s.with s.hierarchy) (history_in w)
    by true inv = of-roles s (roles_of s.with ++ own_role (roles_of s.with) ∷ []) w inv right part
    by false inv = of-roles s (roles_of s.with) w inv right part

pub leaves-run : (wanted : Wanted) (s : Script) (o : Outcome) (history : List Event) (x : State) → AreSettings s.with → IsRight (site_of s.with s.hierarchy) history → IsRunSoFar s.with s.hierarchy s.commands history
    → IsLeftAs wanted s o.status history x → IsHandedOut s.hierarchy s.with x o → LeavesRun wanted s o
leaves-run wanted s o history x settings right part left out =
    let site = site_of s.with s.hierarchy in
    let setting = setting_of wanted s in
    let w = held s.hierarchy s.with x in
    let inv : Inv setting w = subst (λ t. Inv t w) left.left.about_is (state-inv s.hierarchy s.with x left.left.state) in
    let told = left.left.told in
    let same : o.ledger.history ≡ history = ap history_in out.same ∙ told in
    let settling = settling-in wanted s w inv (subst (IsRight site) (sym told) right) (subst (IsRunSoFar s.with s.hierarchy s.commands) (sym told) part) in
    record {
      some = omega (arith, right.opened, ap length same, settings.servers.0);
      rest = out.rest;
      left = out.left;
      is_rest = record {
        about_is = out.about_is ∙ left.left.about_is;
        whole = subst (λ t. IsWhole t out.rest) left.left.about_is out.whole;
        freed = out.freed;
        reached = subst (IsReached setting) (sym out.same) inv.reached;
        run = λ alone. subst (IsRunUpTo wanted s o.status) (sym out.same) (left.run alone);
      };
      rows = subst (AreRowsKept setting) (sym out.same) (rows-kept setting w inv);
      cells = λ ample. subst (AreAllUsed setting) (sym out.same) (all-used setting w inv (left.rests ample));
      settling = subst (IsSettling site) (ap history_in (sym out.same)) settling;
      serial = λ order. subst (RunsInOrder s) (sym same) (record { part = part; serial = left.serial order });
    }
