-- What is known of an index.
use Rattle.std.proofs.{Common.{◌≡◌, ◌∙◌, ℕ, ◌<◌, ◌-◌, Bool, true, List, [], ◌∷◌, ◌++◌, zero, suc, get_or, length, take, drop, refl, reverse, sym, ap, subst, arith}, lemmas.List.{reverse-append, take-append-drop, take-append-le, take_all}, lemmas.Option.slice_get-get_or}
use Rattle.std.specs.Prelude.{Some, slice_get}
use Rattle.dim_hierarchy.specs.Dimension.{Dimension}
use Rattle.measure_agg.specs.Aggregate.{Aggregate}
use Rattle.row_ledger.proofs.Growth.{IsRight-kept}
use Rattle.row_ledger.specs.{Right.{EachEvent, IsRight, Stands}, Site.site_of, declared.event.Event.Event, declared.event.Event.TheVariants.Answered, declared.settings.Use.Use}
use Rattle.script_form.specs.declared.script.Command.{Command}
use Rattle.script_run.proofs.{Between.through-law, Whole.serial_law}
use Rattle.script_run.specs.{Between.{IsInOrder, IsThrough}, Places.places, Runs.BeginsAt}
use Rattle.olap_top.specs.seeded_run.specs.{Kept.IsBetween, Phase.{IsCoreHeld, MayAllRun, MayRun, about, held}}
use Rattle.olap_top.specs.volap_cell.specs.declared.state.State.{State}
use Rattle.olap_top.proofs.{Handing.held-inv, InsertsEnd.inserts-over}
use Rattle.library_runs.specs.{Index.{AnswersLast, IsHeld, IsRightIndex, alone, history_of}, declared.index.Index.Index}
use Rattle.library_runs.proofs.Alone.{AreOfOne, answers-of-all, last-begun}

-- Commands.

pub may-none : (h : List Dimension) (cells : ℕ) → MayAllRun h (alone cells) []
may-none h cells i c at = cc

pub may-more : (h : List Dimension) (cells : ℕ) (cs : List Command) (next : Command) → MayAllRun h (alone cells) cs → MayRun h (alone cells) next → MayAllRun h (alone cells) (cs ++ next ∷ [])
may-more h cells [] next all one zero c at = let same : next ≡ c = cc in subst (MayRun h (alone cells)) same one
may-more h cells [] next all one (suc i) c at = cc
may-more h cells (d ∷ cs) next all one zero c at = all 0 c at
may-more h cells (d ∷ cs) next all one (suc i) c at = may-more h cells cs next (λ j e there. all (suc j) e there) one i c at

-- an index as it opens
pub opened : (h : List Dimension) (cells : ℕ) (with : Use) (commands : List Command) (state : State) → with ≡ alone cells → commands ≡ [] → IsCoreHeld h with state
    → ((b : Bool) → IsBetween b (about h with state) with [] (held h with state)) → IsHeld record { hierarchy = h; cells = cells; commands = commands; state = state }
opened h cells with commands state with_is none core between = record {
  core = subst (λ (w : Use). IsCoreHeld h w state) with_is core;
  may_run = subst (MayAllRun h (alone cells)) (sym none) (may-none h cells);
  between =
      subst (λ (l : List Command). IsBetween true (about h (alone cells) state) (alone cells) l (held h (alone cells) state)) (sym none)
      (subst (λ (w : Use). IsBetween true (about h w state) w [] (held h w state)) with_is (between true));
}

-- A phase of one command.

-- two parts of a list are the whole of it
pub split-whole : (n : ℕ) (before phase slice commands : List Command) → before ≡ take n slice → phase ≡ drop n slice → slice ≡ commands → before ++ phase ≡ commands
split-whole n before phase slice commands front back same = ap (λ (l : List Command). l ++ phase) front ∙ ap (λ (l : List Command). take n slice ++ l) back ∙ take-append-drop n slice ∙ same

-- in front of the last command stand those that are done
pub split-done : (n : ℕ) (before slice commands done : List Command) (next : Command) → before ≡ take n slice → slice ≡ commands → commands ≡ done ++ next ∷ [] → n ≡ length done → before ≡ done
split-done n before slice commands done next front same pushed count =
    front
    ∙ ap (λ (l : List Command). take n l) (same ∙ pushed)
    ∙ ap (λ k. take k (done ++ next ∷ [])) count
    ∙ take-append-le (length done) done (next ∷ []) (omega arith)
    ∙ take_all (length done) done (omega arith)

pub may-go-on : (x : Index) (next : Command) (with : Use) (all : List Command) → IsHeld x → MayRun x.hierarchy (alone x.cells) next → with ≡ alone x.cells → all ≡ x.commands ++ next ∷ []
    → MayAllRun x.hierarchy with all
may-go-on x next with all is may with_is pushed =
    subst (λ (w : Use). MayAllRun x.hierarchy w all) (sym with_is) (subst (MayAllRun x.hierarchy (alone x.cells)) (sym pushed) (may-more x.hierarchy x.cells x.commands next is.may_run may))

pub still-between : (x : Index) (with : Use) (before : List Command) → IsHeld x → with ≡ alone x.cells → before ≡ x.commands → IsBetween true (about x.hierarchy with x.state) with before (held x.hierarchy with x.state)
still-between x with before is with_is before_is =
    let h = x.hierarchy in
    subst (λ (w : Use). IsBetween true (about h w x.state) w before (held h w x.state)) (sym with_is)
    (subst (λ (l : List Command). IsBetween true (about h (alone x.cells) x.state) (alone x.cells) l (held h (alone x.cells) x.state)) (sym before_is) is.between)

-- an index behind one command more
pub gone-on : (x : Index) (next : Command) (with : Use) (commands before phase : List Command) (state : State) → IsHeld x → MayRun x.hierarchy (alone x.cells) next → with ≡ alone x.cells
    → commands ≡ x.commands ++ next ∷ [] → before ++ phase ≡ commands → IsCoreHeld x.hierarchy with state → about x.hierarchy with state ≡ about x.hierarchy with x.state
    → IsBetween true (about x.hierarchy with x.state) with (before ++ phase) (held x.hierarchy with state) → IsHeld record { hierarchy = x.hierarchy; cells = x.cells; commands = commands; state = state }
gone-on x next with commands before phase state is may with_is pushed split core about_is between =
    let h = x.hierarchy in
    record {
      core = subst (λ (w : Use). IsCoreHeld h w state) with_is core;
      may_run = subst (MayAllRun h (alone x.cells)) (sym pushed) (may-more h x.cells x.commands next is.may_run may);
      between =
          subst (λ (w : Use). IsBetween true (about h w state) w commands (held h w state)) with_is
          (subst (λ (l : List Command). IsBetween true (about h with state) with l (held h with state)) split
          (subst (λ s. IsBetween true s with (before ++ phase) (held h with state)) (sym about_is) between));
    }

-- Its history.

pub right-index : (x : Index) → IsHeld x → IsRightIndex x
right-index x is =
    let h = x.hierarchy in
    let commands = x.commands in
    let with = alone x.cells in
    let history = history_of x in
    let inv = held-inv h with x.state is.core in
    let placed = inv.ghost_of.placed in
    let each : EachEvent (Stands (site_of with h) placed) history = inv.holds.telling.right.right.each in
    let right : IsRight (site_of with h) history = IsRight-kept (site_of with h) placed history inv.holds.telling.right in
    let order = is.between.ordered refl in
    let run = through-law with h commands history is.between.through in
    let one : AreOfOne history = record {
      inserts = λ p i at. (let low : i.server < 1 = (inv.holds.telling.rows p i at).1 in omega (arith, low));
      queries = λ p q at. (let low : q.server < 1 = (inv.holds.telling.filters p q at).1 in omega (arith, low));
    } in
    record {
      ran = record {
        right = right;
        run = run;
        inserts = inserts-over (site_of with h) placed with h history each commands (places with commands history) run.part.begun run.over;
      };
      serial = serial_law with h commands history order;
      all = answers-of-all with h commands placed history each right order one;
    }

-- the last of the events in their order is the newest one
pub last-newest : (events : List Event) (e : Event) → slice_get events (length events - 1) ≡ Some e → (past : List Event) × (reverse events ≡ e ∷ past)
last-newest [] e at = cc
last-newest (x ∷ []) e at = ([], let same : x ≡ e = cc in ap (λ (y : Event). y ∷ []) same)
last-newest (x ∷ y ∷ rest) e at =
    let n : length (x ∷ y ∷ rest) - 1 ≡ suc (length rest) = omega arith in
    let m : length (y ∷ rest) - 1 ≡ length rest = omega arith in
    let there : slice_get (x ∷ y ∷ rest) (suc (length rest)) ≡ Some e = subst (λ k. slice_get (x ∷ y ∷ rest) k ≡ Some e) n at in
    let before = last-newest (y ∷ rest) e (subst (λ k. slice_get (y ∷ rest) k ≡ Some e) (sym m) there) in
    (before.0 ++ x ∷ [], reverse-append (x ∷ []) (y ∷ rest) ∙ ap (λ l. l ++ x ∷ []) before.1)

-- and the newest one is the last of them
pub newest-last : (events : List Event) (e : Event) (past : List Event) → reverse events ≡ e ∷ past → slice_get events (length events - 1) ≡ Some e
newest-last [] e past is = cc
newest-last (x ∷ rest) e past is =
    let last : Event = get_or (x ∷ rest) (length (x ∷ rest) - 1) e in
    let at : slice_get (x ∷ rest) (length (x ∷ rest) - 1) ≡ Some last = slice_get-get_or (x ∷ rest) (length (x ∷ rest) - 1) e (omega arith) in
    let newest = last-newest (x ∷ rest) last at in
    at ∙ ap Some (same-head last e newest.0 past (sym newest.1 ∙ is))
  where
    same-head : (a b : Event) (xs ys : List Event) → a ∷ xs ≡ b ∷ ys → a ≡ b
    same-head a b xs ys same = cc

-- the newest answer is of all, and to the last command
pub answers-last : (x : Index) (of : ℕ) (answer : Aggregate) (past : List Event) → IsHeld x → history_of x ≡ Answered of answer ∷ past → AnswersLast x answer
answers-last x of answer past is newest =
    let h = x.hierarchy in
    let with = alone x.cells in
    let inv = held-inv h with x.state is.core in
    let placed = inv.ghost_of.placed in
    let each : EachEvent (Stands (site_of with h) placed) (Answered of answer ∷ past) = subst (EachEvent (Stands (site_of with h) placed)) newest inv.holds.telling.right.right.each in
    let stands = each.0 in
    record {
      of = of;
      past = past;
      newest = newest;
      query = stands.query;
      asked = stands.asked;
      all = (right-index x is).all [] past of answer stands.query newest stands.asked;
      last = λ done c split.
          subst (λ (l : List Event). BeginsAt with h l c (Some of)) (sym newest)
          (last-begun with h done c placed past of answer stands.query each
          (subst (λ (l : List Event). IsInOrder with h (done ++ c ∷ []) l) newest (subst (λ (l : List Command). IsInOrder with h l (history_of x)) split (is.between.ordered refl)))
          (subst (λ (l : List Event). IsThrough with h (done ++ c ∷ []) l) newest (subst (λ (l : List Command). IsThrough with h l (history_of x)) split is.between.through))
          stands.asked);
    }
