-- A run of which a summary is written when all its phases have ended.
use Rattle.std.proofs.{Common.{◌≡◌, ◌∙◌, ◌+◌, ◌≤◌, ℕ, Bool, true, List, [], length, take, sym, ap, subst, arith}, lemmas.List.take_all}
use Rattle.std.specs.{Io.KnownBytes.Appends, Prelude.{IsTrue, Option, if◌then◌else◌}}
use Rattle.answer_text.specs.Printed.{told}
use Rattle.row_ledger.specs.declared.event.Event.{Event}
use Rattle.script_form.specs.{declared.script.Command.Command, declared.script.Script.Script}
use Rattle.script_run.proofs.PhaseFacts.{all_of-phases}
use Rattle.script_run.specs.{Phases.{all_of, phases, phases_to}, Places.{are_over, is_over_at, places}, Runs.{InsertEnds, IsRunSoFar}}
use Rattle.olap_top.specs.{Outcomes.{HasRun, RanInto, TookPart, asked_text}, RunSoFar.tells_phases, declared.wanted.Wanted.Wanted, declared.wanted.Wanted.TheVariants.Load}
use Rattle.olap_top.proofs.{Asked.asked-told, PhaseSteps.Appends-more, Zips.AllZip-weaker}

-- What phases wrote: all that is asked for, or nothing.

pub wrote-all : (wanted : Wanted) (s : Script) (taken_before taken_now : Option (List ℕ)) (history : List Event) (telling : Bool) → telling ≡ tells_phases wanted → tells_phases wanted ≡ true
    → Appends taken_before taken_now (if telling then told s.with s.commands history else []) → Appends taken_before taken_now (asked_text wanted s history)
wrote-all wanted s taken_before taken_now history telling same tells took =
    subst (Appends taken_before taken_now) (sym (asked-told wanted s history tells)) (subst (λ b. Appends taken_before taken_now (if b then told s.with s.commands history else [])) (same ∙ tells) took)

pub wrote-none : (rows seed : ℕ) (threads : Bool) (s : Script) (taken_before taken_now : Option (List ℕ)) (history : List Event) (telling : Bool) → telling ≡ tells_phases (Load rows seed threads)
    → Appends taken_before taken_now (if telling then told s.with s.commands history else []) → Appends taken_before taken_now []
wrote-none rows seed threads s taken_before taken_now history telling same took =
    subst (λ b. Appends taken_before taken_now (if b then told s.with s.commands history else [])) same took

-- The sink failed in the summary behind that.
pub part-behind : (taken_before taken_middle taken_now : Option (List ℕ)) (text : List ℕ) → Appends taken_before taken_middle [] → TookPart taken_middle taken_now text → TookPart taken_before taken_now text
part-behind taken_before taken_middle taken_now text none part = record {
  count = part.count;
  part = part.part;
  took = Appends-more taken_before taken_middle taken_now [] (take part.count text) none part.took;
}

-- as many phases as there are, or more, are all commands
all-phases : (cs : List Command) (k : ℕ) → length (phases cs) ≤ k → phases_to k cs ≡ cs
all-phases cs k all = ap all_of (take_all k (phases cs) all) ∙ all_of-phases cs

-- A run to the end of which no summary was written.
pub ran-all : (rows seed : ℕ) (threads : Bool) (s : Script) (taken_before taken_now : Option (List ℕ)) (history : List Event) → HasRun s.with s.hierarchy s.commands history → Appends taken_before taken_now []
    → RanInto (Load rows seed threads) s taken_before taken_now history
ran-all rows seed threads s taken_before taken_now history ran took = record {
  phase = length (phases s.commands);
  right = ran.right;
  run = record {
    part = subst (λ l. IsRunSoFar s.with s.hierarchy l history) (sym (all-phases s.commands (length (phases s.commands) + 1) (omega arith))) ran.run.part;
    over = subst (λ l. IsTrue (are_over history (places s.with l history))) (sym (all-phases s.commands (length (phases s.commands)) (omega arith))) ran.run.over;
  };
  inserts = AllZip-weaker (InsertEnds s.hierarchy history) (λ c p. IsTrue (is_over_at history p) → InsertEnds s.hierarchy history c p) s.commands (places s.with s.commands history) (λ c p ends over. ends) ran.inserts;
  took = took;
}
