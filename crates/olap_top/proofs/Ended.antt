-- A run that has come to the end of its phases, and what is done with it then.
use Rattle.std.proofs.{Common.{◌≡◌, ◌∙◌, ◌≤◌, ◌⊎◌, inl, inr, ℕ, List, length, take, refl, sym, ap, subst, arith}, lemmas.List.take_all}
use Rattle.std.specs.Prelude.{None}
use Rattle.row_ledger.specs.declared.event.Event.{Event}
use Rattle.script_form.specs.declared.script.{Command.Command, Script.Script}
use Rattle.script_run.specs.{Between.IsThrough, Phases.phases, Runs.IsRunSoFar}
use Rattle.olap_top.specs.{Engines.HasBeenRead, OneRun.phase_of, Outcomes.HasRun, RunSoFar.{HasLeft, IsBehind}, declared.outcome.Status.Status}
use Rattle.olap_top.specs.declared.outcome.Status.TheVariants as status_is
use Rattle.olap_top.proofs.{PhaseSteps.{has-run, part-behind}, Telling.still-through}

-- The history of all commands was read.
module _ (s : Script) (was now : List Event) (Behind : Type 0) (through : IsThrough s.with s.hierarchy s.commands was) (read : HasBeenRead s was now Behind) where
  pub ran-read : HasRun s.with s.hierarchy s.commands now
  ran-read = has-run s s.commands now None (record { through = still-through s s.commands was now read.grows read.right read.none through; right = read.right; told = tt })

  pub part-read : IsRunSoFar s.with s.hierarchy s.commands now
  part-read = ran-read.run.part

-- it stands behind all phases, however the summary ended
pub left-kinds : (s : Script) (status : Status) (Behind : List (List Command) → Type 0) (Within : List (List Command) → List Command → Type 0)
    → (status ≡ status_is.Done) ⊎ (status ≡ status_is.WriteFault) ⊎ (status ≡ status_is.NoMemory) → Behind (phases s.commands) → HasLeft s status Behind Within
left-kinds s status Behind Within kinds behind =
    let all : take (length (phases s.commands)) (phases s.commands) ≡ phases s.commands = take_all (length (phases s.commands)) (phases s.commands) (omega arith) in
    let first : Behind (take (length (phases s.commands)) (phases s.commands)) = subst Behind (sym all) behind in
    elim kinds [
      | inl done ↦ subst (λ (t : Status). HasLeft s t Behind Within) (sym done) behind
      | inr (inl fault) ↦ subst (λ (t : Status). HasLeft s t Behind Within) (sym fault) (length (phases s.commands), first)
      | inr (inr none) ↦ subst (λ (t : Status). HasLeft s t Behind Within) (sym none) (length (phases s.commands), inl first)
    ]

-- where it stands, whatever the status
pub left-stands : (s : Script) (status : Status) (Behind : List (List Command) → Type 0) (Within : List (List Command) → List Command → Type 0)
    → (status ≡ status_is.Done) ⊎ (status ≡ status_is.WriteFault) ⊎ (status ≡ status_is.NoMemory) → HasLeft s status Behind Within
    → (ps : List (List Command)) × (phase : List Command) × (Behind ps ⊎ Within ps phase)
left-stands s status Behind Within kinds has = elim kinds [
  | inl done ↦
      let at = subst (λ (t : Status). HasLeft s t Behind Within) done has in
      (phases s.commands, phase_of s 0, inl at)
  | inr (inl fault) ↦
      let at = subst (λ (t : Status). HasLeft s t Behind Within) fault has in
      (take at.0 (phases s.commands), phase_of s 0, inl at.1)
  | inr (inr none) ↦
      let at = subst (λ (t : Status). HasLeft s t Behind Within) none has in
      (take at.0 (phases s.commands), phase_of s at.0, at.1)
]
