-- The end of a split or a move, which holds six cells or seven: what its kind made is what the step made, with the step and its cells at
-- hand.
use Rattle.std.proofs.Common.{ℕ, ◌≡◌, List, Option, Some, sym, subst}
use Rattle.core_steps.specs.{Jobs.{job_kind, job_places}, Places.held, Steps.Went, declared.jobs.JobStep.JobStep, declared.step.Others.Others}
use Rattle.dim_hierarchy.specs.Dimension.{Dimension}
use Rattle.core_shard.specs.volap_cell.specs.{Setting.{Setting, ledger_cell, registry_cell, stock_cell}, Steps.Makes, Values.ActorValue, World.{Change, World}, declared.cell.Cell.Cell, declared.kind.Kind.Kind}

abbrev pub all_held : (third fourth fifth sixth : Cell) → (seventh : Option Cell) → Others
all_held a b c d e = record { third = Some a; fourth = Some b; fifth = Some c; sixth = Some d; seventh = e }

-- the registry, the stock and the ledger stand in their cells
pub in-place : {h : List Dimension} {kind : Kind} {a b : ActorValue} (changes : ℕ → ℕ → ℕ → List Change) {r s l : ℕ} → r ≡ registry_cell → s ≡ stock_cell → l ≡ ledger_cell → Makes h kind (changes r s l) a b
    → Makes h kind (changes registry_cell stock_cell ledger_cell) a b
in-place {h} {kind} {a} {b} changes {r} {s} {l} er es el made = subst (λ (x : ℕ). Makes h kind (changes x stock_cell ledger_cell) a b) er
    (subst (λ (x : ℕ). Makes h kind (changes r x ledger_cell) a b) es (subst (λ (x : ℕ). Makes h kind (changes r s x) a b) el made))

pub seven-went : {h : List Dimension} {Sees : Setting → World → ℕ → Type 0} {step : JobStep} (is : JobStep) {first second : Option Cell} {o : Others} {p q u v x y : Cell} {z : Option Cell} {now : List (Option Cell)} {a b : ActorValue} → step ≡ is
    → first ≡ Some p → second ≡ Some q → o.third ≡ Some u → o.fourth ≡ Some v → o.fifth ≡ Some x → o.sixth ≡ Some y → o.seventh ≡ z
    → Went h (job_kind is) Sees (job_places is) (held (Some p) (Some q) (all_held u v x y z)) now a b → Went h (job_kind step) Sees (job_places step) (held first second o) now a b
seven-went {h} {Sees} {step} is {first} {second} {o} {p} {q} {u} {v} {x} {y} {z} {now} {a} {b} same e1 e2 e3 e4 e5 e6 e7 went =
    let all : o ≡ all_held u v x y z = (λ k. record { third = e3 k; fourth = e4 k; fifth = e5 k; sixth = e6 k; seventh = e7 k }) in
    subst (λ (s : JobStep). Went h (job_kind s) Sees (job_places s) (held first second o) now a b) (sym same)
    (subst (λ (c : Option Cell). Went h (job_kind is) Sees (job_places is) (held c second o) now a b) (sym e1)
    (subst (λ (c : Option Cell). Went h (job_kind is) Sees (job_places is) (held (Some p) c o) now a b) (sym e2)
    (subst (λ (t : Others). Went h (job_kind is) Sees (job_places is) (held (Some p) (Some q) t) now a b) (sym all) went)))
