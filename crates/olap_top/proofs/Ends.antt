-- What is known of a result or a status that is handed on.
use Rattle.std.proofs.Common.{◌≡◌, ◌∙◌, ◌⊎◌, inl, inr, Result, Ok, Err, sym, subst}
use Rattle.std.specs.Prelude.{IfOk, OnOk, OnErr}
use Rattle.olap_top.specs.declared.outcome.Status.{Status}
use Rattle.olap_top.specs.declared.outcome.Status.TheVariants as status_is

pub on_err : {T E : Type 0} (r : Result T E) (P : Type 0) → P → OnErr r P
on_err (Ok x) P p = tt
on_err (Err e) P p = p

pub on_ok : {T E : Type 0} (r : Result T E) (P : Type 0) → P → OnOk r P
on_ok (Ok x) P p = p
on_ok (Err e) P p = tt

pub if_ok-more : {T E : Type 0} (r : Result T E) (P Q : T → Type 0) (A : Type 0) → ((x : T) → P x → A → Q x) → IfOk r P → OnOk r A → IfOk r Q
if_ok-more (Ok x) P Q A f p a = f x p a
if_ok-more (Err e) P Q A f p a = tt

pub if_ok-none : {T E : Type 0} (r : Result T E) (e : E) (P : T → Type 0) → r ≡ Err e → IfOk r P
if_ok-none r e P is = subst (λ o. IfOk o P) (sym is) tt

-- of three statuses two are ruled out
pub only-done : (status : Status) → (status ≡ status_is.Done) ⊎ (status ≡ status_is.WriteFault) ⊎ (status ≡ status_is.NoMemory) → (status ≡ status_is.WriteFault → ⊥) → (status ≡ status_is.NoMemory → ⊥) → status ≡ status_is.Done
only-done status (inl done) no_fault no_shortage = done
only-done status (inr (inl fault)) no_fault no_shortage = absurd (no_fault fault)
only-done status (inr (inr shortage)) no_fault no_shortage = absurd (no_shortage shortage)

-- one that is one of two is no third
pub not-either : (status one two other : Status) → (status ≡ one) ⊎ (status ≡ two) → (one ≡ other → ⊥) → (two ≡ other → ⊥) → status ≡ other → ⊥
not-either status one two other (inl first) not_one not_two is = not_one (sym first ∙ is)
not-either status one two other (inr second) not_one not_two is = not_two (sym second ∙ is)
