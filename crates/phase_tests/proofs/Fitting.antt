-- The first phase of commands that fit, and the rest.
use Rattle.std.proofs.{Common.{◌≡◌, ◌∙◌, ℕ, zero, suc, ◌+◌, ◌-◌, ◌<◌, ◌≤◌, inl, inr, true, false, List, [], ◌∷◌, length, take, drop, Some, slice_get, refl, sym, ap, subst, arith}, lemmas.{Bool.{cases_lt, false≢true}, List.length-take-le, List.Elements.{All-head, All-tail}, Option.slice_get_within}}
use Rattle.std.specs.Prelude.{All}
use Rattle.dim_hierarchy.specs.Dimension.{Dimension}
use Rattle.row_ledger.specs.declared.settings.Use.{Use}
use Rattle.script_form.specs.{Fits.Fits, declared.script.Command.Command, declared.script.Script.Script}
use Rattle.script_form.specs.declared.script.Command.TheVariants.{Control, Group, Insert, Query}
use Rattle.script_run.specs.{Phases.closes, Streams.NoneCloses}
use Rattle.hall_hands.specs.seat_steps.specs.declared.floor.Floor.{Floor}
use Rattle.threaded_run.specs.Streams.{AllFit, ClosesLast, FitsFloor}

-- Lists.

get-take : (cs : List Command) (n i : ℕ) (c : Command) → slice_get (take n cs) i ≡ Some c → (slice_get cs i ≡ Some c) × (i < n)
get-take [] zero i c at = cc
get-take [] (suc n) i c at = cc
get-take (x ∷ cs) zero i c at = cc
get-take (x ∷ cs) (suc n) zero c at = (at, omega arith)
get-take (x ∷ cs) (suc n) (suc i) c at = (let rest = get-take cs n i c at in (rest.0, (let low = rest.1 in omega (arith, low))))

in-take : (cs : List Command) (n i : ℕ) (c : Command) → i < n → slice_get cs i ≡ Some c → slice_get (take n cs) i ≡ Some c
in-take [] n i c low at = cc
in-take (x ∷ cs) zero i c low at = absurd (omega (arith, low))
in-take (x ∷ cs) (suc n) zero c low at = at
in-take (x ∷ cs) (suc n) (suc i) c low at = in-take cs n i c (omega (arith, low)) at

get-drop : (cs : List Command) (n i : ℕ) (c : Command) → slice_get (drop n cs) i ≡ Some c → slice_get cs (n + i) ≡ Some c
get-drop [] zero i c at = cc
get-drop [] (suc n) i c at = cc
get-drop (x ∷ cs) zero i c at = (let same : i ≡ 0 + i = omega arith in subst (λ (k : ℕ). slice_get (x ∷ cs) k ≡ Some c) same at)
get-drop (x ∷ cs) (suc n) i c at = (let same : suc (n + i) ≡ suc n + i = omega arith in subst (λ (k : ℕ). slice_get (x ∷ cs) k ≡ Some c) same (get-drop cs n i c at))

none-at : (cs : List Command) → NoneCloses cs → (i : ℕ) (c : Command) → slice_get cs i ≡ Some c → closes c ≡ false
none-at [] none i c at = absurd (cc)
none-at (x ∷ cs) none zero c at = (let same : x ≡ c = cc in sym (ap closes same) ∙ none.0)
none-at (x ∷ cs) none (suc i) c at = none-at cs none.1 i c at

-- The first phase.

pub closes-last : (cs : List Command) (n : ℕ) → 0 < n → n ≤ length cs → NoneCloses (take (n - 1) cs) → ClosesLast (take n cs)
closes-last cs n some within none i c at closed =
    let there = get-take cs n i c at in
    let low = there.1 in
    let count : length (take n cs) ≡ n = length-take-le n cs within in
    elim (cases_lt i (n - 1)) [
      | inl early ↦ absurd (false≢true (sym (none-at (take (n - 1) cs) none i c (in-take cs (n - 1) i c early there.0)) ∙ closed))
      | inr late ↦ omega (arith, low, late, count, some)
    ]

pub first-fit : (f : Floor) (cs : List Command) (n : ℕ) → AllFit f cs → AllFit f (take n cs)
first-fit f cs n fit i c at = fit i c (get-take cs n i c at).0

pub rest-fit : (f : Floor) (cs : List Command) (n : ℕ) → AllFit f cs → AllFit f (drop n cs)
rest-fit f cs n fit i c at = fit (n + i) c (get-drop cs n i c at)

-- A script's commands fit the hall that is opened for it.

of-get : {A : Type 0} (P : A → Type 0) (xs : List A) (i : ℕ) (x : A) → All P xs → slice_get xs i ≡ Some x → P x
of-get P [] i x all at = cc
of-get P (y ∷ ys) zero x all at = (let same : y ≡ x = cc in subst P same (All-head P y ys all))
of-get P (y ∷ ys) (suc i) x all at = of-get P ys i x (All-tail P y ys all) at

one-fits : (s : Script) (f : Floor) → f.with ≡ s.with → f.hierarchy ≡ s.hierarchy → (c : Command) → Fits s c → FitsFloor f c
one-fits s f with h (Insert new) fits = subst (λ (x : Use × List Dimension). Fits (record { with = x.0; hierarchy = x.1; commands = [] }) (Insert new)) (λ i. (sym with i, sym h i)) fits
one-fits s f with h (Query question) fits = subst (λ (x : Use × List Dimension). Fits (record { with = x.0; hierarchy = x.1; commands = [] }) (Query question)) (λ i. (sym with i, sym h i)) fits
one-fits s f with h (Control call) fits = subst (λ (x : Use × List Dimension). Fits (record { with = x.0; hierarchy = x.1; commands = [] }) (Control call)) (λ i. (sym with i, sym h i)) fits
one-fits s f with h (Group dim level filter) fits = subst (λ (x : Use × List Dimension). Fits (record { with = x.0; hierarchy = x.1; commands = [] }) (Group dim level filter)) (λ i. (sym with i, sym h i)) fits

pub script-fits : (s : Script) (f : Floor) → f.with ≡ s.with → f.hierarchy ≡ s.hierarchy → All (Fits s) s.commands → AllFit f s.commands
script-fits s f with h all i c at = one-fits s f with h c (of-get (Fits s) s.commands i c all at)
