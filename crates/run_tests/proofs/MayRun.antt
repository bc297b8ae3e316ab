-- Commands of which each may run, and the first ones of them.
use Rattle.std.proofs.{Common.{◌≡◌, ◌∙◌, ◌+◌, ◌-◌, ◌<◌, ◌≤◌, ℕ, zero, suc, List, [], ◌∷◌, ◌++◌, length, take, drop, get_or, sym, ap, subst, arith}, lemmas.List.{length-drop, take-append-drop, take_more}, lemmas.List.Elements.All-push}
use Rattle.std.specs.Prelude.{All, Result, Ok, Err, OnOk, Some, slice_get}
use Rattle.dim_hierarchy.specs.Dimension.{Dimension}
use Rattle.row_ledger.specs.declared.settings.Use.{Use}
use Rattle.script_form.specs.{Fits.AreSettings, declared.script.Command.Command}
use Rattle.library_runs.specs.seeded_run.specs.Phase.{MayAllRun}

-- Lists of which each item is so.

pub all-more : {A : Type 0} (P : A → Type 0) (xs : List A) (k : ℕ) (x : A) → k < length xs → x ≡ get_or xs k x → All P (take k xs) → P x → All P (take (k + 1) xs)
all-more P xs k x lt is all here = subst (All P) (sym (take_more xs k x lt ∙ ap (λ z. take k xs ++ z ∷ []) (sym is))) (All-push P (take k xs) x all here)

pub all-pushed : {A E : Type 0} {U : Type 0} (P : A → Type 0) (r : Result U E) (xs ys : List A) (x : A) → OnOk r (ys ≡ xs ++ x ∷ []) → All P xs → P x → OnOk r (All P ys)
all-pushed P (Ok u) xs ys x is all here = subst (All P) (sym is) (All-push P xs x all here)
all-pushed P (Err e) xs ys x is all here = tt

-- Of commands of which each may run, so may the first.

get-take : (k : ℕ) (cs : List Command) (i : ℕ) (c : Command) → slice_get (take k cs) i ≡ Some c → slice_get cs i ≡ Some c
get-take zero cs i c at = cc
get-take (suc k) [] i c at = cc
get-take (suc k) (d ∷ cs) zero c at = at
get-take (suc k) (d ∷ cs) (suc i) c at = get-take k cs i c at

pub may-take : (h : List Dimension) (with : Use) (cs : List Command) (k : ℕ) → MayAllRun h with cs → MayAllRun h with (take k cs)
may-take h with cs k may = λ i c at. may i c (get-take k cs i c at)

get-front : (front back : List Command) (i : ℕ) (c : Command) → slice_get front i ≡ Some c → slice_get (front ++ back) i ≡ Some c
get-front [] back i c at = cc
get-front (d ∷ front) back zero c at = at
get-front (d ∷ front) back (suc i) c at = get-front front back i c at

pub may-front : (h : List Dimension) (with : Use) (front back : List Command) → MayAllRun h with (front ++ back) → MayAllRun h with front
may-front h with front back may = λ i c at. may i c (get-front front back i c at)

-- A phase's last command alone may close it.

-- How far such a phase goes, and what may run of it.

pub ends-within : (all back : List Command) (n k : ℕ) → n ≤ length all → back ≡ drop n all → k ≤ length back → n + k ≤ length all
ends-within all back n k low is within = (let behind : length back ≡ length (drop n all) = ap length is in omega (arith, length-drop n all, behind, low, within))

pub may-split : (h : List Dimension) (with : Use) (front back all : List Command) (n : ℕ) → front ≡ take n all → back ≡ drop n all → MayAllRun h with all → MayAllRun h with (front ++ back)
may-split h with front back all n front_is back_is may =
    let whole : front ++ back ≡ all = ap (λ l. l ++ back) front_is ∙ ap (λ l. take n all ++ l) back_is ∙ take-append-drop n all in
    subst (MayAllRun h with) (sym whole) may
