-- An administrator's cells: some go between the stock, its purse and what its job has spent, each cell being in one of these as often as
-- before; a spare has a stamp that it had, or one that wasn't given out. That keeps what the invariant says of cells and stamps.
use Rattle.std.proofs.{Common.{◌≡◌, ◌≢◌, ℕ, ◌+◌, ◌^◌, ◌<◌, ◌≤◌, Bool, true, false, cond, eqb, leb, List, [], ◌∷◌, ◌++◌, Option, Some, refl, sym, ap, ◌∙◌, subst, ◌⊎◌, inl, inr, arith, map, All, ◌||◌}, lemmas.Bool.{leb-false, leb-true, eqb-true, eqb-false, ne_eqb}, lemmas.List.map-append, lemmas.List.Elements.{All-cons, All-nil}}
use Rattle.std.specs.List.{AllByRecursion, IsDistinct}
use Rattle.cell_stock.specs.{Stock.{IsStock, StockValue, cells_of, stamps_of}, declared.purse.Spare.Spare}
use Rattle.dc_node.specs.{declared.entry.Entry.Entry, declared.todo.Item.Item}
use Rattle.core_tree.specs.shard_store.specs.{declared.gate.Phase.Phase, declared.gate.Phase.TheVariants.Gone}
use Rattle.list_words.specs.Counts.{Among, Each, times}
use Rattle.list_words.proofs.{Each.{each-among, each-both, each-map, each-append, each-here}, Times.{times-append, same_is}, Truth.{eqb-self, on_bool}}
use Rattle.core_tree.specs.tree_shape.specs.{Queries.NoneWaits, Shape.{Node, Shape, nodes}, Steps.{AreApart, AreSpares, IsSpare}}
use Rattle.core_tree.specs.volap_cell.specs.{Ghost.{AGate, Ghost, InJob, InPurse, InTree, NotOfStock, Owner, Unused, is_in_job, is_in_purse, is_in_tree, is_unused}, Invariant.InvWith, Owing.one_if, Setting.{Setting, cell_count, first_stock_cell}, Stocking.{IsWhole, LeavesStamp, Stamping, Stocking, all_items, all_spares, cells_at, items_in, items_of_job, items_of_read, spent_of}, Values.{JobValue, StageValue}, View.{View, view}, World.World}
use Rattle.core_tree.specs.volap_cell.proofs.{Cells.Blanks.{spare-owner, spent-owner}, Cells.Spares.among-cells, Views.Fields.IsNewAt}
use Rattle.core_admin.proofs.Collecting.FrozenGates.{spares-each}

-- Lists of spares.

-- no cell and no stamp stands twice
abbrev pub AreDistinct : List Spare → Type 0
AreDistinct [] = Unit {0}
AreDistinct (x ∷ xs) = Each (AreApart x) xs × AreDistinct xs

spares-from : (g : Shape) (look : ℕ → Node) (xs : List Spare) → Each (IsSpare g look) xs → AreDistinct xs → AreSpares g look xs
spares-from g look [] e d = tt
spares-from g look (x ∷ xs) e d = (e.0, d.0, spares-from g look xs e.1 d.1)

each-differs : (f : Spare → ℕ) (y : ℕ) (xs : List Spare) → times y (map f xs) ≡ 0 → Each (λ (x : Spare). y ≢ f x) xs
each-differs f y [] z = tt
each-differs f y (x ∷ xs) z = ((λ e. let s = same_is y (f x) e in absurd (omega (arith, z, s))), each-differs f y xs (omega (arith, z)))

distinct-spares : (xs : List Spare) → ((y : ℕ) → times y (cells_of xs) ≤ 1) → ((y : ℕ) → times y (stamps_of xs) ≤ 1) → AreDistinct xs
distinct-spares [] cells stamps = tt
distinct-spares (x ∷ xs) cells stamps = (
  each-both (λ (y : Spare). x.cell ≢ y.cell) (λ (y : Spare). x.stamp ≢ y.stamp) (AreApart x) xs (λ y p q. (p, q))
      (each-differs (λ (y : Spare). y.cell) x.cell xs (let k = cells x.cell in let s = same_is x.cell x.cell refl in omega (arith, k, s)))
      (each-differs (λ (y : Spare). y.stamp) x.stamp xs (let k = stamps x.stamp in let s = same_is x.stamp x.stamp refl in omega (arith, k, s))),
  distinct-spares xs (λ y. let k = cells y in omega (arith, k)) (λ y. let k = stamps y in omega (arith, k)),
)

each-cell : (P : ℕ → Type 0) (xs : List Spare) → ((y : ℕ) → 1 ≤ times y (cells_of xs) → P y) → Each (λ (x : Spare). P x.cell) xs
each-cell P [] f = tt
each-cell P (x ∷ xs) f = (f x.cell (let s = same_is x.cell x.cell refl in omega (arith, s)), each-cell P xs (λ y some. f y (omega (arith, some))))

times-cells : (y : ℕ) (xs ys : List Spare) → times y (cells_of (xs ++ ys)) ≡ times y (cells_of xs) + times y (cells_of ys)
times-cells y xs ys = ap (times y) (map-append (λ (x : Spare). x.cell) xs ys) ∙ times-append y (cells_of xs) (cells_of ys)

-- numbers of a list that are counted once at most, and below a bound

none-equal : (x : ℕ) (ys : List ℕ) → times x ys ≡ 0 → AllByRecursion (λ y. eqb x y ≡ false) ys
none-equal x [] z = tt
none-equal x (y ∷ ys) z = (on_bool (eqb x y) (λ q. let s = same_is x y (eqb-true _ _ q) in absurd (omega (arith, z, s))) (λ q. q), none-equal x ys (omega (arith, z)))

distinct-times : (xs : List ℕ) → ((y : ℕ) → times y xs ≤ 1) → IsDistinct eqb xs
unfolding IsDistinct
distinct-times [] once = tt
distinct-times (x ∷ xs) once = (none-equal x xs (let k = once x in let s = same_is x x refl in omega (arith, k, s)), distinct-times xs (λ y. let k = once y in omega (arith, k)))

all-times : (P : ℕ → Type 0) (xs : List ℕ) → ((y : ℕ) → 1 ≤ times y xs → P y) → All P xs
all-times P [] f = All-nil P
all-times P (x ∷ xs) f = All-cons P x xs (f x (let k = same_is x x refl in omega (arith, k))) (all-times P xs (λ y some. f y (omega (arith, some))))

-- Owners.

one-use : (n : ℕ) (o : Owner) → one_if (is_unused o) + (one_if (is_in_purse n o) + one_if (is_in_job n o)) ≤ 1
one-use n NotOfStock = omega arith
one-use n Unused = omega arith
one-use n (InPurse a) = on_bool (eqb a n) (λ q. (rw q (omega arith))) (λ q. (rw q (omega arith)))
one-use n AGate = omega arith
one-use n (InTree c) = omega arith
one-use n (InJob a) = on_bool (eqb a n) (λ q. (rw q (omega arith))) (λ q. (rw q (omega arith)))

-- a cell that was free, in the purse, or spent by the job
abbrev pub WasSpare : ℕ → Owner → Type 0
WasSpare n o = (o ≡ Unused) ⊎ (o ≡ InPurse n) ⊎ (o ≡ InJob n)

was-spare : (n : ℕ) (o : Owner) → 1 ≤ one_if (is_unused o) + (one_if (is_in_purse n o) + one_if (is_in_job n o)) → WasSpare n o
was-spare n NotOfStock le = absurd (omega arith)
was-spare n Unused le = inl refl
was-spare n (InPurse a) le = on_bool (eqb a n) (λ q. inr (inl (ap InPurse (eqb-true _ _ q)))) (λ q. let z : one_if (is_in_purse n (InPurse a)) ≡ 0 = ap one_if q in absurd (omega (arith, le, z)))
was-spare n AGate le = absurd (omega arith)
was-spare n (InTree c) le = absurd (omega arith)
was-spare n (InJob a) le = on_bool (eqb a n) (λ q. inr (inr (ap InJob (eqb-true _ _ q)))) (λ q. let z : one_if (is_in_job n (InJob a)) ≡ 0 = ap one_if q in absurd (omega (arith, le, z)))

-- the administrator's own
abbrev is_own : ℕ → Owner → Bool
is_own n o = is_in_purse n o || is_in_job n o

own-or : (n : ℕ) (o : Owner) → is_own n o ≡ true → (o ≡ InPurse n) ⊎ (o ≡ InJob n)
own-or n NotOfStock q = absurd (cc)
own-or n Unused q = absurd (cc)
own-or n (InPurse a) q = on_bool (eqb a n) (λ e. inl (ap InPurse (eqb-true _ _ e))) (λ e. absurd (let k : false ≡ true = rw e at q in cc))
own-or n AGate q = absurd (cc)
own-or n (InTree c) q = absurd (cc)
own-or n (InJob a) q = on_bool (eqb a n) (λ e. inr (ap InJob (eqb-true _ _ e))) (λ e. absurd (let k : false ≡ true = rw e at q in cc))

not-own : (n : ℕ) (o : Owner) → is_own n o ≡ false → (one_if (is_in_purse n o) ≡ 0) × (one_if (is_in_job n o) ≡ 0)
not-own n NotOfStock q = (refl, refl)
not-own n Unused q = (refl, refl)
not-own n (InPurse a) q = on_bool (eqb a n) (λ e. absurd (let k : true ≡ false = rw e at q in cc)) (λ e. (ap one_if e, refl))
not-own n AGate q = (refl, refl)
not-own n (InTree c) q = (refl, refl)
not-own n (InJob a) q = on_bool (eqb a n) (λ e. absurd (let k : true ≡ false = rw e at q in cc)) (λ e. (refl, ap one_if e))

-- each cell of the new purse is in it, each that is spent now is the job's, and one that was either's is free
abbrev pub reshared : List Spare → List Spare → ℕ → (ℕ → Owner) → ℕ → Owner
reshared purse spent n owner y = cond (leb 1 (times y (cells_of purse))) (InPurse n) (cond (leb 1 (times y (cells_of spent))) (InJob n) (cond (is_own n (owner y)) Unused (owner y)))

-- between the stock, the purse and what is spent
pub record Reshares (before now : StockValue) (purse spent purse_now spent_now : List Spare) : Type 0 where
  pub counts : (y : ℕ) → times y now.free + (times y (cells_of purse_now) + times y (cells_of spent_now)) ≡ times y before.free + (times y (cells_of purse) + times y (cells_of spent))
  pub later : before.stamps ≤ now.stamps
  pub few : now.stamps < 2 ^ 63
  pub ids : now.ids ≡ before.ids
  pub all : now.cells ≡ before.cells
  pub given : Each (λ (x : Spare). ((before.stamps ≤ x.stamp) × (x.stamp < now.stamps)) ⊎ Among x (purse ++ spent)) (purse_now ++ spent_now)
  pub once : (stamp : ℕ) → times stamp (stamps_of (purse_now ++ spent_now)) ≤ 1

module _ (s : Setting) (w : World) (g : Ghost) (i : InvWith s (view s w) g) (n : ℕ) (job : JobValue) (stage : StageValue) (jobs : ℕ → Option JobValue) (new : IsNewAt jobs (view s w).jobs n (Some job) (Some (record job { stage = stage })))
    (now : StockValue) (purse : List Spare) (x : Reshares (view s w).stock now ((view s w).purses n) (spent_of (Some job)) purse (spent_of (Some (record job { stage = stage })))) where
  abbrev v : View
  v = view s w

  abbrev spent_was : List Spare
  spent_was = spent_of (Some job)

  abbrev spent : List Spare
  spent = spent_of (Some (record job { stage = stage }))

  abbrev owner_now : ℕ → Owner
  owner_now = reshared purse spent n g.owner

  spent-job : (y : ℕ) → times y (cells_of spent_was) ≡ one_if (is_in_job n (g.owner y))
  spent-job y = ap (λ (o : Option JobValue). times y (cells_of (spent_of o))) (sym new.was_there) ∙ i.stocking.job n y

  uses : (y : ℕ) → times y now.free + (times y (cells_of purse) + times y (cells_of spent)) ≡ one_if (is_unused (g.owner y)) + (one_if (is_in_purse n (g.owner y)) + one_if (is_in_job n (g.owner y)))
  uses y = (let k = x.counts y in let free = i.stocking.unused y in let mine = i.stocking.purse n y in let its = spent-job y in omega (arith, k, free, mine, its))

  one : (y : ℕ) → times y now.free + (times y (cells_of purse) + times y (cells_of spent)) ≤ 1
  one y = (let k = uses y in let l = one-use n (g.owner y) in omega (arith, k, l))

  on-owner : (P : Owner → Type 0) (y : ℕ) → (1 ≤ times y (cells_of purse) → WasSpare n (g.owner y) → P (InPurse n)) → (times y (cells_of purse) ≡ 0 → 1 ≤ times y (cells_of spent) → WasSpare n (g.owner y) → P (InJob n))
      → (times y (cells_of purse) ≡ 0 → times y (cells_of spent) ≡ 0 → WasSpare n (g.owner y) → is_unused (g.owner y) ≡ false → P Unused)
      → (times y (cells_of purse) ≡ 0 → times y (cells_of spent) ≡ 0 → is_own n (g.owner y) ≡ false → P (g.owner y)) → P (owner_now y)
  on-owner P y mine its free else_ = on_bool (leb 1 (times y (cells_of purse)))
      (λ q. subst (λ (b : Bool). P (cond b (InPurse n) rest)) (sym q)
      (let le = leb-true 1 (times y (cells_of purse)) q in let k = uses y in mine le (was-spare n (g.owner y) (omega (arith, le, k)))))
      (λ q. let gt = leb-false 1 (times y (cells_of purse)) q in
      let none : times y (cells_of purse) ≡ 0 = omega (arith, gt) in
      subst (λ (b : Bool). P (cond b (InPurse n) rest)) (sym q) (on_bool (leb 1 (times y (cells_of spent)))
      (λ r. subst (λ (b : Bool). P (cond b (InJob n) last)) (sym r)
      (let le = leb-true 1 (times y (cells_of spent)) r in let k = uses y in its none le (was-spare n (g.owner y) (omega (arith, le, k)))))
      (λ r. let gt2 = leb-false 1 (times y (cells_of spent)) r in
      let none2 : times y (cells_of spent) ≡ 0 = omega (arith, gt2) in
      subst (λ (b : Bool). P (cond b (InJob n) last)) (sym r) (on_bool (is_own n (g.owner y))
      (λ t. subst (λ (b : Bool). P (cond b Unused (g.owner y))) (sym t)
      (let own = own-or n (g.owner y) t in
      free none none2 (elim own [ inl p ↦ inr (inl p) | inr j ↦ inr (inr j) ]) (elim own [ inl p ↦ ap is_unused p | inr j ↦ ap is_unused j ])))
      (λ t. subst (λ (b : Bool). P (cond b Unused (g.owner y))) (sym t) (else_ none none2 t))))))
    where
      last : Owner
      last = cond (is_own n (g.owner y)) Unused (g.owner y)

      rest : Owner
      rest = cond (leb 1 (times y (cells_of spent))) (InJob n) last

  -- what tells none of the three
  as-before : (f : Owner → Bool) → f Unused ≡ false → f (InPurse n) ≡ false → f (InJob n) ≡ false → (y : ℕ) → f (owner_now y) ≡ f (g.owner y)
  as-before f a b c y =
      let was : WasSpare n (g.owner y) → false ≡ f (g.owner y) = λ spare. elim spare [ inl u ↦ sym (ap f u ∙ a) | inr more ↦ elim more [ inl p ↦ sym (ap f p ∙ b) | inr j ↦ sym (ap f j ∙ c) ] ] in
      on-owner (λ o. f o ≡ f (g.owner y)) y (λ le spare. b ∙ was spare) (λ none le spare. c ∙ was spare) (λ none none2 spare off. a ∙ was spare) (λ none none2 off. refl)

  no-spare : (y : ℕ) (o : Owner) → o ≢ Unused → o ≢ InPurse n → o ≢ InJob n → g.owner y ≡ o → WasSpare n (g.owner y) → ⊥
  no-spare y o nu np nj is spare = elim spare [ inl u ↦ nu (sym is ∙ u) | inr more ↦ elim more [ inl p ↦ np (sym is ∙ p) | inr j ↦ nj (sym is ∙ j) ] ]

  owner-kept : (y : ℕ) (o : Owner) → o ≢ Unused → o ≢ InPurse n → o ≢ InJob n → g.owner y ≡ o → owner_now y ≡ o
  owner-kept y o nu np nj is = on-owner (λ z. z ≡ o) y
      (λ le spare. absurd (no-spare y o nu np nj is spare)) (λ none le spare. absurd (no-spare y o nu np nj is spare)) (λ none none2 spare off. absurd (no-spare y o nu np nj is spare)) (λ none none2 off. is)

  owner-was : (y : ℕ) (o : Owner) → o ≢ Unused → o ≢ InPurse n → o ≢ InJob n → owner_now y ≡ o → g.owner y ≡ o
  owner-was y o nu np nj = on-owner (λ z. z ≡ o → g.owner y ≡ o) y (λ le spare e. absurd (np (sym e))) (λ none le spare e. absurd (nj (sym e))) (λ none none2 spare off e. absurd (nu (sym e))) (λ none none2 off e. e)

  free-now : (y : ℕ) → times y now.free ≡ one_if (is_unused (owner_now y))
  free-now y =
      let k = uses y in let l = one y in
      on-owner (λ o. times y now.free ≡ one_if (is_unused o)) y
      (λ le spare. omega (arith, l, le))
      (λ none le spare. omega (arith, l, le))
      (λ none none2 spare off. let some = spare-count y spare in omega (arith, k, some, none, none2))
      (λ none none2 off. let (p, j) = not-own n (g.owner y) off in omega (arith, k, none, none2, p, j))
    where
      spare-count : (y : ℕ) → WasSpare n (g.owner y) → one_if (is_unused (g.owner y)) + (one_if (is_in_purse n (g.owner y)) + one_if (is_in_job n (g.owner y))) ≡ 1
      spare-count y spare = elim spare [
        | inl u ↦ ap (λ (o : Owner). one_if (is_unused o) + (one_if (is_in_purse n o) + one_if (is_in_job n o))) u
        | inr more ↦ elim more [
          | inl p ↦ ap (λ (o : Owner). one_if (is_unused o) + (one_if (is_in_purse n o) + one_if (is_in_job n o))) p ∙ ap (λ (b : Bool). 0 + (one_if b + 0)) (eqb-self n)
          | inr j ↦ ap (λ (o : Owner). one_if (is_unused o) + (one_if (is_in_purse n o) + one_if (is_in_job n o))) j ∙ ap (λ (b : Bool). 0 + (0 + one_if b)) (eqb-self n)
        ]
      ]

  purse-now : (y : ℕ) → times y (cells_of purse) ≡ one_if (is_in_purse n (owner_now y))
  purse-now y =
      let l = one y in
      on-owner (λ o. times y (cells_of purse) ≡ one_if (is_in_purse n o)) y
      (λ le spare. let own : one_if (is_in_purse n (InPurse n)) ≡ 1 = ap one_if (eqb-self n) in omega (arith, l, le, own))
      (λ none le spare. none)
      (λ none none2 spare off. none)
      (λ none none2 off. let p = (not-own n (g.owner y) off).0 in omega (arith, none, p))

  spent-now : (y : ℕ) → times y (cells_of spent) ≡ one_if (is_in_job n (owner_now y))
  spent-now y =
      let l = one y in
      on-owner (λ o. times y (cells_of spent) ≡ one_if (is_in_job n o)) y
      (λ le spare. omega (arith, l, le))
      (λ none le spare. let own : one_if (is_in_job n (InJob n)) ≡ 1 = ap one_if (eqb-self n) in omega (arith, l, le, own))
      (λ none none2 spare off. none2)
      (λ none none2 off. let j = (not-own n (g.owner y) off).1 in omega (arith, none2, j))

  spare-within : (y : ℕ) → WasSpare n (g.owner y) → (first_stock_cell s ≤ y) × (y < cell_count s)
  spare-within y spare = i.stocking.within y (λ z. elim spare [
    | inl u ↦ (let never : Unused ≡ NotOfStock = sym u ∙ z in cc)
    | inr more ↦ elim more [ inl p ↦ (let never : InPurse n ≡ NotOfStock = sym p ∙ z in cc) | inr j ↦ (let never : InJob n ≡ NotOfStock = sym j ∙ z in cc) ]
  ])

  pub stock-valid : IsStock now
  stock-valid = record {
    known = all-times (λ y. y < now.cells) now.free (λ y some.
        let k = uses y in
        let lt = (spare-within y (was-spare n (g.owner y) (omega (arith, k, some)))).1 in
        let a = x.all in let b = i.stocking.count in omega (arith, lt, a, b));
    once = distinct-times now.free (λ y. let k = one y in omega (arith, k));
    stamps = x.few;
    ids = subst (λ (m : ℕ). m < 2 ^ 32) (sym x.ids) i.stocking.valid.ids;
  }

  -- The spares of the actor.

  abbrev mine_was : List Spare
  mine_was = v.purses n ++ spent_was

  abbrev mine_now : List Spare
  mine_now = purse ++ spent

  its-spares : all_spares v.purses v.jobs n ≡ mine_was
  its-spares = ap (λ (o : Option JobValue). v.purses n ++ spent_of o) new.was_there

  distinct-now : AreDistinct mine_now
  distinct-now = distinct-spares mine_now (λ y. let k = one y in let both = times-cells y purse spent in omega (arith, k, both)) x.once

  cells-were : Each (λ (y : Spare). WasSpare n (g.owner y.cell)) mine_now
  cells-were = each-cell (λ y. WasSpare n (g.owner y)) mine_now (λ y le. let k = uses y in let both = times-cells y purse spent in was-spare n (g.owner y) (omega (arith, k, both, le)))

  -- a spare of another actor is of its purse, or of its job
  abbrev IsOfOther : ℕ → Owner → Type 0
  IsOfOther a o = (o ≡ InPurse a) ⊎ (o ≡ InJob a)

  of-other : (a : ℕ) → Each (λ (y : Spare). IsOfOther a (g.owner y.cell)) (all_spares v.purses v.jobs a)
  of-other a = each-append (λ (y : Spare). IsOfOther a (g.owner y.cell)) (v.purses a) (spent_of (v.jobs a))
      (each-here (λ (y : Spare). IsOfOther a (g.owner y.cell)) (v.purses a) (λ y among. inl (spare-owner s w g i a y.cell (among-cells y (v.purses a) among))))
      (each-here (λ (y : Spare). IsOfOther a (g.owner y.cell)) (spent_of (v.jobs a)) (λ y among. inr (spent-owner s w g i a y.cell (among-cells y (spent_of (v.jobs a)) among))))

  two-owners : (a : ℕ) (o : Owner) → a ≢ n → WasSpare n o → IsOfOther a o → ⊥
  two-owners a o ne was of = elim was [
    | inl u ↦ elim of [ inl p ↦ (let never : Unused ≡ InPurse a = sym u ∙ p in cc) | inr j ↦ (let never : Unused ≡ InJob a = sym u ∙ j in cc) ]
    | inr more ↦ elim more [
      | inl m ↦ elim of [ inl p ↦ (let never : InPurse n ≡ InPurse a = sym m ∙ p in ne cc) | inr j ↦ (let never : InPurse n ≡ InJob a = sym m ∙ j in cc) ]
      | inr m ↦ elim of [ inl p ↦ (let never : InJob n ≡ InPurse a = sym m ∙ p in cc) | inr j ↦ (let never : InJob n ≡ InJob a = sym m ∙ j in ne cc) ]
    ]
  ]

  -- what is so of a stamp that wasn't given out, and of the actor's spares as they were, is so of those that it has now
  on-mine : (P : Spare → Type 0) → ((y : Spare) → v.stock.stamps ≤ y.stamp → y.stamp < now.stamps → P y) → Each P (all_spares v.purses v.jobs n) → Each P mine_now
  on-mine P fresh old = each-map (λ (y : Spare). ((v.stock.stamps ≤ y.stamp) × (y.stamp < now.stamps)) ⊎ Among y mine_was) P mine_now
      (λ y from. elim from [ inl new_one ↦ fresh y new_one.0 new_one.1 | inr among ↦ each-among P y mine_was (subst (Each P) its-spares old) among ]) x.given

  outside : (c y : ℕ) → IsWhole v.gates v.phases v.pins c → WasSpare n (g.owner y) → (g.shape c).inside y ≡ false
  outside c y whole was = on_bool ((g.shape c).inside y)
      (λ q. absurd (on_bool (eqb y c)
      (λ e. let own : g.owner y ≡ AGate = ap g.owner (eqb-true _ _ e) ∙ i.stocking.gate c whole.0 in no-spare y AGate (λ z. cc) (λ z. cc) (λ z. cc) own was)
      (λ e. let own = (i.stocking.tree c y whole q (eqb-false _ _ e)).0 in no-spare y (InTree c) (λ z. cc) (λ z. cc) (λ z. cc) own was)))
      (λ q. q)

  -- the stamps of what it has now are apart from those of others
  stamps-apart : (a : ℕ) → a ≢ n → Each (λ (y : Spare). Each (λ (z : Spare). y.stamp ≢ z.stamp) (all_spares v.purses v.jobs a)) mine_now
  stamps-apart a ne = on-mine (λ (y : Spare). Each (λ (z : Spare). y.stamp ≢ z.stamp) (all_spares v.purses v.jobs a))
      (λ y ge lt. each-map (λ (z : Spare). z.stamp < v.stock.stamps) (λ (z : Spare). y.stamp ≢ z.stamp) (all_spares v.purses v.jobs a) (λ z below e. absurd (omega (arith, ge, below, e))) (i.stamping.given a))
      (each-map (λ (y : Spare). Each (AreApart y) (all_spares v.purses v.jobs a)) (λ (y : Spare). Each (λ (z : Spare). y.stamp ≢ z.stamp) (all_spares v.purses v.jobs a)) (all_spares v.purses v.jobs n)
      (λ y apart. each-map (AreApart y) (λ (z : Spare). y.stamp ≢ z.stamp) (all_spares v.purses v.jobs a) (λ z both. both.1) apart) (i.stamping.apart n a (λ e. ne (sym e))))

  apart-from : (a : ℕ) → a ≢ n → Each (λ (y : Spare). Each (AreApart y) (all_spares v.purses v.jobs a)) mine_now
  apart-from a ne = each-both (λ (y : Spare). WasSpare n (g.owner y.cell)) (λ (y : Spare). Each (λ (z : Spare). y.stamp ≢ z.stamp) (all_spares v.purses v.jobs a)) (λ (y : Spare). Each (AreApart y) (all_spares v.purses v.jobs a)) mine_now
      (λ y was stamps. each-both (λ (z : Spare). IsOfOther a (g.owner z.cell)) (λ (z : Spare). y.stamp ≢ z.stamp) (AreApart y) (all_spares v.purses v.jobs a)
      (λ z of differs. ((λ e. two-owners a (g.owner z.cell) ne (subst (λ (c : ℕ). WasSpare n (g.owner c)) e was) of), differs)) (of-other a) stamps)
      cells-were (stamps-apart a ne)

  flipped : (a : ℕ) → a ≢ n → Each (λ (z : Spare). Each (AreApart z) mine_now) (all_spares v.purses v.jobs a)
  flipped a ne = turned-round (all_spares v.purses v.jobs a) mine_now (apart-from a ne)
    where
      turned-round : (zs ys : List Spare) → Each (λ (y : Spare). Each (AreApart y) zs) ys → Each (λ (z : Spare). Each (AreApart z) ys) zs
      turned-round zs [] e = each-here (λ (z : Spare). Each (AreApart z) []) zs (λ z among. tt)
      turned-round zs (y ∷ ys) e = each-both (AreApart y) (λ (z : Spare). Each (AreApart z) ys) (λ (z : Spare). Each (AreApart z) (y ∷ ys)) zs (λ z a rest. (((λ q. a.0 (sym q)), (λ q. a.1 (sym q))), rest)) e.0 (turned-round zs ys e.1)

  -- The parts. Gates that are gone are the same, and so trees that are whole.

  module _ (purses : ℕ → List Spare) (mine : purses n ≡ purse) (off : (a : ℕ) → a ≢ n → purses a ≡ v.purses a) (phases : ℕ → Option Phase) (gone-was : (c : ℕ) → phases c ≡ Some Gone → v.phases c ≡ Some Gone) (gone-now : (c : ℕ) → v.phases c ≡ Some Gone → phases c ≡ Some Gone) where
    whole-was : (c : ℕ) → IsWhole v.gates phases v.pins c → IsWhole v.gates v.phases v.pins c
    whole-was c whole = (whole.0, elim whole.1 [ inl stands ↦ inl (λ e. stands (gone-now c e)) | inr pinned ↦ inr pinned ])

    spent-off : (a : ℕ) → a ≢ n → spent_of (jobs a) ≡ spent_of (v.jobs a)
    spent-off a ne = ap spent_of (new.elsewhere a ne)

    pub reshared-stocking : Stocking s now v.made v.gates phases v.pins v.gone purses jobs owner_now g.shape
    reshared-stocking =
        let k = i.stocking in record {
          valid = stock-valid;
          count = x.all ∙ k.count;
          within = λ y ne. on-owner (λ o. o ≢ NotOfStock → (first_stock_cell s ≤ y) × (y < cell_count s)) y
              (λ le was e. spare-within y was) (λ none le was e. spare-within y was) (λ none none2 was u e. spare-within y was) (λ none none2 r e. k.within y e) ne;
          every = λ y high low no. k.every y high low (owner-was y NotOfStock (λ e. cc) (λ e. cc) (λ e. cc) no);
          unused = free-now;
          purse = λ a y. on_bool (eqb a n)
              (λ q. subst (λ (z : ℕ). times y (cells_of (purses z)) ≡ cond (is_in_purse z (owner_now y)) 1 0) (sym (eqb-true _ _ q)) (ap (λ (ss : List Spare). times y (cells_of ss)) mine ∙ purse-now y))
              (λ q. let ne = eqb-false _ _ q in ap (λ (ss : List Spare). times y (cells_of ss)) (off a ne) ∙ k.purse a y ∙ ap one_if (sym (as-before (is_in_purse a) refl (ne_eqb n a (λ e. ne (sym e))) refl y)));
          job = λ a y. on_bool (eqb a n)
              (λ q. subst (λ (z : ℕ). times y (cells_of (spent_of (jobs z))) ≡ cond (is_in_job z (owner_now y)) 1 0) (sym (eqb-true _ _ q)) (ap (λ (o : Option JobValue). times y (cells_of (spent_of o))) new.is_there ∙ spent-now y))
              (λ q. let ne = eqb-false _ _ q in ap (λ (ss : List Spare). times y (cells_of ss)) (spent-off a ne) ∙ k.job a y ∙ ap one_if (sym (as-before (is_in_job a) refl refl (ne_eqb n a (λ e. ne (sym e))) y)));
          gate = λ c is. owner-kept c AGate (λ e. cc) (λ e. cc) (λ e. cc) (k.gate c is);
          gate_back = λ c own. k.gate_back c (owner-was c AGate (λ e. cc) (λ e. cc) (λ e. cc) own);
          tree = λ c y whole yi yc. let o = k.tree c y (whole-was c whole) yi yc in (owner-kept y (InTree c) (λ e. cc) (λ e. cc) (λ e. cc) o.0, o.1);
          tree_back = λ c y own. let o = k.tree_back c y (owner-was y (InTree c) (λ e. cc) (λ e. cc) (λ e. cc) own) in (o.0, λ whole. o.1 (whole-was c whole));
          gone_cells = λ c gone y. k.gone_cells c (gone-was c gone) y ∙ ap one_if (sym (as-before (is_in_tree c) refl refl refl y));
          none_gone = λ c stands. k.none_gone c (λ e. stands (gone-now c e));
        }

    -- what is noted stays
    module _ (items : items_in stage ≡ items_in job.stage) where
      items-same : (a : ℕ) → items_of_job (jobs a) ≡ items_of_job (v.jobs a)
      items-same a = on_bool (eqb a n)
          (λ q. let e = eqb-true a n q in ap (λ (z : ℕ). items_of_job (jobs z)) e ∙ ap items_of_job new.is_there ∙ items ∙ sym (ap (λ (z : ℕ). items_of_job (v.jobs z)) e ∙ ap items_of_job new.was_there))
          (λ q. ap items_of_job (new.elsewhere a (eqb-false a n q)))

      noted-same : (a : ℕ) → all_items v.reads v.jobs a ≡ all_items v.reads jobs a
      noted-same a = ap (λ (xs : List Item). items_of_read (v.reads a) ++ xs) (sym (items-same a))

      -- the spares of the actor, and those of others
      spares-of : (P : ℕ → List Spare → Type 0) → P n mine_now → ((a : ℕ) → a ≢ n → P a (all_spares v.purses v.jobs a)) → (a : ℕ) → P a (all_spares purses jobs a)
      spares-of P its_own old a = on_bool (eqb a n)
          (λ q. subst (λ (z : ℕ). P z (all_spares purses jobs z)) (sym (eqb-true _ _ q))
          (subst (λ (ss : List Spare). P n (ss ++ spent_of (jobs n))) (sym mine) (subst (λ (o : Option JobValue). P n (purse ++ spent_of o)) (sym new.is_there) its_own)))
          (λ q. let ne = eqb-false _ _ q in subst (λ (ss : List Spare). P a (ss ++ spent_of (jobs a))) (sym (off a ne)) (subst (λ (ss : List Spare). P a (v.purses a ++ ss)) (sym (spent-off a ne)) (old a ne)))

      pub reshared-stamping : Stamping now v.blocks v.made v.trees v.gates phases v.pins purses v.reads jobs g.shape
      reshared-stamping =
          let k = i.stamping in
          let later = x.later in record {
            blocks_given = λ y made. let low = k.blocks_given y made in omega (arith, low, later);
            blocks_apart = k.blocks_apart;
            unspared = λ a y made. spares-of (λ a ss. Each (LeavesStamp y (v.blocks y).stamp) ss)
                (on-mine (LeavesStamp y (v.blocks y).stamp) (λ z ge lt ne e. let low = k.blocks_given y made in absurd (omega (arith, low, ge, e))) (k.unspared n y made))
                (λ a ne. k.unspared a y made) a;
            given = spares-of (λ a ss. Each (λ (y : Spare). y.stamp < now.stamps) ss)
                (on-mine (λ (y : Spare). y.stamp < now.stamps) (λ y ge lt. lt) (each-map (λ (y : Spare). y.stamp < v.stock.stamps) (λ (y : Spare). y.stamp < now.stamps) (all_spares v.purses v.jobs n) (λ y lt. omega (arith, lt, later)) (k.given n)))
                (λ a ne. each-map (λ (y : Spare). y.stamp < v.stock.stamps) (λ (y : Spare). y.stamp < now.stamps) (all_spares v.purses v.jobs a) (λ y lt. omega (arith, lt, later)) (k.given a));
            apart = λ a b ne. spares-of (λ a ss. a ≢ b → Each (λ (y : Spare). Each (AreApart y) (all_spares purses jobs b)) ss)
                (λ ne. spares-of (λ b ss. n ≢ b → Each (λ (y : Spare). Each (AreApart y) ss) mine_now) (λ same_one. absurd (same_one refl)) (λ b nb other. apart-from b nb) b ne)
                (λ a na ne. spares-of (λ b ss. a ≢ b → Each (λ (y : Spare). Each (AreApart y) ss) (all_spares v.purses v.jobs a)) (λ other. flipped a na) (λ b nb other. k.apart a b other) b ne)
                a ne;
            spare = λ a c whole. let was = whole-was c whole in spares-of (λ a ss. AreSpares (g.shape c) (nodes (cells_at v.blocks v.trees c)) ss)
                (spares-from (g.shape c) (nodes (cells_at v.blocks v.trees c)) mine_now
                (each-both (λ (y : Spare). WasSpare n (g.owner y.cell)) (λ (y : Spare). (b l : ℕ) → (g.shape c).inside b ≡ true → (g.shape c).level b ≡ l + 1 → Each (λ (e : Entry). e.stamp ≢ y.stamp) (nodes (cells_at v.blocks v.trees c) b).entries)
                (IsSpare (g.shape c) (nodes (cells_at v.blocks v.trees c))) mine_now
                (λ y spare unexpected. record { cell = outside c y.cell was spare; unexpected = unexpected }) cells-were
                (on-mine (λ (y : Spare). (b l : ℕ) → (g.shape c).inside b ≡ true → (g.shape c).level b ≡ l + 1 → Each (λ (e : Entry). e.stamp ≢ y.stamp) (nodes (cells_at v.blocks v.trees c) b).entries)
                (λ y ge lt. k.fresh c y.stamp was ge)
                (each-map (IsSpare (g.shape c) (nodes (cells_at v.blocks v.trees c))) (λ (y : Spare). (b l : ℕ) → (g.shape c).inside b ≡ true → (g.shape c).level b ≡ l + 1 → Each (λ (e : Entry). e.stamp ≢ y.stamp) (nodes (cells_at v.blocks v.trees c) b).entries) (all_spares v.purses v.jobs n)
                (λ y spare. spare.unexpected) (spares-each (g.shape c) (nodes (cells_at v.blocks v.trees c)) (all_spares v.purses v.jobs n) (k.spare n c was)))))
                distinct-now)
                (λ a ne. k.spare a c was) a;
            waits = λ a b. subst (λ (xs : List Item). Each (λ (y : Spare). NoneWaits y.stamp xs) (all_spares purses jobs a)) (noted-same b) (spares-of (λ a ss. Each (λ (y : Spare). NoneWaits y.stamp (all_items v.reads v.jobs b)) ss)
                (on-mine (λ (y : Spare). NoneWaits y.stamp (all_items v.reads v.jobs b)) (λ y ge lt. k.fresh_waits b y.stamp ge) (k.waits n b))
                (λ a ne. k.waits a b) a);
            fresh = λ c stamp whole le. k.fresh c stamp (whole-was c whole) (omega (arith, later, le));
            fresh_waits = λ b stamp le. subst (λ (xs : List Item). NoneWaits stamp xs) (noted-same b) (k.fresh_waits b stamp (omega (arith, later, le)));
          }
