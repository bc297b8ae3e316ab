-- The head that an entry of a directory leads to, and the directory's entries around that entry
use Rattle.std.proofs.{Common.{◌≡◌, ◌≢◌, ℕ, ◌+◌, ◌≤◌, ◌⊎◌, inl, inr, true, false, eqb, List, [], ◌∷◌, ◌++◌, refl, sym, ap, ◌∙◌, subst, arith, append_assoc}, lemmas.Bool.{eqb-true, eqb-false, ne_eqb, eq-eqb}}
use Rattle.dc_node.specs.{Entry.IsWithRow, declared.entry.Entry.Entry}
use Rattle.list_words.specs.Counts.{Each, same, times}
use Rattle.list_words.proofs.{Each.{each-left, each-right}, Times.{same_is, same_not, same-le}, Totals.total-append, Truth.on_bool}
use Rattle.tree_shape.specs.{Shape.{Node, Shape, Table}, Trees.{DirOk, EntryOk, TreeOk}}
use Rattle.tree_shape.proofs.{Cutting.Relations.{Touch, Touched, parted}, Reading.Visits.spans}

pub touched-none : (table : Table) (r c : ℕ) (es : List Entry) → Each (λ e. e.child ≢ c) es → Touched table r c es es
touched-none table r c [] h = tt
touched-none table r c (e ∷ es) h = (record { child = refl; stamp = refl; here = λ q. absurd (h.0 q); elsewhere = λ q. refl }, touched-none table r c es h.1)

pub touched-append : (table : Table) (r c : ℕ) (xs xs2 ys ys2 : List Entry) → Touched table r c xs xs2 → Touched table r c ys ys2 → Touched table r c (xs ++ ys) (xs2 ++ ys2)
touched-append table r c [] [] ys ys2 s t = t
touched-append table r c [] (x ∷ xs2) ys ys2 s t = absurd s
touched-append table r c (x ∷ xs) [] ys ys2 s t = absurd s
touched-append table r c (x ∷ xs) (x2 ∷ xs2) ys ys2 s t = (s.0, touched-append table r c xs xs2 ys ys2 s.1 t)

pub touch-row : (table : Table) (r c : ℕ) (e e2 : Entry) → e.child ≡ c → IsWithRow table.hierarchy (table.row r) e e2 → Touch table r c e e2
touch-row table r c e e2 h w = record { child = w.child; stamp = w.stamp; here = λ q. w; elsewhere = λ q. absurd (q h) }

pub touch-same : (table : Table) (r c : ℕ) (e : Entry) → e.child ≢ c → Touch table r c e e
touch-same table r c e h = record { child = refl; stamp = refl; here = λ q. absurd (h q); elsewhere = λ q. refl }

pub parted-none : (c : ℕ) (a b : Entry) (es : List Entry) → Each (λ e. e.child ≢ c) es → parted c a b es ≡ es
parted-none c a b [] h = refl
parted-none c a b (e ∷ es) h = rw (ne_eqb e.child c h.0) (ap (λ xs. e ∷ xs) (parted-none c a b es h.1))

pub parted-append : (c : ℕ) (a b : Entry) (xs ys : List Entry) → parted c a b (xs ++ ys) ≡ parted c a b xs ++ parted c a b ys
parted-append c a b [] ys = refl
parted-append c a b (e ∷ es) ys =
    let ih = parted-append c a b es ys in
    on_bool (eqb e.child c)
    (λ q. rw q (ap (λ zs. a ∷ b ∷ zs) ih))
    (λ q. rw q (ap (λ zs. e ∷ zs) ih))

module _ (g : Shape) (look : ℕ → Node) (table : Table) (tree : TreeOk g look table) (p k : ℕ) (pi : g.inside p ≡ true) (pl : g.level p ≡ k + 1)
    (e : Entry) (before behind : List Entry) (is : (look p).entries ≡ before ++ e ∷ behind) where
  dir : DirOk g look table p k
  dir = tree.dirs p k pi pl

  pub all-ok : Each (EntryOk g look table k) (before ++ e ∷ behind)
  all-ok = subst (Each (EntryOk g look table k)) is dir.entries

  pub entry_ok : EntryOk g look table k e
  entry_ok = (each-right (EntryOk g look table k) before (e ∷ behind) all-ok).0

  self_once : (x : Entry) → EntryOk g look table k x → 1 ≤ times x.child (g.group x.child)
  self_once x w = let u = w.group.walks.1 in rw u (let o = same_is x.child x.child refl in omega arith)

  pub child_in : (g.inside e.child ≡ true) × (g.level e.child ≡ k)
  child_in = entry_ok.group.cells e.child (self_once e entry_ok)

  pub child_head : g.head e.child ≡ e.child
  child_head =
      let m = entry_ok.members e.child child_in.0 child_in.1 in
      let o = self_once e entry_ok in
      on_bool (eqb (g.head e.child) e.child)
      (λ q. eqb-true _ _ q)
      (λ q. let z = same_not (g.head e.child) e.child (eqb-false _ _ q) in absurd (omega arith))

  spread : spans g e.child before + (times e.child (g.group e.child) + spans g e.child behind) ≡ same (g.above e.child (k + 1)) p
  spread = sym (total-append (λ x. times e.child (g.group x.child)) before (e ∷ behind)) ∙ ap (spans g e.child) (sym is) ∙ dir.each e.child child_in.0 child_in.1

  pub child_above : g.above e.child (k + 1) ≡ p
  child_above =
      let s = spread in
      let o = self_once e entry_ok in
      on_bool (eqb (g.above e.child (k + 1)) p)
      (λ q. eqb-true _ _ q)
      (λ q. let z = same_not _ _ (eqb-false _ _ q) in absurd (omega arith))

  none-child : (es : List Entry) → Each (EntryOk g look table k) es → spans g e.child es ≡ 0 → Each (λ x. x.child ≢ e.child) es
  none-child [] w z = tt
  none-child (x ∷ es) w z =
      let ne : x.child ≢ e.child = (λ q. let o = self_once x w.0 in let o2 : 1 ≤ times e.child (g.group x.child) = subst (λ y. 1 ≤ times y (g.group x.child)) q o in absurd (omega arith)) in
      (ne, none-child es w.1 (omega arith))

  pub none-before : Each (λ x. x.child ≢ e.child) before
  none-before =
      let s = spread in
      let o = self_once e entry_ok in
      let l = same-le (g.above e.child (k + 1)) p in
      none-child before (each-left (EntryOk g look table k) before (e ∷ behind) all-ok) (omega arith)

  pub none-behind : Each (λ x. x.child ≢ e.child) behind
  none-behind =
      let s = spread in
      let o = self_once e entry_ok in
      let l = same-le (g.above e.child (k + 1)) p in
      none-child behind (each-right (EntryOk g look table k) before (e ∷ behind) all-ok).1 (omega arith)

  -- no entry leads to a cell that is no block of the tree
  not-fresh : (n : ℕ) → g.inside n ≡ false → (es : List Entry) → Each (EntryOk g look table k) es → Each (λ x. x.child ≢ n) es
  not-fresh n f [] w = tt
  not-fresh n f (x ∷ es) w =
      let ci = (w.0.group.cells x.child (self_once x w.0)).0 in
      ((λ q. let bad : true ≡ false = sym ci ∙ ap g.inside q ∙ f in cc), not-fresh n f es w.1)

  -- one entry has the row besides
  pub touched-one : (r : ℕ) (e2 : Entry) → IsWithRow table.hierarchy (table.row r) e e2 → Touched table r e.child (look p).entries ((before ++ e2 ∷ []) ++ behind)
  touched-one r e2 w =
      rw (is, append_assoc before (e2 ∷ []) behind)
      (touched-append table r e.child before before (e ∷ behind) (e2 ∷ behind) (touched-none table r e.child before none-before)
      (touch-row table r e.child e e2 refl w, touched-none table r e.child behind none-behind))

  pub parted-one : (a b : Entry) → parted e.child a b (look p).entries ≡ before ++ a ∷ b ∷ behind
  parted-one a b =
      ap (parted e.child a b) is
      ∙ parted-append e.child a b before (e ∷ behind)
      ∙ ap (λ xs. xs ++ parted e.child a b (e ∷ behind)) (parted-none e.child a b before none-before)
      ∙ ap (λ xs. before ++ xs) ((rw (eq-eqb e.child e.child refl) refl) ∙ ap (λ xs. a ∷ b ∷ xs) (parted-none e.child a b behind none-behind))

  -- or one of the two that stand in its place
  pub touched-two : (r n x : ℕ) (a b a2 b2 : Entry) → g.inside n ≡ false → Touch table r x a a2 → Touch table r x b b2 → (x ≡ e.child) ⊎ (x ≡ n)
      → Touched table r x (parted e.child a b (look p).entries) ((before ++ a2 ∷ b2 ∷ []) ++ behind)
  touched-two r n x a b a2 b2 f ta tb which =
      let rest : Each (λ y. y.child ≢ x) before × Each (λ y. y.child ≢ x) behind = elim which [
        | inl q ↦ subst (λ z. Each (λ y. y.child ≢ z) before × Each (λ y. y.child ≢ z) behind) (sym q) (none-before, none-behind)
        | inr q ↦ subst (λ z. Each (λ y. y.child ≢ z) before × Each (λ y. y.child ≢ z) behind) (sym q)
            (not-fresh n f before (each-left (EntryOk g look table k) before (e ∷ behind) all-ok), not-fresh n f behind (each-right (EntryOk g look table k) before (e ∷ behind) all-ok).1)
      ] in
      rw (parted-one a b, append_assoc before (a2 ∷ b2 ∷ []) behind)
      (touched-append table r x before before (a ∷ b ∷ behind) (a2 ∷ b2 ∷ behind) (touched-none table r x before rest.0)
      (ta, (tb, touched-none table r x behind rest.1)))
