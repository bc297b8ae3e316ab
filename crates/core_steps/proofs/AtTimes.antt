-- Cells that a step holds at times: a kind takes such a cell as an option beside its number, and it is one of the step's cells where it
-- is there.
use Rattle.std.proofs.{Common.{ℕ, ◌≡◌, ◌∙◌, Bool, true, false, List, [], ◌∷◌, ◌++◌, map, Option, Some, None, is_some, append_assoc, append-nil, refl, sym, ap, subst}, lemmas.List.{map-append}}
use Rattle.std.specs.Prelude.{option_map}
use Rattle.core_steps.specs.{Places.{Fill, held, swap_at, thing_at, things, two_at}, Steps.Went, Rows.{number_of, row_kind, row_places}, declared.step.Others.Others, declared.rows.RowStep.RowStep}
use Rattle.core_steps.specs.declared.rows.RowStep.TheVariants as row_step
use Rattle.core_admin.specs.core_tree.specs.Descent.{two_if}
use Rattle.dim_hierarchy.specs.Dimension.{Dimension}
use Rattle.core_shard.specs.volap_cell.specs.{Cells.{cell_of}, Setting.Setting, State.{changes_of, still}, Steps.{IsHere, Makes}, Values.ActorValue, World.{Change, World, change, change_if, held as held_still, held_if}, declared.cell.Cell.Cell}
use Rattle.core_shard.specs.volap_cell.specs.declared.kind.Kind.TheVariants.{Down, EnterTree, FinishPart}

-- a cell is held at a place that has a number
pub held-there : (y : ℕ) (row : List (Option ℕ)) (o : Option Cell) (cells : List (Option Cell)) → Fill (Some y ∷ row) (o ∷ cells) → is_some o ≡ true
held-there y row o cells fill = (let both : ◌≡◌ {A = List Bool} (is_some o ∷ map is_some cells) (true ∷ map is_some row) = fill in cc)

-- One such cell.

still-at : (p : Option ℕ) (o : Option Cell) (x : ℕ) → x ≡ number_of p → is_some o ≡ is_some p → still (thing_at p o) ≡ held_if x (option_map cell_of o)
still-at None None x is e = refl
still-at None (Some c) x is e = absurd (cc)
still-at (Some y) None x is e = refl
still-at (Some y) (Some c) x is e = ap (λ (n : ℕ). change n (cell_of c) (cell_of c) ∷ []) (sym is)

changes-at : (p : Option ℕ) (o now : Option Cell) (x : ℕ) → x ≡ number_of p → is_some o ≡ is_some p → changes_of (swap_at p o now) ≡ change_if x (option_map cell_of o) (option_map cell_of now)
changes-at None None now x is e = refl
changes-at None (Some c) now x is e = absurd (cc)
changes-at (Some y) None now x is e = refl
changes-at (Some y) (Some c) None x is e = refl
changes-at (Some y) (Some c) (Some d) x is e = ap (λ (n : ℕ). change n (cell_of c) (cell_of d) ∷ []) (sym is)

-- Some of them, one after the other.

both-of : {A B : Type 0} (f : A → B) (xs ys : List A) (us vs : List B) → map f xs ≡ us → map f ys ≡ vs → map f (xs ++ ys) ≡ us ++ vs
both-of f xs ys us vs a b = map-append f xs ys ∙ (λ k. a k ++ b k)

last-of : {A B : Type 0} (f : A → B) (xs : List A) (us : List B) → map f xs ≡ us → map f (xs ++ []) ≡ us
last-of f xs us a = ap (map f) (append-nil xs) ∙ a

three-of : {A B : Type 0} (f : A → B) (xs ys zs : List A) (us vs ws : List B) → map f xs ≡ us → map f ys ≡ vs → map f zs ≡ ws → map f (xs ++ (ys ++ (zs ++ []))) ≡ (us ++ vs) ++ ws
three-of f xs ys zs us vs ws a b c =
    both-of f xs (ys ++ (zs ++ [])) us (vs ++ ws) a (both-of f ys (zs ++ []) vs ws b (last-of f zs ws c)) ∙ sym (append_assoc us vs ws)

four-of : {A B : Type 0} (f : A → B) (xs ys zs ts : List A) (us vs ws ss : List B) → map f xs ≡ us → map f ys ≡ vs → map f zs ≡ ws → map f ts ≡ ss
    → map f (xs ++ (ys ++ (zs ++ (ts ++ [])))) ≡ (us ++ vs) ++ (ws ++ ss)
four-of f xs ys zs ts us vs ws ss a b c d =
    both-of f xs (ys ++ (zs ++ (ts ++ []))) us (vs ++ (ws ++ ss)) a (both-of f ys (zs ++ (ts ++ [])) vs (ws ++ ss) b (both-of f zs (ts ++ []) ws ss c (last-of f ts ss d)))
    ∙ sym (append_assoc us vs (ws ++ ss))

-- Steps.

-- the end of a part that is pinned
pub pinned-went : {h : List Dimension} {Sees : Setting → World → ℕ → Type 0} {gate_at desk_at : ℕ} (gate gate_now : Option Cell) {desk desk_now : Cell} {o o_now : Others} {a b : ActorValue} → is_some gate ≡ true → is_some gate_now ≡ is_some gate
    → Makes h FinishPart (change_if gate_at (option_map cell_of gate) (option_map cell_of gate_now) ++ change desk_at (cell_of desk) (cell_of desk_now) ∷ []) a b
    → Went h FinishPart Sees (two_at gate_at desk_at) (held gate (Some desk) o) (held gate_now (Some desk_now) o_now) a b
pinned-went None gate_now some is made = absurd (cc)
pinned-went (Some g) None some is made = absurd (cc)
pinned-went (Some g) (Some g2) some is made = record { makes = made; sight = λ s w n sees. tt }

-- A row goes down.
module _ (h : List Dimension) (step : RowStep) (parent_at place child_at : ℕ) (p q r : Option ℕ) (is : step ≡ row_step.Down parent_at place child_at p q r)
    (first second : Option Cell) (parent child : Cell) (o : Others) (one : first ≡ Some parent) (two : second ≡ Some child) (fill : Fill (row_places step) (held first second o)) (a : ActorValue) where
  abbrev row : List (Option ℕ)
  row = row_places (row_step.Down parent_at place child_at p q r)

  -- what is known of the cells, with the step and the first two cells at hand
  known : (P : List (Option ℕ) → List (Option Cell) → Type 0) → P (row_places step) (held first second o) → P row (held (Some parent) (Some child) o)
  known P k = subst (λ (s : RowStep). P (row_places s) (held (Some parent) (Some child) o)) is
      (subst (λ (c : Option Cell). P (row_places step) (held (Some parent) c o)) two (subst (λ (c : Option Cell). P (row_places step) (held c second o)) one k))

  filled : (is_some o.third ≡ is_some p) × (is_some o.fourth ≡ is_some q) × (is_some o.fifth ≡ is_some r)
  filled =
      let all : ◌≡◌ {A = List Bool} (true ∷ true ∷ is_some o.third ∷ is_some o.fourth ∷ is_some o.fifth ∷ is_some o.sixth ∷ is_some o.seventh ∷ []) (true ∷ true ∷ is_some p ∷ is_some q ∷ is_some r ∷ false ∷ false ∷ []) = known Fill fill in
      (cc, cc, cc)

  pub down-here : (x y z : ℕ) → x ≡ number_of p → y ≡ number_of q → z ≡ number_of r → IsHere h (still (things (row_places step) (held first second o))) a
      → IsHere h (held_still parent_at (cell_of parent) ∷ held_still child_at (cell_of child) ∷ two_if x (option_map cell_of o.third) y (option_map cell_of o.fourth) ++ held_if z (option_map cell_of o.fifth)) a
  down-here x y z ex ey ez here = subst (λ (cs : List Change). IsHere h (held_still parent_at (cell_of parent) ∷ held_still child_at (cell_of child) ∷ cs) a)
      (three-of (λ (t : ℕ × Cell). change t.0 (cell_of t.1) (cell_of t.1)) (thing_at p o.third) (thing_at q o.fourth) (thing_at r o.fifth) _ _ _ (still-at p o.third x ex filled.0) (still-at q o.fourth y ey filled.1) (still-at r o.fifth z ez filled.2))
      (known (λ row cells. IsHere h (still (things row cells)) a) here)

  pub down-went : (Sees : Setting → World → ℕ → Type 0) (x y z : ℕ) → x ≡ number_of p → y ≡ number_of q → z ≡ number_of r → (parent_now child_now : Cell) (o_now : Others) (b : ActorValue)
      → Makes h Down (change parent_at (cell_of parent) (cell_of parent_now) ∷ change child_at (cell_of child) (cell_of child_now)
      ∷ (change_if x (option_map cell_of o.third) (option_map cell_of o_now.third) ++ change_if y (option_map cell_of o.fourth) (option_map cell_of o_now.fourth))
      ++ change_if z (option_map cell_of o.fifth) (option_map cell_of o_now.fifth)) a b
      → Went h (row_kind step) Sees (row_places step) (held first second o) (held (Some parent_now) (Some child_now) o_now) a b
  down-went Sees x y z ex ey ez parent_now child_now o_now b made =
      let went : Went h Down Sees row (held (Some parent) (Some child) o) (held (Some parent_now) (Some child_now) o_now) a b = record {
        makes = subst (λ (cs : List Change). Makes h Down (change parent_at (cell_of parent) (cell_of parent_now) ∷ change child_at (cell_of child) (cell_of child_now) ∷ cs) a b)
            (sym (three-of _ (swap_at p o.third o_now.third) (swap_at q o.fourth o_now.fourth) (swap_at r o.fifth o_now.fifth) _ _ _
            (changes-at p o.third o_now.third x ex filled.0) (changes-at q o.fourth o_now.fourth y ey filled.1) (changes-at r o.fifth o_now.fifth z ez filled.2))) made;
        sight = λ s w n sees. tt;
      } in
      subst (λ (s : RowStep). Went h (row_kind s) Sees (row_places s) (held first second o) (held (Some parent_now) (Some child_now) o_now) a b) (sym is)
      (subst (λ (c : Option Cell). Went h Down Sees row (held c second o) (held (Some parent_now) (Some child_now) o_now) a b) (sym one)
      (subst (λ (c : Option Cell). Went h Down Sees row (held (Some parent) c o) (held (Some parent_now) (Some child_now) o_now) a b) (sym two) went))

-- A row comes in at a gate.
module _ (h : List Dimension) (step : RowStep) (map_at gate_at root_at : ℕ) (p q r t : Option ℕ) (is : step ≡ row_step.EnterTree map_at gate_at root_at p q r t)
    (first second : Option Cell) (table gate root : Cell) (o : Others) (one : first ≡ Some table) (two : second ≡ Some gate) (three : o.third ≡ Some root) (fill : Fill (row_places step) (held first second o)) (a : ActorValue) where
  abbrev at : List (Option ℕ)
  at = row_places (row_step.EnterTree map_at gate_at root_at p q r t)

  abbrev rest : Others → List (Option Cell)
  rest x = x.fourth ∷ x.fifth ∷ x.sixth ∷ x.seventh ∷ []

  seen : (P : List (Option ℕ) → List (Option Cell) → Type 0) → P (row_places step) (held first second o) → P at (Some table ∷ Some gate ∷ Some root ∷ rest o)
  seen P k = subst (λ (s : RowStep). P (row_places s) (Some table ∷ Some gate ∷ Some root ∷ rest o)) is
      (subst (λ (c : Option Cell). P (row_places step) (Some table ∷ Some gate ∷ c ∷ rest o)) three
      (subst (λ (c : Option Cell). P (row_places step) (held (Some table) c o)) two (subst (λ (c : Option Cell). P (row_places step) (held c second o)) one k)))

  others : (is_some o.fourth ≡ is_some p) × (is_some o.fifth ≡ is_some q) × (is_some o.sixth ≡ is_some r) × (is_some o.seventh ≡ is_some t)
  others =
      let all : ◌≡◌ {A = List Bool} (true ∷ true ∷ true ∷ is_some o.fourth ∷ is_some o.fifth ∷ is_some o.sixth ∷ is_some o.seventh ∷ []) (true ∷ true ∷ true ∷ is_some p ∷ is_some q ∷ is_some r ∷ is_some t ∷ []) = seen Fill fill in
      (cc, cc, cc, cc)

  pub enter-here : (x y z u : ℕ) → x ≡ number_of p → y ≡ number_of q → z ≡ number_of r → u ≡ number_of t → IsHere h (still (things (row_places step) (held first second o))) a
      → IsHere h (held_still map_at (cell_of table) ∷ held_still gate_at (cell_of gate) ∷ held_still root_at (cell_of root)
      ∷ two_if x (option_map cell_of o.fourth) y (option_map cell_of o.fifth) ++ two_if z (option_map cell_of o.sixth) u (option_map cell_of o.seventh)) a
  enter-here x y z u ex ey ez eu here = subst (λ (cs : List Change). IsHere h (held_still map_at (cell_of table) ∷ held_still gate_at (cell_of gate) ∷ held_still root_at (cell_of root) ∷ cs) a)
      (four-of (λ (k : ℕ × Cell). change k.0 (cell_of k.1) (cell_of k.1)) (thing_at p o.fourth) (thing_at q o.fifth) (thing_at r o.sixth) (thing_at t o.seventh) _ _ _ _
      (still-at p o.fourth x ex others.0) (still-at q o.fifth y ey others.1) (still-at r o.sixth z ez others.2) (still-at t o.seventh u eu others.3))
      (seen (λ row cells. IsHere h (still (things row cells)) a) here)

  pub enter-went : (Sees : Setting → World → ℕ → Type 0) (x y z u : ℕ) → x ≡ number_of p → y ≡ number_of q → z ≡ number_of r → u ≡ number_of t → (table_now gate_now root_now : Cell) (o_now : Others) → o_now.third ≡ Some root_now → (b : ActorValue)
      → Makes h EnterTree (change map_at (cell_of table) (cell_of table_now) ∷ change gate_at (cell_of gate) (cell_of gate_now) ∷ change root_at (cell_of root) (cell_of root_now)
      ∷ (change_if x (option_map cell_of o.fourth) (option_map cell_of o_now.fourth) ++ change_if y (option_map cell_of o.fifth) (option_map cell_of o_now.fifth))
      ++ (change_if z (option_map cell_of o.sixth) (option_map cell_of o_now.sixth) ++ change_if u (option_map cell_of o.seventh) (option_map cell_of o_now.seventh))) a b
      → Went h (row_kind step) Sees (row_places step) (held first second o) (held (Some table_now) (Some gate_now) o_now) a b
  enter-went Sees x y z u ex ey ez eu table_now gate_now root_now o_now third_now b made =
      let went : Went h EnterTree Sees at (Some table ∷ Some gate ∷ Some root ∷ rest o) (Some table_now ∷ Some gate_now ∷ Some root_now ∷ rest o_now) a b = record {
        makes = subst (λ (cs : List Change). Makes h EnterTree (change map_at (cell_of table) (cell_of table_now) ∷ change gate_at (cell_of gate) (cell_of gate_now) ∷ change root_at (cell_of root) (cell_of root_now) ∷ cs) a b)
            (sym (four-of _ (swap_at p o.fourth o_now.fourth) (swap_at q o.fifth o_now.fifth) (swap_at r o.sixth o_now.sixth) (swap_at t o.seventh o_now.seventh) _ _ _ _
            (changes-at p o.fourth o_now.fourth x ex others.0) (changes-at q o.fifth o_now.fifth y ey others.1) (changes-at r o.sixth o_now.sixth z ez others.2) (changes-at t o.seventh o_now.seventh u eu others.3))) made;
        sight = λ s w n sees. tt;
      } in
      subst (λ (s : RowStep). Went h (row_kind s) Sees (row_places s) (held first second o) (held (Some table_now) (Some gate_now) o_now) a b) (sym is)
      (subst (λ (c : Option Cell). Went h EnterTree Sees at (held c second o) (held (Some table_now) (Some gate_now) o_now) a b) (sym one)
      (subst (λ (c : Option Cell). Went h EnterTree Sees at (held (Some table) c o) (held (Some table_now) (Some gate_now) o_now) a b) (sym two)
      (subst (λ (c : Option Cell). Went h EnterTree Sees at (Some table ∷ Some gate ∷ c ∷ rest o) (held (Some table_now) (Some gate_now) o_now) a b) (sym three)
      (subst (λ (c : Option Cell). Went h EnterTree Sees at (Some table ∷ Some gate ∷ Some root ∷ rest o) (Some table_now ∷ Some gate_now ∷ c ∷ rest o_now) a b) (sym third_now) went))))
