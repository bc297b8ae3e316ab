-- The vectors of a core are one state, about one setting.
use Rattle.std.proofs.{Common.{◌≡◌, inl, inr, ℕ, zero, suc, ◌<◌, ◌≤◌, List, [], ◌∷◌, length, Option, Some, None, get_or, slice_get, refl, sym, ap, ◌∙◌, subst, arith}, lemmas.Bool.cases_lt, lemmas.List.get_or_past}
use Rattle.std.specs.Option.{option_map_or}
use Rattle.dim_hierarchy.specs.Dimension.{Dimension}
use Rattle.row_ledger.specs.declared.settings.Use.{Use}
use Rattle.core_pages.specs.volap_cell.specs.{Cells.cell_of, Filling.{actor_or, cell_or, fresh, world_of}, Opening.IsFresh, Setting.{Setting, actor_count}, Values.{ActorValue, actor_of}, World.World, declared.actor.Actor.Actor, declared.cell.Cell.Cell, declared.role.Role.TheVariants.Hand}
use Rattle.core_pages.specs.volap_cell.proofs.Cells.States.{stands}
use Rattle.seeded_run.specs.{Core.{IsCore, IsStateOf}, Worlds.{roles_in, setting_in, world_in}}

-- lists of the same length with the same items are the same
same-items : {A : Type 0} (xs ys : List A) → length xs ≡ length ys → ((i : ℕ) → i < length xs → slice_get xs i ≡ slice_get ys i) → xs ≡ ys
same-items [] [] many each = refl
same-items [] (y ∷ ys) many each = absurd (omega arith)
same-items (x ∷ xs) [] many each = absurd (omega arith)
same-items {A} (x ∷ xs) (y ∷ ys) many each =
    let first : ◌≡◌ {A = Option A} (Some x) (Some y) = each 0 (omega arith) in
    let head : x ≡ y = cc in
    let tail = same-items xs ys (omega arith) (λ i lt. each (suc i) (omega arith)) in
    (λ k. head k ∷ tail k)

-- who has done nothing and stands past the last actor is the one
is-fresh : (s : Setting) (a : ℕ) (x : ActorValue) → actor_count s ≤ a → x.setting ≡ s → IsFresh x.setting a x → x ≡ fresh s a
is-fresh s a x past same is_fresh =
    let role : x.role ≡ Hand s.workers = is_fresh.beyond (subst (λ (t : Setting). actor_count t ≤ a) (sym same) past) ∙ ap (λ (t : Setting). Hand t.workers) same in
    (λ k. record {
      number = is_fresh.number k;
      role = role k;
      setting = same k;
      seen = is_fresh.seen k;
      counted = is_fresh.counted k;
      purse = is_fresh.purse k;
      boxes = is_fresh.boxes k;
      command = is_fresh.command k;
      errand = is_fresh.errand k;
      job = is_fresh.job k;
      gone_gates = is_fresh.gone_gates k;
    })

-- a script's core is a state
pub state-of : (h : List Dimension) (with : Use) (cells : List (Option Cell)) (actors : List (Option Actor)) (s : Setting) (w : World) → IsCore h with cells actors s w → IsStateOf h with cells actors s w
state-of h with cells actors s w core = record {
  hierarchy = core.hierarchy;
  servers = core.servers;
  workers = core.workers;
  stock = core.stock;
  count = core.count;
  places = core.places;
  is = core.is;
  inv = core.inv;
}

module _ (h : List Dimension) (with : Use) (cells : List (Option Cell)) (actors : List (Option Actor)) (s : Setting) (w : World) (core : IsStateOf h with cells actors s w) where
  cell-is : (y : ℕ) → w.cells y ≡ (world_of s cells actors).cells y
  cell-is y = elim (cases_lt y (length cells)) [
    | inl lt ↦
        let k = stands (get_or cells y None) (λ c. cell_of c ≡ w.cells y) (core.is.cell y lt) in
        sym k.2 ∙ ap cell_or (sym k.1)
    | inr ge ↦ core.is.no_cell y ge ∙ ap cell_or (sym (get_or_past cells y None ge))
  ]

  about : (a : ℕ) → (w.actors a).setting ≡ s
  about a = core.inv.holds.numbering.about a

  actor-is : (a : ℕ) → w.actors a ≡ (world_of s cells actors).actors a
  actor-is a = elim (cases_lt a (length actors)) [
    | inl lt ↦
        let k = stands (get_or actors a None) (λ x. actor_of x ≡ w.actors a) (core.is.actor a lt) in
        sym k.2 ∙ ap (actor_or s a) (sym k.1)
    | inr ge ↦
        let past : actor_count s ≤ a = (let n = core.count in omega arith) in
        is-fresh s a (w.actors a) past (about a) (core.is.no_actor a ge) ∙ ap (actor_or s a) (sym (get_or_past actors a None ge))
  ]

  one-world : w ≡ world_of s cells actors
  one-world = (λ k. record { cells = λ y. cell-is y k; actors = λ a. actor-is a k })

  length-roles : (xs : List (Option Actor)) → length (roles_in xs) ≡ length xs
  length-roles [] = refl
  length-roles (x ∷ xs) = ap suc (length-roles xs)

  role-there : (xs : List (Option Actor)) (a : ℕ) (x : Actor) → get_or xs a None ≡ Some x → slice_get (roles_in xs) a ≡ Some x.role
  role-there [] a x is = (let never : ◌≡◌ {A = Option Actor} None (Some x) = is in absurd (cc))
  role-there (o ∷ xs) zero x is = ap (λ (z : Option Actor). Some (option_map_or (λ (a : Actor). a.role) z (Hand 0))) is
  role-there (o ∷ xs) (suc a) x is = role-there xs a x is

  roles-are : s.roles ≡ roles_in actors
  roles-are = same-items s.roles (roles_in actors) (sym core.count ∙ sym (length-roles actors)) (λ a lt.
      (let within : a < length actors = (let n = core.count in omega arith) in
      let k = stands (get_or actors a None) (λ x. actor_of x ≡ w.actors a) (core.is.actor a within) in
      core.inv.holds.numbering.role a lt ∙ ap (λ (x : ActorValue). Some x.role) (sym k.2) ∙ sym (role-there actors a k.0 k.1)))

  pub its-setting : s ≡ setting_in h with actors
  its-setting = (λ k. record { hierarchy = core.hierarchy k; servers = core.servers k; workers = core.workers k; stock_cells = core.stock k; roles = roles-are k })

  pub its-world : w ≡ world_in h with cells actors
  its-world = one-world ∙ ap (λ (t : Setting). world_of t cells actors) its-setting

-- So it is of a script's core.
module _ (h : List Dimension) (with : Use) (cells : List (Option Cell)) (actors : List (Option Actor)) (s : Setting) (w : World) (core : IsCore h with cells actors s w) where
  pub one-setting : s ≡ setting_in h with actors
  one-setting = its-setting h with cells actors s w (state-of h with cells actors s w core)

  pub only-world : w ≡ world_in h with cells actors
  only-world = its-world h with cells actors s w (state-of h with cells actors s w core)
