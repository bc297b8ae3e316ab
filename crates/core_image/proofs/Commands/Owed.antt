-- What is owed, where one actor's command is another one afterwards; and images that owe another number of acknowledgements.
use Rattle.std.proofs.{Common.{◌≡◌, ◌≢◌, ℕ, ◌+◌, ◌<◌, ◌^◌, ◌∙◌, List, ◌∷◌, Bool, true, false, eqb, length, sym, ap, arith, ◌==◌, ◌&&◌}, lemmas.Bool.{and_right, eqb-true, eqb-false, ne_eqb}, lemmas.List.Elements.All-weaker}
use Rattle.std.specs.Prelude.{Option}
use Rattle.dim_hierarchy.specs.declared.row.Row.{Row}
use Rattle.mapping_table.specs.declared.place.Where.{Where}
use Rattle.query_router.specs.{Desk.DeskValue, declared.part.Part.Part, declared.part.PartState.PartState}
use Rattle.query_router.specs.declared.part.PartState.TheVariants as state
use Rattle.row_ledger.specs.declared.event.Event.{Event}
use Rattle.server_image.specs.{Image.ImageValue, Registry.RegistryValue}
use Rattle.list_words.proofs.Truth.{on_bool, eqb-self}
use Rattle.volap_cell.specs.{Errands.RowWay, ImageKinds.Pushes, Imaging.{Covering, Imaging}, Lineage.Leading, Owing.{is_insert, one_if, owed_by, serves}, Placing.{Inserting, IsLead, IsRowPart}, Setting.Setting, Sums.sum_below, World.Change, declared.command.Command.Command, declared.role.Role.Role, declared.role.Role.TheVariants.Session}
use Rattle.volap_cell.proofs.{Sums.{sum-changed, sum-kept}, Views.Fields.IsNewAt}

-- Sums over the actors.

module _ (m n : ℕ) (there : n < m) (commands commands_now : ℕ → Option Command) (old new : Option Command) (turned : IsNewAt commands_now commands n old new) where
  -- what is promised
  pub promises-now : (promised promised_now more used : ℕ) → promised + more ≡ promised_now + used → owed_by old + more ≡ owed_by new + used
      → promised ≡ sum_below m (λ a. owed_by (commands a)) → promised_now ≡ sum_below m (λ a. owed_by (commands_now a))
  promises-now promised promised_now more used pushed owes is =
      let sums = sum-changed m (λ a. owed_by (commands a)) (λ a. owed_by (commands_now a)) n (λ a ne. ap owed_by (turned.elsewhere a ne)) there in
      let was : owed_by (commands n) ≡ owed_by old = ap owed_by turned.was_there in
      let now : owed_by (commands_now n) ≡ owed_by new = ap owed_by turned.is_there in
      omega (arith, sums, was, now, pushed, owes, is)

  module _ (roles : ℕ → Role) where
    abbrev counts : ℕ → (ℕ → Option Command) → ℕ → ℕ
    counts x has a = one_if (serves x (roles a) && is_insert (has a))

    others-count : (x a : ℕ) → a ≢ n → counts x commands_now a ≡ counts x commands a
    others-count x a ne = ap (λ (c : Option Command). one_if (serves x (roles a) && is_insert c)) (turned.elsewhere a ne)

    -- acknowledgements, where the command is no insert
    pub owed-others : is_insert old ≡ false → is_insert new ≡ false → (x : ℕ) → sum_below m (counts x commands_now) ≡ sum_below m (counts x commands)
    owed-others off off_now x =
        let none : counts x commands n ≡ 0 = ap (λ (c : Option Command). one_if (serves x (roles n) && is_insert c)) turned.was_there ∙ ap one_if (and_right (serves x (roles n)) (is_insert old) off) in
        let none_now : counts x commands_now n ≡ 0 = ap (λ (c : Option Command). one_if (serves x (roles n) && is_insert c)) turned.is_there ∙ ap one_if (and_right (serves x (roles n)) (is_insert new) off_now) in
        sum-kept m (counts x commands) (counts x commands_now) n (others-count x) (none_now ∙ sym none)

    -- and where it is one of this server
    pub owed-insert : (server : ℕ) → roles n ≡ Session server → (images images_now : ℕ → ImageValue) (image image_now : ImageValue) → IsNewAt images_now images server image image_now
        → image_now.owed + one_if (is_insert old) ≡ image.owed + one_if (is_insert new)
        → (x : ℕ) → (images x).owed ≡ sum_below m (counts x commands) → (images_now x).owed ≡ sum_below m (counts x commands_now)
    owed-insert server role images images_now image image_now new_image owes x is =
        let was : counts x commands n ≡ one_if ((server == x) && is_insert old) =
        ap (λ (r : Role). one_if (serves x r && is_insert (commands n))) role ∙ ap (λ (c : Option Command). one_if ((server == x) && is_insert c)) turned.was_there in
        let now : counts x commands_now n ≡ one_if ((server == x) && is_insert new) =
        ap (λ (r : Role). one_if (serves x r && is_insert (commands_now n))) role ∙ ap (λ (c : Option Command). one_if ((server == x) && is_insert c)) turned.is_there in
        on_bool (eqb x server)
        (λ q.
        let e = eqb-true x server q in
        let self : (server == x) ≡ true = ap (λ (y : ℕ). server == y) e ∙ eqb-self server in
        let sums = sum-changed m (counts x commands) (counts x commands_now) n (others-count x) there in
        let a : counts x commands n ≡ one_if (is_insert old) = was ∙ ap (λ (y : Bool). one_if (y && is_insert old)) self in
        let b : counts x commands_now n ≡ one_if (is_insert new) = now ∙ ap (λ (y : Bool). one_if (y && is_insert new)) self in
        let c : (images x).owed ≡ image.owed = ap (λ (y : ImageValue). y.owed) (ap images e ∙ new_image.was_there) in
        let d : (images_now x).owed ≡ image_now.owed = ap (λ (y : ImageValue). y.owed) (ap images_now e ∙ new_image.is_there) in
        omega (arith, sums, a, b, c, d, owes, is))
        (λ q.
        let ne = eqb-false x server q in
        let off : (server == x) ≡ false = ne_eqb server x (λ z. ne (sym z)) in
        let a : counts x commands n ≡ 0 = was ∙ ap (λ (y : Bool). one_if (y && is_insert old)) off in
        let b : counts x commands_now n ≡ 0 = now ∙ ap (λ (y : Bool). one_if (y && is_insert new)) off in
        ap (λ (y : ImageValue). y.owed) (new_image.elsewhere x ne) ∙ is ∙ sym (sum-kept m (counts x commands) (counts x commands_now) n (others-count x) (b ∙ sym a)))

-- Images.

-- an image of which only what it owes is new
pub owed-only : (images images_now : ℕ → ImageValue) (server : ℕ) (image image_now : ImageValue) → IsNewAt images_now images server image image_now → image_now.spots ≡ image.spots → image_now.growths ≡ image.growths
    → (x : ℕ) → images_now x ≡ record (images x) { owed = (images_now x).owed }
owed-only images images_now server image image_now new spots growths x = on_bool (eqb x server)
    (λ q.
    let e = eqb-true x server q in
    let was : images x ≡ image = ap images e ∙ new.was_there in
    let now : images_now x ≡ image_now = ap images_now e ∙ new.is_there in
    let s = ap (λ (y : ImageValue). y.spots) now ∙ spots ∙ sym (ap (λ (y : ImageValue). y.spots) was) in
    let g = ap (λ (y : ImageValue). y.growths) now ∙ growths ∙ sym (ap (λ (y : ImageValue). y.growths) was) in
    λ k. record (images_now x) { spots = s k; growths = g k })
    (λ q. let same = new.elsewhere x (eqb-false x server q) in
    let s = ap (λ (y : ImageValue). y.spots) same in
    let g = ap (λ (y : ImageValue). y.growths) same in
    λ k. record (images_now x) { spots = s k; growths = g k })

-- images that owe so much
abbrev pub with_owed : (ℕ → ImageValue) → (ℕ → ℕ) → ℕ → ImageValue
with_owed images owed x = record (images x) { owed = owed x }

module _ (images : ℕ → ImageValue) (owed : ℕ → ℕ) where
  pub owed-leading : (s : Setting) (maps : ℕ → ℕ → Option Where) (desks : ℕ → DeskValue) → Leading s maps images desks → Leading s maps (with_owed images owed) desks
  owed-leading s maps desks i = record { spots = i.spots; parts = i.parts }

  owed-lead : (h : List Event) (server : ℕ) (path : List ℕ) (shard : ℕ) → IsLead h images server path shard → IsLead h (with_owed images owed) server path shard
  owed-lead h server path shard i = record { is_path = i.is_path; last = i.last; listed = i.listed }

  owed-part : (h : List Event) (ways : ℕ → Option RowWay) (placed : ℕ → Bool) (path : ℕ → List ℕ) (server r : ℕ) (p : Part) (st : PartState) → IsRowPart h images ways placed path server r p st → IsRowPart h (with_owed images owed) ways placed path server r p st
  owed-part h ways placed path server r p (state.Waiting wanted) i = (i.0, i.1, owed-lead h server p.path p.shard i.2)
  owed-part h ways placed path server r p (state.Placed way) i = (i.0, i.1, i.2, owed-lead h server way _ i.3)
  owed-part h ways placed path server r p state.NoMemory i = i
  owed-part h ways placed path server r p _ i = tt

  pub owed-inserting : (s : Setting) (h : List Event) (desks : ℕ → DeskValue) (commands : ℕ → Option Command) (ways : ℕ → Option RowWay) (placed : ℕ → Bool) (path : ℕ → List ℕ)
      → Inserting s h images desks commands ways placed path → Inserting s h (with_owed images owed) desks commands ways placed path
  owed-inserting s h desks commands ways placed path i = record {
    unrouted = i.unrouted;
    parts = λ server r insert within op is. All-weaker (λ (p : Part). IsRowPart h images ways placed path server r p p.state) (λ (p : Part). IsRowPart h (with_owed images owed) ways placed path server r p p.state)
        (λ p. owed-part h ways placed path server r p p.state) (desks server).parts (i.parts server r insert within op is);
    on_way = λ a w is. let old = i.on_way a w is in record { known = old.known; lead = owed-lead h w.server w.path w.shard old.lead; passed = old.passed; came = old.came };
  }

  pub owed-imaging : (s : Setting) (h : List Event) (row : ℕ → Row) (placed : ℕ → Bool) → Imaging s h row images placed → Imaging s h row (with_owed images owed) placed
  owed-imaging s h row placed i = record {
    image = λ server within. let old = i.image server within in record { places = old.places; grown = old.grown; apart = old.apart; whole = old.whole; boxes = old.boxes; growths = old.growths };
  }

  pub owed-covering : (s : Setting) (h : List Event) (row : ℕ → Row) (registry : RegistryValue) (placed : ℕ → Bool) (home : ℕ → ℕ) (path : ℕ → List ℕ)
      → Covering s h row registry images placed home path → Covering s h row registry (with_owed images owed) placed home path
  owed-covering s h row registry placed home path i = record { boxes = i.boxes; came = i.came; pushed = i.pushed; noted = i.noted; must = i.must; unacked = i.unacked }

-- The ledger.

-- what a ledger holds with its promises
abbrev pub IsFew : {e : Event} {more used : ℕ} {l : Change} {seen : ℕ} → Pushes e more used l seen → Type 0
IsFew p = length p.ledger_now.history + p.ledger_now.promised < 2 ^ 31

pub few-pushed : {e : Event} {more used : ℕ} {l : Change} {seen : ℕ} (p : Pushes e more used l seen) (h : List Event) (promised promised_now : ℕ) → h ≡ p.ledger.history → promised ≡ p.ledger.promised → promised + more ≡ promised_now + used → IsFew p
    → length (e ∷ h) + promised_now < 2 ^ 31
few-pushed p h promised promised_now history_is promised_is moved few =
    let longer = ap length p.history in
    let before = ap length history_is in
    let more = p.promised in
    omega (arith, longer, before, more, promised_is, moved, few)
