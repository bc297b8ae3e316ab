-- Fields of the view of which a commit changes one place: what it was there, what it is, and that it is as before elsewhere.
use Rattle.std.proofs.Common.{◌≡◌, ◌≢◌, ◌⊎◌, ℕ, ◌+◌, cond, eqb, List, [], ◌∷◌, length, refl, sym, ap, ◌∙◌, arith}
use Rattle.query_router.specs.Desk.{DeskValue}
use Rattle.row_ledger.specs.{LedgerValue.LedgerValue, declared.event.Event.Event}
use Rattle.server_image.specs.{Image.ImageValue, Registry.RegistryValue}
use Rattle.list_words.specs.Counts.{Each, Among}
use Rattle.list_words.proofs.Each.{each-among}
use Rattle.volap_cell.specs.{Cells.{CellValue, Tag, LedgerCell, RegistryCell, tag_of, desk_in, image_in, ledger_in, registry_in}, ImageKinds.{Pushes, TurnsImage}, Numbering.tag_at, Setting.{Setting, ledger_cell, registry_cell, image_cell, desk_cell}, ShardKinds.TurnsDesk, Values.ActorValue, World.{Change, put}}
use Rattle.volap_cell.proofs.{Cells.Numbers.{at-ledger, at-registry, at-desk, at-image}, Views.Frames.{AreAt, AreApartCells, kept-but, put-at, actor-at, actor-off}}

-- a field by number that one place changes
pub record IsNewAt {A : Type 0} (now was : ℕ → A) (place : ℕ) (old new : A) : Type 0 where
  pub was_there : was place ≡ old
  pub is_there : now place ≡ new
  pub elsewhere : (x : ℕ) → x ≢ place → now x ≡ was x

-- Cells.

-- changed cells with these tags, one by one
abbrev pub HaveTags : List Tag → List Change → Type 0
HaveTags [] [] = Unit {0}
HaveTags (t ∷ tags) (c ∷ cs) = (tag_of c.before ≡ t) × HaveTags tags cs
HaveTags _ _ = ⊥

abbrev pub AreApartTags : List Tag → Type 0
AreApartTags [] = Unit {0}
AreApartTags (t ∷ tags) = Each (λ u. u ≢ t) tags × AreApartTags tags

-- cells with other tags are other cells

apart-from : (cells : ℕ → CellValue) (c : Change) (t : Tag) (tags : List Tag) (cs : List Change) → cells c.number ≡ c.before → tag_of c.before ≡ t → AreAt cells cs → HaveTags tags cs → Each (λ u. u ≢ t) tags → Each (λ d. d.number ≢ c.number) cs
apart-from cells c t [] [] is tag at have ne = tt
apart-from cells c t [] (d ∷ cs) is tag at have ne = absurd have
apart-from cells c t (u ∷ tags) [] is tag at have ne = absurd have
apart-from cells c t (u ∷ tags) (d ∷ cs) is tag at have ne =
    ((λ e. ne.0 (sym have.0 ∙ ap tag_of (sym at.0) ∙ ap (λ (y : ℕ). tag_of (cells y)) e ∙ ap tag_of is ∙ tag)), apart-from cells c t tags cs is tag at.1 have.1 ne.1)

pub apart-tags : (tags : List Tag) (cells : ℕ → CellValue) (cs : List Change) → AreAt cells cs → HaveTags tags cs → AreApartTags tags → AreApartCells cs
apart-tags [] cells [] at have ne = tt
apart-tags [] cells (d ∷ cs) at have ne = absurd have
apart-tags (u ∷ tags) cells [] at have ne = absurd have
apart-tags (t ∷ tags) cells (c ∷ cs) at have ne = (apart-from cells c t tags cs at.0 have.0 at.1 have.1 ne.0, apart-tags tags cells cs at.1 have.1 ne.1)

-- the others leave f, where one cell changes it
abbrev pub OnlyAt : {A : Type 0} → (CellValue → A) → ℕ → List Change → Type 0
OnlyAt f y cs = Each (λ c. (c.number ≡ y) ⊎ (f c.now ≡ f c.before)) cs

-- a field by cell
pub cell-new : {A : Type 0} (f : CellValue → A) (cells : ℕ → CellValue) (cs : List Change) → AreAt cells cs → AreApartCells cs → (c : Change) → Among c cs → OnlyAt f c.number cs
    → IsNewAt (λ y. f (put cs cells y)) (λ y. f (cells y)) c.number (f c.before) (f c.now)
cell-new f cells cs at apart c among only = record {
  was_there = ap f (each-among (λ (d : Change). cells d.number ≡ d.before) c cs at among);
  is_there = ap f (put-at cs cells c apart among);
  elsewhere = kept-but f c.number cs cells at only;
}

-- a field by server or worker: its cells have numbers of their own
pub place-new : {A : Type 0} (f : CellValue → A) (cell : ℕ → ℕ) → ((x y : ℕ) → cell x ≡ cell y → x ≡ y) → (cells : ℕ → CellValue) (cs : List Change) → AreAt cells cs → AreApartCells cs
    → (c : Change) → Among c cs → (place : ℕ) → c.number ≡ cell place → OnlyAt f c.number cs
    → IsNewAt (λ x. f (put cs cells (cell x))) (λ x. f (cells (cell x))) place (f c.before) (f c.now)
place-new f cell once cells cs at apart c among place is only =
    let new = cell-new f cells cs at apart c among only in
    record {
      was_there = ap (λ (y : ℕ). f (cells y)) (sym is) ∙ new.was_there;
      is_there = ap (λ (y : ℕ). f (put cs cells y)) (sym is) ∙ new.is_there;
      elsewhere = (λ x ne. new.elsewhere (cell x) (λ e. ne (once x place (e ∙ is))));
    }

-- the same where the values are known
told : {A : Type 0} {now was : ℕ → A} {place : ℕ} {old new : A} {old2 new2 : A} → IsNewAt now was place old new → old ≡ old2 → new ≡ new2 → IsNewAt now was place old2 new2
told n o e = record { was_there = n.was_there ∙ o; is_there = n.is_there ∙ e; elsewhere = n.elsewhere }

-- a desk, an image, a worker's table, in the cell with its tag

pub desk-new : (s : Setting) (cells : ℕ → CellValue) (cs : List Change) → ((y : ℕ) → tag_of (cells y) ≡ tag_at s y) → AreAt cells cs → AreApartCells cs
    → (c : Change) → Among c cs → (server : ℕ) (old new : DeskValue) → TurnsDesk server old new c → OnlyAt desk_in c.number cs
    → IsNewAt (λ x. desk_in (put cs cells (desk_cell s x))) (λ x. desk_in (cells (desk_cell s x))) server old new
desk-new s cells cs tag at apart c among server old new turns only =
    let here = each-among (λ (d : Change). cells d.number ≡ d.before) c cs at among in
    let (number, lt) = at-desk s cells tag c.number server old (here ∙ turns.was) in
    told (place-new desk_in (desk_cell s) (λ x y e. omega arith) cells cs at apart c among server number only) (ap desk_in turns.was) (ap desk_in turns.is)

pub image-new : (s : Setting) (cells : ℕ → CellValue) (cs : List Change) → ((y : ℕ) → tag_of (cells y) ≡ tag_at s y) → AreAt cells cs → AreApartCells cs
    → (c : Change) → Among c cs → (server : ℕ) (old new : ImageValue) → TurnsImage server old new c → OnlyAt image_in c.number cs
    → IsNewAt (λ x. image_in (put cs cells (image_cell x))) (λ x. image_in (cells (image_cell x))) server old new
image-new s cells cs tag at apart c among server old new turns only =
    let here = each-among (λ (d : Change). cells d.number ≡ d.before) c cs at among in
    let (number, lt) = at-image s cells tag c.number server old (here ∙ turns.was) in
    told (place-new image_in image_cell (λ x y e. omega arith) cells cs at apart c among server number only) (ap image_in turns.was) (ap image_in turns.is)

-- The ledger, the stock, the registry.

-- what one thing was, and what it is
pub record IsNew {A : Type 0} (now was old new : A) : Type 0 where
  pub was_that : was ≡ old
  pub is_that : now ≡ new

one-new : {A : Type 0} (f : CellValue → A) (cells : ℕ → CellValue) (cs : List Change) → AreAt cells cs → AreApartCells cs → (c : Change) → Among c cs → (y : ℕ) → c.number ≡ y → (old new : A) → f c.before ≡ old → f c.now ≡ new
    → IsNew (f (put cs cells y)) (f (cells y)) old new
one-new f cells cs at apart c among y is old new was now = record {
  was_that = ap (λ (x : ℕ). f (cells x)) (sym is) ∙ ap f (each-among (λ (d : Change). cells d.number ≡ d.before) c cs at among) ∙ was;
  is_that = ap (λ (x : ℕ). f (put cs cells x)) (sym is) ∙ ap f (put-at cs cells c apart among) ∙ now;
}

pub ledger-new : (s : Setting) (cells : ℕ → CellValue) (cs : List Change) → ((y : ℕ) → tag_of (cells y) ≡ tag_at s y) → AreAt cells cs → AreApartCells cs
    → (c : Change) → Among c cs → (old new : LedgerValue) → c.before ≡ LedgerCell old → c.now ≡ LedgerCell new → IsNew (ledger_in (put cs cells ledger_cell)) (ledger_in (cells ledger_cell)) old new
ledger-new s cells cs tag at apart c among old new was is =
    let here = each-among (λ (d : Change). cells d.number ≡ d.before) c cs at among in
    one-new ledger_in cells cs at apart c among ledger_cell (at-ledger s cells tag c.number old (here ∙ was)) old new (ap ledger_in was) (ap ledger_in is)

pub registry-new : (s : Setting) (cells : ℕ → CellValue) (cs : List Change) → ((y : ℕ) → tag_of (cells y) ≡ tag_at s y) → AreAt cells cs → AreApartCells cs
    → (c : Change) → Among c cs → (old new : RegistryValue) → c.before ≡ RegistryCell old → c.now ≡ RegistryCell new → IsNew (registry_in (put cs cells registry_cell)) (registry_in (cells registry_cell)) old new
registry-new s cells cs tag at apart c among old new was is =
    let here = each-among (λ (d : Change). cells d.number ≡ d.before) c cs at among in
    one-new registry_in cells cs at apart c among registry_cell (at-registry s cells tag c.number old (here ∙ was)) old new (ap registry_in was) (ap registry_in is)

-- the history with an event more
pub record IsPushed (e : Event) (more used seen : ℕ) (history_now history : List Event) (promised_now promised : ℕ) : Type 0 where
  pub history_is : history_now ≡ e ∷ history
  pub promised_is : promised + more ≡ promised_now + used
  pub all_seen : seen ≡ length history_now

pub pushed-new : {e : Event} {more used seen : ℕ} {c : Change} (p : Pushes e more used c seen) {now was : LedgerValue} → IsNew now was p.ledger p.ledger_now → IsPushed e more used seen now.history was.history now.promised was.promised
pushed-new {e} {more} {used} p new =
    let history_now = ap (λ (l : LedgerValue). l.history) new.is_that in
    let history_was = ap (λ (l : LedgerValue). l.history) new.was_that in
    let promised_now = ap (λ (l : LedgerValue). l.promised) new.is_that in
    let promised_was = ap (λ (l : LedgerValue). l.promised) new.was_that in
    record {
      history_is = history_now ∙ p.history ∙ ap (λ (h : List Event). e ∷ h) (sym history_was);
      promised_is = ap (λ (n : ℕ). n + more) promised_was ∙ p.promised ∙ ap (λ (n : ℕ). n + used) (sym promised_now);
      all_seen = p.all_seen ∙ ap length (sym history_now);
    }

-- Actors.

pub actor-new : {A : Type 0} (f : ActorValue → A) (actors : ℕ → ActorValue) (n : ℕ) (now : ActorValue) → IsNewAt (λ a. f (cond (eqb a n) now (actors a))) (λ a. f (actors a)) n (f (actors n)) (f now)
actor-new f actors n now = record {
  was_there = refl;
  is_there = ap f (actor-at actors n now);
  elsewhere = (λ a ne. ap f (actor-off actors n now a ne));
}
