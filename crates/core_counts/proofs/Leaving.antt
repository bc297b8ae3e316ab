-- Changes that leave the parts of a desk as they are, or give the desk to another command.
use Rattle.std.proofs.{Common.{◌≡◌, ◌≢◌, ◌∙◌, ◌⊎◌, inl, inr, ℕ, Bool, true, false, cond, eqb, List, [], ◌∷◌, ◌++◌, Option, Some, None, refl, sym, ap, subst}, lemmas.Bool.{eqb-true, false≢true}}
use Rattle.query_router.specs.{Desk.DeskValue, declared.part.Part.Part}
use Rattle.list_words.proofs.Truth.{on_bool}
use Rattle.list_words.specs.Counts.{Each}
use Rattle.core_shard.specs.volap_cell.proofs.Views.Frames.{AreAt}
use Rattle.core_shard.specs.volap_cell.specs.{AdminKinds.MovesIn, Cells.{BlockCell, CellValue, DeskCell, DeskOf, Tag, desk_in, tag_of}, ImageKinds.cleared, ShardKinds.TurnsDesk, TreeKinds.{AreBehind, AreFilled, IsTailIf, most_behind}, Values.JobValue, World.{Change, put}}

abbrev is_desk : Tag → Bool
is_desk (DeskOf server) = true
is_desk _ = false

-- the parts are as before, or the desk is another command's
abbrev pub Leaves : DeskValue → DeskValue → Type 0
Leaves was now = (now.parts ≡ was.parts) ⊎ (now.op ≢ was.op)

-- a changed cell is no desk, or leaves it so
abbrev pub IsOff : Change → Type 0
IsOff c = (is_desk (tag_of c.now) ≡ false) ⊎ Leaves (desk_in c.before) (desk_in c.now)

pub off : (c : Change) (x : CellValue) → c.now ≡ x → is_desk (tag_of x) ≡ false → IsOff c
off c x is other = inl (ap (λ (y : CellValue). is_desk (tag_of y)) is ∙ other)

pub same : (c : Change) → c.now ≡ c.before → IsOff c
same c is = inr (inl (ap (λ (y : CellValue). (desk_in y).parts) is))

pub turned : (c : Change) (server : ℕ) (desk desk_now : DeskValue) → TurnsDesk server desk desk_now c → Leaves desk desk_now → IsOff c
turned c server desk desk_now t leaves = inr (subst (λ (d : DeskValue). Leaves d (desk_in c.now)) (sym (ap desk_in t.was)) (subst (λ (d : DeskValue). Leaves desk d) (sym (ap desk_in t.is)) leaves))

-- a desk that had a command has none, and one that had none has one

pub clears : (desk : DeskValue) (of : ℕ) → desk.op ≡ Some of → Leaves desk (cleared desk)
clears desk of is = inr (λ e. let never : ◌≡◌ {A = Option ℕ} None (Some of) = e ∙ is in cc)

pub opens : (desk : DeskValue) (of : ℕ) (parts : List Part) → desk.op ≡ None → Leaves desk (record desk { op = Some of; parts = parts })
opens desk of parts was = inr (λ e. let never : ◌≡◌ {A = Option ℕ} None (Some of) = sym was ∙ sym e in cc)

-- a cell that is no desk has no parts
no-parts : (x : CellValue) → is_desk (tag_of x) ≡ false → (desk_in x).parts ≡ []
no-parts (DeskCell server desk) is = absurd (false≢true (sym is))
no-parts _ is = refl

-- a cell that stays what it is, behind such changes
pub leaves : (cs : List Change) (cells : ℕ → CellValue) (y : ℕ) → AreAt cells cs → Each IsOff cs → tag_of (put cs cells y) ≡ tag_of (cells y) → Leaves (desk_in (cells y)) (desk_in (put cs cells y))
leaves [] cells y at off tag = inl refl
leaves (c ∷ cs) cells y at off tag = on_bool (eqb y c.number)
    (λ q.
    let here : put (c ∷ cs) cells y ≡ c.now = ap (λ (b : Bool). cond b c.now (put cs cells y)) q in
    let was : cells y ≡ c.before = ap cells (eqb-true y c.number q) ∙ at.0 in
    subst (λ (x : CellValue). Leaves (desk_in (cells y)) (desk_in x)) (sym here) (elim off.0 [
      | inl apart ↦ (let before : is_desk (tag_of (cells y)) ≡ false = ap is_desk (sym tag ∙ ap tag_of here) ∙ apart in inl (no-parts c.now apart ∙ sym (no-parts (cells y) before)))
      | inr stays ↦ subst (λ (x : CellValue). Leaves (desk_in x) (desk_in c.now)) (sym was) stays
    ]))
    (λ q.
    let there : put (c ∷ cs) cells y ≡ put cs cells y = ap (λ (b : Bool). cond b c.now (put cs cells y)) q in
    subst (λ (x : CellValue). Leaves (desk_in (cells y)) (desk_in x)) (sym there) (leaves cs cells y at.1 off.1 (ap tag_of (sym there) ∙ tag)))

-- Lists of changes.

pub each-append : (xs ys : List Change) → Each IsOff xs → Each IsOff ys → Each IsOff (xs ++ ys)
each-append [] ys a b = b
each-append (x ∷ xs) ys a b = (a.0, each-append xs ys a.1 b)

-- blocks behind a head, and new ones

behind-off : (expected most : ℕ) (block : _) (tail : List Change) → AreBehind expected most block tail → Each IsOff tail
behind-off expected most block [] b = tt
behind-off expected most block (c ∷ tail) b = (same c b.4.same, behind-off expected b.0 _ tail b.5)

pub tail-off : (full : Bool) (expected : ℕ) (head : _) (tail : List Change) → IsTailIf full expected head tail → Each IsOff tail
tail-off true expected head tail b = behind-off expected most_behind head tail b
tail-off false expected head tail b = subst (Each IsOff) (sym b) tt

pub filled-off : (fresh : _) (cs : List Change) → AreFilled fresh cs → Each IsOff cs
filled-off [] [] f = tt
filled-off [] (c ∷ cs) f = absurd f
filled-off (x ∷ fresh) [] f = absurd f
filled-off (x ∷ fresh) (c ∷ cs) f = (off c (BlockCell x.block) f.1 refl, filled-off fresh cs f.2)

pub same-off : (cs : List Change) → Each (λ c. c.now ≡ c.before) cs → Each IsOff cs
same-off [] e = tt
same-off (c ∷ cs) e = (same c e.0, same-off cs e.1)

-- the tables that a move changes
pub moves-off : (maps : List Change) (job : JobValue) (to gate : ℕ) → MovesIn maps job to gate → Each IsOff maps
moves-off [] job to gate m = absurd m
moves-off (m ∷ []) job to gate d = (off m _ d.1.2 refl, tt)
moves-off (m ∷ n ∷ []) job to gate d = (off m _ d.1.2 refl, (off n _ d.2.2 refl, tt))
moves-off (m ∷ n ∷ x ∷ more) job to gate d = absurd d
