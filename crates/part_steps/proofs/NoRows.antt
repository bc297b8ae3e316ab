-- A part that is no row's makes no step of a row.
use Rattle.std.proofs.Common.{◌≡◌, ◌∙◌, List, [], ◌∷◌, Some, sym, ap}
use Rattle.seat_steps.specs.core_steps.specs.Rows.{row_kind}
use Rattle.seat_steps.specs.core_steps.specs.declared.rows.RowStep.{RowStep}
use Rattle.seat_steps.specs.core_steps.specs.declared.rows.RowStep.TheVariants as row
use Rattle.dim_hierarchy.specs.Dimension.{Dimension}
use Rattle.list_words.proofs.Elements.{Some-same}
use Rattle.part_steps.specs.{Counts.HasReadAlone, Parts.IsUnread}
use Rattle.seat_steps.specs.volap_cell.specs.{Kinds.Does, TreeKinds.HasRow, Values.{ActorValue, ErrandValue, OfRow, Read, Unread}, World.Change, declared.errand.RowErrand.RowErrand}
use Rattle.seat_steps.specs.volap_cell.specs.declared.kind.Kind.TheVariants as kind

-- the errand is no row's
abbrev pub IsNoRow : ErrandValue → Type 0
IsNoRow e = (r : RowErrand) → e.task ≡ OfRow r → ⊥

-- an actor has one errand
pub its-task : (a : ActorValue) (e d : ErrandValue) → a.errand ≡ Some e → a.errand ≡ Some d → e.task ≡ d.task
its-task a e d is has = ap (λ (z : ErrandValue). z.task) (sym (Some-same e d (sym is ∙ has)))

module _ {a : ActorValue} where
  -- a query's part is none, before its gate and behind it

  pub unread-alone : (u : IsUnread a) → IsNoRow u.e
  unread-alone u r task = (let never : Unread u.filter ≡ OfRow r = sym u.unread ∙ task in cc)

  pub read-alone : (k : HasReadAlone a) → IsNoRow k.e
  read-alone k r task = (let never : Read k.reading ≡ OfRow r = sym k.task ∙ task in cc)

pub no-row : (a : ActorValue) (e : ErrandValue) → a.errand ≡ Some e → IsNoRow e → (d : ErrandValue) (r : RowErrand) → HasRow a d r → ⊥
no-row a e errand off d r has = off r (its-task a e d errand has.errand ∙ has.row)

module _ (h : List Dimension) (a b : ActorValue) (e : ErrandValue) (errand : a.errand ≡ Some e) (off : IsNoRow e) where
  -- Trees.

  pub no-put : (cs : List Change) → Does h kind.PutInLeaf cs a b → ⊥
  no-put (c ∷ []) does = no-row a e errand off does.e does.r does.has
  no-put cs does = does

  pub no-leaving : (cs : List Change) → Does h kind.LeaveTree cs a b → ⊥
  no-leaving (g ∷ []) does = no-row a e errand off does.e does.r does.has
  no-leaving cs does = does

  pub no-queue : (cs : List Change) → Does h kind.EnterQueue cs a b → ⊥
  no-queue (m ∷ g ∷ []) does = no-row a e errand off does.e does.r does.has
  no-queue cs does = does

  -- Rows.

  no-down : (cs : List Change) → Does h kind.Down cs a b → ⊥
  no-down (p ∷ c ∷ others) does = no-row a e errand off does.e does.r does.has
  no-down cs does = does

  no-entrance : (cs : List Change) → Does h kind.EnterTree cs a b → ⊥
  no-entrance (m ∷ g ∷ root ∷ others) does = no-row a e errand off does.e does.r does.has
  no-entrance cs does = does

  pub row-not : (step : RowStep) (cs : List Change) → Does h (row_kind step) cs a b → ⊥
  row-not (row.Down parent place child first second fresh) cs does = no-down cs does
  row-not (row.EnterTree table gate root first second fresh top) cs does = no-entrance cs does
