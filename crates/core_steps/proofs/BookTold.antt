-- What a step at a desk or an image asks and tells, with the step and its cells at hand.
use Rattle.std.proofs.Common.{◌≡◌, List, ◌∷◌, Option, Some, [], sym, subst}
use Rattle.core_steps.specs.{Books.{book_asks, book_tells}, Places.{held, values}, declared.books.BookStep.BookStep, declared.step.Others.Others}
use Rattle.dim_hierarchy.specs.Dimension.{Dimension}
use Rattle.core_shard.specs.volap_cell.specs.{Cells.CellValue, Values.ActorValue, declared.cell.Cell.Cell}

module _ {step : BookStep} (is : BookStep) (same : step ≡ is) {first second : Option Cell} {x y : Cell} (one : first ≡ Some x) (two : second ≡ Some y) (o : Others) where
  pub told-two : (a : ActorValue) (now : List (Option CellValue)) → book_tells is a (values (held (Some x) (Some y) o)) now → book_tells step a (values (held first second o)) now
  told-two a now told = subst (λ (s : BookStep). book_tells s a (values (held first second o)) now) (sym same)
      (subst (λ (c : Option Cell). book_tells is a (values (held c second o)) now) (sym one) (subst (λ (c : Option Cell). book_tells is a (values (held (Some x) c o)) now) (sym two) told))

  pub asked-two : (h : List Dimension) (a : ActorValue) → book_asks step h (values (held first second o)) a → book_asks is h (values (held (Some x) (Some y) o)) a
  asked-two h a asked = subst (λ (s : BookStep). book_asks s h (values (held (Some x) (Some y) o)) a) same
      (subst (λ (c : Option Cell). book_asks step h (values (held (Some x) c o)) a) two (subst (λ (c : Option Cell). book_asks step h (values (held c second o)) a) one asked))

  -- with a third one
  pub told-three : {z : Cell} (three : o.third ≡ Some z) (a : ActorValue) (now : List (Option CellValue))
      → book_tells is a (values (Some x ∷ Some y ∷ Some z ∷ o.fourth ∷ o.fifth ∷ o.sixth ∷ o.seventh ∷ [])) now → book_tells step a (values (held first second o)) now
  told-three three a now told = told-two a now (subst (λ (c : Option Cell). book_tells is a (values (Some x ∷ Some y ∷ c ∷ o.fourth ∷ o.fifth ∷ o.sixth ∷ o.seventh ∷ [])) now) (sym three) told)
