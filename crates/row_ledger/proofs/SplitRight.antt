-- The worked splits and pages are right.
use Rattle.std.proofs.Common.{[], ◌∷◌, refl}
use Rattle.dim_hierarchy.specs.Tree.{is_under, way_up}
use Rattle.row_ledger.specs.{Kept.{CanAnswer, KeepsRight}, Worked.{site, row, once}, WorkedPulls.inserted, WorkedShards.{other, two_cities, for_berlin, to_split, split, across_split}, declared.event.Event.TheVariants.{Asked, Called, Ended}, declared.settings.Call.TheVariants.Split, declared.settings.How.TheVariants.Fine}
use Rattle.row_ledger.specs.declared.event.Event.TheVariants as event
use Rattle.row_ledger.proofs.{Answering.{CanAnswer-older, CanAnswer-insert, KeepsRight-insert, IsRightAnswer-flat}, Growth.{KeepsRight-asked, KeepsRight-called, KeepsRight-split, KeepsRight-ended, KeepsRight-answered}, PulledRight.{all, inserted_right, inserted_answer}}

two_cities_right : KeepsRight site all two_cities
two_cities_right = KeepsRight-insert site all inserted 0 0 other (0 ∷ []) inserted_right refl refl

two_cities_answer : CanAnswer all two_cities (other ∷ row ∷ [])
two_cities_answer = CanAnswer-insert site all inserted (row ∷ []) 0 0 other (0 ∷ []) inserted_right inserted_answer refl refl

pub to_split_right : KeepsRight site all to_split
to_split_right = KeepsRight-called site all _ 3 (Split 0) tt (KeepsRight-asked site all two_cities 0 0 for_berlin two_cities_right)

pub to_split_answer : CanAnswer all to_split (other ∷ row ∷ [])
to_split_answer = CanAnswer-older all (Called 3 (Split 0)) _ _ (CanAnswer-older all (Asked 0 0 for_berlin) two_cities _ two_cities_answer refl) refl

split_right : KeepsRight site all split
split_right =
    let done = KeepsRight-split site all to_split 7 0 2 3 to_split_right
    (record { done = record { call = Split 0; called = refl; is_open = refl; asked = (refl, refl); live = refl }; next = refl; after = refl }) in
    KeepsRight-ended site all (event.Split 7 0 2 3 ∷ to_split) 7 Fine done
    (record { call = Split 0; called = refl; is_open = refl; may_end = (refl, refl); page = refl })

split_answer : CanAnswer all split (other ∷ row ∷ [])
split_answer = CanAnswer-older all (Ended 7 Fine) _ _ (CanAnswer-older all (event.Split 7 0 2 3) to_split _ to_split_answer refl) refl

pub across_right : KeepsRight site all (across_split once)
unfolding is_under way_up
across_right =
    KeepsRight-answered site all split 6 once split_right
    (IsRightAnswer-flat site all split (other ∷ row ∷ []) split_answer 6 (record { server = 0; filter = for_berlin }) refl refl)
