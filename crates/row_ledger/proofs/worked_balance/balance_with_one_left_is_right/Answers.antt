use Rattle.std.proofs.{Common.{◌≡◌, ◌+◌, ℕ, zero, suc, List, [], ◌∷◌, refl, length, arith}, lemmas.List.Elements.{All-from_recursion, All-contains_itself}}
use Rattle.dim_hierarchy.specs.declared.row.Row.{Row}
use Rattle.row_ledger.specs.{Kept.KeepsRight, Past.{before, begun, acked}, Work.{Reading, IsRead, IsRightBalance}, Worked.site, WorkedBalance.{crowd_row, crowd, to_balance, balanced}, declared.event.Event.Event, declared.event.Event.TheVariants.{Called, Moved, Left, Ended}, declared.settings.Call.TheVariants.{Split, Move, Balance}, declared.settings.How.TheVariants.{Fine, Balanced, Postponed}}
use Rattle.row_ledger.proofs.{Answering.begun-distinct, Growth.{KeepsRight-begun, KeepsRight-called, KeepsRight-split, KeepsRight-moved, KeepsRight-left, KeepsRight-ended, IsRight-kept}, Opened.opened_right, PulledRight.all}
use Rattle.row_ledger.proofs.worked_balance.balance_with_one_left_is_right.Goals as goal

crowd_length : (n : ℕ) → n + 2 ≡ length (crowd n)
crowd_length zero = refl
crowd_length (suc n) = let shorter : n + 2 ≡ length (crowd n) = crowd_length n in omega arith

crowd_right : (n : ℕ) → KeepsRight site all (crowd n)
crowd_right zero = opened_right all
crowd_right (suc n) = KeepsRight-begun site all (crowd n) 0 0 (crowd_row n) (crowd_right n) (crowd_length n)

moved_right : KeepsRight site all (Ended 37 Fine ∷ Moved 37 1 0 ∷ Called 3 (Move 1 0) ∷ crowd 35)
moved_right =
    let called = KeepsRight-called site all (crowd 35) 3 (Move 1 0) tt (crowd_right 35) in
    let done = KeepsRight-moved site all _ 37 1 0 called
    (record { call = Move 1 0; called = refl; is_open = refl; asked = (refl, refl); live = refl }) in
    KeepsRight-ended site all _ 37 Fine done (record { call = Move 1 0; called = refl; is_open = refl; may_end = (refl, (refl, refl)); page = refl })

to_balance_right : KeepsRight site all to_balance
to_balance_right =
    let called = KeepsRight-called site all _ 3 (Split 0) tt moved_right in
    let done = KeepsRight-split site all _ 40 0 2 3 called
    (record { done = record { call = Split 0; called = refl; is_open = refl; asked = (refl, refl); live = refl }; next = refl; after = refl }) in
    let ended = KeepsRight-ended site all _ 40 Fine done (record { call = Split 0; called = refl; is_open = refl; may_end = (refl, refl); page = refl }) in
    KeepsRight-called site all _ 3 (Balance 4) tt ended

-- two rows stand alone in their shards, and all others in the third one

abbrev reading : ℕ → List Row → Reading
reading shard rows = record { load = record { shard = shard; worker = 0; rows = length rows }; rows = rows }

abbrev readings : List Reading
readings = reading 1 (crowd_row 34 ∷ []) ∷ reading 2 (crowd_row 33 ∷ []) ∷ reading 3 (begun (crowd 33)) ∷ []

abbrev to_end : List Event
to_end = Left 43 2 Postponed ∷ Moved 43 1 1 ∷ to_balance

balance_right : IsRightBalance site all to_end 43 4 1 2
balance_right = record {
  readings = readings;
  places = refl;
  counts = All-from_recursion (λ (r : Reading). r.load.rows ≡ length r.rows) readings (refl, (refl, (refl, tt)));
  once = begun-distinct site all (crowd 35) (crowd_right 35).right.each;
  allowed = All-contains_itself (begun (crowd 35));
  came = All-from_recursion (IsRead (before to_end 43) readings) (acked (before to_end 43)) tt;
  actions = refl;
  events = ((refl, refl), (refl, tt));
  did = refl;
}

pub returns : goal.returns
returns c =
    let done = KeepsRight-moved site all to_balance 43 1 1 to_balance_right
    (record { call = Balance 4; called = refl; is_open = refl; asked = tt; live = refl }) in
    let left = KeepsRight-left site all _ 43 2 Postponed done
    (record { call = Balance 4; most = 4; called = refl; is_open = refl; plans = refl; may_leave = tt }) in
    IsRight-kept site all balanced
    (KeepsRight-ended site all to_end 43 (Balanced 1 2) left
    (record { call = Balance 4; called = refl; is_open = refl; may_end = balance_right; page = refl }))
