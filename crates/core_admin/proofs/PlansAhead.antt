-- What is ahead of a balance, behind a move and behind a split.
use Rattle.std.proofs.{Common.{◌≡◌, ◌≢◌, ℕ, suc, ◌+◌, ◌≤◌, List, [], ◌∷◌, Bool, true, false, length, drop, slice_get, eqb, Option, Some, None, refl, sym, ap, ◌∙◌, subst, arith, All, ◌==◌, ◌||◌, eqb-true, zero, nat_le}, lemmas.Bool.{false≢true, eqb-false, ne_eqb}, lemmas.List.Elements.{All-head, All-tail, All-weaker, All-nil}}
use Rattle.std.specs.{List.list_any, Option.option_map_or, Prelude.{if◌then◌else◌}}
use Rattle.row_ledger.specs.{Shards.{is_live, frontier}, Workers.is_on, declared.event.Event.Event, declared.event.Event.TheVariants.{Moved, Split}}
use Rattle.shard_plan.specs.{Balancing.{after_move, emptiest, even_gap, gap, plan, plan_of_split, split_rows, to_look_at, to_move}, declared.action.Action.Action, declared.action.Load.Load}
use Rattle.list_words.proofs.Truth.{on_bool}
use Rattle.core_tree.specs.volap_cell.specs.{Commands.{after_action, stands_after}, Planning.{has_load, worker_among}, Setting.Setting, Values.JobValue, Working.{IsAhead, IsPlanned, StandsBy, action_of, action_to}, declared.command.Balance.Balance}
use Rattle.core_image.proofs.Commands.NextAction.{drop-at}
use Rattle.shard_plan.specs.declared.action.Action.TheVariants as action
use Rattle.core_admin.proofs.Moving.MovedShards.{on-here, on-other}

-- Where the loads stand behind a move: the shard on its new worker, and all others where they were.

at-moved : (loads : List Load) (shard to : ℕ) → list_any (λ (l : Load). l.shard == shard) loads ≡ true → worker_among (after_move loads shard to) shard ≡ to
at-moved [] shard to has = absurd (false≢true has)
at-moved (l ∷ loads) shard to has = (let rest = at-moved loads shard to in on_bool (l.shard == shard)
    (λ q. rw (q, q) refl)
    (λ q. let more : list_any (λ (z : Load). z.shard == shard) loads ≡ true = (let k : (false || list_any (λ (z : Load). z.shard == shard) loads) ≡ true = sym (ap (λ (b : Bool). b || list_any (λ (z : Load). z.shard == shard) loads) q) ∙ has in k) in
    rw (q, q) (rest more)))

at-other : (loads : List Load) (shard to x : ℕ) → x ≢ shard → worker_among (after_move loads shard to) x ≡ worker_among loads x
at-other [] shard to x ne = refl
at-other (l ∷ loads) shard to x ne = (let rest = at-other loads shard to x ne in on_bool (l.shard == shard)
    (λ q.
    let off : (l.shard == x) ≡ false = ne_eqb l.shard x (λ k. ne (sym k ∙ eqb-true l.shard shard q)) in
    rw (q, off) rest)
    (λ q. on_bool (l.shard == x)
    (λ k. rw (q, k) refl)
    (λ k. rw (q, k) rest)))

-- the same shards are among them
pub has-moved : (loads : List Load) (shard to x : ℕ) → has_load (after_move loads shard to) x ≡ has_load loads x
has-moved [] shard to x = refl
has-moved (l ∷ loads) shard to x = (let rest = has-moved loads shard to x in on_bool (l.shard == shard)
    (λ q. rw q (ap (λ (b : Bool). (l.shard == x) || b) rest))
    (λ q. rw q (ap (λ (b : Bool). (l.shard == x) || b) rest)))

module _ (s : Setting) (h : List Event) (placed : ℕ → Bool) (of to : ℕ) (job : JobValue) (to_is : job.to ≡ Some to) (live : is_live s.workers h job.shard ≡ true) (b : Balance) (actions : List Action)
    (planned : IsPlanned s h placed of b actions) (at : slice_get actions b.over ≡ Some (action_of job)) where
  abbrev e : Event
  e = Moved of job.shard to

  abbrev next : Balance
  next = after_action true job b

  all-ahead : All (IsAhead s h b.standing) (action_of job ∷ drop (suc b.over) actions)
  all-ahead = subst (All (IsAhead s h b.standing)) (drop-at b.over actions (action_of job) at) planned.ahead

  -- its shard is among the loads
  stands : has_load b.standing job.shard ≡ true
  stands = (subst (IsAhead s h b.standing) (ap (action_to job.shard) to_is) (All-head (IsAhead s h b.standing) (action_of job) (drop (suc b.over) actions) all-ahead)).0.0

  -- the loads stand as they do now
  now-standing : next.standing ≡ after_move b.standing job.shard to
  now-standing = ap (λ (o : Option ℕ). stands_after true job.shard o b.standing) to_is

  on-now : (x : ℕ) → is_on s.workers h x (worker_among b.standing x) ≡ true → is_on s.workers (e ∷ h) x (worker_among next.standing x) ≡ true
  on-now x was = subst (λ (loads : List Load). is_on s.workers (e ∷ h) x (worker_among loads x) ≡ true) (sym now-standing) (on_bool (eqb x job.shard)
      (λ q.
      let is = eqb-true x job.shard q in
      subst (λ (y : ℕ). is_on s.workers (e ∷ h) y (worker_among (after_move b.standing job.shard to) y) ≡ true) (sym is)
      (ap (is_on s.workers (e ∷ h) job.shard) (at-moved b.standing job.shard to stands) ∙ on-here job.shard to (frontier s.workers h) live))
      (λ q.
      let ne = eqb-false x job.shard q in
      ap (is_on s.workers (e ∷ h) x) (at-other b.standing job.shard to x ne) ∙ on-other job.shard to x (worker_among b.standing x) ne (frontier s.workers h) ∙ was))

  stands-now : (x : ℕ) → StandsBy s h b.standing x → StandsBy s (e ∷ h) next.standing x
  stands-now x i = (ap (λ (loads : List Load). has_load loads x) now-standing ∙ has-moved b.standing job.shard to x ∙ i.0, on-now x i.1)

  ahead-now : (a : Action) → IsAhead s h b.standing a → IsAhead s (e ∷ h) next.standing a
  ahead-now (action.Split x) i = stands-now x i
  ahead-now (action.Move x worker) i = (stands-now x i.0, i.1)

  pub moved-ahead : All (IsAhead s (e ∷ h) next.standing) (drop (b.over + 1) actions)
  moved-ahead = All-weaker (IsAhead s h b.standing) (IsAhead s (e ∷ h) next.standing) ahead-now (drop (b.over + 1) actions)
      (subst (λ (k : ℕ). All (IsAhead s h b.standing) (drop k actions)) (let on : suc b.over ≡ b.over + 1 = omega arith in on) (All-tail (IsAhead s h b.standing) (action_of job) (drop (suc b.over) actions) all-ahead))

-- A split is the last action of a plan.

-- what a plan has, by what is found of the loads
abbrev steps : List Load → ℕ → ℕ → Bool → Option Load → Option Load → List Action
steps loads workers n even moved looked =
    if even then [] else option_map_or (λ (l : Load). action.Move l.shard (emptiest loads workers) ∷ plan (after_move loads l.shard (emptiest loads workers)) workers n) moved (plan_of_split looked)

only-split : (b : Bool) (y x i : ℕ) → slice_get (if b then action.Split y ∷ [] else []) i ≡ Some (action.Split x) → length (if b then action.Split y ∷ [] else []) ≡ i + 1
only-split true y x zero is = refl
only-split true y x (suc i) is = (let no : ◌≡◌ {A = Option Action} None (Some (action.Split x)) = is in absurd (cc))
only-split false y x i is = (let no : ◌≡◌ {A = Option Action} None (Some (action.Split x)) = is in absurd (cc))

-- a split is a plan's last action
split-last : (workers x n : ℕ) (loads : List Load) (i : ℕ) → slice_get (plan loads workers n) i ≡ Some (action.Split x) → length (plan loads workers n) ≡ i + 1
split-last workers x zero loads i is = (let no : ◌≡◌ {A = Option Action} None (Some (action.Split x)) = is in absurd (cc))
split-last workers x (suc n) loads i is = at (λ more k there. split-last workers x n more k there) (nat_le (gap loads workers) even_gap) (to_move loads workers) (to_look_at loads workers) i is
  where
    at : ((more : List Load) (i : ℕ) → slice_get (plan more workers n) i ≡ Some (action.Split x) → length (plan more workers n) ≡ i + 1) → (even : Bool) (moved looked : Option Load) (i : ℕ) → slice_get (steps loads workers n even moved looked) i ≡ Some (action.Split x) → length (steps loads workers n even moved looked) ≡ i + 1
    at rest true moved looked i is = (let no : ◌≡◌ {A = Option Action} None (Some (action.Split x)) = is in absurd (cc))
    at rest false None None i is = (let no : ◌≡◌ {A = Option Action} None (Some (action.Split x)) = is in absurd (cc))
    at rest false None (Some l) i is = only-split (nat_le split_rows l.rows) l.shard x i is
    at rest false (Some l) looked zero is = (let no : ◌≡◌ {A = Option Action} (Some (action.Move l.shard (emptiest loads workers))) (Some (action.Split x)) = is in absurd (cc))
    at rest false (Some l) looked (suc i) is = (let more = rest (after_move loads l.shard (emptiest loads workers)) i is in omega (arith, more))

drop-past : {X : Type 0} (k : ℕ) (xs : List X) → length xs ≤ k → drop k xs ≡ []
drop-past zero [] le = refl
drop-past zero (x ∷ xs) le = absurd (omega (arith, le))
drop-past (suc k) [] le = refl
drop-past (suc k) (x ∷ xs) le = drop-past k xs (omega (arith, le))

pub split-ahead : (s : Setting) (h h2 : List Event) (placed : ℕ → Bool) (of : ℕ) (job : JobValue) → job.to ≡ None → (b : Balance) (actions : List Action) → IsPlanned s h placed of b actions → slice_get actions b.over ≡ Some (action_of job)
    → All (IsAhead s h2 (after_action true job b).standing) (drop (b.over + 1) actions)
split-ahead s h h2 placed of job to_is b actions planned at =
    let there : slice_get (plan b.loads s.workers b.most) b.over ≡ Some (action.Split job.shard) = ap (λ (xs : List Action). slice_get xs b.over) (sym planned.is_plan) ∙ at ∙ ap (λ (o : Option ℕ). Some (action_to job.shard o)) to_is in
    let last : length actions ≡ b.over + 1 = ap (λ (xs : List Action). length xs) planned.is_plan ∙ split-last s.workers job.shard b.most b.loads b.over there in
    subst (All (IsAhead s h2 (after_action true job b).standing)) (sym (drop-past (b.over + 1) actions (omega (arith, last)))) (All-nil (IsAhead s h2 (after_action true job b).standing))
