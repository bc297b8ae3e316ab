-- A session's query over everything: at most two steps are counted for each part that it ends or sends on.
use Rattle.std.proofs.{Common.{◌≡◌, ◌∙◌, ℕ, zero, suc, ◌<◌, ◌≤◌, ◌^◌, ◌+◌, ◌*◌, ◌-◌, ◌⊎◌, All, List, [], ◌∷◌, ◌++◌, length, map, Bool, true, false, Option, Some, None, is_some, nat_lt, inl, inr, refl, sym, ap, subst, arith}, lemmas.List.Elements.{All-head, All-tail}}
use mathlib.Core.Logic.{dite}
use native.Mathlib.Decide.{dec_lt}
use Rattle.std.proofs.lemmas.Bool.Decides.{nat_tests}
use Rattle.std.specs.Prelude.{option_and_then, if◌then◌else◌}
use Rattle.actor_run.specs.Everything.{AreAllPicks, HasSpent, IsFew, IsFewFor}
use Rattle.whole_steps.specs.core_counts.specs.{Ahead.{most_ahead, moves, splits}, Counting.{one_more, went_after, went_if}}
use Rattle.dim_hierarchy.specs.{Dimension.Dimension, Filter.{IsFilterNamed, pick_at, pick_named, picks}, declared.filter.{NamePick.NamePick, Pick.Pick}}
use Rattle.dim_hierarchy.specs.declared.filter.Pick.TheVariants as pick
use Rattle.dim_hierarchy.specs.declared.filter.NamePick.TheVariants as by_name
use Rattle.row_ledger.proofs.{Fresh.kind-within, Positions.{event_at-here, event_at-older}}
use Rattle.row_ledger.specs.{Past.{Query, event_at, query_at, query_in}, Shards.ids_made, declared.event.Event.{Event, TheVariants.Split}}
use Rattle.turn_table.specs.Numbered.{Extends}
use Rattle.whole_steps.specs.core_image.specs.Told.{asked_by}
use Rattle.whole_steps.specs.core_tree.specs.ReadDue.{IsOfAll}
use Rattle.whole_steps.specs.part_steps.specs.{Counts.{Costs, HasReadAlone, IsOfEverything}, Goings.WentOn, Parts.IsUnread}
use Rattle.whole_steps.specs.seat_steps.specs.declared.floor.{Floor.Floor, Player.Player}
use Rattle.whole_steps.specs.session_steps.specs.{Begins.HasAsked, Commands.{HasEnded, IsFurtherWork, IsStillOpen}, declared.commands.End.End}
use Rattle.whole_steps.specs.volap_cell.specs.{Commands.server_of, ImageKinds.doing, Values.{ActorValue, ErrandValue, actor_of}, declared.command.{Command.Command, Work.Work}}
use Rattle.whole_steps.specs.volap_cell.specs.declared.command.Work.TheVariants as work_is

-- The picks of a filter.

all-at : (h : List Dimension) (names : List NamePick) (f : List Pick) → picks h names ≡ map Some f → AreAllPicks names → (dim : ℕ) → pick_at f dim ≡ pick.All
all-at h names [] e all dim = refl
all-at [] names (p ∷ f) e all dim = absurd (cc)
all-at (d ∷ h) [] (p ∷ f) e all dim = absurd (cc)
all-at (d ∷ h) (n ∷ names) (p ∷ f) e all zero =
    let both : pick_named d n ∷ picks h names ≡ Some p ∷ map Some f = e in
    let first : n ≡ by_name.All = All-head (λ (p : NamePick). p ≡ by_name.All) n names all in
    let here : pick_named d n ≡ Some p = cc in
    let same : Some pick.All ≡ Some p = ap (pick_named d) (sym first) ∙ here in
    let is : p ≡ pick.All = cc in
    is
all-at (d ∷ h) (n ∷ names) (p ∷ f) e all (suc dim) =
    let both : pick_named d n ∷ picks h names ≡ Some p ∷ map Some f = e in
    let rest : picks h names ≡ map Some f = cc in
    all-at h names f rest (All-tail (λ (p : NamePick). p ≡ by_name.All) n names all) dim

-- a filter of names that are All is one of everything
pub of-all : (h : List Dimension) (names : List NamePick) (f : List Pick) → IsFilterNamed h names f → AreAllPicks names → IsOfAll h f
of-all h names f named all dim within = all-at h names f named.picks_are all dim

-- How often parts go on.

ids-split : (workers : ℕ) (h : List Event) → ids_made workers h ≡ workers + 2 * splits h
ids-split workers [] = omega arith
ids-split workers (Split of shard left right ∷ past) = (let rest = ids-split workers past in omega (arith, rest))
ids-split workers (_ ∷ past) = (let rest = ids-split workers past in omega (arith, rest))

-- A query stays where it began while the history grows.
query-later : (newer h : List Event) (of : ℕ) (q : Query) → query_at h of ≡ Some q → query_at (newer ++ h) of ≡ Some q
query-later [] h of q at = at
query-later (e ∷ newer) h of q at =
    let rest = query-later newer h of q at in
    ap (option_and_then query_in) (event_at-older e (newer ++ h) of (kind-within query_in (newer ++ h) of q rest)) ∙ rest

query-on : (was now : List Event) (of : ℕ) (q : Query) → Extends now was → query_at was of ≡ Some q → query_at now of ≡ Some q
query-on was now of q later at = ap (λ (h : List Event). query_at h of) later.1 ∙ query-later later.0 was of q at

-- Counts.

abbrev most : ℕ
most = 2 ^ 64 - 1

-- it is one more, or there are as many as can be counted
one-more : (went : ℕ) → (one_more went ≡ went + 1) ⊎ ((most ≤ went) × (one_more went ≡ went))
one-more went = dite (dec_lt went most)
    (λ (lt : went < most). inl (let small : nat_lt went most ≡ true = grind (arith, nat_tests) in rw small refl))
    (λ (ge : ¬ (went < most)). inr (omega arith, (let great : nat_lt went most ≡ false = grind (arith, nat_tests) in rw great refl)))

few-more : (went next first old new : ℕ) → (next ≡ went + 1) ⊎ ((most ≤ went) × (next ≡ went)) → IsFewFor went 0 first old → new ≤ old + 2 → IsFewFor next 0 first new
few-more went next first old new (inl one) (inl few) cost = inl (omega arith)
few-more went next first old new (inl one) (inr full) cost = inr (omega arith)
few-more went next first old new (inr (full, same)) few cost = inr (omega arith)

few-behind : (went next first old new : ℕ) → (next ≡ went + 1) ⊎ ((most ≤ went) × (next ≡ went)) → IsFewFor went 2 first old → new ≡ old → IsFewFor next 0 first new
few-behind went next first old new (inl one) (inl few) cost = inl (omega arith)
few-behind went next first old new (inl one) (inr full) cost = inr (omega arith)
few-behind went next first old new (inr (full, same)) few cost = inr (omega arith)

few-ahead : (went first old new : ℕ) → IsFewFor went 0 first old → new ≤ old + 2 → IsFewFor went 2 first new
few-ahead went first old new (inl few) cost = inl (omega arith)
few-ahead went first old new (inr full) cost = inr full

-- An actor is at a part or at none.

at-none : {X : Type 0} (x : ActorValue) → is_some x.errand ≡ true → x.errand ≡ None → X
at-none x some none = (let never : true ≡ false = sym some ∙ ap (λ (o : Option ErrandValue). is_some o) none in absurd (cc))

read-none : {X : Type 0} (x : ActorValue) → HasReadAlone x → x.errand ≡ None → X
read-none x read none = at-none x (ap (λ (o : Option ErrandValue). is_some o) read.errand) none

-- The beginning.

module _ (f : Floor) (of : ℕ) (filter : List Pick) (was now : Player) (has : HasAsked f of filter was now) where
  pub spent-none : (actor_of was.actor).errand ≡ None → IsOfAll f.hierarchy filter → (count : ℕ) → HasSpent f now count count
  spent-none no_part all count = record {
    of = of;
    command = ap (λ (x : ActorValue). x.command) has.actor;
    query = record { server = server_of (actor_of was.actor).role; filter = filter };
    asked = ap (λ (h : List Event). query_at h of) has.pushed.now_is ∙ ap (λ (k : ℕ). query_at (asked_by filter (actor_of was.actor) (length has.pushed.older) ∷ has.pushed.older) k) has.position
        ∙ ap (option_and_then query_in) (event_at-here (asked_by filter (actor_of was.actor) (length has.pushed.older)) has.pushed.older);
    all = all;
    spent = inl (inl (ap (λ (x : ActorValue). x.errand) has.actor ∙ no_part), inl (omega arith));
  }

module _ (f : Floor) (was now : Player) (first old : ℕ) (spent : HasSpent f was first old) where
  abbrev a : ActorValue
  a = actor_of was.actor

  abbrev b : ActorValue
  b = actor_of now.actor

  abbrev AtStart : ActorValue → Type 0
  AtStart x = (x.errand ≡ None) ⊎ IsOfEverything f.hierarchy x

  -- A step of a part.
  module _ (new : ℕ) (went : WentOn f was now) (costs : Costs f.hierarchy a old new) (some : is_some a.errand ≡ true) where
    -- it is counted where the part is no more
    counted : b.errand ≡ None → now.actor.went ≡ one_more was.actor.went
    counted none = went.counted ∙ (λ i. went_if (is_some (spent.command i)) (some i) (is_some (none i)) was.actor.went)

    -- and else not
    uncounted : HasReadAlone b → now.actor.went ≡ was.actor.went
    uncounted read = went.counted ∙ (λ i. went_if (is_some (spent.command i)) (some i) (is_some (read.errand i)) was.actor.went)

    spent-there : (AtStart a × IsFewFor was.actor.went 0 first old) ⊎ (HasReadAlone a × IsFewFor was.actor.went 2 first old)
        → (AtStart b × IsFewFor now.actor.went 0 first new) ⊎ (HasReadAlone b × IsFewFor now.actor.went 2 first new)
    spent-there (inl (inl none, few)) = at-none a some none
    spent-there (inl (inr all, few)) = elim (went.alone all) [
      | inl none ↦ inl (inl none, subst (λ (n : ℕ). IsFewFor n 0 first new) (sym (counted none)) (few-more was.actor.went (one_more was.actor.went) first old new (one-more was.actor.went) few (costs.before all)))
      | inr read ↦ inr (read, subst (λ (n : ℕ). IsFewFor n 2 first new) (sym (uncounted read)) (few-ahead was.actor.went first old new few (costs.before all)))
    ]
    spent-there (inr (read, few)) =
        let none = went.over read in
        inl (inl none, subst (λ (n : ℕ). IsFewFor n 0 first new) (sym (counted none)) (few-behind was.actor.went (one_more was.actor.went) first old new (one-more was.actor.went) few (costs.behind read)))

    pub spent-part : HasSpent f now first new
    spent-part = record {
      of = spent.of;
      command = ap (λ (x : ActorValue). x.command) went.beside ∙ spent.command;
      query = spent.query;
      asked = query-on was.seat.view.seen now.seat.view.seen spent.of spent.query went.seen spent.asked;
      all = spent.all;
      spent = spent-there spent.spent;
    }

  -- A step of the command at no part.
  module _ (no_part : a.errand ≡ None) where
    few-now : IsFewFor was.actor.went 0 first old
    few-now = elim spent.spent [
      | inl t ↦ t.1
      | inr t ↦ read-none a t.0 no_part
    ]

    -- it doesn't end it
    pub spent-command : IsStillOpen f was now → HasSpent f now first old
    spent-command still =
        let c = still.command spent.of work_is.Query spent.command in
        let at_start : AtStart b = elim (still.asks spent.of spent.query spent.command spent.asked) [
          | inl none ↦ inl none
          | inr t ↦ inr (record { unread = t.0; all = subst (λ (l : List Pick). IsOfAll f.hierarchy l) (sym t.1) spent.all })
        ] in
        record {
          of = spent.of;
          command = ap (λ (x : ActorValue). x.command) c.2 ∙ ap (doing spent.of) c.1;
          query = spent.query;
          asked = query-on was.seat.view.seen now.seat.view.seen spent.of spent.query still.seen spent.asked;
          all = spent.all;
          spent = inl (at_start, subst (λ (n : ℕ). IsFewFor n 0 first old) (sym still.went) few-now);
        }

    -- or it does
    pub spent-few : (r : End) → old < 2 ^ 64 → HasEnded f r was now → IsFew f now.seat.view.seen first old
    spent-few r low ended =
        let parts : was.actor.went ≤ most_ahead f.with.workers now.seat.view.seen = ended.few spent.of spent.command in
        let ids = ids-split f.with.workers now.seat.view.seen in
        elim few-now [
          | inl few ↦ omega (arith, parts, ids)
          | inr full ↦ omega (arith, parts, ids)
        ]
