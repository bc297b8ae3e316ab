-- An actor's command ends that isn't acknowledged: what the parts keep that read commands and no desk, and when it fails rightly.
use Rattle.std.proofs.{Common.{◌≡◌, ◌≢◌, ℕ, List, ◌∷◌, Bool, true, false, Option, Some, None, sym, ap, ◌∙◌, inl, inr, ◌||◌, ◌&&◌, ◌<◌, [], eqb, is_some, option_and_then, refl, zero, suc, arith, Contains}, lemmas.Bool.{false≢true, or_left, or_right, eqb-true, eqb-false}}
use Rattle.std.specs.{List.list_any, Option.option_map_or}
use Rattle.dim_hierarchy.specs.declared.row.Row.{Row}
use Rattle.query_router.specs.{Desk.{DeskValue, is_open, verdict_of}, declared.part.Part.Part, declared.part.PartState.PartState, declared.part.Verdict.Verdict}
use Rattle.query_router.specs.declared.part.PartState.TheVariants as state
use Rattle.query_router.specs.declared.part.Verdict.TheVariants as verdict
use Rattle.row_ledger.specs.{Kept.KeepsRight, Past.{Insert, Query, event_at, has_ended, insert_at, query_at, session_in}, declared.event.Event.Event, declared.event.Event.TheVariants.Failed}
use Rattle.list_words.proofs.{Elements.Contains-nil, Truth.on_bool}
use Rattle.row_ledger.proofs.Growth.{KeepsRight-failed}
use Rattle.volap_cell.specs.shard_store.specs.declared.queue.Queue.{Queue}
use Rattle.volap_cell.specs.tree_shape.specs.Shape.{Shape}
use Rattle.volap_cell.specs.{Desking.{Desking, is_on_desk}, Errands.{RowWay, Taken}, ImageKinds.{cleared, doing}, Owing.{one_if, serves}, Placing.Placing, Setting.{Setting, actor_count, site_in}, Sums.sum_below, Telling.Telling, Values.JobValue, declared.command.Command.Command, declared.role.Role.Role}
use Rattle.volap_cell.specs.declared.command.Work.TheVariants as work_is
use Rattle.volap_cell.proofs.Views.Fields.{IsNewAt}
use Rattle.core_image.proofs.EachStep.Clears.{others-keep, still-has}

module _ (n : ℕ) (its : Command) (commands commands_now : ℕ → Option Command) (end : IsNewAt commands_now commands n (Some its) None) where
  -- what is said of each command is so of this one
  said : {A : Type 0} (f : Command → A) (none : A) (a : ℕ) (c : Command) → commands a ≡ Some c → a ≡ n → f c ≡ f its
  said f none a c has e = ap (λ (o : Option Command). option_map_or f o none) (sym has ∙ ap commands e ∙ end.was_there)

  -- the row of an insert that ends hasn't passed a gate
  pub ended-placing : (s : Setting) (h : List Event) (ways : ℕ → Option RowWay) (queues : ℕ → Queue) (gate : ℕ → ℕ) (shape : ℕ → Shape) (placed : ℕ → Bool) (home : ℕ → ℕ) (path : ℕ → List ℕ)
      → ((r : ℕ) (row : Row) → Some its ≡ doing r (work_is.Insert row true) → placed r ≡ false)
      → Placing s h commands ways queues gate shape placed home path → Placing s h commands_now ways queues gate shape placed home path
  ended-placing s h ways queues gate shape placed home path out i = record {
    one = i.one;
    stands = i.stands;
    begun = i.begun;
    line = i.line;
    acked_rows = i.acked_rows;
    others = λ r p. elim (i.others r p) [
      | inl k ↦ inl k
      | inr t ↦
          let ne : t.0 ≢ n = (λ e. false≢true (sym (out r t.1 (sym end.was_there ∙ ap commands (sym e) ∙ t.2)) ∙ p)) in
          inr (t.0, t.1, others-keep n its commands commands_now end t.0 _ ne t.2)
    ];
  }

  -- it stood on no desk
  pub ended-desking : (s : Setting) (h : List Event) (desks : ℕ → DeskValue) (roles : ℕ → Role) (taken : ℕ → Option Taken) → is_on_desk its.work ≡ false
      → Desking s h desks roles commands taken → Desking s h desks roles commands_now taken
  ended-desking s h desks roles taken off i = record {
    empty = i.empty;
    whose = λ x of within op.
        let (a, c, has, is, serves, on) = i.whose x of within op in
        let ne : a ≢ n = (λ e. false≢true (sym (said (λ (k : Command). is_on_desk k.work) false a c has e ∙ off) ∙ on)) in
        (a, c, others-keep n its commands commands_now end a c ne has, is, serves, on);
    on_desk = λ a x c has serves on. i.on_desk a x c (still-has n its commands commands_now end a c has).1 serves on;
    insert = i.insert;
    query = i.query;
    takers = i.takers;
    at_parts = i.at_parts;
    one = i.one;
  }

-- an insert whose row hasn't passed a gate may fail, and so may a query

pub insert-fails : (s : Setting) (placed : ℕ → Bool) (h : List Event) (of : ℕ) (insert : Insert) → KeepsRight (site_in s) placed h → insert_at h of ≡ Some insert → has_ended h of ≡ false → placed of ≡ false → KeepsRight (site_in s) placed (Failed of ∷ h)
insert-fails s placed h of insert right begun still out =
    KeepsRight-failed (site_in s) placed h of right out (record { begun = ap (λ (o : Option Insert). is_some o || is_some (query_at h of)) begun; is_open = still })

pub query-fails : (s : Setting) (placed : ℕ → Bool) (h : List Event) (of : ℕ) (query : Query) → KeepsRight (site_in s) placed h → query_at h of ≡ Some query → has_ended h of ≡ false → placed of ≡ false → KeepsRight (site_in s) placed (Failed of ∷ h)
query-fails s placed h of query right asked still out =
    KeepsRight-failed (site_in s) placed h of right out (record { begun = or_right (is_some (insert_at h of)) (is_some (query_at h of)) (ap is_some asked); is_open = still })

-- Desks.

-- one part for which there was no memory
pub one-refused : (p : Part) → verdict_of (p ∷ []) ≡ Some verdict.NoMemory → p.state ≡ state.NoMemory
one-refused p is = at p.state refl is
  where
    at : (st : PartState) → p.state ≡ st → verdict_of (record p { state = st } ∷ []) ≡ Some verdict.NoMemory → p.state ≡ state.NoMemory
    at (state.Waiting wanted) same is = absurd (cc)
    at state.Taken same is = absurd (cc)
    at (state.Done total) same is = absurd (cc)
    at (state.Placed path) same is = absurd (cc)
    at state.NoMemory same is = same

-- where no memory was found for a part, none is open
pub verdict-closed : (parts : List Part) → verdict_of parts ≡ Some verdict.NoMemory → list_any is_open parts ≡ false
verdict-closed parts is = on_bool (list_any is_open parts)
    (λ q. let none : verdict_of parts ≡ None = rw q refl in let never : ◌≡◌ {A = Option Verdict} None (Some verdict.NoMemory) = sym none ∙ is in absurd (cc))
    (λ q. q)

pub none-open : (parts : List Part) → list_any is_open parts ≡ false → (p : Part) → Contains parts p → is_open p ≡ true → ⊥
none-open [] off p has on = Contains-nil p has
none-open (x ∷ parts) off p (zero, k, is) on = false≢true (sym off ∙ or_left (is_open x) (list_any is_open parts) (ap is_open is ∙ on))
none-open (x ∷ parts) off p (suc j, k, is) on =
    let rest : list_any is_open parts ≡ false = on_bool (list_any is_open parts) (λ q. absurd (false≢true (sym off ∙ or_right (is_open x) (list_any is_open parts) q))) (λ q. q) in
    none-open parts rest p (j, omega arith, is) on

-- a command is one actor's
pub only-its : (s : Setting) (h : List Event) (commands : ℕ → Option Command) (jobs : ℕ → Option JobValue) (roles : ℕ → Role) (seen : ℕ → ℕ) (placed : ℕ → Bool) → Telling s h commands jobs roles seen placed
    → (n : ℕ) (its : Command) → commands n ≡ Some its → (a : ℕ) (c : Command) → commands a ≡ Some c → c.of ≡ its.of → a ≡ n
only-its s h commands jobs roles seen placed telling n its mine a c has is =
    let both : ◌≡◌ {A = Option ℕ} (Some a) (Some n) = sym (telling.own a c has) ∙ ap (λ (p : ℕ). option_and_then session_in (event_at h p)) is ∙ telling.own n its mine in cc

-- whoever is counted in at a desk stays so when it is cleared
pub cleared-sessions : (s : Setting) (server : ℕ) (desk : DeskValue) (desks desks_now : ℕ → DeskValue) → IsNewAt desks_now desks server desk (cleared desk) → (roles : ℕ → Role) (counted_in : ℕ → Bool)
    → ((x : ℕ) → x < s.servers → (desks x).sessions ≡ sum_below (actor_count s) (λ a. one_if (serves x (roles a) && counted_in a)))
    → (x : ℕ) → x < s.servers → (desks_now x).sessions ≡ sum_below (actor_count s) (λ a. one_if (serves x (roles a) && counted_in a))
cleared-sessions s server desk desks desks_now new roles counted_in is x lt = on_bool (eqb x server)
    (λ q. let e = eqb-true x server q in
    ap (λ (y : DeskValue). y.sessions) (ap desks_now e ∙ new.is_there) ∙ sym (ap (λ (y : DeskValue). y.sessions) (ap desks e ∙ new.was_there)) ∙ is x lt)
    (λ q. ap (λ (y : DeskValue). y.sessions) (new.elsewhere x (eqb-false x server q)) ∙ is x lt)
