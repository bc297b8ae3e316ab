-- An administrator that uses cells again between two calls stays one and begins nothing; behind that its call ends as if it had been made before.
use Rattle.std.proofs.Common.{◌≡◌, ◌∙◌, ℕ, List, [], ◌∷◌, ◌++◌, inl, inr, refl, sym, ap, arith}
use Rattle.actor_run.proofs.Chains.{extends-length}
use Rattle.actor_run.specs.Called.{EndedCall, EndedSo, HasBegunNothing}
use Rattle.hall_admin.proofs.Keeping.{caller-stands, noted-behind, stays-behind, stays-idle}
use Rattle.hall_admin.specs.Callers.{IsCaller, StaysCaller}
use Rattle.job_steps.specs.Reuses.{HasReused, IsBetween, after_reuse}
use Rattle.job_steps.specs.seat_steps.proofs.Since.{extends-on}
use Rattle.job_steps.specs.core_steps.specs.declared.reuses.ReuseStep.{ReuseStep}
use Rattle.job_steps.specs.core_steps.specs.declared.reuses.ReuseStep.TheVariants as reuse
use Rattle.job_steps.specs.seat_steps.specs.declared.floor.{Floor.Floor, Player.Player}
use Rattle.job_steps.specs.volap_cell.specs.{Values.{ActorValue, actor_of}, declared.role.Role.Role}
use Rattle.job_steps.specs.volap_cell.specs.declared.role.Role.TheVariants.{Admin}
use Rattle.row_ledger.specs.declared.{event.Event.Event, settings.{Call.Call, How.How}}
use Rattle.row_ledger.specs.declared.settings.How.TheVariants as how_it
use Rattle.script_run.specs.Places.{begins_of}
use Rattle.turn_table.proofs.Numbered.{starts_self}
use Rattle.turn_table.specs.Numbered.{Extends}

-- One cell.

-- of its actor nothing changes but what it keeps of gates
reused-but : (step : ReuseStep) (a b : ActorValue) → b ≡ after_reuse step a → b ≡ record a { gone_gates = b.gone_gates }
reused-but (reuse.Block gate block) a b is = is ∙ (λ i. record a { gone_gates = sym (ap (λ (x : ActorValue). x.gone_gates) is) i })
reused-but (reuse.Gate gate) a b is = is ∙ (λ i. record a { gone_gates = sym (ap (λ (x : ActorValue). x.gone_gates) is) i })

module _ (f : Floor) (was : Player) (c : IsCaller f Admin was) where
  pub caller-between : IsBetween was
  caller-between = record { role = c.role_is; no_command = c.pass.idle.command; no_part = c.pass.idle.errand }

  pub stays-self : StaysCaller f Admin (HasBegunNothing was.number) was was
  stays-self = stays-idle f Admin was c was (caller-stands f Admin was c) refl refl refl (starts_self was.seat.view.seen)

  pub stays-reused : (cell : ℕ) (now : Player) → HasReused f cell was now → StaysCaller f Admin (HasBegunNothing was.number) was now
  stays-reused cell now reused =
      let a = actor_of was.actor in
      let b = actor_of now.actor in
      let but = reused-but reused.step a b reused.actor in
      let noted : b.seen ≡ a.seen = ap (λ (x : ActorValue). x.seen) but in
      stays-idle f Admin was c now reused.stands (reused.made.number ∙ reused.same.number)
      (but ∙ (λ i. record a { seen = sym noted i; boxes = sym (ap (λ (x : ActorValue). x.boxes) but) i; gone_gates = b.gone_gates })) noted
      (extends-on now.seat.view.seen (reused.mid).seat.view.seen was.seat.view.seen reused.seen reused.same.seen)

-- Behind a time in which it began nothing.

ended-behind : (f : Floor) (n : ℕ) (call : Call) (how : How) (was mid now : List Event) → Extends mid was → begins_of mid n ≡ begins_of was n → EndedCall f n call how mid now → EndedCall f n call how was now
ended-behind f n call how was mid now more nothing ended = record {
  of = ended.of;
  began = record {
    past = (let longer = extends-length was mid more in let past = ended.began.past in omega (arith, longer, past));
    at = ended.began.at;
    one = ended.began.one ∙ ap (λ (l : List ℕ). l ++ ended.of ∷ []) nothing;
  };
  older = ended.older;
  newest = ended.newest;
  pulls = ended.pulls;
}

so-behind : (f : Floor) (n : ℕ) (call : Call) (how : How) (was mid now : List Event) → Extends mid was → begins_of mid n ≡ begins_of was n → EndedSo f n call how mid now → EndedSo f n call how was now
so-behind f n call how_it.NoMemory was mid now more nothing (inl refused) = inl (noted-behind n was mid now more nothing refused)
so-behind f n call how_it.NoMemory was mid now more nothing (inr ended) = inr (ended-behind f n call how_it.NoMemory was mid now more nothing ended)
so-behind f n call how was mid now more nothing ended = ended-behind f n call how was mid now more nothing ended

module _ (f : Floor) (role : Role) (was mid now : Player) (first : StaysCaller f role (HasBegunNothing was.number) was mid) where
  -- it began nothing still
  pub stays-on : StaysCaller f role (HasBegunNothing mid.number) mid now → StaysCaller f role (HasBegunNothing was.number) was now
  stays-on second = stays-behind f role was mid now first HasBegunNothing (λ none. none ∙ first.ends) second

  -- its call ended
  pub ended-on : (call : Call) (how : How) → StaysCaller f role (EndedSo f mid.number call how) mid now → StaysCaller f role (EndedSo f was.number call how) was now
  ended-on call how second =
      stays-behind f role was mid now first (λ (n : ℕ). EndedSo f n call how)
      (so-behind f was.number call how was.seat.view.seen mid.seat.view.seen now.seat.view.seen first.heard.later first.ends) second
