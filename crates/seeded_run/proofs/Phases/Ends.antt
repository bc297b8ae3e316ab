-- Where no-actor can make a step, all is done.
use Rattle.std.proofs.Common.{◌≡◌, ◌∙◌, ℕ, Bool, true, false, List, [], length, Some, refl, sym, ap}
use Rattle.std.specs.{Option.option_map_or, Prelude.slice_get}
use Rattle.seeded_turns.proofs.Able.{able_place}
use Rattle.seeded_turns.specs.Drawn.{able}
use Rattle.core_pages.specs.volap_cell.specs.{Setting.{Setting, actor_count}, Steps.history_in, World.World}
use Rattle.seeded_run.proofs.{Phases.Movers.can-law, Phases.Progress.due-law}
use Rattle.core_due.specs.Wants.{meets}
use Rattle.seeded_run.specs.{Can.can, Progress.{EndLaw, SomeCan, is_done}, Rests.{PhaseRun, rest_of}}

-- who can do what is due can step
can-step : (s : Setting) (p : PhaseRun) (w : World) (c : SomeCan s w (rest_of p (history_in w))) → can s p w c.due.actor ≡ true
can-step s p w c = ap (λ o. option_map_or (meets s w c.due.actor) o false) c.due.is_due ∙ c.meets_it

pub no-actor : {X : Type 0} → (actors : List ℕ) (k a : ℕ) → actors ≡ [] → slice_get actors k ≡ Some a → X
no-actor actors k a none is = let at : slice_get [] k ≡ Some a = ap (λ l. slice_get l k) (sym none) ∙ is in cc

pub end-law : EndLaw
end-law s p w g inv run none a low = by (is_done w (rest_of p (history_in w)) a) refl
  where
    by : (b : Bool) → is_done w (rest_of p (history_in w)) a ≡ b → is_done w (rest_of p (history_in w)) a ≡ true
    by true is = is
    by false is =
        let c = can-law s w g (rest_of p (history_in w)) inv (due-law s w g (rest_of p (history_in w)) inv run a low is) in
        no-actor (able (can s p w) (actor_count s)) (length (able (can s p w) c.due.actor)) c.due.actor none
        (able_place (can s p w) (actor_count s) c.due.actor c.due.within (can-step s p w c))
