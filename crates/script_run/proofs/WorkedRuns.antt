-- A settle that pulls for two servers, and for each once more, is a run.
use Rattle.std.proofs.Common.{◌≡◌, ℕ, zero, suc, IsTrue, List, [], ◌∷◌, refl, arith}
use Rattle.std.specs.Prelude.{Option, Some, None}
use Rattle.describing_set.specs.declared.listing.Spot.{Spot}
use Rattle.dim_hierarchy.specs.Dimension.{Dimension}
use Rattle.row_ledger.specs.{Past.{event_at, is_beginning}, declared.event.Event.Event, declared.event.Event.TheVariants.Called, declared.settings.Call.TheVariants.Settle}
use Rattle.row_ledger.proofs.Positions.{event_at-past}
use Rattle.script_run.specs.{Phases.{ranks, ranks_from}, Places.{begins_of, places, places_behind}, Runs.IsRunOf, Worked.{settle, settled, two}}

place : (l : List Spot) → places two settle (settled l) ≡ Some 2 ∷ []
unfolding places_behind begins_of
place l = refl

rank : ranks settle ≡ 1 ∷ []
unfolding ranks_from
rank = refl

-- nothing else begins
only : (l : List Spot) (p : ℕ) (e : Event) → event_at (settled l) p ≡ Some e → IsTrue (is_beginning e) → p ≡ 2
only l zero e at beginning = absurd (cc)
only l (suc zero) e at beginning = absurd (cc)
only l (suc (suc zero)) e at beginning = refl
only l (suc (suc (suc zero))) e at beginning = absurd (cc)
only l (suc (suc (suc (suc zero)))) e at beginning = absurd (cc)
only l (suc (suc (suc (suc (suc zero))))) e at beginning = absurd (cc)
only l (suc (suc (suc (suc (suc (suc zero)))))) e at beginning = absurd (cc)
only l (suc (suc (suc (suc (suc (suc (suc zero))))))) e at beginning = absurd (cc)
only l (suc (suc (suc (suc (suc (suc (suc (suc p)))))))) e at beginning =
    nothing (event_at (settled l) (suc (suc (suc (suc (suc (suc (suc (suc p))))))))) e at (event_at-past (settled l) (suc (suc (suc (suc (suc (suc (suc (suc p)))))))) (omega arith))
  where
    nothing : {X : Type 0} (o : Option Event) (e : Event) → o ≡ Some e → o ≡ None → X
    nothing o e some none = cc

pub settle-runs : (h : List Dimension) (l : List Spot) → IsRunOf two h settle (settled l)
settle-runs h l = record {
  part = record {
    begun = rw (place l) ((Called 3 Settle, refl, (refl, refl)), tt);
    only = λ p e at beginning. rw (place l, only l p e at beginning) (0, omega arith, refl);
    in_order = rw (place l) (λ i j d below within. absurd (omega (arith, below, within)));
    phased = rw (place l, rank) (λ i j d below within. absurd (omega (arith, below, within)));
    pulls = (refl, (tt, (tt, (tt, (tt, (tt, (tt, (tt, tt))))))));
  };
  over = rw (place l) refl;
}
