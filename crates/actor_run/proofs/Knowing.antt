-- What passes know of gates that are gone: what the administrator knows, where it is in.
use Rattle.std.proofs.Common.{◌≡◌, ◌∙◌, ℕ, zero, suc, ◌+◌, ◌<◌, true, List, [], ◌∷◌, ◌++◌, length, get_or, Option, Some, None, refl, ap, subst, arith}
use Rattle.actor_run.specs.{Halls.is_admin, Passes.{gone_among, gone_at, gone_by, gone_of}, Wholes.is_admin_at}
use Rattle.whole_steps.specs.volap_cell.specs.{Values.actor_of, declared.actor.Actor.Actor, declared.role.Role.Role, declared.role.Role.TheVariants.{Admin, Hand, Puller, Session}}

-- Nothing, where the administrator isn't, or knows of none.

none-by : (r : Role) (gates : List ℕ) → (is_admin r ≡ true → ⊥) → gone_by r gates ≡ []
none-by Admin gates other = absurd (other refl)
none-by (Session server) gates other = refl
none-by (Hand worker) gates other = refl
none-by Puller gates other = refl

pub none-other : (o : Option Actor) → (is_admin_at o ≡ true → ⊥) → gone_at o ≡ []
none-other None other = refl
none-other (Some x) other = none-by (actor_of x).role (actor_of x).gone_gates other

empty-by : (r : Role) → gone_by r [] ≡ []
empty-by Admin = refl
empty-by (Session server) = refl
empty-by (Hand worker) = refl
empty-by Puller = refl

pub none-left : (x : Actor) → (actor_of x).gone_gates ≡ [] → gone_at (Some x) ≡ []
none-left x e = ap (gone_by (actor_of x).role) e ∙ empty-by (actor_of x).role

pub none-among : (actors : List (Option Actor)) → ((k : ℕ) → k < length actors → gone_at (get_or actors k None) ≡ []) → gone_among actors ≡ []
none-among [] each = refl
none-among (a ∷ actors) each = (let rest = none-among actors (λ k low. each (suc k) (omega (arith, low))) in let first = each 0 (omega arith) in λ i. first i ++ rest i)

pub none-of : (own : Actor) (actors : List (Option Actor)) → gone_at (Some own) ≡ [] → gone_among actors ≡ [] → gone_of own actors ≡ []
none-of own actors first rest = λ i. first i ++ rest i

-- And what follows where they know of none.

both-empty : (xs ys : List ℕ) → xs ++ ys ≡ [] → (xs ≡ []) × (ys ≡ [])
both-empty [] ys e = (refl, e)
both-empty (x ∷ xs) ys e = absurd (cc)

each-empty : (actors : List (Option Actor)) → gone_among actors ≡ [] → (k : ℕ) → gone_at (get_or actors k None) ≡ []
each-empty [] e k = refl
each-empty (a ∷ actors) e zero = (both-empty (gone_at a) (gone_among actors) e).0
each-empty (a ∷ actors) e (suc k) = each-empty actors (both-empty (gone_at a) (gone_among actors) e).1 k

pub own-empty : (own : Actor) (actors : List (Option Actor)) → gone_of own actors ≡ [] → gone_at (Some own) ≡ []
own-empty own actors e = (both-empty (gone_at (Some own)) (gone_among actors) e).0

pub role-empty : (own : Actor) (actors : List (Option Actor)) → gone_of own actors ≡ [] → (k : ℕ) → gone_at (get_or actors k None) ≡ []
role-empty own actors e = each-empty actors (both-empty (gone_at (Some own)) (gone_among actors) e).1

pub admin-empty : (x : Actor) → (actor_of x).role ≡ Admin → gone_at (Some x) ≡ [] → (actor_of x).gone_gates ≡ []
admin-empty x admin e = subst (λ (r : Role). gone_by r (actor_of x).gone_gates ≡ []) admin e
