-- What a server must know was acknowledged, and what was acknowledged began.
use Rattle.std.proofs.{Common.{◌≡◌, ℕ, zero, suc, List, [], ◌∷◌, ◌++◌, Bool, true, false, refl, ap, subst, arith, ◌==◌, ◌∙◌, inl, inr}, lemmas.List.Elements.Contains-append_cases}
use Rattle.std.specs.{List.cons_option, Option.option_map_or, Prelude.{Option, Some, None, Contains, if◌then◌else◌, option_map, option_and_then}}
use Rattle.dim_hierarchy.specs.Dimension.{Dimension}
use Rattle.row_ledger.specs.{Bounds.{is_listed, known, listed, listing_of, own, passed, published}, Past.{Ack, Insert, Pull, ack_of, acked, insert_at, insert_in, pull_in}, Right.{Site, EachEvent, Stands, IsRightAck}, declared.event.Event.Event, declared.event.Event.TheVariants.Acked}
use Rattle.list_words.proofs.Elements.{Contains-filtered, Contains-nil}
use Rattle.row_ledger.proofs.{Ended.number_of, Fresh.kind-within, Older.acked-older, Positions.event_at-older}

-- what a server acknowledged itself

own-acked : (h : List Event) (server : ℕ) (k : Ack) → Contains (own h server) k → Contains (acked h) k
own-acked h server k c = Contains-filtered (λ (a : Ack). a.server == server) (acked h) k c

-- what was told to others, and what was passed on to it

from-pull : (h : List Event) (p : Option Pull) (k : Ack) → Contains (option_map_or (λ (p : Pull). own h p.server) p []) k → Contains (acked h) k
from-pull h None k c = absurd (Contains-nil k c)
from-pull h (Some p) k c = own-acked h p.server k c

pub published-acked : (h : List Event) (k : Ack) → Contains (published h) k → Contains (acked h) k
published-acked [] k c = c
published-acked (e ∷ past) k c = elim (Contains-append_cases _ (published past) k c) [
  | inl new ↦ acked-older e past k (from-pull past (pull_in e) k new)
  | inr old ↦ acked-older e past k (published-acked past k old)
]

in-pull : (h : List Event) (server : ℕ) (p : Option Pull) (k : Ack) → Contains (option_map_or (λ (p : Pull). if p.server == server then published h else []) p []) k → Contains (published h) k
in-pull h server None k c = absurd (Contains-nil k c)
in-pull h server (Some p) k c = at (p.server == server) c
  where
    at : (b : Bool) → Contains (if b then published h else []) k → Contains (published h) k
    at true c = c
    at false c = absurd (Contains-nil k c)

passed-acked : (h : List Event) (server : ℕ) (k : Ack) → Contains (passed h server) k → Contains (acked h) k
passed-acked [] server k c = c
passed-acked (e ∷ past) server k c = elim (Contains-append_cases _ (passed past server) k c) [
  | inl new ↦ acked-older e past k (published-acked past k (in-pull past server (pull_in e) k new))
  | inr old ↦ acked-older e past k (passed-acked past server k old)
]

pub known-acked : (h : List Dimension) (history : List Event) (server : ℕ) (k : Ack) → Contains (known h history server) k → Contains (acked history) k
known-acked h history server k c = elim (Contains-append_cases (own history server ++ passed history server) (listed h history server) k c) [
  | inl told ↦ elim (Contains-append_cases (own history server) (passed history server) k told) [
    | inl o ↦ own-acked history server k o
    | inr p ↦ passed-acked history server k p
  ]
  | inr l ↦ Contains-filtered (is_listed h (listing_of history server)) (acked history) k l
]

-- an insert that began stays where it is
pub insert-older : (e : Event) (past : List Event) (p : ℕ) (i : Insert) → insert_at past p ≡ Some i → insert_at (e ∷ past) p ≡ Some i
insert-older e past p i begun = ap (option_and_then insert_in) (event_at-older e past p (kind-within insert_in past p i begun)) ∙ begun

-- an acknowledged row is that of the insert at its number
pub acked-begun : (site : Site) (usable : ℕ → Bool) (h : List Event) (k : Ack) → EachEvent (Stands site usable) h → Contains (acked h) k → insert_at h k.row.no ≡ Some (record { server = k.server; row = k.row })
acked-begun site usable [] k each c = absurd (Contains-nil k c)
acked-begun site usable (Acked of path ∷ past) k each c =
    let a : IsRightAck past of path = each.0 in
    let is : option_map (ack_of path) (insert_at past of) ≡ Some (ack_of path a.insert) = rw a.begun refl in
    go a.insert (number_of site usable past of a.insert each.1 a.begun) a.begun (subst (λ (o : Option Ack). Contains (cons_option o (acked past)) k) is c) (acked-begun site usable past k each.1)
  where
    go : (i : Insert) → i.row.no ≡ of → insert_at past of ≡ Some i → Contains (ack_of path i ∷ acked past) k → (Contains (acked past) k → insert_at past k.row.no ≡ Some (record { server = k.server; row = k.row }))
        → insert_at (Acked of path ∷ past) k.row.no ≡ Some (record { server = k.server; row = k.row })
    go i number begun (zero, l, e) rest =
        subst (λ (x : Ack). insert_at (Acked of path ∷ past) x.row.no ≡ Some (record { server = x.server; row = x.row })) e
        (insert-older (Acked of path) past i.row.no i (ap (insert_at past) number ∙ begun))
    go i number begun (suc j, l, e) rest = insert-older (Acked of path) past k.row.no _ (rest (j, omega arith, e))
acked-begun site usable (e ∷ past) k each c = insert-older e past k.row.no _ (acked-begun site usable past k each.1 c)
