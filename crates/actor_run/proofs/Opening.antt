-- A hall opens: all passes are in, and have seen the opening.
use Rattle.std.proofs.Common.{◌≡◌, ◌∙◌, ℕ, ◌+◌, ◌<◌, ◌^◌, suc, Bool, false, if◌then◌else◌, List, [], ◌∷◌, ◌++◌, length, slice_get, Option, Some, inl, inr, refl, sym, ap, subst, arith, length-append}
use Rattle.std.specs.List.{list_any}
use mathlib.Core.Option as maybe
use mathlib.Core.Option.{none, some}
use lib.ListN.{get_elem?}
use Rattle.atomic_table.specs.Seated.{TableId}
use Rattle.atomic_table.proofs.Lists.{at_last, at_longer}
use Rattle.actor_run.specs.{Halls.{HasOpened, IsHallFor, hall_setting, is_admin, own_role}, Opened.IsOpenedTable, Passes.{ArePasses, HasAdmin, IsAt, IsIn, gone_at, gone_of, passes_of}}
use Rattle.actor_run.proofs.{Knowing.{none-among, none-left, none-of}, Missing.all-in, Seated.{right-whole, setting-of}}
use Rattle.dim_hierarchy.specs.Dimension.{Dimension}
use Rattle.row_ledger.specs.{Kept.IsOpeningHistory, Right.{EachEvent, IsFirstPull, IsRight}, Site.Site, declared.event.Event.Event, declared.event.Event.TheVariants.Synced, declared.settings.Use.Use}
use Rattle.script_run.specs.Places.{begins_in, begins_of}
use Rattle.script_run.proofs.PlaceFacts.{begins_of-other}
use Rattle.turn_table.specs.{Numbered.value_of, Seat.{SeatValue, cell_count}, Views.{HasAll, first_view, seen_of}}
use Rattle.turn_table.proofs.{Numbered.{below_length, some_or_none, there}, Opened.{numbered_find, numbered_own}}
use Rattle.whole_steps.specs.volap_cell.specs.{Cells.{CellValue, ledger_in}, Filling.IsOpened, Opening.IsFresh, Setting.{Setting, actor_count, ledger_cell, site_in}, Values.{ActorValue, actor_of}, declared.actor.Actor.Actor, declared.cell.Cell.Cell, declared.role.{Role.Role, Role.TheVariants.{Admin, Hand, Puller, Session}}}
use Rattle.whole_steps.specs.volap_turns.specs.{Rule.{all_there, history_of}, Wholes.CanBe, Worlds.{IsWorld, at-place, is-world, long}}

abbrev S : Type 0
S = SeatValue Cell Actor Event

-- In an opening no command has begun.

begins-none : (site : Site) (past : List Event) (e : Event) (n : ℕ) → IsFirstPull site past e → begins_in n e ≡ false
begins-none site past (Synced server listing) n is = refl
begins-none site past _ n is = absurd is

none-begun : (site : Site) (h : List Event) (n : ℕ) → EachEvent (IsFirstPull site) h → begins_of h n ≡ []
unfolding begins_of
none-begun site [] n pulls = refl
none-begun site (e ∷ past) n pulls = begins_of-other e past n (begins-none site past e n pulls.0) ∙ none-begun site past n pulls.1

-- What is opened.

module _ {s : Setting} {t : TableId} {seat : S} (xs : List Actor) (own : Actor) (table : IsOpenedTable s t seat (xs ++ own ∷ [])) where
  abbrev ys : List Actor
  ys = xs ++ own ∷ []

  is : IsWorld table.cells ys table.opened.world
  is = is-world table.cells ys table.opened.world table.opened.is

  fresh : (a : ℕ) (x : Actor) → get_elem? ys a ≡ some x → IsFresh s a (actor_of x)
  fresh a x e = subst (λ (v : ActorValue). IsFresh s a v) (is.actor a x e) (table.opened.opening.actors a)

  at-own : get_elem? ys (length xs) ≡ some own
  at-own = at_last xs own (length xs) refl

  pub about : (actor_of own).setting ≡ s
  about = (fresh (length xs) own at-own).about

  has : (a : ℕ) (x : Actor) → get_elem? ys a ≡ some x → value_of seat.view.actors a ≡ some x
  has a x e = ap (λ (z : S). value_of z.view.actors a) table.seat_is ∙ numbered_find ys a x e

  is-in : (a : ℕ) (x : Actor) → get_elem? ys a ≡ some x → IsIn (actor_of own).setting seat a x
  is-in a x e = (let f = fresh a x e in record {
    last = x;
    has = has a x e;
    same = refl;
    went = refl;
    about_is = f.about ∙ sym about;
    idle = record { command = f.command; errand = f.errand; job = f.job; purse = f.purse; counted = f.counted };
    noted = omega (arith, f.seen);
  })

  actors-are : seat.view.actor_count ≡ length xs + 1
  actors-are = ap (λ (z : S). z.view.actor_count) table.seat_is ∙ length-append xs (own ∷ [])

  all-here : HasAll seat.view.actor_count seat.view
  all-here i lt = (let l = length-append xs (own ∷ []) in let it = there ys i (omega (arith, actors-are)) in (it.0, has i it.0 it.1))

  -- past the hall's own there is none
  none-beyond : (a : ℕ) → length xs < a → value_of seat.view.actors a ≡ none
  none-beyond a lt = elim (some_or_none (value_of seat.view.actors a)) [
    | inl e ↦ absurd (let b = below_length ys a e.0 (numbered_own ys a e.0 (sym (ap (λ (z : S). value_of z.view.actors a) table.seat_is) ∙ e.1)) in omega (arith, length-append xs (own ∷ [])))
    | inr e ↦ e
  ]

  is-right : IsRight (site_in (actor_of own).setting) seat.view.seen
  is-right = subst (λ (z : Setting). IsRight (site_in z) seat.view.seen) (sym (setting-of table.possible (length xs) own (has (length xs) own at-own))) (right-whole table.possible all-here)

  pub are-passes : length xs + 1 < 2 ^ 16 → HasAdmin (actor_of own).setting → ArePasses seat own (all_there xs)
  are-passes few admin = (let l = long xs in let e = table.seat_is in record {
    home = ap (λ (z : S). z.lifted) e;
    bare = ap (λ (z : S). z.ranks) e;
    empty = ap (λ (z : S). z.view.held) e;
    possible = table.possible;
    wide = ap (λ (z : S). z.view.cell_count) e ∙ sym (long table.cells) ∙ table.opened.places ∙ sym table.wide ∙ ap (λ (z : S). cell_count z.table_id) (sym e);
    count = actors-are ∙ ap (λ k. k + 1) (sym l);
    number = (let n = ap (λ (z : S). z.view.number) e in omega (arith, n, length-append xs (own ∷ [])));
    many = (let n = ap actor_count about in let c = table.opened.count in omega (arith, n, c, long ys, length-append xs (own ∷ [])));
    few = omega arith;
    own_one = subst (λ k. IsIn (actor_of own).setting seat k own) (sym l) (is-in (length xs) own at-own);
    each = λ a lt. (let it = there xs a (omega arith) in
        subst (λ (o : Option Actor). IsAt (actor_of own).setting seat a o) (sym (at-place xs a it.0 it.1)) (is-in a it.0 (at_longer xs (own ∷ []) a it.0 it.1)));
    beyond = λ a lt. none-beyond a (omega arith);
    right = is-right;
    admin = admin;
  })

  -- the history that was seen is that of the opening
  seen-is : seat.view.seen ≡ table.opened.opening.ledger.history
  seen-is =
      let it = there table.cells ledger_cell (omega (arith, long table.cells, table.opened.places)) in
      ap (λ (z : S). z.view.seen) table.seat_is ∙ ap (λ (o : maybe.Option Cell). seen_of history_of o []) it.1
      ∙ ap (λ (c : CellValue). (ledger_in c).history) (sym (is.cell ledger_cell it.0 it.1) ∙ table.opened.opening.ledger_is)

  pub opening-seen : IsOpeningHistory (site_in (actor_of own).setting) seat.view.seen
  opening-seen = subst (λ (z : Setting × List Event). IsOpeningHistory (site_in z.0) z.1) (λ i. (sym about i, sym seen-is i)) table.opened.opening.history

  pub none-seen : (n : ℕ) → begins_of seat.view.seen n ≡ []
  none-seen n = none-begun (site_in (actor_of own).setting) seat.view.seen n opening-seen.pulls

  pub none-known : gone_of own (all_there xs) ≡ []
  none-known = none-of own (all_there xs) (none-left own (fresh (length xs) own at-own).gone_gates) (none-among (all_there xs) (λ k low.
      let it = there xs k (omega (arith, low, long xs)) in
      ap gone_at (at-place xs k it.0 it.1) ∙ none-left it.0 (fresh k it.0 (at_longer xs (own ∷ []) k it.0 it.1)).gone_gates))

  pub pulls-seen : length seat.view.seen ≡ s.servers
  pulls-seen = ap (λ (h : List Event). length h) seen-is ∙ table.opened.opening.all_pulled

-- One of the roles, with the hall's own behind them, is the administrator.

admin-in : (roles : List Role) (own : Role) → (list_any is_admin roles ≡ false → own ≡ Admin) → (k : ℕ) × (slice_get (roles ++ own ∷ []) k ≡ Some Admin)
admin-in [] own f = (0, ap Some (f refl))
admin-in (Admin ∷ roles) own f = (0, refl)
admin-in (Puller ∷ roles) own f = (let it = admin-in roles own f in (suc it.0, it.1))
admin-in (Session server ∷ roles) own f = (let it = admin-in roles own f in (suc it.0, it.1))
admin-in (Hand worker ∷ roles) own f = (let it = admin-in roles own f in (suc it.0, it.1))

pub hall-admin : (h : List Dimension) (with : Use) (roles : List Role) → HasAdmin (hall_setting h with roles)
hall-admin h with roles = admin-in roles (own_role roles) (λ e. ap (λ (b : Bool). if b then Puller else Admin) e)

-- What is opened is a hall and its passes.
module _ {h : List Dimension} {with : Use} {roles : List Role} {t : TableId} {seat : S} {ys : List Actor} (xs : List Actor) (own : Actor) {places : List (Option Actor)} (fits : IsHallFor h with roles)
    (table : IsOpenedTable (hall_setting h with roles) t seat ys) (last : ys ≡ xs ++ own ∷ []) (placed : places ≡ all_there xs) where
  ending : IsOpenedTable (hall_setting h with roles) t seat (xs ++ own ∷ [])
  ending = subst (λ (l : List Actor). IsOpenedTable (hall_setting h with roles) t seat l) last table

  few : length xs + 1 < 2 ^ 16
  few = (let count = ending.opened.count in let l = fits.few in omega (arith, count, long (xs ++ own ∷ []), length-append xs (own ∷ []), length-append roles (own_role roles ∷ [])))

  pub are-opened : ArePasses seat own places
  are-opened = subst (λ (l : List (Option Actor)). ArePasses seat own l) (sym placed) (are-passes xs own ending few (subst HasAdmin (sym (about xs own ending)) (hall-admin h with roles)))

  pub has-opened : HasOpened h with roles (record { hierarchy = h; with = with; table = t }) (passes_of seat own places)
  has-opened = subst (λ (l : List (Option Actor)). HasOpened h with roles (record { hierarchy = h; with = with; table = t }) (passes_of seat own l)) (sym placed) (record {
    hierarchy = refl;
    settings = refl;
    own = record {
      table = ap (λ (z : S). z.table_id) ending.seat_is;
      hierarchy = ap (λ (z : Setting). z.hierarchy) (about xs own ending);
      servers = ap (λ (z : Setting). z.servers) (about xs own ending);
      workers = ap (λ (z : Setting). z.workers) (about xs own ending);
    };
    setting = about xs own ending;
    all = all-in 0 xs;
    opening = opening-seen xs own ending;
    pulls = pulls-seen xs own ending;
    begun = none-seen xs own ending;
    gone = none-known xs own ending;
  })

-- A table over an opening.
pub opened-table : (s : Setting) (cells : List (Option Cell)) (actors : List (Option Actor)) (t : TableId) (seat : S) (those : List Actor) → IsOpened s cells actors → cell_count t ≡ length cells → all_there those ≡ actors
    → ((xs : List Cell) × (all_there xs ≡ cells) × (seat ≡ record { table_id = t; lifted = false; ranks = []; view = first_view ledger_cell history_of xs those })) → CanBe seat.view → IsOpenedTable s t seat those
opened-table s cells actors t seat those opened wide here of possible = record {
  cells = of.0;
  opened = subst (λ (z : List (Option Cell) × List (Option Actor)). IsOpened s z.0 z.1) (λ i. (sym of.1 i, sym here i)) opened;
  wide = wide ∙ opened.places;
  seat_is = of.2;
  possible = possible;
}
