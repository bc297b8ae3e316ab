-- A hall closes: each actor stands in its place, the hall's own behind the others.
use Rattle.std.proofs.{Common.{◌≡◌, ◌≢◌, ◌∙◌, ℕ, ◌+◌, ◌<◌, cond, List, [], ◌∷◌, ◌++◌, length, get_or, slice_get, Option, Some, None, sym, ap, subst, arith, length-append}, lemmas.Option.slice_get_within}
use mathlib.Core.Logic.{dite}
use mathlib.Core.Option.{some}
use native.Mathlib.Decide.{dec_lt}
use lib.ListN.{get_or-append}
use lib.Seq.{get_or-append_seam}
use Rattle.actor_run.specs.{Halls.HasClosed, Passes.{ArePasses, IsAdminOf, IsAt, IsIn, IsPassesOf, gone_at, gone_of, missing, passes_of}}
use Rattle.actor_run.proofs.{Knowing.{admin-empty, own-empty, role-empty}, Missing.none-missing}
use Rattle.dim_hierarchy.specs.Dimension.{Dimension}
use Rattle.list_words.proofs.Elements.{Some-same}
use Rattle.list_words.specs.Counts.{times}
use Rattle.row_ledger.specs.{Right.IsRight, Site.Site, declared.event.Event.Event}
use Rattle.whole_steps.specs.core_due.proofs.InStates.{cells-seen}
use Rattle.whole_steps.specs.seat_steps.specs.declared.floor.Floor.{Floor}
use Rattle.whole_steps.specs.shard_store.specs.declared.gate.{Phase.Phase, Phase.TheVariants.Gone}
use Rattle.turn_table.specs.{Numbered.value_of, Seat.SeatValue, Views.HasAll}
use Rattle.whole_steps.specs.volap_cell.specs.{Cells.{CellValue, phase_of}, Reusing.is_gone, Setting.{Setting, actor_count}, Sights.IsIdle, State.IsWorldOf, Values.{ActorValue, actor_of}, World.World, declared.role.Role.TheVariants.Admin, declared.actor.Actor.Actor, declared.cell.Cell.Cell, declared.state.State.State}
use Rattle.whole_steps.specs.volap_cell.proofs.Cells.States.{is-some, of-it}
use Rattle.whole_steps.specs.volap_turns.specs.Wholes.{AreActorsOf, AreIdle, HasHistory, IsWhole}

module _ {s : SeatValue Cell Actor Event} {own : Actor} {actors : List (Option Actor)} (are : ArePasses s own actors) (all : missing 0 actors ≡ []) where
  abbrev about : Setting
  about = (actor_of own).setting

  abbrev places : List (Option Actor)
  places = actors ++ Some own ∷ []

  stands : (a : ℕ) → a < s.view.actor_count → (x : Actor) × (get_or places a None ≡ Some x) × IsIn about s a x
  stands a lt = dite (dec_lt a (length actors))
      (λ (l : a < length actors). let it = none-missing 0 actors all a l in (it.0, get_or-append actors (Some own ∷ []) None a l ∙ it.1, subst (λ (o : Option Actor). IsAt about s a o) it.1 (are.each a l)))
      (λ (l : ¬ (a < length actors)). let e : length actors ≡ a = omega (arith, are.count) in (own, subst (λ k. get_or places k None ≡ Some own) e (get_or-append_seam actors (Some own) [] None), subst (λ k. IsIn about s k own) e are.own_one))

  pub has-all : HasAll s.view.actor_count s.view
  has-all i lt = (let it = stands i lt in (it.2.last, it.2.has))

  pub are-actors : (h : List Dimension) → about.hierarchy ≡ h → AreActorsOf h s.view places
  are-actors h e = record {
    some_one = omega (arith, are.count);
    count = length-append actors (Some own ∷ []) ∙ sym are.count;
    each = λ a lt. (let it = stands a lt in is-some (get_or places a None) (λ x. (last : Actor) × (value_of s.view.actors a ≡ some last) × (actor_of last ≡ actor_of x)) it.0 it.1 (it.2.last, it.2.has, it.2.same));
    about = (let it = stands 0 (omega (arith, are.count)) in is-some (get_or places 0 None) (λ x. (actor_of x).setting.hierarchy ≡ h) it.0 it.1 (ap (λ (z : Setting). z.hierarchy) it.2.about_is ∙ e));
  }

  -- a state with these actors is about what they are
  setting-is : (h : List Dimension) (cells : List (Option Cell)) (whole : IsWhole h cells places) → whole.sound.setting ≡ about
  setting-is h cells whole =
      let n = length actors in
      let long = length-append actors (Some own ∷ []) in
      let its : actor_of own ≡ whole.sound.world.actors n = of-it (get_or places n None) (λ x. actor_of x ≡ whole.sound.world.actors n) own (whole.sound.is.actor n (omega (arith, long))) (get_or-append_seam actors (Some own) [] None) in
      sym (whole.sound.inv.holds.numbering.about n) ∙ ap (λ (v : ActorValue). v.setting) (sym its)

  -- nobody is at work there
  pub are-idle : (cells : List (Option Cell)) → AreIdle cells places
  are-idle cells w is a low =
      let long = length-append actors (Some own ∷ []) in
      let it = stands a (omega (arith, low, long, are.count)) in
      subst IsIdle (of-it (get_or places a None) (λ x. actor_of x ≡ w.actors a) it.0 (is.actor a low) it.1) it.2.idle

  -- and where the administrator knows of no gate that is gone, none is
  module _ (h : List Dimension) (cells : List (Option Cell)) (whole : IsWhole h cells places) (none_known : gone_of own actors ≡ []) where
    abbrev v : World
    v = whole.sound.world

    stands-empty : (a : ℕ) (x : Actor) → a < length places → get_or places a None ≡ Some x → gone_at (Some x) ≡ []
    stands-empty a x low here = ap gone_at (sym here) ∙ dite (dec_lt a (length actors))
        (λ (l : a < length actors). ap gone_at (get_or-append actors (Some own ∷ []) None a l) ∙ role-empty own actors none_known a)
        (λ (l : ¬ (a < length actors)).
        let long = length-append actors (Some own ∷ []) in
        let e : length actors ≡ a = omega (arith, low, long, l) in
        ap gone_at (subst (λ k. get_or places k None ≡ Some own) e (get_or-append_seam actors (Some own) [] None)) ∙ own-empty own actors none_known)

    none-listed : (n : ℕ) → IsAdminOf about n → ((v.actors n).role ≡ Admin) × ((v.actors n).gone_gates ≡ [])
    none-listed n admin =
        let long = length-append actors (Some own ∷ []) in
        let low : n < length about.roles = slice_get_within about.roles n Admin admin in
        let it = stands n (omega (arith, low, are.many, are.count)) in
        let its : actor_of it.0 ≡ v.actors n = of-it (get_or places n None) (λ x. actor_of x ≡ v.actors n) it.0 (whole.sound.is.actor n (omega (arith, low, are.many, long))) it.1 in
        let same = setting-is h cells whole in
        let role : (v.actors n).role ≡ Admin = Some-same Admin (v.actors n).role (sym admin ∙ ap (λ (z : Setting). slice_get z.roles n) (sym same) ∙ whole.sound.inv.holds.numbering.role n (subst (λ (z : Setting). n < actor_count z) (sym same) low)) in
        let mine = ap (λ (z : ActorValue). z.role) its ∙ role in
        (role, ap (λ (z : ActorValue). z.gone_gates) (sym its) ∙ admin-empty it.0 mine (stands-empty n it.0 (omega (arith, low, are.many, long)) it.1))

    pub none-gone : (w : World) → IsWorldOf cells places w → (c : ℕ) → phase_of (w.cells c) ≢ Some Gone
    none-gone w is c gone =
        let of = none-listed are.admin.0 are.admin.1 in
        let cells_are : v.cells ≡ w.cells = cells-seen cells places v whole.sound.is ∙ sym (cells-seen cells places w is) in
        let there : phase_of (v.cells c) ≡ Some Gone = ap (λ (f : ℕ → CellValue). phase_of (f c)) cells_are ∙ gone in
        let listed = whole.sound.inv.holds.reusing.listed are.admin.0 c of.0 in
        let none_listed : times c (v.actors are.admin.0).gone_gates ≡ 0 = ap (times c) of.1 in
        let one : ◌≡◌ {A = ℕ} (cond (is_gone (phase_of (v.cells c))) 1 0) 1 = ap (λ (p : Option Phase). cond (is_gone p) 1 0) there in
        absurd (omega (arith, listed, none_listed, one))

  pub has-closed : (f : Floor) (state : State) → IsPassesOf f (passes_of s own actors) → state.actors.items ≡ places → IsWhole f.hierarchy state.cells.items state.actors.items
      → HasHistory state.cells.items state.actors.items s.view.seen → HasClosed f (passes_of s own actors) state
  has-closed f state of here whole history = record {
    whole = whole;
    setting = subst (λ (l : List (Option Actor)). (w : IsWhole f.hierarchy state.cells.items l) → w.sound.setting ≡ about) (sym here) (setting-is f.hierarchy state.cells.items) whole;
    history = history;
    right = subst (λ (x : Site). IsRight x s.view.seen) (λ i. record { hierarchy = of.hierarchy i; servers = of.servers i; workers = of.workers i }) are.right;
    idle = subst (AreIdle state.cells.items) (sym here) (are-idle state.cells.items);
    gone = λ none_known. subst (λ (l : List (Option Actor)). IsWhole f.hierarchy state.cells.items l → (w : World) → IsWorldOf state.cells.items l w → (c : ℕ) → phase_of (w.cells c) ≢ Some Gone) (sym here) (λ its. none-gone f.hierarchy state.cells.items its none_known) whole;
  }
