-- The part that a session takes for its query has read no gate, and asks for what the query does.
use Rattle.std.proofs.{Common.{◌≡◌, ◌∙◌, ℕ, ◌<◌, List, Option, Some, refl, sym, ap, subst}, lemmas.Option.{get_or_from_slice_get, slice_get_within}}
use Rattle.std.specs.Prelude.{slice_get}
use Rattle.part_steps.specs.core_steps.specs.{Parts.{part_kind, part_places}, declared.parts.PartStep.TheVariants.TakePart}
use Rattle.query_router.specs.{Desk.DeskValue, declared.part.{Part.Part, Want.Want}}
use Rattle.query_router.specs.declared.part.PartState.TheVariants as state
use Rattle.query_router.specs.declared.part.Want.TheVariants as want
use Rattle.list_words.proofs.Elements.{Some-same}
use Rattle.row_ledger.specs.Past.{Query, query_at}
use Rattle.part_steps.specs.seat_steps.proofs.{Around.around, HeldLedger.{changed, does-held, in_cell}}
use Rattle.session_steps.proofs.{Grown.query-on, Servers.{desk-is, role-is}}
use Rattle.part_steps.specs.Parts.{IsUnread}
use Rattle.part_steps.specs.seat_steps.specs.{Floors.{IsAround, IsSeated}, Made.HasMade, declared.floor.{Floor.Floor, Player.Player}}
use Rattle.session_steps.specs.Books.{AreBooksOf}
use Rattle.part_steps.specs.volap_cell.specs.{Cells.{CellValue, desk_in}, Desking.IsQueryState, ImageKinds.doing, Setting.Setting, ShardKinds.{DoesTakePart, errand_for, task_for}, Steps.history_in, Values.{ActorValue, actor_of}, World.World, declared.command.Command.Command}
use Rattle.part_steps.specs.volap_cell.specs.declared.command.Work.TheVariants as work_is
use Rattle.part_steps.specs.volap_turns.specs.Rows.{AreAt}

-- each part that waits on a desk asks for what the query does
abbrev AskFor : Query → DeskValue → Type 0
AskFor q desk = (place : ℕ) (p : Part) (wanted : Want) → slice_get desk.parts place ≡ Some p → p.state ≡ state.Waiting wanted → wanted ≡ want.Filter q.filter

module _ (f : Floor) (p : Player) (desk image of : ℕ) (books : AreBooksOf f p desk image) (asks : (actor_of p.actor).command ≡ doing of work_is.Query) where
  -- so do those on the desk of a session with a query open
  parts-ask : (s : Setting) (w : World) → IsAround f p s w → (q : Query) × AskFor q (desk_in (w.cells desk)) × (query_at (history_in w) of ≡ Some q)
  parts-ask s w is =
      let c : Command = record { of = of; work = work_is.Query } in
      let command : (w.actors p.number).command ≡ Some c = ap (λ (a : ActorValue). a.command) is.actor ∙ asks in
      let begun = is.inv.holds.telling.progress p.number c command in
      let low = subst (λ (n : ℕ). books.server < n) (sym is.servers) books.low in
      let op = is.inv.holds.desking.on_desk p.number books.server c command (role-is f p desk image books s w is) refl in
      let all = (is.inv.holds.desking.query books.server of begun.0 low op begun.2).0 in (
        begun.0,
        subst (λ (y : ℕ). AskFor begun.0 (desk_in (w.cells y))) (sym (desk-is f p desk image books s w is)) (
            λ place x wanted at waits. subst (IsQueryState begun.0) waits (subst (λ (y : Part). IsQueryState begun.0 y.state) (get_or_from_slice_get _ place x x at) (all place x (slice_get_within _ place x at)))
            ),
        begun.2,
      )

  -- of these one is taken; as the history of the state goes on behind what was seen, its query is the one that was seen to begin
  pub taken-asks : {Sees : Setting → World → ℕ → Type 0} {Tells : ActorValue → (was now : List (Option CellValue)) → Type 0} (now : Player) → IsSeated f p → AreAt (part_places (TakePart desk)) p.seat.view.held
      → HasMade f.hierarchy (part_kind (TakePart desk)) Sees Tells (part_places (TakePart desk)) p now
      → (part : IsUnread (actor_of now.actor)) × ((q : Query) → query_at p.seat.view.seen of ≡ Some q → part.filter ≡ q.filter)
  taken-asks now seated at made =
      let (s, w, is) = around f p seated in
      let d : DoesTakePart (changed p.seat.view.held made.new desk) (actor_of p.actor) (actor_of now.actor) = does-held made at in
      let same = ap desk_in (is.held desk at.there.0.0 at.there.0.1 ∙ sym (ap in_cell at.there.0.1) ∙ d.turns.was) in
      let ask = parts-ask s w is in
      let filter = ask.1 d.place d.part d.wanted (ap (λ (y : DeskValue). slice_get y.parts d.place) same ∙ d.part_at) d.waits in
      let part : IsUnread (actor_of now.actor) = record {
        e = errand_for d.server d.part d.wanted;
        filter = ask.0.filter;
        errand = ap (λ (a : ActorValue). a.errand) d.actor_is;
        unread = ap (λ (y : Want). task_for y d.part.path) filter;
      } in (
        part,
        λ q asked. ap (λ (y : Query). y.filter) (Some-same q ask.0 (sym (query-on (history_in w) p.seat.view.seen is.behind of q asked) ∙ ask.2)),
      )
