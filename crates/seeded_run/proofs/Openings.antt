-- A script's core as it opens, and with what it begins.
use Rattle.std.proofs.Common.{◌≡◌, ◌∙◌, ℕ, ◌+◌, ◌<◌, List, [], length, Bool, Option, Some, None, refl, sym, ap, subst, arith}
use Rattle.std.specs.Prelude.{cond}
use Rattle.dim_hierarchy.specs.Dimension.{Dimension}
use Rattle.list_words.specs.Counts.{times}
use Rattle.row_ledger.specs.{Kept.IsOpeningHistory, declared.event.Event.Event, declared.settings.Use.Use}
use Rattle.script_form.specs.declared.script.Command.{Command}
use Rattle.script_run.specs.Between.{IsInOrder, IsThrough, OpeningLaw}
use Rattle.script_roles.specs.Roles.{roles_of}
use Rattle.script_roles.proofs.Roles.{script-roles}
use Rattle.core_pages.specs.volap_cell.specs.{Cells.{CellValue, ledger_in, phase_of}, Filling.{IsOpened, setting_for}, Opening.IsOpening, Reusing.is_gone, Setting.{Setting, site_in}, Steps.history_in, declared.actor.Actor.Actor, declared.cell.Cell.Cell, declared.role.Role.Role, declared.role.Role.TheVariants.Admin}
use Rattle.seeded_run.specs.{Core.{HasCore, IsCore}, Kept.{IsBetween, IsNoneGone}, Phase.most_actors, Worlds.{setting_in, world_in}}
use Rattle.seeded_run.proofs.{Scripts.role-is, Worlds.{one-setting, only-world}}

-- no commands are in order
in-order : (with : Use) (h : List Dimension) (history : List Event) → IsThrough with h [] history → IsInOrder with h [] history
in-order with h history through = record {
  begun = λ i c at. through.part.begun i c at;
  only = λ p e at begins. through.part.only p e at begins;
  in_turn = λ i j c d at_c at_d before. (let never : ◌≡◌ {A = Option Command} None (Some c) = at_c in absurd (cc));
  pulls = through.part.pulls;
}

module _ (h : List Dimension) (with : Use) (roles : List Role) (roles_are : roles ≡ roles_of with) (cells : List (Option Cell)) (actors : List (Option Actor))
    (opened : IsOpened (setting_for h with roles) cells actors) where
  abbrev s : Setting
  s = setting_for h with roles

  is-core : IsCore h with cells actors s opened.world
  is-core = record {
    hierarchy = refl;
    servers = refl;
    workers = refl;
    stock = refl;
    roles = script-roles with s refl roles_are;
    count = opened.count;
    places = opened.places;
    is = opened.is;
    inv = opened.inv;
  }

  setting-is : s ≡ setting_in h with actors
  setting-is = one-setting h with cells actors s opened.world is-core

  world-is : opened.world ≡ world_in h with cells actors
  world-is = only-world h with cells actors s opened.world is-core

  pub opened-core : length roles < most_actors → HasCore h with cells actors × (length actors < most_actors)
  opened-core few = (record { setting = s; world = opened.world; is_core = is-core }, (let count = opened.count in omega arith))

  pub opened-roles : (setting_in h with actors).roles ≡ roles_of with
  opened-roles = ap (λ (t : Setting). t.roles) (sym setting-is) ∙ roles_are

  pub opened-so : IsOpening (setting_in h with actors) (world_in h with cells actors)
  opened-so = subst (IsOpening (setting_in h with actors)) world-is (subst (λ (t : Setting). IsOpening t opened.world) setting-is opened.opening)

  abbrev history : List Event
  history = history_in opened.world

  history-is : history ≡ opened.opening.ledger.history
  history-is = ap (λ (c : CellValue). (ledger_in c).history) opened.opening.ledger_is

  opening-history : IsOpeningHistory (site_in s) history
  opening-history = subst (IsOpeningHistory (site_in s)) (sym history-is) opened.opening.history

  -- no gate is gone, as the administrator's list of them is empty
  none-gone : IsNoneGone opened.world
  none-gone c gone =
      let admin = s.servers + 1 in
      let script = script-roles with s refl roles_are in
      let i = opened.inv.holds in
      let listed : times c (opened.world.actors admin).gone_gates ≡ cond (is_gone (phase_of (opened.world.cells c))) 1 0 =
      i.reusing.listed admin c (role-is s opened.world opened.inv.ghost_of i script admin Admin script.admin) in
      let none : times c (opened.world.actors admin).gone_gates ≡ 0 = ap (times c) (opened.opening.actors admin).gone_gates in
      let one : ◌≡◌ {A = ℕ} (cond (is_gone (phase_of (opened.world.cells c))) 1 0) 1 = ap (λ p. cond (is_gone p) 1 0) gone in
      absurd (omega (arith, listed, none, one))

  between-before : OpeningLaw → (b : Bool) → IsBetween b s with [] opened.world
  between-before opening b =
      let through : IsThrough with h [] history = opening with h (site_in s) history opening-history in
      record {
        through = through;
        idle = λ a. (let fresh = opened.opening.actors a in record { command = fresh.command; errand = fresh.errand; job = fresh.job; purse = fresh.purse; counted = fresh.counted });
        none_gone = none-gone;
        ordered = λ order. in-order with h history through;
      }

  pub opened-between : OpeningLaw → (b : Bool) → IsBetween b (setting_in h with actors) with [] (world_in h with cells actors)
  opened-between opening b =
      subst (IsBetween b (setting_in h with actors) with []) world-is (subst (λ (t : Setting). IsBetween b t with [] opened.world) setting-is (between-before opening b))
