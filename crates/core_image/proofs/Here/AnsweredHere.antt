-- What an answer asks of the cells is so in each state, and what is given is what the kind does.
use Rattle.std.proofs.Common.{◌≡◌, ℕ, ◌+◌, ◌^◌, ◌<◌, List, [], ◌∷◌, length, Option, Some, None, refl, sym, ap, ◌∙◌, subst, arith}
use Rattle.std.specs.{Option.option_map_or, Prelude.IsSome}
use Rattle.dim_hierarchy.specs.Dimension.{Dimension}
use Rattle.query_router.specs.{Desk.{DeskValue, sum_of, verdict_of}, declared.part.Verdict.TheVariants.Sum}
use Rattle.row_ledger.specs.{LedgerValue.LedgerValue, Past.{Query, query_at}}
use Rattle.volap_cell.specs.{Cells.{CellValue, DeskCell, LedgerCell, DeskOf, tag_of, desk_in}, Ghost.Ghost, ImageKinds.{DoesAnswer, doing}, Invariant.InvWith, Owing.owed_by, Setting.{Setting, actor_count}, Steps.{IsHere, Makes}, Values.ActorValue, View.{View, view}, World.{World, change, held}, declared.command.Command.Command, declared.role.Role.TheVariants.Session}
use Rattle.volap_cell.specs.declared.command.Work.TheVariants as work_is
use Rattle.volap_cell.specs.declared.kind.Kind.TheVariants as kind
use Rattle.volap_cell.proofs.{Persons.has-command, Sums.sum-some, Views.Shown.{held-desk, held-ledger}}
use Rattle.core_image.specs.Asking.{CanAnswer, CanGive, GivesAnswer}
use Rattle.core_image.proofs.{Answered.few, EachStep.AnswersQuery.answer-keeps}

module _ (hs : List Dimension) (desk_at ledger_at : ℕ) (desk ledger : CellValue) (a : ActorValue) (here : IsHere hs (held desk_at desk ∷ held ledger_at ledger ∷ []) a) (due : CanAnswer desk ledger a)
    (desk_server : ℕ) (dv : DeskValue) (desk_is : desk ≡ DeskCell desk_server dv) (lv : LedgerValue) (ledger_is : ledger ≡ LedgerCell lv) where
  abbrev s : Setting
  s = a.setting

  abbrev w : World
  w = here.world

  abbrev v : View
  v = view s w

  abbrev n : ℕ
  n = here.number

  abbrev g : Ghost
  g = here.inv.ghost_of

  i : InvWith s v g
  i = here.inv.holds

  abbrev its : Command
  its = record { of = due.of; work = work_is.Query }

  command : v.commands n ≡ Some its
  command = ap (λ (x : ActorValue). x.command) here.agrees.actor_is ∙ due.command

  role : v.roles n ≡ Session due.server
  role = ap (λ (x : ActorValue). x.role) here.agrees.actor_is ∙ due.role

  desk-server : desk_server ≡ due.server
  desk-server = (let tags : DeskOf desk_server ≡ DeskOf due.server = sym (ap tag_of desk_is) ∙ due.desk_is in cc)

  desk-cell : desk ≡ DeskCell due.server dv
  desk-cell = desk_is ∙ ap (λ (x : ℕ). DeskCell x dv) desk-server

  desk-held : (due.server < s.servers) × (v.desks due.server ≡ dv)
  desk-held = held-desk s w i.numbering.tag desk_at due.server dv (here.agrees.cells.0 ∙ desk-cell)

  ledger-promised : v.promised ≡ lv.promised
  ledger-promised = (let both = held-ledger s w i.numbering.tag ledger_at lv (here.agrees.cells.1.0 ∙ ledger_is) in both.1)

  asked : (q : Query) × (query_at v.history due.of ≡ Some q)
  asked = (let progress = i.telling.progress n its command in (progress.0, progress.2))

  op : (v.desks due.server).op ≡ Some due.of
  op = i.desking.on_desk n due.server its command role refl

  desk-op : dv.op ≡ Some due.of
  desk-op = sym (ap (λ (x : DeskValue). x.op) desk-held.1) ∙ op

  sum : verdict_of dv.parts ≡ Some (Sum due.answer)
  sum = ap (λ (x : CellValue). verdict_of (desk_in x).parts) (sym desk_is) ∙ due.sum

  pub can-give : CanGive dv lv
  can-give = record {
    op = subst (λ (o : Option ℕ). IsSome o) (sym desk-op) refl;
    few = subst (λ (x : DeskValue). (sum_of x.parts).count < 2 ^ 63) desk-held.1
        (few s w g i due.server due.of asked.0 desk-held.0 op asked.1 due.answer (ap (λ (x : DeskValue). verdict_of x.parts) desk-held.1 ∙ sum));
    sum = (due.answer, sum);
    promised =
        let some = sum-some (actor_count s) (λ b. owed_by (v.commands b)) n (has-command s v i.numbering n its command) in
        let one : owed_by (v.commands n) ≡ 1 = ap owed_by command in
        let all = i.owing.promises in
        omega (arith, some, one, all, ledger-promised);
  }

  -- an actor's command is read as it is said of it
  pub at-query : (c : Command) → a.command ≡ Some c → c.of ≡ due.of
  at-query c has = (let both : ◌≡◌ {A = Option Command} (Some c) (doing due.of work_is.Query) = sym has ∙ due.command in ap (λ (o : Option Command). option_map_or (λ (x : Command). x.of) o 0) both)

  -- the kind was done

  pub has-answered : (dv2 : DeskValue) (lv2 : LedgerValue) (desk2 ledger2 : CellValue) (b : ActorValue) → GivesAnswer due.of dv dv2 lv lv2
      → desk2 ≡ DeskCell desk_server dv2 → ledger2 ≡ LedgerCell lv2 → b ≡ record a { command = None; seen = length lv2.history }
      → Makes hs kind.Answer (change desk_at desk desk2 ∷ change ledger_at ledger ledger2 ∷ []) a b
  has-answered dv2 lv2 desk2 ledger2 b gives desk2_is ledger2_is b_is =
      let seen : b.seen ≡ length lv2.history = ap (λ (x : ActorValue). x.seen) b_is in
      let used : lv.promised + 0 ≡ lv2.promised + 1 = (let p = gives.promised in omega (arith, p)) in
      let does : DoesAnswer (change desk_at desk desk2) (change ledger_at ledger ledger2) a b = record {
        of = due.of;
        command = due.command;
        idle = due.idle;
        server = due.server;
        role = due.role;
        desk = dv;
        op = desk-op;
        answer = gives.answer;
        sum = gives.sum;
        clear = record { was = desk-cell; is = desk2_is ∙ ap (λ (x : ℕ). DeskCell x dv2) desk-server ∙ ap (DeskCell due.server) gives.clear };
        answered = record { ledger = lv; ledger_now = lv2; was = ledger_is; is = ledger2_is; history = gives.history; promised = used; all_seen = seen };
        actor_is = b_is ∙ (λ k. record a { command = None; seen = sym seen k });
      } in
      record { does = does; keeps = answer-keeps hs (change desk_at desk desk2) (change ledger_at ledger ledger2) a b does }
