-- A server's desk is cleared and the command on it ends: what the parts keep that read desks and commands and no event.
use Rattle.std.proofs.{Common.{◌≡◌, ◌≢◌, ℕ, ◌<◌, List, [], ◌∷◌, Bool, true, false, eqb, Option, Some, None, sym, ap, subst, ◌∙◌, ◌==◌, ◌&&◌, All, Any, Contains}, lemmas.Bool.{and_parts, eqb-true, eqb-false}, lemmas.List.Elements.All-nil}
use Rattle.std.specs.Prelude.{IsSome}
use Rattle.dim_hierarchy.specs.declared.row.Row.{Row}
use Rattle.dc_node.specs.declared.block.Block.{Block}
use Rattle.cell_stock.specs.declared.purse.Spare.{Spare}
use Rattle.mapping_table.specs.declared.place.Where.{Where}
use Rattle.query_router.specs.{Desk.{DeskValue, is_open, is_refused, is_taken, is_with}, declared.part.Part.Part}
use Rattle.row_ledger.specs.declared.event.Event.{Event}
use Rattle.server_image.specs.Image.{ImageValue}
use Rattle.volap_cell.specs.shard_store.specs.{declared.gate.Gate.Gate, declared.gate.Phase.Phase, declared.queue.Queue.Queue}
use Rattle.volap_cell.specs.tree_shape.specs.Shape.{Shape}
use Rattle.list_words.proofs.Truth.{on_bool}
use Rattle.volap_cell.specs.{Cells.Tag, Desking.{Desking, IsInsertState, IsQueryPart, IsQueryState, IsTaken, AreLinesApart}, Errands.{ReadPart, RowWay, Taken}, Growing.IsUnder, ImageKinds.cleared, Lineage.Leading, Numbering.Numbering, Placing.{Inserting, IsRowPart}, Querying.{Querying, IsCounted, IsEndOfPart}, Setting.Setting, Values.JobValue, Working.{Balancing, Working}, declared.command.Command.Command, declared.role.Role.Role, declared.role.Role.TheVariants.Session}
use Rattle.volap_cell.proofs.Views.Fields.{IsNewAt}

-- Commands. One ends.

module _ (n : ℕ) (its : Command) (commands commands_now : ℕ → Option Command) (end : IsNewAt commands_now commands n (Some its) None) where
  -- who has a command now had it before, and is another one
  pub still-has : (a : ℕ) (c : Command) → commands_now a ≡ Some c → (a ≢ n) × (commands a ≡ Some c)
  still-has a c is =
      let ne : a ≢ n = (λ e. let never : ◌≡◌ {A = Option Command} None (Some c) = sym end.is_there ∙ ap commands_now (sym e) ∙ is in absurd (cc)) in
      (ne, sym (end.elsewhere a ne) ∙ is)

  -- and the others keep theirs
  pub others-keep : (a : ℕ) (c : Command) → a ≢ n → commands a ≡ Some c → commands_now a ≡ Some c
  others-keep a c ne is = end.elsewhere a ne ∙ is

  pub ended-numbering : (s : Setting) (tags : ℕ → Tag) (numbers : ℕ → ℕ) (roles : ℕ → Role) (settings : ℕ → Setting) (counted_in : ℕ → Bool) (purses : ℕ → List Spare) (taken : ℕ → Option Taken) (jobs : ℕ → Option JobValue)
      → Numbering s tags numbers roles settings counted_in purses commands taken jobs → Numbering s tags numbers roles settings counted_in purses commands_now taken jobs
  ended-numbering s tags numbers roles settings counted_in purses taken jobs i = record {
    setting = i.setting;
    tag = i.tag;
    number = i.number;
    role = i.role;
    about = i.about;
    beyond = i.beyond;
    nobody = λ a le. let (counted, purse, none, takes, job) = i.nobody a le in
        (counted, purse, on_bool (eqb a n) (λ q. ap commands_now (eqb-true a n q) ∙ end.is_there) (λ q. end.elsewhere a (eqb-false a n q) ∙ none), takes, job);
    working = i.working;
    parts = i.parts;
    idle = i.idle;
  }

  pub ended-working : (s : Setting) (h : List Event) (blocks : ℕ → Block) (made : ℕ → Bool) (trees : ℕ → Gate) (phases : ℕ → Option Phase) (active : ℕ → ℕ) (queues : ℕ → Queue) (purses : ℕ → List Spare) (jobs : ℕ → Option JobValue) (gate : ℕ → ℕ) (shape : ℕ → Shape) (placed : ℕ → Bool)
      → ((j : JobValue) → jobs n ≡ Some j → ⊥)
      → Working s h blocks made trees phases active queues purses commands jobs gate shape placed → Working s h blocks made trees phases active queues purses commands_now jobs gate shape placed
  ended-working s h blocks made trees phases active queues purses jobs gate shape placed jobless i = record {
    command = λ a j is. let old = i.command a j is in (old.0, others-keep a old.0 (λ e. jobless j (ap jobs (sym e) ∙ is)) old.1, old.2);
    front = i.front;
    to = i.to;
    unspent = i.unspent;
    declined = λ a j c why is has stage. i.declined a j c why is (still-has a c has).1 stage;
    frozen = i.frozen;
    collected = i.collected;
    building = i.building;
  }

  pub ended-balancing : (s : Setting) (h : List Event) (jobs : ℕ → Option JobValue) (placed : ℕ → Bool) (home : ℕ → ℕ) → Balancing s h commands jobs placed home → Balancing s h commands_now jobs placed home
  ended-balancing s h jobs placed home i = record { balance = λ a of b is. i.balance a of b (still-has a _ is).1 }

  pub ended-inserting : (s : Setting) (h : List Event) (images : ℕ → ImageValue) (desks : ℕ → DeskValue) (ways : ℕ → Option RowWay) (placed : ℕ → Bool) (path : ℕ → List ℕ)
      → Inserting s h images desks commands ways placed path → Inserting s h images desks commands_now ways placed path
  ended-inserting s h images desks ways placed path i = record { unrouted = λ a r row is. i.unrouted a r row (still-has a _ is).1; parts = i.parts; on_way = i.on_way }

-- Desks.

module _ (s : Setting) (server : ℕ) (desk : DeskValue) (desks desks_now : ℕ → DeskValue) (new : IsNewAt desks_now desks server desk (cleared desk)) where
  -- a desk on which a command stands is another one, and is as it was

  off : (x of : ℕ) → (desks_now x).op ≡ Some of → x ≢ server
  off x of op e = (let never : ◌≡◌ {A = Option ℕ} None (Some of) = sym (ap (λ (d : DeskValue). d.op) (ap desks_now e ∙ new.is_there)) ∙ op in absurd (cc))

  as-before : (P : DeskValue → Type 0) (x of : ℕ) → (desks_now x).op ≡ Some of → ((desks x).op ≡ Some of → P (desks x)) → P (desks_now x)
  as-before P x of op f =
      let same : desks_now x ≡ desks x = new.elsewhere x (off x of op) in
      subst P (sym same) (f (sym (ap (λ (d : DeskValue). d.op) same) ∙ op))

  -- what holds of all parts still does
  all-parts : (P : ℕ → Part → Type 0) → ((x : ℕ) → x < s.servers → All (P x) (desks x).parts) → (x : ℕ) → x < s.servers → All (P x) (desks_now x).parts
  all-parts P all x within = on_bool (eqb x server)
      (λ q. subst (λ (d : DeskValue). All (P x) d.parts) (sym (ap desks_now (eqb-true x server q) ∙ new.is_there)) (All-nil (P x)))
      (λ q. subst (λ (d : DeskValue). All (P x) d.parts) (sym (new.elsewhere x (eqb-false x server q))) (all x within))

  pub cleared-leading : (maps : ℕ → ℕ → Option Where) (images : ℕ → ImageValue) → Leading s maps images desks → Leading s maps images desks_now
  cleared-leading maps images i = record { spots = i.spots; parts = all-parts (λ x p. is_open p ≡ true → (p.worker < s.workers) × IsSome (maps p.worker p.shard)) i.parts }

  pub cleared-inserting : (h : List Event) (images : ℕ → ImageValue) (commands : ℕ → Option Command) (ways : ℕ → Option RowWay) (placed : ℕ → Bool) (path : ℕ → List ℕ)
      → Inserting s h images desks commands ways placed path → Inserting s h images desks_now commands ways placed path
  cleared-inserting h images commands ways placed path i = record {
    unrouted = i.unrouted;
    parts = λ x r insert within op is. as-before (λ (d : DeskValue). All (λ (p : Part). IsRowPart h images ways placed path x r p p.state) d.parts) x r op (λ was. i.parts x r insert within was is);
    on_way = i.on_way;
  }

  pub cleared-querying : (h : List Event) (row : ℕ → Row) (blocks : ℕ → Block) (trees : ℕ → Gate) (taken : ℕ → Option Taken) (reads : ℕ → Option ReadPart) (shape : ℕ → Shape) (placed : ℕ → Bool) (home : ℕ → ℕ) (counted : ℕ → ℕ → List ℕ)
      → Querying s h row blocks trees desks taken reads shape placed home counted → Querying s h row blocks trees desks_now taken reads shape placed home counted
  cleared-querying h row blocks trees taken reads shape placed home counted i = record {
    counts = λ x of q within op is. as-before (λ (d : DeskValue). All (λ (p : Part). is_refused p ≡ false → IsCounted s h row placed home q p.shard (counted x p.shard)) d.parts) x of op (λ was. i.counts x of q within was is);
    ends = λ x of q within op is. as-before (λ (d : DeskValue). All (λ (p : Part). IsEndOfPart s h row placed home of q p.shard (counted x p.shard) p.state) d.parts) x of op (λ was. i.ends x of q within was is);
    whole = λ x of q within op is r must fit. as-before (λ (d : DeskValue). Any (λ (p : Part). IsUnder h placed home p.shard r) d.parts) x of op (λ was. i.whole x of q within was is r must fit);
    reading = λ a of q p is op asked. i.reading a of q p is (sym (ap (λ (d : DeskValue). d.op) (new.elsewhere p.server (off p.server of op))) ∙ op) asked;
    unread = i.unread;
  }

  -- the command on the desk was that of this actor, a session of the server, and no part was taken
  module _ (n : ℕ) (its : Command) (roles : ℕ → Role) (commands commands_now : ℕ → Option Command) (end : IsNewAt commands_now commands n (Some its) None) (op_is : desk.op ≡ Some its.of) (role : roles n ≡ Session server)
      (own : (a : ℕ) (c : Command) → commands a ≡ Some c → c.of ≡ its.of → a ≡ n) (none : (p : Part) → Contains desk.parts p → is_taken p ≡ true → ⊥) where
    -- an actor's part is on another desk
    elsewhere : (x shard worker : ℕ) → Any (λ (p : Part). is_with shard worker p ≡ true) (desks x).parts → x ≢ server
    elsewhere x shard worker (k, p, within, here, is) e =
        let parts : (desks x).parts ≡ desk.parts = ap (λ (d : DeskValue). d.parts) (ap desks e ∙ new.was_there) in
        none p (subst (λ (ps : List Part). Contains ps p) parts (k, within, here)) (and_parts ((p.shard == shard) && (p.worker == worker)) (is_taken p) is).1

    pub cleared-desking : (h : List Event) (taken : ℕ → Option Taken) → Desking s h desks roles commands taken → Desking s h desks_now roles commands_now taken
    cleared-desking h taken i = record {
      empty = λ x within op. on_bool (eqb x server)
          (λ q. ap (λ (d : DeskValue). d.parts) (ap desks_now (eqb-true x server q) ∙ new.is_there))
          (λ q. subst (λ (d : DeskValue). d.op ≡ None → d.parts ≡ []) (sym (new.elsewhere x (eqb-false x server q))) (i.empty x within) op);
      whose = λ x of within op.
          let ne = off x of op in
          let old = i.whose x of within (sym (ap (λ (d : DeskValue). d.op) (new.elsewhere x ne)) ∙ op) in
          let (a, c, has, is, serves, on) = old in
          let other : a ≢ n = (λ e. let same : Session x ≡ Session server = sym serves ∙ ap roles e ∙ role in ne (cc)) in
          (a, c, others-keep n its commands commands_now end a c other has, is, serves, on);
      on_desk = λ a x c has serves on.
          let was = still-has n its commands commands_now end a c has in
          let old = i.on_desk a x c was.1 serves on in
          let ne : x ≢ server = (λ e.
          let same : ◌≡◌ {A = Option ℕ} (Some c.of) (Some its.of) = sym old ∙ ap (λ (d : DeskValue). d.op) (ap desks e ∙ new.was_there) ∙ op_is in
          was.0 (own a c was.1 (cc))) in
          ap (λ (d : DeskValue). d.op) (new.elsewhere x ne) ∙ old;
      insert = λ x of insert within op is. as-before (λ (d : DeskValue). (p : Part) × (d.parts ≡ p ∷ []) × IsInsertState insert p.state) x of op (λ was. i.insert x of insert within was is);
      query = λ x of q within op is. as-before (λ (d : DeskValue). All (λ (p : Part). IsQueryState q p.state) d.parts × AreLinesApart h d.parts × All (IsQueryPart s h) d.parts) x of op (λ was. i.query x of q within was is);
      takers = all-parts (λ x p. is_taken p ≡ true → IsTaken taken x p) i.takers;
      at_parts = λ a t is.
          let at = i.at_parts a t is in
          let same : desks_now t.server ≡ desks t.server = new.elsewhere t.server (elsewhere t.server t.shard t.worker at.part) in
          record {
            within = at.within;
            of = at.of;
            op = ap (λ (d : DeskValue). d.op) same ∙ at.op;
            wants = at.wants;
            part = subst (λ (d : DeskValue). Any (λ (p : Part). is_with t.shard t.worker p ≡ true) d.parts) (sym same) at.part;
          };
      one = i.one;
    }
