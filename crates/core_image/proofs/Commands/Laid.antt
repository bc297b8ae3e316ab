-- The parts of a command are laid on its server's empty desk: what the parts of the invariant keep that read desks and commands and
-- no event.
use Rattle.std.proofs.{Common.{◌≡◌, ◌≢◌, ℕ, ◌<◌, List, [], ◌∷◌, Bool, true, false, eqb, Option, Some, None, sym, ap, subst, ◌∙◌, All, Any}, lemmas.Bool.{false≢true, eqb-true, eqb-false}}
use Rattle.std.specs.Prelude.{IsSome}
use Rattle.dim_hierarchy.specs.declared.row.Row.{Row}
use Rattle.dc_node.specs.declared.block.Block.{Block}
use Rattle.mapping_table.specs.declared.place.Where.{Where}
use Rattle.query_router.specs.{Desk.{DeskValue, is_open, is_refused, is_taken, is_with}, declared.part.Part.Part}
use Rattle.row_ledger.specs.{Past.{Insert, Query, insert_at, query_at}, declared.event.Event.Event}
use Rattle.server_image.specs.Image.{ImageValue}
use Rattle.volap_cell.specs.shard_store.specs.declared.gate.Gate.{Gate}
use Rattle.volap_cell.specs.tree_shape.specs.{Queries.fits, Shape.Shape}
use Rattle.list_words.proofs.Truth.{on_bool}
use Rattle.volap_cell.specs.{Desking.{Desking, IsInsertState, IsQueryPart, IsQueryState, IsTaken, AreLinesApart, is_on_desk}, Errands.{ReadPart, RowWay, Taken}, Growing.{IsUnder, table_of}, Lineage.Leading, Placing.{Inserting, IsRowPart}, Querying.{Querying, IsCounted, IsEndOfPart, IsReading, must_hold}, Setting.Setting, declared.command.Command.Command, declared.role.Role.Role, declared.role.Role.TheVariants.Session}
use Rattle.volap_cell.specs.declared.command.Work.TheVariants as work_is
use Rattle.volap_cell.proofs.Views.Fields.{IsNewAt}
use Rattle.core_image.proofs.Commands.Going.{its-own, other-had}

-- a desk with a command and its parts
abbrev pub laid : DeskValue → ℕ → List Part → DeskValue
laid desk of parts = record desk { op = Some of; parts = parts }

module _ (s : Setting) (server : ℕ) (desk : DeskValue) (of : ℕ) (parts : List Part) (desks desks_now : ℕ → DeskValue) (new : IsNewAt desks_now desks server desk (laid desk of parts)) (empty : desk.op ≡ None) where
  -- a desk on which a command stood is another one
  pub was-off : (x b : ℕ) → (desks x).op ≡ Some b → x ≢ server
  was-off x b op e = (let never : ◌≡◌ {A = Option ℕ} None (Some b) = sym empty ∙ sym (ap (λ (d : DeskValue). d.op) (ap desks e ∙ new.was_there)) ∙ op in absurd (cc))

  -- what is so of the new command and of those that stood on other desks is so of all
  of-each : (P : ℕ → ℕ → DeskValue → Type 0) → P of server (laid desk of parts) → ((x b : ℕ) → x ≢ server → (desks x).op ≡ Some b → P b x (desks x))
      → (x b : ℕ) → (desks_now x).op ≡ Some b → P b x (desks_now x)
  of-each P here off x b op = on_bool (eqb x server)
      (λ q.
      let e = eqb-true x server q in
      let same : desks_now x ≡ laid desk of parts = ap desks_now e ∙ new.is_there in
      let both : ◌≡◌ {A = Option ℕ} (Some of) (Some b) = sym (ap (λ (d : DeskValue). d.op) same) ∙ op in
      let number : of ≡ b = cc in
      subst (λ (y : ℕ). P y x (desks_now x)) number (subst (λ (y : ℕ). P of y (desks_now x)) (sym e) (subst (P of server) (sym same) here)))
      (λ q.
      let ne = eqb-false x server q in
      let same = new.elsewhere x ne in
      subst (P b x) (sym same) (off x b ne (sym (ap (λ (d : DeskValue). d.op) same) ∙ op)))

  -- what is so of the new parts and of all others is so of all
  all-parts : (P : ℕ → Part → Type 0) → All (P server) parts → ((x : ℕ) → x < s.servers → All (P x) (desks x).parts) → (x : ℕ) → x < s.servers → All (P x) (desks_now x).parts
  all-parts P here all x within = on_bool (eqb x server)
      (λ q. let e = eqb-true x server q in
      subst (λ (d : DeskValue). All (P x) d.parts) (sym (ap desks_now e ∙ new.is_there)) (subst (λ (y : ℕ). All (P y) parts) (sym e) here))
      (λ q. subst (λ (d : DeskValue). All (P x) d.parts) (sym (new.elsewhere x (eqb-false x server q))) (all x within))

  pub laid-leading : (maps : ℕ → ℕ → Option Where) (images : ℕ → ImageValue) → All (λ (p : Part). is_open p ≡ true → (p.worker < s.workers) × IsSome (maps p.worker p.shard)) parts
      → Leading s maps images desks → Leading s maps images desks_now
  laid-leading maps images here i = record { spots = i.spots; parts = all-parts (λ x p. is_open p ≡ true → (p.worker < s.workers) × IsSome (maps p.worker p.shard)) here i.parts }

  -- an actor's part is on another desk
  pub taken-off : (h : List Event) (roles : ℕ → Role) (commands : ℕ → Option Command) (taken : ℕ → Option Taken) → Desking s h desks roles commands taken
      → (a : ℕ) (t : Taken) → taken a ≡ Some t → t.server ≢ server
  taken-off h roles commands taken i a t is = let at = i.at_parts a t is in was-off t.server at.of at.op

  -- the command is that of an actor, a session of the server, which had none that stood on a desk
  module _ (n : ℕ) (old : Option Command) (its : Command) (roles : ℕ → Role) (commands commands_now : ℕ → Option Command) (begins : IsNewAt commands_now commands n old (Some its)) (number : its.of ≡ of) (role : roles n ≡ Session server)
      (on : is_on_desk its.work ≡ true) (off : (c : Command) → old ≡ Some c → is_on_desk c.work ≡ false) where
    pub laid-desking : (h : List Event) (taken : ℕ → Option Taken)
        → ((insert : Insert) → insert_at h of ≡ Some insert → (p : Part) × (parts ≡ p ∷ []) × IsInsertState insert p.state)
        → ((q : Query) → query_at h of ≡ Some q → All (λ (p : Part). IsQueryState q p.state) parts × AreLinesApart h parts × All (IsQueryPart s h) parts)
        → All (λ (p : Part). is_taken p ≡ true → IsTaken taken server p) parts
        → Desking s h desks roles commands taken → Desking s h desks_now roles commands_now taken
    laid-desking h taken insert query untaken i = record {
      empty = λ x within op. on_bool (eqb x server)
          (λ q. let never : ◌≡◌ {A = Option ℕ} (Some of) None = sym (ap (λ (d : DeskValue). d.op) (ap desks_now (eqb-true x server q) ∙ new.is_there)) ∙ op in absurd (cc))
          (λ q. subst (λ (d : DeskValue). d.op ≡ None → d.parts ≡ []) (sym (new.elsewhere x (eqb-false x server q))) (i.empty x within) op);
      whose = λ x b within op. of-each (λ b x d. x < s.servers → (a : ℕ) × (c : Command) × (commands_now a ≡ Some c) × (c.of ≡ b) × (roles a ≡ Session x) × (is_on_desk c.work ≡ true))
          (λ lt. (n, its, begins.is_there, number, role, on))
          (λ x b ne op lt.
          let (a, c, has, is, serves, stood) = i.whose x b lt op in
          let other : a ≢ n = (λ e. false≢true (sym (off c (sym begins.was_there ∙ ap commands (sym e) ∙ has)) ∙ stood)) in
          (a, c, begins.elsewhere a other ∙ has, is, serves, stood)) x b op within;
      on_desk = λ a x c has serves stood. on_bool (eqb a n)
          (λ q.
          let e = eqb-true a n q in
          let same : its ≡ c = its-own n old its commands commands_now begins c (ap commands_now (sym e) ∙ has) in
          let servers : Session x ≡ Session server = sym serves ∙ ap roles e ∙ role in
          let here : x ≡ server = cc in
          ap (λ (d : DeskValue). d.op) (ap desks_now here ∙ new.is_there) ∙ ap Some (sym number) ∙ ap (λ (d : Command). Some d.of) same)
          (λ q.
          let was = i.on_desk a x c (other-had n old its commands commands_now begins a c (eqb-false a n q) has) serves stood in
          ap (λ (d : DeskValue). d.op) (new.elsewhere x (was-off x c.of was)) ∙ was);
      insert = λ x b insert_ within op is. of-each (λ b x d. x < s.servers → insert_at h b ≡ Some insert_ → (p : Part) × (d.parts ≡ p ∷ []) × IsInsertState insert_ p.state)
          (λ lt begun. insert insert_ begun) (λ x b ne was lt begun. i.insert x b insert_ lt was begun) x b op within is;
      query = λ x b q within op is. of-each (λ b x d. x < s.servers → query_at h b ≡ Some q → All (λ (p : Part). IsQueryState q p.state) d.parts × AreLinesApart h d.parts × All (IsQueryPart s h) d.parts)
          (λ lt asked. query q asked) (λ x b ne was lt asked. i.query x b q lt was asked) x b op within is;
      takers = all-parts (λ x p. is_taken p ≡ true → IsTaken taken x p) untaken i.takers;
      at_parts = λ a t is.
          let at = i.at_parts a t is in
          let same : desks_now t.server ≡ desks t.server = new.elsewhere t.server (was-off t.server at.of at.op) in
          record {
            within = at.within;
            of = at.of;
            op = ap (λ (d : DeskValue). d.op) same ∙ at.op;
            wants = at.wants;
            part = subst (λ (d : DeskValue). Any (λ (p : Part). is_with t.shard t.worker p ≡ true) d.parts) (sym same) at.part;
          };
      one = i.one;
    }

    pub laid-inserting : (h : List Event) (images : ℕ → ImageValue) (ways : ℕ → Option RowWay) (placed : ℕ → Bool) (path : ℕ → List ℕ)
        → ((insert : Insert) → insert_at h of ≡ Some insert → All (λ (p : Part). IsRowPart h images ways placed path server of p p.state) parts)
        → Inserting s h images desks commands ways placed path → Inserting s h images desks_now commands_now ways placed path
    laid-inserting h images ways placed path here i = record {
      unrouted = λ a r row is.
          let other : a ≢ n = (λ e.
          let same : its ≡ record { of = r; work = work_is.Insert row false } = its-own n old its commands commands_now begins _ (ap commands_now (sym e) ∙ is) in
          false≢true (sym (ap (λ (c : Command). is_on_desk c.work) same) ∙ on)) in
          i.unrouted a r row (other-had n old its commands commands_now begins a _ other is);
      parts = λ x r insert within op is. of-each (λ b x d. x < s.servers → insert_at h b ≡ Some insert → All (λ (p : Part). IsRowPart h images ways placed path x b p p.state) d.parts)
          (λ lt begun. here insert begun) (λ x b ne was lt begun. i.parts x b insert lt was begun) x r op within is;
      on_way = i.on_way;
    }

  -- What a part of a query of this desk has counted may be set anew, as nobody is at such a part.
  pub laid-querying : (h : List Event) (row : ℕ → Row) (blocks : ℕ → Block) (trees : ℕ → Gate) (taken : ℕ → Option Taken) (reads : ℕ → Option ReadPart) (shape : ℕ → Shape) (placed : ℕ → Bool) (home : ℕ → ℕ) (counted counted_now : ℕ → ℕ → List ℕ)
      → ((x : ℕ) → x ≢ server → counted_now x ≡ counted x)
      → ((a : ℕ) (t : Taken) → taken a ≡ Some t → t.server ≢ server)
      → ((q : Query) → query_at h of ≡ Some q → All (λ (p : Part). is_refused p ≡ false → IsCounted s h row placed home q p.shard (counted_now server p.shard)) parts)
      → ((q : Query) → query_at h of ≡ Some q → All (λ (p : Part). IsEndOfPart s h row placed home of q p.shard (counted_now server p.shard) p.state) parts)
      → ((q : Query) → query_at h of ≡ Some q → (r : ℕ) → must_hold s.hierarchy h of q r ≡ true → fits (table_of s row) q.filter r ≡ true → Any (λ (p : Part). IsUnder h placed home p.shard r) parts)
      → ((a : ℕ) (p : ReadPart) → reads a ≡ Some p → p.server ≢ server)
      → Querying s h row blocks trees desks taken reads shape placed home counted → Querying s h row blocks trees desks_now taken reads shape placed home counted_now
  laid-querying h row blocks trees taken reads shape placed home counted counted_now elsewhere untaken counts ends whole unread i = record {
    counts = λ x b q within op is.
        of-each (λ b x d. x < s.servers → query_at h b ≡ Some q → All (λ (p : Part). is_refused p ≡ false → IsCounted s h row placed home q p.shard (counted_now x p.shard)) d.parts)
        (λ lt asked. counts q asked)
        (λ x b ne was lt asked. subst (λ (f : ℕ → List ℕ). All (λ (p : Part). is_refused p ≡ false → IsCounted s h row placed home q p.shard (f p.shard)) (desks x).parts) (sym (elsewhere x ne)) (i.counts x b q lt was asked)) x b op within is;
    ends = λ x b q within op is.
        of-each (λ b x d. x < s.servers → query_at h b ≡ Some q → All (λ (p : Part). IsEndOfPart s h row placed home b q p.shard (counted_now x p.shard) p.state) d.parts)
        (λ lt asked. ends q asked)
        (λ x b ne was lt asked. subst (λ (f : ℕ → List ℕ). All (λ (p : Part). IsEndOfPart s h row placed home b q p.shard (f p.shard) p.state) (desks x).parts) (sym (elsewhere x ne)) (i.ends x b q lt was asked)) x b op within is;
    whole = λ x b q within op is r must fit.
        of-each (λ b x d. x < s.servers → query_at h b ≡ Some q → must_hold s.hierarchy h b q r ≡ true → Any (λ (p : Part). IsUnder h placed home p.shard r) d.parts)
        (λ lt asked held. whole q asked r held fit) (λ x b ne was lt asked held. i.whole x b q lt was asked r held fit) x b op within is must;
    reading = λ a b q p is op asked.
        let ne = unread a p is in
        let was = sym (ap (λ (d : DeskValue). d.op) (new.elsewhere p.server ne)) ∙ op in
        subst (λ (f : ℕ → List ℕ). IsReading s h row blocks trees shape placed home b q p.shard (f p.shard) p.reading) (sym (elsewhere p.server ne)) (i.reading a b q p is was asked);
    unread = λ a t f is want none. ap (λ (c : ℕ → List ℕ). c t.shard) (elsewhere t.server (untaken a t is)) ∙ i.unread a t f is want none;
  }
