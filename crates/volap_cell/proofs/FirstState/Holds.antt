-- An opening meets the invariant.
use Rattle.std.proofs.{Common.{◌≡◌, ◌∙◌, ℕ, ◌+◌, Bool, true, cond, List, [], refl, sym, ap, subst, arith, ◌&&◌}, lemmas.Bool.{and_right, false≢true}}
use Rattle.std.specs.Prelude.{Some, Contains, option_and_then}
use Rattle.query_router.specs.Desk.{DeskValue, is_taken}
use Rattle.row_ledger.specs.Past.{Ack, Insert, Query, acked, event_at, insert_at, query_at, session_in}
use Rattle.list_words.proofs.Elements.{Contains-nil}
use Rattle.row_ledger.proofs.Growth.{KeepsRight-opened}
use Rattle.list_words.specs.Counts.{same, times}
use Rattle.shard_build.specs.tree_shape.specs.Shape.{numbers}
use Rattle.volap_cell.specs.{Desking.{Desking, IsTaken}, Ghost.Ghost, Invariant.InvWith, Numbering.{IsSetting, Numbering}, Opening.IsOpening, Owing.{Owing, is_insert, one_if, owed_by, serves}, Placing.{Inserting, Placing}, Querying.Querying, Reusing.Reusing, Setting.{Setting, actor_count, site_in}, Steps.Inv, Telling.Telling, View.{View, view}, Working.{Balancing, Working}, World.World}
use Rattle.volap_cell.proofs.{FirstState.Found.tag-is, FirstState.Past.{opening-acked, opening-insert, opening-query, opening-session}, FirstState.Servers.{all-none, covering, imaging, leading, lineage}, FirstState.Shapes.{ghost, none-there}, FirstState.Stock.{growing, pinning, queueing, resting, stamping, stocking, turning}, FirstState.View.{v, command-none, desk-is, job-none, no-command, no-job, no-part, no-read, no-way, not-gone, op-never, opens, owed-none, parts-none, promised-none, pulled, purse-none, quiet, sum-none, taken-none}, Reusing.stands-off}

module _ (s : Setting) (w : World) (set : IsSetting s) (o : IsOpening s w) where
  abbrev vs : View
  vs = v s w set o

  abbrev g : Ghost
  g = ghost s w set o

  numbering : Numbering s vs.tags vs.numbers vs.roles vs.settings vs.counted_in vs.purses vs.commands vs.taken vs.jobs
  numbering = record {
    setting = set;
    tag = tag-is s w set o;
    number = λ a. (o.actors a).number;
    role = λ a low. (o.actors a).role low;
    about = λ a. (o.actors a).about;
    nobody = λ a high. ((o.actors a).counted, purse-none s w set o a, command-none s w set o a, taken-none s w set o a, job-none s w set o a);
    beyond = λ a high. (o.actors a).beyond high;
    working = λ a j is. no-job s w set o a j is;
    parts = λ a t is. (let none = taken-none s w set o a in absurd (let never : ⊥ = cc in never));
    idle = λ a role none. purse-none s w set o a;
  }

  -- The history.

  -- it has no insert, no query and no command
  no-insert : {P : Type 0} (r : ℕ) (i : Insert) → insert_at vs.history r ≡ Some i → P
  no-insert r i is = let none = opening-insert (site_in s) vs.history (opens s w set o) r in absurd (let never : ⊥ = cc in never)

  no-query : {P : Type 0} (b : ℕ) (q : Query) → query_at vs.history b ≡ Some q → P
  no-query b q is = let none = opening-query (site_in s) vs.history (opens s w set o) b in absurd (let never : ⊥ = cc in never)

  no-session : {P : Type 0} (a p : ℕ) → option_and_then session_in (event_at vs.history p) ≡ Some a → P
  no-session a p is = let none = opening-session (site_in s) vs.history (opens s w set o) p in absurd (let never : ⊥ = cc in never)

  no-ack : {P : Type 0} (k : Ack) → Contains (acked vs.history) k → P
  no-ack k has = absurd (Contains-nil k (subst (λ (acks : List Ack). Contains acks k) (opening-acked (site_in s) vs.history (opens s w set o)) has))

  telling : Telling s vs.history vs.commands vs.jobs vs.roles vs.seen g.placed
  telling = record {
    right = KeepsRight-opened (site_in s) g.placed vs.history (opens s w set o) (pulled s w set o);
    own = λ a c is. no-command s w set o a c is;
    is_open = λ a c is. no-command s w set o a c is;
    progress = λ a c is. no-command s w set o a c is;
    last = λ a p is. no-session a p is;
    within = λ a. (let none = (o.actors a).seen in omega arith);
    rows = λ r i is. no-insert r i is;
    filters = λ b q is. no-query b q is;
    status = λ a p is. no-session a p is;
  }

  owing : Owing s vs.history vs.promised vs.images vs.desks vs.roles vs.commands vs.counted_in
  owing = record {
    promises = promised-none s w set o ∙ sym (sum-none (actor_count s) (λ a. owed_by (vs.commands a)) (λ a. ap owed_by (command-none s w set o a)));
    few = (let few = set.few in let all = pulled s w set o in let none = promised-none s w set o in omega arith);
    image = λ server low. owed-none s w set o server low
        ∙ sym (sum-none (actor_count s) (λ a. one_if (serves server (vs.roles a) && is_insert (vs.commands a)))
        (λ a. ap one_if (and_right (serves server (vs.roles a)) (is_insert (vs.commands a)) (ap is_insert (command-none s w set o a)))));
    sessions = λ server low. ap (λ (d : DeskValue). d.sessions) (desk-is s w set o server low)
        ∙ sym (sum-none (actor_count s) (λ a. one_if (serves server (vs.roles a) && vs.counted_in a))
        (λ a. ap one_if (and_right (serves server (vs.roles a)) (vs.counted_in a) (o.actors a).counted)));
  }

  -- Rows: there are none.

  no-place : (x r : ℕ) → cond ((g.shape (g.gate x)).placed r) 1 0 + times r (numbers (vs.queues (g.gate x)).rows) ≡ cond (g.placed r) (same (g.home r) x) 0
  no-place x r =
      let none = none-there s w set o (g.gate x) r in
      let rows = (quiet s w set o (g.gate x)).rows in
      let tree : ◌≡◌ {A = ℕ} (cond ((g.shape (g.gate x)).placed r) 1 0) 0 = ap (λ (b : Bool). cond b 1 0) none in
      let queue : times r (numbers (vs.queues (g.gate x)).rows) ≡ 0 = ap (λ rs. times r (numbers rs)) rows in
      omega arith

  placing : Placing s vs.history vs.commands vs.ways vs.queues g.gate g.shape g.placed g.home g.path
  placing = record {
    one = λ x r stands. no-place x r;
    stands = λ r placed. absurd (false≢true placed);
    begun = λ r placed. absurd (false≢true placed);
    line = λ r placed. absurd (false≢true placed);
    acked_rows = λ k has. no-ack k has;
    others = λ r placed. absurd (false≢true placed);
  }

  inserting : Inserting s vs.history vs.images vs.desks vs.commands vs.ways g.placed g.path
  inserting = record {
    unrouted = λ a r row is. no-command s w set o a _ is;
    parts = λ server r i low op is. op-never s w set o server r low op;
    on_way = λ a m is. no-way s w set o a m is;
  }

  -- Desks, queries and jobs: there are none.

  desking : Desking s vs.history vs.desks vs.roles vs.commands vs.taken
  desking = record {
    empty = λ server low none. parts-none s w set o server low;
    whose = λ server of low op. op-never s w set o server of low op;
    on_desk = λ a server c is role on. no-command s w set o a c is;
    insert = λ server of i low op is. op-never s w set o server of low op;
    query = λ server of q low op is. op-never s w set o server of low op;
    takers = λ server low. all-none (λ p. is_taken p ≡ true → IsTaken vs.taken server p) (vs.desks server).parts (parts-none s w set o server low);
    at_parts = λ a t is. no-part s w set o a t is;
    one = λ a b t u is other server shard worker. no-part s w set o a t is;
  }

  querying : Querying s vs.history vs.row vs.blocks vs.trees vs.desks vs.taken vs.reads g.shape g.placed g.home g.counted
  querying = record {
    counts = λ server of q low op is. op-never s w set o server of low op;
    ends = λ server of q low op is. op-never s w set o server of low op;
    whole = λ server of q low op is r must fit. op-never s w set o server of low op;
    reading = λ a of q p is op at. no-read s w set o a p is;
    unread = λ a t f is want none. refl;
  }

  working : Working s vs.history vs.blocks vs.made vs.trees vs.phases vs.active vs.queues vs.purses vs.commands vs.jobs g.gate g.shape g.placed
  working = record {
    command = λ a j is. no-job s w set o a j is;
    front = λ a j is. no-job s w set o a j is;
    to = λ a worker j is to. no-job s w set o a j is;
    unspent = λ a j is none. no-job s w set o a j is;
    declined = λ a j c why is command stage. no-job s w set o a j is;
    frozen = λ a j f is stage. no-job s w set o a j is;
    collected = λ a j k is stage. no-job s w set o a j is;
    building = λ a j b is stage. no-job s w set o a j is;
  }

  balancing : Balancing s vs.history vs.commands vs.jobs g.placed g.home
  balancing = record { balance = λ a of b is. no-command s w set o a _ is }

  -- No gate is gone.

  reusing : Reusing vs.roles vs.phases vs.gone_gates
  reusing = record { listed = λ a c role. ap (times c) (o.actors a).gone_gates ∙ sym (ap (λ (b : Bool). cond b 1 0) (stands-off (vs.phases c) (not-gone s w set o c))) }

  -- The invariant.

  holds : InvWith s (view s w) g
  holds = record {
    numbering = numbering;
    telling = telling;
    owing = owing;
    turning = turning s w set o;
    stocking = stocking s w set o;
    stamping = stamping s w set o;
    lineage = lineage s w set o;
    leading = leading s w set o;
    growing = growing s w set o;
    queueing = queueing s w set o;
    resting = resting s w set o;
    placing = placing;
    inserting = inserting;
    imaging = imaging s w set o;
    covering = covering s w set o;
    desking = desking;
    pinning = pinning s w set o;
    querying = querying;
    working = working;
    balancing = balancing;
    reusing = reusing;
  }

pub opening-holds : (s : Setting) (w : World) → IsSetting s → IsOpening s w → (g : Ghost) × InvWith s (view s w) g
opening-holds s w set o = (ghost s w set o, holds s w set o)

pub opening-inv : (s : Setting) (w : World) → IsSetting s → IsOpening s w → Inv s w
opening-inv s w set o = record {
  ghost_of = ghost s w set o;
  holds = holds s w set o;
  reached = record { opening = w; is_opening = o; made = []; lead = refl };
}
