-- Counting a session in or out at its server's desk keeps the invariant, and nobody's work changes.
use Rattle.std.proofs.{Common.{◌≡◌, ◌≢◌, ◌⊎◌, ℕ, ◌+◌, ◌<◌, List, [], ◌∷◌, Bool, true, false, eqb, refl, sym, ap, ◌∙◌, subst, arith, inl, inr, ◌==◌, ◌&&◌, not, ◌^◌}, lemmas.Bool.{eqb-true, eqb-false, ne_eqb}}
use mathlib.Core.Path.{fun_ext}
use Rattle.dim_hierarchy.specs.Dimension.{Dimension}
use Rattle.query_router.specs.Desk.{DeskValue}
use Rattle.list_words.proofs.Truth.{on_bool, eqb-self}
use Rattle.core_image.specs.NotesDue.{CanCount, Counts, MayCount}
use Rattle.volap_cell.proofs.{Histories.Books.{DeskNew, one-desk}, Persons.{has-role, is-counted}, Sums.{sum-changed, sum-kept, sum-some}, Views.Books.{by_count, view-count_session}, Views.Fields.IsNewAt, Views.Frames.{actor-at, actor-off}, Views.Seen.renewed, Views.Shown.held-desk}
use Rattle.volap_cell.specs.{Cells.{CellValue, DeskCell, DeskOf, desk_in, tag_of}, Falls.left, Ghost.Ghost, ImageKinds.{CountsSession, OfCount}, Invariant.InvWith, Numbering.Numbering, Owing.{one_if, serves}, Setting.{Setting, actor_count}, Steps.{IsKept, Keeps, IsHere, Makes}, Sums.sum_below, Values.ActorValue, View.{View, view}, World.{World, Change, Agrees, after, change, held}, declared.role.Role.Role, declared.role.Role.TheVariants.{Hand, Session}}
use Rattle.volap_cell.specs.declared.kind.Kind.TheVariants as kind
use Rattle.core_image.proofs.Lessens.Remains.{Stays, all-still}

-- desks at which so many sessions are counted in
abbrev pub with_sessions : (ℕ → DeskValue) → (ℕ → ℕ) → ℕ → DeskValue
with_sessions desks sessions x = record (desks x) { sessions = sessions x }

-- a desk of which only the count of sessions is new
counted-only : (desks desks_now : ℕ → DeskValue) (server : ℕ) (desk desk_now : DeskValue) → IsNewAt desks_now desks server desk desk_now → desk_now.op ≡ desk.op → desk_now.parts ≡ desk.parts
    → (x : ℕ) → desks_now x ≡ record (desks x) { sessions = (desks_now x).sessions }
counted-only desks desks_now server desk desk_now new ops parts x = on_bool (eqb x server)
    (λ q.
    let e = eqb-true x server q in
    let was : desks x ≡ desk = ap desks e ∙ new.was_there in
    let now : desks_now x ≡ desk_now = ap desks_now e ∙ new.is_there in
    let o = ap (λ (y : DeskValue). y.op) now ∙ ops ∙ sym (ap (λ (y : DeskValue). y.op) was) in
    let p = ap (λ (y : DeskValue). y.parts) now ∙ parts ∙ sym (ap (λ (y : DeskValue). y.parts) was) in
    λ k. record (desks_now x) { op = o k; parts = p k })
    (λ q. let same = new.elsewhere x (eqb-false x server q) in
    let o = ap (λ (y : DeskValue). y.op) same in
    let p = ap (λ (y : DeskValue). y.parts) same in
    λ k. record (desks_now x) { op = o k; parts = p k })

-- one more or one less
abbrev IsCounted : Bool → Bool → DeskValue → DeskValue → Type 0
IsCounted was now desk desk_now =
    ((was ≡ false) × (now ≡ true) × (desk_now ≡ record desk { sessions = desk.sessions + 1 }))
    ⊎ ((was ≡ true) × (now ≡ false) × (desk ≡ record desk_now { sessions = desk_now.sessions + 1 }))

same-op : (was now : Bool) (desk desk_now : DeskValue) → IsCounted was now desk desk_now → desk_now.op ≡ desk.op
same-op was now desk desk_now counts = elim counts [ inl c ↦ ap (λ (y : DeskValue). y.op) c.2 | inr c ↦ sym (ap (λ (y : DeskValue). y.op) c.2) ]

same-parts : (was now : Bool) (desk desk_now : DeskValue) → IsCounted was now desk desk_now → desk_now.parts ≡ desk.parts
same-parts was now desk desk_now counts = elim counts [ inl c ↦ ap (λ (y : DeskValue). y.parts) c.2 | inr c ↦ sym (ap (λ (y : DeskValue). y.parts) c.2) ]

counted-by : (was now : Bool) (desk desk_now : DeskValue) → IsCounted was now desk desk_now → desk_now.sessions + one_if was ≡ desk.sessions + one_if now
counted-by was now desk desk_now counts = elim counts [
  | inl c ↦ (let a = ap one_if c.0 in let b = ap one_if c.1 in let more = ap (λ (y : DeskValue). y.sessions) c.2 in omega (arith, a, b, more))
  | inr c ↦ (let a = ap one_if c.0 in let b = ap one_if c.1 in let less = ap (λ (y : DeskValue). y.sessions) c.2 in omega (arith, a, b, less))
]

module _ (d : Change) (b : ActorValue) (s : Setting) (w : World) (n : ℕ) (g : Ghost) (i : InvWith s (view s w) g) (ag : Agrees w (d ∷ []) n (w.actors n)) (does : CountsSession d (w.actors n) b) where
  abbrev v : View
  v = view s w

  abbrev w2 : World
  w2 = after w (d ∷ []) n b

  abbrev u : View
  u = view s w2

  abbrev server : ℕ
  server = does.server

  books : (server < s.servers) × DeskNew u v server does.desk does.desk_now
  books = one-desk s w n b i.numbering.tag d ag.cells does.turns

  -- the view afterwards, with its desks written out
  abbrev v2 : View
  v2 = record (renewed by_count u v) { desks = with_sessions v.desks (λ x. (u.desks x).sessions) }

  desks-are : u.desks ≡ v2.desks
  desks-are = fun_ext (counted-only v.desks u.desks server does.desk does.desk_now books.1 (same-op _ _ _ _ does.counts) (same-parts _ _ _ _ does.counts))

  seen : u ≡ renewed by_count u v
  seen = view-count_session s w n d (w.actors n) b ag does

  same : u ≡ v2
  same = seen ∙ (λ k. record (renewed by_count u v) { desks = desks-are k })

  actor-now : w2.actors n ≡ record (w.actors n) { counted = b.counted }
  actor-now = actor-at w.actors n b ∙ does.actor_is

  counted : IsNewAt v2.counted_in v.counted_in n (w.actors n).counted b.counted
  counted = record {
    was_there = refl;
    is_there = ap (λ (a : ActorValue). a.counted) actor-now;
    elsewhere = λ a ne. ap (λ (x : ActorValue). x.counted) (actor-off w.actors n b a ne);
  }

  there : n < actor_count s
  there = has-role s v i.numbering n (λ hand. let never : Session server ≡ Hand s.workers = sym does.role ∙ hand in cc)

  numbering-now : Numbering s v.tags v.numbers v.roles v.settings v2.counted_in v.purses v.commands v.taken v.jobs
  numbering-now = record {
    setting = i.numbering.setting;
    tag = i.numbering.tag;
    number = i.numbering.number;
    role = i.numbering.role;
    about = i.numbering.about;
    beyond = i.numbering.beyond;
    nobody = λ a le. let (none, purse, command, takes, job) = i.numbering.nobody a le in
        let ne : a ≢ n = (λ e. absurd (omega (arith, there, le, e))) in
        (counted.elsewhere a ne ∙ none, purse, command, takes, job);
    working = i.numbering.working;
    parts = i.numbering.parts;
    idle = i.numbering.idle;
  }

  sessions-now : (x : ℕ) → x < s.servers → (v2.desks x).sessions ≡ sum_below (actor_count s) (λ a. one_if (serves x (v.roles a) && v2.counted_in a))
  sessions-now x lt =
      let f : ℕ → ℕ = λ a. one_if (serves x (v.roles a) && v.counted_in a) in
      let k : ℕ → ℕ = λ a. one_if (serves x (v.roles a) && v2.counted_in a) in
      let others : (a : ℕ) → a ≢ n → k a ≡ f a = λ a ne. ap (λ (c : Bool). one_if (serves x (v.roles a) && c)) (counted.elsewhere a ne) in
      let was : f n ≡ one_if ((server == x) && (w.actors n).counted) = ap (λ (r : Role). one_if (serves x r && (w.actors n).counted)) does.role in
      let now : k n ≡ one_if ((server == x) && b.counted) = ap (λ (r : Role). one_if (serves x r && v2.counted_in n)) does.role ∙ ap (λ (c : Bool). one_if ((server == x) && c)) counted.is_there in
      let old = i.owing.sessions x lt in
      on_bool (eqb x server)
      (λ q.
      let e = eqb-true x server q in
      let self : (server == x) ≡ true = ap (λ (y : ℕ). server == y) e ∙ eqb-self server in
      let a : f n ≡ one_if (w.actors n).counted = was ∙ ap (λ (y : Bool). one_if (y && (w.actors n).counted)) self in
      let c : k n ≡ one_if b.counted = now ∙ ap (λ (y : Bool). one_if (y && b.counted)) self in
      let sums = sum-changed (actor_count s) f k n others there in
      let before : (v.desks x).sessions ≡ does.desk.sessions = ap (λ (y : DeskValue). y.sessions) (ap v.desks e ∙ books.1.was_there) in
      let after_ : (v2.desks x).sessions ≡ does.desk_now.sessions = ap (λ (y : DeskValue). y.sessions) (ap u.desks e ∙ books.1.is_there) in
      let by = counted-by _ _ _ _ does.counts in
      omega (arith, a, c, sums, before, after_, by, old))
      (λ q.
      let ne = eqb-false x server q in
      let off : (server == x) ≡ false = ne_eqb server x (λ z. ne (sym z)) in
      let a : f n ≡ 0 = was ∙ ap (λ (y : Bool). one_if (y && (w.actors n).counted)) off in
      let c : k n ≡ 0 = now ∙ ap (λ (y : Bool). one_if (y && b.counted)) off in
      ap (λ (y : DeskValue). y.sessions) (books.1.elsewhere x ne) ∙ old ∙ sym (sum-kept (actor_count s) f k n others (c ∙ sym a)))

  holds : InvWith s v2 g
  holds = record {
    numbering = numbering-now;
    telling = i.telling;
    owing = record { promises = i.owing.promises; few = i.owing.few; image = i.owing.image; sessions = sessions-now };
    turning = i.turning;
    stocking = i.stocking;
    stamping = i.stamping;
    lineage = i.lineage;
    leading = record { spots = i.leading.spots; parts = i.leading.parts };
    growing = i.growing;
    queueing = i.queueing;
    resting = i.resting;
    placing = i.placing;
    inserting = record { unrouted = i.inserting.unrouted; parts = i.inserting.parts; on_way = i.inserting.on_way };
    imaging = i.imaging;
    covering = i.covering;
    desking = record {
      empty = i.desking.empty;
      whose = i.desking.whose;
      on_desk = i.desking.on_desk;
      insert = i.desking.insert;
      query = i.desking.query;
      takers = i.desking.takers;
      at_parts = λ a t is. let at = i.desking.at_parts a t is in record { within = at.within; of = at.of; op = at.op; wants = at.wants; part = at.part };
      one = i.desking.one;
    };
    pinning = i.pinning;
    querying = record { counts = i.querying.counts; ends = i.querying.ends; whole = i.querying.whole; reading = i.querying.reading; unread = i.querying.unread };
    working = i.working;
    balancing = i.balancing;
    reusing = i.reusing;
  }

  still : Stays (w.actors n) (w2.actors n)
  still = record {
    command = ap (λ (x : ActorValue). x.command) actor-now;
    errand = ap (λ (x : ActorValue). x.errand) actor-now;
    purse = ap (λ (x : ActorValue). x.purse) actor-now;
    job = ap (λ (x : ActorValue). x.job) actor-now;
  }

  history-same : u.history ≡ v.history
  history-same = ap (λ (z : View). z.history) seen

  nothing-else : ((left s w2 g).control ≡ (left s w g).control) × ((left s w2 g).gates ≡ (left s w g).gates) × ((left s w2 g).rows ≡ (left s w g).rows) × ((left s w2 g).queries ≡ (left s w g).queries)
  nothing-else = all-still s w w2 g n v2 same (λ a ne. actor-off w.actors n b a ne) still refl refl refl refl (λ x. refl)

  -- one more or less is counted in
  one-differs : (left s w2 g).counted ≢ (left s w g).counted
  one-differs e =
      let f : ℕ → ℕ = λ a. one_if (w.actors a).counted in
      let k : ℕ → ℕ = λ a. one_if (w2.actors a).counted in
      let sums = sum-changed (actor_count s) f k n (λ a ne. ap one_if (counted.elsewhere a ne)) there in
      let now : k n ≡ one_if b.counted = ap one_if counted.is_there in
      elim does.counts [
        | inl c ↦ (let was : f n ≡ 0 = ap one_if c.0 in let is : one_if b.counted ≡ 1 = ap one_if c.1 in absurd (omega (arith, sums, now, was, is, e)))
        | inr c ↦ (let was : f n ≡ 1 = ap one_if c.0 in let is : one_if b.counted ≡ 0 = ap one_if c.1 in absurd (omega (arith, sums, now, was, is, e)))
      ]

  pub counted-kept : IsKept s kind.Note n w w2 g
  counted-kept = record {
    step = record { changes = d ∷ []; actor = b; agrees = ag; does = OfCount does; sight = tt; now_is = refl };
    ghost_now = g;
    holds = subst (λ (z : View). InvWith s z g) (sym same) holds;
    newer = [];
    grows = history-same;
    goes_on = inr (inr (record {
      control = nothing-else.0;
      gates = nothing-else.1;
      rows = nothing-else.2;
      queries = nothing-else.3;
      quiet = history-same;
      counts = one-differs;
    }));
  }

pub count-keeps : (hierarchy : List Dimension) (d : Change) (a b : ActorValue) (does : CountsSession d a b) → Keeps hierarchy kind.Note (d ∷ []) a b (OfCount does)
count-keeps hierarchy d a b does s w n g i_same i ag sight =
    let here : CountsSession d (w.actors n) b = subst (λ (z : ActorValue). CountsSession d z b) (sym ag.actor_is) does in
    counted-kept d b s w n g i (record { cells = ag.cells; actor_is = refl; free = λ x ne. ag.free x ne }) here

-- What the count asks of the desk is so in each state, and what it did is what the kind does.

module _ (hs : List Dimension) (desk_at : ℕ) (desk : CellValue) (a : ActorValue) (come : Bool) (here : IsHere hs (held desk_at desk ∷ []) a) (due : CanCount desk a come) (server : ℕ) (dv : DeskValue) (desk_is : desk ≡ DeskCell server dv) where
  its-server : server ≡ due.server
  its-server = (let tags : DeskOf server ≡ DeskOf due.server = sym (ap tag_of desk_is) ∙ due.desk_is in cc)

  abbrev s : Setting
  s = a.setting

  abbrev now : View
  now = view s here.world

  role-here : now.roles here.number ≡ Session server
  role-here = ap (λ (x : ActorValue). x.role) here.agrees.actor_is ∙ due.role ∙ ap Session (sym its-server)

  counted-here : now.counted_in here.number ≡ not come
  counted-here = ap (λ (x : ActorValue). x.counted) here.agrees.actor_is ∙ due.other

  pub may-count : MayCount dv come
  may-count = by come refl
    where
      by : (c : Bool) → come ≡ c → MayCount dv c
      by true is = subst (λ (x : CellValue). (desk_in x).sessions + 1 < 2 ^ 16) desk_is (due.fits is)
      by false is =
          let i = here.inv.holds in
          let at = held-desk s here.world i.numbering.tag desk_at server dv (here.agrees.cells.0 ∙ desk_is) in
          let f : ℕ → ℕ = λ b. one_if (serves server (now.roles b) && now.counted_in b) in
          let some = sum-some (actor_count s) f here.number (is-counted s now i.numbering here.number (counted-here ∙ ap not is)) in
          let one : f here.number ≡ 1 =
          ap (λ (r : Role). one_if (serves server r && now.counted_in here.number)) role-here ∙ ap (λ (c : Bool). one_if ((server == server) && c)) (counted-here ∙ ap not is) ∙ (rw (eqb-self server) refl) in
          let all = i.owing.sessions server at.0 in
          let same : (now.desks server).sessions ≡ dv.sessions = ap (λ (x : DeskValue). x.sessions) at.1 in
          omega (arith, some, one, all, same)

  pub count-makes : (dv2 : DeskValue) → Counts dv dv2 come → Makes hs kind.Note (change desk_at desk (DeskCell server dv2) ∷ []) a (record a { counted = come })
  count-makes dv2 counts =
      let done : CountsSession (change desk_at desk (DeskCell server dv2)) a (record a { counted = come }) = record {
        server = server;
        role = due.role ∙ ap Session (sym its-server);
        desk = dv;
        desk_now = dv2;
        turns = record { was = desk_is; is = refl };
        counts = by come refl counts;
        actor_is = refl;
      } in
      record { does = OfCount done; keeps = count-keeps hs _ a _ done }
    where
      by : (c : Bool) → come ≡ c → Counts dv dv2 c → IsCounted a.counted come dv dv2
      by true is counts = inl (due.other ∙ ap not is, is, counts)
      by false is counts = inr (due.other ∙ ap not is, is, counts)
