-- How a session's pull comes to its end.
use Rattle.std.proofs.Common.{◌∙◌, ℕ, ◌<◌, Result, Ok, Err, inl, inr, refl, sym, ap, subst, arith}
use Rattle.actor_run.specs.{Called.{EndedCall}, Doing.{HasDone, HasRefused}, Sessions.{EndsSync, IsSession}}
use Rattle.actor_run.specs.declared.session.Synced.TheVariants as synced
use Rattle.actor_run.proofs.Sessions.{IsBut, done}
use Rattle.whole_steps.specs.call_steps.specs.{Calls.CanCall, Opened.{IsCallDone}}
use Rattle.row_ledger.specs.declared.{class.Class.Class, class.Class.TheVariants.Sync}
use Rattle.row_ledger.specs.declared.settings.{Call.TheVariants.{Sync as CallsSync}, How.{How}, How.TheVariants.{Fine, NoMemory}}
use Rattle.whole_steps.specs.seat_steps.specs.declared.floor.{Floor.Floor, Player.Player}
use Rattle.whole_steps.specs.session_steps.proofs.Servers.{server-below}
use Rattle.whole_steps.specs.volap_cell.specs.{Commands.MayCall, Values.{actor_of}, declared.role.Role.Role}

abbrev server_in : Class → ℕ
server_in (Sync server) = server
server_in class = 0

module _ (f : Floor) (server : ℕ) (was : Player) (s : IsSession f server was) where
  pub can-sync : CanCall f (CallsSync server) was
  can-sync = record {
    free = s.free;
    allowed = subst (λ (r : Role). MayCall r (CallsSync server)) (sym s.role) refl;
    server = λ x is. subst (λ (n : ℕ). n < f.with.servers) (ap server_in is) (server-below f was s.stands.seated server s.role);
    valid = tt;
    noted = s.noted;
  }

  module _ (of : ℕ) (how : How) (now : Player) (done_is : IsCallDone f of (CallsSync server) how was now) where
    -- its command and its job are none, as they were
    but : IsBut f server was s (actor_of now.actor)
    but = done_is.actor ∙ (λ i. record (actor_of was.actor) {
      command = sym s.free.command i;
      job = sym s.free.job i;
      seen = (actor_of now.actor).seen;
      purse = (actor_of now.actor).purse;
      boxes = (actor_of now.actor).boxes;
      gone_gates = (actor_of now.actor).gone_gates;
    })

    ended : EndedCall f was.number (CallsSync server) how was.seat.view.seen now.seat.view.seen
    ended = record { of = of; began = record { past = done_is.called.past; at = done_is.called.at; one = done_is.called.one }; older = done_is.older; newest = done_is.newest; pulls = done_is.pulls }

    -- it was called and has ended so
    pub called : HasDone f (λ x y. EndedCall x.floor x.number (CallsSync x.server) how x.seen y.seen) server was now
    called = done f server was s now done_is.stands done_is.called.number but (omega (arith, done_is.noted)) done_is.called.seen (λ x y. EndedCall x.floor x.number (CallsSync x.server) how x.seen y.seen) ended

  pub sync-fine : (of : ℕ) (now : Player) → IsCallDone f of (CallsSync server) Fine was now → HasDone f (EndsSync synced.Ok) server was now
  sync-fine of now is = (let did = called of Fine now is in record { session = did.session; goes = did.goes; ends = did.ends })

  pub sync-failed : (of : ℕ) (now : Player) → IsCallDone f of (CallsSync server) NoMemory was now → HasDone f (EndsSync synced.NoMemory) server was now
  sync-failed of now is = (let did = called of NoMemory now is in record { session = did.session; goes = did.goes; ends = inr (inr did.ends) })

  pub sync-refused : {T E : Type 0} (r : Result T E) (now : Player) → HasDone f (HasRefused r) server was now → HasDone f (EndsSync synced.NoMemory) server was now
  sync-refused (Ok u) now did = (
      let one = did.ends in
      record { session = did.session; goes = did.goes; ends = inr (inl (record { of = one.1.0; past = one.1.1.past; at = one.1.1.at; one = one.1.1.one; older = one.0.0; newest = one.0.1 })) }
      )
  sync-refused (Err e) now did = record { session = did.session; goes = did.goes; ends = inl did.ends }
