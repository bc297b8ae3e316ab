-- From what a session's calls promise to what it tells.
use Rattle.std.proofs.{Common.{◌≡◌, ◌∙◌, ◌⊎◌, inl, inr, ℕ, ℤ, ◌+◌, List, [], ◌∷◌, ◌++◌, length, refl, sym, ap, subst, arith}, lemmas.List.Elements.Contains-append_right}
use Rattle.std.specs.Prelude.{Some, Contains}
use Rattle.actor_run.specs.Passes.{IsPassOf, PassValue}
use Rattle.actor_run.specs.Sessions.{BecomesPass, DoesQuery, EndsInsert, GoesOn, IsPassFor, SessionValue}
use Rattle.actor_run.specs.declared.session.Asked.{Asked}
use Rattle.actor_run.specs.declared.session.Asked.TheVariants as asked
use Rattle.actor_run.specs.declared.session.Inserted.TheVariants as inserted
use Rattle.dim_hierarchy.specs.{Dimension.Dimension, Filter.IsFilterNamed, declared.filter.NamePick.NamePick, declared.row.Row.Row}
use Rattle.row_ledger.specs.{Past.event_at, Right.IsRight, Site.{Site, site_of}, declared.event.Event.Event}
use Rattle.row_ledger.specs.declared.event.Event.TheVariants as event
use Rattle.actor_run.specs.seat_steps.specs.declared.floor.Floor.{Floor}
use Rattle.actor_run.specs.session_steps.specs.Begins.{row_at}
use Rattle.turn_table.specs.Numbered.{Extends}
use Rattle.actor_run.specs.volap_cell.specs.declared.role.Role.TheVariants.{Session}
use Rattle.hall_calls.specs.{Rows.{AreOwn, IsOwnRow, Teller}, Tells.{Answers, AreNamesFor, HasOwn, HasWorked, IsNewRow, IsTold, teller_of}, declared.work.Told.Told}
use Rattle.hall_calls.proofs.Rows.{are-own-later, counts-own, no-own, one-more, own-newest}

-- Inserts.

pub same-teller : (was now : SessionValue) → now ≡ record was { seen = now.seen } → teller_of now ≡ teller_of was
same-teller was now same = ap teller_of same

-- an acknowledged insert is of a row that is new
pub new-row : (of : ℕ) (names : List (List ℕ)) (measures : ℤ) (was now : SessionValue) → GoesOn was now → EndsInsert (inserted.Ok of) names measures was now → (r : Row) × IsNewRow was now r
new-row of names measures was now goes ends =
    let b = ends.0 in
    let r : Row = row_at of b.at measures in
    let path = ends.1.0 in
    let older = ends.1.1.0 in
    let newest : now.seen ≡ event.Acked of path ∷ older = ends.1.1.1 in
    let at : event_at now.seen of ≡ Some (event.Begun now.number now.server r) = b.began.at ∙ ap (λ (s : SessionValue). Some (event.Begun s.number s.server r)) (sym goes.same) in (
      r,
      record {
        past = b.began.past;
        own = subst (λ l. IsOwnRow (teller_of now) l r) (sym newest)
            (own-newest (teller_of now) older r path (subst (λ l. event_at l of ≡ Some (event.Begun now.number now.server r)) newest at));
      },
    )

pub inserted-more : (was now : SessionValue) (n : ℕ) (rows : List Row) (r : Row) → AreOwn (teller_of was) was.seen n rows → GoesOn was now → IsNewRow was now r → AreOwn (teller_of now) now.seen (n + 1) (r ∷ rows)
inserted-more was now n rows r are goes new =
    let t = teller_of now in
    let newer = goes.later.0 in
    let grown : now.seen ≡ newer ++ was.seen = goes.later.1 in
    let mine : AreOwn t was.seen n rows = subst (λ u. AreOwn u was.seen n rows) (sym (same-teller was now goes.same)) are in
    subst (λ l. AreOwn t l (n + 1) (r ∷ rows)) (sym grown) (one-more t newer was.seen n rows r mine (subst (λ l. IsOwnRow t l r) grown new.own) new.past)

pub inserted-still : (was now : SessionValue) (n : ℕ) (rows : List Row) → AreOwn (teller_of was) was.seen n rows → GoesOn was now → AreOwn (teller_of now) now.seen n rows
inserted-still was now n rows are goes =
    let t = teller_of now in
    let newer = goes.later.0 in
    let mine : AreOwn t was.seen n rows = subst (λ u. AreOwn u was.seen n rows) (sym (same-teller was now goes.same)) are in
    subst (λ l. AreOwn t l n rows) (sym goes.later.1) (are-own-later t newer was.seen n rows mine)

pub own-none : (s : SessionValue) → HasOwn s 0
own-none s = ([], no-own (teller_of s) s.seen)

pub acked-more : (of : ℕ) (names : List (List ℕ)) (measures : ℤ) (was now : SessionValue) (n : ℕ) → GoesOn was now → EndsInsert (inserted.Ok of) names measures was now → HasOwn was n → HasOwn now (n + 1)
acked-more of names measures was now n goes ends has =
    let new = new-row of names measures was now goes ends in
    (new.0 ∷ has.0, inserted-more was now n has.0 new.0 has.1 goes new.1)

pub acked-still : (was now : SessionValue) (n : ℕ) → GoesOn was now → HasOwn was n → HasOwn now n
acked-still was now n goes has = (has.0, inserted-still was now n has.0 has.1 goes)

-- Sessions that go on.

pub on-from : (s was now : SessionValue) → was ≡ record s { seen = was.seen } → now ≡ record was { seen = now.seen } → now ≡ record s { seen = now.seen }
on-from s was now before same = same ∙ ap (λ (x : SessionValue). record x { seen = now.seen }) before

-- what is as long as the dimensions stays so
pub still-fits : (was now : SessionValue) {n : ℕ} → now ≡ record was { seen = now.seen } → n ≡ length was.floor.hierarchy → n ≡ length now.floor.hierarchy
still-fits was now same fits = fits ∙ sym (ap (λ (s : SessionValue). length s.floor.hierarchy) same)

-- one of two rows that fit
pub own-one : (one other names : List (List ℕ)) (s : SessionValue) → length one ≡ length s.floor.hierarchy → length other ≡ length s.floor.hierarchy → (names ≡ one) ⊎ (names ≡ other) → length names ≡ length s.floor.hierarchy
own-one one other names s fits_one fits_other (inl is) = ap length is ∙ fits_one
own-one one other names s fits_one fits_other (inr is) = ap length is ∙ fits_other

-- The query.

pub answers : (names : List NamePick) (was now : SessionValue) (n : ℕ) (rows : List Row) (answer : Asked) → AreOwn (teller_of was) was.seen n rows → DoesQuery answer names was now
    → Answers now.floor.hierarchy names now.seen rows answer
answers names was now n rows (asked.Answer of agg) are does =
    let goes = does.goes in
    let site : Site = site_of now.floor.with now.floor.hierarchy in
    let b = does.ends.0 in
    let past = does.ends.1.0 in
    let newest : now.seen ≡ event.Answered of agg ∷ past = does.ends.1.1 in
    let t = teller_of now in
    let mine : AreOwn t was.seen n rows = subst (λ u. AreOwn u was.seen n rows) (sym (same-teller was now goes.same)) are in
    let at : event_at now.seen of ≡ Some (event.Asked now.number now.server b.filter) = b.began.at ∙ ap (λ (s : SessionValue). Some (event.Asked s.number s.server b.filter)) (sym goes.same) in
    let named : IsFilterNamed now.floor.hierarchy names b.filter = subst (λ (s : SessionValue). IsFilterNamed s.floor.hierarchy names b.filter) (sym goes.same) b.named in (
      subst (λ l. Contains l (event.Answered of agg)) (sym newest) (0, omega arith, refl),
      counts-own site t goes.later.0 was.seen past of agg names b.filter n rows (subst (IsRight site) newest goes.right) (sym newest ∙ goes.later.1)
          (subst (λ l. event_at l of ≡ Some (event.Asked now.number now.server b.filter)) newest at) b.began.past named mine,
    )
answers names was now n rows (asked.Unknown dim) are does = tt
answers names was now n rows asked.NoMemory are does = tt

pub told : (names : List NamePick) (was now : SessionValue) (n : ℕ) (rows : List Row) (answer : Asked) (steps : ℕ) → AreOwn (teller_of was) was.seen n rows → DoesQuery answer names was now
    → IsTold now.floor.hierarchy names (teller_of now) now.seen (record { acked = n; answer = answer; steps = steps })
told names was now n rows answer steps are does = record { rows = rows; inserted = inserted-still was now n rows are does.goes; answer = answers names was now n rows answer are does }

pub told-own : (names : List NamePick) (was now : SessionValue) (n : ℕ) (answer : Asked) (steps : ℕ) → HasOwn was n → DoesQuery answer names was now → IsTold now.floor.hierarchy names (teller_of now) now.seen (record { acked = n; answer = answer; steps = steps })
told-own names was now n answer steps has does = told names was now n has.0 answer steps has.1 does

-- What is told stays so.

answers-later : (h : List Dimension) (names : List NamePick) (newer past : List Event) (rows : List Row) (answer : Asked) → Answers h names past rows answer → Answers h names (newer ++ past) rows answer
answers-later h names newer past rows (asked.Answer of agg) is = (Contains-append_right newer past (event.Answered of agg) is.0, is.1)
answers-later h names newer past rows (asked.Unknown dim) is = tt
answers-later h names newer past rows asked.NoMemory is = tt

pub told-later : (h : List Dimension) (names : List NamePick) (t : Teller) (newer past : List Event) (told : Told) → IsTold h names t past told → IsTold h names t (newer ++ past) told
told-later h names t newer past told is = record {
  rows = is.rows;
  inserted = are-own-later t newer past told.acked is.rows is.inserted;
  answer = answers-later h names newer past is.rows told.answer is.answer;
}

pub told-extended : (h : List Dimension) (names : List NamePick) (t : Teller) (past now : List Event) (told : Told) → Extends now past → IsTold h names t past told → IsTold h names t now told
told-extended h names t past now told later is = subst (λ l. IsTold h names t l told) (sym later.1) (told-later h names t later.0 past told is)

same-server : (a b : ℕ) → Session a ≡ Session b → a ≡ b
same-server a b is = cc

-- and of the pass that the session was made of and became
pub pass-told : (f : Floor) (names : List NamePick) (pass back : PassValue) (s now : SessionValue) (told : Told) → IsPassFor f pass s → now ≡ record s { seen = now.seen }
    → IsTold now.floor.hierarchy names (teller_of now) now.seen told → BecomesPass now back → (server : ℕ) → pass.role ≡ Session server
    → IsTold f.hierarchy names (record { number = pass.number; server = server }) back.seen told
pass-told f names pass back s now told made same is ended server role =
    let t : Teller = record { number = pass.number; server = server } in
    let floor : now.floor ≡ f = ap (λ (x : SessionValue). x.floor) same ∙ made.floor in
    let number : now.number ≡ pass.number = ap (λ (x : SessionValue). x.number) same ∙ made.number in
    let mine : now.server ≡ server = ap (λ (x : SessionValue). x.server) same ∙ same-server s.server server (sym made.role ∙ role) in
    let teller : teller_of now ≡ t = ap (λ k. record { number = k; server = now.server }) number ∙ ap (λ k. record { number = pass.number; server = k }) mine in
    let there : IsTold f.hierarchy names t now.seen told = subst (λ u. IsTold f.hierarchy names u now.seen told) teller (subst (λ (x : Floor). IsTold x.hierarchy names (teller_of now) now.seen told) floor is) in
    told-extended f.hierarchy names t now.seen back.seen told ended.seen there

-- From a pass to a pass.

pub names-for : (f : Floor) (pass : PassValue) (s : SessionValue) (one other : List (List ℕ)) (picks : List NamePick) → IsPassFor f pass s → AreNamesFor f.hierarchy one other picks → AreNamesFor s.floor.hierarchy one other picks
names-for f pass s one other picks made are = subst (λ (x : Floor). AreNamesFor x.hierarchy one other picks) (sym made.floor) are

pub has-worked : (f : Floor) (names : List NamePick) (pass back : PassValue) (s now : SessionValue) (told : Told) → IsPassFor f pass s → now ≡ record s { seen = now.seen } → IsTold now.floor.hierarchy names (teller_of now) now.seen told
    → IsPassOf now.floor back → BecomesPass now back → HasWorked f names pass back told
has-worked f names pass back s now told made same is of ended = record {
  of = subst (λ (x : Floor). IsPassOf x back) (ap (λ (x : SessionValue). x.floor) same ∙ made.floor) of;
  number = ended.number ∙ ap (λ (x : SessionValue). x.number) same ∙ made.number;
  tells = pass-told f names pass back s now told made same is ended;
}
