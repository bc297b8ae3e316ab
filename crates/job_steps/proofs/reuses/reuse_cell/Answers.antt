use Rattle.std.proofs.{Common.{◌∙◌, ℕ, ◌<◌, List, get_or, length, sym, ap, subst, arith}, lemmas.Option.{slice_get-get_or, slice_get_within}}
use Rattle.job_steps.proofs.{Arms.still-before, Reusing.{between-since, each-get, get-among, one-more}}
use Rattle.job_steps.specs.Reuses.{WasInUse}
use Rattle.list_words.specs.Counts.{Among}
use Rattle.seat_steps.proofs.Since.{as-before, before-unchanged, unchanged-on}
use Rattle.seat_steps.specs.volap_cell.specs.Values.{ActorValue}
use Rattle.job_steps.proofs.reuses.reuse_cell.Goals as goal

pub loop-place-init : goal.loop-place-init
loop-place-init g c = record { same = still-before c.requires.stands; in_use = λ k gate low e. absurd (omega (arith, low)) }

pub bounds-as_slice-place : goal.bounds-as_slice-place
bounds-as_slice-place g c =
    let gates = ap (λ (a : ActorValue). a.gone_gates) c.loop-place.invariant.same.actor in
    subst (λ (l : List ℕ). c.loop-place.place < length l) (c.as_slice-place-end.ensures ∙ sym gates ∙ sym c.as_slice.ensures) c.loop-place-test.true

pub reuse_at-requires-clause-stands : goal.reuse_at-requires-clause-stands
reuse_at-requires-clause-stands g c = c.loop-place.invariant.same.stands

pub reuse_at-requires-clause-between : goal.reuse_at-requires-clause-between
reuse_at-requires-clause-between g c = between-since (before-unchanged c.loop-place.invariant.same) c.requires.between

pub reuse_at-requires-clause-listed : goal.reuse_at-requires-clause-listed
reuse_at-requires-clause-listed g c =
    let gates = ap (λ (a : ActorValue). a.gone_gates) c.loop-place.invariant.same.actor in
    let read = c.as_slice.result.now in
    let low = subst (λ (l : List ℕ). c.loop-place.place < length l) (c.as_slice-place-end.ensures ∙ sym gates ∙ sym c.as_slice.ensures) c.loop-place-test.true in
    subst (λ (l : List ℕ). Among (get_or read c.loop-place.place 0) l) c.as_slice.ensures (get-among read c.loop-place.place (get_or read c.loop-place.place 0) (slice_get-get_or read c.loop-place.place 0 low))

pub loop-place-preserved : goal.loop-place-preserved
loop-place-preserved g c =
    let f = c.args.floor.now in
    let p = c.args.player.now in
    let k = c.loop-place.invariant in
    let still = before-unchanged k.same in
    let gates = ap (λ (a : ActorValue). a.gone_gates) k.same.actor in
    let low = subst (λ (l : List ℕ). c.loop-place.place < length l) c.as_slice-place-end.ensures c.loop-place-test.true in
    let here = subst (λ (l : List ℕ). WasInUse f p (get_or l c.loop-place.place 0)) (c.as_slice.ensures ∙ gates) (c.in_default.ensures.in_use p still) in
    record {
      same = as-before f c.in_default.ensures.none.stands (unchanged-on still (before-unchanged c.in_default.ensures.none));
      in_use = one-more f p p.actor.gone_gates.cells c.loop-place.place low k.in_use here;
    }

pub returns-in-Some-clause-some : goal.returns-in-Some-clause-some
returns-in-Some-clause-some g c = c.in-Some.ensures.some c.args.player.now (before-unchanged c.loop-place.invariant.same)

pub returns-clause-none : goal.returns-clause-none
returns-clause-none g c = c.loop-place.invariant.same

pub returns-clause-in_use : goal.returns-clause-in_use
returns-clause-in_use g c =
    let f = c.args.floor.now in
    let p = c.args.player.now in
    let gates = p.actor.gone_gates.cells in
    let long = ap (λ (l : List ℕ). length l) c.as_slice-place-end.ensures in
    let past = c.loop-place-test.false in
    each-get (WasInUse f p) gates (λ k gate e. (let within = slice_get_within gates k gate e in c.loop-place.invariant.in_use k gate (omega (arith, long, past, within)) e))
