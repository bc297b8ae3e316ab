-- What a pull asks is so where it is due.
use Rattle.std.proofs.{Common.{ℕ, ◌≡◌, ◌<◌, ◌≤◌, ◌+◌, ◌-◌, ◌^◌, ◌∙◌, Bool, true, false, Option, Some, None, refl, sym, ap, subst, arith, if◌then◌else◌}, lemmas.Bool.{ltb-false, ltb-true}}
use Rattle.std.specs.Prelude.{nat_lt}
use Rattle.core_due.specs.{Works.{pull_due}, WorksReady.{IsWorkAsked}}
use Rattle.list_words.proofs.Elements.{Some-same}
use Rattle.row_ledger.specs.declared.settings.How.TheVariants as how
use Rattle.core_steps.specs.volap_cell.proofs.Cells.Numbers.{tag-image}
use Rattle.core_steps.specs.volap_cell.specs.{Commands.{MayNoteEnd, due_pull, settles_next}, ImageKinds.doing, Invariant.InvWith, Setting.{Setting, image_cell, ledger_cell, registry_cell}, Steps.{Inv}, View.view, World.World, declared.command.Work.Work}
use Rattle.core_steps.specs.volap_cell.specs.declared.command.Work.TheVariants as work_is
use Rattle.core_due.proofs.EndsAsked.{ended}

-- Settles.

-- a server for which a settle pulls is there
settle-within : (servers pulls server : ℕ) → settles_next servers pulls ≡ Some server → server < servers
settle-within servers pulls server next = by (nat_lt pulls servers) (nat_lt pulls (servers + servers)) refl refl next
  where
    by : (a b : Bool) → nat_lt pulls servers ≡ a → nat_lt pulls (servers + servers) ≡ b → (if a then Some pulls else if b then Some (pulls - servers) else None) ≡ Some server → server < servers
    by true b first second e = (let same = Some-same pulls server e in let less = ltb-true pulls servers first in omega (arith, same, less))
    by false true first second e =
        let same = Some-same (pulls - servers) server e in
        let past = ltb-false pulls servers first in
        let less = ltb-true pulls (servers + servers) second in
        omega (arith, same, past, less)
    by false false first second e = (let never : ◌≡◌ {A = Option ℕ} None (Some server) = e in absurd (cc))

-- one that pulls no more has made all its pulls
settled : (servers pulls : ℕ) → pulls ≤ servers + servers → settles_next servers pulls ≡ None → pulls ≡ servers + servers
settled servers pulls most over = by (nat_lt pulls servers) (nat_lt pulls (servers + servers)) refl over
  where
    by : (a b : Bool) → nat_lt pulls (servers + servers) ≡ b → (if a then Some pulls else if b then Some (pulls - servers) else None) ≡ None → pulls ≡ servers + servers
    by true b second e = (let never : Some pulls ≡ None = e in absurd (cc))
    by false true second e = (let never : Some (pulls - servers) ≡ None = e in absurd (cc))
    by false false second e = (let past = ltb-false pulls (servers + servers) second in omega (arith, most, past))

module _ (s : Setting) (w : World) (inv : Inv s w) (n : ℕ) where
  abbrev i : InvWith s (view s w) inv.ghost_of
  i = inv.holds

  -- Pulls.

  -- a pull for a server, and what ends a command that pulls no more
  pull-asked : (of : ℕ) (work : Work) → (w.actors n).command ≡ doing of work → s.servers < 2 ^ 8 → (o : Option ℕ) → due_pull s.servers work ≡ o → ((x : ℕ) → o ≡ Some x → x < s.servers) → (o ≡ None → MayNoteEnd s.servers work (w.actors n).job how.Fine)
      → IsWorkAsked s w n (pull_due o)
  pull-asked of work command few None due within ends = ended s w inv n of work how.Fine command (ends refl)
  pull-asked of work command few (Some x) due within ends = record {
    of = of;
    work = work;
    command = command;
    server = x;
    due = ap (λ (t : Setting). due_pull t.servers work) (i.numbering.about n) ∙ due;
    few = subst (λ (t : Setting). t.servers < 2 ^ 8) (sym (i.numbering.about n)) few;
    image_is = i.numbering.tag (image_cell x) ∙ tag-image s x (within x refl);
    registry_is = i.numbering.tag registry_cell;
    ledger_is = i.numbering.tag ledger_cell;
  }

  pub sync-asked : (of server : ℕ) (pulled : Bool) → (w.actors n).command ≡ doing of (work_is.Sync server pulled) → s.servers < 2 ^ 8 → IsWorkAsked s w n (pull_due (if pulled then None else Some server))
  sync-asked of server true command few = pull-asked of (work_is.Sync server true) command few None refl (λ x e. let never : ◌≡◌ {A = Option ℕ} None (Some x) = e in absurd (cc)) (λ e. refl)
  sync-asked of server false command few =
      let p = i.telling.progress n (record { of = of; work = work_is.Sync server false }) command in
      pull-asked of (work_is.Sync server false) command few (Some server) refl (λ x e. subst (λ (k : ℕ). k < s.servers) (sym (Some-same server x e)) p.1) (λ e. let never : Some server ≡ None = e in absurd (cc))

  pub settle-asked : (of pulls : ℕ) → (w.actors n).command ≡ doing of (work_is.Settle pulls) → s.servers < 2 ^ 8 → IsWorkAsked s w n (pull_due (settles_next s.servers pulls))
  settle-asked of pulls command few =
      let p = i.telling.progress n (record { of = of; work = work_is.Settle pulls }) command in
      pull-asked of (work_is.Settle pulls) command few (settles_next s.servers pulls) refl (λ x e. settle-within s.servers pulls x e) (λ e. settled s.servers pulls p.1 e)
