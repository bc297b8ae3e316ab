-- The one administrator's job goes on to another stage: what the parts keep that see of a job only whose it is.
use Rattle.std.proofs.{Common.{◌≡◌, ◌≢◌, ℕ, ◌<◌, List, eqb, Option, Some, None, is_some, sym, ap, ◌∙◌, subst, arith}, lemmas.Bool.{eqb-true, eqb-false}}
use Rattle.row_ledger.specs.declared.event.Event.{Event}
use Rattle.list_words.proofs.Truth.{on_bool}
use Rattle.core_tree.specs.volap_cell.specs.{Ghost.Ghost, Invariant.InvWith, Numbering.Numbering, Setting.{Setting, actor_count}, Telling.{IsProgress, Telling}, Values.{JobValue, StageValue}, View.View, Working.{Balancing, IsJobOf}, declared.command.Work.Work, declared.role.Role.Role, declared.role.Role.TheVariants.Admin}
use Rattle.core_tree.specs.volap_cell.specs.declared.command.Work.TheVariants as work_is
use Rattle.core_tree.specs.volap_cell.proofs.{Persons.has-job, Views.Fields.IsNewAt}

-- of a command it is seen only whether there is a job
pub progress-alike : (s : Setting) (h : List Event) (of : ℕ) (work : Work) (job job_now : Option JobValue) (role : Role) → is_some job_now ≡ is_some job → IsProgress s h of work job role → IsProgress s h of work job_now role
progress-alike s h of (work_is.Insert row routed) job job_now role same p = p
progress-alike s h of work_is.Query job job_now role same p = p
progress-alike s h of (work_is.Sync server pulled) job job_now role same p = p
progress-alike s h of work_is.Bare job job_now role same p = p
progress-alike s h of (work_is.Settle pulls) job job_now role same p = p
progress-alike s h of (work_is.Action act) job job_now role same p = (p.0, p.1, same ∙ p.2)
progress-alike s h of (work_is.Balance b) job job_now role same p = p
progress-alike s h of (work_is.Page subject there shown) job job_now role same p = p

-- a job at another stage is for the same command
pub job-alike : (work : Work) (job : JobValue) (stage : StageValue) → IsJobOf work job → IsJobOf work (record job { stage = stage })
job-alike (work_is.Insert row routed) job stage p = p
job-alike work_is.Query job stage p = p
job-alike (work_is.Sync server pulled) job stage p = p
job-alike work_is.Bare job stage p = p
job-alike (work_is.Settle pulls) job stage p = p
job-alike (work_is.Action act) job stage p = p
job-alike (work_is.Balance b) job stage p = p
job-alike (work_is.Page subject there shown) job stage p = p

-- there is one administrator
pub only-one : (s : Setting) (v : View) (g : Ghost) → InvWith s v g → (a b : ℕ) (j k : JobValue) → v.jobs a ≡ Some j → v.jobs b ≡ Some k → a ≡ b
only-one s v g i a b j k is has =
    let one = i.numbering.role a (has-job s v i.numbering a j is) ∙ ap Some (i.numbering.working a j is) in
    let two = i.numbering.role b (has-job s v i.numbering b k has) ∙ ap Some (i.numbering.working b k has) in
    i.numbering.setting.admin a b one two

module _ (s : Setting) (v : View) (g : Ghost) (i : InvWith s v g) (n : ℕ) (job : JobValue) (stage : StageValue) (jobs_now : ℕ → Option JobValue) (new : IsNewAt jobs_now v.jobs n (Some job) (Some (record job { stage = stage }))) where
  abbrev pub job_now : JobValue
  job_now = record job { stage = stage }

  pub there : n < actor_count s
  there = has-job s v i.numbering n job new.was_there

  -- whoever has a job is the actor, and has this one
  pub its-job : (P : ℕ → JobValue → Type 0) → P n job_now → (a : ℕ) (j : JobValue) → jobs_now a ≡ Some j → P a j
  its-job P p a j is = on_bool (eqb a n)
      (λ q.
      let e = eqb-true a n q in
      let both : ◌≡◌ {A = Option JobValue} (Some job_now) (Some j) = sym new.is_there ∙ ap jobs_now (sym e) ∙ is in
      let same : job_now ≡ j = cc in
      subst (λ (x : ℕ). P x j) (sym e) (subst (P n) same p))
      (λ q. let ne = eqb-false a n q in absurd (ne (only-one s v g i a n j job (sym (new.elsewhere a ne) ∙ is) new.was_there)))

  pub some-same : (a : ℕ) → is_some (jobs_now a) ≡ is_some (v.jobs a)
  some-same a = on_bool (eqb a n)
      (λ q. let e = eqb-true a n q in ap is_some (ap jobs_now e ∙ new.is_there) ∙ sym (ap is_some (ap v.jobs e ∙ new.was_there)))
      (λ q. ap is_some (new.elsewhere a (eqb-false a n q)))

  pub numbering-on : Numbering s v.tags v.numbers v.roles v.settings v.counted_in v.purses v.commands v.taken jobs_now
  numbering-on =
      let k = i.numbering in record {
        setting = k.setting;
        tag = k.tag;
        number = k.number;
        role = k.role;
        about = k.about;
        nobody = λ a le. let no = k.nobody a le in let t = there in let ne : a ≢ n = (λ e. absurd (omega (arith, le, t, e))) in (no.0, no.1, no.2, no.3, new.elsewhere a ne ∙ no.4);
        beyond = k.beyond;
        working = its-job (λ a j. v.roles a ≡ Admin) (k.working n job new.was_there);
        parts = k.parts;
        idle = λ a role none. k.idle a role (on_bool (eqb a n)
            (λ q. let never : ◌≡◌ {A = Option JobValue} (Some job_now) None = sym new.is_there ∙ ap jobs_now (sym (eqb-true a n q)) ∙ none in absurd (cc))
            (λ q. sym (new.elsewhere a (eqb-false a n q)) ∙ none));
      }

  pub telling-on : Telling s v.history v.commands jobs_now v.roles v.seen g.placed
  telling-on =
      let k = i.telling in record {
        right = k.right;
        own = k.own;
        is_open = k.is_open;
        progress = λ a c is. progress-alike s v.history c.of c.work (v.jobs a) (jobs_now a) (v.roles a) (some-same a) (k.progress a c is);
        last = k.last;
        within = k.within;
        rows = k.rows;
        filters = k.filters;
        status = k.status;
      }

  pub balancing-on : Balancing s v.history v.commands jobs_now g.placed g.home
  balancing-on = record {
    balance = λ a of b is. let k = i.balancing.balance a of b is in record {
      places = k.places;
      readings = k.readings;
      loads = k.loads;
      each = k.each;
      read = k.read;
      still = k.still;
      planned = k.planned;
      from = k.from;
      at_work = some-same a ∙ k.at_work;
    };
  }
