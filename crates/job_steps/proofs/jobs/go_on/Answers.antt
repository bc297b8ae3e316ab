use Rattle.std.proofs.Common.{◌≡◌, ◌∙◌, ℕ, [], Option, None, Some, IsSome, refl, sym, ap, subst}
use Rattle.std.specs.Prelude.{option_map}
use Rattle.seat_steps.specs.core_due.specs.Look.{setting_by}
use Rattle.job_steps.proofs.Arms.{still-before, stop-came}
use Rattle.job_steps.specs.{Dues.last_unbuilt, Jobs.CameTo, declared.steps.JobDid.JobDid}
use Rattle.seat_steps.specs.link_descent.specs.declared.entered.Fresh.{Fresh}
use Rattle.list_words.proofs.Elements.{Some-same}
use Rattle.row_ledger.specs.declared.settings.How.TheVariants.{Declined}
use Rattle.seat_steps.specs.core_image.specs.NotesDue.{MayBeLeft}
use Rattle.seat_steps.specs.volap_cell.specs.{Commands.EndsStage, Setting.map_cell, Values.{StageValue, building_of, collecting_of, job_of, stage_of}, declared.{command.Command.Command, job.Job.Job}}
use Rattle.job_steps.proofs.jobs.go_on.Goals as goal

pub freeze-requires-clause-called : goal.freeze-requires-clause-called
freeze-requires-clause-called g c = record {
  job = job_of c.in-Some.job.value;
  has = record { is_job = ap (option_map (λ j. job_of j.value)) c.in-Some.is; stage_is = ap (λ (j : Job). stage_of j.stage) (sym c.deref-2.ensures) ∙ ap stage_of c.in-Called.is };
  map_is = c.map_at-map.ensures ∙ ap (λ (j : Job). map_cell (setting_by [] c.args.floor.now.with) j.worker) c.deref.ensures;
  shard_is = ap (λ (j : Job). j.shard) c.deref-in-Called.ensures;
}

pub stop-requires : goal.stop-requires
stop-requires g c = record { opened = subst (λ (o : Option Command). IsSome o) (sym c.requires.at.opened.command) refl }

pub returns-in-Declined : goal.returns-in-Declined
returns-in-Declined g c =
    let f = c.args.floor.now in
    let p = c.args.player.now in
    let has = c.requires.at.opened in
    let stage_is = ap (λ (j : Job). stage_of j.stage) (sym c.deref-2.ensures) ∙ ap stage_of c.in-Declined.is in
    record {
      came = subst (λ (r : JobDid). CameTo f r p p) (sym (c.stop.ensures has.of has.work has.command))
          (stop-came f p (Declined c.in-Declined.why) (still-before c.requires.stands) has (job_of c.in-Some.job.value) (ap (option_map (λ j. job_of j.value)) c.in-Some.is)
          (subst (λ (st : StageValue). EndsStage st (Declined c.in-Declined.why)) (sym stage_is) refl) (subst MayBeLeft (sym stage_is) tt));
    }

pub drain-requires-clause-frozen : goal.drain-requires-clause-frozen
drain-requires-clause-frozen g c = record {
  job = job_of c.in-Some.job.value;
  frozen = c.in-Frozen.frozen;
  has = record { is_job = ap (option_map (λ j. job_of j.value)) c.in-Some.is; stage_is = ap (λ (j : Job). stage_of j.stage) (sym c.deref-2.ensures) ∙ ap stage_of c.in-Frozen.is };
  gate_is = refl;
}

pub collect-requires-clause-collects : goal.collect-requires-clause-collects
collect-requires-clause-collects g c = record {
  job = job_of c.in-Some.job.value;
  collecting = collecting_of c.in-Collecting.collecting;
  has = record { is_job = ap (option_map (λ j. job_of j.value)) c.in-Some.is; stage_is = ap (λ (j : Job). stage_of j.stage) (sym c.deref-2.ensures) ∙ ap stage_of c.in-Collecting.is };
  noted_is = c.last_noted-noted.ensures;
  gate_is = refl;
  queued_is = refl;
}

-- The last new block that isn't in its cell, by the number of that cell.

last-some : (o : Option Fresh) (cell : ℕ) → option_map (λ (u : Fresh). u.cell) o ≡ Some cell → (last : Fresh) × (o ≡ Some last) × (cell ≡ last.cell)
last-some None cell e = absurd (cc)
last-some (Some u) cell e = (u, refl, Some-same u.cell cell e)

last-none : (o : Option Fresh) → option_map (λ (u : Fresh). u.cell) o ≡ None → o ≡ None
last-none None e = refl
last-none (Some u) e = absurd (cc)

pub build-requires-clause-builds : goal.build-requires-clause-builds
build-requires-clause-builds g c =
    let b = building_of c.in-Building.building in
    let last = last-some (last_unbuilt b) c.in-Some-last_unbuilt.cell (sym c.last_unbuilt.ensures ∙ c.in-Some-last_unbuilt.is) in
    record {
      job = job_of c.in-Some.job.value;
      building = b;
      has = record { is_job = ap (option_map (λ j. job_of j.value)) c.in-Some.is; stage_is = ap (λ (j : Job). stage_of j.stage) (sym c.deref-2.ensures) ∙ ap stage_of c.in-Building.is };
      last = last.0;
      last_is = last.1;
      cell_is = last.2;
    }

pub finish-requires-clause-finishes : goal.finish-requires-clause-finishes
finish-requires-clause-finishes g c =
    let b = building_of c.in-Building.building in
    record {
      job = job_of c.in-Some.job.value;
      building = b;
      has = record { is_job = ap (option_map (λ j. job_of j.value)) c.in-Some.is; stage_is = ap (λ (j : Job). stage_of j.stage) (sym c.deref-2.ensures) ∙ ap stage_of c.in-Building.is };
      in_cells = last-none (last_unbuilt b) (sym c.last_unbuilt.ensures ∙ c.in-None.is);
      map_is = c.map_at-map.ensures ∙ ap (λ (j : Job). map_cell (setting_by [] c.args.floor.now.with) j.worker) c.deref.ensures;
      gate_is = refl;
      to_is = c.table_to-to.ensures ∙ ap (λ (j : Job). option_map (map_cell (setting_by [] c.args.floor.now.with)) j.to) c.deref-in-None.ensures;
    }
