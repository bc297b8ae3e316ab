use Rattle.std.proofs.Common.{refl}
use Rattle.core_pages.specs.core_image.specs.ToldPages.{shown_by}
use Rattle.seeded_run.proofs.{GivesWay.note-made, States.made-so}
use Rattle.seeded_run.proofs.shows.show_page.Goals as goal

pub returns-in-Ok : goal.returns-in-Ok
returns-in-Ok c =
    let ok = c.make.ensures.sure refl in
    record {
      made = note-made c.args.h.now c.args.number c.args.state.now c.make.new.state (made-so c.make.result _ ok c.make.ensures.further)
          (λ w v i j. (shown_by c.in-Ok.page (w.actors c.args.number) 0, refl, made-so c.make.result _ ok c.make.ensures.told w v i j));
    }
