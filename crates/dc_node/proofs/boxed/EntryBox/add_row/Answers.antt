use Rattle.std.proofs.{Common.{◌≡◌, ◌∙◌, ◌<◌, List, length, get_or, set, refl, ap, sym, subst}, lemmas.Option.slice_get_read}
use Rattle.std.specs.Prelude.{slice_get}
use Rattle.dc_node.specs.{Entry.IsWithRow, declared.entry.Entry.Entry}
use Rattle.dc_node.proofs.Places.{set-refilled}
use Rattle.dc_node.proofs.boxed.EntryBox.add_row.Goals as goal

pub returns : goal.returns
returns c =
    let e = c.index-deref_mut-index.result in
    let lent = c.deref_mut.result.now.items in
    let seen : lent ≡ c.args.self.now.items = ap (λ v. v.items) (c.deref_mut.ensures.value ∙ c.self.view_is) in
    let read : e ≡ get_or lent c.args.index e = c.index-deref_mut-index.is ∙ ap (λ (xs : List Entry). get_or xs c.args.index e) c.deref_mut-2.ensures.value in
    let within : c.args.index < length lent = subst (λ (xs : List Entry). c.args.index < length xs) (sym seen) c.requires.within in
    record {
      entry = e;
      entry_now = c.add_row.new.self;
      entry_at = ap (λ (xs : List Entry). slice_get xs c.args.index) (sym seen) ∙ slice_get_read lent (length lent) c.args.index e refl within read;
      counted = subst (λ (x : Entry). IsWithRow c.args.h.now c.args.row.now x c.add_row.new.self) (sym c.index-deref_mut-index.is) c.add_row.ensures;
      now_is = set-refilled lent c.deref_mut-2.result.now c.args.index c.add_row.new.self c.deref_mut-2.ensures.value ∙ ap (λ (xs : List Entry). set xs c.args.index c.add_row.new.self) seen;
    }
