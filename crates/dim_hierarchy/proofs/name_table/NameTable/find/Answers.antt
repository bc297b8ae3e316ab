use Rattle.std.proofs.{Common.{◌∙◌, ap, sym, refl, length}, lemmas.Option.slice_get_read}
use Rattle.std.specs.FinMap as map
use Rattle.std.specs.Option.{option_map}
use Rattle.dim_hierarchy.specs.NameNodes.{told_at}
use Rattle.dim_hierarchy.proofs.{NameMaps.{get-name_map, told-others}, NameStops.stop-told}
use Rattle.dim_hierarchy.proofs.name_table.NameTable.find.Goals as goal

pub returns-in-Here : goal.returns-in-Here
returns-in-Here c =
    let ns = c.self.inside.nodes.items in
    let os = c.self.inside.others.entries in
    let q = c.args.name.now in
    let way = stop-told ns c.deref.result.now q q c.hash_of.result c.stop_of.result c.deref.ensures.value refl c.hash_of.ensures c.stop_of.ensures.value in
    let read = slice_get_read ns (length c.deref.result.now) c.in-Here.at c.index.result.now (ap length c.deref.ensures.value) c.in-Here.ensures.within c.index.ensures in
    ap (option_map (λ n. n.id)) (sym read) ∙ ap (told_at ns os q) (sym c.in-Here.is ∙ way) ∙ sym (get-name_map ns os q) ∙ ap (λ m. map.get m q) c.self.view_is

pub returns-in-Free : goal.returns-in-Free
returns-in-Free c =
    let ns = c.self.inside.nodes.items in
    let os = c.self.inside.others.entries in
    let q = c.args.name.now in
    let way = stop-told ns c.deref.result.now q q c.hash_of.result c.stop_of.result c.deref.ensures.value refl c.hash_of.ensures c.stop_of.ensures.value in
    c.copied.ensures ∙ c.get.ensures.value ∙ sym (told-others ns os q c.stop_of.result c.in-Free.is) ∙ ap (told_at ns os q) way ∙ sym (get-name_map ns os q) ∙ ap (λ m. map.get m q) c.self.view_is
