use Rattle.std.proofs.{Common.{◌≡◌, ◌∙◌, ◌⊎◌, inl, inr, ap, sym, subst, refl, length, ℕ}, lemmas.List.nil_from_length, lemmas.Option.slice_get_read}
use Rattle.std.specs.FinMap as map
use Rattle.dim_hierarchy.specs.{NameNodes.{stop_of, hash_of, told_at, IsStop, name_map}, declared.name_nodes.Stop.TheVariants.{Free, Full}}
use Rattle.dim_hierarchy.proofs.{NameMaps.{told-others, names-replaced, names-behind, names-alone, names-others}, NameStops.{stop-told, new_node-bare}, name_table.NameTable.add.Goals.{in_default-via-in-Free+else-place-lt-MOST_NODES, in_default-via-in-Full+else-place-eq0}}
use Rattle.dim_hierarchy.proofs.name_table.NameTable.add.Goals as goal

pub returns-in-Here-clause-ok : goal.returns-in-Here-clause-ok
returns-in-Here-clause-ok c =
    let ns = c.self.inside.nodes.items in
    let os = c.self.inside.others.entries in
    let name = c.args.name in
    let way = stop-told ns c.deref.result.now name c.as_slice-2.result.now c.hash_of-hash.result c.stop_of-stop.result c.deref.ensures.value c.as_slice-2.ensures (c.hash_of-hash.ensures ∙ ap hash_of c.as_slice.ensures) c.stop_of-stop.ensures.value in
    let n = c.index_mut.result.now in
    let read = slice_get_read ns (length c.deref.result.now) c.in-Here.at n (ap length c.deref.ensures.value) c.in-Here.ensures.within c.index_mut.ensures.value in
    names-replaced ns os name c.in-Here.at n (record { hash = n.hash; name = n.name; id = c.args.id; next = n.next }) (sym way ∙ c.in-Here.is) read refl refl refl
    ∙ ap (λ m. map.insert m name c.args.id) c.self.view_is

pub returns-in_ok-push-in-Free-clause-ok : goal.returns-in_ok-push-in-Free-clause-ok
returns-in_ok-push-in-Free-clause-ok c =
    let ns = c.self.inside.nodes.items in
    let os = c.self.inside.others.entries in
    let name = c.args.name in
    let n = c.new.result in
    let named : n.name.items ≡ name = ap (λ z. z.name.items) c.new.ensures ∙ c.into_vec.ensures in
    let hashed = c.hash_of-hash.ensures ∙ ap hash_of c.as_slice.ensures in
    let way = stop-told ns c.deref.result.now name c.as_slice-2.result.now c.hash_of-hash.result c.stop_of-stop.result c.deref.ensures.value c.as_slice-2.ensures hashed c.stop_of-stop.ensures.value in
    let within = subst (λ z. IsStop z (Free c.in-Free.at c.in-Free.digit)) c.deref.ensures.value c.in-Free.ensures.within in
    let bare = new_node-bare n c.hash_of-hash.result c.into_vec.result c.args.id c.new.ensures in
    let own = ap (λ z. z.hash) c.new.ensures ∙ hashed ∙ ap hash_of (sym named) in
    let free = ap (λ q. stop_of ns q (hash_of q)) named ∙ sym way ∙ c.in-Free.is in
    let is_place = c.len-place.ensures ∙ c.self.inside.nodes.ok.0 in
    names-behind ns c.push.new.self.items os c.in-Free.at c.in-Free.digit c.len-place.result c.index_mut-in-Free.result.now n c.self.invariant within c.in_ok-push-in-Free.ensures.items c.index_mut-in-Free.ensures.value is_place bare own free
    ∙ ap (λ q. map.insert (name_map ns os) q n.id) named
    ∙ ap (λ i. map.insert (name_map ns os) name i) (ap (λ z. z.id) c.new.ensures)
    ∙ ap (λ m. map.insert m name c.args.id) c.self.view_is

pub returns-in_ok-push-in-Full-clause-ok : goal.returns-in_ok-push-in-Full-clause-ok
returns-in_ok-push-in-Full-clause-ok c =
    let ns = c.self.inside.nodes.items in
    let os = c.self.inside.others.entries in
    let name = c.args.name in
    let n = c.new-in-Full.result in
    let named : n.name.items ≡ name = ap (λ z. z.name.items) c.new-in-Full.ensures ∙ c.into_vec-in-Full.ensures in
    let none = nil_from_length ns (sym (c.len-place.ensures ∙ c.self.inside.nodes.ok.0) ∙ c.if-place-eq0.true) in
    let bare = new_node-bare n c.hash_of-hash.result c.into_vec-in-Full.result c.args.id c.new-in-Full.ensures in
    let own = ap (λ z. z.hash) c.new-in-Full.ensures ∙ c.hash_of-hash.ensures ∙ ap hash_of (c.as_slice.ensures ∙ sym named) in
    names-alone ns c.push-in-Full.new.self.items os n none c.in_ok-push-in-Full.ensures.items bare own
    ∙ ap (λ q. map.insert (name_map ns os) q n.id) named
    ∙ ap (λ i. map.insert (name_map ns os) name i) (ap (λ z. z.id) c.new-in-Full.ensures)
    ∙ ap (λ m. map.insert m name c.args.id) c.self.view_is

pub returns-in_ok-insert-in_default-clause-ok : goal.returns-in_ok-insert-in_default-clause-ok
returns-in_ok-insert-in_default-clause-ok c =
    let ns = c.self.inside.nodes.items in
    let os = c.self.inside.others.entries in
    let name = c.into_vec-in_default.result.items in
    let is_name = c.into_vec-in_default.ensures in
    let way = stop-told ns c.deref.result.now name c.as_slice-2.result.now c.hash_of-hash.result c.stop_of-stop.result c.deref.ensures.value (c.as_slice-2.ensures ∙ sym is_name) (c.hash_of-hash.ensures ∙ ap hash_of (c.as_slice.ensures ∙ sym is_name)) c.stop_of-stop.ensures.value in
    let apart : ((at : ℕ) × (digit : ℕ) × (c.stop_of-stop.result ≡ Free at digit)) ⊎ (c.stop_of-stop.result ≡ Full) = elim c.in_default.branch [
      | in_default-via-in-Free+else-place-lt-MOST_NODES w ↦ inl (w.in-Free.at, w.in-Free.digit, w.in-Free.is)
      | in_default-via-in-Full+else-place-eq0 w ↦ inr w.in-Full.is
    ] in
    let u = c.in_ok-insert-in_default.ensures.updates in
    names-others ns os c.insert.new.self.entries c.into_vec-in_default.result c.args.id (λ z. ap (told_at ns z name) (sym way) ∙ told-others ns z name c.stop_of-stop.result apart) u.1 u.3
    ∙ ap (λ m. map.insert m name c.args.id) c.self.view_is
    ∙ ap (λ k. map.insert c.args.self.now k c.args.id) is_name
