use Rattle.std.proofs.{Common.{List, ◌≡◌, ◌∙◌, ◌++◌, ◌∷◌, [], get_or, subst, sym, ap, arith, Some, true, false}, lemmas.Option.slice_get-get_or}
use Rattle.std.specs.{List.remove, Prelude.{◌==◌, IsTrue}}
use Rattle.describing_set.specs.declared.listing.Spot.{Spot}
use Rattle.server_image.specs.{Registry.{RegistryValue, IsRegistry, IsSplit, on_frontier}, Spots.{has_spot, place_of, without, with_spot}}
use Rattle.server_image.proofs.Lists.{place-within, not_in, IsRegistry-split}
use Rattle.server_image.proofs.registry.Registry.split.Goals as goal

pub remove-spot-requires : goal.remove-spot-requires
remove-spot-requires c =
    let xs = c.self.inside.frontier.items in
    let on : has_spot c.args.id xs ≡ true = subst (λ (v : RegistryValue). IsTrue (on_frontier c.args.id v)) (sym c.self.view_is) c.requires.frontier in
    let within = place-within (λ (s : Spot). s.shard == c.args.id) xs on in
    let place : c.place_of.result ≡ place_of c.args.id xs = c.place_of.ensures ∙ ap (place_of c.args.id) (c.deref.ensures.value ∙ c.reserve.ensures.items) in
    omega (arith, within, place, c.self.inside.frontier.ok, c.reserve.ensures.len)

pub invariant_of-self-2 : goal.invariant_of-self-2
invariant_of-self-2 c =
    let xs = c.self.inside.frontier.items in
    let id = c.args.id in
    let spot = c.remove-spot.result in
    let left : Spot = record { shard = c.args.left; worker = spot.worker; set = c.args.left_box } in
    let right : Spot = record { shard = c.args.right; worker = spot.worker; set = c.args.right_box } in
    let items = c.reserve.ensures.items in
    let place : c.place_of.result ≡ place_of id xs = c.place_of.ensures ∙ ap (place_of id) (c.deref.ensures.value ∙ items) in
    let out : c.remove-spot.new.self.items ≡ without id xs = c.remove-spot.ensures.items ∙ ap (λ (l : List Spot). remove l c.place_of.result) items ∙ ap (remove xs) place in
    let all : c.put_spot-2.new.spots.items ≡ with_spot right (with_spot left (without id xs)) =
    c.put_spot-2.ensures.spots ∙ ap (with_spot right) (c.put_spot.ensures.spots ∙ ap (with_spot left) out) in
    let new_left = subst (λ (v : RegistryValue). on_frontier c.args.left v ≡ false) (sym c.self.view_is) c.requires.left in
    let new_right = subst (λ (v : RegistryValue). on_frontier c.args.right v ≡ false) (sym c.self.view_is) c.requires.right in
    let old = c.self.inside.retired.items in (
      subst (λ (l : List Spot). IsRegistry (record { frontier = l; retired = c.push_reserved.new.self.items })) (sym all)
          (IsRegistry-split id left right xs old c.push_reserved.new.self.items c.self.invariant.0 (not_in c.args.left xs new_left) (not_in c.args.right xs new_right) c.requires.apart),
      tt,
    )

pub returns-clause-ok : goal.returns-clause-ok
returns-clause-ok c =
    let xs = c.self.inside.frontier.items in
    let id = c.args.id in
    let spot = c.remove-spot.result in
    let left : Spot = record { shard = c.args.left; worker = spot.worker; set = c.args.left_box } in
    let right : Spot = record { shard = c.args.right; worker = spot.worker; set = c.args.right_box } in
    let items = c.reserve.ensures.items in
    let place : c.place_of.result ≡ place_of id xs = c.place_of.ensures ∙ ap (place_of id) (c.deref.ensures.value ∙ items) in
    let out : c.remove-spot.new.self.items ≡ without id xs = c.remove-spot.ensures.items ∙ ap (λ (l : List Spot). remove l c.place_of.result) items ∙ ap (remove xs) place in
    let on : has_spot id xs ≡ true = subst (λ (v : RegistryValue). IsTrue (on_frontier id v)) (sym c.self.view_is) c.requires.frontier in
    let within = place-within (λ (s : Spot). s.shard == id) xs on in
    let now : RegistryValue = record { frontier = c.put_spot-2.new.spots.items; retired = c.push_reserved.new.self.items } in
    subst (λ (v : RegistryValue). IsSplit id c.args.left c.args.left_box c.args.right c.args.right_box v now) c.self.view_is (record {
      spot = spot;
      was = slice_get-get_or xs (place_of id xs) spot within
          ∙ ap Some (ap (λ p. get_or xs p spot) (sym place) ∙ ap (λ (l : List Spot). get_or l c.place_of.result spot) (sym items) ∙ sym c.remove-spot.ensures.value);
      retired = c.push_reserved.ensures.items ∙ ap (λ (l : List Spot). l ++ spot ∷ []) c.reserve-2.ensures.items;
      frontier = c.put_spot-2.ensures.spots ∙ ap (with_spot right) (c.put_spot.ensures.spots ∙ ap (with_spot left) out);
    })
