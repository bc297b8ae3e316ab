use Rattle.std.proofs.{Common.{◌≡◌, ◌∙◌, get_or, set, subst, sym, ap, refl, arith, Some, true}, Math.Seq.map-set_same, lemmas.List.length-set, lemmas.Option.slice_get-get_or}
use Rattle.std.specs.Prelude.{◌==◌, IsTrue}
use Rattle.describing_set.specs.{Sorted.Ascends, declared.listing.Spot.Spot}
use Rattle.server_image.specs.{Registry.{RegistryValue, IsRehosted, on_frontier}, Spots.{has_spot, place_of}}
use Rattle.server_image.proofs.Lists.{place-within}
use Rattle.server_image.proofs.registry.Registry.rehost.Goals as goal

pub index_mut-spot-requires : goal.index_mut-spot-requires
index_mut-spot-requires c =
    let xs = c.self.inside.frontier.items in
    let on : has_spot c.args.id xs ≡ true = subst (λ (v : RegistryValue). IsTrue (on_frontier c.args.id v)) (sym c.self.view_is) c.requires in
    let within = place-within (λ (s : Spot). s.shard == c.args.id) xs on in
    let place : c.place_of-place.result ≡ place_of c.args.id xs = c.place_of-place.ensures ∙ ap (place_of c.args.id) c.deref.ensures.value in
    omega (arith, within, place, c.self.inside.frontier.ok)

pub invariant_of-self : goal.invariant_of-self
invariant_of-self c =
    let xs = c.self.inside.frontier.items in
    let place = c.place_of-place.result in
    let spot = c.index_mut-spot.result.now in
    let new : Spot = record { shard = spot.shard; worker = c.args.worker; set = spot.set } in
    let some = c.self.invariant.0.some in
    let n = length-set xs place new in
    let same = map-set_same (λ (s : Spot). s.shard) xs place new spot (ap (λ (s : Spot). s.shard) c.index_mut-spot.ensures.value) in (
      record {
        some = omega (arith, n, some);
        ascending = subst Ascends (sym same) c.self.invariant.0.ascending;
      },
      tt,
    )

pub returns : goal.returns
returns c =
    let xs = c.self.inside.frontier.items in
    let id = c.args.id in
    let spot = c.index_mut-spot.result.now in
    let new : Spot = record { shard = spot.shard; worker = c.args.worker; set = spot.set } in
    let on : has_spot id xs ≡ true = subst (λ (v : RegistryValue). IsTrue (on_frontier id v)) (sym c.self.view_is) c.requires in
    let within = place-within (λ (s : Spot). s.shard == id) xs on in
    let place : c.place_of-place.result ≡ place_of id xs = c.place_of-place.ensures ∙ ap (place_of id) c.deref.ensures.value in
    let now : RegistryValue = record { frontier = set xs c.place_of-place.result new; retired = c.self.inside.retired.items } in
    subst (λ (v : RegistryValue). IsRehosted id c.args.worker v now) c.self.view_is (record {
      spot = spot;
      was = slice_get-get_or xs (place_of id xs) spot within ∙ ap Some (ap (λ p. get_or xs p spot) (sym place) ∙ sym c.index_mut-spot.ensures.value);
      retired = refl;
      frontier = ap (λ p. set xs p new) place;
    })
