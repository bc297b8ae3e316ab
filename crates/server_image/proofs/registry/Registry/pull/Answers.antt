use Rattle.std.proofs.{Common.{◌≡◌, ◌∙◌, ◌≤◌, List, length, subst, sym, ap, arith}, lemmas.List.take_all, lemmas.Result.IfOk-weaker}
use Rattle.describing_set.specs.declared.listing.Spot.{Spot}
use Rattle.server_image.specs.{Image.grown_at, Registry.RegistryValue, Spots.{AreBoxes, Grows, spot_ids}}
use Rattle.server_image.proofs.Boxes.{Grows-ids, Grows-length}
use Rattle.server_image.proofs.registry.Registry.pull.Goals as goal

pub known_of-known-requires-clause-boxes : goal.known_of-known-requires-clause-boxes
known_of-known-requires-clause-boxes c =
    subst (AreBoxes c.args.h.now) (ap (λ (v : RegistryValue). v.frontier) (sym c.self.view_is) ∙ sym c.deref.ensures.value) c.requires.boxes

pub returns-then-known-growths-clause-pushed : goal.returns-then-known-growths-clause-pushed
returns-then-known-growths-clause-pushed c =
    let h = c.args.h.now in
    let gs = c.args.growths.now in
    let first = c.args.self.now.frontier in
    let seen : c.deref.result.now ≡ first = c.deref.ensures.value ∙ ap (λ (v : RegistryValue). v.frontier) c.self.view_is in
    let all : length gs ≤ c.known_of-known.result = omega (arith, c.if-known-growths.true) in
    let known : Grows h (grown_at gs) c.deref.result.now c.deref.result.now =
    subst (λ l. Grows h (grown_at l) c.deref.result.now c.deref.result.now) (take_all c.known_of-known.result gs all) c.known_of-known.ensures.known in
    let kept : Grows h (grown_at gs) first first = subst (λ (l : List Spot). Grows h (grown_at gs) l l) seen known in
    let now : first ≡ c.listing.new.self.frontier = ap (λ (v : RegistryValue). v.frontier) (sym c.listing.ensures.unchanged) in
    IfOk-weaker c.listing.result (λ l. l ≡ first) (λ _. Grows h (grown_at gs) first c.listing.new.self.frontier) (λ x is. subst (λ (l : List Spot). Grows h (grown_at gs) first l) now kept) c.listing.ensures.value

pub returns-then-known-growths-clause-boxes : goal.returns-then-known-growths-clause-boxes
returns-then-known-growths-clause-boxes c =
    let first = c.args.self.now.frontier in
    let now : first ≡ c.listing.new.self.frontier = ap (λ (v : RegistryValue). v.frontier) (sym c.listing.ensures.unchanged) in
    IfOk-weaker c.listing.result (λ l. l ≡ first) (λ _. AreBoxes c.args.h.now c.listing.new.self.frontier) (λ x is. subst (AreBoxes c.args.h.now) now c.requires.boxes) c.listing.ensures.value

pub grow_from-requires-clause-boxes : goal.grow_from-requires-clause-boxes
grow_from-requires-clause-boxes c =
    subst (AreBoxes c.args.h.now) (ap (λ (v : RegistryValue). v.frontier) (sym c.self.view_is) ∙ sym c.deref-2.ensures.value ∙ sym c.in_ok-grown.ensures) c.requires.boxes

pub put-requires : goal.put-requires
put-requires c =
    let all : c.in_ok-kept.kept ≡ c.grow_from.new.spots.items = c.in_ok-kept.ensures ∙ c.in_ok-listing.ensures ∙ c.from_vec.ensures in
    let was : c.in_ok-grown.grown.items ≡ c.args.self.now.frontier = c.in_ok-grown.ensures ∙ c.deref-2.ensures.value ∙ ap (λ (v : RegistryValue). v.frontier) c.self.view_is in
    ap spot_ids all ∙ Grows-ids c.args.h.now (grown_at c.args.growths.now) c.in_ok-grown.grown.items c.grow_from.new.spots.items c.grow_from.ensures.grown ∙ ap spot_ids was

pub returns-clause-boxes : goal.returns-clause-boxes
returns-clause-boxes c =
    let all : c.put.new.self.frontier ≡ c.grow_from.new.spots.items = c.put.ensures.frontier ∙ c.in_ok-kept.ensures ∙ c.in_ok-listing.ensures ∙ c.from_vec.ensures in
    subst (AreBoxes c.args.h.now) (sym all) c.grow_from.ensures.boxes

pub returns-clause-len : goal.returns-clause-len
returns-clause-len c =
    let all : c.put.new.self.frontier ≡ c.grow_from.new.spots.items = c.put.ensures.frontier ∙ c.in_ok-kept.ensures ∙ c.in_ok-listing.ensures ∙ c.from_vec.ensures in
    let was : c.in_ok-grown.grown.items ≡ c.args.self.now.frontier = c.in_ok-grown.ensures ∙ c.deref-2.ensures.value ∙ ap (λ (v : RegistryValue). v.frontier) c.self.view_is in
    ap (λ (l : List Spot). length l) all ∙ Grows-length c.args.h.now (grown_at c.args.growths.now) c.in_ok-grown.grown.items c.grow_from.new.spots.items c.grow_from.ensures.grown ∙ ap (λ (l : List Spot). length l) was
