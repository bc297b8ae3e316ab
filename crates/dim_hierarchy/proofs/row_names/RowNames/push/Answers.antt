use Rattle.std.proofs.Common.{◌≡◌, ◌+◌, suc, [], ◌∷◌, ◌++◌, length, arith, sym, ap, ◌∙◌, append_assoc}
use Rattle.dim_hierarchy.proofs.NameBytes.{AreNames-few, AreNames-push, names_in-push}
use Rattle.dim_hierarchy.proofs.row_names.RowNames.push.Goals as goal

pub overflow_add-self : goal.overflow_add-self
overflow_add-self c =
    let few = AreNames-few c.self.inside.count c.self.inside.bytes.items c.self.invariant in
    omega (arith, few)

-- the bytes with those of one more name
longer : (c : goal.After-self-1) → c.self.inside.bytes.items ++ length c.args.name.now ∷ c.args.name.now ≡ c.extend_from_slice.new.self.items
longer c =
    let length_byte : c.push.new.self.items ≡ c.self.inside.bytes.items ++ length c.args.name.now ∷ [] = c.in_ok-push.ensures.items ∙ ap (λ b. b ++ length c.args.name.now ∷ []) c.reserve.ensures.items in
    sym (c.in_ok-extend_from_slice.ensures.items ∙ ap (λ b. b ++ c.args.name.now) length_byte ∙ append_assoc c.self.inside.bytes.items (length c.args.name.now ∷ []) c.args.name.now)

one : (c : goal.After-self-1) → suc c.self.inside.count ≡ c.self.inside.count + 1
one c = omega arith

pub invariant_of-self-2 : goal.invariant_of-self-2
invariant_of-self-2 c =
    rw (sym (one c), sym (longer c)) (AreNames-push c.self.inside.count c.self.inside.bytes.items c.args.name.now c.self.invariant)

pub returns-clause-ok : goal.returns-clause-ok
returns-clause-ok c =
    rw (sym (one c), sym (longer c), sym c.self.view_is) (names_in-push c.self.inside.count c.self.inside.bytes.items c.args.name.now c.self.invariant)
