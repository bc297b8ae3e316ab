use Rattle.std.proofs.Common.{rules, ◌≢◌, ◌<◌, ℕ, List, ◌∷◌, ◌++◌, Bool, false, get_or, sym, ap, ◌∙◌, arith, get_or-set_other, length, []}
use Rattle.std.specs.Slots.{slots_len, slots_items, slots_filled, slots_counts}
use Rattle.turn_table.proofs.Seats.{take_at, freed_more}
use Rattle.turn_table.proofs.ends.taken_apart.Goals as goal

pub loop-i-preserved : goal.loop-i-preserved
loop-i-preserved g c =
    let inv = c.loop-i.invariant in let o = c.take.ensures.others in let i : ℕ = c.loop-i.i in let row = c.loop-i.closed.slots in
    let filled : List Bool = slots_filled row in
    let inside : i < slots_len row = search rules in
    let within : i < length filled = omega (arith, (slots_counts row).1) in record {
      full = λ k a b. let ne : k ≢ i = λ q. omega arith in ap (λ (fs : List Bool). get_or fs k false) o.1 ∙ (get_or-set_other filled i k false false ne ∙ inv.full k (omega arith) (let b' : k < slots_len c.take.new.self.slots = b in omega (arith, o.2)));
      freed = λ k a. ap (λ (fs : List Bool). get_or fs k false) o.1 ∙ freed_more filled i k within inv.freed a;
      same = o.0 ∙ inv.same;
      count = o.2 ∙ inv.count;
      items = c.push_reserved.ensures.items ∙ (ap (λ xs. xs ++ c.take.result ∷ []) inv.items ∙ sym (take_at (slots_items c.args.closed.slots) i c.take.result (ap (λ xs. lib.ListN.get_elem? xs i) (sym inv.same) ∙ c.take.ensures.value)));
      len = omega (arith, c.push_reserved.ensures.len, inv.len);
      room = omega (arith, c.push_reserved.ensures.capacity, inv.room, o.2);
    }
