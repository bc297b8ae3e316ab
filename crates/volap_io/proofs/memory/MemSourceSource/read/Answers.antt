use Rattle.std.proofs.{Common.{◌≡◌, ◌-◌, take, drop, length, arith, length-drop}, Math.ListN.drop_of_length-le, lemmas.List.take_all}
use Rattle.volap_io.proofs.Pieces.{drop-given}
use Rattle.volap_io.proofs.memory.MemSourceSource.read.Goals as goal

pub returns-clause-bytes : goal.returns-clause-bytes
returns-clause-bytes c =
    let s = c.self.inside in
    let all = s.bytes.items in
    let n = c.min-count.result in
    let left = take_all (length all - s.at) (drop s.at all) (omega (arith, length-drop s.at all)) in
    let piece : c.copy_from_slice.new.self ≡ take n (drop s.at all) =
    rw (c.copy_from_slice.ensures.after, c.deref-2.ensures.value, left) in
    rw (← c.self.view_is) (
      drop-given all _ _ s.at n (omega arith) piece,
      λ none some. drop_of_length-le all (omega arith),
    )
