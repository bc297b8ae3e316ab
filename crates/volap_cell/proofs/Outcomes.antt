-- What follows from an outcome of a call that may take memory.
use Rattle.std.proofs.Common.{Result, Ok, Err}
use Rattle.std.specs.Prelude.{OnOk, OnErr}

pub on-ok : {T E : Type 0} (r : Result T E) {P Q : Type 0} → OnOk r P → (P → Q) → OnOk r Q
on-ok (Ok x) p f = f p
on-ok (Err e) p f = tt

pub on-err : {T E : Type 0} (r : Result T E) {P Q : Type 0} → OnErr r P → (P → Q) → OnErr r Q
on-err (Ok x) p f = tt
on-err (Err e) p f = f p

-- what holds is so where it answers for want of memory, too
pub as-err : {T E : Type 0} (r : Result T E) {P : Type 0} → P → OnErr r P
as-err (Ok x) p = tt
as-err (Err e) p = p
