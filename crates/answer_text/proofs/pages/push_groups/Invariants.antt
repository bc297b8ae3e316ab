use Rattle.std.proofs.Common.{◌≡◌, ◌++◌, codes, string_bytes, take}
use Rattle.std.specs.List.{flat_map}
use Rattle.answer_text.specs.Printed.{group_said, line}
use Rattle.answer_text.proofs.pages.push_groups.Given as goal

abbrev pub invariant-loop-group : goal.invariant-loop-group
invariant-loop-group l =
    string_bytes l.text ≡ string_bytes l.fn.text ++ flat_map (λ one. line l.number (codes "group") (group_said one)) (take l.group-index l.groups)
