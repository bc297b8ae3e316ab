use Rattle.std.specs.List.{AllZip, range_with_len}
use Rattle.server_image.specs.{Registry.IsFirstSpot, Spots.AreBoxes}
use Rattle.server_image.proofs.registry.Registry.new.Given as goal

abbrev pub invariant-loop-worker : goal.invariant-loop-worker
invariant-loop-worker l = AllZip (IsFirstSpot l.h) (range_with_len 0 l.worker) l.frontier.items × AreBoxes l.h l.frontier.items
