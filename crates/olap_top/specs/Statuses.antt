-- The numbers of the statuses, with which the program exits.
use Rattle.std.specs.Prelude.{ℕ}
use Rattle.olap_top.specs.{declared.outcome.Status.Status, declared.outcome.Status.TheVariants.{Done, ReadFault, BadWords, BadScript, WriteFault, NoMemory, TooLarge}}

abbrev pub code_of : Status → ℕ
code_of Done = 0
code_of ReadFault = 1
code_of BadWords = 2
code_of BadScript = 3
code_of WriteFault = 4
code_of NoMemory = 5
code_of TooLarge = 6
