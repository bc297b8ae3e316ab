-- What the top call leaves besides the bytes: the history, and the state of the core.
use Rattle.std.specs.Prelude.{ℕ, ◌≡◌, ◌≢◌, ◌<◌, true, Option, Some, None, List, get_or, length}
use Rattle.core_laws.specs.CellUse.{AreAllUsed}
use Rattle.dim_hierarchy.specs.Dimension.{Dimension}
use Rattle.row_ledger.specs.{Site.site_of, declared.settings.Use.Use}
use Rattle.script_form.specs.declared.script.Script.{Script}
use Rattle.seeded_run.specs.Phase.{about, held}
use Rattle.core_laws.specs.volap_cell.specs.{Setting.ledger_cell, declared.state.State.State}
use Rattle.core_laws.specs.volap_cell.specs.declared.cell.Cell.TheVariants as cell
use Rattle.olap_top.specs.{OneRun.{IsRestOf, IsWhole, setting_of, with_ledger}, Outcomes.{goes_in_order, IsAskedScript, RunsInOrder}, RowsKept.AreRowsKept, Settles.IsSettling, declared.outcome.Outcome.Outcome, declared.outcome.Status.TheVariants.NoMemory, declared.wanted.Wanted.Wanted}

-- The state was handed out, with the ledger moved out of its cell.
pub record IsHandedOut (h : List Dimension) (with : Use) (state : State) (o : Outcome) : Type 0 where
  pub rest : State
  pub left : o.rest ≡ Some rest
  pub about_is : about h with rest ≡ about h with state
  pub whole : IsWhole (about h with state) rest
  pub freed : get_or rest.cells.items ledger_cell None ≡ Some cell.Free
  pub same : with_ledger o.ledger (held h with rest) ≡ held h with state

-- What a run of this script leaves, whatever its answer: the state to which it led from the opening, in which each row has its place,
-- and unless memory ran out each cell its one use, by a shard that stands or as a free one; and a history that tells of queries that are
-- settled, and of settles, what it is to.
pub record LeavesRun (wanted : Wanted) (s : Script) (o : Outcome) : Type 0 where
  pub some : 0 < length o.ledger.history
  pub rest : State
  pub left : o.rest ≡ Some rest
  pub is_rest : IsRestOf wanted s o.status o.ledger rest
  pub rows : AreRowsKept (setting_of wanted s) (with_ledger o.ledger (held s.hierarchy s.with rest))
  pub cells : o.status ≢ NoMemory → AreAllUsed (setting_of wanted s) (with_ledger o.ledger (held s.hierarchy s.with rest))
  pub settling : IsSettling (site_of s.with s.hierarchy) o.ledger.history
  pub serial : goes_in_order wanted ≡ true → RunsInOrder s o.ledger.history

-- the script that was asked for ran so
pub record LeavesAsked (wanted : Wanted) (left_before left_now : Option (List ℕ)) (o : Outcome) : Type 0 where
  pub script : Script
  pub read : IsAskedScript wanted left_before left_now script
  pub leaves : LeavesRun wanted script o
