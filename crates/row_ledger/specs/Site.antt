-- What a history is about.
use Rattle.std.specs.Prelude.{ℕ, List}
use Rattle.dim_hierarchy.specs.Dimension.{Dimension}
use Rattle.row_ledger.specs.{declared.event.Event.Event, declared.settings.Use.Use}

-- the hierarchy, and how many servers and workers there are
pub record Site : Type 0 where
  pub hierarchy : List Dimension
  pub servers : ℕ
  pub workers : ℕ

-- what the history of a run with these settings is about
abbrev pub site_of : Use → List Dimension → Site
site_of with h = record { hierarchy = h; servers = with.servers; workers = with.workers }

-- what of the hierarchy is known behind a past: all of it, since no event adds to it
abbrev pub known : List Dimension → List Event → List Dimension
known h past = h
