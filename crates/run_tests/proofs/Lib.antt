pub mod MayRun
