pub mod NumberFacts
pub mod PieceFacts
pub mod FieldFacts
pub mod RecordFacts
pub mod ScriptFacts
pub mod ScriptLaws
pub mod Standing
