pub mod LineLaws
pub mod WordLaws
pub mod BodyLaws
pub mod UnitLaws
pub mod GeneratorLaws
pub mod ScriptLaws
mod ScriptExamples
