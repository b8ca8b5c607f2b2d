pub mod Ending
pub mod HeadParts
pub mod Words
pub mod Elementary
pub mod CutLaws
pub mod TheoryLaws
