pub mod Heights
pub mod SampleProofs
