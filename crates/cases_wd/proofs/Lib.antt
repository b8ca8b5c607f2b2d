pub mod SampleProofs
