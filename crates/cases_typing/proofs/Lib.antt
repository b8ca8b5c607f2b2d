mod SampleProofs
