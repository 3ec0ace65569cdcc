-- Laws of averages: by their values (MeanValues), casts without loss and 0 rings per atom (Quotients).
pub mod MeanValues
pub mod Quotients
