-- What the contracts of `floats` cite: IEEE 754-2019 is `lib.Ieee`, at binary32 with roundTiesToEven.
pub mod Whole
pub mod Step
pub mod Threshold
pub mod Inner
