pub mod SameRings
