pub mod NameInFront
pub mod ReadBack
