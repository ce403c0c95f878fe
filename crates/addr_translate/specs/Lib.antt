pub mod Mapped
pub mod Maps
pub mod OrderedMaps
pub mod Bytes
