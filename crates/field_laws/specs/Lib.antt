pub mod Fields
pub mod FieldBenches
pub mod FieldCores
pub mod FieldTables
