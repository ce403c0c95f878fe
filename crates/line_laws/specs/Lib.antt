pub mod ByteStores
pub mod SoundTexts
