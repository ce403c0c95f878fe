pub mod Transcripts
pub mod RingRows
pub mod FoundChannels
