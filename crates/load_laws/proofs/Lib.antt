pub mod PlaceParts
pub mod LoadParts
pub mod ByteParts
pub mod PatchParts
pub mod UseParts
pub mod RingParts
pub mod PlaceRefusals
pub mod NumberParts
