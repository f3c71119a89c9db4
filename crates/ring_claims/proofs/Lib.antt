-- Ring claims as row claims; rings turned; that bytes say at most one.
pub mod RingsAsRows
pub mod RingPlaces
pub mod Turning
pub mod OneRingClaim
-- reading bytes
pub mod SignLaws
pub mod FrontLaws
-- writing them
pub mod EncodedLaws
