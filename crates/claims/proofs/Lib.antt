-- Reading claims: bytes begin with at most one claim; their sign; a claim and its parts; the bytes
-- of a whole claim.
pub mod OneClaim
pub mod SignLaws
pub mod FrontLaws
pub mod ClaimLaws
pub mod PlacesLaws
pub mod EncodedLaws
