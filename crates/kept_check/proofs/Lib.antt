-- Why what is judged of the parts of a claim is so of the claim.
pub mod PartLaws
pub mod FoundLaws
pub mod PartsLaws
pub mod ClaimLaws
