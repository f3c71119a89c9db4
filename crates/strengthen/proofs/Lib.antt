-- Why what a search finds of a claim and a list is so.
pub mod FollowLaws
pub mod ListedLaws
pub mod TableLaws
pub mod MarksLaws
pub mod KnownLaws
pub mod CountLaws
pub mod RisingLaws
pub mod BeforeLaws
pub mod GoingLaws
