-- What is told of a rule file: of a question, of its claim, of rows; the whole report.
pub mod Subjects
pub mod ShownRows
pub mod Narrowing
pub mod Answers
pub mod Told
pub mod ShownClaim
pub mod ShownKeeping
pub mod KeptWords
pub mod Choices
pub mod Why
pub mod Helped
pub mod KeptAnswers
pub mod Reported
