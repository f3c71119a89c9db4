-- Lemmas on the tokens of a text and on reading them.
pub mod AsciiLaws
pub mod NamesLaws
pub mod WrittenLaws
pub mod RoundTrip
pub mod RowsLaws
pub mod ExpressionLaws
pub mod ItemsLaws
pub mod ItemsAgain
pub mod ParseLaws
pub mod PrintedLaws
pub mod AloneLaws
pub mod TextLaws
