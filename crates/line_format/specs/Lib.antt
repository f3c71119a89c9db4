-- What stands on a line: numbers by decimal digits, and bytes by hex digits.
pub mod Line
