-- Lemmas on what is printed.
mod HexLaws
mod RulerLaws
mod MarksLaws
