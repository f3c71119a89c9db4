mod SelectionLaws
mod MapLaws
mod RecolumnLaws
mod SpellLaws
