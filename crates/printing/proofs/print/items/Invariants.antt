use Rattle.std.proofs.Common.{◌≡◌, drop, map}
use Rattle.tokens.specs.Spaced.{spaced}
use Rattle.syntax.specs.Items.{view_items, written_items}
use Rattle.syntax.specs.Printed.{text_item}
use Rattle.printing.specs.Writing.{text_with, is_all}
use Rattle.printing.proofs.print.items.Given as goal

abbrev pub invariant-loop-item : goal.invariant-loop-item
invariant-loop-item l = text_with l.writer (written_items (map (text_item (is_all l.style)) (view_items (drop l.item-index l.items)))) ≡ spaced (written_items (map (text_item (is_all l.style)) (view_items l.items)))
