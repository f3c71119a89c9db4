use Rattle.std.proofs.Common.{◌≡◌, [], map, take, string_bytes, if◌then◌else◌}
use Rattle.std.specs.List.{flat_map}
use Rattle.rule_report.specs.ShownRows.{picture_name}
use Rattle.rule_report.specs.Reported.{given_words, given_pictures, picture_names}
use Rattle.rule_report.proofs.report.given_rows.Given as goal

-- the first given rows and their pictures
abbrev pub invariant-loop-i : goal.invariant-loop-i
invariant-loop-i l = record {
  text : string_bytes l.report.text ≡ flat_map (given_words l.asked.source.now l.asked.options.now) (take l.i l.asked.source.now.rows.items);
  pictures : picture_names l.report.pictures.items ≡ map (picture_name l.asked.title.now) (if l.asked.options.now.pictures then given_pictures l.i else []);
}
