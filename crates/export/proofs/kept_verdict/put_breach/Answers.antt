use Rattle.std.proofs.Common.{rules, ◌≡◌, ◌∙◌, ◌*◌, true, length, sym, ap, arith}
use Rattle.std.proofs.lemmas.Bool.{le-leb}
use Rattle.export.specs.KeptVerdict.{breach_columns, has_room}
use Rattle.export.proofs.KeptVerdictLaws.{two_rows}
use Rattle.export.proofs.kept_verdict.put_breach.Goals as goal

pub returns-clause-columns : goal.returns-clause-columns
returns-clause-columns c =
    let room : has_room c.args.breach.now c.args.out.now ≡ true = le-leb (2 * length c.args.breach.now.row.items) (length c.args.out.now) (omega arith) in
    two_rows c.len-length.result c.args.breach.now.row.items c.args.breach.now.after.items c.copy_from_slice.new.self c.copy_from_slice-2.new.self c.args.out.now
    (search rules) (c.copy_from_slice.ensures.after ∙ c.deref.ensures.value) (c.copy_from_slice-2.ensures.after ∙ c.deref-2.ensures.value)
    ∙ sym (ap (breach_columns c.args.breach.now c.args.out.now) room)
