use Rattle.std.proofs.Common.{rules}
use Rattle.std.proofs.Output.{displays_on_ok_of_eq}
use Rattle.display.proofs.HexLaws.{byte_written}
use Rattle.display.proofs.hex.PairDisplay.fmt.Goals as goal

pub returns-clause-writes : goal.returns-clause-writes
returns-clause-writes g c =
    let e = byte_written c.in_radix.result c.laid_out.result c.args.self.now.0 (search rules) c.laid_out.ensures c.in_radix.ensures in
    displays_on_ok_of_eq _ _ _ _ _ _ e c.write.ensures.writes
