use Rattle.std.proofs.Common.{◌≡◌, true}
use Rattle.std.proofs.lemmas.Nat.{pow_pos}
use Rattle.words.specs.Bits.{put_bit}
use Rattle.words.proofs.BitsLaws.{put_bit_below}
use Rattle.live.proofs.BeyondLaws.{column_with}
use Rattle.live.proofs.beyond.lone.Goals as goal

pub returns : goal.returns
returns c =
    let x = c.args.x.0 in
    let e : c.with_bit.result ≡ put_bit x true 0 = column_with x c.with_bit.result c.with_bit.ensures.here c.with_bit.ensures.others in
    record { value = e; below = rw e (put_bit_below c.args.sets x true 0 c.requires.set (pow_pos c.args.sets)) }
