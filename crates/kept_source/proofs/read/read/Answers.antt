use Rattle.kept_source.proofs.read.read.Goals as goal

pub returns : goal.returns
returns c =
    let e = c.in_ok-source.ensures in
    record {
      file = e.file;
      text_is = e.text;
      names = e.names;
      layout = e.layout;
      rule = record { bits = e.bits; layout = e.ring; patterns = e.patterns; limits = e.limits; lines = e.lines };
      starts = e.starts;
      helpers = e.helpers;
      once = e.once;
      rows = e.rows;
    }
