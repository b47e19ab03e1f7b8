use Rattle.cab.specs.Records.{entry_of}
use Rattle.std.proofs.Common.{rules}
use Rattle.linebench.proofs.Ascii.{front_utf8, utf8_ok}
use Rattle.linebench.proofs.shown.StripDisplay.fmt.Goals as goal

pub unwrap-requires : goal.unwrap-requires
unwrap-requires g c = utf8_ok _ _ _ _ c.from_utf8.ensures.cases (search (rules, front_utf8 (entry_of c.args.self.now.0)))
