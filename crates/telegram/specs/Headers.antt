-- The header of a telegram: its fields, and the questions asked of them.
use Rattle.std.specs.Prelude.{ℕ, cond, List, Ok, Err, Result, ◌==◌, nat_lt}
use Rattle.telegram.specs.Bits.{field}
use Rattle.balise.specs.declared.faults.HeaderFault.{HeaderFault}
use Rattle.balise.specs.declared.faults.HeaderFault.TheVariants.{Updown, Version, Media, NoTotal, Position}
use Rattle.balise.specs.declared.header.Header.{Header}

-- the ten fields, by their first bit and their width
abbrev pub header_in : List ℕ → Header
header_in bytes = record {
  updown = field bytes 0 1;
  version = field bytes 1 7;
  media = field bytes 8 1;
  position = field bytes 9 3;
  total = field bytes 12 3;
  duplicate = field bytes 15 2;
  counter = field bytes 17 8;
  country = field bytes 25 10;
  group = field bytes 35 14;
  link = field bytes 49 1;
}

-- a group has more than one balise, and no position past its last
abbrev pub position_asked : Header → Result Header HeaderFault
position_asked h = cond (h.total == 0) (Err NoTotal) (cond (nat_lt h.total h.position) (Err Position) (Ok h))

-- from balise to train, in no version above the plug value, from a balise; then the position
abbrev pub header_asked : ℕ → Header → Result Header HeaderFault
header_asked plug h =
    cond (h.updown == 1) (
    cond (nat_lt plug h.version) (Err Version) (
    cond (h.media == 0) (position_asked h)
    (Err Media)))
    (Err Updown)
