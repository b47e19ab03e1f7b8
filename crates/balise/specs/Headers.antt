-- A header as it is written.
use Rattle.std.specs.Prelude.{ℕ, List, ◌++◌, codes, decimal}
use Rattle.balise.specs.declared.header.Header.{Header}

-- a number and a comma
abbrev pub with_comma : ℕ → List ℕ
with_comma n = decimal n ++ codes ","

-- the first five fields, each with a comma behind it
abbrev pub front_text : Header → List ℕ
front_text h = with_comma h.updown ++ (with_comma h.version ++ (with_comma h.media ++ (with_comma h.position ++ with_comma h.total)))

-- the other five, parted by commas
abbrev pub back_text : Header → List ℕ
back_text h = with_comma h.duplicate ++ (with_comma h.counter ++ (with_comma h.country ++ (with_comma h.group ++ decimal h.link)))

-- the ten fields in their order, parted by commas
abbrev pub header_text : Header → List ℕ
header_text h = front_text h ++ back_text h
