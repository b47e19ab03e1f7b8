-- What the panel tells.
use Rattle.std.specs.Prelude.{Bool, true, false, Option, Some, None}
use Rattle.cab.specs.declared.panel.Cause.{Cause}

-- the valve is fed just if no demand stands
abbrev pub fed_by : Option Cause → Bool
fed_by None = true
fed_by (Some cause) = false
