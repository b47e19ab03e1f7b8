-- Times that the unit can hold.
use Rattle.std.specs.Prelude.{◌≡◌, ℕ, cond, Some, None, Option, Result, MatchResult, nat_lt}
use Rattle.cab.specs.declared.time.Late.{Late}
use Rattle.cab.specs.declared.time.Time.{Time}

-- so many milliseconds, unless they are out of range
abbrev pub time_of : ℕ → Option ℕ
time_of ms = cond (nat_lt 2000000000 ms) None (Some ms)

-- the time of so many milliseconds, or that they are out of range
abbrev pub TimeOf : ℕ → Result Time Late → Type 0
TimeOf ms r = MatchResult r (λ t. time_of ms ≡ Some t.ms) (λ e. (time_of ms ≡ None) × (e.0 ≡ ms))
