-- The forms of a telegram.
use Rattle.std.specs.Prelude.{ℕ, cond, Some, None, Option, ◌==◌}
use Rattle.telegram.specs.declared.form.Form.{Form}

-- 27 bytes are 210 bits and 6 closing bits, 104 bytes are 830 bits and 2 closing bits, and no telegram has another length
abbrev pub form_of : ℕ → Option Form
form_of n = cond (n == 27) (Some (record { bits = 210; closing = 6 })) (cond (n == 104) (Some (record { bits = 830; closing = 2 })) None)
