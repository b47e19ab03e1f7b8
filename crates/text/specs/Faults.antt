-- What can be wrong with a text.
use Rattle.std.specs.Prelude.{ℕ, Ok, Err, Result}
use Rattle.refusal.specs.declared.layer.Layer.TheVariants.{Text}
use Rattle.refusal.specs.declared.reason.Reason.TheVariants as reason
use Rattle.refusal.specs.declared.Refusal.{Refusal}
use Rattle.refusal.specs.Refusals.{refused}
use Rattle.text.specs.declared.fault.Illegal.{Illegal as IllegalLine}
use Rattle.text.specs.declared.fault.TextFault.{TextFault}
use Rattle.text.specs.declared.fault.TextFault.TheVariants.{Illegal, Short}

-- an illegal line is refused at its place, a short buffer at no place
abbrev pub text_refusal : TextFault → Refusal
text_refusal (Illegal place) = refused reason.Line place Text
text_refusal Short = refused reason.Short 0 Text

-- an illegal line as a fault
abbrev pub illegal_fault : IllegalLine → TextFault
illegal_fault i = Illegal i.place

-- a place that is illegal as a fault
abbrev pub illegal_at : {A : Type 0} → Result A ℕ → Result A TextFault
illegal_at (Ok a) = Ok a
illegal_at (Err place) = Err (Illegal place)
