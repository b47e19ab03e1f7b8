-- The codes that packets store, against the last that was stored.
use Rattle.std.proofs.Common.{◌≡◌, Bool, true, false, cond, ◌⊎◌, ◌↔◌, List, [], ◌∷◌, ◌++◌, Some, None, Option, sym, refl, ap, ap₂, ◌∙◌, inl, inr, ⊎_elim}
use Rattle.std.proofs.lemmas.Bool.{cond-true, cond-false}
use Rattle.std.proofs.lemmas.Option.{none-some, same_Some}
use Rattle.std.specs.List.{AllByRecursion}
use Rattle.balise.specs.declared.code.Code.{Code}
use Rattle.balise.specs.declared.packet.Tbl1Packet.{Tbl1Packet}
use Rattle.group.specs.GroupLaws.{LastStored}
use Rattle.group.specs.Groups.{stores_for, code_for, replaced, stored, no_codes}
use Rattle.group.specs.declared.codes.Codes.{Codes}
use Rattle.group.specs.declared.codes.Travel.{Travel}
use Rattle.group.specs.declared.codes.Travel.TheVariants.{Nominal, Reverse}

-- codes that have none stored
pub no_codes_by : (k : Codes) → k.nominal ≡ None → k.reverse ≡ None → k ≡ no_codes
no_codes_by k n r = ap₂ (λ (a b : Option Code). let made : Codes = record { nominal = a; reverse = b } in made) n r

-- packets behind others store on top of what those stored
pub stored-++ : (codes : Codes) (ps qs : List Tbl1Packet) → stored codes (ps ++ qs) ≡ stored (stored codes ps) qs
stored-++ codes [] qs = refl
stored-++ codes (p ∷ ps) qs = stored-++ (replaced codes p) ps qs

-- the code for one direction after one packet
code_replaced : (d : Travel) (codes : Codes) (p : Tbl1Packet) → code_for d (replaced codes p) ≡ cond (stores_for p.direction d) (Some p.code) (code_for d codes)
code_replaced Nominal codes p = refl
code_replaced Reverse codes p = refl

no_codes_lem : (d : Travel) → code_for d no_codes ≡ None
no_codes_lem Nominal = refl
no_codes_lem Reverse = refl

-- these packets store nothing for this direction
abbrev Silent : Travel → List Tbl1Packet → Type 0
Silent d ps = AllByRecursion (λ q. stores_for q.direction d ≡ false) ps

silent_keeps : (d : Travel) (ps : List Tbl1Packet) (codes : Codes) → Silent d ps → code_for d (stored codes ps) ≡ code_for d codes
silent_keeps d [] codes s = refl
silent_keeps d (p ∷ ps) codes s = silent_keeps d ps (replaced codes p) s.1 ∙ code_replaced d codes p ∙ cond-false _ _ _ s.0

-- a code stored at the end was there at the beginning, with no packet storing another, or is the last that the packets stored
stored_from : (d : Travel) (c : Code) (ps : List Tbl1Packet) (codes : Codes) → code_for d (stored codes ps) ≡ Some c → ((code_for d codes ≡ Some c) × Silent d ps) ⊎ LastStored d c ps
stored_from d c [] codes e = inl (e, tt)
stored_from d c (p ∷ ps) codes e = ⊎_elim (λ k. here (stores_for p.direction d) refl (sym (code_replaced d codes p) ∙ k.0) k.1) (λ k. inr (later k)) (stored_from d c ps (replaced codes p) e)
  where
    later : LastStored d c ps → LastStored d c (p ∷ ps)
    later l = record { before = p ∷ l.before; p = l.p; after = l.after; parts = ap (λ (qs : List Tbl1Packet). p ∷ qs) l.parts; stores = l.stores; code = l.code; last = l.last }

    here : (b : Bool) → stores_for p.direction d ≡ b → cond b (Some p.code) (code_for d codes) ≡ Some c → Silent d ps → ((code_for d codes ≡ Some c) × Silent d (p ∷ ps)) ⊎ LastStored d c (p ∷ ps)
    here true s k silent = inr (record { before = []; p = p; after = ps; parts = refl; stores = s; code = same_Some _ _ k; last = silent })
    here false s k silent = inl (k, (s, silent))

-- the code stored for a direction, with none at first, is the last that the packets stored for it
pub stored_last : (d : Travel) (c : Code) (ps : List Tbl1Packet) → (code_for d (stored no_codes ps) ≡ Some c) ↔ LastStored d c ps
stored_last d c ps = (forth, back)
  where
    forth : code_for d (stored no_codes ps) ≡ Some c → LastStored d c ps
    forth e = ⊎_elim (λ k. absurd (none-some c (sym (no_codes_lem d) ∙ k.0))) (λ l. l) (stored_from d c ps no_codes e)

    back : LastStored d c ps → code_for d (stored no_codes ps) ≡ Some c
    back l =
        let from = stored no_codes l.before in
        ap (λ (qs : List Tbl1Packet). code_for d (stored no_codes qs)) l.parts
        ∙ ap (code_for d) (stored-++ no_codes l.before (l.p ∷ l.after))
        ∙ silent_keeps d l.after (replaced from l.p) l.last
        ∙ code_replaced d from l.p
        ∙ cond-true _ _ _ l.stores
        ∙ ap Some l.code
