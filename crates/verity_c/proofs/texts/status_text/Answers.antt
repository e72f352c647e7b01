use Rattle.std.proofs.{Common.{◌≡◌, ℕ, ℤ, pos, Bool, false, Option, Some, if◌then◌else◌, arith, ap, of_z, sym, to_z, w32, ◌∙◌}, lemmas.Int.to_z-of_z}
use Rattle.std.{proofs.lemmas.Bool.Decides.nat_tests, specs.Prelude.{◌==◌, codes, int_lt, unsigned_abs}}
use Rattle.verity_c_api.specs.Texts.{fault_numbered, text_of_fault, text_of_fault_or_none, text_of_number, text_of_status}
use Rattle.verity_c_api.specs.declared.fault.Fault.{Fault}
use Rattle.verity_c.proofs.texts.status_text.Goals as goal

-- the text of a number that a fault has
text_of_number-fault : (number : ℕ) (fault : Fault) → (number == 0) ≡ false → fault_numbered number ≡ Some fault
    → text_of_number number ≡ text_of_fault fault
text_of_number-fault number fault some is =
    ap (λ (b : Bool). if b then codes "success" else text_of_fault_or_none (fault_numbered number)) some
    ∙ ap (λ (f : Option Fault). text_of_fault_or_none f) is

-- and of a status that isn't positive
text_of_status-number : (status : ℤ) (number : ℕ) → int_lt (pos 0) status ≡ false → number ≡ unsigned_abs status
    → text_of_status status ≡ text_of_number number
text_of_status-number status number low is =
    ap (λ (b : Bool). if b then codes "unknown status" else text_of_number (unsigned_abs status)) low
    ∙ ap (λ (n : ℕ). text_of_number n) (sym is)

pub returns-in-Some : goal.returns-in-Some
returns-in-Some c =
    let number = c.unsigned_abs-number.result in
    let same : to_z w32 (of_z w32 c.args.status) ≡ c.args.status = to_z-of_z w32 c.args.status c.ranges.status in
    let low = ap (λ (z : ℤ). int_lt (pos 0) z) (sym same) ∙ c.if-status-gt0.false in
    let is = c.unsigned_abs-number.ensures.value ∙ ap (λ (z : ℤ). unsigned_abs z) same in
    let some : (number == 0) ≡ false = grind (arith, nat_tests, c.if-number-eq0.false) in
    c.text.ensures
    ∙ sym (text_of_number-fault number c.in-Some.fault some (sym c.in-Some.ensures))
    ∙ sym (text_of_status-number c.args.status number low is)
