-- Why a line is refused, from the kinds of error that clap's definition gives for its words.
use Rattle.std.{proofs.Common.{◌≡◌, ◌∙◌, ap, sym, subst, true, List, Result, Ok, Err, IfErr}, specs.Prelude.{IsErr, IsErrAnd}}
use Rattle.clap.specs.{Kinds.{FailsBy, Kinds}, Words.{App, Text, fault_of, is_simple_and_free}, declared.error.Error.Error}
use Rattle.command_line.specs.{LineFaults.HasCause, declared.words.line_fault.LineFault.LineFault}

-- what a parse says of its own command holds for the definition of it
pub fails_by : {T : Type 0} (defined own : App) (words : List Text) (r : Result T Error)
    → is_simple_and_free defined ≡ true → own ≡ defined
    → (is_simple_and_free own ≡ true → FailsBy (fault_of own words) r)
    → FailsBy (fault_of defined words) r
fails_by defined own words r free same fails =
    subst (λ (a : App). FailsBy (fault_of a words) r) same (fails (ap is_simple_and_free same ∙ free))

-- a fault that is handed on has the cause that it had
pub caused : {T : Type 0} (kinds : Kinds) (fault : LineFault) (r : Result T LineFault) → HasCause kinds fault
    → IsErr r × IsErrAnd r (λ f. f ≡ fault) → IfErr r (HasCause kinds)
caused kinds fault (Ok x) cause gives = tt
caused kinds fault (Err f) cause gives = subst (HasCause kinds) (sym gives.1) cause
