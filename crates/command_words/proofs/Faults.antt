-- Which fault a result has.
use Rattle.std.proofs.Common.{◌≡◌, ◌↔◌, IsErrOf, ap}
use Rattle.std.specs.Prelude.{Result, Ok, Err, IsErrAnd}
use Rattle.clap.specs.declared.error.kind.ErrorKind.{ErrorKind}
use Rattle.clap.specs.declared.error.kind.ErrorKind.TheVariants.{OutOfMemory}
use Rattle.command_words.specs.declared.fault.WordFault.{WordFault}
use Rattle.command_words.specs.declared.fault.WordFault.TheVariants.{Usage}

-- the fault, or another where there is none
abbrev err_or : {X : Type 0} → Result X WordFault → WordFault → WordFault
err_or (Ok x) other = other
err_or (Err fault) other = fault

-- the fault of one result is that of another
pub same_error : {X Y : Type 0} (e f : WordFault) → IsErrOf {T = X} (Err e) f → IsErrOf {T = Y} (Err e) f
same_error e f is = ap (λ r. Err (err_or r e)) is

-- only want of memory is no `Usage`
pub usage_from : {X : Type 0} (r : Result X WordFault) (k : ErrorKind) → IsErrAnd r (λ f. (f ≡ Usage) ↔ (k ≡ OutOfMemory → ⊥)) → IsErrOf r Usage → k ≡ OutOfMemory → ⊥
usage_from (Ok x) k h u = absurd h
usage_from (Err f) k h u = h.0 (ap (λ r. err_or r f) u)
