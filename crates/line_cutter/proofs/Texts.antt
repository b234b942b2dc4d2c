-- Whether bytes are UTF-8.
use Rattle.std.proofs.Common.{◌≡◌, ℕ, Bool, List, Result, Ok, Err, MatchResult, sym, ◌∙◌}
use Rattle.std.specs.Result.{is_ok}
use Rattle.std.specs.Str.{IsUtf8, is_utf8}
use Rattle.std.proofs.lemmas.Str.{IsUtf8-from_is_utf8, is_utf8-from_IsUtf8}
use Rattle.std.proofs.lemmas.Bool.{false_from_ne_true}

-- a reading succeeds exactly where the bytes are UTF-8
pub text_decided : {T E : Type 0} (line : List ℕ) (read : Result T E) (P : T → Type 0) (Q : E → Type 0) (succeeds : Bool) → MatchResult read P Q
    → ((text : T) → P text → IsUtf8 line) → ((fault : E) → Q fault → IsUtf8 line → ⊥) → succeeds ≡ is_ok read → succeeds ≡ is_utf8 line
text_decided line (Ok text) P Q succeeds cases good bad is = is ∙ sym (is_utf8-from_IsUtf8 line (good text cases))
text_decided line (Err fault) P Q succeeds cases good bad is = is ∙ sym (false_from_ne_true (is_utf8 line) (λ passes. bad fault cases (IsUtf8-from_is_utf8 line passes)))
