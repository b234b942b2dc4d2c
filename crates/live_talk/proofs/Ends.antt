-- How a conversation ended, from what its parts tell.
use Rattle.std.proofs.Common.{◌≡◌, ◌⊎◌, inl, inr, ℕ, List, [], ◌∷◌, ◌++◌, None, Some, sym, subst, refl, arith, append-nil}
use Rattle.std.specs.Prelude.{Ok}
use Rattle.std.specs.declared.option.Option.{Option}
use Rattle.knit_ports.specs.Faults.{Rose}
use Rattle.knit_ports.specs.Pieces.{PiecesGoOn, Heard, Piece, Said, said_in}
use Rattle.opening_reader.specs.HeardOpenings.{AreLinesHeard, EndsOpening, IsAwaited, broken_off, whole}
use Rattle.input_answers.specs.declared.outcome.Status.{Status}
use Rattle.input_answers.specs.declared.outcome.Status.TheVariants as status
use Rattle.input_answers.specs.declared.plan.Plan.{Plan}
use Rattle.opening_reader.specs.declared.opening.OpeningText.{OpeningText}
use Rattle.verdict_report.specs.declared.refusal.Refusal.{Refusal}
use Rattle.live_talk.specs.Begins.{HasEndCause, RefusesText, bad_head, bad_journal, failed, fine, short, too_large}
use Rattle.live_talk.specs.Served as served
use Rattle.live_talk.specs.Served.{HasServeCause, IsTalkRefused}

pub goes-none : (a : Option (List Piece)) → PiecesGoOn a a []
goes-none None = tt
goes-none (Some ps) = sym (append-nil ps)

-- what is awaited is silent
awaited-silent : (count : ℕ) (heard : List ℕ) (pieces : List Piece) → IsAwaited count heard pieces → said_in pieces ≡ []
awaited-silent count heard [] is = refl
awaited-silent count heard (Heard bytes ∷ pieces) is = awaited-silent count (heard ++ bytes) pieces is.1
awaited-silent count heard (Said bytes ∷ pieces) is = absurd is

pub lines-silent : (pieces : List Piece) (lines : List (List ℕ)) (pending : List ℕ) → AreLinesHeard pieces lines pending → said_in pieces ≡ []
lines-silent pieces lines pending (whole came is heard) = awaited-silent _ [] pieces heard.awaited
lines-silent pieces lines pending (broken_off last some all) = awaited-silent _ [] pieces all.heard.awaited

-- a fault, and another
rose-more : (a b c : ℕ) → Rose a b → Rose b c → Rose a c
rose-more a b c first then = omega (arith, first, then)

-- the cause of the end, from that of the text which is said last
pub ended-cause : (ends result : Status) (before between after : ℕ) → (ends ≡ status.ReadFault → Rose before between) → (ends ≡ status.WriteFault → Rose before between)
    → (between ≡ before) ⊎ Rose before between → HasEndCause ends between after result → HasServeCause before after result
ended-cause ends result before between after read write so_far (fine same) = record {
  read = λ is. subst (Rose before) (sym same) (read is);
  write = λ is. subst (Rose before) (sym same) (write is);
}
ended-cause ends result before between after read write so_far (short same) = record { read = λ is. absurd (cc); write = λ is. absurd (cc) }
ended-cause ends result before between after read write (inl same) (failed rose) = record { read = λ is. absurd (cc); write = λ is. subst (λ (n : ℕ). Rose n after) same rose }
ended-cause ends result before between after read write (inr first) (failed rose) = record { read = λ is. absurd (cc); write = λ is. rose-more before between after first rose }

-- an opening that is refused is the one that was heard, and the program isn't to end by a fault
pub text-refused : (plan : Plan) (heard : List Piece) (pending : List ℕ) (told : OpeningText) (said : Refusal) (ends : Status) → EndsOpening heard pending (Ok told) → RefusesText plan told said ends → IsTalkRefused plan.chosen heard pending said ends
text-refused plan heard pending told said ends opened (bad_head why given kind is tells) = served.bad_head told why given opened kind is tells
text-refused plan heard pending told said ends opened (too_large head given kind is large) = served.too_large told head given opened kind is large
text-refused plan heard pending told said ends opened (bad_journal line why kind bad none) = served.bad_journal told line why opened kind bad none

pub never-read : (plan : Plan) (told : OpeningText) (said : Refusal) (ends : Status) → RefusesText plan told said ends → ends ≡ status.ReadFault → ⊥
never-read plan told said ends (bad_head why given kind is tells) same = absurd (cc)
never-read plan told said ends (too_large head given kind is large) same = absurd (cc)
never-read plan told said ends (bad_journal line why kind bad none) same = absurd (cc)

pub never-write : (plan : Plan) (told : OpeningText) (said : Refusal) (ends : Status) → RefusesText plan told said ends → ends ≡ status.WriteFault → ⊥
never-write plan told said ends (bad_head why given kind is tells) same = absurd (cc)
never-write plan told said ends (too_large head given kind is large) same = absurd (cc)
never-write plan told said ends (bad_journal line why kind bad none) same = absurd (cc)
