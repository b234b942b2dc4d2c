-- Sessions that have asked nothing yet.
use Rattle.std.proofs.Common.{◌≡◌, Bool, ℕ, zero, suc, ◌+◌, List, [], ◌∷◌, ◌++◌, length, slice_get, Some, subst, arith}
use Rattle.edit_journal.specs.declared.opening.Opening.{Opening}
use Rattle.edit_groups.specs.declared.chunk.Chunk.{Chunk}
use Rattle.talk_desk.specs.Conversation.{standing_at_start}
use Rattle.talk_desk.specs.Hosts.{AreFresh, IsFresh, IsTalker}
use Rattle.talk_desk.specs.declared.steps.Talker.{Talker}

-- one more
pub fresh-more : (opening : Opening) (earlier : List Chunk) (n : ℕ) (ts : List Talker) (t : Talker) → AreFresh opening earlier n ts → IsFresh opening earlier (n + length ts) t → AreFresh opening earlier n (ts ++ t ∷ [])
fresh-more opening earlier n [] t all is = (subst (λ (k : ℕ). IsFresh opening earlier k t) (omega arith) is, tt)
fresh-more opening earlier n (s ∷ ts) t all is = (all.0, fresh-more opening earlier (n + 1) ts t all.1 (subst (λ (k : ℕ). IsFresh opening earlier k t) (omega arith) is))

fresh-there : (opening : Opening) (earlier : List Chunk) (n i : ℕ) (ts : List Talker) (t : Talker) → AreFresh opening earlier n ts → slice_get ts i ≡ Some t → IsFresh opening earlier (n + i) t
fresh-there opening earlier n i [] t all is = absurd (cc)
fresh-there opening earlier n zero (s ∷ ts) t all is = let same : s ≡ t = cc in subst (λ (x : Talker). IsFresh opening earlier (n + 0) x) same (subst (λ (k : ℕ). IsFresh opening earlier k s) (omega arith) all.0)
fresh-there opening earlier n (suc i) (s ∷ ts) t all is = subst (λ (k : ℕ). IsFresh opening earlier k t) (omega arith) (fresh-there opening earlier (n + 1) i ts t all.1 is)

-- each is at the standing before the first order
pub fresh-talkers : (json : Bool) (head : List (List ℕ)) (opening : Opening) (earlier : List Chunk) (ts : List Talker) → AreFresh opening earlier 0 ts → (i : ℕ) (t : Talker) → slice_get ts i ≡ Some t
    → IsTalker opening (standing_at_start json head opening earlier) i t
fresh-talkers json head opening earlier ts all i t is =
    let f : IsFresh opening earlier (0 + i) t = fresh-there opening earlier 0 i ts t all is in
    let e : 0 + i ≡ i = omega arith in
    let g : IsFresh opening earlier i t = subst (λ (k : ℕ). IsFresh opening earlier k t) e f in
    record { number = g.number; session = g.session; answered = g.answered }
