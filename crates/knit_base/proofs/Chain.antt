-- What several appends in turn have appended.
use Rattle.std.proofs.Common.{◌≡◌, ◌∙◌, ℕ, List, ◌++◌, ap, append_assoc}

-- what two appends have appended
pub after_two : (start middle end a b : List ℕ) → middle ≡ start ++ a → end ≡ middle ++ b → end ≡ start ++ (a ++ b)
after_two start middle end a b first second = second ∙ ap (λ t. t ++ b) first ∙ append_assoc start a b

-- what three appends have appended
pub after_three : (start second third end a b c : List ℕ) → second ≡ start ++ a → third ≡ second ++ b → end ≡ third ++ c → end ≡ start ++ (a ++ (b ++ c))
after_three start second third end a b c one two three = after_two start second end a (b ++ c) one (after_two second third end b c two three)

-- what four appends have appended
pub after_four : (start second third fourth end a b c d : List ℕ) → second ≡ start ++ a → third ≡ second ++ b → fourth ≡ third ++ c → end ≡ fourth ++ d
    → end ≡ start ++ (a ++ (b ++ (c ++ d)))
after_four start second third fourth end a b c d one two three four = after_two start second end a (b ++ (c ++ d)) one (after_three second third fourth end b c d two three four)
