-- Lists of which the last item is known, and the add commands in lists.
use Rattle.std.proofs.Common.{◌≡◌, ℕ, ◌+◌, Bool, true, List, [], ◌∷◌, ◌++◌, ap, ◌∙◌, refl, subst, append-nil, arith}
use Rattle.std.specs.List.{flat_map}
use Rattle.std.proofs.lemmas.Grind.{flat_map-append}
use Rattle.std.proofs.lemmas.List.Sums.{sum_by-cons, sum_by-append}
use Rattle.script_reader.specs.Script.{adds_in, adds_of, all_known, command_line_in, last_is, last_session, names_known}
use Rattle.script_reader.specs.declared.command.Command as declared
use Rattle.script_reader.proofs.Bools.{both_true, first_true, second_true}

-- the list with another last item
abbrev pub on_last : {A : Type 0} → (A → A) → List A → List A
on_last f [] = []
on_last f (x ∷ []) = f x ∷ []
on_last f (x ∷ y ∷ ys) = x ∷ on_last f (y ∷ ys)

-- where the last item is known
pub on_last-snoc : {A : Type 0} (f : A → A) (xs : List A) (x : A) → on_last f (xs ++ x ∷ []) ≡ xs ++ f x ∷ []
on_last-snoc f [] x = refl
on_last-snoc f (y ∷ []) x = refl
on_last-snoc f (y ∷ z ∷ zs) x = ap (λ l. y ∷ l) (on_last-snoc f (z ∷ zs) x)

pub last_session-snoc : {A : Type 0} (done : List (List A)) (session : List A) → last_session (done ++ session ∷ []) ≡ session
last_session-snoc [] session = refl
last_session-snoc (s ∷ []) session = refl
last_session-snoc (s ∷ t ∷ ss) session = last_session-snoc (t ∷ ss) session

pub adds_more : (commands more : List declared.Command) → adds_in (commands ++ more) ≡ adds_in commands + adds_in more
adds_more commands more = sum_by-append (λ c. adds_of (command_line_in c)) commands more

pub adds_one : (c : declared.Command) → adds_in (c ∷ []) ≡ adds_of (command_line_in c)
adds_one c = omega (arith, sum_by-cons (λ c. adds_of (command_line_in c)) c [])

-- known commands, and known ones behind them
pub known_more : (adds : ℕ) (commands more : List declared.Command) → all_known adds commands ≡ true → all_known (adds + adds_in commands) more ≡ true → all_known adds (commands ++ more) ≡ true
known_more adds [] more known next = subst (λ n. all_known n more ≡ true) (omega arith) next
known_more adds (c ∷ cs) more known next =
    let count : adds + adds_in (c ∷ cs) ≡ adds + adds_of (command_line_in c) + adds_in cs = omega (arith, sum_by-cons (λ c. adds_of (command_line_in c)) c cs) in
    both_true (names_known adds (command_line_in c)) (all_known (adds + adds_of (command_line_in c)) (cs ++ more))
    (first_true (names_known adds (command_line_in c)) (all_known (adds + adds_of (command_line_in c)) cs) known)
    (known_more (adds + adds_of (command_line_in c)) cs more (second_true (names_known adds (command_line_in c)) (all_known (adds + adds_of (command_line_in c)) cs) known) (subst (λ n. all_known n more ≡ true) count next))

pub last_is-snoc : {A : Type 0} (test : A → Bool) (xs : List A) (x : A) → last_is test (xs ++ x ∷ []) ≡ test x
last_is-snoc test [] x = refl
last_is-snoc test (y ∷ []) x = refl
last_is-snoc test (y ∷ z ∷ zs) x = last_is-snoc test (z ∷ zs) x

pub flat-snoc : {A B : Type 0} (f : A → List B) (xs : List A) (x : A) → flat_map f (xs ++ x ∷ []) ≡ flat_map f xs ++ f x
flat-snoc f xs x = flat_map-append f xs (x ∷ []) ∙ ap (λ l. flat_map f xs ++ l) (append-nil (f x))

-- lists of commands as parts
pub flat_one : (commands : List declared.Command) → flat_map (λ command. command ∷ []) commands ≡ commands
flat_one [] = refl
flat_one (c ∷ cs) = ap (λ (l : List declared.Command). c ∷ l) (flat_one cs)

-- of known commands, the first are known, and those behind them
pub known_front : (adds : ℕ) (commands more : List declared.Command) → all_known adds (commands ++ more) ≡ true → all_known adds commands ≡ true
known_front adds [] more known = refl
known_front adds (c ∷ cs) more known =
    both_true (names_known adds (command_line_in c)) (all_known (adds + adds_of (command_line_in c)) cs)
    (first_true (names_known adds (command_line_in c)) (all_known (adds + adds_of (command_line_in c)) (cs ++ more)) known)
    (known_front (adds + adds_of (command_line_in c)) cs more (second_true (names_known adds (command_line_in c)) (all_known (adds + adds_of (command_line_in c)) (cs ++ more)) known))

pub known_back : (adds : ℕ) (commands more : List declared.Command) → all_known adds (commands ++ more) ≡ true → all_known (adds + adds_in commands) more ≡ true
known_back adds [] more known = subst (λ n. all_known n more ≡ true) (omega arith) known
known_back adds (c ∷ cs) more known =
    let count : adds + adds_of (command_line_in c) + adds_in cs ≡ adds + adds_in (c ∷ cs) = omega (arith, sum_by-cons (λ c. adds_of (command_line_in c)) c cs) in
    subst (λ n. all_known n more ≡ true) count
    (known_back (adds + adds_of (command_line_in c)) cs more (second_true (names_known adds (command_line_in c)) (all_known (adds + adds_of (command_line_in c)) (cs ++ more)) known))
