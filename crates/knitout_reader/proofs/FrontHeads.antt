-- The head of a file that ends within its first lines.
use Rattle.std.proofs.Common.{◌≡◌, ℕ, ◌+◌, ◌<◌, List, [], ◌∷◌, ◌++◌, length, take, ap, sym, ◌∙◌, arith, if◌then◌else◌}
use Rattle.std.specs.List.{prefix_len}
use Rattle.std.proofs.lemmas.Bool.{cond-true, cond-false}
use Rattle.std.proofs.lemmas.List.{take-append-le}
use Rattle.knit_base.proofs.Places.{by_test}
use Rattle.knitout_reader.specs.declared.head.Head.{Head}
use Rattle.knitout_reader.specs.declared.head.HeadFault.TheVariants.{BadMagic}
use Rattle.knitout_reader.specs.Head.{IsHead, carriers_headers, declared_names, head_len, head_of, is_head_line, is_magic, one_declared}
use Rattle.std.specs.Prelude.{Err}

prefix_ends : (front more : List (List ℕ)) → prefix_len is_head_line front < length front → prefix_len is_head_line (front ++ more) ≡ prefix_len is_head_line front
prefix_ends [] more ends = absurd (omega arith)
prefix_ends (line ∷ front) more ends =
    by_test (is_head_line line)
    (λ is.
    let here : prefix_len is_head_line (line ∷ front) ≡ 1 + prefix_len is_head_line front = cond-true (is_head_line line) (1 + prefix_len is_head_line front) 0 is in
    cond-true (is_head_line line) (1 + prefix_len is_head_line (front ++ more)) 0 is ∙ ap (λ n. 1 + n) (prefix_ends front more (omega (arith, ends, here))) ∙ sym here)
    (λ isnt. cond-false (is_head_line line) (1 + prefix_len is_head_line (front ++ more)) 0 isnt ∙ sym (cond-false (is_head_line line) (1 + prefix_len is_head_line front) 0 isnt))

len_ends : (front more : List (List ℕ)) → head_len front < length front → head_len (front ++ more) ≡ head_len front
len_ends [] more ends = absurd (omega arith)
len_ends (first ∷ front) more ends = ap (λ n. 1 + n) (prefix_ends front more (omega (arith, ends)))

head_ends : (front more : List (List ℕ)) → head_len front < length front → head_of (front ++ more) ≡ head_of front
head_ends front more ends = ap (λ n. take n (front ++ more)) (len_ends front more ends) ∙ take-append-le (head_len front) front more (omega arith)

names_end : (front more : List (List ℕ)) → head_len front < length front → declared_names (front ++ more) ≡ declared_names front
names_end [] more ends = absurd (omega arith)
names_end (first ∷ front) more ends =
    ap (λ lines. if is_magic first then one_declared (carriers_headers 1 lines) else Err BadMagic) (head_ends (first ∷ front) more ends)

-- lines behind the head are no part of it
pub head-ends : (front more : List (List ℕ)) (head : Head) → IsHead front head → head.lines < length front → IsHead (front ++ more) head
head-ends front more head is ends =
    let within : head_len front < length front = omega (arith, ends, is.len) in
    record { len = is.len ∙ sym (len_ends front more within); names = names_end front more within ∙ is.names }
