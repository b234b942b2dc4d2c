-- How far the reading of a head has come, and where it stops.
use Rattle.std.proofs.Common.{◌≡◌, ◌∙◌, ℕ, zero, suc, ◌+◌, ◌-◌, ◌<◌, ◌≤◌, Bool, true, false, ◌||◌, List, [], ◌∷◌, ◌++◌, length, ap, sym, subst, refl, arith, codes, rules}
use Rattle.std.specs.List.{AllByRecursion}
use Rattle.std.proofs.lemmas.List.Elements.{All-from_recursion}
use Rattle.std.proofs.lemmas.Str.{IsUtf8-from_ascii, is_utf8-from_IsUtf8}
use Rattle.std.proofs.lemmas.Str.Ascii.{IsAscii-from_all}
use Rattle.knit_base.specs.Lines.{HasNoLineEnd, IsLine}
use Rattle.knitout_reader.specs.Head.{is_carriers_line}
use Rattle.journal_file.specs.declared.head.HeadSoFar.{HeadSoFar}
use Rattle.journal_file.specs.Grammars.{Lines, IsUnambiguous, Chain, behind_all}
use Rattle.journal_file.specs.HeadForms.{AreHeadLines, IsHeadLine, MayStandInHead, has_kind, head_form, no_line_yet, head_with_line}
use Rattle.journal_file.specs.Lines.{IsBarredLine}
use Rattle.journal_file.specs.Reading.{FormHasRead, IsFormStop, IsFirstLineTaken, NoneTaken}
use Rattle.journal_file.proofs.FormReadings.{behind_more, chain_more, chain_stops, line_read, line_stops}
use Rattle.journal_file.proofs.Grammars.{line_one}
use Rattle.journal_file.proofs.Readings.{one_text, taken-bad, text_has_none}

pub head_one : (s : HeadSoFar) → IsUnambiguous (head_form s)
head_one s = line_one (IsHeadLine s) (λ a b line p q. one_text a b line p.barred q.barred)

-- a line of ASCII
abbrev is_plain : ℕ → Type 0
is_plain byte = byte < 128

plain_line : (text : List ℕ) → AllByRecursion is_plain text → length text ≤ 4096 → IsBarredLine text (codes "|" ++ text)
plain_line text plain short = record { barred = refl; is_short = record { utf8 = is_utf8-from_IsUtf8 text (IsUtf8-from_ascii text (IsAscii-from_all text (All-from_recursion is_plain text plain))); short = short } }

-- where lines are left, some may be the next
pub some_line : (s : HeadSoFar) → 1 ≤ s.left → (s.first ≡ true → 2 ≤ s.left) → (text : List ℕ) × (line : List ℕ) × IsHeadLine s text line
some_line s some more = go s.first s.named refl refl
  where
    go : (first named : Bool) → s.first ≡ first → s.named ≡ named → (text : List ℕ) × (line : List ℕ) × IsHeadLine s text line
    go true named is said = (
      codes ";!knitout-2",
      codes "|;!knitout-2",
      record {
        barred = plain_line (codes ";!knitout-2") (search rules) (omega arith);
        stands = record { kind = ap (λ b. has_kind b (codes ";!knitout-2")) is; once = λ yes. absurd (cc); names = λ yes. absurd (cc); last = λ one. absurd (let two = more is in omega (arith, one, two)) };
      },
    )
    go false true is said = (
      codes ";",
      codes "|;",
      record {
        barred = plain_line (codes ";") (search rules) (omega arith);
        stands = record { kind = ap (λ b. has_kind b (codes ";")) is; once = λ yes. absurd (cc); names = λ yes. absurd (cc); last = λ one. ap (λ b. b || is_carriers_line (codes ";")) said };
      },
    )
    go false false is said = (
      codes ";;Carriers:",
      codes "|;;Carriers:",
      record {
        barred = plain_line (codes ";;Carriers:") (search rules) (omega arith);
        stands = record { kind = ap (λ b. has_kind b (codes ";;Carriers:")) is; once = λ yes. said; names = λ yes. refl; last = λ one. ap (λ b. b || is_carriers_line (codes ";;Carriers:")) said };
      },
    )

-- so many lines can be
pub some_lines : (n : ℕ) (s : HeadSoFar) → s.left ≡ n → s.first ≡ false → (xs : List (List ℕ)) × (u : Lines) × Chain head_form head_with_line n s xs u
some_lines zero s left first = ([], [], refl)
some_lines (suc n) s left first =
    let l = some_line s (omega (arith, left)) (λ is. absurd (cc)) in
    let w = some_lines n (head_with_line s l.0) (omega (arith, left)) refl in
    (l.0 ∷ w.0, l.1 ∷ w.1, record { first = l.1 ∷ []; second = w.1; lines_are = refl; says_first = record { line = l.1; lines_are = refl; says = l.2 }; says_second = w.2 })

-- the head so far, as the reading knows it
pub record IsSoFar (many done : ℕ) (said : List (List ℕ)) (s : HeadSoFar) : Type 0 where
  pub behind : behind_all head_with_line (no_line_yet many) said ≡ s
  pub left : s.left ≡ many - done
  pub first : s.first ≡ true → done ≡ 0

-- one more line was read
pub line_more : (many done : ℕ) (bytes : List ℕ) (taken : ℕ) (said : List (List ℕ)) (rest : List ℕ) (now : ℕ) (s : HeadSoFar) (text behind : List ℕ) → IsSoFar many done said s
    → FormHasRead (Chain head_form head_with_line done (no_line_yet many)) bytes taken said rest now → IsFirstLineTaken (IsHeadLine s) rest text behind
    → FormHasRead (Chain head_form head_with_line (done + 1) (no_line_yet many)) bytes taken (said ++ text ∷ []) behind (now + 1)
line_more many done bytes taken said rest now s text behind so_far p took =
    chain_more head_form head_with_line done (no_line_yet many) bytes taken said rest now text behind (now + 1) p
    (subst (λ t. FormHasRead (head_form t) rest now text behind (now + 1)) (sym so_far.behind) (line_read (IsHeadLine s) rest now text behind took))

pub so_far_more : (many done : ℕ) (said : List (List ℕ)) (s : HeadSoFar) (text : List ℕ) → IsSoFar many done said s → IsSoFar many (done + 1) (said ++ text ∷ []) (head_with_line s text)
so_far_more many done said s text so_far = record {
  behind = behind_more head_form head_with_line (no_line_yet many) said text ∙ ap (λ t. head_with_line t text) so_far.behind;
  left = let left = so_far.left in omega (arith, left);
  first = λ is. absurd (cc);
}

-- no line of the head is next
pub line_stops_head : (many done : ℕ) (bytes : List ℕ) (taken : ℕ) (said : List (List ℕ)) (rest : List ℕ) (now : ℕ) (s : HeadSoFar) → done < many → 2 ≤ many → IsSoFar many done said s
    → FormHasRead (Chain head_form head_with_line done (no_line_yet many)) bytes taken said rest now → NoneTaken (IsHeadLine s) rest → IsFormStop (AreHeadLines many) bytes taken (now + 1)
line_stops_head many done bytes taken said rest now s below two so_far p none =
    let all : done + suc (many - done - 1) ≡ many = omega (arith, below) in
    let left = so_far.left in
    let l = some_line s (omega (arith, left, below)) (λ is. let zero_done = so_far.first is in omega (arith, left, zero_done, two)) in
    subst (λ n. IsFormStop (Chain head_form head_with_line n (no_line_yet many)) bytes taken (now + 1)) all
    (chain_stops head_form head_with_line head_one done (many - done - 1) (no_line_yet many) bytes taken said rest now (now + 1)
    (λ a t it. subst (λ t. (ys : List (List ℕ)) × (u : Lines) × Chain head_form head_with_line (many - done - 1) (head_with_line t a) ys u) (sym so_far.behind) (some_lines (many - done - 1) (head_with_line s a) (omega (arith, left)) refl))
    p
    (subst (λ t. IsFormStop (head_form t) rest now (now + 1)) (sym so_far.behind) (line_stops (IsHeadLine s) l.0 l.1 l.2 rest now none)))

-- the next line is a text line that may not stand there
pub head_none : (s : HeadSoFar) (bytes text rest : List ℕ) → IsFirstLineTaken IsBarredLine bytes text rest → ¬ MayStandInHead s text → NoneTaken (IsHeadLine s) bytes
head_none s bytes text rest took never = taken-bad (IsHeadLine s) bytes took.line rest took.one took.bytes_are (λ a it. never (subst (MayStandInHead s) (one_text a text took.line it.barred took.says) it.stands))

pub head_taken : (s : HeadSoFar) (bytes text rest : List ℕ) → IsFirstLineTaken IsBarredLine bytes text rest → MayStandInHead s text → IsFirstLineTaken (IsHeadLine s) bytes text rest
head_taken s bytes text rest took stands = record { line = took.line; one = took.one; bytes_are = took.bytes_are; says = record { barred = took.says; stands = stands } }

pub head_text_is_line : (bytes text rest : List ℕ) → IsFirstLineTaken IsBarredLine bytes text rest → IsLine text
head_text_is_line bytes text rest took = let short = took.says.is_short.short in
    record { utf8 = took.says.is_short.utf8; one = text_has_none bytes text rest took; short = omega (arith, short) }

-- what was taken has no line feed
pub taken_has_none : (s : HeadSoFar) (bytes text rest : List ℕ) → IsFirstLineTaken (IsHeadLine s) bytes text rest → HasNoLineEnd text
taken_has_none s bytes text rest took = text_has_none bytes text rest (record { line = took.line; one = took.one; bytes_are = took.bytes_are; says = took.says.barred })
