-- The canonical spelling of a line.
--
-- It is this project's own choice: one space between two tokens, one spelling for each number, and comments as they are.
use Rattle.std.specs.Prelude.{◌≡◌, ℕ, List, [], ◌∷◌, ◌++◌, Option, None, Some, position, take, drop, slice_get, codes}
use Rattle.std.specs.List.{filter_map, flat_map, AllZip}
use Rattle.knit_base.specs.declared.instr.Instr.{Instr}
use Rattle.knit_base.specs.declared.instr.Instr.TheVariants.{CarryIn, CarryOut, HookIn, HookOut, ReleaseHook, Stitch, Pause, Extension, Rack, Knit, Tuck, Miss, Split, Xfer, Drop, Amiss}
use Rattle.knit_base.specs.declared.instr.Read.{Read}
use Rattle.knit_base.specs.declared.instr.Read.TheVariants as read
use Rattle.knit_base.specs.declared.profile.Profile.{Profile}
use Rattle.knit_base.specs.declared.yarns.CarrierNo.{CarrierNo}
use Rattle.knit_base.specs.Spelling.{dir_word, needle_text, rack_text}
use Rattle.knitout_reader.specs.declared.head.Head.{Head}
use Rattle.knitout_reader.specs.Reading.{ReadsAs}
use Rattle.knitout_reader.specs.Tokens.{tokens_of, before_comment, is_semicolon}

-- the names of the carriers
abbrev pub carrier_names : List (List ℕ) → List CarrierNo → List (List ℕ)
carrier_names names carriers = filter_map (λ c. slice_get names c.0) carriers

-- the tokens, with a space before each
abbrev pub each_spaced : List (List ℕ) → List ℕ
each_spaced tokens = flat_map (λ token. 32 ∷ token) tokens

-- the tokens, with one space between two
abbrev pub tokens_spaced : List (List ℕ) → List ℕ
tokens_spaced [] = []
tokens_spaced (token ∷ tokens) = token ++ each_spaced tokens

-- The tokens of the instruction's one spelling, where its line has these tokens. The tokens behind `stitch`, `pause` and an
-- extension have no other spelling.
abbrev pub canonical_tokens : List (List ℕ) → Instr → List (List ℕ) → List (List ℕ)
canonical_tokens names (CarryIn cs) tokens = codes "in" ∷ carrier_names names cs
canonical_tokens names (CarryOut cs) tokens = codes "out" ∷ carrier_names names cs
canonical_tokens names (HookIn cs) tokens = codes "inhook" ∷ carrier_names names cs
canonical_tokens names (HookOut cs) tokens = codes "outhook" ∷ carrier_names names cs
canonical_tokens names (ReleaseHook cs) tokens = codes "releasehook" ∷ carrier_names names cs
canonical_tokens names Stitch tokens = tokens
canonical_tokens names Pause tokens = tokens
canonical_tokens names Extension tokens = tokens
canonical_tokens names (Rack q) tokens = codes "rack" ∷ rack_text q.0 ∷ []
canonical_tokens names (Knit dir n cs) tokens = codes "knit" ∷ dir_word dir ∷ needle_text n ∷ carrier_names names cs
canonical_tokens names (Tuck dir n cs) tokens = codes "tuck" ∷ dir_word dir ∷ needle_text n ∷ carrier_names names cs
canonical_tokens names (Miss dir n cs) tokens = codes "miss" ∷ dir_word dir ∷ needle_text n ∷ carrier_names names cs
canonical_tokens names (Split dir n n2 cs) tokens = codes "split" ∷ dir_word dir ∷ needle_text n ∷ needle_text n2 ∷ carrier_names names cs
canonical_tokens names (Xfer n n2) tokens = codes "xfer" ∷ needle_text n ∷ needle_text n2 ∷ []
canonical_tokens names (Drop n) tokens = codes "drop" ∷ needle_text n ∷ []
canonical_tokens names (Amiss n) tokens = codes "amiss" ∷ needle_text n ∷ []

-- the comment that begins at this place, if one does
abbrev pub comment_from : Option ℕ → List ℕ → List ℕ
comment_from None line = []
comment_from (Some at) line = drop at line

-- the comment of a line: its first `;` and all that follows, or nothing
abbrev pub comment_of : List ℕ → List ℕ
comment_of line = comment_from (position is_semicolon line) line

-- a comment behind an instruction, with one space before it
abbrev pub comment_behind : List ℕ → List ℕ
comment_behind [] = []
comment_behind (byte ∷ bytes) = 32 ∷ byte ∷ bytes

-- The canonical spelling of a line that reads so. A line that breaks a rule is its own spelling.
abbrev pub canonical : List (List ℕ) → Read → List ℕ → List ℕ
canonical names read.Blank line = []
canonical names read.Comment line = comment_of line
canonical names (read.Instr i) line = tokens_spaced (canonical_tokens names i (tokens_of (before_comment line))) ++ comment_behind (comment_of line)
canonical names (read.Broken reason) line = line

-- the text is the canonical spelling of the line
abbrev pub IsCanonicalLine : Profile → List (List ℕ) → List ℕ → List ℕ → Type 0
IsCanonicalLine profile names line text = (r : Read) × ReadsAs profile names line r × (text ≡ canonical names r line)

-- the lines, with a line feed behind each
abbrev pub with_line_feeds : List (List ℕ) → List ℕ
with_line_feeds lines = flat_map (λ line. line ++ 10 ∷ []) lines

-- The canonical text of a file: the lines of its head as they are, and each line of its body in its canonical spelling.
abbrev pub IsCanonicalText : Profile → Head → List (List ℕ) → List ℕ → Type 0
IsCanonicalText profile head lines text =
    (body : List (List ℕ)) × AllZip (IsCanonicalLine profile head.declared) (drop head.lines lines) body
    × (text ≡ with_line_feeds (take head.lines lines) ++ with_line_feeds body)

-- Where the line is an instruction, its canonical spelling reads as the same instruction, and is its own canonical spelling.
abbrev pub IsStableSpelling : Profile → List (List ℕ) → List ℕ → Type 0
IsStableSpelling profile names line =
    (i : Instr) → ReadsAs profile names line (read.Instr i)
    → ReadsAs profile names (canonical names (read.Instr i) line) (read.Instr i)
    × (canonical names (read.Instr i) (canonical names (read.Instr i) line) ≡ canonical names (read.Instr i) line)
