-- The parts of a document that a saved text tells, and what these must keep.
use Rattle.std.specs.Prelude.{◌≡◌, ℕ, ◌+◌, ◌<◌, ◌≤◌, ◌^◌, true, List, [], ◌∷◌, ◌++◌, length, flat_map, All}
use Rattle.std.specs.Str.{is_utf8}
use Rattle.knit_base.specs.Limits.{IsLawfulProfile}
use Rattle.knit_base.specs.Lines.{HasNoLineEnd}
use Rattle.knit_base.specs.Names.{AreNames, spaced_names}
use Rattle.knit_base.specs.declared.profile.Profile.{Profile}
use Rattle.edit_journal.specs.declared.edit.BlockAt.{BlockAt}
use Rattle.edit_journal.specs.declared.edit.Edit.{Edit}
use Rattle.edit_journal.specs.declared.edit.Edit.TheVariants as edit
use Rattle.edit_journal.specs.declared.edit.Entry.{Entry}
use Rattle.edit_journal.specs.declared.opening.Opening.{Opening}
use Rattle.edit_book.specs.Outlines.{MayCome, block_texts_of}
use Rattle.journal_file.specs.Entries.{IsLawfulAnchor}
use Rattle.journal_file.specs.Heads.{IsWholeHead, names_in_head}

-- a line that may stand behind a bar
pub record IsShortLine (line : List ℕ) : Type 0 where
  pub utf8 : is_utf8 line ≡ true
  pub one : HasNoLineEnd line
  pub short : length line ≤ 4096

-- the text of one of the first blocks
pub record IsFirstText (text : List (List ℕ)) : Type 0 where
  pub some : 1 ≤ length text
  pub few : length text ≤ 4096
  pub lines : All IsShortLine text

-- blocks of these texts, with the ids from this one on and stamp 0
abbrev pub numbered_from : ℕ → List (List (List ℕ)) → List BlockAt
numbered_from id [] = []
numbered_from id (text ∷ texts) = record { block = id; stamp = 0; text = text } ∷ numbered_from (id + 1) texts

-- the blocks with which a document begins
abbrev pub first_blocks : Opening → List BlockAt
first_blocks opening = numbered_from 0 opening.texts

-- the text that an edit gives to a block
pub record IsGivenText (text : List (List ℕ)) : Type 0 where
  pub few : length text ≤ 4096
  pub lines : All IsShortLine text

-- the names that an edit gives to the header, as its line may tell them
pub record AreGivenNames (names : List (List ℕ)) : Type 0 where
  pub are : AreNames names
  pub utf8 : is_utf8 (spaced_names names) ≡ true

-- what an edit says and gives has a spelling: its numbers fit 32 bits
abbrev pub IsWritable : Edit → Type 0
IsWritable (edit.Put block seen text) = (block < 2 ^ 32) × (seen < 2 ^ 32) × IsGivenText text
IsWritable (edit.Add anchor block text) = IsLawfulAnchor anchor × (block < 2 ^ 32) × IsGivenText text
IsWritable (edit.Cut block seen) = (block < 2 ^ 32) × (seen < 2 ^ 32)
IsWritable (edit.Head seen names) = (seen < 2 ^ 32) × AreGivenNames names

-- an entry that has a spelling
pub record IsSpelledEntry (entry : Entry) : Type 0 where
  pub session : entry.session < 64
  pub given : IsWritable entry.edit

-- what a document begins with that has this head, these limits and blocks of these texts
abbrev pub opening_with : List (List ℕ) → Profile → List (List (List ℕ)) → Opening
opening_with head profile texts = record { setting = record { profile = profile; declared = names_in_head head; first = length head + 1 }; texts = texts }

abbrev pub opening_of_saved : List (List ℕ) → Profile → List BlockAt → Opening
opening_of_saved head profile blocks = opening_with head profile (block_texts_of blocks)

-- the entries may come one after the other, behind those that came before
abbrev pub MayAllCome : Opening → List Entry → List Entry → Type 0
MayAllCome opening before [] = Unit {0}
MayAllCome opening before (entry ∷ entries) = MayCome opening before entry.edit × MayAllCome opening (before ++ entry ∷ []) entries

-- the bounds of a head, the machine's limits, the first blocks and a journal that have a spelling
pub record KeepsBounds (head : List (List ℕ)) (profile : Profile) (blocks : List BlockAt) (entries : List Entry) : Type 0 where
  pub limits : IsLawfulProfile profile
  pub whole : IsWholeHead head
  pub head_few : length head ≤ 16777217
  pub head_lines : All IsShortLine head
  pub numbered : blocks ≡ numbered_from 0 (block_texts_of blocks)
  pub blocks_few : length blocks ≤ 65536
  pub lines_few : length (flat_map (λ (block : BlockAt). block.text) blocks) ≤ 1048576
  pub texts : All IsFirstText (block_texts_of blocks)
  pub written : All IsSpelledEntry entries

-- they are within their bounds, and each entry may come behind those before it
pub record IsLawfulSaved (head : List (List ℕ)) (profile : Profile) (blocks : List BlockAt) (entries : List Entry) : Type 0 where
  pub bounds : KeepsBounds head profile blocks entries
  pub come : MayAllCome (opening_of_saved head profile blocks) [] entries
