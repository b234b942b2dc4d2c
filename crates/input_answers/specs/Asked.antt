-- What the words of the command line ask for.
use Rattle.std.specs.Prelude.{◌≡◌, Bool, true, false, List, ℕ, None, Some, is_some, option_and_then}
use Rattle.knit_base.specs.Limits.{IsLawfulProfile}
use Rattle.machine_profile.specs.declared.Chosen.{Chosen}
use Rattle.machine_profile.specs.declared.Which.{Which}
use Rattle.machine_profile.specs.Bounds.{refused_option, IsBlockSize, IsChosen}
use Rattle.command_words.specs.declared.command.Command.{Command}
use Rattle.command_words.specs.declared.command.Command.TheVariants.{Check, Text, Passes, Live, Save, Groups, Serve, Replay, Tally, Make}
use Rattle.command_words.specs.declared.command.Request.{Request}
use Rattle.command_words.specs.Request.{words_request}

-- the words are in the grammar and ask for this command, and these are the limits that its options choose
pub record AsksCommand (words : List (List ℕ)) (command : Command) (chosen : Chosen) : Type 0 where
  pub request : Request
  pub in_grammar : words_request words ≡ Some request
  pub commands : request.command ≡ command
  pub within : refused_option request.options ≡ None
  pub values : IsChosen request.options chosen

-- the words are in the grammar and say how many lines a block has
abbrev pub chooses_block : List (List ℕ) → Bool
chooses_block words = is_some (option_and_then (λ (r : Request). r.options.block) (words_request words))

-- the commands that read a knitout file
abbrev pub reads_file : Command → Bool
reads_file (Check loops json) = true
reads_file Text = true
reads_file Passes = true
reads_file Live = false
reads_file Save = false
reads_file Groups = false
reads_file (Serve json) = false
reads_file Replay = false
reads_file (Tally from to) = false
reads_file (Make rows start) = false

-- the commands that read a script, whose sessions edit a document
abbrev pub reads_script : Command → Bool
reads_script (Check loops json) = false
reads_script Text = false
reads_script Passes = false
reads_script Live = true
reads_script Save = true
reads_script Groups = false
reads_script (Serve json) = false
reads_script Replay = false
reads_script (Tally from to) = false
reads_script (Make rows start) = false

-- the commands that have sessions: of a script, or of a conversation
abbrev pub has_sessions : Command → Bool
has_sessions (Check loops json) = false
has_sessions Text = false
has_sessions Passes = false
has_sessions Live = true
has_sessions Save = true
has_sessions Groups = true
has_sessions (Serve json) = true
has_sessions Replay = false
has_sessions (Tally from to) = false
has_sessions (Make rows start) = false

-- the commands that read a whole input before they answer: a file, a script or a saved text
abbrev pub reads_input : Command → Bool
reads_input (Check loops json) = true
reads_input Text = true
reads_input Passes = true
reads_input Live = true
reads_input Save = true
reads_input Groups = true
reads_input (Serve json) = false
reads_input Replay = true
reads_input (Tally from to) = true
reads_input (Make rows start) = false

-- the words are outside the grammar, or one of their options is outside its bounds
pub data AreRefused (words : List (List ℕ)) : Type 0 where
  outside : words_request words ≡ None → AreRefused words
  out_of_bounds : (request : Request) (which : Which) → words_request words ≡ Some request → refused_option request.options ≡ Some which → AreRefused words

-- the limits lie within the bounds of the project
pub record IsLawfulChosen (chosen : Chosen) : Type 0 where
  pub profile : IsLawfulProfile chosen.profile
  pub block : IsBlockSize chosen.block

-- whether the command answers a conversation as JSON
abbrev pub as_json : Command → Bool
as_json (Serve json) = json
as_json command = false
