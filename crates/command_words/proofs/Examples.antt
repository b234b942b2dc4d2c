-- What some command lines spell, and what they ask for.
use Rattle.std.proofs.Common.{◌≡◌, refl, [], ◌∷◌, Option, Some, None, codes, pos, true, false}
use Rattle.std.specs.Prelude.{negsuc}
use Rattle.machine_profile.specs.declared.Options.{Options}
use Rattle.command_words.specs.declared.command.Command.{Command}
use Rattle.command_words.specs.declared.command.Command.TheVariants.{Check, Live, Save, Groups, Serve, Replay, Tally, Make}
use Rattle.command_words.specs.declared.command.Request.{Request}
use Rattle.command_words.specs.Grammar.{Flag, Json, Low, Place, Setting, items_of}
use Rattle.command_words.specs.Request.{words_request}

both_ways : items_of None (codes "--low=-64" ∷ codes "check" ∷ codes "--low" ∷ codes "7" ∷ codes "--json" ∷ [])
    ≡ Some (Setting Low (codes "-64") ∷ Place (codes "check") ∷ Setting Low (codes "7") ∷ Flag Json ∷ [])
both_ways = refl

no_value : items_of None (codes "check" ∷ codes "--low" ∷ codes "-64" ∷ []) ≡ None
no_value = refl

no_flag_value : items_of None (codes "check" ∷ codes "--loops=1" ∷ []) ≡ None
no_flag_value = refl

no_help : items_of None (codes "--help" ∷ []) ≡ None
no_help = refl

dashes : items_of None (codes "--" ∷ codes "--loops" ∷ codes "--" ∷ []) ≡ Some (Place (codes "--loops") ∷ Place (codes "--") ∷ [])
dashes = refl

-- no option is given
abbrev usual : Options
usual = record { low = None; high = None; rack = None; hold = None; block = None; float = None }

abbrev asks : Command → Options → Option Request
asks command options = Some (record { command = command; options = options })

-- ---- in the grammar

check_alone : words_request (codes "check" ∷ []) ≡ asks (Check false false) usual
check_alone = refl

check_with_flags : words_request (codes "--json" ∷ codes "check" ∷ codes "--loops" ∷ []) ≡ asks (Check true true) usual
check_with_flags = refl

-- 65 loops are a number, which the profile refuses
check_hold : words_request (codes "check" ∷ codes "--hold" ∷ codes "65" ∷ []) ≡ asks (Check false false) (record usual { hold = Some (pos 65) })
check_hold = refl

negative_value : words_request (codes "check" ∷ codes "--low=-64" ∷ []) ≡ asks (Check false false) (record usual { low = Some (negsuc 63) })
negative_value = refl

negative_zero : words_request (codes "check" ∷ codes "--low=-0" ∷ []) ≡ asks (Check false false) (record usual { low = Some (pos 0) })
negative_zero = refl

leading_zeros : words_request (codes "live" ∷ codes "--block" ∷ codes "00064" ∷ []) ≡ asks Live (record usual { block = Some (pos 64) })
leading_zeros = refl

make_three : words_request (codes "make" ∷ codes "--block=7" ∷ codes "20000" ∷ codes "2147483647" ∷ []) ≡ asks (Make 20000 2147483647) (record usual { block = Some (pos 7) })
make_three = refl

after_dashes : words_request (codes "--hold=3" ∷ codes "--" ∷ codes "check" ∷ []) ≡ asks (Check false false) (record usual { hold = Some (pos 3) })
after_dashes = refl

-- ---- outside the grammar

no_words : words_request [] ≡ None
no_words = refl

no_command : words_request (codes "knit" ∷ []) ≡ None
no_command = refl

low_without_equals : words_request (codes "check" ∷ codes "--low" ∷ codes "-64" ∷ []) ≡ None
low_without_equals = refl

make_two : words_request (codes "make" ∷ codes "2" ∷ []) ≡ None
make_two = refl

make_no_rows : words_request (codes "make" ∷ codes "0" ∷ codes "5" ∷ []) ≡ None
make_no_rows = refl

make_many_rows : words_request (codes "make" ∷ codes "20001" ∷ codes "5" ∷ []) ≡ None
make_many_rows = refl

make_late_start : words_request (codes "make" ∷ codes "1" ∷ codes "2147483648" ∷ []) ≡ None
make_late_start = refl

make_hold : words_request (codes "make" ∷ codes "2" ∷ codes "5" ∷ codes "--hold" ∷ codes "3" ∷ []) ≡ None
make_hold = refl

save_limits : words_request (codes "save" ∷ codes "--float=3" ∷ codes "--block" ∷ codes "2" ∷ []) ≡ asks Save (record usual { float = Some (pos 3); block = Some (pos 2) })
save_limits = refl

replay_alone : words_request (codes "replay" ∷ []) ≡ asks Replay usual
replay_alone = refl

replay_hold : words_request (codes "replay" ∷ codes "--hold=3" ∷ []) ≡ None
replay_hold = refl

tally_places : words_request (codes "tally" ∷ codes "00" ∷ codes "4294967295" ∷ []) ≡ asks (Tally 0 4294967295) usual
tally_places = refl

tally_one : words_request (codes "tally" ∷ codes "0" ∷ []) ≡ None
tally_one = refl

tally_far : words_request (codes "tally" ∷ codes "0" ∷ codes "4294967296" ∷ []) ≡ None
tally_far = refl

tally_block : words_request (codes "tally" ∷ codes "0" ∷ codes "1" ∷ codes "--block=2" ∷ []) ≡ None
tally_block = refl

groups_block : words_request (codes "groups" ∷ codes "--block" ∷ codes "1" ∷ []) ≡ asks Groups (record usual { block = Some (pos 1) })
groups_block = refl

serve_alone : words_request (codes "serve" ∷ []) ≡ asks (Serve false) usual
serve_alone = refl

serve_json : words_request (codes "--json" ∷ codes "serve" ∷ codes "--block=1" ∷ codes "--low=-64" ∷ [])
    ≡ asks (Serve true) (record usual { low = Some (negsuc 63); block = Some (pos 1) })
serve_json = refl

serve_loops : words_request (codes "serve" ∷ codes "--loops" ∷ []) ≡ None
serve_loops = refl

serve_number : words_request (codes "serve" ∷ codes "1" ∷ []) ≡ None
serve_number = refl

live_json : words_request (codes "live" ∷ codes "--json" ∷ []) ≡ None
live_json = refl

text_block : words_request (codes "text" ∷ codes "--block=64" ∷ []) ≡ None
text_block = refl

twice : words_request (codes "check" ∷ codes "--hold" ∷ codes "2" ∷ codes "--hold" ∷ codes "2" ∷ []) ≡ None
twice = refl

flag_after_dashes : words_request (codes "check" ∷ codes "--" ∷ codes "--json" ∷ []) ≡ None
flag_after_dashes = refl

plus_sign : words_request (codes "check" ∷ codes "--hold=+5" ∷ []) ≡ None
plus_sign = refl

eleven_digits : words_request (codes "check" ∷ codes "--hold=00000000005" ∷ []) ≡ None
eleven_digits = refl

empty_value : words_request (codes "check" ∷ codes "--hold=" ∷ []) ≡ None
empty_value = refl

lone_hyphen : words_request (codes "check" ∷ codes "--hold" ∷ codes "-" ∷ []) ≡ None
lone_hyphen = refl
