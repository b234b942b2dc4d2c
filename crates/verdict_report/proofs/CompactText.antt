-- The text that is written piece by piece is the compact text of the verdict's value.
use Rattle.std.proofs.Common.{◌≡◌, ◌∙◌, ℕ, true, Option, None, Some, List, [], ◌∷◌, ◌++◌, length, map, codes, decimal, unwrap_or, refl, sym, ap, ap₂, append_assoc}
use Rattle.std.specs.List.{slice_get}
use Rattle.std.specs.Option.{option_map}
use Rattle.std.proofs.lemmas.List.{length-map}
use Rattle.std.proofs.lemmas.Option.{slice_get-map}
use Rattle.json.specs.Print.{escape_byte, quoted}
use Rattle.serde_json.specs.Data.{Data, Members, member, no_members, string}
use Rattle.serde_json.specs.View.{items_of}
use Rattle.serde_json.specs.Written.{compact_text, items_text, members_text}
use Rattle.knit_base.specs.Spelling.{dir_word, needle_text, rack_text, rule_name}
use Rattle.knit_base.specs.declared.rule.Fault.{Fault}
use Rattle.knit_base.specs.declared.yarns.CarrierNo.{CarrierNo}
use Rattle.carriage_model.specs.declared.verdict.Final.{Final}
use Rattle.carriage_model.specs.declared.verdict.LoopFact.{LoopFact}
use Rattle.carriage_model.specs.declared.verdict.Stack.{Stack}
use Rattle.carriage_model.specs.declared.verdict.Verdict.{Verdict}
use Rattle.carriage_model.specs.declared.verdict.Verdict.TheVariants.{Sound, Broken}
use Rattle.carriage_model.specs.Verdict.{held_on}
use Rattle.verdict_report.specs.Carriers.{carriers_of_set}
use Rattle.verdict_report.specs.VerdictText.{Text}
use Rattle.verdict_report.specs.VerdictJson.{broken_value, count_value, list_value, loop_value, name_value, set_value, sound_value, stack_value, verdict_json, with_loops}
use Rattle.verdict_report.specs.JsonText.{broken_back, broken_front, verdict_json_line, list_text, loop_json, loop_place, loops_member, more_text, sound_back, sound_front, stack_json, string_of}
use Rattle.verdict_report.proofs.PlainText.{dir_plain, needle_plain, quoted-plain, rack_plain, rule_plain}

-- ---- lists

more_is : {A : Type 0} (text : A → Text) (value : A → Data) → ((x : A) → text x ≡ compact_text (value x)) → (xs : List A)
    → more_text text xs ++ 93 ∷ [] ≡ items_text true (items_of (map value xs))
more_is text value same [] = refl
more_is text value same (x ∷ xs) =
    ap (λ t. 44 ∷ t) (append_assoc (text x) (more_text text xs) (93 ∷ []) ∙ ap₂ (λ (s t : Text). s ++ t) (same x) (more_is text value same xs))

list_is : {A : Type 0} (text : A → Text) (value : A → Data) → ((x : A) → text x ≡ compact_text (value x)) → (xs : List A)
    → list_text text xs ≡ compact_text (list_value value xs)
list_is text value same [] = refl
list_is text value same (x ∷ xs) = ap (λ t. 91 ∷ t) (ap₂ (λ (s t : Text). s ++ t) (same x) (more_is text value same xs))

lines_is : (lines : List ℕ) → list_text decimal lines ≡ compact_text (list_value count_value lines)
lines_is lines = list_is decimal count_value (λ line. refl) lines

-- ---- names

default_string : (name : Option Text) → unwrap_or (option_map quoted name) (codes "\"\"") ≡ quoted (unwrap_or name [])
default_string None = refl
default_string (Some name) = refl

string_is : (names : List Text) (c : CarrierNo) → string_of (map quoted names) c ≡ compact_text (name_value names c)
string_is names c = ap (λ name. unwrap_or name (codes "\"\"")) (slice_get-map quoted names c.0) ∙ default_string (slice_get names c.0)

names_is : (names : List Text) (cs : List CarrierNo) → list_text (string_of (map quoted names)) cs ≡ compact_text (list_value (name_value names) cs)
names_is names cs = list_is (string_of (map quoted names)) (name_value names) (string_is names) cs

abbrev set_list : List Text → ℕ → Text
set_list names set = list_text (string_of (map quoted names)) (carriers_of_set (length (map quoted names)) set)

set_is : (names : List Text) (set : ℕ) → set_list names set ≡ compact_text (set_value names set)
set_is names set =
    ap (λ n. list_text (string_of (map quoted names)) (carriers_of_set n set)) (length-map names quoted)
    ∙ names_is names (carriers_of_set (length names) set)

-- ---- needles and their loops

stack_shape : (loops needle : Text) → (codes "{\"loops\":" ++ loops) ++ ((codes ",\"needle\":\"" ++ (needle ++ codes "\"")) ++ codes "}")
    ≡ 123 ∷ (quoted (codes "loops") ++ 58 ∷ (loops ++ 44 ∷ (quoted (codes "needle") ++ 58 ∷ ((34 ∷ (needle ++ 34 ∷ [])) ++ 125 ∷ []))))
unfolding escape_byte
stack_shape loops needle = simp append_assoc

stack_is : (stack : Stack) → stack_json stack ≡ compact_text (stack_value stack)
unfolding stack_json
stack_is stack =
    stack_shape (list_text decimal stack.loops) (needle_text stack.needle)
    ∙ ap₂ (λ (loops needle : Text). 123 ∷ (quoted (codes "loops") ++ 58 ∷ (loops ++ 44 ∷ (quoted (codes "needle") ++ 58 ∷ (needle ++ 125 ∷ [])))))
    (lines_is stack.loops) (sym (quoted-plain (needle_text stack.needle) (needle_plain stack.needle)))

-- ---- loops

loop_shape : (dir line needle through yarns : Text)
    → ((codes "{\"dir\":\"" ++ (dir ++ codes "\"")) ++ ((codes ",\"line\":" ++ line) ++ (codes ",\"needle\":\"" ++ (needle ++ codes "\""))))
    ++ ((codes ",\"through\":" ++ through) ++ ((codes ",\"yarns\":" ++ yarns) ++ codes "}"))
    ≡ 123 ∷ (quoted (codes "dir") ++ 58 ∷ ((34 ∷ (dir ++ 34 ∷ [])) ++ 44 ∷ (quoted (codes "line") ++ 58 ∷ (line ++ 44 ∷ (quoted (codes "needle") ++ 58 ∷ ((34 ∷ (needle ++ 34 ∷ []))
    ++ 44 ∷ (quoted (codes "through") ++ 58 ∷ (through ++ 44 ∷ (quoted (codes "yarns") ++ 58 ∷ (yarns ++ 125 ∷ []))))))))))
unfolding escape_byte
loop_shape dir line needle through yarns = simp append_assoc

loop_is : (names : List Text) (fact : LoopFact) → loop_json (map quoted names) fact ≡ compact_text (loop_value names fact)
unfolding loop_json loop_place
loop_is names fact =
    loop_shape (dir_word fact.dir) (decimal fact.line) (needle_text fact.needle) (list_text decimal fact.through) (list_text (string_of (map quoted names)) fact.yarns)
    ∙ ap₂ (λ (dir needle : Text). 123 ∷ (quoted (codes "dir") ++ 58 ∷ (dir ++ 44 ∷ (quoted (codes "line") ++ 58 ∷ (decimal fact.line ++ 44 ∷ (quoted (codes "needle") ++ 58 ∷ (needle
    ++ 44 ∷ (quoted (codes "through") ++ 58 ∷ (list_text decimal fact.through ++ 44 ∷ (quoted (codes "yarns") ++ 58 ∷ (list_text (string_of (map quoted names)) fact.yarns ++ 125 ∷ [])))))))))))
    (sym (quoted-plain (dir_word fact.dir) (dir_plain fact.dir))) (sym (quoted-plain (needle_text fact.needle) (needle_plain fact.needle)))
    ∙ ap₂ (λ (through yarns : Text). 123 ∷ (quoted (codes "dir") ++ 58 ∷ (quoted (dir_word fact.dir) ++ 44 ∷ (quoted (codes "line") ++ 58 ∷ (decimal fact.line ++ 44 ∷ (quoted (codes "needle") ++ 58 ∷ (quoted (needle_text fact.needle)
    ++ 44 ∷ (quoted (codes "through") ++ 58 ∷ (through ++ 44 ∷ (quoted (codes "yarns") ++ 58 ∷ (yarns ++ 125 ∷ [])))))))))))
    (lines_is fact.through) (names_is names fact.yarns)

made_is : (names : List Text) (facts : Option (List LoopFact)) (rest : Members)
    → loops_member (map quoted names) facts ++ members_text true rest ≡ members_text true (with_loops names facts rest)
unfolding escape_byte
made_is names None rest = refl
made_is names (Some facts) rest =
    ap (λ t. (codes ",\"made_loops\":" ++ t) ++ members_text true rest) (list_is (loop_json (map quoted names)) (loop_value names) (loop_is names) facts)
    ∙ append_assoc (codes ",\"made_loops\":") (compact_text (list_value (loop_value names) facts)) (members_text true rest)

-- ---- a sound verdict

five_and_rest : (a b c d e rest : Text) → (a ++ (b ++ (c ++ (d ++ e)))) ++ rest ≡ a ++ (b ++ (c ++ (d ++ (e ++ rest))))
five_and_rest a b c d e rest = simp append_assoc

front_shape : (held hook ins lines made rest : Text)
    → ((codes "{\"held\":" ++ held) ++ ((codes ",\"hook\":" ++ hook) ++ ((codes ",\"in\":" ++ ins) ++ ((codes ",\"lines\":" ++ lines) ++ (codes ",\"made\":" ++ made))))) ++ rest
    ≡ 123 ∷ (quoted (codes "held") ++ 58 ∷ (held ++ 44 ∷ (quoted (codes "hook") ++ 58 ∷ (hook ++ 44 ∷ (quoted (codes "in") ++ 58 ∷ (ins
    ++ 44 ∷ (quoted (codes "lines") ++ 58 ∷ (lines ++ 44 ∷ (quoted (codes "made") ++ 58 ∷ (made ++ rest))))))))))
unfolding escape_byte
front_shape held hook ins lines made rest =
    five_and_rest (codes "{\"held\":" ++ held) (codes ",\"hook\":" ++ hook) (codes ",\"in\":" ++ ins) (codes ",\"lines\":" ++ lines) (codes ",\"made\":" ++ made) rest

back_shape : (needles rack : Text) → (codes ",\"needles\":" ++ needles) ++ (codes ",\"rack\":\"" ++ (rack ++ codes "\",\"verdict\":\"sound\"}"))
    ≡ 44 ∷ (quoted (codes "needles") ++ 58 ∷ (needles ++ 44 ∷ (quoted (codes "rack") ++ 58 ∷ ((34 ∷ (rack ++ 34 ∷ []))
    ++ 44 ∷ (quoted (codes "verdict") ++ 58 ∷ (quoted (codes "sound") ++ 125 ∷ []))))))
unfolding escape_byte
back_shape needles rack = simp append_assoc

abbrev sound_rest : Final → Members
sound_rest final = member (codes "needles") (list_value stack_value final.stacks)
    (member (codes "rack") (string (rack_text final.rack.0)) (member (codes "verdict") (string (codes "sound")) no_members))

back_is : (final : Final) → sound_back final ≡ members_text true (sound_rest final)
back_is final =
    back_shape (list_text stack_json final.stacks) (rack_text final.rack.0)
    ∙ ap₂ (λ (needles rack : Text). 44 ∷ (quoted (codes "needles") ++ 58 ∷ (needles ++ 44 ∷ (quoted (codes "rack") ++ 58 ∷ (rack
    ++ 44 ∷ (quoted (codes "verdict") ++ 58 ∷ (quoted (codes "sound") ++ 125 ∷ [])))))))
    (list_is stack_json stack_value stack_is final.stacks) (sym (quoted-plain (rack_text final.rack.0) (rack_plain final.rack.0)))

sound_is : (names : List Text) (final : Final) (facts : Option (List LoopFact))
    → sound_front (map quoted names) final ++ (loops_member (map quoted names) facts ++ sound_back final) ≡ compact_text (sound_value names final facts)
sound_is names final facts =
    ap (λ t. sound_front (map quoted names) final ++ (loops_member (map quoted names) facts ++ t)) (back_is final)
    ∙ ap (λ t. sound_front (map quoted names) final ++ t) (made_is names facts (sound_rest final))
    ∙ front_shape (decimal (held_on final.stacks)) (set_list names final.hook) (set_list names final.ins) (decimal final.lines) (decimal final.made) (members_text true (with_loops names facts (sound_rest final)))
    ∙ ap₂ (λ (hook ins : Text). 123 ∷ (quoted (codes "held") ++ 58 ∷ (decimal (held_on final.stacks) ++ 44 ∷ (quoted (codes "hook") ++ 58 ∷ (hook ++ 44 ∷ (quoted (codes "in") ++ 58 ∷ (ins
    ++ 44 ∷ (quoted (codes "lines") ++ 58 ∷ (decimal final.lines ++ 44 ∷ (quoted (codes "made") ++ 58 ∷ (decimal final.made ++ members_text true (with_loops names facts (sound_rest final)))))))))))))
    (set_is names final.hook) (set_is names final.ins)

-- ---- a broken verdict

broken_front_shape : (at line rest : Text) → ((codes "{\"at\":" ++ at) ++ (codes ",\"line\":" ++ line)) ++ rest
    ≡ 123 ∷ (quoted (codes "at") ++ 58 ∷ (at ++ 44 ∷ (quoted (codes "line") ++ 58 ∷ (line ++ rest))))
unfolding escape_byte
broken_front_shape at line rest = simp append_assoc

broken_back_shape : (rule line : Text) → codes ",\"rule\":\"" ++ (rule ++ (codes "\",\"text\":" ++ (line ++ codes ",\"verdict\":\"broken\"}")))
    ≡ 44 ∷ (quoted (codes "rule") ++ 58 ∷ ((34 ∷ (rule ++ 34 ∷ [])) ++ 44 ∷ (quoted (codes "text") ++ 58 ∷ (line
    ++ 44 ∷ (quoted (codes "verdict") ++ 58 ∷ (quoted (codes "broken") ++ 125 ∷ []))))))
unfolding escape_byte
broken_back_shape rule line = simp append_assoc

abbrev broken_rest : Text → Fault → Members
broken_rest line fault = member (codes "rule") (string (rule_name fault.reason.rule))
    (member (codes "text") (string line) (member (codes "verdict") (string (codes "broken")) no_members))

broken_back_is : (line : Text) (fault : Fault) → broken_back line fault.reason.rule ≡ members_text true (broken_rest line fault)
broken_back_is line fault =
    broken_back_shape (rule_name fault.reason.rule) (quoted line)
    ∙ ap (λ rule. 44 ∷ (quoted (codes "rule") ++ 58 ∷ (rule ++ 44 ∷ (quoted (codes "text") ++ 58 ∷ (quoted line
    ++ 44 ∷ (quoted (codes "verdict") ++ 58 ∷ (quoted (codes "broken") ++ 125 ∷ [])))))))
    (sym (quoted-plain (rule_name fault.reason.rule) (rule_plain fault.reason.rule)))

broken_is : (names : List Text) (line : Text) (fault : Fault) (facts : Option (List LoopFact))
    → broken_front fault ++ (loops_member (map quoted names) facts ++ broken_back line fault.reason.rule) ≡ compact_text (broken_value names line fault facts)
broken_is names line fault facts =
    ap (λ t. broken_front fault ++ (loops_member (map quoted names) facts ++ t)) (broken_back_is line fault)
    ∙ ap (λ t. broken_front fault ++ t) (made_is names facts (broken_rest line fault))
    ∙ broken_front_shape (decimal fault.reason.at) (decimal fault.line) (members_text true (with_loops names facts (broken_rest line fault)))

-- ---- the whole

line_shape : (front made back : Text) → front ++ (made ++ (back ++ codes "\n")) ≡ (front ++ (made ++ back)) ++ codes "\n"
line_shape front made back = simp append_assoc

-- the text that is written piece by piece is the report
pub line_is : (names : List Text) (line : Text) (verdict : Verdict) (facts : Option (List LoopFact))
    → verdict_json_line (map quoted names) line verdict facts ≡ verdict_json names line verdict facts
line_is names line (Sound final) facts =
    line_shape (sound_front (map quoted names) final) (loops_member (map quoted names) facts) (sound_back final)
    ∙ ap (λ t. t ++ codes "\n") (sound_is names final facts)
line_is names line (Broken fault) facts =
    line_shape (broken_front fault) (loops_member (map quoted names) facts) (broken_back line fault.reason.rule)
    ∙ ap (λ t. t ++ codes "\n") (broken_is names line fault facts)
