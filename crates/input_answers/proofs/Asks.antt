-- Words that ask for a command ask for no other, and aren't refused.
use Rattle.std.proofs.Common.{◌≡◌, ℕ, pos, List, Option, None, Some, refl, ap, sym, subst, ◌∙◌}
use Rattle.std.specs.Option.{option_map}
use Rattle.machine_profile.specs.declared.Chosen.{Chosen}
use Rattle.machine_profile.specs.declared.Options.{Options}
use Rattle.machine_profile.specs.Bounds.{IsChosen, refused_option}
use Rattle.command_words.specs.declared.command.Command.{Command}
use Rattle.command_words.specs.declared.command.Request.{Request}
use Rattle.command_words.specs.Request.{words_request}
use Rattle.input_answers.specs.Asked.{AreRefused, AsksCommand, outside, out_of_bounds}

same_request : (words : List (List ℕ)) (one other : Request) → words_request words ≡ Some one → words_request words ≡ Some other → one ≡ other
same_request words one other is also = let same : Some one ≡ Some other = sym is ∙ also in cc

-- words that ask for a command aren't refused
pub asked-lawful : (words : List (List ℕ)) (command : Command) (chosen : Chosen) → AsksCommand words command chosen → AreRefused words → ⊥
asked-lawful words command chosen ask (outside none) =
    let some = ask.in_grammar in
    let clash : Some ask.request ≡ None = sym some ∙ none in
    cc
asked-lawful words command chosen ask (out_of_bounds request which is beyond) =
    let same = same_request words ask.request request ask.in_grammar is in
    let clash : None ≡ Some which = sym ask.within ∙ ap (λ (r : Request). refused_option r.options) same ∙ beyond in
    cc

-- they ask for one command
pub asked-command : (words : List (List ℕ)) (command other : Command) (chosen limits : Chosen) → AsksCommand words command chosen → AsksCommand words other limits → other ≡ command
asked-command words command other chosen limits ask also =
    sym also.commands ∙ ap (λ (r : Request). r.command) (same_request words also.request ask.request also.in_grammar ask.in_grammar) ∙ ask.commands

pos_same : (n m : ℕ) → pos n ≡ pos m → n ≡ m
pos_same n m same = cc

float_same : (a b : Option ℕ) → option_map (λ (f : ℕ). pos f) a ≡ option_map (λ (f : ℕ). pos f) b → a ≡ b
float_same None None same = refl
float_same None (Some m) same = absurd (cc)
float_same (Some n) None same = absurd (cc)
float_same (Some n) (Some m) same =
    let e : n ≡ m = cc in
    ap Some e

same_values : (options : Options) (chosen limits : Chosen) → IsChosen options chosen → IsChosen options limits → limits ≡ chosen
same_values options chosen limits is also =
    let low = also.low ∙ sym is.low in
    let high = also.high ∙ sym is.high in
    let rack = pos_same limits.profile.rack chosen.profile.rack (also.rack ∙ sym is.rack) in
    let hold = pos_same limits.profile.hold chosen.profile.hold (also.hold ∙ sym is.hold) in
    let block = pos_same limits.block chosen.block (also.block ∙ sym is.block) in
    let float = float_same limits.profile.float chosen.profile.float (sym also.float ∙ is.float) in
    λ i. record { profile = record { low = low i; high = high i; rack = rack i; hold = hold i; float = float i }; block = block i }

-- with one choice of limits
pub asked-chosen : (words : List (List ℕ)) (command other : Command) (chosen limits : Chosen) → AsksCommand words command chosen → AsksCommand words other limits → limits ≡ chosen
asked-chosen words command other chosen limits ask also =
    same_values ask.request.options chosen limits ask.values
    (subst (λ (r : Request). IsChosen r.options limits) (same_request words also.request ask.request also.in_grammar ask.in_grammar) also.values)
