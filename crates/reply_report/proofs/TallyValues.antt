-- The carriers and needles of a tally as JSON, one by one.
use Rattle.std.proofs.Common.{◌≡◌, ◌∙◌, ℕ, ◌+◌, ◌<◌, ◌≤◌, Bool, true, Some, List, [], ◌∷◌, ◌++◌, length, drop, add-one, drop-cons, get_or, ap, sym, append_assoc}
use Rattle.std.specs.List.{slice_get}
use Rattle.std.proofs.lemmas.List.{drop_all}
use Rattle.serde_json.specs.View.{items_of}
use Rattle.serde_json.specs.Written.{comma_if, compact_text, items_text}
use Rattle.knit_base.specs.Spelling.{needle_text}
use Rattle.knit_base.specs.declared.needle.Needle.{Needle}
use Rattle.knit_base.proofs.Rests.{rest-at}
use Rattle.verdict_report.specs.VerdictText.{Text}
use Rattle.verdict_report.proofs.PlainText.{needle_plain, quoted-plain}
use Rattle.reply_report.specs.TallyJson.{carrier_value, carrier_values, needle_string}
use Rattle.reply_report.proofs.JsonMembers.{item_shape}

quotes_shape : (old text : Text) → ((old ++ 34 ∷ []) ++ text) ++ 34 ∷ [] ≡ old ++ 34 ∷ (text ++ 34 ∷ [])
quotes_shape old text = simp append_assoc

-- a needle was written between two quotes
pub needle-quoted : (needle : Needle) (old opened spelt new : Text) → opened ≡ old ++ 34 ∷ [] → spelt ≡ opened ++ needle_text needle → new ≡ spelt ++ 34 ∷ [] → new ≡ old ++ needle_string needle
needle-quoted needle old opened spelt new is_opened is_spelt is_new =
    is_new
    ∙ (ap (λ (t : Text). t ++ 34 ∷ []) is_spelt
    ∙ (ap (λ (t : Text). (t ++ needle_text needle) ++ 34 ∷ []) is_opened
    ∙ (quotes_shape old (needle_text needle) ∙ ap (λ t. old ++ t) (sym (quoted-plain (needle_text needle) (needle_plain needle))))))

-- a carrier was written, behind a comma where one stands before
pub carrier-written : (names : List Text) (numbers : List ℕ) (at n d : ℕ) (name : Text) (later : Bool) (old parted new : Text) → slice_get names at ≡ Some name → at < length numbers → n ≡ get_or numbers at d
    → parted ≡ old ++ comma_if later → new ≡ parted ++ compact_text (carrier_value name n)
    → new ++ items_text true (items_of (carrier_values (drop (at + 1) names) (drop (at + 1) numbers))) ≡ old ++ items_text later (items_of (carrier_values (drop at names) (drop at numbers)))
carrier-written names numbers at n d name later old parted new named within is_n is_parted is_new =
    let rest : Text = items_text true (items_of (carrier_values (drop (at + 1) names) (drop (at + 1) numbers))) in
    let left : drop at numbers ≡ n ∷ drop (at + 1) numbers =
    drop-cons numbers at d within ∙ (λ i. sym is_n i ∷ drop (sym (add-one at) i) numbers) in
    ap (λ (t : Text). t ++ rest) is_new
    ∙ (ap (λ (t : Text). (t ++ compact_text (carrier_value name n)) ++ rest) is_parted
    ∙ (item_shape old (comma_if later) (compact_text (carrier_value name n)) rest
    ∙ (λ i. old ++ items_text later (items_of (carrier_values (sym (rest-at names at name named) i) (sym left i))))))

-- all carriers were written
pub carriers-all : (names : List Text) (numbers : List ℕ) (at : ℕ) (later : Bool) (out whole : Text) → length names ≤ at
    → out ++ items_text later (items_of (carrier_values (drop at names) (drop at numbers))) ≡ whole → out ++ 93 ∷ [] ≡ whole
carriers-all names numbers at later out whole past is =
    ap (λ left. out ++ items_text later (items_of (carrier_values left (drop at numbers)))) (sym (drop_all at names past)) ∙ is
