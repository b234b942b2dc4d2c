-- Members and items of JSON, written one by one.
use Rattle.std.proofs.Common.{◌≡◌, ◌∙◌, ℕ, ◌+◌, ◌-◌, ◌≤◌, Bool, true, false, Some, List, [], ◌∷◌, ◌++◌, drop, length, map, ap, ap₂, sym, refl, append_assoc, take, codes, arith, length-append}
use Rattle.std.specs.List.{slice_get}
use Rattle.json.specs.Print.{quoted}
use Rattle.serde_json.specs.Data.{Data, Items, Members, object}
use Rattle.serde_json.specs.View.{items_of}
use Rattle.serde_json.specs.Written.{comma_if, compact_text, items_text, members_text}
use Rattle.std.proofs.lemmas.List.{drop_all}
use Rattle.std.proofs.Math.Seq.{take-append_seam}
use Rattle.knit_base.proofs.Rests.{rest-at}
use Rattle.verdict_report.specs.JsonText.{list_text, more_text}
use Rattle.verdict_report.specs.VerdictJson.{list_value}
use Rattle.verdict_report.specs.VerdictText.{Text}

member_shape : (old comma key value rest : Text) → ((old ++ (comma ++ (key ++ 58 ∷ []))) ++ value) ++ rest ≡ old ++ (comma ++ (key ++ 58 ∷ (value ++ rest)))
member_shape old comma key value rest = simp append_assoc

-- a member was written: its key, and then its value
pub member-written : (later : Bool) (key value old keyed new : Text) → keyed ≡ old ++ (comma_if later ++ (quoted key ++ 58 ∷ [])) → new ≡ keyed ++ value → (rest : Members)
    → new ++ members_text true rest ≡ old ++ (comma_if later ++ (quoted key ++ 58 ∷ (value ++ members_text true rest)))
member-written later key value old keyed new is_keyed is_new rest =
    ap (λ (t : Text). t ++ members_text true rest) is_new
    ∙ (ap (λ (t : Text). (t ++ value) ++ members_text true rest) is_keyed
    ∙ member_shape old (comma_if later) (quoted key) value (members_text true rest))

-- an object was written, from its bracket to its end
pub object-written : (old opened new : Text) (ms : Members) → opened ≡ old ++ 123 ∷ [] → new ≡ opened ++ members_text false ms → new ≡ old ++ compact_text (object ms)
object-written old opened new ms is_opened is_new =
    is_new ∙ (ap (λ (t : Text). t ++ members_text false ms) is_opened ∙ append_assoc old (123 ∷ []) (members_text false ms))

-- what was written behind another text, in turn
pub item_shape : (old comma value rest : Text) → ((old ++ comma) ++ value) ++ rest ≡ old ++ (comma ++ (value ++ rest))
item_shape old comma value rest = simp append_assoc

-- an item was written, behind a comma where one stands before
pub item-written : {A : Type 0} (value : A → Data) (xs : List A) (at : ℕ) (x : A) (later : Bool) (old parted new : Text) → slice_get xs at ≡ Some x → parted ≡ old ++ comma_if later
    → new ≡ parted ++ compact_text (value x) → new ++ items_text true (items_of (map value (drop (at + 1) xs))) ≡ old ++ items_text later (items_of (map value (drop at xs)))
item-written value xs at x later old parted new found is_parted is_new =
    let rest : Text = items_text true (items_of (map value (drop (at + 1) xs))) in
    ap (λ (t : Text). t ++ rest) is_new
    ∙ (ap (λ (t : Text). (t ++ compact_text (value x)) ++ rest) is_parted
    ∙ (item_shape old (comma_if later) (compact_text (value x)) rest
    ∙ ap (λ ys. old ++ items_text later (items_of (map value ys))) (sym (rest-at xs at x found))))

-- all items were written
pub items-all : {A : Type 0} (value : A → Data) (xs : List A) (at : ℕ) (later : Bool) (out whole : Text) → length xs ≤ at
    → out ++ items_text later (items_of (map value (drop at xs))) ≡ whole → out ++ 93 ∷ [] ≡ whole
items-all value xs at later out whole past is = ap (λ ys. out ++ items_text later (items_of (map value ys))) (sym (drop_all at xs past)) ∙ is

-- a list was written: its bracket, its items, and its other bracket
pub list-written : (old opened written new : Text) (ds : Items) → opened ≡ old ++ 91 ∷ [] → written ++ 93 ∷ [] ≡ opened ++ items_text false ds → new ≡ written ++ 93 ∷ []
    → new ≡ old ++ (91 ∷ items_text false ds)
list-written old opened written new ds is_opened is_written is_new =
    is_new ∙ (is_written ∙ (ap (λ (t : Text). t ++ items_text false ds) is_opened ∙ append_assoc old (91 ∷ []) (items_text false ds)))

more-is : {A : Type 0} (text : A → Text) (value : A → Data) → ((x : A) → text x ≡ compact_text (value x)) → (xs : List A)
    → more_text text xs ++ 93 ∷ [] ≡ items_text true (items_of (map value xs))
more-is text value same [] = refl
more-is text value same (x ∷ xs) =
    ap (λ t. 44 ∷ t) (append_assoc (text x) (more_text text xs) (93 ∷ []) ∙ ap₂ (λ (s t : Text). s ++ t) (same x) (more-is text value same xs))

-- a list that is written item by item is the text of its value
pub list-is : {A : Type 0} (text : A → Text) (value : A → Data) → ((x : A) → text x ≡ compact_text (value x)) → (xs : List A) → list_text text xs ≡ compact_text (list_value value xs)
list-is text value same [] = refl
list-is text value same (x ∷ xs) = ap (λ t. 91 ∷ t) (ap₂ (λ (s t : Text). s ++ t) (same x) (more-is text value same xs))

-- the end of a line was taken off
pub without-end : (value text left : Text) (n : ℕ) → n ≡ length text → text ≡ value ++ codes "\n" → left ≡ take (n - 1) text → left ≡ value
without-end value text left n is_n is_text is_left =
    let short : n - 1 ≡ length value = omega (arith, is_n, ap length is_text, length-append value (codes "\n")) in
    is_left ∙ ((λ i. take (short i) (is_text i)) ∙ take-append_seam value (codes "\n"))
