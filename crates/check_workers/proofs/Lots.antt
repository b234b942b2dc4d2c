-- What was prepared of texts, put together.
use Rattle.std.proofs.Common.{◌≡◌, ◌∙◌, ℕ, List, [], ◌∷◌, ◌++◌, ap, ap₂}
use Rattle.std.proofs.lemmas.List.{map-append}
use Rattle.std.proofs.lemmas.List.Elements.{All-append, All-cons, All-nil}
use Rattle.knit_base.specs.declared.setting.Setting.{Setting}
use Rattle.block_summary.specs.declared.prepared.Prepared.{Prepared}
use Rattle.block_summary.specs.Prepared.{IsPreparedFor}
use Rattle.check_workers.specs.Texts.{ArePrepared}

-- those of some texts, and after them those of others
pub both_prepared : (setting : Setting) (texts others : List (List (List ℕ))) (blocks more : List Prepared) → ArePrepared setting texts blocks → ArePrepared setting others more → ArePrepared setting (texts ++ others) (blocks ++ more)
both_prepared setting texts others blocks more first second = record {
  in_order = map-append (λ (block : Prepared). block.text) blocks more ∙ ap₂ (λ xs ys. xs ++ ys) first.in_order second.in_order;
  each = All-append (IsPreparedFor setting.profile setting.declared) blocks more first.each second.each;
}

-- and one more
pub one_more_prepared : (setting : Setting) (texts : List (List (List ℕ))) (text : List (List ℕ)) (blocks : List Prepared) (block : Prepared) → ArePrepared setting texts blocks → block.text ≡ text → IsPreparedFor setting.profile setting.declared block
    → ArePrepared setting (texts ++ text ∷ []) (blocks ++ block ∷ [])
one_more_prepared setting texts text blocks block before is this =
    both_prepared setting texts (text ∷ []) blocks (block ∷ []) before record {
      in_order = ap (λ t. t ∷ []) is;
      each = All-cons (IsPreparedFor setting.profile setting.declared) block [] this (All-nil (IsPreparedFor setting.profile setting.declared));
    }
