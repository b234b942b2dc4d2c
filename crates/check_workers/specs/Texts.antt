-- Texts of blocks, and what is prepared of them.
use Rattle.std.specs.Prelude.{◌≡◌, ℕ, Bool, List, All, length, map, nat_lt}
use Rattle.knit_base.specs.declared.setting.Setting.{Setting}
use Rattle.block_summary.specs.declared.prepared.Prepared.{Prepared}
use Rattle.block_summary.specs.Prepared.{IsPreparedFor}

-- the text has more lines than a block may have
abbrev pub is_too_long : List (List ℕ) → Bool
is_too_long text = nat_lt 4096 (length text)

-- the blocks are made of the texts, in their order, each prepared for the setting
pub record ArePrepared (setting : Setting) (texts : List (List (List ℕ))) (blocks : List Prepared) : Type 0 where
  pub in_order : map (λ block. block.text) blocks ≡ texts
  pub each : All (IsPreparedFor setting.profile setting.declared) blocks
