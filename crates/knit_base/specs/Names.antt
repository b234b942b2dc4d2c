-- The names of carriers.
use Rattle.std.specs.Prelude.{◌≢◌, ℕ, ◌+◌, ◌++◌, ◌<◌, ◌≤◌, List, length, Option, codes, flat_map, position, sum_by, All, AllPairs}
use Rattle.std.specs.Option.{option_map}
use Rattle.std.specs.Str.{bytes_eq}
use Rattle.knit_base.specs.declared.yarns.CarrierNo.{CarrierNo}

-- the carrier with this name: its place among the names
abbrev pub carrier_of : List (List ℕ) → List ℕ → Option CarrierNo
carrier_of names name = option_map (λ i. record { 0 = i }) (position (bytes_eq name) names)

-- neither a blank nor the end of a line
abbrev pub IsNameByte : ℕ → Type 0
IsNameByte byte = (byte ≢ 32) × (byte ≢ 9) × (byte ≢ 10)

-- a name is a run without blanks and line ends, and not empty
pub record IsName (name : List ℕ) : Type 0 where
  pub some : 0 < length name
  pub plain : All IsNameByte name

-- the bytes of the names, with a space for each
abbrev pub names_len : List (List ℕ) → ℕ
names_len names = sum_by (λ name. length name + 1) names

-- a name behind a space
abbrev pub name_behind_space : List ℕ → List ℕ
name_behind_space name = codes " " ++ name

-- the names, each behind a space
abbrev pub spaced_names : List (List ℕ) → List ℕ
spaced_names names = flat_map name_behind_space names

-- the line of a header with these names
abbrev pub header_line : List (List ℕ) → List ℕ
header_line names = codes ";;Carriers:" ++ spaced_names names

-- The names that a header may declare: at most 64, no two the same, and not too long together.
pub record AreNames (names : List (List ℕ)) : Type 0 where
  pub few : length names ≤ 64
  pub differ : AllPairs (λ name later. name ≢ later) names
  pub each : All IsName names
  pub room : names_len names ≤ 65524
