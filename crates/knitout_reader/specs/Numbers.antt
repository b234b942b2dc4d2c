-- Numbers in digits, needles and racks.
use Rattle.std.specs.Prelude.{◌≡◌, ◌≢◌, ◌⊎◌, ℕ, ◌+◌, ◌-◌, ◌*◌, ◌^◌, ◌<◌, ◌≤◌, ℤ, pos, ◌-ℤ◌, ◌≤ℤ◌, Bool, true, false, List, [], ◌++◌, length, fold, All, codes}
use Rattle.knit_base.specs.declared.needle.Bed.{Bed}
use Rattle.knit_base.specs.Spelling.{bed_word}

-- 0 to 9
abbrev pub IsDigit : ℕ → Type 0
IsDigit byte = (48 ≤ byte) × (byte ≤ 57)

-- one or more digits
abbrev pub AreDigits : List ℕ → Type 0
AreDigits text = (0 < length text) × All IsDigit text

-- the value of a list of digits
abbrev pub value_of_digits : List ℕ → ℕ
value_of_digits digits = fold (λ value digit. 10 * value + (digit - 48)) 0 digits

-- an optional sign and digits, and their value
abbrev pub IsSigned : List ℕ → ℤ → Type 0
IsSigned text z = (digits : List ℕ) × AreDigits digits
    × (((text ≡ digits) × (z ≡ pos (value_of_digits digits)))
    ⊎ ((text ≡ codes "+" ++ digits) × (z ≡ pos (value_of_digits digits)))
    ⊎ ((text ≡ codes "-" ++ digits) × (z ≡ pos 0 -ℤ pos (value_of_digits digits))))

-- a bed and a number
abbrev pub IsNeedle : List ℕ → Bed → ℤ → Type 0
IsNeedle token bed z = (number : List ℕ) × (token ≡ bed_word bed ++ number) × IsSigned number z

-- n is z, or both lie so far on the same side
abbrev pub IsNear : ℕ → ℤ → ℤ → Type 0
IsNear far n z = (n ≡ z) ⊎ ((pos far ≤ℤ n) × (pos far ≤ℤ z)) ⊎ ((n ≤ℤ (pos 0 -ℤ pos far)) × (z ≤ℤ (pos 0 -ℤ pos far)))

-- an optional sign, and whether it is a `-`
abbrev pub IsSign : List ℕ → Bool → Type 0
IsSign sign false = (sign ≡ []) ⊎ (sign ≡ codes "+")
IsSign sign true = sign ≡ codes "-"

-- any byte but the point
abbrev pub IsNoPoint : ℕ → Type 0
IsNoPoint byte = byte ≢ 46

-- digits; or digits, a point and none or more digits; or a point and one or more digits
abbrev pub IsDecimal : List ℕ → List ℕ → List ℕ → Type 0
IsDecimal text whole fraction = All IsDigit whole × All IsDigit fraction
    × (((text ≡ whole) × (fraction ≡ []) × (0 < length whole))
    ⊎ ((text ≡ whole ++ (codes "." ++ fraction)) × (0 < length whole + length fraction)))

-- A rack: its sign, and the digits before and behind the point. Its value is the number of the whole and that of the
-- fraction over 10 to the power of the fraction's length.
abbrev pub IsRack : List ℕ → Bool → List ℕ → List ℕ → Type 0
IsRack token negative whole fraction = (sign : List ℕ) × (text : List ℕ)
    × (token ≡ sign ++ text) × IsSign sign negative × IsDecimal text whole fraction

-- the fraction is so many quarters
abbrev pub IsQuarter : List ℕ → ℕ → Type 0
IsQuarter fraction q = 4 * value_of_digits fraction ≡ q * 10 ^ length fraction

-- a rack in quarters
abbrev pub rack_quarters : Bool → List ℕ → ℕ → ℤ
rack_quarters false whole q = pos (4 * value_of_digits whole + q)
rack_quarters true whole q = pos 0 -ℤ pos (4 * value_of_digits whole + q)
