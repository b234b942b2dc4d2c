-- The carriers that a report names.
use Rattle.std.specs.Prelude.{ℕ, List, [], map, filter, unwrap_or, slice_get}
use Rattle.std.specs.List.{range_with_len}
use Rattle.knit_base.specs.Yarns.{contains_carrier}
use Rattle.knit_base.specs.declared.yarns.CarrierNo.{CarrierNo}

-- the carrier with this number
abbrev pub carrier : ℕ → CarrierNo
carrier number = record { 0 = number }

-- the carriers of a set, of so many that are declared, in the order of the header
abbrev pub carriers_of_set : ℕ → ℕ → List CarrierNo
carriers_of_set declared set = filter (contains_carrier set) (map carrier (range_with_len 0 declared))

-- the name of a carrier, where the names stand in the order of the header. One that isn't declared has none
abbrev pub carrier_name_of : List (List ℕ) → CarrierNo → List ℕ
carrier_name_of names c = unwrap_or (slice_get names c.0) []
