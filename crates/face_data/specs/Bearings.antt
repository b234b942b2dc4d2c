-- What an earlier condition that holds says of a later one.
use Rattle.std.specs.Prelude.{Bool, true, false, ◌&&◌, nat_eq, nat_le, List}
use Rattle.std.specs.List.{list_any, list_all}
use Rattle.std.specs.Ordering.{int_eq}
use Rattle.knit_base.specs.declared.needle.Needle.{Needle}
use Rattle.knit_base.specs.Needle.{same_needle}
use Rattle.knit_base.specs.Yarns.{lacks_carrier}
use Rattle.face_data.specs.declared.bearing.Bearing.{Bearing}
use Rattle.face_data.specs.declared.bearing.Bearing.TheVariants.{Implied, Refuted, Silent}
use Rattle.face_data.specs.Conditions.{Ask}
use Rattle.face_data.specs.Conditions.Ask.{rack_is, carrier_in, carrier_out, hook_free, hook_is, hook_lacks, size_at_most, last_near}

-- this bearing, where the test passes
abbrev pub if_so : Bool → Bearing → Bearing
if_so true bearing = bearing
if_so false bearing = Silent

-- conditions that ask for a value: the same value, or another
abbrev pub same_or_not : Bool → Bearing
same_or_not true = Implied
same_or_not false = Refuted

-- each needle of the later list stands in the earlier one
abbrev pub all_in : List Needle → List Needle → Bool
all_in later earlier = list_all (λ n. list_any (same_needle n) earlier) later

-- what the first condition says of the second, where the first holds
unfoldable pub bearing : Ask → Ask → Bearing
bearing (rack_is p) (rack_is q) = same_or_not (int_eq p q)
bearing (carrier_in c) (carrier_in d) = if_so (nat_eq c.0 d.0) Implied
bearing (carrier_in c) (carrier_out d) = if_so (nat_eq c.0 d.0) Refuted
bearing (carrier_out c) (carrier_out d) = if_so (nat_eq c.0 d.0) Implied
bearing (carrier_out c) (carrier_in d) = if_so (nat_eq c.0 d.0) Refuted
bearing hook_free hook_free = Implied
bearing hook_free (hook_is set) = same_or_not (nat_eq 0 set)
bearing hook_free (hook_lacks c) = Implied
bearing (hook_is set) hook_free = same_or_not (nat_eq set 0)
bearing (hook_is set) (hook_is other) = same_or_not (nat_eq set other)
bearing (hook_is set) (hook_lacks c) = if_so (lacks_carrier set c) Implied
bearing (hook_lacks c) (hook_lacks d) = if_so (nat_eq c.0 d.0) Implied
bearing (size_at_most earlier least) (size_at_most later most) = if_so (all_in later earlier && nat_le least most) Implied
bearing (last_near c n f) (last_near d m g) = if_so (nat_eq c.0 d.0 && (int_eq n m && nat_eq f g)) Implied
bearing p q = Silent
