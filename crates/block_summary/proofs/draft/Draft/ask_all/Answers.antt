-- The parts of an instruction's conditions, asked one after the other.
use Rattle.std.proofs.Common.{◌≡◌, ◌++◌, None, Some, map, refl}
use Rattle.std.proofs.lemmas.Result.{IfOk-weaker}
use Rattle.knit_base.specs.Instr.{forming_needle}
use Rattle.carrier_rules.specs.Carriers.{early_of}
use Rattle.block_summary.specs.LineSummaries.{near_asked, plainly_asked, rack_asked, sizes_asked, slider_asked}
use Rattle.block_summary.proofs.LineSteps.{both_asked, early_were_asked, first_stops, floats_were_asked, rack_was_asked, same_changes_after, sizes_were_asked, slider_was_asked, stops_early, then_rack}
use Rattle.block_summary.proofs.draft.Draft.ask_all.Goals as goal

pub returns-in-Some : goal.returns-in-Some
returns-in-Some c profile instr is =
    let old = c.args.self.now in
    stops_early profile instr old c.ask_early.new.self c.in-Some.reason
    (early_were_asked profile instr c.args.ask.now old.changes c.as_slice.result.now old c.ask_early.new.self c.in_ok-reason.field-0 (Some c.in-Some.reason) is c.as_slice.ensures.items c.in_ok-reason.ensures c.in-Some.is)

pub returns-in-Some-2 : goal.returns-in-Some-2
returns-in-Some-2 c profile instr is =
    let old = c.args.self.now in
    let ask = c.args.ask.now in
    let one = c.ask_early.new.self in
    let two = c.ask_rack.new.self in
    let early = early_were_asked profile instr ask old.changes c.as_slice.result.now old one c.in_ok-reason.field-0 None is c.as_slice.ensures.items c.in_ok-reason.ensures c.in_default.is in
    then_rack profile instr old one two (Some c.in-Some-2.reason) early
    (first_stops one two (rack_asked instr) (slider_asked (forming_needle instr) ++ (sizes_asked profile.hold instr ++ near_asked profile.float instr)) c.in-Some-2.reason
    (rack_was_asked profile instr ask old.changes one two c.in_ok-reason-2.field-0 (Some c.in-Some-2.reason) is c.in_ok-reason-2.ensures c.in-Some-2.is))

pub returns-in-Some-3 : goal.returns-in-Some-3
returns-in-Some-3 c profile instr is =
    let old = c.args.self.now in
    let ask = c.args.ask.now in
    let one = c.ask_early.new.self in
    let two = c.ask_rack.new.self in
    let three = c.ask_slider.new.self in
    let early = early_were_asked profile instr ask old.changes c.as_slice.result.now old one c.in_ok-reason.field-0 None is c.as_slice.ensures.items c.in_ok-reason.ensures c.in_default.is in
    let rack = rack_was_asked profile instr ask old.changes one two c.in_ok-reason-2.field-0 None is c.in_ok-reason-2.ensures c.in_default-2.is in
    let stay : two.changes ≡ old.changes =
    same_changes_after one two (rack_asked instr) None old.changes rack (same_changes_after old one (map plainly_asked (early_of instr)) None old.changes early refl) in
    then_rack profile instr old one three (Some c.in-Some-3.reason) early
    (both_asked one two three (rack_asked instr) (slider_asked (forming_needle instr) ++ (sizes_asked profile.hold instr ++ near_asked profile.float instr)) (Some c.in-Some-3.reason) rack
    (first_stops two three (slider_asked (forming_needle instr)) (sizes_asked profile.hold instr ++ near_asked profile.float instr) c.in-Some-3.reason
    (slider_was_asked profile instr ask old.changes _ two three c.in_ok-reason-3.field-0 (Some c.in-Some-3.reason) is c.as_ref.ensures.value stay c.in_ok-reason-3.ensures.asked c.in-Some-3.is)))

pub returns-in-Some-4 : goal.returns-in-Some-4
returns-in-Some-4 c profile instr is =
    let old = c.args.self.now in
    let ask = c.args.ask.now in
    let one = c.ask_early.new.self in
    let two = c.ask_rack.new.self in
    let three = c.ask_slider.new.self in
    let four = c.ask_sizes.new.self in
    let last = near_asked profile.float instr in
    let early = early_were_asked profile instr ask old.changes c.as_slice.result.now old one c.in_ok-reason.field-0 None is c.as_slice.ensures.items c.in_ok-reason.ensures c.in_default.is in
    let rack = rack_was_asked profile instr ask old.changes one two c.in_ok-reason-2.field-0 None is c.in_ok-reason-2.ensures c.in_default-2.is in
    let stay : two.changes ≡ old.changes =
    same_changes_after one two (rack_asked instr) None old.changes rack (same_changes_after old one (map plainly_asked (early_of instr)) None old.changes early refl) in
    let slider = slider_was_asked profile instr ask old.changes _ two three c.in_ok-reason-3.field-0 None is c.as_ref.ensures.value stay c.in_ok-reason-3.ensures.asked c.in_default-3.is in
    let stays : three.changes ≡ old.changes = same_changes_after two three (slider_asked (forming_needle instr)) None old.changes slider stay in
    then_rack profile instr old one four (Some c.in-Some-4.reason) early
    (both_asked one two four (rack_asked instr) (slider_asked (forming_needle instr) ++ (sizes_asked profile.hold instr ++ last)) (Some c.in-Some-4.reason) rack
    (both_asked two three four (slider_asked (forming_needle instr)) (sizes_asked profile.hold instr ++ last) (Some c.in-Some-4.reason) slider
    (first_stops three four (sizes_asked profile.hold instr) last c.in-Some-4.reason
    (sizes_were_asked profile instr ask old.changes c.as_slice-2.result.now three four c.in_ok-reason-4.field-0 (Some c.in-Some-4.reason) is c.as_slice-2.ensures.items stays c.in_ok-reason-4.ensures c.in-Some-4.is))))

pub returns : goal.returns
returns c =
    IfOk-weaker c.ask_floats.result _ _
    (λ stop asked profile instr is.
    let old = c.args.self.now in
    let ask = c.args.ask.now in
    let one = c.ask_early.new.self in
    let two = c.ask_rack.new.self in
    let three = c.ask_slider.new.self in
    let four = c.ask_sizes.new.self in
    let five = c.ask_floats.new.self in
    let last = near_asked profile.float instr in
    let early = early_were_asked profile instr ask old.changes c.as_slice.result.now old one c.in_ok-reason.field-0 None is c.as_slice.ensures.items c.in_ok-reason.ensures c.in_default.is in
    let rack = rack_was_asked profile instr ask old.changes one two c.in_ok-reason-2.field-0 None is c.in_ok-reason-2.ensures c.in_default-2.is in
    let stay : two.changes ≡ old.changes =
    same_changes_after one two (rack_asked instr) None old.changes rack (same_changes_after old one (map plainly_asked (early_of instr)) None old.changes early refl) in
    let slider = slider_was_asked profile instr ask old.changes _ two three c.in_ok-reason-3.field-0 None is c.as_ref.ensures.value stay c.in_ok-reason-3.ensures.asked c.in_default-3.is in
    let stays : three.changes ≡ old.changes = same_changes_after two three (slider_asked (forming_needle instr)) None old.changes slider stay in
    let sizes = sizes_were_asked profile instr ask old.changes c.as_slice-2.result.now three four c.in_ok-reason-4.field-0 None is c.as_slice-2.ensures.items stays c.in_ok-reason-4.ensures c.in_default-4.is in
    then_rack profile instr old one five stop early
    (both_asked one two five (rack_asked instr) (slider_asked (forming_needle instr) ++ (sizes_asked profile.hold instr ++ last)) stop rack
    (both_asked two three five (slider_asked (forming_needle instr)) (sizes_asked profile.hold instr ++ last) stop slider
    (both_asked three four five (sizes_asked profile.hold instr) last stop sizes
    (floats_were_asked profile instr ask old.changes c.as_slice-3.result.now four five stop is c.as_slice-3.ensures.items asked)))))
    c.ask_floats.ensures
