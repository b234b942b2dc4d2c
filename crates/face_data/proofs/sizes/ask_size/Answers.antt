use Rattle.std.proofs.Common.{rules, ◌≡◌, ◌+◌, ◌-◌, pos, ◌-ℤ◌, ◌∙◌, ap, take, w16}
use Rattle.std.proofs.lemmas.Int.{to_z-of_z}
use Rattle.std.proofs.lemmas.List.{take_all}
use Rattle.face_data.specs.Segments.{names_through, new_through}
use Rattle.face_data.proofs.SizeConditions.{unmet-now}
use Rattle.face_data.proofs.sizes.ask_size.Goals as goal

pub returns : goal.returns
returns c =
    let all : take c.loop-n.n-index c.args.needles.now ≡ c.args.needles.now = take_all c.loop-n.n-index c.args.needles.now c.loop-n-test.false in
    let entries : c.loop-n.entries ≡ names_through c.args.segments.now c.args.needles.now = c.loop-n.invariant.entries ∙ ap (names_through c.args.segments.now) all in
    let room : c.loop-n.room ≡ (c.args.most + 1) - new_through c.args.segments.now c.args.needles.now =
    c.loop-n.invariant.room ∙ ap (λ ns. (c.args.most + 1) - new_through c.args.segments.now ns) all in
    record {
      is = λ i. record { reason = c.args.reason; entries = entries i; max = (to_z-of_z w16 c.max_of.result (search rules) ∙ c.max_of.ensures ∙ ap (λ n. pos n -ℤ pos 1) room) i };
      entries = entries;
      unmet = λ s t first read. unmet-now c.args.segments.now s t first c.args.needles.now c.loop-n.entries c.args.most c.loop-n.room _ c.args.reason read entries room (to_z-of_z w16 c.max_of.result (search rules) ∙ c.max_of.ensures);
    }
