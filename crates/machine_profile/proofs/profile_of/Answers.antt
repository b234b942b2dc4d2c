use Rattle.std.proofs.Common.{rules, ◌≡◌, None, Option, ◌-ℤ◌, pos}
use Rattle.std.specs.Option.{option_or}
use Rattle.machine_profile.specs.Bounds.{block_option, high_of, hold_of, low_of, option_outside, outside_if_any, rack_option}
use Rattle.machine_profile.specs.declared.Which.{Which}
use Rattle.machine_profile.specs.declared.Which.TheVariants.{Low, High, Rack, Hold, Block, Float}
use Rattle.machine_profile.proofs.profile_of.Goals as goal

all_none : (a b c d e f : Option Which) → a ≡ None → b ≡ None → c ≡ None → d ≡ None → e ≡ None → f ≡ None
    → option_or a (option_or b (option_or c (option_or d (option_or e f)))) ≡ None
all_none a b c d e f p q r s t u = rw (p, q, r, s, t) u

pub returns-clause-refuses : goal.returns-clause-refuses
returns-clause-refuses c =
    let o = c.args.options.now in
    all_none (option_outside Low (pos 0 -ℤ pos 4096) (pos 4096) (low_of o)) (option_outside High (low_of o) (pos 4096) (high_of o)) (option_outside Rack (pos 0) (pos 64) (rack_option o))
    (option_outside Hold (pos 1) (pos 64) (hold_of o)) (option_outside Block (pos 1) (pos 4096) (block_option o)) (outside_if_any Float (pos 1) (pos 8192) o.float)
    (search rules) (search rules) (search rules) (search rules) (search rules) (search rules)
