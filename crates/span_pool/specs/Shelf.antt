-- One class of a pool: how many of its spans are spare, and how many are out.
use Rattle.std.specs.Prelude.{ℕ, ◌+◌, ◌<◌, ◌≤◌, ◌^◌, vec_len, vec_capacity}
use Rattle.std.specs.List.{All}
use Rattle.std.specs.declared.vec.Vec.{Vec}
use Rattle.std.specs.declared.alloc.Global.{Global}

-- how many spans are spare, how many are out, and how many items each has room for
pub record ShelfView : Type 0 where
  pub spare : ℕ
  pub out : ℕ
  pub room : ℕ

module _ {T : Type 0} where
  -- there is room to put back all that is out, and each spare span has its room
  pub record IsShelf (spare : Vec (Vec T Global) Global) (out room : ℕ) : Type 0 where
    pub back : out + vec_len spare ≤ vec_capacity spare
    pub few : out + vec_len spare < 2 ^ 32
    pub spare_rooms : All (λ v. room ≤ vec_capacity v) spare.items
