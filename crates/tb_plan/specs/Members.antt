-- What lists have, whatever their order. This project's own.
use Rattle.std.specs.Prelude.{List, Contains}

-- the same members, in any order and any number
pub record HasSame {X : Type 0} (xs ys : List X) : Type 0 where
  pub into : (x : X) → Contains xs x → Contains ys x
  pub back : (x : X) → Contains ys x → Contains xs x
