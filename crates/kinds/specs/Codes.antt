-- The codes of a kind that knows all 64.
use Rattle.std.specs.Prelude.{ℕ, Bool, nat_lt}

abbrev pub any_code : ℕ → Bool
any_code c = nat_lt c 64
